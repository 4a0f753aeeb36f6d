-- In the worked tables a server receives.
use Rattle.std.specs.Prelude.{◌≡◌, ℕ, zero, suc, ◌<◌, ◌^◌, Bool, true, false, if◌then◌else◌, ◌==◌, [], ◌∷◌, Option, Some, None, slice_get, refl}
use Rattle.std.specs.Option.{option_map_or}
use Rattle.std.proofs.Common.{sym, ap, ◌∙◌, arith}
use Rattle.std.proofs.lemmas.Option.{none-some}
use Rattle.iox_model.specs.declared.kind.Role.{Role}
use Rattle.iox_model.specs.declared.kind.Role.TheVariants.{Client, Server}
use Rattle.iox_model.specs.Commands.{Reply}
use Rattle.iox_model.specs.Settings.{other_role}
use Rattle.iox_model.specs.States as m
use Rattle.iox_model.specs.Messages.{request_way}
use Rattle.iox_lanes.specs.Lanes.{LaneState}
use Rattle.iox_lanes.specs.Pipes.{PipeState, new_pipe}
use Rattle.iox_tables.specs.HubStates.Tables.{PortState, pipe_from, pipes_of}
use Rattle.iox_tables.specs.HubStates.Wirings.{HaveLimits, IsServer, IsWired, limit_from, role_in}
use Rattle.iox_tables.specs.HubStates.Worked.{ServerReceivesOnce, one_of_each, one_request, port_with, requests}
use Rattle.iox_tables.proofs.HubStates.Serving.{servers_receive}

-- ---- each lane has the limit 1

limit_one : (role : Role) → 1 ≡ limit_from one_of_each role
limit_one Client = refl
limit_one Server = refl

in_lanes : (k : LaneState) → k.limit ≡ 1 → (j : ℕ) (l : LaneState) → slice_get (k ∷ []) j ≡ Some l → l.limit ≡ 1
in_lanes k e zero l is = ap (λ (o : Option LaneState). option_map_or (λ m. m.limit) o 1) (sym is) ∙ e
in_lanes k e (suc j) l is = absurd (none-some l is)

in_pipe : (b : Bool) (p : PipeState) (k : LaneState) → p.lanes ≡ k ∷ [] → k.limit ≡ 1 → (j : ℕ) (l : LaneState)
    → slice_get (option_map_or (λ q. q.lanes) (if b then Some p else None) []) j ≡ Some l → l.limit ≡ 1
in_pipe true p k e h j l is = in_lanes k h j l (sym (ap (λ ls. slice_get ls j) e) ∙ is)
in_pipe false p k e h j l is = absurd (none-some l is)

abbrev client : PortState
client = port_with 0 Client (new_pipe 1 1 1 1 1 0)

abbrev the_server : PortState
the_server = port_with 1 Server requests

in_port : (a b : Bool) (k j : ℕ) (l : LaneState)
    → slice_get (option_map_or (λ q. q.lanes) (pipe_from (option_map_or pipes_of (if a then Some client else (if b then Some the_server else None)) []) k) []) j ≡ Some l
    → l.limit ≡ 1
in_port true b k j l is = in_pipe (1 == k) (new_pipe 1 1 1 1 1 0) _ refl refl j l is
in_port false true k j l is = in_pipe (0 == k) requests _ refl refl j l is
in_port false false k j l is = absurd (none-some l is)

limits : HaveLimits one_request
limits w l is = in_port (0 == w.receiver) (1 == w.receiver) w.sender w.lane l is ∙ limit_one (other_role (role_in one_request.ports w.receiver))

-- ---- the receive

abbrev server : IsServer one_request 0 1
server = record { port = the_server; there = refl; on_node = refl; server = refl; held = refl }

wired : IsWired one_request the_server
wired = record { senders = refl; apart = (refl, tt); none_kept = λ e h. refl }

few_calls : 2 < 2 ^ 56
few_calls = omega arith

pub server_receives_once : ServerReceivesOnce
server_receives_once x =
    let e = servers_receive x one_request 0 1 server wired limits few_calls in (
      refl,
      server,
      wired,
      limits,
      few_calls,
      ap (λ (a : Reply × m.State). a.0) e,
      ap (λ (a : Reply × m.State). a.1.waiting (request_way 0 1)) e,
      ap (λ (a : Reply × m.State). a.1.fixed.borrowed (request_way 0 1)) e,
    )
