-- In the worked tables a client and a server are made, and the client goes.
use Rattle.std.specs.Prelude.{◌≡◌, ℕ, zero, suc, Bool, true, false, if◌then◌else◌, ◌==◌, [], ◌∷◌, Some, None, slice_get, refl}
use Rattle.std.specs.Option.{option_map_or}
use Rattle.std.proofs.Common.{sym, ap, ◌∙◌, true≢false}
use Rattle.std.proofs.lemmas.Option.{none-some}
use Rattle.iox_model.specs.declared.kind.Role.TheVariants.{Client, Server}
use Rattle.iox_laws.proofs.WeaveLaws.MapLemmas.{eqb-refl}
use Rattle.iox_laws.specs.WorkedExamples.Examples.{of_length_one, process}
use Rattle.iox_lanes.specs.Lanes.{LaneState}
use Rattle.iox_lanes.specs.Pipes.{new_pipe}
use Rattle.iox_tables.specs.HubStates.Tables.{HubTables, PoolState, PortState, pipe_from, pipes_of, pool_at, port_in, senders_of}
use Rattle.iox_tables.specs.HubStates.States.{Given, expired_in}
use Rattle.iox_tables.specs.HubStates.Steps.{is_there}
use Rattle.iox_tables.specs.HubStates.Worked.{one_of_each, one_request, port_with, requests}
use Rattle.iox_tables.specs.HubMaking.FreePools.{NobodyHas, OthersStay}
use Rattle.iox_tables.specs.HubMaking.NewPorts.{CanTakePort, connected_from, pool_made}
use Rattle.iox_tables.specs.HubMaking.Starts.{no_ports}
use Rattle.iox_tables.specs.HubMaking.Wires.{AreConnected}
use Rattle.iox_tables.specs.HubMaking.Worked.{OneOfEachIsMade, RequestsGoWithClients, after_one, after_two, at_first, one_left, one_port, the_client, the_server, two_pools, two_ports}
use Rattle.iox_tables.proofs.HubMaking.Commanding.{each_making_is_shown}
use Rattle.iox_tables.proofs.HubMaking.Disconnecting.{disconnections_are_shown}
use Rattle.iox_tables.proofs.HubMaking.Ending.{ports_end}
use Rattle.iox_tables.proofs.HubMaking.Keeping.{with_alike}
use Rattle.iox_tables.specs.HubBooks.Worked.{with_holders}
use Rattle.iox_tables.proofs.HubBooks.WorkedHolds.{two_have_the_request}
use Rattle.iox_tables.proofs.HubKeeping.Ordered.{connected_may_go, order_is_ready_for_ports}
use Rattle.iox_tables.proofs.HubKeeping.Starting.{starts_are_in_order}
use Rattle.iox_tables.proofs.HubKeeping.WorkedKeeps.{two_ports_are_in_order}
use Rattle.iox_tables.proofs.HubMaking.Pooling.{free_pools_may_go}
use Rattle.iox_tables.proofs.HubMaking.Starting.{each_start_is_shown}

-- ---- pools

-- one port to which no pipe comes
no_lane : (b : Bool) (p : PortState) → pipes_of p ≡ [] → (s j : ℕ) (l : LaneState)
    → slice_get (option_map_or (λ q. q.lanes) (pipe_from (option_map_or pipes_of (if b then Some p else None) []) s) []) j ≡ Some l → ⊥
no_lane true p none s j l e = none-some l (sym (ap (λ ps. slice_get (option_map_or (λ q. q.lanes) (pipe_from ps s) []) j) none) ∙ e)
no_lane false p none s j l e = none-some l e

nobody_has : NobodyHas one_port 1
nobody_has = record {
  lanes = λ w l k e h. absurd (no_lane (0 == w.receiver) (connected_from one_of_each [] the_client) refl w.sender w.lane l e);
  handles = tt;
}

-- the server, once it is alone
abbrev alone : PortState
alone = option_map_or (λ p. p) (port_in one_left.ports 1) the_server

nobody_is_left : NobodyHas one_left 0
nobody_is_left = record {
  lanes = λ w l k e h. absurd (no_lane (1 == w.receiver) alone refl w.sender w.lane l e);
  handles = tt;
}

first_place : (words : Given) (pool : PoolState) → OthersStay 0 words [] words (Some pool ∷ [])
first_place words pool = record { pools = stay; user = λ q k e. refl; payload = λ q k e. refl; filled = λ q k e. refl }
  where
    stay : (q : ℕ) → (q == 0) ≡ false → pool_at [] q ≡ pool_at (Some pool ∷ []) q
    stay zero e = absurd (true≢false (sym (eqb-refl 0) ∙ e))
    stay (suc q) e = refl

second_place : (words : Given) (a b : PoolState) → OthersStay 1 words (Some a ∷ []) words (Some a ∷ Some b ∷ [])
second_place words a b = record { pools = stay; user = λ q k e. refl; payload = λ q k e. refl; filled = λ q k e. refl }
  where
    stay : (q : ℕ) → (q == 1) ≡ false → pool_at (Some a ∷ []) q ≡ pool_at (Some a ∷ Some b ∷ []) q
    stay zero e = refl
    stay (suc zero) e = absurd (true≢false (sym (eqb-refl 1) ∙ e))
    stay (suc (suc q)) e = refl

pub one_of_each_is_made : OneOfEachIsMade
one_of_each_is_made = record {
  client = (each_making_is_shown at_first (no_ports one_of_each) 0 Client (process 1) of_length_one).made true 0 at_first (Some (pool_made the_client) ∷ []) refl
      (order_is_ready_for_ports (no_ports one_of_each) (starts_are_in_order one_of_each)).takes ((each_start_is_shown at_first one_of_each).free 0) (first_place at_first (pool_made the_client));
  server = (each_making_is_shown after_one one_port 0 Server (process 1) of_length_one).made true 1 after_one two_pools refl
      (order_is_ready_for_ports one_port two_ports_are_in_order.0).takes nobody_has (second_place after_one (pool_made the_client) (pool_made the_server));
  to_client = refl;
  to_server = refl;
  no_more = refl;
  used = refl;
  released = ports_end after_two two_ports 0 0 _ refl refl refl (refl, (refl, tt)) (connected_may_go two_ports 0 two_ports_are_in_order.1 refl);
  left = refl;
  nothing_comes = refl;
  pool_goes = free_pools_may_go after_two one_left 0 nobody_is_left;
}

-- ---- a request that waits

pub requests_go_with_clients : RequestsGoWithClients
requests_go_with_clients x = record {
  shown = disconnections_are_shown x one_request 0 (with_alike (with_holders 2) 0 (connected_may_go (with_holders 2) 0 two_have_the_request.0 refl) one_request refl refl);
  waited = refl;
  gone = refl;
  open_before = refl;
  closed = refl;
}
