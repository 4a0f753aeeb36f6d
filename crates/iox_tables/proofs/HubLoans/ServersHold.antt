-- In the worked tables a server lends and copies, and its client finds its pool dry.
use Rattle.std.specs.Prelude.{◌≡◌, ℕ, zero, suc, ◌<◌, Bool, true, false, ◌||◌, if◌then◌else◌, ◌==◌, List, [], ◌∷◌, Option, Some, None, slice_get, refl}
use Rattle.std.specs.Option.{option_map_or}
use Rattle.std.proofs.Common.{sym, ap, subst, ◌∙◌, true≢false, eqb-true, arith, inl, inr}
use Rattle.std.proofs.lemmas.Option.{none-some}
use Rattle.iox_model.specs.declared.kind.Kind.TheVariants.{ActiveRequest, PendingResponse}
use Rattle.iox_model.specs.declared.kind.Role.TheVariants.{Server}
use Rattle.iox_model.specs.Commands.{Reply}
use Rattle.iox_model.specs.Maps.{has_number}
use Rattle.iox_model.specs.States as m
use Rattle.iox_laws.proofs.WeaveLaws.MapLemmas.{eqb-refl}
use Rattle.iox_lanes.specs.Lanes.{LaneState, empty_lane}
use Rattle.iox_lanes.specs.Pipes.{PipeState, new_pipe}
use Rattle.iox_tables.specs.HubStates.Tables.{HubTables, pipe_from, pipes_of, pipes_to}
use Rattle.iox_tables.specs.HubStates.Ways.{lane_on, lanes_from}
use Rattle.iox_tables.specs.HubStates.States.{Given, message_of}
use Rattle.iox_tables.specs.HubStates.Changes.{HasEachOnce, OfEachLane}
use Rattle.iox_tables.specs.HubStates.Steps.{places_on}
use Rattle.iox_tables.specs.HubStates.Sends.{MaySendFrom}
use Rattle.iox_tables.specs.HubStates.Wirings.{IsHandle}
use Rattle.iox_tables.specs.HubLoans.CopySends.{IsCopyToMake, copy_sending, with_copy, with_words}
use Rattle.iox_tables.specs.HubLoans.Counts.{AreOnNodes}
use Rattle.iox_tables.specs.HubLoans.Lenders.{IsActive, IsClient, IsLender, Lender, lender_of_request}
use Rattle.iox_tables.specs.HubLoans.Loans.{MayTakeLoan, loaned_handle}
use Rattle.iox_tables.specs.HubLoans.Pools.{CarriesIts, KeepsItsOwn, is_slot_kept, serial_in}
use Rattle.iox_tables.specs.HubLoans.Slots.{IsOnNoLane}
use Rattle.iox_tables.specs.HubLoans.Worked.{first_lane, no_words, the_client}
use Rattle.iox_tables.specs.HubLoans.WorkedServers.{BothAreConnected, ClientFindsDryPool, ServerCopiesOnce, ServerLendsOnce, answering_six, handle_with, received_once, responder, taken_lane, taken_pipe, the_server}
use Rattle.iox_tables.proofs.HubLoans.Asked.{connections_are_told, hints_are_told}
use Rattle.iox_tables.proofs.HubLoans.CopyCalls.{copies_are_sent_over}
use Rattle.iox_tables.proofs.HubLoans.Loaning.{loans_are_made, loans_find_dry_pools}

-- ---- lanes

abbrev pipe_to_client : PipeState
pipe_to_client = new_pipe 1 1 1 1 1 0

-- what is so of the only lane
in_list : (P : LaneState → Type 0) (k : LaneState) → P k → (j : ℕ) (l : LaneState) → slice_get (k ∷ []) j ≡ Some l → P l
in_list P k so zero l is = subst P (ap (λ (o : Option LaneState). option_map_or (λ m. m) o k) is) so
in_list P k so (suc j) l is = absurd (none-some l is)

-- what is so of both lanes is so of each
module _ (P : LaneState → Type 0) (of_server : P taken_lane) (of_client : P (empty_lane 1 1 1)) where
  in_pipe : (b : Bool) (p : PipeState) (k : LaneState) → p.lanes ≡ k ∷ [] → P k → (j : ℕ) (l : LaneState)
      → slice_get (option_map_or (λ q. q.lanes) (if b then Some p else None) []) j ≡ Some l → P l
  in_pipe true p k e so j l is = in_list P k so j l (sym (ap (λ ls. slice_get ls j) e) ∙ is)
  in_pipe false p k e so j l is = absurd (none-some l is)

  in_port : (a b : Bool) (k j : ℕ) (l : LaneState)
      → slice_get (option_map_or (λ q. q.lanes) (pipe_from (option_map_or pipes_of (if a then Some the_client else (if b then Some the_server else None)) []) k) []) j ≡ Some l
      → P l
  in_port true b k j l is = in_pipe (1 == k) pipe_to_client (empty_lane 1 1 1) refl of_client j l is
  in_port false true k j l is = in_pipe (0 == k) taken_pipe taken_lane refl of_server j l is
  in_port false false k j l is = absurd (none-some l is)

  each_lane : OfEachLane P (lane_on received_once.ports)
  each_lane w l is = in_port (0 == w.receiver) (1 == w.receiver) w.sender w.lane l is

differ : (a b : ℕ) → a ≡ b → (a == b) ≡ false → ⊥
differ a b e other = true≢false (sym (eqb-refl b) ∙ ap (λ j. j == b) (sym e) ∙ other)

on_none : IsOnNoLane received_once 1 0
on_none = each_lane (λ l. l.pool ≡ 1 → has_number 0 (places_on l) ≡ false) (λ e. absurd (differ 0 1 e refl)) (λ e. refl)

once : (x : Given) (t : HubTables) → OfEachLane (HasEachOnce (message_of x t.pools)) (lane_on received_once.ports)
once x t = each_lane (HasEachOnce (message_of x t.pools)) (refl, tt) tt

-- ---- the server

named : IsHandle received_once 0 3 (handle_with 3 ActiveRequest 1)
named = record { there = refl; no_port = refl }

abbrev active : IsActive received_once 0 3
active = record { handle = handle_with 3 ActiveRequest 1; named = named; kind = refl; port = the_server; there = refl; server = refl }

lends : IsLender received_once 0 3 0 responder
lends = inr (active, refl)

on_nodes : AreOnNodes received_once
on_nodes = (record { port = the_client; there = refl; node = refl }, (record { port = the_server; there = refl; node = refl }, tt))

takes : MayTakeLoan no_words received_once the_server 0
takes = record {
  once = once no_words received_once;
  dry = refl;
  pool = record { owner = refl; node_id = refl; port_id = refl };
  there = (_, refl);
  unused = record { lanes = on_none; handles = refl };
}

abbrev default_word : List ℕ
default_word = 0 ∷ []

never_empty : false ≡ true → default_word ≡ []
never_empty e = absurd (true≢false (sym e))

pub server_lends_once : ServerLendsOnce
server_lends_once = (
  lends,
  on_nodes,
  refl,
  takes,
  ap (λ (a : Reply × m.State). a.0) (loans_are_made no_words received_once 0 3 1 false first_lane (0 ∷ []) responder 0 lends on_nodes refl refl takes never_empty),
)

-- ---- the client

abbrev client : IsClient received_once 0 0
client = record { port = the_client; there = refl; on_node = refl; client = refl; held = refl }

abbrev next_lender : Lender
next_lender = lender_of_request the_client 0

below_one : 0 < 1
below_one = omega arith

-- only slot 0 is kept
only_first : (k : ℕ) → is_slot_kept received_once the_client k ≡ true → k ≡ 0
only_first k e = sym (eqb-true 0 k (step (0 == k) e))
  where
    step : (b : Bool) → ((b || false) || ((b || false) || false)) ≡ true → b ≡ true
    step true is = refl
    step false is = is

-- a lane from the client has its message
from_client : (a b : Bool) (j : ℕ) (l : LaneState)
    → slice_get (option_map_or (λ q. q.lanes) (pipe_from (option_map_or pipes_of (if a then Some the_client else (if b then Some the_server else None)) []) 0) []) j ≡ Some l
    → CarriesIts the_client l
from_client true b j l is = absurd (none-some l is)
from_client false true j l is = in_list (CarriesIts the_client) taken_lane (refl, taken_places) j l is
  where
    taken_places : (k : ℕ) → has_number k (places_on taken_lane) ≡ true → k < 1
    taken_places k e = subst (λ (i : ℕ). i < 1) (eqb-true 0 k (step (0 == k) e)) below_one
      where
        step : (b : Bool) → (b || false) ≡ true → b ≡ true
        step true is = refl
        step false is = is
from_client false false j l is = absurd (none-some l is)

keeps : KeepsItsOwn received_once the_client
keeps = record {
  handles = (λ port own. (refl, below_one), (λ port own. absurd (true≢false (sym own)), tt));
  lanes = λ w l is from.
      from_client (0 == w.receiver) (1 == w.receiver) w.lane l
      (sym (ap (λ s. slice_get (lanes_from (pipes_to received_once.ports w.receiver) s) w.lane) from) ∙ is);
  apart = λ j k ej ek e. only_first j ej ∙ sym (only_first k ek);
  below = λ k e. subst (λ i. serial_in received_once the_client i < 1) (sym (only_first k e)) below_one;
}

pub client_finds_dry_pool : ClientFindsDryPool
client_finds_dry_pool = (
  next_lender,
  inl (client, refl),
  refl,
  keeps,
  refl,
  ap (λ (a : Reply × m.State). a.0)
      (loans_find_dry_pools no_words received_once 0 0 1 true first_lane (0 ∷ []) next_lender (inl (client, refl)) on_nodes refl refl (once no_words received_once) refl),
)

-- ---- the copy

copies : IsCopyToMake no_words received_once 0 3 1 answering_six first_lane responder 0
copies = record { lender = lends; nodes = on_nodes; role = refl; elements = refl; passes = refl; memory = refl; takes = takes }

abbrev copy_words : Given
copy_words = with_words no_words received_once responder 0 (6 ∷ [])

abbrev with_the_copy : HubTables
with_the_copy = with_copy received_once responder 1 0

may_send : MaySendFrom copy_words with_the_copy (copy_sending Server copy_words with_the_copy (loaned_handle received_once responder false 0)) 1 0
may_send = record {
  message = refl;
  apart = (refl, tt);
  states_apart = tt;
  once = once copy_words with_the_copy;
  lanes = ((_, refl, record { open_to = record { of_pool = refl; sender = refl; buffer = refl }; once = (refl, tt) }), tt);
  states = tt;
}

pub server_copies_once : ServerCopiesOnce
server_copies_once = (
  copies,
  refl,
  may_send,
  ap (λ (a : Reply × m.State). a.0)
      (copies_are_sent_over no_words received_once 0 3 1 answering_six first_lane (0 ∷ []) responder 0 copies refl refl may_send),
)

-- ---- questions

pub both_are_connected : BothAreConnected
both_are_connected = (
  ap (λ (a : Reply × m.State). a.0)
      (connections_are_told no_words received_once 0 2 (handle_with 2 PendingResponse 0) first_lane (0 ∷ []) (record { there = refl; no_port = refl }) refl refl),
  ap (λ (a : Reply × m.State). a.0) (connections_are_told no_words received_once 0 3 (handle_with 3 ActiveRequest 1) first_lane (0 ∷ []) named refl refl),
  ap (λ (a : Reply × m.State). a.0) (hints_are_told no_words received_once 0 3 (handle_with 3 ActiveRequest 1) first_lane (0 ∷ []) named refl),
)
