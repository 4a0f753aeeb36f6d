-- What the end of a call is told, ending by ending; and the lanes of a client at rest.
use Rattle.std.specs.Prelude.{filter, map, not, ◌&&◌, ◌||◌, ◌++◌, ◌<◌, ◌≤◌, nat_lt}
use Rattle.std.specs.List.{list_any}
use Rattle.std.proofs.Common.{◌≡◌, ℕ, ◌+◌, Bool, true, false, if◌then◌else◌, ◌==◌, List, [], ◌∷◌, Some, refl, ap, sym, subst, ◌∙◌, arith, true≢false}
use Rattle.iox_model.specs.declared.kind.Kind.TheVariants as kinds
use Rattle.iox_model.specs.Handles.{has_lane, is_request_loan, same_kind}
use Rattle.iox_model.specs.Maps.{has_number}
use Rattle.iox_model.specs.Peers.{lanes_of, port_at}
use Rattle.iox_model.specs.Settings.{is_client}
use Rattle.iox_model.specs.States.{Handle, Port, State}
use Rattle.iox_laws.proofs.WeaveLedger.Lists.{among-number, find-among, map-among}
use Rattle.iox_wire_steps.specs.MomentsOf.{Pools}
use Rattle.iox_wire_steps.specs.Ending.{Ending}
use Rattle.iox_wire_steps.specs.Ending.TheVariants as endings
use Rattle.iox_wire_steps.specs.Local.TheVariants.{Ends, Idle}
use Rattle.iox_wire_steps.specs.Seat.{Seat}
use Rattle.iox_wire_steps.specs.Entry.{Entry}
use Rattle.iox_wire_steps.specs.Known.{free_lanes, known, told_handle}
use Rattle.iox_wire_steps.specs.Tables.{Setting}
use Rattle.iox_wire_steps.specs.Readiness.{LanesFit}
use Rattle.iox_wire_steps.specs.SentStates.{HasOpened}
use Rattle.iox_wire_steps.specs.SlotsKnown.{IsPortOfSeat}
use Rattle.iox_wire_steps.specs.Uses.{how_often}
use Rattle.iox_wire_steps.proofs.Counting.{none_used, used}
use Rattle.iox_wire_steps.specs.Following.{Sent, message_at}
use Rattle.iox_wire_steps.specs.Stands.{AreNumbered}
use Rattle.iox_wire_steps.specs.Over.{CallIsOver, EndIsTold, EndsWith}
use Rattle.iox_wire_calls.specs.EndsTold.{EndsAreTold, HeaderIsTold, LanesFitAtRest}
use Rattle.iox_wire_calls.specs.Lanes.{AllLanesAreCounted, has_own_lane, lanes_in, lanes_used, lent_in}
use Rattle.iox_wire_calls.specs.Places.{CallFits, PlaceFits, SuitsPort}
use Rattle.iox_wire_calls.proofs.EndsTold.{at_end, received, states, written}
use Rattle.iox_wire_calls.proofs.HandleKinds.{loans_are_filled}
use Rattle.iox_wire_calls.proofs.LaneEnds.{ended_message}
use Rattle.iox_wire_calls.proofs.LaneCounts.{of_clients}
use Rattle.iox_wire_calls.proofs.LaneLists.{both, often, one}
use Rattle.iox_wire_calls.proofs.LanesTell.{in_table, lane_of_client, lanes_are_the_pools, low, one_is, request_has, there_is}

-- ---- ends

module _ (p : Setting) (held : Pools) (s : State) (x : Seat) (numbered : AreNumbered p) (ports : s.fixed.ports ≡ map p.port p.layout.sizes.ports) (fits : CallFits p x) (all : AllLanesAreCounted p x) where
  module _ (e : Entry) (copied : Bool) (count : ℕ) (over : CallIsOver p held s x (endings.Sends e copied count)) (request : is_request_loan e.kind ≡ true) where
    abbrev Suited : Ending → Type 0
    Suited (endings.Sends k made number) = is_request_loan k.kind ≡ true → SuitsPort p x k.port k.kind
    Suited ending = Unit {0}

    suited : (ending : Ending) → PlaceFits p x (Ends ending) → Suited ending
    suited (endings.Sends k made number) is = λ asked. absurd (true≢false (sym asked ∙ is.1))
    suited ending is = tt

    suits : SuitsPort p x e.port e.kind
    suits =
        at_end p held s x Suited (λ ending at. suited ending (subst (PlaceFits p x) at fits.place))
        (λ d last number at asked. (subst (PlaceFits p x) at fits.place).1) (endings.Sends e copied count) over.at_end request

    -- its lane is in use
    some : (made : Bool) → EndsWith p s.fixed x (endings.Sends e made count)
        → 1 ≤ often e.port e.lane (lent_in (Sent e made)) + often e.port e.lane x.table
    some true has = more _ (often e.port e.lane x.table) (one_is e.port e (request_has e.kind request) refl)
      where
        more : (i b : ℕ) → i ≡ 1 → 1 ≤ i + b
        more i b is = omega (arith, is)
    some false has = more (often e.port e.lane x.table) (there_is e.port e x.table (in_table x e has) (request_has e.kind request) refl)
      where
        more : (b : ℕ) → 1 ≤ b → 1 ≤ 0 + b
        more b is = omega (arith, is)

    counted : 1 ≤ how_often e.lane (lanes_used x e.port)
    counted =
        subst (λ k. 1 ≤ k)
        (sym (both e.port e.lane (lent_in (Sent e copied)) x.table)
        ∙ ap (λ m. how_often e.lane (lanes_in e.port (lent_in m ++ x.table)))
        (sym (ended_message p held s x (endings.Sends e copied count) fits over all x.local over.at_end)))
        (some copied over.message)

    on_lane : e.lane < lanes_of s.fixed e.port
    on_lane =
        subst (λ k. e.lane < k) (sym (lanes_are_the_pools p s.fixed e.port numbered ports suits.0.0))
        (low p x all e.port suits.0 (lane_of_client (p.port e.port).role e.kind suits.1 (request_has e.kind request)) e.lane counted)

  told : (ending : Ending) → CallIsOver p held s x ending → HasOpened s.request_state x.local → HeaderIsTold p held ending → EndIsTold p held s x ending
  told (endings.Fills e words) over opened header =
      loans_are_filled (p.port e.port).role e.kind (fits.handles e over.message).1 (written p held s x fits.place e words over.at_end)
  told (endings.Sends e copied count) over opened header =
      λ request. (on_lane e copied count over request, states p held s x fits.place opened e copied count over.at_end request)
  told (endings.Receives v w slot header) over opened tells = (λ client. received p held s x fits.place v w slot header over.at_end client, tells)
  told ending over opened header = tt

pub ends_are_told : EndsAreTold
ends_are_told p held s x ending numbered ports over opened fits all header = told p held s x numbered ports fits all ending over opened header

-- ---- at rest

-- the machine's question is whether the lane is among those in use
lanes_asked : (p : Setting) (node port lane : ℕ) (es : List Entry)
    → list_any (λ (h : Handle). (is_request_loan h.kind || same_kind h.kind kinds.PendingResponse) && (h.lane == lane))
    (filter (λ (h : Handle). h.port == port) (map (told_handle p node) es))
    ≡ has_number lane (lanes_in port es)
lanes_asked p node port lane [] = refl
lanes_asked p node port lane (e ∷ es) = by_tests (has_own_lane e.kind) (e.port == port) refl refl (lanes_asked p node port lane es)
  where
    by_tests : (a b : Bool) → has_own_lane e.kind ≡ a → (e.port == port) ≡ b
        → list_any (λ (h : Handle). (is_request_loan h.kind || same_kind h.kind kinds.PendingResponse) && (h.lane == lane))
        (filter (λ (h : Handle). h.port == port) (map (told_handle p node) es))
        ≡ has_number lane (lanes_in port es)
        → list_any (λ (h : Handle). (is_request_loan h.kind || same_kind h.kind kinds.PendingResponse) && (h.lane == lane))
        (if e.port == port then told_handle p node e ∷ filter (λ (h : Handle). h.port == port) (map (told_handle p node) es)
        else filter (λ (h : Handle). h.port == port) (map (told_handle p node) es))
        ≡ has_number lane (map (λ (k : Entry). k.lane) (if has_own_lane e.kind && (e.port == port)
        then e ∷ filter (λ (k : Entry). has_own_lane k.kind && (k.port == port)) es else filter (λ (k : Entry). has_own_lane k.kind && (k.port == port)) es))
    by_tests true true own at rest = rw at (rw own (ap (λ r. (e.lane == lane) || r) rest))
    by_tests true false own at rest = rw at (rw own rest)
    by_tests false true own at rest = rw at (rw own rest)
    by_tests false false own at rest = rw at (rw own rest)

-- free exactly if of the pool and not in use
free_if : (lane : ℕ) (free in_use : List ℕ) (low : Bool) → how_often lane free + how_often lane in_use ≡ (if low then 1 else 0)
    → has_number lane free ≡ (low && not (has_number lane in_use))
free_if lane free in_use low is = by_use low (has_number lane free) (has_number lane in_use) (none_used lane free) (none_used lane in_use) is
  where
    by_use : (low f u : Bool) → (how_often lane free == 0) ≡ not f → (how_often lane in_use == 0) ≡ not u
        → how_often lane free + how_often lane in_use ≡ (if low then 1 else 0) → f ≡ (low && not u)
    by_use true true true one two is = absurd (two_many (how_often lane free) (how_often lane in_use) one two is)
      where
        two_many : (a b : ℕ) → (a == 0) ≡ false → (b == 0) ≡ false → a + b ≡ 1 → ⊥
        two_many a b one two is = grind (arith)
    by_use true true false one two is = refl
    by_use true false true one two is = refl
    by_use true false false one two is = absurd (too_few (how_often lane free) (how_often lane in_use) one two is)
      where
        too_few : (a b : ℕ) → (a == 0) ≡ true → (b == 0) ≡ true → a + b ≡ 1 → ⊥
        too_few a b one two is = grind (arith)
    by_use false true u one two is = absurd (none (how_often lane free) (how_often lane in_use) one is)
      where
        none : (a b : ℕ) → (a == 0) ≡ false → a + b ≡ 0 → ⊥
        none a b one is = grind (arith)
    by_use false false u one two is = refl

module _ (p : Setting) (x : Seat) (n : ℕ) (q : Port) (numbered : AreNumbered p) (all : AllLanesAreCounted p x) (rests : x.local ≡ Idle)
    (there : port_at (known p x) n ≡ Some q) (owner : p.layout.owner q.number ≡ x.node) (client : is_client q.role ≡ true) where
  from : (k : ℕ) × (has_number k p.layout.sizes.ports ≡ true) × (q ≡ p.port k)
  from =
      let at = map-among p.port q p.layout.sizes.ports (find-among (λ (r : Port). r.number == n) q (map p.port p.layout.sizes.ports) there).0 in
      (at.0, among-number at.0 p.layout.sizes.ports at.1, at.2)

  number : q.number ≡ from.0
  number = ap (λ (r : Port). r.number) from.2 ∙ numbered from.0 from.1

  set : p.port q.number ≡ q
  set = ap p.port number ∙ sym from.2

  home : IsPortOfSeat p x q.number
  home = (subst (λ k. has_number k p.layout.sizes.ports ≡ true) (sym number) from.1, owner)

  client_there : is_client (p.port q.number).role ≡ true
  client_there = ap (λ (r : Port). is_client r.role) set ∙ client

  none : lent_in (message_at x.local) ≡ []
  none = ap (λ l. lent_in (message_at l)) rests

  asked : (lane : ℕ) → has_lane (known p x) q.number lane ≡ has_number lane (lanes_in q.number x.table)
  asked lane = lanes_asked p x.node q.number lane x.table

  each_lane : (lane : ℕ) → how_often lane (free_lanes x q.number) + how_often lane (lanes_in q.number x.table) ≡ (if nat_lt lane q.pool then 1 else 0)
  each_lane lane =
      subst (λ es. how_often lane (free_lanes x q.number) + how_often lane (lanes_in q.number (es ++ x.table)) ≡ (if nat_lt lane q.pool then 1 else 0)) none
      (subst (λ (r : Port). how_often lane (free_lanes x q.number) + how_often lane (lanes_used x q.number) ≡ (if nat_lt lane r.pool then 1 else 0)) set
      (of_clients p x all q.number home client_there lane))

  fit : LanesFit p x q
  fit = record {
    free = λ lane.
        free_if lane (free_lanes x q.number) (lanes_in q.number x.table) (nat_lt lane q.pool) (each_lane lane)
        ∙ ap (λ b. nat_lt lane q.pool && not b) (sym (asked lane));
    taken = λ lane is.
        subst (λ (r : Port). lane < r.pool) set
        (low p x all q.number home client_there lane
        (subst (λ es. 1 ≤ how_often lane (lanes_in q.number (es ++ x.table))) (sym none) (used lane (lanes_in q.number x.table) (sym (asked lane) ∙ is))));
  }

pub lanes_fit_at_rest : LanesFitAtRest
lanes_fit_at_rest p x n q numbered all rests there owner client = fit p x n q numbered all rests there owner client
