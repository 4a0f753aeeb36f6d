-- What may be sent as a loan may be sent as a copy.
use Rattle.std.specs.Prelude.{◌≡◌, ℕ, ◌+◌, Bool, true, false, if◌then◌else◌, ◌==◌, List, [], ◌∷◌, map, filter, Option, Some, None, is_some, refl}
use Rattle.std.specs.Option.{option_map, option_map_or}
use Rattle.std.proofs.Common.{sym, ap, subst, ◌∙◌}
use Rattle.iox_model.specs.declared.kind.Role.{Role}
use Rattle.iox_model.specs.declared.kind.Role.TheVariants.{Client, Server}
use Rattle.iox_model.specs.declared.way.RequestState.{RequestState}
use Rattle.iox_model.specs.declared.way.Way.{Way}
use Rattle.iox_model.specs.Doings.{Sending}
use Rattle.iox_model.specs.Maps.{AreDistinctWays}
use Rattle.iox_model.specs.Requests.{targets, to_open}
use Rattle.iox_model.specs.Settings.{same_role}
use Rattle.iox_lanes.specs.Lanes.{LaneState}
use Rattle.iox_tables.specs.HubStates.Tables.{HandleState, HubTables, PortState, pipes_of, port_in}
use Rattle.iox_tables.specs.HubStates.Ways.{OnWays, lane_by, lane_on, state_by, state_on, with_port}
use Rattle.iox_tables.specs.HubStates.States.{Given, message_of}
use Rattle.iox_tables.specs.HubStates.Changes.{HasEachOnce, OfEachLane, OnEach}
use Rattle.iox_tables.specs.HubStates.Sends.{MaySendFrom}
use Rattle.iox_tables.specs.HubStates.Steps.{IsOpenToNew, IsOpenable, is_there}
use Rattle.iox_tables.specs.HubStates.Wirings.{buffer_from, numbers_of_role}
use Rattle.iox_tables.proofs.HubStates.Keys.{first_changed}
use Rattle.iox_tables.proofs.HubStates.Steps.{on_each}
use Rattle.iox_tables.specs.HubLoans.CopyPremises.{CopiesMayBeSent, loan_sending}
use Rattle.iox_tables.specs.HubLoans.Loans.{with_handed_out}
use Rattle.iox_tables.specs.HubLoans.CopySends.{copy_sending, receivers_by}
use Rattle.iox_tables.proofs.HubStates.Ends.{not_loans}

abbrev one_more : PortState → PortState
one_more p = record p { loans = p.loans + 1 }

there_stays : (ports : List PortState) (n k : ℕ) → is_there (with_port one_more ports n) k ≡ is_there ports k
there_stays ports n k =
    ap is_some (first_changed (λ p. p.number) one_more (λ p. refl) ports n k) ∙ step (k == n) (port_in ports k)
  where
    step : (b : Bool) (o : Option PortState) → is_some (if b then option_map one_more o else o) ≡ is_some o
    step true (Some p) = refl
    step true None = refl
    step false o = refl

numbers_stay : (role : Role) (ports : List PortState) (n : ℕ) → numbers_of_role role (with_port one_more ports n) ≡ numbers_of_role role ports
numbers_stay role [] n = refl
numbers_stay role (p ∷ ps) n = step (p.number == n) (numbers_stay role ps n)
  where
    changed : (b : Bool) → map (λ (q : PortState). q.number) (if b then one_more p ∷ filter (λ q. same_role q.role role) ps else filter (λ q. same_role q.role role) ps)
        ≡ map (λ (q : PortState). q.number) (if b then p ∷ filter (λ q. same_role q.role role) ps else filter (λ q. same_role q.role role) ps)
    changed true = refl
    changed false = refl

    passed : (b : Bool) → numbers_of_role role (with_port one_more ps n) ≡ numbers_of_role role ps
        → map (λ (q : PortState). q.number) (if b then p ∷ filter (λ q. same_role q.role role) (with_port one_more ps n) else filter (λ q. same_role q.role role) (with_port one_more ps n))
        ≡ map (λ (q : PortState). q.number) (if b then p ∷ filter (λ q. same_role q.role role) ps else filter (λ q. same_role q.role role) ps)
    passed true e = ap (λ ns. p.number ∷ ns) e
    passed false e = e

    step : (a : Bool) → numbers_of_role role (with_port one_more ps n) ≡ numbers_of_role role ps
        → numbers_of_role role (if a then one_more p ∷ ps else p ∷ with_port one_more ps n) ≡ numbers_of_role role (p ∷ ps)
    step true e = changed (same_role p.role role)
    step false e = passed (same_role p.role role) e

module _ (x : Given) (t : HubTables) (h : HandleState) (role : Role) where
  abbrev u : HubTables
  u = with_handed_out t h

  lanes_stay : lane_on u.ports ≡ lane_on t.ports
  lanes_stay = λ i. lane_by (λ k. not_loans pipes_of [] (λ p. refl) t.ports h.port k i)

  states_stay : state_on u.ports ≡ state_on t.ports
  states_stay = λ i. state_by (λ k. not_loans pipes_of [] (λ p. refl) t.ports h.port k i)

  to_same : (role : Role) → receivers_by role u h.client ≡ receivers_by role t h.client
  to_same Client = numbers_stay Server t.ports h.port
  to_same Server = refl

  abbrev y : Sending
  y = loan_sending role x u h

  abbrev z : Sending
  z = copy_sending role x t h

  targets_same : targets y ≡ targets z
  targets_same = ap (λ (to : List ℕ). targets (record z { to = to })) (to_same role)

  to_open_same : to_open y ≡ to_open z
  to_open_same = ap (λ (to : List ℕ). to_open (record z { to = to })) (to_same role)

  open_same : (w : Way) (l : LaneState) → IsOpenToNew x u h.pool h.slot w l → IsOpenToNew x t h.pool h.slot w l
  open_same w l may = record {
    open_to = record {
      of_pool = may.open_to.of_pool;
      sender = sym (there_stays t.ports h.port w.sender) ∙ may.open_to.sender;
      buffer = may.open_to.buffer ∙ ap (buffer_from t.settings) (not_loans (λ p. p.role) Client (λ p. refl) t.ports h.port w.sender);
    };
    once = may.once;
  }

  pub may_be_copied : MaySendFrom x u y h.pool h.slot → MaySendFrom x t z h.pool h.slot
  may_be_copied may = record {
    message = may.message;
    apart = subst AreDistinctWays targets_same may.apart;
    states_apart = subst AreDistinctWays to_open_same may.states_apart;
    once = subst (OfEachLane (HasEachOnce (message_of x t.pools))) lanes_stay may.once;
    lanes = subst (λ (ws : List Way). OnEach (IsOpenToNew x t h.pool h.slot) (lane_on t.ports) ws) targets_same
        (subst (λ (on : OnWays LaneState). OnEach (IsOpenToNew x t h.pool h.slot) on (targets y)) lanes_stay
        (on_each (IsOpenToNew x u h.pool h.slot) (IsOpenToNew x t h.pool h.slot) (lane_on u.ports) open_same (targets y) may.lanes));
    states = subst (λ (ws : List Way). OnEach (IsOpenable t) (state_on t.ports) ws) to_open_same
        (subst (λ (on : OnWays RequestState). OnEach (IsOpenable t) on (to_open y)) states_stay
        (on_each (IsOpenable u) (IsOpenable t) (state_on u.ports)
        (λ w r may. sym (there_stays t.ports h.port w.receiver) ∙ may) (to_open y) may.states));
  }

pub copies_may_be_sent : CopiesMayBeSent
copies_may_be_sent x t h role may = may_be_copied x t h role may
