-- What is not shown: who holds slots. And the release of a port's own value.
use Rattle.std.specs.Prelude.{◌≡◌, ℕ, Bool, true, false, not, ◌||◌, if◌then◌else◌, ◌==◌, List, [], ◌∷◌, map, Option, Some, None, is_some, refl}
use Rattle.std.specs.Option.{option_map, option_map_or}
use Rattle.std.proofs.Common.{sym, ap, ◌∙◌, true≢false, eqb-true}
use Rattle.iox_model.specs.declared.way.RequestState.TheVariants.{Closed}
use Rattle.iox_model.specs.declared.call.Call.TheVariants.{Release}
use Rattle.iox_model.specs.declared.reply.Refusal.TheVariants.{ForeignNumber}
use Rattle.iox_model.specs.declared.reply.Reply.TheVariants.{Done}
use Rattle.iox_model.specs.Commands.{Refusal, Reply}
use Rattle.iox_model.specs.Counts.{with_fixed}
use Rattle.iox_model.specs.Ends.{port_dropped}
use Rattle.iox_model.specs.Expiries.{released}
use Rattle.iox_model.specs.Handles.{Subject, subject}
use Rattle.iox_model.specs.Maps.{has_number, or_else, refused_if, AreDistinct}
use Rattle.iox_model.specs.Peers.{is_connected_port}
use Rattle.iox_model.specs.States as m
use Rattle.iox_laws.proofs.WeaveLaws.MapLemmas.{eqb-refl}
use Rattle.iox_laws.specs.CallFunctions.Answers.{answered, unless}
use Rattle.iox_laws.specs.CallFunctions.Releases.{released_from}
use Rattle.iox_tables.specs.HubStates.Tables.{HubTables, PortState, numbers_of, pipes_of, port_in, senders_of}
use Rattle.iox_tables.specs.HubStates.Ways.{lane_by, lane_on, state_by, state_on, with_port}
use Rattle.iox_tables.specs.HubStates.Shown.{borrowed_in, by_lane, is_out_in, returned_in, shown}
use Rattle.iox_tables.specs.HubStates.States.{Given, fixed_of, handles_in, message_of, port_of, state_shown}
use Rattle.iox_tables.specs.HubStates.Steps.{is_there}
use Rattle.iox_tables.specs.HubStates.Names.{NamesPort}
use Rattle.iox_tables.specs.HubStates.Ends.{HoldersAreNotShown}
use Rattle.iox_tables.specs.HubStates.Releases.{PortsAreReleased, with_value_released}
use Rattle.iox_tables.proofs.HubStates.Fixing.{first_key}
use Rattle.iox_tables.proofs.HubStates.Keys.{first_changed}
use Rattle.iox_tables.proofs.HubStates.Naming.{each_port_is_named}
use Rattle.iox_tables.proofs.HubStates.Steps.{connected_is}

pub holders_are_not_shown : HoldersAreNotShown
holders_are_not_shown x t pools same =
    let is : message_of x t.pools ≡ message_of x pools = λ i place k. record (message_of x t.pools place k) {
      sender = same.owners place i;
      serial = same.serials place k i;
      node_id = (same.ids place).0 i;
      port_id = (same.ids place).1 i;
      lane = (same.labels place k i).lane;
      request = (same.labels place k i).request;
      elements = same.elements place k i;
    } in
    λ i. shown x.members (record (fixed_of x t) { handles = handles_in x (is i) t.handles }) (is i) (lane_on t.ports) (state_on t.ports)

-- ---- a port's own value

abbrev unheld : PortState → PortState
unheld p = record p { held = false }

module _ (x : Given) (n : ℕ) where
  untouched : (ps : List PortState) → has_number n (numbers_of ps) ≡ false → map (port_dropped n) (map (port_of x) ps) ≡ map (port_of x) ps
  untouched [] e = refl
  untouched (p ∷ ps) e = step (p.number == n) refl (untouched ps) e
    where
      step : (b : Bool) → (p.number == n) ≡ b → (has_number n (numbers_of ps) ≡ false → map (port_dropped n) (map (port_of x) ps) ≡ map (port_of x) ps)
          → (b || has_number n (numbers_of ps)) ≡ false
          → (if b then record (port_of x p) { held = false } else port_of x p) ∷ map (port_dropped n) (map (port_of x) ps) ≡ port_of x p ∷ map (port_of x) ps
      step true is more h = absurd (true≢false h)
      step false is more h = ap (λ ys. port_of x p ∷ ys) (more h)

  dropped_is : (ps : List PortState) → AreDistinct (numbers_of ps) → map (port_dropped n) (map (port_of x) ps) ≡ map (port_of x) (with_port unheld ps n)
  dropped_is [] apart = refl
  dropped_is (p ∷ ps) apart = step (p.number == n) refl (dropped_is ps apart.1)
    where
      step : (b : Bool) → (p.number == n) ≡ b → map (port_dropped n) (map (port_of x) ps) ≡ map (port_of x) (with_port unheld ps n)
          → (if b then record (port_of x p) { held = false } else port_of x p) ∷ map (port_dropped n) (map (port_of x) ps)
          ≡ map (port_of x) (if b then unheld p ∷ ps else p ∷ with_port unheld ps n)
      step true is more =
          ap (λ ys. port_of x (unheld p) ∷ ys) (untouched ps (ap (λ k. has_number k (numbers_of ps)) (sym (eqb-true p.number n is)) ∙ apart.0))
      step false is more = ap (λ ys. port_of x p ∷ ys) more

-- whatever a port shows but for its own value stays
other_part : {B : Type 0} (show : PortState → B) (none : B) → ((p : PortState) → show (unheld p) ≡ show p) → (ports : List PortState) (n k : ℕ)
    → option_map_or show (port_in (with_port unheld ports n) k) none ≡ option_map_or show (port_in ports k) none
other_part show none same ports n k =
    ap (λ o. option_map_or show o none) (first_changed (λ p. p.number) unheld (λ p. refl) ports n k) ∙ step (k == n) (port_in ports k)
  where
    step : (b : Bool) (o : Option PortState) → option_map_or show (if b then option_map unheld o else o) none ≡ option_map_or show o none
    step true (Some p) = same p
    step true None = refl
    step false o = refl

there_stays : (ports : List PortState) (n k : ℕ) → is_there (with_port unheld ports n) k ≡ is_there ports k
there_stays ports n k =
    as_part (port_in (with_port unheld ports n) k) ∙ other_part (λ p. true) false (λ p. refl) ports n k ∙ sym (as_part (port_in ports k))
  where
    as_part : (o : Option PortState) → is_some o ≡ option_map_or (λ p. true) o false
    as_part (Some p) = refl
    as_part None = refl

module _ (x : Given) (t : HubTables) (n : ℕ) (apart : AreDistinct (numbers_of t.ports)) where
  abbrev f : m.Fixed
  f = fixed_of x t

  abbrev new : m.Fixed
  new = record f { ports = map (port_dropped n) f.ports }

  pipes_stay : (k : ℕ) → option_map_or pipes_of (port_in (with_port unheld t.ports n) k) [] ≡ option_map_or pipes_of (port_in t.ports k) []
  pipes_stay k = other_part pipes_of [] (λ p. refl) t.ports n k

  ports_are : new.ports ≡ map (port_of x) (with_port unheld t.ports n)
  ports_are = dropped_is x n t.ports apart

  connected : (k : ℕ) → is_connected_port new k ≡ is_connected_port f k
  connected k =
      ap (λ ps. is_connected_port (record f { ports = ps }) k) ports_are
      ∙ connected_is x (with_port unheld t.ports n) k ∙ there_stays t.ports n k ∙ sym (connected_is x t.ports k)

  tables_are : state_shown x (with_value_released t n) ≡ shown x.members new (message_of x t.pools) (lane_on t.ports) (state_on t.ports)
  tables_are = λ i. shown x.members (record f {
    ports = sym ports_are i;
    loans = λ k. other_part (λ p. p.loans) 0 (λ p. refl) t.ports n k i;
    borrowed = borrowed_in (lane_by (λ k. pipes_stay k i));
    expired = λ k. other_part (λ p. senders_of p.expired.pipes) [] (λ p. refl) t.ports n k i;
  }) (message_of x t.pools) (lane_by (λ k. pipes_stay k i)) (state_by (λ k. pipes_stay k i))

  pub value_released : with_fixed (state_shown x t) new ≡ state_shown x (with_value_released t n)
  value_released = sym (tables_are ∙ (λ i. record (with_fixed (state_shown x t) new) {
    returned = λ w. if connected w.sender i then by_lane (returned_in (message_of x t.pools)) [] (lane_on t.ports) w else [];
    delivered = λ w. if connected w.sender i then by_lane (is_out_in (message_of x t.pools)) (λ k. false) (lane_on t.ports) w else (λ k. false);
    request_state = λ w. if connected w.receiver i then option_map_or (λ r. r) (state_on t.ports w) Closed else Closed;
  }))

pub ports_are_released : PortsAreReleased
ports_are_released x t node n p there on_node held apart =
    ap (λ (o : Option Refusal). unless o s (unless None s (answered s node (released_from s (subject f node n)))))
    (named.refused (Release n) refl
    ∙ ap (λ k. or_else (refused_if (not (k == node)) ForeignNumber) None) on_node
    ∙ ap (λ c. or_else (refused_if (not c) ForeignNumber) None) (eqb-refl node))
    ∙ ap (λ (o : Option Subject). answered s node (released_from s o)) named.names
    ∙ ap (λ k. tells Done (released (with_fixed s (record f { ports = map (port_dropped k) f.ports })) k)) (first_key (λ p. p.number) t.ports n p there)
    ∙ ap (λ u. tells Done (released u n)) (value_released x t n apart)
  where
    s : m.State
    s = state_shown x t

    f : m.Fixed
    f = fixed_of x t

    named : NamesPort x t node n p
    named = each_port_is_named x t node n p there held

    tells : Reply → m.State → Reply × m.State
    tells r u = (r, u)
