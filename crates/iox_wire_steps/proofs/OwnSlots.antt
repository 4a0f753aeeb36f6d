-- The slots that a node knows stay known as its call ends, however it ends.
use Rattle.std.specs.Prelude.{find, flat_map, map, option_map}
use Rattle.std.specs.Option.{option_map_or}
use Rattle.std.proofs.Common.{◌≡◌, ℕ, Bool, true, false, if◌then◌else◌, ◌==◌, ◌&&◌, List, [], ◌∷◌, Option, Some, None, refl, ap, sym, subst, ◌∙◌, eq-eqb}
use Rattle.iox_model.specs.Forgetting.{forgets}
use Rattle.iox_model.specs.Maps.{AreDistinct, has_number}
use Rattle.iox_model.specs.Peers.{node_of_port, ports_of_node}
use Rattle.iox_model.specs.States.{Port, State}
use Rattle.iox_laws.proofs.WeaveLedger.Lists.{IsAmong, among-filter, among-map, among-number, distinct-no_repeats, find-own, number-among}
use Rattle.iox_wire_moments.specs.MomentsOf.{Pools}
use Rattle.iox_wire_locals.specs.declared.local.Ending.{Ending}
use Rattle.iox_wire_locals.specs.declared.local.Ending.TheVariants as endings
use Rattle.iox_wire_locals.specs.declared.local.Local.TheVariants.{Idle}
use Rattle.iox_wire_locals.specs.declared.seat.Seat.{Seat}
use Rattle.iox_wire_locals.specs.declared.table.Desk.{Desk}
use Rattle.iox_wire_locals.specs.declared.table.Recorded.{Recorded}
use Rattle.iox_wire_locals.specs.BeginLaws.{Counts}
use Rattle.iox_wire_locals.specs.Courses.{placed}
use Rattle.iox_wire_locals.specs.Desks.{all_less, forgets_ports, slots_to, uses_less, without_slots_to}
use Rattle.iox_wire_locals.specs.Doings.{outcome_of}
use Rattle.iox_wire_locals.specs.Known.{known}
use Rattle.iox_wire_locals.specs.Settlements as settle
use Rattle.iox_wire_locals.specs.Steps.{closed, ending_at}
use Rattle.iox_wire_locals.specs.Tables.{Setting}
use Rattle.iox_wire_laws.specs.WireKeeping.Records.{recorded_of}
use Rattle.iox_wire_laws.proofs.WireKeeping.RecordsKept.{found}
use Rattle.iox_wire_laws.specs.WireHolding.SlotsKnown.{IsPortOfSeat, SlotsKnown}
use Rattle.iox_wire_pools.specs.Uses.{AllUsesAreCounted}
use Rattle.iox_wire_pools.specs.UsesLaws.{EndsOwn}
use Rattle.iox_wire_pools.proofs.EndUses.{ends_keep_uses}
use Rattle.iox_wire_pools.proofs.EndedSlots.{ends_are_known}
use Rattle.iox_wire_stands.specs.Nodes.{HasOwnDesks}
use Rattle.iox_wire_stands.proofs.EndsKept.{ends_keep_desks}
use Rattle.iox_wire_steps.specs.Over.{state_ended}
use Rattle.iox_wire_steps.proofs.ForgetSlots.{known_still}
use Rattle.iox_wire_steps.proofs.Homes.{AtHome}
use Rattle.iox_wire_steps.proofs.Settles.{leaves_ports}

-- nothing is left out
none_cut : (rs : List Recorded) → rs ≡ map (without_slots_to []) rs
none_cut [] = refl
none_cut (r ∷ rs) = ap (λ qs. r ∷ qs) (none_cut rs)

less_port : (slots : List ℕ) (d : Desk) → (all_less slots d).port ≡ d.port
less_port [] d = refl
less_port (slot ∷ slots) d = less_port slots (uses_less slot d)

module _ (p : Setting) (held : Pools) (s : State) (x : Seat) (payload : List ℕ) (has : Counts p x s held)
    (owners : (port : ℕ) → p.layout.owner port ≡ node_of_port s.fixed port)
    (numbered : (port : ℕ) → has_number port p.layout.sizes.ports ≡ true → (p.port port).number ≡ port)
    (apart : AreDistinct (map (λ (q : Port). q.number) s.fixed.ports))
    (known_before : SlotsKnown p held s x) (own_desks : HasOwnDesks p x) (uses : AllUsesAreCounted p x) where
  -- ---- a Forget

  -- the machine has the port among those of the node
  of_node : (port : ℕ) → IsPortOfSeat p x port → has_number port (ports_of_node s.fixed x.node) ≡ true
  of_node port own =
      let q : Port = p.port port in
      let number : q.number ≡ port = numbered port own.0 in
      let among : IsAmong q s.fixed.ports
      = subst (IsAmong q) (sym has.knows.ports) (among-map p.port port p.layout.sizes.ports (number-among port p.layout.sizes.ports own.0)) in
      let here : find (λ k. k.number == q.number) s.fixed.ports ≡ Some q
      = find-own (λ (k : Port). k.number) s.fixed.ports q (distinct-no_repeats (map (λ (k : Port). k.number) s.fixed.ports) apart) among in
      let node : q.node ≡ x.node
      = sym (ap (λ (o : Option Port). option_map_or (λ k. k.node) o 0) here) ∙ ap (node_of_port s.fixed) number ∙ sym (owners port) ∙ own.1 in
      among-number port (ports_of_node s.fixed x.node)
      (subst (λ k. IsAmong k (ports_of_node s.fixed x.node)) number
      (among-map (λ (k : Port). k.number) q _ (among-filter (λ (k : Port). k.node == x.node) q s.fixed.ports among (eq-eqb q.node x.node node))))

  module _ (dead : ℕ) where
    abbrev cut : List ℕ
    cut = ports_of_node (known p x) dead

    cut_is : ports_of_node s.fixed dead ≡ ports_of_node (known p x) dead
    cut_is = ap (λ (ps : List Port). ports_of_node (record (s.fixed) { ports = ps }) dead) has.knows.ports

    recorded : (port : ℕ) → recorded_of (settle.forgets p x dead) port ≡ map (without_slots_to (ports_of_node (known p x) dead)) (recorded_of x port)
    recorded port =
        ap (λ o. option_map_or (λ (d : Desk). d.recorded) o [])
        (found (forgets_ports (ports_of_node (known p x) dead)) (λ d. d.port == port)
        (λ d. ap (λ n. n == port) (less_port (flat_map (slots_to (ports_of_node (known p x) dead)) d.recorded) d)) x.desks)
        ∙ by_desk (find (λ d. d.port == port) x.desks)
      where
        by_desk : (o : Option Desk) → option_map_or (λ (d : Desk). d.recorded) (option_map (forgets_ports (ports_of_node (known p x) dead)) o) []
            ≡ map (without_slots_to (ports_of_node (known p x) dead)) (option_map_or (λ (d : Desk). d.recorded) o [])
        by_desk None = refl
        by_desk (Some d) = refl

    abbrev seat_after : Bool → Seat
    seat_after b = if b then x else settle.forgets p x dead

    abbrev state_after : Bool → State
    state_after b = if b then s else forgets s x.node dead

    forgot : (b : Bool) → AllUsesAreCounted p (placed (seat_after b) Idle) → HasOwnDesks p (placed (seat_after b) Idle)
        → SlotsKnown p held (state_after b) (placed (seat_after b) Idle)
    forgot true counted desks =
        known_still p held s s x (placed x Idle) [] known_before (record {
          rests = refl;
          node = refl;
          table = refl;
          records = λ port. none_cut (recorded_of x port);
          ports = refl;
          loans = refl;
          delivered = λ v k own. refl;
        }) counted own_desks desks
    forgot false counted desks =
        known_still p held s (forgets s x.node dead) x (placed (settle.forgets p x dead) Idle) (ports_of_node (known p x) dead) known_before (record {
          rests = refl;
          node = refl;
          table = refl;
          records = recorded;
          ports = refl;
          loans = refl;
          delivered = λ v k own.
              ap (λ b. if b && has_number v.receiver (ports_of_node s.fixed dead) then false else s.delivered v k) (of_node v.sender own)
              ∙ ap (λ ks. if has_number v.receiver ks then false else s.delivered v k) cut_is;
        }) counted own_desks desks

    alike : (b c : Bool) → b ≡ c → AllUsesAreCounted p (placed (seat_after b) Idle) → HasOwnDesks p (placed (seat_after b) Idle)
        → SlotsKnown p held (state_after c) (placed (seat_after b) Idle)
    alike b c same counted desks = subst (λ k. SlotsKnown p held (state_after k) (placed (seat_after b) Idle)) same (forgot b counted desks)

  -- ---- any end

  pub slots_after : (ending : Ending) → ending_at x.local ≡ Some ending → EndsOwn x ending → AtHome p x ending
      → SlotsKnown p held (state_ended p held s x payload ending) (closed p x (Some ending))
  slots_after (endings.Forgets dead) is own home =
      alike dead (has_number dead x.forgot) (has_number dead (s.fixed.forgot x.node)) (ap (has_number dead) (sym has.knows.forgot))
      (ends_keep_uses p x (endings.Forgets dead) uses is own) (ends_keep_desks p x (endings.Forgets dead) own_desks)
  slots_after ending is own home =
      ends_are_known p held s (state_ended p held s x payload ending) x ending known_before uses is own home
      (leaves_ports s has.on_wire x.node payload (outcome_of p held x.node ending) tt)
