-- The ports of a wire's plan are those of its setting, on the same nodes, and the machine has no other.
use Rattle.std.specs.Prelude.{find}
use Rattle.std.specs.Option.{option_map_or}
use Rattle.std.proofs.Common.{◌≡◌, ℕ, Bool, true, false, if◌then◌else◌, ◌==◌, List, [], ◌∷◌, Option, None, Some, refl, ap, sym, subst, ◌∙◌, inl, inr, true≢false, eqb-true, eq-eqb}
use Rattle.iox_model.specs.Maps.{has_number}
use Rattle.iox_model.specs.Peers.{is_connected_port}
use Rattle.iox_model.specs.States.{Port}
use Rattle.iox_laws.proofs.WeaveLedger.Lists.{IsAmong, among-map, among-number, any-among, find-among, map-among, number-among}
use Rattle.iox_laws.proofs.WeaveLedger.Truths.{none-some}
use Rattle.iox_word_places.specs.Plans.{port_numbers, port_of}
use Rattle.iox_word_places.specs.declared.plan.PlanPort.{PlanPort}
use Rattle.iox_wire_words.specs.Programs.{WireLayout}
use Rattle.iox_wire_nodes.specs.Nodes.{NodeView, seat_at}
use Rattle.iox_wire_nodes.specs.Seat.{Seat}
use Rattle.iox_wire_nodes.specs.Tables.{Setting}
use Rattle.iox_wire_nodes.specs.declared.call_at.CallAt.{CallAt}
use Rattle.iox_wire_nodes.specs.declared.call_at.CallAt.TheVariants as at
use Rattle.iox_wire_needs.specs.Runs.{Run}
use Rattle.iox_wire_weaves.specs.Wires.{Shows, WireData, WireNode, node_at, seat_of}
use Rattle.iox_wire_weaves.proofs.Lookups.{seat_there}

-- a node's desks are the same wherever it is in its call
pub desks_alike : (x : NodeView) (c : CallAt) → (seat_at c x).desks ≡ x.seat.seat.desks
desks_alike x at.Seats = refl
desks_alike x at.Receives = refl
desks_alike x at.Lends = refl
desks_alike x at.SendsRequest = refl
desks_alike x at.SendsResponse = refl
desks_alike x at.CopiesRequest = refl
desks_alike x at.CopiesResponse = refl

pub desks_there : (p : Setting) (nodes : List WireNode) (n : ℕ) (x : WireNode) → node_at n nodes ≡ Some x → (seat_of p nodes n).desks ≡ x.node.seat.seat.desks
desks_there p nodes n x at = ap (λ (y : Seat). y.desks) (seat_there p nodes n x at) ∙ desks_alike x.node x.node.at

module _ (p : Setting) (wire : WireData) (r : Run) (port : ℕ) (shows : Shows p wire r) where
  abbrev numbers : List ℕ
  numbers = p.layout.sizes.ports

  numbers_are : numbers ≡ port_numbers wire.plan
  numbers_are = ap (λ (l : WireLayout). l.sizes.ports) shows.setting.setting.layout

  pub owner_is : (q : PlanPort) → port_of wire.plan port ≡ Some q → p.layout.owner port ≡ q.node
  owner_is q is =
      ap (λ (l : WireLayout). l.owner port) shows.setting.setting.layout ∙ ap (λ o. option_map_or (λ (k : PlanPort). k.node) o 0) is

  pub in_plan : (q : PlanPort) → port_of wire.plan port ≡ Some q → has_number port numbers ≡ true
  in_plan q is =
      let at = find-among (λ (k : PlanPort). k.number == port) q wire.plan.ports.items is in
      subst (λ ks. has_number port ks ≡ true) (sym numbers_are)
      (among-number port (port_numbers wire.plan)
      (subst (λ k. IsAmong k (port_numbers wire.plan)) (eqb-true q.number port at.1) (among-map (λ (k : PlanPort). k.number) q wire.plan.ports.items at.0)))

  pub not_in_plan : port_of wire.plan port ≡ None → has_number port numbers ≡ true → ⊥
  not_in_plan none has =
      let at = map-among (λ (k : PlanPort). k.number) port wire.plan.ports.items
      (number-among port (port_numbers wire.plan) (subst (λ ks. has_number port ks ≡ true) numbers_are has)) in
      nothing wire.plan.ports.items at.0 at.1 (eq-eqb at.0.number port (sym at.2)) none
    where
      nothing : (qs : List PlanPort) (q : PlanPort) → IsAmong q qs → (q.number == port) ≡ true → find (λ k. k.number == port) qs ≡ None → ⊥
      nothing [] q among is none = absurd among
      nothing (x ∷ xs) q among is none = by_case (x.number == port) refl none among (nothing xs q)
        where
          by_case : (b : Bool) → (x.number == port) ≡ b → (if b then Some x else find (λ k. k.number == port) xs) ≡ None → IsAmong q (x ∷ xs)
              → (IsAmong q xs → (q.number == port) ≡ true → find (λ k. k.number == port) xs ≡ None → ⊥) → ⊥
          by_case true first none among rest = absurd (none-some x (sym none))
          by_case false other none (inl same) rest = true≢false (sym is ∙ ap (λ (k : PlanPort). k.number == port) same ∙ other)
          by_case false other none (inr later) rest = rest later is none

  listed : is_connected_port r.last.state.fixed port ≡ true → has_number port numbers ≡ true
  listed there =
      let at = any-among (λ (q : Port). q.number == port) r.last.state.fixed.ports there in
      let from = map-among p.port at.0 p.layout.sizes.ports (subst (IsAmong at.0) shows.ports at.1) in
      let has : has_number from.0 p.layout.sizes.ports ≡ true = among-number from.0 p.layout.sizes.ports from.1 in
      subst (λ k. has_number k p.layout.sizes.ports ≡ true)
      (sym (shows.stands.stands.numbers from.0 has) ∙ ap (λ (q : Port). q.number) (sym from.2) ∙ eqb-true at.0.number port at.2) has

  -- the machine has no port that is none of the plan
  pub no_port : port_of wire.plan port ≡ None → is_connected_port r.last.state.fixed port ≡ false
  no_port none = by_case (is_connected_port r.last.state.fixed port) refl
    where
      by_case : (b : Bool) → is_connected_port r.last.state.fixed port ≡ b → b ≡ false
      by_case true there = absurd (not_in_plan none (listed there))
      by_case false there = refl
