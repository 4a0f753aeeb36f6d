-- The desk of a port tells how many messages the port keeps and has outstanding, whether its node lives or is dead.
use Rattle.std.specs.Prelude.{◌&&◌, length}
use Rattle.std.specs.Option.{option_map_or}
use Rattle.std.proofs.Common.{◌≡◌, ℕ, Bool, true, false, if◌then◌else◌, Option, None, Some, refl, ap, sym, ◌∙◌}
use Rattle.iox_model.specs.declared.way.Way.{Way}
use Rattle.iox_model.specs.Keeping.{kept_in}
use Rattle.iox_model.specs.Maps.{has_number, has_way}
use Rattle.iox_model.specs.Outstandings.{outstanding_on}
use Rattle.iox_model.specs.Peers.{ways_from}
use Rattle.iox_laws.proofs.WeaveLaws.WholeLemmas.{some-is}
use Rattle.iox_wire_locals.specs.declared.table.Desk.{Desk}
use Rattle.iox_wire_seats.specs.Counted.{desk_of, kept_at, outstanding_at}
use Rattle.iox_word_places.specs.Plans.{port_of}
use Rattle.iox_word_places.specs.declared.plan.PlanPort.{PlanPort}
use Rattle.iox_wire_nodes.specs.Nodes.{seat_in}
use Rattle.iox_wire_nodes.specs.Seat.{Seat}
use Rattle.iox_wire_nodes.specs.Tables.{Setting}
use Rattle.iox_wire_needs.specs.Openings.{opened_desk, opened_seat}
use Rattle.iox_wire_needs.specs.Runs.{Run}
use Rattle.iox_wire_weaves.specs.CountLaws.{KeptIsTold, OutstandingIsTold}
use Rattle.iox_wire_weaves.specs.Owners.{desk_in}
use Rattle.iox_wire_weaves.specs.PortCounts.{TellsCounts, kept_count, outstanding_count}
use Rattle.iox_wire_weaves.specs.Wires.{Shows, WireData, WireNode, node_at, seat_of}
use Rattle.iox_wire_weaves.proofs.FreshDesks.{fresh_kept, fresh_outstanding, fresh_there}
use Rattle.iox_wire_weaves.proofs.PlanPorts.{desks_there, in_plan, no_port, owner_is}

module _ (p : Setting) (wire : WireData) (r : Run) (port : ℕ) (shows : Shows p wire r) (f : Desk → ℕ) (count : ℕ)
    (none : port_of wire.plan port ≡ None → count ≡ 0) (fresh : f (opened_desk p port) ≡ 0)
    (told : (t : TellsCounts r.last port (seat_of p wire.nodes (p.layout.owner port))) → f t.desk ≡ count) where
  module _ (q : PlanPort) (is : port_of wire.plan port ≡ Some q) where
    has : has_number port p.layout.sizes.ports ≡ true
    has = in_plan p wire r port shows q is

    t : TellsCounts r.last port (seat_of p wire.nodes (p.layout.owner port))
    t = shows.counts port has

    found : desk_of port (seat_of p wire.nodes q.node).desks ≡ Some t.desk
    found = ap (λ n. desk_of port (seat_of p wire.nodes n).desks) (sym (owner_is p wire r port shows q is)) ∙ t.there

    by_node : (o : Option WireNode) → node_at q.node wire.nodes ≡ o
        → option_map_or f (option_map_or (λ (x : WireNode). desk_of port x.node.seat.seat.desks) o None) 0 ≡ count
    by_node (Some x) at =
        ap (λ ds. option_map_or f (desk_of port ds) 0) (sym (desks_there p wire.nodes q.node x at)) ∙ ap (λ o. option_map_or f o 0) found ∙ told t
    by_node None at =
        let own : desk_of port (seat_of p wire.nodes q.node).desks ≡ Some (opened_desk p port)
        = ap (λ o. desk_of port (option_map_or (λ (x : WireNode). seat_in x.node) o (opened_seat p q.node)).desks) at
        ∙ fresh_there p q.node port has (owner_is p wire r port shows q is) in
        sym fresh ∙ ap f (some-is (opened_desk p port) t.desk (sym own ∙ found)) ∙ told t

  pub counted : option_map_or f (desk_in wire port) 0 ≡ count
  counted = by_port (port_of wire.plan port) refl
    where
      by_port : (o : Option PlanPort) → port_of wire.plan port ≡ o
          → option_map_or f (option_map_or (λ (x : WireNode). desk_of port x.node.seat.seat.desks)
          (option_map_or (λ (q : PlanPort). node_at q.node wire.nodes) o None) None) 0 ≡ count
      by_port None is = sym (none is)
      by_port (Some q) is = by_node q is (node_at q.node wire.nodes) refl

pub kept_is_told : KeptIsTold
kept_is_told p wire r port shows =
    counted p wire r port shows kept_at (kept_count r.last port)
    (λ is. ap (λ b. if b then length (kept_in r.last port) else 0) (no_port p wire r port shows is)) (fresh_kept p port) (λ t. t.kept)

pub outstanding_is_told : OutstandingIsTold
outstanding_is_told p wire r y shows =
    counted p wire r y.sender shows (outstanding_at y) (outstanding_count r.last.state y)
    (λ is. ap (λ b. if b && has_way y (ways_from r.last.state.fixed y.sender) then length (outstanding_on r.last.state y) else 0) (no_port p wire r y.sender shows is))
    (fresh_outstanding p y.sender y) (λ t. t.outstanding y refl)
