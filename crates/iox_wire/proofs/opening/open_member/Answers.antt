use Rattle.std.proofs.Common.{ap, subst, sym, ◌∙◌}
use Rattle.iox_wire_weaves.specs.HandleBounds.{handle_room}
use Rattle.iox_wire_weaves.specs.Nodes.{seat_in}
use Rattle.iox_wire_weaves.specs.Rooms.{HasRoomToBegin}
use Rattle.iox_wire_weaves.specs.Seats.{Placed}
use Rattle.iox_wire_weaves.specs.Wires.{WireNode}
use Rattle.iox_wire.proofs.Roomy.{fits_is, roomy_node}
use Rattle.iox_wire.proofs.opening.open_member.Goals as goal

pub returns : goal.returns
returns c = record {
  number_is = ap (λ (m : WireNode). m.number) c.in_ok-member.ensures;
  lives = ap (λ (m : WireNode). m.alive) c.in_ok-member.ensures;
  seat = ap (λ (m : WireNode). seat_in m.node) c.in_ok-member.ensures ∙ c.in_ok-node.ensures.seat ∙ c.in_ok-seat.ensures.seat;
  seated = ap (λ (m : WireNode). m.node.at) c.in_ok-member.ensures ∙ c.in_ok-node.ensures.at;
  room = ap (λ (m : WireNode). m.node.seat.room) c.in_ok-member.ensures ∙ ap (λ (s : Placed). s.room) c.in_ok-node.ensures.whole ∙ c.in_ok-seat.ensures.room
      ∙ fits_is (handle_room c.args.plan.now c.args.number) c.in-Some.handles c.in-Some.ensures;
  rests = ap (λ (m : WireNode). m.call) c.in_ok-member.ensures;
  undead = ap (λ (m : WireNode). m.died) c.in_ok-member.ensures;
  longest = ap (λ (m : WireNode). m.longest) c.in_ok-member.ensures ∙ c.requires.longest;
  unread = ap (λ (m : WireNode). m.read) c.in_ok-member.ensures;
  rooms = subst (λ (m : WireNode). HasRoomToBegin c.args.plan.now m.node) (sym c.in_ok-member.ensures)
      (roomy_node c.args.plan.now c.args.ways c.args.longest c.in_ok-node.node c.requires.ways c.requires.longest
      (ap (λ (s : Placed). s.ways_room) c.in_ok-node.ensures.whole ∙ c.in_ok-seat.ensures.ways)
      (ap (λ (s : Placed). s.words_room) c.in_ok-node.ensures.whole ∙ c.in_ok-seat.ensures.words) c.in_ok-node.ensures.rooms);
}
