use Rattle.std.specs.Prelude.{is_none, option_map}
use Rattle.std.proofs.Common.{ap, subst, ◌∙◌}
use Rattle.iox_model.specs.declared.call.WireCall.TheVariants.{Port}
use Rattle.iox_wire_weaves.specs.Calls.{call_in}
use Rattle.iox_wire_weaves.specs.Nodes.{NodeView, seat_in}
use Rattle.iox_wire_weaves.specs.NodesBegins.{IsUnderWay, begun_at}
use Rattle.iox_wire_weaves.specs.Rooms.{KeepsRooms}
use Rattle.iox_wire_weaves.specs.Wires.{WireNode}
use Rattle.iox_wire.specs.Replies.{call_with}
use Rattle.iox_wire.specs.declared.member.BegunCall.{BegunCall}
use Rattle.iox_wire.proofs.Begun.{has_begun}
use Rattle.iox_wire.proofs.member.Member.begin.Goals as goal

pub returns-clause-begun : goal.returns-clause-begun
returns-clause-begun c =
    has_begun c.args.map.now c.args.terms.now c.args.self.now c.args.call c.args.begun
    (record {
      number = c.self.inside.number;
      alive = is_none c.self.inside.died;
      died = c.self.inside.died;
      node = c.begin.new.self;
      call = option_map (λ (b : BegunCall). record { call = call_with c.self.inside.words.items b.call; begun = b.begun }) c.self.inside.call;
      longest = c.self.inside.longest;
      read = c.self.inside.read.items;
    })
    c.keep.new.self c.requires.setting
    (λ p setting. subst (λ (k : NodeView). IsUnderWay p k (Port (call_in p (seat_in k) c.args.call)) c.begin.new.self)
    (ap (λ (m : WireNode). m.node) c.self.view_is) (c.in_default.ensures.begun p setting))
    c.in_default.ensures.at
    (λ p. c.in_default.ensures.role p ∙ ap (λ (m : WireNode). begun_at m.node.seat.seat.table (Port (call_in p (seat_in m.node) c.args.call))) c.self.view_is)
    c.requires.lends
    (subst (λ (k : NodeView). KeepsRooms k c.begin.new.self) (ap (λ (m : WireNode). m.node) c.self.view_is) c.in_default.ensures.rooms)
    (ap (λ (m : WireNode). m.number) c.self.view_is)
    (record { alive = ap (λ (m : WireNode). m.alive) c.self.view_is; died = ap (λ (m : WireNode). m.died) c.self.view_is; longest = ap (λ (m : WireNode). m.longest) c.self.view_is })
    (ap (λ (m : WireNode). m.read) c.self.view_is)
    c.keep.ensures
