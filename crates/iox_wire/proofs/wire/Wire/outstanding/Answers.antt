use Rattle.std.specs.Prelude.{Option, None}
use Rattle.std.specs.Option.{option_map_or}
use Rattle.std.proofs.Common.{ap, refl, sym, ◌∙◌}
use Rattle.iox_wire_weaves.specs.Wires.{WireNode}
use Rattle.iox_wire_weaves.specs.Counted.{desk_of, outstanding_at}
use Rattle.iox_wire_weaves.proofs.CountsTold.{outstanding_is_told}
use Rattle.iox_wire.proofs.wire.Wire.outstanding.Goals as goal

pub returns-in-Some : goal.returns-in-Some
returns-in-Some c p r shows =
    c.outstanding.ensures
    ∙ sym (ap (λ (o : Option WireNode). option_map_or (outstanding_at (record { sender = c.args.port; receiver = c.args.other; lane = c.args.lane })) (option_map_or (λ (x : WireNode). desk_of c.args.port x.node.seat.seat.desks) o None) 0)
    c.in-Some.ensures.there)
    ∙ outstanding_is_told p c.args.self.now r (record { sender = c.args.port; receiver = c.args.other; lane = c.args.lane }) shows

pub returns-in-None : goal.returns-in-None
returns-in-None c p r shows =
    sym (ap (λ (o : Option WireNode). option_map_or (outstanding_at (record { sender = c.args.port; receiver = c.args.other; lane = c.args.lane })) (option_map_or (λ (x : WireNode). desk_of c.args.port x.node.seat.seat.desks) o None) 0)
    (c.in-None.ensures.none refl))
    ∙ outstanding_is_told p c.args.self.now r (record { sender = c.args.port; receiver = c.args.other; lane = c.args.lane }) shows
