use Rattle.std.specs.Prelude.{Option, None}
use Rattle.std.specs.Option.{option_map_or}
use Rattle.std.proofs.Common.{ap, refl, sym, ◌∙◌}
use Rattle.iox_wire_weaves.specs.Wires.{WireNode}
use Rattle.iox_wire_weaves.specs.Counted.{desk_of, kept_at}
use Rattle.iox_wire_weaves.proofs.CountsTold.{kept_is_told}
use Rattle.iox_wire.proofs.wire.Wire.kept.Goals as goal

pub returns-in-Some : goal.returns-in-Some
returns-in-Some c p r shows =
    c.kept.ensures
    ∙ sym (ap (λ (o : Option WireNode). option_map_or kept_at (option_map_or (λ (x : WireNode). desk_of c.args.port x.node.seat.seat.desks) o None) 0) c.in-Some.ensures.there)
    ∙ kept_is_told p c.args.self.now r c.args.port shows

pub returns-in-None : goal.returns-in-None
returns-in-None c p r shows =
    sym (ap (λ (o : Option WireNode). option_map_or kept_at (option_map_or (λ (x : WireNode). desk_of c.args.port x.node.seat.seat.desks) o None) 0) (c.in-None.ensures.none refl))
    ∙ kept_is_told p c.args.self.now r c.args.port shows
