use Rattle.std.specs.Prelude.{Option, None}
use Rattle.std.specs.Option.{option_map_or}
use Rattle.std.proofs.Common.{◌==◌, ap, sym, ◌∙◌}
use Rattle.iox_wire_weaves.specs.Counted.{desk_of, serial_at}
use Rattle.iox_wire_weaves.specs.Plans.{port_of}
use Rattle.iox_wire_weaves.specs.Wires.{WireNode}
use Rattle.iox_wire.proofs.Owners.{at_port}
use Rattle.iox_wire.proofs.Places.{none_found, read_there}
use Rattle.iox_wire.proofs.events.serial.Goals as goal

pub returns-in_default-place_of : goal.returns-in_default-place_of
returns-in_default-place_of c =
    sym (ap (λ (o : Option WireNode). option_map_or (serial_at c.args.slot) (option_map_or (λ (x : WireNode). desk_of c.args.port x.node.seat.seat.desks) o None) 0)
    (at_port c.args.members.now c.in-Some.node (port_of c.args.places.now c.args.port) c.in-Some.ensures
    ∙ none_found (λ (x : WireNode). x.number == c.in-Some.node) c.args.members.now (sym c.in_default-place_of.ensures.first)))

pub returns : goal.returns
returns c =
    c.serial.ensures
    ∙ sym (ap (λ (o : Option WireNode). option_map_or (serial_at c.args.slot) (option_map_or (λ (x : WireNode). desk_of c.args.port x.node.seat.seat.desks) o None) 0)
    (at_port c.args.members.now c.in-Some.node (port_of c.args.places.now c.args.port) c.in-Some.ensures
    ∙ read_there c.in-Some.node c.args.members.now c.in-Some-place_of.place c.index-members-place.result (sym c.in-Some-place_of.ensures.first) c.index-members-place.is))
