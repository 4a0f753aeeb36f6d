use Rattle.std.proofs.Common.{◌<◌, ◌≤◌, sym, subst, length, ℕ}
use Rattle.iox_word_map.specs.WordMaps.{total_words}
use Rattle.iox_word_map.specs.declared.message_part.MessagePart.TheVariants.{Payload}
use Rattle.iox_wire_stops.specs.Plans.{sizes_of}
use Rattle.iox_wire_stops.proofs.PairLemmas.{one_of}
use Rattle.iox_wire_stops.proofs.PlaceLemmas.{payload_there}
use Rattle.iox_wire_handle_calls.proofs.MemoryLemmas.{part_within, port_there}
use Rattle.iox_wire_handle_calls.proofs.places.payload_of.Goals as goal

pub returns-clause-payload : goal.returns-clause-payload
returns-clause-payload c p e count setting port slot =
    let low : c.args.port < length c.args.map.now.ports.items = port_there c.args.map.now c.args.port c.args.slot c.requires.there in
    payload_there c.args.map.now p c.args.port c.args.slot (one_of c.args.map.now.ports.items c.args.port low) c.plan-plan.ensures.plan setting low
    e c.part.result count c.part.ensures port slot

pub returns-clause-within : goal.returns-clause-within
returns-clause-within c =
    subst (λ (place : ℕ). place ≤ total_words (sizes_of c.args.map.now)) (sym c.part.ensures)
    (part_within c.args.map.now c.args.port c.args.slot Payload c.plan-plan.ensures.plan c.requires.fits c.requires.there)
