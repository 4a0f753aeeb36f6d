use Rattle.std.proofs.Common.{◌<◌, length}
use Rattle.iox_word_places.specs.declared.plan.PlanPort.{PlanPort}
use Rattle.iox_word_places.proofs.PairLemmas.{index_there, one_of}
use Rattle.iox_wire_messages.proofs.PlaceLemmas.{payload_there}
use Rattle.iox_wire_messages.proofs.payload_place.Goals as goal

pub returns : goal.returns
returns c p e count setting port slot =
    let low : c.args.port < length c.args.map.now.ports.items = index_there PlanPort (λ q. c.args.slot < q.pool) c.args.map.now.ports.items c.args.port c.requires in
    payload_there c.args.map.now p c.args.port c.args.slot (one_of c.args.map.now.ports.items c.args.port low) c.plan-plan.ensures.plan setting low
    e c.part.result count c.part.ensures port slot
