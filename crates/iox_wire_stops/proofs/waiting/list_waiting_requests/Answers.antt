use Rattle.std.proofs.Common.{arith, ap, length, ◌∙◌, subst, sym}
use Rattle.iox_model.specs.declared.kind.Role.TheVariants.{Client}
use Rattle.iox_wire_ways.specs.Stored.{header_length}
use Rattle.iox_wire_ways.specs.Sources as sources
use Rattle.iox_wire_ways.specs.Sources.{AreSources, AreWithin}
use Rattle.iox_wire_ways.specs.Seats.{ways_of}
use Rattle.iox_wire_ways.proofs.WayCounts.{ports_fit}
use Rattle.iox_wire_stops.proofs.WaitingLemmas.{are_told, same_ways, told_in_memory}
use Rattle.iox_wire_stops.specs.Waiting.{stop_of}
use Rattle.std.proofs.lemmas.List.{length-map}
use Rattle.iox_wire_stops.proofs.waiting.list_waiting_requests.Goals as goal

pub returns-clause-ways : goal.returns-clause-ways
returns-clause-ways c p setting told =
    ap ways_of c.list_queues.ensures.stops ∙ same_ways c.deref.result.now ∙ ap sources.ways_of c.deref.ensures.value
    ∙ c.list_request_sources-terms.ensures.ways p setting told

pub returns-clause-queues : goal.returns-clause-queues
returns-clause-queues c p setting =
    are_told c.list_request_sources-terms.result (header_length Client) c.deref.result.now c.list_queues.new.stops.items c.queue_like.result.kind c.queue_like.result.capacity
    c.queue_like.ensures.kind c.queue_like.ensures.capacity c.list_queues.ensures.stops p
    (subst (AreSources p c.list_request_sources-terms.result (header_length Client)) (sym c.deref.ensures.value) (c.list_request_sources-terms.ensures.sources p setting))

pub returns-clause-within : goal.returns-clause-within
returns-clause-within c =
    told_in_memory c.list_request_sources-terms.result (header_length Client) c.deref.result.now c.list_queues.new.stops.items c.queue_like.result.kind c.queue_like.result.capacity
    c.queue_like.ensures.kind c.queue_like.ensures.capacity c.list_queues.ensures.stops
    (subst (AreWithin c.list_request_sources-terms.result (header_length Client)) (sym c.deref.ensures.value) c.list_request_sources-terms.ensures.within)

pub list_queues-requires : goal.list_queues-requires
list_queues-requires c =
    let many = c.list_request_sources-terms.ensures.many in let size = c.deref.ensures.len in
    let fit = ports_fit c.args.map.now in let asked = c.requires.stops in
    omega (arith, many, size, fit, asked)

pub returns-clause-few : goal.returns-clause-few
returns-clause-few c =
    let many = c.list_request_sources-terms.ensures.many in let size = c.deref.ensures.len in let fit = ports_fit c.args.map.now in
    let all = ap length c.list_queues.ensures.stops ∙ length-map c.deref.result.now stop_of in
    omega (arith, many, size, fit, all)
