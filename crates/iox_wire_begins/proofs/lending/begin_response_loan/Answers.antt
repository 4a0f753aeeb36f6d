use Rattle.iox_wire_handle_calls.specs.Plans.{most_ways}
use Rattle.iox_wire_begins.proofs.RoomLemmas.{list_fits, slots_fit}
use Rattle.iox_wire_begins.proofs.lending.begin_response_loan.Goals as goal

pub lend_response-requires-clause-fits : goal.lend_response-requires-clause-fits
lend_response-requires-clause-fits c =
    list_fits c.deref.result.now c.list_response_returns-room.new.stops.items (most_ways c.args.map.now) c.args.lending.now.ways_room c.deref.ensures.value c.list_response_returns-room.ensures.few c.requires.rooms.ways

pub lend_response-requires-clause-words : goal.lend_response-requires-clause-words
lend_response-requires-clause-words c =
    slots_fit c.args.map.now c.args.server c.make_lender-lender.result.places c.args.lending.now.words_room c.make_lender-lender.ensures.places c.requires.rooms.words
