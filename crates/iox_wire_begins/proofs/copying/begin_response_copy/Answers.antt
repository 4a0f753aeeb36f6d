use Rattle.std.proofs.Common.{◌≡◌, ℕ, ◌≤◌, List, ap, sym, subst, ◌∙◌}
use Rattle.iox_model.specs.declared.way.Way.{Way}
use Rattle.iox_wire_handle_calls.specs.Plans.{most_ways, number_at}
use Rattle.iox_wire_handle_calls.specs.Copies.{ArePayloads}
use Rattle.iox_wire_handle_calls.specs.SlotPlaces.{SlotPlaces}
use Rattle.iox_wire_handle_calls.specs.Lenders.{AreReturning}
use Rattle.iox_wire_handle_calls.specs.Stop.{Stop}
use Rattle.iox_wire_handle_calls.specs.Copies.{CopyLoan}
use Rattle.iox_wire_begins.specs.ListRooms.{HasRoomToCopy}
use Rattle.iox_wire_begins.proofs.RoomLemmas.{list_fits, slots_fit}
use Rattle.iox_wire_begins.proofs.copying.begin_response_copy.Goals as goal

pub begin-requires-clause-fits : goal.begin-requires-clause-fits
begin-requires-clause-fits c k is most =
    subst (λ (n : ℕ). n ≤ c.payload_places-places.result.room) (sym (c.requires.whole k is))
    (c.payload_places-places.ensures.fits k (subst (λ (n : ℕ). k ≤ n) c.make_lender-lender.ensures.longest most))

pub returns-clause-aimed : goal.returns-clause-aimed
returns-clause-aimed c p with next of_slot =
    let port : c.make_lender-lender.result.port ≡ number_at c.args.map.now c.args.server = c.make_lender-lender.ensures.number in
    c.begin.ensures.aimed p (c.make_lender-lender.ensures.lender p with) (c.make_lender-lender.ensures.server p with c.requires.way.1)
    (ap (λ (w : Way). w.sender) c.requires.own ∙ sym port) next
    (subst (λ (n : ℕ). AreReturning p n c.deref.result.now) (sym c.make_lender-lender.ensures.room)
    (subst (λ (ss : List Stop). AreReturning p c.list_response_returns-room.result ss) (sym c.deref.ensures.value) (c.list_response_returns-room.ensures.places p with.setting)))
    (subst (λ (n : ℕ). ArePayloads p n c.make_lender-lender.result.places c.payload_places-places.result) (sym port)
    (subst (λ (t : SlotPlaces). ArePayloads p (number_at c.args.map.now c.args.server) t c.payload_places-places.result) (sym c.make_lender-lender.ensures.places)
    (c.payload_places-places.ensures.payloads p with.setting)))
    (λ loan same. c.response_terms-told.ensures.told p loan with (same ∙ c.requires.own))
    of_slot

pub begin-requires-clause-ways : goal.begin-requires-clause-ways
begin-requires-clause-ways c =
    let rooms : HasRoomToCopy c.args.map.now c.args.copying.now.lends = c.requires.rooms in
    list_fits c.deref.result.now c.list_response_returns-room.new.stops.items (most_ways c.args.map.now) c.args.copying.now.lends.lending.ways_room c.deref.ensures.value c.list_response_returns-room.ensures.few rooms.lending.ways

pub begin-requires-clause-words : goal.begin-requires-clause-words
begin-requires-clause-words c =
    let rooms : HasRoomToCopy c.args.map.now c.args.copying.now.lends = c.requires.rooms in
    slots_fit c.args.map.now c.args.server c.make_lender-lender.result.places c.args.copying.now.lends.lending.words_room c.make_lender-lender.ensures.places rooms.lending.words

pub begin-requires-clause-payload : goal.begin-requires-clause-payload
begin-requires-clause-payload c =
    let rooms : HasRoomToCopy c.args.map.now c.args.copying.now.lends = c.requires.rooms in
    slots_fit c.args.map.now c.args.server c.make_lender-lender.result.places c.args.copying.now.lends.payload_room c.make_lender-lender.ensures.places rooms.payload
