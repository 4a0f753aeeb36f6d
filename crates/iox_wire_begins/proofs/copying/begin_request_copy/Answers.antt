use Rattle.std.proofs.Common.{◌≡◌, ℕ, ◌≤◌, List, ap, sym, subst, ◌∙◌}
use Rattle.iox_model.specs.declared.kind.Role.TheVariants.{Client}
use Rattle.iox_model.specs.Loans.{request_ways}
use Rattle.iox_wire_handle_calls.specs.Plans.{most_ways, number_at}
use Rattle.iox_wire_handle_calls.specs.Copies.{ArePayloads}
use Rattle.iox_wire_handle_calls.specs.SlotPlaces.{SlotPlaces}
use Rattle.iox_wire_handle_calls.specs.Lenders.{AreReturning}
use Rattle.iox_wire_handle_calls.specs.Known.{free_lanes, known}
use Rattle.iox_wire_handle_calls.specs.Lendings.{first_lane}
use Rattle.iox_wire_handle_calls.specs.CopyCalls.{KnowsServersOnLane}
use Rattle.iox_wire_handle_calls.specs.Stop.{Stop}
use Rattle.iox_wire_handle_calls.specs.Seats.{ways_of}
use Rattle.iox_wire_begins.proofs.TermLemmas.{has_slot}
use Rattle.iox_wire_handle_calls.specs.Copies.{CopyLoan}
use Rattle.iox_wire_begins.specs.ListRooms.{HasRoomToCopy}
use Rattle.iox_wire_begins.proofs.RoomLemmas.{list_fits, slots_fit}
use Rattle.iox_wire_begins.proofs.copying.begin_request_copy.Goals as goal

pub make_lender-lender-requires-clause-slot : goal.make_lender-lender-requires-clause-slot
make_lender-lender-requires-clause-slot c = has_slot c.args.map.now c.args.terms.now c.requires.plan Client c.args.client c.requires.client

pub payload_places-places-requires-clause-slot : goal.payload_places-places-requires-clause-slot
payload_places-places-requires-clause-slot c = has_slot c.args.map.now c.args.terms.now c.requires.plan Client c.args.client c.requires.client

pub begin-requires-clause-fits : goal.begin-requires-clause-fits
begin-requires-clause-fits c k is most =
    subst (λ (n : ℕ). n ≤ c.payload_places-places.result.room) (sym (c.requires.whole k is))
    (c.payload_places-places.ensures.fits k (subst (λ (n : ℕ). k ≤ n) c.make_lender-lender.ensures.longest most))

pub returns-clause-aimed : goal.returns-clause-aimed
returns-clause-aimed c p with next of_slot =
    let port : c.make_lender-lender.result.port ≡ number_at c.args.map.now c.args.client = c.make_lender-lender.ensures.number in
    c.begin.ensures.aimed p (c.make_lender-lender.ensures.lender p with) (c.make_lender-lender.ensures.client p with c.requires.client) next
    (subst (λ (n : ℕ). AreReturning p n c.deref.result.now) (sym c.make_lender-lender.ensures.room)
    (subst (λ (ss : List Stop). AreReturning p c.list_request_returns-room.result ss) (sym c.deref.ensures.value) (c.list_request_returns-room.ensures.places p with.setting)))
    (subst (λ (n : ℕ). ArePayloads p n c.make_lender-lender.result.places c.payload_places-places.result) (sym port)
    (subst (λ (t : SlotPlaces). ArePayloads p (number_at c.args.map.now c.args.client) t c.payload_places-places.result) (sym c.make_lender-lender.ensures.places)
    (c.payload_places-places.ensures.payloads p with.setting)))
    (ap ways_of c.deref.ensures.value ∙ c.list_request_returns-room.ensures.ways p with.setting
    ∙ ap (λ n. request_ways (known p c.args.seat.now.seat) (p.port n).node n) (sym port))
    (subst (λ (n : ℕ). KnowsServersOnLane p c.args.seat.now.seat n (first_lane c.make_lender-lender.result.pool (free_lanes c.args.seat.now.seat n)) c.tell_servers.new.copying.sends) (sym port)
    (subst (λ (n : ℕ). KnowsServersOnLane p c.args.seat.now.seat (number_at c.args.map.now c.args.client)
    (first_lane n (free_lanes c.args.seat.now.seat (number_at c.args.map.now c.args.client))) c.tell_servers.new.copying.sends) (sym c.make_lender-lender.ensures.pool)
    (c.tell_servers.ensures.knows p with)))
    of_slot

pub begin-requires-clause-ways : goal.begin-requires-clause-ways
begin-requires-clause-ways c =
    let rooms : HasRoomToCopy c.args.map.now c.tell_servers.new.copying.lends = subst (λ (r : CopyLoan). HasRoomToCopy c.args.map.now r) (sym c.tell_servers.ensures.lends) c.requires.rooms in
    list_fits c.deref.result.now c.list_request_returns-room.new.stops.items (most_ways c.args.map.now) c.tell_servers.new.copying.lends.lending.ways_room c.deref.ensures.value c.list_request_returns-room.ensures.few rooms.lending.ways

pub begin-requires-clause-words : goal.begin-requires-clause-words
begin-requires-clause-words c =
    let rooms : HasRoomToCopy c.args.map.now c.tell_servers.new.copying.lends = subst (λ (r : CopyLoan). HasRoomToCopy c.args.map.now r) (sym c.tell_servers.ensures.lends) c.requires.rooms in
    slots_fit c.args.map.now c.args.client c.make_lender-lender.result.places c.tell_servers.new.copying.lends.lending.words_room c.make_lender-lender.ensures.places rooms.lending.words

pub begin-requires-clause-payload : goal.begin-requires-clause-payload
begin-requires-clause-payload c =
    let rooms : HasRoomToCopy c.args.map.now c.tell_servers.new.copying.lends = subst (λ (r : CopyLoan). HasRoomToCopy c.args.map.now r) (sym c.tell_servers.ensures.lends) c.requires.rooms in
    slots_fit c.args.map.now c.args.client c.make_lender-lender.result.places c.tell_servers.new.copying.lends.payload_room c.make_lender-lender.ensures.places rooms.payload
