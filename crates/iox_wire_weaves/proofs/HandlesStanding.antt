-- Each handle of a living node between calls stands: its ports, its lane and its slot are the plan's.
use Rattle.std.specs.Prelude.{filter, IsSomeAnd, ◌++◌, ◌⊎◌}
use Rattle.std.specs.Option.{option_map_or}
use Rattle.std.proofs.Common.{◌≡◌, ℕ, ◌+◌, ◌-◌, ◌*◌, ◌/◌, ◌^◌, ◌<◌, ◌≤◌, ◌==◌, true, false, if◌then◌else◌, List, length, Option, Some, None, refl, ap, ap₂, sym, subst, ◌∙◌, arith, inl, inr, true≢false}
use Rattle.iox_model.specs.declared.kind.Kind.{Kind}
use Rattle.iox_model.specs.declared.kind.Kind.TheVariants as kinds
use Rattle.iox_model.specs.declared.kind.Role.{Role}
use Rattle.iox_model.specs.declared.kind.Role.TheVariants.{Client, Server}
use Rattle.iox_model.specs.declared.way.Way.{Way}
use Rattle.iox_model.specs.Handles.{is_received, is_request_loan, is_response_loan, same_kind}
use Rattle.iox_model.specs.Joins.{not_living}
use Rattle.iox_model.specs.Maps.{has_number}
use Rattle.iox_model.specs.Messages.{request_way, response_way}
use Rattle.iox_model.specs.Parts.{bytes_of_parts}
use Rattle.iox_model.specs.Settings.{Shape, is_client, message_size, same_role, shape_of}
use Rattle.iox_model.specs.States.{Fixed}
use Rattle.iox_model.proofs.LayoutLemmas.{IsPowerOfTwo-positive, aligned_place-ge}
use Rattle.iox_laws.proofs.WeaveLedger.Lists.{among-filter, among-map, among-number, find-among}
use Rattle.iox_word_map.specs.WordMaps.{IsResponseWay, Region, Sizes, piece_place, piece_size, total_words}
use Rattle.iox_word_map.proofs.Pieces.{pieces_are_sized, pieces_are_within}
use Rattle.iox_wire_nodes.specs.Desk.{Desk}
use Rattle.iox_wire_nodes.specs.Entry.{Entry}
use Rattle.iox_wire_nodes.specs.LocalsBegins.{is_busy}
use Rattle.iox_wire_nodes.specs.Nodes.{NodeView, seat_at, seat_in}
use Rattle.iox_wire_nodes.specs.declared.call_at.CallAt.{CallAt}
use Rattle.iox_wire_nodes.specs.declared.call_at.CallAt.TheVariants as at
use Rattle.iox_wire_nodes.specs.PlanPort.{PlanPort}
use Rattle.iox_wire_nodes.specs.WirePlan.{WirePlan}
use Rattle.iox_wire_nodes.specs.Plans.{details_of, numbers_of, role_of, sizes_of, slot_words_of}
use Rattle.iox_wire_nodes.specs.PlansOf.{IsAsPlanned, IsShapeOf}
use Rattle.iox_wire_nodes.specs.Programs.{WireLayout}
use Rattle.iox_wire_nodes.specs.Seat.{Seat}
use Rattle.iox_wire_nodes.specs.Tables.{Setting, entry_at, port_shape, state_in, way_in}
use Rattle.iox_wire_nodes.specs.WirePlans.{HandleStands, IsLaneOf, IsWirePlan}
use Rattle.iox_wire_nodes.specs.PlacedHandles.{HasSlot, IsWritableAs, is_loan_of, words_behind_header, words_each}
use Rattle.iox_wire_nodes.proofs.Planned.{Found}
use Rattle.iox_wire_needs.specs.CallPlaces.{SuitsPort, is_kind_of}
use Rattle.iox_wire_needs.specs.CallsStand.{CallStands}
use Rattle.iox_wire_needs.specs.Counts.{IsTidy}
use Rattle.iox_wire_needs.specs.CountedUses.{how_often}
use Rattle.iox_wire_needs.specs.Desks.{MayGiveUp}
use Rattle.iox_wire_needs.specs.Following.{Leaving, LeavesNothing, message_at}
use Rattle.iox_wire_needs.specs.Lanes.{lanes_in, lent_in}
use Rattle.iox_wire_needs.specs.Local.TheVariants.{Idle}
use Rattle.iox_wire_needs.specs.Nodes.{NodeStands}
use Rattle.iox_wire_needs.specs.Runs.{Run}
use Rattle.iox_wire_needs.specs.SlotsKnown.{HasEntry}
use Rattle.iox_wire_needs.specs.Stored.{HoldsStored, IsStored, IsWritten}
use Rattle.iox_wire_needs.proofs.Handles.{handles_may_be_given_up}
use Rattle.iox_wire_needs.proofs.LanesTell.{in_table, lane_of_client, low, request_has, there_is}
use Rattle.iox_wire_needs.proofs.OwnPorts.{is_response}
use Rattle.iox_wire_weaves.specs.Laws.{HandlesStand}
use Rattle.iox_wire_weaves.specs.Wires.{Shows, WireData, WireNode, living_refusal, node_at, players_of, seat_of}
use Rattle.iox_wire_weaves.proofs.PortSlots as slots
use Rattle.iox_wire_weaves.proofs.SlotRooms.{eighth, payload_behind, within}
use Rattle.iox_wire_weaves.proofs.NodesKnown.{entry_there, handle_kind, here, idle, if_some, lives, same}

-- ---- kinds and roles

-- a response is no active request
no_request : (kind : Kind) → same_kind kind kinds.Response ≡ true → same_kind kind kinds.ActiveRequest ≡ false
no_request kinds.Response is = refl
no_request kind is = absurd (true≢false (sym is))

client_role : (role : Role) → is_client role ≡ true → role ≡ Client
client_role Client is = refl
client_role Server is = absurd (true≢false (sym is))

-- a loan of a response is a server's
response_server : (role : Role) (kind : Kind) → is_kind_of role kind ≡ true → is_response_loan kind ≡ true → role ≡ Server
response_server Server kind is loan = refl
response_server Client kinds.RequestMut is loan = absurd (true≢false (sym loan))
response_server Client kinds.PendingResponse is loan = absurd (true≢false (sym loan))
response_server Client kinds.Response is loan = absurd (true≢false (sym loan))
response_server Client kind is loan = absurd (true≢false (sym is))

own_role : (role : Role) → same_role role role ≡ true
own_role Client = refl
own_role Server = refl

desks_alike : (x : NodeView) (c : CallAt) → (seat_at c x).desks ≡ x.seat.seat.desks
desks_alike x at.Seats = refl
desks_alike x at.Receives = refl
desks_alike x at.Lends = refl
desks_alike x at.SendsRequest = refl
desks_alike x at.SendsResponse = refl
desks_alike x at.CopiesRequest = refl
desks_alike x at.CopiesResponse = refl

-- a loan was not received
loan_is_own : (role : Role) (kind : Kind) → is_loan_of role kind ≡ true → is_received kind ≡ false
loan_is_own role kinds.Client is = refl
loan_is_own role kinds.Server is = refl
loan_is_own role kinds.RequestMutUninit is = refl
loan_is_own role kinds.RequestMut is = refl
loan_is_own role kinds.ResponseMutUninit is = refl
loan_is_own role kinds.ResponseMut is = refl
loan_is_own role kinds.PendingResponse is = refl
loan_is_own Client kinds.ActiveRequest is = absurd (true≢false (sym is))
loan_is_own Server kinds.ActiveRequest is = absurd (true≢false (sym is))
loan_is_own Client kinds.Response is = absurd (true≢false (sym is))
loan_is_own Server kinds.Response is = absurd (true≢false (sym is))

module _ (p : Setting) (wire : WireData) (r : Run) (n : ℕ) (x : WireNode) (shows : Shows p wire r) (there : node_at n wire.nodes ≡ Some x)
    (plan : IsWirePlan wire.plan wire.terms) (alive : living_refusal wire.nodes n ≡ None) (rests : is_busy (seat_in x.node).local ≡ false)
    (tidy : IsTidy (seat_in x.node)) (e : Entry) (has : HasEntry (seat_of p wire.nodes n) e) where
  abbrev s : Seat
  s = seat_of p wire.nodes n

  abbrev f : Fixed
  f = r.last.state.fixed

  at_rest : (seat_of p wire.nodes n).local ≡ Idle
  at_rest = idle p wire r n x shows there alive rests

  living : not_living r.last.state n ≡ None
  living = lives p wire r n x shows there alive rests

  leaves : LeavesNothing (message_at (seat_of p wire.nodes n).local)
  leaves = subst (λ l. LeavesNothing (message_at l)) (sym at_rest) tt

  mine : NodeStands p shows.stands.stands.held r.last.state (seat_of p wire.nodes n)
  mine = subst (NodeStands p shows.stands.stands.held r.last.state) (same p wire r n x shows there alive rests) (shows.stands.stands.nodes n living)

  stored : HoldsStored p shows.stands.stands.held shows.stands.stands.contents (seat_of p wire.nodes n)
  stored = subst (HoldsStored p shows.stands.stands.held shows.stands.stands.contents) (same p wire r n x shows there alive rests) (shows.stands.messages.nodes n living)

  call : CallStands p shows.stands.stands.held (seat_of p wire.nodes n)
  call = subst (CallStands p shows.stands.stands.held) (same p wire r n x shows there alive rests) (shows.stands.calls n living)

  suits : SuitsPort p (seat_of p wire.nodes n) e.port e.kind
  suits = call.fits.handles e has

  -- ---- the plan

  sizes_are : p.layout.sizes ≡ sizes_of wire.plan
  sizes_are = slots.sizes_are p wire r shows

  planned : (port : ℕ) → has_number port p.layout.sizes.ports ≡ true → Found (λ q. IsAsPlanned q (p.port q.number)) wire.plan.ports.items port
  planned port known = slots.planned p wire r shows port known

  module _ (port : ℕ) (known : has_number port p.layout.sizes.ports ≡ true) where
    abbrev q : PlanPort
    q = (planned port known).port

    pool_is : (p.port port).pool ≡ (planned port known).port.pool
    unfolding planned
    pool_is = slots.pool_is p wire r shows port known

    role_is : (p.port port).role ≡ (planned port known).port.role
    role_is = ap (λ k. (p.port k).role) (sym (planned port known).number) ∙ (planned port known).so.role

    role_there : role_of wire.plan port ≡ (p.port port).role
    role_there = ap (λ (o : Option PlanPort). option_map_or (λ (d : PlanPort). d.role) o Client) (planned port known).found ∙ sym role_is

    -- it is one of its role
    of_role : (role : Role) → (p.port port).role ≡ role → has_number port (numbers_of wire.plan role) ≡ true
    of_role role is =
        subst (λ k. has_number k (numbers_of wire.plan role) ≡ true) (planned port known).number
        (among-number q.number (numbers_of wire.plan role)
        (among-map (λ (d : PlanPort). d.number) q (filter (λ d. same_role d.role role) wire.plan.ports.items)
        (among-filter (λ (d : PlanPort). same_role d.role role) q wire.plan.ports.items
        (find-among (λ (d : PlanPort). d.number == port) q wire.plan.ports.items (planned port known).found).0
        (ap (λ d. same_role d role) (sym role_is ∙ is) ∙ own_role role))))

    lanes_are : (sizes_of wire.plan).lanes port ≡ (p.port port).pool
    lanes_are = ap (λ (o : Option PlanPort). option_map_or (λ (d : PlanPort). d.pool) o 0) (planned port known).found ∙ sym pool_is

  -- ---- ways and lanes

  on_plan : (y : Way) → IsResponseWay p.layout.sizes y → IsResponseWay (sizes_of wire.plan) y
  on_plan y way = subst (λ z. IsResponseWay z y) sizes_are way

  -- the request state of an active request
  asks : same_kind e.kind kinds.ActiveRequest ≡ true → IsResponseWay (sizes_of wire.plan) (state_in e)
  asks is =
      let q = (mine.released e has).request is in
      on_plan (state_in e) (is_response p f shows.stands.stands.layout e.client e.lane e.port q.3 q.0.0 q.1)

  -- the way on which a response came
  came : same_kind e.kind kinds.Response ≡ true → IsResponseWay (sizes_of wire.plan) (way_in e)
  came is =
      let q = (mine.released e has).response is in
      subst (λ b. IsResponseWay (sizes_of wire.plan) (if b then request_way e.client e.port else response_way e.port e.lane e.sender)) (sym (no_request e.kind is))
      (on_plan (response_way e.port e.lane e.sender) (is_response p f shows.stands.stands.layout e.port e.lane e.sender q.0.0 q.2 q.1))

  -- the lane of a pending response
  waits : same_kind e.kind kinds.PendingResponse ≡ true → (has_number e.port (sizes_of wire.plan).clients ≡ true) × (e.lane < (sizes_of wire.plan).lanes e.port)
  waits is =
      let q = (mine.released e has).pending is in
      subst (λ (z : Sizes). (has_number e.port z.clients ≡ true) × (e.lane < z.lanes e.port)) sizes_are (
        subst (λ ks. has_number e.port ks ≡ true) (sym shows.stands.stands.layout.clients) q.0.0,
        subst (λ k. e.lane < k) (sym (shows.stands.stands.layout.lanes e.port q.0.0)) q.1,
      )

  -- the lane of a loaned request
  lent : is_request_loan e.kind ≡ true → IsLaneOf wire.plan e.port e.lane
  lent is =
      let client : is_client (p.port e.port).role ≡ true = lane_of_client (p.port e.port).role e.kind suits.1 (request_has e.kind is) in
      let once : 1 ≤ how_often e.lane (lanes_in e.port (lent_in (message_at s.local) ++ s.table))
      = subst (λ m. 1 ≤ how_often e.lane (lanes_in e.port (lent_in m ++ s.table))) (sym (ap message_at at_rest))
      (there_is e.port e s.table (in_table s e has) (request_has e.kind is) refl) in
      record {
        is_client = of_role e.port suits.0.0 Client (client_role (p.port e.port).role client);
        is_lane = subst (λ k. e.lane < k) (sym (lanes_are e.port suits.0.0)) (low p s call.lanes e.port suits.0 client e.lane once);
      }

  -- ---- its slot

  low_slot : e.slot < (p.port e.sender).pool
  low_slot = by_part (mine.in_pools e has)
    where
      by_part : (e.slot < (p.port e.sender).pool) ⊎ (message_at (seat_of p wire.nodes n).local ≡ Leaving e) → e.slot < (p.port e.sender).pool
      by_part (inl less) = less
      by_part (inr gone) = absurd (subst LeavesNothing gone leaves)

  message : IsStored p shows.stands.stands.held shows.stands.stands.contents e.sender e.slot
  message = stored.entries e has low_slot (λ written. subst (λ l. IsWritten l e) at_rest written)

  known : has_number e.sender p.layout.sizes.ports ≡ true
  known = message.fits.region.there

  slot : HasSlot wire.plan e.sender e.slot
  slot =
      subst (λ (o : Option PlanPort). IsSomeAnd o (λ (d : PlanPort). e.slot < d.pool)) (sym (planned e.sender known).found)
      (subst (λ k. e.slot < k) (pool_is e.sender known) low_slot)

  -- the way on which a loaned response goes
  answers : is_response_loan e.kind ≡ true → IsResponseWay (sizes_of wire.plan) (state_in e)
  answers is =
      let lane = (stored.suits e has low_slot).lane is in
      let client : has_number e.client p.layout.sizes.clients ≡ true = lane.0 in
      let found = subst (λ ks. has_number e.client ks ≡ true) shows.stands.stands.layout.clients client in
      let server : has_number e.port p.layout.sizes.servers ≡ true
      = subst (λ (z : Sizes). has_number e.port z.servers ≡ true) (sym sizes_are) (of_role e.port suits.0.0 Server (response_server (p.port e.port).role e.kind suits.1 is)) in
      on_plan (state_in e)
      (is_response p f shows.stands.stands.layout e.client e.lane e.port found
      (subst (λ ks. has_number e.port ks ≡ true) shows.stands.stands.layout.servers server)
      (subst (λ k. e.lane < k) (shows.stands.stands.layout.lanes e.client found) lane.1))

  -- ---- its words

  words_are : words_behind_header wire.plan e.sender e.elements ≡ length (port_shape p e.sender).user + e.elements * (port_shape p e.sender).width
  words_are =
      let role : Role = role_of wire.plan e.sender in
      let shape : IsShapeOf (details_of wire.plan role) role (shape_of p.limits role) = shows.setting.setting.is_for.shapes role in
      ap₂ (λ (a b : ℕ). a + e.elements * b) (eighth (details_of wire.plan role).user_header.size (length (shape_of p.limits role).user) shape.user)
      (eighth (details_of wire.plan role).payload.size (shape_of p.limits role).width shape.element)
      ∙ ap (λ (d : Role). length (shape_of p.limits d).user + e.elements * (shape_of p.limits d).width) (role_there e.sender known)

  abbrev d : Shape
  d = port_shape p e.sender

  in_region : length (port_shape p e.sender).user + e.elements * (port_shape p e.sender).width ≤ p.layout.sizes.region e.sender
  in_region =
      within d.header_part.size d.user_part.size (d.user_part.alignment - 1) d.element_part.size (d.element_part.alignment - 1) (length d.user) d.width e.elements
      (p.port e.sender).longest (message_size d (p.port e.sender).longest) (p.layout.sizes.region e.sender) (p.port e.sender).pool e.slot
      message.fits.region.user message.fits.region.element (subst (λ k. k ≤ (p.port e.sender).longest) (stored.lengths e has low_slot) message.fits.room)
      (aligned_place-ge (bytes_of_parts d.header_part d.user_part d.element_part (p.port e.sender).longest) d.header_part.alignment
      (IsPowerOfTwo-positive d.header_part.alignment message.fits.region.header_part))
      message.fits.region.region low_slot

  in_wire : p.layout.sizes.region e.sender ≤ total_words p.layout.sizes
  in_wire =
      let z : Sizes = p.layout.sizes in
      let inside : piece_place z (Region e.sender) + piece_size z (Region e.sender) ≤ total_words z = pieces_are_within z (Region e.sender) known in
      let size : piece_size z (Region e.sender) ≡ z.region e.sender = (pieces_are_sized z).0 e.sender in
      omega (arith, inside, size)

  memory : total_words (sizes_of wire.plan) + words_behind_header wire.plan e.sender e.elements < 2 ^ 64
  memory =
      let same_total : total_words p.layout.sizes ≡ total_words (sizes_of wire.plan) = ap total_words sizes_are in
      let words = words_are in let region = in_region in let all = in_wire in let few : 2 * total_words (sizes_of wire.plan) < 2 ^ 64 = plan.memory in
      counted (total_words (sizes_of wire.plan)) (words_behind_header wire.plan e.sender e.elements) (total_words p.layout.sizes) (p.layout.sizes.region e.sender)
      (length (port_shape p e.sender).user + e.elements * (port_shape p e.sender).width) same_total words region all few
    where
      counted : (total count own region m : ℕ) → own ≡ total → count ≡ m → m ≤ region → region ≤ own → 2 * total < 2 ^ 64 → total + count < 2 ^ 64
      counted total count own region m is words less inside few = omega (arith, is, words, less, inside, few)

  -- ---- and those of a slot

  in_slot : length (port_shape p e.sender).user + e.elements * (port_shape p e.sender).width ≤ slot_words_of wire.plan e.sender
  in_slot =
      slots.message_in_slot p wire r shows e.sender known message.fits.region e.slot e.elements low_slot
      (subst (λ k. k ≤ (p.port e.sender).longest) (stored.lengths e has low_slot) message.fits.room)

  few : words_behind_header wire.plan e.sender e.elements ≤ slot_words_of wire.plan e.sender
  few = subst (λ k. k ≤ slot_words_of wire.plan e.sender) (sym words_are) in_slot

  -- ---- the payload of a loan

  role_own : (role : Role) → is_loan_of role e.kind ≡ true → (p.port e.port).role ≡ role
  role_own Client is = client_role (p.port e.port).role (lane_of_client (p.port e.port).role e.kind suits.1 (request_has e.kind is))
  role_own Server is = response_server (p.port e.port).role e.kind suits.1 is

  writable : (role : Role) → IsWritableAs wire.plan role e
  writable role loan =
      let own : e.sender ≡ e.port = ((mine.names.entries e has).own (loan_is_own role e.kind loan)).1 in
      let role_is : role_of wire.plan e.sender ≡ role = role_there e.sender known ∙ ap (λ k. (p.port k).role) own ∙ role_own role loan in
      let same : e.elements * words_each wire.plan (role_of wire.plan e.sender) ≡ e.elements * words_each wire.plan role
      = ap (λ k. e.elements * words_each wire.plan k) role_is in
      let behind = payload_behind wire.plan e.sender e.elements in let all = few in let low = memory in
      record {
        few = subst (λ k. e.elements * words_each wire.plan role ≤ slot_words_of wire.plan k) own
            (less (e.elements * words_each wire.plan role) (e.elements * words_each wire.plan (role_of wire.plan e.sender)) (words_behind_header wire.plan e.sender e.elements)
            (slot_words_of wire.plan e.sender) same behind all);
        memory = lower (total_words (sizes_of wire.plan)) (e.elements * words_each wire.plan role) (e.elements * words_each wire.plan (role_of wire.plan e.sender))
            (words_behind_header wire.plan e.sender e.elements) same behind low;
      }
    where
      less : (a b c k : ℕ) → b ≡ a → b ≤ c → c ≤ k → a ≤ k
      less a b c k is behind all = omega (arith, is, behind, all)

      lower : (total a b c : ℕ) → b ≡ a → b ≤ c → total + c < 2 ^ 64 → total + a < 2 ^ 64
      lower total a b c is behind low = omega (arith, is, behind, low)

  -- ---- together

  small : (k : ℕ) → k < 2 ^ 62 → k + 1 < 2 ^ 63
  small k less = omega (arith, less)

  pub handle_stands : HandleStands wire.plan x.node.seat.seat.desks e
  handle_stands = record {
    handle = handle_kind (p.port e.port).role e.kind suits.1;
    released = record {
      response = came;
      request = asks;
      pending = waits;
      own = λ own.
          subst (λ (ds : List Desk). MayGiveUp e ds) (ap (λ (d : Seat). d.desks) (here p wire r n x shows there) ∙ desks_alike x.node x.node.at)
          (handles_may_be_given_up p wire.words (players_of p wire.nodes r) r n shows.stands living at_rest (subst IsTidy (sym (here p wire r n x shows there)) tidy) e has own);
    };
    states = record { pending = waits; request = asks };
    hint = small e.request (stored.suits e has low_slot).small;
    readable = record { slot = slot; few = few; memory = memory };
    writable = writable;
    own = λ own. ((mine.names.entries e has).own own).1;
    request = lent;
    response = answers;
  }

pub handles_stand : HandlesStand
handles_stand p wire r n x shows plan there alive rests tidy k =
    if_some (HandleStands wire.plan x.node.seat.seat.desks) (entry_at k x.node.seat.seat.table)
    (λ e at. handle_stands p wire r n x shows there plan alive rests tidy e (entry_there p wire r n x shows there alive rests k e at))
