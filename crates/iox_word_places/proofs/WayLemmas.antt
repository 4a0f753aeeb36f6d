-- The queues and the request state of a way, by the indexes of its ports.
use Rattle.std.proofs.Common.{◌≡◌, ℕ, ◌+◌, ◌^◌, ◌<◌, ◌≤◌, true, false, length, get_or, refl, ap, subst, sym, ◌∙◌, arith}
use Rattle.std.specs.Option.{option_map_or}
use Rattle.iox_model.specs.declared.kind.Role.{Role}
use Rattle.iox_model.specs.declared.kind.Role.TheVariants.{Client, Server}
use Rattle.iox_model.specs.Maps.{has_number}
use Rattle.iox_model.specs.Settings.{same_role}
use Rattle.iox_steps.specs.declared.site.QueueKind.{QueueKind}
use Rattle.iox_steps.specs.declared.site.QueueKind.TheVariants.{Index}
use Rattle.iox_steps.specs.declared.site.Site.{Site}
use Rattle.iox_word_map.specs.WordMaps.{MessageQueue, ReturningQueue, QueueWords, IsRequestWay, IsResponseWay, piece_place, total_words, lane_place, lane_words}
use Rattle.iox_word_map.proofs.Places.{request_queues_are_computed, lanes_are_computed}
use Rattle.iox_wire_words.specs.Programs.{site_of, state_place}
use Rattle.iox_word_places.specs.declared.plan.PlanLimits.{PlanLimits}
use Rattle.iox_word_places.specs.declared.plan.PlanPort.{PlanPort}
use Rattle.iox_word_places.specs.declared.plan.WirePlan.{WirePlan}
use Rattle.iox_word_places.specs.declared.way_index.WayIndex.{WayIndex}
use Rattle.iox_word_places.specs.declared.way_index.WayIndex.TheVariants.{Requests, Responses}
use Rattle.iox_word_places.specs.Plans.{IsPlan, IsPortAt, IsLaneAt, IsWayAt, number_at, numbers_of, role_of, sizes_of, layout_of, way_at, sender_of, planned_buffer, message_kind, message_words, returning_words, returning_room}
use Rattle.iox_word_places.specs.declared.way_sizes.QueueSizes.{QueueSizes}
use Rattle.iox_word_places.specs.declared.way_sizes.WaySizes.{WaySizes}
use Rattle.iox_word_places.specs.MapFields.{AreQueueSizes, AreWaySizes, sizes_in}
use Rattle.iox_word_places.specs.PortSums.{way_start, way_size}
use Rattle.iox_word_places.proofs.PortLemmas.{named_at, unnamed_at}
use Rattle.iox_word_places.proofs.PlanLemmas.{there, number_is, port_is}
use Rattle.iox_word_places.proofs.PairLemmas.{index_there, client_of_lane, one_of}

module _ (plan : WirePlan) (is : IsPlan plan) where
  module _ (i : ℕ) (role : Role) (at : IsPortAt plan role i) where
    low : i < length plan.ports.items
    low = index_there PlanPort (λ p. p.role ≡ role) plan.ports.items i at

    d : PlanPort
    d = one_of plan.ports.items i low

    has_role : (get_or plan.ports.items i d).role ≡ role
    has_role = (there PlanPort (λ p. p.role ≡ role) plan.ports.items i d at).1

    role_at : role_of plan (number_at plan i) ≡ role
    role_at = ap (λ o. option_map_or (λ p. p.role) o Client) (port_is plan is.numbers i d low) ∙ has_role

    named : (other : Role) → same_role role other ≡ true → has_number (number_at plan i) (numbers_of plan other) ≡ true
    named other same =
        ap (λ k. has_number k (numbers_of plan other)) (number_is plan is.numbers i d low)
        ∙ named_at (λ p. same_role p.role other) plan.ports.items i d low (ap (λ r. same_role r other) has_role ∙ same)

    not_named : (other : Role) → same_role role other ≡ false → has_number (number_at plan i) (numbers_of plan other) ≡ false
    not_named other differs =
        ap (λ k. has_number k (numbers_of plan other)) (number_is plan is.numbers i d low)
        ∙ unnamed_at (λ p. same_role p.role other) plan.ports.items i d is.numbers low (ap (λ r. same_role r other) has_role ∙ differs)

  lanes_at : (i lane : ℕ) → IsLaneAt plan i lane → lane < (sizes_of plan).lanes (number_at plan i)
  lanes_at i lane l =
      let c : IsPortAt plan Client i = client_of_lane plan i lane l in
      let below = (there PlanPort (λ p. (p.role ≡ Client) × (lane < p.pool)) plan.ports.items i (d i Client c) l).1.1 in
      let e : (sizes_of plan).lanes (number_at plan i) ≡ (get_or plan.ports.items i (d i Client c)).pool =
      ap (λ o. option_map_or (λ p. p.pool) o 0) (port_is plan is.numbers i (d i Client c) (low i Client c)) in
      omega arith

  pub request_way_at : (i j : ℕ) → IsPortAt plan Client i → IsPortAt plan Server j → IsRequestWay (sizes_of plan) (way_at plan (Requests i j))
  request_way_at i j c s = (named i Client c Client refl, named j Server s Server refl, refl)

  pub response_way_at : (i j lane : ℕ) → IsLaneAt plan i lane → IsPortAt plan Server j
      → IsResponseWay (sizes_of plan) (way_at plan (Responses i j lane))
  response_way_at i j lane l s =
      (not_named j Server s Client refl, named j Server s Server refl, named i Client (client_of_lane plan i lane l) Client refl, lanes_at i lane l)

  -- ---- by the way

  pub sender_role : (way : WayIndex) → IsWayAt plan way → role_of plan (way_at plan way).sender ≡ sender_of way
  sender_role (Requests i j) at = role_at i Client at.0
  sender_role (Responses i j lane) at = role_at j Server at.1

  message_place : (way : WayIndex) → IsWayAt plan way → piece_place (sizes_of plan) (QueueWords (MessageQueue (way_at plan way))) ≡ way_start plan way
  message_place (Requests i j) at = (request_queues_are_computed (sizes_of plan) (way_at plan (Requests i j)) (request_way_at i j at.0 at.1)).0
  message_place (Responses i j lane) at = (lanes_are_computed (sizes_of plan) (way_at plan (Responses i j lane)) (response_way_at i j lane at.0 at.1)).0

  returning_place : (way : WayIndex) → IsWayAt plan way
      → piece_place (sizes_of plan) (QueueWords (ReturningQueue (way_at plan way))) ≡ way_start plan way + message_words plan.limits (sender_of way)
  returning_place (Requests i j) at = (request_queues_are_computed (sizes_of plan) (way_at plan (Requests i j)) (request_way_at i j at.0 at.1)).1
  returning_place (Responses i j lane) at = (lanes_are_computed (sizes_of plan) (way_at plan (Responses i j lane)) (response_way_at i j lane at.0 at.1)).1

  pub state_is : (i j lane : ℕ) → IsWayAt plan (Responses i j lane)
      → state_place (layout_of plan) (way_at plan (Responses i j lane))
      ≡ lane_place (sizes_of plan) (number_at plan i) (number_at plan j) lane + message_words plan.limits Server + returning_words plan.limits Server
  state_is i j lane at = (lanes_are_computed (sizes_of plan) (way_at plan (Responses i j lane)) (response_way_at i j lane at.0 at.1)).2

  queues_fit : (way : WayIndex) → message_words plan.limits (sender_of way) + returning_words plan.limits (sender_of way) ≤ way_size plan way
  queues_fit (Requests i j) = omega arith
  queues_fit (Responses i j lane) = omega arith

  same_site : (kind kind' : QueueKind) (base base' capacity capacity' : ℕ) → kind ≡ kind' → base ≡ base' → capacity ≡ capacity'
      → (let a : Site = record { kind = kind; base = base; capacity = capacity } in
      let b : Site = record { kind = kind'; base = base'; capacity = capacity' } in a ≡ b)
  same_site kind kind' base base' capacity capacity' k b c = λ i. record { kind = k i; base = b i; capacity = c i }

  module _ (way : WayIndex) (at : IsWayAt plan way) (sender : Role) (sender_is : sender ≡ sender_of way)
      (limits : PlanLimits) (limits_are : limits ≡ plan.limits) (base : ℕ) (base_is : base ≡ way_start plan way) where
    role_is : sender ≡ role_of plan (way_at plan way).sender
    role_is = sender_is ∙ sym (sender_role way at)

    by_role : (X : Type 0) (f : PlanLimits → Role → X) → f limits sender ≡ f plan.limits (role_of plan (way_at plan way).sender)
    by_role X f = ap (λ l. f l sender) limits_are ∙ ap (λ r. f plan.limits r) role_is

    pub message_queue_is : (kind : QueueKind) (capacity : ℕ) → kind ≡ message_kind limits sender → capacity ≡ planned_buffer limits sender
        → (let a : Site = record { kind = kind; base = base; capacity = capacity } in a ≡ site_of (layout_of plan) (MessageQueue (way_at plan way)))
    message_queue_is kind capacity kind_is capacity_is =
        same_site kind (message_kind plan.limits (role_of plan (way_at plan way).sender)) base
        (piece_place (sizes_of plan) (QueueWords (MessageQueue (way_at plan way)))) capacity
        (planned_buffer plan.limits (role_of plan (way_at plan way).sender))
        (kind_is ∙ by_role QueueKind message_kind) (base_is ∙ sym (message_place way at)) (capacity_is ∙ by_role ℕ planned_buffer)

    module _ (fits : total_words (sizes_of plan) < 2 ^ 64) (within : base + way_size plan way ≤ total_words (sizes_of plan))
        (queues : QueueSizes) (are : AreQueueSizes plan.limits sender queues) where
      waiting_is : queues.waiting ≡ message_words plan.limits (sender_of way)
      waiting_is =
          let q = queues_fit way in
          let same : message_words plan.limits sender ≡ message_words plan.limits (sender_of way) = ap (λ r. message_words plan.limits r) sender_is in
          let told : queues.waiting ≡ message_words plan.limits sender = are.waiting (omega arith) in
          told ∙ same

      pub waiting_fits : base + queues.waiting < 2 ^ 64
      waiting_fits = (let q = queues_fit way in let w = waiting_is in omega arith)

      pub returning_queue_is :
          (let a : Site = record { kind = Index; base = base + queues.waiting; capacity = queues.room } in
          a ≡ site_of (layout_of plan) (ReturningQueue (way_at plan way)))
      returning_queue_is =
          let q = queues_fit way in
          let same : returning_room plan.limits sender ≡ returning_room plan.limits (sender_of way) = ap (λ r. returning_room plan.limits r) sender_is in
          let is_room : queues.room ≡ returning_room plan.limits sender = are.room (omega arith) in
          let place : base + queues.waiting ≡ piece_place (sizes_of plan) (QueueWords (ReturningQueue (way_at plan way))) =
          (let p = returning_place way at in let w = waiting_is in omega arith) in
          same_site Index Index (base + queues.waiting) (piece_place (sizes_of plan) (QueueWords (ReturningQueue (way_at plan way)))) queues.room
          (returning_room plan.limits (role_of plan (way_at plan way).sender)) refl place
          (is_room ∙ same ∙ ap (λ r. returning_room plan.limits r) (sym (sender_role way at)))

-- the sizes of a sender's queues are among those of all ways
pub queues_are : (l : PlanLimits) (sizes : WaySizes) → AreWaySizes l sizes → (sender : Role) (queues : QueueSizes) → queues ≡ sizes_in sizes sender
    → AreQueueSizes l sender queues
queues_are l sizes are sender queues same = subst (AreQueueSizes l sender) (sym same) (are.queues sender)

-- the two queues of a lane stand before its request state
pub record StateFacts (plan : WirePlan) (client server lane base waiting returning : ℕ) : Type 0 where
  pub first : base + waiting < 2 ^ 64
  pub sum : base + waiting + returning < 2 ^ 64
  pub place : base + waiting + returning ≡ state_place (layout_of plan) (way_at plan (Responses client server lane))

pub state_facts : (plan : WirePlan) → IsPlan plan → total_words (sizes_of plan) < 2 ^ 64
    → (client server lane : ℕ) → IsWayAt plan (Responses client server lane)
    → (base : ℕ) → base ≡ lane_place (sizes_of plan) (number_at plan client) (number_at plan server) lane
    → base + lane_words (sizes_of plan) ≤ total_words (sizes_of plan)
    → (queues : QueueSizes) → AreQueueSizes plan.limits Server queues
    → StateFacts plan client server lane base queues.waiting queues.returning
state_facts plan is fits client server lane at base base_is within queues are =
    let M : ℕ = message_words plan.limits Server in
    let R : ℕ = returning_words plan.limits Server in
    let waiting_is : queues.waiting ≡ M = are.waiting (omega arith) in
    let returning_is : queues.returning ≡ R = are.returning (omega arith) in
    let place : state_place (layout_of plan) (way_at plan (Responses client server lane))
    ≡ lane_place (sizes_of plan) (number_at plan client) (number_at plan server) lane + M + R = state_is plan is client server lane at in
    record {
      first = omega arith;
      sum = omega arith;
      place = omega arith;
    }
