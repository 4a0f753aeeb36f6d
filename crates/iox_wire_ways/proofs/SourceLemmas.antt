-- What a server's receive is told about a client is so on the wire, and in memory.
use Rattle.std.proofs.Common.{◌≡◌, ℕ, ◌+◌, ◌-◌, ◌*◌, ◌<◌, ◌≤◌, ◌^◌, Bool, List, map, refl, ap, ap₂, sym, subst, ◌∙◌, arith}
use Rattle.std.specs.Prelude.{find, ◌==◌}
use Rattle.std.specs.Option.{option_map_or}
use Rattle.std.proofs.Math.Nat.{add-mul}
use Rattle.iox_model.specs.declared.kind.Role.{Role}
use Rattle.iox_model.specs.declared.kind.Role.TheVariants.{Client, Server}
use Rattle.iox_model.specs.declared.way.Way.{Way}
use Rattle.iox_model.specs.Messages.{response_way}
use Rattle.iox_model.specs.Settings.{borrow_limit_of, other_role}
use Rattle.iox_model.specs.States.{Port}
use Rattle.iox_steps.specs.declared.site.QueueKind.TheVariants.{Index}
use Rattle.iox_steps.specs.declared.site.Site.{Site}
use Rattle.iox_word_map.specs.WordMaps.{MessageQueue, ReturningQueue, QueueWords, StateWord, IsResponseWay, lane_place, lane_words, pair_place, piece_place, piece_size, total_words}
use Rattle.iox_word_map.proofs.Pieces.{pieces_are_sized, pieces_are_within}
use Rattle.iox_word_map.proofs.Places.{lanes_are_computed, request_queues_are_computed}
use Rattle.iox_wire_messages.specs.PlanLimits.{PlanLimits}
use Rattle.iox_wire_messages.specs.WirePlan.{WirePlan}
use Rattle.iox_wire_messages.specs.WayIndex.TheVariants.{Requests, Responses}
use Rattle.iox_wire_messages.specs.Plans.{IsLaneAt, IsPlan, IsPortAt, layout_of, message_kind, number_at, planned_buffer, port_numbers, returning_room, role_of, sizes_of, slot_words_of, way_at}
use Rattle.iox_wire_messages.proofs.WayLemmas.{request_way_at, response_way_at, sender_role}
use Rattle.iox_wire_messages.specs.Programs.{WireLayout, site_of, state_place, word_place}
use Rattle.iox_wire_messages.specs.Stored.{header_length}
use Rattle.iox_wire_messages.specs.Tables.{Setting, region_word}
use Rattle.iox_wire_messages.specs.PlansOf.{IsSettingOf}
use Rattle.iox_wire_messages.proofs.Layouts.{planned_settings_agree}
use Rattle.iox_wire_messages.proofs.Planned.{same_found}
use Rattle.iox_wire_receives.specs.Sources.{IsSource, IsWithin, messages_at, returning_at}
use Rattle.iox_wire_messages.specs.Aims.{IsInMemory}
use Rattle.iox_wire_messages.proofs.BeginLemmas.{forgot_is, queue_in_memory}
use Rattle.iox_wire_ways.specs.RequestSources.{HasRequestWays, request_source, request_terms}
use Rattle.iox_wire_ways.proofs.HeaderLemmas.{header_fits, header_word, low, pool_planned, slots_in_memory}

abbrev pub queue_of : PlanLimits → ℕ → Role → Site
queue_of l base r = record { kind = message_kind l r; base = base; capacity = planned_buffer l r }

abbrev pub back_of : ℕ → ℕ → Site
back_of base n = record { kind = Index; base = base; capacity = n }

-- ---- sums

one_less : (lanes words : ℕ) → 0 < lanes → lanes * words ≡ (lanes - 1) * words + words
one_less lanes words some =
    let e : lanes ≡ (lanes - 1) + 1 = omega (arith, some) in
    ap (λ n. n * words) e ∙ add-mul (lanes - 1) 1 words ∙ omega arith

-- ---- a client and a server of a plan

module _ (plan : WirePlan) (is : IsPlan plan) (i j : ℕ) (c : IsPortAt plan Client i) (s : IsPortAt plan Server j) (l : IsLaneAt plan i 0) where
  abbrev w : Way
  w = way_at plan (Requests i j)

  sender_is : role_of plan (number_at plan i) ≡ Client
  sender_is = sender_role plan is (Requests i j) (c, s)

  receiver_is : role_of plan (number_at plan j) ≡ Server
  receiver_is = sender_role plan is (Responses i j 0) (l, s)

  -- ---- places

  queues : (piece_place (sizes_of plan) (QueueWords (MessageQueue w)) ≡ pair_place (sizes_of plan) (number_at plan i) (number_at plan j))
      × (piece_place (sizes_of plan) (QueueWords (ReturningQueue w)) ≡ pair_place (sizes_of plan) (number_at plan i) (number_at plan j) + (sizes_of plan).requests)
  queues = request_queues_are_computed (sizes_of plan) w (request_way_at plan is i j c s)

  first_lane : IsResponseWay (sizes_of plan) (response_way (number_at plan i) 0 (number_at plan j))
  first_lane = response_way_at plan is i j 0 l s

  lane_way : (lane : ℕ) → lane < (sizes_of plan).lanes (number_at plan i) → IsResponseWay (sizes_of plan) (response_way (number_at plan i) lane (number_at plan j))
  lane_way lane below = (first_lane.0, first_lane.1, first_lane.2, below)

  state_there : (lane : ℕ) → lane < (sizes_of plan).lanes (number_at plan i)
      → piece_place (sizes_of plan) (StateWord (response_way (number_at plan i) lane (number_at plan j)))
      ≡ lane_place (sizes_of plan) (number_at plan i) (number_at plan j) lane + (sizes_of plan).responses + (sizes_of plan).responses_returning
  state_there lane below = (lanes_are_computed (sizes_of plan) (response_way (number_at plan i) lane (number_at plan j)) (lane_way lane below)).2

  state_within : (lane : ℕ) → lane < (sizes_of plan).lanes (number_at plan i)
      → piece_place (sizes_of plan) (StateWord (response_way (number_at plan i) lane (number_at plan j))) + 1 ≤ total_words (sizes_of plan)
  state_within lane below =
      let y : Way = response_way (number_at plan i) lane (number_at plan j) in
      let a : piece_place (sizes_of plan) (StateWord y) + piece_size (sizes_of plan) (StateWord y) ≤ total_words (sizes_of plan) =
      pieces_are_within (sizes_of plan) (StateWord y) (lane_way lane below) in
      let b : piece_size (sizes_of plan) (StateWord y) ≡ 1 = ((pieces_are_sized (sizes_of plan)).2 y (lane_way lane below)).2 in
      omega (arith, a, b)

  messages_are : (ff : Bool) (number : ℕ) → messages_at (request_terms plan ff number) (request_source plan j i) ≡ site_of (layout_of plan) (MessageQueue w)
  messages_are ff number = ap (queue_of plan.limits (piece_place (sizes_of plan) (QueueWords (MessageQueue w)))) (sym sender_is)

  returning_are : (ff : Bool) (number : ℕ) → returning_at (request_terms plan ff number) (request_source plan j i) ≡ site_of (layout_of plan) (ReturningQueue w)
  returning_are ff number =
      ap₂ back_of (ap (λ k. k + (sizes_of plan).requests) queues.0 ∙ sym queues.1) (ap (λ r. returning_room plan.limits r) (sym sender_is))

  -- ---- on the wire

  module _ (p : Setting) (setting : IsSettingOf plan p) where
    pub source_is : (ff : Bool) (number : ℕ) → IsSource p (request_terms plan ff number) (header_length Client) (request_source plan j i)
    source_is ff number = record {
      messages = messages_are ff number ∙ ap (λ (y : WireLayout). site_of y (MessageQueue w)) (sym setting.layout);
      returning = returning_are ff number ∙ ap (λ (y : WireLayout). site_of y (ReturningQueue w)) (sym setting.layout);
      words = λ slot k there_is below.
          (let h : region_word p (number_at plan i) slot k ≡ slot * slot_words_of plan (number_at plan i) + k = header_word plan is Client i c p setting slot k below in
          omega (arith, h))
          ∙ ap (λ (y : WireLayout). word_place y (number_at plan i) (region_word p (number_at plan i) slot k)) (sym setting.layout);
      states = λ lane below.
          (let a = queues.0 in let b = state_there lane below in omega (arith, a, b))
          ∙ ap (λ (y : WireLayout). state_place y (response_way (number_at plan i) lane (number_at plan j))) (sym setting.layout);
      pool = pool_planned plan is Client i c p setting;
      lanes = λ of_requests. ap (λ (y : WireLayout). y.sizes.lanes (number_at plan i)) (sym setting.layout);
      node = λ x. forgot_is p plan x i (planned_settings_agree plan p setting) is (low plan is Client i c);
      limit = λ x.
          ap (λ (rs : List Port). borrow_limit_of p.limits (other_role (option_map_or (λ (r : Port). r.role) (find (λ (r : Port). r.number == number_at plan j) rs) Client)))
          (ap (λ (y : WireLayout). map p.port y.sizes.ports) setting.layout)
          ∙ ap (λ r. borrow_limit_of p.limits (other_role r))
          (same_found (λ q. q.role) (λ r. r.role) Client (number_at plan j) (λ q r like. like.role) plan.ports.items (map p.port (port_numbers plan)) setting.is_for.ports ∙ receiver_is)
          ∙ sym (setting.is_for.borrows Client);
    }

  -- ---- in memory

  pub source_within : (ff : Bool) (number : ℕ) → HasRequestWays plan → IsWithin (request_terms plan ff number) (header_length Client) (request_source plan j i)
  source_within ff number known =
      let memory : 2 * total_words (sizes_of plan) < 2 ^ 64 = known.memory in
      let fits : total_words (sizes_of plan) < 2 ^ 64 = omega (arith, memory) in
      let in_memory = queue_in_memory plan (Requests i j) (total_words (sizes_of plan)) is (c, s) refl fits in
      record {
        messages = subst IsInMemory (sym (messages_are ff number)) in_memory.0;
        returning = subst IsInMemory (sym (returning_are ff number)) in_memory.1;
        slots = slots_in_memory plan is Client i c (total_words (sizes_of plan)) refl fits;
        room = header_fits plan is Client i c known.header;
        states =
            let z = sizes_of plan in
            let some : 0 < (sizes_of plan).lanes (number_at plan i) = first_lane.3 in
            let last : (sizes_of plan).lanes (number_at plan i) - 1 < (sizes_of plan).lanes (number_at plan i) = omega (arith, some) in
            let split = one_less ((sizes_of plan).lanes (number_at plan i)) (lane_words (sizes_of plan)) some in
            let a = queues.0 in
            let b = state_there 0 some in
            let e = state_within 0 some in
            let f = state_there ((sizes_of plan).lanes (number_at plan i) - 1) last in
            let g = state_within ((sizes_of plan).lanes (number_at plan i) - 1) last in
            omega (arith, split, a, b, e, f, g, memory);
      }

  -- ---- as the ways of one client tell it

  pub told_back : piece_place (sizes_of plan) (QueueWords (ReturningQueue w)) ≡ piece_place (sizes_of plan) (QueueWords (MessageQueue w)) + (sizes_of plan).requests
  told_back = queues.1 ∙ ap (λ k. k + (sizes_of plan).requests) (sym queues.0)

  pub told_state : state_place (layout_of plan) (way_at plan (Responses i j 0))
      ≡ piece_place (sizes_of plan) (QueueWords (MessageQueue w)) + ((sizes_of plan).requests + (sizes_of plan).requests_returning + (sizes_of plan).responses + (sizes_of plan).responses_returning)
  told_state =
      let a = queues.0 in
      let b = state_there 0 first_lane.3 in
      omega (arith, a, b)

  pub told_lane : state_place (layout_of plan) (way_at plan (Responses i j 0)) + 1
      ≡ piece_place (sizes_of plan) (QueueWords (MessageQueue (way_at plan (Responses i j 0)))) + lane_words (sizes_of plan)
  told_lane =
      let a = (lanes_are_computed (sizes_of plan) (response_way (number_at plan i) 0 (number_at plan j)) first_lane).0 in
      let b = state_there 0 first_lane.3 in
      omega (arith, a, b)

  pub told_within : state_place (layout_of plan) (way_at plan (Responses i j 0)) + 1 ≤ total_words (sizes_of plan)
  told_within = state_within 0 first_lane.3

  pub told_kind : (site_of (layout_of plan) (MessageQueue w)).kind ≡ message_kind plan.limits Client
  told_kind = ap (λ r. message_kind plan.limits r) sender_is

  pub told_capacity : (site_of (layout_of plan) (MessageQueue w)).capacity ≡ planned_buffer plan.limits Client
  told_capacity = ap (λ r. planned_buffer plan.limits r) sender_is

  pub told_room : (site_of (layout_of plan) (ReturningQueue w)).capacity ≡ returning_room plan.limits Client
  told_room = ap (λ r. returning_room plan.limits r) sender_is
