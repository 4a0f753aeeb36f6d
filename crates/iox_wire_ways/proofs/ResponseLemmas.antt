-- What a pending response's receive is told about the servers is so on the wire, and in memory.
use Rattle.std.proofs.Common.{◌≡◌, ℕ, ◌+◌, ◌*◌, ◌<◌, ◌^◌, Bool, List, [], length, map, refl, ap, ap₂, sym, subst, ◌∙◌, arith}
use Rattle.std.specs.Prelude.{filter, find, ◌==◌}
use Rattle.std.specs.Option.{option_map_or}
use Rattle.iox_model.specs.declared.kind.Role.TheVariants.{Client, Server}
use Rattle.iox_model.specs.declared.way.Way.{Way}
use Rattle.iox_model.specs.Messages.{response_way}
use Rattle.iox_model.specs.Peers.{ports_of_role}
use Rattle.iox_model.specs.Settings.{borrow_limit_of, other_role, same_role}
use Rattle.iox_model.specs.States.{Port}
use Rattle.iox_word_map.specs.WordMaps.{MessageQueue, ReturningQueue, QueueWords, lane_place, piece_place, total_words}
use Rattle.iox_word_map.proofs.Places.{lanes_are_computed}
use Rattle.iox_wire_messages.specs.WirePlan.{WirePlan}
use Rattle.iox_wire_messages.specs.WayIndex.TheVariants.{Requests, Responses}
use Rattle.iox_wire_messages.specs.Plans.{IsLaneAt, IsPlan, IsPortAt, layout_of, message_kind, number_at, planned_buffer, port_numbers, returning_room, role_of, sizes_of, slot_words_of, way_at}
use Rattle.iox_wire_messages.proofs.PairLemmas.{client_of_lane}
use Rattle.iox_wire_messages.proofs.WayLemmas.{response_way_at, sender_role}
use Rattle.iox_wire_messages.specs.Programs.{WireLayout, site_of, word_place}
use Rattle.iox_wire_messages.specs.Seat.{Seat}
use Rattle.iox_wire_messages.specs.Known.{known}
use Rattle.iox_wire_messages.specs.Stored.{header_length}
use Rattle.iox_wire_messages.specs.Tables.{Setting, region_word}
use Rattle.iox_wire_messages.specs.PlansOf.{IsSettingOf}
use Rattle.iox_wire_messages.proofs.Layouts.{planned_settings_agree}
use Rattle.iox_wire_messages.proofs.Planned.{same_found}
use Rattle.iox_wire_receives.specs.declared.source.Source.{Source}
use Rattle.iox_wire_receives.specs.Sources.{AreSources, AreWithin, IsSource, IsWithin, messages_at, returning_at, ways_of}
use Rattle.iox_wire_messages.specs.Aims.{IsInMemory}
use Rattle.iox_wire_messages.proofs.BeginLemmas.{forgot_is, queue_in_memory}
use Rattle.iox_wire_ways.specs.ResponseSources.{response_source, response_terms}
use Rattle.iox_wire_ways.specs.Visits.{is_other}
use Rattle.iox_wire_ways.proofs.HeaderLemmas.{header_fits, header_word, low, pool_planned, slots_in_memory}
use Rattle.iox_wire_ways.proofs.ListLemmas.{all_made, all_ways, left_are, made_before}
use Rattle.iox_wire_ways.proofs.ReturnLemmas.{port_is_there}
use Rattle.iox_wire_ways.proofs.SourceLemmas.{back_of, queue_of}
use Rattle.iox_wire_ways.proofs.VisitLemmas.{none_over, sources_append, within_append}

module _ (plan : WirePlan) (is : IsPlan plan) (i j lane : ℕ) (l : IsLaneAt plan i lane) (s : IsPortAt plan Server j) where
  abbrev w : Way
  w = way_at plan (Responses i j lane)

  sender_is : role_of plan (number_at plan j) ≡ Server
  sender_is = sender_role plan is (Responses i j lane) (l, s)

  receiver_is : role_of plan (number_at plan i) ≡ Client
  receiver_is = sender_role plan is (Requests i j) (client_of_lane plan i lane l, s)

  queues : (piece_place (sizes_of plan) (QueueWords (MessageQueue w)) ≡ lane_place (sizes_of plan) (number_at plan i) (number_at plan j) lane)
      × (piece_place (sizes_of plan) (QueueWords (ReturningQueue w)) ≡ lane_place (sizes_of plan) (number_at plan i) (number_at plan j) lane + (sizes_of plan).responses)
  queues =
      let all = lanes_are_computed (sizes_of plan) w (response_way_at plan is i j lane l s) in
      (all.0, all.1)

  messages_are : (ff : Bool) (number : ℕ) → messages_at (response_terms plan ff number) (response_source plan i lane j) ≡ site_of (layout_of plan) (MessageQueue w)
  messages_are ff number = ap (queue_of plan.limits (piece_place (sizes_of plan) (QueueWords (MessageQueue w)))) (sym sender_is)

  returning_are : (ff : Bool) (number : ℕ) → returning_at (response_terms plan ff number) (response_source plan i lane j) ≡ site_of (layout_of plan) (ReturningQueue w)
  returning_are ff number =
      ap₂ back_of (ap (λ k. k + (sizes_of plan).responses) queues.0 ∙ sym queues.1) (ap (λ r. returning_room plan.limits r) (sym sender_is))

  -- ---- on the wire

  pub response_is : (p : Setting) → IsSettingOf plan p → (ff : Bool) (number : ℕ)
      → IsSource p (response_terms plan ff number) (header_length Server) (response_source plan i lane j)
  response_is p setting ff number = record {
    messages = messages_are ff number ∙ ap (λ (y : WireLayout). site_of y (MessageQueue w)) (sym setting.layout);
    returning = returning_are ff number ∙ ap (λ (y : WireLayout). site_of y (ReturningQueue w)) (sym setting.layout);
    words = λ slot k there_is below.
        (let h : region_word p (number_at plan j) slot k ≡ slot * slot_words_of plan (number_at plan j) + k = header_word plan is Server j s p setting slot k below in
        omega (arith, h))
        ∙ ap (λ (y : WireLayout). word_place y (number_at plan j) (region_word p (number_at plan j) slot k)) (sym setting.layout);
    states = λ k below. absurd (omega (arith, below));
    pool = pool_planned plan is Server j s p setting;
    lanes = λ of_requests. absurd (omega (arith, of_requests));
    node = λ x. forgot_is p plan x j (planned_settings_agree plan p setting) is (low plan is Server j s);
    limit = λ x.
        ap (λ (rs : List Port). borrow_limit_of p.limits (other_role (option_map_or (λ (r : Port). r.role) (find (λ (r : Port). r.number == number_at plan i) rs) Client)))
        (ap (λ (y : WireLayout). map p.port y.sizes.ports) setting.layout)
        ∙ ap (λ r. borrow_limit_of p.limits (other_role r))
        (same_found (λ q. q.role) (λ r. r.role) Client (number_at plan i) (λ q r like. like.role) plan.ports.items (map p.port (port_numbers plan)) setting.is_for.ports ∙ receiver_is)
        ∙ sym (setting.is_for.borrows Server);
  }

  -- ---- in memory

  pub response_within : (ff : Bool) (number total : ℕ) → total ≡ total_words (sizes_of plan) → total < 2 ^ 64
      → plan.response.header.size ≡ 8 * header_length Server
      → IsWithin (response_terms plan ff number) (header_length Server) (response_source plan i lane j)
  response_within ff number total total_is fits header =
      let in_memory = queue_in_memory plan (Responses i j lane) total is (l, s) total_is fits in
      let messages : IsInMemory (messages_at (response_terms plan ff number) (response_source plan i lane j)) = subst IsInMemory (sym (messages_are ff number)) in_memory.0 in
      record {
        messages = messages;
        returning = subst IsInMemory (sym (returning_are ff number)) in_memory.1;
        slots = slots_in_memory plan is Server j s total total_is fits;
        room = header_fits plan is Server j s header;
        states = omega (arith, messages);
      }

  -- ---- as the way of one server tells it

  pub response_back : piece_place (sizes_of plan) (QueueWords (ReturningQueue w)) ≡ piece_place (sizes_of plan) (QueueWords (MessageQueue w)) + (sizes_of plan).responses
  response_back = queues.1 ∙ ap (λ k. k + (sizes_of plan).responses) (sym queues.0)

  pub response_kind : (site_of (layout_of plan) (MessageQueue w)).kind ≡ message_kind plan.limits Server
  response_kind = ap (λ r. message_kind plan.limits r) sender_is

  pub response_capacity : (site_of (layout_of plan) (MessageQueue w)).capacity ≡ planned_buffer plan.limits Server
  response_capacity = ap (λ r. planned_buffer plan.limits r) sender_is

  pub response_room : (site_of (layout_of plan) (ReturningQueue w)).capacity ≡ returning_room plan.limits Server
  response_room = ap (λ r. returning_room plan.limits r) sender_is

-- ---- all servers

pub all_servers : (plan : WirePlan) (p : Setting) (x : Seat) (client lane k : ℕ) → IsPlan plan → IsSettingOf plan p → k ≡ length plan.ports.items
    → ways_of (made_before Source plan (is_other Server []) (response_source plan client lane) k)
    ≡ map (response_way (number_at plan client) lane) (ports_of_role (known p x) Server)
all_servers plan p x client lane k is setting all =
    all_ways Source Way plan is (is_other Server []) (response_source plan client lane) (λ s. s.way)
    (response_way (number_at plan client) lane) (λ i. refl) k all
    ∙ ap (map (response_way (number_at plan client) lane))
    (left_are Server [] plan.ports.items (map p.port (map (λ q. q.number) plan.ports.items)) setting.is_for.ports
    ∙ none_over Server (map p.port (map (λ q. q.number) plan.ports.items))
    ∙ ap (λ (y : WireLayout). map (λ r. r.number) (filter (λ r. same_role r.role Server) (map p.port y.sizes.ports))) (sym setting.layout))

module _ (plan : WirePlan) (is : IsPlan plan) (ff : Bool) (number client lane : ℕ) (l : IsLaneAt plan client lane) where
  pub all_responses : (p : Setting) → IsSettingOf plan p → (k : ℕ)
      → AreSources p (response_terms plan ff number) (header_length Server) (made_before Source plan (is_other Server []) (response_source plan client lane) k)
  all_responses p setting k =
      all_made Source plan (is_other Server []) (response_source plan client lane) (AreSources p (response_terms plan ff number) (header_length Server)) tt
      (λ xs i there are.
      sources_append p (response_terms plan ff number) (header_length Server) xs (response_source plan client lane i) are
      (response_is plan is client i lane l (port_is_there plan Server [] i there) p setting ff number)) k

  pub all_responses_within : (total k : ℕ) → total ≡ total_words (sizes_of plan) → total < 2 ^ 64 → plan.response.header.size ≡ 8 * header_length Server
      → AreWithin (response_terms plan ff number) (header_length Server) (made_before Source plan (is_other Server []) (response_source plan client lane) k)
  all_responses_within total k total_is fits header =
      all_made Source plan (is_other Server []) (response_source plan client lane) (AreWithin (response_terms plan ff number) (header_length Server)) tt
      (λ xs i there are.
      within_append (response_terms plan ff number) (header_length Server) xs (response_source plan client lane i) are
      (response_within plan is client i lane l (port_is_there plan Server [] i there) ff number total total_is fits header)) k
