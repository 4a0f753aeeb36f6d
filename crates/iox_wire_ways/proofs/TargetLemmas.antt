-- What the send of a request is told about its servers is so on the wire, and in memory.
use Rattle.std.proofs.Common.{◌≡◌, ℕ, ◌+◌, ◌*◌, ◌<◌, ◌≤◌, ◌^◌, List, [], ◌∷◌, ◌++◌, length, refl, ap, ap₂, sym, subst, ◌∙◌, arith}
use Rattle.iox_model.specs.declared.kind.Role.TheVariants.{Client, Server}
use Rattle.iox_model.specs.declared.way.Way.{Way}
use Rattle.iox_model.specs.Messages.{request_way, response_way}
use Rattle.iox_model.specs.Peers.{others}
use Rattle.iox_steps.specs.declared.site.QueueKind.{QueueKind}
use Rattle.iox_word_map.specs.WordMaps.{MessageQueue, ReturningQueue, QueueWords, StateWord, lane_place, lane_words, pair_place, piece_place, piece_size, total_words}
use Rattle.iox_word_map.proofs.Pieces.{pieces_are_sized, pieces_are_within}
use Rattle.iox_word_map.proofs.Places.{lanes_are_computed, request_queues_are_computed}
use Rattle.iox_wire_messages.specs.WirePlan.{WirePlan}
use Rattle.iox_wire_messages.specs.WayIndex.TheVariants.{Requests, Responses}
use Rattle.iox_wire_messages.specs.Plans.{IsLaneAt, IsPlan, IsPortAt, layout_of, message_kind, number_at, planned_buffer, returning_room, role_of, sizes_of, way_at}
use Rattle.iox_wire_messages.proofs.PairLemmas.{client_of_lane}
use Rattle.iox_wire_messages.proofs.WayLemmas.{request_way_at, response_way_at, sender_role}
use Rattle.iox_wire_messages.specs.Programs.{WireLayout, site_of, state_place}
use Rattle.iox_wire_messages.specs.Seat.{Seat}
use Rattle.iox_wire_messages.specs.Entry.{Entry}
use Rattle.iox_wire_messages.specs.Known.{known}
use Rattle.iox_wire_messages.specs.Tables.{Setting}
use Rattle.iox_wire_messages.specs.PlansOf.{IsSettingOf}
use Rattle.iox_wire_copies.specs.RequestTerms.{RequestTerms}
use Rattle.iox_wire_copies.specs.Target.{Target}
use Rattle.iox_wire_copies.specs.Targets.{AreTargets, AreWithin, IsTarget, IsWithin, messages_at, returning_at, servers_of}
use Rattle.iox_wire_messages.specs.Aims.{IsInMemory}
use Rattle.iox_wire_messages.proofs.BeginLemmas.{queue_in_memory}
use Rattle.iox_wire_ways.specs.RequestTargets.{target_of, target_terms}
use Rattle.iox_wire_ways.specs.Visits.{is_other}
use Rattle.iox_wire_ways.proofs.ListLemmas.{all_made, all_numbers, made_before, others_are}
use Rattle.iox_wire_ways.proofs.ReturnLemmas.{port_is_there}
use Rattle.iox_wire_ways.proofs.SourceLemmas.{back_of, queue_of}

module _ (plan : WirePlan) (is : IsPlan plan) (i j lane : ℕ) (l : IsLaneAt plan i lane) (s : IsPortAt plan Server j) where
  abbrev w : Way
  w = way_at plan (Requests i j)

  abbrev y : Way
  y = way_at plan (Responses i j lane)

  c : IsPortAt plan Client i
  c = client_of_lane plan i lane l

  sender_is : role_of plan (number_at plan i) ≡ Client
  sender_is = sender_role plan is (Requests i j) (c, s)

  queues : (piece_place (sizes_of plan) (QueueWords (MessageQueue w)) ≡ pair_place (sizes_of plan) (number_at plan i) (number_at plan j))
      × (piece_place (sizes_of plan) (QueueWords (ReturningQueue w)) ≡ pair_place (sizes_of plan) (number_at plan i) (number_at plan j) + (sizes_of plan).requests)
  queues = request_queues_are_computed (sizes_of plan) w (request_way_at plan is i j c s)

  state_there : piece_place (sizes_of plan) (StateWord y)
      ≡ lane_place (sizes_of plan) (number_at plan i) (number_at plan j) lane + (sizes_of plan).responses + (sizes_of plan).responses_returning
  state_there = (lanes_are_computed (sizes_of plan) y (response_way_at plan is i j lane l s)).2

  state_within : piece_place (sizes_of plan) (StateWord y) + 1 ≤ total_words (sizes_of plan)
  state_within =
      let a : piece_place (sizes_of plan) (StateWord y) + piece_size (sizes_of plan) (StateWord y) ≤ total_words (sizes_of plan) =
      pieces_are_within (sizes_of plan) (StateWord y) (response_way_at plan is i j lane l s) in
      let b : piece_size (sizes_of plan) (StateWord y) ≡ 1 = ((pieces_are_sized (sizes_of plan)).2 y (response_way_at plan is i j lane l s)).2 in
      omega (arith, a, b)

  pub target_state : state_place (layout_of plan) y
      ≡ piece_place (sizes_of plan) (QueueWords (MessageQueue w))
      + ((sizes_of plan).requests + (sizes_of plan).requests_returning + lane * lane_words (sizes_of plan) + (sizes_of plan).responses + (sizes_of plan).responses_returning)
  target_state =
      let a = queues.0 in
      let b = state_there in
      omega (arith, a, b)

  pub target_back : piece_place (sizes_of plan) (QueueWords (ReturningQueue w)) ≡ piece_place (sizes_of plan) (QueueWords (MessageQueue w)) + (sizes_of plan).requests
  target_back = queues.1 ∙ ap (λ k. k + (sizes_of plan).requests) (sym queues.0)

  pub target_kind : (site_of (layout_of plan) (MessageQueue w)).kind ≡ message_kind plan.limits Client
  target_kind = ap (λ r. message_kind plan.limits r) sender_is

  pub target_capacity : (site_of (layout_of plan) (MessageQueue w)).capacity ≡ planned_buffer plan.limits Client
  target_capacity = ap (λ r. planned_buffer plan.limits r) sender_is

  pub target_room : (site_of (layout_of plan) (ReturningQueue w)).capacity ≡ returning_room plan.limits Client
  target_room = ap (λ r. returning_room plan.limits r) sender_is

  messages_are : (t : RequestTerms) → messages_at (target_terms plan lane t) (target_of plan i j) ≡ site_of (layout_of plan) (MessageQueue w)
  messages_are t = ap (queue_of plan.limits (piece_place (sizes_of plan) (QueueWords (MessageQueue w)))) (sym sender_is)

  returning_are : (t : RequestTerms) → returning_at (target_terms plan lane t) (target_of plan i j) ≡ site_of (layout_of plan) (ReturningQueue w)
  returning_are t = ap₂ back_of (sym target_back) (ap (λ r. returning_room plan.limits r) (sym sender_is))

  pub target_is : (p : Setting) → IsSettingOf plan p → (t : RequestTerms) (loan : Entry) → loan.port ≡ number_at plan i → loan.lane ≡ lane
      → IsTarget p (target_terms plan lane t) loan (target_of plan i j)
  target_is p setting t loan port on = record {
    messages =
        messages_are t ∙ ap (λ (z : WireLayout). site_of z (MessageQueue w)) (sym setting.layout)
        ∙ ap (λ n. site_of p.layout (MessageQueue (request_way n (number_at plan j)))) (sym port);
    returning =
        returning_are t ∙ ap (λ (z : WireLayout). site_of z (ReturningQueue w)) (sym setting.layout)
        ∙ ap (λ n. site_of p.layout (ReturningQueue (request_way n (number_at plan j)))) (sym port);
    state =
        sym target_state ∙ ap (λ (z : WireLayout). state_place z y) (sym setting.layout)
        ∙ ap₂ (λ n k. state_place p.layout (response_way n k (number_at plan j))) (sym port) (sym on);
  }

  pub target_within : (t : RequestTerms) (total : ℕ) → total ≡ total_words (sizes_of plan) → total < 2 ^ 64
      → IsWithin (target_terms plan lane t) (target_of plan i j)
  target_within t total total_is fits =
      let in_memory = queue_in_memory plan (Requests i j) total is (c, s) total_is fits in
      record {
        messages = subst IsInMemory (sym (messages_are t)) in_memory.0;
        returning = subst IsInMemory (sym (returning_are t)) in_memory.1;
        state = let a = target_state in let b = state_within in omega (arith, a, b, total_is, fits);
      }

-- ---- what is told in parts

pub terms_told : (t : RequestTerms) (u : RequestTerms) (kind : QueueKind) (capacity back room state : ℕ)
    → kind ≡ u.kind → capacity ≡ u.capacity → back ≡ u.back → room ≡ u.room → state ≡ u.state
    → u ≡ record t { kind = u.kind; capacity = u.capacity; back = u.back; room = u.room; state = u.state }
    → record t { kind = kind; capacity = capacity; back = back; room = room; state = state } ≡ u
terms_told t u kind capacity back room state k c b r s same =
    (λ i. record t { kind = k i; capacity = c i; back = b i; room = r i; state = s i }) ∙ sym same

-- ---- all of them

targets_append : (p : Setting) (t : RequestTerms) (loan : Entry) (xs : List Target) (s : Target) → AreTargets p t loan xs → IsTarget p t loan s
    → AreTargets p t loan (xs ++ s ∷ [])
targets_append p t loan [] s are is = (is, tt)
targets_append p t loan (x ∷ xs) s are is = (are.0, targets_append p t loan xs s are.1 is)

within_append : (t : RequestTerms) (xs : List Target) (s : Target) → AreWithin t xs → IsWithin t s → AreWithin t (xs ++ s ∷ [])
within_append t [] s are is = (is, tt)
within_append t (x ∷ xs) s are is = (are.0, within_append t xs s are.1 is)

pub all_servers_left : (plan : WirePlan) (p : Setting) (x : Seat) (client k : ℕ) → IsPlan plan → IsSettingOf plan p → k ≡ length plan.ports.items
    → servers_of (made_before Target plan (is_other Server x.forgot) (target_of plan client) k) ≡ others (known p x) x.node Server
all_servers_left plan p x client k is setting all =
    all_numbers Target plan is (is_other Server x.forgot) (target_of plan client) (λ t. t.server) (λ i. refl) k all
    ∙ others_are plan p x Server x.node setting

module _ (plan : WirePlan) (is : IsPlan plan) (forgot : List ℕ) (client lane : ℕ) (l : IsLaneAt plan client lane) (t : RequestTerms) where
  pub all_targets : (p : Setting) → IsSettingOf plan p → (loan : Entry) → loan.port ≡ number_at plan client → loan.lane ≡ lane → (k : ℕ)
      → AreTargets p (target_terms plan lane t) loan (made_before Target plan (is_other Server forgot) (target_of plan client) k)
  all_targets p setting loan port on k =
      all_made Target plan (is_other Server forgot) (target_of plan client) (AreTargets p (target_terms plan lane t) loan) tt
      (λ xs i there are.
      targets_append p (target_terms plan lane t) loan xs (target_of plan client i) are
      (target_is plan is client i lane l (port_is_there plan Server forgot i there) p setting t loan port on)) k

  pub all_targets_within : (total k : ℕ) → total ≡ total_words (sizes_of plan) → total < 2 ^ 64
      → AreWithin (target_terms plan lane t) (made_before Target plan (is_other Server forgot) (target_of plan client) k)
  all_targets_within total k total_is fits =
      all_made Target plan (is_other Server forgot) (target_of plan client) (AreWithin (target_terms plan lane t)) tt
      (λ xs i there are.
      within_append (target_terms plan lane t) xs (target_of plan client i) are
      (target_within plan is client i lane l (port_is_there plan Server forgot i there) t total total_is fits)) k

pub targets_with : (p : Setting) (t u : RequestTerms) (loan : Entry) (xs : List Target) → (0 < length xs → u ≡ t) → AreTargets p t loan xs → AreTargets p u loan xs
targets_with p t u loan [] same are = tt
targets_with p t u loan (x ∷ xs) same are = subst (λ (v : RequestTerms). AreTargets p v loan (x ∷ xs)) (sym (same (omega arith))) are

pub within_with : (t u : RequestTerms) (xs : List Target) → (0 < length xs → u ≡ t) → AreWithin t xs → AreWithin u xs
within_with t u [] same are = tt
within_with t u (x ∷ xs) same are = subst (λ (v : RequestTerms). AreWithin v (x ∷ xs)) (sym (same (omega arith))) are
