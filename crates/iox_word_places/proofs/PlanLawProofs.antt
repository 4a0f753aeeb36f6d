-- The layout of a plan is sized, and has the ways that its ports make.
use Rattle.std.proofs.Common.{◌≡◌, ℕ, true, true≢false, refl, ap, sym, ◌∙◌, inl, inr}
use Rattle.std.specs.Option.{option_map_or}
use Rattle.iox_model.specs.declared.kind.Role.{Role}
use Rattle.iox_model.specs.declared.kind.Role.TheVariants.{Client, Server}
use Rattle.iox_model.specs.Maps.{has_number}
use Rattle.iox_model.specs.Settings.{same_role}
use Rattle.iox_steps.specs.Sites.{size}
use Rattle.iox_word_map.specs.WordMaps.{WireQueue, MessageQueue, ReturningQueue, QueueWords, IsQueue, piece_size}
use Rattle.iox_word_map.proofs.Pieces.{pieces_are_sized}
use Rattle.iox_wire_words.specs.Programs.{site_of}
use Rattle.iox_word_places.specs.declared.plan.WirePlan.{WirePlan}
use Rattle.iox_word_places.specs.declared.way_index.WayIndex.TheVariants.{Requests, Responses}
use Rattle.iox_word_places.specs.Plans.{IsPlan, numbers_of, role_of, sizes_of, layout_of, message_words, returning_words}
use Rattle.iox_word_places.specs.PlanLaws.{PlansAreSized, WaysAreOfTheWire}
use Rattle.iox_word_places.proofs.PortLemmas.{port_named}
use Rattle.iox_word_places.proofs.WayLemmas.{request_way_at, response_way_at}

one_role : (a b : Role) → same_role a b ≡ true → a ≡ b
one_role Client Client e = refl
one_role Client Server e = absurd (true≢false (sym e))
one_role Server Client e = absurd (true≢false (sym e))
one_role Server Server e = refl

module _ (plan : WirePlan) (is : IsPlan plan) where
  role_named : (role : Role) (n : ℕ) → has_number n (numbers_of plan role) ≡ true → role_of plan n ≡ role
  role_named role n has =
      let p = port_named (λ q. same_role q.role role) n plan.ports.items is.numbers has in
      ap (λ o. option_map_or (λ q. q.role) o Client) p.1 ∙ one_role p.0.role role p.2

  sized : (q : WireQueue) → IsQueue (sizes_of plan) q → size (site_of (layout_of plan) q) ≡ piece_size (sizes_of plan) (QueueWords q)
  sized (MessageQueue way) (inl request) =
      ap (λ r. message_words plan.limits r) (role_named Client way.sender request.0) ∙ sym ((pieces_are_sized (sizes_of plan)).1 way request).0
  sized (MessageQueue way) (inr response) =
      ap (λ r. message_words plan.limits r) (role_named Server way.sender response.1) ∙ sym ((pieces_are_sized (sizes_of plan)).2 way response).0
  sized (ReturningQueue way) (inl request) =
      ap (λ r. returning_words plan.limits r) (role_named Client way.sender request.0) ∙ sym ((pieces_are_sized (sizes_of plan)).1 way request).1
  sized (ReturningQueue way) (inr response) =
      ap (λ r. returning_words plan.limits r) (role_named Server way.sender response.1) ∙ sym ((pieces_are_sized (sizes_of plan)).2 way response).1

pub plans_are_sized : PlansAreSized
plans_are_sized plan is = sized plan is

pub ways_are_of_the_wire : WaysAreOfTheWire
ways_are_of_the_wire plan is (Requests i j) at = inl (request_way_at plan is i j at.0 at.1)
ways_are_of_the_wire plan is (Responses i j lane) at = inr (response_way_at plan is i j lane at.0 at.1)
