-- The event of an access of a queue, at each place where the send of a request accesses one.
use Rattle.std.proofs.Common.{◌≡◌, ◌⊎◌, ℕ, inl, inr, refl, ap, sym, subst, ◌∙◌}
use Rattle.std.specs.Prelude.{Option, Some, None, option_map}
use Rattle.iox_model.specs.declared.event.Event.{Event}
use Rattle.iox_model.specs.declared.way.Way.{Way}
use Rattle.iox_model.specs.Maps.{or_else}
use Rattle.iox_word_map.specs.WordMaps.{MessageQueue, ReturningQueue}
use Rattle.iox_wire_words.specs.Programs.{Pops, Pushes, WireLayout, site_of}
use Rattle.iox_wire_locals.specs.declared.seat.Seat.{Seat}
use Rattle.iox_wire_locals.specs.Tables.{Setting}
use Rattle.iox_wire_seats.specs.SlotEvents.{program_event, slot_event}
use Rattle.iox_wire_request_sends.specs.declared.at.RequestAt.{RequestAt}
use Rattle.iox_wire_request_sends.specs.declared.at.RequestAt.TheVariants as at
use Rattle.iox_wire_request_sends.specs.Aims.{AreAimed}
use Rattle.iox_wire_request_sends.specs.RequestDispatches.{Beside, RequestDispatch, local_of, way_of}

alone : {A B : Type 0} (f : A → B) (m : Option A) → option_map f m ≡ option_map f (or_else m None)
alone f None = refl
alone f (Some a) = refl

-- what returned is popped
pub empties_told : (p : Setting) (x : Seat) (r : RequestDispatch) (name : RequestAt) (b : Beside) (way : Way) (e : Option Event) (seen : ℕ)
    → name ≡ at.Empties → way ≡ way_of b
    → ((q : WireLayout) → r.site ≡ site_of q (ReturningQueue way) → e ≡ program_event q (Pops (ReturningQueue way) b.popping) seen)
    → AreAimed p x (local_of name b) r → e ≡ slot_event p (local_of name b) seen
empties_told p x r name b way e seen is on told =
    subst (λ (n : RequestAt). AreAimed p x (local_of n b) r → e ≡ slot_event p (local_of n b) seen) (sym is)
    (λ aimed. told p.layout (aimed.1 ∙ ap (λ (w : Way). site_of p.layout (ReturningQueue w)) (sym on))
    ∙ ap (λ (w : Way). program_event p.layout (Pops (ReturningQueue w) b.popping) seen) on
    ∙ alone _ _)

-- messages are pushed, or looked at
pushes_told : (p : Setting) (r : RequestDispatch) (b : Beside) (way : Way) (e : Option Event) (seen : ℕ)
    → way ≡ way_of b
    → ((q : WireLayout) → r.site ≡ site_of q (MessageQueue way) → e ≡ program_event q (Pushes (MessageQueue way) b.pushing) seen)
    → r.site ≡ site_of p.layout (MessageQueue (way_of b)) → e ≡ slot_event p (local_of at.Looks b) seen
pushes_told p r b way e seen on told aimed =
    told p.layout (aimed ∙ ap (λ (w : Way). site_of p.layout (MessageQueue w)) (sym on))
    ∙ ap (λ (w : Way). program_event p.layout (Pushes (MessageQueue w) b.pushing) seen) on
    ∙ alone _ _

pub delivers_told : (p : Setting) (x : Seat) (r : RequestDispatch) (name : RequestAt) (b : Beside) (way : Way) (e : Option Event) (seen : ℕ)
    → ((name ≡ at.Looks) ⊎ ((name ≡ at.Pushes) ⊎ ((name ≡ at.Evicts) ⊎ (name ≡ at.GetsBack)))) → way ≡ way_of b
    → ((q : WireLayout) → r.site ≡ site_of q (MessageQueue way) → e ≡ program_event q (Pushes (MessageQueue way) b.pushing) seen)
    → AreAimed p x (local_of name b) r → e ≡ slot_event p (local_of name b) seen
delivers_told p x r name b way e seen (inl is) on told =
    subst (λ (n : RequestAt). AreAimed p x (local_of n b) r → e ≡ slot_event p (local_of n b) seen) (sym is)
    (λ aimed. pushes_told p r b way e seen on told aimed.1)
delivers_told p x r name b way e seen (inr (inl is)) on told =
    subst (λ (n : RequestAt). AreAimed p x (local_of n b) r → e ≡ slot_event p (local_of n b) seen) (sym is)
    (λ aimed. pushes_told p r b way e seen on told aimed.1)
delivers_told p x r name b way e seen (inr (inr (inl is))) on told =
    subst (λ (n : RequestAt). AreAimed p x (local_of n b) r → e ≡ slot_event p (local_of n b) seen) (sym is)
    (λ aimed. pushes_told p r b way e seen on told aimed.1)
delivers_told p x r name b way e seen (inr (inr (inr is))) on told =
    subst (λ (n : RequestAt). AreAimed p x (local_of n b) r → e ≡ slot_event p (local_of n b) seen) (sym is)
    (λ aimed. pushes_told p r b way e seen on told aimed.1)
