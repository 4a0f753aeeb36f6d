-- The last access of a call and the end of the call: what stands leads to what stands.
use Rattle.std.proofs.Common.{◌≡◌, ℕ, Bool, true, false, if◌then◌else◌, ◌==◌, List, [], ◌∷◌, Option, Some, None, refl, ap, sym, subst, ◌∙◌}
use Rattle.iox_model.specs.Joins.{not_living}
use Rattle.iox_model.specs.Maps.{put_at}
use Rattle.iox_model.specs.Moments.{Moment, moved}
use Rattle.iox_model.specs.States.{State}
use Rattle.iox_model.specs.Weaves.{Beat, Ends, IsBeat, IsWeave, World, over}
use Rattle.iox_model.specs.WholeCalls.{MayHold}
use Rattle.iox_laws.proofs.WeaveLaws.WholeLemmas.{moved-members, not_living-members, put_at-here}
use Rattle.iox_steps.specs.Accesses.{seen_by}
use Rattle.iox_wire_words.specs.Fits.{WireContents, contents_after}
use Rattle.iox_wire_words.specs.Laws.{AccessIsMade}
use Rattle.iox_wire_words.specs.Programs.{program_access}
use Rattle.iox_wire_moments.specs.MomentsOf.{Pools}
use Rattle.iox_wire_locals.specs.declared.local.Ending.{Ending}
use Rattle.iox_wire_locals.specs.declared.seat.Seat.{Seat}
use Rattle.iox_wire_locals.specs.Doings.{outcome_of}
use Rattle.iox_wire_locals.specs.Locals.{program_of}
use Rattle.iox_wire_locals.specs.Settlements.{reply_of}
use Rattle.iox_wire_locals.specs.StateMoments.{moment_at}
use Rattle.iox_wire_locals.specs.Steps.{accessed, advance, closed, ending_at}
use Rattle.iox_wire_locals.specs.Tables.{Setting}
use Rattle.iox_wire_laws.proofs.WireKeeping.CountsKept.{steps_keep_own}
use Rattle.iox_wire_laws.specs.WireShows.OwnedCalls.{state_after}
use Rattle.iox_wire_laws.specs.WireHolding.Holding.{held_after}
use Rattle.iox_wire_stands.specs.NodeLaws.{ToldWhatIsSo}
use Rattle.iox_wire_stands.specs.Stands.{AreNumbered}
use Rattle.iox_wire_stands.proofs.StepsAround.{Around, AroundNext, Whole, goes_around}
use Rattle.iox_wire_steps.specs.Over.{EndIsTold, CallIsOver}
use Rattle.iox_wire_steps.specs.WholeSteps.{HoldsNext, held_closed, step_beats}
use Rattle.iox_wire_steps.proofs.LoanEnds.{ends_led}
use Rattle.iox_wire_steps.proofs.LastAccesses.{is_over}

-- what slots and words hold
abbrev pub Holding : Type 1
Holding = Pools → WireContents → Type 0

-- the beats lead to a world that these words and seats show, in which all stands, and so hold slots
abbrev pub LedTo : Holding → Setting → (ℕ → ℕ) → World → List Beat → (ℕ → Seat) → Type 0
LedTo H p word w bs seats = (held : Pools) × (c : WireContents) × (u : World) × IsWeave w bs u × Whole p held word c seats u × H held c

-- the second one put there counts
pub put_again : {A : Type 0} (f : ℕ → A) (n : ℕ) (a b : A) → put_at (put_at f n a) n b ≡ put_at f n b
put_again f n a b = λ i k. by_case k (k == n) i
  where
    by_case : (k : ℕ) (c : Bool) → (if c then b else (if c then a else f k)) ≡ (if c then b else f k)
    by_case k true = refl
    by_case k false = refl

-- ---- the end, at a node of the wire

module _ (p : Setting) (new : Pools) (word : ℕ → ℕ) (c : WireContents) (seats : ℕ → Seat) (u : World) (n : ℕ) (z : Seat) (ending : Ending) (payload : List ℕ)
    (numbered : AreNumbered p) (around : Around p new word c (put_at seats n z) u n) (living : not_living u.state n ≡ None)
    (over_now : CallIsOver p new u.state z ending) (told : EndIsTold p new u.state z ending) (node : z.node ≡ n)
    (may : MayHold u.state.fixed (outcome_of p new n ending) payload) (H : Holding) (holds : H (held_closed p new payload (Some ending)) c) where
  here : put_at seats n z n ≡ z
  here = put_at-here seats n z

  abbrev Ended : Seat → Type 0
  Ended q =
      IsBeat u (Ends q.node (reply_of p q ending) payload) (over u q.node payload (outcome_of p new q.node ending))
      × Whole p (held_closed p new payload (Some ending)) word c (put_at (put_at seats n z) n (closed p q (Some ending)))
      (over u q.node payload (outcome_of p new q.node ending))

  ended : Ended z
  ended =
      subst Ended here
      (ends_led p new word c (put_at seats n z) u n numbered around living ending payload
      (subst (λ q. CallIsOver p new u.state q ending) (sym here) over_now) (subst (λ q. EndIsTold p new u.state q ending) (sym here) told)
      (subst (λ k. MayHold u.state.fixed (outcome_of p new k ending) payload) (sym (ap (λ (q : Seat). q.node) here ∙ node)) may))

  pub end_led : LedTo H p word u (Ends n (reply_of p z ending) payload ∷ []) (put_at seats n (closed p z (Some ending)))
  end_led =
      let v : World = over u z.node payload (outcome_of p new z.node ending) in (
        held_closed p new payload (Some ending),
        c,
        v,
        (v, subst (λ k. IsBeat u (Ends k (reply_of p z ending) payload) v) node ended.0, refl),
        subst (λ ss. Whole p (held_closed p new payload (Some ending)) word c ss v) (put_again seats n z (closed p z (Some ending))) ended.1,
        holds,
      )

-- ---- the last access

module _ (p : Setting) (held : Pools) (word word' : ℕ → ℕ) (c : WireContents) (seats : ℕ → Seat) (w : World) (n : ℕ) (numbered : AreNumbered p)
    (whole : Whole p held word c seats w) (living : not_living w.state n ≡ None) where
  abbrev x : Seat
  x = seats n

  abbrev seen : ℕ
  seen = seen_by (program_access p.layout (program_of p x.local)) word

  abbrev z : Seat
  z = advance p (accessed x) x.local seen

  abbrev new : Pools
  new = held_after p x seen held

  abbrev after : WireContents
  after = contents_after p.layout (program_of p x.local) seen c

  module _ (told : ToldWhatIsSo p held w.state x seen) (made : AccessIsMade (program_access p.layout (program_of p x.local)) word word') (ending : Ending)
      (payload : List ℕ) (is : ending_at z.local ≡ Some ending) where
    abbrev H : Holding
    H = HoldsNext p (seats n) (seen_by (program_access p.layout (program_of p (seats n).local)) word) payload held c

    -- slots hold then what they hold after the step
    holds : HoldsNext p (seats n) (seen_by (program_access p.layout (program_of p (seats n).local)) word) payload held c
        (held_closed p new payload (Some ending)) after
    holds = record { pools = λ port slot low. ap (λ o. held_closed p new payload o port slot) (sym is); contents = refl }

    node : z.node ≡ n
    node = (steps_keep_own p x seen).node ∙ whole.shows.node n

    by_moment : (m : Option Moment) → AroundNext p new word' after (put_at seats n z) w n m → CallIsOver p new (state_after w.state m) z ending
        → EndIsTold p new (state_after w.state m) z ending → MayHold (state_after w.state m).fixed (outcome_of p new n ending) payload
        → LedTo H p word' w (step_beats n payload m (Some (reply_of p z ending))) (put_at seats n (closed p z (Some ending)))
    by_moment None around over_now tells may =
        end_led p new word' after seats w n z ending payload numbered around living over_now tells node may H holds
    by_moment (Some m) next over_now tells may =
        let u : World = next.0 in
        let is_state : moved w.state m ≡ u.state = sym next.2 in
        let lives : not_living u.state n ≡ None
        = not_living-members u.state w.state n (ap (λ (s : State). s.members) next.2 ∙ moved-members w.state m) ∙ living in
        let led = end_led p new word' after seats u n z ending payload numbered next.3 lives
        (subst (λ s. CallIsOver p new s z ending) is_state over_now) (subst (λ s. EndIsTold p new s z ending) is_state tells) node
        (subst (λ (s : State). MayHold s.fixed (outcome_of p new n ending) payload) is_state may) H holds in
        (led.0, led.1, led.2, (u, next.1, led.3), led.4, led.5)

    pub last_led : EndIsTold p new (state_after w.state (moment_at p held x.local seen)) z ending
        → MayHold (state_after w.state (moment_at p held x.local seen)).fixed (outcome_of p new n ending) payload
        → LedTo H p word' w (step_beats n payload (moment_at p held x.local seen) (Some (reply_of p z ending))) (put_at seats n (closed p z (Some ending)))
    last_led tells may =
        by_moment (moment_at p held x.local seen) (goes_around p held word word' c seats w n numbered whole living told made)
        (is_over p held word word' c seats w n whole.shows living whole.layout whole.owners numbered whole.queues (whole.nodes n living) told made ending is) tells may
