-- The step of a node as it is shown: what stands leads to what stands.
use Rattle.std.specs.Prelude.{◌⊎◌}
use Rattle.std.specs.Option.{option_map}
use Rattle.std.proofs.Common.{◌≡◌, ℕ, Bool, true, false, if◌then◌else◌, List, [], ◌∷◌, Option, Some, None, refl, ap, sym, subst, ◌∙◌, inl, inr}
use Rattle.iox_model.specs.declared.kind.Kind.TheVariants.{ActiveRequest}
use Rattle.iox_model.specs.Handles.{is_received, same_kind}
use Rattle.iox_model.specs.Joins.{not_living}
use Rattle.iox_model.specs.Maps.{put_at}
use Rattle.iox_model.specs.Moments.{Moment}
use Rattle.iox_model.specs.States.{State}
use Rattle.iox_model.specs.Weaves.{Ends, World}
use Rattle.iox_model.specs.WholeCalls.{MayHold}
use Rattle.iox_laws.proofs.WeaveLedger.Truths.{none-some, or-left}
use Rattle.iox_steps.specs.Accesses.{seen_by}
use Rattle.iox_steps.specs.declared.side.Pushing.{Pushing}
use Rattle.iox_steps.specs.declared.side.QueueEvent.{QueueEvent}
use Rattle.iox_steps.specs.declared.side.QueueEvent.TheVariants.{Publish}
use Rattle.iox_wire_words.specs.Fits.{WireContents, contents_after}
use Rattle.iox_wire_words.specs.Laws.{AccessIsMade}
use Rattle.iox_wire_words.specs.Programs.{program_access}
use Rattle.iox_wire_moments.specs.MomentsOf.{Pools}
use Rattle.iox_wire_locals.specs.declared.local.Ending.{Ending}
use Rattle.iox_wire_locals.specs.declared.local.Ending.TheVariants as endings
use Rattle.iox_wire_locals.specs.declared.local.Local.{Local}
use Rattle.iox_wire_locals.specs.declared.local.Local.TheVariants.{Ends, ReleaseLooks, ReleaseReturns, SendEnds}
use Rattle.iox_wire_locals.specs.declared.seat.Seat.{Seat}
use Rattle.iox_wire_locals.specs.declared.table.Entry.{Entry}
use Rattle.iox_wire_locals.specs.Courses.{ended, placed}
use Rattle.iox_wire_locals.specs.Doings.{outcome_of}
use Rattle.iox_wire_locals.specs.Locals.{program_of}
use Rattle.iox_wire_locals.specs.ReceiveFindings.{release_returned}
use Rattle.iox_wire_locals.specs.Settlements.{reply_of}
use Rattle.iox_wire_locals.specs.StateMoments.{moment_at}
use Rattle.iox_wire_locals.specs.Steps.{accessed, advance, closed, ending_at, next, tells}
use Rattle.iox_wire_locals.specs.Tables.{Setting}
use Rattle.iox_wire_laws.specs.WireShows.OwnedCalls.{state_after}
use Rattle.iox_wire_laws.specs.WireHolding.Aside.{shown}
use Rattle.iox_wire_laws.specs.WireHolding.Holding.{held_after, held_from}
use Rattle.iox_wire_stands.specs.Following.{CallMessage, Leaving, LeavesNothing, message_at}
use Rattle.iox_wire_stands.specs.NamesLaws.{ReturnsNothing}
use Rattle.iox_wire_stands.specs.NodeLaws.{ToldWhatIsSo}
use Rattle.iox_wire_stands.specs.Stands.{AreNumbered}
use Rattle.iox_wire_stands.proofs.StepsAround.{Whole, WholeNext, goes_on}
use Rattle.iox_wire_steps.specs.Over.{EndIsTold}
use Rattle.iox_wire_steps.specs.WholeSteps.{HoldsNext, StepIsTold, held_closed, step_beats}
use Rattle.iox_wire_steps.proofs.Accessed.{HasNone, around_too, no_access, over_too, same_words}
use Rattle.iox_wire_steps.proofs.EndsStand.{ended_leaves, standing_nodes_end}
use Rattle.iox_wire_steps.proofs.LastAccesses.{returns_none}
use Rattle.iox_wire_steps.proofs.LastSteps.{Holding, LedTo, end_led, last_led}
use Rattle.iox_wire_steps.proofs.PutsAside.{aside_led}

-- ---- whether a request is given back

-- the access gave the entry's message back, and its request state is looked at next
record GivesBack (local : Local) (after : CallMessage) : Type 0 where
  pub entry : Entry
  pub place : Pushing
  pub at : local ≡ ReleaseReturns entry place
  pub leaving : Entry
  pub message : after ≡ Leaving leaving

gives_back : (local : Local) (after : CallMessage) → ReturnsNothing local after ⊎ GivesBack local after
gives_back (ReleaseReturns e place) (Leaving k) = inr (record { entry = e; place = place; at = refl; leaving = k; message = refl })
gives_back local after = inl tt

abbrev NotLeaving : CallMessage → Type 0
NotLeaving (Leaving k) = ⊥
NotLeaving other = Unit {0}

-- it looks at the state of a request
looks_next : (x : Seat) (e k : Entry) (b : Bool) → same_kind e.kind ActiveRequest ≡ b
    → message_at (if b then placed x (ReleaseLooks e) else ended x (endings.Drops e)).local ≡ Leaving k
    → ((if b then placed x (ReleaseLooks e) else ended x (endings.Drops e)) ≡ placed x (ReleaseLooks e)) × (is_received e.kind ≡ true)
looks_next x e k true is message = (refl, or-left (same_kind e.kind ActiveRequest) _ is)
looks_next x e k false is message = absurd (subst NotLeaving message tt)

returned_next : (x : Seat) (e k : Entry) (place : Pushing) (event : QueueEvent) → message_at (release_returned x e place event).local ≡ Leaving k
    → (release_returned x e place event ≡ placed x (ReleaseLooks e)) × (is_received e.kind ≡ true)
returned_next x e k place (Publish slot) message = looks_next x e k (same_kind e.kind ActiveRequest) refl message
returned_next x e k place event message = absurd (subst NotLeaving message tt)

-- without an access the words hold the same
same_contents : (p : Setting) (local : Local) (seen : ℕ) (c : WireContents) (ending : Ending) → ending_at local ≡ Some ending
    → contents_after p.layout (program_of p local) seen c ≡ c
same_contents p (Ends k) seen c ending is = refl
same_contents p (SendEnds d last count) seen c ending is = refl
same_contents p local seen c ending is = none-some ending is

-- ---- the step

module _ (p : Setting) (held : Pools) (word word' : ℕ → ℕ) (c : WireContents) (seats : ℕ → Seat) (w : World) (n : ℕ) (payload : List ℕ)
    (numbered : AreNumbered p) (whole : Whole p held word c seats w) (living : not_living w.state n ≡ None) where
  abbrev x : Seat
  x = seats n

  abbrev seen : ℕ
  seen = seen_by (program_access p.layout (program_of p x.local)) word

  abbrev z : Seat
  z = advance p (accessed x) x.local seen

  abbrev m : Option Moment
  m = moment_at p held x.local seen

  abbrev t : State
  t = state_after w.state m

  abbrev new : Pools
  new = held_after p x seen held

  -- what slots hold then
  abbrev H : Holding
  H = HoldsNext p (seats n) (seen_by (program_access p.layout (program_of p (seats n).local)) word) payload held c

  -- what stands then, unless a request was given back: then it is put aside
  abbrev Steps : (ℕ → Seat) → Type 0
  Steps ss = LedTo H p word' w (step_beats n payload m (tells p x seen)) ss

  abbrev Done : Type 0
  Done =
      (ReturnsNothing x.local (message_at z.local) × Steps (put_at seats n (next p x seen)))
      ⊎ (LeavesNothing (message_at x.local) × Steps (put_at seats n (shown p (next p x seen))))

  module _ (told : StepIsTold p held w.state x seen payload) (made : AccessIsMade (program_access p.layout (program_of p x.local)) word word') where
    -- the call is over but for its end
    over_now : (ending : Ending) → ending_at x.local ≡ Some ending → Done
    over_now ending is =
        let none : HasNone p held x x.local seen = no_access p held x x.local seen ending is in
        let seat : z ≡ accessed x = none.seat in
        let at_end : ending_at z.local ≡ Some ending = ap (λ (q : Seat). ending_at q.local) seat ∙ is in
        let tells_end = told.ended ending at_end in
        let pools : new ≡ held = ap (λ (q : Seat). held_from p held x.local q.local) seat ∙ none.pools in
        let state : t ≡ w.state = ap (state_after w.state) none.moment in
        let ends_told : EndIsTold p held w.state (accessed x) ending
        = subst (λ q. EndIsTold p held w.state q ending) seat
        (subst (λ s. EndIsTold p held s z ending) state (subst (λ h. EndIsTold p h t z ending) pools tells_end.0)) in
        let may : MayHold w.state.fixed (outcome_of p held n ending) payload
        = subst (λ k. MayHold w.state.fixed (outcome_of p held k ending) payload) (whole.shows.node n)
        (subst (λ (s : State). MayHold s.fixed (outcome_of p held x.node ending) payload) state
        (subst (λ h. MayHold t.fixed (outcome_of p h x.node ending) payload) pools tells_end.1)) in
        let led : LedTo H p word w (Ends n (reply_of p (accessed x) ending) payload ∷ []) (put_at seats n (closed p (accessed x) (Some ending)))
        = end_led p held word c seats w n (accessed x) ending payload numbered (around_too p held word c seats w n whole) living
        (over_too p held w.state x ending (standing_nodes_end p held w.state x ending is (whole.nodes n living))) ends_told (whole.shows.node n) may H
        (record {
          pools = λ port slot low. ap (λ h. held_closed p h payload (Some ending) port slot) (sym pools) ∙ ap (λ o. held_closed p new payload o port slot) (sym at_end);
          contents = sym (same_contents p x.local seen c ending is);
        }) in
        inl (
          returns_none x.local (message_at z.local) (ended_leaves z.local ending at_end),
          subst (λ o. LedTo H p word' w (step_beats n payload o (tells p x seen)) (put_at seats n (next p x seen))) (sym none.moment)
              (subst (λ q. LedTo H p word' w (step_beats n payload None (option_map (reply_of p q) (ending_at q.local))) (put_at seats n (closed p q (ending_at q.local)))) (sym seat)
              (subst (λ o. LedTo H p word' w (step_beats n payload None (option_map (reply_of p (accessed x)) o)) (put_at seats n (closed p (accessed x) o))) (sym is)
              (subst (λ f. LedTo H p f w (Ends n (reply_of p (accessed x) ending) payload ∷ []) (put_at seats n (closed p (accessed x) (Some ending))))
              (same_words p x.local word word' ending is made) led))),
        )

    -- it has an access, and that is its last one
    last_now : ToldWhatIsSo p held w.state x seen → (ending : Ending) → ending_at z.local ≡ Some ending → Done
    last_now access ending is =
        let tells_end = told.ended ending is in
        let may : MayHold t.fixed (outcome_of p new n ending) payload
        = subst (λ k. MayHold t.fixed (outcome_of p new k ending) payload) (whole.shows.node n) tells_end.1 in
        inl (
          returns_none x.local (message_at z.local) (ended_leaves z.local ending is),
          subst (λ o. LedTo H p word' w (step_beats n payload m (option_map (reply_of p z) o)) (put_at seats n (closed p z o))) (sym is)
              (last_led p held word word' c seats w n numbered whole living access made ending payload is tells_end.0 may),
        )

    -- or another follows
    holds_now : ending_at z.local ≡ None → HoldsNext p (seats n) (seen_by (program_access p.layout (program_of p (seats n).local)) word) payload held c new
        (contents_after p.layout (program_of p x.local) seen c)
    holds_now going = record { pools = λ port slot low. ap (λ o. held_closed p new payload o port slot) (sym going); contents = refl }

    of_next : ending_at z.local ≡ None → (o : Option Moment) → WholeNext p new word' (contents_after p.layout (program_of p x.local) seen c) (put_at seats n z) w n o
        → LedTo H p word' w (step_beats n payload o None) (put_at seats n z)
    of_next going None now = (new, contents_after p.layout (program_of p x.local) seen c, w, refl, now, holds_now going)
    of_next going (Some o) now = (new, contents_after p.layout (program_of p x.local) seen c, now.0, (now.0, now.1, refl), now.2, holds_now going)

    -- nothing ends
    still : (ss : ℕ → Seat) → ending_at z.local ≡ None → LedTo H p word' w (step_beats n payload m None) ss → Steps ss
    still ss going led = subst (λ o. LedTo H p word' w (step_beats n payload m (option_map (reply_of p z) o)) ss) (sym going) led

    goes_now : ToldWhatIsSo p held w.state x seen → ending_at z.local ≡ None → ReturnsNothing x.local (message_at z.local) ⊎ GivesBack x.local (message_at z.local) → Done
    goes_now access going (inl returns) =
        inl (
          returns,
          still (put_at seats n (next p x seen)) going (subst (λ o. LedTo H p word' w (step_beats n payload m None) (put_at seats n (closed p z o))) (sym going)
              (of_next going m (goes_on p held word word' c seats w n numbered whole living access made returns going))),
        )
    goes_now access going (inr back) =
        let to = returned_next (accessed x) back.entry back.leaving _ _
        (ap (λ l. message_at (advance p (accessed x) l seen).local) (sym back.at) ∙ back.message) in
        let lands : z ≡ placed (accessed x) (ReleaseLooks back.entry) = ap (λ l. advance p (accessed x) l seen) back.at ∙ to.0 in
        inr (
          subst (λ l. LeavesNothing (message_at l)) (sym back.at) tt,
          still (put_at seats n (shown p (next p x seen))) going
              (subst (λ o. LedTo H p word' w (step_beats n payload m None) (put_at seats n (shown p (closed p z o)))) (sym going)
              (subst (λ q. LedTo H p word' w (step_beats n payload m None) (put_at seats n (shown p q))) (sym lands)
              (aside_led p held word word' c seats w n numbered whole living access made back.entry back.place back.at lands to.1 payload))),
        )

    by_next : ToldWhatIsSo p held w.state x seen → (o : Option Ending) → ending_at z.local ≡ o → Done
    by_next access (Some ending) is = last_now access ending is
    by_next access None going = goes_now access going (gives_back x.local (message_at z.local))

    by_place : (o : Option Ending) → ending_at x.local ≡ o → Done
    by_place (Some ending) is = over_now ending is
    by_place None going = by_next (told.access going) (ending_at z.local) refl

    pub done : Done
    done = by_place (ending_at x.local) refl
