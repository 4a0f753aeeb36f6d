-- Each world that may come about keeps its counts, so that an unreduced pool never refuses.
use Rattle.std.specs.Prelude.{◌≡◌, ℕ, ◌≤◌, Bool, true, false, not, ◌&&◌, if◌then◌else◌, ◌==◌, List, [], ◌∷◌, ◌++◌, Option, Some, None, ◌⊎◌, refl}
use Rattle.std.proofs.Common.{sym, subst, ap, ◌∙◌, arith, eqb-true, true≢false, inl, inr}
use Rattle.iox_model.specs.declared.reply.Reply.TheVariants.{Refused, Sent, Done}
use Rattle.iox_model.specs.declared.reply.Reply.TheVariants as replies
use Rattle.iox_model.specs.Doings.{Outcome, Tells, Loans, Fills, Sends, FailsToSend, Receives, Drops, DropsPort, Forgets, Doing, Ended}
use Rattle.iox_model.specs.States.{Fixed, State}
use Rattle.iox_model.specs.Handles.{is_request_loan, is_received, new_number}
use Rattle.iox_model.specs.Maps.{has_number, put_at}
use Rattle.iox_model.specs.Commands.{Refusal}
use Rattle.iox_model.specs.Joins.{not_living}
use Rattle.iox_model.specs.Services.{with_death}
use Rattle.iox_model.specs.WholeCalls.{replied}
use Rattle.iox_model.specs.WireCalls.{opened}
use Rattle.iox_model.specs.Ends.{settled}
use Rattle.iox_model.specs.Moments.{moved}
use Rattle.iox_laws.specs.WeaveLaws.Laws.{node_of_beat}
use Rattle.iox_model.specs.Transitions.{next}
use Rattle.iox_model.specs.Weaves.{at_work, made, over, IsBeat, IsWeave, World, Beat, Begins, Makes, Ends, Dies}
use Rattle.iox_laws.proofs.WeaveLaws.MapLemmas.{either, eqb-refl}
use Rattle.iox_laws.proofs.WeaveLaws.WholeLemmas.{moved-fixed, or_else-none}
use Rattle.iox_laws.proofs.WeaveLaws.DeathLaws.{the_dead_stay_dead}
use Rattle.iox_model.specs.Runs.{IsReachableState}
use Rattle.iox_laws.specs.WeaveLedger.OnceLaws.{IsOnWire}
use Rattle.iox_laws.proofs.WeaveLedger.Lists.{IsAmong, among-append, number-among, among-number}
use Rattle.iox_laws.proofs.WeaveLedger.Views.{View, view, after_call}
use Rattle.iox_laws.proofs.WeaveLedger.Senders.{FitsHandles, FitsOutcome}
use Rattle.iox_laws.proofs.WeaveLedger.Settling.{settled-here, settled-else}
use Rattle.iox_laws.proofs.WeaveLedger.Moves.{ends-fits}
use Rattle.iox_laws.proofs.WeaveLedger.Worlds.{SoundWorld, opened-fits, doing-is, begin-none, beat-fits}
use Rattle.iox_laws.proofs.WeavePools.Limited.{IsWithin, settled_keeps, reached_within}
use Rattle.iox_laws.proofs.WeavePools.Spare.{FitsKinds, TellsIf, SpareOutcome, fits-end, after-kinds}
use Rattle.iox_laws.proofs.WeavePools.SpareMoves.{next-spare, ends-spare}
use Rattle.iox_laws.proofs.WeavePools.SpareStarts.{wire_start-spare}
use Rattle.iox_laws.proofs.WeavePools.Ways.{ForgetsTheDead}
use Rattle.iox_laws.proofs.WeavePools.Suffices.{Reduced, Gone, SpareCall, Spares, spare-is, loan-at, dry-if, dry-at-once}

-- ---- who lives after a beat lived before it

lives-before : (w u : World) (b : Beat) (d : ℕ) → IsBeat w b u → not_living u.state d ≡ None → not_living w.state d ≡ None
lives-before w u b d beat living = by_case (not_living w.state d) refl
  where
    apart : (a c : Bool) → (a && (c && true)) ≡ true → c ≡ true
    apart true true e = refl
    apart true false e = absurd (true≢false (sym e))
    apart false c e = absurd (true≢false (sym e))

    by_case : (o : Option Refusal) → not_living w.state d ≡ o → o ≡ None
    by_case None e = refl
    by_case (Some r) e =
        absurd (true≢false (sym (apart (not (node_of_beat b == d)) (not (d == d))
        (the_dead_stay_dead w (record u { state = with_death u.state d }) (b ∷ Dies d ∷ []) d r
        (u, beat, (record u { state = with_death u.state d }, (living, refl), refl)) e))
        ∙ ap (λ x. not x) (eqb-refl d)))

gone-before : (w u : World) (b : Beat) (d : ℕ) → IsBeat w b u → Gone w.state d → Gone u.state d
gone-before w u b d beat gone living = gone (lives-before w u b d beat living)

more-gone : (v : View) (before after : ℕ → Type 0) (n : ℕ) (o : Option Doing) → ((d : ℕ) → before d → after d) → SpareCall v before n o → SpareCall v after n o
more-gone v before after n None f p = tt
more-gone v before after n (Some (Ended (Forgets dead))) f p = f dead p
more-gone v before after n (Some d) f p = p

-- ---- the call of one node changes

call-spare : (v : ℕ → View) (gone : ℕ → Type 0) (doing : ℕ → Option Doing) (node n : ℕ) (o : Option Doing) → SpareCall (v node) gone node o
    → SpareCall (v n) gone n (doing n)
    → SpareCall (v n) gone n (put_at doing node o n)
call-spare v gone doing node n o p q = by_case (n == node) refl
  where
    by_case : (b : Bool) → (n == node) ≡ b → SpareCall (v n) gone n (if b then o else doing n)
    by_case true e = subst (λ k. SpareCall (v k) gone k o) (sym (eqb-true n node e)) p
    by_case false e = q

-- ---- the end of a call

-- whom the node forgot, it forgot before, or he does not live
after-forgot : (v : View) (gone : ℕ → Type 0) (out : Type 0) (n : ℕ) (payload : List ℕ) (o : Outcome) (d : ℕ) → FitsOutcome v n o → SpareOutcome v gone out o
    → has_number d (after_call v n payload o).forgot ≡ true → (has_number d v.forgot ≡ true) ⊎ gone d
after-forgot v gone out n payload (Tells reply) d fits p e = inl e
after-forgot v gone out n payload (Loans h) d fits p e = inl e
after-forgot v gone out n payload (Fills h) d fits p e = inl e
after-forgot v gone out n payload (Sends h true count) d fits p e =
    inl (either (λ (u : View). has_number d u.forgot ≡ true → has_number d v.forgot ≡ true) (is_request_loan h.kind) _ v (λ u f. f) (λ u f. f) e)
after-forgot v gone out n payload (Sends h false count) d fits p e =
    inl (either (λ (u : View). has_number d u.forgot ≡ true → has_number d v.forgot ≡ true) (is_request_loan h.kind) _ _ (λ u f. f) (λ u f. f) e)
after-forgot v gone out n payload (FailsToSend h true refusal) d fits p e = inl e
after-forgot v gone out n payload (FailsToSend h false refusal) d fits p e = inl e
after-forgot v gone out n payload (Receives x w m) d fits p e = inl e
after-forgot v gone out n payload (Drops h) d fits p e =
    inl (either (λ (u : View). has_number d u.forgot ≡ true → has_number d v.forgot ≡ true) (is_received h.kind) _ _ (λ u f. f) (λ u f. f) e)
after-forgot v gone out n payload (DropsPort port) d fits p e = absurd fits
after-forgot v gone out n payload (Forgets dead) d fits p e =
    either (λ (u : View). has_number d u.forgot ≡ true → (has_number d v.forgot ≡ true) ⊎ gone d) (has_number dead v.forgot) v
    (record v { forgot = v.forgot ++ dead ∷ [] })
    (λ u f. inl f) (λ u f. last (among-append d v.forgot (dead ∷ []) (number-among d (v.forgot ++ dead ∷ []) f))) e
  where
    last : IsAmong d v.forgot ⊎ IsAmong d (dead ∷ []) → (has_number d v.forgot ≡ true) ⊎ gone d
    last (inl a) = inl (among-number d v.forgot a)
    last (inr (inl is)) = inr (subst gone (sym is) p)
    last (inr (inr a)) = absurd a

over-kinds : (s : State) (n k : ℕ) (gone : ℕ → Type 0) (out : Type 0) (payload : List ℕ) (o : Outcome) → s.fixed.on_wire ≡ true
    → FitsHandles (view s.fixed n) n → FitsOutcome (view s.fixed n) n o
    → SpareOutcome (view s.fixed n) gone out o → FitsKinds (view s.fixed n) → FitsKinds (view s.fixed k) → FitsKinds (view (settled s n payload o).fixed k)
over-kinds s n k gone out payload o wire hs fits p here there = by_case (k == n) refl
  where
    by_case : (b : Bool) → (k == n) ≡ b → FitsKinds (view (settled s n payload o).fixed k)
    by_case true e =
        subst (λ m. FitsKinds (view (settled s n payload o).fixed m)) (sym (eqb-true k n e))
        (subst FitsKinds (sym (settled-here s n payload o wire hs fits))
        (after-kinds (view s.fixed n) gone out n payload o hs.apart (fits-end (view s.fixed n) n o fits) p here))
    by_case false e = subst FitsKinds (sym (settled-else s n k payload o wire hs fits e)) there

over-call : (s : State) (doing : ℕ → Option Doing) (n k : ℕ) (gone : ℕ → Type 0) (payload : List ℕ) (o : Outcome) → s.fixed.on_wire ≡ true
    → FitsHandles (view s.fixed n) n
    → FitsOutcome (view s.fixed n) n o → SpareCall (view s.fixed k) gone k (doing k)
    → SpareCall (view (settled s n payload o).fixed k) gone k (put_at doing n None k)
over-call s doing n k gone payload o wire hs fits p = by_case (k == n) refl
  where
    by_case : (b : Bool) → (k == n) ≡ b → SpareCall (view (settled s n payload o).fixed k) gone k (if b then None else doing k)
    by_case true e = tt
    by_case false e = subst (λ v. SpareCall v gone k (doing k)) (sym (settled-else s n k payload o wire hs fits e)) p

over-dead : (s : State) (n : ℕ) (out : Type 0) (payload : List ℕ) (o : Outcome) → s.fixed.on_wire ≡ true → FitsHandles (view s.fixed n) n
    → FitsOutcome (view s.fixed n) n o
    → SpareOutcome (view s.fixed n) (Gone s) out o → ForgetsTheDead s → (m d : ℕ) → has_number d ((settled s n payload o).fixed.forgot m) ≡ true → Gone s d
over-dead s n out payload o wire hs fits p dead m d e = by_case (m == n) refl
  where
    before : (has_number d (s.fixed.forgot n) ≡ true) ⊎ Gone s d → Gone s d
    before (inl f) = dead n d f
    before (inr g) = g

    by_case : (b : Bool) → (m == n) ≡ b → Gone s d
    by_case true is =
        before (after-forgot (view s.fixed n) (Gone s) out n payload o d fits p
        (ap (λ (v : View). has_number d v.forgot) (sym (settled-here s n payload o wire hs fits))
        ∙ ap (λ k. has_number d ((settled s n payload o).fixed.forgot k)) (sym (eqb-true m n is)) ∙ e))
    by_case false is = dead m d (ap (λ (v : View). has_number d v.forgot) (sym (settled-else s n m payload o wire hs fits is)) ∙ e)

-- ---- beats

beat-spares : (s : State) (w u : World) (bs : List Beat) (b : Beat) → IsOnWire s bs w → IsBeat w b u → SoundWorld w → Spares w → Spares u
beat-spares s w u bs (Begins n call c) on beat fits spares = subst Spares (sym beat.2) (record {
  kinds = spares.kinds;
  doing = λ k. call-spare (view w.state.fixed) (Gone w.state) w.doing n k _
      (wire_start-spare w.state n (Reduced (view w.state.fixed n) n) c call (dry-at-once s w bs n on fits spares (or_else-none _ _ beat.0).0)
      (fits.handles n).of_port (spares.kinds n)
      (begin-none w n call beat.0).1) (spares.doing k);
  dead = spares.dead;
  within = spares.within;
})
beat-spares s w u bs (Makes n m) on beat fits spares =
    let same : (moved w.state m).fixed ≡ w.state.fixed = moved-fixed w.state m in
    subst Spares (sym beat.5) (record {
      kinds = λ k. subst (λ (f : Fixed). FitsKinds (view f k)) (sym same) (spares.kinds k);
      doing =
          λ k. more-gone _ (Gone w.state) (Gone (moved w.state m)) k _
          (λ d. gone-before w (made w n beat.1 m) (Makes n m) d (beat.0, beat.1, beat.2, beat.3, beat.4, refl))
          (subst (λ (f : Fixed). SpareCall (view f k) (Gone w.state) k (put_at w.doing n (Some (next w.state n beat.1 m).after) k)) (sym same)
          (call-spare (view w.state.fixed) (Gone w.state) w.doing n k _
          (next-spare w.state n (Gone w.state) (Reduced (view w.state.fixed n) n) beat.1 m (dry-if s w bs n beat.1 m on fits spares beat.0 beat.2 beat.3)
          (loan-at w.state.fixed n beat.1 (doing-is w n beat.1 fits beat.2)) beat.4 (spare-is w n beat.1 spares beat.2)) (spares.doing k)));
      dead = λ k d e living. spares.dead k d (ap (λ (f : Fixed). has_number d (f.forgot k)) (sym same) ∙ e)
          (lives-before w (made w n beat.1 m) (Makes n m) d (beat.0, beat.1, beat.2, beat.3, beat.4, refl) living);
      within = subst IsWithin (sym same) spares.within;
    })
beat-spares s w u bs (Ends n reply payload) on beat fits spares =
    let p : FitsOutcome (view w.state.fixed n) n beat.3 = ends-fits w.state n beat.1 beat.3 (doing-is w n beat.1 fits beat.2) beat.4 in
    let q : SpareOutcome (view w.state.fixed n) (Gone w.state) (Reduced (view w.state.fixed n) n) beat.3
    = ends-spare w.state (view w.state.fixed n) (Gone w.state) (Reduced (view w.state.fixed n) n) beat.1 beat.3 (spare-is w n beat.1 spares beat.2) beat.4 in
    let before : (d : ℕ) → Gone w.state d → Gone (settled w.state n payload beat.3) d
    = λ d. gone-before w (over w n payload beat.3) (Ends n reply payload) d (beat.0, beat.1, beat.2, beat.3, beat.4, beat.5, beat.6, refl) in
    subst Spares (sym beat.7) (record {
      kinds = λ k. over-kinds w.state n k (Gone w.state) (Reduced (view w.state.fixed n) n) payload beat.3 fits.wire (fits.handles n) p q
          (spares.kinds n) (spares.kinds k);
      doing = λ k. more-gone _ (Gone w.state) (Gone (settled w.state n payload beat.3)) k _ before
          (over-call w.state w.doing n k (Gone w.state) payload beat.3 fits.wire (fits.handles n) p (spares.doing k));
      dead = λ k d e. before d (over-dead w.state n (Reduced (view w.state.fixed n) n) payload beat.3 fits.wire (fits.handles n) p q spares.dead k d e);
      within = settled_keeps w.state n payload beat.3 spares.within;
    })
beat-spares s w u bs (Dies n) on beat fits spares =
    let before : (d : ℕ) → Gone w.state d → Gone (with_death w.state n) d
    = λ d. gone-before w (record w { state = with_death w.state n }) (Dies n) d (beat.0, refl) in
    subst Spares (sym beat.1) (record {
      kinds = spares.kinds;
      doing = λ k. more-gone (view w.state.fixed k) (Gone w.state) (Gone (with_death w.state n)) k (w.doing k) before (spares.doing k);
      dead = λ k d e. before d (spares.dead k d e);
      within = spares.within;
    })

-- ---- weaves

weave-last : (first w u : World) (bs : List Beat) (b : Beat) → IsWeave first bs w → IsBeat w b u → IsWeave first (bs ++ b ∷ []) u
weave-last first w u [] b weave beat = (u, subst (λ (x : World). IsBeat x b u) weave beat, refl)
weave-last first w u (c ∷ bs) b weave beat = (weave.0, weave.1, weave-last weave.0 w u bs b weave.2 beat)

-- what holds of a world on a wire
pub record Holding (v : World) : Type 0 where
  pub fits : SoundWorld v
  pub spares : Spares v

weave-holds : (s : State) (w v : World) (bs cs : List Beat) → IsOnWire s bs w → IsWeave w cs v → Holding w → Holding v
weave-holds s w v bs [] on weave p = subst Holding (sym weave) p
weave-holds s w v bs (b ∷ cs) on weave p =
    weave-holds s weave.0 v (bs ++ b ∷ []) cs (on.0, weave-last (at_work (opened s)) w weave.0 bs b on.1 weave.1) weave.2 (record {
      fits = beat-fits w weave.0 b weave.1 p.fits;
      spares = beat-spares s w weave.0 bs b on weave.1 p.fits p.spares;
    })

opened-spares : (s : State) → IsWithin s.fixed → Spares (at_work (opened s))
opened-spares s within = record {
  kinds = λ n. record { suits = λ h a. absurd a; pending = λ port. none s.fixed.limits.active_requests };
  doing = λ n. tt;
  dead = λ m d e. absurd (true≢false (sym e));
  within = within;
}
  where
    none : (k : ℕ) → 0 ≤ k
    none k = omega arith

-- In each world on the wire of a service all that holds.
pub on-wire-holds : (s : State) (v : World) (bs : List Beat) → IsReachableState s → IsOnWire s bs v → Holding v
on-wire-holds s v bs reached on =
    weave-holds s (at_work (opened s)) v [] bs (on.0, refl) on.1
    (record { fits = opened-fits s on.0; spares = opened-spares s (reached_within s reached) })

-- ---- answers

-- what a call that is not refused for its pool answers
pub replied-if : (f : Fixed) (n : ℕ) (v : View) (gone : ℕ → Type 0) (out : Type 0) (o : Outcome) → SpareOutcome v gone out o → TellsIf out (replied f n o)
replied-if f n v gone out (Tells reply) p = p
replied-if f n v gone out (Loans h) p = tt
replied-if f n v gone out (Fills h) p = tt
replied-if f n v gone out (Sends h copied count) p =
    either (TellsIf out) (is_request_loan h.kind) (if copied then replies.Handle (new_number f n) else Sent count) Done
    (λ u. either (TellsIf out) copied (replies.Handle (new_number f n)) (Sent count) (λ y. tt) (λ y. tt)) (λ u. tt)
replied-if f n v gone out (FailsToSend h copied refusal) p = p
replied-if f n v gone out (Receives x w m) p = tt
replied-if f n v gone out (Drops h) p = tt
replied-if f n v gone out (DropsPort port) p = tt
replied-if f n v gone out (Forgets dead) p = tt
