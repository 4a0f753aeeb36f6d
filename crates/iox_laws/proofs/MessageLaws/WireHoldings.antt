-- On a wire, too, what a receiver has was delivered on its way, and taken from there.
use Rattle.std.specs.Prelude.{◌≡◌, ℕ, true, ◌==◌, List, [], ◌∷◌, ◌++◌, Option, Some, None}
use Rattle.std.proofs.Common.{sym, subst, append_assoc, inl, inr}
use Rattle.std.proofs.lemmas.List.{append-nil}
use Rattle.iox_model.specs.Doings.{Outcome, Loans, Fills, Receives, Doing, Ended}
use Rattle.iox_model.specs.Handles.{is_received, way_of}
use Rattle.iox_model.specs.Maps.{put_at}
use Rattle.iox_model.specs.States.{Handle, Fixed, State}
use Rattle.iox_model.specs.Transitions.{next}
use Rattle.iox_model.specs.Weaves.{at_work, wire_start, IsBeat, IsWeave, World, Beat, Begins, Makes, Ends, Dies}
use Rattle.iox_model.specs.WireCalls.{opened}
use Rattle.iox_laws.proofs.WeaveLaws.MapLemmas.{either}
use Rattle.iox_laws.proofs.WeaveLaws.WholeLemmas.{moved-fixed}
use Rattle.iox_laws.proofs.WeaveLedger.Borrows.{loan-own, taken-way}
use Rattle.iox_laws.proofs.WeaveLedger.Lists.{IsAmong}
use Rattle.iox_laws.proofs.WeaveLedger.Moves.{ends-fits}
use Rattle.iox_laws.proofs.WeaveLedger.Senders.{FitsOutcome}
use Rattle.iox_laws.proofs.WeaveLedger.Views.{View, view}
use Rattle.iox_laws.proofs.WeaveLedger.Worlds.{SoundWorld, opened-fits, doing-is, beat-fits}
use Rattle.iox_laws.specs.MessageLaws.Holdings.{HadAsDeliveredOnWires}
use Rattle.iox_laws.proofs.MessageLaws.Comes.{whole_on_wires}
use Rattle.iox_laws.proofs.MessageLaws.Holdings.{WasTaken, OnItsWay, came_by, receipt_taken, one-among}
use Rattle.iox_laws.proofs.MessageLaws.Receipts.{LoansOwn, settled_adds}
use Rattle.iox_laws.proofs.MessageLaws.Took.{IsTook, taken-front, took-front, next_took, ended_took, wire_start_took}

abbrev TookCall : List Beat → Option Doing → Type 0
TookCall bs None = Unit {0}
TookCall bs (Some d) = IsTook bs d

-- what handles and calls have was taken by the beats
record Held (w : World) (bs : List Beat) : Type 0 where
  pub handles : (n : ℕ) (h : Handle) → IsAmong h (w.state.fixed.handles n) → is_received h.kind ≡ true → WasTaken bs h
  pub calls : (n : ℕ) → TookCall bs (w.doing n)

more_calls : (bs cs : List Beat) (o : Option Doing) → TookCall bs o → TookCall (bs ++ cs) o
more_calls bs cs None p = tt
more_calls bs cs (Some d) p = took-front bs cs d p

-- the call of one node changes
put_calls : (bs cs : List Beat) (doing : ℕ → Option Doing) (node : ℕ) (o : Option Doing) → TookCall (bs ++ cs) o → ((n : ℕ) → TookCall bs (doing n))
    → (n : ℕ) → TookCall (bs ++ cs) (put_at doing node o n)
put_calls bs cs doing node o here others n =
    either (TookCall (bs ++ cs)) (n == node) o (doing n) (λ e. here) (λ e. more_calls bs cs (doing n) (others n))

more_handles : (w : World) (bs cs : List Beat) → Held w bs
    → (n : ℕ) (h : Handle) → IsAmong h (w.state.fixed.handles n) → is_received h.kind ≡ true → WasTaken (bs ++ cs) h
more_handles w bs cs p n h among received = taken-front (way_of h) h.message bs cs (p.handles n h among received)

call_took : (bs : List Beat) (o : Option Doing) (d : Doing) → o ≡ Some d → TookCall bs o → IsTook bs d
call_took bs o d e p = subst (TookCall bs) e p

loans_own : (v : View) (n : ℕ) (o : Outcome) → FitsOutcome v n o → LoansOwn o
loans_own v n (Loans h) p = loan-own h.kind p.loan
loans_own v n (Fills h) p = loan-own h.kind p.is_loan_still
loans_own v n o p = tt

on_its_way : (s : State) (node : ℕ) (o : Outcome) → FitsOutcome (view s.fixed node) node o → OnItsWay s node o
on_its_way s node (Receives x w m) p = taken-way (view s.fixed node) node x w m p.1
on_its_way s node o p = tt

-- ---- one beat

beat_held : (w v : World) (b : Beat) (bs : List Beat) → IsBeat w b v → SoundWorld w → Held w bs → Held v (bs ++ b ∷ [])
beat_held w v (Begins node call c) bs beat fits p = subst (λ u. Held u (bs ++ Begins node call c ∷ [])) (sym beat.2) (record {
  handles = more_handles w bs (Begins node call c ∷ []) p;
  calls = put_calls bs (Begins node call c ∷ []) w.doing node (Some (wire_start w.state node c call))
      (wire_start_took (bs ++ Begins node call c ∷ []) w.state node c call) p.calls;
})
beat_held w v (Makes node m) bs beat fits p = subst (λ u. Held u (bs ++ Makes node m ∷ [])) (sym beat.5) (record {
  handles = λ n h among. more_handles w bs (Makes node m ∷ []) p n h (subst (λ (f : Fixed). IsAmong h (f.handles n)) (moved-fixed w.state m) among);
  calls = put_calls bs (Makes node m ∷ []) w.doing node (Some (next w.state node beat.1 m).after)
      (next_took bs w.state node beat.1 m beat.4 (call_took bs (w.doing node) beat.1 beat.2 (p.calls node))) p.calls;
})
beat_held w v (Ends node reply payload) bs beat fits p =
    let o : Outcome = beat.3 in
    let cs : List Beat = Ends node reply payload ∷ [] in
    let ended : FitsOutcome (view w.state.fixed node) node o = ends-fits w.state node beat.1 o (doing-is w node beat.1 fits beat.2) beat.4 in
    let took : IsTook bs (Ended o) = ended_took bs w.state beat.1 o beat.4 (call_took bs (w.doing node) beat.1 beat.2 (p.calls node)) in
    subst (λ u. Held u (bs ++ cs)) (sym beat.7) (record {
      handles = λ n h among received.
          elim (settled_adds w.state node payload o (loans_own (view w.state.fixed node) node o ended) n h among received) as (λ x. WasTaken (bs ++ cs) h) [
            | inl there ↦ more_handles w bs cs p n h there received
            | inr new ↦ taken-front (way_of h) h.message bs cs (receipt_taken bs w.state node o h (on_its_way w.state node o ended) took new)
          ];
      calls = put_calls bs cs w.doing node None tt p.calls;
    })
beat_held w v (Dies node) bs beat fits p = subst (λ u. Held u (bs ++ Dies node ∷ [])) (sym beat.1) (record {
  handles = more_handles w bs (Dies node ∷ []) p;
  calls = λ n. more_calls bs (Dies node ∷ []) (w.doing n) (p.calls n);
})

weave_held : (w v : World) (bs cs : List Beat) → IsWeave w cs v → SoundWorld w → Held w bs → Held v (bs ++ cs)
weave_held w v bs [] weave fits p = subst (λ ds. Held v ds) (sym (append-nil bs)) (subst (λ u. Held u bs) (sym weave) p)
weave_held w v bs (c ∷ cs) weave fits p =
    subst (Held v) (append_assoc bs (c ∷ []) cs)
    (weave_held weave.0 v (bs ++ c ∷ []) cs weave.2 (beat-fits w weave.0 c weave.1 fits) (beat_held w weave.0 c bs weave.1 fits p))

pub had_as_delivered_on_wires : HadAsDeliveredOnWires
had_as_delivered_on_wires s v bs node h on among received =
    let held : Held v bs
    = weave_held (at_work (opened s)) v [] bs on.1 (opened-fits s on.0) (record { handles = λ n g there r. absurd there; calls = λ n. tt }) in
    came_by (way_of h) h.message bs v.state (whole_on_wires s v bs (way_of h) on.1)
    (held.handles node h (one-among h (v.state.fixed.handles node) among) received)
