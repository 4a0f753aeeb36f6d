-- What holds of each world of a wire, as far as its nodes loan and send.
use Rattle.std.specs.Prelude.{◌≡◌, ℕ, ◌+◌, Bool, true, false, if◌then◌else◌, ◌==◌, List, [], map, Option, Some, None, is_some, ⊤, refl}
use Rattle.std.proofs.Common.{sym, subst, ap, ◌∙◌, arith, eqb-true}
use Rattle.iox_model.specs.declared.reply.Refusal.TheVariants.{Busy}
use Rattle.iox_model.specs.Weaves.{at_work, miscalled, begin_refusal, IsBeat, World, Beat, Begins, Makes, Ends, Dies}
use Rattle.iox_model.specs.Doings.{Outcome, Doing}
use Rattle.iox_model.specs.States.{Port, Fixed, State}
use Rattle.iox_model.specs.WireCalls.{opened}
use Rattle.iox_model.specs.Commands.{Refusal, WireCall}
use Rattle.iox_model.specs.Maps.{put_at, refused_if}
use Rattle.iox_model.specs.Ends.{settled}
use Rattle.iox_model.specs.Moments.{moved}
use Rattle.iox_model.specs.Transitions.{next}
use Rattle.iox_laws.proofs.WeaveLaws.WholeLemmas.{moved-fixed, or_else-none}
use Rattle.iox_laws.proofs.WeaveLaws.WireLemmas.{beat-wire, settled_same}
use Rattle.iox_laws.specs.WeaveLedger.OnceLaws.{HasOwnNumbers}
use Rattle.iox_laws.proofs.WeaveLedger.Truths.{none-some}
use Rattle.iox_laws.proofs.WeaveLedger.Lists.{IsAmong, NoRepeats, distinct-no_repeats}
use Rattle.iox_laws.proofs.WeaveLedger.Views.{View, view}
use Rattle.iox_laws.proofs.WeaveLedger.Senders.{OnWay, FitsHandles, FitsOutcome, FitsDoing}
use Rattle.iox_laws.proofs.WeaveLedger.Settling.{settled-here, settled-else}
use Rattle.iox_laws.proofs.WeaveLedger.Rights.{after-fits}
use Rattle.iox_laws.proofs.WeaveLedger.Phases.{HasOwnPorts}
use Rattle.iox_model.specs.declared.way.Way.{Way}
use Rattle.iox_model.specs.Messages.{Message}
use Rattle.iox_laws.proofs.WeaveLedger.Rests.{settled-expired}
use Rattle.iox_laws.proofs.WeaveLedger.Moves.{WaitsFit, moved-waits, next-fits, ends-fits}
use Rattle.iox_laws.proofs.WeaveLedger.Starts.{wire_start-fits}

abbrev pub FitsCall : View → ℕ → Option Doing → Type 0
FitsCall v n None = ⊤
FitsCall v n (Some d) = FitsDoing v n d

pub record SoundWorld (w : World) : Type 0 where
  pub wire : w.state.fixed.on_wire ≡ true
  pub own : HasOwnPorts w.state.fixed
  pub handles : (n : ℕ) → FitsHandles (view w.state.fixed n) n
  pub doing : (n : ℕ) → FitsCall (view w.state.fixed n) n (w.doing n)
  pub waits : WaitsFit w.state
  pub expired : (p : ℕ) → w.state.fixed.expired p ≡ []

pub opened-fits : (s : State) → HasOwnNumbers s → SoundWorld (at_work (opened s))
opened-fits s own = record {
  wire = refl;
  own = distinct-no_repeats (map (λ p. p.number) s.fixed.ports) own;
  handles = λ n. record {
    apart = tt;
    below = λ h a. absurd a;
    of_node = λ h a. absurd a;
    of_port = λ h a. absurd a;
    made = λ h a l. absurd a;
    lent = λ h a l. absurd a;
    alone = λ g h a b l m e f. absurd a;
  };
  doing = λ n. tt;
  waits = λ y m a. absurd a;
  expired = λ p. refl;
}

-- ---- what a node has, before and after a beat

-- the call of one node changes, and nothing else
pub call-fits : (f : Fixed) (doing : ℕ → Option Doing) (node n : ℕ) (o : Option Doing) → FitsCall (view f node) node o → FitsCall (view f n) n (doing n)
    → FitsCall (view f n) n (put_at doing node o n)
call-fits f doing node n o p q = by_case (n == node) refl
  where
    by_case : (b : Bool) → (n == node) ≡ b → FitsCall (view f n) n (if b then o else doing n)
    by_case true e = subst (λ k. FitsCall (view f k) k o) (sym (eqb-true n node e)) p
    by_case false e = q

call-is : (v : View) (n : ℕ) (o : Option Doing) (d : Doing) → o ≡ Some d → FitsCall v n o → FitsDoing v n d
call-is v n o d e p = subst (FitsCall v n) e p

pub doing-is : (w : World) (n : ℕ) (d : Doing) → SoundWorld w → w.doing n ≡ Some d → FitsDoing (view w.state.fixed n) n d
doing-is w n d fits e = call-is (view w.state.fixed n) n (w.doing n) d e (fits.doing n)

pub begin-none : (w : World) (n : ℕ) (call : WireCall) → begin_refusal w n call ≡ None → (w.doing n ≡ None) × (miscalled w.state n call ≡ None)
begin-none w n call e =
    let p : (refused_if (is_some (w.doing n)) Busy ≡ None) × (miscalled w.state n call ≡ None) = or_else-none _ _ (or_else-none _ _ e).1 in
    (idle Busy (w.doing n) p.0, p.1)
  where
    idle : (r : Refusal) (o : Option Doing) → refused_if (is_some o) r ≡ None → o ≡ None
    idle r None e = refl
    idle r (Some d) e = absurd (none-some r (sym e))

pub next-node : (n : ℕ) → (n + 1 == n) ≡ false
next-node n = grind (arith)

-- the ports stay
pub settled-ports : (s : State) (n : ℕ) (payload : List ℕ) (o : Outcome) → s.fixed.on_wire ≡ true → FitsHandles (view s.fixed n) n
    → FitsOutcome (view s.fixed n) n o → (settled s n payload o).fixed.ports ≡ s.fixed.ports
settled-ports s n payload o wire fits p = ap (λ (v : View). v.ports) (settled-else s n (n + 1) payload o wire fits p (next-node n))

over-handles : (s : State) (n k : ℕ) (payload : List ℕ) (o : Outcome) → s.fixed.on_wire ≡ true → ((m : ℕ) → FitsHandles (view s.fixed m) m)
    → FitsOutcome (view s.fixed n) n o → FitsHandles (view (settled s n payload o).fixed k) k
over-handles s n k payload o wire fits p = by_case (k == n) refl
  where
    by_case : (b : Bool) → (k == n) ≡ b → FitsHandles (view (settled s n payload o).fixed k) k
    by_case true e =
        subst (λ m. FitsHandles (view (settled s n payload o).fixed m) m) (sym (eqb-true k n e))
        (subst (λ v. FitsHandles v n) (sym (settled-here s n payload o wire (fits n) p)) (after-fits (view s.fixed n) n payload o (fits n) p))
    by_case false e = subst (λ v. FitsHandles v k) (sym (settled-else s n k payload o wire (fits n) p e)) (fits k)

over-doing : (s : State) (doing : ℕ → Option Doing) (n k : ℕ) (payload : List ℕ) (o : Outcome) → s.fixed.on_wire ≡ true → FitsHandles (view s.fixed n) n
    → FitsOutcome (view s.fixed n) n o → FitsCall (view s.fixed k) k (doing k) → FitsCall (view (settled s n payload o).fixed k) k (put_at doing n None k)
over-doing s doing n k payload o wire fits p q = by_case (k == n) refl
  where
    by_case : (b : Bool) → (k == n) ≡ b → FitsCall (view (settled s n payload o).fixed k) k (if b then None else doing k)
    by_case true e = tt
    by_case false e = subst (λ v. FitsCall v k (doing k)) (sym (settled-else s n k payload o wire fits p e)) q

pub beat-fits : (w u : World) (b : Beat) → IsBeat w b u → SoundWorld w → SoundWorld u
beat-fits w u (Begins n call c) beat fits = subst SoundWorld (sym beat.2) (record {
  wire = fits.wire;
  own = fits.own;
  handles = fits.handles;
  doing = λ k. call-fits w.state.fixed w.doing n k _
      (wire_start-fits w.state n c call fits.own fits.expired fits.wire (fits.handles n) (begin-none w n call beat.0).1) (fits.doing k);
  waits = fits.waits;
  expired = fits.expired;
})
beat-fits w u (Makes n m) beat fits =
    let same : (moved w.state m).fixed ≡ w.state.fixed = moved-fixed w.state m in
    subst SoundWorld (sym beat.5) (record {
      wire = ap (λ (f : Fixed). f.on_wire) same ∙ fits.wire;
      own = subst HasOwnPorts (sym same) fits.own;
      handles = λ k. subst (λ (f : Fixed). FitsHandles (view f k) k) (sym same) (fits.handles k);
      doing = λ k. subst (λ (f : Fixed). FitsCall (view f k) k (put_at w.doing n (Some (next w.state n beat.1 m).after) k)) (sym same)
          (call-fits w.state.fixed w.doing n k _ (next-fits w.state n beat.1 m fits.own fits.waits beat.3 (doing-is w n beat.1 fits beat.2) beat.4)
          (fits.doing k));
      waits = λ y x a. subst (λ (f : Fixed). OnWay f.ports y x) (sym same)
          (moved-waits w.state n beat.1 m (doing-is w n beat.1 fits beat.2) beat.4 fits.waits y x a);
      expired = λ p. ap (λ (f : Fixed). f.expired p) same ∙ fits.expired p;
    })
beat-fits w u (Ends n reply payload) beat fits =
    let p : FitsOutcome (view w.state.fixed n) n beat.3 = ends-fits w.state n beat.1 beat.3 (doing-is w n beat.1 fits beat.2) beat.4 in
    subst SoundWorld (sym beat.7) (record {
      wire = beat-wire w _ (Ends n reply payload) (beat.0, beat.1, beat.2, beat.3, beat.4, beat.5, beat.6, refl) fits.wire;
      own = subst (λ (ports : List Port). NoRepeats (map (λ q. q.number) ports))
          (sym (settled-ports w.state n payload beat.3 fits.wire (fits.handles n) p)) fits.own;
      handles = λ k. over-handles w.state n k payload beat.3 fits.wire fits.handles p;
      doing = λ k. over-doing w.state w.doing n k payload beat.3 fits.wire (fits.handles n) p (fits.doing k);
      waits = λ y x a. subst (λ (ports : List Port). OnWay ports y x) (sym (settled-ports w.state n payload beat.3 fits.wire (fits.handles n) p))
          (fits.waits y x (subst (λ (f : Way → List Message). IsAmong x (f y)) (settled_same w.state n payload beat.3 fits.wire).waiting a));
      expired = λ q. ap (λ (f : ℕ → List ℕ). f q) (settled-expired w.state n payload beat.3 fits.wire p) ∙ fits.expired q;
    })
beat-fits w u (Dies n) beat fits = subst SoundWorld (sym beat.1) (record {
  wire = fits.wire;
  own = fits.own;
  handles = fits.handles;
  doing = fits.doing;
  waits = fits.waits;
  expired = fits.expired;
})
