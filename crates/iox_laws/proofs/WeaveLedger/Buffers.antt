-- What is waiting on a way is at most the buffer, and one more that may still be evicted.
use Rattle.std.specs.Prelude.{◌≡◌, ℕ, ◌+◌, ◌≤◌, Bool, true, false, not, if◌then◌else◌, ◌==◌, nat_lt, List, [], ◌∷◌, ◌++◌, length, take, Option, Some, None, ⊤, refl}
use Rattle.std.specs.Option.{option_map_or}
use Rattle.std.proofs.Common.{sym, subst, ap, ◌∙◌, arith, eqb-true, eq-eqb, true≢false}
use Rattle.iox_model.specs.declared.way.Way.{Way}
use Rattle.iox_model.specs.Weaves.{over, at_work, wire_start, IsBeat, IsWeave, World, Beat, Begins, Makes, Ends, Dies}
use Rattle.iox_model.specs.Doings.{Sending, Outcome, Sends, Doing, Ended, Delivering, Evicted}
use Rattle.iox_model.specs.Settings.{buffer_of, overflow_of}
use Rattle.iox_model.specs.States.{Port, Fixed, State}
use Rattle.iox_model.specs.WireCalls.{opened}
use Rattle.iox_model.specs.Requests.{may_evict, is_last, is_over}
use Rattle.iox_model.specs.Maps.{rest_of, put_at, same_way}
use Rattle.iox_model.specs.Ends.{settled}
use Rattle.iox_model.specs.Moments.{is_overfull, room_on, Holds, moved, Moment, Deliver, Evict, Take, GetBack}
use Rattle.iox_model.specs.Messages.{serials_of, Message}
use Rattle.iox_model.specs.Transitions.{next, ends}
use Rattle.iox_model.specs.Peers.{role_at, buffer_on, overflows_on}
use Rattle.iox_laws.proofs.WeaveLaws.CallLaws.{not-true}
use Rattle.iox_laws.proofs.WeaveLaws.MapLemmas.{same_way-refl, same_way-true}
use Rattle.iox_laws.proofs.WeaveLaws.WholeLemmas.{moved-fixed}
use Rattle.iox_laws.proofs.WeaveLaws.WireLemmas.{settled_same}
use Rattle.iox_laws.specs.WeaveLedger.OnceLaws.{IsOnWire}
use Rattle.iox_laws.specs.WeaveLedger.QueueLaws.{evicts_next, has_evicted, BufferHolds, OneInHand}
use Rattle.iox_laws.proofs.WeaveLedger.Orders.{at-most, same}
use Rattle.iox_laws.proofs.WeaveLedger.Counts.{one_if}
use Rattle.iox_laws.proofs.WeaveLedger.Truths.{never, none-some}
use Rattle.iox_laws.proofs.WeaveLedger.Lists.{way-among, length-rest, length-last}
use Rattle.iox_laws.proofs.WeaveLedger.Views.{View, view, IsAt, node_in, role_in}
use Rattle.iox_laws.proofs.WeaveLedger.Senders.{FitsDoing, FitsOutcome, FitsLast, FitsLoan}
use Rattle.iox_laws.proofs.WeaveLedger.Phases.{target-of}
use Rattle.iox_laws.proofs.WeaveLedger.Moves.{ends-fits}
use Rattle.iox_laws.proofs.WeaveLedger.Settling.{settled-else}
use Rattle.iox_laws.proofs.WeaveLedger.Worlds.{next-node, SoundWorld, opened-fits, begin-none, doing-is, beat-fits}
use Rattle.iox_laws.proofs.WeaveLedger.Once.{beat-ports}

abbrev pub of_call : (Way → Doing → Bool) → Way → Option Doing → Bool
of_call test y o = option_map_or (test y) o false

-- of one way, with its sender's call under way
pub record Holding (s : State) (y : Way) (o : Option Doing) : Type 0 where
  pub waits : length (s.waiting y) ≤ buffer_on s.fixed y + one_if (of_call evicts_next y o)
  pub hand : length (s.in_hand y) ≤ one_if (of_call has_evicted y o)

-- ---- moments that neither deliver nor evict

abbrev IsCalm : Moment → Type 0
IsCalm (Deliver x m) = ⊥
IsCalm (Evict x) = ⊥
IsCalm m = ⊤

record Shrinks (s u : State) (y : Way) : Type 0 where
  pub waits : length (u.waiting y) ≤ length (s.waiting y)
  pub hand : length (u.in_hand y) ≤ length (s.in_hand y)

calm-shrinks : (s : State) (m : Moment) (y : Way) → IsCalm m → Shrinks s (moved s m) y
calm-shrinks s (Deliver x m) y c = absurd c
calm-shrinks s (Evict x) y c = absurd c
calm-shrinks s (Take x m) y c = record { waits = by_case (same_way y x) (same_way-true y x); hand = same (length (s.in_hand y)) }
  where
    by_case : (b : Bool) → (b ≡ true → y ≡ x) → length (if b then rest_of (s.waiting x) else s.waiting y) ≤ length (s.waiting y)
    by_case true e = subst (λ v. length (rest_of (s.waiting x)) ≤ length (s.waiting v)) (sym (e refl)) (length-rest (s.waiting x))
    by_case false e = same (length (s.waiting y))
calm-shrinks s (GetBack x k) y c = record { waits = same (length (s.waiting y)); hand = by_case (same_way y x) }
  where
    by_case : (b : Bool) → length (if b then [] else s.in_hand y) ≤ length (s.in_hand y)
    by_case true = omega arith
    by_case false = same (length (s.in_hand y))
calm-shrinks s m y c = record { waits = same (length (s.waiting y)); hand = same (length (s.in_hand y)) }

shrinks-holding : (s u : State) (y : Way) (o o' : Option Doing) → Shrinks s u y → u.fixed ≡ s.fixed → Holding s y o
    → one_if (of_call evicts_next y o) ≤ one_if (of_call evicts_next y o') → one_if (of_call has_evicted y o) ≤ one_if (of_call has_evicted y o')
    → Holding u y o'
shrinks-holding s u y o o' less same p a b = record {
  waits = subst (λ (f : Fixed). length (u.waiting y) ≤ buffer_on f y + one_if (of_call evicts_next y o')) (sym same)
      (both-less (length (u.waiting y)) (length (s.waiting y)) (buffer_on s.fixed y) (one_if (of_call evicts_next y o))
      (one_if (of_call evicts_next y o')) less.waits p.waits a);
  hand = at-most (length (u.in_hand y)) (length (s.in_hand y)) (one_if (of_call has_evicted y o')) less.hand
      (at-most (length (s.in_hand y)) (one_if (of_call has_evicted y o)) (one_if (of_call has_evicted y o')) p.hand b);
}
  where
    both-less : (a b c d e : ℕ) → a ≤ b → b ≤ c + d → d ≤ e → a ≤ c + e
    both-less a b c d e p q r = omega arith

no-less : (b : Bool) → 0 ≤ one_if b
no-less true = omega arith
no-less false = omega arith

-- ---- who delivers and evicts

pub deliver-sends : (s : State) (n : ℕ) (d : Doing) (x : Way) (m : Message) → FitsDoing (view s.fixed n) n d → (next s n d (Deliver x m)).condition
    → IsAt s.fixed.ports x.sender n
deliver-sends s n (Delivering z last left count) x m p c =
    ap (node_in s.fixed.ports) (target-of z x ((p.1).among x (way-among x left c.0))).0 ∙ ((p.0).loan).of_port
deliver-sends s n d x m p c = absurd c

last-sends : (s : State) (n : ℕ) (z : Sending) (x : Way) (last : Option Way) → FitsLoan (view s.fixed n) n z.loan z.copied → FitsLast z last
    → is_last x last ≡ true
    → IsAt s.fixed.ports x.sender n
last-sends s n z x None loan p e = absurd (true≢false (sym e))
last-sends s n z x (Some v) loan p e =
    ap (node_in s.fixed.ports) (ap (λ (w : Way). w.sender) (same_way-true x v e) ∙ (target-of z v p.1).0) ∙ loan.of_port

pub evict-sends : (s : State) (n : ℕ) (d : Doing) (x : Way) → FitsDoing (view s.fixed n) n d → (next s n d (Evict x)).condition → IsAt s.fixed.ports x.sender n
evict-sends s n (Delivering z last left count) x p c = last-sends s n z x last (p.0).loan p.2 c
evict-sends s n d x p c = absurd c

-- another node's moment
else-shrinks : (s : State) (node n : ℕ) (d : Doing) (m : Moment) (y : Way) → FitsDoing (view s.fixed node) node d → (next s node d m).condition
    → IsAt s.fixed.ports y.sender n → (n ≡ node → ⊥) → Shrinks s (moved s m) y
else-shrinks s node n d (Deliver x m) y p c at apart = record { waits = by_case (same_way y x) (same_way-true y x); hand = same (length (s.in_hand y)) }
  where
    by_case : (b : Bool) → (b ≡ true → y ≡ x) → length (if b then s.waiting x ++ m ∷ [] else s.waiting y) ≤ length (s.waiting y)
    by_case true e = absurd (apart (sym at ∙ ap (λ (w : Way). node_in s.fixed.ports w.sender) (e refl) ∙ deliver-sends s node d x m p c))
    by_case false e = same (length (s.waiting y))
else-shrinks s node n d (Evict x) y p c at apart = record { waits = waits (same_way y x) (same_way-true y x); hand = hand (same_way y x) (same_way-true y x) }
  where
    no_evict : y ≡ x → ⊥
    no_evict e = apart (sym at ∙ ap (λ (w : Way). node_in s.fixed.ports w.sender) e ∙ evict-sends s node d x p c)

    waits : (b : Bool) → (b ≡ true → y ≡ x) → length (if b then rest_of (s.waiting x) else s.waiting y) ≤ length (s.waiting y)
    waits true e = absurd (no_evict (e refl))
    waits false e = same (length (s.waiting y))

    hand : (b : Bool) → (b ≡ true → y ≡ x) → length (if b then serials_of (take 1 (s.waiting x)) else s.in_hand y) ≤ length (s.in_hand y)
    hand true e = absurd (no_evict (e refl))
    hand false e = same (length (s.in_hand y))
else-shrinks s node n d m y p c at apart = calm-shrinks s m y tt

-- ---- the sender's own moments

not-over : (s : State) (y : Way) (last : Option Way) → not (is_over s last) ≡ true → length (s.waiting y) ≤ buffer_on s.fixed y + one_if (is_last y last)
    → length (s.waiting y) ≤ buffer_on s.fixed y
not-over s y None e p = at-most (length (s.waiting y)) (buffer_on s.fixed y + 0) (buffer_on s.fixed y) p (omega arith)
not-over s y (Some v) e p = by_case (same_way y v) refl p
  where
    fits : (a b : ℕ) → nat_lt a b ≡ false → b ≤ a
    fits a b h = grind (arith)

    by_case : (b : Bool) → same_way y v ≡ b → length (s.waiting y) ≤ buffer_on s.fixed y + one_if b → length (s.waiting y) ≤ buffer_on s.fixed y
    by_case true h q =
        subst (λ w. length (s.waiting w) ≤ buffer_on s.fixed w) (sym (same_way-true y v h))
        (fits (buffer_on s.fixed v) (length (s.waiting v)) (not-true (is_overfull s v) e))
    by_case false h q = at-most (length (s.waiting y)) (buffer_on s.fixed y + 0) (buffer_on s.fixed y) q (omega arith)

delivered-waits : (s : State) (n : ℕ) (z : Sending) (x y : Way) (m : Message) → z.overflow ≡ overflows_on s.fixed x
    → nat_lt (length (s.waiting x)) (room_on s.fixed x) ≡ true → length (s.waiting y) ≤ buffer_on s.fixed y
    → length (if same_way y x then s.waiting x ++ m ∷ [] else s.waiting y) ≤ buffer_on s.fixed y + one_if (is_last y (may_evict z x))
delivered-waits s n z x y m over room p = by_case (same_way y x) refl
  where
    one-more : (b : Bool) → z.overflow ≡ b → one_if (overflows_on s.fixed x) ≡ one_if (is_last x (if b then Some x else None))
    one-more true e = rw (sym over ∙ e, same_way-refl x) refl
    one-more false e = rw (sym over ∙ e) refl

    longer : (a b c d : ℕ) → nat_lt a (b + c) ≡ true → c ≡ d → a + 1 ≤ b + d
    longer a b c d h e = subst (λ k. a + 1 ≤ b + k) e (grind (arith))

    by_case : (b : Bool) → same_way y x ≡ b
        → length (if b then s.waiting x ++ m ∷ [] else s.waiting y) ≤ buffer_on s.fixed y + one_if (is_last y (may_evict z x))
    by_case true e =
        subst (λ w. length (s.waiting x ++ m ∷ []) ≤ buffer_on s.fixed w + one_if (is_last w (may_evict z x))) (sym (same_way-true y x e))
        (subst (λ k. k ≤ buffer_on s.fixed x + one_if (is_last x (may_evict z x))) (sym (length-last (s.waiting x) m))
        (longer (length (s.waiting x)) (buffer_on s.fixed x) (one_if (overflows_on s.fixed x)) (one_if (is_last x (may_evict z x))) room
        (one-more z.overflow refl)))
    by_case false e = at-most (length (s.waiting y)) (buffer_on s.fixed y) (buffer_on s.fixed y + one_if (is_last y (may_evict z x))) p (omega arith)

pub one-taken : (xs : List Message) → length (serials_of (take 1 xs)) ≤ 1
one-taken [] = omega arith
one-taken (x ∷ xs) = omega arith

one-less : {A : Type 0} (xs : List A) (b : ℕ) → length xs ≤ b + 1 → length (rest_of xs) ≤ b
one-less [] b p = omega arith
one-less (x ∷ xs) b p = omega arith

one-over : (a b : ℕ) (c : Bool) → a ≤ b + one_if c → a ≤ b + 0 + 1
one-over a b true p = omega arith
one-over a b false p = omega arith

last-apart : (y x : Way) (last : Option Way) → is_last x last ≡ true → same_way y x ≡ false → is_last y last ≡ false
last-apart y x None e f = refl
last-apart y x (Some v) e f = subst (λ w. same_way y w ≡ false) (same_way-true x v e) f

abbrev is_busy : Doing → Bool
is_busy (Delivering x last left count) = true
is_busy (Evicted x w left count) = true
is_busy d = false

deliver-busy : (s : State) (n : ℕ) (d : Doing) (x : Way) (m : Message) → (next s n d (Deliver x m)).condition → is_busy d ≡ true
deliver-busy s n (Delivering z last left count) x m c = refl
deliver-busy s n d x m c = absurd c

evict-busy : (s : State) (n : ℕ) (d : Doing) (x : Way) → (next s n d (Evict x)).condition → is_busy d ≡ true
evict-busy s n (Delivering z last left count) x c = refl
evict-busy s n d x c = absurd c

calm-of : (s : State) (n : ℕ) (d : Doing) (m : Moment) → is_busy d ≡ false → (next s n d m).condition → IsCalm m
calm-of s n d (Deliver x m) free c = never (is_busy d) (deliver-busy s n d x m c) free
calm-of s n d (Evict x) free c = never (is_busy d) (evict-busy s n d x c) free
calm-of s n d m free c = tt

own-holding : (s : State) (n : ℕ) (d : Doing) (m : Moment) (y : Way) → FitsDoing (view s.fixed n) n d → Holds s m → (next s n d m).condition
    → Holding s y (Some d) → Holding (moved s m) y (Some (next s n d m).after)
own-holding s n (Delivering z last left count) (Deliver x m) y p h c q = record {
  waits = delivered-waits s n z x y m
      ((p.0).over ∙ ap (λ port. overflow_of s.fixed.limits (role_at s.fixed port)) (sym (target-of z x ((p.1).among x (way-among x left c.0))).0)) h
      (not-over s y last c.2 q.waits);
  hand = q.hand;
}
own-holding s n (Delivering z last left count) (Evict x) y p h c q = record { waits = waits (same_way y x) refl; hand = hand (same_way y x) refl }
  where
    waits : (b : Bool) → same_way y x ≡ b → length (if b then rest_of (s.waiting x) else s.waiting y) ≤ buffer_on s.fixed y + 0
    waits true e =
        subst (λ w. length (rest_of (s.waiting w)) ≤ buffer_on s.fixed y + 0) (same_way-true y x e)
        (one-less (s.waiting y) (buffer_on s.fixed y + 0) (one-over (length (s.waiting y)) (buffer_on s.fixed y) (is_last y last) q.waits))
    waits false e =
        subst (λ b. length (s.waiting y) ≤ buffer_on s.fixed y + one_if b) (last-apart y x last c e) q.waits

    hand : (b : Bool) → same_way y x ≡ b → length (if b then serials_of (take 1 (s.waiting x)) else s.in_hand y) ≤ one_if b
    hand true e = one-taken (s.waiting x)
    hand false e = q.hand
own-holding s n (Delivering z last left count) m y p h c q = absurd c
own-holding s n (Evicted z v left count) (GetBack x k) y p h c q = record { waits = q.waits; hand = hand (same_way y x) refl }
  where
    hand : (b : Bool) → same_way y x ≡ b → length (if b then [] else s.in_hand y) ≤ 0
    hand true e = omega arith
    hand false e = subst (λ b. length (s.in_hand y) ≤ one_if b) (subst (λ w. same_way y w ≡ false) (same_way-true x v c) e) q.hand
own-holding s n (Evicted z v left count) m y p h c q = absurd c
own-holding s n d m y p h c q =
    shrinks-holding s (moved s m) y (Some d) (Some (next s n d m).after) (calm-shrinks s m y (calm-of s n d m refl c)) (moved-fixed s m) q
    (no-less (of_call evicts_next y (Some (next s n d m).after))) (no-less (of_call has_evicted y (Some (next s n d m).after)))

-- ---- a beat

makes-holding : (w : World) (node n : ℕ) (d : Doing) (m : Moment) (y : Way) → SoundWorld w → w.doing node ≡ Some d → Holds w.state m
    → (next w.state node d m).condition → IsAt w.state.fixed.ports y.sender n → Holding w.state y (w.doing n)
    → Holding (moved w.state m) y (put_at w.doing node (Some (next w.state node d m).after) n)
makes-holding w node n d m y fits is h c at q = by_case (n == node) refl
  where
    by_case : (b : Bool) → (n == node) ≡ b → Holding (moved w.state m) y (if b then Some (next w.state node d m).after else w.doing n)
    by_case true e =
        own-holding w.state node d m y (doing-is w node d fits is) h c (subst (Holding w.state y) (ap w.doing (eqb-true n node e) ∙ is) q)
    by_case false e =
        shrinks-holding w.state (moved w.state m) y (w.doing n) (w.doing n)
        (else-shrinks w.state node n d m y (doing-is w node d fits is) c at (λ same. never (n == node) (eq-eqb n node same) e)) (moved-fixed w.state m) q
        (same (one_if (of_call evicts_next y (w.doing n)))) (same (one_if (of_call has_evicted y (w.doing n))))

-- what has ended may evict no more
ended-holding : (s : State) (d : Doing) (o : Outcome) (y : Way) → ends s d ≡ Some o → Holding s y (Some d) → Holding s y None
ended-holding s (Ended a) o y e q = record { waits = q.waits; hand = q.hand }
ended-holding s (Delivering x last [] count) o y e q = by_case (is_over s last) refl e
  where
    by_case : (b : Bool) → is_over s last ≡ b → (if b then None else Some (Sends x.loan x.copied count)) ≡ Some o → Holding s y None
    by_case true over e = absurd (none-some o e)
    by_case false over e = record {
      waits = at-most (length (s.waiting y)) (buffer_on s.fixed y) (buffer_on s.fixed y + 0) (not-over s y last (ap not over) q.waits) (omega arith);
      hand = q.hand;
    }
ended-holding s d o y e q = absurd (none-some o e)

same-holding : (s u : State) (y : Way) (o : Option Doing) → u.waiting ≡ s.waiting → u.in_hand ≡ s.in_hand
    → ((v : Way) → buffer_on u.fixed v ≡ buffer_on s.fixed v)
    → Holding s y o → Holding u y o
same-holding s u y o waiting in_hand buffers q = record {
  waits = subst (λ k. length (u.waiting y) ≤ k + one_if (of_call evicts_next y o)) (sym (buffers y))
      (subst (λ (f : Way → List Message). length (f y) ≤ buffer_on s.fixed y + one_if (of_call evicts_next y o)) (sym waiting) q.waits);
  hand = subst (λ (f : Way → List ℕ). length (f y) ≤ one_if (of_call has_evicted y o)) (sym in_hand) q.hand;
}

over-holding : (w : World) (node n : ℕ) (payload : List ℕ) (d : Doing) (o : Outcome) (y : Way) → SoundWorld w → w.doing node ≡ Some d
    → FitsOutcome (view w.state.fixed node) node o → ends w.state d ≡ Some o → Holding w.state y (w.doing n)
    → Holding (settled w.state node payload o) y (put_at w.doing node None n)
over-holding w node n payload d o y fits is p e q =
    same-holding w.state (settled w.state node payload o) y (put_at w.doing node None n)
    (settled_same w.state node payload o fits.wire).waiting (settled_same w.state node payload o fits.wire).in_hand
    (λ v. ap (λ (u : View). buffer_of u.limits (role_in u.ports v.sender))
    (settled-else w.state node (node + 1) payload o fits.wire (fits.handles node) p (next-node node)))
    (by_case (n == node) refl)
  where
    by_case : (b : Bool) → (n == node) ≡ b → Holding w.state y (if b then None else w.doing n)
    by_case true f = ended-holding w.state d o y e (subst (Holding w.state y) (ap w.doing (eqb-true n node f) ∙ is) q)
    by_case false f = q

begun-holding : (w : World) (node n : ℕ) (o : Option Doing) (y : Way) → w.doing node ≡ None → Holding w.state y (w.doing n)
    → Holding w.state y (put_at w.doing node o n)
begun-holding w node n o y idle q = by_case (n == node) refl
  where
    by_case : (b : Bool) → (n == node) ≡ b → Holding w.state y (if b then o else w.doing n)
    by_case true f = begins (subst (Holding w.state y) (ap w.doing (eqb-true n node f) ∙ idle) q)
      where
        begins : Holding w.state y None → Holding w.state y o
        begins r =
            shrinks-holding w.state w.state y None o (record { waits = same (length (w.state.waiting y)); hand = same (length (w.state.in_hand y)) }) refl r
            (no-less (of_call evicts_next y o)) (no-less (of_call has_evicted y o))
    by_case false f = q

pub beat-holding : (w u : World) (b : Beat) (n : ℕ) (y : Way) → IsBeat w b u → SoundWorld w → IsAt w.state.fixed.ports y.sender n → Holding w.state y (w.doing n)
    → Holding u.state y (u.doing n)
beat-holding w u (Begins node call c) n y beat fits at q =
    subst (λ (v : World). Holding v.state y (v.doing n)) (sym beat.2)
    (begun-holding w node n (Some (wire_start w.state node c call)) y (begin-none w node call beat.0).0 q)
beat-holding w u (Makes node m) n y beat fits at q =
    subst (λ (v : World). Holding v.state y (v.doing n)) (sym beat.5) (makes-holding w node n beat.1 m y fits beat.2 beat.3 beat.4 at q)
beat-holding w u (Ends node reply payload) n y beat fits at q =
    subst (λ (v : World). Holding v.state y (v.doing n)) (sym beat.7)
    (over-holding w node n payload beat.1 beat.3 y fits beat.2 (ends-fits w.state node beat.1 beat.3 (doing-is w node beat.1 fits beat.2) beat.4) beat.4 q)
beat-holding w u (Dies node) n y beat fits at q =
    subst (λ (v : World). Holding v.state y (v.doing n)) (sym beat.1) (record { waits = q.waits; hand = q.hand })

weave-holding : (w v : World) (bs : List Beat) (n : ℕ) (y : Way) → IsWeave w bs v → SoundWorld w → IsAt w.state.fixed.ports y.sender n
    → Holding w.state y (w.doing n) → Holding v.state y (v.doing n) × IsAt v.state.fixed.ports y.sender n
weave-holding w v [] n y weave fits at q = subst (λ (u : World). Holding u.state y (u.doing n) × IsAt u.state.fixed.ports y.sender n) (sym weave) (q, at)
weave-holding w v (b ∷ bs) n y weave fits at q =
    weave-holding weave.0 v bs n y weave.2 (beat-fits w weave.0 b weave.1 fits)
    (subst (λ (ports : List Port). IsAt ports y.sender n) (sym (beat-ports w weave.0 b weave.1 fits)) at) (beat-holding w weave.0 b n y weave.1 fits at q)

holds-in-the-end : (s : State) (v : World) (bs : List Beat) (y : Way) → IsOnWire s bs v → Holding v.state y (v.doing (node_in v.state.fixed.ports y.sender))
holds-in-the-end s v bs y on =
    let n : ℕ = node_in s.fixed.ports y.sender in
    let r : Holding v.state y (v.doing n) × IsAt v.state.fixed.ports y.sender n
    = weave-holding (at_work (opened s)) v bs n y on.1 (opened-fits s on.0) refl (record { waits = nothing (buffer_on s.fixed y + 0); hand = nothing 0 }) in
    subst (λ k. Holding v.state y (v.doing k)) (sym r.1) r.0
  where
    nothing : (k : ℕ) → 0 ≤ k
    nothing k = omega arith

pub buffer_holds : BufferHolds
buffer_holds s v bs y on = (holds-in-the-end s v bs y on).waits

pub one_in_hand : OneInHand
one_in_hand s v bs y on = (holds-in-the-end s v bs y on).hand
