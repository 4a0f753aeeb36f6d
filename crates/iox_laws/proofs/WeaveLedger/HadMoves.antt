-- A receiver's own moments: what it has more is what it took, and what it has less is what it gave back.
use Rattle.std.specs.Prelude.{◌≡◌, ℕ, ◌+◌, Bool, true, false, ◌&&◌, if◌then◌else◌, ◌==◌, List, [], ◌∷◌, ◌++◌, map, filter, Some, None, refl}
use Rattle.std.proofs.Common.{sym, subst, ap, ◌∙◌, arith, eqb-true}
use Rattle.std.proofs.lemmas.List.{append-nil}
use Rattle.iox_model.specs.declared.kind.Kind.TheVariants.{ActiveRequest}
use Rattle.iox_model.specs.declared.way.Way.{Way}
use Rattle.iox_model.specs.Doings.{Receiver, Receives, Drops, Doing, Ended, Loaning, Asking, Emptying, Looking, Opening, Delivering, Evicted, Visiting, Again, Judging, Stale, Closing, Returning, Leaving, Checking, Hinting, Seeking}
use Rattle.iox_model.specs.States.{Handle, Fixed, State}
use Rattle.iox_laws.specs.WeaveLaws.Ledgers.{if_on, has_received, held_on}
use Rattle.iox_model.specs.Handles.{is_received, same_kind, way_of}
use Rattle.iox_model.specs.Maps.{same_way, without_way}
use Rattle.iox_model.specs.Messages.{names, Message}
use Rattle.iox_model.specs.Moments.{Moment, Deliver, Evict, Take, GiveBack, GetBack, SeesEmpty, SeesWaiting, SeesFull, SeesRoom, SeesNoneBack, Open, Close, Hint, Look}
use Rattle.iox_model.specs.Peers.{forgot_port}
use Rattle.iox_model.specs.Receives.{stale, took_response, took_request, took}
use Rattle.iox_model.specs.Releases.{closing}
use Rattle.iox_model.specs.Settings.{is_client}
use Rattle.iox_model.specs.Transitions.{next}
use Rattle.iox_laws.proofs.WeaveLaws.WholeLemmas.{split}
use Rattle.iox_laws.proofs.WeaveLaws.MapLemmas.{either, same_way-true}
use Rattle.iox_laws.proofs.WeaveLedger.ReceivedHandles.{received-on, no_received}
use Rattle.iox_laws.proofs.WeaveLedger.Counts.{count, one_if}
use Rattle.iox_laws.proofs.WeaveLedger.Truths.{never}
use Rattle.iox_laws.proofs.WeaveLedger.Lists.{IsAmong, NoRepeats, only-one}
use Rattle.iox_laws.proofs.WeaveLedger.Views.{view}
use Rattle.iox_laws.proofs.WeaveLedger.Senders.{FitsDoing}
use Rattle.iox_laws.proofs.WeaveLedger.Tallies.{count-append, passes_but, but-same, but-one}
use Rattle.iox_laws.proofs.WeaveLedger.Quiet.{IsQuiet, serials, held-taken, held-handles, held-quiet, asked-quiet, emptying-quiet, looking-quiet, opening-quiet, loaning-quiet, visiting-quiet, checked-quiet, hinting-quiet, seeking-quiet}
use Rattle.iox_laws.proofs.WeaveLedger.Had.{taken_on, given_on, FitsRelease}

abbrev pub HasOwnHandles : List Handle → Type 0
HasOwnHandles hs = NoRepeats (map (λ h. h.number) hs)

-- a released handle that is not of this way was not had there
pub dropped-held : (y : Way) (hs : List Handle) (h : Handle) → HasOwnHandles hs → IsAmong h hs → has_received y h ≡ false
    → held_on y hs (Some (Ended (Drops h))) ≡ held_on y hs None
dropped-held y hs h apart among off =
    append-nil (serials (filter (passes_but (has_received y) h.number) hs))
    ∙ ap serials (but-same (has_received y) h.number hs
    (λ k a same. ap (has_received y) (only-one (λ (g : Handle). g.number) k h hs apart a among (sym same)) ∙ off))

-- ---- takes

pub took-held : (f : Fixed) (n : ℕ) (x : Receiver) (w : Way) (m : Message) (left : List Way) (seen : Bool) (y : Way) (hs : List Handle)
    → (same_way y w ≡ true → forgot_port f n w.sender ≡ false)
    → held_on y hs (Some (took f n x w m left seen)) ≡ serials (filter (has_received y) hs) ++ if_on y w m.serial
took-held f n x w m left seen y hs known =
    either Has (is_client x.role) (took_response f n x w m left seen) (took_request f x w m left seen)
    (λ u. either Has (m.request == x.request) (Ended (Receives x w m)) (stale f n x w m left seen) (λ v. has)
    (λ v. either Has (forgot_port f n w.sender) (Again x w left seen) (Stale x w m left seen) gone (λ z. has)))
    (λ u. either Has f.limits.fire_and_forget (Ended (Receives x w m)) (Judging x w m left seen) (λ v. has) (λ v. has))
  where
    Has : Doing → Type 0
    Has d = held_on y hs (Some d) ≡ serials (filter (has_received y) hs) ++ if_on y w m.serial

    has : serials (filter (λ h. has_received y h && true) hs) ++ if_on y w m.serial ≡ serials (filter (has_received y) hs) ++ if_on y w m.serial
    has = held-taken y hs (if_on y w m.serial)

    gone : forgot_port f n w.sender ≡ true → Has (Again x w left seen)
    gone forgot = held-taken y hs [] ∙ ap (λ ks. serials (filter (has_received y) hs) ++ ks) (off (same_way y w) refl)
      where
        off : (b : Bool) → same_way y w ≡ b → [] ≡ (if b then m.serial ∷ [] else [])
        off true e = never (forgot_port f n w.sender) forgot (known e)
        off false e = refl

-- ---- the moments

-- what it has more and what it gives back, and what it had and what it takes
abbrev pub Follows : (ℕ → Bool) → Way → List Handle → Doing → Moment → Doing → Type 0
Follows value y hs d m d' =
    count value (held_on y hs (Some d')) + count value (given_on y m) ≡ count value (held_on y hs (Some d)) + count value (taken_on y m)

joined : (value : ℕ → Bool) (ks js ls : List ℕ) → ks ≡ js ++ ls → count value ks + 0 ≡ count value js + count value ls
joined value ks js ls e = none (count value ks) (count value js + count value ls) (ap (count value) e ∙ count-append value js ls)
  where
    none : (a b : ℕ) → a ≡ b → a + 0 ≡ b
    none a b e = omega arith

same-too : (value : ℕ → Bool) (ks js : List ℕ) → ks ≡ js → count value ks + 0 ≡ count value js + 0
same-too value ks js e = ap (λ ls. count value ls + 0) e

pub both-quiet : (value : ℕ → Bool) (y : Way) (hs : List Handle) (d d' : Doing) → IsQuiet d → IsQuiet d'
    → count value (held_on y hs (Some d')) + 0 ≡ count value (held_on y hs (Some d)) + 0
both-quiet value y hs d d' p q =
    same-too value (held_on y hs (Some d')) (held_on y hs (Some d)) (held-quiet y hs d' q ∙ sym (held-quiet y hs d p))

pub takes-follows : (value : ℕ → Bool) (y : Way) (hs : List Handle) (d d' : Doing) (ks : List ℕ) → IsQuiet d
    → held_on y hs (Some d') ≡ serials (filter (has_received y) hs) ++ ks
    → count value (held_on y hs (Some d')) + 0 ≡ count value (held_on y hs (Some d)) + count value ks
takes-follows value y hs d d' ks p e =
    joined value (held_on y hs (Some d')) (held_on y hs (Some d)) ks (e ∙ ap (λ js. js ++ ks) (sym (held-quiet y hs d p)))

pub stale-follows : (value : ℕ → Bool) (y : Way) (hs : List Handle) (x : Receiver) (v w : Way) (m : Message) (k : ℕ) (left : List Way) (seen : Bool)
    → (same_way w v && (k == m.serial)) ≡ true
    → count value (held_on y hs (Some (Again x v left seen))) + count value (if_on y w k) ≡ count value (held_on y hs (Some (Stale x v m left seen))) + 0
stale-follows value y hs x v w m k left seen c =
    sym (joined value (held_on y hs (Some (Stale x v m left seen))) (held_on y hs (Some (Again x v left seen))) (if_on y w k)
    (held-taken y hs (if_on y v m.serial)
    ∙ ap (λ ks. ks ++ if_on y v m.serial) (sym (held-quiet y hs (Again x v left seen) refl))
    ∙ ap (λ ks. held_on y hs (Some (Again x v left seen)) ++ ks) (ap (λ u. if_on y u m.serial) (sym (same_way-true w v (split _ _ c).0))
    ∙ ap (if_on y w) (sym (eqb-true k m.serial (split _ _ c).1)))))

returned-follows : (value : ℕ → Bool) (y : Way) (hs : List Handle) (h : Handle) (w : Way) (k : ℕ) → HasOwnHandles hs → IsAmong h hs → is_received h.kind ≡ true
    → (same_way w (way_of h) && (k == h.message.serial)) ≡ true
    → count value (serials (filter (passes_but (has_received y) h.number) hs) ++ []) + count value (if_on y w k)
    ≡ count value (held_on y hs (Some (Returning h))) + 0
returned-follows value y hs h w k apart among received c =
    adds (count value (serials (filter (has_received y) hs))) (count value (serials (filter (passes_but (has_received y) h.number) hs)))
    (if has_received y h then one_if (value h.message.serial) else 0) (count value (if_on y w k))
    (count value (serials (filter (passes_but (has_received y) h.number) hs) ++ [])) (count value (held_on y hs (Some (Returning h))))
    (but-one (has_received y) value h hs apart among) gives
    (ap (count value) (append-nil (serials (filter (passes_but (has_received y) h.number) hs)))) (ap (count value) (held-handles y hs))
  where
    adds : (a b c d e f : ℕ) → a ≡ b + c → c ≡ d → e ≡ b → f ≡ a → e + d ≡ f + 0
    adds a b c d e f p q r t = omega arith

    single : (n : ℕ) → (b : Bool) → value n ≡ b → one_if b ≡ count value (n ∷ [])
    single n true e = rw e refl
    single n false e = rw e refl

    on : (b : Bool) → (if b then one_if (value h.message.serial) else 0) ≡ count value (if b then h.message.serial ∷ [] else [])
    on true = single h.message.serial (value h.message.serial) refl
    on false = refl

    gives : (if has_received y h then one_if (value h.message.serial) else 0) ≡ count value (if_on y w k)
    gives =
        ap (λ (b : Bool). if b then one_if (value h.message.serial) else 0) (received-on y h received)
        ∙ on (same_way y (way_of h))
        ∙ ap (λ u. count value (if_on y u h.message.serial)) (sym (same_way-true w (way_of h) (split (same_way w (way_of h)) (k == h.message.serial) c).0))
        ∙ ap (λ n. count value (if_on y w n)) (sym (eqb-true k h.message.serial (split (same_way w (way_of h)) (k == h.message.serial) c).1))

pub closing-held : (y : Way) (hs : List Handle) (h : Handle) (left : List Way) → HasOwnHandles hs → IsAmong h hs → is_received h.kind ≡ false
    → held_on y hs (Some (closing h left)) ≡ held_on y hs None
closing-held y hs h [] apart among off = dropped-held y hs h apart among (no_received y h off)
closing-held y hs h (w ∷ left) apart among off = held-handles y hs

pub own-had : (s : State) (n : ℕ) (d : Doing) (m : Moment) (y : Way) (value : ℕ → Bool) → HasOwnHandles (s.fixed.handles n) → FitsDoing (view s.fixed n) n d
    → FitsRelease d → forgot_port s.fixed n y.sender ≡ false → (next s n d m).condition
    → Follows value y (s.fixed.handles n) d m (next s n d m).after
own-had s n (Loaning copies h left) (GetBack w k) y value apart p r known c = refl
own-had s n (Loaning copies h left) (SeesNoneBack w) y value apart p r known c =
    both-quiet value y (s.fixed.handles n) (Loaning copies h left) _ refl (loaning-quiet s copies h (without_way w left))
own-had s n (Asking x) (Look w shown) y value apart p r known c = both-quiet value y (s.fixed.handles n) (Asking x) _ refl (asked-quiet x shown)
own-had s n (Emptying x left) (GetBack w k) y value apart p r known c = refl
own-had s n (Emptying x left) (SeesNoneBack w) y value apart p r known c =
    both-quiet value y (s.fixed.handles n) (Emptying x left) _ refl (emptying-quiet x (without_way w left))
own-had s n (Looking x left full) (SeesFull w) y value apart p r known c =
    both-quiet value y (s.fixed.handles n) (Looking x left full) _ refl (looking-quiet x (without_way w left) (w ∷ full))
own-had s n (Looking x left full) (SeesRoom w) y value apart p r known c =
    both-quiet value y (s.fixed.handles n) (Looking x left full) _ refl (looking-quiet x (without_way w left) full)
own-had s n (Opening x left full) (Open w id) y value apart p r known c =
    both-quiet value y (s.fixed.handles n) (Opening x left full) _ refl (opening-quiet x (without_way w left) full)
own-had s n (Delivering x last left count) (Deliver w m) y value apart p r known c = refl
own-had s n (Delivering x last left count) (Evict w) y value apart p r known c = refl
own-had s n (Evicted x v left count) (GetBack w k) y value apart p r known c = refl
own-had s n (Visiting x left seen) (SeesEmpty w) y value apart p r known c =
    both-quiet value y (s.fixed.handles n) (Visiting x left seen) _ refl (visiting-quiet x (without_way w left) seen)
own-had s n (Visiting x left seen) (SeesWaiting w) y value apart p r known c =
    both-quiet value y (s.fixed.handles n) (Visiting x left seen) _ refl (visiting-quiet x (without_way w left) true)
own-had s n (Visiting x left seen) (Take w m) y value apart p r known c =
    takes-follows value y (s.fixed.handles n) (Visiting x left seen) _ (if_on y w m.serial) refl
    (took-held s.fixed n x w m left seen y (s.fixed.handles n) (λ e. subst (λ u. forgot_port s.fixed n u.sender ≡ false) (same_way-true y w e) known))
own-had s n (Again x v left seen) (SeesEmpty w) y value apart p r known c =
    both-quiet value y (s.fixed.handles n) (Again x v left seen) _ refl (visiting-quiet x (without_way v left) seen)
own-had s n (Again x v left seen) (Take w m) y value apart p r known c =
    takes-follows value y (s.fixed.handles n) (Again x v left seen) _ (if_on y w m.serial) refl
    (took-held s.fixed n x v m left seen y (s.fixed.handles n) (λ e. subst (λ u. forgot_port s.fixed n u.sender ≡ false) (same_way-true y v e) known)
    ∙ ap (λ u. serials (filter (has_received y) (s.fixed.handles n)) ++ if_on y u m.serial) (sym (same_way-true w v c)))
own-had s n (Judging x v m left seen) (Look w shown) y value apart p r known c =
    either (λ d. count value (held_on y (s.fixed.handles n) (Some d)) + 0 ≡ count value (held_on y (s.fixed.handles n) (Some (Judging x v m left seen))) + 0)
    (names shown m.request) (Ended (Receives x v m)) (Stale x v m left seen) (λ u. refl) (λ u. refl)
own-had s n (Stale x v m left seen) (GiveBack w k) y value apart p r known c = stale-follows value y (s.fixed.handles n) x v w m k left seen c
own-had s n (Closing h left) (Close w id) y value apart p r known c =
    same-too value _ (held_on y (s.fixed.handles n) (Some (Closing h left)))
    (closing-held y (s.fixed.handles n) h (without_way w left) apart p r ∙ sym (held-handles y (s.fixed.handles n)))
own-had s n (Returning h) (GiveBack w k) y value apart p r known c =
    either (λ d. count value (held_on y (s.fixed.handles n) (Some d)) + count value (if_on y w k)
    ≡ count value (held_on y (s.fixed.handles n) (Some (Returning h))) + 0)
    (same_kind h.kind ActiveRequest) (Leaving h) (Ended (Drops h)) (λ u. returned-follows value y (s.fixed.handles n) h w k apart p r c)
    (λ u. returned-follows value y (s.fixed.handles n) h w k apart p r c)
own-had s n (Leaving h) (Look w shown) y value apart p r known c = refl
own-had s n (Leaving h) (Close w id) y value apart p r known c = refl
own-had s n (Checking h hinted left) (Look w shown) y value apart p r known c =
    both-quiet value y (s.fixed.handles n) (Checking h hinted left) _ refl (checked-quiet h hinted left w shown)
own-had s n (Hinting h left) (Hint w id) y value apart p r known c =
    both-quiet value y (s.fixed.handles n) (Hinting h left) _ refl (hinting-quiet h (without_way w left))
own-had s n (Hinting h left) (Look w shown) y value apart p r known c =
    both-quiet value y (s.fixed.handles n) (Hinting h left) _ refl (hinting-quiet h (without_way w left))
own-had s n (Seeking left) (SeesEmpty w) y value apart p r known c =
    both-quiet value y (s.fixed.handles n) (Seeking left) _ refl (seeking-quiet (without_way w left))
own-had s n (Seeking left) (SeesWaiting w) y value apart p r known c = refl
own-had s n d m y value apart p r known c = absurd c
