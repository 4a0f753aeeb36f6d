-- What a receiver has, from one moment to the next: a take adds a message, and a give-back takes it away.
use Rattle.std.specs.Prelude.{◌≡◌, ℕ, Bool, true, false, if◌then◌else◌, ◌==◌, List, [], ◌∷◌, ⊤, refl}
use Rattle.std.proofs.Common.{sym, subst, ap, ◌∙◌, true≢false}
use Rattle.iox_model.specs.declared.kind.Kind.TheVariants.{ActiveRequest}
use Rattle.iox_model.specs.declared.way.Way.{Way}
use Rattle.iox_model.specs.Doings.{Receiver, Receives, Drops, Doing, Ended, Loaning, Asking, Emptying, Looking, Opening, Delivering, Evicted, Visiting, Again, Judging, Stale, Closing, Returning, Leaving, Checking, Hinting, Seeking}
use Rattle.iox_model.specs.States.{Handle, Fixed, State}
use Rattle.iox_laws.specs.WeaveLaws.Ledgers.{if_on}
use Rattle.iox_model.specs.Handles.{is_received, same_kind, way_of}
use Rattle.iox_model.specs.Maps.{same_way, without_way}
use Rattle.iox_model.specs.Messages.{names, Message}
use Rattle.iox_model.specs.Moments.{Moment, Deliver, Evict, Take, GiveBack, GetBack, SeesEmpty, SeesWaiting, SeesFull, SeesRoom, SeesNoneBack, Open, Close, Hint, Look}
use Rattle.iox_model.specs.Peers.{forgot_port}
use Rattle.iox_model.specs.Receives.{stale, took_response, took_request, took}
use Rattle.iox_model.specs.Releases.{closing}
use Rattle.iox_model.specs.Settings.{is_client}
use Rattle.iox_model.specs.Transitions.{next}
use Rattle.iox_laws.proofs.WeaveLaws.WholeLemmas.{split}
use Rattle.iox_laws.proofs.WeaveLaws.MapLemmas.{either, same_way-true}
use Rattle.iox_laws.proofs.WeaveLedger.Counts.{count}
use Rattle.iox_laws.proofs.WeaveLedger.Lists.{way-among}
use Rattle.iox_laws.proofs.WeaveLedger.Views.{view, IsAt, node_in, way_of-receiver}
use Rattle.iox_laws.proofs.WeaveLedger.Senders.{FitsHandles, FitsDoing}
use Rattle.iox_laws.proofs.WeaveLedger.Quiet.{IsQuiet, asked-quiet, emptying-quiet, looking-quiet, opening-quiet, loaning-quiet, visiting-quiet, checked-quiet, hinting-quiet, seeking-quiet}

-- the serials that a moment adds to what is waiting, is held, was given back; and those got back
abbrev pub put_on : Way → Moment → List ℕ
put_on y (Deliver w m) = if_on y w m.serial
put_on y m = []

abbrev pub taken_on : Way → Moment → List ℕ
taken_on y (Take w m) = if_on y w m.serial
taken_on y m = []

abbrev pub given_on : Way → Moment → List ℕ
given_on y (GiveBack w k) = if_on y w k
given_on y m = []

abbrev pub got_on : Way → Moment → List ℕ
got_on y (GetBack w k) = if_on y w k
got_on y m = []

-- ---- releases

-- a received message is given back, and a pending response is none
abbrev pub FitsRelease : Doing → Type 0
FitsRelease (Closing h left) = is_received h.kind ≡ false
FitsRelease (Returning h) = is_received h.kind ≡ true
FitsRelease d = ⊤

pub quiet-release : (d : Doing) → IsQuiet d → FitsRelease d
quiet-release (Closing h left) e = absurd (true≢false (sym e))
quiet-release (Returning h) e = absurd (true≢false (sym e))
quiet-release d e = tt

pub closing-release : (h : Handle) (left : List Way) → is_received h.kind ≡ false → FitsRelease (closing h left)
closing-release h [] e = tt
closing-release h (w ∷ left) e = e

took-release : (f : Fixed) (n : ℕ) (x : Receiver) (w : Way) (m : Message) (left : List Way) (seen : Bool) → FitsRelease (took f n x w m left seen)
took-release f n x w m left seen =
    either FitsRelease (is_client x.role) (took_response f n x w m left seen) (took_request f x w m left seen)
    (λ u. either FitsRelease (m.request == x.request) (Ended (Receives x w m)) (stale f n x w m left seen) (λ y. tt)
    (λ y. either FitsRelease (forgot_port f n w.sender) (Again x w left seen) (Stale x w m left seen) (λ z. tt) (λ z. tt)))
    (λ u. either FitsRelease f.limits.fire_and_forget (Ended (Receives x w m)) (Judging x w m left seen) (λ y. tt) (λ y. tt))

pub next-release : (s : State) (n : ℕ) (d : Doing) (m : Moment) → (next s n d m).condition → FitsRelease d → FitsRelease (next s n d m).after
next-release s n (Loaning copies h left) (GetBack w k) c p = tt
next-release s n (Loaning copies h left) (SeesNoneBack w) c p = quiet-release _ (loaning-quiet s copies h (without_way w left))
next-release s n (Asking x) (Look w shown) c p = quiet-release _ (asked-quiet x shown)
next-release s n (Emptying x left) (GetBack w k) c p = tt
next-release s n (Emptying x left) (SeesNoneBack w) c p = quiet-release _ (emptying-quiet x (without_way w left))
next-release s n (Looking x left full) (SeesFull w) c p = quiet-release _ (looking-quiet x (without_way w left) (w ∷ full))
next-release s n (Looking x left full) (SeesRoom w) c p = quiet-release _ (looking-quiet x (without_way w left) full)
next-release s n (Opening x left full) (Open w id) c p = quiet-release _ (opening-quiet x (without_way w left) full)
next-release s n (Delivering x last left count) (Deliver w m) c p = tt
next-release s n (Delivering x last left count) (Evict w) c p = tt
next-release s n (Evicted x v left count) (GetBack w k) c p = tt
next-release s n (Visiting x left seen) (SeesEmpty w) c p = quiet-release _ (visiting-quiet x (without_way w left) seen)
next-release s n (Visiting x left seen) (SeesWaiting w) c p = quiet-release _ (visiting-quiet x (without_way w left) true)
next-release s n (Visiting x left seen) (Take w m) c p = took-release s.fixed n x w m left seen
next-release s n (Again x v left seen) (SeesEmpty w) c p = quiet-release _ (visiting-quiet x (without_way v left) seen)
next-release s n (Again x v left seen) (Take w m) c p = took-release s.fixed n x v m left seen
next-release s n (Judging x v m left seen) (Look w shown) c p =
    either FitsRelease (names shown m.request) (Ended (Receives x v m)) (Stale x v m left seen) (λ u. tt) (λ u. tt)
next-release s n (Stale x v m left seen) (GiveBack w k) c p = tt
next-release s n (Closing h left) (Close w id) c p = closing-release h (without_way w left) p
next-release s n (Returning h) (GiveBack w k) c p = either FitsRelease (same_kind h.kind ActiveRequest) (Leaving h) (Ended (Drops h)) (λ u. tt) (λ u. tt)
next-release s n (Leaving h) (Look w shown) c p = tt
next-release s n (Leaving h) (Close w id) c p = tt
next-release s n (Checking h hinted left) (Look w shown) c p = quiet-release _ (checked-quiet h hinted left w shown)
next-release s n (Hinting h left) (Hint w id) c p = quiet-release _ (hinting-quiet h (without_way w left))
next-release s n (Hinting h left) (Look w shown) c p = quiet-release _ (hinting-quiet h (without_way w left))
next-release s n (Seeking left) (SeesEmpty w) c p = quiet-release _ (seeking-quiet (without_way w left))
next-release s n (Seeking left) (SeesWaiting w) c p = tt
next-release s n d m c p = absurd c

-- ---- where a moment comes from

-- who takes and gives back on a way is its receiver's node
pub takes-here : (s : State) (n : ℕ) (d : Doing) (x : Way) (m : Message) → FitsDoing (view s.fixed n) n d → (next s n d (Take x m)).condition
    → IsAt s.fixed.ports x.receiver n
takes-here s n (Visiting z left seen) x m p c = subst (λ q. IsAt s.fixed.ports q n) (sym (p.1 x (way-among x left c.0)).0) p.0
takes-here s n (Again z v left seen) x m p c =
    subst (λ (w : Way). IsAt s.fixed.ports w.receiver n) (sym (same_way-true x v c)) (subst (λ q. IsAt s.fixed.ports q n) (sym (p.1).0) (p.0).0)
takes-here s n d x m p c = absurd c

pub gives-here : (s : State) (n : ℕ) (d : Doing) (x : Way) (k : ℕ) → FitsHandles (view s.fixed n) n → FitsDoing (view s.fixed n) n d
    → (next s n d (GiveBack x k)).condition → IsAt s.fixed.ports x.receiver n
gives-here s n (Stale z v m left seen) x k fits p c =
    subst (λ (w : Way). IsAt s.fixed.ports w.receiver n) (sym (same_way-true x v (split _ _ c).0))
    (subst (λ q. IsAt s.fixed.ports q n) (sym ((p.1).0).0) (p.0).0)
gives-here s n (Returning h) x k fits p c =
    subst (λ (w : Way). IsAt s.fixed.ports w.receiver n) (sym (same_way-true x (way_of h) (split _ _ c).0))
    (subst (λ q. IsAt s.fixed.ports q n) (sym (way_of-receiver h)) (fits.of_port h p))
gives-here s n d x k fits p c = absurd c

not-there : (ports : _) (y x : Way) (n node k : ℕ) → IsAt ports y.receiver n → (n ≡ node → ⊥) → IsAt ports x.receiver node → if_on y x k ≡ []
not-there ports y x n node k at apart there = by_case (same_way y x) (same_way-true y x)
  where
    by_case : (b : Bool) → (b ≡ true → y ≡ x) → (if b then k ∷ [] else []) ≡ []
    by_case true e = absurd (apart (sym at ∙ ap (λ (w : Way). node_in ports w.receiver) (e refl) ∙ there))
    by_case false e = refl

-- another node takes nothing there and gives nothing back
pub else-taken : (s : State) (n node : ℕ) (d : Doing) (m : Moment) (y : Way) → FitsDoing (view s.fixed node) node d → (next s node d m).condition
    → IsAt s.fixed.ports y.receiver n → (n ≡ node → ⊥) → taken_on y m ≡ []
else-taken s n node d (Take x m) y p c at apart = not-there s.fixed.ports y x n node m.serial at apart (takes-here s node d x m p c)
else-taken s n node d m y p c at apart = refl

pub else-given : (s : State) (n node : ℕ) (d : Doing) (m : Moment) (y : Way) → FitsHandles (view s.fixed node) node → FitsDoing (view s.fixed node) node d
    → (next s node d m).condition → IsAt s.fixed.ports y.receiver n → (n ≡ node → ⊥) → given_on y m ≡ []
else-given s n node d (GiveBack x k) y fits p c at apart = not-there s.fixed.ports y x n node k at apart (gives-here s node d x k fits p c)
else-given s n node d m y fits p c at apart = refl
