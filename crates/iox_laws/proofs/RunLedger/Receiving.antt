-- What a receiver of a hub has, from one moment of a call to the next.
use Rattle.std.specs.Prelude.{◌≡◌, ℕ, ◌+◌, Bool, true, false, if◌then◌else◌, ◌==◌, List, [], ◌∷◌, ◌++◌, filter, Some, None, refl}
use Rattle.std.proofs.Common.{sym, subst, ap, ◌∙◌, eqb-true, eq-eqb}
use Rattle.iox_model.specs.declared.way.Way.{Way}
use Rattle.iox_model.specs.Doings.{Receives, Doing, Ended, Visiting, Again, Judging, Stale, Returning}
use Rattle.iox_model.specs.Handles.{way_of}
use Rattle.iox_laws.specs.WeaveLaws.Ledgers.{if_on, has_received, held_on}
use Rattle.iox_model.specs.Maps.{same_way, without_way}
use Rattle.iox_model.specs.Messages.{names, Message}
use Rattle.iox_model.specs.Moments.{Moment, Take, GiveBack, SeesEmpty, SeesWaiting, Look}
use Rattle.iox_model.specs.Peers.{forgot_port}
use Rattle.iox_model.specs.States.{Fixed, State}
use Rattle.iox_model.specs.Transitions.{next}
use Rattle.iox_laws.proofs.WeaveLaws.WholeLemmas.{split}
use Rattle.iox_laws.proofs.WeaveLaws.MapLemmas.{either, same_way-true}
use Rattle.iox_laws.proofs.WeaveLedger.Counts.{count}
use Rattle.iox_laws.proofs.WeaveLedger.Truths.{never}
use Rattle.iox_laws.proofs.WeaveLedger.Had.{taken_on, given_on, FitsRelease}
use Rattle.iox_laws.proofs.WeaveLedger.HadMoves.{HasOwnHandles, Follows, took-held, takes-follows, both-quiet, stale-follows, own-had}
use Rattle.iox_laws.proofs.WeaveLedger.Quiet.{serials, visiting-quiet}
use Rattle.iox_laws.proofs.WeaveLedger.Views.{view, node_in, way_of-receiver}
use Rattle.iox_laws.proofs.WeaveWorlds.Sound.{IsPortOf, SoundDoing}
use Rattle.iox_laws.proofs.RunLaws.Rests.{Rests}
use Rattle.iox_laws.proofs.RunLedger.Underway.{Stands}

-- what its receiver has of a way while that node's call is under way
abbrev pub had_while : Fixed → ℕ → Doing → Way → List ℕ
had_while f node d y =
    held_on y (f.handles (node_in f.ports y.receiver)) (if node_in f.ports y.receiver == node then Some d else None)

-- ---- the receiver's own moments

own-follows : (s : State) (n : ℕ) (d : Doing) (m : Moment) (y : Way) (value : ℕ → Bool) → HasOwnHandles (s.fixed.handles n) → Stands (view s.fixed n) n d
    → FitsRelease d → forgot_port s.fixed n y.sender ≡ false → (next s n d m).condition
    → Follows value y (s.fixed.handles n) d m (next s n d m).after
own-follows s n (Ended o) m y value apart p r known c = absurd c
own-follows s n (Visiting x left seen) (SeesEmpty w) y value apart p r known c =
    both-quiet value y (s.fixed.handles n) (Visiting x left seen) _ refl (visiting-quiet x (without_way w left) seen)
own-follows s n (Visiting x left seen) (SeesWaiting w) y value apart p r known c =
    both-quiet value y (s.fixed.handles n) (Visiting x left seen) _ refl (visiting-quiet x (without_way w left) true)
own-follows s n (Visiting x left seen) (Take w m) y value apart p r known c =
    takes-follows value y (s.fixed.handles n) (Visiting x left seen) _ (if_on y w m.serial) refl
    (took-held s.fixed n x w m left seen y (s.fixed.handles n) (λ e. subst (λ u. forgot_port s.fixed n u.sender ≡ false) (same_way-true y w e) known))
own-follows s n (Visiting x left seen) m y value apart p r known c = absurd c
own-follows s n (Again x v left seen) (SeesEmpty w) y value apart p r known c =
    both-quiet value y (s.fixed.handles n) (Again x v left seen) _ refl (visiting-quiet x (without_way v left) seen)
own-follows s n (Again x v left seen) (Take w m) y value apart p r known c =
    takes-follows value y (s.fixed.handles n) (Again x v left seen) _ (if_on y w m.serial) refl
    (took-held s.fixed n x v m left seen y (s.fixed.handles n) (λ e. subst (λ u. forgot_port s.fixed n u.sender ≡ false) (same_way-true y v e) known)
    ∙ ap (λ u. serials (filter (has_received y) (s.fixed.handles n)) ++ if_on y u m.serial) (sym (same_way-true w v c)))
own-follows s n (Again x v left seen) m y value apart p r known c = absurd c
own-follows s n (Judging x v m left seen) (Look w shown) y value apart p r known c =
    either (λ d. count value (held_on y (s.fixed.handles n) (Some d)) + 0 ≡ count value (held_on y (s.fixed.handles n) (Some (Judging x v m left seen))) + 0)
    (names shown m.request) (Ended (Receives x v m)) (Stale x v m left seen) (λ u. refl) (λ u. refl)
own-follows s n (Judging x v k left seen) m y value apart p r known c = absurd c
own-follows s n (Stale x v m left seen) (GiveBack w k) y value apart p r known c = stale-follows value y (s.fixed.handles n) x v w m k left seen c
own-follows s n (Stale x v k left seen) m y value apart p r known c = absurd c
own-follows s n d m y value apart p r known c = own-had s n d m y value apart p r known c

-- ---- whose moments these are

pub takes-own : (s : State) (n : ℕ) (d : Doing) (x : Way) (m : Message) → SoundDoing s n d → (next s n d (Take x m)).condition → IsPortOf s.fixed n x.receiver
takes-own s n (Visiting z left seen) x m p c = subst (IsPortOf s.fixed n) (sym (p.2 x c.0).0) p.0
takes-own s n (Again z v left seen) x m p c =
    subst (IsPortOf s.fixed n) (sym (ap (λ (w : Way). w.receiver) (same_way-true x v c) ∙ (p.1).0)) p.0
takes-own s n d x m p c = absurd c

pub gives-own : (s : State) (n : ℕ) (d : Doing) (x : Way) (k : ℕ) → Rests s.fixed → SoundDoing s n d → Stands (view s.fixed n) n d
    → (next s n d (GiveBack x k)).condition → IsPortOf s.fixed n x.receiver
gives-own s n (Stale z v m left seen) x k r p q c =
    subst (IsPortOf s.fixed n) (sym (ap (λ (w : Way). w.receiver) (same_way-true x v (split _ _ c).0) ∙ (p.1).0)) p.0
gives-own s n (Returning h) x k r p q c =
    subst (IsPortOf s.fixed n) (sym (ap (λ (w : Way). w.receiver) (same_way-true x (way_of h) (split _ _ c).0) ∙ way_of-receiver h))
    ((r.handles n).each h q).of_port
gives-own s n d x k r p q c = absurd c

not-there : (s : State) (y x : Way) (n k : ℕ) → (node_in s.fixed.ports y.receiver == n) ≡ false → IsPortOf s.fixed n x.receiver → if_on y x k ≡ []
not-there s y x n k apart there = by_case (same_way y x) (same_way-true y x)
  where
    by_case : (b : Bool) → (b ≡ true → y ≡ x) → (if b then k ∷ [] else []) ≡ []
    by_case true e =
        never (node_in s.fixed.ports y.receiver == n)
        (eq-eqb (node_in s.fixed.ports y.receiver) n (ap (λ (w : Way). node_in s.fixed.ports w.receiver) (e refl) ∙ there.1)) apart
    by_case false e = refl

else-taken : (s : State) (n : ℕ) (d : Doing) (m : Moment) (y : Way) → SoundDoing s n d → (next s n d m).condition
    → (node_in s.fixed.ports y.receiver == n) ≡ false → taken_on y m ≡ []
else-taken s n d (Take x m) y p c apart = not-there s y x n m.serial apart (takes-own s n d x m p c)
else-taken s n d m y p c apart = refl

else-given : (s : State) (n : ℕ) (d : Doing) (m : Moment) (y : Way) → Rests s.fixed → SoundDoing s n d → Stands (view s.fixed n) n d → (next s n d m).condition
    → (node_in s.fixed.ports y.receiver == n) ≡ false → given_on y m ≡ []
else-given s n d (GiveBack x k) y r p q c apart = not-there s y x n k apart (gives-own s n d x k r p q c)
else-given s n d m y r p q c apart = refl

-- ---- a moment

pub had-follows : (s : State) (n : ℕ) (d : Doing) (m : Moment) (y : Way) (value : ℕ → Bool) → Rests s.fixed → SoundDoing s n d → Stands (view s.fixed n) n d
    → FitsRelease d
    → forgot_port s.fixed n y.sender ≡ false → (next s n d m).condition
    → count value (had_while s.fixed n (next s n d m).after y) + count value (given_on y m) ≡ count value (had_while s.fixed n d y) + count value (taken_on y m)
had-follows s n d m y value r fits p release known c = by_case (node_in s.fixed.ports y.receiver == n) refl
  where
    by_case : (b : Bool) → (node_in s.fixed.ports y.receiver == n) ≡ b
        → count value (held_on y (s.fixed.handles (node_in s.fixed.ports y.receiver)) (if b then Some (next s n d m).after else None))
        + count value (given_on y m)
        ≡ count value (held_on y (s.fixed.handles (node_in s.fixed.ports y.receiver)) (if b then Some d else None)) + count value (taken_on y m)
    by_case true e =
        subst (λ j. Follows value y (s.fixed.handles j) d m (next s n d m).after) (sym (eqb-true (node_in s.fixed.ports y.receiver) n e))
        (own-follows s n d m y value (r.handles n).apart p release known c)
    by_case false e =
        ap (λ ks. count value (held_on y (s.fixed.handles (node_in s.fixed.ports y.receiver)) None) + count value ks)
        (else-given s n d m y r fits p c e ∙ sym (else-taken s n d m y fits c e))
