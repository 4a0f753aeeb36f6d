-- A loan of a living node that got back all there is finds a message, where its pool was not reduced.
use Rattle.std.specs.Prelude.{◌≡◌, ℕ, ◌<◌, ◌≤◌, Bool, true, false, if◌then◌else◌, ◌==◌, nat_le, List, [], ◌∷◌, length, Option, Some, None, find, ⊤, refl}
use Rattle.std.specs.Option.{option_map_or}
use Rattle.std.proofs.Common.{sym, subst, ap, ◌∙◌, arith, eqb-true, true≢false, inl, inr}
use Rattle.iox_model.specs.declared.way.Way.{Way}
use Rattle.iox_model.specs.States.{Port, Handle, Fixed, State}
use Rattle.iox_model.specs.Maps.{is_empty, same_way, has_way, without_way}
use Rattle.iox_model.specs.Loans.{lending_ways}
use Rattle.iox_model.specs.Joins.{not_living}
use Rattle.iox_model.specs.Outstandings.{kept, is_dry}
use Rattle.iox_model.specs.Doings.{Doing, Loaning}
use Rattle.iox_model.specs.Moments.{Holds, Moment, SeesNoneBack}
use Rattle.iox_model.specs.Weaves.{World, Beat}
use Rattle.iox_model.specs.Peers.{port_at}
use Rattle.iox_laws.proofs.WeaveLaws.MapLemmas.{same_way-true}
use Rattle.iox_laws.specs.WeaveLedger.OnceLaws.{IsOnWire}
use Rattle.iox_laws.proofs.WeaveLedger.Lists.{IsAmong, find-among, way-among}
use Rattle.iox_laws.proofs.WeaveLedger.Views.{View, view}
use Rattle.iox_laws.proofs.WeaveLedger.Senders.{FitsLoan, FitsDoing}
use Rattle.iox_laws.proofs.WeaveLedger.Worlds.{SoundWorld, doing-is}
use Rattle.iox_laws.specs.WeavePools.PoolLaws.{needed_by, IsUnreduced}
use Rattle.iox_laws.proofs.WeavePools.Limited.{IsWithin}
use Rattle.iox_laws.proofs.WeavePools.Spare.{FitsKinds, SpareLoan, SpareDoing}
use Rattle.iox_laws.proofs.WeavePools.SpareMoves.{DryIf, LoanIsAt}
use Rattle.iox_laws.proofs.WeavePools.SpareStarts.{IsLoanOf, DryAtOnce, node-is}
use Rattle.iox_laws.proofs.WeavePools.Kept.{kept-less}
use Rattle.iox_laws.proofs.WeavePools.Ways.{IsBackOn, out-most, ForgetsTheDead, each-way}

-- some port of the node has a reduced pool
abbrev pub Reduced : View → ℕ → Type 0
Reduced v n = ((p : Port) → find (λ q. q.number == p.number) v.ports ≡ Some p → p.node ≡ n → needed_by v.limits p ≤ p.pool) → ⊥

-- who does not live
abbrev pub Gone : State → ℕ → Type 0
Gone s d = not_living s d ≡ None → ⊥

abbrev pub SpareCall : View → (ℕ → Type 0) → ℕ → Option Doing → Type 0
SpareCall v gone n None = Unit {0}
SpareCall v gone n (Some d) = SpareDoing v gone (Reduced v n) d

-- what holds of each world of a service's wire, as far as pools go
pub record Spares (v : World) : Type 0 where
  pub kinds : (n : ℕ) → FitsKinds (view v.state.fixed n)
  pub doing : (n : ℕ) → SpareCall (view v.state.fixed n) (Gone v.state) n (v.doing n)
  pub dead : ForgetsTheDead v.state
  pub within : IsWithin v.state.fixed

spare-call : (v : View) (gone : ℕ → Type 0) (n : ℕ) (o : Option Doing) (d : Doing) → o ≡ Some d → SpareCall v gone n o → SpareDoing v gone (Reduced v n) d
spare-call v gone n o d e p = subst (SpareCall v gone n) e p

pub spare-is : (v : World) (n : ℕ) (d : Doing) → Spares v → v.doing n ≡ Some d
    → SpareDoing (view v.state.fixed n) (Gone v.state) (Reduced (view v.state.fixed n) n) d
spare-is v n d spares e = spare-call (view v.state.fixed n) (Gone v.state) n (v.doing n) d e (spares.doing n)

-- ---- the port keeps less than its pool

-- all that a loan of the node gets back from is back
abbrev pub AllBack : World → ℕ → Handle → Type 0
AllBack v n h =
    (w : Way) → has_way w (lending_ways v.state.fixed h) ≡ true → IsBackOn v n w

pub keeps-less : (s : State) (v : World) (bs : List Beat) (n : ℕ) (h : Handle) (p : Port) → IsOnWire s bs v → SoundWorld v → Spares v → not_living v.state n ≡ None
    → IsLoanOf v.state.fixed n h → AllBack v n h → port_at v.state.fixed h.port ≡ Some p → IsUnreduced v.state.fixed p
    → length (kept v.state h.port []) < p.pool
keeps-less s v bs n h p on fits spares living loan back is enough =
    kept-less v.state n h.port p fits.own spares.within (spares.kinds n) loan.spare is loan.of_port enough
    (each-way s v bs n h p on fits.own spares.dead living loan is (λ w lends live at. out-most s v bs n w on live at (back w lends)))

-- so the pool does not refuse
pub not-dry : (s : State) (port : ℕ) (p : Port) (keeps : List ℕ) → port_at s.fixed port ≡ Some p → length keeps < p.pool → is_dry s.fixed port keeps ≡ false
not-dry s port p keeps is e = ap (λ (o : Option Port). option_map_or (λ q. nat_le q.pool (length keeps)) o true) is ∙ above p.pool (length keeps) e
  where
    above : (a b : ℕ) → b < a → nat_le a b ≡ false
    above a b e = grind (arith)

pub gives : (s : State) (v : World) (bs : List Beat) (n : ℕ) (h : Handle) (p : Port) → IsOnWire s bs v → SoundWorld v → Spares v → not_living v.state n ≡ None
    → IsLoanOf v.state.fixed n h → AllBack v n h → port_at v.state.fixed h.port ≡ Some p → IsUnreduced v.state.fixed p
    → is_dry v.state.fixed h.port (kept v.state h.port []) ≡ false
gives s v bs n h p on fits spares living loan back is enough =
    not-dry v.state h.port p (kept v.state h.port []) is (keeps-less s v bs n h p on fits spares living loan back is enough)

-- it refuses only a node with a reduced pool
refuses-reduced : (s : State) (v : World) (bs : List Beat) (n : ℕ) (h : Handle) → IsOnWire s bs v → SoundWorld v → Spares v → not_living v.state n ≡ None
    → IsLoanOf v.state.fixed n h → AllBack v n h → is_dry v.state.fixed h.port (kept v.state h.port []) ≡ true → Reduced (view v.state.fixed n) n
refuses-reduced s v bs n h on fits spares living loan back dry all =
    let spare : SpareLoan (view v.state.fixed n) h.port = loan.spare in
    let number : spare.there.number ≡ h.port
    = eqb-true spare.there.number h.port (find-among (λ (q : Port). q.number == h.port) spare.there v.state.fixed.ports spare.is).1 in
    true≢false (sym dry ∙ gives s v bs n h spare.there on fits spares living loan back spare.is
    (all spare.there (ap (port_at v.state.fixed) number ∙ spare.is) (sym (node-is v.state.fixed h.port spare.there spare.there.node spare.is refl)
    ∙ loan.of_port)))

-- ---- a loan under way

loan-of : (f : Fixed) (n : ℕ) (h : Handle) → FitsLoan (view f n) n h true → SpareLoan (view f n) h.port → IsLoanOf f n h
loan-of f n h p spare = record { of_node = p.of_node; of_port = p.of_port; role = p.made.role; spare = spare }

pub loan-at : (f : Fixed) (n : ℕ) (d : Doing) → FitsDoing (view f n) n d → LoanIsAt f n d
loan-at f n (Loaning copies h left) p = p.of_port
loan-at f n d p = tt

pub loan-is : (v : World) (n : ℕ) (copies : Bool) (h : Handle) (left : List Way) → SoundWorld v → Spares v → v.doing n ≡ Some (Loaning copies h left)
    → IsLoanOf v.state.fixed n h
loan-is v n copies h left fits spares e =
    loan-of v.state.fixed n h (doing-is v n (Loaning copies h left) fits e) (spare-is v n (Loaning copies h left) spares e)

pub all-back : (v : World) (n : ℕ) (copies : Bool) (h : Handle) (left : List Way) → v.doing n ≡ Some (Loaning copies h left)
    → ((w : Way) → has_way w left ≡ true → v.state.returned w ≡ []) → AllBack v n h
all-back v n copies h left e none w lends = record { copies = copies; handle = h; left = left; doing = e; lends = lends; none = none w }

-- ---- where the pool refuses

-- of the last way left
last-left : (w u : Way) (left : List Way) → has_way u left ≡ true → without_way w left ≡ [] → u ≡ w
last-left w u [] e none = absurd (true≢false (sym e))
last-left w u (x ∷ xs) e none = by_case (same_way x w) refl none
  where
    not-cons : {A : Type 0} (a : A) (xs : List A) → a ∷ xs ≡ [] → ⊥
    not-cons a xs e = true≢false (sym (ap is_empty e))

    only : (ys : List Way) → ys ≡ [] → IsAmong u (x ∷ ys) → u ≡ x
    only [] f (inl g) = g
    only [] f (inr g) = absurd g
    only (y ∷ ys) f g = absurd (not-cons y ys f)

    by_case : (b : Bool) → same_way x w ≡ b → (if b then xs else x ∷ without_way w xs) ≡ [] → u ≡ w
    by_case true same f = only xs f (way-among u (x ∷ xs) e) ∙ same_way-true x w same
    by_case false same f = absurd (not-cons x (without_way w xs) f)

pub empty-is : {A : Type 0} (xs : List A) → is_empty xs ≡ true → xs ≡ []
empty-is [] e = refl
empty-is (x ∷ xs) e = absurd (true≢false (sym e))

pub dry-if : (s : State) (v : World) (bs : List Beat) (n : ℕ) (d : Doing) (m : Moment) → IsOnWire s bs v → SoundWorld v → Spares v → not_living v.state n ≡ None
    → v.doing n ≡ Some d → Holds v.state m → DryIf v.state (Reduced (view v.state.fixed n) n) d m
dry-if s v bs n (Loaning copies h left) (SeesNoneBack w) on fits spares living e holds =
    λ none dry. refuses-reduced s v bs n h on fits spares living (loan-is v n copies h left fits spares e)
    (all-back v n copies h left e (λ u is. ap v.state.returned (last-left w u left is none) ∙ empty-is (v.state.returned w) holds)) dry
dry-if s v bs n d m on fits spares living e holds = tt

pub dry-at-once : (s : State) (v : World) (bs : List Beat) (n : ℕ) → IsOnWire s bs v → SoundWorld v → Spares v → not_living v.state n ≡ None
    → DryAtOnce v.state n (λ port. ⊤) (Reduced (view v.state.fixed n) n)
dry-at-once s v bs n on fits spares living h loan any empty dry =
    refuses-reduced s v bs n h on fits spares living loan (λ w lends. absurd (true≢false (sym lends ∙ ap (has_way w) empty))) dry

-- nor does the pool of one port, where that was not reduced
pub gives-at-once : (s : State) (v : World) (bs : List Beat) (n port : ℕ) (p : Port) → IsOnWire s bs v → SoundWorld v → Spares v → not_living v.state n ≡ None
    → port_at v.state.fixed port ≡ Some p → IsUnreduced v.state.fixed p → DryAtOnce v.state n (λ q. q ≡ port) ⊥
gives-at-once s v bs n port p on fits spares living is enough h loan same empty dry =
    true≢false (sym dry ∙ gives s v bs n h p on fits spares living loan (λ w lends. absurd (true≢false (sym lends ∙ ap (has_way w) empty)))
    (ap (port_at v.state.fixed) same ∙ is) enough)
