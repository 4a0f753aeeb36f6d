-- What holds of a node's handles stays as one is added, changed or taken out.
use Rattle.std.specs.Prelude.{◌≡◌, ℕ, ◌+◌, ◌<◌, ◌≤◌, Bool, true, false, not, if◌then◌else◌, ◌==◌, List, [], ◌∷◌, ◌++◌, map, ◌⊎◌, refl}
use Rattle.std.proofs.Common.{sym, subst, ap, ◌∙◌, arith, eqb-true, eq-eqb, inl, inr}
use Rattle.iox_model.specs.declared.way.Way.{Way}
use Rattle.iox_model.specs.States.{Handle}
use Rattle.iox_model.specs.Maps.{put_at}
use Rattle.iox_model.specs.Counts.{without_handle, with_handle}
use Rattle.iox_laws.proofs.WeaveLedger.Truths.{never}
use Rattle.iox_laws.proofs.WeaveLedger.Lists.{IsAmong, NoRepeats, among-last, filter-among, map-among, among-map, no_repeats-last, no_repeats-map_filter}
use Rattle.iox_laws.proofs.WeaveLedger.Views.{View, IsAt, plus, counted, lends_one, swapped, less}
use Rattle.iox_laws.proofs.WeaveLedger.Senders.{is_loan, IsMade, FitsHandles}
use Rattle.iox_laws.proofs.WeaveLaws.CallLaws.{not-true}

-- ---- lists of handles

pub with-among : (h g : Handle) (hs : List Handle) → NoRepeats (map (λ k. k.number) hs) → IsAmong g (with_handle h hs)
    → (g ≡ h) ⊎ (IsAmong g hs × (g.number ≡ h.number → ⊥))
with-among h g [] d p = absurd p
with-among h g (k ∷ ks) d p = by_case (k.number == h.number) refl (with-among h g ks d.1) p
  where
    by_case : (b : Bool) → (k.number == h.number) ≡ b → (IsAmong g (with_handle h ks) → (g ≡ h) ⊎ (IsAmong g ks × (g.number ≡ h.number → ⊥)))
        → IsAmong g (if b then h ∷ ks else k ∷ with_handle h ks) → (g ≡ h) ⊎ (IsAmong g (k ∷ ks) × (g.number ≡ h.number → ⊥))
    by_case true e rest (inl q) = inl q
    by_case true e rest (inr q) =
        inr (
          inr q,
          λ same. d.0 (subst (λ n. IsAmong n (map (λ x. x.number) ks)) (same ∙ sym (eqb-true k.number h.number e))
              (among-map (λ x. x.number) g ks q)),
        )
    by_case false e rest (inl q) = inr (inl q, λ same. never (k.number == h.number) (eq-eqb k.number h.number (sym (ap (λ (x : Handle). x.number) q) ∙ same)) e)
    by_case false e rest (inr q) = elim (rest q) as (λ u. (g ≡ h) ⊎ (IsAmong g (k ∷ ks) × (g.number ≡ h.number → ⊥))) [
      | inl r ↦ inl r
      | inr r ↦ inr (inr r.0, r.1)
    ]

pub with-numbers : (h : Handle) (hs : List Handle) → map (λ k. k.number) (with_handle h hs) ≡ map (λ k. k.number) hs
with-numbers h [] = refl
with-numbers h (k ∷ ks) = by_case (k.number == h.number) refl (with-numbers h ks)
  where
    by_case : (b : Bool) → (k.number == h.number) ≡ b → map (λ x. x.number) (with_handle h ks) ≡ map (λ x. x.number) ks
        → map (λ x. x.number) (if b then h ∷ ks else k ∷ with_handle h ks) ≡ k.number ∷ map (λ x. x.number) ks
    by_case true e rest = ap (λ n. n ∷ map (λ x. x.number) ks) (sym (eqb-true k.number h.number e))
    by_case false e rest = ap (λ ns. k.number ∷ ns) rest

pub without-number : (h g : Handle) (hs : List Handle) → IsAmong g (without_handle h hs) → IsAmong g hs × (g.number ≡ h.number → ⊥)
without-number h g hs p =
    let r : IsAmong g hs × (not (g.number == h.number) ≡ true) = filter-among (λ k. not (k.number == h.number)) g hs p in
    (r.0, λ e. never (g.number == h.number) (eq-eqb g.number h.number e) (not-true (g.number == h.number) r.1))

map-append : (x : Handle) (xs : List Handle) → map (λ k. k.number) (xs ++ x ∷ []) ≡ map (λ k. k.number) xs ++ x.number ∷ []
map-append x [] = refl
map-append x (z ∷ zs) = ap (λ ns. z.number ∷ ns) (map-append x zs)

-- ---- handles

-- what nothing of handles rests on may change
pub rests : (v : View) (n : ℕ) (borrowed : Way → ℕ) (forgot : List ℕ) → FitsHandles v n → FitsHandles (record v { borrowed = borrowed; forgot = forgot }) n
rests v n borrowed forgot p = record {
  apart = p.apart;
  below = p.below;
  of_node = p.of_node;
  of_port = p.of_port;
  made = p.made;
  lent = p.lent;
  alone = p.alone;
}

pub more-loans : (loans : ℕ → ℕ) (p q : ℕ) → loans q ≤ put_at loans p (loans p + 1) q
more-loans loans p q = by_case (q == p) (eqb-true q p)
  where
    by_case : (b : Bool) → (b ≡ true → q ≡ p) → loans q ≤ (if b then loans p + 1 else loans q)
    by_case true e = subst (λ k. loans k ≤ loans p + 1) (sym (e refl)) (omega arith)
    by_case false e = omega arith

pub below-less : (a b c : ℕ) → a < b → b ≤ c → a < c
below-less a b c p q = omega arith

pub lends-fits : (v : View) (n p : ℕ) → FitsHandles v n → FitsHandles (lends_one v p) n
lends-fits v n p fits = record {
  apart = fits.apart;
  below = fits.below;
  of_node = fits.of_node;
  of_port = fits.of_port;
  made = fits.made;
  lent = λ h a l. below-less h.message.serial (v.loans h.port) (put_at v.loans p (v.loans p + 1) h.port) (fits.lent h a l) (more-loans v.loans p h.port);
  alone = fits.alone;
}

pub less-fits : (v : View) (n : ℕ) (h : Handle) → FitsHandles v n → FitsHandles (less v h) n
less-fits v n h fits = record {
  apart = no_repeats-map_filter (λ k. k.number) (λ k. not (k.number == h.number)) v.handles fits.apart;
  below = λ g a. fits.below g (without-number h g v.handles a).0;
  of_node = λ g a. fits.of_node g (without-number h g v.handles a).0;
  of_port = λ g a. fits.of_port g (without-number h g v.handles a).0;
  made = λ g a. fits.made g (without-number h g v.handles a).0;
  lent = λ g a. fits.lent g (without-number h g v.handles a).0;
  alone = λ g k a b. fits.alone g k (without-number h g v.handles a).0 (without-number h k v.handles b).0;
}

-- a new loan has a serial that no other has
abbrev pub IsNew : View → Handle → Type 0
IsNew v h =
    IsMade v.ports h × (h.message.serial < v.loans h.port)
    × ((g : Handle) → IsAmong g v.handles → is_loan g.kind ≡ true → g.port ≡ h.port → g.message.serial ≡ h.message.serial → ⊥)

pub plus-fits : (v : View) (n : ℕ) (h : Handle) → FitsHandles v n → h.number ≡ v.next → h.node ≡ n → IsAt v.ports h.port n
    → (is_loan h.kind ≡ true → IsNew v h) → FitsHandles (plus (counted v) h) n
plus-fits v n h fits number node port new = record {
  apart = subst NoRepeats (sym (map-append h v.handles)) (no_repeats-last h.number (map (λ k. k.number) v.handles) fits.apart fresh);
  below = λ g a. below g (among-last g h v.handles a);
  of_node = λ g a. elim (among-last g h v.handles a) as (λ u. g.node ≡ n) [ inl q ↦ fits.of_node g q | inr e ↦ ap (λ (k : Handle). k.node) e ∙ node ];
  of_port = λ g a. elim (among-last g h v.handles a) as (λ u. IsAt v.ports g.port n) [
    | inl q ↦ fits.of_port g q
    | inr e ↦ subst (λ (k : Handle). IsAt v.ports k.port n) (sym e) port
  ];
  made = λ g a l. elim (among-last g h v.handles a) as (λ u. IsMade v.ports g) [
    | inl q ↦ fits.made g q l
    | inr e ↦ subst (λ (k : Handle). IsMade v.ports k) (sym e) (new (subst (λ (k : Handle). is_loan k.kind ≡ true) e l)).0
  ];
  lent = λ g a l. elim (among-last g h v.handles a) as (λ u. g.message.serial < v.loans g.port) [
    | inl q ↦ fits.lent g q l
    | inr e ↦ subst (λ (k : Handle). k.message.serial < v.loans k.port) (sym e) (new (subst (λ (k : Handle). is_loan k.kind ≡ true) e l)).1
  ];
  alone = λ g k a b. alone g k (among-last g h v.handles a) (among-last k h v.handles b);
}
  where
    fresh : IsAmong h.number (map (λ k. k.number) v.handles) → ⊥
    fresh q =
        let r : (g : Handle) × IsAmong g v.handles × (h.number ≡ g.number) = map-among (λ k. k.number) h.number v.handles q in
        irreflexive r.0.number (subst (λ m. r.0.number < m) (sym number ∙ r.2) (fits.below r.0 r.1))
      where
        irreflexive : (m : ℕ) → m < m → ⊥
        irreflexive m e = omega arith

    below : (g : Handle) → IsAmong g v.handles ⊎ (g ≡ h) → g.number < v.next + 1
    below g (inl q) = below-less g.number v.next (v.next + 1) (fits.below g q) (omega arith)
    below g (inr e) = subst (λ m. m < v.next + 1) (sym (ap (λ (k : Handle). k.number) e ∙ number)) (omega arith)

    is_new : (g : Handle) → g ≡ h → is_loan g.kind ≡ true → IsNew v h
    is_new g e l = new (subst (λ (k : Handle). is_loan k.kind ≡ true) e l)

    alone : (g k : Handle) → IsAmong g v.handles ⊎ (g ≡ h) → IsAmong k v.handles ⊎ (k ≡ h) → is_loan g.kind ≡ true → is_loan k.kind ≡ true
        → g.port ≡ k.port → g.message.serial ≡ k.message.serial → g.number ≡ k.number
    alone g k (inl a) (inl b) l m port serial = fits.alone g k a b l m port serial
    alone g k (inl a) (inr e) l m port serial =
        absurd ((is_new k e m).2 g a l (port ∙ ap (λ (x : Handle). x.port) e) (serial ∙ ap (λ (x : Handle). x.message.serial) e))
    alone g k (inr e) (inl b) l m port serial =
        absurd ((is_new g e l).2 k b m (sym port ∙ ap (λ (x : Handle). x.port) e) (sym serial ∙ ap (λ (x : Handle). x.message.serial) e))
    alone g k (inr a) (inr b) l m port serial = ap (λ (x : Handle). x.number) (a ∙ sym b)

-- what stands for a handle, and is a loan only if that was the same one
pub record Replaces (v : View) (n : ℕ) (h : Handle) : Type 0 where
  pub old : Handle
  pub among : IsAmong old v.handles
  pub number : h.number ≡ old.number
  pub port : h.port ≡ old.port
  pub of_node : h.node ≡ n
  pub loan : is_loan h.kind ≡ true → (is_loan old.kind ≡ true) × (h.message.serial ≡ old.message.serial) × IsMade v.ports h

pub swapped-fits : (v : View) (n : ℕ) (h : Handle) → FitsHandles v n → Replaces v n h → FitsHandles (swapped v h) n
swapped-fits v n h fits r = record {
  apart = subst NoRepeats (sym (with-numbers h v.handles)) fits.apart;
  below = λ g a. elim (among g a) as (λ u. g.number < v.next) [
    | inl e ↦ subst (λ m. m < v.next) (sym (ap (λ (k : Handle). k.number) e ∙ r.number)) (fits.below r.old r.among)
    | inr q ↦ fits.below g q.0
  ];
  of_node = λ g a. elim (among g a) as (λ u. g.node ≡ n) [ inl e ↦ ap (λ (k : Handle). k.node) e ∙ r.of_node | inr q ↦ fits.of_node g q.0 ];
  of_port = λ g a. elim (among g a) as (λ u. IsAt v.ports g.port n) [
    | inl e ↦ subst (λ m. IsAt v.ports m n) (sym (ap (λ (k : Handle). k.port) e ∙ r.port)) (fits.of_port r.old r.among)
    | inr q ↦ fits.of_port g q.0
  ];
  made = λ g a l. elim (among g a) as (λ u. IsMade v.ports g) [
    | inl e ↦ subst (IsMade v.ports) (sym e) (r.loan (is_loan_too g e l)).2
    | inr q ↦ fits.made g q.0 l
  ];
  lent = λ g a l. elim (among g a) as (λ u. g.message.serial < v.loans g.port) [
    | inl e ↦ subst (λ (k : Handle). k.message.serial < v.loans k.port) (sym e) (lent (r.loan (is_loan_too g e l)))
    | inr q ↦ fits.lent g q.0 l
  ];
  alone = λ g k a b. alone g k (among g a) (among k b);
}
  where
    among : (g : Handle) → IsAmong g (with_handle h v.handles) → (g ≡ h) ⊎ (IsAmong g v.handles × (g.number ≡ h.number → ⊥))
    among g a = with-among h g v.handles fits.apart a

    is_loan_too : (g : Handle) → g ≡ h → is_loan g.kind ≡ true → is_loan h.kind ≡ true
    is_loan_too g e l = subst (λ (k : Handle). is_loan k.kind ≡ true) e l

    lent : (is_loan r.old.kind ≡ true) × (h.message.serial ≡ r.old.message.serial) × IsMade v.ports h → h.message.serial < v.loans h.port
    lent q = subst (λ m. m < v.loans h.port) (sym q.1) (subst (λ p. r.old.message.serial < v.loans p) (sym r.port) (fits.lent r.old r.among q.0))

    same : (g : Handle) → IsAmong g v.handles → is_loan g.kind ≡ true → is_loan h.kind ≡ true → g.port ≡ h.port → g.message.serial ≡ h.message.serial
        → g.number ≡ h.number
    same g a l m port serial =
        fits.alone g r.old a r.among l (r.loan m).0 (port ∙ r.port) (serial ∙ (r.loan m).1) ∙ sym r.number

    alone : (g k : Handle) → (g ≡ h) ⊎ (IsAmong g v.handles × (g.number ≡ h.number → ⊥)) → (k ≡ h) ⊎ (IsAmong k v.handles × (k.number ≡ h.number → ⊥))
        → is_loan g.kind ≡ true → is_loan k.kind ≡ true → g.port ≡ k.port → g.message.serial ≡ k.message.serial → g.number ≡ k.number
    alone g k (inl a) (inl b) l m port serial = ap (λ (x : Handle). x.number) (a ∙ sym b)
    alone g k (inl e) (inr q) l m port serial =
        absurd (q.1 (same k q.0 m (is_loan_too g e l) (sym port ∙ ap (λ (x : Handle). x.port) e) (sym serial ∙ ap (λ (x : Handle). x.message.serial) e)))
    alone g k (inr q) (inl e) l m port serial =
        absurd (q.1 (same g q.0 l (is_loan_too k e m) (port ∙ ap (λ (x : Handle). x.port) e) (serial ∙ ap (λ (x : Handle). x.message.serial) e)))
    alone g k (inr a) (inr b) l m port serial = fits.alone g k a.0 b.0 l m port serial
