-- A list of a node's handles: what is listed, which of it is there first, and that each call of the table keeps it.
use Rattle.std.specs.Prelude.{◌≡◌, ℕ, ◌+◌, ◌<◌, ◌≤◌, zero, suc, nat_lt, Bool, true, false, ◌&&◌, if◌then◌else◌, ◌==◌, List, [], ◌∷◌, ◌++◌, length, Option, Some, None, slice_get, slice_index_or, refl}
use Rattle.std.specs.List.{Contains}
use Rattle.std.specs.List.Sorted.{IsNonDecreasingBy, IsPermutation}
use Rattle.std.specs.Option.{option_map_or}
use Rattle.std.proofs.Common.{sym, ap, ap₂, subst, ◌∙◌, arith, true≢false, eqb-true, eq-eqb}
use Rattle.std.proofs.lemmas.Bool.{ltb-true, ltb-false}
use Rattle.std.proofs.lemmas.List.Elements.{Contains-append_left, Contains-push}
use Rattle.std.proofs.lemmas.List.Sorted.{Contains-permutation}
use Rattle.std.proofs.lemmas.Option.{none-some, same_Some}
use Rattle.iox_handles.specs.declared.entry.Entry.{Entry}
use Rattle.iox_handles.specs.declared.numbered.Numbered.{Numbered}
use Rattle.iox_handles.specs.Least.{lesser}
use Rattle.iox_handles.specs.NodeLists.{AllListed, AreListed, IsFrom, ListState, has_listed, is_list_of, is_numbered_of}
use Rattle.iox_handles.specs.Places.{least_in, number_for, passes}
use Rattle.iox_handles.proofs.NumberLemmas.{same_number}
use Rattle.iox_handles.proofs.PlaceLemmas.{inner}

-- a handle as it is listed
abbrev pub entry_at : ℕ → ℕ → Numbered
entry_at number place = record { number = number; place = place }

-- what is read within a list does not depend on what stands for nothing
pub within_any : {X : Type 0} (xs : List X) (i : ℕ) (d e : X) → i < length xs → slice_index_or xs i d ≡ slice_index_or xs i e
within_any [] i d e low = absurd (omega (arith, low))
within_any (x ∷ xs) zero d e low = refl
within_any (x ∷ xs) (suc i) d e low = within_any xs i d e (omega (arith, low))

-- ---- place by place

-- each handle of the node in a place below that one is in the list
abbrev pub ListedBelow : ℕ → List (Option Entry) → List Numbered → ℕ → Type 0
ListedBelow node ps list top =
    (p : ℕ) (h : Entry) → p < top → slice_get ps p ≡ Some (Some h) → h.node ≡ node → Contains list (record { number = h.number; place = p })

read_there : (ps : List (Option Entry)) (i : ℕ) (h : Entry) → slice_get ps i ≡ Some (Some h) → slice_index_or ps i None ≡ Some h
read_there [] i h at = absurd (none-some (Some h) at)
read_there (o ∷ ps) zero h at = inner o (Some h) at
read_there (o ∷ ps) (suc i) h at = read_there ps i h at

-- the number of a handle of the node
own_number : (node : ℕ) (h : Entry) → h.node ≡ node → number_for node (Some h) ≡ Some h.number
own_number node h on = ap (λ (b : Bool). if b then Some h.number else None) (eq-eqb h.node node on)

told_there : (node : ℕ) (ps : List (Option Entry)) (p : ℕ) (h : Entry) → slice_get ps p ≡ Some (Some h) → h.node ≡ node
    → number_for node (slice_index_or ps p None) ≡ Some h.number
told_there node ps p h at on = ap (number_for node) (read_there ps p h at) ∙ own_number node h on

pub listed_push : (node : ℕ) (ps : List (Option Entry)) (list : List Numbered) (top n : ℕ) → number_for node (slice_index_or ps top None) ≡ Some n
    → ListedBelow node ps list top → ListedBelow node ps (list ++ entry_at n top ∷ []) (top + 1)
listed_push node ps list top n told before p h low at on = by_case (nat_lt p top) refl
  where
    by_case : (b : Bool) → nat_lt p top ≡ b → Contains (list ++ entry_at n top ∷ []) (entry_at h.number p)
    by_case true e = Contains-append_left list (entry_at n top ∷ []) (entry_at h.number p) (before p h (ltb-true p top e) at on)
    by_case false e =
        let past : top ≤ p = ltb-false p top e in
        let place : p ≡ top = omega (arith, past, low) in
        let number : h.number ≡ n =
        same_Some h.number n (sym (told_there node ps p h at on) ∙ ap (λ i. number_for node (slice_index_or ps i None)) place ∙ told) in
        subst (λ (v : Numbered). Contains (list ++ v ∷ []) (entry_at h.number p)) (ap₂ entry_at number place) (Contains-push list (entry_at h.number p))

pub listed_skip : (node : ℕ) (ps : List (Option Entry)) (list : List Numbered) (top : ℕ) → number_for node (slice_index_or ps top None) ≡ None
    → ListedBelow node ps list top → ListedBelow node ps list (top + 1)
listed_skip node ps list top told before p h low at on = by_case (nat_lt p top) refl
  where
    by_case : (b : Bool) → nat_lt p top ≡ b → Contains list (entry_at h.number p)
    by_case true e = before p h (ltb-true p top e) at on
    by_case false e =
        let past : top ≤ p = ltb-false p top e in
        let place : p ≡ top = omega (arith, past, low) in
        absurd (none-some h.number (sym told ∙ ap (λ i. number_for node (slice_index_or ps i None)) (sym place) ∙ told_there node ps p h at on))

-- a sorted list has what was listed
pub sorted_listed : (ps : List (Option Entry)) (l : ListState) (first : List Numbered) → AreListed l.node ps first → IsPermutation first l.list
    → l.from ≡ 0 → AllListed ps l
sorted_listed ps l first all moved start p h at on =
    let (i, low, is) = Contains-permutation first l.list (entry_at h.number p) moved (all p h at on) in
    (i, omega (arith, start), low, is)

-- ---- which is there first

-- a listed handle that is there
is_there : (node : ℕ) (ps : List (Option Entry)) (p : ℕ) (h : Entry) → slice_get ps p ≡ Some (Some h) → h.node ≡ node
    → has_listed node ps (entry_at h.number p) ≡ true
is_there node ps p h at on =
    ap (λ (o : Option (Option Entry)). option_map_or (passes (is_numbered_of node h.number)) o false) at
    ∙ ap₂ (λ (a b : Bool). a && b) (eq-eqb h.node node on) (same_number h.number)

-- and what is there of what is listed
record There (node : ℕ) (ps : List (Option Entry)) (v : Numbered) : Type 0 where
  pub handle : Entry
  pub at : slice_get ps v.place ≡ Some (Some handle)
  pub on : handle.node ≡ node
  pub number : handle.number ≡ v.number

both : (a b : Bool) → (a && b) ≡ true → (a ≡ true) × (b ≡ true)
both true b e = (refl, e)
both false b e = absurd (true≢false (sym e))

there_is : (node : ℕ) (ps : List (Option Entry)) (v : Numbered) → has_listed node ps v ≡ true → There node ps v
there_is node ps v e = by_case (slice_get ps v.place) refl e
  where
    by_case : (o : Option (Option Entry)) → slice_get ps v.place ≡ o → option_map_or (passes (is_numbered_of node v.number)) o false ≡ true → There node ps v
    by_case None at e = absurd (true≢false (sym e))
    by_case (Some None) at e = absurd (true≢false (sym e))
    by_case (Some (Some h)) at e =
        let parts = both (h.node == node) (h.number == v.number) e in
        record { handle = h; at = at; on = eqb-true h.node node parts.0; number = eqb-true h.number v.number parts.1 }

-- those that are gone need not be looked at again
pub moved_on : (ps : List (Option Entry)) (l : ListState) (at : ℕ) → AllListed ps l
    → ((i : ℕ) (v : Numbered) → l.from ≤ i → i < at → v ≡ slice_index_or l.list i v → has_listed l.node ps v ≡ false)
    → AllListed ps (record l { from = at })
moved_on ps l at all gone p h here on =
    let (i, from, low, is) = all p h here on in
    by_case i from low is (nat_lt i at) refl
  where
    by_case : (i : ℕ) → l.from ≤ i → i < length l.list → slice_index_or l.list i (entry_at h.number p) ≡ entry_at h.number p
        → (b : Bool) → nat_lt i at ≡ b → IsFrom l.list at (entry_at h.number p)
    by_case i from low is true e =
        absurd (true≢false (sym (is_there l.node ps p h here on) ∙ gone i (entry_at h.number p) from (ltb-true i at e) (sym is)))
    by_case i from low is false e = (i, ltb-false i at e, low, is)

-- ---- the least

at_most : (node : ℕ) (ps : List (Option Entry)) (p : ℕ) (h : Entry) → slice_get ps p ≡ Some (Some h) → h.node ≡ node
    → (m : ℕ) × (least_in node ps ≡ Some m) × (m ≤ h.number)
at_most node [] p h at on = absurd (none-some (Some h) at)
at_most node (o ∷ ps) zero h at on = by_case (least_in node ps) refl
  where
    first : number_for node o ≡ Some h.number
    first = ap (number_for node) (inner o (Some h) at) ∙ own_number node h on

    by_case : (r : Option ℕ) → least_in node ps ≡ r → (m : ℕ) × (lesser (number_for node o) (least_in node ps) ≡ Some m) × (m ≤ h.number)
    by_case None e = (h.number, ap₂ lesser first e, omega arith)
    by_case (Some b) e = (_, ap₂ lesser first e, omega arith)
at_most node (o ∷ ps) (suc p) h at on =
    let (m, e, low) = at_most node ps p h at on in
    by_case (number_for node o) refl m e low
  where
    by_case : (r : Option ℕ) → number_for node o ≡ r → (m : ℕ) → least_in node ps ≡ Some m → m ≤ h.number
        → (k : ℕ) × (lesser (number_for node o) (least_in node ps) ≡ Some k) × (k ≤ h.number)
    by_case None f m e low = (m, ap₂ lesser f e, low)
    by_case (Some a) f m e low = (_, ap₂ lesser f e, omega (arith, low))

at_least : (node n : ℕ) (ps : List (Option Entry)) → ((p : ℕ) (h : Entry) → slice_get ps p ≡ Some (Some h) → h.node ≡ node → n ≤ h.number)
    → (m : ℕ) → least_in node ps ≡ Some m → n ≤ m
at_least node n [] all m e = absurd (none-some m e)
at_least node n (o ∷ ps) all m e =
    by_case (number_for node o) (least_in node ps) (first o (all 0) (number_for node o) refl) (at_least node n ps (λ p. all (suc p))) e
  where
    first : (o : Option Entry) → ((h : Entry) → Some o ≡ Some (Some h) → h.node ≡ node → n ≤ h.number)
        → (r : Option ℕ) → number_for node o ≡ r → (a : ℕ) → r ≡ Some a → n ≤ a
    first None one r f a g = absurd (none-some a (f ∙ g))
    first (Some h) one r f a g = of_node (h.node == node) refl (f ∙ g)
      where
        of_node : (b : Bool) → (h.node == node) ≡ b → (if b then Some h.number else None) ≡ Some a → n ≤ a
        of_node true is k = let low = one h refl (eqb-true h.node node is) in let same = same_Some h.number a k in omega (arith, low, same)
        of_node false is k = absurd (none-some a k)

    by_case : (r s : Option ℕ) → ((a : ℕ) → r ≡ Some a → n ≤ a) → ((b : ℕ) → s ≡ Some b → n ≤ b) → lesser r s ≡ Some m → n ≤ m
    by_case None s f g e = g m e
    by_case (Some a) None f g e = f m e
    by_case (Some a) (Some b) f g e =
        let low = f a refl in let up = g b refl in let same = same_Some _ m e in omega (arith, low, up, same)

-- the first that is there has the least number
pub least_there : (ps : List (Option Entry)) (l : ListState) (at : ℕ) (v : Numbered) → IsNonDecreasingBy (λ w. w.number) l.list
    → AllListed ps (record l { from = at }) → v ≡ slice_index_or l.list at v → has_listed l.node ps v ≡ true → Some v.number ≡ least_in l.node ps
least_there ps l at v up all is here =
    let it : There l.node ps v = there_is l.node ps v here in
    let found = at_most l.node ps v.place it.handle it.at it.on in
    let low : v.number ≤ found.0 = at_least l.node v.number ps above found.0 found.1 in
    let few = found.2 in
    let number = it.number in
    let same : v.number ≡ found.0 = omega (arith, low, few, number) in
    ap (λ n. Some n) same ∙ sym found.1
  where
    above : (p : ℕ) (h : Entry) → slice_get ps p ≡ Some (Some h) → h.node ≡ l.node → v.number ≤ h.number
    above p h there on =
        let (i, from, low, same) = all p h there on in
        let rises = up at i (entry_at h.number p) from low in
        let first : slice_index_or l.list at v ≡ slice_index_or l.list at (entry_at h.number p) = within_any l.list at v (entry_at h.number p) (omega (arith, from, low)) in
        let one : v.number ≡ (slice_index_or l.list at (entry_at h.number p)).number = ap (λ (w : Numbered). w.number) (is ∙ first) in
        let other : (slice_index_or l.list i (entry_at h.number p)).number ≡ h.number = ap (λ (w : Numbered). w.number) same in
        omega (arith, rises, one, other)

none_in : (node : ℕ) (ps : List (Option Entry)) → ((p : ℕ) (h : Entry) → slice_get ps p ≡ Some (Some h) → h.node ≡ node → ⊥) → least_in node ps ≡ None
none_in node [] none = refl
none_in node (None ∷ ps) none = none_in node ps (λ p. none (suc p))
none_in node (Some g ∷ ps) none = by_case (g.node == node) refl (none_in node ps (λ p. none (suc p)))
  where
    by_case : (b : Bool) → (g.node == node) ≡ b → least_in node ps ≡ None → lesser (if b then Some g.number else None) (least_in node ps) ≡ None
    by_case true is rest = absurd (none 0 g refl (eqb-true g.node node is))
    by_case false is rest = rest

-- if none of those listed is there, the node has none
pub none_there : (ps : List (Option Entry)) (l : ListState) → AllListed ps l
    → ((i : ℕ) (v : Numbered) → l.from ≤ i → i < length l.list → v ≡ slice_index_or l.list i v → has_listed l.node ps v ≡ false)
    → None ≡ least_in l.node ps
none_there ps l all gone =
    sym (none_in l.node ps (λ p h here on.
    let (i, from, low, is) = all p h here on in
    true≢false (sym (is_there l.node ps p h here on) ∙ gone i (entry_at h.number p) from low (sym is))))

-- one more of the list is gone
abbrev pub AreGone : ℕ → List (Option Entry) → List Numbered → ℕ → ℕ → Type 0
AreGone node ps list from to =
    (i : ℕ) (v : Numbered) → from ≤ i → i < to → v ≡ slice_index_or list i v → has_listed node ps v ≡ false

pub gone_more : (node : ℕ) (ps : List (Option Entry)) (list : List Numbered) (from at : ℕ) (d : Numbered) → at < length list
    → has_listed node ps (slice_index_or list at d) ≡ false → AreGone node ps list from at → AreGone node ps list from (at + 1)
gone_more node ps list from at d within gone before i v past low is = by_case (nat_lt i at) refl
  where
    by_case : (b : Bool) → nat_lt i at ≡ b → has_listed node ps v ≡ false
    by_case true e = before i v past (ltb-true i at e) is
    by_case false e =
        let behind : at ≤ i = ltb-false i at e in
        let same : i ≡ at = omega (arith, behind, low) in
        ap (has_listed node ps) (is ∙ ap (λ j. slice_index_or list j v) same ∙ within_any list at v d within) ∙ gone

-- whose list it is
pub list_is_of : (l : ListState) (node next : ℕ) → is_list_of l node next ≡ true → l.node ≡ node
list_is_of l node next e = eqb-true l.node node (both (l.node == node) (l.next == next) e).0
