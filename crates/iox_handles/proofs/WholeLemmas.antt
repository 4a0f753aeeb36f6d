-- A table and its list of a node's handles: each call keeps them.
use Rattle.std.specs.Prelude.{◌≡◌, ℕ, ◌+◌, ◌-◌, ◌<◌, ◌≤◌, zero, suc, List, [], ◌∷◌, ◌++◌, length, Option, Some, None, slice_get, slice_set, refl}
use Rattle.std.proofs.Common.{sym, ap, ap₂, subst, true, ◌∙◌, arith, length-append}
use Rattle.std.proofs.lemmas.Option.{none-some, same_Some}
use Rattle.std.proofs.lemmas.List.{length-set}
use Rattle.iox_handles.specs.declared.entry.Entry.{Entry}
use Rattle.iox_handles.specs.declared.numbered.Numbered.{Numbered}
use Rattle.iox_handles.specs.NodeLists.{AllListed, IsFrom, IsWhole, ListState, no_list}
use Rattle.iox_handles.specs.Places.{has_at}
use Rattle.iox_handles.proofs.NodeListLemmas.{entry_at}
use Rattle.iox_handles.proofs.PlaceLemmas.{has_there, inner, inside}
use Rattle.iox_handles.proofs.TableLemmas.{IsTable-behind, IsTable-change, IsTable-put, IsTable-take, is_below}

-- ---- one place changes

-- a handle that is there now was there, or is the new one
set_there : (ps : List (Option Entry)) (i : ℕ) (o : Option Entry) (p : ℕ) (h : Entry) → slice_get (slice_set ps i o) p ≡ Some (Some h)
    → (P : Type 0) → (slice_get ps p ≡ Some (Some h) → P) → (p ≡ i → o ≡ Some h → P) → P
set_there [] i o p h at P old new = absurd (none-some (Some h) at)
set_there (q ∷ ps) zero o zero h at P old new = new refl (inner o (Some h) at)
set_there (q ∷ ps) zero o (suc p) h at P old new = old at
set_there (q ∷ ps) (suc i) o zero h at P old new = old at
set_there (q ∷ ps) (suc i) o (suc p) h at P old new = set_there ps i o p h at P old (λ e. new (ap suc e))

-- all are listed still where a handle went
all-take : (ps : List (Option Entry)) (i : ℕ) (l : ListState) → AllListed ps l → AllListed (slice_set ps i None) l
all-take ps i l all p h at on = set_there ps i None p h at _ (λ there. all p h there on) (λ e none. absurd (none-some h none))

-- and where one changed, which is of the same number and node
all-change : (ps : List (Option Entry)) (i : ℕ) (g n : Entry) (l : ListState) → slice_get ps i ≡ Some (Some g) → g.number ≡ n.number → g.node ≡ n.node
    → AllListed ps l → AllListed (slice_set ps i (Some n)) l
all-change ps i g n l there number node all p h at on =
    set_there ps i (Some n) p h at _ (λ before. all p h before on) (λ e same.
    let one : n ≡ h = same_Some n h same in
    subst (λ (v : Numbered). IsFrom l.list l.from v)
    (ap₂ entry_at (number ∙ ap (λ (k : Entry). k.number) one) (sym e))
    (all i g there (node ∙ ap (λ (k : Entry). k.node) one ∙ on)))

-- ---- each call

pub IsWhole-put : (ps : List (Option Entry)) (fs : List ℕ) (i room next pc fc : ℕ) (l : ListState) (h : Entry) → IsWhole ps (fs ++ i ∷ []) room next pc fc l
    → 0 < room → next ≤ h.number → IsWhole (slice_set ps i (Some h)) fs (room - 1) (h.number + 1) pc fc l
IsWhole-put ps fs i room next pc fc l h t some newer =
    let size : length (slice_set ps i (Some h)) ≡ length ps = length-set ps i (Some h) in
    let free : length (fs ++ i ∷ []) ≡ length fs + 1 = length-append fs (i ∷ []) in
    record {
      table = IsTable-put ps fs i room next pc fc h t.table some newer;
      past = omega (arith, t.past, newer);
      all = λ same. absurd (omega (arith, same, t.past, newer));
      lists = omega (arith, t.lists, size, free, some);
    }

pub IsWhole-behind : (ps : List (Option Entry)) (room next pc fc : ℕ) (l : ListState) (h : Entry) → IsWhole ps [] room next pc fc l
    → 0 < room → next ≤ h.number → IsWhole (ps ++ Some h ∷ []) [] (room - 1) (h.number + 1) pc fc l
IsWhole-behind ps room next pc fc l h t some newer =
    let size : length (ps ++ Some h ∷ []) ≡ length ps + 1 = length-append ps (Some h ∷ []) in
    record {
      table = IsTable-behind ps room next pc fc h t.table some newer;
      past = omega (arith, t.past, newer);
      all = λ same. absurd (omega (arith, same, t.past, newer));
      lists = omega (arith, t.lists, size, some);
    }

pub IsWhole-take : (ps : List (Option Entry)) (free : List ℕ) (k i room next pc fc : ℕ) (l : ListState) → IsWhole ps free room next pc fc l → has_at k ps i ≡ true
    → IsWhole (slice_set ps i None) (free ++ i ∷ []) (room + 1) next pc fc l
IsWhole-take ps free k i room next pc fc l t e =
    let size : length (slice_set ps i None) ≡ length ps = length-set ps i None in
    let more : length (free ++ i ∷ []) ≡ length free + 1 = length-append free (i ∷ []) in
    record {
      table = IsTable-take ps free k i room next pc fc t.table e;
      past = t.past;
      all = λ same. all-take ps i l (t.all same);
      lists = omega (arith, t.lists, size, more);
    }

-- a handle of another node may come by a change, so the list is forgotten
pub IsWhole-change : (ps : List (Option Entry)) (free : List ℕ) (i room next pc fc : ℕ) (l : ListState) (n : Entry) → IsWhole ps free room next pc fc l → has_at n.number ps i ≡ true
    → IsWhole (slice_set ps i (Some n)) free room next pc fc (record l { next = 0 })
IsWhole-change ps free i room next pc fc l n t e =
    let (h, at, same) = has_there n.number ps i e in
    let low : h.number < next = is_below ps free room next pc fc t.table i h at in
    let size : length (slice_set ps i (Some n)) ≡ length ps = length-set ps i (Some n) in
    record {
      table = IsTable-change ps free i room next pc fc n t.table e;
      past = omega arith;
      all = λ none. absurd (omega (arith, none, low));
      lists = omega (arith, t.lists, size);
    }

pub IsWhole-change_of : (ps : List (Option Entry)) (free : List ℕ) (i room next pc fc : ℕ) (l : ListState) (n g : Entry) → IsWhole ps free room next pc fc l
    → has_at n.number ps i ≡ true → slice_get ps i ≡ Some (Some g) → g.node ≡ n.node
    → IsWhole (slice_set ps i (Some n)) free room next pc fc l
IsWhole-change_of ps free i room next pc fc l n g t e at node =
    let size : length (slice_set ps i (Some n)) ≡ length ps = length-set ps i (Some n) in
    let (h, there, same) = has_there n.number ps i e in
    record {
      table = IsTable-change ps free i room next pc fc n t.table e;
      past = t.past;
      all = λ fresh. all-change ps i g n l at (ap (λ (k : Entry). k.number) (inside g h (sym at ∙ there)) ∙ same) node (t.all fresh);
      lists = omega (arith, t.lists, size);
    }

-- ---- for answers

-- a table in other words
pub moved_whole : (ps ps' : List (Option Entry)) (fs fs' : List ℕ) (room room' next pc pc' fc fc' : ℕ) (l : ListState) → ps' ≡ ps → fs' ≡ fs → room' ≡ room
    → pc' ≡ pc → fc' ≡ fc → IsWhole ps fs room next pc fc l → IsWhole ps' fs' room' next pc' fc' l
moved_whole ps ps' fs fs' room room' next pc pc' fc fc' l a b r c d t =
    subst (λ x. IsWhole ps' fs' room' next pc' x l) (sym d)
    (subst (λ x. IsWhole ps' fs' room' next x fc l) (sym c)
    (subst (λ x. IsWhole ps' fs' x next pc fc l) (sym r)
    (subst (λ x. IsWhole ps' x room next pc fc l) (sym b)
    (subst (λ x. IsWhole x fs room next pc fc l) (sym a) t))))

-- ---- memory

pub IsWhole-new : (room pc fc : ℕ) (l : ListState) → room ≤ pc → room ≤ fc → l ≡ no_list room → IsWhole [] [] room 0 pc fc l
IsWhole-new room pc fc l places free listed =
    let many : l.room ≡ room = ap (λ (k : ListState). k.room) listed in
    let time : l.next ≡ 0 = ap (λ (k : ListState). k.next) listed in
    record {
      table = record {
        apart = tt;
        below = λ k past. refl;
        listed = λ p. refl;
        counted = refl;
        promised = omega arith;
        fits = omega (arith, places);
        returns = omega (arith, free);
      };
      past = omega (arith, time);
      all = λ same p h at on. absurd (none-some (Some h) at);
      lists = omega (arith, many);
    }

-- more memory, and room for more
pub IsWhole-reserve : (ps : List (Option Entry)) (free : List ℕ) (room room' next pc fc pc' fc' : ℕ) (l l' : ListState) → IsWhole ps free room next pc fc l
    → room ≤ room' → length ps + room' ≤ pc' + length free → pc' ≤ fc' → pc' ≤ l'.room → l' ≡ record l { room = l'.room }
    → IsWhole ps free room' next pc' fc' l'
IsWhole-reserve ps free room room' next pc fc pc' fc' l l' t more places returns lists same =
    let promised = t.table.promised in
    record {
      table = record {
        apart = t.table.apart;
        below = t.table.below;
        listed = t.table.listed;
        counted = t.table.counted;
        promised = omega (arith, promised, more);
        fits = places;
        returns = omega (arith, places, returns);
      };
      past = subst (λ (k : ListState). k.next ≤ next) (sym same) t.past;
      all = λ fresh. subst (λ (k : ListState). AllListed ps k) (sym same) (t.all (ap (λ (k : ListState). k.next) (sym same) ∙ fresh));
      lists = omega (arith, places, lists);
    }
