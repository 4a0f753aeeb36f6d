-- A table in memory: each call keeps it, and what it then shows to callers.
use Rattle.std.specs.Prelude.{◌≡◌, ℕ, ◌+◌, ◌-◌, ◌<◌, ◌≤◌, ◌^◌, ◌==◌, List, [], ◌∷◌, ◌++◌, length, find, Some, None, slice_get, slice_set, slice_index_or, refl}
use Rattle.std.proofs.Common.{sym, ap, ap₂, subst, true, ◌∙◌, arith, add-one, append-nil, length-append}
use Rattle.std.proofs.lemmas.List.{length-map, length-set}
use Rattle.std.proofs.lemmas.Option.{slice_get_within}
use Rattle.iox_model.specs.declared.kind.Kind.{Kind}
use Rattle.iox_handles.specs.declared.entry.Entry.{Entry}
use Rattle.iox_handles.specs.Memory.{IsInMemory}
use Rattle.iox_handles.specs.NodeLists.{IsWhole, ListState, no_list}
use Rattle.iox_handles.specs.Places.{handle_in, handles_in, handles_there, has_at, in_places, nobody, option_list, room_in}
use Rattle.iox_handles.specs.Tables.{Contents, added, changed, group_of, handle_at, has_that, new_contents, of_kind, removed}
use Rattle.iox_handles.specs.Tallies.{IsTallied, tally_place}
use Rattle.iox_handles.proofs.KindLemmas.{handles-kind, tallied-kind, whole-kind}
use Rattle.iox_handles.proofs.NumberLemmas.{finds_last, finds_none}
use Rattle.iox_handles.proofs.PlaceLemmas.{of_place, own_numbers}
use Rattle.iox_handles.proofs.TableLemmas.{contents, found_is, handles-behind, handles-change, handles-put, handles-take, listed_last, spare}
use Rattle.iox_handles.proofs.TallyLemmas.{few_places, is_counted, may_count, may_count_changed, tallied-behind, tallied-change, tallied-put, tallied-take}
use Rattle.iox_handles.proofs.VacantLemmas.{is_somebody, is_vacant, low_is_somebody, number_there, push_in, read_there, read_twice, set_in, somebody_there}
use Rattle.iox_handles.proofs.WholeLemmas.{IsWhole-behind, IsWhole-change, IsWhole-change_of, IsWhole-new, IsWhole-put, IsWhole-reserve, IsWhole-take, moved_whole}

-- what callers see
abbrev pub shown : ℕ → ℕ → List Entry → List ℕ → Contents
shown most next ps free = contents (room_in most ps free) next (handles_in (handles_there ps) next)

-- how many are counted where the handle is
abbrev at_place : List ℕ → Entry → ℕ
at_place counts h = slice_index_or counts (tally_place h.port h.kind) 0

-- a handle comes, or goes, where it is counted
abbrev pub IsMore : List ℕ → List ℕ → Entry → Type 0
IsMore counts more h = more ≡ slice_set counts (tally_place h.port h.kind) (at_place counts h + 1)

abbrev pub IsLess : List ℕ → List ℕ → Entry → Type 0
IsLess counts less h = less ≡ slice_set counts (tally_place h.port h.kind) (at_place counts h - 1)

-- ---- a handle comes into a vacant place

module _ (ps : List Entry) (free fs : List ℕ) (i most next pc fc : ℕ) (l : ListState) (counts : List ℕ)
    (t : IsInMemory ps free most next pc fc l counts) (from : free ≡ fs ++ i ∷ []) where
  whole_from : IsWhole (handles_there ps) (fs ++ i ∷ []) (room_in most ps free) next pc fc l
  whole_from = subst (λ xs. IsWhole (handles_there ps) xs (room_in most ps free) next pc fc l) from t.whole

  vacant_there : slice_get (handles_there ps) i ≡ Some None
  vacant_there = listed_last (handles_there ps) fs i (room_in most ps free) next pc fc whole_from.table

  pub vacant_within : i < length ps
  vacant_within =
      let low = slice_get_within (handles_there ps) i None vacant_there in let size = length-map ps handle_in in omega (arith, low, size)

  pub memory-put : (fc' : ℕ) (more : List ℕ) (h : Entry) → fc' ≡ fc → 0 < room_in most ps free → next ≤ h.number → h.number + 1 < 2 ^ 64
      → IsMore counts more h → IsInMemory (slice_set ps i h) fs most (h.number + 1) pc fc' l more
  memory-put fc' more h cap some newer low counted =
      let there : handles_there (slice_set ps i h) ≡ slice_set (handles_there ps) i (Some h) = set_in ps i h (Some h) (low_is_somebody h low) in
      let size : length (slice_set ps i h) ≡ length ps = length-set ps i h in
      let left : length free ≡ length fs + 1 = ap length from ∙ length-append fs (i ∷ []) in
      let fewer : room_in most (slice_set ps i h) fs ≡ room_in most ps free - 1 = omega (arith, size, left, some) in
      record {
        whole = moved_whole (slice_set (handles_there ps) i (Some h)) (handles_there (slice_set ps i h)) fs fs (room_in most ps free - 1) (room_in most (slice_set ps i h) fs)
            (h.number + 1) pc pc fc fc' l there refl fewer refl cap
            (IsWhole-put (handles_there ps) fs i (room_in most ps free) next pc fc l h whole_from some newer);
        few = subst (λ n. n ≤ most) (sym size) t.few;
        tallied = subst (λ qs. IsTallied more qs) (sym there)
            (subst (λ cs. IsTallied cs (slice_set (handles_there ps) i (Some h))) (sym counted) (tallied-put counts (handles_there ps) i h t.tallied vacant_there));
      }

  pub shown-put : (h : Entry) → 0 < room_in most ps free → next ≤ h.number → h.number + 1 < 2 ^ 64
      → shown most (h.number + 1) (slice_set ps i h) fs ≡ added (shown most next ps free) h
  shown-put h some newer low =
      let size : length (slice_set ps i h) ≡ length ps = length-set ps i h in
      let left : length free ≡ length fs + 1 = ap length from ∙ length-append fs (i ∷ []) in
      let fewer : room_in most (slice_set ps i h) fs ≡ room_in most ps free - 1 = omega (arith, size, left, some) in
      ap₂ (λ (room : ℕ) (hs : List Entry). contents room (h.number + 1) hs) fewer
      (ap (λ qs. handles_in qs (h.number + 1)) (set_in ps i h (Some h) (low_is_somebody h low))
      ∙ handles-put (handles_there ps) fs i (room_in most ps free) next pc fc h whole_from.table newer)

-- a handle that came last is found
pub last_found : (most next : ℕ) (ps : List Entry) (free : List ℕ) (h : Entry) → next ≤ h.number
    → handle_at (added (shown most next ps free) h) h.number ≡ Some h
last_found most next ps free h newer = finds_last (in_places (handles_there ps)) next h (own_numbers (handles_there ps)) newer

-- ---- a handle comes into a new place

module _ (ps qs : List Entry) (free fs : List ℕ) (most next pc fc : ℕ) (l : ListState) (counts : List ℕ) (h : Entry)
    (t : IsInMemory ps free most next pc fc l counts) (none : free ≡ []) (left : fs ≡ []) (grown : qs ≡ ps ++ h ∷ [])
    (some : 0 < room_in most ps free) (newer : next ≤ h.number) (low : h.number + 1 < 2 ^ 64) where
  whole_none : IsWhole (handles_there ps) [] (room_in most ps free) next pc fc l
  whole_none = subst (λ xs. IsWhole (handles_there ps) xs (room_in most ps free) next pc fc l) none t.whole

  all_there : handles_there qs ≡ handles_there ps ++ Some h ∷ []
  all_there = push_in ps qs h grown (low_is_somebody h low)

  size : length qs ≡ length ps + 1
  size = ap length grown ∙ length-append ps (h ∷ [])

  fewer : room_in most qs fs ≡ room_in most ps free - 1
  fewer = let none_free = ap length none in let none_left = ap length left in omega (arith, size, none_free, none_left)

  pub memory-behind : (pc' fc' : ℕ) (more : List ℕ) → pc' ≡ pc → fc' ≡ fc → IsMore counts more h → IsInMemory qs fs most (h.number + 1) pc' fc' l more
  memory-behind pc' fc' more cap cap' counted = record {
    whole = moved_whole (handles_there ps ++ Some h ∷ []) (handles_there qs) [] fs (room_in most ps free - 1) (room_in most qs fs)
        (h.number + 1) pc pc' fc fc' l all_there left fewer cap cap'
        (IsWhole-behind (handles_there ps) (room_in most ps free) next pc fc l h whole_none some newer);
    few = let none_free = ap length none in omega (arith, size, none_free, some);
    tallied = subst (λ xs. IsTallied more xs) (sym all_there)
        (subst (λ cs. IsTallied cs (handles_there ps ++ Some h ∷ [])) (sym counted) (tallied-behind counts (handles_there ps) h t.tallied));
  }

  pub shown-behind : shown most (h.number + 1) qs fs ≡ added (shown most next ps free) h
  shown-behind =
      ap₂ (λ (room : ℕ) (hs : List Entry). contents room (h.number + 1) hs) fewer
      (ap (λ xs. handles_in xs (h.number + 1)) all_there
      ∙ handles-behind (handles_there ps) (room_in most ps free) next pc fc h whole_none.table newer)

-- ---- of the handle that is found in a place

module _ (ps : List Entry) (free : List ℕ) (most next pc fc : ℕ) (l : ListState) (counts : List ℕ) (t : IsInMemory ps free most next pc fc l counts)
    (k i : ℕ) (h : Entry) (e : has_at k (handles_there ps) i ≡ true) (is : h ≡ slice_index_or ps i h) where
  it_is : slice_get (handles_there ps) i ≡ Some (Some h)
  it_is = read_there k ps i h e is

  pub it_is_counted : group_of h.kind < 3 → 0 < at_place counts h
  it_is_counted few = is_counted counts (handles_there ps) i h t.tallied it_is few

  pub spare_place : length free < fc
  spare_place = spare (handles_there ps) free k i (room_in most ps free) next pc fc t.whole.table e

  -- it goes

  module _ (n : Entry) (gone : n.number ≡ nobody) (gs : List ℕ) (listed : gs ≡ free ++ i ∷ []) where
    went : handles_there (slice_set ps i n) ≡ slice_set (handles_there ps) i None
    went = set_in ps i n None (is_vacant n gone)

    more_room : room_in most (slice_set ps i n) gs ≡ room_in most ps free + 1
    more_room =
        let size = length-set ps i n in let left = ap length listed ∙ length-append free (i ∷ []) in
        omega (arith, size, left)

    pub memory-take : (fc' : ℕ) (less : List ℕ) → fc' ≡ fc → IsLess counts less h → IsInMemory (slice_set ps i n) gs most next pc fc' l less
    memory-take fc' less cap counted = record {
      whole = moved_whole (slice_set (handles_there ps) i None) (handles_there (slice_set ps i n)) (free ++ i ∷ []) gs (room_in most ps free + 1)
          (room_in most (slice_set ps i n) gs) next pc pc fc fc' l went listed more_room refl cap
          (IsWhole-take (handles_there ps) free k i (room_in most ps free) next pc fc l t.whole e);
      few = subst (λ m. m ≤ most) (sym (length-set ps i n)) t.few;
      tallied = subst (λ qs. IsTallied less qs) (sym went)
          (subst (λ cs. IsTallied cs (slice_set (handles_there ps) i None)) (sym counted) (tallied-take counts (handles_there ps) i h t.tallied it_is));
    }

    pub shown-take : shown most next (slice_set ps i n) gs ≡ removed (shown most next ps free) k
    shown-take =
        ap₂ (λ (room : ℕ) (hs : List Entry). contents room next hs) more_room
        (ap (λ qs. handles_in qs next) went ∙ handles-take (handles_there ps) free k i (room_in most ps free) next pc fc t.whole.table e)

    pub gone-take : find (has_that k) (handles_in (handles_there (slice_set ps i n)) next) ≡ None
    gone-take =
        ap (λ (x : Contents). find (has_that k) x.handles) shown-take ∙ finds_none k (handles_in (handles_there ps) next)

  -- it changes

  module _ (n : Entry) (same : n.number ≡ k) where
    at_it : has_at n.number (handles_there ps) i ≡ true
    at_it = subst (λ m. has_at m (handles_there ps) i ≡ true) (sym same) e

    changed_there : handles_there (slice_set ps i n) ≡ slice_set (handles_there ps) i (Some n)
    changed_there = set_in ps i n (Some n) (is_somebody n (somebody_there n.number ps i at_it))

    as_many : room_in most (slice_set ps i n) free ≡ room_in most ps free
    as_many = ap (λ m. most - m + length free) (length-set ps i n)

    tallied_then : (less more : List ℕ) → IsLess counts less h → IsMore less more n → IsTallied more (handles_there (slice_set ps i n))
    tallied_then less more first second =
        subst (λ qs. IsTallied more qs) (sym changed_there) (tallied-change counts less more (handles_there ps) i h n t.tallied it_is first second)

    whole_then : (m : ListState) → IsWhole (slice_set (handles_there ps) i (Some n)) free (room_in most ps free) next pc fc m
        → IsWhole (handles_there (slice_set ps i n)) free (room_in most (slice_set ps i n) free) next pc fc m
    whole_then m w =
        moved_whole (slice_set (handles_there ps) i (Some n)) (handles_there (slice_set ps i n)) free free (room_in most ps free)
        (room_in most (slice_set ps i n) free) next pc pc fc fc m changed_there refl as_many refl refl w

    -- a handle of another node may come so, and the list is forgotten
    pub memory-change : (m : ListState) (less more : List ℕ) → m ≡ record l { next = 0 } → IsLess counts less h → IsMore less more n
        → IsInMemory (slice_set ps i n) free most next pc fc m more
    memory-change m less more forgotten first second = record {
      whole = whole_then m
          (subst (λ x. IsWhole (slice_set (handles_there ps) i (Some n)) free (room_in most ps free) next pc fc x) (sym forgotten)
          (IsWhole-change (handles_there ps) free i (room_in most ps free) next pc fc l n t.whole at_it));
      few = subst (λ x. x ≤ most) (sym (length-set ps i n)) t.few;
      tallied = tallied_then less more first second;
    }

    pub memory-change_of : (less more : List ℕ) → h.node ≡ n.node → IsLess counts less h → IsMore less more n
        → IsInMemory (slice_set ps i n) free most next pc fc l more
    memory-change_of less more node first second = record {
      whole = whole_then l (IsWhole-change_of (handles_there ps) free i (room_in most ps free) next pc fc l n h t.whole at_it it_is node);
      few = subst (λ x. x ≤ most) (sym (length-set ps i n)) t.few;
      tallied = tallied_then less more first second;
    }

    pub shown-change : shown most next (slice_set ps i n) free ≡ changed (shown most next ps free) n
    shown-change =
        ap₂ (λ (room : ℕ) (hs : List Entry). contents room next hs) as_many
        (ap (λ qs. handles_in qs next) changed_there
        ∙ handles-change (handles_there ps) free i (room_in most ps free) next pc fc n t.whole.table at_it)

  -- its kind changes

  module _ (r : Entry) (again : r ≡ slice_index_or ps i r) (kind : Kind) where
    one : r ≡ h
    one = read_twice k ps i r h e again is

    kind_there : handles_there (slice_set ps i (of_kind kind r)) ≡ slice_set (handles_there ps) i (Some (of_kind kind h))
    kind_there =
        ap (λ x. handles_there (slice_set ps i (of_kind kind x))) one
        ∙ set_in ps i (of_kind kind h) (Some (of_kind kind h))
        (is_somebody (of_kind kind h) (ap (λ m. m == nobody) (number_there k ps i h e is) ∙ somebody_there k ps i e))

    as_much : room_in most (slice_set ps i (of_kind kind r)) free ≡ room_in most ps free
    as_much = ap (λ m. most - m + length free) (length-set ps i (of_kind kind r))

    pub memory-kind : group_of kind ≡ group_of h.kind → IsInMemory (slice_set ps i (of_kind kind r)) free most next pc fc l counts
    memory-kind group = record {
      whole = moved_whole (slice_set (handles_there ps) i (Some (of_kind kind h))) (handles_there (slice_set ps i (of_kind kind r))) free free (room_in most ps free)
          (room_in most (slice_set ps i (of_kind kind r)) free) next pc pc fc fc l kind_there refl as_much refl refl
          (whole-kind (handles_there ps) free k i (room_in most ps free) next pc fc l h kind t.whole e it_is);
      few = subst (λ x. x ≤ most) (sym (length-set ps i (of_kind kind r))) t.few;
      tallied = subst (λ qs. IsTallied counts qs) (sym kind_there) (tallied-kind counts (handles_there ps) i h kind t.tallied it_is group);
    }

    pub shown-kind : shown most next (slice_set ps i (of_kind kind r)) free ≡ changed (shown most next ps free) (of_kind kind h)
    shown-kind =
        ap₂ (λ (room : ℕ) (hs : List Entry). contents room next hs) as_much
        (ap (λ qs. handles_in qs next) kind_there
        ∙ handles-kind (handles_there ps) free k i (room_in most ps free) next pc fc h kind t.whole.table e it_is)

-- ---- memory for counts

few_in_memory : (ps : List Entry) (free : List ℕ) (most next pc fc : ℕ) (l : ListState) (counts : List ℕ) → IsInMemory ps free most next pc fc l counts
    → length (handles_there ps) ≤ pc
few_in_memory ps free most next pc fc l counts t = few_places (handles_there ps) free (room_in most ps free) next pc fc t.whole.table

pub may_come : (ps : List Entry) (free : List ℕ) (most next pc fc : ℕ) (l : ListState) (counts : List ℕ) (port : ℕ) (kind : Kind)
    → IsInMemory ps free most next pc fc l counts → pc < 2 ^ 63 → slice_index_or counts (tally_place port kind) 0 + 1 < 2 ^ 64
may_come ps free most next pc fc l counts port kind t small =
    may_count counts (handles_there ps) pc port kind t.tallied (few_in_memory ps free most next pc fc l counts t) small

pub may_change : (ps : List Entry) (free : List ℕ) (most next pc fc : ℕ) (l : ListState) (counts less : List ℕ) (k i : ℕ) (h : Entry) (port : ℕ) (kind : Kind)
    → IsInMemory ps free most next pc fc l counts → has_at k (handles_there ps) i ≡ true → h ≡ slice_index_or ps i h → IsLess counts less h → pc < 2 ^ 63
    → slice_index_or less (tally_place port kind) 0 + 1 < 2 ^ 64
may_change ps free most next pc fc l counts less k i h port kind t e is first small =
    may_count_changed counts less (handles_there ps) i pc h port kind t.tallied (read_there k ps i h e is) first
    (few_in_memory ps free most next pc fc l counts t) small

-- ---- searches

-- what is read where a number is found is what a search of the list finds
pub read_found : (ps : List Entry) (free : List ℕ) (most next pc fc : ℕ) (l : ListState) (counts : List ℕ) (k i : ℕ) (h : Entry)
    → IsInMemory ps free most next pc fc l counts → has_at k (handles_there ps) i ≡ true → h ≡ slice_index_or ps i h
    → Some h ≡ find (has_that k) (handles_in (handles_there ps) next)
read_found ps free most next pc fc l counts k i h t e is =
    sym (found_is (handles_there ps) free (room_in most ps free) next pc fc t.whole.table k
    ∙ ap (in_places (handles_there ps)) (sym (number_there k ps i h e is))
    ∙ of_place (handles_there ps) i h (read_there k ps i h e is) t.whole.table.apart)

pub missing_is : (ps : List Entry) (free : List ℕ) (most next pc fc : ℕ) (l : ListState) (counts : List ℕ) (k : ℕ)
    → IsInMemory ps free most next pc fc l counts → in_places (handles_there ps) k ≡ None → None ≡ find (has_that k) (handles_in (handles_there ps) next)
missing_is ps free most next pc fc l counts k t e = sym (found_is (handles_there ps) free (room_in most ps free) next pc fc t.whole.table k ∙ e)

-- ---- memory

pub memory-new : (ps : List Entry) (free : List ℕ) (room pc fc : ℕ) (l : ListState) (counts : List ℕ) → ps ≡ [] → free ≡ [] → room ≤ pc → room ≤ fc → l ≡ no_list room
    → IsTallied counts [] → IsInMemory ps free room 0 pc fc l counts
memory-new ps free room pc fc l counts none vacant places returns listed tallied =
    let all : room_in room [] [] ≡ room = omega arith in record {
      whole = moved_whole [] (handles_there ps) [] free room (room_in room ps free) 0 pc pc fc fc l (ap (λ xs. handles_there xs) none) vacant
          (ap₂ (λ (xs : List Entry) (ys : List ℕ). room_in room xs ys) none vacant ∙ all) refl refl (IsWhole-new room pc fc l places returns listed);
      few = let size = ap length none in omega (arith, size);
      tallied = subst (λ xs. IsTallied counts (handles_there xs)) (sym none) tallied;
    }

pub shown-new : (ps : List Entry) (free : List ℕ) (room : ℕ) → ps ≡ [] → free ≡ [] → shown room 0 ps free ≡ new_contents room
shown-new ps free room none vacant =
    let all : room_in room [] [] ≡ room = omega arith in
    ap₂ (λ (xs : List Entry) (ys : List ℕ). shown room 0 xs ys) none vacant ∙ ap (λ n. contents n 0 []) all

-- more memory, and more places
module _ (ps qs : List Entry) (free fs : List ℕ) (most next pc fc : ℕ) (l : ListState) (counts : List ℕ)
    (t : IsInMemory ps free most next pc fc l counts) (same : qs ≡ ps) (left : fs ≡ free) (more all : ℕ) (sum : all ≡ most + more) where
  more_room_then : room_in all qs fs ≡ room_in most ps free + more
  more_room_then =
      let few = t.few in let then_room : room_in all ps free ≡ room_in most ps free + more = omega (arith, few, sum) in
      ap₂ (λ (xs : List Entry) (ys : List ℕ). room_in all xs ys) same left ∙ then_room

  pub memory-reserve : (pc' fc' : ℕ) (m : ListState) → all ≤ pc' → pc' ≤ fc' → pc' ≤ m.room → m ≡ record l { room = m.room }
      → IsInMemory qs fs all next pc' fc' m counts
  memory-reserve pc' fc' m places returns lists kept =
      let size : length (handles_there ps) ≡ length ps = length-map ps handle_in in
      let few = t.few in
      record {
        whole = moved_whole (handles_there ps) (handles_there qs) free fs (room_in most ps free + more) (room_in all qs fs) next pc' pc' fc' fc' m
            (ap (λ xs. handles_there xs) same) left more_room_then refl refl
            (IsWhole-reserve (handles_there ps) free (room_in most ps free) (room_in most ps free + more) next pc fc pc' fc' l m t.whole
            (omega arith) (omega (arith, size, few, sum, places)) returns lists kept);
        few = subst (λ xs. length xs ≤ all) (sym same) (omega (arith, few, sum));
        tallied = subst (λ xs. IsTallied counts (handles_there xs)) (sym same) t.tallied;
      }

  pub shown-reserve : shown all next qs fs ≡ record (shown most next ps free) { room = room_in most ps free + more }
  shown-reserve = ap₂ (λ (room : ℕ) (xs : List Entry). contents room next (handles_in (handles_there xs) next)) more_room_then same

-- ---- a number is no handle's

pub memory-skip : (ps : List Entry) (free : List ℕ) (most next pc fc : ℕ) (l : ListState) (counts : List ℕ) → IsInMemory ps free most next pc fc l counts
    → IsInMemory ps free most (next + 1) pc fc l counts
memory-skip ps free most next pc fc l counts t =
    let past = t.whole.past in
    record {
      whole = record {
        table = record {
          apart = t.whole.table.apart;
          below = λ k high. t.whole.table.below k (omega (arith, high));
          listed = t.whole.table.listed;
          counted = t.whole.table.counted;
          promised = t.whole.table.promised;
          fits = t.whole.table.fits;
          returns = t.whole.table.returns;
        };
        past = omega (arith, past);
        all = λ same. absurd (omega (arith, same, past));
        lists = t.whole.lists;
      };
      few = t.few;
      tallied = t.tallied;
    }

pub shown-skip : (ps : List Entry) (free : List ℕ) (most next pc fc : ℕ) (l : ListState) (counts : List ℕ) → IsInMemory ps free most next pc fc l counts
    → shown most (next + 1) ps free ≡ record (shown most next ps free) { next = next + 1 }
shown-skip ps free most next pc fc l counts t =
    ap (λ hs. contents (room_in most ps free) (next + 1) hs)
    (ap (λ n. handles_in (handles_there ps) n) (add-one next)
    ∙ ap (λ o. handles_in (handles_there ps) next ++ option_list o) (t.whole.table.below next (omega arith))
    ∙ append-nil (handles_in (handles_there ps) next))
