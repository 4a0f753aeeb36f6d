-- A table in which a received entry is put aside: the same slots are in use, and the same numbers.
use Rattle.std.specs.Prelude.{◌||◌, filter, map, not}
use Rattle.std.specs.List.{list_all}
use Rattle.std.proofs.Common.{◌≡◌, ℕ, Bool, true, false, if◌then◌else◌, ◌==◌, ◌&&◌, List, [], ◌∷◌, Some, refl, ap, sym, ◌∙◌, true≢false}
use Rattle.iox_model.specs.Handles.{is_own}
use Rattle.iox_laws.proofs.WeaveLaws.WholeLemmas.{some-is, split}
use Rattle.iox_laws.proofs.WeaveLedger.Truths.{both_true}
use Rattle.iox_wire_locals.specs.declared.seat.Seat.{Seat}
use Rattle.iox_wire_locals.specs.declared.table.Entry.{Entry}
use Rattle.iox_wire_locals.specs.Tables.{entry_at, with_entry}
use Rattle.iox_wire_laws.specs.WireKeeping.UsedSlots.{slots_held}

-- entries that the test leaves out may change
left_out : (test : Entry → Bool) (e q : Entry) → q.number ≡ e.number → test e ≡ false → test q ≡ false → (es : List Entry)
    → entry_at e.number es ≡ Some e → filter test (with_entry q es) ≡ filter test es
left_out test e q number old new [] there = refl
left_out test e q number old new (k ∷ ks) there =
    by_number (k.number == q.number) (k.number == e.number) (ap (λ i. k.number == i) number) there (left_out test e q number old new ks)
  where
    by_number : (a b : Bool) → a ≡ b → (if b then Some k else entry_at e.number ks) ≡ Some e
        → (entry_at e.number ks ≡ Some e → filter test (with_entry q ks) ≡ filter test ks)
        → filter test (if a then q ∷ ks else k ∷ with_entry q ks) ≡ filter test (k ∷ ks)
    by_number true true is first rest =
        rw new (sym (ap (λ b. if b then k ∷ filter test ks else filter test ks) (ap test (some-is k e first) ∙ old)))
    by_number false false is first rest = ap (λ fs. if test k then k ∷ fs else fs) (rest first)
    by_number true false is first rest = absurd (true≢false is)
    by_number false true is first rest = absurd (true≢false (sym is))

all_with : (test : Entry → Bool) (q : Entry) → test q ≡ true → (es : List Entry) → list_all test es ≡ true → list_all test (with_entry q es) ≡ true
all_with test q new [] all = all
all_with test q new (k ∷ ks) all = by_number (k.number == q.number) (split (test k) (list_all test ks) all) (all_with test q new ks)
  where
    by_number : (a : Bool) → (test k ≡ true) × (list_all test ks ≡ true) → (list_all test ks ≡ true → list_all test (with_entry q ks) ≡ true)
        → list_all test (if a then q ∷ ks else k ∷ with_entry q ks) ≡ true
    by_number true parts rest = both_true (test q) (list_all test ks) new parts.1
    by_number false parts rest = both_true (test k) (list_all test (with_entry q ks)) parts.0 (rest parts.1)

module _ (x : Seat) (e q : Entry) (number : q.number ≡ e.number) (old : is_own e.kind ≡ false) (new : is_own q.kind ≡ false)
    (there : entry_at e.number x.table ≡ Some e) where
  abbrev y : Seat
  y = record x { table = with_entry q x.table }

  -- what is received is no slot of its port
  pub held_same : (port : ℕ) → slots_held (record x { table = with_entry q x.table }) port ≡ slots_held x port
  held_same port =
      ap (map (λ (k : Entry). k.slot))
      (left_out (λ k. is_own k.kind && (k.port == port)) e q number (ap (λ b. b && (e.port == port)) old) (ap (λ b. b && (q.port == port)) new) x.table there)

  pub mine_still : list_all (λ k. not (is_own k.kind) || (k.sender == k.port)) x.table ≡ true
      → list_all (λ k. not (is_own k.kind) || (k.sender == k.port)) (with_entry q x.table) ≡ true
  mine_still all =
      all_with (λ k. not (is_own k.kind) || (k.sender == k.port)) q (ap (λ b. not b || (q.sender == q.port)) new) x.table all
