-- A handle changes its kind, and is found and counted as before.
use Rattle.std.specs.Prelude.{refl, ◌≡◌, ℕ, ◌*◌, ◌+◌, ◌%◌, true, List, Option, Some, slice_get, slice_set}
use Rattle.std.proofs.Common.{sym, ap, subst, ◌∙◌}
use Rattle.iox_model.specs.declared.kind.Kind.{Kind}
use Rattle.iox_handles.specs.declared.entry.Entry.{Entry}
use Rattle.iox_handles.specs.NodeLists.{IsWhole, ListState}
use Rattle.iox_handles.specs.Places.{IsTable, handles_in, has_at}
use Rattle.iox_handles.specs.Tables.{group_of, of_kind, with_handle}
use Rattle.iox_handles.specs.Tallies.{IsTallied}
use Rattle.iox_handles.proofs.PlaceLemmas.{has_there, inside}
use Rattle.iox_handles.proofs.TableLemmas.{handles-change}
use Rattle.iox_handles.proofs.TallyLemmas.{tallied-alike}
use Rattle.iox_handles.proofs.WholeLemmas.{IsWhole-change_of}

-- the handle in the place of a number has that number
its_number : (k : ℕ) (ps : List (Option Entry)) (i : ℕ) (g : Entry) → has_at k ps i ≡ true → slice_get ps i ≡ Some (Some g)
    → has_at g.number ps i ≡ true
its_number k ps i g e at =
    let (h, there, same) = has_there k ps i e in
    subst (λ m. has_at m ps i ≡ true) (sym (ap (λ (n : Entry). n.number) (inside g h (sym at ∙ there)) ∙ same)) e

pub whole-kind : (ps : List (Option Entry)) (free : List ℕ) (k i room next pc fc : ℕ) (l : ListState) (g : Entry) (kind : Kind)
    → IsWhole ps free room next pc fc l → has_at k ps i ≡ true → slice_get ps i ≡ Some (Some g)
    → IsWhole (slice_set ps i (Some (of_kind kind g))) free room next pc fc l
whole-kind ps free k i room next pc fc l g kind t e at =
    IsWhole-change_of ps free i room next pc fc l (of_kind kind g) g t (its_number k ps i g e at) at refl

pub handles-kind : (ps : List (Option Entry)) (free : List ℕ) (k i room next pc fc : ℕ) (g : Entry) (kind : Kind)
    → IsTable ps free room next pc fc → has_at k ps i ≡ true → slice_get ps i ≡ Some (Some g)
    → handles_in (slice_set ps i (Some (of_kind kind g))) next ≡ with_handle (of_kind kind g) (handles_in ps next)
handles-kind ps free k i room next pc fc g kind t e at =
    handles-change ps free i room next pc fc (of_kind kind g) t (its_number k ps i g e at)

pub tallied-kind : (counts : List ℕ) (ps : List (Option Entry)) (i : ℕ) (g : Entry) (kind : Kind) → IsTallied counts ps
    → slice_get ps i ≡ Some (Some g) → group_of kind ≡ group_of g.kind
    → IsTallied counts (slice_set ps i (Some (of_kind kind g)))
tallied-kind counts ps i g kind t at same =
    tallied-alike counts ps i g (of_kind kind g) t at (ap (λ m. m * 64 + g.port % 64) same)
