-- How a table counts loans and pending responses by remainders of ports' numbers.
use Rattle.std.specs.Prelude.{ℕ, ◌≡◌, ◌<◌, ◌+◌, ◌*◌, ◌%◌, ◌==◌, Bool, List, Option, length, slice_index_or, count_by}
use Rattle.iox_model.specs.declared.kind.Kind.{Kind}
use Rattle.iox_handles.specs.declared.entry.Entry.{Entry}
use Rattle.iox_handles.specs.Places.{passes}
use Rattle.iox_handles.specs.Tables.{group_of}

-- where handles of that port and kind are counted: those of other kinds have places behind all that
-- are counted
abbrev pub tally_place : ℕ → Kind → ℕ
tally_place port kind = group_of kind * 64 + port % 64

-- whether the handle is counted there
abbrev pub is_counted_at : ℕ → Entry → Bool
is_counted_at i h = tally_place h.port h.kind == i

-- Each loan and pending response is counted in its place. It is only for proofs of this crate.
pub record IsTallied (counts : List ℕ) (ps : List (Option Entry)) : Type 0 where
  pub size : length counts ≡ 192
  pub each : (i : ℕ) → i < 192 → slice_index_or counts i 0 ≡ count_by (passes (is_counted_at i)) ps
