-- Values of ports and handles in the hands of callers: loans that are filled, and releases.
use Rattle.std.specs.Prelude.{◌≡◌, ℕ, ◌+◌, ◌*◌, ◌≤◌, Bool, true, false, ◌&&◌, ◌||◌, if◌then◌else◌, ◌==◌, List, [], length, Some, IsTrue}
use Rattle.std.specs.Option.{option_map_or}
use Rattle.iox_model.specs.declared.kind.Kind.{Kind}
use Rattle.iox_model.specs.declared.call.Call.TheVariants.{Release}
use Rattle.iox_model.specs.declared.reply.Reply.TheVariants.{Done}
use Rattle.iox_model.specs.Doings.{Fills}
use Rattle.iox_model.specs.States.{Handle, Fixed, State}
use Rattle.iox_model.specs.Handles.{same_kind, is_request_loan, is_response_loan, filled_kind, handle_at, kind_of, node_of, subject}
use Rattle.iox_model.specs.WholeCalls.{shape_of_loan, is_uninit, IsWholeCall}
use Rattle.iox_model.specs.Ends.{settled}

-- whether a value of the old kind may still be one of the new kind: the same, or a loan that is
-- filled by now
abbrev pub is_still : Kind → Kind → Bool
is_still old new = same_kind new old || (is_uninit old && same_kind new (filled_kind old))

-- ---- loans that are filled

-- What the holder of a loan writes: its kind then, the user header, the payload's words so far, and
-- how many elements they are.
pub record Filling : Type 0 where
  pub kind : Kind
  pub user : List ℕ
  pub payload : List ℕ
  pub count : ℕ

-- the handle with what was filled in
abbrev pub filled_as : Handle → Filling → Handle
filled_as h x = record h {
  kind = x.kind;
  message = record (h.message) { user = x.user; payload = x.payload };
  filled = x.count;
}

-- how many elements may be filled: in an unfilled loan at most as many as were loaned, in any other
-- exactly as many
abbrev pub CountMayBe : (uninit : Bool) → (elements count : ℕ) → Type 0
CountMayBe true elements count = count ≤ elements
CountMayBe false elements count = count ≡ elements

-- What the holder of a loan may write into it.
pub record MayFill (f : Fixed) (h : Handle) (x : Filling) : Type 0 where
  pub loan : IsTrue (is_request_loan h.kind || is_response_loan h.kind)
  pub kind : IsTrue (is_still h.kind x.kind)
  pub user : length x.user ≡ length (shape_of_loan f h).user
  pub payload : length x.payload ≡ x.count * (shape_of_loan f h).width
  pub count : CountMayBe (is_uninit x.kind) h.message.elements x.count

-- The loan of that number is filled, with no moment and with no other change.
abbrev pub IsFilling : State → ℕ → ℕ → Filling → State → Type 0
IsFilling s node number x s' =
    (h : Handle) × (handle_at s.fixed node number ≡ Some h) × MayFill s.fixed h x
    × (s' ≡ settled s node [] (Fills (filled_as h x)))

-- ---- releases

-- whether the hub still has what the value stands for: not released, and if it is a loan not sent,
-- though a command may have filled it
abbrev pub still_has : Fixed → ℕ → ℕ → Kind → Bool
still_has f node n kind =
    option_map_or (λ x. (node_of x == node) && is_still kind (kind_of x)) (subject f node n) false

-- a value is released by a release call, or nothing is left to release
abbrev pub IsReleaseWhere : Bool → State → ℕ → ℕ → State → Type 0
IsReleaseWhere true s node number s' = IsWholeCall s node (Release number) Done s'
IsReleaseWhere false s node number s' = s' ≡ s

-- A value may be released at any time. If a command already released or sent what it stood for,
-- nothing changes. A loan that a command wrote is still the loan of its value.
abbrev pub IsRelease : State → ℕ → ℕ → Kind → State → Type 0
IsRelease s node number kind s' =
    IsReleaseWhere (still_has s.fixed node number kind) s node number s'
