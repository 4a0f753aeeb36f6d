-- Writes, and loans that are filled: the words of one slot become others.
use Rattle.std.specs.Prelude.{◌≡◌, ℕ, Bool, true, false, ◌==◌, List, length, filter}
use Rattle.std.specs.Option.{option_map_or}
use Rattle.iox_model.specs.declared.call.Call.TheVariants.{Write}
use Rattle.iox_model.specs.declared.reply.Refusal.TheVariants.{WrongLength}
use Rattle.iox_model.specs.declared.reply.Reply.TheVariants.{Done, Refused}
use Rattle.iox_model.specs.Commands.{Payload}
use Rattle.iox_model.specs.Counts.{changed, with_fixed}
use Rattle.iox_model.specs.Handles.{filled_kind}
use Rattle.iox_model.specs.Loans.{Choice}
use Rattle.iox_model.specs.Names.{suits}
use Rattle.iox_model.specs.Values.{Filling, IsFilling, MayFill}
use Rattle.iox_laws.specs.CallFunctions.Calls.{call_by}
use Rattle.iox_tables.specs.HubStates.Tables.{HandleState, HubTables, slot_at}
use Rattle.iox_tables.specs.HubStates.States.{Given, fixed_of, state_shown}
use Rattle.iox_tables.specs.HubStates.Ends.{with_changed}
use Rattle.iox_tables.specs.HubStates.Releases.{handle_shown}
use Rattle.iox_tables.specs.HubStates.Wirings.{IsHandle}
use Rattle.iox_tables.specs.HubLoans.Slots.{SlotContents, IsOnNoLane, is_place, with_contents}

-- ---- the words of one handle

-- Only one handle has the message in that slot: no lane has it, and no other handle.
pub record IsOfOneHandle (t : HubTables) (pool k : ℕ) : Type 0 where
  pub lanes : IsOnNoLane t pool k
  pub handles : length (filter (λ h. is_place pool k h.pool h.slot) t.handles) ≡ 1

-- how many elements the handle's message has
abbrev pub elements_of : HubTables → HandleState → ℕ
elements_of t h = (slot_at t.pools h.pool h.slot).elements

-- Where only one handle has a message, its words may become others, and its kind too: the machine
-- then changes that handle, and nothing else.
abbrev pub WordsMayChange : Type 0
WordsMayChange =
    (x : Given) (t : HubTables) (node n : ℕ) (old new : HandleState) (w : SlotContents)
    → IsHandle t node n old → (new.node ≡ old.node) × (new.number ≡ old.number)
    → IsOfOneHandle t old.pool old.slot
    → with_fixed (state_shown x t)
    (changed (fixed_of x t) (handle_shown (with_contents x old.pool old.slot w) t new))
    ≡ state_shown (with_contents x old.pool old.slot w) (with_changed t new)

-- ---- writes

-- the payload has as many whole elements as the handle's message
abbrev pub is_as_long_as : HubTables → HandleState → Payload → Bool
is_as_long_as t h p = option_map_or (λ k. k == elements_of t h) p.elements false

-- the same user header, that payload, and all elements filled
abbrev pub written_contents : Given → HubTables → HandleState → List ℕ → SlotContents
written_contents x t h words =
    record { user = x.user h.pool h.slot; payload = words; filled = elements_of t h }

-- A write is refused where the payload is not as long as the loan.
abbrev pub WritesAreRefused : Type 0
WritesAreRefused =
    (x : Given) (t : HubTables) (node n : ℕ) (h : HandleState) (p : Payload) (c : Choice)
    (payload : List ℕ) → IsHandle t node n h → suits false (Write n p) h.kind ≡ true
    → is_as_long_as t h p ≡ false
    → call_by (state_shown x t) node (Write n p) c payload
    ≡ (Refused WrongLength, state_shown x t)

-- Any other write fills the loan with the payload.
abbrev pub WritesAreMade : Type 0
WritesAreMade =
    (x : Given) (t : HubTables) (node n : ℕ) (h : HandleState) (p : Payload) (c : Choice)
    (payload : List ℕ) → IsHandle t node n h → suits false (Write n p) h.kind ≡ true
    → is_as_long_as t h p ≡ true → IsOfOneHandle t h.pool h.slot
    → call_by (state_shown x t) node (Write n p) c payload
    ≡ (
      Done,
      state_shown (with_contents x h.pool h.slot (written_contents x t h p.words))
          (with_changed t (record h { kind = filled_kind h.kind })),
    )

-- ---- loans in the hands of callers

-- what the holder of a loan wrote
abbrev pub contents_of : Filling → SlotContents
contents_of z = record { user = z.user; payload = z.payload; filled = z.count }

-- What the holder of a loan writes is what the machine may fill in.
abbrev pub FillingsAreShown : Type 0
FillingsAreShown =
    (x : Given) (t : HubTables) (node n : ℕ) (h : HandleState) (z : Filling)
    → IsHandle t node n h → MayFill (fixed_of x t) (handle_shown x t h) z
    → IsOfOneHandle t h.pool h.slot
    → IsFilling (state_shown x t) node n z
    (state_shown (with_contents x h.pool h.slot (contents_of z))
    (with_changed t (record h { kind = z.kind })))
