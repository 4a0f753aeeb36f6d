-- Where the messages of handles stand.
use Rattle.std.specs.Prelude.{◌≡◌, ◌+◌, ◌*◌, ◌/◌, ◌<◌, ◌≤◌, ◌^◌, ℕ, Bool, true, false, if◌then◌else◌, IsSomeAnd}
use Rattle.iox_model.specs.declared.kind.Kind.{Kind}
use Rattle.iox_model.specs.declared.kind.Role.{Role}
use Rattle.iox_model.specs.Handles.{is_received, is_request_loan, is_response_loan}
use Rattle.iox_model.specs.Settings.{is_client}
use Rattle.iox_word_map.specs.WordMaps.{total_words}
use Rattle.iox_wire_stops.specs.WirePlan.{WirePlan}
use Rattle.iox_wire_stops.specs.Plans.{details_of, port_of}
use Rattle.iox_wire_stops.specs.Plans.{role_of, sizes_of, slot_words_of}
use Rattle.iox_wire_stops.specs.Entry.{Entry}

-- the port of that number has that slot
abbrev pub HasSlot : WirePlan → (port slot : ℕ) → Type 0
HasSlot plan port slot = IsSomeAnd (port_of plan port) (λ q. slot < q.pool)

-- the message of the entry stands in a slot of its own port
abbrev pub HasOwnSlot : WirePlan → Entry → Type 0
HasOwnSlot plan e = HasSlot plan e.port e.slot

-- so it is unless the message was received
abbrev pub HasLoanSlot : WirePlan → Entry → Type 0
HasLoanSlot plan e = is_received e.kind ≡ false → HasOwnSlot plan e

-- how many words a message of so many elements has behind its header, by its sender
abbrev pub words_behind_header : WirePlan → (sender elements : ℕ) → ℕ
words_behind_header plan sender elements =
    (details_of plan (role_of plan sender)).user_header.size / 8
    + elements * ((details_of plan (role_of plan sender)).payload.size / 8)

-- the message of the entry stands in a slot of its sender, no longer than that, and a number counts its
-- words together with those of the wire
pub record IsReadable (plan : WirePlan) (e : Entry) : Type 0 where
  pub slot : HasSlot plan e.sender e.slot
  pub few : words_behind_header plan e.sender e.elements ≤ slot_words_of plan e.sender
  pub memory :
      total_words (sizes_of plan) + words_behind_header plan e.sender e.elements < 2 ^ 64

-- how many words an element has of a role's messages
abbrev pub words_each : WirePlan → Role → ℕ
words_each plan role = (details_of plan role).payload.size / 8

-- the payload of the loan is no longer than a slot of its port, and a number counts its words together
-- with those of the wire, if its messages are of that role
pub record IsWritable (plan : WirePlan) (role : Role) (e : Entry) : Type 0 where
  pub few : e.elements * words_each plan role ≤ slot_words_of plan e.port
  pub memory : total_words (sizes_of plan) + e.elements * words_each plan role < 2 ^ 64

-- whether a handle of that kind is a loan of that role's messages
abbrev pub is_loan_of : Role → Kind → Bool
is_loan_of role kind = if is_client role then is_request_loan kind else is_response_loan kind

-- so it is if the entry is such a loan
abbrev pub IsWritableAs : WirePlan → Role → Entry → Type 0
IsWritableAs plan role e = is_loan_of role e.kind ≡ true → IsWritable plan role e

-- there is room for as many words as a slot of any port has
abbrev pub HasRoomForSlots : WirePlan → (room : ℕ) → Type 0
HasRoomForSlots plan room = (port : ℕ) → slot_words_of plan port ≤ room
