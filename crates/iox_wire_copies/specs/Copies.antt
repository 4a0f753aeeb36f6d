-- The loan of a copy: a loan whose words go on with its payload, and which the same call sends.
use Rattle.std.specs.Prelude.{◌≡◌, ◌+◌, ◌<◌, ◌^◌, ℕ, Bool, true, false, List, length}
use Rattle.iox_model.specs.declared.kind.Kind.{Kind}
use Rattle.iox_wire_words.specs.Programs.{word_place}
use Rattle.iox_wire_locals.specs.declared.local.Local.{Local}
use Rattle.iox_wire_locals.specs.declared.local.Ending.TheVariants as endings
use Rattle.iox_wire_locals.specs.declared.local.Local.TheVariants.{Ends, Idle, LendEmpties, LendStores}
use Rattle.iox_wire_locals.specs.declared.table.Entry.{Entry}
use Rattle.iox_wire_locals.specs.declared.table.NewLoan.{NewLoan}
use Rattle.iox_wire_locals.specs.NewLoans.{entry_in}
use Rattle.iox_wire_locals.specs.Tables.{Setting, region_word, words_before_payload}
use Rattle.iox_wire_request_sends.specs.Loans.{Loaned}
use Rattle.iox_wire_request_sends.specs.Orders.{loan_of}
use Rattle.iox_wire_request_sends.specs.Order.{Order}
use Rattle.iox_wire_request_sends.specs.SlotPlaces.{SlotPlaces}
use Rattle.iox_wire_copies.specs.declared.at.CopyAt.{CopyAt}
use Rattle.iox_wire_copies.specs.declared.at.CopyAt.TheVariants as at
use Rattle.iox_wire_copies.specs.declared.payload_places.PayloadPlaces.{PayloadPlaces}
use Rattle.iox_wire_copies.specs.Payloads.{payload_at}

-- ---- a loan and its copy

-- the loan with that payload, to be sent by the same call
abbrev pub copy_of : NewLoan → List ℕ → NewLoan
copy_of o payload = record o { payload = payload; copies = true }

-- the place of a copy at which its loan, told without the payload, is there
abbrev pub with_payload : List ℕ → Local → Local
with_payload payload (LendEmpties o w place left) =
    LendEmpties (copy_of o payload) w place left
with_payload payload (LendStores o slot next) = LendStores (copy_of o payload) slot next
with_payload payload local = local

-- ---- what it stands for

-- The loan of a copy: where it is, the loan without its payload, that payload, where the slots of
-- its port stand and the payloads there; and as it stores its payload, the loan that it made, and
-- where the payload stands.
pub record CopyLoan : Type 0 where
  pub at : CopyAt
  pub local : Local
  pub lending : Loaned
  pub payload : List ℕ
  pub slots : SlotPlaces
  pub places : PayloadPlaces
  pub loan : Entry
  pub place : ℕ
  pub payload_room : ℕ

-- the place of a call that a name and what stands beside it stand for
abbrev pub local_of : CopyAt → Loaned → (payload : List ℕ) → (slot next : ℕ) → Local
local_of at.Rest r payload slot next = Idle
local_of at.Lends r payload slot next = with_payload payload r.local
local_of at.Writes r payload slot next =
    LendStores (copy_of (loan_of r.order) payload) slot (length r.words + next)

-- ---- what it keeps to

-- whether its loan is under way
abbrev pub lends_at : CopyAt → Bool
lends_at at.Lends = true
lends_at name = false

-- its loan takes a slot of these
abbrev pub HasSlots : CopyAt → SlotPlaces → Loaned → Type 0
HasSlots at.Lends slots r = slots ≡ r.places
HasSlots name slots r = Unit {0}

-- it has words of its payload left, and there is memory
abbrev pub HasWordsLeft : CopyAt → (place next count : ℕ) → Type 0
HasWordsLeft at.Writes place next count = (next < count) × (place + count < 2 ^ 64)
HasWordsLeft name place next count = Unit {0}

-- it has made that loan
abbrev pub HasMade : CopyAt → Order → Entry → Type 0
HasMade at.Writes order loan = loan ≡ entry_in (loan_of order) loan.slot
HasMade name order loan = Unit {0}

-- ---- where it is

-- the place is one of a loan of that kind
abbrev pub IsLoanOf : Kind → Local → Type 0
IsLoanOf kind Idle = Unit {0}
IsLoanOf kind (Ends (endings.Refuses r)) = Unit {0}
IsLoanOf kind (LendEmpties o w place left) = o.kind ≡ kind
IsLoanOf kind (LendStores o slot next) = o.kind ≡ kind
IsLoanOf kind local = ⊥

-- what is stored is the loan of that order
abbrev pub StoresOrder : Order → Local → Type 0
StoresOrder order (LendStores o slot next) =
    (o.kind ≡ order.kind) × (o.port ≡ order.port) × (o.lane ≡ order.lane)
StoresOrder order local = Unit {0}

-- ---- the wire

-- The payloads of the port stand there on the wire, in each slot.
abbrev pub ArePayloads : Setting → (port : ℕ) → SlotPlaces → PayloadPlaces → Type 0
ArePayloads p port t q =
    (slot k : ℕ) → slot < t.slots
    → payload_at t q slot + k
    ≡ word_place p.layout port (region_word p port slot (words_before_payload p port + k))
