-- Loans and writes leave their messages in their slots, reads and receives find them there, and no
-- other access changes them.
use Rattle.std.specs.Prelude.{◌≡◌, ℕ, ◌+◌, ◌<◌, ◌==◌, Bool, true, false, List, [], ◌∷◌, length, ◌++◌}
use Rattle.iox_model.specs.declared.way.RequestState.{RequestState}
use Rattle.iox_model.specs.declared.way.Way.{Way}
use Rattle.iox_model.specs.Settings.{is_client, other_role}
use Rattle.iox_model.specs.States.{Fixed, State}
use Rattle.iox_steps.specs.Accesses.{seen_by}
use Rattle.iox_wire_words.specs.Programs.{Program, program_access}
use Rattle.iox_wire_words.specs.Fits.{WireContents, WordsFit, contents_after}
use Rattle.iox_wire_moments.specs.MomentsOf.{Pools}
use Rattle.iox_wire_locals.specs.declared.local.Local.{Local}
use Rattle.iox_wire_locals.specs.declared.local.Local.TheVariants.{LendStores, Writes, Reads, ReceiveLoads}
use Rattle.iox_wire_locals.specs.declared.local.Visit.{Visit}
use Rattle.iox_wire_locals.specs.declared.seat.Seat.{Seat}
use Rattle.iox_wire_locals.specs.declared.table.Entry.{Entry}
use Rattle.iox_wire_locals.specs.declared.table.NewLoan.{NewLoan}
use Rattle.iox_wire_locals.specs.Locals.{program_of}
use Rattle.iox_wire_locals.specs.NewLoans.{lane_in, loan_words, message_in, received_length}
use Rattle.iox_wire_locals.specs.StepLaws.{ReliesOn}
use Rattle.iox_wire_locals.specs.Tables.{Setting, words_before_payload}
use Rattle.iox_wire_laws.specs.WireKeeping.Writes.{with_payload}
use Rattle.iox_wire_laws.specs.WireShows.OwnedCalls.{HasHeader}
use Rattle.iox_wire_laws.specs.WireRegions.OwnedWords.{Owns}
use Rattle.iox_wire_laws.specs.WireRegions.StoredMessages.{AreFirst, HasMessage, HoldsMessage, StandFrom, StoresInto, header_in, words_in}

-- ---- stores

-- An access of a node leaves what each slot holds, but the one that its call stores into.
abbrev pub MessagesStay : Type 0
MessagesStay =
    (p : Setting) (held : Pools) (node : ℕ) (f : Fixed) (shown : Way → RequestState) (local : Local)
    (c : WireContents) (seen port slot : ℕ)
    → Owns p node f shown local → HasMessage p held port slot → (StoresInto local port slot → ⊥)
    → HoldsMessage p held c port slot
    → HoldsMessage p held (contents_after p.layout (program_of p local) seen c) port slot

-- A loan stores its words one after another. Once it stored the last one, the slot holds the
-- message that the loan has.
abbrev pub LoansAreStored : Type 0
LoansAreStored =
    (p : Setting) (node : ℕ) (f : Fixed) (shown : Way → RequestState) (o : NewLoan)
    (c : WireContents) (slot next seen : ℕ)
    → let d = contents_after p.layout (program_of p (LendStores o slot next)) seen c in
    Owns p node f shown (LendStores o slot next)
    → StandFrom p c o.port slot 0 (loan_words p o) next
    → StandFrom p d o.port slot 0 (loan_words p o) (next + 1)
    × ((held : Pools) → (next + 1 == length (loan_words p o)) ≡ true
    → held o.port slot ≡ message_in p o → HoldsMessage p held d o.port slot)

-- A write stores the payload word by word, behind a header and user header that stay. Once it
-- stored the last one, the slot holds the message with that payload.
abbrev pub WritesAreStored : Type 0
WritesAreStored =
    (p : Setting) (held : Pools) (node : ℕ) (f : Fixed) (shown : Way → RequestState) (e : Entry)
    (words : List ℕ) (c : WireContents) (next seen : ℕ)
    → let from = words_before_payload p e.port in
    let list = words_in p held e.port e.slot in
    let d = contents_after p.layout (program_of p (Writes e words next)) seen c in
    Owns p node f shown (Writes e words next) → HasMessage p held e.port e.slot
    → StandFrom p c e.port e.slot 0 list from → StandFrom p c e.port e.slot from words next
    → StandFrom p d e.port e.slot 0 list from × StandFrom p d e.port e.slot from words (next + 1)
    × ((next + 1 == length words) ≡ true
    → HoldsMessage p (with_payload held e words) d e.port e.slot)

-- ---- loads

-- A read of a slot that holds its message loads the words of its user header and payload: what it
-- tells in the end is what the machine tells.
abbrev pub ReadsFindTheirMessages : Type 0
ReadsFindTheirMessages =
    (p : Setting) (held : Pools) (x : Seat) (s : State) (e : Entry) (words : List ℕ)
    (word : ℕ → ℕ) (programs : ℕ → Program) (c : WireContents)
    → WordsFit p.layout word programs c → HasMessage p held e.sender e.slot
    → HoldsMessage p held c e.sender e.slot → (held e.sender e.slot).elements ≡ e.elements
    → Owns p x.node s.fixed s.request_state (Reads e words)
    → let list = (held e.sender e.slot).user ++ (held e.sender e.slot).payload in
    AreFirst words list
    → let seen = seen_by (program_access p.layout (program_of p (Reads e words))) word in
    AreFirst (words ++ seen ∷ []) list × ReliesOn p x s held (Reads e words) seen

-- The header of what is taken from a slot stands in the region of its sender.
abbrev pub HeadersAreThere : Type 0
HeadersAreThere =
    (p : Setting) (held : Pools) (v : Visit) (w : Way) (slot : ℕ)
    → HasMessage p held w.sender slot → (p.port w.sender).role ≡ other_role v.role
    → HasHeader p v w slot

-- A receive from a slot that holds its message loads its header: that tells the request, and of a
-- request the lane.
abbrev pub HeadersTellTheirMessages : Type 0
HeadersTellTheirMessages =
    (p : Setting) (held : Pools) (x : Seat) (s : State) (v : Visit) (w : Way) (slot : ℕ)
    (header : List ℕ) (left : List Way) (waiting : Bool) (word : ℕ → ℕ) (programs : ℕ → Program)
    (c : WireContents)
    → let local = ReceiveLoads v w slot header left waiting in
    WordsFit p.layout word programs c → HasMessage p held w.sender slot
    → HoldsMessage p held c w.sender slot → (p.port w.sender).role ≡ other_role v.role
    → length header < received_length v → AreFirst header (header_in p held w.sender slot)
    → let seen = seen_by (program_access p.layout (program_of p local)) word in
    AreFirst (header ++ seen ∷ []) (header_in p held w.sender slot)
    × ReliesOn p x s held local seen
    × ((length (header ++ seen ∷ []) == received_length v) ≡ true → is_client v.role ≡ false
    → lane_in v w (header ++ seen ∷ []) ≡ (held w.sender slot).lane)
