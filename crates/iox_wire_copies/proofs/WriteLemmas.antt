-- What a step of a copy's loan does that stores a word.
use Rattle.std.proofs.Common.{◌≡◌, ◌==◌, ◌+◌, ◌<◌, ◌≤◌, ℕ, true, false, List, length, slice_index, Some, None, refl, ap, ap₂, sym, subst, ◌∙◌, arith}
use Rattle.std.proofs.lemmas.Bool.{eq-eqb, ne_eqb}
use Rattle.iox_steps.specs.declared.access.Access.TheVariants.{Store}
use Rattle.iox_wire_words.specs.Programs.{program_access, word_place}
use Rattle.iox_wire_locals.specs.declared.local.Local.{Local}
use Rattle.iox_wire_locals.specs.declared.local.Local.TheVariants.{Idle, LendEmpties, LendStores, Ends}
use Rattle.iox_wire_locals.specs.declared.local.Ending.TheVariants as endings
use Rattle.iox_wire_locals.specs.declared.seat.Seat.{Seat}
use Rattle.iox_wire_locals.specs.declared.table.Entry.{Entry}
use Rattle.iox_wire_locals.specs.declared.table.NewLoan.{NewLoan}
use Rattle.iox_wire_locals.specs.Courses.{placed, sends}
use Rattle.iox_wire_locals.specs.Lendings.{next_handle}
use Rattle.iox_wire_locals.specs.Locals.{program_of}
use Rattle.iox_wire_locals.specs.NewLoans.{entry_in, loan_words}
use Rattle.iox_wire_locals.specs.Steps.{accessed, next, tells}
use Rattle.iox_wire_locals.specs.Tables.{Setting, region_word, words_before_payload}
use Rattle.iox_wire_seats.specs.Aims.{IsPayloadAt}
use Rattle.iox_wire_seats.specs.Keeps.{counted}
use Rattle.iox_wire_seats.specs.Seats.{Placed}
use Rattle.iox_wire_request_sends.specs.Order.{Order}
use Rattle.iox_wire_request_sends.specs.SlotPlaces.{SlotPlaces}
use Rattle.iox_wire_request_sends.specs.WireLoansAims.{AreAimed, HasNextWord, IsLoanAt, IsSameLoan, Knows, StoresAhead, TellsOfSlot, after, answered}
use Rattle.iox_wire_request_sends.specs.WireLoansAims as loans
use Rattle.iox_wire_request_sends.specs.Lenders.{AreSlots}
use Rattle.iox_wire_request_sends.specs.Loans.{Loaned}
use Rattle.iox_wire_request_sends.specs.Orders.{loan_of}
use Rattle.iox_wire_copies.specs.declared.payload_places.PayloadPlaces.{PayloadPlaces}
use Rattle.iox_wire_copies.specs.declared.at.CopyAt.{CopyAt}
use Rattle.iox_wire_copies.specs.declared.at.CopyAt.TheVariants as at
use Rattle.iox_wire_copies.specs.declared.at.CopyLent.TheVariants.{Made}
use Rattle.iox_wire_copies.specs.Copies.{ArePayloads, CopyLoan, copy_of, with_payload}
use Rattle.iox_wire_copies.specs.CopyAims as copies
use Rattle.iox_wire_copies.specs.CopyAims.{GoesOn, IsAimed, StaysAimed}
use Rattle.iox_wire_copies.specs.Payloads.{payload_at}
use Rattle.iox_wire_copies.proofs.LendLemmas.{Lends, aimed_loan}
use Rattle.iox_wire_copies.proofs.StoreLemmas.{last_next, last_tells, more_next, more_tells}
use Rattle.iox_wire_copies.proofs.WordLemmas.{copy_has, word_behind, word_in_front, words_in_front}

-- how many words the copy of an order's loan has
copies_has : (p : Setting) (x : Seat) (r : Loaned) (payload : List ℕ) (o : NewLoan) → o ≡ loan_of r.order → Knows p x r
    → length (loan_words p (copy_of o payload)) ≡ length r.words + length payload
copies_has p x r payload o is knows = ap (λ (q : NewLoan). length (loan_words p (copy_of q payload))) is ∙ copy_has p x r payload knows

-- ---- what it was told stays so

pub knows_same : (p : Setting) (x : Seat) (r s : Loaned) → IsSameLoan r s → Knows p x r → Knows p (accessed x) s
knows_same p x r s same knows = record {
  number = ap (λ (o : Order). o.number) same.order ∙ knows.number;
  words = same.words ∙ knows.words ∙ ap (λ (o : Order). loan_words p (loan_of o)) (sym same.order);
  slots = subst (λ (t : SlotPlaces). AreSlots p s.order.port t) (sym same.places) (subst (λ (o : Order). AreSlots p o.port r.places) (sym same.order) knows.slots);
}

pub counted_aimed : (p : Setting) (x : Seat) (l : Local) (r : Loaned) → AreAimed p x l r → AreAimed p (accessed x) l r
counted_aimed p x (LendEmpties o w place left) r aim =
    (record { number = aim.0.number; words = aim.0.words; slots = aim.0.slots }, aim.1, aim.2)
counted_aimed p x (LendStores o slot n) r aim =
    (record { number = aim.0.number; words = aim.0.words; slots = aim.0.slots }, aim.1)
counted_aimed p x l r aim = tt

-- ---- a word in front of the payload

pub store_goes_on : (p : Setting) (x : Seat) (r : Loaned) (payload : List ℕ) (l k : Local) (seen : ℕ) → IsLoanAt r.order l → AreAimed p x l r
    → StoresAhead l (length r.words) None k
    → (placed (accessed x) (with_payload payload k) ≡ next p (placed x (with_payload payload l)) seen) × (tells p (placed x (with_payload payload l)) seen ≡ None)
store_goes_on p x r payload (LendStores o slot n) k seen is aim ahead =
    let total : length (loan_words p (copy_of o payload)) ≡ length r.words + length payload = copies_has p x r payload o is aim.0 in
    let low : n + 1 < length r.words = ahead.1 in
    let more : (n + 1 == length (loan_words p (copy_of o payload))) ≡ false = ne_eqb _ _ (λ e. omega (arith, e, total, low)) in (
      ap (λ (q : Local). placed (accessed x) (with_payload payload q)) ahead.0 ∙ more_next p x (copy_of o payload) slot n seen more,
      more_tells p x (copy_of o payload) slot n seen more,
    )
store_goes_on p x r payload l k seen is aim ahead = absurd ahead

-- with the last it continues with the payload,
pub store_writes : (p : Setting) (x : Seat) (r : Loaned) (payload : List ℕ) (l k : Local) (loan : Entry) (seen : ℕ) → IsLoanAt r.order l → AreAimed p x l r
    → StoresAhead l (length r.words) (Some loan) k → 0 < length payload
    → (placed (accessed x) (LendStores (copy_of (loan_of r.order) payload) loan.slot (length r.words + 0)) ≡ next p (placed x (with_payload payload l)) seen)
    × (tells p (placed x (with_payload payload l)) seen ≡ None)
store_writes p x r payload (LendStores o slot n) k loan seen is aim ahead some =
    let total : length (loan_words p (copy_of o payload)) ≡ length r.words + length payload = copies_has p x r payload o is aim.0 in
    let end : n + 1 ≡ length r.words = ahead.1 in
    let more : (n + 1 == length (loan_words p (copy_of o payload))) ≡ false = ne_eqb _ _ (λ e. omega (arith, e, total, end, some)) in (
      ap (λ (q : NewLoan). placed (accessed x) (LendStores (copy_of q payload) loan.slot (length r.words + 0))) (sym is)
          ∙ ap₂ (λ (s m : ℕ). placed (accessed x) (LendStores (copy_of o payload) s m)) (ap (λ (e : Entry). e.slot) ahead.2) (omega (arith, end))
          ∙ more_next p x (copy_of o payload) slot n seen more,
      more_tells p x (copy_of o payload) slot n seen more,
    )
store_writes p x r payload l k loan seen is aim ahead some = absurd ahead

-- and without one the loan is made
pub store_makes : (p : Setting) (x : Seat) (r : Loaned) (payload : List ℕ) (l k : Local) (loan : Entry) (seen : ℕ) → IsLoanAt r.order l → AreAimed p x l r
    → StoresAhead l (length r.words) (Some loan) k → length payload ≡ 0
    → (next p (placed x (with_payload payload l)) seen ≡ after p (sends p (accessed x) loan true))
    × (tells p (placed x (with_payload payload l)) seen ≡ answered p (sends p (accessed x) loan true))
    × (loan.number ≡ next_handle p (accessed x))
store_makes p x r payload (LendStores o slot n) k loan seen is aim ahead none =
    let total : length (loan_words p (copy_of o payload)) ≡ length r.words + length payload = copies_has p x r payload o is aim.0 in
    let end : n + 1 ≡ length r.words = ahead.1 in
    let last : (n + 1 == length (loan_words p (copy_of o payload))) ≡ true = eq-eqb _ _ (omega (arith, total, end, none)) in (
      last_next p x o payload slot n seen last ∙ ap (λ (e : Entry). after p (sends p (accessed x) e true)) (sym ahead.2),
      last_tells p x o payload slot n seen last ∙ ap (λ (e : Entry). answered p (sends p (accessed x) e true)) (sym ahead.2),
      ap (λ (e : Entry). e.number) ahead.2 ∙ ap (λ (q : NewLoan). q.number) is ∙ aim.0.number,
    )
store_makes p x r payload l k loan seen is aim ahead none = absurd ahead

-- what it was told before it stored, stays so
pub stored_knows : (p : Setting) (x : Seat) (r s : Loaned) (l k : Local) (loan : Entry) → AreAimed p x l r → StoresAhead l (length r.words) (Some loan) k
    → IsSameLoan r s → Knows p (accessed x) s
stored_knows p x r s (LendStores o slot n) k loan aim ahead same = knows_same p x r s same aim.0
stored_knows p x r s l k loan aim ahead same = absurd ahead

-- the loan is that of the order
pub stored_loan : (order : Order) (l k : Local) (count : ℕ) (loan : Entry) → IsLoanAt order l → StoresAhead l count (Some loan) k
    → loan ≡ entry_in (loan_of order) loan.slot
stored_loan order (LendStores o slot n) k count loan is ahead =
    ahead.2 ∙ ap₂ (λ (q : NewLoan) (s : ℕ). entry_in q s) is (sym (ap (λ (e : Entry). e.slot) ahead.2))
stored_loan order l k count loan is ahead = absurd ahead

-- ---- a word of the payload

pub write_goes_on : (p : Setting) (x : Seat) (r : Loaned) (payload : List ℕ) (slot n seen : ℕ) → Knows p x r → n + 1 < length payload
    → (placed (accessed x) (LendStores (copy_of (loan_of r.order) payload) slot (length r.words + (n + 1)))
    ≡ next p (placed x (LendStores (copy_of (loan_of r.order) payload) slot (length r.words + n))) seen)
    × (tells p (placed x (LendStores (copy_of (loan_of r.order) payload) slot (length r.words + n))) seen ≡ None)
write_goes_on p x r payload slot n seen knows low =
    let total : length (loan_words p (copy_of (loan_of r.order) payload)) ≡ length r.words + length payload = copy_has p x r payload knows in
    let more : ((length r.words + n) + 1 == length (loan_words p (copy_of (loan_of r.order) payload))) ≡ false = ne_eqb _ _ (λ e. omega (arith, e, total, low)) in (
      ap (λ (m : ℕ). placed (accessed x) (LendStores (copy_of (loan_of r.order) payload) slot m)) (omega arith)
          ∙ more_next p x (copy_of (loan_of r.order) payload) slot (length r.words + n) seen more,
      more_tells p x (copy_of (loan_of r.order) payload) slot (length r.words + n) seen more,
    )

pub write_makes : (p : Setting) (x : Seat) (r : Loaned) (payload : List ℕ) (loan : Entry) (n seen : ℕ) → Knows p x r → n < length payload → length payload ≤ n + 1
    → loan ≡ entry_in (loan_of r.order) loan.slot
    → (next p (placed x (LendStores (copy_of (loan_of r.order) payload) loan.slot (length r.words + n))) seen ≡ after p (sends p (accessed x) loan true))
    × (tells p (placed x (LendStores (copy_of (loan_of r.order) payload) loan.slot (length r.words + n))) seen ≡ answered p (sends p (accessed x) loan true))
    × (loan.number ≡ next_handle p (accessed x))
write_makes p x r payload loan n seen knows low high is =
    let total : length (loan_words p (copy_of (loan_of r.order) payload)) ≡ length r.words + length payload = copy_has p x r payload knows in
    let last : ((length r.words + n) + 1 == length (loan_words p (copy_of (loan_of r.order) payload))) ≡ true = eq-eqb _ _ (omega (arith, total, low, high)) in (
      last_next p x (loan_of r.order) payload loan.slot (length r.words + n) seen last ∙ ap (λ (e : Entry). after p (sends p (accessed x) e true)) (sym is),
      last_tells p x (loan_of r.order) payload loan.slot (length r.words + n) seen last ∙ ap (λ (e : Entry). answered p (sends p (accessed x) e true)) (sym is),
      ap (λ (e : Entry). e.number) is ∙ knows.number,
    )

-- ---- where the payload stands

pub payload_there : (p : Setting) (order : Order) (t : SlotPlaces) (q : PayloadPlaces) (loan : Entry) (place count : ℕ) → ArePayloads p order.port t q
    → loan ≡ entry_in (loan_of order) loan.slot → loan.slot < t.slots → place ≡ payload_at t q loan.slot → IsPayloadAt p loan place count
payload_there p order t q loan place count are is within there k low =
    ap (λ (n : ℕ). n + k) there
    ∙ are loan.slot k within
    ∙ ap (λ (n : ℕ). word_place p.layout n (region_word p n loan.slot (words_before_payload p n + k))) (sym (ap (λ (e : Entry). e.port) is))

-- ---- what it asks

pub asks_alike : (p : Setting) (x : Seat) (r : Loaned) (payload : List ℕ) (l : Local) → IsLoanAt r.order l → HasNextWord l (length r.words) → AreAimed p x l r
    → program_access p.layout (program_of p l) ≡ program_access p.layout (program_of p (with_payload payload l))
asks_alike p x r payload Idle is within aim = refl
asks_alike p x r payload (Ends (endings.Refuses e)) is within aim = refl
asks_alike p x r payload (LendEmpties o w place left) is within aim = refl
asks_alike p x r payload (LendStores o slot n) is within aim =
    ap (Store (word_place p.layout o.port (region_word p o.port slot n)))
    (ap (λ (q : NewLoan). slice_index (loan_words p q) n) is
    ∙ sym (word_in_front p x r payload n aim.0 within)
    ∙ sym (ap (λ (q : NewLoan). slice_index (loan_words p (copy_of q payload)) n) is))
asks_alike p x r payload l is within aim = absurd is

pub write_asks : (p : Setting) (x : Seat) (r : Loaned) (payload : List ℕ) (loan : Entry) (place n : ℕ) → Knows p x r → IsPayloadAt p loan place (length payload)
    → n < length payload → loan ≡ entry_in (loan_of r.order) loan.slot
    → Store (place + n) (slice_index payload n) ≡ program_access p.layout (program_of p (LendStores (copy_of (loan_of r.order) payload) loan.slot (length r.words + n)))
write_asks p x r payload loan place n knows there low is =
    ap₂ Store
    (there n low
    ∙ ap (λ (port : ℕ). word_place p.layout port (region_word p port loan.slot (words_before_payload p port + n))) (ap (λ (e : Entry). e.port) is)
    ∙ ap (λ (m : ℕ). word_place p.layout r.order.port (region_word p r.order.port loan.slot (m + n))) (sym (words_in_front p x r knows)))
    (sym (word_behind p x r payload n knows))

-- ---- a step of a copy

seat_is : (x y : Placed) → y ≡ counted x → y.seat ≡ accessed x.seat
seat_is x y is = ap (λ (z : Placed). z.seat) is

pub copy_goes_on : (x y : Placed) (r s : CopyLoan) (seen : ℕ) → Lends r → y ≡ counted x → s.local ≡ with_payload r.payload s.lending.local
    → IsLoanAt r.lending.order r.lending.local → StoresAhead r.lending.local (length r.lending.words) None s.lending.local
    → GoesOn x r seen y s None
copy_goes_on x y r s seen lends seat local loan ahead p aim =
    let on : (placed (accessed x.seat) (with_payload r.payload s.lending.local) ≡ next p (placed x.seat (with_payload r.payload r.lending.local)) seen) × (tells p (placed x.seat (with_payload r.payload r.lending.local)) seen ≡ None) =
    store_goes_on p x.seat r.lending r.payload r.lending.local s.lending.local seen loan (aimed_loan p x.seat r lends aim).0 ahead in (
      ap₂ placed (seat_is x y seat) local ∙ on.0 ∙ ap (λ (l : Local). next p (placed x.seat l) seen) (sym lends.local),
      ap (λ (l : Local). tells p (placed x.seat l) seen) lends.local ∙ on.1,
    )

pub copy_writes : (x y : Placed) (r s : CopyLoan) (seen : ℕ) (k : Local) (loan : Entry) → Lends r → y ≡ counted x
    → s.local ≡ LendStores (copy_of (loan_of s.lending.order) r.payload) loan.slot (length s.lending.words + 0) → IsSameLoan r.lending s.lending
    → IsLoanAt r.lending.order r.lending.local → StoresAhead r.lending.local (length r.lending.words) (Some loan) k → 0 < length r.payload
    → GoesOn x r seen y s None
copy_writes x y r s seen k loan lends seat local same at' ahead some p aim =
    let on : (placed (accessed x.seat) (LendStores (copy_of (loan_of r.lending.order) r.payload) loan.slot (length r.lending.words + 0)) ≡ next p (placed x.seat (with_payload r.payload r.lending.local)) seen)
    × (tells p (placed x.seat (with_payload r.payload r.lending.local)) seen ≡ None) =
    store_writes p x.seat r.lending r.payload r.lending.local k loan seen at' (aimed_loan p x.seat r lends aim).0 ahead some in (
      ap₂ placed (seat_is x y seat)
          (local ∙ ap₂ (λ (o : Order) (ws : List ℕ). LendStores (copy_of (loan_of o) r.payload) loan.slot (length ws + 0)) same.order same.words)
          ∙ on.0 ∙ ap (λ (l : Local). next p (placed x.seat l) seen) (sym lends.local),
      ap (λ (l : Local). tells p (placed x.seat l) seen) lends.local ∙ on.1,
    )

pub copy_makes : (x y : Placed) (r s : CopyLoan) (seen : ℕ) (k : Local) (loan : Entry) → Lends r → y ≡ counted x → s.loan ≡ loan
    → IsLoanAt r.lending.order r.lending.local → StoresAhead r.lending.local (length r.lending.words) (Some loan) k → length r.payload ≡ 0
    → GoesOn x r seen y s (Some Made)
copy_makes x y r s seen k loan lends seat made at' ahead none p aim =
    let on : (next p (placed x.seat (with_payload r.payload r.lending.local)) seen ≡ after p (sends p (accessed x.seat) loan true))
    × (tells p (placed x.seat (with_payload r.payload r.lending.local)) seen ≡ answered p (sends p (accessed x.seat) loan true))
    × (loan.number ≡ next_handle p (accessed x.seat)) =
    store_makes p x.seat r.lending r.payload r.lending.local k loan seen at' (aimed_loan p x.seat r lends aim).0 ahead none in (
      ap (λ (l : Local). next p (placed x.seat l) seen) lends.local ∙ on.0 ∙ ap₂ (λ (z : Seat) (e : Entry). after p (sends p z e true)) (sym (seat_is x y seat)) (sym made),
      ap (λ (l : Local). tells p (placed x.seat l) seen) lends.local ∙ on.1 ∙ ap₂ (λ (z : Seat) (e : Entry). answered p (sends p z e true)) (sym (seat_is x y seat)) (sym made),
      ap (λ (e : Entry). e.number) made ∙ on.2 ∙ sym (ap (next_handle p) (seat_is x y seat)),
    )

pub copy_aimed : (x y : Placed) (r s : CopyLoan) (k : Local) (loan : Entry) → Lends r → y ≡ counted x → s.at ≡ at.Writes → s.loan ≡ loan
    → s.local ≡ LendStores (copy_of (loan_of s.lending.order) r.payload) loan.slot (length s.lending.words + 0) → IsSameLoan r.lending s.lending
    → IsLoanAt r.lending.order r.lending.local → StoresAhead r.lending.local (length r.lending.words) (Some loan) k → s.slots ≡ r.slots → r.slots ≡ r.lending.places
    → (loan.slot < r.slots.slots → s.place ≡ payload_at r.slots r.places loan.slot) → StaysAimed x r y s
copy_aimed x y r s k loan lends seat writes made local same at' ahead slots own there p aim told =
    let known : loans.IsAimed p x.seat r.lending × ArePayloads p r.lending.order.port r.slots r.places = aimed_loan p x.seat r lends aim in
    let knows : Knows p (accessed x.seat) s.lending = stored_knows p x.seat r.lending s.lending r.lending.local k loan known.0 ahead same in
    let pool : r.slots.slots ≡ (p.port s.lending.order.port).pool = ap (λ (t : SlotPlaces). t.slots) (own ∙ sym same.places) ∙ knows.slots.pool in
    let within : loan.slot < r.slots.slots = subst (λ (n : ℕ). loan.slot < n) (sym pool) (subst (TellsOfSlot p) local told) in
    subst (λ (a : CopyAt). copies.AreAimed p y.seat a s) (sym writes) (
      subst (λ (z : Seat). Knows p z s.lending) (sym (seat_is x y seat)) knows,
      subst (λ (e : Entry). IsPayloadAt p e s.place (length s.payload)) (sym made)
          (payload_there p r.lending.order r.slots r.places loan s.place (length s.payload) known.1
          (stored_loan r.lending.order r.lending.local k (length r.lending.words) loan at' ahead) within (there within)),
    )

-- What a copy is that stores word n of its payload.
pub record Writes (r : CopyLoan) (n : ℕ) : Type 0 where
  pub at : r.at ≡ at.Writes
  pub local : r.local ≡ LendStores (copy_of (loan_of r.lending.order) r.payload) r.loan.slot (length r.lending.words + n)
  pub made : r.loan ≡ entry_in (loan_of r.lending.order) r.loan.slot

pub aimed_write : (p : Setting) (x : Seat) (r : CopyLoan) (n : ℕ) → Writes r n → IsAimed p x r → Knows p x r.lending × IsPayloadAt p r.loan r.place (length r.payload)
aimed_write p x r n writes aim = subst (λ (a : CopyAt). copies.AreAimed p x a r) writes.at aim

pub writes_on : (x y : Placed) (r s : CopyLoan) (n seen : ℕ) → Writes r n → y ≡ counted x
    → s.local ≡ LendStores (copy_of (loan_of r.lending.order) r.payload) r.loan.slot (length r.lending.words + (n + 1)) → n + 1 < length r.payload
    → GoesOn x r seen y s None
writes_on x y r s n seen writes seat local low p aim =
    let on : (placed (accessed x.seat) (LendStores (copy_of (loan_of r.lending.order) r.payload) r.loan.slot (length r.lending.words + (n + 1)))
    ≡ next p (placed x.seat (LendStores (copy_of (loan_of r.lending.order) r.payload) r.loan.slot (length r.lending.words + n))) seen)
    × (tells p (placed x.seat (LendStores (copy_of (loan_of r.lending.order) r.payload) r.loan.slot (length r.lending.words + n))) seen ≡ None) =
    write_goes_on p x.seat r.lending r.payload r.loan.slot n seen (aimed_write p x.seat r n writes aim).0 low in (
      ap₂ placed (seat_is x y seat) local ∙ on.0 ∙ ap (λ (l : Local). next p (placed x.seat l) seen) (sym writes.local),
      ap (λ (l : Local). tells p (placed x.seat l) seen) writes.local ∙ on.1,
    )

pub writes_made : (x y : Placed) (r s : CopyLoan) (n seen : ℕ) → Writes r n → y ≡ counted x → s.loan ≡ r.loan → n < length r.payload → length r.payload ≤ n + 1
    → GoesOn x r seen y s (Some Made)
writes_made x y r s n seen writes seat made low high p aim =
    let on : (next p (placed x.seat (LendStores (copy_of (loan_of r.lending.order) r.payload) r.loan.slot (length r.lending.words + n))) seen ≡ after p (sends p (accessed x.seat) r.loan true))
    × (tells p (placed x.seat (LendStores (copy_of (loan_of r.lending.order) r.payload) r.loan.slot (length r.lending.words + n))) seen ≡ answered p (sends p (accessed x.seat) r.loan true))
    × (r.loan.number ≡ next_handle p (accessed x.seat)) =
    write_makes p x.seat r.lending r.payload r.loan n seen (aimed_write p x.seat r n writes aim).0 low high writes.made in (
      ap (λ (l : Local). next p (placed x.seat l) seen) writes.local ∙ on.0 ∙ ap₂ (λ (z : Seat) (e : Entry). after p (sends p z e true)) (sym (seat_is x y seat)) (sym made),
      ap (λ (l : Local). tells p (placed x.seat l) seen) writes.local ∙ on.1 ∙ ap₂ (λ (z : Seat) (e : Entry). answered p (sends p z e true)) (sym (seat_is x y seat)) (sym made),
      ap (λ (e : Entry). e.number) made ∙ on.2 ∙ sym (ap (next_handle p) (seat_is x y seat)),
    )

pub writes_aimed : (x y : Placed) (r : CopyLoan) (k : Local) (n : ℕ) → Writes r n → y ≡ counted x → StaysAimed x r y (record r { local = k })
writes_aimed x y r k n writes seat p aim told =
    let known : Knows p x.seat r.lending × IsPayloadAt p r.loan r.place (length r.payload) = aimed_write p x.seat r n writes aim in
    subst (λ (a : CopyAt). copies.AreAimed p y.seat a (record r { local = k })) (sym writes.at) (
      subst (λ (z : Seat). Knows p z r.lending) (sym (seat_is x y seat))
          (record { number = known.0.number; words = known.0.words; slots = known.0.slots }),
      known.1,
    )
