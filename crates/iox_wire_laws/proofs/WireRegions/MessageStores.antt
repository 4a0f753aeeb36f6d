-- What a slot holds, before and after a store.
use Rattle.std.specs.Prelude.{slice_index}
use Rattle.std.proofs.Common.{◌≡◌, ℕ, ◌+◌, ◌-◌, ◌<◌, ◌≤◌, ◌++◌, ◌==◌, true, List, length, refl, ap, sym, subst, ◌∙◌, inl, inr, eqb-true, eq-eqb, arith}
use Rattle.std.proofs.Math.ListN.{get_or-append}
use Rattle.std.proofs.lemmas.Bool.{cases_lt}
use Rattle.std.proofs.lemmas.List.{append_assoc, get_or-append-add, length-append}
use Rattle.iox_model.specs.declared.kind.Role.{Role}
use Rattle.iox_model.specs.declared.kind.Role.TheVariants.{Client, Server}
use Rattle.iox_model.specs.Messages.{Message}
use Rattle.iox_wire_words.specs.Programs.{StoresWord}
use Rattle.iox_wire_words.specs.Fits.{WireContents, contents_after}
use Rattle.iox_wire_moments.specs.MomentsOf.{Pools}
use Rattle.iox_wire_locals.specs.declared.local.Local.TheVariants.{LendStores, Writes}
use Rattle.iox_wire_locals.specs.declared.table.Entry.{Entry}
use Rattle.iox_wire_locals.specs.Locals.{program_of}
use Rattle.iox_wire_locals.specs.NewLoans.{loan_words}
use Rattle.iox_wire_locals.specs.Stored.{header_length, header_words, message_words}
use Rattle.iox_wire_locals.specs.Tables.{Setting, region_word, words_before_payload}
use Rattle.iox_wire_laws.specs.WireKeeping.Writes.{with_payload}
use Rattle.iox_wire_laws.specs.WireRegions.Regions.{IsSlotWord, words_of_longest}
use Rattle.iox_wire_laws.specs.WireRegions.StoredMessages.{HasMessage, HoldsMessage, StandFrom, words_in}
use Rattle.iox_wire_laws.specs.WireRegions.MessageStores.{LoansAreStored, MessagesStay, WritesAreStored}
use Rattle.iox_wire_laws.proofs.WireRegions.MessageLists.{header_count, words_low}
use Rattle.iox_wire_laws.proofs.WireRegions.OwnedPlaces.{lend_word, write_word}
use Rattle.iox_wire_laws.proofs.WireRegions.SlotStores.{stores_leave_the_contents}

-- each of the first words of a message in a slot is a word of it
slot_words : (p : Setting) (port slot k n : ℕ) → IsSlotWord p port slot n → k ≤ n → IsSlotWord p port slot k
slot_words p port slot k n is few =
    record { region = is.region; in_pool = is.in_pool; in_message = (let a : n < words_of_longest p port = is.in_message in omega arith) }

-- ---- one store

module _ (p : Setting) (c : WireContents) (port slot at value seen : ℕ) (is : IsSlotWord p port slot at) where
  abbrev d : WireContents
  d = contents_after p.layout (StoresWord port (region_word p port slot at) value) seen c

  -- words before the one that is stored stay
  pub before : (from : ℕ) (words : List ℕ) (count : ℕ) → from + count ≤ at → StandFrom p c port slot from words count → StandFrom p d port slot from words count
  before from words count low stand k less =
      (stores_leave_the_contents p c port slot at value seen is).1 port slot (from + k) (slot_words p port slot (from + k) at is (omega arith))
      (λ e f g. absurd (omega arith)) ∙ stand k less

  -- so there is one more
  pub one_more : (from : ℕ) (words : List ℕ) (next : ℕ) → at ≡ from + next → value ≡ slice_index words next → StandFrom p c port slot from words next
      → StandFrom p d port slot from words (next + 1)
  one_more from words next place is_value stand k less = elim (cases_lt k next) [
    | inl low ↦ before from words next (omega arith) stand k low
    | inr high ↦ (
        let e : k ≡ next = omega arith in
        let f : from + k ≡ at = omega arith in
        ap (λ i. d.stored port (region_word p port slot i)) f ∙ (stores_leave_the_contents p c port slot at value seen is).0 ∙ is_value
        ∙ ap (slice_index words) (sym e)
        )
  ]

  -- what another slot holds stays
  pub elsewhere : (held : Pools) (q j : ℕ) → HasMessage p held q j → (q ≡ port → j ≡ slot → ⊥) → HoldsMessage p held c q j → HoldsMessage p held d q j
  elsewhere held q j has other holds k low =
      (stores_leave_the_contents p c port slot at value seen is).1 q j (0 + k)
      (record {
        region = has.region;
        in_pool = has.in_pool;
        in_message = (let few : length (words_in p held q j) ≤ words_of_longest p q = words_low p held q j has in omega arith);
      })
      (λ e f g. other e f) ∙ holds k low

pub messages_stay : MessagesStay
messages_stay p held node f shown (LendStores o own next) c seen port slot owns has other holds =
    elsewhere p c o.port own next (slice_index (loan_words p o) next) seen (lend_word p node f shown o own next owns) held port slot has
    (λ e g. other (e, g)) holds
messages_stay p held node f shown (Writes e words next) c seen port slot owns has other holds =
    elsewhere p c e.port e.slot (words_before_payload p e.port + next) (slice_index words next) seen (write_word p node f shown e words next owns) held port slot has
    (λ a b. other (a, b)) holds
messages_stay p held node f shown local c seen port slot owns has other holds = holds

-- ---- loans

pub loans_are_stored : LoansAreStored
loans_are_stored p node f shown o c slot next seen owns stand =
    let more = one_more p c o.port slot next (slice_index (loan_words p o) next) seen (lend_word p node f shown o slot next owns) 0 (loan_words p o) next
    (omega arith) refl stand in (
      more,
      λ held last is k low.
          let all : length (words_in p held o.port slot) ≡ length (loan_words p o) = ap (λ m. length (message_words (p.port o.port).role m)) is in
          let end : next + 1 ≡ length (loan_words p o) = eqb-true (next + 1) (length (loan_words p o)) last in
          more k (omega arith) ∙ ap (λ m. slice_index (message_words (p.port o.port).role m) k) (sym is),
    )

-- ---- writes

-- the words before the payload, and the payload, are those of a message
pub joined : (p : Setting) (c : WireContents) (port slot : ℕ) (r : Role) (m : Message) (words : List ℕ) (from : ℕ) → from ≡ header_length r + length m.user
    → StandFrom p c port slot 0 (message_words r m) from → StandFrom p c port slot from words (length words)
    → StandFrom p c port slot 0 (header_words r m ++ (m.user ++ words)) (length (header_words r m ++ (m.user ++ words)))
joined p c port slot r m words from is head tail k low = elim (cases_lt k from) [
  | inl first ↦ (
      let all : length (header_words r m ++ m.user) ≡ from = both in
      let here : k < length (header_words r m ++ m.user) = omega arith in
      head k first ∙ ap (λ xs. slice_index xs k) (sym (append_assoc (header_words r m) m.user m.payload))
      ∙ get_or-append (header_words r m ++ m.user) m.payload 0 k here ∙ sym (get_or-append (header_words r m ++ m.user) words 0 k here)
      ∙ ap (λ xs. slice_index xs k) (append_assoc (header_words r m) m.user words)
      )
  | inr behind ↦ (
      let total : length (header_words r m ++ (m.user ++ words)) ≡ length (header_words r m) + length (m.user ++ words) = length-append (header_words r m) (m.user ++ words) in
      let rest : length (m.user ++ words) ≡ length m.user + length words = length-append m.user words in
      let all : length (header_words r m ++ m.user) ≡ from = both in
      let head_count : length (header_words r m) ≡ header_length r = header_count r m in
      let at : from + (k - from) ≡ 0 + k = omega arith in
      let at' : length (header_words r m ++ m.user) + (k - from) ≡ k = omega arith in
      ap (λ i. c.stored port (region_word p port slot i)) (sym at) ∙ tail (k - from) (omega arith)
      ∙ sym (get_or-append-add (header_words r m ++ m.user) words (k - from) 0) ∙ ap (slice_index ((header_words r m ++ m.user) ++ words)) at'
      ∙ ap (λ xs. slice_index xs k) (append_assoc (header_words r m) m.user words)
      )
]
  where
    both : length (header_words r m ++ m.user) ≡ from
    both =
        let a : length (header_words r m ++ m.user) ≡ length (header_words r m) + length m.user = length-append (header_words r m) m.user in
        let b : length (header_words r m) ≡ header_length r = header_count r m in omega arith

-- another payload leaves header and user header
pub with_words : (r : Role) (m : Message) (words : List ℕ) → message_words r (record m { payload = words }) ≡ header_words r m ++ (m.user ++ words)
with_words Client m words = refl
with_words Server m words = refl

-- the entry's slot has the new payload
in_its_slot : (held : Pools) (e : Entry) (words : List ℕ) → e.sender ≡ e.port
    → with_payload held e words e.port e.slot ≡ record (held e.port e.slot) { payload = words }
in_its_slot held e words own =
    let a : (e.port == e.sender) ≡ true = eq-eqb e.port e.sender (sym own) in
    let b : (e.slot == e.slot) ≡ true = eq-eqb e.slot e.slot refl in
    rw a (rw b refl)

pub writes_are_stored : WritesAreStored
writes_are_stored p held node f shown e words c next seen owns has head tail =
    let from : ℕ = words_before_payload p e.port in
    let is : IsSlotWord p e.port e.slot (from + next) = write_word p node f shown e words next owns in
    let list : List ℕ = words_in p held e.port e.slot in
    let kept = before p c e.port e.slot (from + next) (slice_index words next) seen is 0 list from (omega arith) head in
    let more = one_more p c e.port e.slot (from + next) (slice_index words next) seen is from words next refl refl tail in (
      kept,
      more,
      λ last.
          let d : WireContents = contents_after p.layout (program_of p (Writes e words next)) seen c in
          let end : next + 1 ≡ length words = eqb-true (next + 1) (length words) last in
          subst (λ xs. StandFrom p d e.port e.slot 0 xs (length xs))
          (sym (ap (message_words (p.port e.port).role) (in_its_slot held e words owns.1) ∙ with_words (p.port e.port).role (held e.port e.slot) words))
          (joined p d e.port e.slot (p.port e.port).role (held e.port e.slot) words from (ap (λ k. header_length (p.port e.port).role + k) (sym has.user)) kept
          (subst (StandFrom p d e.port e.slot from words) end more)),
    )
