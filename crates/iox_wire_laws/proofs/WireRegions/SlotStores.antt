-- A store at a word of a slot leaves all other words.
use Rattle.std.proofs.Common.{◌≡◌, ℕ, ◌+◌, ◌<◌, ◌≤◌, true, false, if◌then◌else◌, ◌==◌, refl, ap, sym, subst, ◌∙◌, inl, inr, eqb-true, eq-eqb, Bool, arith}
use Rattle.iox_model.specs.Maps.{put_at}
use Rattle.iox_word_map.specs.WordMaps.{Piece, Region, QueueWords, StateWord, IsPiece, piece_place, piece_size}
use Rattle.iox_word_map.proofs.Pieces.{pieces_are_apart, piece_size-state}
use Rattle.iox_wire_words.specs.Programs.{word_place, state_place}
use Rattle.iox_wire_words.proofs.PieceLemmas.{same_or_other, never_same}
use Rattle.iox_wire_locals.specs.Tables.{Setting, region_word}
use Rattle.iox_wire_laws.specs.WireRegions.Regions.{IsSlotWord, slot_word}
use Rattle.iox_wire_laws.specs.WireRegions.RegionLaws.{PlacesTellTheirSlot, StoresLeaveTheRest, StoresLeaveTheContents}
use Rattle.iox_wire_laws.proofs.WireRegions.SlotWords.{in_region, told}

abbrev port_in : ℕ → Piece → ℕ
port_in k (Region q) = q
port_in k x = k

-- a word of a slot stands in no other piece
elsewhere : (p : Setting) (port slot k : ℕ) → IsSlotWord p port slot k → (y : Piece) → IsPiece p.layout.sizes y → (Region port ≡ y → ⊥)
    → (l : ℕ) → l < piece_size p.layout.sizes y → slot_word p port slot k ≡ piece_place p.layout.sizes y + l → ⊥
elsewhere p port slot k is y there other l low same =
    let within : region_word p port slot k < p.layout.sizes.region port = in_region p port is.region slot k is.in_pool is.in_message in
    elim (pieces_are_apart p.layout.sizes (Region port) y is.region.there there other) [
      | inl before ↦ (let a : piece_place p.layout.sizes (Region port) + p.layout.sizes.region port ≤ piece_place p.layout.sizes y = before in omega arith)
      | inr behind ↦ omega arith
    ]

pub places_tell_their_slot : PlacesTellTheirSlot
places_tell_their_slot p port i k q j l is is' same =
    let ports : port ≡ q = elim (same_or_other (Region port) (Region q)) [
      | inl e ↦ ap (port_in port) e
      | inr other ↦ absurd (elsewhere p port i k is (Region q) is'.region.there other (region_word p q j l)
          (in_region p q is'.region j l is'.in_pool is'.in_message) same)
    ] in
    let one : slot_word p q i k ≡ slot_word p q j l = subst (λ n. slot_word p n i k ≡ slot_word p q j l) ports same in
    let low : IsSlotWord p q i k = subst (λ n. IsSlotWord p n i k) ports is in
    let both : (i ≡ j) × (k ≡ l) = told p q is'.region i j k l low.in_message is'.in_message (omega arith) in
    (ports, both.0, both.1)

pub stores_leave_the_rest : StoresLeaveTheRest
stores_leave_the_rest p word word' port slot k value is made = (
  made.0,
  λ q j l there other. made.1 (slot_word p q j l)
      (λ e. let t = places_tell_their_slot p q j l port slot k there is e in other t.0 t.1 t.2),
  λ q l there low. made.1 (piece_place p.layout.sizes (QueueWords q) + l)
      (λ e. elsewhere p port slot k is (QueueWords q) there (never_same (Region port) (QueueWords q) refl) l low (sym e)),
  λ y way. made.1 (state_place p.layout y)
      (λ e. elsewhere p port slot k is (StateWord y) way (never_same (Region port) (StateWord y) refl) 0
      (let one : piece_size p.layout.sizes (StateWord y) ≡ 1 = piece_size-state p.layout.sizes y way in omega arith)
      (let f : state_place p.layout y ≡ slot_word p port slot k = e in omega arith)),
)

-- ---- what the words hold

-- another word of another region, or of this one
put_else : (stored : ℕ → ℕ → ℕ) (port number value q n : ℕ) → (q ≡ port → n ≡ number → ⊥) → put_at stored port (put_at (stored port) number value) q n ≡ stored q n
put_else stored port number value q n other = at (q == port) (n == number) refl refl
  where
    at : (a b : Bool) → (q == port) ≡ a → (n == number) ≡ b → (if a then (λ i. if i == number then value else stored port i) else stored q) n ≡ stored q n
    at false b is also = refl
    at true b is also = rw also (inner b is also)
      where
        inner : (b : Bool) → (q == port) ≡ true → (n == number) ≡ b → (if b then value else stored port n) ≡ stored q n
        inner true is also = absurd (other (eqb-true q port is) (eqb-true n number also))
        inner false is also = ap (λ i. stored i n) (sym (eqb-true q port is))

pub stores_leave_the_contents : StoresLeaveTheContents
stores_leave_the_contents p c port slot k value seen is = (
  rw (eq-eqb port port refl) (rw (eq-eqb (region_word p port slot k) (region_word p port slot k) refl) refl),
  λ q j l there other. put_else c.stored port (region_word p port slot k) value q (region_word p q j l)
      (λ e f. let t = places_tell_their_slot p q j l port slot k there is (ap (λ i. word_place p.layout i (region_word p q j l)) e ∙ ap (word_place p.layout port) f) in
      other t.0 t.1 t.2),
  refl,
  refl,
)
