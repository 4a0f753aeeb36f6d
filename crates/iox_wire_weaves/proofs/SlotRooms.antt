-- How many words a message takes in its slot: no more than the slot has, nor than the region of its port.
use Rattle.std.proofs.Common.{◌≡◌, ℕ, ◌+◌, ◌-◌, ◌*◌, ◌/◌, ◌<◌, ◌≤◌, ap, sym, ◌∙◌, arith}
use Rattle.std.proofs.Math.Nat.{le_of_mul-le-mul_left, mul_assoc}
use Rattle.std.proofs.lemmas.Nat.{mul-le}
use Rattle.iox_wire_nodes.specs.WirePlan.{WirePlan}
use Rattle.iox_wire_nodes.specs.Plans.{details_of, role_of}
use Rattle.iox_wire_nodes.specs.PlacedHandles.{words_behind_header, words_each}

turned : (n m : ℕ) → n * (8 * m) ≡ 8 * (n * m)
turned n m =
    let a : n * (m * 8) ≡ n * m * 8 = sym (mul_assoc n m 8) in
    let e : 8 * m ≡ m * 8 = omega arith in
    ap (λ k. n * k) e ∙ a ∙ omega arith

pub eighth : (a b : ℕ) → a ≡ 8 * b → a / 8 ≡ b
eighth a b is = omega (arith, is)

-- the words of a user header and of so many elements are no more than the region of slots that are for longer messages
pub within : (h u a t g w b l n s region pool slot : ℕ) → u ≡ 8 * w → t ≡ 8 * b → l ≤ n → h + u + a + n * t + g ≤ s → 8 * region ≡ pool * s → slot < pool
    → w + l * b ≤ region
within h u a t g w b l n s region pool slot user part fewer room whole some =
    let product : l * t ≡ 8 * (l * b) = ap (λ k. l * k) part ∙ turned l b in
    let less : l * t ≤ n * t = mul-le l t n t fewer (omega arith) in
    let slots : 1 * s ≤ pool * s = mul-le 1 s pool s (omega (arith, some)) (omega arith) in
    omega (arith, user, product, less, room, whole, slots)

-- the bytes of a slot are those of its words
pub slot_room : (region pool bytes words : ℕ) → 8 * region ≡ pool * bytes → region ≡ pool * words → 0 < pool → bytes ≤ 8 * words
slot_room region pool bytes words whole is some =
    let product : pool * (8 * words) ≡ 8 * (pool * words) = turned pool words in
    let less : pool * bytes ≤ pool * (8 * words) = omega (arith, whole, is, product) in
    le_of_mul-le-mul_left less some

-- and no more than a slot that is for longer messages
pub within_slot : (h u a t g w b l n s words : ℕ) → u ≡ 8 * w → t ≡ 8 * b → l ≤ n → h + u + a + n * t + g ≤ s → s ≤ 8 * words → w + l * b ≤ words
within_slot h u a t g w b l n s words user part fewer room fits =
    let product : l * t ≡ 8 * (l * b) = ap (λ k. l * k) part ∙ turned l b in
    let less : l * t ≤ n * t = mul-le l t n t fewer (omega arith) in
    omega (arith, user, product, less, room, fits)

-- the words of a payload are among those behind the header
pub payload_behind : (plan : WirePlan) (sender elements : ℕ) → elements * words_each plan (role_of plan sender) ≤ words_behind_header plan sender elements
payload_behind plan sender elements = second ((details_of plan (role_of plan sender)).user_header.size / 8) (elements * words_each plan (role_of plan sender))
  where
    second : (a b : ℕ) → b ≤ a + b
    second a b = omega arith
