-- The parts of a message stand where the layout says, for every compatible opener.
use Rattle.std.proofs.Common.{ℕ, ◌≡◌, ◌+◌, ◌-◌, ◌*◌, ◌/◌, ◌^◌, ◌<◌, ◌≤◌, Some, None, nat_lt, Bool, true, false, if◌then◌else◌, inl, inr, refl, sym, ap, ◌∙◌, arith, lit<}
use Rattle.std.specs.Int.{IsPowerOfTwo}
use Rattle.std.proofs.Math.Nat.{div-mul-le_self, lt-div-mul-add, mul_assoc, pow-le-pow_right}
use Rattle.std.proofs.Math.Pow.{pow-lt}
use Rattle.std.proofs.lemmas.Nat.{pow-add, pow_pos}
use Rattle.std.proofs.lemmas.Bool.{cases_lt}
use Rattle.std.proofs.lemmas.Bool.Decides.{nat_tests}
use Rattle.iox_types.specs.Compatibility.{AreCompatible, AreAligned}
use Rattle.iox_types.specs.Places.{IsAlignedTo, aligned_place}
use Rattle.iox_types.specs.Layouts.{LaysOut, StandsAt, message_bytes, message_layout, message_size, payload_place, as_usize, user_header_place}
use Rattle.iox_types.specs.declared.message_type_details.MessageTypeDetails.{MessageTypeDetails}

-- a power of two is not 0
pub IsPowerOfTwo-positive : (a : ℕ) → IsPowerOfTwo a → 0 < a
IsPowerOfTwo-positive a h = rw h.1 (pow_pos h.0)

-- and among the numbers of 64 bits, at most 2 ^ 63
pub IsPowerOfTwo-bound : (a : ℕ) → IsPowerOfTwo a → a < 2 ^ 64 → a ≤ 2 ^ 63
IsPowerOfTwo-bound a h below =
    elim (cases_lt h.0 64) [
      | inl small ↦ let under : 2 ^ h.0 ≤ 2 ^ 63 = pow-le-pow_right (lit< tt) {i = h.0} {j = 63}
          (omega arith) in rw h.1 under
      | inr large ↦ let over : 2 ^ 64 ≤ 2 ^ h.0 = pow-le-pow_right (lit< tt) {i = 64} {j =
          h.0} large in absurd (let e : a ≡ 2 ^ h.0 = h.1 in omega arith)
    ]

-- the lesser of two powers of two divides the greater
IsAlignedTo-power : (a b : ℕ) → IsPowerOfTwo a → IsPowerOfTwo b → a ≤ b → IsAlignedTo a b
IsAlignedTo-power a b h k le =
    elim (cases_lt k.0 h.0) [
      | inl less ↦ absurd (let lt : 2 ^ k.0 < 2 ^ h.0 = pow-lt less in let e : a ≡ 2 ^ h.0 =
          h.1 in let f : b ≡ 2 ^ k.0 = k.1 in omega arith)
      | inr more ↦
          let split : k.0 ≡ (k.0 - h.0) + h.0 = omega arith in (
            2 ^ (k.0 - h.0),
            k.1 ∙ ap (λ n. 2 ^ n) split ∙ pow-add 2 (k.0 - h.0) h.0 ∙ ap (λ n. 2 ^
                (k.0 - h.0) * n) (sym h.1),
          )
    ]

-- what is aligned to a number is aligned to what divides it
IsAlignedTo-through : (a b place : ℕ) → IsAlignedTo a b → IsAlignedTo b place → IsAlignedTo a place
IsAlignedTo-through a b place h k = (k.0 * h.0, k.1 ∙ ap (λ n. k.0 * n) h.1 ∙ sym (mul_assoc k.0 h.0 a))

IsAlignedTo-times : (a i size : ℕ) → IsAlignedTo a size → IsAlignedTo a (i * size)
IsAlignedTo-times a i size h = (i * h.0, ap (λ n. i * n) h.1 ∙ sym (mul_assoc i h.0 a))

IsAlignedTo-aligned_place : (place a : ℕ) → IsAlignedTo a (aligned_place place a)
IsAlignedTo-aligned_place place a = ((place + (a - 1)) / a, refl)

-- a place that is aligned to a power of two is aligned to each lesser one
IsAlignedTo-suiting : (a b place : ℕ) → IsPowerOfTwo a → IsPowerOfTwo b → a ≤ b → IsAlignedTo a
    (aligned_place place b)
IsAlignedTo-suiting a b place h k le =
    IsAlignedTo-through a b (aligned_place place b) (IsAlignedTo-power a b h k le)
    (IsAlignedTo-aligned_place place b)

sum_within : (start header user_header before_user_header elements before_payload user payload size : ℕ) →
    user ≤ start + header + before_user_header → payload ≤ user + user_header + before_payload →
    header + user_header + before_user_header + elements + before_payload ≤ size →
    payload + elements ≤ start + size
sum_within start header user_header before_user_header elements before_payload user payload size h k l =
    omega arith

-- an aligned place is at most the alignment, less one, behind
aligned_place-le : (place a : ℕ) → aligned_place place a ≤ place + (a - 1)
aligned_place-le place a = div-mul-le_self (place + (a - 1)) a

-- and not before the place
pub aligned_place-ge : (place a : ℕ) → 0 < a → place ≤ aligned_place place a
aligned_place-ge place a positive = let past : place + (a - 1) < aligned_place place a + a =
    lt-div-mul-add positive in omega arith

not_below : (a b : ℕ) → b ≤ a → nat_lt a b ≡ false
not_below a b h = grind (arith, nat_tests)

told-cases : (n m : ℕ) (b : Bool) → Some n ≡ (if b then Some m else None) → n ≡ m
told-cases n m true e = cc
told-cases n m false e = absurd (cc)

-- a number that is told
pub told-some : (n m : ℕ) → Some n ≡ as_usize m → n ≡ m
told-some n m e = told-cases n m (nat_lt m (2 ^ 64)) e

-- a message whose bytes are too many has no layout
pub message_layout-too_many : (d : MessageTypeDetails) (n : ℕ) → 0 < d.header.alignment →
    2 ^ 63 ≤ message_bytes d n → None ≡ message_layout d n
message_layout-too_many d n positive many =
    let ge : message_bytes d n ≤ message_size d n = aligned_place-ge
    (message_bytes d n) d.header.alignment positive in
    let no : nat_lt (message_size d n) (2 ^ 63) ≡ false = not_below (message_size d n) (2 ^ 63)
    (omega arith) in
    rw no refl

module _ (service : MessageTypeDetails) (n : ℕ) (aligned : AreAligned service) where
  module _ (mine : MessageTypeDetails) (powers : AreAligned mine) (suits : AreCompatible mine service)
      (i : ℕ) where
    abbrev size : ℕ
    size = message_size service n

    abbrev start : ℕ
    start = i * size

    abbrev user : ℕ
    user = user_header_place service start

    abbrev payload : ℕ
    payload = payload_place service start

    user-ge : start + service.header.size ≤ user
    user-ge = aligned_place-ge (start + service.header.size) service.user_header.alignment
        (IsPowerOfTwo-positive service.user_header.alignment aligned.user_header)

    user-le : user ≤ start + service.header.size + (service.user_header.alignment - 1)
    user-le = aligned_place-le (start + service.header.size) service.user_header.alignment

    payload-ge : user + service.user_header.size ≤ payload
    payload-ge = aligned_place-ge (user + service.user_header.size) service.payload.alignment
        (IsPowerOfTwo-positive service.payload.alignment aligned.payload)

    payload-le : payload ≤ user + service.user_header.size + (service.payload.alignment - 1)
    payload-le = aligned_place-le (user + service.user_header.size) service.payload.alignment

    size-ge : message_bytes service n ≤ size
    size-ge = aligned_place-ge (message_bytes service n) service.header.alignment
        (IsPowerOfTwo-positive service.header.alignment aligned.header)

    within-size : payload + n * mine.payload.size ≤ start + size
    within-size =
        let same : mine.payload.size ≡ service.payload.size = suits.payload.size in
        rw same
        (sum_within start service.header.size service.user_header.size
        (service.user_header.alignment - 1) (n * service.payload.size)
        (service.payload.alignment - 1) user payload size user-le payload-le size-ge)

    stands : StandsAt service mine n size start
    stands = record {
      header_aligned = IsAlignedTo-times mine.header.alignment i size
          (IsAlignedTo-suiting mine.header.alignment service.header.alignment
          (message_bytes service n) powers.header aligned.header suits.header.alignment);
      user_header_behind = let a = user-ge in let same = suits.header.size in omega arith;
      user_header_aligned =
          IsAlignedTo-suiting mine.user_header.alignment service.user_header.alignment
          (start + service.header.size) powers.user_header aligned.user_header suits.user_header.alignment;
      payload_behind = let a = payload-ge in let same = suits.user_header.size in omega arith;
      payload_aligned =
          IsAlignedTo-suiting mine.payload.alignment service.payload.alignment
          (user + service.user_header.size) powers.payload aligned.payload suits.payload.alignment;
      within = within-size;
    }

  -- the layout of a message lays out its parts
  pub LaysOut-message : LaysOut service n (message_size service n)
  LaysOut-message mine powers suits i = stands mine powers suits i
