-- Orders of numbers, of those that a test compares too.
use Rattle.std.specs.Prelude.{◌≡◌, ℕ, ◌+◌, ◌<◌, ◌≤◌, true, false, nat_lt, nat_le}
use Rattle.std.proofs.Common.{arith}

pub at-most : (a b c : ℕ) → a ≤ b → b ≤ c → a ≤ c
at-most a b c p q = omega arith

pub same : (n : ℕ) → n ≤ n
same n = omega arith

pub same-le : (a b : ℕ) → a ≡ b → a ≤ b
same-le a b e = omega arith

pub zero-le : (a b : ℕ) → a ≡ 0 → a ≤ b
zero-le a b e = omega arith

pub none-more : (a b : ℕ) → a ≤ 0 → a ≤ b
none-more a b e = omega arith

pub least : (a : ℕ) → 0 ≤ a
least a = omega arith

-- ---- by a test

pub le-refl : (n : ℕ) → nat_le n n ≡ true
le-refl n = grind (arith)

pub le-zero : (n : ℕ) → nat_le 0 n ≡ true
le-zero n = grind (arith)

pub le-next : (n : ℕ) → nat_le n (n + 1) ≡ true
le-next n = grind (arith)

pub le-le : (a b c : ℕ) → nat_le a b ≡ true → nat_le b c ≡ true → nat_le a c ≡ true
le-le a b c e f = grind (arith)

pub le-is : (a b : ℕ) → nat_le a b ≡ true → a ≤ b
le-is a b e = grind (arith)

-- of a limit that nothing is added to
pub le-from : (a b : ℕ) → nat_le a (b + 0) ≡ true → a ≤ b
le-from a b e = grind (arith)

pub less : (a b : ℕ) → nat_le a b ≡ false → b < a
less a b h = grind (arith)

pub le-less : (a b c : ℕ) → nat_le a b ≡ true → nat_lt b c ≡ true → nat_lt a c ≡ true
le-less a b c e f = grind (arith)

pub less-le : (a b c : ℕ) → nat_le b c ≡ true → nat_lt a b ≡ true → nat_lt a c ≡ true
less-le a b c e f = grind (arith)

pub less-next : (k n : ℕ) → nat_lt k n ≡ true → nat_lt k (n + 1) ≡ true
less-next k n e = grind (arith)

pub not-less-next : (k n : ℕ) → nat_lt k (n + 1) ≡ false → nat_lt k n ≡ false
not-less-next k n e = grind (arith)

pub next-is-less : (k n : ℕ) → k ≡ n → nat_lt k (n + 1) ≡ true
next-is-less k n e = grind (arith)

pub same-not-less : (a b : ℕ) → a ≡ b → nat_lt a b ≡ false
same-not-less a b e = grind (arith)
