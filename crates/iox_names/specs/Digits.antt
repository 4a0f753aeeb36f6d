-- How the digits of a hash lie in memory.
use Rattle.std.specs.Prelude.{ℕ, ◌≡◌, List, length}
use Rattle.std.specs.Str.{IsAscii}

-- forty digits
pub record AreDigits (digits : List ℕ) : Type 0 where
  pub sized : length digits ≡ 40
  pub ascii : IsAscii digits
