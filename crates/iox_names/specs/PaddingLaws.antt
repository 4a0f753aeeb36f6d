-- A text lies in memory in one way.
use Rattle.std.proofs.Common.{ℕ, ◌≡◌, List, take, length, sym, arith}
use Rattle.std.proofs.lemmas.List.{length-take-le}
use Rattle.iox_names.specs.Padding.{HoldsText, padded}

-- the text gives back the bytes
pub padded-take : (max : ℕ) (bytes : List ℕ) (len : ℕ) → HoldsText max bytes len →
    padded max (take len bytes) ≡ bytes
padded-take max bytes len h = sym h.padding

-- and its length
pub length-text : (max : ℕ) (bytes : List ℕ) (len : ℕ) → HoldsText max bytes len → length (take len bytes) ≡ len
length-text max bytes len h =
    let sized = h.sized in let within = h.within in length-take-le len bytes (omega arith)
