-- The record of a way, by its place.
use Rattle.std.proofs.Common.{◌≡◌, ℕ, zero, suc, ◌+◌, ◌<◌, Bool, true, false, cond, List, [], ◌∷◌, length, get_or, Some, None, refl, ap, sym, ◌∙◌, arith}
use Rattle.std.specs.Prelude.{find, position}
use Rattle.std.proofs.lemmas.List.Quantifiers.{position-Some}
use Rattle.iox_model.specs.declared.way.Way.{Way}
use Rattle.iox_model.specs.Maps.{same_way}
use Rattle.iox_wire_seats.specs.Records.{Noted, recorded_in}
use Rattle.iox_wire_seats.proofs.RecordLemmas.{AreOthers}

found_from : (w : Way) (ns : List Noted) (i : ℕ) (n : Noted) → i < length ns → same_way (get_or ns i n).recorded.way w ≡ true
    → ((k : ℕ) → k < i → same_way (get_or ns k n).recorded.way w ≡ false) → find (λ r. same_way r.way w) (recorded_in ns) ≡ Some (get_or ns i n).recorded
found_from w [] i n h is first = absurd (omega (arith, h))
found_from w (x ∷ ns) zero n h is first = ap (λ (t : Bool). cond t (Some x.recorded) (find (λ r. same_way r.way w) (recorded_in ns))) is
found_from w (x ∷ ns) (suc i) n h is first =
    ap (λ (t : Bool). cond t (Some x.recorded) (find (λ r. same_way r.way w) (recorded_in ns))) (first 0 (omega arith))
    ∙ found_from w ns i n (omega (arith, h)) is (λ k j. first (suc k) (omega (arith, j)))

pub found_there : (w : Way) (ns : List Noted) (i : ℕ) (n : Noted) → Some i ≡ position (λ x. same_way x.recorded.way w) ns → n ≡ get_or ns i n
    → find (λ r. same_way r.way w) (recorded_in ns) ≡ Some n.recorded
found_there w ns i n at read =
    let facts = position-Some (λ (x : Noted). same_way x.recorded.way w) ns i n (sym at) in
    found_from w ns i n facts.0 facts.1 facts.2 ∙ ap (λ (x : Noted). Some x.recorded) (sym read)

pub none_found : (w : Way) (ns : List Noted) → AreOthers w ns → find (λ r. same_way r.way w) (recorded_in ns) ≡ None
none_found w [] other = refl
none_found w (x ∷ ns) other =
    ap (λ (t : Bool). cond t (Some x.recorded) (find (λ r. same_way r.way w) (recorded_in ns))) other.0 ∙ none_found w ns other.1
