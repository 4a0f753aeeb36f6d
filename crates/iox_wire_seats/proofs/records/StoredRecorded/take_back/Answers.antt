use Rattle.std.proofs.Common.{◌≡◌, ◌==◌, ℕ, List, Some, ap, ap₂, sym, subst, ◌∙◌}
use Rattle.std.specs.Prelude.{position}
use Rattle.iox_model.specs.Maps.{without_number}
use Rattle.iox_wire_seats.specs.Records.{Noted, changed}
use Rattle.iox_wire_seats.proofs.PickLemmas.{none_taken, taken_where}
use Rattle.iox_wire_seats.proofs.records.StoredRecorded.take_back.Goals as goal

pub returns-in-Some : goal.returns-in-Some
returns-in-Some c =
    let first : Some c.in-Some.place ≡ position (λ k. k == c.args.slot) c.self.inside.slots.items =
    subst (λ (n : Noted). Some c.in-Some.place ≡ position (λ k. k == c.args.slot) n.recorded.slots) (sym c.self.view_is) c.in-Some.ensures.first in
    ap₂ (λ (slots : List ℕ) (k : ℕ). record { recorded = record { way = c.self.inside.way; slots = slots }; capacity = k })
    (c.remove.ensures.items ∙ taken_where c.args.slot c.self.inside.slots.items c.in-Some.place first) c.remove.ensures.capacity
    ∙ ap (changed (without_number c.args.slot)) c.self.view_is

pub returns-in_default : goal.returns-in_default
returns-in_default c =
    ap (λ (slots : List ℕ). record { recorded = record { way = c.args.self.now.recorded.way; slots = slots }; capacity = c.args.self.now.capacity })
    (none_taken c.args.slot c.args.self.now.recorded.slots (sym c.in_default.ensures.first))
