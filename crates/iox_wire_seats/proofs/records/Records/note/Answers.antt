use Rattle.std.proofs.Common.{◌≡◌, ◌++◌, ◌∷◌, [], Some, List, map, sym, ap, subst, ◌∙◌, slice_set}
use Rattle.std.specs.Prelude.{position}
use Rattle.iox_model.specs.Maps.{same_way}
use Rattle.iox_wire_seats.specs.Records.{Noted, HasRoomToNote, with_noted}
use Rattle.iox_wire_seats.proofs.RecordLemmas.{stored_at, kept_apart, none_is, others_stay, room_read}
use Rattle.iox_wire_seats.proofs.records.Records.note.Goals as goal

pub note-requires : goal.note-requires
note-requires c =
    room_read c.args.way c.self.inside.records.items c.in-Some.place c.index_mut.result.now (subst (HasRoomToNote c.args.way) (sym c.self.view_is) c.requires)
    (subst (λ (xs : List Noted). Some c.in-Some.place ≡ position (λ n. same_way n.recorded.way c.args.way) xs) (sym c.self.view_is) c.in-Some.ensures.first) c.index_mut.ensures.value

pub invariant_of-self : goal.invariant_of-self
invariant_of-self c =
    kept_apart c.self.inside.records.items c.in-Some.place c.index_mut.result.now c.note.new.self c.args.way c.self.invariant
    (subst (λ (xs : List Noted). Some c.in-Some.place ≡ position (λ n. same_way n.recorded.way c.args.way) xs) (sym c.self.view_is) c.in-Some.ensures.first) c.index_mut.ensures.value
    (ap (λ (n : Noted). n.recorded.way) c.note.ensures)

pub returns-in-Some : goal.returns-in-Some
returns-in-Some c =
    ap (λ (n : Noted). slice_set c.self.inside.records.items c.in-Some.place n) c.note.ensures
    ∙ stored_at c.args.way (λ slots. slots ++ c.args.slot ∷ []) c.self.inside.records.items c.in-Some.place c.index_mut.result.now c.self.invariant
    (subst (λ (xs : List Noted). Some c.in-Some.place ≡ position (λ n. same_way n.recorded.way c.args.way) xs) (sym c.self.view_is) c.in-Some.ensures.first) c.index_mut.ensures.value
    ∙ ap (map (with_noted c.args.way (λ slots. slots ++ c.args.slot ∷ []))) c.self.view_is

pub returns-in_default : goal.returns-in_default
returns-in_default c =
    others_stay c.args.way (λ slots. slots ++ c.args.slot ∷ []) c.args.self.now (none_is c.args.way c.args.self.now (sym c.in_default.ensures.first))
