-- What a node may do with its handles.
use Rattle.std.specs.Prelude.{◌≡◌, ℕ, None, false, List}
use Rattle.iox_model.specs.Handles.{is_received}
use Rattle.iox_model.specs.Joins.{not_living}
use Rattle.iox_wire_keeps.specs.Desks.{MayGiveUp}
use Rattle.iox_wire_keeps.specs.Entry.{Entry}
use Rattle.iox_wire_keeps.specs.Local.TheVariants.{Idle}
use Rattle.iox_wire_keeps.specs.SlotsKnown.{HasEntry}
use Rattle.iox_wire_keeps.specs.Tables.{Setting}
use Rattle.iox_wire_keeps.specs.Runs.{Run}
use Rattle.iox_wire_keeps.specs.Stands.{Player}
use Rattle.iox_wire_keeps.specs.WireStands.{WireStands}
use Rattle.iox_wire_needs.specs.Counts.{IsTidy}

-- A living node at rest may give up each of its handles that it did not receive: the slot is in use,
-- and fewer lanes are free than its port has slots.
abbrev pub HandlesMayBeGivenUp : Type 0
HandlesMayBeGivenUp =
    (p : Setting) (words : List ℕ) (players : ℕ → Player) (r : Run) (n : ℕ)
    → WireStands p words players r → not_living r.last.state n ≡ None
    → let x = (players n).seat in
    x.local ≡ Idle → IsTidy x → (e : Entry) → HasEntry x e → is_received e.kind ≡ false
    → MayGiveUp e x.desks
