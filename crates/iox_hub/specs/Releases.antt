-- Which values their holders still have, so that they may release them.
use Rattle.std.specs.Prelude.{◌≡◌, ℕ, false, true}
use Rattle.std.specs.Option.{option_map_or}
use Rattle.iox_model.specs.declared.kind.Kind.{Kind}
use Rattle.iox_model.specs.Values.{is_still}
use Rattle.iox_tables.specs.HubLoans.Questions.{kind_in}
use Rattle.iox_hub.specs.Hubs.{HubState}

-- The node still has what a value of that kind stands for: a port or a handle of that number and
-- kind, which is not released, or if it is an unfilled loan, the same loan filled.
abbrev pub StillHas : HubState → ℕ → ℕ → Kind → Type 0
StillHas h node n kind =
    option_map_or (is_still kind) (kind_in h.control.tables node n) false ≡ true
