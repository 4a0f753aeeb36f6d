-- Pools that closures choose for the ports that factories make.
use Rattle.std.specs.Prelude.{◌≡◌, ℕ, List, Option, None, Some}
use Rattle.iox_types.specs.declared.identifiers.system_id.UniqueSystemId.{UniqueSystemId}
use Rattle.iox_types.specs.Layouts.{as_usize}
use Rattle.iox_model.specs.declared.kind.Role.{Role}
use Rattle.iox_model.specs.Commands.{Create, Reply}
use Rattle.iox_model.specs.Makings.{IsHubCommand, worst_pool}
use Rattle.iox_tables.specs.HubStates.States.{Given, limits_of}
use Rattle.iox_hub_laws.specs.Options.{Options}
use Rattle.iox_hub_laws.specs.Hubs.{HubState, given_by, state_of_hub}
use Rattle.iox_hub_laws.specs.Making.{IsChosenBy, options_of, options_with}

-- What a port is made with whose pool a closure chooses.
pub record MadeWith (F H : Type 0) : Type 0 where
  pub node : ℕ
  pub id : UniqueSystemId
  pub options : Options
  pub closure : F
  pub handler : Option H

-- the most messages that a port of that role needs, if a `usize` counts them
abbrev pub most_needed : Given → HubState → Role → Options → Option ℕ
most_needed x h role o =
    as_usize (worst_pool (limits_of (given_by x h) h.control.tables) role (options_of o))

-- By these answers of a closure the options ask for a pool: what the closure answers for the most
-- that is needed, raised to 1 and lowered to that.
abbrev pub AskForItsPool : (ℕ → ℕ → Type 0) → ℕ → Options → Type 0
AskForItsPool answers needed o =
    (pool : ℕ) × (o.pool ≡ Some pool) × IsChosenBy answers needed pool

-- The options are as before, but for the pool, which the closure chooses. Where no `usize` counts
-- what is needed, all of them stay.
pub record HaveItsPool (h : HubState) (role : Role) (answers : ℕ → ℕ → Type 0) (old new : Options)
    : Type 0 where
  pub chosen :
      (x : Given) (needed : ℕ) → most_needed x h role old ≡ Some needed
      → AskForItsPool answers needed new
  pub uncounted : (x : Given) → most_needed x h role old ≡ None → new ≡ old
  pub others : new ≡ record old { pool = new.pool }

-- The making is one command of the machine, with the pool that the closure chooses, and with a handler
-- of these words or with none.
abbrev pub IsMadeWithItsPool :
    HubState → ℕ → Role → UniqueSystemId → (ℕ → ℕ → Type 0) → Options → Option (List ℕ) → Reply
    → HubState → Type 0
IsMadeWithItsPool old node role id answers o handler reply new =
    (chosen : Options) × HaveItsPool old role answers o chosen
    × ((x : Given)
    → IsHubCommand (state_of_hub x old) node (Create role id (options_with chosen handler)) reply
    (state_of_hub x new))
