-- What the release of a handle comes to.
use Rattle.std.specs.Prelude.{◌≡◌, ℕ, None, Some, IfSome}
use Rattle.std.specs.Option.{option_and_then}
use Rattle.iox_model.specs.declared.call.Call.TheVariants.{Release}
use Rattle.iox_model.specs.declared.kind.Kind.{Kind}
use Rattle.iox_model.specs.declared.reply.Reply.TheVariants.{Done}
use Rattle.iox_model.specs.WholeCalls.{IsWholeCall}
use Rattle.iox_tables.specs.HubMaking.Disconnections.{with_released}
use Rattle.iox_tables.specs.HubStates.States.{Given, state_shown}
use Rattle.iox_tables.specs.HubStates.Tables.{PortState, port_in}
use Rattle.iox_tables.specs.HubStates.Wirings.{handle_in}
use Rattle.iox_control.specs.Controls.{ControlState}
use Rattle.iox_control.specs.Entries.{handle_state}
use Rattle.iox_control.specs.Removals.{if_still}
use Rattle.iox_control_releasing.specs.declared.ending.Ending.{Ending}
use Rattle.iox_control_releasing.specs.Endings.{with_ended}
use Rattle.iox_control_releasing.specs.Goings.{ArePoolsThere, KeptPools, NoLeftPool}

-- The node's handle of that number, which may be of that kind by now, is released. Its port goes if
-- nothing of it is left, and pools go of which nobody has a message.
pub record Releases (old : ControlState) (node n : ℕ) (kind : Kind) (r : Ending) (new : ControlState)
    : Type 0
  where
    pub told :
        Some (handle_state r.entry)
        ≡ option_and_then (if_still kind) (handle_in old.tables.handles node n)
    -- the place that is told is that of its port's pool
    pub port :
        (p : PortState) → port_in old.tables.ports r.entry.port ≡ Some p
        → IfSome r.place (λ place. place ≡ p.pool)
    pub stay :
        r.place ≡ None
        → ArePoolsThere old.tables.ports new.tables.pools (handle_state r.entry)
    pub left :
        new.tables
        ≡ record (with_released (with_ended old.tables (handle_state r.entry)) r.entry.port) {
          pools = new.tables.pools;
        }
    pub pools : KeptPools old.tables.pools new.tables.pools
    pub gone : NoLeftPool new.tables r.entry.pool
    pub whole :
        (x : Given)
        → IsWholeCall (state_shown x old.tables) node (Release n) Done (state_shown x new.tables)
