-- The handle that a value of a node is.
use Rattle.std.specs.Prelude.{◌≡◌, ℕ, Bool, true, false, ◌&&◌, ◌==◌, if◌then◌else◌, List, [], Option, Some, None, refl}
use Rattle.std.specs.Option.{option_map_or}
use Rattle.std.proofs.Common.{sym, ap, ◌∙◌, true≢false}
use Rattle.std.proofs.lemmas.Option.{none-some, same_Some}
use Rattle.iox_store.specs.Stored.{StoredMessage, unlent}
use Rattle.iox_model.specs.declared.kind.Kind.{Kind}
use Rattle.iox_model.specs.declared.kind.Role.{Role}
use Rattle.iox_model.specs.declared.kind.Role.TheVariants.{Client, Server}
use Rattle.iox_model.specs.Names.{is_port}
use Rattle.iox_tables.specs.HubLoans.Questions.{kind_by, kind_in, kind_of_role}
use Rattle.iox_tables.specs.HubStates.Tables.{HandleState, HubTables, PortState, port_in}
use Rattle.iox_tables.specs.HubStates.Wirings.{IsHandle, handle_in}
use Rattle.iox_hub.specs.Hubs.{HubState}
use Rattle.iox_hub.specs.Reads.{message_in}
use Rattle.iox_hub.specs.Words.{stored_in}

-- a value that is no port is a handle
pub record IsHandleOf (t : HubTables) (node n : ℕ) (kind : Kind) : Type 0 where
  pub handle : HandleState
  pub named : IsHandle t node n handle
  pub kind_is : handle.kind ≡ kind

pub value_is_handle : (t : HubTables) (node n : ℕ) (kind : Kind) → is_port kind ≡ false → kind_in t node n ≡ Some kind → IsHandleOf t node n kind
value_is_handle t node n kind no_port e = step (port_in t.ports n) refl (handle_in t.handles node n) refl e
  where
    no_role : (role : Role) → kind_of_role role ≡ kind → ⊥
    no_role Client h = true≢false (ap is_port h ∙ no_port)
    no_role Server h = true≢false (ap is_port h ∙ no_port)

    no_value : (p : PortState) (b : Bool) → (if b then Some (kind_of_role p.role) else None) ≡ Some kind → ⊥
    no_value p true h = no_role p.role (same_Some (kind_of_role p.role) kind h)
    no_value p false h = none-some kind h

    step : (o : Option PortState) → port_in t.ports n ≡ o → (q : Option HandleState) → handle_in t.handles node n ≡ q
        → kind_by node o q ≡ Some kind → IsHandleOf t node n kind
    step (Some p) at q there h = absurd (no_value p (p.held && (p.node == node)) h)
    step None at (Some k) there h = record { handle = k; named = record { there = there; no_port = at }; kind_is = same_Some k.kind kind h }
    step None at None there h = absurd (none-some kind h)

-- what its message carries
pub carried_by : (h : HubState) (node n : ℕ) (k : HandleState) → handle_in h.control.tables.handles node n ≡ Some k
    → message_in h node n ≡ stored_in h.words k.pool k.slot
carried_by h node n k there = ap (λ o. option_map_or (λ (j : HandleState). stored_in h.words j.pool j.slot) o (unlent 0 [])) there
