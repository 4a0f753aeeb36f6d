-- The copy of a request that is refused brings nothing.
use Rattle.std.specs.Prelude.{◌≡◌, ℕ, true, List, Option, is_some, refl}
use Rattle.std.proofs.Common.{ap, ◌∙◌}
use Rattle.iox_model.specs.declared.call.Call.TheVariants.{SendCopy}
use Rattle.iox_model.specs.declared.kind.Kind.TheVariants as kinds
use Rattle.iox_model.specs.declared.kind.Role.TheVariants.{Client}
use Rattle.iox_model.specs.Commands.{Reply}
use Rattle.iox_model.specs.Peers.{is_connected_port}
use Rattle.iox_model.specs.States as m
use Rattle.iox_model.specs.WholeCalls.{IsWholeCall}
use Rattle.iox_tables.specs.HubLoans.Lenders.{IsClient}
use Rattle.iox_tables.specs.HubStates.States.{Given, port_of}
use Rattle.iox_tables.specs.HubStates.Steps.{is_there}
use Rattle.iox_tables.specs.HubStates.Tables.{HubTables, PortState}
use Rattle.iox_tables.proofs.HubStates.Fixing.{first_key}
use Rattle.iox_tables.proofs.HubStates.Naming.{each_port_is_named}
use Rattle.iox_tables.proofs.HubStates.Steps.{connected_is}
use Rattle.iox_hub_laws.specs.Hubs.{HasValue, HubState, IsHub, given_by, state_of_hub}
use Rattle.iox_hub_laws.specs.Lending.{payload_of}
use Rattle.iox_hub_laws.specs.Sends.{WaitsAsBefore}
use Rattle.iox_hub_laws.proofs.Arrivals.{IsRefusal}
use Rattle.iox_hub_laws.proofs.LendingNamed.{client_of_hub}
use Rattle.iceoryx2_ports.proofs.Asked.{refused_copy_stays}

module _ (old new : HubState) (hub : IsHub old) (node client k : ℕ) (words : List ℕ) (has : HasValue old node client kinds.Client) (reply : Reply)
    (whole : (x : Given) → IsWholeCall (state_of_hub x old) node (SendCopy client (payload_of Client k words)) reply (state_of_hub x new)) where
  abbrev t : HubTables
  t = old.control.tables

  abbrev x : Given
  x = given_by hub.reached.0 old

  abbrev z : m.State
  z = state_of_hub hub.reached.0 old

  lender : IsClient t node client
  lender = client_of_hub hub old refl node client has

  abbrev p : m.Port
  p = port_of x lender.port

  known : is_connected_port z.fixed p.number ≡ true
  known =
      connected_is x t.ports lender.port.number
      ∙ ap (is_there t.ports) (first_key (λ (q : PortState). q.number) t.ports client lender.port lender.there)
      ∙ ap (λ (o : Option PortState). is_some o) lender.there

  pub refused_copy_brings_nothing : IsRefusal reply → WaitsAsBefore old new
  refused_copy_brings_nothing told w =
      refused_copy_stays z hub.reached.1 node client p lender.client known k words
      (each_port_is_named x t node client lender.port lender.there lender.held).names Client (state_of_hub hub.reached.0 new) reply told (whole hub.reached.0) w
