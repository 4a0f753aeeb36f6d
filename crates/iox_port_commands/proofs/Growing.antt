-- Where a loan or a copy wants memory, its message must grow.
use Rattle.std.specs.Prelude.{◌≡◌, ℕ, Some, refl}
use Rattle.std.specs.Option.{option_map}
use Rattle.std.proofs.Common.{ap, ◌∙◌}
use Rattle.iox_model.specs.declared.kind.Kind.TheVariants as kinds
use Rattle.iox_model.specs.Handles.{ThePort, TheHandle}
use Rattle.iox_tables.specs.HubLoans.Lenders.{IsActive, IsClient, lender_of_request, lender_of_response}
use Rattle.iox_tables.specs.HubStates.States.{Given, handle_of, message_of, port_of}
use Rattle.iox_tables.specs.HubStates.Tables.{HandleState, HubTables, PortState, port_in}
use Rattle.iox_tables.specs.HubStates.Wirings.{handle_in}
use Rattle.iox_tables.proofs.HubStates.Fixing.{find_port}
use Rattle.iox_tables.proofs.HubStates.Naming.{each_handle_is_named, each_port_is_named}
use Rattle.iox_hub.specs.Growing.{WantsRoom}
use Rattle.iox_hub.specs.Hubs.{HasValue, HubState, IsHub, given_by}
use Rattle.iox_hub.proofs.LendingNamed.{active_of_hub, client_of_hub}
use Rattle.iox_port_commands.specs.Applying.{MustGrowIn}

pub client_grows : (h : HubState) → IsHub h → (node n k : ℕ) → HasValue h node n kinds.Client
    → ((p : PortState) → port_in h.control.tables.ports n ≡ Some p → WantsRoom h (lender_of_request p 0) h.request k) → MustGrowIn h node n k
client_grows h hub node n k has wants x =
    let c : IsClient h.control.tables node n = client_of_hub hub h refl node n has in
    let given : Given = given_by x h in
    let room : WantsRoom h (lender_of_request c.port 0) h.request k = wants c.port c.there in
    record {
      who = ThePort (port_of given c.port);
      named = (each_port_is_named given h.control.tables node n c.port c.there c.held).names;
      port = port_of given c.port;
      lends = refl;
      grows = room.grows.0;
      longer = room.grows.1;
    }

pub active_grows : (h : HubState) → IsHub h → (node n k : ℕ) → HasValue h node n kinds.ActiveRequest
    → ((a : HandleState) (p : PortState) → handle_in h.control.tables.handles node n ≡ Some a → port_in h.control.tables.ports a.port ≡ Some p
    → WantsRoom h (lender_of_response h.control.tables a p) h.response k)
    → MustGrowIn h node n k
active_grows h hub node n k has wants x =
    let t : HubTables = h.control.tables in
    let a : IsActive t node n = active_of_hub hub h refl node n has in
    let given : Given = given_by x h in
    let room : WantsRoom h (lender_of_response t a.handle a.port) h.response k = wants a.handle a.port a.named.there a.there in
    record {
      who = TheHandle (handle_of given (message_of given t.pools) a.handle);
      named = (each_handle_is_named given t node n a.handle a.named).names;
      port = port_of given a.port;
      lends = find_port given t.ports a.handle.port ∙ ap (option_map (port_of given)) a.there;
      grows = room.grows.0;
      longer = room.grows.1;
    }
