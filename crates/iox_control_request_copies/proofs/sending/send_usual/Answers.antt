use Rattle.std.specs.Prelude.{List}
use Rattle.std.proofs.Common.{ap, sym, ◌∙◌}
use Rattle.iox_model.specs.declared.kind.Role.TheVariants.{Server}
use Rattle.iox_tables.specs.HubStates.Tables.{PortState}
use Rattle.iox_hub_ports.specs.InPlace.{only_of, places_of}
use Rattle.iox_control_requests.proofs.OneServer.{only_is}
use Rattle.iox_control_request_copies.proofs.sending.send_usual.Goals as goal

pub send_over_oldest-requires-clause-only : goal.send_over_oldest-requires-clause-only
send_over_oldest-requires-clause-only c =
    only_is (places_of Server c.args.control.now.tables.ports) c.in-Some.place
    (ap (λ (ps : List PortState). only_of (places_of Server ps)) (sym c.ports.ensures.ports) ∙ sym c.in-Some.ensures.only)
