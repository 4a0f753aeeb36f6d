use Rattle.std.proofs.Common.{false, subst, sym}
use Rattle.iox_model.specs.declared.way.RequestState.TheVariants.{Named}
use Rattle.iox_tables.specs.HubStates.Releases.{pending_states, request_of}
use Rattle.iox_control.specs.Controls.{IsControl}
use Rattle.iox_control.specs.Entries.{handle_state}
use Rattle.iox_control_requests.proofs.Opened.{opened_is, opens_keep}
use Rattle.iox_control_requests.proofs.sends.open_request.Goals as goal

pub returns-clause-left : goal.returns-clause-left
returns-clause-left c =
    opened_is c.args.control.now (handle_state c.args.entry) false c.open_all.new.self c.args.label c.requires.label c.open_all.ensures

pub returns-clause-order : goal.returns-clause-order
returns-clause-order c =
    subst IsControl
    (sym (opened_is c.args.control.now (handle_state c.args.entry) false c.open_all.new.self c.args.label c.requires.label c.open_all.ensures))
    (opens_keep c.args.control.now (λ r. Named (request_of c.args.control.now.tables (handle_state c.args.entry)) false)
    (pending_states c.args.control.now.tables (handle_state c.args.entry)) c.requires.order)
