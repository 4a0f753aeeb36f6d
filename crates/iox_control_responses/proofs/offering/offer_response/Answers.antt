use Rattle.std.specs.Prelude.{◌≡◌, Some, false}
use Rattle.std.proofs.Common.{subst, sym}
use Rattle.iox_model.specs.declared.call.Call.TheVariants.{Send}
use Rattle.iox_model.specs.WholeCalls.{IsWholeCall}
use Rattle.iox_tables.specs.HubStates.States.{Given, state_shown}
use Rattle.iox_tables.specs.HubStates.Tables.{HandleState, HubTables}
use Rattle.iox_tables.specs.HubStates.Wirings.{handle_in}
use Rattle.iox_tables.specs.HubMaking.Disconnections.{with_released}
use Rattle.iox_control.specs.Controls.{ControlState}
use Rattle.iox_control.specs.Entries.{handle_state}
use Rattle.iox_control.proofs.HeldLemmas.{handle_has_slot}
use Rattle.iox_control_responses.specs.Responses.{IsFailure, reply_of_send}
use Rattle.iox_control_responses.proofs.Places.{port_is_there}
use Rattle.iox_control_responses.proofs.offering.offer_response.Goals as goal

pub label_of-label-requires : goal.label_of-label-requires
label_of-label-requires c =
    handle_has_slot c.args.control.now.tables c.requires.order.order c.args.node c.args.number (handle_state c.args.entry) (sym c.requires.entry)

pub find_awaiting-to-requires-clause-server : goal.find_awaiting-to-requires-clause-server
find_awaiting-to-requires-clause-server c =
    port_is_there c.args.control.now.tables c.args.node c.args.number (handle_state c.args.entry) c.requires.order.order (sym c.requires.entry)

pub returns-clause-whole : goal.returns-clause-whole
returns-clause-whole c =
    subst
    (λ (d : ControlState).
    (h : HandleState) → handle_in d.tables.handles c.args.node c.args.number ≡ Some h
    → (x : Given) → (d.tables.settings.response_overflow ≡ false → IsFailure x d.tables h c.args.fails)
    → (t : HubTables) → state_shown x (with_released c.offer_to.new.control.tables h.port) ≡ state_shown x t
    → IsWholeCall (state_shown x d.tables) c.args.node (Send c.args.number) (reply_of_send c.offer_to.result) (state_shown x t))
    c.find_awaiting-to.ensures.unchanged c.offer_to.ensures.whole
