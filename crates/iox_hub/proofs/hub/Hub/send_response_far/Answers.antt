use Rattle.std.proofs.Common.{ap, subst, sym, ◌∙◌, Option, is_some}
use Rattle.std.proofs.lemmas.Option.{same_Some}
use Rattle.iox_model.specs.declared.call.Call.TheVariants.{Send}
use Rattle.iox_hub_ports.specs.HubStates.Tables.{HandleState}
use Rattle.iox_control.specs.Entries.{handle_state}
use Rattle.iox_control_request_copies.specs.Responses.{reply_of_send}
use Rattle.iox_control_releasing.specs.Goings.{StaysTidy}
use Rattle.iox_hub.specs.Hubs.{HubState}
use Rattle.iox_hub.proofs.Named.{found_is_handle}
use Rattle.iox_hub.proofs.SendLeft.{left_with}
use Rattle.iox_hub.proofs.SendingFits.{fits_response_sent}
use Rattle.iox_hub.proofs.SendingHubs.{given_of, hub_goes_on_as, response_is_gone, response_of_hub, whole_then}
use Rattle.iox_hub.proofs.Handling.{response_fails, response_said}
use Rattle.iox_hub.proofs.Overflowing.{reply_as}
use Rattle.iox_hub.specs.Keeping.{IsOther}
use Rattle.iox_hub.proofs.KeepingCalls.{left_keeps, response_sent_keeps}
use Rattle.iox_hub.proofs.hub.Hub.send_response_far.Goals as goal

pub known-entry-requires : goal.known-entry-requires
known-entry-requires g c =
    ap (λ (o : Option HandleState). is_some o) (response_of_hub c.self.invariant c.args.self.now c.self.view_is c.args.node c.args.number c.requires.has).named.there

pub invariant_of-self : goal.invariant_of-self
invariant_of-self g c =
    hub_goes_on_as _ c.send_response-responded.new.control c.args.node (Send c.args.number) (reply_of_send c.send_response-responded.result)
    c.self.invariant c.send_response-responded.ensures.order
    (fits_response_sent _ c.self.inside.control.tables c.send_response-responded.new.control.tables c.self.invariant.words c.self.invariant.control.order c.send_response-responded.ensures.pools
    c.args.node c.args.number (handle_state c.known-entry.result) c.fails_without_overflow-fails.result
    (c.send_response-responded.ensures.left (handle_state c.known-entry.result) (sym c.known-entry.ensures)))
    (λ x. c.send_response-responded.ensures.whole (handle_state c.known-entry.result) (sym c.known-entry.ensures) (given_of c.self.invariant x)
    (λ off. response_fails c.self.invariant (handle_state c.known-entry.result) c.fails_without_overflow-fails.result (c.fails_without_overflow-fails.ensures off) x c.args.node c.args.number
    (sym c.known-entry.ensures)))

pub returns : goal.returns
returns g c = record {
  reply = rw (← c.self.view_is)
      (λ h there p at.
      c.send_response-responded.ensures.reply h there
      ∙ reply_as c.self.inside.control.tables h c.fails_without_overflow-fails.result _
      (λ off. response_said c.self.invariant (handle_state c.known-entry.result) c.fails_without_overflow-fails.result (c.fails_without_overflow-fails.ensures off) h (same_Some (handle_state c.known-entry.result) h (c.known-entry.ensures ∙ there)) p at));
  left = rw (← c.self.view_is)
      (left_with c.self.invariant c.send_response-responded.new.control c.args.node c.args.number (handle_state c.known-entry.result) (sym c.known-entry.ensures) c.drop_words.new.self c.drop_words.ensures.left);
  whole = rw (← c.self.view_is)
      (λ x. whole_then c.self.invariant c.send_response-responded.new.control c.drop_words.new.self c.args.node (Send c.args.number) (reply_of_send c.send_response-responded.result) x
      (c.send_response-responded.ensures.whole (handle_state c.known-entry.result) (sym c.known-entry.ensures) (given_of c.self.invariant x)
      (λ off. response_fails c.self.invariant (handle_state c.known-entry.result) c.fails_without_overflow-fails.result (c.fails_without_overflow-fails.ensures off) x c.args.node c.args.number
      (sym c.known-entry.ensures)))
      (c.drop_words.ensures.shown x));
  gone = response_is_gone c.self.inside.control.tables c.send_response-responded.new.control.tables c.args.node c.args.number (handle_state c.known-entry.result)
      (found_is_handle c.self.inside.control.tables c.self.invariant.control.order c.args.node c.args.number (handle_state c.known-entry.result) (sym c.known-entry.ensures))
      c.drop_words.new.self (ap (λ (d : HubState). d.control.tables) c.drop_words.ensures.left) c.fails_without_overflow-fails.result
      (c.send_response-responded.ensures.left (handle_state c.known-entry.result) (sym c.known-entry.ensures));
  keeps = rw (← c.self.view_is)
      (left_keeps (IsOther c.args.node c.args.number) _ _ c.drop_words.new.self c.send_response-responded.ensures.order.order c.known-entry.result.pool c.drop_words.ensures.left
      (response_sent_keeps c.self.invariant c.send_response-responded.new.control c.send_response-responded.ensures.order c.args.node c.args.number
      (handle_state c.known-entry.result) c.fails_without_overflow-fails.result
      (c.send_response-responded.ensures.left (handle_state c.known-entry.result) (sym c.known-entry.ensures))));
  tidy = rw (← c.self.view_is)
      (subst (StaysTidy c.self.inside.control.tables) (sym (ap (λ (d : HubState). d.control.tables) c.drop_words.ensures.left)) c.send_response-responded.ensures.tidy);
}
