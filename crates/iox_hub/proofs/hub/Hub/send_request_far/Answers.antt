use Rattle.std.proofs.Common.{ap, subst, sym, ◌∙◌, Option, is_some}
use Rattle.std.proofs.lemmas.Option.{same_Some}
use Rattle.iox_model.specs.declared.call.Call.TheVariants.{Send}
use Rattle.iox_hub_ports.specs.HubStates.Tables.{HandleState}
use Rattle.iox_control.specs.Entries.{handle_state}
use Rattle.iox_control_request_copies.specs.Sendings.{reply_of_send}
use Rattle.iox_control_releasing.specs.Goings.{StaysTidy}
use Rattle.iox_hub.specs.Hubs.{HubState}
use Rattle.iox_hub.proofs.Named.{found_is_handle}
use Rattle.iox_hub.proofs.SendLeft.{left_with}
use Rattle.iox_hub.proofs.SendingFits.{fits_request_sent}
use Rattle.iox_hub.proofs.SendingHubs.{given_of, hub_goes_on_as, loan_is_request, request_of_hub, sent_is_pending, whole_then}
use Rattle.iox_hub.proofs.Overflowing.{outcome_as, requests_fail, requests_said}
use Rattle.iox_hub.specs.Keeping.{IsOther}
use Rattle.iox_hub.proofs.KeepingCalls.{left_keeps, request_sent_keeps}
use Rattle.iox_hub.proofs.hub.Hub.send_request_far.Goals as goal

pub known-entry-requires : goal.known-entry-requires
known-entry-requires g c =
    ap (λ (o : Option HandleState). is_some o) (request_of_hub c.self.invariant c.args.self.now c.self.view_is c.args.node c.args.number c.requires.has).named.there

pub send_request-requested-requires-clause-request : goal.send_request-requested-requires-clause-request
send_request-requested-requires-clause-request g c = request_of_hub c.self.invariant c.args.self.now c.self.view_is c.args.node c.args.number c.requires.has

pub invariant_of-self : goal.invariant_of-self
invariant_of-self g c =
    hub_goes_on_as _ c.send_request-requested.new.control c.args.node (Send c.args.number) (reply_of_send c.send_request-requested.result)
    c.self.invariant c.send_request-requested.ensures.order
    (fits_request_sent _ c.self.inside.control.tables c.send_request-requested.new.control.tables c.self.invariant.words c.self.invariant.control.order c.send_request-requested.ensures.pools
    c.args.node c.args.number (handle_state c.known-entry.result) (sym c.known-entry.ensures)
    (loan_is_request c.self.inside.control.tables c.args.node c.args.number (handle_state c.known-entry.result)
    (request_of_hub c.self.invariant c.args.self.now c.self.view_is c.args.node c.args.number c.requires.has) c.known-entry.ensures)
    c.send_request-requested.result (c.send_request-requested.ensures.left (handle_state c.known-entry.result) (sym c.known-entry.ensures)))
    (λ x. c.send_request-requested.ensures.whole (handle_state c.known-entry.result) (sym c.known-entry.ensures) (given_of c.self.invariant x)
    (λ off. requests_fail c.self.invariant (handle_state c.known-entry.result) _ c.asked_of_client-by.result.strategy (c.asked_of_client-by.ensures.handler off) (c.asked_of_client-by.ensures.strategy off) x c.args.node c.args.number (sym c.known-entry.ensures)))

pub returns : goal.returns
returns g c = record {
  reply = rw (← c.self.view_is)
      (λ h there p at.
      c.send_request-requested.ensures.reply h there
      ∙ outcome_as c.self.inside.control.tables h _ _
      (λ off. requests_said c.self.invariant (handle_state c.known-entry.result) _ c.asked_of_client-by.result.strategy (c.asked_of_client-by.ensures.handler off) (c.asked_of_client-by.ensures.strategy off) h
      (same_Some (handle_state c.known-entry.result) h (c.known-entry.ensures ∙ there)) p at));
  left = rw (← c.self.view_is)
      (left_with c.self.invariant c.send_request-requested.new.control c.args.node c.args.number (handle_state c.known-entry.result) (sym c.known-entry.ensures) c.drop_words.new.self c.drop_words.ensures.left);
  whole = rw (← c.self.view_is)
      (λ x. whole_then c.self.invariant c.send_request-requested.new.control c.drop_words.new.self c.args.node (Send c.args.number) (reply_of_send c.send_request-requested.result) x
      (c.send_request-requested.ensures.whole (handle_state c.known-entry.result) (sym c.known-entry.ensures) (given_of c.self.invariant x)
      (λ off. requests_fail c.self.invariant (handle_state c.known-entry.result) _ c.asked_of_client-by.result.strategy (c.asked_of_client-by.ensures.handler off) (c.asked_of_client-by.ensures.strategy off) x c.args.node c.args.number (sym c.known-entry.ensures)))
      (c.drop_words.ensures.shown x));
  has = sent_is_pending c.self.inside.control.tables c.send_request-requested.new.control.tables c.args.node c.args.number (handle_state c.known-entry.result)
      (found_is_handle c.self.inside.control.tables c.self.invariant.control.order c.args.node c.args.number (handle_state c.known-entry.result) (sym c.known-entry.ensures))
      (loan_is_request c.self.inside.control.tables c.args.node c.args.number (handle_state c.known-entry.result)
      (request_of_hub c.self.invariant c.args.self.now c.self.view_is c.args.node c.args.number c.requires.has) c.known-entry.ensures)
      c.send_request-requested.ensures.order.order c.drop_words.new.self (ap (λ (d : HubState). d.control.tables) c.drop_words.ensures.left)
      c.send_request-requested.result (c.send_request-requested.ensures.left (handle_state c.known-entry.result) (sym c.known-entry.ensures));
  keeps = rw (← c.self.view_is)
      (left_keeps (IsOther c.args.node c.args.number) _ _ c.drop_words.new.self c.send_request-requested.ensures.order.order c.known-entry.result.pool c.drop_words.ensures.left
      (request_sent_keeps c.self.invariant c.send_request-requested.new.control c.send_request-requested.ensures.order c.args.node c.args.number
      (handle_state c.known-entry.result) (sym c.known-entry.ensures) c.send_request-requested.result
      (c.send_request-requested.ensures.left (handle_state c.known-entry.result) (sym c.known-entry.ensures))));
  tidy = rw (← c.self.view_is)
      (subst (StaysTidy c.self.inside.control.tables) (sym (ap (λ (d : HubState). d.control.tables) c.drop_words.ensures.left)) c.send_request-requested.ensures.tidy);
}
