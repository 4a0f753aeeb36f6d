use Rattle.std.proofs.Common.{ap, false, refl, sym, Option, is_some}
use Rattle.iox_lanes.proofs.Senders.{both_of}
use Rattle.iox_model.specs.declared.call.Call.TheVariants.{Send}
use Rattle.iox_hub_ports.specs.HubStates.Tables.{HandleState}
use Rattle.iox_control.specs.Entries.{handle_state}
use Rattle.iox_control.proofs.HeldLemmas.{handle_has_pool}
use Rattle.iox_control_releasing.proofs.Kept.{kept_bare}
use Rattle.iox_control_request_copies.specs.Responses.{reply_of_send}
use Rattle.iox_hub.specs.Hubs.{with_control}
use Rattle.iox_hub.proofs.Named.{found_is_handle}
use Rattle.iox_hub.proofs.SendingFits.{fits_response_sent}
use Rattle.iox_hub.proofs.SendingHubs.{given_of, hub_goes_on_as, response_is_gone, response_of_hub}
use Rattle.iox_hub.proofs.SendLeft.{all_of, goes_on_if, hub_of, left_same}
use Rattle.iox_hub.proofs.KeepingCalls.{response_sent_keeps}
use Rattle.iox_hub.proofs.hub.Hub.send_response_usual.Goals as goal

pub near_known-requires : goal.near_known-requires
near_known-requires g c =
    ap (λ (o : Option HandleState). is_some o) (response_of_hub c.self.invariant c.args.self.now c.self.view_is c.args.node c.args.number c.requires.has).named.there

pub send_response_usual-requires-clause-response : goal.send_response_usual-requires-clause-response
send_response_usual-requires-clause-response g c = (response_of_hub c.self.invariant c.args.self.now c.self.view_is c.args.node c.args.number c.requires.has)

pub invariant_of-self : goal.invariant_of-self
invariant_of-self g c =
    goes_on_if c.send_response_usual.result c.self.invariant c.send_response_usual.new.control c.send_response_usual.ensures.unchanged
    (both_of c.send_response_usual.result c.send_response_usual.ensures.left c.send_response_usual.ensures.whole (λ responded left whole.
    hub_goes_on_as _ c.send_response_usual.new.control c.args.node (Send c.args.number) (reply_of_send responded)
    c.self.invariant c.send_response_usual.ensures.order
    (fits_response_sent _ c.self.inside.control.tables c.send_response_usual.new.control.tables c.self.invariant.words c.self.invariant.control.order
    (kept_bare c.self.inside.control.tables.pools c.send_response_usual.new.control.tables.pools c.send_response_usual.ensures.pools)
    c.args.node c.args.number (handle_state c.in_ok-entry.entry) false (left false (handle_state c.in_ok-entry.entry) (sym c.in_ok-entry.ensures)))
    (λ x. whole (given_of c.self.invariant x))))

pub returns-clause-sent : goal.returns-clause-sent
returns-clause-sent g c =
    rw (← c.self.view_is)
    (all_of c.send_response_usual.result c.send_response_usual.ensures.reply c.send_response_usual.ensures.left c.send_response_usual.ensures.whole
    (λ responded reply left whole. record {
      reply = λ h there p at. reply _ h there;
      left = left_same c.self.invariant c.send_response_usual.new.control c.args.node c.args.number (handle_state c.in_ok-entry.entry) (sym c.in_ok-entry.ensures) c.send_response_usual.ensures.pools
          (handle_has_pool c.self.inside.control.tables c.self.invariant.control.order c.args.node c.args.number (handle_state c.in_ok-entry.entry) (sym c.in_ok-entry.ensures));
      whole = λ x. whole (given_of c.self.invariant x);
      gone = response_is_gone c.self.inside.control.tables c.send_response_usual.new.control.tables c.args.node c.args.number (handle_state c.in_ok-entry.entry)
          (found_is_handle c.self.inside.control.tables c.self.invariant.control.order c.args.node c.args.number (handle_state c.in_ok-entry.entry) (sym c.in_ok-entry.ensures))
          (with_control (hub_of c.self.invariant) c.send_response_usual.new.control) refl false (left false (handle_state c.in_ok-entry.entry) (sym c.in_ok-entry.ensures));
      keeps = response_sent_keeps c.self.invariant c.send_response_usual.new.control c.send_response_usual.ensures.order c.args.node c.args.number
          (handle_state c.in_ok-entry.entry) false (left false (handle_state c.in_ok-entry.entry) (sym c.in_ok-entry.ensures));
      tidy = c.send_response_usual.ensures.tidy;
    }))
