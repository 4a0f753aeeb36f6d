use Rattle.std.proofs.Common.{ap, refl, sym, Option, is_some}
use Rattle.iox_lanes.proofs.Senders.{both_of}
use Rattle.iox_model.specs.declared.call.Call.TheVariants.{Send}
use Rattle.iox_hub_ports.specs.HubStates.Tables.{HandleState}
use Rattle.iox_control.specs.Entries.{handle_state}
use Rattle.iox_control.proofs.HeldLemmas.{handle_has_pool}
use Rattle.iox_control_releasing.proofs.Kept.{kept_bare}
use Rattle.iox_control_request_copies.specs.Requested.TheVariants.{To}
use Rattle.iox_control_request_copies.specs.Sendings.{reply_of_send}
use Rattle.iox_hub.specs.Hubs.{with_control}
use Rattle.iox_hub.proofs.Named.{found_is_handle}
use Rattle.iox_hub.proofs.SendingFits.{fits_request_sent}
use Rattle.iox_hub.proofs.SendingHubs.{given_of, hub_goes_on_as, loan_is_request, request_of_hub, sent_is_pending}
use Rattle.iox_hub.proofs.SendLeft.{all_of, goes_on_if, hub_of, left_same}
use Rattle.iox_hub.proofs.KeepingCalls.{request_sent_keeps}
use Rattle.iox_hub.proofs.hub.Hub.send_request_usual.Goals as goal

pub near_known-requires : goal.near_known-requires
near_known-requires g c =
    ap (λ (o : Option HandleState). is_some o) (request_of_hub c.self.invariant c.args.self.now c.self.view_is c.args.node c.args.number c.requires.has).named.there

pub send_request_usual-requires-clause-request : goal.send_request_usual-requires-clause-request
send_request_usual-requires-clause-request g c = (request_of_hub c.self.invariant c.args.self.now c.self.view_is c.args.node c.args.number c.requires.has)

pub invariant_of-self : goal.invariant_of-self
invariant_of-self g c =
    goes_on_if c.send_request_usual.result c.self.invariant c.send_request_usual.new.control c.send_request_usual.ensures.unchanged
    (both_of c.send_request_usual.result c.send_request_usual.ensures.left c.send_request_usual.ensures.whole (λ servers left whole.
    hub_goes_on_as _ c.send_request_usual.new.control c.args.node (Send c.args.number) (reply_of_send (To servers))
    c.self.invariant c.send_request_usual.ensures.order
    (fits_request_sent _ c.self.inside.control.tables c.send_request_usual.new.control.tables c.self.invariant.words c.self.invariant.control.order
    (kept_bare c.self.inside.control.tables.pools c.send_request_usual.new.control.tables.pools c.send_request_usual.ensures.pools)
    c.args.node c.args.number (handle_state c.in_ok-entry.entry) (sym c.in_ok-entry.ensures)
    (loan_is_request c.self.inside.control.tables c.args.node c.args.number (handle_state c.in_ok-entry.entry) (request_of_hub c.self.invariant c.args.self.now c.self.view_is c.args.node c.args.number c.requires.has) c.in_ok-entry.ensures)
    (To servers) (left (handle_state c.in_ok-entry.entry) (sym c.in_ok-entry.ensures)))
    (λ x. whole (given_of c.self.invariant x))))

pub returns-clause-sent : goal.returns-clause-sent
returns-clause-sent g c =
    rw (← c.self.view_is)
    (all_of c.send_request_usual.result c.send_request_usual.ensures.reply c.send_request_usual.ensures.left c.send_request_usual.ensures.whole
    (λ servers reply left whole. record {
      reply = λ h there p at. reply _ h there;
      left = left_same c.self.invariant c.send_request_usual.new.control c.args.node c.args.number (handle_state c.in_ok-entry.entry) (sym c.in_ok-entry.ensures) c.send_request_usual.ensures.pools
          (handle_has_pool c.self.inside.control.tables c.self.invariant.control.order c.args.node c.args.number (handle_state c.in_ok-entry.entry) (sym c.in_ok-entry.ensures));
      whole = λ x. whole (given_of c.self.invariant x);
      has = sent_is_pending c.self.inside.control.tables c.send_request_usual.new.control.tables c.args.node c.args.number (handle_state c.in_ok-entry.entry)
          (found_is_handle c.self.inside.control.tables c.self.invariant.control.order c.args.node c.args.number (handle_state c.in_ok-entry.entry) (sym c.in_ok-entry.ensures))
          (loan_is_request c.self.inside.control.tables c.args.node c.args.number (handle_state c.in_ok-entry.entry) (request_of_hub c.self.invariant c.args.self.now c.self.view_is c.args.node c.args.number c.requires.has) c.in_ok-entry.ensures)
          c.send_request_usual.ensures.order.order (with_control (hub_of c.self.invariant) c.send_request_usual.new.control) refl (To servers) (left (handle_state c.in_ok-entry.entry) (sym c.in_ok-entry.ensures));
      keeps = request_sent_keeps c.self.invariant c.send_request_usual.new.control c.send_request_usual.ensures.order c.args.node c.args.number
          (handle_state c.in_ok-entry.entry) (sym c.in_ok-entry.ensures) (To servers) (left (handle_state c.in_ok-entry.entry) (sym c.in_ok-entry.ensures));
      tidy = c.send_request_usual.ensures.tidy;
    }))
