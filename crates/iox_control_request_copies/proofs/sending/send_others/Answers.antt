use Rattle.std.proofs.Common.{ap}
use Rattle.iox_model.specs.declared.kind.Kind.{Kind}
use Rattle.iox_model.specs.Handles.{is_request_loan}
use Rattle.iox_control.specs.Entries.{handle_state}
use Rattle.iox_control.proofs.HeldLemmas.{handle_has_slot}
use Rattle.iox_control_request_copies.proofs.sending.send_others.Goals as goal

pub label_of-label-requires : goal.label_of-label-requires
label_of-label-requires c =
    handle_has_slot c.args.control.now.tables c.requires.order.order c.args.entry.node c.args.entry.number (handle_state c.args.entry) c.requires.named.there

pub send_to_all-requires-clause-kind : goal.send_to_all-requires-clause-kind
send_to_all-requires-clause-kind c = ap (λ (k : Kind). is_request_loan k) c.requires.filled

pub returns : goal.returns
returns c = record {
  sound = c.send_to_all.ensures.sound;
  count = c.send_to_all.ensures.count;
  left = c.send_to_all.ensures.left;
  delivered = c.send_to_all.ensures.holders;
  order = c.send_to_all.ensures.order;
}
