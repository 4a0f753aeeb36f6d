use Rattle.std.specs.Prelude.{is_some}
use Rattle.std.proofs.Common.{ap, sym}
use Rattle.iox_control.specs.Entries.{handle_state}
use Rattle.iox_control_releasing.proofs.Kept.{kept_bare, kept_then}
use Rattle.iox_control_responses.proofs.Sent.{released_left, released_shown}
use Rattle.iox_control_responses.proofs.Tidy.{offered_tidies}
use Rattle.iox_control_responses.proofs.sending.send_response.Goals as goal

pub known-entry-requires : goal.known-entry-requires
known-entry-requires c = ap is_some c.requires.response.named.there

pub returns-clause-left : goal.returns-clause-left
returns-clause-left c h there =
    released_left c.args.control.now.tables c.args.node c.args.number c.known-entry.result c.known-entry.ensures h there c.offer_response-responded.new.control.tables c.disconnect_if_unused.new.control.tables
    c.args.fails (c.offer_response-responded.ensures.left h there) c.disconnect_if_unused.ensures.left

pub returns-clause-whole : goal.returns-clause-whole
returns-clause-whole c h there x failure =
    c.offer_response-responded.ensures.whole h there x failure c.disconnect_if_unused.new.control.tables
    (released_shown c.args.control.now.tables c.args.node c.args.number c.known-entry.result c.known-entry.ensures h there c.offer_response-responded.new.control.tables c.disconnect_if_unused.new.control.tables
    x (c.disconnect_if_unused.ensures.shown x))

pub returns-clause-pools : goal.returns-clause-pools
returns-clause-pools c =
    kept_then c.args.control.now.tables.pools c.offer_response-responded.new.control.tables.pools c.disconnect_if_unused.new.control.tables.pools
    (kept_bare c.args.control.now.tables.pools c.offer_response-responded.new.control.tables.pools c.offer_response-responded.ensures.pools) c.disconnect_if_unused.ensures.pools

pub returns-clause-tidy : goal.returns-clause-tidy
returns-clause-tidy c place none =
    c.disconnect_if_unused.ensures.tidy place
    (offered_tidies c.args.control.now.tables c.offer_response-responded.new.control.tables c.args.node c.args.number (handle_state c.known-entry.result) c.args.fails
    c.requires.order.order c.offer_response-responded.ensures.order.order c.requires.response c.known-entry.ensures
    (c.offer_response-responded.ensures.left (handle_state c.known-entry.result) (sym c.known-entry.ensures)) c.offer_response-responded.ensures.pools place none)
