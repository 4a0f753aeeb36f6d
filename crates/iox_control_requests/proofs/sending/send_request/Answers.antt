use Rattle.std.specs.Prelude.{is_some}
use Rattle.std.proofs.Common.{sym, ap, ◌∙◌}
use Rattle.iox_tables.specs.HubStates.States.{state_shown}
use Rattle.iox_control.specs.Entries.{handle_state}
use Rattle.iox_control_requests.specs.declared.requested.Requested.TheVariants.{ExceedsMaxActiveRequests, UnableToDeliver}
use Rattle.iox_control_requests.specs.Sendings.{with_lost_released}
use Rattle.iox_control_releasing.proofs.Kept.{kept_bare, kept_then}
use Rattle.iox_control_requests.proofs.Sent.{lost_shown}
use Rattle.iox_control_requests.proofs.Tidy.{offered_tidies}
use Rattle.iox_control_requests.proofs.sending.send_request.Goals as goal

pub known-entry-requires : goal.known-entry-requires
known-entry-requires g c = ap is_some c.requires.request.named.there

pub returns-in-To-clause-whole : goal.returns-in-To-clause-whole
returns-in-To-clause-whole g c h there x failure =
    c.offer_request-requested.ensures.whole h there x failure c.offer_request-requested.new.control.tables
    (ap (λ r. state_shown x (with_lost_released r c.offer_request-requested.new.control.tables h.port)) c.in-To.is)

pub returns-in-ExceedsMaxActiveRequests-clause-whole : goal.returns-in-ExceedsMaxActiveRequests-clause-whole
returns-in-ExceedsMaxActiveRequests-clause-whole g c h there x failure =
    c.offer_request-requested.ensures.whole h there x failure c.disconnect_if_unused.new.control.tables
    (ap (λ r. state_shown x (with_lost_released r c.offer_request-requested.new.control.tables h.port)) c.in-ExceedsMaxActiveRequests.is
    ∙ lost_shown c.args.control.now.tables c.args.node c.args.number c.known-entry.result c.known-entry.ensures h there ExceedsMaxActiveRequests c.offer_request-requested.new.control.tables
    c.disconnect_if_unused.new.control.tables x (c.disconnect_if_unused.ensures.shown x))

pub returns-in-UnableToDeliver-clause-whole : goal.returns-in-UnableToDeliver-clause-whole
returns-in-UnableToDeliver-clause-whole g c h there x failure =
    c.offer_request-requested.ensures.whole h there x failure c.disconnect_if_unused-in-UnableToDeliver.new.control.tables
    (ap (λ r. state_shown x (with_lost_released r c.offer_request-requested.new.control.tables h.port)) c.in-UnableToDeliver.is
    ∙ lost_shown c.args.control.now.tables c.args.node c.args.number c.known-entry.result c.known-entry.ensures h there UnableToDeliver c.offer_request-requested.new.control.tables
    c.disconnect_if_unused-in-UnableToDeliver.new.control.tables x (c.disconnect_if_unused-in-UnableToDeliver.ensures.shown x))

pub returns-in-To-clause-pools : goal.returns-in-To-clause-pools
returns-in-To-clause-pools g c = kept_bare c.args.control.now.tables.pools c.offer_request-requested.new.control.tables.pools c.offer_request-requested.ensures.pools

pub returns-in-ExceedsMaxActiveRequests-clause-pools : goal.returns-in-ExceedsMaxActiveRequests-clause-pools
returns-in-ExceedsMaxActiveRequests-clause-pools g c =
    kept_then c.args.control.now.tables.pools c.offer_request-requested.new.control.tables.pools c.disconnect_if_unused.new.control.tables.pools
    (kept_bare c.args.control.now.tables.pools c.offer_request-requested.new.control.tables.pools c.offer_request-requested.ensures.pools) c.disconnect_if_unused.ensures.pools

pub returns-in-UnableToDeliver-clause-pools : goal.returns-in-UnableToDeliver-clause-pools
returns-in-UnableToDeliver-clause-pools g c =
    kept_then c.args.control.now.tables.pools c.offer_request-requested.new.control.tables.pools c.disconnect_if_unused-in-UnableToDeliver.new.control.tables.pools
    (kept_bare c.args.control.now.tables.pools c.offer_request-requested.new.control.tables.pools c.offer_request-requested.ensures.pools) c.disconnect_if_unused-in-UnableToDeliver.ensures.pools

pub returns-in-To-clause-tidy : goal.returns-in-To-clause-tidy
returns-in-To-clause-tidy g c =
    offered_tidies c.args.control.now.tables c.offer_request-requested.new.control.tables c.args.node c.args.number (handle_state c.known-entry.result)
    c.requires.order.order c.offer_request-requested.ensures.order.order c.requires.request c.known-entry.ensures c.offer_request-requested.ensures.pools c.offer_request-requested.result
    (c.offer_request-requested.ensures.left (handle_state c.known-entry.result) (sym c.known-entry.ensures))

pub returns-in-ExceedsMaxActiveRequests-clause-tidy : goal.returns-in-ExceedsMaxActiveRequests-clause-tidy
returns-in-ExceedsMaxActiveRequests-clause-tidy g c place none =
    c.disconnect_if_unused.ensures.tidy place
    (offered_tidies c.args.control.now.tables c.offer_request-requested.new.control.tables c.args.node c.args.number (handle_state c.known-entry.result)
    c.requires.order.order c.offer_request-requested.ensures.order.order c.requires.request c.known-entry.ensures c.offer_request-requested.ensures.pools c.offer_request-requested.result
    (c.offer_request-requested.ensures.left (handle_state c.known-entry.result) (sym c.known-entry.ensures)) place none)

pub returns-in-UnableToDeliver-clause-tidy : goal.returns-in-UnableToDeliver-clause-tidy
returns-in-UnableToDeliver-clause-tidy g c place none =
    c.disconnect_if_unused-in-UnableToDeliver.ensures.tidy place
    (offered_tidies c.args.control.now.tables c.offer_request-requested.new.control.tables c.args.node c.args.number (handle_state c.known-entry.result)
    c.requires.order.order c.offer_request-requested.ensures.order.order c.requires.request c.known-entry.ensures c.offer_request-requested.ensures.pools c.offer_request-requested.result
    (c.offer_request-requested.ensures.left (handle_state c.known-entry.result) (sym c.known-entry.ensures)) place none)
