use Rattle.iox_wire_nodes.specs.declared.call_at.CallAt.TheVariants as at
use Rattle.iox_wire_nodes.specs.contracts.node.StoredNode.{the_view}
use Rattle.iox_wire_nodes.proofs.QuietLemmas.{quiet_told}
use Rattle.iox_wire_nodes.proofs.node.StoredNode.quiet_step.Goals as goal

pub returns-in_ok-seen-in-Seats-clause-quiet : goal.returns-in_ok-seen-in-Seats-clause-quiet
returns-in_ok-seen-in-Seats-clause-quiet c =
    quiet_told at.Seats (the_view (record (c.self.inside) { seat = c.quiet_step.new.self })) c.args.words.now.items c.in_ok-seen-in-Seats.seen c.quiet_step.new.words.items c.self.view_is c.in-Seats.is c.in-Seats.is
    (λ p aimed. c.in_ok-seen-in-Seats.ensures.quiet p aimed)

pub returns-in_ok-seen-in-Receives-clause-quiet : goal.returns-in_ok-seen-in-Receives-clause-quiet
returns-in_ok-seen-in-Receives-clause-quiet c =
    quiet_told at.Receives (the_view (record (c.self.inside) { seat = c.quiet_step-in-Receives.new.seat; receiving = c.quiet_step-in-Receives.new.self })) c.args.words.now.items c.in_ok-seen-in-Receives.seen c.quiet_step-in-Receives.new.words.items c.self.view_is c.in-Receives.is c.in-Receives.is
    (λ p aimed. c.in_ok-seen-in-Receives.ensures.quiet p aimed)

pub returns-in_ok-seen-in-Lends-clause-quiet : goal.returns-in_ok-seen-in-Lends-clause-quiet
returns-in_ok-seen-in-Lends-clause-quiet c =
    quiet_told at.Lends (the_view (record (c.self.inside) { seat = c.quiet_step-in-Lends.new.seat; lending = c.quiet_step-in-Lends.new.self })) c.args.words.now.items c.in_ok-seen-in-Lends.seen c.quiet_step-in-Lends.new.words.items c.self.view_is c.in-Lends.is c.in-Lends.is
    (λ p aimed. c.in_ok-seen-in-Lends.ensures.quiet p aimed)

pub returns-in_ok-seen-in-SendsRequest-clause-quiet : goal.returns-in_ok-seen-in-SendsRequest-clause-quiet
returns-in_ok-seen-in-SendsRequest-clause-quiet c =
    quiet_told at.SendsRequest (the_view (record (c.self.inside) { seat = c.quiet_step-in-SendsRequest.new.seat; requesting = c.quiet_step-in-SendsRequest.new.self })) c.args.words.now.items c.in_ok-seen-in-SendsRequest.seen c.quiet_step-in-SendsRequest.new.words.items c.self.view_is c.in-SendsRequest.is c.in-SendsRequest.is
    (λ p aimed. c.in_ok-seen-in-SendsRequest.ensures.quiet p aimed)

pub returns-in_ok-seen-in-SendsResponse-clause-quiet : goal.returns-in_ok-seen-in-SendsResponse-clause-quiet
returns-in_ok-seen-in-SendsResponse-clause-quiet c =
    quiet_told at.SendsResponse (the_view (record (c.self.inside) { seat = c.quiet_step-in-SendsResponse.new.seat; responding = c.quiet_step-in-SendsResponse.new.self })) c.args.words.now.items c.in_ok-seen-in-SendsResponse.seen c.quiet_step-in-SendsResponse.new.words.items c.self.view_is c.in-SendsResponse.is c.in-SendsResponse.is
    (λ p aimed. c.in_ok-seen-in-SendsResponse.ensures.quiet p aimed)

pub returns-in_ok-seen-in-CopiesRequest-clause-quiet : goal.returns-in_ok-seen-in-CopiesRequest-clause-quiet
returns-in_ok-seen-in-CopiesRequest-clause-quiet c =
    quiet_told at.CopiesRequest (the_view (record (c.self.inside) { seat = c.quiet_step-in-CopiesRequest.new.seat; copying_client = c.quiet_step-in-CopiesRequest.new.self })) c.args.words.now.items c.in_ok-seen-in-CopiesRequest.seen c.quiet_step-in-CopiesRequest.new.words.items c.self.view_is c.in-CopiesRequest.is c.in-CopiesRequest.is
    (λ p aimed. c.in_ok-seen-in-CopiesRequest.ensures.quiet p aimed)

pub returns-in_ok-seen-in-CopiesResponse-clause-quiet : goal.returns-in_ok-seen-in-CopiesResponse-clause-quiet
returns-in_ok-seen-in-CopiesResponse-clause-quiet c =
    quiet_told at.CopiesResponse (the_view (record (c.self.inside) { seat = c.quiet_step-in-CopiesResponse.new.seat; copying_server = c.quiet_step-in-CopiesResponse.new.self })) c.args.words.now.items c.in_ok-seen-in-CopiesResponse.seen c.quiet_step-in-CopiesResponse.new.words.items c.self.view_is c.in-CopiesResponse.is c.in-CopiesResponse.is
    (λ p aimed. c.in_ok-seen-in-CopiesResponse.ensures.quiet p aimed)
