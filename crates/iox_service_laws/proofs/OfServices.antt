-- The laws of runs, of the state that a service shows.
use Rattle.std.specs.Prelude.{List, [], ◌∷◌}
use Rattle.iox_model.specs.Runs.{IsHistory, IsMembersHistory, IsReachableState, IsServed, ServiceStep, created}
use Rattle.iox_model.specs.Joins.{not_living}
use Rattle.iox_model.specs.States.{State}
use Rattle.iox_model.specs.declared.reply.Reply.TheVariants.{Handle}
use Rattle.iox_laws.proofs.MessageLaws.Holdings.{had_as_delivered}
use Rattle.iox_laws.proofs.MessageLaws.Orders.{whole_over_runs}
use Rattle.iox_laws.proofs.MessageLaws.Origins.{each_was_sent}
use Rattle.iox_laws.proofs.RunLaws.Bounded.{borrows_rest_within, queues_of_the_gone_rest_within}
use Rattle.iox_laws.proofs.RunLaws.Received.{requests_are_named, responses_name_their_request}
use Rattle.iox_laws.proofs.RunLaws.Values.{values_have_own_numbers}
use Rattle.iox_laws.proofs.RunPools.Laws as pools
use Rattle.iox_laws.proofs.RunLedger.Once.{delivered_once_over_runs, received_once_over_runs}
use Rattle.iox_laws.proofs.ServiceLaws.Cleaning as cleaning
use Rattle.iox_laws.proofs.ServiceLaws.Closed.{closed_services_are_bare, closed_with_the_last_node, ports_are_of_nodes}
use Rattle.iox_laws.proofs.ServiceLaws.Gone.{nothing_is_for_the_gone, nothing_is_owed_to_the_gone}
use Rattle.iox_laws.proofs.ServiceLaws.Listings.{clients_are_listed, nodes_are_listed, servers_are_listed}
use Rattle.iox_laws.proofs.ServiceLaws.Ordered.{releases_ascend}
use Rattle.iox_laws.proofs.ServiceLaws.Refusals.{refused_command_leaves}
use Rattle.iox_service_laws.specs.Asked.{CleanupsAreReleases, ListingsAreExact, RefusalsLeave}
use Rattle.iox_service_laws.specs.Gone.{ClosesWithTheLastNode, KeepsNothingForTheGone, TheDeadDoNothing}
use Rattle.iox_service_laws.specs.Limits.{LimitsHold, LoansSucceed, PoolsSuffice}
use Rattle.iox_service_laws.specs.Messages.{AreAsDelivered, ComeAtMostOnce, ComeAtTheirRequest, ComeInOrder, WereSent}
use Rattle.iox_service_laws.specs.Histories.{RunsAreHistories}
use Rattle.iox_service_laws.proofs.Closing.{nobody_joins, stays_closed}
use Rattle.iox_service_laws.proofs.Dead.{the_dead_are_dead, the_dead_are_refused, the_dead_do_not_part, who_left_is_unknown}
use Rattle.iox_service_laws.proofs.Histories as histories
use Rattle.iox_service_laws.proofs.Lending as lending
use Rattle.iox_service_laws.proofs.Reading.{not_refused, reads_are_of_messages}
use Rattle.iox_service_laws.proofs.Receivers.{all_is_back}

-- what the service's own nodes asked is a history
history_of : (s : State) (xs : List ServiceStep) (t : State) → IsMembersHistory s xs t → IsHistory s xs t
history_of s [] t history = history
history_of s (x ∷ xs) t history = (history.0, history.2, history_of history.0 xs t history.3)

pub reached : {s : State} → IsServed s → IsReachableState s
reached {s} served = record {
  limits = served.limits;
  acts = served.acts;
  id = served.id;
  request = served.request;
  response = served.response;
  steps = served.steps;
  history = history_of (created served.limits served.acts served.id) served.steps s served.history;
}

-- ---- messages

pub messages_come_at_most_once : {s : State} → IsServed s → ComeAtMostOnce s
messages_come_at_most_once {s} served =
    record { delivered = λ r y. delivered_once_over_runs s r y; taken = λ r y. received_once_over_runs s r y }

pub messages_come_in_order : {s : State} → IsServed s → ComeInOrder s
messages_come_in_order {s} served = record { order = λ r y. whole_over_runs s r y }

pub messages_are_as_delivered : {s : State} → IsServed s → AreAsDelivered s
messages_are_as_delivered {s} served = record {
  had = λ r node h. had_as_delivered s r node h;
  read = λ t node n words command. reads_are_of_messages s t node n words command;
}

pub messages_were_sent : {s : State} → IsServed s → WereSent s
messages_were_sent {s} served = record { sent = λ r y m. each_was_sent s r y m }

pub messages_come_at_their_request : {s : State} → IsServed s → ComeAtTheirRequest s
messages_come_at_their_request {s} served = record {
  responses = λ t node n k h found received.
      responses_name_their_request s t node n k h (reached served) found
      (not_refused (not_living s node) s (Handle k) t _ (λ x. x) received);
  requests = λ t node n k p found received.
      requests_are_named s t node n k p (reached served) found
      (not_refused (not_living s node) s (Handle k) t _ (λ x. x) received);
}

-- ---- limits

pub limits_hold : {s : State} → IsServed s → LimitsHold s
limits_hold {s} served = record {
  buffers = λ w. queues_of_the_gone_rest_within s w (reached served);
  borrows = λ w. borrows_rest_within s w (reached served);
  numbers = λ node. values_have_own_numbers s node (reached served);
}

pub pools_suffice : {s : State} → IsServed s → PoolsSuffice s
pools_suffice {s} served = record {
  never = λ t command unreduced done. pools.no_command s t command (reached served) unreduced done;
}

pub loans_succeed : {s : State} → IsServed s → LoansSucceed s
loans_succeed served = lending.loans_succeed (pools_suffice served)

-- ---- the gone

pub keeps_nothing_for_the_gone : {s : State} → IsServed s → KeepsNothingForTheGone s
keeps_nothing_for_the_gone {s} served = record {
  waiting = λ w gone. (nothing_is_for_the_gone s w (reached served) gone).0;
  request_state = λ w gone. (nothing_is_for_the_gone s w (reached served) gone).1;
  returned_by = λ w gone. (all_is_back s (reached served)).returned w gone;
  outstanding_to = λ w k gone. (all_is_back s (reached served)).delivered w gone k;
  returned = λ w gone. (nothing_is_owed_to_the_gone s w (reached served) gone).0;
  outstanding = λ w k gone. (nothing_is_owed_to_the_gone s w (reached served) gone).1 k;
}

pub closes_with_the_last_node : {s : State} → IsServed s → ClosesWithTheLastNode s
closes_with_the_last_node {s} served = record {
  closed = closed_with_the_last_node s served;
  bare = closed_services_are_bare s served;
  ports = λ n p there. ports_are_of_nodes s n p served there;
  stays = λ t xs closed history. stays_closed s t xs closed history;
  joins = λ t id asked reply closed command. nobody_joins s t id asked reply closed command;
}

pub the_dead_do_nothing : {s : State} → IsServed s → TheDeadDoNothing s
the_dead_do_nothing {s} served = record {
  dies = λ t node command done is. the_dead_are_dead s t node command (reached served) is done;
  leaves = λ t node command done is. who_left_is_unknown s t node command (reached served) is done;
  refused = λ t xs node over history command asks. the_dead_are_refused s t xs node over history command asks;
  parts = λ t xs node over history command is. the_dead_do_not_part s t xs node over history command is;
}

-- ---- commands

pub cleanups_are_releases : {s : State} → IsServed s → CleanupsAreReleases s
cleanups_are_releases {s} served = record {
  same = λ t node done. cleaning.cleanups_are_releases s t node (reached served) done;
  ascending = λ node. releases_ascend s node (reached served);
}

pub listings_are_exact : {s : State} → IsServed s → ListingsAreExact s
listings_are_exact {s} served = record {
  nodes = λ t reply done. nodes_are_listed s t reply (reached served) done;
  clients = λ t reply done. clients_are_listed s t reply (reached served) done;
  servers = λ t reply done. servers_are_listed s t reply (reached served) done;
}

pub refusals_leave_the_state : {s : State} → IsServed s → RefusalsLeave s
refusals_leave_the_state {s} served = record {
  left = λ t command r done. refused_command_leaves s t command r (reached served) done;
}

pub runs_are_histories : {s : State} → IsServed s → RunsAreHistories s
runs_are_histories served = histories.runs_are_histories
