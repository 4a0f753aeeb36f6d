-- Worked runs.
use Rattle.std.specs.Prelude.{◌≡◌, ◌-◌, ◌^◌, true, false, [], ◌∷◌, Some, None}
use Rattle.iox_model.specs.BackpressureStrategy.TheVariants as strategies
use Rattle.iox_model.specs.AllocationStrategy.TheVariants as allocations
use Rattle.iox_model.specs.declared.command.PortCommand.TheVariants as asks
use Rattle.iox_model.specs.declared.command.Command.TheVariants.{Port, DeclareDead, Cleanup, ListServers}
use Rattle.iox_model.specs.declared.reply.Refusal.TheVariants.{InvalidNodeId, LimitTooLarge, ExceedsMaxLoanSize, ExceedsMaxActiveRequests, UnableToDeliver, ExceedsMaxBorrows}
use Rattle.iox_model.specs.declared.reply.Reply.TheVariants.{Sent, Done, Nothing, Words, Answer, Listed, Refused}
use Rattle.iox_model.specs.declared.reply.Reply.TheVariants as replies
use Rattle.iox_model.specs.Runs.{IsCreation}
use Rattle.iox_model.specs.States.{State}
use Rattle.iox_model.specs.Defaults.{defaults, follow}
use Rattle.iox_laws.specs.WorkedExamples.Examples.{of_length_one, process, request_saying, a_response, Example}

-- Two responses to one request come in the order of their sending.
abbrev pub responds_in_order : Example
responds_in_order = record {
  limits = defaults;
  commands =
      Port (asks.SendCopy 0 0 (request_saying 123)) ∷ Port (asks.Receive 1 1)
      ∷ Port (asks.SendCopy 1 3 (a_response 456)) ∷ Port (asks.SendCopy 1 3 (a_response 789))
      ∷ Port (asks.Receive 0 2) ∷ Port (asks.Receive 0 2) ∷ Port (asks.Receive 0 2)
      ∷ Port (asks.Read 0 5) ∷ [];
  replies =
      replies.Handle 2 ∷ replies.Handle 3 ∷ Done ∷ Done ∷ replies.Handle 4 ∷ replies.Handle 5
      ∷ Nothing ∷ Words (789 ∷ []) ∷ [];
}

-- A full server gives up the older of two requests.
abbrev pub evicts_the_oldest : Example
evicts_the_oldest = record {
  limits = record defaults { active_requests = 1 };
  commands =
      Port (asks.SendCopy 0 0 (request_saying 7)) ∷ Port (asks.Release 0 2)
      ∷ Port (asks.SendCopy 0 0 (request_saying 8)) ∷ Port (asks.Receive 1 1) ∷ Port (asks.Read 1 4)
      ∷ Port (asks.Receive 1 1) ∷ [];
  replies =
      replies.Handle 2 ∷ Done ∷ replies.Handle 3 ∷ replies.Handle 4 ∷ Words (8 ∷ []) ∷ Nothing
      ∷ [];
}

-- A client with as many pending responses as it may sends no more.
abbrev pub keeps_the_active_limit : Example
keeps_the_active_limit = record {
  limits = record defaults { active_requests = 1 };
  commands =
      Port (asks.SendCopy 0 0 (request_saying 7)) ∷ Port (asks.SendCopy 0 0 (request_saying 8)) ∷ [];
  replies =
      replies.Handle 2 ∷ Refused ExceedsMaxActiveRequests ∷ [];
}

-- Without overflow a request to a full server is refused, and its message is free.
abbrev pub refuses_a_full_server : Example
refuses_a_full_server = record {
  limits = record defaults { active_requests = 1; request_overflow = false };
  commands =
      Port (asks.SendCopy 0 0 (request_saying 5)) ∷ Port (asks.Release 0 2)
      ∷ Port (asks.SendCopy 0 0 (request_saying 6)) ∷ Port (asks.Loan 0 0 1) ∷ [];
  replies =
      replies.Handle 2 ∷ Done ∷ Refused UnableToDeliver ∷ replies.Handle 3 ∷ [];
}

-- Where data is discarded, it is sent to nobody.
abbrev pub discards_for_a_full_server : Example
discards_for_a_full_server = record {
  limits = record defaults {
    active_requests = 1;
    request_overflow = false;
    client_strategy = strategies.DiscardData;
  };
  commands =
      Port (asks.SendCopy 0 0 (request_saying 5)) ∷ Port (asks.Release 0 2) ∷ Port (asks.Loan 0 0 1)
      ∷ Port (asks.Write 0 3 (request_saying 6)) ∷ Port (asks.Send 0 3) ∷ [];
  replies =
      replies.Handle 2 ∷ Done ∷ replies.Handle 3 ∷ Done ∷ Sent 0 ∷ [];
}

-- What a dead server delivered comes until its cleanup.
abbrev pub cleans_up_the_dead : Example
cleans_up_the_dead = record {
  limits = defaults;
  commands =
      Port (asks.SendCopy 0 0 (request_saying 9)) ∷ Port (asks.Receive 1 1)
      ∷ Port (asks.SendCopy 1 3 (a_response 456)) ∷ DeclareDead 1 ∷ Port (asks.Receive 0 2)
      ∷ Port (asks.IsConnected 0 2) ∷ Cleanup 1 ∷ Port (asks.IsConnected 0 2)
      ∷ Port (asks.Receive 0 2) ∷ ListServers ∷ [];
  replies =
      replies.Handle 2 ∷ replies.Handle 3 ∷ Done ∷ Done ∷ replies.Handle 4 ∷ Answer true ∷ Done
      ∷ Answer false ∷ Nothing ∷ Listed [] ∷ [];
}

-- With one response borrowed, the next is received only after its release.
abbrev pub keeps_the_borrow_limit : Example
keeps_the_borrow_limit = record {
  limits = record defaults { borrowed_responses = 1 };
  commands =
      Port (asks.SendCopy 0 0 (request_saying 1)) ∷ Port (asks.Receive 1 1)
      ∷ Port (asks.SendCopy 1 3 (a_response 10)) ∷ Port (asks.SendCopy 1 3 (a_response 11))
      ∷ Port (asks.Receive 0 2) ∷ Port (asks.Receive 0 2) ∷ Port (asks.Release 0 4)
      ∷ Port (asks.Receive 0 2) ∷ Port (asks.Read 0 5) ∷ [];
  replies =
      replies.Handle 2 ∷ replies.Handle 3 ∷ Done ∷ Done ∷ replies.Handle 4
      ∷ Refused ExceedsMaxBorrows ∷ Done ∷ replies.Handle 5 ∷ Words (11 ∷ []) ∷ [];
}

-- Without fire-and-forget a server is handed no request that its client gave up.
abbrev pub skips_a_stale_request : Example
skips_a_stale_request = record {
  limits = record defaults { fire_and_forget = false };
  commands =
      Port (asks.SendCopy 0 0 (request_saying 7)) ∷ Port (asks.Release 0 2) ∷ Port (asks.HasRequests 1 1)
      ∷ Port (asks.Receive 1 1) ∷ Port (asks.HasRequests 1 1) ∷ [];
  replies =
      replies.Handle 2 ∷ Done ∷ Answer true ∷ Nothing ∷ Answer false ∷ [];
}

-- Where the service says that a client's messages grow, a loan past the greatest length succeeds.
abbrev pub grows_as_the_service_says : Example
grows_as_the_service_says = record {
  limits = record defaults { client_allocation = allocations.BestFit };
  commands = Port (asks.Loan 0 0 33) ∷ [];
  replies = replies.Handle 2 ∷ [];
}

-- What the client's maker says of growing goes before what the service says, in both directions.
abbrev pub grows_as_its_maker_says : Example
grows_as_its_maker_says = record {
  limits = record defaults { client_allocation = allocations.BestFit };
  commands =
      Port (asks.Client 0 (process 0) (record of_length_one { allocation = Some allocations.Static }))
      ∷ Port (asks.Loan 0 2 33)
      ∷ Port (asks.Client 0 (process 0) (record of_length_one { allocation = Some allocations.PowerOfTwo }))
      ∷ Port (asks.Loan 0 3 33) ∷ [];
  replies =
      replies.Client 2 ∷ Refused ExceedsMaxLoanSize ∷ replies.Client 3 ∷ replies.Handle 4 ∷ [];
}

-- A server asks for a hint, before and after its client gives one; a client asks for a response.
abbrev pub asks_and_hints : Example
asks_and_hints = record {
  limits = defaults;
  commands =
      Port (asks.SendCopy 0 0 (request_saying 1)) ∷ Port (asks.Receive 1 1)
      ∷ Port (asks.HasHint 1 3) ∷ Port (asks.SetHint 0 2) ∷ Port (asks.HasHint 1 3)
      ∷ Port (asks.HasResponse 0 2) ∷ Port (asks.SendCopy 1 3 (a_response 10))
      ∷ Port (asks.HasResponse 0 2) ∷ Port (asks.IsConnected 1 3) ∷ [];
  replies =
      replies.Handle 2 ∷ replies.Handle 3 ∷ Answer false ∷ Done ∷ Answer true ∷ Answer false ∷ Done
      ∷ Answer true ∷ Answer true ∷ [];
}

-- ---- creations

-- A limit of 0 is raised to 1.
abbrev pub RaisesLimits : Type 0
RaisesLimits =
    (s : State) × IsCreation (record defaults { clients = 0; client_expired = 0 }) follow (process 1) None (replies.Node 0) (Some s)
    × (s.fixed.limits.clients ≡ 1) × (s.fixed.limits.client_expired ≡ 0)

-- A limit that is too large is refused.
abbrev pub RefusesLimits : Type 0
RefusesLimits =
    IsCreation (record defaults { nodes = 2 ^ 24 - 1 }) follow (process 1) None (Refused LimitTooLarge) None

-- An id that is not a node's id is refused.
abbrev pub RefusesIds : Type 0
RefusesIds = IsCreation defaults follow (process 0) None (Refused InvalidNodeId) None
