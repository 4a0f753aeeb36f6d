-- Worked runs in which servers go while their responses wait.
use Rattle.std.specs.Prelude.{[], ◌∷◌}
use Rattle.iox_model.specs.declared.command.PortCommand.TheVariants as asks
use Rattle.iox_model.specs.declared.command.Command.TheVariants.{Port}
use Rattle.iox_model.specs.declared.reply.Reply.TheVariants.{Done, Nothing, Words}
use Rattle.iox_model.specs.declared.reply.Reply.TheVariants as replies
use Rattle.iox_model.specs.Defaults.{defaults}
use Rattle.iox_laws.specs.WorkedExamples.Examples.{of_length_one, process, request_saying, a_response, Example}

-- Two servers answer and go: with room for two pairs, both responses come, the older first.
abbrev pub expires_two : Example
expires_two = record {
  limits = record defaults { client_expired = 2 };
  commands =
      Port (asks.Server 1 (process 0) of_length_one) ∷ Port (asks.SendCopy 0 0 (request_saying 5))
      ∷ Port (asks.Receive 1 1) ∷ Port (asks.Receive 1 2) ∷ Port (asks.SendCopy 1 4 (a_response 10))
      ∷ Port (asks.SendCopy 1 5 (a_response 20)) ∷ Port (asks.Release 1 1) ∷ Port (asks.Release 1 4)
      ∷ Port (asks.Release 1 2) ∷ Port (asks.Release 1 5) ∷ Port (asks.Receive 0 3)
      ∷ Port (asks.Receive 0 3) ∷ Port (asks.Receive 0 3) ∷ Port (asks.Read 0 6) ∷ Port (asks.Read 0 7)
      ∷ [];
  replies =
      replies.Server 2 ∷ replies.Handle 3 ∷ replies.Handle 4 ∷ replies.Handle 5 ∷ Done ∷ Done
      ∷ Done ∷ Done ∷ Done ∷ Done ∷ replies.Handle 6 ∷ replies.Handle 7 ∷ Nothing
      ∷ Words (10 ∷ []) ∷ Words (20 ∷ []) ∷ [];
}

-- Two servers answer and go: with room for one pair, only the response of the younger comes.
abbrev pub expires_one : Example
expires_one = record {
  limits = record defaults { client_expired = 1 };
  commands =
      Port (asks.Server 1 (process 0) of_length_one) ∷ Port (asks.SendCopy 0 0 (request_saying 5))
      ∷ Port (asks.Receive 1 1) ∷ Port (asks.Receive 1 2) ∷ Port (asks.SendCopy 1 4 (a_response 10))
      ∷ Port (asks.SendCopy 1 5 (a_response 20)) ∷ Port (asks.Release 1 1) ∷ Port (asks.Release 1 4)
      ∷ Port (asks.Release 1 2) ∷ Port (asks.Release 1 5) ∷ Port (asks.Receive 0 3)
      ∷ Port (asks.Receive 0 3) ∷ Port (asks.Read 0 6) ∷ [];
  replies =
      replies.Server 2 ∷ replies.Handle 3 ∷ replies.Handle 4 ∷ replies.Handle 5 ∷ Done ∷ Done
      ∷ Done ∷ Done ∷ Done ∷ Done ∷ replies.Handle 6 ∷ Nothing ∷ Words (20 ∷ []) ∷ [];
}

-- Two servers answer and go: with room for no pair, neither response comes.
abbrev pub expires_none : Example
expires_none = record {
  limits = record defaults { client_expired = 0 };
  commands =
      Port (asks.Server 1 (process 0) of_length_one) ∷ Port (asks.SendCopy 0 0 (request_saying 5))
      ∷ Port (asks.Receive 1 1) ∷ Port (asks.Receive 1 2) ∷ Port (asks.SendCopy 1 4 (a_response 10))
      ∷ Port (asks.SendCopy 1 5 (a_response 20)) ∷ Port (asks.Release 1 1) ∷ Port (asks.Release 1 4)
      ∷ Port (asks.Release 1 2) ∷ Port (asks.Release 1 5) ∷ Port (asks.Receive 0 3) ∷ [];
  replies =
      replies.Server 2 ∷ replies.Handle 3 ∷ replies.Handle 4 ∷ replies.Handle 5 ∷ Done ∷ Done
      ∷ Done ∷ Done ∷ Done ∷ Done ∷ Nothing ∷ [];
}
