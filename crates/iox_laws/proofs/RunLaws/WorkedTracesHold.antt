-- The worked history holds: it is played, and its trace is what was put and taken.
use Rattle.std.specs.Prelude.{ℕ, true, [], Option, Some, None, refl}
use Rattle.iox_model.specs.declared.call.Call.TheVariants.{SendCopy, Receive}
use Rattle.iox_model.specs.declared.kind.Role.TheVariants.{Client, Server}
use Rattle.iox_model.specs.declared.reply.Reply.TheVariants as replies
use Rattle.iox_model.specs.declared.reply.Reply.TheVariants.{Nothing}
use Rattle.iox_model.specs.Begins.{start}
use Rattle.iox_model.specs.Commands.{Call}
use Rattle.iox_model.specs.Counts.{with_fixed}
use Rattle.iox_model.specs.Doings.{Outcome, Tells}
use Rattle.iox_model.specs.Ends.{settled}
use Rattle.iox_model.specs.Makings.{new_port, with_port}
use Rattle.iox_model.specs.Runs.{IsHistory}
use Rattle.iox_model.specs.Defaults.{defaults}
use Rattle.iox_laws.specs.WorkedExamples.Examples.{of_length_one, process, service, request_saying}
use Rattle.iox_model.specs.States.{State}
use Rattle.iox_model.specs.WholeCalls.{moved_by, IsDone}
use Rattle.iox_laws.specs.WeaveLaws.Laws.{on_lane}
use Rattle.iox_laws.proofs.WeaveLaws.PlayedCalls.{many, moments, end_of}
use Rattle.iox_laws.proofs.WeaveLaws.Plays.{played_may_come}
use Rattle.iox_laws.specs.RunLaws.WorkedTraces.{receives_one_of_two, TracesTheRequests}

-- what the call comes to, and the state that it leaves
abbrev pub outcome : Option Outcome → Outcome
outcome (Some o) = o
outcome None = Tells Nothing

abbrev pub left : State → ℕ → Call → ℕ → State
left s node call lane = settled (moved_by s (moments s node call (on_lane lane))) node [] (outcome (end_of s node call (on_lane lane)))

abbrev pub s0 : State
s0 = service defaults

abbrev pub s1 : State
s1 = with_fixed s0 (with_port s0.fixed (new_port s0.fixed 0 Client (process 1) of_length_one))

abbrev pub s2 : State
s2 = with_fixed s1 (with_port s1.fixed (new_port s1.fixed 1 Server (process 2) of_length_one))

abbrev pub s3 : State
s3 = left s2 0 (SendCopy 0 (request_saying 7)) 0

abbrev pub s4 : State
s4 = left s3 0 (SendCopy 0 (request_saying 8)) 1

abbrev pub s5 : State
s5 = left s4 1 (Receive 1) 0

abbrev pub sent_first : IsDone s2 0 (SendCopy 0 (request_saying 7)) (replies.Handle 2) s3
sent_first = (
  on_lane 0,
  (refl, refl),
  moments s2 0 (SendCopy 0 (request_saying 7)) (on_lane 0),
  played_may_come many s2 0 (start s2 0 (on_lane 0) (SendCopy 0 (request_saying 7))),
  outcome (end_of s2 0 (SendCopy 0 (request_saying 7)) (on_lane 0)),
  refl,
  [],
  tt,
  refl,
  refl,
)

abbrev pub sent_second : IsDone s3 0 (SendCopy 0 (request_saying 8)) (replies.Handle 3) s4
sent_second = (
  on_lane 1,
  (refl, refl),
  moments s3 0 (SendCopy 0 (request_saying 8)) (on_lane 1),
  played_may_come many s3 0 (start s3 0 (on_lane 1) (SendCopy 0 (request_saying 8))),
  outcome (end_of s3 0 (SendCopy 0 (request_saying 8)) (on_lane 1)),
  refl,
  [],
  tt,
  refl,
  refl,
)

abbrev pub received : IsDone s4 1 (Receive 1) (replies.Handle 4) s5
received = (
  on_lane 0,
  (refl, refl),
  moments s4 1 (Receive 1) (on_lane 0),
  played_may_come many s4 1 (start s4 1 (on_lane 0) (Receive 1)),
  outcome (end_of s4 1 (Receive 1) (on_lane 0)),
  refl,
  [],
  tt,
  refl,
  refl,
)

abbrev history : IsHistory s0 receives_one_of_two s5
history = (s1, (true, (refl, refl)), (s2, (true, (refl, refl)), (s3, sent_first, (s4, sent_second, (s5, received, refl)))))

pub traces_the_requests : TracesTheRequests
traces_the_requests = (s5, history, refl, refl)
