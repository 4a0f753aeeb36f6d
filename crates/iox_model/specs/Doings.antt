-- What a call under way has yet to do, and what a finished call changes.
use Rattle.std.specs.Prelude.{ℕ, Bool, List, Option}
use Rattle.iox_model.specs.declared.kind.Role.{Role}
use Rattle.iox_model.specs.declared.way.Way.{Way}
use Rattle.iox_model.specs.declared.reply.Reply.TheVariants.{Refused}
use Rattle.iox_model.specs.States.{Handle}
use Rattle.iox_model.specs.Commands.{Refusal, Reply}
use Rattle.iox_model.specs.Messages.{Message}

-- Who receives: a server, or a pending response by its lane and its request.
pub record Receiver : Type 0 where
  -- the client or server that receives
  pub port : ℕ
  pub role : Role
  -- of a pending response: its lane, and the id of its request
  pub lane : ℕ
  pub request : ℕ

-- A send, with all that it needs of its port, fixed at its begin.
pub record Sending : Type 0 where
  -- the loan that is sent
  pub loan : Handle
  -- whether the same call made the loan, so that it is no handle yet
  pub copied : Bool
  -- the ports that it goes to
  pub to : List ℕ
  -- whether a new message pushes out the oldest that waits; if not, at which full receivers the
  -- send fails
  pub overflow : Bool
  pub fails : Way → Bool

-- What a finished call changes.
pub data Outcome : Type 0 where
  -- nothing: it only answers
  Tells : (reply : Reply) → Outcome
  -- a new loan
  Loans : (loan : Handle) → Outcome
  -- the loan as it is filled now
  Fills : (loan : Handle) → Outcome
  -- the loan is sent, to so many; or it is given up
  Sends : (loan : Handle) (copied : Bool) (count : ℕ) → Outcome
  FailsToSend : (loan : Handle) (copied : Bool) (refusal : Refusal) → Outcome
  Receives : (receiver : Receiver) (way : Way) (message : Message) → Outcome
  -- the handle, or the port's own value, is released
  Drops : (handle : Handle) → Outcome
  DropsPort : (port : ℕ) → Outcome
  -- the dead node is forgotten
  Forgets : (dead : ℕ) → Outcome

-- What a call has yet to do. `left` are the ways that it has yet to visit, in any order.
pub data Doing : Type 0 where
  Ended : (outcome : Outcome) → Doing
  -- a loan gets back what it can; if it copies, a send follows
  Loaning : (copies : Bool) (loan : Handle) (left : List Way) → Doing
  -- a response asks whether its request is still named
  Asking : (send : Sending) → Doing
  -- a send gets back what it can
  Emptying : (send : Sending) (left : List Way) → Doing
  -- it looks which queues are full; `full` are the ways seen full
  Looking : (send : Sending) (left full : List Way) → Doing
  -- a request opens its states
  Opening : (send : Sending) (left full : List Way) → Doing
  -- it delivers; the way of its last delivery may still be overfull, and then it evicts there
  Delivering : (send : Sending) (last : Option Way) (left : List Way) (count : ℕ) → Doing
  -- it gets back what it evicted
  Evicted : (send : Sending) (way : Way) (left : List Way) (count : ℕ) → Doing
  -- a receive visits a way, `waiting` if it saw a message where it may have no more
  Visiting : (receiver : Receiver) (left : List Way) (waiting : Bool) → Doing
  -- it continues on the way where it took what did not fit
  Again : (receiver : Receiver) (way : Way) (left : List Way) (waiting : Bool) → Doing
  -- it asks whether the request that it took is still named
  Judging : (receiver : Receiver) (way : Way) (message : Message) (left : List Way) (waiting : Bool)
      → Doing
  -- it gives back what does not fit
  Stale : (receiver : Receiver) (way : Way) (message : Message) (left : List Way) (waiting : Bool)
      → Doing
  -- the release of a pending response closes its states
  Closing : (handle : Handle) (left : List Way) → Doing
  -- the release of what was received gives it back, and that of a request then closes its state
  Returning : (handle : Handle) → Doing
  Leaving : (handle : Handle) → Doing
  -- a look for a state that names the request, with a hint or without
  Checking : (handle : Handle) (hinted : Bool) (left : List Way) → Doing
  -- hints are given
  Hinting : (handle : Handle) (left : List Way) → Doing
  -- a look for a message that waits
  Seeking : (left : List Way) → Doing

-- the call ends, refused
abbrev pub refused : Refusal → Doing
refused r = Ended (Tells (Refused r))
