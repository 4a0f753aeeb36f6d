-- What the commands of a script have made so far.
use Rattle.std.specs.Prelude.{Bool, true, Option, None}
use Rattle.iox_model.specs.States.{State}

-- Two settings, and the service once it is created.
pub record SessionState : Type 0 where
  -- whether a full queue of requests pushes out its oldest
  pub request_overflow : Bool
  -- whether a full queue of responses pushes out its oldest
  pub response_overflow : Bool
  -- the machine that copies messages; None until the service is created
  pub service : Option State

-- the session before its first command: queues overflow, and there is no service
abbrev pub new_session : SessionState
new_session = record { request_overflow = true; response_overflow = true; service = None }
