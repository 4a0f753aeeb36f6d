-- From one state a call has only one reply, whatever lane it takes and in whatever order it visits
-- its ways.
use Rattle.std.specs.Prelude.{◌≡◌, ℕ, Bool, true, false, Option, None, ◌⊎◌}
use Rattle.iox_model.specs.UniqueSystemId.{UniqueSystemId}
use Rattle.iox_model.specs.declared.call.Call.TheVariants.{Read}
use Rattle.iox_model.specs.declared.kind.Role.{Role}
use Rattle.iox_model.specs.declared.reply.Refusal.TheVariants.{WantOfMemory, UnableToCreateDataSegment}
use Rattle.iox_model.specs.declared.reply.Reply.TheVariants.{Refused}
use Rattle.iox_model.specs.Begins.{lends_lane}
use Rattle.iox_model.specs.Commands.{Refusal, Reply, Call, Options, HubCommand, Command}
use Rattle.iox_model.specs.Joins.{IsOpening}
use Rattle.iox_model.specs.Makings.{IsMaking, IsHubCommand}
use Rattle.iox_model.specs.Names.{misnamed}
use Rattle.iox_model.specs.Runs.{IsReachableState}
use Rattle.iox_model.specs.Services.{IsCommand}
use Rattle.iox_model.specs.States.{State}
use Rattle.iox_model.specs.Weaves.{World}
use Rattle.iox_model.specs.WholeCalls.{IsDone}
use Rattle.iox_laws.specs.WeaveWorlds.Worlds.{IsReachable}

-- ---- where memory is there

-- A call that is made twice from one reachable state, with any choices and moments, has the same
-- reply.
abbrev pub CallsHaveOneReply : Type 0
CallsHaveOneReply =
    (s t u : State) (node : ℕ) (call : Call) (a b : Reply) → IsReachableState s
    → misnamed s.fixed node call ≡ None
    → (one : IsDone s node call a t) (other : IsDone s node call b u)
    → (one.0).memory ≡ true → (other.0).memory ≡ true → a ≡ b

-- The making of a port, made twice from one state, has the same reply.
abbrev pub MakingsHaveOneReply : Type 0
MakingsHaveOneReply =
    (s t u : State) (node : ℕ) (role : Role) (id : UniqueSystemId) (o : Options) (a b : Reply)
    → (one : IsMaking s node role id o a t) (other : IsMaking s node role id o b u)
    → one.0 ≡ true → other.0 ≡ true → a ≡ b

-- A join, made twice from one state with the same test of types and attributes, has the same reply.
abbrev pub JoinsHaveOneReply : Type 0
JoinsHaveOneReply =
    (s t u : State) (id : UniqueSystemId) (asked : Option Refusal) (a b : Reply)
    → (one : IsOpening s id asked a t) (other : IsOpening s id asked b u)
    → one.0 ≡ true → other.0 ≡ true → a ≡ b

-- On a wire, a call with no beats of other nodes in between has only one reply, from each reachable
-- world in which its node is between calls.
abbrev pub WireCallsHaveOneReply : Type 0
WireCallsHaveOneReply =
    (w : World) (t u : State) (node : ℕ) (call : Call) (a b : Reply) → IsReachable w
    → w.doing node ≡ None → misnamed w.state.fixed node call ≡ None
    → IsDone w.state node call a t → IsDone w.state node call b u → a ≡ b

-- ---- where memory may be missing

-- whether a call takes memory: a loan, or a read
abbrev pub takes_memory : Call → Bool
takes_memory (Read n) = true
takes_memory call = lends_lane call

-- Without memory, a call that takes some may be refused by `WantOfMemory` in place of that reply.
-- Any other call has that reply.
abbrev pub OnlyWantIsToldInstead : Type 0
OnlyWantIsToldInstead =
    (s t u : State) (node : ℕ) (call : Call) (a b : Reply) → IsReachableState s
    → misnamed s.fixed node call ≡ None
    → (one : IsDone s node call a t) (other : IsDone s node call b u)
    → (one.0).memory ≡ true → (b ≡ a) ⊎ ((takes_memory call ≡ true) × (b ≡ Refused WantOfMemory))

-- ---- commands

-- the replies that say that there was no memory
abbrev pub tells_want : Reply → Bool
tells_want (Refused WantOfMemory) = true
tells_want (Refused UnableToCreateDataSegment) = true
tells_want reply = false

-- the replies are the same, unless one of them says that there was no memory
abbrev pub AreOne : Reply → Reply → Type 0
AreOne a b = tells_want a ≡ false → tells_want b ≡ false → a ≡ b

-- A hub's command, made twice from one reachable state, has the same reply, unless memory was
-- missing.
abbrev pub HubCommandsHaveOneReply : Type 0
HubCommandsHaveOneReply =
    (s t u : State) (node : ℕ) (command : HubCommand) (a b : Reply) → IsReachableState s
    → IsHubCommand s node command a t → IsHubCommand s node command b u → AreOne a b

-- A service's command, made twice from one reachable state, has the same reply, unless memory was
-- missing.
abbrev pub CommandsHaveOneReply : Type 0
CommandsHaveOneReply =
    (s t u : State) (command : Command) (a b : Reply) → IsReachableState s
    → IsCommand s command a t → IsCommand s command b u → AreOne a b
