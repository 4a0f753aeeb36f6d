-- For a service and its hub: a pool that was not reduced suffices.
use Rattle.std.specs.Prelude.{◌≡◌, ℕ, ◌<◌, ◌≤◌, Bool, true, if◌then◌else◌, List, [], length, All, Some, None, ⊤}
use Rattle.iox_model.specs.declared.reply.Refusal.TheVariants.{OutOfMemory}
use Rattle.iox_model.specs.declared.reply.Reply.TheVariants.{Refused}
use Rattle.iox_model.specs.declared.command.Command.TheVariants.{Join}
use Rattle.iox_model.specs.declared.command.Command.TheVariants as commands
use Rattle.iox_model.specs.Begins.{start}
use Rattle.iox_model.specs.Commands.{Call, PortCommand, HubCommand, Create, Use, asking, number_of}
use Rattle.iox_model.specs.Doings.{refused, Loans, Ended}
use Rattle.iox_model.specs.Handles.{subject, Subject}
use Rattle.iox_model.specs.Loans.{Choice}
use Rattle.iox_model.specs.Makings.{worst_pool, IsHubCommand}
use Rattle.iox_model.specs.Names.{misnamed}
use Rattle.iox_model.specs.Outstandings.{kept}
use Rattle.iox_model.specs.Peers.{port_at}
use Rattle.iox_model.specs.Responses.{sends, loaned}
use Rattle.iox_model.specs.Runs.{ServiceStep, OfService, OfHub, IsHistory}
use Rattle.iox_model.specs.Services.{IsCommand}
use Rattle.iox_model.specs.Settings.{Limits}
use Rattle.iox_model.specs.States.{Port, Handle, Fixed, State}
use Rattle.iox_model.specs.WholeCalls.{IsWholeCall}
use Rattle.iox_laws.specs.WeavePools.PoolLaws.{IsUnreduced, lender}
use Rattle.iox_model.specs.Runs.{IsReachableState}
use Rattle.iox_laws.specs.RunPools.Decisions.{GotAllBack}

-- no pool of the node's ports was reduced
abbrev pub IsUnreducedNode : Fixed → ℕ → Type 0
IsUnreducedNode f node =
    (p : Port) → port_at f p.number ≡ Some p → p.node ≡ node → IsUnreduced f p

-- Where no pool of a node's ports was reduced, no whole call of the node is answered by
-- `OutOfMemory`.
abbrev pub NoCallRunsOut : Type 0
NoCallRunsOut =
    (s t : State) (node : ℕ) (call : Call) → IsReachableState s → IsUnreducedNode s.fixed node
    → IsWholeCall s node call (Refused OutOfMemory) t → ⊥

-- Where no pool of a node's ports was reduced, no command that the node asks of a hub is answered
-- by `OutOfMemory`.
abbrev pub NoPortCommandRunsOut : Type 0
NoPortCommandRunsOut =
    (s t : State) (node : ℕ) (command : HubCommand) → IsReachableState s
    → IsUnreducedNode s.fixed node
    → IsHubCommand s node command (Refused OutOfMemory) t → ⊥

-- Where no pool of a node's ports was reduced, no command that the node asks of a service is
-- answered by `OutOfMemory`.
abbrev pub NoCommandRunsOut : Type 0
NoCommandRunsOut =
    (s t : State) (command : PortCommand) → IsReachableState s
    → IsUnreducedNode s.fixed (asking command).0
    → IsCommand s (commands.Port command) (Refused OutOfMemory) t → ⊥

-- ---- a whole history

-- no pool of any port was reduced
abbrev pub IsUnreducedHub : Fixed → Type 0
IsUnreducedHub f = (p : Port) → port_at f p.number ≡ Some p → IsUnreduced f p

-- the maker of a port chooses no pool, or one that is no smaller than what the port needs
abbrev pub ChoosesEnough : Limits → HubCommand → Type 0
ChoosesEnough l (Create role id o) = (n : ℕ) → o.pool ≡ Some n → worst_pool l role o ≤ n
ChoosesEnough l (Use call) = ⊤

-- Whoever makes a port in this step chooses no smaller pool than it needs; and a join's own test of
-- types and attributes is not `OutOfMemory`.
abbrev pub ChoosesEnoughIn : Limits → ServiceStep → Type 0
ChoosesEnoughIn l (OfService (commands.Port command) reply) = ChoosesEnough l (asking command).1
ChoosesEnoughIn l (OfService (Join id asked) reply) = asked ≡ Some OutOfMemory → ⊥
ChoosesEnoughIn l (OfHub node command reply) = ChoosesEnough l command
ChoosesEnoughIn l x = ⊤

-- The step is answered by `OutOfMemory`. Fillings of loans and releases of values have no answer.
abbrev pub RunsOut : ServiceStep → Type 0
RunsOut (OfService command reply) = reply ≡ Refused OutOfMemory
RunsOut (OfHub node command reply) = reply ≡ Refused OutOfMemory
RunsOut x = ⊥

-- Where no pool is reduced, no step of a history is answered by `OutOfMemory`.
abbrev pub NoHistoryRunsOut : Type 0
NoHistoryRunsOut =
    (s t : State) (steps : List ServiceStep) → IsReachableState s → IsHistory s steps t
    → IsUnreducedHub s.fixed → All (ChoosesEnoughIn s.fixed.limits) steps
    → All (λ x. RunsOut x → ⊥) steps

-- ---- where the pool decides

-- Where a loan got back all there is and its pool was not reduced, its port keeps fewer messages
-- than the pool has.
abbrev pub KeepsLessThere : Type 0
KeepsLessThere =
    (now : State) (node : ℕ) (copies : Bool) (h : Handle) (p : Port)
    → GotAllBack now node copies h
    → port_at now.fixed h.port ≡ Some p → IsUnreduced now.fixed p
    → length (kept now h.port []) < p.pool

-- Where a loan got back all there is and its pool was not reduced, it finds a message. If it
-- copies, its send follows.
abbrev pub LoanSucceedsThere : Type 0
LoanSucceedsThere =
    (now : State) (node : ℕ) (copies : Bool) (h : Handle) (p : Port)
    → GotAllBack now node copies h
    → port_at now.fixed h.port ≡ Some p → IsUnreduced now.fixed p
    → loaned now copies h ≡ (if copies then sends now.fixed h true else Ended (Loans h))

-- Where there is nobody to get back from, the pool decides as the call begins. One that was not
-- reduced does not refuse.
abbrev pub BeginsSucceedThere : Type 0
BeginsSucceedThere =
    (s : State) (node : ℕ) (call : Call) (c : Choice) (x : Subject) (p : Port)
    → IsReachableState s → misnamed s.fixed node call ≡ None
    → subject s.fixed node (number_of call) ≡ Some x
    → port_at s.fixed (lender x) ≡ Some p → IsUnreduced s.fixed p
    → start s node c call ≡ refused OutOfMemory → ⊥
