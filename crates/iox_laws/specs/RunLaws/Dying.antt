-- A node that died or left does not live again.
use Rattle.std.specs.Prelude.{◌≡◌, ℕ, nat_lt, List, Some, IsTrue}
use Rattle.iox_model.specs.declared.command.Command.TheVariants.{Port}
use Rattle.iox_model.specs.declared.reply.Reply.TheVariants.{Refused}
use Rattle.iox_model.specs.Commands.{Refusal, Reply, PortCommand, asking}
use Rattle.iox_model.specs.Joins.{not_living}
use Rattle.iox_model.specs.Runs.{ServiceStep, IsHistory}
use Rattle.iox_model.specs.Services.{IsCommand}
use Rattle.iox_model.specs.States.{State}

-- Once a node that had joined is not living, then whatever history follows, each later command of
-- that node is refused by the service and changes nothing.
abbrev pub TheDeadStayDead : Type 0
TheDeadStayDead =
    (s t u : State) (xs : List ServiceStep) (node : ℕ) (r : Refusal)
    → IsTrue (nat_lt node s.members.joins) → not_living s node ≡ Some r → IsHistory s xs t
    → (command : PortCommand) (reply : Reply) → (asking command).0 ≡ node → IsCommand t (Port command) reply u
    → (q : Refusal) × (reply ≡ Refused q) × (u ≡ t)
