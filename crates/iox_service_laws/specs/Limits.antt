-- No way has more than it may, and a loan within its limits finds a message.
use Rattle.std.specs.Prelude.{◌≡◌, ◌⊎◌, ℕ, ◌≤◌, true, length, Option, Some, None}
use Rattle.std.specs.Option.{option_map_or}
use Rattle.iox_model.specs.declared.call.Call.TheVariants.{Loan}
use Rattle.iox_model.specs.declared.command.Command.TheVariants.{Port}
use Rattle.iox_model.specs.declared.command.PortCommand.TheVariants as ports
use Rattle.iox_model.specs.declared.reply.Refusal.TheVariants.{OutOfMemory, UnknownNumber, WantOfMemory}
use Rattle.iox_model.specs.declared.reply.Reply.TheVariants.{Handle, Refused}
use Rattle.iox_model.specs.declared.way.Way.{Way}
use Rattle.iox_model.specs.Commands.{PortCommand, Refusal, Reply, asking}
use Rattle.iox_model.specs.Handles.{Subject, ThePort, TheHandle, new_number, subject}
use Rattle.iox_model.specs.Joins.{not_living}
use Rattle.iox_model.specs.Loans.{request_loan_refusal, response_loan_refusal}
use Rattle.iox_model.specs.Maps.{AreDistinct}
use Rattle.iox_model.specs.Names.{misnamed}
use Rattle.iox_model.specs.Peers.{borrow_limit_on, port_at}
use Rattle.iox_model.specs.Responses.{shape_for}
use Rattle.iox_model.specs.Services.{IsCommand, numbers_of_node}
use Rattle.iox_model.specs.Settings.{is_count}
use Rattle.iox_model.specs.States.{Fixed, State}
use Rattle.iox_model.specs.Weaves.{at_work}
use Rattle.iox_model.specs.WholeCalls.{spent}
use Rattle.iox_laws.specs.RunLaws.Resting.{buffer_to}
use Rattle.iox_laws.specs.RunPools.Finding.{IsUnreducedNode}
use Rattle.iox_laws.specs.WeaveLaws.Ledgers.{had_on}

-- At most the buffer waits on each way. A receiver has at most as many messages of each way as it
-- may borrow. No two ports and handles of a node have one number.
pub record LimitsHold (s : State) : Type 0 where
  pub buffers : (w : Way) → length (s.waiting w) ≤ buffer_to s.fixed w
  pub borrows : (w : Way) → length (had_on (at_work s) w) ≤ borrow_limit_on s.fixed w
  pub numbers : (node : ℕ) → AreDistinct (numbers_of_node s.fixed node)

-- Where no pool of a node's ports was reduced, no command of the node is answered by `OutOfMemory`.
pub record PoolsSuffice (s : State) : Type 0 where
  pub never :
      (t : State) (command : PortCommand) → IsUnreducedNode s.fixed (asking command).0
      → IsCommand s (Port command) (Refused OutOfMemory) t → ⊥

-- why a loan of so many elements is past a limit: by its length, then by how many loans there are
abbrev pub limits_refusal : Fixed → Subject → ℕ → Option Refusal
limits_refusal f (ThePort p) k = request_loan_refusal f p k
limits_refusal f (TheHandle h) k =
    option_map_or (λ p. response_loan_refusal f h p k) (port_at f h.port) (Some UnknownNumber)

-- The node may loan so many elements by that number: it lives, the number is of a client or an
-- active request of its own, and the loan is within all limits.
pub record MayLoan (s : State) (node n k : ℕ) : Type 0 where
  pub lives : not_living s node ≡ None
  pub suits : misnamed s.fixed node (Loan n k) ≡ None
  pub calls : spent s.fixed (Loan n k) ≡ None
  -- the port or handle of that number
  pub lender : Subject
  pub named : subject s.fixed node n ≡ Some lender
  pub count : is_count (shape_for s.fixed lender) k ≡ true
  pub limits : limits_refusal s.fixed lender k ≡ None

-- Where no pool of a node's ports was reduced, a loan within its limits is made, and has the next
-- number, or it finds no memory.
pub record LoansSucceed (s : State) : Type 0 where
  pub made :
      (t : State) (node n k : ℕ) (reply : Reply) → MayLoan s node n k
      → IsUnreducedNode s.fixed node → IsCommand s (Port (ports.Loan node n k)) reply t
      → (reply ≡ Handle (new_number s.fixed node)) ⊎ (reply ≡ Refused WantOfMemory)
