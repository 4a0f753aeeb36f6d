-- Scripts worked by hand: what the definitions say of them.
use Rattle.std.proofs.Common.{ℕ, true, false, [], ◌∷◌, Some, Ok, Err, codes, refl}
use Rattle.std.specs.Fmt.{digits}
use Rattle.iox_types.specs.declared.identifiers.system_id.UniqueSystemId.{UniqueSystemId}
use Rattle.iox_model.specs.declared.backpressure.BackpressureAction.TheVariants.{FollowBackpressureStrategy}
use Rattle.iox_model.specs.declared.kind.Role.TheVariants.{Client}
use Rattle.iox_model.specs.declared.reply.Reply.TheVariants.{Done, Node}
use Rattle.iox_model.specs.declared.reply.Reply.TheVariants as replies
use Rattle.iox_model.specs.Counts.{with_fixed}
use Rattle.iox_model.specs.Joins.{joined, with_members}
use Rattle.iox_model.specs.Makings.{new_port, with_port}
use Rattle.iox_model.specs.Runs.{created}
use Rattle.iox_model.specs.States.{State}
use Rattle.iox_script.specs.Hex.{decode_pairs}
use Rattle.iox_script.specs.declared.command.LineCause.TheVariants.{UnknownCommand, WrongCount, BadNumber}
use Rattle.iox_script.specs.declared.reply.ScriptReply.TheVariants.{Service}
use Rattle.iox_script.specs.Grammar.{options_of}
use Rattle.iox_session.specs.Answers.{options_given}
use Rattle.iox_session.specs.Limits.{limits_with}
use Rattle.iox_session.specs.SessionStates.{SessionState, new_session}
use Rattle.iox_session.specs.Sessions.{with_service}
use Rattle.iox_run.specs.Answers.{IsTextOf}

-- no line, no answer
nothing : IsTextOf [] []
nothing = ([], new_session, refl, refl)

-- lines that say no command, the last without its line feed
bad_lines : IsTextOf (codes "\nset request-overflow x\nclient 0") (codes "bad line 1: unknown command\nbad line 2: bad number\nbad line 3: wrong count\n")
unfolding digits
bad_lines = (
  Err UnknownCommand ∷ Err BadNumber ∷ Err WrongCount ∷ [],
  new_session,
  (new_session, (refl, refl), (new_session, (refl, refl), (new_session, (refl, refl), refl))),
  refl,
)

-- the session once `set request-overflow 0` is played
abbrev one_setting : SessionState
one_setting = record new_session { request_overflow = false }

abbrev id : ℕ → UniqueSystemId
id n = record { process = n; seconds = 0; nanoseconds = 0; counter = 0 }

-- a service with its first node, then with a second one, and then with a client of the second
abbrev one_node : State
one_node = created (limits_with false true) (λ words sender receiver. FollowBackpressureStrategy) (id 1)

abbrev two_nodes : State
two_nodes = with_members one_node (joined one_node.members (id 2))

abbrev one_client : State
one_client =
    with_fixed two_nodes (with_port two_nodes.fixed (new_port two_nodes.fixed 1 Client (id 2) (options_given (options_of 7))))

-- a setting, a creation, a node that joins, and its client
a_client_is_made : IsTextOf (codes "set request-overflow 0\ncreate 61 1 0 0 0\nopen 2 0 0 0\nclient 1 7\n") (codes "ok\nnode 0\nnode 1\nclient 0\n")
unfolding digits decode_pairs
a_client_is_made = (
  Ok (Service Done) ∷ Ok (Service (Node 0)) ∷ Ok (Service (Node 1)) ∷ Ok (Service (replies.Client 0)) ∷ [],
  with_service one_setting (Some one_client),
  (
    one_setting,
    (refl, refl),
    (
      with_service one_setting (Some one_node),
      (Some one_node, record { answer = Node 0; told = refl; creation = (refl, refl) }, refl),
      (
        with_service one_setting (Some two_nodes),
        record { answer = Node 1; told = refl; state = two_nodes; left = refl; served = record { done = (true, (refl, refl)); memory = tt } },
        (
          with_service one_setting (Some one_client),
          record { answer = replies.Client 0; told = refl; state = one_client; left = refl; served = record { done = (true, (refl, refl)); memory = tt } },
          refl,
        ),
      ),
    ),
  ),
  refl,
)
