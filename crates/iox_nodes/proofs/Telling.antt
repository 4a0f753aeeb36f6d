-- What a call is answered is what its command is answered.
use Rattle.std.specs.Prelude.{◌≡◌, ℕ, List, Option, Result, Ok, Err, refl}
use Rattle.std.specs.declared.vec.Vec.{Vec}
use Rattle.std.proofs.Common.{subst, sym}
use Rattle.iox_types.specs.declared.identifiers.system_id.UniqueSystemId.{UniqueSystemId}
use Rattle.iox_model.specs.declared.command.Command as the_command
use Rattle.iox_model.specs.declared.command.Command.TheVariants as commands
use Rattle.iox_model.specs.declared.reply.Refusal as the_refusal
use Rattle.iox_model.specs.declared.reply.Reply as the_reply
use Rattle.iox_model.specs.declared.reply.Reply.TheVariants as replies
use Rattle.iox_model.specs.Commands.{Cause, Command}
use Rattle.iox_model.specs.Services.{IsCommand}
use Rattle.iox_model.specs.States.{State}
use Rattle.iox_members.specs.Steps.{answer_in}
use Rattle.iox_port_commands.specs.declared.elements.Elements.{Elements}
use Rattle.iox_nodes.specs.Given.{command_given, reply_given, reply_to}
use Rattle.iox_nodes.specs.Served.{IsAnswered, IsDoneOrRefused, IsJoin}

answer_given : {C X Z : Type 0} (cause : C → Cause) (reply : X → the_reply.Reply (Vec ℕ Z) C) (result : Result X (the_refusal.Refusal C))
    → answer_in cause (λ x. reply_given cause (reply x)) result ≡ reply_given cause (reply_to reply result)
answer_given cause reply (Ok x) = refl
answer_given cause reply (Err r) = refl

pub join_answered :
    {Q P H C Z : Type 0} (q : Q → List ℕ) (p : P → List ℕ) (w : H → List ℕ) (s s' : State)
    (command : the_command.Command (Elements Q P) H (Option (the_refusal.Refusal C))) (id : UniqueSystemId) (asked : Option (the_refusal.Refusal C))
    (result : Result ℕ (the_refusal.Refusal C)) (reply : the_reply.Reply (Vec ℕ Z) C)
    → command ≡ commands.Join id asked → reply ≡ reply_to replies.Node result → IsJoin s id asked result s' → IsAnswered q p w s command reply s'
join_answered {C = C} {Z = Z} q p w s s' command id asked result reply is told done cause =
    subst (λ c. IsCommand s (command_given q p w cause c) (reply_given cause reply) s') (sym is)
    (subst (λ r. IsCommand s (command_given q p w cause (commands.Join id asked)) (reply_given cause r) s') (sym told)
    (subst (λ r. IsCommand s (command_given q p w cause (commands.Join id asked)) r s') (answer_given {Z = Z} cause replies.Node result) (done cause)))

pub done_answered :
    {Q P H C X Z : Type 0} (q : Q → List ℕ) (p : P → List ℕ) (w : H → List ℕ) (s s' : State)
    (command plain : the_command.Command (Elements Q P) H (Option (the_refusal.Refusal C))) (c : Command) (result : Result X (the_refusal.Refusal C))
    (reply : the_reply.Reply (Vec ℕ Z) C) → command ≡ plain → ((cause : C → Cause) → command_given q p w cause plain ≡ c)
    → reply ≡ reply_to (λ x. replies.Done) result → IsDoneOrRefused s c result s' → IsAnswered q p w s command reply s'
done_answered {C = C} {Z = Z} q p w s s' command plain c result reply is means told done cause =
    subst (λ d. IsCommand s (command_given q p w cause d) (reply_given cause reply) s') (sym is)
    (subst (λ d. IsCommand s d (reply_given cause reply) s') (sym (means cause))
    (subst (λ r. IsCommand s c (reply_given cause r) s') (sym told)
    (subst (λ r. IsCommand s c r s') (answer_given {Z = Z} cause (λ x. replies.Done) result) (done cause))))
