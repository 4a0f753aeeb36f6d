-- What messages are made of stays as it is.
use Rattle.std.specs.Prelude.{ℕ, List, Option, Some, None, IsSome, MatchOption, Result, Ok, Err, IfOk, OnErr}
use Rattle.std.specs.declared.vec.Vec.{Vec}
use Rattle.std.proofs.Common.{sym, subst}
use Rattle.iox_model.specs.declared.command.PortCommand as the_command
use Rattle.iox_model.specs.declared.reply.PortReply as the_reply
use Rattle.iox_model.specs.Commands.{HubCommand, PortReply, answer_of, asking}
use Rattle.iox_model.specs.Makings.{IsHubCommand}
use Rattle.iox_hub.specs.Hubs.{HubState, nothing_given, state_of_hub}
use Rattle.iox_hub.specs.Keeping.{HaveSameShapes}
use Rattle.iox_hub.proofs.ShapesStay.{command_shapes}
use Rattle.iox_port_commands.specs.declared.elements.Elements.{Elements}
use Rattle.iox_port_commands.specs.Applying.{HaveDefaults, IsApplied, IsReplied, LacksMemoryFor}
use Rattle.iox_port_commands.specs.Asking.{command_for}
use Rattle.iox_port_commands.specs.Memory.{want_of}
use Rattle.iox_port_commands.specs.Telling.{reply_told}

-- after what is answered so
pub shapes_stay : {C Z : Type 0} (old new : HubState) (node : ℕ) (command : HubCommand) (reply : the_reply.PortReply (Vec ℕ Z) C)
    → IsReplied old node command reply new → HaveSameShapes old new
shapes_stay old new node command reply whole = step (reply_told reply) (whole (nothing_given old))
  where
    step : (o : Option PortReply)
        → MatchOption o ⊥ (λ q. IsHubCommand (state_of_hub (nothing_given old) old) node command (answer_of q) (state_of_hub (nothing_given old) new))
        → HaveSameShapes old new
    step (Some q) w = command_shapes (nothing_given old) old new node command (answer_of q) w
    step None w = absurd w

-- after a command, whether there was memory or not
pub shapes_after : {Q P H C Z E : Type 0} (q : Q → List ℕ) (p : P → List ℕ) (words : H → List ℕ) (old new : HubState)
    (command : the_command.PortCommand (Elements Q P) H) (r : Result (the_reply.PortReply (Vec ℕ Z) C) E)
    → IfOk r (λ reply. IsApplied q p words old command reply new) → OnErr r (LacksMemoryFor q p words old command new)
    → HaveSameShapes old new
shapes_after q p words old new command (Ok reply) whole lacks =
    shapes_stay old new (asking (command_for q p words command)).0 (asking (command_for q p words command)).1 reply whole
shapes_after q p words old new command (Err e) whole lacks =
    let (node, asked) = asking (command_for q p words command) in
    command_shapes (nothing_given old) old new node asked (want_of asked) (lacks (nothing_given old))

pub defaults_stay : (old new : HubState) → HaveSameShapes old new → HaveDefaults old → HaveDefaults new
defaults_stay old new same have = record {
  request = subst (λ s. IsSome s.default) (sym same.request) have.request;
  response = subst (λ s. IsSome s.default) (sym same.response) have.response;
}
