-- Creators and openers are asked what the description says.
use Rattle.std.specs.Prelude.{◌≡◌, ℕ, List, Option, Result, Ok, Err, OnErr, refl}
use Rattle.std.proofs.Common.{subst, sym, ◌∙◌}
use Rattle.iox_types.specs.declared.identifiers.system_id.UniqueSystemId.{UniqueSystemId}
use Rattle.iox_attributes.specs.Verifiers.{Requirements}
use Rattle.iox_attributes.specs.declared.verification_error.AttributeVerificationError.{AttributeVerificationError}
use Rattle.iox_model.specs.declared.command.Command as the_command
use Rattle.iox_model.specs.declared.command.Command.TheVariants as commands
use Rattle.iox_model.specs.declared.command.PortCommand as the_port_command
use Rattle.iox_model.specs.declared.reply.Refusal as the_refusal
use Rattle.iox_model.specs.Commands.{Command, Reply}
use Rattle.iox_model.specs.Settings.{Limits}
use Rattle.iox_model.specs.States.{State}
use Rattle.iox_service_laws.specs.MessageShape.{MessageShape}
use Rattle.iox_openers.specs.Causes.{as_refusal, cause_of}
use Rattle.iox_openers.specs.Openers.{FailsFirst, IsAskedOfCreator, opener}
use Rattle.iox_openers.specs.declared.message_types.MessageTypes.{MessageTypes}
use Rattle.iox_openers.specs.declared.service_description.ServiceDescription.{ServiceDescription}
use Rattle.iox_service_laws.specs.Asking.{command_for}
use Rattle.iox_service_laws.specs.Elements.{Elements}
use Rattle.iox_service_laws.specs.Given.{command_given, reply_given}
use Rattle.iox_service_laws.specs.Memory.{WantsRightly, WantsToGrow}
use Rattle.iox_service_laws.specs.Memory as nodes_memory
use Rattle.iox_service_laws.specs.Served.{IsCreated, IsJoin, IsPortAnswered}
use Rattle.iox_service_laws.specs.Shown.{ServiceTables}
use Rattle.iox_service_laws.specs.Shown as nodes
use Rattle.iox_service_laws.proofs.Wanting.{given_wants, port_given_wants}
use Rattle.iceoryx2_wire.specs.Services.{DescribedService, IsMade, IsOpened}
use Rattle.iceoryx2_wire.specs.Serving.{IsAnswered, IsGivenAs, OpenCommand, OpenReply, WantsToGrowFor}
use Rattle.iceoryx2_wire.specs.declared.identity.ServiceIdentity.{ServiceIdentity}

-- that service with this description and these nodes
abbrev pub with_nodes : ServiceIdentity → ServiceDescription → ServiceTables → DescribedService
with_nodes i d v = record { identity = i; description = d; nodes = v }

pub made_so : (l : Limits) (own : MessageTypes) (i : ServiceIdentity) (d : ServiceDescription) (id : UniqueSystemId) (v : ServiceTables)
    (asked : Option (the_refusal.Refusal AttributeVerificationError)) → IsAskedOfCreator own d.types (as_refusal asked)
    → IsCreated l id asked (Ok v) → IsMade l own i d id (Ok (with_nodes i d v))
made_so l own i d id v asked tests done =
    record { asked = as_refusal asked; tests = tests; creation = done cause_of; says = refl; named = refl }

-- the same creation, where messages are made of these
pub with_shapes : {C E H F G : Type 0} (l : MessageShape E H → MessageShape F G → Limits) (m m' : MessageShape E H) (n n' : MessageShape F G)
    (id : UniqueSystemId) (asked : Option (the_refusal.Refusal C)) (result : Result ServiceTables (the_refusal.Refusal C))
    → m ≡ m' → n ≡ n' → IsCreated (l m n) id asked result → IsCreated (l m' n') id asked result
with_shapes {C = C} l m m' n n' id asked result e e' made =
    subst (λ x. IsCreated {C = C} (l x n') id asked result) e (subst (λ x. IsCreated {C = C} (l m x) id asked result) e' made)

pub not_made_so : (l : Limits) (own : MessageTypes) (i : ServiceIdentity) (d : ServiceDescription) (id : UniqueSystemId) (r : the_refusal.Refusal AttributeVerificationError)
    (asked : Option (the_refusal.Refusal AttributeVerificationError)) → IsAskedOfCreator own d.types (as_refusal asked)
    → IsCreated l id asked (Err r) → IsMade l own i d id (Err r)
not_made_so l own i d id r asked tests done =
    record { asked = as_refusal asked; tests = tests; creation = done cause_of; says = tt; named = tt }

pub opened_so : (i : ServiceIdentity) (d : ServiceDescription) (v w : ServiceTables) (types : MessageTypes) (required : Requirements) (id : UniqueSystemId)
    (asked : Option (the_refusal.Refusal AttributeVerificationError)) (result : Result ℕ (the_refusal.Refusal AttributeVerificationError))
    → FailsFirst d (opener types required) (as_refusal asked) → IsJoin (nodes.service_of v) id asked result (nodes.service_of w)
    → IsOpened (with_nodes i d v) types required id result (with_nodes i d w)
opened_so i d v w types required id asked result tests joined =
    record { asked = as_refusal asked; tests = tests; join = joined cause_of; says = refl; named = refl }

pub if_err : {A E P Q : Type 0} (r : Result A E) → (P → Q) → OnErr r P → OnErr r Q
if_err (Ok x) f p = tt
if_err (Err e) f p = f p

pub port_answered :
    {Q P H Z : Type 0} (q : Q → List ℕ) (p : P → List ℕ) (w : H → List ℕ) (d : ServiceDescription) (s s' : State)
    (command : OpenCommand Q P H) (at_port : the_port_command.PortCommand (Elements Q P) H) (reply : OpenReply Z)
    → command ≡ commands.Port at_port → IsPortAnswered q p w s at_port reply s' → IsAnswered q p w d s command reply s'
port_answered q p w d s s' command at_port reply is done =
    subst (λ k. IsAnswered q p w d s k reply s') (sym is) (commands.Port (command_for q p w at_port), refl, done cause_of)

-- ---- want of memory

-- who opens the service is no matter to it
pub compared_wants :
    {Q P H Z : Type 0} (q : Q → List ℕ) (p : P → List ℕ) (w : H → List ℕ) (d : ServiceDescription) (command : OpenCommand Q P H)
    (compared : the_command.Command (Elements Q P) H (Option (the_refusal.Refusal AttributeVerificationError))) (reply : OpenReply Z)
    → IsGivenAs q p w d command (command_given q p w cause_of compared) → WantsRightly compared reply → WantsRightly command reply
compared_wants q p w d (commands.Port command) compared reply is wants =
    port_given_wants q p w command reply (subst (λ c. WantsRightly c reply) is (given_wants q p w cause_of compared reply wants))
compared_wants q p w d command compared reply is wants = tt

-- however the command is given to the machine, it is so
given_grows :
    {Q P H : Type 0} (q : Q → List ℕ) (p : P → List ℕ) (w : H → List ℕ) (d : ServiceDescription) (s : State) (command : OpenCommand Q P H)
    (c c' : Command) (r : Reply) → IsGivenAs q p w d command c → IsGivenAs q p w d command c' → WantsToGrow s c r → WantsToGrow s c' r
given_grows q p w d s (commands.Port command) c c' r is is' grows = subst (λ k. WantsToGrow s k r) (is ∙ sym is') grows
given_grows q p w d s (commands.Join id opener) c c' r is is' grows = subst (λ k. WantsToGrow s k r) (sym is'.2) tt
given_grows q p w d s (commands.Leave node) c c' r is is' grows = subst (λ k. WantsToGrow s k r) (sym is') tt
given_grows q p w d s (commands.DeclareDead node) c c' r is is' grows = subst (λ k. WantsToGrow s k r) (sym is') tt
given_grows q p w d s (commands.Cleanup node) c c' r is is' grows = subst (λ k. WantsToGrow s k r) (sym is') tt
given_grows q p w d s commands.ListNodes c c' r is is' grows = subst (λ k. WantsToGrow s k r) (sym is') tt
given_grows q p w d s commands.ListClients c c' r is is' grows = subst (λ k. WantsToGrow s k r) (sym is') tt
given_grows q p w d s commands.ListServers c c' r is is' grows = subst (λ k. WantsToGrow s k r) (sym is') tt

pub compared_grows :
    {Q P H Z : Type 0} (q : Q → List ℕ) (p : P → List ℕ) (w : H → List ℕ) (d : ServiceDescription) (s : State) (command : OpenCommand Q P H)
    (compared : the_command.Command (Elements Q P) H (Option (the_refusal.Refusal AttributeVerificationError))) (reply : OpenReply Z)
    → IsGivenAs q p w d command (command_given q p w cause_of compared) → nodes_memory.WantsToGrowFor q p w s compared reply
    → WantsToGrowFor q p w d s command reply
compared_grows q p w d s command compared reply is wants =
    λ c given.
    given_grows q p w d s command (command_given q p w cause_of compared) c (reply_given cause_of reply) is given (wants cause_of)

pub port_of_opener_grows :
    {Q P H Z : Type 0} (q : Q → List ℕ) (p : P → List ℕ) (w : H → List ℕ) (d : ServiceDescription) (s : State)
    (command : OpenCommand Q P H) (at_port : the_port_command.PortCommand (Elements Q P) H) (reply : OpenReply Z) → command ≡ commands.Port at_port
    → nodes_memory.WantsToGrowFor {C = AttributeVerificationError} q p w s (commands.Port at_port) reply → WantsToGrowFor q p w d s command reply
port_of_opener_grows q p w d s command at_port reply is wants =
    subst (λ k. WantsToGrowFor q p w d s k reply) (sym is)
    (λ c given. subst (λ k. WantsToGrow s k (reply_given cause_of reply)) (sym given) (wants cause_of))
