-- What a call of a service comes to: it is one command of the machine, whatever the causes of
-- attributes are.
use Rattle.std.specs.Prelude.{◌≡◌, ℕ, ⊤, true, List, [], ◌∷◌, ◌++◌, length, map, take, Option, Some, None, Result, Ok, Err}
use Rattle.std.specs.List.{slice_get}
use Rattle.std.specs.Option.{IsSomeAnd, option_map}
use Rattle.std.specs.declared.vec.Vec.{Vec}
use Rattle.iox_types.specs.declared.identifiers.system_id.UniqueSystemId.{UniqueSystemId}
use Rattle.iox_model.specs.declared.command.Command as the_command
use Rattle.iox_model.specs.declared.command.Command.TheVariants.{Join, Port}
use Rattle.iox_model.specs.declared.command.PortCommand as the_port_command
use Rattle.iox_model.specs.declared.reply.Refusal as the_refusal
use Rattle.iox_model.specs.declared.reply.Reply as the_reply
use Rattle.iox_model.specs.declared.reply.Reply.TheVariants as replies
use Rattle.iox_model.specs.Commands.{Cause, Command}
use Rattle.iox_model.specs.Runs.{IsCreation, IsRun}
use Rattle.iox_model.specs.Services.{IsCommand}
use Rattle.iox_model.specs.Settings.{Limits}
use Rattle.iox_model.specs.States.{State}
use Rattle.iox_openers.specs.Causes.{with_cause}
use Rattle.iox_members.specs.Steps.{answer_in}
use Rattle.iox_port_commands.specs.HandlerWords.{action_in}
use Rattle.iox_port_commands.specs.Asking.{command_for}
use Rattle.iox_port_commands.specs.declared.elements.Elements.{Elements}
use Rattle.iox_nodes.specs.Given.{command_given, is_listing, reply_given}
use Rattle.iox_nodes.specs.Memory.{IsRunWithWants, WantsRightly}
use Rattle.iox_nodes.specs.Shown.{ServiceTables, service_of}

-- ---- a service is made

-- the state of the service, if one was made
abbrev pub made_in : {E : Type 0} → Result ServiceTables E → Option State
made_in (Ok service) = Some (service_of service)
made_in (Err e) = None

-- The creation of a service with these limits is answered so; handlers answer by their words. `asked`
-- is the first of the creator's tests by types that fails.
abbrev pub IsCreated :
    {C : Type 0} → Limits → UniqueSystemId → Option (the_refusal.Refusal C)
    → Result ServiceTables (the_refusal.Refusal C) → Type 0
IsCreated {C = C} l id asked result =
    (cause : C → Cause)
    → IsCreation l action_in id (option_map (with_cause cause) asked)
    (answer_in cause (λ service. replies.Node 0) result) (made_in result)

-- ---- commands

-- A join is answered so, of which that is asked by types and attributes.
abbrev pub IsJoin :
    {C : Type 0} → State → UniqueSystemId → Option (the_refusal.Refusal C)
    → Result ℕ (the_refusal.Refusal C) → State → Type 0
IsJoin {C = C} s id asked result s' =
    (cause : C → Cause)
    → IsCommand s (Join id (option_map (with_cause cause) asked))
    (answer_in cause replies.Node result) s'

-- A command that has nothing to tell is done, or refused so.
abbrev pub IsDoneOrRefused :
    {C X : Type 0} → State → Command → Result X (the_refusal.Refusal C) → State → Type 0
IsDoneOrRefused {C = C} s command result s' =
    (cause : C → Cause) → IsCommand s command (answer_in cause (λ x. replies.Done) result) s'

-- A command of a node is answered so, where these are the words of elements and handlers.
abbrev pub IsPortAnswered :
    {Q P H C Z : Type 0} → (Q → List ℕ) → (P → List ℕ) → (H → List ℕ) → State
    → the_port_command.PortCommand (Elements Q P) H → the_reply.Reply (Vec ℕ Z) C → State → Type 0
IsPortAnswered {C = C} q p words s command reply s' =
    (cause : C → Cause)
    → IsCommand s (Port (command_for q p words command)) (reply_given cause reply) s'

-- A command of a service is answered so, where these are the words of elements and handlers.
abbrev pub IsAnswered :
    {Q P H C Z : Type 0} → (Q → List ℕ) → (P → List ℕ) → (H → List ℕ) → State
    → the_command.Command (Elements Q P) H (Option (the_refusal.Refusal C))
    → the_reply.Reply (Vec ℕ Z) C → State → Type 0
IsAnswered {C = C} q p words s command reply s' =
    (cause : C → Cause)
    → IsCommand s (command_given q p words cause command) (reply_given cause reply) s'

-- ---- runs

-- the lists are as long as each other, and what stands in the same place is so related
abbrev pub Correspond : {A B : Type 0} → (A → B → Type 0) → List A → List B → Type 0
Correspond is [] [] = ⊤
Correspond is (x ∷ xs) (y ∷ ys) = is x y × Correspond is xs ys
Correspond is [] (y ∷ ys) = ⊥
Correspond is (x ∷ xs) [] = ⊥

-- The first of these commands are answered by the replies that are new, one after another: a run of
-- the machine. The rest is not begun.
pub record IsRunOf {Q P H C Z : Type 0} (q : Q → List ℕ) (p : P → List ℕ) (words : H → List ℕ)
    (s : State)
    (commands : List (the_command.Command (Elements Q P) H (Option (the_refusal.Refusal C))))
    (old new : List (the_reply.Reply (Vec ℕ Z) C)) (s' : State) : Type 0
  where
    -- the new replies, behind the old ones
    pub more : List (the_reply.Reply (Vec ℕ Z) C)
    pub told : new ≡ old ++ more
    pub run :
        (cause : C → Cause)
        → IsRun s (map (command_given q p words cause) (take (length more) commands))
        (map (reply_given cause) more) s'
    pub want : Correspond WantsRightly (take (length more) commands) more
    pub grows :
        (cause : C → Cause)
        → IsRunWithWants s (map (command_given q p words cause) (take (length more) commands))
        (map (reply_given cause) more) s'

-- there is a command in that place, and it asks for a list of numbers
abbrev pub IsListingAt : {E H V : Type 0} → List (the_command.Command E H V) → ℕ → Type 0
IsListingAt commands place = IsSomeAnd (slice_get commands place) (λ c. is_listing c ≡ true)
