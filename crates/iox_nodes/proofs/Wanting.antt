-- Want of memory is told only where memory is taken.
use Rattle.std.specs.Prelude.{◌≡◌, ℕ, Bool, true, false, List, Option, Some, Err, refl}
use Rattle.std.specs.declared.vec.Vec.{Vec}
use Rattle.std.proofs.Common.{ap, subst, sym, true≢false, ◌∙◌}
use Rattle.std.proofs.lemmas.Option.{same_Some}
use Rattle.iox_types.specs.declared.identifiers.system_id.UniqueSystemId.{UniqueSystemId}
use Rattle.iox_model.specs.declared.command.Command as the_command
use Rattle.iox_model.specs.declared.command.Command.TheVariants as commands
use Rattle.iox_model.specs.declared.command.PortCommand as the_port_command
use Rattle.iox_model.specs.declared.command.PortCommand.TheVariants as ports
use Rattle.iox_model.specs.declared.reply.PortReply as the_port_reply
use Rattle.iox_model.specs.declared.reply.PortReply.TheVariants as port_replies
use Rattle.iox_model.specs.declared.reply.Refusal as the_refusal
use Rattle.iox_model.specs.declared.reply.Refusal.TheVariants as refusals
use Rattle.iox_model.specs.declared.reply.Reply as the_reply
use Rattle.iox_model.specs.declared.reply.Reply.TheVariants as replies
use Rattle.iox_model.specs.Commands.{Cause, Command, Reply, asking}
use Rattle.iox_model.specs.Joins.{not_living}
use Rattle.iox_model.specs.Settings.{Limits}
use Rattle.iox_model.specs.States.{Members, State}
use Rattle.iox_openers.specs.Causes.{with_cause}
use Rattle.iox_members.specs.Steps.{IsRefusedUnlessLiving}
use Rattle.iox_port_commands.specs.Asking.{command_for, is_making, takes_memory}
use Rattle.iox_port_commands.specs.Hubs.{HubState}
use Rattle.iox_port_commands.specs.Applying.{GrowsIfLentFor}
use Rattle.iox_port_commands.specs.Memory.{GrowsIfLent, HadMemory, IsTooLarge}
use Rattle.iox_port_commands.specs.Telling.{wants_memory, wants_segment}
use Rattle.iox_port_commands.specs.declared.elements.Elements.{Elements}
use Rattle.iox_nodes.specs.Given.{command_given, reply_given, reply_of, with_id}
use Rattle.iox_nodes.specs.Memory.{IsAnsweredWithMemory, MayFindNoMemory, MayLackMemory, PortWantsRightly, WantsRightly, WantsToGrow, WantsToGrowFor, refusal_for_want, want_of}
use Rattle.iox_nodes.specs.Shown.{given_for, state_of}
use Rattle.iox_nodes.proofs.Having.{living_had}
use Rattle.iox_nodes.proofs.Leading.{any_cause}

-- ---- replies told apart

-- whether it tells that memory is missing
abbrev pub tells_memory : {L C : Type 0} → the_reply.Reply L C → Bool
tells_memory (replies.Refused refusals.WantOfMemory) = true
tells_memory reply = false

-- whether it refuses a data segment
abbrev pub tells_segment : {L C : Type 0} → the_reply.Reply L C → Bool
tells_segment (replies.Refused refusals.UnableToCreateDataSegment) = true
tells_segment reply = false

-- what does not tell it is not that reply
pub no_memory_told : {L C : Type 0} (A : Type 0) (reply : the_reply.Reply L C) → tells_memory reply ≡ false → reply ≡ replies.Refused refusals.WantOfMemory → A
no_memory_told A reply quiet e = absurd (true≢false (sym (ap tells_memory e) ∙ quiet))

pub no_segment_told : {L C : Type 0} (A : Type 0) (reply : the_reply.Reply L C) → tells_segment reply ≡ false
    → reply ≡ replies.Refused refusals.UnableToCreateDataSegment → A
no_segment_told A reply quiet e = absurd (true≢false (sym (ap tells_segment e) ∙ quiet))

memory_told : {C Z : Type 0} (answer : the_port_reply.PortReply (Vec ℕ Z) C) → tells_memory (reply_of answer) ≡ wants_memory answer
memory_told (port_replies.Refused refusals.WantOfMemory) = refl
memory_told (port_replies.Refused r) = refl
memory_told answer = refl

segment_told : {C Z : Type 0} (answer : the_port_reply.PortReply (Vec ℕ Z) C) → tells_segment (reply_of answer) ≡ wants_segment answer
segment_told (port_replies.Refused refusals.UnableToCreateDataSegment) = refl
segment_told (port_replies.Refused r) = refl
segment_told answer = refl

-- ---- what a hub answers

takes_with_id : {E H : Type 0} (own : UniqueSystemId) (command : the_port_command.PortCommand E H) → takes_memory (with_id own command) ≡ takes_memory command
takes_with_id own (ports.Client node id o) = refl
takes_with_id own (ports.Server node id o) = refl
takes_with_id own command = refl

making_with_id : {E H : Type 0} (own : UniqueSystemId) (command : the_port_command.PortCommand E H) → is_making (with_id own command) ≡ is_making command
making_with_id own (ports.Client node id o) = refl
making_with_id own (ports.Server node id o) = refl
making_with_id own command = refl

-- a hub tells it only where memory is taken, and so does its service
pub port_wants : {E H C Z : Type 0} (own : UniqueSystemId) (command given : the_port_command.PortCommand E H) (answer : the_port_reply.PortReply (Vec ℕ Z) C)
    (reply : the_reply.Reply (Vec ℕ Z) C) → given ≡ with_id own command → (wants_memory answer ≡ true → takes_memory given ≡ true)
    → (wants_segment answer ≡ true → is_making given ≡ true) → reply ≡ reply_of answer → PortWantsRightly command reply
port_wants own command given answer reply with memory segment told = record {
  memory = λ e. sym (takes_with_id own command) ∙ sym (ap takes_memory with) ∙ memory (sym (memory_told answer) ∙ sym (ap tells_memory told) ∙ ap tells_memory e);
  segment = λ e. sym (making_with_id own command) ∙ sym (ap is_making with) ∙ segment (sym (segment_told answer) ∙ sym (ap tells_segment told) ∙ ap tells_segment e);
}

-- ---- nodes that may not ask

-- the refusal that a reply tells
abbrev told_refusal : {L C : Type 0} → the_reply.Reply L C → the_refusal.Refusal C
told_refusal (replies.Refused r) = r
told_refusal reply = refusals.UnknownNode

-- who may not ask is told no want of memory
pub living_wants : {E H L C : Type 0} (X : Type 0) (x : Members) (h : HubState) (node : ℕ) (command : the_port_command.PortCommand E H) (r : the_refusal.Refusal C)
    → IsRefusedUnlessLiving {C = C} {X = X} x node (Err r) → PortWantsRightly {L = L} command (replies.Refused r)
living_wants {C = C} X x h node command r is = record {
  memory = λ e. absurd (living_had s.fixed.limits (commands.Port (ports.Read 0 0)) s node refusals.WantOfMemory (told refusals.WantOfMemory (ap told_refusal e)));
  segment = λ e. absurd (living_had s.fixed.limits (commands.Port (ports.Read 0 0)) s node refusals.UnableToCreateDataSegment
      (told refusals.UnableToCreateDataSegment (ap told_refusal e)));
}
  where
    s : State
    s = state_of x h

    told : (k : the_refusal.Refusal C) → r ≡ k → not_living s node ≡ Some (with_cause any_cause k)
    told k e = is any_cause s ∙ ap (λ q. Some (with_cause any_cause q)) e

-- ---- commands with memory, and without

made_large : {Q P H : Type 0} (q : Q → List ℕ) (p : P → List ℕ) (w : H → List ℕ) (l : Limits) (command : the_port_command.PortCommand (Elements Q P) H)
    → IsTooLarge l (asking (command_for q p w command)).1 → is_making command ≡ true
made_large q p w l (ports.Client node id o) large = refl
made_large q p w l (ports.Server node id o) large = refl
made_large q p w l command large = absurd large

port_had_wants : {Q P H C Z : Type 0} (q : Q → List ℕ) (p : P → List ℕ) (w : H → List ℕ) (l : Limits) (command : the_port_command.PortCommand (Elements Q P) H)
    (reply : the_reply.Reply (Vec ℕ Z) C) → HadMemory l (commands.Port (command_for q p w command)) (reply_given any_cause reply) → PortWantsRightly command reply
port_had_wants {C = C} {Z = Z} q p w l command reply had = record {
  memory = λ e. absurd (subst had_for e had);
  segment = λ e. made_large q p w l command (subst had_for e had);
}
  where
    had_for : the_reply.Reply (Vec ℕ Z) C → Type 0
    had_for r = HadMemory l (commands.Port (command_for q p w command)) (reply_given any_cause r)

-- where memory was there, no want of it is told
pub had_wants : {Q P H C Z : Type 0} (q : Q → List ℕ) (p : P → List ℕ) (w : H → List ℕ) (s s' : State)
    (command : the_command.Command (Elements Q P) H (Option (the_refusal.Refusal C))) (reply : the_reply.Reply (Vec ℕ Z) C)
    → IsAnsweredWithMemory q p w s command reply s' → WantsRightly command reply
had_wants q p w s s' (commands.Port command) reply answered = port_had_wants q p w s.fixed.limits command reply (answered any_cause).memory
had_wants q p w s s' command reply answered = tt

port_lacks_wants : {Q P H C L : Type 0} (q : Q → List ℕ) (p : P → List ℕ) (w : H → List ℕ) (s : State) (command : the_port_command.PortCommand (Elements Q P) H)
    → MayFindNoMemory {C = C} q p w s (commands.Port command) → PortWantsRightly {L = L} command (replies.Refused (want_of {C = C} (is_making command)))
port_lacks_wants q p w s (ports.Client node id o) lacks = record { memory = λ e. no_memory_told _ _ refl e; segment = λ e. refl }
port_lacks_wants q p w s (ports.Server node id o) lacks = record { memory = λ e. no_memory_told _ _ refl e; segment = λ e. refl }
port_lacks_wants q p w s (ports.Read node n) lacks = record { memory = λ e. refl; segment = λ e. no_segment_told _ _ refl e }
port_lacks_wants q p w s (ports.Loan node n k) lacks = record { memory = λ e. refl; segment = λ e. no_segment_told _ _ refl e }
port_lacks_wants q p w s (ports.SendCopy node n e) lacks = record { memory = λ e. refl; segment = λ e. no_segment_told _ _ refl e }
port_lacks_wants q p w s command lacks = absurd (lacks any_cause)

-- where memory is missing, want of it is told
pub lacks_wants : {Q P H C : Type 0} (L : Type 0) (q : Q → List ℕ) (p : P → List ℕ) (w : H → List ℕ) (s : State)
    (command : the_command.Command (Elements Q P) H (Option (the_refusal.Refusal C))) (r : the_refusal.Refusal C) → refusal_for_want command ≡ Some r
    → MayFindNoMemory q p w s command → WantsRightly {L = L} command (replies.Refused r)
lacks_wants {C = C} L q p w s (commands.Port command) r is lacks =
    subst (λ (k : the_refusal.Refusal C). PortWantsRightly {L = L} command (replies.Refused k)) (same_Some (want_of (is_making command)) r is)
    (port_lacks_wants q p w s command lacks)
lacks_wants L q p w s command r is lacks = tt

-- ---- commands of ports, as commands of a service

pub of_port : {E H V L C : Type 0} (command : the_command.Command E H V) (at_port : the_port_command.PortCommand E H) (reply : the_reply.Reply L C)
    → command ≡ commands.Port at_port → PortWantsRightly at_port reply → WantsRightly command reply
of_port command at_port reply is wants = subst (λ k. WantsRightly k reply) (sym is) wants

takes_for : {Q P H : Type 0} (q : Q → List ℕ) (p : P → List ℕ) (w : H → List ℕ) (command : the_port_command.PortCommand (Elements Q P) H)
    → takes_memory (command_for q p w command) ≡ takes_memory command
takes_for q p w (ports.Read node n) = refl
takes_for q p w (ports.Loan node n k) = refl
takes_for q p w (ports.SendCopy node n e) = refl
takes_for q p w command = refl

making_for : {Q P H : Type 0} (q : Q → List ℕ) (p : P → List ℕ) (w : H → List ℕ) (command : the_port_command.PortCommand (Elements Q P) H)
    → is_making (command_for q p w command) ≡ is_making command
making_for q p w (ports.Client node id o) = refl
making_for q p w command = refl

-- the same of a command as the machine has it
pub port_given_wants : {Q P H L C : Type 0} (q : Q → List ℕ) (p : P → List ℕ) (w : H → List ℕ) (command : the_port_command.PortCommand (Elements Q P) H)
    (reply : the_reply.Reply L C) → PortWantsRightly (command_for q p w command) reply → PortWantsRightly command reply
port_given_wants q p w command reply wants = record {
  memory = λ e. sym (takes_for q p w command) ∙ wants.memory e;
  segment = λ e. sym (making_for q p w command) ∙ wants.segment e;
}

pub given_wants : {Q P H C L D : Type 0} (q : Q → List ℕ) (p : P → List ℕ) (w : H → List ℕ) (cause : C → Cause)
    (command : the_command.Command (Elements Q P) H (Option (the_refusal.Refusal C))) (reply : the_reply.Reply L D)
    → WantsRightly command reply → WantsRightly (command_given q p w cause command) reply
given_wants q p w cause (commands.Port command) reply wants = record {
  memory = λ e. takes_for q p w command ∙ wants.memory e;
  segment = λ e. making_for q p w command ∙ wants.segment e;
}
given_wants q p w cause command reply wants = tt

-- ---- what is lent must grow

given_tells : {C Z : Type 0} (cause : C → Cause) (reply : the_reply.Reply (Vec ℕ Z) C) → tells_memory (reply_given cause reply) ≡ tells_memory reply
given_tells cause (replies.Refused refusals.WantOfMemory) = refl
given_tells cause (replies.Refused r) = refl
given_tells cause reply = refl

quiet_in : (s : State) (c : Command) (r : Reply) → tells_memory r ≡ false → WantsToGrow s c r
quiet_in s (commands.Port c) r quiet = λ e. no_memory_told _ r quiet e
quiet_in s c r quiet = tt

-- a reply that does not tell it says nothing of growing
quiet_grows : {Q P H C Z : Type 0} (q : Q → List ℕ) (p : P → List ℕ) (w : H → List ℕ) (s : State)
    (command : the_command.Command (Elements Q P) H (Option (the_refusal.Refusal C))) (reply : the_reply.Reply (Vec ℕ Z) C)
    → tells_memory reply ≡ false → WantsToGrowFor q p w s command reply
quiet_grows q p w s command reply quiet =
    λ cause. quiet_in s (command_given q p w cause command) (reply_given cause reply) (given_tells cause reply ∙ quiet)

had_quiet : (l : Limits) (c : Command) (r : Reply) → HadMemory l c r → tells_memory r ≡ false
had_quiet l c (replies.Refused refusals.WantOfMemory) had = absurd had
had_quiet l c (replies.Refused r) had = refl
had_quiet l c r had = refl

-- who may not ask is told no want of memory
pub living_grows : {Q P H C : Type 0} (X Z : Type 0) (q : Q → List ℕ) (p : P → List ℕ) (w : H → List ℕ) (x : Members) (h : HubState) (node : ℕ)
    (command : the_port_command.PortCommand (Elements Q P) H) (r : the_refusal.Refusal C) → IsRefusedUnlessLiving {C = C} {X = X} x node (Err r)
    → WantsToGrowFor {C = C} {Z = Z} q p w (state_of x h) (commands.Port command) (replies.Refused r)
living_grows {C = C} X Z q p w x h node command r is =
    let s : State = state_of x h in
    let told : the_reply.Reply (Vec ℕ Z) C = replies.Refused r in
    let had : HadMemory s.fixed.limits (commands.Port (ports.Read 0 0)) (reply_given any_cause told) =
    living_had s.fixed.limits (commands.Port (ports.Read 0 0)) s node (with_cause any_cause r) (is any_cause s) in
    quiet_grows q p w s (commands.Port command) told
    (sym (given_tells any_cause told) ∙ had_quiet s.fixed.limits (commands.Port (ports.Read 0 0)) (reply_given any_cause told) had)

lent_by : {Q P H : Type 0} (q : Q → List ℕ) (p : P → List ℕ) (w : H → List ℕ) (s : State) (own : UniqueSystemId)
    (command : the_port_command.PortCommand (Elements Q P) H) → GrowsIfLent s (command_for q p w (with_id own command)) → GrowsIfLent s (command_for q p w command)
lent_by q p w s own (ports.Client node id o) grows = tt
lent_by q p w s own (ports.Server node id o) grows = tt
lent_by q p w s own command grows = grows

-- a hub tells it of a loan only where the message must grow, and so does its service
pub port_grows : {Q P H C Z : Type 0} (q : Q → List ℕ) (p : P → List ℕ) (w : H → List ℕ) (x : Members) (h : HubState) (own : UniqueSystemId)
    (command given : the_port_command.PortCommand (Elements Q P) H) (answer : the_port_reply.PortReply (Vec ℕ Z) C) (reply : the_reply.Reply (Vec ℕ Z) C)
    → given ≡ with_id own command → (wants_memory answer ≡ true → GrowsIfLentFor q p w h given) → reply ≡ reply_of answer
    → WantsToGrowFor {C = C} q p w (state_of x h) (commands.Port command) reply
port_grows q p w x h own command given answer reply with grows told =
    λ cause e.
    lent_by q p w (state_of x h) own command
    (subst (λ g. GrowsIfLentFor q p w h g) with
    (grows (sym (memory_told answer) ∙ sym (ap tells_memory told) ∙ sym (given_tells cause reply) ∙ ap tells_memory e)) (given_for x))

-- where memory was there, nothing is said of growing
pub had_grows : {Q P H C Z : Type 0} (q : Q → List ℕ) (p : P → List ℕ) (w : H → List ℕ) (s s' : State)
    (command : the_command.Command (Elements Q P) H (Option (the_refusal.Refusal C))) (reply : the_reply.Reply (Vec ℕ Z) C)
    → IsAnsweredWithMemory q p w s command reply s' → WantsToGrowFor q p w s command reply
had_grows q p w s s' command reply answered =
    quiet_grows q p w s command reply
    (sym (given_tells any_cause reply)
    ∙ had_quiet s.fixed.limits (command_given q p w any_cause command) (reply_given any_cause reply) (answered any_cause).memory)

port_lacks_grows : {Q P H : Type 0} (q : Q → List ℕ) (p : P → List ℕ) (w : H → List ℕ) (s : State) (command : the_port_command.PortCommand (Elements Q P) H)
    → MayLackMemory s (commands.Port (command_for q p w command)) → GrowsIfLent s (command_for q p w command)
port_lacks_grows q p w s (ports.Loan node n k) lacks = lacks.1
port_lacks_grows q p w s (ports.SendCopy node n e) lacks = lacks.1
port_lacks_grows q p w s (ports.Client node id o) lacks = tt
port_lacks_grows q p w s (ports.Server node id o) lacks = tt
port_lacks_grows q p w s (ports.Read node n) lacks = tt
port_lacks_grows q p w s command lacks = absurd lacks

-- where memory is missing for a loan, its message must grow
pub lacks_grows : {Q P H C : Type 0} (Z : Type 0) (q : Q → List ℕ) (p : P → List ℕ) (w : H → List ℕ) (s : State)
    (command : the_command.Command (Elements Q P) H (Option (the_refusal.Refusal C))) (r : the_refusal.Refusal C)
    → MayFindNoMemory q p w s command → WantsToGrowFor {Z = Z} q p w s command (replies.Refused r)
lacks_grows Z q p w s (commands.Port command) r lacks = λ cause e. port_lacks_grows q p w s command (lacks cause)
lacks_grows Z q p w s command r lacks = λ cause. tt

pub of_port_grows : {Q P H C Z : Type 0} (q : Q → List ℕ) (p : P → List ℕ) (w : H → List ℕ) (s : State)
    (command : the_command.Command (Elements Q P) H (Option (the_refusal.Refusal C))) (at_port : the_port_command.PortCommand (Elements Q P) H)
    (reply : the_reply.Reply (Vec ℕ Z) C) → command ≡ commands.Port at_port → WantsToGrowFor {C = C} q p w s (commands.Port at_port) reply
    → WantsToGrowFor q p w s command reply
of_port_grows q p w s command at_port reply is wants = subst (λ k. WantsToGrowFor q p w s k reply) (sym is) wants
