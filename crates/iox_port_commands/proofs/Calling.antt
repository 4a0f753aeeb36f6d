-- A reply that the machine has, of which something is so.
use Rattle.std.specs.Prelude.{◌≡◌, ℕ, Bool, List, Option, Some, None, MatchOption, Result, Ok, Err, IfOk, OnErr, refl}
use Rattle.std.specs.declared.vec.Vec.{Vec}
use Rattle.std.proofs.Common.{sym, subst}
use Rattle.iox_model.specs.declared.reply.PortReply as the_reply
use Rattle.iox_model.specs.declared.reply.Refusal.TheVariants as refusals
use Rattle.iox_model.specs.declared.reply.Reply.TheVariants as replies
use Rattle.iox_model.specs.Commands.{Call, HubCommand, PortReply, Reply, Use, answer_of, number_of}
use Rattle.iox_model.specs.Makings.{IsHubCommand}
use Rattle.iox_model.specs.Settings.{Shape}
use Rattle.iox_model.specs.WholeCalls.{IsWholeCall}
use Rattle.iox_tables.specs.HubStates.States.{Given}
use Rattle.iox_hub.specs.Answered.{Answered}
use Rattle.iox_hub.specs.Answered.TheVariants as answered
use Rattle.iox_hub.specs.Copied.{Copied}
use Rattle.iox_hub.specs.Copied.TheVariants as copied
use Rattle.iox_hub.specs.Copying.{LeavesAnswered, LeavesCopied}
use Rattle.iox_hub.specs.Hubs.{HubState, state_of_hub}
use Rattle.iox_hub.specs.Lending.{LeavesLent}
use Rattle.iox_hub.specs.Lent.{Lent}
use Rattle.iox_hub.specs.Lent.TheVariants as lents
use Rattle.iox_hub.specs.LoanRefusal.TheVariants.{WantOfMemory}
use Rattle.iox_hub.specs.Making.{StaysAs}
use Rattle.iox_port_commands.specs.Applying.{IsReplied, IsCalled, LacksMemory}
use Rattle.iox_port_commands.specs.Telling.{IsTheReply, reply_told}

said : (o : Option PortReply) (r : Reply) (P : Reply → Type 0) → MatchOption o ⊥ (λ q. answer_of q ≡ r) → P r
    → MatchOption o ⊥ (λ q. P (answer_of q))
said (Some q) r P is p = subst P (sym is) p
said None r P is p = absurd is

pub asked : {C Z : Type 0} (old new : HubState) (node : ℕ) (command : HubCommand) (reply : the_reply.PortReply (Vec ℕ Z) C) (r : Reply)
    → IsTheReply reply r
    → ((x : Given) → IsHubCommand (state_of_hub x old) node command r (state_of_hub x new))
    → IsReplied old node command reply new
asked old new node command reply r is whole x =
    said (reply_told reply) r (λ q. IsHubCommand (state_of_hub x old) node command q (state_of_hub x new)) is (whole x)

pub called : {C Z : Type 0} (old new : HubState) (node : ℕ) (call : Call) (reply : the_reply.PortReply (Vec ℕ Z) C) (r : Reply)
    → IsTheReply reply r
    → ((x : Given) → IsWholeCall (state_of_hub x old) node call r (state_of_hub x new))
    → IsCalled old node call reply new
called old new node call reply r is whole x =
    said (reply_told reply) r (λ q. IsWholeCall (state_of_hub x old) node call q (state_of_hub x new)) is (whole x)

-- a call that is not begun, as each of that number that asks the same
pub refused : {C Z A : Type 0} {number : ℕ} {asks : Call → A} {asked : A} (h : HubState) (node : ℕ) (call : Call) (reply : the_reply.PortReply (Vec ℕ Z) C) (r : Reply)
    → number_of call ≡ number → asks call ≡ asked → IsTheReply reply r
    → ((x : Given) (k : Call) → number_of k ≡ number → asks k ≡ asked → IsWholeCall (state_of_hub x h) node k r (state_of_hub x h))
    → IsCalled h node call reply h
refused h node call reply r named asked is whole = called h h node call reply r is (λ x. whole x call named asked)

-- ---- calls that may find no memory

pub called_if : {C Z E : Type 0} (old new : HubState) (node : ℕ) (call : Call) (result : Result (the_reply.PortReply (Vec ℕ Z) C) E) (r : Reply)
    → IfOk result (λ reply. IsTheReply reply r)
    → ((x : Given) → IsWholeCall (state_of_hub x old) node call r (state_of_hub x new))
    → IfOk result (λ reply. IsCalled old node call reply new)
called_if old new node call (Ok reply) r is whole = called old new node call reply r is whole
called_if old new node call (Err e) r is whole = tt

-- where it found none, the machine says so
pub lacking_if : {R E : Type 0} (old new : HubState) (node : ℕ) (call : Call) (result : Result R E) (r : Reply)
    → OnErr result (r ≡ replies.Refused refusals.WantOfMemory)
    → ((x : Given) → IsWholeCall (state_of_hub x old) node call r (state_of_hub x new))
    → OnErr result (LacksMemory old node (Use call) new)
lacking_if old new node call (Ok reply) r is whole = tt
lacking_if old new node call (Err e) r is whole =
    λ x. subst (λ q. IsWholeCall (state_of_hub x old) node call q (state_of_hub x new)) is (whole x)

pub on_err : {R E : Type 0} (result : Result R E) (A B : Type 0) → (A → B) → OnErr result A → OnErr result B
on_err (Ok x) A B f p = tt
on_err (Err e) A B f p = f p

-- and all stays
pub loan_stays : (old new : HubState) (shape : Shape) (uninit : Bool) (k : ℕ) (lent : Lent) → LeavesLent old shape uninit k lent new
    → lent ≡ lents.Refused WantOfMemory → new ≡ old
loan_stays old new shape uninit k lent left e = subst (λ (l : Lent). LeavesLent old shape uninit k l new) e left

pub request_stays : (old new : HubState) (count : ℕ) (words : List ℕ) (copy : Copied) → LeavesCopied old count words copy new
    → copy ≡ copied.Refused WantOfMemory → new ≡ old
request_stays old new count words copy left e = subst (λ (c : Copied). LeavesCopied old count words c new) e left

pub response_stays : (old new : HubState) (count : ℕ) (words : List ℕ) (copy : Answered) → LeavesAnswered old count words copy new
    → copy ≡ answered.Refused WantOfMemory → new ≡ old
response_stays old new count words copy left e = subst (λ (c : Answered). LeavesAnswered old count words c new) e left

pub same_stays : (old new : HubState) → new ≡ old → StaysAs old new
same_stays old new e = subst (λ (h : HubState). StaysAs old h) (sym e) (record { tables = refl; others = refl })
