-- For whom nothing waited, only what a send of a hub carries waits after it.
use Rattle.std.specs.Prelude.{◌≡◌, ℕ, Bool, true, false, List, [], ◌∷◌, Option, None, Some, refl}
use Rattle.std.specs.Option.{option_map_or}
use Rattle.std.proofs.Common.{sym, ap, subst, ◌∙◌, inl, inr}
use Rattle.std.proofs.lemmas.Option.{none-some}
use Rattle.iox_store.specs.Stored.{StoredMessage}
use Rattle.iox_model.specs.declared.call.Call.TheVariants.{Loan, LoanUninit, Send, SendCopy}
use Rattle.iox_model.specs.declared.kind.Kind.{Kind}
use Rattle.iox_model.specs.declared.kind.Kind.TheVariants.{PendingResponse}
use Rattle.iox_model.specs.Commands.{Call, Payload, Reply}
use Rattle.iox_model.specs.Doings.{Receiver}
use Rattle.iox_model.specs.Messages.{Message}
use Rattle.iox_model.specs.Names.{is_port}
use Rattle.iox_model.specs.States as m
use Rattle.iox_model.specs.WholeCalls.{IsWholeCall}
use Rattle.iox_laws.specs.MessageLaws.Lists.{IsOneOf}
use Rattle.iox_laws.specs.MessageLaws.Sendings.{sent_message}
use Rattle.iox_tables.specs.HubLoans.Loans.{loan_call}
use Rattle.iox_tables.specs.HubStates.Receives.{way_to}
use Rattle.iox_tables.specs.HubStates.States.{Given}
use Rattle.iox_tables.specs.HubStates.Tables.{HandleState, HubTables}
use Rattle.iox_tables.proofs.HubStates.Naming.{each_handle_is_named}
use Rattle.iox_hub.specs.Received.{Received}
use Rattle.iox_hub.specs.Received.TheVariants.{AtLimit, Handle, Nothing}
use Rattle.iox_hub.specs.Hubs.{HasValue, HubState, IsHub, given_by, nothing_given, state_of_hub}
use Rattle.iox_hub.specs.Reads.{message_in}
use Rattle.iox_hub_laws.specs.Receives.{GetsOnly, TakesRequest, TakesResponse}
use Rattle.iox_hub_laws.specs.Sends.{BringsOnly, NothingComes}
use Rattle.iox_hub_laws.specs.Shown.{handle_of, shown}
use Rattle.iox_hub_laws.specs.Waiting.{AllCarry, client_in, client_of, server_of}
use Rattle.iox_hub_laws.proofs.Only.{copies_its_words, sends_its_message, waited_or_sent}
use Rattle.iox_hub_laws.proofs.Values.{IsHandleOf, carried_by, value_is_handle}

-- whatever the call sends carries these words
abbrev Carries : m.State → ℕ → Call → List ℕ → Type 0
Carries s node call words = (lane : ℕ) (a : Message) → sent_message s.fixed node lane call ≡ Some a → a.payload ≡ words

only : (old new : HubState) → IsHub old → (node : ℕ) (call : Call) (reply : Reply) (words : List ℕ)
    → ((x : Given) → IsWholeCall (state_of_hub x old) node call reply (state_of_hub x new))
    → ((x : Given) → Carries (state_of_hub x old) node call words) → BringsOnly old words new
only old new hub node call reply words whole carries r none = record { each = each }
  where
    each : (sender : ℕ) (a : Message) → IsOneOf a ((shown new).waiting (way_to r sender)) → a.payload ≡ words
    each sender a p =
        let x : Given = hub.reached.0 in
        elim (waited_or_sent (state_of_hub x old) (state_of_hub x new) node call reply (whole x) (way_to r sender) a p) as (λ u. a.payload ≡ words) [
          | inl q ↦ absurd (subst (IsOneOf a) (none.empty sender) q)
          | inr q ↦ carries x q.0 a q.1
        ]

-- the send of a loan brings only what the loan carries
pub send_brings_only : (old new : HubState) → IsHub old → (node n : ℕ) (kind : Kind) → is_port kind ≡ false → HasValue old node n kind → (reply : Reply)
    → ((x : Given) → IsWholeCall (state_of_hub x old) node (Send n) reply (state_of_hub x new))
    → BringsOnly old (message_in old node n).payload new
send_brings_only old new hub node n kind no_port has reply whole =
    let t : HubTables = old.control.tables in
    let is : IsHandleOf t node n kind = value_is_handle t node n kind no_port has in
    only old new hub node (Send n) reply (message_in old node n).payload whole
    (λ x lane a e.
    sends_its_message (state_of_hub x old).fixed node n lane (handle_of old is.handle) a
    (each_handle_is_named (given_by x old) t node n is.handle is.named).names e
    ∙ sym (ap (λ (z : StoredMessage). z.payload) (carried_by old node n is.handle is.named.there)))

-- a copy brings only the words that it gives
pub copy_brings_only : (old new : HubState) → IsHub old → (node n : ℕ) (p : Payload) (reply : Reply)
    → ((x : Given) → IsWholeCall (state_of_hub x old) node (SendCopy n p) reply (state_of_hub x new))
    → BringsOnly old p.words new
copy_brings_only old new hub node n p reply whole =
    only old new hub node (SendCopy n p) reply p.words whole
    (λ x lane a e. copies_its_words (state_of_hub x old).fixed node n lane p a e)

-- where a call sends nothing, nothing comes
pub nothing_comes : (old new : HubState) (node : ℕ) (call : Call) (reply : Reply)
    → ((f : m.Fixed) (lane : ℕ) → sent_message f node lane call ≡ None)
    → ((x : Given) → IsWholeCall (state_of_hub x old) node call reply (state_of_hub x new)) → NothingComes old new
nothing_comes old new node call reply nothing whole r none =
    record { empty = λ sender. no_one ((shown new).waiting (way_to r sender)) (never sender) }
  where
    never : (sender : ℕ) (a : Message) → IsOneOf a ((shown new).waiting (way_to r sender)) → ⊥
    never sender a p =
        let x : Given = nothing_given old in
        elim (waited_or_sent (state_of_hub x old) (state_of_hub x new) node call reply (whole x) (way_to r sender) a p) as (λ u. ⊥) [
          | inl q ↦ subst (IsOneOf a) (none.empty sender) q
          | inr q ↦ none-some a (sym (nothing (state_of_hub x old).fixed q.0) ∙ q.1)
        ]

    no_one : (ms : List Message) → ((a : Message) → IsOneOf a ms → ⊥) → ms ≡ []
    no_one [] f = refl
    no_one (a ∷ ms) f = absurd (f a (inl refl))

-- a loan sends nothing
pub loan_brings_nothing : (old new : HubState) (node n k : ℕ) (uninit : Bool) (reply : Reply)
    → ((x : Given) → IsWholeCall (state_of_hub x old) node (loan_call uninit n k) reply (state_of_hub x new)) → NothingComes old new
loan_brings_nothing old new node n k true reply whole = nothing_comes old new node (LoanUninit n k) reply (λ f lane. refl) whole
loan_brings_nothing old new node n k false reply whole = nothing_comes old new node (Loan n k) reply (λ f lane. refl) whole

-- ---- receives

-- what a server gets carries what all that waited did
pub request_gets_only : (old new : HubState) (node server : ℕ) (r : Received) → TakesRequest old node server r new
    → GetsOnly old (server_of server) node r new
request_gets_only old new node server (Handle n) takes =
    λ words all.
    (takes.0).payload ∙ all.each (takes.0).handle.client (handle_of new (takes.0).handle).message (takes.3).waits
request_gets_only old new node server Nothing takes = tt
request_gets_only old new node server AtLimit takes = tt

-- so does what a client gets
pub response_gets_only : (old new : HubState) (node number : ℕ) (r : Received) → HasValue old node number PendingResponse
    → TakesResponse old node number r new → GetsOnly old (client_in old node number) node r new
response_gets_only old new node number (Handle n) has takes =
    λ words all.
    let t : HubTables = old.control.tables in
    let is : IsHandleOf t node number PendingResponse = value_is_handle t node number PendingResponse refl has in
    let every : AllCarry old (client_of t is.handle) words
    = subst (λ (x : Receiver). AllCarry old x words)
    (ap (λ (o : Option HandleState). option_map_or (client_of t) o (server_of number)) is.named.there) all in
    (takes.0).payload
    ∙ every.each (handle_of new (takes.0).handle).message.sender (handle_of new (takes.0).handle).message
    (takes.1 is.handle is.named.there).came.waits
response_gets_only old new node number Nothing has takes = tt
response_gets_only old new node number AtLimit has takes = tt
