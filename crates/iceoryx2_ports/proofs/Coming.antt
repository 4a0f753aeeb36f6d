-- Writes, receives, releases and hints send nothing, so nothing comes where nothing waited, and nothing is added. A copy adds only
-- its words.
use Rattle.std.specs.Prelude.{◌≡◌, ℕ, List, Option, None, Some, refl}
use Rattle.std.proofs.Common.{sym, ◌∙◌, inl, inr}
use Rattle.std.proofs.lemmas.Option.{none-some}
use Rattle.iox_model.specs.declared.call.Call.TheVariants.{Receive, Release, SendCopy, Write}
use Rattle.iox_model.specs.Commands.{Call, Payload, Reply}
use Rattle.iox_model.specs.Doings.{Receiver}
use Rattle.iox_model.specs.Messages.{Message}
use Rattle.iox_model.specs.States as m
use Rattle.iox_model.specs.WholeCalls.{IsWholeCall}
use Rattle.iox_laws.specs.MessageLaws.Lists.{IsOneOf}
use Rattle.iox_laws.specs.MessageLaws.Sendings.{sent_message}
use Rattle.iox_tables.specs.HubStates.Receives.{way_to}
use Rattle.iox_tables.specs.HubStates.States.{Given}
use Rattle.iox_hub_laws.specs.Hubs.{HubState, nothing_given, state_of_hub}
use Rattle.iox_hub_laws.specs.Sends.{NothingComes}
use Rattle.iox_hub_laws.specs.Shown.{shown}
use Rattle.iox_hub_laws.specs.Waiting.{AllCarry}
use Rattle.iox_hub_laws.proofs.BringsOnly.{nothing_comes}
use Rattle.iox_hub_laws.proofs.Only.{copies_its_words, waited_or_sent}
use Rattle.iceoryx2_ports.specs.Streams.{AddsNothing, AddsOnly}

-- ---- nothing comes

pub write_brings_nothing : (old new : HubState) (node n : ℕ) (p : Payload) (reply : Reply)
    → ((x : Given) → IsWholeCall (state_of_hub x old) node (Write n p) reply (state_of_hub x new)) → NothingComes old new
write_brings_nothing old new node n p reply whole = nothing_comes old new node (Write n p) reply (λ f lane. refl) whole

pub receive_brings_nothing : (old new : HubState) (node n : ℕ) (reply : Reply)
    → ((x : Given) → IsWholeCall (state_of_hub x old) node (Receive n) reply (state_of_hub x new)) → NothingComes old new
receive_brings_nothing old new node n reply whole = nothing_comes old new node (Receive n) reply (λ f lane. refl) whole

pub release_brings_nothing : (old new : HubState) (node n : ℕ) (reply : Reply)
    → ((x : Given) → IsWholeCall (state_of_hub x old) node (Release n) reply (state_of_hub x new)) → NothingComes old new
release_brings_nothing old new node n reply whole = nothing_comes old new node (Release n) reply (λ f lane. refl) whole

-- ---- nothing is added

module _ (old new : HubState) (node : ℕ) (call : Call) (reply : Reply)
    (whole : (x : Given) → IsWholeCall (state_of_hub x old) node call reply (state_of_hub x new)) where
  -- what is sent carries these words, if something is
  adds : (words : List ℕ) → ((lane : ℕ) (a : Message) → sent_message (state_of_hub (nothing_given old) old).fixed node lane call ≡ Some a → a.payload ≡ words)
      → AddsOnly old words new
  adds words carries r all = record { each = each }
    where
      each : (sender : ℕ) (a : Message) → IsOneOf a ((shown new).waiting (way_to r sender)) → a.payload ≡ words
      each sender a p =
          let x : Given = nothing_given old in
          elim (waited_or_sent (state_of_hub x old) (state_of_hub x new) node call reply (whole x) (way_to r sender) a p) as (λ u. a.payload ≡ words) [
            | inl q ↦ all.each sender a q
            | inr q ↦ carries q.0 a q.1
          ]

  pub adds_nothing : ((f : m.Fixed) (lane : ℕ) → sent_message f node lane call ≡ None) → AddsNothing old new
  adds_nothing nothing words =
      adds words (λ lane a e. absurd (none-some a (sym (nothing (state_of_hub (nothing_given old) old).fixed lane) ∙ e)))

pub receive_adds_nothing : (old new : HubState) (node n : ℕ) (reply : Reply)
    → ((x : Given) → IsWholeCall (state_of_hub x old) node (Receive n) reply (state_of_hub x new)) → AddsNothing old new
receive_adds_nothing old new node n reply whole = adds_nothing old new node (Receive n) reply whole (λ f lane. refl)

pub release_adds_nothing : (old new : HubState) (node n : ℕ) (reply : Reply)
    → ((x : Given) → IsWholeCall (state_of_hub x old) node (Release n) reply (state_of_hub x new)) → AddsNothing old new
release_adds_nothing old new node n reply whole = adds_nothing old new node (Release n) reply whole (λ f lane. refl)

-- ---- copies

pub copy_adds_only : (old new : HubState) (node n : ℕ) (p : Payload) (reply : Reply)
    → ((x : Given) → IsWholeCall (state_of_hub x old) node (SendCopy n p) reply (state_of_hub x new)) → AddsOnly old p.words new
copy_adds_only old new node n p reply whole =
    adds old new node (SendCopy n p) reply whole p.words
    (λ lane a e. copies_its_words (state_of_hub (nothing_given old) old).fixed node n lane p a e)
