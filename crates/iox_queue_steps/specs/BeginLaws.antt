-- The law of the begins of a queue's parties.
use Rattle.std.specs.Prelude.{◌≡◌, ℕ, zero, suc, ◌<◌, List, [], ◌∷◌, length, slice_index_or, slice_set, Ok}
use Rattle.std.proofs.Common.{sym, ◌∙◌, subst, arith}
use Rattle.iox_steps.specs.declared.site.Site.{Site}
use Rattle.iox_steps.specs.declared.push.Push.TheVariants as push
use Rattle.iox_steps.specs.declared.push.FullLook.TheVariants as full_look
use Rattle.iox_steps.specs.declared.pop.Pop.TheVariants as pop
use Rattle.iox_steps.specs.declared.pop.EmptyLook.TheVariants as empty_look
use Rattle.iox_steps.specs.declared.side.Pushing.TheVariants as pushing
use Rattle.iox_steps.specs.declared.side.Popping.TheVariants as popping
use Rattle.iox_steps.specs.declared.side.QueueEvent.{QueueEvent}
use Rattle.iox_queue_steps.specs.declared.queue.Side.{Side}
use Rattle.iox_queue_steps.specs.declared.queue.Side.TheVariants.{Pusher, Popper}
use Rattle.iox_queue_steps.specs.declared.queue.Call.{Call}
use Rattle.iox_queue_steps.specs.declared.queue.Call.TheVariants.{Push, IsFull, Pop, IsEmpty}
use Rattle.iox_steps.specs.AfterCalls.{AfterCalls}
use Rattle.iox_steps.specs.MachineStates.{MachineState, IsParty, with_party}
use Rattle.iox_queue_steps.specs.Queues.{PartyView, IsBegun, QueueBegins, BothAfterCalls, PartiesAfterCalls, QueueInvariant}
use Rattle.iox_steps.proofs.AfterCalls.{pushing_begun, popping_begun}

-- a begin of the first side keeps `BothAfterCalls`
first_begins : (site : Site) (words : List ℕ) (a b after : Side) (call : Call) (events : List QueueEvent)
    → BothAfterCalls site words a b events → IsBegun a call after → BothAfterCalls site words after b events
first_begins site words (Pusher pushes) (Popper pops) after (Push value) events played begun =
    subst (λ side. BothAfterCalls site words side (Popper pops) events) (sym begun.1) (pushing_begun site words (pushing.Pushes (push.LoadsWrite value)) pops events (subst (λ p. AfterCalls site words p pops events) begun.0 played))
first_begins site words (Pusher pushes) (Popper pops) after IsFull events played begun =
    subst (λ side. BothAfterCalls site words side (Popper pops) events) (sym begun.1) (pushing_begun site words (pushing.Looks full_look.LoadsWrite) pops events (subst (λ p. AfterCalls site words p pops events) begun.0 played))
first_begins site words (Pusher pushes) (Popper pops) after Pop events played begun = absurd begun
first_begins site words (Pusher pushes) (Popper pops) after IsEmpty events played begun = absurd begun
first_begins site words (Pusher pushes) (Pusher other) after call events played begun = absurd played
first_begins site words (Popper pops) b after call events played begun = absurd played

-- a begin of the second side keeps `BothAfterCalls`
second_begins : (site : Site) (words : List ℕ) (a b after : Side) (call : Call) (events : List QueueEvent)
    → BothAfterCalls site words a b events → IsBegun b call after → BothAfterCalls site words a after events
second_begins site words (Pusher pushes) (Popper pops) after Pop events played begun =
    subst (λ side. BothAfterCalls site words (Pusher pushes) side events) (sym begun.1) (popping_begun site words pushes (popping.Pops pop.LoadsRead) events (subst (λ p. AfterCalls site words pushes p events) begun.0 played))
second_begins site words (Pusher pushes) (Popper pops) after IsEmpty events played begun =
    subst (λ side. BothAfterCalls site words (Pusher pushes) side events) (sym begun.1) (popping_begun site words pushes (popping.Looks empty_look.LoadsRead) events (subst (λ p. AfterCalls site words pushes p events) begun.0 played))
second_begins site words (Pusher pushes) (Popper pops) after (Push value) events played begun = absurd begun
second_begins site words (Pusher pushes) (Popper pops) after IsFull events played begun = absurd begun
second_begins site words (Pusher pushes) (Pusher other) after call events played begun = absurd played
second_begins site words (Popper pops) b after call events played begun = absurd played

-- a begin of this party, which leaves it as `after`, leads to parties as they are after any calls
abbrev Starts : List ℕ → List QueueEvent → Call → PartyView → List PartyView → PartyView → Type 0
Starts words events call after parties party = after.site ≡ party.site → IsBegun party.side call after.side
    → PartiesAfterCalls words parties events

-- a begin of the party of this number keeps `PartiesAfterCalls`
starts : (words : List ℕ) (parties : List PartyView) (events : List QueueEvent) (number : ℕ) (call : Call) (party after : PartyView)
    → PartiesAfterCalls words parties events → number < length parties
    → party ≡ slice_index_or parties number party
    → Starts words events call after (slice_set parties number after) party
starts words (a ∷ b ∷ []) events zero call party after played below is =
    subst (Starts words events call after (after ∷ b ∷ [])) (sym is)
    (λ same begun. (played.0 ∙ sym same, subst (λ site. BothAfterCalls site words after.side b.side events) (sym same) (first_begins a.site words a.side b.side after.side call events played.1 begun)))
starts words (a ∷ b ∷ []) events (suc zero) call party after played below is =
    subst (Starts words events call after (a ∷ after ∷ [])) (sym is) (λ same begun. (same ∙ played.0, second_begins a.site words a.side b.side after.side call events played.1 begun))
starts words (a ∷ b ∷ []) events (suc (suc number)) call party after played below is = absurd (omega arith)
starts words [] events number call party after played below is = absurd played
starts words (a ∷ []) events number call party after played below is = absurd played
starts words (a ∷ b ∷ c ∷ others) events number call party after played below is = absurd played

-- each begin of a call keeps the invariant of a queue's step machine
pub queue_starts : (machine : MachineState PartyView QueueEvent) (number : ℕ) (call : Call) (party after : PartyView)
    → QueueInvariant machine → IsParty machine number party → QueueBegins party call (Ok after)
    → QueueInvariant (with_party machine number after)
queue_starts machine number call party after holds is begun = starts machine.words machine.parties machine.events number call party after holds is.0 is.1 begun.0 begun.1
