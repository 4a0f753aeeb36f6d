-- The laws of the accesses of a queue's parties.
use Rattle.std.specs.Prelude.{◌≡◌, ℕ, zero, suc, ◌<◌, ◌++◌, List, [], ◌∷◌, length, slice_index, slice_index_or, slice_set, false}
use Rattle.std.specs.Option.{option_to_list}
use Rattle.std.proofs.Common.{sym, ◌∙◌, subst, arith, refl}
use Rattle.iox_steps.specs.declared.access.Progress.{Progress}
use Rattle.iox_steps.specs.declared.site.Site.{Site}
use Rattle.iox_steps.specs.declared.side.QueueEvent.{QueueEvent}
use Rattle.iox_steps.specs.declared.side.QueueReply.{QueueReply}
use Rattle.iox_queue_steps.specs.declared.queue.Side.{Side}
use Rattle.iox_queue_steps.specs.declared.queue.Side.TheVariants.{Pusher, Popper}
use Rattle.iox_steps.specs.Accesses.{IsWithin, seen_by, words_after}
use Rattle.iox_steps.specs.EventLists.{told}
use Rattle.iox_steps.specs.MachineStates.{MachineState, IsParty, seen_in, after_access}
use Rattle.iox_queue_steps.specs.Queues.{PartyView, side_access, side_after, side_event, rests, QueueLeads, BothAfterCalls, PartiesAfterCalls, QueueInvariant}
use Rattle.iox_steps.proofs.AfterCalls.{pushing_within_words, popping_within_words, pushing_plays, popping_plays}

-- the next access of the first side names a word that exists
first_within : (site : Site) (words : List ℕ) (a b : Side) (events : List QueueEvent)
    → BothAfterCalls site words a b events → IsWithin 0 (length words) (side_access site a)
first_within site words (Pusher pushes) (Popper pops) events played = pushing_within_words site words pushes pops events played
first_within site words (Pusher pushes) (Pusher other) events played = absurd played
first_within site words (Popper pops) b events played = absurd played

-- the next access of the second side names a word that exists
second_within : (site : Site) (words : List ℕ) (a b : Side) (events : List QueueEvent)
    → BothAfterCalls site words a b events → IsWithin 0 (length words) (side_access site b)
second_within site words (Pusher pushes) (Popper pops) events played = popping_within_words site words pushes pops events played
second_within site words (Pusher pushes) (Pusher other) events played = absurd played
second_within site words (Popper pops) b events played = absurd played

-- the next access of the party of this number names a word that exists
within : (words : List ℕ) (parties : List PartyView) (events : List QueueEvent) (number : ℕ) (party : PartyView)
    → PartiesAfterCalls words parties events → number < length parties
    → party ≡ slice_index_or parties number party
    → IsWithin 0 (length words) (side_access party.site party.side)
within words (a ∷ b ∷ []) events zero party played below is = subst (λ (p : PartyView). IsWithin 0 (length words) (side_access p.site p.side)) (sym is) (first_within a.site words a.side b.side events played.1)
within words (a ∷ b ∷ []) events (suc zero) party played below is = subst (λ (p : PartyView). IsWithin 0 (length words) (side_access p.site p.side)) (sym is)
    (subst (λ site. IsWithin 0 (length words) (side_access site b.side)) (sym played.0) (second_within a.site words a.side b.side events played.1))
within words (a ∷ b ∷ []) events (suc (suc number)) party played below is = absurd (omega arith)
within words [] events number party played below is = absurd played
within words (a ∷ []) events number party played below is = absurd played
within words (a ∷ b ∷ c ∷ others) events number party played below is = absurd played

-- in each machine with the invariant, the access of each party names a word that exists
pub queue_stays_in : (machine : MachineState PartyView QueueEvent) (number : ℕ) (party : PartyView) → QueueInvariant machine
    → IsParty machine number party → IsWithin 0 (length machine.words) (side_access party.site party.side)
queue_stays_in machine number party holds is = within machine.words machine.parties machine.events number party holds is.0 is.1

-- an access of the first side keeps `BothAfterCalls`
first_plays : (site : Site) (words : List ℕ) (a b : Side) (events : List QueueEvent)
    → BothAfterCalls site words a b events
    → let access = side_access site a in let seen = seen_by access (λ place. slice_index words place) in
    BothAfterCalls site (words_after access words) (side_after site a seen) b (events ++ option_to_list (told (side_event site a seen)))
first_plays site words (Pusher pushes) (Popper pops) events played = pushing_plays site words pushes pops events played
first_plays site words (Pusher pushes) (Pusher other) events played = absurd played
first_plays site words (Popper pops) b events played = absurd played

-- an access of the second side keeps `BothAfterCalls`
second_plays : (site : Site) (words : List ℕ) (a b : Side) (events : List QueueEvent)
    → BothAfterCalls site words a b events
    → let access = side_access site b in let seen = seen_by access (λ place. slice_index words place) in
    BothAfterCalls site (words_after access words) a (side_after site b seen) (events ++ option_to_list (told (side_event site b seen)))
second_plays site words (Pusher pushes) (Popper pops) events played = popping_plays site words pushes pops events played
second_plays site words (Pusher pushes) (Pusher other) events played = absurd played
second_plays site words (Popper pops) b events played = absurd played

-- an access of this party, which leaves it as `after`, leads to parties as they are after any calls
abbrev StepKeeps : List ℕ → List QueueEvent → PartyView → List PartyView → PartyView → Type 0
StepKeeps words events after parties party =
    let access = side_access party.site party.side in let seen = seen_by access (λ place. slice_index words place) in
    after.site ≡ party.site → after.side ≡ side_after party.site party.side seen
    → PartiesAfterCalls (words_after access words) parties (events ++ option_to_list (told (side_event party.site party.side seen)))

-- `BothAfterCalls` holds as well of an equal site and equal sides
same_sides : (site site' : Site) (words : List ℕ) (a a' b b' : Side) (events : List QueueEvent) → site' ≡ site
    → a' ≡ a → b' ≡ b → BothAfterCalls site words a b events → BothAfterCalls site' words a' b' events
same_sides site site' words a a' b b' events at first second played = rw (at, first, second) played

-- an access of the first party keeps `PartiesAfterCalls`
first_keeps : (words : List ℕ) (a b : PartyView) (events : List QueueEvent) (after : PartyView)
    → PartiesAfterCalls words (a ∷ b ∷ []) events → StepKeeps words events after (after ∷ b ∷ []) a
first_keeps words a b events after played same goes = (
  played.0 ∙ sym same,
  same_sides _ _ _ _ _ _ _ _ same goes refl (first_plays a.site words a.side b.side events played.1),
)

-- an access of the second party keeps `PartiesAfterCalls`
second_keeps : (words : List ℕ) (a b : PartyView) (events : List QueueEvent) (after : PartyView)
    → PartiesAfterCalls words (a ∷ b ∷ []) events → StepKeeps words events after (a ∷ after ∷ []) b
second_keeps words a b events after played same goes = (
  same ∙ played.0,
  same_sides _ _ _ _ _ _ _ _ (sym played.0) refl goes (second_plays b.site words a.side b.side events (same_sides _ _ _ _ _ _ _ _ played.0 refl refl played.1)),
)

-- an access of the party of this number keeps `PartiesAfterCalls`
keeps : (words : List ℕ) (parties : List PartyView) (events : List QueueEvent) (number : ℕ) (party after : PartyView)
    → PartiesAfterCalls words parties events → number < length parties
    → party ≡ slice_index_or parties number party
    → StepKeeps words events after (slice_set parties number after) party
keeps words (a ∷ b ∷ []) events zero party after played below is = subst (StepKeeps words events after (after ∷ b ∷ [])) (sym is) (first_keeps words a b events after played)
keeps words (a ∷ b ∷ []) events (suc zero) party after played below is = subst (StepKeeps words events after (a ∷ after ∷ [])) (sym is) (second_keeps words a b events after played)
keeps words (a ∷ b ∷ []) events (suc (suc number)) party after played below is = absurd (omega arith)
keeps words [] events number party after played below is = absurd played
keeps words (a ∷ []) events number party after played below is = absurd played
keeps words (a ∷ b ∷ c ∷ others) events number party after played below is = absurd played

-- each access of a party whose call is under way keeps the invariant of a queue's step machine
pub queue_keeps : (machine : MachineState PartyView QueueEvent) (number : ℕ) (party after : PartyView) (answer : Progress QueueReply)
    → QueueInvariant machine → IsParty machine number party → rests party.side ≡ false
    → QueueLeads party (seen_in machine (side_access party.site party.side)) answer after
    → QueueInvariant (after_access machine number (side_access party.site party.side) after (told (side_event party.site party.side (seen_in machine (side_access party.site party.side)))))
queue_keeps machine number party after answer holds is awake leads = keeps machine.words machine.parties machine.events number party after holds is.0 is.1 leads.0 leads.1
