-- What the reply to a call at counts says of the call's own count and of its own accesses.
use Rattle.std.specs.Prelude.{◌≡◌, ℕ, true, false, ◌<◌, ◌≤◌, ◌⊎◌, List, ◌∷◌, Some, None}
use Rattle.std.specs.Option.{option_to_list}
use Rattle.iox_set_steps.specs.declared.counting_bit_set.CountSite.{CountSite}
use Rattle.iox_set_steps.specs.declared.counting_bit_set.CountCall.{CountCall}
use Rattle.iox_set_steps.specs.declared.counting_bit_set.CountCall.TheVariants.{Set, ResetAll}
use Rattle.iox_set_steps.specs.declared.counting_bit_set.CountReply.{CountReply}
use Rattle.iox_set_steps.specs.declared.counting_bit_set.CountReply.TheVariants as reply
use Rattle.iox_set_steps.specs.declared.counting_bit_set.CountEvent.{CountEvent}
use Rattle.iox_set_steps.specs.declared.counting_bit_set.CountEvent.TheVariants as event
use Rattle.iox_set_steps.specs.declared.counting_bit_set.CountProgram.{CountProgram}
use Rattle.iox_set_steps.specs.declared.counting_bit_set.CountProgram.TheVariants.{Replies, Loads, Exchanges, Takes}
use Rattle.iox_set_steps.specs.Counts.{max_count, count_now, times_added, taken_out}
use Rattle.iox_set_steps.specs.CountPlays.{count_kind}
use Rattle.iox_set_steps.specs.Turns.{Turn, AtSome}
use Rattle.iox_set_steps.specs.Kinds.{Calls, RepliesTell}

-- one access of a call at counts: the words that it found, and its event
abbrev pub CountTurn : Type 0
CountTurn = Turn CountEvent

module _ (site : CountSite) where
  -- the access handed out all that it found of the bit's count
  abbrev pub TookAll : ℕ → CountTurn → Type 0
  TookAll id turn = taken_out id (option_to_list turn.event) ≡ count_now site turn.found id

  -- the access added to no count
  abbrev pub AddedNone : CountTurn → Type 0
  AddedNone turn = (id : ℕ) → times_added id (option_to_list turn.event) ≡ 0

  -- What a reply to a call says of the access that gave it and of the call's earlier accesses.
  abbrev pub Says : CountCall → List CountTurn → CountTurn → CountReply → Type 0
  -- this access added one to the count of the bit, which was not the greatest
  Says (Set id) earlier turn (reply.Set true) = (turn.event ≡ Some (event.Added id))
      × (count_now site turn.found id < max_count) × (id < site.capacity)
  -- it did nothing: it found the bit's count the greatest, or there is no bit of this number
  Says (Set id) earlier turn (reply.Set false) =
      (turn.event ≡ None) × ((count_now site turn.found id ≡ max_count) ⊎ (site.capacity ≤ id))
  -- each bit's count was handed out, as it was, by one of the call's accesses
  Says ResetAll earlier turn reply.ResetAll =
      AddedNone turn × ((id : ℕ) → AtSome (TookAll id) (turn ∷ earlier))
  Says call earlier turn reply = ⊥

  -- what holds of an access that gives no reply
  abbrev pub GoesOn : CountCall → CountTurn → Type 0
  GoesOn (Set id) turn = turn.event ≡ None
  GoesOn ResetAll turn = AddedNone turn

  -- What holds of the program of a call that made these accesses. It holds where a call begins, and
  -- each access keeps it.
  abbrev pub IsDoing : CountCall → List CountTurn → CountProgram → Type 0
  IsDoing (Set id) earlier (Loads bit) = bit ≡ id
  IsDoing (Set id) earlier (Exchanges bit count) = bit ≡ id
  IsDoing (Set id) earlier (Replies done) = (done ≡ reply.Set false) × (site.capacity ≤ id)
  IsDoing ResetAll earlier (Replies done) = (done ≡ reply.ResetAll) × (site.capacity ≡ 0)
  IsDoing ResetAll earlier (Takes bit) = (id : ℕ) → id < bit → AtSome (TookAll id) earlier
  IsDoing call earlier program = ⊥

-- what the clauses say of calls at counts
abbrev pub count_calls : Calls CountSite CountProgram CountCall CountReply CountEvent
count_calls = record { Says = Says; GoesOn = GoesOn; IsDoing = IsDoing }

-- Whatever words the accesses of a call at counts find, what its reply says of its own count is
-- true.
abbrev pub RepliesTellOfTheirCounts : Type 0
RepliesTellOfTheirCounts = RepliesTell count_kind count_calls
