-- What the reply to a call at bits says of the call's own bit and of its own accesses.
use Rattle.std.specs.Prelude.{◌≡◌, ℕ, true, false, ◌/◌, ◌<◌, ◌≤◌, ◌⊎◌, List, ◌∷◌, Some, None}
use Rattle.std.specs.Option.{option_to_list}
use Rattle.iox_set_steps.specs.declared.bit_set.BitSite.{BitSite}
use Rattle.iox_set_steps.specs.declared.bit_set.BitCall.{BitCall}
use Rattle.iox_set_steps.specs.declared.bit_set.BitCall.TheVariants.{Set, ResetNext, ResetAll}
use Rattle.iox_set_steps.specs.declared.bit_set.BitReply.{BitReply}
use Rattle.iox_set_steps.specs.declared.bit_set.BitReply.TheVariants as reply
use Rattle.iox_set_steps.specs.declared.bit_set.BitEvent.{BitEvent}
use Rattle.iox_set_steps.specs.declared.bit_set.BitEvent.TheVariants as event
use Rattle.iox_set_steps.specs.declared.bit_set.BitProgram.{BitProgram}
use Rattle.iox_set_steps.specs.declared.bit_set.BitProgram.TheVariants.{Replies, Sets, Looks, Clears, ClearsAll}
use Rattle.iox_set_steps.specs.Bits.{bit_now, times_set, times_cleared}
use Rattle.iox_set_steps.specs.BitPlays.{bit_kind}
use Rattle.iox_set_steps.specs.Turns.{Turn, AtSome}
use Rattle.iox_set_steps.specs.Kinds.{Calls, RepliesTell}

-- one access of a call at bits: the words that it found, and its event
abbrev pub BitTurn : Type 0
BitTurn = Turn BitEvent

module _ (site : BitSite) where
  -- the access found the bit set
  abbrev pub FoundSet : ℕ → BitTurn → Type 0
  FoundSet id turn = bit_now site turn.found id ≡ 1

  -- the access found the bit clear
  abbrev pub FoundClear : ℕ → BitTurn → Type 0
  FoundClear id turn = bit_now site turn.found id ≡ 0

  -- the access found the bit clear, or cleared it and handed it out
  abbrev pub LeftClear : ℕ → BitTurn → Type 0
  LeftClear id turn = FoundClear id turn ⊎ (times_cleared id (option_to_list turn.event) ≡ 1)

  -- the access set no bit
  abbrev pub SetsNone : BitTurn → Type 0
  SetsNone turn = (id : ℕ) → times_set id (option_to_list turn.event) ≡ 0

  -- What a reply to a call says of the access that gave it and of the call's earlier accesses.
  abbrev pub Says : BitCall → List BitTurn → BitTurn → BitReply → Type 0
  -- this access found the bit clear, and set it
  Says (Set id) earlier turn (reply.Set true) =
      (turn.event ≡ Some (event.Set id)) × FoundClear id turn × (id < site.capacity)
  -- it did nothing: it found the bit set, or there is no bit of this number
  Says (Set id) earlier turn (reply.Set false) =
      (turn.event ≡ None) × (FoundSet id turn ⊎ (site.capacity ≤ id))
  -- it found the bit set, and cleared it
  Says ResetNext earlier turn (reply.ResetNext (Some id)) =
      (turn.event ≡ Some (event.Cleared id)) × FoundSet id turn
  -- it did nothing, and each bit was found clear by one of the call's accesses
  Says ResetNext earlier turn (reply.ResetNext None) =
      (turn.event ≡ None) × ((id : ℕ) → AtSome (FoundClear id) (turn ∷ earlier))
  -- each bit was found clear by one of the call's accesses, or cleared by it and handed out
  Says ResetAll earlier turn reply.ResetAll =
      SetsNone turn × ((id : ℕ) → AtSome (LeftClear id) (turn ∷ earlier))
  Says call earlier turn reply = ⊥

  -- what holds of an access that gives no reply: a `set` replies at its first access
  abbrev pub GoesOn : BitCall → BitTurn → Type 0
  GoesOn (Set id) turn = ⊥
  GoesOn ResetNext turn = turn.event ≡ None
  GoesOn ResetAll turn = SetsNone turn

  -- What holds of the program of a call that made these accesses. It holds where a call begins, and
  -- each access keeps it.
  abbrev pub IsDoing : BitCall → List BitTurn → BitProgram → Type 0
  IsDoing (Set id) earlier (Sets bit) = bit ≡ id
  IsDoing (Set id) earlier (Replies done) = (done ≡ reply.Set false) × (site.capacity ≤ id)
  IsDoing ResetNext earlier (Replies done) = (done ≡ reply.ResetNext None) × (site.capacity ≡ 0)
  IsDoing ResetNext earlier (Looks word) =
      (id : ℕ) → id / 64 < word → AtSome (FoundClear id) earlier
  IsDoing ResetNext earlier (Clears bit) =
      (id : ℕ) → id / 64 < bit / 64 → AtSome (FoundClear id) earlier
  IsDoing ResetAll earlier (Replies done) = (done ≡ reply.ResetAll) × (site.capacity ≡ 0)
  IsDoing ResetAll earlier (ClearsAll word) =
      (id : ℕ) → id / 64 < word → AtSome (LeftClear id) earlier
  IsDoing call earlier program = ⊥

-- what the clauses say of calls at bits
abbrev pub bit_calls : Calls BitSite BitProgram BitCall BitReply BitEvent
bit_calls = record { Says = Says; GoesOn = GoesOn; IsDoing = IsDoing }

-- Whatever words the accesses of a call at bits find, what its reply says of its own bit is true.
abbrev pub RepliesTellOfTheirBits : Type 0
RepliesTellOfTheirBits = RepliesTell bit_kind bit_calls
