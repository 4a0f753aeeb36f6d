-- How a party of a queue keeps where it is: a name, and numbers beside it. Only for proofs of this
-- crate.
use Rattle.std.specs.Prelude.{ℕ, Bool}
use Rattle.iox_steps.specs.declared.push.Push.TheVariants as push
use Rattle.iox_steps.specs.declared.push.FullLook.TheVariants as full_look
use Rattle.iox_steps.specs.declared.pop.Pop.TheVariants as pop
use Rattle.iox_steps.specs.declared.pop.EmptyLook.TheVariants as empty_look
use Rattle.iox_steps.specs.declared.side.Pushing.{Pushing}
use Rattle.iox_steps.specs.declared.side.Pushing.TheVariants as pushing
use Rattle.iox_steps.specs.declared.side.Popping.{Popping}
use Rattle.iox_steps.specs.declared.side.Popping.TheVariants as popping
use Rattle.iox_steps.specs.Pushes.{full_at}
use Rattle.iox_wire_seats.specs.declared.pusher.PushAt.{PushAt}
use Rattle.iox_wire_seats.specs.declared.pusher.PushAt.TheVariants as push_at
use Rattle.iox_wire_seats.specs.declared.popper.PopAt.{PopAt}
use Rattle.iox_wire_seats.specs.declared.popper.PopAt.TheVariants as pop_at

-- the pushing party that a name and its numbers stand for
abbrev pub pushing_of : PushAt → (value position : ℕ) → Bool → (read cell : ℕ) → Pushing
pushing_of push_at.Rest value position full read cell = pushing.AtRest
pushing_of push_at.LoadsWrite value position full read cell =
    pushing.Pushes (push.LoadsWrite value)
pushing_of push_at.LoadsRead value position full read cell =
    pushing.Pushes (push.LoadsRead value position)
pushing_of push_at.StoresCell value position full read cell =
    pushing.Pushes (push.StoresCell value cell position (full_at full read))
pushing_of push_at.StoresWrite value position full read cell =
    pushing.Pushes (push.StoresWrite value position (full_at full read))
pushing_of push_at.Evicts value position full read cell = pushing.Pushes (push.Evicts read)
pushing_of push_at.TakesOld value position full read cell = pushing.Pushes (push.TakesOld cell)
pushing_of push_at.LookLoadsWrite value position full read cell =
    pushing.Looks full_look.LoadsWrite
pushing_of push_at.LookLoadsRead value position full read cell =
    pushing.Looks (full_look.LoadsRead position)

-- the party is in a push, and sees the read position next
abbrev pub IsComparing : Pushing → Type 0
IsComparing (pushing.Pushes (push.LoadsRead value write)) = Unit {0}
IsComparing party = ⊥

-- it may push the oldest out next
abbrev pub IsPushingOut : Pushing → Type 0
IsPushingOut (pushing.Pushes (push.Evicts read)) = Unit {0}
IsPushingOut party = ⊥

-- the popping party that a name and its numbers stand for
abbrev pub popping_of : PopAt → (position value cell : ℕ) → Popping
popping_of pop_at.Rest position value cell = popping.AtRest
popping_of pop_at.LoadsRead position value cell = popping.Pops pop.LoadsRead
popping_of pop_at.LoadsWrite position value cell = popping.Pops (pop.LoadsWrite position)
popping_of pop_at.LoadsCell position value cell = popping.Pops (pop.LoadsCell position cell)
popping_of pop_at.Takes position value cell = popping.Pops (pop.Takes position value)
popping_of pop_at.LookLoadsRead position value cell = popping.Looks empty_look.LoadsRead
popping_of pop_at.LookLoadsWrite position value cell =
    popping.Looks (empty_look.LoadsWrite position)

-- it may take the oldest next
abbrev pub IsTaking : Popping → Type 0
IsTaking (popping.Pops (pop.Takes read value)) = Unit {0}
IsTaking party = ⊥
