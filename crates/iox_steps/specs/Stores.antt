-- A party that stores continues in the same way whatever word stood there, so that a store need not
-- answer what it found.
use Rattle.std.specs.Prelude.{◌≡◌, ℕ}
use Rattle.iox_steps.specs.declared.access.Access.{Access}
use Rattle.iox_steps.specs.declared.access.Access.TheVariants.{Store}
use Rattle.iox_steps.specs.declared.site.Site.{Site}
use Rattle.iox_steps.specs.declared.side.Pushing.{Pushing}
use Rattle.iox_steps.specs.declared.side.Popping.{Popping}
use Rattle.iox_steps.specs.Sides.{pushing_after, pushing_progress, pushing_event, popping_after, popping_progress, popping_event}

-- the access is a store
abbrev pub IsStore : Access → Type 0
IsStore (Store place value) = Unit {0}
IsStore access = ⊥

-- where the pushing party goes, what it answers and its event do not depend on what its access
-- found
abbrev pub PushingIsBlind : Site → Pushing → Type 0
PushingIsBlind site pushes = (seen seen' : ℕ)
    → (pushing_after site pushes seen ≡ pushing_after site pushes seen')
    × (pushing_progress site pushes seen ≡ pushing_progress site pushes seen')
    × (pushing_event site pushes seen ≡ pushing_event site pushes seen')

-- where the popping party goes, what it answers and its event do not depend on what its access
-- found
abbrev pub PoppingIsBlind : Site → Popping → Type 0
PoppingIsBlind site pops = (seen seen' : ℕ)
    → (popping_after site pops seen ≡ popping_after site pops seen')
    × (popping_progress site pops seen ≡ popping_progress site pops seen')
    × (popping_event site pops seen ≡ popping_event site pops seen')
