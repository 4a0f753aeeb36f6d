-- Quiet steps: an access that is no moment of the machine, after which its call goes on.
use Rattle.std.specs.Prelude.{◌≡◌, ℕ, List, None}
use Rattle.iox_steps.specs.declared.side.Pushing.{Pushing}
use Rattle.iox_steps.specs.declared.side.Pushing.TheVariants as pushing
use Rattle.iox_steps.specs.declared.side.Popping.{Popping}
use Rattle.iox_steps.specs.declared.side.Popping.TheVariants as popping
use Rattle.iox_steps.specs.declared.side.QueueEvent.{QueueEvent}
use Rattle.iox_steps.specs.declared.side.QueueEvent.TheVariants as events
use Rattle.iox_steps.specs.declared.push.FullLook.TheVariants as full_look
use Rattle.iox_steps.specs.declared.site.Site.{Site}
use Rattle.iox_steps.specs.Accesses.{seen_at, words_after}
use Rattle.iox_steps.specs.Pops.{pop_event}
use Rattle.iox_steps.specs.Pushes.{push_event}
use Rattle.iox_steps.specs.Sides.{popping_access, popping_after, pushing_access, pushing_after}
use Rattle.iox_word_places.specs.Programs.{program_access}
use Rattle.iox_wire_locals.specs.declared.seat.Seat.{Seat}
use Rattle.iox_wire_locals.specs.Locals.{program_of}
use Rattle.iox_wire_locals.specs.Steps.{next, tells}
use Rattle.iox_wire_locals.specs.Tables.{Setting}
use Rattle.iox_wire_seats.specs.SlotEvents.{slot_event}

-- The access of the node finds this in the words, and leaves these. It is no moment, and the call
-- goes on to the node's next place.
pub record StepsQuietly (p : Setting) (x : Seat) (words : List ℕ) (seen : ℕ) (y : Seat)
    (left : List ℕ) : Type 0 where
  pub finds : seen ≡ seen_at (program_access p.layout (program_of p x.local)) words
  pub leaves : left ≡ words_after (program_access p.layout (program_of p x.local)) words
  pub event : slot_event p x.local seen ≡ None
  pub goes : y ≡ next p x seen
  pub tells_none : tells p x seen ≡ None

-- ---- in a queue

-- a pop that has this event takes nothing, and is not over
abbrev pub IsQuietOfPop : QueueEvent → Type 0
IsQuietOfPop events.Quiet = Unit {0}
IsQuietOfPop events.SeesWaiting = Unit {0}
IsQuietOfPop event = ⊥

-- a push that has this event puts nothing in, and pushes nothing out
abbrev pub IsQuietOfPush : QueueEvent → Type 0
IsQuietOfPush events.Quiet = Unit {0}
IsQuietOfPush events.SeesEnd = Unit {0}
IsQuietOfPush events.SeesFull = Unit {0}
IsQuietOfPush events.SeesRoom = Unit {0}
IsQuietOfPush event = ⊥

-- the party pops, and finds what is quiet
abbrev pub PopIsQuiet : Site → Popping → ℕ → Type 0
PopIsQuiet site (popping.Pops place) seen = IsQuietOfPop (pop_event site place seen)
PopIsQuiet site party seen = ⊥

-- the party pushes, and finds what is quiet
abbrev pub PushIsQuiet : Site → Pushing → ℕ → Type 0
PushIsQuiet site (pushing.Pushes place) seen = IsQuietOfPush (push_event site place seen)
PushIsQuiet site party seen = ⊥

-- A load of a pop, which goes on.
pub record PopsQuietly (site : Site) (old : Popping) (words : List ℕ) (seen : ℕ) (new : Popping)
    : Type 0 where
  pub finds : seen ≡ seen_at (popping_access site old) words
  pub loads : words_after (popping_access site old) words ≡ words
  pub place : new ≡ popping_after site old seen
  pub quiet : PopIsQuiet site old seen

-- An access of a push that puts nothing in and pushes nothing out.
pub record PushesQuietly (site : Site) (old : Pushing) (words : List ℕ) (seen : ℕ) (new : Pushing)
    (left : List ℕ) : Type 0 where
  pub finds : seen ≡ seen_at (pushing_access site old) words
  pub leaves : left ≡ words_after (pushing_access site old) words
  pub place : new ≡ pushing_after site old seen
  pub quiet : PushIsQuiet site old seen

-- The first load of a look at fullness.
pub record LooksQuietly (site : Site) (old : Pushing) (words : List ℕ) (seen : ℕ) (new : Pushing)
    : Type 0 where
  pub first : old ≡ pushing.Looks full_look.LoadsWrite
  pub finds : seen ≡ seen_at (pushing_access site old) words
  pub place : new ≡ pushing_after site old seen
