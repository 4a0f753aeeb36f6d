-- Each access leads to a place that continues with the program, or begins another once that is over.
use Rattle.std.proofs.Common.{◌≡◌, ℕ, ◌⊎◌, inl, inr, Bool, true, false, if◌then◌else◌, ◌==◌, Option, Some, None, refl}
use Rattle.iox_steps.specs.declared.push.Push.{Push}
use Rattle.iox_steps.specs.declared.push.Push.TheVariants as push
use Rattle.iox_steps.specs.declared.push.FullLook.{FullLook}
use Rattle.iox_steps.specs.declared.push.FullLook.TheVariants as full_look
use Rattle.iox_steps.specs.declared.pop.Pop.{Pop}
use Rattle.iox_steps.specs.declared.pop.Pop.TheVariants as pop
use Rattle.iox_steps.specs.declared.pop.EmptyLook.{EmptyLook}
use Rattle.iox_steps.specs.declared.pop.EmptyLook.TheVariants as empty_look
use Rattle.iox_steps.specs.declared.access.Next.TheVariants.{Goes, Ends}
use Rattle.iox_steps.specs.declared.side.Pushing.{Pushing}
use Rattle.iox_steps.specs.declared.side.Pushing.TheVariants as pushing
use Rattle.iox_steps.specs.declared.side.Popping.{Popping}
use Rattle.iox_steps.specs.declared.side.Popping.TheVariants as popping
use Rattle.iox_steps.specs.declared.side.QueueEvent.{QueueEvent}
use Rattle.iox_steps.specs.declared.side.QueueEvent.TheVariants.{Quiet, Publish, HandOut, SeesEmpty, SeesWaiting, SeesFull, SeesRoom, SeesEnd}
use Rattle.iox_steps.specs.declared.site.Site.{Site}
use Rattle.iox_steps.specs.Sites.{cell_at, is_empty, is_full, last_position}
use Rattle.iox_steps.specs.Pops.{is_taken, pop_event, empty_look_event}
use Rattle.iox_steps.specs.Pushes.{push_event, full_look_event}
use Rattle.iox_steps.specs.Sides.{in_pop, popping_after, pushing_after}
use Rattle.iox_word_map.specs.WordMaps.{WireQueue}
use Rattle.iox_wire_words.specs.Programs.{Program, Pushes, Pops, site_of}
use Rattle.iox_wire_words.specs.BeginLaws.{IsOver}
use Rattle.iox_wire_locals.specs.declared.seat.Seat.{Seat}
use Rattle.iox_wire_locals.specs.Tables.{Setting}
use Rattle.iox_wire_locals.specs.Locals.{program_of}
use Rattle.iox_wire_laws.proofs.WireKeeping.CourseLeads.{FreshAt}

-- the node's place continues with that program, or begins another as that is over
abbrev pub Follows : Setting → Program → Seat → Type 0
Follows p after y = (program_of p y.local ≡ after) ⊎ (IsOver after × FreshAt p y)

-- the push did not find its queue full
abbrev pub IsEarly : Push → Type 0
IsEarly (push.StoresWrite value next (Some read)) = ⊥
IsEarly (push.Evicts read) = ⊥
IsEarly (push.TakesOld cell) = ⊥
IsEarly place = Unit {0}

-- what is made of a place in a queue and of an event there
module _ (p : Setting) (q : WireQueue) where
  abbrev site : Site
  site = site_of p.layout q

  -- ---- pops and looks at emptiness

  module _ (f : Popping → QueueEvent → Seat) (quiet : (place : Popping) → program_of p (f place Quiet).local ≡ Pops q place) where
    abbrev GoesTo : Popping → QueueEvent → Type 0
    GoesTo place event = Follows p (Pops q place) (f place event)

    pub popped : FreshAt p (f popping.AtRest SeesEmpty) → ((slot : ℕ) → FreshAt p (f popping.AtRest (HandOut slot)))
        → ((place : Popping) → program_of p (f place SeesWaiting).local ≡ Pops q place) → (place : Pop) (seen : ℕ)
        → GoesTo (popping_after site (popping.Pops place) seen) (pop_event site place seen)
    popped empty hands waits pop.LoadsRead seen = inl (quiet _)
    popped empty hands waits (pop.LoadsWrite read) seen = at_write (is_empty site read seen)
      where
        at_write : (b : Bool)
            → GoesTo (in_pop {R = Option ℕ} (if b then Ends None else Goes (pop.LoadsCell read (cell_at site read)))) (if b then SeesEmpty else SeesWaiting)
        at_write true = inr (refl, empty)
        at_write false = inl (waits _)
    popped empty hands waits (pop.LoadsCell read cell) seen = inl (quiet _)
    popped empty hands waits (pop.Takes read value) seen = at_take (is_taken site.kind read seen)
      where
        at_take : (b : Bool)
            → GoesTo (in_pop {R = Option ℕ} (if b then Ends (Some value) else Goes (pop.LoadsCell seen (cell_at site seen)))) (if b then HandOut value else Quiet)
        at_take true = inr (refl, hands value)
        at_take false = inl (quiet _)

    pub seen_empty : FreshAt p (f popping.AtRest SeesEmpty) → FreshAt p (f popping.AtRest SeesWaiting) → (place : EmptyLook) (seen : ℕ)
        → GoesTo (popping_after site (popping.Looks place) seen) (empty_look_event site place seen)
    seen_empty empty waits empty_look.LoadsRead seen = inl (quiet _)
    seen_empty empty waits (empty_look.LoadsWrite read) seen = at_write (is_empty site read seen)
      where
        at_write : (b : Bool) → GoesTo popping.AtRest (if b then SeesEmpty else SeesWaiting)
        at_write true = inr (refl, empty)
        at_write false = inr (refl, waits)

  -- ---- pushes and looks at fullness

  module _ (f : Pushing → QueueEvent → Seat) (quiet : (place : Pushing) → program_of p (f place Quiet).local ≡ Pushes q place) where
    abbrev LeadsTo : Pushing → QueueEvent → Type 0
    LeadsTo place event = Follows p (Pushes q place) (f place event)

    pub seen_full : FreshAt p (f pushing.AtRest SeesFull) → FreshAt p (f pushing.AtRest SeesRoom) → (place : FullLook) (seen : ℕ)
        → LeadsTo (pushing_after site (pushing.Looks place) seen) (full_look_event site place seen)
    seen_full full room full_look.LoadsWrite seen = inl (quiet _)
    seen_full full room (full_look.LoadsRead write) seen = at_read (is_full site seen write)
      where
        at_read : (b : Bool) → LeadsTo pushing.AtRest (if b then SeesFull else SeesRoom)
        at_read true = inr (refl, full)
        at_read false = inr (refl, room)

    -- the push continues at its place whatever it sees of the positions
    abbrev pub Watches : Type 0
    Watches =
        (place : Pushing) → (program_of p (f place SeesFull).local ≡ Pushes q place)
        × (program_of p (f place SeesRoom).local ≡ Pushes q place) × (program_of p (f place SeesEnd).local ≡ Pushes q place)

    at_read : Watches → (place : Pushing) (ended full : Bool) → LeadsTo place (if ended then SeesEnd else (if full then SeesFull else SeesRoom))
    at_read watches place true full = inl (watches place).2
    at_read watches place false true = inl (watches place).0
    at_read watches place false false = inl (watches place).1

    -- a push up to where it publishes with room
    pub pushed : Watches → ((value : ℕ) → FreshAt p (f pushing.AtRest (Publish value))) → (place : Push) (seen : ℕ) → IsEarly place
        → LeadsTo (pushing_after site (pushing.Pushes place) seen) (push_event site place seen)
    pushed watches publishes (push.LoadsWrite value) seen early = inl (quiet _)
    pushed watches publishes (push.LoadsRead value write) seen early = at_read watches _ (write == last_position) (is_full site seen write)
    pushed watches publishes (push.StoresCell value cell next full) seen early = inl (quiet _)
    pushed watches publishes (push.StoresWrite value next None) seen early = inr (refl, publishes value)
    pushed watches publishes (push.StoresWrite value next (Some read)) seen early = absurd early
    pushed watches publishes (push.Evicts read) seen early = absurd early
    pushed watches publishes (push.TakesOld cell) seen early = absurd early
