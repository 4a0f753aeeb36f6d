-- The two parties of a queue, each at rest or inside one of its programs.
use Rattle.std.specs.Prelude.{ℕ, List}
use Rattle.iox_steps.specs.declared.access.Access.{Access}
use Rattle.iox_steps.specs.declared.access.Access.TheVariants.{Local}
use Rattle.iox_steps.specs.declared.access.Next.{Next}
use Rattle.iox_steps.specs.declared.access.Next.TheVariants.{Goes, Ends}
use Rattle.iox_steps.specs.declared.access.Progress.{Progress}
use Rattle.iox_steps.specs.declared.access.Progress.TheVariants.{Going, Done}
use Rattle.iox_steps.specs.declared.side.QueueReply.{QueueReply}
use Rattle.iox_steps.specs.declared.side.QueueReply.TheVariants.{Full, Popped, Empty}
use Rattle.iox_steps.specs.declared.site.Site.{Site}
use Rattle.iox_steps.specs.declared.push.Push.{Push}
use Rattle.iox_steps.specs.declared.push.Push.TheVariants as push
use Rattle.iox_steps.specs.declared.push.FullLook.{FullLook}
use Rattle.iox_steps.specs.declared.push.FullLook.TheVariants as full_look
use Rattle.iox_steps.specs.declared.pop.Pop.{Pop}
use Rattle.iox_steps.specs.declared.pop.Pop.TheVariants as pop
use Rattle.iox_steps.specs.declared.pop.EmptyLook.{EmptyLook}
use Rattle.iox_steps.specs.declared.pop.EmptyLook.TheVariants as empty_look
use Rattle.iox_steps.specs.declared.side.Pushing.{Pushing}
use Rattle.iox_steps.specs.declared.side.Pushing.TheVariants as pushing
use Rattle.iox_steps.specs.declared.side.Popping.{Popping}
use Rattle.iox_steps.specs.declared.side.Popping.TheVariants as popping
use Rattle.iox_steps.specs.declared.side.QueueEvent.{QueueEvent}
use Rattle.iox_steps.specs.declared.side.QueueEvent.TheVariants.{Quiet}
use Rattle.iox_steps.specs.Accesses.{seen_at}
use Rattle.iox_steps.specs.Replies.{push_reply}
use Rattle.iox_steps.specs.Pushes.{push_access, push_next, push_event, full_look_access, full_look_next, full_look_event}
use Rattle.iox_steps.specs.Pops.{pop_access, pop_next, pop_event, empty_look_access, empty_look_next, empty_look_event}

-- the access that the pushing party makes next; at rest it names no word
abbrev pub pushing_access : Site → Pushing → Access
pushing_access site pushing.AtRest = Local
pushing_access site (pushing.Pushes place) = push_access site place
pushing_access site (pushing.Looks place) = full_look_access site place

-- what the next access of the pushing party sees in these words
abbrev pub pushing_sees : Site → Pushing → List ℕ → ℕ
pushing_sees site party words = seen_at (pushing_access site party) words

-- the pushing party after an access of a push: inside the program, or at rest once it ended
abbrev pub in_push : {R : Type 0} → Next Push R → Pushing
in_push (Goes place) = pushing.Pushes place
in_push (Ends reply) = pushing.AtRest

-- the pushing party after an access of a look at fullness: inside the program, or at rest once it
-- ended
abbrev pub in_full_look : {R : Type 0} → Next FullLook R → Pushing
in_full_look (Goes place) = pushing.Looks place
in_full_look (Ends reply) = pushing.AtRest

-- the pushing party after an access that found `seen`
abbrev pub pushing_after : Site → Pushing → ℕ → Pushing
pushing_after site pushing.AtRest seen = pushing.AtRest
pushing_after site (pushing.Pushes place) seen = in_push (push_next site place seen)
pushing_after site (pushing.Looks place) seen = in_full_look (full_look_next site place seen)

-- whether a call continues or is done, and with which reply
abbrev pub progress : {P R S : Type 0} → (R → S) → Next P R → Progress S
progress reply (Goes place) = Going
progress reply (Ends answer) = Done (reply answer)

-- whether the call of the pushing party continues after an access that found `seen`, and else its
-- reply
abbrev pub pushing_progress : Site → Pushing → ℕ → Progress QueueReply
pushing_progress site pushing.AtRest seen = Going
pushing_progress site (pushing.Pushes place) seen =
    progress (push_reply site.kind) (push_next site place seen)
pushing_progress site (pushing.Looks place) seen = progress Full (full_look_next site place seen)

-- what an access of the pushing party, which found `seen`, does to the queue or sees there
abbrev pub pushing_event : Site → Pushing → ℕ → QueueEvent
pushing_event site pushing.AtRest seen = Quiet
pushing_event site (pushing.Pushes place) seen = push_event site place seen
pushing_event site (pushing.Looks place) seen = full_look_event site place seen

-- the access that the popping party makes next; at rest it names no word
abbrev pub popping_access : Site → Popping → Access
popping_access site popping.AtRest = Local
popping_access site (popping.Pops place) = pop_access site place
popping_access site (popping.Looks place) = empty_look_access site place

-- what the next access of the popping party sees in these words
abbrev pub popping_sees : Site → Popping → List ℕ → ℕ
popping_sees site party words = seen_at (popping_access site party) words

-- the popping party after an access of a pop: inside the program, or at rest once it ended
abbrev pub in_pop : {R : Type 0} → Next Pop R → Popping
in_pop (Goes place) = popping.Pops place
in_pop (Ends reply) = popping.AtRest

-- the popping party after an access of a look at emptiness: inside the program, or at rest once it
-- ended
abbrev pub in_empty_look : {R : Type 0} → Next EmptyLook R → Popping
in_empty_look (Goes place) = popping.Looks place
in_empty_look (Ends reply) = popping.AtRest

-- the popping party after an access that found `seen`
abbrev pub popping_after : Site → Popping → ℕ → Popping
popping_after site popping.AtRest seen = popping.AtRest
popping_after site (popping.Pops place) seen = in_pop (pop_next site place seen)
popping_after site (popping.Looks place) seen = in_empty_look (empty_look_next site place seen)

-- whether the call of the popping party continues after an access that found `seen`, and else its
-- reply
abbrev pub popping_progress : Site → Popping → ℕ → Progress QueueReply
popping_progress site popping.AtRest seen = Going
popping_progress site (popping.Pops place) seen = progress Popped (pop_next site place seen)
popping_progress site (popping.Looks place) seen = progress Empty (empty_look_next site place seen)

-- what an access of the popping party, which found `seen`, does to the queue or sees there
abbrev pub popping_event : Site → Popping → ℕ → QueueEvent
popping_event site popping.AtRest seen = Quiet
popping_event site (popping.Pops place) seen = pop_event site place seen
popping_event site (popping.Looks place) seen = empty_look_event site place seen

-- the pushing party, taken as at rest where its call made no access yet
abbrev pub pushing_rested : Pushing → Pushing
pushing_rested (pushing.Pushes (push.LoadsWrite value)) = pushing.AtRest
pushing_rested (pushing.Looks full_look.LoadsWrite) = pushing.AtRest
pushing_rested party = party

-- the popping party, taken as at rest where its call made no access yet
abbrev pub popping_rested : Popping → Popping
popping_rested (popping.Pops pop.LoadsRead) = popping.AtRest
popping_rested (popping.Looks empty_look.LoadsRead) = popping.AtRest
popping_rested party = party
