-- A queue's party that is kept in memory between its steps, as clauses see it: its queue's site,
-- and where it is in its call.
use Rattle.std.specs.Prelude.{◌≡◌, ℕ, List, Bool, true, false, Option, Some, None}
use Rattle.iox_steps.specs.declared.access.Next.{Next}
use Rattle.iox_steps.specs.declared.access.Next.TheVariants.{Goes, Ends}
use Rattle.iox_steps.specs.declared.site.Site.{Site}
use Rattle.iox_steps.specs.declared.push.Push.{Push}
use Rattle.iox_steps.specs.declared.push.PushReply.{PushReply}
use Rattle.iox_steps.specs.declared.push.PushReply.TheVariants.{Pushed, PushedOut, Refused}
use Rattle.iox_steps.specs.declared.pop.Pop.{Pop}
use Rattle.iox_steps.specs.declared.side.Pushing.{Pushing}
use Rattle.iox_steps.specs.declared.side.Pushing.TheVariants as pushing
use Rattle.iox_steps.specs.declared.side.Popping.{Popping}
use Rattle.iox_steps.specs.declared.side.Popping.TheVariants as popping
use Rattle.iox_steps.specs.declared.side.QueueEvent.{QueueEvent}
use Rattle.iox_steps.specs.Accesses.{words_after}
use Rattle.iox_steps.specs.Sides.{pushing_access, pushing_sees, pushing_after, popping_access, popping_sees, popping_after}
use Rattle.iox_steps.specs.AfterCalls.{AfterCalls}
use Rattle.iox_steps.specs.Pushes.{push_next, full_look_next}
use Rattle.iox_steps.specs.Pops.{pop_next, empty_look_next}
use Rattle.iox_queue_steps.specs.declared.stored.answer.StepAnswer.{StepAnswer}
use Rattle.iox_queue_steps.specs.declared.stored.answer.StepAnswer.TheVariants.{Going, Done, Gives, Refuses, Yes, No}

-- the party that pushes: its queue's site, and where it is in its call
pub record Pusher : Type 0 where
  pub site : Site
  pub place : Pushing

-- the party that pops: its queue's site, and where it is in its call
pub record Popper : Type 0 where
  pub site : Site
  pub place : Popping

-- what a step of a push says. A pushed value gives nothing back, unless it pushed out the oldest; a
-- refused value comes back.
abbrev pub push_says : Next Push PushReply → StepAnswer
push_says (Goes place) = Going
push_says (Ends Pushed) = Done
push_says (Ends (PushedOut oldest)) = Gives oldest
push_says (Ends (Refused value)) = Refuses value

-- what the last step of a look says
abbrev pub seen_says : Bool → StepAnswer
seen_says true = Yes
seen_says false = No

-- what a step of a look says
abbrev pub look_says : {Look : Type 0} → Next Look Bool → StepAnswer
look_says (Goes place) = Going
look_says (Ends seen) = seen_says seen

-- what a step of the pushing party says, whose access found `seen`
abbrev pub pushing_says : Site → Pushing → ℕ → StepAnswer
pushing_says site (pushing.Pushes place) seen = push_says (push_next site place seen)
pushing_says site (pushing.Looks place) seen = look_says (full_look_next site place seen)
pushing_says site pushing.AtRest seen = Going

-- what a step of a pop says
abbrev pub pop_says : Next Pop (Option ℕ) → StepAnswer
pop_says (Goes place) = Going
pop_says (Ends None) = Done
pop_says (Ends (Some value)) = Gives value

-- what a step of the popping party says, whose access found `seen`
abbrev pub popping_says : Site → Popping → ℕ → StepAnswer
popping_says site (popping.Pops place) seen = pop_says (pop_next site place seen)
popping_says site (popping.Looks place) seen = look_says (empty_look_next site place seen)
popping_says site popping.AtRest seen = Going

-- a queue among words with both its parties
pub record Stored : Type 0 where
  pub site : Site
  pub words : List ℕ
  pub pushes : Pushing
  pub pops : Popping

-- the words and both parties are as they are after any calls on the queue
abbrev pub IsAfterCalls : Stored → Type 0
IsAfterCalls queue = (events : List QueueEvent) × AfterCalls queue.site queue.words queue.pushes queue.pops events

-- a step of the pushing party, which says this
pub record StepsPush (old : Stored) (says : StepAnswer) (new : Stored) : Type 0 where
  pub answers : says ≡ pushing_says old.site old.pushes (pushing_sees old.site old.pushes old.words)
  pub leaves : new ≡ record {
    site = old.site;
    words = words_after (pushing_access old.site old.pushes) old.words;
    pushes = pushing_after old.site old.pushes (pushing_sees old.site old.pushes old.words);
    pops = old.pops;
  }

-- a step of the popping party, which says this
pub record StepsPop (old : Stored) (says : StepAnswer) (new : Stored) : Type 0 where
  pub answers : says ≡ popping_says old.site old.pops (popping_sees old.site old.pops old.words)
  pub leaves : new ≡ record {
    site = old.site;
    words = words_after (popping_access old.site old.pops) old.words;
    pushes = old.pushes;
    pops = popping_after old.site old.pops (popping_sees old.site old.pops old.words);
  }

-- words and two stored parties that are one queue after any calls on it
pub record ArePartsAfterCalls (words : List ℕ) (pusher : Pusher) (popper : Popper) : Type 0 where
  pub same : popper.site ≡ pusher.site
  pub played : (events : List QueueEvent) × AfterCalls pusher.site words pusher.place popper.place events
