-- The two parties of a queue of values, each at rest or inside one of its programs.
use Rattle.std.specs.Prelude.{ℕ, List, Option}
use Rattle.iox_steps.specs.declared.access.Access.{Access}
use Rattle.iox_steps.specs.declared.access.Access.TheVariants.{Local}
use Rattle.iox_steps.specs.declared.access.Next.{Next}
use Rattle.iox_steps.specs.declared.access.Next.TheVariants.{Goes, Ends}
use Rattle.iox_steps.specs.declared.access.Progress.{Progress}
use Rattle.iox_steps.specs.declared.access.Progress.TheVariants.{Going}
use Rattle.iox_steps.specs.declared.push.FullLook.{FullLook}
use Rattle.iox_steps.specs.declared.pop.EmptyLook.{EmptyLook}
use Rattle.iox_steps.specs.Sides.{progress}
use Rattle.iox_cell_queues.specs.declared.site.CellSite.{CellSite}
use Rattle.iox_cell_queues.specs.declared.push.CellPush.{CellPush}
use Rattle.iox_cell_queues.specs.declared.pop.CellPop.{CellPop}
use Rattle.iox_cell_queues.specs.declared.event.CellEvent.{CellEvent}
use Rattle.iox_cell_queues.specs.declared.event.CellEvent.TheVariants.{Quiet}
use Rattle.iox_cell_queues.specs.declared.event.CellReply.{CellReply}
use Rattle.iox_cell_queues.specs.declared.event.CellReply.TheVariants.{Pushed, Full, Popped, Empty}
use Rattle.iox_cell_queues.specs.declared.side.CellPushing.{CellPushing}
use Rattle.iox_cell_queues.specs.declared.side.CellPushing.TheVariants as pushing
use Rattle.iox_cell_queues.specs.declared.side.CellPopping.{CellPopping}
use Rattle.iox_cell_queues.specs.declared.side.CellPopping.TheVariants as popping
use Rattle.iox_cell_queues.specs.CellPrograms.{push_access, push_next, pop_access, pop_next}
use Rattle.iox_cell_queues.specs.CellPrograms.{full_look_access, full_look_next, empty_look_access, empty_look_next}
use Rattle.iox_cell_queues.specs.CellEvents.{push_event, pop_event, full_look_event, empty_look_event}

-- the access that the pushing party makes next; at rest it names no word
abbrev pub pushing_access : {A : Type 0} → (A → List ℕ) → CellSite → CellPushing A → Access
pushing_access words site pushing.AtRest = Local
pushing_access words site (pushing.Pushes push) = push_access words site push
pushing_access words site (pushing.Looks look) = full_look_access site look

-- the pushing party after an access of a push: inside the program, or at rest once it ended
abbrev pub in_push : {A R : Type 0} → Next (CellPush A) R → CellPushing A
in_push (Goes push) = pushing.Pushes push
in_push (Ends reply) = pushing.AtRest

-- the pushing party after an access of a look at fullness: inside the program, or at rest once it
-- ended
abbrev pub in_full_look : {A R : Type 0} → Next FullLook R → CellPushing A
in_full_look (Goes look) = pushing.Looks look
in_full_look (Ends reply) = pushing.AtRest

-- the pushing party after an access that found `seen`
abbrev pub pushing_after : {A : Type 0} → CellSite → CellPushing A → ℕ → CellPushing A
pushing_after site pushing.AtRest seen = pushing.AtRest
pushing_after site (pushing.Pushes push) seen = in_push (push_next site push seen)
pushing_after site (pushing.Looks look) seen = in_full_look (full_look_next site look seen)

-- whether the call of the pushing party continues after an access that found `seen`, and else its
-- reply
abbrev pub pushing_progress : {A : Type 0} → CellSite → CellPushing A → ℕ → Progress (CellReply A)
pushing_progress site pushing.AtRest seen = Going
pushing_progress site (pushing.Pushes push) seen = progress Pushed (push_next site push seen)
pushing_progress site (pushing.Looks look) seen = progress Full (full_look_next site look seen)

-- what an access of the pushing party, which found `seen`, does to the queue or sees there
abbrev pub pushing_event : {A : Type 0} → CellSite → CellPushing A → ℕ → CellEvent A
pushing_event site pushing.AtRest seen = Quiet
pushing_event site (pushing.Pushes push) seen = push_event site push seen
pushing_event site (pushing.Looks look) seen = full_look_event site look seen

-- the access that the popping party makes next; at rest it names no word
abbrev pub popping_access : {width : ℕ} → CellSite → CellPopping width → Access
popping_access site popping.AtRest = Local
popping_access site (popping.Pops pop) = pop_access site pop
popping_access site (popping.Looks look) = empty_look_access site look

-- the popping party after an access of a pop: inside the program, or at rest once it ended
abbrev pub in_pop : {R : Type 0} → {width : ℕ} → Next (CellPop width) R → CellPopping width
in_pop (Goes pop) = popping.Pops pop
in_pop (Ends reply) = popping.AtRest

-- the popping party after an access of a look at emptiness: inside the program, or at rest once it
-- ended
abbrev pub in_empty_look : {R : Type 0} → {width : ℕ} → Next EmptyLook R → CellPopping width
in_empty_look (Goes look) = popping.Looks look
in_empty_look (Ends reply) = popping.AtRest

module _ {A : Type 0} {width : ℕ} (of_words : List ℕ → Option A) (site : CellSite) where
  -- the popping party after an access that found `seen`
  abbrev pub popping_after : CellPopping width → ℕ → CellPopping width
  popping_after popping.AtRest seen = popping.AtRest
  popping_after (popping.Pops pop) seen = in_pop (pop_next of_words site pop seen)
  popping_after (popping.Looks look) seen = in_empty_look (empty_look_next site look seen)

  -- whether the call of the popping party continues after an access that found `seen`, and else its
  -- reply
  abbrev pub popping_progress : CellPopping width → ℕ → Progress (CellReply A)
  popping_progress popping.AtRest seen = Going
  popping_progress (popping.Pops pop) seen = progress Popped (pop_next of_words site pop seen)
  popping_progress (popping.Looks look) seen = progress Empty (empty_look_next site look seen)

  -- what an access of the popping party, which found `seen`, does to the queue or sees there
  abbrev pub popping_event : CellPopping width → ℕ → CellEvent A
  popping_event popping.AtRest seen = Quiet
  popping_event (popping.Pops pop) seen = pop_event of_words site pop seen
  popping_event (popping.Looks look) seen = empty_look_event site look seen
