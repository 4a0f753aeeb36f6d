-- Where the node's part in a queue goes, by what it finds.
use Rattle.std.proofs.Common.{ℕ, Bool, true, false, if◌then◌else◌, ◌==◌, Option, Some, None}
use Rattle.iox_steps.specs.declared.access.Next.TheVariants.{Ends, Goes}
use Rattle.iox_steps.specs.declared.pop.EmptyLook.{EmptyLook}
use Rattle.iox_steps.specs.declared.pop.EmptyLook.TheVariants as empty_look
use Rattle.iox_steps.specs.declared.pop.Pop.{Pop}
use Rattle.iox_steps.specs.declared.pop.Pop.TheVariants as pop
use Rattle.iox_steps.specs.declared.push.FullLook.{FullLook}
use Rattle.iox_steps.specs.declared.push.FullLook.TheVariants as full_look
use Rattle.iox_steps.specs.declared.push.Push.TheVariants as push
use Rattle.iox_steps.specs.declared.push.PushReply.{PushReply}
use Rattle.iox_steps.specs.declared.push.PushReply.TheVariants.{Pushed}
use Rattle.iox_steps.specs.declared.side.Popping.{Popping}
use Rattle.iox_steps.specs.declared.side.Pushing.{Pushing}
use Rattle.iox_steps.specs.declared.side.Pushing.TheVariants as pushing
use Rattle.iox_steps.specs.declared.side.QueueEvent.{QueueEvent}
use Rattle.iox_steps.specs.declared.side.QueueEvent.TheVariants.{Evict, HandOut, Publish, Quiet, SeesEmpty, SeesEnd, SeesFull, SeesRoom, SeesWaiting}
use Rattle.iox_steps.specs.declared.site.Site.{Site}
use Rattle.iox_steps.specs.Pops.{empty_look_event, empty_look_next, is_taken, pop_event, pop_next}
use Rattle.iox_steps.specs.Pushes.{full_look_event, full_look_next, push_event, push_next}
use Rattle.iox_steps.specs.Sides.{in_empty_look, in_full_look, in_pop, in_push, pushing_after, pushing_event}
use Rattle.iox_steps.specs.Sites.{cell_at, is_empty, is_full, last_position}
use Rattle.iox_wire_calls.specs.Places.{IsEmptyLook, IsFullLook, IsPop}

-- a pop continues, hands out, or sees that the queue is empty
pub pops_on : (Q : Popping → QueueEvent → Type 0) → ((next : Popping) (event : QueueEvent) → IsPop next → Q next event)
    → ((next : Popping) (slot : ℕ) → Q next (HandOut slot)) → ((next : Popping) → Q next SeesEmpty) → (site : Site) (place : Pop) (seen : ℕ)
    → Q (in_pop (pop_next site place seen)) (pop_event site place seen)
pops_on Q going hands empty site pop.LoadsRead seen = going _ _ tt
pops_on Q going hands empty site (pop.LoadsWrite read) seen = by_empty (is_empty site read seen)
  where
    by_empty : (b : Bool) → Q (in_pop {R = Option ℕ} (if b then Ends None else Goes (pop.LoadsCell read (cell_at site read)))) (if b then SeesEmpty else SeesWaiting)
    by_empty true = empty _
    by_empty false = going _ _ tt
pops_on Q going hands empty site (pop.LoadsCell read cell) seen = going _ _ tt
pops_on Q going hands empty site (pop.Takes read value) seen = by_taken (is_taken site.kind read seen)
  where
    by_taken : (b : Bool) → Q (in_pop {R = Option ℕ} (if b then Ends (Some value) else Goes (pop.LoadsCell seen (cell_at site seen)))) (if b then HandOut value else Quiet)
    by_taken true = hands _ value
    by_taken false = going _ _ tt

-- a look at emptiness continues, or sees how it is
pub empty_looks_on : (Q : Popping → QueueEvent → Type 0) → ((next : Popping) (event : QueueEvent) → IsEmptyLook next → Q next event)
    → ((next : Popping) → Q next SeesEmpty) → ((next : Popping) → Q next SeesWaiting) → (site : Site) (place : EmptyLook) (seen : ℕ)
    → Q (in_empty_look (empty_look_next site place seen)) (empty_look_event site place seen)
empty_looks_on Q going empty waiting site empty_look.LoadsRead seen = going _ _ tt
empty_looks_on Q going empty waiting site (empty_look.LoadsWrite read) seen = by_empty (is_empty site read seen)
  where
    by_empty : (b : Bool) → Q (in_empty_look {R = Bool} (Ends (is_empty site read seen))) (if b then SeesEmpty else SeesWaiting)
    by_empty true = empty _
    by_empty false = waiting _

-- a look at fullness continues, or sees how it is
pub full_looks_on : (Q : Pushing → QueueEvent → Type 0) → ((next : Pushing) (event : QueueEvent) → IsFullLook next → Q next event)
    → ((next : Pushing) → Q next SeesFull) → ((next : Pushing) → Q next SeesRoom) → (site : Site) (place : FullLook) (seen : ℕ)
    → Q (in_full_look (full_look_next site place seen)) (full_look_event site place seen)
full_looks_on Q going full room site full_look.LoadsWrite seen = going _ _ tt
full_looks_on Q going full room site (full_look.LoadsRead write) seen = by_full (is_full site seen write)
  where
    by_full : (b : Bool) → Q (in_full_look {R = Bool} (Ends (is_full site seen write))) (if b then SeesFull else SeesRoom)
    by_full true = full _
    by_full false = room _

-- the part publishes nothing
abbrev pub PublishesNot : QueueEvent → Type 0
PublishesNot (Publish slot) = ⊥
PublishesNot event = Unit {0}

-- a part that pushes publishes nothing yet, or it does, and is done or may have to push out the oldest
pub pushes_on : (Q : Pushing → QueueEvent → Type 0) → ((next : Pushing) (event : QueueEvent) → PublishesNot event → Q next event)
    → ((slot : ℕ) → Q pushing.AtRest (Publish slot)) → ((slot read : ℕ) → Q (pushing.Pushes (push.Evicts read)) (Publish slot))
    → (site : Site) (part : Pushing) (seen : ℕ) → Q (pushing_after site part seen) (pushing_event site part seen)
pushes_on Q going done over site pushing.AtRest seen = going _ _ tt
pushes_on Q going done over site (pushing.Looks full_look.LoadsWrite) seen = going _ _ tt
pushes_on Q going done over site (pushing.Looks (full_look.LoadsRead write)) seen = by_full (is_full site seen write)
  where
    by_full : (b : Bool) → Q (in_full_look {R = Bool} (Ends (is_full site seen write))) (if b then SeesFull else SeesRoom)
    by_full true = going _ _ tt
    by_full false = going _ _ tt
pushes_on Q going done over site (pushing.Pushes (push.LoadsWrite value)) seen = going _ _ tt
pushes_on Q going done over site (pushing.Pushes (push.LoadsRead value write)) seen = by_both (write == last_position) (is_full site seen write)
  where
    by_both : (b c : Bool) → Q (in_push (push_next site (push.LoadsRead value write) seen)) (if b then SeesEnd else (if c then SeesFull else SeesRoom))
    by_both true c = going _ _ tt
    by_both false true = going _ _ tt
    by_both false false = going _ _ tt
pushes_on Q going done over site (pushing.Pushes (push.StoresCell value cell next full)) seen = going _ _ tt
pushes_on Q going done over site (pushing.Pushes (push.StoresWrite value next None)) seen = done value
pushes_on Q going done over site (pushing.Pushes (push.StoresWrite value next (Some read))) seen = over value read
pushes_on Q going done over site (pushing.Pushes (push.Evicts read)) seen = by_read (seen == read)
  where
    by_read : (b : Bool) → Q (in_push (push_next site (push.Evicts read) seen)) (if b then Evict else Quiet)
    by_read true = going _ _ tt
    by_read false = going _ _ tt
pushes_on Q going done over site (pushing.Pushes (push.TakesOld cell)) seen = going _ _ tt

-- a push that pushes out the oldest learns then which that was, or it came too late
pub evicts_on : (Q : Pushing → QueueEvent → Type 0) → ((cell : ℕ) → Q (pushing.Pushes (push.TakesOld cell)) Evict) → ((next : Pushing) → Q next Quiet)
    → (site : Site) (read seen : ℕ) → Q (in_push (push_next site (push.Evicts read) seen)) (push_event site (push.Evicts read) seen)
evicts_on Q learns late site read seen = by_read (seen == read)
  where
    by_read : (b : Bool) → Q (in_push {R = PushReply} (if b then Goes (push.TakesOld (cell_at site read)) else Ends Pushed)) (if b then Evict else Quiet)
    by_read true = learns _
    by_read false = late _
