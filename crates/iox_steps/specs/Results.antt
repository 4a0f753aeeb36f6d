-- What one access of a program comes to, for callers whose calls run programs one after another.
-- The program continues, or ends in one of a few ways; each result says what becomes of the queue.
use Rattle.std.specs.Prelude.{◌≡◌, ℕ, true, false, ◌+◌, ◌<◌, ◌≤◌, ◌⊎◌, ◌++◌, List, [], ◌∷◌, length, Some, None}
use Rattle.iox_steps.specs.declared.access.Next.TheVariants.{Goes, Ends}
use Rattle.iox_steps.specs.declared.site.QueueKind.{QueueKind}
use Rattle.iox_steps.specs.declared.site.QueueKind.TheVariants.{Index, Overflowing}
use Rattle.iox_steps.specs.declared.site.Site.{Site}
use Rattle.iox_steps.specs.declared.push.Push.{Push}
use Rattle.iox_steps.specs.declared.push.Push.TheVariants as push
use Rattle.iox_steps.specs.declared.push.PushReply.TheVariants.{Pushed, PushedOut, Refused}
use Rattle.iox_steps.specs.declared.push.FullLook.{FullLook}
use Rattle.iox_steps.specs.declared.pop.Pop.{Pop}
use Rattle.iox_steps.specs.declared.pop.EmptyLook.{EmptyLook}
use Rattle.iox_steps.specs.Sites.{last_position}
use Rattle.iox_steps.specs.Pushes.{push_next, push_event, full_look_next, full_look_event}
use Rattle.iox_steps.specs.Pops.{pop_next, pop_event, empty_look_next, empty_look_event}
use Rattle.iox_steps.specs.EventLists.{QueueState, state_after}
use Rattle.iox_steps.specs.Answers.{unpublished_of}

-- the queue that an access of a push leaves, where it found `seen`
abbrev pub push_leaves : Site → Push → ℕ → QueueState → QueueState
push_leaves site place seen state = state_after (push_event site place seen) state

-- the queue that an access of a look at fullness leaves, where it found `seen`
abbrev pub full_look_leaves : Site → FullLook → ℕ → QueueState → QueueState
full_look_leaves site place seen state = state_after (full_look_event site place seen) state

-- the queue that an access of a pop leaves, where it found `seen`
abbrev pub pop_leaves : Site → Pop → ℕ → QueueState → QueueState
pop_leaves site place seen state = state_after (pop_event site place seen) state

-- the queue that an access of a look at emptiness leaves, where it found `seen`
abbrev pub empty_look_leaves : Site → EmptyLook → ℕ → QueueState → QueueState
empty_look_leaves site place seen state = state_after (empty_look_event site place seen) state

-- why a push is refused: an overflowing queue refuses only at its last position
abbrev pub RefusesPush : QueueKind → ℕ → QueueState → Type 0
RefusesPush Index capacity state = (length state.waiting ≡ capacity) ⊎ (state.write ≡ last_position)
RefusesPush Overflowing capacity state = state.write ≡ last_position

module _ (site : Site) (seen : ℕ) (state : QueueState) where
  -- an access of a push that has this value still to publish
  pub data PublishResult (value : ℕ) (place : Push) : Type 0 where
    -- the push continues, and has yet to publish the value
    goes : (further : Push) → push_next site place seen ≡ Goes further
        → unpublished_of further ≡ Some value
        → push_leaves site place seen state ≡ state → PublishResult value place
    -- the value waits, and the push ends: there was room
    publishes : push_next site place seen ≡ Ends Pushed
        → length state.waiting < site.capacity → state.write < last_position
        → push_leaves site place seen state ≡ record state {
          write = state.write + 1;
          waiting = state.waiting ++ value ∷ [];
        }
        → PublishResult value place
    -- the value waits, and the oldest may have to go
    publishes_full : (read : ℕ) → push_next site place seen ≡ Goes (push.Evicts read)
        → site.kind ≡ Overflowing → state.write < last_position
        → push_leaves site place seen state ≡ record state {
          write = state.write + 1;
          waiting = state.waiting ++ value ∷ [];
        }
        → PublishResult value place
    -- nothing changes
    refused : push_next site place seen ≡ Ends (Refused value)
        → RefusesPush site.kind site.capacity state
        → push_leaves site place seen state ≡ state → PublishResult value place

  -- the exchange of a push that found the queue full, and has nothing in hand
  pub data EvictResult (read : ℕ) : Type 0 where
    -- the oldest is in hand, and as many wait as may
    evicts : (cell first : ℕ) (others : List ℕ)
        → push_next site (push.Evicts read) seen ≡ Goes (push.TakesOld cell)
        → state.hand ≡ [] → state.waiting ≡ first ∷ others → length others ≡ site.capacity
        → push_leaves site (push.Evicts read) seen state ≡
        record state { waiting = others; hand = first ∷ [] }
        → EvictResult read
    -- a pop was faster, so that no more wait than may
    too_late : push_next site (push.Evicts read) seen ≡ Ends Pushed
        → state.hand ≡ [] → length state.waiting ≤ site.capacity
        → push_leaves site (push.Evicts read) seen state ≡ state → EvictResult read

  -- the load that learns what was pushed out: what was in hand is the answer
  pub data LearnResult (cell : ℕ) : Type 0 where
    learns : push_next site (push.TakesOld cell) seen ≡ Ends (PushedOut seen)
        → state.hand ≡ seen ∷ [] → length state.waiting ≤ site.capacity
        → push_leaves site (push.TakesOld cell) seen state ≡ record state { hand = [] }
        → LearnResult cell

  -- a look at fullness
  pub data FullLookResult (place : FullLook) : Type 0 where
    goes : (further : FullLook) → full_look_next site place seen ≡ Goes further
        → full_look_leaves site place seen state ≡ state → FullLookResult place
    finds_full : full_look_next site place seen ≡ Ends true → length state.waiting ≡ site.capacity
        → full_look_leaves site place seen state ≡ state → FullLookResult place
    finds_room : full_look_next site place seen ≡ Ends false → length state.waiting < site.capacity
        → full_look_leaves site place seen state ≡ state → FullLookResult place

  -- an access of a pop
  pub data PopResult (place : Pop) : Type 0 where
    goes : (further : Pop) → pop_next site place seen ≡ Goes further
        → pop_leaves site place seen state ≡ state → PopResult place
    -- it takes the oldest value
    takes : (value : ℕ) (others : List ℕ) → pop_next site place seen ≡ Ends (Some value)
        → state.waiting ≡ value ∷ others
        → pop_leaves site place seen state ≡ record state { waiting = others }
        → PopResult place
    -- nothing waits
    finds_none : pop_next site place seen ≡ Ends None → state.waiting ≡ []
        → pop_leaves site place seen state ≡ state → PopResult place

  -- a look at emptiness
  pub data EmptyLookResult (place : EmptyLook) : Type 0 where
    goes : (further : EmptyLook) → empty_look_next site place seen ≡ Goes further
        → empty_look_leaves site place seen state ≡ state → EmptyLookResult place
    finds_none : empty_look_next site place seen ≡ Ends true → state.waiting ≡ []
        → empty_look_leaves site place seen state ≡ state → EmptyLookResult place
    finds_some : empty_look_next site place seen ≡ Ends false → 0 < length state.waiting
        → empty_look_leaves site place seen state ≡ state → EmptyLookResult place
