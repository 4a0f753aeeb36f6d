-- What is seen of a weave, and which beats a schedule may lead to.
use Rattle.std.specs.Prelude.{◌≡◌, ℕ, ◌+◌, List, [], ◌∷◌, ◌++◌, map, Option, Some, None}
use Rattle.iox_model.specs.declared.event.Event.{Event}
use Rattle.iox_model.specs.Weaves.{begin_refusal, IsWeave, World, Beat, Begins, Makes, Ends, Dies}
use Rattle.iox_model.specs.Loans.{Choice}
use Rattle.iox_model.specs.Maps.{put_at}
use Rattle.iox_model.specs.Joins.{not_living}
use Rattle.iox_model.specs.Moments.{event_of, Moment}
use Rattle.iox_model.specs.Commands.{Refusal, Reply, WireCall}
use Rattle.iox_model.specs.WireCalls.{WordsCall, said_on_wire, in_wire_words}

-- the moments, each with its node
abbrev pub moments_of : List Beat → List (ℕ × Moment)
moments_of [] = []
moments_of (Begins node call c ∷ bs) = moments_of bs
moments_of (Makes node m ∷ bs) = (node, m) ∷ moments_of bs
moments_of (Ends node reply payload ∷ bs) = moments_of bs
moments_of (Dies node ∷ bs) = moments_of bs

-- the moments as the code of a wire can name them, each with its node
abbrev pub events_of : List Beat → List (ℕ × Event)
events_of bs = map (λ e. (e.0, event_of e.1)) (moments_of bs)

-- a finished call, in words
pub record Finished : Type 0 where
  pub node : ℕ
  pub call : WordsCall
  pub reply : Reply
  -- how many moments came before its begin
  pub begun : ℕ
  -- how many moments came before its end
  pub ended : ℕ

-- a call under way: its words, and after how many moments it began
pub record UnderWay : Type 0 where
  pub call : WordsCall
  pub begun : ℕ

-- the finished calls with one more in front, if the node had one under way
abbrev pub finish : Option UnderWay → ℕ → Reply → ℕ → List Finished → List Finished
finish None node reply events rest = rest
finish (Some u) node reply events rest =
    record { node = node; call = u.call; reply = reply; begun = u.begun; ended = events } ∷ rest

-- the calls that end in these beats, after so many moments, with those under way
abbrev pub finished_from : ℕ → (ℕ → Option UnderWay) → List Beat → List Finished
finished_from events under [] = []
finished_from events under (Begins node call c ∷ bs) =
    finished_from events
    (put_at under node (Some (record { call = in_wire_words call; begun = events }))) bs
finished_from events under (Makes node m ∷ bs) = finished_from (events + 1) under bs
finished_from events under (Ends node reply payload ∷ bs) =
    finish (under node) node reply events (finished_from events (put_at under node None) bs)
finished_from events under (Dies node ∷ bs) = finished_from events under bs

-- the finished calls in the order of their ends, of a weave that starts with no call under way
abbrev pub replies_of : List Beat → List Finished
replies_of bs = finished_from 0 (λ n. None) bs

-- ---- schedules

-- an entry of a wire's schedule; a call is begun with words, which are read as a payload in the
-- world in which it begins
pub data Entry : Type 0 where
  Begin : (node : ℕ) (call : WordsCall) → Entry
  Transition : (node : ℕ) → Entry
  Die : (node : ℕ) → Entry

-- a step makes one moment of its node or none, and may end its call; how many steps a call takes is
-- not said here
pub data IsStepOf (node : ℕ) : List Beat → Type 0 where
  nothing : IsStepOf node []
  makes : (m : Moment) → IsStepOf node (Makes node m ∷ [])
  ends_alone : (r : Reply) (p : List ℕ) → IsStepOf node (Ends node r p ∷ [])
  makes_and_ends : (m : Moment) (r : Reply) (p : List ℕ)
      → IsStepOf node (Makes node m ∷ Ends node r p ∷ [])

-- the beats of an entry that begins a call: one, or none where it is refused
abbrev pub IsBeginOf : Option Refusal → ℕ → WireCall → List Beat → Type 0
IsBeginOf (Some r) node call bs = bs ≡ []
IsBeginOf None node call bs = (c : Choice) × (bs ≡ Begins node call c ∷ [])

-- the beats of an entry that declares a death: one, or none where it is refused
abbrev pub IsDeathOf : Option Refusal → ℕ → List Beat → Type 0
IsDeathOf (Some r) node bs = bs ≡ []
IsDeathOf None node bs = bs ≡ Dies node ∷ []

-- the entry, at this world, may lead to these beats
abbrev pub IsEntry : World → Entry → List Beat → Type 0
IsEntry w (Begin node call) bs =
    let meant : WireCall = said_on_wire w.state.fixed node call in
    IsBeginOf (begin_refusal w node meant) node meant bs
IsEntry w (Transition node) bs = IsStepOf node bs
IsEntry w (Die node) bs = IsDeathOf (not_living w.state node) node bs

-- the schedule, from one world, may make these beats, which lead to the other world
abbrev pub IsWeaveOf : World → List Entry → List Beat → World → Type 0
IsWeaveOf w [] bs w' = (bs ≡ []) × (w' ≡ w)
IsWeaveOf w (e ∷ es) bs w' =
    (now later : List Beat) × (mid : World) × (bs ≡ now ++ later)
    × IsEntry w e now × IsWeave w now mid × IsWeaveOf mid es later w'
