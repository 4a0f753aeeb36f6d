-- Which moments may come next in a call, and what is left to do then. A whole call makes them one
-- after another; on a wire moments of other calls come in between.
use Rattle.std.specs.Prelude.{◌≡◌, ℕ, ◌+◌, true, not, ◌&&◌, ◌==◌, List, ◌∷◌, Option, Some, None, IsTrue}
use Rattle.iox_model.specs.declared.way.Way.{Way}
use Rattle.iox_model.specs.declared.reply.Reply.TheVariants.{Answer}
use Rattle.iox_model.specs.Receives.{visiting, took, judged, state_of_request, is_at_limit, seeking}
use Rattle.iox_model.specs.Releases.{closing, given_back}
use Rattle.iox_model.specs.Doings.{Outcome, Tells, Drops, Doing, Ended, Loaning, Asking, Emptying, Looking, Opening, Delivering, Evicted, Visiting, Again, Judging, Stale, Closing, Returning, Leaving, Checking, Hinting, Seeking}
use Rattle.iox_model.specs.States.{State}
use Rattle.iox_model.specs.Requests.{opening, looking, emptying, may_evict, is_last, is_over, sent_all}
use Rattle.iox_model.specs.Handles.{way_of, own_state}
use Rattle.iox_model.specs.Maps.{same_way, has_way, without_way}
use Rattle.iox_model.specs.Moments.{Moment, Deliver, Evict, Take, GiveBack, GetBack, SeesEmpty, SeesWaiting, SeesFull, SeesRoom, SeesNoneBack, Open, Close, Hint, Look}
use Rattle.iox_model.specs.Looks.{checked, hinting, is_hinted_or_gone}
use Rattle.iox_model.specs.Messages.{names}
use Rattle.iox_model.specs.Responses.{asked, loaning, copies}

-- a condition, and what is left to do once the moment was made
pub record Transition : Type 1 where
  -- when the moment may come
  pub condition : Type 0
  pub after : Doing

-- a transition: a condition, and what there is to do after it
abbrev pub when : Type 0 → Doing → Transition
when condition after = record { condition = condition; after = after }

-- the way is one of those left to visit
abbrev pub IsIn : Way → List Way → Type 0
IsIn w left = IsTrue (has_way w left)

-- Whether that moment may come next in the node's call, and what is left to do then.
abbrev pub next : State → ℕ → Doing → Moment → Transition
-- a way is emptied by getting back all that was given back there
next s node (Loaning copies h left) (GetBack w k) = when (IsIn w left) (Loaning copies h left)
next s node (Loaning copies h left) (SeesNoneBack w) =
    when (IsIn w left) (loaning s copies h (without_way w left))
next s node (Asking x) (Look w shown) =
    when (IsTrue (same_way w (own_state x.loan))) (asked x shown)
next s node (Emptying x left) (GetBack w k) = when (IsIn w left) (Emptying x left)
next s node (Emptying x left) (SeesNoneBack w) =
    when (IsIn w left) (emptying x (without_way w left))
next s node (Looking x left full) (SeesFull w) =
    when (IsIn w left) (looking x (without_way w left) (w ∷ full))
next s node (Looking x left full) (SeesRoom w) =
    when (IsIn w left) (looking x (without_way w left) full)
next s node (Opening x left full) (Open w id) =
    when (IsIn w left × IsTrue (id == x.loan.request)) (opening x (without_way w left) full)
-- it continues only if no more wait on the way of its last delivery than the buffer holds
next s node (Delivering x last left count) (Deliver w m) =
    when (IsIn w left × (m ≡ x.loan.message) × IsTrue (not (is_over s last)))
    (Delivering x (may_evict x w) (without_way w left) (count + 1))
next s node (Delivering x last left count) (Evict w) =
    when (IsTrue (is_last w last)) (Evicted x w left count)
next s node (Evicted x v left count) (GetBack w k) =
    when (IsTrue (same_way w v)) (Delivering x None left count)
-- a receive leaves a way once nothing waits there, or at the borrow limit
next s node (Visiting x left seen) (SeesEmpty w) =
    when (IsIn w left) (visiting x (without_way w left) seen)
next s node (Visiting x left seen) (SeesWaiting w) =
    when (IsIn w left × IsTrue (is_at_limit s.fixed w)) (visiting x (without_way w left) true)
next s node (Visiting x left seen) (Take w m) =
    when (IsIn w left × IsTrue (not (is_at_limit s.fixed w))) (took s.fixed node x w m left seen)
next s node (Again x v left seen) (SeesEmpty w) =
    when (IsTrue (same_way w v)) (visiting x (without_way v left) seen)
next s node (Again x v left seen) (Take w m) =
    when (IsTrue (same_way w v)) (took s.fixed node x v m left seen)
next s node (Judging x v m left seen) (Look w shown) =
    when (IsTrue (same_way w (state_of_request v m))) (judged x v m left seen shown)
next s node (Stale x v m left seen) (GiveBack w k) =
    when (IsTrue (same_way w v && (k == m.serial))) (Again x v left seen)
next s node (Closing h left) (Close w id) =
    when (IsIn w left × IsTrue (id == h.request)) (closing h (without_way w left))
next s node (Returning h) (GiveBack w k) =
    when (IsTrue (same_way w (way_of h) && (k == h.message.serial))) (given_back h)
-- looks that name the request, then one close
next s node (Leaving h) (Look w shown) =
    when (IsTrue (same_way w (own_state h) && names shown h.request)) (Leaving h)
next s node (Leaving h) (Close w id) =
    when (IsTrue (same_way w (own_state h) && (id == h.request))) (Ended (Drops h))
next s node (Checking h hinted left) (Look w shown) =
    when (IsIn w left) (checked h hinted left w shown)
next s node (Hinting h left) (Hint w id) =
    when (IsIn w left × IsTrue (id == h.request)) (hinting h (without_way w left))
next s node (Hinting h left) (Look w shown) =
    when (IsIn w left × IsTrue (is_hinted_or_gone h shown)) (hinting h (without_way w left))
next s node (Seeking left) (SeesEmpty w) = when (IsIn w left) (seeking (without_way w left))
next s node (Seeking left) (SeesWaiting w) = when (IsIn w left) (Ended (Tells (Answer true)))
-- no other moment may come
next s node d m = when ⊥ d

-- Whether the call may end, and with what.
abbrev pub ends : State → Doing → Option Outcome
ends s (Ended o) = Some o
ends s (Delivering x last left count) = sent_all s x last left count
ends s d = None
