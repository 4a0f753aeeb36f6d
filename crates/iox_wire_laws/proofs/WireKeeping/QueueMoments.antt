-- Each moment of a queue may come where the node's place runs that queue.
use Rattle.std.specs.Prelude.{not}
use Rattle.std.proofs.Common.{◌≡◌, ℕ, Bool, true, false, if◌then◌else◌, ◌==◌, List, ◌∷◌, Option, Some, None, ap, sym, subst, ◌∙◌, eq-eqb}
use Rattle.iox_model.specs.declared.way.Way.{Way}
use Rattle.iox_model.specs.Doings.{Receiver, Sending, Doing, Loaning, Emptying, Looking, Delivering, Evicted, Visiting, Again, Stale, Returning, Seeking}
use Rattle.iox_model.specs.Handles.{way_of}
use Rattle.iox_model.specs.Maps.{same_way}
use Rattle.iox_model.specs.Moments.{Moment}
use Rattle.iox_model.specs.Receives.{is_at_limit}
use Rattle.iox_model.specs.Requests.{is_over}
use Rattle.iox_model.specs.States.{Handle, State}
use Rattle.iox_steps.specs.declared.push.Push.{Push}
use Rattle.iox_steps.specs.declared.push.Push.TheVariants as push
use Rattle.iox_steps.specs.declared.site.Site.{Site}
use Rattle.iox_steps.specs.declared.side.QueueEvent.{QueueEvent}
use Rattle.iox_steps.specs.declared.side.QueueEvent.TheVariants.{Quiet, Publish, HandOut, Evict, Learn, SeesEmpty, SeesWaiting, SeesFull, SeesRoom, SeesEnd}
use Rattle.iox_steps.specs.Answers.{unpublished_of}
use Rattle.iox_steps.specs.Pushes.{push_event, room_event}
use Rattle.iox_steps.specs.Sites.{is_full, last_position}
use Rattle.iox_laws.proofs.WeaveLaws.MapLemmas.{same_way-refl, is_in-first, eqb-refl}
use Rattle.iox_laws.proofs.WeaveLaws.WholeLemmas.{some-is}
use Rattle.iox_laws.proofs.WeaveLedger.Truths.{both_true, none-some}
use Rattle.iox_wire_words.specs.Fits.{WireContents}
use Rattle.iox_wire_moments.specs.MomentsOf.{Pools, push_moment, full_look_moment, pop_moment, empty_look_moment, give_back_moment, get_back_moment}
use Rattle.iox_wire_locals.specs.Tables.{Setting}
use Rattle.iox_wire_laws.specs.WireKeeping.Shows.{StatesFit}
use Rattle.iox_wire_laws.proofs.WireKeeping.Assembling.{May}

module _ (p : Setting) (c : WireContents) (s : State) (node : ℕ) (held : Pools) (w : Way) (states : StatesFit p c s) where
  abbrev M : Doing → Option Moment → Type 0
  M d m = May p c s node d m

  -- ---- loans and sends

  pub lending : (copies : Bool) (h : Handle) (left : List Way) (event : QueueEvent)
      → M (Loaning copies h (w ∷ left)) (get_back_moment held w event)
  lending copies h left (HandOut slot) = (is_in-first w left, states)
  lending copies h left SeesEmpty = (is_in-first w left, states)
  lending copies h left event = (tt, states)

  pub emptying : (x : Sending) (left : List Way) (event : QueueEvent) → M (Emptying x (w ∷ left)) (get_back_moment held w event)
  emptying x left (HandOut slot) = (is_in-first w left, states)
  emptying x left SeesEmpty = (is_in-first w left, states)
  emptying x left event = (tt, states)

  pub looking : (x : Sending) (left full : List Way) (event : QueueEvent) → M (Looking x (w ∷ left) full) (full_look_moment w event)
  looking x left full SeesFull = (is_in-first w left, states)
  looking x left full SeesRoom = (is_in-first w left, states)
  looking x left full event = (tt, states)

  module _ (x : Sending) (last : Option Way) (left : List Way) (count : ℕ) (own : ℕ)
      (is : held w.sender own ≡ x.loan.message) (over : is_over s last ≡ false) where
    full_or_not : (b : Bool) → M (Delivering x last (w ∷ left) count) (push_moment held w (if b then SeesFull else SeesRoom))
    full_or_not true = (tt, states)
    full_or_not false = (tt, states)

    at_end : (b : Bool) (site : Site) (read write : ℕ)
        → M (Delivering x last (w ∷ left) count) (push_moment held w (if b then SeesEnd else room_event site read write))
    at_end true site read write = (tt, states)
    at_end false site read write = full_or_not (is_full site read write)

    pub delivering : (site : Site) (place : Push) (seen : ℕ) → unpublished_of place ≡ Some own
        → M (Delivering x last (w ∷ left) count) (push_moment held w (push_event site place seen))
    delivering site (push.LoadsWrite value) seen mine = (tt, states)
    delivering site (push.LoadsRead value write) seen mine = at_end (write == last_position) site seen write
    delivering site (push.StoresCell value cell next full) seen mine = (tt, states)
    delivering site (push.StoresWrite value next full) seen mine = (
      (is_in-first w left, ap (held w.sender) (some-is value own mine) ∙ is, ap not over),
      states,
    )
    delivering site (push.Evicts read) seen mine = absurd (none-some own mine)
    delivering site (push.TakesOld cell) seen mine = absurd (none-some own mine)

  pub evicting : (x : Sending) (left : List Way) (count : ℕ) (b : Bool)
      → M (Delivering x (Some w) left count) (push_moment held w (if b then Evict else Quiet))
  evicting x left count true = (same_way-refl w, states)
  evicting x left count false = (tt, states)

  pub learning : (x : Sending) (left : List Way) (count seen : ℕ) → M (Evicted x w left count) (push_moment held w (Learn seen))
  learning x left count seen = (same_way-refl w, states)

  -- ---- receives

  pub waits : (x : Receiver) (left : List Way) (waiting : Bool) → is_at_limit s.fixed w ≡ true → (event : QueueEvent)
      → M (Visiting x (w ∷ left) waiting) (empty_look_moment w event)
  waits x left waiting full SeesEmpty = (is_in-first w left, states)
  waits x left waiting full SeesWaiting = ((is_in-first w left, full), states)
  waits x left waiting full event = (tt, states)

  pub taking : (x : Receiver) (left : List Way) (waiting : Bool) → is_at_limit s.fixed w ≡ false → (event : QueueEvent)
      → M (Visiting x (w ∷ left) waiting) (pop_moment held w event)
  taking x left waiting room (HandOut slot) = ((is_in-first w left, ap not room), states)
  taking x left waiting room SeesEmpty = (is_in-first w left, states)
  taking x left waiting room event = (tt, states)

  pub again : (x : Receiver) (left : List Way) (waiting : Bool) (event : QueueEvent)
      → M (Again x w left waiting) (pop_moment held w event)
  again x left waiting (HandOut slot) = (same_way-refl w, states)
  again x left waiting SeesEmpty = (same_way-refl w, states)
  again x left waiting event = (tt, states)

  pub seeking : (left : List Way) (event : QueueEvent) → M (Seeking (w ∷ left)) (empty_look_moment w event)
  seeking left SeesEmpty = (is_in-first w left, states)
  seeking left SeesWaiting = (is_in-first w left, states)
  seeking left event = (tt, states)

  -- ---- what is given back

  -- a push onto the returning queue publishes its own value
  module _ (d : Doing) (own : ℕ) (gives : M d (give_back_moment held w (Publish own))) where
    none_given : M d None
    none_given = (tt, states)

    room_or_not : (b : Bool) → M d (give_back_moment held w (if b then SeesFull else SeesRoom))
    room_or_not true = none_given
    room_or_not false = none_given

    end_or_not : (b : Bool) (site : Site) (read write : ℕ)
        → M d (give_back_moment held w (if b then SeesEnd else room_event site read write))
    end_or_not true site read write = none_given
    end_or_not false site read write = room_or_not (is_full site read write)

    pub giving : (site : Site) (place : Push) (seen : ℕ) → unpublished_of place ≡ Some own
        → M d (give_back_moment held w (push_event site place seen))
    giving site (push.LoadsWrite value) seen mine = none_given
    giving site (push.LoadsRead value write) seen mine = end_or_not (write == last_position) site seen write
    giving site (push.StoresCell value cell next full) seen mine = none_given
    giving site (push.StoresWrite value next full) seen mine = subst (λ k. M d (give_back_moment held w (Publish k))) (sym (some-is value own mine)) gives
    giving site (push.Evicts read) seen mine = absurd (none-some own mine)
    giving site (push.TakesOld cell) seen mine = absurd (none-some own mine)

  pub stale : (x : Receiver) (left : List Way) (waiting : Bool) (slot : ℕ)
      → M (Stale x w (held w.sender slot) left waiting) (give_back_moment held w (Publish slot))
  stale x left waiting slot = (both_true _ _ (same_way-refl w) (eqb-refl _), states)

  pub returning : (h : Handle) (slot : ℕ) → w ≡ way_of h → (held w.sender slot).serial ≡ h.message.serial
      → M (Returning h) (give_back_moment held w (Publish slot))
  returning h slot way serial =
      (both_true _ _ (ap (same_way w) (sym way) ∙ same_way-refl w) (eq-eqb _ _ serial), states)
