-- What one access of a party does to a queue. The crates above stand on these laws.
use Rattle.std.specs.Prelude.{◌≡◌, ℕ, ◌+◌, ◌≤◌, List, Option, None, length, slice_index}
use Rattle.iox_steps.specs.declared.access.Access.{Access}
use Rattle.iox_steps.specs.declared.access.Progress.{Progress}
use Rattle.iox_steps.specs.declared.site.Site.{Site}
use Rattle.iox_steps.specs.declared.side.QueueEvent.{QueueEvent}
use Rattle.iox_steps.specs.declared.side.QueueReply.{QueueReply}
use Rattle.iox_steps.specs.declared.side.Pushing.{Pushing}
use Rattle.iox_steps.specs.declared.side.Popping.{Popping}
use Rattle.iox_steps.specs.Accesses.{place_of, change_of, seen_by, word_after, words_after, IsWithin, ChangesWord, AreApart, IsSameOutside, KeepsOutside}
use Rattle.iox_steps.specs.Sites.{size}
use Rattle.iox_steps.specs.Sides.{pushing_access, pushing_after, pushing_progress, pushing_event, popping_access, popping_after, popping_progress, popping_event}
use Rattle.iox_steps.specs.Events.{IsTrueOf, waiting_after, hand_after}
use Rattle.iox_steps.specs.Fits.{write_of, Fits}
use Rattle.iox_steps.specs.EventLists.{write_after}
use Rattle.iox_steps.specs.Answers.{ReplyIsTrue, OnProgress, unpublished, unpublished_after}

-- A turn of a party: one access, and all that it comes to.
pub record Turn : Type 0 where
  pub access : Access
  -- what the access does to the queue, or sees there
  pub event : QueueEvent
  -- the value that the party has yet to publish before the access
  pub own : Option ℕ
  -- the value that it has yet to publish after the access
  pub own_after : Option ℕ
  -- whether the call continues, and else its reply
  pub answer : Progress QueueReply
  -- where both parties are after the access
  pub pushes : Pushing
  pub pops : Popping

-- the turn of the party that pushes, at these words
abbrev pub pushing_turn : Site → (ℕ → ℕ) → Pushing → Popping → Turn
pushing_turn site word pushes pops = let seen = seen_by (pushing_access site pushes) word in record {
  access = pushing_access site pushes;
  event = pushing_event site pushes seen;
  own = unpublished pushes;
  own_after = unpublished (pushing_after site pushes seen);
  answer = pushing_progress site pushes seen;
  pushes = pushing_after site pushes seen;
  pops = pops;
}

-- the turn of the party that pops, at these words
abbrev pub popping_turn : Site → (ℕ → ℕ) → Pushing → Popping → Turn
popping_turn site word pushes pops = let seen = seen_by (popping_access site pops) word in record {
  access = popping_access site pops;
  event = popping_event site pops seen;
  own = None;
  own_after = None;
  answer = popping_progress site pops seen;
  pushes = pushes;
  pops = popping_after site pops seen;
}

-- A turn, from these words to those, keeps the queue in which `waiting` waits and `hand` is in hand.
pub record KeepsQueue (site : Site) (word word' : ℕ → ℕ) (waiting hand : List ℕ) (turn : Turn) : Type 0 where
  -- the access names only words of the queue
  pub within : IsWithin site.base (size site) turn.access
  -- one word at most changed, as the access says
  pub changes : let place = place_of turn.access in
      ChangesWord word place (change_of turn.access (word place)) word'
  -- no word outside the queue changed
  pub outside : IsSameOutside site.base (size site) word word'
  -- its event is true
  pub is_true : IsTrueOf site (write_of site word) waiting hand turn.event
  -- the write position counts what is published
  pub counts : write_of site word' ≡ write_after turn.event (write_of site word)
  -- the words after it fit
  pub fits : Fits site word' (waiting_after turn.event waiting) (hand_after turn.event waiting hand)
      turn.pushes turn.pops
  -- a reply says what the event was
  pub answers : ReplyIsTrue turn.own turn.answer turn.event
  -- a call that continues keeps its value until that is published
  pub own_stays : OnProgress turn.answer (turn.own_after ≡ unpublished_after turn.event turn.own)
      (λ reply. turn.own_after ≡ None)

-- the turn keeps a queue in a list of words, and the words outside it
abbrev pub KeepsInList : Site → List ℕ → List ℕ → List ℕ → Turn → Type 0
KeepsInList site words waiting hand turn = let after = words_after turn.access words in
    IsWithin 0 (length words) turn.access × KeepsOutside site.base (size site) words after
    × KeepsQueue site (λ place. slice_index words place) (λ place. slice_index after place)
    waiting hand turn

-- Each turn keeps its queue, whatever the queue is and wherever in their calls both parties are.
module _ (turn_of : Site → (ℕ → ℕ) → Pushing → Popping → Turn) where
  -- each turn keeps its queue
  abbrev pub EveryTurnKeeps : Type 0
  EveryTurnKeeps = (site : Site) (word : ℕ → ℕ) (waiting hand : List ℕ)
      (pushes : Pushing) (pops : Popping)
      → Fits site word waiting hand pushes pops
      → let turn = turn_of site word pushes pops in
      KeepsQueue site word (word_after turn.access word) waiting hand turn

  -- each turn keeps its queue, and leaves every queue elsewhere in the same words unchanged
  abbrev pub EveryTurnLeavesOthers : Type 0
  EveryTurnLeavesOthers = (site : Site) (words waiting hand : List ℕ)
      (pushes : Pushing) (pops : Popping)
      → Fits site (λ place. slice_index words place) waiting hand pushes pops
      → site.base + size site ≤ length words
      → (other : Site) (waiting' hand' : List ℕ) (pushes' : Pushing) (pops' : Popping)
      → Fits other (λ place. slice_index words place) waiting' hand' pushes' pops'
      → AreApart site.base (size site) other.base (size other)
      → let turn = turn_of site (λ place. slice_index words place) pushes pops in
      KeepsInList site words waiting hand turn
      × Fits other (λ place. slice_index (words_after turn.access words) place)
      waiting' hand' pushes' pops'
