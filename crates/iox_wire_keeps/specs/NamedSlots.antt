-- Which slots the next access of a node names, as it delivers, takes, gives back or gets back: they hold
-- messages of loans.
use Rattle.std.specs.Prelude.{◌≡◌, ◌⊎◌, ◌<◌, ◌^◌, ℕ, None, List, length, true}
use Rattle.iox_model.specs.declared.way.Way.{Way}
use Rattle.iox_model.specs.Joins.{not_living}
use Rattle.iox_model.specs.Maps.{has_number}
use Rattle.iox_steps.specs.Accesses.{seen_by}
use Rattle.iox_steps.specs.Pops.{pop_event}
use Rattle.iox_steps.specs.Pushes.{push_event}
use Rattle.iox_steps.specs.Sites.{last_position}
use Rattle.iox_steps.specs.declared.side.Popping.TheVariants as popping
use Rattle.iox_steps.specs.declared.side.Pushing.TheVariants as pushing
use Rattle.iox_steps.specs.declared.side.QueueEvent.TheVariants.{HandOut, Learn, Publish}
use Rattle.iox_word_map.specs.WordMaps.{MessageQueue, ReturningQueue}
use Rattle.iox_wire_calls.specs.Begins.{is_busy}
use Rattle.iox_wire_calls.specs.FarSlots.{IsInPool}
use Rattle.iox_wire_calls.specs.Laws.{AccessIsMade}
use Rattle.iox_wire_calls.specs.Locals.{program_of}
use Rattle.iox_wire_calls.specs.MomentsOf.{Pools}
use Rattle.iox_wire_calls.specs.Programs.{Pops, Program, Pushes, WireLayout, program_access, site_of}
use Rattle.iox_wire_calls.specs.Runs.{Run}
use Rattle.iox_wire_calls.specs.Stands.{Player, word_of}
use Rattle.iox_wire_calls.specs.Tables.{Setting}
use Rattle.iox_wire_keeps.specs.WireStands.{WireStands}

-- the access of that program, which found this, delivers, takes, gives back or gets back the message
-- of that slot on the way
abbrev pub Names : WireLayout → Program → ℕ → Way → ℕ → Type 0
Names p (Pushes (MessageQueue w) (pushing.Pushes place)) seen y slot =
    let event = push_event (site_of p (MessageQueue w)) place seen in
    (w ≡ y) × ((event ≡ Publish slot) ⊎ (event ≡ Learn slot))
Names p (Pushes (ReturningQueue w) (pushing.Pushes place)) seen y slot =
    (w ≡ y) × (push_event (site_of p (ReturningQueue w)) place seen ≡ Publish slot)
Names p (Pops (MessageQueue w) (popping.Pops place)) seen y slot =
    (w ≡ y) × (pop_event (site_of p (MessageQueue w)) place seen ≡ HandOut slot)
Names p (Pops (ReturningQueue w) (popping.Pops place)) seen y slot =
    (w ≡ y) × (pop_event (site_of p (ReturningQueue w)) place seen ≡ HandOut slot)
Names p program seen y slot = ⊥

-- A slot of a port's pool that holds a message of a loan: a word holds its serial.
pub record HoldsLent (p : Setting) (held : Pools) (port slot : ℕ) : Type 0 where
  pub there : has_number port p.layout.sizes.ports ≡ true
  pub low : IsInPool p port slot
  pub small : (held port slot).serial < 2 ^ 64

-- Such are the slots that the next access of a living node with a call names, wherever the wire stands.
abbrev pub NamedSlotsHoldLent : Type 0
NamedSlotsHoldLent =
    (p : Setting) (words words' : List ℕ) (players : ℕ → Player) (r : Run) (n : ℕ)
    (wire : WireStands p words players r)
    → not_living r.last.state n ≡ None
    → let x = (players n).seat in let access = program_access p.layout (program_of p x.local) in
    is_busy x.local ≡ true → x.accesses < last_position
    → AccessIsMade access (word_of words) (word_of words') → length words' ≡ length words
    → (y : Way) (slot : ℕ)
    → Names p.layout (program_of p x.local) (seen_by access (word_of words)) y slot
    → HoldsLent p wire.stands.held y.sender slot
