-- What a loan, a send and a receive find in their queues: slots of pools, on ways of their own.
use Rattle.std.specs.Prelude.{◌≡◌, ℕ, None}
use Rattle.iox_model.specs.Joins.{not_living}
use Rattle.iox_model.specs.Weaves.{World}
use Rattle.iox_steps.specs.Accesses.{seen_by}
use Rattle.iox_wire_words.specs.Fits.{WireContents}
use Rattle.iox_wire_words.specs.Laws.{AccessIsMade}
use Rattle.iox_wire_words.specs.Programs.{program_access}
use Rattle.iox_wire_moments.specs.MomentsOf.{Pools}
use Rattle.iox_wire_locals.specs.declared.seat.Seat.{Seat}
use Rattle.iox_wire_locals.specs.Locals.{program_of}
use Rattle.iox_wire_locals.specs.Tables.{Setting}
use Rattle.iox_wire_laws.specs.WireKeeping.Shows.{ShowsWorld}
use Rattle.iox_wire_laws.specs.WireShows.OwnedCalls.{TellsLane}
use Rattle.iox_wire_laws.specs.WireRegions.OwnedBegins.{LayoutFits}
use Rattle.iox_wire_laws.specs.WireRegions.OwnedWords.{Owns}
use Rattle.iox_wire_laws.specs.WireHolding.FarSlots.{QueuesHaveSlots}
use Rattle.iox_wire_laws.specs.WireHolding.SlotsKnown.{NamesStand, SlotsKnown}
use Rattle.iox_wire_pools.specs.FoundUses.{SendsThere}
use Rattle.iox_wire_stands.specs.NamesLaws.{TakesInPool}
use Rattle.iox_wire_stands.specs.Stands.{AreNumbered, OwnersAre}

-- In a shown world a living node takes a slot of its sender's pool, and gets back and delivers on
-- its own ways slots of its own pools.
abbrev pub SlotsAreFoundInPools : Type 0
SlotsAreFoundInPools =
    (p : Setting) (held : Pools) (word word' : ℕ → ℕ) (c : WireContents) (seats : ℕ → Seat)
    (w : World) (n : ℕ)
    → ShowsWorld p held word c seats w → not_living w.state n ≡ None
    → LayoutFits p w.state.fixed → OwnersAre p w.state.fixed → AreNumbered p
    → QueuesHaveSlots p c w.state
    → let x = seats n in let access = program_access p.layout (program_of p x.local) in
    NamesStand p w.state.fixed x → SlotsKnown p held w.state x
    → Owns p x.node w.state.fixed w.state.request_state x.local → TellsLane held x.local
    → AccessIsMade access word word'
    → TakesInPool p x.local (seen_by access word)
    × SendsThere p held w.state x x.local (seen_by access word)
