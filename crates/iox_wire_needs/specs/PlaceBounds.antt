-- That the place of a node bounds the access that comes next, whatever the words are.
use Rattle.std.specs.Prelude.{◌≡◌, ℕ, ◌+◌, ◌<◌, List, None, true}
use Rattle.iox_model.specs.Joins.{not_living}
use Rattle.iox_model.specs.Maps.{has_number}
use Rattle.iox_steps.specs.declared.push.Push.TheVariants as push
use Rattle.iox_steps.specs.declared.pop.Pop.TheVariants as pop
use Rattle.iox_steps.specs.declared.side.Pushing.{Pushing}
use Rattle.iox_steps.specs.declared.side.Pushing.TheVariants as pushing
use Rattle.iox_steps.specs.declared.side.Popping.{Popping}
use Rattle.iox_steps.specs.declared.side.Popping.TheVariants as popping
use Rattle.iox_steps.specs.declared.site.Site.{Site}
use Rattle.iox_steps.specs.Accesses.{IsPlace, IsWithin}
use Rattle.iox_steps.specs.Sides.{popping_after, pushing_after}
use Rattle.iox_steps.specs.Sites.{cells}
use Rattle.iox_word_map.specs.WordMaps.{IsQueue, IsResponseWay, total_words}
use Rattle.iox_wire_keeps.specs.Fits.{IsSized}
use Rattle.iox_wire_keeps.specs.Locals.{program_of}
use Rattle.iox_wire_keeps.specs.Programs.{ExchangesState, LoadsState, LoadsWord, Pops, Program, Pushes, Rests, StoresState, StoresWord, WireLayout, program_access, site_of}
use Rattle.iox_wire_keeps.specs.Runs.{Run}
use Rattle.iox_wire_keeps.specs.Stands.{Player}
use Rattle.iox_wire_keeps.specs.Tables.{Setting}
use Rattle.iox_wire_keeps.specs.WireStands.{WireStands}

-- ---- queues

-- the cell is one of the queue's
abbrev pub IsCell : Site → ℕ → Type 0
IsCell site cell = IsPlace (site.base + 2) (cells site) cell

-- the cell to which a push goes next, if it goes to one, is one of the queue's
abbrev pub PushesToCell : Site → Pushing → Type 0
PushesToCell site (pushing.Pushes (push.StoresCell value cell next full)) = IsCell site cell
PushesToCell site (pushing.Pushes (push.TakesOld cell)) = IsCell site cell
PushesToCell site place = Unit {0}

-- so is that of a pop
abbrev pub PopsFromCell : Site → Popping → Type 0
PopsFromCell site (popping.Pops (pop.LoadsCell read cell)) = IsCell site cell
PopsFromCell site place = Unit {0}

-- Each access leaves it so, whatever word it finds. A queue with a cell is all that is asked.
abbrev pub CellsStay : Type 0
CellsStay =
    (site : Site) (seen : ℕ) → 0 < cells site
    → ((place : Pushing) → PushesToCell site (pushing_after site place seen))
    × ((place : Popping) → PopsFromCell site (popping_after site place seen))

-- ---- programs

-- the queue, the request state or the word is one of the wire's, and so is the cell
abbrev pub IsBound : WireLayout → Program → Type 0
IsBound p Rests = Unit {0}
IsBound p (Pushes q place) = IsQueue p.sizes q × PushesToCell (site_of p q) place
IsBound p (Pops q place) = IsQueue p.sizes q × PopsFromCell (site_of p q) place
IsBound p (LoadsState way) = IsResponseWay p.sizes way
IsBound p (StoresState way value) = IsResponseWay p.sizes way
IsBound p (ExchangesState way old new) = IsResponseWay p.sizes way
IsBound p (LoadsWord port number) = (has_number port p.sizes.ports ≡ true) × (number < p.sizes.region port)
IsBound p (StoresWord port number value) = (has_number port p.sizes.ports ≡ true) × (number < p.sizes.region port)

-- Then the access that comes next is of a word of the wire.
abbrev pub PlacesBoundAccesses : Type 0
PlacesBoundAccesses =
    (p : WireLayout) (program : Program) → IsSized p → IsBound p program
    → IsWithin 0 (total_words p.sizes) (program_access p program)

-- So it is at the place of each living node, wherever it is in its call.
abbrev pub NodesAreBound : Type 0
NodesAreBound =
    (p : Setting) (words : List ℕ) (players : ℕ → Player) (r : Run) (n : ℕ)
    → WireStands p words players r → not_living r.last.state n ≡ None
    → IsBound p.layout (program_of p (players n).seat.local)
