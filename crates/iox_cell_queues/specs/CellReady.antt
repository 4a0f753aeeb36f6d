-- The word of a cell that a party stores or loads next is in memory.
use Rattle.std.specs.Prelude.{ℕ, ◌+◌, ◌^◌, ◌<◌}
use Rattle.iox_steps.specs.declared.access.Next.{Next}
use Rattle.iox_steps.specs.declared.access.Next.TheVariants.{Goes, Ends}
use Rattle.iox_cell_queues.specs.declared.site.CellSite.{CellSite}
use Rattle.iox_cell_queues.specs.declared.push.CellPush.{CellPush}
use Rattle.iox_cell_queues.specs.declared.push.CellPush.TheVariants as push
use Rattle.iox_cell_queues.specs.declared.pop.CellPop.{CellPop}
use Rattle.iox_cell_queues.specs.declared.pop.CellPop.TheVariants as pop
use Rattle.iox_cell_queues.specs.declared.side.CellPushing.{CellPushing}
use Rattle.iox_cell_queues.specs.declared.side.CellPushing.TheVariants.{Pushes}
use Rattle.iox_cell_queues.specs.declared.side.CellPopping.{CellPopping}
use Rattle.iox_cell_queues.specs.declared.side.CellPopping.TheVariants.{Pops}

-- the word of this index in the cell is in memory
abbrev pub IsWordInMemory : CellSite → ℕ → ℕ → Type 0
IsWordInMemory site cell word = (word < site.width) × (cell + site.width < 2 ^ 64)

-- the word that a push stores next is in memory
abbrev pub IsPushReady : {A : Type 0} → CellSite → CellPush A → Type 0
IsPushReady site (push.StoresWord value cell next stored) = IsWordInMemory site cell stored
IsPushReady site push = Unit {0}

-- the word that a pop loads next is in memory
abbrev pub IsPopReady : {width : ℕ} → CellSite → CellPop width → Type 0
IsPopReady site (pop.LoadsWord read cell got loaded) = IsWordInMemory site cell loaded
IsPopReady site pop = Unit {0}

-- if the push continues, the word that it stores next is in memory
abbrev pub IsPushReadyOn : {A R : Type 0} → CellSite → Next (CellPush A) R → Type 0
IsPushReadyOn site (Goes push) = IsPushReady site push
IsPushReadyOn site (Ends reply) = Unit {0}

-- if the pop continues, the word that it loads next is in memory
abbrev pub IsPopReadyOn : {R : Type 0} → {width : ℕ} → CellSite → Next (CellPop width) R → Type 0
IsPopReadyOn site (Goes pop) = IsPopReady site pop
IsPopReadyOn site (Ends reply) = Unit {0}

-- the word that the pushing party stores next is in memory
abbrev pub IsPusherReady : {A : Type 0} → CellSite → CellPushing A → Type 0
IsPusherReady site (Pushes push) = IsPushReady site push
IsPusherReady site party = Unit {0}

-- the word that the popping party loads next is in memory
abbrev pub IsPopperReady : {width : ℕ} → CellSite → CellPopping width → Type 0
IsPopperReady site (Pops pop) = IsPopReady site pop
IsPopperReady site party = Unit {0}
