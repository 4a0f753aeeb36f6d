-- That a push keeps its value until it has published it.
use Rattle.std.specs.Prelude.{◌≡◌, ℕ, Option, None}
use Rattle.iox_steps.specs.Answers.{OnProgress}
use Rattle.iox_cell_queues.specs.declared.site.CellSite.{CellSite}
use Rattle.iox_cell_queues.specs.declared.side.CellPushing.{CellPushing}
use Rattle.iox_cell_queues.specs.declared.event.CellEvent.{CellEvent}
use Rattle.iox_cell_queues.specs.declared.event.CellEvent.TheVariants.{Publish}
use Rattle.iox_cell_queues.specs.CellSides.{pushing_after, pushing_progress, pushing_event}
use Rattle.iox_cell_queues.specs.CellAnswers.{unpublished}

-- the value that is yet to be published after an event
abbrev pub unpublished_after : {A : Type 0} → CellEvent A → Option A → Option A
unpublished_after (Publish value) own = None
unpublished_after event own = own

-- A call that continues after an access keeps its value until that is published, and one that ends
-- has none.
abbrev pub OwnStays : Type 0 → Type 0
OwnStays A = (site : CellSite) (pushes : CellPushing A) (seen : ℕ)
    → OnProgress (pushing_progress site pushes seen)
    (unpublished (pushing_after site pushes seen) ≡ unpublished_after (pushing_event site pushes seen) (unpublished pushes))
    (λ reply. unpublished (pushing_after site pushes seen) ≡ None)
