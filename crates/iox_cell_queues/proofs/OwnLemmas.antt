-- That a push keeps its value until it has published it.
use Rattle.std.proofs.Common.{◌≡◌, ℕ, ◌+◌, Some, refl, ◌==◌, inl, inr}
use Rattle.std.proofs.lemmas.Bool.{cases_Bool}
use Rattle.std.specs.Prelude.{nat_le}
use Rattle.iox_steps.specs.declared.push.FullLook.TheVariants as full_look
use Rattle.iox_steps.specs.Sites.{last_position}
use Rattle.iox_cell_queues.specs.declared.site.CellSite.{CellSite}
use Rattle.iox_cell_queues.specs.declared.push.CellPush.TheVariants as push
use Rattle.iox_cell_queues.specs.declared.side.CellPushing.TheVariants as pushing
use Rattle.iox_cell_queues.specs.Cells.{is_full, cell_at}
use Rattle.iox_cell_queues.specs.CellPrograms.{store_from}
use Rattle.iox_cell_queues.specs.CellAnswers.{unpublished}
use Rattle.iox_cell_queues.specs.CellOwn.{OwnStays}

-- a push that continues to store has its value
store_keeps : {A : Type 0} → (site : CellSite) (value : A) (cell next word : ℕ)
    → unpublished (pushing.Pushes (store_from site value cell next word)) ≡ Some value
store_keeps site value cell next word = elim (cases_Bool (nat_le site.width word)) [
  | inl last ↦ rw last refl
  | inr more ↦ rw more refl
]

pub own_stays : {A : Type 0} → OwnStays A
own_stays site pushing.AtRest seen = refl
own_stays site (pushing.Pushes (push.LoadsWrite value)) seen = refl
own_stays site (pushing.Pushes (push.LoadsRead value write)) seen = elim (cases_Bool (write == last_position)) [
  | inl end ↦ rw end refl
  | inr before ↦ elim (cases_Bool (is_full site seen write)) [
    | inl full ↦ rw (before, full) refl
    | inr room ↦ rw (before, room) (store_keeps site value (cell_at site write) (write + 1) 0)
  ]
]
own_stays site (pushing.Pushes (push.StoresWord value cell next word)) seen = store_keeps site value cell next (word + 1)
own_stays site (pushing.Pushes (push.StoresWrite value next)) seen = refl
own_stays site (pushing.Looks full_look.LoadsWrite) seen = refl
own_stays site (pushing.Looks (full_look.LoadsRead write)) seen = refl
