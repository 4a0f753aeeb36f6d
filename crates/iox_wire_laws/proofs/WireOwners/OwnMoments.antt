-- No access but a send's opens a request state.
use Rattle.std.proofs.Common.{ℕ, false, ◌==◌, Option, Some}
use Rattle.iox_model.specs.declared.way.RequestState.TheVariants.{Named}
use Rattle.iox_model.specs.Moments.{Moment, Open, Hint, Look}
use Rattle.iox_wire_moments.specs.MomentsOf.{Pools}
use Rattle.iox_wire_locals.specs.declared.local.Local.{Local}
use Rattle.iox_wire_locals.specs.declared.local.Local.TheVariants.{SendOpens, HintExchanges}
use Rattle.iox_wire_locals.specs.Locals.{state_told, state_word}
use Rattle.iox_wire_locals.specs.StateMoments.{moment_at}
use Rattle.iox_wire_locals.specs.Tables.{Setting}
use Rattle.iox_laws.proofs.WeaveLaws.MapLemmas.{either}
use Rattle.iox_wire_laws.proofs.WireShows.QuietMoments.{BringsNoId, brings_no_id}

-- the moment, if there is one, opens nothing
abbrev pub OpensNone : Option Moment → Type 0
OpensNone (Some (Open z id)) = ⊥
OpensNone o = Unit {0}

-- the place opens nothing
abbrev pub IsNoOpen : Local → Type 0
IsNoOpen (SendOpens d w left full) = ⊥
IsNoOpen local = Unit {0}

none_opened : (o : Option Moment) → BringsNoId o → OpensNone o
none_opened (Some (Open w id)) none = absurd none
none_opened o none = tt

module _ (p : Setting) (held : Pools) where
  pub opens_none : (local : Local) (seen : ℕ) → IsNoOpen local → OpensNone (moment_at p held local seen)
  opens_none (SendOpens d w left full) seen free = absurd free
  opens_none (HintExchanges e w left) seen free =
      either OpensNone (seen == state_word (Named e.request false)) (Some (Hint w e.request)) (Some (Look w (state_told seen))) (λ k. tt) (λ k. tt)
  opens_none local seen free = none_opened (moment_at p held local seen) (brings_no_id p held local seen tt)
