-- Which moment of the machine the next access of a node is, at each place of its call.
use Rattle.std.specs.Prelude.{ℕ, false, not, ◌&&◌, if◌then◌else◌, ◌==◌, Option, Some, None}
use Rattle.iox_model.specs.declared.way.RequestState.TheVariants.{Named}
use Rattle.iox_model.specs.declared.way.Way.{Way}
use Rattle.iox_model.specs.Maps.{or_else}
use Rattle.iox_model.specs.Messages.{response_way, names, names_with_hint}
use Rattle.iox_model.specs.Moments.{Moment, Open, Close, Hint, Look}
use Rattle.iox_wire_moments.specs.MomentsOf.{Pools, moment_of}
use Rattle.iox_wire_locals.specs.declared.table.Entry.{Entry}
use Rattle.iox_wire_locals.specs.declared.local.Local.{Local}
use Rattle.iox_wire_locals.specs.declared.local.Local.TheVariants.{SendAsks, SendOpens, ReceiveAsks, ReleaseCloses, ReleaseLooks, ReleaseExchanges, Checks, Hints, HintExchanges}
use Rattle.iox_wire_locals.specs.Tables.{Setting, state_in}
use Rattle.iox_wire_locals.specs.NewLoans.{lane_in}
use Rattle.iox_wire_locals.specs.Locals.{state_word, state_told, program_of}

-- a request state was seen
abbrev pub looked : Way → ℕ → Option Moment
looked w seen = Some (Look w (state_told seen))

-- the release of a request looks as long as its state names it, and then it is closed
abbrev pub leaving_moment : Entry → ℕ → Option Moment
leaving_moment e seen =
    if names (state_told seen) e.request then looked (state_in e) seen
    else Some (Close (state_in e) e.request)

-- where the request is named without a hint, one is to be given, and the load is no moment
abbrev pub hinting_moment : Entry → Way → ℕ → Option Moment
hinting_moment e w seen =
    if names (state_told seen) e.request && not (names_with_hint (state_told seen) e.request)
    then None else looked w seen

-- the moment of an access of a request state
abbrev pub state_moment : Local → ℕ → Option Moment
state_moment (SendAsks d) seen = looked (state_in d.loan) seen
state_moment (SendOpens d w left full) seen = Some (Open w d.loan.request)
state_moment (ReceiveAsks v w slot header left waiting) seen =
    looked (response_way w.sender (lane_in v w header) w.receiver) seen
state_moment (ReleaseCloses e w left) seen = Some (Close w e.request)
state_moment (ReleaseLooks e) seen = leaving_moment e seen
state_moment (ReleaseExchanges e old) seen =
    if seen == old then Some (Close (state_in e) e.request) else leaving_moment e seen
state_moment (Checks e hinted w left) seen = looked w seen
state_moment (Hints e w left) seen = hinting_moment e w seen
state_moment (HintExchanges e w left) seen =
    if seen == state_word (Named e.request false) then Some (Hint w e.request) else looked w seen
state_moment local seen = None

-- The moment of the next access, which found this: of a queue, or of a request state.
abbrev pub moment_at : Setting → Pools → Local → ℕ → Option Moment
moment_at p held local seen =
    or_else (moment_of p.layout held (program_of p local) seen) (state_moment local seen)
