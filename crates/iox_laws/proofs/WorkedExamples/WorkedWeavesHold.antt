-- The worked weaves hold: each is played.
use Rattle.std.specs.Prelude.{◌≡◌, true, List, [], ◌∷◌, ◌++◌, refl}
use Rattle.iox_model.specs.declared.call.Call.TheVariants.{Loan, SendCopy, Receive, Release, IsConnected}
use Rattle.iox_model.specs.declared.call.WireCall.TheVariants.{Forget}
use Rattle.iox_model.specs.declared.call.WireCall.TheVariants as wire_calls
use Rattle.iox_model.specs.Runs.{IsRun}
use Rattle.iox_model.specs.AllocationStrategy.TheVariants.{PowerOfTwo}
use Rattle.iox_laws.specs.WorkedExamples.EvictionWeaves.{ones, deliver_beats, evict_beats, get_back_beats, next_loan_beats, KeepsTwo}
use Rattle.iox_model.specs.Weaves.{at_work, World, Beat}
use Rattle.iox_model.specs.Commands.{WireCall}
use Rattle.iox_model.specs.Schedules.{Entry, Begin, Transition, Die, IsEntry, IsWeaveOf, nothing, makes, ends_alone, makes_and_ends}
use Rattle.iox_laws.specs.WeaveLaws.Laws.{on_lane}
use Rattle.iox_model.specs.Settings.{Limits}
use Rattle.iox_model.specs.States.{State}
use Rattle.iox_model.specs.WireCalls.{opened, WordsCall}
use Rattle.iox_model.specs.Defaults.{defaults}
use Rattle.iox_laws.specs.WorkedExamples.Examples.{service, request_saying, set_up, is_set_up}
use Rattle.iox_laws.specs.WorkedExamples.WorkedWeaves.{stop_beats, stop_entries, loan_beats, StopsAndIsForgotten, RefusesGrowingPorts}
use Rattle.iox_laws.proofs.WeaveLaws.PlayedWeaves.{world_by, beats_by, is_weave, all_may, Plan, begin, step, stop, die}
use Rattle.iox_laws.proofs.WeaveLaws.PlayedRuns.{replies_by, are_answered, state_by, is_run_to}

abbrev sure : true ≡ true
sure = refl

abbrev set_up_with : Limits → State
set_up_with l = state_by (service l) (set_up []) []

is_set_up_with : (l : Limits) → are_answered (service l) (set_up []) [] ≡ true → replies_by (service l) (set_up []) [] ≡ is_set_up []
    → IsRun (service l) (set_up []) (is_set_up []) (set_up_with l)
is_set_up_with l e same = is_run_to (service l) (set_up []) (is_set_up []) [] e same

abbrev stop_plan : List Plan
stop_plan =
    begin 0 (wire_calls.Port (SendCopy 0 (request_saying 7))) 0
    ∷ step 0
    ∷ step 0
    ∷ step 0
    ∷ step 0
    ∷ stop 0 []
    ∷ begin 1 (wire_calls.Port (Receive 1)) 0
    ∷ step 1
    ∷ begin 0 (wire_calls.Port (IsConnected 2)) 0
    ∷ step 0
    ∷ stop 0 []
    ∷ die 1
    ∷ begin 0 (Forget 1) 0
    ∷ stop 0 []
    ∷ begin 0 (wire_calls.Port (IsConnected 2)) 0
    ∷ stop 0 []
    ∷ []

abbrev loan_plan : List Plan
loan_plan =
    begin 0 (wire_calls.Port (Loan 0 1)) 1
    ∷ stop 0 (0 ∷ [])
    ∷ begin 0 (wire_calls.Port (Loan 0 1)) 2
    ∷ stop 0 (0 ∷ [])
    ∷ begin 0 (wire_calls.Port (Loan 0 1)) 3
    ∷ stop 0 []
    ∷ []

abbrev stop_0 : World
stop_0 = at_work (opened (set_up_with defaults))

abbrev stop_1 : World
stop_1 = world_by stop_0 stop_plan

-- a schedule with the beats that it brings
abbrev Brings : World → List Entry → World → Type 0
Brings w es v = (bs : List Beat) × IsWeaveOf w es bs v

-- an entry brings the beats of a plan, and the other entries bring the others
abbrev turn : (w : World) (e : Entry) (es : List Entry) (plan : List Plan) (v : World) → all_may w plan ≡ true
    → IsEntry w e (beats_by w plan) → Brings (world_by w plan) es v → Brings w (e ∷ es) v
turn w e es plan v may entry rest = (
  beats_by w plan ++ rest.0,
  (beats_by w plan, rest.0, world_by w plan, refl, entry, is_weave w plan (beats_by w plan) may refl, rest.1),
)

abbrev send : WireCall
send = wire_calls.Port (SendCopy 0 (request_saying 7))

abbrev ask : WireCall
ask = wire_calls.Port (IsConnected 2)

-- the worlds after each entry
abbrev w1 : World
w1 = world_by stop_0 (begin 0 send 0 ∷ [])

abbrev w2 : World
w2 = world_by w1 (step 0 ∷ [])

abbrev w3 : World
w3 = world_by w2 (step 0 ∷ [])

abbrev w4 : World
w4 = world_by w3 (step 0 ∷ [])

abbrev w5 : World
w5 = world_by w4 (step 0 ∷ stop 0 [] ∷ [])

abbrev w6 : World
w6 = world_by w5 (begin 1 (wire_calls.Port (Receive 1)) 0 ∷ [])

abbrev w7 : World
w7 = world_by w6 (step 1 ∷ [])

abbrev w8 : World
w8 = world_by w7 (begin 0 ask 0 ∷ [])

abbrev w9 : World
w9 = world_by w8 (step 0 ∷ stop 0 [] ∷ [])

abbrev w10 : World
w10 = world_by w9 (die 1 ∷ [])

abbrev w11 : World
w11 = world_by w10 (begin 0 (Forget 1) 0 ∷ [])

abbrev w12 : World
w12 = world_by w11 (stop 0 [] ∷ [])

abbrev w13 : World
w13 = world_by w12 (begin 0 ask 0 ∷ [])

abbrev w14 : World
w14 = world_by w13 (stop 0 [] ∷ [])

abbrev ask_words : WordsCall
ask_words = wire_calls.Port (IsConnected 2)

-- the entries that are left after the first so many
abbrev left_15 : List Entry
left_15 = []

abbrev left_14 : List Entry
left_14 = Transition 0 ∷ left_15

abbrev left_13 : List Entry
left_13 = Begin 0 ask_words ∷ left_14

abbrev left_12 : List Entry
left_12 = Transition 0 ∷ left_13

abbrev left_11 : List Entry
left_11 = Begin 0 (Forget 1) ∷ left_12

abbrev left_10 : List Entry
left_10 = Transition 1 ∷ left_11

abbrev left_9 : List Entry
left_9 = Die 1 ∷ left_10

abbrev left_8 : List Entry
left_8 = Transition 0 ∷ left_9

abbrev left_7 : List Entry
left_7 = Begin 0 ask_words ∷ left_8

abbrev left_6 : List Entry
left_6 = Transition 1 ∷ left_7

abbrev left_5 : List Entry
left_5 = Begin 1 (wire_calls.Port (Receive 1)) ∷ left_6

abbrev left_4 : List Entry
left_4 = Transition 0 ∷ left_5

abbrev left_3 : List Entry
left_3 = Transition 0 ∷ left_4

abbrev left_2 : List Entry
left_2 = Transition 0 ∷ left_3

abbrev left_1 : List Entry
left_1 = Transition 0 ∷ left_2

-- what the last so many entries bring
abbrev from_14 : Brings w13 left_14 w14
from_14 = turn w13 (Transition 0) left_15 (stop 0 [] ∷ []) w14 refl (ends_alone _ _) ([], (refl, refl))

abbrev from_13 : Brings w12 left_13 w14
from_13 = turn w12 (Begin 0 ask_words) left_14 (begin 0 ask 0 ∷ []) w14 refl (on_lane 0, refl) from_14

abbrev from_12 : Brings w11 left_12 w14
from_12 = turn w11 (Transition 0) left_13 (stop 0 [] ∷ []) w14 refl (ends_alone _ _) from_13

abbrev from_11 : Brings w10 left_11 w14
from_11 = turn w10 (Begin 0 (Forget 1)) left_12 (begin 0 (Forget 1) 0 ∷ []) w14 refl (on_lane 0, refl) from_12

abbrev from_10 : Brings w10 left_10 w14
from_10 = turn w10 (Transition 1) left_11 ([]) w14 refl nothing from_11

abbrev from_9 : Brings w9 left_9 w14
from_9 = turn w9 (Die 1) left_10 (die 1 ∷ []) w14 refl refl from_10

abbrev from_8 : Brings w8 left_8 w14
from_8 = turn w8 (Transition 0) left_9 (step 0 ∷ stop 0 [] ∷ []) w14 refl (makes_and_ends _ _ _) from_9

abbrev from_7 : Brings w7 left_7 w14
from_7 = turn w7 (Begin 0 ask_words) left_8 (begin 0 ask 0 ∷ []) w14 refl (on_lane 0, refl) from_8

abbrev from_6 : Brings w6 left_6 w14
from_6 = turn w6 (Transition 1) left_7 (step 1 ∷ []) w14 refl (makes _) from_7

abbrev from_5 : Brings w5 left_5 w14
from_5 = turn w5 (Begin 1 (wire_calls.Port (Receive 1))) left_6 (begin 1 (wire_calls.Port (Receive 1)) 0 ∷ []) w14 refl (on_lane 0, refl) from_6

abbrev from_4 : Brings w4 left_4 w14
from_4 = turn w4 (Transition 0) left_5 (step 0 ∷ stop 0 [] ∷ []) w14 refl (makes_and_ends _ _ _) from_5

abbrev from_3 : Brings w3 left_3 w14
from_3 = turn w3 (Transition 0) left_4 (step 0 ∷ []) w14 refl (makes _) from_4

abbrev from_2 : Brings w2 left_2 w14
from_2 = turn w2 (Transition 0) left_3 (step 0 ∷ []) w14 refl (makes _) from_3

abbrev from_1 : Brings w1 left_1 w14
from_1 = turn w1 (Transition 0) left_2 (step 0 ∷ []) w14 refl (makes _) from_2

abbrev from_0 : Brings stop_0 stop_entries w14
from_0 = turn stop_0 (Begin 0 (wire_calls.Port (SendCopy 0 (7 ∷ [])))) left_1 (begin 0 send 0 ∷ []) w14 refl (on_lane 0, refl) from_1

stops_by_schedule : IsWeaveOf stop_0 stop_entries stop_beats w14
stops_by_schedule = from_0.1

pub stops_and_is_forgotten : StopsAndIsForgotten
stops_and_is_forgotten = (
  set_up_with defaults,
  (is_set_up_with defaults sure refl, refl),
  stop_1,
  is_weave stop_0 stop_plan stop_beats sure refl,
  stops_by_schedule,
  refl,
  refl,
  refl,
  world_by stop_1 loan_plan,
  is_weave stop_1 loan_plan loan_beats sure refl,
)

abbrev growing : Limits
growing = record defaults { server_allocation = PowerOfTwo }

pub refuses_growing_ports : RefusesGrowingPorts
refuses_growing_ports = (set_up_with growing, is_set_up_with growing sure refl, refl)

abbrev deliver_plan : List Plan
deliver_plan =
    begin 0 (wire_calls.Port (SendCopy 0 (request_saying 1))) 0
    ∷ step 0
    ∷ step 0
    ∷ step 0
    ∷ step 0
    ∷ stop 0 []
    ∷ begin 1 (wire_calls.Port (Receive 1)) 0
    ∷ step 1
    ∷ stop 1 []
    ∷ begin 0 (wire_calls.Port (Release 2)) 0
    ∷ step 0
    ∷ stop 0 []
    ∷ begin 0 (wire_calls.Port (SendCopy 0 (request_saying 2))) 1
    ∷ step 0
    ∷ step 0
    ∷ step 0
    ∷ step 0
    ∷ stop 0 []
    ∷ begin 0 (wire_calls.Port (Release 3)) 0
    ∷ step 0
    ∷ stop 0 []
    ∷ begin 0 (wire_calls.Port (SendCopy 0 (request_saying 3))) 2
    ∷ step 0
    ∷ step 0
    ∷ step 0
    ∷ step 0
    ∷ []

abbrev evict_plan : List Plan
evict_plan =
    step 0
    ∷ []

abbrev get_back_plan : List Plan
get_back_plan =
    step 0
    ∷ stop 0 []
    ∷ []

abbrev next_loan_plan : List Plan
next_loan_plan =
    begin 0 (wire_calls.Port (Loan 0 1)) 0
    ∷ step 0
    ∷ stop 0 (0 ∷ [])
    ∷ []

abbrev ledger_0 : World
ledger_0 = at_work (opened (set_up_with ones))

abbrev ledger_1 : World
ledger_1 = world_by ledger_0 deliver_plan

abbrev ledger_2 : World
ledger_2 = world_by ledger_1 evict_plan

abbrev ledger_3 : World
ledger_3 = world_by ledger_2 get_back_plan

pub keeps_two : KeepsTwo
keeps_two = (
  set_up_with ones,
  (is_set_up_with ones sure refl, refl),
  ledger_1,
  ledger_2,
  ledger_3,
  world_by ledger_3 next_loan_plan,
  is_weave ledger_0 deliver_plan deliver_beats sure refl,
  refl,
  is_weave ledger_1 evict_plan evict_beats sure refl,
  refl,
  is_weave ledger_2 get_back_plan get_back_beats sure refl,
  refl,
  refl,
  is_weave ledger_3 next_loan_plan next_loan_beats sure refl,
)
