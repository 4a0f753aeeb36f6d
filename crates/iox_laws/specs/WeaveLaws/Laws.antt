-- Laws: what follows from the definitions about one call, whatever other nodes do in between.
use Rattle.std.specs.Prelude.{◌≡◌, ℕ, Bool, true, false, not, ◌==◌, List, [], ◌∷◌, ◌++◌, map, Some, None, IsTrue}
use Rattle.std.specs.List.{list_any, list_all}
use Rattle.iox_model.specs.declared.way.Way.{Way}
use Rattle.iox_model.specs.declared.way.RequestState.{RequestState}
use Rattle.iox_model.specs.declared.call.Call.TheVariants.{Receive}
use Rattle.iox_model.specs.declared.call.WireCall.TheVariants as wire_calls
use Rattle.iox_model.specs.declared.reply.Reply.TheVariants.{Refused}
use Rattle.iox_model.specs.Receives.{state_of_request}
use Rattle.iox_model.specs.Doings.{Receiver, Outcome, Tells, FailsToSend, Receives, Doing, Ended}
use Rattle.iox_model.specs.Weaves.{begin_refusal, IsBeat, IsWeave, World, Beat, Begins, Makes, Ends, Dies}
use Rattle.iox_model.specs.Settings.{is_client}
use Rattle.iox_model.specs.States.{Handle, State}
use Rattle.iox_model.specs.Loans.{Choice}
use Rattle.iox_model.specs.Handles.{subject, TheHandle}
use Rattle.iox_model.specs.WholeCalls.{IsDone}
use Rattle.iox_model.specs.Joins.{not_living}
use Rattle.iox_model.specs.Moments.{Moment, Deliver, Look}
use Rattle.iox_model.specs.Commands.{Refusal, Reply, Call, WireCall}
use Rattle.iox_model.specs.Messages.{names, Message}
use Rattle.iox_model.specs.Transitions.{ends}

-- ---- a whole call, and a weave of one call

-- that lane is taken, and memory is there
abbrev pub on_lane : ℕ → Choice
on_lane lane = record { lane = lane; memory = true }

-- one call of the node and nothing else: its begin, its moments one after another, its end
abbrev pub one_call : ℕ → Call → Choice → List Moment → Reply → List ℕ → List Beat
one_call node call c ms reply payload =
    Begins node (wire_calls.Port call) c ∷ (map (Makes node) ms ++ Ends node reply payload ∷ [])

-- from a world where it may begin, a whole call is a weave of that one call
abbrev pub WholeCallIsWeave : Type 0
WholeCallIsWeave =
    (w : World) (node : ℕ) (call : Call) (reply : Reply) (s' : State)
    → begin_refusal w node (wire_calls.Port call) ≡ None → IsDone w.state node call reply s'
    → (c : Choice) × (ms : List Moment) × (payload : List ℕ) × (v : World)
    × IsWeave w (one_call node call c ms reply payload) v × (v.state ≡ s')

-- A weave of one call is a whole call.
abbrev pub WeaveIsWholeCall : Type 0
WeaveIsWholeCall =
    (w v : World) (node : ℕ) (call : Call) (c : Choice) (ms : List Moment) (reply : Reply)
    → (payload : List ℕ)
    → IsWeave w (one_call node call c ms reply payload) v → IsDone w.state node call reply v.state

-- ---- the dead

-- the node that makes the beat
abbrev pub node_of_beat : Beat → ℕ
node_of_beat (Begins node call c) = node
node_of_beat (Makes node m) = node
node_of_beat (Ends node reply payload) = node
node_of_beat (Dies node) = node

-- A node that does not live begins no call, makes no moment, ends no call, and does not die again.
abbrev pub OnlyTheLivingAct : Type 0
OnlyTheLivingAct =
    (w v : World) (b : Beat) → IsBeat w b v → not_living w.state (node_of_beat b) ≡ None

-- None of the beats that follow is one of a node that does not live.
abbrev pub TheDeadStayDead : Type 0
TheDeadStayDead =
    (w v : World) (bs : List Beat) (node : ℕ) (r : Refusal)
    → IsWeave w bs v → not_living w.state node ≡ Some r
    → IsTrue (list_all (λ b. not (node_of_beat b == node)) bs)

-- ---- one call among others

-- the beats of other nodes and the moments of this one, whose call continues
abbrev pub goes_on_by : ℕ → Beat → Bool
goes_on_by node (Begins n call c) = not (n == node)
goes_on_by node (Makes n m) = true
goes_on_by node (Ends n reply payload) = not (n == node)
goes_on_by node (Dies n) = true

-- the node began that call, and did not end it yet
abbrev pub IsDuring : World → ℕ → WireCall → Choice → List Beat → World → Type 0
IsDuring w node call c bs v =
    IsWeave w (Begins node call c ∷ bs) v × IsTrue (list_all (goes_on_by node) bs)

-- A response that a pending response receives names its request.
abbrev pub ReceivesOwn : Type 0
ReceivesOwn =
    (w v : World) (node n : ℕ) (h : Handle) (c : Choice) (bs : List Beat)
    → (x : Receiver) (y : Way) (m : Message)
    → IsDuring w node (wire_calls.Port (Receive n)) c bs v
    → subject w.state.fixed node n ≡ Some (TheHandle h)
    → v.doing node ≡ Some (Ended (Receives x y m)) → m.request ≡ h.request

-- Without fire-and-forget the moment by which a server gets a request is a look that shows it named.
abbrev pub ReceivesNamed : Type 0
ReceivesNamed =
    (w v : World) (node : ℕ) (a : Moment) (x : Receiver) (y : Way) (m : Message)
    → IsBeat w (Makes node a) v → v.doing node ≡ Some (Ended (Receives x y m))
    → is_client x.role ≡ false → w.state.fixed.limits.fire_and_forget ≡ false
    → (shown : RequestState) × (a ≡ Look (state_of_request y m) shown)
    × IsTrue (names shown m.request)

-- whether the beat is a delivery by this node
abbrev pub delivers_by : ℕ → Beat → Bool
delivers_by node (Makes n (Deliver y m)) = n == node
delivers_by node b = false

-- whether the outcome is answered by a refusal
abbrev pub is_refused : Outcome → Bool
is_refused (FailsToSend h copied r) = true
is_refused (Tells (Refused r)) = true
is_refused o = false

-- A call that delivered a message is not refused, for any reason.
abbrev pub DeliveredIsNotRefused : Type 0
DeliveredIsNotRefused =
    (w v : World) (node : ℕ) (call : WireCall) (c : Choice) (bs : List Beat) (d : Doing) (o : Outcome)
    → IsDuring w node call c bs v → IsTrue (list_any (delivers_by node) bs)
    → v.doing node ≡ Some d → ends v.state d ≡ Some o → is_refused o ≡ false
