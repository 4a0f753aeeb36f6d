-- What a receive hands out, in each reachable state.
use Rattle.std.specs.Prelude.{◌≡◌, ℕ, false, Some, IsTrue}
use Rattle.iox_model.specs.declared.call.Call.TheVariants.{Receive}
use Rattle.iox_model.specs.declared.kind.Kind.TheVariants.{ActiveRequest, Response}
use Rattle.iox_model.specs.declared.reply.Reply.TheVariants as replies
use Rattle.iox_model.specs.Handles.{own_state, subject, ThePort, TheHandle}
use Rattle.iox_model.specs.Messages.{names}
use Rattle.iox_model.specs.States.{Port, Handle, State}
use Rattle.iox_model.specs.WholeCalls.{IsWholeCall}
use Rattle.iox_model.specs.Runs.{IsReachableState}

-- The handle that a pending response's receive answers is a response on its lane, to its request.
abbrev pub ResponsesNameTheirRequest : Type 0
ResponsesNameTheirRequest =
    (s t : State) (node n k : ℕ) (h : Handle)
    → IsReachableState s → subject s.fixed node n ≡ Some (TheHandle h)
    → IsWholeCall s node (Receive n) (replies.Handle k) t
    → (g : Handle) × (subject t.fixed node k ≡ Some (TheHandle g))
    × (g.kind ≡ Response) × (g.port ≡ h.port)
    × (g.message.lane ≡ h.lane) × (g.message.request ≡ h.request)

-- The handle that a server's receive answers is an active request of the server. Without
-- fire-and-forget its client did not give it up: the request state names it.
abbrev pub RequestsAreNamed : Type 0
RequestsAreNamed =
    (s t : State) (node n k : ℕ) (p : Port)
    → IsReachableState s → subject s.fixed node n ≡ Some (ThePort p)
    → IsWholeCall s node (Receive n) (replies.Handle k) t
    → (g : Handle) × (subject t.fixed node k ≡ Some (TheHandle g))
    × (g.kind ≡ ActiveRequest) × (g.port ≡ p.number)
    × (s.fixed.limits.fire_and_forget ≡ false
    → IsTrue (names (t.request_state (own_state g)) g.request))
