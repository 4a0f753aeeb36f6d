-- A node is busy where it has a call under way, and is where that is kept: after a step, and a begin.
use Rattle.std.specs.Prelude.{IfSome, is_none, is_some, take}
use Rattle.std.proofs.Common.{◌≡◌, ℕ, Bool, true, false, List, [], ◌∷◌, Option, None, Some, ap, refl, sym, subst, ◌∙◌}
use Rattle.iox_laws.proofs.WeaveLaws.WholeLemmas.{put_at-here}
use Rattle.iox_model.specs.Commands.{Reply, WireCall}
use Rattle.iox_model.specs.Loans.{Choice}
use Rattle.iox_model.specs.Transitions.{next}
use Rattle.iox_model.specs.Weaves.{Beat, Begins, IsWeave, World, wire_start}
use Rattle.iox_model.specs.declared.call.Call as the_call
use Rattle.iox_model.specs.declared.call.Call.TheVariants as calls
use Rattle.iox_model.specs.Schedules.{IsStepOf, UnderWay, ends_alone, makes, makes_and_ends, nothing}
use Rattle.iox_model.specs.WireCalls.{with_payloads}
use Rattle.iox_wire_weaves.specs.Begins.{is_busy}
use Rattle.iox_wire_weaves.specs.CallAt.{CallAt}
use Rattle.iox_wire_weaves.specs.Calls.{IsKeptAt, call_in_words}
use Rattle.iox_wire_weaves.specs.Laws.{progress_of}
use Rattle.iox_wire_weaves.specs.NodeCall.{NodeCall}
use Rattle.iox_wire_weaves.specs.NodeReply.{NodeReply}
use Rattle.iox_wire_weaves.specs.Nodes.{answered_at, seat_in}
use Rattle.iox_wire_weaves.specs.Replies.{call_within}
use Rattle.iox_wire_weaves.specs.Runs.{GoesOnBy, Run}
use Rattle.iox_wire_weaves.specs.Steps.{GoesOnByStep, IsWireCallAt, answer_of, call_after}
use Rattle.iox_wire_weaves.specs.Tables.{Setting}
use Rattle.iox_wire_weaves.specs.Wires.{Shows, WireData, WireNode, answers_in, living_refusal, node_at}
use Rattle.iox_wire_weaves.proofs.NodesKnown.{works}
use Rattle.iox_wire.specs.Kept.{IsAtItsCall}
use Rattle.iox_wire.specs.Replies.{words_call}

-- a call with no more than so many words is kept where it is
within_kept : (most : ℕ) (c : the_call.Call (List ℕ)) (a : CallAt) → IsKeptAt c a
    → IsKeptAt (with_payloads (λ n words. take most words) (λ n words. take most words) c) a
within_kept most (calls.Loan n k) a there = there
within_kept most (calls.LoanUninit n k) a there = there
within_kept most (calls.Write n y) a there = there
within_kept most (calls.Send n) a there = there
within_kept most (calls.SendCopy n y) a there = there
within_kept most (calls.Receive n) a there = there
within_kept most (calls.Read n) a there = there
within_kept most (calls.Release n) a there = there
within_kept most (calls.IsConnected n) a there = there
within_kept most (calls.SetHint n) a there = there
within_kept most (calls.HasHint n) a there = there
within_kept most (calls.HasRequests n) a there = there
within_kept most (calls.HasResponse n) a there = there

-- ---- a step

-- nothing is answered
abbrev none_of : List (ℕ × Reply) → Bool
none_of [] = true
none_of (a ∷ more) = false

-- a step that answers nothing leaves the machine something to do for the node, and one that answers leaves it nothing
works_on : (n : ℕ) (w v : World) (bs : List Beat) → IsStepOf n bs → IsWeave w bs v → is_some (w.doing n) ≡ true → is_some (v.doing n) ≡ none_of (answers_in bs)
works_on n w v bs (nothing) woven works = ap (λ (u : World). is_some (u.doing n)) woven ∙ works
works_on n w v bs (makes m) woven works =
    ap (λ (u : World). is_some (u.doing n)) (woven.2 ∙ woven.1.5) ∙ ap is_some (put_at-here w.doing n (Some (next w.state n woven.1.1 m).after))
works_on n w v bs (ends_alone r y) woven works =
    ap (λ (u : World). is_some (u.doing n)) (woven.2 ∙ woven.1.7) ∙ ap is_some (put_at-here w.doing n None)
works_on n w v bs (makes_and_ends m r y) woven works =
    ap (λ (u : World). is_some (u.doing n)) (woven.2.2 ∙ woven.2.1.7) ∙ ap is_some (put_at-here woven.0.doing n None)

told_by : (n : ℕ) (nodes : List WireNode) (reply : Option NodeReply) → none_of (answer_of n nodes (progress_of reply)) ≡ is_none reply
told_by n nodes None = refl
told_by n nodes (Some reply) = refl

-- so the node is busy as long as it answers nothing
pub busy_still : (p : Setting) (w new : WireData) (r : Run) (n : ℕ) (d y : WireNode) (reply : Option NodeReply) → Shows p w r → living_refusal w.nodes n ≡ None
    → node_at n w.nodes ≡ Some d → is_busy (seat_in d.node).local ≡ true → living_refusal new.nodes n ≡ None → node_at n new.nodes ≡ Some y
    → GoesOnByStep p r n (answer_of n new.nodes (progress_of reply)) new → is_busy (seat_in y.node).local ≡ is_none reply
busy_still p w new r n d y reply shows alive there busy alive_then there_then step =
    works p new step.after n y step.shows there_then alive_then
    ∙ works_on n r.last step.after.last step.beats step.is_step step.goes_on.woven (sym (works p w r n d shows there alive) ∙ busy)
    ∙ ap none_of step.answered ∙ told_by n new.nodes reply

pub own_stepped : (d y : WireNode) (reply : Option NodeReply) → IsAtItsCall d → is_busy (seat_in d.node).local ≡ true → is_busy (seat_in y.node).local ≡ is_none reply
    → y.node.at ≡ d.node.at → y.call ≡ call_after d.call reply → IsAtItsCall y
own_stepped d y None own busy later at call = record {
  busy = later ∙ sym busy ∙ own.busy ∙ ap is_some (sym call);
  there = subst (λ (o : Option UnderWay). IfSome o (λ u. IsWireCallAt u.call y.node.at)) (sym call)
      (subst (λ (a : CallAt). IfSome d.call (λ u. IsWireCallAt u.call a)) (sym at) own.there);
}
own_stepped d y (Some reply) own busy later at call = record {
  busy = later ∙ ap is_some (sym call);
  there = subst (λ (o : Option UnderWay). IfSome o (λ u. IsWireCallAt u.call y.node.at)) (sym call) tt;
}

-- ---- a begin

-- a node that begins a call is busy
pub busy_begun : (p : Setting) (new : WireData) (r after : Run) (n : ℕ) (y : WireNode) (call : WireCall) (c : Choice) → Shows p new after → living_refusal new.nodes n ≡ None
    → node_at n new.nodes ≡ Some y → GoesOnBy r (Begins n call c) after → is_busy (seat_in y.node).local ≡ true
busy_begun p new r after n y call c shows alive there goes =
    works p new after n y shows there alive ∙ ap (λ (u : World). is_some (u.doing n)) goes.beat.2
    ∙ ap is_some (put_at-here r.last.doing n (Some (wire_start r.last.state n c call)))

pub own_begun : (d y : WireNode) (call : NodeCall) (events : ℕ) → is_busy (seat_in y.node).local ≡ true
    → y.call ≡ Some (record { call = call_within d.longest (words_call call); begun = events }) → IsKeptAt (call_in_words call) y.node.at → IsAtItsCall y
own_begun d y call events busy kept at = record {
  busy = busy ∙ ap is_some (sym kept);
  there = subst (λ (o : Option UnderWay). IfSome o (λ u. IsWireCallAt u.call y.node.at)) (sym kept) (within_kept d.longest (call_in_words call) y.node.at at);
}

-- ---- an answer

-- what it answers is an answer to that call, and of the call that it keeps
pub own_answer : (d : WireNode) (reply : Option NodeReply) → IsAtItsCall d → IfSome reply (λ r. answered_at r ≡ d.node.at)
    → IfSome reply (λ r. (answered_at r ≡ d.node.at) × IfSome d.call (λ u. IsWireCallAt u.call (answered_at r)))
own_answer d None own told = tt
own_answer d (Some r) own told = (told, subst (λ (a : CallAt). IfSome d.call (λ u. IsWireCallAt u.call a)) (sym told) own.there)
