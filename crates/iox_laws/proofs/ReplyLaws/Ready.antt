-- States between calls are ready for each call, and the function of any call answers what the call does.
use Rattle.std.specs.Prelude.{◌≡◌, ℕ, ◌≤◌, Bool, true, false, nat_lt, if◌then◌else◌, [], ◌∷◌, length, map, ◌==◌, Option, Some, None, refl}
use Rattle.std.proofs.Common.{arith}
use Rattle.iox_model.specs.declared.kind.Role.TheVariants.{Server}
use Rattle.iox_model.specs.declared.way.Way.{Way}
use Rattle.iox_model.specs.Handles.{handle_at, is_request_loan, own_state, subject, Subject, ThePort, TheHandle}
use Rattle.iox_model.specs.Loans.{Choice, Order}
use Rattle.iox_model.specs.Maps.{AreDistinctWays}
use Rattle.iox_model.specs.Messages.{request_way}
use Rattle.iox_model.specs.Peers.{is_connected_port, others, port_at, buffer_on}
use Rattle.iox_model.specs.Runs.{IsReachableState}
use Rattle.iox_model.specs.States.{Port, Handle, Fixed, State}
use Rattle.iox_laws.proofs.WeaveLaws.MapLemmas.{eqb-refl}
use Rattle.iox_laws.proofs.WeaveLedger.Lists.{find-among, among-any}
use Rattle.iox_laws.proofs.WeaveLedger.Starts.{there}
use Rattle.iox_laws.proofs.RunLaws.Bounded.{queues_rest_within}
use Rattle.iox_laws.specs.CallFunctions.Calls.{call_by}
use Rattle.iox_laws.specs.CallFunctions.Copies.{MayCopy}
use Rattle.iox_laws.specs.CallFunctions.LoanSends.{MaySend}
use Rattle.iox_laws.specs.CallFunctions.Loans.{request_loan, response_loan}
use Rattle.iox_laws.specs.CallFunctions.Overflows.{NotOver}
use Rattle.iox_laws.proofs.CallFunctions.Calling.{each_call_is_whole}
use Rattle.iox_laws.specs.ReplyLaws.PlainReplies.{ReachableStatesAreReady, CallsAnswerPlainly, TakingCallsAnswerPlainly}
use Rattle.iox_laws.proofs.ReplyLaws.Hands.{NoneInHand, none_in_hand}
use Rattle.iox_laws.proofs.ReplyLaws.Laws.{near_one, whole_near, whole_answer}
use Rattle.iox_laws.proofs.ReplyLaws.Plainly.{whole_one, servers_apart, not_over, known_port}
use Rattle.iox_laws.proofs.ReplyLaws.Remembering.{nobody_forgot}

-- ---- loans may be sent

apart_by : (s : State) (h : Handle) (b : Bool) → IsReachableState s
    → AreDistinctWays (if b then map (request_way h.port) (others s.fixed h.node Server) else own_state h ∷ [])
apart_by s h true left = servers_apart s h left
apart_by s h false left = (refl, tt)

within_by : (s : State) (h : Handle) (b : Bool) → IsReachableState s → is_connected_port s.fixed h.port ≡ true
    → NotOver s (if b then map (request_way h.port) (others s.fixed h.node Server) else own_state h ∷ [])
within_by s h true left known = not_over s h.port left known (others s.fixed h.node Server)
within_by s h false left known =
    let w : Way = own_state h in (within (length (s.waiting w)) (buffer_on s.fixed w) (queues_rest_within s w left known), tt)
  where
    within : (k b : ℕ) → k ≤ b → nat_lt b k ≡ false
    within k b e = grind (arith)

may_send : (s : State) (h : Handle) → IsReachableState s → is_connected_port s.fixed h.port ≡ true → MaySend s h
may_send s h left known = record {
  apart = apart_by s h (is_request_loan h.kind) left;
  within = λ on. within_by s h (is_request_loan h.kind) left known;
}

-- a port that was found is connected
connected : (f : Fixed) (n : ℕ) (p : Port) → port_at f n ≡ Some p → is_connected_port f p.number ≡ true
connected f n p e =
    among-any (λ (q : Port). q.number == p.number) p f.ports (find-among (λ (q : Port). q.number == n) p f.ports e).0 (eqb-refl p.number)

may_copy : (s : State) (node n : ℕ) (c : Choice) (o : Order) (x : Option Subject) → subject s.fixed node n ≡ x → IsReachableState s → MayCopy s c x o
may_copy s node n c o (Some (ThePort p)) is left =
    may_send s (request_loan s.fixed c p o) left
    (connected s.fixed p.number p (there s.fixed node n (ThePort p) (port_at s.fixed n) (handle_at s.fixed node n) refl refl is))
may_copy s node n c o (Some (TheHandle h)) is left = λ p e. may_send s (response_loan s.fixed h p o) left (connected s.fixed h.port p e)
may_copy s node n c o None is left = tt

pub reachable_states_are_ready : ReachableStatesAreReady
reachable_states_are_ready s node left = record {
  nobody = nobody_forgot s left node;
  none = none_in_hand s left;
  sends = λ n h is. may_send s h left (known_port s node n h left is);
  copies = λ n c o. may_copy s node n c o (subject s.fixed node n) refl left;
}

-- ---- replies

pub calls_answer_plainly : CallsAnswerPlainly
calls_answer_plainly s t node call c payload reply left takes choice holds one =
    whole_one s t (call_by s node call c payload).1 node call reply (call_by s node call c payload).0 left takes one
    (each_call_is_whole s node call c payload (reachable_states_are_ready s node left) choice holds)

pub taking_calls_answer_plainly : TakingCallsAnswerPlainly
taking_calls_answer_plainly s t node call c payload reply left choice holds one =
    let none : NoneInHand s = none_in_hand s left in
    near_one reply (call_by s node call c payload).0 (whole_answer s node call) (whole_near s t node call reply none one)
    (whole_near s (call_by s node call c payload).1 node call (call_by s node call c payload).0 none
    (each_call_is_whole s node call c payload (reachable_states_are_ready s node left) choice holds))
