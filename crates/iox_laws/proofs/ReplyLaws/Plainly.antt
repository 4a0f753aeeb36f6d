-- A receive, and the send of a request, answer what the functions of lists say.
use Rattle.std.specs.Prelude.{◌≡◌, ℕ, ◌≤◌, Bool, true, false, nat_lt, List, [], ◌∷◌, length, map, Some, refl}
use Rattle.std.proofs.Common.{sym, ◌∙◌, true≢false, inl, inr, arith}
use Rattle.iox_model.specs.declared.call.Call.TheVariants.{Send, Receive}
use Rattle.iox_model.specs.declared.kind.Role.TheVariants.{Server}
use Rattle.iox_model.specs.Commands.{Reply, Call}
use Rattle.iox_model.specs.Handles.{handle_at, subject, TheHandle}
use Rattle.iox_model.specs.Maps.{AreDistinctWays}
use Rattle.iox_model.specs.Messages.{request_way}
use Rattle.iox_model.specs.Names.{misnamed}
use Rattle.iox_model.specs.Peers.{is_connected_port, others, port_at, buffer_on}
use Rattle.iox_model.specs.Runs.{IsReachableState}
use Rattle.iox_model.specs.States.{Handle, State}
use Rattle.iox_model.specs.WholeCalls.{spent, IsDone, IsWholeCall}
use Rattle.iox_laws.proofs.WeaveLedger.Lists.{IsAmong}
use Rattle.iox_laws.proofs.WeaveLedger.Starts.{there}
use Rattle.iox_laws.specs.CallFunctions.Overflows.{NotOver, sent_over_by}
use Rattle.iox_laws.specs.CallFunctions.Searches.{received}
use Rattle.iox_laws.specs.CallFunctions.Sends.{sent_by}
use Rattle.iox_laws.proofs.CallFunctions.Received.{each_receive_is_whole}
use Rattle.iox_laws.proofs.CallFunctions.Sent.{each_send_is_whole}
use Rattle.iox_laws.proofs.CallFunctions.Overflowing.{each_overflowing_send_is_whole}
use Rattle.iox_laws.proofs.WeaveWorlds.PortLemmas.{distinct-others}
use Rattle.iox_laws.proofs.WeaveWorlds.ReachedPorts.{reached_ports}
use Rattle.iox_laws.proofs.WeaveWorlds.WayLemmas.{apart-requests}
use Rattle.iox_laws.proofs.RunLaws.Bounded.{queues_rest_within}
use Rattle.iox_laws.proofs.RunLaws.Rests.{FitsHandle}
use Rattle.iox_laws.proofs.RunLaws.Runs.{left_calm}
use Rattle.iox_laws.specs.ReplyLaws.Determined.{takes_memory}
use Rattle.iox_laws.specs.ReplyLaws.PlainReplies.{ReceivesAnswerPlainly, SendsAnswerPlainly, OverflowingSendsAnswerPlainly}
use Rattle.iox_laws.proofs.ReplyLaws.Choosing.{answer, IsTold, done_like}
use Rattle.iox_laws.proofs.ReplyLaws.Hands.{NoneInHand, none_in_hand}
use Rattle.iox_laws.proofs.ReplyLaws.Remembering.{nobody_forgot}
use Rattle.iox_laws.proofs.ReplyLaws.Laws.{reply_or, exact_unless, whole_answer}

-- ---- a call that takes no memory

without_memory : (call : Call) (memory : Bool) (a b : Reply) → takes_memory call ≡ false → IsTold call memory a b → a ≡ b
without_memory call memory a b e (inl same) = same
without_memory call memory a b e (inr want) = absurd (true≢false (sym want.0 ∙ e))

whole_is : (s t : State) (node : ℕ) (call : Call) (a : Reply) → NoneInHand s → takes_memory call ≡ false → IsWholeCall s node call a t
    → a ≡ whole_answer s node call
whole_is s t node call a none e =
    exact_unless (misnamed s.fixed node call) s t a (reply_or (spent s.fixed call) (answer s node call)) _
    (λ named. exact_unless (spent s.fixed call) s t a (answer s node call) (IsDone s node call a t)
    (λ u done. without_memory call (done.0).memory a (answer s node call) e (done_like s t node call a none named done)))

pub whole_one : (s t u : State) (node : ℕ) (call : Call) (a b : Reply) → IsReachableState s → takes_memory call ≡ false
    → IsWholeCall s node call a t → IsWholeCall s node call b u → a ≡ b
whole_one s t u node call a b left e one other =
    whole_is s t node call a (none_in_hand s left) e one ∙ sym (whole_is s u node call b (none_in_hand s left) e other)

pub receives_answer_plainly : ReceivesAnswerPlainly
receives_answer_plainly s t node n reply left call =
    whole_one s t (received s node n).1 node (Receive n) reply (received s node n).0 left refl call
    (each_receive_is_whole s node n (nobody_forgot s left node))

-- ---- sends

pub servers_apart : (s : State) (h : Handle) → IsReachableState s → AreDistinctWays (map (request_way h.port) (others s.fixed h.node Server))
servers_apart s h left =
    apart-requests h.port (others s.fixed h.node Server) (distinct-others s.fixed h.node Server (reached_ports s left))

pub sends_answer_plainly : SendsAnswerPlainly
sends_answer_plainly s t node n h reply left is loan overflow call =
    whole_one s t (sent_by s node n h).1 node (Send n) reply (sent_by s node n h).0 left refl call
    (each_send_is_whole s node n h is loan overflow (servers_apart s h left) (none_in_hand s left))

-- between calls nowhere one too many waits
pub not_over : (s : State) (port : ℕ) → IsReachableState s → is_connected_port s.fixed port ≡ true → (servers : List ℕ)
    → NotOver s (map (request_way port) servers)
not_over s port left known [] = tt
not_over s port left known (n ∷ ns) = (
  within (length (s.waiting (request_way port n))) (buffer_on s.fixed (request_way port n)) (queues_rest_within s (request_way port n) left known),
  not_over s port left known ns,
)
  where
    within : (k b : ℕ) → k ≤ b → nat_lt b k ≡ false
    within k b e = grind (arith)

pub known_port : (s : State) (node n : ℕ) (h : Handle) → IsReachableState s → subject s.fixed node n ≡ Some (TheHandle h)
    → is_connected_port s.fixed h.port ≡ true
known_port s node n h left is =
    let among : IsAmong h (s.fixed.handles node) = there s.fixed node n (TheHandle h) (port_at s.fixed n) (handle_at s.fixed node n) refl refl is in
    let fits : FitsHandle s.fixed.ports s.fixed.next_number node h = ((((left_calm s left).rests).fixed).handles node).each h among in
    (fits.of_port).0

pub overflowing_sends_answer_plainly : OverflowingSendsAnswerPlainly
overflowing_sends_answer_plainly s t node n h reply left is loan overflow call =
    whole_one s t (sent_over_by s node n h).1 node (Send n) reply (sent_over_by s node n h).0 left refl call
    (each_overflowing_send_is_whole s node n h is loan overflow (servers_apart s h left) (none_in_hand s left)
    (not_over s h.port left (known_port s node n h left is) (others s.fixed h.node Server)))
