-- What waits, and what receivers have, between calls, and what waits in the midst of a call.
use Rattle.std.specs.Prelude.{◌≡◌, ℕ, ◌+◌, ◌≤◌, true, if◌then◌else◌, ◌==◌, nat_le, length, filter, Some, refl}
use Rattle.std.proofs.Common.{sym, subst, ap, ◌∙◌, eqb-true}
use Rattle.std.proofs.lemmas.List.{length-map}
use Rattle.iox_model.specs.declared.way.Way.{Way}
use Rattle.iox_model.specs.Begins.{start}
use Rattle.iox_model.specs.Doings.{Doing}
use Rattle.iox_laws.specs.WeaveLaws.Ledgers.{has_received}
use Rattle.iox_model.specs.Peers.{is_connected_port, node_of_port, buffer_on, borrow_limit_on}
use Rattle.iox_model.specs.States.{Handle, Fixed, State}
use Rattle.iox_model.specs.WholeCalls.{moved_by, left_by}
use Rattle.iox_laws.proofs.WeaveLaws.WholeLemmas.{moved_by-fixed}
use Rattle.iox_laws.proofs.WeaveLedger.Truths.{by_cases}
use Rattle.iox_laws.proofs.WeaveLedger.Orders.{le-from, le-is}
use Rattle.iox_laws.specs.WeaveLedger.QueueLaws.{evicts_next}
use Rattle.iox_laws.proofs.WeaveWorlds.Continues.{grows}
use Rattle.iox_laws.proofs.WeaveWorlds.Waiting.{by_cases_of}
use Rattle.iox_laws.specs.RunLaws.Moving.{QueuesStayWithin}
use Rattle.iox_laws.specs.RunLaws.Resting.{QueuesRestWithin, QueuesOfTheGoneRestWithin, BorrowsRestWithin}
use Rattle.iox_laws.proofs.RunLaws.Calls.{Goes, goes_by, begins}
use Rattle.iox_laws.proofs.RunLaws.Ports.{any_at}
use Rattle.iox_laws.proofs.RunLaws.Parting.{there_within}
use Rattle.iox_laws.proofs.RunLaws.Settling.{Calm}
use Rattle.iox_laws.proofs.RunLaws.Runs.{left_calm}

pub queues_rest_within : QueuesRestWithin
queues_rest_within s v left connected =
    le-from (length (s.waiting v)) (buffer_on s.fixed v) (((left_calm s left).rests).within (node_of_port s.fixed v.sender) v (connected, refl))

pub queues_of_the_gone_rest_within : QueuesOfTheGoneRestWithin
queues_of_the_gone_rest_within s v left =
    let c : Calm s = left_calm s left in
    by_cases (any_at v.sender s.fixed.ports) (there_within s v c.rests c.owned) ((c.owned).gone v)

-- in the midst of a call
queue_stays : (s t : State) (node : ℕ) (d : Doing) (v : Way) → t.fixed ≡ s.fixed → Goes t node d → is_connected_port s.fixed v.sender ≡ true
    → nat_le (length (t.waiting v)) (buffer_on s.fixed v + (if evicts_next v d then 1 else 0)) ≡ true
queue_stays s t node d v same g connected =
    let there : is_connected_port t.fixed v.sender ≡ true = ap (λ (f : Fixed). is_connected_port f v.sender) same ∙ connected in
    subst (λ (f : Fixed). nat_le (length (t.waiting v)) (buffer_on f v + (if evicts_next v d then 1 else 0)) ≡ true) same
    (by_cases (node_of_port t.fixed v.sender == node)
    (λ mine. subst (λ b. nat_le (length (t.waiting v)) (buffer_on t.fixed v + (if b then 1 else 0)) ≡ true) (sym (by_cases_of v (Some d)))
    ((g.call).0 v (there, eqb-true (node_of_port t.fixed v.sender) node mine)))
    (λ other. grows (length (t.waiting v)) (buffer_on t.fixed v) (evicts_next v d) (g.others (node_of_port t.fixed v.sender) other v (there, refl))))

pub queues_stay_within : QueuesStayWithin
queues_stay_within s node call c ms v left named may connected =
    let d : Doing = start s node c call in
    le-is (length ((moved_by s ms).waiting v)) (buffer_on s.fixed v + (if evicts_next v (left_by s node d ms) then 1 else 0))
    (queue_stays s (moved_by s ms) node (left_by s node d ms) v (moved_by-fixed s ms)
    (goes_by s node d ms (begins s node c call (left_calm s left) named) may) connected)

pub borrows_rest_within : BorrowsRestWithin
borrows_rest_within s v left =
    subst (λ n. n ≤ borrow_limit_on s.fixed v)
    (sym (length-map (filter (has_received v) (s.fixed.handles (node_of_port s.fixed v.receiver))) (λ (h : Handle). h.message.serial)))
    (((left_calm s left).owned).has.few v)
