-- A pool that was not reduced suffices: each loan within size and counts finds a message.
use Rattle.std.specs.Prelude.{◌≡◌, ℕ, ◌<◌, ◌≤◌, Bool, true, false, if◌then◌else◌, List, [], length, Some, None, IsTrue}
use Rattle.std.specs.Option.{option_map_or}
use Rattle.iox_model.specs.UniqueSystemId.{UniqueSystemId}
use Rattle.iox_model.specs.declared.kind.Role.{Role}
use Rattle.iox_model.specs.declared.way.Way.{Way}
use Rattle.iox_model.specs.declared.reply.Refusal.TheVariants.{OutOfMemory}
use Rattle.iox_model.specs.declared.reply.Reply.TheVariants.{Refused}
use Rattle.iox_model.specs.Settings.{is_client, Limits}
use Rattle.iox_model.specs.States.{Port, Handle, Fixed}
use Rattle.iox_model.specs.Maps.{has_number, has_way}
use Rattle.iox_model.specs.Handles.{subject, Subject, ThePort, TheHandle}
use Rattle.iox_model.specs.Loans.{Choice}
use Rattle.iox_model.specs.Commands.{Call, Options, number_of}
use Rattle.iox_model.specs.declared.call.WireCall.TheVariants as wire_calls
use Rattle.iox_model.specs.Doings.{refused, Loans, Ended, Loaning}
use Rattle.iox_model.specs.Responses.{sends, loaned}
use Rattle.iox_model.specs.Peers.{port_at, node_of_port}
use Rattle.iox_model.specs.Joins.{not_living}
use Rattle.iox_model.specs.Makings.{pool_of_client, pool_of_server, new_port}
use Rattle.iox_model.specs.Weaves.{IsBeat, World, Begins, Ends}
use Rattle.iox_model.specs.Keeping.{under_way, kept_in}
use Rattle.iox_laws.specs.WeaveWorlds.Worlds.{IsReachable}

-- ---- what a port needs

-- the most messages that the port ever needs at once, by the limits of its service
abbrev pub needed_by : Limits → Port → ℕ
needed_by l p = if is_client p.role then pool_of_client l else pool_of_server l p.loaned_responses

-- the port's pool was not reduced: it has all that the port may need
abbrev pub IsUnreduced : Fixed → Port → Type 0
IsUnreduced f p = needed_by f.limits p ≤ p.pool

-- A port's pool was not reduced if its maker chose none, or one that is no smaller than what the
-- port needs.
abbrev pub MakesUnreduced : Type 0
MakesUnreduced =
    (f : Fixed) (node : ℕ) (role : Role) (id : UniqueSystemId) (o : Options)
    → ((n : ℕ) → o.pool ≡ Some n → needed_by f.limits (new_port f node role id o) ≤ n)
    → IsUnreduced f (new_port f node role id o)

-- ---- a loan

-- A living node's loan got back all there is: on the ways that it has yet to visit, nothing is left
-- to get back. Its pool decides next.
abbrev pub HasAllBack : World → ℕ → Bool → Handle → Type 0
HasAllBack v node copies h =
    (not_living v.state node ≡ None)
    × (left : List Way) × (v.doing node ≡ Some (Loaning copies h left))
    × ((y : Way) → IsTrue (has_way y left) → v.state.returned y ≡ [])

-- Where a loan got back all there is and its pool was not reduced, its port keeps fewer messages
-- than the pool has.
abbrev pub KeepsLess : Type 0
KeepsLess =
    (v : World) (node : ℕ) (copies : Bool) (h : Handle) (p : Port)
    → IsReachable v → HasAllBack v node copies h
    → port_at v.state.fixed h.port ≡ Some p → IsUnreduced v.state.fixed p
    → length (kept_in v h.port) < p.pool

-- Where a loan got back all there is and its pool was not reduced, it finds a message. If it
-- copies, its send follows.
abbrev pub LoanSucceeds : Type 0
LoanSucceeds =
    (v : World) (node : ℕ) (copies : Bool) (h : Handle) (p : Port)
    → IsReachable v → HasAllBack v node copies h
    → port_at v.state.fixed h.port ≡ Some p → IsUnreduced v.state.fixed p
    → loaned v.state copies h ≡ (if copies then sends v.state.fixed h true else Ended (Loans h))

-- whose message a call with this subject lends: the port that it names, or the server of a request
abbrev pub lender : Subject → ℕ
lender (ThePort p) = p.number
lender (TheHandle h) = h.port

-- Where there is nobody to get back from, the pool decides as the call begins. One that was not
-- reduced does not refuse.
abbrev pub BeginsSucceed : Type 0
BeginsSucceed =
    (v u : World) (node : ℕ) (call : Call) (c : Choice) (x : Subject) (p : Port)
    → IsReachable v → IsBeat v (Begins node (wire_calls.Port call) c) u
    → subject v.state.fixed node (number_of call) ≡ Some x
    → port_at v.state.fixed (lender x) ≡ Some p → IsUnreduced v.state.fixed p
    → u.doing node ≡ Some (refused OutOfMemory) → ⊥

-- Where no pool of a node's ports was reduced, no call of the node is answered by `OutOfMemory`.
abbrev pub NeverOutOfMemory : Type 0
NeverOutOfMemory =
    (v u : World) (node : ℕ) (payload : List ℕ) → IsReachable v
    → ((p : Port) → port_at v.state.fixed p.number ≡ Some p → p.node ≡ node
    → IsUnreduced v.state.fixed p)
    → IsBeat v (Ends node (Refused OutOfMemory) payload) u → ⊥

-- ---- at all times

-- No port keeps more messages than its pool has, even where that was reduced.
abbrev pub PoolsHold : Type 0
PoolsHold =
    (v : World) (port : ℕ) (p : Port) → IsReachable v → port_at v.state.fixed port ≡ Some p
    → length (kept_in v port) ≤ p.pool

-- The message that a port's next loan takes is none that it keeps, unless a call has just taken it.
abbrev pub NextIsFresh : Type 0
NextIsFresh =
    (v : World) (port : ℕ) (p : Port) → IsReachable v → port_at v.state.fixed port ≡ Some p
    → option_map_or (under_way port) (v.doing (node_of_port v.state.fixed port)) [] ≡ []
    → has_number (v.state.fixed.loans port) (kept_in v port) ≡ false
