-- A node between calls is what its seat is.
use Rattle.std.proofs.Common.{◌≡◌, ℕ, ◌<◌, ◌+◌, List, length, get_or, None, true, false, refl, ap, ap₂, sym, subst, ◌∙◌, true≢false}
use Rattle.std.specs.Prelude.{Option, IsSomeAnd}
use Rattle.std.specs.Option.{option_map_or}
use Rattle.std.proofs.lemmas.Option.{slice_get-get_or}
use Rattle.iox_model.specs.declared.call.Call.TheVariants as calls
use Rattle.iox_model.specs.declared.call.WireCall.TheVariants.{Port}
use Rattle.iox_model.specs.declared.kind.Role.{Role}
use Rattle.iox_model.specs.declared.kind.Role.TheVariants.{Client, Server}
use Rattle.iox_model.specs.Commands.{WireCall}
use Rattle.iox_model.specs.Names.{suits}
use Rattle.iox_wire_begins.specs.PlanPort.{PlanPort}
use Rattle.iox_wire_begins.specs.WirePlan.{WirePlan}
use Rattle.iox_wire_begins.specs.Plans.{IsPlan, IsPortAt, number_at, port_of, role_of}
use Rattle.iox_wire_begins.proofs.PlanLemmas.{port_is}
use Rattle.iox_wire_begins.specs.Local.{Local}
use Rattle.iox_wire_begins.specs.Local.TheVariants.{Idle}
use Rattle.iox_wire_begins.specs.Seat.{Seat}
use Rattle.iox_wire_begins.specs.HandleCalls as handles
use Rattle.iox_wire_begins.specs.Begins.{begin, is_busy, refusal_at}
use Rattle.iox_wire_begins.specs.Courses.{placed}
use Rattle.iox_wire_begins.specs.Lendings.{next_handle}
use Rattle.iox_wire_begins.specs.Tables.{Setting}
use Rattle.iox_wire_begins.specs.ReceivesAims as receives
use Rattle.iox_wire_begins.specs.Receipts.{Receipt}
use Rattle.iox_wire_begins.specs.Seats.{Placed}
use Rattle.iox_wire_begins.specs.Aims.{HasSameRooms}
use Rattle.iox_wire_nodes.specs.Begins.{IsBegun, BeginKeepsHandles}
use Rattle.iox_wire_begins.proofs.BeginCounts.{begins_alike}
use Rattle.iox_wire_begins.specs.Entry.{Entry}
use Rattle.iox_wire_nodes.specs.declared.call_at.CallAt.{CallAt}
use Rattle.iox_wire_nodes.specs.declared.call_at.CallAt.TheVariants as at
use Rattle.iox_wire_nodes.specs.Nodes.{NodeView, RestsUnless, same_call, seat_at, seat_in}

pub idle_is : (l : Local) → is_busy l ≡ false → l ≡ Idle
idle_is Idle rests = refl
idle_is _ rests = absurd (true≢false rests)

at_its_place : (x : Seat) (l : Local) → is_busy x.local ≡ false → is_busy l ≡ false → placed x l ≡ x
at_its_place x l own rests = ap (placed x) (idle_is l rests ∙ sym (idle_is x.local own))

pub seat_rests : (n : NodeView) (a : CallAt) → RestsUnless (same_call at.Seats a) n.seat.seat.local → is_busy (seat_at a n).local ≡ false → seat_at a n ≡ n.seat.seat
seat_rests n at.Seats own rests = refl
seat_rests n at.Receives own rests = at_its_place n.seat.seat n.receives.local own rests
seat_rests n at.Lends own rests = at_its_place n.seat.seat n.lends.local own rests
seat_rests n at.SendsRequest own rests = at_its_place n.seat.seat n.requests.local own rests
seat_rests n at.SendsResponse own rests = at_its_place n.seat.seat n.responds.local own rests
seat_rests n at.CopiesRequest own rests = at_its_place n.seat.seat n.copies_request.local own rests
seat_rests n at.CopiesResponse own rests = at_its_place n.seat.seat n.copies_response.local own rests

-- so it is of a node as its own code has it
pub own_rests : {n old : NodeView} → n ≡ old → RestsUnless (same_call at.Seats n.at) n.seat.seat.local → is_busy (seat_in old).local ≡ false
    → n.seat.seat ≡ seat_in old
own_rests {n} same own rests =
    sym (seat_rests n n.at own (ap (λ (o : NodeView). is_busy (seat_in o).local) same ∙ rests)) ∙ ap seat_in same

-- what begins in the seat begins so
pub begun_in : (p : Setting) (call : WireCall) {n old : NodeView} (y : Placed) → n ≡ old → RestsUnless (same_call at.Seats n.at) n.seat.seat.local
    → is_busy (seat_in old).local ≡ false → handles.IsBegun p n.seat call y → y.seat.accesses ≡ n.seat.seat.accesses → y.room ≡ n.seat.room → HasSameRooms n.seat y
    → IsBegun p old call (record n { at = at.Seats; seat = y })
begun_in p call {n} y same own rests by accesses room rooms =
    let alike : seat_in n ≡ n.seat.seat = seat_rests n n.at own (ap (λ (o : NodeView). is_busy (seat_in o).local) same ∙ rests) in
    subst (λ (o : NodeView). IsBegun p o call (record n { at = at.Seats; seat = y })) same (record {
      allowed = ap (λ (x : Seat). refusal_at p x call) alike ∙ by.allowed;
      begun = by.begun ∙ ap (λ (x : Seat). begin p x call) (sym alike);
      aimed = by.aimed;
      ready = record {
        accesses = accesses;
        room = record { handles = ap₂ (λ (k : ℕ) (es : List Entry). k + length es) room (ap (λ (x : Seat). x.table) by.begun ∙ (begins_alike p n.seat.seat call).table); rooms = rooms };
        may = λ lends. tt;
      };
    })

-- so it does where the call is told by the node's own data
pub told_in : (p : Setting) (call : Seat → WireCall) {n old : NodeView} (y : Placed) → n ≡ old → RestsUnless (same_call at.Seats n.at) n.seat.seat.local
    → is_busy (seat_in old).local ≡ false → handles.IsBegun p n.seat (call n.seat.seat) y → y.seat.accesses ≡ n.seat.seat.accesses → y.room ≡ n.seat.room → HasSameRooms n.seat y
    → IsBegun p old (call (seat_in old)) (record n { at = at.Seats; seat = y })
told_in p call {n} {old} y same own rests by accesses room rooms =
    subst (λ (x : Seat). IsBegun p old (call x) (record n { at = at.Seats; seat = y })) (own_rests same own rests)
    (begun_in p (call n.seat.seat) y same own rests by accesses room rooms)

-- ---- what it may add

-- what begins beside the seat finds it as it was
pub ready_to_receive : (p : Setting) (n : NodeView) (y : Receipt) → y.terms.number ≡ next_handle p n.seat.seat → receives.MayTakeOneMore n.seat.seat y.local
    → BeginKeepsHandles p n (record n { at = at.Receives; receives = y })
ready_to_receive p n y number counts = record {
  accesses = refl;
  room = record { handles = refl; rooms = record { ways = refl; words = refl } };
  may = λ lends. (
    subst (λ (k : ℕ). receives.MayReceive n.seat k) (sym number)
        (record { room = (lends 0).room; newer = (lends 0).newer; handles = (lends 0).handles }),
    counts,
  );
}

-- ---- a receive of a port

-- a port that has receives is a server
pub is_server : (plan : WirePlan) → IsPlan plan → (i n : ℕ) (d : PlanPort) → i < length plan.ports.items → number_at plan i ≡ n
    → suits true (calls.Receive n) (handles.port_kind (role_of plan n)) ≡ true → IsPortAt plan Server i
is_server plan is i n d low number has =
    subst (λ (o : Option PlanPort). IsSomeAnd o (λ q. q.role ≡ Server)) (sym (slice_get-get_or plan.ports.items i d low))
    (server (get_or plan.ports.items i d).role
    (ap (λ (o : Option PlanPort). suits true (calls.Receive n) (handles.port_kind (option_map_or (λ q. q.role) o Client)))
    (sym (port_is plan is.numbers i d low) ∙ ap (port_of plan) number) ∙ has))
  where
    server : (r : Role) → suits true (calls.Receive n) (handles.port_kind r) ≡ true → r ≡ Server
    server Client e = absurd (true≢false (sym e))
    server Server e = refl

-- so is one that looks for requests
pub looks_at_server : (plan : WirePlan) → IsPlan plan → (i n : ℕ) (d : PlanPort) → i < length plan.ports.items → number_at plan i ≡ n
    → suits true (calls.HasRequests n) (handles.port_kind (role_of plan n)) ≡ true → IsPortAt plan Server i
looks_at_server plan is i n d low number has =
    subst (λ (o : Option PlanPort). IsSomeAnd o (λ q. q.role ≡ Server)) (sym (slice_get-get_or plan.ports.items i d low))
    (server (get_or plan.ports.items i d).role
    (ap (λ (o : Option PlanPort). suits true (calls.HasRequests n) (handles.port_kind (option_map_or (λ q. q.role) o Client)))
    (sym (port_is plan is.numbers i d low) ∙ ap (port_of plan) number) ∙ has))
  where
    server : (r : Role) → suits true (calls.HasRequests n) (handles.port_kind r) ≡ true → r ≡ Server
    server Client e = absurd (true≢false (sym e))
    server Server e = refl

-- what begins at a port, beside the seat
pub received_at : (p : Setting) (n : ℕ) {m old : NodeView} (y : Receipt) → m ≡ old → RestsUnless (same_call at.Seats m.at) m.seat.seat.local
    → is_busy (seat_in old).local ≡ false
    → refusal_at p m.seat.seat (Port (calls.Receive n)) ≡ None → placed m.seat.seat y.local ≡ begin p m.seat.seat (Port (calls.Receive n))
    → receives.IsAimed p m.seat.seat y → y.terms.number ≡ next_handle p m.seat.seat → receives.MayTakeOneMore m.seat.seat y.local
    → IsBegun p old (Port (calls.Receive n)) (record m { at = at.Receives; receives = y })
received_at p n {m} y same own rests allowed begun aimed number counts =
    let alike : seat_in m ≡ m.seat.seat = seat_rests m m.at own (ap (λ (o : NodeView). is_busy (seat_in o).local) same ∙ rests) in
    subst (λ (o : NodeView). IsBegun p o (Port (calls.Receive n)) (record m { at = at.Receives; receives = y })) same (record {
      allowed = ap (λ (x : Seat). refusal_at p x (Port (calls.Receive n))) alike ∙ allowed;
      begun = begun ∙ ap (λ (x : Seat). begin p x (Port (calls.Receive n))) (sym alike);
      aimed = aimed;
      ready = ready_to_receive p m y number counts;
    })

-- the number of its next handle
pub next_alike : (p : Setting) {m old : NodeView} → m ≡ old → RestsUnless (same_call at.Seats m.at) m.seat.seat.local → is_busy (seat_in old).local ≡ false
    → next_handle p (seat_in old) ≡ next_handle p m.seat.seat
next_alike p {m} same own rests =
    sym (ap (λ (o : NodeView). next_handle p (seat_in o)) same)
    ∙ ap (next_handle p) (seat_rests m m.at own (ap (λ (o : NodeView). is_busy (seat_in o).local) same ∙ rests))

-- and why a call is refused
pub refusal_alike : (p : Setting) (call : WireCall) {m old : NodeView} → m ≡ old → RestsUnless (same_call at.Seats m.at) m.seat.seat.local
    → is_busy (seat_in old).local ≡ false → refusal_at p (seat_in old) call ≡ refusal_at p m.seat.seat call
refusal_alike p call {m} same own rests =
    sym (ap (λ (o : NodeView). refusal_at p (seat_in o) call) same)
    ∙ ap (λ (x : Seat). refusal_at p x call) (seat_rests m m.at own (ap (λ (o : NodeView). is_busy (seat_in o).local) same ∙ rests))

-- its own part, as the code has it
pub own_alike : {m old : NodeView} → m ≡ old → RestsUnless (same_call at.Seats m.at) m.seat.seat.local → is_busy (seat_in old).local ≡ false
    → seat_in old ≡ m.seat.seat
own_alike {m} same own rests =
    sym (ap seat_in same) ∙ seat_rests m m.at own (ap (λ (o : NodeView). is_busy (seat_in o).local) same ∙ rests)
