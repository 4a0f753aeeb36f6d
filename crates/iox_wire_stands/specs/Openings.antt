-- A wire as it opens: all words are 0, and no node has anything yet.
use Rattle.std.specs.Prelude.{◌^◌, ◌≤◌, ◌≡◌, ℕ, ◌<◌, ◌==◌, if◌then◌else◌, true, List, [], filter, flat_map, map, replicate, None}
use Rattle.std.specs.List.{range_with_len}
use Rattle.iox_model.specs.declared.kind.Role.{Role}
use Rattle.iox_model.specs.declared.way.Way.{Way}
use Rattle.iox_model.specs.Peers.{ways_from}
use Rattle.iox_model.specs.Runs.{IsReachableState}
use Rattle.iox_model.specs.Settings.{is_client}
use Rattle.iox_model.specs.States.{State}
use Rattle.iox_model.specs.WireCalls.{opened, wire_refusal}
use Rattle.iox_model.specs.Weaves.{at_work}
use Rattle.iox_word_map.specs.WordMaps.{total_words}
use Rattle.iox_word_places.specs.declared.plan.WirePlan.{WirePlan}
use Rattle.iox_word_places.specs.Plans.{IsPlan, layout_of, planned_buffer, planned_overflow}
use Rattle.iox_wire_locals.specs.declared.local.Local.TheVariants.{Idle}
use Rattle.iox_wire_locals.specs.declared.seat.Seat.{Seat}
use Rattle.iox_wire_locals.specs.declared.table.Desk.{Desk}
use Rattle.iox_wire_locals.specs.Known.{known}
use Rattle.iox_wire_locals.specs.Tables.{Setting}
use Rattle.iox_wire_locals.specs.WorkedWires.{fresh_desk}
use Rattle.iox_wire_layouts.specs.PlansOf.{IsPlanOf}
use Rattle.iox_wire_stands.specs.Runs.{Run}
use Rattle.iox_wire_stands.specs.Stands.{Stands}

-- ---- a node as a wire opens

-- a node with nothing
abbrev pub bare_seat : ℕ → Seat
bare_seat n = record {
  node = n;
  accesses = 0;
  handles_made = 0;
  table = [];
  desks = [];
  borrowed = [];
  forgot = [];
  local = Idle;
}

-- the ports of the node
abbrev pub ports_on : Setting → ℕ → List ℕ
ports_on p n = filter (λ port. p.layout.owner port == n) p.layout.sizes.ports

-- the ways on which a port sends
abbrev pub ways_on : Setting → ℕ → List Way
ways_on p port = ways_from (known p (bare_seat 0)) port

-- the ways that come to the node's ports
abbrev pub ways_into : Setting → ℕ → List Way
ways_into p n =
    filter (λ y. p.layout.owner y.receiver == n) (flat_map (ways_on p) p.layout.sizes.ports)

-- all lanes of a client
abbrev pub lanes_on : Setting → ℕ → List ℕ
lanes_on p port =
    if is_client (p.port port).role then range_with_len 0 (p.port port).pool else []

-- the desk of a port that lent nothing: all its slots and lanes are free
abbrev pub opened_desk : Setting → ℕ → Desk
opened_desk p port = fresh_desk port (p.port port).pool (lanes_on p port) (ways_on p port)

-- the node, with a desk for each of its ports and a count for each way that comes to them
abbrev pub opened_seat : Setting → ℕ → Seat
opened_seat p n = record (bare_seat n) {
  desks = map (opened_desk p) (ports_on p n);
  borrowed = map (λ y. record { way = y; count = 0 }) (ways_into p n);
}

-- ---- the wire

-- a queue of the plan that overflows has room for at least one message
abbrev pub OverflowsWithRoom : WirePlan → Type 0
OverflowsWithRoom plan =
    (role : Role) → planned_overflow plan.limits role ≡ true → 0 < planned_buffer plan.limits role

-- The setting has the ports and limits of a service, and no port has a handler.
pub record AgreesWith (plan : WirePlan) (p : Setting) (s : State) : Type 0 where
  pub layout : p.layout ≡ layout_of plan
  pub plan_of : IsPlanOf plan s.fixed
  pub limits : s.fixed.limits ≡ p.limits
  pub ports : s.fixed.ports ≡ map p.port p.layout.sizes.ports
  pub unhandled : (port : ℕ) → (p.port port).handler ≡ None
  pub next_number : s.fixed.next_number ≡ p.next_number

-- A wire that opens on a state that a service reached: its words are all 0, each node has nothing,
-- and no beat was made. They stand for that run, with serials in the slots that are of no loan.
abbrev pub AWireOpens : Type 0
AWireOpens =
    (plan : WirePlan) (p : Setting) (s : State) → IsPlan plan → OverflowsWithRoom plan
    → AgreesWith plan p s → IsReachableState s → wire_refusal s 0 true ≡ None
    → (r : Run) × (r.first ≡ at_work (opened s)) × (r.beats ≡ []) × (r.last ≡ at_work (opened s))
    × (stands : Stands p (replicate (total_words p.layout.sizes) 0)
    (λ n. record { seat = opened_seat p n; said = [] }) r)
    × ((port slot : ℕ) → 2 ^ 64 ≤ (stands.held port slot).serial)
