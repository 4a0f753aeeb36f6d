-- A living node at rest, with room for a handle, may have one more and lend by each of its ports.
use Rattle.std.specs.Prelude.{option_map}
use Rattle.std.proofs.Common.{◌≡◌, ℕ, ◌<◌, ◌≤◌, false, Some, None, ap, sym, subst, ◌∙◌, arith, true≢false}
use Rattle.iox_model.specs.Joins.{not_living}
use Rattle.iox_steps.specs.Sites.{last_position}
use Rattle.iox_wire_weaves.specs.Begins.{is_busy}
use Rattle.iox_wire_weaves.specs.CallAt.{CallAt}
use Rattle.iox_wire_weaves.specs.CallAt.TheVariants as at
use Rattle.iox_wire_weaves.specs.Counts.{IsTidy, MayCountMore}
use Rattle.iox_wire_weaves.specs.Following.{LeavesNothing, message_at}
use Rattle.iox_wire_weaves.specs.Lendings.{next_handle}
use Rattle.iox_wire_weaves.specs.Lends.{MayLend}
use Rattle.iox_wire_weaves.specs.Local.{Local}
use Rattle.iox_wire_weaves.specs.Local.TheVariants.{Idle}
use Rattle.iox_wire_weaves.specs.Nodes.{NodeView, seat_at, seat_in}
use Rattle.iox_wire_weaves.specs.Runs.{Run}
use Rattle.iox_wire_weaves.specs.Seat.{Seat}
use Rattle.iox_wire_weaves.specs.Steps.{most_accesses}
use Rattle.iox_wire_weaves.specs.Tables.{Setting}
use Rattle.iox_wire_weaves.specs.Wires.{Shows, WireData, WireNode, living_refusal, node_at, players_of, refusal_in, seat_of}
use Rattle.iox_wire_weaves.proofs.Counts.{nodes_may_count_more}
use Rattle.iox_wire_weaves.proofs.Lookups.{seat_there}
use Rattle.iox_wire.specs.Kept.{IsKept}

leaves_idle : (local : Local) → is_busy local ≡ false → LeavesNothing (message_at local)
leaves_idle Idle rests = tt
leaves_idle local rests = absurd (true≢false rests)

-- whatever its last call was
lends_by : (p : Setting) (n : NodeView) (call : CallAt) → MayCountMore p (seat_at call n) → 0 < n.seat.room → (port : ℕ) → MayLend n.seat (next_handle p n.seat.seat) port
lends_by p n at.Seats more room port = record { room = room; newer = more.newer; handles = more.handles; loans = more.loans port }
lends_by p n at.Receives more room port = record { room = room; newer = more.newer; handles = more.handles; loans = more.loans port }
lends_by p n at.Lends more room port = record { room = room; newer = more.newer; handles = more.handles; loans = more.loans port }
lends_by p n at.SendsRequest more room port = record { room = room; newer = more.newer; handles = more.handles; loans = more.loans port }
lends_by p n at.SendsResponse more room port = record { room = room; newer = more.newer; handles = more.handles; loans = more.loans port }
lends_by p n at.CopiesRequest more room port = record { room = room; newer = more.newer; handles = more.handles; loans = more.loans port }
lends_by p n at.CopiesResponse more room port = record { room = room; newer = more.newer; handles = more.handles; loans = more.loans port }

module _ (p : Setting) (w : WireData) (r : Run) (n : ℕ) (d : WireNode) (shows : Shows p w r) (there : node_at n w.nodes ≡ Some d) (alive : living_refusal w.nodes n ≡ None)
    (kept : IsKept d.node) (rests : is_busy (seat_in d.node).local ≡ false) where
  here : seat_of p w.nodes n ≡ seat_in d.node
  here = seat_there p w.nodes n d there

  lives : not_living r.last.state n ≡ None
  lives = shows.living n ∙ ap (option_map refusal_in) alive

  few : (seat_of p w.nodes n).accesses < last_position
  few = low (seat_of p w.nodes n).accesses (seat_in d.node).accesses (ap (λ (s : Seat). s.accesses) here) kept.few
    where
      low : (a b : ℕ) → a ≡ b → b ≤ most_accesses → a < last_position
      low a b is less = omega (arith, is, less)

  pub counts_more : MayCountMore p (seat_in d.node)
  counts_more =
      subst (MayCountMore p) here
      (nodes_may_count_more p w.words (players_of p w.nodes r) r n shows.stands lives
      (subst (λ (s : Seat). LeavesNothing (message_at s.local)) (sym here) (leaves_idle (seat_in d.node).local rests))
      (subst IsTidy (sym here) kept.tidy) few)

  pub may_lend : 0 < d.node.seat.room → (port : ℕ) → MayLend d.node.seat (next_handle p d.node.seat.seat) port
  may_lend room port = lends_by p d.node d.node.at counts_more room port
