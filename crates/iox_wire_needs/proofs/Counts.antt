-- A living node may count more.
use Rattle.std.specs.Prelude.{◌^◌}
use Rattle.std.specs.Option.{option_map_or}
use Rattle.std.proofs.Common.{◌≡◌, ℕ, ◌<◌, ◌≤◌, ◌+◌, ◌-◌, List, None, ap, sym, subst, ◌∙◌, arith}
use Rattle.iox_model.specs.Joins.{not_living}
use Rattle.iox_laws.proofs.WeaveBeats.LiveWays.{Here, here}
use Rattle.iox_laws.proofs.WeaveLedger.Lists.{IsAmong, among-map}
use Rattle.iox_laws.proofs.WeaveLedger.Views.{view}
use Rattle.iox_steps.specs.Sites.{last_position}
use Rattle.iox_wire_keeps.specs.Seat.{Seat}
use Rattle.iox_wire_keeps.specs.Borrowed.{Borrowed}
use Rattle.iox_wire_keeps.specs.Desk.{Desk}
use Rattle.iox_wire_keeps.specs.Entry.{Entry}
use Rattle.iox_wire_keeps.specs.Lendings.{next_handle}
use Rattle.iox_wire_keeps.specs.Tables.{Setting, handle_of}
use Rattle.iox_wire_keeps.specs.Rows.{AreBelow}
use Rattle.iox_wire_keeps.specs.Following.{LeavesNothing, message_at}
use Rattle.iox_wire_keeps.specs.Runs.{Run}
use Rattle.iox_wire_keeps.specs.Stands.{Player, seats_of}
use Rattle.iox_wire_keeps.proofs.StepsKept.{shown_same}
use Rattle.iox_wire_keeps.specs.WireStands.{WireStands}
use Rattle.iox_wire_needs.specs.Counts.{IsTidy, MayCountMore, NodesMayCountMore}
use Rattle.iox_wire_needs.proofs.AtDesks.{are_below, at_desk, is_below, may_count}

module _ (p : Setting) (words : List ℕ) (players : ℕ → Player) (r : Run) (n : ℕ) (wire : WireStands p words players r) (living : not_living r.last.state n ≡ None) where
  abbrev x : Seat
  x = seats_of p players n

  -- each entry has a number below the node's next one
  below : (e : Entry) → IsAmong e (seats_of p players n).table → e.number < next_handle p (seats_of p players n)
  below e among = subst (λ k. e.number < k) (sym next_is) ((hs.holding.fits.handles n).below (handle_of wire.stands.held n e) there)
    where
      hs : Here r.last
      hs = here r.last wire.stands.shows.reachable

      there : IsAmong (handle_of wire.stands.held n e) (r.last.state.fixed.handles n)
      there =
          subst (λ i. IsAmong (handle_of wire.stands.held i e) (r.last.state.fixed.handles i)) (wire.stands.shows.node n)
          (subst (IsAmong (handle_of wire.stands.held x.node e)) (sym (wire.stands.shows.counts n living).knows.handles)
          (among-map (handle_of wire.stands.held x.node) e x.table among))

      next_is : next_handle p (seats_of p players n) ≡ (view r.last.state.fixed n).next
      next_is =
          let has = wire.stands.shows.counts n living in
          ap (λ k. k + x.handles_made) (sym has.next_number) ∙ ap (λ k. r.last.state.fixed.next_number + k) (sym has.handles_made)
          ∙ ap (λ i. r.last.state.fixed.next_number + r.last.state.fixed.handles_made i) (wire.stands.shows.node n)

  newer : AreBelow (next_handle p (seats_of p players n)) (seats_of p players n).table
  newer = are_below (next_handle p (seats_of p players n)) (seats_of p players n).table below

  module _ (leaves : LeavesNothing (message_at (players n).seat.local)) (tidy : IsTidy (players n).seat) (few : (players n).seat.accesses < last_position) where
    one_more : (a b : ℕ) → a ≤ b → b < 2 ^ 64 - 1 → a + 1 < 2 ^ 64
    one_more a b less few = omega (arith, less, few)

    within : (a b : ℕ) → a ≤ b → b < 2 ^ 64 - 1 → a < 2 ^ 64 - 1
    within a b less few = omega (arith, less, few)

    pub may : MayCountMore p (players n).seat
    may = record {
      newer = subst (λ (q : Seat). AreBelow (next_handle p q) q.table) (shown_same p (players n).seat (players n).seat.local leaves) newer;
      handles = one_more (players n).seat.handles_made (players n).seat.accesses (wire.bounds.handles n) few;
      loans = λ port. may_count port (players n).seat.desks
          (at_desk (λ d. d.loans + 1 < 2 ^ 64) port (players n).seat.desks tidy.desks (λ d found. one_more d.loans (players n).seat.accesses
          (subst (λ o. option_map_or (λ (d : Desk). d.loans) o 0 ≤ (players n).seat.accesses) found (wire.bounds.loans n port)) few));
      borrowed = λ w. is_below (2 ^ 64 - 1) w (players n).seat.borrowed tidy.counts (λ b found. within b.count (players n).seat.accesses
          (subst (λ o. option_map_or (λ (b : Borrowed). b.count) o 0 ≤ (players n).seat.accesses) found (wire.bounds.borrowed n w)) few);
    }

pub nodes_may_count_more : NodesMayCountMore
nodes_may_count_more p words players r n wire living leaves tidy few = may p words players r n wire living leaves tidy few
