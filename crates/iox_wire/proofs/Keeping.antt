-- What a node keeps to it keeps to after a step, and as it begins a call.
use Rattle.std.specs.Prelude.{◌^◌, option_map}
use Rattle.std.specs.Option.{option_map_or}
use Rattle.std.proofs.Common.{◌≡◌, ℕ, ◌<◌, ◌≤◌, ◌+◌, ◌==◌, Bool, true, false, List, [], ◌∷◌, length, map, Option, Some, None, refl, ap, sym, subst, ◌∙◌, arith, eqb-true, true≢false, inl, inr}
use Rattle.std.proofs.lemmas.Bool.{cases_Bool}
use Rattle.iox_model.specs.Commands.{WireCall}
use Rattle.iox_laws.proofs.WeaveLedger.Truths.{none-some}
use Rattle.iox_wire_weaves.specs.Aims.{MayAdd}
use Rattle.iox_wire_weaves.specs.Begins.{begin, is_busy}
use Rattle.iox_wire_weaves.specs.Copying.{CopyGoesOn}
use Rattle.iox_wire_weaves.specs.Counts.{IsTidy}
use Rattle.iox_wire_weaves.specs.Desk.{Desk}
use Rattle.iox_wire_weaves.specs.Ending.{Ending}
use Rattle.iox_wire_weaves.specs.Laws.{Replaces, WentOn}
use Rattle.iox_wire_weaves.specs.LocalsSteps.{accessed, advance, closed, ending_at, next, tells}
use Rattle.iox_wire_weaves.specs.NodeReply.{NodeReply}
use Rattle.iox_wire_weaves.specs.Nodes.{NodeView, seat_in}
use Rattle.iox_wire_weaves.specs.ReadWords.{TellsNoWords}
use Rattle.iox_wire_weaves.specs.Seat.{Seat}
use Rattle.iox_wire_weaves.specs.Settlements.{reply_of}
use Rattle.iox_wire_weaves.specs.Steps.{most_accesses}
use Rattle.iox_wire_weaves.specs.Tables.{Setting}
use Rattle.iox_wire_weaves.specs.Uses.{HaveFewWays}
use Rattle.iox_wire_weaves.specs.Wires.{WireNode, node_at}
use Rattle.iox_wire_weaves.proofs.AccessesMade as made
use Rattle.iox_wire_weaves.proofs.Copying.{begun_copies_go_on, stepped_copies_go_on}
use Rattle.iox_wire_weaves.proofs.PortsKept.{begins_keep_ports, steps_keep_ports}
use Rattle.iox_wire_weaves.proofs.ReadWords.{begun_reads_tell_none, stepped_reads_tell_none}
use Rattle.iox_wire_weaves.proofs.Tidying.{begun_nodes_are_tidy, stepped_nodes_are_tidy}
use Rattle.iox_wire.specs.Kept.{AreKept, IsKept}

-- ---- ways

-- ports that send on as many ways send on few
few_ways_still : (ds es : List Desk) → map (λ (d : Desk). length d.recorded) es ≡ map (λ (d : Desk). length d.recorded) ds → HaveFewWays ds → HaveFewWays es
few_ways_still ds [] same few = tt
few_ways_still [] (e ∷ es) same few = absurd (no_cons (length e.recorded) (map (λ (d : Desk). length d.recorded) es) same)
  where
    no_cons : (k : ℕ) (ks : List ℕ) → (k ∷ ks) ≡ [] → ⊥
    no_cons k ks is = true≢false (ap is_some_list is)
      where
        is_some_list : List ℕ → Bool
        is_some_list [] = false
        is_some_list (j ∷ js) = true
few_ways_still (d ∷ ds) (e ∷ es) same few =
    (less (length d.recorded) (length e.recorded) (ap first same) few.0, few_ways_still ds es (ap rest same) few.1)
  where
    first : List ℕ → ℕ
    first [] = 0
    first (k ∷ ks) = k

    rest : List ℕ → List ℕ
    rest [] = []
    rest (k ∷ ks) = ks

    less : (a b : ℕ) → b ≡ a → a + 3 < 2 ^ 64 → b + 3 < 2 ^ 64
    less a b is low = omega (arith, is, low)

-- ---- the end of a call

none_of : {A B : Type 0} (f : A → B) (o : Option A) → option_map f o ≡ None → o ≡ None
none_of f None none = refl
none_of f (Some a) none = absurd (none-some (f a) (sym none))

-- a call that continues answers nothing
quiet : (p : Setting) (x : Seat) (seen : ℕ) → is_busy (next p x seen).local ≡ true → tells p x seen ≡ None
quiet p x seen busy = by_end (advance p (accessed x) x.local seen) (ending_at (advance p (accessed x) x.local seen).local) busy
  where
    by_end : (y : Seat) (o : Option Ending) → is_busy (closed p y o).local ≡ true → option_map (reply_of p y) o ≡ None
    by_end y None busy = refl
    by_end y (Some ending) busy = absurd (true≢false (sym busy))

-- ---- a node

pub kept_on : (p : Setting) (x y : NodeView) (seen : ℕ) (reply : Option NodeReply) → IsKept x → is_busy (seat_in x).local ≡ true → (seat_in x).accesses < most_accesses
    → WentOn p x seen reply y → (reply ≡ None → MayAdd x.at x → MayAdd y.at y) → IsKept y
kept_on p x y seen reply kept busy few went ready = record {
  few = less (seat_in y).accesses (seat_in x).accesses (ap (λ (s : Seat). s.accesses) went.next_is ∙ made.stepped p (seat_in x) seen) few;
  tidy = subst IsTidy (sym went.next_is) (stepped_nodes_are_tidy p (seat_in x) seen kept.tidy);
  ways = few_ways_still (seat_in x).desks (seat_in y).desks
      (ap (λ (s : Seat). map (λ (d : Desk). length d.recorded) s.desks) went.next_is ∙ (steps_keep_ports p (seat_in x) seen).sends) kept.ways;
  copies = subst (λ (s : Seat). CopyGoesOn s.local) (sym went.next_is) (stepped_copies_go_on p (seat_in x) seen);
  reads = subst (λ (s : Seat). TellsNoWords s.local) (sym went.next_is) (stepped_reads_tell_none p (seat_in x) seen);
  ready = λ later.
      ready (none_of _ reply (sym went.told ∙ quiet p (seat_in x) seen (subst (λ (s : Seat). is_busy s.local ≡ true) went.next_is later))) (kept.ready busy);
}
  where
    less : (a b : ℕ) → a ≡ b + 1 → b < most_accesses → a ≤ most_accesses
    less a b is low = omega (arith, is, low)

pub kept_begun : (p : Setting) (x y : NodeView) (call : WireCall) → IsKept x → seat_in y ≡ begin p (seat_in x) call → MayAdd y.at y → IsKept y
kept_begun p x y call kept begun ready = record {
  few = subst (λ k. k ≤ most_accesses) (sym (ap (λ (s : Seat). s.accesses) begun ∙ made.begun p (seat_in x) call)) kept.few;
  tidy = subst IsTidy (sym begun) (begun_nodes_are_tidy p (seat_in x) call kept.tidy);
  ways = few_ways_still (seat_in x).desks (seat_in y).desks
      (ap (λ (s : Seat). map (λ (d : Desk). length d.recorded) s.desks) begun ∙ (begins_keep_ports p (seat_in x) call).sends) kept.ways;
  copies = subst (λ (s : Seat). CopyGoesOn s.local) (sym begun) (begun_copies_go_on p (seat_in x) call);
  reads = subst (λ (s : Seat). TellsNoWords s.local) (sym begun) (begun_reads_tell_none p (seat_in x) call);
  ready = λ busy. ready;
}

-- ---- all nodes

-- what is so of each node stays so as one becomes another
pub each_still : (P : WireNode → Type 0) (xs : List WireNode) (n : ℕ) (d y : WireNode) (new : List WireNode) → Replaces xs n d y new
    → ((m : ℕ) (x : WireNode) → node_at m xs ≡ Some x → P x) → P y → (m : ℕ) (x : WireNode) → node_at m new ≡ Some x → P x
each_still P xs n d y new puts each own m x at = elim (cases_Bool (m == n)) [
  | inl same ↦ (
      let e : Some y ≡ Some x = sym puts.here ∙ sym (ap (λ k. node_at k new) (eqb-true m n same)) ∙ at in
      subst P (ap (λ o. option_map_or (λ v. v) o x) e) own
      )
  | inr other ↦ each m x (sym (puts.others m other) ∙ at)
]

pub kept_still : (xs : List WireNode) (n : ℕ) (d y : WireNode) (new : List WireNode) → Replaces xs n d y new → AreKept xs → IsKept y.node → AreKept new
kept_still xs n d y new puts kept own = each_still (λ x. IsKept x.node) xs n d y new puts kept own
