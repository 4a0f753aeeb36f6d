-- The ledger of a hub in the midst of a call.
use Rattle.std.specs.Prelude.{◌≡◌, ℕ, ◌+◌, ◌≤◌, Bool, true, false, if◌then◌else◌, ◌==◌, nat_le, List, length, Some, None, refl}
use Rattle.std.proofs.Common.{sym, subst, ap, ◌∙◌, arith, inl, inr}
use Rattle.iox_model.specs.declared.way.Way.{Way}
use Rattle.iox_model.specs.Begins.{start}
use Rattle.iox_model.specs.Commands.{Call}
use Rattle.iox_model.specs.Doings.{Doing, Delivering, Evicted}
use Rattle.iox_laws.specs.WeaveLaws.Ledgers.{had_on}
use Rattle.iox_model.specs.Loans.{Choice}
use Rattle.iox_model.specs.Moments.{Moment}
use Rattle.iox_model.specs.Names.{misnamed}
use Rattle.iox_model.specs.Peers.{buffer_on, borrow_limit_on}
use Rattle.iox_model.specs.States.{Fixed, State}
use Rattle.iox_model.specs.Weaves.{World}
use Rattle.iox_model.specs.WholeCalls.{moved_by, left_by, MayCome}
use Rattle.iox_laws.proofs.WeaveLaws.WholeLemmas.{split}
use Rattle.iox_laws.proofs.WeaveLaws.WholeLemmas.{moved_by-fixed}
use Rattle.iox_laws.specs.WeaveLedger.QueueLaws.{evicts_next, has_evicted}
use Rattle.iox_laws.proofs.WeaveLedger.Orders.{none-more, le-is}
use Rattle.iox_laws.proofs.WeaveLedger.Counts.{count, one_if}
use Rattle.iox_laws.proofs.WeaveLedger.Balance.{any}
use Rattle.iox_laws.proofs.WeaveLedger.LedgerHolds.{count-out, length-out, IsCounted, counted-once, counted-record}
use Rattle.iox_laws.proofs.WeaveLedger.Once.{IsPassed}
use Rattle.iox_laws.proofs.WeaveLedger.Outs.{out, is}
use Rattle.iox_laws.proofs.WeaveLedger.Outstanding.{call-below, counted-outstanding}
use Rattle.iox_laws.proofs.WeaveLedger.Senders.{FitsHandles}
use Rattle.iox_laws.proofs.WeaveLedger.Views.{view, node_in}
use Rattle.iox_laws.specs.RunLaws.Moving.{amid}
use Rattle.iox_laws.proofs.RunLaws.Borrowing.{borrows_stay_within}
use Rattle.iox_laws.proofs.RunLaws.Bounded.{queues_stay_within}
use Rattle.iox_laws.proofs.RunLaws.Ports.{any_at}
use Rattle.iox_laws.specs.RunLedger.LedgerStays.{IsAmid, OutStaysOnce, RecordStaysAsOut, OutstandingStaysCounted, LedgerStaysBelow}
use Rattle.iox_laws.proofs.RunLedger.Balance.{most_on, Underway, underway_by}
use Rattle.iox_laws.proofs.RunLedger.Books.{begins-underway}
use Rattle.iox_laws.proofs.RunLedger.Laws.{live-ends}
use Rattle.iox_laws.proofs.RunLedger.Moments.{has_ends}
use Rattle.iox_laws.proofs.RunLedger.Rights.{loaned_in, rights, fits_handles}
use Rattle.iox_laws.proofs.RunLedger.Runs.{Kept, reached-kept}
use Rattle.iox_laws.proofs.RunLedger.Underway.{Stands}

-- what holds in the midst of the call
record Amid (s : State) (w : World) (y : Way) : Type 0 where
  pub node : ℕ
  pub doing : Doing
  pub call : Underway w.state node doing
  pub same : w.state.fixed ≡ s.fixed
  pub ends : has_ends w.state.fixed y ≡ true
  pub counted : IsCounted w y
  pub size : out any w.state y (had_on w y) ≤ most_on s.fixed y + 1

-- one more waits that is to be evicted, or is in hand
one-more : (d : Doing) (y : Way) → one_if (evicts_next y d) + one_if (has_evicted y d) ≤ 1
one-more (Delivering x last left count) y = few (evicts_next y (Delivering x last left count))
  where
    few : (b : Bool) → one_if b + 0 ≤ 1
    few true = omega arith
    few false = omega arith
one-more (Evicted x w left count) y = few (has_evicted y (Evicted x w left count))
  where
    few : (b : Bool) → 0 + one_if b ≤ 1
    few true = omega arith
    few false = omega arith
one-more d y = least 1
  where
    least : (a : ℕ) → 0 + 0 ≤ a
    least a = omega arith

amid-is : (s : State) (w : World) (y : Way) → IsAmid s w y → Amid s w y
amid-is s w y a =
    subst (λ v. Amid s v y) (sym a.8) (record {
      node = node;
      doing = d;
      call = u;
      same = same;
      ends = ends;
      counted = λ k. count-out (is k) there y ∙ u.counts y ends k;
      size = elim (u.within y ends) as (λ z. out any (moved_by s ms) y (had_on there y) ≤ most_on s.fixed y + 1) [
        | inl p ↦ plus (out any (moved_by s ms) y (had_on there y)) (most_on s.fixed y)
            (subst (λ (f : Fixed). out any (moved_by s ms) y (had_on there y) ≤ most_on f y) same p)
        | inr p ↦ subst (λ n. n ≤ most_on s.fixed y + 1) (sym (length-out there y))
            (sums (length ((moved_by s ms).waiting y)) (length (had_on there y)) (length ((moved_by s ms).returned y)) (length ((moved_by s ms).in_hand y))
            (buffer_on s.fixed y) (borrow_limit_on s.fixed y) (one_if (evicts_next y d)) (one_if (has_evicted y d))
            (queues_stay_within s node call c ms y a.0 named may
            (split (any_at y.sender s.fixed.ports) (any_at y.receiver s.fixed.ports) (live-ends s.fixed y a.1)).0)
            (borrows_stay_within s node call c ms y a.0 named may) (ap length p.1) (u.hand y) (one-more d y))
      ];
    })
  where
    node : ℕ
    node = a.2

    call : Call
    call = a.3

    c : Choice
    c = a.4

    ms : List Moment
    ms = a.5

    named : misnamed s.fixed node call ≡ None
    named = a.6

    may : MayCome s node (start s node c call) ms
    may = a.7

    there : World
    there = amid s node call c ms

    d : Doing
    d = left_by s node (start s node c call) ms

    u : Underway (moved_by s ms) node d
    u =
        let k : Kept s = reached-kept s a.0 in
        underway_by s node (start s node c call) ms (begins-underway s node c call k.calm k.books named) may

    same : (moved_by s ms).fixed ≡ s.fixed
    same = moved_by-fixed s ms

    ends : has_ends (moved_by s ms).fixed y ≡ true
    ends = ap (λ (f : Fixed). has_ends f y) same ∙ live-ends s.fixed y a.1

    plus : (a b : ℕ) → a ≤ b → a ≤ b + 1
    plus a b p = omega arith

    sums : (a b c d e f g h : ℕ) → a ≤ e + g → b ≤ f → c ≡ 0 → d ≤ h → g + h ≤ 1 → a + b + c + d ≤ e + f + 1
    sums a b c d e f g h p q r t v = omega arith

pub out_stays_once : OutStaysOnce
out_stays_once s w y a = counted-once w y (amid-is s w y a).counted

pub record_stays_as_out : RecordStaysAsOut
record_stays_as_out s w y k a = counted-record w y k (amid-is s w y a).counted

pub ledger_stays_below : LedgerStaysBelow
ledger_stays_below s w y a =
    subst (λ n. n ≤ buffer_on s.fixed y + borrow_limit_on s.fixed y + 1) (length-out w y) (amid-is s w y a).size

-- ---- how many are out

-- what the send under way passed was loaned, or is loaned next
passed-below : (s : State) (n : ℕ) (d : Doing) (y : Way) (k : ℕ) → FitsHandles (view s.fixed n) n → Stands (view s.fixed n) n d → IsPassed y k d
    → k ≤ (view s.fixed n).loans y.sender
passed-below s n (Delivering x last left count) y k fits p passed = call-below (view s.fixed n) n k y (Some (Delivering x last left count)) fits p passed
passed-below s n (Evicted x w left count) y k fits p passed = call-below (view s.fixed n) n k y (Some (Evicted x w left count)) fits p passed
passed-below s n d y k fits p passed = absurd passed

masked-below : (f : Fixed) (n port k : ℕ) → k ≤ (view f n).loans port → k ≤ f.loans port
masked-below f n port k = by_case (node_in f.ports port == n)
  where
    by_case : (b : Bool) → k ≤ (if b then f.loans port else 0) → k ≤ f.loans port
    by_case true p = p
    by_case false p = none-more k (f.loans port) p

was-loaned : (s : State) (n : ℕ) (d : Doing) (y : Way) (k : ℕ) → Underway s n d → s.delivered y k ≡ true → k ≤ s.fixed.loans y.sender
was-loaned s n d y k u on = by_case (nat_le k (s.fixed.loans y.sender)) refl
  where
    fits : FitsHandles (view s.fixed n) n
    fits = fits_handles s.fixed n (u.goes).fixed (((u.goes).owned).has).kept u.few

    not_le : (a b : ℕ) → nat_le a b ≡ false → a ≤ b → ⊥
    not_le a b e p = grind (arith)

    other : (a b : ℕ) → nat_le a b ≡ false → nat_le b a ≡ true
    other a b e = grind (arith)

    two : (a : ℕ) → a + 1 + 1 ≤ 1 → ⊥
    two a p = omega arith

    by_case : (b : Bool) → nat_le k (s.fixed.loans y.sender) ≡ b → k ≤ s.fixed.loans y.sender
    by_case true e = le-is k (s.fixed.loans y.sender) e
    by_case false e =
        absurd (two (count (is k) (loaned_in (s.fixed.handles n) y.sender))
        (subst (λ b. count (is k) (loaned_in (s.fixed.handles n) y.sender) + one_if b + 1 ≤ 1) (other k (s.fixed.loans y.sender) e)
        (subst (λ b. rights s.fixed n y.sender k + one_if b ≤ 1) on
        (u.fresh n y k (λ passed. not_le k (s.fixed.loans y.sender) e (masked-below s.fixed n y.sender k (passed-below s n d y k fits u.stands passed)))))))

pub outstanding_stays_counted : OutstandingStaysCounted
outstanding_stays_counted s w y a =
    let p : Amid s w y = amid-is s w y a in
    counted-outstanding w y p.counted (λ k. was-loaned w.state p.node p.doing y k p.call)
