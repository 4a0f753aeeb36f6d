-- The ledger of a hub between calls.
use Rattle.std.specs.Prelude.{◌≡◌, ℕ, ◌+◌, ◌≤◌, Bool, true, false, not, ◌&&◌, nat_le, length, refl}
use Rattle.std.proofs.Common.{sym, subst, ap, ◌∙◌, true≢false, arith}
use Rattle.iox_model.specs.declared.way.Way.{Way}
use Rattle.iox_laws.specs.WeaveLaws.Ledgers.{is_live, size_of}
use Rattle.iox_model.specs.Peers.{is_connected_port, forgot_port, node_of_port, buffer_on, borrow_limit_on}
use Rattle.iox_model.specs.States.{Fixed, State}
use Rattle.iox_model.specs.Weaves.{at_work}
use Rattle.iox_laws.proofs.WeaveLedger.Counts.{count, one_if}
use Rattle.iox_laws.proofs.WeaveLedger.LedgerHolds.{count-out, length-out, IsCounted, counted-once, counted-record}
use Rattle.iox_laws.proofs.WeaveLedger.Outs.{is}
use Rattle.iox_laws.proofs.WeaveLedger.Outstanding.{counted-outstanding}
use Rattle.iox_model.specs.Runs.{IsReachableState}
use Rattle.iox_laws.specs.RunLedger.LedgerRests.{NothingRestsInHand, OutRestsOnce, RecordRestsAsOut, OutstandingRestsCounted, LedgerRestsWithin}
use Rattle.iox_laws.proofs.RunLedger.Books.{Books, is-within}
use Rattle.iox_laws.proofs.RunLedger.Moments.{has_ends}
use Rattle.iox_laws.proofs.RunLedger.Rights.{loaned_in, rights}
use Rattle.iox_laws.proofs.RunLedger.Runs.{Kept, reached-kept}

-- a live way has both its ends
pub live-ends : (f : Fixed) (y : Way) → is_live f y ≡ true → has_ends f y ≡ true
live-ends f y e =
    all (is_connected_port f y.sender) (forgot_port f (node_of_port f y.sender) y.receiver) (is_connected_port f y.receiver)
    (forgot_port f (node_of_port f y.receiver) y.sender) e
  where
    all : (a b c d : Bool) → ((a && not b) && (c && not d)) ≡ true → (a && c) ≡ true
    all true false true false e = refl
    all true true c d e = absurd (true≢false (sym e))
    all true false false d e = absurd (true≢false (sym e))
    all true false true true e = absurd (true≢false (sym e))
    all false b c d e = absurd (true≢false (sym e))

is-counted : (s : State) (y : Way) → IsReachableState s → is_live s.fixed y ≡ true → IsCounted (at_work s) y
is-counted s y reached live k = count-out (is k) (at_work s) y ∙ ((reached-kept s reached).books).counts y (live-ends s.fixed y live) k

pub nothing_rests_in_hand : NothingRestsInHand
nothing_rests_in_hand s y reached = ((reached-kept s reached).books).hand y

pub out_rests_once : OutRestsOnce
out_rests_once s y reached live = counted-once (at_work s) y (is-counted s y reached live)

pub record_rests_as_out : RecordRestsAsOut
record_rests_as_out s y k reached live = counted-record (at_work s) y k (is-counted s y reached live)

-- ---- how many are out

-- what is delivered has no right any more, so it was loaned
was-loaned : (s : State) (y : Way) (k : ℕ) → Books s → s.delivered y k ≡ true → k ≤ s.fixed.loans y.sender
was-loaned s y k b on =
    below (s.fixed.loans y.sender) k (count (is k) (loaned_in (s.fixed.handles 0) y.sender)) (nat_le (s.fixed.loans y.sender) k) refl
    (subst (λ e. rights s.fixed 0 y.sender k + one_if e ≤ 1) on (b.fresh 0 y k))
  where
    below : (a k c : ℕ) (e : Bool) → nat_le a k ≡ e → c + one_if e + 1 ≤ 1 → k ≤ a
    below a k c true e p = absurd (omega arith)
    below a k c false e p = grind (arith)

nothing-more : (s : State) (y : Way) → Books s → size_of (at_work s) y + length (s.in_hand y) ≡ size_of (at_work s) y
nothing-more s y b = ap (λ ks. size_of (at_work s) y + length ks) (b.hand y) ∙ none (size_of (at_work s) y)
  where
    none : (a : ℕ) → a + 0 ≡ a
    none a = omega arith

pub outstanding_rests_counted : OutstandingRestsCounted
outstanding_rests_counted s y reached live =
    let b : Books s = (reached-kept s reached).books in
    counted-outstanding (at_work s) y (is-counted s y reached live) (λ k. was-loaned s y k b) ∙ nothing-more s y b

pub ledger_rests_within : LedgerRestsWithin
ledger_rests_within s y reached live =
    let k : Kept s = reached-kept s reached in
    subst (λ n. n ≤ buffer_on s.fixed y + borrow_limit_on s.fixed y) (length-out (at_work s) y ∙ nothing-more s y k.books)
    (is-within s y k.calm k.books (live-ends s.fixed y live))
