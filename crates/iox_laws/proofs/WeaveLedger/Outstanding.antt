-- As many are outstanding as are out: the record has no serial that its sender did not loan.
use Rattle.std.specs.Prelude.{◌≡◌, ℕ, ◌+◌, ◌<◌, ◌≤◌, Bool, true, false, if◌then◌else◌, nat_le, List, length, Option, Some, None, refl}
use Rattle.std.specs.List.{range_with_len}
use Rattle.std.proofs.Common.{sym, subst, ap, ◌∙◌, arith, inl}
use Rattle.iox_model.specs.declared.way.Way.{Way}
use Rattle.iox_model.specs.Doings.{Sending, Doing, Delivering, Evicted}
use Rattle.iox_laws.specs.WeaveLaws.Ledgers.{size_of}
use Rattle.iox_model.specs.Outstandings.{outstanding_on}
use Rattle.iox_model.specs.States.{State}
use Rattle.iox_model.specs.Weaves.{World}
use Rattle.iox_laws.specs.WeaveLedger.LedgerLaws.{out_on, OutstandingIsCounted}
use Rattle.iox_laws.proofs.WeaveLedger.Orders.{same-le, le-is}
use Rattle.iox_laws.proofs.WeaveLedger.Counts.{count}
use Rattle.iox_laws.proofs.WeaveLedger.Ranges.{no-longer, range-apart, up-to}
use Rattle.iox_laws.proofs.WeaveLedger.Lists.{IsAmong, filter-among, among-filter, number-among, among-number, distinct-no_repeats, no_repeats-filter, NoRepeats}
use Rattle.iox_laws.proofs.WeaveLedger.Views.{View, view, node_in, mine}
use Rattle.iox_laws.proofs.WeaveLedger.Senders.{FitsHandles, FitsSending, Stands}
use Rattle.iox_laws.proofs.WeaveLedger.Worlds.{FitsCall}
use Rattle.iox_laws.proofs.WeaveLedger.Once.{HasPassed, PassedBy}
use Rattle.iox_laws.proofs.WeaveLedger.Tallies.{count-all}
use Rattle.iox_laws.proofs.WeaveLedger.Balance.{any}
use Rattle.iox_laws.proofs.WeaveLedger.LedgerHolds.{SoundLedger, holds-in-the-end, length-out, count-out, counts-record, IsCounted, counted-once, counted-record}

-- ---- what is delivered was loaned

-- the message of a send under way is one that its port loaned, or loans next
passed-below : (v : View) (n k : ℕ) (y : Way) (x : Sending) (left : List Way) → FitsHandles v n → FitsSending v n x → HasPassed y k x left
    → k ≤ v.loans y.sender
passed-below v n k y x left fits p passed =
    subst (λ q. k ≤ v.loans q) passed.0 (subst (λ j. j ≤ v.loans x.loan.port) passed.1 (by_case x.copied (p.loan).stands))
  where
    below : (a b : ℕ) → a < b → a ≤ b
    below a b e = omega arith

    by_case : (b : Bool) → Stands v x.loan b → x.loan.message.serial ≤ v.loans x.loan.port
    by_case true q = same-le x.loan.message.serial (v.loans x.loan.port) q.0
    by_case false a = below x.loan.message.serial (v.loans x.loan.port) (fits.lent x.loan a (p.loan).loan)

pub call-below : (v : View) (n k : ℕ) (y : Way) (o : Option Doing) → FitsHandles v n → FitsCall v n o → PassedBy y k o → k ≤ v.loans y.sender
call-below v n k y None fits p passed = absurd passed
call-below v n k y (Some (Delivering x last left count)) fits p passed = passed-below v n k y x left fits p.0 passed
call-below v n k y (Some (Evicted x w left count)) fits p passed = passed-below v n k y x left fits p.0 passed
call-below v n k y (Some d) fits p passed = absurd passed

delivered-below : (v : World) (y : Way) (n r k : ℕ) → SoundLedger v y n r → v.state.delivered y k ≡ true → k ≤ v.state.fixed.loans y.sender
delivered-below v y n r k p e = by_case (nat_le k (v.state.fixed.loans y.sender)) refl
  where
    loans : (view v.state.fixed n).loans y.sender ≡ v.state.fixed.loans y.sender
    loans = ap (λ (b : Bool). if b then v.state.fixed.loans y.sender else 0) (mine v.state.fixed.ports y.sender n p.sender)

    more : (a b c : ℕ) → nat_le a b ≡ false → c ≡ b → c ≤ a
    more a b c h e = grind (arith)

    not_both : (a b c : ℕ) → nat_le a b ≡ false → c ≡ b → a ≤ c → ⊥
    not_both a b c h e q = grind (arith)

    by_case : (b : Bool) → nat_le k (v.state.fixed.loans y.sender) ≡ b → k ≤ v.state.fixed.loans y.sender
    by_case true h = le-is k (v.state.fixed.loans y.sender) h
    by_case false h = absurd (p.ledger.fresh k e (
      inl (more k (v.state.fixed.loans y.sender) ((view v.state.fixed n).loans y.sender) h loans),
      λ passed. not_both k (v.state.fixed.loans y.sender) ((view v.state.fixed n).loans y.sender) h loans
          (call-below (view v.state.fixed n) n k y (v.doing n) (p.fits.handles n) (p.fits.doing n) passed),
    ))

-- ---- the law

pub outstanding-apart : (s : State) (y : Way) → NoRepeats (outstanding_on s y)
outstanding-apart s y =
    no_repeats-filter (s.delivered y) (range_with_len 0 (s.fixed.loans y.sender + 1)) (range-apart 0 (s.fixed.loans y.sender + 1))

-- where what is out is counted, and what is delivered was loaned
pub counted-outstanding : (v : World) (y : Way) → IsCounted v y → ((k : ℕ) → v.state.delivered y k ≡ true → k ≤ v.state.fixed.loans y.sender)
    → length (outstanding_on v.state y) ≡ size_of v y + length (v.state.in_hand y)
counted-outstanding v y counted below =
    equal (length (outstanding_on v.state y)) (length (out_on v y))
    (no-longer (outstanding_on v.state y) (out_on v y) (outstanding-apart v.state y) is_out)
    (no-longer (out_on v y) (outstanding_on v.state y) (distinct-no_repeats (out_on v y) (counted-once v y counted)) is_outstanding)
    ∙ sym (count-all (out_on v y)) ∙ count-out any v y ∙ length-out v y
  where
    numbers : List ℕ
    numbers = range_with_len 0 (v.state.fixed.loans y.sender + 1)

    equal : (a b : ℕ) → a ≤ b → b ≤ a → a ≡ b
    equal a b p q = omega arith

    is_out : (k : ℕ) → IsAmong k (outstanding_on v.state y) → IsAmong k (out_on v y)
    is_out k a = number-among k (out_on v y) (sym (counted-record v y k counted) ∙ (filter-among (v.state.delivered y) k numbers a).1)

    is_outstanding : (k : ℕ) → IsAmong k (out_on v y) → IsAmong k (outstanding_on v.state y)
    is_outstanding k a =
        let e : v.state.delivered y k ≡ true = counted-record v y k counted ∙ among-number k (out_on v y) a in
        among-filter (v.state.delivered y) k numbers (up-to (v.state.fixed.loans y.sender) k (below k e)) e

pub outstanding_is_counted : OutstandingIsCounted
outstanding_is_counted s v bs y on live =
    counted-outstanding v y (λ k. counts-record s v bs y k on live)
    (λ k. delivered-below v y (node_in v.state.fixed.ports y.sender) (node_in v.state.fixed.ports y.receiver) k (holds-in-the-end s v bs y on))
