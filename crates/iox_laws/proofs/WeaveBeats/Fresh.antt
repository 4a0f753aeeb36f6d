-- What is delivered or written is outstanding nowhere, and what is out is kept.
use Rattle.std.specs.Prelude.{nat_le, if◌then◌else◌, ◌≡◌, ℕ, ◌+◌, ◌≤◌, Bool, true, false, List, [], Some, refl}
use Rattle.std.specs.Option.{option_map_or}
use Rattle.std.proofs.Common.{sym, subst, ap, ◌∙◌, arith, inl, inr}
use Rattle.iox_model.specs.declared.way.Way.{Way}
use Rattle.iox_model.specs.States.{Handle}
use Rattle.iox_model.specs.Doings.{Loans, Fills, Doing, Ended, Loaning, Asking, Emptying, Looking, Opening, Delivering}
use Rattle.iox_model.specs.Maps.{has_number}
use Rattle.iox_model.specs.Weaves.{World}
use Rattle.iox_model.specs.Outstandings.{is_held, is_outstanding, is_kept}
use Rattle.iox_model.specs.Keeping.{under_way, kept_in}
use Rattle.iox_laws.specs.WeaveLaws.Ledgers.{is_live}
use Rattle.iox_model.specs.Peers.{node_of_port, ways_from}
use Rattle.iox_laws.proofs.WeaveLaws.WholeLemmas.{some-is}
use Rattle.iox_laws.proofs.WeaveLedger.Truths.{or-right, false_if, none-some}
use Rattle.iox_laws.proofs.WeaveLedger.Lists.{IsAmong, among-number, among-any, among-filter, way-among}
use Rattle.iox_laws.proofs.WeaveLedger.Views.{View, view, IsAt, node_in, mine}
use Rattle.iox_laws.proofs.WeaveLedger.Senders.{FitsLoan, IsFilled, FitsDoing}
use Rattle.iox_laws.proofs.WeaveLedger.Rights.{MaySend}
use Rattle.iox_laws.proofs.WeaveLedger.Once.{MayPut, PassedBy, IsPassed}
use Rattle.iox_laws.proofs.WeaveLedger.Worlds.{doing-is}
use Rattle.iox_laws.proofs.WeaveLedger.LedgerHolds.{SoundLedger, holds-in-the-end, record_is_what_is_out}
use Rattle.iox_laws.proofs.WeaveLedger.Outstanding.{call-below}
use Rattle.iox_laws.proofs.WeaveLedger.Orders.{le-is}
use Rattle.iox_laws.proofs.WeaveLedger.Ranges.{up-to}
use Rattle.std.specs.List.{range_with_len}
use Rattle.iox_laws.proofs.WeaveLedger.LedgerKept.{Ledger}
use Rattle.iox_laws.specs.WeaveBeats.BeatLaws.{DeliveriesAreFresh, unsent_in, UnsentIsNowhere, WhatIsOutIsKept}
use Rattle.iox_laws.proofs.WeaveBeats.LiveWays.{Here, here, from_is_live}
use Rattle.iox_laws.proofs.WeaveBeats.Rooms.{sender_is}

-- ---- what may be delivered

-- what the ledger says of the way
ledger_of : (w : World) (y : Way) (h : Here w) → Ledger w y (node_in w.state.fixed.ports y.sender) (node_in w.state.fixed.ports y.receiver)
ledger_of w y h = (holds-in-the-end h.state w h.beats y h.on).ledger

-- what may yet be sent, and did not pass the way, is not outstanding there
fresh_by : (w : World) (node : ℕ) (y : Way) (k : ℕ) → Here w → IsAt w.state.fixed.ports y.sender node
    → MaySend (view w.state.fixed node) y.sender k → (PassedBy y k (w.doing node) → ⊥) → w.state.delivered y k ≡ false
fresh_by w node y k h at may unpassed =
    false_if (w.state.delivered y k) (λ e. (ledger_of w y h).fresh k e
    (subst (λ n. MayPut w n y k) (sym at) (may, unpassed)))

at_least : (k : ℕ) → k ≤ k
at_least k = omega arith

-- the loan of a call may yet be sent
may_send : (v : View) (n : ℕ) (h : Handle) (copied : Bool) → FitsLoan v n h copied → MaySend v h.port h.message.serial
may_send v n h true p = inl (subst (λ k. v.loans h.port ≤ k) (sym p.stands.0) (at_least (v.loans h.port)))
may_send v n h false p = inr (record { handle = h; among = p.stands; loan = p.loan; of_port = refl; serial = refl })

pub deliveries_are_fresh : DeliveriesAreFresh
deliveries_are_fresh w node x last left count y reach is left_there =
    let h : Here w = here w reach in
    let p : FitsDoing (view w.state.fixed node) node (Delivering x last left count) = doing-is w node (Delivering x last left count) h.holding.fits is in
    let from : (y.sender ≡ x.loan.port) × IsAt w.state.fixed.ports y.sender node = sender_is w node x last left count y h.holding.fits is left_there in
    fresh_by w node y x.loan.message.serial h from.1
    (subst (λ q. MaySend (view w.state.fixed node) q x.loan.message.serial) (sym from.0) (may_send (view w.state.fixed node) node x.loan x.copied p.0.loan))
    (λ passed. (subst (PassedBy y x.loan.message.serial) is passed).2 (way-among y left left_there))

-- what a call has that sent nothing of it yet, and passed no way
abbrev Unsent : View → ℕ → Doing → Handle → Way → Type 0
Unsent v n d h y = IsAt v.ports h.port n × MaySend v h.port h.message.serial × (IsPassed y h.message.serial d → ⊥)

loan_unsent : (v : View) (n : ℕ) (d : Doing) (g h : Handle) (copied : Bool) (y : Way) → g ≡ h → FitsLoan v n g copied
    → (IsPassed y h.message.serial d → ⊥) → Unsent v n d h y
loan_unsent v n d g h copied y same p none =
    subst (λ (l : Handle). (IsPassed y l.message.serial d → ⊥) → Unsent v n d l y) same
    (λ q. (p.of_port, may_send v n g copied p, q)) none

filled_unsent : (v : View) (n : ℕ) (g h : Handle) (y : Way) → ((l : Handle) → IsAmong l v.handles → IsAt v.ports l.port n) → g ≡ h → IsFilled v n g
    → Unsent v n (Ended (Fills g)) h y
filled_unsent v n g h y ports same p =
    subst (λ (l : Handle). Unsent v n (Ended (Fills g)) l y) same (
      ap (node_in v.ports) p.port ∙ ports p.old p.among,
      inr (record { handle = p.old; among = p.among; loan = p.was_loan; of_port = sym p.port; serial = sym p.serial }),
      λ q. q,
    )

unsent : (v : View) (n : ℕ) (d : Doing) (h : Handle) (y : Way) → ((l : Handle) → IsAmong l v.handles → IsAt v.ports l.port n)
    → FitsDoing v n d → unsent_in d ≡ Some h → Unsent v n d h y
unsent v n (Ended (Loans g)) h y ports p e = loan_unsent v n (Ended (Loans g)) g h true y (some-is g h e) p (λ q. q)
unsent v n (Ended (Fills g)) h y ports p e = filled_unsent v n g h y ports (some-is g h e) p
unsent v n (Loaning copies g left) h y ports p e = loan_unsent v n (Loaning copies g left) g h true y (some-is g h e) p (λ q. q)
unsent v n (Asking x) h y ports p e = loan_unsent v n (Asking x) x.loan h x.copied y (some-is x.loan h e) p.loan (λ q. q)
unsent v n (Emptying x left) h y ports p e = loan_unsent v n (Emptying x left) x.loan h x.copied y (some-is x.loan h e) p.loan (λ q. q)
unsent v n (Looking x left full) h y ports p e = loan_unsent v n (Looking x left full) x.loan h x.copied y (some-is x.loan h e) p.loan (λ q. q)
unsent v n (Opening x left full) h y ports p e = loan_unsent v n (Opening x left full) x.loan h x.copied y (some-is x.loan h e) p.loan (λ q. q)
unsent v n d h y ports p e = none-some h e

pub unsent_is_nowhere : UnsentIsNowhere
unsent_is_nowhere w node d h y reach is e from =
    let t : Here w = here w reach in
    let p : FitsDoing (view w.state.fixed node) node d = doing-is w node d t.holding.fits is in
    let r : Unsent (view w.state.fixed node) node d h y = unsent (view w.state.fixed node) node d h y (t.holding.fits.handles node).of_port p e in
    fresh_by w node y h.message.serial t (ap (node_in w.state.fixed.ports) from ∙ r.0)
    (subst (λ q. MaySend (view w.state.fixed node) q h.message.serial) (sym from) r.1)
    (λ passed. r.2 (subst (PassedBy y h.message.serial) is passed))

-- ---- what is out is kept

-- what is delivered was loaned
pub delivered_below : (v : World) (y : Way) (n r k : ℕ) → SoundLedger v y n r → v.state.delivered y k ≡ true → k ≤ v.state.fixed.loans y.sender
delivered_below v y n r k p e = by_case (nat_le k (v.state.fixed.loans y.sender)) refl
  where
    loans : (view v.state.fixed n).loans y.sender ≡ v.state.fixed.loans y.sender
    loans = ap (λ (b : Bool). if b then v.state.fixed.loans y.sender else 0) (mine v.state.fixed.ports y.sender n p.sender)

    more : (a b c : ℕ) → nat_le a b ≡ false → c ≡ b → c ≤ a
    more a b c h e = grind (arith)

    not_both : (a b c : ℕ) → nat_le a b ≡ false → c ≡ b → a ≤ c → ⊥
    not_both a b c h e q = grind (arith)

    by_case : (b : Bool) → nat_le k (v.state.fixed.loans y.sender) ≡ b → k ≤ v.state.fixed.loans y.sender
    by_case true h = le-is k (v.state.fixed.loans y.sender) h
    by_case false h = absurd (p.ledger.fresh k e (
      inl (more k (v.state.fixed.loans y.sender) ((view v.state.fixed n).loans y.sender) h loans),
      λ passed. not_both k (v.state.fixed.loans y.sender) ((view v.state.fixed n).loans y.sender) h loans
          (call-below (view v.state.fixed n) n k y (v.doing n) (p.fits.handles n) (p.fits.doing n) passed),
    ))

pub what_is_out_is_kept : WhatIsOutIsKept
what_is_out_is_kept w node y k reach living goes way out =
    let h : Here w = here w reach in
    let live : is_live w.state.fixed y ≡ true = from_is_live w node y h living goes in
    let counted : w.state.delivered y k ≡ true = record_is_what_is_out h.state w h.beats y k h.on live ∙ out in
    let below : k ≤ w.state.fixed.loans y.sender
    = delivered_below w y (node_in w.state.fixed.ports y.sender) (node_in w.state.fixed.ports y.receiver) k (holds-in-the-end h.state w h.beats y h.on) counted in
    let calls : List ℕ = option_map_or (under_way y.sender) (w.doing (node_of_port w.state.fixed y.sender)) [] in
    let there : is_outstanding w.state y.sender k ≡ true
    = among-any (λ v. w.state.delivered v k) y (ways_from w.state.fixed y.sender) (way-among y (ways_from w.state.fixed y.sender) way) counted in
    among-number k (kept_in w y.sender)
    (among-filter (is_kept w.state y.sender (option_map_or (under_way y.sender) (w.doing (node_of_port w.state.fixed y.sender)) []))
    k (range_with_len 0 (w.state.fixed.loans y.sender + 1)) (up-to (w.state.fixed.loans y.sender) k below)
    (or-right (has_number k (option_map_or (under_way y.sender) (w.doing (node_of_port w.state.fixed y.sender)) [])) _
    (or-right (is_held w.state.fixed y.sender k) (is_outstanding w.state y.sender k) there)))
