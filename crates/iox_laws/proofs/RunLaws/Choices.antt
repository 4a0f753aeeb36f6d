-- A call finds an open lane, with memory or without.
use Rattle.std.specs.Prelude.{◌≡◌, ℕ, ◌+◌, Bool, true, false, not, ◌&&◌, ◌||◌, ◌==◌, nat_lt, nat_le, List, [], ◌∷◌, Option, Some, None, refl}
use Rattle.std.specs.List.{list_any, list_all, range_with_len}
use Rattle.std.proofs.Common.{sym, ap, ◌∙◌, true≢false, arith, suc, zero}
use Rattle.iox_model.specs.Begins.{is_open_lane, lane_may_be, lends_lane}
use Rattle.iox_model.specs.Commands.{number_of}
use Rattle.iox_model.specs.Handles.{is_request_loan, same_kind, handles_of, has_lane, subject, Subject, ThePort, TheHandle}
use Rattle.iox_model.specs.Loans.{Choice}
use Rattle.iox_model.specs.States.{Port, Handle, Fixed}
use Rattle.iox_model.specs.declared.kind.Kind.TheVariants.{PendingResponse}
use Rattle.iox_laws.specs.RunLaws.Answering.{SomethingMayBeChosen}
use Rattle.iox_laws.proofs.WeaveLedger.Orders.{le-refl}
use Rattle.iox_laws.proofs.WeaveLedger.Truths.{both_true, by_cases, or-right}

-- ---- a lane past all that are taken

abbrev past : List Handle → ℕ
past [] = 0
past (h ∷ hs) = h.lane + 1 + past hs

not_taken : (test : Handle → Bool) (hs : List Handle) (lane : ℕ) → nat_le (past hs) lane ≡ true → list_any (λ h. test h && (h.lane == lane)) hs ≡ false
not_taken test [] lane e = refl
not_taken test (h ∷ hs) lane e =
    neither (test h) (h.lane == lane) (list_any (λ k. test k && (k.lane == lane)) hs) (other h.lane (past hs) lane e)
    (not_taken test hs lane (less h.lane (past hs) lane e))
  where
    other : (a b c : ℕ) → nat_le (a + 1 + b) c ≡ true → (a == c) ≡ false
    other a b c e = grind (arith)

    less : (a b c : ℕ) → nat_le (a + 1 + b) c ≡ true → nat_le b c ≡ true
    less a b c e = grind (arith)

    neither : (a b c : Bool) → b ≡ false → c ≡ false → ((a && b) || c) ≡ false
    neither true true c e f = absurd (true≢false e)
    neither true false c e f = f
    neither false b c e f = f

-- ---- an open lane

-- one below the bound that fails, unless all pass
search_for : (test : ℕ → Bool) (bound from count : ℕ) → nat_le (from + count) bound ≡ true → list_all test (range_with_len from count) ≡ false
    → (n : ℕ) × (test n ≡ false) × (nat_lt n bound ≡ true)
search_for test bound from zero e fails = absurd (true≢false fails)
search_for test bound from (suc count) e fails =
    by_cases (test from)
    (λ passes. search_for test bound (from + 1) count (more from count bound e)
    (sym (ap (λ b. b && list_all test (range_with_len (from + 1) count)) passes) ∙ fails))
    (λ here. (from, here, less from count bound e))
  where
    more : (a b c : ℕ) → nat_le (a + suc b) c ≡ true → nat_le (a + 1 + b) c ≡ true
    more a b c e = grind (arith)

    less : (a b c : ℕ) → nat_le (a + suc b) c ≡ true → nat_lt a c ≡ true
    less a b c e = grind (arith)

open_lane : (f : Fixed) (p : Port) → (lane : ℕ) × (is_open_lane f p lane ≡ true)
open_lane f p =
    by_cases (list_all (has_lane f p.number) (range_with_len 0 p.pool))
    (λ all.
    let lane : ℕ = past (handles_of f p.number) in (
      lane,
      both_true (not (has_lane f p.number lane)) (nat_lt lane p.pool || list_all (has_lane f p.number) (range_with_len 0 p.pool))
          (ap not (not_taken (λ h. is_request_loan h.kind || same_kind h.kind PendingResponse) (handles_of f p.number) lane (le-refl lane)))
          (or-right (nat_lt lane p.pool) (list_all (has_lane f p.number) (range_with_len 0 p.pool)) all),
    ))
    (λ some.
    let free : (n : ℕ) × (has_lane f p.number n ≡ false) × (nat_lt n p.pool ≡ true)
    = search_for (has_lane f p.number) p.pool 0 p.pool (from_zero p.pool) some in (
      free.0,
      both_true (not (has_lane f p.number free.0)) (nat_lt free.0 p.pool || list_all (has_lane f p.number) (range_with_len 0 p.pool))
          (ap not free.1) (ap (λ b. b || list_all (has_lane f p.number) (range_with_len 0 p.pool)) free.2),
    ))
  where
    from_zero : (n : ℕ) → nat_le (0 + n) n ≡ true
    from_zero n = grind (arith)

-- ---- a choice

lane_for : (f : Fixed) (memory : Bool) (x : Option Subject) → (lane : ℕ) × (lane_may_be f (record { lane = lane; memory = memory }) x ≡ true)
lane_for f memory (Some (ThePort p)) = open_lane f p
lane_for f memory (Some (TheHandle h)) = (0, refl)
lane_for f memory None = (0, refl)

pub something_may_be_chosen : SomethingMayBeChosen
something_may_be_chosen f node call memory may =
    let x : Option Subject = subject f node (number_of call) in
    let lane : (lane : ℕ) × (lane_may_be f (record { lane = lane; memory = memory }) x ≡ true) = lane_for f memory x in
    let c : Choice = record { lane = lane.0; memory = memory } in
    (c, refl, (may, or-right (not (lends_lane call)) (lane_may_be f c x) lane.1))
