-- Numbers of entries as a call ends: no two are one.
use Rattle.std.specs.Prelude.{◌⊎◌, ◌++◌, ◌||◌, filter, map, not}
use Rattle.std.proofs.Common.{◌≡◌, ℕ, ◌-◌, Bool, true, false, if◌then◌else◌, ◌==◌, List, [], ◌∷◌, refl, ap, sym, subst, inl, inr, eqb-true, true≢false}
use Rattle.iox_model.specs.Handles.{is_received, is_request_loan}
use Rattle.iox_model.specs.Maps.{AreDistinct, has_number}
use Rattle.iox_laws.proofs.WeaveLaws.CallLaws.{eqb-flip}
use Rattle.iox_wire_locals.specs.declared.local.Ending.TheVariants as endings
use Rattle.iox_wire_locals.specs.declared.seat.Seat.{Seat}
use Rattle.iox_wire_locals.specs.declared.table.Entry.{Entry}
use Rattle.iox_wire_locals.specs.Desks.{at_count, at_desk, gives_up}
use Rattle.iox_wire_locals.specs.Lendings.{next_handle}
use Rattle.iox_wire_locals.specs.NewLoans.{entry_in, received_entry}
use Rattle.iox_wire_locals.specs.Settlements as settle
use Rattle.iox_wire_locals.specs.Tables.{Setting, sent_entry, way_in, with_entry}
use Rattle.iox_wire_stands.specs.EndLaws.{EndsKeepNumbers, IsSentLoan}

abbrev pub numbers : List Entry → List ℕ
numbers es = map (λ e. e.number) es

or_false : (a b : Bool) → (a || b) ≡ false → (a ≡ false) × (b ≡ false)
or_false false false is = (refl, refl)
or_false true b is = absurd (true≢false is)
or_false false true is = absurd (true≢false is)

false_or : (a b : Bool) → a ≡ false → b ≡ false → (a || b) ≡ false
false_or false false one two = refl
false_or true b one two = one
false_or false true one two = two

-- one more
still_new : (n : ℕ) (e : Entry) (es : List Entry) → has_number n (numbers es) ≡ false → (e.number == n) ≡ false → has_number n (numbers (es ++ e ∷ [])) ≡ false
still_new n e [] none other = false_or (e.number == n) false other refl
still_new n e (k ∷ ks) none other =
    let two = or_false (k.number == n) (has_number n (numbers ks)) none in
    false_or (k.number == n) (has_number n (numbers (ks ++ e ∷ []))) two.0 (still_new n e ks two.1 other)

more : (e : Entry) (es : List Entry) → AreDistinct (numbers es) → has_number e.number (numbers es) ≡ false → AreDistinct (numbers (es ++ e ∷ []))
more e [] apart new = (refl, tt)
more e (k ∷ ks) apart new =
    let two = or_false (k.number == e.number) (has_number e.number (numbers ks)) new in
    (still_new k.number e ks apart.0 (eqb-flip k.number e.number two.0), more e ks apart.1 two.1)

-- one less
still_none : (n m : ℕ) (es : List Entry) → has_number n (numbers es) ≡ false → has_number n (numbers (filter (λ k. not (k.number == m)) es)) ≡ false
still_none n m [] none = none
still_none n m (k ∷ ks) none =
    let two = or_false (k.number == n) (has_number n (numbers ks)) none in by_case (k.number == m) two.0 (still_none n m ks two.1)
  where
    by_case : (b : Bool) → (k.number == n) ≡ false → has_number n (numbers (filter (λ k. not (k.number == m)) ks)) ≡ false
        → has_number n (numbers (if not b then k ∷ filter (λ k. not (k.number == m)) ks else filter (λ k. not (k.number == m)) ks)) ≡ false
    by_case true one rest = rest
    by_case false one rest = false_or (k.number == n) (has_number n (numbers (filter (λ k. not (k.number == m)) ks))) one rest

less : (m : ℕ) (es : List Entry) → AreDistinct (numbers es) → AreDistinct (numbers (filter (λ k. not (k.number == m)) es))
less m [] apart = apart
less m (k ∷ ks) apart = by_case (k.number == m) (still_none k.number m ks apart.0) (less m ks apart.1)
  where
    by_case : (b : Bool) → has_number k.number (numbers (filter (λ k. not (k.number == m)) ks)) ≡ false
        → AreDistinct (numbers (filter (λ k. not (k.number == m)) ks))
        → AreDistinct (numbers (if not b then k ∷ filter (λ k. not (k.number == m)) ks else filter (λ k. not (k.number == m)) ks))
    by_case true one rest = rest
    by_case false one rest = (one, rest)

-- another one under its number
pub same : (e : Entry) (es : List Entry) → numbers (with_entry e es) ≡ numbers es
same e [] = refl
same e (k ∷ ks) = by_case (k.number == e.number) refl (same e ks)
  where
    by_case : (b : Bool) → (k.number == e.number) ≡ b → numbers (with_entry e ks) ≡ numbers ks
        → numbers (if b then e ∷ ks else k ∷ with_entry e ks) ≡ k.number ∷ numbers ks
    by_case true is rest = ap (λ n. n ∷ numbers ks) (sym (eqb-true k.number e.number is))
    by_case false is rest = ap (λ ns. k.number ∷ ns) rest

-- ---- each ending

module _ (p : Setting) (x : Seat) (apart : AreDistinct (numbers x.table)) where
  abbrev N : Seat → Type 0
  N z = AreDistinct (numbers z.table)

  new_of : (e : Entry) → ⊥ ⊎ (has_number e.number (numbers x.table) ≡ false) → has_number e.number (numbers x.table) ≡ false
  new_of e (inl loan) = absurd loan
  new_of e (inr new) = new

  sent : (k : Entry) (copied : Bool) (count : ℕ) (request : Bool)
      → IsSentLoan (endings.Sends k copied count) ⊎ (has_number k.number (numbers x.table) ≡ false)
      → N (if request then settle.sends_entry x k copied count else settle.sends_away x k copied)
  sent k true count true new = more (sent_entry k count) x.table apart (new_of (sent_entry k count) new)
  sent k true count false new = apart
  sent k false count true new = subst AreDistinct (sym (same (sent_entry k count) x.table)) apart
  sent k false count false new = less k.number x.table apart

  failed : (k : Entry) (copied : Bool) → N (settle.after_refused_send x k copied)
  failed k true = apart
  failed k false = less k.number x.table apart

  dropped : (k : Entry) (b : Bool) → N (settle.loses (if b then at_count x (way_in k) (λ n. n - 1) else at_desk x k.port (gives_up k)) k)
  dropped k true = less k.number x.table apart
  dropped k false = less k.number x.table apart

  forgot : (dead : ℕ) (b : Bool) → N (if b then x else settle.forgets p x dead)
  forgot dead true = apart
  forgot dead false = apart

pub ends_keep_numbers : EndsKeepNumbers
ends_keep_numbers p x (endings.Lends o slot) apart new =
    more (entry_in o slot) x.table apart (new_of p x apart (entry_in o slot) (new (entry_in o slot) refl))
ends_keep_numbers p x (endings.Sends k copied count) apart new =
    sent p x apart k copied count (is_request_loan k.kind) (new (sent_entry k count) refl)
ends_keep_numbers p x (endings.FailsToSend k copied r) apart new = failed p x apart k copied
ends_keep_numbers p x (endings.Receives v w slot header) apart new =
    let e = received_entry (next_handle p x) v w slot header in more e x.table apart (new_of p x apart e (new e refl))
ends_keep_numbers p x (endings.Drops k) apart new = dropped p x apart k (is_received k.kind)
ends_keep_numbers p x (endings.Forgets dead) apart new = forgot p x apart dead (has_number dead x.forgot)
ends_keep_numbers p x ending apart new = apart
