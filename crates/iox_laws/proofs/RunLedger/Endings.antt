-- What the end of a call of a hub makes of handles and loans: no serial gets a further right to be
-- sent, and what was sent has none; what a receiver took is a handle, and what it gave back is none.
use Rattle.std.specs.Prelude.{◌≡◌, ℕ, ◌+◌, ◌≤◌, Bool, true, false, ◌&&◌, if◌then◌else◌, ◌==◌, nat_le, List, [], ◌∷◌, ◌++◌, filter, Some, None, refl}
use Rattle.std.proofs.Common.{sym, subst, ap, ◌∙◌, true≢false, eqb-true, arith}
use Rattle.std.proofs.lemmas.List.{append-nil}
use Rattle.iox_model.specs.declared.way.Way.{Way}
use Rattle.iox_model.specs.Counts.{without_handle}
use Rattle.iox_model.specs.Doings.{Receiver, Outcome, Receives, Drops, Ended}
use Rattle.iox_model.specs.Handles.{is_received, way_of}
use Rattle.iox_laws.specs.WeaveLaws.Ledgers.{if_on, has_received, held_on}
use Rattle.iox_model.specs.Maps.{put_at, same_way}
use Rattle.iox_model.specs.Messages.{Message}
use Rattle.iox_model.specs.States.{Handle}
use Rattle.iox_laws.proofs.WeaveLedger.ReceivedHandles.{received-on}
use Rattle.iox_laws.proofs.WeaveLedger.Truths.{by_cases}
use Rattle.iox_laws.proofs.WeaveLedger.Counts.{count, one_if}
use Rattle.iox_laws.proofs.WeaveLedger.Outs.{is}
use Rattle.iox_laws.proofs.WeaveLedger.Quiet.{serials, held-quiet, held-taken, is_quiet_outcome}
use Rattle.iox_laws.proofs.WeaveLedger.Senders.{is_loan}
use Rattle.iox_laws.proofs.WeaveLedger.Tallies.{filter-last, without-passes}
use Rattle.iox_laws.proofs.WeaveLedger.Views.{not-equal}
use Rattle.iox_laws.proofs.RunLedger.Rights.{is_loan_from, loaned_in, right_of, plus-rights}
use Rattle.iox_laws.proofs.WeaveLaws.CallLaws.{put_at-else}

-- ---- what is held

-- what changes no received handle
pub held-same : (y : Way) (hs hs' : List Handle) (o : Outcome) → is_quiet_outcome o ≡ true → filter (has_received y) hs' ≡ filter (has_received y) hs
    → held_on y hs' None ≡ held_on y hs (Some (Ended o))
held-same y hs hs' o quiet e = ap serials e ∙ sym (held-quiet y hs (Ended o) quiet)

-- what was received is a handle of its way
pub taken-held : (y w : Way) (hs : List Handle) (h : Handle) (x : Receiver) (m : Message) → is_received h.kind ≡ true → way_of h ≡ w
    → h.message.serial ≡ m.serial
    → held_on y (hs ++ h ∷ []) None ≡ held_on y hs (Some (Ended (Receives x w m)))
taken-held y w hs h x m received way serial =
    ap serials (filter-last (has_received y) hs h)
    ∙ last (filter (has_received y) hs) (has_received y h) (same_way y w) (received-on y h received ∙ ap (same_way y) way)
    ∙ sym (held-taken y hs (if_on y w m.serial))
  where
    last : (gs : List Handle) (a b : Bool) → a ≡ b → serials (gs ++ (if a then h ∷ [] else [])) ≡ serials gs ++ (if b then m.serial ∷ [] else [])
    last [] true true e = ap (λ k. k ∷ []) serial
    last [] false false e = refl
    last [] true false e = absurd (true≢false e)
    last [] false true e = absurd (true≢false (sym e))
    last (g ∷ gs) a b e = ap (λ ks. g.message.serial ∷ ks) (last gs a b e)

-- what was given back is none
pub dropped-held : (y : Way) (hs : List Handle) (h : Handle) → held_on y (without_handle h hs) None ≡ held_on y hs (Some (Ended (Drops h)))
dropped-held y hs h = ap serials (without-passes (has_received y) h hs) ∙ sym (append-nil _)

-- ---- rights

-- how often a serial may be sent, by these handles and by loans to come
abbrev pub rights_in : List Handle → ℕ → ℕ → ℕ → ℕ
rights_in hs loans port k = count (is k) (loaned_in hs port) + one_if (nat_le loans k)

pub no-right : (port k : ℕ) (h : Handle) → is_loan h.kind ≡ false → right_of port k h ≡ 0
no-right port k h e = ap (λ (b : Bool). if b && (h.port == port) then one_if (k == h.message.serial) else 0) e

other-right : (port k : ℕ) (h : Handle) → (h.port == port) ≡ false → right_of port k h ≡ 0
other-right port k h e = by_case (is_loan h.kind)
  where
    by_case : (b : Bool) → (if b && (h.port == port) then one_if (k == h.message.serial) else 0) ≡ 0
    by_case true = ap (λ (b : Bool). if b then one_if (k == h.message.serial) else 0) e
    by_case false = refl

-- one loan more of the port: the serial that was to come
plus-one : (loans k : ℕ) → one_if (k == loans) + one_if (nat_le (loans + 1) k) ≤ one_if (nat_le loans k)
plus-one loans k = by_case (k == loans) (nat_le (loans + 1) k) (nat_le loans k) refl refl refl
  where
    by_case : (a b c : Bool) → (k == loans) ≡ a → nat_le (loans + 1) k ≡ b → nat_le loans k ≡ c → one_if a + one_if b ≤ one_if c
    by_case true true c e f g = absurd (both k loans e f)
      where
        both : (k loans : ℕ) → (k == loans) ≡ true → nat_le (loans + 1) k ≡ true → ⊥
        both k loans e f = grind (arith)
    by_case true false true e f g = omega arith
    by_case true false false e f g = absurd (first k loans e g)
      where
        first : (k loans : ℕ) → (k == loans) ≡ true → nat_le loans k ≡ false → ⊥
        first k loans e g = grind (arith)
    by_case false true true e f g = omega arith
    by_case false true false e f g = absurd (second k loans f g)
      where
        second : (k loans : ℕ) → nat_le (loans + 1) k ≡ true → nat_le loans k ≡ false → ⊥
        second k loans f g = grind (arith)
    by_case false false c e f g = least (one_if c)
      where
        least : (n : ℕ) → 0 ≤ n
        least n = omega arith

pub less-to-come : (loans k : ℕ) → one_if (nat_le (loans + 1) k) ≤ one_if (nat_le loans k)
less-to-come loans k = part (one_if (k == loans)) (one_if (nat_le (loans + 1) k)) (one_if (nat_le loans k)) (plus-one loans k)
  where
    part : (a b c : ℕ) → a + b ≤ c → b ≤ c
    part a b c p = omega arith

right-few : (port k : ℕ) (h : Handle) → right_of port k h ≤ one_if (k == h.message.serial)
right-few port k h = by_case (is_loan_from port h)
  where
    self : (a : ℕ) → a ≤ a
    self a = omega arith

    least : (a : ℕ) → 0 ≤ a
    least a = omega arith

    by_case : (b : Bool) → (if b then one_if (k == h.message.serial) else 0) ≤ one_if (k == h.message.serial)
    by_case true = self (one_if (k == h.message.serial))
    by_case false = least (one_if (k == h.message.serial))

-- a new loan has the serial that was to come
pub lent-rights : (hs : List Handle) (loans : ℕ → ℕ) (h : Handle) (port k : ℕ) → h.message.serial ≡ loans h.port
    → rights_in (hs ++ h ∷ []) (put_at loans h.port (loans h.port + 1) port) port k ≤ rights_in hs (loans port) port k
lent-rights hs loans h port k serial = by_cases (port == h.port)
    (λ here.
    let e : port ≡ h.port = eqb-true port h.port here in
    more (count (is k) (loaned_in (hs ++ h ∷ []) port)) (count (is k) (loaned_in hs port)) (right_of port k h) (one_if (k == h.message.serial))
    (one_if (nat_le (put_at loans h.port (loans h.port + 1) port) k)) (one_if (nat_le (loans port) k)) (plus-rights port k h hs) (right-few port k h)
    (subst (λ l. one_if (k == h.message.serial) + one_if (nat_le l k) ≤ one_if (nat_le (loans port) k))
    (sym (ap (λ (b : Bool). if b then loans h.port + 1 else loans port) here))
    (subst (λ q. one_if (k == h.message.serial) + one_if (nat_le (loans h.port + 1) k) ≤ one_if (nat_le (loans q) k)) (sym e)
    (subst (λ n. one_if (k == n) + one_if (nat_le (loans h.port + 1) k) ≤ one_if (nat_le (loans h.port) k)) (sym serial) (plus-one (loans h.port) k)))))
    (λ other.
    more (count (is k) (loaned_in (hs ++ h ∷ []) port)) (count (is k) (loaned_in hs port)) (right_of port k h) 0
    (one_if (nat_le (put_at loans h.port (loans h.port + 1) port) k)) (one_if (nat_le (loans port) k)) (plus-rights port k h hs)
    (zero (right_of port k h) (other-right port k h (not-equal h.port port other)))
    (subst (λ l. 0 + one_if (nat_le l k) ≤ one_if (nat_le (loans port) k)) (sym (put_at-else loans h.port (loans h.port + 1) port other))
    (same (one_if (nat_le (loans port) k)))))
  where
    more : (a b c d e f : ℕ) → a ≡ b + c → c ≤ d → d + e ≤ f → a + e ≤ b + f
    more a b c d e f p q r = omega arith

    zero : (a : ℕ) → a ≡ 0 → a ≤ 0
    zero a e = omega arith

    same : (a : ℕ) → 0 + a ≤ a
    same a = omega arith
