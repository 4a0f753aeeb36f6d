-- How often a port may yet send a serial: as a loan that it has, and as a loan to come.
use Rattle.std.specs.Prelude.{◌≡◌, ℕ, ◌+◌, ◌≤◌, ◌<◌, Bool, true, false, not, ◌&&◌, if◌then◌else◌, ◌==◌, nat_lt, nat_le, List, [], ◌∷◌, ◌++◌, map, filter, refl}
use Rattle.std.proofs.Common.{sym, subst, ap, ◌∙◌, eqb-true, eq-eqb, arith, inl, inr}
use Rattle.iox_model.specs.Counts.{is_same_handle, without_handle, with_handle}
use Rattle.iox_model.specs.States.{Handle, Fixed}
use Rattle.iox_laws.proofs.WeaveLaws.MapLemmas.{eqb-refl}
use Rattle.iox_laws.proofs.WeaveLedger.Truths.{by_cases}
use Rattle.iox_laws.proofs.WeaveLedger.Counts.{count, one_if, count-cons}
use Rattle.iox_laws.proofs.WeaveLedger.HadMoves.{HasOwnHandles}
use Rattle.iox_laws.proofs.WeaveLedger.Lists.{IsAmong, among-filter, among-map, no_repeats-map_filter}
use Rattle.iox_laws.proofs.WeaveLedger.Outs.{is}
use Rattle.iox_laws.proofs.WeaveLedger.Quiet.{serials}
use Rattle.iox_laws.proofs.WeaveLedger.Senders.{is_loan, FitsHandles}
use Rattle.iox_laws.proofs.WeaveLedger.Tallies.{without-passes, but-one}
use Rattle.iox_laws.proofs.WeaveLedger.Views.{view, mine}
use Rattle.iox_laws.proofs.RunLaws.Beginning.{AreKept}
use Rattle.iox_laws.proofs.RunLaws.Rests.{Rests}

abbrev pub is_loan_from : ℕ → Handle → Bool
is_loan_from port h = is_loan h.kind && (h.port == port)

-- the serials of the loans that a port has among these handles
abbrev pub loaned_in : List Handle → ℕ → List ℕ
loaned_in hs port = serials (filter (is_loan_from port) hs)

-- how often a node may yet send that serial from the port
abbrev pub rights : Fixed → ℕ → ℕ → ℕ → ℕ
rights f n port k = count (is k) (loaned_in (f.handles n) port) + one_if (nat_le (f.loans port) k)

-- and how often by this handle
abbrev pub right_of : ℕ → ℕ → Handle → ℕ
right_of port k h = if is_loan_from port h then one_if (k == h.message.serial) else 0

abbrev pub AreFew : Fixed → Type 0
AreFew f = (n port k : ℕ) → rights f n port k ≤ 1

-- ---- one handle more, less, or in place of another

pub cons-rights : (port k : ℕ) (h : Handle) (hs : List Handle) → count (is k) (loaned_in (h ∷ hs) port) ≡ right_of port k h + count (is k) (loaned_in hs port)
cons-rights port k h hs = by_case (is_loan_from port h)
  where
    none : (a : ℕ) → a ≡ 0 + a
    none a = omega arith

    by_case : (b : Bool) → count (is k) (serials (if b then h ∷ filter (is_loan_from port) hs else filter (is_loan_from port) hs))
        ≡ (if b then one_if (k == h.message.serial) else 0) + count (is k) (loaned_in hs port)
    by_case true = count-cons (is k) h.message.serial (loaned_in hs port)
    by_case false = none (count (is k) (loaned_in hs port))

pub plus-rights : (port k : ℕ) (h : Handle) (hs : List Handle)
    → count (is k) (loaned_in (hs ++ h ∷ []) port) ≡ count (is k) (loaned_in hs port) + right_of port k h
plus-rights port k h [] = cons-rights port k h [] ∙ flip (right_of port k h)
  where
    flip : (a : ℕ) → a + 0 ≡ 0 + a
    flip a = omega arith
plus-rights port k h (g ∷ gs) =
    joins (count (is k) (loaned_in (g ∷ (gs ++ h ∷ [])) port)) (right_of port k g) (count (is k) (loaned_in (gs ++ h ∷ []) port))
    (count (is k) (loaned_in gs port))
    (right_of port k h) (count (is k) (loaned_in (g ∷ gs) port)) (cons-rights port k g (gs ++ h ∷ [])) (plus-rights port k h gs) (cons-rights port k g gs)
  where
    joins : (a b c d e f : ℕ) → a ≡ b + c → c ≡ d + e → f ≡ b + d → a ≡ f + e
    joins a b c d e f p q r = omega arith

pub less-rights : (port k : ℕ) (h : Handle) (hs : List Handle) → HasOwnHandles hs → IsAmong h hs
    → count (is k) (loaned_in hs port) ≡ count (is k) (loaned_in (without_handle h hs) port) + right_of port k h
less-rights port k h hs own among =
    but-one (is_loan_from port) (is k) h hs own among
    ∙ ap (λ gs. count (is k) (serials gs) + right_of port k h) (sym (without-passes (is_loan_from port) h hs))

pub with-rights : (port k : ℕ) (h old : Handle) (hs : List Handle) → HasOwnHandles hs → IsAmong old hs → h.number ≡ old.number
    → count (is k) (loaned_in (with_handle h hs) port) + right_of port k old ≡ count (is k) (loaned_in hs port) + right_of port k h
with-rights port k h old [] own among number = absurd among
with-rights port k h old (g ∷ gs) own (inl e) number =
    subst (λ (xs : List Handle). count (is k) (loaned_in xs port) + right_of port k old ≡ count (is k) (loaned_in (g ∷ gs) port) + right_of port k h)
    (sym (ap (λ (b : Bool). if b then h ∷ gs else g ∷ with_handle h gs) (eq-eqb g.number h.number (sym (ap (λ (x : Handle). x.number) e) ∙ sym number))))
    (subst (λ x. count (is k) (loaned_in (h ∷ gs) port) + right_of port k x ≡ count (is k) (loaned_in (g ∷ gs) port) + right_of port k h) (sym e)
    (swaps (count (is k) (loaned_in (h ∷ gs) port)) (right_of port k h) (count (is k) (loaned_in gs port)) (right_of port k g)
    (count (is k) (loaned_in (g ∷ gs) port))
    (cons-rights port k h gs) (cons-rights port k g gs)))
  where
    swaps : (a b c d e : ℕ) → a ≡ b + c → e ≡ d + c → a + d ≡ e + b
    swaps a b c d e p q = omega arith
with-rights port k h old (g ∷ gs) own (inr a) number =
    subst (λ (xs : List Handle). count (is k) (loaned_in xs port) + right_of port k old ≡ count (is k) (loaned_in (g ∷ gs) port) + right_of port k h)
    (sym (ap (λ (b : Bool). if b then h ∷ gs else g ∷ with_handle h gs) other))
    (more (count (is k) (loaned_in (g ∷ with_handle h gs) port)) (right_of port k g) (count (is k) (loaned_in (with_handle h gs) port)) (right_of port k old)
    (count (is k) (loaned_in gs port)) (right_of port k h) (count (is k) (loaned_in (g ∷ gs) port))
    (cons-rights port k g (with_handle h gs)) (with-rights port k h old gs own.1 a number) (cons-rights port k g gs))
  where
    other : (g.number == h.number) ≡ false
    other =
        by_cases (g.number == h.number)
        (λ same. absurd (own.0 (subst (λ n. IsAmong n (map (λ (x : Handle). x.number) gs)) (sym number ∙ sym (eqb-true g.number h.number same))
        (among-map (λ (x : Handle). x.number) old gs a)))) (λ e. e)

    more : (a b c d e f g : ℕ) → a ≡ b + c → c + d ≡ e + f → g ≡ b + e → a + d ≡ g + f
    more a b c d e f g p q r = omega arith

-- ---- a loan that is there

pub own-right : (h : Handle) → is_loan h.kind ≡ true → right_of h.port h.message.serial h ≡ 1
own-right h loan =
    ap (λ (b : Bool). if b && (h.port == h.port) then one_if (h.message.serial == h.message.serial) else 0) loan
    ∙ ap (λ (b : Bool). if b then one_if (h.message.serial == h.message.serial) else 0) (eqb-refl h.port) ∙ ap one_if (eqb-refl h.message.serial)

pub has-right : (h : Handle) (hs : List Handle) → HasOwnHandles hs → IsAmong h hs → is_loan h.kind ≡ true
    → 1 ≤ count (is h.message.serial) (loaned_in hs h.port)
has-right h hs own among loan =
    one (count (is h.message.serial) (loaned_in hs h.port)) (count (is h.message.serial) (loaned_in (without_handle h hs) h.port))
    (right_of h.port h.message.serial h) (less-rights h.port h.message.serial h hs own among) (own-right h loan)
  where
    one : (a b c : ℕ) → a ≡ b + c → c ≡ 1 → 1 ≤ a
    one a b c p q = omega arith

-- no two loans of a port have one serial
only-loan : (g h : Handle) (hs : List Handle) → HasOwnHandles hs → count (is h.message.serial) (loaned_in hs h.port) ≤ 1 → IsAmong g hs → IsAmong h hs
    → is_loan g.kind ≡ true → is_loan h.kind ≡ true → g.port ≡ h.port → g.message.serial ≡ h.message.serial → g.number ≡ h.number
only-loan g h hs own few a b l m port serial =
    by_cases (g.number == h.number) (eqb-true g.number h.number)
    (λ other. absurd (two (count (is h.message.serial) (loaned_in hs h.port)) (count (is h.message.serial) (loaned_in (without_handle h hs) h.port))
    (right_of h.port h.message.serial h) (less-rights h.port h.message.serial h hs own b) (own-right h m) (rest other) few))
  where
    rest : (g.number == h.number) ≡ false → 1 ≤ count (is h.message.serial) (loaned_in (without_handle h hs) h.port)
    rest other =
        subst (λ k. 1 ≤ count (is k) (loaned_in (without_handle h hs) h.port)) serial
        (subst (λ q. 1 ≤ count (is g.message.serial) (loaned_in (without_handle h hs) q)) port
        (has-right g (without_handle h hs) (no_repeats-map_filter (λ (k : Handle). k.number) (λ k. not (is_same_handle h k)) hs own)
        (among-filter (λ k. not (is_same_handle h k)) g hs a (ap not other)) l))

    two : (a b c : ℕ) → a ≡ b + c → c ≡ 1 → 1 ≤ b → a ≤ 1 → ⊥
    two a b c p q r t = omega arith

-- ---- what a node has

below : (a b c : ℕ) → nat_lt a b ≡ true → a < b + c
below a b c e = grind (arith)

-- a loan that is there is none to come
pub was-lent : (f : Fixed) (n : ℕ) (h : Handle) → AreFew f → HasOwnHandles (f.handles n) → IsAmong h (f.handles n) → is_loan h.kind ≡ true
    → h.message.serial < f.loans h.port
was-lent f n h few own among loan =
    less (f.loans h.port) h.message.serial (count (is h.message.serial) (loaned_in (f.handles n) h.port)) (nat_le (f.loans h.port) h.message.serial) refl
    (has-right h (f.handles n) own among loan) (few n h.port h.message.serial)
  where
    less : (a b c : ℕ) (e : Bool) → nat_le a b ≡ e → 1 ≤ c → c + one_if e ≤ 1 → b < a
    less a b c true e p q = absurd (omega arith)
    less a b c false e p q = grind (arith)

pub fits_handles : (f : Fixed) (n : ℕ) → Rests f → AreKept f → AreFew f → FitsHandles (view f n) n
fits_handles f n r kept few = record {
  apart = (r.handles n).apart;
  below = λ h a. below h.number f.next_number (f.handles_made n) ((r.handles n).each h a).below;
  of_node = λ h a. ((r.handles n).each h a).of_node;
  of_port = λ h a. (((r.handles n).each h a).of_port).1;
  made = λ h a l. (kept n h a).loan l;
  lent = λ h a l.
      subst (λ k. h.message.serial < k) (sym (ap (λ (b : Bool). if b then f.loans h.port else 0) (mine f.ports h.port n (((r.handles n).each h a).of_port).1)))
      (was-lent f n h few (r.handles n).apart a l);
  alone = λ g h a b l m port serial.
      only-loan g h (f.handles n) (r.handles n).apart
      (part (count (is h.message.serial) (loaned_in (f.handles n) h.port)) (one_if (nat_le (f.loans h.port) h.message.serial))
      (few n h.port h.message.serial)) a b l m port serial;
}
  where
    part : (a b : ℕ) → a + b ≤ 1 → a ≤ 1
    part a b p = omega arith
