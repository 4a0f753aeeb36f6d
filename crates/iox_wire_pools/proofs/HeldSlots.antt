-- How often a port's handles hold a slot, as the end of a call changes them.
use Rattle.std.specs.Prelude.{map, filter, ◌&&◌, ◌++◌, not}
use Rattle.std.proofs.Common.{◌≡◌, ℕ, ◌+◌, Bool, true, false, if◌then◌else◌, ◌==◌, List, [], ◌∷◌, Option, Some, None, refl, ap, sym, subst, ◌∙◌, arith, eqb-true}
use Rattle.iox_model.specs.Handles.{is_own}
use Rattle.iox_model.specs.Maps.{has_number, AreDistinct}
use Rattle.iox_laws.proofs.WeaveLaws.WholeLemmas.{some-is}
use Rattle.iox_laws.proofs.WeaveLedger.Truths.{or-false}
use Rattle.iox_wire_locals.specs.declared.table.Entry.{Entry}
use Rattle.iox_wire_locals.specs.Tables.{entry_at, sent_entry, with_entry, without_entry}
use Rattle.iox_wire_pools.specs.Uses.{how_often}
use Rattle.iox_wire_pools.proofs.Counting.{one_if}

-- the entries that are the port's own
abbrev own_in : ℕ → List Entry → List Entry
own_in port es = filter (λ e. is_own e.kind && (e.port == port)) es

-- the slots that they hold
abbrev pub held_in : ℕ → List Entry → List ℕ
held_in port es = map (λ e. e.slot) (own_in port es)

-- the slot of an entry that is the port's own
abbrev pub slot_of : ℕ → Entry → List ℕ
slot_of port e = if is_own e.kind && (e.port == port) then e.slot ∷ [] else []

swap : (a b c d : ℕ) → d ≡ b + c → a + d ≡ b + (a + c)
swap a b c d e = omega (arith, e)

-- the first one counts for itself
front : (port n : ℕ) (q : Entry) (qs : List Entry) → how_often n (held_in port (q ∷ qs)) ≡ how_often n (slot_of port q) + how_often n (held_in port qs)
front port n q qs = by_case (is_own q.kind && (q.port == port))
  where
    flat : (a b : ℕ) → a + b ≡ (a + 0) + b
    flat a b = omega arith

    zero_on : (a : ℕ) → a ≡ 0 + a
    zero_on a = omega arith

    by_case : (b : Bool) → how_often n (map (λ (r : Entry). r.slot) (if b then q ∷ own_in port qs else own_in port qs))
        ≡ how_often n (if b then q.slot ∷ [] else []) + how_often n (held_in port qs)
    by_case true = flat (one_if (q.slot == n)) (how_often n (held_in port qs))
    by_case false = zero_on (how_often n (held_in port qs))

-- one handle more
pub held_more : (port n : ℕ) (e : Entry) (es : List Entry) → how_often n (held_in port (es ++ e ∷ [])) ≡ how_often n (slot_of port e) + how_often n (held_in port es)
held_more port n e [] = front port n e []
held_more port n e (k ∷ ks) =
    front port n k (ks ++ e ∷ [])
    ∙ swap (how_often n (slot_of port k)) (how_often n (slot_of port e)) (how_often n (held_in port ks)) _ (held_more port n e ks)
    ∙ ap (λ m. how_often n (slot_of port e) + m) (sym (front port n k ks))

abbrev numbers_in : List Entry → List ℕ
numbers_in es = map (λ e. e.number) es

-- a table without that number stays
none_lost : (e : Entry) (es : List Entry) → has_number e.number (numbers_in es) ≡ false → without_entry e es ≡ es
none_lost e [] none = refl
none_lost e (k ∷ ks) none =
    let parts : ((k.number == e.number) ≡ false) × (has_number e.number (numbers_in ks) ≡ false)
    = or-false (k.number == e.number) (has_number e.number (numbers_in ks)) none in
    ap (λ b. if not b then k ∷ without_entry e ks else without_entry e ks) parts.0 ∙ ap (λ qs. k ∷ qs) (none_lost e ks parts.1)

-- one handle less
pub held_less : (port n : ℕ) (e : Entry) (es : List Entry) → entry_at e.number es ≡ Some e → AreDistinct (numbers_in es)
    → how_often n (held_in port es) ≡ how_often n (slot_of port e) + how_often n (held_in port (without_entry e es))
held_less port n e [] there apart = absurd (subst IsNone there tt)
  where
    IsNone : Option Entry → Type 0
    IsNone None = Unit {0}
    IsNone (Some q) = ⊥
held_less port n e (k ∷ ks) there apart = by_number (k.number == e.number) refl there (λ found. held_less port n e ks found apart.1)
  where
    by_number : (b : Bool) → (k.number == e.number) ≡ b → (if b then Some k else entry_at e.number ks) ≡ Some e
        → (entry_at e.number ks ≡ Some e → how_often n (held_in port ks) ≡ how_often n (slot_of port e) + how_often n (held_in port (without_entry e ks)))
        → how_often n (held_in port (k ∷ ks)) ≡ how_often n (slot_of port e) + how_often n (held_in port (if not b then k ∷ without_entry e ks else without_entry e ks))
    by_number true is found later =
        front port n k ks ∙ ap (λ q. how_often n (slot_of port q) + how_often n (held_in port ks)) (some-is k e found)
        ∙ ap (λ qs. how_often n (slot_of port e) + how_often n (held_in port qs))
        (sym (none_lost e ks (subst (λ m. has_number m (numbers_in ks) ≡ false) (eqb-true k.number e.number is) apart.0)))
    by_number false is found later =
        front port n k ks ∙ swap (how_often n (slot_of port k)) (how_often n (slot_of port e)) (how_often n (held_in port (without_entry e ks))) _ (later found)
        ∙ ap (λ m. how_often n (slot_of port e) + m) (sym (front port n k (without_entry e ks)))

-- a loan that is sent is the same port's, in the same slot
sent_slot : (port : ℕ) (e : Entry) (count : ℕ) → is_own e.kind ≡ true → slot_of port (sent_entry e count) ≡ slot_of port e
sent_slot port e count own = sym (ap (λ b. if b && (e.port == port) then e.slot ∷ [] else []) own)

pub held_sent : (port n : ℕ) (e : Entry) (count : ℕ) (es : List Entry) → entry_at e.number es ≡ Some e → is_own e.kind ≡ true
    → how_often n (held_in port (with_entry (sent_entry e count) es)) ≡ how_often n (held_in port es)
held_sent port n e count [] there own = refl
held_sent port n e count (k ∷ ks) there own = by_number (k.number == e.number) there (λ found. held_sent port n e count ks found own)
  where
    by_number : (b : Bool) → (if b then Some k else entry_at e.number ks) ≡ Some e
        → (entry_at e.number ks ≡ Some e → how_often n (held_in port (with_entry (sent_entry e count) ks)) ≡ how_often n (held_in port ks))
        → how_often n (held_in port (if b then sent_entry e count ∷ ks else k ∷ with_entry (sent_entry e count) ks)) ≡ how_often n (held_in port (k ∷ ks))
    by_number true found later =
        front port n (sent_entry e count) ks ∙ ap (λ slots. how_often n slots + how_often n (held_in port ks)) (sent_slot port e count own)
        ∙ sym (front port n e ks) ∙ ap (λ q. how_often n (held_in port (q ∷ ks))) (sym (some-is k e found))
    by_number false found later =
        front port n k (with_entry (sent_entry e count) ks) ∙ ap (λ m. how_often n (slot_of port k) + m) (later found) ∙ sym (front port n k ks)
