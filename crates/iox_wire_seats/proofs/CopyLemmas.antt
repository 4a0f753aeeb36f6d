-- Two changes of the desk of one port are one.
use Rattle.std.proofs.Common.{◌≡◌, ℕ, ◌<◌, ◌==◌, Bool, true, false, cond, List, [], ◌∷◌, map, slice_index, refl, ap, sym, subst, ◌∙◌}
use Rattle.iox_wire_locals.specs.declared.table.Entry.{Entry}
use Rattle.iox_wire_locals.specs.declared.table.Desk.{Desk}
use Rattle.iox_wire_locals.specs.Desks.{counts_loan, on_desk}
use Rattle.iox_wire_seats.specs.Desks.{IsHeldAt, IsUsed, MayGiveUp}

changed_twice : (b : Bool) (d : Desk) (port : ℕ) (f g : Desk → Desk) → (d.port == port) ≡ b → (f d).port ≡ d.port
    → on_desk port g (cond b (f d) d) ≡ cond b (g (f d)) d
changed_twice true d port f g is same =
    ap (λ (t : Bool). cond t (g (f d)) (f d)) (ap (λ n. n == port) same ∙ is)
changed_twice false d port f g is same = ap (λ (t : Bool). cond t (g d) d) is

pub both_changed : (port : ℕ) (f g : Desk → Desk) (ds : List Desk) → ((d : Desk) → (f d).port ≡ d.port)
    → map (on_desk port g) (map (on_desk port f) ds) ≡ map (on_desk port (λ d. g (f d))) ds
both_changed port f g [] same = refl
both_changed port f g (d ∷ ds) same =
    ap (λ (e : Desk). e ∷ map (on_desk port g) (map (on_desk port f) ds)) (changed_twice (d.port == port) d port f g refl (same d))
    ∙ ap (λ (es : List Desk). on_desk port (λ d. g (f d)) d ∷ es) (both_changed port f g ds same)

-- ---- a count leaves what is in use

held_still : (b : Bool) (e : Entry) (d : Desk) → ((d.port == e.port) ≡ true → IsHeldAt e d)
    → ((cond b (counts_loan d) d).port == e.port) ≡ true → IsHeldAt e (cond b (counts_loan d) d)
held_still true e d held is = held is
held_still false e d held is = held is

pub held_counted : (port : ℕ) (e : Entry) (ds : List Desk) → MayGiveUp e ds → MayGiveUp e (map (on_desk port counts_loan) ds)
held_counted port e [] held = tt
held_counted port e (d ∷ ds) held = (held_still (d.port == port) e d held.0, held_counted port e ds held.1)

used_still : (b : Bool) (port slot : ℕ) (d : Desk) → ((d.port == port) ≡ true → 0 < slice_index d.uses slot)
    → ((cond b (counts_loan d) d).port == port) ≡ true → 0 < slice_index (cond b (counts_loan d) d).uses slot
used_still true port slot d used is = used is
used_still false port slot d used is = used is

pub used_counted : (n port slot : ℕ) (ds : List Desk) → IsUsed port slot ds → IsUsed port slot (map (on_desk n counts_loan) ds)
used_counted n port slot [] used = tt
used_counted n port slot (d ∷ ds) used = (used_still (d.port == n) port slot d used.0, used_counted n port slot ds used.1)
