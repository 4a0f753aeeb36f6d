-- The cell of a position, by that of a position before it.
use Rattle.std.proofs.Common.{◌≡◌, ℕ, ◌+◌, ◌-◌, ◌%◌, ◌<◌, ◌≤◌, max, suc, arith, sym, subst, ◌∙◌}
use Rattle.std.proofs.Math.Nat.{suc-mod, mod-eq_of_lt, mod_self, mod-add-mod, add-mod_left}
use Rattle.std.proofs.lemmas.Nat.{mod_below}
use Rattle.iox_steps.specs.declared.site.Site.{Site}
use Rattle.iox_queue_steps.specs.declared.stored.cell.Cursor.{Cursor}
use Rattle.iox_steps.specs.Sites.{cells, cell_at}
use Rattle.iox_queue_steps.specs.StoredPlaces.{KnowsCell}

next_mod : (n p : ℕ) → (p + 1) % n ≡ (p % n + 1) % n
next_mod n p =
    let next : p + 1 ≡ suc p = omega arith in
    let rest : p % n + 1 ≡ suc (p % n) = omega arith in
    rw (next, rest) (suc-mod p n)

module _ (site : Site) (last known cell : ℕ) (knows : KnowsCell site (record { next = known; cell = cell; last = last })) where
  pub cell_after-inside : cell < last → cell + 1 ≡ cell_at site (known + 1)
  cell_after-inside inside =
      let n : ℕ = max 1 (cells site) in
      let stands = knows.stands in
      let end = knows.end in
      let below : known % n + 1 < n = omega arith in
      omega (arith, next_mod n known ∙ mod-eq_of_lt below)

  pub cell_after-around : last ≤ cell → site.base + 2 ≡ cell_at site (known + 1)
  cell_after-around around =
      let n : ℕ = max 1 (cells site) in
      let stands = knows.stands in
      let end = knows.end in
      let less = mod_below known n (omega arith) in
      let last : known % n + 1 ≡ n = omega arith in
      let first : (known % n + 1) % n ≡ 0 = rw last (mod_self n) in
      omega (arith, next_mod n known ∙ first)

module _ (site : Site) (cursor : Cursor) (ahead : ℕ) (knows : KnowsCell site cursor) (some : 0 < ahead) (round : ahead ≤ cells site) where
  pub cell_is_inside : cursor.cell ≤ cursor.last
  cell_is_inside =
      let n : ℕ = max 1 (cells site) in
      omega (arith, knows.stands, knows.end, mod_below cursor.next n (omega arith))

  pub cell_ahead-inside : ahead ≤ cursor.last - cursor.cell → cursor.cell + ahead ≡ cell_at site (cursor.next + ahead)
  cell_ahead-inside inside =
      let n : ℕ = max 1 (cells site) in
      let stands = knows.stands in
      let end = knows.end in
      let less = mod_below cursor.next n (omega arith) in
      let below : cursor.next % n + ahead < n = omega arith in
      omega (arith, sym (mod-add-mod cursor.next n ahead) ∙ mod-eq_of_lt below)

  pub cell_ahead-around : cursor.last - cursor.cell < ahead → site.base + 1 + (ahead - (cursor.last - cursor.cell)) ≡ cell_at site (cursor.next + ahead)
  cell_ahead-around around =
      let n : ℕ = max 1 (cells site) in
      let stands = knows.stands in
      let end = knows.end in
      let less = mod_below cursor.next n (omega arith) in
      let k : ℕ = cursor.next % n + ahead - n in
      let sum : cursor.next % n + ahead ≡ n + k = omega arith in
      let below : k < n = omega arith in
      let rest : (cursor.next % n + ahead) % n ≡ k = subst (λ m. m % n ≡ k) (sym sum) (add-mod_left n k ∙ mod-eq_of_lt below) in
      omega (arith, sym (mod-add-mod cursor.next n ahead) ∙ rest)
