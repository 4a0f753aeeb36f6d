-- What a lane that can take a message becomes as it takes one.
use Rattle.std.specs.Prelude.{◌≡◌, ℕ, ◌+◌, ◌-◌, ◌<◌, ◌≤◌, ◌^◌, Bool, true, false, ◌&&◌, if◌then◌else◌, nat_lt, List, [], ◌∷◌, ◌++◌, length, drop, None, slice_get, refl}
use Rattle.std.proofs.Common.{sym, ap, ◌∙◌, arith}
use Rattle.std.proofs.lemmas.Bool.{leb-false, leb-true, lt-ltb}
use Rattle.std.proofs.lemmas.List.{length-drop}
use Rattle.iox_lanes.specs.Lanes.{LaneState, IsSound, delivered, has_room, is_full, offered, oldest, outstanding, without_oldest}
use Rattle.iox_hub_ports.specs.Ports.{pushed, pushed_out, with_one_out}
use Rattle.iox_hub_ports.proofs.Pushes.{pushed_where_room}
use Rattle.iox_tables.specs.HubBooks.Keeps.{delivers}
use Rattle.iox_hub_delivering.specs.Deliveries.{pushed_out_by}
use Rattle.iox_control_requests.specs.Deliveries.{CanTake}

three : (a b c : Bool) → a ≡ true → b ≡ true → c ≡ true → (a && b && c) ≡ true
three true true true x y z = refl
three true true false x y z = z
three true false c x y z = y
three false b c x y z = x

module _ (pool : ℕ) (l : LaneState) (sound : IsSound l) (can : CanTake pool l) where
  none_returned : length l.returned ≡ 0
  none_returned = ap length can.returned

  free_room : is_full l ≡ false → has_room l ≡ true
  free_room free =
      let less : length l.waiting < l.buffer = leb-false l.buffer (length l.waiting) free in
      three (nat_lt (length l.waiting) l.buffer) (nat_lt (outstanding l) (l.buffer + l.limit)) (nat_lt l.deliveries (2 ^ 64 - 1))
      (lt-ltb (length l.waiting) l.buffer less)
      (lt-ltb (outstanding l) (l.buffer + l.limit) (omega (arith, less, none_returned, sound.has)))
      (lt-ltb l.deliveries (2 ^ 64 - 1) can.deliveries)

  full_room : is_full l ≡ true → has_room (without_oldest l) ≡ true
  full_room full =
      let more : l.buffer ≤ length l.waiting = leb-true l.buffer (length l.waiting) full in
      let left : length (drop 1 l.waiting) ≡ length l.waiting - 1 = length-drop 1 l.waiting in
      three (nat_lt (length (drop 1 l.waiting)) l.buffer) (nat_lt (outstanding (without_oldest l)) (l.buffer + l.limit)) (nat_lt l.deliveries (2 ^ 64 - 1))
      (lt-ltb (length (drop 1 l.waiting)) l.buffer (omega (arith, left, sound.waits, can.buffer)))
      (lt-ltb (outstanding (without_oldest l)) (l.buffer + l.limit) (omega (arith, left, sound.waits, can.buffer, none_returned, sound.has)))
      (lt-ltb l.deliveries (2 ^ 64 - 1) can.deliveries)

  room : has_room (with_one_out l) ≡ true
  room = step (is_full l) refl
    where
      step : (b : Bool) → is_full l ≡ b → has_room (if b then without_oldest l else l) ≡ true
      step true e = full_room e
      step false e = free_room e

  -- where it is not full, the message is last in line, with overflow and without
  pub free_takes : (overflow : Bool) (k : ℕ) → is_full l ≡ false → offered l k ≡ delivers overflow k l
  free_takes false k free = ap (λ (b : Bool). if b then delivered l k else l) (free_room free)
  free_takes true k free =
      ap (λ (b : Bool). offered (if b then without_oldest l else l) k) (sym free)
      ∙ pushed_where_room l k can.buffer room

  -- where it is full, the oldest is out
  pub full_takes : (k : ℕ) → pushed l k ≡ delivers true k l
  full_takes k = pushed_where_room l k can.buffer room

  -- nothing is pushed out where it is not full
  pub free_out : (overflow : Bool) (k : ℕ) → is_full l ≡ false → pushed_out_by overflow k l ≡ None
  free_out false k free = refl
  free_out true k free = ap (λ (b : Bool). if b then oldest (delivered l k) else None) free

  -- with overflow what is pushed out is the oldest, whether it is full or not
  pub full_out : (k : ℕ) → pushed_out l ≡ pushed_out_by true k l
  full_out k = step (is_full l) (λ full. full_has (leb-true l.buffer (length l.waiting) full))
    where
      full_has : l.buffer ≤ length l.waiting → slice_get l.waiting 0 ≡ slice_get (l.waiting ++ k ∷ []) 0
      full_has more = first l.waiting (omega (arith, more, can.buffer))
        where
          first : (ks : List ℕ) → 1 ≤ length ks → slice_get ks 0 ≡ slice_get (ks ++ k ∷ []) 0
          first [] some = absurd (omega (arith, some))
          first (j ∷ js) some = refl

      step : (b : Bool) → (b ≡ true → slice_get l.waiting 0 ≡ slice_get (l.waiting ++ k ∷ []) 0)
          → (if b then oldest l else None) ≡ (if b then oldest (delivered l k) else None)
      step true has = has refl
      step false has = refl
