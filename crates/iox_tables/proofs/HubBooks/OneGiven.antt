-- What stays of a lane that gets a message.
use Rattle.std.specs.Prelude.{◌≡◌, ℕ, ◌+◌, ◌≤◌, Bool, true, false, if◌then◌else◌, nat_lt, List, length, refl}
use Rattle.std.proofs.Common.{arith}
use Rattle.iox_lanes.specs.Lanes.{LaneState, delivered, without_oldest}
use Rattle.iox_tables.specs.HubBooks.Keeps.{delivers}
use Rattle.iox_tables.specs.HubBooks.Rooms.{spare}
use Rattle.iox_tables.proofs.HubBooks.Frames.{bare_lane}

module _ (overflow : Bool) (k : ℕ) where
  -- what is so of a lane to which something was delivered, and of it without its oldest
  gives : {A : Type 0} (f : LaneState → A) (a : A) (l : LaneState) → f (delivered l k) ≡ a → f (without_oldest (delivered l k)) ≡ a → f (delivers overflow k l) ≡ a
  gives f a l all less = step overflow (nat_lt l.buffer (length (delivered l k).waiting))
    where
      step : (b c : Bool) → f (if b then (if c then without_oldest (delivered l k) else delivered l k) else delivered l k) ≡ a
      step true true = less
      step true false = all
      step false c = all

  pub gives_bare : (l : LaneState) → bare_lane (delivers overflow k l) ≡ bare_lane l
  gives_bare l = gives bare_lane (bare_lane l) l refl refl

  pub gives_taken : (l : LaneState) → (delivers overflow k l).taken ≡ l.taken
  gives_taken l = gives (λ m. m.taken) l.taken l refl refl

  pub gives_spare : (l : LaneState) → spare (delivers overflow k l) ≡ spare l
  gives_spare l = gives spare (spare l) l refl refl

  counts_once : (l : LaneState) → (delivers overflow k l).deliveries ≡ l.deliveries + 1
  counts_once l = gives (λ m. m.deliveries) (l.deliveries + 1) l refl refl

  -- one delivery more is counted
  pub once_more : (n : ℕ) (l : LaneState) → l.deliveries ≤ n → (delivers overflow k l).deliveries ≤ n + 1
  once_more n l le = within _ _ (counts_once l) le
    where
      within : (a b : ℕ) → a ≡ b + 1 → b ≤ n → a ≤ n + 1
      within a b e f = omega (arith, e, f)
