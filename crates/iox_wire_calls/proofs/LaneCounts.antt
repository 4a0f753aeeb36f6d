-- What the counts of lanes say of a client, and of a server.
use Rattle.std.specs.Prelude.{nat_lt}
use Rattle.std.proofs.Common.{◌≡◌, ℕ, ◌+◌, Bool, true, false, if◌then◌else◌, ◌==◌, List, [], ◌∷◌, refl, ap, sym, ◌∙◌, arith, true≢false}
use Rattle.iox_model.specs.Settings.{is_client}
use Rattle.iox_laws.proofs.WeaveLaws.MapLemmas.{eqb-refl}
use Rattle.iox_wire_steps.specs.Seat.{Seat}
use Rattle.iox_wire_steps.specs.Known.{free_lanes}
use Rattle.iox_wire_steps.specs.Tables.{Setting}
use Rattle.iox_wire_steps.specs.SlotsKnown.{IsPortOfSeat}
use Rattle.iox_wire_steps.specs.Uses.{how_often}
use Rattle.iox_wire_calls.specs.Lanes.{AllLanesAreCounted, lanes_used}

-- no number is in the list
none_often : (xs : List ℕ) → ((k : ℕ) → how_often k xs ≡ 0) → xs ≡ []
none_often [] none = refl
none_often (x ∷ xs) none = absurd (some (x == x) (how_often x xs) (eqb-refl x) (none x))
  where
    some : (b : Bool) (i : ℕ) → b ≡ true → (if b then 1 else 0) + i ≡ 0 → ⊥
    some true i is zeros = omega (arith, zeros)
    some false i is zeros = absurd (true≢false (sym is))

pub none_below : (k : ℕ) → nat_lt k 0 ≡ false
none_below k = grind (arith)

module _ (p : Setting) (x : Seat) (all : AllLanesAreCounted p x) (port : ℕ) (mine : IsPortOfSeat p x port) where
  -- a client has as many as its pool has slots
  pub of_clients : is_client (p.port port).role ≡ true → (lane : ℕ)
      → how_often lane (free_lanes x port) + how_often lane (lanes_used x port) ≡ (if nat_lt lane (p.port port).pool then 1 else 0)
  of_clients client lane = all port mine lane ∙ ap (λ b. if nat_lt lane (if b then (p.port port).pool else 0) then 1 else 0) client

  -- a server none
  pub servers_have_no_lane : is_client (p.port port).role ≡ false → free_lanes x port ≡ []
  servers_have_no_lane server =
      none_often (free_lanes x port)
      (λ lane. first (how_often lane (free_lanes x port)) (how_often lane (lanes_used x port))
      (all port mine lane ∙ ap (λ b. if nat_lt lane (if b then (p.port port).pool else 0) then 1 else 0) server
      ∙ ap (λ b. if b then 1 else 0) (none_below lane)))
    where
      first : (a b : ℕ) → a + b ≡ 0 → a ≡ 0
      first a b zeros = omega (arith, zeros)
