-- The free lanes of a port, as a desk changes.
use Rattle.std.specs.Prelude.{find, map, option_map}
use Rattle.std.specs.Option.{option_map_or}
use Rattle.std.proofs.Common.{◌≡◌, ℕ, Bool, true, false, if◌then◌else◌, ◌==◌, List, [], Some, refl, ap, ◌∙◌, eqb-true}
use Rattle.iox_laws.proofs.WeaveLedger.Lists.{find-among}
use Rattle.iox_wire_steps.specs.Seat.{Seat}
use Rattle.iox_wire_steps.specs.Desk.{Desk}
use Rattle.iox_wire_steps.specs.Desks.{on_desk}
use Rattle.iox_wire_steps.specs.Known.{free_lanes}
use Rattle.iox_wire_steps.proofs.RecordsKept.{found}

module _ (x : Seat) (port : ℕ) (d : Desk) (there : find (λ d. d.port == port) x.desks ≡ Some d) where
  -- those of its desk
  pub lanes_are : free_lanes x port ≡ d.free_lanes
  lanes_are = ap (λ o. option_map_or (λ (k : Desk). k.free_lanes) o []) there

  -- all desks change alike
  pub all_changed : (z : Seat) (change : Desk → Desk) → ((k : Desk) → (change k).port ≡ k.port) → z.desks ≡ map change x.desks
      → free_lanes z port ≡ (change d).free_lanes
  all_changed z change keeps desks =
      ap (λ (ds : List Desk). option_map_or (λ (k : Desk). k.free_lanes) (find (λ k. k.port == port) ds) []) desks
      ∙ ap (λ o. option_map_or (λ (k : Desk). k.free_lanes) o [])
      (found change (λ k. k.port == port) (λ k. ap (λ n. n == port) (keeps k)) x.desks ∙ ap (option_map change) there)

  -- that of one port does
  pub one_changed : (z : Seat) (q : ℕ) (change : Desk → Desk) → ((k : Desk) → (change k).port ≡ k.port) → z.desks ≡ map (on_desk q change) x.desks
      → free_lanes z port ≡ (if port == q then (change d).free_lanes else d.free_lanes)
  one_changed z q change keeps desks =
      all_changed z (on_desk q change) (λ k. port_is k (k.port == q)) desks ∙ lanes (d.port == q)
      ∙ ap (λ k. if k == q then (change d).free_lanes else d.free_lanes) (eqb-true d.port port (find-among (λ (k : Desk). k.port == port) d x.desks there).1)
    where
      port_is : (k : Desk) (b : Bool) → (if b then change k else k).port ≡ k.port
      port_is k true = keeps k
      port_is k false = refl

      lanes : (b : Bool) → (if b then change d else d).free_lanes ≡ (if b then (change d).free_lanes else d.free_lanes)
      lanes true = refl
      lanes false = refl
