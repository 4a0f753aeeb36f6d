-- A port that is taken out of ports that are in order.
use Rattle.std.specs.Prelude.{◌≡◌, ℕ, ◌+◌, Bool, true, false, if◌then◌else◌, ◌==◌, List, [], ◌∷◌, map, Option, Some, None, refl}
use Rattle.std.specs.List.{sum_by}
use Rattle.std.specs.Option.{option_map_or}
use Rattle.std.proofs.Common.{sym, ap, ap₂, subst, ◌∙◌, eqb-true}
use Rattle.std.proofs.lemmas.Bool.{or_parts}
use Rattle.std.proofs.lemmas.Option.{none-some}
use Rattle.iox_model.specs.Maps.{AreDistinct, has_number}
use Rattle.iox_laws.proofs.WeaveLaws.MapLemmas.{eqb-refl}
use Rattle.iox_lanes.specs.Lanes.{LaneState}
use Rattle.iox_lanes.specs.Pipes.{PipeState}
use Rattle.iox_tables.specs.HubStates.Tables.{HubTables, PortState, pipe_from, port_in}
use Rattle.iox_tables.proofs.HubStates.Fixing.{first_key}
use Rattle.iox_hub_ports.specs.Ports.{without_port}
use Rattle.iox_tables.specs.HubBooks.Counts.{OfAll, in_pipe, in_port, total}
use Rattle.iox_tables.specs.HubBooks.Hubs.{AreInOrder}
use Rattle.iox_tables.specs.HubMaking.Disconnections.{with_disconnected}
use Rattle.iox_tables.specs.HubMaking.LaneSums.{sum_in_pipe, sum_in_port, sum_that_goes}
use Rattle.iox_tables.proofs.HubMaking.Removing.{ports_go_one_by_one}
use Rattle.iox_tables.proofs.HubKeeping.Ordered.{are_connected, names_apart, total_sum}
use Rattle.iox_control.specs.Controls.{ControlState}
use Rattle.iox_control_releasing.specs.LettingGo.{from_in}
use Rattle.iox_control_releasing.proofs.Senders.{first_goes}
use Rattle.iox_tables.specs.HubMaking.Expirings.{gone_with}
use Rattle.iox_tables.specs.HubMaking.OneByOne.{without_first_by, without_first_pipe}

-- ---- what goes with it

all_not : {A : Type 0} (key : A → ℕ) (n : ℕ) (xs : List A) → has_number n (map key xs) ≡ false → OfAll (λ x. (key x == n) ≡ false) xs
all_not key n [] e = tt
all_not key n (x ∷ xs) e = let parts = or_parts (key x == n) (has_number n (map key xs)) e in (parts.0, all_not key n xs parts.1)

others_left : {A : Type 0} (key : A → ℕ) (n : ℕ) (xs : List A) → AreDistinct (map key xs) → OfAll (λ x. (key x == n) ≡ false) (without_first_by key xs n)
others_left key n [] apart = tt
others_left key n (x ∷ xs) apart = step (key x == n) refl (others_left key n xs apart.1)
  where
    step : (b : Bool) → (key x == n) ≡ b → OfAll (λ y. (key y == n) ≡ false) (without_first_by key xs n)
        → OfAll (λ y. (key y == n) ≡ false) (if b then xs else x ∷ without_first_by key xs n)
    step true e rest = all_not key n xs (subst (λ k. has_number k (map key xs) ≡ false) (eqb-true (key x) n e) apart.0)
    step false e rest = (e, rest)

total_all : {A : Type 0} (f g : A → ℕ) (P : A → Type 0) → ((x : A) → P x → f x ≡ g x) → (xs : List A) → OfAll P xs → total f xs ≡ total g xs
total_all f g P same [] a = refl
total_all f g P same (x ∷ xs) a = ap₂ (λ (m n : ℕ). m + n) (same x a.0) (total_all f g P same xs a.1)

module _ (t : HubTables) (order : AreInOrder t) (n : ℕ) (f : LaneState → ℕ) where
  -- the port itself
  itself : (o : Option PortState) → port_in t.ports n ≡ o → option_map_or (sum_that_goes f n) o 0 ≡ option_map_or (in_port f) o 0
  itself None at = refl
  itself (Some p) at =
      ap (λ k. if k == n then sum_in_port f p else option_map_or (sum_in_pipe f) (gone_with p.expired (pipe_from p.incoming.pipes n)) 0)
      (first_key (λ (x : PortState). x.number) t.ports n p at)
      ∙ ap (λ (b : Bool). if b then sum_in_port f p else option_map_or (sum_in_pipe f) (gone_with p.expired (pipe_from p.incoming.pipes n)) 0) (eqb-refl n)
      ∙ sym (total_sum (in_pipe f) (sum_in_pipe f) (λ q. total_sum f f (λ l. refl) q.lanes) _)

  -- another
  another : (p : PortState) → (p.number == n) ≡ false → sum_that_goes f n p ≡ from_in f n p
  another p other =
      ap (λ (b : Bool). if b then sum_in_port f p else option_map_or (sum_in_pipe f) (gone_with p.expired (pipe_from p.incoming.pipes n)) 0) other
      ∙ one (gone_with p.expired (pipe_from p.incoming.pipes n))
    where
      one : (o : Option PipeState) → option_map_or (sum_in_pipe f) o 0 ≡ option_map_or (in_pipe f) o 0
      one None = refl
      one (Some q) = sym (total_sum f f (λ l. refl) q.lanes)

  -- what goes with the port is what comes to it, and what comes from it to the others
  pub goes_with : sum_by (sum_that_goes f n) t.ports ≡ option_map_or (in_port f) (port_in t.ports n) 0 + total (from_in f n) (without_port t.ports n)
  goes_with =
      sym (total_sum (sum_that_goes f n) (sum_that_goes f n) (λ p. refl) t.ports)
      ∙ first_goes (λ (p : PortState). p.number) (sum_that_goes f n) t.ports n
      ∙ ap₂ (λ (a b : ℕ). a + b) (itself (port_in t.ports n) refl)
      (total_all (sum_that_goes f n) (from_in f n) (λ p. (p.number == n) ≡ false) another (without_port t.ports n)
      (others_left (λ (p : PortState). p.number) n t.ports (names_apart t order)))

-- ---- the ports that are left

pub ports_left : (t : HubTables) (n : ℕ) → AreInOrder t
    → map (without_first_pipe n) (without_port t.ports n) ≡ (with_disconnected t n).ports
ports_left t n order = ports_go_one_by_one t n (are_connected t order)

-- where there is no such port, none is taken out
pub none_out : (c new : ControlState) (n : ℕ) → new ≡ c → port_in c.tables.ports n ≡ None
    → new.tables ≡ record (c.tables) { ports = without_port c.tables.ports n; pools = new.tables.pools }
none_out c new n same none =
    ap (λ (d : ControlState). d.tables) same
    ∙ ap (λ ps. record (c.tables) { ports = ps }) (stay c.tables.ports none)
    ∙ ap (λ pools. record (c.tables) { ports = without_port c.tables.ports n; pools = pools }) (sym (ap (λ (d : ControlState). d.tables.pools) same))
  where
    stay : (ports : List PortState) → port_in ports n ≡ None → ports ≡ without_port ports n
    stay [] e = refl
    stay (p ∷ ps) e = step (p.number == n) e (stay ps)
      where
        step : (b : Bool) → (if b then Some p else port_in ps n) ≡ None → (port_in ps n ≡ None → ps ≡ without_port ps n) → p ∷ ps ≡ (if b then ps else p ∷ without_port ps n)
        step true e more = absurd (none-some p (sym e))
        step false e more = ap (λ qs. p ∷ qs) (more e)
