-- Tables of a seat that opens: desks without a record, ways without a count.
use Rattle.std.specs.Prelude.{◌^◌, ◌||◌, find, flat_map, map, if◌then◌else◌}
use Rattle.std.specs.List.{list_all}
use Rattle.std.specs.Option.{option_map_or}
use Rattle.std.proofs.Common.{◌≡◌, ℕ, ◌+◌, Bool, true, false, ◌==◌, List, [], ◌∷◌, Some, None, refl, ap, sym, subst, inl, inr, arith, eq-eqb, eqb-true, true≢false}
use Rattle.iox_model.specs.declared.way.Way.{Way}
use Rattle.iox_model.specs.Maps.{has_number, same_way}
use Rattle.iox_laws.proofs.WeaveLedger.Lists.{IsAmong}
use Rattle.iox_word_places.specs.declared.plan.PlanPort.{PlanPort}
use Rattle.iox_wire_moments.specs.MomentsOf.{Pools}
use Rattle.iox_wire_locals.specs.declared.table.Borrowed.{Borrowed}
use Rattle.iox_wire_locals.specs.declared.table.Recorded.{Recorded}
use Rattle.iox_wire_locals.specs.Tables.{Setting}
use Rattle.iox_wire_layouts.specs.PlansOf.{AreAsPlanned}
use Rattle.iox_wire_stands.specs.Openings.{opened_desk}

-- ---- lists

abbrev pub empty_record : Way → Recorded
empty_record w = record { way = w; slots = [] }

abbrev pub no_count : Way → Borrowed
no_count w = record { way = w; count = 0 }

pub none_recorded : (ws : List Way) → flat_map (λ r. r.slots) (map empty_record ws) ≡ []
none_recorded [] = refl
none_recorded (w ∷ ws) = none_recorded ws

pub ways_recorded : (ws : List Way) → map (λ r. r.way) (map empty_record ws) ≡ ws
ways_recorded [] = refl
ways_recorded (w ∷ ws) = ap (λ vs. w ∷ vs) (ways_recorded ws)

pub all_from : (port : ℕ) (ws : List Way) → ((y : Way) → IsAmong y ws → y.sender ≡ port) → list_all (λ r. r.way.sender == port) (map empty_record ws) ≡ true
all_from port [] from = refl
all_from port (w ∷ ws) from = rw (eq-eqb w.sender port (from w (inl refl))) (all_from port ws (λ y among. from y (inr among)))

pub none_on : (y : Way) (ws : List Way) → option_map_or (λ (r : Recorded). r.slots) (find (λ r. same_way r.way y) (map empty_record ws)) [] ≡ []
none_on y [] = refl
none_on y (w ∷ ws) = by_case (same_way w y) (none_on y ws)
  where
    by_case : (b : Bool) → option_map_or (λ (r : Recorded). r.slots) (find (λ r. same_way r.way y) (map empty_record ws)) [] ≡ []
        → option_map_or (λ (r : Recorded). r.slots) (if b then Some (empty_record w) else find (λ r. same_way r.way y) (map empty_record ws)) [] ≡ []
    by_case true later = refl
    by_case false later = later

pub none_counted : (y : Way) (ws : List Way) → option_map_or (λ (b : Borrowed). b.count) (find (λ b. same_way b.way y) (map no_count ws)) 0 ≡ 0
none_counted y [] = refl
none_counted y (w ∷ ws) = by_case (same_way w y) (none_counted y ws)
  where
    by_case : (b : Bool) → option_map_or (λ (b : Borrowed). b.count) (find (λ b. same_way b.way y) (map no_count ws)) 0 ≡ 0
        → option_map_or (λ (b : Borrowed). b.count) (if b then Some (no_count w) else find (λ b. same_way b.way y) (map no_count ws)) 0 ≡ 0
    by_case true later = refl
    by_case false later = later

-- ---- desks

module _ (p : Setting) where
  pub desk_there : (ports : List ℕ) (port : ℕ)
      → find (λ d. d.port == port) (map (opened_desk p) ports) ≡ (if has_number port ports then Some (opened_desk p port) else None)
  desk_there [] port = refl
  desk_there (k ∷ ks) port = by_case (k == port) refl (desk_there ks port)
    where
      by_case : (b : Bool) → (k == port) ≡ b
          → find (λ d. d.port == port) (map (opened_desk p) ks) ≡ (if has_number port ks then Some (opened_desk p port) else None)
          → (if b then Some (opened_desk p k) else find (λ d. d.port == port) (map (opened_desk p) ks))
          ≡ (if (b || has_number port ks) then Some (opened_desk p port) else None)
      by_case true same later = ap (λ n. Some (opened_desk p n)) (eqb-true k port same)
      by_case false other later = later

abbrev pub held_first : Pools
held_first port slot = record {
  sender = port;
  serial = 2 ^ 64 + slot;
  node_id = record { process = 0; seconds = 0; nanoseconds = 0; counter = 0 };
  port_id = record { process = 0; seconds = 0; nanoseconds = 0; counter = 0 };
  lane = 0;
  request = 0;
  elements = 0;
  user = [];
  payload = [];
}

pub same_slot : (i j : ℕ) → 2 ^ 64 + i ≡ 2 ^ 64 + j → i ≡ j
same_slot i j same = omega (arith, same)

-- a port of a plan stands under its number
pub number_in : (p : Setting) (port : ℕ) (qs : List PlanPort) → AreAsPlanned qs (map p.port (map (λ q. q.number) qs))
    → has_number port (map (λ q. q.number) qs) ≡ true → (p.port port).number ≡ port
number_in p port [] like has = absurd (true≢false (sym has))
number_in p port (q ∷ qs) like has = by_case (q.number == port) refl (number_in p port qs like.1)
  where
    by_case : (b : Bool) → (q.number == port) ≡ b → (has_number port (map (λ r. r.number) qs) ≡ true → (p.port port).number ≡ port)
        → (p.port port).number ≡ port
    by_case true same later =
        let at : q.number ≡ port = eqb-true q.number port same in subst (λ k. (p.port k).number ≡ k) at like.0.number
    by_case false other later = later (rw other at has)
