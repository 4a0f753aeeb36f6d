-- The port in a place is the first of its number, where no two ports have one number.
use Rattle.std.specs.Prelude.{◌≡◌, ℕ, zero, suc, ◌<◌, ◌≤◌, Bool, false, if◌then◌else◌, ◌==◌, List, [], ◌∷◌, length, Option, Some, None, slice_get, slice_set, refl}
use Rattle.std.specs.Option.{option_map_or}
use Rattle.std.proofs.Common.{sym, ap, ◌∙◌, arith, get_or}
use Rattle.std.proofs.lemmas.Option.{none-some}
use Rattle.iox_model.specs.Maps.{AreDistinct, has_number}
use Rattle.iox_tables.proofs.WeaveLaws.MapLemmas.{eqb-refl}
use Rattle.iox_tables.specs.Lanes.{LaneState}
use Rattle.iox_tables.specs.HubStates.Tables.{PortState, numbers_of, pipes_of, port_in}
use Rattle.iox_tables.specs.HubStates.Ways.{lanes_from, with_port}
use Rattle.iox_tables.proofs.HubStates.Keys.{flip}
use Rattle.iox_hub_ports.specs.Ports.{lane_to_get_at, lane_to_get_on, on_lane_from, on_way_at, with_lane_at, with_lane_from}
use Rattle.std.proofs.lemmas.Bool.{or_parts}

pub get_in : {A : Type 0} (xs : List A) (i : ℕ) (x : A) → i < length xs → x ≡ get_or xs i x → slice_get xs i ≡ Some x
get_in [] i x h e = absurd (omega arith)
get_in (y ∷ ys) zero x h e = ap (λ z. Some z) (sym e)
get_in (y ∷ ys) (suc i) x h e = get_in ys i x (omega arith) e

pub none_at : {A : Type 0} (xs : List A) (i : ℕ) → length xs ≤ i → slice_get xs i ≡ None
none_at [] i h = refl
none_at (y ∷ ys) zero h = absurd (omega arith)
none_at (y ∷ ys) (suc i) h = none_at ys i (omega arith)

-- a port of the list has another number than one that no port has
pub off : (xs : List PortState) (i : ℕ) (p : PortState) (n : ℕ) → has_number n (numbers_of xs) ≡ false → slice_get xs i ≡ Some p → (p.number == n) ≡ false
off [] i p n none e = absurd (none-some p e)
off (x ∷ xs) zero p n none e =
    ap (λ (q : PortState). q.number == n) (sym (ap (λ (o : Option PortState). option_map_or (λ q. q) o x) e))
    ∙ (or_parts (x.number == n) (has_number n (numbers_of xs)) none).0
off (x ∷ xs) (suc i) p n none e = off xs i p n (or_parts (x.number == n) (has_number n (numbers_of xs)) none).1 e

pub first_at : (xs : List PortState) (i : ℕ) (p : PortState) → AreDistinct (numbers_of xs) → slice_get xs i ≡ Some p → port_in xs p.number ≡ Some p
first_at [] i p apart e = absurd (none-some p e)
first_at (x ∷ xs) zero p apart e =
    let is : x ≡ p = ap (λ (o : Option PortState). option_map_or (λ q. q) o x) e in
    ap (λ (b : Bool). if b then Some x else port_in xs p.number) (ap (λ (q : PortState). x.number == q.number) (sym is) ∙ eqb-refl x.number) ∙ e
first_at (x ∷ xs) (suc i) p apart e =
    ap (λ (b : Bool). if b then Some x else port_in xs p.number) (flip x.number p.number ∙ off xs i p x.number apart.0 e) ∙ first_at xs i p apart.1 e

pub changed_at : (h : PortState → PortState) (xs : List PortState) (i : ℕ) (p : PortState) → AreDistinct (numbers_of xs) → slice_get xs i ≡ Some p
    → slice_set xs i (h p) ≡ with_port h xs p.number
changed_at h [] i p apart e = absurd (none-some p e)
changed_at h (x ∷ xs) zero p apart e =
    let is : x ≡ p = ap (λ (o : Option PortState). option_map_or (λ q. q) o x) e in
    ap (λ q. h q ∷ xs) (sym is)
    ∙ ap (λ (b : Bool). if b then h x ∷ xs else x ∷ with_port h xs p.number) (sym (ap (λ (q : PortState). x.number == q.number) (sym is) ∙ eqb-refl x.number))
changed_at h (x ∷ xs) (suc i) p apart e =
    ap (λ qs. x ∷ qs) (changed_at h xs i p apart.1 e)
    ∙ ap (λ (b : Bool). if b then h x ∷ xs else x ∷ with_port h xs p.number) (sym (flip x.number p.number ∙ off xs i p x.number apart.0 e))

-- ---- steps on the lane of the port in a place

module _ (ports : List PortState) (i s lane : ℕ) (p : PortState) where
  pub told_at : {A : Type 0} (f : LaneState → A) (none : A) → AreDistinct (numbers_of ports) → i < length ports → p ≡ get_or ports i p
      → on_lane_from f none p s lane ≡ on_way_at f none ports i s lane
  told_at f none apart h e =
      let at : slice_get ports i ≡ Some p = get_in ports i p h e in
      ap (λ o. option_map_or f (slice_get (lanes_from (option_map_or pipes_of o []) s) lane) none) (sym (first_at ports i p apart at))
      ∙ ap (λ o. option_map_or (λ q. option_map_or f (slice_get (lanes_from (option_map_or pipes_of (port_in ports q.number) []) s) lane) none) o none) (sym at)

  pub lane_changed_at : (g : LaneState → LaneState) → AreDistinct (numbers_of ports) → i < length ports → p ≡ get_or ports i p
      → slice_set ports i (with_lane_from g p s lane) ≡ with_lane_at g ports i s lane
  lane_changed_at g apart h e =
      let at : slice_get ports i ≡ Some p = get_in ports i p h e in
      changed_at (λ q. with_lane_from g q s lane) ports i p apart at
      ∙ ap (λ o. option_map_or (λ q. with_port (λ r. with_lane_from g r s lane) ports q.number) o ports) (sym at)

module _ (ports : List PortState) (i s lane : ℕ) where
  pub told_past : {A : Type 0} (f : LaneState → A) (none : A) → length ports ≤ i → none ≡ on_way_at f none ports i s lane
  told_past f none h =
      ap (λ o. option_map_or (λ q. option_map_or f (slice_get (lanes_from (option_map_or pipes_of (port_in ports q.number) []) s) lane) none) o none) (sym (none_at ports i h))

  pub unchanged_past : (g : LaneState → LaneState) → length ports ≤ i → ports ≡ with_lane_at g ports i s lane
  unchanged_past g h = ap (λ o. option_map_or (λ q. with_port (λ r. with_lane_from g r s lane) ports q.number) o ports) (sym (none_at ports i h))

-- ---- the lane on which the port in a place left something to get back

pub lowest_at : (ports : List PortState) (i s : ℕ) (p : PortState) → AreDistinct (numbers_of ports) → i < length ports → p ≡ get_or ports i p
    → lane_to_get_on (pipes_of p) s ≡ lane_to_get_at ports i s
lowest_at ports i s p apart h e =
    let at : slice_get ports i ≡ Some p = get_in ports i p h e in
    ap (λ o. lane_to_get_on (option_map_or pipes_of o []) s) (sym (first_at ports i p apart at))
    ∙ ap (λ o. option_map_or (λ (q : PortState). lane_to_get_on (option_map_or pipes_of (port_in ports q.number) []) s) o None) (sym at)
