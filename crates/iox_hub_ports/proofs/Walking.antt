-- A walk over all ports of one role changes the ways to them, or from them, one after another.
use Rattle.std.specs.Prelude.{◌≡◌, ℕ, zero, suc, ◌+◌, ◌<◌, ◌≤◌, Bool, true, false, ◌||◌, if◌then◌else◌, ◌==◌, List, [], ◌∷◌, ◌++◌, map, filter, length, take, drop, slice_set, refl}
use Rattle.std.proofs.Common.{sym, ap, subst, ◌∙◌, add-one, append_assoc, append-nil, get_or}
use Rattle.std.proofs.Math.ListN.{drop_of_length-le}
use Rattle.std.proofs.lemmas.Bool.{or_parts}
use Rattle.iox_model.specs.declared.kind.Role.{Role}
use Rattle.iox_model.specs.declared.way.RequestState.{RequestState}
use Rattle.iox_model.specs.Maps.{AreDistinct, has_number}
use Rattle.iox_model.specs.Messages.{response_way}
use Rattle.iox_model.specs.Settings.{same_role}
use Rattle.iox_tables.proofs.WeaveLaws.MapLemmas.{eqb-refl}
use Rattle.iox_tables.specs.Lanes.{LaneState}
use Rattle.iox_tables.specs.Pipes.{with_lane, with_state}
use Rattle.iox_tables.specs.HubStates.Tables.{PortState, numbers_of}
use Rattle.iox_tables.specs.HubStates.Ways.{with_lanes_on, with_port, with_states_on}
use Rattle.iox_tables.specs.HubStates.Wirings.{numbers_of_role}
use Rattle.iox_tables.proofs.HubStates.Keys.{flip, lane_sender, same_number, state_sender}
use Rattle.iox_hub_ports.specs.Ports.{if_role, state_ways, way_from, ways_from, with_lane_from, with_state_from}
use Rattle.iox_tables.proofs.Visiting.{drop_at, drop_set, take_all, take_set}

-- ---- a list whose items are changed one after another

-- those so far are changed, and the others are left to change
pub record Walks (f : PortState → PortState) (first now : List PortState) (i : ℕ) : Type 0 where
  pub comes : map f first ≡ take i now ++ map f (drop i now)

pub begins : (f : PortState → PortState) (first : List PortState) → Walks f first first 0
begins f first = record { comes = refl }

pub goes_on : (f : PortState → PortState) (first now : List PortState) (i : ℕ) (p : PortState) → Walks f first now i → i < length now
    → p ≡ get_or now i p → Walks f first (slice_set now i (f p)) (i + 1)
goes_on f first now i p c h e =
    let done : Walks f first (slice_set now i (f p)) (suc i) = record {
      comes = c.comes ∙ ap (λ ps. take i now ++ map f ps) (drop_at now i p h e)
          ∙ sym (append_assoc (take i now) (f p ∷ []) (map f (drop (suc i) now)))
          ∙ ap (λ zs. zs ++ map f (drop (suc i) now)) (sym (take_set now i (f p) h))
          ∙ ap (λ ps. take (suc i) (slice_set now i (f p)) ++ map f ps) (sym (drop_set now i (f p)));
    } in
    subst (λ (n : ℕ). Walks f first (slice_set now i (f p)) n) (sym (add-one i)) done

pub turns : (f : PortState → PortState) (first now : List PortState) (i : ℕ) (p q : PortState) → Walks f first now i → i < length now
    → p ≡ get_or now i p → q ≡ f p → Walks f first (slice_set now i q) (i + 1)
turns f first now i p q c h e is = subst (λ (r : PortState). Walks f first (slice_set now i r) (i + 1)) (sym is) (goes_on f first now i p c h e)

pub set_size : {A : Type 0} (xs : List A) (i : ℕ) (x : A) → length (slice_set xs i x) ≡ length xs
set_size [] i x = refl
set_size (y ∷ ys) zero x = refl
set_size (y ∷ ys) (suc i) x = ap suc (set_size ys i x)

pub ends : (f : PortState → PortState) (first now : List PortState) (i : ℕ) → Walks f first now i → length now ≤ i → now ≡ map f first
ends f first now i c h =
    sym (c.comes ∙ ap (λ ps. take i now ++ map f ps) (drop_of_length-le now h) ∙ append-nil (take i now) ∙ take_all now i h)

-- ---- ports by their numbers, one after another

-- the ports of these numbers are changed, one after another
abbrev pub with_each : (PortState → PortState) → List PortState → List ℕ → List PortState
with_each h ports [] = ports
with_each h ports (n ∷ ns) = with_each h (with_port h ports n) ns

lanes_of_each : (g : LaneState → LaneState) (sender lane : ℕ) (ports : List PortState) (ns : List ℕ)
    → with_lanes_on g ports (map (way_from sender lane) ns) ≡ with_each (λ p. with_lane_from g p sender lane) ports ns
lanes_of_each g sender lane ports [] = refl
lanes_of_each g sender lane ports (n ∷ ns) = lanes_of_each g sender lane (with_port (λ p. with_lane_from g p sender lane) ports n) ns

states_of_each : (g : RequestState → RequestState) (receiver lane : ℕ) (ports : List PortState) (ns : List ℕ)
    → with_states_on g ports (map (response_way receiver lane) ns) ≡ with_each (λ p. with_state_from g p receiver lane) ports ns
states_of_each g receiver lane ports [] = refl
states_of_each g receiver lane ports (n ∷ ns) = states_of_each g receiver lane (with_port (λ p. with_state_from g p receiver lane) ports n) ns

-- a port of another number stays
passes : (h : PortState → PortState) (p : PortState) (ps : List PortState) (ns : List ℕ) → has_number p.number ns ≡ false
    → with_each h (p ∷ ps) ns ≡ p ∷ with_each h ps ns
passes h p ps [] off = refl
passes h p ps (n ∷ ns) off =
    let parts = or_parts (n == p.number) (has_number p.number ns) off in
    ap (λ (b : Bool). with_each h (if b then h p ∷ ps else p ∷ with_port h ps n) ns) (flip p.number n ∙ parts.0)
    ∙ passes h p (with_port h ps n) ns parts.1

-- a number that no port has is of no port of the role
not_of_role : (role : Role) (n : ℕ) (ps : List PortState) → has_number n (numbers_of ps) ≡ false → has_number n (numbers_of_role role ps) ≡ false
not_of_role role n [] e = refl
not_of_role role n (p ∷ ps) e =
    let parts = or_parts (p.number == n) (has_number n (numbers_of ps)) e in
    step (same_role p.role role) parts.0 (not_of_role role n ps parts.1)
  where
    step : (b : Bool) → (p.number == n) ≡ false → has_number n (numbers_of_role role ps) ≡ false
        → has_number n (map (λ q. q.number) (if b then p ∷ filter (λ q. same_role q.role role) ps else filter (λ q. same_role q.role role) ps)) ≡ false
    step true x y = ap (λ b. b || has_number n (numbers_of_role role ps)) x ∙ y
    step false x y = y

each_of_role : (h : PortState → PortState) → ((p : PortState) → (h p).number ≡ p.number) → (role : Role) (ps : List PortState) → AreDistinct (numbers_of ps)
    → with_each h ps (numbers_of_role role ps) ≡ map (if_role role h) ps
each_of_role h keeps role [] apart = refl
each_of_role h keeps role (p ∷ ps) apart =
    step (same_role p.role role) (not_of_role role p.number ps apart.0) (each_of_role h keeps role ps apart.1)
  where
    ns : List ℕ
    ns = numbers_of_role role ps

    step : (b : Bool) → has_number p.number (numbers_of_role role ps) ≡ false
        → with_each h ps (numbers_of_role role ps) ≡ map (if_role role h) ps
        → with_each h (p ∷ ps) (map (λ q. q.number) (if b then p ∷ filter (λ q. same_role q.role role) ps else filter (λ q. same_role q.role role) ps))
        ≡ (if b then h p else p) ∷ map (if_role role h) ps
    step true off rest =
        ap (λ (b : Bool). with_each h (if b then h p ∷ ps else p ∷ with_port h ps p.number) (numbers_of_role role ps)) (eqb-refl p.number)
        ∙ passes h (h p) ps (numbers_of_role role ps) (ap (λ n. has_number n (numbers_of_role role ps)) (keeps p) ∙ off)
        ∙ ap (λ qs. h p ∷ qs) rest
    step false off rest = passes h p ps (numbers_of_role role ps) off ∙ ap (λ qs. p ∷ qs) rest

-- ---- the walks

pub each_lane : (g : LaneState → LaneState) (sender lane : ℕ) (role : Role) (ports : List PortState) → AreDistinct (numbers_of ports)
    → map (if_role role (λ p. with_lane_from g p sender lane)) ports ≡ with_lanes_on g ports (ways_from sender lane role ports)
each_lane g sender lane role ports apart =
    sym (lanes_of_each g sender lane ports (numbers_of_role role ports)
    ∙ each_of_role (λ p. with_lane_from g p sender lane) (same_number (λ q. with_lane g q lane) (lane_sender g lane) sender) role ports apart)

pub each_state : (g : RequestState → RequestState) (receiver lane : ℕ) (role : Role) (ports : List PortState) → AreDistinct (numbers_of ports)
    → map (if_role role (λ p. with_state_from g p receiver lane)) ports ≡ with_states_on g ports (state_ways receiver lane role ports)
each_state g receiver lane role ports apart =
    sym (states_of_each g receiver lane ports (numbers_of_role role ports)
    ∙ each_of_role (λ p. with_state_from g p receiver lane) (same_number (λ q. with_state g q lane) (state_sender g lane) receiver) role ports apart)
