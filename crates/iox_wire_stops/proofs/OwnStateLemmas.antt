-- The one request state of a received request.
use Rattle.std.proofs.Common.{◌≡◌, ℕ, ◌<◌, ◌==◌, Bool, true, false, ◌&&◌, not, if◌then◌else◌, List, [], ◌∷◌, ◌++◌, length, map, get_or, Some, None, refl, ap, sym, subst, ◌∙◌, true≢false, eqb-true}
use Rattle.std.specs.Prelude.{Option, IsSomeAnd, filter}
use Rattle.std.specs.Option.{option_map_or}
use Rattle.std.proofs.lemmas.Option.{slice_get-get_or}
use Rattle.iox_model.specs.declared.kind.Role.{Role}
use Rattle.iox_model.specs.declared.kind.Role.TheVariants.{Client}
use Rattle.iox_model.specs.declared.way.Way.{Way}
use Rattle.iox_model.specs.Maps.{has_number}
use Rattle.iox_model.specs.Settings.{same_role}
use Rattle.iox_wire_ways.specs.PlanPort.{PlanPort}
use Rattle.iox_wire_ways.specs.WirePlan.{WirePlan}
use Rattle.iox_wire_ways.specs.Plans.{IsLaneAt, IsPlan, layout_of, port_of, sizes_of}
use Rattle.iox_wire_ways.proofs.PlanLemmas.{number_is, port_is}
use Rattle.iox_wire_ways.specs.Programs.{WireLayout, state_place}
use Rattle.iox_wire_ways.specs.Tables.{Setting}
use Rattle.iox_wire_releases.specs.StatesOf.{state_stop}
use Rattle.iox_wire_ways.specs.Stop.{Stop}
use Rattle.iox_wire_ways.specs.Aims.{AreStates}
use Rattle.iox_wire_stops.specs.OwnStates.{is_client_left}
use Rattle.iox_wire_ways.specs.Visits.{is_other, made_at}
use Rattle.iox_wire_ways.proofs.ListLemmas.{all_made, made_before, visited}

-- ---- the client is there

client_is : (role : Role) (gone same : Bool) → ((same_role role Client && not gone) && same) ≡ true → (role ≡ Client) × (same ≡ true)
client_is Client false true e = (refl, refl)
client_is Client false false e = absurd (true≢false (sym e))
client_is Client true same e = absurd (true≢false (sym e))
client_is _ gone same e = absurd (true≢false (sym e))

pub lane_is_there : (plan : WirePlan) → IsPlan plan → (i : ℕ) (d : PlanPort) → i < length plan.ports.items
    → (client lane : ℕ) (forgot : List ℕ) → is_client_left client forgot (get_or plan.ports.items i d) ≡ true
    → lane < (sizes_of plan).lanes client → IsLaneAt plan i lane
lane_is_there plan is i d low client lane forgot left below =
    let q : PlanPort = get_or plan.ports.items i d in
    let both = client_is q.role (has_number q.node forgot) (q.number == client) left in
    let found : port_of plan client ≡ Some q =
    ap (port_of plan) (sym (number_is plan is.numbers i d low ∙ eqb-true q.number client both.1)) ∙ port_is plan is.numbers i d low in
    subst (λ (o : Option PlanPort). IsSomeAnd o (λ r. (r.role ≡ Client) × (lane < r.pool))) (sym (slice_get-get_or plan.ports.items i d low))
    (both.0, subst (λ (o : Option PlanPort). lane < option_map_or (λ r. r.pool) o 0) found below)

-- ---- it is the only one

pub only_one : (client : ℕ) (forgot : List ℕ) (qs : List PlanPort)
    → visited (is_client_left client forgot) qs ≡ filter (λ n. n == client) (visited (is_other Client forgot) qs)
only_one client forgot [] = refl
only_one client forgot (q ∷ qs) = step (is_other Client forgot q) (q.number == client) refl (only_one client forgot qs)
  where
    step : (a b : Bool) → (q.number == client) ≡ b
        → visited (is_client_left client forgot) qs ≡ filter (λ n. n == client) (visited (is_other Client forgot) qs)
        → map (λ r. r.number) (if a && b then q ∷ filter (is_client_left client forgot) qs else filter (is_client_left client forgot) qs)
        ≡ filter (λ n. n == client) (map (λ r. r.number) (if a then q ∷ filter (is_other Client forgot) qs else filter (is_other Client forgot) qs))
    step true true e rest =
        ap (λ ns. q.number ∷ ns) rest
        ∙ sym (ap (λ (c : Bool). if c then q.number ∷ filter (λ n. n == client) (visited (is_other Client forgot) qs)
        else filter (λ n. n == client) (visited (is_other Client forgot) qs)) e)
    step true false e rest =
        rest
        ∙ sym (ap (λ (c : Bool). if c then q.number ∷ filter (λ n. n == client) (visited (is_other Client forgot) qs)
        else filter (λ n. n == client) (visited (is_other Client forgot) qs)) e)
    step false true e rest = rest
    step false false e rest = rest

-- ---- its place

states_append : (p : Setting) (xs : List Stop) (s : Stop) → AreStates p xs → s.place ≡ state_place p.layout s.way → AreStates p (xs ++ s ∷ [])
states_append p [] s are is = (is, tt)
states_append p (x ∷ xs) s are is = (are.0, states_append p xs s are.1 is)

pub own_places : (plan : WirePlan) (p : Setting) (forgot : List ℕ) (client lane server k : ℕ) → p.layout ≡ layout_of plan
    → AreStates p (made_before Stop plan (is_client_left client forgot) (λ i. state_stop plan i lane server) k)
own_places plan p forgot client lane server k same =
    all_made Stop plan (is_client_left client forgot) (λ i. state_stop plan i lane server) (AreStates p) tt
    (λ xs i there are. states_append p xs (state_stop plan i lane server) are
    (ap (λ (y : WireLayout). state_place y (state_stop plan i lane server).way) (sym same))) k

-- ---- what is made for the port there

pub made_here : (plan : WirePlan) (visits : PlanPort → Bool) (make : ℕ → Stop) (k : ℕ) (d : PlanPort) → k < length plan.ports.items → (b : Bool)
    → visits (get_or plan.ports.items k d) ≡ b → made_at Stop plan visits make k ≡ (if b then Some (make k) else None)
made_here plan visits make k d low b is =
    ap (λ (o : Option PlanPort). if option_map_or visits o false then Some (make k) else None) (slice_get-get_or plan.ports.items k d low)
    ∙ ap (λ (c : Bool). if c then Some (make k) else None) is

pub stop_is : (s : Stop) (way : Way) (place : ℕ) → s.way ≡ way → s.place ≡ place → s ≡ record { way = way; place = place }
stop_is s way place a b = λ i. record { way = a i; place = b i }
