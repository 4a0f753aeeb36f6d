-- Where the request states of a lane stand that were listed so far.
use Rattle.std.proofs.Common.{◌≡◌, ℕ, zero, suc, ◌+◌, ◌<◌, ◌≤◌, Bool, true, false, not, ◌&&◌, if◌then◌else◌, List, [], ◌∷◌, ◌++◌, length, map, take, get_or, Some, None, refl, ap, ap₂, sym, ◌∙◌, arith, true≢false}
use Rattle.std.specs.Prelude.{Option, filter, slice_get}
use Rattle.std.specs.Option.{option_map_or}
use Rattle.std.proofs.Math.Seq.{take-suc}
use Rattle.std.proofs.lemmas.List.{map-append}
use Rattle.std.proofs.lemmas.List.Elements.{filter-append}
use Rattle.std.proofs.lemmas.Option.{slice_get-get_or}
use Rattle.iox_model.specs.declared.kind.Role.TheVariants.{Server}
use Rattle.iox_model.specs.declared.way.Way.{Way}
use Rattle.iox_model.specs.Maps.{has_number}
use Rattle.iox_model.specs.Messages.{response_way}
use Rattle.iox_model.specs.Peers.{others}
use Rattle.iox_model.specs.Settings.{same_role}
use Rattle.iox_model.specs.States.{Port}
use Rattle.iox_word_places.specs.declared.plan.PlanPort.{PlanPort}
use Rattle.iox_word_places.specs.declared.plan.WirePlan.{WirePlan}
use Rattle.iox_word_places.specs.Plans.{IsPlan, number_at, layout_of}
use Rattle.iox_word_places.proofs.PlanLemmas.{number_is}
use Rattle.iox_word_places.proofs.PairLemmas.{one_of}
use Rattle.iox_wire_words.specs.Programs.{WireLayout, state_place}
use Rattle.iox_wire_locals.specs.declared.seat.Seat.{Seat}
use Rattle.iox_wire_locals.specs.Known.{known}
use Rattle.iox_wire_locals.specs.Tables.{Setting}
use Rattle.iox_wire_layouts.specs.PlansOf.{AreAsPlanned, IsSettingOf}
use Rattle.iox_wire_seats.specs.declared.stops.Stop.{Stop}
use Rattle.iox_wire_seats.specs.Aims.{AreStates}
use Rattle.iox_wire_seats.specs.Seats.{ways_of}
use Rattle.iox_wire_releases.specs.StatesOf.{is_left, state_stop, stop_with}

-- ---- those of the ports so far

abbrev pub with_one : List Stop → Option Stop → List Stop
with_one stops None = stops
with_one stops (Some s) = stops ++ s ∷ []

abbrev pub stops_before : WirePlan → List ℕ → (client lane index : ℕ) → List Stop
stops_before plan forgot client lane zero = []
stops_before plan forgot client lane (suc k) = with_one (stops_before plan forgot client lane k) (stop_with plan forgot client lane k)

pub one_more : (plan : WirePlan) (forgot : List ℕ) (client lane k : ℕ)
    → stops_before plan forgot client lane (k + 1) ≡ with_one (stops_before plan forgot client lane k) (stop_with plan forgot client lane k)
one_more plan forgot client lane k = let e : k + 1 ≡ suc k = omega arith in ap (stops_before plan forgot client lane) e

-- ---- their ways

abbrev left_of : List ℕ → List PlanPort → List ℕ
left_of forgot qs = map (λ q. q.number) (filter (is_left forgot) qs)

left_append : (forgot : List ℕ) (xs ys : List PlanPort) → left_of forgot (xs ++ ys) ≡ left_of forgot xs ++ left_of forgot ys
left_append forgot xs ys =
    ap (map (λ (q : PlanPort). q.number)) (filter-append (is_left forgot) xs ys)
    ∙ map-append (λ (q : PlanPort). q.number) (filter (is_left forgot) xs) (filter (is_left forgot) ys)

module _ (plan : WirePlan) (is : IsPlan plan) (forgot : List ℕ) (client lane : ℕ) where
  abbrev ways_to : List ℕ → List Way
  ways_to servers = map (response_way (number_at plan client) lane) servers

  one_way : (k : ℕ) (d : PlanPort) → k < length plan.ports.items → (b : Bool) → is_left forgot (get_or plan.ports.items k d) ≡ b
      → ways_of (with_one (stops_before plan forgot client lane k) (if b then Some (state_stop plan client lane k) else None))
      ≡ ways_of (stops_before plan forgot client lane k) ++ ways_to (left_of forgot (get_or plan.ports.items k d ∷ []))
  one_way k d low true e =
      map-append (λ (s : Stop). s.way) (stops_before plan forgot client lane k) (state_stop plan client lane k ∷ [])
      ∙ ap (λ n. ways_of (stops_before plan forgot client lane k) ++ response_way (number_at plan client) lane n ∷ []) (number_is plan is.numbers k d low)
      ∙ sym (ap (λ (b : Bool). ways_of (stops_before plan forgot client lane k)
      ++ ways_to (map (λ (q : PlanPort). q.number) (if b then get_or plan.ports.items k d ∷ [] else []))) e)
  one_way k d low false e =
      sym (nothing (ways_of (stops_before plan forgot client lane k)))
      ∙ sym (ap (λ (b : Bool). ways_of (stops_before plan forgot client lane k)
      ++ ways_to (map (λ (q : PlanPort). q.number) (if b then get_or plan.ports.items k d ∷ [] else []))) e)
    where
      nothing : (ws : List Way) → ws ++ [] ≡ ws
      nothing [] = refl
      nothing (w ∷ ws) = ap (λ vs. w ∷ vs) (nothing ws)

  pub ways_before : (k : ℕ) → k ≤ length plan.ports.items
      → ways_of (stops_before plan forgot client lane k) ≡ ways_to (left_of forgot (take k plan.ports.items))
  ways_before zero low = refl
  ways_before (suc k) low =
      let under : k < length plan.ports.items = omega (arith, low) in
      let d : PlanPort = one_of plan.ports.items k under in
      ap (λ (o : Option PlanPort). ways_of (with_one (stops_before plan forgot client lane k)
      (if option_map_or (is_left forgot) o false then Some (state_stop plan client lane k) else None))) (slice_get-get_or plan.ports.items k d under)
      ∙ one_way k d under (is_left forgot (get_or plan.ports.items k d)) refl
      ∙ ap (λ ws. ws ++ ways_to (left_of forgot (get_or plan.ports.items k d ∷ []))) (ways_before k (omega (arith, low)))
      ∙ sym (
      ap (λ qs. ways_to (left_of forgot qs)) (take-suc plan.ports.items k d under)
      ∙ ap ways_to (left_append forgot (take k plan.ports.items) (get_or plan.ports.items k d ∷ []))
      ∙ map-append (response_way (number_at plan client) lane) (left_of forgot (take k plan.ports.items)) (left_of forgot (get_or plan.ports.items k d ∷ []))
      )

-- ---- the servers that a node did not forget

left_are : (forgot : List ℕ) (qs : List PlanPort) (rs : List Port) → AreAsPlanned qs rs
    → left_of forgot qs ≡ map (λ r. r.number) (filter (λ r. same_role r.role Server && not (has_number r.node forgot)) rs)
left_are forgot [] [] like = refl
left_are forgot [] (r ∷ rs) like = absurd like
left_are forgot (q ∷ qs) [] like = absurd like
left_are forgot (q ∷ qs) (r ∷ rs) like =
    step (is_left forgot q) (same_role r.role Server && not (has_number r.node forgot))
    (ap₂ (λ role node. same_role role Server && not (has_number node forgot)) like.0.role like.0.node) (left_are forgot qs rs like.1)
  where
    step : (a b : Bool) → b ≡ a
        → left_of forgot qs ≡ map (λ r. r.number) (filter (λ r. same_role r.role Server && not (has_number r.node forgot)) rs)
        → map (λ q. q.number) (if a then q ∷ filter (is_left forgot) qs else filter (is_left forgot) qs)
        ≡ map (λ r. r.number) (if b then r ∷ filter (λ r. same_role r.role Server && not (has_number r.node forgot)) rs
        else filter (λ r. same_role r.role Server && not (has_number r.node forgot)) rs)
    step true true e rest = ap₂ (λ k ks. k ∷ ks) (sym like.0.number) rest
    step false false e rest = rest
    step true false e rest = absurd (true≢false (sym e))
    step false true e rest = absurd (true≢false e)

pub left_servers : (plan : WirePlan) (p : Setting) (x : Seat) → IsSettingOf plan p
    → left_of x.forgot plan.ports.items ≡ others (known p x) x.node Server
left_servers plan p x setting =
    left_are x.forgot plan.ports.items (map p.port (map (λ q. q.number) plan.ports.items)) setting.is_for.ports
    ∙ ap (λ (l : WireLayout). map (λ r. r.number) (filter (λ r. same_role r.role Server && not (has_number r.node x.forgot)) (map p.port l.sizes.ports)))
    (sym setting.layout)

pub all_ways : (plan : WirePlan) (p : Setting) (x : Seat) (client lane k : ℕ) → IsPlan plan → IsSettingOf plan p
    → k ≡ length plan.ports.items
    → ways_of (stops_before plan x.forgot client lane k)
    ≡ map (response_way (number_at plan client) lane) (others (known p x) x.node Server)
all_ways plan p x client lane k is setting all =
    ways_before plan is x.forgot client lane k (omega (arith, all))
    ∙ ap (λ n. map (response_way (number_at plan client) lane) (left_of x.forgot (take n plan.ports.items))) all
    ∙ ap (λ qs. map (response_way (number_at plan client) lane) (left_of x.forgot qs)) (whole plan.ports.items)
    ∙ ap (map (response_way (number_at plan client) lane)) (left_servers plan p x setting)
  where
    whole : (qs : List PlanPort) → take (length qs) qs ≡ qs
    whole [] = refl
    whole (q ∷ qs) = ap (λ rest. q ∷ rest) (whole qs)

-- ---- their places

states_append : (p : Setting) (xs : List Stop) (s : Stop) → AreStates p xs → s.place ≡ state_place p.layout s.way → AreStates p (xs ++ s ∷ [])
states_append p [] s are is = (is, tt)
states_append p (x ∷ xs) s are is = (are.0, states_append p xs s are.1 is)

pub all_places : (plan : WirePlan) (p : Setting) (forgot : List ℕ) (client lane k : ℕ) → p.layout ≡ layout_of plan
    → AreStates p (stops_before plan forgot client lane k)
all_places plan p forgot client lane zero same = tt
all_places plan p forgot client lane (suc k) same =
    by_case (option_map_or (is_left forgot) (slice_get plan.ports.items k) false) (all_places plan p forgot client lane k same)
  where
    by_case : (b : Bool) → AreStates p (stops_before plan forgot client lane k)
        → AreStates p (with_one (stops_before plan forgot client lane k) (if b then Some (state_stop plan client lane k) else None))
    by_case true are =
        states_append p (stops_before plan forgot client lane k) (state_stop plan client lane k) are
        (ap (λ (l : WireLayout). state_place l (state_stop plan client lane k).way) (sym same))
    by_case false are = are
