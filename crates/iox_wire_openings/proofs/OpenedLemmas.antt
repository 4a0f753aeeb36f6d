-- The ways of a plan differ, and so do the desks of a node.
use Rattle.std.specs.Prelude.{filter, flat_map, ◌==◌, if◌then◌else◌}
use Rattle.std.specs.List.{range_with_len}
use Rattle.std.proofs.Common.{◌≡◌, ℕ, zero, suc, ◌<◌, ◌+◌, Bool, true, false, List, [], ◌∷◌, ◌++◌, map, take, length, get_or, refl, ap, sym, subst, ◌∙◌, arith, inl, inr, eqb-true}
use Rattle.std.proofs.Math.Seq.{take-suc}
use Rattle.std.proofs.lemmas.List.{map-append}
use Rattle.std.proofs.lemmas.List.Elements.{filter-append}
use Rattle.iox_model.specs.declared.kind.Role.{Role}
use Rattle.iox_model.specs.declared.kind.Role.TheVariants.{Client, Server}
use Rattle.iox_model.specs.declared.way.Way.{Way}
use Rattle.iox_model.specs.Maps.{AreDistinct, has_way, same_way}
use Rattle.iox_model.specs.Messages.{response_way}
use Rattle.iox_laws.proofs.WeaveLaws.MapLemmas.{same_way-true}
use Rattle.iox_laws.proofs.WeaveLedger.Lists.{IsAmong, NoRepeats, among-map, distinct-no_repeats, flat-among, map-among, no_repeats-append, no_repeats-map, no_repeats-map_filter, way-among}
use Rattle.iox_laws.proofs.WeaveLedger.Ranges.{range-apart}
use Rattle.iox_laws.proofs.WeaveLedger.Truths.{false_if}
use Rattle.iox_word_places.specs.declared.plan.PlanPort.{PlanPort}
use Rattle.iox_word_places.specs.declared.plan.WirePlan.{WirePlan}
use Rattle.iox_word_places.specs.Plans.{port_numbers}
use Rattle.iox_wire_locals.specs.declared.table.Recorded.{Recorded}
use Rattle.iox_wire_seats.specs.Counts.{AreOfDifferentWays, AreOfOtherWays}
use Rattle.iox_wire_seats.specs.Desks.{AreOfDifferentPorts, AreOfOtherPorts}
use Rattle.iox_wire_openings.specs.OpenedNodes.{lanes_between, no_count, planned_desk, planned_desks, planned_ways, ways_between, ways_by, ways_into, ways_to}

-- ---- between two ports

lane_way : (q r : PlanPort) (y : Way) → IsAmong y (lanes_between q r) → (y.receiver ≡ r.number) × (y.sender ≡ q.number)
lane_way q r y among =
    let at = map-among (λ lane. response_way r.number lane q.number) y (range_with_len 0 r.pool) among in
    (ap (λ (v : Way). v.receiver) at.2, ap (λ (v : Way). v.sender) at.2)

between_by : (a b : Role) (q r : PlanPort) (y : Way) → IsAmong y (ways_by a b q r) → (y.receiver ≡ r.number) × (y.sender ≡ q.number)
between_by Client Server q r y (inl same) = (ap (λ (v : Way). v.receiver) same, ap (λ (v : Way). v.sender) same)
between_by Client Server q r y (inr none) = absurd none
between_by Server Client q r y among = lane_way q r y among
between_by Client Client q r y among = absurd among
between_by Server Server q r y among = absurd among

between : (q r : PlanPort) (y : Way) → IsAmong y (ways_between q r) → (y.receiver ≡ r.number) × (y.sender ≡ q.number)
between q r y among = between_by q.role r.role q r y among

by_differ : (a b : Role) (q r : PlanPort) → NoRepeats (ways_by a b q r)
by_differ Client Server q r = (λ none. none, tt)
by_differ Server Client q r =
    no_repeats-map (λ lane. response_way r.number lane q.number) (range_with_len 0 r.pool) (λ a b same. ap (λ (v : Way). v.lane) same)
    (range-apart 0 r.pool)
by_differ Client Client q r = tt
by_differ Server Server q r = tt

between_differ : (q r : PlanPort) → NoRepeats (ways_between q r)
between_differ q r = by_differ q.role r.role q r

-- ---- among several ports

-- ways that are told apart by the ports for which they stand differ
flat_differ : (f : PlanPort → List Way) (tag : Way → ℕ) → ((r : PlanPort) → NoRepeats (f r))
    → ((r : PlanPort) (y : Way) → IsAmong y (f r) → tag y ≡ r.number)
    → (rs : List PlanPort) → NoRepeats (map (λ r. r.number) rs) → NoRepeats (flat_map f rs)
flat_differ f tag each tagged [] apart = tt
flat_differ f tag each tagged (r ∷ rs) apart =
    no_repeats-append (f r) (flat_map f rs) (each r) (flat_differ f tag each tagged rs apart.1)
    (λ y here there. again y here (flat-among f y rs there))
  where
    again : (y : Way) → IsAmong y (f r) → (a : PlanPort) × IsAmong a rs × IsAmong y (f a) → ⊥
    again y here other =
        apart.0 (subst (λ k. IsAmong k (map (λ r. r.number) rs)) (sym (tagged other.0 y other.2) ∙ tagged r y here)
        (among-map (λ r. r.number) other.0 rs other.1))

only_if : (b : Bool) (ws : List Way) → NoRepeats ws → NoRepeats (if b then ws else [])
only_if true ws apart = apart
only_if false ws apart = tt

among_if : (b : Bool) (y : Way) (ws : List Way) → IsAmong y (if b then ws else []) → IsAmong y ws
among_if true y ws among = among
among_if false y ws among = absurd among

module _ (plan : WirePlan) (distinct : AreDistinct (port_numbers plan)) where
  apart : NoRepeats (map (λ (r : PlanPort). r.number) plan.ports.items)
  apart = distinct-no_repeats (port_numbers plan) distinct

  pub from_differ : (q : PlanPort) → NoRepeats (planned_ways plan q)
  from_differ q = flat_differ (ways_between q) (λ y. y.receiver) (between_differ q) (λ r y among. (between q r y among).0) plan.ports.items apart

  to_differ : (n : ℕ) (q : PlanPort) → NoRepeats (ways_to plan n q)
  to_differ n q =
      flat_differ (λ r. if r.node == n then ways_between q r else []) (λ y. y.receiver) (λ r. only_if (r.node == n) (ways_between q r) (between_differ q r))
      (λ r y among. (between q r y (among_if (r.node == n) y (ways_between q r) among)).0) plan.ports.items apart

  to_sender : (n : ℕ) (q : PlanPort) (y : Way) → IsAmong y (ways_to plan n q) → y.sender ≡ q.number
  to_sender n q y among =
      let at = flat-among (λ (r : PlanPort). if r.node == n then ways_between q r else []) y plan.ports.items among in
      (between q at.0 y (among_if (at.0.node == n) y (ways_between q at.0) at.2)).1

  into_differ : (n : ℕ) → NoRepeats (ways_into plan n)
  into_differ n = flat_differ (ways_to plan n) (λ y. y.sender) (to_differ n) (to_sender n) plan.ports.items apart

  pub counts_differ : (n : ℕ) → AreOfDifferentWays (map no_count (ways_into plan n))
  counts_differ n = counted (ways_into plan n) (into_differ n)
    where
      others : (w : Way) (ws : List Way) → (IsAmong w ws → ⊥) → AreOfOtherWays w (map no_count ws)
      others w [] none = tt
      others w (v ∷ ws) none =
          (false_if (same_way v w) (λ same. none (inl (sym (same_way-true v w same)))), others w ws (λ among. none (inr among)))

      counted : (ws : List Way) → NoRepeats ws → AreOfDifferentWays (map no_count ws)
      counted [] differ = tt
      counted (w ∷ ws) differ = (others w ws differ.0, counted ws differ.1)

  pub desks_differ : (n : ℕ) → AreOfDifferentPorts (planned_desks plan n)
  desks_differ n =
      differing (filter (λ (q : PlanPort). q.node == n) plan.ports.items)
      (no_repeats-map_filter (λ (q : PlanPort). q.number) (λ q. q.node == n) plan.ports.items apart)
    where
      others : (port : ℕ) (qs : List PlanPort) → (IsAmong port (map (λ q. q.number) qs) → ⊥) → AreOfOtherPorts port (map (planned_desk plan) qs)
      others port [] none = tt
      others port (q ∷ qs) none =
          (false_if (q.number == port) (λ same. none (inl (sym (eqb-true q.number port same)))), others port qs (λ among. none (inr among)))

      differing : (qs : List PlanPort) → NoRepeats (map (λ q. q.number) qs) → AreOfDifferentPorts (map (planned_desk plan) qs)
      differing [] differ = tt
      differing (q ∷ qs) differ = (others q.number qs differ.0, differing qs differ.1)

-- ---- lists that grow

abbrev pub empty_record : Way → Recorded
empty_record y = record { way = y; slots = [] }

ways_recorded : (ws : List Way) → map (λ r. r.way) (map empty_record ws) ≡ ws
ways_recorded [] = refl
ways_recorded (w ∷ ws) = ap (λ vs. w ∷ vs) (ways_recorded ws)

among_take : {A : Type 0} (a : A) (xs : List A) (i : ℕ) → IsAmong a (take i xs) → IsAmong a xs
among_take a [] zero among = among
among_take a [] (suc i) among = among
among_take a (x ∷ xs) zero among = absurd among
among_take a (x ∷ xs) (suc i) (inl same) = inl same
among_take a (x ∷ xs) (suc i) (inr among) = inr (among_take a xs i among)

there : {A : Type 0} (xs : List A) (i : ℕ) (d : A) → i < length xs → IsAmong (get_or xs i d) xs
there [] i d low = absurd (omega (arith, low))
there (x ∷ xs) zero d low = inl refl
there (x ∷ xs) (suc i) d low = inr (there xs i d (omega (arith, low)))

not_before : (ws : List Way) → NoRepeats ws → (i : ℕ) (d : Way) → i < length ws → IsAmong (get_or ws i d) (take i ws) → ⊥
not_before [] differ i d low among = omega (arith, low)
not_before (w ∷ ws) differ zero d low among = among
not_before (w ∷ ws) differ (suc i) d low (inl same) =
    differ.0 (subst (λ v. IsAmong v ws) same (there ws i d (omega (arith, low))))
not_before (w ∷ ws) differ (suc i) d low (inr among) = not_before ws differ.1 i d (omega (arith, low)) among

-- a way is on none of the records before it
pub is_new : (ws : List Way) → NoRepeats ws → (i : ℕ) (d : Way) → i < length ws
    → has_way (get_or ws i d) (map (λ r. r.way) (map empty_record (take i ws))) ≡ false
is_new ws differ i d low =
    ap (has_way (get_or ws i d)) (ways_recorded (take i ws))
    ∙ false_if (has_way (get_or ws i d) (take i ws)) (λ has. not_before ws differ i d low (way-among (get_or ws i d) (take i ws) has))

last_of_range : (a n : ℕ) → range_with_len a (suc n) ≡ range_with_len a n ++ (a + n) ∷ []
last_of_range a zero = let e : a ≡ a + 0 = omega arith in ap (λ (k : ℕ). k ∷ []) e
last_of_range a (suc n) =
    let e : a + 1 + n ≡ a + suc n = omega arith in
    ap (λ ns. a ∷ ns) (last_of_range (a + 1) n ∙ ap (λ (k : ℕ). range_with_len (a + 1) n ++ k ∷ []) e)

-- one lane more
pub lane_more : (q r : PlanPort) (n : ℕ) → map (λ lane. response_way r.number lane q.number) (range_with_len 0 (n + 1))
    ≡ map (λ lane. response_way r.number lane q.number) (range_with_len 0 n) ++ response_way r.number n q.number ∷ []
lane_more q r n =
    let e : n + 1 ≡ suc n = omega arith in
    let l : 0 + n ≡ n = omega arith in
    ap (λ k. map (λ lane. response_way r.number lane q.number) (range_with_len 0 k)) e
    ∙ ap (map (λ lane. response_way r.number lane q.number)) (last_of_range 0 n ∙ ap (λ (k : ℕ). range_with_len 0 n ++ k ∷ []) l)
    ∙ map-append (λ lane. response_way r.number lane q.number) (range_with_len 0 n) (n ∷ [])

module _ {A B : Type 0} (test : A → Bool) (f : A → B) where
  one_of_more : (x : A) (b : Bool) → test x ≡ b → map f (filter test (x ∷ [])) ≡ (if b then f x ∷ [] else [])
  one_of_more x true is = rw is refl
  one_of_more x false is = rw is refl

  -- those that pass among one more
  pub more_pass : (xs : List A) (x : A) → map f (filter test (xs ++ x ∷ [])) ≡ map f (filter test xs) ++ (if test x then f x ∷ [] else [])
  more_pass xs x =
      ap (map f) (filter-append test xs (x ∷ [])) ∙ map-append f (filter test xs) (filter test (x ∷ []))
      ∙ ap (λ ys. map f (filter test xs) ++ ys) (one_of_more x (test x) refl)

-- the first so many and one more
pub one_more : {A : Type 0} (xs : List A) (i : ℕ) (d : A) → i < length xs → take (i + 1) xs ≡ take i xs ++ get_or xs i d ∷ []
one_more xs i d low = let e : i + 1 ≡ suc i = omega arith in ap (λ k. take k xs) e ∙ take-suc xs i d low
