-- What a port keeps once it got all back, and what is known about it before.
use Rattle.std.specs.Prelude.{◌≡◌, ℕ, ◌+◌, Bool, true, false, not, ◌&&◌, ◌||◌, if◌then◌else◌, nat_le, List, [], ◌∷◌, ◌++◌, length, filter, Option, Some, None, refl}
use Rattle.std.specs.List.{list_any, range_with_len}
use Rattle.std.specs.Option.{option_map, option_map_or}
use Rattle.std.proofs.Common.{sym, ap, ap₂, subst, ◌∙◌, true≢false, inl, inr}
use Rattle.std.proofs.lemmas.Option.{none-some}
use Rattle.iox_model.specs.declared.kind.Role.TheVariants.{Client}
use Rattle.iox_model.specs.declared.way.Way.{Way}
use Rattle.iox_model.specs.Maps.{has_number, same_way}
use Rattle.iox_model.specs.Outstandings.{is_held}
use Rattle.iox_model.specs.Peers.{role_at, ways_from}
use Rattle.iox_model.specs.States as m
use Rattle.iox_laws.proofs.WeaveLaws.MapLemmas.{same_way-refl, same_way-true}
use Rattle.iox_laws.proofs.WeaveLedger.Lists.{IsAmong, among-any, any-among}
use Rattle.iox_laws.specs.CallFunctions.Sends.{emptied, emptied_at, without_all}
use Rattle.iox_lanes.specs.Lanes.{LaneState}
use Rattle.iox_tables.specs.HubStates.Tables.{HubTables, PortState, port_in}
use Rattle.iox_tables.specs.HubStates.Ways.{OnWays, at, at_each, lane_on}
use Rattle.iox_tables.specs.HubStates.States.{Given, fixed_of, message_of, state_shown}
use Rattle.iox_tables.specs.HubStates.Changes.{HasEachOnce, OfEachLane, emptied_lane}
use Rattle.iox_tables.specs.HubStates.Steps.{places_on}
use Rattle.iox_tables.proofs.HubStates.Emptied.{has-append, without_is}
use Rattle.iox_tables.proofs.HubStates.Fixing.{role_is}
use Rattle.iox_tables.proofs.HubStates.Keys.{at_is, lanes_turned}
use Rattle.iox_tables.proofs.HubStates.Steps.{emptying_is_shown}
use Rattle.iox_tables.specs.HubLoans.Lenders.{is_pool_dry, is_pool_to_be_dry, lender_of_request, ways_by, with_got_back}
use Rattle.iox_tables.specs.HubLoans.Pools.{CarriesIts, DryPoolsAreForetold, DryPoolsAreKept, KeepsItsOwn, is_slot_held, is_slot_kept, is_slot_out}
use Rattle.iox_tables.proofs.HubLoans.Dry.{dry_is_kept, either, or_left, or_right}
use Rattle.iox_tables.proofs.HubLoans.Lent.{all_ways, fixed_back}

-- ---- lanes

-- the lane had the same pool and all that it has, and perhaps more was given back
pub record HadMore (l : LaneState) (o : Option LaneState) : Type 0 where
  pub lane : LaneState
  pub there : o ≡ Some lane
  pub pool : l.pool ≡ lane.pool
  pub places : (k : ℕ) → has_number k (places_on l) ≡ true → has_number k (places_on lane) ≡ true

same_lane : (l : LaneState) (o : Option LaneState) → o ≡ Some l → HadMore l o
same_lane l o is = record { lane = l; there = is; pool = refl; places = λ k e. e }

fewer_places : (k : ℕ) (l : LaneState) → has_number k (places_on (emptied_lane l)) ≡ true → has_number k (places_on l) ≡ true
fewer_places k l e =
    has-append k l.returned (l.waiting ++ l.taken) ∙ or_right (has_number k l.returned) (has_number k (l.waiting ++ l.taken)) e

had_at : (on : OnWays LaneState) (w v : Way) (l : LaneState) → at emptied_lane on w v ≡ Some l → HadMore l (on v)
had_at on w v l is = step (same_way v w) (on v) (sym (at_is emptied_lane on w v) ∙ is)
  where
    step : (b : Bool) (o : Option LaneState) → (if b then option_map emptied_lane o else o) ≡ Some l → HadMore l o
    step true (Some k) e =
        let same : emptied_lane k ≡ l = ap (λ (o : Option LaneState). option_map_or (λ z. z) o l) e in
        subst (λ z. HadMore z (Some k)) same (record { lane = k; there = refl; pool = refl; places = λ i at. fewer_places i k at })
    step true None e = absurd (none-some l e)
    step false o e = same_lane l o e

had_each : (ws : List Way) (on : OnWays LaneState) (v : Way) (l : LaneState) → at_each emptied_lane on ws v ≡ Some l → HadMore l (on v)
had_each [] on v l is = same_lane l (on v) is
had_each (w ∷ ws) on v l is =
    let more : HadMore l (at emptied_lane on w v) = had_each ws (at emptied_lane on w) v l is in
    let first : HadMore more.lane (on v) = had_at on w v more.lane more.there in record {
      lane = first.lane;
      there = first.there;
      pool = more.pool ∙ first.pool;
      places = λ k e. first.places k (more.places k e);
    }

-- ---- what the port keeps

module _ (x : Given) (t : HubTables) (p : PortState) (there : port_in t.ports p.number ≡ Some p) where
  abbrev back : HubTables
  back = with_got_back t p

  abbrev n : ℕ
  n = p.number

  fixed_is : fixed_of x back ≡ fixed_of x t
  fixed_is = fixed_back x t (lender_of_request p 0) there

  role_there : role_at (fixed_of x t) n ≡ p.role
  role_there = role_is x t n ∙ ap (λ o. option_map_or (λ q. q.role) o Client) there

  ways_now : ways_from (fixed_of x t) n ≡ ways_by p.role t n
  ways_now = all_ways x t p.role n role_there

  ways_then : ways_by p.role back n ≡ ways_by p.role t n
  ways_then =
      sym (all_ways x back p.role n (ap (λ (f : m.Fixed). role_at f n) fixed_is ∙ role_there))
      ∙ ap (λ (f : m.Fixed). ways_from f n) fixed_is ∙ ways_now

  had : (w : Way) (l : LaneState) → lane_on back.ports w ≡ Some l → HadMore l (lane_on t.ports w)
  had w l is =
      had_each (ways_by p.role t n) (lane_on t.ports) w l
      (sym (ap (λ (on : OnWays LaneState). on w) (lanes_turned emptied_lane t.ports (ways_by p.role t n))) ∙ is)

  out_before : (k : ℕ) → is_slot_out back p k ≡ true → is_slot_out t p k ≡ true
  out_before k e =
      let r = any-among (λ w. option_map_or (λ l. has_number k (places_on l)) (lane_on back.ports w) false) (ways_by p.role t n)
      (ap (list_any (λ w. option_map_or (λ l. has_number k (places_on l)) (lane_on back.ports w) false)) (sym ways_then) ∙ e) in
      among-any (λ w. option_map_or (λ l. has_number k (places_on l)) (lane_on t.ports w) false) r.0 (ways_by p.role t n) r.1
      (step r.0 (lane_on back.ports r.0) refl r.2)
    where
      step : (w : Way) (o : Option LaneState) → lane_on back.ports w ≡ o → option_map_or (λ l. has_number k (places_on l)) o false ≡ true
          → option_map_or (λ l. has_number k (places_on l)) (lane_on t.ports w) false ≡ true
      step w None is out = absurd (true≢false (sym out))
      step w (Some l) is out =
          let more : HadMore l (lane_on t.ports w) = had w l is in
          ap (λ o. option_map_or (λ (l : LaneState). has_number k (places_on l)) o false) more.there ∙ more.places k out

  kept_before : (k : ℕ) → is_slot_kept back p k ≡ true → is_slot_kept t p k ≡ true
  kept_before k e = elim (either (is_slot_held t p k) (is_slot_out back p k) e) as (λ u. is_slot_kept t p k ≡ true) [
    | inl q ↦ or_left (is_slot_held t p k) (is_slot_out t p k) q
    | inr q ↦ or_right (is_slot_held t p k) (is_slot_out t p k) (out_before k q)
  ]

  pub own_then : KeepsItsOwn t p → KeepsItsOwn back p
  own_then own = record {
    handles = own.handles;
    lanes = λ w l is from.
        let more : HadMore l (lane_on t.ports w) = had w l is in
        let its : CarriesIts p more.lane = own.lanes w more.lane more.there from in
        (more.pool ∙ its.0, λ k at. its.1 k (more.places k at));
    apart = λ j k ej ek e. own.apart j k (kept_before j ej) (kept_before k ek) e;
    below = λ k e. own.below k (kept_before k e);
  }

  -- ---- what is told before

  abbrev s : m.State
  s = state_shown x t

  -- what was delivered and not given back
  abbrev still : m.State → Way → ℕ → Bool
  still u w k = u.delivered w k && not (has_number k (u.returned w))

  still_at : (u : m.State) (w v : Way) (k : ℕ) → still (emptied_at u w) v k ≡ still u v k
  still_at u w v k = step (same_way v w) refl
    where
      first : (b c : Bool) → ((if b then false else c) && true) ≡ (c && not b)
      first true true = refl
      first true false = refl
      first false true = refl
      first false false = refl

      step : (b : Bool) → same_way v w ≡ b
          → ((if b then without_all (u.delivered w) (u.returned w) else u.delivered v) k && not (has_number k (if b then [] else u.returned v))) ≡ still u v k
      step true e =
          ap (λ b. b && true) (without_is (u.returned w) (u.delivered w) k)
          ∙ first (has_number k (u.returned w)) (u.delivered w k)
          ∙ ap (λ z. still u z k) (sym (same_way-true v w e))
      step false e = refl

  still_is : (ws : List Way) (u : m.State) (v : Way) (k : ℕ) → still (emptied u ws) v k ≡ still u v k
  still_is [] u v k = refl
  still_is (w ∷ ws) u v k = still_is ws (emptied_at u w) v k ∙ still_at u w v k

  stays_empty : (ws : List Way) (u : m.State) (v : Way) → u.returned v ≡ [] → (emptied u ws).returned v ≡ []
  stays_empty [] u v e = e
  stays_empty (w ∷ ws) u v e = stays_empty ws (emptied_at u w) v (step (same_way v w))
    where
      step : (b : Bool) → (if b then [] else u.returned v) ≡ []
      step true = refl
      step false = e

  is_empty : (ws : List Way) (u : m.State) (v : Way) → IsAmong v ws → (emptied u ws).returned v ≡ []
  is_empty [] u v a = absurd a
  is_empty (w ∷ ws) u v (inl e) =
      stays_empty ws (emptied_at u w) v (ap (λ b. if b then [] else u.returned v) (ap (λ z. same_way z w) e ∙ same_way-refl w))
  is_empty (w ∷ ws) u v (inr a) = is_empty ws (emptied_at u w) v a

  delivered_is : (ws : List Way) (v : Way) (k : ℕ) → IsAmong v ws → still s v k ≡ (emptied s ws).delivered v k
  delivered_is ws v k a =
      sym (still_is ws s v k)
      ∙ ap (λ ks. (emptied s ws).delivered v k && not (has_number k ks)) (is_empty ws s v a)
      ∙ and_true ((emptied s ws).delivered v k)
    where
      and_true : (b : Bool) → (b && true) ≡ b
      and_true true = refl
      and_true false = refl

  same_any : (f g : Way → Bool) (ws : List Way) → ((w : Way) → IsAmong w ws → f w ≡ g w) → list_any f ws ≡ list_any g ws
  same_any f g [] same = refl
  same_any f g (w ∷ ws) same = ap₂ (λ a b. a || b) (same w (inl refl)) (same_any f g ws (λ v a. same v (inr a)))

  out_is : (u : m.State) → u ≡ emptied s (ways_by p.role t n) → (k : ℕ)
      → list_any (λ w. still s w k) (ways_by p.role t n) ≡ list_any (λ w. u.delivered w k) (ways_by p.role t n)
  out_is u is k =
      same_any (λ w. still s w k) (λ w. (emptied s (ways_by p.role t n)).delivered w k) (ways_by p.role t n) (λ w a. delivered_is (ways_by p.role t n) w k a)
      ∙ ap (λ (v : m.State). list_any (λ w. v.delivered w k) (ways_by p.role t n)) (sym is)

  pub foretold : OfEachLane (HasEachOnce (message_of x t.pools)) (lane_on t.ports) → is_pool_to_be_dry x t p ≡ is_pool_dry x t p
  foretold once =
      ap (λ (test : ℕ → Bool). nat_le p.size (length (filter test (range_with_len 0 ((fixed_of x t).loans n + 1)))))
      (λ i k. (ap (λ ws. is_held (fixed_of x t) n k || list_any (λ w. still s w k) ws) ways_now
      ∙ ap (λ b. is_held (fixed_of x t) n k || b) (out_is (state_shown x back) (emptying_is_shown x t (ways_by p.role t n) once) k)
      ∙ ap (λ ws. is_held (fixed_of x t) n k || list_any (λ w. (state_shown x back).delivered w k) ws) (sym ways_now)) i)
      ∙ ap (λ (f : m.Fixed). nat_le p.size (length (filter (λ k. is_held f n k || list_any (λ w. (state_shown x back).delivered w k) (ways_from f n)) (range_with_len 0 (f.loans n + 1))))) (sym fixed_is)

pub dry_pools_are_kept : DryPoolsAreKept
dry_pools_are_kept x t p there on own = dry_is_kept x t p there on (own_then x t p there own)

pub dry_pools_are_foretold : DryPoolsAreForetold
dry_pools_are_foretold x t p there once = foretold x t p there once
