-- The lanes from a sender to a receiver: in which order something is got back there.
use Rattle.std.specs.Prelude.{◌≡◌, ℕ, ◌+◌, ◌<◌, ◌≤◌, zero, suc, Bool, true, false, not, if◌then◌else◌, List, [], ◌∷◌, ◌++◌, length, map, Option, Some, None, slice_get, refl}
use Rattle.std.specs.List.{position_from, range_with_len}
use Rattle.std.specs.Option.{option_map_or}
use Rattle.std.proofs.Common.{sym, ap, subst, ◌∙◌, arith, true≢false}
use Rattle.std.proofs.lemmas.Option.{none-some, same_Some, slice_get_within}
use Rattle.iox_model.specs.declared.kind.Role.{Role}
use Rattle.iox_model.specs.declared.kind.Role.TheVariants.{Client, Server}
use Rattle.iox_model.specs.declared.way.Way.{Way}
use Rattle.iox_model.specs.Maps.{AreDistinctWays, has_way, is_empty}
use Rattle.iox_model.specs.Messages.{request_way, response_way}
use Rattle.iox_model.specs.Settings.{is_client, other_role, same_role}
use Rattle.iox_laws.proofs.WeaveLedger.Ranges.{range-apart}
use Rattle.iox_lanes.specs.Lanes.{LaneState, has_returned}
use Rattle.iox_lanes.specs.Pipes.{PipeState, lane_to_get}
use Rattle.iox_tables.specs.HubStates.Tables.{HubTables, PortState, pipe_from, pipes_of, pipes_to}
use Rattle.iox_tables.specs.HubStates.Ways.{lane_on, lanes_from}
use Rattle.iox_tables.proofs.HubStates.Fixing.{first_key}
use Rattle.iox_hub_phases.specs.Phases.{OfEachWay}
use Rattle.iox_hub_ports.specs.declared.info.PortInfo.{PortInfo}
use Rattle.iox_hub_ports.specs.Ports.{info_in, lane_to_get_on}
use Rattle.iox_tables.proofs.HubBooks.Sendable.{apart_map}
use Rattle.iox_tables.specs.HubLoans.Lenders.{size_in, ways_to_client}
use Rattle.iox_control.specs.Controls.{ControlState, IsControl}
use Rattle.iox_control_retrieving.specs.Retrieving.{ways_to}
use Rattle.iox_control_retrieving.proofs.Emptied.{IsEmptied}
use Rattle.iox_control_retrieving.proofs.Infos.{port_of_info}
use Rattle.iox_control_retrieving.proofs.OneByOne.{IsNext}

-- ---- the first that passes

-- none before it passes
earlier : {A : Type 0} (test : A → Bool) (xs : List A) (n i : ℕ) → position_from test n xs ≡ Some (n + i) → (m : ℕ) (x : A) → m < i → slice_get xs m ≡ Some x
    → test x ≡ false
earlier test [] n i e m x low at = absurd (none-some x at)
earlier test (y ∷ ys) n zero e m x low at = absurd (omega (arith, low))
earlier {A} test (y ∷ ys) n (suc i) e m x low at = step (test y) refl e m low at (λ h k less here. earlier test ys (n + 1) i h k x less here)
  where
    step : (b : Bool) → test y ≡ b → (if b then Some n else position_from test (n + 1) ys) ≡ Some (n + suc i)
        → (k : ℕ) → k < suc i → slice_get (y ∷ ys) k ≡ Some x
        → (position_from test (n + 1) ys ≡ Some (n + 1 + i) → (j : ℕ) → j < i → slice_get ys j ≡ Some x → test x ≡ false) → test x ≡ false
    step true t h k less here rest = let same = same_Some n (n + suc i) h in absurd (omega (arith, same))
    step false t h zero less here rest = ap test (sym (same_Some y x here)) ∙ t
    step false t h (suc k) less here rest = rest (h ∙ ap (λ (j : ℕ). Some j) (omega arith)) k (omega (arith, less)) here

none_is : {A : Type 0} (test : A → Bool) (xs : List A) (n : ℕ) → position_from test n xs ≡ None → (m : ℕ) (x : A) → slice_get xs m ≡ Some x → test x ≡ false
none_is test [] n e m x at = absurd (none-some x at)
none_is {A} test (y ∷ ys) n e m x at = step (test y) refl e (none_is test ys (n + 1)) m at
  where
    step : (b : Bool) → test y ≡ b → (if b then Some n else position_from test (n + 1) ys) ≡ None
        → (position_from test (n + 1) ys ≡ None → (k : ℕ) (z : A) → slice_get ys k ≡ Some z → test z ≡ false)
        → (k : ℕ) → slice_get (y ∷ ys) k ≡ Some x → test x ≡ false
    step true t h rest k here = absurd (none-some n (sym h))
    step false t h rest zero here = ap test (sym (same_Some y x here)) ∙ t
    step false t h rest (suc k) here = rest h k x here

-- ---- the lane on which something is left

to_get : (ps : List PipeState) (s : ℕ) → lane_to_get_on ps s ≡ position_from has_returned 0 (lanes_from ps s)
to_get ps s = step (pipe_from ps s)
  where
    step : (o : Option PipeState) → option_map_or lane_to_get o None ≡ position_from has_returned 0 (option_map_or (λ p. p.lanes) o [])
    step (Some p) = refl
    step None = refl

nothing_left : (l : LaneState) → has_returned l ≡ false → l.returned ≡ []
nothing_left l e = step l.returned e
  where
    step : (ks : List ℕ) → not (is_empty ks) ≡ false → ks ≡ []
    step [] h = refl
    step (k ∷ ks) h = absurd (true≢false h)

-- ---- the ways

module _ (s n : ℕ) where
  -- the way of that lane from the sender to the receiver
  abbrev pub lane_way : ℕ → Way
  lane_way lane = response_way n lane s

  -- the ways of so many lanes from one on
  abbrev ways_of : ℕ → ℕ → List Way
  ways_of a d = map lane_way (range_with_len a d)

  -- the ways of the first lanes
  abbrev pub first_lanes : ℕ → List Way
  first_lanes d = ways_of 0 d

  pub lanes_apart : (d : ℕ) → AreDistinctWays (first_lanes d)
  lanes_apart d = apart_map lane_way (λ w. w.lane) (λ k. refl) (range_with_len 0 d) (range-apart 0 d)

  -- one of them stands behind those below it
  parted : (a d i : ℕ) → i < d → (behind : List Way) × (ways_of a d ≡ ways_of a i ++ lane_way (a + i) ∷ behind)
  parted a zero i low = absurd (omega (arith, low))
  parted a (suc d) zero low = (ways_of (a + 1) d, ap (λ k. lane_way k ∷ ways_of (a + 1) d) (omega arith))
  parted a (suc d) (suc i) low =
      let r = parted (a + 1) d i (omega (arith, low)) in
      (r.0, ap (λ ws. lane_way a ∷ ws) (r.1 ∙ ap (λ k. ways_of (a + 1) i ++ lane_way k ∷ r.0) (omega arith)))

  behind_apart : (ws vs : List Way) (w : Way) → AreDistinctWays (ws ++ w ∷ vs) → has_way w vs ≡ false
  behind_apart [] vs w apart = apart.0
  behind_apart (v ∷ ws) vs w apart = behind_apart ws vs w apart.1

  each : (ports : List PortState) (a d : ℕ) → ((i : ℕ) → a ≤ i → i < a + d → IsEmptied ports (lane_way i)) → OfEachWay (IsEmptied ports) (ways_of a d)
  each ports a zero none = tt
  each ports a (suc d) none = (none a (omega arith) (omega arith), each ports (a + 1) d (λ i from to. none i (omega (arith, from)) (omega (arith, to))))

  -- ---- what is left on them

  below : (ports : List PortState) (lane : ℕ) → Some lane ≡ lane_to_get_on (pipes_to ports n) s → (i : ℕ) → i < lane → IsEmptied ports (lane_way i)
  below ports lane e i low l at =
      nothing_left l (earlier has_returned (lanes_from (pipes_to ports n) s) 0 lane
      (sym (e ∙ to_get (pipes_to ports n) s) ∙ ap (λ (k : ℕ). Some k) (omega arith)) i l low at)

  pub none_left : (ports : List PortState) → None ≡ lane_to_get_on (pipes_to ports n) s → (d : ℕ) → OfEachWay (IsEmptied ports) (first_lanes d)
  none_left ports e d =
      each ports 0 d (λ i from to l at. nothing_left l (none_is has_returned (lanes_from (pipes_to ports n) s) 0 (sym (e ∙ to_get (pipes_to ports n) s)) i l at))

  pub next_is : (ports : List PortState) (lane d : ℕ) → Some lane ≡ lane_to_get_on (pipes_to ports n) s → lane < d → IsNext ports (first_lanes d) (lane_way lane)
  next_is ports lane d e low =
      let r = parted 0 d lane low in
      let split : first_lanes d ≡ first_lanes lane ++ lane_way lane ∷ r.0
      = r.1 ∙ ap (λ k. first_lanes lane ++ lane_way k ∷ r.0) (omega arith) in record {
        before = first_lanes lane;
        behind = r.0;
        split = split;
        none = each ports 0 lane (λ i from to. below ports lane e i (omega (arith, to)));
        apart = behind_apart (first_lanes lane) r.0 (lane_way lane) (subst AreDistinctWays split (lanes_apart d));
      }

-- ---- how many there are

-- how many lanes there are to a port of which that is said
abbrev pub width : List PortState → PortInfo → ℕ
width ports to = if is_client to.role then size_in ports to.number else 1

pub ways_are : (role : Role) (t : HubTables) (s : ℕ) (to : PortInfo) → same_role role to.role ≡ false → ways_to role t s to ≡ first_lanes s to.number (width t.ports to)
ways_are Client t s to differ = step to.role differ
  where
    step : (r : Role) → same_role Client r ≡ false
        → (if is_client r then [] else request_way s to.number ∷ []) ≡ first_lanes s to.number (if is_client r then size_in t.ports to.number else 1)
    step Client e = absurd (true≢false e)
    step Server e = refl
ways_are Server t s to differ = step to.role differ
  where
    step : (r : Role) → same_role Server r ≡ false
        → (if is_client r then ways_to_client t s to.number else []) ≡ first_lanes s to.number (if is_client r then size_in t.ports to.number else 1)
    step Client e = refl
    step Server e = absurd (true≢false e)

pub none_alike : (role : Role) (t : HubTables) (s : ℕ) (to : PortInfo) → same_role role to.role ≡ true → ways_to role t s to ≡ []
none_alike Client t s to alike = step to.role alike
  where
    step : (r : Role) → same_role Client r ≡ true → (if is_client r then [] else request_way s to.number ∷ []) ≡ []
    step Client e = refl
    step Server e = absurd (true≢false (sym e))
none_alike Server t s to alike = step to.role alike
  where
    step : (r : Role) → same_role Server r ≡ true → (if is_client r then ways_to_client t s to.number else []) ≡ []
    step Client e = absurd (true≢false (sym e))
    step Server e = refl

others : (a b : Role) → same_role a b ≡ false → b ≡ other_role a
others Client Client e = absurd (true≢false e)
others Client Server e = refl
others Server Client e = refl
others Server Server e = absurd (true≢false e)

-- a lane that is there is one of them
pub within : (c : ControlState) (from to : PortInfo) → IsControl c → info_in c.tables.ports from.number ≡ Some from → info_in c.tables.ports to.number ≡ Some to
    → same_role from.role to.role ≡ false → (lane : ℕ) (l : LaneState) → lane_on c.tables.ports (lane_way from.number to.number lane) ≡ Some l
    → lane < width c.tables.ports to
within c from to order sender receiver differ lane l at =
    let p = port_of_info c.tables.ports from.number from sender in
    let q = port_of_info c.tables.ports to.number to receiver in
    let roles : q.0.role ≡ other_role p.0.role
    = ap (λ (i : PortInfo). i.role) q.2 ∙ others from.role to.role differ ∙ ap other_role (sym (ap (λ (i : PortInfo). i.role) p.2)) in
    let lanes : length (lanes_from (pipes_of q.0) from.number) ≡ (if is_client to.role then q.0.size else 1)
    = ap (λ m. length (lanes_from (pipes_of q.0) m)) (sym (first_key (λ (x : PortState). x.number) c.tables.ports from.number p.0 p.1))
    ∙ (order.order.widths to.number from.number q.0 p.0 q.1 p.1 roles).lanes
    ∙ ap (λ (i : PortInfo). if is_client i.role then q.0.size else 1) q.2 in
    let there : slice_get (lanes_from (pipes_of q.0) from.number) lane ≡ Some l
    = sym (ap (λ o. slice_get (lanes_from (option_map_or pipes_of o []) from.number) lane) q.1) ∙ at in
    let inside = slice_get_within (lanes_from (pipes_of q.0) from.number) lane l there in
    let size : width c.tables.ports to ≡ (if is_client to.role then q.0.size else 1)
    = ap (λ o. if is_client to.role then option_map_or (λ (x : PortState). x.size) o 0 else 1) q.1 in
    omega (arith, lanes, inside, size)
