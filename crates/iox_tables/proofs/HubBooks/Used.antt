-- What the laws of a hub's calls ask of lanes is so where its tables are in order.
use Rattle.std.specs.Prelude.{◌≡◌, ℕ, ◌+◌, ◌≤◌, Bool, true, false, ◌&&◌, if◌then◌else◌, ◌==◌, List, [], ◌∷◌, ◌++◌, map, Option, Some, None, slice_get, refl}
use Rattle.std.specs.Option.{option_map_or}
use Rattle.std.proofs.Common.{sym, ap, ap₂, subst, ◌∙◌, arith, eqb-true}
use Rattle.std.proofs.lemmas.Option.{none-some}
use Rattle.iox_model.specs.declared.way.Way.{Way}
use Rattle.iox_model.specs.Maps.{has_number, AreDistinct}
use Rattle.iox_laws.proofs.WeaveLaws.MapLemmas.{eqb-refl}
use Rattle.iox_lanes.specs.Lanes.{LaneState, delivered}
use Rattle.iox_lanes.specs.Pipes.{PipeState}
use Rattle.iox_tables.specs.HubStates.Tables.{HandleState, HubTables, PortState, pipe_from, pipes_of, port_in, slot_at}
use Rattle.iox_tables.specs.HubStates.Ways.{lane_on, lanes_from}
use Rattle.iox_tables.specs.HubStates.States.{Given, message_of}
use Rattle.iox_tables.specs.HubStates.Changes.{HasEachOnce, serials_on}
use Rattle.iox_tables.specs.HubStates.Ends.{OfEachHandle}
use Rattle.iox_tables.specs.HubStates.Steps.{places_on}
use Rattle.iox_tables.specs.HubStates.Wirings.{handle_in}
use Rattle.iox_tables.specs.HubBooks.Counts.{how_often, in_pipe, in_port, is_at, lane_count, on_lanes, total}
use Rattle.iox_tables.specs.HubBooks.Hubs.{AreInOrder, HasEachPlaceOnce, IsUsed}
use Rattle.iox_tables.specs.HubBooks.Premises.{EachIsOnceOnItsLane}
use Rattle.iox_tables.proofs.HubBooks.Eachs.{lane_is}
use Rattle.iox_tables.proofs.HubBooks.LaneCounts.{delivered_places}
use Rattle.iox_tables.proofs.HubBooks.Places.{first_below, get_below, has_often, often_has, serials_apart}

-- ---- one counts no more than all

pub lane_below : (f : LaneState → ℕ) (ports : List PortState) (w : Way) (l : LaneState) → lane_on ports w ≡ Some l → f l ≤ on_lanes f ports
lane_below f ports w l there = at_port (port_in ports w.receiver) refl there
  where
    at_pipe : (p : PortState) → in_port f p ≤ on_lanes f ports → (o : Option PipeState) → pipe_from (pipes_of p) w.sender ≡ o
        → slice_get (option_map_or (λ (q : PipeState). q.lanes) o []) w.lane ≡ Some l → f l ≤ on_lanes f ports
    at_pipe p below None pipe at = absurd (none-some l at)
    at_pipe p below (Some q) pipe at =
        let one = get_below f q.lanes w.lane l at in
        let more = first_below (in_pipe f) (λ x. x.sender) (pipes_of p) w.sender q pipe in omega (arith, below, one, more)

    at_port : (o : Option PortState) → port_in ports w.receiver ≡ o → slice_get (lanes_from (option_map_or pipes_of o []) w.sender) w.lane ≡ Some l → f l ≤ on_lanes f ports
    at_port None port at = absurd (none-some l at)
    at_port (Some p) port at = at_pipe p (first_below (in_port f) (λ x. x.number) ports w.receiver p port) (pipe_from (pipes_of p) w.sender) refl at

pub handle_below : (f : HandleState → ℕ) (hs : List HandleState) (node n : ℕ) (h : HandleState) → handle_in hs node n ≡ Some h → f h ≤ total f hs
handle_below f [] node n h at = absurd (none-some h at)
handle_below f (k ∷ ks) node n h at = step ((k.node == node) && (k.number == n)) at (handle_below f ks node n h)
  where
    step : (b : Bool) → (if b then Some k else handle_in ks node n) ≡ Some h → (handle_in ks node n ≡ Some h → f h ≤ total f ks) → f h ≤ f k + total f ks
    step true is rest = let same : f k ≡ f h = ap (λ o. option_map_or f o 0) is in omega (arith, same)
    step false is rest = let more = rest is in omega (arith, more)

pub handle_is : (P : HandleState → Type 0) (hs : List HandleState) (node n : ℕ) (h : HandleState) → OfEachHandle P hs → handle_in hs node n ≡ Some h → P h
handle_is P [] node n h a at = absurd (none-some h at)
handle_is P (k ∷ ks) node n h a at = step ((k.node == node) && (k.number == n)) at (handle_is P ks node n h a.1)
  where
    step : (b : Bool) → (if b then Some k else handle_in ks node n) ≡ Some h → (handle_in ks node n ≡ Some h → P h) → P h
    step true is rest = subst (λ o. P (option_map_or (λ (x : HandleState). x) o k)) is a.0
    step false is rest = rest is

pub passes_once : {A : Type 0} (test : A → Bool) (x : A) → test x ≡ true → 1 ≤ (if test x then 1 else 0)
passes_once test x e = subst (λ (b : Bool). 1 ≤ (if b then 1 else 0)) (sym e) (omega arith)

pub at_itself : (h : HandleState) → is_at h.pool h.slot h ≡ true
at_itself h = ap₂ (λ a b. a && b) (eqb-refl h.pool) (eqb-refl h.slot)

pub own_count_is : (k : ℕ) (l : LaneState) (pool : ℕ) → l.pool ≡ pool → lane_count pool k l ≡ how_often k (places_on l)
own_count_is k l pool e = subst (λ p. lane_count p k l ≡ how_often k (places_on l)) e (ap (λ (b : Bool). if b then how_often k (places_on l) else 0) (eqb-refl l.pool))

-- ---- who has a slot

module _ (t : HubTables) (order : AreInOrder t) where
  pub used_on_lane : (w : Way) (l : LaneState) (k : ℕ) → lane_on t.ports w ≡ Some l → has_number k (places_on l) ≡ true → IsUsed t l.pool k
  used_on_lane w l k there has =
      let all = order.counted l.pool k in
      let below = lane_below (lane_count l.pool k) t.ports w l there in
      let own = own_count_is k l l.pool refl in
      let some = often_has k (places_on l) has in omega (arith, all, below, own, some)

  pub used_by_handle : (node n : ℕ) (h : HandleState) → handle_in t.handles node n ≡ Some h → IsUsed t h.pool h.slot
  used_by_handle node n h there =
      let all = order.counted h.pool h.slot in
      let below = handle_below (λ k. if is_at h.pool h.slot k then 1 else 0) t.handles node n h there in
      let some = passes_once (is_at h.pool h.slot) h (at_itself h) in omega (arith, all, below, some)

  -- ---- serials on a lane

  map_append : (s : ℕ → ℕ) (xs ys : List ℕ) → map s (xs ++ ys) ≡ map s xs ++ map s ys
  map_append s [] ys = refl
  map_append s (x ∷ xs) ys = ap (λ zs. s x ∷ zs) (map_append s xs ys)

  pub apart_on : (x : Given) (l : LaneState) → HasEachPlaceOnce l → ((k : ℕ) → has_number k (places_on l) ≡ true → IsUsed t l.pool k)
      → HasEachOnce (message_of x t.pools) l
  apart_on x l once used =
      subst AreDistinct serials
      (serials_apart (λ k. (slot_at t.pools l.pool k).serial) (places_on l) once (λ j k a b e. order.serials.apart l.pool j k (used j a) (used k b) e))
    where
      serials : map (λ k. (slot_at t.pools l.pool k).serial) (places_on l) ≡ serials_on (message_of x t.pools) l
      serials =
          map_append (λ k. (slot_at t.pools l.pool k).serial) l.returned (l.waiting ++ l.taken)
          ∙ ap (λ ys. map (λ k. (slot_at t.pools l.pool k).serial) l.returned ++ ys) (map_append (λ k. (slot_at t.pools l.pool k).serial) l.waiting l.taken)

  pub once_on : (x : Given) (w : Way) (l : LaneState) → lane_on t.ports w ≡ Some l → HasEachOnce (message_of x t.pools) l
  once_on x w l there = apart_on x l (lane_is HasEachPlaceOnce t.ports w l order.once there) (λ k has. used_on_lane w l k there has)

  -- ---- one message more on a lane, that only its handle has

  module _ (node n : ℕ) (h : HandleState) (named : handle_in t.handles node n ≡ Some h) (alone : (slot_at t.pools h.pool h.slot).holders ≡ 1) where
    pub on_no_lane : (w : Way) (l : LaneState) → lane_on t.ports w ≡ Some l → l.pool ≡ h.pool → how_often h.slot (places_on l) ≡ 0
    on_no_lane w l there e =
        let all = order.counted h.pool h.slot in
        let below = handle_below (λ k. if is_at h.pool h.slot k then 1 else 0) t.handles node n h named in
        let some = passes_once (is_at h.pool h.slot) h (at_itself h) in
        let lane = lane_below (lane_count h.pool h.slot) t.ports w l there in
        let own = own_count_is h.slot l h.pool e in omega (arith, alone, all, below, some, lane, own)

    module _ (x : Given) (w : Way) (l : LaneState) (there : lane_on t.ports w ≡ Some l) (e : l.pool ≡ h.pool) where
      once_more : HasEachPlaceOnce (delivered l h.slot)
      once_more j = step (h.slot == j) refl
        where
          fits : (a b c : ℕ) → a ≡ b + c → b + c ≤ 1 → a ≤ 1
          fits a b c is le = omega (arith, is, le)

          none : (k : ℕ) → h.slot ≡ k → how_often k (places_on l) + 1 ≤ 1
          none k is = subst (λ i. how_often i (places_on l) + 1 ≤ 1) is (let z = on_no_lane w l there e in omega (arith, z))

          old : how_often j (places_on l) + 0 ≤ 1
          old = let o = lane_is HasEachPlaceOnce t.ports w l order.once there j in omega (arith, o)

          step : (b : Bool) → (h.slot == j) ≡ b → how_often j (places_on (delivered l h.slot)) ≤ 1
          step b is = fits _ _ _ (delivered_places (λ n. if n == j then 1 else 0) l h.slot ∙ ap (λ (b : Bool). how_often j (places_on l) + (if b then 1 else 0)) is) (either b is)
            where
              either : (b : Bool) → (h.slot == j) ≡ b → how_often j (places_on l) + (if b then 1 else 0) ≤ 1
              either true is = none j (eqb-true h.slot j is)
              either false is = old

      used_more : (j : ℕ) → has_number j (places_on (delivered l h.slot)) ≡ true → IsUsed t l.pool j
      used_more j has = step (h.slot == j) refl (often_has j (places_on (delivered l h.slot)) has)
        where
          step : (b : Bool) → (h.slot == j) ≡ b → 1 ≤ how_often j (places_on (delivered l h.slot)) → IsUsed t l.pool j
          step true is some = subst (λ k. IsUsed t l.pool k) (eqb-true h.slot j is) (subst (λ p. IsUsed t p h.slot) (sym e) (used_by_handle node n h named))
          step false is some =
              let more = delivered_places (λ n. if n == j then 1 else 0) l h.slot ∙ ap (λ (b : Bool). how_often j (places_on l) + (if b then 1 else 0)) is in
              used_on_lane w l j there (has_often j (places_on l) (omega (arith, more, some)))

      pub once_delivered : HasEachOnce (message_of x t.pools) (delivered l h.slot)
      once_delivered = apart_on x (delivered l h.slot) once_more used_more

pub each_is_once : EachIsOnceOnItsLane
each_is_once x t order = λ w l there. once_on t order x w l there
