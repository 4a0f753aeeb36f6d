-- The worked tables are in order.
use Rattle.std.specs.Prelude.{◌≡◌, ℕ, ◌+◌, ◌<◌, ◌≤◌, zero, suc, Bool, true, false, ◌&&◌, ◌||◌, if◌then◌else◌, ◌==◌, [], ◌∷◌, Option, Some, None, slice_get, refl}
use Rattle.std.specs.Option.{option_map_or}
use Rattle.std.proofs.Common.{sym, ap, ap₂, subst, ◌∙◌, arith, eqb-true, true≢false}
use Rattle.std.proofs.lemmas.Bool.Decides.{nat_tests}
use Rattle.std.proofs.lemmas.Option.{none-some}
use Rattle.iox_model.specs.declared.kind.Role.{Role}
use Rattle.iox_model.specs.declared.kind.Role.TheVariants.{Client, Server}
use Rattle.iox_model.specs.Settings.{other_role, is_client}
use Rattle.iox_lanes.specs.Lanes.{LaneState}
use Rattle.iox_lanes.specs.Pipes.{PipeState, new_pipe}
use Rattle.iox_tables.specs.HubStates.Tables.{HubTables, PoolState, PortState, owner_of, pipe_from, pipes_of, pool_at, port_in, senders_of, slot_at}
use Rattle.iox_tables.specs.HubStates.Ways.{lanes_from}
use Rattle.iox_tables.specs.HubStates.Wirings.{HaveLimits, IsWired, limit_from, role_in}
use Rattle.iox_tables.specs.HubStates.Worked.{one_of_each, port_with, requests}
use Rattle.iox_tables.proofs.HubStates.Fixing.{first_key}
use Rattle.iox_tables.specs.HubBooks.Counts.{OfAll, OfAllLanes, how_often, uses}
use Rattle.iox_tables.specs.HubBooks.Handles.{OwnAreApart, TakenHaveHandles}
use Rattle.iox_tables.specs.HubBooks.Hubs.{AreInOrder, AreWired, HasEachPlaceOnce, HasPool, HasWidth, HaveNumbers, HavePools, HaveSerials, HaveWidths, HoldersAreCounted, IsLaneOf, IsUsed, LanesAreOfSenders, PlacesAreOfSenders, ResponsesAreOnTheirLanes}
use Rattle.iox_tables.specs.HubMaking.Expirings.{KeepsExpired}
use Rattle.iox_model.specs.Maps.{has_number}
use Rattle.iox_tables.specs.HubBooks.Worked.{with_holders, pool_with, TwoHaveTheRequest}
use Rattle.iox_tables.proofs.HubBooks.Eachs.{all_first, all_get, lane_is}

abbrev t : HubTables
t = with_holders 2

abbrev client : PortState
client = port_with 0 Client (new_pipe 1 1 1 1 1 0)

abbrev server : PortState
server = port_with 1 Server requests

other : (a k : ℕ) → a < k → (a == k) ≡ false
other a k lt = grind (arith, nat_tests)

-- ---- slots

abbrev counts : Bool → Bool → Bool → ℕ
counts first second here =
    ((if first && here then 1 else 0) + 0) + ((((if second then 0 else 0) + 0) + 0) + ((((if first then (if here then 1 else 0) + 0 else 0) + 0) + 0) + 0))

counts_are : (pool k : ℕ) → uses t pool k ≡ counts (0 == pool) (1 == pool) (0 == k)
counts_are pool k = refl

counted : HoldersAreCounted t
counted zero zero = refl
counted zero (suc k) = ap (counts true false) (sym (other 0 (suc k) (omega arith)))
counted (suc zero) zero = refl
counted (suc zero) (suc k) = step (0 == suc k)
  where
    step : (b : Bool) → 0 ≡ counts false true b
    step true = refl
    step false = refl
counted (suc (suc p)) k =
    step (0 == k) ∙ ap₂ (λ a b. counts a b (0 == k)) (sym (other 0 (suc (suc p)) (omega arith))) (sym (other 1 (suc (suc p)) (omega arith)))
  where
    step : (b : Bool) → 0 ≡ counts false false b
    step true = refl
    step false = refl

-- somebody has only the request
only_one : (pool k : ℕ) → IsUsed t pool k → (pool ≡ 0) × (k ≡ 0)
only_one zero zero some = (refl, refl)
only_one zero (suc k) some = absurd (omega (arith, some))
only_one (suc zero) zero some = absurd (omega (arith, some))
only_one (suc zero) (suc k) some = absurd (omega (arith, some))
only_one (suc (suc p)) k some = absurd (omega (arith, some))

-- ---- ports

either_port : (P : PortState → Type 0) → P client → P server → (n : ℕ) (p : PortState) → port_in t.ports n ≡ Some p → P p
either_port P a b n p at = all_first P (λ x. x.number) t.ports n p (a, (b, tt)) at

serials : HaveSerials t
serials = record {
  apart = λ pool j k a b e. (only_one pool j a).1 ∙ sym (only_one pool k b).1;
  below = λ n k p at some.
      either_port (λ q. IsUsed t q.pool k → (slot_at t.pools q.pool k).serial < q.loans)
      (λ used. subst (λ j. (slot_at t.pools 0 j).serial < 1) (sym (only_one 0 k used).1) (omega arith))
      (λ used. absurd (one_zero (only_one 1 k used).0)) n p at some;
}
  where
    one_zero : suc zero ≡ zero → ⊥
    one_zero e = omega (arith, e)

pools_apart : (i j : ℕ) (a b : PoolState) → pool_at t.pools i ≡ Some a → pool_at t.pools j ≡ Some b → a.port ≡ b.port → i ≡ j
pools_apart i j a b p q e = owner i a p ∙ e ∙ sym (owner j b q)
  where
    owner : (i : ℕ) (a : PoolState) → pool_at t.pools i ≡ Some a → i ≡ a.port
    owner zero a at = ap (λ o. option_map_or (λ (x : PoolState). x.port) o 0) at
    owner (suc zero) a at = ap (λ o. option_map_or (λ (x : PoolState). x.port) o 1) at
    owner (suc (suc i)) a at = absurd (none-some a at)

pools : HavePools t
pools = record {
  each = either_port (HasPool t)
      (record { pool = pool_with 0 2; there = refl; port = refl; node_id = refl; port_id = refl; size = refl })
      (record { pool = pool_with 1 0; there = refl; port = refl; node_id = refl; port_id = refl; size = refl });
  apart = pools_apart;
}

once : OfAllLanes HasEachPlaceOnce t.ports
once = ((((λ k. omega arith), tt), tt), ((((λ k. one (0 == k)), tt), tt), tt))
  where
    one : (b : Bool) → (if b then 1 else 0) + 0 ≤ 1
    one true = omega arith
    one false = omega arith

widths : HaveWidths t
widths n m to from a b =
    either_port (λ p. p.role ≡ other_role from.role → HasWidth p from)
    (either_port (λ q. Client ≡ other_role q.role → HasWidth client q) (λ e. absurd (differ (sym e))) (λ e. record { lanes = refl; states = refl }) m from b)
    (either_port (λ q. Server ≡ other_role q.role → HasWidth server q) (λ e. record { lanes = refl; states = refl }) (λ e. absurd (differ e)) m from b)
    n to a
  where
    differ : Server ≡ Client → ⊥
    differ e = true≢false (sym (ap is_client e))

-- ---- lanes

limit_one : (role : Role) → 1 ≡ limit_from one_of_each role
limit_one Client = refl
limit_one Server = refl

limits : HaveLimits t
limits w l at =
    lane_is (λ m. m.limit ≡ 1) t.ports w l (((refl, tt), tt), (((refl, tt), tt), tt)) at
    ∙ limit_one (other_role (role_in t.ports w.receiver))

-- where each pipe of the ports is from the port that it names, and it is so of its lanes and that port
lanes_of_senders : LanesAreOfSenders t
lanes_of_senders w l sender at from = at_port (port_in t.ports w.receiver) refl at
  where
    FitsAll : PipeState → Type 0
    FitsAll q = (s : PortState) → port_in t.ports q.sender ≡ Some s → OfAll (IsLaneOf t s) q.lanes

    from_server : FitsAll (new_pipe 1 1 1 1 1 0)
    from_server s is = subst (λ o. OfAll (λ l. IsLaneOf t (option_map_or (λ (x : PortState). x) o s) l) (new_pipe 1 1 1 1 1 0).lanes) is (record { of_pool = refl; buffer = refl }, tt)

    from_client : FitsAll requests
    from_client s is = subst (λ o. OfAll (λ l. IsLaneOf t (option_map_or (λ (x : PortState). x) o s) l) requests.lanes) is (record { of_pool = refl; buffer = refl }, tt)

    at_pipe : (o : Option PipeState) → ((q : PipeState) → o ≡ Some q → FitsAll q × (q.sender ≡ w.sender)) → slice_get (option_map_or (λ (q : PipeState). q.lanes) o []) w.lane ≡ Some l → IsLaneOf t sender l
    at_pipe None fits is = absurd (none-some l is)
    at_pipe (Some q) fits is =
        let f = fits q refl in
        all_get (IsLaneOf t sender) q.lanes w.lane l (f.0 sender (ap (port_in t.ports) f.1 ∙ from)) is

    fits_port : (p : PortState) → OfAll FitsAll (pipes_of p) → (q : PipeState) → pipe_from (pipes_of p) w.sender ≡ Some q → FitsAll q × (q.sender ≡ w.sender)
    fits_port p a q is = (all_first FitsAll (λ x. x.sender) (pipes_of p) w.sender q a is, first_key (λ x. x.sender) (pipes_of p) w.sender q is)

    at_port : (o : Option PortState) → port_in t.ports w.receiver ≡ o → slice_get (lanes_from (option_map_or pipes_of o []) w.sender) w.lane ≡ Some l → IsLaneOf t sender l
    at_port None is there = absurd (none-some l there)
    at_port (Some p) is there =
        at_pipe (pipe_from (pipes_of p) w.sender)
        (fits_port p (either_port (λ p. OfAll FitsAll (pipes_of p)) (from_server, tt) (from_client, tt) w.receiver p is)) there

only_lane : (m : LaneState) (j : ℕ) (l : LaneState) → slice_get (m ∷ []) j ≡ Some l → 0 ≡ j
only_lane m zero l at = refl
only_lane m (suc j) l at = absurd (none-some l at)

lane_zero : (pool k : ℕ) → (slot_at t.pools pool k).lane ≡ 0
lane_zero zero zero = refl
lane_zero zero (suc k) = refl
lane_zero (suc zero) zero = refl
lane_zero (suc zero) (suc k) = refl
lane_zero (suc (suc p)) k = refl

labels : ResponsesAreOnTheirLanes t
labels w l k at role has = lane_zero l.pool k ∙ at_port (port_in t.ports w.receiver) refl at
  where
    HasOne : PipeState → Type 0
    HasOne q = (j : ℕ) (l : LaneState) → slice_get q.lanes j ≡ Some l → 0 ≡ j

    at_pipe : (o : Option PipeState) → ((q : PipeState) → o ≡ Some q → HasOne q) → slice_get (option_map_or (λ (q : PipeState). q.lanes) o []) w.lane ≡ Some l → 0 ≡ w.lane
    at_pipe None one is = absurd (none-some l is)
    at_pipe (Some q) one is = one q refl w.lane l is

    at_port : (o : Option PortState) → port_in t.ports w.receiver ≡ o → slice_get (lanes_from (option_map_or pipes_of o []) w.sender) w.lane ≡ Some l → 0 ≡ w.lane
    at_port None is there = absurd (none-some l there)
    at_port (Some p) is there =
        at_pipe (pipe_from (pipes_of p) w.sender)
        (λ q e. all_first HasOne (λ x. x.sender) (pipes_of p) w.sender q (either_port (λ p. OfAll HasOne (pipes_of p)) (only_lane _, tt) (only_lane _, tt) w.receiver p is) e) there

owners : PlacesAreOfSenders t
owners w l k at has = at_port (port_in t.ports w.receiver) refl at
  where
    Owned : PipeState → Type 0
    Owned q = OfAll (λ m. owner_of t.pools m.pool ≡ q.sender) q.lanes

    at_pipe : (o : Option PipeState) → ((q : PipeState) → o ≡ Some q → Owned q × (q.sender ≡ w.sender)) → slice_get (option_map_or (λ (q : PipeState). q.lanes) o []) w.lane ≡ Some l
        → owner_of t.pools l.pool ≡ w.sender
    at_pipe None owned is = absurd (none-some l is)
    at_pipe (Some q) owned is = let f = owned q refl in all_get (λ m. owner_of t.pools m.pool ≡ q.sender) q.lanes w.lane l f.0 is ∙ f.1

    at_port : (o : Option PortState) → port_in t.ports w.receiver ≡ o → slice_get (lanes_from (option_map_or pipes_of o []) w.sender) w.lane ≡ Some l
        → owner_of t.pools l.pool ≡ w.sender
    at_port None is there = absurd (none-some l there)
    at_port (Some p) is there =
        at_pipe (pipe_from (pipes_of p) w.sender)
        (λ q e. (
          all_first Owned (λ x. x.sender) (pipes_of p) w.sender q (either_port (λ p. OfAll Owned (pipes_of p)) ((refl, tt), tt) ((refl, tt), tt) w.receiver p is) e,
          first_key (λ x. x.sender) (pipes_of p) w.sender q e,
        )) there

client_keeps : KeepsExpired t client
client_keeps = record { room = refl; few = omega arith; gone = λ n has. absurd (true≢false (sym has)); wide = λ n q at. absurd (none-some q at) }

server_keeps : KeepsExpired t server
server_keeps = record { room = refl; few = omega arith; gone = λ n has. absurd (true≢false (sym has)); wide = λ n q at. absurd (none-some q at) }

wired : AreWired t
wired = record {
  each = either_port (IsWired t) (record { senders = refl; apart = (refl, tt); none_kept = λ e f. refl }) (record { senders = refl; apart = (refl, tt); none_kept = λ e f. refl });
  kept = either_port (KeepsExpired t) client_keeps server_keeps;
  limits = limits;
}

-- ---- numbers and handles

numbers : HaveNumbers t
numbers = record {
  apart = (refl, (refl, (refl, tt)));
  below = λ n has. below n (0 == n) (1 == n) (2 == n) refl refl refl has;
  owners = λ place q at. owners place q at;
  kept = λ n p at. either_port (λ p. (k : ℕ) → has_number k (senders_of p.expired.pipes) ≡ true → k < 3) (λ k has. absurd (true≢false (sym has))) (λ k has. absurd (true≢false (sym has))) n p at;
}
  where
    below : (n : ℕ) (a b c : Bool) → (0 == n) ≡ a → (1 == n) ≡ b → (2 == n) ≡ c → (a || (b || (c || false))) ≡ true → n < 3
    below n true b c e f g has = let is = eqb-true 0 n e in omega (arith, is)
    below n false true c e f g has = let is = eqb-true 1 n f in omega (arith, is)
    below n false false true e f g has = let is = eqb-true 2 n g in omega (arith, is)
    below n false false false e f g has = absurd (true≢false (sym has))

    owners : (place : ℕ) (q : PoolState) → pool_at t.pools place ≡ Some q → q.port < 3
    owners zero q at = subst (λ o. option_map_or (λ (x : PoolState). x.port) o 0 < 3) at (omega arith)
    owners (suc zero) q at = subst (λ o. option_map_or (λ (x : PoolState). x.port) o 0 < 3) at (omega arith)
    owners (suc (suc i)) q at = absurd (none-some q at)

own : OwnAreApart t
own pool k = step (0 == pool) (0 == k)
  where
    step : (a b : Bool) → (if a && b then 1 else 0) + 0 ≤ 1
    step true true = omega arith
    step true false = omega arith
    step false b = omega arith

taken : TakenHaveHandles t
taken w l k at = ap (how_often k) (lane_is (λ m. m.taken ≡ []) t.ports w l (((refl, tt), tt), (((refl, tt), tt), tt)) at)

in_order : AreInOrder t
in_order = record {
  counted = counted;
  serials = serials;
  pools = pools;
  once = once;
  lanes = lanes_of_senders;
  labels = labels;
  owners = owners;
  widths = widths;
  wired = wired;
  numbers = numbers;
  ports = (record { port = client; there = refl; on_node = refl; role = refl; either = refl; of_pool = λ e. refl; lane = λ e f. omega arith; client = λ e. absurd (true≢false (sym e)) }, tt);
  alone = ((λ e. absurd (true≢false (sym e))), tt);
  own = own;
  taken = taken;
  received = ((λ e. absurd (true≢false (sym e))), tt);
}

-- with one holder more, the request is not counted
not_counted : HoldersAreCounted (with_holders 3) → ⊥
not_counted c = let three : 3 ≡ 2 = c 0 0 in omega (arith, three)

pub two_have_the_request : TwoHaveTheRequest
two_have_the_request = (in_order, λ c. not_counted c.counted)
