-- A port keeps as many messages as slots of its pool are used.
use Rattle.std.specs.Prelude.{◌≡◌, ℕ, zero, suc, ◌+◌, ◌<◌, ◌≤◌, Bool, true, false, ◌||◌, if◌then◌else◌, ◌==◌, List, [], ◌∷◌, ◌++◌, map, filter, flat_map, length, Option, Some, slice_get, refl}
use Rattle.std.specs.List.{list_any, range_with_len}
use Rattle.std.specs.Option.{option_map, option_map_or}
use Rattle.std.proofs.Common.{sym, ap, ap₂, subst, ◌∙◌, arith, inl, inr}
use Rattle.std.proofs.lemmas.Option.{none-some}
use Rattle.iox_model.specs.declared.kind.Role.{Role}
use Rattle.iox_model.specs.declared.kind.Role.TheVariants.{Client, Server}
use Rattle.iox_model.specs.declared.way.Way.{Way}
use Rattle.iox_model.specs.Messages.{request_way, response_way}
use Rattle.iox_model.specs.Peers.{lanes_of, lanes_to, ports_of_role, role_at, ways_from}
use Rattle.iox_model.specs.Settings.{is_client, other_role, same_role}
use Rattle.iox_model.specs.States as m
use Rattle.iox_laws.proofs.WeaveLedger.Lists.{IsAmong, NoRepeats, among-filter, among-map, filter-among, map-among, no_repeats-filter}
use Rattle.iox_laws.proofs.WeaveLedger.Ranges.{no-longer, range-apart, range-has}
use Rattle.iox_lanes.specs.Lanes.{LaneState}
use Rattle.iox_tables.specs.HubStates.Tables.{HandleState, HubTables, PortState, port_in, slot_at}
use Rattle.iox_tables.specs.HubStates.Ways.{lane_on}
use Rattle.iox_tables.specs.HubStates.Ends.{OfEachHandle}
use Rattle.iox_tables.specs.HubStates.Shown.{is_out_in}
use Rattle.iox_tables.specs.HubStates.States.{Given, fixed_of, message_of, port_of, state_shown}
use Rattle.iox_tables.specs.HubStates.Steps.{is_there, places_on}
use Rattle.iox_tables.specs.HubStates.Wirings.{numbers_of_role}
use Rattle.iox_tables.proofs.HubStates.Fixing.{find_port, first_key, role_is, roles_are}
use Rattle.iox_tables.proofs.HubStates.Lists.{any-append}
use Rattle.iox_tables.proofs.HubStates.Steps.{connected_is}
use Rattle.iox_tables.specs.HubBooks.Hubs.{AreInOrder}
use Rattle.iox_tables.proofs.HubBooks.Ways.{IsBetween, among_flat, among_get, first_among}

-- ---- lists

pub each_among : (P : HandleState → Type 0) (hs : List HandleState) (h : HandleState) → OfEachHandle P hs → IsAmong h hs → P h
each_among P [] h a among = absurd among
each_among P (k ∷ ks) h a (inl e) = subst P (sym e) a.0
each_among P (k ∷ ks) h a (inr among) = each_among P ks h a.1 among

pub get_among : {A : Type 0} (xs : List A) (i : ℕ) (x : A) → slice_get xs i ≡ Some x → IsAmong x xs
get_among [] i x e = absurd (none-some x e)
get_among (y ∷ ys) zero x e = inl (sym (ap (λ o. option_map_or (λ z. z) o y) e))
get_among (y ∷ ys) (suc i) x e = inr (get_among ys i x e)

-- where different indexes have different keys, no key is there twice
pub keys_apart : {A : Type 0} (key : A → ℕ) (test : A → Bool) (xs : List A)
    → ((i j : ℕ) (a b : A) → slice_get xs i ≡ Some a → slice_get xs j ≡ Some b → test a ≡ true → test b ≡ true → key a ≡ key b → i ≡ j)
    → NoRepeats (map key (filter test xs))
keys_apart key test [] apart = tt
keys_apart {A} key test (x ∷ xs) apart = step (test x) refl (keys_apart key test xs (λ i j a b p q s r e. less i j (apart (suc i) (suc j) a b p q s r e)))
  where
    less : (i j : ℕ) → suc i ≡ suc j → i ≡ j
    less i j e = omega (arith, e)

    never : (i : ℕ) → 0 ≡ suc i → ⊥
    never i e = omega (arith, e)

    step : (b : Bool) → test x ≡ b → NoRepeats (map key (filter test xs)) → NoRepeats (map key (if b then x ∷ filter test xs else filter test xs))
    step false e rest = rest
    step true e rest = (λ among. twice (map-among key (key x) (filter test xs) among), rest)
      where
        twice : (y : A) × IsAmong y (filter test xs) × (key x ≡ key y) → ⊥
        twice y =
            let f = filter-among test y.0 xs y.1 in
            let i = among_get y.0 xs f.0 in never i.0 (apart 0 (suc i.0) x y.0 refl i.1 e f.1 y.2)

same_length : (a b : ℕ) → a ≤ b → b ≤ a → a ≡ b
same_length a b p q = omega (arith, p, q)

from_none : (k n : ℕ) → k < n → k < 0 + n
from_none k n h = omega (arith, h)

-- a count of numbers below a bound that pass is the length of a list of just these
pub counted_by : (test : ℕ → Bool) (ks : List ℕ) (bound : ℕ) → NoRepeats ks → ((k : ℕ) → IsAmong k ks → (k < bound) × (test k ≡ true)) → ((k : ℕ) → test k ≡ true → IsAmong k ks)
    → length (filter test (range_with_len 0 bound)) ≡ length ks
counted_by test ks bound once low in_list =
    same_length (length (filter test (range_with_len 0 bound))) (length ks)
    (no-longer (filter test (range_with_len 0 bound)) ks (no_repeats-filter test (range_with_len 0 bound) (range-apart 0 bound)) (λ k a. in_list k (filter-among test k (range_with_len 0 bound) a).1))
    (no-longer ks (filter test (range_with_len 0 bound)) once
    (λ k a. among-filter test k (range_with_len 0 bound) (range-has 0 bound k (omega arith) (from_none k bound (low k a).0)) (low k a).1))

-- ---- the ways of a port

module _ (x : Given) (t : HubTables) (order : AreInOrder t) where
  of_role_too : (p : PortState) (n : ℕ) → port_in t.ports n ≡ Some p → IsAmong n (numbers_of_role p.role t.ports)
  of_role_too p n there =
      subst (λ k. IsAmong k (numbers_of_role p.role t.ports)) (first_key (λ (y : PortState). y.number) t.ports n p there)
      (among-map (λ (y : PortState). y.number) p (filter (λ y. same_role y.role p.role) t.ports)
      (among-filter (λ (y : PortState). same_role y.role p.role) p t.ports (first_among (λ (y : PortState). y.number) t.ports n p there) (same p.role)))
    where
      same : (r : Role) → same_role r r ≡ true
      same Client = refl
      same Server = refl

  size_is : (p : PortState) (n : ℕ) → port_in t.ports n ≡ Some p → lanes_of (fixed_of x t) n ≡ p.size
  size_is p n there = ap (λ (o : Option m.Port). option_map_or (λ q. q.pool) o 0) (find_port x t.ports n ∙ ap (option_map (port_of x)) there)

  pub way_from : (w : Way) (l : LaneState) → IsBetween t order w l → IsAmong w (ways_from (fixed_of x t) w.sender)
  way_from w l b = step b.sender.role refl
    where
      role : (r : Role) → b.sender.role ≡ r → role_at (fixed_of x t) w.sender ≡ r
      role r e = role_is x t w.sender ∙ ap (λ o. option_map_or (λ (y : PortState). y.role) o Client) b.from ∙ e

      other : (r s : Role) → r ≡ other_role s → s ≡ other_role r
      other r Client e = sym (ap other_role e)
      other r Server e = sym (ap other_role e)

      receiver : (r : Role) → b.sender.role ≡ r → IsAmong w.receiver (ports_of_role (fixed_of x t) (other_role r))
      receiver r e =
          subst (λ ns. IsAmong w.receiver ns) (sym (roles_are x t.ports (other_role r)))
          (subst (λ c. IsAmong w.receiver (numbers_of_role c t.ports)) (other r b.receiver.role (sym e ∙ b.roles)) (of_role_too b.receiver w.receiver b.to))

      step : (r : Role) → b.sender.role ≡ r → IsAmong w (ways_from (fixed_of x t) w.sender)
      step Client e =
          subst (λ c. IsAmong w (if is_client c then map (request_way w.sender) (ports_of_role (fixed_of x t) Server) else flat_map (lanes_to (fixed_of x t) w.sender) (ports_of_role (fixed_of x t) Client)))
          (sym (role Client e))
          (subst (λ v. IsAmong v (map (request_way w.sender) (ports_of_role (fixed_of x t) Server))) is (among-map (request_way w.sender) w.receiver (ports_of_role (fixed_of x t) Server) (receiver Client e)))
        where
          low : w.lane < 1
          low = subst (λ c. w.lane < (if is_client c then b.receiver.size else 1)) (other Client b.receiver.role (sym e ∙ b.roles)) b.low

          zero_lane : 0 ≡ w.lane
          zero_lane = let l = low in omega (arith, l)

          is : request_way w.sender w.receiver ≡ w
          is = λ i. record { sender = w.sender; receiver = w.receiver; lane = zero_lane i }
      step Server e =
          subst (λ c. IsAmong w (if is_client c then map (request_way w.sender) (ports_of_role (fixed_of x t) Server) else flat_map (lanes_to (fixed_of x t) w.sender) (ports_of_role (fixed_of x t) Client)))
          (sym (role Server e))
          (among_flat (lanes_to (fixed_of x t) w.sender) w w.receiver (ports_of_role (fixed_of x t) Client) (receiver Server e)
          (among-map (λ lane. response_way w.receiver lane w.sender) w.lane (range_with_len 0 (lanes_of (fixed_of x t) w.receiver)) (range-has 0 (lanes_of (fixed_of x t) w.receiver) w.lane (omega arith) (from_none w.lane _ low))))
        where
          low : w.lane < lanes_of (fixed_of x t) w.receiver
          low =
              subst (λ k. w.lane < k) (sym (size_is b.receiver w.receiver b.to))
              (subst (λ c. w.lane < (if is_client c then b.receiver.size else 1)) (other Server b.receiver.role (sym e ∙ b.roles)) b.low)

  -- ---- what is out

  serial_at : ℕ → ℕ → ℕ
  serial_at pool j = (slot_at t.pools pool j).serial

  pub out_is : (w : Way) (l : LaneState) (k : ℕ) → lane_on t.ports w ≡ Some l → is_there t.ports w.sender ≡ true
      → (state_shown x t).delivered w k ≡ list_any (λ j. (slot_at t.pools l.pool j).serial == k) (places_on l)
  out_is w l k there from =
      ap₂ (λ (b : Bool) (o : Option LaneState). (if b then option_map_or (is_out_in (message_of x t.pools)) o (λ j. false) else (λ j. false)) k) (connected_is x t.ports w.sender ∙ from) there
      ∙ sym
      (any-append (λ j. (slot_at t.pools l.pool j).serial == k) l.returned (l.waiting ++ l.taken)
      ∙ ap (λ b. list_any (λ j. (slot_at t.pools l.pool j).serial == k) l.returned || b) (any-append (λ j. (slot_at t.pools l.pool j).serial == k) l.waiting l.taken))
