-- What is so of pools, pipes and widths stays as messages move and holders change.
use Rattle.std.specs.Prelude.{◌≡◌, ◌⊎◌, ℕ, ◌<◌, ◌≤◌, Bool, true, false, if◌then◌else◌, List, [], ◌∷◌, map, filter, length, Option, Some, None, slice_get, refl}
use Rattle.std.specs.Option.{option_map, option_map_or}
use Rattle.std.proofs.Common.{sym, ap, ap₂, subst, ◌∙◌, inl, inr}
use Rattle.std.proofs.lemmas.Option.{none-some, slice_get-map}
use Rattle.iox_model.specs.declared.kind.Role.{Role}
use Rattle.iox_model.specs.declared.way.Way.{Way}
use Rattle.iox_model.specs.declared.kind.Role.TheVariants.{Client}
use Rattle.iox_model.specs.Maps.{AreDistinct, has_number}
use Rattle.iox_model.specs.Settings.{other_role, same_role}
use Rattle.iox_lanes.specs.Lanes.{LaneState}
use Rattle.iox_lanes.specs.Pipes.{PipeState}
use Rattle.iox_tables.specs.HubStates.Tables.{HubTables, PoolState, PortState, SlotState, numbers_of, owner_of, pipe_from, pipes_of, pool_at, port_in, senders_of, slot_at, no_slot}
use Rattle.iox_tables.specs.HubStates.Ways.{lane_on, lanes_from, states_from}
use Rattle.iox_tables.specs.HubStates.Steps.{places_on}
use Rattle.iox_tables.specs.HubStates.Wirings.{HaveLimits, IsWired, buffer_from, limit_from, numbers_of_role, role_in}
use Rattle.iox_tables.specs.HubBooks.Hubs.{AreInOrder, AreWired, HasPool, HavePools, HaveWidths, LanesAreOfSenders, PlacesAreOfSenders}
use Rattle.iox_tables.specs.HubBooks.Keeps.{bare_pool, bare_pools, bare_slot}
use Rattle.iox_tables.proofs.HubBooks.Frames.{AreAlike, bare_lane, bare_pipe, bare_port, bare_ports, bare_pipes_of, count_bare, first_map, lane_before, length_map, port_before, some_map, width_bare}
use Rattle.iox_tables.specs.HubMaking.Expirings.{KeepsExpired}
use Rattle.iox_tables.specs.HubMaking.NewPorts.{room_for_gone, states_of, width_of}

-- ---- ports

-- two maps are one
pub map_map : {A B C : Type 0} (f : B → C) (g : A → B) (h : A → C) → ((x : A) → f (g x) ≡ h x) → (xs : List A) → map f (map g xs) ≡ map h xs
map_map f g h same [] = refl
map_map f g h same (x ∷ xs) = ap₂ (λ y ys. y ∷ ys) (same x) (map_map f g h same xs)

none_of_none : {A B : Type 0} (f : A → B) (xs : List A) → map f xs ≡ [] → xs ≡ []
none_of_none f [] e = refl
none_of_none f (x ∷ xs) e = absurd (none-some (f x) (sym (ap (λ ys. slice_get ys 0) e)))

senders_bare : (ps : List PipeState) → senders_of (map bare_pipe ps) ≡ senders_of ps
senders_bare ps = map_map (λ (q : PipeState). q.sender) bare_pipe (λ q. q.sender) (λ q. refl) ps

numbers_bare : (ports : List PortState) → numbers_of (bare_ports ports) ≡ numbers_of ports
numbers_bare ports = map_map (λ (p : PortState). p.number) bare_port (λ p. p.number) (λ p. refl) ports

roles_bare : (role : Role) (ports : List PortState) → numbers_of_role role (bare_ports ports) ≡ numbers_of_role role ports
roles_bare role [] = refl
roles_bare role (p ∷ ps) = step (same_role p.role role) (roles_bare role ps)
  where
    step : (b : Bool) → numbers_of_role role (bare_ports ps) ≡ numbers_of_role role ps
        → map (λ (p : PortState). p.number) (if b then bare_port p ∷ filter (λ p. same_role p.role role) (bare_ports ps) else filter (λ p. same_role p.role role) (bare_ports ps))
        ≡ map (λ p. p.number) (if b then p ∷ filter (λ p. same_role p.role role) ps else filter (λ p. same_role p.role role) ps)
    step true rest = ap (λ ns. p.number ∷ ns) rest
    step false rest = rest

role_bare : (ports : List PortState) (n : ℕ) → role_in (bare_ports ports) n ≡ role_in ports n
role_bare ports n = ap (λ o. option_map_or (λ (p : PortState). p.role) o Client) (first_map (λ p. p.number) (λ p. p.number) bare_port (λ p. refl) ports n) ∙ step (port_in ports n)
  where
    step : (o : Option PortState) → option_map_or (λ (p : PortState). p.role) (option_map bare_port o) Client ≡ option_map_or (λ (p : PortState). p.role) o Client
    step (Some p) = refl
    step None = refl

module _ (old new : List PortState) (alike : AreAlike old new) where
  pub same_numbers : numbers_of new ≡ numbers_of old
  same_numbers = sym (numbers_bare new) ∙ ap numbers_of alike ∙ numbers_bare old

  pub same_roles : (role : Role) → numbers_of_role role new ≡ numbers_of_role role old
  same_roles role = sym (roles_bare role new) ∙ ap (numbers_of_role role) alike ∙ roles_bare role old

  pub same_role_in : (n : ℕ) → role_in new n ≡ role_in old n
  same_role_in n = sym (role_bare new n) ∙ ap (λ ps. role_in ps n) alike ∙ role_bare old n

-- ---- tables whose ports are alike

expired_senders : (p q : PortState) → bare_port q ≡ bare_port p → senders_of p.expired.pipes ≡ senders_of q.expired.pipes
expired_senders p q e = sym (senders_bare p.expired.pipes) ∙ ap (λ (x : PortState). senders_of x.expired.pipes) (sym e) ∙ senders_bare q.expired.pipes

-- the numbers of ports that are gone stay below the next one
pub low_kept : (old new : List PortState) → AreAlike old new → (next : ℕ)
    → ((n : ℕ) (p : PortState) → port_in old n ≡ Some p → (k : ℕ) → has_number k (senders_of p.expired.pipes) ≡ true → k < next)
    → (n : ℕ) (p : PortState) → port_in new n ≡ Some p → (k : ℕ) → has_number k (senders_of p.expired.pipes) ≡ true → k < next
low_kept old new alike next low n p at k has =
    let q = port_before old new alike n p at in low n q.0 q.1 k (sym (ap (has_number k) (expired_senders p q.0 q.2)) ∙ has)

module _ (t u : HubTables) (alike : AreAlike t.ports u.ports) (settings : u.settings ≡ t.settings) where
  pub widths_alike : HaveWidths t → HaveWidths u
  widths_alike widths n m to from a b roles =
      let x = port_before t.ports u.ports alike n to a in
      let y = port_before t.ports u.ports alike m from b in
      let old = widths n m x.0 y.0 x.1 y.1 (ap (λ (p : PortState). p.role) x.2 ∙ roles ∙ sym (ap (λ (p : PortState). other_role p.role) y.2)) in record {
        lanes =
            sym (width_bare to from.number) ∙ ap₂ (λ (p : PortState) (q : PortState). length (lanes_from (pipes_of p) q.number)) (sym x.2) (sym y.2)
            ∙ width_bare x.0 y.0.number ∙ old.lanes ∙ ap width_of x.2;
        states =
            sym (count_bare to from.number) ∙ ap₂ (λ (p : PortState) (q : PortState). length (states_from (pipes_of p) q.number)) (sym x.2) (sym y.2)
            ∙ count_bare x.0 y.0.number ∙ old.states ∙ ap states_of y.2;
      }

  pub none_alike : (n : ℕ) → port_in t.ports n ≡ None → port_in u.ports n ≡ None
  none_alike n none = step (port_in u.ports n) refl
    where
      step : (o : Option PortState) → port_in u.ports n ≡ o → o ≡ None
      step None at = refl
      step (Some p) at = let q = port_before t.ports u.ports alike n p at in absurd (none-some q.0 (sym none ∙ q.1))

  -- what a port keeps of ports that are gone
  kept_of : (p q : PortState) → bare_port q ≡ bare_port p → KeepsExpired t q → KeepsExpired u p
  kept_of p q e old = record {
    room =
        ap (λ (x : PortState). x.expired.most) (sym e) ∙ old.room ∙ ap (λ (x : PortState). room_for_gone t.settings x.role) e
        ∙ ap (λ c. room_for_gone c p.role) (sym settings);
    few =
        subst (λ k. length p.expired.pipes ≤ k) (ap (λ (x : PortState). x.expired.most) e)
        (subst (λ k. k ≤ q.expired.most)
        (sym (length_map bare_pipe q.expired.pipes) ∙ ap (λ (x : PortState). length x.expired.pipes) e ∙ length_map bare_pipe p.expired.pipes) old.few);
    gone = λ n has. none_alike n (old.gone n (sym (ap (has_number n) (expired_senders p q e)) ∙ has));
    wide = λ n z at.
        let y =
        some_map bare_pipe (pipe_from q.expired.pipes n) (bare_pipe z)
        (sym (first_map (λ (x : PipeState). x.sender) (λ x. x.sender) bare_pipe (λ x. refl) q.expired.pipes n)
        ∙ ap (λ (x : PortState). pipe_from x.expired.pipes n) e
        ∙ first_map (λ (x : PipeState). x.sender) (λ x. x.sender) bare_pipe (λ x. refl) p.expired.pipes n ∙ ap (option_map bare_pipe) at) in
        sym (length_map bare_lane z.lanes) ∙ ap (λ (x : PipeState). length x.lanes) (sym y.2) ∙ length_map bare_lane y.0.lanes ∙ old.wide n y.0 y.1 ∙ ap width_of e;
  }

  pub kept_alike : ((n : ℕ) (p : PortState) → port_in t.ports n ≡ Some p → KeepsExpired t p) → (n : ℕ) (p : PortState) → port_in u.ports n ≡ Some p → KeepsExpired u p
  kept_alike kept n p at = let q = port_before t.ports u.ports alike n p at in kept_of p q.0 q.2 (kept n q.0 q.1)

  pub each_alike : ((n : ℕ) (p : PortState) → port_in t.ports n ≡ Some p → IsWired t p) → (n : ℕ) (p : PortState) → port_in u.ports n ≡ Some p → IsWired u p
  each_alike wired n p at =
      let q = port_before t.ports u.ports alike n p at in
      let old = wired n q.0 q.1 in record {
        senders =
            incoming_senders p q.0 q.2 ∙ old.senders ∙ ap (λ (x : PortState). numbers_of_role (other_role x.role) t.ports) q.2
            ∙ sym (same_roles t.ports u.ports alike (other_role p.role));
        apart = subst AreDistinct (all_senders p q.0 q.2) old.apart;
        none_kept = λ e f. expired_none p q.0 q.2 (old.none_kept (ap (λ (x : PortState). x.role) q.2 ∙ e) (ap (λ c. c.fire_and_forget) (sym settings) ∙ f));
      }
    where
      expired_none : (p q : PortState) → bare_port q ≡ bare_port p → q.expired.pipes ≡ [] → p.expired.pipes ≡ []
      expired_none p q e none = none_of_none bare_pipe p.expired.pipes (sym (ap (λ (x : PortState). x.expired.pipes) e) ∙ ap (map bare_pipe) none)

      incoming_senders : (p q : PortState) → bare_port q ≡ bare_port p → senders_of p.incoming.pipes ≡ senders_of q.incoming.pipes
      incoming_senders p q e = sym (senders_bare p.incoming.pipes) ∙ ap (λ (x : PortState). senders_of x.incoming.pipes) (sym e) ∙ senders_bare q.incoming.pipes

      all_senders : (p q : PortState) → bare_port q ≡ bare_port p → senders_of (pipes_of q) ≡ senders_of (pipes_of p)
      all_senders p q e =
          sym (senders_bare (pipes_of q)) ∙ ap senders_of (sym (bare_pipes_of q)) ∙ ap (λ (x : PortState). senders_of (pipes_of x)) e ∙ ap senders_of (bare_pipes_of p)
          ∙ senders_bare (pipes_of p)

-- ---- pools

pub pool_bare : (pools : List (Option PoolState)) (place : ℕ) → pool_at (bare_pools pools) place ≡ option_map bare_pool (pool_at pools place)
pool_bare pools place = ap (λ (o : Option (Option PoolState)). option_map_or (λ p. p) o None) (slice_get-map (option_map bare_pool) pools place) ∙ step (slice_get pools place)
  where
    step : (o : Option (Option PoolState)) → option_map_or (λ p. p) (option_map (option_map bare_pool) o) None ≡ option_map bare_pool (option_map_or (λ p. p) o None)
    step (Some p) = refl
    step None = refl

pub slot_bare : (pools : List (Option PoolState)) (place k : ℕ) → slot_at (bare_pools pools) place k ≡ bare_slot (slot_at pools place k)
slot_bare pools place k = ap (λ o. option_map_or (λ (s : SlotState). s) (slice_get (option_map_or (λ (p : PoolState). p.slots) o []) k) no_slot) (pool_bare pools place) ∙ at_pool (pool_at pools place)
  where
    at_slot : (o : Option SlotState) → option_map_or (λ (s : SlotState). s) (option_map bare_slot o) no_slot ≡ bare_slot (option_map_or (λ (s : SlotState). s) o no_slot)
    at_slot (Some s) = refl
    at_slot None = refl

    at_pool : (o : Option PoolState) → option_map_or (λ (s : SlotState). s) (slice_get (option_map_or (λ (p : PoolState). p.slots) (option_map bare_pool o) []) k) no_slot
        ≡ bare_slot (option_map_or (λ (s : SlotState). s) (slice_get (option_map_or (λ (p : PoolState). p.slots) o []) k) no_slot)
    at_pool (Some p) = ap (λ o. option_map_or (λ (s : SlotState). s) o no_slot) (slice_get-map bare_slot p.slots k) ∙ at_slot (slice_get p.slots k)
    at_pool None = refl

owner_bare : (pools : List (Option PoolState)) (place : ℕ) → owner_of (bare_pools pools) place ≡ owner_of pools place
owner_bare pools place = ap (λ o. option_map_or (λ (p : PoolState). p.port) o 0) (pool_bare pools place) ∙ step (pool_at pools place)
  where
    step : (o : Option PoolState) → option_map_or (λ (p : PoolState). p.port) (option_map bare_pool o) 0 ≡ option_map_or (λ (p : PoolState). p.port) o 0
    step (Some p) = refl
    step None = refl

module _ (old new : List (Option PoolState)) (same : bare_pools old ≡ bare_pools new) where
  pub same_slot : (place k : ℕ) → bare_slot (slot_at old place k) ≡ bare_slot (slot_at new place k)
  same_slot place k = sym (slot_bare old place k) ∙ ap (λ ps. slot_at ps place k) same ∙ slot_bare new place k

  pub same_serial : (place k : ℕ) → (slot_at old place k).serial ≡ (slot_at new place k).serial
  same_serial place k = ap (λ (s : SlotState). s.serial) (same_slot place k)

  pub same_lane : (place k : ℕ) → (slot_at old place k).lane ≡ (slot_at new place k).lane
  same_lane place k = ap (λ (s : SlotState). s.lane) (same_slot place k)

  pub same_owner : (place : ℕ) → owner_of old place ≡ owner_of new place
  same_owner place = sym (owner_bare old place) ∙ ap (λ ps. owner_of ps place) same ∙ owner_bare new place

  pub pool_before : (place : ℕ) (q : PoolState) → pool_at new place ≡ Some q → (p : PoolState) × (pool_at old place ≡ Some p) × (bare_pool p ≡ bare_pool q)
  pool_before place q at =
      some_map bare_pool (pool_at old place) (bare_pool q)
      (sym (pool_bare old place) ∙ ap (λ ps. pool_at ps place) same ∙ pool_bare new place ∙ ap (option_map bare_pool) at)

  pub pool_after : (place : ℕ) (p : PoolState) → pool_at old place ≡ Some p → (q : PoolState) × (pool_at new place ≡ Some q) × (bare_pool q ≡ bare_pool p)
  pool_after place p at =
      some_map bare_pool (pool_at new place) (bare_pool p)
      (sym (pool_bare new place) ∙ ap (λ ps. pool_at ps place) (sym same) ∙ pool_bare old place ∙ ap (option_map bare_pool) at)

-- ---- the tables

-- what is on lanes is of their senders' pools, where it was on these lanes before
pub owners_stay : (t u : HubTables) → AreInOrder t → AreAlike t.ports u.ports → bare_pools t.pools ≡ bare_pools u.pools
    → ((w : Way) (l m : LaneState) (k : ℕ) → lane_on u.ports w ≡ Some l → lane_on t.ports w ≡ Some m → has_number k (places_on l) ≡ true
    → (has_number k (places_on m) ≡ true) ⊎ (owner_of t.pools m.pool ≡ w.sender))
    → PlacesAreOfSenders u
owners_stay t u order alike same before w l k at has =
    let m = lane_before t.ports u.ports alike w l at in
    sym (same_owner t.pools u.pools same l.pool)
    ∙ subst (λ c. owner_of t.pools c ≡ w.sender) (ap (λ (x : LaneState). x.pool) m.2) (step m.0 m.1 (before w l m.0 k at m.1 has))
  where
    step : (m : LaneState) → lane_on t.ports w ≡ Some m → (has_number k (places_on m) ≡ true) ⊎ (owner_of t.pools m.pool ≡ w.sender) → owner_of t.pools m.pool ≡ w.sender
    step m on (inl there) = order.owners w m k on there
    step m on (inr new) = new

module _ (t u : HubTables) (order : AreInOrder t) (alike : AreAlike t.ports u.ports) (same : bare_pools t.pools ≡ bare_pools u.pools) (settings : u.settings ≡ t.settings) where
  pub pools_stay : HavePools u
  pools_stay = record { each = λ n p at. has n p at (port_before t.ports u.ports alike n p at); apart = apart }
    where
      slots_are : (a b : PoolState) → bare_pool a ≡ bare_pool b → length a.slots ≡ length b.slots
      slots_are a b e = sym (length_map bare_slot a.slots) ∙ ap (λ (p : PoolState). length p.slots) e ∙ length_map bare_slot b.slots

      has : (n : ℕ) (p : PortState) → port_in u.ports n ≡ Some p → (q : PortState) × (port_in t.ports n ≡ Some q) × (bare_port q ≡ bare_port p) → HasPool u p
      has n p at before =
          let q = before.0 in
          let e = before.2 in
          let old = order.pools.each n q before.1 in
          let new = pool_after t.pools u.pools same q.pool old.pool old.there in record {
            pool = new.0;
            there = sym (ap (λ (x : PortState). pool_at u.pools x.pool) e) ∙ new.1;
            port = ap (λ (x : PoolState). x.port) new.2 ∙ old.port ∙ ap (λ (x : PortState). x.number) e;
            node_id = ap (λ (x : PoolState). x.node_id) new.2 ∙ old.node_id ∙ ap (λ (x : PortState). x.node_id) e;
            port_id = ap (λ (x : PoolState). x.port_id) new.2 ∙ old.port_id ∙ ap (λ (x : PortState). x.id) e;
            size = slots_are new.0 old.pool new.2 ∙ old.size ∙ ap (λ (x : PortState). x.size) e;
          }

      apart : (i j : ℕ) (a b : PoolState) → pool_at u.pools i ≡ Some a → pool_at u.pools j ≡ Some b → a.port ≡ b.port → i ≡ j
      apart i j a b p q e =
          let c = pool_before t.pools u.pools same i a p in
          let d = pool_before t.pools u.pools same j b q in
          order.pools.apart i j c.0 d.0 c.1 d.1 (ap (λ (x : PoolState). x.port) c.2 ∙ e ∙ sym (ap (λ (x : PoolState). x.port) d.2))

  pub lanes_stay : LanesAreOfSenders u
  lanes_stay w l sender at from =
      let m = lane_before t.ports u.ports alike w l at in
      let s = port_before t.ports u.ports alike w.sender sender from in
      let old = order.lanes w m.0 s.0 m.1 s.1 in record {
        of_pool = sym (ap (λ (x : LaneState). x.pool) m.2) ∙ old.of_pool ∙ ap (λ (x : PortState). x.pool) s.2;
        buffer =
            sym (ap (λ (x : LaneState). x.buffer) m.2) ∙ old.buffer ∙ ap (λ (x : PortState). buffer_from t.settings x.role) s.2
            ∙ ap (λ c. buffer_from c sender.role) (sym settings);
      }

  pub widths_stay : HaveWidths u
  widths_stay = widths_alike t u alike settings order.widths

  limits_stay : HaveLimits u
  limits_stay w l at =
      let m = lane_before t.ports u.ports alike w l at in
      sym (ap (λ (x : LaneState). x.limit) m.2) ∙ order.wired.limits w m.0 m.1
      ∙ ap₂ (λ c r. limit_from c (other_role r)) (sym settings) (sym (same_role_in t.ports u.ports alike w.receiver))

  pub wired_stay : AreWired u
  wired_stay = record {
    each = each_alike t u alike settings order.wired.each;
    kept = kept_alike t u alike settings order.wired.kept;
    limits = limits_stay;
  }
