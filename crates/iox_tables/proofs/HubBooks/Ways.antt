-- Each lane of a hub from a connected port is on a way between connected ports.
use Rattle.std.specs.Prelude.{◌≡◌, ℕ, zero, suc, ◌<◌, ◌≤◌, Bool, true, false, ◌||◌, if◌then◌else◌, ◌==◌, List, [], ◌∷◌, ◌++◌, flat_map, Option, Some, None, is_some, slice_get, refl}
use Rattle.std.specs.Option.{option_map_or}
use Rattle.std.proofs.Common.{sym, ap, subst, ◌∙◌, arith, inl, inr, true≢false}
use Rattle.std.proofs.lemmas.List.{map-append}
use Rattle.std.proofs.lemmas.Option.{none-some, slice_get_within}
use Rattle.iox_model.specs.declared.kind.Role.{Role}
use Rattle.iox_model.specs.declared.kind.Role.TheVariants.{Client, Server}
use Rattle.iox_model.specs.declared.way.Way.{Way}
use Rattle.iox_model.specs.Maps.{has_number}
use Rattle.iox_model.specs.Settings.{other_role}
use Rattle.iox_laws.proofs.WeaveLedger.Lists.{IsAmong, among-back, among-front, among-map, distinct-no_repeats, number-among}
use Rattle.iox_lanes.specs.Lanes.{LaneState}
use Rattle.iox_lanes.specs.Pipes.{PipeState}
use Rattle.iox_tables.specs.HubStates.Tables.{HubTables, PoolState, PortState, first_by, owner_of, pipe_from, pipes_of, port_in, senders_of}
use Rattle.iox_tables.specs.HubStates.Ways.{lane_on, lanes_from}
use Rattle.iox_tables.specs.HubStates.Steps.{is_there}
use Rattle.iox_tables.specs.HubStates.Wirings.{numbers_of_role}
use Rattle.iox_tables.proofs.HubStates.Emptied.{has-append}
use Rattle.iox_tables.proofs.HubStates.Fixing.{first_key}
use Rattle.iox_tables.specs.HubBooks.Counts.{in_pipe, in_port, on_lanes, total}
use Rattle.iox_tables.specs.HubBooks.Hubs.{AreInOrder}
use Rattle.iox_tables.proofs.HubBooks.Sendable.{first_own, numbers_apart, of_role}
use Rattle.iox_tables.specs.HubMaking.NewPorts.{width_of}
use Rattle.iox_tables.proofs.HubMaking.Firsts.{has_first}

-- ---- lists

pub some_total : {A : Type 0} (f : A → ℕ) (xs : List A) → 1 ≤ total f xs → (x : A) × IsAmong x xs × (1 ≤ f x)
some_total f [] some = absurd (omega (arith, some))
some_total f (x ∷ xs) some = step (f x) refl (some_total f xs)
  where
    step : (n : ℕ) → f x ≡ n → (1 ≤ total f xs → (y : _) × IsAmong y xs × (1 ≤ f y)) → (y : _) × IsAmong y (x ∷ xs) × (1 ≤ f y)
    step zero e rest = let r = rest (omega (arith, some, e)) in (r.0, inr r.1, r.2)
    step (suc n) e rest = (x, inl refl, omega (arith, e))

pub among_get : {A : Type 0} (x : A) (xs : List A) → IsAmong x xs → (i : ℕ) × (slice_get xs i ≡ Some x)
among_get x [] among = absurd among
among_get x (y ∷ ys) (inl e) = (zero, ap Some (sym e))
among_get x (y ∷ ys) (inr among) = let r = among_get x ys among in (suc r.0, r.1)

pub first_among : {A : Type 0} (key : A → ℕ) (xs : List A) (n : ℕ) (x : A) → first_by key xs n ≡ Some x → IsAmong x xs
first_among key [] n x e = absurd (none-some x e)
first_among key (y ∷ ys) n x e = step (key y == n) e (first_among key ys n x)
  where
    step : (b : Bool) → (if b then Some y else first_by key ys n) ≡ Some x → (first_by key ys n ≡ Some x → IsAmong x ys) → IsAmong x (y ∷ ys)
    step true h rest = inl (sym (ap (λ o. option_map_or (λ z. z) o y) h))
    step false h rest = inr (rest h)

pub among_flat : {A B : Type 0} (f : A → List B) (b : B) (a : A) (xs : List A) → IsAmong a xs → IsAmong b (f a) → IsAmong b (flat_map f xs)
among_flat f b a [] among has = absurd among
among_flat f b a (x ∷ xs) (inl e) has = among-front b (f x) (flat_map f xs) (subst (λ y. IsAmong b (f y)) e has)
among_flat f b a (x ∷ xs) (inr among) has = among-back b (f x) (flat_map f xs) (among_flat f b a xs among has)

-- ---- ways of lanes

module _ (t : HubTables) (order : AreInOrder t) where
  -- a lane that counts something is on some way
  pub some_lane : (f : LaneState → ℕ) → 1 ≤ on_lanes f t.ports → (w : Way) × (l : LaneState) × (lane_on t.ports w ≡ Some l) × (1 ≤ f l)
  some_lane f some =
      let p = some_total (in_port f) t.ports some in
      let q = some_total (in_pipe f) (pipes_of p.0) p.2 in
      let l = some_total f q.0.lanes q.2 in
      let i = among_get l.0 q.0.lanes l.1 in
      let port : port_in t.ports p.0.number ≡ Some p.0 = first_own (λ (x : PortState). x.number) t.ports p.0 (numbers_apart t order) p.1 in
      let pipe : pipe_from (pipes_of p.0) q.0.sender ≡ Some q.0
      = first_own (λ (x : PipeState). x.sender) (pipes_of p.0) q.0 (distinct-no_repeats (senders_of (pipes_of p.0)) (order.wired.each p.0.number p.0 port).apart) q.1 in (
        record { sender = q.0.sender; receiver = p.0.number; lane = i.0 },
        l.0,
        ap (λ o. slice_get (lanes_from (option_map_or pipes_of o []) q.0.sender) i.0) port
            ∙ ap (λ o. slice_get (option_map_or (λ (x : PipeState). x.lanes) o []) i.0) pipe ∙ i.1,
        l.2,
      )

  -- The sender and the receiver of a lane from a connected port are connected, of different roles, and the lane is one of
  -- those between them.
  pub record IsBetween (w : Way) (l : LaneState) : Type 0 where
    pub receiver : PortState
    pub to : port_in t.ports w.receiver ≡ Some receiver
    pub sender : PortState
    pub from : port_in t.ports w.sender ≡ Some sender
    pub roles : sender.role ≡ other_role receiver.role
    pub low : w.lane < width_of receiver
    pub pool : l.pool ≡ sender.pool
    pub owner : owner_of t.pools l.pool ≡ w.sender

  twice_other : (r : Role) → other_role (other_role r) ≡ r
  twice_other Client = refl
  twice_other Server = refl

  -- who sends to a port and is connected is of the other role
  pub sends_in : (n : ℕ) (p : PortState) → port_in t.ports n ≡ Some p → (s : ℕ) → is_there t.ports s ≡ true → has_number s (senders_of (pipes_of p)) ≡ true
      → has_number s (numbers_of_role (other_role p.role) t.ports) ≡ true
  sends_in n p at s there has =
      sym (ap (has_number s) (order.wired.each n p at).senders)
      ∙ second (has_number s (senders_of p.expired.pipes)) refl (sym (ap (has_number s) (map-append (λ (x : PipeState). x.sender) p.expired.pipes p.incoming.pipes) ∙ has-append s (senders_of p.expired.pipes) (senders_of p.incoming.pipes)) ∙ has)
    where
      second : (b : Bool) → has_number s (senders_of p.expired.pipes) ≡ b → (b || has_number s (senders_of p.incoming.pipes)) ≡ true → has_number s (senders_of p.incoming.pipes) ≡ true
      second false e h = h
      second true e h = absurd (true≢false (sym there ∙ ap (λ (o : Option PortState). is_some o) ((order.wired.kept n p at).gone s e)))

  pub between : (w : Way) (l : LaneState) → lane_on t.ports w ≡ Some l → is_there t.ports w.sender ≡ true → IsBetween w l
  between w l there connected = at_port (port_in t.ports w.receiver) refl there
    where
      at_pipe : (p : PortState) → port_in t.ports w.receiver ≡ Some p → (o : Option PipeState) → pipe_from (pipes_of p) w.sender ≡ o
          → slice_get (option_map_or (λ (q : PipeState). q.lanes) o []) w.lane ≡ Some l → IsBetween w l
      at_pipe p port None pipe at = absurd (none-some l at)
      at_pipe p port (Some q) pipe at =
          let has : has_number w.sender (senders_of (pipes_of p)) ≡ true = has_first (λ (x : PipeState). x.sender) (pipes_of p) w.sender ∙ ap (λ (o : Option PipeState). is_some o) pipe in
          let s = of_role t order (other_role p.role) w.sender (number-among w.sender _ (sends_in w.receiver p port w.sender connected has)) in
          let lane = order.lanes w l s.0 there s.1 in
          let has = order.pools.each w.sender s.0 s.1 in
          let number = first_key (λ (x : PortState). x.number) t.ports w.sender s.0 s.1 in
          let width = order.widths w.receiver w.sender p s.0 port s.1 (sym (ap other_role s.2 ∙ twice_other p.role)) in
          record {
            receiver = p;
            to = port;
            sender = s.0;
            from = s.1;
            roles = s.2;
            low =
                subst (λ k. w.lane < k) width.lanes
                (slice_get_within (lanes_from (pipes_of p) s.0.number) w.lane l
                (ap (λ k. slice_get (lanes_from (pipes_of p) k) w.lane) number ∙ ap (λ o. slice_get (option_map_or (λ (x : PipeState). x.lanes) o []) w.lane) pipe ∙ at));
            pool = lane.of_pool;
            owner = ap (owner_of t.pools) lane.of_pool ∙ ap (λ o. option_map_or (λ (x : PoolState). x.port) o 0) has.there ∙ has.port ∙ number;
          }

      at_port : (o : Option PortState) → port_in t.ports w.receiver ≡ o → slice_get (lanes_from (option_map_or pipes_of o []) w.sender) w.lane ≡ Some l → IsBetween w l
      at_port None port at = absurd (none-some l at)
      at_port (Some p) port at = at_pipe p port (pipe_from (pipes_of p) w.sender) refl at
