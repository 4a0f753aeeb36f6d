-- A change of a request state and one of a lane, of pipes from one sender, come to the same in each order.
use Rattle.std.specs.Prelude.{◌≡◌, ℕ, zero, suc, Bool, true, false, if◌then◌else◌, ◌==◌, List, [], ◌∷◌, map, take, slice_get, slice_set, Option, Some, None, refl}
use Rattle.std.specs.Option.{option_map_or}
use Rattle.std.proofs.Common.{sym, ap, ◌∙◌}
use Rattle.iox_model.specs.declared.way.RequestState.{RequestState}
use Rattle.iox_model.specs.Messages.{request_way, response_way}
use Rattle.iox_lanes.specs.Lanes.{LaneState}
use Rattle.iox_lanes.specs.Pipes.{PipeState, with_lane, with_state}
use Rattle.iox_tables.specs.HubStates.Tables.{PortState, with_first_by}
use Rattle.iox_tables.specs.HubStates.Ways.{with_lane_on, with_lanes_on, with_pipe_of, with_state_on}
use Rattle.iox_tables.proofs.HubStates.Keys.{lane_sender, state_sender}
use Rattle.iox_hub_ports.proofs.Keeping.{same_number_of}
use Rattle.iox_hub_ports.proofs.Rounds.{pipe_twice}

-- ---- two changes of what two keys name

module _ {A : Type 0} (key : A → ℕ) (f g : A → A) (keeps_f : (x : A) → key (f x) ≡ key x) (keeps_g : (x : A) → key (g x) ≡ key x) (turn : (x : A) → f (g x) ≡ g (f x)) where
  firsts_turn : (xs : List A) (a b : ℕ) → with_first_by key f (with_first_by key g xs a) b ≡ with_first_by key g (with_first_by key f xs b) a
  firsts_turn [] a b = refl
  firsts_turn (x ∷ xs) a b = step (key x == a) refl (key x == b) refl (firsts_turn xs a b)
    where
      step : (p : Bool) → (key x == a) ≡ p → (q : Bool) → (key x == b) ≡ q
          → with_first_by key f (with_first_by key g xs a) b ≡ with_first_by key g (with_first_by key f xs b) a
          → with_first_by key f (if p then g x ∷ xs else x ∷ with_first_by key g xs a) b
          ≡ with_first_by key g (if q then f x ∷ xs else x ∷ with_first_by key f xs b) a
      step true ea true eb rest =
          ap (λ (c : Bool). if c then f (g x) ∷ xs else g x ∷ with_first_by key f xs b) (ap (λ k. k == b) (keeps_g x) ∙ eb)
          ∙ ap (λ y. y ∷ xs) (turn x)
          ∙ sym (ap (λ (c : Bool). if c then g (f x) ∷ xs else f x ∷ with_first_by key g xs a) (ap (λ k. k == a) (keeps_f x) ∙ ea))
      step true ea false eb rest =
          ap (λ (c : Bool). if c then f (g x) ∷ xs else g x ∷ with_first_by key f xs b) (ap (λ k. k == b) (keeps_g x) ∙ eb)
          ∙ sym (ap (λ (c : Bool). if c then g x ∷ with_first_by key f xs b else x ∷ with_first_by key g (with_first_by key f xs b) a) ea)
      step false ea true eb rest =
          ap (λ (c : Bool). if c then f x ∷ with_first_by key g xs a else x ∷ with_first_by key f (with_first_by key g xs a) b) eb
          ∙ sym (ap (λ (c : Bool). if c then g (f x) ∷ xs else f x ∷ with_first_by key g xs a) (ap (λ k. k == a) (keeps_f x) ∙ ea))
      step false ea false eb rest =
          ap (λ (c : Bool). if c then f x ∷ with_first_by key g xs a else x ∷ with_first_by key f (with_first_by key g xs a) b) eb
          ∙ ap (λ ys. x ∷ ys) rest
          ∙ sym (ap (λ (c : Bool). if c then g x ∷ with_first_by key f xs b else x ∷ with_first_by key g (with_first_by key f xs b) a) ea)

-- ---- one pipe

module _ (f : RequestState → RequestState) (state : ℕ) (g : LaneState → LaneState) (lane : ℕ) where
  abbrev lane_by : Option LaneState → PipeState → PipeState
  lane_by o q = option_map_or (λ l. record q { lanes = slice_set q.lanes lane (g l) }) o q

  abbrev state_by : Option RequestState → PipeState → PipeState
  state_by o q = option_map_or (λ r. record q { states = slice_set q.states state (f r) }) o q

  pipe_turns : (q : PipeState) → with_state f (with_lane g q lane) state ≡ with_lane g (with_state f q state) lane
  pipe_turns q =
      ap (λ (rs : List RequestState). state_by (slice_get rs state) (lane_by (slice_get q.lanes lane) q)) (states_stay (slice_get q.lanes lane))
      ∙ both (slice_get q.lanes lane) (slice_get q.states state)
      ∙ ap (λ (ls : List LaneState). lane_by (slice_get ls lane) (state_by (slice_get q.states state) q)) (sym (lanes_stay (slice_get q.states state)))
    where
      states_stay : (o : Option LaneState) → (lane_by o q).states ≡ q.states
      states_stay None = refl
      states_stay (Some l) = refl

      lanes_stay : (o : Option RequestState) → (state_by o q).lanes ≡ q.lanes
      lanes_stay None = refl
      lanes_stay (Some r) = refl

      both : (o : Option LaneState) (r : Option RequestState) → state_by r (lane_by o q) ≡ lane_by o (state_by r q)
      both None None = refl
      both None (Some r) = refl
      both (Some l) None = refl
      both (Some l) (Some r) = refl

  -- and one port
  port_turns : (s : ℕ) (p : PortState)
      → with_pipe_of (λ q. with_state f q state) (with_pipe_of (λ q. with_lane g q lane) p s) s
      ≡ with_pipe_of (λ q. with_lane g q lane) (with_pipe_of (λ q. with_state f q state) p s) s
  port_turns s p =
      pipe_twice (λ q. with_lane g q lane) (λ q. with_state f q state) (lane_sender g lane) s p
      ∙ (λ i. with_pipe_of (λ q. pipe_turns q i) p s)
      ∙ sym (pipe_twice (λ q. with_state f q state) (λ q. with_lane g q lane) (state_sender f state) s p)

-- ---- ways

module _ (client : ℕ) (f : RequestState → RequestState) (g : LaneState → LaneState) (lane n : ℕ) where
  way_turns : (ports : List PortState) (m : ℕ)
      → with_state_on f (with_lane_on g ports (request_way client m)) (response_way client lane n)
      ≡ with_lane_on g (with_state_on f ports (response_way client lane n)) (request_way client m)
  way_turns ports m =
      firsts_turn (λ (p : PortState). p.number) (λ p. with_pipe_of (λ q. with_state f q lane) p client) (λ p. with_pipe_of (λ q. with_lane g q 0) p client)
      (same_number_of (λ q. with_state f q lane) client) (same_number_of (λ q. with_lane g q 0) client) (port_turns f lane g 0 client) ports m n

  -- a request is opened with one more server, after it was delivered to others or before
  pub state_first : (ns : List ℕ) (i : ℕ) (ports : List PortState)
      → with_state_on f (with_lanes_on g ports (take i (map (request_way client) ns))) (response_way client lane n)
      ≡ with_lanes_on g (with_state_on f ports (response_way client lane n)) (take i (map (request_way client) ns))
  state_first [] zero ports = refl
  state_first [] (suc i) ports = refl
  state_first (m ∷ ns) zero ports = refl
  state_first (m ∷ ns) (suc i) ports =
      state_first ns i (with_lane_on g ports (request_way client m))
      ∙ ap (λ qs. with_lanes_on g qs (take i (map (request_way client) ns))) (way_turns ports m)
