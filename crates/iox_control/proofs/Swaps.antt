-- A change of a request state and one of a lane come to the same in either order.
use Rattle.std.specs.Prelude.{◌≡◌, ℕ, Bool, true, false, if◌then◌else◌, ◌==◌, List, [], ◌∷◌, Option, Some, None, slice_get, slice_set, refl}
use Rattle.std.specs.Option.{option_map_or}
use Rattle.std.proofs.Common.{sym, ap, ◌∙◌}
use Rattle.iox_model.specs.declared.way.RequestState.{RequestState}
use Rattle.iox_model.specs.declared.way.Way.{Way}
use Rattle.iox_model.specs.Maps.{has_number}
use Rattle.iox_lanes.specs.Lanes.{LaneState}
use Rattle.iox_lanes.specs.Pipes.{PipeState, with_lane, with_state}
use Rattle.iox_hub_ports.specs.HubStates.Tables.{PortState, senders_of, with_first_by}
use Rattle.iox_hub_ports.specs.HubStates.Ways.{with_lane_on, with_pipe_from, with_pipe_of, with_pipes, with_state_on, with_states_on}
use Rattle.iox_hub_ports.proofs.HubStates.Keys.{lane_sender, same_expired, same_number, state_sender}

-- ---- the first of a number

module _ {A : Type 0} (key : A → ℕ) (f g : A → A) (keeps_f : (x : A) → key (f x) ≡ key x) (keeps_g : (x : A) → key (g x) ≡ key x)
    (swaps : (x : A) → f (g x) ≡ g (f x)) where
  first_swapped : (xs : List A) (m n : ℕ) → with_first_by key f (with_first_by key g xs n) m ≡ with_first_by key g (with_first_by key f xs m) n
  first_swapped [] m n = refl
  first_swapped (x ∷ xs) m n = step (key x == m) (key x == n) refl refl (first_swapped xs m n)
    where
      -- one of both is of another
      f_behind : (key x == m) ≡ false → with_first_by key f (g x ∷ xs) m ≡ g x ∷ with_first_by key f xs m
      f_behind e = ap (λ (c : Bool). if c then f (g x) ∷ xs else g x ∷ with_first_by key f xs m) (ap (λ k. k == m) (keeps_g x) ∙ e)

      g_behind : (key x == n) ≡ false → with_first_by key g (f x ∷ xs) n ≡ f x ∷ with_first_by key g xs n
      g_behind e = ap (λ (c : Bool). if c then g (f x) ∷ xs else f x ∷ with_first_by key g xs n) (ap (λ k. k == n) (keeps_f x) ∙ e)

      step : (a b : Bool) → (key x == m) ≡ a → (key x == n) ≡ b
          → with_first_by key f (with_first_by key g xs n) m ≡ with_first_by key g (with_first_by key f xs m) n
          → with_first_by key f (if b then g x ∷ xs else x ∷ with_first_by key g xs n) m
          ≡ with_first_by key g (if a then f x ∷ xs else x ∷ with_first_by key f xs m) n
      step true true ea eb rest =
          ap (λ (c : Bool). if c then f (g x) ∷ xs else g x ∷ with_first_by key f xs m) (ap (λ k. k == m) (keeps_g x) ∙ ea)
          ∙ ap (λ y. y ∷ xs) (swaps x)
          ∙ sym (ap (λ (c : Bool). if c then g (f x) ∷ xs else f x ∷ with_first_by key g xs n) (ap (λ k. k == n) (keeps_f x) ∙ eb))
      step false true ea eb rest =
          f_behind ea
          ∙ sym (ap (λ (c : Bool). if c then g x ∷ with_first_by key f xs m else x ∷ with_first_by key g (with_first_by key f xs m) n) eb)
      step true false ea eb rest =
          ap (λ (c : Bool). if c then f x ∷ with_first_by key g xs n else x ∷ with_first_by key f (with_first_by key g xs n) m) ea
          ∙ sym (g_behind eb)
      step false false ea eb rest =
          ap (λ (c : Bool). if c then f x ∷ with_first_by key g xs n else x ∷ with_first_by key f (with_first_by key g xs n) m) ea
          ∙ ap (λ ys. x ∷ ys) rest
          ∙ sym (ap (λ (c : Bool). if c then g x ∷ with_first_by key f xs m else x ∷ with_first_by key g (with_first_by key f xs m) n) eb)

-- ---- two pipes of a port

module _ (h k : PipeState → PipeState) (keeps_h : (q : PipeState) → (h q).sender ≡ q.sender) (keeps_k : (q : PipeState) → (k q).sender ≡ q.sender)
    (swaps : (q : PipeState) → h (k q) ≡ k (h q)) where
  abbrev changed : (PipeState → PipeState) → ℕ → Bool → PortState → PortState
  changed f n b q =
      if b then record q { expired = with_pipes q.expired (with_pipe_from f q.expired.pipes n) }
      else record q { incoming = with_pipes q.incoming (with_pipe_from f q.incoming.pipes n) }

  port_swapped : (s r : ℕ) (p : PortState) → with_pipe_of h (with_pipe_of k p r) s ≡ with_pipe_of k (with_pipe_of h p s) r
  port_swapped s r p =
      ap (λ ns. changed h s (has_number s ns) (with_pipe_of k p r)) (same_expired k keeps_k r p)
      ∙ both (has_number s (senders_of p.expired.pipes)) (has_number r (senders_of p.expired.pipes))
      ∙ sym (ap (λ ns. changed k r (has_number r ns) (with_pipe_of h p s)) (same_expired h keeps_h s p))
    where
      both : (a b : Bool) → changed h s a (changed k r b p) ≡ changed k r b (changed h s a p)
      both true true =
          ap (λ ps. record p { expired = with_pipes p.expired ps }) (first_swapped (λ q. q.sender) h k keeps_h keeps_k swaps p.expired.pipes s r)
      both false false =
          ap (λ ps. record p { incoming = with_pipes p.incoming ps }) (first_swapped (λ q. q.sender) h k keeps_h keeps_k swaps p.incoming.pipes s r)
      both true false = refl
      both false true = refl

-- ---- a request state and a lane of a pipe

module _ (f : RequestState → RequestState) (g : LaneState → LaneState) where
  pipe_swapped : (j i : ℕ) (q : PipeState) → with_state f (with_lane g q i) j ≡ with_lane g (with_state f q j) i
  pipe_swapped j i q = step (slice_get q.lanes i) refl (slice_get q.states j) refl
    where
      lanes_with : Option LaneState → PipeState
      lanes_with o = option_map_or (λ l. record q { lanes = slice_set q.lanes i (g l) }) o q

      states_with : Option RequestState → PipeState
      states_with o = option_map_or (λ s. record q { states = slice_set q.states j (f s) }) o q

      step : (o : Option LaneState) → slice_get q.lanes i ≡ o → (o' : Option RequestState) → slice_get q.states j ≡ o'
          → with_state f (lanes_with o) j ≡ with_lane g (states_with o') i
      step (Some l) e (Some s) e' =
          ap (λ (o : Option RequestState). option_map_or (λ r. record q { lanes = slice_set q.lanes i (g l); states = slice_set q.states j (f r) }) o (lanes_with (Some l))) e'
          ∙ sym (ap (λ (o : Option LaneState). option_map_or (λ m. record q { lanes = slice_set q.lanes i (g m); states = slice_set q.states j (f s) }) o (states_with (Some s))) e)
      step (Some l) e None e' =
          ap (λ (o : Option RequestState). option_map_or (λ r. record q { lanes = slice_set q.lanes i (g l); states = slice_set q.states j (f r) }) o (lanes_with (Some l))) e'
          ∙ sym (ap lanes_with e)
      step None e (Some s) e' =
          ap states_with e'
          ∙ sym (ap (λ (o : Option LaneState). option_map_or (λ m. record q { lanes = slice_set q.lanes i (g m); states = slice_set q.states j (f s) }) o (states_with (Some s))) e)
      step None e None e' = ap states_with e' ∙ sym (ap lanes_with e)

  -- ---- the ports

  -- the request state of one way, and the lane of another
  pub state_past_lane : (ports : List PortState) (w v : Way)
      → with_state_on f (with_lane_on g ports w) v ≡ with_lane_on g (with_state_on f ports v) w
  state_past_lane ports w v =
      first_swapped (λ p. p.number) (λ p. with_pipe_of (λ q. with_state f q v.lane) p v.receiver) (λ p. with_pipe_of (λ q. with_lane g q w.lane) p w.sender)
      (same_number (λ q. with_state f q v.lane) (state_sender f v.lane) v.receiver)
      (same_number (λ q. with_lane g q w.lane) (lane_sender g w.lane) w.sender)
      (port_swapped (λ q. with_state f q v.lane) (λ q. with_lane g q w.lane) (state_sender f v.lane) (lane_sender g w.lane) (pipe_swapped v.lane w.lane)
      v.receiver w.sender)
      ports v.sender w.receiver

  -- the request states of several ways
  pub states_past_lane : (ports : List PortState) (w : Way) (vs : List Way)
      → with_states_on f (with_lane_on g ports w) vs ≡ with_lane_on g (with_states_on f ports vs) w
  states_past_lane ports w [] = refl
  states_past_lane ports w (v ∷ vs) =
      ap (λ ps. with_states_on f ps vs) (state_past_lane ports w v) ∙ states_past_lane (with_state_on f ports v) w vs
