-- A walk over the places of a role is a walk over the ways to it, or from it; and two changes of one pipe are one.
use Rattle.std.specs.Prelude.{◌≡◌, ℕ, zero, suc, ◌+◌, Bool, true, false, if◌then◌else◌, ◌==◌, List, [], ◌∷◌, ◌++◌, map, filter, length, take, slice_get, slice_set, Option, Some, None, refl}
use Rattle.std.specs.Option.{option_map_or}
use Rattle.std.proofs.Common.{sym, ap, subst, ◌∙◌, append_assoc, arith}
use Rattle.std.proofs.lemmas.Option.{none-some, same_Some}
use Rattle.iox_model.specs.declared.kind.Role.{Role}
use Rattle.iox_model.specs.declared.way.RequestState.{RequestState}
use Rattle.iox_model.specs.Maps.{AreDistinct, has_number}
use Rattle.iox_model.specs.Messages.{response_way}
use Rattle.iox_model.specs.Settings.{same_role}
use Rattle.iox_tables.specs.Lanes.{LaneState}
use Rattle.iox_tables.specs.Pipes.{PipeState, with_lane, with_state}
use Rattle.iox_tables.specs.HubStates.Tables.{PortState, numbers_of, senders_of, with_first_by}
use Rattle.iox_tables.specs.HubStates.Ways.{with_lane_on, with_lanes_on, with_pipe_from, with_pipe_of, with_pipes, with_port, with_state_on, with_states_on}
use Rattle.iox_tables.specs.HubStates.Wirings.{numbers_of_role}
use Rattle.iox_tables.proofs.HubStates.Keys.{lane_sender, same_mapped, state_sender}
use Rattle.iox_hub_ports.specs.InPlace.{places_from, places_of, roles_of, with_place, with_places}
use Rattle.iox_hub_ports.specs.Ports.{if_role, place_in, state_ways, way_from, ways_from, with_lane_from, with_state_from}
use Rattle.iox_hub_ports.proofs.InPlace.{changed_by_number}
use Rattle.iox_hub_ports.proofs.Keeping.{same_number_of, same_role_of}
use Rattle.iox_hub_ports.proofs.Walking.{each_lane, each_state}

-- ---- two changes of one are one

first_twice : {A : Type 0} (key : A → ℕ) (f g : A → A) → ((x : A) → key (f x) ≡ key x) → (xs : List A) (n : ℕ)
    → with_first_by key g (with_first_by key f xs n) n ≡ with_first_by key (λ x. g (f x)) xs n
first_twice key f g keeps [] n = refl
first_twice key f g keeps (x ∷ xs) n = step (key x == n) refl (first_twice key f g keeps xs n)
  where
    step : (b : Bool) → (key x == n) ≡ b → with_first_by key g (with_first_by key f xs n) n ≡ with_first_by key (λ x. g (f x)) xs n
        → with_first_by key g (if b then f x ∷ xs else x ∷ with_first_by key f xs n) n ≡ (if b then g (f x) ∷ xs else x ∷ with_first_by key (λ x. g (f x)) xs n)
    step true e rest = ap (λ (b : Bool). if b then g (f x) ∷ xs else f x ∷ with_first_by key g xs n) (ap (λ k. k == n) (keeps x) ∙ e)
    step false e rest =
        ap (λ (b : Bool). if b then g x ∷ with_first_by key f xs n else x ∷ with_first_by key g (with_first_by key f xs n) n) e ∙ ap (λ ys. x ∷ ys) rest

first_alike : {A : Type 0} (key : A → ℕ) (f g : A → A) → ((x : A) → f x ≡ g x) → (xs : List A) (n : ℕ) → with_first_by key f xs n ≡ with_first_by key g xs n
first_alike key f g alike [] n = refl
first_alike key f g alike (x ∷ xs) n = step (key x == n) (first_alike key f g alike xs n)
  where
    step : (b : Bool) → with_first_by key f xs n ≡ with_first_by key g xs n
        → (if b then f x ∷ xs else x ∷ with_first_by key f xs n) ≡ (if b then g x ∷ xs else x ∷ with_first_by key g xs n)
    step true rest = ap (λ y. y ∷ xs) (alike x)
    step false rest = ap (λ ys. x ∷ ys) rest

module _ (h k : PipeState → PipeState) (keeps : (q : PipeState) → (h q).sender ≡ q.sender) (s : ℕ) where
  abbrev both : PipeState → PipeState
  both q = k (h q)

  -- the pipe from one sender is changed twice
  pub pipe_twice : (p : PortState) → with_pipe_of k (with_pipe_of h p s) s ≡ with_pipe_of both p s
  pipe_twice p = step (has_number s (senders_of p.expired.pipes)) refl
    where
      es : List PipeState
      es = p.expired.pipes

      is : List PipeState
      is = p.incoming.pipes

      first : Bool → PortState
      first b =
          if b then record p { expired = with_pipes p.expired (with_pipe_from h es s) }
          else record p { incoming = with_pipes p.incoming (with_pipe_from h is s) }

      second : Bool → PortState → PortState
      second b q =
          if b then record q { expired = with_pipes q.expired (with_pipe_from k q.expired.pipes s) }
          else record q { incoming = with_pipes q.incoming (with_pipe_from k q.incoming.pipes s) }

      at_once : Bool → PortState
      at_once b =
          if b then record p { expired = with_pipes p.expired (with_pipe_from both es s) }
          else record p { incoming = with_pipes p.incoming (with_pipe_from both is s) }

      step : (b : Bool) → has_number s (senders_of es) ≡ b → second (has_number s (senders_of (first b).expired.pipes)) (first b) ≡ at_once b
      step true e =
          ap (λ (b : Bool). second b (first true)) (ap (has_number s) (same_mapped (λ q. q.sender) h (λ q. q.sender) keeps es s) ∙ e)
          ∙ ap (λ qs. record p { expired = with_pipes p.expired qs }) (first_twice (λ q. q.sender) h k keeps es s)
      step false e =
          ap (λ (b : Bool). second b (first false)) e
          ∙ ap (λ qs. record p { incoming = with_pipes p.incoming qs }) (first_twice (λ q. q.sender) h k keeps is s)

  -- and so in the port of a number
  pub port_twice : (ports : List PortState) (n : ℕ)
      → with_port (λ p. with_pipe_of k p s) (with_port (λ p. with_pipe_of h p s) ports n) n ≡ with_port (λ p. with_pipe_of both p s) ports n
  port_twice ports n =
      first_twice (λ p. p.number) (λ p. with_pipe_of h p s) (λ p. with_pipe_of k p s) (same_number_of h s) ports n
      ∙ first_alike (λ p. p.number) (λ p. with_pipe_of k (with_pipe_of h p s) s) (λ p. with_pipe_of both p s) pipe_twice ports n

-- ---- one port in its place, and its ways

module _ (ports : List PortState) (n i s : ℕ) (there : place_in ports n ≡ Some i) where
  pub lane_in_place : (g : LaneState → LaneState) (lane : ℕ)
      → with_place (λ p. with_pipe_of (λ q. with_lane g q lane) p s) ports i ≡ with_lane_on g ports (way_from s lane n)
  lane_in_place g lane = changed_by_number ports n i (λ p. with_pipe_of (λ q. with_lane g q lane) p s) there

  pub state_in_place : (f : RequestState → RequestState) (state : ℕ)
      → with_place (λ p. with_pipe_of (λ q. with_state f q state) p s) ports i ≡ with_state_on f ports (response_way s state n)
  state_in_place f state = changed_by_number ports n i (λ p. with_pipe_of (λ q. with_state f q state) p s) there

  -- first a lane, then a request state
  pub lane_and_state_in_place : (g : LaneState → LaneState) (lane : ℕ) (f : RequestState → RequestState) (state : ℕ)
      → with_place (λ p. with_pipe_of (λ q. with_state f (with_lane g q lane) state) p s) ports i
      ≡ with_state_on f (with_lane_on g ports (way_from s lane n)) (response_way s state n)
  lane_and_state_in_place g lane f state =
      changed_by_number ports n i (λ p. with_pipe_of (λ q. with_state f (with_lane g q lane) state) p s) there
      ∙ sym (port_twice (λ q. with_lane g q lane) (λ q. with_state f q state) (lane_sender g lane) s ports n)

  -- first a request state, then a lane
  pub state_and_lane_in_place : (g : LaneState → LaneState) (lane : ℕ) (f : RequestState → RequestState) (state : ℕ)
      → with_place (λ p. with_pipe_of (λ q. with_lane g (with_state f q state) lane) p s) ports i
      ≡ with_lane_on g (with_state_on f ports (response_way s state n)) (way_from s lane n)
  state_and_lane_in_place g lane f state =
      changed_by_number ports n i (λ p. with_pipe_of (λ q. with_lane g (with_state f q state) lane) p s) there
      ∙ sym (port_twice (λ q. with_state f q state) (λ q. with_lane g q lane) (state_sender f state) s ports n)

-- ---- a walk over the places of a role

module _ (h : PortState → PortState) where
  place_later : (x : PortState) (xs : List PortState) (i : ℕ) → with_place h (x ∷ xs) (suc i) ≡ x ∷ with_place h xs i
  place_later x xs i = step (slice_get xs i)
    where
      step : (o : Option PortState)
          → option_map_or (λ p. slice_set (x ∷ xs) (suc i) (h p)) o (x ∷ xs) ≡ x ∷ option_map_or (λ p. slice_set xs i (h p)) o xs
      step (Some p) = refl
      step None = refl

  place_behind : (xs ps : List PortState) (p : PortState) → with_place h (xs ++ p ∷ ps) (length xs) ≡ xs ++ h p ∷ ps
  place_behind [] ps p = refl
  place_behind (x ∷ xs) ps p = place_later x (xs ++ p ∷ ps) (length xs) ∙ ap (λ qs. x ∷ qs) (place_behind xs ps p)

  one_more : (xs : List PortState) (p : PortState) → length (xs ++ p ∷ []) ≡ length xs + 1
  one_more [] p = refl
  one_more (x ∷ xs) p = omega (arith, one_more xs p)

  -- those before are walked over already
  walked_from : (role : Role) (xs ps : List PortState) (k : ℕ) → k ≡ length xs
      → with_places h (xs ++ ps) (places_from role k (roles_of ps)) ≡ xs ++ map (if_role role h) ps
  walked_from role xs [] k e = refl
  walked_from role xs (p ∷ ps) k e =
      step (same_role p.role role)
      (λ q. walked_from role (xs ++ q ∷ []) ps (k + 1) (ap (λ m. m + 1) e ∙ sym (one_more xs q)))
    where
      rest : List ℕ
      rest = places_from role (k + 1) (roles_of ps)

      next : (q : PortState) → with_places h ((xs ++ q ∷ []) ++ ps) rest ≡ (xs ++ q ∷ []) ++ map (if_role role h) ps
          → with_places h (xs ++ q ∷ ps) rest ≡ xs ++ q ∷ map (if_role role h) ps
      next q walk =
          ap (λ (zs : List PortState). with_places h zs rest) (sym (append_assoc xs (q ∷ []) ps)) ∙ walk
          ∙ append_assoc xs (q ∷ []) (map (if_role role h) ps)

      step : (b : Bool)
          → ((q : PortState) → with_places h ((xs ++ q ∷ []) ++ ps) rest ≡ (xs ++ q ∷ []) ++ map (if_role role h) ps)
          → with_places h (xs ++ p ∷ ps) (if b then k ∷ rest else rest) ≡ xs ++ (if b then h p else p) ∷ map (if_role role h) ps
      step true walk =
          ap (λ (m : ℕ). with_places h (with_place h (xs ++ p ∷ ps) m) rest) e
          ∙ ap (λ (zs : List PortState). with_places h zs rest) (place_behind xs ps p) ∙ next (h p) (walk (h p))
      step false walk = next p (walk p)

  -- the walk changes the ports of the role
  pub walked : (role : Role) (ports : List PortState) → with_places h ports (places_of role ports) ≡ map (if_role role h) ports
  walked role ports = walked_from role [] ports 0 refl

  -- one place more
  pub walked_on : (ports : List PortState) (places : List ℕ) (i place : ℕ) → slice_get places i ≡ Some place
      → with_places h ports (take (i + 1) places) ≡ with_place h (with_places h ports (take i places)) place
  walked_on ports [] i place e = absurd (none-some place e)
  walked_on ports (k ∷ ks) zero place e = ap (λ (m : ℕ). with_place h ports m) (same_Some k place e)
  walked_on ports (k ∷ ks) (suc i) place e =
      ap (λ (m : ℕ). with_places h ports (take m (k ∷ ks))) (more i) ∙ walked_on (with_place h ports k) ks i place e
    where
      more : (i : ℕ) → suc i + 1 ≡ suc (i + 1)
      more i = omega arith

-- ---- the walks over ways

pub lanes_in_places : (g : LaneState → LaneState) (sender lane : ℕ) (role : Role) (ports : List PortState) → AreDistinct (numbers_of ports)
    → with_places (λ p. with_lane_from g p sender lane) ports (places_of role ports) ≡ with_lanes_on g ports (ways_from sender lane role ports)
lanes_in_places g sender lane role ports apart = walked (λ p. with_lane_from g p sender lane) role ports ∙ each_lane g sender lane role ports apart

pub states_in_places : (f : RequestState → RequestState) (receiver lane : ℕ) (role : Role) (ports : List PortState) → AreDistinct (numbers_of ports)
    → with_places (λ p. with_state_from f p receiver lane) ports (places_of role ports) ≡ with_states_on f ports (state_ways receiver lane role ports)
states_in_places f receiver lane role ports apart =
    walked (λ p. with_state_from f p receiver lane) role ports ∙ each_state f receiver lane role ports apart

-- ---- a walk that changes a request state and a lane in each place is two walks

module _ (role : Role) (h k : PortState → PortState) (keeps : (p : PortState) → (h p).role ≡ p.role) where
  mapped_twice : (ports : List PortState) → map (if_role role k) (map (if_role role h) ports) ≡ map (if_role role (λ p. k (h p))) ports
  mapped_twice [] = refl
  mapped_twice (p ∷ ps) = step (same_role p.role role) refl (mapped_twice ps)
    where
      step : (b : Bool) → same_role p.role role ≡ b
          → map (if_role role k) (map (if_role role h) ps) ≡ map (if_role role (λ p. k (h p))) ps
          → map (if_role role k) ((if b then h p else p) ∷ map (if_role role h) ps) ≡ (if b then k (h p) else p) ∷ map (if_role role (λ p. k (h p))) ps
      step true e rest =
          ap (λ (b : Bool). (if b then k (h p) else h p) ∷ map (if_role role k) (map (if_role role h) ps)) (ap (λ r. same_role r role) (keeps p) ∙ e)
          ∙ ap (λ qs. k (h p) ∷ qs) rest
      step false e rest =
          ap (λ (b : Bool). (if b then k p else p) ∷ map (if_role role k) (map (if_role role h) ps)) e ∙ ap (λ qs. p ∷ qs) rest

mapped_alike : (role : Role) (h k : PortState → PortState) → ((p : PortState) → h p ≡ k p) → (ports : List PortState)
    → map (if_role role h) ports ≡ map (if_role role k) ports
mapped_alike role h k alike [] = refl
mapped_alike role h k alike (p ∷ ps) = step (same_role p.role role) (mapped_alike role h k alike ps)
  where
    step : (b : Bool) → map (if_role role h) ps ≡ map (if_role role k) ps
        → (if b then h p else p) ∷ map (if_role role h) ps ≡ (if b then k p else p) ∷ map (if_role role k) ps
    step true rest = ap (λ q. q ∷ map (if_role role h) ps) (alike p) ∙ ap (λ qs. k p ∷ qs) rest
    step false rest = ap (λ qs. p ∷ qs) rest

module _ (role other : Role) (h : PortState → PortState) (numbers : (p : PortState) → (h p).number ≡ p.number) (roles : (p : PortState) → (h p).role ≡ p.role) where
  numbers_mapped : (ports : List PortState) → numbers_of (map (if_role role h) ports) ≡ numbers_of ports
  numbers_mapped [] = refl
  numbers_mapped (p ∷ ps) = step (same_role p.role role) (numbers_mapped ps)
    where
      step : (b : Bool) → numbers_of (map (if_role role h) ps) ≡ numbers_of ps
          → numbers_of ((if b then h p else p) ∷ map (if_role role h) ps) ≡ p.number ∷ numbers_of ps
      step true rest = ap (λ n. n ∷ numbers_of (map (if_role role h) ps)) (numbers p) ∙ ap (λ ns. p.number ∷ ns) rest
      step false rest = ap (λ ns. p.number ∷ ns) rest

  of_role_mapped : (ports : List PortState) → numbers_of_role other (map (if_role role h) ports) ≡ numbers_of_role other ports
  of_role_mapped [] = refl
  of_role_mapped (p ∷ ps) = step (same_role p.role role) (of_role_mapped ps)
    where
      chosen : Bool → ℕ → List ℕ → List ℕ
      chosen b n ns = if b then n ∷ ns else ns

      pulled : (q : PortState) (qs : List PortState) → numbers_of_role other (q ∷ qs) ≡ chosen (same_role q.role other) q.number (numbers_of_role other qs)
      pulled q qs = pull (same_role q.role other)
        where
          pull : (b : Bool) → map (λ (p : PortState). p.number) (if b then q ∷ filter (λ p. same_role p.role other) qs else filter (λ p. same_role p.role other) qs)
              ≡ chosen b q.number (numbers_of_role other qs)
          pull true = refl
          pull false = refl

      step : (b : Bool) → numbers_of_role other (map (if_role role h) ps) ≡ numbers_of_role other ps
          → numbers_of_role other ((if b then h p else p) ∷ map (if_role role h) ps) ≡ numbers_of_role other (p ∷ ps)
      step true rest =
          pulled (h p) (map (if_role role h) ps)
          ∙ ap (λ r. chosen (same_role r other) (h p).number (numbers_of_role other (map (if_role role h) ps))) (roles p)
          ∙ ap (λ n. chosen (same_role p.role other) n (numbers_of_role other (map (if_role role h) ps))) (numbers p)
          ∙ ap (chosen (same_role p.role other) p.number) rest ∙ sym (pulled p ps)
      step false rest =
          pulled p (map (if_role role h) ps) ∙ ap (chosen (same_role p.role other) p.number) rest ∙ sym (pulled p ps)

-- the request state first, then the lane
pub states_and_lanes_in_places : (g : LaneState → LaneState) (lane : ℕ) (f : RequestState → RequestState) (state sender : ℕ) (role : Role) (ports : List PortState)
    → AreDistinct (numbers_of ports)
    → with_places (λ p. with_pipe_of (λ q. with_lane g (with_state f q state) lane) p sender) ports (places_of role ports)
    ≡ with_lanes_on g (with_states_on f ports (state_ways sender state role ports)) (ways_from sender lane role ports)
states_and_lanes_in_places g lane f state sender role ports apart =
    walked (λ p. with_pipe_of (λ q. with_lane g (with_state f q state) lane) p sender) role ports
    ∙ mapped_alike role (λ p. with_pipe_of (λ q. with_lane g (with_state f q state) lane) p sender) (λ p. on_lanes (on_states p))
    (λ p. sym (pipe_twice (λ q. with_state f q state) (λ q. with_lane g q lane) (state_sender f state) sender p)) ports
    ∙ sym (mapped_twice role on_states on_lanes (same_role_of (λ q. with_state f q state) sender) ports)
    ∙ each_lane g sender lane role (map (if_role role on_states) ports)
    (subst (λ ns. AreDistinct ns) (sym (numbers_mapped role role on_states numbers roles ports)) apart)
    ∙ ap (λ ns. with_lanes_on g (map (if_role role on_states) ports) (map (way_from sender lane) ns)) (of_role_mapped role role on_states numbers roles ports)
    ∙ ap (λ qs. with_lanes_on g qs (ways_from sender lane role ports)) (each_state f sender state role ports apart)
  where
    on_states : PortState → PortState
    on_states p = with_state_from f p sender state

    on_lanes : PortState → PortState
    on_lanes p = with_lane_from g p sender lane

    numbers : (p : PortState) → (on_states p).number ≡ p.number
    numbers p = same_number_of (λ q. with_state f q state) sender p

    roles : (p : PortState) → (on_states p).role ≡ p.role
    roles p = same_role_of (λ q. with_state f q state) sender p
