-- What is so of each in a list, or of each lane, and what keeps it.
use Rattle.std.specs.Prelude.{◌≡◌, ℕ, zero, suc, Bool, true, false, if◌then◌else◌, ◌==◌, List, [], ◌∷◌, ◌++◌, Option, Some, None, slice_get, slice_set, refl}
use Rattle.std.specs.Option.{option_map_or}
use Rattle.std.proofs.Common.{ap, subst}
use Rattle.std.proofs.lemmas.Option.{none-some}
use Rattle.iox_model.specs.declared.way.Way.{Way}
use Rattle.iox_model.specs.Maps.{has_number}
use Rattle.iox_lanes.specs.Lanes.{LaneState}
use Rattle.iox_lanes.specs.Pipes.{PipeState, with_lane}
use Rattle.iox_tables.specs.HubStates.Tables.{PortState, first_by, with_first_by, pipe_from, pipes_of, port_in, senders_of}
use Rattle.iox_tables.specs.HubStates.Ways.{lane_on, lanes_from, with_lane_on, with_lanes_on, with_pipe_from, with_pipe_of, with_pipes}
use Rattle.iox_tables.specs.HubBooks.Counts.{OfAll, OfAllLanes}

pub all-append : {A : Type 0} (P : A → Type 0) (xs ys : List A) → OfAll P xs → OfAll P ys → OfAll P (xs ++ ys)
all-append P [] ys a b = b
all-append P (x ∷ xs) ys a b = (a.0, all-append P xs ys a.1 b)

pub all-front : {A : Type 0} (P : A → Type 0) (xs ys : List A) → OfAll P (xs ++ ys) → OfAll P xs
all-front P [] ys a = tt
all-front P (x ∷ xs) ys a = (a.0, all-front P xs ys a.1)

pub all-back : {A : Type 0} (P : A → Type 0) (xs ys : List A) → OfAll P (xs ++ ys) → OfAll P ys
all-back P [] ys a = a
all-back P (x ∷ xs) ys a = all-back P xs ys a.1

pub all_from : {A : Type 0} (P Q : A → Type 0) → ((x : A) → P x → Q x) → (xs : List A) → OfAll P xs → OfAll Q xs
all_from P Q from [] a = tt
all_from P Q from (x ∷ xs) a = (from x a.0, all_from P Q from xs a.1)

pub all_get : {A : Type 0} (P : A → Type 0) (xs : List A) (i : ℕ) (x : A) → OfAll P xs → slice_get xs i ≡ Some x → P x
all_get P [] i x a at = absurd (none-some x at)
all_get P (z ∷ zs) zero x a at = subst P (ap (λ o. option_map_or (λ y. y) o z) at) a.0
all_get P (z ∷ zs) (suc i) x a at = all_get P zs i x a.1 at

pub all_set : {A : Type 0} (P : A → Type 0) (xs : List A) (i : ℕ) (y : A) → OfAll P xs → P y → OfAll P (slice_set xs i y)
all_set P [] i y a b = tt
all_set P (z ∷ zs) zero y a b = (b, a.1)
all_set P (z ∷ zs) (suc i) y a b = (a.0, all_set P zs i y a.1 b)

pub all_first : {A : Type 0} (P : A → Type 0) (key : A → ℕ) (xs : List A) (n : ℕ) (x : A) → OfAll P xs → first_by key xs n ≡ Some x → P x
all_first P key [] n x a at = absurd (none-some x at)
all_first P key (z ∷ zs) n x a at = step (key z == n) (all_first P key zs n x a.1) at
  where
    step : (b : Bool) → (first_by key zs n ≡ Some x → P x) → (if b then Some z else first_by key zs n) ≡ Some x → P x
    step true rest is = subst P (ap (λ o. option_map_or (λ y. y) o z) is) a.0
    step false rest is = rest is

pub all_with_first : {A : Type 0} (P : A → Type 0) (key : A → ℕ) (g : A → A) (xs : List A) (n : ℕ) → ((x : A) → P x → P (g x)) → OfAll P xs
    → OfAll P (with_first_by key g xs n)
all_with_first P key g [] n keeps a = tt
all_with_first P key g (z ∷ zs) n keeps a = step (key z == n) (all_with_first P key g zs n keeps a.1)
  where
    step : (b : Bool) → OfAll P (with_first_by key g zs n) → OfAll P (if b then g z ∷ zs else z ∷ with_first_by key g zs n)
    step true rest = (keeps z a.0, a.1)
    step false rest = (a.0, rest)

-- ---- lanes

module _ (P : LaneState → Type 0) where
  abbrev pub OfPipe : PipeState → Type 0
  OfPipe q = OfAll P q.lanes

  abbrev pub OfPort : PortState → Type 0
  OfPort p = OfAll OfPipe (pipes_of p)

  pub pipe_keeps : (g : LaneState → LaneState) (q : PipeState) (i : ℕ) → ((l : LaneState) → P l → P (g l)) → OfPipe q → OfPipe (with_lane g q i)
  pipe_keeps g q i keeps a = step (slice_get q.lanes i) refl
    where
      step : (o : Option LaneState) → slice_get q.lanes i ≡ o → OfPipe (option_map_or (λ l. record q { lanes = slice_set q.lanes i (g l) }) o q)
      step (Some l) is = all_set P q.lanes i (g l) a (keeps l (all_get P q.lanes i l a is))
      step None is = a

  pub port_keeps : (h : PipeState → PipeState) (p : PortState) (s : ℕ) → ((q : PipeState) → OfPipe q → OfPipe (h q)) → OfPort p → OfPort (with_pipe_of h p s)
  port_keeps h p s keeps a = step (has_number s (senders_of p.expired.pipes))
    where
      step : (b : Bool)
          → OfPort (if b then record p { expired = with_pipes p.expired (with_pipe_from h p.expired.pipes s) } else record p { incoming = with_pipes p.incoming (with_pipe_from h p.incoming.pipes s) })
      step true =
          all-append OfPipe (with_pipe_from h p.expired.pipes s) p.incoming.pipes
          (all_with_first OfPipe (λ q. q.sender) h p.expired.pipes s keeps (all-front OfPipe p.expired.pipes p.incoming.pipes a))
          (all-back OfPipe p.expired.pipes p.incoming.pipes a)
      step false =
          all-append OfPipe p.expired.pipes (with_pipe_from h p.incoming.pipes s) (all-front OfPipe p.expired.pipes p.incoming.pipes a)
          (all_with_first OfPipe (λ q. q.sender) h p.incoming.pipes s keeps (all-back OfPipe p.expired.pipes p.incoming.pipes a))

  pub lane_keeps : (g : LaneState → LaneState) (ports : List PortState) (w : Way) → ((l : LaneState) → P l → P (g l)) → OfAllLanes P ports
      → OfAllLanes P (with_lane_on g ports w)
  lane_keeps g ports w keeps a =
      all_with_first OfPort (λ p. p.number) (λ p. with_pipe_of (λ q. with_lane g q w.lane) p w.sender) ports w.receiver
      (λ p b. port_keeps (λ q. with_lane g q w.lane) p w.sender (λ q c. pipe_keeps g q w.lane keeps c) b) a

  pub lanes_keep : (g : LaneState → LaneState) (ports : List PortState) (ws : List Way) → ((l : LaneState) → P l → P (g l)) → OfAllLanes P ports
      → OfAllLanes P (with_lanes_on g ports ws)
  lanes_keep g ports [] keeps a = a
  lanes_keep g ports (w ∷ ws) keeps a = lanes_keep g (with_lane_on g ports w) ws keeps (lane_keeps g ports w keeps a)

  -- what is so of all lanes is so of the lane of each way
  pub lane_is : (ports : List PortState) (w : Way) (l : LaneState) → OfAllLanes P ports → lane_on ports w ≡ Some l → P l
  lane_is ports w l a there = at_port (port_in ports w.receiver) refl there
    where
      at_pipe : (p : PortState) → OfPort p → (o : Option PipeState) → pipe_from (pipes_of p) w.sender ≡ o
          → slice_get (option_map_or (λ (q : PipeState). q.lanes) o []) w.lane ≡ Some l → P l
      at_pipe p b None pipe at = absurd (none-some l at)
      at_pipe p b (Some q) pipe at = all_get P q.lanes w.lane l (all_first OfPipe (λ x. x.sender) (pipes_of p) w.sender q b pipe) at

      at_port : (o : Option PortState) → port_in ports w.receiver ≡ o → slice_get (lanes_from (option_map_or pipes_of o []) w.sender) w.lane ≡ Some l → P l
      at_port None port at = absurd (none-some l at)
      at_port (Some p) port at = at_pipe p (all_first OfPort (λ x. x.number) ports w.receiver p a port) (pipe_from (pipes_of p) w.sender) refl at
