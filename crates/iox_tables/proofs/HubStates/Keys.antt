-- A change of one lane, or of one request state, changes what one way has, and nothing else.
use Rattle.std.specs.Prelude.{◌≡◌, ℕ, zero, suc, Bool, true, false, ◌&&◌, ◌||◌, if◌then◌else◌, ◌==◌, List, [], ◌∷◌, ◌++◌, map, Option, Some, None, is_some, slice_get, slice_set, refl}
use Rattle.std.specs.Option.{option_map, option_map_or}
use Rattle.std.proofs.Common.{sym, ap, ◌∙◌, true≢false, eqb-true, eq-eqb}
use Rattle.std.proofs.lemmas.Option.{none-some}
use Rattle.std.proofs.Math.Dec.{eqb-suc-suc}
use Rattle.iox_model.specs.declared.way.Way.{Way}
use Rattle.iox_model.specs.declared.way.RequestState.{RequestState}
use Rattle.iox_model.specs.Maps.{has_number, or_else, same_way}
use Rattle.iox_laws.proofs.WeaveLaws.MapLemmas.{eqb-refl, same_way-true}
use Rattle.iox_lanes.specs.Lanes.{LaneState}
use Rattle.iox_lanes.specs.Pipes.{PipeState, with_lane, with_state}
use Rattle.iox_tables.specs.HubStates.Tables.{PortState, first_by, with_first_by, port_in, pipe_from, pipes_of, pipes_to, senders_of}
use Rattle.iox_tables.specs.HubStates.Ways.{OnWays, lane_on, state_on, at, at_each, with_pipe_from, with_pipe_of, with_port, with_lane_on, with_state_on, with_lanes_on, with_states_on}

-- ---- the first of a number

pub flip : (a b : ℕ) → (a == b) ≡ (b == a)
flip a b = by_case (a == b) (b == a) refl refl
  where
    by_case : (c d : Bool) → (a == b) ≡ c → (b == a) ≡ d → c ≡ d
    by_case true true e h = refl
    by_case false false e h = refl
    by_case true false e h = absurd (true≢false (sym (eq-eqb b a (sym (eqb-true a b e))) ∙ h))
    by_case false true e h = absurd (true≢false (sym (eq-eqb a b (sym (eqb-true b a h))) ∙ e))

-- two that are one with a third are one
pub joined : (a b c : ℕ) → (a == b) ≡ true → (a == c) ≡ true → (c == b) ≡ true
joined a b c e h = eq-eqb c b (sym (eqb-true a c h) ∙ eqb-true a b e)

pub first_changed : {A : Type 0} (key : A → ℕ) (f : A → A) → ((x : A) → key (f x) ≡ key x) → (xs : List A) (s n : ℕ)
    → first_by key (with_first_by key f xs s) n ≡ (if n == s then option_map f (first_by key xs n) else first_by key xs n)
first_changed key f keeps [] s n = none (n == s)
  where
    none : (c : Bool) → None ≡ (if c then option_map f None else None)
    none true = refl
    none false = refl
first_changed key f keeps (x ∷ xs) s n = step (key x == s) (key x == n) (n == s) refl refl refl (first_changed key f keeps xs s n)
  where
    step : (a b c : Bool) → (key x == s) ≡ a → (key x == n) ≡ b → (n == s) ≡ c
        → first_by key (with_first_by key f xs s) n ≡ (if c then option_map f (first_by key xs n) else first_by key xs n)
        → first_by key (if a then f x ∷ xs else x ∷ with_first_by key f xs s) n
        ≡ (if c then option_map f (if b then Some x else first_by key xs n) else (if b then Some x else first_by key xs n))
    step true true true ea eb ec rest = ap (λ (b : Bool). if b then Some (f x) else first_by key xs n) (ap (λ k. k == n) (keeps x) ∙ eb)
    step true false false ea eb ec rest = ap (λ (b : Bool). if b then Some (f x) else first_by key xs n) (ap (λ k. k == n) (keeps x) ∙ eb)
    step false true false ea eb ec rest = ap (λ (b : Bool). if b then Some x else first_by key (with_first_by key f xs s) n) eb
    step false false c ea eb ec rest = ap (λ (b : Bool). if b then Some x else first_by key (with_first_by key f xs s) n) eb ∙ rest
    step true true false ea eb ec rest = absurd (true≢false (sym (joined (key x) s n ea eb) ∙ ec))
    step true false true ea eb ec rest =
        absurd (true≢false (sym (eq-eqb (key x) n (eqb-true (key x) s ea ∙ sym (eqb-true n s ec))) ∙ eb))
    step false true true ea eb ec rest =
        absurd (true≢false (sym (eq-eqb (key x) s (eqb-true (key x) n eb ∙ eqb-true n s ec)) ∙ ea))

pub same_mapped : {A B : Type 0} (key : A → ℕ) (f : A → A) (show : A → B) → ((x : A) → show (f x) ≡ show x) → (xs : List A) (n : ℕ)
    → map show (with_first_by key f xs n) ≡ map show xs
same_mapped key f show same [] n = refl
same_mapped key f show same (x ∷ xs) n = step (key x == n) (same_mapped key f show same xs n)
  where
    step : (b : Bool) → map show (with_first_by key f xs n) ≡ map show xs
        → map show (if b then f x ∷ xs else x ∷ with_first_by key f xs n) ≡ show x ∷ map show xs
    step true rest = ap (λ y. y ∷ map show xs) (same x)
    step false rest = ap (λ ys. show x ∷ ys) rest

-- behind others
pub first_append : {A : Type 0} (key : A → ℕ) (xs ys : List A) (n : ℕ) → first_by key (xs ++ ys) n ≡ or_else (first_by key xs n) (first_by key ys n)
first_append key [] ys n = refl
first_append key (x ∷ xs) ys n = step (key x == n) (first_append key xs ys n)
  where
    step : (b : Bool) → first_by key (xs ++ ys) n ≡ or_else (first_by key xs n) (first_by key ys n)
        → (if b then Some x else first_by key (xs ++ ys) n) ≡ or_else (if b then Some x else first_by key xs n) (first_by key ys n)
    step true rest = refl
    step false rest = rest

pub has_some : (ps : List PipeState) (n : ℕ) → has_number n (senders_of ps) ≡ is_some (pipe_from ps n)
has_some [] n = refl
has_some (p ∷ ps) n = step (p.sender == n) (has_some ps n)
  where
    step : (b : Bool) → has_number n (senders_of ps) ≡ is_some (pipe_from ps n)
        → (b || has_number n (senders_of ps)) ≡ is_some (if b then Some p else pipe_from ps n)
    step true rest = refl
    step false rest = rest

-- ---- one pipe of a port

module _ (h : PipeState → PipeState) (keeps : (q : PipeState) → (h q).sender ≡ q.sender) where
  pub pipe_changed : (p : PortState) (s n : ℕ)
      → pipe_from (pipes_of (with_pipe_of h p s)) n ≡ (if n == s then option_map h (pipe_from (pipes_of p) n) else pipe_from (pipes_of p) n)
  pipe_changed p s n =
      step (has_number s (senders_of es)) (n == s) refl refl
      ∙ ap (λ o. if n == s then option_map h o else o) (sym (first_append (λ q. q.sender) es is n))
    where
      es : List PipeState
      es = p.expired.pipes

      is : List PipeState
      is = p.incoming.pipes

      here : (c : Bool) (e i : Option PipeState) → (c ≡ true → is_some e ≡ true)
          → or_else (if c then option_map h e else e) i ≡ (if c then option_map h (or_else e i) else or_else e i)
      here true (Some q) i some = refl
      here true None i some = absurd (true≢false (sym (some refl)))
      here false e i some = refl

      behind : (c : Bool) (e i : Option PipeState) → (c ≡ true → is_some e ≡ false)
          → or_else e (if c then option_map h i else i) ≡ (if c then option_map h (or_else e i) else or_else e i)
      behind true (Some q) i none = absurd (true≢false (none refl))
      behind true None i none = refl
      behind false e i none = refl

      step : (b c : Bool) → has_number s (senders_of es) ≡ b → (n == s) ≡ c
          → pipe_from (pipes_of (if b then record p { expired = record (p.expired) { pipes = with_pipe_from h es s } } else record p { incoming = record (p.incoming) { pipes = with_pipe_from h is s } })) n
          ≡ (if c then option_map h (or_else (pipe_from es n) (pipe_from is n)) else or_else (pipe_from es n) (pipe_from is n))
      step true c eb ec =
          first_append (λ q. q.sender) (with_pipe_from h es s) is n
          ∙ ap (λ o. or_else o (pipe_from is n)) (first_changed (λ q. q.sender) h keeps es s n ∙ ap (λ (d : Bool). if d then option_map h (pipe_from es n) else pipe_from es n) ec)
          ∙ here c (pipe_from es n) (pipe_from is n)
          (λ is_true. ap (λ k. is_some (pipe_from es k)) (eqb-true n s (ec ∙ is_true)) ∙ sym (has_some es s) ∙ eb)
      step false c eb ec =
          first_append (λ q. q.sender) es (with_pipe_from h is s) n
          ∙ ap (λ o. or_else (pipe_from es n) o) (first_changed (λ q. q.sender) h keeps is s n ∙ ap (λ (d : Bool). if d then option_map h (pipe_from is n) else pipe_from is n) ec)
          ∙ behind c (pipe_from es n) (pipe_from is n)
          (λ is_true. ap (λ k. is_some (pipe_from es k)) (eqb-true n s (ec ∙ is_true)) ∙ sym (has_some es s) ∙ eb)

  -- whatever a port shows but for its pipes stays
  pub port_shows : {B : Type 0} (show : PortState → B) (p : PortState) (s : ℕ)
      → ((ps : List PipeState) → show (record p { expired = record (p.expired) { pipes = ps } }) ≡ show p)
      → ((ps : List PipeState) → show (record p { incoming = record (p.incoming) { pipes = ps } }) ≡ show p)
      → show (with_pipe_of h p s) ≡ show p
  port_shows show p s expired incoming = step (has_number s (senders_of p.expired.pipes))
    where
      step : (b : Bool) → show (if b then record p { expired = record (p.expired) { pipes = with_pipe_from h p.expired.pipes s } } else record p { incoming = record (p.incoming) { pipes = with_pipe_from h p.incoming.pipes s } }) ≡ show p
      step true = expired (with_pipe_from h p.expired.pipes s)
      step false = incoming (with_pipe_from h p.incoming.pipes s)

  pub same_number : (s : ℕ) (p : PortState) → (with_pipe_of h p s).number ≡ p.number
  same_number s p = port_shows (λ q. q.number) p s (λ ps. refl) (λ ps. refl)

  pub same_expired : (s : ℕ) (p : PortState) → senders_of (with_pipe_of h p s).expired.pipes ≡ senders_of p.expired.pipes
  same_expired s p = step (has_number s (senders_of p.expired.pipes))
    where
      step : (b : Bool) → senders_of (if b then record p { expired = record (p.expired) { pipes = with_pipe_from h p.expired.pipes s } } else record p { incoming = record (p.incoming) { pipes = with_pipe_from h p.incoming.pipes s } }).expired.pipes ≡ senders_of p.expired.pipes
      step true = same_mapped (λ q. q.sender) h (λ q. q.sender) keeps p.expired.pipes s
      step false = refl

  -- ---- one item of that pipe

  module _ {B : Type 0} (part : PipeState → List B) (g : B → B) (i : ℕ)
      (sets : (q : PipeState) (j : ℕ) → slice_get (part (h q)) j ≡ (if j == i then option_map g (slice_get (part q) j) else slice_get (part q) j)) where
    item_of : Option PipeState → ℕ → Option B
    item_of o j = slice_get (option_map_or part o []) j

    pub in_pipe : (o : Option PipeState) (a : Bool) (j : ℕ)
        → slice_get (option_map_or part (if a then option_map h o else o) []) j
        ≡ (if a then (if j == i then option_map g (slice_get (option_map_or part o []) j) else slice_get (option_map_or part o []) j) else slice_get (option_map_or part o []) j)
    in_pipe (Some q) true j = sets q j
    in_pipe (Some q) false j = refl
    in_pipe None true j = none (j == i)
      where
        none : (c : Bool) → None ≡ (if c then option_map g None else None)
        none true = refl
        none false = refl
    in_pipe None false j = refl

    in_port : (o : Option PortState) (b : Bool) (s k j : ℕ)
        → slice_get (option_map_or part (pipe_from (option_map_or pipes_of (if b then option_map (λ p. with_pipe_of h p s) o else o) []) k) []) j
        ≡ (if b && ((k == s) && (j == i)) then option_map g (slice_get (option_map_or part (pipe_from (option_map_or pipes_of o []) k) []) j) else slice_get (option_map_or part (pipe_from (option_map_or pipes_of o []) k) []) j)
    in_port (Some p) true s k j =
        ap (λ o. slice_get (option_map_or part o []) j) (pipe_changed p s k)
        ∙ in_pipe (pipe_from (pipes_of p) k) (k == s) j
        ∙ both (k == s) (j == i) (slice_get (option_map_or part (pipe_from (pipes_of p) k) []) j)
      where
        both : (a c : Bool) (x : Option B) → (if a then (if c then option_map g x else x) else x) ≡ (if a && c then option_map g x else x)
        both true c x = refl
        both false c x = refl
    in_port (Some p) false s k j = refl
    in_port None true s k j = none ((k == s) && (j == i))
      where
        none : (c : Bool) → None ≡ (if c then option_map g None else None)
        none true = refl
        none false = refl
    in_port None false s k j = refl

    pub in_ports : (ports : List PortState) (n s r k j : ℕ)
        → slice_get (option_map_or part (pipe_from (pipes_to (with_port (λ p. with_pipe_of h p s) ports n) r) k) []) j
        ≡ (if (r == n) && ((k == s) && (j == i)) then option_map g (slice_get (option_map_or part (pipe_from (pipes_to ports r) k) []) j) else slice_get (option_map_or part (pipe_from (pipes_to ports r) k) []) j)
    in_ports ports n s r k j =
        ap (λ o. slice_get (option_map_or part (pipe_from (option_map_or pipes_of o []) k) []) j)
        (first_changed (λ p. p.number) (λ p. with_pipe_of h p s) (same_number s) ports n r)
        ∙ in_port (port_in ports r) (r == n) s k j

-- ---- one item of a list

-- the index that is set, and any other
pub set_there : {A : Type 0} (xs : List A) (i : ℕ) (x y : A) → slice_get xs i ≡ Some x → slice_get (slice_set xs i y) i ≡ Some y
set_there [] i x y e = absurd (none-some x e)
set_there (z ∷ zs) zero x y e = refl
set_there (z ∷ zs) (suc i) x y e = set_there zs i x y e

pub set_else : {A : Type 0} (xs : List A) (i j : ℕ) (y : A) → (j == i) ≡ false → slice_get (slice_set xs i y) j ≡ slice_get xs j
set_else [] i j y e = refl
set_else (z ∷ zs) zero zero y e = absurd (true≢false (sym (eqb-refl 0) ∙ e))
set_else (z ∷ zs) zero (suc j) y e = refl
set_else (z ∷ zs) (suc i) zero y e = refl
set_else (z ∷ zs) (suc i) (suc j) y e = set_else zs i j y (sym (eqb-suc-suc j i) ∙ e)

set_at : {A : Type 0} (g : A → A) (xs : List A) (i j : ℕ) (x : A) → slice_get xs i ≡ Some x → (c : Bool) → (j == i) ≡ c
    → slice_get (slice_set xs i (g x)) j ≡ (if c then option_map g (slice_get xs j) else slice_get xs j)
set_at g xs i j x there true e =
    ap (slice_get (slice_set xs i (g x))) (eqb-true j i e) ∙ set_there xs i x (g x) there
    ∙ ap (option_map g) (sym (ap (slice_get xs) (eqb-true j i e) ∙ there))
set_at g xs i j x there false e = set_else xs i j (g x) e

not_there : {A : Type 0} (g : A → A) (xs : List A) (i j : ℕ) → slice_get xs i ≡ None → (c : Bool) → (j == i) ≡ c
    → slice_get xs j ≡ (if c then option_map g (slice_get xs j) else slice_get xs j)
not_there g xs i j none true e =
    let gone : slice_get xs j ≡ None = ap (slice_get xs) (eqb-true j i e) ∙ none in gone ∙ ap (option_map g) (sym gone)
not_there g xs i j none false e = refl

pub lane_sets : (g : LaneState → LaneState) (i : ℕ) (q : PipeState) (j : ℕ)
    → slice_get (with_lane g q i).lanes j ≡ (if j == i then option_map g (slice_get q.lanes j) else slice_get q.lanes j)
lane_sets g i q j = step (slice_get q.lanes i) refl
  where
    step : (o : Option LaneState) → slice_get q.lanes i ≡ o
        → slice_get (option_map_or (λ l. record q { lanes = slice_set q.lanes i (g l) }) o q).lanes j ≡ (if j == i then option_map g (slice_get q.lanes j) else slice_get q.lanes j)
    step (Some l) is = set_at g q.lanes i j l is (j == i) refl
    step None is = not_there g q.lanes i j is (j == i) refl

state_sets : (g : RequestState → RequestState) (i : ℕ) (q : PipeState) (j : ℕ)
    → slice_get (with_state g q i).states j ≡ (if j == i then option_map g (slice_get q.states j) else slice_get q.states j)
state_sets g i q j = step (slice_get q.states i) refl
  where
    step : (o : Option RequestState) → slice_get q.states i ≡ o
        → slice_get (option_map_or (λ s. record q { states = slice_set q.states i (g s) }) o q).states j ≡ (if j == i then option_map g (slice_get q.states j) else slice_get q.states j)
    step (Some s) is = set_at g q.states i j s is (j == i) refl
    step None is = not_there g q.states i j is (j == i) refl

-- whatever a pipe shows but for its lanes stays as a lane changes
lane_shows : {B : Type 0} (show : PipeState → B) (g : LaneState → LaneState) (q : PipeState) (i : ℕ)
    → ((ls : List LaneState) → show (record q { lanes = ls }) ≡ show q) → show (with_lane g q i) ≡ show q
lane_shows show g q i same = step (slice_get q.lanes i)
  where
    step : (o : Option LaneState) → show (option_map_or (λ l. record q { lanes = slice_set q.lanes i (g l) }) o q) ≡ show q
    step (Some l) = same (slice_set q.lanes i (g l))
    step None = refl

state_shows : {B : Type 0} (show : PipeState → B) (g : RequestState → RequestState) (q : PipeState) (i : ℕ)
    → ((ss : List RequestState) → show (record q { states = ss }) ≡ show q) → show (with_state g q i) ≡ show q
state_shows show g q i same = step (slice_get q.states i)
  where
    step : (o : Option RequestState) → show (option_map_or (λ s. record q { states = slice_set q.states i (g s) }) o q) ≡ show q
    step (Some s) = same (slice_set q.states i (g s))
    step None = refl

pub lane_sender : (g : LaneState → LaneState) (i : ℕ) (q : PipeState) → (with_lane g q i).sender ≡ q.sender
lane_sender g i q = lane_shows (λ p. p.sender) g q i (λ ls. refl)

pub state_sender : (g : RequestState → RequestState) (i : ℕ) (q : PipeState) → (with_state g q i).sender ≡ q.sender
state_sender g i q = state_shows (λ p. p.sender) g q i (λ ss. refl)

-- ---- ways

-- the value at each way after a change of one
pub at_is : {A : Type 0} (g : A → A) (on : OnWays A) (w v : Way) → at g on w v ≡ (if same_way v w then option_map g (on v) else on v)
at_is g on w v = step (same_way v w) refl
  where
    step : (b : Bool) → same_way v w ≡ b → (if b then option_map g (on w) else on v) ≡ (if b then option_map g (on v) else on v)
    step true e = ap (λ u. option_map g (on u)) (sym (same_way-true v w e))
    step false e = refl

pub reorder : {A : Type 0} (a b c : Bool) (x y : A) → (if b && (a && c) then x else y) ≡ (if a && (b && c) then x else y)
reorder true true c x y = refl
reorder true false c x y = refl
reorder false true c x y = refl
reorder false false c x y = refl

-- where the lane of one way changes, just that way has another lane
pub lane_turned : (g : LaneState → LaneState) (ports : List PortState) (w : Way) → lane_on (with_lane_on g ports w) ≡ at g (lane_on ports) w
lane_turned g ports w = λ i v. (
    in_ports (λ q. with_lane g q w.lane) (lane_sender g w.lane) (λ q. q.lanes) g w.lane (lane_sets g w.lane) ports w.receiver w.sender v.receiver v.sender v.lane
    ∙ reorder (v.sender == w.sender) (v.receiver == w.receiver) (v.lane == w.lane) (option_map g (lane_on ports v)) (lane_on ports v)
    ∙ sym (at_is g (lane_on ports) w v)) i

-- where one request state changes, just that way has another
pub state_turned : (g : RequestState → RequestState) (ports : List PortState) (w : Way) → state_on (with_state_on g ports w) ≡ at g (state_on ports) w
state_turned g ports w = λ i v. (
    in_ports (λ q. with_state g q w.lane) (state_sender g w.lane) (λ q. q.states) g w.lane (state_sets g w.lane) ports w.sender w.receiver v.sender v.receiver v.lane
    ∙ sym (at_is g (state_on ports) w v)) i

-- ---- and what does not change

same_if : {A : Type 0} (b : Bool) (o : Option A) → o ≡ (if b then option_map (λ x. x) o else o)
same_if true (Some x) = refl
same_if true None = refl
same_if false o = refl

-- lanes do not change request states
pub states_stay : (g : LaneState → LaneState) (ports : List PortState) (w : Way) → state_on (with_lane_on g ports w) ≡ state_on ports
states_stay g ports w = λ i v. (
    in_ports (λ q. with_lane g q w.lane) (lane_sender g w.lane) (λ q. q.states) (λ s. s) w.lane
    (λ q j. ap (λ ss. slice_get ss j) (lane_shows (λ p. p.states) g q w.lane (λ ls. refl)) ∙ same_if (j == w.lane) (slice_get q.states j))
    ports w.receiver w.sender v.sender v.receiver v.lane
    ∙ sym (same_if _ (state_on ports v))) i

-- nor the other way round
pub lanes_stay : (g : RequestState → RequestState) (ports : List PortState) (w : Way) → lane_on (with_state_on g ports w) ≡ lane_on ports
lanes_stay g ports w = λ i v. (
    in_ports (λ q. with_state g q w.lane) (state_sender g w.lane) (λ q. q.lanes) (λ l. l) w.lane
    (λ q j. ap (λ ls. slice_get ls j) (state_shows (λ p. p.lanes) g q w.lane (λ ss. refl)) ∙ same_if (j == w.lane) (slice_get q.lanes j))
    ports w.sender w.receiver v.receiver v.sender v.lane
    ∙ sym (same_if _ (lane_on ports v))) i

-- ---- changes of several ways

pub lanes_turned : (g : LaneState → LaneState) (ports : List PortState) (ws : List Way) → lane_on (with_lanes_on g ports ws) ≡ at_each g (lane_on ports) ws
lanes_turned g ports [] = refl
lanes_turned g ports (w ∷ ws) = lanes_turned g (with_lane_on g ports w) ws ∙ ap (λ on. at_each g on ws) (lane_turned g ports w)

pub states_turned : (g : RequestState → RequestState) (ports : List PortState) (ws : List Way) → state_on (with_states_on g ports ws) ≡ at_each g (state_on ports) ws
states_turned g ports [] = refl
states_turned g ports (w ∷ ws) = states_turned g (with_state_on g ports w) ws ∙ ap (λ on. at_each g on ws) (state_turned g ports w)

pub all_states_stay : (g : LaneState → LaneState) (ports : List PortState) (ws : List Way) → state_on (with_lanes_on g ports ws) ≡ state_on ports
all_states_stay g ports [] = refl
all_states_stay g ports (w ∷ ws) = all_states_stay g (with_lane_on g ports w) ws ∙ states_stay g ports w

pub all_lanes_stay : (g : RequestState → RequestState) (ports : List PortState) (ws : List Way) → lane_on (with_states_on g ports ws) ≡ lane_on ports
all_lanes_stay g ports [] = refl
all_lanes_stay g ports (w ∷ ws) = all_lanes_stay g (with_state_on g ports w) ws ∙ lanes_stay g ports w
