-- The handle of a loan that was just made, and ports of which one counts a loan more.
use Rattle.std.specs.Prelude.{◌≡◌, ℕ, ◌<◌, Bool, true, false, not, ◌&&◌, ◌||◌, if◌then◌else◌, ◌==◌, List, [], ◌∷◌, ◌++◌, map, Some, None, refl}
use Rattle.std.proofs.Common.{sym, ap, ap₂, ◌∙◌, arith, true≢false, eq-eqb}
use Rattle.iox_model.specs.declared.way.RequestState.{RequestState}
use Rattle.iox_model.specs.declared.way.Way.{Way}
use Rattle.iox_model.specs.Maps.{has_number}
use Rattle.iox_lanes.specs.Lanes.{LaneState}
use Rattle.iox_lanes.specs.Pipes.{PipeState, with_lane, with_state}
use Rattle.iox_tables.specs.HubStates.Tables.{HandleState, HubTables, PortState, numbers_of, port_in, senders_of, with_first_by}
use Rattle.iox_tables.specs.HubStates.Ways.{with_lane_on, with_lanes_on, with_pipe_from, with_pipe_of, with_pipes, with_port, with_state_on, with_states_on}
use Rattle.iox_tables.specs.HubStates.Ends.{changed_handles, dropped_handles}
use Rattle.iox_tables.specs.HubStates.Wirings.{handle_in}
use Rattle.iox_tables.proofs.HubStates.Emptied.{has-append}
use Rattle.iox_tables.proofs.HubStates.Keys.{lane_sender, same_number, state_sender}
use Rattle.iox_tables.specs.HubBooks.Hubs.{AreInOrder, numbers_in}
use Rattle.iox_tables.proofs.HubLending.OneMore.{one_loan}
use Rattle.std.proofs.lemmas.Bool.{or_parts}

-- ---- numbers

-- the next number is of no port and of no handle
pub next_is_new : (t : HubTables) → AreInOrder t
    → (has_number t.next_number (numbers_of t.ports) ≡ false) × (has_number t.next_number (map (λ h. h.number) t.handles) ≡ false)
next_is_new t order =
    or_parts _ _
    (sym (has-append t.next_number (numbers_of t.ports) (map (λ h. h.number) t.handles)) ∙ step (has_number t.next_number (numbers_in t)) refl)
  where
    step : (b : Bool) → has_number t.next_number (numbers_in t) ≡ b → has_number t.next_number (numbers_in t) ≡ false
    step false e = e
    step true e = let low = order.numbers.below t.next_number e in absurd (never t.next_number low)
      where
        never : (n : ℕ) → n < n → ⊥
        never n less = omega (arith, less)

pub no_port : (ports : List PortState) (n : ℕ) → has_number n (numbers_of ports) ≡ false → port_in ports n ≡ None
no_port [] n none = refl
no_port (p ∷ ps) n none = step (p.number == n) none (no_port ps n)
  where
    step : (b : Bool) → (b || has_number n (numbers_of ps)) ≡ false → (has_number n (numbers_of ps) ≡ false → port_in ps n ≡ None) → (if b then Some p else port_in ps n) ≡ None
    step true e rest = absurd (true≢false e)
    step false e rest = rest e

-- ---- the last handle, whose number is new

module _ (node n : ℕ) (h : HandleState) (on : h.node ≡ node) (is : h.number ≡ n) where
  its_own : ((h.node == node) && (h.number == n)) ≡ true
  its_own = ap₂ (λ a b. a && b) (eq-eqb h.node node on) (eq-eqb h.number n is)

  pub last_found : (hs : List HandleState) → has_number n (map (λ k. k.number) hs) ≡ false → handle_in (hs ++ h ∷ []) node n ≡ Some h
  last_found [] none = ap (λ (b : Bool). if b then Some h else None) its_own
  last_found (k ∷ ks) none = step (k.node == node) (k.number == n) none (last_found ks)
    where
      step : (a b : Bool) → (b || has_number n (map (λ k. k.number) ks)) ≡ false → (has_number n (map (λ k. k.number) ks) ≡ false → handle_in (ks ++ h ∷ []) node n ≡ Some h)
          → (if a && b then Some k else handle_in (ks ++ h ∷ []) node n) ≡ Some h
      step a true e rest = absurd (true≢false e)
      step true false e rest = rest e
      step false false e rest = rest e

  pub last_dropped : (hs : List HandleState) → has_number n (map (λ k. k.number) hs) ≡ false → dropped_handles node n (hs ++ h ∷ []) ≡ hs
  last_dropped [] none = ap (λ (b : Bool). if not b then h ∷ [] else []) its_own
  last_dropped (k ∷ ks) none = step (k.node == node) (k.number == n) none (last_dropped ks)
    where
      step : (a b : Bool) → (b || has_number n (map (λ k. k.number) ks)) ≡ false → (has_number n (map (λ k. k.number) ks) ≡ false → dropped_handles node n (ks ++ h ∷ []) ≡ ks)
          → (if not (a && b) then k ∷ dropped_handles node n (ks ++ h ∷ []) else dropped_handles node n (ks ++ h ∷ [])) ≡ k ∷ ks
      step a true e rest = absurd (true≢false e)
      step true false e rest = ap (λ m. k ∷ m) (rest e)
      step false false e rest = ap (λ m. k ∷ m) (rest e)

pub last_changed : (new h : HandleState) → h.node ≡ new.node → h.number ≡ new.number → (hs : List HandleState) → has_number new.number (map (λ k. k.number) hs) ≡ false
    → changed_handles new (hs ++ h ∷ []) ≡ hs ++ new ∷ []
last_changed new h on is [] none = ap (λ (b : Bool). if b then new ∷ [] else h ∷ []) (its_own new.node new.number h on is)
last_changed new h on is (k ∷ ks) none = step (k.node == new.node) (k.number == new.number) none (last_changed new h on is ks)
  where
    step : (a b : Bool) → (b || has_number new.number (map (λ k. k.number) ks)) ≡ false
        → (has_number new.number (map (λ k. k.number) ks) ≡ false → changed_handles new (ks ++ h ∷ []) ≡ ks ++ new ∷ [])
        → (if a && b then new ∷ (ks ++ h ∷ []) else k ∷ changed_handles new (ks ++ h ∷ [])) ≡ k ∷ (ks ++ new ∷ [])
    step a true e rest = absurd (true≢false e)
    step true false e rest = ap (λ m. k ∷ m) (rest e)
    step false false e rest = ap (λ m. k ∷ m) (rest e)

-- ---- changes of the first of a number, in any order

module _ {A : Type 0} (key : A → ℕ) where
  first_two : (f g : A → A) → ((x : A) → key (g x) ≡ key x) → (z : A) (zs : List A) (m n : ℕ)
      → with_first_by key f (with_first_by key g (z ∷ zs) m) n
      ≡ (if key z == n then (if key z == m then f (g z) ∷ zs else f z ∷ with_first_by key g zs m)
      else (if key z == m then g z ∷ with_first_by key f zs n else z ∷ with_first_by key f (with_first_by key g zs m) n))
  first_two f g keeps z zs m n = step (key z == m)
    where
      step : (a : Bool) → with_first_by key f (if a then g z ∷ zs else z ∷ with_first_by key g zs m) n
          ≡ (if key z == n then (if a then f (g z) ∷ zs else f z ∷ with_first_by key g zs m)
          else (if a then g z ∷ with_first_by key f zs n else z ∷ with_first_by key f (with_first_by key g zs m) n))
      step true = ap (λ i. if i == n then f (g z) ∷ zs else g z ∷ with_first_by key f zs n) (keeps z)
      step false = refl

  swapped : (f g : A → A) → ((x : A) → key (f x) ≡ key x) → ((x : A) → key (g x) ≡ key x) → ((x : A) → f (g x) ≡ g (f x)) → (xs : List A) (m n : ℕ)
      → with_first_by key f (with_first_by key g xs m) n ≡ with_first_by key g (with_first_by key f xs n) m
  swapped f g fk gk both [] m n = refl
  swapped f g fk gk both (z ∷ zs) m n =
      first_two f g gk z zs m n ∙ step (key z == m) (key z == n) (swapped f g fk gk both zs m n) ∙ sym (first_two g f fk z zs n m)
    where
      step : (a b : Bool) → with_first_by key f (with_first_by key g zs m) n ≡ with_first_by key g (with_first_by key f zs n) m
          → (if b then (if a then f (g z) ∷ zs else f z ∷ with_first_by key g zs m) else (if a then g z ∷ with_first_by key f zs n else z ∷ with_first_by key f (with_first_by key g zs m) n))
          ≡ (if a then (if b then g (f z) ∷ zs else g z ∷ with_first_by key f zs n) else (if b then f z ∷ with_first_by key g zs m else z ∷ with_first_by key g (with_first_by key f zs n) m))
      step true true rest = ap (λ y. y ∷ zs) (both z)
      step true false rest = refl
      step false true rest = refl
      step false false rest = ap (λ ys. z ∷ ys) rest

-- ---- a loan is counted before or after messages move

counted_or : (h : PipeState → PipeState) (p : PortState) (s : ℕ) → one_loan (with_pipe_of h p s) ≡ with_pipe_of h (one_loan p) s
counted_or h p s = step (has_number s (senders_of p.expired.pipes))
  where
    step : (b : Bool)
        → one_loan (if b then record p { expired = with_pipes p.expired (with_pipe_from h p.expired.pipes s) } else record p { incoming = with_pipes p.incoming (with_pipe_from h p.incoming.pipes s) })
        ≡ (if b then record (one_loan p) { expired = with_pipes p.expired (with_pipe_from h p.expired.pipes s) } else record (one_loan p) { incoming = with_pipes p.incoming (with_pipe_from h p.incoming.pipes s) })
    step true = refl
    step false = refl

pub loan_after : (g : LaneState → LaneState) (ports : List PortState) (ws : List Way) (n : ℕ) → with_lanes_on g (with_port one_loan ports n) ws ≡ with_port one_loan (with_lanes_on g ports ws) n
loan_after g ports [] n = refl
loan_after g ports (w ∷ ws) n = ap (λ ps. with_lanes_on g ps ws) (sym one) ∙ loan_after g (with_lane_on g ports w) ws n
  where
    one : with_port one_loan (with_lane_on g ports w) n ≡ with_lane_on g (with_port one_loan ports n) w
    one =
        swapped (λ (p : PortState). p.number) one_loan (λ p. with_pipe_of (λ q. with_lane g q w.lane) p w.sender) (λ p. refl)
        (λ p. same_number (λ q. with_lane g q w.lane) (lane_sender g w.lane) w.sender p) (λ p. counted_or (λ q. with_lane g q w.lane) p w.sender) ports w.receiver n

-- or before or after request states change
pub loan_after_states : (g : RequestState → RequestState) (ports : List PortState) (ws : List Way) (n : ℕ) → with_states_on g (with_port one_loan ports n) ws ≡ with_port one_loan (with_states_on g ports ws) n
loan_after_states g ports [] n = refl
loan_after_states g ports (w ∷ ws) n = ap (λ ps. with_states_on g ps ws) (sym one) ∙ loan_after_states g (with_state_on g ports w) ws n
  where
    one : with_port one_loan (with_state_on g ports w) n ≡ with_state_on g (with_port one_loan ports n) w
    one =
        swapped (λ (p : PortState). p.number) one_loan (λ p. with_pipe_of (λ q. with_state g q w.lane) p w.receiver) (λ p. refl)
        (λ p. same_number (λ q. with_state g q w.lane) (state_sender g w.lane) w.receiver p) (λ p. counted_or (λ q. with_state g q w.lane) p w.receiver) ports w.sender n
