-- What ends of calls do to handles, counts and slots.
use Rattle.std.specs.Prelude.{◌≡◌, ℕ, ◌+◌, Bool, true, false, not, ◌&&◌, if◌then◌else◌, ◌==◌, List, [], ◌∷◌, map, filter, Option, Some, None, is_some, refl}
use Rattle.std.specs.Option.{option_map, option_map_or}
use Rattle.std.proofs.Common.{sym, ap, ap₂, ◌∙◌, true≢false, eqb-true}
use Rattle.iox_model.specs.Counts.{with_fixed, with_handle, without_handle}
use Rattle.iox_model.specs.Maps.{put_at}
use Rattle.iox_model.specs.States as m
use Rattle.iox_tables.specs.HubStates.Tables.{HandleState, PortState, port_in, pipes_of, senders_of}
use Rattle.iox_tables.specs.HubStates.Ways.{lane_by, lane_on, state_by, state_on, with_port}
use Rattle.iox_tables.specs.HubStates.Shown.{MessagesByPlace, borrowed_in, shown}
use Rattle.iox_tables.specs.HubStates.States.{Given, fixed_of, handle_of, handles_in, limits_of, loans_in, message_of, port_of, state_shown}
use Rattle.iox_tables.specs.HubStates.Steps.{is_there}
use Rattle.iox_tables.specs.HubStates.Ends.{EachCountIsShown, EachHandleIsShown, FreeSlotsMayChange, OfEachHandle, ShowsSame, changed_handles, dropped_handles}
use Rattle.iox_tables.proofs.HubStates.Fixing.{handle_added}
use Rattle.iox_tables.proofs.HubStates.Frames.{others_may_change}
use Rattle.iox_tables.proofs.HubStates.Keys.{first_changed, flip, same_mapped}

-- ---- handles

module _ (x : Given) (message : MessagesByPlace) where
  abbrev H : HandleState → m.Handle
  H h = handle_of x message h

  abbrev of_node : ℕ → List HandleState → List HandleState
  of_node nd hs = filter (λ h. h.node == nd) hs

  -- what is one node's is no other's
  same_node : (k nd node : ℕ) → (nd == node) ≡ true → (k == nd) ≡ (k == node)
  same_node k nd node e = ap (λ (j : ℕ). k == j) (eqb-true nd node e)

  other_node : (k nd node : ℕ) → (nd == node) ≡ false → (k == nd) ≡ true → (k == node) ≡ true → ⊥
  other_node k nd node e a d = true≢false (sym (ap (λ (j : ℕ). j == node) (sym (eqb-true k nd a)) ∙ d) ∙ e)

  dropped_at : (node n : ℕ) (hs : List HandleState) (nd : ℕ) (c : Bool) → (nd == node) ≡ c
      → handles_in x message (dropped_handles node n hs) nd
      ≡ (if c then filter (λ (k : m.Handle). not (k.number == n)) (handles_in x message hs nd) else handles_in x message hs nd)
  dropped_at node n [] nd true e = refl
  dropped_at node n [] nd false e = refl
  dropped_at node n (k ∷ ks) nd c e =
      step (k.node == nd) (k.node == node) (k.number == n) c refl refl refl
      (λ is. same_node k.node nd node (e ∙ is)) (λ is a d. other_node k.node nd node (e ∙ is) a d) (dropped_at node n ks nd c e)
    where
      step : (a d b c : Bool) → (k.node == nd) ≡ a → (k.node == node) ≡ d → (k.number == n) ≡ b
          → (c ≡ true → (k.node == nd) ≡ (k.node == node)) → (c ≡ false → (k.node == nd) ≡ true → (k.node == node) ≡ true → ⊥)
          → handles_in x message (dropped_handles node n ks) nd
          ≡ (if c then filter (λ (k : m.Handle). not (k.number == n)) (handles_in x message ks nd) else handles_in x message ks nd)
          → handles_in x message (if not (d && b) then k ∷ dropped_handles node n ks else dropped_handles node n ks) nd
          ≡ (if c then filter (λ (k : m.Handle). not (k.number == n)) (map H (if a then k ∷ of_node nd ks else of_node nd ks)) else map H (if a then k ∷ of_node nd ks else of_node nd ks))
      step true true true true ea ed eb same other ih =
          ih ∙ sym (ap (λ (b : Bool). if not b then H k ∷ filter (λ (k : m.Handle). not (k.number == n)) (handles_in x message ks nd) else filter (λ (k : m.Handle). not (k.number == n)) (handles_in x message ks nd)) eb)
      step true true false true ea ed eb same other ih =
          ap (λ (a : Bool). map H (if a then k ∷ of_node nd (dropped_handles node n ks) else of_node nd (dropped_handles node n ks))) ea
          ∙ ap (λ zs. H k ∷ zs) ih
          ∙ sym (ap (λ (b : Bool). if not b then H k ∷ filter (λ (k : m.Handle). not (k.number == n)) (handles_in x message ks nd) else filter (λ (k : m.Handle). not (k.number == n)) (handles_in x message ks nd)) eb)
      step false false b true ea ed eb same other ih =
          ap (λ (a : Bool). map H (if a then k ∷ of_node nd (dropped_handles node n ks) else of_node nd (dropped_handles node n ks))) ea ∙ ih
      step false true true false ea ed eb same other ih = ih
      step false true false false ea ed eb same other ih =
          ap (λ (a : Bool). map H (if a then k ∷ of_node nd (dropped_handles node n ks) else of_node nd (dropped_handles node n ks))) ea ∙ ih
      step false false b false ea ed eb same other ih =
          ap (λ (a : Bool). map H (if a then k ∷ of_node nd (dropped_handles node n ks) else of_node nd (dropped_handles node n ks))) ea ∙ ih
      step true false b false ea ed eb same other ih =
          ap (λ (a : Bool). map H (if a then k ∷ of_node nd (dropped_handles node n ks) else of_node nd (dropped_handles node n ks))) ea ∙ ap (λ zs. H k ∷ zs) ih
      step true true b false ea ed eb same other ih = absurd (other refl ea ed)
      step true false b true ea ed eb same other ih = absurd (true≢false (sym ea ∙ same refl ∙ ed))
      step false true b true ea ed eb same other ih = absurd (true≢false (sym ed ∙ sym (same refl) ∙ ea))

  changed_at : (h : HandleState) (hs : List HandleState) (nd : ℕ) (c : Bool) → (nd == h.node) ≡ c
      → handles_in x message (changed_handles h hs) nd ≡ (if c then with_handle (H h) (handles_in x message hs nd) else handles_in x message hs nd)
  changed_at h [] nd true e = refl
  changed_at h [] nd false e = refl
  changed_at h (k ∷ ks) nd c e =
      step (k.node == nd) (k.node == h.node) (k.number == h.number) c refl refl refl (flip h.node nd ∙ e)
      (λ is. same_node k.node nd h.node (e ∙ is)) (λ is a d. other_node k.node nd h.node (e ∙ is) a d) (changed_at h ks nd c e)
    where
      step : (a d b c : Bool) → (k.node == nd) ≡ a → (k.node == h.node) ≡ d → (k.number == h.number) ≡ b → (h.node == nd) ≡ c
          → (c ≡ true → (k.node == nd) ≡ (k.node == h.node)) → (c ≡ false → (k.node == nd) ≡ true → (k.node == h.node) ≡ true → ⊥)
          → handles_in x message (changed_handles h ks) nd ≡ (if c then with_handle (H h) (handles_in x message ks nd) else handles_in x message ks nd)
          → handles_in x message (if d && b then h ∷ ks else k ∷ changed_handles h ks) nd
          ≡ (if c then with_handle (H h) (map H (if a then k ∷ of_node nd ks else of_node nd ks)) else map H (if a then k ∷ of_node nd ks else of_node nd ks))
      step true true true true ea ed eb eh same other ih =
          ap (λ (a : Bool). map H (if a then h ∷ of_node nd ks else of_node nd ks)) eh
          ∙ sym (ap (λ (b : Bool). if b then H h ∷ handles_in x message ks nd else H k ∷ with_handle (H h) (handles_in x message ks nd)) eb)
      step true true false true ea ed eb eh same other ih =
          ap (λ (a : Bool). map H (if a then k ∷ of_node nd (changed_handles h ks) else of_node nd (changed_handles h ks))) ea
          ∙ ap (λ zs. H k ∷ zs) ih
          ∙ sym (ap (λ (b : Bool). if b then H h ∷ handles_in x message ks nd else H k ∷ with_handle (H h) (handles_in x message ks nd)) eb)
      step false false b true ea ed eb eh same other ih =
          ap (λ (a : Bool). map H (if a then k ∷ of_node nd (changed_handles h ks) else of_node nd (changed_handles h ks))) ea ∙ ih
      step false true true false ea ed eb eh same other ih = ap (λ (a : Bool). map H (if a then h ∷ of_node nd ks else of_node nd ks)) eh
      step false true false false ea ed eb eh same other ih =
          ap (λ (a : Bool). map H (if a then k ∷ of_node nd (changed_handles h ks) else of_node nd (changed_handles h ks))) ea ∙ ih
      step false false b false ea ed eb eh same other ih =
          ap (λ (a : Bool). map H (if a then k ∷ of_node nd (changed_handles h ks) else of_node nd (changed_handles h ks))) ea ∙ ih
      step true false b false ea ed eb eh same other ih =
          ap (λ (a : Bool). map H (if a then k ∷ of_node nd (changed_handles h ks) else of_node nd (changed_handles h ks))) ea ∙ ap (λ zs. H k ∷ zs) ih
      step true true b false ea ed eb eh same other ih = absurd (other refl ea ed)
      step true false b true ea ed eb eh same other ih = absurd (true≢false (sym ea ∙ same refl ∙ ed))
      step false true b true ea ed eb eh same other ih = absurd (true≢false (sym ed ∙ sym (same refl) ∙ ea))

pub handles_dropped : (x : Given) (message : MessagesByPlace) (h : HandleState) (hs : List HandleState)
    → handles_in x message (dropped_handles h.node h.number hs)
    ≡ put_at (handles_in x message hs) h.node (without_handle (handle_of x message h) (handles_in x message hs h.node))
handles_dropped x message h hs = λ i nd. (dropped_at x message h.node h.number hs nd (nd == h.node) refl ∙ step nd (nd == h.node) refl) i
  where
    step : (nd : ℕ) (c : Bool) → (nd == h.node) ≡ c
        → (if c then filter (λ (k : m.Handle). not (k.number == h.number)) (handles_in x message hs nd) else handles_in x message hs nd)
        ≡ (if c then filter (λ (k : m.Handle). not (k.number == h.number)) (handles_in x message hs h.node) else handles_in x message hs nd)
    step nd true e = ap (λ j. filter (λ (k : m.Handle). not (k.number == h.number)) (handles_in x message hs j)) (eqb-true nd h.node e)
    step nd false e = refl

pub handles_changed : (x : Given) (message : MessagesByPlace) (h : HandleState) (hs : List HandleState)
    → handles_in x message (changed_handles h hs)
    ≡ put_at (handles_in x message hs) h.node (with_handle (handle_of x message h) (handles_in x message hs h.node))
handles_changed x message h hs = λ i nd. (changed_at x message h hs nd (nd == h.node) refl ∙ step nd (nd == h.node) refl) i
  where
    step : (nd : ℕ) (c : Bool) → (nd == h.node) ≡ c
        → (if c then with_handle (handle_of x message h) (handles_in x message hs nd) else handles_in x message hs nd)
        ≡ (if c then with_handle (handle_of x message h) (handles_in x message hs h.node) else handles_in x message hs nd)
    step nd true e = ap (λ j. with_handle (handle_of x message h) (handles_in x message hs j)) (eqb-true nd h.node e)
    step nd false e = refl

pub each_handle_is_shown : EachHandleIsShown
each_handle_is_shown x t h =
    let s : m.State = state_shown x t in
    let f : m.Fixed = fixed_of x t in
    let message : MessagesByPlace = message_of x t.pools in record {
      adds = λ i. with_fixed s (record f { handles = sym (handle_added x message h t.handles) i; next_number = t.next_number + 1 });
      changes = λ i. with_fixed s (record f { handles = sym (handles_changed x message h t.handles) i });
      drops = λ i. with_fixed s (record f { handles = sym (handles_dropped x message h t.handles) i });
    }

-- ---- counts

abbrev one_more : PortState → PortState
one_more p = record p { loans = p.loans + 1 }

more_loans : (ports : List PortState) (n k : ℕ) → is_there ports n ≡ true
    → loans_in (with_port one_more ports n) k ≡ put_at (loans_in ports) n (loans_in ports n + 1) k
more_loans ports n k there =
    ap (λ o. option_map_or (λ p. p.loans) o 0) (first_changed (λ p. p.number) one_more (λ p. refl) ports n k)
    ∙ step (k == n) refl
  where
    some : (o : Option PortState) → is_some o ≡ true → option_map_or (λ p. p.loans) (option_map one_more o) 0 ≡ option_map_or (λ p. p.loans) o 0 + 1
    some (Some p) e = refl
    some None e = absurd (true≢false (sym e))

    step : (b : Bool) → (k == n) ≡ b
        → option_map_or (λ p. p.loans) (if b then option_map one_more (port_in ports k) else port_in ports k) 0
        ≡ (if b then loans_in ports n + 1 else loans_in ports k)
    step true e = ap (λ j. option_map_or (λ p. p.loans) (option_map one_more (port_in ports j)) 0) (eqb-true k n e) ∙ some (port_in ports n) there
    step false e = refl

-- whatever a port shows but for its loans stays
pub not_loans : {B : Type 0} (show : PortState → B) (none : B) → ((p : PortState) → show (one_more p) ≡ show p) → (ports : List PortState) (n k : ℕ)
    → option_map_or show (port_in (with_port one_more ports n) k) none ≡ option_map_or show (port_in ports k) none
not_loans show none same ports n k =
    ap (λ o. option_map_or show o none) (first_changed (λ p. p.number) one_more (λ p. refl) ports n k) ∙ step (k == n) (port_in ports k)
  where
    step : (b : Bool) (o : Option PortState) → option_map_or show (if b then option_map one_more o else o) none ≡ option_map_or show o none
    step true (Some p) = same p
    step true None = refl
    step false o = refl

pub each_count_is_shown : EachCountIsShown
each_count_is_shown x t n = record {
  calls = refl;
  loans = λ there. sym (λ i. shown x.members (record (fixed_of x t) {
    ports = same_mapped (λ p. p.number) one_more (port_of x) (λ p. refl) t.ports n i;
    loans = λ k. more_loans t.ports n k there i;
    borrowed = borrowed_in (lane_by (λ k. not_loans pipes_of [] (λ p. refl) t.ports n k i));
    expired = λ k. not_loans (λ p. senders_of p.expired.pipes) [] (λ p. refl) t.ports n k i;
  }) (message_of x t.pools) (lane_by (λ k. not_loans pipes_of [] (λ p. refl) t.ports n k i)) (state_by (λ k. not_loans pipes_of [] (λ p. refl) t.ports n k i)));
}

-- ---- slots

same_handles : (x : Given) (old : MessagesByPlace) (x' : Given) (new : MessagesByPlace) (hs : List HandleState) (nd : ℕ) → OfEachHandle (ShowsSame x old x' new) hs
    → handles_in x old hs nd ≡ handles_in x' new hs nd
same_handles x old x' new [] nd same = refl
same_handles x old x' new (k ∷ ks) nd same = step (k.node == nd) (same_handles x old x' new ks nd same.1)
  where
    step : (b : Bool) → handles_in x old ks nd ≡ handles_in x' new ks nd
        → map (handle_of x old) (if b then k ∷ filter (λ h. h.node == nd) ks else filter (λ h. h.node == nd) ks)
        ≡ map (handle_of x' new) (if b then k ∷ filter (λ h. h.node == nd) ks else filter (λ h. h.node == nd) ks)
    step true e = ap₂ (λ z zs. z ∷ zs) same.0 e
    step false e = e

pub free_slots_may_change : FreeSlotsMayChange
free_slots_may_change x x' t pools same lanes handles =
    others_may_change x.members (fixed_of x t) (message_of x t.pools) (message_of x' pools) (lane_on t.ports) (state_on t.ports) lanes
    ∙ (λ i. shown (same.members i) (record (fixed_of x t) {
      limits = record (limits_of x t) { request = same.request i; response = same.response i };
      acts = same.acts i;
      ports = map (λ p. record (port_of x p) { handler = same.handler i p.number }) t.ports;
      handles = λ nd. same_handles x (message_of x t.pools) x' (message_of x' pools) t.handles nd handles i;
    }) (message_of x' pools) (lane_on t.ports) (state_on t.ports))
