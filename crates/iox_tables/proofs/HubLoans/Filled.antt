-- The words of one handle's message become others.
use Rattle.std.specs.Prelude.{◌≡◌, ℕ, suc, Bool, true, false, ◌&&◌, if◌then◌else◌, ◌==◌, List, [], ◌∷◌, length, map, filter, Option, Some, refl}
use Rattle.std.specs.Option.{option_map_or}
use Rattle.std.proofs.Common.{sym, ap, ap₂, ◌∙◌, true≢false, eqb-true, arith}
use Rattle.std.proofs.lemmas.Option.{none-some}
use Rattle.iox_model.specs.Counts.{with_fixed, with_handle}
use Rattle.iox_model.specs.Maps.{has_number, put_at}
use Rattle.iox_model.specs.States as m
use Rattle.iox_model.specs.WholeCalls.{is_uninit}
use Rattle.iox_laws.proofs.WeaveLaws.MapLemmas.{eqb-refl}
use Rattle.iox_lanes.specs.Lanes.{LaneState}
use Rattle.iox_tables.specs.HubStates.Tables.{HandleState, PoolState}
use Rattle.iox_tables.specs.HubStates.Ways.{lane_on, state_on}
use Rattle.iox_tables.specs.HubStates.Shown.{MessagesByPlace}
use Rattle.iox_tables.specs.HubStates.States.{Given, fixed_of, handle_of, handles_in, message_of, state_shown}
use Rattle.iox_tables.specs.HubStates.Releases.{handle_shown}
use Rattle.iox_tables.specs.HubStates.Steps.{HasSameMessages, places_on}
use Rattle.iox_tables.specs.HubStates.Wirings.{handle_in}
use Rattle.iox_tables.proofs.HubStates.Ends.{each_handle_is_shown}
use Rattle.iox_tables.proofs.HubStates.Frames.{others_may_change}
use Rattle.iox_tables.proofs.HubStates.Naming.{handle_node, handle_number}
use Rattle.iox_tables.specs.HubLoans.Fillings.{WordsMayChange}
use Rattle.iox_tables.specs.HubLoans.Slots.{SlotContents, is_place, put_place, with_contents}

-- ---- messages

module _ (x : Given) (pools : List (Option PoolState)) (pool k : ℕ) (w : SlotContents) where
  abbrev x' : Given
  x' = with_contents x pool k w

  abbrev old : MessagesByPlace
  old = message_of x pools

  abbrev new : MessagesByPlace
  new = message_of x' pools

  else_is : {A : Type 0} (f : ℕ → ℕ → A) (a : A) (p j : ℕ) → is_place pool k p j ≡ false → put_place f pool k a p j ≡ f p j
  else_is f a p j other = ap (λ b. if b then a else f p j) other

  pub others_stay : (p j : ℕ) → is_place pool k p j ≡ false → old p j ≡ new p j
  others_stay p j other = λ i. record (old p j) {
    user = sym (else_is x.user w.user p j other) i;
    payload = sym (else_is x.payload w.payload p j other) i;
  }

  other_handle : (h : HandleState) → is_place pool k h.pool h.slot ≡ false → handle_of x old h ≡ handle_of x' new h
  other_handle h other = λ i. record (handle_of x old h) {
    message = others_stay h.pool h.slot other i;
    filled = if is_uninit h.kind then sym (else_is x.filled w.filled h.pool h.slot other) i else (old h.pool h.slot).elements;
  }

  on_lane : (l : LaneState) → (l.pool ≡ pool → has_number k (places_on l) ≡ false) → HasSameMessages old new l
  on_lane l none j on = others_stay l.pool j (step (l.pool == pool) (j == k) refl refl)
    where
      step : (a b : Bool) → (l.pool == pool) ≡ a → (j == k) ≡ b → (a && b) ≡ false
      step true true ea eb = absurd (true≢false (sym on ∙ ap (λ n. has_number n (places_on l)) (eqb-true j k eb) ∙ none (eqb-true l.pool pool ea)))
      step true false ea eb = refl
      step false b ea eb = refl

  -- ---- handles

  abbrev has : HandleState → Bool
  has h = is_place pool k h.pool h.slot

  abbrev count : List HandleState → ℕ
  count hs = length (filter has hs)

  not_zero : (n : ℕ) → suc n ≡ 0 → ⊥
  not_zero n e = omega (arith, e)

  less : (n : ℕ) → suc n ≡ 1 → n ≡ 0
  less n e = omega (arith, e)

  -- none has it
  none_has : (hs : List HandleState) (nd : ℕ) → count hs ≡ 0 → handles_in x old hs nd ≡ handles_in x' new hs nd
  none_has [] nd e = refl
  none_has (h ∷ hs) nd e = step (has h) refl (h.node == nd) e (none_has hs nd)
    where
      step : (b : Bool) → has h ≡ b → (c : Bool) → length (if b then h ∷ filter has hs else filter has hs) ≡ 0 → (count hs ≡ 0 → handles_in x old hs nd ≡ handles_in x' new hs nd)
          → map (handle_of x old) (if c then h ∷ filter (λ h. h.node == nd) hs else filter (λ h. h.node == nd) hs)
          ≡ map (handle_of x' new) (if c then h ∷ filter (λ h. h.node == nd) hs else filter (λ h. h.node == nd) hs)
      step true is c e more = absurd (not_zero (count hs) e)
      step false is true e more = ap₂ (λ z zs. z ∷ zs) (other_handle h is) (more e)
      step false is false e more = more e

  -- a handle in the list counts
  counted : (hs : List HandleState) (node n : ℕ) (h : HandleState) → handle_in hs node n ≡ Some h → has h ≡ true → count hs ≡ 0 → ⊥
  counted [] node n h e here none = none-some h e
  counted (g ∷ gs) node n h e here none = step ((g.node == node) && (g.number == n)) (has g) refl e none (counted gs node n h)
    where
      step : (b c : Bool) → has g ≡ c → (if b then Some g else handle_in gs node n) ≡ Some h → length (if c then g ∷ filter has gs else filter has gs) ≡ 0
          → (handle_in gs node n ≡ Some h → has h ≡ true → count gs ≡ 0 → ⊥) → ⊥
      step b true is e none more = not_zero (count gs) none
      step true false is e none more = true≢false (sym here ∙ ap (λ (o : Option HandleState). option_map_or has o true) (sym e) ∙ is)
      step false false is e none more = more e here none

  -- only that one has it: the handles of another node stay, and of its own all but the first of its
  -- number
  module _ (node n : ℕ) (h : HandleState) (here : has h ≡ true) where
    elsewhere : (hs : List HandleState) (nd : ℕ) → handle_in hs node n ≡ Some h → count hs ≡ 1 → (nd == node) ≡ false
        → handles_in x old hs nd ≡ handles_in x' new hs nd
    elsewhere [] nd e one other = absurd (none-some h e)
    elsewhere (g ∷ gs) nd e one other = step (g.node == node) refl (g.number == n) (has g) refl (g.node == nd) refl e one (elsewhere gs nd)
      where
        step : (a : Bool) → (g.node == node) ≡ a → (b c : Bool) → has g ≡ c → (d : Bool) → (g.node == nd) ≡ d
            → (if a && b then Some g else handle_in gs node n) ≡ Some h → length (if c then g ∷ filter has gs else filter has gs) ≡ 1
            → (handle_in gs node n ≡ Some h → count gs ≡ 1 → (nd == node) ≡ false → handles_in x old gs nd ≡ handles_in x' new gs nd)
            → map (handle_of x old) (if d then g ∷ filter (λ h. h.node == nd) gs else filter (λ h. h.node == nd) gs)
            ≡ map (handle_of x' new) (if d then g ∷ filter (λ h. h.node == nd) gs else filter (λ h. h.node == nd) gs)
        step a ea b true is d ed e one more = by_first a ea b d ed e
          where
            by_first : (a : Bool) → (g.node == node) ≡ a → (b d : Bool) → (g.node == nd) ≡ d → (if a && b then Some g else handle_in gs node n) ≡ Some h
                → map (handle_of x old) (if d then g ∷ filter (λ h. h.node == nd) gs else filter (λ h. h.node == nd) gs)
                ≡ map (handle_of x' new) (if d then g ∷ filter (λ h. h.node == nd) gs else filter (λ h. h.node == nd) gs)
            by_first true ea true true ed e =
                absurd (true≢false (sym (eqb-refl nd) ∙ ap (λ j. nd == j) (sym (eqb-true g.node nd ed) ∙ eqb-true g.node node ea) ∙ other))
            by_first true ea true false ed e = none_has gs nd (less (count gs) one)
            by_first true ea false d ed e = absurd (counted gs node n h e here (less (count gs) one))
            by_first false ea b d ed e = absurd (counted gs node n h e here (less (count gs) one))
        step true ea true false is d ed e one more =
            absurd (true≢false (sym here ∙ ap (λ (o : Option HandleState). option_map_or has o true) (sym e) ∙ is))
        step true ea false false is true ed e one more = ap₂ (λ z zs. z ∷ zs) (other_handle g is) (more e one other)
        step true ea false false is false ed e one more = more e one other
        step false ea b false is true ed e one more = ap₂ (λ z zs. z ∷ zs) (other_handle g is) (more e one other)
        step false ea b false is false ed e one more = more e one other

    at_node : (k : m.Handle) → k.number ≡ n → (hs : List HandleState) → handle_in hs node n ≡ Some h → count hs ≡ 1
        → with_handle k (handles_in x old hs node) ≡ with_handle k (handles_in x' new hs node)
    at_node k number [] e one = refl
    at_node k number (g ∷ gs) e one = step (g.node == node) (g.number == n) refl (has g) refl e one (at_node k number gs)
      where
        same_number : (b : Bool) → (g.number == n) ≡ b → (g.number == k.number) ≡ b
        same_number b is = ap (λ j. g.number == j) number ∙ is

        step : (a b : Bool) → (g.number == n) ≡ b → (c : Bool) → has g ≡ c
            → (if a && b then Some g else handle_in gs node n) ≡ Some h → length (if c then g ∷ filter has gs else filter has gs) ≡ 1
            → (handle_in gs node n ≡ Some h → count gs ≡ 1 → with_handle k (handles_in x old gs node) ≡ with_handle k (handles_in x' new gs node))
            → with_handle k (map (handle_of x old) (if a then g ∷ filter (λ h. h.node == node) gs else filter (λ h. h.node == node) gs))
            ≡ with_handle k (map (handle_of x' new) (if a then g ∷ filter (λ h. h.node == node) gs else filter (λ h. h.node == node) gs))
        step true true eb true is e one more =
            ap (λ b. if b then k ∷ handles_in x old gs node else handle_of x old g ∷ with_handle k (handles_in x old gs node)) (same_number true eb)
            ∙ ap (λ zs. k ∷ zs) (none_has gs node (less (count gs) one))
            ∙ sym (ap (λ b. if b then k ∷ handles_in x' new gs node else handle_of x' new g ∷ with_handle k (handles_in x' new gs node)) (same_number true eb))
        step true true eb false is e one more =
            absurd (true≢false (sym here ∙ ap (λ (o : Option HandleState). option_map_or has o true) (sym e) ∙ is))
        step true false eb true is e one more = absurd (counted gs node n h e here (less (count gs) one))
        step true false eb false is e one more =
            ap (λ b. if b then k ∷ handles_in x old gs node else handle_of x old g ∷ with_handle k (handles_in x old gs node)) (same_number false eb)
            ∙ ap₂ (λ z zs. z ∷ zs) (other_handle g is) (more e one)
            ∙ sym (ap (λ b. if b then k ∷ handles_in x' new gs node else handle_of x' new g ∷ with_handle k (handles_in x' new gs node)) (same_number false eb))
        step false b eb true is e one more = absurd (counted gs node n h e here (less (count gs) one))
        step false b eb false is e one more = more e one

pub words_may_change : WordsMayChange
words_may_change x t node n h h' w is same one =
    ap (λ (u : m.State). with_fixed u (record f { handles = put_at f.handles h'.node (with_handle k (f.handles h'.node)) }))
    (others_may_change x.members f (message_of x t.pools) (message_of x' t.pools) (lane_on t.ports) (state_on t.ports)
    (λ way l on. on_lane x t.pools h.pool h.slot w l (one.lanes way l on)))
    ∙ (λ i. with_fixed (state_shown x' t) (record (fixed_of x' t) { handles = λ nd. handles_are nd i }))
    ∙ (each_handle_is_shown x' t h').changes
  where
    f : m.Fixed
    f = fixed_of x t

    x' : Given
    x' = with_contents x h.pool h.slot w

    k : m.Handle
    k = handle_shown x' t h'

    here : is_place h.pool h.slot h.pool h.slot ≡ true
    here = ap₂ (λ a b. a && b) (eqb-refl h.pool) (eqb-refl h.slot)

    on : h'.node ≡ node
    on = same.0 ∙ handle_node t.handles node n h is.there

    handles_are : (nd : ℕ) → put_at f.handles h'.node (with_handle k (f.handles h'.node)) nd
        ≡ put_at (fixed_of x' t).handles h'.node (with_handle k ((fixed_of x' t).handles h'.node)) nd
    handles_are nd = step (nd == h'.node) refl
      where
        step : (b : Bool) → (nd == h'.node) ≡ b
            → (if b then with_handle k (f.handles h'.node) else f.handles nd) ≡ (if b then with_handle k ((fixed_of x' t).handles h'.node) else (fixed_of x' t).handles nd)
        step true e =
            ap (λ j. with_handle k (f.handles j)) on
            ∙ at_node x t.pools h.pool h.slot w node n h here k (same.1 ∙ handle_number t.handles node n h is.there) t.handles is.there one.handles
            ∙ ap (λ j. with_handle k ((fixed_of x' t).handles j)) (sym on)
        step false e = elsewhere x t.pools h.pool h.slot w node n h here t.handles nd is.there one.handles (ap (λ j. nd == j) (sym on) ∙ e)
