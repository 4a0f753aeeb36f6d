-- A lane of a client that is taken is that of a message that somebody has.
use Rattle.std.specs.Prelude.{◌≡◌, ℕ, zero, suc, ◌&&◌, ◌||◌, ◌==◌, Bool, true, false, List, [], ◌∷◌, Some, slice_get, refl}
use Rattle.std.specs.List.{list_any}
use Rattle.std.specs.Option.{option_map_or}
use Rattle.std.proofs.Common.{sym, ap, subst, ◌∙◌, true≢false, eqb-true, eq-eqb}
use Rattle.std.proofs.lemmas.Option.{none-some, same_Some}
use Rattle.iox_model.specs.Handles.{is_own, is_request_loan, is_response_loan, same_kind}
use Rattle.iox_model.specs.declared.kind.Kind.TheVariants.{PendingResponse}
use Rattle.iox_laws.proofs.WeaveLedger.Lists.{IsAmong, any-among}
use Rattle.iox_tables.specs.HubStates.Tables.{HandleState, HubTables, PortState, SlotState, no_slot, port_in, slot_at, slots_of}
use Rattle.iox_tables.specs.HubStates.Releases.{lane_of}
use Rattle.iox_tables.specs.HubBooks.Handles.{IsOfPort}
use Rattle.iox_tables.specs.HubBooks.Hubs.{AreInOrder, IsUsed}
use Rattle.iox_tables.specs.HubLoans.Counts.{is_lane_taken, is_on_lane}
use Rattle.iox_tables.specs.HubLending.Keeping.{has_holder}
use Rattle.iox_tables.proofs.HubLending.Kept.{both, some_holder}
use Rattle.iox_tables.proofs.HubLending.Owning.{not_true, number_is, of_each, port_is, slot_there, two, used_among, used_within}
use Rattle.iox_slots.specs.Lanes.{is_lane_held}
use Rattle.iox_control_lending.specs.Tests.{is_of_request}

pub passes_from : (test : SlotState → Bool) (ss : List SlotState) (k : ℕ) (s : SlotState) → slice_get ss k ≡ Some s → test s ≡ true → list_any test ss ≡ true
passes_from test [] k s at e = absurd (none-some s at)
passes_from test (x ∷ xs) zero s at e = ap (λ b. b || list_any test xs) (ap test (same_Some x s at) ∙ e)
passes_from test (x ∷ xs) (suc k) s at e = ap (λ b. test x || b) (passes_from test xs k s at e) ∙ also (test x)
  where
    also : (b : Bool) → (b || true) ≡ true
    also true = refl
    also false = refl

request_is_own : (a b c : Bool) → (a || c) ≡ true → (a || (b || c)) ≡ true
request_is_own true b c e = refl
request_is_own false true c e = refl
request_is_own false false c e = e

module _ (t : HubTables) (n : ℕ) (p : PortState) (order : AreInOrder t) (there : port_in t.ports n ≡ Some p) where
  -- the slots of the client's pool
  abbrev slots : List SlotState
  slots = slots_of t.pools p.pool

  -- the handle is a loaned request or a pending response of the client
  abbrev asks : HandleState → Bool
  asks h = (h.port == n) && is_of_request h.kind

  its_own : (h : HandleState) → asks h ≡ true → (is_own h.kind && (h.port == p.number)) ≡ true
  its_own h e =
      let parts = two (h.port == n) (is_of_request h.kind) e in
      both (is_own h.kind) (h.port == p.number) (request_is_own (is_request_loan h.kind) (is_response_loan h.kind) (same_kind h.kind PendingResponse) parts.1)
      (eq-eqb h.port p.number (eqb-true h.port n parts.0 ∙ sym (number_is t order n p there)))

  -- the message of one of these is in the port's pool, and somebody has it
  its_pool : (h : HandleState) → IsAmong h t.handles → asks h ≡ true → h.pool ≡ p.pool
  its_pool h among e =
      let parts = two (is_own h.kind) (h.port == p.number) (its_own h e) in
      let of : IsOfPort t h = of_each (IsOfPort t) h t.handles order.ports among in
      of.of_pool parts.0 ∙ ap (λ (q : PortState). q.pool) (port_is t order n p there h.port of.port of.there (eqb-true h.port p.number parts.1))

  its_use : (h : HandleState) → IsAmong h t.handles → asks h ≡ true → IsUsed t p.pool h.slot
  its_use h among e = subst (λ q. IsUsed t q h.slot) (its_pool h among e) (used_among t order h among)

  its_slot : (h : HandleState) → IsAmong h t.handles → asks h ≡ true → (s : SlotState) × (slice_get slots h.slot ≡ Some s)
  its_slot h among e = slot_there t order n p there h.slot (used_within t order n p there h.slot (its_use h among e))

  -- a lane that is taken is that of a message that somebody has
  pub taken_is_held : (i : ℕ) → is_lane_taken t n i ≡ true → is_lane_held slots i ≡ true
  taken_is_held i e =
      let r = any-among (λ h. (h.port == n) && is_on_lane t i h) t.handles e in
      let parts = two (r.0.port == n) (is_on_lane t i r.0) r.2 in
      let on = two (is_of_request r.0.kind) (lane_of t r.0 == i) parts.1 in
      let its : asks r.0 ≡ true = both (r.0.port == n) (is_of_request r.0.kind) parts.0 on.0 in
      let s = its_slot r.0 r.1 its in
      let here : slot_at t.pools p.pool r.0.slot ≡ s.0 = ap (λ o. option_map_or (λ (x : SlotState). x) o no_slot) s.1 in
      let held : has_holder s.0 ≡ true = ap has_holder (sym here) ∙ some_holder _ (its_use r.0 r.1 its) in
      let lane : s.0.lane ≡ i
      = ap (λ (x : SlotState). x.lane) (sym here) ∙ ap (λ q. (slot_at t.pools q r.0.slot).lane) (sym (its_pool r.0 r.1 its)) ∙ eqb-true (lane_of t r.0) i on.1 in
      passes_from (λ x. has_holder x && (x.lane == i)) slots r.0.slot s.0 s.1 (both (has_holder s.0) (s.0.lane == i) held (eq-eqb s.0.lane i lane))

  -- so a lane of which nobody has a message is not taken
  pub unheld_is_free : (i : ℕ) → is_lane_held slots i ≡ false → is_lane_taken t n i ≡ false
  unheld_is_free i none = not_true (is_lane_taken t n i) (λ taken. true≢false (sym (taken_is_held i taken) ∙ none))
