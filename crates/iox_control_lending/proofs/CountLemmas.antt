-- Handles are counted as the table keeps them.
use Rattle.std.specs.Prelude.{◌≡◌, ℕ, ◌+◌, ◌*◌, ◌<◌, ◌≤◌, ◌-◌, ◌&&◌, ◌||◌, ◌==◌, nat_le, nat_lt, suc, Bool, true, false, if◌then◌else◌, List, [], ◌∷◌, map, filter, find, length, Option, Some, refl}
use Rattle.std.specs.List.{list_any, range_with_len}
use Rattle.std.proofs.Common.{ap, ap₂, subst, ◌∙◌, sym, arith, true≢false}
use Rattle.std.proofs.Math.Nat.{le-mul_of_pos_right}
use Rattle.std.proofs.lemmas.Bool.{lt-ltb}
use Rattle.iox_model.specs.declared.kind.Kind.{Kind}
use Rattle.iox_model.specs.declared.kind.Kind.TheVariants.{PendingResponse, RequestMut, RequestMutUninit, ResponseMut, ResponseMutUninit}
use Rattle.iox_model.specs.declared.kind.Kind.TheVariants as kinds
use Rattle.iox_model.specs.Handles.{is_request_loan, is_response_loan, same_kind}
use Rattle.iox_handles.specs.declared.entry.Entry.{Entry}
use Rattle.iox_handles.specs.Tables.{group_of, is_like}
use Rattle.iox_tables.specs.HubStates.Tables.{HandleState, HubTables, PoolState, labels_of}
use Rattle.iox_tables.specs.HubLoans.Counts.{requests_on_loan, responds_to, responses_on_loan, responses_to}
use Rattle.iox_control.specs.Entries.{handle_state}
use Rattle.iox_control_lending.specs.Tests.{has_all_responses}

-- as many pass as show a handle that passes
pub counted_same : (test : HandleState → Bool) (hs : List Entry)
    → length (filter (λ e. test (handle_state e)) hs) ≡ length (filter test (map handle_state hs))
counted_same test [] = refl
counted_same test (e ∷ es) = step (test (handle_state e)) (counted_same test es)
  where
    step : (b : Bool) → length (filter (λ e. test (handle_state e)) es) ≡ length (filter test (map handle_state es))
        → length (if b then e ∷ filter (λ e. test (handle_state e)) es else filter (λ e. test (handle_state e)) es)
        ≡ length (if b then handle_state e ∷ filter test (map handle_state es) else filter test (map handle_state es))
    step true rest = ap suc rest
    step false rest = rest

-- some are counted where one passes
pub some_pass : {A : Type 0} (test : A → Bool) (xs : List A) → nat_lt 0 (length (filter test xs)) ≡ list_any test xs
some_pass test [] = refl
some_pass test (x ∷ xs) = step (test x) (some_pass test xs)
  where
    step : (b : Bool) → nat_lt 0 (length (filter test xs)) ≡ list_any test xs
        → nat_lt 0 (length (if b then x ∷ filter test xs else filter test xs)) ≡ (b || list_any test xs)
    step true rest = lt-ltb 0 (suc (length (filter test xs))) (omega arith)
    step false rest = rest

-- where each that passes the one test passes the other, no more pass it
fewer_pass : {A : Type 0} (f g : A → Bool) (xs : List A) → ((x : A) → f x ≡ true → g x ≡ true) → length (filter f xs) ≤ length (filter g xs)
fewer_pass f g [] all = omega arith
fewer_pass f g (x ∷ xs) all = step (f x) refl (g x) refl (fewer_pass f g xs all)
  where
    step : (a : Bool) → f x ≡ a → (b : Bool) → g x ≡ b → length (filter f xs) ≤ length (filter g xs)
        → length (if a then x ∷ filter f xs else filter f xs) ≤ length (if b then x ∷ filter g xs else filter g xs)
    step true e true h rest = omega (arith, rest)
    step true e false h rest = absurd (true≢false (sym (all x e) ∙ h))
    step false e true h rest = omega (arith, rest)
    step false e false h rest = rest

-- ---- where a table counts none of a kind

no_pass : (p : Bool) → (p && false) ≡ true → ⊥
no_pass true e = true≢false (sym e)
no_pass false e = true≢false (sym e)

counted_as_request : (k : Kind) (p : Bool) → (p && is_request_loan k) ≡ true → (p && (group_of k == group_of RequestMut)) ≡ true
counted_as_request RequestMut p e = e
counted_as_request RequestMutUninit p e = e
counted_as_request ResponseMut p e = absurd (no_pass p e)
counted_as_request ResponseMutUninit p e = absurd (no_pass p e)
counted_as_request PendingResponse p e = absurd (no_pass p e)
counted_as_request kinds.Client p e = absurd (no_pass p e)
counted_as_request kinds.Server p e = absurd (no_pass p e)
counted_as_request kinds.ActiveRequest p e = absurd (no_pass p e)
counted_as_request kinds.Response p e = absurd (no_pass p e)

counted_as_response : (k : Kind) (p : Bool) → (p && is_response_loan k) ≡ true → (p && (group_of k == group_of ResponseMut)) ≡ true
counted_as_response RequestMut p e = absurd (no_pass p e)
counted_as_response RequestMutUninit p e = absurd (no_pass p e)
counted_as_response ResponseMut p e = e
counted_as_response ResponseMutUninit p e = e
counted_as_response PendingResponse p e = absurd (no_pass p e)
counted_as_response kinds.Client p e = absurd (no_pass p e)
counted_as_response kinds.Server p e = absurd (no_pass p e)
counted_as_response kinds.ActiveRequest p e = absurd (no_pass p e)
counted_as_response kinds.Response p e = absurd (no_pass p e)

no_more_than : (test : HandleState → Bool) (like : Entry → Bool) (hs : List Entry) (most : ℕ) → ((e : Entry) → test (handle_state e) ≡ true → like e ≡ true)
    → length (filter like hs) ≤ most → length (filter test (map handle_state hs)) ≤ most
no_more_than test like hs most all low =
    let fewer = fewer_pass (λ e. test (handle_state e)) like hs all in let same = counted_same test hs in omega (arith, fewer, low, same)

-- no more requests are on loan than are counted
requests_below : (hs : List Entry) (shown : List HandleState) (port most : ℕ) → map handle_state hs ≡ shown → length (filter (is_like port RequestMut) hs) ≤ most
    → length (filter (λ h. (h.port == port) && is_request_loan h.kind) shown) ≤ most
requests_below hs shown port most is low =
    subst (λ gs. length (filter (λ (h : HandleState). (h.port == port) && is_request_loan h.kind) gs) ≤ most) is
    (no_more_than (λ (h : HandleState). (h.port == port) && is_request_loan h.kind) (is_like port RequestMut) hs most
    (λ e. counted_as_request e.kind (e.port == port)) low)

-- no more responses are on loan than are counted
responses_below : (hs : List Entry) (shown : List HandleState) (port most : ℕ) → map handle_state hs ≡ shown → length (filter (is_like port ResponseMut) hs) ≤ most
    → length (filter (λ h. (h.port == port) && is_response_loan h.kind) shown) ≤ most
responses_below hs shown port most is low =
    subst (λ gs. length (filter (λ (h : HandleState). (h.port == port) && is_response_loan h.kind) gs) ≤ most) is
    (no_more_than (λ (h : HandleState). (h.port == port) && is_response_loan h.kind) (is_like port ResponseMut) hs most
    (λ e. counted_as_response e.kind (e.port == port)) low)

-- no request is on loan
pub no_requests : (hs : List Entry) (shown : List HandleState) (port most : ℕ) → map handle_state hs ≡ shown → length (filter (is_like port RequestMut) hs) ≤ most
    → most ≡ 0 → 0 ≡ length (filter (λ h. (h.port == port) && is_request_loan h.kind) shown)
no_requests hs shown port most is low none = let below = requests_below hs shown port most is low in omega (arith, below, none)

-- no response is on loan
pub no_responses : (hs : List Entry) (shown : List HandleState) (port most : ℕ) → map handle_state hs ≡ shown → length (filter (is_like port ResponseMut) hs) ≤ most
    → most ≡ 0 → 0 ≡ length (filter (λ h. (h.port == port) && is_response_loan h.kind) shown)
no_responses hs shown port most is low none = let below = responses_below hs shown port most is low in omega (arith, below, none)

not_le : (a b : ℕ) → b < a → nat_le a b ≡ false
not_le a b e = grind (arith, e)

-- where fewer are counted than may be, fewer are on loan
pub few_requests : (t : HubTables) (hs : List Entry) (port most l : ℕ) → map handle_state hs ≡ t.handles → length (filter (is_like port RequestMut) hs) ≤ most
    → most < l → false ≡ nat_le l (requests_on_loan t port)
few_requests t hs port most l is low few =
    let below = requests_below hs t.handles port most is low in sym (not_le l (requests_on_loan t port) (omega (arith, below, few)))

-- with fewer loans in all than may be to one request there are fewer to that
pub few_to_one : (t : HubTables) (n client request l m : ℕ) → m ≡ responses_on_loan t n → m < l → false ≡ nat_le l (responses_to t n client request)
few_to_one t n client request l m is low =
    let fewer = fewer_pass (λ h. (h.port == n) && responds_to t client request h) (λ h. (h.port == n) && is_response_loan h.kind) t.handles
    (λ h e. first_two (h.port == n) (is_response_loan h.kind) _ e) in
    sym (not_le l (responses_to t n client request) (omega (arith, fewer, is, low)))
  where
    first_two : (a b c : Bool) → (a && (b && c)) ≡ true → (a && b) ≡ true
    first_two true true c e = refl
    first_two true false c e = e
    first_two false b c e = e

-- the handle is a response on loan to that request
abbrev pub shows_responding : List (Option PoolState) → ℕ → ℕ → ℕ → HandleState → Bool
shows_responding pools port client request h =
    (h.port == port) && (is_response_loan h.kind && ((h.client == client) && ((labels_of pools h.pool h.slot).request == request)))

-- the handle is on that lane
abbrev pub shows_on_lane : List (Option PoolState) → ℕ → ℕ → HandleState → Bool
shows_on_lane pools port lane h =
    (h.port == port) && ((is_request_loan h.kind || same_kind h.kind PendingResponse) && ((labels_of pools h.pool h.slot).lane == lane))

-- ---- a search in ranges

pub search_goes_on : (test : ℕ → Bool) (n i : ℕ) → i < n → test i ≡ false
    → find test (range_with_len i (n - i)) ≡ find test (range_with_len (i + 1) (n - (i + 1)))
search_goes_on test n i below e =
    ap (λ m. find test (range_with_len i m)) (more n i below)
    ∙ ap (λ (b : Bool). if b then Some i else find test (range_with_len (i + 1) (n - (i + 1)))) e
  where
    more : (n i : ℕ) → i < n → n - i ≡ suc (n - (i + 1))
    more n i below = omega (arith, below)

pub search_ends : (test : ℕ → Bool) (n i : ℕ) → i < n → test i ≡ true → find test (range_with_len i (n - i)) ≡ Some i
search_ends test n i below e =
    ap (λ m. find test (range_with_len i m)) (more n i below)
    ∙ ap (λ (b : Bool). if b then Some i else find test (range_with_len (i + 1) (n - (i + 1)))) e
  where
    more : (n i : ℕ) → i < n → n - i ≡ suc (n - (i + 1))
    more n i below = omega (arith, below)

-- fewer than the first of the three are fewer than their product, where the others are not 0
pub fewer_than_all : (a b c m : ℕ) → m < a → 0 < b → 0 < c → false ≡ nat_le (a * b * c) m
fewer_than_all a b c m few some more =
    let one : a ≤ a * b = le-mul_of_pos_right a some in
    let two : a * b ≤ a * b * c = le-mul_of_pos_right (a * b) more in sym (not_le (a * b * c) m (omega (arith, few, one, two)))

pub few_responses : (t : HubTables) (hs : List Entry) (port most l : ℕ) → map handle_state hs ≡ t.handles → length (filter (is_like port ResponseMut) hs) ≤ most
    → most < l → 0 < t.settings.active_requests → 0 < t.settings.clients → (client request : ℕ) → false ≡ has_all_responses t port l client request
few_responses t hs port most l is low few some more client request =
    let below = responses_below hs t.handles port most is low in
    let fewer : responses_on_loan t port < l = omega (arith, below, few) in
    ap₂ (λ (a b : Bool). a || b) (few_to_one t port client request l (responses_on_loan t port) refl fewer)
    (fewer_than_all l t.settings.active_requests t.settings.clients (responses_on_loan t port) fewer some more)
