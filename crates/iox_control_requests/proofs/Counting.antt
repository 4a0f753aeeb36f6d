-- The pending responses of a client are counted alike in the table of handles and in the tables.
use Rattle.std.specs.Prelude.{◌≡◌, ℕ, suc, Bool, true, false, ◌&&◌, if◌then◌else◌, ◌==◌, ◌<◌, ◌≤◌, nat_le, List, [], ◌∷◌, length, map, filter, refl}
use Rattle.std.proofs.Common.{ap, ap₂, arith, sym, true≢false, ◌∙◌}
use Rattle.iox_model.specs.declared.kind.Kind.{Kind}
use Rattle.iox_model.specs.declared.kind.Kind.TheVariants.{PendingResponse}
use Rattle.iox_model.specs.declared.kind.Kind.TheVariants as kinds
use Rattle.iox_model.specs.Handles.{same_kind}
use Rattle.iox_handles.specs.declared.entry.Entry.{Entry}
use Rattle.iox_handles.specs.Tables.{Contents, count_like, count_of, group_of, is_like, is_of}
use Rattle.iox_tables.specs.HubStates.Tables.{HandleState, HubSettings, HubTables}
use Rattle.iox_tables.specs.HubLoans.Counts.{has_all_active}
use Rattle.iox_control.specs.Entries.{handle_state, handles_of}

-- the same handles pass
pass_alike : (n : ℕ) (es : List Entry)
    → length (filter (is_of n PendingResponse) es)
    ≡ length (filter (λ (h : HandleState). (h.port == n) && same_kind h.kind PendingResponse) (map handle_state es))
pass_alike n [] = refl
pass_alike n (e ∷ es) = step ((e.port == n) && same_kind e.kind PendingResponse) (pass_alike n es)
  where
    step : (b : Bool)
        → length (filter (is_of n PendingResponse) es)
        ≡ length (filter (λ (h : HandleState). (h.port == n) && same_kind h.kind PendingResponse) (map handle_state es))
        → length (if b then e ∷ filter (is_of n PendingResponse) es else filter (is_of n PendingResponse) es)
        ≡ length (if b then handle_state e ∷ filter (λ (h : HandleState). (h.port == n) && same_kind h.kind PendingResponse) (map handle_state es)
        else filter (λ (h : HandleState). (h.port == n) && same_kind h.kind PendingResponse) (map handle_state es))
    step true rest = ap suc rest
    step false rest = rest

pub spent_is : (t : HubTables) (settings : HubSettings) (table : Contents) (n count : ℕ) → settings ≡ t.settings → handles_of table ≡ t.handles
    → count ≡ count_of table n PendingResponse → nat_le settings.active_requests count ≡ has_all_active t n
spent_is t settings table n count same handles is =
    ap₂ (λ a b. nat_le a b) (ap (λ (s : HubSettings). s.active_requests) same)
    (is ∙ pass_alike n table.handles
    ∙ ap (λ hs. length (filter (λ (h : HandleState). (h.port == n) && same_kind h.kind PendingResponse) hs)) handles)

-- ---- where few handles are counted with them

no_pass : (p : Bool) → (p && false) ≡ true → ⊥
no_pass true e = true≢false (sym e)
no_pass false e = true≢false (sym e)

-- pending responses are counted with no others
counted_alike : (k : Kind) (p : Bool) → (p && same_kind k PendingResponse) ≡ true → (p && (group_of k == group_of PendingResponse)) ≡ true
counted_alike PendingResponse p e = e
counted_alike kinds.RequestMut p e = absurd (no_pass p e)
counted_alike kinds.RequestMutUninit p e = absurd (no_pass p e)
counted_alike kinds.ResponseMut p e = absurd (no_pass p e)
counted_alike kinds.ResponseMutUninit p e = absurd (no_pass p e)
counted_alike kinds.Client p e = absurd (no_pass p e)
counted_alike kinds.Server p e = absurd (no_pass p e)
counted_alike kinds.ActiveRequest p e = absurd (no_pass p e)
counted_alike kinds.Response p e = absurd (no_pass p e)

-- a port has no more pending responses than are counted with them
no_more : (n : ℕ) (es : List Entry) → length (filter (is_of n PendingResponse) es) ≤ length (filter (is_like n PendingResponse) es)
no_more n [] = omega arith
no_more n (e ∷ es) = step (is_of n PendingResponse e) refl (is_like n PendingResponse e) refl (no_more n es)
  where
    step : (a : Bool) → is_of n PendingResponse e ≡ a → (b : Bool) → is_like n PendingResponse e ≡ b
        → length (filter (is_of n PendingResponse) es) ≤ length (filter (is_like n PendingResponse) es)
        → length (if a then e ∷ filter (is_of n PendingResponse) es else filter (is_of n PendingResponse) es)
        ≤ length (if b then e ∷ filter (is_like n PendingResponse) es else filter (is_like n PendingResponse) es)
    step true p true q rest = omega (arith, rest)
    step true p false q rest = absurd (true≢false (sym (counted_alike e.kind (e.port == n) p) ∙ q))
    step false p true q rest = omega (arith, rest)
    step false p false q rest = rest

not_le : (a b : ℕ) → b < a → nat_le a b ≡ false
not_le a b e = grind (arith, e)

-- where fewer are counted than may be, the client may have one more
pub few_spent : (t : HubTables) (settings : HubSettings) (table : Contents) (n most : ℕ) → settings ≡ t.settings → handles_of table ≡ t.handles
    → count_like table n PendingResponse ≤ most → most < settings.active_requests → false ≡ has_all_active t n
few_spent t settings table n most same handles counted few =
    let fewer = no_more n table.handles in
    sym (not_le settings.active_requests (count_of table n PendingResponse) (omega (arith, fewer, counted, few)))
    ∙ spent_is t settings table n (count_of table n PendingResponse) same handles refl
