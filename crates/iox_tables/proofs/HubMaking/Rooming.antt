-- There is room for ports and pipes as ports come and go.
use Rattle.std.specs.Prelude.{◌≡◌, ℕ, ◌+◌, ◌≤◌, ◌<◌, Bool, true, false, not, if◌then◌else◌, ◌==◌, nat_le, List, [], ◌∷◌, ◌++◌, filter, length, Option, Some, None, refl}
use Rattle.std.specs.Option.{option_map, option_map_or}
use Rattle.std.proofs.Common.{sym, ap, ◌∙◌, arith, length-append, subst}
use Rattle.std.proofs.lemmas.Bool.{leb-false}
use Rattle.std.proofs.lemmas.Option.{none-some}
use Rattle.iox_model.specs.declared.kind.Role.{Role}
use Rattle.iox_model.specs.Maps.{or_else}
use Rattle.iox_model.specs.Settings.{other_role, same_role}
use Rattle.iox_tables.specs.HubStates.Tables.{HubTables, PoolState, PortState, port_in}
use Rattle.iox_tables.specs.HubStates.Releases.{with_value_released}
use Rattle.iox_tables.specs.HubStates.Wirings.{numbers_of_role}
use Rattle.iox_tables.specs.HubMaking.Disconnections.{cut_from, with_disconnected}
use Rattle.iox_tables.specs.HubMaking.NewPorts.{connected_from, connected_to, with_port_made}
use Rattle.iox_tables.specs.HubMaking.OneByOne.{HaveRoom, RoomAlwaysStays, most_of}
use Rattle.iox_tables.proofs.HubMaking.Connecting.{port_with, same_roles, shows_same}
use Rattle.iox_tables.proofs.HubMaking.Disconnecting.{port_left}
use Rattle.iox_tables.proofs.HubMaking.Joining.{role_with}
use Rattle.iox_tables.proofs.HubMaking.Leaving.{roles_left}
use Rattle.iox_tables.proofs.HubMaking.Unholding.{port_is, roles_are, unheld}

fewer : (test : ℕ → Bool) (ks : List ℕ) → length (filter test ks) ≤ length ks
fewer test [] = omega arith
fewer test (k ∷ ks) = step (test k) (fewer test ks)
  where
    step : (b : Bool) → length (filter test ks) ≤ length ks → length (if b then k ∷ filter test ks else filter test ks) ≤ length (k ∷ ks)
    step true rest = omega (arith, rest)
    step false rest = omega (arith, rest)

-- the port has room for as many pipes as there may be
abbrev RoomOf : HubTables → PortState → Type 0
RoomOf t p = p.incoming.most ≡ most_of t.settings (other_role p.role)

gone : (t : HubTables) (n : ℕ) → HaveRoom t → HaveRoom (with_disconnected t n)
gone t n have = record {
  few = λ role. few role (ap (λ (ks : List ℕ). length ks) (roles_left n role t.ports)) (fewer (λ k. not (k == n)) (numbers_of_role role t.ports)) (have.few role);
  most = λ k q is. step k q (k == n) (port_in t.ports k) refl (sym (port_left n t.ports k) ∙ is);
}
  where
    few : (role : Role) {a b c d : ℕ} → a ≡ b → a ≤ c → c ≤ d → b ≤ d
    few role e f g = omega (arith, e, f, g)

    step : (k : ℕ) (q : PortState) (b : Bool) (o : Option PortState) → port_in t.ports k ≡ o → (if b then None else option_map (cut_from n) o) ≡ Some q → RoomOf t q
    step k q true o there e = absurd (none-some q e)
    step k q false None there e = absurd (none-some q e)
    step k q false (Some p) there e = subst (λ (z : Option PortState). RoomOf t (option_map_or (λ y. y) z p)) e (have.most k p there)

released : (t : HubTables) (n : ℕ) → HaveRoom t → HaveRoom (with_value_released t n)
released t n have = record {
  few = λ role. subst (λ (ks : List ℕ). length ks ≤ most_of t.settings role) (sym (roles_are t n role t.ports)) (have.few role);
  most = λ k q is. step k q (k == n) (port_in t.ports k) refl (sym (port_is t n k) ∙ is);
}
  where
    step : (k : ℕ) (q : PortState) (b : Bool) (o : Option PortState) → port_in t.ports k ≡ o → (if b then option_map unheld o else o) ≡ Some q → RoomOf t q
    step k q true None there e = absurd (none-some q e)
    step k q false None there e = absurd (none-some q e)
    step k q true (Some p) there e = subst (λ (z : Option PortState). RoomOf t (option_map_or (λ y. y) z p)) e (have.most k p there)
    step k q false (Some p) there e = subst (λ (z : Option PortState). RoomOf t (option_map_or (λ y. y) z p)) e (have.most k p there)

made : (t : HubTables) (new : PortState) (pools : List (Option PoolState)) → HaveRoom t
    → nat_le (most_of t.settings new.role) (length (numbers_of_role new.role t.ports)) ≡ false
    → new.incoming.most ≡ most_of t.settings (other_role new.role) → HaveRoom (with_port_made t new pools)
made t new pools have more room = record {
  few = λ role. subst (λ (ks : List ℕ). length ks ≤ most_of t.settings role) (sym (role_with t new role)) (few role (same_role new.role role) refl);
  most = λ k q is. step k q (port_in t.ports k) refl (new.number == k) (sym (port_with t.settings t.ports new k) ∙ is);
}
  where
    few : (role : Role) (b : Bool) → same_role new.role role ≡ b → length (numbers_of_role role t.ports ++ (if b then new.number ∷ [] else [])) ≤ most_of t.settings role
    few role true e =
        one_more (length (numbers_of_role role t.ports)) (most_of t.settings role) _ (length-append (numbers_of_role role t.ports) (new.number ∷ []))
        (leb-false (most_of t.settings role) (length (numbers_of_role role t.ports)) (subst (λ r. nat_le (most_of t.settings r) (length (numbers_of_role r t.ports)) ≡ false) (same_roles new.role role e) more))
      where
        one_more : (a m l : ℕ) → l ≡ a + 1 → a < m → l ≤ m
        one_more a m l e h = omega (arith, e, h)
    few role false e = no_more (length (numbers_of_role role t.ports)) (most_of t.settings role) _ (length-append (numbers_of_role role t.ports) []) (have.few role)
      where
        no_more : (a m l : ℕ) → l ≡ a + 0 → a ≤ m → l ≤ m
        no_more a m l e h = omega (arith, e, h)

    old : (p : PortState) → RoomOf t p → RoomOf t (connected_to t.settings new p)
    old p is =
        shows_same t.settings t.ports new (λ q. q.incoming.most) p (λ ps. refl) ∙ is
        ∙ ap (λ r. most_of t.settings (other_role r)) (sym (shows_same t.settings t.ports new (λ q. q.role) p (λ ps. refl)))

    step : (k : ℕ) (q : PortState) (o : Option PortState) → port_in t.ports k ≡ o → (b : Bool)
        → or_else (option_map (connected_to t.settings new) o) (if b then Some (connected_from t.settings t.ports new) else None) ≡ Some q → RoomOf t q
    step k q (Some p) there b e = subst (λ (z : Option PortState). RoomOf t (option_map_or (λ y. y) z p)) e (old p (have.most k p there))
    step k q None there true e = subst (λ (z : Option PortState). RoomOf t (option_map_or (λ y. y) z new)) e room
    step k q None there false e = absurd (none-some q e)

pub room_always_stays : RoomAlwaysStays
room_always_stays t = record { gone = gone t; released = released t; made = made t }
