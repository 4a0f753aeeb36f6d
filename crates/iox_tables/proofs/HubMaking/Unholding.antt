-- Ports stay connected as a port's own value is released.
use Rattle.std.specs.Prelude.{◌≡◌, ℕ, Bool, true, false, if◌then◌else◌, ◌==◌, List, [], ◌∷◌, ◌++◌, map, filter, Option, Some, None, refl}
use Rattle.std.specs.Option.{option_map, option_map_or}
use Rattle.std.proofs.Common.{sym, ap, ◌∙◌, subst}
use Rattle.std.proofs.lemmas.Option.{none-some}
use Rattle.iox_model.specs.declared.kind.Role.{Role}
use Rattle.iox_model.specs.declared.kind.Role.TheVariants.{Client}
use Rattle.iox_model.specs.Maps.{AreDistinct}
use Rattle.iox_model.specs.Settings.{other_role, same_role}
use Rattle.iox_tables.specs.HubStates.Tables.{HubTables, PortState, pipes_of, pipes_to, port_in, senders_of}
use Rattle.iox_tables.specs.HubStates.Ways.{lane_by, with_port}
use Rattle.iox_tables.specs.HubStates.Releases.{with_value_released}
use Rattle.iox_tables.specs.HubStates.Wirings.{HaveLimits, IsWired, limit_from, numbers_of_role}
use Rattle.iox_tables.proofs.HubStates.Keys.{first_changed, same_mapped}
use Rattle.iox_tables.specs.HubMaking.Disconnections.{MayGo, is_unused, with_disconnected}
use Rattle.iox_tables.specs.HubMaking.Wires.{AreConnected, ReleasesKeepOthers}
use Rattle.iox_tables.proofs.HubBooks.Frames.{port_bare}
use Rattle.iox_tables.proofs.HubBooks.Structures.{kept_alike}
use Rattle.iox_tables.proofs.HubMaking.Leaving.{left_connected}

abbrev pub unheld : PortState → PortState
unheld p = record p { held = false }

module _ (t : HubTables) (n : ℕ) where
  abbrev v : HubTables
  v = with_value_released t n

  pub port_is : (k : ℕ) → port_in v.ports k ≡ (if k == n then option_map unheld (port_in t.ports k) else port_in t.ports k)
  port_is k = first_changed (λ p. p.number) unheld (λ p. refl) t.ports n k

  pub part_is : {B : Type 0} (show : PortState → B) (none : B) → ((p : PortState) → show (unheld p) ≡ show p) → (k : ℕ)
      → option_map_or show (port_in v.ports k) none ≡ option_map_or show (port_in t.ports k) none
  part_is show none same k = ap (λ o. option_map_or show o none) (port_is k) ∙ step (k == n) (port_in t.ports k)
    where
      step : (b : Bool) (o : Option PortState) → option_map_or show (if b then option_map unheld o else o) none ≡ option_map_or show o none
      step true (Some p) = same p
      step true None = refl
      step false o = refl

  pub roles_are : (role : Role) (ports : List PortState) → numbers_of_role role (with_port unheld ports n) ≡ numbers_of_role role ports
  roles_are role [] = refl
  roles_are role (p ∷ ps) = step (p.number == n) (same_role p.role role) refl (roles_are role ps)
    where
      step : (a b : Bool) → same_role p.role role ≡ b → numbers_of_role role (with_port unheld ps n) ≡ numbers_of_role role ps
          → numbers_of_role role (if a then unheld p ∷ ps else p ∷ with_port unheld ps n)
          ≡ map (λ q. q.number) (if b then p ∷ filter (λ q. same_role q.role role) ps else filter (λ q. same_role q.role role) ps)
      step true true e rest = ap (λ (b : Bool). map (λ q. q.number) (if b then unheld p ∷ filter (λ q. same_role q.role role) ps else filter (λ q. same_role q.role role) ps)) e
      step true false e rest = ap (λ (b : Bool). map (λ q. q.number) (if b then unheld p ∷ filter (λ q. same_role q.role role) ps else filter (λ q. same_role q.role role) ps)) e
      step false true e rest =
          ap (λ (b : Bool). map (λ q. q.number) (if b then p ∷ filter (λ q. same_role q.role role) (with_port unheld ps n) else filter (λ q. same_role q.role role) (with_port unheld ps n))) e
          ∙ ap (λ ks. p.number ∷ ks) rest
      step false false e rest =
          ap (λ (b : Bool). map (λ q. q.number) (if b then p ∷ filter (λ q. same_role q.role role) (with_port unheld ps n) else filter (λ q. same_role q.role role) (with_port unheld ps n))) e ∙ rest

module _ (t : HubTables) (n : ℕ) (are : AreConnected t) where
  abbrev u : HubTables
  u = with_value_released t n

  wired_still : (p : PortState) → IsWired t p → (q : PortState) → q.incoming.pipes ≡ p.incoming.pipes → q.expired.pipes ≡ p.expired.pipes → q.role ≡ p.role → IsWired u q
  wired_still p it q incoming expired role = record {
    senders = ap senders_of incoming ∙ it.senders ∙ sym (roles_are t n (other_role p.role) t.ports) ∙ ap (λ r. numbers_of_role (other_role r) u.ports) (sym role);
    apart = subst AreDistinct (λ i. senders_of (sym expired i ++ sym incoming i)) it.apart;
    none_kept = λ e h. expired ∙ it.none_kept (sym role ∙ e) h;
  }

  each_wired : (k : ℕ) (q : PortState) → port_in u.ports k ≡ Some q → IsWired u q
  each_wired k q is = step (k == n) (port_in t.ports k) refl (sym (port_is t n k) ∙ is)
    where
      step : (b : Bool) (o : Option PortState) → port_in t.ports k ≡ o → (if b then option_map unheld o else o) ≡ Some q → IsWired u q
      step true None there e = absurd (none-some q e)
      step false None there e = absurd (none-some q e)
      step true (Some p) there e = subst (λ (z : Option PortState). IsWired u (option_map_or (λ y. y) z p)) e (wired_still p (are.wired k p there) (unheld p) refl refl refl)
      step false (Some p) there e = subst (λ (z : Option PortState). IsWired u (option_map_or (λ y. y) z p)) e (wired_still p (are.wired k p there) p refl refl refl)

  pipes_are : pipes_to u.ports ≡ pipes_to t.ports
  pipes_are = λ i k. part_is t n pipes_of [] (λ p. refl) k i

  limits_are : HaveLimits u
  limits_are w l is =
      are.limits w l (sym (ap (λ pipes. lane_by pipes w) pipes_are) ∙ is)
      ∙ ap (λ role. limit_from t.settings (other_role role)) (sym (part_is t n (λ p. p.role) Client (λ p. refl) w.receiver))

  pub unheld_connected : AreConnected u
  unheld_connected = record {
    apart = subst AreDistinct (sym (same_mapped (λ p. p.number) unheld (λ p. p.number) (λ p. refl) t.ports n)) are.apart;
    wired = each_wired;
    limits = limits_are;
    kept = kept_alike t u (port_bare unheld (λ p. refl) t.ports n) refl are.kept;
  }

pub releases_keep_others : ReleasesKeepOthers
releases_keep_others t n are = (unheld_connected t n are, λ may. step may (is_unused t n))
  where
    step : MayGo t n → (b : Bool) → AreConnected (if b then with_disconnected t n else t)
    step may true = left_connected t n are may
    step may false = are
