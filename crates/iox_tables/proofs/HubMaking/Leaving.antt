-- Once a port is gone, all others stay connected.
use Rattle.std.specs.Prelude.{◌≡◌, ℕ, Bool, true, false, not, ◌||◌, if◌then◌else◌, ◌==◌, List, [], ◌∷◌, ◌++◌, map, filter, Option, Some, None, refl}
use Rattle.std.specs.Option.{option_map, option_map_or}
use Rattle.std.proofs.Common.{sym, ap, ◌∙◌, true≢false, subst}
use Rattle.std.proofs.lemmas.Option.{none-some}
use Rattle.iox_model.specs.declared.kind.Role.{Role}
use Rattle.iox_model.specs.declared.kind.Role.TheVariants.{Client}
use Rattle.iox_model.specs.Maps.{AreDistinct, has_number}
use Rattle.iox_model.specs.Settings.{other_role, same_role}
use Rattle.iox_lanes.specs.Pipes.{PipeState}
use Rattle.iox_tables.specs.HubStates.Tables.{HubTables, PortState, numbers_of, pipes_of, port_in, senders_of}
use Rattle.iox_tables.specs.HubStates.States.{expired_in}
use Rattle.iox_tables.specs.HubStates.Ways.{lane_on}
use Rattle.iox_tables.specs.HubStates.Wirings.{HaveLimits, IsWired, limit_from, numbers_of_role, role_in}
use Rattle.iox_tables.specs.HubMaking.Disconnections.{MayGo, cut_from, is_left, ports_without, with_disconnected}
use Rattle.iox_tables.specs.HubMaking.Expirings.{KeepsExpired}
use Rattle.iox_tables.specs.HubMaking.Wires.{AreConnected, GonePortsLeaveOthers, PortIsGone}
use Rattle.iox_tables.proofs.HubMaking.Disconnecting.{lane_left, part_left, pipe_left, port_left, state_left}
use Rattle.iox_tables.proofs.HubMaking.Distinct.{distinct_kept, numbers_kept}
use Rattle.iox_tables.proofs.HubMaking.Kept.{apart_cut, kept_cut, none_cut}

module _ (n : ℕ) where
  abbrev stay : ℕ → Bool
  stay k = not (k == n)

  numbers_left : (ports : List PortState) → numbers_of (ports_without n ports) ≡ filter stay (numbers_of ports)
  numbers_left ports = same (filter (λ p. stay p.number) ports) ∙ numbers_kept (λ p. p.number) stay ports
    where
      same : (ps : List PortState) → numbers_of (map (cut_from n) ps) ≡ numbers_of ps
      same [] = refl
      same (p ∷ ps) = ap (λ ks. p.number ∷ ks) (same ps)

  pub roles_left : (role : Role) (ports : List PortState) → filter stay (numbers_of_role role ports) ≡ numbers_of_role role (ports_without n ports)
  roles_left role [] = refl
  roles_left role (p ∷ ps) = step (same_role p.role role) refl (stay p.number) refl (roles_left role ps)
    where
      step : (a : Bool) → same_role p.role role ≡ a → (b : Bool) → stay p.number ≡ b
          → filter stay (numbers_of_role role ps) ≡ numbers_of_role role (ports_without n ps)
          → filter stay (map (λ q. q.number) (if a then p ∷ filter (λ q. same_role q.role role) ps else filter (λ q. same_role q.role role) ps))
          ≡ numbers_of_role role (map (cut_from n) (if b then p ∷ filter (λ q. stay q.number) ps else filter (λ q. stay q.number) ps))
      step true ea true eb rest =
          ap (λ (b : Bool). if b then p.number ∷ filter stay (numbers_of_role role ps) else filter stay (numbers_of_role role ps)) eb
          ∙ ap (λ ks. p.number ∷ ks) rest
          ∙ sym (ap (λ (a : Bool). map (λ q. q.number) (if a then cut_from n p ∷ filter (λ q. same_role q.role role) (ports_without n ps) else filter (λ q. same_role q.role role) (ports_without n ps))) ea)
      step true ea false eb rest = ap (λ (b : Bool). if b then p.number ∷ filter stay (numbers_of_role role ps) else filter stay (numbers_of_role role ps)) eb ∙ rest
      step false ea true eb rest =
          rest ∙ sym (ap (λ (a : Bool). map (λ q. q.number) (if a then cut_from n p ∷ filter (λ q. same_role q.role role) (ports_without n ps) else filter (λ q. same_role q.role role) (ports_without n ps))) ea)
      step false ea false eb rest = rest

module _ (t : HubTables) (n : ℕ) (are : AreConnected t) (may : MayGo t n) where
  abbrev u : HubTables
  u = with_disconnected t n

  apart : (k : ℕ) (p : PortState) → port_in t.ports k ≡ Some p → AreDistinct (senders_of (pipes_of p))
  apart k p at = (are.wired k p at).apart

  gone : PortIsGone t n
  gone = record {
    numbers = numbers_left n t.ports;
    ports = port_left n t.ports;
    pipes = pipe_left n t.ports apart;
    lanes = lane_left n t.ports apart;
    states = state_left n t.ports apart;
  }

  wired_left : (k : ℕ) (p : PortState) → port_in t.ports k ≡ Some p → IsWired u (cut_from n p)
  wired_left k p is = record {
    senders =
        numbers_kept (λ q. q.sender) (stay n) p.incoming.pipes ∙ ap (filter (stay n)) (are.wired k p is).senders
        ∙ roles_left n (other_role p.role) t.ports;
    apart = apart_cut t n may k p is;
    none_kept = none_cut t n may k p is;
  }

  -- what is so of each port that is cut is so of each that is left
  each_left : (P : PortState → Type 0) → ((k : ℕ) (p : PortState) → port_in t.ports k ≡ Some p → P (cut_from n p)) → (k : ℕ) (q : PortState) → port_in u.ports k ≡ Some q → P q
  each_left P cut k q is = step (k == n) (port_in t.ports k) refl (sym (port_left n t.ports k) ∙ is)
    where
      step : (b : Bool) (o : Option PortState) → port_in t.ports k ≡ o → (if b then None else option_map (cut_from n) o) ≡ Some q → P q
      step true o there e = absurd (none-some q e)
      step false None there e = absurd (none-some q e)
      step false (Some p) there e = subst (λ (z : Option PortState). P (option_map_or (λ y. y) z (cut_from n p))) e (cut k p there)

  limits_left : HaveLimits u
  limits_left w l is = step (w.receiver == n) refl (sym (lane_left n t.ports apart w) ∙ is)
    where
      some_if : (b : Bool) → (if b then lane_on t.ports w else None) ≡ Some l → lane_on t.ports w ≡ Some l
      some_if true e = e
      some_if false e = absurd (none-some l e)

      step : (b : Bool) → (w.receiver == n) ≡ b → (if is_left n t.ports w.receiver w.sender then lane_on t.ports w else None) ≡ Some l
          → l.limit ≡ limit_from t.settings (other_role (role_in u.ports w.receiver))
      step true eb e =
          absurd (none-some l
          (sym (ap (λ (b : Bool). if (if b then false else (if (w.sender == n) || has_number w.sender (expired_in t.ports w.receiver) then has_number w.sender (expired_in u.ports w.receiver) else true)) then lane_on t.ports w else None) eb) ∙ e))
      step false eb e =
          are.limits w l (some_if (is_left n t.ports w.receiver w.sender) e)
          ∙ ap (λ role. limit_from t.settings (other_role role))
          (sym (part_left n t.ports (λ p. p.role) Client (λ p. refl) w.receiver ∙ ap (λ (b : Bool). if b then Client else role_in t.ports w.receiver) eb))

  pub left_connected : AreConnected u
  left_connected = record {
    apart = subst AreDistinct (sym (numbers_left n t.ports)) (distinct_kept (stay n) (numbers_of t.ports) are.apart);
    wired = each_left (IsWired u) wired_left;
    kept = each_left (KeepsExpired u) (kept_cut t n may);
    limits = limits_left;
  }

pub gone_ports_leave_others : GonePortsLeaveOthers
gone_ports_leave_others t n are may = (gone t n are may, left_connected t n are may)
