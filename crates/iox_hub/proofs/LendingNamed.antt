-- Clients and active requests of a hub, and who lends.
use Rattle.std.specs.Prelude.{◌≡◌, ℕ, Bool, true, false, ◌&&◌, ◌||◌, if◌then◌else◌, ◌==◌, Option, Some, None, IsSome, option_map, refl}
use Rattle.std.proofs.Common.{sym, ap, subst, ◌∙◌, arith, true≢false, eqb-true}
use Rattle.std.proofs.lemmas.Option.{none-some, same_Some}
use Rattle.iox_model.specs.declared.kind.Kind.{Kind}
use Rattle.iox_model.specs.declared.kind.Kind.TheVariants as kinds
use Rattle.iox_model.specs.declared.kind.Role.{Role}
use Rattle.iox_model.specs.declared.kind.Role.TheVariants.{Client, Server}
use Rattle.iox_model.specs.Handles.{is_own, is_received, kind_code}
use Rattle.iox_tables.specs.HubStates.Tables.{HandleState, HubTables, PortState, port_in}
use Rattle.iox_tables.specs.HubStates.Wirings.{handle_in}
use Rattle.iox_tables.specs.HubBooks.Handles.{IsOfPort, role_for}
use Rattle.iox_tables.specs.HubBooks.Hubs.{AreInOrder}
use Rattle.iox_tables.proofs.HubBooks.Used.{handle_is}
use Rattle.iox_tables.specs.HubLoans.Lenders.{IsActive, IsClient}
use Rattle.iox_tables.specs.HubLoans.Questions.{kind_by, kind_in, kind_of_role}
use Rattle.iox_hub.specs.Hubs.{HasValue, HubState, IsHub}
use Rattle.iox_hub.proofs.Named.{found_is_handle}

client_role : (role : Role) → kind_of_role role ≡ kinds.Client → role ≡ Client
client_role Client e = refl
client_role Server e = absurd (omega (arith, ap kind_code e))

no_client_kind : (kind : Kind) → kind ≡ kinds.Client → (is_own kind || is_received kind) ≡ true → ⊥
no_client_kind kind e either = true≢false (sym either ∙ ap (λ k. is_own k || is_received k) e)

no_active_port : (role : Role) → kind_of_role role ≡ kinds.ActiveRequest → ⊥
no_active_port Client e = omega (arith, ap kind_code e)
no_active_port Server e = omega (arith, ap kind_code e)

module _ (t : HubTables) (order : AreInOrder t) (node n : ℕ) where
  client_is : kind_in t node n ≡ Some kinds.Client → IsClient t node n
  client_is e = step (port_in t.ports n) refl (handle_in t.handles node n) refl e
    where
      held : (p : PortState) → port_in t.ports n ≡ Some p → (a b : Bool) → p.held ≡ a → (p.node == node) ≡ b
          → (if a && b then Some (kind_of_role p.role) else None) ≡ Some kinds.Client → IsClient t node n
      held p there true true is of f = record {
        port = p;
        there = there;
        on_node = eqb-true p.node node of;
        client = client_role p.role (same_Some (kind_of_role p.role) kinds.Client f);
        held = is;
      }
      held p there true false is of f = absurd (none-some kinds.Client f)
      held p there false b is of f = absurd (none-some kinds.Client f)

      step : (o : Option PortState) → port_in t.ports n ≡ o → (q : Option HandleState) → handle_in t.handles node n ≡ q
          → kind_by node o q ≡ Some kinds.Client → IsClient t node n
      step (Some p) there q at f = held p there p.held (p.node == node) refl refl f
      step None there (Some h) at f =
          absurd (no_client_kind h.kind (same_Some h.kind kinds.Client f) (handle_is (IsOfPort t) t.handles node n h order.ports at).either)
      step None there None at f = absurd (none-some kinds.Client f)

  active_is : kind_in t node n ≡ Some kinds.ActiveRequest → IsActive t node n
  active_is e = step (port_in t.ports n) (handle_in t.handles node n) refl e
    where
      held : (p : PortState) (a b : Bool) → (if a && b then Some (kind_of_role p.role) else None) ≡ Some kinds.ActiveRequest → ⊥
      held p true true f = no_active_port p.role (same_Some (kind_of_role p.role) kinds.ActiveRequest f)
      held p true false f = none-some kinds.ActiveRequest f
      held p false b f = none-some kinds.ActiveRequest f

      found : (h : HandleState) → handle_in t.handles node n ≡ Some h → h.kind ≡ kinds.ActiveRequest → IsActive t node n
      found h at is =
          let of : IsOfPort t h = handle_is (IsOfPort t) t.handles node n h order.ports at in
          record {
            handle = h;
            named = found_is_handle t order node n h at;
            kind = is;
            port = of.port;
            there = of.there;
            server = of.role ∙ ap role_for is;
          }

      step : (o : Option PortState) (q : Option HandleState) → handle_in t.handles node n ≡ q → kind_by node o q ≡ Some kinds.ActiveRequest → IsActive t node n
      step (Some p) q at f = absurd (held p p.held (p.node == node) f)
      step None (Some h) at f = found h at (same_Some h.kind kinds.ActiveRequest f)
      step None None at f = absurd (none-some kinds.ActiveRequest f)

pub client_of_hub : {h : HubState} → IsHub h → (now : HubState) → h ≡ now → (node n : ℕ) → HasValue now node n kinds.Client
    → IsClient h.control.tables node n
client_of_hub {h} hub now is node n has =
    client_is h.control.tables hub.control.order node n (subst (λ (d : HubState). HasValue d node n kinds.Client) (sym is) has)

pub active_of_hub : {h : HubState} → IsHub h → (now : HubState) → h ≡ now → (node n : ℕ) → HasValue now node n kinds.ActiveRequest
    → IsActive h.control.tables node n
active_of_hub {h} hub now is node n has =
    active_is h.control.tables hub.control.order node n (subst (λ (d : HubState). HasValue d node n kinds.ActiveRequest) (sym is) has)

-- what has a default where it is shown has one
pub has_default : {A B : Type 0} (f : A → B) (o : Option A) → IsSome (option_map f o) → IsSome o
has_default f (Some a) is = refl
has_default f None is = is
