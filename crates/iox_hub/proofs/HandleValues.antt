-- A value of a kind that no port has is a handle: it is looked for only there.
use Rattle.std.specs.Prelude.{◌≡◌, ℕ, Bool, true, false, ◌&&◌, ◌↔◌, if◌then◌else◌, ◌==◌, Option, Some, None, IsTrue, refl}
use Rattle.std.proofs.Common.{sym, ap, ◌∙◌, true≢false}
use Rattle.std.specs.Option.{option_map}
use Rattle.std.proofs.lemmas.Option.{none-some, same_Some}
use denote.Enum.Bare.{sameb, same_true, true_same}
use Rattle.iox_model.specs.contracts.kind.Kind.{the_type}
use Rattle.iox_model.specs.declared.kind.Kind.{Kind}
use Rattle.iox_model.specs.declared.kind.Role.{Role}
use Rattle.iox_model.specs.declared.kind.Role.TheVariants.{Client, Server}
use Rattle.iox_handles.specs.declared.entry.Entry.{Entry}
use Rattle.iox_control.specs.Entries.{handle_state}
use Rattle.iox_tables.specs.HubBooks.Hubs.{AreInOrder}
use Rattle.iox_tables.specs.HubLoans.Questions.{kind_by, kind_in, kind_of_role}
use Rattle.iox_tables.specs.HubStates.Tables.{HandleState, HubTables, PortState, port_in}
use Rattle.iox_tables.specs.HubStates.Wirings.{handle_in}
use Rattle.iox_hub_ports.specs.declared.info.PortInfo.{PortInfo}
use Rattle.iox_hub_ports.specs.Ports.{info_in, info_of}
use Rattle.iox_hub.specs.Sending.{is_handle}
use Rattle.iox_hub.proofs.Named.{handle_is_value}

no_handle_kind : (role : Role) (kind : Kind) → kind_of_role role ≡ kind → is_handle kind ≡ true → ⊥
no_handle_kind Client kind e is = true≢false (sym is ∙ ap is_handle (sym e))
no_handle_kind Server kind e is = true≢false (sym is ∙ ap is_handle (sym e))

-- ---- a port of which that is said

module _ (t : HubTables) (node n : ℕ) (kind : Kind) (i : PortInfo) (there : Some i ≡ info_in t.ports n) where
  abbrev told_kind : PortInfo → Option Kind
  told_kind j = if j.held && (j.node == node) then Some (kind_of_role j.role) else None

  by_port : (o : Option PortState) (q : Option HandleState) → Some i ≡ option_map info_of o → kind_by node o q ≡ told_kind i
  by_port None q e = absurd (none-some i (sym e))
  by_port (Some p) q e = ap told_kind (sym (same_Some i (info_of p) e))

  kind_is : (b : Bool) → (i.held && (i.node == node)) ≡ b → kind_in t node n ≡ (if b then Some (kind_of_role i.role) else None)
  kind_is b e =
      by_port (port_in t.ports n) (handle_in t.handles node n) there
      ∙ ap (λ (c : Bool). if c then Some (kind_of_role i.role) else None) e

  -- the node has such a value exactly if the role is that of the kind
  pub port_has : (same : Bool) → same ≡ sameb the_type (kind_of_role i.role) kind → (i.held && (i.node == node)) ≡ true
      → IsTrue same ↔ (kind_in t node n ≡ Some kind)
  port_has same told own = (
    λ yes. kind_is true own ∙ ap (λ k. Some k) (same_true the_type tt (kind_of_role i.role) kind (sym told ∙ yes)),
    λ has. told ∙ true_same the_type (kind_of_role i.role) kind (same_Some (kind_of_role i.role) kind (sym (kind_is true own) ∙ has)),
  )

  -- where it is released, or another node's, the node has no such value
  pub port_has_not : (i.held && (i.node == node)) ≡ false → IsTrue false ↔ (kind_in t node n ≡ Some kind)
  port_has_not not = (
    λ no. absurd (true≢false (sym no)),
    λ has. absurd (none-some kind (sym (kind_is false not) ∙ has)),
  )

-- ---- a handle

module _ (t : HubTables) (order : AreInOrder t) (node n : ℕ) (kind : Kind) (is : is_handle kind ≡ true) where
  by_handle : (o : Option PortState) (q : Option HandleState) → kind_by node o q ≡ Some kind → (h : HandleState) × (q ≡ Some h) × (h.kind ≡ kind)
  by_handle (Some p) q e = absurd (held p.held (p.node == node) e)
    where
      held : (a b : Bool) → (if a && b then Some (kind_of_role p.role) else None) ≡ Some kind → ⊥
      held true true f = no_handle_kind p.role kind (same_Some (kind_of_role p.role) kind f) is
      held true false f = none-some kind f
      held false b f = none-some kind f
  by_handle None (Some h) e = (h, refl, same_Some h.kind kind e)
  by_handle None None e = absurd (none-some kind e)

  -- a handle that is found is of that kind exactly if the node has such a value
  pub found_has : (e : Entry) (same : Bool) → same ≡ sameb the_type e.kind kind → Some (handle_state e) ≡ handle_in t.handles node n
      → IsTrue same ↔ (kind_in t node n ≡ Some kind)
  found_has e same told found = (
    λ yes. handle_is_value t order node n (handle_state e) (sym found) ∙ ap (λ k. Some k) (same_true the_type tt e.kind kind (sym told ∙ yes)),
    λ has.
        let h = by_handle (port_in t.ports n) (handle_in t.handles node n) has in
        told ∙ true_same the_type e.kind kind (ap (λ (g : HandleState). g.kind) (same_Some (handle_state e) h.0 (found ∙ h.1)) ∙ h.2),
  )

  -- where none is found, the node has no such value
  pub missing_has : None ≡ handle_in t.handles node n → IsTrue false ↔ (kind_in t node n ≡ Some kind)
  missing_has none = (
    λ no. absurd (true≢false (sym no)),
    λ has. let h = by_handle (port_in t.ports n) (handle_in t.handles node n) has in absurd (none-some h.0 (none ∙ h.1)),
  )
