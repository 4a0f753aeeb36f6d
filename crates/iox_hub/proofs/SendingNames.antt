-- What a number names before a release or a send, and what it names then.
use Rattle.std.specs.Prelude.{◌≡◌, ℕ, Bool, true, false, not, ◌&&◌, ◌||◌, if◌then◌else◌, ◌==◌, List, [], ◌∷◌, Option, Some, None, refl}
use Rattle.std.specs.Option.{option_map_or}
use Rattle.std.proofs.Common.{sym, ap, ap₂, ◌∙◌, true≢false, eqb-true, eq-eqb}
use Rattle.std.proofs.lemmas.Option.{none-some, same_Some}
use Rattle.iox_model.specs.declared.kind.Kind.{Kind}
use Rattle.iox_model.specs.declared.kind.Kind.TheVariants as kinds
use Rattle.iox_model.specs.declared.kind.Role.{Role}
use Rattle.iox_model.specs.declared.kind.Role.TheVariants.{Client, Server}
use Rattle.iox_model.specs.Handles.{is_own, is_received}
use Rattle.iox_model.specs.Names.{is_port}
use Rattle.iox_tables.specs.HubStates.Tables.{HandleState, HubTables, PortState, port_in}
use Rattle.iox_tables.specs.HubStates.Ends.{changed_handles, dropped_handles}
use Rattle.iox_tables.specs.HubStates.Wirings.{IsHandle, handle_in}
use Rattle.iox_tables.specs.HubLoans.Questions.{kind_by, kind_in, kind_of_role}
use Rattle.iox_tables.specs.HubBooks.Handles.{IsOfPort}
use Rattle.iox_tables.specs.HubBooks.Hubs.{AreInOrder}
use Rattle.iox_tables.proofs.HubBooks.Used.{handle_is}
use Rattle.iox_control_releasing.specs.Named.{IsHeldPort}
use Rattle.iox_hub.proofs.Named.{found_is_handle, handle_is_value}
use Rattle.iox_hub.proofs.ReleasingFits.{AreLeft}

-- ---- kinds

port_is_port : (role : Role) → is_port (kind_of_role role) ≡ true
port_is_port Client = refl
port_is_port Server = refl

no_port : (kind : Kind) → (is_own kind || is_received kind) ≡ true → is_port kind ≡ false
no_port kinds.Client e = sym e
no_port kinds.Server e = sym e
no_port kinds.RequestMutUninit e = refl
no_port kinds.RequestMut e = refl
no_port kinds.ResponseMutUninit e = refl
no_port kinds.ResponseMut e = refl
no_port kinds.PendingResponse e = refl
no_port kinds.ActiveRequest e = refl
no_port kinds.Response e = refl

pub not_port : (b : Bool) → not b ≡ true → b ≡ false
not_port true e = sym e
not_port false e = refl

-- ---- what a number names

-- A value of a kind that passes.
pub record Passes (test : Kind → Bool) (o : Option Kind) : Type 0 where
  pub kind : Kind
  pub is : o ≡ Some kind
  pub passes : test kind ≡ true

pub what_passes : (test : Kind → Bool) (o : Option Kind) → option_map_or test o false ≡ true → Passes test o
what_passes test (Some kind) e = record { kind = kind; is = refl; passes = e }
what_passes test None e = absurd (true≢false (sym e))

-- A handle of that kind.
pub record IsOfKind (t : HubTables) (node n : ℕ) (kind : Kind) : Type 0 where
  pub handle : HandleState
  pub named : IsHandle t node n handle
  pub is : handle.kind ≡ kind

module _ (t : HubTables) (order : AreInOrder t) (node n : ℕ) where
  pub handle_of_kind : (kind : Kind) → is_port kind ≡ false → kind_in t node n ≡ Some kind → IsOfKind t node n kind
  handle_of_kind kind other e = step (port_in t.ports n) (handle_in t.handles node n) refl e
    where
      held : (role : Role) (a : Bool) → (if a then Some (kind_of_role role) else None) ≡ Some kind → ⊥
      held role true f = true≢false (sym (port_is_port role) ∙ ap is_port (same_Some (kind_of_role role) kind f) ∙ other)
      held role false f = none-some kind f

      step : (o : Option PortState) (q : Option HandleState) → handle_in t.handles node n ≡ q → kind_by node o q ≡ Some kind → IsOfKind t node n kind
      step (Some p) q at f = absurd (held p.role (p.held && (p.node == node)) f)
      step None (Some k) at f = record { handle = k; named = found_is_handle t order node n k at; is = same_Some k.kind kind f }
      step None None at f = absurd (none-some kind f)

  pub port_of_kind : (kind : Kind) → is_port kind ≡ true → kind_in t node n ≡ Some kind → IsHeldPort t node n
  port_of_kind kind own e = step (port_in t.ports n) refl (handle_in t.handles node n) refl e
    where
      held : (p : PortState) → port_in t.ports n ≡ Some p → (a b : Bool) → p.held ≡ a → (p.node == node) ≡ b
          → (if a && b then Some (kind_of_role p.role) else None) ≡ Some kind → IsHeldPort t node n
      held p there true true is at f = record { port = p; there = there; on_node = eqb-true p.node node at; held = is }
      held p there true false is at f = absurd (none-some kind f)
      held p there false b is at f = absurd (none-some kind f)

      step : (o : Option PortState) → port_in t.ports n ≡ o → (q : Option HandleState) → handle_in t.handles node n ≡ q → kind_by node o q ≡ Some kind → IsHeldPort t node n
      step (Some p) there q at f = held p there p.held (p.node == node) refl refl f
      step None there (Some k) at f =
          absurd (true≢false (sym own ∙ ap is_port (sym (same_Some k.kind kind f)) ∙ no_port k.kind (handle_is (IsOfPort t) t.handles node n k order.ports at).either))
      step None there None at f = absurd (none-some kind f)

-- ---- what it names then

pub found_node : (hs : List HandleState) (node n : ℕ) (h : HandleState) → handle_in hs node n ≡ Some h → (h.node ≡ node) × (h.number ≡ n)
found_node [] node n h e = absurd (none-some h e)
found_node (k ∷ ks) node n h e = step (k.node == node) (k.number == n) refl refl e (found_node ks node n h)
  where
    step : (a b : Bool) → (k.node == node) ≡ a → (k.number == n) ≡ b → (if a && b then Some k else handle_in ks node n) ≡ Some h
        → (handle_in ks node n ≡ Some h → (h.node ≡ node) × (h.number ≡ n)) → (h.node ≡ node) × (h.number ≡ n)
    step true true p q f rest =
        let same : k ≡ h = same_Some k h f in
        (ap (λ (z : HandleState). z.node) (sym same) ∙ eqb-true k.node node p, ap (λ (z : HandleState). z.number) (sym same) ∙ eqb-true k.number n q)
    step true false p q f rest = rest f
    step false b p q f rest = rest f

pub not_found : (node n : ℕ) (hs : List HandleState) → handle_in (dropped_handles node n hs) node n ≡ None
not_found node n [] = refl
not_found node n (k ∷ ks) = step ((k.node == node) && (k.number == n)) refl (not_found node n ks)
  where
    step : (b : Bool) → ((k.node == node) && (k.number == n)) ≡ b → handle_in (dropped_handles node n ks) node n ≡ None
        → handle_in (if not b then k ∷ dropped_handles node n ks else dropped_handles node n ks) node n ≡ None
    step true is rest = rest
    step false is rest = ap (λ (b : Bool). if b then Some k else handle_in (dropped_handles node n ks) node n) is ∙ rest

found_changed : (new h : HandleState) (hs : List HandleState) → handle_in hs new.node new.number ≡ Some h → handle_in (changed_handles new hs) new.node new.number ≡ Some new
found_changed new h [] e = absurd (none-some h e)
found_changed new h (k ∷ ks) e = step ((k.node == new.node) && (k.number == new.number)) refl e (found_changed new h ks)
  where
    step : (b : Bool) → ((k.node == new.node) && (k.number == new.number)) ≡ b
        → (if b then Some k else handle_in ks new.node new.number) ≡ Some h
        → (handle_in ks new.node new.number ≡ Some h → handle_in (changed_handles new ks) new.node new.number ≡ Some new)
        → handle_in (if b then new ∷ ks else k ∷ changed_handles new ks) new.node new.number ≡ Some new
    step true is f rest =
        ap₂ (λ (a b : Bool). if a && b then Some new else handle_in ks new.node new.number) (eq-eqb new.node new.node refl) (eq-eqb new.number new.number refl)
    step false is f rest = ap (λ (b : Bool). if b then Some k else handle_in (changed_handles new ks) new.node new.number) is ∙ rest f

-- no port has the number of a handle, as no new ports come
pub no_port_then : (old new : List PortState) (n : ℕ) → AreLeft old new → port_in old n ≡ None → port_in new n ≡ None
no_port_then old new n left none = step (port_in new n) refl
  where
    step : (o : Option PortState) → port_in new n ≡ o → o ≡ None
    step None at = refl
    step (Some p) at = let q = left n p at in absurd (none-some q.0 (sym none ∙ q.1))

module _ (t t' : HubTables) (node n : ℕ) (h : HandleState) (named : IsHandle t node n h) where
  -- nothing, once its handle is gone
  pub names_nothing : AreLeft t.ports t'.ports → (hs : List HandleState) → t'.handles ≡ dropped_handles node n hs → kind_in t' node n ≡ None
  names_nothing left hs is =
      ap₂ (kind_by node) (no_port_then t.ports t'.ports n left named.no_port) (ap (λ ks. handle_in ks node n) is ∙ not_found node n hs)

  -- a value of another kind, once its handle is of that
  pub names_changed : AreInOrder t' → (new : HandleState) → new.node ≡ h.node → new.number ≡ h.number → t'.handles ≡ changed_handles new t.handles
      → kind_in t' node n ≡ Some new.kind
  names_changed order new on_node number is =
      let key = found_node t.handles node n h named.there in
      let nodes : new.node ≡ node = on_node ∙ key.0 in
      let numbers : new.number ≡ n = number ∙ key.1 in
      let old : handle_in t.handles new.node new.number ≡ Some h = ap₂ (handle_in t.handles) nodes numbers ∙ named.there in
      handle_is_value t' order node n new
      (ap (λ hs. handle_in hs node n) is ∙ sym (ap₂ (handle_in (changed_handles new t.handles)) nodes numbers) ∙ found_changed new h t.handles old)
