-- What a number names, where the tables are in order.
use Rattle.std.specs.Prelude.{◌≡◌, ℕ, ◌<◌, Bool, true, false, ◌&&◌, ◌||◌, if◌then◌else◌, ◌==◌, List, [], ◌∷◌, ◌++◌, map, Option, Some, None, refl}
use Rattle.std.proofs.Common.{sym, ap, ap₂, subst, ◌∙◌, arith, true≢false, eqb-true, eq-eqb}
use Rattle.std.proofs.lemmas.Option.{none-some, same_Some}
use Rattle.iox_model.specs.declared.kind.Kind.{Kind}
use Rattle.iox_model.specs.declared.kind.Kind.TheVariants.{PendingResponse}
use Rattle.iox_model.specs.declared.kind.Kind.TheVariants as kinds
use Rattle.iox_model.specs.declared.kind.Role.{Role}
use Rattle.iox_model.specs.declared.kind.Role.TheVariants.{Client, Server}
use Rattle.iox_model.specs.Handles.{is_own, is_received, kind_code}
use Rattle.iox_model.specs.Maps.{has_number}
use Rattle.iox_tables.specs.HubStates.Tables.{HandleState, HubTables, PortState, numbers_of, port_in}
use Rattle.iox_tables.specs.HubStates.Wirings.{IsHandle, IsPending, IsServer, handle_in}
use Rattle.iox_tables.specs.HubLoans.Questions.{kind_by, kind_in, kind_of_role}
use Rattle.iox_tables.specs.HubBooks.Handles.{IsOfPort, role_for}
use Rattle.iox_tables.specs.HubBooks.Hubs.{AreInOrder, numbers_in}
use Rattle.iox_hub.specs.Hubs.{HasValue, HubState, IsHub}
use Rattle.iox_control_releasing.proofs.Upped.{found_number, in_second, missing_port}
use Rattle.iox_tables.proofs.HubBooks.Received.{has_back}
use Rattle.iox_tables.proofs.HubBooks.Used.{handle_is}

-- ---- lists of numbers

-- a new handle is found by its number, where no other has it
found_last : (hs : List HandleState) (h : HandleState) → has_number h.number (map (λ k. k.number) hs) ≡ false → handle_in (hs ++ h ∷ []) h.node h.number ≡ Some h
found_last [] h e = ap₂ (λ (a b : Bool). if a && b then Some h else None) (eq-eqb h.node h.node refl) (eq-eqb h.number h.number refl)
found_last (k ∷ ks) h e = step (k.node == h.node) (k.number == h.number) e (found_last ks h)
  where
    step : (a b : Bool) → (b || has_number h.number (map (λ j. j.number) ks)) ≡ false
        → (has_number h.number (map (λ j. j.number) ks) ≡ false → handle_in (ks ++ h ∷ []) h.node h.number ≡ Some h)
        → (if a && b then Some k else handle_in (ks ++ h ∷ []) h.node h.number) ≡ Some h
    step a true none rest = absurd (true≢false none)
    step true false none rest = rest none
    step false false none rest = rest none

-- ---- the tables of a hub

module _ (t : HubTables) (order : AreInOrder t) where
  -- a handle that is found is what its number names
  pub found_is_handle : (node n : ℕ) (h : HandleState) → handle_in t.handles node n ≡ Some h → IsHandle t node n h
  found_is_handle node n h e = record {
    there = e;
    no_port = missing_port t.ports n
        (in_second (numbers_of t.ports) (map (λ k. k.number) t.handles) n order.numbers.apart (found_number t.handles node n h e));
  }

  -- a pending response is one of a client
  pub found_is_pending : (node n : ℕ) (h : HandleState) → handle_in t.handles node n ≡ Some h → h.kind ≡ PendingResponse → IsPending t node n
  found_is_pending node n h e is =
      let of : IsOfPort t h = handle_is (IsOfPort t) t.handles node n h order.ports e in record {
        handle = h;
        named = found_is_handle node n h e;
        kind = is;
        port = of.port;
        there = of.there;
        client = of.role ∙ ap role_for is;
      }

  number_is_new : (m : ℕ) → t.next_number ≡ m → has_number m (numbers_in t) ≡ false
  number_is_new m same = step (has_number m (numbers_in t)) refl
    where
      step : (b : Bool) → has_number m (numbers_in t) ≡ b → b ≡ false
      step false e = refl
      step true e = absurd (less (order.numbers.below m e))
        where
          less : m < t.next_number → ⊥
          less f = omega (arith, f, same)

  handle_is_new : has_number t.next_number (map (λ k. k.number) t.handles) ≡ false
  handle_is_new = step (has_number t.next_number (map (λ k. k.number) t.handles)) refl
    where
      step : (b : Bool) → has_number t.next_number (map (λ k. k.number) t.handles) ≡ b → b ≡ false
      step false e = refl
      step true e =
          absurd (true≢false (sym (has_back t.next_number (numbers_of t.ports) (map (λ k. k.number) t.handles) e) ∙ number_is_new t.next_number refl))

  -- a handle with the next number is found as it is added
  pub added_is_found : (h : HandleState) → h.number ≡ t.next_number → handle_in (t.handles ++ h ∷ []) h.node h.number ≡ Some h
  added_is_found h is = found_last t.handles h (subst (λ m. has_number m (map (λ k. k.number) t.handles) ≡ false) (sym is) handle_is_new)

-- ---- values

no_port_kind : (role : Role) → kind_of_role role ≡ PendingResponse → ⊥
no_port_kind Client e = omega (arith, ap kind_code e)
no_port_kind Server e = omega (arith, ap kind_code e)

server_role : (role : Role) → kind_of_role role ≡ kinds.Server → role ≡ Server
server_role Client e = absurd (omega (arith, ap kind_code e))
server_role Server e = refl

no_server_kind : (kind : Kind) → kind ≡ kinds.Server → (is_own kind || is_received kind) ≡ true → ⊥
no_server_kind kind e either = true≢false (sym either ∙ ap (λ k. is_own k || is_received k) e)

module _ (t : HubTables) (order : AreInOrder t) (node n : ℕ) where
  -- a handle that is found is a value of its kind
  pub handle_is_value : (h : HandleState) → handle_in t.handles node n ≡ Some h → kind_in t node n ≡ Some h.kind
  handle_is_value h e = ap₂ (kind_by node) (found_is_handle t order node n h e).no_port e

  pub pending_is : kind_in t node n ≡ Some PendingResponse → IsPending t node n
  pending_is e = step (port_in t.ports n) (handle_in t.handles node n) refl e
    where
      held : (p : PortState) (a b : Bool) → (if a && b then Some (kind_of_role p.role) else None) ≡ Some PendingResponse → ⊥
      held p true true f = no_port_kind p.role (same_Some (kind_of_role p.role) PendingResponse f)
      held p true false f = none-some PendingResponse f
      held p false b f = none-some PendingResponse f

      step : (o : Option PortState) (q : Option HandleState) → handle_in t.handles node n ≡ q → kind_by node o q ≡ Some PendingResponse → IsPending t node n
      step (Some p) q at f = absurd (held p p.held (p.node == node) f)
      step None (Some h) at f = found_is_pending t order node n h at (same_Some h.kind PendingResponse f)
      step None None at f = absurd (none-some PendingResponse f)

  pub server_is : kind_in t node n ≡ Some kinds.Server → IsServer t node n
  server_is e = step (port_in t.ports n) refl (handle_in t.handles node n) refl e
    where
      held : (p : PortState) → port_in t.ports n ≡ Some p → (a b : Bool) → p.held ≡ a → (p.node == node) ≡ b
          → (if a && b then Some (kind_of_role p.role) else None) ≡ Some kinds.Server → IsServer t node n
      held p there true true is of f = record {
        port = p;
        there = there;
        on_node = eqb-true p.node node of;
        server = server_role p.role (same_Some (kind_of_role p.role) kinds.Server f);
        held = is;
      }
      held p there true false is of f = absurd (none-some kinds.Server f)
      held p there false b is of f = absurd (none-some kinds.Server f)

      step : (o : Option PortState) → port_in t.ports n ≡ o → (q : Option HandleState) → handle_in t.handles node n ≡ q
          → kind_by node o q ≡ Some kinds.Server → IsServer t node n
      step (Some p) there q at f = held p there p.held (p.node == node) refl refl f
      step None there (Some h) at f =
          absurd (no_server_kind h.kind (same_Some h.kind kinds.Server f) (handle_is (IsOfPort t) t.handles node n h order.ports at).either)
      step None there None at f = absurd (none-some kinds.Server f)

-- ---- the values of a hub

-- what is a value of the hub that is met is so of its tables
pub server_of_hub : {h : HubState} → IsHub h → (now : HubState) → h ≡ now → (node n : ℕ) → HasValue now node n kinds.Server
    → IsServer h.control.tables node n
server_of_hub {h} hub now is node n has =
    server_is h.control.tables hub.control.order node n (subst (λ (d : HubState). HasValue d node n kinds.Server) (sym is) has)

pub pending_of_hub : {h : HubState} → IsHub h → (now : HubState) → h ≡ now → (node n : ℕ) → HasValue now node n PendingResponse
    → IsPending h.control.tables node n
pending_of_hub {h} hub now is node n has =
    pending_is h.control.tables hub.control.order node n (subst (λ (d : HubState). HasValue d node n PendingResponse) (sym is) has)
