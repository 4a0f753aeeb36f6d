-- The words beside the pools that may be gone by a release: whether they go or stay, it is told alike.
use Rattle.std.specs.Prelude.{◌≡◌, ℕ, Bool, true, false, not, ◌&&◌, if◌then◌else◌, ◌==◌, Option, IfSome, Some, None, is_some, refl}
use Rattle.std.specs.Option.{option_and_then, option_map_or}
use Rattle.std.proofs.Common.{sym, ap, subst, ◌∙◌, true≢false}
use Rattle.std.proofs.lemmas.Option.{none-some}
use Rattle.iox_model.specs.declared.kind.Kind.{Kind}
use Rattle.iox_model.specs.declared.kind.Kind.TheVariants as kinds
use Rattle.iox_model.specs.declared.kind.Role.{Role}
use Rattle.iox_model.specs.declared.kind.Role.TheVariants.{Client, Server}
use Rattle.iox_model.specs.Values.{is_still}
use Rattle.iox_model.specs.Names.{is_port}
use Rattle.iox_tables.specs.HubStates.Tables.{HandleState, HubTables, PortState, pool_at, port_in}
use Rattle.iox_tables.specs.HubStates.Wirings.{handle_in}
use Rattle.iox_tables.specs.HubBooks.Hubs.{AreInOrder}
use Rattle.iox_tables.specs.HubLoans.Questions.{kind_by, kind_in, kind_of_role}
use Rattle.iox_control.specs.Controls.{ControlState}
use Rattle.iox_control.specs.Removals.{if_still}
use Rattle.iox_control_releasing.specs.Goings.{ArePoolsThere}
use Rattle.iox_hub.specs.Hubs.{HubState, IsHub, with_control}
use Rattle.iox_hub.specs.Keeping.{Keeps}
use Rattle.iox_hub.specs.Sending.{with_words_left}
use Rattle.iox_hub.proofs.KeepingCalls.{left_keeps}
use Rattle.iox_hub.proofs.Named.{handle_is_value}
use Rattle.iox_hub.proofs.ReleasingWords.{both_left, both_stay}

module _ {h : HubState} (hub : IsHub h) (c : ControlState) (new : HubState) (a : ℕ) where
  abbrev mid : HubState
  mid = with_control h c

  -- what is told of the words, and where they go
  abbrev GoAt : Option ℕ → Type 0
  GoAt place = IfSome place (λ k. new ≡ with_words_left (with_words_left mid a) k)

  pub words_go : (place : Option ℕ) (b : ℕ) → (place ≡ None → new ≡ mid) → GoAt place → IfSome place (λ k. k ≡ b)
      → (place ≡ None → (is_some (pool_at c.tables.pools a) ≡ true) × (is_some (pool_at c.tables.pools b) ≡ true))
      → new ≡ with_words_left (with_words_left (with_control h new.control) a) b
  words_go None b stay left same there =
      stay refl ∙ both_stay mid a b (there refl).0 (there refl).1
      ∙ ap (λ (d : HubState). with_words_left (with_words_left (with_control h d.control) a) b) (sym (stay refl))
  words_go (Some k) b stay left same there = both_left hub c (with_words_left mid a) new a k b refl left same

  -- the tables stay
  pub tables_stay : (place : Option ℕ) → (place ≡ None → new ≡ mid) → GoAt place → new.control ≡ c
  tables_stay None stay left = ap (λ (d : HubState). d.control) (stay refl)
  tables_stay (Some k) stay left = ap (λ (d : HubState). d.control) left

  -- what others have stays
  pub others_keep : (P : ℕ → ℕ → Type 0) → AreInOrder c.tables → (place : Option ℕ) → (place ≡ None → new ≡ mid) → GoAt place → Keeps P h mid → Keeps P h new
  others_keep P order None stay left kept = subst (Keeps P h) (sym (stay refl)) kept
  others_keep P order (Some k) stay left kept =
      left_keeps P h (with_words_left mid a) new order k left (left_keeps P h mid (with_words_left mid a) order a refl kept)

-- the same, told of the handle that was there
pub words_so : {h : HubState} (hub : IsHub h) (c : ControlState) (new : HubState) (e : HandleState) (place : Option ℕ) → (place ≡ None → new ≡ with_control h c)
    → IfSome place (λ k. new ≡ with_words_left (with_words_left (with_control h c) e.pool) k)
    → ((p : PortState) → port_in h.control.tables.ports e.port ≡ Some p → IfSome place (λ k. k ≡ p.pool))
    → (place ≡ None → ArePoolsThere h.control.tables.ports c.tables.pools e)
    → (k : HandleState) → e ≡ k → (p : PortState) → port_in h.control.tables.ports k.port ≡ Some p
    → new ≡ with_words_left (with_words_left (with_control h new.control) k.pool) p.pool
words_so {h} hub c new e place stay left same there k is p at =
    let port : port_in h.control.tables.ports e.port ≡ Some p = ap (λ (g : HandleState). port_in h.control.tables.ports g.port) is ∙ at in
    subst (λ (g : HandleState). new ≡ with_words_left (with_words_left (with_control h new.control) g.pool) p.pool) is
    (words_go hub c new e.pool place p.pool stay left (same p port) (λ none. ((there none).message, (there none).port p port)))

-- where the tables stay, so does the hub
pub none_new : {h : HubState} → IsHub h → {c : ControlState} → c ≡ h.control → with_control h c ≡ h
none_new {h} hub same = ap (λ (d : ControlState). with_control h d) same

pub still_hub : {h : HubState} → IsHub h → {c : ControlState} → c ≡ h.control → IsHub (with_control h c)
still_hub {h} hub same = subst (λ (d : ControlState). IsHub (with_control h d)) (sym same) hub

-- ---- what is told of the handle

-- no handle may be a port's own value by now
no_port_still : (kind : Kind) (role : Role) → not (is_port kind) ≡ true → is_still kind (kind_of_role role) ≡ false
no_port_still kinds.Client role e = absurd (true≢false (sym e))
no_port_still kinds.Server role e = absurd (true≢false (sym e))
no_port_still kinds.RequestMutUninit Client e = refl
no_port_still kinds.RequestMutUninit Server e = refl
no_port_still kinds.RequestMut Client e = refl
no_port_still kinds.RequestMut Server e = refl
no_port_still kinds.ResponseMutUninit Client e = refl
no_port_still kinds.ResponseMutUninit Server e = refl
no_port_still kinds.ResponseMut Client e = refl
no_port_still kinds.ResponseMut Server e = refl
no_port_still kinds.PendingResponse Client e = refl
no_port_still kinds.PendingResponse Server e = refl
no_port_still kinds.ActiveRequest Client e = refl
no_port_still kinds.ActiveRequest Server e = refl
no_port_still kinds.Response Client e = refl
no_port_still kinds.Response Server e = refl

module _ (t : HubTables) (order : AreInOrder t) (node n : ℕ) (kind : Kind) (handle : not (is_port kind) ≡ true) where
  -- whether it is released is whether the node still has it
  pub told_still : (r : Option HandleState) → r ≡ option_and_then (if_still kind) (handle_in t.handles node n)
      → is_some r ≡ option_map_or (is_still kind) (kind_in t node n) false
  told_still r told = ap (λ (o : Option HandleState). is_some o) told ∙ step (handle_in t.handles node n) refl
    where
      by_case : (b : Bool) (k : HandleState) → is_some (if b then Some k else None) ≡ b
      by_case true k = refl
      by_case false k = refl

      held : (p : PortState) (b : Bool) → option_map_or (is_still kind) (if b then Some (kind_of_role p.role) else None) false ≡ false
      held p true = no_port_still kind p.role handle
      held p false = refl

      none : (o : Option PortState) → option_map_or (is_still kind) (kind_by node o None) false ≡ false
      none None = refl
      none (Some p) = held p (p.held && (p.node == node))

      step : (o : Option HandleState) → handle_in t.handles node n ≡ o
          → is_some (option_and_then (if_still kind) o) ≡ option_map_or (is_still kind) (kind_in t node n) false
      step None at = sym (ap (λ o. option_map_or (is_still kind) (kind_by node (port_in t.ports n) o) false) at ∙ none (port_in t.ports n))
      step (Some k) at =
          by_case (is_still kind k.kind) k
          ∙ sym (ap (λ (o : Option Kind). option_map_or (is_still kind) o false) (handle_is_value t order node n k at))

-- what was released is the handle that was there
pub found_itself : (kind : Kind) (o : Option HandleState) (k : HandleState) → Some k ≡ option_and_then (if_still kind) o → o ≡ Some k
found_itself kind None k told = sym told
found_itself kind (Some g) k told = by_case (is_still kind g.kind) told
  where
    by_case : (b : Bool) → Some k ≡ (if b then Some g else None) → Some g ≡ Some k
    by_case true said = sym said
    by_case false said = absurd (none-some k (sym said))
