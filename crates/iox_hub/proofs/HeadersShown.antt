-- What handles and ports of a hub show of their messages and ids.
use Rattle.std.specs.Prelude.{◌≡◌, ℕ, ◌<◌, Bool, true, false, ◌&&◌, ◌||◌, if◌then◌else◌, ◌==◌, List, [], length, Option, Some, None, IsSome, refl}
use Rattle.std.specs.Option.{option_map, option_map_or}
use Rattle.std.proofs.Common.{sym, ap, subst, ◌∙◌, arith, true≢false}
use Rattle.std.proofs.lemmas.Option.{none-some}
use Rattle.iox_store.specs.Stored.{unlent}
use Rattle.iox_types.specs.declared.identifiers.system_id.UniqueSystemId.{UniqueSystemId}
use Rattle.iox_model.specs.declared.kind.Kind.{Kind}
use Rattle.iox_model.specs.declared.kind.Kind.TheVariants as kinds
use Rattle.iox_model.specs.declared.kind.Role.{Role}
use Rattle.iox_model.specs.declared.kind.Role.TheVariants.{Client, Server}
use Rattle.iox_model.specs.Handles.{is_own, is_received}
use Rattle.iox_model.specs.Messages.{Message}
use Rattle.iox_model.specs.Names.{is_port}
use Rattle.iox_model.specs.Peers.{port_at}
use Rattle.iox_laws.specs.MessageLaws.Sendings.{own_message}
use Rattle.iox_tables.specs.HubStates.States.{Given, message_of, no_id, port_of}
use Rattle.iox_tables.specs.HubStates.Tables.{HandleState, HubTables, PoolState, PortState, owner_of, pool_at, port_in, slots_of}
use Rattle.iox_tables.specs.HubStates.Wirings.{handle_in}
use Rattle.iox_tables.proofs.HubStates.Fixing.{find_port, first_key}
use Rattle.iox_tables.proofs.HubStates.Naming.{each_handle_is_named}
use Rattle.iox_tables.specs.HubLoans.Questions.{kind_by, kind_of_role}
use Rattle.iox_tables.specs.HubBooks.Handles.{IsOfPort}
use Rattle.iox_tables.specs.HubBooks.Hubs.{HasPool}
use Rattle.iox_tables.proofs.HubBooks.Used.{handle_is, used_by_handle}
use Rattle.iox_hub_ports.specs.Ports.{info_in, info_of}
use Rattle.iox_hub.specs.Headers.{HasIdsOf, IsHeaderShown, IsIdShown, header_at, header_in, header_of, id_in, message_at, no_header, sender_in}
use Rattle.iox_hub.specs.Hubs.{HubState, IsHub, given_by, state_of_hub}
use Rattle.iox_hub.specs.Reads.{HasOf, message_in}
use Rattle.iox_hub.specs.Words.{stored_in}
use Rattle.iox_hub.specs.declared.headers.MessageHeader.{MessageHeader}
use Rattle.iox_hub.proofs.Named.{found_is_handle}
use Rattle.iox_hub.proofs.Reading.{low_if_used}
use Rattle.iox_hub.specs.Sending.{is_handle}

-- ---- what has a message

port_has_none : (r : Role) → is_handle (kind_of_role r) ≡ false
port_has_none Client = refl
port_has_none Server = refl

-- what has a message is a handle
pub has_handle : (now : HubState) (node n : ℕ) → HasOf is_handle now node n
    → (k : HandleState) × (handle_in now.control.tables.handles node n ≡ Some k)
has_handle now node n has =
    step (port_in now.control.tables.ports n) (handle_in now.control.tables.handles node n) refl has
  where
    held : (p : PortState) (a : Bool) → option_map_or is_handle (if a then Some (kind_of_role p.role) else None) false ≡ true → ⊥
    held p true f = true≢false (sym f ∙ port_has_none p.role)
    held p false f = true≢false (sym f)

    step : (o : Option PortState) (q : Option HandleState) → handle_in now.control.tables.handles node n ≡ q
        → option_map_or is_handle (kind_by node o q) false ≡ true
        → (k : HandleState) × (handle_in now.control.tables.handles node n ≡ Some k)
    step (Some p) q at f = absurd (held p (p.held && (p.node == node)) f)
    step None (Some k) at f = (k, at)
    step None None at f = absurd (true≢false (sym f))

-- ---- the header of a handle's message

module _ {h : HubState} (hub : IsHub h) (now : HubState) (is : h ≡ now) (node n : ℕ) (k : HandleState)
    (found : handle_in now.control.tables.handles node n ≡ Some k) where
  abbrev t : HubTables
  t = h.control.tables

  at : handle_in t.handles node n ≡ Some k
  at = subst (λ (d : HubState). handle_in d.control.tables.handles node n ≡ Some k) (sym is) found

  low : k.slot < length (slots_of t.pools k.pool)
  low = low_if_used t k.pool k.slot (used_by_handle t hub.control.order node n k at)

  pub header_is : header_in now node n ≡ header_at now.control.tables.pools k.pool k.slot
  header_is = ap (λ o. option_map_or (λ (j : HandleState). header_at now.control.tables.pools j.pool j.slot) o no_header) found

  -- the message that the machine's handle has
  module _ {A : Type 0} (f : Message → A) (x : Given) where
    message_shown : option_map f (message_at (state_of_hub x h) node n) ≡ Some (f (message_of (given_by x h) t.pools k.pool k.slot))
    message_shown =
        ap (λ o. option_map f (option_map_or own_message o None))
        (each_handle_is_named (given_by x h) t node n k (found_is_handle t hub.control.order node n k at)).names

  elements_inside : (header_in h node n).elements ≡ (message_in h node n).elements
  elements_inside =
      ap (λ o. (option_map_or (λ (j : HandleState). header_at t.pools j.pool j.slot) o no_header).elements) at
      ∙ sym (hub.words.elements k.pool k.slot low)
      ∙ sym (ap (λ o. (option_map_or (λ (j : HandleState). stored_in h.words j.pool j.slot) o (unlent 0 [])).elements) at)

  -- its sender

  module _ (p : PortState) where
    -- the pool of a handle whose sender is connected is its sender's
    pool_is : port_in t.ports (owner_of t.pools k.pool) ≡ Some p → (q : PoolState) × (pool_at t.pools k.pool ≡ Some q) × (q.node_id ≡ p.node_id) × (q.port_id ≡ p.id)
    pool_is there = step (pool_at t.pools k.pool) refl low
      where
        has : HasPool t p
        has = hub.control.order.pools.each (owner_of t.pools k.pool) p there

        step : (o : Option PoolState) → pool_at t.pools k.pool ≡ o → k.slot < length (option_map_or (λ (q : PoolState). q.slots) o [])
            → (q : PoolState) × (pool_at t.pools k.pool ≡ Some q) × (q.node_id ≡ p.node_id) × (q.port_id ≡ p.id)
        step None is some = absurd (omega (arith, some))
        step (Some a) is some =
            let owner : a.port ≡ owner_of t.pools k.pool = ap (λ o. option_map_or (λ (q : PoolState). q.port) o 0) (sym is) in
            let number : p.number ≡ owner_of t.pools k.pool = first_key (λ (y : PortState). y.number) t.ports (owner_of t.pools k.pool) p there in
            let place : k.pool ≡ p.pool = hub.control.order.pools.apart k.pool p.pool a has.pool is has.there (owner ∙ sym number ∙ sym has.port) in
            let at_own : pool_at t.pools k.pool ≡ Some has.pool = ap (pool_at t.pools) place ∙ has.there in
            (has.pool, at_own, has.node_id, has.port_id)

  inside : header_in h node n ≡ header_at t.pools k.pool k.slot
  inside = ap (λ o. option_map_or (λ (j : HandleState). header_at t.pools j.pool j.slot) o no_header) at

  sender_is : owner_of t.pools k.pool ≡ sender_in h node n
  sender_is = ap (λ o. option_map_or (λ (j : HandleState). owner_of t.pools j.pool) o 0) (sym at)

  has_ids : HasIdsOf (header_in h node n) h (sender_in h node n)
  has_ids = record {
    node = step (λ (q : PoolState). q.node_id) (λ (p : PortState). p.node_id) (λ (z : MessageHeader). z.node_id) refl (λ p there. (pool_is p there).2);
    port = step (λ (q : PoolState). q.port_id) (λ (p : PortState). p.id) (λ (z : MessageHeader). z.port_id) refl (λ p there. (pool_is p there).3);
  }
    where
      step : (of_pool : PoolState → UniqueSystemId) (of_port : PortState → UniqueSystemId) (of_header : MessageHeader → UniqueSystemId)
          → of_header (header_at t.pools k.pool k.slot) ≡ option_map_or of_pool (pool_at t.pools k.pool) no_id
          → ((p : PortState) (there : port_in t.ports (owner_of t.pools k.pool) ≡ Some p) → of_pool (pool_is p there).0 ≡ of_port p)
          → IsSome (port_in t.ports (sender_in h node n))
          → of_header (header_in h node n) ≡ option_map_or of_port (port_in t.ports (sender_in h node n)) no_id
      step of_pool of_port of_header same ids some = known (port_in t.ports (sender_in h node n)) refl some
        where
          known : (o : Option PortState) → port_in t.ports (sender_in h node n) ≡ o → IsSome o → of_header (header_in h node n) ≡ option_map_or of_port o no_id
          known (Some p) is e =
              let there : port_in t.ports (owner_of t.pools k.pool) ≡ Some p = ap (port_in t.ports) sender_is ∙ is in
              ap of_header inside ∙ same ∙ ap (λ o. option_map_or of_pool o no_id) (pool_is p there).1 ∙ ids p there
          known None is e = absurd (true≢false (sym e))

  pub header_is_shown : IsHeaderShown now node n
  header_is_shown =
      subst (λ (d : HubState). IsHeaderShown d node n) is
      (record {
        sender = λ x. message_shown (λ (m : Message). m.sender) x ∙ ap (λ z. Some z) sender_is;
        header = λ x. message_shown header_of x ∙ ap (λ z. Some z) (sym inside);
        ids = has_ids;
        elements = elements_inside;
      })

-- ---- the ids of ports

no_port : (k : Kind) → (is_own k || is_received k) ≡ true → is_port k ≡ false
no_port kinds.Client e = absurd (true≢false (sym e))
no_port kinds.Server e = absurd (true≢false (sym e))
no_port kinds.RequestMutUninit e = refl
no_port kinds.RequestMut e = refl
no_port kinds.ResponseMutUninit e = refl
no_port kinds.ResponseMut e = refl
no_port kinds.PendingResponse e = refl
no_port kinds.ActiveRequest e = refl
no_port kinds.Response e = refl

module _ {h : HubState} (hub : IsHub h) (now : HubState) (is : h ≡ now) (node n : ℕ) (has : HasOf is_port now node n) where
  abbrev u : HubTables
  u = h.control.tables

  port_inside : (p : PortState) × (port_in u.ports n ≡ Some p)
  port_inside =
      step (port_in u.ports n) refl (handle_in u.handles node n) refl (subst (λ (d : HubState). HasOf is_port d node n) (sym is) has)
    where
      step : (o : Option PortState) → port_in u.ports n ≡ o → (q : Option HandleState) → handle_in u.handles node n ≡ q
          → option_map_or is_port (kind_by node o q) false ≡ true → (p : PortState) × (port_in u.ports n ≡ Some p)
      step (Some p) there q found f = (p, there)
      step None there (Some k) found f =
          absurd (true≢false (sym f ∙ no_port k.kind (handle_is (IsOfPort u) u.handles node n k hub.control.order.ports found).either))
      step None there None found f = absurd (true≢false (sym f))

  pub has_port : (p : PortState) × (port_in now.control.tables.ports n ≡ Some p)
  has_port = (port_inside.0, subst (λ (d : HubState). port_in d.control.tables.ports n ≡ Some port_inside.0) is port_inside.1)

  pub is_never_missing : (ports : List PortState) → ports ≡ u.ports → info_in ports n ≡ None → ⊥
  is_never_missing ports same none =
      none-some (info_of port_inside.0) (sym none ∙ ap (λ ps. info_in ps n) same ∙ ap (option_map info_of) port_inside.1)

  id_inside : (x : Given) → option_map (λ p. p.id) (port_at (state_of_hub x h).fixed n) ≡ Some (id_in h n)
  id_inside x =
      let y : Given = given_by x h in
      ap (option_map (λ p. p.id)) (find_port y u.ports n)
      ∙ ap (λ (o : Option PortState). option_map (λ p. p.id) (option_map (port_of y) o)) port_inside.1
      ∙ ap (λ (o : Option PortState). Some (option_map_or (λ p. p.id) o no_id)) (sym port_inside.1)

  pub id_is_shown : IsIdShown now n
  id_is_shown =
      subst (λ (d : HubState). IsIdShown d n) is
      (record { connected = subst (λ (o : Option PortState). IsSome o) (sym port_inside.1) there; port = id_inside })
    where
      there : IsSome (Some port_inside.0)
      there = refl
