-- The making of a port leaves for whom each handle is, and each request open where it was.
use Rattle.std.specs.Prelude.{◌≡◌, ℕ, Bool, true, false, ◌&&◌, ◌||◌, ◌==◌, if◌then◌else◌, List, [], ◌∷◌, ◌++◌, filter, map, Option, refl}
use Rattle.std.specs.Option.{option_map_or}
use Rattle.std.proofs.Common.{sym, ap, ◌∙◌, inl, inr, eqb-true}
use Rattle.iox_types.specs.declared.identifiers.system_id.UniqueSystemId.{UniqueSystemId}
use Rattle.iox_model.specs.declared.kind.Role.{Role}
use Rattle.iox_model.specs.declared.kind.Role.TheVariants.{Client}
use Rattle.iox_model.specs.declared.way.RequestState.{RequestState}
use Rattle.iox_model.specs.declared.way.RequestState.TheVariants.{Closed}
use Rattle.iox_model.specs.Commands.{Create, Options, Reply}
use Rattle.iox_model.specs.Counts.{with_fixed}
use Rattle.iox_model.specs.Doings.{Receiver}
use Rattle.iox_model.specs.Handles.{handle_at}
use Rattle.iox_model.specs.Makings.{IsHubCommand, new_port, with_port}
use Rattle.iox_model.specs.Maps.{has_number}
use Rattle.iox_model.specs.Messages.{names, response_way}
use Rattle.iox_model.specs.Settings.{same_role}
use Rattle.iox_model.specs.States.{Handle, Port, State}
use Rattle.iox_laws.proofs.WeaveLedger.Truths.{by_cases}
use Rattle.iox_tables.specs.HubStates.States.{Given}
use Rattle.iox_tables.specs.HubStates.Steps.{is_there}
use Rattle.iox_tables.specs.HubStates.Tables.{HubTables}
use Rattle.iox_tables.specs.HubStates.Ways.{state_on}
use Rattle.iox_tables.proofs.HubStates.Steps.{connected_is}
use Rattle.iox_hub_laws.specs.Hubs.{HubState, IsHub, given_by, nothing_given, state_of_hub}
use Rattle.iox_hub_laws.specs.Shown.{shown}
use Rattle.iox_hub_laws.specs.Waiting.{server_of}
use Rattle.iceoryx2_ports.specs.Asking.{KeepsOpen, is_open_at}
use Rattle.iceoryx2_ports.specs.Keeping.{KeepsAsking}
use Rattle.iceoryx2_ports.specs.Opens.{KeepsRequests}
use Rattle.iceoryx2_ports.proofs.Idle.{away, made}
use Rattle.iceoryx2_ports.proofs.Opening.{clients_are}
use Rattle.iceoryx2_ports.proofs.Remaining.{by_handles}
use Rattle.iceoryx2_ports.proofs.Staying.{asker, client_shown}

-- ---- lists

-- the numbers of the clients
abbrev clients : List Port → List ℕ
clients ps = map (λ (q : Port). q.number) (filter (λ (q : Port). same_role q.role Client) ps)

-- another number is a client's as before
clients_still : (ps : List Port) (p : Port) (k : ℕ) → (p.number == k) ≡ false → has_number k (clients (ps ++ p ∷ [])) ≡ has_number k (clients ps)
clients_still [] p k e = step (same_role p.role Client)
  where
    step : (b : Bool) → has_number k (map (λ (q : Port). q.number) (if b then p ∷ [] else [])) ≡ false
    step true = ap (λ (c : Bool). c || false) e
    step false = refl
clients_still (q ∷ qs) p k e = step (same_role q.role Client) (clients_still qs p k e)
  where
    step : (b : Bool) → has_number k (clients (qs ++ p ∷ [])) ≡ has_number k (clients qs)
        → has_number k (map (λ (r : Port). r.number) (if b then q ∷ filter (λ (r : Port). same_role r.role Client) (qs ++ p ∷ [])
        else filter (λ (r : Port). same_role r.role Client) (qs ++ p ∷ [])))
        ≡ has_number k (map (λ (r : Port). r.number) (if b then q ∷ filter (λ (r : Port). same_role r.role Client) qs
        else filter (λ (r : Port). same_role r.role Client) qs))
    step true rest = ap (λ (c : Bool). (q.number == k) || c) rest
    step false rest = rest

never : (b : Bool) → (b && false) ≡ false
never true = refl
never false = refl

-- ---- the making of a port

module _ (old new : HubState) (hub : IsHub old) (node : ℕ) (role : Role) (id : UniqueSystemId) (o : Options) (reply : Reply)
    (whole : (x : Given) → IsHubCommand (state_of_hub x old) node (Create role id o) reply (state_of_hub x new)) where
  abbrev t : HubTables
  t = old.control.tables

  abbrev s : State
  s = shown old

  abbrev p : Port
  p = new_port s.fixed node role id o

  abbrev u : State
  u = with_fixed s (with_port s.fixed p)

  handles : (a i : ℕ) → handle_at (shown new).fixed a i ≡ handle_at s.fixed a i
  handles a i = elim (made old new hub node role id o reply whole) as (λ q. handle_at (shown new).fixed a i ≡ handle_at s.fixed a i) [
    | inl c ↦ ap (λ (v : State). handle_at v.fixed a i) c.1
    | inr c ↦ ap (λ (v : State). handle_at v.fixed a i) c.1
  ]

  -- whether the request is open at that server, in a state
  abbrev open_in : State → Receiver → ℕ → Bool
  open_in v x server = has_number x.port (clients v.fixed.ports) && names (v.request_state (response_way x.port x.lane server)) x.request

  open_is : (h : HubState) (x : Receiver) (server : ℕ) → open_in (shown h) x server ≡ is_open_at h x server
  open_is h x server =
      ap (λ (ns : List ℕ). has_number x.port ns && names ((shown h).request_state (response_way x.port x.lane server)) x.request) (clients_are h)

  -- the port of the new number is not there, so no request of it is open
  closed : (k lane server : ℕ) → (t.next_number == k) ≡ true → s.request_state (response_way k lane server) ≡ Closed
  closed k lane server e =
      ap (λ (b : Bool). if b then option_map_or (λ (r : RequestState). r) (state_on t.ports (response_way k lane server)) Closed else Closed)
      (connected_is (given_by (nothing_given old) old) t.ports k ∙ ap (is_there t.ports) (sym (eqb-true t.next_number k e))
      ∙ away old new hub node role id o reply whole)

  open_then : (x : Receiver) (server : ℕ) → open_in u x server ≡ open_in s x server
  open_then x server =
      by_cases (t.next_number == x.port)
      (λ same.
      let shut : names (s.request_state (response_way x.port x.lane server)) x.request ≡ false
      = ap (λ (r : RequestState). names r x.request) (closed x.port x.lane server same) in
      ap (λ (b : Bool). has_number x.port (clients u.fixed.ports) && b) shut ∙ never (has_number x.port (clients u.fixed.ports))
      ∙ sym (ap (λ (b : Bool). has_number x.port (clients s.fixed.ports) && b) shut ∙ never (has_number x.port (clients s.fixed.ports))))
      (λ other.
      ap (λ (b : Bool). b && names (s.request_state (response_way x.port x.lane server)) x.request) (clients_still s.fixed.ports p x.port other))

  opened : KeepsOpen old new
  opened x server =
      sym (open_is new x server)
      ∙ (elim (made old new hub node role id o reply whole) as (λ q. open_in (shown new) x server ≡ open_in s x server) [
        | inl c ↦ ap (λ (v : State). open_in v x server) c.1
        | inr c ↦ ap (λ (v : State). open_in v x server) c.1 ∙ open_then x server
      ])
      ∙ open_is old x server

  -- Each pending response asks as before.
  pub making_asks_as_before : KeepsAsking old new
  making_asks_as_before a i has =
      sym (client_shown (nothing_given old) new a i)
      ∙ ap (λ (q : Option Handle). option_map_or asker q (server_of i)) (handles a i)
      ∙ client_shown (nothing_given old) old a i

  -- Each request is open where it was, and each active request is for its own.
  pub making_keeps_requests : KeepsRequests old new
  making_keeps_requests = by_handles old new opened (λ a i g has found. handles a i ∙ found)
