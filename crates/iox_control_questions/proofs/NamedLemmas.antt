-- Who names a request, by the places of ports.
use Rattle.std.specs.Prelude.{◌≡◌, ℕ, ◌<◌, zero, suc, Bool, true, false, ◌||◌, ◌&&◌, if◌then◌else◌, List, [], ◌∷◌, length, map, filter, Option, Some, None, refl}
use Rattle.std.specs.List.{list_any}
use Rattle.std.specs.Option.{option_map, option_map_or}
use Rattle.std.proofs.Common.{sym, ap, ◌∙◌, arith, true≢false}
use Rattle.std.proofs.lemmas.Option.{none-some, same_Some}
use Rattle.iox_handles.specs.declared.entry.Entry.{Entry}
use Rattle.iox_lanes.specs.declared.wanted.Label.{Label}
use Rattle.iox_model.specs.declared.kind.Role.{Role}
use Rattle.iox_model.specs.declared.kind.Role.TheVariants.{Client, Server}
use Rattle.iox_model.specs.declared.way.RequestState.{RequestState}
use Rattle.iox_model.specs.Maps.{has_number}
use Rattle.iox_model.specs.Messages.{response_way}
use Rattle.iox_model.specs.Settings.{is_client, same_role}
use Rattle.iox_laws.proofs.WeaveLedger.Lists.{among-filter, among-map, among-number, number-among}
use Rattle.iox_tables.specs.HubStates.Tables.{HubTables, PortState, labels_of, port_in}
use Rattle.iox_tables.specs.HubStates.Releases.{lane_of, request_of}
use Rattle.iox_tables.specs.HubStates.Wirings.{numbers_of_role}
use Rattle.iox_tables.proofs.HubStates.Fixing.{first_key}
use Rattle.iox_hub_ports.specs.declared.info.PortInfo.{PortInfo}
use Rattle.iox_hub_ports.specs.Ports.{info_at, info_in, info_of, state_of_way}
use Rattle.iox_tables.specs.HubBooks.Hubs.{AreInOrder}
use Rattle.iox_tables.proofs.HubBooks.Sendable.{of_role}
use Rattle.iox_tables.proofs.HubBooks.Ways.{first_among}
use Rattle.iox_tables.specs.HubLoans.Questions.{is_named_by_client, is_named_by_server, names_request, state_of}
use Rattle.iox_control.specs.Entries.{handle_state}
use Rattle.iox_control_questions.specs.Naming.{is_named_with}

-- ---- clients

-- a client is connected exactly where the port of its number is one
pub client_is_there : (t : HubTables) → AreInOrder t → (n : ℕ) → has_number n (numbers_of_role Client t.ports) ≡ option_map_or (λ i. is_client i.role) (info_in t.ports n) false
client_is_there t order n = step (port_in t.ports n) refl
  where
    absent : ((p : PortState) → port_in t.ports n ≡ Some p → p.role ≡ Client → ⊥) → (b : Bool) → has_number n (numbers_of_role Client t.ports) ≡ b → b ≡ false
    absent never false e = refl
    absent never true e = let p = of_role t order Client n (number-among n (numbers_of_role Client t.ports) e) in absurd (never p.0 p.1 p.2)

    present : (p : PortState) → port_in t.ports n ≡ Some p → p.role ≡ Client → has_number n (numbers_of_role Client t.ports) ≡ true
    present p at client =
        ap (λ k. has_number k (numbers_of_role Client t.ports)) (sym (first_key (λ (q : PortState). q.number) t.ports n p at))
        ∙ among-number p.number (numbers_of_role Client t.ports)
        (among-map (λ (q : PortState). q.number) p (filter (λ q. same_role q.role Client) t.ports)
        (among-filter (λ (q : PortState). same_role q.role Client) p t.ports (first_among (λ (q : PortState). q.number) t.ports n p at) (ap (λ r. same_role r Client) client)))

    by_role : (p : PortState) → port_in t.ports n ≡ Some p → (r : Role) → p.role ≡ r → has_number n (numbers_of_role Client t.ports) ≡ is_client r
    by_role p at Client is = present p at is
    by_role p at Server is =
        absent (λ q there client. true≢false (sym (ap is_client client) ∙ ap (λ (s : PortState). is_client s.role) (same_Some q p (sym there ∙ at)) ∙ ap is_client is))
        (has_number n (numbers_of_role Client t.ports)) refl

    step : (o : Option PortState) → port_in t.ports n ≡ o → has_number n (numbers_of_role Client t.ports) ≡ option_map_or (λ i. is_client i.role) (option_map info_of o) false
    step None none = absent (λ p at client. none-some p (sym none ∙ at)) (has_number n (numbers_of_role Client t.ports)) refl
    step (Some p) at = by_role p at p.role refl

-- ---- servers

module _ (t : HubTables) (client : ℕ) (label : Label) (hinted : Bool) where
  abbrev named : PortInfo → Bool
  named i = is_named_with t client label hinted i

  -- it is asked of each port in its place
  by_place : (ports : List PortState)
      → list_any (λ w. names_request hinted label.request (state_of t w)) (map (response_way client label.lane) (numbers_of_role Server ports))
      ≡ list_any (λ p. named (info_of p)) ports
  by_place [] = refl
  by_place (p ∷ ps) = step p.role (by_place ps)
    where
      step : (r : Role)
          → list_any (λ w. names_request hinted label.request (state_of t w)) (map (response_way client label.lane) (map (λ (q : PortState). q.number) (filter (λ (q : PortState). same_role q.role Server) ps)))
          ≡ list_any (λ (q : PortState). named (info_of q)) ps
          → list_any (λ w. names_request hinted label.request (state_of t w))
          (map (response_way client label.lane) (map (λ (q : PortState). q.number) (if same_role r Server then p ∷ filter (λ (q : PortState). same_role q.role Server) ps else filter (λ (q : PortState). same_role q.role Server) ps)))
          ≡ ((if is_client r then false else names_request hinted label.request (state_of t (response_way client label.lane p.number))) || list_any (λ (q : PortState). named (info_of q)) ps)
      step Client rest = rest
      step Server rest = ap (λ b. names_request hinted label.request (state_of t (response_way client label.lane p.number)) || b) rest

  -- one of them names it
  some_named : (ports : List PortState) (i : ℕ) → option_map_or named (info_at ports i) false ≡ true → list_any (λ p. named (info_of p)) ports ≡ true
  some_named [] i e = absurd (true≢false (sym e))
  some_named (p ∷ ps) zero e = ap (λ b. b || list_any (λ q. named (info_of q)) ps) e
  some_named (p ∷ ps) (suc i) e = step (named (info_of p)) (some_named ps i e)
    where
      step : (b : Bool) → list_any (λ (q : PortState). named (info_of q)) ps ≡ true → (b || list_any (λ (q : PortState). named (info_of q)) ps) ≡ true
      step true rest = refl
      step false rest = rest

  -- none does
  none_named : (ports : List PortState) → ((i : ℕ) → i < length ports → option_map_or named (info_at ports i) false ≡ false) → list_any (λ p. named (info_of p)) ports ≡ false
  none_named [] none = refl
  none_named (p ∷ ps) none =
      ap (λ b. b || list_any (λ q. named (info_of q)) ps) (none 0 (omega arith))
      ∙ none_named ps (λ i low. none (suc i) (omega (arith, low)))

  pub named_by_one : (i : ℕ) → option_map_or named (info_at t.ports i) false ≡ true
      → true ≡ list_any (λ w. names_request hinted label.request (state_of t w)) (map (response_way client label.lane) (numbers_of_role Server t.ports))
  named_by_one i e = sym (by_place t.ports ∙ some_named t.ports i e)

  pub named_by_none : ((i : ℕ) → i < length t.ports → option_map_or named (info_at t.ports i) false ≡ false)
      → false ≡ list_any (λ w. names_request hinted label.request (state_of t w)) (map (response_way client label.lane) (numbers_of_role Server t.ports))
  named_by_none none = sym (by_place t.ports ∙ none_named t.ports none)

-- ---- by what the table keeps of a handle

module _ (t : HubTables) (e : Entry) (hinted : Bool) where
  pub not_by_client : AreInOrder t → option_map_or (λ i. is_client i.role) (info_in t.ports e.client) false ≡ false → false ≡ is_named_by_client t (handle_state e) hinted
  not_by_client order none =
      sym (ap (λ b. b && names_request hinted (request_of t (handle_state e)) (state_of t (response_way e.client (lane_of t (handle_state e)) e.port)))
      (client_is_there t order e.client ∙ none))

  pub by_client : (told : Bool) (label : Label) (state : RequestState) → AreInOrder t → option_map_or (λ i. is_client i.role) (info_in t.ports e.client) false ≡ true
      → label ≡ labels_of t.pools e.pool e.slot → state ≡ state_of_way t.ports (response_way e.client label.lane e.port) → told ≡ names_request hinted label.request state
      → told ≡ is_named_by_client t (handle_state e) hinted
  by_client told label state order there at found is =
      is ∙ ap (names_request hinted label.request) found
      ∙ ap (λ (l : Label). names_request hinted l.request (state_of t (response_way e.client l.lane e.port))) at
      ∙ sym (ap (λ b. b && names_request hinted (request_of t (handle_state e)) (state_of t (response_way e.client (lane_of t (handle_state e)) e.port)))
      (client_is_there t order e.client ∙ there))

  pub by_label : (label : Label) → label ≡ labels_of t.pools e.pool e.slot
      → list_any (λ w. names_request hinted label.request (state_of t w)) (map (response_way e.port label.lane) (numbers_of_role Server t.ports))
      ≡ is_named_by_server t (handle_state e) hinted
  by_label label at = ap (λ (l : Label). list_any (λ w. names_request hinted l.request (state_of t w)) (map (response_way e.port l.lane) (numbers_of_role Server t.ports))) at
