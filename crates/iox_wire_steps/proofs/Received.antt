-- What is received came on a way of the wire to a port of its receiver, and its entry tells that way.
use Rattle.std.specs.Prelude.{◌<◌, filter, find, map, slice_index}
use Rattle.std.specs.Option.{option_map_or}
use Rattle.std.proofs.Common.{◌≡◌, ℕ, Bool, true, false, if◌then◌else◌, ◌==◌, List, Option, Some, None, refl, ap, sym, subst, ◌∙◌, inl, inr, eqb-true, true≢false}
use Rattle.iox_model.specs.declared.kind.Kind.TheVariants.{ActiveRequest, PendingResponse, Response}
use Rattle.iox_model.specs.declared.kind.Role.{Role}
use Rattle.iox_model.specs.declared.kind.Role.TheVariants.{Client, Server}
use Rattle.iox_model.specs.declared.way.Way.{Way}
use Rattle.iox_model.specs.Handles.{is_received, same_kind}
use Rattle.iox_model.specs.Joins.{not_living}
use Rattle.iox_model.specs.Maps.{has_number}
use Rattle.iox_model.specs.Peers.{is_connected_port, lanes_of, node_of_port, ports_of_role, role_at}
use Rattle.iox_model.specs.Settings.{is_client, same_role}
use Rattle.iox_model.specs.States.{Fixed, Port}
use Rattle.iox_model.specs.Weaves.{World}
use Rattle.iox_laws.proofs.WeaveLedger.Lists.{IsAmong, among-filter, among-map, among-number, any-among, distinct-no_repeats, find-own}
use Rattle.iox_laws.proofs.WeaveLedger.Senders as ledger
use Rattle.iox_laws.proofs.WeaveLedger.Truths.{false_if}
use Rattle.iox_laws.proofs.WeaveLedger.Views.{view}
use Rattle.iox_laws.proofs.WeaveWorlds.Sound as sound
use Rattle.iox_word_map.specs.WordMaps.{IsResponseWay, IsWay}
use Rattle.iox_wire_words.specs.Fits.{WireContents}
use Rattle.iox_wire_moments.specs.MomentsOf.{Pools}
use Rattle.iox_wire_locals.specs.declared.local.Ending.TheVariants as endings
use Rattle.iox_wire_locals.specs.declared.local.Visit.{Visit}
use Rattle.iox_wire_locals.specs.declared.seat.Seat.{Seat}
use Rattle.iox_wire_locals.specs.declared.table.Entry.{Entry}
use Rattle.iox_wire_locals.specs.Doings.{outcome_of}
use Rattle.iox_wire_locals.specs.NewLoans.{lane_in, received_entry}
use Rattle.iox_wire_locals.specs.Steps.{ending_at}
use Rattle.iox_wire_locals.specs.Tables.{Setting, way_in}
use Rattle.iox_wire_laws.specs.WireKeeping.Shows.{ShowsWorld}
use Rattle.iox_wire_laws.specs.WireShows.OwnedCalls.{AsksOn, ReceivesOn}
use Rattle.iox_wire_laws.specs.WireOwners.Releases.{ReleasesOwnHandle}
use Rattle.iox_wire_laws.specs.WireRegions.OwnedBegins.{LayoutFits}
use Rattle.iox_wire_laws.proofs.WireRegions.OwnPorts.{port_with}
use Rattle.iox_wire_laws.specs.WireHolding.SlotsKnown.{EntryFits}
use Rattle.iox_wire_steps.proofs.Knowing.{outcome_fits, role_fits}

-- ---- ports of a role

client_role : (r : Role) → is_client r ≡ true → same_role r Client ≡ true
client_role Client is = refl
client_role Server is = is

server_role : (r : Role) → is_client r ≡ false → same_role r Server ≡ true
server_role Server is = refl
server_role Client is = absurd (true≢false is)

module _ (p : Setting) (f : Fixed) (fits : LayoutFits p f) where
  of_role : (port : ℕ) (role : Role) → is_connected_port f port ≡ true → ((r : Role) → r ≡ role_at f port → same_role r role ≡ true)
      → has_number port (ports_of_role f role) ≡ true
  of_role port role there is =
      let at = any-among (λ (q : Port). q.number == port) f.ports there in
      let same : at.0.number ≡ port = eqb-true at.0.number port at.2 in
      let here : find (λ q. q.number == at.0.number) f.ports ≡ Some at.0
      = find-own (λ (q : Port). q.number) f.ports at.0 (distinct-no_repeats (map (λ (q : Port). q.number) f.ports) fits.numbers) at.1 in
      let its : at.0.role ≡ role_at f port
      = sym (ap (λ (o : Option Port). option_map_or (λ q. q.role) o Client) here) ∙ ap (role_at f) same in
      among-number port (ports_of_role f role)
      (subst (λ k. IsAmong k (ports_of_role f role)) same
      (among-map (λ (q : Port). q.number) at.0 (filter (λ q. same_role q.role role) f.ports)
      (among-filter (λ (q : Port). same_role q.role role) at.0 f.ports at.1 (is at.0.role its))))

  -- the role of a port is told by its number
  role_told : (port : ℕ) (role : Role) → has_number port (ports_of_role f role) ≡ true → same_role (role_at f port) role ≡ true
  role_told port role has =
      let h = port_with f role port has in
      let here : find (λ q. q.number == h.port.number) f.ports ≡ Some h.port
      = find-own (λ (q : Port). q.number) f.ports h.port (distinct-no_repeats (map (λ (q : Port). q.number) f.ports) fits.numbers) h.among in
      subst (λ r. same_role r role ≡ true)
      (sym (ap (role_at f) (sym h.number) ∙ ap (λ (o : Option Port). option_map_or (λ q. q.role) o Client) here)) h.role_is

  pub no_server : (port : ℕ) → is_client (role_at f port) ≡ true → has_number port (ports_of_role f Server) ≡ true → ⊥
  no_server port client has = apart (role_at f port) client (role_told port Server has)
    where
      apart : (r : Role) → is_client r ≡ true → same_role r Server ≡ true → ⊥
      apart Client is server = true≢false (sym server)
      apart Server is server = true≢false (sym is)

  pub no_client : (port : ℕ) → is_client (role_at f port) ≡ false → has_number port (ports_of_role f Client) ≡ true → ⊥
  no_client port server has = apart (role_at f port) server (role_told port Client has)
    where
      apart : (r : Role) → is_client r ≡ false → same_role r Client ≡ true → ⊥
      apart Client is client = true≢false is
      apart Server is client = true≢false (sym client)

  pub port_is_client : (port : ℕ) → is_connected_port f port ≡ true → is_client (role_at f port) ≡ true → has_number port (ports_of_role f Client) ≡ true
  port_is_client port there is = of_role port Client there (λ r same. client_role r (ap is_client same ∙ is))

  pub port_is_server : (port : ℕ) → is_connected_port f port ≡ true → is_client (role_at f port) ≡ false → has_number port (ports_of_role f Server) ≡ true
  port_is_server port there is = of_role port Server there (λ r same. server_role r (ap is_client same ∙ is))

-- ---- what is received

module _ (p : Setting) (held : Pools) (word : ℕ → ℕ) (c : WireContents) (seats : ℕ → Seat) (w : World) (n : ℕ) (v : Visit) (y : Way) (slot : ℕ) (header : List ℕ)
    (shows : ShowsWorld p held word c seats w) (living : not_living w.state n ≡ None)
    (is : ending_at (seats n).local ≡ Some (endings.Receives v y slot header)) (fits : LayoutFits p w.state.fixed)
    (on : ReceivesOn p (seats n).node w.state.fixed y) where
  abbrev f : Fixed
  f = w.state.fixed

  came : ledger.FitsOutcome (view w.state.fixed n) n (outcome_of p held n (endings.Receives v y slot header))
      × sound.FitsOutcome w.state.fixed n (outcome_of p held n (endings.Receives v y slot header))
  came = outcome_fits p held word c seats w n (endings.Receives v y slot header) shows living is

  receiver : y.receiver ≡ v.port
  receiver = came.1.1.0

  role : is_client (role_at w.state.fixed v.port) ≡ is_client v.role
  role = role_fits p held word c seats w n v y slot header shows living is

  connected : is_connected_port w.state.fixed v.port ≡ true
  connected = came.1.0.0

  on_node : node_of_port w.state.fixed v.port ≡ n
  on_node = came.1.0.1

  -- the sender of a response is a server, that of a request a client
  module _ (client : is_client v.role ≡ true) where
    to_client : has_number y.receiver p.layout.sizes.clients ≡ true
    to_client =
        subst (λ k. has_number k p.layout.sizes.clients ≡ true) (sym receiver)
        (ap (has_number v.port) fits.clients ∙ port_is_client p w.state.fixed fits v.port connected (role ∙ client))

    response : IsResponseWay p.layout.sizes y
    response = by_way on.way
      where
        by_way : IsWay p.layout.sizes y → IsResponseWay p.layout.sizes y
        by_way (inr way) = way
        by_way (inl way) =
            absurd (no_server p w.state.fixed fits v.port (role ∙ client)
            (subst (λ k. has_number k (ports_of_role w.state.fixed Server) ≡ true) receiver (ap (has_number y.receiver) (sym fits.servers) ∙ way.1)))

    -- the entry
    module _ (number : ℕ) where
      abbrev e : Entry
      e = received_entry number v y slot header

      kind : e.kind ≡ Response
      kind = rw client refl

      same_sender : (way_in (received_entry number v y slot header)).sender ≡ y.sender
      same_sender = rw client refl

      same_way_in : way_in (received_entry number v y slot header) ≡ y
      same_way_in = rw client (λ i. record y { receiver = sym receiver i })

      pub response_fits : EntryFits p (received_entry number v y slot header)
      response_fits = record {
        own = λ kept. absurd (true≢false (sym (ap is_received kind) ∙ kept));
        received = λ got. (same_sender, subst (IsWay p.layout.sizes) (sym same_way_in) on.way);
      }

      pub response_released : ReleasesOwnHandle w.state.fixed n (received_entry number v y slot header)
      response_released = record {
        pending = λ same. absurd (true≢false (sym same ∙ ap (λ k. same_kind k PendingResponse) kind));
        request = λ same. absurd (true≢false (sym same ∙ ap (λ k. same_kind k ActiveRequest) kind));
        response = λ same. (
          (port_is_client p w.state.fixed fits v.port connected (role ∙ client), on_node),
          rw client (subst (λ k. y.lane < k) (fits.lanes v.port (port_is_client p w.state.fixed fits v.port connected (role ∙ client)))
              (subst (λ k. y.lane < p.layout.sizes.lanes k) receiver response.3)),
          ap (has_number y.sender) (sym fits.servers) ∙ response.1,
        );
      }

  -- a request came from a client, on lane 0
  module _ (server : is_client v.role ≡ false) where
    request : (has_number y.sender p.layout.sizes.clients ≡ true) × (y.lane ≡ 0)
    request = by_way on.way
      where
        by_way : IsWay p.layout.sizes y → (has_number y.sender p.layout.sizes.clients ≡ true) × (y.lane ≡ 0)
        by_way (inl way) = (way.0, way.2)
        by_way (inr way) =
            absurd (no_client p w.state.fixed fits v.port (role ∙ server)
            (subst (λ k. has_number k (ports_of_role w.state.fixed Client) ≡ true) receiver (ap (has_number y.receiver) (sym fits.clients) ∙ way.2)))

    sender_is : has_number y.sender (ports_of_role w.state.fixed Client) ≡ true
    sender_is = ap (has_number y.sender) (sym fits.clients) ∙ request.0

    module _ (number : ℕ) where
      kind_too : (received_entry number v y slot header).kind ≡ ActiveRequest
      kind_too = rw server refl

      sender_too : (way_in (received_entry number v y slot header)).sender ≡ y.sender
      sender_too = rw server refl

      way_too : way_in (received_entry number v y slot header) ≡ y
      way_too = rw server (λ i. record y { receiver = sym receiver i; lane = sym request.1 i })

      pub request_fits : EntryFits p (received_entry number v y slot header)
      request_fits = record {
        own = λ kept. absurd (true≢false (sym (ap is_received kind_too) ∙ kept));
        received = λ got. (sender_too, subst (IsWay p.layout.sizes) (sym way_too) on.way);
      }

      pub request_released : AsksOn p v y header → ReleasesOwnHandle w.state.fixed n (received_entry number v y slot header)
      request_released asks = record {
        pending = λ same. absurd (true≢false (sym same ∙ ap (λ k. same_kind k PendingResponse) kind_too));
        request = λ same. (
          (port_is_server p w.state.fixed fits v.port connected (role ∙ server), on_node),
          rw server (subst (λ k. slice_index header 4 < k) (fits.lanes y.sender sender_is)
              (subst (λ b. (if b then y.lane else slice_index header 4) < p.layout.sizes.lanes y.sender) server asks.3)),
          rw server refl,
          rw server sender_is,
        );
        response = λ same. absurd (true≢false (sym same ∙ ap (λ k. same_kind k Response) kind_too));
      }

  -- such a header tells a request state of the wire
  pub asks_on : is_client v.role ≡ false → lane_in v y header < lanes_of w.state.fixed y.sender → AsksOn p v y header
  asks_on server low = (
    false_if (has_number y.receiver p.layout.sizes.clients) (λ has.
        no_client p w.state.fixed fits v.port (role ∙ server)
        (subst (λ k. has_number k (ports_of_role w.state.fixed Client) ≡ true) receiver (ap (has_number y.receiver) (sym fits.clients) ∙ has))),
    subst (λ k. has_number k p.layout.sizes.servers ≡ true) (sym receiver)
        (ap (has_number v.port) fits.servers ∙ port_is_server p w.state.fixed fits v.port connected (role ∙ server)),
    (request server).0,
    subst (λ k. lane_in v y header < k) (sym (fits.lanes y.sender (sender_is server))) low,
  )

  -- both

  pub received_fits : (number : ℕ) → EntryFits p (received_entry number v y slot header)
  received_fits number = by_role (is_client v.role) refl
    where
      by_role : (b : Bool) → is_client v.role ≡ b → EntryFits p (received_entry number v y slot header)
      by_role true client = response_fits client number
      by_role false server = request_fits server number

  pub received_released : (number : ℕ) → (is_client v.role ≡ false → AsksOn p v y header) → ReleasesOwnHandle w.state.fixed n (received_entry number v y slot header)
  received_released number asks = by_role (is_client v.role) refl
    where
      by_role : (b : Bool) → is_client v.role ≡ b → ReleasesOwnHandle w.state.fixed n (received_entry number v y slot header)
      by_role true client = response_released client number
      by_role false server = request_released server number (asks server)
