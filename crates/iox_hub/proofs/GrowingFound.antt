-- Which room there is for what is lent, by the port that was found.
use Rattle.std.specs.Prelude.{◌≡◌, ℕ, ◌<◌, ◌≤◌, Bool, true, false, not, List, Option, Some, None, option_map, refl}
use Rattle.std.proofs.Common.{sym, ap, subst, ◌∙◌, arith, true≢false}
use Rattle.std.proofs.lemmas.Option.{none-some, same_Some}
use Rattle.iox_model.specs.declared.kind.Kind.TheVariants as kinds
use Rattle.iox_model.specs.Settings.{Shape, is_client, shape_of}
use Rattle.iox_tables.specs.HubStates.States.{Given, limits_of}
use Rattle.iox_tables.specs.HubStates.Tables.{HandleState, PortState, port_in}
use Rattle.iox_tables.specs.HubStates.Wirings.{handle_in}
use Rattle.iox_tables.specs.HubLoans.Lenders.{IsActive, IsClient, Lender, lender_of_request, lender_of_response, shape_in}
use Rattle.iox_tables.proofs.HubLending.Owning.{slot_count}
use Rattle.iox_hub_ports.specs.declared.info.PortInfo.{PortInfo}
use Rattle.iox_hub_ports.specs.Ports.{info_in, info_of}
use Rattle.iox_control_request_copies.specs.Asked.{Asked}
use Rattle.iox_control_request_copies.specs.Lends.{IsAskedOf, MayBeMade}
use Rattle.iox_hub.specs.Fits.{are_requests_in, count_in}
use Rattle.iox_hub.specs.Growing.{LoanHasRoom, WantsRoom}
use Rattle.iox_hub.specs.Hubs.{HasValue, HubState, IsHub, given_by}
use Rattle.iox_hub.proofs.GrowingRoom.{short_has_room, still_has_room, unmade_has_room}
use Rattle.iox_hub.proofs.LendingNamed.{active_of_hub, client_of_hub}

pub not_true : (b : Bool) → not b ≡ true → b ≡ false
not_true false e = refl
not_true true e = absurd (true≢false (sym e))

pub not_false : (b : Bool) → not b ≡ false → b ≡ true
not_false true e = refl
not_false false e = absurd (true≢false e)

-- what is found is told about the ports that there are
pub found_in : (ports ts : List PortState) → ports ≡ ts → (n : ℕ) (o : Option PortInfo) → o ≡ info_in ports n → (q : PortInfo) → o ≡ Some q → info_in ts n ≡ Some q
found_in ports ts same n o told q is = sym (ap (λ ps. info_in ps n) same) ∙ sym told ∙ is

-- ---- any lender

module _ {h : HubState} (hub : IsHub h) (shape : Shape) (y : Lender) (n k : ℕ) (there : port_in h.control.tables.ports n ≡ Some y.port)
    (of : (x : Given) → shape_in (given_by x h) h.control.tables y.port ≡ shape) (q : PortInfo) (is : info_of y.port ≡ q) where
  still_room : not q.grows ≡ true → LoanHasRoom h y shape k None
  still_room e = still_has_room hub shape y n k there of (ap (λ (i : PortInfo). i.grows) is ∙ not_true q.grows e)

  short_room : k ≤ q.longest → LoanHasRoom h y shape k None
  short_room low = short_has_room hub shape y n k there of (subst (λ (i : PortInfo). k ≤ i.longest) (sym is) low)

  unmade_room : (a : Asked) → a.elements ≡ k → IsAskedOf shape a → (MayBeMade h.control y a → ⊥) → LoanHasRoom h y shape k None
  unmade_room a count asked never = unmade_has_room hub shape y n k there of a count asked never

  wants_so : (a : Asked) → a.elements ≡ k → IsAskedOf shape a → not q.grows ≡ false → q.longest < k → MayBeMade h.control y a → WantsRoom h y shape k
  wants_so a count asked grows past may = record {
    loan = record { asked = a; count = count; of = asked; made = may };
    grows = (ap (λ (i : PortInfo). i.grows) is ∙ not_false q.grows grows, subst (λ (i : PortInfo). i.longest < k) (sym is) past);
  }

  has_messages : (a : Asked) → MayBeMade h.control y a → 0 < count_in h.words q.pool
  has_messages a may =
      let low : may.free.slot < y.port.size = may.free.free.within in
      let size = slot_count h.control.tables hub.control.order n y.port there in
      let fits = hub.words.pools y.port.pool in
      subst (λ (i : PortInfo). 0 < count_in h.words i.pool) is (omega (arith, low, size, fits))

  of_role : (b : Bool) → is_client y.port.role ≡ b → are_requests_in h.words q.pool ≡ b
  of_role b e = ap (λ (i : PortInfo). are_requests_in h.words i.pool) (sym is) ∙ hub.words.ports n y.port there ∙ e

-- ---- a client

module _ {h : HubState} (now : HubState) (same : h ≡ now) (hub : IsHub h) (node n k : ℕ) (has : HasValue now node n kinds.Client)
    (q : PortInfo) (found : info_in h.control.tables.ports n ≡ Some q) where
  client : IsClient h.control.tables node n
  client = client_of_hub hub now same node n has

  abbrev client_lender : Lender
  client_lender = lender_of_request client.port 0

  client_of_it : (x : Given) → shape_in (given_by x h) h.control.tables client.port ≡ h.request
  client_of_it x = ap (shape_of (limits_of (given_by x h) h.control.tables)) client.client

  client_is : info_of client.port ≡ q
  client_is = same_Some (info_of client.port) q (sym (ap (option_map info_of) client.there) ∙ found)

  -- so it is of the hub as it was met
  client_lift : (P : HubState → Lender → Type 0) → P h client_lender → (p : PortState) → port_in now.control.tables.ports n ≡ Some p → P now (lender_of_request p 0)
  client_lift P holds =
      subst (λ (d : HubState). (p : PortState) → port_in d.control.tables.ports n ≡ Some p → P d (lender_of_request p 0)) same
      (λ p there. subst (λ (z : PortState). P h (lender_of_request z 0)) (same_Some client.port p (sym client.there ∙ there)) holds)

  pub client_there : (p : PortState) × (port_in h.control.tables.ports n ≡ Some p)
  client_there = (client.port, client.there)

  pub client_shape : (a : Asked) → IsAskedOf h.request a → (p : PortState) → port_in h.control.tables.ports n ≡ Some p
      → (x : Given) × IsAskedOf (shape_in x h.control.tables p) a
  client_shape a asked p there =
      subst (λ (z : PortState). (x : Given) × IsAskedOf (shape_in x h.control.tables z) a) (same_Some client.port p (sym client.there ∙ there))
      (given_by hub.reached.0 h, subst (λ (s : Shape). IsAskedOf s a) (sym (client_of_it hub.reached.0)) asked)

  pub still_client : not q.grows ≡ true → (p : PortState) → port_in now.control.tables.ports n ≡ Some p → LoanHasRoom now (lender_of_request p 0) now.request k None
  still_client e = client_lift (λ d z. LoanHasRoom d z d.request k None) (still_room hub h.request client_lender n k client.there client_of_it q client_is e)

  pub short_client : k ≤ q.longest → (p : PortState) → port_in now.control.tables.ports n ≡ Some p → LoanHasRoom now (lender_of_request p 0) now.request k None
  short_client low = client_lift (λ d z. LoanHasRoom d z d.request k None) (short_room hub h.request client_lender n k client.there client_of_it q client_is low)

  pub unmade_client : (a : Asked) → a.elements ≡ k → IsAskedOf h.request a
      → ((p : PortState) → port_in h.control.tables.ports n ≡ Some p → MayBeMade h.control (lender_of_request p 0) a → ⊥)
      → (p : PortState) → port_in now.control.tables.ports n ≡ Some p → LoanHasRoom now (lender_of_request p 0) now.request k None
  unmade_client a count asked never =
      client_lift (λ d z. LoanHasRoom d z d.request k None) (unmade_room hub h.request client_lender n k client.there client_of_it q client_is a count asked (never client.port client.there))

  module _ (a : Asked) (count : a.elements ≡ k) (asked : IsAskedOf h.request a)
      (may : (p : PortState) → port_in h.control.tables.ports n ≡ Some p → MayBeMade h.control (lender_of_request p 0) a) where
    pub wants_client : not q.grows ≡ false → q.longest < k → (p : PortState) → port_in now.control.tables.ports n ≡ Some p
        → WantsRoom now (lender_of_request p 0) now.request k
    wants_client grows past =
        client_lift (λ d z. WantsRoom d z d.request k) (wants_so hub h.request client_lender n k client.there client_of_it q client_is a count asked grows past (may client.port client.there))

    pub client_has_messages : 0 < count_in h.words q.pool
    client_has_messages = has_messages hub h.request client_lender n k client.there client_of_it q client_is a (may client.port client.there)

  pub client_requests : are_requests_in h.words q.pool ≡ true
  client_requests = of_role hub h.request client_lender n k client.there client_of_it q client_is true (ap is_client client.client)

-- ---- an active request

module _ {h : HubState} (now : HubState) (same : h ≡ now) (hub : IsHub h) (node n k : ℕ) (has : HasValue now node n kinds.ActiveRequest)
    (e : HandleState) (at : Some e ≡ handle_in h.control.tables.handles node n) (q : PortInfo) (found : info_in h.control.tables.ports e.port ≡ Some q) where
  active : IsActive h.control.tables node n
  active = active_of_hub hub now same node n has

  abbrev active_lender : Lender
  active_lender = lender_of_response h.control.tables active.handle active.port

  active_of_it : (x : Given) → shape_in (given_by x h) h.control.tables active.port ≡ h.response
  active_of_it x = ap (shape_of (limits_of (given_by x h) h.control.tables)) active.server

  active_is : info_of active.port ≡ q
  active_is =
      same_Some (info_of active.port) q
      (sym (ap (option_map info_of) active.there)
      ∙ ap (λ (j : HandleState). info_in h.control.tables.ports j.port) (same_Some active.handle e (sym active.named.there ∙ sym at)) ∙ found)

  -- so it is of each that is found
  active_each : (P : Lender → Type 0) → P active_lender → (j : HandleState) (p : PortState) → handle_in h.control.tables.handles node n ≡ Some j
      → port_in h.control.tables.ports j.port ≡ Some p → P (lender_of_response h.control.tables j p)
  active_each P holds j p named there =
      let handle : active.handle ≡ j = same_Some active.handle j (sym active.named.there ∙ named) in
      let port : active.port ≡ p = same_Some active.port p (sym active.there ∙ ap (λ (i : HandleState). port_in h.control.tables.ports i.port) handle ∙ there) in
      subst (λ (i : HandleState). P (lender_of_response h.control.tables i p)) handle
      (subst (λ (z : PortState). P (lender_of_response h.control.tables active.handle z)) port holds)

  -- and of the hub as it was met
  active_lift : (P : HubState → Lender → Type 0) → P h active_lender → (j : HandleState) (p : PortState) → handle_in now.control.tables.handles node n ≡ Some j
      → port_in now.control.tables.ports j.port ≡ Some p → P now (lender_of_response now.control.tables j p)
  active_lift P holds =
      subst
      (λ (d : HubState). (j : HandleState) (p : PortState) → handle_in d.control.tables.handles node n ≡ Some j → port_in d.control.tables.ports j.port ≡ Some p
      → P d (lender_of_response d.control.tables j p)) same (active_each (P h) holds)

  pub active_shape : (a : Asked) → IsAskedOf h.response a → (j : HandleState) (p : PortState) → handle_in h.control.tables.handles node n ≡ Some j
      → port_in h.control.tables.ports j.port ≡ Some p → (x : Given) × IsAskedOf (shape_in x h.control.tables p) a
  active_shape a asked =
      active_each (λ (z : Lender). (x : Given) × IsAskedOf (shape_in x h.control.tables z.port) a)
      (given_by hub.reached.0 h, subst (λ (s : Shape). IsAskedOf s a) (sym (active_of_it hub.reached.0)) asked)

  abbrev AllHaveRoom : Type 0
  AllHaveRoom =
      (j : HandleState) (p : PortState) → handle_in now.control.tables.handles node n ≡ Some j → port_in now.control.tables.ports j.port ≡ Some p
      → LoanHasRoom now (lender_of_response now.control.tables j p) now.response k None

  pub still_active : not q.grows ≡ true → AllHaveRoom
  still_active g = active_lift (λ d z. LoanHasRoom d z d.response k None) (still_room hub h.response active_lender active.handle.port k active.there active_of_it q active_is g)

  pub short_active : k ≤ q.longest → AllHaveRoom
  short_active low = active_lift (λ d z. LoanHasRoom d z d.response k None) (short_room hub h.response active_lender active.handle.port k active.there active_of_it q active_is low)

  module _ (a : Asked) (count : a.elements ≡ k) (asked : IsAskedOf h.response a) where
    pub unmade_active : ((j : HandleState) (p : PortState) → handle_in h.control.tables.handles node n ≡ Some j → port_in h.control.tables.ports j.port ≡ Some p
        → MayBeMade h.control (lender_of_response h.control.tables j p) a → ⊥) → AllHaveRoom
    unmade_active never =
        active_lift (λ d z. LoanHasRoom d z d.response k None)
        (unmade_room hub h.response active_lender active.handle.port k active.there active_of_it q active_is a count asked (never active.handle active.port active.named.there active.there))

    module _ (may : (j : HandleState) (p : PortState) → handle_in h.control.tables.handles node n ≡ Some j → port_in h.control.tables.ports j.port ≡ Some p
        → MayBeMade h.control (lender_of_response h.control.tables j p) a) where
      abbrev made : MayBeMade h.control active_lender a
      made = may active.handle active.port active.named.there active.there

      pub wants_active : not q.grows ≡ false → q.longest < k → (j : HandleState) (p : PortState) → handle_in now.control.tables.handles node n ≡ Some j
          → port_in now.control.tables.ports j.port ≡ Some p → WantsRoom now (lender_of_response now.control.tables j p) now.response k
      wants_active grows past =
          active_lift (λ d z. WantsRoom d z d.response k) (wants_so hub h.response active_lender active.handle.port k active.there active_of_it q active_is a count asked grows past made)

      pub active_has_messages : 0 < count_in h.words q.pool
      active_has_messages = has_messages hub h.response active_lender active.handle.port k active.there active_of_it q active_is a made

  pub active_responses : are_requests_in h.words q.pool ≡ false
  active_responses = of_role hub h.response active_lender active.handle.port k active.there active_of_it q active_is false (ap is_client active.server)

-- the port of an active request is there
pub active_port_is_there : {h : HubState} → IsHub h → (now : HubState) → h ≡ now → (node n : ℕ) → HasValue now node n kinds.ActiveRequest
    → (e : HandleState) → Some e ≡ handle_in h.control.tables.handles node n → info_in h.control.tables.ports e.port ≡ None → ⊥
active_port_is_there {h} hub now same node n has e at none =
    let active : IsActive h.control.tables node n = active_of_hub hub now same node n has in
    let there : info_in h.control.tables.ports e.port ≡ Some (info_of active.port) =
    ap (λ (j : HandleState). info_in h.control.tables.ports j.port) (same_Some e active.handle (at ∙ active.named.there)) ∙ ap (option_map info_of) active.there in
    none-some (info_of active.port) (sym none ∙ there)
