-- What the copy of a response of a hub brings.
use Rattle.std.specs.Prelude.{◌≡◌, ℕ, Bool, true, false, ◌&&◌, if◌then◌else◌, List, [], ◌∷◌, map, Option, Some, is_some, option_map, None, refl}
use Rattle.std.proofs.Common.{sym, ap, subst, ◌∙◌, true≢false, inl, inr}
use Rattle.std.proofs.lemmas.Option.{same_Some}
use Rattle.iox_model.specs.declared.call.Call.TheVariants.{SendCopy}
use Rattle.iox_model.specs.declared.kind.Kind.TheVariants.{ActiveRequest}
use Rattle.iox_model.specs.declared.kind.Role.{Role}
use Rattle.iox_model.specs.declared.kind.Role.TheVariants as roles
use Rattle.iox_model.specs.declared.way.Way.{Way}
use Rattle.iox_model.specs.Commands.{Reply}
use Rattle.iox_model.specs.Handles.{TheHandle, is_request_loan, own_state, subject}
use Rattle.iox_model.specs.Loans.{kind_of_loan}
use Rattle.iox_model.specs.Maps.{has_number}
use Rattle.iox_model.specs.Messages.{names, request_way, response_way}
use Rattle.iox_model.specs.Peers.{is_connected_port, others, port_at}
use Rattle.iox_model.specs.States as m
use Rattle.iox_model.specs.WholeCalls.{IsWholeCall}
use Rattle.iox_tables.specs.HubBooks.Handles.{IsOfPort, role_for}
use Rattle.iox_tables.specs.HubStates.States.{Given, port_of}
use Rattle.iox_tables.specs.HubStates.Steps.{is_there}
use Rattle.iox_tables.specs.HubStates.Tables.{HandleState, HubTables, PortState, port_in}
use Rattle.iox_tables.specs.HubStates.Wirings.{handle_in}
use Rattle.iox_tables.proofs.HubBooks.Used.{handle_is}
use Rattle.iox_tables.proofs.HubStates.Fixing.{find_port, first_key}
use Rattle.iox_tables.proofs.HubStates.Naming.{each_handle_is_named}
use Rattle.iox_tables.proofs.HubStates.Steps.{connected_is}
use Rattle.iox_hub.specs.Answers.{reply_of_copy}
use Rattle.iox_hub.specs.Answered.{Answered}
use Rattle.iox_hub.specs.Answered.TheVariants as answered
use Rattle.iox_hub.specs.Hubs.{HasValue, HubState, IsHub, given_by, state_of_hub}
use Rattle.iox_hub.specs.Lending.{payload_of}
use Rattle.iox_hub.proofs.Named.{found_is_handle}
use Rattle.iox_hub_laws.specs.Arrivals.{IsSentOn}
use Rattle.iox_hub_laws.specs.Sends.{BringsResponseCopy, WaitsAsBefore, response_of, way_of_response}
use Rattle.iox_hub_laws.specs.Shown.{handle_of, shown}
use Rattle.iox_hub_laws.proofs.Arrivals.{IsRefusal}
use Rattle.iox_hub_laws.proofs.Brought.{CameTo, IsLeft, LeavesSo, goes_on}
use Rattle.iox_hub_laws.proofs.CopyLeaves.{loan_of_copy, response_copy_leaves}
use Rattle.iox_hub_laws.proofs.Values.{IsHandleOf, value_is_handle}

module _ (old new : HubState) (hub : IsHub old) (node n : ℕ) (active : HandleState)
    (there : handle_in old.control.tables.handles node n ≡ Some active) (kind : active.kind ≡ ActiveRequest) (server : PortState)
    (at : port_in old.control.tables.ports active.port ≡ Some server) (k : ℕ) (words : List ℕ) where
  abbrev t : HubTables
  t = old.control.tables

  abbrev x : Given
  x = hub.reached.0

  abbrev z : m.State
  z = state_of_hub hub.reached.0 old

  abbrev u : m.State
  u = state_of_hub hub.reached.0 new

  abbrev g : m.Handle
  g = handle_of old active

  abbrev p : m.Port
  p = port_of (given_by hub.reached.0 old) server

  -- the loan that the copy makes
  abbrev h : m.Handle
  h = loan_of_copy z hub.reached.1 node n g p roles.Server k words

  named : subject z.fixed node n ≡ Some (TheHandle g)
  named = (each_handle_is_named (given_by x old) t node n active (found_is_handle t hub.control.order node n active there)).names

  found : port_at z.fixed g.port ≡ Some p
  found = find_port (given_by x old) t.ports active.port ∙ ap (option_map (port_of (given_by x old))) at

  number : server.number ≡ active.port
  number = first_key (λ (q : PortState). q.number) t.ports active.port server at

  is_known : is_connected_port z.fixed p.number ≡ true
  is_known =
      connected_is (given_by x old) t.ports server.number ∙ ap (is_there t.ports) number
      ∙ ap (λ (o : Option PortState). is_some o) at

  of_server : server.role ≡ roles.Server
  of_server =
      let of : IsOfPort t active = handle_is (IsOfPort t) t.handles node n active hub.control.order.ports there in
      ap (λ (q : PortState). q.role) (same_Some server of.port (sym at ∙ of.there)) ∙ of.role ∙ ap role_for kind

  is_response : is_request_loan h.kind ≡ false
  is_response = ap (λ (r : Role). is_request_loan (kind_of_loan r false)) of_server

  abbrev Leaves : Reply → Type 0
  Leaves reply = LeavesSo z hub.reached.1 node h is_known true u reply

  leaves : (reply : Reply) → IsWholeCall z node (SendCopy n (payload_of roles.Server k words)) reply u → Leaves reply
  leaves reply whole = response_copy_leaves z hub.reached.1 node n g p roles.Server k words named found is_known u reply whole

  nothing_copied : (reply : Reply) → IsRefusal reply → IsWholeCall z node (SendCopy n (payload_of roles.Server k words)) reply u → WaitsAsBefore old new
  nothing_copied reply is whole w = elim (leaves reply whole) as (λ q. (shown new).waiting w ≡ (shown old).waiting w) [
    | inl q ↦ q.1.waiting w
    | inr q ↦ absurd (q.0 is)
  ]

  -- the same of the state that is shown
  copy_shown : (ws : List Way) → IsSentOn ws z h.message u → IsSentOn ws (shown old) (response_of old active server k words) (shown new)
  copy_shown ws q = record { sent = q.sent; others = q.others }

  abbrev IsCopied : Type 0
  IsCopied = IsSentOn (way_of_response old g) (shown old) (response_of old active server k words) (shown new)

  -- whether the request is still awaited, of the port of that number
  abbrev awaited_by : ℕ → Bool
  awaited_by i = has_number g.client (others z.fixed g.node roles.Client) && names (z.request_state (response_way g.client g.lane i)) g.request

  copied : IsWholeCall z node (SendCopy n (payload_of roles.Server k words)) (reply_of_copy (answered.Done None)) u → IsCopied
  copied whole = elim (leaves (reply_of_copy (answered.Done None)) whole) as (λ q. IsCopied) [
    | inl q ↦ absurd q.0
    | inr q ↦ elim q.1 as (λ r. IsCopied) [
      | inl came ↦ subst (λ (ws : List Way). IsSentOn ws (shown old) (response_of old active server k words) (shown new)) (goes came)
          (copy_shown (goes_on z hub.reached.1 node h is_known true) came.sent)
      | inr left ↦ subst (λ (ws : List Way). IsSentOn ws (shown old) (response_of old active server k words) (shown new)) (nowhere left)
          (record { sent = λ w is. absurd (true≢false (sym is)); others = λ w off. left.stays.waiting w })
    ]
  ]
    where
      goes : CameTo z hub.reached.1 node h is_known true u → goes_on z hub.reached.1 node h is_known true ≡ way_of_response old g
      goes came =
          ap (λ (b : Bool). if b then map (request_way h.port) (if b then others z.fixed h.node roles.Server else h.client ∷ [])
          else map (λ client. response_way client h.lane h.port) (if b then others z.fixed h.node roles.Server else h.client ∷ [])) is_response
          ∙ ap (λ (i : ℕ). response_way g.client g.lane i ∷ []) number
          ∙ sym (ap (λ (b : Bool). if b then own_state g ∷ [] else []) (ap awaited_by (sym number) ∙ came.may.awaited is_response))

      nowhere : IsLeft z hub.reached.1 node h is_known true u → [] ≡ way_of_response old g
      nowhere left = sym (ap (λ (b : Bool). if b then own_state g ∷ [] else []) (ap awaited_by (sym number) ∙ left.unawaited))

-- ---- copies

kind_is : (old : HubState) (node n : ℕ) → HasValue old node n ActiveRequest → (active : HandleState)
    → handle_in old.control.tables.handles node n ≡ Some active → active.kind ≡ ActiveRequest
kind_is old node n has active there =
    let is : IsHandleOf old.control.tables node n ActiveRequest = value_is_handle old.control.tables node n ActiveRequest refl has in
    ap (λ (k : HandleState). k.kind) (same_Some active is.handle (sym there ∙ is.named.there)) ∙ is.kind_is

refused_copy : (old new : HubState) → IsHub old → (node n k : ℕ) (words : List ℕ) (reply : Reply) → IsRefusal reply → HasValue old node n ActiveRequest
    → ((x : Given) → IsWholeCall (state_of_hub x old) node (SendCopy n (payload_of roles.Server k words)) reply (state_of_hub x new))
    → WaitsAsBefore old new
refused_copy old new hub node n k words reply refused has whole =
    let t : HubTables = old.control.tables in
    let is : IsHandleOf t node n ActiveRequest = value_is_handle t node n ActiveRequest refl has in
    let of : IsOfPort t is.handle = handle_is (IsOfPort t) t.handles node n is.handle hub.control.order.ports is.named.there in
    nothing_copied old new hub node n is.handle is.named.there is.kind_is of.port of.there k words reply refused (whole hub.reached.0)

pub brings_response_copy : (old new : HubState) → IsHub old → (node n k : ℕ) (words : List ℕ) (r : Answered) → HasValue old node n ActiveRequest
    → ((x : Given) → IsWholeCall (state_of_hub x old) node (SendCopy n (payload_of roles.Server k words)) (reply_of_copy r) (state_of_hub x new))
    → BringsResponseCopy old node n k words r new
brings_response_copy old new hub node n k words (answered.Done place) has whole =
    λ active there server at.
    copied old new hub node n active there (kind_is old node n has active there) server at k words (whole hub.reached.0)
brings_response_copy old new hub node n k words (answered.Refused r) has whole =
    refused_copy old new hub node n k words (reply_of_copy (answered.Refused r)) tt has whole
brings_response_copy old new hub node n k words answered.OutOfMemory has whole =
    refused_copy old new hub node n k words (reply_of_copy answered.OutOfMemory) tt has whole
brings_response_copy old new hub node n k words answered.Undelivered has whole =
    refused_copy old new hub node n k words (reply_of_copy answered.Undelivered) tt has whole
