-- What a send of a hub brings.
use Rattle.std.specs.Prelude.{◌≡◌, ◌⊎◌, ℕ, Bool, true, false, ◌||◌, ◌==◌, if◌then◌else◌, List, [], ◌∷◌, map, Some, refl}
use Rattle.std.proofs.Common.{sym, ap, subst, ◌∙◌, true≢false, eqb-true, inl, inr}
use Rattle.std.proofs.lemmas.Option.{same_Some}
use Rattle.iox_model.specs.declared.call.Call.TheVariants.{Send}
use Rattle.iox_model.specs.declared.kind.Kind.TheVariants.{RequestMut, ResponseMut}
use Rattle.iox_model.specs.declared.kind.Role.TheVariants.{Server}
use Rattle.iox_model.specs.declared.way.Way.{Way}
use Rattle.iox_model.specs.Commands.{Reply}
use Rattle.iox_model.specs.Handles.{TheHandle, is_request_loan, own_state, subject}
use Rattle.iox_model.specs.Maps.{has_number, has_way, same_way}
use Rattle.iox_model.specs.Messages.{request_way, response_way}
use Rattle.iox_model.specs.Peers.{is_connected_port, others}
use Rattle.iox_model.specs.Requests.{to_open}
use Rattle.iox_model.specs.States as m
use Rattle.iox_model.specs.WholeCalls.{IsWholeCall}
use Rattle.iox_laws.proofs.ReplyLaws.Plainly.{known_port}
use Rattle.iox_laws.proofs.WeaveLaws.MapLemmas.{others_are_all, same_way-refl}
use Rattle.iox_laws.proofs.WeaveLedger.Truths.{by_cases, or-right, or-rest}
use Rattle.iox_tables.specs.HubStates.States.{Given}
use Rattle.iox_tables.specs.HubStates.Steps.{is_there}
use Rattle.iox_tables.specs.HubStates.Tables.{HandleState, HubTables}
use Rattle.iox_tables.specs.HubStates.Wirings.{handle_in}
use Rattle.iox_tables.proofs.HubStates.Fixing.{roles_are}
use Rattle.iox_tables.proofs.HubStates.Naming.{each_handle_is_named}
use Rattle.iox_tables.proofs.HubStates.Steps.{connected_is}
use Rattle.iox_hub.specs.Sendings as requests
use Rattle.iox_hub.specs.Requested.{Requested}
use Rattle.iox_hub.specs.Requested.TheVariants.{To, ExceedsMaxActiveRequests, UnableToDeliver}
use Rattle.iox_hub.specs.Responses as responses
use Rattle.iox_hub.specs.Responded.{Responded}
use Rattle.iox_hub.specs.Responded.TheVariants.{Done, Undelivered}
use Rattle.iox_hub.specs.Hubs.{HasValue, HubState, IsHub, given_by, state_of_hub}
use Rattle.iox_hub.proofs.Named.{found_is_handle}
use Rattle.iox_hub_laws.specs.Arrivals.{IsSentOn}
use Rattle.iox_hub_laws.specs.Sends.{BringsNothing, BringsRequest, BringsResponse, IsRequestSent, SendsRequest, SendsResponse, servers_of, way_of_response}
use Rattle.iox_hub_laws.specs.Shown.{handle_of, shown}
use Rattle.iox_hub_laws.proofs.Arrivals.{IsRefusal}
use Rattle.iox_hub_laws.proofs.Brought.{CameTo, IsLeft, IsStillThere, LeavesSo, StaysSo, goes_on, goes_to, send_leaves}
use Rattle.iox_hub_laws.proofs.Values.{IsHandleOf, value_is_handle}

-- ---- ways

-- the way to one of these is one of the ways
mapped : (port lane : ℕ) (ns : List ℕ) (n : ℕ) → has_number n ns ≡ true → has_way (response_way port lane n) (map (response_way port lane) ns) ≡ true
mapped port lane [] n e = e
mapped port lane (k ∷ ks) n e =
    by_cases (k == n)
    (λ same.
    ap (λ b. b || has_way (response_way port lane n) (map (response_way port lane) ks))
    (ap (λ i. same_way (response_way port lane n) (response_way port lane i)) (eqb-true k n same) ∙ same_way-refl (response_way port lane n)))
    (λ other.
    or-right (same_way (response_way port lane n) (response_way port lane k)) (has_way (response_way port lane n) (map (response_way port lane) ks))
    (mapped port lane ks n (or-rest (k == n) (has_number n ks) e other)))

-- ---- a loan that is sent

module _ (old new : HubState) (hub : IsHub old) (node n : ℕ) (loan : HandleState) (there : handle_in old.control.tables.handles node n ≡ Some loan) where
  abbrev t : HubTables
  t = old.control.tables

  abbrev x : Given
  x = hub.reached.0

  abbrev z : m.State
  z = state_of_hub hub.reached.0 old

  abbrev u : m.State
  u = state_of_hub hub.reached.0 new

  abbrev g : m.Handle
  g = handle_of old loan

  named : subject z.fixed node n ≡ Some (TheHandle g)
  named = (each_handle_is_named (given_by x old) t node n loan (found_is_handle t hub.control.order node n loan there)).names

  abbrev known : is_connected_port z.fixed g.port ≡ true
  known = known_port z node n g hub.reached.1 named

  abbrev Leaves : Reply → Type 0
  Leaves reply = LeavesSo z hub.reached.1 node g known false u reply

  leaves : (reply : Reply) → IsWholeCall z node (Send n) reply u → ((is_request_loan g.kind ≡ true → IsRefusal reply) → is_connected_port u.fixed g.port ≡ true)
      → Leaves reply
  leaves reply whole connected = send_leaves z hub.reached.1 node n g named u reply whole (λ c need. connected need)

  connected : is_there new.control.tables.ports loan.port ≡ true → is_connected_port u.fixed g.port ≡ true
  connected e = connected_is (given_by x new) new.control.tables.ports loan.port ∙ e

  -- nothing changes where it is refused
  refused_so : (reply : Reply) → IsRefusal reply → IsWholeCall z node (Send n) reply u → is_there new.control.tables.ports loan.port ≡ true
      → (w : Way) → (shown new).waiting w ≡ (shown old).waiting w
  refused_so reply is whole e w = elim (leaves reply whole (λ need. connected e)) as (λ p. (shown new).waiting w ≡ (shown old).waiting w) [
    | inl p ↦ p.1.waiting w
    | inr p ↦ absurd (p.0 is)
  ]

  -- the same of the state that is shown
  as_shown : (ws : List Way) → IsSentOn ws z g.message u → IsSentOn ws (shown old) g.message (shown new)
  as_shown ws p = record { sent = p.sent; others = p.others }

  servers : is_request_loan g.kind ≡ true → goes_to z hub.reached.1 node g known false ≡ servers_of old
  servers request =
      ap (λ (b : Bool). if b then others z.fixed g.node Server else g.client ∷ []) request
      ∙ others_are_all z.fixed g.node Server refl ∙ roles_are (given_by x old) t.ports Server

  request_sent : (count : ℕ) → is_request_loan g.kind ≡ true → IsWholeCall z node (Send n) (requests.reply_of_send (To count)) u → IsRequestSent old new g
  request_sent count request whole = elim (leaves (requests.reply_of_send (To count)) whole (λ need. absurd (need request))) as (λ p. IsRequestSent old new g) [
    | inl p ↦ absurd p.0
    | inr p ↦ elim p.1 as (λ q. IsRequestSent old new g) [
      | inl came ↦ sent came
      | inr left ↦ absurd (true≢false (sym request ∙ left.response))
    ]
  ]
    where
      sent : CameTo z hub.reached.1 node g known false u → IsRequestSent old new g
      sent came = record {
        brought = subst (λ (ws : List Way). IsSentOn ws (shown old) g.message (shown new))
            (ap (λ (b : Bool). if b then map (request_way g.port) (goes_to z hub.reached.1 node g known false)
            else map (λ client. response_way client g.lane g.port) (goes_to z hub.reached.1 node g known false)) request
            ∙ ap (map (request_way g.port)) (servers request)) (as_shown (goes_on z hub.reached.1 node g known false) came.sent);
        states = λ server is.
            came.opened (response_way g.port g.lane server)
            (ap (λ (b : Bool). has_way (response_way g.port g.lane server)
            (if b then map (response_way g.port g.lane) (goes_to z hub.reached.1 node g known false) else [])) request
            ∙ mapped g.port g.lane (goes_to z hub.reached.1 node g known false) server
            (ap (has_number server) (servers request) ∙ is));
      }

  response_sent : is_request_loan g.kind ≡ false → IsWholeCall z node (Send n) (responses.reply_of_send Done) u
      → is_there new.control.tables.ports loan.port ≡ true → IsSentOn (way_of_response old g) (shown old) g.message (shown new)
  response_sent response whole e = elim (leaves (responses.reply_of_send Done) whole (λ need. connected e)) as
      (λ p. IsSentOn (way_of_response old g) (shown old) g.message (shown new)) [
        | inl p ↦ absurd p.0
        | inr p ↦ elim p.1 as (λ q. IsSentOn (way_of_response old g) (shown old) g.message (shown new)) [
          | inl came ↦ subst (λ (ws : List Way). IsSentOn ws (shown old) g.message (shown new)) (goes came)
              (as_shown (goes_on z hub.reached.1 node g known false) came.sent)
          | inr left ↦ subst (λ (ws : List Way). IsSentOn ws (shown old) g.message (shown new)) (nowhere left) (none left)
        ]
      ]
    where
      goes : CameTo z hub.reached.1 node g known false u → goes_on z hub.reached.1 node g known false ≡ way_of_response old g
      goes came =
          ap (λ (b : Bool). if b then map (request_way g.port) (if b then others z.fixed g.node Server else g.client ∷ [])
          else map (λ client. response_way client g.lane g.port) (if b then others z.fixed g.node Server else g.client ∷ [])) response
          ∙ sym (ap (λ (b : Bool). if b then own_state g ∷ [] else []) (came.may.awaited response))

      nowhere : IsLeft z hub.reached.1 node g known false u → [] ≡ way_of_response old g
      nowhere left = sym (ap (λ (b : Bool). if b then own_state g ∷ [] else []) left.unawaited)

      none : IsLeft z hub.reached.1 node g known false u → IsSentOn [] (shown old) g.message (shown new)
      none left = record { sent = λ w is. absurd (true≢false (sym is)); others = λ w off. left.stays.waiting w }

-- ---- sends

request_is : (old : HubState) → IsHub old → (node n : ℕ) → HasValue old node n RequestMut → (loan : HandleState)
    → handle_in old.control.tables.handles node n ≡ Some loan → is_request_loan loan.kind ≡ true
request_is old hub node n has loan there =
    let is : IsHandleOf old.control.tables node n RequestMut = value_is_handle old.control.tables node n RequestMut refl has in
    ap (λ (k : HandleState). is_request_loan k.kind) (same_Some loan is.handle (sym there ∙ is.named.there)) ∙ ap is_request_loan is.kind_is

response_is : (old : HubState) → IsHub old → (node n : ℕ) → HasValue old node n ResponseMut → (loan : HandleState)
    → handle_in old.control.tables.handles node n ≡ Some loan → is_request_loan loan.kind ≡ false
response_is old hub node n has loan there =
    let is : IsHandleOf old.control.tables node n ResponseMut = value_is_handle old.control.tables node n ResponseMut refl has in
    ap (λ (k : HandleState). is_request_loan k.kind) (same_Some loan is.handle (sym there ∙ is.named.there)) ∙ ap is_request_loan is.kind_is

pub brings_request : (old new : HubState) → IsHub old → (node n : ℕ) (r : Requested) → HasValue old node n RequestMut
    → ((x : Given) → IsWholeCall (state_of_hub x old) node (Send n) (requests.reply_of_send r) (state_of_hub x new)) → BringsRequest old node n r new
brings_request old new hub node n (To count) has whole =
    λ loan there.
    request_sent old new hub node n loan there count (request_is old hub node n has loan there) (whole hub.reached.0)
brings_request old new hub node n ExceedsMaxActiveRequests has whole =
    λ loan there e.
    refused_so old new hub node n loan there (requests.reply_of_send ExceedsMaxActiveRequests) tt (whole hub.reached.0) e
brings_request old new hub node n UnableToDeliver has whole =
    λ loan there e.
    refused_so old new hub node n loan there (requests.reply_of_send UnableToDeliver) tt (whole hub.reached.0) e

pub brings_response : (old new : HubState) → IsHub old → (node n : ℕ) (r : Responded) → HasValue old node n ResponseMut
    → ((x : Given) → IsWholeCall (state_of_hub x old) node (Send n) (responses.reply_of_send r) (state_of_hub x new)) → BringsResponse old node n r new
brings_response old new hub node n Done has whole =
    λ loan there e.
    response_sent old new hub node n loan there (response_is old hub node n has loan there) (whole hub.reached.0) e
brings_response old new hub node n Undelivered has whole =
    λ loan there e.
    refused_so old new hub node n loan there (responses.reply_of_send Undelivered) tt (whole hub.reached.0) e
