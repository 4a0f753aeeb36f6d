-- What comes before deliveries keeps a loan, its ways and the order of the tables: lanes are emptied, and
-- request states are opened.
use Rattle.std.specs.Prelude.{◌≡◌, ℕ, Bool, true, false, if◌then◌else◌, List, [], ◌∷◌, map, Option, Some, None, refl}
use Rattle.std.proofs.Common.{sym, ap, subst, ◌∙◌, true≢false}
use Rattle.std.proofs.lemmas.Option.{none-some}
use Rattle.iox_model.specs.declared.kind.Kind.{Kind}
use Rattle.iox_model.specs.declared.kind.Kind.TheVariants as kinds
use Rattle.iox_model.specs.declared.kind.Role.TheVariants.{Server}
use Rattle.iox_model.specs.declared.way.RequestState.TheVariants.{Named}
use Rattle.iox_model.specs.declared.way.Way.{Way}
use Rattle.iox_model.specs.Doings.{Sending}
use Rattle.iox_model.specs.Handles.{is_request_loan, is_response_loan}
use Rattle.iox_model.specs.Maps.{AreDistinctWays}
use Rattle.iox_model.specs.Messages.{request_way, response_way}
use Rattle.iox_model.specs.Requests.{targets, to_open}
use Rattle.iox_tables.specs.HubStates.Tables.{HandleState, HubTables, PoolState, PortState, port_in}
use Rattle.iox_tables.specs.HubStates.Ways.{lane_on}
use Rattle.iox_tables.specs.HubStates.States.{Given}
use Rattle.iox_tables.specs.HubStates.Changes.{emptied_lane}
use Rattle.iox_tables.specs.HubStates.Releases.{lane_of}
use Rattle.iox_tables.specs.HubStates.Sendings.{request_sending, response_sending}
use Rattle.iox_tables.specs.HubStates.Sends.{with_emptied, with_opened}
use Rattle.iox_tables.specs.HubStates.Wirings.{IsHandle, numbers_of_role}
use Rattle.iox_tables.proofs.HubStates.Keys.{all_lanes_stay}
use Rattle.iox_tables.specs.HubBooks.Hubs.{AreInOrder}
use Rattle.iox_tables.specs.HubBooks.Keeps.{AreTargetsOf, bare_pools}
use Rattle.iox_tables.proofs.HubBooks.Frames.{AreAlike, lanes_on_bare, port_before, states_on_bare}
use Rattle.iox_tables.proofs.HubBooks.Little.{little_changes_keep_order}
use Rattle.iox_tables.proofs.HubBooks.Structures.{same_lane, same_role_in}
use Rattle.iox_tables.proofs.HubBooks.Targets.{each_has_its_targets}
use Rattle.iox_tables.proofs.HubLending.Emptied.{emptying_keeps_order}
use Rattle.iox_hub_delivering.specs.Keeps.{AreGotBackFor}

-- ---- ports that are the same but for what is on lanes and in request states

module _ (t : HubTables) (ports : List PortState) (pools : List (Option PoolState)) (alike : AreAlike t.ports ports) where
  abbrev pub with_both : HubTables
  with_both = record t { ports = ports; pools = pools }

  pub named_stays : (node n : ℕ) (h : HandleState) → IsHandle t node n h → IsHandle with_both node n h
  named_stays node n h named = record { there = named.there; no_port = step (port_in ports n) refl }
    where
      step : (o : Option PortState) → port_in ports n ≡ o → port_in ports n ≡ None
      step None e = e
      step (Some p) e = let q = port_before t.ports ports alike n p e in absurd (none-some q.0 (sym (sym q.1 ∙ named.no_port)))

  pub targets_stay : (h : HandleState) (ws : List Way) → bare_pools t.pools ≡ bare_pools pools → AreTargetsOf t h ws → AreTargetsOf with_both h ws
  targets_stay h ws same targets = record {
    apart = targets.apart;
    sender = targets.sender;
    lane = λ w has client. sym (same_lane t.pools pools same h.pool h.slot) ∙ targets.lane w has (sym (same_role_in t.ports ports alike w.receiver) ∙ client);
  }

-- ---- the ways of a loan

no_request : (kind : Kind) → is_response_loan kind ≡ true → is_request_loan kind ≡ false
no_request kinds.ResponseMutUninit e = refl
no_request kinds.ResponseMut e = refl
no_request kinds.Client e = refl
no_request kinds.Server e = refl
no_request kinds.RequestMutUninit e = absurd (true≢false (sym e))
no_request kinds.RequestMut e = absurd (true≢false (sym e))
no_request kinds.PendingResponse e = refl
no_request kinds.ActiveRequest e = refl
no_request kinds.Response e = refl

module _ (x : Given) (t : HubTables) (order : AreInOrder t) (node n : ℕ) (h : HandleState) (named : IsHandle t node n h) where
  pub request_targets : is_request_loan h.kind ≡ true → AreTargetsOf t h (targets (request_sending x t h))
  request_targets kind =
      subst (AreTargetsOf t h)
      (sym
      (ap
      (λ (b : Bool). if b then map (request_way h.port) (numbers_of_role Server t.ports) else map (λ client. response_way client (lane_of t h) h.port) (numbers_of_role Server t.ports))
      kind))
      ((each_has_its_targets t node n h order named).requests kind)

  pub response_targets : is_response_loan h.kind ≡ true → AreTargetsOf t h (targets (response_sending x t h))
  response_targets kind =
      subst (AreTargetsOf t h)
      (sym
      (ap (λ (b : Bool). if b then map (request_way h.port) (h.client ∷ []) else map (λ client. response_way client (lane_of t h) h.port) (h.client ∷ []))
      (no_request h.kind kind)))
      (each_has_its_targets t node n h order named).response

-- ---- the tables before deliveries

module _ (t : HubTables) (order : AreInOrder t) (y : Sending) (apart : AreDistinctWays (targets y)) (between : List (Option PoolState)) (back : AreGotBackFor t y between) where
  pub emptied_in_order : AreInOrder (record (with_emptied t y) { pools = between })
  emptied_in_order = emptying_keeps_order t (targets y) between order apart back

  abbrev pub opened_ports : List PortState
  opened_ports = (with_opened (with_emptied t y) y.loan.request (to_open y)).ports

  pub emptied_alike : AreAlike t.ports (with_emptied t y).ports
  emptied_alike = lanes_on_bare emptied_lane (λ l. refl) t.ports (targets y)

  pub opened_alike : AreAlike t.ports opened_ports
  opened_alike = states_on_bare (λ r. Named y.loan.request false) (with_emptied t y).ports (to_open y) ∙ emptied_alike

  pub opened_in_order : AreInOrder (record t { ports = opened_ports; pools = between })
  opened_in_order = (little_changes_keep_order (record (with_emptied t y) { pools = between }) emptied_in_order).0 (λ r. Named y.loan.request false) (to_open y)

  -- lanes are those of the emptied tables
  pub opened_lanes : lane_on (with_emptied t y).ports ≡ lane_on opened_ports
  opened_lanes = sym (all_lanes_stay (λ r. Named y.loan.request false) (with_emptied t y).ports (to_open y))
