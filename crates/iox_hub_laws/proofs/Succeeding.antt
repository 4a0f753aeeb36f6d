-- Where a node has full pools, a loan within its limits is made, or finds no memory.
use Rattle.std.specs.Prelude.{◌≡◌, ℕ, Bool, true, false, if◌then◌else◌, Option, None, refl}
use Rattle.std.specs.Option.{option_map_or}
use Rattle.std.proofs.Common.{sym, ap, subst, ◌∙◌, inl, inr}
use Rattle.std.proofs.lemmas.Option.{same_Some}
use Rattle.iox_model.specs.declared.kind.Kind.TheVariants as kinds
use Rattle.iox_model.specs.declared.kind.Role.TheVariants.{Client, Server}
use Rattle.iox_model.specs.declared.reply.Refusal.TheVariants.{OutOfMemory}
use Rattle.iox_model.specs.declared.reply.Reply.TheVariants.{Handle, Refused}
use Rattle.iox_model.specs.Commands.{Refusal, Reply}
use Rattle.iox_model.specs.States as m
use Rattle.iox_model.specs.WholeCalls.{IsWholeCall}
use Rattle.iox_laws.proofs.RunPools.Laws.{no_call}
use Rattle.iox_tables.specs.HubLoans.Lenders.{IsActive, IsClient, Lender, is_pool_to_be_dry, lender_of_request, lender_of_response, loan_refusal}
use Rattle.iox_tables.specs.HubLoans.Loans.{loan_call}
use Rattle.iox_tables.specs.HubStates.States.{Given}
use Rattle.iox_tables.specs.HubStates.Tables.{HandleState, HubTables, PortState, port_in}
use Rattle.iox_hub.specs.Hubs.{HasValue, HubState, IsHub, IsReached, given_by, nothing_given, state_of_hub}
use Rattle.iox_hub.proofs.LendingNamed.{active_of_hub, client_of_hub}
use Rattle.iox_hub_laws.specs.Loans.{CanLend, CanRespond, HasFullPools, IsLentOrWants, LoansSucceed, loan_answer}
use Rattle.iox_hub_laws.proofs.Loaned.{OrWants, client_tells, server_tells}
use Rattle.iox_hub_laws.proofs.Unrefused.{no_refusal, no_refusal_of_server}

module _ (h : HubState) (hub : IsHub h) (r : IsReached h) (u : m.State) (node n k : ℕ) (uninit : Bool) (reply : Reply)
    (whole : IsWholeCall (state_of_hub r.0 h) node (loan_call uninit n k) reply u) where
  abbrev t : HubTables
  t = h.control.tables

  abbrev x : Given
  x = given_by r.0 h

  abbrev by_dry : Bool → Reply
  by_dry b = if b then Refused OutOfMemory else Handle t.next_number

  never : HasFullPools h node → reply ≡ Refused OutOfMemory → ⊥
  never full e =
      no_call (state_of_hub r.0 h) u node (loan_call uninit n k) r.1 full
      (subst (λ (a : Reply). IsWholeCall (state_of_hub r.0 h) node (loan_call uninit n k) a u) e whole)

  decided : (b : Bool) → (reply ≡ Refused OutOfMemory → ⊥) → OrWants reply (by_dry b) → IsLentOrWants h reply
  decided true full (inl e) = absurd (full e)
  decided false full (inl e) = inl e
  decided b full (inr e) = inr e

  untested : (y : Lender) → HasFullPools h node → loan_refusal (given_by (nothing_given h) h) t y k ≡ None → OrWants reply (loan_answer x t y k)
      → IsLentOrWants h reply
  untested y full none told =
      decided (is_pool_to_be_dry x t y.port) (never full)
      (subst (λ (a : Reply). OrWants reply a) (ap (λ (o : Option Refusal). option_map_or Refused o (by_dry (is_pool_to_be_dry x t y.port))) none) told)

  of_client : HasValue h node n kinds.Client → CanLend h node n k → IsLentOrWants h reply
  of_client is can =
      let client : IsClient t node n = client_of_hub hub h refl node n is in
      let port : client.port ≡ can.port = same_Some client.port can.port (sym client.there ∙ can.there) in
      let role : can.port.role ≡ Client = ap (λ (q : PortState). q.role) (sym port) ∙ client.client in
      untested (lender_of_request can.port 0) can.pools (no_refusal h k can.port role can.limits)
      (subst (λ (q : PortState). OrWants reply (loan_answer x t (lender_of_request q 0) k)) port
      (client_tells x t hub.control.order r.1 node n k uninit reply u whole client))

  of_request : HasValue h node n kinds.ActiveRequest → CanRespond h node n k → IsLentOrWants h reply
  of_request is can =
      let active : IsActive t node n = active_of_hub hub h refl node n is in
      let same : active.handle ≡ can.active = same_Some active.handle can.active (sym active.named.there ∙ can.named) in
      let port : active.port ≡ can.port
      = same_Some active.port can.port (sym active.there ∙ ap (λ (b : HandleState). port_in t.ports b.port) same ∙ can.there) in
      let role : can.port.role ≡ Server = ap (λ (q : PortState). q.role) (sym port) ∙ active.server in
      untested (lender_of_response t can.active can.port) can.pools (no_refusal_of_server h k can.active can.port role can.limits)
      (subst (λ (b : HandleState). OrWants reply (loan_answer x t (lender_of_response t b can.port) k)) same
      (subst (λ (q : PortState). OrWants reply (loan_answer x t (lender_of_response t active.handle q) k)) port
      (server_tells x t hub.control.order r.1 node n k uninit reply u whole active)))

pub loans_succeed : {h : HubState} → IsHub h → LoansSucceed h
loans_succeed {h} hub = record {
  requests = λ r u node n k uninit reply is can whole. of_client h hub r u node n k uninit reply whole is can;
  responses = λ r u node n k uninit reply is can whole. of_request h hub r u node n k uninit reply whole is can;
  never = λ r u node call full whole. no_call (state_of_hub r.0 h) u node call r.1 full whole;
}
