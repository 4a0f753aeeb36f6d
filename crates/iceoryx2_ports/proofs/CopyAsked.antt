-- A request that is copied: its pending response is for it, it is what waits at servers, and it is open there.
use Rattle.std.specs.Prelude.{◌≡◌, ℕ, Bool, if◌then◌else◌, ◌==◌, List, [], ◌∷◌, ◌++◌, find, Some, refl}
use Rattle.std.proofs.Common.{sym, ap, subst, ◌∙◌}
use Rattle.std.proofs.lemmas.Option.{same_Some}
use Rattle.iox_model.specs.declared.call.Call.TheVariants.{SendCopy}
use Rattle.iox_model.specs.declared.kind.Kind.TheVariants as kinds
use Rattle.iox_model.specs.declared.kind.Role.TheVariants.{Client}
use Rattle.iox_model.specs.declared.reply.Reply.TheVariants as replies
use Rattle.iox_model.specs.declared.reply.Reply.TheVariants.{Handle}
use Rattle.iox_model.specs.Counts.{added, numbered, sent_handle}
use Rattle.iox_model.specs.Doings.{Receiver}
use Rattle.iox_model.specs.Handles.{handle_at, new_number}
use Rattle.iox_model.specs.Maps.{put_at}
use Rattle.iox_model.specs.States as m
use Rattle.iox_model.specs.WholeCalls.{IsWholeCall}
use Rattle.iox_laws.proofs.RunLaws.Runs.{left_calm, whole_calm}
use Rattle.iox_laws.proofs.RunLaws.Settling.{Calm}
use Rattle.iox_laws.proofs.WeaveLaws.WholeLemmas.{put_at-here}
use Rattle.iox_laws.proofs.WeaveLedger.Lists.{IsAmong, find-own}
use Rattle.iox_tables.specs.HubLoans.Lenders.{IsClient}
use Rattle.iox_tables.specs.HubStates.States.{Given}
use Rattle.iox_tables.specs.HubStates.Tables.{HubTables, PortState, port_in}
use Rattle.iox_hub_laws.specs.Hubs.{HasValue, HubState, IsHub, state_of_hub}
use Rattle.iox_hub_laws.specs.Lending.{payload_of}
use Rattle.iox_hub_laws.specs.Sends.{IsRequestSent}
use Rattle.iox_hub_laws.specs.Shown.{shown}
use Rattle.iox_hub_laws.specs.Waiting.{client_in}
use Rattle.iox_hub_laws.proofs.Takes.{last_among, number_in}
use Rattle.iceoryx2_ports.specs.Asking.{BringsItsRequest, LendsQuietly, OpensAtServers}
use Rattle.iceoryx2_ports.specs.Idling.{IsIdle}
use Rattle.iceoryx2_ports.proofs.Asking.{client_shown, own_asker}
use Rattle.iceoryx2_ports.proofs.Reaching as copy
use Rattle.iceoryx2_ports.proofs.Requested.{port_is_there, request_is_brought, request_opens, stays_idle}
use Rattle.iceoryx2_ports.proofs.Resting.{HaveAsBefore}

module _ (old new : HubState) (hub : IsHub old) (node client k i : ℕ) (words : List ℕ) (has : HasValue old node client kinds.Client)
    (whole : (x : Given) → IsWholeCall (state_of_hub x old) node (SendCopy client (payload_of Client k words)) (Handle i) (state_of_hub x new)) where
  abbrev t : HubTables
  t = old.control.tables

  abbrev z : m.State
  z = state_of_hub hub.reached.0 old

  abbrev u : m.State
  u = state_of_hub hub.reached.0 new

  abbrev lender : IsClient t node client
  lender = copy.lender old new hub node client k i words has whole

  abbrev number : lender.port.number ≡ client
  number = copy.number old new hub node client k i words has whole

  -- the loan that the copy made, and its pending response
  abbrev g : m.Handle
  g = copy.g old new hub node client k i words has whole

  abbrev count : ℕ
  count = (copy.done old new hub node client k i words has whole).made.count

  abbrev pending : m.Handle
  pending = sent_handle g count

  -- the number that the copy answers
  answered : i ≡ new_number z.fixed node
  answered =
      ap number_in
      ((copy.done old new hub node client k i words has whole).made.answer
      ∙ ap (λ (b : Bool). if b then replies.Handle (new_number z.fixed node) else replies.Done) (copy.request old new hub node client k i words has whole))

  handles : u.fixed.handles ≡ (added (numbered z.fixed g.node) pending).handles
  handles =
      (copy.done old new hub node client k i words has whole).made.handles
      ∙ ap (λ (b : Bool). (if b then added (numbered z.fixed g.node) pending else z.fixed).handles) (copy.request old new hub node client k i words has whole)

  calm : Calm u
  calm = whole_calm z node (SendCopy client (payload_of Client k words)) (Handle i) u (left_calm z hub.reached.1) (whole hub.reached.0)

  abbrev before : List m.Handle
  before = (numbered z.fixed g.node).handles g.node

  among : IsAmong pending (u.fixed.handles node)
  among =
      subst (λ (hs : ℕ → List m.Handle). IsAmong pending (hs node)) (sym handles)
      (subst (λ (a : ℕ). IsAmong pending (put_at (numbered z.fixed g.node).handles g.node (before ++ pending ∷ []) a)) lender.on_node
      (subst (IsAmong pending) (sym (put_at-here (numbered z.fixed g.node).handles g.node (before ++ pending ∷ []))) (last_among pending before)))

  there : handle_at u.fixed node i ≡ Some pending
  there =
      subst (λ (j : ℕ). find (λ (h : m.Handle). h.number == j) (u.fixed.handles node) ≡ Some pending)
      (ap (new_number z.fixed) lender.on_node ∙ sym answered)
      (find-own (λ (h : m.Handle). h.number) (u.fixed.handles node) pending (((calm.rests).fixed).handles node).apart among)

  who : client_in new node i ≡ own_asker g
  who = client_shown new node i pending there

  at : port_in t.ports g.port ≡ Some lender.port
  at = ap (port_in t.ports) number ∙ lender.there

  is_client : (p : PortState) → port_in t.ports g.port ≡ Some p → p.role ≡ Client
  is_client p e = ap (λ (q : PortState). q.role) (same_Some p lender.port (sym e ∙ at)) ∙ lender.client

  have : HaveAsBefore (shown old).fixed (shown new).fixed
  have =
      let h = (copy.done old new hub node client k i words has whole).have in
      record { limits = h.limits; ports = h.ports; borrowed = h.borrowed }

  sent : IsRequestSent old new g
  sent = copy.sent old new hub node client k i words has whole

  -- A client that was idle for each request is so for that of its copy.
  pub copy_asks_quietly : LendsQuietly old client new node i
  copy_asks_quietly quiet =
      let idle : IsIdle old (own_asker g) =
      subst (λ (c : ℕ). IsIdle old (record (own_asker g) { port = c })) (sym number) (quiet g.lane g.request) in
      subst (IsIdle new) (sym who) (stays_idle old new hub g refl refl is_client sent have g.lane g.request idle)

  -- It is open at each server that was there.
  pub copy_opens : OpensAtServers old (client_in new node i) new
  copy_opens =
      subst (λ (y : Receiver). OpensAtServers old y new) (sym who)
      (request_opens old new hub g refl refl is_client sent have (port_is_there t.ports g.port lender.port at lender.client))

  -- Where none waited, all that waits is that request.
  pub copy_brings_its_request : BringsItsRequest old (client_in new node i) new
  copy_brings_its_request =
      subst (λ (y : Receiver). BringsItsRequest old y new) (sym who) (request_is_brought old new hub g refl refl is_client sent have)
