-- The sends of copies are the machine's whole calls.
use Rattle.std.specs.Prelude.{◌≡◌, ℕ, Bool, true, false, not, ◌&&◌, if◌then◌else◌, nat_le, List, [], length, map, filter, Some, None, refl}
use Rattle.std.specs.List.{list_any}
use Rattle.std.specs.Option.{option_map_or}
use Rattle.std.proofs.Common.{sym, ap, ap₂, ◌∙◌}
use Rattle.iox_model.specs.declared.kind.Kind.TheVariants.{PendingResponse, RequestMut, ResponseMut}
use Rattle.iox_model.specs.declared.kind.Role.{Role}
use Rattle.iox_model.specs.declared.kind.Role.TheVariants.{Client, Server}
use Rattle.iox_model.specs.declared.call.Call.TheVariants.{SendCopy}
use Rattle.iox_model.specs.declared.reply.Refusal.TheVariants.{ExceedsMaxActiveRequests, UnableToDeliver}
use Rattle.iox_model.specs.declared.reply.Reply.TheVariants.{Done, Handle, Refused}
use Rattle.iox_model.specs.Commands.{Payload, Reply}
use Rattle.iox_model.specs.Doings.{Outcome, Sending, FailsToSend, Sends}
use Rattle.iox_model.specs.Ends.{settled}
use Rattle.iox_model.specs.Handles.{is_request_loan, same_kind}
use Rattle.iox_model.specs.Loans.{Choice, kind_of_loan}
use Rattle.iox_model.specs.Maps.{has_number}
use Rattle.iox_model.specs.Messages.{response_way}
use Rattle.iox_model.specs.declared.way.RequestState.{RequestState}
use Rattle.iox_model.specs.declared.way.RequestState.TheVariants.{Closed}
use Rattle.iox_model.specs.Settings.{same_role}
use Rattle.iox_model.specs.Peers.{role_at}
use Rattle.iox_model.specs.Requests.{is_active_spent, targets}
use Rattle.iox_model.specs.States as m
use Rattle.iox_laws.specs.CallFunctions.Answers.{answered}
use Rattle.iox_laws.specs.CallFunctions.Calls.{call_by}
use Rattle.iox_laws.specs.CallFunctions.LoanSends.{sent_of}
use Rattle.iox_laws.specs.CallFunctions.Overflows.{sent_over}
use Rattle.iox_laws.specs.CallFunctions.Responses.{is_awaited}
use Rattle.iox_laws.specs.CallFunctions.Sends.{sent}
use Rattle.iox_tables.specs.HubStates.Tables.{HandleState, HubTables, SlotState}
use Rattle.iox_tables.specs.HubStates.Ways.{OnWays}
use Rattle.iox_tables.specs.HubStates.States.{Given, fixed_of, state_shown}
use Rattle.iox_tables.specs.HubStates.Changes.{emptied_lane}
use Rattle.iox_tables.specs.HubStates.Releases.{handle_shown}
use Rattle.iox_tables.specs.HubStates.Sends.{MaySendFrom, free_targets, full_targets, outcome_of_send, sent_count, with_delivered, with_emptied, with_pushed, with_sent}
use Rattle.iox_tables.specs.HubStates.Steps.{is_there}
use Rattle.iox_tables.specs.HubStates.Wirings.{numbers_of_role, role_in}
use Rattle.iox_tables.proofs.HubStates.Fixing.{role_is, roles_are}
use Rattle.iox_tables.proofs.HubStates.Keys.{all_states_stay}
use Rattle.iox_tables.proofs.HubStates.SendSteps.{pushing_sends_are_shown, sends_are_shown}
use Rattle.iox_tables.specs.HubLoans.CopySends.{CopiesAreSent, CopiesAreSentOver, IsCopyToMake, SpentCopiesAreRefused, UnawaitedCopiesGoToNobody, copied, copy_sending, goes_out, is_lender_awaited, overflows_by, with_copy, with_loan_call, with_words}
use Rattle.iox_tables.specs.HubLoans.Counts.{has_all_active}
use Rattle.iox_tables.specs.HubLoans.Lenders.{Lender, ways_by, with_got_back}
use Rattle.iox_tables.specs.HubLoans.Loans.{loaned_contents, loaned_handle, loaned_slot}
use Rattle.iox_tables.specs.HubLoans.Questions.{names_request, state_of}
use Rattle.iox_tables.proofs.HubLoans.Asked.{awaited_are_named}
use Rattle.iox_tables.proofs.HubLoans.Copying.{copy_lends}
use Rattle.iox_tables.proofs.HubLoans.CopySends.{counted_is, request_end, response_end, response_is, there_pushed, there_sent}
use Rattle.iox_tables.proofs.HubLoans.Counting.{each_count_is_the_same}
use Rattle.iox_tables.proofs.HubLoans.Lent.{fixed_back, is_there_back}
use Rattle.iox_tables.proofs.HubLoans.Loaning.{Lends, handle_is, lends_so}
use Rattle.iox_tables.proofs.HubLoans.Placed.{slot_is, unused_slots_may_change}
use Rattle.iox_tables.proofs.HubStates.Requesting.{request_is}

module _ (x : Given) (t : HubTables) (node n k : ℕ) (p : Payload) (c : Choice) (payload : List ℕ) (y : Lender) (slot : ℕ) (may : IsCopyToMake x t node n k p c y slot) where
  abbrev s : m.State
  s = state_shown x t

  abbrev back : HubTables
  back = with_got_back t y.port

  abbrev x' : Given
  x' = with_words x t y slot p.words

  abbrev u : HubTables
  u = with_copy t y k slot

  abbrev h : HandleState
  h = loaned_handle t y false slot

  abbrev mh : m.Handle
  mh = handle_shown x' u h

  abbrev told : Outcome → m.State → Outcome × m.State
  told o v = (o, v)

  abbrev tells : Reply → m.State → Reply × m.State
  tells r v = (r, v)

  so : Lends x t node n c y
  so = lends_so x t node n c may.nodes y may.lender

  -- the slot is not shown until it is sent
  moved : state_shown x back ≡ state_shown x' u
  moved = unused_slots_may_change x back y.port.pool slot (loaned_slot y k) (loaned_contents x t y p.words) may.takes.unused

  call_is : call_by s node (SendCopy n p) c payload ≡ answered s node (sent_of (state_shown x' u) mh true)
  call_is =
      copy_lends x t node n p c payload y so may.role k may.elements may.passes may.memory may.takes.once false may.takes.dry
      ∙ ap₂ (λ (v : m.State) (l : m.Handle). answered s node (sent_of v l true)) moved
      (sym (handle_is x t node n k false c p.words y so slot may.takes))

  there : is_there u.ports h.port ≡ true
  there = is_there_back x t y so.there

  fixed_is : fixed_of x' u ≡ fixed_of x t
  fixed_is = sym (ap (λ (v : m.State). v.fixed) moved) ∙ fixed_back x t y so.there

  role_there : role_in u.ports h.port ≡ y.port.role
  role_there =
      sym (role_is x' u h.port) ∙ ap (λ (f : m.Fixed). role_at f h.port) fixed_is ∙ role_is x t h.port
      ∙ ap (λ o. option_map_or (λ q. q.role) o Client) so.there

  -- ---- requests

  spent_is : is_active_spent (fixed_of x' u) mh ≡ has_all_active t y.port.number
  spent_is =
      ap (λ (f : m.Fixed). is_active_spent f mh) fixed_is
      ∙ ap (λ j. nat_le t.settings.active_requests j) ((each_count_is_the_same x t may.nodes).kinds y.port.number (λ l. same_kind l PendingResponse))

  request_sends : y.port.role ≡ Client → (spent over : Bool) → has_all_active t y.port.number ≡ spent → t.settings.request_overflow ≡ over
      → call_by s node (SendCopy n p) c payload
      ≡ answered s node (if spent then told (FailsToSend mh true ExceedsMaxActiveRequests) (state_shown x' u)
      else (if over then sent_over (state_shown x' u) (copy_sending Client x' u h) else sent (state_shown x' u) (copy_sending Client x' u h)))
  request_sends client spent over es eo =
      call_is
      ∙ ap (answered s node) (request_is x' u h true (ap (λ role. kind_of_loan role false) client) (role_there ∙ client)
      ∙ ap₂ (λ (a b : Bool). if a then told (FailsToSend mh true ExceedsMaxActiveRequests) (state_shown x' u)
      else (if b then sent_over (state_shown x' u) (copy_sending Client x' u h) else sent (state_shown x' u) (copy_sending Client x' u h)))
      (spent_is ∙ es) eo)

  pub spent_copy : y.port.role ≡ Client → has_all_active t y.port.number ≡ true
      → call_by s node (SendCopy n p) c payload ≡ tells (Refused ExceedsMaxActiveRequests) (state_shown x (with_loan_call back h))
  spent_copy client spent =
      request_sends client true t.settings.request_overflow spent refl
      ∙ ap (λ v. tells (Refused ExceedsMaxActiveRequests) (settled v node [] (FailsToSend mh true ExceedsMaxActiveRequests))) (sym moved)
      ∙ ap (tells (Refused ExceedsMaxActiveRequests)) (counted_is x back h there)

  -- a request that was sent, to so many
  request_ends : (ports : List _) (count : ℕ) → h.kind ≡ RequestMut → is_there ports h.port ≡ true
      → answered s node (told (Sends mh true count) (state_shown x' (record u { ports = ports }))) ≡ copied Client x' (record u { ports = ports }) h (Some count)
  request_ends ports count kind is =
      ap (λ (b : Bool). tells (if b then Handle t.next_number else Done) (settled (state_shown x' (record u { ports = ports })) node [] (Sends mh true count))) (ap is_request_loan kind)
      ∙ ap (tells (Handle t.next_number)) (request_end x' u h node count ports kind is)

  -- a send that failed
  fail_ends : (ports : List _) → is_there ports h.port ≡ true
      → answered s node (told (FailsToSend mh true UnableToDeliver) (state_shown x' (record u { ports = ports }))) ≡ tells (Refused UnableToDeliver) (state_shown x' (with_loan_call (record u { ports = ports }) h))
  fail_ends ports is = ap (tells (Refused UnableToDeliver)) (counted_is x' (record u { ports = ports }) h is)

  -- ---- responses

  clients_are : numbers_of_role Client back.ports ≡ numbers_of_role Client t.ports
  clients_are =
      sym (roles_are x back.ports Client)
      ∙ ap (λ (f : m.Fixed). map (λ (q : m.Port). q.number) (filter (λ (q : m.Port). same_role q.role Client) f.ports)) (fixed_back x t y so.there)
      ∙ roles_are x t.ports Client

  -- what is got back changes no request state
  awaited_before : is_lender_awaited back y ≡ is_lender_awaited t y
  awaited_before =
      ap₂ (λ (ns : List ℕ) (on : OnWays RequestState). has_number y.client ns && names_request false y.request (option_map_or (λ r. r) (on (response_way y.client y.lane y.port.number)) Closed))
      clients_are (all_states_stay emptied_lane t.ports (ways_by y.port.role t y.port.number))

  awaited_is : is_awaited (state_shown x' u) mh ≡ is_lender_awaited t y
  awaited_is =
      awaited_are_named x' u h
      ∙ ap (λ (z : SlotState). has_number y.client (numbers_of_role Client u.ports) && names_request false z.request (state_of u (response_way y.client z.lane y.port.number)))
      (slot_is t.pools y.port.pool slot (loaned_slot y k) may.takes.there)
      ∙ awaited_before

  response_sends : y.port.role ≡ Server → (awaited over : Bool) → is_lender_awaited t y ≡ awaited → t.settings.response_overflow ≡ over
      → call_by s node (SendCopy n p) c payload
      ≡ answered s node (if awaited then (if over then sent_over (state_shown x' u) (copy_sending Server x' u h) else sent (state_shown x' u) (copy_sending Server x' u h))
      else told (Sends mh true 0) (state_shown x' u))
  response_sends server awaited over ea eo =
      call_is
      ∙ ap (answered s node) (response_is x' u h (ap (λ role. kind_of_loan role false) server) (role_there ∙ server)
      ∙ ap₂ (λ (a b : Bool). if a then (if b then sent_over (state_shown x' u) (copy_sending Server x' u h) else sent (state_shown x' u) (copy_sending Server x' u h))
      else told (Sends mh true 0) (state_shown x' u)) (awaited_is ∙ ea) eo)

  -- a response has no handle
  response_ends : (x2 : Given) (t2 : HubTables) (count : ℕ) → h.kind ≡ ResponseMut → is_there t2.ports h.port ≡ true
      → answered s node (told (Sends mh true count) (state_shown x2 t2)) ≡ copied Server x2 t2 h (Some count)
  response_ends x2 t2 count kind is =
      ap (λ (b : Bool). tells (if b then Handle t.next_number else Done) (settled (state_shown x2 t2) node [] (Sends mh true count))) (ap is_request_loan kind)
      ∙ ap (tells Done) (response_end x2 x' t2 u h node count kind is)

  pub unawaited_copy : y.port.role ≡ Server → is_lender_awaited t y ≡ false → call_by s node (SendCopy n p) c payload ≡ copied Server x back h (Some 0)
  unawaited_copy server awaited =
      response_sends server false t.settings.response_overflow awaited refl
      ∙ ap (λ v. answered s node (told (Sends mh true 0) v)) (sym moved)
      ∙ response_ends x back 0 (ap (λ role. kind_of_loan role false) server) there

  -- ---- both

  -- how a send ends, by role
  sent_ends : (role : Role) → y.port.role ≡ role → (ports : List _) (count : ℕ) → is_there ports h.port ≡ true
      → answered s node (told (Sends mh true count) (state_shown x' (record u { ports = ports }))) ≡ copied role x' (record u { ports = ports }) h (Some count)
  sent_ends Client e ports count is = request_ends ports count (ap (λ role. kind_of_loan role false) e) is
  sent_ends Server e ports count is = response_ends x' (record u { ports = ports }) count (ap (λ role. kind_of_loan role false) e) is

  sends_by : (role : Role) → y.port.role ≡ role → goes_out role t y ≡ true → (over : Bool) → overflows_by role t.settings ≡ over
      → call_by s node (SendCopy n p) c payload
      ≡ answered s node (if over then sent_over (state_shown x' u) (copy_sending role x' u h) else sent (state_shown x' u) (copy_sending role x' u h))
  sends_by Client e goes over eo = request_sends e false over (unspent (has_all_active t y.port.number) goes) eo
    where
      unspent : (b : Bool) → not b ≡ true → b ≡ false
      unspent true e = sym e
      unspent false e = refl
  sends_by Server e goes over eo = response_sends e true over goes eo

  pub copy_sent : (role : Role) → y.port.role ≡ role → goes_out role t y ≡ true → overflows_by role t.settings ≡ false
      → MaySendFrom x' u (copy_sending role x' u h) h.pool h.slot
      → call_by s node (SendCopy n p) c payload ≡ copied role x' (with_sent u (copy_sending role x' u h) slot) h (sent_count u (copy_sending role x' u h))
  copy_sent role e goes eo from =
      sends_by role e goes false eo
      ∙ ap (answered s node) (sends_are_shown x' u z h.pool slot from)
      ∙ step (list_any z.fails (full_targets u z)) (there_sent x' u z slot h.port there)
    where
      z : Sending
      z = copy_sending role x' u h

      step : (b : Bool) → is_there (if b then with_emptied u (copy_sending role x' u h) else with_delivered u (copy_sending role x' u h) slot (free_targets u (copy_sending role x' u h))).ports h.port ≡ true
          → answered s node (told (outcome_of_send (copy_sending role x' u h) (if b then None else Some (length (free_targets u (copy_sending role x' u h)))))
          (state_shown x' (if b then with_emptied u (copy_sending role x' u h) else with_delivered u (copy_sending role x' u h) slot (free_targets u (copy_sending role x' u h)))))
          ≡ copied role x' (if b then with_emptied u (copy_sending role x' u h) else with_delivered u (copy_sending role x' u h) slot (free_targets u (copy_sending role x' u h))) h
          (if b then None else Some (length (free_targets u (copy_sending role x' u h))))
      step true is = fail_ends (with_emptied u (copy_sending role x' u h)).ports is
      step false is = sent_ends role e (with_delivered u (copy_sending role x' u h) slot (free_targets u (copy_sending role x' u h))).ports (length (free_targets u (copy_sending role x' u h))) is

  pub copy_sent_over : (role : Role) → y.port.role ≡ role → goes_out role t y ≡ true → overflows_by role t.settings ≡ true
      → MaySendFrom x' u (copy_sending role x' u h) h.pool h.slot
      → call_by s node (SendCopy n p) c payload ≡ copied role x' (with_pushed u (copy_sending role x' u h) slot) h (Some (length (targets (copy_sending role x' u h))))
  copy_sent_over role e goes eo from =
      sends_by role e goes true eo
      ∙ ap (answered s node) (pushing_sends_are_shown x' u (copy_sending role x' u h) h.pool slot from)
      ∙ sent_ends role e (with_pushed u (copy_sending role x' u h) slot).ports (length (targets (copy_sending role x' u h)))
      (there_pushed x' u (copy_sending role x' u h) slot h.port there)

pub spent_copies_are_refused : SpentCopiesAreRefused
spent_copies_are_refused x t node n k p c payload y slot may client goes =
    spent_copy x t node n k p c payload y slot may client (spent (has_all_active t y.port.number) goes)
  where
    spent : (b : Bool) → not b ≡ false → b ≡ true
    spent true e = refl
    spent false e = sym e

pub unawaited_copies_go_to_nobody : UnawaitedCopiesGoToNobody
unawaited_copies_go_to_nobody x t node n k p c payload y slot may server goes =
    unawaited_copy x t node n k p c payload y slot may server goes

pub copies_are_sent : CopiesAreSent
copies_are_sent x t node n k p c payload y slot may goes over from =
    copy_sent x t node n k p c payload y slot may y.port.role refl goes over from

pub copies_are_sent_over : CopiesAreSentOver
copies_are_sent_over x t node n k p c payload y slot may goes over from =
    copy_sent_over x t node n k p c payload y slot may y.port.role refl goes over from
