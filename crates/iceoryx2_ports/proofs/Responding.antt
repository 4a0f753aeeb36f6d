-- A copy of a response can be received by who asked, if it had room; and what is known about an open request.
use Rattle.std.specs.Prelude.{◌≡◌, ℕ, Bool, true, false, ◌||◌, ◌==◌, if◌then◌else◌, List, [], ◌∷◌, Option, None, Some, is_some, refl}
use Rattle.std.specs.Option.{option_map_or}
use Rattle.std.proofs.Common.{sym, ap, subst, ◌∙◌, true≢false}
use Rattle.iox_model.specs.declared.call.Call.TheVariants.{IsConnected, SendCopy}
use Rattle.iox_model.specs.declared.kind.Kind.{Kind}
use Rattle.iox_model.specs.declared.kind.Kind.TheVariants.{ActiveRequest, PendingResponse}
use Rattle.iox_model.specs.declared.reply.Reply.TheVariants as replies
use Rattle.iox_model.specs.declared.way.Way.{Way}
use Rattle.iox_model.specs.Begins.{start}
use Rattle.iox_model.specs.Commands.{Call, Payload, Refusal, Reply, number_of}
use Rattle.iox_model.specs.Counts.{added, called, numbered, sent_handle, with_fixed}
use Rattle.iox_model.specs.Doings.{Doing, FailsToSend, Loans, Outcome, Receiver, Receives, Sends, Tells}
use Rattle.iox_model.specs.Ends.{is_nothing, sent_copy, settled}
use Rattle.iox_model.specs.Handles.{is_request_loan, own_state, same_kind, subject}
use Rattle.iox_model.specs.Maps.{has_way}
use Rattle.iox_model.specs.Messages.{Message}
use Rattle.iox_model.specs.Names.{misnamed, suits}
use Rattle.iox_model.specs.Peers.{is_connected_port}
use Rattle.iox_model.specs.States as m
use Rattle.iox_model.specs.WholeCalls.{IsDone, IsWholeCall, UnlessRefused, left_by, moved_by, replied, spent}
use Rattle.iox_laws.specs.CallFunctions.Looks.{connected_by}
use Rattle.iox_laws.specs.CallFunctions.Responses.{is_awaited}
use Rattle.iox_laws.proofs.CallFunctions.Looking.{each_question_is_whole}
use Rattle.iox_laws.proofs.ReplyLaws.Plainly.{whole_one}
use Rattle.iox_laws.proofs.WeaveLaws.MapLemmas.{either, eqb-refl, same_way-refl}
use Rattle.iox_laws.proofs.WeaveLaws.WholeLemmas.{moved_by-fixed}
use Rattle.iox_tables.specs.HubLoans.Lenders.{IsActive}
use Rattle.iox_tables.specs.HubLoans.Questions.{is_named, is_named_by_client, is_named_by_server}
use Rattle.iox_tables.specs.HubStates.Receives.{way_to}
use Rattle.iox_tables.specs.HubStates.Releases.{request_of}
use Rattle.iox_tables.specs.HubStates.States.{Given}
use Rattle.iox_tables.specs.HubStates.Tables.{HandleState, HubTables, PortState}
use Rattle.iox_tables.specs.HubStates.Wirings.{handle_in}
use Rattle.iox_tables.proofs.HubStates.Steps.{connected_is}
use Rattle.iox_tables.proofs.HubLoans.Asked.{awaited_are_named, connections_are_told}
use Rattle.iox_hub_laws.specs.Hubs.{HasValue, HubState, IsHub, given_by, nothing_given, state_of_hub}
use Rattle.iox_hub_laws.proofs.LendingNamed.{active_of_hub}
use Rattle.iox_hub_laws.specs.Arrivals.{IsSentOn}
use Rattle.iox_hub_laws.specs.Sends.{CopiesResponse, response_of, way_of_response}
use Rattle.iox_hub_laws.specs.Shown.{handle_of, shown}
use Rattle.iox_hub_laws.specs.Waiting.{WaitedFor, WaitedForPending, client_in, client_of, server_of}
use Rattle.iox_hub_laws.proofs.Values.{IsHandleOf, value_is_handle}
use Rattle.iox_hub_laws.specs.Received.{Received}
use Rattle.iceoryx2_ports.specs.Idling.{BringsOne}
use Rattle.iceoryx2_ports.specs.Reaching.{HasRoomForEach, SomeCanCome}
use Rattle.iceoryx2_ports.specs.Responses.{ReachesAsker, asker_in, asker_of, is_open}
use Rattle.iceoryx2_ports.proofs.OneSent.{response_brings_one}
use Rattle.iceoryx2_ports.proofs.Gathering.{Gathers, at_gathers, by_gathers, ended_gathers}
use Rattle.iceoryx2_ports.proofs.Reaching.{comes_to_wait}
use Rattle.iceoryx2_ports.proofs.Resting.{HaveAsBefore, have_same, limit_rests, numbered_has}

-- ---- what a copy that is done leaves to receivers

abbrev is_done : Reply → Bool
is_done replies.Done = true
is_done r = false

copied_has : (f : m.Fixed) (h : m.Handle) (count : ℕ) → HaveAsBefore f (sent_copy f h count)
copied_has f h count =
    either (HaveAsBefore f) (is_request_loan h.kind) (added (numbered f h.node) (sent_handle h count)) f
    (λ u. let r : HaveAsBefore f (numbered f h.node) = numbered_has f h.node in record { limits = r.limits; ports = r.ports; borrowed = r.borrowed })
    (λ u. have_same f)

-- an end that only adds handles, and tells that it is done, leaves receivers what they had
gathered_has : (s : m.State) (f : m.Fixed) (node : ℕ) (payload : List ℕ) (o : Outcome) → Gathers o → replies.Done ≡ replied f node o
    → HaveAsBefore s.fixed (settled s node payload o).fixed
gathered_has s f node payload (Tells reply) p e =
    either (λ (t : m.State). HaveAsBefore s.fixed t.fixed) (is_nothing reply) (with_fixed s (called s.fixed)) s
    (λ u. record { limits = refl; ports = refl; borrowed = refl }) (λ u. have_same s.fixed)
gathered_has s f node payload (Sends h true count) p e =
    let r : HaveAsBefore s.fixed (sent_copy s.fixed h count) = copied_has s.fixed h count in
    record { limits = r.limits; ports = r.ports; borrowed = r.borrowed }
gathered_has s f node payload (Sends h false count) p e = absurd (true≢false (sym p))
gathered_has s f node payload (FailsToSend h true refusal) p e = record { limits = refl; ports = refl; borrowed = refl }
gathered_has s f node payload (FailsToSend h false refusal) p e = absurd (true≢false (sym p))
gathered_has s f node payload (Loans h) p e = absurd (true≢false (ap is_done e))
gathered_has s f node payload (Receives x w msg) p e = absurd (true≢false (ap is_done e))
gathered_has s f node payload o p e = absurd p

done_has : (s t : m.State) (node n : ℕ) (p : Payload) → IsDone s node (SendCopy n p) replies.Done t → HaveAsBefore s.fixed t.fixed
done_has s t node n p done =
    let call : Call = SendCopy n p in
    let d : Doing = start s node done.0 call in
    let u : m.State = moved_by s done.2 in
    let o : Gathers done.4 =
    ended_gathers u (left_by s node d done.2) done.4
    (by_gathers s node d done.2 (at_gathers s done.0 call (subject s.fixed node (number_of call)) refl) done.3) done.5 in
    subst (λ (v : m.State). HaveAsBefore s.fixed v.fixed) (sym done.9)
    (subst (λ (f : m.Fixed). HaveAsBefore f (settled u node done.6 done.4).fixed) (moved_by-fixed s done.2)
    (gathered_has u s.fixed node done.6 done.4 o done.8))

unless_has : (q : Option Refusal) (s t : m.State) (reply : Reply) (P : Type 0) → (P → HaveAsBefore s.fixed t.fixed) → UnlessRefused q s reply t P
    → HaveAsBefore s.fixed t.fixed
unless_has (Some r) s t reply P f p = subst (λ (v : m.State). HaveAsBefore s.fixed v.fixed) (sym p.1) (have_same s.fixed)
unless_has None s t reply P f p = f p

pub copy_has_as_before : (s t : m.State) (node n : ℕ) (p : Payload) → IsWholeCall s node (SendCopy n p) replies.Done t → HaveAsBefore s.fixed t.fixed
copy_has_as_before s t node n p =
    unless_has (misnamed s.fixed node (SendCopy n p)) s t replies.Done
    (UnlessRefused (spent s.fixed (SendCopy n p)) s replies.Done t (IsDone s node (SendCopy n p) replies.Done t))
    (unless_has (spent s.fixed (SendCopy n p)) s t replies.Done (IsDone s node (SendCopy n p) replies.Done t) (done_has s t node n p))

-- ---- who asked

module _ (old new : HubState) (node n : ℕ) (a : HandleState) (there : handle_in old.control.tables.handles node n ≡ Some a) (message : Message)
    (named : message.request ≡ request_of old.control.tables a)
    (sent : IsSentOn (way_of_response old (handle_of old a)) (shown old) message (shown new)) (have : HaveAsBefore (shown old).fixed (shown new).fixed)
    (server : is_connected_port (shown old).fixed a.port ≡ true) where
  abbrev t : HubTables
  t = old.control.tables

  abbrev g : m.Handle
  g = handle_of old a

  abbrev x : Receiver
  x = asker_of t a

  abbrev w : Way
  w = own_state g

  asks : asker_in old node n ≡ x
  asks = ap (λ (o : Option HandleState). option_map_or (asker_of t) o (server_of n)) there

  open_is : is_open old node n ≡ is_named_by_client t a false
  open_is = ap (λ (o : Option HandleState). option_map_or (λ (b : HandleState). is_named_by_client t b false) o false) there

  -- the response is sent on the way to its client
  on : is_awaited (shown old) g ≡ true → IsSentOn (w ∷ []) (shown old) message (shown new)
  on awaited = subst (λ (b : Bool). IsSentOn (if b then w ∷ [] else []) (shown old) message (shown new)) awaited sent

  reached : is_awaited (shown old) g ≡ true → HasRoomForEach old x → SomeCanCome new x
  reached awaited room = (
    a.port,
    message,
    record {
      waits = comes_to_wait (shown old) (shown new) (w ∷ []) message w (on awaited) (ap (λ (b : Bool). b || has_way w []) (same_way-refl w))
          (room.buffers a.port server);
      fit = ap (λ (i : ℕ). i == request_of t a) named ∙ eqb-refl (request_of t a);
      room = limit_rests (shown old).fixed (shown new).fixed have (way_to x a.port) ∙ room.borrows a.port;
    },
  )

  -- A response that is sent can be received by who asked.
  pub reaches_asker : ReachesAsker old node n new
  reaches_asker connected room =
      subst (SomeCanCome new) (sym asks)
      (reached (awaited_are_named (given_by (nothing_given old) old) t a ∙ sym open_is ∙ connected) (subst (HasRoomForEach old) asks room))

-- of a copy
pub copy_reaches_asker : (old new : HubState) → IsHub old → (node n k : ℕ) (words : List ℕ) → HasValue old node n ActiveRequest
    → CopiesResponse old node n k words new → HaveAsBefore (shown old).fixed (shown new).fixed → ReachesAsker old node n new
copy_reaches_asker old new hub node n k words has copies have =
    let is : IsActive old.control.tables node n = active_of_hub hub old refl node n has in
    reaches_asker old new node n is.handle is.named.there (response_of old is.handle is.port k words) refl
    (copies is.handle is.named.there is.port is.there) have
    (connected_is (given_by (nothing_given old) old) old.control.tables.ports is.handle.port ∙ ap (λ (o : Option PortState). is_some o) is.there)

-- For who was idle one message waits at most once the copy of a response was sent.
pub response_copy_brings_one : (old new : HubState) → IsHub old → (node n k : ℕ) (words : List ℕ) → HasValue old node n ActiveRequest
    → CopiesResponse old node n k words new → HaveAsBefore (shown old).fixed (shown new).fixed → BringsOne old new
response_copy_brings_one old new hub node n k words has copies have =
    let is : IsActive old.control.tables node n = active_of_hub hub old refl node n has in
    response_brings_one old new (handle_of old is.handle) (response_of old is.handle is.port k words)
    (copies is.handle is.named.there is.port is.there) have

-- ---- questions

-- What an active request is told about its client is whether it is open.
pub open_is_told : (h : HubState) → IsHub h → (node n : ℕ) (b : Bool) → HasValue h node n ActiveRequest
    → ((x : Given) → IsWholeCall (state_of_hub x h) node (IsConnected n) (replies.Answer b) (state_of_hub x h)) → b ≡ is_open h node n
open_is_told h hub node n b has whole =
    ap told_by (one ∙ ap (λ (a : Reply × m.State). a.0) told)
    ∙ ap (λ (kind : Kind). if same_kind kind PendingResponse then is_named_by_server t is.handle false else is_named_by_client t is.handle false) is.kind
    ∙ sym (ap (λ (o : Option HandleState). option_map_or (λ (a : HandleState). is_named_by_client t a false) o false) is.named.there)
  where
    t : HubTables
    t = h.control.tables

    is : IsActive t node n
    is = active_of_hub hub h refl node n has

    z : m.State
    z = state_of_hub hub.reached.0 h

    told_by : Reply → Bool
    told_by (replies.Answer a) = a
    told_by r = false

    told : connected_by z node n ≡ (replies.Answer (is_named t is.handle false), z)
    told =
        connections_are_told (given_by hub.reached.0 h) t node n is.handle (record { lane = 0; memory = true }) [] is.named
        (ap (λ (kind : Kind). suits false (IsConnected n) kind) is.kind) (ap (λ (o : Option PortState). is_some o) is.there)

    one : replies.Answer b ≡ (connected_by z node n).0
    one =
        whole_one z z (connected_by z node n).1 node (IsConnected n) (replies.Answer b) (connected_by z node n).0 hub.reached.1 refl (whole hub.reached.0)
        (each_question_is_whole z node n).0

-- ---- receives

-- what waited for the client of a pending response
pub waited_in : (h : HubState) (node n : ℕ) (r : Received) → HasValue h node n PendingResponse → WaitedForPending h node n r → WaitedFor h (client_in h node n) r
waited_in h node n r has waited =
    let t : HubTables = h.control.tables in
    let is : IsHandleOf t node n PendingResponse = value_is_handle t node n PendingResponse refl has in
    subst (λ (x : Receiver). WaitedFor h x r)
    (sym (ap (λ (o : Option HandleState). option_map_or (client_of t) o (server_of n)) is.named.there))
    (waited is.handle is.named.there)
