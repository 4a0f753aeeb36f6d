-- Where one message waited at most, a receive that gets one leaves none.
use Rattle.std.specs.Prelude.{◌≡◌, ℕ, ◌≤◌, ◌+◌, ◌-◌, Bool, true, false, ◌==◌, nat_le, if◌then◌else◌, List, [], ◌∷◌, find, length, Option, refl}
use Rattle.std.specs.List.{list_any}
use Rattle.std.specs.Option.{option_map, option_map_or}
use Rattle.std.proofs.Common.{sym, ap, subst, ◌∙◌, arith, eqb-true}
use Rattle.std.proofs.lemmas.Option.{same_Some}
use Rattle.iox_model.specs.declared.call.Call.TheVariants.{Receive}
use Rattle.iox_model.specs.declared.kind.Kind.{Kind}
use Rattle.iox_model.specs.declared.kind.Kind.TheVariants.{ActiveRequest, PendingResponse}
use Rattle.iox_model.specs.declared.kind.Role.TheVariants.{Client}
use Rattle.iox_model.specs.declared.reply.Reply.TheVariants as replies
use Rattle.iox_model.specs.declared.way.Way.{Way}
use Rattle.iox_model.specs.Counts.{gives_up}
use Rattle.iox_model.specs.Doings.{Receiver}
use Rattle.iox_model.specs.Handles.{is_received, same_kind, way_of}
use Rattle.iox_model.specs.Maps.{put, same_way}
use Rattle.iox_model.specs.Messages.{Message, request_way, response_way}
use Rattle.iox_model.specs.Peers.{borrow_limit_on, buffer_on}
use Rattle.iox_model.specs.Receives.{is_at_limit}
use Rattle.iox_model.specs.Settings.{Limits, borrow_limit_of, buffer_of, other_role}
use Rattle.iox_model.specs.States as m
use Rattle.iox_model.specs.WholeCalls.{IsWholeCall}
use Rattle.iox_laws.proofs.RunLaws.Runs.{left_calm}
use Rattle.iox_laws.proofs.WeaveLaws.MapLemmas.{same_way-refl, same_way-true}
use Rattle.iox_laws.proofs.WeaveLedger.Truths.{by_cases}
use Rattle.iox_tables.specs.HubStates.Receives.{way_to}
use Rattle.iox_tables.specs.HubStates.Releases.{lane_of}
use Rattle.iox_tables.specs.HubStates.States.{Given, message_of}
use Rattle.iox_tables.specs.HubStates.Tables.{HandleState, HubTables}
use Rattle.iox_tables.proofs.HubStates.Fixing.{find_handle}
use Rattle.iox_hub_laws.specs.Received.TheVariants.{Handle}
use Rattle.iox_hub_laws.specs.Hubs.{HasValue, HubState, IsHub, given_by, state_of_hub}
use Rattle.iox_hub_laws.specs.Receives.{TakesNext, TakesRequest, TakesResponse}
use Rattle.iox_hub_laws.specs.Shown.{handle_of, shown}
use Rattle.iox_hub_laws.specs.Waiting.{client_in, client_of, server_of}
use Rattle.iox_hub_laws.proofs.Values.{IsHandleOf, value_is_handle}
use Rattle.iceoryx2_ports.specs.Idling.{AwaitsOne, IsIdleBut, TakesTheOne}
use Rattle.iceoryx2_ports.specs.Rooms.{TakesOfRoom}
use Rattle.iceoryx2_ports.proofs.Leaving.{less_full, same_limit}
use Rattle.iceoryx2_ports.proofs.Resting.{role_by}
use Rattle.iceoryx2_ports.proofs.Taking.{HasTaken, receive_takes}

-- ---- what a receive takes

no_more : (n k : ℕ) → n ≤ k → k ≤ 0 → n ≤ 0
no_more n k p q = omega arith

taken_one : (n k : ℕ) → n + 1 ≤ k → k ≤ 1 → n ≤ 0
taken_one n k p q = omega arith

none_taken : (n k : ℕ) → n + 1 ≤ k → k ≤ 0 → ⊥
none_taken n k p q = omega arith

pub is_empty : (ms : List Message) → length ms ≤ 0 → ms ≡ []
is_empty [] e = refl
is_empty (a ∷ ms) e = absurd (omega (arith, e))

module _ (old new : HubState) (hub : IsHub old) (node n k : ℕ)
    (whole : (y : Given) → IsWholeCall (state_of_hub y old) node (Receive n) (replies.Handle k) (state_of_hub y new))
    (got : TakesNext old new node k) (x : Receiver) (sender : ℕ) (its : way_of (handle_of new got.handle) ≡ way_to x sender)
    (received : is_received got.handle.kind ≡ true) where
  abbrev h : m.Handle
  h = handle_of new got.handle

  taken : HasTaken (state_of_hub hub.reached.0 old) (state_of_hub hub.reached.0 new) node k
  taken =
      receive_takes (state_of_hub hub.reached.0 old) (state_of_hub hub.reached.0 new) node n k
      (left_calm (state_of_hub hub.reached.0 old) hub.reached.1) (whole hub.reached.0)

  same : taken.handle ≡ h
  same =
      same_Some taken.handle h
      (sym taken.at
      ∙ find_handle (given_by hub.reached.0 new) (message_of (given_by hub.reached.0 new) new.control.tables.pools) new.control.tables.handles node k
      ∙ ap (option_map (handle_of new)) got.there)

  one : length ((shown new).waiting (way_to x sender)) + 1 ≤ length ((shown old).waiting (way_to x sender))
  one = subst (λ (w : Way). length ((shown new).waiting w) + 1 ≤ length ((shown old).waiting w)) (ap way_of same ∙ its) taken.one

  -- once it is given up, as many are had as before
  as_many : (w : Way) → (gives_up (shown new).fixed h).borrowed w ≡ (shown old).fixed.borrowed w
  as_many w =
      ap (λ (b : Bool). (if b then record (shown new).fixed { borrowed = put (shown new).fixed.borrowed (way_of h) ((shown new).fixed.borrowed (way_of h) - 1) }
      else (shown new).fixed).borrowed w) received
      ∙ put_back (same_way w (way_of h)) refl
    where
      now : (v : Way) → (shown new).fixed.borrowed v ≡ put (shown old).fixed.borrowed (way_of h) ((shown old).fixed.borrowed (way_of h) + 1) v
      now v = subst (λ (j : m.Handle). (shown new).fixed.borrowed v ≡ put (shown old).fixed.borrowed (way_of j) ((shown old).fixed.borrowed (way_of j) + 1) v) same (taken.borrowed v)

      back : (a b : ℕ) → a ≡ b + 1 → a - 1 ≡ b
      back a b e = omega (arith, e)

      put_back : (b : Bool) → same_way w (way_of h) ≡ b
          → (if b then (shown new).fixed.borrowed (way_of h) - 1 else (shown new).fixed.borrowed w) ≡ (shown old).fixed.borrowed w
      put_back true e =
          back ((shown new).fixed.borrowed (way_of h)) ((shown old).fixed.borrowed (way_of h))
          (now (way_of h) ∙ ap (λ (b : Bool). if b then (shown old).fixed.borrowed (way_of h) + 1 else (shown old).fixed.borrowed (way_of h)) (same_way-refl (way_of h)))
          ∙ ap (λ (v : Way). (shown old).fixed.borrowed v) (sym (same_way-true w (way_of h) e))
      put_back false e =
          now w ∙ ap (λ (b : Bool). if b then (shown old).fixed.borrowed (way_of h) + 1 else (shown old).fixed.borrowed w) e

  may_have : ((sender : ℕ) → is_at_limit (shown old).fixed (way_to x sender) ≡ false) → (a : ℕ) → is_at_limit (gives_up (shown new).fixed h) (way_to x a) ≡ false
  may_have few a =
      same_limit (shown new).fixed h (way_to x a)
      ∙ ap (λ (i : ℕ). nat_le (borrow_limit_on (shown new).fixed (way_to x a)) i) (as_many (way_to x a))
      ∙ ap (λ (l : Limits). nat_le (borrow_limit_of l (other_role (option_map_or (λ (p : m.Port). p.role) (find (λ (p : m.Port). p.number == x.port) (shown new).fixed.ports) Client)))
      ((shown old).fixed.borrowed (way_to x a))) taken.limits
      ∙ ap (λ (ps : List m.Port). nat_le (borrow_limit_of (shown old).fixed.limits (other_role (option_map_or (λ (p : m.Port). p.role) (find (λ (p : m.Port). p.number == x.port) ps) Client)))
      ((shown old).fixed.borrowed (way_to x a))) taken.ports
      ∙ few a

  -- who had room has it, once the handle gave up its message
  room_but : TakesOfRoom old x new node k
  room_but room = record {
    buffers = λ a there.
        ap (λ (l : Limits). nat_le (buffer_of l (role_by (shown new).fixed.ports a)) (length ((shown new).waiting (way_to x a)))) taken.limits
        ∙ ap (λ (ps : List m.Port). nat_le (buffer_of (shown old).fixed.limits (role_by ps a)) (length ((shown new).waiting (way_to x a)))) taken.ports
        ∙ less_full (buffer_on (shown old).fixed (way_to x a)) (length ((shown new).waiting (way_to x a))) (length ((shown old).waiting (way_to x a)))
        (taken.fewer (way_to x a)) (room.buffers a (sym (ap (λ (ps : List m.Port). list_any (λ (p : m.Port). p.number == a) ps) taken.ports) ∙ there));
    handle = got.handle;
    there = got.there;
    borrows = may_have room.borrows;
  }

  module _ (awaits : AwaitsOne old x) where
    -- it came from the one that may have sent it
    from_it : (sender == awaits.from) ≡ true
    from_it =
        by_cases (sender == awaits.from) (λ e. e)
        (λ other.
        absurd (none_taken (length ((shown new).waiting (way_to x sender))) (length ((shown old).waiting (way_to x sender))) one
        (subst (λ (ms : List Message). length ms ≤ 0) (sym (awaits.others sender other)) (omega arith))))

    empty : (a : ℕ) → (shown new).waiting (way_to x a) ≡ []
    empty a =
        by_cases (a == awaits.from)
        (λ is.
        is_empty ((shown new).waiting (way_to x a))
        (subst (λ (j : ℕ). length ((shown new).waiting (way_to x j)) ≤ 0) (eqb-true sender awaits.from from_it ∙ sym (eqb-true a awaits.from is))
        (taken_one (length ((shown new).waiting (way_to x sender))) (length ((shown old).waiting (way_to x sender))) one
        (subst (λ (j : ℕ). length ((shown old).waiting (way_to x j)) ≤ 1) (sym (eqb-true sender awaits.from from_it)) awaits.one))))
        (λ other.
        is_empty ((shown new).waiting (way_to x a))
        (no_more (length ((shown new).waiting (way_to x a))) (length ((shown old).waiting (way_to x a))) (taken.fewer (way_to x a))
        (subst (λ (ms : List Message). length ms ≤ 0) (sym (awaits.others a other)) (omega arith))))

    idle_but : IsIdleBut new x node k
    idle_but = record {
      none = record { empty = empty };
      handle = got.handle;
      there = got.there;
      borrows = may_have awaits.borrows;
    }

-- the one that a server awaits
pub request_is_the_one : (old new : HubState) → IsHub old → (node server k : ℕ)
    → ((y : Given) → IsWholeCall (state_of_hub y old) node (Receive server) (replies.Handle k) (state_of_hub y new)) → TakesRequest old node server (Handle k) new
    → TakesTheOne old (server_of server) new node k
request_is_the_one old new hub node server k whole takes awaits =
    let got : TakesNext old new node k = takes.0 in
    idle_but old new hub node server k whole got (server_of server) got.handle.client
    (ap (λ (kind : Kind). if same_kind kind ActiveRequest then request_way got.handle.client got.handle.port
    else response_way got.handle.port (lane_of new.control.tables got.handle) (handle_of new got.handle).message.sender) takes.1
    ∙ ap (request_way got.handle.client) takes.2)
    (ap is_received takes.1) awaits

-- the one that a client awaits
pub response_is_the_one : (old new : HubState) → IsHub old → (node number k : ℕ) → HasValue old node number PendingResponse
    → ((y : Given) → IsWholeCall (state_of_hub y old) node (Receive number) (replies.Handle k) (state_of_hub y new)) → TakesResponse old node number (Handle k) new
    → TakesTheOne old (client_in old node number) new node k
response_is_the_one old new hub node number k has whole takes awaits =
    let t : HubTables = old.control.tables in
    let pending : IsHandleOf t node number PendingResponse = value_is_handle t node number PendingResponse refl has in
    let who : client_in old node number ≡ client_of t pending.handle
    = ap (λ (o : Option HandleState). option_map_or (client_of t) o (server_of number)) pending.named.there in
    let got : TakesNext old new node k = takes.0 in
    let its = takes.1 pending.handle pending.named.there in
    subst (λ (x : Receiver). IsIdleBut new x node k) (sym who)
    (idle_but old new hub node number k whole got (client_of t pending.handle) (handle_of new got.handle).message.sender
    (ap (λ (kind : Kind). if same_kind kind ActiveRequest then request_way got.handle.client got.handle.port
    else response_way got.handle.port (lane_of new.control.tables got.handle) (handle_of new got.handle).message.sender) its.kind
    ∙ ap (λ (i : ℕ). response_way i (lane_of new.control.tables got.handle) (handle_of new got.handle).message.sender) its.port
    ∙ ap (λ (l : ℕ). response_way pending.handle.port l (handle_of new got.handle).message.sender) its.lane)
    (ap is_received its.kind) (subst (AwaitsOne old) who awaits))

-- ---- room

-- A client that had room has it but for the response that it got.
pub response_takes_of_room : (old new : HubState) → IsHub old → (node number k : ℕ) → HasValue old node number PendingResponse
    → ((y : Given) → IsWholeCall (state_of_hub y old) node (Receive number) (replies.Handle k) (state_of_hub y new)) → TakesResponse old node number (Handle k) new
    → TakesOfRoom old (client_in old node number) new node k
response_takes_of_room old new hub node number k has whole takes =
    let t : HubTables = old.control.tables in
    let pending : IsHandleOf t node number PendingResponse = value_is_handle t node number PendingResponse refl has in
    let who : client_in old node number ≡ client_of t pending.handle
    = ap (λ (o : Option HandleState). option_map_or (client_of t) o (server_of number)) pending.named.there in
    let got : TakesNext old new node k = takes.0 in
    let its = takes.1 pending.handle pending.named.there in
    subst (λ (x : Receiver). TakesOfRoom old x new node k) (sym who)
    (room_but old new hub node number k whole got (client_of t pending.handle) (handle_of new got.handle).message.sender
    (ap (λ (kind : Kind). if same_kind kind ActiveRequest then request_way got.handle.client got.handle.port
    else response_way got.handle.port (lane_of new.control.tables got.handle) (handle_of new got.handle).message.sender) its.kind
    ∙ ap (λ (i : ℕ). response_way i (lane_of new.control.tables got.handle) (handle_of new got.handle).message.sender) its.port
    ∙ ap (λ (l : ℕ). response_way pending.handle.port l (handle_of new got.handle).message.sender) its.lane)
    (ap is_received its.kind))
