-- A port that is made has nothing, has nothing on loan, and has room; for all others nothing comes, and who had room has it still.
use Rattle.std.specs.Prelude.{◌≡◌, ◌⊎◌, ℕ, ◌<◌, ◌≤◌, Bool, true, false, ◌||◌, ◌==◌, nat_le, if◌then◌else◌, List, [], ◌∷◌, ◌++◌, filter, find, length, map, max, Option, None, Some, is_some, refl}
use Rattle.std.specs.List.{list_any}
use Rattle.std.specs.Option.{option_map, option_map_or}
use Rattle.std.proofs.Common.{sym, ap, ◌∙◌, arith, inl, inr, eqb-true, true≢false}
use Rattle.std.proofs.lemmas.Option.{none-some}
use Rattle.iox_types.specs.declared.identifiers.system_id.UniqueSystemId.{UniqueSystemId}
use Rattle.iox_model.specs.declared.kind.Role.{Role}
use Rattle.iox_model.specs.declared.kind.Role.TheVariants.{Client, Server}
use Rattle.iox_model.specs.declared.reply.Reply.TheVariants as replies
use Rattle.iox_model.specs.declared.way.Way.{Way}
use Rattle.iox_model.specs.Commands.{Create, Options, Refusal, Reply}
use Rattle.iox_model.specs.Counts.{with_fixed}
use Rattle.iox_model.specs.Doings.{Receiver}
use Rattle.iox_model.specs.Makings.{IsHubCommand, making_refusal, new_port, port_reply, with_port}
use Rattle.iox_model.specs.Maps.{has_number}
use Rattle.iox_model.specs.Messages.{Message}
use Rattle.iox_model.specs.Handles.{count_of, is_request_loan}
use Rattle.iox_model.specs.Peers.{borrow_limit_on, buffer_on, is_connected_port, node_of_port, port_at, role_at}
use Rattle.iox_model.specs.Receives.{is_at_limit}
use Rattle.iox_model.specs.Runs.{IsReachableState}
use Rattle.iox_model.specs.Settings.{Limits, borrow_limit_of, buffer_of, other_role}
use Rattle.iox_model.specs.States as m
use Rattle.iox_model.specs.WholeCalls.{UnlessRefused}
use Rattle.iox_laws.specs.CallFunctions.Sends.{is_full}
use Rattle.iox_laws.proofs.WeaveLaws.MapLemmas.{either, eqb-refl}
use Rattle.iox_laws.proofs.WeaveLedger.Truths.{by_cases, or-right}
use Rattle.iox_laws.proofs.WeaveWorlds.Inductions.{reached_keeps}
use Rattle.iox_laws.proofs.WeaveWorlds.PortsKept.{is_kept}
use Rattle.iox_lanes.specs.Lanes.{LaneState}
use Rattle.iox_tables.specs.HubStates.Receives.{way_to}
use Rattle.iox_tables.specs.HubStates.Shown.{waiting_in}
use Rattle.iox_tables.specs.HubBooks.Handles.{IsOfPort}
use Rattle.iox_tables.proofs.HubKeeping.Ordered.{order_is_ready_for_ports}
use Rattle.iox_tables.specs.HubStates.Ends.{OfEachHandle}
use Rattle.iox_tables.specs.HubStates.States.{Given, expired_in, handle_of, message_of, port_of}
use Rattle.iox_tables.specs.HubStates.Steps.{is_there}
use Rattle.iox_tables.specs.HubStates.Tables.{HandleState, HubTables, PortState, numbers_of, port_in}
use Rattle.iox_tables.specs.HubStates.Ways.{lane_on}
use Rattle.iox_tables.proofs.HubLending.Owning.{handles_are_on_nodes}
use Rattle.iox_tables.proofs.HubLoans.Counting.{each_count_is_the_same}
use Rattle.iox_tables.proofs.HubStates.Fixing.{find_port}
use Rattle.iox_hub_laws.specs.Hubs.{HubState, IsHub, given_by, nothing_given, state_of_hub}
use Rattle.iox_hub_laws.specs.Gone.{IsToPort}
use Rattle.iox_hub_laws.specs.Sends.{NothingComes}
use Rattle.iox_hub_laws.specs.Shown.{shown}
use Rattle.iox_hub_laws.proofs.OfHubs.{hub_keeps_few_gone}
use Rattle.iceoryx2_ports.specs.Idling.{IsIdle}
use Rattle.iceoryx2_ports.specs.LoanLimits.{LendsNone}
use Rattle.iceoryx2_ports.specs.Reaching.{HasRoomForEach, KeepsRoom}

-- ---- limits

-- each way has room for one message at least, and its receiver may have one
record ArePositive (l : Limits) : Type 0 where
  pub requests : 1 ≤ l.active_requests
  pub buffer : 1 ≤ l.response_buffer
  pub borrows : 1 ≤ l.borrowed_responses

one_at_least : (n : ℕ) → 1 ≤ max 1 n
one_at_least n = omega arith

reached_positive : (s : m.State) → IsReachableState s → ArePositive s.fixed.limits
reached_positive =
    reached_keeps (λ t. ArePositive t.fixed.limits)
    (is_kept (λ l ps n. ArePositive l)
    (record { numbers = λ l ps n p. p; filters = λ l ps n keep p. p; drops = λ l ps n port p. p })
    (λ f node role id o memory allowed p. p))
    (λ l acts id. record { requests = one_at_least l.active_requests; buffer = one_at_least l.response_buffer; borrows = one_at_least l.borrowed_responses })

some_buffer : (l : Limits) → ArePositive l → (role : Role) → 1 ≤ buffer_of l role
some_buffer l p Client = p.requests
some_buffer l p Server = p.buffer

some_borrow : (l : Limits) → ArePositive l → (role : Role) → 1 ≤ borrow_limit_of l role
some_borrow l p Client = p.requests
some_borrow l p Server = p.borrows

not_zero : (b : ℕ) → 1 ≤ b → nat_le b 0 ≡ false
not_zero b e = grind (arith, e)

hub_positive : (h : HubState) → IsHub h → ArePositive (shown h).fixed.limits
hub_positive h hub =
    let p : ArePositive (state_of_hub hub.reached.0 h).fixed.limits = reached_positive (state_of_hub hub.reached.0 h) hub.reached.1 in
    record { requests = p.requests; buffer = p.buffer; borrows = p.borrows }

-- where nothing waits there is room
pub empty_room : (h : HubState) → IsHub h → (w : Way) → (shown h).waiting w ≡ [] → is_full (shown h) w ≡ false
empty_room h hub w none =
    ap (λ (ms : List Message). nat_le (buffer_on (shown h).fixed w) (length ms)) none
    ∙ not_zero (buffer_on (shown h).fixed w) (some_buffer (shown h).fixed.limits (hub_positive h hub) (role_at (shown h).fixed w.sender))

-- ---- ways of a hub without one of their ends

-- the sender is not there, and the receiver does not keep it
pub record IsNoSender (h : HubState) (w : Way) : Type 0 where
  pub there : is_there h.control.tables.ports w.sender ≡ false
  pub kept : has_number w.sender (expired_in h.control.tables.ports w.receiver) ≡ false

-- the receiver is not there, or nothing comes from the sender
abbrev pub IsAway : HubState → Way → Type 0
IsAway h w = (is_there h.control.tables.ports w.receiver ≡ false) ⊎ IsNoSender h w

module _ (h : HubState) (hub : IsHub h) (w : Way) (away : IsAway h w) where
  abbrev ts : HubTables
  ts = h.control.tables

  none_from : IsNoSender h w → (is_there ts.ports w.sender ≡ true) ⊎ (has_number w.sender (expired_in ts.ports w.receiver) ≡ true) → ⊥
  none_from is (inl there) = true≢false (sym there ∙ is.there)
  none_from is (inr kept) = true≢false (sym kept ∙ is.kept)

  no_lane : lane_on ts.ports w ≡ None
  no_lane = step (lane_on ts.ports w) refl
    where
      step : (l : Option LaneState) → lane_on ts.ports w ≡ l → lane_on ts.ports w ≡ None
      step None e = e
      step (Some l) e =
          let between : IsToPort ts w = (hub_keeps_few_gone hub).lanes w l e in
          elim away as (λ q. lane_on ts.ports w ≡ None) [
            | inl is ↦ absurd (true≢false (sym between.receiver ∙ is))
            | inr is ↦ absurd (none_from is between.sender)
          ]

  empty : (shown h).waiting w ≡ []
  empty = ap (λ (l : Option LaneState). option_map_or (waiting_in (message_of (given_by (nothing_given h) h) ts.pools)) l []) no_lane

  borrows_none : (shown h).fixed.borrowed w ≡ 0
  borrows_none = ap (λ (l : Option LaneState). option_map_or (λ (k : LaneState). length k.taken) l 0) no_lane

  -- its receiver has none, so it may have one
  pub may_have_one : is_at_limit (shown h).fixed w ≡ false
  may_have_one =
      ap (λ (k : ℕ). nat_le (borrow_limit_on (shown h).fixed w) k) borrows_none
      ∙ not_zero (borrow_limit_on (shown h).fixed w)
      (some_borrow (shown h).fixed.limits (hub_positive h hub) (other_role (role_at (shown h).fixed w.receiver)))

-- ---- lists

numbered : (ps : List PortState) (n : ℕ) → is_there ps n ≡ true → has_number n (numbers_of ps) ≡ true
numbered [] n e = absurd (true≢false (sym e))
numbered (q ∷ qs) n e =
    by_cases (q.number == n)
    (λ same. ap (λ (b : Bool). b || has_number n (numbers_of qs)) same)
    (λ other.
    or-right (q.number == n) (has_number n (numbers_of qs))
    (numbered qs n (sym (ap (λ (b : Bool). is_some (if b then Some q else port_in qs n)) other) ∙ e)))

has_front : (n : ℕ) (xs ys : List ℕ) → has_number n xs ≡ true → has_number n (xs ++ ys) ≡ true
has_front n [] ys e = absurd (true≢false (sym e))
has_front n (x ∷ xs) ys e = step (x == n) e (has_front n xs ys)
  where
    step : (b : Bool) → (b || has_number n xs) ≡ true → (has_number n xs ≡ true → has_number n (xs ++ ys) ≡ true) → (b || has_number n (xs ++ ys)) ≡ true
    step true e more = refl
    step false e more = more e

-- another port is found as before
found_still : (ps : List m.Port) (p : m.Port) (k : ℕ) → (p.number == k) ≡ false → find (λ (q : m.Port). q.number == k) (ps ++ p ∷ []) ≡ find (λ (q : m.Port). q.number == k) ps
found_still [] p k e = ap (λ (b : Bool). if b then Some p else None) e
found_still (q ∷ qs) p k e =
    either (λ (o : Option m.Port). o ≡ (if q.number == k then Some q else find (λ (r : m.Port). r.number == k) qs)) (q.number == k)
    (Some q) (find (λ (r : m.Port). r.number == k) (qs ++ p ∷ []))
    (λ same. sym (ap (λ (b : Bool). if b then Some q else find (λ (r : m.Port). r.number == k) qs) same))
    (λ other. found_still qs p k e ∙ sym (ap (λ (b : Bool). if b then Some q else find (λ (r : m.Port). r.number == k) qs) other))

-- the new one is found under its number, where none had that
found_new : (ps : List m.Port) (p : m.Port) (k : ℕ) → (p.number == k) ≡ true → find (λ (q : m.Port). q.number == k) ps ≡ None
    → find (λ (q : m.Port). q.number == k) (ps ++ p ∷ []) ≡ Some p
found_new [] p k e none = ap (λ (b : Bool). if b then Some p else None) e
found_new (q ∷ qs) p k e none = step (q.number == k) (λ rest. found_new qs p k e rest) none
  where
    step : (b : Bool) → (find (λ (r : m.Port). r.number == k) qs ≡ None → find (λ (r : m.Port). r.number == k) (qs ++ p ∷ []) ≡ Some p)
        → (if b then Some q else find (λ (r : m.Port). r.number == k) qs) ≡ None
        → (if b then Some q else find (λ (r : m.Port). r.number == k) (qs ++ p ∷ [])) ≡ Some p
    step true f rest = absurd (none-some q (sym rest))
    step false f rest = f rest

-- it is connected as before
any_still : (ps : List m.Port) (p : m.Port) (k : ℕ) → (p.number == k) ≡ false → list_any (λ (q : m.Port). q.number == k) (ps ++ p ∷ []) ≡ list_any (λ (q : m.Port). q.number == k) ps
any_still [] p k e = ap (λ (b : Bool). b || false) e
any_still (q ∷ qs) p k e = ap (λ (b : Bool). q.number == k || b) (any_still qs p k e)

-- ---- replies

abbrev is_refused : Reply → Bool
is_refused (replies.Refused r) = true
is_refused r = false

abbrev number_in : Reply → ℕ
number_in (replies.Client n) = n
number_in (replies.Server n) = n
number_in r = 0

told_number : (role : Role) (n : ℕ) → number_in (port_reply role n) ≡ n
told_number Client n = refl
told_number Server n = refl

-- ---- the making of a port

module _ (old new : HubState) (hub : IsHub old) (node : ℕ) (role : Role) (id : UniqueSystemId) (o : Options) (reply : Reply)
    (whole : (x : Given) → IsHubCommand (state_of_hub x old) node (Create role id o) reply (state_of_hub x new)) where
  abbrev t : HubTables
  t = old.control.tables

  abbrev s : m.State
  s = shown old

  abbrev p : m.Port
  p = new_port s.fixed node role id o

  abbrev u : m.State
  u = with_fixed s (with_port s.fixed p)

  abbrev IsMade : Type 0
  IsMade = (reply ≡ port_reply role s.fixed.next_number) × (shown new ≡ u)

  made_or : (q : Option Refusal) → UnlessRefused q s reply (shown new) IsMade → ((is_refused reply ≡ true) × (shown new ≡ s)) ⊎ IsMade
  made_or (Some r) c = inl (ap is_refused c.0, c.1)
  made_or None c = inr c

  pub made : ((is_refused reply ≡ true) × (shown new ≡ s)) ⊎ IsMade
  made =
      let c = whole (nothing_given old) in
      made_or (making_refusal s.fixed role o c.0) c.1

  -- what is waiting stays
  waits : (w : Way) → (shown new).waiting w ≡ s.waiting w
  waits w = elim made as (λ q. (shown new).waiting w ≡ s.waiting w) [
    | inl c ↦ ap (λ (v : m.State). v.waiting w) c.1
    | inr c ↦ ap (λ (v : m.State). v.waiting w) c.1
  ]

  pub making_brings_nothing : NothingComes old new
  making_brings_nothing x none = record { empty = λ sender. waits (way_to x sender) ∙ none.empty sender }

  -- ---- the new number

  pub away : is_there t.ports t.next_number ≡ false
  away =
      by_cases (is_there t.ports t.next_number)
      (λ there.
      absurd (not_less t.next_number (hub.control.order.numbers.below t.next_number
      (has_front t.next_number (numbers_of t.ports) (map (λ (h : HandleState). h.number) t.handles) (numbered t.ports t.next_number there)))))
      (λ e. e)
    where
      not_less : (n : ℕ) → n < n → ⊥
      not_less n e = omega arith

  abbrev shows : HandleState → m.Handle
  shows = handle_of (given_by (nothing_given old) old) (message_of (given_by (nothing_given old) old) t.pools)

  abbrev of_new : m.Handle → Bool
  of_new g = g.port == t.next_number

  -- no handle is of the new number
  none_of_new : (hs : List HandleState) → OfEachHandle (IsOfPort t) hs → (a : ℕ) → filter of_new (map shows (filter (λ (h : HandleState). h.node == a) hs)) ≡ []
  none_of_new [] each a = refl
  none_of_new (h ∷ hs) each a = step (h.node == a) (h.port == t.next_number) refl (none_of_new hs each.1 a)
    where
      later : List m.Handle
      later = map shows (filter (λ (k : HandleState). k.node == a) hs)

      step : (b c : Bool) → (h.port == t.next_number) ≡ c → filter of_new later ≡ []
          → filter of_new (map shows (if b then h ∷ filter (λ (k : HandleState). k.node == a) hs else filter (λ (k : HandleState). k.node == a) hs)) ≡ []
      step false c e rest = rest
      step true true e rest =
          absurd (true≢false
          (ap (λ (q : Option PortState). is_some q) (sym each.0.there) ∙ ap (is_there t.ports) (eqb-true h.port t.next_number e) ∙ away))
      step true false e rest = ap (λ (b : Bool). if b then shows h ∷ filter of_new later else filter of_new later) e ∙ rest

  -- a client that is made has none on loan
  pub made_lends_none : IsHub new → (number : ℕ) → reply ≡ replies.Client number → LendsNone old number new
  made_lends_none after number e = elim made as (λ q. LendsNone old number new) [
    | inl c ↦ absurd (true≢false (sym c.0 ∙ ap is_refused e))
    | inr c ↦ record {
      count =
          sym ((each_count_is_the_same (given_by (nothing_given new) new) new.control.tables (handles_are_on_nodes new.control.tables after.control.order)).kinds number
          is_request_loan)
          ∙ ap (λ (v : m.State). count_of v.fixed number is_request_loan) c.1
          ∙ ap (λ (k : ℕ). count_of u.fixed k is_request_loan) (sym (ap number_in e) ∙ ap number_in c.0 ∙ told_number role t.next_number)
          ∙ ap (λ (hs : List m.Handle). length (filter (λ (g : m.Handle). is_request_loan g.kind) hs))
          (none_of_new t.handles hub.control.order.ports (node_of_port u.fixed t.next_number));
      limit = ap (λ (v : m.State). v.fixed.limits.loaned_requests) c.1;
    }
  ]

  -- a way of the new number has an end that is not there
  end_away : (w : Way) → (w.receiver ≡ t.next_number) ⊎ (w.sender ≡ t.next_number) → IsAway old w
  end_away w is = elim is as (λ q. IsAway old w) [
    | inl e ↦ inl (ap (is_there t.ports) e ∙ away)
    | inr e ↦ inr (record {
      there = ap (is_there t.ports) e ∙ away;
      kept = ap (λ k. has_number k (expired_in t.ports w.receiver)) e ∙ (order_is_ready_for_ports t hub.control.order).takes.unkept w.receiver;
    })
  ]

  positive : ArePositive s.fixed.limits
  positive = hub_positive old hub

  not_full : (w : Way) → (w.receiver ≡ t.next_number) ⊎ (w.sender ≡ t.next_number) → is_full u w ≡ false
  not_full w is =
      ap (λ (ms : List Message). nat_le (buffer_on u.fixed w) (length ms)) (empty old hub w (end_away w is))
      ∙ not_zero (buffer_on u.fixed w) (some_buffer s.fixed.limits positive (role_at u.fixed w.sender))

  may_have : (w : Way) → (w.receiver ≡ t.next_number) ⊎ (w.sender ≡ t.next_number) → is_at_limit u.fixed w ≡ false
  may_have w is =
      ap (λ (k : ℕ). nat_le (borrow_limit_on u.fixed w) k) (borrows_none old hub w (end_away w is))
      ∙ not_zero (borrow_limit_on u.fixed w) (some_borrow s.fixed.limits positive (other_role (role_at u.fixed w.receiver)))

  -- another port has the role that it had
  same_role_at : (k : ℕ) → (t.next_number == k) ≡ false → role_at u.fixed k ≡ role_at s.fixed k
  same_role_at k e = ap (λ (q : Option m.Port). option_map_or (λ (r : m.Port). r.role) q Client) (found_still s.fixed.ports p k e)

  -- who had room has it in the new state
  room_in : (x : Receiver) → HasRoomForEach old x → (sender : ℕ)
      → (is_connected_port u.fixed sender ≡ true → is_full u (way_to x sender) ≡ false) × (is_at_limit u.fixed (way_to x sender) ≡ false)
  room_in x room sender = (buffers (t.next_number == sender) refl, borrows (t.next_number == x.port) refl)
    where
      buffers : (b : Bool) → (t.next_number == sender) ≡ b → is_connected_port u.fixed sender ≡ true → is_full u (way_to x sender) ≡ false
      buffers true e there = not_full (way_to x sender) (inr (sym (eqb-true t.next_number sender e)))
      buffers false e there =
          ap (λ (r : Role). nat_le (buffer_of s.fixed.limits r) (length (s.waiting (way_to x sender)))) (same_role_at sender e) ∙ room.buffers sender (sym (any_still s.fixed.ports p sender e) ∙ there)

      borrows : (b : Bool) → (t.next_number == x.port) ≡ b → is_at_limit u.fixed (way_to x sender) ≡ false
      borrows true e = may_have (way_to x sender) (inl (sym (eqb-true t.next_number x.port e)))
      borrows false e =
          ap (λ (r : Role). nat_le (borrow_limit_of s.fixed.limits (other_role r)) (s.fixed.borrowed (way_to x sender))) (same_role_at x.port e) ∙ room.borrows sender

  pub making_keeps_room : KeepsRoom old new
  making_keeps_room x room = elim made as (λ q. HasRoomForEach new x) [
    | inl c ↦ record {
      buffers = λ sender there.
          ap (λ (v : m.State). is_full v (way_to x sender)) c.1 ∙ room.buffers sender (sym (ap (λ (v : m.State). is_connected_port v.fixed sender) c.1) ∙ there);
      borrows = λ sender. ap (λ (v : m.State). is_at_limit v.fixed (way_to x sender)) c.1 ∙ room.borrows sender;
    }
    | inr c ↦ record {
      buffers = λ sender there.
          ap (λ (v : m.State). is_full v (way_to x sender)) c.1 ∙ (room_in x room sender).0 (sym (ap (λ (v : m.State). is_connected_port v.fixed sender) c.1) ∙ there);
      borrows = λ sender. ap (λ (v : m.State). is_at_limit v.fixed (way_to x sender)) c.1 ∙ (room_in x room sender).1;
    }
  ]

  -- The port that is made has nothing, and has room.
  pub made_is_idle : (n : ℕ) → reply ≡ port_reply role n → (x : Receiver) → x.port ≡ n → IsIdle new x
  made_is_idle n told x is = elim made as (λ q. IsIdle new x) [
    | inl c ↦ absurd (true≢false (sym c.0 ∙ ap is_refused told ∙ no_refusal role n))
    | inr c ↦ idle c
  ]
    where
      no_refusal : (r : Role) (k : ℕ) → is_refused (port_reply r k) ≡ false
      no_refusal Client k = refl
      no_refusal Server k = refl

      idle : IsMade → IsIdle new x
      idle c = record {
        none = record { empty = λ sender. waits (way_to x sender) ∙ empty old hub (way_to x sender) (end_away (way_to x sender) (inl its)) };
        room = record {
          buffers = λ sender there. ap (λ (v : m.State). is_full v (way_to x sender)) c.1 ∙ not_full (way_to x sender) (inl its);
          borrows = λ sender. ap (λ (v : m.State). is_at_limit v.fixed (way_to x sender)) c.1 ∙ may_have (way_to x sender) (inl its);
        };
      }
        where
          its : x.port ≡ t.next_number
          its = is ∙ sym (told_number role n) ∙ ap number_in (sym told ∙ c.0) ∙ told_number role t.next_number

  -- The port that is made is there, as the machine makes it.
  pub made_port : (n : ℕ) → reply ≡ port_reply role n → port_at (shown new).fixed n ≡ Some p
  made_port n told = elim made as (λ q. port_at (shown new).fixed n ≡ Some p) [
    | inl c ↦ absurd (true≢false (sym c.0 ∙ ap is_refused told ∙ no_refusal role n))
    | inr c ↦ ap (λ (v : m.State). port_at v.fixed n) c.1
        ∙ ap (port_at u.fixed) (sym (told_number role n) ∙ ap number_in (sym told ∙ c.0) ∙ told_number role t.next_number)
        ∙ found_new s.fixed.ports p t.next_number (eqb-refl t.next_number)
        (find_port (given_by (nothing_given old) old) t.ports t.next_number ∙ ap (option_map (port_of (given_by (nothing_given old) old))) (no_port (port_in t.ports t.next_number) away))
  ]
    where
      no_refusal : (r : Role) (k : ℕ) → is_refused (port_reply r k) ≡ false
      no_refusal Client k = refl
      no_refusal Server k = refl

      no_port : (q : Option PortState) → is_some q ≡ false → q ≡ None
      no_port None e = refl
      no_port (Some r) e = absurd (true≢false e)
