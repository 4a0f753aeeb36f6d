-- What handlers would answer is asked of no port that has none. So from a state whose ports have none,
-- a command has the same replies, whatever handlers answer.
use Rattle.std.specs.Prelude.{◌≡◌, ℕ, ◌+◌, ◌-◌, Bool, true, false, if◌then◌else◌, ◌==◌, List, [], ◌∷◌, map, find, Option, Some, None, is_some, refl}
use Rattle.std.specs.List.{list_any}
use Rattle.std.specs.Option.{option_map_or}
use Rattle.std.proofs.Common.{sym, ap, subst, ◌∙◌, true≢false}
use Rattle.std.proofs.lemmas.Option.{none-some, same_Some}
use Rattle.iox_types.specs.declared.backpressure.BackpressureStrategy.{BackpressureStrategy}
use Rattle.iox_types.specs.declared.identifiers.system_id.UniqueSystemId.{UniqueSystemId}
use Rattle.iox_model.specs.declared.backpressure.BackpressureAction.{BackpressureAction}
use Rattle.iox_model.specs.declared.call.Call.TheVariants.{Loan, LoanUninit, Send, SendCopy, Receive, Read, Release}
use Rattle.iox_model.specs.declared.command.Command.TheVariants as commands
use Rattle.iox_model.specs.declared.command.Command.TheVariants.{Join}
use Rattle.iox_model.specs.declared.command.PortCommand.TheVariants as ports
use Rattle.iox_model.specs.declared.kind.Role.TheVariants.{Client, Server}
use Rattle.iox_model.specs.declared.reply.Refusal.TheVariants.{ExceedsMaxActiveRequests, OutOfMemory, UnknownNumber, WrongLength}
use Rattle.iox_model.specs.declared.way.Way.{Way}
use Rattle.iox_model.specs.Begins.{begins_at, start}
use Rattle.iox_model.specs.Commands.{Call, Create, HubCommand, Refusal, Reply, Use, number_of}
use Rattle.iox_model.specs.Counts.{added, called, changed, dropped, gives_up, holding, lent, numbered, received_handle, sent_handle, with_fixed, borrows}
use Rattle.iox_model.specs.Doings.{Doing, Ended, Loaning, Asking, Delivering, Outcome, Tells, Loans, Fills, Sends, FailsToSend, Receives, Drops, DropsPort, Forgets, refused}
use Rattle.iox_model.specs.Ends.{is_nothing, port_dropped, sent_copy, sent_loan, settled}
use Rattle.iox_model.specs.Expiries.{disconnected, is_last_gone, released}
use Rattle.iox_model.specs.Forgetting.{forgets, has_forgotten}
use Rattle.iox_model.specs.Handles.{Subject, ThePort, TheHandle, is_received, is_request_loan, subject, way_of}
use Rattle.iox_model.specs.Joins.{IsOpening, not_living, opening_refusal}
use Rattle.iox_model.specs.Loans.{Choice, Order, lending_ways, loan_of, memory_refusal, next_request, request_loan_refusal, response_loan_refusal, unless_refused}
use Rattle.iox_model.specs.Makings.{IsHubCommand, making_refusal}
use Rattle.iox_model.specs.Maps.{has_number, put, put_at, without_way}
use Rattle.iox_model.specs.Messages.{request_way}
use Rattle.iox_model.specs.Moments.{Moment, Deliver, SeesNoneBack, Holds, moved}
use Rattle.iox_model.specs.Names.{misnamed, misnamed_by}
use Rattle.iox_model.specs.Outstandings.{is_dry, kept}
use Rattle.iox_model.specs.Peers.{others, port_at, role_at}
use Rattle.iox_model.specs.Requests.{emptying, fails_at, is_active_spent, port_fails, sending_of}
use Rattle.iox_model.specs.Responses.{copies, lends, lends_response, loaned, loaning, ordered, sends}
use Rattle.iox_model.specs.Services.{IsNodeCommand}
use Rattle.iox_model.specs.Settings.{fails_by, fails_by_strategy, is_count, overflow_of}
use Rattle.iox_model.specs.States.{Fixed, Handle, Port, State}
use Rattle.iox_model.specs.Transitions.{IsIn, Transition, ends, next, when}
use Rattle.iox_model.specs.WholeCalls.{IsDone, IsWholeCall, MayCome, MayHold, UnlessRefused, left_by, moved_by, replied, spent}
use Rattle.iox_nodes.proofs.Marks.{neither}
use Rattle.iox_script.specs.Commands.{ServiceCommand, ServiceReply}
use Rattle.iox_session.specs.Answers.{options_given, payload_given, reply_given}
use Rattle.iox_session.specs.Sessions.{ServiceAnswers}
use Rattle.iox_session.specs.Shown.{with_acts}

-- what handlers answer
abbrev Acts : Type 0
Acts = List ℕ → ℕ → ℕ → BackpressureAction

-- the fixed part of the state, where handlers answer so
abbrev fixed_by : Acts → Fixed → Fixed
fixed_by a f = record f { acts = a }

-- no port has a handler
abbrev handled : Port → Bool
handled p = is_some p.handler

abbrev NoneHandled : Fixed → Type 0
NoneHandled f = list_any (λ (p : Port). is_some p.handler) f.ports ≡ false

-- ---- a send

unhandled_at : (ps : List Port) (n : ℕ) (p : Port) → find (λ q. q.number == n) ps ≡ Some p → list_any handled ps ≡ false → is_some p.handler ≡ false
unhandled_at [] n p at none = absurd (none-some p at)
unhandled_at (q ∷ qs) n p at none =
    step (q.number == n) at (neither (is_some q.handler) (list_any handled qs) none) (λ e rest. unhandled_at qs n p e rest)
  where
    step : (b : Bool) → (if b then Some q else find (λ r. r.number == n) qs) ≡ Some p → (is_some q.handler ≡ false) × (list_any handled qs ≡ false)
        → (find (λ r. r.number == n) qs ≡ Some p → list_any handled qs ≡ false → is_some p.handler ≡ false) → is_some p.handler ≡ false
    step true e both more = ap (λ (r : Port). is_some r.handler) (sym (same_Some q p e)) ∙ both.0
    step false e both more = more e both.1

fails_same : (a : Acts) (f : Fixed) → NoneHandled f → (w : Way) → fails_at (fixed_by a f) w ≡ fails_at f w
fails_same a f none w = at (port_at f w.sender) refl
  where
    asked : (strategy : BackpressureStrategy) (h : Option (List ℕ)) → is_some h ≡ false
        → option_map_or (λ words. fails_by (a words w.sender w.receiver) strategy) h (fails_by_strategy strategy)
        ≡ option_map_or (λ words. fails_by (f.acts words w.sender w.receiver) strategy) h (fails_by_strategy strategy)
    asked strategy None e = refl
    asked strategy (Some words) e = absurd (true≢false e)

    at : (o : Option Port) → port_at f w.sender ≡ o
        → option_map_or (λ p. port_fails (fixed_by a f) p w) o false ≡ option_map_or (λ p. port_fails f p w) o false
    at None e = refl
    at (Some p) e = asked p.strategy p.handler (unhandled_at f.ports w.sender p e none)

sending_same : (a : Acts) (f : Fixed) → NoneHandled f → (h : Handle) (copied : Bool) (to : List ℕ)
    → sending_of (fixed_by a f) h copied to ≡ sending_of f h copied to
sending_same a f none h copied to = λ i. record {
  loan = h;
  copied = copied;
  to = to;
  overflow = overflow_of f.limits (role_at f h.port);
  fails = λ w. fails_same a f none w i;
}

sends_same : (a : Acts) (f : Fixed) → NoneHandled f → (h : Handle) (copied : Bool) → sends (fixed_by a f) h copied ≡ sends f h copied
sends_same a f none h copied = λ i.
    if is_request_loan h.kind
    then (if is_active_spent f h then Ended (FailsToSend h copied ExceedsMaxActiveRequests)
    else emptying (sending_same a f none h copied (others f h.node Server) i) (map (request_way h.port) (others f h.node Server)))
    else (if has_number h.client (others f h.node Client) then Asking (sending_same a f none h copied (h.client ∷ []) i)
    else Ended (Sends h copied 0))

-- ---- a loan, which a send may follow

loaned_same : (a : Acts) (s : State) → NoneHandled s.fixed → (copies : Bool) (h : Handle) → loaned (with_acts a s) copies h ≡ loaned s copies h
loaned_same a s none copies h = λ i.
    if is_dry s.fixed h.port (kept s h.port []) then refused OutOfMemory
    else (if copies then sends_same a s.fixed none h true i else Ended (Loans h))

loaning_same : (a : Acts) (s : State) → NoneHandled s.fixed → (copies : Bool) (h : Handle) (left : List Way)
    → loaning (with_acts a s) copies h left ≡ loaning s copies h left
loaning_same a s none copies h [] = loaned_same a s none copies h
loaning_same a s none copies h (w ∷ left) = refl

lends_same : (a : Acts) (s : State) → NoneHandled s.fixed → (c : Choice) (x : Subject) (o : Order) → lends (with_acts a s) c x o ≡ lends s c x o
lends_same a s none c (ThePort p) o = λ i.
    if is_count s.fixed.limits.request o.elements
    then unless_refused (request_loan_refusal s.fixed p o.elements)
    (unless_refused (memory_refusal s c p.number)
    (lending_same (loan_of s.fixed p o p.number c.lane (next_request s.fixed p.number)) i))
    else refused WrongLength
  where
    lending_same : (h : Handle) → loaning (with_acts a s) o.copies h (lending_ways s.fixed h) ≡ loaning s o.copies h (lending_ways s.fixed h)
    lending_same h = loaning_same a s none o.copies h (lending_ways s.fixed h)
lends_same a s none c (TheHandle h) o = λ i.
    if is_count s.fixed.limits.response o.elements
    then option_map_or (λ p. by_port p i) (port_at s.fixed h.port) (refused UnknownNumber)
    else refused WrongLength
  where
    by_port : (p : Port) → lends_response (with_acts a s) c h p o ≡ lends_response s c h p o
    by_port p = λ i.
        unless_refused (response_loan_refusal s.fixed h p o.elements)
        (unless_refused (memory_refusal s c p.number)
        (loaning_same a s none o.copies (loan_of s.fixed p o h.client h.lane h.request) (lending_ways s.fixed (loan_of s.fixed p o h.client h.lane h.request)) i))

copies_same : (a : Acts) (s : State) → NoneHandled s.fixed → (c : Choice) (x : Subject) (k : Option ℕ) (words : List ℕ)
    → copies (with_acts a s) c x k words ≡ copies s c x k words
copies_same a s none c x None words = refl
copies_same a s none c x (Some k) words = lends_same a s none c x _

-- ---- how a call begins

begins_same : (a : Acts) (s : State) → NoneHandled s.fixed → (c : Choice) (call : Call) (x : Subject)
    → begins_at (with_acts a s) c call x ≡ begins_at s c call x
begins_same a s none c (Loan n k) x = lends_same a s none c x (ordered k false)
begins_same a s none c (LoanUninit n k) x = lends_same a s none c x (ordered k true)
begins_same a s none c (Send n) (TheHandle h) = sends_same a s.fixed none h false
begins_same a s none c (SendCopy n p) x = copies_same a s none c x p.elements p.words
begins_same a s none c (Receive n) (ThePort p) = refl
begins_same a s none c (Receive n) (TheHandle h) = refl
begins_same a s none c (Release n) (ThePort p) = refl
begins_same a s none c (Release n) (TheHandle h) = refl
begins_same a s none c call x = refl

start_same : (a : Acts) (s : State) → NoneHandled s.fixed → (node : ℕ) (c : Choice) (call : Call)
    → start (with_acts a s) node c call ≡ start s node c call
start_same a s none node c call = λ i.
    option_map_or (λ x. begins_same a s none c call x i) (subject s.fixed node (number_of call)) (refused UnknownNumber)

-- ---- moments

next_same : (a : Acts) (s : State) → NoneHandled s.fixed → (node : ℕ) (d : Doing) (m : Moment) → next (with_acts a s) node d m ≡ next s node d m
next_same a s none node (Loaning copies h left) (SeesNoneBack w) = λ i. when (IsIn w left) (loaning_same a s none copies h (without_way w left) i)
next_same a s none node (Delivering x None left count) (Deliver w m) = refl
next_same a s none node (Delivering x (Some v) left count) (Deliver w m) = refl
next_same a s none node d m = refl

moved_same : (a : Acts) (s : State) (m : Moment) → moved (with_acts a s) m ≡ with_acts a (moved s m)
moved_same a s (Deliver w m) = refl
moved_same a s m = refl

moved-fixed : (s : State) (m : Moment) → (moved s m).fixed ≡ s.fixed
moved-fixed s (Deliver w m) = refl
moved-fixed s m = refl

holds_same : (a : Acts) (s : State) (m : Moment) → Holds s m → Holds (with_acts a s) m
holds_same a s (Deliver w m) x = x
holds_same a s m x = x

-- moments one after another come as before, and leave the same to do
moves_same : (a : Acts) (s : State) (ms : List Moment) → moved_by (with_acts a s) ms ≡ with_acts a (moved_by s ms)
moves_same a s [] = refl
moves_same a s (m ∷ ms) = ap (λ (t : State). moved_by t ms) (moved_same a s m) ∙ moves_same a (moved s m) ms

none_after : (s : State) (m : Moment) → NoneHandled s.fixed → NoneHandled (moved s m).fixed
none_after s m none = subst NoneHandled (sym (moved-fixed s m)) none

come_same : (a : Acts) (s : State) → NoneHandled s.fixed → (node : ℕ) (d : Doing) (ms : List Moment)
    → MayCome s node d ms → MayCome (with_acts a s) node d ms
come_same a s none node d [] come = tt
come_same a s none node d (m ∷ ms) come = (
  holds_same a s m come.0,
  subst (λ (x : Transition). x.condition) (sym (next_same a s none node d m)) come.1,
  subst (λ (x : Transition). MayCome (moved (with_acts a s) m) node x.after ms) (sym (next_same a s none node d m))
      (subst (λ (t : State). MayCome t node (next s node d m).after ms) (sym (moved_same a s m))
      (come_same a (moved s m) (none_after s m none) node (next s node d m).after ms come.2)),
)

left_same : (a : Acts) (s : State) → NoneHandled s.fixed → (node : ℕ) (d : Doing) (ms : List Moment)
    → left_by (with_acts a s) node d ms ≡ left_by s node d ms
left_same a s none node d [] = refl
left_same a s none node d (m ∷ ms) =
    (λ i. left_by (moved_same a s m i) node (next_same a s none node d m i).after ms)
    ∙ left_same a (moved s m) (none_after s m none) node (next s node d m).after ms

ends_same : (a : Acts) (s : State) (d : Doing) → ends (with_acts a s) d ≡ ends s d
ends_same a s (Delivering x None [] count) = refl
ends_same a s (Delivering x (Some w) [] count) = refl
ends_same a s (Delivering x last (w ∷ left) count) = refl
ends_same a s d = refl

-- ---- what a finished call leaves and answers

either : (a : Acts) (b : Bool) (x y : State) → (if b then with_acts a x else with_acts a y) ≡ with_acts a (if b then x else y)
either a true x y = refl
either a false x y = refl

either_fixed : (a : Acts) (b : Bool) (x y : Fixed) → (if b then fixed_by a x else fixed_by a y) ≡ fixed_by a (if b then x else y)
either_fixed a true x y = refl
either_fixed a false x y = refl

numbered_same : (a : Acts) (f : Fixed) (node : ℕ) → numbered (fixed_by a f) node ≡ fixed_by a (numbered f node)
numbered_same a f node =
    either_fixed a f.on_wire (record f { handles_made = put_at f.handles_made node (f.handles_made node + 1) })
    (record f { next_number = f.next_number + 1 })

released_same : (a : Acts) (s : State) (port : ℕ) → released (with_acts a s) port ≡ with_acts a (released s port)
released_same a s port = either a (is_last_gone s.fixed port) (disconnected s port) s

sent_loan_same : (a : Acts) (s : State) (h : Handle) (count : ℕ) → sent_loan (with_acts a s) h count ≡ with_acts a (sent_loan s h count)
sent_loan_same a s h count =
    (λ i. if is_request_loan h.kind then with_fixed (with_acts a s) (changed (fixed_by a s.fixed) (sent_handle h count))
    else released_same a (with_fixed s (dropped s.fixed h)) h.port i)
    ∙ either a (is_request_loan h.kind) (with_fixed s (changed s.fixed (sent_handle h count))) (released (with_fixed s (dropped s.fixed h)) h.port)

sent_copy_same : (a : Acts) (f : Fixed) (h : Handle) (count : ℕ) → sent_copy (fixed_by a f) h count ≡ fixed_by a (sent_copy f h count)
sent_copy_same a f h count =
    (λ i. if is_request_loan h.kind then added (numbered_same a f h.node i) (sent_handle h count) else fixed_by a f)
    ∙ either_fixed a (is_request_loan h.kind) (added (numbered f h.node) (sent_handle h count)) f

settled_same : (a : Acts) (s : State) (node : ℕ) (payload : List ℕ) (o : Outcome)
    → settled (with_acts a s) node payload o ≡ with_acts a (settled s node payload o)
settled_same a s node payload (Tells reply) = either a (is_nothing reply) (with_fixed s (called s.fixed)) s
settled_same a s node payload (Loans h) = λ i.
    with_fixed s (called (lent (added (numbered_same a s.fixed node i) (holding h payload)) h.port))
settled_same a s node payload (Fills h) = refl
settled_same a s node payload (Sends h true count) = λ i. with_fixed s (called (called (lent (sent_copy_same a s.fixed h count i) h.port)))
settled_same a s node payload (Sends h false count) =
    ap (λ (t : State). with_fixed t (called t.fixed)) (sent_loan_same a s h count)
settled_same a s node payload (FailsToSend h true refusal) = refl
settled_same a s node payload (FailsToSend h false refusal) = released_same a (with_fixed s (dropped s.fixed h)) h.port
settled_same a s node payload (Receives x w m) = λ i.
    with_fixed s (called (borrows (added (numbered_same a s.fixed node i) (received_handle s.fixed node x m)) w))
settled_same a s node payload (Drops h) =
    (λ i. released (with_fixed s (gives_up_same i)) h.port) ∙ released_same a (with_fixed s (gives_up (dropped s.fixed h) h)) h.port
  where
    gives_up_same : gives_up (dropped (fixed_by a s.fixed) h) h ≡ fixed_by a (gives_up (dropped s.fixed h) h)
    gives_up_same =
        either_fixed a (is_received h.kind)
        (record (dropped s.fixed h) { borrowed = put s.fixed.borrowed (way_of h) (s.fixed.borrowed (way_of h) - 1) }) (dropped s.fixed h)
settled_same a s node payload (DropsPort port) =
    released_same a (with_fixed s (record (s.fixed) { ports = map (port_dropped port) s.fixed.ports })) port
settled_same a s node payload (Forgets dead) = either a (has_forgotten s.fixed node dead) s (forgets s node dead)

replied_same : (a : Acts) (f : Fixed) (node : ℕ) (o : Outcome) → replied (fixed_by a f) node o ≡ replied f node o
replied_same a f node (Tells reply) = refl
replied_same a f node o = refl

may_hold_same : (a : Acts) (f : Fixed) (o : Outcome) (payload : List ℕ) → MayHold f o payload → MayHold (fixed_by a f) o payload
may_hold_same a f (Loans h) payload x = x
may_hold_same a f o payload x = x

spent_same : (a : Acts) (f : Fixed) (call : Call) → spent (fixed_by a f) call ≡ spent f call
spent_same a f call = refl

misnamed_same : (a : Acts) (f : Fixed) (node : ℕ) (call : Call) → misnamed (fixed_by a f) node call ≡ misnamed f node call
misnamed_same a f node call = at (subject f node (number_of call))
  where
    at : (x : Option Subject) → misnamed_by (fixed_by a f) node call x ≡ misnamed_by f node call x
    at None = refl
    at (Some x) = refl

-- ---- commands

unless_same : (a : Acts) (q : Option Refusal) (s : State) (reply : Reply) (t : State) (P Q : Type 0)
    → (P → Q) → UnlessRefused q s reply t P → UnlessRefused q (with_acts a s) reply (with_acts a t) Q
unless_same a (Some r) s reply t P Q more x = (x.0, ap (with_acts a) x.1)
unless_same a None s reply t P Q more x = more x

done_same : (a : Acts) (s : State) → NoneHandled s.fixed → (node : ℕ) (call : Call) (reply : Reply) (t : State)
    → IsDone s node call reply t → IsDone (with_acts a s) node call reply (with_acts a t)
done_same a s none node call reply t d =
    let begun : start (with_acts a s) node d.0 call ≡ start s node d.0 call = start_same a s none node d.0 call in
    let moves : moved_by (with_acts a s) d.2 ≡ with_acts a (moved_by s d.2) = moves_same a s d.2 in (
      d.0,
      d.1,
      d.2,
      subst (λ x. MayCome (with_acts a s) node x d.2) (sym begun) (come_same a s none node (start s node d.0 call) d.2 d.3),
      d.4,
      (λ i. ends (moves i) (left_by (with_acts a s) node (begun i) d.2))
          ∙ (λ i. ends (with_acts a (moved_by s d.2)) (left_same a s none node (start s node d.0 call) d.2 i))
          ∙ ends_same a (moved_by s d.2) (left_by s node (start s node d.0 call) d.2) ∙ d.5,
      d.6,
      may_hold_same a s.fixed d.4 d.6 d.7,
      d.8 ∙ sym (replied_same a s.fixed node d.4),
      ap (with_acts a) d.9 ∙ sym (settled_same a (moved_by s d.2) node d.6 d.4) ∙ (λ i. settled (sym moves i) node d.6 d.4),
    )

abbrev Rest : ℕ → Call → Reply → State → State → Type 0
Rest node call reply s t = UnlessRefused (spent s.fixed call) s reply t (IsDone s node call reply t)

call_same : (a : Acts) (s : State) → NoneHandled s.fixed → (node : ℕ) (call : Call) (reply : Reply) (t : State)
    → IsWholeCall s node call reply t → IsWholeCall (with_acts a s) node call reply (with_acts a t)
call_same a s none node call reply t whole =
    subst (λ q. UnlessRefused q (with_acts a s) reply (with_acts a t) (Rest node call reply (with_acts a s) (with_acts a t)))
    (sym (misnamed_same a s.fixed node call))
    (unless_same a (misnamed s.fixed node call) s reply t (Rest node call reply s t) (Rest node call reply (with_acts a s) (with_acts a t))
    (unless_same a (spent s.fixed call) s reply t _ _ (done_same a s none node call reply t)) whole)

hub_command_same : (a : Acts) (s : State) → NoneHandled s.fixed → (node : ℕ) (c : HubCommand) (reply : Reply) (t : State)
    → IsHubCommand s node c reply t → IsHubCommand (with_acts a s) node c reply (with_acts a t)
hub_command_same a s none node (Create role id o) reply t made =
    (made.0, unless_same a (making_refusal s.fixed role o made.0) s reply t _ _ (λ x. (x.0, ap (with_acts a) x.1)) made.1)
hub_command_same a s none node (Use call) reply t whole = call_same a s none node call reply t whole

port_commands_same : (a : Acts) (s : State) → NoneHandled s.fixed → (node : ℕ) (c : HubCommand) (reply : Reply) (t : State)
    → IsNodeCommand s node c reply t → IsNodeCommand (with_acts a s) node c reply (with_acts a t)
port_commands_same a s none node (Create role id o) reply t x =
    unless_same a (not_living s node) s reply t _ _ (hub_command_same a s none node (Create role _ o) reply t) x
port_commands_same a s none node (Use call) reply t x =
    unless_same a (not_living s node) s reply t _ _ (hub_command_same a s none node (Use call) reply t) x

joins_same : (a : Acts) (s : State) (id : UniqueSystemId) (asked : Option Refusal) (reply : Reply) (t : State)
    → IsOpening s id asked reply t → IsOpening (with_acts a s) id asked reply (with_acts a t)
joins_same a s id asked reply t x =
    (x.0, unless_same a (opening_refusal s id asked x.0) s reply t _ _ (λ y. (y.0, ap (with_acts a) y.1)) x.1)

-- so is what a line asks
pub served_same : (a : Acts) (s : State) → NoneHandled s.fixed → (command : ServiceCommand) (answer : ServiceReply) (t : State)
    → ServiceAnswers s command answer t → ServiceAnswers (with_acts a s) command answer (with_acts a t)
served_same a s none (Join id asked) answer t x = record {
  done = joins_same a s id None (reply_given answer) t x.done;
  memory = x.memory;
}
served_same a s none (commands.Port (ports.Client node id o)) answer t x = record {
  done = port_commands_same a s none node (Create Client id (options_given o)) (reply_given answer) t x.done;
  memory = x.memory;
}
served_same a s none (commands.Port (ports.Server node id o)) answer t x = record {
  done = port_commands_same a s none node (Create Server id (options_given o)) (reply_given answer) t x.done;
  memory = x.memory;
}
served_same a s none (commands.Port (ports.SendCopy node n words)) answer t x = record {
  done = port_commands_same a s none node (Use (SendCopy n (payload_given s node n words))) (reply_given answer) t x.done;
  memory = x.memory;
}
served_same a s none (commands.Port (ports.Receive node n)) answer t x = record {
  done = port_commands_same a s none node (Use (Receive n)) (reply_given answer) t x.done;
  memory = x.memory;
}
served_same a s none (commands.Port (ports.Read node n)) answer t x = record {
  done = port_commands_same a s none node (Use (Read n)) (reply_given answer) t x.done;
  memory = x.memory;
}
served_same a s none command answer t x = absurd x
