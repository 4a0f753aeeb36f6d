-- The copy of a response, and a hint, leave each request open at the servers where it was.
use Rattle.std.specs.Prelude.{◌≡◌, ℕ, Bool, true, false, ◌&&◌, ◌==◌, if◌then◌else◌, List, [], ◌∷◌, map, Option, None, Some, refl, option_map}
use Rattle.std.specs.List.{list_any}
use Rattle.std.specs.Option.{option_map_or}
use Rattle.std.proofs.Common.{sym, ap, ap₂, subst, ◌∙◌, true≢false, eqb-true}
use Rattle.iox_model.specs.declared.call.Call.TheVariants.{SendCopy, SetHint}
use Rattle.iox_model.specs.declared.kind.Kind.TheVariants.{ActiveRequest}
use Rattle.iox_model.specs.declared.kind.Role.{Role}
use Rattle.iox_model.specs.declared.kind.Role.TheVariants.{Client, Server}
use Rattle.iox_model.specs.declared.reply.Refusal.TheVariants.{OutOfMemory, UnableToDeliver, UnknownNumber, WrongLength}
use Rattle.iox_model.specs.declared.way.RequestState.{RequestState}
use Rattle.iox_model.specs.declared.way.RequestState.TheVariants.{Closed, Named}
use Rattle.iox_model.specs.declared.way.Way.{Way}
use Rattle.iox_model.specs.Begins.{begins_at, start}
use Rattle.iox_model.specs.Commands.{Call, Payload, Refusal, Reply, number_of}
use Rattle.iox_model.specs.Counts.{called, with_fixed}
use Rattle.iox_model.specs.Doings.{refused, Asking, Delivering, Doing, Emptying, Ended, Evicted, FailsToSend, Hinting, Loaning, Loans, Looking, Outcome, Receives, Sending, Sends, Tells}
use Rattle.iox_model.specs.Ends.{is_nothing, settled}
use Rattle.iox_model.specs.Handles.{Subject, TheHandle, ThePort, is_request_loan, subject}
use Rattle.iox_model.specs.Loans.{Choice, Order, kind_of_loan, lending_ways, loan_of, memory_refusal, response_loan_refusal, unless_refused}
use Rattle.iox_model.specs.Looks.{hinting}
use Rattle.iox_model.specs.Maps.{has_number, same_way, without_way}
use Rattle.iox_model.specs.Messages.{hinted_for, names, response_way}
use Rattle.iox_model.specs.Moments.{moved, Moment, Deliver, Evict, GetBack, Hint, Look, SeesFull, SeesNoneBack, SeesRoom}
use Rattle.iox_model.specs.Names.{misnamed}
use Rattle.iox_model.specs.Outstandings.{is_dry, kept}
use Rattle.iox_model.specs.Peers.{others, port_at}
use Rattle.iox_model.specs.Releases.{states_of}
use Rattle.iox_model.specs.Requests.{emptying, is_request, looking, opening, sending_of, sends_request, targets, to_open}
use Rattle.iox_model.specs.Responses.{copies, lending, lends_by, lends_response, loaning, sends, sends_response, shape_for}
use Rattle.iox_model.specs.Settings.{is_count}
use Rattle.iox_model.specs.States.{Fixed, Handle, Port, State}
use Rattle.iox_model.specs.Transitions.{next}
use Rattle.iox_model.specs.WholeCalls.{IsDone, IsWholeCall, MayCome, UnlessRefused, left_by, moved_by, spent}
use Rattle.iox_laws.proofs.WeaveLaws.MapLemmas.{either, same_way-true}
use Rattle.iox_laws.proofs.WeaveLedger.Truths.{by_cases}
use Rattle.iox_tables.specs.HubLoans.Lenders.{IsActive}
use Rattle.iox_tables.specs.HubStates.States.{Given, port_of}
use Rattle.iox_tables.specs.HubStates.Tables.{HubTables}
use Rattle.iox_tables.proofs.HubStates.Fixing.{find_port}
use Rattle.iox_tables.proofs.HubStates.Naming.{each_handle_is_named}
use Rattle.iox_hub_laws.specs.Hubs.{HasValue, HubState, IsHub, given_by, nothing_given, state_of_hub}
use Rattle.iox_hub_laws.proofs.LendingNamed.{active_of_hub}
use Rattle.iox_hub_laws.specs.Shown.{handle_of, shown}
use Rattle.iceoryx2_ports.specs.Asking.{KeepsOpen}
use Rattle.iceoryx2_ports.specs.Keeping.{spends}
use Rattle.iceoryx2_ports.specs.Opens.{KeepsRequests}
use Rattle.iceoryx2_ports.proofs.Gathering.{Gathers, at_gathers, by_gathers, ended_gathers}
use Rattle.iceoryx2_ports.proofs.Opening.{same_clients}
use Rattle.iceoryx2_ports.proofs.Remaining.{kept_requests}
use Rattle.iceoryx2_ports.proofs.Staying.{whole_extends}

-- each request state names what it named
abbrev SameNames : State → State → Type 0
SameNames s t = (w : Way) (id : ℕ) → names (t.request_state w) id ≡ names (s.request_state w) id

-- ---- what such a call has to do

-- no request state is opened or closed: a response is sent, or a hint set
abbrev IsShut : Doing → Type 0
IsShut (Ended o) = Unit {0}
IsShut (Loaning again h left) = is_request_loan h.kind ≡ false
IsShut (Asking x) = is_request x ≡ false
IsShut (Emptying x left) = is_request x ≡ false
IsShut (Looking x left full) = is_request x ≡ false
IsShut (Delivering x last left count) = is_request x ≡ false
IsShut (Evicted x w left count) = is_request x ≡ false
IsShut (Hinting h left) = Unit {0}
IsShut d = ⊥

-- a response opens none
opening_shut : (x : Sending) (full : List Way) → is_request x ≡ false → IsShut (opening x (to_open x) full)
opening_shut x full p =
    subst (λ (ws : List Way). IsShut (opening x ws full)) (sym (ap (λ (b : Bool). if b then map (response_way x.loan.port x.loan.lane) x.to else []) p)) p

looking_shut : (x : Sending) (left full : List Way) → is_request x ≡ false → IsShut (looking x left full)
looking_shut x [] full p =
    either IsShut (list_any x.fails full) (Ended (FailsToSend x.loan x.copied UnableToDeliver)) (opening x (to_open x) full) (λ u. tt)
    (λ u. opening_shut x full p)
looking_shut x (w ∷ left) full p = p

emptying_shut : (x : Sending) (left : List Way) → is_request x ≡ false → IsShut (emptying x left)
emptying_shut x [] p =
    either IsShut x.overflow (opening x (to_open x) []) (looking x (targets x) []) (λ u. opening_shut x [] p) (λ u. looking_shut x (targets x) [] p)
emptying_shut x (w ∷ left) p = p

sends_shut : (f : Fixed) (h : Handle) (again : Bool) → is_request_loan h.kind ≡ false → IsShut (sends f h again)
sends_shut f h again p =
    either IsShut (is_request_loan h.kind) (sends_request f h again (others f h.node Server)) (sends_response f h again)
    (λ request. absurd (true≢false (sym request ∙ p)))
    (λ u.
    either IsShut (has_number h.client (others f h.node Client)) (Asking (sending_of f h again (h.client ∷ []))) (Ended (Sends h again 0)) (λ v. p) (λ v. tt))

loaning_shut : (s : State) (again : Bool) (h : Handle) (left : List Way) → is_request_loan h.kind ≡ false → IsShut (loaning s again h left)
loaning_shut s again h [] p =
    either IsShut (is_dry s.fixed h.port (kept s h.port [])) (refused OutOfMemory) (if again then sends s.fixed h true else Ended (Loans h)) (λ u. tt)
    (λ u. either IsShut again (sends s.fixed h true) (Ended (Loans h)) (λ v. sends_shut s.fixed h true p) (λ v. tt))
loaning_shut s again h (w ∷ left) p = p

hinting_shut : (h : Handle) (left : List Way) → IsShut (hinting h left)
hinting_shut h [] = tt
hinting_shut h (w ∷ left) = tt

-- a hint leaves the name
hinted_names : (q : RequestState) (id r : ℕ) → names (hinted_for q id) r ≡ names q r
hinted_names Closed id r = refl
hinted_names (Named n hinted) id r =
    by_cases (n == id)
    (λ same. ap (λ (b : Bool). names (if b then Named id true else Named n hinted) r) same ∙ ap (λ (i : ℕ). i == r) (sym (eqb-true n id same)))
    (λ other. ap (λ (b : Bool). names (if b then Named id true else Named n hinted) r) other)

hint_names : (s : State) (w : Way) (id : ℕ) → SameNames s (moved s (Hint w id))
hint_names s w id v r =
    either (λ (q : RequestState). names q r ≡ names (s.request_state v) r) (same_way v w) (hinted_for (s.request_state w) id) (s.request_state v)
    (λ same. hinted_names (s.request_state w) id r ∙ ap (λ (u : Way). names (s.request_state u) r) (sym (same_way-true v w same))) (λ other. refl)

abbrev ShutThen : State → State → Doing → Type 0
ShutThen s t d = IsShut d × SameNames s t

next_shut : (s : State) (i : ℕ) (d : Doing) (a : Moment) → IsShut d → (next s i d a).condition → ShutThen s (moved s a) (next s i d a).after
next_shut s i (Loaning again h left) (GetBack w k) p c = (p, λ v r. refl)
next_shut s i (Loaning again h left) (SeesNoneBack w) p c = (loaning_shut s again h (without_way w left) p, λ v r. refl)
next_shut s i (Loaning again h left) a p c = absurd c
next_shut s i (Asking x) (Look w shown) p c = (
  either IsShut (names shown x.loan.request) (emptying x (targets x)) (Ended (Sends x.loan x.copied 0)) (λ u. emptying_shut x (targets x) p) (λ u. tt),
  λ v r. refl,
)
next_shut s i (Asking x) a p c = absurd c
next_shut s i (Emptying x left) (GetBack w k) p c = (p, λ v r. refl)
next_shut s i (Emptying x left) (SeesNoneBack w) p c = (emptying_shut x (without_way w left) p, λ v r. refl)
next_shut s i (Emptying x left) a p c = absurd c
next_shut s i (Looking x left full) (SeesFull w) p c = (looking_shut x (without_way w left) (w ∷ full) p, λ v r. refl)
next_shut s i (Looking x left full) (SeesRoom w) p c = (looking_shut x (without_way w left) full p, λ v r. refl)
next_shut s i (Looking x left full) a p c = absurd c
next_shut s i (Delivering x last left count) (Deliver w m) p c = (p, λ v r. refl)
next_shut s i (Delivering x last left count) (Evict w) p c = (p, λ v r. refl)
next_shut s i (Delivering x last left count) a p c = absurd c
next_shut s i (Evicted x u left count) (GetBack w k) p c = (p, λ v r. refl)
next_shut s i (Evicted x u left count) a p c = absurd c
next_shut s i (Hinting h left) (Hint w id) p c = (hinting_shut h (without_way w left), hint_names s w id)
next_shut s i (Hinting h left) (Look w shown) p c = (hinting_shut h (without_way w left), λ v r. refl)
next_shut s i (Hinting h left) a p c = absurd c
next_shut s i (Ended o) a p c = absurd c
next_shut s i d a p c = absurd p

by_shut : (s : State) (i : ℕ) (d : Doing) (ms : List Moment) → IsShut d → MayCome s i d ms → ShutThen s (moved_by s ms) (left_by s i d ms)
by_shut s i d [] p may = (p, λ w r. refl)
by_shut s i d (a ∷ ms) p may =
    let first : ShutThen s (moved s a) (next s i d a).after = next_shut s i d a p may.1 in
    let rest : ShutThen (moved s a) (moved_by s (a ∷ ms)) (left_by s i d (a ∷ ms)) = by_shut (moved s a) i (next s i d a).after ms first.0 may.2 in
    (rest.0, λ w r. rest.1 w r ∙ first.1 w r)

-- ---- the whole call

-- an end that only adds handles changes no request state
gathered_states : (s : State) (i : ℕ) (payload : List ℕ) (o : Outcome) → Gathers o → (w : Way) → (settled s i payload o).request_state w ≡ s.request_state w
gathered_states s i payload (Tells reply) p w =
    either (λ (t : State). t.request_state w ≡ s.request_state w) (is_nothing reply) (with_fixed s (called s.fixed)) s (λ u. refl) (λ u. refl)
gathered_states s i payload (Loans h) p w = refl
gathered_states s i payload (Receives x v m) p w = refl
gathered_states s i payload (Sends h true count) p w = refl
gathered_states s i payload (Sends h false count) p w = absurd (true≢false (sym p))
gathered_states s i payload (FailsToSend h true r) p w = refl
gathered_states s i payload (FailsToSend h false r) p w = absurd (true≢false (sym p))
gathered_states s i payload o p w = absurd p

module _ (s t : State) (node : ℕ) (call : Call) (reply : Reply) (e : spends call ≡ false) (begins : (c : Choice) → IsShut (start s node c call)) where
  done_names : IsDone s node call reply t → SameNames s t
  done_names done =
      let d : Doing = start s node done.0 call in
      let u : State = moved_by s done.2 in
      let q : ShutThen s u (left_by s node d done.2) = by_shut s node d done.2 (begins done.0) done.3 in
      let o : Gathers done.4 =
      ended_gathers u (left_by s node d done.2) done.4
      (by_gathers s node d done.2 (at_gathers s done.0 call (subject s.fixed node (number_of call)) e) done.3) done.5 in
      subst (SameNames s) (sym done.9) (λ w r. ap (λ (x : RequestState). names x r) (gathered_states u node done.6 done.4 o w) ∙ q.1 w r)

  unless_names : (q : Option Refusal) (P : Type 0) → (P → SameNames s t) → UnlessRefused q s reply t P → SameNames s t
  unless_names (Some r) P f p = subst (SameNames s) (sym p.1) (λ w id. refl)
  unless_names None P f p = f p

  whole_names : IsWholeCall s node call reply t → SameNames s t
  whole_names =
      unless_names (misnamed s.fixed node call) (UnlessRefused (spent s.fixed call) s reply t (IsDone s node call reply t))
      (unless_names (spent s.fixed call) (IsDone s node call reply t) done_names)

module _ (old new : HubState) (node : ℕ) (call : Call) (reply : Reply) (e : spends call ≡ false)
    (begins : (c : Choice) → IsShut (start (shown old) node c call))
    (whole : (x : Given) → IsWholeCall (state_of_hub x old) node call reply (state_of_hub x new)) where
  stays_open : KeepsOpen old new
  stays_open asker server =
      ap₂ (λ (ns : List ℕ) (b : Bool). has_number asker.port ns && b)
      (same_clients old new (whole_extends (shown old) (shown new) node call reply e (whole (nothing_given old))).ports)
      (whole_names (shown old) (shown new) node call reply e begins (whole (nothing_given old)) (response_way asker.port asker.lane server) asker.request)

  shut_keeps_requests : KeepsRequests old new
  shut_keeps_requests = kept_requests old new stays_open node call reply whole e

-- ---- of a hub

-- a hint
hint_begins : (s : State) (c : Choice) (n : ℕ) (x : Option Subject) → IsShut (option_map_or (begins_at s c (SetHint n)) x (refused UnknownNumber))
hint_begins s c n None = tt
hint_begins s c n (Some (ThePort p)) = tt
hint_begins s c n (Some (TheHandle h)) = hinting_shut h (states_of s.fixed h)

pub hint_keeps_requests : (old new : HubState) (node n : ℕ) (reply : Reply)
    → ((x : Given) → IsWholeCall (state_of_hub x old) node (SetHint n) reply (state_of_hub x new)) → KeepsRequests old new
hint_keeps_requests old new node n reply whole =
    shut_keeps_requests old new node (SetHint n) reply refl (λ c. hint_begins (shown old) c n (subject (shown old).fixed node n)) whole

-- the copy of a response
unless_shut : (q : Option Refusal) (d : Doing) → IsShut d → IsShut (unless_refused q d)
unless_shut (Some r) d p = tt
unless_shut None d p = p

copies_shut : (s : State) (c : Choice) (a : Handle) (p : Port) → port_at s.fixed a.port ≡ Some p → p.role ≡ Server → (k : Option ℕ) (words : List ℕ)
    → IsShut (copies s c (TheHandle a) k words)
copies_shut s c a p at server None words = tt
copies_shut s c a p at server (Some k) words =
    let o : Order = record { elements = k; filled = k; payload = words; copies = true; uninit = false } in
    let h : Handle = loan_of s.fixed p o a.client a.lane a.request in
    either IsShut (is_count (shape_for s.fixed (TheHandle a)) k) (lends_by s c (TheHandle a) o) (refused WrongLength)
    (λ u.
    subst (λ (q : Option Port). IsShut (option_map_or (λ e. lends_response s c a e o) q (refused UnknownNumber))) (sym at)
    (unless_shut (response_loan_refusal s.fixed a p k) (unless_refused (memory_refusal s c p.number) (lending s true h))
    (unless_shut (memory_refusal s c p.number) (lending s true h)
    (loaning_shut s true h (lending_ways s.fixed h) (ap (λ (r : Role). is_request_loan (kind_of_loan r false)) server)))))
    (λ u. tt)

pub copy_keeps_requests : (old new : HubState) → IsHub old → (node n : ℕ) (p : Payload) (reply : Reply) → HasValue old node n ActiveRequest
    → ((x : Given) → IsWholeCall (state_of_hub x old) node (SendCopy n p) reply (state_of_hub x new)) → KeepsRequests old new
copy_keeps_requests old new hub node n p reply has whole = shut_keeps_requests old new node (SendCopy n p) reply refl begins whole
  where
    t : HubTables
    t = old.control.tables

    y : Given
    y = given_by (nothing_given old) old

    active : IsActive t node n
    active = active_of_hub hub old refl node n has

    begins : (c : Choice) → IsShut (start (shown old) node c (SendCopy n p))
    begins c =
        subst (λ (o : Option Subject). IsShut (option_map_or (begins_at (shown old) c (SendCopy n p)) o (refused UnknownNumber)))
        (sym (each_handle_is_named y t node n active.handle active.named).names)
        (copies_shut (shown old) c (handle_of old active.handle) (port_of y active.port)
        (find_port y t.ports active.handle.port ∙ ap (option_map (port_of y)) active.there) active.server p.elements p.words)
