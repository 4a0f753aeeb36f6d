-- A call that spends nothing leaves for whom each pending response asks.
use Rattle.std.specs.Prelude.{◌≡◌, ℕ, ◌+◌, Bool, true, false, ◌&&◌, if◌then◌else◌, ◌==◌, List, [], ◌∷◌, ◌++◌, Option, Some, None, find, refl}
use Rattle.std.specs.Option.{option_map, option_map_or}
use Rattle.std.proofs.Common.{sym, subst, ap, ap₂, ◌∙◌, true≢false, eqb-true}
use Rattle.iox_model.specs.declared.call.Call.TheVariants.{Loan, LoanUninit}
use Rattle.iox_model.specs.declared.kind.Kind.TheVariants.{PendingResponse}
use Rattle.iox_model.specs.declared.kind.Role.TheVariants as roles
use Rattle.iox_model.specs.Begins.{start}
use Rattle.iox_model.specs.Commands.{Refusal, Reply, Call, number_of}
use Rattle.iox_model.specs.Counts.{with_fixed, added, borrows, lent, numbered, called, sent_handle, received_handle, holding}
use Rattle.iox_model.specs.Doings.{Outcome, Tells, Loans, Sends, FailsToSend, Receives, Doing, Receiver}
use Rattle.iox_model.specs.Ends.{is_nothing, sent_copy, settled}
use Rattle.iox_model.specs.Handles.{handle_at, is_request_loan, subject}
use Rattle.iox_model.specs.Maps.{put_at}
use Rattle.iox_model.specs.Names.{misnamed}
use Rattle.iox_model.specs.States.{Handle, Fixed, State}
use Rattle.iox_model.specs.WholeCalls.{IsDone, IsWholeCall, UnlessRefused, moved_by, left_by, spent}
use Rattle.iox_laws.proofs.WeaveLaws.MapLemmas.{either}
use Rattle.iox_laws.proofs.WeaveLaws.WholeLemmas.{moved_by-fixed}
use Rattle.iox_laws.proofs.WeaveLedger.Truths.{none-some}
use Rattle.iox_tables.specs.HubStates.States.{Given, handle_of, message_of}
use Rattle.iox_tables.specs.HubStates.Tables.{HandleState, HubTables}
use Rattle.iox_tables.specs.HubStates.Wirings.{handle_in}
use Rattle.iox_tables.specs.HubLoans.Loans.{loan_call}
use Rattle.iox_tables.proofs.HubStates.Fixing.{find_handle}
use Rattle.iox_hub_laws.specs.Hubs.{HasValue, HubState, given_by, nothing_given, state_of_hub}
use Rattle.iox_hub_laws.specs.Waiting.{client_in, client_of, server_of}
use Rattle.iox_hub_laws.proofs.Values.{IsHandleOf, value_is_handle}
use Rattle.iceoryx2_ports.specs.Keeping.{KeepsAsking, spends}
use Rattle.iceoryx2_ports.proofs.Gathering.{Gathers, at_gathers, by_gathers, ended_gathers}

-- ---- more handles

-- no port changes, and each handle that is found is found still
pub record Extends (f g : Fixed) : Type 0 where
  pub ports : g.ports ≡ f.ports
  pub handles : (a n : ℕ) (h : Handle) → handle_at f a n ≡ Some h → handle_at g a n ≡ Some h

find-append : (test : Handle → Bool) (xs ys : List Handle) (h : Handle) → find test xs ≡ Some h → find test (xs ++ ys) ≡ Some h
find-append test [] ys h e = none-some h e
find-append test (x ∷ xs) ys h e = over (test x) (find-append test xs ys h) e
  where
    over : (b : Bool) → (find test xs ≡ Some h → find test (xs ++ ys) ≡ Some h) → (if b then Some x else find test xs) ≡ Some h
        → (if b then Some x else find test (xs ++ ys)) ≡ Some h
    over true more is = is
    over false more is = more is

adds_one : (f : Fixed) (k : Handle) → Extends f (added f k)
adds_one f k = record {
  ports = refl;
  handles = λ a n h.
      let found : List Handle → Type 0 = λ hs. find (λ j. j.number == n) hs ≡ Some h in
      either (λ (hs : List Handle). found (f.handles a) → found hs) (a == k.node) (f.handles k.node ++ k ∷ []) (f.handles a)
      (λ same at. find-append (λ j. j.number == n) (f.handles k.node) (k ∷ []) h (subst (λ b. found (f.handles b)) (eqb-true a k.node same) at))
      (λ other at. at);
}

extends_same : (f : Fixed) → Extends f f
extends_same f = record { ports = refl; handles = λ a n h at. at }

extends_over : (f g k : Fixed) → Extends f g → Extends g k → Extends f k
extends_over f g k more last = record {
  ports = last.ports ∙ more.ports;
  handles = λ a n h at. last.handles a n h (more.handles a n h at);
}

numbered_extends : (f : Fixed) (node : ℕ) → Extends f (numbered f node)
numbered_extends f node =
    either (Extends f) f.on_wire (record f { handles_made = put_at f.handles_made node (f.handles_made node + 1) })
    (record f { next_number = f.next_number + 1 }) (λ u. record { ports = refl; handles = λ a n h at. at })
    (λ u. record { ports = refl; handles = λ a n h at. at })

makes_one : (f : Fixed) (node : ℕ) (k : Handle) → Extends f (added (numbered f node) k)
makes_one f node k = extends_over f (numbered f node) (added (numbered f node) k) (numbered_extends f node) (adds_one (numbered f node) k)

-- counts are no matter
counts : (f g k : Fixed) → k.ports ≡ g.ports → k.handles ≡ g.handles → Extends f g → Extends f k
counts f g k ports handles more =
    extends_over f g k more (record {
      ports = ports;
      handles = λ a n h at. ap (λ (hs : ℕ → List Handle). find (λ j. j.number == n) (hs a)) handles ∙ at;
    })

copy_extends : (f : Fixed) (h : Handle) (count : ℕ) → Extends f (sent_copy f h count)
copy_extends f h count =
    either (Extends f) (is_request_loan h.kind) (added (numbered f h.node) (sent_handle h count)) f
    (λ u. makes_one f h.node (sent_handle h count)) (λ u. extends_same f)

settled_extends : (s : State) (node : ℕ) (payload : List ℕ) (o : Outcome) → Gathers o → Extends s.fixed (settled s node payload o).fixed
settled_extends s node payload (Tells reply) p =
    either (λ (t : State). Extends s.fixed t.fixed) (is_nothing reply) (with_fixed s (called s.fixed)) s
    (λ u. counts s.fixed s.fixed (called s.fixed) refl refl (extends_same s.fixed)) (λ u. extends_same s.fixed)
settled_extends s node payload (Loans h) p =
    let g : Fixed = added (numbered s.fixed node) (holding h payload) in
    counts s.fixed g (called (lent g h.port)) refl refl (makes_one s.fixed node (holding h payload))
settled_extends s node payload (Sends h true count) p =
    let g : Fixed = sent_copy s.fixed h count in
    counts s.fixed g (called (called (lent g h.port))) refl refl (copy_extends s.fixed h count)
settled_extends s node payload (Sends h false count) p = absurd (true≢false (sym p))
settled_extends s node payload (FailsToSend h true refusal) p =
    counts s.fixed s.fixed (called (lent s.fixed h.port)) refl refl (extends_same s.fixed)
settled_extends s node payload (FailsToSend h false refusal) p = absurd (true≢false (sym p))
settled_extends s node payload (Receives x w m) p =
    let k : Handle = received_handle s.fixed node x m in
    let g : Fixed = added (numbered s.fixed node) k in
    counts s.fixed g (called (borrows g w)) refl refl (makes_one s.fixed node k)
settled_extends s node payload o p = absurd p

-- ---- a whole call

done_extends : (s t : State) (node : ℕ) (call : Call) (reply : Reply) → spends call ≡ false → IsDone s node call reply t → Extends s.fixed t.fixed
done_extends s t node call reply e done =
    let d : Doing = start s node done.0 call in
    let u : State = moved_by s done.2 in
    let o : Gathers done.4 =
    ended_gathers u (left_by s node d done.2) done.4
    (by_gathers s node d done.2 (at_gathers s done.0 call (subject s.fixed node (number_of call)) e) done.3) done.5 in
    subst (λ (v : State). Extends s.fixed v.fixed) (sym done.9)
    (subst (λ (f : Fixed). Extends f (settled u node done.6 done.4).fixed) (moved_by-fixed s done.2) (settled_extends u node done.6 done.4 o))

unless_extends : (q : Option Refusal) (s t : State) (reply : Reply) (P : Type 0) → (P → Extends s.fixed t.fixed) → UnlessRefused q s reply t P → Extends s.fixed t.fixed
unless_extends (Some r) s t reply P f p = subst (λ (v : State). Extends s.fixed v.fixed) (sym p.1) (extends_same s.fixed)
unless_extends None s t reply P f p = f p

pub whole_extends : (s t : State) (node : ℕ) (call : Call) (reply : Reply) → spends call ≡ false → IsWholeCall s node call reply t → Extends s.fixed t.fixed
whole_extends s t node call reply e =
    unless_extends (misnamed s.fixed node call) s t reply (UnlessRefused (spent s.fixed call) s reply t (IsDone s node call reply t))
    (unless_extends (spent s.fixed call) s t reply (IsDone s node call reply t) (done_extends s t node call reply e))

-- ---- the values of a hub

-- for whom a handle of the machine asks
abbrev pub asker : Handle → Receiver
asker h = record { port = h.port; role = roles.Client; lane = h.lane; request = h.request }

pub client_shown : (x : Given) (h : HubState) (node n : ℕ)
    → option_map_or asker (handle_at (state_of_hub x h).fixed node n) (server_of n) ≡ client_in h node n
client_shown x h node n =
    ap (λ (o : Option Handle). option_map_or asker o (server_of n)) (find_handle (given_by x h) (message_of (given_by x h) t.pools) t.handles node n)
    ∙ step (handle_in t.handles node n)
  where
    t : HubTables
    t = h.control.tables

    step : (o : Option HandleState)
        → option_map_or asker (option_map (handle_of (given_by x h) (message_of (given_by x h) t.pools)) o) (server_of n)
        ≡ option_map_or (client_of t) o (server_of n)
    step (Some k) = refl
    step None = refl

-- Where such a call is whole, each pending response asks as before.
module _ (old new : HubState) (node : ℕ) (call : Call) (reply : Reply) (e : spends call ≡ false)
    (whole : (x : Given) → IsWholeCall (state_of_hub x old) node call reply (state_of_hub x new)) where
  pub asks_as_before : KeepsAsking old new
  asks_as_before a n has =
      let x : Given = nothing_given old in
      let y : Given = given_by x old in
      let t : HubTables = old.control.tables in
      let is : IsHandleOf t a n PendingResponse = value_is_handle t a n PendingResponse refl has in
      let found : handle_at (state_of_hub x old).fixed a n ≡ Some (handle_of y (message_of y t.pools) is.handle) =
      find_handle y (message_of y t.pools) t.handles a n ∙ ap (option_map (handle_of y (message_of y t.pools))) is.named.there in
      sym (client_shown x new a n)
      ∙ ap (λ (o : Option Handle). option_map_or asker o (server_of n))
      ((whole_extends (state_of_hub x old) (state_of_hub x new) node call reply e (whole x)).handles a n (handle_of y (message_of y t.pools) is.handle) found)
      ∙ sym (ap (λ (o : Option Handle). option_map_or asker o (server_of n)) found)
      ∙ client_shown x old a n

-- a loan spends nothing
pub loan_asks_as_before : (old new : HubState) (node : ℕ) (uninit : Bool) (n k : ℕ) (reply : Reply)
    → ((x : Given) → IsWholeCall (state_of_hub x old) node (loan_call uninit n k) reply (state_of_hub x new)) → KeepsAsking old new
loan_asks_as_before old new node true n k reply whole = asks_as_before old new node (LoanUninit n k) reply refl whole
loan_asks_as_before old new node false n k reply whole = asks_as_before old new node (Loan n k) reply refl whole
