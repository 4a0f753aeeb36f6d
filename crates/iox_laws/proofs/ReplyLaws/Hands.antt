-- Nothing is in hand but what a call evicted and did not get back yet; so nothing is between calls.
use Rattle.std.specs.Prelude.{◌≡◌, ℕ, true, false, List, [], ◌∷◌, map, Some, refl}
use Rattle.std.proofs.Common.{sym, subst, ◌∙◌}
use Rattle.iox_model.specs.declared.way.Way.{Way}
use Rattle.iox_model.specs.Begins.{start}
use Rattle.iox_model.specs.Commands.{Reply, Call}
use Rattle.iox_model.specs.Counts.{with_fixed, called, dropped, gives_up, changed, sent_handle}
use Rattle.iox_model.specs.Doings.{Outcome, Tells, Loans, Fills, Sends, FailsToSend, Receives, Drops, DropsPort, Forgets, Doing, Delivering, Evicted}
use Rattle.iox_model.specs.Ends.{sent_loan, is_nothing, port_dropped, settled}
use Rattle.iox_model.specs.Expiries.{is_end, is_last_gone, disconnected, released}
use Rattle.iox_model.specs.Forgetting.{has_forgotten, forgets}
use Rattle.iox_model.specs.Handles.{is_request_loan}
use Rattle.iox_model.specs.Maps.{same_way}
use Rattle.iox_model.specs.Moments.{moved, Moment, Evict, GetBack}
use Rattle.iox_model.specs.Runs.{IsReachableState}
use Rattle.iox_model.specs.States.{Handle, State}
use Rattle.iox_model.specs.Transitions.{next, ends}
use Rattle.iox_model.specs.WholeCalls.{moved_by, left_by, MayCome, IsDone}
use Rattle.iox_laws.proofs.WeaveWorlds.Inductions.{IsKept, reached_keeps}
use Rattle.iox_laws.proofs.WeaveLaws.MapLemmas.{either, put-else, same_way-true}
use Rattle.iox_laws.proofs.WeaveLedger.Truths.{none-some}

abbrev pub NoneInHand : State → Type 0
NoneInHand s = (y : Way) → s.in_hand y ≡ []

-- so on some ways
abbrev pub NoneOn : (Way → Type 0) → State → Type 0
NoneOn Q s = (y : Way) → Q y → s.in_hand y ≡ []

-- there, what a call evicted last may be in hand
abbrev pub HandsFit : (Way → Type 0) → State → Doing → Type 0
HandsFit Q s (Evicted x v left count) = (y : Way) → Q y → same_way y v ≡ false → s.in_hand y ≡ []
HandsFit Q s d = NoneOn Q s

pub hands_any : (Q : Way → Type 0) (s : State) (d : Doing) → NoneOn Q s → HandsFit Q s d
hands_any Q s (Evicted x v left count) none = λ y q other. none y q
hands_any Q s d none = none

abbrev pub AnyWay : Way → Type 0
AnyWay y = Unit {0}

-- ---- a moment

got_back : (Q : Way → Type 0) (s : State) (w : Way) (k : ℕ) → ((y : Way) → Q y → same_way y w ≡ false → s.in_hand y ≡ [])
    → NoneOn Q (moved s (GetBack w k))
got_back Q s w k none y q = either (λ (ks : List ℕ). ks ≡ []) (same_way y w) [] (s.in_hand y) (λ same. refl) (none y q)

evicted : (Q : Way → Type 0) (s : State) (node : ℕ) (d : Doing) (w : Way) → NoneOn Q s → (next s node d (Evict w)).condition
    → HandsFit Q (moved s (Evict w)) (next s node d (Evict w)).after
evicted Q s node (Delivering x last left count) w none c = λ y q other. put-else s.in_hand w _ y other ∙ none y q
evicted Q s node d w none c = absurd c

plain : (Q : Way → Type 0) (s : State) (node : ℕ) (d : Doing) (m : Moment) → NoneOn Q s → (next s node d m).condition
    → HandsFit Q (moved s m) (next s node d m).after
plain Q s node d (GetBack w k) none c =
    hands_any Q (moved s (GetBack w k)) (next s node d (GetBack w k)).after (got_back Q s w k (λ y q other. none y q))
plain Q s node d (Evict w) none c = evicted Q s node d w none c
plain Q s node d m none c = hands_any Q (moved s m) (next s node d m).after none

pub hands_moved : (Q : Way → Type 0) (s : State) (node : ℕ) (d : Doing) (m : Moment) → HandsFit Q s d → (next s node d m).condition
    → HandsFit Q (moved s m) (next s node d m).after
hands_moved Q s node (Evicted x v left count) (GetBack w k) p c =
    got_back Q s w k (λ y q other. p y q (subst (λ u. same_way y u ≡ false) (same_way-true w v c) other))
hands_moved Q s node (Evicted x v left count) m p c = absurd c
hands_moved Q s node d m p c = plain Q s node d m p c

hands_by : (Q : Way → Type 0) (s : State) (node : ℕ) (d : Doing) (ms : List Moment) → HandsFit Q s d → MayCome s node d ms
    → HandsFit Q (moved_by s ms) (left_by s node d ms)
hands_by Q s node d [] p may = p
hands_by Q s node d (m ∷ ms) p may = hands_by Q (moved s m) node (next s node d m).after ms (hands_moved Q s node d m p may.1) may.2

ended_hands : (Q : Way → Type 0) (s : State) (d : Doing) (o : Outcome) → HandsFit Q s d → ends s d ≡ Some o → NoneOn Q s
ended_hands Q s (Evicted x v left count) o p e = none-some o e
ended_hands Q s d o p e = p

-- ---- the end

disconnected_hands : (s : State) (gone : ℕ) → NoneInHand s → NoneInHand (disconnected s gone)
disconnected_hands s gone none y = either (λ (ks : List ℕ). ks ≡ []) (is_end gone y) [] (s.in_hand y) (λ u. refl) (λ u. none y)

released_hands : (s : State) (port : ℕ) → NoneInHand s → NoneInHand (released s port)
released_hands s port none =
    either NoneInHand (is_last_gone s.fixed port) (disconnected s port) s (λ u. disconnected_hands s port none) (λ u. none)

sent_hands : (s : State) (h : Handle) (count : ℕ) → NoneInHand s → NoneInHand (sent_loan s h count)
sent_hands s h count none =
    either NoneInHand (is_request_loan h.kind) (with_fixed s (changed s.fixed (sent_handle h count)))
    (released (with_fixed s (dropped s.fixed h)) h.port) (λ u. none) (λ u. released_hands (with_fixed s (dropped s.fixed h)) h.port none)

settled_hands : (s : State) (node : ℕ) (payload : List ℕ) (o : Outcome) → NoneInHand s → NoneInHand (settled s node payload o)
settled_hands s node payload (Tells reply) none = either NoneInHand (is_nothing reply) (with_fixed s (called s.fixed)) s (λ u. none) (λ u. none)
settled_hands s node payload (Loans h) none = none
settled_hands s node payload (Fills h) none = none
settled_hands s node payload (Sends h true count) none = none
settled_hands s node payload (Sends h false count) none = sent_hands s h count none
settled_hands s node payload (FailsToSend h true refusal) none = none
settled_hands s node payload (FailsToSend h false refusal) none = released_hands (with_fixed s (dropped s.fixed h)) h.port none
settled_hands s node payload (Receives x w m) none = none
settled_hands s node payload (Drops h) none = released_hands (with_fixed s (gives_up (dropped s.fixed h) h)) h.port none
settled_hands s node payload (DropsPort port) none =
    released_hands (with_fixed s (record (s.fixed) { ports = map (port_dropped port) s.fixed.ports })) port none
settled_hands s node payload (Forgets dead) none =
    either NoneInHand (has_forgotten s.fixed node dead) s (forgets s node dead) (λ u. none) (λ u. none)

done_hands : (s : State) (node : ℕ) (call : Call) (reply : Reply) (t : State) → IsDone s node call reply t → NoneInHand s → NoneInHand t
done_hands s node call reply t done none =
    let d : Doing = start s node done.0 call in
    let u : State = moved_by s done.2 in
    subst NoneInHand (sym done.9)
    (settled_hands u node done.6 done.4
    (λ y. ended_hands AnyWay u (left_by s node d done.2) done.4
    (hands_by AnyWay s node d done.2 (hands_any AnyWay s d (λ v q. none v)) done.3) done.5 y tt))

hands_kept : IsKept NoneInHand
hands_kept = record {
  nodes = λ s x u none. none;
  makes = λ s node role id o memory allowed none. none;
  calls = λ s node call reply t named done none. done_hands s node call reply t done none;
  fills = λ s node number h x there may none. none;
}

-- Between calls nobody has in hand what it evicted.
pub none_in_hand : (s : State) → IsReachableState s → NoneInHand s
none_in_hand = reached_keeps NoneInHand hands_kept (λ l acts id y. refl)
