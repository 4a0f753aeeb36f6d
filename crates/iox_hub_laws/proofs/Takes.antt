-- What a receive hands out it took on the way of its handle.
use Rattle.std.specs.Prelude.{◌≡◌, ℕ, Bool, true, false, ◌==◌, List, [], ◌∷◌, ◌++◌, map, Option, Some, None, refl}
use Rattle.std.specs.Option.{option_map_or}
use Rattle.std.proofs.Common.{sym, subst, ap, ◌∙◌, inl, inr}
use Rattle.iox_model.specs.declared.call.Call.TheVariants.{Receive}
use Rattle.iox_model.specs.declared.reply.Refusal.TheVariants.{UnknownNumber}
use Rattle.iox_model.specs.declared.reply.Reply.TheVariants as replies
use Rattle.iox_model.specs.declared.way.RequestState.{RequestState}
use Rattle.iox_model.specs.declared.way.Way.{Way}
use Rattle.iox_model.specs.Begins.{begins_at, start}
use Rattle.iox_model.specs.Commands.{Refusal, Reply, Call}
use Rattle.iox_model.specs.Counts.{numbered, received_handle}
use Rattle.iox_model.specs.Doings.{refused, Receiver, Outcome, Tells, Receives, Doing, Ended, Visiting, Again, Judging, Stale}
use Rattle.iox_model.specs.Ends.{settled}
use Rattle.iox_model.specs.Handles.{new_number, subject, way_of, Subject, ThePort, TheHandle}
use Rattle.iox_model.specs.Loans.{Choice}
use Rattle.iox_model.specs.Maps.{without_way}
use Rattle.iox_model.specs.Messages.{names, Message}
use Rattle.iox_model.specs.Moments.{Moment, Take, GiveBack, SeesEmpty, SeesWaiting, Look}
use Rattle.iox_model.specs.Names.{misnamed}
use Rattle.iox_model.specs.Peers.{forgot_port}
use Rattle.iox_model.specs.Receives.{pending_ways, server_ways, visiting, stale, took_response, took_request, took, judged}
use Rattle.iox_model.specs.Settings.{is_client}
use Rattle.iox_model.specs.States.{Handle, Fixed, State}
use Rattle.iox_model.specs.Transitions.{ends}
use Rattle.iox_model.specs.Weaves.{Beat, Makes}
use Rattle.iox_model.specs.WholeCalls.{replied, moved_by, left_by, UnlessRefused, spent, IsDone, IsWholeCall}
use Rattle.iox_laws.proofs.WeaveLaws.CallLaws.{StepsKeep}
use Rattle.iox_laws.proofs.WeaveLaws.MapLemmas.{either}
use Rattle.iox_laws.proofs.WeaveLaws.WholeLemmas.{moved_by-fixed, put_at-here, some-is}
use Rattle.iox_laws.proofs.WeaveWorlds.Sound.{FitsOutcome}
use Rattle.iox_laws.proofs.WeaveLedger.Truths.{none-some}
use Rattle.iox_laws.proofs.WeaveLedger.Lists.{IsAmong}
use Rattle.iox_laws.proofs.RunLaws.Calls.{Goes, goes_by, begins}
use Rattle.iox_laws.proofs.RunLaws.Cleanups.{handle_named}
use Rattle.iox_laws.proofs.RunLaws.Having.{taken_way}
use Rattle.iox_laws.proofs.RunLaws.Holding.{HoldsEnd}
use Rattle.iox_laws.proofs.RunLaws.Refusals.{along_moments}
use Rattle.iox_laws.proofs.RunLaws.Runs.{whole_calm}
use Rattle.iox_laws.proofs.RunLaws.Settling.{Calm}
use Rattle.iox_laws.specs.MessageLaws.Deliveries.{messages_taken_from}
use Rattle.iox_laws.specs.MessageLaws.Lists.{IsOneOf}
use Rattle.iox_laws.proofs.MessageLaws.Took.{IsTook, moments_took, start_took}

-- ---- a receive tells no handle but the one that it hands out

abbrev pub NamesAHandle : Reply → Type 0
NamesAHandle (replies.Handle k) = Unit {0}
NamesAHandle reply = ⊥

-- what is left to do in a receive
abbrev IsReceive : Doing → Type 0
IsReceive (Visiting x left seen) = Unit {0}
IsReceive (Again x w left seen) = Unit {0}
IsReceive (Judging x w m left seen) = Unit {0}
IsReceive (Stale x w m left seen) = Unit {0}
IsReceive (Ended (Receives x w m)) = Unit {0}
IsReceive (Ended (Tells reply)) = NamesAHandle reply → ⊥
IsReceive d = ⊥

visiting_receives : (x : Receiver) (left : List Way) (seen : Bool) → IsReceive (visiting x left seen)
visiting_receives x [] true = λ q. q
visiting_receives x [] false = λ q. q
visiting_receives x (w ∷ left) seen = tt

took_receives : (f : Fixed) (node : ℕ) (x : Receiver) (w : Way) (m : Message) (left : List Way) (seen : Bool) → IsReceive (took f node x w m left seen)
took_receives f node x w m left seen =
    either IsReceive (is_client x.role) (took_response f node x w m left seen) (took_request f x w m left seen)
    (λ u. either IsReceive (m.request == x.request) (Ended (Receives x w m)) (stale f node x w m left seen) (λ v. tt)
    (λ v. either IsReceive (forgot_port f node w.sender) (Again x w left seen) (Stale x w m left seen) (λ i. tt) (λ i. tt)))
    (λ u. either IsReceive f.limits.fire_and_forget (Ended (Receives x w m)) (Judging x w m left seen) (λ v. tt) (λ v. tt))

judged_receives : (x : Receiver) (w : Way) (m : Message) (left : List Way) (seen : Bool) (shown : RequestState) → IsReceive (judged x w m left seen shown)
judged_receives x w m left seen shown =
    either IsReceive (names shown m.request) (Ended (Receives x w m)) (Stale x w m left seen) (λ u. tt) (λ u. tt)

receives_on : (node : ℕ) → StepsKeep node IsReceive
receives_on node s (Visiting x left seen) (SeesEmpty w) p h c = visiting_receives x (without_way w left) seen
receives_on node s (Visiting x left seen) (SeesWaiting w) p h c = visiting_receives x (without_way w left) true
receives_on node s (Visiting x left seen) (Take w m) p h c = took_receives s.fixed node x w m left seen
receives_on node s (Visiting x left seen) m p h c = absurd c
receives_on node s (Again x v left seen) (SeesEmpty w) p h c = visiting_receives x (without_way v left) seen
receives_on node s (Again x v left seen) (Take w m) p h c = took_receives s.fixed node x v m left seen
receives_on node s (Again x v left seen) m p h c = absurd c
receives_on node s (Judging x v n left seen) (Look w shown) p h c = judged_receives x v n left seen shown
receives_on node s (Judging x v n left seen) m p h c = absurd c
receives_on node s (Stale x v n left seen) (GiveBack w k) p h c = tt
receives_on node s (Stale x v n left seen) m p h c = absurd c
receives_on node s (Ended o) m p h c = absurd c
receives_on node s d m p h c = absurd p

start_receives : (s : State) (node n : ℕ) (c : Choice) → IsReceive (start s node c (Receive n))
start_receives s node n c = by_case (subject s.fixed node n)
  where
    by_case : (o : Option Subject) → IsReceive (option_map_or (begins_at s c (Receive n)) o (refused UnknownNumber))
    by_case None = λ q. q
    by_case (Some (ThePort p)) = visiting_receives _ (server_ways s.fixed p) false
    by_case (Some (TheHandle h)) = visiting_receives _ (pending_ways s.fixed h) false

-- ---- what it hands out

pub last_among : (h : Handle) (hs : List Handle) → IsAmong h (hs ++ h ∷ [])
last_among h [] = inl refl
last_among h (x ∷ hs) = inr (last_among h hs)

abbrev pub number_in : Reply → ℕ
number_in (replies.Handle k) = k
number_in reply = 0

-- the handle that a receive leaves under that number; its message was taken on its way by these beats
pub record HandsOut (t : State) (node k : ℕ) (bs : List Beat) : Type 0 where
  pub handle : Handle
  pub named : subject t.fixed node k ≡ Some (TheHandle handle)
  pub taken : IsOneOf handle.message (messages_taken_from (way_of handle) bs)

ended_out : (s t last : State) (node k : ℕ) (x : Receiver) (y : Way) (m : Message) (payload : List ℕ) (bs : List Beat) → Calm t → last.fixed ≡ s.fixed
    → Goes last node (Ended (Receives x y m)) → IsTook bs (Ended (Receives x y m))
    → replies.Handle k ≡ replied s.fixed node (Receives x y m) → t ≡ settled last node payload (Receives x y m) → HandsOut t node k bs
ended_out s t last node k x y m payload bs calm same goes took answer is =
    let h : Handle = received_handle last.fixed node x m in
    let among : IsAmong h (t.fixed.handles node)
    = subst (λ (u : State). IsAmong h (u.fixed.handles node)) (sym is)
    (subst (IsAmong h) (sym (put_at-here (numbered last.fixed node).handles node ((numbered last.fixed node).handles node ++ h ∷ [])))
    (last_among h ((numbered last.fixed node).handles node))) in
    let number : h.number ≡ k = ap (λ (f : Fixed). new_number f node) same ∙ sym (ap number_in answer) in
    let fits : FitsOutcome last.fixed node (Receives x y m) = (goes.call).1 in
    let holds : HoldsEnd last.fixed (Receives x y m) = goes.holds in record {
      handle = h;
      named = handle_named t.fixed node k h ((calm.rests).fixed) among number;
      taken = subst (λ w. IsOneOf m (messages_taken_from w bs))
          (sym (taken_way last.fixed node x y m (fits.1).0 (fits.1).1 (holds.1).0 (holds.1).1 (holds.0).1)) took;
    }

hands_out : (s t last : State) (node k : ℕ) (d : Doing) (o : Outcome) (payload : List ℕ) (bs : List Beat) → Calm t → last.fixed ≡ s.fixed
    → Goes last node d → IsTook bs d → IsReceive d → ends last d ≡ Some o
    → replies.Handle k ≡ replied s.fixed node o → t ≡ settled last node payload o → HandsOut t node k bs
hands_out s t last node k (Ended (Receives x y m)) o payload bs calm same goes took p ended answer is =
    let e : o ≡ Receives x y m = sym (some-is (Receives x y m) o ended) in
    ended_out s t last node k x y m payload bs calm same goes took (subst (λ u. replies.Handle k ≡ replied s.fixed node u) e answer)
    (subst (λ u. t ≡ settled last node payload u) e is)
hands_out s t last node k (Ended (Tells reply)) o payload bs calm same goes took p ended answer is =
    absurd (p (subst NamesAHandle (answer ∙ ap (replied s.fixed node) (sym (some-is (Tells reply) o ended))) tt))
hands_out s t last node k (Visiting x left seen) o payload bs calm same goes took p ended answer is = absurd (none-some o ended)
hands_out s t last node k (Again x w left seen) o payload bs calm same goes took p ended answer is = absurd (none-some o ended)
hands_out s t last node k (Judging x w m left seen) o payload bs calm same goes took p ended answer is = absurd (none-some o ended)
hands_out s t last node k (Stale x w m left seen) o payload bs calm same goes took p ended answer is = absurd (none-some o ended)
hands_out s t last node k d o payload bs calm same goes took p ended answer is = absurd p

-- ---- whole calls

-- a call that answers a handle is not refused
not_refused : (q : Option Refusal) (s t : State) (k : ℕ) (P : Type 0) → UnlessRefused q s (replies.Handle k) t P → (q ≡ None) × P
not_refused (Some x) s t k P u = absurd (subst NamesAHandle u.0 tt)
not_refused None s t k P u = (refl, u)

-- the call that answers this handle
pub done_of : (s t : State) (node k : ℕ) (call : Call) → IsWholeCall s node call (replies.Handle k) t
    → (misnamed s.fixed node call ≡ None) × IsDone s node call (replies.Handle k) t
done_of s t node k call whole =
    let P : Type 0 = IsDone s node call (replies.Handle k) t in
    let p : (misnamed s.fixed node call ≡ None) × UnlessRefused (spent s.fixed call) s (replies.Handle k) t P
    = not_refused (misnamed s.fixed node call) s t k (UnlessRefused (spent s.fixed call) s (replies.Handle k) t P) whole in
    (p.0, (not_refused (spent s.fixed call) s t k P p.1).1)

pub receive_hands_out : (s t : State) (node n k : ℕ) → Calm s → (whole : IsWholeCall s node (Receive n) (replies.Handle k) t)
    → HandsOut t node k (map (Makes node) ((done_of s t node k (Receive n) whole).1).2)
receive_hands_out s t node n k calm whole =
    let call : Call = Receive n in
    let p : (misnamed s.fixed node call ≡ None) × IsDone s node call (replies.Handle k) t = done_of s t node k call whole in
    let done : IsDone s node call (replies.Handle k) t = p.1 in
    let ms : List Moment = done.2 in
    let d : Doing = start s node done.0 call in
    hands_out s t (moved_by s ms) node k (left_by s node d ms) done.4 done.6 (map (Makes node) ms) (whole_calm s node call (replies.Handle k) t calm whole)
    (moved_by-fixed s ms) (goes_by s node d ms (begins s node done.0 call calm p.0) done.3)
    (moments_took [] s node d ms done.3 (start_took [] s node done.0 call))
    (along_moments node IsReceive (receives_on node) s d ms done.3 (start_receives s node n done.0)) done.5 done.8 done.9
