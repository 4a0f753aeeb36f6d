-- What a receive hands out came to its receiver, and names its request.
use Rattle.std.specs.Prelude.{◌≡◌, ℕ, Bool, true, false, ◌==◌, List, [], ◌∷◌, ◌++◌, Option, Some, None, refl}
use Rattle.std.specs.Option.{option_map_or}
use Rattle.std.proofs.Common.{sym, subst, ap, ◌∙◌, inl, inr}
use Rattle.iox_model.specs.declared.call.Call.TheVariants.{Receive}
use Rattle.iox_model.specs.declared.kind.Role.TheVariants.{Client, Server}
use Rattle.iox_model.specs.declared.reply.Refusal.TheVariants.{UnknownNumber}
use Rattle.iox_model.specs.declared.reply.Reply.TheVariants as replies
use Rattle.iox_model.specs.declared.way.RequestState.{RequestState}
use Rattle.iox_model.specs.declared.way.Way.{Way}
use Rattle.iox_model.specs.Begins.{begins_at, start}
use Rattle.iox_model.specs.Commands.{Refusal, Reply, Call}
use Rattle.iox_model.specs.Counts.{numbered, received_handle}
use Rattle.iox_model.specs.Doings.{refused, Receiver, Outcome, Tells, Receives, Doing, Ended, Visiting, Again, Judging, Stale}
use Rattle.iox_model.specs.Ends.{settled}
use Rattle.iox_model.specs.Handles.{new_number, subject, Subject, ThePort, TheHandle}
use Rattle.iox_model.specs.Maps.{without_way}
use Rattle.iox_model.specs.Messages.{response_way, names, Message}
use Rattle.iox_model.specs.Moments.{Holds, moved, Moment, Take, GiveBack, SeesEmpty, SeesWaiting, Look}
use Rattle.iox_model.specs.Names.{misnamed}
use Rattle.iox_model.specs.Peers.{forgot_port}
use Rattle.iox_model.specs.Receives.{pending_ways, server_ways, visiting, stale, took_response, took_request, took, judged, state_of_request, receives}
use Rattle.iox_model.specs.Settings.{is_client}
use Rattle.iox_model.specs.States.{Handle, Fixed, State}
use Rattle.iox_model.specs.Transitions.{next, ends}
use Rattle.iox_model.specs.WholeCalls.{replied, moved_by, left_by, MayCome, UnlessRefused, spent, IsDone, IsWholeCall}
use Rattle.iox_laws.proofs.WeaveLaws.CallLaws.{StepsKeep}
use Rattle.iox_laws.proofs.WeaveLaws.MapLemmas.{either}
use Rattle.iox_laws.proofs.WeaveLaws.NamedLaws.{ShowsNamed, ByLook, next_by_look}
use Rattle.iox_laws.proofs.WeaveLaws.WholeLemmas.{moved-fixed, moved_by-fixed, put_at-here, some-is}
use Rattle.iox_laws.proofs.WeaveWorlds.Sound.{FitsOutcome}
use Rattle.iox_laws.proofs.WeaveLedger.Truths.{none-some}
use Rattle.iox_laws.proofs.WeaveLedger.Lists.{IsAmong}
use Rattle.iox_laws.specs.RunLaws.Receiving.{ResponsesNameTheirRequest, RequestsAreNamed}
use Rattle.iox_laws.proofs.RunLaws.Calls.{Goes, goes_by, begins}
use Rattle.iox_laws.proofs.RunLaws.Cleanups.{handle_named}
use Rattle.iox_laws.proofs.RunLaws.Holding.{HoldsEnd}
use Rattle.iox_laws.proofs.RunLaws.Refusals.{along_moments}
use Rattle.iox_laws.proofs.RunLaws.Runs.{left_calm, whole_calm}
use Rattle.iox_laws.proofs.RunLaws.Settling.{Calm}

-- ---- the receiver stays

abbrev NamesAHandle : Reply → Type 0
NamesAHandle (replies.Handle k) = Unit {0}
NamesAHandle reply = ⊥

-- what is left to do in a receive for that receiver
abbrev IsFor : Receiver → Doing → Type 0
IsFor r (Visiting x left seen) = x ≡ r
IsFor r (Again x w left seen) = x ≡ r
IsFor r (Judging x w m left seen) = x ≡ r
IsFor r (Stale x w m left seen) = x ≡ r
IsFor r (Ended (Receives x w m)) = x ≡ r
IsFor r (Ended (Tells reply)) = NamesAHandle reply → ⊥
IsFor r d = ⊥

visiting_for : (r x : Receiver) (left : List Way) (seen : Bool) → x ≡ r → IsFor r (visiting x left seen)
visiting_for r x [] true p = λ q. q
visiting_for r x [] false p = λ q. q
visiting_for r x (w ∷ left) seen p = p

took_for : (r : Receiver) (f : Fixed) (node : ℕ) (x : Receiver) (w : Way) (m : Message) (left : List Way) (seen : Bool) → x ≡ r
    → IsFor r (took f node x w m left seen)
took_for r f node x w m left seen p =
    either (IsFor r) (is_client x.role) (took_response f node x w m left seen) (took_request f x w m left seen)
    (λ u. either (IsFor r) (m.request == x.request) (Ended (Receives x w m)) (stale f node x w m left seen) (λ v. p)
    (λ v. either (IsFor r) (forgot_port f node w.sender) (Again x w left seen) (Stale x w m left seen) (λ i. p) (λ i. p)))
    (λ u. either (IsFor r) f.limits.fire_and_forget (Ended (Receives x w m)) (Judging x w m left seen) (λ v. p) (λ v. p))

judged_for : (r x : Receiver) (w : Way) (m : Message) (left : List Way) (seen : Bool) (shown : RequestState) → x ≡ r
    → IsFor r (judged x w m left seen shown)
judged_for r x w m left seen shown p =
    either (IsFor r) (names shown m.request) (Ended (Receives x w m)) (Stale x w m left seen) (λ u. p) (λ u. p)

goes_on_for : (r : Receiver) (node : ℕ) → StepsKeep node (IsFor r)
goes_on_for r node s (Visiting x left seen) (SeesEmpty w) p h c = visiting_for r x (without_way w left) seen p
goes_on_for r node s (Visiting x left seen) (SeesWaiting w) p h c = visiting_for r x (without_way w left) true p
goes_on_for r node s (Visiting x left seen) (Take w m) p h c = took_for r s.fixed node x w m left seen p
goes_on_for r node s (Visiting x left seen) m p h c = absurd c
goes_on_for r node s (Again x v left seen) (SeesEmpty w) p h c = visiting_for r x (without_way v left) seen p
goes_on_for r node s (Again x v left seen) (Take w m) p h c = took_for r s.fixed node x v m left seen p
goes_on_for r node s (Again x v left seen) m p h c = absurd c
goes_on_for r node s (Judging x v n left seen) (Look w shown) p h c = judged_for r x v n left seen shown p
goes_on_for r node s (Judging x v n left seen) m p h c = absurd c
goes_on_for r node s (Stale x v n left seen) (GiveBack w k) p h c = p
goes_on_for r node s (Stale x v n left seen) m p h c = absurd c
goes_on_for r node s (Ended o) m p h c = absurd c
goes_on_for r node s d m p h c = absurd p

-- ---- a request is named

-- what a server is to hand out is named, where requests are not fire and forget
abbrev IsNamed : State → Doing → Type 0
IsNamed s (Ended (Receives x y m)) = is_client x.role ≡ false → names (s.request_state (state_of_request y m)) m.request ≡ true
IsNamed s d = Unit {0}

named_after : (s : State) (a : Moment) (d : Doing) → Holds s a → ByLook a d → IsNamed (moved s a) d
named_after s a (Ended (Receives x y m)) h by = λ server.
    let w : Way = state_of_request y m in
    let p : ShowsNamed y m a = by server in
    subst (λ (b : Moment). Holds s b → names ((moved s b).request_state w) m.request ≡ true) (sym p.1)
    (λ same. subst (λ shown. names shown m.request ≡ true) same p.2) h
named_after s a d h by = tt

named_along : (s : State) (node : ℕ) (d : Doing) (ms : List Moment) → s.fixed.limits.fire_and_forget ≡ false → MayCome s node d ms → IsNamed s d
    → IsNamed (moved_by s ms) (left_by s node d ms)
named_along s node d [] off may p = p
named_along s node d (m ∷ ms) off may p =
    named_along (moved s m) node (next s node d m).after ms (ap (λ (f : Fixed). f.limits.fire_and_forget) (moved-fixed s m) ∙ off) may.2
    (named_after s m (next s node d m).after may.0 (next_by_look s node d m off may.1))

-- ---- the handle

-- what a receive of that receiver handed out
record HandsOut (s t : State) (node k : ℕ) (x : Receiver) : Type 0 where
  pub way : Way
  pub message : Message
  pub named : subject t.fixed node k ≡ Some (TheHandle (received_handle s.fixed node x message))
  pub fits : FitsOutcome s.fixed node (Receives x way message)
  pub holds : HoldsEnd s.fixed (Receives x way message)
  pub shown : s.fixed.limits.fire_and_forget ≡ false → IsNamed t (Ended (Receives x way message))

last_among : (h : Handle) (hs : List Handle) → IsAmong h (hs ++ h ∷ [])
last_among h [] = inl refl
last_among h (x ∷ hs) = inr (last_among h hs)

abbrev number_in : Reply → ℕ
number_in (replies.Handle k) = k
number_in reply = 0

-- the end of the call hands it out
ended_out : (s t last : State) (node k : ℕ) (x r : Receiver) (y : Way) (m : Message) (payload : List ℕ) → Calm t → last.fixed ≡ s.fixed
    → Goes last node (Ended (Receives x y m)) → (s.fixed.limits.fire_and_forget ≡ false → IsNamed last (Ended (Receives x y m)))
    → replies.Handle k ≡ replied s.fixed node (Receives x y m) → t ≡ settled last node payload (Receives x y m) → x ≡ r → HandsOut s t node k r
ended_out s t last node k x r y m payload calm same goes shown answer is x_is =
    let h : Handle = received_handle last.fixed node x m in
    let among : IsAmong h (t.fixed.handles node)
    = subst (λ (u : State). IsAmong h (u.fixed.handles node)) (sym is)
    (subst (IsAmong h) (sym (put_at-here (numbered last.fixed node).handles node ((numbered last.fixed node).handles node ++ h ∷ [])))
    (last_among h ((numbered last.fixed node).handles node))) in
    let number : h.number ≡ k = ap (λ (f : Fixed). new_number f node) same ∙ sym (ap number_in answer) in
    subst (HandsOut s t node k) x_is (record {
      way = y;
      message = m;
      named = subst (λ (f : Fixed). subject t.fixed node k ≡ Some (TheHandle (received_handle f node x m))) same
          (handle_named t.fixed node k h ((calm.rests).fixed) among number);
      fits = subst (λ f. FitsOutcome f node (Receives x y m)) same (goes.call).1;
      holds = subst (λ f. HoldsEnd f (Receives x y m)) same goes.holds;
      shown = λ off. subst (λ (u : State). IsNamed u (Ended (Receives x y m))) (sym is) (shown off);
    })

hands_out : (s t last : State) (node k : ℕ) (r : Receiver) (d : Doing) (o : Outcome) (payload : List ℕ) → Calm t → last.fixed ≡ s.fixed
    → Goes last node d → (s.fixed.limits.fire_and_forget ≡ false → IsNamed last d) → IsFor r d → ends last d ≡ Some o
    → replies.Handle k ≡ replied s.fixed node o → t ≡ settled last node payload o → HandsOut s t node k r
hands_out s t last node k r (Ended (Receives x y m)) o payload calm same goes shown p ended answer is =
    let e : o ≡ Receives x y m = sym (some-is (Receives x y m) o ended) in
    ended_out s t last node k x r y m payload calm same goes shown (subst (λ u. replies.Handle k ≡ replied s.fixed node u) e answer)
    (subst (λ u. t ≡ settled last node payload u) e is) p
hands_out s t last node k r (Ended (Tells reply)) o payload calm same goes shown p ended answer is =
    absurd (p (subst NamesAHandle (answer ∙ ap (replied s.fixed node) (sym (some-is (Tells reply) o ended))) tt))
hands_out s t last node k r (Visiting x left seen) o payload calm same goes shown p ended answer is = absurd (none-some o ended)
hands_out s t last node k r (Again x w left seen) o payload calm same goes shown p ended answer is = absurd (none-some o ended)
hands_out s t last node k r (Judging x w m left seen) o payload calm same goes shown p ended answer is = absurd (none-some o ended)
hands_out s t last node k r (Stale x w m left seen) o payload calm same goes shown p ended answer is = absurd (none-some o ended)
hands_out s t last node k r d o payload calm same goes shown p ended answer is = absurd p

-- ---- whole calls

-- a call that answers a handle is not refused
not_refused : (q : Option Refusal) (s t : State) (k : ℕ) (P : Type 0) → UnlessRefused q s (replies.Handle k) t P → (q ≡ None) × P
not_refused (Some x) s t k P u = absurd (subst NamesAHandle u.0 tt)
not_refused None s t k P u = (refl, u)

receive_hands_out : (s t : State) (node n k : ℕ) (x : Subject) (r : Receiver) (left : List Way) → Calm s → subject s.fixed node n ≡ Some x
    → receives s.fixed x ≡ visiting r left false → IsWholeCall s node (Receive n) (replies.Handle k) t → HandsOut s t node k r
receive_hands_out s t node n k x r left calm is first whole =
    let call : Call = Receive n in
    let P : Type 0 = IsDone s node call (replies.Handle k) t in
    let p : (misnamed s.fixed node call ≡ None) × UnlessRefused (spent s.fixed call) s (replies.Handle k) t P
    = not_refused (misnamed s.fixed node call) s t k (UnlessRefused (spent s.fixed call) s (replies.Handle k) t P) whole in
    let done : P = (not_refused (spent s.fixed call) s t k P p.1).1 in
    let d : Doing = start s node done.0 call in
    let start_is : d ≡ visiting r left false = ap (λ o. option_map_or (begins_at s done.0 call) o (refused UnknownNumber)) is ∙ first in
    let last : State = moved_by s done.2 in
    hands_out s t last node k r (left_by s node d done.2) done.4 done.6 (whole_calm s node call (replies.Handle k) t calm whole)
    (moved_by-fixed s done.2) (goes_by s node d done.2 (begins s node done.0 call calm p.0) done.3)
    (λ off. named_along s node d done.2 off done.3 (subst (IsNamed s) (sym start_is) (begin_named left)))
    (along_moments node (IsFor r) (goes_on_for r node) s d done.2 done.3 (subst (IsFor r) (sym start_is) (visiting_for r r left false refl)))
    done.5 done.8 done.9
  where
    begin_named : (ways : List Way) → IsNamed s (visiting r ways false)
    begin_named [] = tt
    begin_named (w ∷ ways) = tt

pub responses_name_their_request : ResponsesNameTheirRequest
responses_name_their_request s t node n k h left is whole =
    let r : Receiver = record { port = h.port; role = Client; lane = h.lane; request = h.request } in
    let p : HandsOut s t node k r = receive_hands_out s t node n k (TheHandle h) r (pending_ways s.fixed h) (left_calm s left) is refl whole in (
      received_handle s.fixed node r p.message,
      p.named,
      refl,
      refl,
      ((p.holds).1).1 refl ∙ ((p.fits).1).1,
      (p.fits).2 refl,
    )

pub requests_are_named : RequestsAreNamed
requests_are_named s t node n k p left is whole =
    let r : Receiver = record { port = p.number; role = Server; lane = 0; request = 0 } in
    let q : HandsOut s t node k r = receive_hands_out s t node n k (ThePort p) r (server_ways s.fixed p) (left_calm s left) is refl whole in
    let m : Message = q.message in (
      received_handle s.fixed node r m,
      q.named,
      refl,
      refl,
      λ off.
          subst (λ sender. names (t.request_state (response_way sender m.lane p.number)) m.request ≡ true) (sym ((q.holds).1).0)
          (subst (λ port. names (t.request_state (response_way (q.way).sender m.lane port)) m.request ≡ true) ((q.fits).1).0 (q.shown off refl)),
    )
