-- What a receive hands out waited, fitted, and was within the borrow limit, as the receive began.
use Rattle.std.specs.Prelude.{◌≡◌, ℕ, Bool, true, false, not, ◌||◌, ◌==◌, if◌then◌else◌, List, [], ◌∷◌, ◌++◌, Some, None, refl}
use Rattle.std.proofs.Common.{sym, subst, ap, ◌∙◌, inl, inr, true≢false}
use Rattle.std.proofs.lemmas.Option.{none-some, same_Some}
use Rattle.iox_model.specs.declared.call.Call.TheVariants.{Receive}
use Rattle.iox_model.specs.declared.reply.Reply.TheVariants as replies
use Rattle.iox_model.specs.declared.way.RequestState.{RequestState}
use Rattle.iox_model.specs.declared.way.Way.{Way}
use Rattle.iox_model.specs.Begins.{start}
use Rattle.iox_model.specs.Commands.{Call}
use Rattle.iox_model.specs.Counts.{numbered, received_handle}
use Rattle.iox_model.specs.Doings.{Receiver, Outcome, Tells, Receives, Doing, Ended, Visiting, Again, Judging, Stale}
use Rattle.iox_model.specs.Ends.{settled}
use Rattle.iox_model.specs.Handles.{new_number, subject, way_of, TheHandle}
use Rattle.iox_model.specs.Loans.{Choice}
use Rattle.iox_model.specs.Maps.{first_of, rest_of, same_way, without_way}
use Rattle.iox_model.specs.Messages.{names, Message}
use Rattle.iox_model.specs.Moments.{Holds, moved, Moment, Take, GiveBack, SeesEmpty, SeesWaiting, Look}
use Rattle.iox_model.specs.Names.{misnamed}
use Rattle.iox_model.specs.Peers.{forgot_port}
use Rattle.iox_model.specs.Receives.{is_at_limit, judged, stale, state_of_request, took, took_request, took_response, visiting}
use Rattle.iox_model.specs.Runs.{IsReachableState}
use Rattle.iox_model.specs.Settings.{is_client}
use Rattle.iox_model.specs.States.{Handle, Fixed, State}
use Rattle.iox_model.specs.Transitions.{ends, next}
use Rattle.iox_model.specs.WholeCalls.{IsDone, IsWholeCall, MayCome, left_by, moved_by, replied}
use Rattle.iox_laws.specs.CallFunctions.Searches.{fits}
use Rattle.iox_laws.specs.MessageLaws.Lists.{IsOneOf}
use Rattle.iox_laws.proofs.WeaveLaws.MapLemmas.{either, same_way-true}
use Rattle.iox_laws.proofs.WeaveLaws.WholeLemmas.{moved_by-fixed, put_at-here, some-is}
use Rattle.iox_laws.proofs.WeaveWorlds.Sound.{FitsOutcome}
use Rattle.iox_laws.proofs.WeaveLedger.Lists.{IsAmong}
use Rattle.iox_laws.proofs.RunLaws.Calls.{Goes, goes_by, begins}
use Rattle.iox_laws.proofs.RunLaws.Cleanups.{handle_named}
use Rattle.iox_laws.proofs.RunLaws.Having.{taken_way}
use Rattle.iox_laws.proofs.RunLaws.Holding.{HoldsEnd}
use Rattle.iox_laws.proofs.RunLaws.Runs.{left_calm, whole_calm}
use Rattle.iox_laws.proofs.RunLaws.Settling.{Calm}
use Rattle.iox_hub_laws.proofs.Next.{same_handle}
use Rattle.iox_hub_laws.proofs.Takes.{NamesAHandle, done_of, last_among, number_in}

-- ---- a moment of a receive

-- The message can be received on that way.
pub record ComesOn (z : State) (r : Receiver) (w : Way) (m : Message) : Type 0 where
  pub waits : IsOneOf m (z.waiting w)
  pub fit : fits z r w m ≡ true
  pub room : is_at_limit z.fixed w ≡ false

first_is_there : (ms : List Message) (m : Message) → first_of ms ≡ Some m → IsOneOf m ms
first_is_there [] m e = absurd (none-some m e)
first_is_there (a ∷ ms) m e = inl (sym (same_Some a m e))

rest_is_there : (ms : List Message) (m : Message) → IsOneOf m (rest_of ms) → IsOneOf m ms
rest_is_there [] m p = p
rest_is_there (a ∷ ms) m p = inr p

not_true : (b : Bool) → not b ≡ true → b ≡ false
not_true true e = absurd (true≢false (sym e))
not_true false e = refl

or_true : (a b : Bool) → b ≡ true → (a || b) ≡ true
or_true true b e = refl
or_true false b e = e

module _ (z : State) (r : Receiver) where
  -- the receive only took messages since
  record IsSince (s : State) : Type 0 where
    pub fixed : s.fixed ≡ z.fixed
    pub states : (w : Way) → s.request_state w ≡ z.request_state w
    pub waiting : (w : Way) (m : Message) → IsOneOf m (s.waiting w) → IsOneOf m (z.waiting w)

  abbrev HasRoom : Way → Type 0
  HasRoom w = is_at_limit z.fixed w ≡ false

  -- what is in hand waited, and what is handed out can be received
  abbrev IsFrom : Doing → Type 0
  IsFrom (Visiting x left seen) = x ≡ r
  IsFrom (Again x w left seen) = (x ≡ r) × HasRoom w
  IsFrom (Judging x w m left seen) = (x ≡ r) × HasRoom w × IsOneOf m (z.waiting w) × (is_client r.role ≡ false)
  IsFrom (Stale x w m left seen) = (x ≡ r) × HasRoom w
  IsFrom (Ended (Receives x w m)) = (x ≡ r) × ComesOn z r w m
  IsFrom (Ended (Tells reply)) = NamesAHandle reply → ⊥
  IsFrom d = ⊥

  visiting_from : (x : Receiver) (left : List Way) (seen : Bool) → x ≡ r → IsFrom (visiting x left seen)
  visiting_from x [] true p = λ q. q
  visiting_from x [] false p = λ q. q
  visiting_from x (w ∷ left) seen p = p

  -- the receiver keeps a response to its request
  fit_response : (w : Way) (m : Message) → is_client r.role ≡ true → (m.request == r.request) ≡ true → fits z r w m ≡ true
  fit_response w m client same =
      ap (λ (b : Bool). if b then m.request == r.request else (z.fixed.limits.fire_and_forget || names (z.request_state (state_of_request w m)) m.request)) client
      ∙ same

  fit_request : (w : Way) (m : Message) → is_client r.role ≡ false
      → (z.fixed.limits.fire_and_forget || names (z.request_state (state_of_request w m)) m.request) ≡ true → fits z r w m ≡ true
  fit_request w m server named =
      ap (λ (b : Bool). if b then m.request == r.request else (z.fixed.limits.fire_and_forget || names (z.request_state (state_of_request w m)) m.request)) server
      ∙ named

  stale_from : (f : Fixed) (node : ℕ) (x : Receiver) (w : Way) (m : Message) (left : List Way) (seen : Bool) → x ≡ r → HasRoom w
      → IsFrom (stale f node x w m left seen)
  stale_from f node x w m left seen is room =
      either IsFrom (forgot_port f node w.sender) (Again x w left seen) (Stale x w m left seen) (λ i. (is, room)) (λ i. (is, room))

  took_from : (s : State) (node : ℕ) (x : Receiver) (w : Way) (m : Message) (left : List Way) (seen : Bool) → IsSince s → x ≡ r → HasRoom w
      → IsOneOf m (z.waiting w) → IsFrom (took s.fixed node x w m left seen)
  took_from s node x w m left seen since is room waits =
      either IsFrom (is_client x.role) (took_response s.fixed node x w m left seen) (took_request s.fixed x w m left seen)
      (λ u. either IsFrom (m.request == x.request) (Ended (Receives x w m)) (stale s.fixed node x w m left seen)
      (λ v. (
        is,
        record {
          waits = waits;
          fit = fit_response w m (ap (λ (y : Receiver). is_client y.role) (sym is) ∙ u) (ap (λ (y : Receiver). m.request == y.request) (sym is) ∙ v);
          room = room;
        },
      ))
      (λ v. stale_from s.fixed node x w m left seen is room))
      (λ u. either IsFrom s.fixed.limits.fire_and_forget (Ended (Receives x w m)) (Judging x w m left seen)
      (λ v. (
        is,
        record {
          waits = waits;
          fit = fit_request w m (ap (λ (y : Receiver). is_client y.role) (sym is) ∙ u)
              (ap (λ (b : Bool). b || names (z.request_state (state_of_request w m)) m.request) (ap (λ (f : Fixed). f.limits.fire_and_forget) (sym since.fixed) ∙ v));
          room = room;
        },
      ))
      (λ v. (is, room, waits, ap (λ (y : Receiver). is_client y.role) (sym is) ∙ u)))

  judged_from : (s : State) (x : Receiver) (w : Way) (m : Message) (left : List Way) (seen : Bool) (shown : RequestState) → IsSince s
      → shown ≡ s.request_state (state_of_request w m) → IsFrom (Judging x w m left seen) → IsFrom (judged x w m left seen shown)
  judged_from s x w m left seen shown since look p =
      either IsFrom (names shown m.request) (Ended (Receives x w m)) (Stale x w m left seen)
      (λ u. (
        p.0,
        record {
          waits = p.2;
          fit = fit_request w m p.3
              (or_true z.fixed.limits.fire_and_forget (names (z.request_state (state_of_request w m)) m.request)
              (ap (λ (q : RequestState). names q m.request) (sym (look ∙ since.states (state_of_request w m))) ∙ u));
          room = p.1;
        },
      ))
      (λ u. (p.0, p.1))

  taken_since : (s : State) (w : Way) (m : Message) → IsSince s → IsSince (moved s (Take w m))
  taken_since s w m since = record {
    fixed = since.fixed;
    states = since.states;
    waiting = λ u a p. step u a (same_way u w) refl p;
  }
    where
      step : (u : Way) (a : Message) (b : Bool) → same_way u w ≡ b → IsOneOf a (if b then rest_of (s.waiting w) else s.waiting u) → IsOneOf a (z.waiting u)
      step u a true e p =
          subst (λ (y : Way). IsOneOf a (z.waiting y)) (sym (same_way-true u w e)) (since.waiting w a (rest_is_there (s.waiting w) a p))
      step u a false e p = since.waiting u a p

  back_since : (s : State) (w : Way) (k : ℕ) → IsSince s → IsSince (moved s (GiveBack w k))
  back_since s w k since = record { fixed = since.fixed; states = since.states; waiting = since.waiting }

  room_there : (s : State) (w : Way) → IsSince s → not (is_at_limit s.fixed w) ≡ true → HasRoom w
  room_there s w since e = ap (λ (f : Fixed). is_at_limit f w) (sym since.fixed) ∙ not_true (is_at_limit s.fixed w) e

  next_from : (s : State) (node : ℕ) (d : Doing) (a : Moment) → IsSince s → IsFrom d → Holds s a → (next s node d a).condition
      → IsSince (moved s a) × IsFrom (next s node d a).after
  next_from s node (Visiting x left seen) (SeesEmpty w) since p h c = (since, visiting_from x (without_way w left) seen p)
  next_from s node (Visiting x left seen) (SeesWaiting w) since p h c = (since, visiting_from x (without_way w left) true p)
  next_from s node (Visiting x left seen) (Take w m) since p h c = (
    taken_since s w m since,
    took_from s node x w m left seen since p (room_there s w since c.1) (since.waiting w m (first_is_there (s.waiting w) m h)),
  )
  next_from s node (Visiting x left seen) m since p h c = absurd c
  next_from s node (Again x v left seen) (SeesEmpty w) since p h c = (since, visiting_from x (without_way v left) seen p.0)
  next_from s node (Again x v left seen) (Take w m) since p h c = (
    taken_since s w m since,
    took_from s node x v m left seen since p.0 p.1
        (subst (λ (y : Way). IsOneOf m (z.waiting y)) (same_way-true w v c) (since.waiting w m (first_is_there (s.waiting w) m h))),
  )
  next_from s node (Again x v left seen) m since p h c = absurd c
  next_from s node (Judging x v n left seen) (Look w shown) since p h c =
      (since, judged_from s x v n left seen shown since (h ∙ ap s.request_state (same_way-true w (state_of_request v n) c)) p)
  next_from s node (Judging x v n left seen) m since p h c = absurd c
  next_from s node (Stale x v n left seen) (GiveBack w k) since p h c = (back_since s w k since, p)
  next_from s node (Stale x v n left seen) m since p h c = absurd c
  next_from s node (Ended o) m since p h c = absurd c
  next_from s node d m since p h c = absurd p

  moments_from : (s : State) (node : ℕ) (d : Doing) (ms : List Moment) → MayCome s node d ms → IsSince s → IsFrom d → IsFrom (left_by s node d ms)
  moments_from s node d [] may since p = p
  moments_from s node d (m ∷ ms) may since p =
      let q = next_from s node d m since p may.0 may.1 in moments_from (moved s m) node (next s node d m).after ms may.2 q.0 q.1

  -- ---- the end

  -- the handle that a receive leaves under that number; its message could be received on its way
  record Came (t : State) (node k : ℕ) : Type 0 where
    pub handle : Handle
    pub named : subject t.fixed node k ≡ Some (TheHandle handle)
    pub came : ComesOn z r (way_of handle) handle.message

  ended_came : (t last : State) (node k : ℕ) (x : Receiver) (y : Way) (m : Message) (payload : List ℕ) → Calm t → last.fixed ≡ z.fixed
      → Goes last node (Ended (Receives x y m)) → ComesOn z r y m
      → replies.Handle k ≡ replied z.fixed node (Receives x y m) → t ≡ settled last node payload (Receives x y m) → Came t node k
  ended_came t last node k x y m payload calm same goes comes answer is =
      let h : Handle = received_handle last.fixed node x m in
      let among : IsAmong h (t.fixed.handles node)
      = subst (λ (u : State). IsAmong h (u.fixed.handles node)) (sym is)
      (subst (IsAmong h) (sym (put_at-here (numbered last.fixed node).handles node ((numbered last.fixed node).handles node ++ h ∷ [])))
      (last_among h ((numbered last.fixed node).handles node))) in
      let number : h.number ≡ k = ap (λ (f : Fixed). new_number f node) same ∙ sym (ap number_in answer) in
      let fits_it : FitsOutcome last.fixed node (Receives x y m) = (goes.call).1 in
      let holds : HoldsEnd last.fixed (Receives x y m) = goes.holds in record {
        handle = h;
        named = handle_named t.fixed node k h ((calm.rests).fixed) among number;
        came = subst (λ w. ComesOn z r w m)
            (sym (taken_way last.fixed node x y m (fits_it.1).0 (fits_it.1).1 (holds.1).0 (holds.1).1 (holds.0).1)) comes;
      }

  came_out : (t last : State) (node k : ℕ) (d : Doing) (o : Outcome) (payload : List ℕ) → Calm t → last.fixed ≡ z.fixed
      → Goes last node d → IsFrom d → ends last d ≡ Some o
      → replies.Handle k ≡ replied z.fixed node o → t ≡ settled last node payload o → Came t node k
  came_out t last node k (Ended (Receives x y m)) o payload calm same goes p ended answer is =
      let e : o ≡ Receives x y m = sym (some-is (Receives x y m) o ended) in
      ended_came t last node k x y m payload calm same goes p.1 (subst (λ u. replies.Handle k ≡ replied z.fixed node u) e answer)
      (subst (λ u. t ≡ settled last node payload u) e is)
  came_out t last node k (Ended (Tells reply)) o payload calm same goes p ended answer is =
      absurd (p (subst NamesAHandle (answer ∙ ap (replied z.fixed node) (sym (some-is (Tells reply) o ended))) tt))
  came_out t last node k (Visiting x left seen) o payload calm same goes p ended answer is = absurd (none-some o ended)
  came_out t last node k (Again x w left seen) o payload calm same goes p ended answer is = absurd (none-some o ended)
  came_out t last node k (Judging x w m left seen) o payload calm same goes p ended answer is = absurd (none-some o ended)
  came_out t last node k (Stale x w m left seen) o payload calm same goes p ended answer is = absurd (none-some o ended)
  came_out t last node k d o payload calm same goes p ended answer is = absurd p

  -- The message of the handle that a receive answers could be received as the receive began.
  pub received_came : (t : State) (reached : IsReachableState z) (node n k : ℕ) (left : List Way) (g : Handle)
      → ((c : Choice) → start z node c (Receive n) ≡ visiting r left false)
      → IsWholeCall z node (Receive n) (replies.Handle k) t → subject t.fixed node k ≡ Some (TheHandle g) → ComesOn z r (way_of g) g.message
  received_came t reached node n k left g begun whole named =
      let call : Call = Receive n in
      let calm : Calm z = left_calm z reached in
      let p : (misnamed z.fixed node call ≡ None) × IsDone z node call (replies.Handle k) t = done_of z t node k call whole in
      let done : IsDone z node call (replies.Handle k) t = p.1 in
      let ms : List Moment = done.2 in
      let d : Doing = start z node done.0 call in
      let first : IsFrom d = subst IsFrom (sym (begun done.0)) (visiting_from r left false refl) in
      let came : Came t node k
      = came_out t (moved_by z ms) node k (left_by z node d ms) done.4 done.6 (whole_calm z node call (replies.Handle k) t calm whole)
      (moved_by-fixed z ms) (goes_by z node d ms (begins z node done.0 call calm p.0) done.3)
      (moments_from z node d ms done.3 (record { fixed = refl; states = λ w. refl; waiting = λ w m q. q }) first) done.5 done.8 done.9 in
      subst (λ (a : Handle). ComesOn z r (way_of a) a.message) (same_handle came.handle g (sym came.named ∙ named)) came.came
