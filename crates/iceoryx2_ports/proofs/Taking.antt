-- What a receive that hands out a handle leaves of what is waiting, and of what receivers have.
use Rattle.std.specs.Prelude.{◌≡◌, ℕ, ◌+◌, ◌≤◌, Bool, true, false, ◌==◌, if◌then◌else◌, List, [], ◌∷◌, ◌++◌, find, length, Option, None, Some}
use Rattle.std.specs.Option.{option_map_or}
use Rattle.std.proofs.Common.{sym, ap, subst, ◌∙◌, arith}
use Rattle.iox_model.specs.declared.call.Call.TheVariants.{Receive}
use Rattle.iox_model.specs.declared.reply.Refusal.TheVariants.{UnknownNumber}
use Rattle.iox_model.specs.declared.reply.Reply.TheVariants as replies
use Rattle.iox_model.specs.declared.way.Way.{Way}
use Rattle.iox_model.specs.Begins.{begins_at, start}
use Rattle.iox_model.specs.Counts.{numbered, received_handle}
use Rattle.iox_model.specs.Doings.{refused, Again, Doing, Ended, Judging, Outcome, Receiver, Receives, Stale, Tells, Visiting}
use Rattle.iox_model.specs.Ends.{settled}
use Rattle.iox_model.specs.Handles.{Subject, TheHandle, ThePort, handle_at, new_number, subject, way_of}
use Rattle.iox_model.specs.Maps.{first_of, put, rest_of, same_way, without_way}
use Rattle.iox_model.specs.Messages.{Message, names}
use Rattle.iox_model.specs.Moments.{GiveBack, Holds, Look, Moment, SeesEmpty, SeesWaiting, Take, moved}
use Rattle.iox_model.specs.Peers.{forgot_port}
use Rattle.iox_model.specs.Receives.{pending_ways, server_ways, stale, took, took_request, took_response, visiting}
use Rattle.iox_model.specs.Settings.{is_client}
use Rattle.iox_model.specs.States.{Fixed, Handle, State}
use Rattle.iox_model.specs.Transitions.{ends, next}
use Rattle.iox_model.specs.WholeCalls.{IsDone, IsWholeCall, MayCome, left_by, moved_by, replied}
use Rattle.iox_laws.proofs.WeaveLaws.MapLemmas.{either, same_way-refl, same_way-true}
use Rattle.iox_laws.proofs.WeaveLaws.WholeLemmas.{moved_by-fixed, put_at-here, some-is}
use Rattle.iox_laws.proofs.WeaveLedger.Lists.{IsAmong, find-own}
use Rattle.iox_laws.proofs.WeaveLedger.Truths.{none-some}
use Rattle.iox_laws.proofs.WeaveWorlds.Sound.{FitsOutcome}
use Rattle.iox_laws.proofs.RunLaws.Calls.{Goes, begins, goes_by}
use Rattle.iox_laws.proofs.RunLaws.Having.{taken_way}
use Rattle.iox_laws.proofs.RunLaws.Holding.{HoldsEnd}
use Rattle.iox_laws.proofs.RunLaws.Runs.{whole_calm}
use Rattle.iox_laws.proofs.RunLaws.Settling.{Calm}
use Rattle.iox_hub_laws.proofs.Takes.{NamesAHandle, done_of, last_among, number_in}
use Rattle.iceoryx2_ports.proofs.Resting.{HaveAsBefore, numbered_has}

-- ---- lists

rest_shorter : (m : Message) (ms : List Message) → first_of ms ≡ Some m → length (rest_of ms) + 1 ≤ length ms
rest_shorter m [] e = none-some m e
rest_shorter m (a ∷ ms) e = omega arith

rest_within : (ms : List Message) → length (rest_of ms) ≤ length ms
rest_within [] = omega arith
rest_within (a ∷ ms) = omega arith

same_le : (n : ℕ) → n ≤ n
same_le n = omega arith

both_le : (a b c : ℕ) → a ≤ b → b ≤ c → a ≤ c
both_le a b c p q = omega arith

more_le : (a b c : ℕ) → a + 1 ≤ b → b ≤ c → a + 1 ≤ c
more_le a b c p q = omega arith

module _ (z : State) where
  -- a message that was taken is gone from its way
  abbrev Took : State → Doing → Type 0
  Took s (Visiting x left seen) = Unit {0}
  Took s (Again x v left seen) = Unit {0}
  Took s (Stale x v m left seen) = Unit {0}
  Took s (Judging x v m left seen) = length (s.waiting v) + 1 ≤ length (z.waiting v)
  Took s (Ended (Receives x v m)) = length (s.waiting v) + 1 ≤ length (z.waiting v)
  Took s (Ended (Tells reply)) = NamesAHandle reply → ⊥
  Took s d = ⊥

  -- no more waits than before
  abbrev Fewer : State → Type 0
  Fewer s = (w : Way) → length (s.waiting w) ≤ length (z.waiting w)

  visiting_took : (s : State) (x : Receiver) (left : List Way) (seen : Bool) → Took s (visiting x left seen)
  visiting_took s x [] true = λ q. q
  visiting_took s x [] false = λ q. q
  visiting_took s x (w ∷ left) seen = tt

  took_took : (s : State) (f : Fixed) (i : ℕ) (x : Receiver) (v : Way) (m : Message) (left : List Way) (seen : Bool)
      → length (s.waiting v) + 1 ≤ length (z.waiting v) → Took s (took f i x v m left seen)
  took_took s f i x v m left seen less =
      either (Took s) (is_client x.role) (took_response f i x v m left seen) (took_request f x v m left seen)
      (λ u. either (Took s) (m.request == x.request) (Ended (Receives x v m)) (stale f i x v m left seen) (λ b. less)
      (λ b. either (Took s) (forgot_port f i v.sender) (Again x v left seen) (Stale x v m left seen) (λ c. tt) (λ c. tt)))
      (λ u. either (Took s) f.limits.fire_and_forget (Ended (Receives x v m)) (Judging x v m left seen) (λ b. less) (λ b. less))

  taken_less : (s : State) (v : Way) (m : Message) → Fewer s → first_of (s.waiting v) ≡ Some m
      → length ((moved s (Take v m)).waiting v) + 1 ≤ length (z.waiting v)
  taken_less s v m fewer first =
      subst (λ (b : Bool). length (if b then rest_of (s.waiting v) else s.waiting v) + 1 ≤ length (z.waiting v)) (sym (same_way-refl v))
      (both_le (length (rest_of (s.waiting v)) + 1) (length (s.waiting v)) (length (z.waiting v)) (rest_shorter m (s.waiting v) first) (fewer v))

  taken_fewer : (s : State) (v : Way) (m : Message) → Fewer s → Fewer (moved s (Take v m))
  taken_fewer s v m fewer w =
      either (λ (ms : List Message). length ms ≤ length (z.waiting w)) (same_way w v) (rest_of (s.waiting v)) (s.waiting w)
      (λ same.
      subst (λ (u : Way). length (rest_of (s.waiting u)) ≤ length (z.waiting w)) (same_way-true w v same)
      (both_le (length (rest_of (s.waiting w))) (length (s.waiting w)) (length (z.waiting w)) (rest_within (s.waiting w)) (fewer w)))
      (λ other. fewer w)

  next_took : (s : State) (i : ℕ) (d : Doing) (a : Moment) → Took s d → Fewer s → Holds s a → (next s i d a).condition
      → Took (moved s a) (next s i d a).after × Fewer (moved s a)
  next_took s i (Visiting x left seen) (SeesEmpty w) p q h c = (visiting_took s x (without_way w left) seen, q)
  next_took s i (Visiting x left seen) (SeesWaiting w) p q h c = (visiting_took s x (without_way w left) true, q)
  next_took s i (Visiting x left seen) (Take w m) p q h c =
      (took_took (moved s (Take w m)) s.fixed i x w m left seen (taken_less s w m q h), taken_fewer s w m q)
  next_took s i (Visiting x left seen) a p q h c = absurd c
  next_took s i (Again x v left seen) (SeesEmpty w) p q h c = (visiting_took s x (without_way v left) seen, q)
  next_took s i (Again x v left seen) (Take w m) p q h c = (
    took_took (moved s (Take w m)) s.fixed i x v m left seen
        (subst (λ (u : Way). length ((moved s (Take w m)).waiting u) + 1 ≤ length (z.waiting u)) (same_way-true w v c) (taken_less s w m q h)),
    taken_fewer s w m q,
  )
  next_took s i (Again x v left seen) a p q h c = absurd c
  next_took s i (Judging x v m left seen) (Look w shown) p q h c =
      (either (Took s) (names shown m.request) (Ended (Receives x v m)) (Stale x v m left seen) (λ u. p) (λ u. tt), q)
  next_took s i (Judging x v m left seen) a p q h c = absurd c
  next_took s i (Stale x v m left seen) (GiveBack w k) p q h c = (tt, q)
  next_took s i (Stale x v m left seen) a p q h c = absurd c
  next_took s i (Ended o) a p q h c = absurd c
  next_took s i d a p q h c = absurd p

  by_took : (s : State) (i : ℕ) (d : Doing) (ms : List Moment) → Took s d → Fewer s → MayCome s i d ms
      → Took (moved_by s ms) (left_by s i d ms) × Fewer (moved_by s ms)
  by_took s i d [] p q may = (p, q)
  by_took s i d (a ∷ ms) p q may =
      let r : Took (moved s a) (next s i d a).after × Fewer (moved s a) = next_took s i d a p q may.0 may.1 in
      by_took (moved s a) i (next s i d a).after ms r.0 r.1 may.2

-- what a receive that hands out this handle leaves
pub record HasTaken (s t : State) (node k : ℕ) : Type 0 where
  pub handle : Handle
  pub at : handle_at t.fixed node k ≡ Some handle
  pub limits : t.fixed.limits ≡ s.fixed.limits
  pub ports : t.fixed.ports ≡ s.fixed.ports
  pub borrowed : (w : Way) → t.fixed.borrowed w ≡ put s.fixed.borrowed (way_of handle) (s.fixed.borrowed (way_of handle) + 1) w
  pub fewer : (w : Way) → length (t.waiting w) ≤ length (s.waiting w)
  pub one : length (t.waiting (way_of handle)) + 1 ≤ length (s.waiting (way_of handle))

module _ (s t : State) (node n k : ℕ) (calm : Calm s) (whole : IsWholeCall s node (Receive n) (replies.Handle k) t) where
  after : Calm t
  after = whole_calm s node (Receive n) (replies.Handle k) t calm whole

  start_took : (o : Option Subject) → (c : _) → Took s s (option_map_or (begins_at s c (Receive n)) o (refused UnknownNumber))
  start_took None c = λ q. q
  start_took (Some (ThePort p)) c = visiting_took s s _ (server_ways s.fixed p) false
  start_took (Some (TheHandle h)) c = visiting_took s s _ (pending_ways s.fixed h) false

  ended_taken : (last : State) (x : Receiver) (y : Way) (m : Message) (payload : List ℕ) → last.fixed ≡ s.fixed
      → Goes last node (Ended (Receives x y m)) → length (last.waiting y) + 1 ≤ length (s.waiting y) → Fewer s last
      → replies.Handle k ≡ replied s.fixed node (Receives x y m) → t ≡ settled last node payload (Receives x y m) → HasTaken s t node k
  ended_taken last x y m payload same goes took fewer answer is =
      let h : Handle = received_handle last.fixed node x m in
      let among : IsAmong h (t.fixed.handles node)
      = subst (λ (u : State). IsAmong h (u.fixed.handles node)) (sym is)
      (subst (IsAmong h) (sym (put_at-here (numbered last.fixed node).handles node ((numbered last.fixed node).handles node ++ h ∷ [])))
      (last_among h ((numbered last.fixed node).handles node))) in
      let number : h.number ≡ k = ap (λ (f : Fixed). new_number f node) same ∙ sym (ap number_in answer) in
      let fits : FitsOutcome last.fixed node (Receives x y m) = (goes.call).1 in
      let holds : HoldsEnd last.fixed (Receives x y m) = goes.holds in
      let its : way_of h ≡ y = taken_way last.fixed node x y m (fits.1).0 (fits.1).1 (holds.1).0 (holds.1).1 (holds.0).1 in
      let had : HaveAsBefore last.fixed (numbered last.fixed node) = numbered_has last.fixed node in record {
        handle = h;
        at = subst (λ (j : ℕ). find (λ (g : Handle). g.number == j) (t.fixed.handles node) ≡ Some h) number
            (find-own (λ (g : Handle). g.number) (t.fixed.handles node) h (((after.rests).fixed).handles node).apart among);
        limits = ap (λ (u : State). u.fixed.limits) is ∙ had.limits ∙ ap (λ (f : Fixed). f.limits) same;
        ports = ap (λ (u : State). u.fixed.ports) is ∙ had.ports ∙ ap (λ (f : Fixed). f.ports) same;
        borrowed = λ w.
            ap (λ (u : State). u.fixed.borrowed w) is
            ∙ ap (λ (b : Way → ℕ). put b y (b y + 1) w) (had.borrowed ∙ ap (λ (f : Fixed). f.borrowed) same)
            ∙ sym (ap (λ (v : Way). put s.fixed.borrowed v (s.fixed.borrowed v + 1) w) its);
        fewer = λ w. subst (λ (u : State). length (u.waiting w) ≤ length (s.waiting w)) (sym is) (fewer w);
        one = subst (λ (v : Way). length (t.waiting v) + 1 ≤ length (s.waiting v)) (sym its)
            (subst (λ (u : State). length (u.waiting y) + 1 ≤ length (s.waiting y)) (sym is) took);
      }

  taken_by_end : (last : State) (d : Doing) (o : Outcome) (payload : List ℕ) → last.fixed ≡ s.fixed → Goes last node d → Took s last d → Fewer s last
      → ends last d ≡ Some o → replies.Handle k ≡ replied s.fixed node o → t ≡ settled last node payload o → HasTaken s t node k
  taken_by_end last (Ended (Receives x y m)) o payload same goes p q ended answer is =
      let e : o ≡ Receives x y m = sym (some-is (Receives x y m) o ended) in
      ended_taken last x y m payload same goes p q (subst (λ u. replies.Handle k ≡ replied s.fixed node u) e answer)
      (subst (λ u. t ≡ settled last node payload u) e is)
  taken_by_end last (Ended (Tells reply)) o payload same goes p q ended answer is =
      absurd (p (subst NamesAHandle (answer ∙ ap (replied s.fixed node) (sym (some-is (Tells reply) o ended))) tt))
  taken_by_end last (Visiting x left seen) o payload same goes p q ended answer is = absurd (none-some o ended)
  taken_by_end last (Again x v left seen) o payload same goes p q ended answer is = absurd (none-some o ended)
  taken_by_end last (Judging x v m left seen) o payload same goes p q ended answer is = absurd (none-some o ended)
  taken_by_end last (Stale x v m left seen) o payload same goes p q ended answer is = absurd (none-some o ended)
  taken_by_end last d o payload same goes p q ended answer is = absurd p

  pub receive_takes : HasTaken s t node k
  receive_takes =
      let named = done_of s t node k (Receive n) whole in
      let done : IsDone s node (Receive n) (replies.Handle k) t = named.1 in
      let ms : List Moment = done.2 in
      let d : Doing = start s node done.0 (Receive n) in
      let r : Took s (moved_by s ms) (left_by s node d ms) × Fewer s (moved_by s ms)
      = by_took s s node d ms (start_took (subject s.fixed node n) done.0) (λ w. same_le (length (s.waiting w))) done.3 in
      taken_by_end (moved_by s ms) (left_by s node d ms) done.4 done.6 (moved_by-fixed s ms)
      (goes_by s node d ms (begins s node done.0 (Receive n) calm named.0) done.3) r.0 r.1 done.5 done.8 done.9
