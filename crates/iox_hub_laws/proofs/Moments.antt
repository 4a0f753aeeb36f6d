-- What the moments of a send bring to its ways.
use Rattle.std.specs.Prelude.{◌≡◌, ◌⊎◌, ℕ, ◌+◌, ◌-◌, ◌<◌, ◌≤◌, Bool, true, false, not, ◌&&◌, ◌||◌, ◌==◌, nat_lt, nat_le, if◌then◌else◌, List, [], ◌∷◌, ◌++◌, length, map, drop, Option, Some, None, refl}
use Rattle.std.specs.List.{list_any}
use Rattle.std.proofs.Common.{sym, ap, ap₂, subst, ◌∙◌, arith, true≢false, inl, inr, eqb-true, length-append}
use Rattle.std.proofs.lemmas.Bool.{leb-true}
use Rattle.std.proofs.lemmas.Option.{none-some, same_Some}
use Rattle.iox_model.specs.declared.kind.Role.TheVariants.{Client, Server}
use Rattle.iox_model.specs.declared.reply.Refusal.TheVariants.{OutOfMemory, ExceedsMaxActiveRequests, UnableToDeliver}
use Rattle.iox_model.specs.declared.way.RequestState.{RequestState}
use Rattle.iox_model.specs.declared.way.RequestState.TheVariants.{Named}
use Rattle.iox_model.specs.declared.way.Way.{Way}
use Rattle.iox_model.specs.declared.reply.Reply.TheVariants.{Refused}
use Rattle.iox_model.specs.Commands.{Reply}
use Rattle.iox_model.specs.Doings.{refused, Sending, Outcome, Tells, Loans, Sends, FailsToSend, Doing, Ended, Loaning, Asking, Emptying, Looking, Opening, Delivering, Evicted}
use Rattle.iox_model.specs.Handles.{is_request_loan, own_state}
use Rattle.iox_model.specs.Maps.{AreDistinctWays, has_number, has_way, not_in, put, rest_of, same_way, without_way}
use Rattle.iox_model.specs.Messages.{names, request_way, Message}
use Rattle.iox_model.specs.Moments.{Holds, moved, Moment, Deliver, Evict, Take, GiveBack, GetBack, SeesEmpty, SeesWaiting, SeesFull, SeesRoom, SeesNoneBack, Open, Close, Hint, Look}
use Rattle.iox_model.specs.Outstandings.{kept, is_dry}
use Rattle.iox_model.specs.Peers.{buffer_on, others, overflows_on, role_at}
use Rattle.iox_model.specs.Requests.{emptying, fails_at, is_active_spent, is_last, is_over, looking, may_evict, opening, sending_of, sends_request, targets, to_open}
use Rattle.iox_model.specs.Responses.{asked, loaned, loaning, sends, sends_response}
use Rattle.iox_model.specs.Settings.{overflow_of}
use Rattle.iox_model.specs.States.{Handle, Fixed, State}
use Rattle.iox_model.specs.Transitions.{ends, next}
use Rattle.iox_model.specs.WholeCalls.{MayCome, left_by, moved_by}
use Rattle.iox_laws.specs.CallFunctions.Responses.{is_awaited}
use Rattle.iox_laws.specs.CallFunctions.Sends.{is_full}
use Rattle.iox_laws.proofs.WeaveLaws.MapLemmas.{either, put-else, same_way-refl, same_way-true}
use Rattle.iox_laws.proofs.WeaveLedger.Truths.{both_true, by_cases, false_if, or-neither, or-rest}
use Rattle.iox_laws.proofs.WeaveWorlds.WayLemmas.{apart-gone, apart-not_in, apart-without, from-targets, has_way-without, not_in-has}
use Rattle.iox_laws.proofs.ReplyLaws.Ways.{has_other}
use Rattle.iox_hub_laws.specs.Arrivals.{newest, takes_more, with_last}
use Rattle.iox_hub_laws.proofs.Arrivals as arrivals
use Rattle.iox_hub_laws.proofs.Arrivals.{all_newest, in-not_in, is_less, less, not_less, one_goes, one_longer, put_here}
use Rattle.iox_hub_laws.proofs.Phases as phases

module _ (z : State) (node : ℕ) (h : Handle) (copied : Bool) (to : List ℕ)
    (of_request : is_request_loan h.kind ≡ true → to ≡ others z.fixed h.node Server)
    (of_response : is_request_loan h.kind ≡ false → to ≡ h.client ∷ [])
    (apart : AreDistinctWays (arrivals.ways z node h copied to))
    (within : (w : Way) → w.sender ≡ h.port → length (z.waiting w) ≤ buffer_on z.fixed w) where
  abbrev x : Sending
  x = arrivals.x z node h copied to

  abbrev ways : List Way
  ways = arrivals.ways z node h copied to

  abbrev goes : Way → Bool
  goes = arrivals.goes z node h copied to

  abbrev final : Way → List Message
  final = arrivals.final z node h copied to

  abbrev IsQuiet : State → Type 0
  IsQuiet = arrivals.IsQuiet z node h copied to

  abbrev MayGo : Type 0
  MayGo = arrivals.MayGo z node h copied to

  abbrev IsLooking : List Way → List Way → Type 0
  IsLooking = arrivals.IsLooking z node h copied to

  abbrev AreFull : List Way → Type 0
  AreFull = arrivals.AreFull z node h copied to

  abbrev IsOpening : State → List Way → List Way → Type 0
  IsOpening = arrivals.IsOpening z node h copied to

  abbrev IsDelivering : State → Option Way → List Way → Type 0
  IsDelivering = arrivals.IsDelivering z node h copied to

  abbrev EndsSo : State → Outcome → Type 0
  EndsSo = arrivals.EndsSo z node h copied to

  abbrev Fits : State → Doing → Type 0
  Fits = arrivals.Fits z node h copied to

  -- ---- moments

  got_back : (s : State) (w : Way) (k : ℕ) → IsQuiet s → IsQuiet (moved s (GetBack w k))
  got_back s w k q = record { fixed = q.fixed; waiting = q.waiting; states = q.states }

  full_is : (s : State) (w : Way) (b : Bool) → IsQuiet s → nat_le (buffer_on s.fixed w) (length (s.waiting w)) ≡ b → is_full z w ≡ b
  full_is s w b q e =
      ap (λ (f : Fixed). nat_le (buffer_on f w) (length (z.waiting w))) (sym q.fixed)
      ∙ ap (λ (ms : List Message). nat_le (buffer_on s.fixed w) (length ms)) (sym (q.waiting w)) ∙ e

  not_there : (v w : Way) (left : List Way) → same_way v w ≡ true → AreDistinctWays left → has_way v (without_way w left) ≡ false
  not_there v w left same apart =
      false_if (has_way v (without_way w left)) (λ p. true≢false (sym same ∙ apart-gone v w left apart p))

  still_there : (v w : Way) (left : List Way) → same_way v w ≡ false → has_way v (without_way w left) ≡ false → has_way v left ≡ false
  still_there v w left other out = sym (has_other v w left other) ∙ out

  sees_full : (w : Way) (left full : List Way) → has_way w left ≡ true → is_full z w ≡ true → IsLooking left full
      → IsLooking (without_way w left) (w ∷ full)
  sees_full w left full there is p = record {
    seen = λ v on out.
        by_cases (same_way v w)
        (λ same. ap (λ b. b || has_way v full) same ∙ sym (ap (is_full z) (same_way-true v w same) ∙ is))
        (λ other. ap (λ b. b || has_way v full) other ∙ p.seen v on (still_there v w left other out));
    unseen = λ v e. ap (λ b. b || has_way v full) (apart-gone v w left p.apart e) ∙ p.unseen v (has_way-without v w left e);
    apart = apart-without w left p.apart;
  }

  sees_room : (w : Way) (left full : List Way) → has_way w left ≡ true → is_full z w ≡ false → IsLooking left full
      → IsLooking (without_way w left) full
  sees_room w left full there is p = record {
    seen = λ v on out.
        by_cases (same_way v w)
        (λ same.
        let at : v ≡ w = same_way-true v w same in
        p.unseen v (ap (λ u. has_way u left) at ∙ there) ∙ sym (ap (is_full z) at ∙ is))
        (λ other. p.seen v on (still_there v w left other out));
    unseen = λ v e. p.unseen v (has_way-without v w left e);
    apart = apart-without w left p.apart;
  }

  opens : (s : State) (w : Way) (id : ℕ) (left full : List Way) → has_way w left ≡ true → (id == h.request) ≡ true → IsOpening s left full
      → IsOpening (moved s (Open w id)) (without_way w left) full
  opens s w id left full there is p = record {
    may = p.may;
    fixed = p.fixed;
    waiting = p.waiting;
    are = p.are;
    states = record {
      opened = λ v on out.
          by_cases (same_way v w)
          (λ same. put_here s.request_state w (Named id false) v same ∙ ap (λ n. Named n false) (eqb-true id h.request is))
          (λ other. put-else s.request_state w (Named id false) v other ∙ p.states.opened v on (still_there v w left other out));
      closed = λ v off.
          put-else s.request_state w (Named id false) v
          (false_if (same_way v w)
          (λ same. true≢false (sym (ap (λ u. has_way u (to_open x)) (same_way-true v w same) ∙ p.states.inside w there) ∙ off)))
          ∙ p.states.closed v off;
      inside = λ v e. p.states.inside v (has_way-without v w left e);
    };
  }

  -- on the way of the last delivery, too, what is waiting is what it comes to, unless one too many waits
  all_done : (s : State) (last : Option Way) (left : List Way) → IsDelivering s last left → is_over s last ≡ false
      → (w : Way) → has_way w left ≡ false → s.waiting w ≡ final w
  all_done s last left p calm w out = by_cases (is_last w last) (at_last last p calm) (p.done w out)
    where
      fits_there : (v : Way) → s.waiting v ≡ z.waiting v ++ h.message ∷ [] → nat_lt (buffer_on s.fixed v) (length (s.waiting v)) ≡ false
          → newest (buffer_on z.fixed v) (z.waiting v ++ h.message ∷ []) ≡ s.waiting v
      fits_there v is fit =
          all_newest (z.waiting v ++ h.message ∷ []) (buffer_on z.fixed v)
          (not_less (buffer_on z.fixed v) (length (z.waiting v ++ h.message ∷ []))
          (ap (λ (f : Fixed). nat_lt (buffer_on f v) (length (z.waiting v ++ h.message ∷ []))) (sym p.fixed)
          ∙ ap (λ (ms : List Message). nat_lt (buffer_on s.fixed v) (length ms)) (sym is) ∙ fit))
          ∙ sym is

      at_last : (o : Option Way) → IsDelivering s o left → is_over s o ≡ false → is_last w o ≡ true → s.waiting w ≡ final w
      at_last None q fit e = absurd (true≢false (sym e))
      at_last (Some v) q fit e =
          let here : (has_way w left ≡ false) × (goes w ≡ true) × (s.waiting w ≡ z.waiting w ++ h.message ∷ []) = q.at_last w e in
          sym ((phases.goes_there z node h copied to of_request of_response apart within) w here.1
          ∙ fits_there w here.2 (ap (λ u. nat_lt (buffer_on s.fixed u) (length (s.waiting u))) (same_way-true w v e) ∙ fit))

  delivers : (s : State) (last : Option Way) (left : List Way) (w : Way) (m : Message) → has_way w left ≡ true → m ≡ h.message
      → is_over s last ≡ false → IsDelivering s last left → IsDelivering (moved s (Deliver w m)) (may_evict x w) (without_way w left)
  delivers s last left w m there is calm p = record {
    may = p.may;
    fixed = p.fixed;
    states = record { opened = p.states.opened; closed = p.states.closed; inside = p.states.inside };
    apart = apart-without w left p.apart;
    goes_on = λ v e. p.goes_on v (has_way-without v w left e);
    todo = λ v e.
        put-else s.waiting w (s.waiting w ++ m ∷ []) v (apart-gone v w left p.apart e) ∙ p.todo v (has_way-without v w left e);
    at_last = λ v. evicts v x.overflow;
    done = λ v out. stays v out x.overflow refl;
  }
    where
      put_last : (v : Way) → same_way v w ≡ true → put s.waiting w (s.waiting w ++ m ∷ []) v ≡ z.waiting v ++ h.message ∷ []
      put_last v same =
          put_here s.waiting w (s.waiting w ++ m ∷ []) v same
          ∙ ap₂ (λ (ms : List Message) (a : Message). ms ++ a ∷ []) (p.todo w there ∙ ap z.waiting (sym (same_way-true v w same))) is

      goes_here : (v : Way) → same_way v w ≡ true → goes v ≡ true
      goes_here v same = ap goes (same_way-true v w same) ∙ p.goes_on w there

      evicts : (v : Way) (b : Bool) → is_last v (if b then Some w else None) ≡ true
          → (has_way v (without_way w left) ≡ false) × (goes v ≡ true) × (put s.waiting w (s.waiting w ++ m ∷ []) v ≡ z.waiting v ++ h.message ∷ [])
      evicts v true same = (not_there v w left same p.apart, goes_here v same, put_last v same)
      evicts v false e = absurd (true≢false (sym e))

      before : (v : Way) → same_way v w ≡ false → has_way v (without_way w left) ≡ false → put s.waiting w (s.waiting w ++ m ∷ []) v ≡ final v
      before v other out =
          put-else s.waiting w (s.waiting w ++ m ∷ []) v other ∙ all_done s last left p calm v (still_there v w left other out)

      stays : (v : Way) → has_way v (without_way w left) ≡ false → (b : Bool) → x.overflow ≡ b → is_last v (if b then Some w else None) ≡ false
          → put s.waiting w (s.waiting w ++ m ∷ []) v ≡ final v
      stays v out true over other = before v other out
      stays v out false free e =
          by_cases (same_way v w)
          (λ same.
          put_last v same
          ∙ sym ((phases.goes_there z node h copied to of_request of_response apart within) v (goes_here v same)
          ∙ all_newest (z.waiting v ++ h.message ∷ []) (buffer_on z.fixed v) ((phases.has_room z node h copied to of_request of_response apart within) v free (goes_here v same))))
          (λ other. before v other out)

  evicts_there : (s : State) (last : Option Way) (left : List Way) (w : Way) → is_last w last ≡ true
      → nat_lt (buffer_on s.fixed w) (length (s.waiting w)) ≡ true → IsDelivering s last left → IsDelivering (moved s (Evict w)) None left
  evicts_there s last left w here over p = record {
    may = p.may;
    fixed = p.fixed;
    states = record { opened = p.states.opened; closed = p.states.closed; inside = p.states.inside };
    apart = p.apart;
    goes_on = p.goes_on;
    todo = λ v e. put-else s.waiting w (rest_of (s.waiting w)) v (elsewhere v e) ∙ p.todo v e;
    at_last = λ v e. absurd (true≢false (sym e));
    done = λ v out e.
        by_cases (same_way v w) (gone v)
        (λ other. put-else s.waiting w (rest_of (s.waiting w)) v other ∙ p.done v out (not_last v last here other));
  }
    where
      elsewhere : (v : Way) → has_way v left ≡ true → same_way v w ≡ false
      elsewhere v e =
          false_if (same_way v w)
          (λ same. true≢false (sym (ap (λ u. has_way u left) (sym (same_way-true v w same)) ∙ e) ∙ (p.at_last w here).0))

      not_last : (v : Way) (o : Option Way) → is_last w o ≡ true → same_way v w ≡ false → is_last v o ≡ false
      not_last v None e other = refl
      not_last v (Some u) e other = ap (same_way v) (sym (same_way-true w u e)) ∙ other

      is : s.waiting w ≡ z.waiting w ++ h.message ∷ []
      is = (p.at_last w here).2

      too_many : nat_lt (buffer_on z.fixed w) (length (z.waiting w ++ h.message ∷ [])) ≡ true
      too_many =
          ap (λ (f : Fixed). nat_lt (buffer_on f w) (length (z.waiting w ++ h.message ∷ []))) (sym p.fixed)
          ∙ ap (λ (ms : List Message). nat_lt (buffer_on s.fixed w) (length ms)) (sym is) ∙ over

      gone : (v : Way) → same_way v w ≡ true → put s.waiting w (rest_of (s.waiting w)) v ≡ final v
      gone v same =
          put_here s.waiting w (rest_of (s.waiting w)) v same
          ∙ ap rest_of is
          ∙ sym (ap final (same_way-true v w same) ∙ (phases.goes_there z node h copied to of_request of_response apart within) w (p.at_last w here).1
          ∙ one_goes (z.waiting w ++ h.message ∷ []) (buffer_on z.fixed w) ((phases.one_over z node h copied to of_request of_response apart within) w (p.at_last w here).1 too_many))

  not_true : (b : Bool) → not b ≡ true → b ≡ false
  not_true true e = absurd (true≢false (sym e))
  not_true false e = refl

  -- what holds in a phase holds in the next
  next_fits : (s : State) (d : Doing) (a : Moment) → Fits s d → Holds s a → (next s node d a).condition → Fits (moved s a) (next s node d a).after
  next_fits s (Loaning copies l left) (GetBack w k) p holds c = (got_back s w k p.0, p.1, p.2, p.3)
  next_fits s (Loaning copies l left) (SeesNoneBack w) p holds c = (phases.loaning_fits z node h copied to of_request of_response apart within) s copies l (without_way w left) p.0 p.1 p.2 p.3
  next_fits s (Loaning copies l left) a p holds c = absurd c
  next_fits s (Asking y) (Look w shown) p holds c =
      subst (λ (u : Sending). Fits s (asked u shown)) (sym p.1)
      ((phases.asked_fits z node h copied to of_request of_response apart within) s shown p.0 p.2 p.3
      (holds ∙ p.0.states w ∙ ap z.request_state (same_way-true w (own_state h) (subst (λ (u : Sending). same_way w (own_state u.loan) ≡ true) p.1 c))))
  next_fits s (Asking y) a p holds c = absurd c
  next_fits s (Emptying y left) (GetBack w k) p holds c = (got_back s w k p.0, p.1, p.2)
  next_fits s (Emptying y left) (SeesNoneBack w) p holds c =
      subst (λ (u : Sending). Fits s (emptying u (without_way w left))) (sym p.1) ((phases.emptying_fits z node h copied to of_request of_response apart within) s (without_way w left) p.0 p.2)
  next_fits s (Emptying y left) a p holds c = absurd c
  next_fits s (Looking y left full) (SeesFull w) p holds c =
      subst (λ (u : Sending). Fits s (looking u (without_way w left) (w ∷ full))) (sym p.1)
      ((phases.looking_fits z node h copied to of_request of_response apart within) s (without_way w left) (w ∷ full) p.0 p.2 p.3 (sees_full w left full c (full_is s w true p.0 holds) p.4))
  next_fits s (Looking y left full) (SeesRoom w) p holds c =
      subst (λ (u : Sending). Fits s (looking u (without_way w left) full)) (sym p.1)
      ((phases.looking_fits z node h copied to of_request of_response apart within) s (without_way w left) full p.0 p.2 p.3
      (sees_room w left full c (full_is s w false p.0 (not_full (length (s.waiting w)) (buffer_on s.fixed w) holds)) p.4))
    where
      not_full : (n b : ℕ) → nat_lt n b ≡ true → nat_le b n ≡ false
      not_full n b e = grind (arith)
  next_fits s (Looking y left full) a p holds c = absurd c
  next_fits s (Opening y left full) (Open w id) p holds c =
      subst (λ (u : Sending). Fits (moved s (Open w id)) (opening u (without_way w left) full)) (sym p.0)
      ((phases.opening_fits z node h copied to of_request of_response apart within) (moved s (Open w id)) (without_way w left) full
      (opens s w id left full c.0 (subst (λ (u : Sending). (id == u.loan.request) ≡ true) p.0 c.1) p.1))
  next_fits s (Opening y left full) a p holds c = absurd c
  next_fits s (Delivering y last left count) (Deliver w m) p holds c = (
    p.0,
    subst (λ (u : Sending). IsDelivering (moved s (Deliver w m)) (may_evict u w) (without_way w left)) (sym p.0)
        (delivers s last left w m c.0 (subst (λ (u : Sending). m ≡ u.loan.message) p.0 c.1) (not_true (is_over s last) c.2) p.1),
  )
  next_fits s (Delivering y last left count) (Evict w) p holds c = (p.0, evicts_there s last left w c holds p.1)
  next_fits s (Delivering y last left count) a p holds c = absurd c
  next_fits s (Evicted y v left count) (GetBack w k) p holds c = (p.0, back p.1)
    where
      back : IsDelivering s None left → IsDelivering (moved s (GetBack w k)) None left
      back q = record {
        may = q.may;
        fixed = q.fixed;
        states = record { opened = q.states.opened; closed = q.states.closed; inside = q.states.inside };
        apart = q.apart;
        goes_on = q.goes_on;
        todo = q.todo;
        at_last = q.at_last;
        done = q.done;
      }
  next_fits s (Evicted y v left count) a p holds c = absurd c
  next_fits s (Ended o) a p holds c = absurd c
  next_fits s d a p holds c = absurd p

  pub moments_fit : (s : State) (d : Doing) (ms : List Moment) → MayCome s node d ms → Fits s d → Fits (moved_by s ms) (left_by s node d ms)
  moments_fit s d [] may p = p
  moments_fit s d (a ∷ ms) may p = moments_fit (moved s a) (next s node d a).after ms may.2 (next_fits s d a p may.0 may.1)

  pub ended_fits : (s : State) (d : Doing) (o : Outcome) → Fits s d → ends s d ≡ Some o → EndsSo s o
  ended_fits s (Ended a) o p e = subst (EndsSo s) (same_Some a o e) p
  ended_fits s (Delivering y last [] count) o p e =
      by_cases (is_over s last)
      (λ over. absurd (none-some o (sym (ap (λ (b : Bool). if b then None else Some (Sends y.loan y.copied count)) over) ∙ e)))
      (λ calm.
      let is : Sends y.loan y.copied count ≡ o
      = same_Some (Sends y.loan y.copied count) o (sym (ap (λ (b : Bool). if b then None else Some (Sends y.loan y.copied count)) calm) ∙ e) in
      subst (EndsSo s) is (
        ap (λ (u : Sending). u.loan) p.0,
        ap (λ (u : Sending). u.copied) p.0,
        inl (record {
          may = p.1.may;
          fixed = p.1.fixed;
          states = p.1.states;
          waiting = λ w. all_done s last [] p.1 calm w refl;
        }),
      ))
  ended_fits s (Delivering y last (w ∷ left) count) o p e = absurd (none-some o e)
  ended_fits s (Loaning copies l left) o p e = absurd (none-some o e)
  ended_fits s (Asking y) o p e = absurd (none-some o e)
  ended_fits s (Emptying y left) o p e = absurd (none-some o e)
  ended_fits s (Looking y left full) o p e = absurd (none-some o e)
  ended_fits s (Opening y left full) o p e = absurd (none-some o e)
  ended_fits s (Evicted y v left count) o p e = absurd (none-some o e)
  ended_fits s d o p e = absurd p
