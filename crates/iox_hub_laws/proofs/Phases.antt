-- What holds where a phase of a send begins.
use Rattle.std.specs.Prelude.{◌≡◌, ◌⊎◌, ℕ, ◌+◌, ◌-◌, ◌<◌, ◌≤◌, Bool, true, false, not, ◌&&◌, ◌||◌, ◌==◌, nat_lt, nat_le, if◌then◌else◌, List, [], ◌∷◌, ◌++◌, length, map, drop, Option, Some, None, refl}
use Rattle.std.specs.List.{list_any}
use Rattle.std.proofs.Common.{sym, ap, ap₂, subst, ◌∙◌, arith, true≢false, inl, inr, eqb-true, length-append}
use Rattle.std.proofs.lemmas.Bool.{leb-true}
use Rattle.std.proofs.lemmas.Option.{none-some, same_Some}
use Rattle.iox_model.specs.declared.kind.Role.TheVariants.{Client, Server}
use Rattle.iox_model.specs.declared.reply.Refusal.TheVariants.{OutOfMemory, ExceedsMaxActiveRequests, UnableToDeliver}
use Rattle.iox_model.specs.declared.way.RequestState.{RequestState}
use Rattle.iox_model.specs.declared.way.RequestState.TheVariants.{Named}
use Rattle.iox_model.specs.declared.way.Way.{Way}
use Rattle.iox_model.specs.declared.reply.Reply.TheVariants.{Refused}
use Rattle.iox_model.specs.Commands.{Reply}
use Rattle.iox_model.specs.Doings.{refused, Sending, Outcome, Tells, Loans, Sends, FailsToSend, Doing, Ended, Loaning, Asking, Emptying, Looking, Opening, Delivering, Evicted}
use Rattle.iox_model.specs.Handles.{is_request_loan, own_state}
use Rattle.iox_model.specs.Maps.{AreDistinctWays, has_number, has_way, not_in, put, rest_of, same_way, without_way}
use Rattle.iox_model.specs.Messages.{names, request_way, Message}
use Rattle.iox_model.specs.Moments.{Holds, moved, Moment, Deliver, Evict, Take, GiveBack, GetBack, SeesEmpty, SeesWaiting, SeesFull, SeesRoom, SeesNoneBack, Open, Close, Hint, Look}
use Rattle.iox_model.specs.Outstandings.{kept, is_dry}
use Rattle.iox_model.specs.Peers.{buffer_on, others, overflows_on, role_at}
use Rattle.iox_model.specs.Requests.{emptying, fails_at, is_active_spent, is_last, is_over, looking, may_evict, opening, sending_of, sends_request, targets, to_open}
use Rattle.iox_model.specs.Responses.{asked, loaned, loaning, sends, sends_response}
use Rattle.iox_model.specs.Settings.{overflow_of}
use Rattle.iox_model.specs.States.{Handle, Fixed, State}
use Rattle.iox_model.specs.Transitions.{ends, next}
use Rattle.iox_model.specs.WholeCalls.{MayCome, left_by, moved_by}
use Rattle.iox_laws.specs.CallFunctions.Responses.{is_awaited}
use Rattle.iox_laws.specs.CallFunctions.Sends.{is_full}
use Rattle.iox_laws.proofs.WeaveLaws.MapLemmas.{either, put-else, same_way-refl, same_way-true}
use Rattle.iox_laws.proofs.WeaveLedger.Truths.{both_true, by_cases, false_if, or-neither, or-rest}
use Rattle.iox_laws.proofs.WeaveWorlds.WayLemmas.{apart-gone, apart-not_in, apart-without, from-targets, has_way-without, not_in-has}
use Rattle.iox_laws.proofs.ReplyLaws.Ways.{has_other}
use Rattle.iox_hub_laws.specs.Arrivals.{newest, takes_more, with_last}
use Rattle.iox_hub_laws.proofs.Arrivals as arrivals
use Rattle.iox_hub_laws.proofs.Arrivals.{all_newest, in-not_in, is_less, less, not_less, one_goes, one_longer, put_here}

module _ (z : State) (node : ℕ) (h : Handle) (copied : Bool) (to : List ℕ)
    (of_request : is_request_loan h.kind ≡ true → to ≡ others z.fixed h.node Server)
    (of_response : is_request_loan h.kind ≡ false → to ≡ h.client ∷ [])
    (apart : AreDistinctWays (arrivals.ways z node h copied to))
    (within : (w : Way) → w.sender ≡ h.port → length (z.waiting w) ≤ buffer_on z.fixed w) where
  abbrev x : Sending
  x = arrivals.x z node h copied to

  abbrev ways : List Way
  ways = arrivals.ways z node h copied to

  abbrev goes : Way → Bool
  goes = arrivals.goes z node h copied to

  abbrev final : Way → List Message
  final = arrivals.final z node h copied to

  abbrev IsQuiet : State → Type 0
  IsQuiet = arrivals.IsQuiet z node h copied to

  abbrev MayGo : Type 0
  MayGo = arrivals.MayGo z node h copied to

  abbrev IsLooking : List Way → List Way → Type 0
  IsLooking = arrivals.IsLooking z node h copied to

  abbrev AreFull : List Way → Type 0
  AreFull = arrivals.AreFull z node h copied to

  abbrev IsOpening : State → List Way → List Way → Type 0
  IsOpening = arrivals.IsOpening z node h copied to

  abbrev IsDelivering : State → Option Way → List Way → Type 0
  IsDelivering = arrivals.IsDelivering z node h copied to

  abbrev EndsSo : State → Outcome → Type 0
  EndsSo = arrivals.EndsSo z node h copied to

  abbrev Fits : State → Doing → Type 0
  Fits = arrivals.Fits z node h copied to

  -- ---- ways

  pub overflows : (w : Way) → has_way w ways ≡ true → overflows_on z.fixed w ≡ x.overflow
  overflows w e = ap (λ (n : ℕ). overflow_of z.fixed.limits (role_at z.fixed n)) (from-targets x w e)

  pub is_within : (w : Way) → has_way w ways ≡ true → length (z.waiting w) ≤ buffer_on z.fixed w
  is_within w e = within w (from-targets x w e)

  pub on_its_way : (w : Way) → goes w ≡ true → has_way w ways ≡ true
  on_its_way w e = first (has_way w ways) (takes_more z w) e
    where
      first : (a b : Bool) → (a && b) ≡ true → a ≡ true
      first true b e = refl
      first false b e = e

  pub goes_there : (w : Way) → goes w ≡ true → final w ≡ newest (buffer_on z.fixed w) (z.waiting w ++ h.message ∷ [])
  goes_there w e = ap (λ (b : Bool). if b then newest (buffer_on z.fixed w) (z.waiting w ++ h.message ∷ []) else z.waiting w) e

  pub stays_there : (w : Way) → goes w ≡ false → final w ≡ z.waiting w
  stays_there w e = ap (λ (b : Bool). if b then newest (buffer_on z.fixed w) (z.waiting w ++ h.message ∷ []) else z.waiting w) e

  -- there is room, where nothing overflows
  pub has_room : (w : Way) → x.overflow ≡ false → goes w ≡ true → length (z.waiting w ++ h.message ∷ []) ≤ buffer_on z.fixed w
  has_room w free e =
      let there : has_way w ways ≡ true = on_its_way w e in
      let room : nat_lt (length (z.waiting w)) (buffer_on z.fixed w) ≡ true
      = sym (ap (λ b. b || nat_lt (length (z.waiting w)) (buffer_on z.fixed w)) (overflows w there ∙ free))
      ∙ (sym (ap (λ b. b && takes_more z w) there) ∙ e) in
      let l = less (length (z.waiting w)) (buffer_on z.fixed w) room in
      let n = one_longer (z.waiting w) h.message in
      omega (arith, l, n)

  -- one too many waits
  pub one_over : (w : Way) → goes w ≡ true → nat_lt (buffer_on z.fixed w) (length (z.waiting w ++ h.message ∷ [])) ≡ true
      → length (z.waiting w ++ h.message ∷ []) ≡ buffer_on z.fixed w + 1
  one_over w e over =
      let l = is_within w (on_its_way w e) in
      let g = less (buffer_on z.fixed w) (length (z.waiting w ++ h.message ∷ [])) over in
      let n = one_longer (z.waiting w) h.message in
      omega (arith, l, g, n)

  -- ---- where a phase begins

  pub delivering_fits : (s : State) (full : List Way) → IsOpening s [] full → IsDelivering s None (not_in full ways)
  delivering_fits s full p = record {
    may = p.may;
    fixed = p.fixed;
    states = p.states;
    apart = apart-not_in full ways apart;
    goes_on = λ w e. let q = not_in-has w full ways e in both_true (has_way w ways) (takes_more z w) q.0 (sym (p.are w q.0) ∙ ap not q.1);
    todo = λ w e. p.waiting w;
    at_last = λ w e. absurd (true≢false (sym e));
    done = λ w out e. p.waiting w ∙ sym (stays_there w (stopped w out));
  }
    where
      stopped : (w : Way) → has_way w (not_in full ways) ≡ false → goes w ≡ false
      stopped w out =
          by_cases (has_way w ways)
          (λ there.
          ap (λ b. b && takes_more z w) there ∙ sym (p.are w there)
          ∙ ap not (by_cases (has_way w full) (λ e. e) (λ e. absurd (true≢false (sym (in-not_in w full ways there e) ∙ out)))))
          (λ off. ap (λ b. b && takes_more z w) off)

  pub opening_fits : (s : State) (left full : List Way) → IsOpening s left full → Fits s (opening x left full)
  opening_fits s [] full p = (refl, delivering_fits s full p)
  opening_fits s (w ∷ left) full p = (refl, p)

  pub quiet_opens : (s : State) (full : List Way) → IsQuiet s → MayGo → AreFull full → IsOpening s (to_open x) full
  quiet_opens s full q may are = record {
    may = may;
    fixed = q.fixed;
    waiting = q.waiting;
    are = are;
    states = record {
      opened = λ w e out. absurd (true≢false (sym e ∙ out));
      closed = λ w e. q.states w;
      inside = λ w e. e;
    };
  }

  pub looking_fits : (s : State) (left full : List Way) → IsQuiet s → MayGo → x.overflow ≡ false → IsLooking left full → Fits s (looking x left full)
  looking_fits s [] full q may free p =
      either (Fits s) (list_any x.fails full) (Ended (FailsToSend h copied UnableToDeliver)) (opening x (to_open x) full)
      (λ fails. (refl, refl, q))
      (λ passes. opening_fits s (to_open x) full (quiet_opens s full q may are))
    where
      flips : (b n : ℕ) → not (nat_le b n) ≡ nat_lt n b
      flips b n = by_cases (nat_le b n) (λ e. ap not e ∙ sym (no_less b n e)) (λ e. ap not e ∙ sym (is_less n b e))
        where
          no_less : (b n : ℕ) → nat_le b n ≡ true → nat_lt n b ≡ false
          no_less b n e = grind (arith)

      are : AreFull full
      are w there =
          ap not (p.seen w there refl) ∙ flips (buffer_on z.fixed w) (length (z.waiting w))
          ∙ sym (ap (λ b. b || nat_lt (length (z.waiting w)) (buffer_on z.fixed w)) (overflows w there ∙ free))
  looking_fits s (w ∷ left) full q may free p = (q, refl, may, free, p)

  pub emptying_fits : (s : State) (left : List Way) → IsQuiet s → MayGo → Fits s (emptying x left)
  emptying_fits s [] q may =
      either (Fits s) x.overflow (opening x (to_open x) []) (looking x ways [])
      (λ over. opening_fits s (to_open x) [] (quiet_opens s [] q may
      (λ w there. sym (ap (λ b. b || nat_lt (length (z.waiting w)) (buffer_on z.fixed w)) (overflows w there ∙ over)))))
      (λ free. looking_fits s ways [] q may free (record {
        seen = λ w there out. absurd (true≢false (sym there ∙ out));
        unseen = λ w e. refl;
        apart = apart;
      }))
  emptying_fits s (w ∷ left) q may = (q, refl, may)

  pub asked_fits : (s : State) (shown : RequestState) → IsQuiet s → is_request_loan h.kind ≡ false
      → has_number h.client (others z.fixed h.node Client) ≡ true → shown ≡ z.request_state (own_state h) → Fits s (asked x shown)
  asked_fits s shown q response there is =
      either (Fits s) (names shown h.request) (emptying x ways) (Ended (Sends h copied 0))
      (λ named. emptying_fits s ways q (record {
        unspent = λ request. absurd (true≢false (sym request ∙ response));
        awaited = λ u. both_true (has_number h.client (others z.fixed h.node Client)) (names (z.request_state (own_state h)) h.request) there
            (sym (ap (λ (r : RequestState). names r h.request) is) ∙ named);
      }))
      (λ other. (
        refl,
        refl,
        inr (record {
          quiet = q;
          response = response;
          unawaited = ap (λ b. b && names (z.request_state (own_state h)) h.request) there ∙ sym (ap (λ (r : RequestState). names r h.request) is) ∙ other;
        }),
      ))

  pub sends_fits : (s : State) → IsQuiet s → Fits s (sends z.fixed h copied)
  sends_fits s q =
      either (Fits s) (is_request_loan h.kind) (sends_request z.fixed h copied (others z.fixed h.node Server)) (sends_response z.fixed h copied)
      (λ request. subst (λ (ns : List ℕ). Fits s (sends_request z.fixed h copied ns)) (of_request request) (requests request))
      (λ response.
      either (Fits s) (has_number h.client (others z.fixed h.node Client)) (Asking (sending_of z.fixed h copied (h.client ∷ []))) (Ended (Sends h copied 0))
      (λ there. (q, ap (sending_of z.fixed h copied) (sym (of_response response)), response, there))
      (λ gone. (
        refl,
        refl,
        inr (record {
          quiet = q;
          response = response;
          unawaited = ap (λ b. b && names (z.request_state (own_state h)) h.request) gone;
        }),
      )))
    where
      requests : is_request_loan h.kind ≡ true → Fits s (sends_request z.fixed h copied to)
      requests request =
          either (Fits s) (is_active_spent z.fixed h) (Ended (FailsToSend h copied ExceedsMaxActiveRequests)) (emptying x (map (request_way h.port) to))
          (λ spent. (refl, refl, q))
          (λ unspent. emptying_fits s (map (request_way h.port) to) q (record {
            unspent = λ u. unspent;
            awaited = λ response. absurd (true≢false (sym request ∙ response));
          }))

  -- a loan, of which the send is a part
  pub loaning_fits : (s : State) (copies : Bool) (l : Handle) (left : List Way) → IsQuiet s → copies ≡ true → copied ≡ true → l ≡ h
      → Fits s (loaning s copies l left)
  loaning_fits s copies l [] q does same is =
      either (Fits s) (is_dry s.fixed l.port (kept s l.port [])) (refused OutOfMemory) (if copies then sends s.fixed l true else Ended (Loans l))
      (λ dry. (q, tt))
      (λ u. subst (λ (b : Bool). Fits s (if b then sends s.fixed l true else Ended (Loans l))) (sym does)
      (subst (λ (f : Fixed). Fits s (sends f l true)) (sym q.fixed)
      (subst (λ (k : Handle). Fits s (sends z.fixed k true)) (sym is)
      (subst (λ (b : Bool). Fits s (sends z.fixed h b)) same (sends_fits s q)))))
  loaning_fits s copies l (w ∷ left) q does same is = (q, does, same, is)
