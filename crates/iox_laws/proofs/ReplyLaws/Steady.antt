-- No moment changes what a call is going to answer.
use Rattle.std.specs.Prelude.{◌≡◌, ℕ, Bool, true, false, not, List, [], ◌∷◌, Some, refl}
use Rattle.std.specs.List.{list_any}
use Rattle.std.proofs.Common.{sym, subst, ap, ◌∙◌}
use Rattle.iox_model.specs.declared.kind.Kind.TheVariants.{ActiveRequest}
use Rattle.iox_model.specs.declared.reply.Reply.TheVariants.{Done, Answer}
use Rattle.iox_model.specs.declared.way.Way.{Way}
use Rattle.iox_model.specs.declared.way.RequestState.{RequestState}
use Rattle.iox_model.specs.Doings.{Receiver, Outcome, Tells, Drops, Doing, Ended, Loaning, Asking, Emptying, Looking, Opening, Delivering, Evicted, Visiting, Again, Judging, Stale, Closing, Returning, Leaving, Checking, Hinting, Seeking}
use Rattle.iox_model.specs.Handles.{same_kind, own_state}
use Rattle.iox_model.specs.Looks.{checking, checked, is_shown}
use Rattle.iox_model.specs.Maps.{is_empty, has_way, without_way}
use Rattle.iox_model.specs.Messages.{names, Message}
use Rattle.iox_model.specs.Moments.{Holds, moved, Moment, Deliver, Evict, Take, GiveBack, GetBack, SeesEmpty, SeesWaiting, SeesFull, SeesRoom, SeesNoneBack, Open, Close, Hint, Look}
use Rattle.iox_model.specs.Receives.{took, state_of_request, is_at_limit}
use Rattle.iox_model.specs.States.{Handle, State}
use Rattle.iox_model.specs.Transitions.{next, ends}
use Rattle.iox_model.specs.WholeCalls.{replied, moved_by, left_by, MayCome}
use Rattle.iox_laws.proofs.WeaveLaws.CallLaws.{not-true}
use Rattle.iox_laws.proofs.WeaveLaws.MapLemmas.{either, same_way-true}
use Rattle.iox_laws.proofs.WeaveLaws.WholeLemmas.{moved-fixed}
use Rattle.iox_laws.proofs.ReplyLaws.Telling.{asked_told, again_told, told, opening_told, looking_told, emptying_told, asked-told, loaning_told, visiting_told, closing_told, checking_told, hinting_told, seeking_told}
use Rattle.iox_laws.proofs.ReplyLaws.Lending.{loan_gets_back, loan_leaves}
use Rattle.iox_laws.proofs.ReplyLaws.Sending.{send_sees_full, send_sees_room, one_more, ended_told}
use Rattle.iox_laws.proofs.ReplyLaws.Taking.{visit_leaves, again_leaves, visit_passes, visit_chooses, again_takes, took_told, judged_told}
use Rattle.iox_laws.proofs.ReplyLaws.Ways.{any_in, any_without}

-- it takes from the way that it continues with
takes_on : (s : State) (node : ℕ) (x : Receiver) (left : List Way) (seen : Bool) (v w : Way) (m : Message) → w ≡ v → Holds s (Take w m)
    → told (moved s (Take w m)) node (took s.fixed node x v m left seen) ≡ again_told s node x v left seen false
takes_on s node x left seen v w m is =
    subst (λ u. Holds s (Take u m) → told (moved s (Take u m)) node (took s.fixed node x v m left seen) ≡ again_told s node x v left seen false)
    (sym is)
    (λ holds. took_told (moved s (Take v m)) node x v m left seen ∙ again_takes s node x left seen v m holds)

checks : (s : State) (node : ℕ) (h : Handle) (hinted : Bool) (left : List Way) (w : Way) (shown : RequestState) → has_way w left ≡ true
    → shown ≡ s.request_state w → told s node (checked h hinted left w shown) ≡ Answer (list_any (λ v. is_shown h hinted (s.request_state v)) left)
checks s node h hinted left w shown e holds =
    let test : Way → Bool = λ v. is_shown h hinted (s.request_state v) in
    let here : test w ≡ is_shown h hinted shown = ap (is_shown h hinted) (sym holds) in
    either (λ d. told s node d ≡ Answer (list_any test left)) (is_shown h hinted shown) (Ended (Tells (Answer true)))
    (checking h hinted (without_way w left)) (λ does. ap Answer (sym (any_in test w left e (here ∙ does))))
    (λ not_so. checking_told s node h hinted (without_way w left) ∙ ap Answer (any_without test w left (here ∙ not_so)))

-- nothing is in hand on the ways that a loan has yet to empty
abbrev pub IsClear : State → Doing → Type 0
IsClear s (Loaning copies h left) = (y : Way) → has_way y left ≡ true → s.in_hand y ≡ []
IsClear s d = Unit {0}

pub steady : (s : State) (node : ℕ) (d : Doing) (m : Moment) → IsClear s d → Holds s m → (next s node d m).condition
    → told (moved s m) node (next s node d m).after ≡ told s node d
steady s node (Loaning copies h left) (GetBack w k) p holds c = loan_gets_back s node copies h left w k (p w c) c holds
steady s node (Loaning copies h left) (SeesNoneBack w) p holds c =
    loaning_told s node copies h (without_way w left) ∙ loan_leaves s node copies h left w holds
steady s node (Asking x) (Look w shown) p holds c =
    asked-told s node x shown
    ∙ ap (asked_told s.fixed s.waiting node x) (holds ∙ ap s.request_state (same_way-true w (own_state x.loan) c))
steady s node (Emptying x left) (GetBack w k) p holds c = refl
steady s node (Emptying x left) (SeesNoneBack w) p holds c = emptying_told s node x (without_way w left)
steady s node (Looking x left full) (SeesFull w) p holds c =
    looking_told s node x (without_way w left) (w ∷ full) ∙ send_sees_full s node x left full w c holds
steady s node (Looking x left full) (SeesRoom w) p holds c =
    looking_told s node x (without_way w left) full ∙ send_sees_room s node x left full w holds
steady s node (Opening x left full) (Open w id) p holds c = opening_told (moved s (Open w id)) node x (without_way w left) full
steady s node (Delivering x last left count) (Deliver w m) p holds c = one_more s node x left w count c.0
steady s node (Delivering x last left count) (Evict w) p holds c = refl
steady s node (Evicted x v left count) (GetBack w k) p holds c = refl
steady s node (Visiting x left seen) (SeesEmpty w) p holds c =
    visiting_told s node x (without_way w left) seen ∙ visit_leaves s node x left seen w holds
steady s node (Visiting x left seen) (SeesWaiting w) p holds c =
    visiting_told s node x (without_way w left) true ∙ visit_passes s node x left seen w c.0 c.1 holds
steady s node (Visiting x left seen) (Take w m) p holds c =
    takes_on s node x left seen w w m refl holds ∙ visit_chooses s node x left seen w c.0 (not-true (is_at_limit s.fixed w) c.1)
steady s node (Again x v left seen) (SeesEmpty w) p holds c =
    visiting_told s node x (without_way v left) seen
    ∙ again_leaves s node x left seen v (subst (λ u. Holds s (SeesEmpty u)) (same_way-true w v c) holds)
steady s node (Again x v left seen) (Take w m) p holds c = takes_on s node x left seen v w m (same_way-true w v c) holds
steady s node (Judging x v m left seen) (Look w shown) p holds c =
    judged_told s node x v m left seen shown
    ∙ ap (λ r. again_told s node x v left seen (names r m.request)) (holds ∙ ap s.request_state (same_way-true w (state_of_request v m) c))
steady s node (Stale x v m left seen) (GiveBack w k) p holds c = refl
steady s node (Closing h left) (Close w id) p holds c = closing_told (moved s (Close w id)) node h (without_way w left)
steady s node (Returning h) (GiveBack w k) p holds c =
    either (λ d. told (moved s (GiveBack w k)) node d ≡ Done) (same_kind h.kind ActiveRequest) (Leaving h) (Ended (Drops h)) (λ u. refl) (λ u. refl)
steady s node (Leaving h) (Look w shown) p holds c = refl
steady s node (Leaving h) (Close w id) p holds c = refl
steady s node (Checking h hinted left) (Look w shown) p holds c = checks s node h hinted left w shown c holds
steady s node (Hinting h left) (Hint w id) p holds c = hinting_told (moved s (Hint w id)) node h (without_way w left)
steady s node (Hinting h left) (Look w shown) p holds c = hinting_told s node h (without_way w left)
steady s node (Seeking left) (SeesEmpty w) p holds c =
    seeking_told s node (without_way w left)
    ∙ ap Answer (any_without (λ v. not (is_empty (s.waiting v))) w left (ap not holds))
steady s node (Seeking left) (SeesWaiting w) p holds c = ap Answer (sym (any_in (λ v. not (is_empty (s.waiting v))) w left c holds))
steady s node d m p holds c = absurd c

-- Nothing is in hand there where it holds, and no moment of the call makes it false.
pub record IsLasting (node : ℕ) (P : State → Doing → Type 0) : Type 0 where
  pub clear : (s : State) (d : Doing) → P s d → IsClear s d
  pub moves : (s : State) (d : Doing) (m : Moment) → P s d → Holds s m → (next s node d m).condition
      → P (moved s m) (next s node d m).after

-- So a call that ends answers what it was going to answer from the first.
pub replied_told : (P : State → Doing → Type 0) (s : State) (node : ℕ) (d : Doing) (ms : List Moment) (o : Outcome) → IsLasting node P → P s d
    → MayCome s node d ms → ends (moved_by s ms) (left_by s node d ms) ≡ Some o → replied s.fixed node o ≡ told s node d
replied_told P s node d [] o lasts p may ended = ended_told s node d o ended
replied_told P s node d (m ∷ ms) o lasts p may ended =
    ap (λ f. replied f node o) (sym (moved-fixed s m))
    ∙ replied_told P (moved s m) node (next s node d m).after ms o lasts (lasts.moves s d m p may.0 may.1) may.2 ended
    ∙ steady s node d m (lasts.clear s d p) may.0 may.1
