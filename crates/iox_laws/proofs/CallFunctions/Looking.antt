-- What the functions of questions and hints say are whole calls.
use Rattle.std.specs.Prelude.{◌≡◌, ℕ, Bool, true, false, not, ◌||◌, if◌then◌else◌, List, [], ◌∷◌, Option, Some, None, refl}
use Rattle.std.specs.List.{list_any}
use Rattle.std.specs.Option.{option_map_or}
use Rattle.std.proofs.Common.{sym, subst, ap}
use Rattle.iox_model.specs.declared.way.Way.{Way}
use Rattle.iox_model.specs.declared.call.Call.TheVariants.{IsConnected, SetHint, HasHint, HasRequests, HasResponse}
use Rattle.iox_model.specs.declared.reply.Refusal.TheVariants.{UnknownNumber, WrongKind}
use Rattle.iox_model.specs.declared.reply.Reply.TheVariants.{Done, Answer, Refused}
use Rattle.iox_model.specs.Begins.{begins_at}
use Rattle.iox_model.specs.Doings.{refused, Tells, Doing, Ended, Checking, Hinting, Seeking}
use Rattle.iox_model.specs.Handles.{subject, Subject, ThePort, TheHandle}
use Rattle.iox_model.specs.Looks.{checking, is_shown, hinting}
use Rattle.iox_model.specs.Maps.{is_empty}
use Rattle.iox_model.specs.Moments.{moved, SeesEmpty, SeesWaiting, Hint, Look}
use Rattle.iox_model.specs.Receives.{server_ways, pending_ways, seeking}
use Rattle.iox_model.specs.Releases.{states_of}
use Rattle.iox_model.specs.States.{Handle, Fixed, State}
use Rattle.iox_laws.proofs.WeaveLaws.MapLemmas.{is_in-first, eqb-refl}
use Rattle.iox_laws.specs.CallFunctions.Answers.{of_handle}
use Rattle.iox_laws.specs.CallFunctions.Looks.{waits_on, sought_by_server, sought_by_pending, EachSeekIsWhole, asked_of, EachQuestionIsWhole, hinted_at, hinted_from, EachHintIsWhole}
use Rattle.iox_laws.proofs.CallFunctions.Leads.{NoPayload, Leads, at_end, one_more, first_way, is_whole, of_handle_leads, ample}

-- ---- whether a message waits

seeks_at : (f : Fixed) (s : State) (node : ℕ) (w : Way) (ws : List Way) (b : Bool) → is_empty (s.waiting w) ≡ b
    → Leads (NoPayload f) s node (seeking ws) (Tells (Answer (waits_on s ws)), s)
    → Leads (NoPayload f) s node (Seeking (w ∷ ws)) (Tells (Answer (not b || waits_on s ws)), s)
seeks_at f s node w ws true e more =
    one_more (NoPayload f) s node (Seeking (w ∷ ws)) (SeesEmpty w) _ e (is_in-first w ws)
    (subst (λ (d : Doing). Leads (NoPayload f) s node d (Tells (Answer (waits_on s ws)), s)) (sym (first_way seeking w ws)) more)
seeks_at f s node w ws false e more =
    one_more (NoPayload f) s node (Seeking (w ∷ ws)) (SeesWaiting w) _ (ap not e) (is_in-first w ws)
    (at_end (NoPayload f) s node (Tells (Answer true)) tt)

seeks : (f : Fixed) (s : State) (node : ℕ) (ws : List Way) → Leads (NoPayload f) s node (seeking ws) (Tells (Answer (waits_on s ws)), s)
seeks f s node [] = at_end (NoPayload f) s node (Tells (Answer false)) tt
seeks f s node (w ∷ ws) = seeks_at f s node w ws (is_empty (s.waiting w)) refl (seeks f s node ws)

sought : (s : State) (node n : ℕ) (x : Option Subject)
    → Leads (NoPayload s.fixed) s node (option_map_or (begins_at s ample (HasRequests n)) x (refused UnknownNumber)) (sought_by_server s x)
sought s node n (Some (ThePort p)) = seeks s.fixed s node (server_ways s.fixed p)
sought s node n (Some (TheHandle h)) = at_end (NoPayload s.fixed) s node (Tells (Refused WrongKind)) tt
sought s node n None = at_end (NoPayload s.fixed) s node (Tells (Refused UnknownNumber)) tt

pub each_seek_is_whole : EachSeekIsWhole
each_seek_is_whole s node n = (
  is_whole s node (HasRequests n) ample (sought_by_server s (subject s.fixed node n)) (refl, refl) (sought s node n (subject s.fixed node n)),
  is_whole s node (HasResponse n) ample (of_handle s (subject s.fixed node n) (sought_by_pending s)) (refl, refl)
      (of_handle_leads (NoPayload s.fixed) s node (begins_at s ample (HasResponse n)) (sought_by_pending s) (subject s.fixed node n) tt tt (λ p. refl)
      (λ h. seeks s.fixed s node (pending_ways s.fixed h))),
)

-- ---- whether the request is named

-- some of these states show it
abbrev shown_on : State → Handle → Bool → List Way → Bool
shown_on s h hinted ws = list_any (λ w. is_shown h hinted (s.request_state w)) ws

by_look : (f : Fixed) (s : State) (node : ℕ) (b a : Bool) (d : Doing) → Leads (NoPayload f) s node d (Tells (Answer a), s)
    → Leads (NoPayload f) s node (if b then Ended (Tells (Answer true)) else d) (Tells (Answer (b || a)), s)
by_look f s node true a d more = at_end (NoPayload f) s node (Tells (Answer true)) tt
by_look f s node false a d more = more

checks : (f : Fixed) (s : State) (node : ℕ) (h : Handle) (hinted : Bool) (ws : List Way)
    → Leads (NoPayload f) s node (checking h hinted ws) (Tells (Answer (shown_on s h hinted ws)), s)
checks f s node h hinted [] = at_end (NoPayload f) s node (Tells (Answer false)) tt
checks f s node h hinted (w ∷ ws) =
    one_more (NoPayload f) s node (Checking h hinted (w ∷ ws)) (Look w (s.request_state w)) _ refl (is_in-first w ws)
    (by_look f s node (is_shown h hinted (s.request_state w)) (shown_on s h hinted ws) _
    (subst (λ (d : Doing). Leads (NoPayload f) s node d (Tells (Answer (shown_on s h hinted ws)), s)) (sym (first_way (checking h hinted) w ws))
    (checks f s node h hinted ws)))

pub each_question_is_whole : EachQuestionIsWhole
each_question_is_whole s node n = (
  is_whole s node (IsConnected n) ample (of_handle s (subject s.fixed node n) (asked_of s false)) (refl, refl)
      (of_handle_leads (NoPayload s.fixed) s node (begins_at s ample (IsConnected n)) (asked_of s false) (subject s.fixed node n) tt tt (λ p. refl)
      (λ h. checks s.fixed s node h false (states_of s.fixed h))),
  is_whole s node (HasHint n) ample (of_handle s (subject s.fixed node n) (asked_of s true)) (refl, refl)
      (of_handle_leads (NoPayload s.fixed) s node (begins_at s ample (HasHint n)) (asked_of s true) (subject s.fixed node n) tt tt (λ p. refl)
      (λ h. checks s.fixed s node h true (states_of s.fixed h))),
)

-- ---- hints

hints : (f : Fixed) (s : State) (node : ℕ) (h : Handle) (ws : List Way) → Leads (NoPayload f) s node (hinting h ws) (Tells Done, hinted_at s h.request ws)
hints f s node h [] = at_end (NoPayload f) s node (Tells Done) tt
hints f s node h (w ∷ ws) =
    let t : State = moved s (Hint w h.request) in
    one_more (NoPayload f) s node (Hinting h (w ∷ ws)) (Hint w h.request) _ tt (is_in-first w ws, eqb-refl h.request)
    (subst (λ (d : Doing). Leads (NoPayload f) t node d (Tells Done, hinted_at t h.request ws)) (sym (first_way (hinting h) w ws)) (hints f t node h ws))

pub each_hint_is_whole : EachHintIsWhole
each_hint_is_whole s node n =
    is_whole s node (SetHint n) ample (of_handle s (subject s.fixed node n) (hinted_from s)) (refl, refl)
    (of_handle_leads (NoPayload s.fixed) s node (begins_at s ample (SetHint n)) (hinted_from s) (subject s.fixed node n) tt tt (λ p. refl)
    (λ h. hints s.fixed s node h (states_of s.fixed h)))
