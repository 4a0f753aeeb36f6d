-- A node alone brings its call to the end.
use Rattle.std.specs.Prelude.{◌≡◌, ℕ, ◌+◌, Bool, true, false, not, if◌then◌else◌, ◌==◌, nat_lt, nat_le, List, [], ◌∷◌, ◌++◌, length, map, Option, Some, None, refl}
use Rattle.std.specs.List.{list_any}
use Rattle.std.proofs.Common.{sym, subst, ap, ap₂, ◌∙◌, true≢false, arith}
use Rattle.iox_model.specs.declared.kind.Role.TheVariants.{Client, Server}
use Rattle.iox_model.specs.declared.kind.Kind.TheVariants.{ActiveRequest}
use Rattle.iox_model.specs.declared.way.Way.{Way}
use Rattle.iox_model.specs.declared.reply.Refusal.TheVariants.{ExceedsMaxActiveRequests, UnableToDeliver, OutOfMemory}
use Rattle.iox_model.specs.declared.reply.Reply.TheVariants.{Answer}
use Rattle.iox_model.specs.Receives.{visiting, stale, took_response, took_request, took, seeking, is_at_limit, state_of_request}
use Rattle.iox_model.specs.Releases.{closing}
use Rattle.iox_model.specs.Doings.{refused, Receiver, Sending, Outcome, Tells, Loans, Sends, FailsToSend, Receives, Drops, Doing, Ended, Loaning, Asking, Emptying, Looking, Opening, Delivering, Evicted, Visiting, Again, Judging, Stale, Closing, Returning, Leaving, Checking, Hinting, Seeking}
use Rattle.iox_model.specs.Settings.{is_client}
use Rattle.iox_model.specs.States.{Handle, State}
use Rattle.iox_model.specs.Requests.{targets, to_open, opening, looking, emptying, sending_of, sends_request, is_active_spent, is_over, may_evict}
use Rattle.iox_model.specs.Handles.{same_kind, is_request_loan, way_of, own_state}
use Rattle.iox_model.specs.Maps.{is_empty, first_of, rest_of, has_number, same_way, without_way, not_in}
use Rattle.iox_model.specs.WholeCalls.{moved_by, left_by, MayCome}
use Rattle.iox_model.specs.Moments.{Holds, moved, Moment, Deliver, Evict, Take, GiveBack, GetBack, SeesEmpty, SeesWaiting, SeesFull, SeesRoom, SeesNoneBack, Open, Close, Hint, Look}
use Rattle.iox_model.specs.Messages.{request_way, names, Message}
use Rattle.iox_model.specs.Looks.{checking, hinting, is_shown}
use Rattle.iox_model.specs.Outstandings.{kept, is_dry}
use Rattle.iox_model.specs.Responses.{sends, sends_response, loaning}
use Rattle.iox_model.specs.Transitions.{next, ends}
use Rattle.iox_model.specs.Peers.{forgot_port, others, buffer_on}
use Rattle.iox_laws.proofs.WeaveLaws.MapLemmas.{either, same_way-refl, is_in-first, eqb-refl, put_there}
use Rattle.iox_laws.proofs.WeaveLaws.Plays.{has_room, is_full}
use Rattle.iox_laws.proofs.WeaveLaws.WholeLemmas.{moved-fixed}
use Rattle.iox_laws.proofs.WeaveWorlds.PortLemmas.{AreDistinctPorts}
use Rattle.iox_laws.proofs.WeaveWorlds.Sound.{SoundCall}
use Rattle.iox_laws.proofs.WeaveWorlds.MovesFit.{moved_sound}
use Rattle.iox_laws.proofs.WeaveWorlds.GoesOn.{first_there}
use Rattle.iox_laws.proofs.WeaveLedger.Truths.{both_true, by_cases}

-- some moments lead the call to its end
abbrev pub CanEnd : State → ℕ → Doing → Type 0
CanEnd s node d = (ms : List Moment) × MayCome s node d ms × (o : Outcome) × (ends (moved_by s ms) (left_by s node d ms) ≡ Some o)

now : (s : State) (node : ℕ) (d : Doing) (o : Outcome) → ends s d ≡ Some o → CanEnd s node d
now s node d o e = ([], tt, o, e)

step : (s : State) (node : ℕ) (d : Doing) (m : Moment) → Holds s m → (next s node d m).condition → CanEnd (moved s m) node (next s node d m).after
    → CanEnd s node d
step s node d m h c e = (m ∷ e.0, (h, c, e.1), e.2, e.3)

-- what is left to do can be done
abbrev Ready : State → ℕ → Doing → Type 0
Ready s node d = AreDistinctPorts s.fixed × SoundCall s node (Some d)

ready_moved : (s : State) (node : ℕ) (d : Doing) (m : Moment) → Ready s node d → Holds s m → (next s node d m).condition
    → Ready (moved s m) node (next s node d m).after
ready_moved s node d m p h c = (subst AreDistinctPorts (sym (moved-fixed s m)) p.0, moved_sound s node d m p.0 p.1 h c)

without-first : (w : Way) (left : List Way) → without_way w (w ∷ left) ≡ left
without-first w left = rw (same_way-refl w) refl

-- ---- states and looks

closing_ends : (s : State) (node : ℕ) (h : Handle) (left : List Way) → CanEnd s node (closing h left)
closing_ends s node h [] = now s node (Ended (Drops h)) (Drops h) refl
closing_ends s node h (w ∷ left) =
    step s node (Closing h (w ∷ left)) (Close w h.request) tt (is_in-first w left, eqb-refl h.request)
    (subst (λ l. CanEnd (moved s (Close w h.request)) node (closing h l)) (sym (without-first w left)) (closing_ends (moved s (Close w h.request)) node h left))

hinting_ends : (s : State) (node : ℕ) (h : Handle) (left : List Way) → CanEnd s node (hinting h left)
hinting_ends s node h [] = now s node (hinting h []) _ refl
hinting_ends s node h (w ∷ left) =
    step s node (Hinting h (w ∷ left)) (Hint w h.request) tt (is_in-first w left, eqb-refl h.request)
    (subst (λ l. CanEnd (moved s (Hint w h.request)) node (hinting h l)) (sym (without-first w left)) (hinting_ends (moved s (Hint w h.request)) node h left))

checking_ends : (s : State) (node : ℕ) (h : Handle) (hinted : Bool) (left : List Way) → CanEnd s node (checking h hinted left)
checking_ends s node h hinted [] = now s node (checking h hinted []) _ refl
checking_ends s node h hinted (w ∷ left) =
    step s node (Checking h hinted (w ∷ left)) (Look w (s.request_state w)) refl (is_in-first w left)
    (either (CanEnd s node) (is_shown h hinted (s.request_state w)) (Ended (Tells (Answer true))) (checking h hinted (without_way w (w ∷ left)))
    (λ u. now s node (Ended (Tells (Answer true))) (Tells (Answer true)) refl)
    (λ u. subst (λ l. CanEnd s node (checking h hinted l)) (sym (without-first w left)) (checking_ends s node h hinted left)))

seeking_ends : (s : State) (node : ℕ) (left : List Way) → CanEnd s node (seeking left)
seeking_ends s node [] = now s node (seeking []) _ refl
seeking_ends s node (w ∷ left) =
    by_cases (is_empty (s.waiting w))
    (λ e. step s node (Seeking (w ∷ left)) (SeesEmpty w) e (is_in-first w left)
    (subst (λ l. CanEnd s node (seeking l)) (sym (without-first w left)) (seeking_ends s node left)))
    (λ e. step s node (Seeking (w ∷ left)) (SeesWaiting w) (ap not e) (is_in-first w left)
    (now s node (Ended (Tells (Answer true))) (Tells (Answer true)) refl))

leaving_ends : (s : State) (node : ℕ) (h : Handle) → CanEnd s node (Leaving h)
leaving_ends s node h =
    step s node (Leaving h) (Close (own_state h) h.request) tt
    (both_true (same_way (own_state h) (own_state h)) (h.request == h.request) (same_way-refl (own_state h)) (eqb-refl h.request))
    (now (moved s (Close (own_state h) h.request)) node (Ended (Drops h)) (Drops h) refl)

returning_ends : (s : State) (node : ℕ) (h : Handle) → CanEnd s node (Returning h)
returning_ends s node h =
    let t : State = moved s (GiveBack (way_of h) h.message.serial) in
    step s node (Returning h) (GiveBack (way_of h) h.message.serial) tt
    (both_true (same_way (way_of h) (way_of h)) (h.message.serial == h.message.serial) (same_way-refl (way_of h)) (eqb-refl h.message.serial))
    (either (CanEnd t node) (same_kind h.kind ActiveRequest) (Leaving h) (Ended (Drops h)) (λ u. leaving_ends t node h)
    (λ u. now t node (Ended (Drops h)) (Drops h) refl))

-- ---- receives

-- once a receive took a message, and continues where that does not fit
stale_ends : (s : State) (node : ℕ) (x : Receiver) (w : Way) (m : Message) (left : List Way) (seen : Bool)
    → ((t : State) → t.waiting w ≡ s.waiting w → CanEnd t node (Again x w left seen)) → CanEnd s node (Stale x w m left seen)
stale_ends s node x w m left seen again =
    step s node (Stale x w m left seen) (GiveBack w m.serial) tt (both_true (same_way w w) (m.serial == m.serial) (same_way-refl w) (eqb-refl m.serial))
    (again (moved s (GiveBack w m.serial)) refl)

judging_ends : (s : State) (node : ℕ) (x : Receiver) (w : Way) (m : Message) (left : List Way) (seen : Bool)
    → ((t : State) → t.waiting w ≡ s.waiting w → CanEnd t node (Again x w left seen)) → CanEnd s node (Judging x w m left seen)
judging_ends s node x w m left seen again =
    step s node (Judging x w m left seen) (Look (state_of_request w m) (s.request_state (state_of_request w m))) refl (same_way-refl (state_of_request w m))
    (either (CanEnd s node) (names (s.request_state (state_of_request w m)) m.request) (Ended (Receives x w m)) (Stale x w m left seen)
    (λ k. now s node (Ended (Receives x w m)) (Receives x w m) refl) (λ k. stale_ends s node x w m left seen again))

took_ends : (s : State) (node : ℕ) (x : Receiver) (w : Way) (m : Message) (left : List Way) (seen : Bool)
    → ((t : State) → t.waiting w ≡ s.waiting w → CanEnd t node (Again x w left seen)) → CanEnd s node (took s.fixed node x w m left seen)
took_ends s node x w m left seen again =
    either (CanEnd s node) (is_client x.role) (took_response s.fixed node x w m left seen) (took_request s.fixed x w m left seen)
    (λ u. either (CanEnd s node) (m.request == x.request) (Ended (Receives x w m)) (stale s.fixed node x w m left seen)
    (λ v. now s node (Ended (Receives x w m)) (Receives x w m) refl)
    (λ v. either (CanEnd s node) (forgot_port s.fixed node w.sender) (Again x w left seen) (Stale x w m left seen) (λ k. again s refl)
    (λ k. stale_ends s node x w m left seen again)))
    (λ u. either (CanEnd s node) s.fixed.limits.fire_and_forget (Ended (Receives x w m)) (Judging x w m left seen)
    (λ v. now s node (Ended (Receives x w m)) (Receives x w m) refl)
    (λ v. judging_ends s node x w m left seen again))

again_ends : (node : ℕ) (x : Receiver) (w : Way) (left : List Way) (seen : Bool) → ((t : State) → CanEnd t node (visiting x (without_way w left) seen))
    → (ms : List Message) (s : State) → s.waiting w ≡ ms → CanEnd s node (Again x w left seen)
again_ends node x w left seen later [] s e = step s node (Again x w left seen) (SeesEmpty w) (ap is_empty e) (same_way-refl w) (later s)
again_ends node x w left seen later (m ∷ ms) s e =
    let t : State = moved s (Take w m) in
    let rest : t.waiting w ≡ ms = put_there s.waiting w (rest_of (s.waiting w)) ∙ ap rest_of e in
    step s node (Again x w left seen) (Take w m) (ap first_of e) (same_way-refl w)
    (took_ends t node x w m left seen (λ u same. again_ends node x w left seen later ms u (same ∙ rest)))

visiting_ends : (node : ℕ) (x : Receiver) (left : List Way) (s : State) (seen : Bool) → CanEnd s node (visiting x left seen)
visiting_ends node x [] s seen = now s node (visiting x [] seen) _ refl
visiting_ends node x (w ∷ left) s seen =
    visit_ends (s.waiting w) refl (λ t b. subst (λ l. CanEnd t node (visiting x l b)) (sym (without-first w left)) (visiting_ends node x left t b))
  where
    visit_ends : (ms : List Message) → s.waiting w ≡ ms → ((t : State) (b : Bool) → CanEnd t node (visiting x (without_way w (w ∷ left)) b))
        → CanEnd s node (Visiting x (w ∷ left) seen)
    visit_ends [] e later = step s node (Visiting x (w ∷ left) seen) (SeesEmpty w) (ap is_empty e) (is_in-first w left) (later s seen)
    visit_ends (m ∷ ms) e later =
        by_cases (is_at_limit s.fixed w)
        (λ limit. step s node (Visiting x (w ∷ left) seen) (SeesWaiting w) (ap (λ xs. not (is_empty xs)) e) (is_in-first w left, limit) (later s true))
        (λ below. step s node (Visiting x (w ∷ left) seen) (Take w m) (ap first_of e) (is_in-first w left, ap not below)
        (took_ends (moved s (Take w m)) node x w m (w ∷ left) seen
        (λ u same. again_ends node x w (w ∷ left) seen (λ t. later t seen) (u.waiting w) u refl)))

goes_again : (s : State) (node : ℕ) (x : Receiver) (w : Way) (left : List Way) (seen : Bool) → CanEnd s node (Again x w left seen)
goes_again s node x w left seen = again_ends node x w left seen (λ t. visiting_ends node x (without_way w left) t seen) (s.waiting w) s refl

-- ---- sends

-- a call that may evict does so first
evicts_first : (node : ℕ) (x : Sending) (left : List Way) (count : ℕ)
    → ((t : State) (last : Option Way) → Ready t node (Delivering x last left count) → is_over t last ≡ false → CanEnd t node (Delivering x last left count))
    → (s : State) (last : Option Way) → Ready s node (Delivering x last left count) → CanEnd s node (Delivering x last left count)
evicts_first node x left count later s None p = later s None p refl
evicts_first node x left count later s (Some v) p =
    by_cases (is_over s (Some v))
    (λ over.
    let d : Doing = Delivering x (Some v) left count in
    let t : State = moved s (Evict v) in
    let q : Ready t node (Evicted x v left count) = ready_moved s node d (Evict v) p over (same_way-refl v) in
    let k : (k : ℕ) × (first_of (t.in_hand v ++ t.returned v) ≡ Some k) = first_there (t.in_hand v) (t.returned v) q.1.1.5 in
    step s node d (Evict v) over (same_way-refl v)
    (step t node (Evicted x v left count) (GetBack v k.0) k.1 (same_way-refl v)
    (later (moved t (GetBack v k.0)) None (ready_moved t node (Evicted x v left count) (GetBack v k.0) q k.1 (same_way-refl v)) refl)))
    (λ calm. later s (Some v) p calm)

delivering_ends : (node : ℕ) (x : Sending) (left : List Way) (s : State) (last : Option Way) (count : ℕ)
    → Ready s node (Delivering x last left count) → is_over s last ≡ false → CanEnd s node (Delivering x last left count)
delivering_ends node x [] s last count p calm =
    now s node (Delivering x last [] count) (Sends x.loan x.copied count) (ap (λ (b : Bool). if b then None else Some (Sends x.loan x.copied count)) calm)
delivering_ends node x (v ∷ left) s last count p calm =
    let d : Doing = Delivering x last (v ∷ left) count in
    let m : Moment = Deliver v x.loan.message in
    let h : has_room s v ≡ true = p.1.1.3 v (is_in-first v left) in
    let c : (next s node d m).condition = (is_in-first v left, refl, ap not calm) in
    step s node d m h c
    (subst (λ l. Ready (moved s m) node (Delivering x (may_evict x v) l (count + 1)) → CanEnd (moved s m) node (Delivering x (may_evict x v) l (count + 1)))
    (sym (without-first v left))
    (evicts_first node x left (count + 1) (λ t last' q f. delivering_ends node x left t last' (count + 1) q f) (moved s m) (may_evict x v))
    (ready_moved s node d m p h c))

opening_ends : (node : ℕ) (x : Sending) (full ways : List Way) (s : State) → Ready s node (opening x ways full) → CanEnd s node (opening x ways full)
opening_ends node x full [] s p = delivering_ends node x (not_in full (targets x)) s None 0 p refl
opening_ends node x full (w ∷ left) s p =
    let d : Doing = Opening x (w ∷ left) full in
    let m : Moment = Open w x.loan.request in
    let c : (next s node d m).condition = (is_in-first w left, eqb-refl x.loan.request) in
    step s node d m tt c
    (subst (λ l. Ready (moved s m) node (opening x l full) → CanEnd (moved s m) node (opening x l full)) (sym (without-first w left))
    (opening_ends node x full left (moved s m)) (ready_moved s node d m p tt c))

less_is : (a b : ℕ) → nat_le b a ≡ false → nat_lt a b ≡ true
less_is a b e = grind (arith)

looking_ends : (node : ℕ) (x : Sending) (left full : List Way) (s : State) → Ready s node (looking x left full) → CanEnd s node (looking x left full)
looking_ends node x [] full s p =
    either (λ d. Ready s node d → CanEnd s node d) (list_any x.fails full) (Ended (FailsToSend x.loan x.copied UnableToDeliver)) (opening x (to_open x) full)
    (λ u q. now s node (Ended (FailsToSend x.loan x.copied UnableToDeliver)) (FailsToSend x.loan x.copied UnableToDeliver) refl)
    (λ u. opening_ends node x full (to_open x) s) p
looking_ends node x (w ∷ left) full s p =
    let d : Doing = Looking x (w ∷ left) full in
    by_cases (is_full s w)
    (λ e. step s node d (SeesFull w) e (is_in-first w left)
    (subst (λ l. Ready s node (looking x l (w ∷ full)) → CanEnd s node (looking x l (w ∷ full))) (sym (without-first w left))
    (looking_ends node x left (w ∷ full) s) (ready_moved s node d (SeesFull w) p e (is_in-first w left))))
    (λ e.
    let h : Holds s (SeesRoom w) = less_is (length (s.waiting w)) (buffer_on s.fixed w) e in
    step s node d (SeesRoom w) h (is_in-first w left)
    (subst (λ l. Ready s node (looking x l full) → CanEnd s node (looking x l full)) (sym (without-first w left))
    (looking_ends node x left full s) (ready_moved s node d (SeesRoom w) p h (is_in-first w left))))

-- a call that gets back on a way for as long as something is there
gets_back_all : (node : ℕ) (d : Doing) (w : Way) → ((s : State) (k : ℕ) → (next s node d (GetBack w k)).condition × ((next s node d (GetBack w k)).after ≡ d))
    → ((s : State) → Ready s node d → is_empty (s.returned w) ≡ true → CanEnd s node d)
    → (ks : List ℕ) (s : State) → Ready s node d → s.in_hand w ≡ [] → s.returned w ≡ ks → CanEnd s node d
gets_back_all node d w goes later [] s p hand e = later s p (ap is_empty e)
gets_back_all node d w goes later (k ∷ ks) s p hand e =
    let t : State = moved s (GetBack w k) in
    let h : first_of (s.in_hand w ++ s.returned w) ≡ Some k = ap₂ (λ a b. first_of (a ++ b)) hand e in
    let g : (next s node d (GetBack w k)).condition × ((next s node d (GetBack w k)).after ≡ d) = goes s k in
    step s node d (GetBack w k) h g.0
    (subst (CanEnd t node) (sym g.1)
    (gets_back_all node d w goes later ks t (subst (Ready t node) g.1 (ready_moved s node d (GetBack w k) p h g.0)) (put_there s.in_hand w [])
    (put_there s.returned w (if is_empty (s.in_hand w) then rest_of (s.returned w) else s.returned w)
    ∙ ap₂ (λ a b. if is_empty a then rest_of b else b) hand e)))

gets_back : (node : ℕ) (d : Doing) (w : Way) → ((s : State) (k : ℕ) → (next s node d (GetBack w k)).condition × ((next s node d (GetBack w k)).after ≡ d))
    → ((s : State) → Ready s node d → is_empty (s.returned w) ≡ true → CanEnd s node d)
    → (ks : List ℕ) (s : State) → Ready s node d → s.in_hand w ≡ ks → CanEnd s node d
gets_back node d w goes later [] s p hand = gets_back_all node d w goes later (s.returned w) s p hand refl
gets_back node d w goes later (k ∷ ks) s p hand =
    let t : State = moved s (GetBack w k) in
    let h : first_of (s.in_hand w ++ s.returned w) ≡ Some k = ap (λ a. first_of (a ++ s.returned w)) hand in
    let g : (next s node d (GetBack w k)).condition × ((next s node d (GetBack w k)).after ≡ d) = goes s k in
    step s node d (GetBack w k) h g.0
    (subst (CanEnd t node) (sym g.1)
    (gets_back_all node d w goes later (t.returned w) t (subst (Ready t node) g.1 (ready_moved s node d (GetBack w k) p h g.0))
    (put_there s.in_hand w []) refl))

emptying_ends : (node : ℕ) (x : Sending) (left : List Way) (s : State) → Ready s node (emptying x left) → CanEnd s node (emptying x left)
emptying_ends node x [] s p =
    either (λ d. Ready s node d → CanEnd s node d) x.overflow (opening x (to_open x) []) (looking x (targets x) [])
    (λ u. opening_ends node x [] (to_open x) s) (λ u. looking_ends node x (targets x) [] s) p
emptying_ends node x (w ∷ left) s p =
    gets_back node (Emptying x (w ∷ left)) w (λ t k. (is_in-first w left, refl))
    (λ t q e. step t node (Emptying x (w ∷ left)) (SeesNoneBack w) e (is_in-first w left)
    (subst (λ l. Ready t node (emptying x l) → CanEnd t node (emptying x l)) (sym (without-first w left)) (emptying_ends node x left t)
    (ready_moved t node (Emptying x (w ∷ left)) (SeesNoneBack w) q e (is_in-first w left)))) (s.in_hand w) s p refl

asking_ends : (node : ℕ) (x : Sending) (s : State) → Ready s node (Asking x) → CanEnd s node (Asking x)
asking_ends node x s p =
    let w : Way = own_state x.loan in
    step s node (Asking x) (Look w (s.request_state w)) refl (same_way-refl w)
    (either (λ d. Ready s node d → CanEnd s node d) (names (s.request_state w) x.loan.request) (emptying x (targets x)) (Ended (Sends x.loan x.copied 0))
    (λ u. emptying_ends node x (targets x) s) (λ u q. now s node (Ended (Sends x.loan x.copied 0)) (Sends x.loan x.copied 0) refl)
    (ready_moved s node (Asking x) (Look w (s.request_state w)) p refl (same_way-refl w)))

sends_end : (node : ℕ) (s : State) (h : Handle) (copied : Bool) → Ready s node (sends s.fixed h copied) → CanEnd s node (sends s.fixed h copied)
sends_end node s h copied =
    let to : List ℕ = others s.fixed h.node Server in
    let P : Doing → Type 0 = λ d. Ready s node d → CanEnd s node d in
    either P (is_request_loan h.kind) (sends_request s.fixed h copied to) (sends_response s.fixed h copied)
    (λ u. either P (is_active_spent s.fixed h) (Ended (FailsToSend h copied ExceedsMaxActiveRequests))
    (emptying (sending_of s.fixed h copied to) (map (request_way h.port) to))
    (λ v q. now s node (Ended (FailsToSend h copied ExceedsMaxActiveRequests)) (FailsToSend h copied ExceedsMaxActiveRequests) refl)
    (λ v. emptying_ends node (sending_of s.fixed h copied to) (map (request_way h.port) to) s))
    (λ u. either P (has_number h.client (others s.fixed h.node Client)) (Asking (sending_of s.fixed h copied (h.client ∷ []))) (Ended (Sends h copied 0))
    (λ v. asking_ends node (sending_of s.fixed h copied (h.client ∷ [])) s) (λ v q. now s node (Ended (Sends h copied 0)) (Sends h copied 0) refl))

loaning_ends : (node : ℕ) (copies : Bool) (h : Handle) (left : List Way) (s : State) → Ready s node (loaning s copies h left)
    → CanEnd s node (loaning s copies h left)
loaning_ends node copies h [] s =
    let P : Doing → Type 0 = λ d. Ready s node d → CanEnd s node d in
    either P (is_dry s.fixed h.port (kept s h.port [])) (refused OutOfMemory) (if copies then sends s.fixed h true else Ended (Loans h))
    (λ u q. now s node (refused OutOfMemory) _ refl)
    (λ u. either P copies (sends s.fixed h true) (Ended (Loans h)) (λ v. sends_end node s h true) (λ v q. now s node (Ended (Loans h)) (Loans h) refl))
loaning_ends node copies h (w ∷ left) s = λ p.
    gets_back node (Loaning copies h (w ∷ left)) w (λ t k. (is_in-first w left, refl))
    (λ t q e. step t node (Loaning copies h (w ∷ left)) (SeesNoneBack w) e (is_in-first w left)
    (subst (λ l. Ready t node (loaning t copies h l) → CanEnd t node (loaning t copies h l)) (sym (without-first w left)) (loaning_ends node copies h left t)
    (ready_moved t node (Loaning copies h (w ∷ left)) (SeesNoneBack w) q e (is_in-first w left)))) (s.in_hand w) s p refl

-- ---- all that a call may have to do

pub ends_alone : (s : State) (node : ℕ) (d : Doing) → AreDistinctPorts s.fixed → SoundCall s node (Some d) → CanEnd s node d
ends_alone s node (Ended o) ports p = now s node (Ended o) o refl
ends_alone s node (Loaning copies h []) ports p = absurd (true≢false p.1.2)
ends_alone s node (Loaning copies h (w ∷ left)) ports p = loaning_ends node copies h (w ∷ left) s (ports, p)
ends_alone s node (Asking x) ports p = asking_ends node x s (ports, p)
ends_alone s node (Emptying x []) ports p = absurd (true≢false p.1.2)
ends_alone s node (Emptying x (w ∷ left)) ports p = emptying_ends node x (w ∷ left) s (ports, p)
ends_alone s node (Looking x [] full) ports p = absurd (true≢false p.1.1)
ends_alone s node (Looking x (w ∷ left) full) ports p = looking_ends node x (w ∷ left) full s (ports, p)
ends_alone s node (Opening x [] full) ports p = absurd (true≢false p.1.1)
ends_alone s node (Opening x (w ∷ left) full) ports p = opening_ends node x full (w ∷ left) s (ports, p)
ends_alone s node (Delivering x last left count) ports p =
    evicts_first node x left count (λ t last' q calm. delivering_ends node x left t last' count q calm) s last (ports, p)
ends_alone s node (Evicted x v left count) ports p =
    let d : Doing = Evicted x v left count in
    let k : (k : ℕ) × (first_of (s.in_hand v ++ s.returned v) ≡ Some k) = first_there (s.in_hand v) (s.returned v) p.1.5 in
    step s node d (GetBack v k.0) k.1 (same_way-refl v)
    (delivering_ends node x left (moved s (GetBack v k.0)) None count (ready_moved s node d (GetBack v k.0) (ports, p) k.1 (same_way-refl v)) refl)
ends_alone s node (Visiting x [] seen) ports p = absurd (true≢false p.1.1)
ends_alone s node (Visiting x (w ∷ left) seen) ports p = visiting_ends node x (w ∷ left) s seen
ends_alone s node (Again x w left seen) ports p = goes_again s node x w left seen
ends_alone s node (Judging x w m left seen) ports p = judging_ends s node x w m left seen (λ t same. goes_again t node x w left seen)
ends_alone s node (Stale x w m left seen) ports p = stale_ends s node x w m left seen (λ t same. goes_again t node x w left seen)
ends_alone s node (Closing h []) ports p = absurd (true≢false p.1)
ends_alone s node (Closing h (w ∷ left)) ports p = closing_ends s node h (w ∷ left)
ends_alone s node (Returning h) ports p = returning_ends s node h
ends_alone s node (Leaving h) ports p = leaving_ends s node h
ends_alone s node (Checking h hinted []) ports p = absurd (true≢false p.1)
ends_alone s node (Checking h hinted (w ∷ left)) ports p = checking_ends s node h hinted (w ∷ left)
ends_alone s node (Hinting h []) ports p = absurd (true≢false p.1)
ends_alone s node (Hinting h (w ∷ left)) ports p = hinting_ends s node h (w ∷ left)
ends_alone s node (Seeking []) ports p = absurd (true≢false p.1)
ends_alone s node (Seeking (w ∷ left)) ports p = seeking_ends s node (w ∷ left)
