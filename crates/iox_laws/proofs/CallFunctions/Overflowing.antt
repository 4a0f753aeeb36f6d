-- What `sent_over_by` says is a whole call.
use Rattle.std.specs.Prelude.{◌≡◌, ℕ, ◌+◌, Bool, true, false, not, ◌||◌, if◌then◌else◌, nat_lt, List, [], ◌∷◌, ◌++◌, length, map, Option, Some, None, refl, take}
use Rattle.std.proofs.Common.{sym, subst, ap, ap₂, ◌∙◌, true≢false, arith}
use Rattle.iox_model.specs.declared.kind.Role.TheVariants.{Server}
use Rattle.iox_model.specs.declared.way.Way.{Way}
use Rattle.iox_model.specs.declared.call.Call.TheVariants.{Send}
use Rattle.iox_laws.specs.CallFunctions.Answers.{NoneInHand}
use Rattle.iox_laws.specs.CallFunctions.Sends.{without_all, emptied_at, emptied, opened_at}
use Rattle.iox_laws.specs.CallFunctions.Overflows.{NotOver, evicted_from, pushed, pushed_to, sent_over, sent_over_to, EachOverflowingSendIsWhole}
use Rattle.iox_laws.proofs.CallFunctions.Emptyings.{of_send, empties_all}
use Rattle.iox_laws.proofs.CallFunctions.Leads.{NoPayload, Leads, is_whole, ample}
use Rattle.iox_laws.proofs.CallFunctions.Sent.{request_targets, unless_spent, request_starts}
use Rattle.iox_laws.proofs.CallFunctions.Sending.{opens}
use Rattle.iox_laws.proofs.CallFunctions.Walks.{Walks, stays, goes, joins}
use Rattle.iox_model.specs.Doings.{Sending, Sends, Doing, Emptying, Delivering, Evicted}
use Rattle.iox_model.specs.Weaves.{over}
use Rattle.iox_model.specs.Settings.{overflow_of}
use Rattle.iox_model.specs.States.{Handle, Fixed, State}
use Rattle.iox_model.specs.Requests.{targets, to_open, sending_of, opening, looking, emptying, sends_request, may_evict, is_over}
use Rattle.iox_model.specs.Handles.{is_request_loan}
use Rattle.iox_model.specs.Maps.{is_empty, first_of, rest_of, same_way, put, has_way, without_way, not_in, AreDistinctWays}
use Rattle.iox_model.specs.Moments.{is_overfull, Holds, moved, Deliver, Evict, GetBack, Open}
use Rattle.iox_model.specs.Messages.{request_way, serials_of, Message}
use Rattle.iox_model.specs.Peers.{role_at, others, buffer_on, overflows_on}
use Rattle.iox_laws.proofs.WeaveLaws.MapLemmas.{either, same_way-refl, is_in-first, same_way-flip, put_twice, put_there, put-else, put_same}

-- ---- one eviction

abbrev first_serial : Message → List ℕ
first_serial m = m.serial ∷ []

-- evicted and got back
evicted_is : (t : State) (w : Way) (m : Message) (ms : List Message) → t.in_hand w ≡ [] → t.waiting w ≡ m ∷ ms
    → moved (moved t (Evict w)) (GetBack w m.serial) ≡ evicted_from t w
evicted_is t w m ms hand e =
    let u : State = moved t (Evict w) in
    let held : u.in_hand w ≡ m.serial ∷ [] = put_there t.in_hand w (serials_of (take 1 (t.waiting w))) ∙ ap (λ xs. serials_of (take 1 xs)) e in
    λ i. record t {
      waiting = put t.waiting w (rest_of (t.waiting w));
      in_hand = (put_twice t.in_hand w (serials_of (take 1 (t.waiting w))) [] ∙ put_same t.in_hand w [] hand) i;
      returned = (ap (λ (xs : List ℕ). put t.returned w (if is_empty xs then rest_of (t.returned w) else t.returned w)) held
          ∙ put_same t.returned w (t.returned w) refl) i;
      delivered = put t.delivered w (sym (ap (λ xs. without_all (t.delivered w) (serials_of (take 1 xs))) e) i);
    }

evicts : (t : State) (node : ℕ) (x : Sending) (w : Way) (ws : List Way) (count : ℕ) (ms : List Message) → t.in_hand w ≡ [] → t.waiting w ≡ ms
    → is_overfull t w ≡ true → Walks t node (Delivering x (Some w) ws count) (evicted_from t w) (Delivering x None ws count)
evicts t node x w ws count [] hand e over =
    absurd (true≢false (sym over ∙ ap (λ (xs : List Message). nat_lt (buffer_on t.fixed w) (length xs)) e ∙ never (buffer_on t.fixed w)))
  where
    never : (n : ℕ) → nat_lt n 0 ≡ false
    never n = grind (arith)
evicts t node x w ws count (m ∷ ms) hand e over =
    let u : State = moved t (Evict w) in
    let held : u.in_hand w ≡ m.serial ∷ [] = put_there t.in_hand w (serials_of (take 1 (t.waiting w))) ∙ ap (λ xs. serials_of (take 1 xs)) e in
    goes t node (Delivering x (Some w) ws count) (Evict w) _ _ over (same_way-refl w)
    (goes u node (Evicted x w ws count) (GetBack w m.serial) _ _ (ap (λ (xs : List ℕ). first_of (xs ++ u.returned w)) held) (same_way-refl w)
    (subst (λ (v : State). Walks (moved u (GetBack w m.serial)) node (Delivering x None ws count) v (Delivering x None ws count))
    (evicted_is t w m ms hand e) (stays _ _ _)))

-- ---- all deliveries

or_parts : (a b : Bool) → (a || b) ≡ false → (a ≡ false) × (b ≡ false)
or_parts true b e = absurd (true≢false e)
or_parts false b e = (refl, e)

-- what is done on one way leaves the others
pushed-else : (s : State) (m : Message) (w v : Way) → same_way v w ≡ false → (pushed s m w).waiting v ≡ s.waiting v
pushed-else s m w v other =
    let t : State = moved s (Deliver w m) in
    either (λ (u : State). u.waiting v ≡ s.waiting v) (is_overfull t w) (evicted_from t w) t
    (λ e. put-else t.waiting w (rest_of (t.waiting w)) v other ∙ put-else s.waiting w (s.waiting w ++ m ∷ []) v other)
    (λ e. put-else s.waiting w (s.waiting w ++ m ∷ []) v other)

pushed-fixed : (s : State) (m : Message) (w : Way) → (pushed s m w).fixed ≡ s.fixed
pushed-fixed s m w =
    let t : State = moved s (Deliver w m) in
    either (λ (u : State). u.fixed ≡ s.fixed) (is_overfull t w) (evicted_from t w) t (λ e. refl) (λ e. refl)

pushed-in_hand : (s : State) (m : Message) (w : Way) → (pushed s m w).in_hand ≡ s.in_hand
pushed-in_hand s m w =
    let t : State = moved s (Deliver w m) in
    either (λ (u : State). u.in_hand ≡ s.in_hand) (is_overfull t w) (evicted_from t w) t (λ e. refl) (λ e. refl)

not_over_after : (s : State) (m : Message) (w : Way) (ws : List Way) → has_way w ws ≡ false → NotOver s ws → NotOver (pushed s m w) ws
not_over_after s m w [] apart p = tt
not_over_after s m w (v ∷ vs) apart p =
    let parts : (same_way w v ≡ false) × (has_way w vs ≡ false) = or_parts (same_way w v) (has_way w vs) apart in (
      ap₂ (λ (f : Fixed) (xs : List Message). nat_lt (buffer_on f v) (length xs)) (pushed-fixed s m w)
          (pushed-else s m w v (same_way-flip v w (same_way v w) parts.0 refl)) ∙ p.0,
      not_over_after s m w vs parts.1 p.1,
    )

has_room_over : (b n : ℕ) → nat_lt b n ≡ false → nat_lt n (b + 1) ≡ true
has_room_over b n e = grind (arith)

-- all are delivered to; nothing is left to evict
abbrev Ends : State → ℕ → Doing → State → Sending → ℕ → Type 0
Ends s node d t x count = (last : Option Way) × Walks s node d t (Delivering x last [] count) × (is_over t last ≡ false)

-- the ways overflow
abbrev pub Overflow : State → List Way → Type 0
Overflow s [] = Unit {0}
Overflow s (w ∷ ws) = (overflows_on s.fixed w ≡ true) × Overflow s ws

overflow_after : (s t : State) (ws : List Way) → t.fixed ≡ s.fixed → Overflow s ws → Overflow t ws
overflow_after s t [] e p = tt
overflow_after s t (w ∷ ws) e p = (ap (λ (f : Fixed). overflows_on f w) e ∙ p.0, overflow_after s t ws e p.1)

first_left : (x : Sending) (last : Option Way) (w : Way) (ws : List Way) (count : ℕ)
    → Delivering x last (without_way w (w ∷ ws)) count ≡ Delivering x last ws count
first_left x last w ws count = ap (λ (b : Bool). Delivering x last (if b then ws else w ∷ without_way w ws) count) (same_way-refl w)

push_one : (t : State) (node : ℕ) (x : Sending) (w : Way) (ws : List Way) (count end : ℕ) (b : Bool) → is_overfull t w ≡ b → t.in_hand w ≡ []
    → ((last : Option Way) → is_over (if b then evicted_from t w else t) last ≡ false
    → Ends (if b then evicted_from t w else t) node (Delivering x last ws count) (pushed_to (if b then evicted_from t w else t) x.loan.message ws) x end)
    → Ends t node (Delivering x (Some w) ws count) (pushed_to (if b then evicted_from t w else t) x.loan.message ws) x end
push_one t node x w ws count end true e hand rest =
    let r : Ends (evicted_from t w) node (Delivering x None ws count) (pushed_to (evicted_from t w) x.loan.message ws) x end = rest None refl in
    (r.0, joins t node (Delivering x (Some w) ws count) (evicted_from t w) (Delivering x None ws count) _ _ (evicts t node x w ws count (t.waiting w) hand refl e) r.1, r.2)
push_one t node x w ws count end false e hand rest = rest (Some w) e

pushes : (s : State) (node : ℕ) (x : Sending) (last : Option Way) (ws : List Way) (count : ℕ) → x.overflow ≡ true → is_over s last ≡ false
    → Overflow s ws → NoneInHand s → NotOver s ws → AreDistinctWays ws
    → Ends s node (Delivering x last ws count) (pushed_to s x.loan.message ws) x (count + length ws)
pushes s node x last [] count on over room hand p apart =
    (last, ([], tt, refl, ap (λ (n : ℕ). Delivering x last [] n) (omega arith)), over)
pushes s node x last (w ∷ ws) count on over room hand p apart =
    let m : Message = x.loan.message in
    let t : State = moved s (Deliver w m) in
    let evicting : may_evict x w ≡ Some w = ap (λ (b : Bool). if b then Some w else None) on in
    let fits : Holds s (Deliver w m)
    = ap (λ (b : Bool). nat_lt (length (s.waiting w)) (buffer_on s.fixed w + (if b then 1 else 0))) room.0
    ∙ has_room_over (buffer_on s.fixed w) (length (s.waiting w)) p.0 in
    let r : Ends t node (Delivering x (Some w) ws (count + 1)) (pushed_to (pushed s m w) m ws) x (count + 1 + length ws)
    = push_one t node x w ws (count + 1) (count + 1 + length ws) (is_overfull t w) refl (hand w)
    (λ l o. pushes (pushed s m w) node x l ws (count + 1) on o
    (overflow_after s (pushed s m w) ws (pushed-fixed s m w) room.1)
    (λ v. ap (λ (f : Way → List ℕ). f v) (pushed-in_hand s m w) ∙ hand v)
    (not_over_after s m w ws apart.0 p.1) apart.1) in
    let number : count + 1 + length ws ≡ count + length (w ∷ ws) = omega arith in (
      r.0,
      goes s node (Delivering x last (w ∷ ws) count) (Deliver w m) _ _ fits (is_in-first w ws, refl, ap not over)
          (subst (λ (o : Option Way). Walks t node (Delivering x o (without_way w (w ∷ ws)) (count + 1)) (pushed_to (pushed s m w) m ws) (Delivering x r.0 [] (count + length (w ∷ ws)))) (sym evicting)
          (subst (λ (d : Doing). Walks t node d (pushed_to (pushed s m w) m ws) (Delivering x r.0 [] (count + length (w ∷ ws)))) (sym (first_left x (Some w) w ws (count + 1)))
          (subst (λ (n : ℕ). Walks t node (Delivering x (Some w) ws (count + 1)) (pushed_to (pushed s m w) m ws) (Delivering x r.0 [] n)) number r.1))),
      r.2,
    )

-- ---- the whole send

pub emptied-same : (s : State) (ws : List Way) → ((emptied s ws).fixed ≡ s.fixed) × (((emptied s ws).waiting ≡ s.waiting) × ((emptied s ws).in_hand ≡ s.in_hand))
emptied-same s [] = (refl, (refl, refl))
emptied-same s (w ∷ ws) = emptied-same (emptied_at s w) ws

opened-same : (s : State) (id : ℕ) (ws : List Way)
    → ((opened_at s id ws).fixed ≡ s.fixed) × (((opened_at s id ws).waiting ≡ s.waiting) × ((opened_at s id ws).in_hand ≡ s.in_hand))
opened-same s id [] = (refl, (refl, refl))
opened-same s id (w ∷ ws) = opened-same (moved s (Open w id)) id ws

pub all_not_over : (s u : State) (ws : List Way) → ((w : Way) → is_overfull u w ≡ is_overfull s w) → NotOver s ws → NotOver u ws
all_not_over s u [] same p = tt
all_not_over s u (w ∷ ws) same p = (same w ∙ p.0, all_not_over s u ws same p.1)

requests_overflow : (s : State) (port : ℕ) (ns : List ℕ) → overflow_of s.fixed.limits (role_at s.fixed port) ≡ true → Overflow s (map (request_way port) ns)
requests_overflow s port [] e = tt
requests_overflow s port (n ∷ ns) e = (e, requests_overflow s port ns e)

no_one_full : (ws : List Way) → not_in [] ws ≡ ws
no_one_full [] = refl
no_one_full (w ∷ ws) = ap (λ vs. w ∷ vs) (no_one_full ws)

sends_over : (s : State) (node : ℕ) (x : Sending) → x.overflow ≡ true → NoneInHand s → NotOver s (targets x)
    → Overflow s (targets x) → AreDistinctWays (targets x) → Ends s node (emptying x (targets x)) (sent_over s x).1 x (length (targets x))
sends_over s node x on hand p room apart =
    let to : List Way = targets x in
    let t : State = emptied s to in
    let u : State = opened_at t x.loan.request (to_open x) in
    let a : (t.fixed ≡ s.fixed) × ((t.waiting ≡ s.waiting) × (t.in_hand ≡ s.in_hand)) = emptied-same s to in
    let b : (u.fixed ≡ t.fixed) × ((u.waiting ≡ t.waiting) × (u.in_hand ≡ t.in_hand)) = opened-same t x.loan.request (to_open x) in
    let fixed : u.fixed ≡ s.fixed = b.0 ∙ a.0 in
    let waits : u.waiting ≡ s.waiting = b.1.0 ∙ a.1.0 in
    let held : u.in_hand ≡ s.in_hand = b.1.1 ∙ a.1.1 in
    let opens_next : emptying x [] ≡ opening x (to_open x) [] = ap (λ (c : Bool). if c then opening x (to_open x) [] else looking x (targets x) []) on in
    let last : Ends u node (Delivering x None to 0) (pushed_to u x.loan.message to) x (0 + length to)
    = pushes u node x None to 0 on refl (overflow_after s u to fixed room) (λ w. ap (λ (f : Way → List ℕ). f w) held ∙ hand w)
    (all_not_over s u to (λ w. ap₂ (λ (f : Fixed) (g : Way → List Message). nat_lt (buffer_on f w) (length (g w))) fixed waits) p) apart in
    let number : 0 + length to ≡ length to = omega arith in (
      last.0,
      joins s node (emptying x to) t (emptying x []) _ _ (empties_all node (Emptying x) (λ v. emptying x) (of_send node x) s to hand)
          (subst (λ (d : Doing). Walks t node d (pushed_to u x.loan.message to) (Delivering x last.0 [] (length to))) (sym opens_next)
          (joins t node (opening x (to_open x) []) u (Delivering x None (not_in [] to) 0) _ _ (opens t node x (to_open x) [])
          (subst (λ (ws : List Way). Walks u node (Delivering x None ws 0) (pushed_to u x.loan.message to) (Delivering x last.0 [] (length to))) (sym (no_one_full to))
          (subst (λ (n : ℕ). Walks u node (Delivering x None to 0) (pushed_to u x.loan.message to) (Delivering x last.0 [] n)) number last.1)))),
      last.2,
    )

pub over_leads : (f : Fixed) (s : State) (node : ℕ) (x : Sending) → x.overflow ≡ true → NoneInHand s → NotOver s (targets x)
    → Overflow s (targets x) → AreDistinctWays (targets x) → Leads (NoPayload f) s node (emptying x (targets x)) (sent_over s x)
over_leads f s node x on hand p room apart =
    let walk : Ends s node (emptying x (targets x)) (sent_over s x).1 x (length (targets x)) = sends_over s node x on hand p room apart in (
      Delivering x walk.0 [] (length (targets x)),
      walk.1,
      ap (λ (b : Bool). if b then None else Some (Sends x.loan x.copied (length (targets x)))) walk.2,
      tt,
    )

pub sent_over_to_leads : (f : Fixed) (s : State) (node : ℕ) (h : Handle) (copied : Bool) (servers : List ℕ) → is_request_loan h.kind ≡ true
    → overflow_of s.fixed.limits (role_at s.fixed h.port) ≡ true → NoneInHand s → AreDistinctWays (map (request_way h.port) servers)
    → NotOver s (map (request_way h.port) servers) → Leads (NoPayload f) s node (sends_request s.fixed h copied servers) (sent_over_to s h copied servers)
sent_over_to_leads f s node h copied servers request on hand apart p =
    let x : Sending = sending_of s.fixed h copied servers in
    let to : targets x ≡ map (request_way h.port) servers = request_targets s.fixed h copied servers request in
    unless_spent f s node h copied servers (sent_over s x) request
    (over_leads f s node x on hand (subst (NotOver s) (sym to) p) (subst (Overflow s) (sym to) (requests_overflow s h.port servers on)) (subst AreDistinctWays (sym to) apart))

pub each_overflowing_send_is_whole : EachOverflowingSendIsWhole
each_overflowing_send_is_whole s node n h is request on apart hand p =
    let servers : List ℕ = others s.fixed h.node Server in
    is_whole s node (Send n) ample (sent_over_to s h false servers) (refl, refl)
    (subst (λ (d : Doing). Leads (NoPayload s.fixed) s node d (sent_over_to s h false servers)) (sym (request_starts s node n h is request))
    (sent_over_to_leads s.fixed s node h false servers request on hand apart p))
