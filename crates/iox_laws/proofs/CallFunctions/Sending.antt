-- Each phase of a send is a walk.
use Rattle.std.specs.Prelude.{◌≡◌, ℕ, ◌+◌, Bool, true, false, not, ◌||◌, if◌then◌else◌, nat_lt, nat_le, List, [], ◌∷◌, ◌++◌, length, Option, Some, None, refl}
use Rattle.std.specs.List.{list_any}
use Rattle.std.proofs.Common.{sym, subst, ap, ◌∙◌, true≢false, arith}
use Rattle.iox_model.specs.declared.way.Way.{Way}
use Rattle.iox_model.specs.declared.reply.Refusal.TheVariants.{UnableToDeliver}
use Rattle.iox_laws.specs.CallFunctions.Answers.{NoneInHand}
use Rattle.iox_laws.specs.CallFunctions.Sends.{emptied, is_full, full_of, opened_at, delivered_to, sent_past, sent_or_not, sent}
use Rattle.iox_laws.proofs.CallFunctions.Emptyings.{of_send, empties_all}
use Rattle.iox_laws.proofs.CallFunctions.Leads.{first_way}
use Rattle.iox_laws.proofs.CallFunctions.Walks.{Walks, stays, goes, joins}
use Rattle.iox_model.specs.Doings.{Sending, FailsToSend, Doing, Ended, Emptying, Looking, Opening, Delivering}
use Rattle.iox_model.specs.States.{State}
use Rattle.iox_model.specs.Requests.{targets, to_open, opening, looking, emptying, may_evict}
use Rattle.iox_model.specs.Maps.{same_way, has_way, without_way, not_in, AreDistinctWays}
use Rattle.iox_model.specs.Moments.{moved, Deliver, SeesFull, SeesRoom, Open}
use Rattle.iox_model.specs.Messages.{Message}
use Rattle.iox_model.specs.Peers.{buffer_on}
use Rattle.iox_laws.proofs.WeaveLaws.MapLemmas.{same_way-refl, is_in-first, eqb-refl, same_way-true, same_way-flip, put-else}

-- ---- looking

has_room_for : (b n : ℕ) → nat_le b n ≡ false → nat_lt n b ≡ true
has_room_for b n e = grind (arith)

looks : (s : State) (node : ℕ) (x : Sending) (ws full : List Way) → Walks s node (looking x ws full) s (looking x [] (full_of s ws full))
looks s node x [] full = stays _ _ _
looks s node x (w ∷ ws) full =
    elim (is_full s w) as (λ b. is_full s w ≡ b → Walks s node (Looking x (w ∷ ws) full) s (looking x [] (full_of s ws (if b then w ∷ full else full)))) [
      | true ↦ λ e. goes s node (Looking x (w ∷ ws) full) (SeesFull w) _ _ e (is_in-first w ws)
          (subst (λ (d : Doing). Walks s node d s (looking x [] (full_of s ws (w ∷ full)))) (sym (first_way (λ left. looking x left (w ∷ full)) w ws)) (looks s node x ws (w ∷ full)))
      | false ↦ λ e. goes s node (Looking x (w ∷ ws) full) (SeesRoom w) _ _ (has_room_for (buffer_on s.fixed w) (length (s.waiting w)) e) (is_in-first w ws)
          (subst (λ (d : Doing). Walks s node d s (looking x [] (full_of s ws full))) (sym (first_way (λ left. looking x left full) w ws)) (looks s node x ws full))
    ] refl

-- ---- opening

pub opens : (s : State) (node : ℕ) (x : Sending) (ws full : List Way) → Walks s node (opening x ws full) (opened_at s x.loan.request ws) (opening x [] full)
opens s node x [] full = stays _ _ _
opens s node x (w ∷ ws) full =
    goes s node (Opening x (w ∷ ws) full) (Open w x.loan.request) _ _ tt (is_in-first w ws, eqb-refl x.loan.request)
    (subst (λ (d : Doing). Walks (moved s (Open w x.loan.request)) node d (opened_at s x.loan.request (w ∷ ws)) (opening x [] full)) (sym (first_way (λ left. opening x left full) w ws))
    (opens (moved s (Open w x.loan.request)) node x ws full))

-- ---- delivering

-- each has room
abbrev pub EachHasRoom : State → List Way → Type 0
EachHasRoom s [] = Unit {0}
EachHasRoom s (w ∷ ws) = (is_full s w ≡ false) × EachHasRoom s ws

or_parts : (a b : Bool) → (a || b) ≡ false → (a ≡ false) × (b ≡ false)
or_parts true b e = absurd (true≢false e)
or_parts false b e = (refl, e)

room_stays : (s : State) (w : Way) (m : Message) (ws : List Way) → has_way w ws ≡ false → EachHasRoom s ws → EachHasRoom (moved s (Deliver w m)) ws
room_stays s w m [] apart room = tt
room_stays s w m (v ∷ vs) apart room =
    let parts : (same_way w v ≡ false) × (list_any (same_way w) vs ≡ false) = or_parts (same_way w v) (list_any (same_way w) vs) apart in (
      ap (λ (xs : List Message). nat_le (buffer_on s.fixed v) (length xs)) (put-else s.waiting w (s.waiting w ++ m ∷ []) v (same_way-flip v w (same_way v w) parts.0 refl)) ∙ room.0,
      room_stays s w m vs parts.1 room.1,
    )

fits_in : (b n e : ℕ) → nat_le b n ≡ false → nat_lt n (b + e) ≡ true
fits_in b n e h = grind (arith)

delivers : (s : State) (node : ℕ) (x : Sending) (ws : List Way) (count : ℕ) → x.overflow ≡ false → EachHasRoom s ws → AreDistinctWays ws
    → Walks s node (Delivering x None ws count) (delivered_to s x.loan.message ws) (Delivering x None [] (count + length ws))
delivers s node x [] count plain room apart = ([], tt, refl, ap (λ (n : ℕ). Delivering x None [] n) (omega arith))
delivers s node x (w ∷ ws) count plain room apart =
    let m : Message = x.loan.message in
    let t : State = moved s (Deliver w m) in
    let no_eviction : may_evict x w ≡ None = ap (λ (b : Bool). if b then Some w else None) plain in
    goes s node (Delivering x None (w ∷ ws) count) (Deliver w m) _ _ (fits_in (buffer_on s.fixed w) (length (s.waiting w)) _ room.0) (is_in-first w ws, refl, refl)
    (subst (λ (o : Option Way). Walks t node (Delivering x o (without_way w (w ∷ ws)) (count + 1)) (delivered_to t m ws) (Delivering x None [] (count + length (w ∷ ws)))) (sym no_eviction)
    (subst (λ (left : List Way). Walks t node (Delivering x None left (count + 1)) (delivered_to t m ws) (Delivering x None [] (count + length (w ∷ ws)))) (sym (first_way (λ left. left) w ws))
    (subst (λ (n : ℕ). Walks t node (Delivering x None ws (count + 1)) (delivered_to t m ws) (Delivering x None [] n)) (omega arith)
    (delivers t node x ws (count + 1) plain (room_stays s w m ws apart.0 room.1) apart.1))))

-- ---- together

opened_room : (s : State) (id : ℕ) (vs ws : List Way) → EachHasRoom s ws → EachHasRoom (opened_at s id vs) ws
opened_room s id [] ws room = room
opened_room s id (v ∷ vs) ws room = opened_room (moved s (Open v id)) id vs ws (same_room s v id ws room)
  where
    same_room : (s : State) (v : Way) (id : ℕ) (ws : List Way) → EachHasRoom s ws → EachHasRoom (moved s (Open v id)) ws
    same_room s v id [] room = tt
    same_room s v id (w ∷ ws) room = (room.0, same_room s v id ws room.1)

-- where a send stands once it looked at all: refused, or with all delivered
abbrev pub looked : Sending → List Way → Doing
looked x full =
    if list_any x.fails full then Ended (FailsToSend x.loan x.copied UnableToDeliver)
    else Delivering x None [] (length (not_in full (targets x)))

sends_past : (s : State) (node : ℕ) (x : Sending) (full : List Way) → x.overflow ≡ false
    → EachHasRoom s (not_in full (targets x)) → AreDistinctWays (not_in full (targets x))
    → Walks s node (opening x (to_open x) full) (sent_past s x full).1 (Delivering x None [] (length (not_in full (targets x))))
sends_past s node x full plain room apart =
    let to : List Way = not_in full (targets x) in
    let t : State = opened_at s x.loan.request (to_open x) in
    joins s node (opening x (to_open x) full) t (Delivering x None to 0) _ _ (opens s node x (to_open x) full)
    (subst (λ (n : ℕ). Walks t node (Delivering x None to 0) (sent_past s x full).1 (Delivering x None [] n)) (omega arith)
    (delivers t node x to 0 plain (opened_room s x.loan.request (to_open x) to room) apart))

sends_or_not : (s : State) (node : ℕ) (x : Sending) (full : List Way) → x.overflow ≡ false
    → EachHasRoom s (not_in full (targets x)) → AreDistinctWays (not_in full (targets x))
    → Walks s node (looking x [] full) (sent_or_not s x full).1 (looked x full)
sends_or_not s node x full plain room apart =
    elim (list_any x.fails full) as (λ b. Walks s node (if b then Ended (FailsToSend x.loan x.copied UnableToDeliver) else opening x (to_open x) full)
    (if b then (FailsToSend x.loan x.copied UnableToDeliver, s) else sent_past s x full).1
    (if b then Ended (FailsToSend x.loan x.copied UnableToDeliver) else Delivering x None [] (length (not_in full (targets x))))) [
      | true ↦ stays _ _ _
      | false ↦ sends_past s node x full plain room apart
    ]

-- ---- who is not full has room

or_true : (b : Bool) → (b || true) ≡ true
or_true true = refl
or_true false = refl

full_has : (s : State) (ws full : List Way) (w : Way) → is_full s w ≡ true → (has_way w ws || has_way w full) ≡ true → has_way w (full_of s ws full) ≡ true
full_has s [] full w f h = h
full_has s (v ∷ vs) full w f h =
    full_has s vs (if is_full s v then v ∷ full else full) w f
    (elim (same_way w v) as (λ b. same_way w v ≡ b → ((b || has_way w vs) || has_way w full) ≡ true → (has_way w vs || has_way w (if is_full s v then v ∷ full else full)) ≡ true) [
      | true ↦ λ e k. rw (ap (is_full s) (sym (same_way-true w v e)) ∙ f, e) (or_true (has_way w vs))
      | false ↦ λ e k. elim (is_full s v) as (λ c. (has_way w vs || has_way w (if c then v ∷ full else full)) ≡ true) [
        | true ↦ rw e k
        | false ↦ k
      ]
    ] refl h)

rooms : (s : State) (full ws : List Way) → ((w : Way) → is_full s w ≡ true → has_way w ws ≡ true → has_way w full ≡ true) → EachHasRoom s (not_in full ws)
rooms s full [] all = tt
rooms s full (w ∷ ws) all =
    let rest : EachHasRoom s (not_in full ws) = rooms s full ws (λ v f h. all v f (rw h (or_true (same_way v w)))) in
    elim (has_way w full) as (λ b. has_way w full ≡ b → EachHasRoom s (if not b then w ∷ not_in full ws else not_in full ws)) [
      | true ↦ λ e. rest
      | false ↦ λ e. (
        elim (is_full s w) as (λ b. is_full s w ≡ b → b ≡ false) [
          | true ↦ λ f. absurd (true≢false (sym (all w f (rw (same_way-refl w) refl)) ∙ e))
          | false ↦ λ f. refl
        ] refl,
        rest,
      )
    ] refl

absent : (w : Way) (full ws : List Way) → has_way w ws ≡ false → has_way w (not_in full ws) ≡ false
absent w full [] h = refl
absent w full (v ∷ vs) h =
    let parts : (same_way w v ≡ false) × (has_way w vs ≡ false) = or_parts (same_way w v) (has_way w vs) h in
    elim (has_way v full) as (λ b. has_way w (if not b then v ∷ not_in full vs else not_in full vs) ≡ false) [
      | true ↦ absent w full vs parts.1
      | false ↦ rw parts.0 (absent w full vs parts.1)
    ]

apart_not_in : (full ws : List Way) → AreDistinctWays ws → AreDistinctWays (not_in full ws)
apart_not_in full [] apart = tt
apart_not_in full (w ∷ ws) apart =
    elim (has_way w full) as (λ b. AreDistinctWays (if not b then w ∷ not_in full ws else not_in full ws)) [
      | true ↦ apart_not_in full ws apart.1
      | false ↦ (absent w full ws apart.0, apart_not_in full ws apart.1)
    ]

-- where a send without overflow stands in the end
abbrev pub sent_at : State → Sending → Doing
sent_at s x = let t : State = emptied s (targets x) in looked x (full_of t (targets x) [])

pub sent_walks : (s : State) (node : ℕ) (x : Sending) → x.overflow ≡ false → NoneInHand s → AreDistinctWays (targets x)
    → Walks s node (emptying x (targets x)) (sent s x).1 (sent_at s x)
sent_walks s node x plain hand apart =
    let t : State = emptied s (targets x) in
    let full : List Way = full_of t (targets x) [] in
    let looking_next : emptying x [] ≡ looking x (targets x) [] = ap (λ (b : Bool). if b then opening x (to_open x) [] else looking x (targets x) []) plain in
    joins s node (emptying x (targets x)) t (emptying x []) _ _ (empties_all node (Emptying x) (λ u. emptying x) (of_send node x) s (targets x) hand)
    (subst (λ (d : Doing). Walks t node d (sent s x).1 (sent_at s x)) (sym looking_next)
    (joins t node (looking x (targets x) []) t (looking x [] full) _ _ (looks t node x (targets x) [])
    (sends_or_not t node x full plain
    (rooms t full (targets x) (λ w f h. full_has t (targets x) [] w f (rw h refl)))
    (apart_not_in full (targets x) apart))))
