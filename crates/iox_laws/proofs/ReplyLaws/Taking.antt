-- The visits of a receive change nothing of what it is going to answer.
use Rattle.std.specs.Prelude.{◌≡◌, ℕ, Bool, true, false, not, ◌&&◌, ◌||◌, if◌then◌else◌, ◌==◌, List, [], refl}
use Rattle.std.specs.List.{list_any}
use Rattle.std.proofs.Common.{sym, ap, ap₂, ◌∙◌}
use Rattle.iox_model.specs.declared.way.Way.{Way}
use Rattle.iox_model.specs.declared.way.RequestState.{RequestState}
use Rattle.iox_model.specs.Commands.{Reply}
use Rattle.iox_model.specs.Doings.{Receiver, Receives, Doing, Ended, Again, Judging, Stale}
use Rattle.iox_model.specs.Maps.{is_empty, rest_of, has_way, without_way}
use Rattle.iox_model.specs.Messages.{names, Message}
use Rattle.iox_model.specs.Moments.{Holds, moved, Take, SeesEmpty, SeesWaiting}
use Rattle.iox_model.specs.Peers.{forgot_port}
use Rattle.iox_model.specs.Receives.{took, judged, state_of_request, is_at_limit}
use Rattle.iox_model.specs.Settings.{is_client}
use Rattle.iox_model.specs.States.{Fixed, State}
use Rattle.iox_laws.proofs.WeaveLaws.MapLemmas.{put_there, put-else}
use Rattle.iox_laws.proofs.WeaveLedger.Truths.{both_true}
use Rattle.iox_laws.proofs.ReplyLaws.Telling.{fits_now, gives, blocks, got, visited_told, gives_on, again_told, told}
use Rattle.iox_laws.proofs.ReplyLaws.Ways.{or-all, and-none, or-assoc, elsewhere, any_without, any_in, any_elsewhere, any_here, elsewhere_same, empty-is, first-rest}

-- ---- a way where nothing waits

empty_gives : (s : State) (x : Receiver) (w : Way) → s.waiting w ≡ [] → gives s x w ≡ false
empty_gives s x w e = ap (λ ms. not (is_at_limit s.fixed w) && list_any (fits_now s.fixed s.request_state x w) ms) e ∙ and-none (not (is_at_limit s.fixed w))

empty_blocks : (s : State) (w : Way) → s.waiting w ≡ [] → blocks s w ≡ false
empty_blocks s w e = ap (λ (ms : List Message). is_at_limit s.fixed w && not (is_empty ms)) e ∙ and-none (is_at_limit s.fixed w)

pub visit_leaves : (s : State) (node : ℕ) (x : Receiver) (left : List Way) (seen : Bool) (w : Way) → Holds s (SeesEmpty w)
    → visited_told s node x (without_way w left) seen ≡ visited_told s node x left seen
visit_leaves s node x left seen w holds =
    let e : s.waiting w ≡ [] = empty-is (s.waiting w) holds in
    ap₂ (λ a b. got s.fixed node a (seen || b)) (any_without (gives s x) w left (empty_gives s x w e))
    (any_without (blocks s) w left (empty_blocks s w e))

pub again_leaves : (s : State) (node : ℕ) (x : Receiver) (left : List Way) (seen : Bool) (v : Way) → Holds s (SeesEmpty v)
    → visited_told s node x (without_way v left) seen ≡ again_told s node x v left seen false
again_leaves s node x left seen v holds =
    let e : s.waiting v ≡ [] = empty-is (s.waiting v) holds in
    ap₂ (λ a b. got s.fixed node a (seen || b))
    (any_elsewhere (gives s x) v left (empty_gives s x v e)
    ∙ sym (ap (λ ms. list_any (fits_now s.fixed s.request_state x v) ms || list_any (elsewhere v (gives s x)) left) e))
    (any_elsewhere (blocks s) v left (empty_blocks s v e))

-- ---- a way at its limit

pub visit_passes : (s : State) (node : ℕ) (x : Receiver) (left : List Way) (seen : Bool) (w : Way) → has_way w left ≡ true
    → is_at_limit s.fixed w ≡ true → Holds s (SeesWaiting w) → visited_told s node x (without_way w left) true ≡ visited_told s node x left seen
visit_passes s node x left seen w e limit holds =
    ap₂ (got s.fixed node)
    (any_without (gives s x) w left (ap (λ b. not b && list_any (fits_now s.fixed s.request_state x w) (s.waiting w)) limit))
    (sym (ap (λ b. seen || b) (any_in (blocks s) w left e (both_true (is_at_limit s.fixed w) (not (is_empty (s.waiting w))) limit holds)) ∙ or-all seen))

-- ---- a message is taken

-- a way below its limit, as if it had been chosen before
pub visit_chooses : (s : State) (node : ℕ) (x : Receiver) (left : List Way) (seen : Bool) (w : Way) → has_way w left ≡ true
    → is_at_limit s.fixed w ≡ false → again_told s node x w left seen false ≡ visited_told s node x left seen
visit_chooses s node x left seen w e below =
    sym (ap₂ (λ a b. got s.fixed node a (seen || b))
    (any_here (gives s x) w left e
    ∙ ap (λ b. (not b && list_any (fits_now s.fixed s.request_state x w) (s.waiting w)) || list_any (elsewhere w (gives s x)) left) below)
    (any_here (blocks s) w left e ∙ ap (λ b. (b && not (is_empty (s.waiting w))) || list_any (elsewhere w (blocks s)) left) below))

taken_on : (s : State) (x : Receiver) (v : Way) (m : Message) (left : List Way) → Holds s (Take v m)
    → (fits_now s.fixed s.request_state x v m || gives_on (moved s (Take v m)) x v left) ≡ gives_on s x v left
taken_on s x v m left holds =
    let fits : Message → Bool = fits_now s.fixed s.request_state x v in
    let t : State = moved s (Take v m) in
    ap₂ (λ ms b. fits m || (list_any fits ms || b)) (put_there s.waiting v (rest_of (s.waiting v)))
    (elsewhere_same (gives t x) (gives s x) v left
    (λ u other. ap (λ ms. not (is_at_limit s.fixed u) && list_any (fits_now s.fixed s.request_state x u) ms) (put-else s.waiting v (rest_of (s.waiting v)) u other)))
    ∙ or-assoc (fits m) (list_any fits (rest_of (s.waiting v))) (list_any (elsewhere v (gives s x)) left)
    ∙ ap (λ ms. list_any fits ms || list_any (elsewhere v (gives s x)) left) (sym (first-rest (s.waiting v) m holds))

blocked_on : (s : State) (v : Way) (m : Message) (left : List Way)
    → list_any (elsewhere v (blocks (moved s (Take v m)))) left ≡ list_any (elsewhere v (blocks s)) left
blocked_on s v m left =
    elsewhere_same (blocks (moved s (Take v m))) (blocks s) v left
    (λ u other. ap (λ (ms : List Message). is_at_limit s.fixed u && not (is_empty ms)) (put-else s.waiting v (rest_of (s.waiting v)) u other))

-- with the message that was taken, as before
pub again_takes : (s : State) (node : ℕ) (x : Receiver) (left : List Way) (seen : Bool) (v : Way) (m : Message) → Holds s (Take v m)
    → again_told (moved s (Take v m)) node x v left seen (fits_now s.fixed s.request_state x v m) ≡ again_told s node x v left seen false
again_takes s node x left seen v m holds =
    ap₂ (λ a b. got s.fixed node a (seen || b)) (taken_on s x v m left holds) (blocked_on s v m left)

-- ---- what is taken fits, or does not

by_role : (P : Doing → Reply) (f : Fixed) (node : ℕ) (more seen c q ff n fg : Bool) (e ag st j : Doing)
    → P e ≡ got f node true seen → P ag ≡ got f node more seen → P st ≡ got f node more seen → P j ≡ got f node (n || more) seen
    → P (if c then (if q then e else (if fg then ag else st)) else (if ff then e else j)) ≡ got f node ((if c then q else (ff || n)) || more) seen
by_role P f node more seen true true ff n fg e ag st j pe pa ps pj = pe
by_role P f node more seen true false ff n true e ag st j pe pa ps pj = pa
by_role P f node more seen true false ff n false e ag st j pe pa ps pj = ps
by_role P f node more seen false q true n fg e ag st j pe pa ps pj = pe
by_role P f node more seen false q false n fg e ag st j pe pa ps pj = pj

pub took_told : (t : State) (node : ℕ) (x : Receiver) (v : Way) (m : Message) (left : List Way) (seen : Bool)
    → told t node (took t.fixed node x v m left seen) ≡ again_told t node x v left seen (fits_now t.fixed t.request_state x v m)
took_told t node x v m left seen =
    by_role (told t node) t.fixed node (gives_on t x v left) (seen || list_any (elsewhere v (blocks t)) left) (is_client x.role)
    (m.request == x.request) t.fixed.limits.fire_and_forget (names (t.request_state (state_of_request v m)) m.request) (forgot_port t.fixed node v.sender)
    (Ended (Receives x v m)) (Again x v left seen) (Stale x v m left seen) (Judging x v m left seen) refl refl refl refl

pub judged_told : (s : State) (node : ℕ) (x : Receiver) (v : Way) (m : Message) (left : List Way) (seen : Bool) (shown : RequestState)
    → told s node (judged x v m left seen shown) ≡ again_told s node x v left seen (names shown m.request)
judged_told s node x v m left seen shown = told_by (names shown m.request)
  where
    told_by : (b : Bool) → told s node (if b then Ended (Receives x v m) else Stale x v m left seen) ≡ again_told s node x v left seen b
    told_by true = refl
    told_by false = refl
