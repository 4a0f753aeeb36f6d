-- A release reads and changes no node: it is the same whoever the members are.
use Rattle.std.specs.Prelude.{◌≡◌, ℕ, Bool, true, false, not, if◌then◌else◌, List, [], ◌∷◌, map, Option, Some, None, refl}
use Rattle.std.specs.Option.{option_map_or}
use Rattle.std.proofs.Common.{sym, subst, ap, ◌∙◌}
use Rattle.iox_model.specs.declared.call.Call.TheVariants.{Release}
use Rattle.iox_model.specs.declared.reply.Refusal.TheVariants.{UnknownNumber}
use Rattle.iox_model.specs.declared.way.Way.{Way}
use Rattle.iox_model.specs.Begins.{begins_at, start}
use Rattle.iox_model.specs.Commands.{Refusal, Reply}
use Rattle.iox_model.specs.Counts.{changed, dropped, called, gives_up, with_fixed, sent_handle}
use Rattle.iox_model.specs.Doings.{refused, Outcome, Tells, Loans, Fills, Sends, FailsToSend, Receives, Drops, DropsPort, Forgets, Doing, Loaning, Delivering}
use Rattle.iox_model.specs.Ends.{is_nothing, port_dropped, settled}
use Rattle.iox_model.specs.Expiries.{disconnected, is_last_gone, released}
use Rattle.iox_model.specs.Forgetting.{forgets, has_forgotten}
use Rattle.iox_model.specs.Handles.{is_request_loan, subject, Subject, ThePort, TheHandle}
use Rattle.iox_model.specs.Joins.{with_members}
use Rattle.iox_model.specs.Loans.{Choice}
use Rattle.iox_model.specs.Maps.{without_way}
use Rattle.iox_model.specs.Moments.{Holds, moved, Moment, Deliver, Evict, Take, GiveBack, GetBack, SeesEmpty, SeesWaiting, SeesFull, SeesRoom, SeesNoneBack, Open, Close, Hint, Look}
use Rattle.iox_model.specs.Names.{misnamed}
use Rattle.iox_model.specs.Requests.{is_over}
use Rattle.iox_model.specs.Responses.{loaning}
use Rattle.iox_model.specs.States.{Members, Handle, State}
use Rattle.iox_model.specs.Transitions.{next, ends, Transition}
use Rattle.iox_model.specs.WholeCalls.{moved_by, left_by, MayCome, UnlessRefused, spent, IsDone, IsWholeCall}

-- ---- a moment

moved_with : (s : State) (x : Members) (m : Moment) → moved (with_members s x) m ≡ with_members (moved s m) x
moved_with s x (Deliver w m) = refl
moved_with s x (Evict w) = refl
moved_with s x (Take w m) = refl
moved_with s x (GiveBack w k) = refl
moved_with s x (GetBack w k) = refl
moved_with s x (SeesEmpty w) = refl
moved_with s x (SeesWaiting w) = refl
moved_with s x (SeesFull w) = refl
moved_with s x (SeesRoom w) = refl
moved_with s x (SeesNoneBack w) = refl
moved_with s x (Open w id) = refl
moved_with s x (Close w id) = refl
moved_with s x (Hint w id) = refl
moved_with s x (Look w shown) = refl

holds_with : (s : State) (x : Members) (m : Moment) → Holds s m → Holds (with_members s x) m
holds_with s x (Deliver w m) h = h
holds_with s x (Evict w) h = h
holds_with s x (Take w m) h = h
holds_with s x (GiveBack w k) h = h
holds_with s x (GetBack w k) h = h
holds_with s x (SeesEmpty w) h = h
holds_with s x (SeesWaiting w) h = h
holds_with s x (SeesFull w) h = h
holds_with s x (SeesRoom w) h = h
holds_with s x (SeesNoneBack w) h = h
holds_with s x (Open w id) h = h
holds_with s x (Close w id) h = h
holds_with s x (Hint w id) h = h
holds_with s x (Look w shown) h = h

loaning_with : (s : State) (x : Members) (copies : Bool) (h : Handle) (left : List Way) → loaning (with_members s x) copies h left ≡ loaning s copies h left
loaning_with s x copies h [] = refl
loaning_with s x copies h (w ∷ left) = refl

over_with : (s : State) (x : Members) (last : Option Way) → is_over (with_members s x) last ≡ is_over s last
over_with s x None = refl
over_with s x (Some w) = refl

-- what may come, and what is left to do then
abbrev pub Same : Transition → Transition → Type 0
Same a b = (a.condition → b.condition) × (b.after ≡ a.after)

next_with : (s : State) (x : Members) (node : ℕ) (d : Doing) (m : Moment) → Same (next s node d m) (next (with_members s x) node d m)
next_with s x node (Loaning copies h left) (SeesNoneBack w) = ((λ c. c), loaning_with s x copies h (without_way w left))
next_with s x node (Delivering y last left count) (Deliver w m) = ((λ c. (c.0, c.1, over c.2)), refl)
  where
    over : not (is_over s last) ≡ true → not (is_over (with_members s x) last) ≡ true
    over e = ap not (over_with s x last) ∙ e
next_with s x node d m = ((λ c. c), refl)

ends_with : (s : State) (x : Members) (d : Doing) → ends (with_members s x) d ≡ ends s d
ends_with s x (Delivering y last [] count) = ap (λ (b : Bool). if b then None else Some (Sends y.loan y.copied count)) (over_with s x last)
ends_with s x (Delivering y last (w ∷ left) count) = refl
ends_with s x d = refl

-- ---- the end of a call

released_with : (s : State) (x : Members) (port : ℕ) → released (with_members s x) port ≡ with_members (released s port) x
released_with s x port = by_case (is_last_gone s.fixed port)
  where
    by_case : (b : Bool) → (if b then disconnected (with_members s x) port else with_members s x) ≡ with_members (if b then disconnected s port else s) x
    by_case true = refl
    by_case false = refl

pub settled_with : (s : State) (x : Members) (node : ℕ) (payload : List ℕ) (o : Outcome)
    → settled (with_members s x) node payload o ≡ with_members (settled s node payload o) x
settled_with s x node payload (Tells reply) = by_case (is_nothing reply)
  where
    by_case : (b : Bool) → (if b then with_fixed (with_members s x) (called s.fixed) else with_members s x)
        ≡ with_members (if b then with_fixed s (called s.fixed) else s) x
    by_case true = refl
    by_case false = refl
settled_with s x node payload (Loans h) = refl
settled_with s x node payload (Fills h) = refl
settled_with s x node payload (Sends h true count) = refl
settled_with s x node payload (Sends h false count) =
    ap (λ (t : State). with_fixed t (called t.fixed)) (by_case (is_request_loan h.kind) (released_with (with_fixed s (dropped s.fixed h)) x h.port))
  where
    by_case : (b : Bool) → released (with_fixed (with_members s x) (dropped s.fixed h)) h.port
        ≡ with_members (released (with_fixed s (dropped s.fixed h)) h.port) x
        → (if b then with_fixed (with_members s x) (changed s.fixed (sent_handle h count))
        else released (with_fixed (with_members s x) (dropped s.fixed h)) h.port)
        ≡ with_members (if b then with_fixed s (changed s.fixed (sent_handle h count)) else released (with_fixed s (dropped s.fixed h)) h.port) x
    by_case true e = refl
    by_case false e = e
settled_with s x node payload (FailsToSend h true refusal) = refl
settled_with s x node payload (FailsToSend h false refusal) = released_with (with_fixed s (dropped s.fixed h)) x h.port
settled_with s x node payload (Receives r w m) = refl
settled_with s x node payload (Drops h) = released_with (with_fixed s (gives_up (dropped s.fixed h) h)) x h.port
settled_with s x node payload (DropsPort port) =
    released_with (with_fixed s (record (s.fixed) { ports = map (port_dropped port) s.fixed.ports })) x port
settled_with s x node payload (Forgets dead) = by_case (has_forgotten s.fixed node dead)
  where
    by_case : (b : Bool) → (if b then with_members s x else forgets (with_members s x) node dead) ≡ with_members (if b then s else forgets s node dead) x
    by_case true = refl
    by_case false = refl

-- ---- moments back to back

moved_by_with : (s : State) (x : Members) (ms : List Moment) → moved_by (with_members s x) ms ≡ with_members (moved_by s ms) x
moved_by_with s x [] = refl
moved_by_with s x (m ∷ ms) = ap (λ t. moved_by t ms) (moved_with s x m) ∙ moved_by_with (moved s m) x ms

left_with : (s : State) (x : Members) (node : ℕ) (d : Doing) (ms : List Moment) → left_by (with_members s x) node d ms ≡ left_by s node d ms
left_with s x node d [] = refl
left_with s x node d (m ∷ ms) =
    ap (λ t. left_by t node (next (with_members s x) node d m).after ms) (moved_with s x m)
    ∙ ap (λ e. left_by (with_members (moved s m) x) node e ms) (next_with s x node d m).1
    ∙ left_with (moved s m) x node (next s node d m).after ms

may_with : (s : State) (x : Members) (node : ℕ) (d : Doing) (ms : List Moment) → MayCome s node d ms → MayCome (with_members s x) node d ms
may_with s x node d [] may = tt
may_with s x node d (m ∷ ms) may = (
  holds_with s x m may.0,
  (next_with s x node d m).0 may.1,
  subst (λ t. MayCome t node (next (with_members s x) node d m).after ms) (sym (moved_with s x m))
      (subst (λ e. MayCome (with_members (moved s m) x) node e ms) (sym (next_with s x node d m).1)
      (may_with (moved s m) x node (next s node d m).after ms may.2)),
)

-- ---- a release

start_with : (s : State) (x : Members) (node n : ℕ) (c : Choice) → start (with_members s x) node c (Release n) ≡ start s node c (Release n)
start_with s x node n c = by_case (subject s.fixed node n)
  where
    by_case : (o : Option Subject)
        → option_map_or (begins_at (with_members s x) c (Release n)) o (refused UnknownNumber)
        ≡ option_map_or (begins_at s c (Release n)) o (refused UnknownNumber)
    by_case None = refl
    by_case (Some (ThePort p)) = refl
    by_case (Some (TheHandle h)) = refl

done_with : (s : State) (x : Members) (node n : ℕ) (reply : Reply) (t : State) → IsDone s node (Release n) reply t
    → IsDone (with_members s x) node (Release n) reply (with_members t x)
done_with s x node n reply t d =
    let u : State = with_members s x in
    let first : start u node d.0 (Release n) ≡ start s node d.0 (Release n) = start_with s x node n d.0 in (
      d.0,
      d.1,
      d.2,
      subst (λ e. MayCome u node e d.2) (sym first) (may_with s x node (start s node d.0 (Release n)) d.2 d.3),
      d.4,
      subst (λ e. ends (moved_by u d.2) (left_by u node e d.2) ≡ Some d.4) (sym first)
          (ap (λ v. ends v (left_by u node (start s node d.0 (Release n)) d.2)) (moved_by_with s x d.2)
          ∙ ap (ends (with_members (moved_by s d.2) x)) (left_with s x node (start s node d.0 (Release n)) d.2)
          ∙ ends_with (moved_by s d.2) x (left_by s node (start s node d.0 (Release n)) d.2) ∙ d.5),
      d.6,
      d.7,
      d.8,
      ap (λ v. with_members v x) d.9 ∙ sym (settled_with (moved_by s d.2) x node d.6 d.4) ∙ ap (λ v. settled v node d.6 d.4) (sym (moved_by_with s x d.2)),
    )

pub unless_with : (q : Option Refusal) (s : State) (x : Members) (reply : Reply) (t : State) (P Q : Type 0) → (P → Q)
    → UnlessRefused q s reply t P → UnlessRefused q (with_members s x) reply (with_members t x) Q
unless_with (Some r) s x reply t P Q f u = (u.0, ap (λ v. with_members v x) u.1)
unless_with None s x reply t P Q f u = f u

pub release_with : (s : State) (x : Members) (node n : ℕ) (reply : Reply) (t : State) → IsWholeCall s node (Release n) reply t
    → IsWholeCall (with_members s x) node (Release n) reply (with_members t x)
release_with s x node n reply t =
    unless_with (misnamed s.fixed node (Release n)) s x reply t (UnlessRefused (spent s.fixed (Release n)) s reply t (IsDone s node (Release n) reply t))
    (UnlessRefused (spent s.fixed (Release n)) (with_members s x) reply (with_members t x)
    (IsDone (with_members s x) node (Release n) reply (with_members t x)))
    (unless_with (spent s.fixed (Release n)) s x reply t (IsDone s node (Release n) reply t)
    (IsDone (with_members s x) node (Release n) reply (with_members t x)) (done_with s x node n reply t))
