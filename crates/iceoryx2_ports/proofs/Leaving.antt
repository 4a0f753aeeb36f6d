-- A release leaves room to each receiver that had it.
use Rattle.std.specs.Prelude.{◌≡◌, ℕ, ◌≤◌, ◌-◌, Bool, true, false, not, ◌||◌, ◌==◌, nat_le, if◌then◌else◌, List, [], ◌∷◌, filter, find, length, map, Option, None, Some, refl}
use Rattle.std.specs.List.{list_any}
use Rattle.std.specs.Option.{option_map_or}
use Rattle.std.proofs.Common.{sym, ap, subst, ◌∙◌, arith, inl, eqb-true, true≢false}
use Rattle.iox_model.specs.declared.call.Call.TheVariants.{Release}
use Rattle.iox_model.specs.declared.kind.Kind.TheVariants.{ActiveRequest, PendingResponse}
use Rattle.iox_model.specs.declared.kind.Role.{Role}
use Rattle.iox_model.specs.declared.kind.Role.TheVariants.{Client}
use Rattle.iox_model.specs.declared.reply.Refusal.TheVariants.{UnknownNumber}
use Rattle.iox_model.specs.declared.way.Way.{Way}
use Rattle.iox_model.specs.Begins.{begins_at, start}
use Rattle.iox_model.specs.Commands.{Refusal, Reply}
use Rattle.iox_model.specs.Counts.{called, dropped, gives_up, with_fixed}
use Rattle.iox_model.specs.Doings.{refused, Closing, Doing, Drops, DropsPort, Ended, Leaving, Outcome, Returning, Tells}
use Rattle.iox_model.specs.Ends.{is_nothing, port_dropped, settled}
use Rattle.iox_model.specs.Expiries.{disconnected, is_last_gone, released, stays}
use Rattle.iox_model.specs.Handles.{Subject, TheHandle, ThePort, is_received, same_kind, subject, way_of}
use Rattle.iox_model.specs.Loans.{Choice}
use Rattle.iox_model.specs.Maps.{put, same_way, without_way}
use Rattle.iox_model.specs.Messages.{Message}
use Rattle.iox_model.specs.Moments.{Close, GiveBack, Look, Moment, moved}
use Rattle.iox_model.specs.Names.{misnamed}
use Rattle.iox_model.specs.Peers.{borrow_limit_on, buffer_on, forgot_port, is_connected_port, role_at}
use Rattle.iox_model.specs.Receives.{is_at_limit}
use Rattle.iox_model.specs.Releases.{closing, releases_handle, returning, states_of}
use Rattle.iox_model.specs.Settings.{Limits, borrow_limit_of, buffer_of, other_role}
use Rattle.iox_model.specs.States as m
use Rattle.iox_model.specs.Transitions.{ends, next}
use Rattle.iox_model.specs.WholeCalls.{IsDone, IsWholeCall, MayCome, UnlessRefused, left_by, moved_by, spent}
use Rattle.iox_laws.specs.CallFunctions.Sends.{is_full}
use Rattle.iox_laws.proofs.WeaveLaws.MapLemmas.{either, same_way-true}
use Rattle.iox_laws.proofs.WeaveLaws.WholeLemmas.{moved_by-fixed, some-is}
use Rattle.iox_laws.proofs.WeaveLedger.Truths.{by_cases, none-some}
use Rattle.iox_tables.specs.HubStates.Receives.{way_to}
use Rattle.iox_tables.specs.HubStates.States.{Given}
use Rattle.iox_tables.specs.HubStates.Steps.{is_there}
use Rattle.iox_tables.specs.HubStates.Tables.{HubTables}
use Rattle.iox_tables.proofs.HubStates.Steps.{connected_is}
use Rattle.iox_hub_laws.specs.Hubs.{HubState, IsHub, given_by, nothing_given, state_of_hub}
use Rattle.iox_hub_laws.specs.Shown.{shown}
use Rattle.iceoryx2_ports.specs.Reaching.{KeepsRoom}
use Rattle.iceoryx2_ports.proofs.Answering.{none_left}
use Rattle.iceoryx2_ports.proofs.Idle.{may_have_one}

-- ---- what a release leaves

-- no more waits, and no more is held, than before; ports that are left have their roles
pub record LeavesLess (s t : m.State) : Type 0 where
  pub limits : t.fixed.limits ≡ s.fixed.limits
  pub ports : (k : ℕ) → is_connected_port t.fixed k ≡ true → is_connected_port s.fixed k ≡ true
  pub roles : (k : ℕ) → is_connected_port t.fixed k ≡ true → role_at t.fixed k ≡ role_at s.fixed k
  pub waiting : (w : Way) → length (t.waiting w) ≤ length (s.waiting w)
  pub borrowed : (w : Way) → t.fixed.borrowed w ≤ s.fixed.borrowed w

same_le : (n : ℕ) → n ≤ n
same_le n = omega arith

none_le : (n : ℕ) → 0 ≤ n
none_le n = omega arith

one_less : (n : ℕ) → n - 1 ≤ n
one_less n = omega arith

both_le : (a b c : ℕ) → a ≤ b → b ≤ c → a ≤ c
both_le a b c p q = omega arith

pub less_full : (b k n : ℕ) → k ≤ n → nat_le b n ≡ false → nat_le b k ≡ false
less_full b k n less e = grind (arith, e)

same_leaves : (s : m.State) → LeavesLess s s
same_leaves s = record {
  limits = refl;
  ports = λ k there. there;
  roles = λ k there. refl;
  waiting = λ w. same_le (length (s.waiting w));
  borrowed = λ w. same_le (s.fixed.borrowed w);
}

-- first a step that leaves each role
then_leaves : (s v t : m.State) → LeavesLess s v → ((k : ℕ) → role_at v.fixed k ≡ role_at s.fixed k) → LeavesLess v t → LeavesLess s t
then_leaves s v t first roles last = record {
  limits = last.limits ∙ first.limits;
  ports = λ k there. first.ports k (last.ports k there);
  roles = λ k there. last.roles k there ∙ roles k;
  waiting = λ w. both_le (length (t.waiting w)) (length (v.waiting w)) (length (s.waiting w)) (last.waiting w) (first.waiting w);
  borrowed = λ w. both_le (t.fixed.borrowed w) (v.fixed.borrowed w) (s.fixed.borrowed w) (last.borrowed w) (first.borrowed w);
}

-- ---- a port that goes

-- another port is found among those that are left
found_left : (ps : List m.Port) (gone k : ℕ) → (k == gone) ≡ false
    → find (λ (p : m.Port). p.number == k) (filter (λ (p : m.Port). not (p.number == gone)) ps) ≡ find (λ (p : m.Port). p.number == k) ps
found_left [] gone k e = refl
found_left (p ∷ ps) gone k e =
    by_cases (p.number == gone)
    (λ is.
    ap (λ (b : Bool). find (λ (q : m.Port). q.number == k)
    (if not b then p ∷ filter (λ (q : m.Port). not (q.number == gone)) ps else filter (λ (q : m.Port). not (q.number == gone)) ps)) is
    ∙ found_left ps gone k e
    ∙ sym (ap (λ (b : Bool). if b then Some p else find (λ (q : m.Port). q.number == k) ps) (other is)))
    (λ no.
    ap (λ (b : Bool). find (λ (q : m.Port). q.number == k)
    (if not b then p ∷ filter (λ (q : m.Port). not (q.number == gone)) ps else filter (λ (q : m.Port). not (q.number == gone)) ps)) no
    ∙ ap (λ (o : Option m.Port). if p.number == k then Some p else o) (found_left ps gone k e))
  where
    other : (p.number == gone) ≡ true → (p.number == k) ≡ false
    other is =
        by_cases (p.number == k)
        (λ same. absurd (true≢false (sym (ap (λ (n : ℕ). n == gone) (sym (eqb-true p.number k same)) ∙ is) ∙ e)))
        (λ no. no)

-- a port that is left was there
any_before : (ps : List m.Port) (gone k : ℕ) → list_any (λ (p : m.Port). p.number == k) (filter (λ (p : m.Port). not (p.number == gone)) ps) ≡ true
    → list_any (λ (p : m.Port). p.number == k) ps ≡ true
any_before [] gone k there = there
any_before (p ∷ ps) gone k there = step (not (p.number == gone)) (any_before ps gone k) there
  where
    here : (c a b : Bool) → (a ≡ true → b ≡ true) → (c || a) ≡ true → (c || b) ≡ true
    here true a b rest e = refl
    here false a b rest e = rest e

    behind : (c b : Bool) → b ≡ true → (c || b) ≡ true
    behind true b e = refl
    behind false b e = e

    step : (b : Bool)
        → (list_any (λ (q : m.Port). q.number == k) (filter (λ (q : m.Port). not (q.number == gone)) ps) ≡ true → list_any (λ (q : m.Port). q.number == k) ps ≡ true)
        → list_any (λ (q : m.Port). q.number == k)
        (if b then p ∷ filter (λ (q : m.Port). not (q.number == gone)) ps else filter (λ (q : m.Port). not (q.number == gone)) ps) ≡ true
        → (p.number == k || list_any (λ (q : m.Port). q.number == k) ps) ≡ true
    step true rest e =
        here (p.number == k) (list_any (λ (q : m.Port). q.number == k) (filter (λ (q : m.Port). not (q.number == gone)) ps)) (list_any (λ (q : m.Port). q.number == k) ps)
        rest e
    step false rest e = behind (p.number == k) (list_any (λ (q : m.Port). q.number == k) ps) (rest e)

disconnected_leaves : (s : m.State) (gone : ℕ) → LeavesLess s (disconnected s gone)
disconnected_leaves s gone = record {
  limits = refl;
  ports = λ k there. any_before s.fixed.ports gone k there;
  roles = λ k there.
      by_cases (k == gone)
      (λ same.
      absurd (true≢false (sym there ∙ ap (λ (n : ℕ). list_any (λ (p : m.Port). p.number == n) (filter (λ (p : m.Port). not (p.number == gone)) s.fixed.ports))
      (eqb-true k gone same) ∙ none_left s.fixed.ports gone)))
      (λ other. ap (λ (o : Option m.Port). option_map_or (λ (p : m.Port). p.role) o Client) (found_left s.fixed.ports gone k other));
  waiting = λ w.
      either (λ (ms : List Message). length ms ≤ length (s.waiting w)) (stays s gone w) (s.waiting w) [] (λ u. same_le (length (s.waiting w)))
      (λ u. none_le (length (s.waiting w)));
  borrowed = λ w.
      either (λ (n : ℕ). n ≤ s.fixed.borrowed w) (stays s gone w) (s.fixed.borrowed w) 0 (λ u. same_le (s.fixed.borrowed w))
      (λ u. none_le (s.fixed.borrowed w));
}

pub released_leaves : (s : m.State) (port : ℕ) → LeavesLess s (released s port)
released_leaves s port =
    either (LeavesLess s) (is_last_gone s.fixed port) (disconnected s port) s (λ u. disconnected_leaves s port) (λ u. same_leaves s)

-- ---- a handle that goes

gives_up_leaves : (s : m.State) (h : m.Handle) → LeavesLess s (with_fixed s (gives_up (dropped s.fixed h) h))
gives_up_leaves s h =
    either (λ (f : m.Fixed). LeavesLess s (with_fixed s f)) (is_received h.kind)
    (record (dropped s.fixed h) { borrowed = put s.fixed.borrowed (way_of h) (s.fixed.borrowed (way_of h) - 1) }) (dropped s.fixed h)
    (λ u. record {
      limits = refl;
      ports = λ k there. there;
      roles = λ k there. refl;
      waiting = λ w. same_le (length (s.waiting w));
      borrowed = λ w.
          either (λ (n : ℕ). n ≤ s.fixed.borrowed w) (same_way w (way_of h)) (s.fixed.borrowed (way_of h) - 1) (s.fixed.borrowed w)
          (λ same. subst (λ (v : Way). s.fixed.borrowed v - 1 ≤ s.fixed.borrowed w) (same_way-true w (way_of h) same) (one_less (s.fixed.borrowed w)))
          (λ other. same_le (s.fixed.borrowed w));
    })
    (λ u. record {
      limits = refl;
      ports = λ k there. there;
      roles = λ k there. refl;
      waiting = λ w. same_le (length (s.waiting w));
      borrowed = λ w. same_le (s.fixed.borrowed w);
    })

gives_up_roles : (f : m.Fixed) (h : m.Handle) (k : ℕ) → role_at (gives_up (dropped f h) h) k ≡ role_at f k
gives_up_roles f h k =
    either (λ (g : m.Fixed). role_at g k ≡ role_at f k) (is_received h.kind)
    (record (dropped f h) { borrowed = put f.borrowed (way_of h) (f.borrowed (way_of h) - 1) }) (dropped f h) (λ u. refl) (λ u. refl)

-- the limit is what it was
pub same_limit : (f : m.Fixed) (h : m.Handle) (w : Way) → is_at_limit (gives_up f h) w ≡ nat_le (borrow_limit_on f w) ((gives_up f h).borrowed w)
same_limit f h w =
    either (λ (g : m.Fixed). is_at_limit g w ≡ nat_le (borrow_limit_on f w) (g.borrowed w)) (is_received h.kind)
    (record f { borrowed = put f.borrowed (way_of h) (f.borrowed (way_of h) - 1) }) f (λ u. refl) (λ u. refl)

-- ---- a port's own value that goes

dropped_roles : (ps : List m.Port) (port k : ℕ)
    → option_map_or (λ (p : m.Port). p.role) (find (λ (p : m.Port). p.number == k) (map (port_dropped port) ps)) Client
    ≡ option_map_or (λ (p : m.Port). p.role) (find (λ (p : m.Port). p.number == k) ps) Client
dropped_roles [] port k = refl
dropped_roles (p ∷ ps) port k =
    either
    (λ (q : m.Port).
    option_map_or (λ (r : m.Port). r.role) (if q.number == k then Some q else find (λ (r : m.Port). r.number == k) (map (port_dropped port) ps)) Client
    ≡ option_map_or (λ (r : m.Port). r.role) (if p.number == k then Some p else find (λ (r : m.Port). r.number == k) ps) Client)
    (p.number == port) (record p { held = false }) p (λ u. step (record p { held = false }) refl (dropped_roles ps port k))
    (λ u. step p refl (dropped_roles ps port k))
  where
    step : (q : m.Port) → q.role ≡ p.role
        → option_map_or (λ (r : m.Port). r.role) (find (λ (r : m.Port). r.number == k) (map (port_dropped port) ps)) Client
        ≡ option_map_or (λ (r : m.Port). r.role) (find (λ (r : m.Port). r.number == k) ps) Client
        → option_map_or (λ (r : m.Port). r.role) (if p.number == k then Some q else find (λ (r : m.Port). r.number == k) (map (port_dropped port) ps)) Client
        ≡ option_map_or (λ (r : m.Port). r.role) (if p.number == k then Some p else find (λ (r : m.Port). r.number == k) ps) Client
    step q role more =
        by_cases (p.number == k)
        (λ same.
        ap (λ (b : Bool). option_map_or (λ (r : m.Port). r.role) (if b then Some q else find (λ (r : m.Port). r.number == k) (map (port_dropped port) ps)) Client) same
        ∙ role
        ∙ sym (ap (λ (b : Bool). option_map_or (λ (r : m.Port). r.role) (if b then Some p else find (λ (r : m.Port). r.number == k) ps) Client) same))
        (λ other.
        ap (λ (b : Bool). option_map_or (λ (r : m.Port). r.role) (if b then Some q else find (λ (r : m.Port). r.number == k) (map (port_dropped port) ps)) Client) other
        ∙ more
        ∙ sym (ap (λ (b : Bool). option_map_or (λ (r : m.Port). r.role) (if b then Some p else find (λ (r : m.Port). r.number == k) ps) Client) other))

-- the same ports are connected
dropped_any : (ps : List m.Port) (port k : ℕ) → list_any (λ (p : m.Port). p.number == k) (map (port_dropped port) ps) ≡ list_any (λ (p : m.Port). p.number == k) ps
dropped_any [] port k = refl
dropped_any (p ∷ ps) port k =
    either (λ (q : m.Port). (q.number == k || list_any (λ (r : m.Port). r.number == k) (map (port_dropped port) ps)) ≡ (p.number == k || list_any (λ (r : m.Port). r.number == k) ps))
    (p.number == port) (record p { held = false }) p (λ u. ap (λ (b : Bool). p.number == k || b) (dropped_any ps port k)) (λ u. ap (λ (b : Bool). p.number == k || b) (dropped_any ps port k))

-- ---- the course of a release

abbrev Frees : Outcome → Type 0
Frees (Tells reply) = Unit {0}
Frees (Drops h) = Unit {0}
Frees (DropsPort port) = Unit {0}
Frees o = ⊥

abbrev IsFreeing : Doing → Type 0
IsFreeing (Ended o) = Frees o
IsFreeing (Closing h left) = Unit {0}
IsFreeing (Returning h) = Unit {0}
IsFreeing (Leaving h) = Unit {0}
IsFreeing d = ⊥

closing_frees : (h : m.Handle) (left : List Way) → IsFreeing (closing h left)
closing_frees h [] = tt
closing_frees h (w ∷ left) = tt

next_frees : (s : m.State) (i : ℕ) (d : Doing) (a : Moment) → IsFreeing d → (next s i d a).condition → IsFreeing (next s i d a).after
next_frees s i (Closing h left) (Close w id) p c = closing_frees h (without_way w left)
next_frees s i (Returning h) (GiveBack w k) p c =
    either IsFreeing (same_kind h.kind ActiveRequest) (Leaving h) (Ended (Drops h)) (λ u. tt) (λ u. tt)
next_frees s i (Leaving h) (Look w shown) p c = tt
next_frees s i (Leaving h) (Close w id) p c = tt
next_frees s i (Closing h left) a p c = absurd c
next_frees s i (Returning h) a p c = absurd c
next_frees s i (Leaving h) a p c = absurd c
next_frees s i (Ended o) a p c = absurd c
next_frees s i d a p c = absurd p

moves_none : (s : m.State) (i : ℕ) (d : Doing) (a : Moment) → IsFreeing d → (next s i d a).condition → (w : Way) → (moved s a).waiting w ≡ s.waiting w
moves_none s i (Closing h left) (Close v id) p c w = refl
moves_none s i (Returning h) (GiveBack v k) p c w = refl
moves_none s i (Leaving h) (Look v shown) p c w = refl
moves_none s i (Leaving h) (Close v id) p c w = refl
moves_none s i (Closing h left) a p c w = absurd c
moves_none s i (Returning h) a p c w = absurd c
moves_none s i (Leaving h) a p c w = absurd c
moves_none s i (Ended o) a p c w = absurd c
moves_none s i d a p c w = absurd p

by_frees : (s : m.State) (i : ℕ) (d : Doing) (ms : List Moment) → IsFreeing d → MayCome s i d ms
    → IsFreeing (left_by s i d ms) × ((w : Way) → (moved_by s ms).waiting w ≡ s.waiting w)
by_frees s i d [] p may = (p, λ w. refl)
by_frees s i d (a ∷ ms) p may =
    let q : IsFreeing (left_by s i d (a ∷ ms)) × ((w : Way) → (moved_by s (a ∷ ms)).waiting w ≡ (moved s a).waiting w)
    = by_frees (moved s a) i (next s i d a).after ms (next_frees s i d a p may.1) may.2 in
    (q.0, λ w. q.1 w ∙ moves_none s i d a p may.1 w)

handle_frees : (f : m.Fixed) (h : m.Handle) → IsFreeing (releases_handle f h)
handle_frees f h =
    either IsFreeing (is_received h.kind) (returning f h) (if same_kind h.kind PendingResponse then closing h (states_of f h) else Ended (Drops h))
    (λ u. either IsFreeing (forgot_port f h.node (way_of h).sender) (Ended (Drops h)) (Returning h) (λ v. tt) (λ v. tt))
    (λ u. either IsFreeing (same_kind h.kind PendingResponse) (closing h (states_of f h)) (Ended (Drops h)) (λ v. closing_frees h (states_of f h)) (λ v. tt))

begins_frees : (s : m.State) (c : Choice) (n : ℕ) (x : Option Subject) → IsFreeing (option_map_or (begins_at s c (Release n)) x (refused UnknownNumber))
begins_frees s c n None = tt
begins_frees s c n (Some (ThePort p)) = tt
begins_frees s c n (Some (TheHandle h)) = handle_frees s.fixed h

ended_frees : (s : m.State) (d : Doing) (o : Outcome) → IsFreeing d → ends s d ≡ Some o → Frees o
ended_frees s (Ended a) o p e = subst Frees (some-is a o e) p
ended_frees s (Closing h left) o p e = none-some o e
ended_frees s (Returning h) o p e = none-some o e
ended_frees s (Leaving h) o p e = none-some o e
ended_frees s d o p e = absurd p

settled_leaves : (s : m.State) (i : ℕ) (payload : List ℕ) (o : Outcome) → Frees o → LeavesLess s (settled s i payload o)
settled_leaves s i payload (Tells reply) p =
    either (LeavesLess s) (is_nothing reply) (with_fixed s (called s.fixed)) s
    (λ u. record {
      limits = refl;
      ports = λ k there. there;
      roles = λ k there. refl;
      waiting = λ w. same_le (length (s.waiting w));
      borrowed = λ w. same_le (s.fixed.borrowed w);
    })
    (λ u. same_leaves s)
settled_leaves s i payload (Drops h) p =
    then_leaves s (with_fixed s (gives_up (dropped s.fixed h) h)) (released (with_fixed s (gives_up (dropped s.fixed h) h)) h.port) (gives_up_leaves s h)
    (gives_up_roles s.fixed h) (released_leaves (with_fixed s (gives_up (dropped s.fixed h) h)) h.port)
settled_leaves s i payload (DropsPort port) p =
    let v : m.State = with_fixed s (record (s.fixed) { ports = map (port_dropped port) s.fixed.ports }) in
    then_leaves s v (released v port)
    (record {
      limits = refl;
      ports = λ k there. sym (dropped_any s.fixed.ports port k) ∙ there;
      roles = λ k there. dropped_roles s.fixed.ports port k;
      waiting = λ w. same_le (length (s.waiting w));
      borrowed = λ w. same_le (s.fixed.borrowed w);
    })
    (dropped_roles s.fixed.ports port) (released_leaves v port)
settled_leaves s i payload o p = absurd p

done_leaves : (s t : m.State) (node n : ℕ) (reply : Reply) → IsDone s node (Release n) reply t → LeavesLess s t
done_leaves s t node n reply done =
    let d : Doing = start s node done.0 (Release n) in
    let u : m.State = moved_by s done.2 in
    let q = by_frees s node d done.2 (begins_frees s done.0 n (subject s.fixed node n)) done.3 in
    let l : LeavesLess u (settled u node done.6 done.4)
    = settled_leaves u node done.6 done.4 (ended_frees u (left_by s node d done.2) done.4 q.0 done.5) in
    let same : u.fixed ≡ s.fixed = moved_by-fixed s done.2 in
    subst (LeavesLess s) (sym done.9) (record {
      limits = l.limits ∙ ap (λ (f : m.Fixed). f.limits) same;
      ports = λ k there. sym (ap (λ (f : m.Fixed). is_connected_port f k) same) ∙ l.ports k there;
      roles = λ k there. l.roles k there ∙ ap (λ (f : m.Fixed). role_at f k) same;
      waiting = λ w. subst (λ (ms : List Message). length ((settled u node done.6 done.4).waiting w) ≤ length ms) (q.1 w) (l.waiting w);
      borrowed = λ w. subst (λ (f : m.Fixed). (settled u node done.6 done.4).fixed.borrowed w ≤ f.borrowed w) same (l.borrowed w);
    })

unless_leaves : (q : Option Refusal) (s t : m.State) (reply : Reply) (P : Type 0) → (P → LeavesLess s t) → UnlessRefused q s reply t P → LeavesLess s t
unless_leaves (Some r) s t reply P f p = subst (LeavesLess s) (sym p.1) (same_leaves s)
unless_leaves None s t reply P f p = f p

whole_leaves : (s t : m.State) (node n : ℕ) (reply : Reply) → IsWholeCall s node (Release n) reply t → LeavesLess s t
whole_leaves s t node n reply =
    unless_leaves (misnamed s.fixed node (Release n)) s t reply (UnlessRefused (spent s.fixed (Release n)) s reply t (IsDone s node (Release n) reply t))
    (unless_leaves (spent s.fixed (Release n)) s t reply (IsDone s node (Release n) reply t) (done_leaves s t node n reply))

-- ---- of a hub

module _ (old new : HubState) (after : IsHub new) (node n : ℕ) (reply : Reply)
    (whole : (x : Given) → IsWholeCall (state_of_hub x old) node (Release n) reply (state_of_hub x new)) where
  abbrev u : HubTables
  u = new.control.tables

  pub less : LeavesLess (shown old) (shown new)
  less = whole_leaves (shown old) (shown new) node n reply (whole (nothing_given old))

  -- a port that is left has its role
  pub role_is : (k : ℕ) → is_there u.ports k ≡ true → role_at (shown new).fixed k ≡ role_at (shown old).fixed k
  role_is k there = less.roles k (connected_is (given_by (nothing_given new) new) u.ports k ∙ there)

  pub buffers : (w : Way) → is_connected_port (shown new).fixed w.sender ≡ true → (is_connected_port (shown old).fixed w.sender ≡ true → is_full (shown old) w ≡ false)
      → is_full (shown new) w ≡ false
  buffers w connected room =
      let there : is_there u.ports w.sender ≡ true = sym (connected_is (given_by (nothing_given new) new) u.ports w.sender) ∙ connected in
      ap (λ (l : Limits). nat_le (buffer_of l (role_at (shown new).fixed w.sender)) (length ((shown new).waiting w))) less.limits
      ∙ ap (λ (r : Role). nat_le (buffer_of (shown old).fixed.limits r) (length ((shown new).waiting w))) (role_is w.sender there)
      ∙ less_full (buffer_on (shown old).fixed w) (length ((shown new).waiting w)) (length ((shown old).waiting w)) (less.waiting w) (room (less.ports w.sender connected))

  borrows : (w : Way) → is_at_limit (shown old).fixed w ≡ false → is_at_limit (shown new).fixed w ≡ false
  borrows w room =
      by_cases (is_there u.ports w.receiver)
      (λ there.
      ap (λ (l : Limits). nat_le (borrow_limit_of l (other_role (role_at (shown new).fixed w.receiver))) ((shown new).fixed.borrowed w)) less.limits
      ∙ ap (λ (r : Role). nat_le (borrow_limit_of (shown old).fixed.limits (other_role r)) ((shown new).fixed.borrowed w)) (role_is w.receiver there)
      ∙ less_full (borrow_limit_on (shown old).fixed w) ((shown new).fixed.borrowed w) ((shown old).fixed.borrowed w) (less.borrowed w) room)
      (λ gone. may_have_one new after w (inl gone))

  -- A release leaves room to each receiver that had it.
  pub release_keeps_room : KeepsRoom old new
  release_keeps_room x room = record {
    buffers = λ sender there. buffers (way_to x sender) there (room.buffers sender);
    borrows = λ sender. borrows (way_to x sender) (room.borrows sender);
  }
