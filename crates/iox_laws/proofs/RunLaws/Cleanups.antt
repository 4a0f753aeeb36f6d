-- A cleanup is answered: each value of the node is released, one after another.
use Rattle.std.specs.Prelude.{◌≡◌, ℕ, ◌-◌, Bool, true, false, not, ◌&&◌, if◌then◌else◌, ◌==◌, List, [], ◌∷◌, map, Option, Some, None, find, ◌⊎◌, refl}
use Rattle.std.specs.List.{list_any}
use Rattle.std.specs.Option.{option_map_or}
use Rattle.std.proofs.Common.{sym, subst, ap, ap₂, ◌∙◌, eqb-true, inl, inr}
use Rattle.iox_model.specs.declared.call.Call.TheVariants.{Release}
use Rattle.iox_model.specs.declared.kind.Kind.TheVariants.{PendingResponse, ActiveRequest}
use Rattle.iox_model.specs.declared.reply.Refusal.TheVariants.{ForeignNumber, WrongKind, UnknownNumber}
use Rattle.iox_model.specs.declared.reply.Reply.TheVariants.{Done}
use Rattle.iox_model.specs.declared.way.Way.{Way}
use Rattle.iox_model.specs.Begins.{begins_at, start}
use Rattle.iox_model.specs.Commands.{Refusal}
use Rattle.iox_model.specs.Counts.{is_same_handle, without_handle, dropped, gives_up, with_fixed}
use Rattle.iox_model.specs.Doings.{refused, Outcome, Drops, DropsPort, Doing, Ended, Closing, Returning, Leaving}
use Rattle.iox_model.specs.Ends.{port_dropped, settled}
use Rattle.iox_model.specs.Expiries.{disconnected, is_last_gone, released}
use Rattle.iox_model.specs.Handles.{handle_at, handles_of, is_received, same_kind, kind_of, node_of, port_or_handle, subject, way_of, Subject, ThePort, TheHandle}
use Rattle.iox_model.specs.Loans.{Choice}
use Rattle.iox_model.specs.Maps.{is_empty, or_else, put, put_at, refused_if}
use Rattle.iox_model.specs.Moments.{moved, Moment, GiveBack, Close, Look}
use Rattle.iox_model.specs.Names.{misnamed, misnamed_by, is_port}
use Rattle.iox_model.specs.Peers.{forgot_port}
use Rattle.iox_model.specs.Releases.{states_of, closing, returning, releases_handle}
use Rattle.iox_model.specs.Services.{Releases}
use Rattle.iox_model.specs.States.{Port, Handle, Fixed, State}
use Rattle.iox_model.specs.Transitions.{next, ends}
use Rattle.iox_model.specs.WholeCalls.{moved_by, left_by, MayCome, UnlessRefused, IsDone, IsWholeCall}
use Rattle.iox_model.specs.Maps.{without_way}
use Rattle.iox_laws.proofs.WeaveLaws.CallLaws.{not-true}
use Rattle.iox_laws.proofs.WeaveLaws.MapLemmas.{either, eqb-refl}
use Rattle.iox_laws.proofs.WeaveLaws.WholeLemmas.{split}
use Rattle.iox_laws.proofs.WeaveLaws.WholeLemmas.{moved_by-fixed, some-is, put_at-here}
use Rattle.iox_laws.proofs.WeaveLedger.Truths.{false_if, never, none-some}
use Rattle.iox_laws.proofs.WeaveLedger.Lists.{IsAmong, NoRepeats, among-filter, among-map, among-any, distinct-no_repeats, find-own}
use Rattle.iox_laws.specs.RunLaws.Answering.{ComesToAnEnd}
use Rattle.iox_laws.proofs.RunLaws.Runs.{whole_calm}
use Rattle.iox_laws.proofs.RunLaws.Ports.{any_at, none_at, others_than}
use Rattle.iox_laws.proofs.RunLaws.Rests.{FitsHandle, Rests}
use Rattle.iox_laws.proofs.RunLaws.Settling.{Calm}
use Rattle.iox_laws.proofs.RunLaws.Calls.{call_ends}

-- ---- the values of a node

-- the number is that of a port of the node whose value is not released, or of a handle of the node
abbrev pub IsValue : Fixed → ℕ → ℕ → Type 0
IsValue f node n =
    ((p : Port) × IsAmong p f.ports × (p.number ≡ n) × (p.node ≡ node) × (p.held ≡ true))
    ⊎ ((h : Handle) × IsAmong h (f.handles node) × (h.number ≡ n))

-- so the number names it
port_named : (f : Fixed) (node n : ℕ) (p : Port) → Rests f → IsAmong p f.ports → p.number ≡ n → p.held ≡ true → subject f node n ≡ Some (ThePort p)
port_named f node n p r among is held =
    ap (λ o. port_or_handle o (handle_at f node n))
    (subst (λ k. find (λ q. q.number == k) f.ports ≡ Some p) is
    (find-own (λ (q : Port). q.number) f.ports p (distinct-no_repeats (map (λ q. q.number) f.ports) (r.numbered).0) among))
    ∙ ap (λ (b : Bool). if b then Some (ThePort p) else None) held

pub handle_named : (f : Fixed) (node n : ℕ) (h : Handle) → Rests f → IsAmong h (f.handles node) → h.number ≡ n → subject f node n ≡ Some (TheHandle h)
handle_named f node n h r among is =
    ap₂ port_or_handle
    (none_at n f.ports (subst (λ k. any_at k f.ports ≡ false) is ((r.handles node).each h among).no_port))
    (subst (λ k. find (λ j. j.number == k) (f.handles node) ≡ Some h) is (find-own (λ (j : Handle). j.number) (f.handles node) h (r.handles node).apart among))

-- and a release of it is not refused
release_suits : (f : Fixed) (node n : ℕ) (x : Subject) → f.on_wire ≡ false → subject f node n ≡ Some x → node_of x ≡ node → misnamed f node (Release n) ≡ None
release_suits f node n x hub is of_node =
    ap (misnamed_by f node (Release n)) is
    ∙ ap₂ (λ (a b : Bool). or_else (refused_if {A = Refusal} (not a) ForeignNumber) (refused_if (not (not (b && is_port (kind_of x)))) WrongKind))
    (subst (λ k. (k == node) ≡ true) (sym of_node) (eqb-refl node)) hub

-- ---- what a release of a handle leads to

abbrev pub IsReleaseOf : Handle → Doing → Type 0
IsReleaseOf h (Ended (Drops g)) = g ≡ h
IsReleaseOf h (Closing g left) = g ≡ h
IsReleaseOf h (Returning g) = g ≡ h
IsReleaseOf h (Leaving g) = g ≡ h
IsReleaseOf h d = ⊥

closing_is : (h g : Handle) (left : List Way) → g ≡ h → IsReleaseOf h (closing g left)
closing_is h g [] e = e
closing_is h g (w ∷ left) e = e

pub releases_is : (f : Fixed) (h : Handle) → IsReleaseOf h (releases_handle f h)
releases_is f h =
    either (IsReleaseOf h) (is_received h.kind) (returning f h) (if same_kind h.kind PendingResponse then closing h (states_of f h) else Ended (Drops h))
    (λ u. either (IsReleaseOf h) (forgot_port f h.node (way_of h).sender) (Ended (Drops h)) (Returning h) (λ v. refl) (λ v. refl))
    (λ u. either (IsReleaseOf h) (same_kind h.kind PendingResponse) (closing h (states_of f h)) (Ended (Drops h))
    (λ v. closing_is h h (states_of f h) refl) (λ v. refl))

moved_is : (h : Handle) (s : State) (node : ℕ) (d : Doing) (m : Moment) → IsReleaseOf h d → (next s node d m).condition → IsReleaseOf h (next s node d m).after
moved_is h s node (Ended o) m p c = absurd c
moved_is h s node (Closing g left) (Close w id) p c = closing_is h g (without_way w left) p
moved_is h s node (Closing g left) m p c = absurd c
moved_is h s node (Returning g) (GiveBack w k) p c =
    either (IsReleaseOf h) (same_kind g.kind ActiveRequest) (Leaving g) (Ended (Drops g)) (λ u. p) (λ u. p)
moved_is h s node (Returning g) m p c = absurd c
moved_is h s node (Leaving g) (Look w shown) p c = p
moved_is h s node (Leaving g) (Close w id) p c = p
moved_is h s node (Leaving g) m p c = absurd c
moved_is h s node d m p c = absurd p

pub left_is : (h : Handle) (s : State) (node : ℕ) (d : Doing) (ms : List Moment) → IsReleaseOf h d → MayCome s node d ms → IsReleaseOf h (left_by s node d ms)
left_is h s node d [] p may = p
left_is h s node d (m ∷ ms) p may = left_is h (moved s m) node (next s node d m).after ms (moved_is h s node d m p may.1) may.2

pub ends_with : (h : Handle) (t : State) (d : Doing) (o : Outcome) → IsReleaseOf h d → ends t d ≡ Some o → o ≡ Drops h
ends_with h t (Ended (Drops g)) o p e = sym (some-is (Drops g) o e) ∙ ap (λ k. Drops k) p
ends_with h t (Closing g left) o p e = none-some o e
ends_with h t (Returning g) o p e = none-some o e
ends_with h t (Leaving g) o p e = none-some o e
ends_with h t d o p e = absurd p

-- ---- the other values stay

abbrev Others : Fixed → Fixed → ℕ → ℕ → Type 0
Others f g node n = (k : ℕ) → (k == n) ≡ false → IsValue f node k → IsValue g node k

differ : (a b k n : ℕ) → a ≡ k → b ≡ n → (k == n) ≡ false → (a == b) ≡ false
differ a b k n e f other = ap₂ (λ x y. x == y) e f ∙ other

dropped_others : (f : Fixed) (node n : ℕ) (h : Handle) → h.number ≡ n → h.node ≡ node → Others f (dropped f h) node n
dropped_others f node n h is of_node k other (inl p) = inl p
dropped_others f node n h is of_node k other (inr q) =
    inr (
      q.0,
      subst (λ (hs : List Handle). IsAmong q.0 hs) (sym here)
          (among-filter (λ j. not (is_same_handle h j)) q.0 (f.handles node) q.1 (ap not (differ (q.0).number h.number k n q.2 is other))),
      q.2,
    )
  where
    here : put_at f.handles h.node (without_handle h (f.handles h.node)) node ≡ without_handle h (f.handles node)
    here =
        subst (λ j. put_at f.handles j (without_handle h (f.handles j)) node ≡ without_handle h (f.handles node)) (sym of_node)
        (put_at-here f.handles node (without_handle h (f.handles node)))

given_others : (f g : Fixed) (node n : ℕ) (h : Handle) → Others f g node n → Others f (gives_up g h) node n
given_others f g node n h p =
    either (λ x. Others f x node n) (is_received h.kind) (record g { borrowed = put g.borrowed (way_of h) (g.borrowed (way_of h) - 1) }) g (λ u. p) (λ u. p)

-- a port that goes has no value
stays_among : (f : Fixed) (gone : ℕ) (p : Port) → is_last_gone f gone ≡ true → IsAmong p f.ports → p.held ≡ true → IsAmong p (others_than gone f.ports)
stays_among f gone p last among held =
    among-filter (λ q. not (q.number == gone)) p f.ports among
    (ap not (false_if (p.number == gone) (λ is. never (list_any (λ q. (q.number == gone) && q.held) f.ports)
    (among-any (λ q. (q.number == gone) && q.held) p f.ports among (ap (λ b. b && p.held) is ∙ held))
    (not-true (list_any (λ q. (q.number == gone) && q.held) f.ports)
    (split (not (list_any (λ q. (q.number == gone) && q.held) f.ports)) (is_empty (handles_of f gone))
    (split (not f.on_wire) (not (list_any (λ q. (q.number == gone) && q.held) f.ports) && is_empty (handles_of f gone)) last).1).0))))

released_others : (f : Fixed) (s : State) (node n port : ℕ) → Others f s.fixed node n → Others f (released s port).fixed node n
released_others f s node n port p =
    either (λ (t : State). Others f t.fixed node n) (is_last_gone s.fixed port) (disconnected s port) s
    (λ last k other value. elim (p k other value) as (λ u. IsValue (disconnected s port).fixed node k) [
      | inl q ↦ inl (q.0, stays_among s.fixed port q.0 last q.1 q.4, q.2, q.3, q.4)
      | inr q ↦ inr q
    ])
    (λ u. p)

value_others : (f : Fixed) (node n : ℕ) → Others f (record f { ports = map (port_dropped n) f.ports }) node n
value_others f node n k other (inl q) =
    inl (
      q.0,
      subst (λ (p : Port). IsAmong p (map (port_dropped n) f.ports)) same (among-map (port_dropped n) q.0 f.ports q.1),
      q.2,
      q.3,
      q.4,
    )
  where
    same : port_dropped n q.0 ≡ q.0
    same = ap (λ (b : Bool). if b then record (q.0) { held = false } else q.0) (differ (q.0).number n k n q.2 refl other)
value_others f node n k other (inr q) = inr q

-- ---- the release of a value

-- a release that is answered, after which the node has its other values still
abbrev pub Released : State → ℕ → ℕ → Type 0
Released s node n = (t : State) × IsWholeCall s node (Release n) Done t × Others s.fixed t.fixed node n

abbrev choice : Choice
choice = record { lane = 0; memory = true }

whole : (s : State) (node n : ℕ) (t : State) → misnamed s.fixed node (Release n) ≡ None → IsDone s node (Release n) Done t
    → IsWholeCall s node (Release n) Done t
whole s node n t named done = unrefused (misnamed s.fixed node (Release n)) named
  where
    unrefused : (q : Option Refusal) → q ≡ None → UnlessRefused q s Done t (IsDone s node (Release n) Done t)
    unrefused None e = done
    unrefused (Some r) e = none-some r (sym e)

port_released : (s : State) (node n : ℕ) (p : Port) → Calm s → IsAmong p s.fixed.ports → p.number ≡ n → p.node ≡ node → p.held ≡ true → Released s node n
port_released s node n p r among is of_node held =
    let named : subject s.fixed node n ≡ Some (ThePort p) = port_named s.fixed node n p (r.rests).fixed among is held in
    let d : start s node choice (Release n) ≡ Ended (DropsPort p.number)
    = ap (λ x. option_map_or (begins_at s choice (Release n)) x (refused UnknownNumber)) named in
    let t : State = settled s node [] (DropsPort p.number) in (
      t,
      whole s node n t (release_suits s.fixed node n (ThePort p) ((r.rests).fixed).hub named of_node)
          (choice, (refl, refl), [], tt, DropsPort p.number, ap (ends s) d, [], tt, refl, refl),
      released_others s.fixed (with_fixed s (record (s.fixed) { ports = map (port_dropped p.number) s.fixed.ports })) node n p.number
          (subst (λ k. Others s.fixed (record (s.fixed) { ports = map (port_dropped k) s.fixed.ports }) node n) (sym is) (value_others s.fixed node n)),
    )

handle_released : (s : State) (node n : ℕ) (h : Handle) → Calm s → IsAmong h (s.fixed.handles node) → h.number ≡ n → Released s node n
handle_released s node n h r among is =
    let fits : FitsHandle s.fixed.ports s.fixed.next_number node h = (((r.rests).fixed).handles node).each h among in
    let subject_is : subject s.fixed node n ≡ Some (TheHandle h) = handle_named s.fixed node n h (r.rests).fixed among is in
    let named : misnamed s.fixed node (Release n) ≡ None = release_suits s.fixed node n (TheHandle h) ((r.rests).fixed).hub subject_is fits.of_node in
    let d : start s node choice (Release n) ≡ releases_handle s.fixed h
    = ap (λ x. option_map_or (begins_at s choice (Release n)) x (refused UnknownNumber)) subject_is in
    let e : ComesToAnEnd s node (start s node choice (Release n)) = call_ends s node choice (Release n) [] r named tt in
    let o : e.2 ≡ Drops h
    = ends_with h (moved_by s e.0) (left_by s node (start s node choice (Release n)) e.0) e.2
    (left_is h s node (start s node choice (Release n)) e.0 (subst (IsReleaseOf h) (sym d) (releases_is s.fixed h)) e.1) e.3 in
    let u : State = moved_by s e.0 in
    let t : State = settled u node [] (Drops h) in (
      t,
      whole s node n t named (choice, (refl, refl), e.0, e.1, Drops h, e.3 ∙ ap (λ x. Some x) o, [], tt, refl, refl),
      released_others s.fixed (with_fixed u (gives_up (dropped u.fixed h) h)) node n h.port
          (given_others s.fixed (dropped u.fixed h) node n h
          (subst (λ f. Others s.fixed (dropped f h) node n) (sym (moved_by-fixed s e.0)) (dropped_others s.fixed node n h is fits.of_node))),
    )

pub value_released : (s : State) (node n : ℕ) → Calm s → IsValue s.fixed node n → Released s node n
value_released s node n r (inl q) = port_released s node n q.0 r q.1 q.2 q.3 q.4
value_released s node n r (inr q) = handle_released s node n q.0 r q.1 q.2

-- ---- all of them

pub all_released : (node : ℕ) (ns : List ℕ) (s : State) → Calm s → NoRepeats ns → ((k : ℕ) → IsAmong k ns → IsValue s.fixed node k)
    → (t : State) × Releases s node ns t
all_released node [] s r d each = (s, refl)
all_released node (n ∷ ns) s r d each =
    let first : Released s node n = value_released s node n r (each n (inl refl)) in
    let rest : (t : State) × Releases first.0 node ns t
    = all_released node ns first.0 (whole_calm s node (Release n) Done first.0 r first.1) d.1
    (λ k among. first.2 k (false_if (k == n) (λ same. d.0 (subst (λ j. IsAmong j ns) (eqb-true k n same) among))) (each k (inr among))) in
    (rest.0, (first.0, first.1, rest.1))
