-- A release takes its value and no other, so the releases of all values of a node leave it none.
use Rattle.std.specs.Prelude.{◌≡◌, ℕ, ◌-◌, Bool, true, false, not, ◌&&◌, if◌then◌else◌, ◌==◌, List, [], ◌∷◌, ◌++◌, map, filter, Option, Some, None, refl}
use Rattle.std.specs.Option.{option_map_or}
use Rattle.std.proofs.Common.{sym, subst, ap, ◌∙◌, true≢false, eqb-true, inl, inr}
use Rattle.iox_model.specs.declared.call.Call.TheVariants.{Release}
use Rattle.iox_model.specs.declared.reply.Refusal.TheVariants.{UnknownNumber}
use Rattle.iox_model.specs.declared.reply.Reply.TheVariants.{Done}
use Rattle.iox_model.specs.Begins.{begins_at, start}
use Rattle.iox_model.specs.Commands.{Refusal}
use Rattle.iox_model.specs.Counts.{is_same_handle, without_handle, dropped, gives_up, with_fixed}
use Rattle.iox_model.specs.Doings.{refused, Outcome, Drops, DropsPort, Doing, Ended}
use Rattle.iox_model.specs.Ends.{port_dropped, settled}
use Rattle.iox_model.specs.Expiries.{disconnected, is_last_gone, released}
use Rattle.iox_model.specs.Handles.{handle_at, is_received, node_of, port_or_handle, subject, way_of, Subject, ThePort, TheHandle}
use Rattle.iox_model.specs.Maps.{put, put_at}
use Rattle.iox_model.specs.Moments.{Moment}
use Rattle.iox_model.specs.Names.{misnamed}
use Rattle.iox_model.specs.Peers.{port_at}
use Rattle.iox_model.specs.Releases.{releases_handle}
use Rattle.iox_model.specs.Services.{numbers_of_node, Releases}
use Rattle.iox_model.specs.States.{Port, Handle, Fixed, State}
use Rattle.iox_model.specs.Transitions.{next, ends}
use Rattle.iox_model.specs.WholeCalls.{moved_by, left_by, MayCome, UnlessRefused, spent, IsDone, IsWholeCall}
use Rattle.iox_laws.proofs.WeaveLaws.MapLemmas.{either, eqb-refl}
use Rattle.iox_laws.proofs.WeaveLaws.WholeLemmas.{moved_by-fixed, put_at-here, some-is}
use Rattle.iox_laws.proofs.WeaveLedger.Truths.{none-some, never}
use Rattle.iox_laws.proofs.WeaveLedger.Lists.{IsAmong, among-any, among-filter, among-front, among-back, among-map, filter-among, find-among, map-among}
use Rattle.iox_laws.proofs.WeaveLedger.Starts.{named-by, IsNamedBy}
use Rattle.iox_laws.proofs.WeaveWorlds.Fillings.{named_among}
use Rattle.iox_laws.proofs.RunLaws.Cleanups.{IsValue, IsReleaseOf, releases_is, left_is, ends_with}
use Rattle.iox_laws.proofs.RunLaws.Ports.{any_at}
use Rattle.iox_laws.proofs.RunLaws.Rests.{Rests}
use Rattle.iox_laws.proofs.RunLaws.Runs.{whole_calm}
use Rattle.iox_laws.proofs.RunLaws.Settling.{Calm}
use Rattle.iox_laws.proofs.RunLaws.Values.{numbers_are_values}
use Rattle.iox_laws.proofs.ServiceLaws.Joins.{never_refused}
use Rattle.iox_laws.proofs.ServiceLaws.Ordered.{among-ascending}

-- a call that ends at once makes no moment
at_once : (s : State) (node : ℕ) (d : Doing) (o q : Outcome) (ms : List Moment) → d ≡ Ended o → MayCome s node d ms
    → ends (moved_by s ms) (left_by s node d ms) ≡ Some q → q ≡ o
at_once s node d o q [] is may e = sym (some-is o q (sym (ap (ends s) is) ∙ e))
at_once s node d o q (m ∷ ms) is may e = absurd (ended o m (subst (λ x. (next s node x m).condition) is may.1))
  where
    ended : (o : Outcome) (m : Moment) → (next s node (Ended o) m).condition → ⊥
    ended o m c = absurd c

-- ---- what a release takes

-- the node has no more values than it had, and not that of the number
abbrev Takes : Fixed → Fixed → ℕ → ℕ → Type 0
Takes f g node n = (k : ℕ) → IsValue g node k → IsValue f node k × (k ≡ n → ⊥)

released_takes : (f : Fixed) (s : State) (node n port : ℕ) → Takes f s.fixed node n → Takes f (released s port).fixed node n
released_takes f s node n port p =
    either (λ (t : State). Takes f t.fixed node n) (is_last_gone s.fixed port) (disconnected s port) s (λ last. gone) (λ u. p)
  where
    gone : Takes f (disconnected s port).fixed node n
    gone k (inl q) = p k (inl (q.0, (filter-among (λ r. not (r.number == port)) q.0 s.fixed.ports q.1).0, q.2, q.3, q.4))
    gone k (inr q) = p k (inr q)

given_takes : (f g : Fixed) (node n : ℕ) (h : Handle) → Takes f g node n → Takes f (gives_up g h) node n
given_takes f g node n h p =
    either (λ x. Takes f x node n) (is_received h.kind) (record g { borrowed = put g.borrowed (way_of h) (g.borrowed (way_of h) - 1) }) g (λ u. p) (λ u. p)

dropped_takes : (f : Fixed) (node n : ℕ) (h : Handle) → Rests f → IsAmong h (f.handles node) → h.number ≡ n → h.node ≡ node
    → Takes f (dropped f h) node n
dropped_takes f node n h r among is of_node k (inl q) = (
  inl q,
  λ same. never (any_at h.number f.ports)
      (among-any (λ p. p.number == h.number) q.0 f.ports q.1
      (subst (λ j. (j == h.number) ≡ true) (is ∙ sym same ∙ sym q.2) (eqb-refl h.number)))
      ((r.handles node).each h among).no_port,
)
dropped_takes f node n h r among is of_node k (inr q) =
    let here : IsAmong q.0 (without_handle h (f.handles node))
    = subst (λ (hs : List Handle). IsAmong q.0 hs)
    (subst (λ j. put_at f.handles j (without_handle h (f.handles j)) node ≡ without_handle h (f.handles node)) (sym of_node)
    (put_at-here f.handles node (without_handle h (f.handles node)))) q.1 in
    let t : IsAmong q.0 (f.handles node) × (not (is_same_handle h q.0) ≡ true)
    = filter-among (λ j. not (is_same_handle h j)) q.0 (f.handles node) here in (
      inr (q.0, t.0, q.2),
      λ same. never (not ((q.0).number == h.number)) t.1
          (ap not (subst (λ j. ((q.0).number == j) ≡ true) (q.2 ∙ same ∙ sym is) (eqb-refl (q.0).number))),
    )

value_takes : (f : Fixed) (node n : ℕ) → Rests f → any_at n f.ports ≡ true → Takes f (record f { ports = map (port_dropped n) f.ports }) node n
value_takes f node n r there k (inl q) =
    let old : (p : Port) × IsAmong p f.ports × (q.0 ≡ port_dropped n p) = map-among (port_dropped n) q.0 f.ports q.1 in
    kept old.0 old.1 (old.0.number == n) refl
    (subst (λ (p : Port). p.number ≡ k) old.2 q.2) (subst (λ (p : Port). p.node ≡ node) old.2 q.3) (subst (λ (p : Port). p.held ≡ true) old.2 q.4)
  where
    kept : (p : Port) → IsAmong p f.ports → (b : Bool) → (p.number == n) ≡ b → (if b then record p { held = false } else p).number ≡ k
        → (if b then record p { held = false } else p).node ≡ node → (if b then record p { held = false } else p).held ≡ true
        → IsValue f node k × (k ≡ n → ⊥)
    kept p among true same is of_node held = absurd (true≢false (sym held))
    kept p among false other is of_node held = (
      inl (p, among, is, of_node, held),
      λ same. true≢false (sym (subst (λ j. (p.number == j) ≡ true) (is ∙ same) (eqb-refl p.number)) ∙ other),
    )
value_takes f node n r there k (inr q) = (
  inr q,
  λ same. never (any_at n f.ports) there (subst (λ j. any_at j f.ports ≡ false) (q.2 ∙ same) ((r.handles node).each q.0 q.1).no_port),
)

-- ---- a release

port_found : (n : ℕ) (o : Option Port) (h : Option Handle) (p : Port) → port_or_handle o h ≡ Some (ThePort p) → o ≡ Some p
port_found n (Some q) h p e =
    either (λ (x : Option Subject). x ≡ Some (ThePort p) → Some q ≡ Some p) q.held (Some (ThePort q)) None
    (λ u g. ap (λ x. Some (the_port q x)) (some-is (ThePort q) (ThePort p) g)) (λ u g. none-some (ThePort p) g) e
  where
    the_port : Port → Subject → Port
    the_port d (ThePort x) = x
    the_port d (TheHandle x) = d
port_found n None (Some k) p e = absurd (subst IsAPort (sym (some-is (TheHandle k) (ThePort p) e)) tt)
  where
    IsAPort : Subject → Type 0
    IsAPort (ThePort x) = Unit {0}
    IsAPort (TheHandle x) = ⊥
port_found n None None p e = none-some (ThePort p) e

pub handle_found : (n : ℕ) (o : Option Port) (g : Option Handle) (h : Handle) → port_or_handle o g ≡ Some (TheHandle h) → g ≡ Some h
handle_found n (Some q) g h e =
    either (λ (x : Option Subject). x ≡ Some (TheHandle h) → g ≡ Some h) q.held (Some (ThePort q)) None
    (λ u r. absurd (subst IsAHandle (sym (some-is (ThePort q) (TheHandle h) r)) tt)) (λ u r. none-some (TheHandle h) r) e
  where
    IsAHandle : Subject → Type 0
    IsAHandle (ThePort x) = ⊥
    IsAHandle (TheHandle x) = Unit {0}
handle_found n None (Some k) h e = ap (λ x. Some (the_handle k x)) (some-is (TheHandle k) (TheHandle h) e)
  where
    the_handle : Handle → Subject → Handle
    the_handle d (ThePort x) = d
    the_handle d (TheHandle x) = x
handle_found n None None h e = none-some (TheHandle h) e

subject_takes : (s : State) (node n : ℕ) (t : State) (x : Subject) → Calm s → subject s.fixed node n ≡ Some x → node_of x ≡ node
    → IsDone s node (Release n) Done t → Takes s.fixed t.fixed node n
subject_takes s node n t (ThePort p) r is of_node d =
    let at : port_at s.fixed n ≡ Some p = port_found n (port_at s.fixed n) (handle_at s.fixed node n) p is in
    let found : IsAmong p s.fixed.ports × ((p.number == n) ≡ true) = find-among (λ q. q.number == n) p s.fixed.ports at in
    let o : d.4 ≡ DropsPort p.number
    = at_once s node (start s node d.0 (Release n)) (DropsPort p.number) d.4 d.2
    (ap (λ x. option_map_or (begins_at s d.0 (Release n)) x (refused UnknownNumber)) is) d.3 d.5 in
    let u : State = moved_by s d.2 in
    let same : u.fixed ≡ s.fixed = moved_by-fixed s d.2 in
    subst (λ (v : State). Takes s.fixed v.fixed node n) (sym (d.9 ∙ ap (settled u node d.6) (o ∙ ap (λ k. DropsPort k) (eqb-true p.number n found.1))))
    (released_takes s.fixed (with_fixed u (record (u.fixed) { ports = map (port_dropped n) u.fixed.ports })) node n n
    (subst (λ (f : Fixed). Takes s.fixed (record f { ports = map (port_dropped n) f.ports }) node n) (sym same)
    (value_takes s.fixed node n (r.rests).fixed (among-any (λ q. q.number == n) p s.fixed.ports found.0 found.1))))
subject_takes s node n t (TheHandle h) r is of_node d =
    let first : Doing = start s node d.0 (Release n) in
    let at : IsAmong h (s.fixed.handles node) × (h.number ≡ n)
    = named_among s.fixed node n h (handle_found n (port_at s.fixed n) (handle_at s.fixed node n) h is) in
    let begins : first ≡ releases_handle s.fixed h = ap (λ x. option_map_or (begins_at s d.0 (Release n)) x (refused UnknownNumber)) is in
    let u : State = moved_by s d.2 in
    let o : d.4 ≡ Drops h
    = ends_with h u (left_by s node first d.2) d.4 (left_is h s node first d.2 (subst (IsReleaseOf h) (sym begins) (releases_is s.fixed h)) d.3) d.5 in
    subst (λ (v : State). Takes s.fixed v.fixed node n) (sym (d.9 ∙ ap (settled u node d.6) o))
    (released_takes s.fixed (with_fixed u (gives_up (dropped u.fixed h) h)) node n h.port
    (given_takes s.fixed (dropped u.fixed h) node n h
    (subst (λ f. Takes s.fixed (dropped f h) node n) (sym (moved_by-fixed s d.2)) (dropped_takes s.fixed node n h (r.rests).fixed at.0 at.1 of_node))))

release_takes : (s : State) (node n : ℕ) (t : State) → Calm s → IsWholeCall s node (Release n) Done t → Takes s.fixed t.fixed node n
release_takes s node n t r = unrefused (misnamed s.fixed node (Release n)) refl
  where
    unrefused : (q : Option Refusal) → misnamed s.fixed node (Release n) ≡ q
        → UnlessRefused q s Done t (UnlessRefused (spent s.fixed (Release n)) s Done t (IsDone s node (Release n) Done t))
        → Takes s.fixed t.fixed node n
    unrefused (Some x) e u = never_refused x Done (Takes s.fixed t.fixed node n) (λ p. p) (sym u.0)
    unrefused None e d =
        let x : IsNamedBy s.fixed node (Release n) (subject s.fixed node n) = named-by s.fixed node (Release n) (subject s.fixed node n) e in
        subject_takes s node n t x.named r x.is x.of_node d

-- ---- all of them

takes_all : (node : ℕ) (ns : List ℕ) (s t : State) → Calm s → Releases s node ns t → (k : ℕ) → IsValue t.fixed node k
    → IsValue s.fixed node k × (IsAmong k ns → ⊥)
takes_all node [] s t r e k value = (subst (λ (v : State). IsValue v.fixed node k) e value, λ p. p)
takes_all node (n ∷ ns) s t r e k value =
    let rest : IsValue (e.0).fixed node k × (IsAmong k ns → ⊥)
    = takes_all node ns e.0 t (whole_calm s node (Release n) Done e.0 r e.1) e.2 k value in
    let first : IsValue s.fixed node k × (k ≡ n → ⊥) = release_takes s node n e.0 r e.1 k rest.0 in
    (first.0, λ among. elim among as (λ u. ⊥) [ inl e ↦ first.1 e | inr p ↦ rest.1 p ])

pub values_are_numbers : (f : Fixed) (node k : ℕ) → IsValue f node k → IsAmong k (numbers_of_node f node)
values_are_numbers f node k value = among-ascending k (ports ++ handles) (all value)
  where
    ports : List ℕ
    ports = map (λ p. p.number) (filter (λ p. (p.node == node) && p.held) f.ports)

    handles : List ℕ
    handles = map (λ h. h.number) (f.handles node)

    all : IsValue f node k → IsAmong k (ports ++ handles)
    all (inl q) =
        among-front k ports handles (subst (λ j. IsAmong j ports) q.2
        (among-map (λ (p : Port). p.number) q.0 (filter (λ p. (p.node == node) && p.held) f.ports)
        (among-filter (λ (p : Port). (p.node == node) && p.held) q.0 f.ports q.1
        (subst (λ j. (((q.0).node == j) && (q.0).held) ≡ true) q.3 (ap (λ b. b && (q.0).held) (eqb-refl (q.0).node) ∙ q.4)))))
    all (inr q) = among-back k ports handles (subst (λ j. IsAmong j handles) q.2 (among-map (λ (h : Handle). h.number) q.0 (f.handles node) q.1))

pub none_there : {A : Type 0} (xs : List A) → ((a : A) → IsAmong a xs → ⊥) → xs ≡ []
none_there [] none = refl
none_there (x ∷ xs) none = absurd (none x (inl refl))

-- Nothing is left.
pub nothing_left : (s t : State) (node : ℕ) → Calm s → Releases s node (numbers_of_node s.fixed node) t → numbers_of_node t.fixed node ≡ []
nothing_left s t node r e =
    none_there (numbers_of_node t.fixed node) (λ k among.
    let q : IsValue s.fixed node k × (IsAmong k (numbers_of_node s.fixed node) → ⊥)
    = takes_all node (numbers_of_node s.fixed node) s t r e k (numbers_are_values t.fixed node k among) in
    q.1 (values_are_numbers s.fixed node k q.0))
