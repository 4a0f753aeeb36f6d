-- A port that is connected is held, or a handle of its node belongs to it.
use Rattle.std.specs.Prelude.{◌≡◌, ℕ, ◌-◌, Bool, true, false, not, ◌&&◌, if◌then◌else◌, ◌==◌, List, [], ◌∷◌, ◌++◌, map, None, ◌⊎◌, refl}
use Rattle.std.specs.List.{list_any}
use Rattle.std.specs.Option.{option_map_or}
use Rattle.std.proofs.Common.{sym, subst, ap, ap₂, ◌∙◌, true≢false, eqb-true, eq-eqb, inl, inr}
use Rattle.iox_model.specs.Begins.{start}
use Rattle.iox_model.specs.Commands.{Reply, Call}
use Rattle.iox_model.specs.Counts.{is_same_handle, with_handle, without_handle, added, changed, dropped, numbered, called, gives_up, with_fixed, sent_handle, received_handle, holding}
use Rattle.iox_model.specs.Doings.{Outcome, Tells, Loans, Fills, Sends, FailsToSend, Receives, Drops, DropsPort, Forgets, Doing}
use Rattle.iox_model.specs.Ends.{is_nothing, port_dropped, settled}
use Rattle.iox_model.specs.Expiries.{disconnected, is_last_gone, released}
use Rattle.iox_model.specs.Handles.{handles_of, is_received, is_request_loan, way_of}
use Rattle.iox_model.specs.Makings.{new_port}
use Rattle.iox_model.specs.Maps.{is_empty, put, put_at}
use Rattle.iox_model.specs.Names.{misnamed}
use Rattle.iox_model.specs.Peers.{node_of_port}
use Rattle.iox_model.specs.States.{Port, Handle, Fixed, State}
use Rattle.iox_model.specs.Values.{filled_as}
use Rattle.iox_model.specs.WholeCalls.{moved_by, left_by, IsDone}
use Rattle.iox_laws.proofs.WeaveLaws.MapLemmas.{either}
use Rattle.iox_laws.proofs.WeaveLaws.WholeLemmas.{moved_by-fixed, split}
use Rattle.iox_laws.proofs.WeaveLaws.CallLaws.{not-true}
use Rattle.iox_laws.proofs.WeaveLedger.Lists.{IsAmong, NoRepeats, among-filter, among-front, among-last, any-among, distinct-no_repeats, filter-among, find-own, map-among, only-one}
use Rattle.iox_laws.proofs.WeaveLedger.Truths.{by_cases}
use Rattle.iox_laws.proofs.WeaveWorlds.Fillings.{named_among}
use Rattle.iox_laws.proofs.WeaveWorlds.Inductions.{IsKept}
use Rattle.iox_laws.proofs.WeaveWorlds.ReachedPorts.{same_numbers}
use Rattle.iox_laws.proofs.RunLaws.Calls.{Goes, begins, goes_by}
use Rattle.iox_laws.proofs.RunLaws.Holding.{HoldsEnd, ended_holds}
use Rattle.iox_laws.proofs.RunLaws.Rests.{Rests, numbered-hub}
use Rattle.iox_laws.proofs.RunLaws.Runs.{calm_kept}
use Rattle.iox_laws.proofs.RunLaws.Settling.{Calm}
use Rattle.iox_laws.proofs.ServiceLaws.Quiet.{Stands, any_story, done_told}
use Rattle.iox_laws.proofs.ServiceLaws.Stories.{ToldEnd}

abbrev pub IsNeeded : (ℕ → List Handle) → Port → Type 0
IsNeeded handles p = (p.held ≡ true) ⊎ ((h : Handle) × IsAmong h (handles p.node) × (h.port ≡ p.number))

abbrev pub AreNeeded : Fixed → Type 0
AreNeeded f = (p : Port) → IsAmong p f.ports → IsNeeded f.handles p

-- all but that one
abbrev NeededBut : ℕ → Fixed → Type 0
NeededBut port f = (p : Port) → IsAmong p f.ports → (p.number == port) ≡ false → IsNeeded f.handles p

-- ---- handles that come or change

abbrev Covers : (ℕ → List Handle) → (ℕ → List Handle) → Type 0
Covers old new = (n : ℕ) (h : Handle) → IsAmong h (old n) → (k : Handle) × IsAmong k (new n) × (k.port ≡ h.port)

covered : (ps : List Port) (old new : ℕ → List Handle) → Covers old new → ((p : Port) → IsAmong p ps → IsNeeded old p)
    → (p : Port) → IsAmong p ps → IsNeeded new p
covered ps old new covers needed p among = elim (needed p among) as (λ u. IsNeeded new p) [
  | inl held ↦ inl held
  | inr q ↦ let k : (k : Handle) × IsAmong k (new p.node) × (k.port ≡ (q.0).port) = covers p.node q.0 q.1 in inr (k.0, k.1, k.2 ∙ q.2)
]

adds_covers : (handles : ℕ → List Handle) (h : Handle) → Covers handles (put_at handles h.node (handles h.node ++ h ∷ []))
adds_covers handles h n k among =
    either (λ (xs : List Handle). (j : Handle) × IsAmong j xs × (j.port ≡ k.port)) (n == h.node) (handles h.node ++ h ∷ []) (handles n)
    (λ is. (k, among-front k (handles h.node) (h ∷ []) (subst (λ m. IsAmong k (handles m)) (eqb-true n h.node is) among), refl))
    (λ other. (k, among, refl))

with_covers : (h : Handle) (hs : List Handle) → ((k : Handle) → IsAmong k hs → k.number ≡ h.number → k.port ≡ h.port)
    → (k : Handle) → IsAmong k hs → (j : Handle) × IsAmong j (with_handle h hs) × (j.port ≡ k.port)
with_covers h [] each k among = absurd among
with_covers h (x ∷ xs) each k among =
    either (λ (ys : List Handle). (j : Handle) × IsAmong j ys × (j.port ≡ k.port)) (is_same_handle h x) (h ∷ xs) (x ∷ with_handle h xs)
    (λ same. elim among as (λ u. (j : Handle) × IsAmong j (h ∷ xs) × (j.port ≡ k.port)) [
      | inl e ↦ (h, inl refl, sym (each k (inl e) (ap (λ (y : Handle). y.number) e ∙ eqb-true x.number h.number same)))
      | inr q ↦ (k, inr q, refl)
    ])
    (λ other. elim among as (λ u. (j : Handle) × IsAmong j (x ∷ with_handle h xs) × (j.port ≡ k.port)) [
      | inl e ↦ (x, inl refl, ap (λ (y : Handle). y.port) (sym e))
      | inr q ↦
          let r : (j : Handle) × IsAmong j (with_handle h xs) × (j.port ≡ k.port) = with_covers h xs (λ i a. each i (inr a)) k q in
          (r.0, inr r.1, r.2)
    ])

-- who has the number of a handle that stands there has its port
same_port : (f : Fixed) (h : Handle) → Rests f → Stands f h → (k : Handle) → IsAmong k (f.handles h.node) → k.number ≡ h.number → k.port ≡ h.port
same_port f h r stands k among is =
    ap (λ (x : Handle). x.port) (only-one (λ (x : Handle). x.number) k stands.0 (f.handles h.node) (r.handles h.node).apart among stands.1 (is ∙ sym stands.2))
    ∙ stands.3

changes_covers : (f : Fixed) (h : Handle) → Rests f → Stands f h → Covers f.handles (put_at f.handles h.node (with_handle h (f.handles h.node)))
changes_covers f h r stands n k among =
    either (λ (xs : List Handle). (j : Handle) × IsAmong j xs × (j.port ≡ k.port)) (n == h.node) (with_handle h (f.handles h.node)) (f.handles n)
    (λ is. with_covers h (f.handles h.node) (same_port f h r stands) k (subst (λ m. IsAmong k (f.handles m)) (eqb-true n h.node is) among))
    (λ other. (k, among, refl))

-- ---- a handle goes

drops_but : (f : Fixed) (h : Handle) → Rests f → Stands f h → AreNeeded f → NeededBut h.port (dropped f h)
drops_but f h r stands needed p among other = elim (needed p among) as (λ u. IsNeeded (dropped f h).handles p) [
  | inl held ↦ inl held
  | inr q ↦
      inr (
        q.0,
        either (λ (xs : List Handle). IsAmong q.0 xs) (p.node == h.node) (without_handle h (f.handles h.node)) (f.handles p.node)
            (λ is. stays q.0 (subst (λ m. IsAmong q.0 (f.handles m)) (eqb-true p.node h.node is) q.1) q.2) (λ e. q.1),
        q.2,
      )
]
  where
    stays : (k : Handle) → IsAmong k (f.handles h.node) → k.port ≡ p.number → IsAmong k (without_handle h (f.handles h.node))
    stays k here of_port =
        by_cases (k.number == h.number)
        (λ same. absurd (true≢false (sym (eq-eqb p.number h.port (sym of_port ∙ same_port f h r stands k here (eqb-true k.number h.number same))) ∙ other)))
        (λ differs. among-filter (λ j. not (is_same_handle h j)) k (f.handles h.node) here (ap not differs))

-- ---- a port is released

some_handle : (hs : List Handle) → is_empty hs ≡ false → (h : Handle) × IsAmong h hs
some_handle [] e = absurd (true≢false e)
some_handle (h ∷ hs) e = (h, inl refl)

still_needed : (f : Fixed) (port : ℕ) (p : Port) → f.on_wire ≡ false → NoRepeats (map (λ q. q.number) f.ports) → is_last_gone f port ≡ false
    → IsAmong p f.ports → p.number ≡ port → IsNeeded f.handles p
still_needed f port p hub apart last among is =
    by_cases (list_any (λ q. (q.number == port) && q.held) f.ports)
    (λ there.
    let q : (q : Port) × IsAmong q f.ports × (((q.number == port) && q.held) ≡ true) = any-among (λ q. (q.number == port) && q.held) f.ports there in
    let b : (((q.0).number == port) ≡ true) × ((q.0).held ≡ true) = split ((q.0).number == port) (q.0).held q.2 in
    inl (ap (λ (x : Port). x.held) (only-one (λ (x : Port). x.number) p q.0 f.ports apart among q.1 (is ∙ sym (eqb-true (q.0).number port b.0))) ∙ b.1))
    (λ none.
    let empty : is_empty (handles_of f port) ≡ false
    = sym (ap₂ (λ (a b : Bool). not a && (not b && is_empty (handles_of f port))) hub none) ∙ last in
    let h : (h : Handle) × IsAmong h (handles_of f port) = some_handle (handles_of f port) empty in
    let t : IsAmong h.0 (f.handles (node_of_port f port)) × (((h.0).port == port) ≡ true)
    = filter-among (λ k. k.port == port) h.0 (f.handles (node_of_port f port)) h.1 in
    inr (h.0, subst (λ n. IsAmong h.0 (f.handles n)) node_is t.0, eqb-true (h.0).port port t.1 ∙ sym is))
  where
    node_is : node_of_port f port ≡ p.node
    node_is =
        ap (λ k. node_of_port f k) (sym is)
        ∙ ap (λ o. option_map_or (λ (q : Port). q.node) o 0) (find-own (λ (q : Port). q.number) f.ports p apart among)

released_needed : (s : State) (port : ℕ) → s.fixed.on_wire ≡ false → NoRepeats (map (λ q. q.number) s.fixed.ports) → NeededBut port s.fixed
    → AreNeeded (released s port).fixed
released_needed s port hub apart needed =
    either (λ (t : State). AreNeeded t.fixed) (is_last_gone s.fixed port) (disconnected s port) s
    (λ last p among.
    let t : IsAmong p s.fixed.ports × (not (p.number == port) ≡ true) = filter-among (λ q. not (q.number == port)) p s.fixed.ports among in
    needed p t.0 (not-true (p.number == port) t.1))
    (λ last p among. by_cases (p.number == port) (λ is. still_needed s.fixed port p hub apart last among (eqb-true p.number port is)) (needed p among))

own_numbers : (f : Fixed) → Rests f → NoRepeats (map (λ q. q.number) f.ports)
own_numbers f r = distinct-no_repeats (map (λ (q : Port). q.number) f.ports) (r.numbered).0

-- a loan or what was received goes, and so may its port
dropped_needed : (s : State) (h : Handle) → Rests s.fixed → Stands s.fixed h → AreNeeded s.fixed
    → AreNeeded (released (with_fixed s (dropped s.fixed h)) h.port).fixed
dropped_needed s h r stands needed =
    released_needed (with_fixed s (dropped s.fixed h)) h.port r.hub (own_numbers s.fixed r) (drops_but s.fixed h r stands needed)

given_needed : (s : State) (h : Handle) → Rests s.fixed → Stands s.fixed h → AreNeeded s.fixed
    → AreNeeded (released (with_fixed s (gives_up (dropped s.fixed h) h)) h.port).fixed
given_needed s h r stands needed =
    either (λ (f : Fixed). AreNeeded (released (with_fixed s f) h.port).fixed) (is_received h.kind)
    (record (dropped s.fixed h) { borrowed = put s.fixed.borrowed (way_of h) (s.fixed.borrowed (way_of h) - 1) }) (dropped s.fixed h)
    (λ e. released_needed (with_fixed s (record (dropped s.fixed h) { borrowed = put s.fixed.borrowed (way_of h) (s.fixed.borrowed (way_of h) - 1) }))
    h.port r.hub (own_numbers s.fixed r) (drops_but s.fixed h r stands needed))
    (λ e. dropped_needed s h r stands needed)

value_but : (f : Fixed) (n : ℕ) → AreNeeded f → NeededBut n (record f { ports = map (port_dropped n) f.ports })
value_but f n needed p among other =
    let q : (q : Port) × IsAmong q f.ports × (p ≡ port_dropped n q) = map-among (port_dropped n) p f.ports among in
    by_number q.0 q.1 (q.0.number == n) refl q.2
  where
    by_number : (q : Port) → IsAmong q f.ports → (b : Bool) → (q.number == n) ≡ b → p ≡ (if b then record q { held = false } else q) → IsNeeded f.handles p
    by_number q here true is e = absurd (true≢false (sym is ∙ ap (λ (x : Port). x.number == n) (sym e) ∙ other))
    by_number q here false is e = subst (IsNeeded f.handles) (sym e) (needed q here)

-- ---- the end of a call

adds_needed : (f : Fixed) (node : ℕ) (h : Handle) → Rests f → AreNeeded f → AreNeeded (added (numbered f node) h)
adds_needed f node h r needed =
    subst (λ (g : Fixed). AreNeeded (added g h)) (sym (numbered-hub f node r.hub))
    (covered f.ports f.handles (put_at f.handles h.node (f.handles h.node ++ h ∷ [])) (adds_covers f.handles h) needed)

changes_needed : (f : Fixed) (h : Handle) → Rests f → Stands f h → AreNeeded f → AreNeeded (changed f h)
changes_needed f h r stands needed =
    covered f.ports f.handles (put_at f.handles h.node (with_handle h (f.handles h.node))) (changes_covers f h r stands) needed

settled_needed : (port : ℕ) (u : State) (node : ℕ) (payload : List ℕ) (o : Outcome) → Rests u.fixed → ToldEnd port (any_story u.fixed port) u o
    → HoldsEnd u.fixed o → AreNeeded u.fixed → AreNeeded (settled u node payload o).fixed
settled_needed port u node payload (Tells reply) r told holds needed =
    either (λ (t : State). AreNeeded t.fixed) (is_nothing reply) (with_fixed u (called u.fixed)) u (λ e. needed) (λ e. needed)
settled_needed port u node payload (Loans h) r told holds needed = adds_needed u.fixed node (holding h payload) r needed
settled_needed port u node payload (Fills h) r told holds needed = changes_needed u.fixed h r told needed
settled_needed port u node payload (Sends h true count) r told holds needed =
    either AreNeeded (is_request_loan h.kind) (added (numbered u.fixed h.node) (sent_handle h count)) u.fixed
    (λ e. adds_needed u.fixed h.node (sent_handle h count) r needed) (λ e. needed)
settled_needed port u node payload (Sends h false count) r told holds needed =
    either (λ (t : State). AreNeeded t.fixed) (is_request_loan h.kind) (with_fixed u (changed u.fixed (sent_handle h count)))
    (released (with_fixed u (dropped u.fixed h)) h.port)
    (λ e. changes_needed u.fixed (sent_handle h count) r (told.1 refl) needed) (λ e. dropped_needed u h r (told.1 refl) needed)
settled_needed port u node payload (FailsToSend h true refusal) r told holds needed = needed
settled_needed port u node payload (FailsToSend h false refusal) r told holds needed = dropped_needed u h r ((told.0).1 refl) needed
settled_needed port u node payload (Receives x w m) r told holds needed = adds_needed u.fixed node (received_handle u.fixed node x m) r needed
settled_needed port u node payload (Drops h) r told holds needed = given_needed u h r (h, holds, refl, refl) needed
settled_needed port u node payload (DropsPort n) r told holds needed =
    released_needed (with_fixed u (record (u.fixed) { ports = map (port_dropped n) u.fixed.ports })) n r.hub
    (subst NoRepeats (sym (same_numbers n u.fixed.ports)) (own_numbers u.fixed r)) (value_but u.fixed n needed)
settled_needed port u node payload (Forgets dead) r told holds needed = absurd told

done_needed : (s : State) (node : ℕ) (call : Call) (reply : Reply) (t : State) → Calm s → misnamed s.fixed node call ≡ None
    → (d : IsDone s node call reply t) → AreNeeded s.fixed → AreNeeded t.fixed
done_needed s node call reply t r named d needed =
    let u : State = moved_by s d.2 in
    let first : Doing = start s node d.0 call in
    let same : u.fixed ≡ s.fixed = moved_by-fixed s d.2 in
    let told : (port : ℕ) × ToldEnd port (any_story s.fixed port) u d.4 = done_told s node call reply t r named d in
    let g : Goes u node (left_by s node first d.2) = goes_by s node first d.2 (begins s node d.0 call r named) d.3 in
    subst (λ (v : State). AreNeeded v.fixed) (sym d.9)
    (settled_needed told.0 u node d.6 d.4 g.fixed (subst (λ f. ToldEnd told.0 (any_story f told.0) u d.4) (sym same) told.1)
    (ended_holds u (left_by s node first d.2) d.4 d.5 g.holds) (subst AreNeeded (sym same) needed))

pub needed_kept : IsKept (λ s. Calm s × AreNeeded s.fixed)
needed_kept = record {
  nodes = λ s x u p. (calm_kept.nodes s x u p.0, p.1);
  makes = λ s node role id o memory allowed p. (
    calm_kept.makes s node role id o memory allowed p.0,
    λ q among. elim (among-last q (new_port s.fixed node role id o) s.fixed.ports among) as (λ u. IsNeeded s.fixed.handles q) [
      | inl old ↦ p.1 q old
      | inr e ↦ inl (ap (λ (x : Port). x.held) e)
    ],
  );
  calls = λ s node call reply t named done p. (calm_kept.calls s node call reply t named done p.0, done_needed s node call reply t p.0 named done p.1);
  fills = λ s node number h x there may p. (
    calm_kept.fills s node number h x there may p.0,
    let r : Rests s.fixed = ((p.0).rests).fixed in
        let at : IsAmong h (s.fixed.handles node) × (h.number ≡ number) = named_among s.fixed node number h there in
        changes_needed s.fixed (filled_as h x) r
        (h, subst (λ n. IsAmong h (s.fixed.handles n)) (sym ((r.handles node).each h at.0).of_node) at.0, refl, refl) p.1,
  );
}
