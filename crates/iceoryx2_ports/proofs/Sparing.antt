-- The course of a release, which closes no other request than its own.
use Rattle.std.specs.Prelude.{◌≡◌, ℕ, Bool, true, false, not, ◌&&◌, ◌==◌, if◌then◌else◌, List, [], ◌∷◌, filter, map, Option, None, Some, refl}
use Rattle.std.specs.List.{list_any}
use Rattle.std.specs.Option.{option_map_or}
use Rattle.std.proofs.Common.{sym, ap, subst, ◌∙◌, eqb-true, true≢false}
use Rattle.std.proofs.lemmas.Option.{none-some}
use Rattle.iox_model.specs.declared.call.Call.TheVariants.{Release}
use Rattle.iox_model.specs.declared.kind.Kind.TheVariants.{ActiveRequest, PendingResponse}
use Rattle.iox_model.specs.declared.reply.Refusal.TheVariants.{UnknownNumber}
use Rattle.iox_model.specs.declared.way.RequestState.{RequestState}
use Rattle.iox_model.specs.declared.way.RequestState.TheVariants.{Closed, Named}
use Rattle.iox_model.specs.declared.way.Way.{Way}
use Rattle.iox_model.specs.Begins.{begins_at, start}
use Rattle.iox_model.specs.Commands.{Refusal, Reply}
use Rattle.iox_model.specs.Counts.{called, dropped, gives_up, with_fixed}
use Rattle.iox_model.specs.Doings.{refused, Closing, Doing, Drops, DropsPort, Ended, Leaving, Outcome, Returning, Tells}
use Rattle.iox_model.specs.Ends.{is_nothing, port_dropped, settled}
use Rattle.iox_model.specs.Expiries.{disconnected, is_last_gone, released}
use Rattle.iox_model.specs.Handles.{Subject, TheHandle, ThePort, is_received, own_state, same_kind, subject, way_of}
use Rattle.iox_model.specs.Loans.{Choice}
use Rattle.iox_model.specs.Maps.{has_way, same_way, without_way}
use Rattle.iox_model.specs.Messages.{closed_for, names}
use Rattle.iox_model.specs.Moments.{Close, GiveBack, Look, Moment, moved}
use Rattle.iox_model.specs.Names.{misnamed}
use Rattle.iox_model.specs.Peers.{forgot_port, is_connected_port}
use Rattle.iox_model.specs.Releases.{closing, releases_handle, returning, states_of}
use Rattle.iox_model.specs.States.{Fixed, Handle, Port, State}
use Rattle.iox_model.specs.Transitions.{ends, next}
use Rattle.iox_model.specs.WholeCalls.{IsDone, IsWholeCall, MayCome, UnlessRefused, left_by, moved_by, spent}
use Rattle.iox_laws.proofs.WeaveLaws.MapLemmas.{either, same_way-true}
use Rattle.iox_laws.proofs.WeaveLaws.WholeLemmas.{some-is}
use Rattle.iox_laws.proofs.WeaveLedger.Truths.{by_cases, or-neither}
use Rattle.iox_laws.proofs.WeaveWorlds.WayLemmas.{has_way-without}
use Rattle.iox_hub_laws.specs.Shown.{shown}
use Rattle.iceoryx2_ports.proofs.Answering.{none_left}

-- ---- truths

left_true : (a b : Bool) → (a && b) ≡ true → a ≡ true
left_true true b e = refl
left_true false b e = e

pub right_true : (a b : Bool) → (a && b) ≡ true → b ≡ true
right_true true b e = e
right_true false b e = absurd (true≢false (sym e))

-- a close of another request leaves the name
closed_names : (q : RequestState) (id r : ℕ) → (id == r) ≡ false → names (closed_for q id) r ≡ names q r
closed_names Closed id r other = refl
closed_names (Named n hinted) id r other =
    by_cases (n == id)
    (λ same.
    ap (λ (b : Bool). names (if b then Closed else Named n hinted) r) same
    ∙ sym (ap (λ (i : ℕ). i == r) (eqb-true n id same) ∙ other))
    (λ unlike. ap (λ (b : Bool). names (if b then Closed else Named n hinted) r) unlike)

-- ---- the course of a release

-- what a release may end with
abbrev Frees : Outcome → Type 0
Frees (Tells reply) = Unit {0}
Frees (Drops h) = Unit {0}
Frees (DropsPort port) = Unit {0}
Frees o = ⊥

module _ (its : Way) (r : ℕ) where
  abbrev pub SparesActive : Handle → Type 0
  SparesActive h = its ≡ own_state h → (h.request == r) ≡ false

  abbrev pub SparesAll : Handle → List Way → Type 0
  SparesAll h left = (v : Way) → has_way v left ≡ true → its ≡ v → (h.request == r) ≡ false

  -- the release of the handle does not close that request on that way
  abbrev pub Spares : Fixed → Handle → Type 0
  Spares f h =
      (same_kind h.kind ActiveRequest ≡ true → SparesActive h) × (same_kind h.kind PendingResponse ≡ true → SparesAll h (states_of f h))

  abbrev IsSparing : Doing → Type 0
  IsSparing (Ended o) = Frees o
  IsSparing (Closing h left) = SparesAll h left
  IsSparing (Returning h) = same_kind h.kind ActiveRequest ≡ true → SparesActive h
  IsSparing (Leaving h) = SparesActive h
  IsSparing d = ⊥

  -- on the way the same state names it
  abbrev pub SameHere : State → State → Type 0
  SameHere s t = names (t.request_state its) r ≡ names (s.request_state its) r

  closing_spares : (h : Handle) (left : List Way) → SparesAll h left → IsSparing (closing h left)
  closing_spares h [] p = tt
  closing_spares h (w ∷ left) p = p

  close_spares : (s : State) (w : Way) (id : ℕ) → (its ≡ w → (id == r) ≡ false) → SameHere s (moved s (Close w id))
  close_spares s w id spare =
      either (λ (q : RequestState). names q r ≡ names (s.request_state its) r) (same_way its w) (closed_for (s.request_state w) id) (s.request_state its)
      (λ same.
      let is : its ≡ w = same_way-true its w same in
      closed_names (s.request_state w) id r (spare is) ∙ ap (λ (v : Way). names (s.request_state v) r) (sym is))
      (λ other. refl)

  next_spares : (s : State) (i : ℕ) (d : Doing) (a : Moment) → IsSparing d → (next s i d a).condition
      → IsSparing (next s i d a).after × SameHere s (moved s a)
  next_spares s i (Closing h left) (Close w id) p c = (
    closing_spares h (without_way w left) (λ v on is. p v (has_way-without v w left on) is),
    close_spares s w id (λ is. ap (λ (k : ℕ). k == r) (eqb-true id h.request c.1) ∙ p w c.0 is),
  )
  next_spares s i (Returning h) (GiveBack w k) p c =
      (either IsSparing (same_kind h.kind ActiveRequest) (Leaving h) (Ended (Drops h)) (λ active. p active) (λ u. tt), refl)
  next_spares s i (Leaving h) (Look w shown) p c = (p, refl)
  next_spares s i (Leaving h) (Close w id) p c =
      let same : same_way w (own_state h) ≡ true = left_true (same_way w (own_state h)) (id == h.request) c in
      let its_id : (id == h.request) ≡ true = right_true (same_way w (own_state h)) (id == h.request) c in (
        tt,
        close_spares s w id
            (λ is. ap (λ (k : ℕ). k == r) (eqb-true id h.request its_id) ∙ p (is ∙ same_way-true w (own_state h) same)),
      )
  next_spares s i (Closing h left) a p c = absurd c
  next_spares s i (Returning h) a p c = absurd c
  next_spares s i (Leaving h) a p c = absurd c
  next_spares s i (Ended o) a p c = absurd c
  next_spares s i d a p c = absurd p

  by_spares : (s : State) (i : ℕ) (d : Doing) (ms : List Moment) → IsSparing d → MayCome s i d ms
      → IsSparing (left_by s i d ms) × SameHere s (moved_by s ms)
  by_spares s i d [] p may = (p, refl)
  by_spares s i d (a ∷ ms) p may =
      let first : IsSparing (next s i d a).after × SameHere s (moved s a) = next_spares s i d a p may.1 in
      let rest : IsSparing (left_by s i d (a ∷ ms)) × SameHere (moved s a) (moved_by s (a ∷ ms))
      = by_spares (moved s a) i (next s i d a).after ms first.0 may.2 in
      (rest.0, rest.1 ∙ first.1)

  handle_spares : (f : Fixed) (h : Handle) → Spares f h → IsSparing (releases_handle f h)
  handle_spares f h p =
      either IsSparing (is_received h.kind) (returning f h) (if same_kind h.kind PendingResponse then closing h (states_of f h) else Ended (Drops h))
      (λ u. either IsSparing (forgot_port f h.node (way_of h).sender) (Ended (Drops h)) (Returning h) (λ v. tt) (λ v. p.0))
      (λ u.
      either IsSparing (same_kind h.kind PendingResponse) (closing h (states_of f h)) (Ended (Drops h)) (λ v. closing_spares h (states_of f h) (p.1 v))
      (λ v. tt))

  begins_sparing : (s : State) (c : Choice) (n : ℕ) (x : Option Subject) → ((h : Handle) → x ≡ Some (TheHandle h) → Spares s.fixed h)
      → IsSparing (option_map_or (begins_at s c (Release n)) x (refused UnknownNumber))
  begins_sparing s c n None p = tt
  begins_sparing s c n (Some (ThePort q)) p = tt
  begins_sparing s c n (Some (TheHandle h)) p = handle_spares s.fixed h (p h refl)

  ended_sparing : (s : State) (d : Doing) (o : Outcome) → IsSparing d → ends s d ≡ Some o → Frees o
  ended_sparing s (Ended a) o p e = subst Frees (some-is a o e) p
  ended_sparing s (Closing h left) o p e = absurd (none-some o e)
  ended_sparing s (Returning h) o p e = absurd (none-some o e)
  ended_sparing s (Leaving h) o p e = absurd (none-some o e)
  ended_sparing s d o p e = absurd p

  -- ---- the end

  -- both ends of the way are connected
  abbrev pub IsThere : State → Type 0
  IsThere t = (is_connected_port t.fixed its.sender ≡ true) × (is_connected_port t.fixed its.receiver ≡ true)

  released_keeps : (s : State) (port : ℕ) → IsThere (released s port) → (released s port).request_state its ≡ s.request_state its
  released_keeps s port = step (is_last_gone s.fixed port)
    where
      other : (k : ℕ) → is_connected_port (disconnected s port).fixed k ≡ true → (k == port) ≡ false
      other k there =
          by_cases (k == port)
          (λ same.
          absurd (true≢false (sym there
          ∙ ap (λ (n : ℕ). list_any (λ (p : Port). p.number == n) (filter (λ (p : Port). not (p.number == port)) s.fixed.ports)) (eqb-true k port same)
          ∙ none_left s.fixed.ports port)))
          (λ e. e)

      step : (b : Bool) → IsThere (if b then disconnected s port else s)
          → (if b then disconnected s port else s).request_state its ≡ s.request_state its
      step true p =
          ap (λ (b : Bool). if b then Closed else s.request_state its)
          (or-neither (its.sender == port) (its.receiver == port) (other its.sender p.0) (other its.receiver p.1))
      step false p = refl

  settled_keeps : (s : State) (i : ℕ) (payload : List ℕ) (o : Outcome) → Frees o → IsThere (settled s i payload o)
      → (settled s i payload o).request_state its ≡ s.request_state its
  settled_keeps s i payload (Tells reply) p there =
      either (λ (t : State). t.request_state its ≡ s.request_state its) (is_nothing reply) (with_fixed s (called s.fixed)) s (λ u. refl) (λ u. refl)
  settled_keeps s i payload (Drops h) p there = released_keeps (with_fixed s (gives_up (dropped s.fixed h) h)) h.port there
  settled_keeps s i payload (DropsPort port) p there =
      released_keeps (with_fixed s (record (s.fixed) { ports = map (port_dropped port) s.fixed.ports })) port there
  settled_keeps s i payload o p there = absurd p

  -- ---- the whole call

  module _ (s t : State) (node n : ℕ) (reply : Reply) (spare : (h : Handle) → subject s.fixed node n ≡ Some (TheHandle h) → Spares s.fixed h) (there : IsThere t) where
    done_spares : IsDone s node (Release n) reply t → SameHere s t
    done_spares done =
        let d : Doing = start s node done.0 (Release n) in
        let u : State = moved_by s done.2 in
        let q : IsSparing (left_by s node d done.2) × SameHere s u = by_spares s node d done.2 (begins_sparing s done.0 n (subject s.fixed node n) spare) done.3 in
        let o : Frees done.4 = ended_sparing u (left_by s node d done.2) done.4 q.0 done.5 in
        ap (λ (v : State). names (v.request_state its) r) done.9
        ∙ ap (λ (x : RequestState). names x r) (settled_keeps u node done.6 done.4 o (subst IsThere done.9 there))
        ∙ q.1

    unless_spares : (q : Option Refusal) (P : Type 0) → (P → SameHere s t) → UnlessRefused q s reply t P → SameHere s t
    unless_spares (Some x) P f p = ap (λ (v : State). names (v.request_state its) r) p.1
    unless_spares None P f p = f p

    pub whole_spares : IsWholeCall s node (Release n) reply t → SameHere s t
    whole_spares =
        unless_spares (misnamed s.fixed node (Release n)) (UnlessRefused (spent s.fixed (Release n)) s reply t (IsDone s node (Release n) reply t))
        (unless_spares (spent s.fixed (Release n)) (IsDone s node (Release n) reply t) done_spares)
