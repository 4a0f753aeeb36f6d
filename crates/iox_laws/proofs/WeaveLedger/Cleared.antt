-- After a Forget nothing is outstanding to the dead.
use Rattle.std.specs.Prelude.{◌≡◌, ℕ, ◌+◌, Bool, true, false, ◌&&◌, if◌then◌else◌, ◌==◌, List, [], ◌∷◌, ◌++◌, map, filter, Option, ◌⊎◌, refl}
use Rattle.std.specs.List.{range_with_len}
use Rattle.std.specs.Option.{option_map_or}
use Rattle.std.proofs.Common.{sym, subst, ap, ◌∙◌, eqb-true, eq-eqb, inl, inr}
use Rattle.iox_model.specs.declared.way.Way.{Way}
use Rattle.iox_model.specs.Weaves.{at_work, IsBeat, IsWeave, World, Beat, Begins, Makes, Ends, Dies}
use Rattle.iox_model.specs.Doings.{Outcome, Doing, Delivering}
use Rattle.iox_model.specs.States.{Port, Fixed, State}
use Rattle.iox_model.specs.WireCalls.{opened}
use Rattle.iox_model.specs.Forgetting.{has_forgotten, goes_to_dead, forgets}
use Rattle.iox_model.specs.Maps.{has_number, put_at, same_way}
use Rattle.iox_model.specs.Ends.{settled}
use Rattle.iox_model.specs.Moments.{moved, Moment, Deliver, GetBack}
use Rattle.iox_model.specs.Messages.{Message}
use Rattle.iox_model.specs.Transitions.{next}
use Rattle.iox_model.specs.Peers.{ports_of_node}
use Rattle.iox_laws.proofs.WeaveLaws.WholeLemmas.{split}
use Rattle.iox_laws.proofs.WeaveLaws.MapLemmas.{same_way-true}
use Rattle.iox_laws.proofs.WeaveLaws.WholeLemmas.{moved-fixed}
use Rattle.iox_laws.specs.WeaveLedger.ForgetLaws.{NothingToTheDead}
use Rattle.iox_laws.proofs.WeaveLedger.Truths.{never}
use Rattle.iox_laws.proofs.WeaveLedger.Lists.{IsAmong, NoRepeats, among-append, filter-among, map-among, among-any, number-among, among-number, way-among, find-own, filter-none}
use Rattle.iox_laws.proofs.WeaveLedger.Views.{view, IsAt, node_in, forgot_in}
use Rattle.iox_laws.proofs.WeaveLedger.Senders.{FitsHandles, FitsOutcome, FitsDoing}
use Rattle.iox_laws.proofs.WeaveLedger.Phases.{HasOwnPorts, target-of}
use Rattle.iox_laws.proofs.WeaveLedger.Rests.{settled-rest}
use Rattle.iox_laws.proofs.WeaveLedger.Moves.{ends-fits}
use Rattle.iox_laws.proofs.WeaveLedger.Worlds.{SoundWorld, opened-fits, doing-is, settled-ports, beat-fits}

-- ---- ports

-- a number among those of a node's ports
pub port-of-node : (ports : List Port) (node number : ℕ) → has_number number (map (λ p. p.number) (filter (λ p. p.node == node) ports)) ≡ true
    → (p : Port) × IsAmong p ports × (number ≡ p.number) × (p.node ≡ node)
port-of-node ports node number e =
    let r : (p : Port) × IsAmong p (filter (λ p. p.node == node) ports) × (number ≡ p.number)
    = map-among (λ p. p.number) number (filter (λ p. p.node == node) ports)
    (number-among number (map (λ p. p.number) (filter (λ p. p.node == node) ports)) e) in
    let t : IsAmong r.0 ports × (((r.0).node == node) ≡ true) = filter-among (λ p. p.node == node) r.0 ports r.1 in
    (r.0, t.0, r.2, eqb-true (r.0).node node t.1)

pub port-at-node : (ports : List Port) (node number : ℕ) → NoRepeats (map (λ p. p.number) ports)
    → has_number number (map (λ p. p.number) (filter (λ p. p.node == node) ports)) ≡ true → IsAt ports number node
port-at-node ports node number d e =
    let r : (p : Port) × IsAmong p ports × (number ≡ p.number) × (p.node ≡ node) = port-of-node ports node number e in
    ap (node_in ports) r.2 ∙ ap (λ (o : Option Port). option_map_or (λ p. p.node) o 0) (find-own (λ (p : Port). p.number) ports r.0 d r.1) ∙ r.3

-- ---- a send goes to nobody who is forgotten

abbrev ToForgotten : Fixed → Way → Type 0
ToForgotten f y = (node dead : ℕ) × (has_forgotten f node dead ≡ true) × (goes_to_dead f node dead y ≡ true)

pub forgotten-known : (f : Fixed) (node dead : ℕ) (y : Way) → has_forgotten f node dead ≡ true → goes_to_dead f node dead y ≡ true
    → forgot_in (view f node) y.receiver ≡ true
forgotten-known f node dead y forgot goes =
    let r : (p : Port) × IsAmong p f.ports × (y.receiver ≡ p.number) × (p.node ≡ dead) = port-of-node f.ports dead y.receiver
    (split (has_number y.sender (ports_of_node f node)) (has_number y.receiver (ports_of_node f dead)) goes).1 in
    among-any (λ p. (p.number == y.receiver) && has_number p.node (f.forgot node)) r.0 f.ports r.1
    (rw (eq-eqb (r.0).number y.receiver (sym r.2)) (ap (λ k. has_number k (f.forgot node)) r.3 ∙ forgot))

delivers-known : (s : State) (n : ℕ) (d : Doing) (x : Way) (m : Message) → HasOwnPorts s.fixed → FitsDoing (view s.fixed n) n d
    → (next s n d (Deliver x m)).condition → ToForgotten s.fixed x → ⊥
delivers-known s n (Delivering z last left count) x m own p c t =
    let target : (x.sender ≡ z.loan.port) × IsAmong x.receiver z.to = target-of z x ((p.1).among x (way-among x left c.0)) in
    let here : t.0 ≡ n = sym (port-at-node s.fixed.ports t.0 x.sender own (split _ _ t.3).0) ∙ ap (node_in s.fixed.ports) target.0 ∙ ((p.0).loan).of_port in
    never (forgot_in (view s.fixed n) x.receiver) (subst (λ k. forgot_in (view s.fixed k) x.receiver ≡ true) here (forgotten-known s.fixed t.0 t.1 x t.2 t.3))
    ((p.0).known x.receiver target.1)
delivers-known s n d x m own p c t = absurd c

-- ---- what was delivered to the forgotten is cleared

abbrev IsClear : State → Type 0
IsClear s = (y : Way) → ToForgotten s.fixed y → (k : ℕ) → s.delivered y k ≡ false

moved-clear : (s : State) (n : ℕ) (d : Doing) (m : Moment) → HasOwnPorts s.fixed → FitsDoing (view s.fixed n) n d → (next s n d m).condition
    → IsClear s → (y : Way) → ToForgotten s.fixed y → (k : ℕ) → (moved s m).delivered y k ≡ false
moved-clear s n d (Deliver x m) own p c clear y t k = by_case (same_way y x) (same_way-true y x)
  where
    by_case : (b : Bool) → (b ≡ true → y ≡ x) → (if b then put_at (s.delivered x) m.serial true else s.delivered y) k ≡ false
    by_case true same = absurd (delivers-known s n d x m own p c (subst (ToForgotten s.fixed) (same refl) t))
    by_case false same = clear y t k
moved-clear s n d (GetBack x j) own p c clear y t k = by_case (same_way y x) (same_way-true y x)
  where
    off : (b : Bool) (e : s.delivered x k ≡ false) → (if b then false else s.delivered x k) ≡ false
    off true e = refl
    off false e = e

    by_case : (b : Bool) → (b ≡ true → y ≡ x) → (if b then put_at (s.delivered x) j false else s.delivered y) k ≡ false
    by_case true same = off (k == j) (clear x (subst (ToForgotten s.fixed) (same refl) t) k)
    by_case false same = clear y t k
moved-clear s n d m own p c clear y t k = clear y t k

-- the end of a call keeps what was delivered and who is forgotten
record KeepsDead (s u : State) : Type 0 where
  pub delivered : u.delivered ≡ s.delivered
  pub forgot : u.fixed.forgot ≡ s.fixed.forgot
  pub ports : u.fixed.ports ≡ s.fixed.ports

keeps-clear : (s u : State) → KeepsDead s u → IsClear s → IsClear u
keeps-clear s u keeps clear y t k =
    ap (λ (f : Way → ℕ → Bool). f y k) keeps.delivered
    ∙ clear y (
      t.0,
      t.1,
      ap (λ (f : ℕ → List ℕ). has_number t.1 (f t.0)) (sym keeps.forgot) ∙ t.2,
      ap (λ (ports : List Port). goes_to_dead (record (u.fixed) { ports = ports }) t.0 t.1 y) (sym keeps.ports) ∙ t.3,
    ) k

has-more : (dead gone : ℕ) (ns : List ℕ) → has_number dead (ns ++ gone ∷ []) ≡ true → (has_number dead ns ≡ true) ⊎ (dead ≡ gone)
has-more dead gone ns e =
    elim (among-append dead ns (gone ∷ []) (number-among dead (ns ++ gone ∷ []) e)) as (λ u. (has_number dead ns ≡ true) ⊎ (dead ≡ gone)) [
      | inl a ↦ inl (among-number dead ns a)
      | inr a ↦ inr (only a)
    ]
  where
    only : IsAmong dead (gone ∷ []) → dead ≡ gone
    only (inl e) = e
    only (inr a) = absurd a

forgets-clear : (s : State) (n gone : ℕ) → IsClear s → IsClear (forgets s n gone)
forgets-clear s n gone clear y t k = by_case (goes_to_dead s.fixed n gone y) refl
  where
    before : goes_to_dead s.fixed n gone y ≡ false → has_forgotten s.fixed t.0 t.1 ≡ true
    before free = here (t.0 == n) refl t.2
      where
        here : (b : Bool) → (t.0 == n) ≡ b → has_number t.1 (if b then s.fixed.forgot n ++ gone ∷ [] else s.fixed.forgot t.0) ≡ true
            → has_number t.1 (s.fixed.forgot t.0) ≡ true
        here true same h = elim (has-more t.1 gone (s.fixed.forgot n) h) as (λ u. has_number t.1 (s.fixed.forgot t.0) ≡ true) [
          | inl e ↦ ap (λ j. has_number t.1 (s.fixed.forgot j)) (eqb-true t.0 n same) ∙ e
          | inr e ↦ never (goes_to_dead s.fixed n gone y)
              (ap (λ j. goes_to_dead s.fixed j gone y) (sym (eqb-true t.0 n same)) ∙ ap (λ j. goes_to_dead s.fixed t.0 j y) (sym e) ∙ t.3) free
        ]
        here false same h = h

    by_case : (b : Bool) → goes_to_dead s.fixed n gone y ≡ b → (if b then false else s.delivered y k) ≡ false
    by_case true e = refl
    by_case false e = clear y (t.0, t.1, before e, t.3) k

over-clear : (s : State) (n : ℕ) (payload : List ℕ) (o : Outcome) → s.fixed.on_wire ≡ true → FitsHandles (view s.fixed n) n
    → FitsOutcome (view s.fixed n) n o → IsClear s → IsClear (settled s n payload o)
over-clear s n payload o wire fits p clear = elim (settled-rest s n payload o wire p) as (λ z. IsClear (settled s n payload o)) [
  | inl keeps ↦ keeps-clear s (settled s n payload o)
      (record { delivered = keeps.delivered; forgot = keeps.forgot; ports = settled-ports s n payload o wire fits p }) clear
  | inr r ↦ subst IsClear (sym r.1) (forgets-clear s n r.0 clear)
]

pub beat-clear : (w u : World) (b : Beat) → IsBeat w b u → SoundWorld w → IsClear w.state → IsClear u.state
beat-clear w u (Begins n call c) beat fits clear = subst (λ (v : World). IsClear v.state) (sym beat.2) clear
beat-clear w u (Makes n m) beat fits clear =
    subst (λ (v : World). IsClear v.state) (sym beat.5)
    (λ y t k. moved-clear w.state n beat.1 m fits.own (doing-is w n beat.1 fits beat.2) beat.4 clear y
    (subst (λ (f : Fixed). ToForgotten f y) (moved-fixed w.state m) t) k)
beat-clear w u (Ends n reply payload) beat fits clear =
    subst (λ (v : World). IsClear v.state) (sym beat.7)
    (over-clear w.state n payload beat.3 fits.wire (fits.handles n) (ends-fits w.state n beat.1 beat.3 (doing-is w n beat.1 fits beat.2) beat.4) clear)
beat-clear w u (Dies n) beat fits clear = subst (λ (v : World). IsClear v.state) (sym beat.1) clear

weave-clear : (w v : World) (bs : List Beat) → IsWeave w bs v → SoundWorld w → IsClear w.state → IsClear v.state
weave-clear w v [] weave fits clear = subst (λ (u : World). IsClear u.state) (sym weave) clear
weave-clear w v (b ∷ bs) weave fits clear =
    weave-clear weave.0 v bs weave.2 (beat-fits w weave.0 b weave.1 fits) (beat-clear w weave.0 b weave.1 fits clear)

pub nothing_to_the_dead : NothingToTheDead
nothing_to_the_dead s v bs node dead y on forgot goes =
    filter-none (v.state.delivered y) (range_with_len 0 (v.state.fixed.loans y.sender + 1)) (λ k a.
    weave-clear (at_work (opened s)) v bs on.1 (opened-fits s on.0) (λ x t k. refl) y (node, dead, forgot, goes) k)
