-- What a beat of another node leaves of a node's own ports: what was delivered, loaned and borrowed.
use Rattle.std.specs.Prelude.{◌&&◌, filter}
use Rattle.std.specs.Option.{option_map_or}
use Rattle.std.proofs.Common.{◌≡◌, ℕ, Bool, true, false, if◌then◌else◌, ◌==◌, Option, refl, ap, sym, subst, ◌∙◌, inl, inr, eq-eqb, eqb-true, true≢false}
use Rattle.iox_model.specs.declared.way.Way.{Way}
use Rattle.iox_model.specs.Doings.{Delivering, Doing, Emptying, Evicted, Loaning}
use Rattle.iox_model.specs.Ends.{settled}
use Rattle.iox_model.specs.Forgetting.{forgets, goes_to_dead}
use Rattle.iox_model.specs.Maps.{has_number, put, same_way}
use Rattle.iox_model.specs.Messages.{Message}
use Rattle.iox_model.specs.Moments.{Deliver, GetBack, Moment, moved}
use Rattle.iox_model.specs.Peers.{node_of_port, ports_of_node}
use Rattle.iox_model.specs.States.{Port, State}
use Rattle.iox_model.specs.Transitions.{next}
use Rattle.iox_model.specs.Weaves.{Beat, Begins, Dies, Ends, IsBeat, Makes, World}
use Rattle.iox_laws.specs.WeaveLaws.Laws.{node_of_beat}
use Rattle.iox_laws.specs.WeaveWorlds.Worlds.{IsReachable}
use Rattle.iox_laws.proofs.WeaveBeats.LiveWays.{Here, here}
use Rattle.iox_laws.proofs.WeaveLaws.MapLemmas.{same_way-true}
use Rattle.iox_laws.proofs.WeaveLaws.WholeLemmas.{moved-fixed}
use Rattle.iox_laws.proofs.WeaveLedger.Lists.{filter-among, find-own, map-among, number-among}
use Rattle.iox_laws.proofs.WeaveLedger.Moves.{ends-fits}
use Rattle.iox_laws.proofs.WeaveLedger.Phases.{HasOwnPorts}
use Rattle.iox_laws.proofs.WeaveLedger.Rests.{settled-rest}
use Rattle.iox_laws.proofs.WeaveLedger.Senders.{FitsOutcome}
use Rattle.iox_laws.proofs.WeaveLedger.Settling.{settled-else}
use Rattle.iox_laws.proofs.WeaveLedger.Views.{View, node_in, view}
use Rattle.iox_laws.proofs.WeaveLedger.Worlds.{doing-is}
use Rattle.iox_laws.proofs.WeaveWorlds.Reached.{reachable_sound}
use Rattle.iox_laws.proofs.WeaveWorlds.Sound.{FitsCall, SoundDoing}

both : (a b : Bool) → (a && b) ≡ true → (a ≡ true) × (b ≡ true)
both true b e = (refl, e)
both false b e = absurd (true≢false (sym e))

-- ---- who delivers and gets back

deliver_own : (s : State) (n : ℕ) (d : Doing) (v : Way) (m : Message) → (next s n d (Deliver v m)).condition → SoundDoing s n d
    → node_of_port s.fixed v.sender ≡ n
deliver_own s n (Delivering x last left count) v m c f = ap (node_of_port s.fixed) (f.1 v c.0) ∙ f.0.0.1.1
deliver_own s n d v m c f = absurd c

back_own : (s : State) (n : ℕ) (d : Doing) (v : Way) (k : ℕ) → (next s n d (GetBack v k)).condition → SoundDoing s n d → node_of_port s.fixed v.sender ≡ n
back_own s n (Loaning copies h left) v k c f = ap (node_of_port s.fixed) (f.1 v c) ∙ f.0.1.1
back_own s n (Emptying x left) v k c f = ap (node_of_port s.fixed) (f.1 v c) ∙ f.0.0.1.1
back_own s n (Evicted x z left count) v k c f =
    ap (node_of_port s.fixed) (ap (λ (y : Way). y.sender) (same_way-true v z c) ∙ f.4) ∙ f.0.0.1.1
back_own s n d v k c f = absurd c

module _ (s : State) (m n : ℕ) (y : Way) (k : ℕ) (mine : node_of_port s.fixed y.sender ≡ n) (other : (n == m) ≡ false) where
  not_there : (v : Way) → node_of_port s.fixed v.sender ≡ m → same_way y v ≡ true → ⊥
  not_there v owner same =
      true≢false (sym (eq-eqb n m (sym mine ∙ ap (λ (z : Way). node_of_port s.fixed z.sender) (same_way-true y v same) ∙ owner)) ∙ other)

  elsewhere : (v : Way) (a : ℕ → Bool) → node_of_port s.fixed v.sender ≡ m → put s.delivered v a y k ≡ s.delivered y k
  elsewhere v a owner = by_case (same_way y v) (not_there v owner)
    where
      by_case : (b : Bool) → (b ≡ true → ⊥) → (if b then a else s.delivered y) k ≡ s.delivered y k
      by_case true never = absurd (never refl)
      by_case false never = refl

  moved_else : (d : Doing) (mo : Moment) → (next s m d mo).condition → SoundDoing s m d → (moved s mo).delivered y k ≡ s.delivered y k
  moved_else d (Deliver v a) c f = elsewhere v _ (deliver_own s m d v a c f)
  moved_else d (GetBack v j) c f = elsewhere v _ (back_own s m d v j c f)
  moved_else d mo c f = refl

  -- a Forget clears only ways of its own ports
  forgets_else : (gone : ℕ) → HasOwnPorts s.fixed → (forgets s m gone).delivered y k ≡ s.delivered y k
  forgets_else gone own = by_case (goes_to_dead s.fixed m gone y) none
    where
      none : goes_to_dead s.fixed m gone y ≡ true → ⊥
      none goes =
          let has = (both (has_number y.sender (ports_of_node s.fixed m)) (has_number y.receiver (ports_of_node s.fixed gone)) goes).0 in
          let r = map-among (λ (q : Port). q.number) y.sender (filter (λ q. q.node == m) s.fixed.ports) (number-among y.sender (ports_of_node s.fixed m) has) in
          let t = filter-among (λ (q : Port). q.node == m) r.0 s.fixed.ports r.1 in
          let at : node_in s.fixed.ports r.0.number ≡ r.0.node
          = ap (λ (o : Option Port). option_map_or (λ q. q.node) o 0) (find-own (λ (q : Port). q.number) s.fixed.ports r.0 own t.0) in
          true≢false (sym (eq-eqb n m (sym mine ∙ ap (node_in s.fixed.ports) r.2 ∙ at ∙ eqb-true r.0.node m t.1)) ∙ other)

      by_case : (b : Bool) → (b ≡ true → ⊥) → (if b then false else s.delivered y k) ≡ s.delivered y k
      by_case true never = absurd (never refl)
      by_case false never = refl

-- ---- a beat of another node

module _ (w u : World) (b : Beat) (n : ℕ) (reach : IsReachable w) (beat : IsBeat w b u) (other : (n == node_of_beat b) ≡ false) where
  pub view_same : view u.state.fixed n ≡ view w.state.fixed n
  view_same = by_beat b beat other
    where
      by_beat : (b : Beat) → IsBeat w b u → (n == node_of_beat b) ≡ false → view u.state.fixed n ≡ view w.state.fixed n
      by_beat (Begins k call c) beat other = ap (λ (v : World). view v.state.fixed n) beat.2
      by_beat (Makes k m) beat other = ap (λ (v : World). view v.state.fixed n) beat.5 ∙ ap (λ f. view f n) (moved-fixed w.state m)
      by_beat (Dies k) beat other = ap (λ (v : World). view v.state.fixed n) beat.1
      by_beat (Ends k reply payload) beat other =
          let h : Here w = here w reach in
          let fits : FitsOutcome (view w.state.fixed k) k beat.3
          = ends-fits w.state k beat.1 beat.3 (doing-is w k beat.1 h.holding.fits beat.2) beat.4 in
          ap (λ (v : World). view v.state.fixed n) beat.7
          ∙ settled-else w.state k n payload beat.3 h.holding.fits.wire (h.holding.fits.handles k) fits other

  pub ports_same : u.state.fixed.ports ≡ w.state.fixed.ports
  ports_same = ap (λ (v : View). v.ports) view_same

  pub limits_same : u.state.fixed.limits ≡ w.state.fixed.limits
  limits_same = ap (λ (v : View). v.limits) view_same

  picked : (a c : Bool) (l r : ℕ) → a ≡ true → c ≡ true → (if a then l else 0) ≡ (if c then r else 0) → l ≡ r
  picked true true l r e q same = same
  picked true false l r e q same = absurd (true≢false (sym q))
  picked false c l r e q same = absurd (true≢false (sym e))

  pub node_same : (port : ℕ) → node_of_port u.state.fixed port ≡ node_of_port w.state.fixed port
  node_same port = ap (λ ports. node_in ports port) ports_same

  pub loans_same : (port : ℕ) → node_of_port w.state.fixed port ≡ n → u.state.fixed.loans port ≡ w.state.fixed.loans port
  loans_same port mine =
      picked (node_of_port u.state.fixed port == n) (node_of_port w.state.fixed port == n) (u.state.fixed.loans port) (w.state.fixed.loans port)
      (eq-eqb (node_of_port u.state.fixed port) n (node_same port ∙ mine)) (eq-eqb (node_of_port w.state.fixed port) n mine)
      (ap (λ (v : View). v.loans port) view_same)

  pub borrowed_same : (y : Way) → node_of_port w.state.fixed y.receiver ≡ n → u.state.fixed.borrowed y ≡ w.state.fixed.borrowed y
  borrowed_same y mine =
      picked (node_of_port u.state.fixed y.receiver == n) (node_of_port w.state.fixed y.receiver == n) (u.state.fixed.borrowed y) (w.state.fixed.borrowed y)
      (eq-eqb (node_of_port u.state.fixed y.receiver) n (node_same y.receiver ∙ mine)) (eq-eqb (node_of_port w.state.fixed y.receiver) n mine)
      (ap (λ (v : View). v.borrowed y) view_same)

  pub delivered_same : (y : Way) (k : ℕ) → node_of_port w.state.fixed y.sender ≡ n → u.state.delivered y k ≡ w.state.delivered y k
  delivered_same y k mine = by_beat b beat other
    where
      by_beat : (b : Beat) → IsBeat w b u → (n == node_of_beat b) ≡ false → u.state.delivered y k ≡ w.state.delivered y k
      by_beat (Begins m call c) beat other = ap (λ (v : World). v.state.delivered y k) beat.2
      by_beat (Dies m) beat other = ap (λ (v : World). v.state.delivered y k) beat.1
      by_beat (Makes m mo) beat other =
          ap (λ (v : World). v.state.delivered y k) beat.5
          ∙ moved_else w.state m n y k mine other beat.1 mo beat.4
          (subst (FitsCall w.state m) beat.2 ((reachable_sound w reach).calls m).1)
      by_beat (Ends m reply payload) beat other =
          let h : Here w = here w reach in
          let fits : FitsOutcome (view w.state.fixed m) m beat.3
          = ends-fits w.state m beat.1 beat.3 (doing-is w m beat.1 h.holding.fits beat.2) beat.4 in
          ap (λ (v : World). v.state.delivered y k) beat.7
          ∙ elim (settled-rest w.state m payload beat.3 h.holding.fits.wire fits)
          as (λ z. (settled w.state m payload beat.3).delivered y k ≡ w.state.delivered y k) [
            | inl keeps ↦ ap (λ (f : Way → ℕ → Bool). f y k) keeps.delivered
            | inr r ↦ ap (λ (t : State). t.delivered y k) r.1 ∙ forgets_else w.state m n y k mine other r.0 h.holding.fits.own
          ]
