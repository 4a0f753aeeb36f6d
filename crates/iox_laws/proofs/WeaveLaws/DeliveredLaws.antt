-- A send that delivered is not refused.
use Rattle.std.specs.Prelude.{◌≡◌, ℕ, Bool, true, false, ◌||◌, if◌then◌else◌, List, [], ◌∷◌, Option, Some, None, refl}
use Rattle.std.specs.List.{list_any, list_all}
use Rattle.std.proofs.Common.{sym, subst, ap, ◌∙◌, true≢false, eqb-true}
use Rattle.iox_model.specs.declared.way.Way.{Way}
use Rattle.iox_model.specs.Doings.{Outcome, Sends, Doing, Delivering, Evicted}
use Rattle.iox_model.specs.Weaves.{begun, IsBeat, IsWeave, World, Beat, Makes}
use Rattle.iox_model.specs.States.{State}
use Rattle.iox_model.specs.Requests.{is_over}
use Rattle.iox_model.specs.Maps.{put_at}
use Rattle.iox_model.specs.Moments.{Deliver, Evict, GetBack}
use Rattle.iox_laws.specs.WeaveLaws.Laws.{goes_on_by, delivers_by, is_refused, DeliveredIsNotRefused}
use Rattle.iox_model.specs.Messages.{Message}
use Rattle.iox_model.specs.Transitions.{next, ends}
use Rattle.iox_laws.proofs.WeaveLaws.PlayedCalls.{ended}
use Rattle.iox_laws.proofs.WeaveLaws.CallLaws.{StepsKeep, Has, along}
use Rattle.iox_laws.proofs.WeaveLaws.WholeLemmas.{put_at-here, some-is}
use Rattle.iox_laws.proofs.WeaveLaws.WholeLemmas.{split}

abbrev pub HasDelivered : Doing → Type 0
HasDelivered (Delivering x last left count) = Unit {0}
HasDelivered (Evicted x w left count) = Unit {0}
HasDelivered d = ⊥

pub goes_on_delivering : (node : ℕ) → StepsKeep node HasDelivered
goes_on_delivering node s (Delivering x last left count) (Deliver w m) p h c = tt
goes_on_delivering node s (Delivering x last left count) (Evict w) p h c = tt
goes_on_delivering node s (Delivering x last left count) m p h c = absurd c
goes_on_delivering node s (Evicted x v left count) (GetBack w k) p h c = tt
goes_on_delivering node s (Evicted x v left count) m p h c = absurd c
goes_on_delivering node s d m p h c = absurd p

pub only_sends_deliver : (s : State) (node : ℕ) (d : Doing) (w : Way) (m : Message) → (next s node d (Deliver w m)).condition
    → HasDelivered (next s node d (Deliver w m)).after
only_sends_deliver s node (Delivering x last left count) w m c = tt
only_sends_deliver s node d w m c = absurd c

delivering_beat : (w v : World) (node : ℕ) (b : Beat) → IsBeat w b v → delivers_by node b ≡ true → Has v node HasDelivered
delivering_beat w v node (Makes n (Deliver y m)) beat e =
    let same : n ≡ node = eqb-true n node e in
    let after : Doing = (next w.state n beat.1 (Deliver y m)).after in (
      after,
      ap (λ (u : World). u.doing node) beat.5 ∙ subst (λ k. put_at w.doing n (Some after) k ≡ Some after) same (put_at-here w.doing n (Some after)),
      only_sends_deliver w.state n beat.1 y m beat.4,
    )
delivering_beat w v node b beat e = absurd (true≢false (sym e))

delivered_goes_on : (node : ℕ) (w v : World) (bs : List Beat) → IsWeave w bs v → list_all (goes_on_by node) bs ≡ true
    → list_any (delivers_by node) bs ≡ true → Has v node HasDelivered
delivered_goes_on node w v [] weave goes some = absurd (true≢false (sym some))
delivered_goes_on node w v (b ∷ bs) weave goes some =
    let p : (goes_on_by node b ≡ true) × (list_all (goes_on_by node) bs ≡ true) = split _ _ goes in
    now_or_later (delivers_by node b) refl some
    (λ now. along node HasDelivered (goes_on_delivering node) weave.0 v bs weave.2 p.1 (delivering_beat w weave.0 node b weave.1 now))
    (λ later. delivered_goes_on node weave.0 v bs weave.2 p.1 later)
  where
    now_or_later : (x : Bool) → delivers_by node b ≡ x → (x || list_any (delivers_by node) bs) ≡ true
        → (delivers_by node b ≡ true → Has v node HasDelivered) → (list_any (delivers_by node) bs ≡ true → Has v node HasDelivered)
        → Has v node HasDelivered
    now_or_later true e any f g = f e
    now_or_later false e any f g = g any

pub sends_in_the_end : (s : State) (d : Doing) (o : Outcome) → HasDelivered d → ends s d ≡ Some o → is_refused o ≡ false
sends_in_the_end s (Delivering x last [] count) o p e = all_sent (is_over s last) e
  where
    all_sent : (b : Bool) → (if b then None else Some (Sends x.loan x.copied count)) ≡ Some o → is_refused o ≡ false
    all_sent true e = absurd (subst IsNoOutcome e tt)
      where
        IsNoOutcome : Option Outcome → Type 0
        IsNoOutcome None = Unit {0}
        IsNoOutcome (Some y) = ⊥
    all_sent false e = ap is_refused (sym (some-is (Sends x.loan x.copied count) o e))
sends_in_the_end s (Delivering x last (w ∷ left) count) o p e = absurd (subst IsNoOutcome e tt)
  where
    IsNoOutcome : Option Outcome → Type 0
    IsNoOutcome None = Unit {0}
    IsNoOutcome (Some y) = ⊥
sends_in_the_end s (Evicted x w left count) o p e = absurd (subst IsNoOutcome e tt)
  where
    IsNoOutcome : Option Outcome → Type 0
    IsNoOutcome None = Unit {0}
    IsNoOutcome (Some y) = ⊥
sends_in_the_end s d o p e = absurd p

pub delivered_is_not_refused : DeliveredIsNotRefused
delivered_is_not_refused w v node call c bs d o during some is ended =
    let last : Has v node HasDelivered
    = delivered_goes_on node (begun w node c call) v bs (subst (λ u. IsWeave u bs v) during.0.1.2 during.0.2) during.1 some in
    sends_in_the_end v.state last.0 o last.2
    (subst (λ x. ends v.state x ≡ Some o) (some-is d last.0 (sym is ∙ last.1)) ended)
