-- What handles and queues hold in each state that is reached: no more than receivers may borrow, and no
-- more than the buffer, also of senders that are gone.
use Rattle.std.specs.Prelude.{◌≡◌, ℕ, ◌≤◌, Bool, true, false, not, ◌&&◌, nat_lt, List, [], ◌∷◌, ◌++◌, length, map, ◌⊎◌}
use Rattle.std.proofs.Common.{sym, subst, ap, ◌∙◌, true≢false, inl, inr}
use Rattle.iox_model.specs.declared.way.Way.{Way}
use Rattle.iox_model.specs.Doings.{Sending, Doing, Delivering}
use Rattle.iox_model.specs.Handles.{is_received, way_of}
use Rattle.iox_laws.specs.WeaveLaws.Ledgers.{has_received}
use Rattle.iox_model.specs.Maps.{has_number, put, rest_of, same_way}
use Rattle.iox_model.specs.Messages.{request_way, response_way, Message}
use Rattle.iox_model.specs.Moments.{moved, Moment, Deliver, Evict, Take}
use Rattle.iox_model.specs.Requests.{is_request, targets}
use Rattle.iox_model.specs.Settings.{is_client, other_role, borrow_limit_of, buffer_of, Limits}
use Rattle.iox_model.specs.States.{Port, Handle, Fixed, State}
use Rattle.iox_model.specs.Transitions.{next}
use Rattle.iox_laws.proofs.WeaveLaws.CallLaws.{not-true}
use Rattle.iox_laws.proofs.WeaveLaws.MapLemmas.{either, put-else, same_way-true}
use Rattle.iox_laws.proofs.WeaveLaws.WholeLemmas.{moved-fixed}
use Rattle.iox_laws.proofs.WeaveLedger.Truths.{false_if}
use Rattle.iox_laws.proofs.WeaveLedger.Counts.{count}
use Rattle.iox_laws.proofs.WeaveLedger.Orders.{same, at-most}
use Rattle.iox_laws.proofs.WeaveLedger.Lists.{IsAmong, among-last, map-among, way-among, rest-among, length-rest}
use Rattle.iox_laws.proofs.WeaveLedger.Phases.{target-of}
use Rattle.iox_laws.proofs.WeaveLedger.Senders.{IsMade}
use Rattle.iox_laws.proofs.WeaveLedger.Views.{role_in, node_in}
use Rattle.iox_laws.proofs.WeaveWorlds.Kept.{from_own}
use Rattle.iox_laws.proofs.WeaveWorlds.Sound.{IsPortOf, SoundDoing}
use Rattle.iox_laws.proofs.RunLaws.Ports.{any_at, at_below}
use Rattle.iox_laws.proofs.RunLaws.Rests.{Rests}
use Rattle.iox_laws.proofs.RunLaws.Holding.{is_lost, IsOther, SendFits, WaitFits, WaitsFit, HoldsIn}
use Rattle.iox_laws.proofs.RunLaws.Beginning.{KeptHandle}

-- ---- the invariant

-- the most that a receiver may have of a way, and the most that may wait there, by the receiver's role
abbrev pub limit_in : Limits → List Port → Way → ℕ
limit_in l ps y = borrow_limit_of l (other_role (role_in ps y.receiver))

abbrev pub most_in : Limits → List Port → Way → ℕ
most_in l ps y = buffer_of l (other_role (role_in ps y.receiver))

-- how many handles the receiver has of the way
abbrev pub had_in : List Port → (ℕ → List Handle) → Way → ℕ
had_in ps handles y = count (has_received y) (handles (node_in ps y.receiver))

pub record Holdings (l : Limits) (ps : List Port) (next : ℕ) (handles : ℕ → List Handle) (borrowed : Way → ℕ) (expired : ℕ → List ℕ) : Type 0 where
  pub kept : (n : ℕ) (h : Handle) → IsAmong h (handles n) → KeptHandle ps h
  -- what was received came from a port that was there
  pub known : (n : ℕ) (h : Handle) → IsAmong h (handles n) → is_received h.kind ≡ true → nat_lt (way_of h).sender next ≡ true
  -- the senders of expired pairs are gone
  pub away : (r n : ℕ) → has_number n (expired r) ≡ true → (any_at n ps ≡ false) × (nat_lt n next ≡ true)
  pub within : (y : Way) → borrowed y ≤ limit_in l ps y
  pub nobody : (y : Way) → any_at y.receiver ps ≡ false → borrowed y ≡ 0
  -- what is counted are those handles, but for pairs that are no more
  pub counts : (y : Way) → is_lost ps expired y ≡ false → had_in ps handles y ≤ borrowed y
  pub few : (y : Way) → had_in ps handles y ≤ limit_in l ps y

abbrev pub Has : Fixed → Type 0
Has f = Holdings f.limits f.ports f.next_number f.handles f.borrowed f.expired

pub record Owned (s : State) : Type 0 where
  pub has : Has s.fixed
  pub waits : WaitsFit s
  -- of senders that are gone
  pub gone : (y : Way) → any_at y.sender s.fixed.ports ≡ false → length (s.waiting y) ≤ most_in s.fixed.limits s.fixed.ports y

-- ---- a delivery

not-not : (a b : Bool) → b ≡ not a → a ≡ not b
not-not true b e = ap not (sym e)
not-not false b e = ap not (sym e)

response_lane : (x : Sending) (w : Way) → is_request x ≡ false → IsAmong w (targets x) → w.lane ≡ x.loan.lane
response_lane x w responds =
    either (λ ways. IsAmong w ways → w.lane ≡ x.loan.lane) (is_request x) (map (request_way x.loan.port) x.to)
    (map (λ client. response_way client x.loan.lane x.loan.port) x.to) (λ is. absurd (true≢false (sym is ∙ responds)))
    (λ u among.
    let q : (n : ℕ) × IsAmong n x.to × (w ≡ response_way n x.loan.lane x.loan.port)
    = map-among (λ client. response_way client x.loan.lane x.loan.port) w x.to among in
    ap (λ (v : Way). v.lane) q.2)

delivered_fits : (f : Fixed) (node : ℕ) (x : Sending) (w : Way) → Rests f → IsPortOf f node w.sender → SendFits f x → IsAmong w (targets x)
    → WaitFits f.ports f.next_number f.expired w x.loan.message
delivered_fits f node x w r own p among =
    let made : IsMade f.ports x.loan = (p.0).1 in
    let t : (w.sender ≡ x.loan.port) × IsAmong w.receiver x.to = target-of x w among in
    let other : IsOther f x w.receiver = p.1 w.receiver t.1 in
    record {
      sender = made.sender ∙ sym t.0;
      lane = λ client. made.lane ∙ sym (response_lane x w (not-true (is_request x) (sym other.1 ∙ client)) among);
      role = λ there. ap (λ k. is_client (role_in f.ports k)) t.0 ∙ sym made.role ∙ not-not (is_request x) (is_client (role_in f.ports w.receiver)) other.1;
      kept = ap (λ b. not b && not (has_number w.sender (f.expired w.receiver))) own.0;
      below = at_below f.next_number w.sender f.ports (r.numbered).1 own.0;
      there = other.0;
    }

put_waits : (f : Way → List Message) (w : Way) (m : Message) (y : Way) (k : Message) → IsAmong k (put f w (f w ++ m ∷ []) y)
    → IsAmong k (f y) ⊎ ((y ≡ w) × (k ≡ m))
put_waits f w m y k =
    either (λ (xs : List Message). IsAmong k xs → IsAmong k (f y) ⊎ ((y ≡ w) × (k ≡ m))) (same_way y w) (f w ++ m ∷ []) (f y)
    (λ same among.
    let is : y ≡ w = same_way-true y w same in
    elim (among-last k m (f w) among) as (λ u. IsAmong k (f y) ⊎ ((y ≡ w) × (k ≡ m))) [
      | inl q ↦ inl (subst (λ u. IsAmong k (f u)) (sym is) q)
      | inr e ↦ inr (is, e)
    ])
    (λ other among. inl among)

taken_waits : (f : Way → List Message) (w y : Way) (k : Message) → IsAmong k (put f w (rest_of (f w)) y) → IsAmong k (f y)
taken_waits f w y k =
    either (λ (xs : List Message). IsAmong k xs → IsAmong k (f y)) (same_way y w) (rest_of (f w)) (f y)
    (λ same among. subst (λ u. IsAmong k (f u)) (sym (same_way-true y w same)) (rest-among k (f w) among)) (λ other among. among)

-- ---- what waits after a moment

delivers : (s : State) (node : ℕ) (d : Doing) (w : Way) (m : Message) → Rests s.fixed → SoundDoing s node d → HoldsIn s.fixed d
    → (next s node d (Deliver w m)).condition → IsPortOf s.fixed node w.sender × WaitFits s.fixed.ports s.fixed.next_number s.fixed.expired w m
delivers s node (Delivering x last left count) w m r fits p c =
    let own : IsPortOf s.fixed node w.sender = from_own s.fixed node x.loan.port w fits.0.0.1 (fits.1 w c.0) in (
      own,
      subst (WaitFits s.fixed.ports s.fixed.next_number s.fixed.expired w) (sym c.1)
          (delivered_fits s.fixed node x w r own p.0 (p.1 w (way-among w left c.0))),
    )
delivers s node d w m r fits p c = absurd c

pub moved_waits : (s : State) (node : ℕ) (d : Doing) (m : Moment) → Rests s.fixed → SoundDoing s node d → HoldsIn s.fixed d → (next s node d m).condition
    → WaitsFit s → (y : Way) (k : Message) → IsAmong k ((moved s m).waiting y) → WaitFits s.fixed.ports s.fixed.next_number s.fixed.expired y k
moved_waits s node d (Deliver w m) r fits p c waits y k among =
    elim (put_waits s.waiting w m y k among) as (λ u. WaitFits s.fixed.ports s.fixed.next_number s.fixed.expired y k) [
      | inl q ↦ waits y k q
      | inr e ↦
          subst (λ v. WaitFits s.fixed.ports s.fixed.next_number s.fixed.expired v k) (sym e.0)
          (subst (WaitFits s.fixed.ports s.fixed.next_number s.fixed.expired w) (sym e.1) (delivers s node d w m r fits p c).1)
    ]
moved_waits s node d (Evict w) r fits p c waits y k among = waits y k (taken_waits s.waiting w y k among)
moved_waits s node d (Take w m) r fits p c waits y k among = waits y k (taken_waits s.waiting w y k among)
moved_waits s node d m r fits p c waits y k among = waits y k among

taken-less : (f : Way → List Message) (w y : Way) → length (put f w (rest_of (f w)) y) ≤ length (f y)
taken-less f w y =
    either (λ (xs : List Message). length xs ≤ length (f y)) (same_way y w) (rest_of (f w)) (f y)
    (λ same. subst (λ u. length (rest_of (f u)) ≤ length (f y)) (same_way-true y w same) (length-rest (f y))) (λ other. same (length (f y)))

-- of a sender that is gone no more comes
pub moved_gone : (s : State) (node : ℕ) (d : Doing) (m : Moment) → Rests s.fixed → SoundDoing s node d → HoldsIn s.fixed d → (next s node d m).condition
    → (y : Way) → any_at y.sender s.fixed.ports ≡ false → length ((moved s m).waiting y) ≤ length (s.waiting y)
moved_gone s node d (Deliver w m) r fits p c y gone =
    subst (λ (xs : List Message). length xs ≤ length (s.waiting y))
    (sym (put-else s.waiting w (s.waiting w ++ m ∷ []) y (false_if (same_way y w) (λ same.
    true≢false (sym (delivers s node d w m r fits p c).0.0 ∙ ap (λ (v : Way). any_at v.sender s.fixed.ports) (sym (same_way-true y w same)) ∙ gone)))))
    (same (length (s.waiting y)))
moved_gone s node d (Evict w) r fits p c y gone = taken-less s.waiting w y
moved_gone s node d (Take w m) r fits p c y gone = taken-less s.waiting w y
moved_gone s node d m r fits p c y gone = same (length (s.waiting y))

-- Each moment of a call leaves it so.
pub moved_owned : (s : State) (node : ℕ) (d : Doing) (m : Moment) → Rests s.fixed → SoundDoing s node d → HoldsIn s.fixed d → (next s node d m).condition
    → Owned s → Owned (moved s m)
moved_owned s node d m r fits p c o =
    let same : (moved s m).fixed ≡ s.fixed = moved-fixed s m in
    record {
      has = subst Has (sym same) o.has;
      waits = λ y k among. subst (λ (f : Fixed). WaitFits f.ports f.next_number f.expired y k) (sym same) (moved_waits s node d m r fits p c o.waits y k among);
      gone = λ y gone.
          let before : any_at y.sender s.fixed.ports ≡ false = ap (λ (f : Fixed). any_at y.sender f.ports) (sym same) ∙ gone in
          subst (λ (f : Fixed). length ((moved s m).waiting y) ≤ most_in f.limits f.ports y) (sym same)
          (at-most (length ((moved s m).waiting y)) (length (s.waiting y)) (most_in s.fixed.limits s.fixed.ports y)
          (moved_gone s node d m r fits p c y before) (o.gone y before));
    }
