-- What a receiver has was delivered on its way, and taken from there.
use Rattle.std.specs.Prelude.{◌≡◌, ℕ, true, List, [], ◌∷◌, ◌++◌, map, Some, None, ◌⊎◌, refl}
use Rattle.std.proofs.Common.{sym, subst, inl, inr}
use Rattle.iox_model.specs.declared.way.Way.{Way}
use Rattle.iox_model.specs.Begins.{start}
use Rattle.iox_model.specs.Commands.{Reply, Call}
use Rattle.iox_model.specs.Counts.{received_handle}
use Rattle.iox_model.specs.Doings.{Outcome, Tells, Loans, Fills, Sends, FailsToSend, Receives, Drops, DropsPort, Forgets, Doing, Ended}
use Rattle.iox_model.specs.Handles.{is_received, way_of}
use Rattle.iox_model.specs.Joins.{with_members}
use Rattle.iox_model.specs.Makings.{new_port}
use Rattle.iox_model.specs.Messages.{Message}
use Rattle.iox_model.specs.Moments.{Moment}
use Rattle.iox_model.specs.Names.{misnamed}
use Rattle.iox_model.specs.States.{Handle, Fixed, State}
use Rattle.iox_model.specs.Values.{Filling, filled_as, MayFill}
use Rattle.iox_model.specs.Ends.{settled}
use Rattle.iox_model.specs.Handles.{handle_at}
use Rattle.iox_model.specs.Weaves.{Beat, Makes}
use Rattle.iox_model.specs.WholeCalls.{moved_by, left_by, IsDone}
use Rattle.iox_laws.proofs.WeaveLaws.WholeLemmas.{moved_by-fixed}
use Rattle.iox_laws.proofs.WeaveLedger.Borrows.{loan-own}
use Rattle.iox_laws.proofs.WeaveLedger.Lists.{IsAmong}
use Rattle.iox_laws.proofs.WeaveWorlds.Fillings.{still_a_loan}
use Rattle.iox_laws.proofs.WeaveWorlds.Reached.{ended_fits}
use Rattle.iox_laws.proofs.WeaveWorlds.Sound.{FitsOutcome}
use Rattle.iox_laws.proofs.RunLaws.Along.{IsAlong, created_for, reached_along}
use Rattle.iox_laws.proofs.RunLaws.Calls.{Goes, goes_by, begins, done_calm}
use Rattle.iox_laws.proofs.RunLaws.Having.{taken_way}
use Rattle.iox_laws.proofs.RunLaws.Holding.{HoldsEnd, ended_holds}
use Rattle.iox_laws.proofs.RunLaws.Runs.{same_calm, made_calm, calm_kept, created_calm}
use Rattle.iox_laws.proofs.RunLaws.Settling.{Calm}
use Rattle.iox_laws.specs.RunLaws.Traces.{beats_of_done, beats_of_reached}
use Rattle.iox_laws.specs.MessageLaws.Deliveries.{messages_put_on, messages_taken_from}
use Rattle.iox_laws.specs.MessageLaws.Holdings.{CameBy, HadAsDelivered}
use Rattle.iox_laws.specs.MessageLaws.Lists.{IsOneOf}
use Rattle.iox_laws.specs.MessageLaws.Orders.{AreWholeInOrder}
use Rattle.iox_laws.proofs.MessageLaws.Lists.{given-one, one-front}
use Rattle.iox_laws.proofs.MessageLaws.Orders.{whole_over_runs}
use Rattle.iox_laws.proofs.MessageLaws.Receipts.{IsReceipt, LoansOwn, settled_adds}
use Rattle.iox_laws.proofs.MessageLaws.Took.{IsTook, taken-front, taken-back, moments_took, ended_took, start_took}

-- what is taken was delivered
pub came_by : (y : Way) (m : Message) (bs : List Beat) (s : State) → AreWholeInOrder y bs s → IsOneOf m (messages_taken_from y bs) → CameBy y m bs
came_by y m bs s order taken = record {
  delivered = given-one m (messages_put_on y bs) (messages_taken_from y bs ++ s.waiting y) order
      (one-front m (messages_taken_from y bs) (s.waiting y) taken);
  taken = taken;
}

-- the message of the handle was taken on its way
abbrev pub WasTaken : List Beat → Handle → Type 0
WasTaken bs h = IsOneOf h.message (messages_taken_from (way_of h) bs)

-- a handle that a receive hands out is on the way of its take
abbrev pub OnItsWay : State → ℕ → Outcome → Type 0
OnItsWay s node (Receives x w m) = way_of (received_handle s.fixed node x m) ≡ w
OnItsWay s node o = Unit {0}

pub receipt_taken : (bs : List Beat) (s : State) (node : ℕ) (o : Outcome) (h : Handle) → OnItsWay s node o → IsTook bs (Ended o) → IsReceipt s node o h
    → WasTaken bs h
receipt_taken bs s node (Receives x w m) h on took is =
    subst (WasTaken bs) (sym is) (subst (λ y. IsOneOf m (messages_taken_from y bs)) (sym on) took)
receipt_taken bs s node (Tells reply) h on took is = absurd is
receipt_taken bs s node (Loans g) h on took is = absurd is
receipt_taken bs s node (Fills g) h on took is = absurd is
receipt_taken bs s node (Sends g copied count) h on took is = absurd is
receipt_taken bs s node (FailsToSend g copied refusal) h on took is = absurd is
receipt_taken bs s node (Drops g) h on took is = absurd is
receipt_taken bs s node (DropsPort port) h on took is = absurd is
receipt_taken bs s node (Forgets dead) h on took is = absurd is

-- ---- a service

loans_own : (f : Fixed) (o : Outcome) → HoldsEnd f o → LoansOwn o
loans_own f (Loans h) p = loan-own h.kind p.0
loans_own f (Fills h) p = loan-own h.kind p.0
loans_own f (Receives x w m) p = tt
loans_own f o p = tt

on_its_way : (s : State) (node : ℕ) (o : Outcome) → FitsOutcome s.fixed node o → HoldsEnd s.fixed o → OnItsWay s node o
on_its_way s node (Receives x w m) fits p = taken_way s.fixed node x w m (fits.1).0 (fits.1).1 (p.1).0 (p.1).1 (p.0).1
on_its_way s node o fits p = tt

-- each received handle in the end was there before, or was taken by the beats
abbrev HoldingsFollow : State → List Beat → State → Type 0
HoldingsFollow s bs t =
    (node : ℕ) (h : Handle) → IsAmong h (t.fixed.handles node) → is_received h.kind ≡ true → IsAmong h (s.fixed.handles node) ⊎ WasTaken bs h

abbrev HoldsAlong : State → List Beat → State → Type 0
HoldsAlong s bs t = Calm s → Calm t × HoldingsFollow s bs t

both_hold : (s t u : State) (bs cs : List Beat) → HoldsAlong s bs t → HoldsAlong t cs u → HoldsAlong s (bs ++ cs) u
both_hold s t u bs cs first then calm =
    let p : Calm t × HoldingsFollow s bs t = first calm in
    let q : Calm u × HoldingsFollow t cs u = then p.0 in (
      q.0,
      λ node h among received. elim (q.1 node h among received) as (λ x. IsAmong h (s.fixed.handles node) ⊎ WasTaken (bs ++ cs) h) [
        | inl there ↦
            elim (p.1 node h there received) as (λ x. IsAmong h (s.fixed.handles node) ⊎ WasTaken (bs ++ cs) h) [
              | inl a ↦ inl a
              | inr k ↦ inr (taken-front (way_of h) h.message bs cs k)
            ]
        | inr k ↦ inr (taken-back (way_of h) h.message bs cs k)
      ],
    )

call_holds : (s : State) (node : ℕ) (call : Call) (reply : Reply) (t : State) → misnamed s.fixed node call ≡ None
    → (done : IsDone s node call reply t) → HoldsAlong s (beats_of_done s node call reply t done) t
call_holds s node call reply t named done calm =
    let ms : List Moment = done.2 in
    let last : State = moved_by s ms in
    let d : Doing = start s node done.0 call in
    let left : Doing = left_by s node d ms in
    let o : Outcome = done.4 in
    let bs : List Beat = map (Makes node) ms in
    let g : Goes last node left = goes_by s node d ms (begins s node done.0 call calm named) done.3 in
    let fits : FitsOutcome last.fixed node o = ended_fits last node left o done.5 (g.call).1 in
    let holds : HoldsEnd last.fixed o = ended_holds last left o done.5 g.holds in
    let took : IsTook bs (Ended o)
    = ended_took bs last left o done.5 (moments_took [] s node d ms done.3 (start_took [] s node done.0 call)) in (
      done_calm s node call reply t calm named done,
      λ n h among received.
          elim (settled_adds last node done.6 o (loans_own last.fixed o holds) n h
          (subst (λ (u : State). IsAmong h (u.fixed.handles n)) done.9 among) received) as (λ x. IsAmong h (s.fixed.handles n) ⊎ WasTaken bs h) [
            | inl there ↦ inl (subst (λ (f : Fixed). IsAmong h (f.handles n)) (moved_by-fixed s ms) there)
            | inr new ↦ inr (receipt_taken bs last node o h (on_its_way last node o fits holds) took new)
          ],
    )

filling_holds : (s : State) (node number : ℕ) (h : Handle) (x : Filling) → handle_at s.fixed node number ≡ Some h → MayFill s.fixed h x
    → HoldsAlong s [] (settled s node [] (Fills (filled_as h x)))
filling_holds s node number h x there may calm = (
  calm_kept.fills s node number h x there may calm,
  λ n g among received.
      elim (settled_adds s node [] (Fills (filled_as h x)) (loan-own x.kind (still_a_loan h.kind x.kind may.loan may.kind).0) n g among received)
      as (λ u. IsAmong g (s.fixed.handles n) ⊎ WasTaken [] g) [ inl a ↦ inl a | inr e ↦ absurd e ],
)

holds_along : IsAlong HoldsAlong
holds_along = record {
  none = λ s calm. (calm, λ node h among received. inl among);
  both = both_hold;
  nodes = λ s x calm. (same_calm s (with_members s x) refl refl calm, λ node h among received. inl among);
  port = λ s node role id o calm. (made_calm s (new_port s.fixed node role id o) refl calm, λ n h among received. inl among);
  call = call_holds;
  fill = filling_holds;
}

-- the same of lists
pub one-among : {A : Type 0} (a : A) (xs : List A) → IsOneOf a xs → IsAmong a xs
one-among a [] p = p
one-among a (x ∷ xs) (inl e) = inl e
one-among a (x ∷ xs) (inr p) = inr (one-among a xs p)

pub had_as_delivered : HadAsDelivered
had_as_delivered s reached node h among received =
    let first : State = created_for s reached in
    let held : HoldingsFollow first (beats_of_reached s reached) s
    = (reached_along HoldsAlong holds_along s reached (created_calm reached.limits reached.acts reached.id)).1 in
    came_by (way_of h) h.message (beats_of_reached s reached) s (whole_over_runs s reached (way_of h))
    (elim (held node h (one-among h (s.fixed.handles node) among) received) as (λ x. WasTaken (beats_of_reached s reached) h) [
      | inl none ↦ absurd none
      | inr taken ↦ taken
    ])
