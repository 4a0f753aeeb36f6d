-- What a node names follows the message of its call.
use Rattle.std.specs.Prelude.{◌⊎◌, ◌<◌}
use Rattle.std.proofs.Common.{◌≡◌, ℕ, Bool, true, false, None, refl, ap, sym, subst, ◌∙◌, inl, inr}
use Rattle.iox_model.specs.declared.way.Way.{Way}
use Rattle.iox_model.specs.Peers.{node_of_port}
use Rattle.iox_model.specs.States.{Fixed, State}
use Rattle.iox_laws.proofs.WeaveLedger.Truths.{none-some}
use Rattle.iox_wire_moments.specs.MomentsOf.{Pools}
use Rattle.iox_wire_locals.specs.declared.local.Ending.{Ending}
use Rattle.iox_wire_locals.specs.declared.local.Ending.TheVariants as endings
use Rattle.iox_wire_locals.specs.declared.local.Local.{Local}
use Rattle.iox_wire_locals.specs.declared.local.Local.TheVariants.{Ends, LendStores, ReceiveAsks, ReceiveLoads, ReceivePops, ReceiveReturns, ReleaseReturns, SendAsks, SendEmpties, SendEnds, SendEvicts, SendGetsBack, SendLooks, SendOpens, SendPushes}
use Rattle.iox_wire_locals.specs.declared.seat.Seat.{Seat}
use Rattle.iox_wire_locals.specs.declared.table.Entry.{Entry}
use Rattle.iox_wire_locals.specs.declared.table.NewLoan.{NewLoan}
use Rattle.iox_wire_locals.specs.StepLaws.{ReliesOn}
use Rattle.iox_wire_locals.specs.Steps.{accessed, advance, ending_at}
use Rattle.iox_wire_locals.specs.Tables.{Setting, entry_at}
use Rattle.iox_wire_laws.specs.WireKeeping.OwnParts.{KeepsOwn}
use Rattle.iox_wire_laws.proofs.WireKeeping.CountsKept.{steps_keep_own}
use Rattle.iox_wire_laws.specs.WireShows.OwnedCalls.{ReceivesOn}
use Rattle.iox_wire_laws.specs.WireRegions.OwnedWords.{Owns}
use Rattle.iox_wire_laws.specs.WireHolding.Aside.{slot_aside}
use Rattle.iox_wire_laws.specs.WireHolding.FarSlots.{IsInPool, NamesSlots, TakesFromPool}
use Rattle.iox_wire_laws.specs.WireHolding.SlotsKnown.{HasEntry, SendsOwnEntry, IsAside, NamesStand, PlaceStands}
use Rattle.iox_wire_stands.specs.Following.{CallMessage, NodeContinues, IsReturning, Leaving, Lent, OfEntry, Sent, Taken, TakesOn, drops, keeps, lets_go, message_at, picks_slot, puts_aside, sends_loan, takes}
use Rattle.iox_wire_stands.specs.NamesLaws.{AccessesKeepNames, ReturnsNothing, TakesInPool}
use Rattle.iox_wire_stands.proofs.Follows.{accesses_follow}

-- ---- by the message

abbrev pub Stands : Setting → Fixed → Seat → CallMessage → Type 0
Stands p f x (Sent e copied) = SendsOwnEntry f x e copied × IsInPool p e.sender e.slot
Stands p f x (OfEntry e) = HasEntry x e
Stands p f x (Leaving e) = HasEntry x e × IsAside p e
Stands p f x (Taken w slot) = ReceivesOn p x.node f w × IsInPool p w.sender slot
Stands p f x other = Unit {0}

module _ (p : Setting) (f : Fixed) (x : Seat) where
  of_ending : (ending : Ending) → PlaceStands p f x (Ends ending) → TakesFromPool p (Ends ending) → Stands p f x (message_at (Ends ending))
  of_ending (endings.Fills e words) has low = has
  of_ending (endings.Sends e copied count) has low = (has, low)
  of_ending (endings.FailsToSend e copied r) has low = (has, low)
  of_ending (endings.Receives v w slot header) has low = (has, low)
  of_ending ending has low = tt

  of_place : (local : Local) → PlaceStands p f x local → TakesFromPool p local → Stands p f x (message_at local)
  of_place (Ends ending) has low = of_ending ending has low
  of_place (SendAsks d) has low = (has, low)
  of_place (SendEmpties d w place left) has low = (has, low)
  of_place (SendLooks d w place left full) has low = (has, low)
  of_place (SendOpens d w left full) has low = (has, low)
  of_place (SendPushes d last w place left count) has low = (has, low)
  of_place (SendEvicts d w place left count) has low = (has, low)
  of_place (SendGetsBack d w place left count) has low = (has, low)
  of_place (SendEnds d last count) has low = (has, low)
  of_place (ReceiveLoads v w slot header left waiting) has low = (has, low)
  of_place (ReceiveAsks v w slot header left waiting) has low = (has, low)
  of_place (ReceiveReturns v w slot place left waiting) has low = (has, low)
  of_place local has low = has

  to_place : (local : Local) → ending_at local ≡ None → Stands p f x (message_at local) → PlaceStands p f x local × TakesFromPool p local
  to_place (Ends ending) going has = absurd (none-some ending (sym going))
  to_place (SendEnds d last count) going has = absurd (none-some (endings.Sends d.loan d.copied count) (sym going))
  to_place (SendAsks d) going has = has
  to_place (SendEmpties d w place left) going has = has
  to_place (SendLooks d w place left full) going has = has
  to_place (SendOpens d w left full) going has = has
  to_place (SendPushes d last w place left count) going has = has
  to_place (SendEvicts d w place left count) going has = has
  to_place (SendGetsBack d w place left count) going has = has
  to_place (ReceiveLoads v w slot header left waiting) going has = has
  to_place (ReceiveAsks v w slot header left waiting) going has = has
  to_place (ReceiveReturns v w slot place left waiting) going has = has
  to_place local going has = (has, tt)

-- the same node with the same entries
module _ (p : Setting) (f : Fixed) (x y : Seat) (part : KeepsOwn x y) where
  has_entry : (e : Entry) → HasEntry x e → HasEntry y e
  has_entry e has = ap (entry_at e.number) part.table ∙ has

  has_sent : (e : Entry) (copied : Bool) → SendsOwnEntry f x e copied → SendsOwnEntry f y e copied
  has_sent e true has = (has.0, has.1 ∙ sym part.node)
  has_sent e false has = has_entry e has

  still_stands : (message : CallMessage) → Stands p f x message → Stands p f y message
  still_stands (Sent e copied) has = (has_sent e copied has.0, has.1)
  still_stands (OfEntry e) has = has_entry e has
  still_stands (Leaving e) has = (has_entry e has.0, has.1)
  still_stands (Taken w slot) has = (subst (λ n. ReceivesOn p n f w) (sym part.node) has.0, has.1)
  still_stands other has = tt

-- ---- an access

abbrev NotLent : CallMessage → Type 0
NotLent (Lent o slot) = ⊥
NotLent other = Unit {0}

module _ (p : Setting) (held : Pools) (s : State) (x : Seat) (seen : ℕ) where
  taken_on : (local : Local) (w : Way) (slot : ℕ) → TakesOn p local seen w slot → Owns p x.node s.fixed s.request_state local → TakesInPool p local seen
      → ReceivesOn p x.node s.fixed w × IsInPool p w.sender slot
  taken_on (ReceivePops v y more place left waiting) w slot took owns low = (
    subst (ReceivesOn p x.node s.fixed) took.0 owns.0.0,
    subst (λ (v : Way). IsInPool p v.sender slot) took.0 (low slot took.1),
  )
  taken_on local w slot took owns low = absurd took

  lent_by : (local : Local) (o : NewLoan) (slot : ℕ) → message_at local ≡ Lent o slot → ReliesOn p (accessed x) s held local seen
      → Owns p x.node s.fixed s.request_state local → (node_of_port s.fixed o.port ≡ x.node) × (slot < (p.port o.port).pool)
  lent_by (LendStores k own next) o slot is relies owns =
      let loan : k ≡ o = (cc) in
      let same : own ≡ slot = (cc) in (
        subst (λ (l : NewLoan). node_of_port s.fixed l.port ≡ x.node) loan relies.0,
        subst (λ (l : NewLoan). slot < (p.port l.port).pool) loan (subst (λ i. i < (p.port k.port).pool) same owns.1),
      )
  lent_by (Ends ending) o slot is relies owns = absurd relies
  lent_by local o slot is relies owns = absurd (subst NotLent is tt)

  returns_not : (local : Local) (e : Entry) → IsReturning local e → ReturnsNothing local (Leaving e) → ⊥
  returns_not (ReleaseReturns k place) e is none = none
  returns_not local e is none = is

  module _ (names : NamesStand p s.fixed x) (slots : NamesSlots p x) (owns : Owns p x.node s.fixed s.request_state x.local)
      (relies : ReliesOn p (accessed x) s held x.local seen) (none : ReturnsNothing x.local (message_at (advance p (accessed x) x.local seen).local)) (low : TakesInPool p x.local seen) where
    abbrev y : Seat
    y = advance p (accessed x) x.local seen

    part : KeepsOwn x y
    part = steps_keep_own p x seen

    pub before : Stands p s.fixed x (message_at x.local)
    before = of_place p s.fixed x x.local names.place slots.place

    pub after : NodeContinues p (accessed x) x.local seen y → Stands p s.fixed y (message_at y.local)
    after (keeps desks message) =
        subst (Stands p s.fixed y) (sym message) (still_stands p s.fixed x y part (message_at x.local) before)
    after (lets_go desks still message may) = subst (Stands p s.fixed y) (sym message) tt
    after (takes w slot desks still message took) =
        let at = taken_on x.local w slot took owns low in
        subst (Stands p s.fixed y) (sym message) (still_stands p s.fixed x y part (Taken w slot) at)
    after (puts_aside e desks still returns message) = absurd (returns_not x.local e returns (subst (ReturnsNothing x.local) message none))
    after (drops e desks still of message) = subst (Stands p s.fixed y) (sym message) tt
    after (picks_slot o slot free desks still place lent there lends) = subst (λ l. Stands p s.fixed y (message_at l)) (sym place) tt
    after (sends_loan o slot desks still lent copies message) =
        let at = lent_by x.local o slot lent relies owns in
        subst (Stands p s.fixed y) (sym message) ((refl, at.0 ∙ sym part.node), at.1)

    kept : ending_at y.local ≡ None → NamesStand p s.fixed y × NamesSlots p y
    kept going =
        let at = to_place p s.fixed y y.local going (after (accesses_follow p (accessed x) seen)) in (
          record { entries = λ e there. names.entries e (back e there); place = at.0 },
          record { entries = λ e there. slot e (slots.entries e (back e there)); place = at.1 },
        )
      where
        back : (e : Entry) → HasEntry y e → HasEntry x e
        back e there = ap (entry_at e.number) (sym part.table) ∙ there

        slot : (e : Entry) → IsInPool p e.sender e.slot ⊎ (e.slot ≡ slot_aside p x.node e) → IsInPool p e.sender e.slot ⊎ (e.slot ≡ slot_aside p y.node e)
        slot e (inl has) = inl has
        slot e (inr far) = inr (far ∙ ap (λ n. slot_aside p n e) (sym part.node))

pub accesses_keep_names : AccessesKeepNames
accesses_keep_names p held s x seen names slots owns relies none low going =
    kept p held s x seen names slots owns relies none low going
