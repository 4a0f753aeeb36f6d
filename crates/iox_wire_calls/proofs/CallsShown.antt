-- A node's call stands as it is shown: where its release gave the message back, with the entry put aside.
use Rattle.std.specs.Prelude.{◌⊎◌, map, ◌&&◌, ◌++◌}
use Rattle.std.proofs.Common.{◌≡◌, ℕ, ◌+◌, Bool, true, false, if◌then◌else◌, ◌==◌, [], ◌∷◌, Some, refl, ap, sym, subst, ◌∙◌, inl, inr}
use Rattle.iox_model.specs.States.{Fixed}
use Rattle.iox_wire_steps.specs.MomentsOf.{Pools}
use Rattle.iox_wire_steps.specs.Local.{Local}
use Rattle.iox_wire_steps.specs.Local.TheVariants.{ReleaseExchanges, ReleaseLooks, ReleaseReturns}
use Rattle.iox_wire_steps.specs.Seat.{Seat}
use Rattle.iox_wire_steps.specs.Entry.{Entry}
use Rattle.iox_wire_steps.specs.Courses.{placed}
use Rattle.iox_wire_steps.specs.Known.{free_lanes}
use Rattle.iox_wire_steps.specs.NewLoans.{entry_in}
use Rattle.iox_wire_steps.specs.Steps.{accessed, advance}
use Rattle.iox_wire_steps.specs.Tables.{Setting, entry_at, with_entry}
use Rattle.iox_wire_steps.specs.Aside.{aside, shown_at, with_aside}
use Rattle.iox_wire_steps.specs.SlotsKnown.{HasEntry, PlaceStands}
use Rattle.iox_wire_steps.specs.Uses.{how_often}
use Rattle.iox_wire_steps.specs.Following.{CallMessage, Dropped, NodeContinues, IsReturning, Leaving, LeavesNothing, Lent, NoMessage, Sent, Taken, drops, keeps, lets_go, message_at, picks_slot, puts_aside, sends_loan, takes}
use Rattle.iox_wire_steps.proofs.EndTables.{one_other}
use Rattle.iox_wire_calls.specs.CallsStand.{CallStands}
use Rattle.iox_wire_calls.specs.Lanes.{has_own_lane, lanes_in, lent_in}
use Rattle.iox_wire_calls.specs.LoanSlots.{LoansStand}
use Rattle.iox_wire_calls.specs.Places.{PlaceFits, SuitsPort}
use Rattle.iox_wire_calls.proofs.LoansElsewhere.{shown_loans}
use Rattle.iox_wire_calls.proofs.LaneLists.{one, put}

-- ---- the entry put aside

module _ (p : Setting) (z : Seat) (e : Entry) (has : HasEntry z e) (held : Pools) (stands : CallStands p held z) (none : lent_in (message_at z.local) ≡ []) where
  -- it has the same lane
  same_lane : (port lane : ℕ) → one port lane (aside p z.node e) ≡ one port lane e
  same_lane port lane = by_test (has_own_lane e.kind && (e.port == port))
    where
      by_test : (b : Bool) → how_often lane (map (λ (k : Entry). k.lane) (if b then aside p z.node e ∷ [] else []))
          ≡ how_often lane (map (λ (k : Entry). k.lane) (if b then e ∷ [] else []))
      by_test true = refl
      by_test false = refl

  suited : (q : Entry) → HasEntry (with_aside p z e) q → SuitsPort p (with_aside p z e) q.port q.kind
  suited q there = by_part (one_other q.number (aside p z.node e) z.table q there)
    where
      by_part : (entry_at q.number z.table ≡ Some q) ⊎ (q ≡ aside p z.node e) → SuitsPort p (with_aside p z e) q.port q.kind
      by_part (inl old) = stands.fits.handles q old
      by_part (inr is) = subst (λ (k : Entry). SuitsPort p z k.port k.kind) (sym is) (stands.fits.handles e has)

  pub aside_stands : (local : Local) → lent_in (message_at local) ≡ [] → PlaceFits p (with_aside p z e) local → LoansStand p held (placed (with_aside p z e) local)
      → CallStands p held (placed (with_aside p z e) local)
  aside_stands local nothing place loans = record {
    fits = record { handles = suited; place = place };
    lanes = λ port mine lane.
        ap (λ es. how_often lane (free_lanes z port) + how_often lane (lanes_in port (es ++ with_entry (aside p z.node e) z.table))) nothing
        ∙ ap (λ k. how_often lane (free_lanes z port) + k) (put port lane (aside p z.node e) e refl (same_lane port lane) z.table has)
        ∙ ap (λ es. how_often lane (free_lanes z port) + how_often lane (lanes_in port (es ++ z.table))) (sym none)
        ∙ stands.lanes port mine lane;
    loans = loans;
  }

-- ---- as it is shown

pub shown_stands : (p : Setting) (held : Pools) (z : Seat) (local : Local) → z.local ≡ local → ((e : Entry) → message_at local ≡ Leaving e → HasEntry z e) → CallStands p held z
    → CallStands p held (shown_at p z local)
shown_stands p held z (ReleaseLooks e) is has stands =
    aside_stands p z e (has e refl) held stands (ap (λ l. lent_in (message_at l)) is) (ReleaseLooks (aside p z.node e)) refl tt
    (shown_loans p held z (ReleaseLooks e) is stands.loans)
shown_stands p held z (ReleaseExchanges e old) is has stands =
    aside_stands p z e (has e refl) held stands (ap (λ l. lent_in (message_at l)) is) (ReleaseExchanges (aside p z.node e) old) refl tt
    (shown_loans p held z (ReleaseExchanges e old) is stands.loans)
shown_stands p held z local is has stands = stands

-- ---- which entry is put aside

abbrev leaving_in : Entry → CallMessage → Entry
leaving_in none (Leaving e) = e
leaving_in none other = none

abbrev pub IsLeaving : CallMessage → Type 0
IsLeaving (Leaving e) = Unit {0}
IsLeaving other = ⊥

module _ (p : Setting) (x : Seat) (seen : ℕ) (e : Entry) where
  abbrev y : Seat
  y = advance p (accessed x) x.local seen

  not_leaving : (m : CallMessage) → message_at y.local ≡ m → (IsLeaving m → ⊥) → message_at y.local ≡ Leaving e → ⊥
  not_leaving m is never leaves = never (subst IsLeaving (sym leaves ∙ is) tt)

  pub put_aside : NodeContinues p (accessed x) x.local seen (advance p (accessed x) x.local seen) → message_at (advance p (accessed x) x.local seen).local ≡ Leaving e
      → LeavesNothing (message_at x.local) → IsReturning x.local e
  put_aside (keeps desks message) leaves nothing = absurd (subst LeavesNothing (sym message ∙ leaves) nothing)
  put_aside (lets_go desks still message may) leaves nothing = absurd (not_leaving NoMessage message (λ no_more. no_more) leaves)
  put_aside (takes w slot desks still message on) leaves nothing = absurd (not_leaving (Taken w slot) message (λ no_more. no_more) leaves)
  put_aside (puts_aside k desks still returns message) leaves nothing =
      subst (IsReturning x.local) (ap (leaving_in e) (sym message ∙ leaves)) returns
  put_aside (drops k desks still of message) leaves nothing = absurd (not_leaving (Dropped k) message (λ no_more. no_more) leaves)
  put_aside (picks_slot o slot free desks still place before there lends) leaves nothing =
      absurd (not_leaving (Lent o slot) (ap message_at place) (λ no_more. no_more) leaves)
  put_aside (sends_loan o slot desks still before copies message) leaves nothing =
      absurd (not_leaving (Sent (entry_in o slot) true) message (λ no_more. no_more) leaves)

pub returning_has : (p : Setting) (f : Fixed) (x : Seat) (e : Entry) (local : Local) → IsReturning local e → PlaceStands p f x local → HasEntry x e
returning_has p f x e (ReleaseReturns k place) is stands = subst (HasEntry x) is stands
returning_has p f x e local is stands = absurd is
