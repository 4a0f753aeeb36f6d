-- The last access of a call leads to a node whose call is over but for its end.
use Rattle.std.specs.Prelude.{◌⊎◌}
use Rattle.std.proofs.Common.{◌≡◌, ℕ, Some, None, refl, ap, sym, subst, ◌∙◌, inl, inr}
use Rattle.iox_model.specs.Joins.{not_living}
use Rattle.iox_model.specs.States.{State}
use Rattle.iox_model.specs.Weaves.{World}
use Rattle.iox_laws.proofs.WeaveLaws.WholeLemmas.{some-is}
use Rattle.iox_laws.proofs.WeaveLedger.Truths.{none-some}
use Rattle.iox_steps.specs.Accesses.{seen_by}
use Rattle.iox_wire_words.specs.Fits.{WireContents}
use Rattle.iox_wire_words.specs.Laws.{AccessIsMade}
use Rattle.iox_wire_words.specs.Programs.{program_access}
use Rattle.iox_wire_moments.specs.MomentsOf.{Pools}
use Rattle.iox_wire_locals.specs.declared.local.Ending.{Ending}
use Rattle.iox_wire_locals.specs.declared.local.Ending.TheVariants as endings
use Rattle.iox_wire_locals.specs.declared.local.Local.{Local}
use Rattle.iox_wire_locals.specs.declared.local.Local.TheVariants.{Ends, ReleaseReturns, SendEnds}
use Rattle.iox_wire_locals.specs.declared.seat.Seat.{Seat}
use Rattle.iox_wire_locals.specs.declared.table.Entry.{Entry}
use Rattle.iox_wire_locals.specs.Locals.{program_of}
use Rattle.iox_wire_locals.specs.StateMoments.{moment_at}
use Rattle.iox_wire_locals.specs.StepLaws.{ReliesOn}
use Rattle.iox_wire_locals.specs.Steps.{accessed, advance, ending_at}
use Rattle.iox_wire_locals.specs.Tables.{Setting, entry_at}
use Rattle.iox_wire_laws.specs.WireKeeping.OwnParts.{KeepsOwn}
use Rattle.iox_wire_laws.specs.WireKeeping.Shows.{ShowsWorld}
use Rattle.iox_wire_laws.proofs.WireKeeping.CountsKept.{steps_keep_own}
use Rattle.iox_wire_laws.specs.WireShows.OwnedCalls.{state_after}
use Rattle.iox_wire_laws.specs.WireRegions.OwnedBegins.{LayoutFits}
use Rattle.iox_wire_laws.specs.WireHolding.FarSlots.{EndsInPool, IsInPool, QueuesHaveSlots}
use Rattle.iox_wire_laws.specs.WireHolding.Holding.{held_after}
use Rattle.iox_wire_laws.specs.WireHolding.SlotsKnown.{HasEntry}
use Rattle.iox_wire_stands.specs.Following.{CallMessage, Dropped, NodeContinues, IsOfEntry, Leaving, LeavesNothing, MayLetGo, OfEntry, drops, keeps, lets_go, message_at, picks_slot, puts_aside, sends_loan, takes}
use Rattle.iox_wire_stands.specs.NamesLaws.{ReturnsNothing}
use Rattle.iox_wire_stands.specs.NodeLaws.{ToldWhatIsSo}
use Rattle.iox_wire_stands.specs.Nodes.{NodeStands}
use Rattle.iox_wire_stands.specs.Stands.{AreNumbered, OwnersAre}
use Rattle.iox_wire_stands.proofs.Follows.{accesses_follow}
use Rattle.iox_wire_stands.proofs.NamesFollow as named
use Rattle.iox_wire_stands.proofs.NodesFollow.{KeptPart, after_fixed, part_kept, takes_there}
use Rattle.iox_wire_stands.proofs.SlotsFollow.{none_taken}
use Rattle.iox_wire_steps.specs.Over.{EndsWith, IsDropped, CallIsOver}
use Rattle.iox_wire_steps.proofs.EndsStand.{ended_leaves, last_of, of_failed, of_sent}

-- ---- messages

pub returns_none : (local : Local) (message : CallMessage) → LeavesNothing message → ReturnsNothing local message
returns_none (ReleaseReturns e place) (Leaving k) leaves = leaves
returns_none local other leaves = tt

abbrev NotDropped : CallMessage → Type 0
NotDropped (Dropped e) = ⊥
NotDropped other = Unit {0}

-- a place with an access has dropped nothing
dropped_not : (p : Setting) (held : Pools) (s : State) (x : Seat) (seen : ℕ) (local : Local) → ReliesOn p x s held local seen → NotDropped (message_at local)
dropped_not p held s x seen (Ends ending) relies = absurd relies
dropped_not p held s x seen local relies = tt

-- ---- by the ending

module _ (p : Setting) (s : State) (y : Seat) where
  by_ending : (ending : Ending) → named.Stands p s.fixed y (message_at (Ends ending)) → ((e : Entry) → message_at (Ends ending) ≡ Dropped e → HasEntry y e)
      → EndsWith p s.fixed y ending × EndsInPool p ending
  by_ending (endings.Fills e words) has dropped = (has, tt)
  by_ending (endings.Sends e copied count) has dropped = (of_sent p s y e copied count has.0, has.1)
  by_ending (endings.FailsToSend e copied r) has dropped = (of_failed p s y e copied r has.0, has.1)
  by_ending (endings.Receives v w slot header) has dropped = has
  by_ending (endings.Drops e) has dropped = (dropped e refl, tt)
  by_ending ending has dropped = (tt, tt)

  by_place : (local : Local) (ending : Ending) → ending_at local ≡ Some ending → named.Stands p s.fixed y (message_at local)
      → ((e : Entry) → message_at local ≡ Dropped e → HasEntry y e) → EndsWith p s.fixed y ending × EndsInPool p ending
  by_place (Ends e) ending is has dropped = subst (λ k. EndsWith p s.fixed y k × EndsInPool p k) (some-is e ending is) (by_ending e has dropped)
  by_place (SendEnds d last count) ending is has dropped =
      subst (λ k. EndsWith p s.fixed y k × EndsInPool p k) (some-is (endings.Sends d.loan d.copied count) ending is) (of_sent p s y d.loan d.copied count has.0, has.1)
  by_place local ending is has dropped = none-some ending is

  -- what is dropped the ending gives up
  gives_up : (local : Local) (ending : Ending) (e : Entry) → ending_at local ≡ Some ending → message_at local ≡ Dropped e → IsDropped ending e
  gives_up (Ends k) ending e is message = subst (λ j. IsDropped j e) (some-is k ending is) (inside k message)
    where
      inside : (k : Ending) → message_at (Ends k) ≡ Dropped e → IsDropped k e
      inside (endings.Drops q) message = (cc)
      inside k message = absurd (subst NotDropped message tt)
  gives_up local ending e is message = absurd (subst NotDropped message tt)

-- ---- the access

module _ (p : Setting) (held : Pools) (word word' : ℕ → ℕ) (c : WireContents) (seats : ℕ → Seat) (w : World) (n : ℕ)
    (shows : ShowsWorld p held word c seats w) (living : not_living w.state n ≡ None) (fits : LayoutFits p w.state.fixed)
    (owners : OwnersAre p w.state.fixed) (numbered : AreNumbered p) (queues : QueuesHaveSlots p c w.state)
    (stands : NodeStands p held w.state (seats n)) where
  abbrev x : Seat
  x = seats n

  abbrev s : State
  s = w.state

  abbrev seen : ℕ
  seen = seen_by (program_access p.layout (program_of p x.local)) word

  abbrev y : Seat
  y = advance p (accessed x) x.local seen

  abbrev t : State
  t = state_after s (moment_at p held x.local seen)

  module _ (told : ToldWhatIsSo p held s x seen) (made : AccessIsMade (program_access p.layout (program_of p x.local)) word word') (ending : Ending)
      (is : ending_at y.local ≡ Some ending) where
    part : KeepsOwn x y
    part = steps_keep_own p x seen

    kept : KeptPart p (held_after p x seen held) t y
    kept = part_kept p held word word' c seats w n shows living fits owners numbered queues stands told made

    fixed : t.fixed ≡ s.fixed
    fixed = after_fixed s (moment_at p held x.local seen)

    leaves : LeavesNothing (message_at y.local)
    leaves = ended_leaves y.local ending is

    none : ReturnsNothing x.local (message_at y.local)
    none = returns_none x.local (message_at y.local) leaves

    follows : NodeContinues p (accessed x) x.local seen y
    follows = accesses_follow p (accessed x) seen

    has_message : named.Stands p s.fixed y (message_at y.local)
    has_message =
        named.after p held s x seen stands.names stands.name_slots stands.owns.owns told.relies none
        (takes_there p held word word' c seats w n shows living fits owners numbered queues stands told made) follows

    had_message : named.Stands p s.fixed x (message_at x.local)
    had_message =
        named.before p held s x seen stands.names stands.name_slots stands.owns.owns told.relies none
        (takes_there p held word word' c seats w n shows living fits owners numbered queues stands told made)

    there : (e : Entry) → HasEntry x e → HasEntry y e
    there e has = ap (entry_at e.number) part.table ∙ has

    back : (e : Entry) → HasEntry y e → HasEntry x e
    back e has = ap (entry_at e.number) (sym part.table) ∙ has

    -- the entry whose release is over
    of_entry : (message : CallMessage) (e : Entry) → named.Stands p s.fixed x message → IsOfEntry message e → HasEntry x e
    of_entry (OfEntry k) e has of = subst (HasEntry x) of has
    of_entry (Leaving k) e has of = subst (HasEntry x) of has.0
    of_entry other e has of = absurd of

    dropped : (e : Entry) → message_at y.local ≡ Dropped e → NodeContinues p (accessed x) x.local seen y → HasEntry y e
    dropped e is (keeps desks message) =
        absurd (subst NotDropped (sym message ∙ is) (dropped_not p held s (accessed x) seen x.local told.relies))
    dropped e is (lets_go desks still message may) = absurd (subst NotDropped (sym message ∙ is) tt)
    dropped e is (takes v slot desks still message took) = absurd (subst NotDropped (sym message ∙ is) tt)
    dropped e is (puts_aside k desks still returning message) = absurd (subst NotDropped (sym message ∙ is) tt)
    dropped e is (drops k desks still of message) =
        let same : k ≡ e = inside (sym message ∙ is) in there e (subst (HasEntry x) same (of_entry (message_at x.local) k had_message of))
      where
        inside : Dropped k ≡ Dropped e → k ≡ e
        inside is = (cc)
    dropped e is (picks_slot o slot free desks still place before at lends) = absurd (subst NotDropped (sym (ap message_at place) ∙ is) tt)
    dropped e is (sends_loan o slot desks still before copies message) = absurd (subst NotDropped (sym message ∙ is) tt)

    ends_with : EndsWith p s.fixed y ending × EndsInPool p ending
    ends_with = by_place p s y y.local ending is has_message (λ e at. dropped e at follows)

    -- an entry beyond its pool is the one that is dropped
    given_up : (e : Entry) → message_at x.local ≡ Leaving e → NodeContinues p (accessed x) x.local seen y → IsDropped ending e
    given_up e is' (keeps desks message) = absurd (subst LeavesNothing (message ∙ is') leaves)
    given_up e is' (lets_go desks still message may) = absurd (subst MayLetGo is' may)
    given_up e is' (takes v slot desks still message took) =
        absurd (subst LeavesNothing is' (subst LeavesNothing (sym (none_taken p x.local seen v slot took)) tt))
    given_up e is' (puts_aside k desks still returning message) = absurd (subst LeavesNothing message leaves)
    given_up e is' (drops k desks still of message) =
        let same : k ≡ e = sym (subst (λ m. IsOfEntry m k) is' of) in
        gives_up p s y y.local ending e is (message ∙ ap Dropped same)
    given_up e is' (picks_slot o slot free desks still place before at lends) = absurd (subst LeavesNothing (sym before ∙ is') tt)
    given_up e is' (sends_loan o slot desks still before copies message) = absurd (subst LeavesNothing (sym before ∙ is') tt)

    in_pool : (e : Entry) → IsInPool p e.sender e.slot ⊎ (message_at x.local ≡ Leaving e) → IsInPool p e.sender e.slot ⊎ IsDropped ending e
    in_pool e (inl low) = inl low
    in_pool e (inr leaving) = inr (given_up e leaving follows)

    pub is_over : CallIsOver p (held_after p x seen held) t y ending
    is_over = record {
      at_end = is;
      last = last_of p t y y.local ending is kept.owns.owns;
      message = subst (λ f. EndsWith p f y ending) (sym fixed) ends_with.0;
      takes = ends_with.1;
      entries = λ e has. stands.names.entries e (back e has);
      in_pools = λ e has. in_pool e (stands.in_pools e (back e has));
      slots = kept.slots;
      at_desks = kept.at_desks;
      uses = kept.uses;
      loans = kept.loans;
      borrowed = kept.borrowed;
      counted = kept.counted;
      numbers = kept.numbers;
      released = kept.released;
      states = kept.states;
    }
