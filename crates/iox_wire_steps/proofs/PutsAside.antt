-- The access that gives a request back: all stands, with its entry put aside as the node is shown.
use Rattle.std.specs.Prelude.{◌⊎◌, ◌<◌}
use Rattle.std.specs.List.{list_any}
use Rattle.std.proofs.Common.{◌≡◌, ℕ, ◌+◌, Bool, true, false, if◌then◌else◌, ◌==◌, ◌&&◌, List, Option, Some, None, refl, ap, sym, subst, ◌∙◌, inl, inr, arith, eqb-true, true≢false}
use Rattle.iox_model.specs.declared.way.Way.{Way}
use Rattle.iox_model.specs.Handles.{is_received}
use Rattle.iox_model.specs.Joins.{not_living}
use Rattle.iox_model.specs.Maps.{put_at}
use Rattle.iox_model.specs.Moments.{Moment}
use Rattle.iox_model.specs.States.{State}
use Rattle.iox_model.specs.Weaves.{World}
use Rattle.iox_laws.proofs.WeaveLaws.WholeLemmas.{moved-members, not_living-members, put_at-here, split}
use Rattle.iox_laws.proofs.WeaveLedger.Truths.{false_if}
use Rattle.iox_steps.specs.declared.side.Pushing.{Pushing}
use Rattle.iox_steps.specs.Accesses.{seen_by}
use Rattle.iox_wire_words.specs.Fits.{WireContents, contents_after}
use Rattle.iox_wire_words.specs.Laws.{AccessIsMade}
use Rattle.iox_wire_words.specs.Programs.{program_access}
use Rattle.iox_wire_moments.specs.MomentsOf.{Pools}
use Rattle.iox_wire_locals.specs.declared.local.Local.{Local}
use Rattle.iox_wire_locals.specs.declared.local.Local.TheVariants.{ReleaseLooks, ReleaseReturns}
use Rattle.iox_wire_locals.specs.declared.seat.Seat.{Seat}
use Rattle.iox_wire_locals.specs.declared.table.Entry.{Entry}
use Rattle.iox_wire_locals.specs.Courses.{placed}
use Rattle.iox_wire_locals.specs.Locals.{program_of}
use Rattle.iox_wire_locals.specs.StateMoments.{moment_at}
use Rattle.iox_wire_locals.specs.Steps.{accessed, advance, ending_at}
use Rattle.iox_wire_locals.specs.Tables.{Setting}
use Rattle.iox_wire_laws.specs.WireKeeping.Shows.{ShowsWorld}
use Rattle.iox_wire_laws.specs.WireKeeping.Writes.{is_slot_of}
use Rattle.iox_wire_laws.proofs.WireShows.StepsShow.{seat_put}
use Rattle.iox_wire_laws.specs.WireShows.OwnedCalls.{state_after}
use Rattle.iox_wire_laws.specs.WireHolding.Aside.{shown, slot_aside}
use Rattle.iox_wire_laws.specs.WireHolding.FarSlots.{IsInPool}
use Rattle.iox_wire_laws.specs.WireHolding.Holding.{held_after, held_with}
use Rattle.iox_wire_laws.specs.WireHolding.Named.{IsUnnamed, place_names}
use Rattle.iox_wire_laws.specs.WireHolding.SlotsKnown.{EntryFits, HasEntry, PlaceStands}
use Rattle.iox_wire_laws.proofs.WireHolding.Aside.{entries_may_be_put_aside}
use Rattle.iox_wire_laws.proofs.WireHolding.FarSlots.{far_slots_are_unnamed}
use Rattle.iox_wire_stands.specs.Following.{Leaving, LeavesNothing, message_at}
use Rattle.iox_wire_stands.specs.NodeLaws.{ToldWhatIsSo}
use Rattle.iox_wire_stands.specs.Nodes.{NodeStands}
use Rattle.iox_wire_stands.specs.Stands.{AreNumbered}
use Rattle.iox_wire_stands.specs.StepLaws.{TakenStays}
use Rattle.iox_wire_stands.proofs.NodesFollow.{KeptPart}
use Rattle.iox_wire_stands.proofs.OthersHold.{named_taken}
use Rattle.iox_wire_stands.proofs.StepsAround.{Around, AroundNext, Whole, goes_around, own_part}
use Rattle.iox_wire_steps.specs.WholeSteps.{HoldsNext, held_closed, step_beats}
use Rattle.iox_wire_steps.proofs.AsideNodes.{aside_agrees, aside_in_pools, aside_stands}
use Rattle.iox_wire_steps.proofs.FarPools.{far_slots_may_change}
use Rattle.iox_wire_steps.proofs.LastSteps.{Holding, LedTo, put_again}

-- ---- once it is given back

module _ (p : Setting) (new : Pools) (word : ℕ → ℕ) (c : WireContents) (seats : ℕ → Seat) (u : World) (n : ℕ) (v : Seat) (e : Entry)
    (around : Around p new word c (put_at seats n (placed v (ReleaseLooks e))) u n) (living : not_living u.state n ≡ None) (node : v.node ≡ n)
    (has : HasEntry v e) (received : is_received e.kind ≡ true) (entries : (q : Entry) → HasEntry v q → EntryFits p q)
    (low : (q : Entry) → HasEntry v q → IsInPool p q.sender q.slot) (part : KeptPart p new u.state (placed v (ReleaseLooks e)))
    (unnamed : IsUnnamed p c (put_at seats n (placed v (ReleaseLooks e))) u.state e.sender (slot_aside p n e)) where
  abbrev looking : Seat
  looking = placed v (ReleaseLooks e)

  abbrev far : Pools
  far = held_with new e.sender (slot_aside p n e) (new e.sender e.slot)

  here : put_at seats n (placed v (ReleaseLooks e)) n ≡ placed v (ReleaseLooks e)
  here = put_at-here seats n (placed v (ReleaseLooks e))

  shows : ShowsWorld p far word c (put_at seats n (shown p looking)) u
  shows =
      subst (λ ss. ShowsWorld p far word c ss u) (put_again seats n looking (shown p looking))
      (subst (λ q. ShowsWorld p far word c (put_at (put_at seats n looking) n (shown p q)) u) here
      (entries_may_be_put_aside p new word c (put_at seats n looking) u n e around.shows living (ap (λ (q : Seat). q.local) here)
      (subst (λ q. HasEntry q e) (sym here) has) unnamed).0)

  own : NodeStands p far u.state (shown p looking)
  own =
      subst (λ k. NodeStands p (held_with new e.sender (slot_aside p k e) (new e.sender e.slot)) u.state (shown p looking)) node
      (aside_stands p new u.state v e has received entries low part)

  taken : (k : ℕ) → (k == n) ≡ false → not_living u.state k ≡ None → TakenStays new far (message_at (seats k).local)
  taken k other lives w slot is =
      by_case ((e.sender == w.sender) && (slot_aside p n e == slot)) (λ same.
      let parts = split (e.sender == w.sender) (slot_aside p n e == slot) same in
      true≢false (sym (named_taken (seats k).local w slot is)
      ∙ subst (λ i. place_names (seats k).local w.sender i ≡ false) (eqb-true (slot_aside p n e) slot parts.1)
      (subst (λ q. place_names (seats k).local q (slot_aside p n e) ≡ false) (eqb-true e.sender w.sender parts.0) (not_named k other lives))))
    where
      by_case : (b : Bool) → (b ≡ true → ⊥) → (if b then new e.sender e.slot else new w.sender slot) ≡ new w.sender slot
      by_case true never = absurd (never refl)
      by_case false never = refl

      not_named : (k : ℕ) → (k == n) ≡ false → not_living u.state k ≡ None → place_names (seats k).local e.sender (slot_aside p n e) ≡ false
      not_named k other lives =
          subst (λ b. place_names (if b then looking else seats k).local e.sender (slot_aside p n e) ≡ false) other (unnamed.places k lives)

  other_node : (k : ℕ) → (k == n) ≡ false → not_living u.state k ≡ None → NodeStands p far u.state (seats k)
  other_node k other lives =
      far_slots_may_change p new far u.state (seats k) (aside_agrees p (seats k) n e new) (taken k other lives)
      (subst (λ b. NodeStands p new u.state (if b then looking else seats k)) other (around.nodes k other lives))

  pub aside_whole : Whole p far word c (put_at seats n (shown p looking)) u
  aside_whole = record {
    shows = shows;
    layout = around.layout;
    owners = around.owners;
    rooms = around.rooms;
    queues = around.queues;
    nodes = λ k lives. seat_put (λ i q. not_living u.state i ≡ None → NodeStands p far u.state q) seats n (shown p looking) (λ l. own) (λ i other l. other_node i other l) k lives;
  }

-- ---- the access

module _ (p : Setting) (held : Pools) (word word' : ℕ → ℕ) (c : WireContents) (seats : ℕ → Seat) (w : World) (n : ℕ) (numbered : AreNumbered p)
    (whole : Whole p held word c seats w) (living : not_living w.state n ≡ None) where
  abbrev x : Seat
  x = seats n

  abbrev seen : ℕ
  seen = seen_by (program_access p.layout (program_of p x.local)) word

  abbrev new : Pools
  new = held_after p x seen held

  abbrev after : WireContents
  after = contents_after p.layout (program_of p x.local) seen c

  module _ (told : ToldWhatIsSo p held w.state x seen) (made : AccessIsMade (program_access p.layout (program_of p x.local)) word word') (e : Entry) (place : Pushing)
      (at : x.local ≡ ReleaseReturns e place) (to : advance p (accessed x) x.local seen ≡ placed (accessed x) (ReleaseLooks e))
      (received : is_received e.kind ≡ true) (payload : List ℕ) where
    mine : NodeStands p held w.state x
    mine = whole.nodes n living

    has : HasEntry x e
    has = subst (PlaceStands p w.state.fixed x) at mine.names.place

    low : (q : Entry) → HasEntry x q → IsInPool p q.sender q.slot
    low q there = by_part (mine.in_pools q there)
      where
        by_part : IsInPool p q.sender q.slot ⊎ (message_at x.local ≡ Leaving q) → IsInPool p q.sender q.slot
        by_part (inl has) = has
        by_part (inr leaves) = absurd (subst LeavesNothing (sym (ap message_at at) ∙ leaves) tt)

    -- nobody names the slot beyond the pool
    before : IsUnnamed p c seats w.state e.sender (slot_aside p n e)
    before =
        far_slots_are_unnamed p held word c seats w n e whole.shows (λ k lives. (whole.nodes k lives).names) (λ k lives. (whole.nodes k lives).name_slots) whole.queues low

    abbrev z : Seat
    z = placed (accessed (seats n)) (ReleaseLooks e)

    module _ (u : World) (around : Around p new word' after (put_at seats n z) u n) (lives_before : (k : ℕ) → not_living u.state k ≡ None → not_living w.state k ≡ None) where
      out : (y : Way) → y.sender ≡ e.sender → {b : Bool} → (b ≡ true → IsInPool p y.sender (slot_aside p n e)) → b ≡ false
      out y from {b} there =
          false_if b (λ is. beyond (p.port e.sender).pool n (subst (λ i. slot_aside p n e < (p.port i).pool) from (there is)))
        where
          beyond : (pool node : ℕ) → pool + node < pool → ⊥
          beyond pool node less = omega (arith, less)

      after_too : IsUnnamed p after (put_at seats n z) u.state e.sender (slot_aside p n e)
      after_too = record {
        ways = record {
          waiting = λ y way on from. out y from (around.queues.waiting y (slot_aside p n e) way on);
          in_hand = λ y way on from. out y from (around.queues.in_hand y (slot_aside p n e) way on);
          returned = λ y way on from. out y from (around.queues.returned y (slot_aside p n e) way on);
        };
        entries = λ k lives.
            seat_put (λ i (q : Seat). not_living u.state i ≡ None → list_any (λ j. is_slot_of j e.sender (slot_aside p n e)) q.table ≡ false) seats n z
            (λ l. before.entries n (lives_before n l)) (λ i other l. before.entries i (lives_before i l)) k lives;
        places = λ k lives.
            seat_put (λ i (q : Seat). not_living u.state i ≡ None → place_names q.local e.sender (slot_aside p n e) ≡ false) seats n z
            (λ l. subst (λ (i : Local). place_names i e.sender (slot_aside p n e) ≡ false) at (before.places n (lives_before n l)))
            (λ i other l. before.places i (lives_before i l)) k lives;
      }

    abbrev H : Holding
    H = HoldsNext p (seats n) (seen_by (program_access p.layout (program_of p (seats n).local)) word) payload held c

    -- slots of pools hold what they held
    holds : HoldsNext p (seats n) (seen_by (program_access p.layout (program_of p (seats n).local)) word) payload held c
        (held_with new e.sender (slot_aside p n e) (new e.sender e.slot)) after
    holds = record {
      pools = λ port slot low.
          aside_in_pools p n e new port slot low
          ∙ ap (λ (q : Seat). held_closed p new payload (ending_at q.local) port slot) (sym to);
      contents = refl;
    }

    by_moment : (m : Option Moment) → AroundNext p new word' after (put_at seats n z) w n m → KeptPart p new (state_after w.state m) z
        → LedTo H p word' w (step_beats n payload m None) (put_at seats n (shown p z))
    by_moment None around part = (
      held_with new e.sender (slot_aside p n e) (new e.sender e.slot),
      after,
      w,
      refl,
      aside_whole p new word' after seats w n (accessed (seats n)) e around living (whole.shows.node n) has received mine.names.entries low part
          (after_too w around (λ k lives. lives)),
      holds,
    )
    by_moment (Some m) next part =
        let u : World = next.0 in
        let lives : (k : ℕ) → not_living u.state k ≡ not_living w.state k
        = λ k. not_living-members u.state w.state k (ap (λ (s : State). s.members) next.2 ∙ moved-members w.state m) in (
          held_with new e.sender (slot_aside p n e) (new e.sender e.slot),
          after,
          u,
          (u, next.1, refl),
          aside_whole p new word' after seats u n (accessed (seats n)) e next.3 (lives n ∙ living) (whole.shows.node n) has received mine.names.entries low
              (subst (λ s. KeptPart p new s z) (sym next.2) part) (after_too u next.3 (λ k l. sym (lives k) ∙ l)),
          holds,
        )

    pub aside_led : LedTo H p word' w (step_beats n payload (moment_at p held x.local seen) None) (put_at seats n (shown p z))
    aside_led =
        by_moment (moment_at p held x.local seen)
        (subst (λ q. AroundNext p new word' after (put_at seats n q) w n (moment_at p held x.local seen)) to
        (goes_around p held word word' c seats w n numbered whole living told made))
        (subst (KeptPart p new (state_after w.state (moment_at p held x.local seen))) to (own_part p held word word' c seats w n numbered whole living told made))
