-- Calls stand after each whole step of a node.
use Rattle.std.specs.Prelude.{◌<◌, ◌^◌, ◌⊎◌}
use Rattle.std.proofs.Common.{◌≡◌, ℕ, true, false, ◌==◌, List, Option, Some, None, refl, ap, sym, subst, ◌∙◌, inl, inr}
use Rattle.iox_model.specs.Joins.{not_living}
use Rattle.iox_laws.proofs.WeaveLaws.WholeLemmas.{not_living-members}
use Rattle.iox_wire_steps.specs.Seat.{Seat}
use Rattle.iox_wire_steps.specs.Ending.{Ending}
use Rattle.iox_wire_steps.specs.Local.{Local}
use Rattle.iox_wire_steps.specs.Local.TheVariants.{ReleaseExchanges, ReleaseLooks}
use Rattle.iox_wire_steps.specs.Entry.{Entry}
use Rattle.iox_wire_steps.specs.Begins.{is_busy}
use Rattle.iox_wire_steps.specs.Known.{loans_at}
use Rattle.iox_wire_steps.specs.Locals.{program_of}
use Rattle.iox_wire_steps.specs.StateMoments.{moment_at}
use Rattle.iox_wire_steps.specs.Steps.{accessed, advance, closed, ending_at, next}
use Rattle.iox_wire_steps.specs.Tables.{Setting, entry_at}
use Rattle.iox_wire_steps.specs.SlotsKnown.{HasEntry, IsPortOfSeat}
use Rattle.iox_wire_steps.specs.OwnedCalls.{state_after}
use Rattle.iox_wire_steps.specs.Aside.{shown, shown_at}
use Rattle.iox_wire_steps.specs.Holding.{held_after, held_from}
use Rattle.iox_wire_steps.proofs.Aside.{shown_nodes_run_the_same}
use Rattle.iox_wire_steps.proofs.CountsKept.{steps_keep_own}
use Rattle.iox_wire_steps.specs.Laws.{AccessIsMade}
use Rattle.iox_wire_steps.specs.Programs.{Program, program_access}
use Rattle.iox_steps.specs.Accesses.{seen_by}
use Rattle.iox_wire_steps.specs.Following.{Leaving, LeavesNothing, message_at}
use Rattle.iox_wire_steps.specs.Runs.{Run}
use Rattle.iox_wire_steps.specs.Stands.{Player, Stands, seats_of, word_of}
use Rattle.iox_wire_steps.proofs.Follows.{accesses_follow}
use Rattle.iox_wire_steps.proofs.StepsAround.{Whole}
use Rattle.iox_wire_steps.proofs.StepsKept.{shown_same}
use Rattle.iox_wire_steps.specs.WholeSteps.{StepIsTold, held_closed, held_next, player_next}
use Rattle.iox_wire_steps.proofs.StepsWhole.{IsLeft, IsOther, IsReceiving, goes_alike, leaving_none, receiving, whole_steps_keep}
use Rattle.iox_wire_calls.specs.CallsStand.{CallStands, CallsStand, SteppedCallsStand}
use Rattle.iox_wire_calls.specs.Lanes.{AllLanesAreCounted}
use Rattle.iox_wire_calls.specs.Places.{CallFits}
use Rattle.iox_wire_calls.specs.StepsTold.{MessageIsTold, PayloadFits, PushesBelow}
use Rattle.iox_wire_calls.specs.LaneLaws.{HasLanesForSlots}
use Rattle.iox_wire_calls.proofs.LaneSlots.{free_slots_have_lanes}
use Rattle.iox_wire_calls.proofs.CallsShown.{IsLeaving, put_aside, returning_has, shown_stands}
use Rattle.iox_wire_calls.proofs.LaneEnds.{ends_keep_lanes}
use Rattle.iox_wire_calls.proofs.PlaceEnds.{ends_fit}
use Rattle.iox_wire_calls.proofs.PlaceSteps.{accesses_fit}
use Rattle.iox_wire_calls.proofs.StepsTold.{access_told, lanes, over, steps_are_told}
use Rattle.iox_wire_calls.proofs.LoanEnds.{ends_keep_loan_slots}
use Rattle.iox_wire_calls.proofs.LoanSlots.{accesses_keep_loans, loans_are_told}
use Rattle.iox_wire_calls.proofs.LoansElsewhere.{closed_elsewhere, from_elsewhere, lent_in_pool, loans_agree}
use Rattle.iox_wire_calls.specs.LoanSlots.{LoansStand, WordsAreTold}
use Rattle.iox_wire_steps.specs.Over.{CallIsOver}
use Rattle.iox_wire_steps.proofs.Accessed.{HasNone, no_access}
use Rattle.iox_wire_steps.specs.MomentsOf.{Pools}
use Rattle.iox_wire_steps.specs.FarSlots.{IsInPool}
use Rattle.iox_wire_calls.proofs.CallsAround.{by_node, members_stay, not_its, own_low}
use Rattle.iox_wire_calls.proofs.LanesSet.{lanes_are_set}

-- ---- a step

module _ (p : Setting) (words words' : List ℕ) (players : ℕ → Player) (r : Run) (n : ℕ) (payload : List ℕ) (stands : Stands p words players r)
    (calls : CallsStand p stands.held players r.last.state) (living : not_living r.last.state n ≡ None) where
  abbrev z : Seat
  z = (players n).seat

  abbrev x : Seat
  x = seats_of p players n

  abbrev seen_at : Seat → ℕ
  seen_at q = seen_by (program_access p.layout (program_of p q.local)) (word_of words)

  whole : Whole p stands.held (word_of words) stands.contents (seats_of p players) r.last
  whole = record {
    shows = stands.shows;
    layout = stands.layout;
    owners = stands.owners;
    rooms = stands.rooms;
    queues = stands.queues;
    nodes = stands.nodes;
  }

  -- a free slot of a client leaves it a lane
  lanes_for : HasLanesForSlots p (seats_of p players n)
  lanes_for =
      free_slots_have_lanes p stands.held (word_of words) stands.contents (seats_of p players) r.last n stands.shows living (stands.nodes n living) (calls n living).lanes

  -- the node as it is shown runs the same
  same_seen : seen_at (seats_of p players n) ≡ seen_at (players n).seat
  same_seen = ap (λ (g : Program). seen_by (program_access p.layout g) (word_of words)) (shown_nodes_run_the_same p z)

  still_busy : (local : Local) → (players n).seat.local ≡ local → is_busy local ≡ true → is_busy (shown_at p (players n).seat local).local ≡ true
  still_busy (ReleaseLooks e) is busy = refl
  still_busy (ReleaseExchanges e old) is busy = refl
  still_busy local is busy = ap is_busy is ∙ busy

  module _ (busy : is_busy (players n).seat.local ≡ true) (below : PushesBelow p (word_of words) (seats_of p players n).local)
      (few : (port : ℕ) → loans_at (seats_of p players n) port < 2 ^ 64)
      (words_told : WordsAreTold p stands.held r.last.state (seats_of p players n) (seen_at (seats_of p players n)) (seats_of p players n).local)
      (made : AccessIsMade (program_access p.layout (program_of p (seats_of p players n).local)) (word_of words) (word_of words')) where
    fits : CallFits p x
    fits = (calls n living).fits

    all : AllLanesAreCounted p x
    all = (calls n living).lanes

    busy_too : is_busy x.local ≡ true
    busy_too = still_busy z.local refl busy

    told : MessageIsTold p stands.held r.last.state (seats_of p players n) (seen_at (seats_of p players n)) (seats_of p players n).local
    told =
        loans_are_told p stands.held r.last.state x (seen_at x) (lanes_are_set p words players r n stands living) (stands.nodes n living) fits (calls n living).loans
        lanes_for all few words_told

    abbrev y : Seat
    y = advance p (accessed (seats_of p players n)) (seats_of p players n).local (seen_at (seats_of p players n))

    abbrev new : Pools
    new = held_after p (seats_of p players n) (seen_at (seats_of p players n)) stands.held

    ends_over : (ending : Ending) → ending_at y.local ≡ Some ending
        → CallIsOver p new (state_after r.last.state (moment_at p stands.held x.local (seen_at x))) y ending
    ends_over ending is = (over p words words' players r n payload stands living busy_too fits all below told made ending is).0

    access_loans : (o : Option Ending) → ending_at x.local ≡ o → LoansStand p new y
    access_loans None going =
        accesses_keep_loans p stands.held r.last.state x (seen_at x)
        (access_told p words words' players r n payload stands living busy_too fits all below told made going).relies (calls n living).loans
    access_loans (Some old) is =
        let none : HasNone p stands.held x x.local (seen_at x) = no_access p stands.held x x.local (seen_at x) old is in
        let loans = (calls n living).loans in
        let here : LoansStand p stands.held (accessed x) = record { loan = loans.loan; serials = loans.serials } in
        subst (λ q. LoansStand p (held_from p stands.held x.local q.local) q) (sym none.seat) (subst (λ h. LoansStand p h (accessed x)) (sym none.pools) here)

    -- after its access, and the end of the call if that was the last one
    closed_stands : (o : Option Ending) → ending_at y.local ≡ o → CallStands p (held_closed p new payload o) (closed p y o)
    closed_stands None is = record {
      fits = accesses_fit p x (seen_at x) fits;
      lanes = lanes p words words' players r n payload stands living busy_too fits all below told made;
      loans = access_loans (ending_at x.local) refl;
    }
    closed_stands (Some ending) is = record {
      fits = ends_fit p y ending is (accesses_fit p x (seen_at x) fits);
      lanes = ends_keep_lanes p new (state_after r.last.state (moment_at p stands.held x.local (seen_at x))) y ending (accesses_fit p x (seen_at x) fits) (ends_over ending is)
          (lanes p words words' players r n payload stands living busy_too fits all below told made);
      loans = ends_keep_loan_slots p new (state_after r.last.state (moment_at p stands.held x.local (seen_at x))) y payload ending (ends_over ending is)
          (access_loans (ending_at x.local) refl);
    }

    abbrev later : Pools
    later = held_next p (seats_of p players n) (seen_at (seats_of p players n)) payload stands.held

    next_stands : CallStands p later (next p x (seen_at x))
    next_stands = closed_stands (ending_at y.local) refl

    -- slots of other nodes hold what they held
    pub others_hold : (k : ℕ) → (k == n) ≡ false → (port slot : ℕ) → IsPortOfSeat p (seats_of p players k) port → later port slot ≡ stands.held port slot
    others_hold k other port slot its =
        let apart : IsPortOfSeat p y port → ⊥
        = not_its p players n k port y stands.shows.node ((steps_keep_own p x (seen_at x)).node ∙ stands.shows.node n) other its in
        closed_elsewhere p y port apart its.0 new (state_after r.last.state (moment_at p stands.held x.local (seen_at x))) payload
        (accesses_fit p x (seen_at x) fits) (ending_at y.local) slot refl ends_over
        ∙ from_elsewhere p y port apart its.0 stands.held x.local y.local slot (accesses_fit p x (seen_at x) fits).place

    -- what it puts aside is an entry of its own
    aside_there : LeavesNothing (message_at x.local) → (e : Entry) → (o : Option Ending) → ending_at (advance p (accessed x) x.local (seen_at x)).local ≡ o
        → message_at (closed p (advance p (accessed x) x.local (seen_at x)) o).local ≡ Leaving e → HasEntry (closed p (advance p (accessed x) x.local (seen_at x)) o) e
    aside_there nothing e (Some ending) is leaves = absurd (subst IsLeaving (sym leaves) tt)
    aside_there nothing e None is leaves =
        subst (λ (es : List Entry). entry_at e.number es ≡ Some e) (sym (steps_keep_own p x (seen_at x)).table)
        (returning_has p r.last.state.fixed x e x.local (put_aside p x (seen_at x) e (accesses_follow p (accessed x) (seen_at x)) leaves nothing)
        (stands.nodes n living).names.place)

    plainly : LeavesNothing (message_at (players n).seat.local) → CallStands p later (shown p (next p (players n).seat (seen_at (players n).seat)))
    plainly leaves =
        let same : x ≡ z = shown_same p z z.local leaves in
        subst (λ q. CallStands p later (shown p (next p q (seen_at q)))) same
        (shown_stands p later (next p x (seen_at x)) (next p x (seen_at x)).local refl
        (λ e. aside_there (subst (λ (q : Seat). LeavesNothing (message_at q.local)) (sym same) leaves) e
        (ending_at (advance p (accessed x) x.local (seen_at x)).local) refl) next_stands)

    alike : IsReceiving (players n).seat.local → CallStands p later (shown p (next p (players n).seat (seen_at (players n).seat)))
    alike received =
        subst (CallStands p later)
        (ap (next p x) same_seen ∙ (goes_alike p stands.held (seen_at z) z z.local refl received).next_is) next_stands

    -- one or the other
    left_or_not : (local : Local) → IsOther local ⊎ IsLeft local
    left_or_not (ReleaseLooks e) = inr tt
    left_or_not (ReleaseExchanges e old) = inr tt
    left_or_not local = inl tt

    not_plain : (local : Local) → IsLeft local → LeavesNothing (message_at (shown_at p (players n).seat local).local) → ⊥
    not_plain (ReleaseLooks e) left leaves = leaves
    not_plain (ReleaseExchanges e old) left leaves = leaves
    not_plain local left leaves = left

    as_received : (local : Local) → IsLeft local → IsReceiving (shown_at p (players n).seat local).local → IsReceiving local
    as_received (ReleaseLooks e) left received = received
    as_received (ReleaseExchanges e old) left received = received
    as_received local left received = absurd left

    pub own_stands : CallStands p later (shown p (next p (players n).seat (seen_at (players n).seat)))
    own_stands = by_part (left_or_not z.local)
      where
        by_part : IsOther (players n).seat.local ⊎ IsLeft (players n).seat.local → CallStands p later (shown p (next p (players n).seat (seen_at (players n).seat)))
        by_part (inl other) = plainly (leaving_none z.local other)
        by_part (inr left) =
            alike (as_received z.local left
            (receiving p stands.held (word_of words) stands.contents (seats_of p players) r.last n whole stands.numbers living (shown p z).local
            (stands.nodes n living).names.place (not_plain z.local left)))

pub stepped_calls_stand : SteppedCallsStand
stepped_calls_stand p words words' players r n payload stands calls living busy below few told long made len =
    let q : Seat = seats_of p players n in
    let z : Seat = (players n).seat in
    let runs : program_of p q.local ≡ program_of p z.local = shown_nodes_run_the_same p z in
    let same = same_seen p words words' players r n payload stands calls living in
    let made_too : AccessIsMade (program_access p.layout (program_of p q.local)) (word_of words) (word_of words')
    = subst (λ g. AccessIsMade (program_access p.layout g) (word_of words) (word_of words')) (sym runs) made in
    let words_too = subst (λ k. WordsAreTold p stands.held r.last.state q k q.local) (sym same) told in
    let node = calls n living in
    let told_too
    = loans_are_told p stands.held r.last.state q _ (lanes_are_set p words players r n stands living) (stands.nodes n living) node.fits node.loans
    (lanes_for p words words' players r n payload stands calls living) node.lanes few words_too in
    let step_told = subst (λ k. StepIsTold p stands.held r.last.state q k payload) same
    (steps_are_told p words words' players r n payload stands living (still_busy p words words' players r n payload stands calls living z.local refl busy) node.fits node.lanes
    below told_too (subst (λ k. PayloadFits p payload (advance p (accessed q) q.local k).local) (sym same) long) made_too) in
    let kept = whole_steps_keep p words words' players r n payload stands living step_told made len in
    let now : Pools = kept.2.held in
    let members = members_stay n payload _ _ r.last kept.0.last kept.1.woven in
    let lives : (k : ℕ) → not_living kept.0.last.state k ≡ not_living r.last.state k = λ k. not_living-members kept.0.last.state r.last.state k members in
    let holds : (port slot : ℕ) → IsInPool p port slot → now port slot ≡ held_next p q (seen_by (program_access p.layout (program_of p q.local)) (word_of words)) payload stands.held port slot
    = λ port slot low. kept.3.pools port slot low ∙ ap (λ k. held_next p q k payload stands.held port slot) (sym same) in
    let own = own_stands p words words' players r n payload stands calls living busy below few words_too made_too in (
      kept.0,
      kept.1,
      kept.2,
      kept.3,
      by_node p stands.held now players (player_next p (players n) (seen_by (program_access p.layout (program_of p z.local)) (word_of words))) n r.last.state kept.0.last.state
          lives
          (λ k other alive port slot its low. holds port slot low
          ∙ others_hold p words words' players r n payload stands calls living busy below few words_too made_too k other port slot its)
          (λ k alive. lent_in_pool p stands.held r.last.state (seats_of p players k) (stands.nodes k alive)) calls
          (record {
            fits = own.fits;
            lanes = own.lanes;
            loans = loans_agree p _ now _ (λ port slot its low. holds port slot low)
                (own_low p players n (player_next p (players n) (seen_by (program_access p.layout (program_of p z.local)) (word_of words))) now kept.0.last.state
                (kept.2.nodes n (lives n ∙ living))) own.loans;
          }),
    )
