-- Slots hold their messages after the access of a step, and after the end of the call that it ends.
use Rattle.iox_wire_calls.proofs.StepsTold.{over}
use Rattle.iox_wire_calls.specs.Ending.TheVariants as endings
use Rattle.iox_wire_calls.specs.Local.TheVariants.{Ends, SendEnds, Writes}
use Rattle.iox_wire_calls.specs.Holding.{held_after, held_from}
use Rattle.iox_steps.specs.EventLists.{QueueState}
use Rattle.iox_wire_keeps.proofs.StepParts.{bound_shown, came, payload_at, payload_stands, queues_same, shown_accesses, shown_busy, written_next}
use Rattle.iox_model.specs.States.{State}
use Rattle.iox_wire_calls.specs.Steps.{accessed, advance, closed, ending_at, next}
use Rattle.std.specs.Prelude.{Bool, List, None, Option, Some, false, if◌then◌else◌, length, refl, true, ℕ, ◌<◌, ◌==◌, ◌^◌, ◌≡◌}
use Rattle.iox_wire_calls.specs.Tables.{Setting, entry_at}
use Rattle.iox_wire_keeps.specs.Stored.{HoldsStored, IsWritten, SlotsHoldMessages, StoresAt, WhatWaitsIsStored}
use Rattle.iox_wire_calls.specs.Stands.{Player, seats_of, word_of}
use Rattle.iox_wire_calls.specs.SlotsKnown.{HasEntry}
use Rattle.iox_wire_calls.specs.Over.{CallIsOver, EndsWith}
use Rattle.iox_wire_calls.specs.CallsStand.{CallStands}
use Rattle.iox_laws.proofs.WeaveLaws.MapLemmas.{eqb-refl}
use Rattle.iox_wire_calls.specs.WholeSteps.{held_closed}
use Rattle.iox_wire_calls.specs.Entry.{Entry}
use Rattle.iox_wire_calls.specs.Ending.{Ending}
use Rattle.iox_laws.proofs.WeaveLaws.WholeLemmas.{some-is}
use Rattle.iox_wire_calls.specs.Nodes.{NodeStands}
use Rattle.iox_model.specs.Joins.{not_living}
use Rattle.iox_wire_calls.specs.Named.{place_names}
use Rattle.iox_wire_keeps.proofs.Stored.{stored_words_are_told}
use Rattle.iox_wire_calls.specs.Seat.{Seat}
use Rattle.iox_wire_calls.specs.StepsTold.{MessageIsTold, PushesBelow}
use Rattle.iox_wire_keeps.proofs.Accesses.{accesses_leave_messages}
use Rattle.iox_wire_calls.specs.Programs.{Program, program_access}
use Rattle.std.proofs.Common.{ap, subst, sym, ◌∙◌}
use Rattle.iox_wire_keeps.specs.MessageEnds.{EndsAlone}
use Rattle.iox_wire_calls.proofs.Accessed.{HasNone, no_access}
use Rattle.iox_wire_keeps.specs.Alone.{IsAlone}
use Rattle.iox_wire_calls.proofs.LoanSlots.{accesses_keep_loans, loans_are_told}
use Rattle.iox_wire_calls.proofs.LanesSet.{lanes_are_set}
use Rattle.iox_wire_calls.proofs.LaneSlots.{free_slots_have_lanes}
use Rattle.iox_wire_calls.specs.Shows.{OwnsPlace}
use Rattle.iox_wire_calls.specs.Known.{loans_at}
use Rattle.iox_laws.proofs.WeaveLedger.Truths.{none-some}
use Rattle.std.specs.List.{list_any}
use Rattle.iox_wire_calls.specs.Laws.{AccessIsMade}
use Rattle.iox_wire_calls.proofs.Aside.{shown_nodes_run_the_same}
use Rattle.iox_model.specs.Maps.{has_number, put_at}
use Rattle.iox_steps.specs.Accesses.{seen_by}
use Rattle.iox_wire_calls.specs.Locals.{program_of}
use Rattle.iox_wire_calls.specs.LoanSlots.{LoansStand, WordsAreTold}
use Rattle.iox_wire_keeps.proofs.MessageEnds.{ends_leave_messages}
use Rattle.iox_wire_calls.specs.StateMoments.{moment_at}
use Rattle.iox_wire_calls.specs.Places.{IsOfLoan, PlaceFits}
use Rattle.iox_wire_calls.specs.Local.{Local}
use Rattle.iox_wire_calls.specs.OwnedCalls.{state_after}
use Rattle.iox_wire_calls.specs.StepLaws.{ReliesOn}
use Rattle.iox_wire_calls.specs.Fits.{WireContents, contents_after}
use Rattle.iox_wire_calls.proofs.PlaceSteps.{accesses_fit}
use Rattle.iox_wire_calls.specs.Runs.{Run}
use Rattle.iox_wire_keeps.specs.WireStands.{WireStands}
use Rattle.iox_wire_calls.specs.MomentsOf.{Pools}
use Rattle.iox_wire_calls.specs.Begins.{is_busy}
use Rattle.iox_word_map.specs.WordMaps.{MessageQueue, ReturningQueue, WireQueue}
use Rattle.iox_wire_calls.proofs.OwnedPlaces.{owners_may_access}
use Rattle.iox_wire_calls.proofs.CountsKept.{steps_keep_own}
use Rattle.iox_wire_calls.specs.Writes.{is_slot_of}
use Rattle.iox_wire_keeps.proofs.Alone.{stored_slots_are_alone}
use Rattle.iox_wire_calls.proofs.StepsTold.{access_told, lanes}
use Rattle.iox_wire_keeps.proofs.Bounds.{bounds_tell}
use Rattle.iox_steps.specs.Sites.{last_position}
use Rattle.iox_wire_keeps.proofs.OwnWrites.{loan_kept, written_own}

module _ (p : Setting) (words words' : List ℕ) (players : ℕ → Player) (r : Run) (n : ℕ) (wire : WireStands p words players r)
    (living : not_living r.last.state n ≡ None) (busy : is_busy (players n).seat.local ≡ true) (few : (players n).seat.accesses < last_position)
    (made : AccessIsMade (program_access p.layout (program_of p (players n).seat.local)) (word_of words) (word_of words')) (len : length words' ≡ length words) where
  abbrev k : ℕ
  k = seen_by (program_access p.layout (program_of p (seats_of p players n).local)) (word_of words)

  abbrev j : ℕ
  j = seen_by (program_access p.layout (program_of p (players n).seat.local)) (word_of words)

  pub node : NodeStands p wire.stands.held r.last.state (seats_of p players n)
  node = wire.stands.nodes n living

  pub call : CallStands p wire.stands.held (seats_of p players n)
  call = wire.calls n living

  pub runs : program_of p (seats_of p players n).local ≡ program_of p (players n).seat.local
  runs = shown_nodes_run_the_same p (players n).seat

  pub same_seen : k ≡ j
  same_seen = ap (λ (g : Program). seen_by (program_access p.layout g) (word_of words)) runs

  pub made_too : AccessIsMade (program_access p.layout (program_of p (seats_of p players n).local)) (word_of words) (word_of words')
  made_too = subst (λ g. AccessIsMade (program_access p.layout g) (word_of words) (word_of words')) (sym runs) made

  pub owns_place : OwnsPlace p wire.stands.held r.last.state (seats_of p players n)
  owns_place = (owners_may_access p wire.stands.held r.last.state (seats_of p players n) node.owns.owns node.tells).0

  pub bound : PushesBelow p (word_of words) (seats_of p players n).local × ((port : ℕ) → loans_at (seats_of p players n) port < 2 ^ 64)
  bound =
      bounds_tell p wire.stands.held (word_of words) wire.stands.contents (seats_of p players) r.last n wire.stands.shows living owns_place
      (bound_shown p wire.stands.contents players wire.bounds) (subst (λ a. a < last_position) (sym (shown_accesses p (players n).seat (players n).seat.local)) few)

  pub told : WordsAreTold p wire.stands.held r.last.state (seats_of p players n) k (seats_of p players n).local
  told =
      stored_words_are_told p wire.stands.held (word_of words) wire.stands.contents (seats_of p players) r.last n wire.stands.shows living wire.stands.layout
      wire.stands.owners wire.stands.numbers node call.fits (wire.messages.nodes n living)

  all_told : MessageIsTold p wire.stands.held r.last.state (seats_of p players n) k (seats_of p players n).local
  all_told = loans_are_told p wire.stands.held r.last.state (seats_of p players n) k (lanes_are_set p words players r n wire.stands living) node call.fits call.loans
      (free_slots_have_lanes p wire.stands.held (word_of words) wire.stands.contents (seats_of p players) r.last n wire.stands.shows living node call.lanes) call.lanes bound.1
      told

  busy_too : is_busy (seats_of p players n).local ≡ true
  busy_too = shown_busy p (players n).seat (players n).seat.local refl busy

  abbrev y : Seat
  y = advance p (accessed (seats_of p players n)) (seats_of p players n).local (seen_by (program_access p.layout (program_of p (seats_of p players n).local)) (word_of words))

  abbrev new : Pools
  new = held_after p (seats_of p players n) (seen_by (program_access p.layout (program_of p (seats_of p players n).local)) (word_of words)) wire.stands.held

  abbrev after : WireContents
  after = contents_after p.layout (program_of p (seats_of p players n).local) (seen_by (program_access p.layout (program_of p (seats_of p players n).local)) (word_of words)) wire.stands.contents

  abbrev payload : List ℕ
  payload = payload_at p after y.local

  pub relies : ending_at (seats_of p players n).local ≡ None → ReliesOn p (accessed (seats_of p players n)) r.last.state wire.stands.held (seats_of p players n).local k
  relies going =
      (access_told p words words' players r n payload wire.stands living busy_too call.fits call.lanes bound.0 all_told made_too going).relies

  -- ---- after the access

  rested : HoldsStored p wire.stands.held wire.stands.contents (seats_of p players n) → HoldsStored p wire.stands.held wire.stands.contents (accessed (seats_of p players n))
  rested has = record { entries = has.entries; lengths = has.lengths; suits = has.suits; call = has.call; place = has.place }

  no_words : (local : Local) (ending : Ending) (seen : ℕ) → ending_at local ≡ Some ending → contents_after p.layout (program_of p local) seen wire.stands.contents ≡ wire.stands.contents
  no_words (Ends e) ending seen is = refl
  no_words (SendEnds d last count) ending seen is = refl
  no_words local ending seen is = none-some ending is

  access_holds : (o : Option Ending) → ending_at (seats_of p players n).local ≡ o → SlotsHoldMessages p new after (put_at (seats_of p players) n y) r.last.state
  access_holds None going =
      accesses_leave_messages p wire.stands.held (word_of words) (word_of words') wire.stands.contents (seats_of p players) r.last n wire.stands.shows wire.stands.layout
      wire.stands.owners wire.stands.numbers wire.stands.nodes wire.calls wire.stands.regions living (relies going) made_too wire.messages
  access_holds (Some old) is =
      let none : HasNone p wire.stands.held (seats_of p players n) (seats_of p players n).local k = no_access p wire.stands.held (seats_of p players n) (seats_of p players n).local k old is in
      subst (λ q. SlotsHoldMessages p (held_from p wire.stands.held (seats_of p players n).local q.local) after (put_at (seats_of p players) n q) r.last.state) (sym none.seat)
      (subst (λ h. SlotsHoldMessages p h after (put_at (seats_of p players) n (accessed (seats_of p players n))) r.last.state) (sym none.pools)
      (subst (λ d. SlotsHoldMessages p wire.stands.held d (put_at (seats_of p players) n (accessed (seats_of p players n))) r.last.state)
      (sym (no_words (seats_of p players n).local old k is)) (record {
        waiting = wire.messages.waiting;
        nodes = λ i lives. by_node i (i == n) refl lives;
      })))
    where
      by_node : (i : ℕ) (b : Bool) → (i == n) ≡ b → not_living r.last.state i ≡ None
          → HoldsStored p wire.stands.held wire.stands.contents (if b then accessed (seats_of p players n) else seats_of p players i)
      by_node i true is lives = rested (wire.messages.nodes n living)
      by_node i false is lives = wire.messages.nodes i lives

  here : put_at (seats_of p players) n y n ≡ y
  here = ap (λ b. if b then y else seats_of p players n) (eqb-refl n)

  -- ---- after the end of the call

  module _ (ending : Ending) (is : ending_at y.local ≡ Some ending) where
    abbrev t : State
    t = state_after r.last.state (moment_at p wire.stands.held (seats_of p players n).local k)

    is_over : CallIsOver p new t y ending
    is_over = (over p words words' players r n payload wire.stands living busy_too call.fits call.lanes bound.0 all_told made_too ending is).0

    loans_then : (o : Option Ending) → ending_at (seats_of p players n).local ≡ o → LoansStand p new y
    loans_then None going = accesses_keep_loans p wire.stands.held r.last.state (seats_of p players n) k (relies going) call.loans
    loans_then (Some old) at =
        let none : HasNone p wire.stands.held (seats_of p players n) (seats_of p players n).local k = no_access p wire.stands.held (seats_of p players n) (seats_of p players n).local k old at in
        let begun : LoansStand p wire.stands.held (accessed (seats_of p players n)) = record { loan = call.loans.loan; serials = call.loans.serials } in
        subst (λ q. LoansStand p (held_from p wire.stands.held (seats_of p players n).local q.local) q) (sym none.seat)
        (subst (λ h. LoansStand p h (accessed (seats_of p players n))) (sym none.pools) begun)

    call_then : CallStands p new y
    call_then = record {
      fits = accesses_fit p (seats_of p players n) k call.fits;
      lanes = lanes p words words' players r n payload wire.stands living busy_too call.fits call.lanes bound.0 all_told made_too;
      loans = loans_then (ending_at (seats_of p players n).local) refl;
    }

    same_table : y.table ≡ (seats_of p players n).table
    same_table = (steps_keep_own p (seats_of p players n) k).table

    alone_then : EndsAlone p after (put_at (seats_of p players) n y) r.last.state n ending
    alone_then port slot into =
        let at : StoresAt (seats_of p players n).local port slot
        = came p (seats_of p players n) k port slot (seats_of p players n).local refl ending is into in
        let alone : IsAlone p wire.stands.contents (seats_of p players) r.last.state n port slot
        = stored_slots_are_alone p wire.stands.held (word_of words) wire.stands.contents (seats_of p players) r.last n port slot wire.stands.shows wire.stands.layout
        wire.stands.nodes wire.stands.owners wire.stands.numbers living call.fits at in
        let queues : after.queues ≡ wire.stands.contents.queues = queues_same p wire.stands.contents (seats_of p players n).local k port slot at in
        record {
          ways = record {
            waiting = λ v way on from. ap (λ (q : WireQueue → QueueState). has_number slot (q (MessageQueue v)).waiting) queues ∙ alone.ways.waiting v way on from;
            in_hand = λ v way on from. ap (λ (q : WireQueue → QueueState). has_number slot (q (MessageQueue v)).hand) queues ∙ alone.ways.in_hand v way on from;
            returned = λ v way on from. ap (λ (q : WireQueue → QueueState). has_number slot (q (ReturningQueue v)).waiting) queues ∙ alone.ways.returned v way on from;
          };
          entries = λ i other lives.
              ap (λ b. list_any (λ e. is_slot_of e port slot) (if b then y else seats_of p players i).table) other ∙ alone.entries i other lives;
          places = λ i other lives. ap (λ b. place_names (if b then y else seats_of p players i).local port slot) other ∙ alone.places i other lives;
          own = λ e there named.
              subst (λ (q : Seat). IsWritten q.local e) (sym here)
              (written_next p (seats_of p players n) k e (seats_of p players n).local refl
              (alone.own e (ap (entry_at e.number) (sym same_table) ∙ subst (λ (q : Seat). HasEntry q e) here there) named));
        }

    own_then : (i : ℕ) → not_living r.last.state i ≡ None → (e : Entry) → IsWritten (put_at (seats_of p players) n y i).local e → e.sender ≡ e.port
    own_then i lives e its = by_node (i == n) refl its
      where
        of_entry : (q : Entry) → q ≡ e → IsOfLoan q.kind → HasEntry y q → e.sender ≡ e.port
        of_entry q same loan there = subst (λ (d : Entry). d.sender ≡ d.port) same ((is_over.entries q there).own (loan_kept q.kind loan)).1

        by_ending : (e' : Ending) → e' ≡ ending → IsWritten (Ends e') e → PlaceFits p y (Ends e') → e.sender ≡ e.port
        by_ending (endings.Fills q words) same is_its place = of_entry q is_its place (subst (EndsWith p t.fixed y) (sym same) is_over.message)
        by_ending e' same is_its place = absurd is_its

        by_place : (local : Local) → y.local ≡ local → ending_at local ≡ Some ending → IsWritten local e → PlaceFits p y local → e.sender ≡ e.port
        by_place (Ends e') at ended is_its place = by_ending e' (some-is e' ending ended) is_its place
        by_place (Writes q words next) at ended is_its place = none-some ending ended
        by_place local at ended is_its place = absurd is_its

        by_node : (b : Bool) → (i == n) ≡ b → IsWritten (if b then y else seats_of p players i).local e → e.sender ≡ e.port
        by_node true at is_its = by_place y.local refl is is_its call_then.fits.place
        by_node false at is_its = written_own p wire.stands.held r.last.state (seats_of p players i) (wire.stands.nodes i lives) (wire.calls i lives).fits e is_its

    ended_holds : SlotsHoldMessages p (held_closed p new payload (Some ending)) after
        (put_at (put_at (seats_of p players) n y) n (closed p (put_at (seats_of p players) n y n) (Some ending))) r.last.state
    ended_holds =
        ends_leave_messages p new after (put_at (seats_of p players) n y) r.last.state t n ending payload
        (subst (λ q. CallIsOver p new t q ending) (sym here) is_over) (subst (CallStands p new) (sym here) call_then) living wire.stands.layout wire.stands.numbers
        (wire.stands.shows.counts n living).knows.ports wire.stands.regions own_then alone_then (payload_stands p after y.local ending is)
        (access_holds (ending_at (seats_of p players n).local) refl)

  -- after the step, of the node and of all others
  pub step_holds : (o : Option Ending) → ending_at y.local ≡ o
      → WhatWaitsIsStored p (held_closed p new payload o) after r.last.state.fixed
      × HoldsStored p (held_closed p new payload o) after (closed p y o)
      × ((i : ℕ) → (i == n) ≡ false → not_living r.last.state i ≡ None → HoldsStored p (held_closed p new payload o) after (seats_of p players i))
  step_holds None is =
      let has = access_holds (ending_at (seats_of p players n).local) refl in (
        has.waiting,
        subst (HoldsStored p new after) here (has.nodes n living),
        λ i other lives. subst (λ b. HoldsStored p new after (if b then y else seats_of p players i)) other (has.nodes i lives),
      )
  step_holds (Some ending) is =
      let has = ended_holds ending is in (
        has.waiting,
        subst (λ b. HoldsStored p (held_closed p new payload (Some ending)) after (closed p (if b then y else seats_of p players n) (Some ending))) (eqb-refl n)
            (subst (λ b. HoldsStored p (held_closed p new payload (Some ending)) after
            (if b then closed p (put_at (seats_of p players) n y n) (Some ending) else put_at (seats_of p players) n y n)) (eqb-refl n) (has.nodes n living)),
        λ i other lives.
            subst (λ b. HoldsStored p (held_closed p new payload (Some ending)) after (if b then y else seats_of p players i)) other
            (subst (λ b. HoldsStored p (held_closed p new payload (Some ending)) after
            (if b then closed p (put_at (seats_of p players) n y n) (Some ending) else put_at (seats_of p players) n y i)) other (has.nodes i lives)),
      )
