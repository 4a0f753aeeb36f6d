-- From what stands, the end of a call leads to what stands.
use Rattle.std.specs.Prelude.{◌⊎◌, ◌++◌}
use Rattle.std.proofs.Common.{◌≡◌, ℕ, Bool, true, false, if◌then◌else◌, ◌==◌, List, [], ◌∷◌, Some, None, refl, ap, sym, subst, ◌∙◌, inl, inr, eqb-true}
use Rattle.iox_model.specs.Joins.{not_living}
use Rattle.iox_model.specs.Maps.{put_at}
use Rattle.iox_model.specs.States.{State}
use Rattle.iox_model.specs.Weaves.{Beat, Ends, IsBeat, World, over}
use Rattle.iox_model.specs.WholeCalls.{MayHold}
use Rattle.iox_laws.proofs.WeaveLaws.CallLaws.{eqb-flip}
use Rattle.iox_laws.proofs.WeaveLaws.MapLemmas.{eqb-refl}
use Rattle.iox_laws.proofs.WeaveLaws.WholeLemmas.{some-is}
use Rattle.iox_laws.proofs.WeaveLedger.Truths.{none-some}
use Rattle.iox_wire_moments.specs.MomentsOf.{Pools}
use Rattle.iox_wire_locals.specs.declared.local.CallRefusal.{CallRefusal}
use Rattle.iox_wire_locals.specs.declared.local.Ending.{Ending}
use Rattle.iox_wire_locals.specs.declared.local.Ending.TheVariants as endings
use Rattle.iox_wire_locals.specs.declared.local.Local.{Local}
use Rattle.iox_wire_locals.specs.declared.local.Local.TheVariants.{Idle, SendEnds}
use Rattle.iox_wire_locals.specs.declared.local.Local.TheVariants as locals
use Rattle.iox_wire_locals.specs.declared.seat.Seat.{Seat}
use Rattle.iox_wire_locals.specs.declared.table.Entry.{Entry}
use Rattle.iox_wire_locals.specs.Doings.{outcome_of}
use Rattle.iox_wire_locals.specs.Settlements.{reply_of}
use Rattle.iox_wire_locals.specs.Steps.{closed, ending_at}
use Rattle.iox_wire_locals.specs.Tables.{Setting}
use Rattle.iox_wire_laws.specs.WireKeeping.Shows.{EndKnows, ShowsWorld}
use Rattle.iox_wire_laws.specs.WireRegions.OwnedWords.{Owns}
use Rattle.iox_wire_laws.specs.WireHolding.Aside.{shown}
use Rattle.iox_wire_laws.specs.WireHolding.FarSlots.{EndsInPool, IsInPool, TakesFromPool}
use Rattle.iox_wire_laws.specs.WireHolding.SlotsKnown.{EndingStands, SendsOwnEntry, PlaceStands}
use Rattle.iox_wire_stands.specs.Following.{Leaving, LeavesNothing, message_at}
use Rattle.iox_wire_stands.specs.Nodes.{NodeStands}
use Rattle.iox_wire_stands.specs.Runs.{Answered, GoesOnBy, Run, history, said_in}
use Rattle.iox_wire_stands.specs.Stands.{Player, Stands, seats_of, word_of}
use Rattle.iox_wire_stands.proofs.Runs.{history_on, last_empty, run_on}
use Rattle.iox_wire_stands.proofs.StepsAround.{Around, Whole}
use Rattle.iox_wire_stands.proofs.StepsKept.{shown_same}
use Rattle.iox_wire_steps.specs.WholeSteps.{held_closed}
use Rattle.iox_wire_steps.specs.Over.{EndIsTold, EndsWith, IsDropped}
use Rattle.iox_wire_steps.specs.OverLaws.{StandingNodesEnd}
use Rattle.iox_wire_steps.specs.WholeEnds.{EndsKeep, player_ended}
use Rattle.iox_wire_steps.proofs.LoanEnds.{ends_led}

-- ---- a standing node

-- no call that is over leaves what it gave back
message_of : (ending : Ending) → LeavesNothing (message_at (locals.Ends ending))
message_of (endings.Lends o slot) = tt
message_of (endings.Fills e words) = tt
message_of (endings.Sends e copied count) = tt
message_of (endings.FailsToSend e copied r) = tt
message_of (endings.Receives v w slot header) = tt
message_of (endings.Drops e) = tt
message_of ending = tt

pub ended_leaves : (local : Local) (ending : Ending) → ending_at local ≡ Some ending → LeavesNothing (message_at local)
ended_leaves (locals.Ends e) ending is = message_of e
ended_leaves (SendEnds d last count) ending is = tt
ended_leaves local ending is = none-some ending is

module _ (p : Setting) (s : State) (x : Seat) where
  pub of_sent : (e : Entry) (copied : Bool) (count : ℕ) → SendsOwnEntry s.fixed x e copied → EndsWith p s.fixed x (endings.Sends e copied count)
  of_sent e true count has = tt
  of_sent e false count has = has

  pub of_failed : (e : Entry) (copied : Bool) (r : CallRefusal) → SendsOwnEntry s.fixed x e copied → EndsWith p s.fixed x (endings.FailsToSend e copied r)
  of_failed e true r has = tt
  of_failed e false r has = has

  of_ending : (ending : Ending) → EndingStands p s.fixed x ending → EndsWith p s.fixed x ending
  of_ending (endings.Fills e words) has = has
  of_ending (endings.Sends e copied count) has = of_sent e copied count has
  of_ending (endings.FailsToSend e copied r) has = of_failed e copied r has
  of_ending (endings.Receives v w slot header) has = has
  of_ending (endings.Drops e) has = has.0
  of_ending ending has = tt

  of_place : (local : Local) (ending : Ending) → ending_at local ≡ Some ending → PlaceStands p s.fixed x local → TakesFromPool p local
      → EndsWith p s.fixed x ending × EndsInPool p ending
  of_place (locals.Ends e) ending is has low =
      subst (λ k. EndsWith p s.fixed x k × EndsInPool p k) (some-is e ending is) (of_ending e has, low)
  of_place (SendEnds d last count) ending is has low =
      subst (λ k. EndsWith p s.fixed x k × EndsInPool p k) (some-is (endings.Sends d.loan d.copied count) ending is) (of_sent d.loan d.copied count has, low)
  of_place local ending is has low = none-some ending is

  pub last_of : (local : Local) (ending : Ending) → ending_at local ≡ Some ending → Owns p x.node s.fixed s.request_state local → EndKnows p x s local
  last_of (locals.Ends e) ending is owns = tt
  last_of (SendEnds d None count) ending is owns = tt
  last_of (SendEnds d (Some v) count) ending is owns = (owns.way, owns.mine, owns.counted)
  last_of local ending is owns = none-some ending is

pub standing_nodes_end : StandingNodesEnd
standing_nodes_end p held s x ending is stands = record {
  at_end = is;
  last = last_of p s x x.local ending is stands.owns.owns;
  message = at.0;
  takes = at.1;
  entries = stands.names.entries;
  in_pools = λ e has. low e (stands.in_pools e has);
  slots = stands.slots;
  at_desks = stands.at_desks;
  uses = stands.uses;
  loans = stands.loans;
  borrowed = stands.borrowed;
  counted = stands.counted;
  numbers = stands.numbers;
  released = stands.released;
  states = stands.states;
}
  where
    at : EndsWith p s.fixed x ending × EndsInPool p ending
    at = of_place p s x x.local ending is stands.names.place stands.name_slots.place

    low : (e : Entry) → IsInPool p e.sender e.slot ⊎ (message_at x.local ≡ Leaving e) → IsInPool p e.sender e.slot ⊎ IsDropped ending e
    low e (inl has) = inl has
    low e (inr leaves) = absurd (subst LeavesNothing leaves (ended_leaves x.local ending is))

-- ---- all that stands

module _ (p : Setting) (words : List ℕ) (players : ℕ → Player) (r : Run) (n : ℕ) (ending : Ending) (payload : List ℕ) (stands : Stands p words players r)
    (living : not_living r.last.state n ≡ None) (is : ending_at (players n).seat.local ≡ Some ending)
    (told : EndIsTold p stands.held r.last.state (players n).seat ending)
    (may : MayHold r.last.state.fixed (outcome_of p stands.held n ending) payload) where
  abbrev seats : ℕ → Seat
  seats = seats_of p players

  abbrev z : Seat
  z = closed p (players n).seat (Some ending)

  here : seats n ≡ (players n).seat
  here = shown_same p (players n).seat (players n).seat.local (ended_leaves (players n).seat.local ending is)

  abbrev Result : Seat → Type 0
  Result q =
      IsBeat r.last (Ends q.node (reply_of p q ending) payload) (over r.last q.node payload (outcome_of p stands.held q.node ending))
      × Whole p (held_closed p stands.held payload (Some ending)) (word_of words) stands.contents (put_at seats n (closed p q (Some ending)))
      (over r.last q.node payload (outcome_of p stands.held q.node ending))

  -- what stands around the node
  around : Around p stands.held (word_of words) stands.contents seats r.last n
  around = record {
    shows = stands.shows;
    layout = stands.layout;
    owners = stands.owners;
    rooms = stands.rooms;
    queues = stands.queues;
    nodes = λ k other lives. stands.nodes k lives;
  }

  result : Result (players n).seat
  result =
      subst Result here
      (ends_led p stands.held (word_of words) stands.contents seats r.last n stands.numbers around living ending payload
      (standing_nodes_end p stands.held r.last.state (seats n) ending (subst (λ (q : Seat). ending_at q.local ≡ Some ending) (sym here) is) (stands.nodes n living))
      (subst (λ q. EndIsTold p stands.held r.last.state q ending) (sym here) told)
      (subst (λ k. MayHold r.last.state.fixed (outcome_of p stands.held k ending) payload) (sym (stands.shows.node n)) may))

  node : (players n).seat.node ≡ n
  node = ap (λ (q : Seat). q.node) (sym here) ∙ stands.shows.node n

  abbrev player : Player
  player = player_ended p (players n) ending

  abbrev after_players : ℕ → Player
  after_players = put_at players n player

  by_seat : (k : ℕ) (b : Bool) → shown p (if b then player else players k).seat ≡ (if b then z else shown p (players k).seat)
  by_seat k true = refl
  by_seat k false = refl

  same_seats : seats_of p after_players ≡ put_at seats n z
  same_seats = λ i k. by_seat k (k == n) i

  abbrev beat : Beat
  beat = Ends n (reply_of p (players n).seat ending) payload

  said : (k : ℕ) → (players k).said ++ said_in k beat ≡ (after_players k).said
  said k = by_node (k == n) refl
    where
      by_node : (b : Bool) → (k == n) ≡ b
          → (players k).said ++ (if n == k then Answered (reply_of p (players n).seat ending) ∷ [] else []) ≡ (if b then player else players k).said
      by_node true is =
          subst (λ i. (players i).said ++ (if n == i then Answered (reply_of p (players n).seat ending) ∷ [] else [])
          ≡ (players n).said ++ Answered (reply_of p (players n).seat ending) ∷ []) (sym (eqb-true k n is))
          (ap (λ b. (players n).said ++ (if b then Answered (reply_of p (players n).seat ending) ∷ [] else [])) (eqb-refl n))
      by_node false is =
          ap (λ b. (players k).said ++ (if b then Answered (reply_of p (players n).seat ending) ∷ [] else [])) (eqb-flip k n is) ∙ last_empty (players k).said

  to_stands : (new : Pools) (next : Run) → Whole p new (word_of words) stands.contents (put_at seats n z) next.last
      → ((k : ℕ) → history k next.beats ≡ (after_players k).said) → Stands p words after_players next
  to_stands new next w histories = record {
    held = new;
    contents = stands.contents;
    shows = subst (λ ss. ShowsWorld p new (word_of words) stands.contents ss next.last) (sym same_seats) w.shows;
    length_is = stands.length_is;
    layout = w.layout;
    owners = w.owners;
    numbers = stands.numbers;
    regions = stands.regions;
    rooms = w.rooms;
    queues = w.queues;
    nodes = λ k lives. subst (λ (ss : ℕ → Seat). NodeStands p new next.last.state (ss k)) (sym same_seats) (w.nodes k lives);
    histories = histories;
  }

  done : (next : Run) × GoesOnBy r beat next × Stands p words after_players next
  done =
      let u : World = over r.last (players n).seat.node payload (outcome_of p stands.held (players n).seat.node ending) in
      let on = run_on r beat u (subst (λ k. IsBeat r.last (Ends k (reply_of p (players n).seat ending) payload) u) node result.0) in (
        on.0,
        on.1,
        to_stands (held_closed p stands.held payload (Some ending)) on.0
            (subst (Whole p (held_closed p stands.held payload (Some ending)) (word_of words) stands.contents (put_at seats n z)) (sym on.2) result.1)
            (λ k. ap (history k) on.1.beats ∙ history_on k r.beats beat ∙ ap (λ xs. xs ++ said_in k beat) (stands.histories k) ∙ said k),
      )

pub ends_keep : EndsKeep
ends_keep p words players r n ending payload stands living is told may = done p words players r n ending payload stands living is told may
