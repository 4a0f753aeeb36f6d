-- The whole step of a node leads from what stands to what stands.
use Rattle.iox_wire_keeps.proofs.Forgotten.{counted_back, forgot_next, forgot_stays, shown_forgot}
use Rattle.iox_wire_calls.proofs.CallsAround.{members_stay}
use Rattle.iox_wire_calls.specs.Local.TheVariants.{ReleaseExchanges, ReleaseLooks}
use Rattle.iox_wire_calls.specs.Holding.{held_after}
use Rattle.iox_wire_keeps.proofs.StepParts.{payload_at, node_agrees, payload_fits, reads_low, shown_holds, stored_agrees}
use Rattle.iox_wire_calls.specs.Steps.{accessed, advance, closed, ending_at, next, tells}
use Rattle.std.specs.Prelude.{Bool, List, None, Option, false, if◌then◌else◌, length, refl, true, ℕ, ◌<◌, ◌==◌, ◌^◌, ◌≡◌, ◌⊎◌}
use Rattle.iox_wire_calls.specs.Tables.{Setting}
use Rattle.iox_wire_keeps.specs.Stored.{HoldsStored, SlotsHoldMessages, WhatWaitsIsStored}
use Rattle.iox_wire_calls.specs.Stands.{Player, seats_of, word_of, Stands}
use Rattle.iox_wire_calls.specs.CallsStand.{CallsStand}
use Rattle.iox_laws.proofs.WeaveLaws.MapLemmas.{eqb-refl}
use Rattle.iox_wire_calls.specs.WholeSteps.{held_closed, step_beats, GoesOnWith, HoldsNext, held_next, player_next}
use Rattle.iox_model.specs.declared.way.Way.{Way}
use Rattle.iox_wire_calls.specs.Ending.{Ending}
use Rattle.iox_model.specs.Peers.{is_counted_on, node_of_port}
use Rattle.iox_laws.proofs.WeaveLaws.WholeLemmas.{not_living-members}
use Rattle.iox_wire_calls.specs.Nodes.{NodeStands}
use Rattle.iox_model.specs.Joins.{not_living}
use Rattle.iox_wire_calls.specs.Seat.{Seat}
use Rattle.iox_wire_calls.specs.StepsTold.{PushesBelow, PayloadFits}
use Rattle.iox_wire_calls.specs.Aside.{shown_at, shown}
use Rattle.iox_wire_calls.specs.Programs.{program_access}
use Rattle.std.proofs.Common.{ap, subst, sym, true≢false, ◌∙◌, eqb-true, inl, inr}
use Rattle.iox_wire_calls.specs.Shows.{OwnsPlace}
use Rattle.iox_wire_calls.specs.Known.{loans_at}
use Rattle.iox_wire_calls.specs.Laws.{AccessIsMade}
use Rattle.iox_model.specs.Maps.{has_number, put_at}
use Rattle.iox_steps.specs.Accesses.{seen_by}
use Rattle.iox_wire_calls.specs.Locals.{program_of}
use Rattle.iox_wire_calls.specs.LoanSlots.{WordsAreTold}
use Rattle.iox_wire_calls.specs.StateMoments.{moment_at}
use Rattle.iox_wire_calls.specs.Local.{Local}
use Rattle.iox_wire_calls.specs.Fits.{WireContents, contents_after, MayRun}
use Rattle.iox_wire_calls.specs.Runs.{Run}
use Rattle.iox_wire_keeps.specs.WireStands.{WireStands, SteppedWiresStand}
use Rattle.iox_wire_calls.specs.MomentsOf.{Pools}
use Rattle.iox_wire_calls.specs.Begins.{is_busy}
use Rattle.iox_wire_keeps.proofs.Bounds.{steps_leave_bounds}
use Rattle.iox_steps.specs.Sites.{last_position}
use Rattle.iox_wire_calls.proofs.CallsStand.{stepped_calls_stand}
use Rattle.iox_wire_calls.proofs.StepsAround.{Whole}
use Rattle.iox_wire_calls.proofs.StepsWhole.{IsLeft, IsOther, IsReceiving, goes_alike, leaving_none, receiving}
use Rattle.iox_wire_calls.specs.Following.{LeavesNothing, message_at}
use Rattle.iox_wire_keeps.specs.Bounds.{AccessesBound}
use Rattle.iox_wire_calls.proofs.StepsKept.{shown_same}
use Rattle.iox_wire_calls.specs.FarSlots.{IsInPool}
use Rattle.iox_wire_keeps.proofs.StepMessages as messages
use Rattle.iox_wire_calls.specs.Local.TheVariants.{LendStores}
use Rattle.iox_wire_calls.specs.NewLoan.{NewLoan}
use Rattle.iox_wire_calls.specs.Places.{PlaceFits}
use Rattle.iox_wire_keeps.specs.Serials.{TellsSerials}
use Rattle.iox_wire_keeps.proofs.WireSerials.{stepped_serials}

module _ (p : Setting) (words words' : List ℕ) (players : ℕ → Player) (r : Run) (n : ℕ) (wire : WireStands p words players r)
    (living : not_living r.last.state n ≡ None) (busy : is_busy (players n).seat.local ≡ true) (few : (players n).seat.accesses < last_position)
    (made : AccessIsMade (program_access p.layout (program_of p (players n).seat.local)) (word_of words) (word_of words')) (len : length words' ≡ length words) where
  abbrev k : ℕ
  k = seen_by (program_access p.layout (program_of p (seats_of p players n).local)) (word_of words)

  abbrev j : ℕ
  j = seen_by (program_access p.layout (program_of p (players n).seat.local)) (word_of words)

  abbrev y : Seat
  y = advance p (accessed (seats_of p players n)) (seats_of p players n).local (seen_by (program_access p.layout (program_of p (seats_of p players n).local)) (word_of words))

  abbrev new : Pools
  new = held_after p (seats_of p players n) (seen_by (program_access p.layout (program_of p (seats_of p players n).local)) (word_of words)) wire.stands.held

  abbrev after : WireContents
  after = contents_after p.layout (program_of p (seats_of p players n).local) (seen_by (program_access p.layout (program_of p (seats_of p players n).local)) (word_of words)) wire.stands.contents

  abbrev payload : List ℕ
  payload = payload_at p after y.local

  abbrev held_then : Pools
  held_then = held_closed p new payload (ending_at y.local)

  -- ---- what is so of the step

  node : NodeStands p wire.stands.held r.last.state (seats_of p players n)
  node = messages.node p words words' players r n wire living busy few made len

  runs : program_of p (seats_of p players n).local ≡ program_of p (players n).seat.local
  runs = messages.runs p words words' players r n wire living busy few made len

  same_seen : k ≡ j
  same_seen = messages.same_seen p words words' players r n wire living busy few made len

  owns_place : OwnsPlace p wire.stands.held r.last.state (seats_of p players n)
  owns_place = messages.owns_place p words words' players r n wire living busy few made len

  bound : PushesBelow p (word_of words) (seats_of p players n).local × ((port : ℕ) → loans_at (seats_of p players n) port < 2 ^ 64)
  bound = messages.bound p words words' players r n wire living busy few made len

  told : WordsAreTold p wire.stands.held r.last.state (seats_of p players n) k (seats_of p players n).local
  told = messages.told p words words' players r n wire living busy few made len

  step_holds : (o : Option Ending) → ending_at y.local ≡ o
      → WhatWaitsIsStored p (held_closed p new payload o) after r.last.state.fixed
      × HoldsStored p (held_closed p new payload o) after (closed p y o)
      × ((i : ℕ) → (i == n) ≡ false → not_living r.last.state i ≡ None → HoldsStored p (held_closed p new payload o) after (seats_of p players i))
  step_holds = messages.step_holds p words words' players r n wire living busy few made len

  -- ---- what follows

  stepped : (later_run : Run)
      × GoesOnWith r (step_beats n payload (moment_at p wire.stands.held (players n).seat.local j) (tells p (players n).seat j)) later_run
      × (later : Stands p words' (put_at players n (player_next p (players n) j)) later_run)
      × HoldsNext p (shown p (players n).seat) j payload wire.stands.held wire.stands.contents later.held later.contents
      × CallsStand p later.held (put_at players n (player_next p (players n) j)) later_run.last.state
  stepped =
      stepped_calls_stand p words words' players r n payload wire.stands wire.calls living busy bound.0 bound.1
      (subst (λ i. WordsAreTold p wire.stands.held r.last.state (seats_of p players n) i (seats_of p players n).local) same_seen told)
      (subst (λ i. PayloadFits p payload (advance p (accessed (seats_of p players n)) (seats_of p players n).local i).local) same_seen (payload_fits p after y.local))
      made len

  abbrev next_run : Run
  next_run = stepped.0

  later : Stands p words' (put_at players n (player_next p (players n) j)) stepped.0
  later = stepped.2

  agree : (port slot : ℕ) → IsInPool p port slot → stepped.2.held port slot ≡ held_then port slot
  agree port slot low =
      stepped.3.pools port slot low ∙ ap (λ i. held_next p (seats_of p players n) i payload wire.stands.held port slot) (sym same_seen)

  same_contents : stepped.2.contents ≡ after
  same_contents = stepped.3.contents ∙ ap (λ i. contents_after p.layout (program_of p (seats_of p players n).local) i wire.stands.contents) (sym same_seen)

  lives : (i : ℕ) → not_living stepped.0.last.state i ≡ None → not_living r.last.state i ≡ None
  lives i is =
      sym (not_living-members stepped.0.last.state r.last.state i (members_stay n payload (moment_at p wire.stands.held (players n).seat.local j) (tells p (players n).seat j) r.last stepped.0.last stepped.1.woven))
      ∙ is

  still_lives : not_living stepped.0.last.state n ≡ None
  still_lives =
      not_living-members stepped.0.last.state r.last.state n (members_stay n payload (moment_at p wire.stands.held (players n).seat.local j) (tells p (players n).seat j) r.last stepped.0.last stepped.1.woven)
      ∙ living

  -- ---- the node as it is shown

  whole : Whole p wire.stands.held (word_of words) wire.stands.contents (seats_of p players) r.last
  whole = record {
    shows = wire.stands.shows;
    layout = wire.stands.layout;
    owners = wire.stands.owners;
    rooms = wire.stands.rooms;
    queues = wire.stands.queues;
    nodes = wire.stands.nodes;
  }

  own_holds : HoldsStored p held_then after (next p (seats_of p players n) k)
  own_holds = (step_holds (ending_at y.local) refl).1

  own_shown : HoldsStored p held_then after (shown p (next p (players n).seat j))
  own_shown = by_part (left_or_not (players n).seat.local)
    where
      left_or_not : (local : Local) → IsOther local ⊎ IsLeft local
      left_or_not (ReleaseLooks e) = inr tt
      left_or_not (ReleaseExchanges e old) = inr tt
      left_or_not local = inl tt

      not_plain : (local : Local) → IsLeft local → LeavesNothing (message_at (shown_at p (players n).seat local).local) → ⊥
      not_plain (ReleaseLooks e) left leaves = leaves
      not_plain (ReleaseExchanges e old) left leaves = leaves
      not_plain local left leaves = left

      as_received : (local : Local) → IsLeft local → IsReceiving (shown_at p (players n).seat local).local → IsReceiving local
      as_received (ReleaseLooks e) left received = received
      as_received (ReleaseExchanges e old) left received = received
      as_received local left received = absurd left

      at_raw : HoldsStored p held_then after (next p (seats_of p players n) j)
      at_raw = subst (λ i. HoldsStored p held_then after (next p (seats_of p players n) i)) same_seen own_holds

      by_part : IsOther (players n).seat.local ⊎ IsLeft (players n).seat.local → HoldsStored p held_then after (shown p (next p (players n).seat j))
      by_part (inl other) =
          shown_holds p held_then after (next p (players n).seat j) (next p (players n).seat j).local refl
          (subst (λ d. HoldsStored p held_then after (next p d j)) (shown_same p (players n).seat (players n).seat.local (leaving_none (players n).seat.local other)) at_raw)
      by_part (inr left) =
          subst (HoldsStored p held_then after)
          (goes_alike p wire.stands.held j (players n).seat (players n).seat.local refl (as_received (players n).seat.local left
          (receiving p wire.stands.held (word_of words) wire.stands.contents (seats_of p players) r.last n whole wire.stands.numbers living
          (shown p (players n).seat).local node.names.place (not_plain (players n).seat.local left)))).next_is at_raw

  -- ---- slots

  messages_after : SlotsHoldMessages p stepped.2.held stepped.2.contents (seats_of p (put_at players n (player_next p (players n) j))) stepped.0.last.state
  messages_after =
      subst (λ d. SlotsHoldMessages p stepped.2.held d (seats_of p (put_at players n (player_next p (players n) j))) stepped.0.last.state) (sym same_contents) (record {
        waiting = λ v slot way on there.
            stored_agrees p held_then stepped.2.held after agree v.sender slot ((step_holds (ending_at y.local) refl).0 v slot way (counted v on) there);
        nodes = λ i is. node_agrees p held_then stepped.2.held after agree (seats_of p (put_at players n (player_next p (players n) j)) i)
            (reads_low p stepped.2.held stepped.0.last.state (seats_of p (put_at players n (player_next p (players n) j)) i) (stepped.2.nodes i is))
            (by_node i (i == n) refl (lives i is));
      })
    where
      by_node : (i : ℕ) (b : Bool) → (i == n) ≡ b → not_living r.last.state i ≡ None
          → HoldsStored p held_then after (shown p (if b then player_next p (players n) j else players i).seat)
      by_node i true is alive = own_shown
      by_node i false is alive = (step_holds (ending_at y.local) refl).2 i is alive

      ports : stepped.0.last.state.fixed.ports ≡ r.last.state.fixed.ports
      ports = (stepped.2.shows.counts n still_lives).knows.ports ∙ sym (wire.stands.shows.counts n living).knows.ports

      before : r.last.state.fixed.forgot n ≡ (players n).seat.forgot
      before =
          ap r.last.state.fixed.forgot (sym (wire.stands.shows.node n)) ∙ (wire.stands.shows.counts n living).knows.forgot
          ∙ shown_forgot p (players n).seat (players n).seat.local

      shown_now : (b : Bool) → b ≡ true → shown p (if b then player_next p (players n) j else players n).seat ≡ shown p (next p (players n).seat j)
      shown_now true is = refl
      shown_now false is = absurd (true≢false (sym is))

      behind : stepped.0.last.state.fixed.forgot n ≡ (next p (players n).seat j).forgot
      behind =
          ap stepped.0.last.state.fixed.forgot (sym (stepped.2.shows.node n)) ∙ (stepped.2.shows.counts n still_lives).knows.forgot
          ∙ ap (λ (d : Seat). d.forgot) (shown_now (n == n) (eqb-refl n)) ∙ shown_forgot p (next p (players n).seat j) (next p (players n).seat j).local

      forgot_then : (i m : ℕ) (b : Bool) → (i == n) ≡ b → has_number m (r.last.state.fixed.forgot i) ≡ true → has_number m (stepped.0.last.state.fixed.forgot i) ≡ true
      forgot_then i m true is has =
          let same : i ≡ n = eqb-true i n is in
          ap (λ d. has_number m (stepped.0.last.state.fixed.forgot d)) same ∙ ap (has_number m) behind
          ∙ forgot_next p (players n).seat j m (ap (has_number m) (sym before) ∙ ap (λ d. has_number m (r.last.state.fixed.forgot d)) (sym same) ∙ has)
      forgot_then i m false is has =
          ap (has_number m) (forgot_stays n i payload (moment_at p wire.stands.held (players n).seat.local j) (tells p (players n).seat j) r.last stepped.0.last
          wire.stands.shows.reachable is stepped.1.woven) ∙ has

      counted : (v : Way) → is_counted_on stepped.0.last.state.fixed v ≡ true → is_counted_on r.last.state.fixed v ≡ true
      counted v on =
          counted_back r.last.state.fixed stepped.0.last.state.fixed v ports
          (λ m. forgot_then (node_of_port r.last.state.fixed v.sender) m (node_of_port r.last.state.fixed v.sender == n) refl) on

  -- ---- bounds

  bounds_after : AccessesBound p stepped.2.contents (λ i. (put_at players n (player_next p (players n) j) i).seat)
  bounds_after =
      subst (λ (f : ℕ → Seat). AccessesBound p stepped.2.contents f) (sym same_raw)
      (subst (λ d. AccessesBound p d (put_at (λ i. (players i).seat) n (next p (players n).seat j)))
      (sym (stepped.3.contents ∙ ap (λ g. contents_after p.layout g j wire.stands.contents) runs))
      (steps_leave_bounds p wire.stands.contents (λ i. (players i).seat) n j may wire.bounds))
    where
      by_seat : (i : ℕ) (b : Bool) → (if b then player_next p (players n) j else players i).seat ≡ (if b then next p (players n).seat j else (players i).seat)
      by_seat i true = refl
      by_seat i false = refl

      same_raw : (λ i. (put_at players n (player_next p (players n) j) i).seat) ≡ put_at (λ i. (players i).seat) n (next p (players n).seat j)
      same_raw = λ d i. by_seat i (i == n) d

      may : MayRun p.layout n (program_of p (players n).seat.local)
      may = subst (MayRun p.layout n) runs (subst (λ i. MayRun p.layout i (program_of p (seats_of p players n).local)) (wire.stands.shows.node n) owns_place.may_run)

  -- ---- serials

  serials_after : (m : ℕ) → TellsSerials p stepped.2.held (put_at players n (player_next p (players n) j) m).seat
  serials_after =
      stepped_serials p words players r n wire j payload (wire.calls n living).loans.loan stepped.2.held stepped.3.pools
      (λ o slot is. at_home o slot is ∙ stepped.2.shows.node n)
    where
      -- the slot that a loan takes is one of the node's port
      at_home : (o : NewLoan) (slot : ℕ) → (seats_of p (put_at players n (player_next p (players n) j)) n).local ≡ LendStores o slot 0
          → p.layout.owner o.port ≡ (seats_of p (put_at players n (player_next p (players n) j)) n).node
      at_home o slot is =
          (subst (PlaceFits p (seats_of p (put_at players n (player_next p (players n) j)) n)) is (stepped.4 n still_lives).fits.place).0.1

  pub steps : (payload : List ℕ) × (later_run : Run)
      × GoesOnWith r (step_beats n payload (moment_at p wire.stands.held (players n).seat.local j) (tells p (players n).seat j)) later_run
      × WireStands p words' (put_at players n (player_next p (players n) j)) later_run
  steps = (
    payload,
    stepped.0,
    stepped.1,
    record { stands = stepped.2; calls = stepped.4; messages = messages_after; bounds = bounds_after; sizes = wire.sizes; serials = serials_after },
  )

pub stepped_wires_stand : SteppedWiresStand
stepped_wires_stand p words words' players r n wire living busy few made len = steps p words words' players r n wire living busy few made len
