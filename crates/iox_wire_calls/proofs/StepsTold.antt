-- What a step is told, put together.
use Rattle.std.specs.Prelude.{◌*◌, length}
use Rattle.std.proofs.Common.{◌≡◌, ℕ, true, false, if◌then◌else◌, List, Option, Some, None, refl, ap, sym, subst, ◌∙◌}
use Rattle.iox_model.specs.declared.kind.Kind.{Kind}
use Rattle.iox_model.specs.declared.kind.Role.{Role}
use Rattle.iox_model.specs.declared.kind.Role.TheVariants.{Client, Server}
use Rattle.iox_model.specs.Handles.{is_request_loan}
use Rattle.iox_model.specs.Joins.{not_living}
use Rattle.iox_model.specs.Loans.{kind_of_loan}
use Rattle.iox_model.specs.Moments.{Moment}
use Rattle.iox_model.specs.Settings.{shape_of}
use Rattle.iox_model.specs.States.{Fixed, State}
use Rattle.iox_model.specs.WholeCalls.{MayHold, PayloadMayBe, is_uninit}
use Rattle.iox_laws.proofs.WeaveLaws.WholeLemmas.{some-is}
use Rattle.iox_steps.specs.Accesses.{seen_by}
use Rattle.iox_wire_steps.specs.Laws.{AccessIsMade}
use Rattle.iox_wire_steps.specs.Programs.{program_access}
use Rattle.iox_wire_steps.specs.MomentsOf.{Pools}
use Rattle.iox_wire_steps.specs.Ending.{Ending}
use Rattle.iox_wire_steps.specs.Ending.TheVariants as endings
use Rattle.iox_wire_steps.specs.Local.TheVariants.{Ends}
use Rattle.iox_wire_steps.specs.Seat.{Seat}
use Rattle.iox_wire_steps.specs.Begins.{is_busy}
use Rattle.iox_wire_steps.specs.Doings.{outcome_of}
use Rattle.iox_wire_steps.specs.Locals.{program_of}
use Rattle.iox_wire_steps.specs.StateMoments.{moment_at}
use Rattle.iox_wire_steps.specs.Steps.{accessed, advance, ending_at}
use Rattle.iox_wire_steps.specs.Tables.{Setting, port_shape}
use Rattle.iox_wire_steps.specs.OwnedCalls.{state_after}
use Rattle.iox_wire_steps.specs.SentStates.{HasOpened}
use Rattle.iox_wire_steps.specs.Holding.{held_after, held_from}
use Rattle.iox_wire_steps.proofs.SentStates.{accesses_leave_opened}
use Rattle.iox_wire_steps.specs.NodeLaws.{ToldWhatIsSo}
use Rattle.iox_wire_steps.specs.Nodes.{NodeStands}
use Rattle.iox_wire_steps.specs.Runs.{Run}
use Rattle.iox_wire_steps.specs.Stands.{Player, Stands, seats_of, word_of}
use Rattle.iox_wire_steps.proofs.NodesFollow.{after_fixed}
use Rattle.iox_wire_steps.proofs.StepsAround.{Whole}
use Rattle.iox_wire_steps.specs.Over.{CallIsOver, EndIsTold}
use Rattle.iox_wire_steps.proofs.Accessed.{HasNone, no_access, over_too}
use Rattle.iox_wire_steps.proofs.EndsStand.{standing_nodes_end}
use Rattle.iox_wire_steps.proofs.LastAccesses.{is_over}
use Rattle.iox_wire_calls.specs.Lanes.{AllLanesAreCounted}
use Rattle.iox_wire_calls.specs.Places.{CallFits, IsNext, PlaceFits}
use Rattle.iox_wire_calls.specs.StepsTold.{MessageIsTold, PayloadFits, PushesBelow, StepsAreTold}
use Rattle.iox_wire_calls.proofs.EndsKnown.{ends_are_told}
use Rattle.iox_wire_calls.proofs.EndsTold.{at_end}
use Rattle.iox_wire_calls.proofs.LaneSlots.{free_slots_have_lanes}
use Rattle.iox_wire_calls.proofs.LaneSteps.{accesses_keep_lanes}
use Rattle.iox_wire_calls.proofs.LanesTell.{sends_open_elsewhere}
use Rattle.iox_wire_calls.proofs.NextPlaces.{led, takes_next}
use Rattle.iox_wire_calls.proofs.PlaceSteps.{accesses_fit}
use Rattle.iox_wire_calls.proofs.Relying.{relies_on}
use Rattle.iox_wire_calls.proofs.WordsHeard.{words_tell}

-- ---- payloads

-- a loan may have a payload of its length
may_lend : (p : Setting) (f : Fixed) (role : Role) (kind : Kind) (elements : ℕ) (payload : List ℕ) → kind ≡ kind_of_loan role false → f.on_wire ≡ true → f.limits ≡ p.limits
    → length payload ≡ elements * (shape_of p.limits role).width
    → PayloadMayBe (is_uninit kind) f.on_wire (if is_request_loan kind then f.limits.request else f.limits.response) elements payload
may_lend p f Client kind elements payload is wire limits long = rw is (rw wire (rw limits long))
may_lend p f Server kind elements payload is wire limits long = rw is (rw wire (rw limits long))

-- ---- the step

module _ (p : Setting) (words words' : List ℕ) (players : ℕ → Player) (r : Run) (n : ℕ) (payload : List ℕ) (stands : Stands p words players r)
    (living : not_living r.last.state n ≡ None) where
  abbrev x : Seat
  x = seats_of p players n

  abbrev s : State
  s = r.last.state

  abbrev held : Pools
  held = stands.held

  abbrev seen : ℕ
  seen = seen_by (program_access p.layout (program_of p x.local)) (word_of words)

  abbrev y : Seat
  y = advance p (accessed x) x.local seen

  abbrev m : Option Moment
  m = moment_at p held x.local seen

  abbrev t : State
  t = state_after s m

  abbrev new : Pools
  new = held_after p x seen held

  whole : Whole p stands.held (word_of words) stands.contents (seats_of p players) r.last
  whole = record {
    shows = stands.shows;
    layout = stands.layout;
    owners = stands.owners;
    rooms = stands.rooms;
    queues = stands.queues;
    nodes = stands.nodes;
  }

  mine : NodeStands p stands.held r.last.state (seats_of p players n)
  mine = stands.nodes n living

  module _ (busy : is_busy (seats_of p players n).local ≡ true) (fits : CallFits p (seats_of p players n)) (all : AllLanesAreCounted p (seats_of p players n))
      (below : PushesBelow p (word_of words) (seats_of p players n).local)
      (told : MessageIsTold p stands.held r.last.state (seats_of p players n) seen (seats_of p players n).local)
      (made : AccessIsMade (program_access p.layout (program_of p (seats_of p players n).local)) (word_of words) (word_of words')) where
    pub access_told : ending_at x.local ≡ None → ToldWhatIsSo p held s x seen
    access_told going = record {
      relies = relies_on p held (word_of words) stands.contents (seats_of p players) r.last n stands.shows living stands.owners stands.numbers mine fits x.local refl busy going
          fits.place mine.owns.owns told;
      words = words_tell p held (word_of words) (word_of words') stands.contents (seats_of p players) r.last n whole stands.regions living stands.numbers made x.local refl
          fits.place mine.owns.owns below told;
      lane = (led p x seen held x.node s.fixed s.request_state s mine.owns.owns mine.tells told).0;
      next = takes_next p x seen held s told;
      elsewhere = λ e has pending. sends_open_elsewhere p held s x e mine fits all has pending;
    }

    pub lanes : AllLanesAreCounted p y
    lanes =
        accesses_keep_lanes p held s x seen fits mine
        (free_slots_have_lanes p held (word_of words) stands.contents (seats_of p players) r.last n stands.shows living mine all) all

    -- ---- the end

    module _ (ending : Ending) (is : ending_at y.local ≡ Some ending) where
      abbrev Over : Type 0
      Over = CallIsOver p new t y ending × HasOpened t.request_state y.local

      by_place : (o : Option Ending) → ending_at x.local ≡ o → Over
      by_place None going =
          let access = access_told going in (
            is_over p held (word_of words) (word_of words') stands.contents (seats_of p players) r.last n stands.shows living stands.layout stands.owners stands.numbers
                stands.queues mine access made ending is,
            accesses_leave_opened p held s x seen access.relies mine.opened,
          )
      by_place (Some old) at =
          let none : HasNone p held x x.local seen = no_access p held x x.local seen old at in
          let same : old ≡ ending = some-is old ending (sym at ∙ ap (λ (q : Seat). ending_at q.local) (sym none.seat) ∙ is) in
          let pools : held_from p held x.local x.local ≡ new = ap (λ (q : Seat). held_from p held x.local q.local) (sym none.seat) in
          let state : s ≡ t = ap (state_after s) (sym none.moment) in (
            subst (λ k. CallIsOver p new t y k) same
                (subst (λ q. CallIsOver p new t q old) (sym none.seat)
                (subst (λ u. CallIsOver p new u (accessed x) old) state
                (subst (λ h. CallIsOver p h s (accessed x) old) (sym none.pools ∙ pools)
                (over_too p held s x old (standing_nodes_end p held s x old at mine))))),
            subst (λ (q : Seat). HasOpened t.request_state q.local) (sym none.seat) (subst (λ (u : State). HasOpened u.request_state x.local) state mine.opened),
          )

      pub over : CallIsOver p new t y ending × HasOpened t.request_state y.local
      over = by_place (ending_at x.local) refl

      end_told : EndIsTold p new t y ending
      end_told =
          ends_are_told p new t y ending stands.numbers
          (ap (λ (f : Fixed). f.ports) (after_fixed s m) ∙ (stands.shows.counts n living).knows.ports) over.0 over.1 (accesses_fit p x seen fits) lanes
          ((led p x seen held x.node s.fixed s.request_state s mine.owns.owns mine.tells told).1 ending is)

    -- ---- the payload

    module _ (long : PayloadFits p payload (advance p (accessed (seats_of p players n)) (seats_of p players n).local seen).local) where
      abbrev Lent : Ending → Type 0
      Lent (endings.Lends o slot) = (length payload ≡ o.elements * (port_shape p o.port).width) × IsNext p y o
      Lent ending = Unit {0}

      lent : (ending : Ending) → PlaceFits p y (Ends ending) → PayloadFits p payload (Ends ending) → Lent ending
      lent (endings.Lends o slot) fits_now long_now = (long_now, fits_now)
      lent ending fits_now long_now = tt

      lent_at : (ending : Ending) → ending_at y.local ≡ Some ending → Lent ending
      lent_at =
          at_end p new t y Lent
          (λ ending at. lent ending (subst (PlaceFits p y) at (accesses_fit p x seen fits).place) (subst (PayloadFits p payload) at long))
          (λ d last count at. tt)

      may_end : (ending : Ending) → Lent ending → MayHold t.fixed (outcome_of p new x.node ending) payload
      may_end (endings.Lends o slot) loan =
          may_lend p t.fixed (p.port o.port).role o.kind o.elements payload loan.1.1
          (ap (λ (f : Fixed). f.on_wire) (after_fixed s m) ∙ (stands.shows.counts n living).on_wire)
          (ap (λ (f : Fixed). f.limits) (after_fixed s m) ∙ (stands.shows.counts n living).knows.limits) loan.0
      may_end ending loan = tt

pub steps_are_told : StepsAreTold
steps_are_told p words words' players r n payload stands living busy fits all below told long made = record {
  access = access_told p words words' players r n payload stands living busy fits all below told made;
  ended = λ ending is. (
    end_told p words words' players r n payload stands living busy fits all below told made ending is,
    may_end p words words' players r n payload stands living busy fits all below told made long ending
        (lent_at p words words' players r n payload stands living busy fits all below told made long ending is),
  );
}
