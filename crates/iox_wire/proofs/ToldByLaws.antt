-- What the laws tell of a node of a wire that shows a run, as it makes its next access.
use Rattle.std.specs.Prelude.{option_map}
use Rattle.std.proofs.Common.{◌≡◌, ℕ, ◌<◌, Bool, true, false, length, Some, None, ap, sym, subst, ◌∙◌, arith}
use Rattle.iox_model.specs.Handles.{is_request_loan}
use Rattle.iox_model.specs.Joins.{not_living}
use Rattle.iox_steps.specs.Accesses.{IsWithin, seen_at, words_after}
use Rattle.iox_steps.specs.Sites.{last_position}
use Rattle.iox_steps.specs.declared.site.QueueKind.TheVariants.{Index}
use Rattle.iox_steps.proofs.AccessLemmas.{length-words_after, list_changes}
use Rattle.iox_word_map.specs.WordMaps.{ReturningQueue}
use Rattle.iox_model.specs.declared.way.Way.{Way}
use Rattle.iox_wire_weaves.specs.Begins.{is_busy}
use Rattle.iox_wire_weaves.specs.Copying.{CopyGoesOn}
use Rattle.iox_wire_weaves.specs.Counts.{IsTidy}
use Rattle.iox_wire_weaves.specs.Desks.{MayGiveUp}
use Rattle.iox_wire_weaves.specs.Entry.{Entry}
use Rattle.iox_wire_weaves.specs.Following.{Sent, message_at}
use Rattle.iox_wire_weaves.specs.Locals.{program_of}
use Rattle.iox_wire_weaves.specs.Nodes.{seat_in}
use Rattle.iox_wire_weaves.specs.Programs.{WireLayout, program_access}
use Rattle.iox_wire_weaves.specs.Runs.{Run}
use Rattle.iox_wire_weaves.specs.Seat.{Seat}
use Rattle.iox_wire_weaves.specs.Stands.{Player}
use Rattle.iox_wire_weaves.specs.Steps.{access_of, most_accesses, step_refusal}
use Rattle.iox_wire_weaves.specs.Tables.{Setting}
use Rattle.iox_wire_weaves.specs.Uses.{FindsInUse, HaveFewWays}
use Rattle.iox_wire_weaves.specs.Wires.{Shows, WireData, WireNode, living_refusal, node_at, players_of, refusal_in, seat_of}
use Rattle.iox_wire_weaves.proofs.GivenUp.{new_loans_may_be_given_up, requests_may_be_given_up}
use Rattle.iox_wire_weaves.proofs.Lookups.{seat_there, steps_on}
use Rattle.iox_wire_weaves.proofs.StepsShown.{steps_are_safe}
use Rattle.iox_wire_weaves.proofs.Uses.{accesses_find_in_use, loans_get_back_in_use, what_is_sent_is_in_use}
use Rattle.iox_wire.specs.Kept.{IsKept, access_in}
use Rattle.iox_wire.proofs.GoingOn.{IsTold}

module _ (p : Setting) (w : WireData) (r : Run) (n : ℕ) (d : WireNode) (shows : Shows p w r) (at : node_at n w.nodes ≡ Some d) (goes : step_refusal w n ≡ None)
    (kept : IsKept d.node) where
  abbrev x : Seat
  x = seat_of p w.nodes n

  abbrev players : ℕ → Player
  players = players_of p w.nodes r

  here : seat_of p w.nodes n ≡ seat_in d.node
  here = seat_there p w.nodes n d at

  pub may : (living_refusal w.nodes n ≡ None) × (is_busy (seat_in d.node).local ≡ true) × ((seat_in d.node).accesses < most_accesses)
  may = steps_on w n d at goes

  lives : not_living r.last.state n ≡ None
  lives = shows.living n ∙ ap (option_map refusal_in) may.0

  busy : is_busy (seat_of p w.nodes n).local ≡ true
  busy = ap (λ (s : Seat). is_busy s.local) here ∙ may.1

  few : (seat_of p w.nodes n).accesses < last_position
  few = let e : (seat_of p w.nodes n).accesses ≡ (seat_in d.node).accesses = ap (λ (s : Seat). s.accesses) here in let f = may.2 in omega (arith, e, f)

  tidy : IsTidy (seat_of p w.nodes n)
  tidy = subst IsTidy (sym here) kept.tidy

  ways : HaveFewWays (seat_of p w.nodes n).desks
  ways = subst (λ (s : Seat). HaveFewWays s.desks) (sym here) kept.ways

  copies : CopyGoesOn (seat_of p w.nodes n).local
  copies = subst (λ (s : Seat). CopyGoesOn s.local) (sym here) kept.copies

  pub within : IsWithin 0 (length w.words) (access_of p w n)
  within = steps_are_safe p w r n shows may.0

  -- returning queues are queues of indices
  index : (v : Way) → p.layout.kind (ReturningQueue v) ≡ Index
  index v = ap (λ (l : WireLayout). l.kind (ReturningQueue v)) shows.setting.setting.layout

  finds : FindsInUse p (seat_of p w.nodes n) (seat_of p w.nodes n).local (seen_at (access_of p w n) w.words)
  finds =
      accesses_find_in_use p w.words (words_after (access_of p w n) w.words) (players_of p w.nodes r) r n shows.stands lives busy few
      (list_changes (access_of p w n) w.words within) (length-words_after (access_of p w n) w.words) tidy ways

  sent : (e : Entry) (copied : Bool) → message_at (seat_of p w.nodes n).local ≡ Sent e copied → is_request_loan e.kind ≡ true
      → MayGiveUp e (seat_of p w.nodes n).desks
  sent e true is request = (requests_may_be_given_up p w.words (players_of p w.nodes r) r n shows.stands lives tidy).0 e true is (copies e is) request
  sent e false is request = (requests_may_be_given_up p w.words (players_of p w.nodes r) r n shows.stands lives tidy).1 e is request

  told_there : IsTold p (seat_of p w.nodes n) (seen_at (access_of p w n) w.words)
  told_there = record {
    finds = finds;
    back = loans_get_back_in_use p (seat_of p w.nodes n) (seen_at (access_of p w n) w.words) index finds;
    used = what_is_sent_is_in_use p w.words (players_of p w.nodes r) r n shows.stands lives tidy;
    sent = sent;
    made = new_loans_may_be_given_up p w.words (players_of p w.nodes r) r n shows.stands lives tidy;
  }

  pub told : IsTold p (seat_in d.node) (seen_at (access_in p d.node) w.words)
  told = subst (λ (s : Seat). IsTold p s (seen_at (program_access p.layout (program_of p s.local)) w.words)) here told_there
