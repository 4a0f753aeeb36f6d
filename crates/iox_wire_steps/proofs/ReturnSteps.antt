-- A step that gives back what was received is told what it relies on: its queue has room.
use Rattle.std.specs.Prelude.{◌<◌}
use Rattle.std.proofs.Common.{◌≡◌, ℕ, Bool, true, false, if◌then◌else◌, List, None, ap, sym, subst, ◌∙◌, inl, inr}
use Rattle.iox_model.specs.declared.kind.Kind.TheVariants.{ActiveRequest}
use Rattle.iox_model.specs.declared.kind.Role.TheVariants.{Client, Server}
use Rattle.iox_model.specs.declared.way.Way.{Way}
use Rattle.iox_model.specs.Handles.{same_kind}
use Rattle.iox_model.specs.Joins.{not_living}
use Rattle.iox_model.specs.Maps.{has_number}
use Rattle.iox_model.specs.Peers.{forgot_port}
use Rattle.iox_model.specs.States.{State}
use Rattle.iox_laws.specs.WeaveBeats.LiveWays.{AreConnected, ComesTo}
use Rattle.iox_steps.specs.Accesses.{seen_by}
use Rattle.iox_steps.specs.Fits.{write_of}
use Rattle.iox_steps.specs.Sites.{last_position}
use Rattle.iox_steps.specs.declared.push.Push.{Push}
use Rattle.iox_steps.specs.declared.side.Pushing.{Pushing}
use Rattle.iox_steps.specs.declared.side.Pushing.TheVariants as pushing
use Rattle.iox_steps.specs.declared.side.QueueEvent.{QueueEvent}
use Rattle.iox_steps.specs.declared.side.QueueEvent.TheVariants.{Publish}
use Rattle.iox_word_map.specs.WordMaps.{IsWay, ReturningQueue}
use Rattle.iox_wire_words.specs.Programs.{program_access, site_of}
use Rattle.iox_wire_moments.specs.MomentsOf.{Pools}
use Rattle.iox_wire_locals.specs.declared.local.Ending.TheVariants as endings
use Rattle.iox_wire_locals.specs.declared.local.Local.{Local}
use Rattle.iox_wire_locals.specs.declared.local.Local.TheVariants.{ReceiveReturns, ReleaseLooks, ReleaseReturns}
use Rattle.iox_wire_locals.specs.declared.local.Visit.{Visit}
use Rattle.iox_wire_locals.specs.declared.seat.Seat.{Seat}
use Rattle.iox_wire_locals.specs.declared.table.Entry.{Entry}
use Rattle.iox_wire_locals.specs.Courses.{ended, placed}
use Rattle.iox_wire_locals.specs.Locals.{program_of}
use Rattle.iox_wire_locals.specs.ReceiveFindings.{receive_returned, release_returned}
use Rattle.iox_wire_locals.specs.StateMoments.{moment_at}
use Rattle.iox_wire_locals.specs.StepLaws.{ReliesOn}
use Rattle.iox_wire_locals.specs.Steps.{accessed, advance}
use Rattle.iox_wire_locals.specs.Tables.{Setting}
use Rattle.iox_wire_laws.specs.WireKeeping.Returns.{GivesBackOn}
use Rattle.iox_wire_laws.specs.WireShows.OwnedCalls.{ReceivesOn, WordsTell, state_after}
use Rattle.iox_wire_laws.specs.WireOwners.SentStates.{OpensElsewhere}
use Rattle.iox_wire_laws.specs.WireOwners.Pushes.{PushesInto}
use Rattle.iox_wire_laws.proofs.WireOwners.PushesTold.{pushes_are_told}
use Rattle.iox_wire_laws.specs.WireRegions.OwnedWords.{Owns}
use Rattle.iox_wire_laws.proofs.WireRegions.OwnPorts.{connected}
use Rattle.iox_wire_laws.proofs.WireRegions.OwnedPlaces.{owners_may_access}
use Rattle.iox_wire_laws.specs.WireHolding.Holding.{held_after}
use Rattle.iox_wire_stands.specs.Following.{LeavesNothing, message_at}
use Rattle.iox_wire_stands.specs.FollowingLaws.{TakesNext}
use Rattle.iox_wire_stands.specs.Nodes.{NodeStands}
use Rattle.iox_wire_stands.specs.Runs.{Run}
use Rattle.iox_wire_stands.specs.Stands.{Player, Stands, seats_of, word_of}
use Rattle.iox_wire_stands.proofs.StepsKept.{shown_same}
use Rattle.iox_wire_steps.specs.ReturnSteps.{ReturnStepsKeep}
use Rattle.iox_wire_steps.specs.WholeSteps.{StepIsTold}
use Rattle.iox_wire_steps.proofs.StateSteps.{Follows, end_told, no_lane}
use Rattle.iox_wire_steps.proofs.StepsWhole.{whole_steps_keep}

-- ---- where it leads

-- it continues, looks at the request state, or is over
given : (x : Seat) (e : Entry) (b : Bool) → Follows (if b then placed x (ReleaseLooks e) else ended x (endings.Drops e)).local
given x e true = tt
given x e false = tt

goes_back : (x : Seat) (e : Entry) (place : Pushing) (event : QueueEvent) → Follows (release_returned x e place event).local
goes_back x e place (Publish slot) = given x e (same_kind e.kind ActiveRequest)
goes_back x e place event = tt

received_back : (x : Seat) (v : Visit) (w : Way) (slot : ℕ) (left : List Way) (waiting : Bool) (place : Pushing) (event : QueueEvent)
    → Follows (receive_returned x v w slot left waiting place event).local
received_back x v w slot left waiting place (Publish given) = tt
received_back x v w slot left waiting place event = tt

-- ---- the place

-- what is so of a place that gives back on the way
record GivesBack (p : Setting) (x : Seat) (s : State) (held : Pools) (local : Local) (seen : ℕ) (y : Way) : Type 0 where
  pub leaves : LeavesNothing (message_at local)
  pub owns : (node : ℕ) → Owns p node s.fixed s.request_state local → ReceivesOn p node s.fixed y
  pub into : PushesInto local (ReturningQueue y)
  pub relies : ReliesOn p x s held local seen
  pub follows : Follows (advance p x local seen).local
  pub next : (after : Local) → TakesNext p held s (message_at local) after
  pub elsewhere : (e : Entry) → OpensElsewhere local e

gives_back_on : (p : Setting) (x : Seat) (s : State) (held : Pools) (local : Local) (seen : ℕ) (y : Way) (place : Push) → GivesBackOn local y place
    → GivesBack p x s held local seen y
gives_back_on p x s held (ReleaseReturns e (pushing.Pushes q)) seen y place on = record {
  leaves = tt;
  owns = λ node owns. subst (ReceivesOn p node s.fixed) on.0 owns.0;
  into = ap ReturningQueue on.0;
  relies = tt;
  follows = goes_back x e _ _;
  next = λ after. tt;
  elsewhere = λ k. tt;
}
gives_back_on p x s held (ReceiveReturns v w slot (pushing.Pushes q) left waiting) seen y place on = record {
  leaves = tt;
  owns = λ node owns. subst (ReceivesOn p node s.fixed) on.0 owns.0.0;
  into = ap ReturningQueue on.0;
  relies = tt;
  follows = received_back x v w slot left waiting _ _;
  next = λ after. tt;
  elsewhere = λ k. tt;
}
gives_back_on p x s held local seen y place on = absurd on

-- ---- the law

module _ (p : Setting) (words : List ℕ) (players : ℕ → Player) (r : Run) (n : ℕ) (payload : List ℕ) (stands : Stands p words players r) (y : Way) (place : Push)
    (living : not_living r.last.state n ≡ None) (at : GivesBackOn (players n).seat.local y place)
    (known : forgot_port r.last.state.fixed n y.sender ≡ false)
    (below : write_of (site_of p.layout (ReturningQueue y)) (word_of words) < last_position) where
  abbrev x : Seat
  x = (players n).seat

  abbrev q : Seat
  q = seats_of p players n

  abbrev s : State
  s = r.last.state

  abbrev seen_at : Seat → ℕ
  seen_at z = seen_by (program_access p.layout (program_of p z.local)) (word_of words)

  gives : GivesBack p (accessed x) s stands.held x.local (seen_at x) y
  gives = gives_back_on p (accessed x) s stands.held x.local (seen_at x) y place at

  mine : NodeStands p stands.held s q
  mine = stands.nodes n living

  pub here : q ≡ x
  here = shown_same p x x.local gives.leaves

  on : ReceivesOn p q.node s.fixed y
  on = gives.owns q.node (subst (λ (z : Seat). Owns p q.node s.fixed s.request_state z.local) here mine.owns.owns)

  linked : AreConnected s.fixed y
  linked = by_way on.way
    where
      by_way : IsWay p.layout.sizes y → AreConnected s.fixed y
      by_way (inl way) = (
        connected s.fixed Client y.sender (ap (has_number y.sender) (sym stands.layout.clients) ∙ way.0),
        connected s.fixed Server y.receiver (ap (has_number y.receiver) (sym stands.layout.servers) ∙ way.1),
      )
      by_way (inr way) = (
        connected s.fixed Server y.sender (ap (has_number y.sender) (sym stands.layout.servers) ∙ way.1),
        connected s.fixed Client y.receiver (ap (has_number y.receiver) (sym stands.layout.clients) ∙ way.2),
      )

  comes : ComesTo s.fixed n y
  comes = (linked, sym (stands.owners y.receiver) ∙ on.mine ∙ stands.shows.node n, known)

  words_tell : WordsTell p x.local (seen_at x)
  words_tell =
      subst (λ (z : Seat). WordsTell p z.local (seen_at z)) here
      (pushes_are_told p stands.held (word_of words) stands.contents (seats_of p players) r.last n (ReturningQueue y) stands.shows living
      (owners_may_access p stands.held s q mine.owns.owns mine.tells).0 (subst (λ (z : Seat). PushesInto z.local (ReturningQueue y)) (sym here) gives.into)
      (comes, stands.rooms y on.way) below)

  step_told : StepIsTold p stands.held s x (seen_at x) payload
  step_told = record {
    access = λ going. record {
      relies = gives.relies;
      words = words_tell;
      lane = no_lane (held_after p x (seen_at x) stands.held) (advance p (accessed x) x.local (seen_at x)).local gives.follows;
      next = gives.next (advance p (accessed x) x.local (seen_at x)).local;
      elsewhere = λ k has pending. gives.elsewhere k;
    };
    ended = λ ending is.
        end_told p (held_after p x (seen_at x) stands.held) (state_after s (moment_at p stands.held x.local (seen_at x)))
        (advance p (accessed x) x.local (seen_at x)) x.node payload (advance p (accessed x) x.local (seen_at x)).local ending gives.follows is;
  }

pub return_steps_keep : ReturnStepsKeep
return_steps_keep p words words' players r n payload stands y place living at known below made len =
    let kept =
    whole_steps_keep p words words' players r n payload stands living
    (subst (λ z. StepIsTold p stands.held r.last.state z (seen_by (program_access p.layout (program_of p (players n).seat.local)) (word_of words)) payload)
    (sym (here p words players r n payload stands y place living at known below))
    (step_told p words players r n payload stands y place living at known below)) made len in
    (kept.0, kept.1, kept.2)
