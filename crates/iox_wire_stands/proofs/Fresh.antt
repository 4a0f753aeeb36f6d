-- What a send delivers is not outstanding on that way: it delivers its own message, there once.
use Rattle.std.proofs.Common.{◌≡◌, ℕ, false, ◌∷◌, None, refl, ap, subst, sym, ◌∙◌}
use Rattle.iox_model.specs.declared.way.Way.{Way}
use Rattle.iox_model.specs.Joins.{not_living}
use Rattle.iox_model.specs.Weaves.{World}
use Rattle.iox_laws.proofs.WeaveBeats.Fresh.{deliveries_are_fresh}
use Rattle.iox_laws.proofs.WeaveLaws.MapLemmas.{is_in-first}
use Rattle.iox_steps.specs.declared.side.Pushing.TheVariants as pushing
use Rattle.iox_steps.specs.declared.side.QueueEvent.{QueueEvent}
use Rattle.iox_steps.specs.declared.side.QueueEvent.TheVariants.{HandOut, Learn, Publish}
use Rattle.iox_word_map.specs.WordMaps.{MessageQueue, ReturningQueue}
use Rattle.iox_wire_words.specs.Programs.{site_of}
use Rattle.iox_wire_moments.specs.MomentsOf.{Pools}
use Rattle.iox_wire_locals.specs.declared.local.Local.{Local}
use Rattle.iox_wire_locals.specs.declared.local.Local.TheVariants.{LendEmpties, SendEmpties, SendGetsBack, SendPushes}
use Rattle.iox_wire_locals.specs.declared.seat.Seat.{Seat}
use Rattle.iox_wire_locals.specs.Doings.{doing_of, send_of}
use Rattle.iox_wire_locals.specs.StepLaws.{ReliesOn}
use Rattle.iox_wire_locals.specs.Steps.{accessed, pop_finds, push_finds}
use Rattle.iox_wire_locals.specs.Tables.{Setting}
use Rattle.iox_wire_laws.specs.WireKeeping.Shows.{PlaceKnows, ShowsWorld}
use Rattle.iox_wire_pools.proofs.AccessesFound.{Only, only}
use Rattle.iox_wire_words.specs.Fits.{WireContents}
use Rattle.iox_wire_stands.specs.Following.{desk_change, popped_back, delivers_published, pushed_out}
use Rattle.iox_wire_stands.specs.FollowingLaws.{DeliversNew}

module _ (p : Setting) (held : Pools) (word : ℕ → ℕ) (c : WireContents) (seats : ℕ → Seat) (w : World) (n : ℕ)
    (shows : ShowsWorld p held word c seats w) (living : not_living w.state n ≡ None) (seen : ℕ) where
  abbrev x : Seat
  x = seats n

  popped : (port : ℕ) (y : Way) (event : QueueEvent) → DeliversNew held w.state (popped_back port y event)
  popped port y (HandOut slot) = tt
  popped port y event = tt

  learned : (port : ℕ) (y : Way) (event : QueueEvent) → DeliversNew held w.state (pushed_out port y event)
  learned port y (Learn slot) = tt
  learned port y event = tt

  fresh : (local : Local) → x.local ≡ local → PlaceKnows p x w.state held local → ReliesOn p (accessed x) w.state held local seen
      → DeliversNew held w.state (desk_change p local seen)
  fresh (LendEmpties o y place left) is knows relies = popped o.port y (pop_finds p (ReturningQueue y) place seen)
  fresh (SendEmpties d y place left) is knows relies = popped d.loan.port y (pop_finds p (ReturningQueue y) place seen)
  fresh (SendGetsBack d y place left count) is knows relies = learned d.loan.port y (push_finds p (MessageQueue y) place seen)
  fresh (SendPushes d last y (pushing.Pushes place) left count) is knows relies =
      delivers (push_finds p (MessageQueue y) (pushing.Pushes place) seen) (only d.loan.slot (site_of p.layout (MessageQueue y)) place seen knows.0)
    where
      not_there : w.state.delivered y (held d.loan.sender d.loan.slot).serial ≡ false
      not_there =
          deliveries_are_fresh w x.node (send_of w.state.fixed held x.node d) last (y ∷ left) count y shows.reachable
          (shows.doing n living ∙ ap (doing_of p w.state.fixed held x.node) is) (is_in-first y left)

      delivers : (event : QueueEvent) → Only d.loan.slot event → DeliversNew held w.state (delivers_published d.loan.port y event)
      delivers (Publish slot) own =
          subst (λ k. w.state.delivered y (held y.sender k).serial ≡ false) (sym own)
          (subst (λ port. w.state.delivered y (held port d.loan.slot).serial ≡ false) (sym knows.1) not_there)
      delivers event own = tt
  fresh (SendPushes d last y (pushing.Looks place) left count) is knows relies = absurd relies
  fresh (SendPushes d last y pushing.AtRest left count) is knows relies = absurd relies
  fresh local is knows relies = tt

  pub delivers_fresh : PlaceKnows p x w.state held x.local → ReliesOn p (accessed x) w.state held x.local seen
      → DeliversNew held w.state (desk_change p x.local seen)
  delivers_fresh knows relies = fresh x.local refl knows relies
