-- What a push sees of its queue's positions lets it go on.
use Rattle.std.specs.Prelude.{◌<◌, if◌then◌else◌}
use Rattle.std.proofs.Common.{◌≡◌, ℕ, Bool, true, false, ◌==◌, None, refl, sym, subst, ◌∙◌}
use Rattle.iox_model.specs.declared.way.Way.{Way}
use Rattle.iox_model.specs.Joins.{not_living}
use Rattle.iox_model.specs.Peers.{overflows_on}
use Rattle.iox_model.specs.Weaves.{World}
use Rattle.iox_steps.specs.declared.push.Push.TheVariants as push
use Rattle.iox_steps.specs.declared.side.Pushing.TheVariants as pushing
use Rattle.iox_steps.specs.declared.side.QueueEvent.TheVariants.{SeesFull, SeesRoom, SeesEnd}
use Rattle.iox_steps.specs.declared.site.QueueKind.{QueueKind}
use Rattle.iox_steps.specs.declared.site.QueueKind.TheVariants.{Index, Overflowing}
use Rattle.iox_steps.specs.Accesses.{seen_by}
use Rattle.iox_steps.specs.Fits.{write_of}
use Rattle.iox_steps.specs.Pushes.{is_refused, push_access}
use Rattle.iox_steps.specs.Sites.{is_full, last_position}
use Rattle.iox_word_map.specs.WordMaps.{WireQueue, MessageQueue, ReturningQueue, IsWay}
use Rattle.iox_wire_words.specs.Programs.{site_of, program_access}
use Rattle.iox_wire_words.specs.Fits.{WireContents, MayRun}
use Rattle.iox_wire_moments.specs.MomentsOf.{Pools}
use Rattle.iox_wire_locals.specs.declared.local.Local.{Local}
use Rattle.iox_wire_locals.specs.declared.local.Local.TheVariants.{SendPushes, ReceiveReturns, ReleaseReturns}
use Rattle.iox_wire_locals.specs.declared.seat.Seat.{Seat}
use Rattle.iox_wire_locals.specs.Locals.{program_of}
use Rattle.iox_wire_locals.specs.Tables.{Setting, way_in}
use Rattle.iox_wire_laws.specs.WireKeeping.Returns.{GivesBackOn}
use Rattle.iox_wire_laws.specs.WireKeeping.Shows.{ShowsWorld, OwnsPlace}
use Rattle.iox_wire_laws.proofs.WireKeeping.ReturnsFit.{returns_are_not_refused}
use Rattle.iox_wire_laws.specs.WireShows.OwnedCalls.{LetsPush, WordsTell}
use Rattle.iox_wire_laws.specs.WireOwners.Pushes.{DeliversAt, ReturnsHaveRoom, PushesAreTold, PushesInto}
use Rattle.iox_wire_laws.proofs.WireOwners.Pushes.{deliveries_are_not_refused}

-- ---- what is seen

-- neither full nor at its end: full matters only where nothing overflows
goes_on : (kind : QueueKind) (ended full : Bool) → (kind ≡ Index → (if ended then SeesEnd else (if full then SeesFull else SeesRoom)) ≡ SeesFull → ⊥)
    → ((if ended then SeesEnd else (if full then SeesFull else SeesRoom)) ≡ SeesEnd → ⊥) → is_refused kind ended full ≡ false
goes_on kind true full not_full not_ended = absurd (not_ended refl)
goes_on Index false true not_full not_ended = absurd (not_full refl refl)
goes_on Index false false not_full not_ended = refl
goes_on Overflowing false full not_full not_ended = refl

-- a queue of messages that does not overflow is of the other kind
is_index : (over : Bool) (kind : QueueKind) → kind ≡ (if over then Overflowing else Index) → kind ≡ Index → over ≡ false
is_index true kind is index = absurd (subst IsOver (sym is ∙ index) tt)
  where
    IsOver : QueueKind → Type 0
    IsOver Index = ⊥
    IsOver Overflowing = Unit {0}
is_index false kind is index = refl

module _ (p : Setting) (held : Pools) (word : ℕ → ℕ) (c : WireContents) (seats : ℕ → Seat) (w : World) (n : ℕ)
    (shows : ShowsWorld p held word c seats w) (living : not_living w.state n ≡ None) (owns : OwnsPlace p held w.state (seats n)) where
  abbrev seen_in : Local → ℕ
  seen_in local = seen_by (program_access p.layout (program_of p local)) word

  -- the way is one of the wire's
  is_way : (local : Local) (y : Way) → (seats n).local ≡ local → MayRun p.layout (seats n).node (program_of p local)
  is_way local y is = subst (λ l. MayRun p.layout (seats n).node (program_of p l)) is owns.may_run

  delivers : (y : Way) (value write : ℕ) → DeliversAt (seats n).local y (push.LoadsRead value write) → IsWay p.layout.sizes y
      → write_of (site_of p.layout (MessageQueue y)) word < last_position
      → LetsPush (site_of p.layout (MessageQueue y)) write (seen_by (push_access (site_of p.layout (MessageQueue y)) (push.LoadsRead value write)) word)
  delivers y value write at way below =
      let fine = deliveries_are_not_refused p held word c seats w n y (push.LoadsRead value write) shows living owns at in
      goes_on (site_of p.layout (MessageQueue y)).kind (write == last_position)
      (is_full (site_of p.layout (MessageQueue y)) (seen_by (push_access (site_of p.layout (MessageQueue y)) (push.LoadsRead value write)) word) write)
      (λ index. fine.0 (is_index (overflows_on w.state.fixed y) (p.layout.kind (MessageQueue y)) (shows.suits.kind y way) index)) (fine.1 below)

  returns_on : (y : Way) (value write : ℕ) → GivesBackOn (seats n).local y (push.LoadsRead value write) → ReturnsHaveRoom p w.state.fixed n (ReturningQueue y)
      → write_of (site_of p.layout (ReturningQueue y)) word < last_position
      → LetsPush (site_of p.layout (ReturningQueue y)) write (seen_by (push_access (site_of p.layout (ReturningQueue y)) (push.LoadsRead value write)) word)
  returns_on y value write at room below =
      let fine = returns_are_not_refused p held word c seats w n y (push.LoadsRead value write) shows living owns at
      (rw (shows.node n) room.0) room.1 in
      goes_on (site_of p.layout (ReturningQueue y)).kind (write == last_position)
      (is_full (site_of p.layout (ReturningQueue y)) (seen_by (push_access (site_of p.layout (ReturningQueue y)) (push.LoadsRead value write)) word) write)
      (λ index. fine.0) (fine.1 below)

  by_place : (local : Local) (q : WireQueue) → (seats n).local ≡ local → PushesInto local q → ReturnsHaveRoom p w.state.fixed n q
      → write_of (site_of p.layout q) word < last_position → WordsTell p local (seen_in local)
  by_place (SendPushes d last u (pushing.Pushes (push.LoadsRead value write)) left count) q is into room below =
      delivers u value write (subst (λ l. DeliversAt l u (push.LoadsRead value write)) (sym is) (refl, refl))
      (is_way (SendPushes d last u (pushing.Pushes (push.LoadsRead value write)) left count) u is).0
      (subst (λ v. write_of (site_of p.layout v) word < last_position) (sym into) below)
  by_place (ReceiveReturns v u slot (pushing.Pushes (push.LoadsRead value write)) left waiting) q is into room below =
      returns_on u value write (subst (λ l. GivesBackOn l u (push.LoadsRead value write)) (sym is) (refl, refl))
      (subst (ReturnsHaveRoom p w.state.fixed n) (sym into) room) (subst (λ v. write_of (site_of p.layout v) word < last_position) (sym into) below)
  by_place (ReleaseReturns e (pushing.Pushes (push.LoadsRead value write))) q is into room below =
      returns_on (way_in e) value write (subst (λ l. GivesBackOn l (way_in e) (push.LoadsRead value write)) (sym is) (refl, refl))
      (subst (ReturnsHaveRoom p w.state.fixed n) (sym into) room) (subst (λ v. write_of (site_of p.layout v) word < last_position) (sym into) below)
  by_place (SendPushes d last u (pushing.Pushes place) left count) q is into room below = tt
  by_place (ReceiveReturns v u slot (pushing.Pushes place) left waiting) q is into room below = tt
  by_place (ReleaseReturns e (pushing.Pushes place)) q is into room below = tt
  by_place local q is into room below = absurd into

pub pushes_are_told : PushesAreTold
pushes_are_told p held word c seats w n q shows living owns into room below =
    by_place p held word c seats w n shows living owns (seats n).local q refl into room below
