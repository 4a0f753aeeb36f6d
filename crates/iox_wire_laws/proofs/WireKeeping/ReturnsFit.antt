-- The beat that would give back leads to a world whose ledger has room for it.
use Rattle.std.specs.Prelude.{length, ◌<◌}
use Rattle.std.proofs.lemmas.List.{length-map}
use Rattle.std.proofs.Common.{◌≡◌, ℕ, ◌+◌, true, List, ◌∷◌, Some, None, refl, ap, sym, subst, ◌∙◌, arith}
use Rattle.iox_model.specs.declared.way.Way.{Way}
use Rattle.iox_model.specs.Doings.{Doing, Stale, Returning}
use Rattle.iox_model.specs.Joins.{not_living}
use Rattle.iox_model.specs.Moments.{GiveBack}
use Rattle.iox_model.specs.Peers.{is_counted_on, buffer_on, borrow_limit_on}
use Rattle.iox_model.specs.Transitions as transitions
use Rattle.iox_model.specs.Weaves.{World, made}
use Rattle.iox_steps.specs.declared.push.Push.{Push}
use Rattle.iox_steps.specs.declared.side.Pushing.TheVariants as pushing
use Rattle.iox_steps.specs.declared.side.QueueEvent.TheVariants.{SeesFull, SeesEnd}
use Rattle.iox_steps.specs.Accesses.{seen_by, word_after}
use Rattle.iox_steps.specs.Events.{IsTrueOf}
use Rattle.iox_steps.specs.Fits.{write_of}
use Rattle.iox_steps.specs.Pushes.{push_access, push_event}
use Rattle.iox_steps.specs.Sides.{pushing_access}
use Rattle.iox_steps.specs.Sites.{last_position}
use Rattle.iox_steps.proofs.AccessLemmas.{after_changes}
use Rattle.iox_laws.specs.WeaveBeats.LiveWays.{ComesTo}
use Rattle.iox_laws.proofs.WeaveBeats.Rooms.{returns_find_room}
use Rattle.iox_word_map.specs.WordMaps.{ReturningQueue, IsWay}
use Rattle.iox_wire_words.specs.Programs.{Pushes, site_of, pusher_of}
use Rattle.iox_wire_words.specs.Fits.{WireContents, MayRun}
use Rattle.iox_wire_words.proofs.Steps.{push_turn}
use Rattle.iox_wire_moments.specs.MomentsOf.{Pools, serial_in}
use Rattle.iox_wire_locals.specs.declared.local.Local.{Local}
use Rattle.iox_wire_locals.specs.declared.local.Local.TheVariants.{ReceiveReturns, ReleaseReturns}
use Rattle.iox_wire_locals.specs.declared.seat.Seat.{Seat}
use Rattle.iox_wire_locals.specs.Tables.{Setting, handle_of, way_in}
use Rattle.iox_wire_locals.specs.Locals.{program_of}
use Rattle.iox_wire_locals.specs.Doings.{doing_of, receiver_in}
use Rattle.iox_wire_locals.specs.BeginLaws.{Counts}
use Rattle.iox_wire_locals.proofs.KnowingLemmas.{way_known}
use Rattle.iox_wire_laws.specs.WireKeeping.Shows.{ShowsWorld, programs_of, CountsWay, PlaceKnows}
use Rattle.iox_wire_laws.specs.WireKeeping.Returns.{GivesBackOn, ReturnsAreNotRefused}
use Rattle.iox_wire_laws.proofs.WireKeeping.QueueMoments as queue

module _ (p : Setting) (held : Pools) (word : ℕ → ℕ) (c : WireContents) (seats : ℕ → Seat) (w : World) (x : Seat)
    (shows : ShowsWorld p held word c seats w) (living : not_living w.state x.node ≡ None) (y : Way) (place : Push)
    (comes : ComesTo w.state.fixed x.node y)
    (wide : p.layout.capacity (ReturningQueue y) ≡ buffer_on w.state.fixed y + borrow_limit_on w.state.fixed y + 1) where
  abbrev Fine : Type 0
  Fine =
      (push_event (site_of p.layout (ReturningQueue y)) place (seen_by (push_access (site_of p.layout (ReturningQueue y)) place) word) ≡ SeesFull → ⊥)
      × (write_of (site_of p.layout (ReturningQueue y)) word < last_position
      → push_event (site_of p.layout (ReturningQueue y)) place (seen_by (push_access (site_of p.layout (ReturningQueue y)) place) word) ≡ SeesEnd → ⊥)

  fine : (d : Doing) (k : ℕ) → w.doing x.node ≡ Some d → (transitions.next w.state x.node d (GiveBack y k)).condition
      → programs_of p seats x.node ≡ Pushes (ReturningQueue y) (pushing.Pushes place)
      → IsWay p.layout.sizes y × (pusher_of p.layout (ReturningQueue y) ≡ x.node) → is_counted_on w.state.fixed y ≡ true → Fine
  fine d k doing may runs own counted = (
    (λ e. full (c.queues (ReturningQueue y)).waiting (subst (IsTrueOf (site_of p.layout (ReturningQueue y)) (write_of (site_of p.layout (ReturningQueue y)) word)
        (c.queues (ReturningQueue y)).waiting (c.queues (ReturningQueue y)).hand) e seen) few),
    (λ below e. end (write_of (site_of p.layout (ReturningQueue y)) word) below (subst (IsTrueOf (site_of p.layout (ReturningQueue y)) (write_of (site_of p.layout (ReturningQueue y)) word)
        (c.queues (ReturningQueue y)).waiting (c.queues (ReturningQueue y)).hand) e seen)),
  )
    where
      seen : IsTrueOf (site_of p.layout (ReturningQueue y)) (write_of (site_of p.layout (ReturningQueue y)) word)
          (c.queues (ReturningQueue y)).waiting (c.queues (ReturningQueue y)).hand
          (push_event (site_of p.layout (ReturningQueue y)) place (seen_by (push_access (site_of p.layout (ReturningQueue y)) place) word))
      seen =
          (push_turn p.layout word (word_after (pushing_access (site_of p.layout (ReturningQueue y)) (pushing.Pushes place)) word)
          (programs_of p seats) c x.node (Pushes (ReturningQueue y) (pushing.Pushes place)) shows.sized shows.words runs (ReturningQueue y)
          (pushing.Pushes place) refl own
          (after_changes (pushing_access (site_of p.layout (ReturningQueue y)) (pushing.Pushes place)) word)).is_true

      few : length (c.queues (ReturningQueue y)).waiting < buffer_on w.state.fixed y + borrow_limit_on w.state.fixed y + 1
      few =
          subst (λ n. n < buffer_on w.state.fixed y + borrow_limit_on w.state.fixed y + 1)
          (ap length (shows.ties.returned y own.0 counted) ∙ length-map (c.queues (ReturningQueue y)).waiting (serial_in held y))
          (returns_find_room w (made w x.node d (GiveBack y k)) x.node y k shows.reachable (living, d, doing, tt, may, refl) comes)

      full : (waiting : List ℕ) → length waiting ≡ p.layout.capacity (ReturningQueue y)
          → length waiting < buffer_on w.state.fixed y + borrow_limit_on w.state.fixed y + 1 → ⊥
      full waiting as_many fewer = let so : length waiting ≡ buffer_on w.state.fixed y + borrow_limit_on w.state.fixed y + 1 = as_many ∙ wide in absurd (omega arith)

      end : (write : ℕ) → write < last_position → write ≡ last_position → ⊥
      end write below is = absurd (omega (arith, below, is))

  -- with the way and the place of the program
  at_place : (d : Doing) (k : ℕ) (u : Way) (q : Push) → w.doing x.node ≡ Some d → (transitions.next w.state x.node d (GiveBack u k)).condition
      → programs_of p seats x.node ≡ Pushes (ReturningQueue u) (pushing.Pushes q)
      → IsWay p.layout.sizes u × (pusher_of p.layout (ReturningQueue u) ≡ x.node) → is_counted_on w.state.fixed u ≡ true
      → u ≡ y → q ≡ place → Fine
  at_place d k u q doing may runs own counted way at =
      fine d k doing (subst (λ v. (transitions.next w.state x.node d (GiveBack v k)).condition) way may)
      (runs ∙ (λ i. Pushes (ReturningQueue (way i)) (pushing.Pushes (at i))))
      (subst (λ v. IsWay p.layout.sizes v × (pusher_of p.layout (ReturningQueue v) ≡ x.node)) way own)
      (subst (λ v. is_counted_on w.state.fixed v ≡ true) way counted)

  by_place : (local : Local) → programs_of p seats x.node ≡ program_of p local → w.doing x.node ≡ doing_of p w.state.fixed held x.node local
      → MayRun p.layout x.node (program_of p local) → CountsWay w.state (program_of p local) → PlaceKnows p x w.state held local
      → Counts p x w.state held → GivesBackOn local y place → Fine
  by_place (ReceiveReturns v u slot (pushing.Pushes q) left waiting) runs doing own counted knows has is =
      at_place (Stale (receiver_in v) u (held u.sender slot) (u ∷ left) waiting) (serial_in held u slot) u q doing
      (queue.stale p c w.state x.node held u shows.states (receiver_in v) (u ∷ left) waiting slot).0 runs own counted is.0 is.1
  by_place (ReleaseReturns e (pushing.Pushes q)) runs doing own counted knows has is =
      at_place (Returning (handle_of held x.node e)) (serial_in held (way_in e) e.slot) (way_in e) q doing
      (queue.returning p c w.state x.node held (way_in e) shows.states (handle_of held x.node e) e.slot
      (sym (way_known p x w.state.fixed held has.knows e)) (ap (λ port. (held port e.slot).serial) knows.1)).0 runs own counted is.0 is.1
  by_place local runs doing own counted knows has is = absurd is

pub returns_are_not_refused : ReturnsAreNotRefused
returns_are_not_refused p held word c seats w n y place shows living owns is comes wide =
    let x : Seat = seats n in
    let here : x.node ≡ n = shows.node n in
    by_place p held word c seats w x shows (subst (λ k. not_living w.state k ≡ None) (sym here) living) y place comes wide
    x.local (ap (λ k. program_of p (seats k).local) here) (shows.doing n living) owns.may_run owns.counted owns.knows (shows.counts n living) is
