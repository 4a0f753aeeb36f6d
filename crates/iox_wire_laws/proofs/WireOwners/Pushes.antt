-- A send has room on each way on which it has yet to deliver.
use Rattle.std.specs.Prelude.{length, ◌<◌, if◌then◌else◌}
use Rattle.std.proofs.lemmas.List.{length-map}
use Rattle.std.proofs.Common.{◌≡◌, ℕ, Bool, true, false, ◌+◌, List, ◌∷◌, Option, Some, refl, ap, subst, ◌∙◌, arith, true≢false}
use Rattle.iox_model.specs.declared.way.Way.{Way}
use Rattle.iox_model.specs.Doings.{Sending, Delivering}
use Rattle.iox_model.specs.Moments.{room_on}
use Rattle.iox_model.specs.Peers.{buffer_on, is_counted_on, overflows_on}
use Rattle.iox_model.specs.Weaves.{World}
use Rattle.iox_steps.specs.declared.push.Push.{Push}
use Rattle.iox_steps.specs.declared.side.Pushing.TheVariants as pushing
use Rattle.iox_steps.specs.declared.side.QueueEvent.TheVariants.{SeesFull, SeesEnd}
use Rattle.iox_steps.specs.declared.site.Site.{Site}
use Rattle.iox_steps.specs.Accesses.{seen_by, word_after}
use Rattle.iox_steps.specs.Events.{IsTrueOf}
use Rattle.iox_steps.specs.Fits.{write_of}
use Rattle.iox_steps.specs.Pushes.{push_access, push_event}
use Rattle.iox_steps.specs.Sides.{pushing_access}
use Rattle.iox_steps.specs.Sites.{last_position}
use Rattle.iox_steps.proofs.AccessLemmas.{after_changes}
use Rattle.iox_laws.proofs.WeaveLaws.MapLemmas.{is_in-first}
use Rattle.iox_laws.proofs.WeaveBeats.Rooms.{deliveries_find_room}
use Rattle.iox_word_map.specs.WordMaps.{MessageQueue, IsWay}
use Rattle.iox_wire_words.specs.Programs.{Pushes, pusher_of, site_of}
use Rattle.iox_wire_words.specs.Fits.{WireContents, MayRun}
use Rattle.iox_wire_words.proofs.Steps.{push_turn}
use Rattle.iox_wire_moments.specs.MomentsOf.{Pools}
use Rattle.iox_wire_locals.specs.declared.local.Local.{Local}
use Rattle.iox_wire_locals.specs.declared.local.Local.TheVariants.{SendPushes}
use Rattle.iox_wire_locals.specs.declared.seat.Seat.{Seat}
use Rattle.iox_wire_locals.specs.Doings.{doing_of, send_of}
use Rattle.iox_wire_locals.specs.Locals.{program_of}
use Rattle.iox_wire_locals.specs.Tables.{Setting}
use Rattle.iox_wire_laws.specs.WireKeeping.Shows.{ShowsWorld, programs_of, CountsWay}
use Rattle.iox_wire_laws.specs.WireOwners.Pushes.{DeliversAt, DeliveriesAreNotRefused}

module _ (p : Setting) (held : Pools) (word : ℕ → ℕ) (c : WireContents) (seats : ℕ → Seat) (w : World) (x : Seat)
    (shows : ShowsWorld p held word c seats w) (y : Way) (place : Push) where
  abbrev site : Site
  site = site_of p.layout (MessageQueue y)

  abbrev Fine : Type 0
  Fine =
      (overflows_on w.state.fixed y ≡ false → push_event (site_of p.layout (MessageQueue y)) place
      (seen_by (push_access (site_of p.layout (MessageQueue y)) place) word) ≡ SeesFull → ⊥)
      × (write_of (site_of p.layout (MessageQueue y)) word < last_position
      → push_event (site_of p.layout (MessageQueue y)) place (seen_by (push_access (site_of p.layout (MessageQueue y)) place) word) ≡ SeesEnd → ⊥)

  fine : (d : Sending) (last : Option Way) (left : List Way) (count : ℕ) → w.doing x.node ≡ Some (Delivering d last (y ∷ left) count)
      → programs_of p seats x.node ≡ Pushes (MessageQueue y) (pushing.Pushes place)
      → IsWay p.layout.sizes y × (pusher_of p.layout (MessageQueue y) ≡ x.node) → is_counted_on w.state.fixed y ≡ true → Fine
  fine d last left count doing runs own counted = (
    (λ still e. full (c.queues (MessageQueue y)).waiting (subst (IsTrueOf (site_of p.layout (MessageQueue y)) (write_of (site_of p.layout (MessageQueue y)) word)
        (c.queues (MessageQueue y)).waiting (c.queues (MessageQueue y)).hand) e seen) (few still)),
    (λ below e. end (write_of (site_of p.layout (MessageQueue y)) word) below (subst (IsTrueOf (site_of p.layout (MessageQueue y)) (write_of (site_of p.layout (MessageQueue y)) word)
        (c.queues (MessageQueue y)).waiting (c.queues (MessageQueue y)).hand) e seen)),
  )
    where
      seen : IsTrueOf (site_of p.layout (MessageQueue y)) (write_of (site_of p.layout (MessageQueue y)) word)
          (c.queues (MessageQueue y)).waiting (c.queues (MessageQueue y)).hand
          (push_event (site_of p.layout (MessageQueue y)) place (seen_by (push_access (site_of p.layout (MessageQueue y)) place) word))
      seen =
          (push_turn p.layout word (word_after (pushing_access (site_of p.layout (MessageQueue y)) (pushing.Pushes place)) word)
          (programs_of p seats) c x.node (Pushes (MessageQueue y) (pushing.Pushes place)) shows.sized shows.words runs (MessageQueue y)
          (pushing.Pushes place) refl own
          (after_changes (pushing_access (site_of p.layout (MessageQueue y)) (pushing.Pushes place)) word)).is_true

      room : length (c.queues (MessageQueue y)).waiting < room_on w.state.fixed y
      room =
          subst (λ k. k < room_on w.state.fixed y)
          (ap length (shows.ties.waiting y own.0 counted) ∙ length-map (c.queues (MessageQueue y)).waiting (held y.sender))
          (deliveries_find_room w x.node d last (y ∷ left) count y shows.reachable doing (is_in-first y left))

      less : (k most : ℕ) (over : Bool) → k < most + (if over then 1 else 0) → over ≡ false → k < most
      less k most true fewer still = absurd (true≢false still)
      less k most false fewer still = omega arith

      few : overflows_on w.state.fixed y ≡ false → length (c.queues (MessageQueue y)).waiting < buffer_on w.state.fixed y
      few still = less _ _ (overflows_on w.state.fixed y) room still

      full : (waiting : List ℕ) → length waiting ≡ p.layout.capacity (MessageQueue y) → length waiting < buffer_on w.state.fixed y → ⊥
      full waiting as_many fewer = let so : length waiting ≡ buffer_on w.state.fixed y = as_many ∙ shows.suits.buffer y own.0 in absurd (omega arith)

      end : (write : ℕ) → write < last_position → write ≡ last_position → ⊥
      end write below is = absurd (omega (arith, below, is))

  by_place : (local : Local) → programs_of p seats x.node ≡ program_of p local → w.doing x.node ≡ doing_of p w.state.fixed held x.node local
      → MayRun p.layout x.node (program_of p local) → CountsWay w.state (program_of p local) → DeliversAt local y place → Fine
  by_place (SendPushes d last u (pushing.Pushes q) left count) runs doing own counted is =
      fine (send_of w.state.fixed held x.node d) last left count (subst (λ v. w.doing x.node ≡ Some (Delivering (send_of w.state.fixed held x.node d) last (v ∷ left) count)) is.0 doing)
      (runs ∙ (λ i. Pushes (MessageQueue (is.0 i)) (pushing.Pushes (is.1 i))))
      (subst (λ v. IsWay p.layout.sizes v × (pusher_of p.layout (MessageQueue v) ≡ x.node)) is.0 own)
      (subst (λ v. is_counted_on w.state.fixed v ≡ true) is.0 counted)
  by_place local runs doing own counted is = absurd is

pub deliveries_are_not_refused : DeliveriesAreNotRefused
deliveries_are_not_refused p held word c seats w n y place shows living owns is =
    let x : Seat = seats n in
    let here : x.node ≡ n = shows.node n in
    by_place p held word c seats w x shows y place x.local (ap (λ k. program_of p (seats k).local) here) (shows.doing n living)
    owns.may_run owns.counted is
