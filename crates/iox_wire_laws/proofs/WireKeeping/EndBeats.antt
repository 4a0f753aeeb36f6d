-- A call that has no access left may end, since all its deliveries rest.
use Rattle.std.specs.Prelude.{length, nat_lt, ◌≤◌}
use Rattle.std.proofs.lemmas.List.{length-map}
use Rattle.std.proofs.Common.{◌≡◌, ℕ, true, false, List, Some, None, refl, ap, sym, subst, ◌∙◌, arith}
use Rattle.iox_model.specs.declared.way.RequestState.{RequestState}
use Rattle.iox_model.specs.declared.way.Way.{Way}
use Rattle.iox_model.specs.Doings.{Doing}
use Rattle.iox_model.specs.Ends as machine
use Rattle.iox_model.specs.Joins.{not_living}
use Rattle.iox_model.specs.Messages.{Message}
use Rattle.iox_model.specs.Peers.{is_counted_on, buffer_on}
use Rattle.iox_model.specs.Requests.{is_over}
use Rattle.iox_model.specs.States.{State}
use Rattle.iox_model.specs.Transitions as transitions
use Rattle.iox_model.specs.Weaves.{World, over}
use Rattle.iox_steps.specs.declared.side.Pushing.TheVariants as pushing
use Rattle.iox_steps.specs.Fits.{PushingKnows}
use Rattle.iox_laws.proofs.WeaveLaws.WholeLemmas.{put_at-here, some-is}
use Rattle.iox_laws.proofs.WeaveLaws.WireLemmas.{Same, settled_same}
use Rattle.iox_laws.proofs.WeaveLedger.Truths.{none-some}
use Rattle.iox_word_map.specs.WordMaps.{MessageQueue, IsWay}
use Rattle.iox_wire_words.specs.Programs.{Rests, site_of, pusher_of, pushing_in}
use Rattle.iox_wire_words.specs.Fits.{WireContents}
use Rattle.iox_wire_moments.specs.MomentsOf.{Pools}
use Rattle.iox_wire_moments.specs.Ties.{Ties}
use Rattle.iox_wire_locals.specs.declared.local.Ending.{Ending}
use Rattle.iox_wire_locals.specs.declared.local.Local.{Local}
use Rattle.iox_wire_locals.specs.declared.local.Local.TheVariants.{Ends, SendEnds}
use Rattle.iox_wire_locals.specs.declared.seat.Seat.{Seat}
use Rattle.iox_wire_locals.specs.Tables.{Setting}
use Rattle.iox_wire_locals.specs.Locals.{program_of, state_word}
use Rattle.iox_wire_locals.specs.Doings.{doing_of, outcome_of}
use Rattle.iox_wire_locals.specs.Steps.{ending_at, closed}
use Rattle.iox_wire_locals.specs.BeginLaws.{Counts}
use Rattle.iox_wire_locals.proofs.ReplyProofs.{replies_are_the_machines}
use Rattle.iox_wire_laws.specs.WireKeeping.Shows.{ShowsWorld, programs_of, EndKnows}
use Rattle.iox_wire_laws.specs.WireKeeping.EndBeats.{EndsAreBeats}
use Rattle.iox_wire_laws.proofs.WireKeeping.Frames.{Frame, settled_frame, counted_before}
use Rattle.iox_wire_laws.proofs.WireKeeping.CountsKept.{ends_keep_counts, no_port, agree}

module _ (p : Setting) (held : Pools) (word : ℕ → ℕ) (c : WireContents) (seats : ℕ → Seat) (w : World) (x : Seat)
    (shows : ShowsWorld p held word c seats w) where
  -- on each way of the node at most the buffer waits, while it runs nothing
  rests : (v : Way) → programs_of p seats x.node ≡ Rests → IsWay p.layout.sizes v → pusher_of p.layout (MessageQueue v) ≡ x.node
      → is_counted_on w.state.fixed v ≡ true → is_over w.state (Some v) ≡ false
  rests v runs way mine counted =
      within (length (w.state.waiting v)) (buffer_on w.state.fixed v)
      (subst (λ n. n ≤ buffer_on w.state.fixed v) (sym (ap length (shows.ties.waiting v way counted)
      ∙ length-map (c.queues (MessageQueue v)).waiting (held v.sender)))
      (subst (λ n. length (c.queues (MessageQueue v)).waiting ≤ n) (shows.suits.buffer v way) (subst
      (PushingKnows (site_of p.layout (MessageQueue v)) word (c.queues (MessageQueue v)).waiting (c.queues (MessageQueue v)).hand)
      at_rest (shows.words.queues (MessageQueue v) way).1.push).1))
    where
      at_rest : pushing_in (MessageQueue v) (programs_of p seats (pusher_of p.layout (MessageQueue v))) ≡ pushing.AtRest
      at_rest = ap (λ k. pushing_in (MessageQueue v) (programs_of p seats k)) mine ∙ ap (pushing_in (MessageQueue v)) runs

      within : (a b : ℕ) → a ≤ b → nat_lt b a ≡ false
      within a b few = grind (arith)

  -- the machine's call may end with the same outcome
  may_end : (local : Local) (ending : Ending) → programs_of p seats x.node ≡ program_of p local → ending_at local ≡ Some ending
      → EndKnows p x w.state local
      → (d : Doing) × (doing_of p w.state.fixed held x.node local ≡ Some d)
      × (transitions.ends w.state d ≡ Some (outcome_of p held x.node ending))
  may_end (Ends e) ending runs is knows = (_, refl, ap (λ k. Some (outcome_of p held x.node k)) (some-is e ending is))
  may_end (SendEnds d None count) ending runs is knows = (_, refl, ap (λ k. Some (outcome_of p held x.node k)) (some-is _ ending is))
  may_end (SendEnds d (Some v) count) ending runs is knows =
      (_, refl, rw (rests v runs knows.0 knows.1 knows.2) (ap (λ k. Some (outcome_of p held x.node k)) (some-is _ ending is)))
  may_end local ending runs is knows = none-some ending is

  -- no end of a call changes a queue or a request state
  ties_after : (t : State) → Same w.state t → ((y : Way) → is_counted_on t.fixed y ≡ true → is_counted_on w.state.fixed y ≡ true)
      → Ties p.layout held c t
  ties_after t same counted = record {
    waiting = λ y way on. ap (λ (f : Way → List Message). f y) same.waiting ∙ shows.ties.waiting y way (counted y on);
    in_hand = λ y way on. ap (λ (f : Way → List ℕ). f y) same.in_hand ∙ shows.ties.in_hand y way (counted y on);
    returned = λ y way on. ap (λ (f : Way → List ℕ). f y) same.returned ∙ shows.ties.returned y way (counted y on);
  }

pub ends_are_beats : EndsAreBeats
ends_are_beats p held word c seats w n ending payload shows living is knows relies holds =
    let x : Seat = seats n in
    let here : x.node ≡ n = shows.node n in
    let has : Counts p x w.state held = shows.counts n living in
    let after : Counts p (closed p x (Some ending)) (machine.settled w.state x.node payload (outcome_of p held x.node ending)) held
    = ends_keep_counts p x w.state held payload ending has relies in
    let e : (d : Doing) × (doing_of p w.state.fixed held x.node x.local ≡ Some d)
    × (transitions.ends w.state d ≡ Some (outcome_of p held x.node ending))
    = may_end p held word c seats w x shows x.local ending (ap (λ k. program_of p (seats k).local) here) is knows in
    let same : Same w.state (machine.settled w.state x.node payload (outcome_of p held x.node ending))
    = settled_same w.state x.node payload (outcome_of p held x.node ending) has.on_wire in
    let frame : Frame w.state.fixed (machine.settled w.state x.node payload (outcome_of p held x.node ending)).fixed
    = settled_frame w.state x.node payload (outcome_of p held x.node ending) has.on_wire (no_port p held x.node ending) in (
      (
        subst (λ k. not_living w.state k ≡ None) (sym here) living,
        e.0,
        shows.doing n living ∙ e.1,
        outcome_of p held x.node ending,
        e.2,
        holds,
        replies_are_the_machines p x w.state held ending has,
        refl,
      ),
      after,
      (
        subst (λ k. (over w x.node payload (outcome_of p held x.node ending)).doing k ≡ None)
            (sym (agree p x w.state held payload has ending).0) (put_at-here w.doing x.node None),
        ties_after p held word c seats w x shows (machine.settled w.state x.node payload (outcome_of p held x.node ending)) same
            (counted_before w.state.fixed (machine.settled w.state x.node payload (outcome_of p held x.node ending)).fixed frame),
        λ y way. shows.states y way ∙ ap (λ (f : Way → RequestState). state_word (f y)) (sym same.request_state),
      ),
    )
