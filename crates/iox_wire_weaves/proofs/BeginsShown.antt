-- A call is refused for the machine's reason, and after its begin the wire shows the run with that beat.
use Rattle.std.specs.Prelude.{is_some, option_map, if◌then◌else◌}
use Rattle.std.specs.Option.{option_map_or}
use Rattle.std.proofs.Common.{◌≡◌, ℕ, ◌<◌, Bool, true, false, ◌==◌, List, [], ◌∷◌, ◌++◌, length, map, Option, Some, None, refl, ap, ap₂, sym, subst, ◌∙◌, eqb-true, inl, inr}
use Rattle.std.proofs.lemmas.Bool.{cases_Bool}
use Rattle.iox_model.specs.declared.call.WireCall.TheVariants.{Forget, Port}
use Rattle.iox_model.specs.declared.reply.Refusal.TheVariants as refusals
use Rattle.iox_model.specs.Commands.{Call, WireCall}
use Rattle.iox_model.specs.Joins.{not_living}
use Rattle.iox_model.specs.Maps.{has_number, or_else, put_at, refused_if}
use Rattle.iox_model.specs.Schedules.{Finished, events_of, replies_of}
use Rattle.iox_model.specs.WireCalls.{in_wire_words}
use Rattle.iox_model.specs.Weaves.{Begins, World, begin_refusal, miscalled}
use Rattle.iox_steps.specs.Sites.{last_position}
use Rattle.iox_wire_nodes.specs.Aims.{IsAimed}
use Rattle.iox_wire_nodes.specs.Begins.{begun_at}
use Rattle.iox_wire_nodes.specs.WirePlan.{WirePlan}
use Rattle.iox_wire_nodes.specs.LocalsBegins.{begin, refusal_at}
use Rattle.iox_wire_nodes.specs.Nodes.{seat_in}
use Rattle.iox_wire_nodes.specs.Seat.{Seat}
use Rattle.iox_wire_nodes.specs.Tables.{Setting}
use Rattle.iox_wire_needs.specs.Readiness.{choice_for}
use Rattle.iox_wire_needs.specs.Openings.{opened_seat}
use Rattle.iox_wire_needs.specs.MessageBegins.{WordsAreWhole}
use Rattle.iox_wire_needs.specs.Runs.{Asked, GoesOnBy, Run, Said, history}
use Rattle.iox_wire_needs.specs.Stands.{Player}
use Rattle.iox_wire_needs.specs.WireStands.{WireStands}
use Rattle.iox_wire_needs.specs.Places.{InPools}
use Rattle.iox_wire_needs.proofs.Places.{places_are_in_pools}
use Rattle.iox_wire_needs.proofs.OwnBegins.{begin_keeps, refused_by_tables}
use Rattle.iox_wire_needs.proofs.BeginWhole.{begun_wires_stand}
use Rattle.iox_wire_weaves.specs.Asking.{BeginsCall, call_refusal}
use Rattle.iox_wire_weaves.specs.declared.refusal.WireRefusal.{WireRefusal}
use Rattle.iox_wire_weaves.specs.Laws.{BeginsShow, LivesAs, RefusalsAreShown, Replaces}
use Rattle.iox_wire_weaves.specs.Replies.{call_within, finished_within, most_words}
use Rattle.iox_wire_weaves.specs.Wires.{KeepsItsCall, Shows, WireData, WireNode, living_refusal, node_at, players_of, refusal_in, seat_of}
use Rattle.iox_wire_weaves.specs.PortCounts.{TellsCounts}
use Rattle.iox_wire_weaves.proofs.EventsTold.{no_events}
use Rattle.iox_wire_weaves.proofs.LivingDesks as desks
use Rattle.iox_wire_weaves.proofs.Lookups.{first_none, fun_ext, same_living, same_setting, seat_there}
use Rattle.iox_wire_weaves.proofs.RepliesTold.{begin_keeps_others, begin_keeps_own, begin_replies}
use Rattle.iox_wire_weaves.proofs.PortsElsewhere.{beat_leaves, tells_same}

-- ---- refusals

module _ (p : Setting) (wire : WireData) (r : Run) (n : ℕ) (call : Call) (shows : Shows p wire r) where
  abbrev own : Seat
  own = seat_of p wire.nodes n

  by_tables : not_living r.last.state n ≡ None → begin_refusal r.last n (Port call) ≡ refusal_at p own (Port call)
  by_tables lives = refused_by_tables p wire.words (players_of p wire.nodes r) r n call shows.stands lives

  by_node : (o : Option WireRefusal) → living_refusal wire.nodes n ≡ o → begin_refusal r.last n (Port call) ≡ call_refusal p wire n call
  by_node None at =
      by_tables (shows.living n ∙ ap (option_map refusal_in) at)
      ∙ sym (ap (λ o. or_else (option_map refusal_in o) (refusal_at p own (Port call))) at)
  by_node (Some refusal) at =
      ap (λ o. or_else o (or_else (refused_if (is_some (r.last.doing n)) refusals.Busy) (miscalled r.last.state n (Port call)))) (shows.living n ∙ ap (option_map refusal_in) at)
      ∙ sym (ap (λ o. or_else (option_map refusal_in o) (refusal_at p own (Port call))) at)

pub refusals_are_shown : RefusalsAreShown
refusals_are_shown p wire r n call shows = by_node p wire r n call shows (living_refusal wire.nodes n) refl

-- ---- the begin

module _ (p : Setting) (old new : WireData) (r : Run) (n : ℕ) (x y : WireNode) (call : WireCall) (shows : Shows p old r)
    (free : begin_refusal r.last n call ≡ None) (whole : WordsAreWhole p.limits call) (few : (seat_in x.node).accesses < last_position)
    (puts : Replaces old.nodes n x y new.nodes) (lives_as : LivesAs x y) (begins : seat_in y.node ≡ begin p (seat_in x.node) call)
    (kept : y.node.at ≡ begun_at x.node.seat.seat.table call) (aimed : InPools p (seat_in y.node).local → IsAimed p y.node)
    (plan : new.plan ≡ old.plan) (terms : new.terms ≡ old.terms) (words : new.words ≡ old.words) (replies : new.replies ≡ old.replies)
    (same_events : new.events ≡ old.events)
    (call_is : y.call ≡ Some (record { call = call_within x.longest (in_wire_words call); begun = length old.events })) where
  abbrev seat : Seat
  seat = seat_of p old.nodes n

  here : seat ≡ seat_in x.node
  here = seat_there p old.nodes n x puts.before

  abbrev player : Player
  player = record { seat = begin p seat call; said = history n r.beats ++ Asked call ∷ [] }

  -- the node lives, since the machine does not refuse its call
  lives : not_living r.last.state n ≡ None
  lives = first_none (not_living r.last.state n) _ free

  few_there : seat.accesses < last_position
  few_there = subst (λ k. k < last_position) (sym (ap (λ (s : Seat). s.accesses) here)) few

  -- a call of a port or a handle begins by the node's own data, and a Forget by who is dead
  goes_by : (c : WireCall) → begin_refusal r.last n c ≡ None → WordsAreWhole p.limits c
      → (next : Run) × GoesOnBy r (Begins n c (choice_for p seat c)) next
      × WireStands p old.words (put_at (players_of p old.nodes r) n (record { seat = begin p seat c; said = history n r.beats ++ Asked c ∷ [] })) next
  goes_by (Port c) may words_whole =
      begin_keeps p old.words (players_of p old.nodes r) r n c shows.stands lives
      (sym (by_tables p old r n c shows lives) ∙ may) few_there words_whole
  goes_by (Forget dead) may words_whole =
      begun_wires_stand p old.words (players_of p old.nodes r) r n (Forget dead) shows.stands few_there words_whole may

  goes : (next : Run) × GoesOnBy r (Begins n call (choice_for p seat call)) next
      × WireStands p old.words (put_at (players_of p old.nodes r) n player) next
  goes = goes_by call free whole

  abbrev after : Run
  after = goes.0

  there : seat_of p new.nodes n ≡ begin p seat call
  there = seat_there p new.nodes n y puts.here ∙ begins ∙ ap (λ s. begin p s call) (sym here)

  seats_agree : (m : ℕ) (b : Bool) → (m == n) ≡ b → seat_of p new.nodes m ≡ (if b then player else players_of p old.nodes r m).seat
  seats_agree m true same = ap (seat_of p new.nodes) (eqb-true m n same) ∙ there
  seats_agree m false other = ap (λ o. option_map_or (λ (z : WireNode). seat_in z.node) o (opened_seat p m)) (puts.others m other)

  players_agree : (m : ℕ) → put_at (players_of p old.nodes r) n player m ≡ players_of p new.nodes after m
  players_agree m =
      ap₂ (λ (s : Seat) (h : List Said). record { seat = s; said = h }) (sym (seats_agree m (m == n) refl)) (sym (goes.2.stands.histories m))

  stands_now : WireStands p new.words (players_of p new.nodes after) after
  stands_now =
      subst (λ ws. WireStands p ws (players_of p new.nodes after) after) (sym words)
      (subst (λ (f : ℕ → Player). WireStands p old.words f after) (fun_ext players_agree) goes.2)

  living_then : (m : ℕ) → not_living after.last.state m ≡ option_map refusal_in (living_refusal new.nodes m)
  living_then m =
      ap (λ (v : World). not_living v.state m) goes.1.beat.2
      ∙ shows.living m ∙ ap (option_map refusal_in) (sym (same_living old.nodes n x y new.nodes puts lives_as.alive m))

  in_pools : InPools p (seat_in y.node).local
  in_pools =
      subst (λ (s : Seat). InPools p s.local) (seat_there p new.nodes n y puts.here)
      (places_are_in_pools p new.words (players_of p new.nodes after) after n stands_now
      (living_then n ∙ ap (option_map refusal_in) (same_living old.nodes n x y new.nodes puts lives_as.alive n) ∙ sym (shows.living n) ∙ lives))

  aimed_then : (m : ℕ) (z : WireNode) → node_at m new.nodes ≡ Some z → IsAimed p z.node
  aimed_then m z at = elim (cases_Bool (m == n)) [
    | inl same ↦ (
        let e : Some y ≡ Some z = sym puts.here ∙ sym (ap (λ k. node_at k new.nodes) (eqb-true m n same)) ∙ at in
        subst (λ (v : WireNode). IsAimed p v.node) (ap (λ o. option_map_or (λ v. v) o z) e) (aimed in_pools)
        )
    | inr other ↦ shows.aimed m z (sym (puts.others m other) ∙ at)
  ]

  replies_then : new.replies ≡ map (finished_within (most_words new.plan)) (replies_of after.beats)
  replies_then =
      replies ∙ shows.replies
      ∙ ap₂ (λ (q : WirePlan) (fs : List Finished). map (finished_within (most_words q)) fs) (sym plan)
      (sym (begin_replies r.beats (Begins n call (choice_for p seat call)) (λ e u. refl)) ∙ ap replies_of (sym goes.1.beats))

  calls_then : (m : ℕ) (z : WireNode) → node_at m new.nodes ≡ Some z → KeepsItsCall (most_words new.plan) after.beats m z
  calls_then m z at =
      subst (λ (q : WirePlan). KeepsItsCall (most_words q) after.beats m z) (sym plan)
      (subst (λ bs. KeepsItsCall (most_words old.plan) bs m z) (sym goes.1.beats) (elim (cases_Bool (m == n)) [
        | inl same ↦ (
            let e : m ≡ n = eqb-true m n same in
            let is : Some y ≡ Some z = sym puts.here ∙ sym (ap (λ k. node_at k new.nodes) e) ∙ at in
            subst (λ (v : WireNode). KeepsItsCall (most_words old.plan) (r.beats ++ Begins n call (choice_for p seat call) ∷ []) m v) (ap (λ o. option_map_or (λ v. v) o z) is)
            (subst (λ k. KeepsItsCall (most_words old.plan) (r.beats ++ Begins n call (choice_for p seat call) ∷ []) k y) (sym e)
            (begin_keeps_own (most_words old.plan) n r.beats call (choice_for p seat call) x y old.events (shows.calls n x puts.before) shows.events lives_as call_is))
            )
        | inr other ↦ begin_keeps_others (most_words old.plan) n r.beats call (choice_for p seat call) m z other (shows.calls m z (sym (puts.others m other) ∙ at))
      ]))

  lives_then : not_living after.last.state n ≡ None
  lives_then = living_then n ∙ ap (option_map refusal_in) (same_living old.nodes n x y new.nodes puts lives_as.alive n) ∙ sym (shows.living n) ∙ lives

  counts_then : (port : ℕ) → has_number port p.layout.sizes.ports ≡ true → TellsCounts after.last port (seat_of p new.nodes (p.layout.owner port))
  counts_then port has = elim (cases_Bool (p.layout.owner port == n)) [
    | inl same ↦ (
        let e : p.layout.owner port ≡ n = eqb-true (p.layout.owner port) n same in
        subst (λ m. TellsCounts after.last port (seat_of p new.nodes m)) (sym e)
        (desks.tells p new.words (players_of p new.nodes after) after n stands_now lives_then port has e)
        )
    | inr other ↦ (
        tells_same r.last after.last port (seat_of p old.nodes (p.layout.owner port)) (seat_of p new.nodes (p.layout.owner port))
        (ap (λ o. option_map_or (λ (z : WireNode). seat_in z.node) o (opened_seat p (p.layout.owner port))) (puts.others (p.layout.owner port) other))
        (beat_leaves r.last after.last (Begins n call (choice_for p seat call)) (p.layout.owner port) port shows.stands.stands.shows.reachable goes.1.beat other
        (sym (shows.stands.stands.owners port))) (shows.counts port has)
        )
  ]

  shows_then : Shows p new after
  shows_then = record {
    setting = same_setting p old new plan terms shows.setting;
    stands = stands_now;
    living = living_then;
    aimed = aimed_then;
    ports = ap (λ (v : World). v.state.fixed.ports) goes.1.beat.2 ∙ shows.ports;
    counts = counts_then;
    calls = calls_then;
    replies = replies_then;
    events = same_events ∙ shows.events ∙ sym (no_events r.beats (Begins n call (choice_for p seat call)) refl) ∙ ap events_of (sym goes.1.beats);
  }

  begins_call : BeginsCall p old n call new
  begins_call = record {
    setting = record { plan = plan; terms = terms };
    node = there;
    kept = ap (option_map (λ (z : WireNode). z.node.at)) puts.here ∙ ap (λ a. Some a) kept
        ∙ sym (ap (option_map (λ (z : WireNode). begun_at z.node.seat.seat.table call)) puts.before);
    others = puts.others;
    words = words;
    replies = replies;
    events = same_events;
  }

pub begins_show : BeginsShow
begins_show p old new r n x y call shows free whole few puts lives_as begins kept aimed plan terms words replies same_events call_is = (
  begins_call p old new r n x y call shows free whole few puts lives_as begins kept aimed plan terms words replies same_events call_is,
  choice_for p (seat_of p old.nodes n) call,
  (goes p old new r n x y call shows free whole few puts lives_as begins kept aimed plan terms words replies same_events call_is).0,
  (goes p old new r n x y call shows free whole few puts lives_as begins kept aimed plan terms words replies same_events call_is).1,
  shows_then p old new r n x y call shows free whole few puts lives_as begins kept aimed plan terms words replies same_events call_is,
)
