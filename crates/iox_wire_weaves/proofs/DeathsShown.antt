-- After a death the wire shows the run with that beat.
use Rattle.std.specs.Prelude.{find, not, option_map}
use Rattle.std.specs.Option.{option_map_or}
use Rattle.std.proofs.Common.{◌≡◌, ℕ, true, false, ◌==◌, List, [], ◌∷◌, ◌++◌, length, map, Option, Some, None, refl, ap, ap₂, sym, subst, ◌∙◌, eqb-true, inl, inr}
use Rattle.std.proofs.lemmas.Bool.{cases_Bool}
use Rattle.iox_model.specs.declared.reply.Refusal.TheVariants as refusals
use Rattle.iox_model.specs.Commands.{Refusal}
use Rattle.iox_model.specs.Joins.{not_living}
use Rattle.iox_model.specs.Maps.{has_number, refused_if}
use Rattle.iox_model.specs.Schedules.{Finished, events_of, replies_of}
use Rattle.iox_model.specs.Services.{dies, with_death}
use Rattle.iox_model.specs.States.{Node}
use Rattle.iox_model.specs.Weaves.{Dies, World}
use Rattle.iox_laws.proofs.WeaveLedger.Truths.{none-some}
use Rattle.iox_wire_nodes.specs.Seat.{Seat}
use Rattle.iox_wire_nodes.specs.Tables.{Setting}
use Rattle.iox_wire_nodes.specs.Aims.{IsAimed}
use Rattle.iox_wire_nodes.specs.WirePlan.{WirePlan}
use Rattle.iox_wire_nodes.specs.Nodes.{seat_in}
use Rattle.iox_wire_needs.specs.Openings.{opened_seat}
use Rattle.iox_wire_needs.specs.Runs.{GoesOnBy, Run, Said}
use Rattle.iox_wire_needs.specs.Stands.{Player}
use Rattle.iox_wire_needs.specs.WireStands.{WireStands}
use Rattle.iox_wire_needs.proofs.WireStands.{wires_stand_after_deaths}
use Rattle.iox_wire_weaves.specs.Laws.{DeathsShow, Replaces}
use Rattle.iox_wire_weaves.specs.Replies.{finished_within, most_words}
use Rattle.iox_wire_weaves.specs.Wires.{KeepsItsCall, Shows, WireData, WireNode, living_refusal, node_at, players_of, refusal_in, seat_of}
use Rattle.iox_wire_weaves.specs.PortCounts.{TellsCounts}
use Rattle.iox_wire_weaves.proofs.EventsTold.{no_events}
use Rattle.iox_wire_weaves.proofs.Lookups.{fun_ext, living_by, same_setting, seat_there}
use Rattle.iox_wire_weaves.proofs.RepliesTold.{begin_replies, death_keeps_others, death_keeps_own}
use Rattle.iox_wire_weaves.proofs.PortsElsewhere.{same_world, tells_same, then_same}

-- ---- who lives in the machine

abbrev status : ℕ → List Node → Option Refusal
status k ms = option_map_or (λ (m : Node). refused_if (not m.alive) refusals.NodeIsDead) (find (λ (m : Node). m.number == k) ms) (Some refusals.UnknownNode)

others_live : (n k : ℕ) → (k == n) ≡ false → (ms : List Node) → status k (map (dies n) ms) ≡ status k ms
others_live n k other [] = refl
others_live n k other (m ∷ ms) = elim (cases_Bool (m.number == k)) [
  | inl here ↦ (
      let apart : (m.number == n) ≡ false = ap (λ i. i == n) (eqb-true m.number k here) ∙ other in
      rw (apart, here) refl
      )
  | inr elsewhere ↦ elim (cases_Bool (m.number == n)) [
    | inl there ↦ rw (there, elsewhere) (others_live n k other ms)
    | inr apart ↦ rw (apart, elsewhere) (others_live n k other ms)
  ]
]

died : (n : ℕ) (ms : List Node) → status n ms ≡ None → status n (map (dies n) ms) ≡ Some refusals.NodeIsDead
died n [] lives = absurd (none-some refusals.UnknownNode (sym lives))
died n (m ∷ ms) lives = elim (cases_Bool (m.number == n)) [
  | inl here ↦ rw (here, here) refl
  | inr elsewhere ↦ rw (elsewhere, elsewhere) (died n ms (rw elsewhere at lives))
]

-- ---- the wire

module _ (p : Setting) (old new : WireData) (r : Run) (n : ℕ) (x : WireNode) (shows : Shows p old r) (alive : living_refusal old.nodes n ≡ None)
    (puts : Replaces old.nodes n x (record x { alive = false; died = Some (length old.events) }) new.nodes) (plan : new.plan ≡ old.plan) (terms : new.terms ≡ old.terms) (words : new.words ≡ old.words)
    (replies : new.replies ≡ old.replies) (same_events : new.events ≡ old.events) where
  abbrev Dead : WireNode
  Dead = record x { alive = false; died = Some (length old.events) }

  abbrev u : World
  u = record (r.last) { state = with_death r.last.state n }

  lives : not_living r.last.state n ≡ None
  lives = shows.living n ∙ ap (option_map refusal_in) alive

  goes : (next : Run) × GoesOnBy r (Dies n) next × (next.last ≡ u) × WireStands p old.words (players_of p old.nodes r) next
  goes = wires_stand_after_deaths p old.words (players_of p old.nodes r) r n u shows.stands (lives, refl)

  abbrev after : Run
  after = goes.0

  seats_agree : (m : ℕ) → seat_of p new.nodes m ≡ seat_of p old.nodes m
  seats_agree m = elim (cases_Bool (m == n)) [
    | inl same ↦ (
        let e : m ≡ n = eqb-true m n same in
        ap (seat_of p new.nodes) e ∙ seat_there p new.nodes n Dead puts.here
        ∙ sym (seat_there p old.nodes n x puts.before) ∙ sym (ap (seat_of p old.nodes) e)
        )
    | inr other ↦ ap (λ o. option_map_or (λ (z : WireNode). seat_in z.node) o (opened_seat p m)) (puts.others m other)
  ]

  players_agree : (m : ℕ) → players_of p old.nodes r m ≡ players_of p new.nodes after m
  players_agree m =
      ap₂ (λ (s : Seat) (h : List Said). record { seat = s; said = h }) (sym (seats_agree m)) (sym (goes.3.stands.histories m))

  stands_now : WireStands p new.words (players_of p new.nodes after) after
  stands_now =
      subst (λ ws. WireStands p ws (players_of p new.nodes after) after) (sym words)
      (subst (λ (f : ℕ → Player). WireStands p old.words f after) (fun_ext players_agree) goes.3)

  machine_then : (m : ℕ) → not_living after.last.state m ≡ not_living u.state m
  machine_then m = ap (λ (v : World). not_living v.state m) goes.2

  living_then : (m : ℕ) → not_living after.last.state m ≡ option_map refusal_in (living_refusal new.nodes m)
  living_then m = elim (cases_Bool (m == n)) [
    | inl same ↦ (
        let e : m ≡ n = eqb-true m n same in
        machine_then m ∙ ap (not_living u.state) e ∙ died n r.last.state.members.nodes lives
        ∙ sym (ap (option_map refusal_in) (living_by new.nodes n (Some Dead) puts.here))
        ∙ sym (ap (λ k. option_map refusal_in (living_refusal new.nodes k)) e)
        )
    | inr other ↦ (
        machine_then m ∙ others_live n m other r.last.state.members.nodes ∙ shows.living m
        ∙ sym (ap (option_map refusal_in) (living_by new.nodes m (node_at m old.nodes) (puts.others m other)))
        )
  ]

  aimed_then : (m : ℕ) (z : WireNode) → node_at m new.nodes ≡ Some z → IsAimed p z.node
  aimed_then m z at = elim (cases_Bool (m == n)) [
    | inl same ↦ (
        let e : Some Dead ≡ Some z = sym puts.here ∙ sym (ap (λ k. node_at k new.nodes) (eqb-true m n same)) ∙ at in
        subst (λ (v : WireNode). IsAimed p v.node) (ap (λ o. option_map_or (λ v. v) o z) e) (shows.aimed n x puts.before)
        )
    | inr other ↦ shows.aimed m z (sym (puts.others m other) ∙ at)
  ]

  replies_then : new.replies ≡ map (finished_within (most_words new.plan)) (replies_of after.beats)
  replies_then =
      replies ∙ shows.replies
      ∙ ap₂ (λ (q : WirePlan) (fs : List Finished). map (finished_within (most_words q)) fs) (sym plan)
      (sym (begin_replies r.beats (Dies n) (λ e u. refl)) ∙ ap replies_of (sym goes.1.beats))

  calls_then : (m : ℕ) (z : WireNode) → node_at m new.nodes ≡ Some z → KeepsItsCall (most_words new.plan) after.beats m z
  calls_then m z at =
      subst (λ (q : WirePlan). KeepsItsCall (most_words q) after.beats m z) (sym plan)
      (subst (λ bs. KeepsItsCall (most_words old.plan) bs m z) (sym goes.1.beats) (elim (cases_Bool (m == n)) [
        | inl same ↦ (
            let e : m ≡ n = eqb-true m n same in
            let is : Some Dead ≡ Some z = sym puts.here ∙ sym (ap (λ k. node_at k new.nodes) e) ∙ at in
            subst (λ (v : WireNode). KeepsItsCall (most_words old.plan) (r.beats ++ Dies n ∷ []) m v) (ap (λ o. option_map_or (λ v. v) o z) is)
            (subst (λ k. KeepsItsCall (most_words old.plan) (r.beats ++ Dies n ∷ []) k Dead) (sym e)
            (death_keeps_own (most_words old.plan) n r.beats x old.events (shows.calls n x puts.before) shows.events))
            )
        | inr other ↦ death_keeps_others (most_words old.plan) n r.beats m z other (shows.calls m z (sym (puts.others m other) ∙ at))
      ]))

  counts_then : (port : ℕ) → has_number port p.layout.sizes.ports ≡ true → TellsCounts after.last port (seat_of p new.nodes (p.layout.owner port))
  counts_then port has =
      tells_same r.last after.last port (seat_of p old.nodes (p.layout.owner port)) (seat_of p new.nodes (p.layout.owner port)) (seats_agree (p.layout.owner port))
      (then_same r.last u after.last port (record { kept = refl; outstanding = λ y from. refl }) (same_world u after.last port goes.2)) (shows.counts port has)

  shows_then : Shows p new after
  shows_then = record {
    setting = same_setting p old new plan terms shows.setting;
    stands = stands_now;
    living = living_then;
    aimed = aimed_then;
    ports = ap (λ (v : World). v.state.fixed.ports) goes.2 ∙ shows.ports;
    counts = counts_then;
    calls = calls_then;
    replies = replies_then;
    events = same_events ∙ shows.events ∙ sym (no_events r.beats (Dies n) refl) ∙ ap events_of (sym goes.1.beats);
  }

pub deaths_show : DeathsShow
deaths_show p old new r n x shows alive puts plan terms words replies same_events = (
  (goes p old new r n x shows alive puts plan terms words replies same_events).0,
  (goes p old new r n x shows alive puts plan terms words replies same_events).1,
  shows_then p old new r n x shows alive puts plan terms words replies same_events,
)
