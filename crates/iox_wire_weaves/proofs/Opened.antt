-- A wire that opens shows a run without a beat.
use Rattle.std.specs.Prelude.{not, option_map, is_some, replicate, if◌then◌else◌}
use Rattle.std.specs.Option.{option_map_or}
use Rattle.std.proofs.Common.{◌≡◌, ℕ, true, List, [], map, Option, Some, None, refl, ap, ap₂, sym, subst, ◌∙◌}
use Rattle.iox_model.specs.declared.reply.Refusal.TheVariants as refusals
use Rattle.iox_model.specs.Joins.{not_living}
use Rattle.iox_model.specs.Maps.{has_number, refused_if}
use Rattle.iox_model.specs.Schedules.{events_of, replies_of}
use Rattle.iox_model.specs.States.{State}
use Rattle.iox_model.specs.WireCalls.{opened}
use Rattle.iox_model.specs.Weaves.{World, at_work}
use Rattle.iox_word_map.specs.WordMaps.{total_words}
use Rattle.iox_wire_nodes.specs.WirePlan.{WirePlan}
use Rattle.iox_wire_nodes.specs.Plans.{IsPlan}
use Rattle.iox_wire_nodes.specs.Programs.{WireLayout}
use Rattle.iox_wire_nodes.specs.Terms.{IsSettingWith}
use Rattle.iox_wire_nodes.specs.WireTerms.{WireTerms}
use Rattle.iox_wire_nodes.specs.Local.{Local}
use Rattle.iox_wire_nodes.specs.Local.TheVariants.{Idle}
use Rattle.iox_wire_nodes.specs.Seat.{Seat}
use Rattle.iox_wire_nodes.specs.Tables.{Setting}
use Rattle.iox_wire_nodes.specs.SeatsAims as seats
use Rattle.iox_wire_nodes.specs.Aims.{AreAimed, IsAimed}
use Rattle.iox_wire_nodes.specs.declared.call_at.CallAt.{CallAt}
use Rattle.iox_wire_nodes.specs.declared.call_at.CallAt.TheVariants.{Seats}
use Rattle.iox_wire_nodes.specs.Nodes.{NodeView, seat_at, seat_in}
use Rattle.iox_wire_needs.specs.Openings.{OverflowsWithRoom, opened_seat}
use Rattle.iox_wire_needs.specs.Runs.{Run, Said, history}
use Rattle.iox_wire_needs.specs.Stands.{Player}
use Rattle.iox_wire_needs.specs.WireStands.{WireStands}
use Rattle.iox_wire_needs.proofs.WireStands.{opened_wires_stand}
use Rattle.iox_wire_weaves.specs.declared.refusal.WireRefusal.TheVariants.{NodeIsDead}
use Rattle.iox_wire_weaves.specs.Laws.{IsNewWire, WiresOpen}
use Rattle.iox_wire_weaves.specs.Replies.{died_after, finished_within, most_words, under_way, under_way_within}
use Rattle.iox_wire_weaves.specs.Wires.{WireOpensOn, Shows, WireData, WireNode, living_refusal, node_at, players_of, refusal_in, seat_of}
use Rattle.iox_wire_weaves.specs.PortCounts.{TellsCounts}
use Rattle.iox_wire_weaves.proofs.FreshDesks.{opened_tells}
use Rattle.iox_wire_weaves.proofs.Lookups.{fun_ext, living_by}

-- a node at rest knows of no place
idle_aims : (p : Setting) (n : ℕ) (k : NodeView) → seat_in k ≡ opened_seat p n → k.at ≡ Seats → IsAimed p k
idle_aims p n k same at =
    let own : k.seat.seat ≡ opened_seat p n = sym (ap (λ (c : CallAt). seat_at c k) at) ∙ same in
    let rests : k.seat.seat.local ≡ Idle = ap (λ (x : Seat). x.local) own in
    subst (λ (c : CallAt). AreAimed p c k) (sym at) (subst (λ (l : Local). seats.AreAimed p l k.seat) (sym rests) tt)

module _ (plan : WirePlan) (terms : WireTerms) (nodes : List ℕ) (p : Setting) (s : State) (wire : WireData) (is : IsPlan plan) (roomy : OverflowsWithRoom plan) (opens : WireOpensOn plan terms nodes p s)
    (fresh : IsNewWire p plan terms nodes wire) where
  abbrev o : (r : Run) × (r.first ≡ at_work (opened s)) × (r.beats ≡ []) × (r.last ≡ at_work (opened s))
      × WireStands p (replicate (total_words p.layout.sizes) 0) (λ n. record { seat = opened_seat p n; said = [] }) r
  o = opened_wires_stand plan p s is roomy opens.agrees opens.reached opens.allowed

  seat_is : (n : ℕ) (u : Option WireNode) → node_at n wire.nodes ≡ u → option_map_or (λ (x : WireNode). seat_in x.node) u (opened_seat p n) ≡ opened_seat p n
  seat_is n None at = refl
  seat_is n (Some x) at = (fresh.seats n x at).0

  players_agree : (n : ℕ) → record { seat = opened_seat p n; said = [] } ≡ players_of p wire.nodes o.0 n
  players_agree n =
      ap₂ (λ (x : Seat) (h : List Said). record { seat = x; said = h }) (sym (seat_is n (node_at n wire.nodes) refl)) (ap (history n) (sym o.2))

  words_are : replicate (total_words p.layout.sizes) 0 ≡ wire.words
  words_are = ap (λ (l : WireLayout). replicate (total_words l.sizes) 0) opens.agrees.layout ∙ sym fresh.words

  stands_now : WireStands p wire.words (players_of p wire.nodes o.0) o.0
  stands_now =
      subst (λ ws. WireStands p ws (players_of p wire.nodes o.0) o.0) words_are
      (subst (λ (f : ℕ → Player). WireStands p (replicate (total_words p.layout.sizes) 0) f o.0) (fun_ext players_agree) o.4)

  lives : (n : ℕ) (u : Option WireNode) → node_at n wire.nodes ≡ u
      → (if has_number n nodes then None else Some refusals.UnknownNode) ≡ option_map refusal_in (living_refusal wire.nodes n)
  lives n None at =
      ap (λ b. if b then None else Some refusals.UnknownNode) (sym (fresh.nodes_are n) ∙ ap is_some at)
      ∙ sym (ap (option_map refusal_in) (living_by wire.nodes n None at))
  lives n (Some x) at =
      ap (λ b. if b then None else Some refusals.UnknownNode) (sym (fresh.nodes_are n) ∙ ap is_some at)
      ∙ sym (ap (option_map refusal_in) (living_by wire.nodes n (Some x) at ∙ ap (λ b. refused_if (not b) NodeIsDead) (fresh.seats n x at).1))

  living_now : (n : ℕ) → not_living o.0.last.state n ≡ option_map refusal_in (living_refusal wire.nodes n)
  living_now n = ap (λ (w : World). not_living w.state n) o.3 ∙ opens.living n ∙ lives n (node_at n wire.nodes) refl

  counts_now : (port : ℕ) → has_number port p.layout.sizes.ports ≡ true → TellsCounts o.0.last port (seat_of p wire.nodes (p.layout.owner port))
  counts_now port has =
      let owner : ℕ = p.layout.owner port in
      subst (λ (w : World). TellsCounts w port (seat_of p wire.nodes owner)) (sym o.3)
      (subst (TellsCounts (at_work (opened s)) port) (sym (seat_is owner (node_at owner wire.nodes) refl)) (opened_tells p s owner port has refl))

  shows : Shows p wire o.0
  shows = record {
    setting = subst (λ q. IsSettingWith q wire.terms p) (sym fresh.plan_is) (subst (λ t. IsSettingWith plan t p) (sym fresh.terms_are) opens.told);
    stands = stands_now;
    living = living_now;
    aimed = λ n x at. idle_aims p n x.node (fresh.seats n x at).0 (fresh.seats n x at).2;
    ports = ap (λ (w : World). w.state.fixed.ports) o.3 ∙ opens.agrees.ports;
    counts = counts_now;
    calls = λ n x at. record {
      room = (fresh.seats n x at).4 ∙ ap most_words (sym fresh.plan_is);
      call = (fresh.seats n x at).3 ∙ ap (λ bs. option_map (under_way_within (most_words wire.plan)) (under_way bs n)) (sym o.2);
      died = (fresh.seats n x at).5 ∙ ap (λ bs. died_after bs n) (sym o.2);
    };
    replies = fresh.replies ∙ ap (λ bs. map (finished_within (most_words wire.plan)) (replies_of bs)) (sym o.2);
    events = fresh.events ∙ ap events_of (sym o.2);
  }

pub wires_open : WiresOpen
wires_open plan terms nodes p s wire is roomy opens fresh =
    let o = opened_wires_stand plan p s is roomy opens.agrees opens.reached opens.allowed in (
      o.0,
      o.1,
      o.2,
      o.3,
      shows plan terms nodes p s wire is roomy opens fresh,
    )
