-- What the send of a response is told about its way is so on the wire.
use Rattle.std.proofs.Common.{◌≡◌, ℕ, ◌<◌, Bool, true, false, not, ◌&&◌, List, length, map, get_or, refl, ap, ap₂, sym, ◌∙◌}
use Rattle.std.specs.Prelude.{find, ◌==◌}
use Rattle.std.specs.Option.{option_map_or}
use Rattle.iox_model.specs.declared.kind.Role.{Role}
use Rattle.iox_model.specs.declared.kind.Role.TheVariants.{Client, Server}
use Rattle.iox_model.specs.declared.way.Way.{Way}
use Rattle.iox_model.specs.Maps.{has_number}
use Rattle.iox_model.specs.Peers.{others}
use Rattle.iox_model.specs.Requests.{fails_at}
use Rattle.iox_model.specs.Settings.{overflow_of, same_role}
use Rattle.iox_model.specs.States.{Port}
use Rattle.iox_word_map.specs.WordMaps.{MessageQueue, ReturningQueue}
use Rattle.iox_wire_messages.specs.PlanPort.{PlanPort}
use Rattle.iox_wire_messages.specs.WirePlan.{WirePlan}
use Rattle.iox_wire_messages.specs.WayIndex.TheVariants.{Responses}
use Rattle.iox_wire_messages.specs.Plans.{IsLaneAt, IsPlan, IsPortAt, layout_of, number_at, planned_overflow, port_numbers, way_at}
use Rattle.iox_wire_messages.proofs.PairLemmas.{client_of_lane, index_there}
use Rattle.iox_wire_messages.proofs.PlanLemmas.{number_is, there}
use Rattle.iox_wire_messages.proofs.PortLemmas.{named_at, unnamed_at}
use Rattle.iox_wire_messages.proofs.WayLemmas.{sender_role}
use Rattle.iox_wire_messages.specs.Programs.{WireLayout, site_of, state_place}
use Rattle.iox_wire_messages.specs.Seat.{Seat}
use Rattle.iox_wire_messages.specs.Entry.{Entry}
use Rattle.iox_wire_messages.specs.Known.{known}
use Rattle.iox_wire_messages.specs.Tables.{Setting, state_in}
use Rattle.iox_wire_messages.specs.PlansOf.{IsSettingOf}
use Rattle.iox_wire_messages.proofs.Planned.{same_found}
use Rattle.iox_wire_copies.specs.ResponseTerms.{ResponseTerms}
use Rattle.iox_wire_copies.specs.Aims.{IsToldOf}
use Rattle.iox_wire_ways.specs.Visits.{is_other}
use Rattle.iox_wire_ways.proofs.ListLemmas.{others_are, visited}

-- the client is among those that the node did not forget exactly if its node is not forgotten
client_left : (plan : WirePlan) (forgot : List ℕ) (i : ℕ) (q : PlanPort) → IsPlan plan → IsPortAt plan Client i
    → has_number (number_at plan i) (visited (is_other Client forgot) plan.ports.items) ≡ not (has_number (get_or plan.ports.items i q).node forgot)
client_left plan forgot i q is at =
    ap (λ n. has_number n (visited (is_other Client forgot) plan.ports.items)) (number_is plan is.numbers i q below)
    ∙ by_case (has_number (get_or plan.ports.items i q).node forgot) refl
  where
    below : i < length plan.ports.items
    below = index_there PlanPort (λ p. p.role ≡ Client) plan.ports.items i at

    visits : (b : Bool) → has_number (get_or plan.ports.items i q).node forgot ≡ b → is_other Client forgot (get_or plan.ports.items i q) ≡ not b
    visits b is_so = ap₂ (λ (r : Role) (c : Bool). same_role r Client && not c) (there PlanPort (λ p. p.role ≡ Client) plan.ports.items i q at).1 is_so

    by_case : (b : Bool) → has_number (get_or plan.ports.items i q).node forgot ≡ b
        → has_number (get_or plan.ports.items i q).number (visited (is_other Client forgot) plan.ports.items) ≡ not (has_number (get_or plan.ports.items i q).node forgot)
    by_case true is_so =
        unnamed_at (is_other Client forgot) plan.ports.items i q is.numbers below (visits true is_so) ∙ ap not (sym is_so)
    by_case false is_so =
        named_at (is_other Client forgot) plan.ports.items i q below (visits false is_so) ∙ ap not (sym is_so)

pub told_is : (plan : WirePlan) (i j lane : ℕ) (q : PlanPort) (t : ResponseTerms) → IsPlan plan → IsLaneAt plan i lane → IsPortAt plan Server j
    → t.messages ≡ site_of (layout_of plan) (MessageQueue (way_at plan (Responses i j lane)))
    → t.returning ≡ site_of (layout_of plan) (ReturningQueue (way_at plan (Responses i j lane)))
    → t.state ≡ state_place (layout_of plan) (way_at plan (Responses i j lane))
    → t.overflow ≡ planned_overflow plan.limits Server → t.node ≡ (get_or plan.ports.items i q).node
    → (p : Setting) (loan : Entry) → IsSettingOf plan p → state_in loan ≡ way_at plan (Responses i j lane)
    → ((x : Seat) → fails_at (known p x) (way_at plan (Responses i j lane)) ≡ t.fails) → IsToldOf p loan t
told_is plan i j lane q t is l s messages returning state overflow node p loan setting way fails = record {
  messages =
      messages ∙ ap (λ (z : WireLayout). site_of z (MessageQueue (way_at plan (Responses i j lane)))) (sym setting.layout)
      ∙ ap (λ (w : Way). site_of p.layout (MessageQueue w)) (sym way);
  returning =
      returning ∙ ap (λ (z : WireLayout). site_of z (ReturningQueue (way_at plan (Responses i j lane)))) (sym setting.layout)
      ∙ ap (λ (w : Way). site_of p.layout (ReturningQueue w)) (sym way);
  state =
      state ∙ ap (λ (z : WireLayout). state_place z (way_at plan (Responses i j lane))) (sym setting.layout)
      ∙ ap (λ (w : Way). state_place p.layout w) (sym way);
  overflow = λ x.
      ap (λ (w : Way). overflow_of p.limits (option_map_or (λ (r : Port). r.role) (find (λ (r : Port). r.number == w.sender) (known p x).ports) Client)) way
      ∙ ap (λ (rs : List Port). overflow_of p.limits (option_map_or (λ (r : Port). r.role) (find (λ (r : Port). r.number == number_at plan j) rs) Client))
      (ap (λ (y : WireLayout). map p.port y.sizes.ports) setting.layout)
      ∙ ap (λ r. overflow_of p.limits r)
      (same_found (λ k. k.role) (λ r. r.role) Client (number_at plan j) (λ k r like. like.role) plan.ports.items (map p.port (port_numbers plan)) setting.is_for.ports
      ∙ sender_role plan is (Responses i j lane) (l, s))
      ∙ sym (setting.is_for.overflows Server) ∙ sym overflow;
  fails = λ x. ap (fails_at (known p x)) way ∙ fails x;
  node = λ x.
      ap (λ (w : Way). has_number w.receiver (others (known p x) x.node Client)) way
      ∙ ap (has_number (number_at plan i)) (sym (others_are plan p x Client x.node setting))
      ∙ client_left plan x.forgot i q is (client_of_lane plan i lane l)
      ∙ ap (λ n. not (has_number n x.forgot)) (sym node);
}
