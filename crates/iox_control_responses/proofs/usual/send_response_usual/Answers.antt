use Rattle.std.proofs.Common.{Some, ap, false, not, refl, subst, sym, true, ◌∙◌, ◌≡◌}
use Rattle.iox_lanes.specs.declared.wanted.Label.{Label}
use Rattle.iox_lanes.specs.Lanes.{IsSound, LaneState}
use Rattle.iox_model.specs.Messages.{response_way}
use Rattle.iox_model.specs.Requests.{fails_at}
use Rattle.iox_tables.specs.HubStates.Releases.{way_to_client}
use Rattle.iox_tables.specs.HubStates.States.{fixed_of}
use Rattle.iox_tables.specs.HubStates.Tables.{HubSettings}
use Rattle.iox_tables.specs.HubStates.Ways.{lane_on}
use Rattle.iox_hub_ports.specs.InPlace.{in_place}
use Rattle.iox_hub_ports.specs.Known.{is_from}
use Rattle.iox_control.specs.Controls.{ControlState, IsControl}
use Rattle.iox_control.specs.Entries.{handle_state}
use Rattle.iox_control.proofs.HeldLemmas.{handle_has_pool, handle_has_slot}
use Rattle.iox_control.proofs.InPlaceLemmas.{all_apart}
use Rattle.iox_control_responses.proofs.UsualWay.{in_order, is_whole, kind_there, left_so, none_out, pools_are, tidies}
use Rattle.iox_control_responses.proofs.usual.send_response_usual.Goals as goal

pub has_one_out-requires : goal.has_one_out-requires
has_one_out-requires c =
    handle_has_pool c.args.control.now.tables c.requires.order.order c.args.node c.args.number (handle_state c.args.entry) (sym c.requires.entry)

pub label_of-label-requires : goal.label_of-label-requires
label_of-label-requires c =
    handle_has_slot c.args.control.now.tables c.requires.order.order c.args.node c.args.number (handle_state c.args.entry) (sym c.requires.entry)

pub hand_over_alone-requires-clause-apart : goal.hand_over_alone-requires-clause-apart
hand_over_alone-requires-clause-apart c =
    all_apart c.find_near.new.control (subst IsControl (sym c.find_near.ensures.unchanged) c.requires.order)

pub hand_over_alone-requires-clause-none : goal.hand_over_alone-requires-clause-none
hand_over_alone-requires-clause-none c =
    none_out c.args.control.now c.args.node c.args.number c.requires.order c.requires.calls c.requires.response c.args.entry c.requires.entry false
    (ap (λ (s : HubSettings). not s.response_overflow) (sym c.settings.ensures) ∙ c.if-not-settings.false) (sym c.has_one_out.ensures ∙ c.if-not-has_one_out.false)
    (response_way c.args.entry.client c.label_of-label.result.lane c.args.entry.port)
    (ap (λ (l : Label). response_way c.args.entry.client l.lane c.args.entry.port) c.label_of-label.ensures)
    (subst (λ (d : ControlState). (l : LaneState) → lane_on d.tables.ports (response_way c.args.entry.client c.label_of-label.result.lane c.args.entry.port) ≡ Some l → IsSound l)
    c.find_near.ensures.unchanged c.lane_is_sound.ensures)
    c.in_ok-to.ensures.awaits c.find_near.new.control c.find_near.ensures.unchanged

pub hand_over_alone-requires-clause-kind : goal.hand_over_alone-requires-clause-kind
hand_over_alone-requires-clause-kind c =
    kind_there c.args.control.now c.args.node c.args.number c.requires.order c.requires.calls c.requires.response c.args.entry c.requires.entry false
    (ap (λ (s : HubSettings). not s.response_overflow) (sym c.settings.ensures) ∙ c.if-not-settings.false) (sym c.has_one_out.ensures ∙ c.if-not-has_one_out.false)
    (response_way c.args.entry.client c.label_of-label.result.lane c.args.entry.port)
    (ap (λ (l : Label). response_way c.args.entry.client l.lane c.args.entry.port) c.label_of-label.ensures)
    (subst (λ (d : ControlState). (l : LaneState) → lane_on d.tables.ports (response_way c.args.entry.client c.label_of-label.result.lane c.args.entry.port) ≡ Some l → IsSound l)
    c.find_near.ensures.unchanged c.lane_is_sound.ensures)
    c.in_ok-to.ensures.awaits c.find_near.new.control c.find_near.ensures.unchanged

pub hand_over_alone-requires-clause-from : goal.hand_over_alone-requires-clause-from
hand_over_alone-requires-clause-from c =
    subst (λ (d : ControlState). in_place (is_from c.in_ok-to.to.rank c.args.entry.port) false d.tables.ports c.in_ok-to.to.place ≡ true)
    (sym c.find_near.ensures.unchanged) c.in_ok-to.ensures.from

pub returns-clause-left : goal.returns-clause-left
returns-clause-left c fails =
    left_so c.args.control.now c.args.node c.args.number c.requires.order c.requires.calls c.requires.response c.args.entry c.requires.entry fails
    (ap (λ (s : HubSettings). not s.response_overflow) (sym c.settings.ensures) ∙ c.if-not-settings.false) (sym c.has_one_out.ensures ∙ c.if-not-has_one_out.false)
    (response_way c.args.entry.client c.label_of-label.result.lane c.args.entry.port)
    (ap (λ (l : Label). response_way c.args.entry.client l.lane c.args.entry.port) c.label_of-label.ensures)
    (subst (λ (d : ControlState). (l : LaneState) → lane_on d.tables.ports (response_way c.args.entry.client c.label_of-label.result.lane c.args.entry.port) ≡ Some l → IsSound l)
    c.find_near.ensures.unchanged c.lane_is_sound.ensures)
    c.in_ok-to.ensures.awaits c.find_near.new.control c.find_near.ensures.unchanged
    c.hand_over_alone.new.control c.hand_over_alone.ensures c.in_ok-to.ensures.held

pub returns-clause-pools : goal.returns-clause-pools
returns-clause-pools c =
    pools_are c.args.control.now c.args.node c.args.number c.requires.order c.requires.calls c.requires.response c.args.entry c.requires.entry false
    (ap (λ (s : HubSettings). not s.response_overflow) (sym c.settings.ensures) ∙ c.if-not-settings.false) (sym c.has_one_out.ensures ∙ c.if-not-has_one_out.false)
    (response_way c.args.entry.client c.label_of-label.result.lane c.args.entry.port)
    (ap (λ (l : Label). response_way c.args.entry.client l.lane c.args.entry.port) c.label_of-label.ensures)
    (subst (λ (d : ControlState). (l : LaneState) → lane_on d.tables.ports (response_way c.args.entry.client c.label_of-label.result.lane c.args.entry.port) ≡ Some l → IsSound l)
    c.find_near.ensures.unchanged c.lane_is_sound.ensures)
    c.in_ok-to.ensures.awaits c.find_near.new.control c.find_near.ensures.unchanged
    c.hand_over_alone.new.control c.hand_over_alone.ensures

pub returns-clause-order : goal.returns-clause-order
returns-clause-order c =
    in_order c.args.control.now c.args.node c.args.number c.requires.order c.requires.calls c.requires.response c.args.entry c.requires.entry false
    (ap (λ (s : HubSettings). not s.response_overflow) (sym c.settings.ensures) ∙ c.if-not-settings.false) (sym c.has_one_out.ensures ∙ c.if-not-has_one_out.false)
    (response_way c.args.entry.client c.label_of-label.result.lane c.args.entry.port)
    (ap (λ (l : Label). response_way c.args.entry.client l.lane c.args.entry.port) c.label_of-label.ensures)
    (subst (λ (d : ControlState). (l : LaneState) → lane_on d.tables.ports (response_way c.args.entry.client c.label_of-label.result.lane c.args.entry.port) ≡ Some l → IsSound l)
    c.find_near.ensures.unchanged c.lane_is_sound.ensures)
    c.in_ok-to.ensures.awaits c.find_near.new.control c.find_near.ensures.unchanged
    c.hand_over_alone.new.control c.hand_over_alone.ensures

pub returns-clause-tidy : goal.returns-clause-tidy
returns-clause-tidy c =
    tidies c.args.control.now c.args.node c.args.number c.requires.order c.requires.calls c.requires.response c.args.entry c.requires.entry false
    (ap (λ (s : HubSettings). not s.response_overflow) (sym c.settings.ensures) ∙ c.if-not-settings.false) (sym c.has_one_out.ensures ∙ c.if-not-has_one_out.false)
    (response_way c.args.entry.client c.label_of-label.result.lane c.args.entry.port)
    (ap (λ (l : Label). response_way c.args.entry.client l.lane c.args.entry.port) c.label_of-label.ensures)
    (subst (λ (d : ControlState). (l : LaneState) → lane_on d.tables.ports (response_way c.args.entry.client c.label_of-label.result.lane c.args.entry.port) ≡ Some l → IsSound l)
    c.find_near.ensures.unchanged c.lane_is_sound.ensures)
    c.in_ok-to.ensures.awaits c.find_near.new.control c.find_near.ensures.unchanged
    c.hand_over_alone.new.control c.hand_over_alone.ensures

pub returns-clause-whole : goal.returns-clause-whole
returns-clause-whole c x =
    is_whole c.args.control.now c.args.node c.args.number c.requires.order c.requires.calls c.requires.response c.args.entry c.requires.entry (fails_at (fixed_of x c.args.control.now.tables) (way_to_client c.args.control.now.tables (handle_state c.args.entry)))
    (ap (λ (s : HubSettings). not s.response_overflow) (sym c.settings.ensures) ∙ c.if-not-settings.false) (sym c.has_one_out.ensures ∙ c.if-not-has_one_out.false)
    (response_way c.args.entry.client c.label_of-label.result.lane c.args.entry.port)
    (ap (λ (l : Label). response_way c.args.entry.client l.lane c.args.entry.port) c.label_of-label.ensures)
    (subst (λ (d : ControlState). (l : LaneState) → lane_on d.tables.ports (response_way c.args.entry.client c.label_of-label.result.lane c.args.entry.port) ≡ Some l → IsSound l)
    c.find_near.ensures.unchanged c.lane_is_sound.ensures)
    c.in_ok-to.ensures.awaits c.find_near.new.control c.find_near.ensures.unchanged
    c.hand_over_alone.new.control c.hand_over_alone.ensures c.in_ok-to.ensures.held x refl
