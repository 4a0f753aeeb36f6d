-- A request that is sent to the only server: its handle is turned first, and then its message is held and pushed.
use Rattle.std.specs.Prelude.{◌≡◌, ℕ, ◌-◌, ◌<◌, ◌^◌, true, ◌∷◌, [], length, Some, slice_get, refl}
use Rattle.std.proofs.Common.{sym, ap, subst, ◌∙◌}
use Rattle.std.proofs.lemmas.Option.{same_Some}
use Rattle.iox_model.specs.declared.kind.Role.TheVariants.{Server}
use Rattle.iox_model.specs.Handles.{is_request_loan}
use Rattle.iox_lanes.specs.declared.wanted.Label.{Label}
use Rattle.iox_lanes.specs.Lanes.{IsSound}
use Rattle.iox_tables.specs.HubStates.Changes.{OnEach}
use Rattle.iox_tables.specs.HubStates.Ends.{with_call, with_changed}
use Rattle.iox_tables.specs.HubStates.Sendings.{pending_of}
use Rattle.iox_tables.specs.HubStates.Tables.{HandleState, PortState, labels_of, slot_at}
use Rattle.iox_tables.specs.HubStates.Ways.{lane_on}
use Rattle.iox_tables.specs.HubStates.Wirings.{IsHandle}
use Rattle.iox_hub_ports.specs.InPlace.{places_of}
use Rattle.iox_hub_delivering.specs.Deliveries.{HasDelivered}
use Rattle.iox_hub_delivering.proofs.Walked.{each_step_delivers}
use Rattle.iox_control.specs.Controls.{ControlState, IsControl, with_tables}
use Rattle.iox_control_requests.specs.Deliveries.{CanTake, with_pushed}
use Rattle.iox_control_requests.specs.Requests.{ways_of, with_request_sent}
use Rattle.iox_control_requests.specs.Servers.{request_ways}
use Rattle.iox_control_requests.proofs.Delivering.{all_sound}
use Rattle.iox_control_requests.proofs.Gives.{OfLane}
use Rattle.iox_control_requests.proofs.OneServer.{is_first, no_second}
use Rattle.iox_control_requests.proofs.Opened.{sent_is}
use Rattle.iox_control_requests.proofs.Pushing.{IsPushed, begins_pushed, counts_servers, hands_to_all, pushes_all, pushes_one, slot_fits, slot_taken, sound_later}
use Rattle.iox_control_requests.proofs.Ready.{can_take_all}
use Rattle.iox_control_requests.proofs.Walks.{HasRank, has_rank}

-- handles, ports and pools are parts of their own: to turn a handle and then push its message leaves what the other order leaves
pub turns_before : (c turned e : ControlState) (h k : HandleState) (server : ℕ) → turned ≡ with_tables c (with_call (with_changed c.tables k))
    → e ≡ with_pushed turned server h (labels_of turned.tables.pools h.pool h.slot)
    → e
    ≡ with_tables (with_pushed c server h (labels_of c.tables.pools h.pool h.slot))
    (with_call (with_changed (with_pushed c server h (labels_of c.tables.pools h.pool h.slot)).tables k))
turns_before c turned e h k server turns pushes =
    pushes ∙ ap (λ (d : ControlState). with_pushed d server h (labels_of d.tables.pools h.pool h.slot)) turns

module _ (c : ControlState) (node n : ℕ) (h : HandleState) (place : ℕ) (order : IsControl c) (named : IsHandle c.tables node n h) (kind : is_request_loan h.kind ≡ true)
    (returned : OnEach (λ w l. l.returned ≡ []) (lane_on c.tables.ports) (request_ways h.port c.tables.ports)) (only : places_of Server c.tables.ports ≡ place ∷ [])
  where
    lanes : OnEach (λ w l. CanTake h.pool l) (lane_on c.tables.ports) (request_ways h.port c.tables.ports)
    lanes = can_take_all c.tables node n h order.order named kind order.counted order.buffers.requests returned

    abbrev label : Label
    label = labels_of c.tables.pools h.pool h.slot

    first : slice_get (places_of Server c.tables.ports) 0 ≡ Some place
    first = is_first (places_of Server c.tables.ports) place only

    rank : HasRank c.tables.ports 0 place
    rank = has_rank c.tables.ports 0 place first

    -- the slot is the loan's still
    pub loan_holds : 0 < (slot_at c.tables.pools h.pool h.slot).holders
    loan_holds = slot_taken c h label c 0 place (begins_pushed c h label) first node n named order kind lanes each_step_delivers

    pub may_hold : (slot_at c.tables.pools h.pool h.slot).holders < 2 ^ 64 - 1
    may_hold = slot_fits c h label c 0 place (begins_pushed c h label) first node n named order kind lanes each_step_delivers

    pub counts_one : 1 ≡ length (ways_of c.tables h true)
    counts_one = counts_servers c h label 1 (sym (ap length only))

    module _ (sound : OfLane c.tables.ports place h.port IsSound) where
      pub is_sound : OnEach (λ w l. IsSound l) (lane_on c.tables.ports) (request_ways h.port c.tables.ports)
      is_sound =
          all_sound c.tables.ports h.port 1 (no_second (places_of Server c.tables.ports) place only)
          (sound_later c h label c 0 place (begins_pushed c h label) first node n named order kind lanes each_step_delivers sound tt)

      -- as if it was pushed, and nothing else
      abbrev pushed : ControlState
      pushed = with_pushed c rank.port.number h label

      is_pushed : IsPushed c h label pushed 1
      is_pushed =
          pushes_one c h label c 0 place (begins_pushed c h label) first node n named order kind lanes each_step_delivers sound pushed
          (λ p there. ap (λ (q : PortState). with_pushed c q.number h label) (same_Some rank.port p (sym rank.there ∙ there)))

      module _ (turned e : ControlState) (turns : turned ≡ with_tables c (with_call (with_changed c.tables (pending_of h 1))))
          (pushes : (p : PortState) → slice_get turned.tables.ports place ≡ Some p → e ≡ with_pushed turned p.number h (labels_of turned.tables.pools h.pool h.slot))
        where
          sent : (e ≡ with_tables c (record (with_request_sent c.tables h true) { pools = e.tables.pools })) × (e.tables.pools ≡ pushed.tables.pools)
          sent =
              sent_is c h true pushed e 1 (pushes_all c h label pushed 1 is_pushed (no_second (places_of Server c.tables.ports) place only) refl) counts_one
              (turns_before c turned e h (pending_of h 1) rank.port.number turns
              (pushes rank.port (ap (λ (d : ControlState). slice_get d.tables.ports place) turns ∙ rank.there)))

          pub sent_only : e ≡ with_tables c (record (with_request_sent c.tables h true) { pools = e.tables.pools })
          sent_only = sent.0

          pub handed_only : HasDelivered true h.slot (lane_on c.tables.ports) (ways_of c.tables h true) c.tables.pools e.tables.pools
          handed_only =
              subst (HasDelivered true h.slot (lane_on c.tables.ports) (ways_of c.tables h true) c.tables.pools) (sym sent.1)
              (hands_to_all c h label pushed 1 is_pushed (no_second (places_of Server c.tables.ports) place only) refl)
