-- A hub with no port is one.
use Rattle.std.specs.Prelude.{◌≡◌, ℕ, ◌≤◌, max, false, [], ◌∷◌, List, Option, None, refl}
use Rattle.std.proofs.Common.{sym, subst, ◌∙◌, ap, arith}
use Rattle.iox_model.specs.Defaults.{follow}
use Rattle.iox_model.specs.Joins.{new_node}
use Rattle.iox_model.specs.Runs.{IsReachableState}
use Rattle.iox_model.specs.Settings.{IsShape, Shape}
use Rattle.iox_tables.specs.HubStates.States.{Given, limits_of, no_id}
use Rattle.iox_tables.specs.HubStates.Tables.{HubSettings}
use Rattle.iox_tables.specs.HubMaking.Starts.{no_ports}
use Rattle.iox_tables.proofs.HubMaking.Reaching.{starts_are_reached}
use Rattle.iox_control.specs.Controls.{ControlState, HaveBuffers, IsControl, new_control}
use Rattle.iox_hub.proofs.Fitting.{fits_none}
use Rattle.iox_hub.specs.Hubs.{HubState, IsHub, given_by, state_of_hub}
use Rattle.iox_hub.specs.Starts.{new_hub, started}
use Rattle.iox_hub.specs.Words.{Carried}
use Rattle.iox_backpressure.specs.Handlers.{PortWords}

-- at least one message may wait on each lane
pub buffers_are_had : (s t : HubSettings) → t ≡ started s → HaveBuffers t
buffers_are_had s t is = subst HaveBuffers (sym is) (record { requests = one_at_least s.active_requests; responses = one_at_least s.response_buffer })
  where
    one_at_least : (n : ℕ) → 1 ≤ max 1 n
    one_at_least n = omega arith

-- one node, and any words and shapes
abbrev given_first : Shape → Shape → Given
given_first request response = record {
  members = record { nodes = new_node 0 no_id ∷ []; joins = 1; closed = false };
  acts = follow;
  handler = λ n. None;
  request = request;
  response = response;
  user = λ pool k. [];
  payload = λ pool k. [];
  filled = λ pool k. 0;
}

new_is_reached : (s : HubSettings) (request response : Shape) → IsShape request → IsShape response
    → IsReachableState (state_of_hub (given_first request response) (new_hub s request response))
new_is_reached s request response request_is response_is =
    let h : HubState = new_hub s request response in
    let y : Given = given_by (given_first request response) h in
    starts_are_reached y (started s) (record {
      limits = limits_of y (no_ports s);
      id = no_id;
      raises = refl;
      members = refl;
      request = request_is;
      response = response_is;
    })

pub hub_starts : (s t : HubSettings) (request response : Shape) (c : ControlState) (words : List (Option Carried))
    (handlers : List PortWords) → t ≡ started s → c ≡ new_control t
    → (HaveBuffers t → IsControl c) → IsShape request → IsShape response → words ≡ []
    → handlers ≡ [] → IsHub (record { control = c; words = words; request = request; response = response; handlers = handlers })
hub_starts s t request response c words handlers settings made order request_is response_is none nobody =
    let is : c ≡ new_control (started s) = made ∙ ap new_control settings in
    record {
      control = order (buffers_are_had s t settings);
      words = fits_none c.tables (ap (λ (d : ControlState). d.tables.pools) is) (ap (λ (d : ControlState). d.tables.ports) is) (ap (λ (d : ControlState). d.tables.handles) is) words;
      reached = (
        given_first request response,
        subst (λ (h : HubState). IsReachableState (state_of_hub (given_first request response) h))
            (ap (λ (d : ControlState). record { control = d; words = []; request = request; response = response; handlers = [] }) (sym is)
            ∙ ap (λ (ws : List (Option Carried)). record { control = c; words = ws; request = request; response = response; handlers = [] }) (sym none)
            ∙ ap (λ (hs : List PortWords). record { control = c; words = words; request = request; response = response; handlers = hs }) (sym nobody))
            (new_is_reached s request response request_is response_is),
      );
    }
