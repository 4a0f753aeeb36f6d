-- When a plan is that of a machine's ports, and when a wire's setting is made from it.
use Rattle.std.specs.Prelude.{◌≡◌, ℕ, ◌*◌, List, [], ◌∷◌, map, length}
use Rattle.iox_types.specs.declared.message_type_details.MessageTypeDetails.{MessageTypeDetails}
use Rattle.iox_types.specs.Layouts.{part_of}
use Rattle.iox_types.specs.Parts.{bytes_of_parts}
use Rattle.iox_model.specs.declared.kind.Role.{Role}
use Rattle.iox_model.specs.Settings.{Limits, Shape, shape_of, buffer_of, borrow_limit_of, overflow_of}
use Rattle.iox_model.specs.States.{Fixed, Port}
use Rattle.iox_word_places.specs.declared.plan.PlanPort.{PlanPort}
use Rattle.iox_word_places.specs.declared.plan.WirePlan.{WirePlan}
use Rattle.iox_word_places.specs.Plans.{details_of, layout_of, planned_buffer, planned_limit, planned_overflow, port_numbers}
use Rattle.iox_wire_locals.specs.Stored.{header_length}
use Rattle.iox_wire_locals.specs.Tables.{Setting}

-- the port is as planned
pub record IsAsPlanned (planned : PlanPort) (port : Port) : Type 0 where
  pub number : port.number ≡ planned.number
  pub node : port.node ≡ planned.node
  pub role : port.role ≡ planned.role
  pub pool : port.pool ≡ planned.pool
  pub longest : port.longest ≡ planned.longest

-- these are the planned ports, in their order
abbrev pub AreAsPlanned : List PlanPort → List Port → Type 0
AreAsPlanned [] [] = Unit {0}
AreAsPlanned (q ∷ qs) (r ∷ rs) = IsAsPlanned q r × AreAsPlanned qs rs
AreAsPlanned qs rs = ⊥

-- The details tell the parts of messages of that shape, and each part has the bytes of its words: a
-- header of that role's messages, a user header, and an element.
pub record IsShapeOf (details : MessageTypeDetails) (role : Role) (x : Shape) : Type 0 where
  pub header_part : x.header_part ≡ part_of details.header
  pub user_part : x.user_part ≡ part_of details.user_header
  pub element_part : x.element_part ≡ part_of details.payload
  pub header : details.header.size ≡ 8 * header_length role
  pub user : details.user_header.size ≡ 8 * length x.user
  pub element : details.payload.size ≡ 8 * x.width

-- The plan is for these ports, under these limits.
pub record IsPlanFor (plan : WirePlan) (l : Limits) (connected : List Port) : Type 0 where
  pub ports : AreAsPlanned plan.ports.items connected
  -- of the messages that each role sends
  pub shapes : (role : Role) → IsShapeOf (details_of plan role) role (shape_of l role)
  pub buffers : (role : Role) → planned_buffer plan.limits role ≡ buffer_of l role
  pub borrows : (role : Role) → planned_limit plan.limits role ≡ borrow_limit_of l role
  pub overflows : (role : Role) → planned_overflow plan.limits role ≡ overflow_of l role

-- The plan is that of a machine's ports and limits.
abbrev pub IsPlanOf : WirePlan → Fixed → Type 0
IsPlanOf plan f = IsPlanFor plan f.limits f.ports

-- The setting has the layout that the plan describes, and the plan is for its ports and limits.
pub record IsSettingOf (plan : WirePlan) (p : Setting) : Type 0 where
  pub layout : p.layout ≡ layout_of plan
  pub is_for : IsPlanFor plan p.limits (map p.port (port_numbers plan))

-- the bytes of a message at most, if its elements have so many in all
abbrev pub bytes_with : MessageTypeDetails → ℕ → ℕ
bytes_with details bytes =
    bytes_of_parts (part_of details.header) (part_of details.user_header)
    (record { size = bytes; alignment = details.payload.alignment }) 1
