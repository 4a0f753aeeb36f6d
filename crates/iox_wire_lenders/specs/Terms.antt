-- What a wire is told beside its plan: when it is complete, and when a setting is made of both.
use Rattle.std.specs.Prelude.{◌≡◌, ◌*◌, ◌<◌, ◌≤◌, ◌^◌, ℕ, true, false, ◌++◌, length, IsSomeAnd, None, slice_get}
use Rattle.iox_types.specs.Identifiers.{id_words}
use Rattle.iox_model.specs.declared.kind.Role.{Role}
use Rattle.iox_model.specs.declared.kind.Role.TheVariants.{Client, Server}
use Rattle.iox_model.specs.Settings.{fails_by_strategy}
use Rattle.iox_model.specs.Settings.{Shape, has_layout, shape_of}
use Rattle.iox_model.specs.States.{Port}
use Rattle.iox_wire_ways.specs.WirePlan.{WirePlan}
use Rattle.iox_wire_ways.specs.Plans.{details_of, number_at}
use Rattle.iox_wire_ways.specs.Tables.{Setting, port_shape}
use Rattle.iox_wire_ways.specs.PlansOf.{IsSettingOf}
use Rattle.iox_wire_lenders.specs.declared.terms.MessageTerms.{MessageTerms}
use Rattle.iox_wire_lenders.specs.declared.terms.PortTerms.{PortTerms}
use Rattle.iox_wire_lenders.specs.declared.terms.WireTerms.{WireTerms}

-- what the messages of a role are told
abbrev pub messages_of : WireTerms → Role → MessageTerms
messages_of t Client = t.request
messages_of t Server = t.response

-- ---- of themselves

-- A port has the words of two identifiers, and numbers count what a server may lend.
pub record IsWholePort (plan : WirePlan) (t : WireTerms) (r : PortTerms) : Type 0 where
  pub ids : length r.ids.items ≡ 4
  pub each : r.loaned_responses * plan.limits.active_requests < 2 ^ 64
  pub all : r.loaned_responses * plan.limits.active_requests * t.clients < 2 ^ 64

-- The terms fit the plan: each port is told, and user headers have the words of the plan's.
pub record FitsPlan (plan : WirePlan) (t : WireTerms) : Type 0 where
  pub ports : (i : ℕ) → i < length plan.ports.items
      → IsSomeAnd (slice_get t.ports.items i) (IsWholePort plan t)
  pub user : (role : Role)
      → (details_of plan role).user_header.size ≡ 8 * length (messages_of t role).user.items

-- ---- of a setting

-- The port is told so: its value is there, its messages do not grow and have layouts, and no
-- handler says what it does at a full receiver.
pub record IsPortWith (q : Port) (x : Shape) (r : PortTerms) : Type 0 where
  pub held : q.held ≡ true
  pub grows : q.grows ≡ false
  pub layouts : (k : ℕ) → k ≤ q.longest → has_layout x k ≡ true
  pub ids : r.ids.items ≡ id_words q.node_id ++ id_words q.id
  pub loaned_responses : q.loaned_responses ≡ r.loaned_responses
  pub handler : q.handler ≡ None
  pub fails : fails_by_strategy q.strategy ≡ r.fails

-- The setting is that of the plan, with these terms.
pub record IsSettingWith (plan : WirePlan) (t : WireTerms) (p : Setting) : Type 0 where
  pub setting : IsSettingOf plan p
  pub many : (role : Role) → (shape_of p.limits role).many ≡ (messages_of t role).many
  pub user : (role : Role) → (shape_of p.limits role).user ≡ (messages_of t role).user.items
  pub clients : p.limits.clients ≡ t.clients
  pub loaned_requests : p.limits.loaned_requests ≡ t.loaned_requests
  pub fire_and_forget : p.limits.fire_and_forget ≡ t.fire_and_forget
  pub first_number : p.next_number ≡ t.first_number
  pub ports : (i : ℕ) → i < length plan.ports.items
      → IsSomeAnd (slice_get t.ports.items i)
      (IsPortWith (p.port (number_at plan i)) (port_shape p (number_at plan i)))
