-- The node that has a port.
use Rattle.std.specs.Prelude.{Option, None, option_map}
use Rattle.std.specs.Option.{option_map_or}
use Rattle.std.proofs.Common.{◌≡◌, ℕ, List, Some, refl, ap, sym, ◌∙◌}
use Rattle.iox_laws.proofs.WeaveLaws.WholeLemmas.{some-is}
use Rattle.iox_laws.proofs.WeaveLedger.Truths.{none-some}
use Rattle.iox_wire_weaves.specs.PlanPort.{PlanPort}
use Rattle.iox_wire_weaves.specs.Plans.{port_of}
use Rattle.iox_wire_weaves.specs.WirePlan.{WirePlan}
use Rattle.iox_wire_weaves.specs.Wires.{WireData, WireNode, node_at}
use Rattle.iox_wire_weaves.specs.Owners.{owner_in}

pub at_port : (nodes : List WireNode) (n : ℕ) (o : Option PlanPort) → Some n ≡ option_map (λ (q : PlanPort). q.node) o
    → option_map_or (λ (q : PlanPort). node_at q.node nodes) o None ≡ node_at n nodes
at_port nodes n None is = absurd (none-some n (sym is))
at_port nodes n (Some q) is = ap (λ k. node_at k nodes) (sym (some-is n q.node is))

pub owner_is : (wire : WireData) (plan : WirePlan) (port n : ℕ) → plan ≡ wire.plan → Some n ≡ option_map (λ (q : PlanPort). q.node) (port_of plan port)
    → owner_in wire port ≡ node_at n wire.nodes
owner_is wire plan port n same is =
    at_port wire.nodes n (port_of wire.plan port) (is ∙ ap (λ k. option_map (λ (q : PlanPort). q.node) (port_of k port)) same)

at_none : (nodes : List WireNode) (o : Option PlanPort) → None ≡ option_map (λ (q : PlanPort). q.node) o
    → option_map_or (λ (q : PlanPort). node_at q.node nodes) o None ≡ None
at_none nodes None is = refl
at_none nodes (Some q) is = absurd (none-some q.node is)

pub no_owner : (wire : WireData) (plan : WirePlan) (port : ℕ) → plan ≡ wire.plan → None ≡ option_map (λ (q : PlanPort). q.node) (port_of plan port)
    → owner_in wire port ≡ None
no_owner wire plan port same is = at_none wire.nodes (port_of wire.plan port) (is ∙ ap (λ k. option_map (λ (q : PlanPort). q.node) (port_of k port)) same)
