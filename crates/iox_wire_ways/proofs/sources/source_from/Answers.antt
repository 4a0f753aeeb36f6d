use Rattle.std.proofs.Common.{get_or, ap, ap₂, ◌∙◌}
use Rattle.iox_model.specs.declared.kind.Role.TheVariants.{Client, Server}
use Rattle.iox_model.specs.Messages.{request_way}
use Rattle.iox_steps.specs.declared.site.Site.{Site}
use Rattle.iox_wire_messages.specs.WirePlan.{WirePlan}
use Rattle.iox_wire_ways.proofs.HeaderLemmas.{PortFacts, index_of_port, port_facts}
use Rattle.iox_wire_ways.specs.RequestSources.{request_source}
use Rattle.iox_wire_ways.proofs.PartLemmas.{source_is_told}
use Rattle.iox_wire_ways.proofs.sources.source_from.Goals as goal

pub returns : goal.returns
returns c =
    let client : PortFacts c.args.map.now c.args.client c.index-port.result.now =
    port_facts c.args.map.now c.args.client c.index-port.result.now c.plan.ensures.plan (index_of_port c.args.map.now Client c.args.client c.requires.0)
    (c.index-port.ensures ∙ ap (λ (plan : WirePlan). get_or plan.ports.items c.args.client c.index-port.result.now) c.plan.ensures.value) in
    let server : PortFacts c.args.map.now c.args.server c.index.result.now =
    port_facts c.args.map.now c.args.server c.index.result.now c.plan.ensures.plan (index_of_port c.args.map.now Server c.args.server c.requires.1)
    (c.index.ensures ∙ ap (λ (plan : WirePlan). get_or plan.ports.items c.args.server c.index.result.now) c.plan-2.ensures.value) in
    source_is_told (request_source c.args.map.now c.args.server c.args.client) _ _ _ _ _ _ _
    (ap₂ request_way client.number server.number) client.node (ap (λ (s : Site). s.base) c.message_queue-messages.ensures) c.region.ensures client.pool client.words client.pool
