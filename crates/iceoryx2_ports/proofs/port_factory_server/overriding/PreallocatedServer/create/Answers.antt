use Rattle.std.specs.Option.{option_map}
use Rattle.iox_hub_laws.specs.HandlerWords.{shown_by}
use Rattle.std.specs.Prelude.{ℕ, IfOk}
use Rattle.iox_model.specs.declared.kind.Role.TheVariants as roles
use Rattle.iceoryx2_ports.specs.Makings.{IsMadeAs, reply_of_server}
use Rattle.iceoryx2_ports.specs.Overrides.{IsMadeWithItsPool, MadeWith}
use Rattle.std.proofs.Common.{subst}
use Rattle.iceoryx2_ports.proofs.MadeAs.{made_but_for_pool}
use Rattle.iceoryx2_ports.proofs.port_factory_server.overriding.PreallocatedServer.create.Goals as goal

pub returns-clause-whole : goal.returns-clause-whole
returns-clause-whole g c =
    subst
    (λ (it : MadeWith _ _).
    IsMadeWithItsPool c.args.hub.now it.node roles.Server it.id (λ (n : ℕ). g.F.Fn.post it.closure (n, tt)) it.options (option_map (shown_by g.H.Backpressure.action) it.handler) (reply_of_server c.create.result) c.create.new.hub)
    c.self.view_is (c.with_pool-options.result, c.with_pool-options.ensures, c.create.ensures.whole)

pub returns-clause-made : goal.returns-clause-made
returns-clause-made g c =
    subst
    (λ (it : MadeWith _ _).
    IfOk c.create.result (λ port. IsMadeAs c.create.new.hub port.number c.args.hub.now.response it.options))
    c.self.view_is
    (made_but_for_pool (λ port. port.number) c.create.new.hub c.args.hub.now.response _ c.with_pool-options.result c.with_pool-options.ensures.others
    c.create.result c.create.ensures.made)
