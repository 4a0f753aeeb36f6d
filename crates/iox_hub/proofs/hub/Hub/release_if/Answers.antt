use Rattle.std.specs.Prelude.{refl}
use Rattle.std.proofs.Common.{subst}
use Rattle.iox_hub.specs.Hubs.{HubState}
use Rattle.iox_hub.specs.ReleaseCalls.{ReleasesHandle}
use Rattle.iox_hub.proofs.hub.Hub.release_if.Goals as goal

pub returns-then-release_usual-clause-keeps : goal.returns-then-release_usual-clause-keeps
returns-then-release_usual-clause-keeps g c so = (c.if-release_usual.ensures.released refl).keeps

pub returns-clause-whole : goal.returns-clause-whole
returns-clause-whole g c so =
    (subst (λ (d : HubState). ReleasesHandle d c.args.node c.args.number c.args.kind c.release_far.new.self) (c.if-release_usual.ensures.unchanged) (c.release_far.ensures.released so)).whole

pub returns-clause-keeps : goal.returns-clause-keeps
returns-clause-keeps g c so =
    (subst (λ (d : HubState). ReleasesHandle d c.args.node c.args.number c.args.kind c.release_far.new.self) (c.if-release_usual.ensures.unchanged) (c.release_far.ensures.released so)).keeps
