use Rattle.std.proofs.Common.{ap, sym}
use Rattle.iox_model.specs.declared.kind.Role.{Role}
use Rattle.iox_control_lending.proofs.calls.known_as.Goals as goal

pub returns : goal.returns
returns c = ap (λ (r : Role). record (c.args.port) { role = r }) (sym c.requires)
