use Rattle.std.specs.Prelude.{refl}
use Rattle.std.proofs.Common.{ap}
use Rattle.iox_tables.specs.HubStates.States.{limits_of}
use Rattle.iox_tables.specs.HubStates.Tables.{HubSettings}
use Rattle.iox_rows_nodes.proofs.first_limits.first_limits_agree.Goals as goal

pub returns : goal.returns
returns c = record {
  described = refl;
  shown = λ x t e. ap (λ (s : HubSettings). limits_of x (record t { settings = s })) e;
}
