use Rattle.std.specs.Prelude.{Err, IfOk, Ok, OnOk, Result}
use Rattle.std.proofs.Common.{ℕ}
use Rattle.iox_steps.specs.declared.access.Progress.{Progress}
use Rattle.iox_wire_weaves.specs.NodeReply.{NodeReply}
use Rattle.iox_wire_weaves.specs.Runs.{Run}
use Rattle.iox_wire_weaves.specs.SettingsStay.{SettingStays}
use Rattle.iox_wire_weaves.specs.Steps.{StepIsWoven}
use Rattle.iox_wire_weaves.specs.Tables.{Setting}
use Rattle.iox_wire_weaves.specs.Wires.{Shows, WireData}
use Rattle.iox_wire_weaves.specs.declared.refusal.WireRefusal.{WireRefusal}
use Rattle.iox_wire.proofs.uses.node_steps_in_its_setting.Goals as goal

in_setting : (a b : WireData) (n : ℕ) (told : Result (Progress NodeReply) WireRefusal) → IfOk told (λ progress. StepIsWoven a n progress b)
    → (p : Setting) (r : Run) → Shows p a r → OnOk told ((after : Run) × SettingStays n r.last after.last × Shows p b after)
in_setting a b n (Ok progress) woven p r shows = let s = woven p r shows in (s.after, s.setting, s.shows)
in_setting a b n (Err refusal) woven p r shows = tt

pub returns : goal.returns
returns c p r shows = in_setting c.args.wire.now c.step.new.self c.args.node c.step.result c.step.ensures.weave p r shows
