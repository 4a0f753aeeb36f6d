use Rattle.std.specs.Prelude.{OnOk}
use Rattle.std.proofs.Common.{subst, sym}
use Rattle.iox_wire.specs.declared.entry.WireEntry.{WireEntry}
use Rattle.iox_wire.specs.Schedules.{IsEntered}
use Rattle.iox_wire.proofs.wire.Wire.play.Goals as goal

pub returns-in-Begin-clause-played : goal.returns-in-Begin-clause-played
returns-in-Begin-clause-played c = subst (λ (e : WireEntry). IsEntered c.args.self.now e c.ask.new.self) (sym c.in-Begin.is) c.ask.ensures.asked

pub returns-in-Step-clause-played : goal.returns-in-Step-clause-played
returns-in-Step-clause-played c =
    subst (λ (e : WireEntry). OnOk c.go.result (IsEntered c.args.self.now e c.go.new.self)) (sym c.in-Step.is) c.go.ensures.stepped
