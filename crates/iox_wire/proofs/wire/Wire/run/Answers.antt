use Rattle.std.specs.Prelude.{IsSomeAnd}
use Rattle.std.proofs.Common.{Option, refl, subst, sym, take, arith}
use Rattle.std.proofs.lemmas.Option.{slice_get-get_or}
use Rattle.iox_wire_openings.proofs.OpenedLemmas.{one_more}
use Rattle.iox_wire.specs.declared.entry.WireEntry.{WireEntry}
use Rattle.iox_wire.specs.declared.entry.WireEntry.TheVariants.{Begin}
use Rattle.iox_wire_weaves.specs.NodeCall.TheVariants.{Loan}
use Rattle.iox_wire.specs.Schedules.{AreEntered, EntriesArePlayed, WantsMemory}
use Rattle.iox_wire.proofs.Playing as playing
use Rattle.iox_wire.proofs.Playing.{played, so_on_err, take_whole, woven_by, woven_on}
use Rattle.iox_wire.proofs.wire.Wire.run.Goals as goal

pub loop-entry-init : goal.loop-entry-init
loop-entry-init c = record { entered = refl; room = omega arith }

pub loop-entry-preserved : goal.loop-entry-preserved
loop-entry-preserved c = record {
  entered = subst (λ es. AreEntered c.args.self.now es c.play.new.self)
      (sym (one_more c.args.schedule.now c.loop-entry.entry-index (Begin 0 (Loan 0 0)) (omega (arith, c.loop-entry-test.true))))
      (playing.one_more c.args.self.now c.loop-entry.self c.play.new.self (take c.loop-entry.entry-index c.args.schedule.now) _ c.loop-entry.invariant.entered
      c.in_ok-play.ensures.played);
  room = let before = c.loop-entry.invariant.room in let took = c.play.ensures.room in omega (arith, before, took);
}

pub returns-clause-weave : goal.returns-clause-weave
returns-clause-weave c = (
  c.loop-entry.entry-index,
  woven_by c.args.self.now c.loop-entry.self (take c.loop-entry.entry-index c.args.schedule.now) c.loop-entry.invariant.entered,
)

pub returns-clause-whole : goal.returns-clause-whole
returns-clause-whole c =
    subst (λ es. EntriesArePlayed c.args.self.now es c.loop-entry.self)
    (take_whole c.args.schedule.now c.loop-entry.entry-index (omega (arith, c.loop-entry-test.false)))
    (played c.args.self.now c.loop-entry.self (take c.loop-entry.entry-index c.args.schedule.now) c.loop-entry.invariant.entered)

pub returns-in_err-play-clause-weave : goal.returns-in_err-play-clause-weave
returns-in_err-play-clause-weave c = (
  c.loop-entry.entry-index,
  woven_on c.args.self.now c.loop-entry.self c.play.new.self (take c.loop-entry.entry-index c.args.schedule.now) _
      (woven_by c.args.self.now c.loop-entry.self (take c.loop-entry.entry-index c.args.schedule.now) c.loop-entry.invariant.entered)
      c.in_err-play.ensures.wants,
)

pub returns-in_err-play-clause-stopped : goal.returns-in_err-play-clause-stopped
returns-in_err-play-clause-stopped c = so_on_err c.from_residual.result _ (
  c.loop-entry.entry-index,
  c.loop-entry.self,
  played c.args.self.now c.loop-entry.self (take c.loop-entry.entry-index c.args.schedule.now) c.loop-entry.invariant.entered,
  c.loop-entry.invariant.room,
  subst (λ (o : Option WireEntry). IsSomeAnd o (λ e. WantsMemory c.loop-entry.self e c.play.new.self))
      (sym (slice_get-get_or c.args.schedule.now c.loop-entry.entry-index (Begin 0 (Loan 0 0)) (omega (arith, c.loop-entry-test.true)))) c.in_err-play.ensures.wants,
)

pub returns-clause-room : goal.returns-clause-room
returns-clause-room c = let before = c.loop-entry.invariant.room in let last = c.loop-entry-test.false in omega (arith, before, last)

pub returns-in_err-play-clause-room : goal.returns-in_err-play-clause-room
returns-in_err-play-clause-room c =
    let before = c.loop-entry.invariant.room in let took = c.play.ensures.room in let more = c.loop-entry-test.true in omega (arith, before, took, more)
