use Rattle.std.proofs.Common.{ap, map, filter, ◌∙◌, arith, sym}
use Rattle.iox_lanes.specs.Incomings.{no_pipes}
use Rattle.iox_model.specs.Settings.{other_role}
use Rattle.iox_tables.specs.HubMaking.NewPorts.{is_other, pipe_between}
use Rattle.iox_tables.specs.HubMaking.OneByOne.{all_connected, most_of}
use Rattle.iox_control.specs.Settings.{settings_of}
use Rattle.iox_control_making.specs.Links.{bare}
use Rattle.iox_control_making.proofs.Walks.{comes_next, comes_not, take_whole}
use Rattle.iox_control_making.proofs.pipes.incoming_of.Goals as goal
use Rattle.iox_control_making.proofs.pipes.incoming_of.Goals.{then-is_other+in_ok-new_pipe, else-is_other}

pub loop-place-preserved : goal.loop-place-preserved
loop-place-preserved c = elim c.if-is_other.branch [
  | then-is_other+in_ok-new_pipe w ↦
      comes_next (settings_of c.args.settings) (bare c.args.new) c.args.ports.now.ports c.loop-place.place c.in-Some.info c.in-Some.ensures
      (no_pipes (most_of (settings_of c.args.settings) (other_role c.args.new.role))) c.loop-place.incoming c.if-is_other.incoming w.in_ok-new_pipe.field-0
      (sym c.is_other.ensures ∙ w.if-is_other.true) c.loop-place.invariant w.in_ok-new_pipe.ensures (w.incoming-is ∙ w.connect.ensures.connected)
  | else-is_other w ↦
      comes_not (settings_of c.args.settings) (bare c.args.new) c.args.ports.now.ports c.loop-place.place c.in-Some.info c.in-Some.ensures
      (no_pipes (most_of (settings_of c.args.settings) (other_role c.args.new.role))) c.if-is_other.incoming
      (sym c.is_other.ensures ∙ w.if-is_other.false) (w.incoming-is ∙ c.loop-place.invariant)
]

pub returns : goal.returns
returns c =
    c.loop-place.invariant
    ∙ ap (λ ps. all_connected (no_pipes (most_of (settings_of c.args.settings) (other_role c.args.new.role)))
    (map (λ p. pipe_between (settings_of c.args.settings) p (bare c.args.new)) (filter (λ p. is_other p (bare c.args.new)) ps)))
    (take_whole c.args.ports.now.ports c.loop-place.place (omega (arith, c.loop-place-test.false, c.len-place-end.ensures.len)))
