use Rattle.std.proofs.Common.{ap, ◌∙◌, arith, sym}
use Rattle.iox_control.specs.Settings.{settings_of}
use Rattle.iox_control_making.specs.Links.{bare, links_between}
use Rattle.iox_control_making.proofs.Walks.{leads_next, leads_not, take_whole}
use Rattle.iox_control_making.proofs.pipes.links_of.Goals as goal
use Rattle.iox_control_making.proofs.pipes.links_of.Goals.{then-is_other+in_ok-pipe+in_ok-push, else-is_other}

pub loop-place-preserved : goal.loop-place-preserved
loop-place-preserved c = elim c.if-is_other.branch [
  | then-is_other+in_ok-pipe+in_ok-push w ↦
      leads_next (settings_of c.args.settings) (bare c.args.new) c.args.ports.now.ports c.loop-place.place c.in-Some.info c.in-Some.ensures
      c.loop-place.links.items c.if-is_other.links.items w.in_ok-pipe.pipe
      (sym c.is_other.ensures ∙ w.if-is_other.true) c.loop-place.invariant w.in_ok-pipe.ensures (ap (λ v. v.items) w.links-is ∙ w.in_ok-push.ensures.items)
  | else-is_other w ↦
      leads_not (settings_of c.args.settings) (bare c.args.new) c.args.ports.now.ports c.loop-place.place c.in-Some.info c.in-Some.ensures
      c.if-is_other.links.items
      (sym c.is_other.ensures ∙ w.if-is_other.false) (ap (λ v. v.items) w.links-is ∙ c.loop-place.invariant)
]

pub returns : goal.returns
returns c =
    c.loop-place.invariant
    ∙ ap (λ ps. links_between (settings_of c.args.settings) ps (bare c.args.new))
    (take_whole c.args.ports.now.ports c.loop-place.place (omega (arith, c.loop-place-test.false, c.len-place-end.ensures.len)))
