use Rattle.std.proofs.Common.{◌∙◌, arith, length, refl, sym}
use Rattle.std.proofs.lemmas.Option.{slice_get_read}
use Rattle.iox_lanes.proofs.Kept.{closes_none}
use Rattle.iox_lanes.proofs.pipe.Pipe.close_request.Goals as goal

pub returns-else-is_named : goal.returns-else-is_named
returns-else-is_named c =
    let states = c.self.inside.states.items in
    let at = slice_get_read states (length states) c.args.lane c.index.result.now refl
    (omega (arith, c.if-lane-len.true, c.len.ensures)) c.index.ensures in
    rw (← c.self.view_is)
    (closes_none (record { sender = c.self.inside.sender; lanes = c.self.inside.lanes.items; states = states }) c.args.lane c.args.id
    c.index.result.now (sym at) (sym c.is_named.ensures ∙ c.if-is_named.false))
