use Rattle.std.proofs.Common.{refl, sym, ap, ◌∙◌, subst, arith, length, slice_get, ◌≡◌, Some}
use Rattle.std.specs.Option.{option_map_or}
use Rattle.iox_tables.specs.HubBooks.Counts.{in_pipe, lane_count}
use Rattle.iox_hub_ports.specs.Ports.{info_at}
use Rattle.iox_tables.specs.HubStates.Tables.{numbers_of}
use Rattle.iox_model.specs.Maps.{AreDistinct}
use Rattle.iox_control.specs.Controls.{ControlState}
use Rattle.iox_control_releasing.specs.LettingGo.{LetsGo, from_in}
use Rattle.iox_control_releasing.proofs.Settling.{counts_as, none_goes}
use Rattle.iox_control_releasing.proofs.Walks.{cut_and_let_go, cut_done, cut_here, from_pipe, none_past}
use Rattle.iox_control_releasing.proofs.cutting.cut_at.Goals as goal

pub returns-in-None-expire-clause-left : goal.returns-in-None-expire-clause-left
returns-in-None-expire-clause-left c =
    cut_done c.args.control.now c.expire.new.self _ _ c.expire.ensures.left
    (cut_here c.args.control.now.tables.ports c.args.at c.args.sender c.in-Some.info
    (subst (λ ps. AreDistinct (numbers_of ps)) c.ports-ports.ensures.ports c.len.ensures.apart)
    (sym c.in-Some.is ∙ c.at.ensures ∙ ap (λ ps. info_at ps c.args.at) c.ports-ports.ensures.ports)).1

pub returns-in-None-expire-clause-fewer : goal.returns-in-None-expire-clause-fewer
returns-in-None-expire-clause-fewer c =
    subst (λ (d : ControlState). LetsGo c.args.control.now.tables.pools d.tables.pools
    (λ pool k. option_map_or (from_in (lane_count pool k) c.args.sender) (slice_get c.args.control.now.tables.ports c.args.at) 0)) (sym c.expire.ensures.left)
    (none_goes c.args.control.now.tables.pools
    (λ pool k. option_map_or (from_in (lane_count pool k) c.args.sender) (slice_get c.args.control.now.tables.ports c.args.at) 0)
    (λ pool k. sym (from_pipe c.args.control.now.tables.ports c.args.at c.args.sender c.in-Some.info.number _ (lane_count pool k)
    (cut_here c.args.control.now.tables.ports c.args.at c.args.sender c.in-Some.info
    (subst (λ ps. AreDistinct (numbers_of ps)) c.ports-ports.ensures.ports c.len.ensures.apart)
    (sym c.in-Some.is ∙ c.at.ensures ∙ ap (λ ps. info_at ps c.args.at) c.ports-ports.ensures.ports)).0
    (sym c.in-None-expire.is ∙ c.expire.ensures.gone))))

pub returns-in-Some-expire-clause-left : goal.returns-in-Some-expire-clause-left
returns-in-Some-expire-clause-left c =
    cut_and_let_go c.args.control.now c.expire.new.self c.let_pipe_go.new.control _ _ c.expire.ensures.left
    (cut_here c.args.control.now.tables.ports c.args.at c.args.sender c.in-Some.info
    (subst (λ ps. AreDistinct (numbers_of ps)) c.ports-ports.ensures.ports c.len.ensures.apart)
    (sym c.in-Some.is ∙ c.at.ensures ∙ ap (λ ps. info_at ps c.args.at) c.ports-ports.ensures.ports)).1
    c.let_pipe_go.ensures.left

pub returns-in-Some-expire-clause-fewer : goal.returns-in-Some-expire-clause-fewer
returns-in-Some-expire-clause-fewer c =
    subst (λ (d : ControlState). LetsGo d.tables.pools c.let_pipe_go.new.control.tables.pools
    (λ pool k. option_map_or (from_in (lane_count pool k) c.args.sender) (slice_get c.args.control.now.tables.ports c.args.at) 0)) c.expire.ensures.left
    (counts_as c.expire.new.self.tables.pools c.let_pipe_go.new.control.tables.pools
    (λ pool k. in_pipe (lane_count pool k) c.in-Some-expire.pipe)
    (λ pool k. option_map_or (from_in (lane_count pool k) c.args.sender) (slice_get c.args.control.now.tables.ports c.args.at) 0)
    c.let_pipe_go.ensures.fewer
    (λ pool k. from_pipe c.args.control.now.tables.ports c.args.at c.args.sender c.in-Some.info.number (Some c.in-Some-expire.pipe) (lane_count pool k)
    (cut_here c.args.control.now.tables.ports c.args.at c.args.sender c.in-Some.info
    (subst (λ ps. AreDistinct (numbers_of ps)) c.ports-ports.ensures.ports c.len.ensures.apart)
    (sym c.in-Some.is ∙ c.at.ensures ∙ ap (λ ps. info_at ps c.args.at) c.ports-ports.ensures.ports)).0
    (sym c.in-Some-expire.is ∙ c.expire.ensures.gone)))

pub returns-else-at-len-clause-fewer : goal.returns-else-at-len-clause-fewer
returns-else-at-len-clause-fewer c =
    none_goes c.args.control.now.tables.pools
    (λ pool k. option_map_or (from_in (lane_count pool k) c.args.sender) (slice_get c.args.control.now.tables.ports c.args.at) 0)
    (λ pool k. ap (λ o. option_map_or (from_in (lane_count pool k) c.args.sender) o 0)
    (none_past c.args.control.now.tables.ports c.args.at
    (subst (λ ps. Rattle.std.proofs.Common.◌≤◌ (length ps) c.args.at) c.ports-ports.ensures.ports (omega (arith, c.if-at-len.false, c.len.ensures.len)))))
