use Rattle.std.proofs.Common.{ℕ, Some, false, sym, ap, ◌∙◌, arith, slice_set}
use Rattle.std.specs.List.{position_from}
use Rattle.iox_lanes.specs.declared.incoming.Visits.TheVariants.{Got}
use Rattle.iox_lanes.specs.Lanes.{has_waiting}
use Rattle.iox_lanes.specs.Pipes.{PipeState, on_lane}
use Rattle.iox_lanes.specs.Incomings.{IncomingState}
use Rattle.iox_lanes.proofs.Usual.{all_quiet, first_gets, holds_first}
use Rattle.iox_lanes.proofs.incoming.Incoming.visit_usual.Goals as goal

pub returns-in_default-clause-visits : goal.returns-in_default-clause-visits
returns-in_default-clause-visits g c =
    (all_quiet c.args.wanted (g.L.Labels.label_of c.args.labels.now) c.args.lane c.args.self.now.pipes 0 (sym c.first_waiting.ensures.first ∙ c.in_default.is)).0

pub returns-in_default-clause-visited : goal.returns-in_default-clause-visited
returns-in_default-clause-visited g c =
    ap (λ ps. record (c.args.self.now) { pipes = ps })
    (all_quiet c.args.wanted (g.L.Labels.label_of c.args.labels.now) c.args.lane c.args.self.now.pipes 0 (sym c.first_waiting.ensures.first ∙ c.in_default.is)).1

pub visit_usual-requires : goal.visit_usual-requires
visit_usual-requires g c =
    holds_first (λ (p : PipeState). on_lane has_waiting false p c.args.lane) c.self.inside.pipes.items c.in-Some.rank c.index_mut-pipe.result.now
    (ap (λ (s : IncomingState). position_from (λ p. on_lane has_waiting false p c.args.lane) 0 s.pipes) c.self.view_is ∙ sym c.first_waiting.ensures.first ∙ c.in-Some.is)
    c.index_mut-pipe.ensures.value

pub returns-clause-visits : goal.returns-clause-visits
returns-clause-visits g c =
    rw (← c.self.view_is)
    ((λ i. Got (c.sender-sender.ensures i) (c.in_ok-pool.ensures.pool i) c.in_ok-pool.place)
    ∙ (first_gets c.args.wanted (g.L.Labels.label_of c.args.labels.now) c.args.lane c.self.inside.pipes.items 0 c.in-Some.rank c.index_mut-pipe.result.now c.in_ok-pool.place
    (ap (λ (s : IncomingState). position_from (λ p. on_lane has_waiting false p c.args.lane) 0 s.pipes) c.self.view_is ∙ sym c.first_waiting.ensures.first ∙ c.in-Some.is
    ∙ ap (λ (n : ℕ). Some n) (omega arith))
    c.index_mut-pipe.ensures.value c.in_ok-pool.ensures.visit).0)

pub returns-clause-visited : goal.returns-clause-visited
returns-clause-visited g c =
    rw (← c.self.view_is)
    (ap (λ ps. record { most = c.self.inside.most; pipes = ps })
    (ap (slice_set c.self.inside.pipes.items c.in-Some.rank) c.in_ok-pool.ensures.visited
    ∙ (first_gets c.args.wanted (g.L.Labels.label_of c.args.labels.now) c.args.lane c.self.inside.pipes.items 0 c.in-Some.rank c.index_mut-pipe.result.now c.in_ok-pool.place
    (ap (λ (s : IncomingState). position_from (λ p. on_lane has_waiting false p c.args.lane) 0 s.pipes) c.self.view_is ∙ sym c.first_waiting.ensures.first ∙ c.in-Some.is
    ∙ ap (λ (n : ℕ). Some n) (omega arith))
    c.index_mut-pipe.ensures.value c.in_ok-pool.ensures.visit).1))
