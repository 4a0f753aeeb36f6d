use Rattle.iox_service_laws.specs.HandlerWords.{shown_by}
use Rattle.std.proofs.Common.{◌≡◌, ◌<◌, ◌≤◌, ◌+◌, ◌-◌, ◌∷◌, [], length, ap, arith, rules, refl, subst, sym, ◌∙◌}
use Rattle.std.specs.Vec.{vec_capacity, vec_len}
use Rattle.std.specs.Vec.Iter.{into_iter_items}
use Rattle.iox_service_laws.specs.Served.{IsListingAt}
use Rattle.iox_service_laws.proofs.Running.{nothing_left, on_err}
use Rattle.iceoryx2_wire.specs.Serving.{IsAnswered, WantsToGrowFor}
use Rattle.iceoryx2_wire.specs.Services.{service_of}
use Rattle.iceoryx2_wire.proofs.Running.{HasRun, run_ends, run_goes_on, run_is_short, run_is_whole, run_lists, run_starts}
use Rattle.iceoryx2_wire.proofs.service.Service.run.Goals as goal

pub loop-command-init : goal.loop-command-init
loop-command-init g c =
    let it = c.into_iter-command-iterator in (
      subst
          (λ cs. HasRun g.Q.Element.Words.words g.P.Element.Words.words (shown_by g.H.Backpressure.action) c.args.self.now.description (service_of c.args.self.now) c.args.commands.items c.args.replies.now.items
          cs c.args.replies.now.items (service_of c.args.self.now))
          (sym it.ensures.into_iter_gives.0)
          (run_starts g.Q.Element.Words.words g.P.Element.Words.words (shown_by g.H.Backpressure.action) c.args.self.now.description (service_of c.args.self.now) c.args.commands.items c.args.replies.now.items),
      search rules,
      refl,
      refl,
      omega arith,
    )

pub returns-in_err-reserve-clause-short : goal.returns-in_err-reserve-clause-short
returns-in_err-reserve-clause-short g c =
    let at = c.loop-command in
    let steps : into_iter_items at.command-iterator ≡ c.in-Some.command ∷ into_iter_items c.next.new.self = c.in-Some.ensures.steps.0 in
    let few =
    run_is_short g.Q.Element.Words.words g.P.Element.Words.words (shown_by g.H.Backpressure.action) c.args.self.now.description (service_of c.args.self.now) c.args.commands.items c.args.replies.now.items
    c.in-Some.command (into_iter_items c.next.new.self) at.replies.items (service_of at.self)
    (subst (λ cs. HasRun g.Q.Element.Words.words g.P.Element.Words.words (shown_by g.H.Backpressure.action) c.args.self.now.description (service_of c.args.self.now) c.args.commands.items c.args.replies.now.items cs at.replies.items (service_of at.self)) steps at.invariant.0) in
    let kept : vec_len c.reserve.new.self ≡ vec_len at.replies = c.reserve.ensures.len in
    let there : vec_len at.replies ≡ length at.replies.items = at.replies.ok.0 in
    let before : vec_len c.args.replies.now ≡ length c.args.replies.now.items = c.args.replies.now.ok.0 in
    let asked : vec_len c.args.commands ≡ length c.args.commands.items = c.args.commands.ok.0 in
    let less : vec_len c.reserve.new.self < vec_len c.args.replies.now + vec_len c.args.commands = omega arith in
    on_err _ less

pub returns-in_err-reply-clause-short : goal.returns-in_err-reply-clause-short
returns-in_err-reply-clause-short g c =
    let at = c.loop-command in
    let steps : into_iter_items at.command-iterator ≡ c.in-Some.command ∷ into_iter_items c.next.new.self = c.in-Some.ensures.steps.0 in
    let few =
    run_is_short g.Q.Element.Words.words g.P.Element.Words.words (shown_by g.H.Backpressure.action) c.args.self.now.description (service_of c.args.self.now) c.args.commands.items c.args.replies.now.items
    c.in-Some.command (into_iter_items c.next.new.self) at.replies.items (service_of at.self)
    (subst (λ cs. HasRun g.Q.Element.Words.words g.P.Element.Words.words (shown_by g.H.Backpressure.action) c.args.self.now.description (service_of c.args.self.now) c.args.commands.items c.args.replies.now.items cs at.replies.items (service_of at.self)) steps at.invariant.0) in
    let kept : vec_len c.reserve.new.self ≡ vec_len at.replies = c.reserve.ensures.len in
    let there : vec_len at.replies ≡ length at.replies.items = at.replies.ok.0 in
    let before : vec_len c.args.replies.now ≡ length c.args.replies.now.items = c.args.replies.now.ok.0 in
    let asked : vec_len c.args.commands ≡ length c.args.commands.items = c.args.commands.ok.0 in
    let less : vec_len c.reserve.new.self < vec_len c.args.replies.now + vec_len c.args.commands = omega arith in
    on_err _ less

pub loop-command-preserved : goal.loop-command-preserved
loop-command-preserved g c =
    let at = c.loop-command in
    let steps : into_iter_items at.command-iterator ≡ c.in-Some.command ∷ into_iter_items c.next.new.self = c.in-Some.ensures.steps.0 in (
      rw c.push_reserved.ensures.items
          (rw c.reserve.ensures.items
          (run_goes_on g.Q.Element.Words.words g.P.Element.Words.words (shown_by g.H.Backpressure.action) c.args.self.now.description (service_of c.args.self.now) c.args.commands.items c.args.replies.now.items
          c.in-Some.command (into_iter_items c.next.new.self) at.replies.items (service_of at.self) (service_of c.serve.new.self) c.in_ok-reply.reply
          (subst
          (λ cs. HasRun g.Q.Element.Words.words g.P.Element.Words.words (shown_by g.H.Backpressure.action) c.args.self.now.description (service_of c.args.self.now) c.args.commands.items c.args.replies.now.items
          cs at.replies.items (service_of at.self))
          steps at.invariant.0)
          (subst
          (λ d. IsAnswered g.Q.Element.Words.words g.P.Element.Words.words (shown_by g.H.Backpressure.action) d (service_of at.self) c.in-Some.command
          c.in_ok-reply.reply (service_of c.serve.new.self))
          at.invariant.2 c.in_ok-reply.ensures.answered) c.in_ok-reply.ensures.want
          (subst
          (λ d. WantsToGrowFor g.Q.Element.Words.words g.P.Element.Words.words (shown_by g.H.Backpressure.action) d (service_of at.self) c.in-Some.command
          c.in_ok-reply.reply)
          at.invariant.2 c.in_ok-reply.ensures.grows))),
      let was = at.invariant.1 in
          let gone = c.in-Some.ensures.steps.1 in
          let short = ap length steps in
          omega arith,
      c.in_ok-reply.ensures.says ∙ at.invariant.2,
      c.in_ok-reply.ensures.identity ∙ at.invariant.3,
      let was : vec_capacity c.args.replies.now ≤ vec_capacity at.replies = at.invariant.4 in
          let grown : vec_capacity at.replies ≤ vec_capacity c.reserve.new.self = c.reserve.ensures.capacity in
          let kept : vec_capacity c.push_reserved.new.self ≡ vec_capacity c.reserve.new.self = c.push_reserved.ensures.capacity in
          omega arith,
    )

pub returns-clause-whole : goal.returns-clause-whole
returns-clause-whole g c =
    let at = c.loop-command in
    let none = c.in-None.ensures.steps in
    let empty : into_iter_items at.command-iterator ≡ [] = nothing_left _ (sym at.invariant.1 ∙ none.0) in
    let whole =
    run_is_whole g.Q.Element.Words.words g.P.Element.Words.words (shown_by g.H.Backpressure.action) c.args.self.now.description (service_of c.args.self.now)
    c.args.commands.items c.args.replies.now.items at.replies.items (service_of at.self)
    (subst
    (λ cs. HasRun g.Q.Element.Words.words g.P.Element.Words.words (shown_by g.H.Backpressure.action) c.args.self.now.description (service_of c.args.self.now) c.args.commands.items c.args.replies.now.items
    cs at.replies.items (service_of at.self))
    empty at.invariant.0) in
    search rules

pub returns-in_err-reserve-clause-listing : goal.returns-in_err-reserve-clause-listing
returns-in_err-reserve-clause-listing g c =
    let at = c.loop-command in
    let full : vec_capacity at.replies < vec_len at.replies + 1 = c.in_err-reserve.ensures.full in
    let stays : vec_capacity c.reserve.new.self ≡ vec_capacity at.replies = c.in_err-reserve.ensures.err in
    let kept : vec_len c.reserve.new.self ≡ vec_len at.replies = c.reserve.ensures.len in
    let none : vec_len c.reserve.new.self < vec_capacity c.reserve.new.self
    → IsListingAt c.args.commands.items (vec_len c.reserve.new.self - vec_len c.args.replies.now) = λ room. absurd (omega arith) in
    on_err _ none

pub returns-in_err-reply-clause-listing : goal.returns-in_err-reply-clause-listing
returns-in_err-reply-clause-listing g c =
    let at = c.loop-command in
    let steps : into_iter_items at.command-iterator ≡ c.in-Some.command ∷ into_iter_items c.next.new.self = c.in-Some.ensures.steps.0 in
    let kept : vec_len c.reserve.new.self ≡ vec_len at.replies = c.reserve.ensures.len in
    let there : vec_len at.replies ≡ length at.replies.items = at.replies.ok.0 in
    let before : vec_len c.args.replies.now ≡ length c.args.replies.now.items = c.args.replies.now.ok.0 in
    let next : IsListingAt c.args.commands.items (vec_len c.reserve.new.self - vec_len c.args.replies.now) =
    run_lists g.Q.Element.Words.words g.P.Element.Words.words (shown_by g.H.Backpressure.action) c.args.self.now.description (service_of c.args.self.now) c.args.commands.items c.args.replies.now.items
    c.in-Some.command (into_iter_items c.next.new.self) at.replies.items (service_of at.self) (vec_len c.args.replies.now) (vec_len c.reserve.new.self)
    (subst (λ cs. HasRun g.Q.Element.Words.words g.P.Element.Words.words (shown_by g.H.Backpressure.action) c.args.self.now.description (service_of c.args.self.now) c.args.commands.items c.args.replies.now.items cs at.replies.items (service_of at.self)) steps at.invariant.0)
    before (kept ∙ there) c.in_err-reply.ensures.listing in
    let listed : vec_len c.reserve.new.self < vec_capacity c.reserve.new.self
    → IsListingAt c.args.commands.items (vec_len c.reserve.new.self - vec_len c.args.replies.now) = λ room. next in
    on_err _ listed

pub returns-in_err-reserve-clause-capacity : goal.returns-in_err-reserve-clause-capacity
returns-in_err-reserve-clause-capacity g c =
    let was : vec_capacity c.args.replies.now ≤ vec_capacity c.loop-command.replies = c.loop-command.invariant.4 in
    let grown : vec_capacity c.loop-command.replies ≤ vec_capacity c.reserve.new.self = c.reserve.ensures.capacity in
    omega arith

pub returns-in_err-reply-clause-capacity : goal.returns-in_err-reply-clause-capacity
returns-in_err-reply-clause-capacity g c =
    let was : vec_capacity c.args.replies.now ≤ vec_capacity c.loop-command.replies = c.loop-command.invariant.4 in
    let grown : vec_capacity c.loop-command.replies ≤ vec_capacity c.reserve.new.self = c.reserve.ensures.capacity in
    omega arith

pub returns-clause-ran : goal.returns-clause-ran
returns-clause-ran g c =
    run_ends g.Q.Element.Words.words g.P.Element.Words.words (shown_by g.H.Backpressure.action) c.args.self.now.description (service_of c.args.self.now)
    c.args.commands.items c.args.replies.now.items (into_iter_items c.loop-command.command-iterator) c.loop-command.replies.items
    (service_of c.loop-command.self) c.loop-command.invariant.0

pub returns-in_err-reply-clause-ran : goal.returns-in_err-reply-clause-ran
returns-in_err-reply-clause-ran g c =
    rw c.reserve.ensures.items
    (rw c.in_err-reply.ensures.unchanged
    (run_ends g.Q.Element.Words.words g.P.Element.Words.words (shown_by g.H.Backpressure.action) c.args.self.now.description (service_of c.args.self.now)
    c.args.commands.items c.args.replies.now.items (into_iter_items c.loop-command.command-iterator) c.loop-command.replies.items
    (service_of c.loop-command.self) c.loop-command.invariant.0))

pub returns-in_err-reserve-clause-ran : goal.returns-in_err-reserve-clause-ran
returns-in_err-reserve-clause-ran g c =
    rw c.reserve.ensures.items
    (run_ends g.Q.Element.Words.words g.P.Element.Words.words (shown_by g.H.Backpressure.action) c.args.self.now.description (service_of c.args.self.now)
    c.args.commands.items c.args.replies.now.items (into_iter_items c.loop-command.command-iterator) c.loop-command.replies.items
    (service_of c.loop-command.self) c.loop-command.invariant.0)
