use Rattle.std.specs.Prelude.{None, slice_set}
use Rattle.std.proofs.Common.{◌∙◌, ap, ap₂, arith, sym}
use Rattle.iox_hub.specs.Words.{PoolsCarried, all_carried}
use Rattle.iox_hub.proofs.AllCarried.{length_same, none_set, set_beyond}
use Rattle.iox_hub.proofs.all_words.AllWords.vacate.Goals as goal

pub returns-then-place-len : goal.returns-then-place-len
returns-then-place-len g c =
    ap₂ (λ rs ps. all_carried (slice_set c.self.inside.roles.items c.args.place None) rs ps) c.empty.ensures c.empty-then-place-len.ensures
    ∙ none_set c.self.inside.roles.items c.self.inside.requests.items c.self.inside.responses.items c.args.place _ _
    ∙ ap (λ (w : PoolsCarried). slice_set w.pools c.args.place None) c.self.view_is

pub returns-else-place-len : goal.returns-else-place-len
returns-else-place-len g c =
    let same = length_same c.self.inside.roles.items c.self.inside.requests.items c.self.inside.responses.items _ c.args.self.now c.self.view_is c.self.invariant.0 c.self.invariant.1 in
    sym (set_beyond c.args.self.now.pools c.args.place None (omega (arith, same, c.if-place-len.false, c.len.ensures, c.self.inside.roles.ok.0)))
