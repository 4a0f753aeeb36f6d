use Rattle.std.proofs.Common.{arith}
use Rattle.iox_hub.proofs.AllCarried.{length_same}
use Rattle.iox_hub.proofs.all_words.AllWords.len.Goals as goal

pub returns : goal.returns
returns g c =
    let same = length_same c.self.inside.roles.items c.self.inside.requests.items c.self.inside.responses.items _ c.args.self.now c.self.view_is c.self.invariant.0 c.self.invariant.1 in
    omega (arith, same, c.len.ensures, c.self.inside.roles.ok.0)
