use Rattle.iox_members.proofs.Kept.{living_so}
use Rattle.iox_members.proofs.members.Members.living.Goals as goal

pub returns-clause-lives : goal.returns-clause-lives
returns-clause-lives g c = living_so c.args.self.now.members c.args.node c.in-Some.member c.in-Some.ensures c.if-not-member.false
