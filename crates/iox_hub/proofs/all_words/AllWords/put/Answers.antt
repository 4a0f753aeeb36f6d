use Rattle.std.proofs.Common.{◌∙◌, ap, arith}
use Rattle.iox_hub.specs.Fits.{carried_in}
use Rattle.iox_hub.proofs.AllCarried.{none_more, set_else, set_there}
use Rattle.iox_hub.proofs.all_words.AllWords.put.Goals as goal

pub loop-self-preserved : goal.loop-self-preserved
loop-self-preserved g c = (
  omega (arith, c.loop-self.invariant.0, c.push_none.ensures.room),
  λ q. ap (λ ws. carried_in ws q) c.push_none.ensures.pools ∙ none_more c.loop-self.self.pools q ∙ c.loop-self.invariant.1 q,
)

pub returns-in-Requests : goal.returns-in-Requests
returns-in-Requests g c =
    rw c.in-Requests.is (record {
      there = ap (λ ws. carried_in ws c.args.place) c.set_requests.ensures ∙ set_there c.loop-self.self.pools c.args.place _ (omega (arith, c.loop-self-test.false, c.len.ensures));
      others = λ q other. ap (λ ws. carried_in ws q) c.set_requests.ensures ∙ set_else c.loop-self.self.pools c.args.place q _ other ∙ c.loop-self.invariant.1 q;
    })

pub returns-in-Responses : goal.returns-in-Responses
returns-in-Responses g c =
    rw c.in-Responses.is (record {
      there = ap (λ ws. carried_in ws c.args.place) c.set_responses.ensures ∙ set_there c.loop-self.self.pools c.args.place _ (omega (arith, c.loop-self-test.false, c.len.ensures));
      others = λ q other. ap (λ ws. carried_in ws q) c.set_responses.ensures ∙ set_else c.loop-self.self.pools c.args.place q _ other ∙ c.loop-self.invariant.1 q;
    })
