use Rattle.std.proofs.Common.{sym, subst, ◌∙◌}
use Rattle.iox_wire_sends.specs.Aims.{IsToldOf}
use Rattle.iox_wire_copies.proofs.RespondLemmas.{answers_there}
use Rattle.iox_wire_copies.proofs.copying_server.CopyingServer.begin.Goals as goal

pub returns-clause-aimed : goal.returns-clause-aimed
returns-clause-aimed c p lender server port number returning payloads knows of_slot = (
  c.lend_response.ensures.aimed p lender server number returning payloads of_slot,
  λ loan there.
      subst (IsToldOf p loan) (sym c.prepare.ensures.terms)
      (knows loan (there ∙ answers_there c.lend_response.new.self.lending.order c.args.request c.args.lender.now.port c.lend_response.ensures.response c.lend_response.ensures.ordered.1 port)),
)
