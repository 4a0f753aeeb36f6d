use Rattle.std.proofs.Common.{refl, subst}
use Rattle.iox_wire_sends.specs.contracts.responding.Responding.{the_view}
use Rattle.iox_wire_sends.specs.Aims.{IsSendOf, SendsItsResponse}
use Rattle.iox_wire_sends.specs.Dispatches.{Beside, local_of}
use Rattle.iox_wire_sends.specs.declared.at.RespondAt.{RespondAt}
use Rattle.iox_wire_sends.specs.declared.at.RespondAt.TheVariants as at
use Rattle.iox_wire_sends.proofs.responding.Responding.place.Goals as goal

its_send : (name : RespondAt) (b : Beside) → IsSendOf b.loan b.copied (local_of name b)
its_send at.Rest b = tt
its_send at.Tells b = (refl, refl)
its_send at.Asks b = (refl, refl)
its_send at.Empties b = ((refl, refl), refl)
its_send at.Looks b = ((refl, refl), refl)
its_send at.Pushes b = ((refl, refl), refl)
its_send at.Evicts b = ((refl, refl), refl)
its_send at.GetsBack b = ((refl, refl), refl)

pub returns : goal.returns
returns c = subst SendsItsResponse c.self.view_is (record { kind = c.self.invariant.2; place = its_send c.self.inside.at _ })
