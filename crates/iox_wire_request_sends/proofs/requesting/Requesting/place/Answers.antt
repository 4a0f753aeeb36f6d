use Rattle.std.proofs.Common.{refl, subst}
use Rattle.iox_wire_request_sends.specs.contracts.requesting.Requesting.{the_view}
use Rattle.iox_wire_request_sends.specs.Aims.{IsSendOf, SendsItsRequest}
use Rattle.iox_wire_request_sends.specs.RequestDispatches.{Beside, local_of}
use Rattle.iox_wire_request_sends.specs.declared.at.RequestAt.{RequestAt}
use Rattle.iox_wire_request_sends.specs.declared.at.RequestAt.TheVariants as at
use Rattle.iox_wire_request_sends.proofs.requesting.Requesting.place.Goals as goal

its_send : (name : RequestAt) (b : Beside) → IsSendOf b.loan b.copied (local_of name b)
its_send at.Rest b = tt
its_send at.Refuses b = (refl, refl)
its_send at.TellsNobody b = (refl, refl)
its_send at.Empties b = (refl, refl)
its_send at.Looks b = (refl, refl)
its_send at.Opens b = (refl, refl)
its_send at.Pushes b = (refl, refl)
its_send at.Evicts b = (refl, refl)
its_send at.GetsBack b = (refl, refl)

pub returns : goal.returns
returns c = subst SendsItsRequest c.self.view_is (record { kind = c.self.invariant.0; place = its_send c.self.inside.at _ })
