use Rattle.std.proofs.Common.{refl, subst}
use Rattle.iox_model.specs.declared.kind.Kind.{Kind}
use Rattle.iox_wire_request_sends.specs.Aims.{SendsItsRequest}
use Rattle.iox_wire_request_sends.specs.RequestDispatches.{RequestDispatch}
use Rattle.iox_wire_copies.specs.declared.at.CopierAt.{CopierAt}
use Rattle.iox_wire_copies.specs.declared.at.CopierAt.TheVariants as at
use Rattle.iox_wire_copies.specs.Copiers.{local_of}
use Rattle.iox_wire_copies.specs.Copies.{CopyLoan, IsLoanOf}
use Rattle.iox_wire_copies.specs.CopyCalls.{CopiesItsRequest, HasItsPlace, LendsRequest}
use Rattle.iox_wire_copies.proofs.copying_client.CopyingClient.place.Goals as goal

its_place : (name : CopierAt) (lends : CopyLoan) (sends : RequestDispatch) → LendsRequest name lends.lending.order → IsLoanOf lends.lending.order.kind lends.local → SendsItsRequest sends
    → HasItsPlace name (record { at = name; local = local_of name lends.local sends.local; lends = lends; sends = sends })
its_place at.Rest lends sends is loan send = refl
its_place at.Refuses lends sends is loan send = refl
its_place at.Lends lends sends is loan send = (refl, subst (λ (k : Kind). IsLoanOf k lends.local) is.0 loan)
its_place at.Sends lends sends is loan send = (refl, send)

pub returns : goal.returns
returns c =
    subst CopiesItsRequest c.self.view_is
    (its_place c.self.inside.at c.self.inside.lends c.self.inside.sends c.self.invariant.2 c.place.ensures.kind c.place-2.ensures)
