use Rattle.iceoryx2_ports.specs.Asking.{AsksAs}
use Rattle.std.proofs.Common.{subst, sym}
use Rattle.std.specs.Prelude.{◌∷◌, ℕ, [], flat_map, refl}
use Rattle.iox_model.specs.declared.kind.Role.TheVariants as roles
use Rattle.iox_model.specs.declared.reply.Reply.TheVariants.{Done}
use Rattle.iox_hub_laws.specs.Lending.{payload_of}
use Rattle.iceoryx2_ports.proofs.Coming.{write_brings_nothing}
use Rattle.iox_model.specs.declared.call.Call.TheVariants.{Write}
use Rattle.iox_model.specs.declared.kind.Kind.TheVariants.{RequestMutUninit}
use Rattle.iceoryx2_ports.proofs.Aside.{loan_asks_as_always}
use Rattle.iceoryx2_ports.proofs.Reaching.{keeps_room}
use Rattle.iceoryx2_ports.proofs.Filled.{write_asks_as}
use Rattle.iceoryx2_ports.proofs.Remaining.{write_keeps_requests}
use Rattle.iceoryx2_ports.proofs.SameShapes.{same_shapes}
use Rattle.iceoryx2_ports.proofs.request_mut.RequestMutUninit+One+E+QH+P+PH.write_payload.Goals as goal

pub returns-clause-comes : goal.returns-clause-comes
returns-clause-comes g c =
    write_brings_nothing c.args.hub.now c.write_one_request-filled.new.self c.args.self.node c.args.self.number
    (payload_of roles.Client 1 (flat_map g.E.Words.words (c.args.value ∷ []))) Done
    c.write_one_request-filled.ensures.whole

pub returns-clause-asks : goal.returns-clause-asks
returns-clause-asks g c =
    loan_asks_as_always c.args.hub.now c.write_one_request-filled.new.self c.args.self.node
    (Write c.args.self.number (payload_of roles.Client 1 (flat_map g.E.Words.words (c.args.value ∷ [])))) Done
    refl c.write_one_request-filled.ensures.whole RequestMutUninit refl c.requires.has

pub returns-clause-room : goal.returns-clause-room
returns-clause-room g c =
    keeps_room c.args.hub.now c.write_one_request-filled.new.self c.args.self.node
    (Write c.args.self.number (payload_of roles.Client 1 (flat_map g.E.Words.words (c.args.value ∷ [])))) Done
    refl c.write_one_request-filled.ensures.whole

pub returns-clause-asker : goal.returns-clause-asker
returns-clause-asker g c =
    subst (λ (n : ℕ). AsksAs c.args.hub.now c.args.self.node c.args.self.number c.write_one_request-filled.new.self n c.write_one_request-filled.result.number) (sym c.write_one_request-filled.ensures.node)
    (subst (λ (m : ℕ). AsksAs c.args.hub.now c.args.self.node c.args.self.number c.write_one_request-filled.new.self c.args.self.node m) (sym c.write_one_request-filled.ensures.number)
    (write_asks_as c.args.hub.now c.write_one_request-filled.new.self c.args.self.node c.args.self.number
    (payload_of roles.Client 1 (flat_map g.E.Words.words (c.args.value ∷ []))) Done
    c.write_one_request-filled.ensures.whole RequestMutUninit refl c.requires.has))

pub returns-clause-requests : goal.returns-clause-requests
returns-clause-requests g c =
    write_keeps_requests c.args.hub.now c.write_one_request-filled.new.self c.args.self.node c.args.self.number
    (payload_of roles.Client 1 (flat_map g.E.Words.words (c.args.value ∷ []))) Done
    c.write_one_request-filled.ensures.whole RequestMutUninit refl c.requires.has

pub returns-clause-shapes : goal.returns-clause-shapes
returns-clause-shapes g c =
    same_shapes c.args.hub.now c.write_one_request-filled.new.self c.args.self.node (Write c.args.self.number (payload_of roles.Client 1 (flat_map g.E.Words.words (c.args.value ∷ [])))) Done
    c.write_one_request-filled.ensures.whole
