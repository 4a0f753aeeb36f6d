use Rattle.iox_model.specs.declared.kind.Role.TheVariants as roles
use Rattle.iox_hub.proofs.GrowingRoom.{response_has_room}
use Rattle.iox_hub.proofs.LendingCalls.{call_fresh, call_hub, call_left, call_never_wants, call_of, call_whole, call_within, other_has, other_hub, other_left, other_whole, response_call}
use Rattle.iox_hub.proofs.LendingNamed.{active_of_hub}
use Rattle.iox_hub.proofs.KeepingLoans.{loan_is_new, loan_keeps, other_is_new, other_loan_keeps}
use Rattle.iox_hub.proofs.hub.Hub.lend_response_in_room.Goals as goal

pub lend_response_of-lent-requires-clause-active : goal.lend_response_of-lent-requires-clause-active
lend_response_of-lent-requires-clause-active g c = active_of_hub c.self.invariant c.args.self.now c.self.view_is c.args.node c.args.number c.requires.has

pub lend_response_in-requires-clause-responses : goal.lend_response_in-requires-clause-responses
lend_response_in-requires-clause-responses g c =
    call_of c.self.invariant roles.Server _ c.args.uninit c.args.elements c.args.node c.args.number c.lend_response_of-lent.new.control c.in-Handle.l
    (response_call c.self.invariant c.asked_of-asked.result c.args.elements c.args.uninit c.args.node c.args.number c.lend_response_of-lent.new.control _
    c.asked_of-asked.ensures.count c.asked_of-asked.ensures.unfilled c.asked_of-asked.ensures.asked
    (active_of_hub c.self.invariant c.args.self.now c.self.view_is c.args.node c.args.number c.requires.has)
    c.in-Handle.ensures.left c.in-Handle.ensures.order c.in-Handle.ensures.whole)

pub lend_response_in-requires-clause-there : goal.lend_response_in-requires-clause-there
lend_response_in-requires-clause-there g c =
    call_within c.self.invariant roles.Server _ c.args.uninit c.args.elements c.args.node c.args.number c.lend_response_of-lent.new.control c.in-Handle.l
    (response_call c.self.invariant c.asked_of-asked.result c.args.elements c.args.uninit c.args.node c.args.number c.lend_response_of-lent.new.control _
    c.asked_of-asked.ensures.count c.asked_of-asked.ensures.unfilled c.asked_of-asked.ensures.asked
    (active_of_hub c.self.invariant c.args.self.now c.self.view_is c.args.node c.args.number c.requires.has)
    c.in-Handle.ensures.left c.in-Handle.ensures.order c.in-Handle.ensures.whole)

pub lend_response_in-requires-clause-room : goal.lend_response_in-requires-clause-room
lend_response_in-requires-clause-room g c =
    response_has_room c.args.self.now c.self.view_is c.args.node c.args.number c.args.elements c.args.spare c.self.invariant c.requires.has
    c.asked_of-asked.result c.asked_of-asked.ensures.count c.asked_of-asked.ensures.asked c.in-Handle.l c.lend_response_of-lent.new.control c.in-Handle.ensures.left
    c.requires.room

pub invariant_of-self : goal.invariant_of-self
invariant_of-self g c =
    call_hub c.self.invariant roles.Server _ c.args.uninit c.args.elements c.args.node c.args.number c.lend_response_of-lent.new.control c.in-Handle.l
    (response_call c.self.invariant c.asked_of-asked.result c.args.elements c.args.uninit c.args.node c.args.number c.lend_response_of-lent.new.control _
    c.asked_of-asked.ensures.count c.asked_of-asked.ensures.unfilled c.asked_of-asked.ensures.asked
    (active_of_hub c.self.invariant c.args.self.now c.self.view_is c.args.node c.args.number c.requires.has)
    c.in-Handle.ensures.left c.in-Handle.ensures.order c.in-Handle.ensures.whole) _ (c.lend_response_in.ensures g.P.Payload.MANY)

pub invariant_of-self-in_default : goal.invariant_of-self-in_default
invariant_of-self-in_default g c =
    other_hub c.self.invariant roles.Server _ c.args.uninit c.args.elements c.args.node c.args.number c.lend_response_of-lent.new.control c.lend_response_of-lent.result c.in_default.not-Handle
    (response_call c.self.invariant c.asked_of-asked.result c.args.elements c.args.uninit c.args.node c.args.number c.lend_response_of-lent.new.control _
    c.asked_of-asked.ensures.count c.asked_of-asked.ensures.unfilled c.asked_of-asked.ensures.asked
    (active_of_hub c.self.invariant c.args.self.now c.self.view_is c.args.node c.args.number c.requires.has)
    c.lend_response_of-lent.ensures.left c.lend_response_of-lent.ensures.order c.lend_response_of-lent.ensures.whole)

pub returns-in-Handle-clause-left : goal.returns-in-Handle-clause-left
returns-in-Handle-clause-left g c =
    rw (← c.self.view_is) (call_left c.self.invariant roles.Server _ c.args.uninit c.args.elements c.args.node c.args.number c.lend_response_of-lent.new.control c.in-Handle.l
    (response_call c.self.invariant c.asked_of-asked.result c.args.elements c.args.uninit c.args.node c.args.number c.lend_response_of-lent.new.control _
    c.asked_of-asked.ensures.count c.asked_of-asked.ensures.unfilled c.asked_of-asked.ensures.asked
    (active_of_hub c.self.invariant c.args.self.now c.self.view_is c.args.node c.args.number c.requires.has)
    c.in-Handle.ensures.left c.in-Handle.ensures.order c.in-Handle.ensures.whole) _ (c.lend_response_in.ensures g.P.Payload.MANY))

pub returns-in-Handle-clause-whole : goal.returns-in-Handle-clause-whole
returns-in-Handle-clause-whole g c =
    rw (← c.self.view_is) (call_whole c.self.invariant roles.Server _ c.args.uninit c.args.elements c.args.node c.args.number c.lend_response_of-lent.new.control c.in-Handle.l
    (response_call c.self.invariant c.asked_of-asked.result c.args.elements c.args.uninit c.args.node c.args.number c.lend_response_of-lent.new.control _
    c.asked_of-asked.ensures.count c.asked_of-asked.ensures.unfilled c.asked_of-asked.ensures.asked
    (active_of_hub c.self.invariant c.args.self.now c.self.view_is c.args.node c.args.number c.requires.has)
    c.in-Handle.ensures.left c.in-Handle.ensures.order c.in-Handle.ensures.whole) _ (c.lend_response_in.ensures g.P.Payload.MANY))

pub returns-in-Handle-clause-has : goal.returns-in-Handle-clause-has
returns-in-Handle-clause-has g c =
    rw (← c.self.view_is) (call_fresh c.self.invariant roles.Server _ c.args.uninit c.args.elements c.args.node c.args.number c.lend_response_of-lent.new.control c.in-Handle.l
    (response_call c.self.invariant c.asked_of-asked.result c.args.elements c.args.uninit c.args.node c.args.number c.lend_response_of-lent.new.control _
    c.asked_of-asked.ensures.count c.asked_of-asked.ensures.unfilled c.asked_of-asked.ensures.asked
    (active_of_hub c.self.invariant c.args.self.now c.self.view_is c.args.node c.args.number c.requires.has)
    c.in-Handle.ensures.left c.in-Handle.ensures.order c.in-Handle.ensures.whole) _ (c.lend_response_in.ensures g.P.Payload.MANY))

pub returns-in_default : goal.returns-in_default
returns-in_default g c = rw (← c.self.view_is) (record {
  left = other_left c.self.invariant roles.Server _ c.args.uninit c.args.elements c.args.node c.args.number c.lend_response_of-lent.new.control c.lend_response_of-lent.result c.in_default.not-Handle
      (response_call c.self.invariant c.asked_of-asked.result c.args.elements c.args.uninit c.args.node c.args.number c.lend_response_of-lent.new.control _
      c.asked_of-asked.ensures.count c.asked_of-asked.ensures.unfilled c.asked_of-asked.ensures.asked
      (active_of_hub c.self.invariant c.args.self.now c.self.view_is c.args.node c.args.number c.requires.has)
      c.lend_response_of-lent.ensures.left c.lend_response_of-lent.ensures.order c.lend_response_of-lent.ensures.whole);
  whole = other_whole c.self.invariant roles.Server _ c.args.uninit c.args.elements c.args.node c.args.number c.lend_response_of-lent.new.control c.lend_response_of-lent.result c.in_default.not-Handle
      (response_call c.self.invariant c.asked_of-asked.result c.args.elements c.args.uninit c.args.node c.args.number c.lend_response_of-lent.new.control _
      c.asked_of-asked.ensures.count c.asked_of-asked.ensures.unfilled c.asked_of-asked.ensures.asked
      (active_of_hub c.self.invariant c.args.self.now c.self.view_is c.args.node c.args.number c.requires.has)
      c.lend_response_of-lent.ensures.left c.lend_response_of-lent.ensures.order c.lend_response_of-lent.ensures.whole);
  has = other_has c.self.invariant roles.Server _ c.args.uninit c.args.elements c.args.node c.args.number c.lend_response_of-lent.new.control c.lend_response_of-lent.result c.in_default.not-Handle;
  memory = call_never_wants c.self.invariant roles.Server _ c.args.uninit c.args.elements c.args.node c.args.number c.lend_response_of-lent.new.control c.lend_response_of-lent.result
      (response_call c.self.invariant c.asked_of-asked.result c.args.elements c.args.uninit c.args.node c.args.number c.lend_response_of-lent.new.control _
      c.asked_of-asked.ensures.count c.asked_of-asked.ensures.unfilled c.asked_of-asked.ensures.asked
      (active_of_hub c.self.invariant c.args.self.now c.self.view_is c.args.node c.args.number c.requires.has)
      c.lend_response_of-lent.ensures.left c.lend_response_of-lent.ensures.order c.lend_response_of-lent.ensures.whole);
  new = other_is_new c.self.invariant c.args.node c.lend_response_of-lent.result c.in_default.not-Handle;
  keeps = other_loan_keeps c.self.invariant roles.Server _ c.args.uninit c.args.elements c.args.node c.args.number c.lend_response_of-lent.new.control c.lend_response_of-lent.result c.in_default.not-Handle
      (response_call c.self.invariant c.asked_of-asked.result c.args.elements c.args.uninit c.args.node c.args.number c.lend_response_of-lent.new.control _
      c.asked_of-asked.ensures.count c.asked_of-asked.ensures.unfilled c.asked_of-asked.ensures.asked
      (active_of_hub c.self.invariant c.args.self.now c.self.view_is c.args.node c.args.number c.requires.has)
      c.lend_response_of-lent.ensures.left c.lend_response_of-lent.ensures.order c.lend_response_of-lent.ensures.whole);
})

pub returns-in-Handle-clause-keeps : goal.returns-in-Handle-clause-keeps
returns-in-Handle-clause-keeps g c =
    rw (← c.self.view_is) (loan_keeps c.self.invariant roles.Server _ c.args.uninit c.args.elements c.args.node c.args.number c.lend_response_of-lent.new.control c.in-Handle.l
    (response_call c.self.invariant c.asked_of-asked.result c.args.elements c.args.uninit c.args.node c.args.number c.lend_response_of-lent.new.control _
    c.asked_of-asked.ensures.count c.asked_of-asked.ensures.unfilled c.asked_of-asked.ensures.asked
    (active_of_hub c.self.invariant c.args.self.now c.self.view_is c.args.node c.args.number c.requires.has)
    c.in-Handle.ensures.left c.in-Handle.ensures.order c.in-Handle.ensures.whole) _ _ (c.lend_response_in.ensures g.P.Payload.MANY))

pub returns-in-Handle-clause-new : goal.returns-in-Handle-clause-new
returns-in-Handle-clause-new g c =
    rw (← c.self.view_is) (loan_is_new c.self.invariant roles.Server _ c.args.uninit c.args.elements c.args.node c.args.number c.lend_response_of-lent.new.control c.in-Handle.l
    (response_call c.self.invariant c.asked_of-asked.result c.args.elements c.args.uninit c.args.node c.args.number c.lend_response_of-lent.new.control _
    c.asked_of-asked.ensures.count c.asked_of-asked.ensures.unfilled c.asked_of-asked.ensures.asked
    (active_of_hub c.self.invariant c.args.self.now c.self.view_is c.args.node c.args.number c.requires.has)
    c.in-Handle.ensures.left c.in-Handle.ensures.order c.in-Handle.ensures.whole))

pub returns-in-Handle-clause-memory : goal.returns-in-Handle-clause-memory
returns-in-Handle-clause-memory g c =
    call_never_wants c.self.invariant roles.Server _ c.args.uninit c.args.elements c.args.node c.args.number c.lend_response_of-lent.new.control _
    (response_call c.self.invariant c.asked_of-asked.result c.args.elements c.args.uninit c.args.node c.args.number c.lend_response_of-lent.new.control _
    c.asked_of-asked.ensures.count c.asked_of-asked.ensures.unfilled c.asked_of-asked.ensures.asked
    (active_of_hub c.self.invariant c.args.self.now c.self.view_is c.args.node c.args.number c.requires.has)
    c.in-Handle.ensures.left c.in-Handle.ensures.order c.in-Handle.ensures.whole)
