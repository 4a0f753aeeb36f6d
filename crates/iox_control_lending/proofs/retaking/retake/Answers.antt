use Rattle.iox_control_lending.proofs.RetakeLemmas.{is_taken_anew, place_there, port_there, slot_there}
use Rattle.iox_control_lending.proofs.retaking.retake.Goals as goal

pub write_anew-requires-clause-port : goal.write_anew-requires-clause-port
write_anew-requires-clause-port c =
    port_there c.args.control.now c.retrieve_but_last.new.control c.args.lender.now c.requires.port c.requires.order c.in-Some.slot c.in-Some.ensures.back

pub write_anew-requires-clause-there : goal.write_anew-requires-clause-there
write_anew-requires-clause-there c =
    place_there c.args.control.now c.retrieve_but_last.new.control c.args.lender.now c.requires.port c.requires.order c.in-Some.slot c.in-Some.ensures.back c.args.at c.requires.there

pub write_anew-requires-clause-slot : goal.write_anew-requires-clause-slot
write_anew-requires-clause-slot c =
    slot_there c.args.control.now c.retrieve_but_last.new.control c.args.lender.now c.requires.port c.requires.order c.in-Some.slot c.in-Some.ensures.back
    c.in-Some.ensures.last.one

pub returns-clause-taken : goal.returns-clause-taken
returns-clause-taken c =
    is_taken_anew c.args.control.now c.retrieve_but_last.new.control c.args.lender.now c.requires.port c.requires.order c.in-Some.slot c.in-Some.ensures.back
    c.in-Some.ensures.order c.args.elements c.write_anew.new.control c.in-Some.ensures.last c.write_anew.ensures
