use Rattle.iox_port_commands.proofs.copies.send_copy.Goals as goal

pub returns-in-Requests-clause-wanting : goal.returns-in-Requests-clause-wanting
returns-in-Requests-clause-wanting g c = rw c.in-Requests.is (rw (← c.deref.ensures.value) c.copy_request.ensures.wanting)

pub returns-in-Responses-clause-wanting : goal.returns-in-Responses-clause-wanting
returns-in-Responses-clause-wanting g c = rw c.in-Responses.is (rw (← c.deref-in-Responses.ensures.value) c.copy_response.ensures.wanting)

pub returns-in-Requests-clause-grows : goal.returns-in-Requests-clause-grows
returns-in-Requests-clause-grows g c = rw c.in-Requests.is (rw (← c.deref.ensures.value) c.copy_request.ensures.grows)

pub returns-in-Responses-clause-grows : goal.returns-in-Responses-clause-grows
returns-in-Responses-clause-grows g c = rw c.in-Responses.is (rw (← c.deref-in-Responses.ensures.value) c.copy_response.ensures.grows)
