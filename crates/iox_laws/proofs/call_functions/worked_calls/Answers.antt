use Rattle.iox_laws.proofs.CallFunctions.WorkedCallsHold.{client_lends, server_lends, client_copies, response_pushes_out, full_client_refuses, nobody_awaits, hint_is_told, release_closes, last_release_disconnects}
use Rattle.iox_laws.proofs.call_functions.worked_calls.Goals as goal

pub returns-clause-client_lends : goal.returns-clause-client_lends
returns-clause-client_lends c = client_lends

pub returns-clause-server_lends : goal.returns-clause-server_lends
returns-clause-server_lends c = server_lends

pub returns-clause-client_copies : goal.returns-clause-client_copies
returns-clause-client_copies c = client_copies

pub returns-clause-response_pushes_out : goal.returns-clause-response_pushes_out
returns-clause-response_pushes_out c = response_pushes_out

pub returns-clause-full_client_refuses : goal.returns-clause-full_client_refuses
returns-clause-full_client_refuses c = full_client_refuses

pub returns-clause-nobody_awaits : goal.returns-clause-nobody_awaits
returns-clause-nobody_awaits c = nobody_awaits

pub returns-clause-hint_is_told : goal.returns-clause-hint_is_told
returns-clause-hint_is_told c = hint_is_told

pub returns-clause-release_closes : goal.returns-clause-release_closes
returns-clause-release_closes c = release_closes

pub returns-clause-last_release_disconnects : goal.returns-clause-last_release_disconnects
returns-clause-last_release_disconnects c = last_release_disconnects
