use Rattle.iox_tables.proofs.HubBooks.Received.{requests_keep_order, responses_keep_order}
use Rattle.iox_tables.proofs.HubBooks.Rooms.{requests_take_their_room, responses_take_their_room}
use Rattle.iox_tables.proofs.hub_books.receives.Goals as goal

pub returns-clause-requests : goal.returns-clause-requests
returns-clause-requests c = requests_keep_order

pub returns-clause-responses : goal.returns-clause-responses
returns-clause-responses c = responses_keep_order

pub returns-clause-request_room : goal.returns-clause-request_room
returns-clause-request_room c = requests_take_their_room

pub returns-clause-response_room : goal.returns-clause-response_room
returns-clause-response_room c = responses_take_their_room
