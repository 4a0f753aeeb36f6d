-- What the end of a call changes of a node's own part, and what it answers.
use Rattle.std.specs.Prelude.{ℕ, ◌+◌, Bool, true, false, if◌then◌else◌, [], ◌∷◌, ◌++◌, map}
use Rattle.iox_model.specs.declared.reply.Reply.TheVariants as replies
use Rattle.iox_model.specs.Commands.{Reply}
use Rattle.iox_model.specs.Handles.{is_request_loan}
use Rattle.iox_model.specs.Maps.{has_number}
use Rattle.iox_model.specs.Peers.{ports_of_node}
use Rattle.iox_wire_locals.specs.declared.table.Entry.{Entry}
use Rattle.iox_wire_locals.specs.declared.local.Ending.{Ending}
use Rattle.iox_wire_locals.specs.declared.local.Ending.TheVariants.{Refuses, Nothing, Done, Answers, Words, Lends, Fills, Sends, FailsToSend, Receives, Drops, Forgets}
use Rattle.iox_wire_locals.specs.declared.seat.Seat.{Seat}
use Rattle.iox_wire_locals.specs.Tables.{Setting, without_entry, with_entry, sent_entry}
use Rattle.iox_wire_locals.specs.NewLoans.{entry_in, received_entry}
use Rattle.iox_wire_locals.specs.Desks.{counts_loan, uses_less, gives_up, forgets_ports, at_desk, at_count, releases_message}
use Rattle.iox_wire_locals.specs.Known.{known}
use Rattle.iox_wire_locals.specs.Doings.{refusal_of}
use Rattle.iox_wire_locals.specs.Lendings.{next_handle}

-- ---- the table

-- one handle more, with a number of its own
abbrev pub gains : Seat → Entry → Seat
gains x e = record x { table = x.table ++ e ∷ []; handles_made = x.handles_made + 1 }

-- that handle is there no more
abbrev pub loses : Seat → Entry → Seat
loses x e = record x { table = without_entry e x.table }

-- ---- sends

-- a request's loan becomes its pending response; a call that made the loan counts it, too
abbrev pub sends_entry : Seat → Entry → Bool → ℕ → Seat
sends_entry x e true count = at_desk (gains x (sent_entry e count)) e.port counts_loan
sends_entry x e false count = record x { table = with_entry (sent_entry e count) x.table }

-- a response's loan is gone, and its message belongs only to the receivers
abbrev pub sends_away : Seat → Entry → Bool → Seat
sends_away x e true = at_desk x e.port (λ d. uses_less e.slot (counts_loan d))
sends_away x e false = at_desk (loses x e) e.port (uses_less e.slot)

-- a loan was sent to so many
abbrev pub after_send : Seat → Entry → Bool → ℕ → Seat
after_send x e copied count =
    if is_request_loan e.kind then sends_entry x e copied count else sends_away x e copied

-- a refused send gives its loan up, which was made all the same
abbrev pub after_refused_send : Seat → Entry → Bool → Seat
after_refused_send x e true = at_desk x e.port (λ d. gives_up e (counts_loan d))
after_refused_send x e false = at_desk (loses x e) e.port (gives_up e)

-- ---- the end

-- a dead node is forgotten, with all that is outstanding to its ports
abbrev pub forgets : Setting → Seat → ℕ → Seat
forgets p x dead = record x {
  forgot = x.forgot ++ dead ∷ [];
  desks = map (forgets_ports (ports_of_node (known p x) dead)) x.desks;
}

-- What the end of a call leaves.
abbrev pub settled : Setting → Seat → Ending → Seat
settled p x (Lends o slot) = at_desk (gains x (entry_in o slot)) o.port counts_loan
settled p x (Sends e copied count) = after_send x e copied count
settled p x (FailsToSend e copied r) = after_refused_send x e copied
settled p x (Receives v w slot header) =
    at_count (gains x (received_entry (next_handle p x) v w slot header)) w (λ n. n + 1)
settled p x (Drops e) = loses (releases_message x e) e
settled p x (Forgets dead) = if has_number dead x.forgot then x else forgets p x dead
-- an answer changes nothing, and what a write fills stands only among the words
settled p x ending = x

-- a request that its call copied has its number told as it is sent
abbrev pub sent_reply : Setting → Seat → Entry → Bool → ℕ → Reply
sent_reply p x e copied count =
    if is_request_loan e.kind
    then (if copied then replies.Handle (next_handle p x) else replies.Sent count)
    else replies.Done

-- What it answers.
abbrev pub reply_of : Setting → Seat → Ending → Reply
reply_of p x (Refuses r) = replies.Refused (refusal_of r)
reply_of p x Nothing = replies.Nothing
reply_of p x Done = replies.Done
reply_of p x (Answers told) = replies.Answer told
reply_of p x (Words words) = replies.Words words
reply_of p x (Lends o slot) = replies.Handle (next_handle p x)
reply_of p x (Fills e words) = replies.Done
reply_of p x (Sends e copied count) = sent_reply p x e copied count
reply_of p x (FailsToSend e copied r) = replies.Refused (refusal_of r)
reply_of p x (Receives v w slot header) = replies.Handle (next_handle p x)
reply_of p x (Drops e) = replies.Done
reply_of p x (Forgets dead) = replies.Done
