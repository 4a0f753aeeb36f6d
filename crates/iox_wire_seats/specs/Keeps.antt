-- What a call that is kept beside the seat leaves there.
use Rattle.std.specs.Prelude.{◌+◌, ◌-◌, ℕ, false, true}
use Rattle.iox_model.specs.declared.way.Way.{Way}
use Rattle.iox_wire_locals.specs.declared.table.Entry.{Entry}
use Rattle.iox_wire_locals.specs.Desks.{at_count, at_desk, delivers, gets_back}
use Rattle.iox_wire_locals.specs.Settlements.{after_refused_send, gains, sends_away, sends_entry}
use Rattle.iox_wire_locals.specs.Steps.{accessed}
use Rattle.iox_wire_seats.specs.Seats.{Placed}

-- one more access is counted
abbrev pub counted : Placed → Placed
counted x = record x { seat = accessed x.seat }

-- there is one handle more, of a message that came on that way
abbrev pub gains_received : Placed → Entry → Way → Placed
gains_received x e w = record x { seat = at_count (gains x.seat e) w (λ n. n + 1); room = x.room - 1 }

-- the message of a slot of that port was delivered on the way
abbrev pub delivered : Placed → ℕ → Way → ℕ → Placed
delivered x port w slot = record x { seat = at_desk x.seat port (delivers w slot) }

-- it was got back from there
abbrev pub got_back : Placed → ℕ → Way → ℕ → Placed
got_back x port w slot = record x { seat = at_desk x.seat port (gets_back w slot) }

-- a loaned request was sent to so many
abbrev pub requested : Placed → Entry → ℕ → Placed
requested x e count = record x { seat = sends_entry x.seat e false count }

-- ---- of a loan that its own call made

-- a response was sent
abbrev pub copied_away : Placed → Entry → Placed
copied_away x e = record x { seat = sends_away x.seat e true }

-- it is given up
abbrev pub copy_given_up : Placed → Entry → Placed
copy_given_up x e = record x { seat = after_refused_send x.seat e true }
