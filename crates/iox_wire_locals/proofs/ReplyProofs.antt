-- By cases of the ending: a number of a new handle is the same on both sides.
use Rattle.std.proofs.Common.{◌≡◌, refl}
use Rattle.iox_model.specs.Handles.{new_number}
use Rattle.iox_model.specs.States.{State}
use Rattle.iox_wire_moments.specs.MomentsOf.{Pools}
use Rattle.iox_wire_locals.specs.declared.local.Ending.TheVariants.{Lends, Sends, Receives}
use Rattle.iox_wire_locals.specs.declared.seat.Seat.{Seat}
use Rattle.iox_wire_locals.specs.Tables.{Setting}
use Rattle.iox_wire_locals.specs.Lendings.{next_handle}
use Rattle.iox_wire_locals.specs.BeginLaws.{Counts, RepliesAreTheMachines}

pub number_is : (p : Setting) (x : Seat) (s : State) (held : Pools) → Counts p x s held
    → new_number s.fixed x.node ≡ next_handle p x
number_is p x s held has = rw has.on_wire (rw has.next_number (rw has.handles_made refl))

pub replies_are_the_machines : RepliesAreTheMachines
replies_are_the_machines p x s held (Lends o slot) has = rw (number_is p x s held has) refl
replies_are_the_machines p x s held (Sends e copied count) has = rw (number_is p x s held has) refl
replies_are_the_machines p x s held (Receives v w slot header) has = rw (number_is p x s held has) refl
replies_are_the_machines p x s held ending has = refl
