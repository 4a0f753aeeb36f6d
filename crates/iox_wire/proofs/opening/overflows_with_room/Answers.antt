use Rattle.iox_model.specs.declared.kind.Role.{Role}
use Rattle.iox_model.specs.declared.kind.Role.TheVariants.{Client, Server}
use Rattle.iox_wire.proofs.opening.overflows_with_room.Goals as goal

by_role : (P : Role → Type 0) → P Client → P Server → (role : Role) → P role
by_role P client server Client = client
by_role P client server Server = server

pub returns-then-has_room_to_overflow : goal.returns-then-has_room_to_overflow
returns-then-has_room_to_overflow c = (
  λ yes. by_role _ (c.has_room_to_overflow.ensures.0 c.if-has_room_to_overflow.true) (c.has_room_to_overflow-then-has_room_to_overflow.ensures.0 yes),
  λ all. c.has_room_to_overflow-then-has_room_to_overflow.ensures.1 (all Server),
)

pub returns-else-has_room_to_overflow : goal.returns-else-has_room_to_overflow
returns-else-has_room_to_overflow c = (λ yes. absurd (let no : ⊥ = cc in no), λ all. c.has_room_to_overflow.ensures.1 (all Client))
