use Rattle.iox_model.specs.declared.kind.Role.{Role}
use Rattle.iox_model.specs.declared.kind.Role.TheVariants.{Client, Server}
use Rattle.iox_wire.proofs.opening.are_user_headers_told.Goals as goal

by_role : (P : Role → Type 0) → P Client → P Server → (role : Role) → P role
by_role P client server Client = client
by_role P client server Server = server

pub returns-then-is_user_header_told : goal.returns-then-is_user_header_told
returns-then-is_user_header_told c = (
  λ yes. by_role _ (c.is_user_header_told.ensures.0 c.if-is_user_header_told.true) (c.is_user_header_told-then-is_user_header_told.ensures.0 yes),
  λ all. c.is_user_header_told-then-is_user_header_told.ensures.1 (all Server),
)

pub returns-else-is_user_header_told : goal.returns-else-is_user_header_told
returns-else-is_user_header_told c = (λ yes. absurd (let no : ⊥ = cc in no), λ all. c.is_user_header_told.ensures.1 (all Client))
