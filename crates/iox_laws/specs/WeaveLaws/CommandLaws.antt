-- The short forms of commands and replies lose nothing.
use Rattle.std.specs.Prelude.{◌≡◌}
use Rattle.iox_model.specs.Commands.{PortCommand, PortReply, asking, answer_of}

-- Two port commands that ask the same of a hub are the same command.
abbrev pub AskingsAreApart : Type 0
AskingsAreApart = (a b : PortCommand) → asking a ≡ asking b → a ≡ b

-- Two replies of a hub that give the same reply of its service are the same reply.
abbrev pub AnswersAreApart : Type 0
AnswersAreApart = (a b : PortReply) → answer_of a ≡ answer_of b → a ≡ b
