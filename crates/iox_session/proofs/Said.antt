-- What a line says, a line can say: whoever plays what a line means may do so.
use Rattle.std.specs.Prelude.{◌≡◌, ℕ, Bool, true, false, if◌then◌else◌, List, [], ◌∷◌, nat_lt, length, Option, Some, None, Result, Ok, Err, ⊤, refl}
use Rattle.std.proofs.Common.{subst}
use Rattle.iox_script.specs.declared.command.Keyword.{Keyword}
use Rattle.iox_script.specs.declared.command.Keyword.TheVariants as keywords
use Rattle.iox_script.specs.declared.command.LineCause.{LineCause}
use Rattle.iox_script.specs.declared.command.ScriptCommand.{ScriptCommand}
use Rattle.iox_script.specs.Lines.{words_of}
use Rattle.iox_script.specs.Names.{keyword_of, key_of}
use Rattle.iox_script.specs.Numerals.{number_of, bytes_of}
use Rattle.iox_script.specs.Grammar.{◌>>=◌, command_of, id_of, max_line, meaning, named, numbers_of, said_by, value_of}
use Rattle.iox_session.specs.Sessions.{IsSaid}

-- if it is a command, a line can say it
abbrev IsSaidIn : Result ScriptCommand LineCause → Type 0
IsSaidIn (Ok command) = IsSaid command
IsSaidIn (Err cause) = ⊤

-- a step behind another keeps it
then_said : {A : Type 0} (first : Result A LineCause) (second : A → Result ScriptCommand LineCause)
    → ((x : A) → IsSaidIn (second x)) → IsSaidIn (first >>= second)
then_said (Ok x) second each = each x
then_said (Err cause) second each = tt

command_said : (k : Keyword) (words : List (List ℕ)) → IsSaidIn (command_of k words)
command_said keywords.Set [] = tt
command_said keywords.Set (a ∷ []) = tt
command_said keywords.Set (a ∷ b ∷ []) = then_said (key_of a) _ (λ k. then_said (value_of b) _ (λ v. tt))
command_said keywords.Set (a ∷ b ∷ c ∷ rest) = tt
command_said keywords.Create [] = tt
command_said keywords.Create (a ∷ []) = tt
command_said keywords.Create (a ∷ b ∷ []) = tt
command_said keywords.Create (a ∷ b ∷ c ∷ []) = tt
command_said keywords.Create (a ∷ b ∷ c ∷ d ∷ []) = tt
command_said keywords.Create (a ∷ b ∷ c ∷ d ∷ e ∷ []) = then_said (bytes_of a) _ (λ t. then_said (id_of b c d e) _ (λ i. tt))
command_said keywords.Create (a ∷ b ∷ c ∷ d ∷ e ∷ f ∷ rest) = tt
command_said keywords.Open [] = tt
command_said keywords.Open (a ∷ []) = tt
command_said keywords.Open (a ∷ b ∷ []) = tt
command_said keywords.Open (a ∷ b ∷ c ∷ []) = tt
command_said keywords.Open (a ∷ b ∷ c ∷ d ∷ []) = then_said (id_of a b c d) _ (λ i. tt)
command_said keywords.Open (a ∷ b ∷ c ∷ d ∷ e ∷ rest) = tt
command_said keywords.Client [] = tt
command_said keywords.Client (a ∷ []) = tt
command_said keywords.Client (a ∷ b ∷ []) = then_said (number_of a) _ (λ n. then_said (number_of b) _ (λ l. refl))
command_said keywords.Client (a ∷ b ∷ c ∷ rest) = tt
command_said keywords.Server [] = tt
command_said keywords.Server (a ∷ []) = tt
command_said keywords.Server (a ∷ b ∷ []) = then_said (number_of a) _ (λ n. then_said (number_of b) _ (λ l. refl))
command_said keywords.Server (a ∷ b ∷ c ∷ rest) = tt
command_said keywords.SendCopy [] = tt
command_said keywords.SendCopy (a ∷ []) = tt
command_said keywords.SendCopy (a ∷ b ∷ rest) =
    then_said (number_of a) _ (λ n. then_said (number_of b) _ (λ k. then_said (numbers_of rest) _ (λ ws. tt)))
command_said keywords.Receive [] = tt
command_said keywords.Receive (a ∷ []) = tt
command_said keywords.Receive (a ∷ b ∷ []) = then_said (number_of a) _ (λ n. then_said (number_of b) _ (λ k. tt))
command_said keywords.Receive (a ∷ b ∷ c ∷ rest) = tt
command_said keywords.Read [] = tt
command_said keywords.Read (a ∷ []) = tt
command_said keywords.Read (a ∷ b ∷ []) = then_said (number_of a) _ (λ n. then_said (number_of b) _ (λ k. tt))
command_said keywords.Read (a ∷ b ∷ c ∷ rest) = tt

named_said : (k : Option Keyword) (words : List (List ℕ)) → IsSaidIn (named k words)
named_said None words = tt
named_said (Some k) words = command_said k words

words_said : (words : List (List ℕ)) → IsSaidIn (said_by words)
words_said [] = tt
words_said (name ∷ words) = named_said (keyword_of name) words

meaning_said : (line : List ℕ) → IsSaidIn (meaning line)
meaning_said line = step (nat_lt max_line (length line))
  where
    step : (long : Bool) → IsSaidIn (if long then Err Rattle.iox_script.specs.declared.command.LineCause.TheVariants.TooLong else said_by (words_of line))
    step true = tt
    step false = words_said (words_of line)

-- what a line says, a line can say
pub what_a_line_says_is_said : (line : List ℕ) (command : ScriptCommand) → meaning line ≡ Ok command → IsSaid command
what_a_line_says_is_said line command means = subst IsSaidIn means (meaning_said line)
