-- Writes and reads as functions: they change no way.
use Rattle.std.specs.Prelude.{ℕ, Bool, false, if◌then◌else◌, ◌==◌, ◌++◌}
use Rattle.std.specs.Option.{option_map_or}
use Rattle.iox_model.specs.declared.call.Call.TheVariants.{Write, Read}
use Rattle.iox_model.specs.declared.reply.Refusal.TheVariants.{WrongLength, WantOfMemory}
use Rattle.iox_model.specs.declared.reply.Reply.TheVariants.{Words}
use Rattle.iox_model.specs.Begins.{written, MayChoose}
use Rattle.iox_model.specs.Commands.{Reply, Payload}
use Rattle.iox_model.specs.Doings.{Outcome, Tells, Fills}
use Rattle.iox_model.specs.Handles.{subject}
use Rattle.iox_model.specs.Loans.{Choice}
use Rattle.iox_model.specs.States.{Handle, State}
use Rattle.iox_model.specs.WholeCalls.{IsWholeCall}
use Rattle.iox_laws.specs.CallFunctions.Answers.{answered, unless_misnamed, refusing, of_handle}

-- the payload has as many whole elements as the loan
abbrev pub is_as_long : Handle → Payload → Bool
is_as_long h p = option_map_or (λ k. k == h.message.elements) p.elements false

-- the loan holds the payload, whole
abbrev pub filled_with : State → Payload → Handle → Outcome × State
filled_with s p h =
    if is_as_long h p then (Fills (written h p.words), s) else refusing WrongLength s

-- the whole call of a write
abbrev pub written_by : State → ℕ → ℕ → Payload → Reply × State
written_by s node n p =
    unless_misnamed s node (Write n p)
    (answered s node (of_handle s (subject s.fixed node n) (filled_with s p)))

-- What `written_by` says is a whole call.
abbrev pub EachWriteIsWhole : Type 0
EachWriteIsWhole =
    (s : State) (node n : ℕ) (p : Payload)
    → IsWholeCall s node (Write n p) (written_by s node n p).0 (written_by s node n p).1

-- the words of the user header and of the payload, where there is memory for them
abbrev pub words_told : State → Choice → Handle → Outcome × State
words_told s c h =
    if c.memory then (Tells (Words (h.message.user ++ h.message.payload)), s)
    else refusing WantOfMemory s

-- the whole call of a read
abbrev pub read_by : State → ℕ → ℕ → Choice → Reply × State
read_by s node n c =
    unless_misnamed s node (Read n)
    (answered s node (of_handle s (subject s.fixed node n) (words_told s c)))

-- What `read_by` says is a whole call, where memory may be so.
abbrev pub EachReadIsWhole : Type 0
EachReadIsWhole =
    (s : State) (node n : ℕ) (c : Choice) → MayChoose s.fixed node c (Read n)
    → IsWholeCall s node (Read n) (read_by s node n c).0 (read_by s node n c).1
