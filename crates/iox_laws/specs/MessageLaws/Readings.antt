-- What is read at a receiver is what was delivered to it.
use Rattle.std.specs.Prelude.{◌≡◌, ℕ, List, ◌++◌, Some, IsTrue}
use Rattle.iox_model.specs.declared.call.Call.TheVariants.{Read}
use Rattle.iox_model.specs.declared.reply.Reply.TheVariants.{Words}
use Rattle.iox_model.specs.Handles.{is_received, way_of, subject, TheHandle}
use Rattle.iox_model.specs.Messages.{Message}
use Rattle.iox_model.specs.Runs.{IsReachableState}
use Rattle.iox_model.specs.States.{Handle, State}
use Rattle.iox_model.specs.WholeCalls.{IsWholeCall}
use Rattle.iox_laws.specs.RunLaws.Traces.{beats_of_reached}
use Rattle.iox_laws.specs.MessageLaws.Holdings.{CameBy}

-- the words of a message: of its user header, and of its payload
abbrev pub words_of : Message → List ℕ
words_of m = m.user ++ m.payload

-- The words that a read answers are those of the message that the handle has.
abbrev pub ReadsItsMessage : Type 0
ReadsItsMessage =
    (s t : State) (node n : ℕ) (words : List ℕ) → IsWholeCall s node (Read n) (Words words) t
    → (h : Handle) × (subject s.fixed node n ≡ Some (TheHandle h)) × (words ≡ words_of h.message)

-- A read of a received handle answers the words of its message, which was delivered on the handle's
-- way and taken there.
abbrev pub ReadAsDelivered : Type 0
ReadAsDelivered =
    (s t : State) (reached : IsReachableState s) (node n : ℕ) (h : Handle) (words : List ℕ)
    → subject s.fixed node n ≡ Some (TheHandle h) → IsTrue (is_received h.kind)
    → IsWholeCall s node (Read n) (Words words) t
    → (words ≡ words_of h.message) × CameBy (way_of h) h.message (beats_of_reached s reached)
