-- What `written_by` and `read_by` say is a whole call.
use Rattle.std.specs.Prelude.{ℕ, false, if◌then◌else◌, ◌==◌, ◌++◌, List, Option, Some, None, refl}
use Rattle.std.specs.Option.{option_map_or}
use Rattle.iox_model.specs.declared.call.Call.TheVariants.{Write, Read}
use Rattle.iox_model.specs.declared.reply.Refusal.TheVariants.{WrongLength, WantOfMemory}
use Rattle.iox_model.specs.declared.reply.Reply.TheVariants.{Words, Refused}
use Rattle.iox_model.specs.Begins.{written, writes, begins_at}
use Rattle.iox_model.specs.Doings.{refused, Tells, Fills, Ended}
use Rattle.iox_model.specs.Handles.{subject}
use Rattle.iox_model.specs.States.{Handle, Fixed, State}
use Rattle.iox_laws.specs.CallFunctions.Answers.{refusing, of_handle}
use Rattle.iox_laws.specs.CallFunctions.Contents.{filled_with, words_told, EachWriteIsWhole, EachReadIsWhole}
use Rattle.iox_laws.proofs.CallFunctions.Leads.{NoPayload, Leads, at_end, one_of, is_whole, of_handle_leads, ample}

fills : (f : Fixed) (s : State) (node : ℕ) (h : Handle) (words : List ℕ) (k : Option ℕ)
    → Leads (NoPayload f) s node (writes h k words)
    (if option_map_or (λ n. n == h.message.elements) k false then (Fills (written h words), s) else refusing WrongLength s)
fills f s node h words None = at_end (NoPayload f) s node (Tells (Refused WrongLength)) tt
fills f s node h words (Some k) =
    one_of (NoPayload f) s node (k == h.message.elements) (Ended (Fills (written h words))) (refused WrongLength) (Fills (written h words), s) (refusing WrongLength s)
    (λ e. at_end (NoPayload f) s node (Fills (written h words)) tt) (λ e. at_end (NoPayload f) s node (Tells (Refused WrongLength)) tt)

pub each_write_is_whole : EachWriteIsWhole
each_write_is_whole s node n p =
    is_whole s node (Write n p) ample (of_handle s (subject s.fixed node n) (filled_with s p)) (refl, refl)
    (of_handle_leads (NoPayload s.fixed) s node (begins_at s ample (Write n p)) (filled_with s p) (subject s.fixed node n) tt tt (λ q. refl)
    (λ h. fills s.fixed s node h p.words p.elements))

pub each_read_is_whole : EachReadIsWhole
each_read_is_whole s node n c choice =
    is_whole s node (Read n) c (of_handle s (subject s.fixed node n) (words_told s c)) choice
    (of_handle_leads (NoPayload s.fixed) s node (begins_at s c (Read n)) (words_told s c) (subject s.fixed node n) tt tt (λ q. refl)
    (λ h. one_of (NoPayload s.fixed) s node c.memory (Ended (Tells (Words (h.message.user ++ h.message.payload)))) (refused WantOfMemory)
    (Tells (Words (h.message.user ++ h.message.payload)), s) (refusing WantOfMemory s)
    (λ e. at_end (NoPayload s.fixed) s node (Tells (Words (h.message.user ++ h.message.payload))) tt)
    (λ e. at_end (NoPayload s.fixed) s node (Tells (Refused WantOfMemory)) tt)))
