-- The replies of the code as those of the machine.
use Rattle.std.specs.Prelude.{◌≡◌, ℕ, Bool, true, false, ◌||◌, Option, Some, None, MatchOption}
use Rattle.std.specs.Option.{option_map}
use Rattle.std.specs.declared.vec.Vec.{Vec}
use Rattle.iox_model.specs.declared.reply.PortReply as the_reply
use Rattle.iox_model.specs.declared.reply.PortReply.TheVariants.{Client, Server, Handle, Sent, Done, Nothing, Words, Answer, Refused}
use Rattle.iox_model.specs.declared.reply.Refusal as the_refusal
use Rattle.iox_model.specs.declared.reply.Refusal.TheVariants.{UnknownNumber, ForeignNumber, WrongKind, CallsSpent, WrongLength, ExceedsMaxLoanSize, ExceedsMaxLoans, OutOfMemory, WantOfMemory, ExceedsMaxActiveRequests, UnableToDeliver, ExceedsMaxBorrows, UnableToCreatePortTag, UnableToCreateDataSegment, ExceedsMaxSupportedClients, ExceedsMaxSupportedServers}
use Rattle.iox_model.specs.Commands.{PortReply, Refusal, Reply, answer_of}

-- why a hub refuses a command, as the machine says it; a hub knows no nodes and no attributes, and
-- refuses for nothing else
abbrev pub refusal_told : {C : Type 0} → the_refusal.Refusal C → Option Refusal
refusal_told UnknownNumber = Some UnknownNumber
refusal_told ForeignNumber = Some ForeignNumber
refusal_told WrongKind = Some WrongKind
refusal_told CallsSpent = Some CallsSpent
refusal_told WrongLength = Some WrongLength
refusal_told ExceedsMaxLoanSize = Some ExceedsMaxLoanSize
refusal_told ExceedsMaxLoans = Some ExceedsMaxLoans
refusal_told OutOfMemory = Some OutOfMemory
refusal_told WantOfMemory = Some WantOfMemory
refusal_told ExceedsMaxActiveRequests = Some ExceedsMaxActiveRequests
refusal_told UnableToDeliver = Some UnableToDeliver
refusal_told ExceedsMaxBorrows = Some ExceedsMaxBorrows
refusal_told UnableToCreatePortTag = Some UnableToCreatePortTag
refusal_told UnableToCreateDataSegment = Some UnableToCreateDataSegment
refusal_told ExceedsMaxSupportedClients = Some ExceedsMaxSupportedClients
refusal_told ExceedsMaxSupportedServers = Some ExceedsMaxSupportedServers
refusal_told other = None

-- what a hub answers, as the machine says it
abbrev pub reply_told : {C Z : Type 0} → the_reply.PortReply (Vec ℕ Z) C → Option PortReply
reply_told (Client n) = Some (Client n)
reply_told (Server n) = Some (Server n)
reply_told (Handle n) = Some (Handle n)
reply_told (Sent count) = Some (Sent count)
reply_told Done = Some Done
reply_told Nothing = Some Nothing
reply_told (Words words) = Some (Words words.items)
reply_told (Answer told) = Some (Answer told)
reply_told (Refused r) = option_map Refused (refusal_told r)

-- The machine has this reply, and the statement holds of it.
abbrev pub IsToldAnd : {C Z : Type 0} → the_reply.PortReply (Vec ℕ Z) C → (Reply → Type 0) → Type 0
IsToldAnd reply P = MatchOption (reply_told reply) ⊥ (λ r. P (answer_of r))

-- it is this reply of the machine
abbrev pub IsTheReply : {C Z : Type 0} → the_reply.PortReply (Vec ℕ Z) C → Reply → Type 0
IsTheReply reply r = IsToldAnd reply (λ q. q ≡ r)

-- whether memory was wanted for it
abbrev pub wants_memory : {C Z : Type 0} → the_reply.PortReply (Vec ℕ Z) C → Bool
wants_memory (Refused WantOfMemory) = true
wants_memory reply = false

-- whether a port is refused its data segment
abbrev pub wants_segment : {C Z : Type 0} → the_reply.PortReply (Vec ℕ Z) C → Bool
wants_segment (Refused UnableToCreateDataSegment) = true
wants_segment reply = false

-- whether it may tell that there was no memory
abbrev pub tells_want : {C Z : Type 0} → the_reply.PortReply (Vec ℕ Z) C → Bool
tells_want reply = wants_memory reply || wants_segment reply
