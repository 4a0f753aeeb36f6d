-- A read tells the words that it loaded, and no other call tells words.
use Rattle.std.specs.Prelude.{◌⊎◌, option_map}
use Rattle.std.specs.Option.{option_map_or}
use Rattle.std.proofs.Common.{◌≡◌, ℕ, ◌+◌, ◌==◌, Bool, true, false, if◌then◌else◌, List, [], ◌∷◌, ◌++◌, length, Option, Some, None, refl, ap, sym, subst, ◌∙◌, eqb-true, inl, inr, true≢false}
use Rattle.iox_laws.proofs.WeaveLedger.Truths.{none-some}
use Rattle.iox_model.specs.Commands.{Reply}
use Rattle.iox_model.specs.declared.reply.Reply.TheVariants as replies
use Rattle.iox_model.specs.declared.way.Way.{Way}
use Rattle.iox_model.specs.declared.way.RequestState.{RequestState}
use Rattle.iox_model.specs.Handles.{is_request_loan}
use Rattle.iox_model.specs.Joins.{not_living}
use Rattle.iox_model.specs.Messages.{names}
use Rattle.iox_model.specs.Settings.{is_client}
use Rattle.iox_steps.specs.declared.side.Popping.{Popping}
use Rattle.iox_steps.specs.declared.side.QueueEvent.{QueueEvent}
use Rattle.iox_steps.specs.declared.side.QueueEvent.TheVariants.{HandOut, SeesEmpty}
use Rattle.iox_wire_keeps.specs.Begins.{begin}
use Rattle.iox_wire_keeps.specs.Courses as courses
use Rattle.iox_wire_keeps.specs.Ending.{Ending}
use Rattle.iox_wire_keeps.specs.Ending.TheVariants as endings
use Rattle.iox_wire_keeps.specs.Entry.{Entry}
use Rattle.iox_wire_keeps.specs.Findings as findings
use Rattle.iox_wire_keeps.specs.Following.{LeavesNothing, message_at}
use Rattle.iox_wire_keeps.specs.Known.{free_slots}
use Rattle.iox_wire_keeps.specs.Lendings.{next_handle}
use Rattle.iox_wire_keeps.specs.Local.{Local}
use Rattle.iox_wire_keeps.specs.Local.TheVariants.{Ends, Idle, LendEmpties, LendStores, Reads, ReceiveAsks, ReceiveLoads, SendEnds, Writes}
use Rattle.iox_wire_keeps.specs.Locals.{state_told}
use Rattle.iox_wire_keeps.specs.NewLoan.{NewLoan}
use Rattle.iox_wire_keeps.specs.NewLoans.{entry_in, loan_words, received_length, request_in}
use Rattle.iox_wire_keeps.specs.Nodes.{NodeStands}
use Rattle.iox_wire_keeps.specs.OwnedWords.{HasSlot, Owns}
use Rattle.iox_wire_keeps.specs.ReceiveCourses as receives
use Rattle.iox_wire_keeps.specs.Runs.{Run}
use Rattle.iox_wire_keeps.specs.Seat.{Seat}
use Rattle.iox_wire_keeps.specs.Settlements.{reply_of, sent_reply}
use Rattle.iox_wire_keeps.specs.Stands.{Player, seats_of}
use Rattle.iox_wire_keeps.specs.Steps.{accessed, advance, ending_at}
use Rattle.iox_wire_keeps.specs.Tables.{Setting, words_to_read}
use Rattle.iox_wire_keeps.specs.Visit.{Visit}
use Rattle.iox_wire_keeps.specs.WireStands.{WireStands}
use Rattle.iox_wire_keeps.proofs.Firsts.{IsFirst, first}
use Rattle.iox_wire_keeps.proofs.Quiet as quiet
use Rattle.iox_wire_keeps.proofs.Quiet.{IsQuiet, MovesWords}
use Rattle.iox_wire_keeps.proofs.StepsKept.{shown_same}
use Rattle.iox_wire_needs.specs.ReadWords.{BegunReadsTellNone, ReadsTellMessages, SteppedReadsTellNone, TellsNoWords}
use Rattle.iox_wire_needs.proofs.Copying.{over_is_closed}

-- ---- as a call begins, and over a step

of_first : (local : Local) → IsFirst local → TellsNoWords local
of_first (Ends (endings.Words words)) is = is
of_first local is = tt

pub begun_reads_tell_none : BegunReadsTellNone
begun_reads_tell_none p x call = of_first (begin p x call).local (first p x call)

-- what continues tells nothing
goes_on : (local : Local) → ending_at local ≡ None → TellsNoWords local
goes_on (Ends (endings.Words words)) is = absurd (none-some _ (sym is))
goes_on local is = tt

pub stepped_reads_tell_none : SteppedReadsTellNone
stepped_reads_tell_none p x seen = goes_on _ (over_is_closed p (advance p (accessed x) x.local seen))

-- ---- what is told

-- the words that a place tells of a read
abbrev words_at : Local → Option (List ℕ)
words_at (Ends (endings.Words words)) = Some words
words_at local = None

abbrev is_read : Reply → Bool
is_read (replies.Words words) = true
is_read reply = false

abbrev words_in : Reply → List ℕ
words_in (replies.Words words) = words
words_in reply = []

-- what is known about a send are no words
no_sent : (p : Setting) (y : Seat) (e : Entry) (copied : Bool) (count : ℕ) → is_read (sent_reply p y e copied count) ≡ false
no_sent p y e copied count = by_kind (next_handle p y) (is_request_loan e.kind) copied
  where
    by_kind : (k : ℕ) (b c : Bool) → is_read (if b then (if c then replies.Handle k else replies.Sent count) else replies.Done) ≡ false
    by_kind k true true = refl
    by_kind k true false = refl
    by_kind k false c = refl

module _ (p : Setting) (y : Seat) (told : List ℕ) where
  other : (a : Reply) → is_read a ≡ false → Some a ≡ Some (replies.Words told) → ⊥
  other a none is = true≢false (ap (λ (o : Option Reply). option_map_or is_read o true) (sym is) ∙ none)

  by_ending : (ending : Ending) → Some (reply_of p y ending) ≡ Some (replies.Words told) → words_at (Ends ending) ≡ Some told
  by_ending (endings.Words words) is = ap (λ (o : Option Reply). Some (option_map_or words_in o [])) is
  by_ending (endings.Sends e copied count) is = absurd (other (sent_reply p y e copied count) (no_sent p y e copied count) is)
  by_ending (endings.Refuses r) is = absurd (other _ refl is)
  by_ending endings.Nothing is = absurd (other _ refl is)
  by_ending endings.Done is = absurd (other _ refl is)
  by_ending (endings.Answers answer) is = absurd (other _ refl is)
  by_ending (endings.Lends o slot) is = absurd (other _ refl is)
  by_ending (endings.Fills e words) is = absurd (other _ refl is)
  by_ending (endings.FailsToSend e copied r) is = absurd (other _ refl is)
  by_ending (endings.Receives v w slot header) is = absurd (other _ refl is)
  by_ending (endings.Drops e) is = absurd (other _ refl is)
  by_ending (endings.Forgets dead) is = absurd (other _ refl is)

  by_place : (local : Local) → option_map (reply_of p y) (ending_at local) ≡ Some (replies.Words told) → words_at local ≡ Some told
  by_place (Ends ending) is = by_ending ending is
  by_place (SendEnds d last count) is = absurd (other (sent_reply p y d.loan d.copied count) (no_sent p y d.loan d.copied count) is)
  by_place local is = absurd (none-some _ is)

-- ---- where it is told

-- a place that leaves the words of messages alone tells none
no_words : (local : Local) → IsQuiet local → words_at local ≡ None
no_words (Ends (endings.Words words)) still = absurd still
no_words local still = refl

module _ (p : Setting) (x : Seat) where
  abbrev No : Seat → Type 0
  No y = words_at y.local ≡ None

  either : (b : Bool) (y z : Seat) → No y → No z → No (if b then y else z)
  either true y z here there = here
  either false y z here there = there

  takes_slot : (o : NewLoan) (free : List ℕ) → No (courses.takes_slot x o free)
  takes_slot o [] = refl
  takes_slot o (slot ∷ free) = refl

  loaning : (o : NewLoan) (left : List Way) → No (courses.loaning x o left)
  loaning o [] = takes_slot o (free_slots x o.port)
  loaning o (w ∷ left) = refl

  loan_emptied : (o : NewLoan) (w : Way) (left : List Way) (place : Popping) (event : QueueEvent) → No (findings.loan_emptied x o w left place event)
  loan_emptied o w left place (HandOut slot) = refl
  loan_emptied o w left place SeesEmpty = loaning o left
  loan_emptied o w left place event = refl

  lent : (o : NewLoan) (slot : ℕ) → No (courses.lent p x o slot)
  lent o slot = either o.copies _ _ (no_words _ (quiet.sends p x (entry_in o slot) true)) refl

  took : (v : Visit) (w : Way) (slot : ℕ) (header : List ℕ) (left : List Way) (waiting : Bool) → No (receives.took p x v w slot header left waiting)
  took v w slot header left waiting =
      either (is_client v.role) _ _
      (either (request_in v header == v.request) _ _ refl (no_words _ (quiet.stale p x v w slot left waiting)))
      (either p.limits.fire_and_forget _ _ refl refl)

  judged : (v : Visit) (w : Way) (slot : ℕ) (header : List ℕ) (left : List Way) (waiting : Bool) (shown : RequestState) → No (receives.judged x v w slot header left waiting shown)
  judged v w slot header left waiting shown = either (names shown (request_in v header)) _ _ refl refl

-- the words are those of the message of a place that reads, or there are none
abbrev Told : Setting → Local → List ℕ → Type 0
Told p local told = (told ≡ []) ⊎ ((e : Entry) × (loaded : List ℕ) × (local ≡ Reads e loaded) × (length told ≡ words_to_read p e))

module _ (p : Setting) (x : Seat) (seen : ℕ) (told : List ℕ) where
  some_told : (words : List ℕ) → Some words ≡ Some told → told ≡ words
  some_told words is = sym (ap (λ (o : Option (List ℕ)). option_map_or (λ ws. ws) o []) is)

  none_told : {A : Type 0} (o : Option (List ℕ)) → o ≡ None → o ≡ Some told → A
  none_told o none is = absurd (none-some _ (sym none ∙ is))

  over : (local : Local) → TellsNoWords local → words_at local ≡ Some told → told ≡ []
  over (Ends (endings.Words words)) nothing is = some_told words is ∙ nothing
  over local nothing is = absurd (none-some _ is)

  read : (e : Entry) (loaded words : List ℕ) (b : Bool) → (length words == words_to_read p e) ≡ b
      → words_at (if b then courses.ended x (endings.Words words) else courses.placed x (Reads e words)).local ≡ Some told → length told ≡ words_to_read p e
  read e loaded words true whole is = ap length (some_told words is) ∙ eqb-true (length words) (words_to_read p e) whole
  read e loaded words false some is = absurd (none-some _ is)

  by_quiet : {A : Type 0} (local : Local) → (MovesWords local → ⊥) → words_at (advance p x local seen).local ≡ Some told → A
  by_quiet local still is = none_told _ (no_words _ (quiet.quiet_after p x local seen still)) is

  tell : (local : Local) → x.local ≡ local → TellsNoWords local → words_at (advance p x local seen).local ≡ Some told → Told p local told
  tell Idle at nothing is = none_told _ (ap words_at at) is
  tell (Ends ending) at nothing is = inl (over (Ends ending) nothing (ap words_at (sym at) ∙ is))
  tell (SendEnds d last count) at nothing is = none_told _ (ap words_at at) is
  tell (LendEmpties o w place left) at nothing is = none_told _ (loan_emptied p x o w left _ _) is
  tell (LendStores o slot next) at nothing is = none_told _ (either p x (next + 1 == length (loan_words p o)) _ _ (lent p x o slot) refl) is
  tell (Writes e words next) at nothing is = none_told _ (either p x (next + 1 == length words) _ _ refl refl) is
  tell (Reads e words) at nothing is =
      inr (e, words, refl, read e words (words ++ seen ∷ []) (length (words ++ seen ∷ []) == words_to_read p e) refl is)
  tell (ReceiveLoads v w slot header left waiting) at nothing is =
      none_told _ (either p x (length (header ++ seen ∷ []) == received_length v) _ _ (took p x v w slot (header ++ seen ∷ []) left waiting) refl) is
  tell (ReceiveAsks v w slot header left waiting) at nothing is = none_told _ (judged p x v w slot header left waiting (state_told seen)) is
  tell local at nothing is = by_quiet local (λ moves. moves) is

-- ---- on a wire

module _ (p : Setting) (words : List ℕ) (players : ℕ → Player) (r : Run) (n : ℕ) (wire : WireStands p words players r) (lives : not_living r.last.state n ≡ None) where
  has_slot : (e : Entry) (loaded : List ℕ) → (players n).seat.local ≡ Reads e loaded → HasSlot p e
  has_slot e loaded at =
      let leaves : LeavesNothing (message_at (players n).seat.local) = subst (λ l. LeavesNothing (message_at l)) (sym at) tt in
      let same : seats_of p players n ≡ (players n).seat = shown_same p (players n).seat (players n).seat.local leaves in
      let mine : NodeStands p wire.stands.held r.last.state (players n).seat = subst (NodeStands p wire.stands.held r.last.state) same (wire.stands.nodes n lives) in
      (subst (Owns p (players n).seat.node r.last.state.fixed r.last.state.request_state) at mine.owns.owns).0

pub reads_tell_messages : ReadsTellMessages
reads_tell_messages p words players r n seen told wire lives nothing is =
    let x : Seat = (players n).seat in
    let y : Seat = advance p (accessed x) x.local seen in
    by_told (tell p (accessed x) seen told x.local refl nothing (by_place p y told y.local is))
  where
    by_told : Told p (players n).seat.local told → (told ≡ []) ⊎ ((e : Entry) × HasSlot p e × (length told ≡ words_to_read p e))
    by_told (inl none) = inl none
    by_told (inr (e, loaded, at, long)) = inr (e, has_slot p words players r n wire lives e loaded at, long)
