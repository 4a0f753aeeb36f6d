-- Calls and replies as a wire keeps them, and the machine's calls and replies that these are.
use Rattle.std.specs.Prelude.{ℕ, ◌≡◌, ◌+◌, ◌*◌, ◌≤◌, Bool, true, false, List, [], length, slice_range}
use Rattle.iox_model.specs.Commands.{Reply}
use Rattle.iox_model.specs.Schedules.{Finished, UnderWay}
use Rattle.iox_model.specs.WireCalls.{WordsCall, in_words}
use Rattle.iox_model.specs.declared.call.Call.TheVariants as calls
use Rattle.iox_model.specs.declared.call.WireCall.TheVariants.{Port}
use Rattle.iox_model.specs.declared.reply.Reply.TheVariants as replies
use Rattle.iox_wire_locals.specs.Doings.{refusal_of}
use Rattle.iox_wire_weaves.specs.Calls.{call_in_words, of_handle}
use Rattle.iox_wire_weaves.specs.NodeCall.{NodeCall}
use Rattle.iox_wire_weaves.specs.NodeReply.{NodeReply}
use Rattle.iox_wire_weaves.specs.NodeReply.TheVariants as node_replies
use Rattle.iox_wire_weaves.specs.Nodes.{reply_in}
use Rattle.iox_wire_weaves.specs.SeatReply.TheVariants as seat_replies
use Rattle.iox_wire.specs.declared.finished.Answer.{Answer}
use Rattle.iox_wire.specs.declared.finished.CallUnderWay.{CallUnderWay}
use Rattle.iox_wire.specs.declared.finished.EndedCall.{EndedCall}
use Rattle.iox_wire.specs.declared.finished.FinishedCall.{FinishedCall}
use Rattle.iox_wire.specs.declared.spans.Span.{Span}
use Rattle.iox_wire.specs.declared.stored_call.StoredCall.{StoredCall}
use Rattle.iox_wire.specs.declared.stored_call.StoredCall.TheVariants as stored
use Rattle.iox_wire.specs.declared.told.ToldCall.{ToldCall}
use Rattle.iox_wire.specs.declared.told.ToldCall.TheVariants as told_calls
use Rattle.iox_wire.specs.declared.told.ToldReply.{ToldReply}
use Rattle.iox_wire.specs.declared.told.ToldReply.TheVariants as told_replies

-- ---- calls

-- a call in words
abbrev pub words_call : NodeCall → WordsCall
words_call call = Port (call_in_words call)

-- so a call is told
abbrev pub told_call : ToldCall → WordsCall
told_call (told_calls.Loan n k) = Port (calls.Loan n k)
told_call (told_calls.Write n words) = Port (calls.Write n words.now)
told_call (told_calls.Send n) = Port (calls.Send n)
told_call (told_calls.SendCopy n words) = Port (calls.SendCopy n words.now)
told_call (told_calls.Receive n) = Port (calls.Receive n)
told_call (told_calls.HasRequests n) = Port (calls.HasRequests n)
told_call (told_calls.Handle n call) = Port (in_words (of_handle call n))

-- the words that it brings
abbrev pub words_brought : ToldCall → List ℕ
words_brought (told_calls.Write n words) = words.now
words_brought (told_calls.SendCopy n words) = words.now
words_brought call = []

-- a call that is kept without its words, with these
abbrev pub call_with : List ℕ → StoredCall → WordsCall
call_with words (stored.Loan n k) = Port (calls.Loan n k)
call_with words (stored.Write n) = Port (calls.Write n words)
call_with words (stored.Send n) = Port (calls.Send n)
call_with words (stored.SendCopy n) = Port (calls.SendCopy n words)
call_with words (stored.Receive n) = Port (calls.Receive n)
call_with words (stored.HasRequests n) = Port (calls.HasRequests n)
call_with words (stored.Handle n call) = Port (in_words (of_handle call n))

-- ---- replies

-- the machine's name of a reply, as it is told
abbrev pub told_reply : ToldReply → Reply
told_reply (told_replies.Handle n) = replies.Handle n
told_reply (told_replies.Sent count) = replies.Sent count
told_reply told_replies.Done = replies.Done
told_reply told_replies.Nothing = replies.Nothing
told_reply (told_replies.Answer answer) = replies.Answer answer
told_reply (told_replies.Words words) = replies.Words words.now
told_reply (told_replies.Refused r) = replies.Refused (refusal_of r)

-- whether it is the answer of a read: no other answers words
abbrev pub is_read : NodeReply → Bool
is_read (node_replies.OfSeat seat_replies.Words) = true
is_read reply = false

-- there are no words, unless it is that
abbrev pub HasWordsIfRead : NodeReply → List ℕ → Type 0
HasWordsIfRead reply words = is_read reply ≡ false → words ≡ []

-- a read has told no more words than so many
abbrev pub IsReadWithin : ℕ → NodeReply → List ℕ → Type 0
IsReadWithin most reply words = is_read reply ≡ true → length words ≤ most

-- ---- finished calls, and those under way

-- the machine's finished call that one stands for
abbrev pub finished_of : FinishedCall → Finished
finished_of f = record {
  node = f.node;
  call = told_call f.call;
  reply = told_reply f.reply;
  begun = f.begun;
  ended = f.ended;
}

-- and one that a call is as it ends
abbrev pub ended_of : EndedCall → Finished
ended_of e = record {
  node = e.node;
  call = told_call e.call;
  reply = reply_in e.words.now e.reply;
  begun = e.begun;
  ended = e.ended;
}

-- and the machine's call under way
abbrev pub under_way_of : CallUnderWay → UnderWay
under_way_of u = record { call = told_call u.call; begun = u.begun }

-- the words of a list from one place to another
abbrev pub words_at : List ℕ → Span → List ℕ
words_at words span = slice_range words span.start span.end

-- the place ends within the list
pub record IsSpan (words : List ℕ) (span : Span) : Type 0 where
  pub order : span.start ≤ span.end
  pub within : span.end ≤ length words

-- the finished call that stands for an answer, whose words are in this list
abbrev pub told_with : List ℕ → Answer → Finished
told_with words a = record {
  node = a.node;
  call = call_with (words_at words a.brought) a.call;
  reply = reply_in (words_at words a.read) a.reply;
  begun = a.begun;
  ended = a.ended;
}

-- The words of an answer are in the list, and one that is no read has read none.
pub record HasItsWords (words : List ℕ) (a : Answer) : Type 0 where
  pub brought : IsSpan words a.brought
  pub read : IsSpan words a.read
  pub none : is_read a.reply ≡ false → a.read.end ≡ a.read.start

-- Finished calls, the most words that one brings, or reads, and how many more find room.
pub record FinishedCalls : Type 0 where
  pub finished : List Finished
  pub longest : ℕ
  pub room : ℕ

-- There is room for so many more, each of which brings, and reads, so many words at most.
pub record HasRoomLeft (room longest : ℕ) (told told_capacity : ℕ) (kept kept_capacity : ℕ)
    : Type 0 where
  pub answers : told + room ≤ told_capacity
  pub words : kept + room * (longest + longest) ≤ kept_capacity

-- The words are no more than so many, for which there is room.
pub record FitsRoom (most : ℕ) (words : List ℕ) (capacity : ℕ) : Type 0 where
  pub few : length words ≤ most
  pub room : most ≤ capacity
