-- What the words of a call mean holds the words.
use Rattle.std.specs.Prelude.{◌≡◌, ℕ, List, Option, Some, None, refl}
use Rattle.std.proofs.Common.{ap}
use Rattle.iox_model.specs.declared.call.Call.TheVariants.{Loan, LoanUninit, Write, Send, SendCopy, Receive, Read, Release, IsConnected, SetHint, HasHint, HasRequests, HasResponse}
use Rattle.iox_model.specs.declared.call.WireCall.TheVariants.{Forget}
use Rattle.iox_model.specs.declared.call.WireCall.TheVariants as wire_calls
use Rattle.iox_model.specs.Handles.{subject, Subject, ThePort, TheHandle}
use Rattle.iox_model.specs.States.{Fixed}
use Rattle.iox_model.specs.WireCalls.{copied_payload, written_payload, said, in_words}
use Rattle.iox_laws.specs.WeaveLaws.WordLaws.{WordsAreKept}

written_words : (f : Fixed) (x : Option Subject) (words : List ℕ) → (written_payload f x words).words ≡ words
written_words f None words = refl
written_words f (Some (ThePort p)) words = refl
written_words f (Some (TheHandle h)) words = refl

copied_words : (f : Fixed) (x : Option Subject) (words : List ℕ) → (copied_payload f x words).words ≡ words
copied_words f None words = refl
copied_words f (Some (ThePort p)) words = refl
copied_words f (Some (TheHandle h)) words = refl

pub words_are_kept : WordsAreKept
words_are_kept f node (wire_calls.Port (Loan n k)) = refl
words_are_kept f node (wire_calls.Port (LoanUninit n k)) = refl
words_are_kept f node (wire_calls.Port (Write n words)) = ap (λ ws. wire_calls.Port (Write n ws)) (written_words f (subject f node n) words)
words_are_kept f node (wire_calls.Port (Send n)) = refl
words_are_kept f node (wire_calls.Port (SendCopy n words)) = ap (λ ws. wire_calls.Port (SendCopy n ws)) (copied_words f (subject f node n) words)
words_are_kept f node (wire_calls.Port (Receive n)) = refl
words_are_kept f node (wire_calls.Port (Read n)) = refl
words_are_kept f node (wire_calls.Port (Release n)) = refl
words_are_kept f node (wire_calls.Port (IsConnected n)) = refl
words_are_kept f node (wire_calls.Port (SetHint n)) = refl
words_are_kept f node (wire_calls.Port (HasHint n)) = refl
words_are_kept f node (wire_calls.Port (HasRequests n)) = refl
words_are_kept f node (wire_calls.Port (HasResponse n)) = refl
words_are_kept f node (Forget dead) = refl
