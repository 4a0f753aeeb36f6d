-- Where a player stands after each kind of step.
use Rattle.std.proofs.Common.{◌≡◌, ℕ, ◌+◌, ◌-◌, List, [], ◌∷◌, ◌++◌, map, length, take, Result, refl, sym, ap, ap₂, subst, ◌∙◌, append_assoc, append-nil, arith}
use Rattle.std.proofs.lemmas.List.{length_push, length-map}
use Rattle.iox_script.specs.declared.command.LineCause.{LineCause}
use Rattle.iox_script.specs.declared.command.ScriptCommand.{ScriptCommand}
use Rattle.iox_script.specs.declared.reply.ScriptReply.{ScriptReply}
use Rattle.iox_script.specs.Lines.{ended_lines, rest_of}
use Rattle.iox_script.specs.Grammar.{meaning}
use Rattle.iox_script.proofs.LineLemmas.{ended_lines-append_none, rest_of-append_none, ended_lines-append_line, rest_of-append_line}
use Rattle.iox_run.specs.declared.run.player.Player.{Player}
use Rattle.iox_session.specs.SessionStates.{SessionState, new_session}
use Rattle.iox_session.specs.Shown.{session_of}
use Rattle.iox_run.specs.Answers.{AreReplies, answer_text}
use Rattle.iox_run.specs.Cuts.{HasNoLineFeed}
use Rattle.iox_run.specs.Standings.{AnswersLine, kept, IsAsFar, Goes, IsSent, Waits}
use Rattle.iox_run.proofs.RunAnswers.{AreReplies-push, AreReplies-length, answer_texts-push, saids-push, meaning-kept, kept-nil, nil_from_kept, kept-append}

-- before the first byte
pub Stands-new : (player : Player) → session_of player.session ≡ new_session → player.count ≡ 0 → player.line.items ≡ []
    → player.answers.items ≡ [] → IsAsFar [] [] player
Stands-new player session count line answers = record { replies = []; played = session; count = count; line = line ∙ sym kept-nil; answers = answers }

-- the same state of the session, after lines that are the same
AreReplies-same : (lines lines' : List (List ℕ)) (replies : List (Result ScriptReply LineCause)) (m m' : SessionState)
    → AreReplies new_session (map meaning lines) replies m → lines' ≡ lines → m' ≡ m
    → AreReplies new_session (map meaning lines') replies m'
AreReplies-same lines lines' replies m m' played same left =
    subst (λ s. AreReplies new_session (map meaning lines') replies s) (sym left)
    (subst (λ ls. AreReplies new_session (map meaning ls) replies m) (sym same) played)

pub Goes-nil : (player : Player) → Goes [] [] player player
Goes-nil player script sent stands =
    subst (λ s. IsAsFar (script ++ []) s player) (sym (append-nil sent)) (subst (λ s. IsAsFar s sent player) (sym (append-nil script)) stands)

pub Goes-trans : (bytes more bytes' more' : List ℕ) (a b c : Player) → Goes bytes more a b
    → Goes bytes' more' b c → Goes (bytes ++ bytes') (more ++ more') a c
Goes-trans bytes more bytes' more' a b c first second script sent stands =
    let stands' = second (script ++ bytes) (sent ++ more) (first script sent stands) in
    subst (λ s. IsAsFar (script ++ (bytes ++ bytes')) s c) (append_assoc sent more more')
    (subst (λ s. IsAsFar s ((sent ++ more) ++ more') c) (append_assoc script bytes bytes') stands')

-- all that waits is sent
pub Goes-sent : (more : List ℕ) (a b : Player) → Waits a b → more ≡ a.answers.items → IsSent b
    → Goes [] more a b
Goes-sent more a b same all none script sent stands =
    let lines : ended_lines (script ++ []) ≡ ended_lines script = ap ended_lines (append-nil script) in record {
      replies = stands.replies;
      played = AreReplies-same (ended_lines script) (ended_lines (script ++ [])) stands.replies (session_of a.session) (session_of b.session) stands.played lines (ap session_of same.session);
      count = same.count ∙ stands.count ∙ ap length (sym lines);
      line = same.line ∙ stands.line ∙ ap (λ s. kept (rest_of s)) (sym (append-nil script));
      answers = ap (λ t. (sent ++ more) ++ t) none ∙ append-nil (sent ++ more) ∙ ap (λ t. sent ++ t) all
          ∙ stands.answers;
    }

-- bytes with no line feed
pub Goes-kept : (bytes : List ℕ) (a b : Player) → HasNoLineFeed bytes → b.session ≡ a.session
    → b.count ≡ a.count
    → b.line.items ≡ a.line.items ++ take (65537 - length a.line.items) bytes
    → b.answers.items ≡ a.answers.items → Goes bytes [] a b
Goes-kept bytes a b none session count line answers script sent stands =
    let same : ended_lines (script ++ bytes) ≡ ended_lines script = ended_lines-append_none script bytes none in
    let grown = kept-append (rest_of script) bytes in
    let rest = rest_of-append_none script bytes none in record {
      replies = stands.replies;
      played = AreReplies-same (ended_lines script) (ended_lines (script ++ bytes)) stands.replies (session_of a.session) (session_of b.session) stands.played same (ap session_of session);
      count = count ∙ stands.count ∙ ap length (sym same);
      line = line ∙ ap (λ front. front ++ take (65537 - length front) bytes) stands.line ∙ grown
          ∙ ap kept (sym rest);
      answers = ap₂ (λ s t. s ++ t) (append-nil sent) answers ∙ stands.answers;
    }

-- what the line says that the bytes end
pub said_from_bytes : (script sent bytes : List ℕ) (player : Player) → IsAsFar script sent player
    → player.line.items ≡ [] → meaning (rest_of script ++ bytes) ≡ meaning bytes
said_from_bytes script sent bytes player stands none =
    ap (λ front. meaning (front ++ bytes)) (nil_from_kept (rest_of script) (sym stands.line ∙ none))

pub said_from_kept : (script sent bytes line : List ℕ) (player : Player) → IsAsFar script sent player
    → line ≡ player.line.items ++ take (65537 - length player.line.items) bytes
    → meaning (rest_of script ++ bytes) ≡ meaning line
said_from_kept script sent bytes line player stands grown =
    sym (meaning-kept (rest_of script ++ bytes))
    ∙ ap meaning (sym (kept-append (rest_of script) bytes) ∙ ap (λ front. front ++ take (65537 - length front) bytes) (sym stands.line) ∙ sym grown)

-- a line feed ends a line that says so
pub Goes-line : (bytes : List ℕ) (said : Result ScriptCommand LineCause) (a b : Player) → HasNoLineFeed bytes
    → ((script sent : List ℕ) → IsAsFar script sent a → meaning (rest_of script ++ bytes) ≡ said)
    → AnswersLine (a.count + 1) said (session_of a.session) (session_of b.session) a.answers.items b.answers.items
    → b.count ≡ a.count + 1 → b.line.items ≡ [] → Goes (bytes ++ 10 ∷ []) [] a b
Goes-line bytes said a b none says answered count line script sent stands =
    let ended = ended_lines script in
    let last = rest_of script ++ bytes in
    let answer = answered.0 in
    let saying : meaning last ≡ said = says script sent stands in
    let more : ended_lines (script ++ (bytes ++ 10 ∷ [])) ≡ ended ++ last ∷ [] = ended_lines-append_line script bytes [] none in
    let pushed : map meaning (ended ++ last ∷ []) ≡ map meaning ended ++ said ∷ [] =
    saids-push ended last ∙ ap (λ s. map meaning ended ++ s ∷ []) saying in
    let played = AreReplies-push new_session (map meaning ended) stands.replies (session_of a.session) said answer (session_of b.session) stands.played answered.1 in
    let played' : AreReplies new_session (map meaning (ended ++ last ∷ [])) (stands.replies ++ answer ∷ []) (session_of b.session) =
    subst (λ saids. AreReplies new_session saids (stands.replies ++ answer ∷ []) (session_of b.session)) (sym pushed) played in
    let told = AreReplies-length new_session (map meaning ended) stands.replies (session_of a.session) stands.played ∙ length-map ended meaning in
    let number : a.count + 1 ≡ 1 + length stands.replies = omega (arith, stands.count, told) in record {
      replies = stands.replies ++ answer ∷ [];
      played = AreReplies-same (ended ++ last ∷ []) (ended_lines (script ++ (bytes ++ 10 ∷ []))) (stands.replies ++ answer ∷ []) (session_of b.session) (session_of b.session) played' more refl;
      count = count ∙ ap (λ n. n + 1) stands.count ∙ sym (length_push ended last) ∙ ap length (sym more);
      line = line ∙ sym kept-nil ∙ ap kept (sym (rest_of-append_line script bytes []));
      answers =
          ap₂ (λ s t. s ++ t) (append-nil sent) answered.2
          ∙ sym (append_assoc sent a.answers.items (answer_text (a.count + 1) answer))
          ∙ ap₂ (λ t n. t ++ answer_text n answer) stands.answers number
          ∙ sym (answer_texts-push 1 stands.replies answer);
    }
