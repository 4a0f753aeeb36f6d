-- Each turn keeps the queue: over words by their places, over a list of words, and over words that are told one change at a time.
use Rattle.std.proofs.Common.{◌≡◌, ℕ, ◌+◌, ◌≤◌, None, List, length, get_or, ◌∙◌, arith}
use Rattle.iox_steps.specs.declared.site.Site.{Site}
use Rattle.iox_steps.specs.declared.side.Pushing.{Pushing}
use Rattle.iox_steps.specs.declared.side.Popping.{Popping}
use Rattle.iox_steps.specs.Accesses.{place_of, change_of, seen_by, word_after, words_after, IsWithin, ChangesWord, AreApart}
use Rattle.iox_steps.specs.Sites.{size}
use Rattle.iox_steps.specs.Sides.{pushing_access, popping_access}
use Rattle.iox_steps.specs.Fits.{write_of, Fits}
use Rattle.iox_steps.specs.EventLists.{write_after}
use Rattle.iox_steps.specs.Answers.{ReplyIsTrue, OnProgress, unpublished_after}
use Rattle.iox_steps.specs.Laws.{Turn, pushing_turn, popping_turn, KeepsQueue, KeepsInList}
use Rattle.iox_steps.proofs.AccessLemmas.{changed_are_after, changes_outside, after_changes, list_changes, length-words_after, within_wider}
use Rattle.iox_steps.proofs.PushSteps.{StepsTo, pushing_step}
use Rattle.iox_steps.proofs.PopSteps.{popping_step}
use Rattle.iox_steps.proofs.Frames.{fits_frame, fits_apart, apart_sym, pushing_within, popping_within}
use Rattle.iox_steps.proofs.Writes.{pushing_writes, popping_writes}
use Rattle.iox_steps.proofs.AnswerLemmas.{pushing_answers, popping_answers, pushing_own, popping_own}

-- a turn whose parts are known, at words of which one changed as its access says
turn_keeps : (site : Site) (word word' : ℕ → ℕ) (waiting hand : List ℕ) (turn : Turn)
    → IsWithin site.base (size site) turn.access → StepsTo site word waiting hand turn
    → write_of site (word_after turn.access word) ≡ write_after turn.event (write_of site word)
    → ReplyIsTrue turn.own turn.answer turn.event
    → OnProgress turn.answer (turn.own_after ≡ unpublished_after turn.event turn.own) (λ reply. turn.own_after ≡ None)
    → ChangesWord word (place_of turn.access) (change_of turn.access (word (place_of turn.access))) word'
    → KeepsQueue site word word' waiting hand turn
turn_keeps site word word' waiting hand turn within steps writes answers own changes =
    let same = changed_are_after turn.access word word' changes in
    record {
      within = within;
      changes = changes;
      outside = λ at out. changes_outside turn.access word word' site.base (size site) at changes within out;
      is_true = steps.0;
      counts = same site.base ∙ writes;
      fits = fits_frame site (word_after turn.access word) word' _ _ turn.pushes turn.pops (λ at place. same at) steps.1;
      answers = answers;
      own_stays = own;
    }

module _ (site : Site) (word : ℕ → ℕ) (waiting hand : List ℕ) (pushes : Pushing) (pops : Popping)
    (fits : Fits site word waiting hand pushes pops) where
  pub pushing_keeps_changed : (word' : ℕ → ℕ) → let access = pushing_access site pushes in
      ChangesWord word (place_of access) (change_of access (word (place_of access))) word'
      → KeepsQueue site word word' waiting hand (pushing_turn site word pushes pops)
  pushing_keeps_changed word' changes = turn_keeps site word word' waiting hand (pushing_turn site word pushes pops)
      (pushing_within site word waiting hand pushes fits.push) (pushing_step site word waiting hand pushes pops fits)
      (pushing_writes site word waiting hand pushes pops fits)
      (pushing_answers site word waiting hand pushes (seen_by (pushing_access site pushes) word) fits.push)
      (pushing_own site pushes (seen_by (pushing_access site pushes) word)) changes

  pub popping_keeps_changed : (word' : ℕ → ℕ) → let access = popping_access site pops in
      ChangesWord word (place_of access) (change_of access (word (place_of access))) word'
      → KeepsQueue site word word' waiting hand (popping_turn site word pushes pops)
  popping_keeps_changed word' changes = turn_keeps site word word' waiting hand (popping_turn site word pushes pops)
      (popping_within site word waiting pops fits.ring.bounded fits.pop) (popping_step site word waiting hand pushes pops fits)
      (popping_writes site word pops waiting fits.pop)
      (popping_answers site pops (seen_by (popping_access site pops) word))
      (popping_own (popping_turn site word pushes pops).answer (popping_turn site word pushes pops).event) changes

  pub pushing_keeps : KeepsQueue site word (word_after (pushing_access site pushes) word) waiting hand (pushing_turn site word pushes pops)
  pushing_keeps = pushing_keeps_changed (word_after (pushing_access site pushes) word) (after_changes (pushing_access site pushes) word)

  pub popping_keeps : KeepsQueue site word (word_after (popping_access site pops) word) waiting hand (popping_turn site word pushes pops)
  popping_keeps = popping_keeps_changed (word_after (popping_access site pops) word) (after_changes (popping_access site pops) word)

module _ (site : Site) (words waiting hand : List ℕ) (pushes : Pushing) (pops : Popping) (room : site.base + size site ≤ length words)
    (fits : Fits site (λ place. get_or words place 0) waiting hand pushes pops) where
  in_list : (turn : Turn) → IsWithin site.base (size site) turn.access
      → (IsWithin 0 (length words) turn.access
      → KeepsQueue site (λ place. get_or words place 0) (λ place. get_or (words_after turn.access words) place 0) waiting hand turn)
      → KeepsInList site words waiting hand turn
  in_list turn within keeps =
      let inside = within_wider turn.access site.base (size site) 0 (length words) (omega arith) (omega arith) within in
      let kept = keeps inside in
      (inside, (length-words_after turn.access words, kept.outside), kept)

  pub pushing_keeps_in_list : KeepsInList site words waiting hand (pushing_turn site (λ place. get_or words place 0) pushes pops)
  pushing_keeps_in_list =
      let word : ℕ → ℕ = λ place. get_or words place 0 in
      in_list (pushing_turn site word pushes pops) (pushing_within site word waiting hand pushes fits.push)
      (λ inside. pushing_keeps_changed site word waiting hand pushes pops fits _ (list_changes (pushing_access site pushes) words inside))

  pub popping_keeps_in_list : KeepsInList site words waiting hand (popping_turn site (λ place. get_or words place 0) pushes pops)
  popping_keeps_in_list =
      let word : ℕ → ℕ = λ place. get_or words place 0 in
      in_list (popping_turn site word pushes pops) (popping_within site word waiting pops fits.ring.bounded fits.pop)
      (λ inside. popping_keeps_changed site word waiting hand pushes pops fits _ (list_changes (popping_access site pops) words inside))

-- a queue elsewhere in the list is as it was
pub others_keep : (site other : Site) (words waiting hand waiting' hand' : List ℕ) (pushes' : Pushing) (pops' : Popping) (turn : Turn)
    → KeepsInList site words waiting hand turn → AreApart site.base (size site) other.base (size other)
    → Fits other (λ place. get_or words place 0) waiting' hand' pushes' pops'
    → Fits other (λ place. get_or (words_after turn.access words) place 0) waiting' hand' pushes' pops'
others_keep site other words waiting hand waiting' hand' pushes' pops' turn keeps apart fits =
    fits_apart other (λ place. get_or words place 0) (λ place. get_or (words_after turn.access words) place 0)
    waiting' hand' pushes' pops' site.base (size site) keeps.2.outside (apart_sym site.base (size site) other.base (size other) apart) fits
