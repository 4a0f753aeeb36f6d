use Rattle.std.proofs.Common.{◌+◌, ◌*◌, ◌<◌, ◌∷◌, [], ℕ, get_or, length, sym, ap, ◌∙◌, inl, inr, arith, length-set, get_or-set_same, get_or-set_other}
use Rattle.std.proofs.lemmas.Bool.{cases_eq}
use Rattle.std.proofs.lemmas.List.{drop_more, get_or_default, get_or-replicate, length-replicate, same_lists}
use Rattle.iox_sets.specs.BitWords.{bit_in, numbers_in}
use Rattle.iox_sets.proofs.BitNumberLemmas.{bit_in-there}
use Rattle.iox_sets.proofs.CallLemmas.{IsLeftByCalls-append}
use Rattle.iox_sets.proofs.words.take_bits.Goals as goal

pub tell_bits-callback-requires-clause-numbered : goal.tell_bits-callback-requires-clause-numbered
tell_bits-callback-requires-clause-numbered g c = λ id small is_set.
    c.requires.numbered (c.loop-place.place * 64 + id) (
    bit_in-there c.args.words.now c.loop-place.place id small
    ∙ ap (λ word. bit_in (word ∷ []) id) (sym (c.loop-place.invariant.left c.loop-place.place (omega arith))) ∙ is_set)

pub loop-place-preserved : goal.loop-place-preserved
loop-place-preserved g c =
    let size = c.loop-place.invariant.size in
    let below : c.loop-place.place < length c.loop-place.words = omega arith in
    let same = c.loop-place.invariant.left c.loop-place.place (omega arith) in
    record {
      callable = c.tell_bits-callback.ensures.callable;
      size = length-set c.loop-place.words c.loop-place.place 0 ∙ size;
      passed = λ at before. elim (cases_eq at c.loop-place.place) [
        | inl this ↦ rw (this) (get_or-set_same c.loop-place.words c.loop-place.place 0 0 below)
        | inr other ↦ get_or-set_other c.loop-place.words c.loop-place.place at 0 0 other ∙ c.loop-place.invariant.passed at (omega arith)
      ];
      left = λ at behind. get_or-set_other c.loop-place.words c.loop-place.place at 0 0 (omega arith) ∙ c.loop-place.invariant.left at (omega arith);
      calls = λ rest. c.loop-place.invariant.calls (
        rest.0,
        rw (drop_more c.args.words.now c.loop-place.place 0 (omega arith), ← same)
            (IsLeftByCalls-append (goal.F-step g) _ _ _ (numbers_in c.loop-place.place (get_or c.loop-place.words c.loop-place.place 0)) _ c.tell_bits-callback.ensures.called rest.1),
      );
    }

pub returns-clause-cleared : goal.returns-clause-cleared
returns-clause-cleared g c =
    let size = c.loop-place.invariant.size in
    let zeros = length-replicate {A = ℕ} (length c.args.words.now) 0 in
    same_lists _ _ (omega arith) (λ at default below.
    get_or_default c.loop-place.words at default 0 below ∙ c.loop-place.invariant.passed at (omega arith)
    ∙ sym (get_or-replicate (length c.args.words.now) at 0 default (omega arith)))
