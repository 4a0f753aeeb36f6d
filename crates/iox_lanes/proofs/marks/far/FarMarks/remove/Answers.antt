use Rattle.std.proofs.Common.{◌≡◌, ◌<◌, ◌+◌, ◌/◌, ◌∙◌, ℕ, List, length, true, ap, subst, sym, arith}
use Rattle.std.proofs.lemmas.List.{with_items_is}
use Rattle.std.specs.Vec.{with_items}
use Rattle.iox_lanes.specs.Marks.{AreSummed, TellBut, TellsOfWord, is_marked, is_set, word_at}
use Rattle.iox_lanes.proofs.Words.{clear_all}
use Rattle.iox_lanes.proofs.marks.far.FarMarks.remove.Goals as goal

pub invariant_of-self : goal.invariant_of-self
invariant_of-self c =
    let words = c.self.inside.words.items in
    let words' = c.clear_mark.new.words in
    let last = c.clear_up.new.words in
    let bottom = c.self.inside.bottom in
    let at = bottom + c.args.lane / 64 in
    let before : c.deref_mut.result.now ≡ words = c.deref_mut.ensures.value in
    let same : length words' ≡ length words = c.clear_mark.auto.words ∙ ap (λ (ws : List ℕ). length ws) before in
    let first : c.deref_mut-2.result.now ≡ words' =
    c.deref_mut-2.ensures.value ∙ with_items_is c.self.inside.words words' (same ∙ sym c.self.inside.words.ok.0) in
    let same' : length last ≡ length words' = c.clear_up.auto.words ∙ ap (λ (ws : List ℕ). length ws) first in
    let after : (with_items (with_items c.self.inside.words words') last).items ≡ last =
    with_items_is (with_items c.self.inside.words words') last (same' ∙ same ∙ sym c.self.inside.words.ok.0) in
    let room : at < length words = omega (arith, c.if-len-self.false, c.len.ensures) in
    subst (λ (ws : List ℕ). AreSummed ws bottom c.self.inside.levels) (sym after)
    (clear_all words words' last bottom c.self.inside.levels c.args.lane c.self.invariant room same same'
    (λ k ne. c.clear_mark.ensures.others k ne ∙ ap (λ (ws : List ℕ). is_marked ws k) before)
    (λ n ne. c.clear_mark.ensures.words n ne ∙ ap (λ (ws : List ℕ). word_at ws n) before)
    (λ n has. subst (λ (ws : List ℕ). is_set (word_at ws n) ≡ true) before (c.clear_mark.ensures.less n has))
    (λ marks most tells of. c.clear_up.ensures.tells marks most
    (subst (λ (ws : List ℕ). TellBut ws marks at) (sym first) tells)
    (subst (λ (ws : List ℕ). TellsOfWord ws at) (sym first) of)))
