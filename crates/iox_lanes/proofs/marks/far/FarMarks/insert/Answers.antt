use Rattle.std.proofs.Common.{◌≡◌, ◌<◌, ◌+◌, ◌*◌, ◌/◌, ◌∙◌, ℕ, List, length, ap, subst, sym, arith}
use Rattle.std.proofs.lemmas.List.{with_items_is}
use Rattle.std.specs.Vec.{with_items}
use Rattle.iox_lanes.specs.Marks.{AreSummed, FarState, far_room, TellBut, is_marked, word_at}
use Rattle.iox_lanes.proofs.Words.{set_all}
use Rattle.iox_lanes.proofs.marks.far.FarMarks.insert.Goals as goal

pub invariant_of-self : goal.invariant_of-self
invariant_of-self c =
    let words = c.self.inside.words.items in
    let words' = c.set_mark.new.words in
    let last = c.set_up.new.words in
    let bottom = c.self.inside.bottom in
    let at = bottom + c.args.lane / 64 in
    let before : c.deref_mut.result.now ≡ words = c.deref_mut.ensures.value in
    let same : length words' ≡ length words = c.set_mark.auto.words ∙ ap (λ (ws : List ℕ). length ws) before in
    let first : c.deref_mut-2.result.now ≡ words' =
    c.deref_mut-2.ensures.value ∙ with_items_is c.self.inside.words words' (same ∙ sym c.self.inside.words.ok.0) in
    let same' : length last ≡ length words' = c.set_up.auto.words ∙ ap (λ (ws : List ℕ). length ws) first in
    let after : (with_items (with_items c.self.inside.words words') last).items ≡ last =
    with_items_is (with_items c.self.inside.words words') last (same' ∙ same ∙ sym c.self.inside.words.ok.0) in
    let room : at < length words =
    let room : c.args.lane < far_room (record { words = words; bottom = bottom }) =
    subst (λ (m : FarState). c.args.lane < far_room m) (sym c.self.view_is) c.requires.room in
    omega (arith, room) in
    subst (λ (ws : List ℕ). AreSummed ws bottom c.self.inside.levels) (sym after)
    (set_all words words' last bottom c.self.inside.levels c.args.lane c.self.invariant room same same'
    (λ k ne. c.set_mark.ensures.others k ne ∙ ap (λ (ws : List ℕ). is_marked ws k) before)
    (λ n ne. c.set_mark.ensures.words n ne ∙ ap (λ (ws : List ℕ). word_at ws n) before)
    c.set_mark.ensures.here
    (λ marks most tells. c.set_up.ensures.tells marks most
    (subst (λ (ws : List ℕ). TellBut ws marks at) (sym first) tells)))

pub returns-clause-others : goal.returns-clause-others
returns-clause-others c k ne =
    let words = c.self.inside.words.items in
    let words' = c.set_mark.new.words in
    let last = c.set_up.new.words in
    let bottom = c.self.inside.bottom in
    let at = bottom + c.args.lane / 64 in
    let before : c.deref_mut.result.now ≡ words = c.deref_mut.ensures.value in
    let same : length words' ≡ length words = c.set_mark.auto.words ∙ ap (λ (ws : List ℕ). length ws) before in
    let first : c.deref_mut-2.result.now ≡ words' =
    c.deref_mut-2.ensures.value ∙ with_items_is c.self.inside.words words' (same ∙ sym c.self.inside.words.ok.0) in
    let same' : length last ≡ length words' = c.set_up.auto.words ∙ ap (λ (ws : List ℕ). length ws) first in
    let after : (with_items (with_items c.self.inside.words words') last).items ≡ last =
    with_items_is (with_items c.self.inside.words words') last (same' ∙ same ∙ sym c.self.inside.words.ok.0) in
    let room : at < length words =
    let room : c.args.lane < far_room (record { words = words; bottom = bottom }) =
    subst (λ (m : FarState). c.args.lane < far_room m) (sym c.self.view_is) c.requires.room in
    omega (arith, room) in
    let wide = c.self.invariant.wide in
    let mark = 64 * bottom + k in
    rw (← c.self.view_is)
    (ap (λ (ws : List ℕ). is_marked ws mark) after ∙ c.set_up.ensures.others mark (omega (arith, wide, room))
    ∙ ap (λ (ws : List ℕ). is_marked ws mark) first ∙ c.set_mark.ensures.others mark (λ e. ne (omega (arith, e)))
    ∙ ap (λ (ws : List ℕ). is_marked ws mark) before)
