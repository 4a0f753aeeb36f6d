use Rattle.std.specs.List.{All}
use Rattle.std.specs.Prelude.{vec_capacity, vec_len}
use Rattle.std.proofs.Common.{◌≡◌, ℕ, ◌-◌, ◌+◌, ◌*◌, ◌<◌, ◌≤◌, ◌++◌, ◌∷◌, List, [], ap, ap₂, arith, length, map, refl, subst, sym, ◌∙◌}
use Rattle.std.proofs.lemmas.List.{length-append}
use Rattle.iox_model.specs.Schedules.{Finished}
use Rattle.iox_wire.specs.Replies.{FinishedCalls, HasItsWords, ended_of, told_with, words_brought}
use Rattle.iox_wire.specs.declared.finished.Answer.{Answer}
use Rattle.iox_wire.proofs.KeptWords.{has_more, room_left, told_more}
use Rattle.iox_wire.proofs.finished.Replies.tell.Goals as goal

-- ---- numbers

one_less : (told room capacity after capacity_after : ℕ) → 0 < room → told + room ≤ capacity → after ≡ told + 1 → capacity_after ≡ capacity
    → after + (room - 1) ≤ capacity_after
one_less told room capacity after capacity_after some fits one same = omega (arith, some, fits, one, same)

fits_still : (after sum left capacity capacity_after : ℕ) → after ≡ sum → sum + left ≤ capacity → capacity_after ≡ capacity → after + left ≤ capacity_after
fits_still after sum left capacity capacity_after is fits same = omega (arith, is, fits, same)

pub invariant_of-self : goal.invariant_of-self
invariant_of-self c =
    let ws = c.self.inside.words.items in
    let first : c.write_behind-brought.new.list.items ≡ ws ++ words_brought c.args.call.call = c.write_behind-brought.ensures.items ∙ ap (λ vs. ws ++ vs) c.words_of.ensures in
    let both : c.write_behind-read.new.list.items ≡ (ws ++ words_brought c.args.call.call) ++ c.args.call.words.now
    = c.write_behind-read.ensures.items ∙ ap (λ vs. vs ++ c.args.call.words.now) first in
    let pushed : Answer = record { node = c.args.call.node; call = c.of.result; brought = c.write_behind-brought.result; reply = c.args.call.reply; read = c.write_behind-read.result; begun = c.args.call.begun; ended = c.args.call.ended } in (
      subst (λ vs. All (HasItsWords vs) c.push_reserved.new.self.items) (sym both)
          (subst (λ (done : List Answer). All (HasItsWords ((ws ++ words_brought c.args.call.call) ++ c.args.call.words.now)) done) (sym c.push_reserved.ensures.items)
          (has_more ws c.self.inside.answers.items pushed c.args.call c.self.invariant.0 refl c.requires.read
          c.write_behind-brought.ensures.start
          (c.write_behind-brought.ensures.end ∙ ap (λ vs. length ws + length vs) c.words_of.ensures)
          (c.write_behind-read.ensures.start ∙ ap length first)
          (c.write_behind-read.ensures.end ∙ ap (λ vs. length vs + length c.args.call.words.now) first))),
      record {
        answers = one_less (vec_len c.self.inside.answers) c.self.inside.room (vec_capacity c.self.inside.answers) (vec_len c.push_reserved.new.self) (vec_capacity c.push_reserved.new.self)
            (subst (λ (d : FinishedCalls). 0 < d.room) (sym c.self.view_is) c.requires.room) c.self.invariant.1.answers
            c.push_reserved.ensures.len c.push_reserved.ensures.capacity;
        words = fits_still (vec_len c.write_behind-read.new.list) (vec_len c.self.inside.words + length (words_brought c.args.call.call) + length c.args.call.words.now)
            ((c.self.inside.room - 1) * (c.self.inside.longest + c.self.inside.longest)) (vec_capacity c.self.inside.words) (vec_capacity c.write_behind-read.new.list)
            (c.write_behind-read.new.list.ok.0 ∙ ap length both ∙ length-append (ws ++ words_brought c.args.call.call) c.args.call.words.now
            ∙ ap (λ n. n + length c.args.call.words.now) (length-append ws (words_brought c.args.call.call) ∙ ap (λ n. n + length (words_brought c.args.call.call)) (sym c.self.inside.words.ok.0)))
            (room_left c.self.inside.room c.self.inside.longest (vec_len c.self.inside.words) (length (words_brought c.args.call.call)) (length c.args.call.words.now) (vec_capacity c.self.inside.words)
            (subst (λ (d : FinishedCalls). 0 < d.room) (sym c.self.view_is) c.requires.room) c.self.invariant.1.words
            (subst (λ (d : FinishedCalls). length (words_brought c.args.call.call) ≤ d.longest) (sym c.self.view_is) c.requires.brought)
            (subst (λ (d : FinishedCalls). length c.args.call.words.now ≤ d.longest) (sym c.self.view_is) c.requires.words))
            (c.write_behind-read.ensures.capacity ∙ c.write_behind-brought.ensures.capacity);
      },
    )

pub returns : goal.returns
returns c =
    let most = c.self.inside.longest in let left = c.self.inside.room - 1 in
    let out : List Finished → FinishedCalls = λ fs. record { finished = fs; longest = most; room = left } in
    ap out
    (ap₂ (λ ws (done : List Answer). map (told_with ws) done)
    (c.write_behind-read.ensures.items ∙ ap₂ (λ ws vs. ws ++ vs) (c.write_behind-brought.ensures.items ∙ ap (λ vs. c.self.inside.words.items ++ vs) c.words_of.ensures) refl)
    c.push_reserved.ensures.items
    ∙ told_more c.self.inside.words.items c.self.inside.answers.items _ c.args.call c.self.invariant.0 refl c.of.ensures.whole refl refl refl
    c.write_behind-brought.ensures.start
    (c.write_behind-brought.ensures.end ∙ ap (λ vs. length c.self.inside.words.items + length vs) c.words_of.ensures)
    (c.write_behind-read.ensures.start ∙ ap length (c.write_behind-brought.ensures.items ∙ ap (λ vs. c.self.inside.words.items ++ vs) c.words_of.ensures))
    (c.write_behind-read.ensures.end
    ∙ ap (λ vs. length vs + length c.args.call.words.now) (c.write_behind-brought.ensures.items ∙ ap (λ vs. c.self.inside.words.items ++ vs) c.words_of.ensures)))
    ∙ ap (λ (d : FinishedCalls). record d { finished = d.finished ++ ended_of c.args.call ∷ []; room = d.room - 1 }) c.self.view_is
