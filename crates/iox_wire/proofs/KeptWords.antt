-- Words that are kept one behind another in one list.
use Rattle.std.specs.List.{All}
use Rattle.std.proofs.Math.Nat.{suc-mul}
use Rattle.std.proofs.Common.{◌≡◌, ℕ, zero, suc, ◌+◌, ◌-◌, ◌*◌, ◌<◌, ◌≤◌, List, [], ◌∷◌, ◌++◌, length, map, take, drop, refl, sym, subst, ap, ap₂, ◌∙◌, arith}
use Rattle.std.proofs.Math.Seq.{drop-append_seam, take-length}
use Rattle.std.proofs.lemmas.List.{append_assoc, drop-append-le, length-append, length-drop, map-append, take-append-le}
use Rattle.std.proofs.lemmas.List.Elements.{All-head, All-tail, All-push, All-weaker}
use Rattle.iox_model.specs.Schedules.{Finished}
use Rattle.iox_wire_weaves.specs.Nodes.{reply_in}
use Rattle.iox_wire.specs.Replies.{HasItsWords, HasWordsIfRead, IsSpan, call_with, ended_of, is_read, told_call, told_with, words_at, words_brought}
use Rattle.iox_wire.specs.declared.finished.Answer.{Answer}
use Rattle.iox_wire.specs.declared.finished.EndedCall.{EndedCall}
use Rattle.iox_wire.specs.declared.spans.Span.{Span}

-- ---- a span

longer : (ws more : List ℕ) (s : Span) → IsSpan ws s → IsSpan (ws ++ more) s
longer ws more s is = record {
  order = is.order;
  within = within s.end (length ws) (length (ws ++ more)) (length more) is.within (length-append ws more);
}
  where
    within : (e a b c : ℕ) → e ≤ a → b ≡ a + c → e ≤ b
    within e a b c low is = omega (arith, low, is)

same_words : (ws more : List ℕ) (s : Span) → IsSpan ws s → words_at (ws ++ more) s ≡ words_at ws s
same_words ws more s is =
    ap (take (s.end - s.start)) (drop-append-le s.start ws more (before s.start s.end (length ws) is.order is.within))
    ∙ take-append-le (s.end - s.start) (drop s.start ws) more
    (few s.start s.end (length ws) (length (drop s.start ws)) is.order is.within (length-drop s.start ws))
  where
    before : (a b c : ℕ) → a ≤ b → b ≤ c → a ≤ c
    before a b c order within = omega (arith, order, within)

    few : (a b c d : ℕ) → a ≤ b → b ≤ c → d ≡ c - a → b - a ≤ d
    few a b c d order within is = omega (arith, order, within, is)

-- words that are written behind others are there
pub words_behind : (ws more : List ℕ) (s : Span) → s.start ≡ length ws → s.end ≡ length ws + length more → words_at (ws ++ more) s ≡ more
words_behind ws more s start end =
    ap₂ (λ n k. take n (drop k (ws ++ more))) (count s.start s.end (length ws) (length more) start end) start
    ∙ ap (take (length more)) (drop-append_seam ws more) ∙ take-length more
  where
    count : (a b c d : ℕ) → a ≡ c → b ≡ c + d → b - a ≡ d
    count a b c d start end = omega (arith, start, end)

pub is_span : (ws more : List ℕ) (s : Span) → s.start ≡ length ws → s.end ≡ length ws + length more → IsSpan (ws ++ more) s
is_span ws more s start end = record {
  order = order s.start s.end (length ws) (length more) start end;
  within = within s.end (length ws) (length more) (length (ws ++ more)) end (length-append ws more);
}
  where
    order : (a b c d : ℕ) → a ≡ c → b ≡ c + d → a ≤ b
    order a b c d start end = omega (arith, start, end)

    within : (b c d e : ℕ) → b ≡ c + d → e ≡ c + d → b ≤ e
    within b c d e end is = omega (arith, end, is)

-- no words stand in a span that ends where it starts
pub no_words : (ws : List ℕ) (s : Span) → s.end ≡ s.start → words_at ws s ≡ []
no_words ws s none = ap (λ n. take n (drop s.start ws)) (nothing s.end s.start none)
  where
    nothing : (a b : ℕ) → a ≡ b → a - b ≡ 0
    nothing a b is = omega (arith, is)

-- ---- room

pub room_for_one : (room longest words capacity : ℕ) → 0 < room → words + room * (longest + longest) ≤ capacity → words + (longest + longest) ≤ capacity
room_for_one zero longest words capacity some fits = omega (arith, some)
room_for_one (suc n) longest words capacity some fits = let e : suc n * (longest + longest) ≡ n * (longest + longest) + (longest + longest) = suc-mul n (longest + longest) in omega (arith, e, fits)

-- room is left for one less behind the words of one
pub room_left : (room longest words brought read capacity : ℕ) → 0 < room → words + room * (longest + longest) ≤ capacity → brought ≤ longest → read ≤ longest
    → words + brought + read + (room - 1) * (longest + longest) ≤ capacity
room_left zero longest words brought read capacity some fits few fewer = omega (arith, some)
room_left (suc n) longest words brought read capacity some fits few fewer =
    let e : suc n * (longest + longest) ≡ n * (longest + longest) + (longest + longest) = suc-mul n (longest + longest) in
    let less : suc n - 1 ≡ n = omega arith in
    let same : (suc n - 1) * (longest + longest) ≡ n * (longest + longest) = ap (λ k. k * (longest + longest)) less in
    omega (arith, e, same, fits, few, fewer)

-- ---- answers

has_still : (ws more : List ℕ) (a : Answer) → HasItsWords ws a → HasItsWords (ws ++ more) a
has_still ws more a has = record { brought = longer ws more a.brought has.brought; read = longer ws more a.read has.read; none = has.none }

told_still : (ws more : List ℕ) (a : Answer) → HasItsWords ws a → told_with (ws ++ more) a ≡ told_with ws a
told_still ws more a has =
    ap₂ (λ b r. record { node = a.node; call = call_with b a.call; reply = reply_in r a.reply; begun = a.begun; ended = a.ended })
    (same_words ws more a.brought has.brought) (same_words ws more a.read has.read)

-- what was told before stays
pub all_told_still : (ws more : List ℕ) (answers : List Answer) → All (HasItsWords ws) answers → map (told_with (ws ++ more)) answers ≡ map (told_with ws) answers
all_told_still ws more [] has = refl
all_told_still ws more (a ∷ answers) has =
    ap₂ (λ (x : Finished) xs. x ∷ xs) (told_still ws more a (All-head (HasItsWords ws) a answers has))
    (all_told_still ws more answers (All-tail (HasItsWords ws) a answers has))

pub all_have_still : (ws more : List ℕ) (answers : List Answer) → All (HasItsWords ws) answers → All (HasItsWords (ws ++ more)) answers
all_have_still ws more answers has = All-weaker (HasItsWords ws) (HasItsWords (ws ++ more)) (λ a one. has_still ws more a one) answers has

-- ---- one more

module _ (ws : List ℕ) (answers : List Answer) (a : Answer) (f : EndedCall) (has : All (HasItsWords ws) answers) where
  abbrev before : List ℕ
  before = ws ++ words_brought f.call

  pub told_more : a.node ≡ f.node → call_with (words_brought f.call) a.call ≡ told_call f.call → a.reply ≡ f.reply → a.begun ≡ f.begun → a.ended ≡ f.ended
      → a.brought.start ≡ length ws → a.brought.end ≡ length ws + length (words_brought f.call)
      → a.read.start ≡ length before → a.read.end ≡ length before + length f.words.now
      → map (told_with (before ++ f.words.now)) (answers ++ a ∷ []) ≡ map (told_with ws) answers ++ ended_of f ∷ []
  told_more node call reply begun ended b_start b_end r_start r_end =
      map-append (told_with (before ++ f.words.now)) answers (a ∷ [])
      ∙ ap₂ (λ (xs : List Finished) x. xs ++ x ∷ [])
      (ap (λ vs. map (told_with vs) answers) (append_assoc ws (words_brought f.call) f.words.now) ∙ all_told_still ws (words_brought f.call ++ f.words.now) answers has)
      (six (λ n c r b e. record { node = n; call = c; reply = r; begun = b; ended = e }) node
      (ap (λ vs. call_with vs a.call)
      (same_words before f.words.now a.brought (is_span ws (words_brought f.call) a.brought b_start b_end) ∙ words_behind ws (words_brought f.call) a.brought b_start b_end)
      ∙ call)
      (ap₂ reply_in (words_behind before f.words.now a.read r_start r_end) reply) begun ended)
    where
      six : {A B C D E F : Type 0} (f : A → B → C → D → E → F) {a a' : A} {b b' : B} {c c' : C} {d d' : D} {e e' : E}
          → a ≡ a' → b ≡ b' → c ≡ c' → d ≡ d' → e ≡ e' → f a b c d e ≡ f a' b' c' d' e'
      six f p q r s t = λ i. f (p i) (q i) (r i) (s i) (t i)

  pub has_more : a.reply ≡ f.reply → HasWordsIfRead f.reply f.words.now
      → a.brought.start ≡ length ws → a.brought.end ≡ length ws + length (words_brought f.call)
      → a.read.start ≡ length before → a.read.end ≡ length before + length f.words.now
      → All (HasItsWords (before ++ f.words.now)) (answers ++ a ∷ [])
  has_more reply read b_start b_end r_start r_end =
      All-push (HasItsWords (before ++ f.words.now)) answers a
      (subst (λ vs. All (HasItsWords vs) answers) (sym (append_assoc ws (words_brought f.call) f.words.now)) (all_have_still ws (words_brought f.call ++ f.words.now) answers has))
      (record {
        brought = longer before f.words.now a.brought (is_span ws (words_brought f.call) a.brought b_start b_end);
        read = is_span before f.words.now a.read r_start r_end;
        none = λ no. ends a.read.start a.read.end (length before) (length f.words.now) r_start r_end (ap length (read (ap is_read (sym reply) ∙ no)));
      })
    where
      ends : (s e l n : ℕ) → s ≡ l → e ≡ l + n → n ≡ 0 → e ≡ s
      ends s e l n start end none = omega (arith, start, end, none)
