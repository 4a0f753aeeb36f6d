-- The looks and deliveries of a send change nothing of what it is going to answer.
use Rattle.std.specs.Prelude.{◌≡◌, ℕ, ◌+◌, Bool, true, false, ◌&&◌, ◌||◌, if◌then◌else◌, nat_lt, nat_le, List, [], ◌∷◌, length, Some, None}
use Rattle.std.specs.List.{list_any}
use Rattle.std.proofs.Common.{sym, ap, ap₂, ◌∙◌, arith}
use Rattle.iox_model.specs.declared.way.Way.{Way}
use Rattle.iox_model.specs.Doings.{Sending, Outcome, Sends, Doing, Ended, Delivering}
use Rattle.iox_model.specs.Maps.{without_way, has_way}
use Rattle.iox_model.specs.Moments.{Holds, SeesFull, SeesRoom}
use Rattle.iox_model.specs.Peers.{buffer_on}
use Rattle.iox_model.specs.Requests.{targets, is_over}
use Rattle.iox_model.specs.States.{State}
use Rattle.iox_model.specs.Transitions.{ends}
use Rattle.iox_model.specs.WholeCalls.{sent_reply, replied}
use Rattle.iox_laws.proofs.WeaveLaws.WholeLemmas.{some-is}
use Rattle.iox_laws.proofs.WeaveLedger.Truths.{by_cases, none-some, and-first}
use Rattle.iox_laws.proofs.ReplyLaws.Telling.{is_full_at, sent_or, spared, fails_among, looked_told, told}
use Rattle.iox_laws.proofs.ReplyLaws.Ways.{and-none, or-in, any_split, any_without, full_more, full_less, length_without}

-- ---- looks

fails_more : (x : Sending) (test : Way → Bool) (w : Way) (left full : List Way) → has_way w left ≡ true → test w ≡ true
    → fails_among x test (without_way w left) (w ∷ full) ≡ fails_among x test left full
fails_more x test w left full e does =
    let both : Way → Bool = λ v. x.fails v && test v in
    or-in (x.fails w) (list_any x.fails full) (list_any both (without_way w left))
    ∙ ap (λ b. list_any x.fails full || (b || list_any both (without_way w left))) (sym (ap (λ b. x.fails w && b) does ∙ and-first (x.fails w)))
    ∙ ap (λ b. list_any x.fails full || b) (sym (any_split both w left e))

pub send_sees_full : (s : State) (node : ℕ) (x : Sending) (left full : List Way) (w : Way) → has_way w left ≡ true → Holds s (SeesFull w)
    → looked_told s.fixed s.waiting node x (without_way w left) (w ∷ full) ≡ looked_told s.fixed s.waiting node x left full
send_sees_full s node x left full w e holds =
    let test : Way → Bool = is_full_at s.fixed s.waiting in
    ap₂ (sent_or s.fixed node x) (fails_more x test w left full e holds)
    (λ i. spared (λ v. full_more test w v left full e holds i) (targets x))

fails_less : (x : Sending) (test : Way → Bool) (w : Way) (left full : List Way) → test w ≡ false
    → fails_among x test (without_way w left) full ≡ fails_among x test left full
fails_less x test w left full out =
    ap (λ b. list_any x.fails full || b) (any_without (λ v. x.fails v && test v) w left (ap (λ b. x.fails w && b) out ∙ and-none (x.fails w)))

pub send_sees_room : (s : State) (node : ℕ) (x : Sending) (left full : List Way) (w : Way) → Holds s (SeesRoom w)
    → looked_told s.fixed s.waiting node x (without_way w left) full ≡ looked_told s.fixed s.waiting node x left full
send_sees_room s node x left full w holds =
    let test : Way → Bool = is_full_at s.fixed s.waiting in
    let room : test w ≡ false = has_room (length (s.waiting w)) (buffer_on s.fixed w) holds in
    ap₂ (sent_or s.fixed node x) (fails_less x test w left full room)
    (λ i. spared (λ v. full_less test w v left full room i) (targets x))
  where
    has_room : (n b : ℕ) → nat_lt n b ≡ true → nat_le b n ≡ false
    has_room n b e = grind (arith)

-- ---- deliveries

pub one_more : (s : State) (node : ℕ) (x : Sending) (left : List Way) (w : Way) (count : ℕ) → has_way w left ≡ true
    → sent_reply s.fixed node x.loan x.copied (count + 1 + length (without_way w left)) ≡ sent_reply s.fixed node x.loan x.copied (count + length left)
one_more s node x left w count e =
    ap (sent_reply s.fixed node x.loan x.copied) (sum (length left) (length (without_way w left)) (length_without w left e))
  where
    sum : (a b : ℕ) → a ≡ b + 1 → count + 1 + b ≡ count + a
    sum a b same = omega arith

-- ---- the end

pub ended_told : (s : State) (node : ℕ) (d : Doing) (o : Outcome) → ends s d ≡ Some o → replied s.fixed node o ≡ told s node d
ended_told s node (Ended a) o e = ap (replied s.fixed node) (sym (some-is a o e))
ended_told s node (Delivering x last [] count) o e =
    by_cases (is_over s last)
    (λ over. none-some o (sym (ap (λ (b : Bool). if b then None else Some (Sends x.loan x.copied count)) over) ∙ e))
    (λ done.
    let is : Some (Sends x.loan x.copied count) ≡ Some o = sym (ap (λ (b : Bool). if b then None else Some (Sends x.loan x.copied count)) done) ∙ e in
    ap (replied s.fixed node) (sym (some-is (Sends x.loan x.copied count) o is))
    ∙ ap (sent_reply s.fixed node x.loan x.copied) (to-none count))
  where
    to-none : (n : ℕ) → n ≡ n + 0
    to-none n = omega arith
ended_told s node (Delivering x last (w ∷ left) count) o e = none-some o e
ended_told s node d o e = none-some o e
