-- The servers that were not seen full.
use Rattle.std.proofs.Common.{◌≡◌, ◌<◌, ℕ, Bool, true, false, not, cond, List, [], ◌∷◌, ◌++◌, length, map, ◌==◌, refl, ap, ap₂, sym, ◌∙◌, arith}
use Rattle.std.specs.Prelude.{◌&&◌, ◌||◌, reverse}
use Rattle.std.specs.List.{list_any}
use Rattle.std.proofs.lemmas.Bool.{eq-eqb, eqb-true}
use Rattle.std.proofs.lemmas.List.{length-reverse, reverse-append}
use Rattle.std.proofs.lemmas.List.Sorted.{IsPermutation-reverse, list_any-IsPermutation}
use Rattle.iox_model.specs.declared.way.Way.{Way}
use Rattle.iox_model.specs.Maps.{has_number, has_way, not_in, same_way}
use Rattle.iox_model.specs.Messages.{request_way}
use Rattle.iox_wire_request_sends.specs.declared.target.Target.{Target}
use Rattle.iox_wire_request_sends.specs.Targets.{fails_at_full, full_ways, ways_to, with_room}

-- ---- whether a way is among the full ones

and_true : (b : Bool) → (b && true) ≡ b
and_true true = refl
and_true false = refl

eqb_back : (a b : ℕ) → (a == b) ≡ (b == a)
eqb_back a b = by_case (a == b) refl (b == a) refl
  where
    by_case : (s : Bool) → (a == b) ≡ s → (t : Bool) → (b == a) ≡ t → s ≡ t
    by_case true e true f = refl
    by_case true e false f = sym (eq-eqb b a (sym (eqb-true a b e))) ∙ f
    by_case false e true f = sym e ∙ eq-eqb a b (sym (eqb-true b a f))
    by_case false e false f = refl

same_request_way : (client s k : ℕ) → same_way (request_way client s) (request_way client k) ≡ (k == s)
same_request_way client s k =
    ap (λ (b : Bool). b && ((s == k) && true)) (eq-eqb client client refl) ∙ and_true (s == k) ∙ eqb_back s k

has_among : (client s : ℕ) (ns : List ℕ) → has_way (request_way client s) (map (request_way client) ns) ≡ has_number s ns
has_among client s [] = refl
has_among client s (k ∷ ns) = ap₂ (λ (a b : Bool). a || b) (same_request_way client s k) (has_among client s ns)

pub has_full : (client s : ℕ) (full : List ℕ) → has_way (request_way client s) (full_ways client full) ≡ has_number s full
has_full client s full =
    has_among client s (reverse full)
    ∙ sym (list_any-IsPermutation (λ k. k == s) full (reverse full) (IsPermutation-reverse full))

-- one more is full
pub full_more : (client s : ℕ) (full : List ℕ) → full_ways client (full ++ s ∷ []) ≡ request_way client s ∷ full_ways client full
full_more client s full = ap (map (request_way client)) (reverse-append full (s ∷ []))

-- ---- the ways left

way_or_not : (client : ℕ) (b : Bool) (t : Target) (ts : List Target)
    → cond b (request_way client t.server ∷ ways_to client ts) (ways_to client ts) ≡ ways_to client (cond b (t ∷ ts) ts)
way_or_not client true t ts = refl
way_or_not client false t ts = refl

pub room_left : (client : ℕ) (full : List ℕ) (ts : List Target)
    → not_in (full_ways client full) (ways_to client ts) ≡ ways_to client (with_room full ts)
room_left client full [] = refl
room_left client full (t ∷ ts) =
    ap₂ (λ (b : Bool) (ws : List Way). cond (not b) (request_way client t.server ∷ ws) ws) (has_full client t.server full) (room_left client full ts)
    ∙ way_or_not client (not (has_number t.server full)) t (with_room full ts)

-- ---- whether one that is full makes the send fail

any_says : (client : ℕ) (fails : Way → Bool) (b : Bool) (ns : List ℕ) → ((s : ℕ) → fails (request_way client s) ≡ b) → 0 < length ns
    → list_any fails (map (request_way client) ns) ≡ b
any_says client fails b [] says some = absurd (omega (arith, some))
any_says client fails b (n ∷ []) says some = ap (λ (a : Bool). a || false) (says n) ∙ or_false b
  where
    or_false : (a : Bool) → (a || false) ≡ a
    or_false true = refl
    or_false false = refl
any_says client fails b (n ∷ m ∷ ns) says some =
    ap₂ (λ (a c : Bool). a || c) (says n) (any_says client fails b (m ∷ ns) says (omega arith)) ∙ or_same b
  where
    or_same : (a : Bool) → (a || a) ≡ a
    or_same true = refl
    or_same false = refl

full_fails : (client : ℕ) (fails : Way → Bool) (b : Bool) (full : List ℕ) → ((s : ℕ) → fails (request_way client s) ≡ b) → 0 < length full
    → list_any fails (full_ways client full) ≡ b
full_fails client fails b full says some =
    let e : length (reverse full) ≡ length full = length-reverse full in
    any_says client fails b (reverse full) says (omega (arith, e, some))

pub full_says : (client : ℕ) (fails : Way → Bool) (b : Bool) (full : List ℕ) → ((s : ℕ) → fails (request_way client s) ≡ b)
    → list_any fails (full_ways client full) ≡ fails_at_full b full
full_says client fails b [] says = refl
full_says client fails b (s ∷ full) says = full_fails client fails b (s ∷ full) says (omega arith)
