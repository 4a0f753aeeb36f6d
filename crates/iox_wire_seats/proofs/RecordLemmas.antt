-- A change of the record of one way is a change at one place.
use Rattle.std.proofs.Common.{◌≡◌, ℕ, zero, suc, ◌+◌, ◌<◌, ◌≤◌, ◌||◌, Bool, not, true, false, cond, List, [], ◌∷◌, ◌++◌, length, get_or, map, Some, None, refl, ap, ap₂, sym, subst, ◌∙◌, arith, slice_set, true≢false}
use Rattle.std.specs.Prelude.{position, nat_lt}
use Rattle.std.specs.List.{prefix_len}
use Rattle.std.proofs.lemmas.Bool.{ltb-false}
use Rattle.std.proofs.lemmas.List.Quantifiers.{position-Some}
use Rattle.iox_model.specs.declared.way.Way.{Way}
use Rattle.iox_model.specs.Maps.{same_way, has_way, AreDistinctWays}
use Rattle.iox_laws.proofs.WeaveLaws.MapLemmas.{same_way-true, same_way-flip}
use Rattle.iox_wire_locals.specs.declared.table.Recorded.{Recorded}
use Rattle.iox_wire_locals.specs.Desks.{with_slots}
use Rattle.iox_wire_seats.specs.Records.{Noted, recorded_in, ways_in, changed, with_noted, HasRoomToNote, NotesHaveRoom, HasFewer}
use Rattle.iox_wire_seats.proofs.CountLemmas.{some-none}

-- ---- where no record is of the way

abbrev pub AreOthers : Way → List Noted → Type 0
AreOthers w [] = Unit {0}
AreOthers w (n ∷ ns) = (same_way n.recorded.way w ≡ false) × AreOthers w ns

pub others_stay : (w : Way) (f : List ℕ → List ℕ) (ns : List Noted) → AreOthers w ns → ns ≡ map (with_noted w f) ns
others_stay w f [] other = refl
others_stay w f (n ∷ ns) other =
    ap (λ xs. n ∷ xs) (others_stay w f ns other.1)
    ∙ sym (ap (λ t. cond t (changed f n) n ∷ map (with_noted w f) ns) other.0)

none_from : (w : Way) (ns : List Noted) → length ns ≤ prefix_len (λ n. not (same_way n.recorded.way w)) ns → AreOthers w ns
none_from w [] h = tt
none_from w (n ∷ ns) h = by_case (same_way n.recorded.way w) refl h (none_from w ns)
  where
    by_case : (t : Bool) → same_way n.recorded.way w ≡ t
        → suc (length ns) ≤ cond (not t) (1 + prefix_len (λ n. not (same_way n.recorded.way w)) ns) 0
        → (length ns ≤ prefix_len (λ n. not (same_way n.recorded.way w)) ns → AreOthers w ns)
        → (same_way n.recorded.way w ≡ false) × AreOthers w ns
    by_case true is h rest = absurd (omega (arith, h))
    by_case false is h rest = (is, rest (omega (arith, h)))

pub none_is : (w : Way) (ns : List Noted) → position (λ n. same_way n.recorded.way w) ns ≡ None → AreOthers w ns
none_is w ns e = by_case (nat_lt (prefix_len (λ n. not (same_way n.recorded.way w)) ns) (length ns)) refl e
  where
    by_case : (t : Bool) → nat_lt (prefix_len (λ n. not (same_way n.recorded.way w)) ns) (length ns) ≡ t
        → cond t (Some (prefix_len (λ n. not (same_way n.recorded.way w)) ns)) None ≡ None → AreOthers w ns
    by_case true is none = absurd (some-none none)
    by_case false is none = none_from w ns (ltb-false _ _ is)

none_has : (w : Way) (ns : List Noted) → has_way w (ways_in ns) ≡ false → AreOthers w ns
none_has w [] none = tt
none_has w (n ∷ ns) none = by_case (same_way w n.recorded.way) refl none (none_has w ns)
  where
    by_case : (t : Bool) → same_way w n.recorded.way ≡ t → (t || has_way w (ways_in ns)) ≡ false
        → (has_way w (ways_in ns) ≡ false → AreOthers w ns) → (same_way n.recorded.way w ≡ false) × AreOthers w ns
    by_case true is hit rest = absurd (true≢false hit)
    by_case false is miss rest = (same_way-flip n.recorded.way w (same_way n.recorded.way w) is refl, rest miss)

-- ---- where one is

changed_at : (w : Way) (f : List ℕ → List ℕ) (ns : List Noted) (i : ℕ) (e : Noted) → AreDistinctWays (ways_in ns) → i < length ns
    → same_way (get_or ns i e).recorded.way w ≡ true → ((k : ℕ) → k < i → same_way (get_or ns k e).recorded.way w ≡ false)
    → slice_set ns i (changed f (get_or ns i e)) ≡ map (with_noted w f) ns
changed_at w f [] i e apart h is first = absurd (omega (arith, h))
changed_at w f (n ∷ ns) zero e apart h is first =
    ap (λ xs. changed f n ∷ xs)
    (others_stay w f ns (none_has w ns (subst (λ v. has_way v (ways_in ns) ≡ false) (same_way-true n.recorded.way w is) apart.0)))
    ∙ sym (ap (λ t. cond t (changed f n) n ∷ map (with_noted w f) ns) is)
changed_at w f (n ∷ ns) (suc i) e apart h is first =
    ap (λ xs. n ∷ xs) (changed_at w f ns i e apart.1 (omega (arith, h)) is (λ k j. first (suc k) (omega (arith, j))))
    ∙ sym (ap (λ t. cond t (changed f n) n ∷ map (with_noted w f) ns) (first 0 (omega arith)))

-- the ways stay
ways_set : (ns : List Noted) (i : ℕ) (e n : Noted) → n.recorded.way ≡ (get_or ns i e).recorded.way → i < length ns
    → ways_in (slice_set ns i n) ≡ ways_in ns
ways_set [] i e n same h = refl
ways_set (x ∷ ns) zero e n same h = ap (λ v. v ∷ ways_in ns) same
ways_set (x ∷ ns) (suc i) e n same h = ap (λ vs. x.recorded.way ∷ vs) (ways_set ns i e n same (omega (arith, h)))

room_at : (w : Way) (ns : List Noted) (i : ℕ) (e : Noted) → HasRoomToNote w ns → i < length ns
    → same_way (get_or ns i e).recorded.way w ≡ true → length (get_or ns i e).recorded.slots < (get_or ns i e).capacity
room_at w [] i e room h is = absurd (omega (arith, h))
room_at w (n ∷ ns) zero e room h is = room.0 is
room_at w (n ∷ ns) (suc i) e room h is = room_at w ns i e room.1 (omega (arith, h)) is

-- ---- what was read at the place of the way

pub stored_at : (w : Way) (f : List ℕ → List ℕ) (ns : List Noted) (i : ℕ) (n : Noted) → AreDistinctWays (ways_in ns)
    → Some i ≡ position (λ x. same_way x.recorded.way w) ns → n ≡ get_or ns i n → slice_set ns i (changed f n) ≡ map (with_noted w f) ns
stored_at w f ns i n apart at read =
    let facts = position-Some (λ (x : Noted). same_way x.recorded.way w) ns i n (sym at) in
    ap (λ (x : Noted). slice_set ns i (changed f x)) read ∙ changed_at w f ns i n apart facts.0 facts.1 facts.2

pub kept_apart : (ns : List Noted) (i : ℕ) (n m : Noted) (w : Way) → AreDistinctWays (ways_in ns)
    → Some i ≡ position (λ x. same_way x.recorded.way w) ns → n ≡ get_or ns i n → m.recorded.way ≡ n.recorded.way
    → AreDistinctWays (ways_in (slice_set ns i m))
kept_apart ns i n m w apart at read same =
    let facts = position-Some (λ (x : Noted). same_way x.recorded.way w) ns i n (sym at) in
    subst AreDistinctWays (sym (ways_set ns i n m (same ∙ ap (λ (x : Noted). x.recorded.way) read) facts.0)) apart

pub room_read : (w : Way) (ns : List Noted) (i : ℕ) (n : Noted) → HasRoomToNote w ns
    → Some i ≡ position (λ x. same_way x.recorded.way w) ns → n ≡ get_or ns i n → length n.recorded.slots < n.capacity
room_read w ns i n room at read =
    let facts = position-Some (λ (x : Noted). same_way x.recorded.way w) ns i n (sym at) in
    subst (λ (x : Noted). length x.recorded.slots < x.capacity) (sym read) (room_at w ns i n room facts.0 facts.1)

-- ---- one way more

has_more : (v w : Way) (ws : List Way) → has_way v ws ≡ false → same_way v w ≡ false → has_way v (ws ++ w ∷ []) ≡ false
has_more v w [] none other = ap (λ t. t || false) other
has_more v w (u ∷ ws) none other = by_case (same_way v u) refl none (λ miss. has_more v w ws miss other)
  where
    by_case : (t : Bool) → same_way v u ≡ t → (t || has_way v ws) ≡ false
        → (has_way v ws ≡ false → has_way v (ws ++ w ∷ []) ≡ false) → has_way v (u ∷ ws ++ w ∷ []) ≡ false
    by_case true is hit rest = absurd (true≢false hit)
    by_case false is miss rest = ap (λ t. t || has_way v (ws ++ w ∷ [])) is ∙ rest miss

apart_more : (w : Way) (ws : List Way) → AreDistinctWays ws → has_way w ws ≡ false → AreDistinctWays (ws ++ w ∷ [])
apart_more w [] apart none = (refl, tt)
apart_more w (u ∷ ws) apart none = by_case (same_way w u) refl none (apart_more w ws apart.1)
  where
    by_case : (t : Bool) → same_way w u ≡ t → (t || has_way w ws) ≡ false
        → (has_way w ws ≡ false → AreDistinctWays (ws ++ w ∷ [])) → AreDistinctWays (u ∷ ws ++ w ∷ [])
    by_case true is hit rest = absurd (true≢false hit)
    by_case false is miss rest = (has_more u w ws apart.0 (same_way-flip u w (same_way u w) is refl), rest miss)

ways_more : (ns : List Noted) (n : Noted) → ways_in (ns ++ n ∷ []) ≡ ways_in ns ++ n.recorded.way ∷ []
ways_more [] n = refl
ways_more (x ∷ ns) n = ap (λ vs. x.recorded.way ∷ vs) (ways_more ns n)

pub recorded_more : (ns : List Noted) (n : Noted) → recorded_in (ns ++ n ∷ []) ≡ recorded_in ns ++ n.recorded ∷ []
recorded_more [] n = refl
recorded_more (x ∷ ns) n = ap (λ rs. x.recorded ∷ rs) (recorded_more ns n)

pub more_apart : (ns : List Noted) (n : Noted) (w : Way) → AreDistinctWays (ways_in ns) → has_way w (ways_in ns) ≡ false → n.recorded.way ≡ w
    → AreDistinctWays (ways_in (ns ++ n ∷ []))
more_apart ns n w apart none is =
    subst AreDistinctWays (sym (ways_more ns n))
    (apart_more n.recorded.way (ways_in ns) apart (subst (λ v. has_way v (ways_in ns) ≡ false) (sym is) none))

pub rooms_more : (k : ℕ) (ns : List Noted) (n : Noted) → k ≤ n.capacity → NotesHaveRoom k ns → NotesHaveRoom k (ns ++ n ∷ [])
rooms_more k [] n fits rooms = (fits, tt)
rooms_more k (x ∷ ns) n fits rooms = (rooms.0, rooms_more k ns n fits rooms.1)

-- ---- a desk's records

pub recorded_noted : (w : Way) (f : List ℕ → List ℕ) (ns : List Noted) → recorded_in (map (with_noted w f) ns) ≡ map (with_slots w f) (recorded_in ns)
recorded_noted w f [] = refl
recorded_noted w f (n ∷ ns) = ap₂ (λ (r : Recorded) (rs : List Recorded). r ∷ rs) (by_case (same_way n.recorded.way w)) (recorded_noted w f ns)
  where
    by_case : (t : Bool) → (cond t (changed f n) n).recorded ≡ cond t (record (n.recorded) { slots = f n.recorded.slots }) n.recorded
    by_case true = refl
    by_case false = refl

pub rooms_noted : (k : ℕ) (w : Way) (f : List ℕ → List ℕ) (ns : List Noted) → NotesHaveRoom k ns → NotesHaveRoom k (map (with_noted w f) ns)
rooms_noted k w f [] rooms = tt
rooms_noted k w f (n ∷ ns) rooms = (by_case (same_way n.recorded.way w), rooms_noted k w f ns rooms.1)
  where
    by_case : (t : Bool) → k ≤ (cond t (changed f n) n).capacity
    by_case true = rooms.0
    by_case false = rooms.0

pub room_to_note : (k : ℕ) (w : Way) (ns : List Noted) → NotesHaveRoom k ns → HasFewer k w (recorded_in ns) → HasRoomToNote w ns
room_to_note k w [] rooms fewer = tt
room_to_note k w (n ∷ ns) rooms fewer =
    (λ same. let less : length n.recorded.slots < k = fewer.0 same in omega (arith, less, rooms.0), room_to_note k w ns rooms.1 fewer.1)

pub ways_recorded : (ns : List Noted) → map (λ r. r.way) (recorded_in ns) ≡ ways_in ns
ways_recorded [] = refl
ways_recorded (n ∷ ns) = ap (λ vs. n.recorded.way ∷ vs) (ways_recorded ns)
