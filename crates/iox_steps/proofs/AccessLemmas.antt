-- An access changes one word at most; and lists of words and words told one by one agree with words by their places.
use Rattle.std.proofs.Common.{◌≡◌, ◌≢◌, ◌⊎◌, ℕ, ◌+◌, ◌<◌, ◌≤◌, List, length, get_or, set, refl, sym, ◌∙◌, inl, inr, arith, eqb}
use Rattle.std.proofs.Common.{length-set, get_or-set_same, get_or-set_other}
use Rattle.std.proofs.lemmas.Bool.{cases_Bool, eqb-true, eqb-false}
use Rattle.iox_steps.specs.declared.access.Access.{Access}
use Rattle.iox_steps.specs.declared.access.Access.TheVariants.{Local, Load, Store, CompareExchange, FetchAdd, FetchSub, FetchOr, FetchAnd}
use Rattle.iox_steps.specs.Accesses.{place_of, change_of, put, word_after, words_after, IsPlace, IsWithin, ChangesWord}
use Rattle.iox_steps.proofs.Places.{put-same, put-other}

-- no word but the one that is named changes
pub word_after-other : (access : Access) (word : ℕ → ℕ) (at : ℕ) → at ≢ place_of access → word_after access word at ≡ word at
word_after-other Local word at other = refl
word_after-other (Load place) word at other = refl
word_after-other (Store place value) word at other = put-other word place value at other
word_after-other (CompareExchange place old new) word at other = elim (cases_Bool (eqb (word place) old)) [
  | inl same ↦ rw same (put-other word place new at other)
  | inr apart ↦ rw apart refl
]
word_after-other (FetchAdd place value) word at other = put-other word place _ at other
word_after-other (FetchSub place value) word at other = put-other word place _ at other
word_after-other (FetchOr place value) word at other = put-other word place _ at other
word_after-other (FetchAnd place value) word at other = put-other word place _ at other

-- and that one becomes its change
pub word_after-same : (access : Access) (word : ℕ → ℕ) → word_after access word (place_of access) ≡ change_of access (word (place_of access))
word_after-same Local word = refl
word_after-same (Load place) word = refl
word_after-same (Store place value) word = put-same word place value
word_after-same (CompareExchange place old new) word = elim (cases_Bool (eqb (word place) old)) [
  | inl same ↦ rw same (put-same word place new)
  | inr apart ↦ rw apart refl
]
word_after-same (FetchAdd place value) word = put-same word place _
word_after-same (FetchSub place value) word = put-same word place _
word_after-same (FetchOr place value) word = put-same word place _
word_after-same (FetchAnd place value) word = put-same word place _

-- words of which one changed as the access says are the words after it
pub changed_are_after : (access : Access) (word word' : ℕ → ℕ) → ChangesWord word (place_of access) (change_of access (word (place_of access))) word'
    → (at : ℕ) → word' at ≡ word_after access word at
changed_are_after access word word' changes at = elim (cases_Bool (eqb at (place_of access))) [
  | inl same ↦ (let here = eqb-true _ _ same in rw here (changes.0 ∙ sym (word_after-same access word)))
  | inr apart ↦ (let other : at ≢ place_of access = eqb-false _ _ apart in changes.1 at other ∙ sym (word_after-other access word at other))
]

-- a store in a list of words
set-put : (words : List ℕ) (place value at : ℕ) → place < length words → get_or (set words place value) at 0 ≡ put (λ i. get_or words i 0) place value at
set-put words place value at inside = elim (cases_Bool (eqb at place)) [
  | inl same ↦ (let here = eqb-true _ _ same in rw (same, here) (get_or-set_same words place value 0 inside))
  | inr apart ↦ rw apart (get_or-set_other words place at value 0 (eqb-false _ _ apart))
]

-- a list of words after an access
pub reads_after : (access : Access) (words : List ℕ) → IsWithin 0 (length words) access → (at : ℕ)
    → get_or (words_after access words) at 0 ≡ word_after access (λ i. get_or words i 0) at
reads_after Local words within at = refl
reads_after (Load place) words within at = refl
reads_after (Store place value) words within at = set-put words place value at (omega (arith, within.1))
reads_after (CompareExchange place old new) words within at = elim (cases_Bool (eqb (get_or words place 0) old)) [
  | inl same ↦ rw same (set-put words place new at (omega (arith, within.1)))
  | inr apart ↦ rw apart refl
]
reads_after (FetchAdd place value) words within at = set-put words place _ at (omega (arith, within.1))
reads_after (FetchSub place value) words within at = set-put words place _ at (omega (arith, within.1))
reads_after (FetchOr place value) words within at = set-put words place _ at (omega (arith, within.1))
reads_after (FetchAnd place value) words within at = set-put words place _ at (omega (arith, within.1))

pub length-words_after : (access : Access) (words : List ℕ) → length (words_after access words) ≡ length words
length-words_after Local words = refl
length-words_after (Load place) words = refl
length-words_after (Store place value) words = length-set words place value
length-words_after (CompareExchange place old new) words = elim (cases_Bool (eqb (get_or words place 0) old)) [
  | inl same ↦ rw same (length-set words place new)
  | inr apart ↦ rw apart refl
]
length-words_after (FetchAdd place value) words = length-set words place _
length-words_after (FetchSub place value) words = length-set words place _
length-words_after (FetchOr place value) words = length-set words place _
length-words_after (FetchAnd place value) words = length-set words place _

-- an access within one stretch is within a wider one
pub within_wider : (access : Access) (base size base' size' : ℕ) → base' ≤ base → base + size ≤ base' + size' → IsWithin base size access
    → IsWithin base' size' access
within_wider Local base size base' size' low high within = tt
within_wider (Load place) base size base' size' low high within = (omega (arith, within.0), omega (arith, within.1))
within_wider (Store place value) base size base' size' low high within = (omega (arith, within.0), omega (arith, within.1))
within_wider (CompareExchange place old new) base size base' size' low high within = (omega (arith, within.0), omega (arith, within.1))
within_wider (FetchAdd place value) base size base' size' low high within = (omega (arith, within.0), omega (arith, within.1))
within_wider (FetchSub place value) base size base' size' low high within = (omega (arith, within.0), omega (arith, within.1))
within_wider (FetchOr place value) base size base' size' low high within = (omega (arith, within.0), omega (arith, within.1))
within_wider (FetchAnd place value) base size base' size' low high within = (omega (arith, within.0), omega (arith, within.1))

-- and changes nothing outside it
pub outside : (access : Access) (word : ℕ → ℕ) (base size at : ℕ) → IsWithin base size access → (at < base) ⊎ (base + size ≤ at)
    → word_after access word at ≡ word at
outside Local word base size at within out = refl
outside (Load place) word base size at within out = refl
outside (Store place value) word base size at within out =
    word_after-other (Store place value) word at (elim out [ inl below ↦ omega (arith, within.0) | inr above ↦ omega (arith, within.1) ])
outside (CompareExchange place old new) word base size at within out =
    word_after-other (CompareExchange place old new) word at (elim out [ inl below ↦ omega (arith, within.0) | inr above ↦ omega (arith, within.1) ])
outside (FetchAdd place value) word base size at within out =
    word_after-other (FetchAdd place value) word at (elim out [ inl below ↦ omega (arith, within.0) | inr above ↦ omega (arith, within.1) ])
outside (FetchSub place value) word base size at within out =
    word_after-other (FetchSub place value) word at (elim out [ inl below ↦ omega (arith, within.0) | inr above ↦ omega (arith, within.1) ])
outside (FetchOr place value) word base size at within out =
    word_after-other (FetchOr place value) word at (elim out [ inl below ↦ omega (arith, within.0) | inr above ↦ omega (arith, within.1) ])
outside (FetchAnd place value) word base size at within out =
    word_after-other (FetchAnd place value) word at (elim out [ inl below ↦ omega (arith, within.0) | inr above ↦ omega (arith, within.1) ])

-- an access changes one word at most
pub after_changes : (access : Access) (word : ℕ → ℕ)
    → ChangesWord word (place_of access) (change_of access (word (place_of access))) (word_after access word)
after_changes access word = (word_after-same access word, λ at other. word_after-other access word at other)

-- words that changed so are as before wherever words after it are
pub changes_outside : (access : Access) (word word' : ℕ → ℕ) (base size at : ℕ)
    → ChangesWord word (place_of access) (change_of access (word (place_of access))) word'
    → IsWithin base size access → (at < base) ⊎ (base + size ≤ at) → word' at ≡ word at
changes_outside access word word' base size at changes within out =
    changed_are_after access word word' changes at ∙ outside access word base size at within out

-- and one word of a list at most, which is then as long as before
pub list_changes : (access : Access) (words : List ℕ) → IsWithin 0 (length words) access
    → let word : ℕ → ℕ = λ place. get_or words place 0 in
    ChangesWord word (place_of access) (change_of access (word (place_of access))) (λ place. get_or (words_after access words) place 0)
list_changes access words within = (
  reads_after access words within (place_of access) ∙ word_after-same access (λ place. get_or words place 0),
  λ at other. reads_after access words within at ∙ word_after-other access (λ place. get_or words place 0) at other,
)

-- no word of a list but the one that is named, wherever that is
pub words_after-other : (access : Access) (words : List ℕ) (at : ℕ) → at ≢ place_of access
    → get_or (words_after access words) at 0 ≡ get_or words at 0
words_after-other Local words at other = refl
words_after-other (Load place) words at other = refl
words_after-other (Store place value) words at other = get_or-set_other words place at value 0 other
words_after-other (CompareExchange place old new) words at other = elim (cases_Bool (eqb (get_or words place 0) old)) [
  | inl same ↦ rw same (get_or-set_other words place at new 0 other)
  | inr apart ↦ rw apart refl
]
words_after-other (FetchAdd place value) words at other = get_or-set_other words place at _ 0 other
words_after-other (FetchSub place value) words at other = get_or-set_other words place at _ 0 other
words_after-other (FetchOr place value) words at other = get_or-set_other words place at _ 0 other
words_after-other (FetchAnd place value) words at other = get_or-set_other words place at _ 0 other

-- what is outside a stretch is not the place of an access within it
other_place : (access : Access) (base size at : ℕ) → IsPlace base size (place_of access)
    → (at < base) ⊎ (base + size ≤ at) → at ≢ place_of access
other_place access base size at within out = elim out [
  | inl below ↦ omega (arith, within.0)
  | inr above ↦ omega (arith, within.1)
]

-- so no word of a list changes outside that stretch
pub outside_in_list : (access : Access) (words : List ℕ) (base size at : ℕ) → IsWithin base size access
    → (at < base) ⊎ (base + size ≤ at) → get_or (words_after access words) at 0 ≡ get_or words at 0
outside_in_list Local words base size at within out = refl
outside_in_list (Load place) words base size at within out = refl
outside_in_list (Store place value) words base size at within out =
    words_after-other (Store place value) words at (other_place (Store place value) base size at within out)
outside_in_list (CompareExchange place old new) words base size at within out =
    words_after-other (CompareExchange place old new) words at (other_place (CompareExchange place old new) base size at within out)
outside_in_list (FetchAdd place value) words base size at within out =
    words_after-other (FetchAdd place value) words at (other_place (FetchAdd place value) base size at within out)
outside_in_list (FetchSub place value) words base size at within out =
    words_after-other (FetchSub place value) words at (other_place (FetchSub place value) base size at within out)
outside_in_list (FetchOr place value) words base size at within out =
    words_after-other (FetchOr place value) words at (other_place (FetchOr place value) base size at within out)
outside_in_list (FetchAnd place value) words base size at within out =
    words_after-other (FetchAnd place value) words at (other_place (FetchAnd place value) base size at within out)
