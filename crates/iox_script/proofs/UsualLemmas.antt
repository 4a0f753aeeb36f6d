-- Numbers that are read in one pass.
use Rattle.std.proofs.Common.{◌≡◌, ℕ, ◌+◌, ◌-◌, ◌*◌, ◌^◌, ◌<◌, ◌≤◌, Bool, true, false, not, List, [], ◌∷◌, ◌++◌, length, get_or, take, take_all, drop, codes, Option, None, Some, IfSome, Result, Ok, Err, refl, sym, ap, ◌∙◌, append_assoc, arith}
use Rattle.std.specs.Char.{digit_value}
use Rattle.std.specs.List.{list_all}
use Rattle.std.specs.Str.Parse.{digits_value}
use Rattle.std.proofs.lemmas.Bool.{le-ltb, lt-ltb}
use Rattle.std.proofs.lemmas.Bool.Decides.{nat_tests}
use Rattle.std.proofs.lemmas.List.{length-take}
use Rattle.std.proofs.lemmas.Int.Digits.{digits_value_more}
use Rattle.std.proofs.lemmas.List.Folds.{list_all_more}
use Rattle.std.proofs.lemmas.List.Sums.{AllPass-from_list_all}
use Rattle.std.proofs.lemmas.List.Splits.{slice_split_at}
use Rattle.std.proofs.lemmas.List.Elements.{All-weaker}
use Rattle.iox_script.specs.declared.command.LineCause.{LineCause}
use Rattle.iox_model.specs.declared.command.Command.TheVariants.{Port}
use Rattle.iox_model.specs.declared.command.PortCommand.TheVariants as port_commands
use Rattle.iox_script.specs.declared.command.ScriptCommand.TheVariants.{Service}
use Rattle.iox_script.specs.Grammar.{meaning, numbers_of, ◌>>=◌}
use Rattle.iox_script.specs.Lines.{is_space, words_of}
use Rattle.iox_script.specs.Meanings.{number_and}
use Rattle.iox_script.specs.Numerals.{is_digit, number_of}
use Rattle.iox_script.proofs.NumeralLemmas.{digit_value-digit}
use Rattle.iox_script.proofs.WordLemmas.{HasNoSpace, words_of-at, words_of-none}

-- one digit more
pub digits_more : (bytes : List ℕ) (at : ℕ) → at < length bytes → list_all is_digit (take at bytes) ≡ true → is_digit (get_or bytes at 0) ≡ true
    → list_all is_digit (take (at + 1) bytes) ≡ true
digits_more bytes at within digits digit = rw (list_all_more is_digit bytes at 0 within, digits, digit)

pub value_more : (bytes : List ℕ) (at number : ℕ) → at < length bytes → digits_value 10 (take at bytes) ≡ number → is_digit (get_or bytes at 0) ≡ true
    → digits_value 10 (take (at + 1) bytes) ≡ number * 10 + (get_or bytes at 0 - 48)
value_more bytes at number within value digit =
    digits_value_more 10 bytes at within ∙ ap (λ n. n * 10 + digit_value (get_or bytes at 0)) value
    ∙ ap (λ d. number * 10 + d) (digit_value-digit (get_or bytes at 0) digit)

-- digits that write a number of 64 bits
number_of_word : (word : List ℕ) (number : ℕ) → 0 < length word → list_all is_digit word ≡ true → digits_value 10 word ≡ number → number < 2 ^ 64
    → number_of word ≡ Ok number
number_of_word word number some digits value small = rw (lt-ltb 0 (length word) some, digits, value, lt-ltb number (2 ^ 64) small)

pub number_so : (bytes : List ℕ) (at number : ℕ) → at ≤ length bytes → list_all is_digit (take at bytes) ≡ true → digits_value 10 (take at bytes) ≡ number
    → number < 2 ^ 64 → 0 < at → number_of (take at bytes) ≡ Ok number
number_so bytes at number within digits value small some =
    number_of_word (take at bytes) number (omega (arith, length-take at bytes)) digits value small

digit-no_space : (byte : ℕ) → is_digit byte ≡ true → is_space byte ≡ false
digit-no_space byte digit = grind (arith, nat_tests)

no_space : (word : List ℕ) → list_all is_digit word ≡ true → HasNoSpace word
no_space word digits =
    All-weaker (λ byte. is_digit byte ≡ true) (λ byte. is_space byte ≡ false) digit-no_space word (AllPass-from_list_all is_digit word digits)

and_is : (number : ℕ) (r : Result (List ℕ) LineCause) → (r >>= (λ more. Ok (number ∷ more))) ≡ number_and number r
and_is number (Ok more) = refl
and_is number (Err cause) = refl

-- a number, a space, and what stands behind it
pub numbers_before : (bytes : List ℕ) (at number : ℕ) → at < length bytes → get_or bytes at 0 ≡ 32 → list_all is_digit (take at bytes) ≡ true
    → number_of (take at bytes) ≡ Ok number
    → numbers_of (words_of bytes) ≡ number_and number (numbers_of (words_of (drop (at + 1) bytes)))
numbers_before bytes at number within space digits said =
    rw (words_of-at bytes at within space (no_space (take at bytes) digits), said) (and_is number (numbers_of (words_of (drop (at + 1) bytes))))

-- a number with nothing behind it
pub numbers_last : (bytes : List ℕ) (at number : ℕ) → at ≡ length bytes → list_all is_digit (take at bytes) ≡ true → number_of (take at bytes) ≡ Ok number
    → numbers_of (words_of bytes) ≡ Ok (number ∷ [])
numbers_last bytes at number all digits said =
    let whole : take at bytes ≡ bytes = take_all at bytes (omega arith) in
    rw (words_of-none bytes at (omega arith) (no_space (take at bytes) digits), ap number_of (sym whole) ∙ said) refl

-- ---- numbers behind others

-- the numbers of a front, and then those that further words say
abbrev pub after : List ℕ → Result (List ℕ) LineCause → Result (List ℕ) LineCause
after front (Ok more) = Ok (front ++ more)
after front (Err cause) = Err cause

pub after-nil : (r : Result (List ℕ) LineCause) → after [] r ≡ r
after-nil (Ok more) = refl
after-nil (Err cause) = refl

pub after-and : (front : List ℕ) (number : ℕ) (r : Result (List ℕ) LineCause) → after front (number_and number r) ≡ after (front ++ number ∷ []) r
after-and front number (Ok more) = ap Ok (sym (append_assoc front (number ∷ []) more))
after-and front number (Err cause) = refl

-- one number more, and a space behind it
pub after_more : (front bytes others : List ℕ) (number : ℕ) (r : Result (List ℕ) LineCause) → after front (numbers_of (words_of bytes)) ≡ r
    → numbers_of (words_of bytes) ≡ number_and number (numbers_of (words_of others)) → after (front ++ number ∷ []) (numbers_of (words_of others)) ≡ r
after_more front bytes others number r same said = sym (after-and front number (numbers_of (words_of others))) ∙ ap (after front) (sym said) ∙ same

-- and the last one
pub after_last : (front bytes : List ℕ) (number : ℕ) (r : Result (List ℕ) LineCause) → after front (numbers_of (words_of bytes)) ≡ r
    → numbers_of (words_of bytes) ≡ Ok (number ∷ []) → r ≡ Ok (front ++ number ∷ [])
after_last front bytes number r same said = sym same ∙ ap (after front) said

-- ---- what a line says

parts : (r : Result ℕ LineCause) (s : Result (List ℕ) LineCause) (n : ℕ) (ns : List ℕ) → (r >>= (λ x. s >>= (λ xs. Ok (x ∷ xs)))) ≡ Ok (n ∷ ns)
    → (r ≡ Ok n) × (s ≡ Ok ns)
parts (Ok x) (Ok xs) n ns e = (cc, cc)
parts (Ok x) (Err cause) n ns e = cc
parts (Err cause) s n ns e = cc

some_parts : (r : Result ℕ LineCause) (s : Result (List ℕ) LineCause) → (r >>= (λ x. s >>= (λ xs. Ok (x ∷ xs)))) ≡ Ok [] → ⊥
some_parts (Ok x) (Ok xs) e = cc
some_parts (Ok x) (Err cause) e = cc
some_parts (Err cause) s e = cc

numbers_first : (words : List (List ℕ)) (n : ℕ) (ns : List ℕ) → numbers_of words ≡ Ok (n ∷ ns)
    → (word : List ℕ) × (rest : List (List ℕ)) × (words ≡ word ∷ rest) × (number_of word ≡ Ok n) × (numbers_of rest ≡ Ok ns)
numbers_first [] n ns e = cc
numbers_first (word ∷ rest) n ns e = let p = parts (number_of word) (numbers_of rest) n ns e in (word, rest, refl, p.0, p.1)

numbers_none : (words : List (List ℕ)) → numbers_of words ≡ Ok [] → words ≡ []
numbers_none [] e = refl
numbers_none (word ∷ rest) e = absurd (some_parts (number_of word) (numbers_of rest) e)

flip : (b : Bool) → not b ≡ true → b ≡ false
flip false e = refl
flip true e = cc

no_space_in : (name : List ℕ) → list_all (λ byte. not (is_space byte)) name ≡ true → HasNoSpace name
no_space_in name none =
    All-weaker (λ byte. not (is_space byte) ≡ true) (λ byte. is_space byte ≡ false) (λ byte e. flip (is_space byte) e) name
    (AllPass-from_list_all (λ byte. not (is_space byte)) name none)

words_behind : (name rest : List ℕ) → list_all (λ byte. not (is_space byte)) name ≡ true → words_of (name ++ 32 ∷ rest) ≡ name ∷ words_of rest
words_behind name rest none = slice_split_at is_space name 32 rest (no_space_in name none) refl

receive_so : (line rest : List ℕ) (node number : ℕ) → length line ≤ 65536 → line ≡ codes "receive " ++ rest
    → numbers_of (words_of rest) ≡ Ok (node ∷ number ∷ []) → meaning line ≡ Ok (Service (Port (port_commands.Receive node number)))
receive_so line rest node number short begins said =
    let first = numbers_first (words_of rest) node (number ∷ []) said in
    let second = numbers_first first.1 number [] first.4 in
    let none = numbers_none second.1 second.4 in
    let words : words_of line ≡ codes "receive" ∷ first.0 ∷ second.0 ∷ [] =
    ap words_of begins ∙ words_behind (codes "receive") rest refl ∙ ap (λ ws. codes "receive" ∷ ws) (first.2 ∙ ap (λ ws. first.0 ∷ ws) (second.2 ∙ ap (λ ws. second.0 ∷ ws) none)) in
    rw (le-ltb 65536 (length line) short, words, first.3, second.3) refl

read_so : (line rest : List ℕ) (node number : ℕ) → length line ≤ 65536 → line ≡ codes "read " ++ rest
    → numbers_of (words_of rest) ≡ Ok (node ∷ number ∷ []) → meaning line ≡ Ok (Service (Port (port_commands.Read node number)))
read_so line rest node number short begins said =
    let first = numbers_first (words_of rest) node (number ∷ []) said in
    let second = numbers_first first.1 number [] first.4 in
    let none = numbers_none second.1 second.4 in
    let words : words_of line ≡ codes "read" ∷ first.0 ∷ second.0 ∷ [] =
    ap words_of begins ∙ words_behind (codes "read") rest refl ∙ ap (λ ws. codes "read" ∷ ws) (first.2 ∙ ap (λ ws. first.0 ∷ ws) (second.2 ∙ ap (λ ws. second.0 ∷ ws) none)) in
    rw (le-ltb 65536 (length line) short, words, first.3, second.3) refl

pub send_so : (line rest : List ℕ) (node number : ℕ) (payload : List ℕ) → length line ≤ 65536 → line ≡ codes "send-copy " ++ rest
    → numbers_of (words_of rest) ≡ Ok (node ∷ number ∷ payload) → meaning line ≡ Ok (Service (Port (port_commands.SendCopy node number payload)))
send_so line rest node number payload short begins said =
    let first = numbers_first (words_of rest) node (number ∷ payload) said in
    let second = numbers_first first.1 number payload first.4 in
    let words : words_of line ≡ codes "send-copy" ∷ first.0 ∷ second.0 ∷ second.1 =
    ap words_of begins ∙ words_behind (codes "send-copy") rest refl ∙ ap (λ ws. codes "send-copy" ∷ ws) (first.2 ∙ ap (λ ws. first.0 ∷ ws) second.2) in
    rw (le-ltb 65536 (length line) short, words, first.3, second.3, second.4) refl

pub receive_found : (line rest : List ℕ) (r : Option (ℕ × ℕ)) → length line ≤ 65536 → line ≡ codes "receive " ++ rest
    → IfSome r (λ two. numbers_of (words_of rest) ≡ Ok (two.0 ∷ two.1 ∷ []))
    → IfSome r (λ call. meaning line ≡ Ok (Service (Port (port_commands.Receive call.0 call.1))))
receive_found line rest None short begins said = tt
receive_found line rest (Some two) short begins said = receive_so line rest two.0 two.1 short begins said

pub read_found : (line rest : List ℕ) (r : Option (ℕ × ℕ)) → length line ≤ 65536 → line ≡ codes "read " ++ rest
    → IfSome r (λ two. numbers_of (words_of rest) ≡ Ok (two.0 ∷ two.1 ∷ []))
    → IfSome r (λ call. meaning line ≡ Ok (Service (Port (port_commands.Read call.0 call.1))))
read_found line rest None short begins said = tt
read_found line rest (Some two) short begins said = read_so line rest two.0 two.1 short begins said
