-- Lists of which the first words are known, and those of a message.
use Rattle.std.specs.Prelude.{slice_index}
use Rattle.std.proofs.Common.{◌≡◌, ℕ, ◌+◌, ◌-◌, ◌*◌, ◌<◌, ◌≤◌, ◌++◌, List, [], ◌∷◌, length, refl, ap, sym, ◌∙◌, arith}
use Rattle.std.proofs.Math.ListN.{get_or-append}
use Rattle.std.proofs.Math.Seq.{get_or-append_seam}
use Rattle.std.proofs.lemmas.List.{append_assoc, get_or-append-add, length-append}
use Rattle.std.proofs.lemmas.Nat.{mul-le}
use Rattle.iox_model.specs.declared.kind.Role.{Role}
use Rattle.iox_model.specs.declared.kind.Role.TheVariants.{Client, Server}
use Rattle.iox_model.specs.Messages.{Message}
use Rattle.iox_wire_moments.specs.MomentsOf.{Pools}
use Rattle.iox_wire_locals.specs.Stored.{header_length, header_words, message_words}
use Rattle.iox_wire_locals.specs.Tables.{Setting, port_shape}
use Rattle.iox_wire_laws.specs.WireRegions.Regions.{words_of_longest}
use Rattle.iox_wire_laws.specs.WireRegions.StoredMessages.{AreFirst, HasMessage, words_in}

-- ---- the first words of a list

-- with the word behind them, they are the first again
pub next_first : (words list : List ℕ) (seen : ℕ) → AreFirst words list → length words < length list → seen ≡ slice_index list (length words)
    → AreFirst (words ++ seen ∷ []) list
next_first words list seen (rest, is) low found = at rest is
  where
    at : (rest : List ℕ) → words ++ rest ≡ list → AreFirst (words ++ seen ∷ []) list
    at [] is =
        let e : length (words ++ []) ≡ length list = ap length is in
        let f : length (words ++ []) ≡ length words + 0 = length-append words [] in absurd (omega arith)
    at (r ∷ rs) is =
        let e : seen ≡ r = found ∙ ap (λ xs. slice_index xs (length words)) (sym is) ∙ get_or-append_seam words r rs 0 in
        (rs, append_assoc words (seen ∷ []) rs ∙ ap (λ k. words ++ k ∷ rs) e ∙ is)

-- as many as all are all
pub all_first : (words list : List ℕ) → AreFirst words list → length words ≡ length list → words ≡ list
all_first words list (rest, is) same = at rest is
  where
    nothing : (xs : List ℕ) → xs ++ [] ≡ xs
    nothing [] = refl
    nothing (y ∷ ys) = ap (λ zs. y ∷ zs) (nothing ys)

    at : (rest : List ℕ) → words ++ rest ≡ list → words ≡ list
    at [] is = sym (nothing words) ∙ is
    at (r ∷ rs) is =
        let e : length (words ++ r ∷ rs) ≡ length list = ap length is in
        let f : length (words ++ r ∷ rs) ≡ length words + length (r ∷ rs) = length-append words (r ∷ rs) in
        let g : length (r ∷ rs) ≡ length rs + 1 = omega arith in absurd (omega arith)

-- ---- the words of a message

pub header_count : (r : Role) (m : Message) → length (header_words r m) ≡ header_length r
header_count Client m = refl
header_count Server m = refl

pub header_request : (r : Role) (m : Message) → slice_index (header_words r m) (header_length r - 2) ≡ m.request
header_request Client m = refl
header_request Server m = refl

pub header_lane : (m : Message) → slice_index (header_words Client m) 4 ≡ m.lane
header_lane m = refl

-- a word of the header, and one behind it
pub word_of_header : (r : Role) (m : Message) (k : ℕ) → k < header_length r → slice_index (message_words r m) k ≡ slice_index (header_words r m) k
word_of_header r m k low =
    get_or-append (header_words r m) (m.user ++ m.payload) 0 k (let e : length (header_words r m) ≡ header_length r = header_count r m in omega arith)

pub word_behind : (r : Role) (m : Message) (k : ℕ) → slice_index (message_words r m) (header_length r + k) ≡ slice_index (m.user ++ m.payload) k
word_behind r m k =
    ap (λ n. slice_index (message_words r m) (n + k)) (sym (header_count r m)) ∙ get_or-append-add (header_words r m) (m.user ++ m.payload) k 0

pub count_of_words : (r : Role) (m : Message) → length (message_words r m) ≡ header_length r + (length m.user + length m.payload)
count_of_words r m =
    let a : length (message_words r m) ≡ length (header_words r m) + length (m.user ++ m.payload) = length-append (header_words r m) (m.user ++ m.payload) in
    let b : length (m.user ++ m.payload) ≡ length m.user + length m.payload = length-append m.user m.payload in
    let c : length (header_words r m) ≡ header_length r = header_count r m in omega arith

pub words_low : (p : Setting) (held : Pools) (port slot : ℕ) → HasMessage p held port slot → length (words_in p held port slot) ≤ words_of_longest p port
words_low p held port slot has =
    let few : (held port slot).elements * (port_shape p port).width ≤ (p.port port).longest * (port_shape p port).width
    = mul-le (held port slot).elements (port_shape p port).width (p.port port).longest (port_shape p port).width has.room (omega arith) in
    let count = count_of_words (p.port port).role (held port slot) in
    let user = has.user in let payload = has.payload in omega arith
