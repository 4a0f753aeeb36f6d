-- The words of a copy are those of its loan, and then its payload.
use Rattle.std.proofs.Common.{◌≡◌, ◌+◌, ◌<◌, ℕ, List, [], ◌∷◌, ◌++◌, length, slice_index, refl, ap, ap₂, sym, subst, ◌∙◌, length-append, append_assoc}
use Rattle.std.proofs.lemmas.List.{get_or_append_left, get_or-append-add}
use Rattle.iox_model.specs.declared.kind.Role.{Role}
use Rattle.iox_model.specs.declared.kind.Role.TheVariants.{Client, Server}
use Rattle.iox_model.specs.Messages.{Message}
use Rattle.iox_wire_locals.specs.declared.seat.Seat.{Seat}
use Rattle.iox_wire_locals.specs.NewLoans.{loan_words, message_in}
use Rattle.iox_wire_locals.specs.Stored.{header_length, header_words}
use Rattle.iox_wire_locals.specs.Tables.{Setting, words_before_payload}
use Rattle.iox_wire_request_sends.specs.Order.{Order}
use Rattle.iox_wire_request_sends.specs.WireLoansAims.{Knows}
use Rattle.iox_wire_request_sends.specs.Loans.{Loaned}
use Rattle.iox_wire_request_sends.specs.Orders.{loan_of}
use Rattle.iox_wire_copies.specs.Copies.{copy_of}

header_alike : (role : Role) (m : Message) (payload : List ℕ)
    → header_words role (record m { payload = payload }) ≡ header_words role m
header_alike Client m payload = refl
header_alike Server m payload = refl

header_has : (role : Role) (m : Message) → length (header_words role m) ≡ header_length role
header_has Client m = refl
header_has Server m = refl

ends_so : (xs : List ℕ) → xs ++ [] ≡ xs
ends_so [] = refl
ends_so (x ∷ xs) = ap (λ (ys : List ℕ). x ∷ ys) (ends_so xs)

-- ---- the words of an order's loan, and of its copy

pub copy_words : (p : Setting) (order : Order) (payload : List ℕ)
    → loan_words p (copy_of (loan_of order) payload) ≡ loan_words p (loan_of order) ++ payload
copy_words p order payload =
    let m : Message = message_in p (loan_of order) in
    ap (λ (ws : List ℕ). ws ++ (m.user ++ payload)) (header_alike (p.port order.port).role m payload)
    ∙ ap (λ (us : List ℕ). header_words (p.port order.port).role m ++ (us ++ payload)) (sym (ends_so m.user))
    ∙ sym (append_assoc (header_words (p.port order.port).role m) (m.user ++ []) payload)

pub before_payload : (p : Setting) (order : Order) → length (loan_words p (loan_of order)) ≡ words_before_payload p order.port
before_payload p order =
    let m : Message = message_in p (loan_of order) in
    length-append (header_words (p.port order.port).role m) (m.user ++ [])
    ∙ ap₂ (λ (a b : ℕ). a + b) (header_has (p.port order.port).role m) (ap (length {A = ℕ}) (ends_so m.user))

-- ---- those that a loan keeps

-- how many words a copy has
pub copy_has : (p : Setting) (x : Seat) (r : Loaned) (payload : List ℕ) → Knows p x r
    → length (loan_words p (copy_of (loan_of r.order) payload)) ≡ length r.words + length payload
copy_has p x r payload knows =
    ap (length {A = ℕ}) (copy_words p r.order payload)
    ∙ length-append (loan_words p (loan_of r.order)) payload
    ∙ ap (λ (ws : List ℕ). length ws + length payload) (sym knows.words)

-- a word in front of its payload
pub word_in_front : (p : Setting) (x : Seat) (r : Loaned) (payload : List ℕ) (k : ℕ) → Knows p x r → k < length r.words
    → slice_index (loan_words p (copy_of (loan_of r.order) payload)) k ≡ slice_index (loan_words p (loan_of r.order)) k
word_in_front p x r payload k knows within =
    ap (λ (ws : List ℕ). slice_index ws k) (copy_words p r.order payload)
    ∙ get_or_append_left (loan_words p (loan_of r.order)) payload 0 k (subst (λ (ws : List ℕ). k < length ws) knows.words within)

-- a word of its payload
pub word_behind : (p : Setting) (x : Seat) (r : Loaned) (payload : List ℕ) (k : ℕ) → Knows p x r
    → slice_index (loan_words p (copy_of (loan_of r.order) payload)) (length r.words + k) ≡ slice_index payload k
word_behind p x r payload k knows =
    ap (λ (ws : List ℕ). slice_index ws (length r.words + k)) (copy_words p r.order payload)
    ∙ ap (λ (ws : List ℕ). slice_index (ws ++ payload) (length r.words + k)) (sym knows.words)
    ∙ get_or-append-add r.words payload k 0

-- they stand behind all others
pub words_in_front : (p : Setting) (x : Seat) (r : Loaned) → Knows p x r → length r.words ≡ words_before_payload p r.order.port
words_in_front p x r knows = ap (length {A = ℕ}) knows.words ∙ before_payload p r.order
