-- The request header of seven words, from its parts.
use Rattle.std.proofs.Common.{ℕ, ◌≡◌, ◌<◌, ◌^◌, List, [], ◌∷◌, Some, length, get_or, nat_lt, true, refl, arith}
use Rattle.std.proofs.lemmas.Bool.Decides.{nat_tests}
use Rattle.iox_types.specs.Identifiers.{id_of_words, node_id_of_words}
use Rattle.iox_types.specs.Headers.{request_header_of, request_header_of_words}
use Rattle.iox_types.specs.declared.identifiers.system_id.UniqueSystemId.{UniqueSystemId}

below : (a b : ℕ) → a < b → nat_lt a b ≡ true
below a b h = grind (arith, nat_tests)

-- each part gives its field
pub request_header_of_words-seven : (list : List ℕ) (node client : UniqueSystemId) → length list ≡ 7 →
    node_id_of_words (get_or list 0 0 ∷ get_or list 1 0 ∷ []) ≡ Some node → id_of_words
    (get_or list 2 0 ∷ get_or list 3 0 ∷ []) ≡ Some client →
    get_or list 4 0 < 2 ^ 64 → get_or list 5 0 < 2 ^ 62 → get_or list 6 0 < 2 ^ 64 →
    request_header_of_words list ≡ Some (request_header_of (
      node,
      (
        client,
        (
          get_or list 4 0,
          (get_or list 5 0, get_or list 6 0),
        ),
      ),
    ))
request_header_of_words-seven
    (a ∷ b ∷ c ∷ d ∷ e ∷ f ∷ g ∷ []) node client len is_node is_client channel request elements =
    rw (
      is_node,
      is_client,
      below e (2 ^ 64) channel,
      below f (2 ^ 62) request,
      below g
          (2 ^ 64) elements,
    ) refl
request_header_of_words-seven list node client len is_node is_client channel request elements = absurd
    (omega arith)
