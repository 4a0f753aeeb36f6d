-- What a line asks of a service is what the service is asked.
use Rattle.std.specs.Prelude.{◌≡◌, ℕ, ◌==◌, Bool, true, false, ◌&&◌, if◌then◌else◌, List, [], ◌∷◌, flat_map, length, Option, None, Some, refl}
use Rattle.std.specs.Option.{option_map_or}
use Rattle.std.proofs.Common.{ap, ap₂}
use Rattle.std.proofs.lemmas.Bool.{and_right, eqb-true}
use Rattle.iox_words.specs.Numbers.{one_word}
use Rattle.iox_model.specs.declared.kind.Kind.{Kind}
use Rattle.iox_model.specs.declared.kind.Kind.TheVariants.{ActiveRequest}
use Rattle.iox_model.specs.declared.kind.Kind.TheVariants as kinds
use Rattle.iox_model.specs.declared.kind.Role.TheVariants.{Client, Server}
use Rattle.iox_model.specs.Handles.{Subject, has, kind_code, kind_of, node_of, same_kind, subject}
use Rattle.iox_model.specs.States.{Fixed, State}
use Rattle.iox_nodes.specs.Lending.{payload_of}
use Rattle.iox_session.specs.Answers.{payload_given}

one_word_each : (ws : List ℕ) → flat_map one_word ws ≡ ws
one_word_each [] = refl
one_word_each (w ∷ ws) = ap (λ rest. w ∷ rest) (one_word_each ws)

-- elements of a word each are the payload that a line sends
pub payload_so : (s : State) (node n : ℕ) (ws : List ℕ) (b : Bool) → b ≡ has s.fixed node n ActiveRequest
    → payload_of (if b then Server else Client) (length ws) (flat_map one_word ws) ≡ payload_given s node n ws
payload_so s node n ws b e =
    ap₂ (λ (active : Bool) words. payload_of (if active then Server else Client) (length ws) words) e (one_word_each ws)

-- ---- who sends

same_code : (kind : Kind) → same_kind kind kinds.Client ≡ true → same_kind kind ActiveRequest ≡ false
same_code kind client = ap (λ code. code == 7) (eqb-true (kind_code kind) 0 client)

second : (a b : Bool) → (a && b) ≡ true → b ≡ true
second true b both = both
second false b both = cc

of_kind : (node : ℕ) (found : Option Subject) → option_map_or (λ x. (node_of x == node) && same_kind (kind_of x) kinds.Client) found false ≡ true
    → option_map_or (λ x. (node_of x == node) && same_kind (kind_of x) ActiveRequest) found false ≡ false
of_kind node None client = refl
of_kind node (Some x) client = and_right (node_of x == node) _ (same_code (kind_of x) (second (node_of x == node) _ client))

-- the number of a client is no active request's
pub no_active_request : (f : Fixed) (node n : ℕ) → has f node n kinds.Client ≡ true → has f node n ActiveRequest ≡ false
no_active_request f node n client = of_kind node (subject f node n) client
