-- The machine counts handles as the tables do.
use Rattle.std.specs.Prelude.{◌≡◌, ℕ, suc, Bool, true, false, not, ◌&&◌, ◌||◌, if◌then◌else◌, ◌==◌, nat_le, nat_lt, List, [], ◌∷◌, length, map, filter, Option, Some, None, refl}
use Rattle.std.specs.List.{list_all, list_any, range_with_len}
use Rattle.std.specs.Option.{option_map, option_map_or}
use Rattle.std.proofs.Common.{sym, ap, ap₂, ◌∙◌, true≢false, eqb-true}
use Rattle.iox_model.specs.declared.kind.Kind.TheVariants.{PendingResponse}
use Rattle.iox_model.specs.Handles.{handles_of, is_request_loan, is_response_loan, same_kind}
use Rattle.iox_model.specs.Peers.{node_of_port}
use Rattle.iox_model.specs.States as m
use Rattle.iox_laws.proofs.WeaveLaws.MapLemmas.{eqb-refl}
use Rattle.iox_tables.specs.HubStates.Tables.{HandleState, HubTables, PortState, port_in}
use Rattle.iox_tables.specs.HubStates.States.{Given, fixed_of, handle_of, handles_in, message_of, port_of}
use Rattle.iox_tables.specs.HubStates.Ends.{OfEachHandle}
use Rattle.iox_tables.specs.HubStates.Releases.{request_of}
use Rattle.iox_tables.proofs.HubStates.Fixing.{find_port}
use Rattle.iox_tables.specs.HubLoans.Counts.{AreOnNodes, IsOnNode, EachCountIsTheSame, count_in, is_lane_taken}

-- ---- lists

-- a count of those that pass, of what passed before
count_map : {A B : Type 0} (test : B → Bool) (show : A → B) (pre : A → Bool) (xs : List A)
    → length (filter test (map show (filter pre xs))) ≡ length (filter (λ a. pre a && test (show a)) xs)
count_map test show pre [] = refl
count_map test show pre (a ∷ rest) = step (pre a) (test (show a)) refl (count_map test show pre rest)
  where
    step : (b c : Bool) → test (show a) ≡ c → length (filter test (map show (filter pre rest))) ≡ length (filter (λ a. pre a && test (show a)) rest)
        → length (filter test (map show (if b then a ∷ filter pre rest else filter pre rest)))
        ≡ length (if b && c then a ∷ filter (λ a. pre a && test (show a)) rest else filter (λ a. pre a && test (show a)) rest)
    step true true is e =
        ap (λ (b : Bool). length (if b then show a ∷ filter test (map show (filter pre rest)) else filter test (map show (filter pre rest)))) is ∙ ap (λ n. suc n) e
    step true false is e =
        ap (λ (b : Bool). length (if b then show a ∷ filter test (map show (filter pre rest)) else filter test (map show (filter pre rest)))) is ∙ e
    step false c is e = e

pub any_map : {A B : Type 0} (test : B → Bool) (show : A → B) (pre : A → Bool) (xs : List A)
    → list_any test (map show (filter pre xs)) ≡ list_any (λ a. pre a && test (show a)) xs
any_map test show pre [] = refl
any_map test show pre (a ∷ rest) = step (pre a) (any_map test show pre rest)
  where
    step : (b : Bool) → list_any test (map show (filter pre rest)) ≡ list_any (λ a. pre a && test (show a)) rest
        → list_any test (map show (if b then a ∷ filter pre rest else filter pre rest)) ≡ ((b && test (show a)) || list_any (λ a. pre a && test (show a)) rest)
    step true e = ap (λ b. test (show a) || b) e
    step false e = e

all_same : (f g : ℕ → Bool) → ((n : ℕ) → f n ≡ g n) → (ns : List ℕ) → list_all f ns ≡ list_all g ns
all_same f g same [] = refl
all_same f g same (n ∷ ns) = ap₂ (λ a b. a && b) (same n) (all_same f g same ns)

-- ---- the handles of a port

-- the node of the port of that number
abbrev node_in : List PortState → ℕ → ℕ
node_in ports n = option_map_or (λ p. p.node) (port_in ports n) 0

node_is : (x : Given) (t : HubTables) (n : ℕ) → node_of_port (fixed_of x t) n ≡ node_in t.ports n
node_is x t n = ap (λ (o : Option m.Port). option_map_or (λ p. p.node) o 0) (find_port x t.ports n) ∙ step (port_in t.ports n)
  where
    step : (o : Option PortState) → option_map_or (λ (p : m.Port). p.node) (option_map (port_of x) o) 0 ≡ option_map_or (λ p. p.node) o 0
    step (Some p) = refl
    step None = refl

module _ (x : Given) (t : HubTables) where
  abbrev show : HandleState → m.Handle
  show = handle_of x (message_of x t.pools)

  -- each handle's node is that of its port
  nodes_are : (hs : List HandleState) → OfEachHandle (IsOnNode t) hs → OfEachHandle (λ h. h.node ≡ node_in t.ports h.port) hs
  nodes_are [] on = tt
  nodes_are (h ∷ hs) on = (on.0.node ∙ sym (ap (λ (o : Option PortState). option_map_or (λ p. p.node) o 0) on.0.there), nodes_are hs on.1)

  of_port : (n : ℕ) (hs : List HandleState) → OfEachHandle (λ h. h.node ≡ node_in t.ports h.port) hs
      → filter (λ (h : m.Handle). h.port == n) (map show (filter (λ h. h.node == node_in t.ports n) hs)) ≡ map show (filter (λ h. h.port == n) hs)
  of_port n [] on = refl
  of_port n (h ∷ hs) on = step (h.port == n) refl (h.node == node_in t.ports n) refl (of_port n hs on.1)
    where
      rest : List HandleState
      rest = filter (λ h. h.node == node_in t.ports n) hs

      step : (b : Bool) → (h.port == n) ≡ b → (c : Bool) → (h.node == node_in t.ports n) ≡ c
          → filter (λ (h : m.Handle). h.port == n) (map show (filter (λ h. h.node == node_in t.ports n) hs)) ≡ map show (filter (λ h. h.port == n) hs)
          → filter (λ (h : m.Handle). h.port == n) (map show (if c then h ∷ filter (λ h. h.node == node_in t.ports n) hs else filter (λ h. h.node == node_in t.ports n) hs))
          ≡ map show (if b then h ∷ filter (λ h. h.port == n) hs else filter (λ h. h.port == n) hs)
      step true eb true ec e =
          ap (λ (b : Bool). if b then show h ∷ filter (λ (h : m.Handle). h.port == n) (map show (filter (λ h. h.node == node_in t.ports n) hs)) else filter (λ (h : m.Handle). h.port == n) (map show (filter (λ h. h.node == node_in t.ports n) hs))) eb
          ∙ ap (λ hs. show h ∷ hs) e
      step false eb true ec e =
          ap (λ (b : Bool). if b then show h ∷ filter (λ (h : m.Handle). h.port == n) (map show (filter (λ h. h.node == node_in t.ports n) hs)) else filter (λ (h : m.Handle). h.port == n) (map show (filter (λ h. h.node == node_in t.ports n) hs))) eb
          ∙ e
      step true eb false ec e =
          absurd (true≢false (sym (eqb-refl h.node) ∙ ap (λ k. h.node == k) (on.0 ∙ ap (node_in t.ports) (eqb-true h.port n eb)) ∙ ec))
      step false eb false ec e = e

  pub handles_are : AreOnNodes t → (n : ℕ) → handles_of (fixed_of x t) n ≡ map show (filter (λ h. h.port == n) t.handles)
  handles_are on n =
      ap (λ k. filter (λ (h : m.Handle). h.port == n) (handles_in x (message_of x t.pools) t.handles k)) (node_is x t n)
      ∙ of_port n t.handles (nodes_are t.handles on)

  -- a count of them
  pub count_is : AreOnNodes t → (n : ℕ) (test : m.Handle → Bool) → length (filter test (handles_of (fixed_of x t) n)) ≡ count_in t n (λ h. test (show h))
  count_is on n test =
      ap (λ hs. length (filter test hs)) (handles_are on n) ∙ count_map test show (λ h. h.port == n) t.handles

  taken_is : AreOnNodes t → (n lane : ℕ)
      → list_any (λ (h : m.Handle). (is_request_loan h.kind || same_kind h.kind PendingResponse) && (h.lane == lane)) (handles_of (fixed_of x t) n) ≡ is_lane_taken t n lane
  taken_is on n lane =
      ap (list_any (λ (h : m.Handle). (is_request_loan h.kind || same_kind h.kind PendingResponse) && (h.lane == lane))) (handles_are on n)
      ∙ any_map (λ (h : m.Handle). (is_request_loan h.kind || same_kind h.kind PendingResponse) && (h.lane == lane)) show (λ h. h.port == n) t.handles

pub each_count_is_the_same : EachCountIsTheSame
each_count_is_the_same x t on = record {
  kinds = λ n test. count_is x t on n (λ h. test h.kind);
  responses = λ h. count_is x t on h.port (λ l. is_response_loan l.kind && ((l.client == h.client) && (l.request == request_of t h)));
  active = λ h. ap (λ k. nat_le t.settings.active_requests k) (count_is x t on h.port (λ l. same_kind l.kind PendingResponse));
  taken = λ n lane. taken_is x t on n lane;
  free = λ p lane.
      ap₂ (λ a b. not a && (nat_lt lane p.size || b)) (taken_is x t on p.number lane)
      (all_same _ _ (taken_is x t on p.number) (range_with_len 0 p.size));
}
