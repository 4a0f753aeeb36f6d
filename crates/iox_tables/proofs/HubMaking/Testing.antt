-- The test whether anything of a port is left.
use Rattle.std.specs.Prelude.{◌≡◌, ℕ, Bool, true, false, not, ◌&&◌, ◌||◌, if◌then◌else◌, ◌==◌, List, [], ◌∷◌, map, filter, Option, Some, None, refl}
use Rattle.std.specs.List.{list_any}
use Rattle.std.specs.Option.{option_map, option_map_or}
use Rattle.std.proofs.Common.{sym, ap, ap₂, ◌∙◌, true≢false, eqb-true, eq-eqb}
use Rattle.std.proofs.lemmas.Option.{none-some}
use Rattle.iox_model.specs.Expiries.{disconnected, is_last_gone}
use Rattle.iox_model.specs.Maps.{AreDistinct, has_number, is_empty}
use Rattle.iox_model.specs.Peers.{node_of_port}
use Rattle.iox_model.specs.States as m
use Rattle.iox_tables.specs.HubStates.Tables.{HandleState, HubTables, PortState, numbers_of, port_in}
use Rattle.iox_tables.specs.HubStates.Shown.{MessagesByPlace}
use Rattle.iox_tables.specs.HubStates.States.{Given, fixed_of, handle_of, handles_in, message_of, port_of, state_shown}
use Rattle.iox_tables.specs.HubStates.Ends.{OfEachHandle}
use Rattle.iox_tables.proofs.HubStates.Fixing.{find_port}
use Rattle.iox_tables.specs.HubMaking.Disconnections.{ReleasesAreShown, UnusedIsTold, is_held_in, is_of_port, is_unused, node_in, with_disconnected}
use Rattle.iox_tables.proofs.HubMaking.Disconnecting.{disconnections_are_shown}

module _ (x : Given) (n : ℕ) where
  held_is : (ports : List PortState) → list_any (λ (p : m.Port). (p.number == n) && p.held) (map (port_of x) ports) ≡ is_held_in ports n
  held_is [] = refl
  held_is (p ∷ ps) = ap (λ (b : Bool). ((p.number == n) && p.held) || b) (held_is ps)

  node_is : (t : HubTables) → node_of_port (fixed_of x t) n ≡ node_in t.ports n
  node_is t = ap (λ (o : Option m.Port). option_map_or (λ p. p.node) o 0) (find_port x t.ports n) ∙ step (port_in t.ports n)
    where
      step : (o : Option PortState) → option_map_or (λ (p : m.Port). p.node) (option_map (port_of x) o) 0 ≡ option_map_or (λ p. p.node) o 0
      step (Some p) = refl
      step None = refl

  none_is : (message : MessagesByPlace) (node : ℕ) (hs : List HandleState)
      → is_empty (filter (λ (h : m.Handle). h.port == n) (handles_in x message hs node)) ≡ not (list_any (λ h. (h.node == node) && (h.port == n)) hs)
  none_is message node [] = refl
  none_is message node (k ∷ ks) = step (k.node == node) (k.port == n) refl (none_is message node ks)
    where
      H : HandleState → m.Handle
      H h = handle_of x message h

      rest : List HandleState
      rest = filter (λ h. h.node == node) ks

      step : (a b : Bool) → (k.port == n) ≡ b
          → is_empty (filter (λ (h : m.Handle). h.port == n) (handles_in x message ks node)) ≡ not (list_any (λ h. (h.node == node) && (h.port == n)) ks)
          → is_empty (filter (λ (h : m.Handle). h.port == n) (map (handle_of x message) (if a then k ∷ filter (λ h. h.node == node) ks else filter (λ h. h.node == node) ks)))
          ≡ not ((a && b) || list_any (λ h. (h.node == node) && (h.port == n)) ks)
      step false b is e = e
      step true true is e =
          ap (λ (b : Bool). is_empty (if b then handle_of x message k ∷ filter (λ (h : m.Handle). h.port == n) (handles_in x message ks node) else filter (λ (h : m.Handle). h.port == n) (handles_in x message ks node))) is
      step true false is e =
          ap (λ (b : Bool). is_empty (if b then handle_of x message k ∷ filter (λ (h : m.Handle). h.port == n) (handles_in x message ks node) else filter (λ (h : m.Handle). h.port == n) (handles_in x message ks node))) is ∙ e

  test_is : (t : HubTables) → is_last_gone (fixed_of x t) n ≡ is_unused t n
  test_is t =
      ap₂ (λ (a b : Bool). not a && b) (held_is t.ports)
      (ap (λ node. is_empty (filter (λ (h : m.Handle). h.port == n) (handles_in x (message_of x t.pools) t.handles node))) (node_is t)
      ∙ none_is (message_of x t.pools) (node_in t.ports n) t.handles)

pub releases_are_shown : ReleasesAreShown
releases_are_shown x t n = record {
  test = test_is x n t;
  does = λ keeps.
      ap (λ (b : Bool). if b then disconnected (state_shown x t) n else state_shown x t) (test_is x n t)
      ∙ ap (λ s. if is_unused t n then s else state_shown x t) (disconnections_are_shown x t n keeps)
      ∙ step (is_unused t n);
}
  where
    step : (b : Bool) → (if b then state_shown x (with_disconnected t n) else state_shown x t) ≡ state_shown x (if b then with_disconnected t n else t)
    step true = refl
    step false = refl

-- ---- the look at one port

no_more : (ports : List PortState) (n : ℕ) → has_number n (numbers_of ports) ≡ false → is_held_in ports n ≡ false
no_more [] n e = refl
no_more (p ∷ ps) n e = step (p.number == n) (has_number n (numbers_of ps)) (no_more ps n) e
  where
    step : (a b : Bool) → (b ≡ false → is_held_in ps n ≡ false) → (a || b) ≡ false → ((a && p.held) || is_held_in ps n) ≡ false
    step true b rest h = absurd (true≢false h)
    step false b rest h = rest h

held_by : (ports : List PortState) (n : ℕ) (p : PortState) → port_in ports n ≡ Some p → AreDistinct (numbers_of ports) → is_held_in ports n ≡ p.held
held_by [] n p e apart = absurd (none-some p e)
held_by (q ∷ qs) n p e apart = step (q.number == n) refl (held_by qs n p) e
  where
    or_false : (a b : Bool) → b ≡ false → (a || b) ≡ a
    or_false true b h = refl
    or_false false b h = h

    step : (b : Bool) → (q.number == n) ≡ b → (port_in qs n ≡ Some p → AreDistinct (numbers_of qs) → is_held_in qs n ≡ p.held)
        → (if b then Some q else port_in qs n) ≡ Some p → ((b && q.held) || is_held_in qs n) ≡ p.held
    step true is more h =
        or_false q.held (is_held_in qs n) (no_more qs n (ap (λ k. has_number k (numbers_of qs)) (sym (eqb-true q.number n is)) ∙ apart.0))
        ∙ ap (λ (o : Option PortState). option_map_or (λ p. p.held) o q.held) h
    step false is more h = more h apart.1

handles_by : (ports : List PortState) (n : ℕ) (hs : List HandleState) → OfEachHandle (λ h. h.node ≡ node_in ports h.port) hs
    → list_any (is_of_port ports n) hs ≡ list_any (λ h. h.port == n) hs
handles_by ports n [] home = refl
handles_by ports n (h ∷ hs) home = ap₂ (λ (a b : Bool). a || b) (step (h.port == n) refl) (handles_by ports n hs home.1)
  where
    step : (b : Bool) → (h.port == n) ≡ b → ((h.node == node_in ports n) && b) ≡ b
    step true is = ap (λ (b : Bool). b && true) (eq-eqb h.node (node_in ports n) (home.0 ∙ ap (node_in ports) (eqb-true h.port n is)))
    step false is = none (h.node == node_in ports n)
      where
        none : (a : Bool) → (a && false) ≡ false
        none true = refl
        none false = refl

pub unused_is_told : UnusedIsTold
unused_is_told t n p there apart home =
    ap₂ (λ (a b : Bool). not a && not b) (held_by t.ports n p there apart) (handles_by t.ports n t.handles home)
