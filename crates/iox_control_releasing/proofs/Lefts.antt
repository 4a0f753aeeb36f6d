-- Whether anything of a port is left, as code tells it.
use Rattle.std.specs.Prelude.{◌≡◌, ℕ, Bool, true, false, not, ◌&&◌, ◌||◌, if◌then◌else◌, ◌==◌, List, [], ◌∷◌, Option, Some, None, refl}
use Rattle.std.specs.List.{list_any}
use Rattle.std.specs.Option.{option_map}
use Rattle.std.proofs.Common.{sym, ap, ap₂, ◌∙◌, eqb-true}
use Rattle.std.proofs.lemmas.Option.{none-some, same_Some}
use Rattle.iox_hub_ports.specs.declared.info.PortInfo.{PortInfo}
use Rattle.iox_hub_ports.specs.Ports.{info_in, info_of}
use Rattle.iox_tables.specs.HubStates.Tables.{HandleState, HubTables, PortState, port_in}
use Rattle.iox_tables.specs.HubStates.Ends.{OfEachHandle}
use Rattle.iox_tables.specs.HubBooks.Handles.{IsOfPort}
use Rattle.iox_tables.specs.HubBooks.Hubs.{AreInOrder}
use Rattle.iox_tables.specs.HubMaking.Disconnections.{is_held_in, is_of_port, is_unused}
use Rattle.iox_tables.proofs.HubMaking.Testing.{unused_is_told}
use Rattle.iox_tables.proofs.HubKeeping.Ordered.{at_home, names_apart}

info_is : (ports : List PortState) (n : ℕ) (info : PortInfo) → Some info ≡ info_in ports n → (p : PortState) × (port_in ports n ≡ Some p) × (info.held ≡ p.held)
info_is ports n info e = step (port_in ports n) refl e
  where
    step : (o : Option PortState) → port_in ports n ≡ o → Some info ≡ option_map info_of o → (p : PortState) × (port_in ports n ≡ Some p) × (info.held ≡ p.held)
    step None at e = absurd (none-some info (sym e))
    step (Some p) at e = (p, at, ap (λ (i : PortInfo). i.held) (same_Some info (info_of p) e))

pub info_none : (ports : List PortState) (n : ℕ) → None ≡ info_in ports n → port_in ports n ≡ None
info_none ports n e = step (port_in ports n) refl e
  where
    step : (o : Option PortState) → port_in ports n ≡ o → None ≡ option_map info_of o → port_in ports n ≡ None
    step None at e = at
    step (Some p) at e = absurd (none-some (info_of p) e)

module _ (t : HubTables) (n : ℕ) (order : AreInOrder t) where
  -- of a connected port
  pub told : (info : PortInfo) (any free : Bool) → Some info ≡ info_in t.ports n → any ≡ list_any (λ h. h.port == n) t.handles
      → not info.held ≡ free → (free && not any) ≡ is_unused t n
  told info any free found is held =
      let p = info_is t.ports n info found in
      ap₂ (λ (a b : Bool). a && not b) (sym held ∙ ap not p.2) is
      ∙ sym (unused_is_told t n p.0 p.1 (names_apart t order) (at_home t order))

  -- of one whose own value is there
  pub told_held : (info : PortInfo) → Some info ≡ info_in t.ports n → info.held ≡ true → false ≡ is_unused t n
  told_held info found held =
      let p = info_is t.ports n info found in
      ap (λ (a : Bool). not a && not (list_any (λ h. h.port == n) t.handles)) (sym held ∙ p.2)
      ∙ sym (unused_is_told t n p.0 p.1 (names_apart t order) (at_home t order))

  -- of one that is not connected
  pub told_of_none : port_in t.ports n ≡ None → true ≡ is_unused t n
  told_of_none none =
      sym (ap₂ (λ (a b : Bool). not a && not b) (held t.ports none) (handles t.handles order.ports))
    where
      and_false : (a b : Bool) → b ≡ false → (a && b) ≡ false
      and_false true b e = e
      and_false false b e = refl

      held : (ports : List PortState) → port_in ports n ≡ None → is_held_in ports n ≡ false
      held [] e = refl
      held (p ∷ ps) e = step (p.number == n) e (held ps)
        where
          step : (b : Bool) → (if b then Some p else port_in ps n) ≡ None → (port_in ps n ≡ None → is_held_in ps n ≡ false)
              → ((b && p.held) || is_held_in ps n) ≡ false
          step true e rest = absurd (none-some p (sym e))
          step false e rest = rest e

      other : (h : HandleState) → IsOfPort t h → (b : Bool) → (h.port == n) ≡ b → b ≡ false
      other h is false e = refl
      other h is true e = absurd (none-some is.port (sym none ∙ ap (port_in t.ports) (sym (eqb-true h.port n e)) ∙ is.there))

      handles : (hs : List HandleState) → OfEachHandle (IsOfPort t) hs → list_any (is_of_port t.ports n) hs ≡ false
      handles [] a = refl
      handles (h ∷ hs) a =
          ap₂ (λ (b c : Bool). b || c) (and_false (h.node == _) (h.port == n) (other h a.0 (h.port == n) refl)) (handles hs a.1)
