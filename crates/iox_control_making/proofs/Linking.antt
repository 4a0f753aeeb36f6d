-- One after another, each port of the other role takes the pipe from a new port.
use Rattle.std.specs.Prelude.{◌≡◌, ℕ, Bool, true, false, ◌||◌, if◌then◌else◌, ◌==◌, List, [], ◌∷◌, ◌++◌, map, filter, Some, refl}
use Rattle.std.proofs.Common.{sym, ap, ap₂, ◌∙◌}
use Rattle.std.proofs.lemmas.Bool.{or_parts}
use Rattle.iox_model.specs.Maps.{AreDistinct, has_number}
use Rattle.iox_laws.proofs.WeaveLaws.MapLemmas.{eqb-refl}
use Rattle.iox_tables.specs.HubStates.Tables.{HubSettings, HubTables, PortState, numbers_of, port_in}
use Rattle.iox_tables.specs.HubStates.Ways.{with_port}
use Rattle.iox_tables.proofs.HubStates.Keys.{flip}
use Rattle.iox_tables.specs.HubBooks.Counts.{OfAll}
use Rattle.iox_tables.proofs.HubBooks.Eachs.{all_from}
use Rattle.iox_hub_ports.specs.Ports.{with_connected}
use Rattle.iox_tables.specs.HubMaking.NewPorts.{connected_to, is_other, pipe_between}
use Rattle.iox_tables.specs.HubMaking.OneByOne.{PipesHaveRoom}
use Rattle.iox_control_making.specs.declared.pipes.Link.{Link}
use Rattle.iox_control_making.specs.Links.{all_linked, links_between}
use Rattle.iox_control_making.proofs.Counting.{each_first}

-- to whom links lead
abbrev ends_of : List Link → List ℕ
ends_of ls = map (λ l. l.to) ls

-- a port to which none leads stays
no_links : (p : PortState) (ps : List PortState) (ls : List Link) → has_number p.number (ends_of ls) ≡ false → all_linked (p ∷ ps) ls ≡ p ∷ all_linked ps ls
no_links p ps [] e = refl
no_links p ps (l ∷ ls) e =
    let parts = or_parts (l.to == p.number) (has_number p.number (ends_of ls)) e in
    ap (λ qs. with_port (λ q. with_connected q l.pipe) qs l.to) (no_links p ps ls parts.1)
    ∙ ap (λ (b : Bool). if b then with_connected p l.pipe ∷ all_linked ps ls else p ∷ with_port (λ q. with_connected q l.pipe) (all_linked ps ls) l.to) (flip p.number l.to ∙ parts.0)

module _ (settings : HubSettings) (new : PortState) where
  no_end : (n : ℕ) (ps : List PortState) → has_number n (numbers_of ps) ≡ false → has_number n (ends_of (links_between settings ps new)) ≡ false
  no_end n [] e = refl
  no_end n (p ∷ ps) e =
      let parts = or_parts (p.number == n) (has_number n (numbers_of ps)) e in
      step (is_other p new) parts.0 (no_end n ps parts.1)
    where
      step : (b : Bool) → (p.number == n) ≡ false → has_number n (ends_of (links_between settings ps new)) ≡ false
          → has_number n (ends_of (map (λ q. record { to = q.number; pipe = pipe_between settings new q }) (if b then p ∷ filter (λ q. is_other q new) ps else filter (λ q. is_other q new) ps))) ≡ false
      step true off rest = ap₂ (λ a b. a || b) off rest
      step false off rest = rest

  -- the port takes its pipe
  abbrev Takes : PortState → Type 0
  Takes p = is_other p new ≡ true → connected_to settings new p ≡ with_connected p (pipe_between settings new p)

  all_take : (ps : List PortState) → AreDistinct (numbers_of ps) → OfAll Takes ps → all_linked ps (links_between settings ps new) ≡ map (connected_to settings new) ps
  all_take [] apart take = refl
  all_take (p ∷ ps) apart take = step (is_other p new) refl (all_take ps apart.1 take.1)
    where
      off : has_number p.number (ends_of (links_between settings ps new)) ≡ false
      off = no_end p.number ps apart.0

      step : (b : Bool) → is_other p new ≡ b → all_linked ps (links_between settings ps new) ≡ map (connected_to settings new) ps
          → all_linked (p ∷ ps) (map (λ q. record { to = q.number; pipe = pipe_between settings new q }) (if b then p ∷ filter (λ q. is_other q new) ps else filter (λ q. is_other q new) ps))
          ≡ connected_to settings new p ∷ map (connected_to settings new) ps
      step true is rest =
          ap (λ qs. with_port (λ q. with_connected q (pipe_between settings new p)) qs p.number) (no_links p ps (links_between settings ps new) off)
          ∙ ap (λ (b : Bool). if b then with_connected p (pipe_between settings new p) ∷ all_linked ps (links_between settings ps new)
          else p ∷ with_port (λ q. with_connected q (pipe_between settings new p)) (all_linked ps (links_between settings ps new)) p.number) (eqb-refl p.number)
          ∙ ap₂ (λ q qs. q ∷ qs) (sym (take.0 is)) rest
      step false is rest =
          no_links p ps (links_between settings ps new) off
          ∙ ap₂ (λ q qs. q ∷ qs) (sym (stays is)) rest
        where
          stays : is_other p new ≡ false → connected_to settings new p ≡ p
          stays e =
              ap (λ (b : Bool). if b then record p { incoming = record (p.incoming) { pipes = p.incoming.pipes ++ pipe_between settings new p ∷ [] } } else p) e

-- all are connected to the new port
pub all_are_linked : (t : HubTables) (new : PortState) → AreDistinct (numbers_of t.ports) → PipesHaveRoom t new
    → all_linked t.ports (links_between t.settings t.ports new) ≡ map (connected_to t.settings new) t.ports
all_are_linked t new apart room =
    all_take t.settings new t.ports apart
    (all_from (λ p. port_in t.ports p.number ≡ Some p) (Takes t.settings new) (λ p there other. room.others p.number p there other) t.ports
    (each_first (λ (p : PortState). p.number) t.ports apart))
