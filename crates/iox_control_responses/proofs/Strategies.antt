-- Whether a send of a port without a handler fails is said by its strategy.
use Rattle.std.specs.Prelude.{◌≡◌, ℕ, false, List, Option, Some, None, refl}
use Rattle.std.specs.Option.{option_map, option_map_or}
use Rattle.std.proofs.Common.{sym, ap, ◌∙◌}
use Rattle.std.proofs.lemmas.Option.{none-some}
use Rattle.iox_model.specs.declared.way.Way.{Way}
use Rattle.iox_model.specs.Peers.{port_at}
use Rattle.iox_model.specs.Requests.{fails_at, port_fails}
use Rattle.iox_model.specs.Settings.{fails_by, fails_by_strategy}
use Rattle.iox_tables.specs.HubStates.Tables.{HubTables, PortState, port_in}
use Rattle.iox_tables.specs.HubStates.States.{Given, fixed_of, port_of}
use Rattle.iox_tables.proofs.HubStates.Fixing.{find_port, first_key}
use Rattle.iox_tables.proofs.HubBooks.Frames.{some_map}
use Rattle.iox_hub_ports.specs.declared.info.PortInfo.{PortInfo}
use Rattle.iox_hub_ports.specs.Ports.{info_in, info_of}

module _ (x : Given) (t : HubTables) (n : ℕ) (plain : x.handler n ≡ None) (w : Way) (from : w.sender ≡ n) where
  by_port : (o : Option PortState) → port_in t.ports n ≡ o → fails_at (fixed_of x t) w ≡ option_map_or (λ p. fails_by_strategy p.strategy) o false
  by_port o at =
      ap (λ k. option_map_or (λ p. port_fails (fixed_of x t) p w) (port_at (fixed_of x t) k) false) from
      ∙ ap (λ q. option_map_or (λ p. port_fails (fixed_of x t) p w) q false) (find_port x t.ports n ∙ ap (option_map (port_of x)) at)
      ∙ step o at
    where
      step : (o : Option PortState) → port_in t.ports n ≡ o
          → option_map_or (λ p. port_fails (fixed_of x t) p w) (option_map (port_of x) o) false ≡ option_map_or (λ (p : PortState). fails_by_strategy p.strategy) o false
      step None there = refl
      step (Some p) there =
          ap (λ (q : Option (List ℕ)). option_map_or (λ words. fails_by (x.acts words w.sender w.receiver) p.strategy) q (fails_by_strategy p.strategy))
          (ap x.handler (first_key (λ (q : PortState). q.number) t.ports n p there) ∙ plain)

  pub no_port_fails : (i : Option PortInfo) → i ≡ info_in t.ports n → i ≡ None → fails_at (fixed_of x t) w ≡ false
  no_port_fails i found none = step (port_in t.ports n) refl (sym found ∙ none)
    where
      step : (o : Option PortState) → port_in t.ports n ≡ o → option_map info_of o ≡ None → fails_at (fixed_of x t) w ≡ false
      step None at e = by_port None at
      step (Some p) at e = absurd (none-some (info_of p) (sym e))

  pub by_strategy : (i : Option PortInfo) (info : PortInfo) → i ≡ info_in t.ports n → i ≡ Some info → fails_at (fixed_of x t) w ≡ fails_by_strategy info.strategy
  by_strategy i info found some =
      let p = some_map info_of (port_in t.ports n) info (sym found ∙ some) in
      by_port (Some p.0) p.1 ∙ ap (λ (q : PortInfo). fails_by_strategy q.strategy) p.2
