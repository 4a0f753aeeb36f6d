-- Whether a send of a port fails is said by its handler, or else by its strategy.
use Rattle.std.specs.Prelude.{◌≡◌, ℕ, false, List, Some}
use Rattle.std.specs.Option.{option_map, option_map_or}
use Rattle.std.proofs.Common.{ap, ◌∙◌}
use Rattle.iox_model.specs.declared.backpressure.BackpressureAction.{BackpressureAction}
use Rattle.iox_model.specs.declared.way.Way.{Way}
use Rattle.iox_model.specs.Requests.{fails_at, port_fails}
use Rattle.iox_model.specs.Settings.{fails_by, fails_by_strategy}
use Rattle.iox_tables.specs.HubStates.Tables.{HubTables, PortState, port_in}
use Rattle.iox_tables.specs.HubStates.States.{Given, fixed_of, port_of}
use Rattle.iox_tables.proofs.HubStates.Fixing.{find_port}
use Rattle.iox_backpressure.specs.Answers.{action_in}
use Rattle.iox_backpressure.specs.Failing.{fails_with}

pub as_the_machine : (x : Given) (t : HubTables) (w : Way) (p : PortState) → x.acts ≡ action_in → port_in t.ports w.sender ≡ Some p
    → fails_at (fixed_of x t) w ≡ fails_with (x.handler p.number) p.strategy w.sender w.receiver
as_the_machine x t w p acts at =
    ap (λ o. option_map_or (λ q. port_fails (fixed_of x t) q w) o false) (find_port x t.ports w.sender ∙ ap (option_map (port_of x)) at)
    ∙ ap (λ (f : List ℕ → ℕ → ℕ → BackpressureAction). option_map_or (λ words. fails_by (f words w.sender w.receiver) p.strategy) (x.handler p.number) (fails_by_strategy p.strategy)) acts
