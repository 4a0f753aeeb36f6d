-- Whether a loan would be made, by what is told.
use Rattle.std.specs.Prelude.{◌≡◌, ℕ, Bool, true, false, Option, Some, None}
use Rattle.std.specs.Option.{option_map}
use Rattle.std.proofs.Common.{ap, is_some, subst, sym, true≢false, ◌∙◌}
use Rattle.std.proofs.lemmas.Option.{none-some, same_Some}
use Rattle.iox_tables.specs.HubStates.States.{Given}
use Rattle.iox_tables.specs.HubBooks.Hubs.{AreInOrder}
use Rattle.iox_tables.specs.HubStates.Tables.{HubTables, PortState, port_in}
use Rattle.iox_hub_ports.specs.declared.info.PortInfo.{PortInfo}
use Rattle.iox_hub_ports.specs.Ports.{info_in, info_of}
use Rattle.iox_tables.specs.HubLoans.Lenders.{Lender, shape_in}
use Rattle.iox_control_lending.specs.declared.asked.Asked.{Asked}
use Rattle.iox_control_lending.specs.declared.asked.LoanRefusal.{LoanRefusal}
use Rattle.iox_control_lending.specs.declared.asked.Lending.{Lending}
use Rattle.iox_control_lending.specs.Lends.{IsAskedOf, IsPortOf, IsLoanRefusal, refusal_of}
use Rattle.iox_control_lending.proofs.PortLemmas.{there_by}

-- no test refuses
pub told_none : (t : HubTables) (y : Lender) (a : Asked) (r : Option LoanRefusal) (some : Bool) → some ≡ is_some r → some ≡ false → IsLoanRefusal t y a (option_map refusal_of r) → IsLoanRefusal t y a None
told_none t y a None some is not_some told = told
told_none t y a (Some r) some is not_some told = absurd (true≢false (sym is ∙ not_some))

-- a test refuses, where messages are those of the shape
pub told_some : (t : HubTables) (y : Lender) (a : Asked) (r : Option LoanRefusal) (some : Bool) → some ≡ is_some r → some ≡ true
    → IsLoanRefusal t y a (option_map refusal_of r) → ((x : Given) × IsAskedOf (shape_in x t y.port) a) → IsLoanRefusal t y a None → ⊥
told_some t y a None some is has told x none = true≢false (sym has ∙ is)
told_some t y a (Some r) some is has told x none = none-some (refusal_of r) (sym (none x.0 x.1) ∙ told x.0 x.1)

-- what is known about a lender's port is what it is
pub port_told : (t : HubTables) (l : Lending) → IsPortOf t l → (p : PortState) → port_in t.ports l.port.number ≡ Some p → l.port ≡ info_of p
port_told t l of p there = of.info ∙ ap info_of (same_Some of.port p (sym of.there ∙ there))

-- what is so of the port that was looked for is so of the one that was found
pub so_found : (P : PortState → Type 0) (t : HubTables) (n : ℕ) (info : PortInfo) (q : PortState) → AreInOrder t → port_in t.ports n ≡ Some q → Some info ≡ info_in t.ports n
    → ((p : PortState) → port_in t.ports n ≡ Some p → P p) → (p : PortState) → port_in t.ports info.number ≡ Some p → P p
so_found P t n info q order at found all p there = subst P (same_Some q p (sym (there_by t n info q order at found) ∙ there)) (all q at)
