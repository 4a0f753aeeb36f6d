-- The walk over the ports of the other role goes on from a rank, whatever was got back before.
use Rattle.std.specs.Prelude.{◌≡◌, ℕ, ◌+◌, ◌<◌, ◌≤◌, List, length, Some, slice_get, refl}
use Rattle.std.proofs.Common.{sym, ap, subst, ◌∙◌}
use Rattle.std.proofs.lemmas.Option.{same_Some, slice_get_within}
use Rattle.iox_model.specs.declared.kind.Role.{Role}
use Rattle.iox_model.specs.Settings.{other_role}
use Rattle.iox_tables.specs.HubStates.Tables.{PortState, port_in}
use Rattle.iox_tables.specs.HubLoans.Lenders.{ways_by}
use Rattle.iox_tables.proofs.HubBooks.Frames.{some_map}
use Rattle.iox_tables.proofs.HubStates.Placing.{places_are_of_numbers}
use Rattle.iox_hub_ports.specs.declared.info.PortInfo.{PortInfo}
use Rattle.iox_hub_ports.specs.InPlace.{places_of}
use Rattle.iox_hub_ports.specs.Ports.{info_at, info_in, info_of, place_in}
use Rattle.iox_hub_ports.proofs.Listing.{port_of_rank}
use Rattle.iox_control.specs.Controls.{ControlState, IsControl}
use Rattle.iox_control_retrieving.specs.Retrieving.{GetsBack, IsOther, ways_before, ways_to}
use Rattle.iox_control_retrieving.proofs.Infos.{infos_of, infos_stay, port_of_info, same_info, same_places}
use Rattle.iox_control_retrieving.proofs.Places.{at_within, differs, finishes, said_at, turns}

-- ---- what is said of a port in its place

-- a port is in a place of which something is said
pub within_said : (ports : List PortState) (at : ℕ) (info : PortInfo) → Some info ≡ info_at ports at → at < length ports
within_said ports at info said =
    let f = some_map info_of (slice_get ports at) info (sym said) in slice_get_within ports at f.0 f.1

-- to say the role again that it has says nothing else
pub role_said : (ports : List PortState) (at : ℕ) (role : Role) (known : PortInfo)
    → (p : PortState) × (slice_get ports at ≡ Some p) × (p.role ≡ role)
    → Some known ≡ info_at ports at → Some (record known { role = role }) ≡ info_at ports at
role_said ports at role known there said =
    let f = some_map info_of (slice_get ports at) known (sym said) in
    let same : there.0 ≡ f.0 = same_Some there.0 f.0 (sym there.1 ∙ f.1) in
    let is : role ≡ known.role
    = sym there.2 ∙ ap (λ (p : PortState). p.role) same ∙ ap (λ (i : PortInfo). i.role) f.2 in
    ap (λ r. Some (record known { role = r })) is ∙ said

-- a port is in its place in its role
pub role_there : (ports : List PortState) (n at : ℕ) (info : PortInfo) (role : Role)
    → info_in ports n ≡ Some info → place_in ports n ≡ Some at → info.role ≡ role
    → (p : PortState) × (slice_get ports at ≡ Some p) × (p.role ≡ role)
role_there ports n at info role said place is =
    let f = port_of_info ports n info said in
    (f.0, (places_are_of_numbers ports n at place).port ∙ f.1, ap (λ (i : PortInfo). i.role) f.2 ∙ is)

-- ---- the walk from a rank

-- What was got back by then of any start: the ports before that rank, where those before the
-- first were. What is said of ports stays.
pub record IsLater (old : ControlState) (sender : PortInfo) (from : ℕ) (now : ControlState) (rank : ℕ) : Type 0 where
  pub order : IsControl now
  pub infos : infos_of now.tables.ports ≡ infos_of old.tables.ports
  pub gets :
      (c : ControlState) → IsControl c → info_in c.tables.ports sender.number ≡ Some sender
      → GetsBack c (ways_before c sender from) old → GetsBack c (ways_before c sender rank) now

module _ (old : ControlState) (at : ℕ) (sender : PortInfo) (from : ℕ) (order : IsControl old) (said : Some sender ≡ info_at old.tables.ports at) where
  pub later_begins : IsLater old sender from old from
  later_begins = record { order = order; infos = refl; gets = λ c control info got. got }

  module _ (now : ControlState) (rank : ℕ) (later : IsLater old sender from now rank) where
    pub said_later : info_in now.tables.ports sender.number ≡ Some sender
    said_later =
        let p = at_within old.tables.ports at (within_said old.tables.ports at sender said) in
        same_info now.tables.ports old.tables.ports sender.number later.infos ∙ (said_at old at sender p.0 order said p.1).0

    pub places_later : places_of (other_role sender.role) now.tables.ports ≡ places_of (other_role sender.role) old.tables.ports
    places_later = same_places (other_role sender.role) now.tables.ports old.tables.ports later.infos

    module _ (other : ℕ) (is : slice_get (places_of (other_role sender.role) now.tables.ports) rank ≡ Some other) where
      pub other_later : IsOther sender.role now.tables.ports other
      other_later =
          let f = port_of_rank (other_role sender.role) now.tables.ports rank other is in
          (f.0, f.1, differs sender.role f.0.role f.3)

      pub later_turns : (new : ControlState)
          → ((p : PortState) → slice_get now.tables.ports other ≡ Some p → GetsBack now (ways_to sender.role now.tables sender.number (info_of p)) new)
          → IsLater old sender from new (rank + 1)
      later_turns new more =
          let f = port_of_rank (other_role sender.role) now.tables.ports rank other is in
          let got = more f.0 f.1 in record {
            order = got.order;
            infos = infos_stay now new (ways_to sender.role now.tables sender.number (info_of f.0)) got ∙ later.infos;
            gets = λ c control info before. turns c sender.number sender control info now rank (later.gets c control info before) other is new more;
          }

    -- all is got back where those before the first rank were
    pub later_finishes : length (places_of (other_role sender.role) old.tables.ports) ≤ rank
        → (c : ControlState) (who : PortInfo) → IsControl c → Some who ≡ info_at old.tables.ports at
        → info_in c.tables.ports who.number ≡ Some who → GetsBack c (ways_before c who from) old
        → (p : PortState) → port_in c.tables.ports who.number ≡ Some p → GetsBack c (ways_by p.role c.tables p.number) now
    later_finishes last c who control is =
        subst (λ (i : PortInfo).
        info_in c.tables.ports i.number ≡ Some i → GetsBack c (ways_before c i from) old
        → (p : PortState) → port_in c.tables.ports i.number ≡ Some p → GetsBack c (ways_by p.role c.tables p.number) now)
        (same_Some sender who (said ∙ sym is))
        (λ info before.
        finishes c sender.number sender control info now rank (later.gets c control info before)
        (subst (λ ns. length ns ≤ rank)
        (same_places (other_role sender.role) old.tables.ports c.tables.ports (infos_stay c old (ways_before c sender from) before)) last))
