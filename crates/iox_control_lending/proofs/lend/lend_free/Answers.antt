use Rattle.std.proofs.Common.{◌≡◌, Some, sym, subst}
use Rattle.iox_hub_ports.specs.Ports.{place_in}
use Rattle.iox_control.specs.Controls.{ControlState}
use Rattle.iox_control_lending.proofs.SlotLemmas.{all_have_holders}
use Rattle.iox_control_lending.proofs.lend.lend_free.Goals as goal

pub returns-in_default-clause-full : goal.returns-in_default-clause-full
returns-in_default-clause-full c =
    λ _. all_have_holders c.args.control.now.tables.pools c.args.lender.now.port.pool (c.take.ensures.full c.in_default.is)

pub hand_taken-requires-clause-taken : goal.hand_taken-requires-clause-taken
hand_taken-requires-clause-taken c = (
  c.args.control.now,
  record {
    order = c.requires.order;
    port = c.requires.port;
    taken = c.in-Some.ensures.taken c.requires.port.port c.requires.port.info;
    left = c.take.ensures.left;
  },
)

pub hand_taken-requires-clause-there : goal.hand_taken-requires-clause-there
hand_taken-requires-clause-there c =
    subst (λ (d : ControlState). place_in d.tables.ports c.args.lender.now.port.number ≡ Some c.args.at) (sym c.take.ensures.left) c.requires.there

pub returns-clause-made : goal.returns-clause-made
returns-clause-made c =
    c.hand_taken.ensures c.args.control.now (record {
      order = c.requires.order;
      port = c.requires.port;
      taken = c.in-Some.ensures.taken c.requires.port.port c.requires.port.info;
      left = c.take.ensures.left;
    })
