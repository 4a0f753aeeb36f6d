use Rattle.std.proofs.Common.{◌<◌, ap, refl, subst, sym, ◌∙◌}
use Rattle.iox_tables.specs.HubStates.Tables.{slot_at}
use Rattle.iox_hub_ports.specs.InPlace.{AllApart}
use Rattle.iox_hub_ports.specs.Ports.{info_of, lane_to_get_at}
use Rattle.iox_slots.specs.Pools.{with_slot}
use Rattle.iox_slots.specs.Slots.{let_go}
use Rattle.iox_control.specs.Controls.{ControlState, with_pools}
use Rattle.iox_control.proofs.InPlaceLemmas.{all_apart}
use Rattle.iox_control_retrieving.specs.Retrieving.{GetsBack, ways_to}
use Rattle.iox_control_retrieving.proofs.FromPort.{done, fewer_left, goes_on, is_held, is_within, none_more}
use Rattle.iox_control_retrieving.proofs.OneByOne.{starts}
use Rattle.iox_control_lending.proofs.retaking.retrieve_but_last_from.Goals as goal

pub loop-next-init : goal.loop-next-init
loop-next-init c = record {
  goes = λ p here. starts c.args.control.now (ways_to c.args.sender.now.role c.args.control.now.tables c.args.sender.now.number (info_of p));
  apart = all_apart c.args.control.now c.requires.order;
}

pub get_next_in-requires-clause-there : goal.get_next_in-requires-clause-there
get_next_in-requires-clause-there c =
    is_within c.args.control.now c.args.sender.now c.args.at c.requires.order c.requires.from c.requires.to c.requires.to.0 c.requires.to.1
    c.loop-next.control (c.loop-next.invariant.goes c.requires.to.0 c.requires.to.1)

pub may_be_retaken-requires : goal.may_be_retaken-requires
may_be_retaken-requires c =
    subst (λ (d : ControlState). 0 < (slot_at d.tables.pools c.args.sender.now.pool c.in-Some.next.place).holders) (sym c.in-Some.ensures.got_back)
    (is_held c.args.control.now c.args.sender.now c.args.at c.requires.order c.requires.from c.requires.to c.requires.to.0 c.requires.to.1
    c.loop-next.control (c.loop-next.invariant.goes c.requires.to.0 c.requires.to.1)
    c.get_next_in.new.self (with_pools c.get_next_in.new.self (with_slot let_go c.get_next_in.new.self.tables.pools c.args.sender.now.pool c.in-Some.next.place))
    c.in-Some.next.lane c.in-Some.next.place c.in-Some.ensures.lowest c.in-Some.ensures.oldest c.in-Some.ensures.got_back refl)

pub returns-then-may_be_retaken-clause-back : goal.returns-then-may_be_retaken-clause-back
returns-then-may_be_retaken-clause-back c p here =
    done c.args.control.now c.args.sender.now c.args.at c.requires.order c.requires.from c.requires.to p here
    (with_pools c.get_next_in.new.self (with_slot let_go c.get_next_in.new.self.tables.pools c.args.sender.now.pool c.in-Some.next.place))
    (goes_on c.args.control.now c.args.sender.now c.args.at c.requires.order c.requires.from c.requires.to p here
    c.loop-next.control (c.loop-next.invariant.goes p here)
    c.get_next_in.new.self (with_pools c.get_next_in.new.self (with_slot let_go c.get_next_in.new.self.tables.pools c.args.sender.now.pool c.in-Some.next.place))
    c.in-Some.next.lane c.in-Some.next.place c.in-Some.ensures.lowest c.in-Some.ensures.oldest c.in-Some.ensures.got_back refl)
    (none_more (lane_to_get_at c.get_next_in.new.self.tables.ports c.args.at c.args.sender.now.number) c.in-Some.next.more c.in-Some.ensures.more c.if-not-next.true)

pub let_go_of-requires : goal.let_go_of-requires
let_go_of-requires c =
    subst (λ (d : ControlState). 0 < (slot_at d.tables.pools c.args.sender.now.pool c.in-Some.next.place).holders) (sym c.in-Some.ensures.got_back)
    (is_held c.args.control.now c.args.sender.now c.args.at c.requires.order c.requires.from c.requires.to c.requires.to.0 c.requires.to.1
    c.loop-next.control (c.loop-next.invariant.goes c.requires.to.0 c.requires.to.1)
    c.get_next_in.new.self (with_pools c.get_next_in.new.self (with_slot let_go c.get_next_in.new.self.tables.pools c.args.sender.now.pool c.in-Some.next.place))
    c.in-Some.next.lane c.in-Some.next.place c.in-Some.ensures.lowest c.in-Some.ensures.oldest c.in-Some.ensures.got_back refl)

pub returns-then-not-next-2-clause-back : goal.returns-then-not-next-2-clause-back
returns-then-not-next-2-clause-back c p here =
    done c.args.control.now c.args.sender.now c.args.at c.requires.order c.requires.from c.requires.to p here
    c.let_go_of.new.self
    (goes_on c.args.control.now c.args.sender.now c.args.at c.requires.order c.requires.from c.requires.to p here
    c.loop-next.control (c.loop-next.invariant.goes p here)
    c.get_next_in.new.self c.let_go_of.new.self c.in-Some.next.lane c.in-Some.next.place c.in-Some.ensures.lowest c.in-Some.ensures.oldest c.in-Some.ensures.got_back c.let_go_of.ensures.left)
    (ap (λ (d : ControlState). lane_to_get_at d.tables.ports c.args.at c.args.sender.now.number) c.let_go_of.ensures.left
    ∙ none_more (lane_to_get_at c.get_next_in.new.self.tables.ports c.args.at c.args.sender.now.number) c.in-Some.next.more c.in-Some.ensures.more c.if-not-next-2.true)

pub loop-next-smaller : goal.loop-next-smaller
loop-next-smaller c =
    fewer_left c.args.control.now c.args.sender.now c.args.at c.requires.order c.requires.from c.requires.to c.requires.to.0 c.requires.to.1
    c.loop-next.control (c.loop-next.invariant.goes c.requires.to.0 c.requires.to.1)
    c.get_next_in.new.self c.let_go_of.new.self c.in-Some.next.lane c.in-Some.next.place c.in-Some.ensures.lowest c.in-Some.ensures.oldest c.in-Some.ensures.got_back c.let_go_of.ensures.left

pub loop-next-preserved : goal.loop-next-preserved
loop-next-preserved c = record {
  goes = λ p here.
      goes_on c.args.control.now c.args.sender.now c.args.at c.requires.order c.requires.from c.requires.to p here
      c.loop-next.control (c.loop-next.invariant.goes p here)
      c.get_next_in.new.self c.let_go_of.new.self c.in-Some.next.lane c.in-Some.next.place c.in-Some.ensures.lowest c.in-Some.ensures.oldest c.in-Some.ensures.got_back c.let_go_of.ensures.left;
  apart = subst (λ (d : ControlState). AllApart d.tables.ports) (sym c.let_go_of.ensures.left) c.get_next_in.ensures.apart;
}

pub returns-clause-back : goal.returns-clause-back
returns-clause-back c p here =
    subst (λ (d : ControlState). GetsBack c.args.control.now (ways_to c.args.sender.now.role c.args.control.now.tables c.args.sender.now.number (info_of p)) d)
    (sym (c.in_default.ensures.unchanged refl))
    (done c.args.control.now c.args.sender.now c.args.at c.requires.order c.requires.from c.requires.to p here
    c.loop-next.control (c.loop-next.invariant.goes p here) (sym c.in_default.ensures.lowest))
