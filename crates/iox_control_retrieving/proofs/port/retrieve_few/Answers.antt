use Rattle.std.proofs.Common.{◌<◌, ap, refl, subst, sym, ◌∙◌}
use Rattle.iox_tables.specs.HubStates.Tables.{slot_at}
use Rattle.iox_hub_ports.specs.InPlace.{AllApart}
use Rattle.iox_hub_ports.specs.Ports.{info_of, lane_to_get_at}
use Rattle.iox_slots.specs.Pools.{with_slot}
use Rattle.iox_slots.specs.Slots.{let_go}
use Rattle.iox_control.specs.Controls.{ControlState, with_pools}
use Rattle.iox_control.proofs.InPlaceLemmas.{all_apart}
use Rattle.iox_control_retrieving.specs.Retrieving.{GetsBack, ways_to}
use Rattle.iox_control_retrieving.proofs.FromPort.{done, fewer_left, goes_on, is_held, is_within, none_more}
use Rattle.iox_control_retrieving.proofs.OneByOne.{starts}
use Rattle.iox_control_retrieving.proofs.port.retrieve_few.Goals as goal

-- ---- the first message

pub get_next_in-requires-clause-apart : goal.get_next_in-requires-clause-apart
get_next_in-requires-clause-apart c = all_apart c.args.control.now c.requires.order

pub let_go_of-requires : goal.let_go_of-requires
let_go_of-requires c =
    subst (λ (d : ControlState). 0 < (slot_at d.tables.pools c.args.sender.now.pool c.in-Some.first.place).holders) (sym c.in-Some.ensures.got_back)
    (is_held c.args.control.now c.args.sender.now c.args.at c.requires.order c.requires.from c.requires.to c.requires.to.0 c.requires.to.1
    c.args.control.now (starts c.args.control.now (ways_to c.args.sender.now.role c.args.control.now.tables c.args.sender.now.number (info_of c.requires.to.0)))
    c.get_next_in.new.self (with_pools c.get_next_in.new.self (with_slot let_go c.get_next_in.new.self.tables.pools c.args.sender.now.pool c.in-Some.first.place))
    c.in-Some.first.lane c.in-Some.first.place c.in-Some.ensures.lowest c.in-Some.ensures.oldest c.in-Some.ensures.got_back refl)

pub returns-in_default : goal.returns-in_default
returns-in_default c p here =
    subst (λ (d : ControlState). GetsBack c.args.control.now (ways_to c.args.sender.now.role c.args.control.now.tables c.args.sender.now.number (info_of p)) d)
    (sym (c.in_default.ensures.unchanged refl))
    (done c.args.control.now c.args.sender.now c.args.at c.requires.order c.requires.from c.requires.to p here
    c.args.control.now (starts c.args.control.now (ways_to c.args.sender.now.role c.args.control.now.tables c.args.sender.now.number (info_of p))) (sym c.in_default.ensures.lowest))

pub returns-then-not-first : goal.returns-then-not-first
returns-then-not-first c p here =
    done c.args.control.now c.args.sender.now c.args.at c.requires.order c.requires.from c.requires.to p here
    c.let_go_of.new.self
    (goes_on c.args.control.now c.args.sender.now c.args.at c.requires.order c.requires.from c.requires.to p here
    c.args.control.now (starts c.args.control.now (ways_to c.args.sender.now.role c.args.control.now.tables c.args.sender.now.number (info_of p)))
    c.get_next_in.new.self c.let_go_of.new.self c.in-Some.first.lane c.in-Some.first.place c.in-Some.ensures.lowest c.in-Some.ensures.oldest c.in-Some.ensures.got_back c.let_go_of.ensures.left)
    (ap (λ (d : ControlState). lane_to_get_at d.tables.ports c.args.at c.args.sender.now.number) c.let_go_of.ensures.left
    ∙ none_more (lane_to_get_at c.get_next_in.new.self.tables.ports c.args.at c.args.sender.now.number) c.in-Some.first.more c.in-Some.ensures.more c.if-not-first.true)

-- ---- the others

pub loop-later-init : goal.loop-later-init
loop-later-init c = record {
  goes = λ p here.
      goes_on c.args.control.now c.args.sender.now c.args.at c.requires.order c.requires.from c.requires.to p here
      c.args.control.now (starts c.args.control.now (ways_to c.args.sender.now.role c.args.control.now.tables c.args.sender.now.number (info_of p)))
      c.get_next_in.new.self c.let_go_of.new.self c.in-Some.first.lane c.in-Some.first.place c.in-Some.ensures.lowest c.in-Some.ensures.oldest c.in-Some.ensures.got_back c.let_go_of.ensures.left;
  apart = subst (λ (d : ControlState). AllApart d.tables.ports) (sym c.let_go_of.ensures.left) c.get_next_in.ensures.apart;
}

pub get_next_in-requires-in-loop-later-clause-there : goal.get_next_in-requires-in-loop-later-clause-there
get_next_in-requires-in-loop-later-clause-there c =
    is_within c.args.control.now c.args.sender.now c.args.at c.requires.order c.requires.from c.requires.to c.requires.to.0 c.requires.to.1
    c.loop-later.control (c.loop-later.invariant.goes c.requires.to.0 c.requires.to.1)

pub let_go_of-requires-in-Some-get_next_in : goal.let_go_of-requires-in-Some-get_next_in
let_go_of-requires-in-Some-get_next_in c =
    subst (λ (d : ControlState). 0 < (slot_at d.tables.pools c.args.sender.now.pool c.in-Some-get_next_in.later.place).holders) (sym c.in-Some-get_next_in.ensures.got_back)
    (is_held c.args.control.now c.args.sender.now c.args.at c.requires.order c.requires.from c.requires.to c.requires.to.0 c.requires.to.1
    c.loop-later.control (c.loop-later.invariant.goes c.requires.to.0 c.requires.to.1)
    c.get_next_in-in-loop-later.new.self (with_pools c.get_next_in-in-loop-later.new.self (with_slot let_go c.get_next_in-in-loop-later.new.self.tables.pools c.args.sender.now.pool c.in-Some-get_next_in.later.place))
    c.in-Some-get_next_in.later.lane c.in-Some-get_next_in.later.place c.in-Some-get_next_in.ensures.lowest c.in-Some-get_next_in.ensures.oldest c.in-Some-get_next_in.ensures.got_back refl)

pub loop-later-smaller : goal.loop-later-smaller
loop-later-smaller c =
    fewer_left c.args.control.now c.args.sender.now c.args.at c.requires.order c.requires.from c.requires.to c.requires.to.0 c.requires.to.1
    c.loop-later.control (c.loop-later.invariant.goes c.requires.to.0 c.requires.to.1)
    c.get_next_in-in-loop-later.new.self c.let_go_of-in-Some-get_next_in.new.self c.in-Some-get_next_in.later.lane c.in-Some-get_next_in.later.place c.in-Some-get_next_in.ensures.lowest c.in-Some-get_next_in.ensures.oldest c.in-Some-get_next_in.ensures.got_back c.let_go_of-in-Some-get_next_in.ensures.left

pub loop-later-preserved : goal.loop-later-preserved
loop-later-preserved c = record {
  goes = λ p here.
      goes_on c.args.control.now c.args.sender.now c.args.at c.requires.order c.requires.from c.requires.to p here
      c.loop-later.control (c.loop-later.invariant.goes p here)
      c.get_next_in-in-loop-later.new.self c.let_go_of-in-Some-get_next_in.new.self c.in-Some-get_next_in.later.lane c.in-Some-get_next_in.later.place c.in-Some-get_next_in.ensures.lowest c.in-Some-get_next_in.ensures.oldest c.in-Some-get_next_in.ensures.got_back c.let_go_of-in-Some-get_next_in.ensures.left;
  apart = subst (λ (d : ControlState). AllApart d.tables.ports) (sym c.let_go_of-in-Some-get_next_in.ensures.left) c.get_next_in-in-loop-later.ensures.apart;
}

pub returns-then-not-later : goal.returns-then-not-later
returns-then-not-later c p here =
    done c.args.control.now c.args.sender.now c.args.at c.requires.order c.requires.from c.requires.to p here
    c.let_go_of-in-Some-get_next_in.new.self
    (goes_on c.args.control.now c.args.sender.now c.args.at c.requires.order c.requires.from c.requires.to p here
    c.loop-later.control (c.loop-later.invariant.goes p here)
    c.get_next_in-in-loop-later.new.self c.let_go_of-in-Some-get_next_in.new.self c.in-Some-get_next_in.later.lane c.in-Some-get_next_in.later.place c.in-Some-get_next_in.ensures.lowest c.in-Some-get_next_in.ensures.oldest c.in-Some-get_next_in.ensures.got_back c.let_go_of-in-Some-get_next_in.ensures.left)
    (ap (λ (d : ControlState). lane_to_get_at d.tables.ports c.args.at c.args.sender.now.number) c.let_go_of-in-Some-get_next_in.ensures.left
    ∙ none_more (lane_to_get_at c.get_next_in-in-loop-later.new.self.tables.ports c.args.at c.args.sender.now.number) c.in-Some-get_next_in.later.more c.in-Some-get_next_in.ensures.more c.if-not-later.true)

pub returns : goal.returns
returns c p here =
    subst (λ (d : ControlState). GetsBack c.args.control.now (ways_to c.args.sender.now.role c.args.control.now.tables c.args.sender.now.number (info_of p)) d)
    (sym (c.in_default-get_next_in.ensures.unchanged refl))
    (done c.args.control.now c.args.sender.now c.args.at c.requires.order c.requires.from c.requires.to p here
    c.loop-later.control (c.loop-later.invariant.goes p here) (sym c.in_default-get_next_in.ensures.lowest))
