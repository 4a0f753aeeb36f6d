-- Which place of a call a receive is at.
use Rattle.std.proofs.Common.{◌≡◌, refl}
use Rattle.iox_wire_locals.specs.declared.local.Local.TheVariants.{ReceiveLooks, ReceivePops, ReceiveLoads, ReceiveAsks, ReceiveReturns}
use Rattle.iox_wire_receives.specs.declared.at.ReceiveAt.{ReceiveAt}
use Rattle.iox_wire_receives.specs.declared.at.ReceiveAt.TheVariants as at
use Rattle.iox_wire_receives.specs.Sources.{ways_of}
use Rattle.iox_wire_receives.specs.Receipts.{Beside, local_of}
use Rattle.iox_wire_receives.specs.Aims.{IsLooking, IsPopping, IsLoading, IsAsking, IsReturning}

pub it_looks : (name : ReceiveAt) (b : Beside) → IsLooking (local_of name b)
    → local_of name b ≡ ReceiveLooks b.visit b.source.way b.popping (ways_of b.left) b.waiting
it_looks at.Rest b there = absurd there
it_looks at.TellsNothing b there = absurd there
it_looks at.Looks b there = refl
it_looks at.Pops b there = absurd there
it_looks at.Loads b there = absurd there
it_looks at.Asks b there = absurd there
it_looks at.Returns b there = absurd there

pub it_pops : (name : ReceiveAt) (b : Beside) → IsPopping (local_of name b)
    → local_of name b ≡ ReceivePops b.visit b.source.way b.again b.popping (ways_of b.left) b.waiting
it_pops at.Rest b there = absurd there
it_pops at.TellsNothing b there = absurd there
it_pops at.Looks b there = absurd there
it_pops at.Pops b there = refl
it_pops at.Loads b there = absurd there
it_pops at.Asks b there = absurd there
it_pops at.Returns b there = absurd there

pub it_loads : (name : ReceiveAt) (b : Beside) → IsLoading (local_of name b)
    → local_of name b ≡ ReceiveLoads b.visit b.source.way b.slot b.header (ways_of b.left) b.waiting
it_loads at.Rest b there = absurd there
it_loads at.TellsNothing b there = absurd there
it_loads at.Looks b there = absurd there
it_loads at.Pops b there = absurd there
it_loads at.Loads b there = refl
it_loads at.Asks b there = absurd there
it_loads at.Returns b there = absurd there

pub it_asks : (name : ReceiveAt) (b : Beside) → IsAsking (local_of name b)
    → local_of name b ≡ ReceiveAsks b.visit b.source.way b.slot b.header (ways_of b.left) b.waiting
it_asks at.Rest b there = absurd there
it_asks at.TellsNothing b there = absurd there
it_asks at.Looks b there = absurd there
it_asks at.Pops b there = absurd there
it_asks at.Loads b there = absurd there
it_asks at.Asks b there = refl
it_asks at.Returns b there = absurd there

pub it_returns : (name : ReceiveAt) (b : Beside) → IsReturning (local_of name b)
    → local_of name b ≡ ReceiveReturns b.visit b.source.way b.slot b.pushing (ways_of b.left) b.waiting
it_returns at.Rest b there = absurd there
it_returns at.TellsNothing b there = absurd there
it_returns at.Looks b there = absurd there
it_returns at.Pops b there = absurd there
it_returns at.Loads b there = absurd there
it_returns at.Asks b there = absurd there
it_returns at.Returns b there = refl

pub at_loads : (name : ReceiveAt) (b : Beside) → IsLoading (local_of name b) → name ≡ at.Loads
at_loads at.Rest b there = absurd there
at_loads at.TellsNothing b there = absurd there
at_loads at.Looks b there = absurd there
at_loads at.Pops b there = absurd there
at_loads at.Loads b there = refl
at_loads at.Asks b there = absurd there
at_loads at.Returns b there = absurd there
