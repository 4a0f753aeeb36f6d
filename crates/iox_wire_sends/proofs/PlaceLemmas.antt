-- Which place of a call a send is at.
use Rattle.std.proofs.Common.{◌≡◌, [], None, refl}
use Rattle.iox_wire_locals.specs.declared.local.Local.TheVariants.{SendEmpties, SendEvicts, SendPushes, SendGetsBack}
use Rattle.iox_wire_locals.specs.Tables.{state_in}
use Rattle.iox_wire_sends.specs.declared.at.RespondAt.{RespondAt}
use Rattle.iox_wire_sends.specs.declared.at.RespondAt.TheVariants as at
use Rattle.iox_wire_sends.specs.Dispatches.{Beside, delivery_of, local_of}
use Rattle.iox_wire_sends.specs.Aims.{IsEmptying, IsEvicting, IsPushing, IsGettingBack}

pub it_empties : (name : RespondAt) (b : Beside) → IsEmptying (local_of name b)
    → local_of name b ≡ SendEmpties (delivery_of b) (state_in b.loan) b.popping []
it_empties at.Rest b there = absurd there
it_empties at.Tells b there = absurd there
it_empties at.Asks b there = absurd there
it_empties at.Empties b there = refl
it_empties at.Looks b there = absurd there
it_empties at.Pushes b there = absurd there
it_empties at.Evicts b there = absurd there
it_empties at.GetsBack b there = absurd there

pub it_pushes : (name : RespondAt) (b : Beside) → IsPushing (local_of name b)
    → local_of name b ≡ SendPushes (delivery_of b) None (state_in b.loan) b.pushing [] 0
it_pushes at.Rest b there = absurd there
it_pushes at.Tells b there = absurd there
it_pushes at.Asks b there = absurd there
it_pushes at.Empties b there = absurd there
it_pushes at.Looks b there = absurd there
it_pushes at.Pushes b there = refl
it_pushes at.Evicts b there = absurd there
it_pushes at.GetsBack b there = absurd there

pub it_gets_back : (name : RespondAt) (b : Beside) → IsGettingBack (local_of name b)
    → local_of name b ≡ SendGetsBack (delivery_of b) (state_in b.loan) b.pushing [] 1
it_gets_back at.Rest b there = absurd there
it_gets_back at.Tells b there = absurd there
it_gets_back at.Asks b there = absurd there
it_gets_back at.Empties b there = absurd there
it_gets_back at.Looks b there = absurd there
it_gets_back at.Pushes b there = absurd there
it_gets_back at.Evicts b there = absurd there
it_gets_back at.GetsBack b there = refl

pub it_evicts : (name : RespondAt) (b : Beside) → IsEvicting (local_of name b)
    → local_of name b ≡ SendEvicts (delivery_of b) (state_in b.loan) b.pushing [] 1
it_evicts at.Rest b there = absurd there
it_evicts at.Tells b there = absurd there
it_evicts at.Asks b there = absurd there
it_evicts at.Empties b there = absurd there
it_evicts at.Looks b there = absurd there
it_evicts at.Pushes b there = absurd there
it_evicts at.Evicts b there = refl
it_evicts at.GetsBack b there = absurd there
