-- Which place of a call the send of a request is at.
use Rattle.std.proofs.Common.{◌≡◌, ◌≤◌, ℕ, true, ◌⊎◌, inl, inr, refl, ap, sym, subst, true≢false, arith}
use Rattle.iox_model.specs.Messages.{response_way}
use Rattle.iox_wire_locals.specs.declared.local.Local.TheVariants.{SendEmpties, SendLooks, SendOpens, SendPushes, SendEvicts, SendGetsBack}
use Rattle.iox_wire_request_sends.specs.declared.at.RequestAt.{RequestAt}
use Rattle.iox_wire_request_sends.specs.declared.at.RequestAt.TheVariants as at
use Rattle.iox_wire_locals.specs.declared.seat.Seat.{Seat}
use Rattle.iox_wire_locals.specs.Courses.{placed}
use Rattle.iox_wire_locals.specs.Steps.{accessed, advance}
use Rattle.iox_wire_locals.specs.Tables.{Setting}
use Rattle.iox_wire_request_sends.specs.Aims.{AreAimed, HasCount, HasSeen, Knows, is_ending, IsEmptying, IsLooking, IsOpening, IsPushing, IsEvicting, IsGettingBack}
use Rattle.iox_wire_request_sends.specs.RequestDispatches.{Beside, RequestDispatch, delivery_of, local_of, way_of, ways_left}
use Rattle.iox_wire_request_sends.specs.Targets.{full_ways, states_to, ways_to}

pub it_empties : (name : RequestAt) (b : Beside) → IsEmptying (local_of name b)
    → local_of name b ≡ SendEmpties (delivery_of b) (way_of b) b.popping (ways_to b.loan.port b.left)
it_empties at.Rest b there = absurd there
it_empties at.Refuses b there = absurd there
it_empties at.TellsNobody b there = absurd there
it_empties at.Empties b there = refl
it_empties at.Looks b there = absurd there
it_empties at.Opens b there = absurd there
it_empties at.Pushes b there = absurd there
it_empties at.Evicts b there = absurd there
it_empties at.GetsBack b there = absurd there

pub at_empties : (name : RequestAt) (b : Beside) → IsEmptying (local_of name b) → name ≡ at.Empties
at_empties at.Rest b there = absurd there
at_empties at.Refuses b there = absurd there
at_empties at.TellsNobody b there = absurd there
at_empties at.Empties b there = refl
at_empties at.Looks b there = absurd there
at_empties at.Opens b there = absurd there
at_empties at.Pushes b there = absurd there
at_empties at.Evicts b there = absurd there
at_empties at.GetsBack b there = absurd there

pub it_looks : (name : RequestAt) (b : Beside) → IsLooking (local_of name b)
    → local_of name b ≡ SendLooks (delivery_of b) (way_of b) b.pushing (ways_to b.loan.port b.left) (full_ways b.loan.port b.full)
it_looks at.Rest b there = absurd there
it_looks at.Refuses b there = absurd there
it_looks at.TellsNobody b there = absurd there
it_looks at.Empties b there = absurd there
it_looks at.Looks b there = refl
it_looks at.Opens b there = absurd there
it_looks at.Pushes b there = absurd there
it_looks at.Evicts b there = absurd there
it_looks at.GetsBack b there = absurd there

pub at_looks : (name : RequestAt) (b : Beside) → IsLooking (local_of name b) → name ≡ at.Looks
at_looks at.Rest b there = absurd there
at_looks at.Refuses b there = absurd there
at_looks at.TellsNobody b there = absurd there
at_looks at.Empties b there = absurd there
at_looks at.Looks b there = refl
at_looks at.Opens b there = absurd there
at_looks at.Pushes b there = absurd there
at_looks at.Evicts b there = absurd there
at_looks at.GetsBack b there = absurd there

pub it_opens : (name : RequestAt) (b : Beside) → IsOpening (local_of name b)
    → local_of name b ≡ SendOpens (delivery_of b) (response_way b.loan.port b.loan.lane b.target.server) (states_to b.loan.port b.loan.lane b.left) (full_ways b.loan.port b.full)
it_opens at.Rest b there = absurd there
it_opens at.Refuses b there = absurd there
it_opens at.TellsNobody b there = absurd there
it_opens at.Empties b there = absurd there
it_opens at.Looks b there = absurd there
it_opens at.Opens b there = refl
it_opens at.Pushes b there = absurd there
it_opens at.Evicts b there = absurd there
it_opens at.GetsBack b there = absurd there

pub at_opens : (name : RequestAt) (b : Beside) → IsOpening (local_of name b) → name ≡ at.Opens
at_opens at.Rest b there = absurd there
at_opens at.Refuses b there = absurd there
at_opens at.TellsNobody b there = absurd there
at_opens at.Empties b there = absurd there
at_opens at.Looks b there = absurd there
at_opens at.Opens b there = refl
at_opens at.Pushes b there = absurd there
at_opens at.Evicts b there = absurd there
at_opens at.GetsBack b there = absurd there

pub it_pushes : (name : RequestAt) (b : Beside) → IsPushing (local_of name b)
    → local_of name b ≡ SendPushes (delivery_of b) b.last (way_of b) b.pushing (ways_left b) b.count
it_pushes at.Rest b there = absurd there
it_pushes at.Refuses b there = absurd there
it_pushes at.TellsNobody b there = absurd there
it_pushes at.Empties b there = absurd there
it_pushes at.Looks b there = absurd there
it_pushes at.Opens b there = absurd there
it_pushes at.Pushes b there = refl
it_pushes at.Evicts b there = absurd there
it_pushes at.GetsBack b there = absurd there

pub at_pushes : (name : RequestAt) (b : Beside) → IsPushing (local_of name b) → name ≡ at.Pushes
at_pushes at.Rest b there = absurd there
at_pushes at.Refuses b there = absurd there
at_pushes at.TellsNobody b there = absurd there
at_pushes at.Empties b there = absurd there
at_pushes at.Looks b there = absurd there
at_pushes at.Opens b there = absurd there
at_pushes at.Pushes b there = refl
at_pushes at.Evicts b there = absurd there
at_pushes at.GetsBack b there = absurd there

pub it_evicts : (name : RequestAt) (b : Beside) → IsEvicting (local_of name b)
    → local_of name b ≡ SendEvicts (delivery_of b) (way_of b) b.pushing (ways_left b) b.count
it_evicts at.Rest b there = absurd there
it_evicts at.Refuses b there = absurd there
it_evicts at.TellsNobody b there = absurd there
it_evicts at.Empties b there = absurd there
it_evicts at.Looks b there = absurd there
it_evicts at.Opens b there = absurd there
it_evicts at.Pushes b there = absurd there
it_evicts at.Evicts b there = refl
it_evicts at.GetsBack b there = absurd there

pub at_evicts : (name : RequestAt) (b : Beside) → IsEvicting (local_of name b) → name ≡ at.Evicts
at_evicts at.Rest b there = absurd there
at_evicts at.Refuses b there = absurd there
at_evicts at.TellsNobody b there = absurd there
at_evicts at.Empties b there = absurd there
at_evicts at.Looks b there = absurd there
at_evicts at.Opens b there = absurd there
at_evicts at.Pushes b there = absurd there
at_evicts at.Evicts b there = refl
at_evicts at.GetsBack b there = absurd there

pub it_gets_back : (name : RequestAt) (b : Beside) → IsGettingBack (local_of name b)
    → local_of name b ≡ SendGetsBack (delivery_of b) (way_of b) b.pushing (ways_left b) b.count
it_gets_back at.Rest b there = absurd there
it_gets_back at.Refuses b there = absurd there
it_gets_back at.TellsNobody b there = absurd there
it_gets_back at.Empties b there = absurd there
it_gets_back at.Looks b there = absurd there
it_gets_back at.Opens b there = absurd there
it_gets_back at.Pushes b there = absurd there
it_gets_back at.Evicts b there = absurd there
it_gets_back at.GetsBack b there = refl

pub at_gets_back : (name : RequestAt) (b : Beside) → IsGettingBack (local_of name b) → name ≡ at.GetsBack
at_gets_back at.Rest b there = absurd there
at_gets_back at.Refuses b there = absurd there
at_gets_back at.TellsNobody b there = absurd there
at_gets_back at.Empties b there = absurd there
at_gets_back at.Looks b there = absurd there
at_gets_back at.Opens b there = absurd there
at_gets_back at.Pushes b there = absurd there
at_gets_back at.Evicts b there = absurd there
at_gets_back at.GetsBack b there = refl

-- ---- a place without an access

pub ending_known : (p : Setting) (x : Seat) (r : RequestDispatch) (name : RequestAt) (b : Beside) → is_ending (local_of name b) ≡ true
    → AreAimed p x (local_of name b) r → Knows p x r
ending_known p x r at.Rest b e aim = absurd (true≢false (sym e))
ending_known p x r at.Refuses b e aim = aim
ending_known p x r at.TellsNobody b e aim = aim
ending_known p x r at.Empties b e aim = absurd (true≢false (sym e))
ending_known p x r at.Looks b e aim = absurd (true≢false (sym e))
ending_known p x r at.Opens b e aim = absurd (true≢false (sym e))
ending_known p x r at.Pushes b e aim = absurd (true≢false (sym e))
ending_known p x r at.Evicts b e aim = absurd (true≢false (sym e))
ending_known p x r at.GetsBack b e aim = absurd (true≢false (sym e))

pub ending_stays : (p : Setting) (x : Seat) (seen : ℕ) (name : RequestAt) (b : Beside) → is_ending (local_of name b) ≡ true
    → advance p (accessed (placed x (local_of name b))) (local_of name b) seen ≡ placed (accessed x) (local_of name b)
ending_stays p x seen at.Rest b e = absurd (true≢false (sym e))
ending_stays p x seen at.Refuses b e = refl
ending_stays p x seen at.TellsNobody b e = refl
ending_stays p x seen at.Empties b e = absurd (true≢false (sym e))
ending_stays p x seen at.Looks b e = absurd (true≢false (sym e))
ending_stays p x seen at.Opens b e = absurd (true≢false (sym e))
ending_stays p x seen at.Pushes b e = absurd (true≢false (sym e))
ending_stays p x seen at.Evicts b e = absurd (true≢false (sym e))
ending_stays p x seen at.GetsBack b e = absurd (true≢false (sym e))

-- ---- the name of a place tells it

pub opens_there : (name : RequestAt) (b : Beside) → name ≡ at.Opens → IsOpening (local_of name b)
opens_there name b is = subst (λ (n : RequestAt). IsOpening (local_of n b)) (sym is) tt

pub ends_there : (name : RequestAt) (b : Beside) → (name ≡ at.Refuses) ⊎ (name ≡ at.TellsNobody) → is_ending (local_of name b) ≡ true
ends_there name b (inl is) = ap (λ (n : RequestAt). is_ending (local_of n b)) is
ends_there name b (inr is) = ap (λ (n : RequestAt). is_ending (local_of n b)) is

-- ---- fewer are left

pub seen_less : (name : RequestAt) (full left all left' all' : ℕ) → left' ≤ left → all' ≡ all → HasSeen name full left all → HasSeen name full left' all'
seen_less at.Rest full left all left' all' less same seen = tt
seen_less at.Refuses full left all left' all' less same seen = tt
seen_less at.TellsNobody full left all left' all' less same seen = tt
seen_less at.Empties full left all left' all' less same seen = tt
seen_less at.Looks full left all left' all' less same seen = omega (arith, less, same, seen)
seen_less at.Opens full left all left' all' less same seen = tt
seen_less at.Pushes full left all left' all' less same seen = tt
seen_less at.Evicts full left all left' all' less same seen = tt
seen_less at.GetsBack full left all left' all' less same seen = tt

pub count_less : (name : RequestAt) (count left all left' all' : ℕ) → left' ≤ left → all' ≡ all → HasCount name count left all → HasCount name count left' all'
count_less at.Rest count left all left' all' less same most = tt
count_less at.Refuses count left all left' all' less same most = tt
count_less at.TellsNobody count left all left' all' less same most = tt
count_less at.Empties count left all left' all' less same most = tt
count_less at.Looks count left all left' all' less same most = tt
count_less at.Opens count left all left' all' less same most = tt
count_less at.Pushes count left all left' all' less same most = omega (arith, less, same, most)
count_less at.Evicts count left all left' all' less same most = omega (arith, less, same, most)
count_less at.GetsBack count left all left' all' less same most = omega (arith, less, same, most)
