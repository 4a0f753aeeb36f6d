use Rattle.std.proofs.Common.{◌≡◌, ◌<◌, ◌≤◌, ◌+◌, ℕ, length, refl, sym, subst, ap, ◌∙◌, arith}
use Rattle.std.proofs.lemmas.Grind.{get_or_default_zero}
use Rattle.std.specs.Prelude.{vec_capacity}
use Rattle.iox_steps.specs.Accesses.{IsWithin}
use Rattle.iox_wire_words.specs.Programs.{program_access}
use Rattle.iox_wire_locals.specs.Locals.{program_of}
use Rattle.iox_wire_locals.specs.declared.local.Local.{Local}
use Rattle.iox_wire_locals.specs.declared.local.Local.TheVariants.{ReceiveLoads}
use Rattle.iox_wire_locals.specs.Courses.{placed}
use Rattle.iox_wire_locals.specs.NewLoans.{received_length}
use Rattle.iox_wire_seats.specs.QuietSteps.{StepsQuietly}
use Rattle.iox_wire_seats.specs.Seats.{Placed}
use Rattle.iox_wire_receives.specs.declared.at.ReceiveAt.{ReceiveAt}
use Rattle.iox_wire_receives.specs.contracts.receiving.Receiving.{the_view}
use Rattle.iox_wire_receives.specs.Aims.{AreAimed, HasHeader, IsAimed, KnowsTerms}
use Rattle.iox_wire_receives.specs.Receipts.{Beside, Receipt, local_of}
use Rattle.iox_wire_receives.specs.Sources.{ways_of}
use Rattle.iox_wire_receives.proofs.QuietLemmas.{loads_quietly}
use Rattle.iox_wire_receives.proofs.receiving.Receiving.quiet_step.Goals as goal

pub returns-else-count-header_length-clause-quiet : goal.returns-else-count-header_length-clause-quiet
returns-else-count-header_length-clause-quiet c p aim =
    let beside : Beside = record { visit = c.self.inside.visit; source = c.self.inside.source; left = c.self.inside.left.left; waiting = c.self.inside.waiting; again = c.self.inside.again; slot = c.self.inside.slot; header = c.self.inside.header.items; pushing = c.self.inside.pusher; popping = c.self.inside.popper } in
    let local : (the_view c.self.inside).local ≡ ReceiveLoads c.self.inside.visit c.self.inside.source.way c.self.inside.slot c.self.inside.header.items (ways_of c.self.inside.left.left) c.self.inside.waiting = ap (λ (a : ReceiveAt). local_of a beside) c.in-Loads.is in
    let after : local_of c.self.inside.at (record beside { header = c.push_reserved.new.self.items }) ≡ ReceiveLoads c.self.inside.visit c.self.inside.source.way c.self.inside.slot c.push_reserved.new.self.items (ways_of c.self.inside.left.left) c.self.inside.waiting = ap (λ (a : ReceiveAt). local_of a (record beside { header = c.push_reserved.new.self.items })) c.in-Loads.is in
    let aimed : AreAimed p c.args.seat.now.seat (ReceiveLoads c.self.inside.visit c.self.inside.source.way c.self.inside.slot c.self.inside.header.items (ways_of c.self.inside.left.left) c.self.inside.waiting) (the_view c.self.inside) =
    subst (λ (l : Local). AreAimed p c.args.seat.now.seat l (the_view c.self.inside)) local
    (subst (IsAimed p c.args.seat.now.seat) (sym c.self.view_is) aim) in
    let left : (length c.self.inside.header.items < received_length c.self.inside.visit) = (subst (λ (name : ReceiveAt). HasHeader name c.self.inside.visit c.self.inside.header.items c.self.inside.place (vec_capacity c.self.inside.header)) c.in-Loads.is c.self.invariant.2).0 in
    let count : c.len-count.result ≡ length c.self.inside.header.items = c.len-count.ensures ∙ c.self.inside.header.ok.0 in
    let long : c.header_length.result ≡ received_length c.self.inside.visit = c.header_length.ensures in
    let q = c.requires.within.0 in
    let aimed' : AreAimed q c.args.seat.now.seat (ReceiveLoads c.self.inside.visit c.self.inside.source.way c.self.inside.slot c.self.inside.header.items (ways_of c.self.inside.left.left) c.self.inside.waiting) (the_view c.self.inside) =
    subst (λ (l : Local). AreAimed q c.args.seat.now.seat l (the_view c.self.inside)) local
    (subst (IsAimed q c.args.seat.now.seat) (sym c.self.view_is) c.requires.within.1) in
    let within : IsWithin 0 (length c.args.words.now.items) (program_access q.layout (program_of q (ReceiveLoads c.self.inside.visit c.self.inside.source.way c.self.inside.slot c.self.inside.header.items (ways_of c.self.inside.left.left) c.self.inside.waiting))) =
    subst (λ (l : Local). IsWithin 0 (length c.args.words.now.items) (program_access q.layout (program_of q l))) (ap (λ (r : Receipt). r.local) (sym c.self.view_is) ∙ local) c.requires.within.2 in
    let at = ap (λ (n : ℕ). c.self.inside.place + n) count ∙ aimed'.1 (length c.self.inside.header.items) left in
    let last = within.1 in
    let bound : c.self.inside.place + c.len-count.result < length c.args.words.now.items = omega (arith, at, last) in
    let low : length c.self.inside.header.items + 1 < received_length c.self.inside.visit = let no = c.if-count-header_length.false in omega (arith, count, long, no) in
    subst (λ (r : Receipt). StepsQuietly p (placed c.args.seat.now.seat r.local) c.args.words.now.items c.index-seen.result.now (placed c.count_access-in-Loads.new.self.seat (local_of c.self.inside.at (record beside { header = c.push_reserved.new.self.items }))) c.args.words.now.items) c.self.view_is
    (subst (λ (l : Local). StepsQuietly p (placed c.args.seat.now.seat l) c.args.words.now.items c.index-seen.result.now (placed c.count_access-in-Loads.new.self.seat (local_of c.self.inside.at (record beside { header = c.push_reserved.new.self.items }))) c.args.words.now.items) (sym local)
    (subst (λ (l : Local). StepsQuietly p (placed c.args.seat.now.seat (ReceiveLoads c.self.inside.visit c.self.inside.source.way c.self.inside.slot c.self.inside.header.items (ways_of c.self.inside.left.left) c.self.inside.waiting)) c.args.words.now.items c.index-seen.result.now (placed c.count_access-in-Loads.new.self.seat l) c.args.words.now.items) (sym after)
    (subst (λ (y : Placed). StepsQuietly p (placed c.args.seat.now.seat (ReceiveLoads c.self.inside.visit c.self.inside.source.way c.self.inside.slot c.self.inside.header.items (ways_of c.self.inside.left.left) c.self.inside.waiting)) c.args.words.now.items c.index-seen.result.now (placed y.seat (ReceiveLoads c.self.inside.visit c.self.inside.source.way c.self.inside.slot c.push_reserved.new.self.items (ways_of c.self.inside.left.left) c.self.inside.waiting)) c.args.words.now.items) (sym c.count_access-in-Loads.ensures)
    (loads_quietly p c.args.seat.now.seat c.self.inside.visit c.self.inside.source.way c.self.inside.slot c.self.inside.header.items c.push_reserved.new.self.items (ways_of c.self.inside.left.left) c.self.inside.waiting
    c.index-seen.result.now (c.self.inside.place + c.len-count.result) c.args.words.now.items c.args.words.now.items c.push_reserved.ensures.items low
    (c.index-seen.ensures ∙ get_or_default_zero c.args.words.now.items (c.self.inside.place + c.len-count.result) c.index-seen.result.now bound)
    (ap (λ (n : ℕ). c.self.inside.place + n) count ∙ aimed.1 (length c.self.inside.header.items) left) refl))))

pub returns-else-count-header_length-clause-aimed : goal.returns-else-count-header_length-clause-aimed
returns-else-count-header_length-clause-aimed c p aim told =
    let beside : Beside = record { visit = c.self.inside.visit; source = c.self.inside.source; left = c.self.inside.left.left; waiting = c.self.inside.waiting; again = c.self.inside.again; slot = c.self.inside.slot; header = c.self.inside.header.items; pushing = c.self.inside.pusher; popping = c.self.inside.popper } in
    let local : (the_view c.self.inside).local ≡ ReceiveLoads c.self.inside.visit c.self.inside.source.way c.self.inside.slot c.self.inside.header.items (ways_of c.self.inside.left.left) c.self.inside.waiting = ap (λ (a : ReceiveAt). local_of a beside) c.in-Loads.is in
    let after : local_of c.self.inside.at (record beside { header = c.push_reserved.new.self.items }) ≡ ReceiveLoads c.self.inside.visit c.self.inside.source.way c.self.inside.slot c.push_reserved.new.self.items (ways_of c.self.inside.left.left) c.self.inside.waiting = ap (λ (a : ReceiveAt). local_of a (record beside { header = c.push_reserved.new.self.items })) c.in-Loads.is in
    let aimed : AreAimed p c.args.seat.now.seat (ReceiveLoads c.self.inside.visit c.self.inside.source.way c.self.inside.slot c.self.inside.header.items (ways_of c.self.inside.left.left) c.self.inside.waiting) (the_view c.self.inside) =
    subst (λ (l : Local). AreAimed p c.args.seat.now.seat l (the_view c.self.inside)) local
    (subst (IsAimed p c.args.seat.now.seat) (sym c.self.view_is) aim) in
    let terms : KnowsTerms p c.count_access-in-Loads.new.self.seat c.self.inside.terms =
    subst (λ (y : Placed). KnowsTerms p y.seat c.self.inside.terms) (sym c.count_access-in-Loads.ensures)
    (record { number = aimed.0.terms.number; fire_and_forget = aimed.0.terms.fire_and_forget }) in
    subst (λ (l : Local). AreAimed p c.count_access-in-Loads.new.self.seat l (the_view (record (c.self.inside) { header = c.push_reserved.new.self }))) (sym after)
    (record { terms = terms; source = aimed.0.source; left = aimed.0.left }, aimed.1)
