use Rattle.std.proofs.Common.{◌≡◌, ◌<◌, ◌≤◌, ◌==◌, ◌++◌, ◌∷◌, [], ℕ, length, true, false, sym, subst, ap, ap₂, ◌∙◌}
use Rattle.std.specs.Prelude.{vec_capacity}
use Rattle.iox_model.specs.Maps.{has_number}
use Rattle.iox_model.specs.Peers.{forgot_port}
use Rattle.iox_model.specs.Settings.{is_client}
use Rattle.iox_wire_locals.specs.declared.local.Local.{Local}
use Rattle.iox_wire_locals.specs.declared.local.Local.TheVariants.{ReceiveLoads}
use Rattle.iox_wire_locals.specs.Courses.{placed}
use Rattle.iox_wire_locals.specs.Known.{known}
use Rattle.iox_wire_locals.specs.NewLoans.{received_length, request_in}
use Rattle.iox_wire_locals.specs.Steps.{next}
use Rattle.iox_wire_seats.specs.Seats.{Placed}
use Rattle.iox_wire_receives.specs.declared.at.ReceiveAt.{ReceiveAt}
use Rattle.iox_wire_receives.specs.contracts.receiving.Receiving.{the_view}
use Rattle.iox_wire_receives.specs.Aims.{AreAimed, HasHeader, IsAimed, IsLoading}
use Rattle.iox_wire_receives.specs.Receipts.{Receipt}
use Rattle.iox_wire_receives.specs.Sources.{ways_of}
use Rattle.iox_wire_receives.proofs.LoadLemmas.{stale_next, is_whole, differs}
use Rattle.iox_wire_receives.proofs.PlaceLemmas.{it_loads, at_loads}
use Rattle.iox_wire_receives.proofs.receiving.Receiving.load_on.Goals as goal

pub returns-then-has_forgotten-clause-next : goal.returns-then-has_forgotten-clause-next
returns-then-has_forgotten-clause-next c p aim =
    let there : IsLoading (the_view c.self.inside).local = subst (λ (r : Receipt). IsLoading r.local) (sym c.self.view_is) c.requires.there in
    let local : (the_view c.self.inside).local ≡ ReceiveLoads c.self.inside.visit c.self.inside.source.way c.self.inside.slot c.self.inside.header.items (ways_of c.self.inside.left.left) c.self.inside.waiting =
    it_loads c.self.inside.at _ there in
    let aimed : AreAimed p c.args.seat.now.seat (ReceiveLoads c.self.inside.visit c.self.inside.source.way c.self.inside.slot c.self.inside.header.items (ways_of c.self.inside.left.left) c.self.inside.waiting) (the_view c.self.inside) =
    subst (λ (l : Local). AreAimed p c.args.seat.now.seat l (the_view c.self.inside)) local
    (subst (IsAimed p c.args.seat.now.seat) (sym c.self.view_is) aim) in
    let less : length c.self.inside.header.items < received_length c.self.inside.visit =
    (subst (λ (name : ReceiveAt). HasHeader name c.self.inside.visit c.self.inside.header.items c.self.inside.place (vec_capacity c.self.inside.header)) (at_loads c.self.inside.at _ there) c.self.invariant.2).0 in
    let whole : (length (c.self.inside.header.items ++ c.args.seen ∷ []) == received_length c.self.inside.visit) ≡ true =
    is_whole c.self.inside.visit c.self.inside.header.items c.push_reserved.new.self.items c.args.seen c.len.result c.push_reserved.ensures.items less
    (c.len.ensures ∙ c.push_reserved.new.self.ok.0) (subst (λ (n : ℕ). n ≤ c.len.result) c.header_length.ensures c.if-len-header_length.false) in
    let fits : (request_in c.self.inside.visit (c.self.inside.header.items ++ c.args.seen ∷ []) == c.self.inside.visit.request) ≡ false =
    differs _ _ (λ same. c.if-request-self.false (c.request.ensures ∙ ap (request_in c.self.inside.visit) c.push_reserved.ensures.items ∙ same)) in
    let forgot : forgot_port (known p c.args.seat.now.seat) c.args.seat.now.seat.node c.self.inside.source.way.sender ≡ true =
    aimed.0.source.node c.args.seat.now.seat
    ∙ ap (λ (y : Placed). has_number c.self.inside.source.node y.seat.forgot) (sym c.count_access.ensures)
    ∙ sym c.has_forgotten.ensures ∙ c.if-has_forgotten.true in
    ap₂ (λ (y : Placed) (l : Local). placed y.seat l) c.count_access.ensures c.pop_again.ensures.local
    ∙ stale_next p c.args.seat.now.seat c.self.inside.visit c.self.inside.source.way c.self.inside.slot c.self.inside.header.items (ways_of c.self.inside.left.left) c.self.inside.waiting c.args.seen true
    whole (ap is_client c.in-Client.is) fits forgot
    ∙ ap (λ (l : Local). next p (placed c.args.seat.now.seat l) c.args.seen) (sym local ∙ ap (λ (r : Receipt). r.local) c.self.view_is)

pub returns-else-has_forgotten-clause-next : goal.returns-else-has_forgotten-clause-next
returns-else-has_forgotten-clause-next c p aim =
    let there : IsLoading (the_view c.self.inside).local = subst (λ (r : Receipt). IsLoading r.local) (sym c.self.view_is) c.requires.there in
    let local : (the_view c.self.inside).local ≡ ReceiveLoads c.self.inside.visit c.self.inside.source.way c.self.inside.slot c.self.inside.header.items (ways_of c.self.inside.left.left) c.self.inside.waiting =
    it_loads c.self.inside.at _ there in
    let aimed : AreAimed p c.args.seat.now.seat (ReceiveLoads c.self.inside.visit c.self.inside.source.way c.self.inside.slot c.self.inside.header.items (ways_of c.self.inside.left.left) c.self.inside.waiting) (the_view c.self.inside) =
    subst (λ (l : Local). AreAimed p c.args.seat.now.seat l (the_view c.self.inside)) local
    (subst (IsAimed p c.args.seat.now.seat) (sym c.self.view_is) aim) in
    let less : length c.self.inside.header.items < received_length c.self.inside.visit =
    (subst (λ (name : ReceiveAt). HasHeader name c.self.inside.visit c.self.inside.header.items c.self.inside.place (vec_capacity c.self.inside.header)) (at_loads c.self.inside.at _ there) c.self.invariant.2).0 in
    let whole : (length (c.self.inside.header.items ++ c.args.seen ∷ []) == received_length c.self.inside.visit) ≡ true =
    is_whole c.self.inside.visit c.self.inside.header.items c.push_reserved.new.self.items c.args.seen c.len.result c.push_reserved.ensures.items less
    (c.len.ensures ∙ c.push_reserved.new.self.ok.0) (subst (λ (n : ℕ). n ≤ c.len.result) c.header_length.ensures c.if-len-header_length.false) in
    let fits : (request_in c.self.inside.visit (c.self.inside.header.items ++ c.args.seen ∷ []) == c.self.inside.visit.request) ≡ false =
    differs _ _ (λ same. c.if-request-self.false (c.request.ensures ∙ ap (request_in c.self.inside.visit) c.push_reserved.ensures.items ∙ same)) in
    let forgot : forgot_port (known p c.args.seat.now.seat) c.args.seat.now.seat.node c.self.inside.source.way.sender ≡ false =
    aimed.0.source.node c.args.seat.now.seat
    ∙ ap (λ (y : Placed). has_number c.self.inside.source.node y.seat.forgot) (sym c.count_access.ensures)
    ∙ sym c.has_forgotten.ensures ∙ c.if-has_forgotten.false in
    ap₂ (λ (y : Placed) (l : Local). placed y.seat l) c.count_access.ensures c.give_back.ensures.local
    ∙ stale_next p c.args.seat.now.seat c.self.inside.visit c.self.inside.source.way c.self.inside.slot c.self.inside.header.items (ways_of c.self.inside.left.left) c.self.inside.waiting c.args.seen false
    whole (ap is_client c.in-Client.is) fits forgot
    ∙ ap (λ (l : Local). next p (placed c.args.seat.now.seat l) c.args.seen) (sym local ∙ ap (λ (r : Receipt). r.local) c.self.view_is)
