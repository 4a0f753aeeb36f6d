use Rattle.std.proofs.Common.{◌≡◌, ◌∷◌, List, ap, sym, subst, ◌∙◌}
use Rattle.iox_model.specs.Messages.{request_way}
use Rattle.iox_model.specs.declared.way.Way.{Way}
use Rattle.iox_wire_locals.specs.Courses.{looking, placed}
use Rattle.iox_wire_locals.specs.Steps.{accessed, next, tells}
use Rattle.iox_wire_locals.specs.declared.local.Local.{Local}
use Rattle.iox_wire_locals.specs.declared.local.Local.TheVariants.{SendLooks}
use Rattle.iox_wire_request_sends.proofs.LeadLemmas.{leads_as}
use Rattle.iox_wire_request_sends.proofs.PlaceLemmas.{it_looks}
use Rattle.iox_wire_request_sends.proofs.RoomLemmas.{full_more}
use Rattle.iox_wire_request_sends.proofs.StepLemmas.{looked_full, looked_room, next_by, tells_by}
use Rattle.iox_wire_request_sends.specs.Aims.{AreAimed, IsAimed, IsLooking, Knows, LeadsTo}
use Rattle.iox_wire_request_sends.specs.RequestDispatches.{RequestDispatch, delivery_to}
use Rattle.iox_wire_request_sends.specs.Targets.{full_ways, ways_to}
use Rattle.iox_wire_request_sends.specs.contracts.requesting.Requesting.{the_view}
use Rattle.iox_wire_seats.specs.Keeps.{counted}
use Rattle.iox_wire_seats.specs.Seats.{Placed}
use Rattle.iox_wire_request_sends.specs.declared.at.RequestAt.TheVariants as names
use Rattle.iox_wire_request_sends.proofs.requesting.Requesting.look_on.Goals as goal

pub returns-in-SeesFull-clause-next : goal.returns-in-SeesFull-clause-next
returns-in-SeesFull-clause-next c p aim =
    let local : (the_view c.self.inside).local ≡ SendLooks (delivery_to c.self.inside.loan c.self.inside.copied c.self.inside.targets.all) (request_way c.self.inside.loan.port c.self.inside.target.server) c.self.inside.pusher (ways_to c.self.inside.loan.port c.self.inside.targets.left) (full_ways c.self.inside.loan.port c.self.inside.full.items) = it_looks c.self.inside.at _ (subst (λ (r : RequestDispatch). IsLooking r.local) (sym c.self.view_is) c.requires.there) in
    let aimed : AreAimed p c.args.seat.now.seat (SendLooks (delivery_to c.self.inside.loan c.self.inside.copied c.self.inside.targets.all) (request_way c.self.inside.loan.port c.self.inside.target.server) c.self.inside.pusher (ways_to c.self.inside.loan.port c.self.inside.targets.left) (full_ways c.self.inside.loan.port c.self.inside.full.items)) (the_view c.self.inside) =
    subst (λ (l : Local). AreAimed p c.args.seat.now.seat l (the_view c.self.inside)) local (subst (IsAimed p c.args.seat.now.seat) (sym c.self.view_is) aim) in
    let seat : c.count_access.new.self ≡ counted c.args.seat.now = c.count_access.ensures in
    let knows : Knows p c.count_access.new.self.seat (the_view (record (c.self.inside) { at = names.Opens; pusher = c.advance.new.self; full = c.push_reserved.new.self })) =
    subst (λ (y : Placed). Knows p y.seat (the_view (record (c.self.inside) { at = names.Opens; pusher = c.advance.new.self; full = c.push_reserved.new.self }))) (sym seat)
    (record { told = aimed.0.told; targets = aimed.0.targets; left = aimed.0.left; number = aimed.0.number }) in
    let leads : LeadsTo p (looking p (accessed c.args.seat.now.seat) (delivery_to c.self.inside.loan c.self.inside.copied c.self.inside.targets.all) (ways_to c.self.inside.loan.port c.self.inside.targets.left) ((request_way c.self.inside.loan.port c.self.inside.target.server) ∷ (full_ways c.self.inside.loan.port c.self.inside.full.items))) c.look_next.new.seat c.look_next.new.self c.look_next.result =
    leads_as p _ _ _ _ _ (ap (λ (y : Placed). looking p y.seat (delivery_to c.self.inside.loan c.self.inside.copied c.self.inside.targets.all) (ways_to c.self.inside.loan.port c.self.inside.targets.left) ((request_way c.self.inside.loan.port c.self.inside.target.server) ∷ (full_ways c.self.inside.loan.port c.self.inside.full.items))) (sym seat)
    ∙ ap (λ (fs : List Way). looking p c.count_access.new.self.seat (delivery_to c.self.inside.loan c.self.inside.copied c.self.inside.targets.all) (ways_to c.self.inside.loan.port c.self.inside.targets.left) fs) (sym (ap (full_ways c.self.inside.loan.port) c.push_reserved.ensures.items ∙ full_more c.self.inside.loan.port c.self.inside.target.server c.self.inside.full.items))) (c.look_next.ensures.next p knows) in
    next_by p c.args.seat.now.seat (looking p (accessed c.args.seat.now.seat) (delivery_to c.self.inside.loan c.self.inside.copied c.self.inside.targets.all) (ways_to c.self.inside.loan.port c.self.inside.targets.left) ((request_way c.self.inside.loan.port c.self.inside.target.server) ∷ (full_ways c.self.inside.loan.port c.self.inside.full.items))) (SendLooks (delivery_to c.self.inside.loan c.self.inside.copied c.self.inside.targets.all) (request_way c.self.inside.loan.port c.self.inside.target.server) c.self.inside.pusher (ways_to c.self.inside.loan.port c.self.inside.targets.left) (full_ways c.self.inside.loan.port c.self.inside.full.items)) c.args.seen c.look_next.new.seat c.look_next.new.self c.look_next.result
    (looked_full p c.args.seat.now.seat (delivery_to c.self.inside.loan c.self.inside.copied c.self.inside.targets.all) (request_way c.self.inside.loan.port c.self.inside.target.server) c.self.inside.pusher (ways_to c.self.inside.loan.port c.self.inside.targets.left) (full_ways c.self.inside.loan.port c.self.inside.full.items) c.self.inside.site c.args.seen aimed.1 (sym c.advance.ensures.event ∙ c.in-SeesFull.is)) leads
    ∙ ap (λ (l : Local). next p (placed c.args.seat.now.seat l) c.args.seen) (sym local ∙ ap (λ (r : RequestDispatch). r.local) c.self.view_is)

pub returns-in-SeesFull-clause-over : goal.returns-in-SeesFull-clause-over
returns-in-SeesFull-clause-over c p aim =
    let local : (the_view c.self.inside).local ≡ SendLooks (delivery_to c.self.inside.loan c.self.inside.copied c.self.inside.targets.all) (request_way c.self.inside.loan.port c.self.inside.target.server) c.self.inside.pusher (ways_to c.self.inside.loan.port c.self.inside.targets.left) (full_ways c.self.inside.loan.port c.self.inside.full.items) = it_looks c.self.inside.at _ (subst (λ (r : RequestDispatch). IsLooking r.local) (sym c.self.view_is) c.requires.there) in
    let aimed : AreAimed p c.args.seat.now.seat (SendLooks (delivery_to c.self.inside.loan c.self.inside.copied c.self.inside.targets.all) (request_way c.self.inside.loan.port c.self.inside.target.server) c.self.inside.pusher (ways_to c.self.inside.loan.port c.self.inside.targets.left) (full_ways c.self.inside.loan.port c.self.inside.full.items)) (the_view c.self.inside) =
    subst (λ (l : Local). AreAimed p c.args.seat.now.seat l (the_view c.self.inside)) local (subst (IsAimed p c.args.seat.now.seat) (sym c.self.view_is) aim) in
    let seat : c.count_access.new.self ≡ counted c.args.seat.now = c.count_access.ensures in
    let knows : Knows p c.count_access.new.self.seat (the_view (record (c.self.inside) { at = names.Opens; pusher = c.advance.new.self; full = c.push_reserved.new.self })) =
    subst (λ (y : Placed). Knows p y.seat (the_view (record (c.self.inside) { at = names.Opens; pusher = c.advance.new.self; full = c.push_reserved.new.self }))) (sym seat)
    (record { told = aimed.0.told; targets = aimed.0.targets; left = aimed.0.left; number = aimed.0.number }) in
    let leads : LeadsTo p (looking p (accessed c.args.seat.now.seat) (delivery_to c.self.inside.loan c.self.inside.copied c.self.inside.targets.all) (ways_to c.self.inside.loan.port c.self.inside.targets.left) ((request_way c.self.inside.loan.port c.self.inside.target.server) ∷ (full_ways c.self.inside.loan.port c.self.inside.full.items))) c.look_next.new.seat c.look_next.new.self c.look_next.result =
    leads_as p _ _ _ _ _ (ap (λ (y : Placed). looking p y.seat (delivery_to c.self.inside.loan c.self.inside.copied c.self.inside.targets.all) (ways_to c.self.inside.loan.port c.self.inside.targets.left) ((request_way c.self.inside.loan.port c.self.inside.target.server) ∷ (full_ways c.self.inside.loan.port c.self.inside.full.items))) (sym seat)
    ∙ ap (λ (fs : List Way). looking p c.count_access.new.self.seat (delivery_to c.self.inside.loan c.self.inside.copied c.self.inside.targets.all) (ways_to c.self.inside.loan.port c.self.inside.targets.left) fs) (sym (ap (full_ways c.self.inside.loan.port) c.push_reserved.ensures.items ∙ full_more c.self.inside.loan.port c.self.inside.target.server c.self.inside.full.items))) (c.look_next.ensures.next p knows) in
    ap (λ (l : Local). tells p (placed c.args.seat.now.seat l) c.args.seen) (ap (λ (r : RequestDispatch). r.local) (sym c.self.view_is) ∙ local)
    ∙ tells_by p c.args.seat.now.seat (looking p (accessed c.args.seat.now.seat) (delivery_to c.self.inside.loan c.self.inside.copied c.self.inside.targets.all) (ways_to c.self.inside.loan.port c.self.inside.targets.left) ((request_way c.self.inside.loan.port c.self.inside.target.server) ∷ (full_ways c.self.inside.loan.port c.self.inside.full.items))) (SendLooks (delivery_to c.self.inside.loan c.self.inside.copied c.self.inside.targets.all) (request_way c.self.inside.loan.port c.self.inside.target.server) c.self.inside.pusher (ways_to c.self.inside.loan.port c.self.inside.targets.left) (full_ways c.self.inside.loan.port c.self.inside.full.items)) c.args.seen c.look_next.new.seat c.look_next.new.self c.look_next.result
    (looked_full p c.args.seat.now.seat (delivery_to c.self.inside.loan c.self.inside.copied c.self.inside.targets.all) (request_way c.self.inside.loan.port c.self.inside.target.server) c.self.inside.pusher (ways_to c.self.inside.loan.port c.self.inside.targets.left) (full_ways c.self.inside.loan.port c.self.inside.full.items) c.self.inside.site c.args.seen aimed.1 (sym c.advance.ensures.event ∙ c.in-SeesFull.is)) leads

pub returns-in-SeesFull-clause-aimed : goal.returns-in-SeesFull-clause-aimed
returns-in-SeesFull-clause-aimed c p aim =
    let local : (the_view c.self.inside).local ≡ SendLooks (delivery_to c.self.inside.loan c.self.inside.copied c.self.inside.targets.all) (request_way c.self.inside.loan.port c.self.inside.target.server) c.self.inside.pusher (ways_to c.self.inside.loan.port c.self.inside.targets.left) (full_ways c.self.inside.loan.port c.self.inside.full.items) = it_looks c.self.inside.at _ (subst (λ (r : RequestDispatch). IsLooking r.local) (sym c.self.view_is) c.requires.there) in
    let aimed : AreAimed p c.args.seat.now.seat (SendLooks (delivery_to c.self.inside.loan c.self.inside.copied c.self.inside.targets.all) (request_way c.self.inside.loan.port c.self.inside.target.server) c.self.inside.pusher (ways_to c.self.inside.loan.port c.self.inside.targets.left) (full_ways c.self.inside.loan.port c.self.inside.full.items)) (the_view c.self.inside) =
    subst (λ (l : Local). AreAimed p c.args.seat.now.seat l (the_view c.self.inside)) local (subst (IsAimed p c.args.seat.now.seat) (sym c.self.view_is) aim) in
    let seat : c.count_access.new.self ≡ counted c.args.seat.now = c.count_access.ensures in
    let knows : Knows p c.count_access.new.self.seat (the_view (record (c.self.inside) { at = names.Opens; pusher = c.advance.new.self; full = c.push_reserved.new.self })) =
    subst (λ (y : Placed). Knows p y.seat (the_view (record (c.self.inside) { at = names.Opens; pusher = c.advance.new.self; full = c.push_reserved.new.self }))) (sym seat)
    (record { told = aimed.0.told; targets = aimed.0.targets; left = aimed.0.left; number = aimed.0.number }) in
    let leads : LeadsTo p (looking p (accessed c.args.seat.now.seat) (delivery_to c.self.inside.loan c.self.inside.copied c.self.inside.targets.all) (ways_to c.self.inside.loan.port c.self.inside.targets.left) ((request_way c.self.inside.loan.port c.self.inside.target.server) ∷ (full_ways c.self.inside.loan.port c.self.inside.full.items))) c.look_next.new.seat c.look_next.new.self c.look_next.result =
    leads_as p _ _ _ _ _ (ap (λ (y : Placed). looking p y.seat (delivery_to c.self.inside.loan c.self.inside.copied c.self.inside.targets.all) (ways_to c.self.inside.loan.port c.self.inside.targets.left) ((request_way c.self.inside.loan.port c.self.inside.target.server) ∷ (full_ways c.self.inside.loan.port c.self.inside.full.items))) (sym seat)
    ∙ ap (λ (fs : List Way). looking p c.count_access.new.self.seat (delivery_to c.self.inside.loan c.self.inside.copied c.self.inside.targets.all) (ways_to c.self.inside.loan.port c.self.inside.targets.left) fs) (sym (ap (full_ways c.self.inside.loan.port) c.push_reserved.ensures.items ∙ full_more c.self.inside.loan.port c.self.inside.target.server c.self.inside.full.items))) (c.look_next.ensures.next p knows) in
    leads.aimed

pub returns-in-SeesRoom-clause-next : goal.returns-in-SeesRoom-clause-next
returns-in-SeesRoom-clause-next c p aim =
    let local : (the_view c.self.inside).local ≡ SendLooks (delivery_to c.self.inside.loan c.self.inside.copied c.self.inside.targets.all) (request_way c.self.inside.loan.port c.self.inside.target.server) c.self.inside.pusher (ways_to c.self.inside.loan.port c.self.inside.targets.left) (full_ways c.self.inside.loan.port c.self.inside.full.items) = it_looks c.self.inside.at _ (subst (λ (r : RequestDispatch). IsLooking r.local) (sym c.self.view_is) c.requires.there) in
    let aimed : AreAimed p c.args.seat.now.seat (SendLooks (delivery_to c.self.inside.loan c.self.inside.copied c.self.inside.targets.all) (request_way c.self.inside.loan.port c.self.inside.target.server) c.self.inside.pusher (ways_to c.self.inside.loan.port c.self.inside.targets.left) (full_ways c.self.inside.loan.port c.self.inside.full.items)) (the_view c.self.inside) =
    subst (λ (l : Local). AreAimed p c.args.seat.now.seat l (the_view c.self.inside)) local (subst (IsAimed p c.args.seat.now.seat) (sym c.self.view_is) aim) in
    let seat : c.count_access.new.self ≡ counted c.args.seat.now = c.count_access.ensures in
    let knows : Knows p c.count_access.new.self.seat (the_view (record (c.self.inside) { pusher = c.advance.new.self })) =
    subst (λ (y : Placed). Knows p y.seat (the_view (record (c.self.inside) { pusher = c.advance.new.self }))) (sym seat)
    (record { told = aimed.0.told; targets = aimed.0.targets; left = aimed.0.left; number = aimed.0.number }) in
    let leads : LeadsTo p (looking p (accessed c.args.seat.now.seat) (delivery_to c.self.inside.loan c.self.inside.copied c.self.inside.targets.all) (ways_to c.self.inside.loan.port c.self.inside.targets.left) (full_ways c.self.inside.loan.port c.self.inside.full.items)) c.look_next-in-SeesRoom.new.seat c.look_next-in-SeesRoom.new.self c.look_next-in-SeesRoom.result =
    leads_as p _ _ _ _ _ (ap (λ (y : Placed). looking p y.seat (delivery_to c.self.inside.loan c.self.inside.copied c.self.inside.targets.all) (ways_to c.self.inside.loan.port c.self.inside.targets.left) (full_ways c.self.inside.loan.port c.self.inside.full.items)) (sym seat)) (c.look_next-in-SeesRoom.ensures.next p knows) in
    next_by p c.args.seat.now.seat (looking p (accessed c.args.seat.now.seat) (delivery_to c.self.inside.loan c.self.inside.copied c.self.inside.targets.all) (ways_to c.self.inside.loan.port c.self.inside.targets.left) (full_ways c.self.inside.loan.port c.self.inside.full.items)) (SendLooks (delivery_to c.self.inside.loan c.self.inside.copied c.self.inside.targets.all) (request_way c.self.inside.loan.port c.self.inside.target.server) c.self.inside.pusher (ways_to c.self.inside.loan.port c.self.inside.targets.left) (full_ways c.self.inside.loan.port c.self.inside.full.items)) c.args.seen c.look_next-in-SeesRoom.new.seat c.look_next-in-SeesRoom.new.self c.look_next-in-SeesRoom.result
    (looked_room p c.args.seat.now.seat (delivery_to c.self.inside.loan c.self.inside.copied c.self.inside.targets.all) (request_way c.self.inside.loan.port c.self.inside.target.server) c.self.inside.pusher (ways_to c.self.inside.loan.port c.self.inside.targets.left) (full_ways c.self.inside.loan.port c.self.inside.full.items) c.self.inside.site c.args.seen aimed.1 (sym c.advance.ensures.event ∙ c.in-SeesRoom.is)) leads
    ∙ ap (λ (l : Local). next p (placed c.args.seat.now.seat l) c.args.seen) (sym local ∙ ap (λ (r : RequestDispatch). r.local) c.self.view_is)

pub returns-in-SeesRoom-clause-over : goal.returns-in-SeesRoom-clause-over
returns-in-SeesRoom-clause-over c p aim =
    let local : (the_view c.self.inside).local ≡ SendLooks (delivery_to c.self.inside.loan c.self.inside.copied c.self.inside.targets.all) (request_way c.self.inside.loan.port c.self.inside.target.server) c.self.inside.pusher (ways_to c.self.inside.loan.port c.self.inside.targets.left) (full_ways c.self.inside.loan.port c.self.inside.full.items) = it_looks c.self.inside.at _ (subst (λ (r : RequestDispatch). IsLooking r.local) (sym c.self.view_is) c.requires.there) in
    let aimed : AreAimed p c.args.seat.now.seat (SendLooks (delivery_to c.self.inside.loan c.self.inside.copied c.self.inside.targets.all) (request_way c.self.inside.loan.port c.self.inside.target.server) c.self.inside.pusher (ways_to c.self.inside.loan.port c.self.inside.targets.left) (full_ways c.self.inside.loan.port c.self.inside.full.items)) (the_view c.self.inside) =
    subst (λ (l : Local). AreAimed p c.args.seat.now.seat l (the_view c.self.inside)) local (subst (IsAimed p c.args.seat.now.seat) (sym c.self.view_is) aim) in
    let seat : c.count_access.new.self ≡ counted c.args.seat.now = c.count_access.ensures in
    let knows : Knows p c.count_access.new.self.seat (the_view (record (c.self.inside) { pusher = c.advance.new.self })) =
    subst (λ (y : Placed). Knows p y.seat (the_view (record (c.self.inside) { pusher = c.advance.new.self }))) (sym seat)
    (record { told = aimed.0.told; targets = aimed.0.targets; left = aimed.0.left; number = aimed.0.number }) in
    let leads : LeadsTo p (looking p (accessed c.args.seat.now.seat) (delivery_to c.self.inside.loan c.self.inside.copied c.self.inside.targets.all) (ways_to c.self.inside.loan.port c.self.inside.targets.left) (full_ways c.self.inside.loan.port c.self.inside.full.items)) c.look_next-in-SeesRoom.new.seat c.look_next-in-SeesRoom.new.self c.look_next-in-SeesRoom.result =
    leads_as p _ _ _ _ _ (ap (λ (y : Placed). looking p y.seat (delivery_to c.self.inside.loan c.self.inside.copied c.self.inside.targets.all) (ways_to c.self.inside.loan.port c.self.inside.targets.left) (full_ways c.self.inside.loan.port c.self.inside.full.items)) (sym seat)) (c.look_next-in-SeesRoom.ensures.next p knows) in
    ap (λ (l : Local). tells p (placed c.args.seat.now.seat l) c.args.seen) (ap (λ (r : RequestDispatch). r.local) (sym c.self.view_is) ∙ local)
    ∙ tells_by p c.args.seat.now.seat (looking p (accessed c.args.seat.now.seat) (delivery_to c.self.inside.loan c.self.inside.copied c.self.inside.targets.all) (ways_to c.self.inside.loan.port c.self.inside.targets.left) (full_ways c.self.inside.loan.port c.self.inside.full.items)) (SendLooks (delivery_to c.self.inside.loan c.self.inside.copied c.self.inside.targets.all) (request_way c.self.inside.loan.port c.self.inside.target.server) c.self.inside.pusher (ways_to c.self.inside.loan.port c.self.inside.targets.left) (full_ways c.self.inside.loan.port c.self.inside.full.items)) c.args.seen c.look_next-in-SeesRoom.new.seat c.look_next-in-SeesRoom.new.self c.look_next-in-SeesRoom.result
    (looked_room p c.args.seat.now.seat (delivery_to c.self.inside.loan c.self.inside.copied c.self.inside.targets.all) (request_way c.self.inside.loan.port c.self.inside.target.server) c.self.inside.pusher (ways_to c.self.inside.loan.port c.self.inside.targets.left) (full_ways c.self.inside.loan.port c.self.inside.full.items) c.self.inside.site c.args.seen aimed.1 (sym c.advance.ensures.event ∙ c.in-SeesRoom.is)) leads

pub returns-in-SeesRoom-clause-aimed : goal.returns-in-SeesRoom-clause-aimed
returns-in-SeesRoom-clause-aimed c p aim =
    let local : (the_view c.self.inside).local ≡ SendLooks (delivery_to c.self.inside.loan c.self.inside.copied c.self.inside.targets.all) (request_way c.self.inside.loan.port c.self.inside.target.server) c.self.inside.pusher (ways_to c.self.inside.loan.port c.self.inside.targets.left) (full_ways c.self.inside.loan.port c.self.inside.full.items) = it_looks c.self.inside.at _ (subst (λ (r : RequestDispatch). IsLooking r.local) (sym c.self.view_is) c.requires.there) in
    let aimed : AreAimed p c.args.seat.now.seat (SendLooks (delivery_to c.self.inside.loan c.self.inside.copied c.self.inside.targets.all) (request_way c.self.inside.loan.port c.self.inside.target.server) c.self.inside.pusher (ways_to c.self.inside.loan.port c.self.inside.targets.left) (full_ways c.self.inside.loan.port c.self.inside.full.items)) (the_view c.self.inside) =
    subst (λ (l : Local). AreAimed p c.args.seat.now.seat l (the_view c.self.inside)) local (subst (IsAimed p c.args.seat.now.seat) (sym c.self.view_is) aim) in
    let seat : c.count_access.new.self ≡ counted c.args.seat.now = c.count_access.ensures in
    let knows : Knows p c.count_access.new.self.seat (the_view (record (c.self.inside) { pusher = c.advance.new.self })) =
    subst (λ (y : Placed). Knows p y.seat (the_view (record (c.self.inside) { pusher = c.advance.new.self }))) (sym seat)
    (record { told = aimed.0.told; targets = aimed.0.targets; left = aimed.0.left; number = aimed.0.number }) in
    let leads : LeadsTo p (looking p (accessed c.args.seat.now.seat) (delivery_to c.self.inside.loan c.self.inside.copied c.self.inside.targets.all) (ways_to c.self.inside.loan.port c.self.inside.targets.left) (full_ways c.self.inside.loan.port c.self.inside.full.items)) c.look_next-in-SeesRoom.new.seat c.look_next-in-SeesRoom.new.self c.look_next-in-SeesRoom.result =
    leads_as p _ _ _ _ _ (ap (λ (y : Placed). looking p y.seat (delivery_to c.self.inside.loan c.self.inside.copied c.self.inside.targets.all) (ways_to c.self.inside.loan.port c.self.inside.targets.left) (full_ways c.self.inside.loan.port c.self.inside.full.items)) (sym seat)) (c.look_next-in-SeesRoom.ensures.next p knows) in
    leads.aimed
