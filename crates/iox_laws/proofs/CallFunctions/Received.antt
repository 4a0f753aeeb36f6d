-- What `received` says is a whole call.
use Rattle.std.specs.Prelude.{◌≡◌, ℕ, Bool, true, false, not, ◌||◌, if◌then◌else◌, List, [], ◌∷◌, Option, Some, None, refl}
use Rattle.std.specs.Option.{option_map_or}
use Rattle.iox_model.specs.declared.kind.Role.TheVariants.{Client, Server}
use Rattle.iox_model.specs.declared.way.Way.{Way}
use Rattle.iox_model.specs.declared.call.Call.TheVariants.{Receive}
use Rattle.iox_model.specs.declared.reply.Refusal.TheVariants.{UnknownNumber}
use Rattle.iox_laws.specs.CallFunctions.Searches.{first_that, fits, searched, found_or, visited, received_from, EachReceiveIsWhole}
use Rattle.iox_laws.proofs.CallFunctions.Visits.{visits}
use Rattle.iox_laws.proofs.CallFunctions.Leads.{is_whole, ample}
use Rattle.iox_laws.proofs.CallFunctions.Walks.{Walks, stays}
use Rattle.iox_model.specs.Receives.{server_ways, pending_ways, is_at_limit}
use Rattle.iox_model.specs.Doings.{refused, Receiver, Outcome, Receives, Ended}
use Rattle.iox_model.specs.States.{Fixed, State}
use Rattle.iox_model.specs.Handles.{subject, Subject, ThePort, TheHandle}
use Rattle.iox_model.specs.WholeCalls.{MayHold}
use Rattle.iox_model.specs.Maps.{is_empty}
use Rattle.iox_model.specs.Begins.{begins_at}
use Rattle.iox_model.specs.Messages.{Message}

-- a receive leaves no payload open
found_holds : (f : Fixed) (s : State) (x : Receiver) (w : Way) (v : Outcome × State) → (o : Option Message) → MayHold f v.0 []
    → MayHold f (found_or o (λ m. (Receives x w m, searched s x w)) v).0 []
found_holds f s x w v (Some m) h = tt
found_holds f s x w v None h = h

if_holds : (f : Fixed) (b : Bool) (u v : Outcome × State) → MayHold f u.0 [] → MayHold f v.0 [] → MayHold f (if b then u else v).0 []
if_holds f true u v a b = a
if_holds f false u v a b = b

visited_holds : (f : Fixed) (s : State) (x : Receiver) (ways : List Way) (seen : Bool) → MayHold f (visited s x ways seen).0 []
visited_holds f s x [] seen = tt
visited_holds f s x (w ∷ left) seen =
    if_holds f (is_at_limit s.fixed w) (visited s x left (seen || not (is_empty (s.waiting w))))
    (found_or (first_that (fits s x w) (s.waiting w)) (λ m. (Receives x w m, searched s x w)) (visited (searched s x w) x left seen))
    (visited_holds f s x left (seen || not (is_empty (s.waiting w))))
    (found_holds f s x w (visited (searched s x w) x left seen) (first_that (fits s x w) (s.waiting w)) (visited_holds f (searched s x w) x left seen))

received_holds : (f : Fixed) (s : State) (x : Option Subject) → MayHold f (received_from s x).0 []
received_holds f s (Some (ThePort p)) = visited_holds f s (record { port = p.number; role = Server; lane = 0; request = 0 }) (server_ways s.fixed p) false
received_holds f s (Some (TheHandle h)) = visited_holds f s (record { port = h.port; role = Client; lane = h.lane; request = h.request }) (pending_ways s.fixed h) false
received_holds f s None = tt

begins : (s : State) (node n : ℕ) (x : Option Subject) → s.fixed.forgot node ≡ []
    → Walks s node (option_map_or (begins_at s ample (Receive n)) x (refused UnknownNumber)) (received_from s x).1 (Ended (received_from s x).0)
begins s node n (Some (ThePort p)) nobody = visits s node (record { port = p.number; role = Server; lane = 0; request = 0 }) (server_ways s.fixed p) false nobody
begins s node n (Some (TheHandle h)) nobody = visits s node (record { port = h.port; role = Client; lane = h.lane; request = h.request }) (pending_ways s.fixed h) false nobody
begins s node n None nobody = stays _ _ _

pub each_receive_is_whole : EachReceiveIsWhole
each_receive_is_whole s node n nobody =
    let x : Option Subject = subject s.fixed node n in
    is_whole s node (Receive n) ample (received_from s x) (refl, refl)
    (Ended (received_from s x).0, begins s node n x nobody, refl, received_holds s.fixed s x)
