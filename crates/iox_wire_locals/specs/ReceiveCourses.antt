-- Where a receive, a release or a question goes once a part of it is done, clause by clause as in
-- the machine.
use Rattle.std.specs.Prelude.{ℕ, Bool, true, false, if◌then◌else◌, ◌==◌, List, [], ◌∷◌}
use Rattle.iox_model.specs.declared.kind.Kind.TheVariants.{PendingResponse, ActiveRequest}
use Rattle.iox_model.specs.declared.way.Way.{Way}
use Rattle.iox_model.specs.declared.way.RequestState.{RequestState}
use Rattle.iox_model.specs.Handles.{same_kind, is_received}
use Rattle.iox_model.specs.Messages.{names}
use Rattle.iox_model.specs.Peers.{forgot_port}
use Rattle.iox_model.specs.Receives.{is_at_limit}
use Rattle.iox_model.specs.Releases.{states_of}
use Rattle.iox_model.specs.Settings.{is_client}
use Rattle.iox_steps.specs.declared.push.Push.TheVariants as push
use Rattle.iox_steps.specs.declared.pop.Pop.TheVariants as pop
use Rattle.iox_steps.specs.declared.pop.EmptyLook.TheVariants as empty_look
use Rattle.iox_steps.specs.declared.side.Pushing.TheVariants as pushing
use Rattle.iox_steps.specs.declared.side.Popping.TheVariants as popping
use Rattle.iox_wire_locals.specs.declared.table.Entry.{Entry}
use Rattle.iox_wire_locals.specs.declared.local.Visit.{Visit}
use Rattle.iox_wire_locals.specs.declared.local.CallRefusal.TheVariants.{ExceedsMaxBorrows}
use Rattle.iox_wire_locals.specs.declared.local.Ending.{Ending}
use Rattle.iox_wire_locals.specs.declared.local.Ending.TheVariants as endings
use Rattle.iox_wire_locals.specs.declared.local.Local.TheVariants.{ReceiveLooks, ReceivePops, ReceiveAsks, ReceiveReturns, ReleaseCloses, ReleaseReturns, ReleaseLooks, Checks, Hints, Seeks}
use Rattle.iox_wire_locals.specs.declared.seat.Seat.{Seat}
use Rattle.iox_wire_locals.specs.Tables.{Setting, way_in}
use Rattle.iox_wire_locals.specs.NewLoans.{request_in}
use Rattle.iox_wire_locals.specs.Known.{told_handle, known}
use Rattle.iox_wire_locals.specs.Courses.{placed, ended}

-- ---- receives

-- what a receive answers that got nothing
abbrev pub got_nothing : Bool → Ending
got_nothing false = endings.Nothing
got_nothing true = endings.Refuses ExceedsMaxBorrows

-- the ways left are visited: at the borrow limit it looks there, else it pops
abbrev pub visiting : Setting → Seat → Visit → List Way → Bool → Seat
visiting p x v [] waiting = ended x (got_nothing waiting)
visiting p x v (w ∷ left) waiting =
    if is_at_limit (known p x) w
    then placed x (ReceiveLooks v w (popping.Looks empty_look.LoadsRead) left waiting)
    else placed x (ReceivePops v w false (popping.Pops pop.LoadsRead) left waiting)

-- it pops again where it took what did not fit
abbrev pub again : Seat → Visit → Way → List Way → Bool → Seat
again x v w left waiting = placed x (ReceivePops v w true (popping.Pops pop.LoadsRead) left waiting)

-- what does not fit is given back
abbrev pub gives_back : Seat → Visit → Way → ℕ → List Way → Bool → Seat
gives_back x v w slot left waiting =
    placed x (ReceiveReturns v w slot (pushing.Pushes (push.LoadsWrite slot)) left waiting)

-- but what is a forgotten sender's, the receiver just has no more
abbrev pub stale : Setting → Seat → Visit → Way → ℕ → List Way → Bool → Seat
stale p x v w slot left waiting =
    if forgot_port (known p x) x.node w.sender then again x v w left waiting
    else gives_back x v w slot left waiting

-- a response fits if it answers the request
abbrev pub took_response : Setting → Seat → Visit → Way → ℕ → List ℕ → List Way → Bool → Seat
took_response p x v w slot header left waiting =
    if request_in v header == v.request then ended x (endings.Receives v w slot header)
    else stale p x v w slot left waiting

-- a request fits under fire-and-forget, else its request state is asked
abbrev pub took_request : Setting → Seat → Visit → Way → ℕ → List ℕ → List Way → Bool → Seat
took_request p x v w slot header left waiting =
    if p.limits.fire_and_forget then ended x (endings.Receives v w slot header)
    else placed x (ReceiveAsks v w slot header left waiting)

-- the header of what was taken is loaded
abbrev pub took : Setting → Seat → Visit → Way → ℕ → List ℕ → List Way → Bool → Seat
took p x v w slot header left waiting =
    if is_client v.role then took_response p x v w slot header left waiting
    else took_request p x v w slot header left waiting

-- a request is received if its state names it, and else given back
abbrev pub judged : Seat → Visit → Way → ℕ → List ℕ → List Way → Bool → RequestState → Seat
judged x v w slot header left waiting shown =
    if names shown (request_in v header) then ended x (endings.Receives v w slot header)
    else gives_back x v w slot left waiting

-- a look for a message that waits, on the ways left
abbrev pub seeking : Seat → List Way → Seat
seeking x [] = ended x (endings.Answers false)
seeking x (w ∷ left) = placed x (Seeks w (popping.Looks empty_look.LoadsRead) left)

-- ---- releases, questions and hints

-- closes the request states of the ways left
abbrev pub closing : Seat → Entry → List Way → Seat
closing x e [] = ended x (endings.Drops e)
closing x e (w ∷ left) = placed x (ReleaseCloses e w left)

-- what a forgotten sender sent is just dropped
abbrev pub returning : Setting → Seat → Entry → Seat
returning p x e =
    if forgot_port (known p x) x.node (way_in e).sender then ended x (endings.Drops e)
    else placed x (ReleaseReturns e (pushing.Pushes (push.LoadsWrite e.slot)))

-- the message is given back: a request's state is then looked at
abbrev pub given_back : Seat → Entry → Seat
given_back x e =
    if same_kind e.kind ActiveRequest then placed x (ReleaseLooks e) else ended x (endings.Drops e)

-- the request states at which the entry's handle looks
abbrev pub states_for : Setting → Seat → Entry → List Way
states_for p x e = states_of (known p x) (told_handle p x.node e)

-- how a release begins, by the kind
abbrev pub releasing : Setting → Seat → Entry → Seat
releasing p x e =
    if is_received e.kind then returning p x e
    else (if same_kind e.kind PendingResponse then closing x e (states_for p x e)
    else ended x (endings.Drops e))

-- the ways left are asked
abbrev pub checking : Seat → Entry → Bool → List Way → Seat
checking x e hinted [] = ended x (endings.Answers false)
checking x e hinted (w ∷ left) = placed x (Checks e hinted w left)

-- hints are given on the ways left
abbrev pub hinting : Seat → Entry → List Way → Seat
hinting x e [] = ended x endings.Done
hinting x e (w ∷ left) = placed x (Hints e w left)
