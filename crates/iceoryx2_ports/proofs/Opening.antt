-- Loans, writes and receives leave each request open at the servers where it was.
use Rattle.std.specs.Prelude.{◌≡◌, ℕ, Bool, true, false, ◌&&◌, if◌then◌else◌, ◌==◌, List, [], ◌∷◌, filter, map, Option, Some, None, refl}
use Rattle.std.specs.Option.{option_map_or}
use Rattle.std.proofs.Common.{sym, ap, ap₂, subst, ◌∙◌}
use Rattle.iox_model.specs.declared.call.Call.TheVariants.{Loan, LoanUninit, Receive}
use Rattle.iox_model.specs.declared.kind.Role.TheVariants.{Client, Server}
use Rattle.iox_model.specs.declared.reply.Refusal.TheVariants.{UnknownNumber}
use Rattle.iox_model.specs.declared.way.RequestState.{RequestState}
use Rattle.iox_model.specs.declared.way.Way.{Way}
use Rattle.iox_model.specs.Begins.{begins_at, start}
use Rattle.iox_model.specs.Commands.{Call, Refusal, Reply, number_of}
use Rattle.iox_model.specs.Counts.{called, with_fixed}
use Rattle.iox_model.specs.Doings.{refused, Again, Doing, Ended, Fills, Judging, Loaning, Loans, Outcome, Receiver, Receives, Stale, Tells, Visiting}
use Rattle.iox_model.specs.Ends.{is_nothing, settled}
use Rattle.iox_model.specs.Handles.{Subject, TheHandle, ThePort, subject}
use Rattle.iox_model.specs.Loans.{Choice}
use Rattle.iox_model.specs.Maps.{has_number, without_way}
use Rattle.iox_model.specs.Messages.{Message, names, response_way}
use Rattle.iox_model.specs.Moments.{GetBack, GiveBack, Look, Moment, SeesEmpty, SeesNoneBack, SeesWaiting, Take, moved}
use Rattle.iox_model.specs.Names.{misnamed}
use Rattle.iox_model.specs.Peers.{forgot_port}
use Rattle.iox_model.specs.Receives.{pending_ways, server_ways, stale, took, visiting}
use Rattle.iox_model.specs.Settings.{is_client, same_role}
use Rattle.iox_model.specs.States.{Fixed, Port, State}
use Rattle.iox_model.specs.Transitions.{ends, next}
use Rattle.iox_model.specs.WholeCalls.{IsDone, IsWholeCall, MayCome, UnlessRefused, left_by, moved_by, spent}
use Rattle.iox_laws.proofs.WeaveLaws.MapLemmas.{either}
use Rattle.iox_laws.proofs.WeaveLaws.WholeLemmas.{moved_by-fixed, some-is}
use Rattle.iox_laws.proofs.WeaveLedger.Truths.{none-some}
use Rattle.iox_tables.specs.HubLoans.Loans.{loan_call}
use Rattle.iox_tables.specs.HubStates.States.{Given}
use Rattle.iox_tables.specs.HubStates.Wirings.{numbers_of_role}
use Rattle.iox_tables.proofs.HubStates.Fixing.{roles_are}
use Rattle.iox_hub_laws.specs.Hubs.{HubState, given_by, nothing_given, state_of_hub}
use Rattle.iox_hub_laws.specs.Shown.{shown}
use Rattle.iceoryx2_ports.specs.Asking.{KeepsOpen}
use Rattle.iceoryx2_ports.proofs.Resting.{IsResting, Rests, at_rests, loaning_rests, numbered_has, rests}

-- ---- what such a call has to do

-- the end changes no request state, and no port
abbrev Leaves : Outcome → Type 0
Leaves (Tells reply) = Unit {0}
Leaves (Loans h) = Unit {0}
Leaves (Fills h) = Unit {0}
Leaves (Receives x w a) = Unit {0}
Leaves o = ⊥

-- the call comes to such an end, and changes none before
abbrev IsStill : Doing → Type 0
IsStill (Ended o) = Leaves o
IsStill (Loaning copies h left) = copies ≡ false
IsStill (Visiting x left seen) = Unit {0}
IsStill (Again x v left seen) = Unit {0}
IsStill (Judging x v a left seen) = Unit {0}
IsStill (Stale x v a left seen) = Unit {0}
IsStill d = ⊥

end_leaves : (o : Outcome) → Rests o → Leaves o
end_leaves (Tells reply) p = tt
end_leaves (Loans h) p = tt
end_leaves (Fills h) p = tt
end_leaves o p = absurd p

resting_is_still : (d : Doing) → IsResting d → IsStill d
resting_is_still (Ended o) p = end_leaves o p
resting_is_still (Loaning copies h left) p = p
resting_is_still d p = absurd p

either_still : (b : Bool) (d e : Doing) → IsStill d → IsStill e → IsStill (if b then d else e)
either_still b d e p q = either IsStill b d e (λ u. p) (λ u. q)

visiting_still : (x : Receiver) (left : List Way) (seen : Bool) → IsStill (visiting x left seen)
visiting_still x [] seen = tt
visiting_still x (w ∷ left) seen = tt

took_still : (f : Fixed) (i : ℕ) (x : Receiver) (v : Way) (a : Message) (left : List Way) (seen : Bool) → IsStill (took f i x v a left seen)
took_still f i x v a left seen =
    either_still (is_client x.role) (if a.request == x.request then Ended (Receives x v a) else stale f i x v a left seen)
    (if f.limits.fire_and_forget then Ended (Receives x v a) else Judging x v a left seen)
    (either_still (a.request == x.request) (Ended (Receives x v a)) (stale f i x v a left seen) tt
    (either_still (forgot_port f i v.sender) (Again x v left seen) (Stale x v a left seen) tt tt))
    (either_still f.limits.fire_and_forget (Ended (Receives x v a)) (Judging x v a left seen) tt tt)

-- one moment after another, no request state changes
abbrev StillThen : State → State → Doing → Type 0
StillThen s t d = IsStill d × ((w : Way) → t.request_state w ≡ s.request_state w)

next_still : (s : State) (i : ℕ) (d : Doing) (a : Moment) → IsStill d → (next s i d a).condition → StillThen s (moved s a) (next s i d a).after
next_still s i (Loaning copies h left) (GetBack w k) p c = (p, λ v. refl)
next_still s i (Loaning copies h left) (SeesNoneBack w) p c =
    (resting_is_still _ (loaning_rests s copies h (without_way w left) p), λ v. refl)
next_still s i (Loaning copies h left) a p c = absurd c
next_still s i (Visiting x left seen) (SeesEmpty w) p c = (visiting_still x (without_way w left) seen, λ v. refl)
next_still s i (Visiting x left seen) (SeesWaiting w) p c = (visiting_still x (without_way w left) true, λ v. refl)
next_still s i (Visiting x left seen) (Take w b) p c = (took_still s.fixed i x w b left seen, λ v. refl)
next_still s i (Visiting x left seen) a p c = absurd c
next_still s i (Again x u left seen) (SeesEmpty w) p c = (visiting_still x (without_way u left) seen, λ v. refl)
next_still s i (Again x u left seen) (Take w b) p c = (took_still s.fixed i x u b left seen, λ v. refl)
next_still s i (Again x u left seen) a p c = absurd c
next_still s i (Judging x u b left seen) (Look w shown) p c =
    (either_still (names shown b.request) (Ended (Receives x u b)) (Stale x u b left seen) tt tt, λ v. refl)
next_still s i (Judging x u b left seen) a p c = absurd c
next_still s i (Stale x u b left seen) (GiveBack w k) p c = (tt, λ v. refl)
next_still s i (Stale x u b left seen) a p c = absurd c
next_still s i (Ended o) a p c = absurd c
next_still s i d a p c = absurd p

by_still : (s : State) (i : ℕ) (d : Doing) (ms : List Moment) → IsStill d → MayCome s i d ms → StillThen s (moved_by s ms) (left_by s i d ms)
by_still s i d [] p may = (p, λ w. refl)
by_still s i d (a ∷ ms) p may =
    let first : StillThen s (moved s a) (next s i d a).after = next_still s i d a p may.1 in
    let rest : StillThen (moved s a) (moved_by s (a ∷ ms)) (left_by s i d (a ∷ ms)) = by_still (moved s a) i (next s i d a).after ms first.0 may.2 in
    (rest.0, λ w. rest.1 w ∙ first.1 w)

-- ---- begin and end

-- whether the call is a loan, a write or a receive
abbrev stays_open : Call → Bool
stays_open (Receive n) = true
stays_open call = rests call

begins_still : (s : State) (c : Choice) (call : Call) (x : Option Subject) → stays_open call ≡ true
    → IsStill (option_map_or (begins_at s c call) x (refused UnknownNumber))
begins_still s c (Receive n) None e = tt
begins_still s c (Receive n) (Some (ThePort p)) e =
    visiting_still (record { port = p.number; role = Server; lane = 0; request = 0 }) (server_ways s.fixed p) false
begins_still s c (Receive n) (Some (TheHandle h)) e =
    visiting_still (record { port = h.port; role = Client; lane = h.lane; request = h.request }) (pending_ways s.fixed h) false
begins_still s c call x e = resting_is_still (option_map_or (begins_at s c call) x (refused UnknownNumber)) (at_rests s c call x e)

ended_leaves : (s : State) (d : Doing) (o : Outcome) → IsStill d → ends s d ≡ Some o → Leaves o
ended_leaves s (Ended a) o p e = subst Leaves (some-is a o e) p
ended_leaves s (Loaning copies h left) o p e = none-some o e
ended_leaves s (Visiting x left seen) o p e = none-some o e
ended_leaves s (Again x v left seen) o p e = none-some o e
ended_leaves s (Judging x v a left seen) o p e = none-some o e
ended_leaves s (Stale x v a left seen) o p e = none-some o e
ended_leaves s d o p e = absurd p

-- request states and ports are as they were
pub record StaysOpen (s t : State) : Type 0 where
  pub states : (w : Way) → t.request_state w ≡ s.request_state w
  pub ports : t.fixed.ports ≡ s.fixed.ports

settled_stays : (s : State) (i : ℕ) (payload : List ℕ) (o : Outcome) → Leaves o → StaysOpen s (settled s i payload o)
settled_stays s i payload (Tells reply) p =
    either (StaysOpen s) (is_nothing reply) (with_fixed s (called s.fixed)) s (λ u. record { states = λ w. refl; ports = refl })
    (λ u. record { states = λ w. refl; ports = refl })
settled_stays s i payload (Loans h) p = record { states = λ w. refl; ports = (numbered_has s.fixed i).ports }
settled_stays s i payload (Fills h) p = record { states = λ w. refl; ports = refl }
settled_stays s i payload (Receives x w a) p = record { states = λ v. refl; ports = (numbered_has s.fixed i).ports }
settled_stays s i payload o p = absurd p

-- ---- the whole call

done_stays : (s t : State) (node : ℕ) (call : Call) (reply : Reply) → stays_open call ≡ true → IsDone s node call reply t → StaysOpen s t
done_stays s t node call reply e done =
    let d : Doing = start s node done.0 call in
    let u : State = moved_by s done.2 in
    let q : StillThen s u (left_by s node d done.2) = by_still s node d done.2 (begins_still s done.0 call (subject s.fixed node (number_of call)) e) done.3 in
    let r : StaysOpen u (settled u node done.6 done.4) = settled_stays u node done.6 done.4 (ended_leaves u (left_by s node d done.2) done.4 q.0 done.5) in
    subst (StaysOpen s) (sym done.9)
    (record { states = λ w. r.states w ∙ q.1 w; ports = r.ports ∙ ap (λ (f : Fixed). f.ports) (moved_by-fixed s done.2) })

unless_stays : (q : Option Refusal) (s t : State) (reply : Reply) (P : Type 0) → (P → StaysOpen s t) → UnlessRefused q s reply t P → StaysOpen s t
unless_stays (Some r) s t reply P f p = subst (StaysOpen s) (sym p.1) (record { states = λ w. refl; ports = refl })
unless_stays None s t reply P f p = f p

pub whole_stays : (s t : State) (node : ℕ) (call : Call) (reply : Reply) → stays_open call ≡ true → IsWholeCall s node call reply t → StaysOpen s t
whole_stays s t node call reply e =
    unless_stays (misnamed s.fixed node call) s t reply (UnlessRefused (spent s.fixed call) s reply t (IsDone s node call reply t))
    (unless_stays (spent s.fixed call) s t reply (IsDone s node call reply t) (done_stays s t node call reply e))

-- ---- of a hub

-- who is connected as a client, in a hub and in the state that it shows
pub clients_are : (h : HubState) → map (λ (p : Port). p.number) (filter (λ (p : Port). same_role p.role Client) (shown h).fixed.ports) ≡ numbers_of_role Client h.control.tables.ports
clients_are h = roles_are (given_by (nothing_given h) h) h.control.tables.ports Client

pub same_clients : (old new : HubState) → (shown new).fixed.ports ≡ (shown old).fixed.ports
    → numbers_of_role Client new.control.tables.ports ≡ numbers_of_role Client old.control.tables.ports
same_clients old new same =
    sym (clients_are new) ∙ ap (λ (ps : List Port). map (λ (p : Port). p.number) (filter (λ (p : Port). same_role p.role Client) ps)) same ∙ clients_are old

-- A loan, a write or a receive leaves each request open where it was.
pub keeps_open : (old new : HubState) (node : ℕ) (call : Call) (reply : Reply) → stays_open call ≡ true
    → ((x : Given) → IsWholeCall (state_of_hub x old) node call reply (state_of_hub x new)) → KeepsOpen old new
keeps_open old new node call reply e whole asker server =
    let r : StaysOpen (shown old) (shown new) = whole_stays (shown old) (shown new) node call reply e (whole (nothing_given old)) in
    ap₂ (λ (ns : List ℕ) (q : RequestState). has_number asker.port ns && names q asker.request) (same_clients old new r.ports)
    (r.states (response_way asker.port asker.lane server))

pub loan_keeps_open : (old new : HubState) (node : ℕ) (uninit : Bool) (n k : ℕ) (reply : Reply)
    → ((x : Given) → IsWholeCall (state_of_hub x old) node (loan_call uninit n k) reply (state_of_hub x new)) → KeepsOpen old new
loan_keeps_open old new node true n k reply whole = keeps_open old new node (LoanUninit n k) reply refl whole
loan_keeps_open old new node false n k reply whole = keeps_open old new node (Loan n k) reply refl whole
