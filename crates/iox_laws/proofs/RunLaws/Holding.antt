-- What is left to do in a call of a service: loans are of their port's role, sends go to the other
-- role, and what was taken came on its way, to a receiver that may have one more.
use Rattle.std.specs.Prelude.{◌≡◌, ℕ, Bool, true, false, if◌then◌else◌, ◌==◌, List, [], ◌∷◌, map, Some, None}
use Rattle.std.specs.List.{list_any}
use Rattle.std.proofs.Common.{sym, subst, ap, ◌∙◌}
use Rattle.iox_model.specs.declared.kind.Role.TheVariants.{Client, Server}
use Rattle.iox_model.specs.declared.kind.Kind.TheVariants.{ActiveRequest}
use Rattle.iox_model.specs.declared.way.Way.{Way}
use Rattle.iox_model.specs.declared.way.RequestState.{RequestState}
use Rattle.iox_model.specs.declared.reply.Refusal.TheVariants.{ExceedsMaxActiveRequests, UnableToDeliver, OutOfMemory}
use Rattle.iox_model.specs.declared.reply.Reply.TheVariants.{Answer}
use Rattle.iox_model.specs.Doings.{refused, Receiver, Sending, Outcome, Tells, Loans, Fills, Sends, FailsToSend, Receives, Drops, Doing, Ended, Loaning, Asking, Emptying, Looking, Opening, Delivering, Evicted, Visiting, Again, Judging, Stale, Closing, Returning, Leaving, Checking, Hinting, Seeking}
use Rattle.iox_model.specs.Handles.{same_kind, is_request_loan}
use Rattle.iox_model.specs.Looks.{checking, checked, hinting, is_shown}
use Rattle.iox_model.specs.Maps.{has_number, without_way}
use Rattle.iox_model.specs.Messages.{request_way, names, Message}
use Rattle.iox_model.specs.Moments.{Moment, Deliver, Evict, Take, GiveBack, GetBack, SeesEmpty, SeesWaiting, SeesFull, SeesRoom, SeesNoneBack, Open, Close, Hint, Look}
use Rattle.iox_model.specs.Outstandings.{kept, is_dry}
use Rattle.iox_model.specs.Peers.{forgot_port, others}
use Rattle.iox_model.specs.Receives.{visiting, stale, took_response, took_request, took, judged, seeking}
use Rattle.iox_model.specs.Releases.{closing, given_back}
use Rattle.iox_model.specs.Requests.{targets, to_open, opening, looking, emptying, sending_of, sends_request, is_active_spent, is_over}
use Rattle.iox_model.specs.Responses.{asked, sends, sends_response, loaning, copies}
use Rattle.iox_model.specs.Settings.{is_client, same_role}
use Rattle.iox_model.specs.declared.kind.Role.{Role}
use Rattle.iox_model.specs.States.{Port, Handle, Fixed, State}
use Rattle.iox_model.specs.Transitions.{next, ends}
use Rattle.iox_laws.proofs.WeaveLaws.CallLaws.{not-true}
use Rattle.iox_laws.proofs.WeaveLaws.MapLemmas.{either, eqb-refl, same_way-true}
use Rattle.iox_laws.proofs.WeaveLaws.WholeLemmas.{some-is}
use Rattle.iox_model.specs.Handles.{new_number}
use Rattle.iox_model.specs.Maps.{first_of, has_way}
use Rattle.iox_model.specs.Moments.{Holds}
use Rattle.iox_model.specs.Receives.{is_at_limit}
use Rattle.iox_model.specs.Requests.{is_request}
use Rattle.std.specs.Prelude.{not, ◌&&◌, nat_lt, filter}
use Rattle.std.proofs.Common.{inl, inr}
use Rattle.iox_laws.proofs.WeaveLedger.Truths.{none-some, by_cases}
use Rattle.iox_laws.proofs.WeaveLedger.Lists.{IsAmong, among-any, map-among, filter-among, number-among, without-among, first-among}
use Rattle.iox_laws.proofs.WeaveLedger.Phases.{HasOwnPorts, role-of}
use Rattle.iox_laws.proofs.WeaveLedger.Senders.{is_loan, IsMade}
use Rattle.iox_laws.proofs.WeaveLedger.Views.{role_in}
use Rattle.iox_laws.proofs.WeaveWorlds.Sound.{SoundDoing}
use Rattle.iox_laws.proofs.RunLaws.Ports.{any_at}

-- ---- what holds

abbrev pub IfCopied : Fixed → Handle → Bool → Type 0
IfCopied f h true = h.number ≡ new_number f h.node
IfCopied f h false = Unit {0}

-- a loan is its port's message, of the port's role; one that its call made has the next number
abbrev pub LoanFits : Fixed → Handle → Bool → Type 0
LoanFits f h copied = (is_loan h.kind ≡ true) × IsMade f.ports h × IfCopied f h copied

-- a connected port of the other role
abbrev pub IsOther : Fixed → Sending → ℕ → Type 0
IsOther f x n = (any_at n f.ports ≡ true) × (is_client (role_in f.ports n) ≡ not (is_request x))

abbrev pub SendFits : Fixed → Sending → Type 0
SendFits f x = LoanFits f x.loan x.copied × ((n : ℕ) → IsAmong n x.to → IsOther f x n)

abbrev pub AreTargets : Sending → List Way → Type 0
AreTargets x left = (w : Way) → IsAmong w left → IsAmong w (targets x)

-- a receiver is of its port's role, and a server receives on lane 0
abbrev pub ReceiverFits : Fixed → Receiver → Type 0
ReceiverFits f x = (is_client x.role ≡ is_client (role_in f.ports x.port)) × (is_client x.role ≡ false → x.lane ≡ 0)

-- the sender is gone, and its pair is no expired one
abbrev pub is_lost : List Port → (ℕ → List ℕ) → Way → Bool
is_lost ps expired y = not (any_at y.sender ps) && not (has_number y.sender (expired y.receiver))

-- the message is its sender's, of a pair that is there, and a response is on its lane
abbrev pub TookFits : Fixed → Receiver → Way → Message → Type 0
TookFits f x w m =
    (m.sender ≡ w.sender) × (is_client x.role ≡ true → m.lane ≡ w.lane)
    × (is_lost f.ports f.expired w ≡ false) × (nat_lt w.sender f.next_number ≡ true)

abbrev pub IsBelow : Fixed → Way → Type 0
IsBelow f w = is_at_limit f w ≡ false

abbrev pub HoldsEnd : Fixed → Outcome → Type 0
HoldsEnd f (Loans h) = LoanFits f h true
HoldsEnd f (Fills h) = (is_loan h.kind ≡ true) × IsMade f.ports h
HoldsEnd f (Sends h copied count) = LoanFits f h copied
HoldsEnd f (Receives x w m) = ReceiverFits f x × TookFits f x w m × IsBelow f w
HoldsEnd f (Drops h) = IsAmong h (f.handles h.node)
HoldsEnd f o = Unit {0}

abbrev pub HoldsIn : Fixed → Doing → Type 0
HoldsIn f (Ended o) = HoldsEnd f o
HoldsIn f (Loaning copies h left) = LoanFits f h true
HoldsIn f (Asking x) = SendFits f x
HoldsIn f (Emptying x left) = SendFits f x
HoldsIn f (Looking x left full) = SendFits f x
HoldsIn f (Opening x left full) = SendFits f x
HoldsIn f (Delivering x last left count) = SendFits f x × AreTargets x left
HoldsIn f (Evicted x w left count) = SendFits f x × AreTargets x left
HoldsIn f (Visiting x left seen) = ReceiverFits f x
HoldsIn f (Again x w left seen) = ReceiverFits f x × IsBelow f w
HoldsIn f (Judging x w m left seen) = ReceiverFits f x × TookFits f x w m × IsBelow f w
HoldsIn f (Stale x w m left seen) = ReceiverFits f x × TookFits f x w m × IsBelow f w
HoldsIn f (Closing h left) = IsAmong h (f.handles h.node)
HoldsIn f (Returning h) = IsAmong h (f.handles h.node)
HoldsIn f (Leaving h) = IsAmong h (f.handles h.node)
HoldsIn f d = Unit {0}

-- ---- sends and loans

opening_holds : (f : Fixed) (x : Sending) (left full : List Way) → SendFits f x → HoldsIn f (opening x left full)
opening_holds f x [] full p = (p, λ w among. (filter-among (λ v. not (has_way v full)) w (targets x) among).0)
opening_holds f x (w ∷ left) full p = p

looking_holds : (f : Fixed) (x : Sending) (left full : List Way) → SendFits f x → HoldsIn f (looking x left full)
looking_holds f x [] full p =
    either (HoldsIn f) (list_any x.fails full) (Ended (FailsToSend x.loan x.copied UnableToDeliver)) (opening x (to_open x) full) (λ u. tt)
    (λ u. opening_holds f x (to_open x) full p)
looking_holds f x (w ∷ left) full p = p

emptying_holds : (f : Fixed) (x : Sending) (left : List Way) → SendFits f x → HoldsIn f (emptying x left)
emptying_holds f x [] p =
    either (HoldsIn f) x.overflow (opening x (to_open x) []) (looking x (targets x) []) (λ u. opening_holds f x (to_open x) [] p)
    (λ u. looking_holds f x (targets x) [] p)
emptying_holds f x (w ∷ left) p = p

asked_holds : (f : Fixed) (x : Sending) (shown : RequestState) → SendFits f x → HoldsIn f (asked x shown)
asked_holds f x shown p =
    either (HoldsIn f) (names shown x.loan.request) (emptying x (targets x)) (Ended (Sends x.loan x.copied 0)) (λ u. emptying_holds f x (targets x) p)
    (λ u. p.0)

-- those of a role are connected, and have it
others_are : (f : Fixed) (node n : ℕ) (role : Role) → HasOwnPorts f → IsAmong n (others f node role)
    → (any_at n f.ports ≡ true) × (is_client (role_in f.ports n) ≡ is_client role)
others_are f node n role own among =
    let test : Port → Bool = λ p. not (has_number p.node (f.forgot node)) in
    let q : (p : Port) × IsAmong p (filter (λ p. same_role p.role role && test p) f.ports) × (n ≡ p.number)
    = map-among (λ (p : Port). p.number) n (filter (λ p. same_role p.role role && test p) f.ports) among in (
      among-any (λ p. p.number == n) q.0 f.ports (filter-among (λ p. same_role p.role role && test p) q.0 f.ports q.1).0
          (subst (λ k. ((q.0).number == k) ≡ true) (sym q.2) (eqb-refl (q.0).number)),
      role-of f n role test own among,
    )

pub sends_holds : (f : Fixed) (h : Handle) (copied : Bool) → HasOwnPorts f → LoanFits f h copied → HoldsIn f (sends f h copied)
sends_holds f h copied own p =
    let to : List ℕ = others f h.node Server in
    either (HoldsIn f) (is_request_loan h.kind) (sends_request f h copied to) (sends_response f h copied)
    (λ request. either (HoldsIn f) (is_active_spent f h) (Ended (FailsToSend h copied ExceedsMaxActiveRequests))
    (emptying (sending_of f h copied to) (map (request_way h.port) to)) (λ v. tt)
    (λ v. emptying_holds f (sending_of f h copied to) (map (request_way h.port) to) (
      p,
      λ n among.
          let q : (any_at n f.ports ≡ true) × (is_client (role_in f.ports n) ≡ false) = others_are f h.node n Server own among in
          (q.0, q.1 ∙ sym (ap not request)),
    )))
    (λ response. either (HoldsIn f) (has_number h.client (others f h.node Client)) (Asking (sending_of f h copied (h.client ∷ []))) (Ended (Sends h copied 0))
    (λ there. (
      p,
      λ n among. elim among as (λ u. IsOther f (sending_of f h copied (h.client ∷ [])) n) [
        | inl e ↦
            let q : (any_at h.client f.ports ≡ true) × (is_client (role_in f.ports h.client) ≡ true)
            = others_are f h.node h.client Client own (number-among h.client (others f h.node Client) there) in
            (ap (λ k. any_at k f.ports) e ∙ q.0, ap (λ k. is_client (role_in f.ports k)) e ∙ q.1 ∙ sym (ap not response))
        | inr a ↦ absurd a
      ],
    )) (λ v. p))

pub loaning_holds : (s : State) (copies : Bool) (h : Handle) (left : List Way) → HasOwnPorts s.fixed → LoanFits s.fixed h true
    → HoldsIn s.fixed (loaning s copies h left)
loaning_holds s copies h [] own p =
    either (HoldsIn s.fixed) (is_dry s.fixed h.port (kept s h.port [])) (refused OutOfMemory)
    (if copies then sends s.fixed h true else Ended (Loans h)) (λ u. tt)
    (λ u. either (HoldsIn s.fixed) copies (sends s.fixed h true) (Ended (Loans h)) (λ v. sends_holds s.fixed h true own p) (λ v. p))
loaning_holds s copies h (w ∷ left) own p = p

-- ---- receives

pub visiting_holds : (f : Fixed) (x : Receiver) (left : List Way) (seen : Bool) → ReceiverFits f x → HoldsIn f (visiting x left seen)
visiting_holds f x [] seen p = tt
visiting_holds f x (w ∷ left) seen p = p

took_holds : (f : Fixed) (node : ℕ) (x : Receiver) (w : Way) (m : Message) (left : List Way) (seen : Bool)
    → ReceiverFits f x → TookFits f x w m → IsBelow f w → HoldsIn f (took f node x w m left seen)
took_holds f node x w m left seen p q below =
    either (HoldsIn f) (is_client x.role) (took_response f node x w m left seen) (took_request f x w m left seen)
    (λ u. either (HoldsIn f) (m.request == x.request) (Ended (Receives x w m)) (stale f node x w m left seen) (λ v. (p, q, below))
    (λ v. either (HoldsIn f) (forgot_port f node w.sender) (Again x w left seen) (Stale x w m left seen) (λ k. (p, below)) (λ k. (p, q, below))))
    (λ u. either (HoldsIn f) f.limits.fire_and_forget (Ended (Receives x w m)) (Judging x w m left seen) (λ v. (p, q, below)) (λ v. (p, q, below)))

judged_holds : (f : Fixed) (x : Receiver) (w : Way) (m : Message) (left : List Way) (seen : Bool) (shown : RequestState)
    → ReceiverFits f x → TookFits f x w m → IsBelow f w → HoldsIn f (judged x w m left seen shown)
judged_holds f x w m left seen shown p q below =
    either (HoldsIn f) (names shown m.request) (Ended (Receives x w m)) (Stale x w m left seen) (λ u. (p, q, below)) (λ u. (p, q, below))

-- ---- the others

pub closing_holds : (f : Fixed) (h : Handle) (left : List Way) → IsAmong h (f.handles h.node) → HoldsIn f (closing h left)
closing_holds f h [] p = p
closing_holds f h (w ∷ left) p = p

given_back_holds : (f : Fixed) (h : Handle) → IsAmong h (f.handles h.node) → HoldsIn f (given_back h)
given_back_holds f h p = either (HoldsIn f) (same_kind h.kind ActiveRequest) (Leaving h) (Ended (Drops h)) (λ u. p) (λ u. p)

pub checking_holds : (f : Fixed) (h : Handle) (hinted : Bool) (left : List Way) → HoldsIn f (checking h hinted left)
checking_holds f h hinted [] = tt
checking_holds f h hinted (w ∷ left) = tt

checked_holds : (f : Fixed) (h : Handle) (hinted : Bool) (left : List Way) (w : Way) (shown : RequestState) → HoldsIn f (checked h hinted left w shown)
checked_holds f h hinted left w shown =
    either (HoldsIn f) (is_shown h hinted shown) (Ended (Tells (Answer true))) (checking h hinted (without_way w left)) (λ u. tt)
    (λ u. checking_holds f h hinted (without_way w left))

pub hinting_holds : (f : Fixed) (h : Handle) (left : List Way) → HoldsIn f (hinting h left)
hinting_holds f h [] = tt
hinting_holds f h (w ∷ left) = tt

pub seeking_holds : (f : Fixed) (left : List Way) → HoldsIn f (seeking left)
seeking_holds f [] = tt
seeking_holds f (w ∷ left) = tt

-- ---- what waits

-- a message that waits is its sender's, a response is on its lane, a sender that is there is of the
-- other role; and the pair is there, and its receiver
pub record WaitFits (ps : List Port) (next : ℕ) (expired : ℕ → List ℕ) (y : Way) (m : Message) : Type 0 where
  pub sender : m.sender ≡ y.sender
  pub lane : is_client (role_in ps y.receiver) ≡ true → m.lane ≡ y.lane
  pub role : any_at y.sender ps ≡ true → is_client (role_in ps y.sender) ≡ not (is_client (role_in ps y.receiver))
  pub kept : is_lost ps expired y ≡ false
  pub below : nat_lt y.sender next ≡ true
  pub there : any_at y.receiver ps ≡ true

abbrev pub WaitsFit : State → Type 0
WaitsFit s = (y : Way) (m : Message) → IsAmong m (s.waiting y) → WaitFits s.fixed.ports s.fixed.next_number s.fixed.expired y m

taken_fits : (s : State) (x : Receiver) (w : Way) (m : Message) → WaitsFit s → first_of (s.waiting w) ≡ Some m → ReceiverFits s.fixed x → w.receiver ≡ x.port
    → TookFits s.fixed x w m
taken_fits s x w m waits first p to =
    let q : WaitFits s.fixed.ports s.fixed.next_number s.fixed.expired w m = waits w m (first-among m (s.waiting w) first) in
    (q.sender, λ client. q.lane (ap (λ k. is_client (role_in s.fixed.ports k)) to ∙ sym p.0 ∙ client), q.kept, q.below)

-- ---- a moment

pub moved_holds : (s : State) (node : ℕ) (d : Doing) (m : Moment) → HasOwnPorts s.fixed → WaitsFit s → SoundDoing s node d → Holds s m → HoldsIn s.fixed d
    → (next s node d m).condition → HoldsIn s.fixed (next s node d m).after
moved_holds s node (Ended o) m own waits fits h p c = absurd c
moved_holds s node (Loaning copies l left) (GetBack w k) own waits fits h p c = p
moved_holds s node (Loaning copies l left) (SeesNoneBack w) own waits fits h p c = loaning_holds s copies l (without_way w left) own p
moved_holds s node (Loaning copies l left) m own waits fits h p c = absurd c
moved_holds s node (Asking x) (Look w shown) own waits fits h p c = asked_holds s.fixed x shown p
moved_holds s node (Asking x) m own waits fits h p c = absurd c
moved_holds s node (Emptying x left) (GetBack w k) own waits fits h p c = p
moved_holds s node (Emptying x left) (SeesNoneBack w) own waits fits h p c = emptying_holds s.fixed x (without_way w left) p
moved_holds s node (Emptying x left) m own waits fits h p c = absurd c
moved_holds s node (Looking x left full) (SeesFull w) own waits fits h p c = looking_holds s.fixed x (without_way w left) (w ∷ full) p
moved_holds s node (Looking x left full) (SeesRoom w) own waits fits h p c = looking_holds s.fixed x (without_way w left) full p
moved_holds s node (Looking x left full) m own waits fits h p c = absurd c
moved_holds s node (Opening x left full) (Open w id) own waits fits h p c = opening_holds s.fixed x (without_way w left) full p
moved_holds s node (Opening x left full) m own waits fits h p c = absurd c
moved_holds s node (Delivering x last left count) (Deliver w m) own waits fits h p c = (p.0, λ v among. p.1 v (without-among w v left among))
moved_holds s node (Delivering x last left count) (Evict w) own waits fits h p c = p
moved_holds s node (Delivering x last left count) m own waits fits h p c = absurd c
moved_holds s node (Evicted x v left count) (GetBack w k) own waits fits h p c = p
moved_holds s node (Evicted x v left count) m own waits fits h p c = absurd c
moved_holds s node (Visiting x left seen) (SeesEmpty w) own waits fits h p c = visiting_holds s.fixed x (without_way w left) seen p
moved_holds s node (Visiting x left seen) (SeesWaiting w) own waits fits h p c = visiting_holds s.fixed x (without_way w left) true p
moved_holds s node (Visiting x left seen) (Take w m) own waits fits h p c =
    took_holds s.fixed node x w m left seen p (taken_fits s x w m waits h p (fits.2 w c.0).0) (not-true (is_at_limit s.fixed w) c.1)
moved_holds s node (Visiting x left seen) m own waits fits h p c = absurd c
moved_holds s node (Again x v left seen) (SeesEmpty w) own waits fits h p c = visiting_holds s.fixed x (without_way v left) seen p.0
moved_holds s node (Again x v left seen) (Take w m) own waits fits h p c =
    let same : w ≡ v = same_way-true w v c in
    took_holds s.fixed node x v m left seen p.0
    (taken_fits s x v m waits (subst (λ u. first_of (s.waiting u) ≡ Some m) same h) p.0 (fits.1).0) p.1
moved_holds s node (Again x v left seen) m own waits fits h p c = absurd c
moved_holds s node (Judging x v n left seen) (Look w shown) own waits fits h p c = judged_holds s.fixed x v n left seen shown p.0 p.1 p.2
moved_holds s node (Judging x v n left seen) m own waits fits h p c = absurd c
moved_holds s node (Stale x v n left seen) (GiveBack w k) own waits fits h p c = (p.0, p.2)
moved_holds s node (Stale x v n left seen) m own waits fits h p c = absurd c
moved_holds s node (Closing l left) (Close w id) own waits fits h p c = closing_holds s.fixed l (without_way w left) p
moved_holds s node (Closing l left) m own waits fits h p c = absurd c
moved_holds s node (Returning l) (GiveBack w k) own waits fits h p c = given_back_holds s.fixed l p
moved_holds s node (Returning l) m own waits fits h p c = absurd c
moved_holds s node (Leaving l) (Look w shown) own waits fits h p c = p
moved_holds s node (Leaving l) (Close w id) own waits fits h p c = p
moved_holds s node (Leaving l) m own waits fits h p c = absurd c
moved_holds s node (Checking l hinted left) (Look w shown) own waits fits h p c = checked_holds s.fixed l hinted left w shown
moved_holds s node (Checking l hinted left) m own waits fits h p c = absurd c
moved_holds s node (Hinting l left) (Hint w id) own waits fits h p c = hinting_holds s.fixed l (without_way w left)
moved_holds s node (Hinting l left) (Look w shown) own waits fits h p c = hinting_holds s.fixed l (without_way w left)
moved_holds s node (Hinting l left) m own waits fits h p c = absurd c
moved_holds s node (Seeking left) (SeesEmpty w) own waits fits h p c = seeking_holds s.fixed (without_way w left)
moved_holds s node (Seeking left) (SeesWaiting w) own waits fits h p c = tt
moved_holds s node (Seeking left) m own waits fits h p c = absurd c

-- ---- the end

pub ended_holds : (s : State) (d : Doing) (o : Outcome) → ends s d ≡ Some o → HoldsIn s.fixed d → HoldsEnd s.fixed o
ended_holds s (Ended a) o e p = subst (HoldsEnd s.fixed) (some-is a o e) p
ended_holds s (Delivering x last [] count) o e p =
    by_cases (is_over s last) (λ over. none-some o (sym (ap (λ (b : Bool). if b then None else Some (Sends x.loan x.copied count)) over) ∙ e))
    (λ no. subst (HoldsEnd s.fixed)
    (some-is (Sends x.loan x.copied count) o (sym (ap (λ (b : Bool). if b then None else Some (Sends x.loan x.copied count)) no) ∙ e)) p.0.0)
ended_holds s (Delivering x last (v ∷ left) count) o e p = none-some o e
ended_holds s d o e p = none-some o e
