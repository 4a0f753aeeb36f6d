-- Between calls nothing is in a sender's hand, and in a hub nobody is forgotten; what a call sends or
-- fills is a handle that stands there.
use Rattle.std.specs.Prelude.{◌≡◌, ℕ, ◌+◌, ◌-◌, Bool, true, false, List, [], ◌∷◌, map, take, Some, None, refl}
use Rattle.std.specs.Option.{option_map_or}
use Rattle.std.proofs.Common.{sym, subst, ap, ◌∙◌, true≢false}
use Rattle.iox_model.specs.declared.call.Call.TheVariants.{Loan, LoanUninit, Write, Send, SendCopy, Receive}
use Rattle.iox_model.specs.declared.reply.Refusal.TheVariants.{UnknownNumber}
use Rattle.iox_model.specs.declared.way.Way.{Way}
use Rattle.iox_model.specs.Begins.{begins_at, start}
use Rattle.iox_model.specs.Commands.{Reply, Call, number_of}
use Rattle.iox_model.specs.Counts.{added, changed, dropped, numbered, lent, called, gives_up, with_fixed, sent_handle}
use Rattle.iox_model.specs.Doings.{refused, Outcome, Tells, Loans, Fills, Sends, FailsToSend, Receives, Drops, DropsPort, Forgets, Doing, Ended, Loaning, Asking, Emptying, Looking, Opening, Delivering, Evicted, Visiting, Again, Judging, Stale, Closing, Returning, Leaving, Checking, Hinting, Seeking}
use Rattle.iox_model.specs.Ends.{sent_loan, is_nothing, port_dropped, settled}
use Rattle.iox_model.specs.Expiries.{disconnected, is_end, is_last_gone, released}
use Rattle.iox_model.specs.Handles.{handle_at, is_request_loan, is_received, subject, way_of, Subject, TheHandle}
use Rattle.iox_model.specs.Loans.{Choice}
use Rattle.iox_model.specs.Maps.{put, put_at, same_way}
use Rattle.iox_model.specs.Messages.{serials_of}
use Rattle.iox_model.specs.Moments.{moved, Moment, Deliver, Evict, Take, GiveBack, GetBack, SeesEmpty, SeesWaiting, SeesFull, SeesRoom, SeesNoneBack, Open, Close, Hint, Look}
use Rattle.iox_model.specs.Names.{misnamed}
use Rattle.iox_model.specs.Peers.{port_at}
use Rattle.iox_model.specs.Runs.{IsReachableState}
use Rattle.iox_model.specs.States.{Handle, Fixed, State}
use Rattle.iox_model.specs.Transitions.{next, ends}
use Rattle.iox_model.specs.WholeCalls.{moved_by, left_by, MayCome, IsDone}
use Rattle.iox_laws.proofs.WeaveLaws.MapLemmas.{either, put-else, same_way-true}
use Rattle.iox_laws.proofs.WeaveLaws.WholeLemmas.{moved_by-fixed}
use Rattle.iox_laws.proofs.WeaveLedger.Lists.{IsAmong}
use Rattle.iox_laws.proofs.WeaveLedger.Starts.{named-by, IsNamedBy}
use Rattle.iox_laws.proofs.WeaveLedger.Truths.{none-some}
use Rattle.iox_laws.proofs.WeaveWorlds.Fillings.{named_among}
use Rattle.iox_laws.proofs.WeaveWorlds.Inductions.{IsKept, reached_keeps}
use Rattle.iox_laws.proofs.RunLaws.Ports.{any_at, any_dropped}
use Rattle.iox_laws.proofs.RunLaws.Rests.{Rests}
use Rattle.iox_laws.proofs.RunLaws.Runs.{calm_kept, created_calm}
use Rattle.iox_laws.proofs.RunLaws.Settling.{Calm}
use Rattle.iox_laws.specs.ServiceLaws.Refusing.{port_of}
use Rattle.iox_laws.proofs.ServiceLaws.Openings.{Opens, begins_told}
use Rattle.iox_laws.proofs.ServiceLaws.Releasing.{handle_found}
use Rattle.iox_laws.proofs.ServiceLaws.Stories.{Story, ToldEnd, Told, told_by, told_ends}

-- ---- whatever a call does

-- a handle of that number and port stands there
abbrev pub Stands : Fixed → Handle → Type 0
Stands f h = (k : Handle) × IsAmong k (f.handles h.node) × (k.number ≡ h.number) × (k.port ≡ h.port)

abbrev pub SentStands : Fixed → ℕ → Handle → Bool → Type 0
SentStands f port h copied = (h.port ≡ port) × (copied ≡ false → Stands f h)

-- nothing is told but of the loans that it sends and fills
abbrev pub any_story : (f : Fixed) (port : ℕ) → Story port
any_story f port = record {
  leaves = λ r u. Unit {0};
  got = λ u. Unit {0};
  dropped = λ u. Unit {0};
  taken = λ w m u. Unit {0};
  lends = Unit {0};
  sent = SentStands f port;
  filled = Stands f;
  own = λ h copied p. p.0;
  gets = λ u w k from holds p. tt;
  takes = λ u w m holds p. tt;
  gives = λ u w m at p. tt;
  skips = λ u node w m at e p. tt;
  dry = λ u l p. tt;
  active = λ u h p q. tt;
  unable = λ u h copied p q. tt;
  borrowed = λ u p. tt;
}

any_opens : (s : State) (call : Call) (x : Subject) → ((h : Handle) → x ≡ TheHandle h → Stands s.fixed h)
    → Opens (port_of x) (any_story s.fixed (port_of x)) s call x
any_opens s (Loan n k) x stands = (refl, tt, tt)
any_opens s (LoanUninit n k) x stands = (refl, tt, tt)
any_opens s (SendCopy n p) x stands = (refl, tt, tt, λ h own. (own, λ e. absurd (true≢false e)))
any_opens s (Send n) (TheHandle h) stands = (tt, (refl, λ e. stands h refl), tt)
any_opens s (Write n p) (TheHandle h) stands = λ words. stands h refl
any_opens s (Receive n) x stands = (refl, tt)
any_opens s call x stands = tt

pub subject_stands : (s : State) (node n : ℕ) (x : Subject) → Rests s.fixed → subject s.fixed node n ≡ Some x → (h : Handle) → x ≡ TheHandle h
    → Stands s.fixed h
subject_stands s node n x r is h same =
    let at : IsAmong h (s.fixed.handles node) × (h.number ≡ n)
    = named_among s.fixed node n h (handle_found n (port_at s.fixed n) (handle_at s.fixed node n) h (is ∙ ap (λ y. Some y) same)) in
    (h, subst (λ k. IsAmong h (s.fixed.handles k)) (sym ((r.handles node).each h at.0).of_node) at.0, refl, refl)

-- so it begins, and so it ends
pub done_begins : (s : State) (node : ℕ) (call : Call) (c : Choice) → Calm s → misnamed s.fixed node call ≡ None
    → (port : ℕ) × Told port (any_story s.fixed port) s (start s node c call)
done_begins s node call c r named =
    let x : IsNamedBy s.fixed node call (subject s.fixed node (number_of call)) = named-by s.fixed node call (subject s.fixed node (number_of call)) named in
    let y : Story (port_of x.named) = any_story s.fixed (port_of x.named) in (
      port_of x.named,
      subst (λ o. Told (port_of x.named) y s (option_map_or (begins_at s c call) o (refused UnknownNumber))) (sym x.is)
          (begins_told (port_of x.named) y s c call x.named (λ q p. tt)
          (any_opens s call x.named (subject_stands s node (number_of call) x.named ((r.rests).fixed) x.is))),
    )

pub done_told : (s : State) (node : ℕ) (call : Call) (reply : Reply) (t : State) → Calm s → misnamed s.fixed node call ≡ None
    → (d : IsDone s node call reply t) → (port : ℕ) × ToldEnd port (any_story s.fixed port) (moved_by s d.2) d.4
done_told s node call reply t r named d =
    let b : (port : ℕ) × Told port (any_story s.fixed port) s (start s node d.0 call) = done_begins s node call d.0 r named in
    let y : Story b.0 = any_story s.fixed b.0 in
    let first : Doing = start s node d.0 call in
    (b.0, told_ends b.0 y (moved_by s d.2) (left_by s node first d.2) d.4 (told_by b.0 y s node first d.2 b.1 d.3) d.5)

-- ---- what is in hand

abbrev pub NoneInHand : State → Type 0
NoneInHand u = (w : Way) → u.in_hand w ≡ []

-- but for the way on which it evicted last
abbrev InHand : State → Doing → Type 0
InHand u (Evicted x v left count) = (w : Way) → same_way w v ≡ false → u.in_hand w ≡ []
InHand u d = NoneInHand u

none_is : (u : State) (d : Doing) → NoneInHand u → InHand u d
none_is u (Evicted x v left count) p = λ w other. p w
none_is u d p = p

taken_back : (u : State) (w : Way) (k : ℕ) → ((v : Way) → same_way v w ≡ false → u.in_hand v ≡ []) → NoneInHand (moved u (GetBack w k))
taken_back u w k p v = either (λ (xs : List ℕ). xs ≡ []) (same_way v w) [] (u.in_hand v) (λ e. refl) (p v)

-- of a call that evicted nothing
quiet_moved : (u : State) (node : ℕ) (d : Doing) (m : Moment) → NoneInHand u → (next u node d m).condition → InHand (moved u m) (next u node d m).after
quiet_moved u node (Delivering x last left count) (Evict w) p c =
    λ v other. put-else u.in_hand w (serials_of (take 1 (u.waiting w))) v other ∙ p v
quiet_moved u node d (GetBack w k) p c = none_is (moved u (GetBack w k)) (next u node d (GetBack w k)).after (taken_back u w k (λ v e. p v))
quiet_moved u node (Ended o) (Evict w) p c = absurd c
quiet_moved u node (Loaning copies h left) (Evict w) p c = absurd c
quiet_moved u node (Asking x) (Evict w) p c = absurd c
quiet_moved u node (Emptying x left) (Evict w) p c = absurd c
quiet_moved u node (Looking x left full) (Evict w) p c = absurd c
quiet_moved u node (Opening x left full) (Evict w) p c = absurd c
quiet_moved u node (Evicted x v left count) (Evict w) p c = absurd c
quiet_moved u node (Visiting x left seen) (Evict w) p c = absurd c
quiet_moved u node (Again x v left seen) (Evict w) p c = absurd c
quiet_moved u node (Judging x v m left seen) (Evict w) p c = absurd c
quiet_moved u node (Stale x v m left seen) (Evict w) p c = absurd c
quiet_moved u node (Closing h left) (Evict w) p c = absurd c
quiet_moved u node (Returning h) (Evict w) p c = absurd c
quiet_moved u node (Leaving h) (Evict w) p c = absurd c
quiet_moved u node (Checking h hinted left) (Evict w) p c = absurd c
quiet_moved u node (Hinting h left) (Evict w) p c = absurd c
quiet_moved u node (Seeking left) (Evict w) p c = absurd c
quiet_moved u node d (Deliver w m) p c = none_is (moved u (Deliver w m)) (next u node d (Deliver w m)).after p
quiet_moved u node d (Take w m) p c = none_is (moved u (Take w m)) (next u node d (Take w m)).after p
quiet_moved u node d (GiveBack w k) p c = none_is (moved u (GiveBack w k)) (next u node d (GiveBack w k)).after p
quiet_moved u node d (SeesEmpty w) p c = none_is u (next u node d (SeesEmpty w)).after p
quiet_moved u node d (SeesWaiting w) p c = none_is u (next u node d (SeesWaiting w)).after p
quiet_moved u node d (SeesFull w) p c = none_is u (next u node d (SeesFull w)).after p
quiet_moved u node d (SeesRoom w) p c = none_is u (next u node d (SeesRoom w)).after p
quiet_moved u node d (SeesNoneBack w) p c = none_is u (next u node d (SeesNoneBack w)).after p
quiet_moved u node d (Open w id) p c = none_is (moved u (Open w id)) (next u node d (Open w id)).after p
quiet_moved u node d (Close w id) p c = none_is (moved u (Close w id)) (next u node d (Close w id)).after p
quiet_moved u node d (Hint w id) p c = none_is (moved u (Hint w id)) (next u node d (Hint w id)).after p
quiet_moved u node d (Look w shown) p c = none_is u (next u node d (Look w shown)).after p

hand_moved : (u : State) (node : ℕ) (d : Doing) (m : Moment) → InHand u d → (next u node d m).condition → InHand (moved u m) (next u node d m).after
hand_moved u node (Evicted x v left count) (GetBack w k) p c =
    taken_back u w k (λ z other. p z (subst (λ y. same_way z y ≡ false) (same_way-true w v c) other))
hand_moved u node (Evicted x v left count) m p c = absurd c
hand_moved u node (Ended o) m p c = quiet_moved u node (Ended o) m p c
hand_moved u node (Loaning copies h left) m p c = quiet_moved u node (Loaning copies h left) m p c
hand_moved u node (Asking x) m p c = quiet_moved u node (Asking x) m p c
hand_moved u node (Emptying x left) m p c = quiet_moved u node (Emptying x left) m p c
hand_moved u node (Looking x left full) m p c = quiet_moved u node (Looking x left full) m p c
hand_moved u node (Opening x left full) m p c = quiet_moved u node (Opening x left full) m p c
hand_moved u node (Delivering x last left count) m p c = quiet_moved u node (Delivering x last left count) m p c
hand_moved u node (Visiting x left seen) m p c = quiet_moved u node (Visiting x left seen) m p c
hand_moved u node (Again x v left seen) m p c = quiet_moved u node (Again x v left seen) m p c
hand_moved u node (Judging x v n left seen) m p c = quiet_moved u node (Judging x v n left seen) m p c
hand_moved u node (Stale x v n left seen) m p c = quiet_moved u node (Stale x v n left seen) m p c
hand_moved u node (Closing h left) m p c = quiet_moved u node (Closing h left) m p c
hand_moved u node (Returning h) m p c = quiet_moved u node (Returning h) m p c
hand_moved u node (Leaving h) m p c = quiet_moved u node (Leaving h) m p c
hand_moved u node (Checking h hinted left) m p c = quiet_moved u node (Checking h hinted left) m p c
hand_moved u node (Hinting h left) m p c = quiet_moved u node (Hinting h left) m p c
hand_moved u node (Seeking left) m p c = quiet_moved u node (Seeking left) m p c

hand_by : (u : State) (node : ℕ) (d : Doing) (ms : List Moment) → InHand u d → MayCome u node d ms → InHand (moved_by u ms) (left_by u node d ms)
hand_by u node d [] p may = p
hand_by u node d (m ∷ ms) p may = hand_by (moved u m) node (next u node d m).after ms (hand_moved u node d m p may.1) may.2

hand_ends : (u : State) (d : Doing) (o : Outcome) → InHand u d → ends u d ≡ Some o → NoneInHand u
hand_ends u (Evicted x v left count) o p e = none-some o e
hand_ends u (Ended q) o p e = p
hand_ends u (Delivering x last left count) o p e = p
hand_ends u d o p e = none-some o e

-- ---- between calls

pub record Quiet (s : State) : Type 0 where
  pub hand : NoneInHand s
  pub forgot : (n : ℕ) → s.fixed.forgot n ≡ []

-- the same ports are connected, and the same nodes are forgotten
abbrev pub IsFrame : State → Fixed → Type 0
IsFrame u f = ((k : ℕ) → any_at k f.ports ≡ any_at k u.fixed.ports) × (f.forgot ≡ u.fixed.forgot)

-- What neither handles and counts nor the release of a port make false, the end of a call of a hub
-- leaves so.
pub record IsFramed (R : State → Type 0) : Type 0 where
  pub frame : (u : State) (f : Fixed) → IsFrame u f → R u → R (with_fixed u f)
  pub gone : (u : State) (port : ℕ) → R u → R (disconnected u port)

numbered_same : (u : State) (node : ℕ) → IsFrame u (numbered u.fixed node)
numbered_same u node =
    either (IsFrame u) u.fixed.on_wire (record (u.fixed) { handles_made = put_at u.fixed.handles_made node (u.fixed.handles_made node + 1) })
    (record (u.fixed) { next_number = u.fixed.next_number + 1 }) (λ e. ((λ k. refl), refl)) (λ e. ((λ k. refl), refl))

released_framed : (R : State → Type 0) → IsFramed R → (u : State) (port : ℕ) → R u → R (released u port)
released_framed R r u port q = either R (is_last_gone u.fixed port) (disconnected u port) u (λ e. r.gone u port q) (λ e. q)

pub settled_framed : (R : State → Type 0) → IsFramed R → (port : ℕ) (f : Fixed) (u : State) (node : ℕ) (payload : List ℕ) (o : Outcome)
    → ToldEnd port (any_story f port) u o → R u → R (settled u node payload o)
settled_framed R r port f u node payload (Tells reply) told q =
    either R (is_nothing reply) (with_fixed u (called u.fixed)) u (λ e. r.frame u (called u.fixed) ((λ k. refl), refl) q) (λ e. q)
settled_framed R r port f u node payload (Loans h) told q =
    r.frame u (settled u node payload (Loans h)).fixed (numbered_same u node) q
settled_framed R r port f u node payload (Fills h) told q = r.frame u (changed u.fixed h) ((λ k. refl), refl) q
settled_framed R r port f u node payload (Sends h true count) told q =
    r.frame u (settled u node payload (Sends h true count)).fixed
    (either (IsFrame u) (is_request_loan h.kind) (added (numbered u.fixed h.node) (sent_handle h count)) u.fixed
    (λ e. numbered_same u h.node) (λ e. ((λ k. refl), refl))) q
settled_framed R r port f u node payload (Sends h false count) told q =
    let t : State = sent_loan u h count in
    let p : R t
    = either R (is_request_loan h.kind) (with_fixed u (changed u.fixed (sent_handle h count))) (released (with_fixed u (dropped u.fixed h)) h.port)
    (λ e. r.frame u (changed u.fixed (sent_handle h count)) ((λ k. refl), refl) q)
    (λ e. released_framed R r (with_fixed u (dropped u.fixed h)) h.port (r.frame u (dropped u.fixed h) ((λ k. refl), refl) q)) in
    r.frame t (called t.fixed) ((λ k. refl), refl) p
settled_framed R r port f u node payload (FailsToSend h true refusal) told q = r.frame u (called (lent u.fixed h.port)) ((λ k. refl), refl) q
settled_framed R r port f u node payload (FailsToSend h false refusal) told q =
    released_framed R r (with_fixed u (dropped u.fixed h)) h.port (r.frame u (dropped u.fixed h) ((λ k. refl), refl) q)
settled_framed R r port f u node payload (Receives x w m) told q =
    r.frame u (settled u node payload (Receives x w m)).fixed (numbered_same u node) q
settled_framed R r port f u node payload (Drops h) told q =
    released_framed R r (with_fixed u (gives_up (dropped u.fixed h) h)) h.port
    (r.frame u (gives_up (dropped u.fixed h) h)
    (either (IsFrame u) (is_received h.kind)
    (record (dropped u.fixed h) { borrowed = put u.fixed.borrowed (way_of h) (u.fixed.borrowed (way_of h) - 1) }) (dropped u.fixed h)
    (λ e. ((λ k. refl), refl)) (λ e. ((λ k. refl), refl))) q)
settled_framed R r port f u node payload (DropsPort n) told q =
    released_framed R r (with_fixed u (record (u.fixed) { ports = map (port_dropped n) u.fixed.ports })) n
    (r.frame u (record (u.fixed) { ports = map (port_dropped n) u.fixed.ports }) ((λ k. any_dropped n k u.fixed.ports), refl) q)
settled_framed R r port f u node payload (Forgets dead) told q = absurd told

quiet_framed : IsFramed Quiet
quiet_framed = record {
  frame = λ u f same q. record { hand = q.hand; forgot = λ n. ap (λ (g : ℕ → List ℕ). g n) same.1 ∙ q.forgot n };
  gone = λ u port q. record {
    hand = λ w. either (λ (xs : List ℕ). xs ≡ []) (is_end port w) [] (u.in_hand w) (λ v. refl) (λ v. q.hand w);
    forgot = q.forgot;
  };
}

done_quiet : (s : State) (node : ℕ) (call : Call) (reply : Reply) (t : State) → Calm s → misnamed s.fixed node call ≡ None
    → (d : IsDone s node call reply t) → Quiet s → Quiet t
done_quiet s node call reply t r named d q =
    let told : (port : ℕ) × ToldEnd port (any_story s.fixed port) (moved_by s d.2) d.4 = done_told s node call reply t r named d in
    let first : Doing = start s node d.0 call in
    subst Quiet (sym d.9)
    (settled_framed Quiet quiet_framed told.0 s.fixed (moved_by s d.2) node d.6 d.4 told.1 (record {
      hand = hand_ends (moved_by s d.2) (left_by s node first d.2) d.4 (hand_by s node first d.2 (none_is s first q.hand) d.3) d.5;
      forgot = λ n. ap (λ (g : Fixed). g.forgot n) (moved_by-fixed s d.2) ∙ q.forgot n;
    }))

pub quiet_kept : IsKept (λ s. Calm s × Quiet s)
quiet_kept = record {
  nodes = λ s x u p. (calm_kept.nodes s x u p.0, record { hand = (p.1).hand; forgot = (p.1).forgot });
  makes = λ s node role id o memory allowed p. (calm_kept.makes s node role id o memory allowed p.0, record { hand = (p.1).hand; forgot = (p.1).forgot });
  calls = λ s node call reply t named done p. (calm_kept.calls s node call reply t named done p.0, done_quiet s node call reply t p.0 named done p.1);
  fills = λ s node number h x there may p. (calm_kept.fills s node number h x there may p.0, record { hand = (p.1).hand; forgot = (p.1).forgot });
}

pub left_quiet : (s : State) → IsReachableState s → Calm s × Quiet s
left_quiet = reached_keeps (λ s. Calm s × Quiet s) quiet_kept (λ l acts id. (created_calm l acts id, record { hand = λ w. refl; forgot = λ n. refl }))
