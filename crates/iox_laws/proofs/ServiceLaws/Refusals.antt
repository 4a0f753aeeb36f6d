-- What each refused command leaves.
use Rattle.std.specs.Prelude.{◌≡◌, ℕ, true, false, if◌then◌else◌, List, Option, Some, None, refl}
use Rattle.std.specs.Option.{option_map_or}
use Rattle.std.proofs.Common.{sym, subst, ap, ◌∙◌, true≢false}
use Rattle.iox_model.specs.declared.call.Call.TheVariants.{Loan, LoanUninit, Write, Send, SendCopy, Receive, Read, Release, IsConnected, SetHint, HasHint, HasRequests, HasResponse}
use Rattle.iox_model.specs.declared.command.Command.TheVariants as commands
use Rattle.iox_model.specs.declared.command.Command.TheVariants.{Leave, DeclareDead, Cleanup, ListNodes, ListClients, ListServers}
use Rattle.iox_model.specs.declared.kind.Role.{Role}
use Rattle.iox_model.specs.declared.kind.Role.TheVariants.{Client, Server}
use Rattle.iox_model.specs.declared.reply.Refusal.TheVariants.{UnknownNumber, OutOfMemory, ExceedsMaxActiveRequests, UnableToDeliver, ExceedsMaxBorrows, CallsSpent}
use Rattle.iox_model.specs.declared.reply.Reply.TheVariants.{Sent, Done, Refused}
use Rattle.iox_model.specs.declared.reply.Reply.TheVariants as replies
use Rattle.iox_model.specs.Begins.{begins_at, start}
use Rattle.iox_model.specs.Commands.{Refusal, Reply, Call, HubCommand, Create, Use, asking, number_of}
use Rattle.iox_model.specs.Doings.{refused, Outcome, Tells, Loans, Fills, Sends, FailsToSend, Receives, Drops, DropsPort, Forgets, Doing}
use Rattle.iox_model.specs.Ends.{after_refused_send, settled}
use Rattle.iox_model.specs.Handles.{handle_at, is_request_loan, new_number, subject, Subject, ThePort, TheHandle}
use Rattle.iox_model.specs.Joins.{not_living, not_dead, node_at, opening_refusal}
use Rattle.iox_model.specs.Makings.{making_refusal, port_reply, IsHubCommand}
use Rattle.iox_model.specs.Names.{misnamed}
use Rattle.iox_model.specs.Peers.{port_at, forgot_port}
use Rattle.iox_model.specs.Services.{leaving_refusal, with_own_id, IsNodeCommand}
use Rattle.iox_model.specs.States.{Handle, Fixed, State}
use Rattle.iox_model.specs.WholeCalls.{replied, spent, moved_by, left_by, UnlessRefused, IsDone, IsWholeCall}
use Rattle.iox_laws.proofs.WeaveLaws.MapLemmas.{either, nobody_is_forgotten}
use Rattle.iox_laws.proofs.WeaveLedger.Starts.{named-by, IsNamedBy}
use Rattle.iox_laws.specs.ServiceLaws.Refusing.{GotBack, DroppedStale, port_of, port_called, counted, RefusalLeaves, PortRefusalLeaves, RefusedPortCommandLeaves, RefusedCommandLeaves}
use Rattle.iox_laws.proofs.ServiceLaws.Dropped.{Taken, dropped_none, takes_one, gives_one}
use Rattle.iox_laws.proofs.ServiceLaws.GotBacks.{got_none, got_more}
use Rattle.iox_laws.proofs.ServiceLaws.Joins.{IsRefused, unless_refused, never_refused}
use Rattle.iox_laws.proofs.ServiceLaws.Openings.{IsPlain, IsPlainIf, plain_if, misnamed_plain, living_plain, Plain, Opens, begins_told}
use Rattle.iox_laws.proofs.ServiceLaws.Quiet.{Quiet, left_quiet}
use Rattle.iox_laws.proofs.ServiceLaws.Releasing.{handle_found}
use Rattle.iox_laws.proofs.ServiceLaws.Stories.{Story, ToldEnd, Told, told_by, told_ends}

-- ---- refusals that come at once

plain_leaves : (s : State) (node : ℕ) (call : Call) (r : Refusal) → IsPlain r → RefusalLeaves s node call r s
plain_leaves s node (Loan n k) OutOfMemory p = absurd p
plain_leaves s node (LoanUninit n k) OutOfMemory p = absurd p
plain_leaves s node (SendCopy n a) OutOfMemory p = absurd p
plain_leaves s node (SendCopy n a) ExceedsMaxActiveRequests p = absurd p
plain_leaves s node (SendCopy n a) UnableToDeliver p = absurd p
plain_leaves s node (Send n) ExceedsMaxActiveRequests p = absurd p
plain_leaves s node (Send n) UnableToDeliver p = absurd p
plain_leaves s node (Receive n) ExceedsMaxBorrows p = absurd p
plain_leaves s node call r p = refl

same_refusal : (r q : Refusal) → ◌≡◌ {A = Reply} (Refused r) (Refused q) → r ≡ q
same_refusal r q e = ap (refusal_of r) e
  where
    refusal_of : Refusal → Reply → Refusal
    refusal_of d (Refused x) = x
    refusal_of d reply = d

unless_leaves : (s : State) (node : ℕ) (call : Call) (q : Option Refusal) (r : Refusal) (t : State) (P : Type 0) → IsPlainIf q
    → (q ≡ None → P → RefusalLeaves s node call r t) → UnlessRefused q s (Refused r) t P → RefusalLeaves s node call r t
unless_leaves s node call None r t P plain f u = f refl u
unless_leaves s node call (Some x) r t P plain f u =
    subst (λ v. RefusalLeaves s node call r v) (sym u.1) (plain_leaves s node call r (subst IsPlain (sym (same_refusal r x u.0)) plain))

-- ---- the stories of calls

-- nothing is got back, and nothing is dropped
abbrev still_story : (port : ℕ) → (Refusal → State → Type 0) → Story port
still_story port L = record {
  leaves = L;
  got = λ u. ⊥;
  dropped = λ u. ⊥;
  taken = λ w m u. ⊥;
  lends = ⊥;
  sent = λ h copied. ⊥;
  filled = λ h. Unit {0};
  own = λ h copied p. absurd p;
  gets = λ u w k from holds p. absurd p;
  takes = λ u w m holds p. absurd p;
  gives = λ u w m at p. absurd p;
  skips = λ u node w m at e p. absurd p;
  dry = λ u l p. absurd p;
  active = λ u h p q. absurd p;
  unable = λ u h copied p q. absurd p;
  borrowed = λ u p. absurd p;
}

abbrev loan_story : (s : State) (port : ℕ) (L : Refusal → State → Type 0) → Quiet s → ((u : State) → GotBack s port u → L OutOfMemory u) → Story port
loan_story s port L q dry = record {
  leaves = L;
  got = GotBack s port;
  dropped = λ u. ⊥;
  taken = λ w m u. ⊥;
  lends = Unit {0};
  sent = λ h copied. ⊥;
  filled = λ h. ⊥;
  own = λ h copied p. absurd p;
  gets = λ u w k from holds g. got_more s port u w k q from holds g;
  takes = λ u w m holds p. absurd p;
  gives = λ u w m at p. absurd p;
  skips = λ u node w m at e p. absurd p;
  dry = λ u l g. dry u g;
  active = λ u h p g. absurd p;
  unable = λ u h copied p g. absurd p;
  borrowed = λ u p. absurd p;
}

abbrev copy_story : (s : State) (port : ℕ) (L : Refusal → State → Type 0) → Quiet s → ((u : State) → GotBack s port u → L OutOfMemory u)
    → ((u : State) → GotBack s port u → L ExceedsMaxActiveRequests (counted u port)) → ((u : State) → GotBack s port u → L UnableToDeliver (counted u port))
    → Story port
copy_story s port L q dry active unable = record {
  leaves = L;
  got = GotBack s port;
  dropped = λ u. ⊥;
  taken = λ w m u. ⊥;
  lends = Unit {0};
  sent = λ h copied. (h.port ≡ port) × (copied ≡ true);
  filled = λ h. ⊥;
  own = λ h copied p. p.0;
  gets = λ u w k from holds g. got_more s port u w k q from holds g;
  takes = λ u w m holds p. absurd p;
  gives = λ u w m at p. absurd p;
  skips = λ u node w m at e p. absurd p;
  dry = λ u l g. dry u g;
  active = λ u h p g. subst (λ n. L ExceedsMaxActiveRequests (counted u n)) (sym p.0) (active u g);
  unable = λ u h copied p g. subst (λ c. L UnableToDeliver (after_refused_send u h c)) (sym p.1)
      (subst (λ n. L UnableToDeliver (counted u n)) (sym p.0) (unable u g));
  borrowed = λ u p. absurd p;
}

abbrev send_story : (s : State) (k : Handle) (L : Refusal → State → Type 0) → Quiet s
    → ((u : State) → GotBack s k.port u → L UnableToDeliver (after_refused_send u k false)) → Story k.port
send_story s k L q unable = record {
  leaves = L;
  got = GotBack s k.port;
  dropped = λ u. ⊥;
  taken = λ w m u. ⊥;
  lends = ⊥;
  sent = λ h copied. (h ≡ k) × (copied ≡ false);
  filled = λ h. ⊥;
  own = λ h copied p. ap (λ (x : Handle). x.port) p.0;
  gets = λ u w n from holds g. got_more s k.port u w n q from holds g;
  takes = λ u w m holds p. absurd p;
  gives = λ u w m at p. absurd p;
  skips = λ u node w m at e p. absurd p;
  dry = λ u l g. absurd l;
  active = λ u h p g. absurd (true≢false p.1);
  unable = λ u h copied p g. subst (λ c. L UnableToDeliver (after_refused_send u h c)) (sym p.1)
      (subst (λ x. L UnableToDeliver (after_refused_send u x false)) (sym p.0) (unable u g));
  borrowed = λ u p. absurd p;
}

abbrev receive_story : (s : State) (port : ℕ) (L : Refusal → State → Type 0) → Quiet s
    → ((u : State) → DroppedStale s port u → L ExceedsMaxBorrows u) → Story port
receive_story s port L q borrowed = record {
  leaves = L;
  got = λ u. ⊥;
  dropped = DroppedStale s port;
  taken = Taken s port;
  lends = ⊥;
  sent = λ h copied. ⊥;
  filled = λ h. ⊥;
  own = λ h copied p. absurd p;
  gets = λ u w k from holds p. absurd p;
  takes = λ u w m holds p. takes_one s port u w m holds p;
  gives = λ u w m at p. gives_one s port u w m at p;
  skips = λ u node w m at e p. absurd (true≢false (sym e ∙ ap (λ (f : Fixed). forgot_port f node w.sender) p.fixed
      ∙ nobody_is_forgotten s.fixed node w.sender (q.forgot node)));
  dry = λ u l p. absurd p;
  active = λ u h p g. absurd p;
  unable = λ u h copied p g. absurd p;
  borrowed = λ u p. borrowed u p;
}

-- ---- the end of a call

refused_end : (port : ℕ) (y : Story port) (u : State) (f : Fixed) (node : ℕ) (payload : List ℕ) (o : Outcome) (r : Refusal) (t : State)
    → ToldEnd port y u o → Refused r ≡ replied f node o → t ≡ settled u node payload o → y.leaves r t
refused_end port y u f node payload (Tells reply) r t told e is =
    subst (y.leaves r) (sym (is ∙ ap (λ a. settled u node payload (Tells a)) (sym e))) (subst (λ a. ToldEnd port y u (Tells a)) (sym e) told)
refused_end port y u f node payload (FailsToSend h copied q) r t told e is =
    subst (y.leaves r) (sym is) (subst (λ x. y.leaves x (after_refused_send u h copied)) (sym (same_refusal r q e)) told.1)
refused_end port y u f node payload (Sends h copied count) r t told e is =
    never_refused r _ (y.leaves r t)
    (either (λ (a : Reply). IsRefused a → ⊥) (is_request_loan h.kind) (if copied then replies.Handle (new_number f node) else Sent count) Done
    (λ v. either (λ (a : Reply). IsRefused a → ⊥) copied (replies.Handle (new_number f node)) (Sent count) (λ w q. q) (λ w q. q)) (λ v q. q)) e
refused_end port y u f node payload (Loans h) r t told e is = never_refused r _ (y.leaves r t) (λ p. p) e
refused_end port y u f node payload (Fills h) r t told e is = never_refused r _ (y.leaves r t) (λ p. p) e
refused_end port y u f node payload (Receives x w m) r t told e is = never_refused r _ (y.leaves r t) (λ p. p) e
refused_end port y u f node payload (Drops h) r t told e is = never_refused r _ (y.leaves r t) (λ p. p) e
refused_end port y u f node payload (DropsPort n) r t told e is = never_refused r _ (y.leaves r t) (λ p. p) e
refused_end port y u f node payload (Forgets dead) r t told e is = absurd told

finish : (port : ℕ) (y : Story port) (s : State) (node : ℕ) (call : Call) (x : Subject) (r : Refusal) (t : State)
    → subject s.fixed node (number_of call) ≡ Some x → Plain port y s → Opens port y s call x → IsDone s node call (Refused r) t → y.leaves r t
finish port y s node call x r t is plain opens d =
    let first : Doing = start s node d.0 call in
    let begins : Told port y s first
    = subst (λ o. Told port y s (option_map_or (begins_at s d.0 call) o (refused UnknownNumber))) (sym is) (begins_told port y s d.0 call x plain opens) in
    refused_end port y (moved_by s d.2) s.fixed node d.6 d.4 r t
    (told_ends port y (moved_by s d.2) (left_by s node first d.2) d.4 (told_by port y s node first d.2 begins d.3) d.5) d.8 d.9

-- a call of which nothing is told
still : (s : State) (node : ℕ) (call : Call) (x : Subject) (r : Refusal) (t : State) → subject s.fixed node (number_of call) ≡ Some x
    → Opens 0 (still_story 0 (RefusalLeaves s node call)) s call x → IsDone s node call (Refused r) t → RefusalLeaves s node call r t
still s node call x r t is opens d = finish 0 (still_story 0 (RefusalLeaves s node call)) s node call x r t is (plain_leaves s node call) opens d

done_leaves : (s : State) (node : ℕ) (call : Call) (x : Subject) (r : Refusal) (t : State) → Quiet s → subject s.fixed node (number_of call) ≡ Some x
    → IsDone s node call (Refused r) t → RefusalLeaves s node call r t
done_leaves s node (Loan n k) x r t q is d =
    let port : ℕ = port_called s node (Loan n k) in
    finish port (loan_story s port (RefusalLeaves s node (Loan n k)) q (λ u g. g)) s node (Loan n k) x r t is (plain_leaves s node (Loan n k))
    (sym (ap (λ o. option_map_or port_of o 0) is), got_none s port, tt) d
done_leaves s node (LoanUninit n k) x r t q is d =
    let port : ℕ = port_called s node (LoanUninit n k) in
    finish port (loan_story s port (RefusalLeaves s node (LoanUninit n k)) q (λ u g. g)) s node (LoanUninit n k) x r t is (plain_leaves s node (LoanUninit n k))
    (sym (ap (λ o. option_map_or port_of o 0) is), got_none s port, tt) d
done_leaves s node (SendCopy n a) x r t q is d =
    let port : ℕ = port_called s node (SendCopy n a) in
    finish port (copy_story s port (RefusalLeaves s node (SendCopy n a)) q (λ u g. g) (λ u g. (u, g, refl)) (λ u g. (u, g, refl)))
    s node (SendCopy n a) x r t is
    (plain_leaves s node (SendCopy n a))
    (sym (ap (λ o. option_map_or port_of o 0) is), got_none s port, tt, λ h own. (own, refl)) d
done_leaves s node (Send n) (TheHandle h) r t q is d =
    let at : handle_at s.fixed node n ≡ Some h = handle_found n (port_at s.fixed n) (handle_at s.fixed node n) h is in
    finish h.port (send_story s h (RefusalLeaves s node (Send n)) q (λ u g. (h, at, u, g, refl))) s node (Send n) (TheHandle h) r t is
    (plain_leaves s node (Send n))
    (got_none s h.port, (refl, refl), (h, at, refl)) d
done_leaves s node (Send n) (ThePort p) r t q is d = still s node (Send n) (ThePort p) r t is tt d
done_leaves s node (Receive n) x r t q is d =
    let port : ℕ = port_called s node (Receive n) in
    finish port (receive_story s port (RefusalLeaves s node (Receive n)) q (λ u p. p)) s node (Receive n) x r t is (plain_leaves s node (Receive n))
    (sym (ap (λ o. option_map_or port_of o 0) is), dropped_none s port) d
done_leaves s node (Write n a) (TheHandle h) r t q is d = still s node (Write n a) (TheHandle h) r t is (λ words. tt) d
done_leaves s node (Write n a) (ThePort p) r t q is d = still s node (Write n a) (ThePort p) r t is tt d
done_leaves s node (Read n) x r t q is d = still s node (Read n) x r t is tt d
done_leaves s node (Release n) x r t q is d = still s node (Release n) x r t is tt d
done_leaves s node (IsConnected n) x r t q is d = still s node (IsConnected n) x r t is tt d
done_leaves s node (SetHint n) x r t q is d = still s node (SetHint n) x r t is tt d
done_leaves s node (HasHint n) x r t q is d = still s node (HasHint n) x r t is tt d
done_leaves s node (HasRequests n) x r t q is d = still s node (HasRequests n) x r t is tt d
done_leaves s node (HasResponse n) x r t q is d = still s node (HasResponse n) x r t is tt d

-- ---- commands

whole_leaves : (s : State) (node : ℕ) (call : Call) (r : Refusal) (t : State) → Quiet s → IsWholeCall s node call (Refused r) t → RefusalLeaves s node call r t
whole_leaves s node call r t q =
    let P : Type 0 = IsDone s node call (Refused r) t in
    unless_leaves s node call (misnamed s.fixed node call) r t (UnlessRefused (spent s.fixed call) s (Refused r) t P)
    (misnamed_plain s.fixed node call (subject s.fixed node (number_of call)))
    (λ named. unless_leaves s node call (spent s.fixed call) r t P (plain_if _ CallsSpent tt)
    (λ e d.
    let x : IsNamedBy s.fixed node call (subject s.fixed node (number_of call)) = named-by s.fixed node call (subject s.fixed node (number_of call)) named in
    done_leaves s node call x.named r t q x.is d))

port_reply_is : (role : Role) (n : ℕ) → IsRefused (port_reply role n) → ⊥
port_reply_is Client n p = p
port_reply_is Server n p = p

hub_leaves : (s t : State) (node : ℕ) (command : HubCommand) (r : Refusal) → Quiet s → IsHubCommand s node command (Refused r) t
    → PortRefusalLeaves s node command r t
hub_leaves s t node (Create role id o) r q c =
    unless_refused (making_refusal s.fixed role o c.0) s r t _ (λ u. never_refused r _ (t ≡ s) (port_reply_is role s.fixed.next_number) u.0) c.1
hub_leaves s t node (Use call) r q c = whole_leaves s node call r t q c

pub refused_port_command_leaves : RefusedPortCommandLeaves
refused_port_command_leaves s t node command r left c = hub_leaves s t node command r (left_quiet s left).1 c

node_leaves : (s t : State) (node : ℕ) (command : HubCommand) (r : Refusal) → Quiet s → IsNodeCommand s node command (Refused r) t
    → PortRefusalLeaves s node command r t
node_leaves s t node (Create role id o) r q c =
    unless_refused (not_living s node) s r t (IsHubCommand s node (with_own_id s node (Create role id o)) (Refused r) t)
    (λ d. hub_leaves s t node (with_own_id s node (Create role id o)) r q d) c
node_leaves s t node (Use call) r q c =
    unless_leaves s node call (not_living s node) r t (IsWholeCall s node call (Refused r) t) (living_plain (node_at s node))
    (λ e d. whole_leaves s node call r t q d) c

pub refused_command_leaves : RefusedCommandLeaves
refused_command_leaves s t (commands.Join id asked) r left c =
    unless_refused (opening_refusal s id asked c.0) s r t _ (λ u. never_refused r _ (t ≡ s) (λ p. p) u.0) c.1
refused_command_leaves s t (commands.Port command) r left c = node_leaves s t (asking command).0 (asking command).1 r (left_quiet s left).1 c
refused_command_leaves s t (Leave node) r left c =
    unless_refused (leaving_refusal s node) s r t _ (λ u. never_refused r _ (t ≡ s) (λ p. p) u.0) c
refused_command_leaves s t (DeclareDead node) r left c =
    unless_refused (not_living s node) s r t _ (λ u. never_refused r _ (t ≡ s) (λ p. p) u.0) c
refused_command_leaves s t (Cleanup node) r left c =
    unless_refused (not_dead s node) s r t _ (λ u. never_refused r _ (t ≡ s) (λ p. p) u.2) c
refused_command_leaves s t ListNodes r left c = c.1
refused_command_leaves s t ListClients r left c = c.1
refused_command_leaves s t ListServers r left c = c.1
