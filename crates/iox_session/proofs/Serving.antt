-- What a service is asked by a line, and what it answers.
use Rattle.std.specs.Prelude.{◌≡◌, ℕ, Bool, true, false, not, if◌then◌else◌, ◌==◌, List, [], ◌∷◌, find, unwrap_or, Option, Some, None, is_some, MatchOption, Result, Ok, Err, IfOk, OnErr, IsTrue, refl}
use Rattle.std.specs.List.{list_any}
use Rattle.std.specs.Option.{IsSomeAnd}
use Rattle.std.specs.declared.convert.Infallible.{Infallible}
use Rattle.std.specs.declared.vec.Vec.{Vec}
use Rattle.std.proofs.Common.{ap, subst, sym, true≢false, ◌∙◌}
use Rattle.std.proofs.lemmas.Option.{none-some, same_Some}
use Rattle.iox_words.specs.Numbers.{one_word}
use Rattle.iox_nodes.specs.HandlerWords.{following, shown_by}
use Rattle.iox_types.specs.declared.identifiers.system_id.UniqueSystemId.{UniqueSystemId}
use Rattle.iox_model.specs.declared.call.Call.TheVariants as calls
use Rattle.iox_model.specs.declared.command.Command as the_command
use Rattle.iox_model.specs.declared.command.Command.TheVariants.{Join, Port}
use Rattle.iox_model.specs.declared.command.PortCommand.TheVariants as ports
use Rattle.iox_model.specs.declared.kind.Role.{Role}
use Rattle.iox_model.specs.declared.kind.Role.TheVariants as roles
use Rattle.iox_model.specs.declared.reply.Refusal as the_refusal
use Rattle.iox_model.specs.declared.reply.Refusal.TheVariants.{UnableToCreateDataSegment, WantOfMemory}
use Rattle.iox_model.specs.declared.reply.Reply as the_reply
use Rattle.iox_model.specs.declared.reply.Reply.TheVariants.{Refused}
use Rattle.iox_model.specs.Commands.{Command, Create, Reply, Use}
use Rattle.iox_model.specs.Handles.{Subject, ThePort, TheHandle, handle_at, port_or_handle, subject}
use Rattle.iox_model.specs.Defaults.{follow}
use Rattle.iox_model.specs.Makings.{allocation_of, is_large, new_port}
use Rattle.iox_model.specs.Peers.{port_at}
use Rattle.iox_model.specs.Services.{IsCommand}
use Rattle.iox_model.specs.Settings.{Limits, is_static}
use Rattle.iox_model.specs.States.{Fixed, Handle, State}
use Rattle.iox_model.specs.States as m
use Rattle.iox_nodes.specs.Given as nodes
use Rattle.iox_nodes.specs.Given.{command_given}
use Rattle.iox_nodes.specs.Memory.{IsAnsweredWithMemory, IsDoneWithMemory, MayFindNoMemory, MayLackMemory}
use Rattle.iox_nodes.specs.Shown.{ServiceTables, service_of}
use Rattle.iox_nodes.specs.PortMemory.{MustGrow, lender_by}
use Rattle.iox_nodes.proofs.Reaching.{limits_stay}
use Rattle.iox_nodes.proofs.Marks.{IsLasting, joins_keep, neither, port_commands_keep}
use Rattle.iox_nodes.specs.Elements.{Elements}
use Rattle.iox_script.specs.Grammar.{options_of}
use Rattle.iox_script.specs.Commands.{Options, ServiceCommand, ServiceReply}
use Rattle.iox_session.specs.Answers.{command_asked, no_cause, options_given, payload_given, reply_given}
use Rattle.iox_session.specs.Limits.{limits_with}
use Rattle.iox_session.specs.Sessions.{CanBeAsked, IsPlain, ServiceAnswers, WantsMemory}
use Rattle.iox_session.specs.Shown.{IsLimited, IsOfScript, IsTold, makes_large, script_state}
use Rattle.iox_session.proofs.Unasked.{served_same}

-- a line does not say that messages grow, and nor does the service
static_limits : (l : Limits) (role : Role) → IsLimited l → is_static (allocation_of l role) ≡ true
static_limits l roles.Client limited = ap (λ (k : Limits). is_static k.client_allocation) limited.2
static_limits l roles.Server limited = ap (λ (k : Limits). is_static k.server_allocation) limited.2

plain_is_still : (l : Limits) (role : Role) (o : Options) → IsLimited l → IsPlain o
    → is_static (unwrap_or (options_given o).allocation (allocation_of l role)) ≡ true
plain_is_still l role o limited plain =
    ap (λ (p : Options). is_static (unwrap_or p.allocation (allocation_of l role))) plain ∙ static_limits l role limited

-- the limits stay
pub limited_then : (s : State) (c : Command) (reply : Reply) (t : State) → IsLimited s.fixed.limits → IsCommand s c reply t → IsLimited t.fixed.limits
limited_then s c reply t limited done = subst IsLimited (sym (limits_stay s c reply t done)) limited

-- no port that a line makes has the mark
abbrev MakesUnmarked : (m.Port → Bool) → State → Type 0
MakesUnmarked mark s =
    (node : ℕ) (role : Role) (o : Options) → IsPlain o → (own : UniqueSystemId) → mark (new_port s.fixed node role own (options_given o)) ≡ false

-- so none has it, as long as none had it
none_then : (mark : m.Port → Bool) → IsLasting mark → (s t : State) (command : ServiceCommand) (c : Command) (reply : Reply)
    → Some c ≡ command_asked s command → CanBeAsked command → MakesUnmarked mark s → list_any mark s.fixed.ports ≡ false
    → IsCommand s c reply t → list_any mark t.fixed.ports ≡ false
none_then mark lasts s t (Join id asked) c reply asks said makes none done =
    joins_keep mark s id None reply t none (subst (λ k. IsCommand s k reply t) (same_Some c (Join id None) asks) done)
none_then mark lasts s t (Port (ports.Client node id o)) c reply asks said makes none done =
    port_commands_keep mark lasts s node (Create roles.Client id (options_given o)) reply t (makes node roles.Client o said) none
    (subst (λ k. IsCommand s k reply t) (same_Some c (Port (ports.Client node id (options_given o))) asks) done)
none_then mark lasts s t (Port (ports.Server node id o)) c reply asks said makes none done =
    port_commands_keep mark lasts s node (Create roles.Server id (options_given o)) reply t (makes node roles.Server o said) none
    (subst (λ k. IsCommand s k reply t) (same_Some c (Port (ports.Server node id (options_given o))) asks) done)
none_then mark lasts s t (Port (ports.SendCopy node n words)) c reply asks said makes none done =
    port_commands_keep mark lasts s node (Use (calls.SendCopy n (payload_given s node n words))) reply t tt none
    (subst (λ k. IsCommand s k reply t) (same_Some c (Port (ports.SendCopy node n (payload_given s node n words))) asks) done)
none_then mark lasts s t (Port (ports.Receive node n)) c reply asks said makes none done =
    port_commands_keep mark lasts s node (Use (calls.Receive n)) reply t tt none
    (subst (λ k. IsCommand s k reply t) (same_Some c (Port (ports.Receive node n)) asks) done)
none_then mark lasts s t (Port (ports.Read node n)) c reply asks said makes none done =
    port_commands_keep mark lasts s node (Use (calls.Read n)) reply t tt none
    (subst (λ k. IsCommand s k reply t) (same_Some c (Port (ports.Read node n)) asks) done)
none_then mark lasts s t command c reply asks said makes none done = absurd (none-some c (sym asks))

-- a service of a script stays one
stays_of_script : (s t : State) (command : ServiceCommand) (c : Command) (reply : Reply) → Some c ≡ command_asked s command → CanBeAsked command
    → IsOfScript s → IsCommand s c reply t → IsOfScript t
stays_of_script s t command c reply asks said of done = record {
  limits = limited_then s c reply t of.limits done;
  still =
      none_then (λ (p : m.Port). p.grows) (λ p. refl) s t command c reply asks said
      (λ node role o plain own. ap not (plain_is_still s.fixed.limits role o of.limits plain)) of.still done;
  unhandled =
      none_then (λ (p : m.Port). is_some p.handler) (λ p. refl) s t command c reply asks said (λ node role o plain own. refl) of.unhandled done;
}

-- what is answered
pub served_so : (s : State) (command : ServiceCommand) (c : Command) (reply : Reply) (answer : ServiceReply) (s' : State)
    → Some c ≡ command_asked s command → reply ≡ reply_given answer → IsDoneWithMemory s c reply s' → ServiceAnswers s command answer s'
served_so s command c reply answer s' asks told done =
    subst (λ (o : Option Command). MatchOption o ⊥ (λ k. IsDoneWithMemory s k (reply_given answer) s')) asks
    (subst (λ r. IsDoneWithMemory s c r s') told done)

-- ---- where memory is missing

still_port : (ps : List m.Port) (n : ℕ) (p : m.Port) → find (λ q. q.number == n) ps ≡ Some p → list_any (λ (q : m.Port). q.grows) ps ≡ false → p.grows ≡ false
still_port [] n p at still = absurd (none-some p at)
still_port (q ∷ qs) n p at still =
    step (q.number == n) at (neither q.grows (list_any (λ (r : m.Port). r.grows) qs) still) (λ e rest. still_port qs n p e rest)
  where
    step : (b : Bool) → (if b then Some q else find (λ r. r.number == n) qs) ≡ Some p → (q.grows ≡ false) × (list_any (λ (r : m.Port). r.grows) qs ≡ false)
        → (find (λ r. r.number == n) qs ≡ Some p → list_any (λ (r : m.Port). r.grows) qs ≡ false → p.grows ≡ false) → p.grows ≡ false
    step true e both more = ap (λ (r : m.Port). r.grows) (sym (same_Some q p e)) ∙ both.0
    step false e both more = more e both.1

-- where the messages of no port grow, nobody lends one that must
still_lender : (f : Fixed) (node n : ℕ) (who : Subject) (p : m.Port) → subject f node n ≡ Some who → lender_by f who ≡ Some p
    → list_any (λ (q : m.Port). q.grows) f.ports ≡ false → p.grows ≡ false
still_lender f node n who p named lends still = step (port_at f n) refl (handle_at f node n) named
  where
    by_port : (r : m.Port) → port_at f n ≡ Some r → ThePort r ≡ who → p.grows ≡ false
    by_port r at is =
        still_port f.ports n p (at ∙ subst (λ (x : Subject). lender_by f x ≡ Some p) (sym is) lends) still

    held : (r : m.Port) → port_at f n ≡ Some r → (b : Bool) → (if b then Some (ThePort r) else None) ≡ Some who → p.grows ≡ false
    held r at true e = by_port r at (same_Some (ThePort r) who e)
    held r at false e = absurd (none-some who e)

    step : (o : Option m.Port) → port_at f n ≡ o → (q : Option Handle) → port_or_handle o q ≡ Some who → p.grows ≡ false
    step (Some r) at q e = held r at r.held e
    step None at (Some h) e =
        still_port f.ports h.port p (subst (λ (x : Subject). lender_by f x ≡ Some p) (sym (same_Some (TheHandle h) who e)) lends) still
    step None at None e = absurd (none-some who e)

never_grows : (s : State) (node n k : ℕ) → IsOfScript s → MustGrow s node n k → ⊥
never_grows s node n k of must = true≢false (sym must.grows ∙ still_lender s.fixed node n must.who must.port must.named must.lends of.still)

no_count_grows : (s : State) (node n : ℕ) (o : Option ℕ) → IsOfScript s → IsSomeAnd o (MustGrow s node n) → ⊥
no_count_grows s node n (Some k) of must = never_grows s node n k of must
no_count_grows s node n None of must = must

lacks : (s : State) (c d : Command) → Some c ≡ Some d → MayLackMemory s c → MayLackMemory s d
lacks s c d asks may = subst (λ k. MayLackMemory s k) (same_Some c d asks) may

-- the command is one of those that take memory
pub wants_so : (s : State) (command : ServiceCommand) (c : Command) → Some c ≡ command_asked s command → IsOfScript s → MayLackMemory s c → WantsMemory command
wants_so s (Join id asked) c asks of may = tt
wants_so s (Port (ports.Client node id o)) c asks of may = tt
wants_so s (Port (ports.Server node id o)) c asks of may = tt
wants_so s (Port (ports.Read node n)) c asks of may = tt
wants_so s (Port (ports.SendCopy node n words)) c asks of may =
    let grows : IsCommand s (Port (ports.SendCopy node n (payload_given s node n words))) (Refused WantOfMemory) s
    × IsSomeAnd (payload_given s node n words).elements (MustGrow s node n)
    = lacks s c (Port (ports.SendCopy node n (payload_given s node n words))) asks may in
    absurd (no_count_grows s node n (payload_given s node n words).elements of grows.1)
wants_so s (Port (ports.Receive node n)) c asks of may = absurd (lacks s c _ asks may)
wants_so s command c asks of may = absurd (none-some c (sym asks))

large_by : (l : Limits) (role : Role) (o : Options) → IsLimited l
    → ((requests responses : Bool) → true ≡ is_large (limits_with requests responses) role (options_given o)) → IsTrue (is_large l role (options_given o))
large_by l role o limited large =
    subst (λ (k : Limits). IsTrue (is_large k role (options_given o))) (sym limited.2) (sym (large limited.0 limited.1))

-- a port that is too large is refused
pub large_so : (s : State) (command : ServiceCommand) (c : Command) → Some c ≡ command_asked s command → MayLackMemory s c → IsLimited s.fixed.limits
    → ((requests responses : Bool) → true ≡ makes_large (limits_with requests responses) command)
    → ServiceAnswers s command (Refused UnableToCreateDataSegment) s
large_so s (Port (ports.Client node id o)) c asks may limited large = record {
  done = lacks s c (Port (ports.Client node id (options_given o))) asks may;
  memory = large_by s.fixed.limits roles.Client o limited large;
}
large_so s (Port (ports.Server node id o)) c asks may limited large = record {
  done = lacks s c (Port (ports.Server node id (options_given o))) asks may;
  memory = large_by s.fixed.limits roles.Server o limited large;
}
large_so s command c asks may limited large = absurd (true≢false (large true true))

-- whether a port is too large, of a line that a script can say
pub client_large : (k : ServiceCommand) (node : ℕ) (id : UniqueSystemId) (o : Options) (b requests responses : Bool) → k ≡ Port (ports.Client node id o)
    → CanBeAsked k → b ≡ is_large (limits_with requests responses) roles.Client (options_given (options_of o.max_slice_len))
    → b ≡ makes_large (limits_with requests responses) k
client_large k node id o b requests responses is asked large =
    subst (λ c. b ≡ makes_large (limits_with requests responses) c) (sym is)
    (subst (λ (p : Options). b ≡ is_large (limits_with requests responses) roles.Client (options_given p)) (sym (subst CanBeAsked is asked)) large)

pub server_large : (k : ServiceCommand) (node : ℕ) (id : UniqueSystemId) (o : Options) (b requests responses : Bool) → k ≡ Port (ports.Server node id o)
    → CanBeAsked k → b ≡ is_large (limits_with requests responses) roles.Server (options_given (options_of o.max_slice_len))
    → b ≡ makes_large (limits_with requests responses) k
server_large k node id o b requests responses is asked large =
    subst (λ c. b ≡ makes_large (limits_with requests responses) c) (sym is)
    (subst (λ (p : Options). b ≡ is_large (limits_with requests responses) roles.Server (options_given p)) (sym (subst CanBeAsked is asked)) large)

-- ---- the whole call

-- what is known about a service that is asked
told_so : {Z E : Type 0} (v v' : ServiceTables) (command : ServiceCommand) (c : Command) (r : Result (the_reply.Reply (Vec ℕ Z) Infallible) E)
    (large : Bool) (told : Result ServiceReply E) → Some c ≡ command_asked (service_of v) command
    → IfOk r (λ reply. IsDoneWithMemory (service_of v) c (nodes.reply_given no_cause reply) (service_of v'))
    → OnErr r (MayLackMemory (service_of v) c) → OnErr r (v' ≡ v) → IsLimited (service_of v).fixed.limits
    → ((requests responses : Bool) → large ≡ makes_large (limits_with requests responses) command) → IsTold r large told
    → IfOk told (λ answer. ServiceAnswers (service_of v) command answer (service_of v'))
told_so v v' command c (Ok reply) large (Ok answer) asks done lacks stays limited is told =
    served_so (service_of v) command c (nodes.reply_given no_cause reply) answer (service_of v') asks told done
told_so v v' command c (Err e) true (Ok answer) asks done lacks stays limited is told =
    subst (λ (a : ServiceReply). ServiceAnswers (service_of v) command a (service_of v')) (sym told)
    (subst (λ w. ServiceAnswers (service_of v) command (Refused UnableToCreateDataSegment) (service_of w)) (sym stays)
    (large_so (service_of v) command c asks lacks limited is))
told_so v v' command c (Err e) false (Ok answer) asks done lacks stays limited is told = absurd told
told_so v v' command c r large (Err e) asks done lacks stays limited is told = tt

-- and so it is where handlers would follow their ports' strategies
pub told_served : {Z E : Type 0} (v v' : ServiceTables) (command : ServiceCommand) (c : Command) (r : Result (the_reply.Reply (Vec ℕ Z) Infallible) E)
    (large : Bool) (told : Result ServiceReply E) → Some c ≡ command_asked (service_of v) command
    → IfOk r (λ reply. IsDoneWithMemory (service_of v) c (nodes.reply_given no_cause reply) (service_of v'))
    → OnErr r (MayLackMemory (service_of v) c) → OnErr r (v' ≡ v) → IsOfScript (service_of v)
    → ((requests responses : Bool) → large ≡ makes_large (limits_with requests responses) command) → IsTold r large told
    → IfOk told (λ answer. ServiceAnswers (script_state v) command answer (script_state v'))
told_served {E = E} v v' command c r large told asks done lacks stays of is tells =
    step told (told_so v v' command c r large told asks done lacks stays of.limits is tells)
  where
    step : (x : Result ServiceReply E) → IfOk x (λ answer. ServiceAnswers (service_of v) command answer (service_of v'))
        → IfOk x (λ answer. ServiceAnswers (script_state v) command answer (script_state v'))
    step (Ok answer) served = served_same follow (service_of v) of.unhandled command answer (service_of v') served
    step (Err e) served = served

pub told_stays : {Z E : Type 0} (v v' : ServiceTables) (r : Result (the_reply.Reply (Vec ℕ Z) Infallible) E) (large : Bool) (told : Result ServiceReply E)
    → OnErr r (v' ≡ v) → IsTold r large told → OnErr told (v' ≡ v)
told_stays v v' r large (Ok answer) stays told = tt
told_stays v v' (Err e) large (Err f) stays told = stays
told_stays v v' (Ok reply) large (Err f) stays told = absurd told

pub told_wants : {Z E : Type 0} (s : State) (command : ServiceCommand) (c : Command) (r : Result (the_reply.Reply (Vec ℕ Z) Infallible) E) (large : Bool)
    (told : Result ServiceReply E) → Some c ≡ command_asked s command → IsOfScript s → OnErr r (MayLackMemory s c) → IsTold r large told → OnErr told (WantsMemory command)
told_wants s command c r large (Ok answer) asks of lacks told = tt
told_wants s command c (Err e) large (Err f) asks of lacks told = wants_so s command c asks of lacks
told_wants s command c (Ok reply) large (Err f) asks of lacks told = absurd told

pub of_script_after : {Z E : Type 0} (v v' : ServiceTables) (command : ServiceCommand) (c : Command) (r : Result (the_reply.Reply (Vec ℕ Z) Infallible) E)
    → Some c ≡ command_asked (service_of v) command → CanBeAsked command
    → IfOk r (λ reply. IsDoneWithMemory (service_of v) c (nodes.reply_given no_cause reply) (service_of v')) → OnErr r (v' ≡ v)
    → IsOfScript (service_of v) → IsOfScript (service_of v')
of_script_after v v' command c (Ok reply) asks said done stays of =
    stays_of_script (service_of v) (service_of v') command c (nodes.reply_given no_cause reply) asks said of done.done
of_script_after v v' command c (Err e) asks said done stays of = subst (λ w. IsOfScript (service_of w)) (sym stays) of

-- the same, of what a service says of its answer
pub done_so : {Z E : Type 0} (s s' : State) (c : the_command.Command (Elements ℕ ℕ) (Unit {0}) (Option (the_refusal.Refusal Infallible)))
    (r : Result (the_reply.Reply (Vec ℕ Z) Infallible) E)
    → IfOk r (λ reply. IsAnsweredWithMemory one_word one_word (shown_by following) s c reply s')
    → IfOk r (λ reply. IsDoneWithMemory s (command_given one_word one_word (shown_by following) no_cause c) (nodes.reply_given no_cause reply) s')
done_so s s' c (Ok reply) answered = answered no_cause
done_so s s' c (Err e) answered = tt

pub lacks_so : {Z E : Type 0} (s : State) (c : the_command.Command (Elements ℕ ℕ) (Unit {0}) (Option (the_refusal.Refusal Infallible)))
    (r : Result (the_reply.Reply (Vec ℕ Z) Infallible) E)
    → OnErr r (MayFindNoMemory {C = Infallible} one_word one_word (shown_by following) s c) → OnErr r (MayLackMemory s (command_given one_word one_word (shown_by following) no_cause c))
lacks_so s c (Ok reply) lacks = tt
lacks_so s c (Err e) lacks = lacks no_cause
