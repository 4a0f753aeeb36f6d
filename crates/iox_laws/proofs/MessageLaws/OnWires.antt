-- On a wire what is read was sent, whatever other nodes do in between.
use Rattle.std.specs.Prelude.{◌≡◌, ℕ, true, false, ◌==◌, List, [], ◌∷◌, Option, Some, None, ◌⊎◌, refl}
use Rattle.std.proofs.Common.{sym, subst, ap, ◌∙◌, inl, inr}
use Rattle.iox_model.specs.declared.call.Call.TheVariants.{Read}
use Rattle.iox_model.specs.declared.call.WireCall.TheVariants.{Forget}
use Rattle.iox_model.specs.declared.call.WireCall.TheVariants as wire_calls
use Rattle.iox_model.specs.declared.way.Way.{Way}
use Rattle.iox_model.specs.Begins.{start}
use Rattle.iox_model.specs.Commands.{Call, WireCall}
use Rattle.iox_model.specs.Doings.{Tells, Doing, Ended, Loaning, Asking, Emptying, Looking, Opening, Delivering, Evicted}
use Rattle.iox_model.specs.Handles.{way_of, handle_at}
use Rattle.iox_model.specs.Loans.{Choice}
use Rattle.iox_model.specs.Maps.{put_at}
use Rattle.iox_model.specs.Messages.{Message}
use Rattle.iox_model.specs.Peers.{port_at}
use Rattle.iox_model.specs.States.{Handle, State}
use Rattle.iox_model.specs.Transitions.{next}
use Rattle.iox_model.specs.Handles.{TheHandle}
use Rattle.iox_model.specs.Weaves.{at_work, wire_start, begun, IsBeat, IsWeave, World, Beat, Begins, Makes, Ends, Dies}
use Rattle.iox_model.specs.WireCalls.{opened}
use Rattle.iox_laws.specs.WeaveLaws.Laws.{IsDuring}
use Rattle.iox_laws.proofs.WeaveLaws.CallLaws.{StepsKeep, Has, along}
use Rattle.iox_laws.proofs.WeaveLaws.MapLemmas.{either}
use Rattle.iox_laws.proofs.WeaveLaws.WholeLemmas.{put_at-here, some-is}
use Rattle.iox_laws.proofs.WeaveLedger.Starts.{there}
use Rattle.iox_laws.specs.MessageLaws.Deliveries.{message_put_on, messages_put_on}
use Rattle.iox_laws.specs.MessageLaws.Holdings.{CameBy}
use Rattle.iox_laws.specs.MessageLaws.Lists.{IsOneOf}
use Rattle.iox_laws.specs.MessageLaws.OnWires.{CallDeliversWhatIsSent, BeginsToSend, IsSentIn, EachWasSentOnWires, ReadOnWiresAsSent}
use Rattle.iox_laws.specs.MessageLaws.Readings.{words_of}
use Rattle.iox_laws.proofs.MessageLaws.Carries.{Carries, next_carries, puts_carried, delivers_carried, one-append}
use Rattle.iox_laws.proofs.MessageLaws.Readings.{told, IfTold, TellsSo, Shows, start_tells, ends_so, among-one, same_handle}
use Rattle.iox_laws.proofs.MessageLaws.Sendings.{IsSent, start_carries}
use Rattle.iox_laws.proofs.MessageLaws.WireHoldings.{had_as_delivered_on_wires}

-- what is left to do while a call continues
during_has : (P : Doing → Type 0) (w v : World) (node : ℕ) (call : Call) (c : Choice) (bs : List Beat) → StepsKeep node P → P (start w.state node c call)
    → IsDuring w node (wire_calls.Port call) c bs v → Has v node P
during_has P w v node call c bs keeps first during =
    let d : Doing = start w.state node c call in
    along node P keeps (begun w node c (wire_calls.Port call)) v bs (subst (λ u. IsWeave u bs v) during.0.1.2 during.0.2) during.1
    (d, put_at-here w.doing node (Some d), first)

-- what it has to do is what it has
has_is : (P : Doing → Type 0) (v : World) (node : ℕ) (d : Doing) → v.doing node ≡ Some d → Has v node P → P d
has_is P v node d is has = subst P (some-is has.0 d (sym has.1 ∙ is)) has.2

pub call_delivers_what_is_sent : CallDeliversWhatIsSent
call_delivers_what_is_sent w v u node call c bs y m during beat =
    let P : Message → Type 0 = IsSent w.state node c call in
    delivers_carried P v.state node beat.1 y m beat.4
    (has_is (Carries P) v node beat.1 beat.2
    (during_has (Carries P) w v node call c bs (λ s d a p h condition. next_carries P s node d a condition p) (start_carries w.state node c call) during))

-- ---- all calls

-- what is carried is so, if what was carried was
carries_more : (P Q : Message → Type 0) → ((m : Message) → P m → Q m) → (d : Doing) → Carries P d → Carries Q d
carries_more P Q f (Loaning true h left) p = f h.message p
carries_more P Q f (Loaning false h left) p = tt
carries_more P Q f (Asking x) p = f x.loan.message p
carries_more P Q f (Emptying x left) p = f x.loan.message p
carries_more P Q f (Looking x left full) p = f x.loan.message p
carries_more P Q f (Opening x left full) p = f x.loan.message p
carries_more P Q f (Delivering x last left count) p = f x.loan.message p
carries_more P Q f (Evicted x w left count) p = f x.loan.message p
carries_more P Q f d p = tt

abbrev CarriesCall : (Message → Type 0) → Option Doing → Type 0
CarriesCall P None = Unit {0}
CarriesCall P (Some d) = Carries P d

more_calls : (P Q : Message → Type 0) → ((m : Message) → P m → Q m) → (o : Option Doing) → CarriesCall P o → CarriesCall Q o
more_calls P Q f None p = tt
more_calls P Q f (Some d) p = carries_more P Q f d p

abbrev AllCarry : (Message → Type 0) → World → Type 0
AllCarry P w = (n : ℕ) → CarriesCall P (w.doing n)

put_carries : (P Q : Message → Type 0) → ((m : Message) → P m → Q m) → (doing : ℕ → Option Doing) (node : ℕ) (o : Option Doing)
    → CarriesCall Q o → ((n : ℕ) → CarriesCall P (doing n)) → (n : ℕ) → CarriesCall Q (put_at doing node o n)
put_carries P Q f doing node o here others n =
    either (CarriesCall Q) (n == node) o (doing n) (λ e. here) (λ e. more_calls P Q f (doing n) (others n))

call_carries : (P : Message → Type 0) (o : Option Doing) (d : Doing) → o ≡ Some d → CarriesCall P o → Carries P d
call_carries P o d e p = subst (CarriesCall P) e p

-- it was so, or a call begins now that sends it
abbrev OrBegins : (Message → Type 0) → World → Beat → Message → Type 0
OrBegins P w b m = P m ⊎ BeginsToSend m w b

begin_carries : (P : Message → Type 0) (w : World) (node : ℕ) (call : WireCall) (c : Choice)
    → Carries (OrBegins P w (Begins node call c)) (wire_start w.state node c call)
begin_carries P w node (wire_calls.Port call) c =
    carries_more (IsSent w.state node c call) (OrBegins P w (Begins node (wire_calls.Port call) c)) (λ m e. inr e) (start w.state node c call)
    (start_carries w.state node c call)
begin_carries P w node (Forget dead) c = tt

beat_carries : (P : Message → Type 0) (w v : World) (b : Beat) → IsBeat w b v → AllCarry P w → AllCarry (OrBegins P w b) v
beat_carries P w v (Begins node call c) beat p =
    let Q : Message → Type 0 = OrBegins P w (Begins node call c) in
    subst (AllCarry Q) (sym beat.2) (put_carries P Q (λ m q. inl q) w.doing node (Some (wire_start w.state node c call)) (begin_carries P w node call c) p)
beat_carries P w v (Makes node a) beat p =
    let Q : Message → Type 0 = OrBegins P w (Makes node a) in
    let after : Doing = (next w.state node beat.1 a).after in
    subst (AllCarry Q) (sym beat.5) (put_carries P Q (λ m q. inl q) w.doing node (Some after)
    (carries_more P Q (λ m q. inl q) after (next_carries P w.state node beat.1 a beat.4 (call_carries P (w.doing node) beat.1 beat.2 (p node)))) p)
beat_carries P w v (Ends node reply payload) beat p =
    let Q : Message → Type 0 = OrBegins P w (Ends node reply payload) in
    subst (AllCarry Q) (sym beat.7) (put_carries P Q (λ m q. inl q) w.doing node None tt p)
beat_carries P w v (Dies node) beat p =
    let Q : Message → Type 0 = OrBegins P w (Dies node) in
    subst (AllCarry Q) (sym beat.1) (λ n. more_calls P Q (λ m q. inl q) (w.doing n) (p n))

-- what a beat puts was so
beat_puts : (P : Message → Type 0) (w v : World) (b : Beat) (y : Way) (m : Message) → IsBeat w b v → AllCarry P w → IsOneOf m (message_put_on y b) → P m
beat_puts P w v (Makes node a) y m beat p among =
    puts_carried P w.state node beat.1 a y m beat.4 (call_carries P (w.doing node) beat.1 beat.2 (p node)) among
beat_puts P w v (Begins node call c) y m beat p among = absurd among
beat_puts P w v (Ends node reply payload) y m beat p among = absurd among
beat_puts P w v (Dies node) y m beat p among = absurd among

weave_sends : (P : Message → Type 0) (w v : World) (bs : List Beat) (y : Way) (m : Message) (weave : IsWeave w bs v) → AllCarry P w
    → IsOneOf m (messages_put_on y bs) → P m ⊎ IsSentIn y m w bs v weave
weave_sends P w v [] y m weave p among = absurd among
weave_sends P w v (b ∷ bs) y m weave p among =
    elim (one-append m (message_put_on y b) (messages_put_on y bs) among) as (λ u. P m ⊎ IsSentIn y m w (b ∷ bs) v weave) [
      | inl now ↦ inl (beat_puts P w weave.0 b y m weave.1 p now)
      | inr later ↦
          elim (weave_sends (OrBegins P w b) weave.0 v bs y m weave.2 (beat_carries P w weave.0 b weave.1 p) later)
          as (λ u. P m ⊎ IsSentIn y m w (b ∷ bs) v weave) [
            | inl q ↦ elim q as (λ u. P m ⊎ IsSentIn y m w (b ∷ bs) v weave) [ inl old ↦ inl old | inr begins ↦ inr (inl (begins, later)) ]
            | inr sent ↦ inr (inr sent)
          ]
    ]

pub each_was_sent_on_wires : EachWasSentOnWires
each_was_sent_on_wires s v bs y m weave among =
    elim (weave_sends (λ n. ⊥) (at_work (opened s)) v bs y m weave (λ n. tt) among) as (λ u. IsSentIn y m (at_work (opened s)) bs v weave) [
      | inl none ↦ absurd none
      | inr sent ↦ sent
    ]

-- ---- reads

keeps_so : (s : State) (node n : ℕ) → StepsKeep node (TellsSo s node n)
keeps_so s node n t (Ended (Tells reply)) a p h c = absurd c
keeps_so s node n t d a p h c = absurd p

pub read_on_wires_as_sent : ReadOnWiresAsSent
read_on_wires_as_sent s w v u before bs node n h c words payload on is received during beat =
    let so : TellsSo w.state node n beat.1
    = has_is (TellsSo w.state node n) v node beat.1 beat.2
    (during_has (TellsSo w.state node n) w v node (Read n) c bs (keeps_so w.state node n) (start_tells w.state node n c) during) in
    let shows : Shows w.state node n words
    = subst (λ r. IfTold w.state node n (told r)) (sym beat.6) (ends_so w.state v.state node n beat.1 beat.3 so beat.4) in
    let came : CameBy (way_of h) h.message before
    = had_as_delivered_on_wires s w before node h on
    (among-one h (w.state.fixed.handles node)
    (there w.state.fixed node n (TheHandle h) (port_at w.state.fixed n) (handle_at w.state.fixed node n) refl refl is))
    received in (
      shows.2 ∙ ap (λ (k : Handle). words_of k.message) (same_handle h shows.0 (sym shows.1 ∙ is)),
      came,
      each_was_sent_on_wires s w before (way_of h) h.message on.1 came.delivered,
    )
