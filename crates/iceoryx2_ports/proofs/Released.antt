-- What a release comes to, where the node still has what the value stands for, and where it has not.
use Rattle.std.specs.Prelude.{◌≡◌, ℕ, Bool, true, false, Option, None, Some, refl}
use Rattle.std.specs.Option.{option_map_or}
use Rattle.std.proofs.Common.{sym, ap, subst, subst₂, ◌∙◌, true≢false}
use Rattle.std.proofs.lemmas.Option.{same_Some}
use Rattle.iox_model.specs.declared.call.Call.TheVariants.{Release}
use Rattle.iox_model.specs.declared.kind.Kind.{Kind}
use Rattle.iox_model.specs.declared.kind.Kind.TheVariants as kinds
use Rattle.iox_model.specs.declared.kind.Kind.TheVariants.{RequestMutUninit, RequestMut, ResponseMutUninit, ResponseMut, PendingResponse, ActiveRequest, Response}
use Rattle.iox_model.specs.declared.reply.Reply.TheVariants.{Done}
use Rattle.iox_model.specs.Doings.{Receiver}
use Rattle.iox_model.specs.Handles.{same_kind}
use Rattle.iox_model.specs.Names.{is_port}
use Rattle.iox_model.specs.Values.{IsReleaseWhere, is_still}
use Rattle.iox_model.specs.WholeCalls.{IsWholeCall}
use Rattle.iox_tables.specs.HubLoans.Questions.{kind_in}
use Rattle.iox_tables.specs.HubStates.States.{Given}
use Rattle.iox_tables.proofs.HubLoans.Asked.{each_value_is_there}
use Rattle.iox_hub_laws.specs.Hubs.{HasValue, HubState, IsHub, given_by, state_of_hub}
use Rattle.iox_hub_laws.specs.Keeping.{IsOther, KeepsOthers}
use Rattle.iox_hub_laws.specs.Releases.{StillHas}
use Rattle.iox_hub_laws.specs.Sending.{HasNothing}
use Rattle.iox_hub_laws.specs.Waiting.{client_in}
use Rattle.iceoryx2_ports.specs.Opens.{IsOfRequest, LeavesOpen}
use Rattle.iceoryx2_ports.specs.Releases.{IsReleased}
use Rattle.iceoryx2_ports.specs.Responses.{answerer_in, asker_in}
use Rattle.iceoryx2_ports.proofs.Aside.{others_ask_as_before}
use Rattle.iceoryx2_ports.proofs.Coming.{release_adds_nothing, release_brings_nothing}
use Rattle.iceoryx2_ports.proofs.Leaving.{release_keeps_room}
use Rattle.iceoryx2_ports.proofs.SameShapes.{same_shapes}
use Rattle.iceoryx2_ports.proofs.Unreleased.{nothing_leaves_open, release_leaves_open}

-- ---- the kind that it has by now

-- what is a pending response by now was one
pending_alone : (kind : Kind) → is_still kind PendingResponse ≡ true → PendingResponse ≡ kind
pending_alone PendingResponse e = refl
pending_alone kinds.Client e = absurd (true≢false (sym e))
pending_alone kinds.Server e = absurd (true≢false (sym e))
pending_alone RequestMutUninit e = absurd (true≢false (sym e))
pending_alone RequestMut e = absurd (true≢false (sym e))
pending_alone ResponseMutUninit e = absurd (true≢false (sym e))
pending_alone ResponseMut e = absurd (true≢false (sym e))
pending_alone ActiveRequest e = absurd (true≢false (sym e))
pending_alone Response e = absurd (true≢false (sym e))

-- and what is an active request
active_alone : (kind : Kind) → is_still kind ActiveRequest ≡ true → ActiveRequest ≡ kind
active_alone ActiveRequest e = refl
active_alone kinds.Client e = absurd (true≢false (sym e))
active_alone kinds.Server e = absurd (true≢false (sym e))
active_alone RequestMutUninit e = absurd (true≢false (sym e))
active_alone RequestMut e = absurd (true≢false (sym e))
active_alone ResponseMutUninit e = absurd (true≢false (sym e))
active_alone ResponseMut e = absurd (true≢false (sym e))
active_alone PendingResponse e = absurd (true≢false (sym e))
active_alone Response e = absurd (true≢false (sym e))

module _ (h : HubState) (node n : ℕ) (x : Receiver) (server : ℕ) where
  of_request : (kind found : Kind) → is_still kind found ≡ true → IsOfRequest h node n found x server → IsOfRequest h node n kind x server
  of_request kind PendingResponse e p = subst (λ (k : Kind). IsOfRequest h node n k x server) (pending_alone kind e) p
  of_request kind ActiveRequest e p = subst (λ (k : Kind). IsOfRequest h node n k x server) (active_alone kind e) p
  of_request kind kinds.Client e p = absurd p
  of_request kind kinds.Server e p = absurd p
  of_request kind RequestMutUninit e p = absurd p
  of_request kind RequestMut e p = absurd p
  of_request kind ResponseMutUninit e p = absurd p
  of_request kind ResponseMut e p = absurd p
  of_request kind Response e p = absurd p

-- so what leaves the others open does so by either kind
leaves_open_as : (old new : HubState) (node n : ℕ) (kind found : Kind) → is_still kind found ≡ true → LeavesOpen old node n found new → LeavesOpen old node n kind new
leaves_open_as old new node n kind found e l = record {
  opened = λ waiter m owner server awaits serves other.
      l.opened waiter m owner server awaits serves (λ is. other (of_request old node n (client_in old waiter m) server kind found e is));
  client = l.client;
  asker = l.asker;
  answerer = l.answerer;
  active = λ a m waiter i owner is awaits asks serves other.
      l.active a m waiter i owner is awaits asks serves (λ its. other (of_request old node n (asker_in old a m) (answerer_in old a m) kind found e its));
}

-- the kind by now, of what the node still has
record IsByNow (h : HubState) (node n : ℕ) (kind : Kind) : Type 0 where
  pub found : Kind
  pub has : HasValue h node n found
  pub same : is_still kind found ≡ true

by_now : (h : HubState) (node n : ℕ) (kind : Kind) → StillHas h node n kind → IsByNow h node n kind
by_now h node n kind = step (kind_in h.control.tables node n) refl
  where
    step : (o : Option Kind) → kind_in h.control.tables node n ≡ o → option_map_or (is_still kind) o false ≡ true → IsByNow h node n kind
    step (Some k) at e = record { found = k; has = at; same = e }
    step None at e = absurd (true≢false (sym e))

-- of a port it is the same
pub port_by_now : (h : HubState) (node n : ℕ) (kind : Kind) → is_port kind ≡ true → StillHas h node n kind → HasValue h node n kind
port_by_now h node n kind port still =
    let is : IsByNow h node n kind = by_now h node n kind still in is.has ∙ ap (λ (k : Kind). Some k) (same kind is.found port is.same)
  where
    same : (kind found : Kind) → is_port kind ≡ true → is_still kind found ≡ true → found ≡ kind
    same kinds.Client kinds.Client p e = refl
    same kinds.Client kinds.Server p e = absurd (true≢false (sym e))
    same kinds.Client RequestMutUninit p e = absurd (true≢false (sym e))
    same kinds.Client RequestMut p e = absurd (true≢false (sym e))
    same kinds.Client ResponseMutUninit p e = absurd (true≢false (sym e))
    same kinds.Client ResponseMut p e = absurd (true≢false (sym e))
    same kinds.Client PendingResponse p e = absurd (true≢false (sym e))
    same kinds.Client ActiveRequest p e = absurd (true≢false (sym e))
    same kinds.Client Response p e = absurd (true≢false (sym e))
    same kinds.Server kinds.Server p e = refl
    same kinds.Server kinds.Client p e = absurd (true≢false (sym e))
    same kinds.Server RequestMutUninit p e = absurd (true≢false (sym e))
    same kinds.Server RequestMut p e = absurd (true≢false (sym e))
    same kinds.Server ResponseMutUninit p e = absurd (true≢false (sym e))
    same kinds.Server ResponseMut p e = absurd (true≢false (sym e))
    same kinds.Server PendingResponse p e = absurd (true≢false (sym e))
    same kinds.Server ActiveRequest p e = absurd (true≢false (sym e))
    same kinds.Server Response p e = absurd (true≢false (sym e))
    same RequestMutUninit found p e = absurd (true≢false (sym p))
    same RequestMut found p e = absurd (true≢false (sym p))
    same ResponseMutUninit found p e = absurd (true≢false (sym p))
    same ResponseMut found p e = absurd (true≢false (sym p))
    same PendingResponse found p e = absurd (true≢false (sym p))
    same ActiveRequest found p e = absurd (true≢false (sym p))
    same Response found p e = absurd (true≢false (sym p))

-- ---- releases

-- what is no pending response is none that is asked for
is_no_pending : (h : HubState) (node n : ℕ) (kind found : Kind) → HasValue h node n found → is_still kind found ≡ true
    → same_kind kind PendingResponse ≡ false → (a m : ℕ) → HasValue h a m PendingResponse → IsOther node n a m
is_no_pending h node n kind found has same unlike a m pending on is =
    let there : HasValue h node n PendingResponse = subst₂ (λ (b i : ℕ). HasValue h b i PendingResponse) on is pending in
    let found_is : found ≡ PendingResponse = same_Some found PendingResponse (sym has ∙ there) in
    let kind_is : PendingResponse ≡ kind = pending_alone kind (ap (is_still kind) (sym found_is) ∙ same) in
    true≢false (ap (λ (k : Kind). same_kind k PendingResponse) kind_is ∙ unlike)

pub is_released : (old new : HubState) → IsHub new → (node n : ℕ) (kind : Kind) → StillHas old node n kind
    → ((x : Given) → IsWholeCall (state_of_hub x old) node (Release n) Done (state_of_hub x new)) → HasNothing new node n → KeepsOthers old node n new
    → IsReleased old node n kind new
is_released old new after node n kind still whole gone keeps =
    let is : IsByNow old node n kind = by_now old node n kind still in record {
      whole = λ x.
          subst (λ (there : Bool). IsReleaseWhere there (state_of_hub x old) node n (state_of_hub x new))
          (sym ((each_value_is_there (given_by x old) old.control.tables node n kind).still ∙ still)) (whole x);
      gone = λ h. gone;
      unchanged = λ none. absurd (none still);
      keeps = keeps;
      shapes = same_shapes old new node (Release n) Done whole;
      asks = others_ask_as_before old new node (Release n) Done refl whole;
      asking = λ unlike a m has.
          others_ask_as_before old new node (Release n) Done refl whole a m (is_no_pending old node n kind is.found is.has is.same unlike a m has) has;
      comes = release_brings_nothing old new node n Done whole;
      adds = release_adds_nothing old new node n Done whole;
      room = release_keeps_room old new after node n Done whole;
      idle = λ x idle. record {
        none = release_brings_nothing old new node n Done whole x idle.none;
        room = release_keeps_room old new after node n Done whole x idle.room;
      };
      requests = leaves_open_as old new node n kind is.found is.same (release_leaves_open old new after node n is.found is.has Done whole gone);
    }

not_so : (b : Bool) → (b ≡ true → ⊥) → b ≡ false
not_so true none = absurd (none refl)
not_so false none = refl

pub nothing_released : (h : HubState) (node n : ℕ) (kind : Kind) → (StillHas h node n kind → ⊥) → IsReleased h node n kind h
nothing_released h node n kind none = record {
  whole = λ x.
      subst (λ (there : Bool). IsReleaseWhere there (state_of_hub x h) node n (state_of_hub x h))
      (sym ((each_value_is_there (given_by x h) h.control.tables node n kind).still
      ∙ not_so (option_map_or (is_still kind) (kind_in h.control.tables node n) false) none)) refl;
  gone = λ has. absurd (none has);
  unchanged = λ u. refl;
  keeps = λ a m other some. record { kind = refl; handle = refl; message = refl };
  shapes = record { request = refl; response = refl };
  asks = λ a m other has. refl;
  asking = λ unlike a m has. refl;
  comes = λ x nothing. nothing;
  adds = λ words x all. all;
  room = λ x room. room;
  idle = λ x idle. idle;
  requests = nothing_leaves_open h node n kind;
}
