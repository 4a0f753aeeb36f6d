-- What a call has to do leads to an outcome and a state; how such steps are put together, and that
-- what a call leads to is a whole call.
use Rattle.std.specs.Prelude.{◌≡◌, ℕ, Bool, true, false, if◌then◌else◌, List, [], ◌∷◌, Option, Some, None, refl}
use Rattle.std.specs.Option.{option_map_or}
use Rattle.std.proofs.Common.{sym, ap, ap₂, ◌∙◌}
use Rattle.iox_model.specs.declared.way.Way.{Way}
use Rattle.iox_model.specs.declared.reply.Refusal.TheVariants.{UnknownNumber, WrongKind}
use Rattle.iox_model.specs.declared.reply.Reply.TheVariants.{Refused}
use Rattle.iox_laws.specs.CallFunctions.Answers.{answered, answered_with, unless_misnamed, of_handle}
use Rattle.iox_laws.proofs.CallFunctions.Walks.{Walks, stays, goes, joins, whole}
use Rattle.iox_model.specs.Begins.{start, MayChoose}
use Rattle.iox_model.specs.Commands.{Call}
use Rattle.iox_model.specs.Doings.{refused, Outcome, Tells, Doing, Ended}
use Rattle.iox_model.specs.Ends.{settled}
use Rattle.iox_model.specs.Handles.{Subject, ThePort, TheHandle}
use Rattle.iox_model.specs.Loans.{Choice}
use Rattle.iox_model.specs.Maps.{without_way}
use Rattle.iox_model.specs.Moments.{Holds, moved, Moment}
use Rattle.iox_model.specs.States.{Handle, Fixed, State}
use Rattle.iox_model.specs.Transitions.{next, ends}
use Rattle.iox_model.specs.WholeCalls.{MayHold, IsDone, IsWholeCall}
use Rattle.iox_laws.proofs.WeaveLaws.MapLemmas.{same_way-refl}

-- of the outcome no payload is left open
abbrev pub NoPayload : Fixed → Outcome → Type 0
NoPayload f o = MayHold f o []

-- some moments lead to that state, where the call may end with that outcome, of which P holds
abbrev pub Leads : (Outcome → Type 0) → State → ℕ → Doing → Outcome × State → Type 0
Leads P s node d v = (e : Doing) × Walks s node d v.1 e × (ends v.1 e ≡ Some v.0) × P v.0

-- ---- how they are put together

pub at_end : (P : Outcome → Type 0) (s : State) (node : ℕ) (o : Outcome) → P o → Leads P s node (Ended o) (o, s)
at_end P s node o p = (Ended o, stays s node (Ended o), refl, p)

-- a walk in front
pub behind : (P : Outcome → Type 0) (s : State) (node : ℕ) (d : Doing) (t : State) (e : Doing) (v : Outcome × State)
    → Walks s node d t e → Leads P t node e v → Leads P s node d v
behind P s node d t e v walk more = (more.0, joins s node d t e v.1 more.0 walk more.1, more.2, more.3)

-- one moment in front
pub one_more : (P : Outcome → Type 0) (s : State) (node : ℕ) (d : Doing) (m : Moment) (v : Outcome × State) → Holds s m
    → (next s node d m).condition → Leads P (moved s m) node (next s node d m).after v → Leads P s node d v
one_more P s node d m v holds may more = (more.0, goes s node d m v.1 more.0 holds may more.1, more.2, more.3)

-- one of two
pub one_of : (P : Outcome → Type 0) (s : State) (node : ℕ) (b : Bool) (d e : Doing) (v u : Outcome × State)
    → (b ≡ true → Leads P s node d v) → (b ≡ false → Leads P s node e u)
    → Leads P s node (if b then d else e) (if b then v else u)
one_of P s node true d e v u f g = f refl
one_of P s node false d e v u f g = g refl

-- the same where the outcome is one
pub one_state_of : (P : Outcome → Type 0) (s : State) (node : ℕ) (b : Bool) (d e : Doing) (o : Outcome) (t u : State)
    → (b ≡ true → Leads P s node d (o, t)) → (b ≡ false → Leads P s node e (o, u))
    → Leads P s node (if b then d else e) (o, if b then t else u)
one_state_of P s node true d e o t u f g = f refl
one_state_of P s node false d e o t u f g = g refl

-- the first of the ways is left out
pub first_way : {A : Type 0} (f : List Way → A) (w : Way) (left : List Way) → f (without_way w (w ∷ left)) ≡ f left
first_way f w left = ap (λ (b : Bool). f (if b then left else w ∷ without_way w left)) (same_way-refl w)

-- ---- whole calls

pub is_done : (P : Outcome → Type 0) (s : State) (node : ℕ) (call : Call) (c : Choice) (payload : List ℕ) (v : Outcome × State)
    → MayChoose s.fixed node c call → Leads P s node (start s node c call) v → MayHold s.fixed v.0 payload
    → IsDone s node call (answered_with s node payload v).0 (answered_with s node payload v).1
is_done P s node call c payload v choice more holds =
    let walk : Walks s node (start s node c call) v.1 more.0 = more.1 in (
      c,
      choice,
      walk.0,
      walk.1,
      v.0,
      ap₂ ends walk.2 walk.3 ∙ more.2,
      payload,
      holds,
      refl,
      ap (λ t. settled t node payload v.0) (sym walk.2),
    )

-- a call that leaves no payload open
pub is_whole : (s : State) (node : ℕ) (call : Call) (c : Choice) (v : Outcome × State)
    → MayChoose s.fixed node c call → Leads (NoPayload s.fixed) s node (start s node c call) v
    → IsWholeCall s node call (unless_misnamed s node call (answered s node v)).0 (unless_misnamed s node call (answered s node v)).1
is_whole s node call c v choice more =
    whole s node call (answered s node v) (is_done (NoPayload s.fixed) s node call c [] v choice more more.3)

-- a call of a handle begins by what the number names
pub of_handle_leads : (P : Outcome → Type 0) (s : State) (node : ℕ) (begin : Subject → Doing) (f : Handle → Outcome × State) (x : Option Subject)
    → P (Tells (Refused WrongKind)) → P (Tells (Refused UnknownNumber)) → ((p : _) → begin (ThePort p) ≡ refused WrongKind)
    → ((h : Handle) → Leads P s node (begin (TheHandle h)) (f h))
    → Leads P s node (option_map_or begin x (refused UnknownNumber)) (of_handle s x f)
of_handle_leads P s node begin f (Some (TheHandle h)) wrong unknown ports handles = handles h
of_handle_leads P s node begin f (Some (ThePort p)) wrong unknown ports handles =
    (refused WrongKind, ([], tt, refl, ports p), refl, wrong)
of_handle_leads P s node begin f None wrong unknown ports handles = at_end P s node (Tells (Refused UnknownNumber)) unknown

-- where nothing is chosen: lane 0, and memory
abbrev pub ample : Choice
ample = record { lane = 0; memory = true }
