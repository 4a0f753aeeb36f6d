-- A loan that is written is for the request that it was for.
use Rattle.std.specs.Prelude.{◌≡◌, ℕ, Bool, false, ◌==◌, if◌then◌else◌, List, [], ◌∷◌, find, Option, None, Some, refl}
use Rattle.std.specs.Option.{option_map, option_map_or}
use Rattle.std.proofs.Common.{sym, ap, subst, ◌∙◌, eq-eqb}
use Rattle.iox_model.specs.declared.call.Call.TheVariants.{Write}
use Rattle.iox_model.specs.declared.kind.Kind.{Kind}
use Rattle.iox_model.specs.declared.reply.Refusal.TheVariants.{UnknownNumber, WrongLength}
use Rattle.iox_model.specs.Begins.{begins_at, start, writes, written}
use Rattle.iox_model.specs.Commands.{Payload, Refusal, Reply}
use Rattle.iox_model.specs.Counts.{called, with_fixed, with_handle}
use Rattle.iox_model.specs.Doings.{refused, Doing, Ended, Fills, Outcome, Tells}
use Rattle.iox_model.specs.Ends.{is_nothing, settled}
use Rattle.iox_model.specs.Handles.{Subject, TheHandle, handle_at, subject}
use Rattle.iox_model.specs.Maps.{put_at}
use Rattle.iox_model.specs.Moments.{Moment}
use Rattle.iox_model.specs.Names.{is_port, misnamed}
use Rattle.iox_model.specs.States.{Fixed, Handle, State}
use Rattle.iox_model.specs.Transitions.{ends}
use Rattle.iox_model.specs.WholeCalls.{IsDone, IsWholeCall, MayCome, UnlessRefused, left_by, moved_by, spent}
use Rattle.iox_laws.proofs.WeaveLaws.MapLemmas.{either}
use Rattle.iox_laws.proofs.WeaveLaws.WholeLemmas.{moved_by-fixed, put_at-here, some-is}
use Rattle.iox_laws.proofs.WeaveLedger.Truths.{by_cases, none-some}
use Rattle.iox_tables.specs.HubStates.States.{Given, message_of}
use Rattle.iox_tables.specs.HubStates.Tables.{HubTables}
use Rattle.iox_tables.proofs.HubStates.Fixing.{find_handle}
use Rattle.iox_tables.proofs.HubStates.Naming.{each_handle_is_named, handle_node, handle_number}
use Rattle.iox_hub_laws.specs.Hubs.{HasValue, HubState, given_by, nothing_given, state_of_hub}
use Rattle.iox_hub_laws.specs.Sends.{NothingComes}
use Rattle.iox_hub_laws.specs.Shown.{handle_of, shown}
use Rattle.iox_hub_laws.specs.Waiting.{client_in}
use Rattle.iox_hub_laws.proofs.Values.{IsHandleOf, value_is_handle}
use Rattle.iceoryx2_ports.specs.Asking.{AnswersAs, AsksAs}
use Rattle.iceoryx2_ports.specs.Idling.{IsIdle}
use Rattle.iceoryx2_ports.specs.Reaching.{KeepsRoom}
use Rattle.iceoryx2_ports.proofs.Asking.{IsLike, answers_as, client_shown, same_own_asker}
use Rattle.iceoryx2_ports.proofs.Coming.{write_brings_nothing}
use Rattle.iceoryx2_ports.proofs.Opening.{keeps_open}
use Rattle.iceoryx2_ports.proofs.Reaching.{keeps_room}

-- ---- a handle that is replaced

-- the handle of that number is found in the place of the one that it replaces
pub replaced_own : (g : Handle) (hs : List Handle) (n : ℕ) (k : Handle) → g.number ≡ n → find (λ (j : Handle). j.number == n) hs ≡ Some k
    → find (λ (j : Handle). j.number == n) (with_handle g hs) ≡ Some g
replaced_own g [] n k number e = absurd (none-some k e)
replaced_own g (j ∷ js) n k number e =
    by_cases (j.number == g.number)
    (λ same.
    ap (λ (b : Bool). find (λ (i : Handle). i.number == n) (if b then g ∷ js else j ∷ with_handle g js)) same
    ∙ ap (λ (b : Bool). if b then Some g else find (λ (i : Handle). i.number == n) js) (eq-eqb g.number n number))
    (λ other.
    let off : (j.number == n) ≡ false = ap (λ (i : ℕ). j.number == i) (sym number) ∙ other in
    ap (λ (b : Bool). find (λ (i : Handle). i.number == n) (if b then g ∷ js else j ∷ with_handle g js)) other
    ∙ ap (λ (b : Bool). if b then Some j else find (λ (i : Handle). i.number == n) (with_handle g js)) off
    ∙ replaced_own g js n k number (sym (ap (λ (b : Bool). if b then Some j else find (λ (i : Handle). i.number == n) js) off) ∙ e))

-- it is so of the node's handles
pub put_own : (f : ℕ → List Handle) (g : Handle) (node n : ℕ) (k : Handle) → g.node ≡ node → g.number ≡ n → find (λ (j : Handle). j.number == n) (f node) ≡ Some k
    → find (λ (j : Handle). j.number == n) (put_at f g.node (with_handle g (f g.node)) node) ≡ Some g
put_own f g node n k on number e =
    subst (λ (a : ℕ). find (λ (j : Handle). j.number == n) (put_at f g.node (with_handle g (f g.node)) a) ≡ Some g) on
    (ap (λ (hs : List Handle). find (λ (j : Handle). j.number == n) hs) (put_at-here f g.node (with_handle g (f g.node)))
    ∙ replaced_own g (f g.node) n k number (subst (λ (a : ℕ). find (λ (j : Handle). j.number == n) (f a) ≡ Some k) (sym on) e))

-- ---- a write

module _ (z : State) (node n : ℕ) (h : Handle) (named : subject z.fixed node n ≡ Some (TheHandle h)) (there : handle_at z.fixed node n ≡ Some h)
    (on : h.node ≡ node) (number : h.number ≡ n) where
  -- the end fills the loan, or only tells
  abbrev IsFill : Outcome → Type 0
  IsFill (Tells reply) = Unit {0}
  IsFill (Fills g) = IsLike h g × (g.node ≡ node) × (g.number ≡ n)
  IsFill o = ⊥

  abbrev IsFilling : Doing → Type 0
  IsFilling (Ended o) = IsFill o
  IsFilling d = ⊥

  writes_fill : (k : Option ℕ) (words : List ℕ) → IsFilling (writes h k words)
  writes_fill None words = tt
  writes_fill (Some k) words =
      either IsFilling (k == h.message.elements) (Ended (Fills (written h words))) (refused WrongLength)
      (λ u. (record { port = refl; client = refl; lane = refl; request = refl }, on, number)) (λ u. tt)

  by_filling : (s : State) (i : ℕ) (d : Doing) (ms : List Moment) → IsFilling d → MayCome s i d ms → IsFilling (left_by s i d ms)
  by_filling s i d [] p may = p
  by_filling s i (Ended o) (a ∷ ms) p may = absurd may.1
  by_filling s i d (a ∷ ms) p may = absurd p

  ended_fills : (s : State) (d : Doing) (o : Outcome) → IsFilling d → ends s d ≡ Some o → IsFill o
  ended_fills s (Ended a) o p e = subst IsFill (some-is a o e) p
  ended_fills s d o p e = absurd p

  -- the loan is there still, for the same request
  pub record IsThere (t : State) : Type 0 where
    pub handle : Handle
    pub at : handle_at t.fixed node n ≡ Some handle
    pub like : IsLike h handle

  still : (t : State) → t.fixed ≡ z.fixed → IsThere t
  still t same = record {
    handle = h;
    at = ap (λ (f : Fixed). handle_at f node n) same ∙ there;
    like = record { port = refl; client = refl; lane = refl; request = refl };
  }

  settled_there : (s : State) (payload : List ℕ) (o : Outcome) → s.fixed ≡ z.fixed → IsFill o → IsThere (settled s node payload o)
  settled_there s payload (Tells reply) same p =
      either (λ (t : State). IsThere t) (is_nothing reply) (with_fixed s (called s.fixed)) s
      (λ u. record {
        handle = h;
        at = ap (λ (f : Fixed). handle_at f node n) same ∙ there;
        like = record { port = refl; client = refl; lane = refl; request = refl };
      })
      (λ u. still s same)
  settled_there s payload (Fills g) same p = record {
    handle = g;
    at = put_own s.fixed.handles g node n h p.1 p.2 (ap (λ (f : Fixed). handle_at f node n) same ∙ there);
    like = p.0;
  }
  settled_there s payload o same p = absurd p

  module _ (t : State) (p : Payload) (reply : Reply) where
    done_there : IsDone z node (Write n p) reply t → IsThere t
    done_there done =
        let d : Doing = start z node done.0 (Write n p) in
        let begins : IsFilling d =
        subst (λ (o : Option Subject). IsFilling (option_map_or (begins_at z done.0 (Write n p)) o (refused UnknownNumber))) (sym named) (writes_fill p.elements p.words) in
        subst IsThere (sym done.9)
        (settled_there (moved_by z done.2) done.6 done.4 (moved_by-fixed z done.2)
        (ended_fills (moved_by z done.2) (left_by z node d done.2) done.4 (by_filling z node d done.2 begins done.3) done.5))

    unless_there : (q : Option Refusal) (P : Type 0) → (P → IsThere t) → UnlessRefused q z reply t P → IsThere t
    unless_there (Some r) P f u = still t (ap (λ (v : State). v.fixed) u.1)
    unless_there None P f u = f u

    pub write_there : IsWholeCall z node (Write n p) reply t → IsThere t
    write_there =
        unless_there (misnamed z.fixed node (Write n p)) (UnlessRefused (spent z.fixed (Write n p)) z reply t (IsDone z node (Write n p) reply t))
        (unless_there (spent z.fixed (Write n p)) (IsDone z node (Write n p) reply t) done_there)

-- ---- of a hub

module _ (old new : HubState) (node n : ℕ) (p : Payload) (reply : Reply)
    (whole : (x : Given) → IsWholeCall (state_of_hub x old) node (Write n p) reply (state_of_hub x new))
    (kind : Kind) (no_port : is_port kind ≡ false) (has : HasValue old node n kind) where
  abbrev t : HubTables
  t = old.control.tables

  loan : IsHandleOf t node n kind
  loan = value_is_handle t node n kind no_port has

  abbrev g : Handle
  g = handle_of old loan.handle

  here : handle_at (shown old).fixed node n ≡ Some g
  here =
      find_handle (given_by (nothing_given old) old) (message_of (given_by (nothing_given old) old) t.pools) t.handles node n
      ∙ ap (option_map (handle_of old)) loan.named.there

  now : IsThere (shown old) node n g (each_handle_is_named (given_by (nothing_given old) old) t node n loan.handle loan.named).names here
      (handle_node t.handles node n loan.handle loan.named.there) (handle_number t.handles node n loan.handle loan.named.there) (shown new)
  now =
      write_there (shown old) node n g (each_handle_is_named (given_by (nothing_given old) old) t node n loan.handle loan.named).names here
      (handle_node t.handles node n loan.handle loan.named.there) (handle_number t.handles node n loan.handle loan.named.there) (shown new) p reply
      (whole (nothing_given old))

  -- A loaned response that is written is for the same request.
  pub write_answers_as : AnswersAs old node n new node n
  write_answers_as = answers_as old new node n node n g now.handle here now.at now.like (keeps_open old new node (Write n p) reply refl whole)

  -- So is a loaned request.
  pub write_asks_as : AsksAs old node n new node n
  write_asks_as =
      let who : client_in new node n ≡ client_in old node n
      = client_shown new node n now.handle now.at ∙ same_own_asker g now.handle now.like ∙ sym (client_shown old node n g here) in
      let comes : NothingComes old new = write_brings_nothing old new node n p reply whole in
      let room : KeepsRoom old new = keeps_room old new node (Write n p) reply refl whole in
      record {
        asker = who;
        idle = λ idle.
            subst (IsIdle new) (sym who)
            (record { none = comes (client_in old node n) idle.none; room = room (client_in old node n) idle.room });
      }
