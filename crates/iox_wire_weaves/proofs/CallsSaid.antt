-- What a node is asked for is the call that the machine reads, and that the node's own tables tell.
use Rattle.std.specs.Prelude.{is_some, not, option_map, if◌then◌else◌, ◌&&◌, ◌%◌, ◌/◌, ◌⊎◌}
use Rattle.std.specs.Option.{option_map_or}
use Rattle.std.proofs.Common.{◌≡◌, ℕ, suc, ◌+◌, ◌-◌, ◌*◌, ◌<◌, ◌≤◌, ◌==◌, Bool, true, false, List, [], ◌∷◌, length, Option, Some, None, refl, ap, ap₂, sym, subst, ◌∙◌, arith, eqb-true, eq-eqb, inl, inr, true≢false}
use Rattle.std.proofs.Math.Nat.{div-mul-le_self, mod-eq-sub-div-mul}
use Rattle.std.proofs.lemmas.Bool.{cases_Bool}
use Rattle.iox_model.specs.declared.call.Call.TheVariants as calls
use Rattle.iox_model.specs.declared.call.WireCall.TheVariants.{Port}
use Rattle.iox_model.specs.declared.kind.Kind.{Kind}
use Rattle.iox_model.specs.declared.kind.Kind.TheVariants as kinds
use Rattle.iox_model.specs.declared.kind.Role.{Role}
use Rattle.iox_model.specs.declared.kind.Role.TheVariants.{Client, Server}
use Rattle.iox_model.specs.declared.reply.Refusal.TheVariants as refusals
use Rattle.iox_model.specs.Commands.{Call, Payload, Refusal, number_of}
use Rattle.iox_model.specs.Handles.{Subject, TheHandle, ThePort, is_elsewhere, is_request_loan, is_response_loan, kind_of, node_of, port_or_handle, same_kind, subject}
use Rattle.iox_model.specs.Joins.{not_living}
use Rattle.iox_model.specs.Maps.{is_empty, or_else, refused_if}
use Rattle.iox_model.specs.Names.{is_port, misnamed, misnamed_by, suits}
use Rattle.iox_model.specs.Peers.{port_at}
use Rattle.iox_model.specs.Settings.{Limits, Shape, is_client, shape_of}
use Rattle.iox_model.specs.States as machine
use Rattle.iox_model.specs.States.{Fixed, Handle}
use Rattle.iox_model.specs.WireCalls.{copied_payload, elements_for, elements_of, said, written_payload}
use Rattle.iox_model.specs.Weaves.{World, begin_refusal}
use Rattle.iox_laws.proofs.WeaveLedger.Lists.{find-among}
use Rattle.iox_laws.proofs.WeaveLedger.Truths.{none-some}
use Rattle.iox_wire_laws.proofs.WireKeeping.Lookups.{subject_is}
use Rattle.iox_wire_nodes.specs.Calls.{call_in, call_in_words, payload_with}
use Rattle.iox_wire_nodes.specs.Entry.{Entry}
use Rattle.iox_wire_nodes.specs.HandleCalls.{payload_for}
use Rattle.iox_wire_nodes.specs.Known.{known}
use Rattle.iox_wire_nodes.specs.LocalsBegins.{is_busy, misnamed_call, refusal_at}
use Rattle.iox_wire_nodes.specs.Nodes.{seat_in}
use Rattle.iox_wire_nodes.specs.Seat.{Seat}
use Rattle.iox_wire_nodes.specs.Tables.{Setting, entry_at, handle_of}
use Rattle.iox_wire_nodes.specs.WholeElements.{whole_elements}
use Rattle.iox_wire_nodes.specs.declared.handle_call.HandleCall.TheVariants as handle_calls
use Rattle.iox_wire_nodes.specs.declared.node_call.NodeCall.{NodeCall}
use Rattle.iox_wire_nodes.specs.declared.node_call.NodeCall.TheVariants as node_calls
use Rattle.iox_wire_locals.specs.BeginLaws.{Counts}
use Rattle.iox_wire_locals.specs.Knowing.{Knows}
use Rattle.iox_wire_moments.specs.MomentsOf.{Pools}
use Rattle.iox_wire_needs.specs.Following.{Leaving, LeavesNothing, message_at}
use Rattle.iox_wire_needs.specs.Nodes.{NodeStands}
use Rattle.iox_wire_needs.specs.Runs.{Run}
use Rattle.iox_wire_needs.specs.SlotsKnown.{HasEntry}
use Rattle.iox_wire_needs.specs.Stored.{HoldsStored}
use Rattle.iox_wire_weaves.specs.Asking.{call_said}
use Rattle.iox_wire_weaves.specs.Laws.{CallsAreSaid}
use Rattle.iox_wire_weaves.specs.Wires.{Shows, WireData, WireNode, living_refusal, node_at, players_of, refusal_in, seat_of}
use Rattle.iox_wire_weaves.proofs.BeginsShown.{refusals_are_shown}
use Rattle.iox_wire_weaves.proofs.Lookups.{first_none, is_not, not_refused, second_none}
use Rattle.iox_wire_weaves.proofs.NodesKnown.{fits, handle_kind, here, idle, lives, same}

-- ---- names

-- calls of one number that suit the same kinds are misnamed alike
names_alike : (f : Fixed) (n : ℕ) (a b : Call) (s : Option Subject) → number_of a ≡ number_of b → ((on : Bool) (k : Kind) → suits on a k ≡ suits on b k)
    → misnamed_by f n a s ≡ misnamed_by f n b s
names_alike f n a b None number alike = ap (λ k. Some (if is_elsewhere f k then refusals.ForeignNumber else refusals.UnknownNumber)) number
names_alike f n a b (Some x) number alike =
    ap (λ (c : Bool). or_else (refused_if (not (node_of x == n)) refusals.ForeignNumber) (refused_if (not c) refusals.WrongKind)) (alike f.on_wire (kind_of x))

refused_alike : (w : World) (n : ℕ) (a b : Call) → number_of a ≡ number_of b → ((on : Bool) (k : Kind) → suits on a k ≡ suits on b k)
    → begin_refusal w n (Port a) ≡ begin_refusal w n (Port b)
refused_alike w n a b number alike =
    ap (λ o. or_else (not_living w.state n) (or_else (refused_if (is_some (w.doing n)) refusals.Busy) o))
    (names_alike w.state.fixed n a b (subject w.state.fixed n (number_of a)) number alike
    ∙ ap (λ k. misnamed_by w.state.fixed n b (subject w.state.fixed n k)) number)

alike : (w : World) (n : ℕ) (p : Setting) (x : Seat) (call : NodeCall) → begin_refusal w n (Port (call_said w.state.fixed n call)) ≡ begin_refusal w n (Port (call_in p x call))
alike w n p x (node_calls.Loan k m) = refl
alike w n p x (node_calls.Write k y) =
    refused_alike w n (call_said w.state.fixed n (node_calls.Write k y)) (call_in p x (node_calls.Write k y)) refl (λ on kind. refl)
alike w n p x (node_calls.Send k) = refl
alike w n p x (node_calls.SendCopy k y) =
    refused_alike w n (call_said w.state.fixed n (node_calls.SendCopy k y)) (call_in p x (node_calls.SendCopy k y)) refl (λ on kind. refl)
alike w n p x (node_calls.Receive k) = refl
alike w n p x (node_calls.HasRequests k) = refl
alike w n p x (node_calls.Handle k handle_calls.Read) = refl
alike w n p x (node_calls.Handle k handle_calls.Release) = refl
alike w n p x (node_calls.Handle k handle_calls.IsConnected) = refl
alike w n p x (node_calls.Handle k handle_calls.SetHint) = refl
alike w n p x (node_calls.Handle k handle_calls.HasHint) = refl
alike w n p x (node_calls.Handle k handle_calls.HasResponse) = refl

-- ---- elements

-- so many words are of whole elements where nothing is left
nothing_left : (width n : ℕ) → (n / width * width == n) ≡ (n % width == 0)
nothing_left width n = by_rest (n / width * width) n (n % width) (div-mul-le_self n width) (mod-eq-sub-div-mul n width)
  where
    both : (a m r : ℕ) → (b c : Bool) → (a == m) ≡ b → (r == 0) ≡ c → a ≤ m → r ≡ m - a → b ≡ c
    both a m r true true whole none less is = refl
    both a m r false false whole none less is = refl
    both a m r true false whole none less is =
        let e : a ≡ m = eqb-true a m whole in let z : r ≡ 0 = omega (arith, e, is) in absurd (true≢false (sym (eq-eqb r 0 z) ∙ none))
    both a m r false true whole none less is =
        let z : r ≡ 0 = eqb-true r 0 none in let e : a ≡ m = omega (arith, z, less, is) in absurd (true≢false (sym (eq-eqb a m e) ∙ whole))

    by_rest : (a m r : ℕ) → a ≤ m → r ≡ m - a → (a == m) ≡ (r == 0)
    by_rest a m r less is = both a m r (a == m) (r == 0) refl refl less is

some_words : (n : ℕ) → (suc n == 0) ≡ false
some_words n = by_case (suc n == 0) refl
  where
    by_case : (b : Bool) → (suc n == 0) ≡ b → b ≡ false
    by_case false is = refl
    by_case true is = let e : suc n ≡ 0 = eqb-true (suc n) 0 is in absurd (omega (arith, e))

-- the words of a copy are of as many elements as the machine reads
elements_same : (x : Shape) (words : List ℕ) → elements_of x words ≡ whole_elements x words
elements_same x words = by_width x.many (x.width == 0) words
  where
    by_width : (many b : Bool) (ws : List ℕ)
        → (if not many && (b && is_empty ws) then Some 1
        else (if b then (if length ws == 0 then Some 0 else None)
        else (if length ws / x.width * x.width == length ws then Some (length ws / x.width) else None)))
        ≡ (if b then (if length ws == 0 then Some (if many then 0 else 1) else None)
        else (if length ws % x.width == 0 then Some (length ws / x.width) else None))
    by_width true true [] = refl
    by_width false true [] = refl
    by_width true true (w ∷ ws) = refl
    by_width false true (w ∷ ws) =
        ap (λ (c : Bool). if c then Some 0 else None) (some_words (length ws)) ∙ sym (ap (λ (c : Bool). if c then Some 1 else None) (some_words (length ws)))
    by_width true false ws = ap (λ (c : Bool). if c then Some (length ws / x.width) else None) (nothing_left x.width (length ws))
    by_width false false ws = ap (λ (c : Bool). if c then Some (length ws / x.width) else None) (nothing_left x.width (length ws))

-- ---- kinds

-- no port is written, and no server's number is that of an active request
no_port_is_written : (role of : Role) → (if is_client role then is_request_loan (if is_client of then kinds.Client else kinds.Server) else is_response_loan (if is_client of then kinds.Client else kinds.Server)) ≡ true → ⊥
no_port_is_written Client Client is = true≢false (sym is)
no_port_is_written Client Server is = true≢false (sym is)
no_port_is_written Server Client is = true≢false (sym is)
no_port_is_written Server Server is = true≢false (sym is)

no_port_answers : (of : Role) → same_kind (if is_client of then kinds.Client else kinds.Server) kinds.ActiveRequest ≡ true → ⊥
no_port_answers Client is = true≢false (sym is)
no_port_answers Server is = true≢false (sym is)

no_handle_asks : (kind : Kind) → is_port kind ≡ false → same_kind kind kinds.Client ≡ true → ⊥
no_handle_asks kinds.Client none is = true≢false none
no_handle_asks kind none is = true≢false (sym is)

-- a loan of a response is none of a request
of_response : (kind : Kind) → is_response_loan kind ≡ true → is_request_loan kind ≡ false
of_response kinds.ResponseMutUninit is = refl
of_response kinds.ResponseMut is = refl
of_response kind is = absurd (true≢false (sym is))

-- what is named may be asked
allows : (f : Fixed) (n : ℕ) (call : Call) (x : Subject) → misnamed_by f n call (Some x) ≡ None → suits f.on_wire call (kind_of x) ≡ true
allows f n call x none =
    is_not (suits f.on_wire call (kind_of x)) (not_refused (not (suits f.on_wire call (kind_of x))) refusals.WrongKind
    (second_none (refused_if (not (node_of x == n)) refusals.ForeignNumber) (refused_if (not (suits f.on_wire call (kind_of x))) refusals.WrongKind) none))

-- ---- a node that lives and rests

module _ (p : Setting) (wire : WireData) (r : Run) (n : ℕ) (x : WireNode) (shows : Shows p wire r) (there : node_at n wire.nodes ≡ Some x)
    (alive : living_refusal wire.nodes n ≡ None) (rests : is_busy (seat_in x.node).local ≡ false) where
  abbrev z : Seat
  z = seat_of p wire.nodes n

  abbrev f : Fixed
  f = r.last.state.fixed

  abbrev held : Pools
  held = shows.stands.stands.held

  living : not_living r.last.state n ≡ None
  living = lives p wire r n x shows there alive rests

  counts : Counts p (seat_of p wire.nodes n) r.last.state shows.stands.stands.held
  counts = subst (λ (s : Seat). Counts p s r.last.state shows.stands.stands.held) (same p wire r n x shows there alive rests) (shows.stands.stands.shows.counts n living)

  knows : Knows p (seat_of p wire.nodes n) r.last.state.fixed shows.stands.stands.held
  knows = counts.knows

  node_is : (seat_of p wire.nodes n).node ≡ n
  node_is = ap (λ (s : Seat). s.node) (sym (same p wire r n x shows there alive rests)) ∙ shows.stands.stands.shows.node n

  mine : NodeStands p shows.stands.stands.held r.last.state (seat_of p wire.nodes n)
  mine = subst (NodeStands p shows.stands.stands.held r.last.state) (same p wire r n x shows there alive rests) (shows.stands.stands.nodes n living)

  stored : HoldsStored p shows.stands.stands.held shows.stands.stands.contents (seat_of p wire.nodes n)
  stored = subst (HoldsStored p shows.stands.stands.held shows.stands.stands.contents) (same p wire r n x shows there alive rests) (shows.stands.messages.nodes n living)

  -- the message of an entry is as long as that says
  as_long : (k : ℕ) (e : Entry) → entry_at k (seat_of p wire.nodes n).table ≡ Some e → (shows.stands.stands.held e.sender e.slot).elements ≡ e.elements
  as_long k e at = stored.lengths e has (by_part (mine.in_pools e has))
    where
      has : HasEntry (seat_of p wire.nodes n) e
      has =
          ap (λ i. entry_at i (seat_of p wire.nodes n).table)
          (eqb-true e.number k (find-among (λ (i : Entry). i.number == k) e (seat_of p wire.nodes n).table at).1) ∙ at

      leaves : LeavesNothing (message_at (seat_of p wire.nodes n).local)
      leaves = subst (λ l. LeavesNothing (message_at l)) (sym (idle p wire r n x shows there alive rests)) tt

      by_part : (e.slot < (p.port e.sender).pool) ⊎ (message_at (seat_of p wire.nodes n).local ≡ Leaving e) → e.slot < (p.port e.sender).pool
      by_part (inl less) = less
      by_part (inr gone) = absurd (subst LeavesNothing gone leaves)

  no_port : (k : ℕ) (e : Entry) → entry_at k (seat_of p wire.nodes n).table ≡ Some e → is_port e.kind ≡ false
  no_port k e at =
      handle_kind (p.port e.port).role e.kind ((fits p wire r n x shows there alive rests).handles e (
      ap (λ i. entry_at i (seat_of p wire.nodes n).table)
      (eqb-true e.number k (find-among (λ (i : Entry). i.number == k) e (seat_of p wire.nodes n).table at).1) ∙ at)).1

  -- what a number names
  abbrev named : Option machine.Port → Option Entry → Option Subject
  named o e = port_or_handle o (option_map (handle_of shows.stands.stands.held (seat_of p wire.nodes n).node) e)

  subject_there : (k : ℕ) → subject r.last.state.fixed n k ≡ named (port_at (known p (seat_of p wire.nodes n)) k) (entry_at k (seat_of p wire.nodes n).table)
  subject_there k =
      ap (λ i. subject r.last.state.fixed i k) (sym node_is)
      ∙ subject_is p (seat_of p wire.nodes n) r.last.state.fixed shows.stands.stands.held knows k

  -- ---- writes

  module _ (k : ℕ) (role : Role) (words : List ℕ) (any : Option ℕ) where
    abbrev write : Call
    write = calls.Write k (record { role = role; elements = any; words = words })

    abbrev Told : Option Subject → Type 0
    Told s = written_payload r.last.state.fixed s words ≡ payload_for p (seat_of p wire.nodes n) k role words

    written_port : (b : Bool) (q : machine.Port) → misnamed_by r.last.state.fixed n write (if b then Some (ThePort q) else None) ≡ None → Told (if b then Some (ThePort q) else None)
    written_port true q none = absurd (no_port_is_written role q.role (allows r.last.state.fixed n write (ThePort q) none))
    written_port false q none = absurd (none-some _ (sym none))

    role_told : (kind : Kind) (of : Role) → (if is_client of then is_request_loan kind else is_response_loan kind) ≡ true → (if is_request_loan kind then Client else Server) ≡ of
    role_told kind Client suits_it = ap (λ (b : Bool). if b then Client else Server) suits_it
    role_told kind Server suits_it = ap (λ (b : Bool). if b then Client else Server) (of_response kind suits_it)

    shape_told : (kind : Kind) (of : Role) (l : Limits) → (if is_client of then is_request_loan kind else is_response_loan kind) ≡ true
        → (if is_request_loan kind then l.request else l.response) ≡ shape_of l of
    shape_told kind Client l suits_it = ap (λ (b : Bool). if b then l.request else l.response) suits_it
    shape_told kind Server l suits_it = ap (λ (b : Bool). if b then l.request else l.response) (of_response kind suits_it)

    written_handle : (e : Entry) → entry_at k (seat_of p wire.nodes n).table ≡ Some e
        → misnamed_by r.last.state.fixed n write (named None (Some e)) ≡ None → Told (named None (Some e))
    written_handle e at none =
        let suits_it : (if is_client role then is_request_loan e.kind else is_response_loan e.kind) ≡ true =
        allows r.last.state.fixed n write (TheHandle (handle_of shows.stands.stands.held (seat_of p wire.nodes n).node e)) none in
        ap₂ (λ (a : Role) (o : Option ℕ). record { role = a; elements = o; words = words }) (role_told e.kind role suits_it)
        (ap (λ (l : Limits). elements_for (if is_request_loan e.kind then l.request else l.response) (shows.stands.stands.held e.sender e.slot).elements words) knows.limits
        ∙ ap₂ (λ (s : Shape) (m : ℕ). elements_for s m words) (shape_told e.kind role p.limits suits_it) (as_long k e at)
        ∙ ap (λ (a : Option Entry). option_map_or (λ i. elements_for (shape_of p.limits role) i.elements words) a None) (sym at))

    written_there : (o : Option machine.Port) (e : Option Entry) → entry_at k (seat_of p wire.nodes n).table ≡ e
        → misnamed_by r.last.state.fixed n write (named o e) ≡ None → Told (named o e)
    written_there (Some q) e at none = written_port q.held q none
    written_there None (Some e) at none = written_handle e at none
    written_there None None at none = absurd (none-some _ (sym none))

    written : misnamed_by r.last.state.fixed n write (subject r.last.state.fixed n k) ≡ None → Told (subject r.last.state.fixed n k)
    written none =
        subst Told (sym (subject_there k))
        (written_there (port_at (known p (seat_of p wire.nodes n)) k) (entry_at k (seat_of p wire.nodes n).table) refl
        (sym (ap (misnamed_by r.last.state.fixed n write) (subject_there k)) ∙ none))

  -- ---- copies

  module _ (k : ℕ) (words : List ℕ) (any : Option ℕ) where
    abbrev copy : Role → Call
    copy role = calls.SendCopy k (record { role = role; elements = any; words = words })

    abbrev Copied : Role → Option Subject → Type 0
    Copied role s = copied_payload r.last.state.fixed s words ≡ payload_with p role words

    copied_port : (role : Role) (b : Bool) (q : machine.Port) → misnamed_by r.last.state.fixed n (copy role) (if b then Some (ThePort q) else None) ≡ None
        → Copied role (if b then Some (ThePort q) else None)
    copied_port Client true q none =
        ap (λ (o : Option ℕ). record { role = Client; elements = o; words = words })
        (ap (λ (l : Limits). elements_of l.request words) knows.limits ∙ elements_same p.limits.request words)
    copied_port Server true q none = absurd (no_port_answers q.role (allows r.last.state.fixed n (copy Server) (ThePort q) none))
    copied_port role false q none = absurd (none-some _ (sym none))

    copied_handle : (role : Role) (e : Entry) → entry_at k (seat_of p wire.nodes n).table ≡ Some e
        → misnamed_by r.last.state.fixed n (copy role) (named None (Some e)) ≡ None → Copied role (named None (Some e))
    copied_handle Client e at none =
        absurd (no_handle_asks e.kind (no_port k e at)
        (allows r.last.state.fixed n (copy Client) (TheHandle (handle_of shows.stands.stands.held (seat_of p wire.nodes n).node e)) none))
    copied_handle Server e at none =
        ap (λ (o : Option ℕ). record { role = Server; elements = o; words = words })
        (ap (λ (l : Limits). elements_of l.response words) knows.limits ∙ elements_same p.limits.response words)

    copied_there : (role : Role) (o : Option machine.Port) (e : Option Entry) → entry_at k (seat_of p wire.nodes n).table ≡ e
        → misnamed_by r.last.state.fixed n (copy role) (named o e) ≡ None → Copied role (named o e)
    copied_there role (Some q) e at none = copied_port role q.held q none
    copied_there role None (Some e) at none = copied_handle role e at none
    copied_there role None None at none = absurd (none-some _ (sym none))

    copied : (role : Role) → misnamed_by r.last.state.fixed n (copy role) (subject r.last.state.fixed n k) ≡ None → Copied role (subject r.last.state.fixed n k)
    copied role none =
        subst (Copied role) (sym (subject_there k))
        (copied_there role (port_at (known p (seat_of p wire.nodes n)) k) (entry_at k (seat_of p wire.nodes n).table) refl
        (sym (ap (misnamed_by r.last.state.fixed n (copy role)) (subject_there k)) ∙ none))

  -- ---- each call

  same_table : (seat_of p wire.nodes n) ≡ seat_in x.node
  same_table = here p wire r n x shows there

  abbrev Said : NodeCall → Call → Type 0
  Said call own = (call_said r.last.state.fixed n call ≡ own) × (call_said r.last.state.fixed n call ≡ said r.last.state.fixed n (call_in_words call))

  by_call : (call : NodeCall) → misnamed r.last.state.fixed n (call_in p (seat_of p wire.nodes n) call) ≡ None → Said call (call_in p (seat_of p wire.nodes n) call)
  by_call (node_calls.Loan k m) none = (refl, refl)
  by_call (node_calls.Write k y) none =
      let told = written k y.role y.words.now (payload_for p (seat_of p wire.nodes n) k y.role y.words.now).elements none in (
        ap (λ (a : Payload). calls.Write k (record a { role = y.role })) told,
        ap (λ (a : Payload). calls.Write k (record a { role = y.role })) told ∙ ap (λ (a : Payload). calls.Write k a) (sym told),
      )
  by_call (node_calls.Send k) none = (refl, refl)
  by_call (node_calls.SendCopy k y) none =
      let told = copied k y.words.now (payload_with p y.role y.words.now).elements y.role none in (
        ap (λ (a : Payload). calls.SendCopy k (record a { role = y.role })) told,
        ap (λ (a : Payload). calls.SendCopy k (record a { role = y.role })) told ∙ ap (λ (a : Payload). calls.SendCopy k a) (sym told),
      )
  by_call (node_calls.Receive k) none = (refl, refl)
  by_call (node_calls.HasRequests k) none = (refl, refl)
  by_call (node_calls.Handle k handle_calls.Read) none = (refl, refl)
  by_call (node_calls.Handle k handle_calls.Release) none = (refl, refl)
  by_call (node_calls.Handle k handle_calls.IsConnected) none = (refl, refl)
  by_call (node_calls.Handle k handle_calls.SetHint) none = (refl, refl)
  by_call (node_calls.Handle k handle_calls.HasHint) none = (refl, refl)
  by_call (node_calls.Handle k handle_calls.HasResponse) none = (refl, refl)

  named_well : (call : Call) → refusal_at p (seat_in x.node) (Port call) ≡ None → misnamed r.last.state.fixed n call ≡ None
  named_well call allowed =
      let free : begin_refusal r.last n (Port call) ≡ None =
      refusals_are_shown p wire r n call shows
      ∙ ap (λ o. or_else (option_map refusal_in o) (refusal_at p (seat_of p wire.nodes n) (Port call))) alive
      ∙ ap (λ (s : Seat). refusal_at p s (Port call)) same_table ∙ allowed in
      second_none (refused_if (is_some (r.last.doing n)) refusals.Busy) (misnamed r.last.state.fixed n call)
      (second_none (not_living r.last.state n) (or_else (refused_if (is_some (r.last.doing n)) refusals.Busy) (misnamed r.last.state.fixed n call)) free)

  said_so : (call : NodeCall) → refusal_at p (seat_in x.node) (Port (call_in p (seat_in x.node) call)) ≡ None → Said call (call_in p (seat_in x.node) call)
  said_so call allowed =
      subst (λ (s : Seat). Said call (call_in p s call)) same_table
      (by_call call (subst (λ (s : Seat). misnamed r.last.state.fixed n (call_in p s call) ≡ None) (sym same_table) (named_well (call_in p (seat_in x.node) call) allowed)))

pub calls_are_said : CallsAreSaid
calls_are_said p wire r n x call shows there = (
  alike r.last n p (seat_in x.node) call,
  λ alive allowed.
      said_so p wire r n x shows there alive
      (not_refused (is_busy (seat_in x.node).local) refusals.Busy
      (first_none (refused_if (is_busy (seat_in x.node).local) refusals.Busy)
      (misnamed_call p (seat_in x.node) (Port (call_in p (seat_in x.node) call))) allowed)) call allowed,
)
