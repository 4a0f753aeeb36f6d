-- What the begin of a call leads to, and what is left where it is refused.
use Rattle.std.specs.Prelude.{◌*◌, ◌%◌, ◌/◌, ◌^◌, if◌then◌else◌, option_map, position}
use Rattle.std.specs.Option.{option_map_or}
use Rattle.std.proofs.Common.{◌≡◌, ℕ, ◌+◌, ◌-◌, ◌<◌, ◌≤◌, ◌==◌, Bool, true, false, List, length, get_or, Option, None, Some, refl, ap, ap₂, sym, subst, ◌∙◌, arith, slice_set, eqb-true, inl, inr}
use Rattle.std.proofs.lemmas.Bool.{cases_Bool}
use Rattle.std.proofs.Math.Nat.{div-mul-le_self, mod-eq-sub-div-mul}
use Rattle.iox_model.specs.declared.call.WireCall.TheVariants.{Port}
use Rattle.iox_model.specs.Commands.{Call, WireCall}
use Rattle.iox_model.specs.Loans.{Choice}
use Rattle.iox_model.specs.declared.reply.Refusal.TheVariants as refusals
use Rattle.iox_model.specs.Maps.{or_else, refused_if}
use Rattle.iox_model.specs.WireCalls.{elements_for, in_wire_words}
use Rattle.iox_model.specs.Settings.{Shape, shape_of}
use Rattle.iox_model.specs.Weaves.{Begins, begin_refusal}
use Rattle.iox_laws.proofs.WeaveLedger.Truths.{none-some}
use Rattle.iox_wire_weaves.specs.Aims.{MayAdd}
use Rattle.iox_wire_weaves.specs.Asking.{BeginsCall, IsBeginRefusal, asked_of}
use Rattle.iox_wire_weaves.specs.Begins.{is_busy, misnamed_call, refusal_at}
use Rattle.iox_wire_weaves.specs.CallAt.{CallAt}
use Rattle.iox_wire_weaves.specs.CallAt.TheVariants as at
use Rattle.iox_wire_weaves.specs.Calls.{IsKeptAt, call_in, call_in_words}
use Rattle.iox_wire_weaves.specs.Entry.{Entry}
use Rattle.iox_wire_weaves.specs.HandleBounds.{most_of_node}
use Rattle.iox_wire_weaves.specs.HandleCall.TheVariants as handle_calls
use Rattle.iox_wire_weaves.specs.Laws.{LivesAs}
use Rattle.iox_wire_weaves.specs.Lendings.{next_handle}
use Rattle.iox_wire_weaves.specs.Lends.{MayLend}
use Rattle.iox_wire_weaves.specs.MessageBegins.{WordsAreWhole}
use Rattle.iox_wire_weaves.specs.NodeCall.{NodeCall}
use Rattle.iox_wire_weaves.specs.NodeCall.TheVariants.{Handle, HasRequests, Loan, Receive, Send, SendCopy, Write}
use Rattle.iox_wire_weaves.specs.Nodes.{NodeView, seat_at, seat_in}
use Rattle.iox_wire_weaves.specs.NodesBegins.{IsUnderWay, MayBegin, begun_at}
use Rattle.iox_wire_weaves.specs.Replies.{call_within}
use Rattle.iox_wire_weaves.specs.Runs.{GoesOnBy, Run}
use Rattle.iox_wire_weaves.specs.Seat.{Seat}
use Rattle.iox_wire_weaves.specs.Steps.{KeepsReads, most_accesses}
use Rattle.iox_wire_weaves.specs.Tables.{Setting, entry_at}
use Rattle.iox_wire_weaves.specs.Terms.{IsSettingWith}
use Rattle.iox_wire_weaves.specs.WholeElements.{elements_in, elements_of_nothing}
use Rattle.iox_wire_weaves.specs.WirePlan.{WirePlan}
use Rattle.iox_wire_weaves.specs.WireTerms.{WireTerms}
use Rattle.iox_wire_weaves.specs.declared.refusal.WireRefusal.{WireRefusal}
use Rattle.iox_wire_weaves.specs.Wires.{Shows, WireData, WireNode, living_refusal, node_at, refusal_in, seat_of}
use Rattle.iox_wire_weaves.proofs.BeginsShown.{begins_show, refusals_are_shown}
use Rattle.iox_wire_weaves.proofs.CallsSaid.{calls_are_said}
use Rattle.iox_wire_weaves.proofs.HandleSums.{nodes_have_few_handles}
use Rattle.iox_wire_weaves.proofs.HandlesStanding.{handles_stand}
use Rattle.iox_wire_weaves.proofs.Lookups.{first_none, not_refused, same_living, seat_there}
use Rattle.iox_wire.specs.Begun.{HasBegun, IsRefusedBy}
use Rattle.iox_wire.specs.Kept.{IsAtItsCall, IsShown}
use Rattle.iox_wire.specs.Replies.{words_call}
use Rattle.iox_wire.proofs.Accesses.{tells_of_pools}
use Rattle.iox_wire.proofs.Keeping.{each_still, kept_begun, kept_still}
use Rattle.iox_wire.proofs.OwnCalls.{busy_begun, own_begun}
use Rattle.iox_wire.proofs.Roomy.{room_left, roomy_still}
use Rattle.iox_wire_weaves.specs.Rooms.{KeepsRooms}
use Rattle.iox_wire.proofs.MayLend.{may_lend}
use Rattle.iox_wire.proofs.Places.{number_there, read_there, replaced, unchanged_there}

-- ---- payloads

-- so many words are of so many elements
elements_whole : (many : Bool) (width n k : ℕ) → elements_in many width n ≡ Some k → n ≡ k * width
elements_whole many width n k = by_width (width == 0) refl
  where
    told : (a : ℕ) → Some a ≡ Some k → a ≡ k
    told a is = ap (λ (o : Option ℕ). option_map_or (λ i. i) o 0) is

    of_nothing : width ≡ 0 → (b : Bool) → (n == 0) ≡ b → (if b then Some (if many then 0 else 1) else None) ≡ Some k → n ≡ k * width
    of_nothing none true empty is = eqb-true n 0 empty ∙ none_of k width none
      where
        none_of : (a w : ℕ) → w ≡ 0 → 0 ≡ a * w
        none_of a w is = sym (ap (λ i. a * i) is ∙ (let e : a * 0 ≡ 0 = omega arith in e))
    of_nothing none false other is = absurd (none-some k is)

    of_some : (b : Bool) → (n % width == 0) ≡ b → (if b then Some (n / width) else None) ≡ Some k → n ≡ k * width
    of_some true rest is =
        let whole : n % width ≡ 0 = eqb-true (n % width) 0 rest in
        let less : n / width * width ≤ n = div-mul-le_self n width in
        let left : n % width ≡ n - n / width * width = mod-eq-sub-div-mul n width in
        same n (n / width * width) (n % width) whole less left ∙ ap (λ i. i * width) (told (n / width) is)
      where
        same : (a b r : ℕ) → r ≡ 0 → b ≤ a → r ≡ a - b → a ≡ b
        same a b r none less left = omega (arith, none, less, left)
    of_some false rest is = absurd (none-some k is)

    by_width : (b : Bool) → (width == 0) ≡ b → (if b then elements_of_nothing many n else (if n % width == 0 then Some (n / width) else None)) ≡ Some k → n ≡ k * width
    by_width true none is = of_nothing (eqb-true width 0 none) (n == 0) refl is
    by_width false some is = of_some (n % width == 0) refl is

-- so are those that are written
written_whole : (x : Shape) (words : List ℕ) (k : ℕ) (o : Option Entry) → option_map_or (λ e. elements_for x e.elements words) o None ≡ Some k → length words ≡ k * x.width
written_whole x words k None is = absurd (none-some k is)
written_whole x words k (Some e) is = by_case (length words == e.elements * x.width) refl is
  where
    by_case : (b : Bool) → (length words == e.elements * x.width) ≡ b → (if b then Some e.elements else None) ≡ Some k → length words ≡ k * x.width
    by_case true same told =
        eqb-true (length words) (e.elements * x.width) same ∙ ap (λ i. i * x.width) (ap (λ (o : Option ℕ). option_map_or (λ i. i) o k) told)
    by_case false other told = absurd (none-some k told)

-- the words of each call are of whole elements
pub words_are_whole : (p : Setting) (x : Seat) (call : NodeCall) → WordsAreWhole p.limits (Port (call_in p x call))
words_are_whole p x (Loan n k) = tt
words_are_whole p x (Write n y) = λ k is. written_whole (shape_of p.limits y.role) y.words.now k (entry_at n x.table) is
words_are_whole p x (Send n) = tt
words_are_whole p x (SendCopy n y) = λ k is. elements_whole (shape_of p.limits y.role).many (shape_of p.limits y.role).width (length y.words.now) k is
words_are_whole p x (Receive n) = tt
words_are_whole p x (HasRequests n) = tt
words_are_whole p x (Handle n handle_calls.Read) = tt
words_are_whole p x (Handle n handle_calls.Release) = tt
words_are_whole p x (Handle n handle_calls.IsConnected) = tt
words_are_whole p x (Handle n handle_calls.SetHint) = tt
words_are_whole p x (Handle n handle_calls.HasHint) = tt
words_are_whole p x (Handle n handle_calls.HasResponse) = tt

-- ---- a node

three : {A B C D : Type 0} (f : A → B → C → D) {a a' : A} {b b' : B} {c c' : C} → a ≡ a' → b ≡ b' → c ≡ c' → f a b c ≡ f a' b' c'
three f p q r = λ i. f (p i) (q i) (r i)

made_alike : (x : NodeView) (c : CallAt) → (seat_at c x).handles_made ≡ x.seat.seat.handles_made
made_alike x at.Seats = refl
made_alike x at.Receives = refl
made_alike x at.Lends = refl
made_alike x at.SendsRequest = refl
made_alike x at.SendsResponse = refl
made_alike x at.CopiesRequest = refl
made_alike x at.CopiesResponse = refl

-- a node that begins a call rests
rests_if : (p : Setting) (x : Seat) (call : WireCall) → refusal_at p x call ≡ None → is_busy x.local ≡ false
rests_if p x call allowed =
    not_refused (is_busy x.local) refusals.Busy (first_none (refused_if (is_busy x.local) refusals.Busy) (misnamed_call p x call) allowed)

-- a node that began a call, and keeps it
pub has_begun : (plan : WirePlan) (terms : WireTerms) (old : WireNode) (call : NodeCall) (events : ℕ) (mid new : WireNode)
    → (p : Setting) × IsSettingWith plan terms p
    → ((p : Setting) → IsSettingWith plan terms p → IsUnderWay p old.node (Port (call_in p (seat_in old.node) call)) mid.node)
    → IsKeptAt (call_in_words call) mid.node.at
    → ((p : Setting) → mid.node.at ≡ begun_at old.node.seat.seat.table (Port (call_in p (seat_in old.node) call)))
    → (is_busy (seat_in old.node).local ≡ false → (p : Setting) → IsSettingWith plan terms p → (port : ℕ)
    → MayLend old.node.seat (next_handle p old.node.seat.seat) port)
    → KeepsRooms old.node mid.node → mid.number ≡ old.number → LivesAs old mid → mid.read ≡ old.read
    → new ≡ record mid { call = Some (record { call = call_within mid.longest (words_call call); begun = events }) } → HasBegun plan terms old call events new
has_begun plan terms old call events mid new set begun there by_role lends rooms number lives read keeps =
    let way : IsUnderWay set.0 old.node (Port (call_in set.0 (seat_in old.node) call)) mid.node = begun set.0 set.1 in
    let rests : is_busy (seat_in old.node).local ≡ false = rests_if set.0 (seat_in old.node) (Port (call_in set.0 (seat_in old.node) call)) way.allowed in
    let same : mid.node ≡ new.node = sym (ap (λ (x : WireNode). x.node) keeps) in
    record {
      begun = λ p setting. subst (λ (x : NodeView). IsUnderWay p old.node (Port (call_in p (seat_in old.node) call)) x) same (begun p setting);
      ready = subst (λ (x : NodeView). MayAdd x.at x) same (way.ready.may (lends rests set.0 set.1));
      at = subst (λ (x : NodeView). IsKeptAt (call_in_words call) x.at) same there;
      role = λ p. ap (λ (x : NodeView). x.at) (sym same) ∙ by_role p;
      rooms = subst (λ (x : NodeView). KeepsRooms old.node x) same rooms;
      number = ap (λ (x : WireNode). x.number) keeps ∙ number;
      lives = record {
        alive = ap (λ (x : WireNode). x.alive) keeps ∙ lives.alive;
        died = ap (λ (x : WireNode). x.died) keeps ∙ lives.died;
        longest = ap (λ (x : WireNode). x.longest) keeps ∙ lives.longest;
      };
      read = ap (λ (x : WireNode). x.read) keeps ∙ read;
      kept = ap (λ (x : WireNode). x.call) keeps ∙ ap (λ k. Some (record { call = call_within k (words_call call); begun = events })) lives.longest;
    }

-- a call in words is the same in each setting
call_words : (p : Setting) (x : Seat) (call : NodeCall) → words_call call ≡ in_wire_words (Port (call_in p x call))
call_words p x (Loan n k) = refl
call_words p x (Write n y) = refl
call_words p x (Send n) = refl
call_words p x (SendCopy n y) = refl
call_words p x (Receive n) = refl
call_words p x (HasRequests n) = refl
call_words p x (Handle n h) = refl

-- a wire has a setting
pub set_there : (w : WireData) → IsShown w → (p : Setting) × IsSettingWith w.plan w.terms p
set_there w shown = (shown.shows.0, shown.shows.2.setting)

module _ (w : WireData) (n i : ℕ) (d : WireNode) (at : position (λ x. x.number == n) w.nodes ≡ Some i) (read : d ≡ get_or w.nodes i d) where
  there : node_at n w.nodes ≡ Some d
  there = read_there n w.nodes i d at read

  abbrev Now : WireNode → WireData
  Now y = record { plan = w.plan; terms = w.terms; words = w.words; nodes = slice_set w.nodes i y; replies = w.replies; events = w.events; room = w.room }

  -- ---- what a begin relies on

  pub may_begin : IsShown w → living_refusal w.nodes n ≡ None → is_busy (seat_in d.node).local ≡ false → MayBegin w.plan w.terms d.node.seat.seat
  may_begin shown alive rests =
      let p : Setting = shown.shows.0 in let r : Run = shown.shows.1 in let shows : Shows p w r = shown.shows.2 in
      record {
        next = counted w.terms.first_number d.node.seat.seat.handles_made (seat_in d.node).handles_made (seat_in d.node).accesses
            (made_alike d.node d.node.at)
            (subst (λ (s : Seat). s.handles_made ≤ s.accesses) (seat_there p w.nodes n d there) (shows.stands.bounds.handles n))
            (shown.kept n d there).few shown.numbers;
        handles = handles_stand p w r n d shows shown.whole there alive rests (shown.kept n d there).tidy;
      }
    where
      counted : (first own made accesses : ℕ) → made ≡ own → made ≤ accesses → accesses ≤ most_accesses → first + most_accesses < 2 ^ 64 → first + own < 2 ^ 64
      counted first own made accesses is less few numbers = omega (arith, is, less, few, numbers)

  -- there is room for a handle more
  has_room : IsShown w → living_refusal w.nodes n ≡ None → 0 < d.node.seat.room
  has_room shown alive =
      room_left w.plan d.number d.node (shown.rooms n d there)
      (subst (λ k. length d.node.seat.seat.table ≤ most_of_node w.plan k) (sym (number_there n w.nodes i d at read))
      (nodes_have_few_handles shown.shows.0 w shown.shows.1 n d shown.shows.2 alive there))

  -- so it may have one, in each setting of the plan
  pub may_lend_there : IsShown w → living_refusal w.nodes n ≡ None → is_busy (seat_in d.node).local ≡ false
      → (p : Setting) → IsSettingWith w.plan w.terms p → (port : ℕ) → MayLend d.node.seat (next_handle p d.node.seat.seat) port
  may_lend_there shown alive rests p setting port =
      let q : Setting = shown.shows.0 in
      let same : next_handle q d.node.seat.seat ≡ next_handle p d.node.seat.seat
      = ap (λ k. k + d.node.seat.seat.handles_made) (shown.shows.2.setting.first_number ∙ sym setting.first_number) in
      subst (λ k. MayLend d.node.seat k port) same
      (may_lend q w shown.shows.1 n d shown.shows.2 there alive (shown.kept n d there) rests (has_room shown alive) port)

  -- ---- a begin

  module _ (p : Setting) (r : Run) (shows : Shows p w r) (call : NodeCall) where
    -- the call, as its own tables tell
    abbrev own : Call
    own = call_in p (seat_in d.node) call

    -- the machine refuses a call of a living node as these do
    own_refusal : living_refusal w.nodes n ≡ None → begin_refusal r.last n (Port (call_in p (seat_in d.node) call)) ≡ refusal_at p (seat_in d.node) (Port (call_in p (seat_in d.node) call))
    own_refusal alive =
        refusals_are_shown p w r n own shows
        ∙ ap (λ o. or_else (option_map refusal_in o) (refusal_at p (seat_of p w.nodes n) (Port own))) alive
        ∙ ap (λ s. refusal_at p s (Port own)) (seat_there p w.nodes n d there)

    pub asked_refusal : living_refusal w.nodes n ≡ None → begin_refusal r.last n (asked_of r n call) ≡ refusal_at p (seat_in d.node) (Port (call_in p (seat_in d.node) call))
    asked_refusal alive = (calls_are_said p w r n d call shows there).0 ∙ own_refusal alive

    pub begun : (y : WireNode) (events : ℕ) → events ≡ length w.events → living_refusal w.nodes n ≡ None → (seat_in d.node).accesses ≤ most_accesses
        → HasBegun w.plan w.terms d call events y
        → BeginsCall p w n (asked_of r n call) (Now y)
        × (c : Choice) × (after : Run) × GoesOnBy r (Begins n (asked_of r n call) c) after × Shows p (Now y) after
    begun y events count alive few has =
        let way : IsUnderWay p d.node (Port (call_in p (seat_in d.node) call)) y.node = has.begun p shows.setting in
        subst (λ (k : Call). BeginsCall p w n (Port k) (Now y) × (c : Choice) × (after : Run) × GoesOnBy r (Begins n (Port k) c) after × Shows p (Now y) after)
        (sym ((calls_are_said p w r n d call shows there).1 alive way.allowed).0)
        (begins_show p w (Now y) r n d y (Port own) shows
        (own_refusal alive ∙ way.allowed) (words_are_whole p (seat_in d.node) call) (omega (arith, few)) (replaced n w.nodes i d y at read has.number) has.lives
        way.begun (has.role p) (λ pools. way.aimed (tells_of_pools p y.node.at (seat_in y.node).local pools)) refl refl refl refl refl
        (has.kept ∙ ap₂ (λ c k. Some (record { call = call_within d.longest c; begun = k })) (call_words p (seat_in d.node) call) count))

  pub shown_begun : (call : NodeCall) (y : WireNode) (events : ℕ) → events ≡ length w.events → IsShown w → living_refusal w.nodes n ≡ None
      → HasBegun w.plan w.terms d call events y → IsShown (Now y)
  shown_begun call y events count shown alive has =
      let p : Setting = shown.shows.0 in
      let b = begun p shown.shows.1 shown.shows.2 call y events count alive (shown.kept n d there).few has in
      let puts = replaced n w.nodes i d y at read has.number in
      let begins : is_busy (seat_in y.node).local ≡ true
      = busy_begun p (Now y) shown.shows.1 b.2 n y (asked_of shown.shows.1 n call) b.1 b.4
      (same_living w.nodes n d y (Now y).nodes puts has.lives.alive n ∙ alive) puts.here b.3 in
      record {
        shows = (p, b.2, b.4);
        whole = shown.whole;
        numbers = shown.numbers;
        kept = kept_still w.nodes n d y (slice_set w.nodes i y) (replaced n w.nodes i d y at read has.number) shown.kept
            (kept_begun p d.node y.node (Port (call_in p (seat_in d.node) call)) (shown.kept n d there) (has.begun p shown.shows.2.setting).begun has.ready);
        own = each_still IsAtItsCall w.nodes n d y (slice_set w.nodes i y) (replaced n w.nodes i d y at read has.number) shown.own
            (own_begun d y call events begins has.kept has.at);
        rooms = roomy_still w.plan w.nodes n d y (slice_set w.nodes i y) (replaced n w.nodes i d y at read has.number) shown.rooms has.rooms has.number
            (has.begun p shown.shows.2.setting).ready.room.handles;
      }

  -- what was read stays
  pub reads_stay : (call : NodeCall) (y : WireNode) (events : ℕ) → HasBegun w.plan w.terms d call events y → KeepsReads w (Now y)
  reads_stay call y events has m = elim (cases_Bool (m == n)) [
    | inl same ↦ (
        let e : m ≡ n = eqb-true m n same in
        let puts = replaced n w.nodes i d y at read has.number in
        ap (λ k. option_map (λ (x : WireNode). x.read) (node_at k (slice_set w.nodes i y))) e ∙ ap (option_map (λ (x : WireNode). x.read)) puts.here
        ∙ ap (λ (ws : List ℕ). Some ws) has.read
        ∙ sym (ap (λ k. option_map (λ (x : WireNode). x.read) (node_at k w.nodes)) e ∙ ap (option_map (λ (x : WireNode). x.read)) puts.before)
        )
    | inr other ↦ ap (option_map (λ (x : WireNode). x.read)) ((replaced n w.nodes i d y at read has.number).others m other)
  ]

  -- ---- a refusal

  pub refused : (call : NodeCall) (refusal : WireRefusal) → living_refusal w.nodes n ≡ None → IsRefusedBy w.plan w.terms d call refusal → IsBeginRefusal w n call refusal
  refused call refusal alive by p r shows = asked_refusal p r shows call alive ∙ by p shows.setting

  -- ---- a node that stays

  pub as_it_was : (y : WireNode) → y ≡ d → Now y ≡ w
  as_it_was y same = ap (λ xs. record w { nodes = xs }) (unchanged_there w.nodes i d y read same)
