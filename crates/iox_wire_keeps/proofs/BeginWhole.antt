-- The begin of a call leads from what stands to what stands.
use Rattle.iox_wire_calls.proofs.LaneSlots.{free_slots_have_lanes}
use Rattle.iox_wire_calls.specs.LaneLaws.{HasLanesForSlots}
use Rattle.iox_wire_calls.specs.Lanes.{AllLanesAreCounted}
use Rattle.iox_wire_calls.specs.Knowing.{Knows}
use Rattle.iox_wire_keeps.proofs.FirstOwners.{lends_or_sends, owned_entry, owned_port}
use Rattle.iox_wire_keeps.proofs.FirstPlaces.{AnswersOnLanes, at_entry, at_port}
use Rattle.iox_model.specs.declared.call.Call.TheVariants.{Read, Write}
use Rattle.iox_model.specs.declared.call.WireCall.TheVariants as wire_calls
use Rattle.iox_wire_calls.specs.Begins as begins
use Rattle.iox_wire_calls.specs.Courses as courses
use Rattle.iox_wire_calls.specs.Ending.TheVariants as endings
use Rattle.std.proofs.lemmas.Nat.{mul-le}
use Rattle.iox_wire_calls.proofs.PlaceBegins.{by_call}
use Rattle.iox_wire_calls.specs.Aside.{shown}
use Rattle.std.specs.Prelude.{Bool, List, None, Some, [], false, if◌then◌else◌, length, refl, true, ℕ, ◌*◌, ◌++◌, ◌+◌, ◌-◌, ◌<◌, ◌==◌, ◌^◌, ◌∷◌, ◌≡◌, ◌≤◌, ◌⊎◌, Option, ◌||◌}
use Rattle.iox_wire_calls.specs.Stands.{Player, Stands, seats_of, word_of}
use Rattle.std.proofs.Common.{ap, arith, eqb-true, inl, inr, subst, sym, ◌∙◌, suc}
use Rattle.iox_wire_calls.specs.Places.{CallFits, IsOfLoan, OwnersAreSet}
use Rattle.iox_wire_calls.specs.Runs.{Asked, GoesOnBy, Run}
use Rattle.iox_wire_calls.proofs.CallsBegin.{owners_are_set, rested, named, rests, alive}
use Rattle.iox_wire_calls.proofs.PlaceBegins.{begins_fit}
use Rattle.iox_wire_calls.specs.Following.{LeavesNothing, Leaving, message_at}
use Rattle.iox_laws.proofs.WeaveLedger.Lists.{find-among}
use Rattle.iox_wire_calls.specs.Known.{loans_at, known}
use Rattle.iox_wire_calls.specs.Tables.{Setting, entry_at, port_shape, words_before_payload}
use Rattle.iox_wire_calls.specs.Seat.{Seat}
use Rattle.iox_wire_calls.specs.SlotsKnown.{HasEntry}
use Rattle.iox_wire_calls.proofs.CallsBegun.{begun_calls_stand}
use Rattle.iox_wire_keeps.specs.MessageBegins.{BegunWiresStand, FirstFits, WordsAreWhole}
use Rattle.iox_wire_calls.specs.Begins.{begin, misnamed_call}
use Rattle.iox_wire_calls.specs.Readiness.{choice_for}
use Rattle.iox_model.specs.Joins.{not_living}
use Rattle.iox_wire_calls.specs.CallsStand.{BeginIsTold, CallsStand, moves_words}
use Rattle.iox_wire_calls.specs.Entry.{Entry}
use Rattle.iox_model.specs.Weaves.{Begins, World, begin_refusal}
use Rattle.iox_wire_keeps.specs.Stored.{EntrySuits, HoldsStored, IsStored, IsWritten, SlotsHoldMessages}
use Rattle.iox_wire_keeps.specs.WireStands.{WireStands}
use Rattle.iox_wire_calls.specs.Holding.{held_at}
use Rattle.iox_wire_calls.specs.Nodes.{NodeStands}
use Rattle.iox_wire_calls.proofs.StepsKept.{shown_same}
use Rattle.iox_model.specs.Maps.{has_number, put_at}
use Rattle.iox_laws.proofs.WeaveLedger.Views.{less}
use Rattle.iox_model.specs.Commands.{WireCall, Payload}
use Rattle.iox_wire_keeps.specs.Bounds.{AccessesBound}
use Rattle.iox_wire_keeps.proofs.Bounds.{begins_leave_bounds}
use Rattle.iox_wire_keeps.proofs.MessageBegins.{begins_leave_messages}
use Rattle.iox_wire_calls.specs.FarSlots.{IsInPool}
use Rattle.iox_model.specs.States.{State}
use Rattle.iox_wire_calls.specs.Local.TheVariants.{Idle, LendStores}
use Rattle.iox_wire_calls.specs.NewLoan.{NewLoan}
use Rattle.iox_wire_calls.specs.Places.{PlaceFits}
use Rattle.iox_wire_keeps.specs.Serials.{TellsSerials}
use Rattle.iox_wire_keeps.proofs.WireSerials.{begun_serials}
use Rattle.iox_wire_calls.proofs.BeginsKept.{begins_leave_nothing}
use Rattle.iox_steps.specs.Sites.{last_position}
use Rattle.iox_model.specs.Handles.{is_request_loan, is_response_loan}
use Rattle.iox_wire_calls.specs.OwnedWords.{HasSlot, Owns}
use Rattle.iox_model.specs.declared.kind.Role.TheVariants.{Client, Server}
use Rattle.iox_model.specs.Settings.{is_client}
use Rattle.iox_model.specs.declared.kind.Role.{Role}
use Rattle.iox_wire_calls.specs.Begins.{begins_at}
use Rattle.iox_model.specs.declared.kind.Kind.{Kind}
use Rattle.iox_wire_calls.specs.CallRefusal.TheVariants.{WrongLength}
use Rattle.iox_wire_keeps.proofs.OwnWrites.{loan_kept}
use Rattle.iox_model.specs.Peers.{port_at}
use Rattle.iox_laws.proofs.WeaveLaws.MapLemmas.{either}
use Rattle.iox_wire_calls.proofs.OwnedBegins.{writes_and_reads_begin_as_owners}

-- two lists without a word
no_words_left : (xs ys : List ℕ) (a b : ℕ) → length xs ≡ a → length ys ≡ b → (a + b == 0) ≡ true → xs ++ ys ≡ []
no_words_left [] [] a b first second is = refl
no_words_left [] (y ∷ ys) a b first second is = absurd (some a b (length ys) second (eqb-true (a + b) 0 is))
  where
    some : (a b m : ℕ) → suc m ≡ b → a + b ≡ 0 → ⊥
    some a b m more none = omega (arith, more, none)
no_words_left (x ∷ xs) ys a b first second is = absurd (some a b (length xs) first (eqb-true (a + b) 0 is))
  where
    some : (a b m : ℕ) → suc m ≡ a → a + b ≡ 0 → ⊥
    some a b m more none = omega (arith, more, none)

module _ (p : Setting) (words : List ℕ) (players : ℕ → Player) (r : Run) (n : ℕ) (call : WireCall) (wire : WireStands p words players r)
    (few : (players n).seat.accesses < last_position) (whole : WordsAreWhole p.limits call) (free : begin_refusal r.last n call ≡ None) where
  abbrev z : Seat
  z = (players n).seat

  idle : (players n).seat.local ≡ Idle
  idle = rests p words players r n call wire.stands wire.calls free

  living : not_living r.last.state n ≡ None
  living = alive p words players r n call wire.stands wire.calls free

  same : seats_of p players n ≡ (players n).seat
  same = rested p words players r n call wire.stands wire.calls free

  few_loans : (port : ℕ) → loans_at (players n).seat port < 2 ^ 64
  few_loans port = low (loans_at (players n).seat port) (players n).seat.accesses (wire.bounds.loans n port) few
    where
      low : (a b : ℕ) → a ≤ b → b < 2 ^ 64 - 1 → a < 2 ^ 64
      low a b less few = omega (arith, less, few)

  stored : HoldsStored p wire.stands.held wire.stands.contents (players n).seat
  stored = subst (HoldsStored p wire.stands.held wire.stands.contents) same (wire.messages.nodes n living)

  node : NodeStands p wire.stands.held r.last.state (players n).seat
  node = subst (NodeStands p wire.stands.held r.last.state) same (wire.stands.nodes n living)

  entry_low : (e : Entry) → HasEntry (players n).seat e → IsInPool p e.sender e.slot
  entry_low e there = by_part (node.in_pools e there)
    where
      by_part : IsInPool p e.sender e.slot ⊎ (message_at (players n).seat.local ≡ Leaving e) → IsInPool p e.sender e.slot
      by_part (inl low) = low
      by_part (inr leaves) = absurd (subst LeavesNothing leaves (subst (λ l. LeavesNothing (message_at l)) (sym idle) tt))

  its_entry : (k : ℕ) (e : Entry) → entry_at k (players n).seat.table ≡ Some e → HasEntry (players n).seat e
  its_entry k e at =
      ap (λ i. entry_at i (players n).seat.table) (eqb-true e.number k (find-among (λ (i : Entry). i.number == k) e (players n).seat.table at).1) ∙ at

  -- ---- writes and reads own their first place

  abbrev First : Seat → Type 0
  First q = FirstFits p q.local → Owns p (players n).seat.node r.last.state.fixed r.last.state.request_state q.local

  its_stored : (e : Entry) → HasEntry (players n).seat e → IsStored p wire.stands.held wire.stands.contents e.sender e.slot
  its_stored e there = stored.entries e there (entry_low e there) (λ its. subst (λ l. IsWritten l e) idle its)

  has_slot : (e : Entry) → HasEntry (players n).seat e → HasSlot p e
  has_slot e there = record {
    region = (its_stored e there).fits.region;
    in_pool = entry_low e there;
    room = more (words_before_payload p e.sender) _ _
        (mul-le e.elements (port_shape p e.sender).width (p.port e.sender).longest (port_shape p e.sender).width
        (subst (λ k. k ≤ (p.port e.sender).longest) (stored.lengths e there (entry_low e there)) (its_stored e there).fits.room) (same_width (port_shape p e.sender).width));
  }
    where
      same_width : (k : ℕ) → k ≤ k
      same_width k = omega arith

      more : (a b d : ℕ) → b ≤ d → a + b ≤ a + d
      more a b d less = omega (arith, less)

  reads_owned : (e : Entry) → HasEntry (players n).seat e → First (begins.reads p (players n).seat e)
  reads_owned e there fits =
      (writes_and_reads_begin_as_owners p (players n).seat r.last.state.fixed r.last.state.request_state e [] (has_slot e there)).1

  loan_of : (role : Role) (kind : Kind) → (if is_client role then is_request_loan kind else is_response_loan kind) ≡ true → IsOfLoan kind
  loan_of Client kind is = ap (λ b. b || is_response_loan kind) is
  loan_of Server kind is = either_is (is_request_loan kind) (is_response_loan kind) is
    where
      either_is : (a b : Bool) → b ≡ true → (a || b) ≡ true
      either_is true b is = refl
      either_is false b is = is

  writing_owned : (e : Entry) (list : List ℕ) → HasEntry (players n).seat e → IsOfLoan e.kind → First (begins.writing (players n).seat e list)
  writing_owned e [] there loan fits = tt
  writing_owned e (word ∷ list) there loan fits =
      (writes_and_reads_begin_as_owners p (players n).seat r.last.state.fixed r.last.state.request_state e (word ∷ list) (has_slot e there)).0 own
      (at_most (length (word ∷ list)) _ (fits ∙ ap (λ i. e.elements * (port_shape p i).width) (sym own)))
    where
      own : e.sender ≡ e.port
      own = ((node.names.entries e there).own (loan_kept e.kind loan)).1

      at_most : (a b : ℕ) → a ≡ b → a ≤ b
      at_most a b is = omega (arith, is)

  writes_owned : (e : Entry) (k : Option ℕ) (list : List ℕ) → HasEntry (players n).seat e → IsOfLoan e.kind → First (begins.writes (players n).seat e k list)
  writes_owned e None list there loan = λ fits. tt
  writes_owned e (Some k) list there loan =
      either First (k == e.elements) (begins.writing (players n).seat e list) (courses.ended (players n).seat (endings.Refuses WrongLength))
      (λ is. writing_owned e list there loan) (λ is fits. tt)

  write_owned : (k : ℕ) (y : Payload) → call ≡ wire_calls.Port (Write k y)
      → First (begins_at p (players n).seat (Write k y) (port_at (known p (players n).seat) k) (entry_at k (players n).seat.table))
  write_owned k y is =
      by_call p (players n).seat wire.stands.numbers (owners_are_set p words players r n call wire.stands wire.calls free) (Write k y)
      (subst (CallFits p) same (wire.calls n living).fits) First (λ fits. tt) (λ q home set suited fits. tt)
      (λ e there its suited. writes_owned e y.elements y.words there (loan_of y.role e.kind suited))
      (subst (λ c. misnamed_call p (players n).seat c ≡ None) is (named p words players r n call wire.stands wire.calls free))

  read_owned : (k : ℕ) → call ≡ wire_calls.Port (Read k)
      → First (begins_at p (players n).seat (Read k) (port_at (known p (players n).seat) k) (entry_at k (players n).seat.table))
  read_owned k is =
      by_call p (players n).seat wire.stands.numbers (owners_are_set p words players r n call wire.stands wire.calls free) (Read k)
      (subst (CallFits p) same (wire.calls n living).fits) First (λ fits. tt) (λ q home set suited fits. tt)
      (λ e there its suited. reads_owned e there)
      (subst (λ c. misnamed_call p (players n).seat c ≡ None) is (named p words players r n call wire.stands wire.calls free))

  abbrev FirstOwned : WireCall → Type 0
  FirstOwned c = Owns p (players n).seat.node r.last.state.fixed r.last.state.request_state (begin p (players n).seat c).local

  -- ---- loans, sends and hints do, too

  knows : Knows p (players n).seat r.last.state.fixed wire.stands.held
  knows = subst (λ q. Knows p q r.last.state.fixed wire.stands.held) same (wire.stands.shows.counts n living).knows

  suited : (e : Entry) → HasEntry (players n).seat e → EntrySuits p e
  suited e there = stored.suits e there (entry_low e there)

  -- a request that was received is on a lane of its client
  answers : AnswersOnLanes p (players n).seat
  answers e there received =
      let at = (node.released e there).request received in (
        subst (λ ks. has_number e.client ks ≡ true) (sym wire.stands.layout.clients) at.3,
        subst (λ lanes. e.lane < lanes) (sym (wire.stands.layout.lanes e.client at.3)) at.1,
      )

  set : OwnersAreSet p
  set = owners_are_set p words players r n call wire.stands wire.calls free

  handled : CallFits p (players n).seat
  handled = subst (CallFits p) same (wire.calls n living).fits

  lanes : AllLanesAreCounted p (players n).seat
  lanes = subst (AllLanesAreCounted p) same (wire.calls n living).lanes

  lanes_for : HasLanesForSlots p (players n).seat
  lanes_for =
      subst (HasLanesForSlots p) same
      (free_slots_have_lanes p wire.stands.held (word_of words) wire.stands.contents (seats_of p players) r.last n wire.stands.shows living (wire.stands.nodes n living)
      (wire.calls n living).lanes)

  sent_owned : (c : WireCall) → call ≡ c → lends_or_sends c ≡ true → FirstOwned c
  sent_owned (wire_calls.Port c) is moves =
      by_call p (players n).seat wire.stands.numbers set c handled
      (λ q. Owns p (players n).seat.node r.last.state.fixed r.last.state.request_state q.local) tt
      (owned_port p words players r n wire.stands living (players n).seat knows node set lanes_for lanes idle wire.sizes suited answers few_loans c moves
      (subst (WordsAreWhole p.limits) is whole))
      (owned_entry p words players r n wire.stands living (players n).seat knows node set lanes_for lanes idle wire.sizes suited answers few_loans c moves
      (subst (WordsAreWhole p.limits) is whole))
      (subst (λ c. misnamed_call p (players n).seat c ≡ None) is (named p words players r n call wire.stands wire.calls free))
  sent_owned (wire_calls.Forget dead) is moves = tt

  -- what is lent or written is as long as it says
  long_first : (c : WireCall) → call ≡ c → FirstFits p (begin p (players n).seat c).local
  long_first (wire_calls.Port c) is =
      by_call p (players n).seat wire.stands.numbers set c handled (λ q. FirstFits p q.local) tt
      (at_port p (players n).seat wire.sizes suited answers few_loans c (subst (WordsAreWhole p.limits) is whole))
      (at_entry p (players n).seat wire.sizes suited answers few_loans c (subst (WordsAreWhole p.limits) is whole))
      (subst (λ c. misnamed_call p (players n).seat c ≡ None) is (named p words players r n call wire.stands wire.calls free))
  long_first (wire_calls.Forget dead) is = tt

  long : FirstFits p (begin p (players n).seat call).local
  long = long_first call refl

  owns_first : (c : WireCall) → call ≡ c → moves_words c ≡ true → FirstOwned c
  owns_first (wire_calls.Port (Write k y)) is moves = write_owned k y is (subst (λ i. FirstFits p (begin p (players n).seat i).local) is long)
  owns_first (wire_calls.Port (Read k)) is moves = read_owned k is (subst (λ i. FirstFits p (begin p (players n).seat i).local) is long)
  owns_first c is moves = sent_owned c is moves

  begin_told : BeginIsTold p wire.stands.held r.last.state (players n).seat call
  begin_told = record {
    elements = λ k e at. stored.lengths e (its_entry k e at) (entry_low e (its_entry k e at));
    words = λ k e at none.
        let there = its_entry k e at in
        let fit = (stored.entries e there (entry_low e there) (λ its. subst (λ l. IsWritten l e) idle its)).fits in
        no_words_left (wire.stands.held e.sender e.slot).user (wire.stands.held e.sender e.slot).payload (length (port_shape p e.sender).user)
        (e.elements * (port_shape p e.sender).width) fit.user
        (fit.payload ∙ ap (λ i. i * (port_shape p e.sender).width) (stored.lengths e there (entry_low e there))) none;
    owns = owns_first call refl;
  }

  pub begun_run : (next : Run) × GoesOnBy r (Begins n call (choice_for p (players n).seat call)) next
      × (later : Stands p words (put_at players n (record { seat = begin p (players n).seat call; said = (players n).said ++ Asked call ∷ [] })) next)
      × (later.held ≡ held_at p wire.stands.held (begin p (players n).seat call).local)
      × (later.contents ≡ wire.stands.contents)
      × CallsStand p later.held (put_at players n (record { seat = begin p (players n).seat call; said = (players n).said ++ Asked call ∷ [] })) next.last.state
  begun_run = begun_calls_stand p words players r n call wire.stands wire.calls few_loans begin_told free

  first_fits : CallFits p (begin p (players n).seat call)
  first_fits =
      begins_fit p (players n).seat call wire.stands.numbers (owners_are_set p words players r n call wire.stands wire.calls free)
      (named p words players r n call wire.stands wire.calls free) (subst (CallFits p) same (wire.calls n living).fits)

  abbrev Held : Seat → Type 0
  Held q =
      SlotsHoldMessages p (held_at p wire.stands.held (begin p q call).local) wire.stands.contents (put_at (seats_of p players) n (begin p q call)) r.last.state

  messages_begun : Held (players n).seat
  messages_begun =
      subst Held same
      (begins_leave_messages p wire.stands.held (word_of words) wire.stands.contents (seats_of p players) r.last n call wire.stands.shows wire.stands.layout wire.stands.nodes
      (λ k lives. (wire.calls k lives).fits) living (ap (λ (q : Seat). q.local) same ∙ idle) (subst (λ q. CallFits p (begin p q call)) (sym same) first_fits)
      (subst (λ q. FirstFits p (begin p q call).local) (sym same) long) wire.messages)

  same_shown : shown p (begin p (players n).seat call) ≡ begin p (players n).seat call
  same_shown = shown_same p (begin p (players n).seat call) (begin p (players n).seat call).local (begins_leave_nothing p (players n).seat call)

  abbrev player : Player
  player = record { seat = begin p (players n).seat call; said = (players n).said ++ Asked call ∷ [] }

  same_seats : seats_of p (put_at players n player) ≡ put_at (seats_of p players) n (begin p (players n).seat call)
  same_seats = λ d k. by_seat k (k == n) d
    where
      by_seat : (k : ℕ) (b : Bool) → shown p (if b then player else players k).seat ≡ (if b then begin p (players n).seat call else shown p (players k).seat)
      by_seat k true = same_shown
      by_seat k false = refl

  same_raw : (λ i. (put_at players n player i).seat) ≡ put_at (λ i. (players i).seat) n (begin p (players n).seat call)
  same_raw = λ d k. by_seat k (k == n) d
    where
      by_seat : (k : ℕ) (b : Bool) → (if b then player else players k).seat ≡ (if b then begin p (players n).seat call else (players k).seat)
      by_seat k true = refl
      by_seat k false = refl

  lives_then : not_living begun_run.0.last.state n ≡ None
  lives_then = ap (λ (v : World). not_living v.state n) begun_run.1.beat.2 ∙ living

  serials_begun : (m : ℕ) → TellsSerials p begun_run.2.held (put_at players n player m).seat
  serials_begun =
      begun_serials p words players r n wire call player refl begun_run.2.held begun_run.3
      (λ o slot is. at_home o slot is ∙ begun_run.2.shows.node n)
    where
      -- the slot that a loan takes is one of the node's port
      at_home : (o : NewLoan) (slot : ℕ) → (seats_of p (put_at players n player) n).local ≡ LendStores o slot 0
          → p.layout.owner o.port ≡ (seats_of p (put_at players n player) n).node
      at_home o slot is = (subst (PlaceFits p (seats_of p (put_at players n player) n)) is (begun_run.5 n lives_then).fits.place).0.1

  pub begun_wire : WireStands p words (put_at players n player) begun_run.0
  begun_wire = record {
    stands = begun_run.2;
    calls = begun_run.5;
    messages = subst (λ (t : State). SlotsHoldMessages p begun_run.2.held begun_run.2.contents (seats_of p (put_at players n player)) t)
        (sym (ap (λ (v : World). v.state) begun_run.1.beat.2))
        (subst (λ (ss : ℕ → Seat). SlotsHoldMessages p begun_run.2.held begun_run.2.contents ss r.last.state) (sym same_seats)
        (subst (λ h. SlotsHoldMessages p h begun_run.2.contents (put_at (seats_of p players) n (begin p (players n).seat call)) r.last.state) (sym begun_run.3)
        (subst (λ d. SlotsHoldMessages p (held_at p wire.stands.held (begin p (players n).seat call).local) d (put_at (seats_of p players) n (begin p (players n).seat call)) r.last.state)
        (sym begun_run.4) messages_begun)));
    bounds = subst (λ (ss : ℕ → Seat). AccessesBound p begun_run.2.contents ss) (sym same_raw)
        (subst (λ d. AccessesBound p d (put_at (λ i. (players i).seat) n (begin p (players n).seat call))) (sym begun_run.4)
        (begins_leave_bounds p wire.stands.contents (λ i. (players i).seat) n call wire.bounds));
    sizes = wire.sizes;
    serials = serials_begun;
  }

pub begun_wires_stand : BegunWiresStand
begun_wires_stand p words players r n call wire few whole free = (
  (begun_run p words players r n call wire few whole free).0,
  (begun_run p words players r n call wire few whole free).1,
  begun_wire p words players r n call wire few whole free,
)
