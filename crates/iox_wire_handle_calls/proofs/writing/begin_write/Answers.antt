use Rattle.std.specs.Prelude.{Bool, IfSome, None, Some, if◌then◌else◌, ◌==◌}
use Rattle.std.specs.Option.{option_map_or}
use Rattle.std.proofs.Common.{[], ◌≡◌, ℕ, ◌+◌, ◌*◌, ◌/◌, ◌<◌, ◌≤◌, ◌^◌, List, arith, true, false, Option, length, refl, sym, subst, ap, ◌∙◌, eqb-true, true≢false}
use Rattle.iox_model.specs.declared.kind.Kind.{Kind}
use Rattle.iox_model.specs.declared.kind.Kind.TheVariants as kinds
use Rattle.iox_model.specs.declared.kind.Role.{Role}
use Rattle.iox_model.specs.declared.kind.Role.TheVariants.{Client, Server}
use Rattle.iox_model.specs.Commands.{Payload}
use Rattle.iox_model.specs.Handles.{is_received, is_request_loan, is_response_loan}
use Rattle.iox_model.specs.Settings.{is_client, shape_of}
use Rattle.iox_model.specs.WireCalls.{elements_for}
use Rattle.iox_wire_stops.specs.WirePlan.{WirePlan}
use Rattle.iox_word_map.specs.WordMaps.{total_words}
use Rattle.iox_wire_stops.specs.Plans.{details_of, number_at, sizes_of, slot_words_of}
use Rattle.iox_wire_stops.specs.PlansOf.{IsSettingOf}
use Rattle.iox_wire_stops.specs.Begins.{writes}
use Rattle.iox_wire_stops.specs.Entry.{Entry}
use Rattle.iox_wire_stops.specs.Seat.{Seat}
use Rattle.iox_wire_stops.specs.Tables.{Setting, entry_at}
use Rattle.iox_wire_handle_calls.specs.HandleCalls.{payload_for}
use Rattle.iox_wire_handle_calls.specs.PlacedHandles.{HasLoanSlot, HasRoomForSlots, HasSlot, IsWritable, IsWritableAs, words_each}
use Rattle.iox_wire_handle_calls.proofs.writing.begin_write.Goals as goal

-- what is written was not received
not_received : (role : Role) (k : Kind) → (if is_client role then is_request_loan k else is_response_loan k) ≡ true → is_received k ≡ false
not_received role kinds.Client e = refl
not_received role kinds.Server e = refl
not_received role kinds.RequestMutUninit e = refl
not_received role kinds.RequestMut e = refl
not_received role kinds.ResponseMutUninit e = refl
not_received role kinds.ResponseMut e = refl
not_received role kinds.PendingResponse e = refl
not_received Client kinds.ActiveRequest e = absurd (true≢false (sym e))
not_received Server kinds.ActiveRequest e = absurd (true≢false (sym e))
not_received Client kinds.Response e = absurd (true≢false (sym e))
not_received Server kinds.Response e = absurd (true≢false (sym e))

-- a payload of that role
abbrev any : Role → Payload
any role = record { role = role; elements = None; words = [] }

pub port_with_slot-port-requires : goal.port_with_slot-port-requires
port_with_slot-port-requires c =
    let slot : HasLoanSlot c.args.map.now c.in_ok-loan.loan =
    subst (λ (o : Option Entry). IfSome o (HasLoanSlot c.args.map.now)) c.in_ok-loan.ensures.found c.requires.slot in
    subst (λ (plan : WirePlan). HasSlot plan c.in_ok-loan.loan.port c.in_ok-loan.loan.slot) (sym c.plan.ensures.value)
    (slot (not_received c.args.role c.in_ok-loan.loan.kind (c.in_ok-loan.ensures.suits 0 (any c.args.role) refl)))

written : (room slot total place k w each : ℕ) → k ≡ each * w → each * w ≤ slot → slot ≤ room → place ≤ total → total + each * w < 2 ^ 64 → (place + k < 2 ^ 64) × (k ≤ room)
written room slot total place k w each is few fits there low = (omega (arith, is, few, fits, there, low), omega (arith, is, few, fits))

-- the words of the payload are in memory, and there is room for them
its_words : (map : WirePlan) (role : Role) (e : Entry) (room place : ℕ) (words : List ℕ) → IsWritable map role e → HasRoomForSlots map room → place ≤ total_words (sizes_of map)
    → length words ≡ e.elements * words_each map role → (place + length words < 2 ^ 64) × (length words ≤ room)
its_words map role e room place words is fits there same =
    written room (slot_words_of map e.port) (total_words (sizes_of map)) place (length words) (words_each map role) e.elements same is.few (fits e.port) there is.memory

-- the loan is no longer than a slot of its port
writable : (map : WirePlan) (role : Role) (number : ℕ) (table : List Entry) (e : Entry) → entry_at number table ≡ Some e
    → IfSome (entry_at number table) (IsWritableAs map role) → (if is_client role then is_request_loan e.kind else is_response_loan e.kind) ≡ true → IsWritable map role e
writable map role number table e found may suits = subst (λ (o : Option Entry). IfSome o (IsWritableAs map role)) found may suits

-- words that are of elements are of all that the loan has
all_written : (loaned width n : ℕ) (o : Option ℕ) → o ≡ (if n == loaned * width then Some loaned else None) → o ≡ Some loaned → n ≡ loaned * width
all_written loaned width n o is some = by_case (n == loaned * width) refl (sym is ∙ some)
  where
    by_case : (b : Bool) → (n == loaned * width) ≡ b → (if b then Some loaned else None) ≡ Some loaned → n ≡ loaned * width
    by_case true same told = eqb-true n (loaned * width) same
    by_case false other told = absurd (true≢false (sym (ap (λ (o : Option ℕ). option_map_or (λ k. true) o false) told)))

eighth : (a b : ℕ) → a ≡ 8 * b → a / 8 ≡ b
eighth a b is = omega (arith, is)

-- the elements that are told are those that the machine reads
elements_are : (map : WirePlan) (p : Setting) → IsSettingOf map p → (x : Seat) (number : ℕ) (role : Role) (e : Entry) (words : List ℕ) (width : ℕ) (o : Option ℕ)
    → entry_at number x.table ≡ Some e → width ≡ words_each map role → o ≡ (if length words == e.elements * width then Some e.elements else None)
    → o ≡ (payload_for p x number role words).elements
elements_are map p setting x number role e words width o found each is =
    is
    ∙ ap (λ (k : ℕ). if length words == e.elements * k then Some e.elements else None)
    (each ∙ eighth (details_of map role).payload.size (shape_of p.limits role).width (setting.is_for.shapes role).element)
    ∙ ap (λ (a : Option Entry). option_map_or (λ i. elements_for (shape_of p.limits role) i.elements words) a None) (sym found)

pub elements_written-elements-requires : goal.elements_written-elements-requires
elements_written-elements-requires c =
    let is : IsWritable c.args.map.now c.args.role c.in_ok-loan.loan =
    writable c.args.map.now c.args.role c.args.number c.args.seat.now.seat.table c.in_ok-loan.loan c.in_ok-loan.ensures.found c.requires.writable
    (c.in_ok-loan.ensures.suits 0 (any c.args.role) refl) in
    subst (λ (k : ℕ). c.in_ok-loan.loan.elements * k < 2 ^ 64) (sym c.words_of_element-each.ensures)
    (low (total_words (sizes_of c.args.map.now)) (c.in_ok-loan.loan.elements * words_each c.args.map.now c.args.role) is.memory)
  where
    low : (a b : ℕ) → a + b < 2 ^ 64 → b < 2 ^ 64
    low a b both = omega (arith, both)

pub write-requires-clause-memory : goal.write-requires-clause-memory
write-requires-clause-memory c many =
    let is : IsWritable c.args.map.now c.args.role c.in_ok-loan.loan =
    writable c.args.map.now c.args.role c.args.number c.args.seat.now.seat.table c.in_ok-loan.loan c.in_ok-loan.ensures.found c.requires.writable
    (c.in_ok-loan.ensures.suits 0 (any c.args.role) refl) in
    (its_words c.args.map.now c.args.role c.in_ok-loan.loan c.args.seat.now.words_room c.payload_of-payload.result c.args.words.now is c.requires.words
    c.payload_of-payload.ensures.within
    (all_written c.in_ok-loan.loan.elements c.words_of_element-each.result (length c.args.words.now) c.elements_written-elements.result c.elements_written-elements.ensures many
    ∙ ap (λ (k : ℕ). c.in_ok-loan.loan.elements * k) c.words_of_element-each.ensures)).0

pub write-requires-clause-fits : goal.write-requires-clause-fits
write-requires-clause-fits c many =
    let is : IsWritable c.args.map.now c.args.role c.in_ok-loan.loan =
    writable c.args.map.now c.args.role c.args.number c.args.seat.now.seat.table c.in_ok-loan.loan c.in_ok-loan.ensures.found c.requires.writable
    (c.in_ok-loan.ensures.suits 0 (any c.args.role) refl) in
    (its_words c.args.map.now c.args.role c.in_ok-loan.loan c.args.seat.now.words_room c.payload_of-payload.result c.args.words.now is c.requires.words
    c.payload_of-payload.ensures.within
    (all_written c.in_ok-loan.loan.elements c.words_of_element-each.result (length c.args.words.now) c.elements_written-elements.result c.elements_written-elements.ensures many
    ∙ ap (λ (k : ℕ). c.in_ok-loan.loan.elements * k) c.words_of_element-each.ensures)).1

pub returns-clause-begun : goal.returns-clause-begun
returns-clause-begun c p setting =
    let y : Payload = payload_for p c.args.seat.now.seat c.args.number c.args.role c.args.words.now in
    let same : c.elements_written-elements.result ≡ y.elements =
    elements_are c.args.map.now p setting c.args.seat.now.seat c.args.number c.args.role c.in_ok-loan.loan c.args.words.now c.words_of_element-each.result
    c.elements_written-elements.result c.in_ok-loan.ensures.found c.words_of_element-each.ensures c.elements_written-elements.ensures in
    record {
      allowed = c.in_ok-loan.ensures.allowed p y setting refl;
      begun = c.write.ensures.begun ∙ ap (λ (o : Option ℕ). writes c.args.seat.now.seat c.in_ok-loan.loan o c.args.words.now) same
          ∙ sym (c.in_ok-loan.ensures.begins p y setting);
      aimed = c.write.ensures.aimed p (c.payload_of-payload.ensures.payload p c.in_ok-loan.loan (length c.args.words.now) setting
          (sym c.port_with_slot-port.ensures.number ∙ ap (λ (plan : WirePlan). number_at plan c.port_with_slot-port.result) c.plan.ensures.value) refl);
    }
