use Rattle.std.specs.Prelude.{IfSome}
use Rattle.std.proofs.Common.{rules, arith, ◌≡◌, ◌+◌, ◌<◌, ◌≤◌, ◌^◌, ℕ, Option, None, [], refl, sym, subst, ap, ◌∙◌}
use Rattle.iox_model.specs.declared.kind.Role.TheVariants.{Client}
use Rattle.iox_model.specs.Commands.{Payload}
use Rattle.iox_word_map.specs.WordMaps.{total_words}
use Rattle.iox_wire_stops.specs.WirePlan.{WirePlan}
use Rattle.iox_wire_stops.specs.Plans.{number_at, sizes_of}
use Rattle.iox_wire_stops.specs.Entry.{Entry}
use Rattle.iox_wire_stops.specs.Aims.{StandAt}
use Rattle.iox_model.specs.declared.call.Call.TheVariants.{Read}
use Rattle.iox_model.specs.declared.call.WireCall.TheVariants.{Port}
use Rattle.iox_wire_stops.specs.Begins.{refusal_at}
use Rattle.iox_wire_handle_calls.specs.HandleCalls.{refusal_in}
use Rattle.iox_wire_handle_calls.specs.PlacedHandles.{IsReadable, words_behind_header}
use Rattle.iox_wire_handle_calls.proofs.MemoryLemmas.{in_memory, user_first}
use Rattle.iox_wire_handle_calls.proofs.reading.begin_read.Goals as goal

few_enough : (count words slot room : ℕ) → count ≡ words → words ≤ slot → slot ≤ room → count ≤ room
few_enough count words slot room is few fits = omega (arith, is, few, fits)

pub words_behind_header-count-requires-clause-fits : goal.words_behind_header-count-requires-clause-fits
words_behind_header-count-requires-clause-fits c =
    let readable : IsReadable c.args.map.now c.in_ok-entry.entry =
    subst (λ (o : Option Entry). IfSome o (IsReadable c.args.map.now)) c.in_ok-entry.ensures.found c.requires.readable in
    let at : number_at c.args.map.now c.port_with_slot-port.result ≡ c.in_ok-entry.entry.sender =
    sym (ap (λ (plan : WirePlan). number_at plan c.port_with_slot-port.result) c.plan.ensures.value) ∙ c.port_with_slot-port.ensures.number in
    let same : words_behind_header c.args.map.now (number_at c.args.map.now c.port_with_slot-port.result) c.in_ok-entry.entry.elements
    ≡ words_behind_header c.args.map.now c.in_ok-entry.entry.sender c.in_ok-entry.entry.elements =
    ap (λ (n : ℕ). words_behind_header c.args.map.now n c.in_ok-entry.entry.elements) at in
    in_memory (total_words (sizes_of c.args.map.now)) _ _ same readable.memory

pub read-requires-clause-memory : goal.read-requires-clause-memory
read-requires-clause-memory c =
    let readable : IsReadable c.args.map.now c.in_ok-entry.entry =
    subst (λ (o : Option Entry). IfSome o (IsReadable c.args.map.now)) c.in_ok-entry.ensures.found c.requires.readable in
    let at : number_at c.args.map.now c.port_with_slot-port.result ≡ c.in_ok-entry.entry.sender =
    sym (ap (λ (plan : WirePlan). number_at plan c.port_with_slot-port.result) c.plan.ensures.value) ∙ c.port_with_slot-port.ensures.number in
    user_first c.args.map.now (number_at c.args.map.now c.port_with_slot-port.result) c.in_ok-entry.entry.elements c.message_of-message.result c.words_behind_header-count.result
    (subst (λ (n : ℕ). total_words (sizes_of c.args.map.now) + words_behind_header c.args.map.now n c.in_ok-entry.entry.elements < 2 ^ 64) (sym at) readable.memory)
    c.message_of-message.ensures.count c.words_behind_header-count.ensures.words
    c.message_of-message.ensures.user c.message_of-message.ensures.payload

pub read-requires-clause-fits : goal.read-requires-clause-fits
read-requires-clause-fits c =
    let readable : IsReadable c.args.map.now c.in_ok-entry.entry =
    subst (λ (o : Option Entry). IfSome o (IsReadable c.args.map.now)) c.in_ok-entry.ensures.found c.requires.readable in
    let at : number_at c.args.map.now c.port_with_slot-port.result ≡ c.in_ok-entry.entry.sender =
    sym (ap (λ (plan : WirePlan). number_at plan c.port_with_slot-port.result) c.plan.ensures.value) ∙ c.port_with_slot-port.ensures.number in
    few_enough c.words_behind_header-count.result _ _ _
    (c.words_behind_header-count.ensures.words ∙ ap (λ (n : ℕ). words_behind_header c.args.map.now n c.in_ok-entry.entry.elements) at)
    readable.few (c.requires.words c.in_ok-entry.entry.sender)

pub returns-clause-begun : goal.returns-clause-begun
returns-clause-begun c p setting =
    let y : Payload = record { role = Client; elements = None; words = [] } in
    let at : c.in_ok-entry.entry.sender ≡ number_at c.args.map.now c.port_with_slot-port.result =
    sym c.port_with_slot-port.ensures.number ∙ ap (λ (plan : WirePlan). number_at plan c.port_with_slot-port.result) c.plan.ensures.value in
    let stand : StandAt p c.in_ok-entry.entry c.message_of-message.result c.words_behind_header-count.result =
    subst (λ (n : ℕ). StandAt p c.in_ok-entry.entry c.message_of-message.result n)
    (sym (c.words_behind_header-count.ensures.read p c.in_ok-entry.entry setting at refl))
    (c.message_of-message.ensures.places p c.in_ok-entry.entry setting at refl) in
    record {
      allowed = c.in_ok-entry.ensures.allowed p y setting tt;
      begun = c.read.ensures.begun p stand ∙ sym (c.in_ok-entry.ensures.begins p y setting);
      aimed = c.read.ensures.aimed p stand;
    }

pub returns-in_err-entry-clause-refused : goal.returns-in_err-entry-clause-refused
returns-in_err-entry-clause-refused c p setting =
    let y : Payload = record { role = Client; elements = None; words = [] } in
    let known : refusal_at p c.args.seat.now.seat (Port (Read c.args.number)) ≡ refusal_in c.in_err-entry.field-0.0 =
    c.in_err-entry.ensures.refused p y setting tt in
    search (rules, known)
