use Rattle.std.proofs.Common.{◌≡◌, ℕ, ◌*◌, ◌/◌, ◌<◌, List, length, get_or, refl, ap, sym, subst, ◌∙◌, arith, true≢false}
use Rattle.std.specs.Prelude.{Option, Some, IsSomeAnd, slice_get}
use Rattle.std.specs.Option.{option_map_or}
use Rattle.std.proofs.lemmas.Option.{slice_get-get_or}
use Rattle.iox_model.specs.declared.kind.Role.{Role}
use Rattle.iox_model.specs.declared.kind.Role.TheVariants.{Client, Server}
use Rattle.iox_model.specs.Settings.{is_client}
use Rattle.iox_wire_ways.specs.PlanPort.{PlanPort}
use Rattle.iox_wire_ways.specs.WirePlan.{WirePlan}
use Rattle.iox_wire_ways.specs.Plans.{details_of}
use Rattle.iox_wire_ways.proofs.PairLemmas.{index_there}
use Rattle.iox_wire_ways.proofs.PlanLemmas.{number_is, port_is}
use Rattle.iox_wire_lenders.specs.declared.terms.MessageTerms.{MessageTerms}
use Rattle.iox_wire_lenders.specs.declared.terms.PortTerms.{PortTerms}
use Rattle.iox_wire_lenders.specs.Terms.{IsWholePort, messages_of}
use Rattle.iox_wire_lenders.proofs.LenderLemmas as lenders
use Rattle.iox_wire_ways.specs.SlotPlaces.{SlotPlaces}
use Rattle.iox_wire_ways.specs.Stored.{header_length}
use Rattle.iox_wire_ways.specs.PlannedSlots.{role_there}
use Rattle.iox_wire_ways.proofs.SlotLemmas.{role_of_port, slot_below}
use Rattle.iox_wire_lenders.proofs.lenders.make_lender.Goals as goal
use Rattle.iox_wire_lenders.proofs.lenders.make_lender.Goals.{in-Client, in-Server}

differ : Client ≡ Server → ⊥
differ e = true≢false (ap is_client e)

-- the words of a user header, from their bytes
words_in : (size words : ℕ) → size ≡ 8 * words → size / 8 ≡ words
words_in size words e = omega (arith, e)

pub returns-clause-lender : goal.returns-clause-lender
returns-clause-lender c p with =
    let q : PlanPort = c.index-at.result.now in
    let low : c.args.port < length c.args.map.now.ports.items = slot_below c.args.map.now c.args.port c.requires.slot in
    let same : q ≡ get_or c.args.map.now.ports.items c.args.port q =
    c.index-at.ensures ∙ ap (λ (plan : WirePlan). get_or plan.ports.items c.args.port q) c.plan-plan.ensures.value in
    let own : PortTerms = c.index-own.result.now in
    let told : slice_get c.args.terms.now.ports.items c.args.port ≡ Some own =
    slice_get-get_or c.args.terms.now.ports.items c.args.port own
    (index_there PortTerms (IsWholePort c.args.map.now c.args.terms.now) c.args.terms.now.ports.items c.args.port (c.requires.fits.ports c.args.port low))
    ∙ ap (λ (r : PortTerms). Some r) (sym c.index-own.ensures) in
    lenders.is_lender c.args.map.now c.plan-plan.ensures.plan c.args.port q low same c.args.terms.now own told p with _ refl refl
    (ap (λ (m : MessageTerms). m.many) c.messages-messages.ensures) refl c.deref.ensures.value
    (c.deref-2.ensures.value ∙ ap (λ (m : MessageTerms). m.user.items) c.messages-messages.ensures)
    (c.slot_places.ensures.slots p with.setting)

pub returns-clause-client : goal.returns-clause-client
returns-clause-client c p with client =
    let q : PlanPort = c.index-at.result.now in
    let low : c.args.port < length c.args.map.now.ports.items = slot_below c.args.map.now c.args.port c.requires.slot in
    let same : q ≡ get_or c.args.map.now.ports.items c.args.port q =
    c.index-at.ensures ∙ ap (λ (plan : WirePlan). get_or plan.ports.items c.args.port q) c.plan-plan.ensures.value in
    let own : PortTerms = c.index-own.result.now in
    let told : slice_get c.args.terms.now.ports.items c.args.port ≡ Some own =
    slice_get-get_or c.args.terms.now.ports.items c.args.port own
    (index_there PortTerms (IsWholePort c.args.map.now c.args.terms.now) c.args.terms.now.ports.items c.args.port (c.requires.fits.ports c.args.port low))
    ∙ ap (λ (r : PortTerms). Some r) (sym c.index-own.ensures) in
    let kind : q.role ≡ Client =
    ap (λ (r : PlanPort). r.role) same
    ∙ subst (λ (o : Option PlanPort). IsSomeAnd o (λ r. r.role ≡ Client)) (slice_get-get_or c.args.map.now.ports.items c.args.port q low) client in
    lenders.is_client c.args.map.now c.plan-plan.ensures.plan c.args.port q low same c.args.terms.now own told p with _ refl refl kind
    (elim c.match-at.branch [
      | in-Client w ↦ w.limit-is
      | in-Server w ↦ absurd (differ (sym kind ∙ w.in-Server.is))
    ]) refl

pub returns-clause-server : goal.returns-clause-server
returns-clause-server c p with server =
    let q : PlanPort = c.index-at.result.now in
    let low : c.args.port < length c.args.map.now.ports.items = slot_below c.args.map.now c.args.port c.requires.slot in
    let same : q ≡ get_or c.args.map.now.ports.items c.args.port q =
    c.index-at.ensures ∙ ap (λ (plan : WirePlan). get_or plan.ports.items c.args.port q) c.plan-plan.ensures.value in
    let own : PortTerms = c.index-own.result.now in
    let told : slice_get c.args.terms.now.ports.items c.args.port ≡ Some own =
    slice_get-get_or c.args.terms.now.ports.items c.args.port own
    (index_there PortTerms (IsWholePort c.args.map.now c.args.terms.now) c.args.terms.now.ports.items c.args.port (c.requires.fits.ports c.args.port low))
    ∙ ap (λ (r : PortTerms). Some r) (sym c.index-own.ensures) in
    let kind : q.role ≡ Server =
    ap (λ (r : PlanPort). r.role) same
    ∙ subst (λ (o : Option PlanPort). IsSomeAnd o (λ r. r.role ≡ Server)) (slice_get-get_or c.args.map.now.ports.items c.args.port q low) server in
    lenders.is_server c.args.map.now c.plan-plan.ensures.plan c.args.port q low same c.args.terms.now own told p with _ refl refl kind refl
    (elim c.match-at.branch [
      | in-Client w ↦ absurd (differ (sym w.in-Client.is ∙ kind))
      | in-Server w ↦ w.limit-is ∙ ap (λ (plan : WirePlan). own.loaned_responses * plan.limits.active_requests * c.args.terms.now.clients) c.plan-plan.ensures.value
    ])

pub returns-clause-whole : goal.returns-clause-whole
returns-clause-whole c =
    let q : PlanPort = c.index-at.result.now in
    let low : c.args.port < length c.args.map.now.ports.items = slot_below c.args.map.now c.args.port c.requires.slot in
    let same : q ≡ get_or c.args.map.now.ports.items c.args.port q =
    c.index-at.ensures ∙ ap (λ (plan : WirePlan). get_or plan.ports.items c.args.port q) c.plan-plan.ensures.value in
    let own : PortTerms = c.index-own.result.now in
    let told : slice_get c.args.terms.now.ports.items c.args.port ≡ Some own =
    slice_get-get_or c.args.terms.now.ports.items c.args.port own
    (index_there PortTerms (IsWholePort c.args.map.now c.args.terms.now) c.args.terms.now.ports.items c.args.port (c.requires.fits.ports c.args.port low))
    ∙ ap (λ (r : PortTerms). Some r) (sym c.index-own.ensures) in
    let role : q.role ≡ role_there c.args.map.now c.args.port = role_of_port c.args.map.now c.args.port q c.plan-plan.ensures.plan low same in
    let words : List ℕ = (messages_of c.args.terms.now q.role).user.items in
    let user : c.deref-2.result.now ≡ words =
    c.deref-2.ensures.value ∙ ap (λ (m : MessageTerms). m.user.items) c.messages-messages.ensures in
    let whole : IsWholePort c.args.map.now c.args.terms.now own =
    subst (λ (o : Option PortTerms). IsSomeAnd o (IsWholePort c.args.map.now c.args.terms.now)) told (c.requires.fits.ports c.args.port low) in
    record {
      ids = ap (λ (ids : List ℕ). length ids) c.deref.ensures.value ∙ whole.ids;
      header = ap (λ (t : SlotPlaces). t.header) c.slot_places.ensures.planned ∙ ap header_length (sym role);
      user = ap (λ (t : SlotPlaces). t.user) c.slot_places.ensures.planned
          ∙ ap (λ (r : Role). (details_of c.args.map.now r).user_header.size / 8) (sym role)
          ∙ words_in (details_of c.args.map.now q.role).user_header.size (length words) (c.requires.fits.user q.role)
          ∙ ap (λ (ids : List ℕ). length ids) (sym user);
      within = c.slot_places.ensures.within;
    }

pub returns-clause-number : goal.returns-clause-number
returns-clause-number c =
    let q : PlanPort = c.index-at.result.now in
    let low : c.args.port < length c.args.map.now.ports.items = slot_below c.args.map.now c.args.port c.requires.slot in
    let same : q ≡ get_or c.args.map.now.ports.items c.args.port q =
    c.index-at.ensures ∙ ap (λ (plan : WirePlan). get_or plan.ports.items c.args.port q) c.plan-plan.ensures.value in
    ap (λ (r : PlanPort). r.number) same ∙ sym (number_is c.args.map.now c.plan-plan.ensures.plan.numbers c.args.port q low)

pub returns-clause-longest : goal.returns-clause-longest
returns-clause-longest c =
    let q : PlanPort = c.index-at.result.now in
    let low : c.args.port < length c.args.map.now.ports.items = slot_below c.args.map.now c.args.port c.requires.slot in
    let same : q ≡ get_or c.args.map.now.ports.items c.args.port q =
    c.index-at.ensures ∙ ap (λ (plan : WirePlan). get_or plan.ports.items c.args.port q) c.plan-plan.ensures.value in
    ap (λ (r : PlanPort). r.longest) same
    ∙ sym (ap (λ (o : Option PlanPort). option_map_or (λ r. r.longest) o 0) (port_is c.args.map.now c.plan-plan.ensures.plan.numbers c.args.port q low))

pub returns-clause-pool : goal.returns-clause-pool
returns-clause-pool c =
    let q : PlanPort = c.index-at.result.now in
    let low : c.args.port < length c.args.map.now.ports.items = slot_below c.args.map.now c.args.port c.requires.slot in
    let same : q ≡ get_or c.args.map.now.ports.items c.args.port q =
    c.index-at.ensures ∙ ap (λ (plan : WirePlan). get_or plan.ports.items c.args.port q) c.plan-plan.ensures.value in
    ap (λ (r : PlanPort). r.pool) same
    ∙ sym (ap (λ (o : Option PlanPort). option_map_or (λ r. r.pool) o 0) (port_is c.args.map.now c.plan-plan.ensures.plan.numbers c.args.port q low))
