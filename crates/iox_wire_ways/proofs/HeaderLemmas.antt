-- Where the headers of a port's messages stand, and that its slots are in memory.
use Rattle.std.proofs.Common.{◌≡◌, ℕ, ◌+◌, ◌*◌, ◌/◌, ◌<◌, ◌≤◌, ◌^◌, Bool, true, false, length, get_or, refl, ap, ap₂, sym, subst, ◌∙◌, arith, mul_assoc}
use Rattle.std.specs.Prelude.{Option, Some, nat_lt}
use Rattle.std.specs.Option.{option_map_or}
use Rattle.std.proofs.lemmas.Bool.{ltb-false}
use Rattle.std.proofs.lemmas.List.{get_or-map}
use Rattle.iox_model.specs.declared.kind.Role.{Role}
use Rattle.iox_model.specs.declared.kind.Role.TheVariants.{Client, Server}
use Rattle.iox_model.specs.Settings.{Shape, message_size, shape_of}
use Rattle.iox_types.specs.Layouts.{message_bytes, message_size as bytes_for}
use Rattle.iox_types.proofs.LayoutLemmas.{IsPowerOfTwo-positive, aligned_place-ge}
use Rattle.iox_word_map.specs.MessageWords.{IsInWords}
use Rattle.iox_word_map.specs.WordMaps.{Region, piece_place, total_words}
use Rattle.iox_wire_messages.specs.PlanPort.{PlanPort}
use Rattle.iox_wire_messages.specs.WirePlan.{WirePlan}
use Rattle.iox_wire_messages.specs.Plans.{IsPlan, IsPortAt, details_of, number_at, port_of, sizes_of, slot_words_of}
use Rattle.iox_wire_messages.proofs.PairLemmas.{index_there, one_of}
use Rattle.iox_wire_messages.proofs.PlanLemmas.{number_is, port_is, region_place, region_within, there}
use Rattle.iox_wire_messages.specs.Stored.{header_length, word_start}
use Rattle.iox_wire_messages.specs.Tables.{Setting, port_shape, region_word}
use Rattle.iox_wire_messages.specs.PlansOf.{IsAsPlanned, IsSettingOf, IsShapeOf}
use Rattle.iox_wire_messages.proofs.Planned.{each_planned}
use Rattle.iox_wire_messages.specs.Seats.{node_at}
use Rattle.iox_wire_ways.specs.Visits.{pool_of}

first_words : (x : Shape) (header user start k : ℕ) → k < header → word_start x header user start k ≡ start + 8 * k
first_words x header user start k low = by_case (nat_lt k header) refl
  where
    by_case : (b : Bool) → nat_lt k header ≡ b → word_start x header user start k ≡ start + 8 * k
    by_case true is = rw is refl
    by_case false is = let h : header ≤ k = ltb-false k header is in absurd (omega (arith, h, low))

pub turned : (n m : ℕ) → n * (8 * m) ≡ 8 * (n * m)
turned n m =
    let a : n * (m * 8) ≡ n * m * 8 = sym (mul_assoc n m 8) in
    let e : 8 * m ≡ m * 8 = omega arith in
    ap (λ k. n * k) e ∙ a ∙ omega arith

pub whole_words : (plan : WirePlan) (role : Role) → IsPlan plan → IsInWords (details_of plan role)
whole_words plan Client is = is.requests
whole_words plan Server is = is.responses

-- ---- a port of that role

module _ (plan : WirePlan) (is : IsPlan plan) (role : Role) (i : ℕ) (at : IsPortAt plan role i) where
  pub low : i < length plan.ports.items
  low = index_there PlanPort (λ p. p.role ≡ role) plan.ports.items i at

  d : PlanPort
  d = one_of plan.ports.items i low

  is_of_role : (get_or plan.ports.items i d).role ≡ role
  is_of_role = (there PlanPort (λ p. p.role ≡ role) plan.ports.items i d at).1

  found : port_of plan (number_at plan i) ≡ Some (get_or plan.ports.items i d)
  found = port_is plan is.numbers i d low

  pool_is : pool_of plan (number_at plan i) ≡ (get_or plan.ports.items i d).pool
  pool_is = ap (λ o. option_map_or (λ (q : PlanPort). q.pool) o 0) found

  words_are : slot_words_of plan (number_at plan i) ≡ (get_or plan.ports.items i d).slot_words
  words_are = ap (λ o. option_map_or (λ (q : PlanPort). q.slot_words) o 0) found

  pub slots_in_memory : (total : ℕ) → total ≡ total_words (sizes_of plan) → total < 2 ^ 64
      → piece_place (sizes_of plan) (Region (number_at plan i)) + pool_of plan (number_at plan i) * slot_words_of plan (number_at plan i) < 2 ^ 64
  slots_in_memory total total_is fits =
      let e : pool_of plan (number_at plan i) * slot_words_of plan (number_at plan i) ≡ (get_or plan.ports.items i d).pool * (get_or plan.ports.items i d).slot_words = ap₂ (λ a b. a * b) pool_is words_are in
      let a = region_place plan is.numbers i low in
      let b = region_within plan is.numbers i d low in
      omega (arith, e, a, b, total_is, fits)

  pub header_fits : (details_of plan role).header.size ≡ 8 * header_length role → header_length role ≤ slot_words_of plan (number_at plan i)
  header_fits header =
      let size : bytes_for (details_of plan (get_or plan.ports.items i d).role) (get_or plan.ports.items i d).longest ≡ 8 * (get_or plan.ports.items i d).slot_words = is.slots i d low in
      let positive : 0 < (details_of plan role).header.alignment =
      IsPowerOfTwo-positive (details_of plan role).header.alignment (whole_words plan role is).aligned.header in
      let rounded : message_bytes (details_of plan role) (get_or plan.ports.items i d).longest ≤ bytes_for (details_of plan role) (get_or plan.ports.items i d).longest =
      aligned_place-ge (message_bytes (details_of plan role) (get_or plan.ports.items i d).longest) (details_of plan role).header.alignment positive in
      let same : bytes_for (details_of plan role) (get_or plan.ports.items i d).longest ≡ 8 * (get_or plan.ports.items i d).slot_words =
      ap (λ (r : Role). bytes_for (details_of plan r) (get_or plan.ports.items i d).longest) (sym is_of_role) ∙ size in
      let words : slot_words_of plan (number_at plan i) ≡ (get_or plan.ports.items i d).slot_words = words_are in
      omega (arith, rounded, same, header, words)

  module _ (p : Setting) (setting : IsSettingOf plan p) where
    planned : IsAsPlanned (get_or plan.ports.items i d) (p.port (number_at plan i))
    planned =
        subst (λ k. IsAsPlanned (get_or plan.ports.items i d) (p.port k)) (sym (number_is plan is.numbers i d low))
        (each_planned p.port plan.ports.items setting.is_for.ports i d low)

    pub number_there : (p.port (number_at plan i)).number ≡ number_at plan i
    number_there = planned.number ∙ sym (number_is plan is.numbers i d low)

    pub role_planned : (p.port (number_at plan i)).role ≡ role
    role_planned = planned.role ∙ is_of_role

    pub pool_planned : pool_of plan (number_at plan i) ≡ (p.port (number_at plan i)).pool
    pool_planned = pool_is ∙ sym planned.pool

    shape : IsShapeOf (details_of plan (get_or plan.ports.items i d).role) (get_or plan.ports.items i d).role (port_shape p (number_at plan i))
    shape =
        subst (λ r. IsShapeOf (details_of plan (get_or plan.ports.items i d).role) (get_or plan.ports.items i d).role (shape_of p.limits r))
        (sym planned.role) (setting.is_for.shapes (get_or plan.ports.items i d).role)

    -- whatever stands where no port is
    pub longest_planned : (e : PlanPort) → (p.port (number_at plan i)).longest ≡ (get_or plan.ports.items i e).longest
    longest_planned e =
        planned.longest
        ∙ ap (λ (o : Option PlanPort). option_map_or (λ (q : PlanPort). q.longest) o 0) (sym found ∙ port_is plan is.numbers i e low)

    pub width_planned : (details_of plan role).payload.size ≡ 8 * (port_shape p (number_at plan i)).width
    width_planned = ap (λ (r : Role). (details_of plan r).payload.size) (sym is_of_role) ∙ shape.element

    size_is : message_size (port_shape p (number_at plan i)) (p.port (number_at plan i)).longest ≡ 8 * (get_or plan.ports.items i d).slot_words
    size_is =
        ap (λ k. message_size (port_shape p (number_at plan i)) k) planned.longest
        ∙ (rw (shape.header_part, shape.user_part, shape.element_part) (is.slots i d low))

    pub header_word : (slot k : ℕ) → k < header_length role → region_word p (number_at plan i) slot k ≡ slot * slot_words_of plan (number_at plan i) + k
    header_word slot k below =
        let inside : k < header_length (p.port (number_at plan i)).role =
        subst (λ r. k < header_length r) (sym (planned.role ∙ is_of_role)) below in
        let size : slot * message_size (port_shape p (number_at plan i)) (p.port (number_at plan i)).longest ≡ 8 * (slot * slot_words_of plan (number_at plan i)) =
        ap (λ m. slot * m) (size_is ∙ ap (λ m. 8 * m) (sym words_are)) ∙ turned slot (slot_words_of plan (number_at plan i)) in
        ap (λ m. m / 8) (first_words (port_shape p (number_at plan i)) (header_length (p.port (number_at plan i)).role) (length (port_shape p (number_at plan i)).user)
        (slot * message_size (port_shape p (number_at plan i)) (p.port (number_at plan i)).longest) k inside
        ∙ ap (λ m. m + 8 * k) size)
        ∙ omega arith

-- ---- what is known about the port at an index

pub record PortFacts (plan : WirePlan) (i : ℕ) (q : PlanPort) : Type 0 where
  pub number : q.number ≡ number_at plan i
  pub node : q.node ≡ node_at plan i
  pub pool : q.pool ≡ pool_of plan (number_at plan i)
  pub words : q.slot_words ≡ slot_words_of plan (number_at plan i)

pub port_facts : (plan : WirePlan) (i : ℕ) (q : PlanPort) → IsPlan plan → i < length plan.ports.items → q ≡ get_or plan.ports.items i q → PortFacts plan i q
port_facts plan i q is below same =
    let there_is : port_of plan (number_at plan i) ≡ Some (get_or plan.ports.items i q) = port_is plan is.numbers i q below in
    record {
      number = ap (λ (r : PlanPort). r.number) same ∙ sym (number_is plan is.numbers i q below);
      node = ap (λ (r : PlanPort). r.node) same ∙ sym (get_or-map (λ (r : PlanPort). r.node) plan.ports.items i q 0 below);
      pool = ap (λ (r : PlanPort). r.pool) same ∙ sym (ap (λ o. option_map_or (λ (r : PlanPort). r.pool) o 0) there_is);
      words = ap (λ (r : PlanPort). r.slot_words) same ∙ sym (ap (λ o. option_map_or (λ (r : PlanPort). r.slot_words) o 0) there_is);
    }

pub index_of_port : (plan : WirePlan) (role : Role) (i : ℕ) → IsPortAt plan role i → i < length plan.ports.items
index_of_port plan role i at = index_there PlanPort (λ p. p.role ≡ role) plan.ports.items i at
