-- Each port of a plan that makes sense has its region.
use Rattle.std.specs.Option.{option_map_or}
use Rattle.std.proofs.Common.{◌≡◌, ℕ, ◌*◌, true, ap, sym, subst, ◌∙◌, arith}
use Rattle.std.proofs.Math.Nat.{mul_left_comm}
use Rattle.iox_model.specs.declared.kind.Role.{Role}
use Rattle.iox_model.specs.declared.kind.Role.TheVariants.{Client, Server}
use Rattle.iox_model.specs.Maps.{has_number}
use Rattle.iox_model.specs.Settings.{IsPart, Shape, message_size, shape_of}
use Rattle.iox_types.specs.declared.message_type_details.MessageTypeDetails.{MessageTypeDetails}
use Rattle.iox_types.specs.Layouts as layouts
use Rattle.iox_types.specs.Parts.{Part}
use Rattle.iox_word_map.specs.MessageWords.{IsInWords}
use Rattle.iox_word_places.specs.declared.plan.PlanPort.{PlanPort}
use Rattle.iox_word_places.specs.declared.plan.WirePlan.{WirePlan}
use Rattle.iox_word_places.specs.Plans.{HasSlots, IsPlan, details_of, port_numbers}
use Rattle.iox_wire_locals.specs.Stored.{header_length}
use Rattle.iox_wire_locals.specs.Tables.{Setting, port_shape}
use Rattle.iox_wire_laws.specs.WireRegions.Regions.{HasRegion, slot_bytes}
use Rattle.iox_wire_layouts.specs.PlansOf.{IsAsPlanned, IsSettingOf, IsShapeOf}
use Rattle.iox_wire_layouts.specs.LayoutLaws.{PortsHaveRegions}
use Rattle.iox_wire_layouts.proofs.Planned.{Found, all_and, each_planned, find_planned}

-- a slot of so many words, for messages of the shape
slot_of : (details : MessageTypeDetails) (role : Role) (x : Shape) (n words : ℕ) → IsShapeOf details role x
    → layouts.message_size details n ≡ 8 * words → message_size x n ≡ 8 * words
slot_of details role x n words is slot = rw (is.header_part, is.user_part, is.element_part) slot

in_words : (plan : WirePlan) → IsPlan plan → (role : Role) → IsInWords (details_of plan role)
in_words plan is Client = is.requests
in_words plan is Server = is.responses

words_of_pool : (pool slot bytes : ℕ) → bytes ≡ 8 * slot → 8 * (pool * slot) ≡ pool * bytes
words_of_pool pool slot bytes e = mul_left_comm 8 pool slot ∙ ap (λ k. pool * k) (sym e)

module _ (plan : WirePlan) (p : Setting) (n : ℕ) (is : IsPlan plan) (setting : IsSettingOf plan p)
    (has : has_number n p.layout.sizes.ports ≡ true) where
  abbrev P : PlanPort → Type 0
  P q = HasSlots plan q × IsAsPlanned q (p.port q.number)

  listed : has_number n (port_numbers plan) ≡ true
  listed = ap (λ l. has_number n l.sizes.ports) (sym setting.layout) ∙ has

  found : Found P plan.ports.items n
  found =
      find_planned P plan.ports.items n
      (all_and (HasSlots plan) (λ q. IsAsPlanned q (p.port q.number)) plan.ports.items is.slots
      (each_planned p.port plan.ports.items setting.is_for.ports))
      listed

  abbrev q : PlanPort
  q = found.port

  planned : IsAsPlanned q (p.port n)
  planned = subst (λ k. IsAsPlanned q (p.port k)) found.number found.so.1

  abbrev details : MessageTypeDetails
  details = details_of plan q.role

  shape : IsShapeOf details q.role (port_shape p n)
  shape = subst (λ r. IsShapeOf details q.role (shape_of p.limits r)) (sym planned.role) (setting.is_for.shapes q.role)

  slot : slot_bytes p n ≡ 8 * q.slot_words
  slot =
      ap (λ k. message_size (port_shape p n) k) planned.longest
      ∙ slot_of details q.role (port_shape p n) q.longest q.slot_words shape found.so.0

  region_words : p.layout.sizes.region n ≡ q.pool * q.slot_words
  region_words =
      ap (λ l. l.sizes.region n) setting.layout
      ∙ ap (λ o. option_map_or (λ (p : PlanPort). p.pool * p.slot_words) o 0) found.found

  header_words : (port_shape p n).header_part.size ≡ 8 * header_length (p.port n).role
  header_words =
      ap (λ (k : Part). k.size) shape.header_part ∙ shape.header ∙ ap (λ r. 8 * header_length r) (sym planned.role)

  part : {a b : Part} → a ≡ b → IsPart b → IsPart a
  part e it = subst (λ k. IsPart k) (sym e) it

  region_there : HasRegion p n
  region_there = record {
    there = has;
    header_part = part shape.header_part (in_words plan is q.role).aligned.header;
    user_part = part shape.user_part (in_words plan is q.role).aligned.user_header;
    element_part = part shape.element_part (in_words plan is q.role).aligned.payload;
    header = header_words;
    user = ap (λ (k : Part). k.size) shape.user_part ∙ shape.user;
    element = ap (λ (k : Part). k.size) shape.element_part ∙ shape.element;
    whole = (q.slot_words, whole);
    region =
        ap (λ k. 8 * k) region_words ∙ words_of_pool q.pool q.slot_words (slot_bytes p n) slot
        ∙ ap (λ k. k * slot_bytes p n) (sym planned.pool);
  }
    where
      whole : slot_bytes p n ≡ q.slot_words * 8
      whole = (let e = slot in omega arith)

pub ports_have_regions : PortsHaveRegions
ports_have_regions plan p n is setting has = region_there plan p n is setting has
