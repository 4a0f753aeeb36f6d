use Rattle.std.proofs.Common.{◌≡◌, ℕ, ◌*◌, List, [], ◌∷◌, refl, ap, sym, subst, map}
use Rattle.std.proofs.lemmas.List.Elements.{All-nil, All-cons, All-same}
use Rattle.iox_model.specs.declared.kind.Role.TheVariants.{Client, Server}
use Rattle.iox_model.specs.Maps.{AreDistinct}
use Rattle.iox_types.specs.declared.message_type_details.MessageTypeDetails.{MessageTypeDetails}
use Rattle.iox_types.specs.Layouts.{message_size}
use Rattle.iox_word_map.specs.MessageWords.{IsInWords}
use Rattle.iox_wire_nodes.specs.PlanPort.{PlanPort}
use Rattle.iox_wire_nodes.specs.WirePlan.{WirePlan}
use Rattle.iox_wire_nodes.specs.Plans.{IsPlan, HasSlots}
use Rattle.iox_rows_wire.proofs.word_places.all_ones.Goals as goal

-- a header of so many words, no user header, and a payload of one word
record OneWord (details : MessageTypeDetails) (header : ℕ) : Type 0 where
  header_size : details.header.size ≡ header
  header_alignment : details.header.alignment ≡ 8
  user_size : details.user_header.size ≡ 0
  user_alignment : details.user_header.alignment ≡ 8
  payload_size : details.payload.size ≡ 8
  payload_alignment : details.payload.alignment ≡ 8

whole : (details : MessageTypeDetails) (words : ℕ) → OneWord details (words * 8) → IsInWords details
whole details words o = record {
  aligned = record { header = (3, o.header_alignment); user_header = (3, o.user_alignment); payload = (3, o.payload_alignment) };
  header = (words, o.header_size);
  user_header = (0, o.user_size);
  payload = (1, o.payload_size);
}

ten : (details : MessageTypeDetails) → OneWord details 56 → message_size details 1 ≡ 80
ten details o = rw (o.header_size, o.header_alignment, o.user_size, o.user_alignment, o.payload_size, o.payload_alignment) refl

nine : (details : MessageTypeDetails) → OneWord details 48 → message_size details 1 ≡ 72
nine details o = rw (o.header_size, o.header_alignment, o.user_size, o.user_alignment, o.payload_size, o.payload_alignment) refl

abbrev client : PlanPort
client = record { number = 0; node = 0; role = Client; pool = 4; longest = 1; slot_words = 10 }

abbrev server : PlanPort
server = record { number = 1; node = 1; role = Server; pool = 9; longest = 1; slot_words = 9 }

is_plan : (plan : WirePlan) → plan.ports.items ≡ client ∷ server ∷ [] → OneWord plan.request 56 → OneWord plan.response 48 → IsPlan plan
is_plan plan items request response =
    let P : List PlanPort → Type 0 = λ ps. AreDistinct (map (λ p. p.number) ps) in
    record {
      numbers = subst P (sym items) (refl, (refl, tt));
      requests = whole plan.request 7 request;
      responses = whole plan.response 6 response;
      slots = All-same (HasSlots plan) plan.ports.items (client ∷ server ∷ []) items
          (All-cons (HasSlots plan) client (server ∷ []) (ten plan.request request)
          (All-cons (HasSlots plan) server [] (nine plan.response response) (All-nil (HasSlots plan))));
    }

pub returns-clause-plan : goal.returns-clause-plan
returns-clause-plan c =
    let q = c.in_ok-request.ensures in
    let r = c.in_ok-response.ensures in
    is_plan _ c.in_ok-ports.ensures.items
    (record {
      header_size = ap (λ d. d.size) q.header;
      header_alignment = ap (λ d. d.alignment) q.header;
      user_size = ap (λ d. d.size) q.user_header;
      user_alignment = ap (λ d. d.alignment) q.user_header;
      payload_size = ap (λ d. d.size) q.payload;
      payload_alignment = ap (λ d. d.alignment) q.payload;
    })
    (record {
      header_size = ap (λ d. d.size) r.header;
      header_alignment = ap (λ d. d.alignment) r.header;
      user_size = ap (λ d. d.size) r.user_header;
      user_alignment = ap (λ d. d.alignment) r.user_header;
      payload_size = ap (λ d. d.size) r.payload;
      payload_alignment = ap (λ d. d.alignment) r.payload;
    })
