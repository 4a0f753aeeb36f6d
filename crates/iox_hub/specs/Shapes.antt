-- What the messages of one role are made of, as the machine's shape.
use Rattle.std.specs.Prelude.{◌≡◌, ℕ, ◌*◌, ◌^◌, ◌<◌, Bool, true, List, Option, nat_lt}
use Rattle.std.specs.Option.{option_map}
use Rattle.iox_types.specs.Parts as machine
use Rattle.iox_model.specs.Settings.{IsPart, Shape}
use Rattle.iox_hub.specs.declared.shape.MessageShape.{MessageShape}
use Rattle.iox_hub.specs.declared.shape.Part.{Part}

-- the same part, as the machine has it
abbrev pub part_of : Part → machine.Part
part_of p = record { size = p.size; alignment = p.alignment }

-- a part of so many whole words
abbrev pub words_part : ℕ → Part
words_part n = record { size = 8 * n; alignment = 8 }

-- messages of these parts, with this default of an element and of the user header
abbrev pub message_of : {E H : Type 0} → Option E → H → Part → Part → Part → MessageShape E H
message_of default user_header header user element = record {
  default = default;
  user_header = user_header;
  header_part = header;
  user_part = user;
  element_part = element;
}

-- the shape, where elements have so many words, and these are the words of an element and of a header
abbrev pub shape_of : {E H : Type 0} → Bool → ℕ → (E → List ℕ) → (H → List ℕ) → MessageShape E H → Shape
shape_of many width words user_words m = record {
  many = many;
  width = width;
  default = option_map words m.default;
  user = user_words m.user_header;
  header_part = part_of m.header_part;
  user_part = part_of m.user_part;
  element_part = part_of m.element_part;
}

-- Messages of this shape that have fewer elements than so many can be addressed.
abbrev pub CanHaveFewer : {E H : Type 0} → MessageShape E H → ℕ → Type 0
CanHaveFewer m below =
    (k : ℕ) → k < below
    → nat_lt (machine.size_of_parts (part_of m.header_part) (part_of m.user_part) (part_of m.element_part) k) (2 ^ 63) ≡ true

-- Each part may stand somewhere.
pub record HaveParts {E H : Type 0} (m : MessageShape E H) : Type 0 where
  pub header : IsPart (part_of m.header_part)
  pub user : IsPart (part_of m.user_part)
  pub element : IsPart (part_of m.element_part)

-- A message of this shape may have any number of elements, or has one, as is said, and an element
-- has so many words.
pub record IsOfType (any : Bool) (words : ℕ) (x : Shape) : Type 0 where
  pub many : x.many ≡ any
  pub width : x.width ≡ words
