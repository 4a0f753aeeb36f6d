-- What a read and a receive load of a slot that holds its message.
use Rattle.std.specs.Prelude.{slice_index}
use Rattle.std.proofs.Common.{◌≡◌, ℕ, ◌+◌, ◌-◌, ◌*◌, ◌<◌, ◌≤◌, ◌++◌, ◌==◌, true, false, List, [], ◌∷◌, length, ap, sym, subst, ◌∙◌, true≢false, eqb-true, arith}
use Rattle.std.proofs.lemmas.List.{length-append}
use Rattle.iox_model.specs.declared.kind.Role.{Role}
use Rattle.iox_model.specs.declared.kind.Role.TheVariants.{Client, Server}
use Rattle.iox_model.specs.Messages.{Message}
use Rattle.iox_model.specs.Settings.{is_client, other_role}
use Rattle.iox_wire_words.specs.Programs.{Program, word_place}
use Rattle.iox_wire_words.specs.Fits.{WireContents, WordsFit}
use Rattle.iox_wire_moments.specs.MomentsOf.{Pools}
use Rattle.iox_wire_locals.specs.NewLoans.{received_length}
use Rattle.iox_wire_locals.specs.Stored.{header_length, header_words}
use Rattle.iox_wire_locals.specs.Tables.{Setting, port_shape, region_word, words_to_read}
use Rattle.iox_wire_laws.specs.WireRegions.Regions.{words_of_longest}
use Rattle.iox_wire_laws.specs.WireRegions.StoredMessages.{HasMessage, HoldsMessage, header_in, words_in}
use Rattle.iox_wire_laws.specs.WireRegions.MessageStores.{HeadersAreThere, HeadersTellTheirMessages, ReadsFindTheirMessages}
use Rattle.iox_wire_laws.proofs.WireRegions.MessageLists.{all_first, count_of_words, header_count, header_lane, header_request, next_first, word_behind, word_of_header, words_low}
use Rattle.iox_wire_laws.proofs.WireRegions.SlotWords.{in_region}

-- a word of the slot is that word of its message
found : (p : Setting) (held : Pools) (word : ℕ → ℕ) (programs : ℕ → Program) (c : WireContents) (port slot k : ℕ) → WordsFit p.layout word programs c
    → HasMessage p held port slot → HoldsMessage p held c port slot → k < length (words_in p held port slot)
    → word (word_place p.layout port (region_word p port slot k)) ≡ slice_index (words_in p held port slot) k
found p held word programs c port slot k fits has holds low =
    let few : length (words_in p held port slot) ≤ words_of_longest p port = words_low p held port slot has in
    let zero : 0 + k ≡ k = omega arith in
    fits.regions port (region_word p port slot k) has.region.there (in_region p port has.region slot k has.in_pool (omega arith))
    ∙ subst (λ i. c.stored port (region_word p port slot i) ≡ slice_index (words_in p held port slot) k) zero (holds k low)

-- ---- reads

pub reads_find_their_messages : ReadsFindTheirMessages
reads_find_their_messages p held x s e words word programs c fits has holds elements owns first =
    let m : Message = held e.sender e.slot in
    let r : Role = (p.port e.sender).role in
    let h : ℕ = header_length (p.port e.sender).role in
    let low : length words < words_to_read p e = owns.1 in
    let count : length (words_in p held e.sender e.slot) ≡ header_length (p.port e.sender).role + (length (held e.sender e.slot).user + length (held e.sender e.slot).payload)
    = count_of_words (p.port e.sender).role (held e.sender e.slot) in
    let all : length ((held e.sender e.slot).user ++ (held e.sender e.slot).payload) ≡ length (held e.sender e.slot).user + length (held e.sender e.slot).payload
    = length-append (held e.sender e.slot).user (held e.sender e.slot).payload in
    let user : length (held e.sender e.slot).user ≡ length (port_shape p e.sender).user = has.user in
    let payload : length (held e.sender e.slot).payload ≡ e.elements * (port_shape p e.sender).width
    = has.payload ∙ ap (λ k. k * (port_shape p e.sender).width) elements in
    let seen : ℕ = word (word_place p.layout e.sender (region_word p e.sender e.slot (header_length (p.port e.sender).role + length words))) in
    let is : seen ≡ slice_index ((held e.sender e.slot).user ++ (held e.sender e.slot).payload) (length words)
    = found p held word programs c e.sender e.slot (header_length (p.port e.sender).role + length words) fits has holds (omega arith)
    ∙ word_behind (p.port e.sender).role (held e.sender e.slot) (length words) in
    let more = next_first words ((held e.sender e.slot).user ++ (held e.sender e.slot).payload) seen first (omega arith) is in (
      more,
      λ last.
          let end : length (words ++ seen ∷ []) ≡ words_to_read p e = eqb-true (length (words ++ seen ∷ [])) (words_to_read p e) last in
          all_first (words ++ seen ∷ []) ((held e.sender e.slot).user ++ (held e.sender e.slot).payload) more (omega arith),
    )

-- ---- headers

pub headers_are_there : HeadersAreThere
headers_are_there p held v w slot has role = (
  has.region.there,
  λ k low. in_region p w.sender has.region slot k has.in_pool
      (let e : header_length (p.port w.sender).role ≡ received_length v = ap header_length role in
      let few : length (words_in p held w.sender slot) ≤ words_of_longest p w.sender = words_low p held w.sender slot has in
      let count = count_of_words (p.port w.sender).role (held w.sender slot) in omega arith),
)

-- the lane of a request, which a server received
lane_told : (r own : Role) (m : Message) (header : List ℕ) → r ≡ other_role own → is_client own ≡ false → header ≡ header_words r m → slice_index header 4 ≡ m.lane
lane_told r Client m header role server is = absurd (true≢false server)
lane_told r Server m header role server is = ap (λ xs. slice_index xs 4) (is ∙ ap (λ q. header_words q m) role) ∙ header_lane m

pub headers_tell_their_messages : HeadersTellTheirMessages
headers_tell_their_messages p held x s v w slot header left waiting word programs c fits has holds role low first =
    let e : header_length (p.port w.sender).role ≡ received_length v = ap header_length role in
    let count = count_of_words (p.port w.sender).role (held w.sender slot) in
    let all : length (header_in p held w.sender slot) ≡ header_length (p.port w.sender).role = header_count (p.port w.sender).role (held w.sender slot) in
    let seen : ℕ = word (word_place p.layout w.sender (region_word p w.sender slot (length header))) in
    let is : seen ≡ slice_index (header_in p held w.sender slot) (length header)
    = found p held word programs c w.sender slot (length header) fits has holds (omega arith)
    ∙ word_of_header (p.port w.sender).role (held w.sender slot) (length header) (omega arith) in
    let more = next_first header (header_in p held w.sender slot) seen first (omega arith) is in
    let whole : (length (header ++ seen ∷ []) == received_length v) ≡ true → header ++ seen ∷ [] ≡ header_in p held w.sender slot
    = λ last. (let end : length (header ++ seen ∷ []) ≡ received_length v = eqb-true (length (header ++ seen ∷ [])) (received_length v) last in
    all_first (header ++ seen ∷ []) (header_in p held w.sender slot) more (omega arith)) in (
      more,
      λ last. ap (λ xs. slice_index xs (received_length v - 2)) (whole last)
          ∙ ap (λ k. slice_index (header_in p held w.sender slot) (k - 2)) (sym e) ∙ header_request (p.port w.sender).role (held w.sender slot),
      λ last server. rw server (lane_told (p.port w.sender).role v.role (held w.sender slot) (header ++ seen ∷ []) role server (whole last)),
    )
