-- What a call owns, its place may access.
use Rattle.std.proofs.Common.{◌≡◌, ℕ, ◌+◌, ◌*◌, ◌<◌, ◌≤◌, List, length, true, refl, sym, subst, arith}
use Rattle.iox_model.specs.declared.way.RequestState.{RequestState}
use Rattle.iox_model.specs.declared.way.Way.{Way}
use Rattle.iox_model.specs.Maps.{has_number}
use Rattle.iox_model.specs.States.{Fixed, State}
use Rattle.iox_wire_moments.specs.MomentsOf.{Pools}
use Rattle.iox_wire_locals.specs.declared.local.Local.{Local}
use Rattle.iox_wire_locals.specs.declared.local.Local.TheVariants.{LendEmpties, LendStores, Writes, Reads}
use Rattle.iox_wire_locals.specs.declared.seat.Seat.{Seat}
use Rattle.iox_wire_locals.specs.declared.table.Entry.{Entry}
use Rattle.iox_wire_locals.specs.declared.table.NewLoan.{NewLoan}
use Rattle.iox_wire_locals.specs.Locals.{program_of}
use Rattle.iox_wire_locals.specs.NewLoans.{loan_words}
use Rattle.iox_wire_locals.specs.Stored.{header_length}
use Rattle.iox_wire_locals.specs.Tables.{Setting, port_shape, region_word, words_before_payload, words_to_read}
use Rattle.iox_wire_words.specs.Fits.{MayRun}
use Rattle.iox_wire_laws.specs.WireKeeping.Shows.{CountsWay, OwnsPlace, PlaceKnows}
use Rattle.iox_wire_laws.specs.WireShows.Ids.{NamesSmall}
use Rattle.iox_wire_laws.specs.WireShows.OwnedCalls.{OwnsCall, TellsLane}
use Rattle.iox_wire_laws.proofs.WireShows.OwnedCalls.{owned_calls_own_places}
use Rattle.iox_wire_laws.specs.WireRegions.Regions.{IsSlotWord, words_of_longest}
use Rattle.iox_wire_laws.specs.WireRegions.OwnedWords.{Owns}
use Rattle.iox_wire_laws.specs.WireRegions.OwnedWordLaws.{OwnersMayAccess}
use Rattle.iox_wire_laws.proofs.WireRegions.SlotWords.{in_region}

-- ---- the words that a place accesses

pub lend_word : (p : Setting) (node : ℕ) (f : Fixed) (shown : Way → RequestState) (o : NewLoan) (slot next : ℕ)
    → Owns p node f shown (LendStores o slot next) → IsSlotWord p o.port slot next
lend_word p node f shown o slot next owns = record {
  region = owns.0.region;
  in_pool = owns.1;
  in_message = let low : next < length (loan_words p o) = owns.2 in let room = owns.0.room in omega arith;
}

pub write_word : (p : Setting) (node : ℕ) (f : Fixed) (shown : Way → RequestState) (e : Entry) (words : List ℕ) (next : ℕ)
    → Owns p node f shown (Writes e words next) → IsSlotWord p e.port e.slot (words_before_payload p e.port + next)
write_word p node f shown e words next owns =
    subst (λ port. IsSlotWord p port e.slot (words_before_payload p port + next)) owns.1 (record {
      region = owns.0.region;
      in_pool = owns.0.in_pool;
      in_message =
          let room : words_before_payload p e.sender + e.elements * (port_shape p e.sender).width ≤ words_of_longest p e.sender = owns.0.room in
          let few : length words ≤ e.elements * (port_shape p e.sender).width = owns.2 in let low : next < length words = owns.3 in omega arith;
    })

pub read_word : (p : Setting) (node : ℕ) (f : Fixed) (shown : Way → RequestState) (e : Entry) (words : List ℕ)
    → Owns p node f shown (Reads e words) → IsSlotWord p e.sender e.slot (header_length (p.port e.sender).role + length words)
read_word p node f shown e words owns = record {
  region = owns.0.region;
  in_pool = owns.0.in_pool;
  in_message =
      let room : header_length (p.port e.sender).role + length (port_shape p e.sender).user + e.elements * (port_shape p e.sender).width ≤ words_of_longest p e.sender
      = owns.0.room in let low : length words < words_to_read p e = owns.1 in omega arith;
}

pub word_below : (p : Setting) (port slot k : ℕ) → IsSlotWord p port slot k
    → (has_number port p.layout.sizes.ports ≡ true) × (region_word p port slot k < p.layout.sizes.region port)
word_below p port slot k is = (is.region.there, in_region p port is.region slot k is.in_pool is.in_message)

module _ (p : Setting) (held : Pools) (s : State) (x : Seat) where
  abbrev Parts : Local → Type 0
  Parts local = MayRun p.layout x.node (program_of p local) × CountsWay s (program_of p local) × PlaceKnows p x s held local × NamesSmall local

  others_own : (local : Local) → x.local ≡ local → OwnsCall p x.node s.fixed s.request_state local → TellsLane held local → OwnsPlace p held s x × NamesSmall x.local
  others_own local is owns tells =
      owned_calls_own_places p held s x (subst (OwnsCall p x.node s.fixed s.request_state) (sym is) owns) (subst (TellsLane held) (sym is) tells)

  by_parts : (local : Local) → x.local ≡ local → Parts local → OwnsPlace p held s x × NamesSmall x.local
  by_parts local is parts =
      let a : Parts x.local = subst Parts (sym is) parts in (record { may_run = a.0; counted = a.1; knows = a.2 }, a.3)

  parts : (local : Local) → x.local ≡ local → Owns p x.node s.fixed s.request_state local → TellsLane held local → OwnsPlace p held s x × NamesSmall x.local
  parts (LendEmpties o w place left) is owns tells =
      by_parts (LendEmpties o w place left) is ((owns.1.0.0.way, owns.1.0.0.mine), owns.1.0.0.counted, tt, tt)
  parts (LendStores o slot next) is owns tells =
      by_parts (LendStores o slot next) is
      (word_below p o.port slot next (lend_word p x.node s.fixed s.request_state o slot next owns), tt, tt, tt)
  parts (Writes e words next) is owns tells =
      by_parts (Writes e words next) is
      (word_below p e.port e.slot (words_before_payload p e.port + next) (write_word p x.node s.fixed s.request_state e words next owns), tt, tt, tt)
  parts (Reads e words) is owns tells =
      by_parts (Reads e words) is
      (word_below p e.sender e.slot (header_length (p.port e.sender).role + length words) (read_word p x.node s.fixed s.request_state e words owns), tt, tt, tt)
  parts local is owns tells = others_own local is owns tells

pub owners_may_access : OwnersMayAccess
owners_may_access p held s x owns tells = parts p held s x x.local refl owns tells
