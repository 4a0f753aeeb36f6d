-- What other slots hold stays over an access: their messages, and their words.
use Rattle.iox_model.specs.States.{Fixed, Port}
use Rattle.iox_wire_calls.specs.Ending.TheVariants as endings
use Rattle.std.specs.Prelude.{Bool, List, Some, false, if◌then◌else◌, length, refl, slice_index, true, ℕ, ◌*◌, ◌++◌, ◌+◌, ◌<◌, ◌==◌, ◌≡◌, ◌≤◌, [], filter, find, map, ◌∷◌}
use Rattle.iox_wire_keeps.specs.Stored.{CallIsStored, GoesThrough, HoldsStored, IsAddressed, IsStored, IsWritten, StandsWritten, StoresAt}
use Rattle.iox_wire_calls.specs.Local.TheVariants.{Ends, LendEmpties, LendStores, Reads, ReceiveAsks, ReceiveLoads, SendAsks, SendEmpties, SendEnds, SendEvicts, SendGetsBack, SendLooks, SendOpens, SendPushes, Writes}
use Rattle.iox_wire_calls.specs.MomentsOf.{Pools}
use Rattle.iox_wire_calls.specs.StoredMessages.{AreFirst, StandFrom, StoresInto, header_in, words_in}
use Rattle.iox_steps.specs.Sites.{size}
use Rattle.iox_wire_calls.specs.Steps.{next}
use Rattle.iox_wire_calls.specs.SlotsKnown.{HasEntry}
use Rattle.iox_laws.proofs.WeaveLedger.Truths.{never}
use Rattle.iox_laws.proofs.WeaveLedger.Lists.{among-any, find-among, IsAmong, among-filter, among-map, among-number}
use Rattle.iox_wire_calls.proofs.OthersHold.{named_taken}
use Rattle.std.proofs.Common.{ap, eqb-true, subst, sym, true≢false, ◌∙◌, inl}
use Rattle.iox_wire_calls.specs.Following.{CallMessage, Sent, Taken, message_at}
use Rattle.iox_wire_calls.specs.Ending.{Ending}
use Rattle.iox_laws.proofs.WeaveLedger.Views.{less}
use Rattle.iox_wire_calls.specs.Tables.{Setting, entry_at, port_shape, region_word, words_before_payload}
use Rattle.iox_wire_calls.specs.Stored.{header_words, message_words}
use Rattle.iox_wire_calls.specs.NewLoans.{loan_words, entry_in}
use Rattle.iox_wire_calls.specs.Fits.{WireContents, contents_after, with_word}
use Rattle.iox_wire_calls.specs.Seat.{Seat}
use Rattle.iox_model.specs.declared.way.Way.{Way}
use Rattle.iox_model.specs.Maps.{put_at, has_number}
use Rattle.iox_model.specs.Messages.{Message}
use Rattle.iox_wire_calls.specs.Locals.{program_of}
use Rattle.iox_wire_calls.specs.Named.{ending_names, place_names}
use Rattle.iox_wire_calls.specs.FarSlots.{IsInPool}
use Rattle.iox_wire_calls.specs.Writes.{is_slot_of}
use Rattle.iox_laws.proofs.WeaveLaws.MapLemmas.{eqb-refl}
use Rattle.std.specs.List.{list_any}
use Rattle.iox_wire_calls.specs.Local.{Local}
use Rattle.iox_wire_calls.specs.Entry.{Entry}
use Rattle.iox_wire_calls.specs.Lanes.{AllLanesAreCounted, lanes_in, lent_in}
use Rattle.iox_wire_calls.specs.Places.{IsNext}
use Rattle.iox_model.specs.Peers.{ports_of_role}
use Rattle.iox_wire_calls.specs.OwnedBegins.{LayoutFits}
use Rattle.iox_wire_calls.specs.Uses.{how_often}
use Rattle.iox_wire_calls.proofs.LanesTell.{lanes_are_the_pools, port_there, request_has, there_is, low}
use Rattle.iox_model.specs.declared.kind.Role.{Role}
use Rattle.iox_wire_calls.specs.Stands.{AreNumbered}
use Rattle.iox_model.specs.Counts.{lent, numbered}
use Rattle.iox_model.specs.Loans.{kind_of_loan}
use Rattle.iox_model.specs.Settings.{is_client, same_role}
use Rattle.iox_wire_calls.specs.NewLoan.{NewLoan}
use Rattle.iox_model.specs.declared.kind.Role.TheVariants.{Client, Server}
use Rattle.iox_model.specs.Handles.{is_request_loan}

-- with the same message a slot is stored
pub stored_same : (p : Setting) (held new : Pools) (c : WireContents) (port slot : ℕ) → new port slot ≡ held port slot → IsStored p held c port slot
    → IsStored p new c port slot
stored_same p held new c port slot same stored = record {
  fits = record {
    region = stored.fits.region;
    in_pool = stored.fits.in_pool;
    user = ap (λ (m : Message). length m.user) same ∙ stored.fits.user;
    payload = ap (λ (m : Message). length m.payload) same ∙ stored.fits.payload
        ∙ ap (λ (m : Message). m.elements * (port_shape p port).width) (sym same);
    room = subst (λ (m : Message). m.elements ≤ (p.port port).longest) (sym same) stored.fits.room;
  };
  words = subst (λ (m : Message). StandFrom p c port slot 0 (message_words (p.port port).role m) (length (message_words (p.port port).role m))) (sym same) stored.words;
  addressed = subst (IsAddressed p port) (sym same) stored.addressed;
}

-- the words of a region stay where the node stores into another one
pub region_same : (p : Setting) (c : WireContents) (local : Local) (seen q j : ℕ) → ((port slot : ℕ) → StoresInto local port slot → port ≡ q → ⊥)
    → (contents_after p.layout (program_of p local) seen c).stored q j ≡ c.stored q j
region_same p c (LendStores o slot next) seen q j other = stored_else o.port (other o.port slot (refl, refl))
  where
    stored_else : (port : ℕ) → (port ≡ q → ⊥) → (with_word c port (region_word p o.port slot next) (slice_index (loan_words p o) next)).stored q j ≡ c.stored q j
    stored_else port never = by_case (q == port) refl
      where
        by_case : (b : Bool) → (q == port) ≡ b
            → (if b then put_at (c.stored port) (region_word p o.port slot next) (slice_index (loan_words p o) next) else c.stored q) j ≡ c.stored q j
        by_case true is = absurd (never (sym (eqb-true q port is)))
        by_case false is = refl
region_same p c (Writes e words next) seen q j other = stored_else e.port (other e.port e.slot (refl, refl))
  where
    stored_else : (port : ℕ) → (port ≡ q → ⊥)
        → (with_word c port (region_word p e.port e.slot (words_before_payload p e.port + next)) (slice_index words next)).stored q j ≡ c.stored q j
    stored_else port never = by_case (q == port) refl
      where
        by_case : (b : Bool) → (q == port) ≡ b
            → (if b then put_at (c.stored port) (region_word p e.port e.slot (words_before_payload p e.port + next)) (slice_index words next) else c.stored q) j
            ≡ c.stored q j
        by_case true is = absurd (never (sym (eqb-true q port is)))
        by_case false is = refl
region_same p c local seen q j other = refl

pub stands_same : (p : Setting) (c : WireContents) (local : Local) (seen q slot from : ℕ) (words : List ℕ) (count : ℕ)
    → ((port own : ℕ) → StoresInto local port own → port ≡ q → ⊥) → StandFrom p c q slot from words count
    → StandFrom p (contents_after p.layout (program_of p local) seen c) q slot from words count
stands_same p c local seen q slot from words count other stand k less = region_same p c local seen q (region_word p q slot (from + k)) other ∙ stand k less

-- what a place stores into it stores
pub stores_at : (local : Local) (port slot : ℕ) → StoresInto local port slot → StoresAt local port slot
stores_at (LendStores o own next) port slot into = into
stores_at (Writes e words next) port slot into = into
stores_at local port slot into = absurd into

-- ---- lanes

-- a request in the making is on one of its client's lanes
pub loan_lane : (p : Setting) (f : Fixed) (x : Seat) → LayoutFits p f → AreNumbered p → f.ports ≡ map p.port p.layout.sizes.ports → AllLanesAreCounted p x
    → (o : NewLoan) (slot : ℕ) → IsNext p x o → lent_in (message_at x.local) ≡ entry_in o slot ∷ [] → is_client (p.port o.port).role ≡ true
    → o.lane < p.layout.sizes.lanes o.port
loan_lane p f x layout numbered ports lanes o slot next lent client =
    subst (λ k. o.lane < k) (sym (layout.lanes o.port client_there ∙ lanes_are_the_pools p f o.port numbered ports next.0.0))
    (low p x lanes o.port next.0 client o.lane
    (subst (λ es. 1 ≤ how_often o.lane (lanes_in o.port (es ++ x.table))) (sym lent)
    (there_is o.port (entry_in o slot) (entry_in o slot ∷ x.table) (inl refl) (request_has o.kind request) refl)))
  where
    of_client : (r : Role) → is_client r ≡ true → is_request_loan (kind_of_loan r false) ≡ true
    of_client Client is = refl
    of_client Server is = absurd (true≢false (sym is))

    request : is_request_loan o.kind ≡ true
    request = ap is_request_loan next.1 ∙ of_client (p.port o.port).role client

    same_client : (r : Role) → is_client r ≡ true → same_role r Client ≡ true
    same_client Client is = refl
    same_client Server is = absurd (true≢false (sym is))

    client_there : has_number o.port (ports_of_role f Client) ≡ true
    client_there =
        let at = find-among (λ (k : Port). k.number == o.port) (p.port o.port) f.ports
        (ap (λ (qs : List Port). find (λ (k : Port). k.number == o.port) qs) ports ∙ port_there p o.port p.layout.sizes.ports numbered next.0.0) in
        among-number o.port (ports_of_role f Client)
        (subst (λ i. IsAmong i (ports_of_role f Client)) (eqb-true (p.port o.port).number o.port at.1)
        (among-map (λ (k : Port). k.number) (p.port o.port) (filter (λ k. same_role k.role Client) f.ports)
        (among-filter (λ (k : Port). same_role k.role Client) (p.port o.port) f.ports at.0 (same_client (p.port o.port).role client))))

-- ---- names

pub slot_itself : (e : Entry) → is_slot_of e e.sender e.slot ≡ true
slot_itself e = rw (eqb-refl e.sender, eqb-refl e.slot) refl

pub named_entry : (port slot : ℕ) (table : List Entry) (e : Entry) → entry_at e.number table ≡ Some e → e.sender ≡ port → e.slot ≡ slot
    → list_any (λ q. is_slot_of q port slot) table ≡ false → ⊥
named_entry port slot table e has from there none =
    true≢false (sym (among-any (λ q. is_slot_of q port slot) e table (find-among (λ k. k.number == e.number) e table has).0
    (subst (λ i. is_slot_of e i slot ≡ true) from (subst (λ i. is_slot_of e e.sender i ≡ true) there (slot_itself e)))) ∙ none)

abbrev IsSentMessage : CallMessage → Type 0
IsSentMessage (Sent e copied) = Unit {0}
IsSentMessage other = ⊥

sent_in : Entry → CallMessage → Entry
sent_in none (Sent e copied) = e
sent_in none other = none

its_name : (k e : Entry) (a b : Bool) → Sent k a ≡ Sent e b → is_slot_of k e.sender e.slot ≡ true
its_name k e a b is =
    let same : k ≡ e = (cc) in
    subst (λ (q : Entry). is_slot_of k q.sender q.slot ≡ true) same (slot_itself k)

ending_named : (ending : Ending) (e : Entry) (copied : Bool) → message_at (Ends ending) ≡ Sent e copied → ending_names ending e.sender e.slot ≡ true
ending_named (endings.Sends k b count) e copied is = its_name k e b copied is
ending_named (endings.FailsToSend k b r) e copied is = its_name k e b copied is
ending_named ending e copied is = absurd (subst IsSentMessage (sym is) tt)

-- the place names what its call sends
pub named_sent : (local : Local) (e : Entry) (copied : Bool) → message_at local ≡ Sent e copied → place_names local e.sender e.slot ≡ true
named_sent (Ends ending) e copied is = ending_named ending e copied is
named_sent (SendAsks d) e copied is = its_name d.loan e d.copied copied is
named_sent (SendEmpties d w place left) e copied is = its_name d.loan e d.copied copied is
named_sent (SendLooks d w place left full) e copied is = its_name d.loan e d.copied copied is
named_sent (SendOpens d w left full) e copied is = its_name d.loan e d.copied copied is
named_sent (SendPushes d last w place left count) e copied is = its_name d.loan e d.copied copied is
named_sent (SendEvicts d w place left count) e copied is = its_name d.loan e d.copied copied is
named_sent (SendGetsBack d w place left count) e copied is = its_name d.loan e d.copied copied is
named_sent (SendEnds d last count) e copied is = its_name d.loan e d.copied copied is
named_sent local e copied is = absurd (subst IsSentMessage (sym is) tt)

-- ---- what a node holds stays, where other slots change

-- a slot that stays
pub record Stays (p : Setting) (held new : Pools) (c d : WireContents) (port slot : ℕ) : Type 0 where
  pub message : new port slot ≡ held port slot
  pub words : IsStored p held c port slot → IsStored p held d port slot

pub stays : (p : Setting) (held new : Pools) (c d : WireContents) (port slot : ℕ) → Stays p held new c d port slot → IsStored p held c port slot → IsStored p new d port slot
stays p held new c d port slot still stored = stored_same p held new d port slot still.message (still.words stored)

module _ (p : Setting) (held new : Pools) (c d : WireContents) (x : Seat)
    (entry : (e : Entry) → HasEntry x e → IsInPool p e.sender e.slot → Stays p held new c d e.sender e.slot)
    (place : (port slot : ℕ) → place_names x.local port slot ≡ true → Stays p held new c d port slot)
    (stand : (port slot from : ℕ) (words : List ℕ) (count : ℕ) → StoresAt x.local port slot → StandFrom p c port slot from words count
    → StandFrom p d port slot from words count)
    (own : (e : Entry) → (IsWritten x.local e) → e.sender ≡ e.port) (has : HoldsStored p held c x) where
  call_stays : (m : CallMessage) → message_at x.local ≡ m → CallIsStored p held c m → CallIsStored p new d m
  call_stays (Taken w slot) is stored = stays p held new c d w.sender slot (place w.sender slot (named_taken x.local w slot is)) stored
  call_stays (Sent e true) is stored =
      let still = place e.sender e.slot (named_sent x.local e true is) in
      (stays p held new c d e.sender e.slot still stored.0, ap (λ (m : Message). m.elements) still.message ∙ stored.1, stored.2)
  call_stays m is stored = tt

  written_stays : (e : Entry) (words : List ℕ) (count : ℕ) → place_names x.local e.sender e.slot ≡ true → StoresAt x.local e.port e.slot → e.sender ≡ e.port
      → StandsWritten p held c e words count → StandsWritten p new d e words count
  written_stays e words count named into itself (fits, lane, head, tail, long) =
      let still : new e.port e.slot ≡ held e.port e.slot
      = subst (λ i. new i e.slot ≡ held i e.slot) itself (place e.sender e.slot named).message in (
        record {
          region = fits.region;
          in_pool = fits.in_pool;
          user = ap (λ (m : Message). length m.user) still ∙ fits.user;
          payload = ap (λ (m : Message). length m.payload) still ∙ fits.payload ∙ ap (λ (m : Message). m.elements * (port_shape p e.port).width) (sym still);
          room = subst (λ (m : Message). m.elements ≤ (p.port e.port).longest) (sym still) fits.room;
        },
        subst (IsAddressed p e.port) (sym still) lane,
        subst (λ (m : Message). StandFrom p d e.port e.slot 0 (message_words (p.port e.port).role m) (words_before_payload p e.port)) (sym still)
            (stand e.port e.slot 0 (words_in p held e.port e.slot) (words_before_payload p e.port) into head),
        stand e.port e.slot (words_before_payload p e.port) words count into tail,
        long,
      )

  header_stays : (w : Way) (slot : ℕ) → place_names x.local w.sender slot ≡ true → header_in p held w.sender slot ≡ header_in p new w.sender slot
  header_stays w slot named = ap (header_words (p.port w.sender).role) (sym (place w.sender slot named).message)

  ended_stays : (ending : Ending) → x.local ≡ Ends ending → GoesThrough p held c (Ends ending) → GoesThrough p new d (Ends ending)
  ended_stays (endings.Lends o slot) is (size, once, words) =
      (size, once, stand o.port slot 0 (loan_words p o) (length (loan_words p o)) (subst (λ l. StoresAt l o.port slot) (sym is) (refl, refl)) words)
  ended_stays (endings.Fills e words) is through =
      written_stays e words (length words) (subst (λ l. place_names l e.sender e.slot ≡ true) (sym is) (slot_itself e))
      (subst (λ l. StoresAt l e.port e.slot) (sym is) (refl, refl)) (own e (subst (λ l. IsWritten l e) (sym is) refl)) through
  ended_stays (endings.Receives v w slot header) is (whole, role) =
      (whole ∙ header_stays w slot (named_taken x.local w slot (ap message_at is)), role)
  ended_stays ending is through = tt

  place_stays : (local : Local) → x.local ≡ local → GoesThrough p held c local → GoesThrough p new d local
  place_stays (LendEmpties o w place left) is through = through
  place_stays (LendStores o slot next) is (size, words) =
      (size, stand o.port slot 0 (loan_words p o) next (subst (λ l. StoresAt l o.port slot) (sym is) (refl, refl)) words)
  place_stays (Writes e words next) is through =
      written_stays e words next (subst (λ l. place_names l e.sender e.slot ≡ true) (sym is) (slot_itself e))
      (subst (λ l. StoresAt l e.port e.slot) (sym is) (refl, refl)) (own e (subst (λ l. IsWritten l e) (sym is) refl)) through
  place_stays (Reads e words) is through =
      subst (λ (m : Message). AreFirst words (m.user ++ m.payload))
      (sym (place e.sender e.slot (subst (λ l. place_names l e.sender e.slot ≡ true) (sym is) (slot_itself e))).message) through
  place_stays (ReceiveLoads v w slot header left waiting) is through =
      subst (AreFirst header) (header_stays w slot (named_taken x.local w slot (ap message_at is))) through
  place_stays (ReceiveAsks v w slot header left waiting) is through = through ∙ header_stays w slot (named_taken x.local w slot (ap message_at is))
  place_stays (Ends ending) is through = ended_stays ending is through
  place_stays local is through = tt

  pub node_stays : HoldsStored p new d x
  node_stays = record {
    entries = λ e there low free. stays p held new c d e.sender e.slot (entry e there low) (has.entries e there low free);
    lengths = λ e there low. ap (λ (m : Message). m.elements) (entry e there low).message ∙ has.lengths e there low;
    suits = has.suits;
    call = call_stays (message_at x.local) refl has.call;
    place = place_stays x.local refl has.place;
  }
