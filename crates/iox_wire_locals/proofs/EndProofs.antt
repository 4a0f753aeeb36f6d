-- By cases of the ending.
use Rattle.std.specs.Prelude.{map, not, ◌++◌}
use Rattle.std.proofs.Common.{◌≡◌, ℕ, Bool, true, false, if◌then◌else◌, ◌==◌, List, [], ◌∷◌, refl, ap, sym, subst}
use Rattle.iox_wire_moments.proofs.WeaveLaws.MapLemmas.{eqb-refl}
use Rattle.iox_model.specs.Counts.{without_handle, with_handle, dropped, gives_up, with_fixed, received_handle, holding}
use Rattle.iox_model.specs.Ends as ends
use Rattle.iox_model.specs.Expiries.{released}
use Rattle.iox_model.specs.Forgetting.{forgets}
use Rattle.iox_model.specs.Handles.{is_request_loan, is_received}
use Rattle.iox_model.specs.Maps.{has_number, put_at}
use Rattle.iox_model.specs.States.{Handle, State}
use Rattle.iox_wire_moments.specs.MomentsOf.{Pools}
use Rattle.iox_wire_locals.specs.declared.table.Entry.{Entry}
use Rattle.iox_wire_locals.specs.declared.local.Ending.TheVariants.{Lends, Fills, Sends, FailsToSend, Receives, Drops, Forgets}
use Rattle.iox_wire_locals.specs.declared.seat.Seat.{Seat}
use Rattle.iox_wire_locals.specs.Tables.{Setting, handle_of, without_entry, with_entry, sent_entry}
use Rattle.iox_wire_locals.specs.Desks.{releases_message}
use Rattle.iox_wire_locals.specs.NewLoans.{loan_in, entry_in, lane_in, request_in, received_entry}
use Rattle.iox_wire_locals.specs.Lendings.{next_handle}
use Rattle.iox_wire_locals.specs.Doings.{receiver_in}
use Rattle.iox_wire_locals.specs.declared.local.Visit.{Visit}
use Rattle.iox_model.specs.declared.way.Way.{Way}
use Rattle.iox_wire_locals.specs.Settlements as own
use Rattle.iox_wire_locals.specs.BeginLaws.{Counts}
use Rattle.iox_wire_locals.specs.EndLaws.{TablesSettle}
use Rattle.iox_wire_locals.proofs.ReplyProofs.{number_is}

one_more : (held : Pools) (node : ℕ) (e : Entry) (table : List Entry)
    → map (handle_of held node) table ++ handle_of held node e ∷ [] ≡ map (handle_of held node) (table ++ e ∷ [])
one_more held node e [] = refl
one_more held node e (k ∷ ks) = ap (λ hs. handle_of held node k ∷ hs) (one_more held node e ks)

one_less : (held : Pools) (node : ℕ) (e : Entry) (table : List Entry)
    → without_handle (handle_of held node e) (map (handle_of held node) table) ≡ map (handle_of held node) (without_entry e table)
one_less held node e [] = refl
one_less held node e (k ∷ ks) = by_case (k.number == e.number) (one_less held node e ks)
  where
    by_case : (b : Bool) → without_handle (handle_of held node e) (map (handle_of held node) ks) ≡ map (handle_of held node) (without_entry e ks)
        → (if not b then handle_of held node k ∷ without_handle (handle_of held node e) (map (handle_of held node) ks) else without_handle (handle_of held node e) (map (handle_of held node) ks))
        ≡ map (handle_of held node) (if not b then k ∷ without_entry e ks else without_entry e ks)
    by_case true rest = rest
    by_case false rest = ap (λ hs. handle_of held node k ∷ hs) rest

one_changed : (held : Pools) (node : ℕ) (e : Entry) (table : List Entry)
    → with_handle (handle_of held node e) (map (handle_of held node) table) ≡ map (handle_of held node) (with_entry e table)
one_changed held node e [] = refl
one_changed held node e (k ∷ ks) = by_case (k.number == e.number) (one_changed held node e ks)
  where
    by_case : (b : Bool) → with_handle (handle_of held node e) (map (handle_of held node) ks) ≡ map (handle_of held node) (with_entry e ks)
        → (if b then handle_of held node e ∷ map (handle_of held node) ks else handle_of held node k ∷ with_handle (handle_of held node e) (map (handle_of held node) ks))
        ≡ map (handle_of held node) (if b then e ∷ ks else k ∷ with_entry e ks)
    by_case true rest = refl
    by_case false rest = ap (λ hs. handle_of held node k ∷ hs) rest

module _ (p : Setting) (x : Seat) (s : State) (held : Pools) (has : Counts p x s held) where
  -- a handle is gone, on a wire with no port
  gone : (e : Entry) → (released (with_fixed s (dropped s.fixed (handle_of held x.node e))) e.port).fixed.handles x.node
      ≡ map (handle_of held x.node) (without_entry e x.table)
  gone e = rw has.on_wire (rw (eqb-refl x.node) (rw has.knows.handles (one_less held x.node e x.table)))

  sent : (e : Entry) (copied : Bool) (count : ℕ) (b : Bool) → is_request_loan e.kind ≡ b
      → (ends.after_send s (handle_of held x.node e) copied count).fixed.handles x.node
      ≡ map (handle_of held x.node) (own.after_send x e copied count).table
  sent e true count true is =
      rw is (rw has.on_wire (rw (eqb-refl x.node) (rw has.knows.handles (one_more held x.node (sent_entry e count) x.table))))
  sent e true count false is = rw is has.knows.handles
  sent e false count true is =
      rw is (rw (eqb-refl x.node) (rw has.knows.handles (one_changed held x.node (sent_entry e count) x.table)))
  sent e false count false is = rw is (gone e)

  failed : (e : Entry) (copied : Bool) → (ends.after_refused_send s (handle_of held x.node e) copied).fixed.handles x.node
      ≡ map (handle_of held x.node) (own.after_refused_send x e copied).table
  failed e true = has.knows.handles
  failed e false = gone e

  drops : (e : Entry) (b : Bool) → is_received e.kind ≡ b
      → (released (with_fixed s (gives_up (dropped s.fixed (handle_of held x.node e)) (handle_of held x.node e))) e.port).fixed.handles x.node
      ≡ map (handle_of held x.node) (own.loses (releases_message x e) e).table
  drops e true is = rw is (rw has.on_wire (rw (eqb-refl x.node) (rw has.knows.handles (one_less held x.node e x.table))))
  drops e false is = rw is (rw has.on_wire (rw (eqb-refl x.node) (rw has.knows.handles (one_less held x.node e x.table))))

  forgot : (dead : ℕ) (a b : Bool)
      → (if a then s else forgets s x.node dead).fixed.handles x.node
      ≡ map (handle_of held x.node) (if b then x else own.forgets p x dead).table
  forgot dead true true = has.knows.handles
  forgot dead true false = has.knows.handles
  forgot dead false true = has.knows.handles
  forgot dead false false = has.knows.handles

  received : (v : Visit) (w : Way) (slot : ℕ) (header : List ℕ)
      → lane_in v w header ≡ (held w.sender slot).lane → request_in v header ≡ (held w.sender slot).request
      → received_handle s.fixed x.node (receiver_in v) (held w.sender slot)
      ≡ handle_of held x.node (received_entry (next_handle p x) v w slot header)
  received v w slot header lane request =
      rw (lane, request) (rw (number_is p x s held has, has.knows.sent w.sender slot) refl)

  added_one : (h : Handle) (e : Entry) → h.node ≡ x.node → handle_of held x.node e ≡ h
      → put_at s.fixed.handles h.node (s.fixed.handles h.node ++ h ∷ []) x.node
      ≡ map (handle_of held x.node) (x.table ++ e ∷ [])
  added_one h e mine is =
      subst (λ n. put_at s.fixed.handles n (s.fixed.handles n ++ h ∷ []) x.node ≡ map (handle_of held x.node) (x.table ++ e ∷ []))
      (sym mine) (rw (eqb-refl x.node) (rw has.knows.handles
      (subst (λ k. map (handle_of held x.node) x.table ++ k ∷ [] ≡ map (handle_of held x.node) (x.table ++ e ∷ []))
      is (one_more held x.node e x.table))))

pub tables_settle : TablesSettle
tables_settle p x s held payload (Lends o slot) has r =
    rw has.on_wire (added_one p x s held has (holding (loan_in p o) payload) (entry_in o slot) r.0 r.1)
tables_settle p x s held payload (Fills e words) has r = absurd r
tables_settle p x s held payload (Sends e copied count) has r = sent p x s held has e copied count (is_request_loan e.kind) refl
tables_settle p x s held payload (FailsToSend e copied refusal) has r = failed p x s held has e copied
tables_settle p x s held payload (Receives v w slot header) has r =
    rw (received p x s held has v w slot header r.0 r.1)
    (rw has.on_wire (rw (eqb-refl x.node) (rw has.knows.handles (one_more held x.node (received_entry (next_handle p x) v w slot header) x.table))))
tables_settle p x s held payload (Drops e) has r = drops p x s held has e (is_received e.kind) refl
tables_settle p x s held payload (Forgets dead) has r =
    forgot p x s held has dead (has_number dead (s.fixed.forgot x.node)) (has_number dead x.forgot)
tables_settle p x s held payload ending has r = has.knows.handles
