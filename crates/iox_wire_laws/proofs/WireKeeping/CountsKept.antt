-- What a node counts, through its own call.
use Rattle.std.specs.Prelude.{map, ◌++◌}
use Rattle.std.proofs.Common.{◌≡◌, ℕ, Bool, true, false, if◌then◌else◌, ◌+◌, List, [], ◌∷◌, refl, ap, sym, subst, ◌∙◌}
use Rattle.iox_model.specs.Ends as ends
use Rattle.iox_model.specs.Counts.{dropped, gives_up, with_fixed}
use Rattle.iox_model.specs.Expiries.{released}
use Rattle.iox_model.specs.Forgetting.{forgets}
use Rattle.iox_model.specs.Handles.{is_request_loan, is_received}
use Rattle.iox_model.specs.Maps.{has_number}
use Rattle.iox_model.specs.Moments.{moved}
use Rattle.iox_model.specs.States.{Fixed, State}
use Rattle.iox_laws.proofs.WeaveLaws.MapLemmas.{eqb-refl}
use Rattle.iox_laws.proofs.WeaveLaws.WholeLemmas.{moved-fixed}
use Rattle.iox_wire_moments.specs.MomentsOf.{Pools}
use Rattle.iox_wire_locals.specs.declared.table.Entry.{Entry}
use Rattle.iox_wire_locals.specs.declared.local.Ending.{Ending}
use Rattle.iox_wire_locals.specs.declared.local.Ending.TheVariants.{Refuses, Lends, Sends, FailsToSend, Receives, Drops, Forgets}
use Rattle.iox_wire_locals.specs.declared.seat.Seat.{Seat}
use Rattle.iox_wire_locals.specs.Tables.{Setting, handle_of}
use Rattle.iox_wire_locals.specs.Desks.{releases_message}
use Rattle.iox_wire_locals.specs.Doings.{outcome_of}
use Rattle.iox_wire_locals.specs.Settlements as own
use Rattle.iox_wire_locals.specs.Knowing.{Knows}
use Rattle.iox_wire_locals.specs.BeginLaws.{Counts}
use Rattle.iox_wire_locals.proofs.EndProofs.{tables_settle}
use Rattle.iox_wire_laws.specs.WireKeeping.OwnParts.{KeepsOwn}
use Rattle.iox_wire_laws.specs.WireKeeping.OwnLaws.{BeginsKeepOwn, StepsKeepOwn, OwnStaysCounted, EndsKeepCounts}
use Rattle.iox_wire_laws.proofs.WireKeeping.Frames.{Frame, KeepsPorts, settled_frame}
use Rattle.iox_wire_laws.proofs.WireKeeping.BeginLeads as begins
use Rattle.iox_wire_laws.proofs.WireKeeping.OwnKept as kept

pub begins_keep_own : BeginsKeepOwn
begins_keep_own p x call = (begins.begin p x call).own

pub steps_keep_own : StepsKeepOwn
steps_keep_own p x seen =
    let k = kept.advance p (record x { accesses = x.accesses + 1 }) x.local seen in
    record { node = k.node; handles_made = k.handles_made; table = k.table; borrowed = k.borrowed; forgot = k.forgot }

-- the same part, of the same machine
pub by_part : (p : Setting) (x y : Seat) (s : State) (held : Pools) → KeepsOwn x y → Counts p x s held → Counts p y s held
by_part p x y s held k has = record {
  knows = record {
    limits = has.knows.limits;
    ports = has.knows.ports;
    unhandled = has.knows.unhandled;
    handles = subst (λ n. s.fixed.handles n ≡ map (handle_of held n) y.table) (sym k.node) (has.knows.handles ∙ ap (map (handle_of held x.node)) (sym k.table));
    forgot = ap s.fixed.forgot k.node ∙ has.knows.forgot ∙ sym k.forgot;
    sent = has.knows.sent;
  };
  on_wire = has.on_wire;
  next_number = has.next_number;
  handles_made = ap s.fixed.handles_made k.node ∙ has.handles_made ∙ sym k.handles_made;
  expired = has.expired;
}

-- the same part, and the same that is fixed
pub by_fixed : (p : Setting) (x : Seat) (s t : State) (held : Pools) → t.fixed ≡ s.fixed → Counts p x s held → Counts p x t held
by_fixed p x s t held e has = record {
  knows = subst (λ f. Knows p x f held) (sym e) has.knows;
  on_wire = ap (λ (f : Fixed). f.on_wire) e ∙ has.on_wire;
  next_number = ap (λ (f : Fixed). f.next_number) e ∙ has.next_number;
  handles_made = ap (λ (f : Fixed). f.handles_made x.node) e ∙ has.handles_made;
  expired = λ port. ap (λ (f : Fixed). f.expired port) e ∙ has.expired port;
}

pub own_stays_counted : OwnStaysCounted
own_stays_counted p x y s m held k has =
    let here = by_part p x y s held k has in (here, by_fixed p y s (moved s m) held (moved-fixed s m) here)

-- ---- the end of a call

pub no_port : (p : Setting) (held : Pools) (node : ℕ) (ending : Ending) → KeepsPorts (outcome_of p held node ending)
no_port p held node (Refuses r) = tt
no_port p held node ending = tt

module _ (p : Setting) (x : Seat) (s : State) (held : Pools) (payload : List ℕ) (has : Counts p x s held) where
  -- the node, its number of handles and the forgotten ones are the machine's
  abbrev Agrees : Seat → Fixed → Type 0
  Agrees y f = (y.node ≡ x.node) × (f.handles_made x.node ≡ y.handles_made) × (f.forgot x.node ≡ y.forgot)

  abbrev unchanged : (x.node ≡ x.node) × (s.fixed.handles_made x.node ≡ x.handles_made) × (s.fixed.forgot x.node ≡ x.forgot)
  unchanged = (refl, has.handles_made, has.knows.forgot)

  sent : (e : Entry) (copied : Bool) (count : ℕ) (b : Bool) → is_request_loan e.kind ≡ b
      → Agrees (own.after_send x e copied count) (ends.after_send s (handle_of held x.node e) copied count).fixed
  sent e true count true is = rw is (refl, rw has.on_wire (rw (eqb-refl x.node) (ap (λ n. n + 1) has.handles_made)), rw has.on_wire has.knows.forgot)
  sent e true count false is = rw is unchanged
  sent e false count true is = rw is unchanged
  sent e false count false is = rw is (refl, rw has.on_wire has.handles_made, rw has.on_wire has.knows.forgot)

  failed : (e : Entry) (copied : Bool)
      → Agrees (own.after_refused_send x e copied) (ends.after_refused_send s (handle_of held x.node e) copied).fixed
  failed e true = unchanged
  failed e false = (refl, rw has.on_wire has.handles_made, rw has.on_wire has.knows.forgot)

  drops : (e : Entry) (b : Bool) → is_received e.kind ≡ b
      → Agrees (own.loses (releases_message x e) e)
      (released (with_fixed s (gives_up (dropped s.fixed (handle_of held x.node e)) (handle_of held x.node e))) e.port).fixed
  drops e true is = rw is (refl, rw has.on_wire has.handles_made, rw has.on_wire has.knows.forgot)
  drops e false is = rw is (refl, rw has.on_wire has.handles_made, rw has.on_wire has.knows.forgot)

  forgot : (dead : ℕ) (b : Bool)
      → Agrees (if b then x else own.forgets p x dead) (if b then s else forgets s x.node dead).fixed
  forgot dead true = unchanged
  forgot dead false = (refl, has.handles_made, rw (eqb-refl x.node) (ap (λ ds. ds ++ dead ∷ []) has.knows.forgot))

  pub agree : (ending : Ending) → Agrees (own.settled p x ending) (ends.settled s x.node payload (outcome_of p held x.node ending)).fixed
  agree (Lends o slot) =
      (refl, rw has.on_wire (rw (eqb-refl x.node) (ap (λ n. n + 1) has.handles_made)), rw has.on_wire has.knows.forgot)
  agree (Receives v w slot header) =
      (refl, rw has.on_wire (rw (eqb-refl x.node) (ap (λ n. n + 1) has.handles_made)), rw has.on_wire has.knows.forgot)
  agree (Sends e copied count) = sent e copied count (is_request_loan e.kind) refl
  agree (FailsToSend e copied r) = failed e copied
  agree (Drops e) = drops e (is_received e.kind) refl
  agree (Forgets dead) =
      subst (λ b. Agrees (if has_number dead x.forgot then x else own.forgets p x dead) (if b then s else forgets s x.node dead).fixed)
      (sym (ap (has_number dead) has.knows.forgot)) (forgot dead (has_number dead x.forgot))
  agree ending = unchanged

pub ends_keep_counts : EndsKeepCounts
ends_keep_counts p x s held payload ending has relies =
    let t : State = ends.settled s x.node payload (outcome_of p held x.node ending) in
    let y : Seat = own.settled p x ending in
    let a : (y.node ≡ x.node) × (t.fixed.handles_made x.node ≡ y.handles_made) × (t.fixed.forgot x.node ≡ y.forgot)
    = agree p x s held payload has ending in
    let k : Frame s.fixed t.fixed
    = settled_frame s x.node payload (outcome_of p held x.node ending) has.on_wire (no_port p held x.node ending) in record {
      knows = record {
        limits = k.2 ∙ has.knows.limits;
        ports = k.1 ∙ has.knows.ports;
        unhandled = has.knows.unhandled;
        handles = subst (λ n. t.fixed.handles n ≡ map (handle_of held n) y.table) (sym a.0) (tables_settle p x s held payload ending has relies);
        forgot = ap t.fixed.forgot a.0 ∙ a.2;
        sent = has.knows.sent;
      };
      on_wire = k.0 ∙ has.on_wire;
      next_number = k.3 ∙ has.next_number;
      handles_made = ap t.fixed.handles_made a.0 ∙ a.1;
      expired = λ port. ap (λ (g : ℕ → List ℕ). g port) k.4 ∙ has.expired port;
    }
