-- An entry that is put aside stands for the same handle.
use Rattle.std.specs.Prelude.{◌≤◌, filter, map, not, option_map, ◌⊎◌}
use Rattle.std.proofs.Common.{◌≡◌, ℕ, Bool, true, false, if◌then◌else◌, ◌==◌, ◌+◌, ◌-◌, ◌&&◌, List, [], ◌∷◌, Option, Some, None, refl, ap, sym, subst, ◌∙◌, arith, inl, inr, eq-eqb, eqb-true, true≢false}
use Rattle.iox_model.specs.Commands.{Reply}
use Rattle.iox_model.specs.Handles.{is_received}
use Rattle.iox_model.specs.Joins.{not_living}
use Rattle.iox_model.specs.Maps.{put_at}
use Rattle.iox_model.specs.Messages.{names}
use Rattle.iox_model.specs.Doings.{Doing, Leaving}
use Rattle.iox_model.specs.States.{Handle}
use Rattle.iox_model.specs.Weaves.{World}
use Rattle.iox_laws.proofs.WeaveLaws.MapLemmas.{eqb-refl}
use Rattle.iox_laws.proofs.WeaveLaws.WholeLemmas.{some-is}
use Rattle.iox_laws.proofs.WeaveLedger.Truths.{none-some}
use Rattle.iox_wire_words.specs.Fits.{WireContents}
use Rattle.iox_wire_moments.specs.MomentsOf.{Pools}
use Rattle.iox_wire_locals.specs.declared.local.Ending.TheVariants as endings
use Rattle.iox_wire_locals.specs.declared.local.Local.{Local}
use Rattle.iox_wire_locals.specs.declared.local.Local.TheVariants.{Idle, ReleaseLooks, ReleaseExchanges}
use Rattle.iox_wire_locals.specs.declared.seat.Seat.{Seat}
use Rattle.iox_wire_locals.specs.declared.table.Entry.{Entry}
use Rattle.iox_wire_locals.specs.BeginLaws.{Counts}
use Rattle.iox_wire_locals.specs.Courses.{ended, placed}
use Rattle.iox_wire_locals.specs.Desks.{at_count, at_desk, gives_up, releases_message}
use Rattle.iox_wire_locals.specs.Doings.{doing_of}
use Rattle.iox_wire_locals.specs.Locals.{program_of, state_told}
use Rattle.iox_wire_locals.specs.ReceiveFindings.{release_exchanged, release_looked}
use Rattle.iox_wire_locals.specs.Settlements.{loses, reply_of}
use Rattle.iox_wire_locals.specs.Steps.{accessed, closed, ending_at}
use Rattle.iox_wire_locals.specs.Tables.{Setting, entry_at, handle_of, way_in, with_entry, without_entry}
use Rattle.iox_wire_laws.specs.WireKeeping.Readiness.{ShowsDoing}
use Rattle.iox_wire_laws.specs.WireKeeping.Shows.{ShowsWorld, programs_of}
use Rattle.iox_wire_laws.proofs.WireShows.NextPrograms.{words_same}
use Rattle.iox_wire_laws.proofs.WireShows.StepsShow.{seat_put}
use Rattle.iox_wire_laws.specs.WireHolding.Aside.{EntriesMayBePutAside, NamesStandAside, ReleasesGoOnAlike, ShownNodesRunTheSame, aside, shown, shown_at, slot_aside, with_aside}
use Rattle.iox_wire_laws.specs.WireHolding.Holding.{held_with}
use Rattle.iox_wire_laws.specs.WireHolding.Named.{IsUnnamed}
use Rattle.iox_wire_laws.specs.WireHolding.SlotsKnown.{EntryFits, HasEntry, NamesStand}
use Rattle.iox_wire_laws.proofs.WireHolding.HeldElsewhere.{handle_with}
use Rattle.iox_wire_laws.proofs.WireHolding.UnnamedSlots.{unnamed_slots_may_change}

-- ---- tables

-- a table in which the first entry of that number is another that stands for the same handle
table_same : (held : Pools) (n : ℕ) (e q : Entry) → q.number ≡ e.number → handle_of held n q ≡ handle_of held n e
    → (table : List Entry) → entry_at e.number table ≡ Some e → map (handle_of held n) (with_entry q table) ≡ map (handle_of held n) table
table_same held n e q number same [] there = none-some e there
table_same held n e q number same (k ∷ ks) there = by_number (k.number == q.number) (k.number == e.number) (ap (λ i. k.number == i) number) there (table_same held n e q number same ks)
  where
    by_number : (a b : Bool) → a ≡ b → (if b then Some k else entry_at e.number ks) ≡ Some e
        → (entry_at e.number ks ≡ Some e → map (handle_of held n) (with_entry q ks) ≡ map (handle_of held n) ks)
        → map (handle_of held n) (if a then q ∷ ks else k ∷ with_entry q ks) ≡ handle_of held n k ∷ map (handle_of held n) ks
    by_number true true is first rest =
        let here : handle_of held n q ≡ handle_of held n k = same ∙ ap (handle_of held n) (sym (some-is k e first)) in
        (λ i. here i ∷ map (handle_of held n) ks)
    by_number false false is first rest = (let later = rest first in (λ i. handle_of held n k ∷ later i))
    by_number true false is first rest = absurd (subst IsYes is tt)
      where
        IsYes : Bool → Type 0
        IsYes true = Unit {0}
        IsYes false = ⊥
    by_number false true is first rest = absurd (subst IsNo is tt)
      where
        IsNo : Bool → Type 0
        IsNo true = ⊥
        IsNo false = Unit {0}

-- once the entry is lost, nothing is left of the change
lost_same : (e q : Entry) → q.number ≡ e.number → (table : List Entry) → without_entry q (with_entry q table) ≡ without_entry e table
lost_same e q number [] = refl
lost_same e q number (k ∷ ks) =
    by_number (k.number == q.number) (k.number == e.number) (ap (λ i. k.number == i) number) refl (rest number ks) (lost_same e q number ks)
  where
    rest : q.number ≡ e.number → (es : List Entry) → without_entry q es ≡ without_entry e es
    rest same es = ap (λ i. filter (λ (j : Entry). not (j.number == i)) es) same

    by_number : (a b : Bool) → a ≡ b → (k.number == q.number) ≡ a → without_entry q ks ≡ without_entry e ks
        → without_entry q (with_entry q ks) ≡ without_entry e ks
        → without_entry q (if a then q ∷ ks else k ∷ with_entry q ks) ≡ (if not b then k ∷ without_entry e ks else without_entry e ks)
    by_number true true is at here later = rw (eqb-refl q.number) here
    by_number false false is at here later = rw at (λ i. k ∷ later i)
    by_number true false is at here later = absurd (subst IsYes is tt)
      where
        IsYes : Bool → Type 0
        IsYes true = Unit {0}
        IsYes false = ⊥
    by_number false true is at here later = absurd (subst IsNo is tt)
      where
        IsNo : Bool → Type 0
        IsNo true = ⊥
        IsNo false = Unit {0}

-- ---- what is shown

module _ (p : Setting) (held : Pools) (word : ℕ → ℕ) (c : WireContents) (seats : ℕ → Seat) (w : World) (n : ℕ) (e : Entry)
    (shows : ShowsWorld p held word c seats w) (living : not_living w.state n ≡ None) (is : (seats n).local ≡ ReleaseLooks e) (has : HasEntry (seats n) e)
    (none : IsUnnamed p c seats w.state e.sender (slot_aside p n e)) where
  abbrev new : Pools
  new = held_with held e.sender (slot_aside p n e) (held e.sender e.slot)

  abbrev q : Entry
  q = aside p n e

  abbrev y : Seat
  y = placed (record (seats n) { table = with_entry (aside p n e) (seats n).table }) (ReleaseLooks (aside p n e))

  before : ShowsWorld p new word c seats w
  before =
      unnamed_slots_may_change p held word c seats w e.sender (slot_aside p n e) (held e.sender e.slot) shows none
      ((shows.counts n living).knows.sent e.sender e.slot)

  there_is : new e.sender (slot_aside p n e) ≡ held e.sender e.slot
  there_is = rw (eqb-refl e.sender) (rw (eqb-refl (slot_aside p n e)) refl)

  here_is : new e.sender e.slot ≡ held e.sender e.slot
  here_is = by_case ((e.sender == e.sender) && (slot_aside p n e == e.slot))
    where
      by_case : (b : Bool) → (if b then held e.sender e.slot else held e.sender e.slot) ≡ held e.sender e.slot
      by_case true = refl
      by_case false = refl

  handle_same : (k : ℕ) → handle_of new k q ≡ handle_of new k e
  handle_same k = ap (handle_with k e) (there_is ∙ sym here_is)

  counts : Counts p y w.state new
  counts =
      let old : Counts p (seats n) w.state new = before.counts n living in record {
        knows = record {
          limits = old.knows.limits;
          ports = old.knows.ports;
          unhandled = old.knows.unhandled;
          handles = old.knows.handles ∙ sym (table_same new (seats n).node e q refl (handle_same (seats n).node) (seats n).table has);
          forgot = old.knows.forgot;
          sent = old.knows.sent;
        };
        on_wire = old.on_wire;
        next_number = old.next_number;
        handles_made = old.handles_made;
        expired = old.expired;
      }

  doing : ShowsDoing p new w y
  doing =
      before.doing n living ∙ ap (doing_of p w.state.fixed new (seats n).node) is
      ∙ ap (λ h. doing_with h) (sym (handle_same (seats n).node))
    where
      doing_with : Handle → Option Doing
      doing_with h = Some (Leaving h)

  put : ShowsWorld p new word c (put_at seats n y) w
  put = record {
    reachable = before.reachable;
    sized = before.sized;
    suits = before.suits;
    words =
        words_same p.layout word (programs_of p seats) (programs_of p (put_at seats n y)) c
        (seat_put (λ k z. program_of p (seats k).local ≡ program_of p z.local) seats n y (ap (program_of p) is) (λ k other. refl)) before.words;
    ties = before.ties;
    states = before.states;
    ids = before.ids;
    node = seat_put (λ k z. z.node ≡ k) seats n y (shows.node n) (λ k other. shows.node k);
    counts = seat_put (λ k z. not_living w.state k ≡ None → Counts p z w.state new) seats n y (λ lives. counts) (λ k other. before.counts k);
    doing = seat_put (λ k z. not_living w.state k ≡ None → ShowsDoing p new w z) seats n y (λ lives. doing) (λ k other. before.doing k);
  }

  shown_is : shown p (seats n) ≡ y
  shown_is =
      ap (shown_at p (seats n)) is
      ∙ ap (λ k. placed (record (seats n) { table = with_entry (aside p k e) (seats n).table }) (ReleaseLooks (aside p k e))) (shows.node n)

pub entries_may_be_put_aside : EntriesMayBePutAside
entries_may_be_put_aside p held word c seats w n e shows living is has none = (
  subst (λ z. ShowsWorld p (held_with held e.sender (slot_aside p n e) (held e.sender e.slot)) word c (put_at seats n z) w)
      (sym (shown_is p held word c seats w n e shows living is has none)) (put p held word c seats w n e shows living is has none),
  beyond (p.port e.sender).pool n,
)
  where
    beyond : (a b : ℕ) → a ≤ a + b
    beyond a b = omega arith

-- ---- how it continues

pub shown_nodes_run_the_same : ShownNodesRunTheSame
shown_nodes_run_the_same p x = by_place x.local refl
  where
    by_place : (local : Local) → x.local ≡ local → program_of p (shown_at p x local).local ≡ program_of p local
    by_place (ReleaseLooks e) is = refl
    by_place (ReleaseExchanges e old) is = refl
    by_place local is = ap (program_of p) is

-- the end of the release leaves the same
over : (p : Setting) (z : Seat) (e : Entry) → is_received e.kind ≡ true
    → closed p (ended (accessed (with_aside p z e)) (endings.Drops (aside p z.node e))) (Some (endings.Drops (aside p z.node e)))
    ≡ closed p (ended (accessed z) (endings.Drops e)) (Some (endings.Drops e))
over p z e received =
    given (ended (accessed (with_aside p z e)) (endings.Drops (aside p z.node e))) (aside p z.node e) received
    ∙ (λ i. record (placed (loses (at_count (accessed z) (way_in e) (λ n. n - 1)) e) Idle) { table = lost_same e (aside p z.node e) refl z.table i })
    ∙ sym (given (ended (accessed z) (endings.Drops e)) e received)
  where
    given : (y : Seat) (k : Entry) → is_received k.kind ≡ true
        → placed (loses (releases_message y k) k) Idle ≡ placed (loses (at_count y (way_in k) (λ n. n - 1)) k) Idle
    given y k is = ap (λ b. placed (loses (if b then at_count y (way_in k) (λ n. n - 1) else at_desk y k.port (gives_up k)) k) Idle) is

module _ (p : Setting) (z : Seat) (e : Entry) (received : is_received e.kind ≡ true) where
  abbrev after : Seat → Seat
  after y = closed p y (ending_at y.local)

  abbrev told : Seat → Option Reply
  told y = option_map (reply_of p y) (ending_at y.local)

  -- a look at the request state leads on, or to the end
  looked : (seen : ℕ)
      → (after (release_looked (accessed (with_aside p z e)) (aside p z.node e) seen) ≡ shown p (after (release_looked (accessed z) e seen)))
      × (told (release_looked (accessed (with_aside p z e)) (aside p z.node e) seen) ≡ told (release_looked (accessed z) e seen))
  looked seen = by_case (names (state_told seen) e.request)
    where
      by_case : (b : Bool)
          → (after (if b then placed (accessed (with_aside p z e)) (ReleaseExchanges (aside p z.node e) seen) else ended (accessed (with_aside p z e)) (endings.Drops (aside p z.node e)))
          ≡ shown p (after (if b then placed (accessed z) (ReleaseExchanges e seen) else ended (accessed z) (endings.Drops e))))
          × (told (if b then placed (accessed (with_aside p z e)) (ReleaseExchanges (aside p z.node e) seen) else ended (accessed (with_aside p z e)) (endings.Drops (aside p z.node e)))
          ≡ told (if b then placed (accessed z) (ReleaseExchanges e seen) else ended (accessed z) (endings.Drops e)))
      by_case true = (refl, refl)
      by_case false = (over p z e received, refl)

  -- so does an exchange of it
  exchanged : (old seen : ℕ)
      → (after (release_exchanged (accessed (with_aside p z e)) (aside p z.node e) old seen) ≡ shown p (after (release_exchanged (accessed z) e old seen)))
      × (told (release_exchanged (accessed (with_aside p z e)) (aside p z.node e) old seen) ≡ told (release_exchanged (accessed z) e old seen))
  exchanged old seen = by_case (seen == old)
    where
      by_case : (b : Bool)
          → (after (if b then ended (accessed (with_aside p z e)) (endings.Drops (aside p z.node e)) else release_looked (accessed (with_aside p z e)) (aside p z.node e) seen)
          ≡ shown p (after (if b then ended (accessed z) (endings.Drops e) else release_looked (accessed z) e seen)))
          × (told (if b then ended (accessed (with_aside p z e)) (endings.Drops (aside p z.node e)) else release_looked (accessed (with_aside p z e)) (aside p z.node e) seen)
          ≡ told (if b then ended (accessed z) (endings.Drops e) else release_looked (accessed z) e seen))
      by_case true = (over p z e received, refl)
      by_case false = looked seen

pub releases_go_on_alike : ReleasesGoOnAlike
releases_go_on_alike p z e old seen received =
    let a = looked p z e received seen in let b = exchanged p z e received old seen in (a.0, a.1, b.0, b.1)

-- ---- what it names

-- the entry is found where it was put
put_there : (n : ℕ) (e q : Entry) → q.number ≡ n → (table : List Entry) → entry_at n table ≡ Some e → entry_at n (with_entry q table) ≡ Some q
put_there n e q number [] there = none-some e there
put_there n e q number (k ∷ ks) there =
    by_number (k.number == q.number) (k.number == n) refl (ap (λ i. k.number == i) number) there (put_there n e q number ks)
  where
    by_number : (a b : Bool) → (k.number == n) ≡ b → a ≡ b → (if b then Some k else entry_at n ks) ≡ Some e
        → (entry_at n ks ≡ Some e → entry_at n (with_entry q ks) ≡ Some q) → entry_at n (if a then q ∷ ks else k ∷ with_entry q ks) ≡ Some q
    by_number true b at same first rest = rw (eq-eqb q.number n number) refl
    by_number false false at same first rest = rw at (rest first)
    by_number false true at same first rest = absurd (true≢false (sym same))

-- what is found there is that entry, or was found before
found_there : (n : ℕ) (e q : Entry) (table : List Entry) → entry_at n (with_entry q table) ≡ Some e → (e ≡ q) ⊎ (entry_at n table ≡ Some e)
found_there n e q [] there = inr there
found_there n e q (k ∷ ks) there =
    by_number (k.number == q.number) (q.number == n) (k.number == n) (λ is. ap (λ i. i == n) (eqb-true k.number q.number is)) refl refl there (found_there n e q ks)
  where
    by_number : (a b c : Bool) → (a ≡ true → c ≡ b) → (q.number == n) ≡ b → (k.number == n) ≡ c → entry_at n (if a then q ∷ ks else k ∷ with_entry q ks) ≡ Some e
        → (entry_at n (with_entry q ks) ≡ Some e → (e ≡ q) ⊎ (entry_at n ks ≡ Some e)) → (e ≡ q) ⊎ ((if c then Some k else entry_at n ks) ≡ Some e)
    by_number true true c same put old is rest = inl (sym (some-is q e (sym (rw put refl) ∙ is)))
    by_number true false true same put old is rest = absurd (true≢false (same refl))
    by_number true false false same put old is rest = inr (sym (rw put refl) ∙ is)
    by_number false b true same put old is rest = inr (sym (rw old refl) ∙ is)
    by_number false b false same put old is rest = rest (sym (rw old refl) ∙ is)

pub names_stand_aside : NamesStandAside
names_stand_aside p f x e is has fit =
    subst (NamesStand p f) (sym (ap (shown_at p x) is)) (record {
      entries = λ q there. by_entry q (found_there q.number q (aside p x.node e) x.table there);
      place = (put_there e.number e (aside p x.node e) refl x.table has, beyond (p.port e.sender).pool x.node);
    })
  where
    beyond : (a b : ℕ) → a ≤ a + b
    beyond a b = omega arith

    by_entry : (q : Entry) → (q ≡ aside p x.node e) ⊎ (entry_at q.number x.table ≡ Some q) → EntryFits p q
    by_entry q (inl same) =
        let old : EntryFits p e = fit e has in
        subst (EntryFits p) (sym same) (record { own = old.own; received = old.received })
    by_entry q (inr there) = fit q there
