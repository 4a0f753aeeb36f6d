-- All that is so of a node is so after its access.
use Rattle.std.specs.Prelude.{◌<◌, ◌⊎◌, nat_lt, find, is_some, map, option_map}
use Rattle.std.specs.List.{list_any}
use Rattle.std.specs.Option.{option_map_or}
use Rattle.std.proofs.Common.{◌≡◌, ℕ, Bool, true, false, if◌then◌else◌, ◌==◌, List, Option, Some, None, refl, ap, sym, subst, ◌∙◌, inl, inr, arith}
use Rattle.iox_model.specs.declared.way.Way.{Way}
use Rattle.iox_model.specs.Joins.{not_living}
use Rattle.iox_model.specs.Maps.{AreDistinct, has_number, same_way}
use Rattle.iox_model.specs.Moments.{Moment}
use Rattle.iox_model.specs.States.{Fixed, State}
use Rattle.iox_model.specs.Weaves.{World}
use Rattle.iox_model.specs.declared.kind.Kind.TheVariants.{PendingResponse}
use Rattle.iox_model.specs.Handles.{same_kind}
use Rattle.iox_laws.proofs.WeaveLaws.WholeLemmas.{moved-fixed}
use Rattle.iox_laws.proofs.WeaveLaws.MapLemmas.{eqb-refl}
use Rattle.iox_laws.proofs.WeaveLedger.Truths.{none-some, or-left}
use Rattle.iox_steps.specs.Accesses.{seen_by}
use Rattle.iox_word_map.specs.WordMaps.{IsWay}
use Rattle.iox_wire_words.specs.Fits.{WireContents}
use Rattle.iox_wire_words.specs.Laws.{AccessIsMade}
use Rattle.iox_wire_words.specs.Programs.{program_access}
use Rattle.iox_wire_moments.specs.MomentsOf.{Pools}
use Rattle.iox_wire_locals.specs.declared.local.Local.{Local}
use Rattle.iox_wire_locals.specs.declared.local.Local.TheVariants.{Ends, LendEmpties, LendStores, ReleaseReturns}
use Rattle.iox_wire_locals.specs.declared.seat.Seat.{Seat}
use Rattle.iox_wire_locals.specs.declared.table.Borrowed.{Borrowed}
use Rattle.iox_wire_locals.specs.declared.table.Desk.{Desk}
use Rattle.iox_wire_locals.specs.declared.table.Entry.{Entry}
use Rattle.iox_wire_locals.specs.Desks.{delivers, gets_back, on_desk, picks}
use Rattle.iox_wire_locals.specs.Known.{loans_at}
use Rattle.iox_wire_locals.specs.Knowing.{Knows}
use Rattle.iox_wire_locals.specs.Locals.{program_of}
use Rattle.iox_wire_locals.specs.StateMoments.{moment_at}
use Rattle.iox_wire_locals.specs.Steps.{accessed, advance, ending_at}
use Rattle.iox_wire_locals.specs.Tables.{Setting, entry_at}
use Rattle.iox_wire_laws.specs.WireKeeping.OwnParts.{KeepsOwn}
use Rattle.iox_wire_laws.specs.WireKeeping.Records.{RecordsFit, record_of, recorded_of}
use Rattle.iox_wire_laws.specs.WireKeeping.Shows.{OwnsPlace, ShowsWorld}
use Rattle.iox_wire_laws.specs.WireKeeping.UsedSlots.{PortFits}
use Rattle.iox_wire_laws.proofs.WireKeeping.CountsKept.{steps_keep_own}
use Rattle.iox_wire_laws.proofs.WireKeeping.RecordsKept.{found}
use Rattle.iox_wire_laws.specs.WireShows.OwnedCalls.{LimitsAreKnown, TellsLane, state_after}
use Rattle.iox_wire_laws.specs.WireOwners.Borrowed.{BorrowedFits, HasCount}
use Rattle.iox_wire_laws.specs.WireOwners.FirmOwners.{OwnsFirmly}
use Rattle.iox_wire_laws.proofs.WireOwners.Borrowed.{counts_tell_limits, own_parts_keep_borrowed}
use Rattle.iox_wire_laws.proofs.WireOwners.FirmOwners.{firm_owners_stay}
use Rattle.iox_wire_laws.specs.WireOwners.Releases.{HasOwnStates, ReleasesOwnHandle}
use Rattle.iox_wire_laws.specs.WireOwners.SentStates.{HasOpened}
use Rattle.iox_wire_laws.proofs.WireOwners.SentStates.{accesses_leave_opened, accesses_leave_states}
use Rattle.iox_wire_laws.specs.WireRegions.OwnedBegins.{LayoutFits}
use Rattle.iox_wire_laws.specs.WireRegions.OwnedWords.{FreeSlotsAreThePools}
use Rattle.iox_wire_laws.specs.WireRegions.OwnedWordLaws.{LoanHasLane, TakesLane}
use Rattle.iox_wire_laws.proofs.WireRegions.OwnPorts.{both}
use Rattle.iox_wire_laws.proofs.WireRegions.OwnedPlaces.{owners_may_access}
use Rattle.iox_wire_laws.specs.WireHolding.FarSlots.{IsInPool, NamesSlots, QueuesHaveSlots}
use Rattle.iox_wire_laws.specs.WireHolding.Holding.{held_after}
use Rattle.iox_wire_laws.specs.WireHolding.SlotsKnown.{HasEntry, IsPortOfSeat, NamesStand, SlotsKnown}
use Rattle.iox_wire_pools.specs.FoundUses.{SendsThere}
use Rattle.iox_wire_pools.specs.Uses.{AllUsesAreCounted}
use Rattle.iox_wire_pools.specs.UsesLaws.{FindsUsed}
use Rattle.iox_wire_pools.proofs.AccessUses.{accesses_keep_uses}
use Rattle.iox_wire_pools.proofs.AccessesFound.{accesses_find_used}
use Rattle.iox_wire_stands.specs.FollowingLaws.{TakesNext}
use Rattle.iox_wire_stands.specs.Following.{CallMessage, Delivered, DeskChange, Dropped, NodeContinues, IsReturning, Leaving, LeavesNothing, Lent, MayLetGo, NoMessage, GotBack, Unchanged, changed, desk_change, drops, keeps, lets_go, message_at, picks_slot, puts_aside, sends_loan, takes}
use Rattle.iox_wire_stands.specs.NamesLaws.{ReturnsNothing, TakesInPool}
use Rattle.iox_wire_stands.specs.NodeLaws.{AccessesKeepNodes, ToldWhatIsSo}
use Rattle.iox_wire_stands.specs.Nodes.{HasOwnDesks, LendsAtHome, NodeStands}
use Rattle.iox_wire_stands.specs.Stands.{AreNumbered, OwnersAre}
use Rattle.iox_wire_stands.proofs.Follows.{accesses_follow}
use Rattle.iox_wire_stands.proofs.Fresh.{delivers_fresh}
use Rattle.iox_wire_stands.proofs.NamesFollow.{accesses_keep_names}
use Rattle.iox_wire_stands.proofs.SendsFollow.{slots_are_found_in_pools}
use Rattle.iox_wire_stands.proofs.SlotsFollow.{accesses_keep_slots, desk_of_record, none_taken}

-- ---- desks

-- two desks, or none, that count as many loans
abbrev pub SameDesk : Option Desk → Option Desk → Type 0
SameDesk None None = Unit {0}
SameDesk (Some d) (Some e) = e.loans ≡ d.loans
SameDesk d e = ⊥

pub itself : (d : Option Desk) → SameDesk d d
itself None = tt
itself (Some d) = refl

pub same_loans : (d e : Option Desk) → SameDesk d e → option_map_or (λ (k : Desk). k.loans) e 0 ≡ option_map_or (λ (k : Desk). k.loans) d 0
same_loans None None is = refl
same_loans (Some d) (Some e) is = is
same_loans None (Some e) is = absurd is
same_loans (Some d) None is = absurd is

pub same_there : (d e : Option Desk) → SameDesk d e → is_some e ≡ true → is_some d ≡ true
same_there None None is some = some
same_there (Some d) e is some = refl
same_there None (Some e) is some = absurd is

-- a change that leaves a desk's port and its count of loans
pub record LeavesLoans (change : Desk → Desk) : Type 0 where
  pub port : (d : Desk) → (change d).port ≡ d.port
  pub loans : (d : Desk) → (change d).loans ≡ d.loans

module _ (change : Desk → Desk) (leaves : LeavesLoans change) (k port : ℕ) where
  desk_port : (d : Desk) (b : Bool) → ((if b then change d else d).port == port) ≡ (d.port == port)
  desk_port d true = ap (λ n. n == port) (leaves.port d)
  desk_port d false = refl

  loans_on : (d : Desk) (b : Bool) → (if b then change d else d).loans ≡ d.loans
  loans_on d true = leaves.loans d
  loans_on d false = refl

  changed_desk : (d : Option Desk) → SameDesk d (option_map (on_desk k change) d)
  changed_desk None = tt
  changed_desk (Some d) = loans_on d (d.port == k)

  pub same_at : (desks : List Desk) → SameDesk (find (λ d. d.port == port) desks) (find (λ d. d.port == port) (map (on_desk k change) desks))
  same_at desks =
      subst (SameDesk (find (λ d. d.port == port) desks))
      (sym (found (on_desk k change) (λ d. d.port == port) (λ d. desk_port d (d.port == k)) desks)) (changed_desk (find (λ d. d.port == port) desks))

by_change : (x : Seat) (change : DeskChange) (port : ℕ) → SameDesk (find (λ d. d.port == port) x.desks) (find (λ d. d.port == port) (changed change x).desks)
by_change x Unchanged port = itself (find (λ d. d.port == port) x.desks)
by_change x (GotBack k w slot) port = same_at (gets_back w slot) (record { port = λ d. refl; loans = λ d. refl }) k port x.desks
by_change x (Delivered k w slot) port = same_at (delivers w slot) (record { port = λ d. refl; loans = λ d. refl }) k port x.desks

module _ (p : Setting) (x : Seat) (seen : ℕ) where
  abbrev next_seat : Seat
  next_seat = advance p (accessed x) x.local seen

  at : (ds : List Desk) (port : ℕ) → next_seat.desks ≡ ds → SameDesk (find (λ d. d.port == port) x.desks) (find (λ d. d.port == port) ds)
      → SameDesk (find (λ d. d.port == port) x.desks) (find (λ d. d.port == port) next_seat.desks)
  at ds port is same = subst (λ ks. SameDesk (find (λ d. d.port == port) x.desks) (find (λ d. d.port == port) ks)) (sym is) same

  same_desk : (port : ℕ) → NodeContinues p (accessed x) x.local seen next_seat
      → SameDesk (find (λ d. d.port == port) x.desks) (find (λ d. d.port == port) next_seat.desks)
  same_desk port (keeps desks message) = at _ port desks (by_change (accessed x) (desk_change p x.local seen) port)
  same_desk port (lets_go desks still message may) = at x.desks port desks (itself (find (λ d. d.port == port) x.desks))
  same_desk port (takes w slot desks still message took) = at x.desks port desks (itself (find (λ d. d.port == port) x.desks))
  same_desk port (puts_aside e desks still returns message) = at x.desks port desks (itself (find (λ d. d.port == port) x.desks))
  same_desk port (drops e desks still of message) = at x.desks port desks (itself (find (λ d. d.port == port) x.desks))
  same_desk port (sends_loan o slot desks still before copies message) = at x.desks port desks (itself (find (λ d. d.port == port) x.desks))
  same_desk port (picks_slot o slot free desks still place before there lends) =
      at _ port desks (same_at (picks o slot free) (record { port = λ d. refl; loans = λ d. refl }) o.port port x.desks)

-- ---- what is left stays left

abbrev NotDropped : CallMessage → Type 0
NotDropped (Dropped e) = ⊥
NotDropped other = Unit {0}

dropped_ends : (local : Local) (e : Entry) → message_at local ≡ Dropped e → ending_at local ≡ None → ⊥
dropped_ends (Ends ending) e is going = none-some ending (sym going)
dropped_ends local e is going = subst NotDropped is tt

lets_not : (message : CallMessage) → MayLetGo message → LeavesNothing message
lets_not (Leaving e) may = may
lets_not other may = tt

returns_not : (local : Local) (e : Entry) → IsReturning local e → LeavesNothing (message_at local)
returns_not (ReleaseReturns k place) e is = tt
returns_not local e is = absurd is

still_leaving : (p : Setting) (local : Local) (seen : ℕ) (x y : Seat) (e : Entry) → message_at local ≡ Leaving e → ending_at y.local ≡ None
    → NodeContinues p x local seen y → message_at y.local ≡ Leaving e
still_leaving p local seen x y e is going (keeps desks message) = message ∙ is
still_leaving p local seen x y e is going (lets_go desks still message may) = absurd (subst LeavesNothing is (lets_not (message_at local) may))
still_leaving p local seen x y e is going (takes w slot desks still message took) =
    absurd (subst LeavesNothing is (subst LeavesNothing (sym (none_taken p local seen w slot took)) tt))
still_leaving p local seen x y e is going (puts_aside k desks still returns message) = absurd (subst LeavesNothing is (returns_not local k returns))
still_leaving p local seen x y e is going (drops k desks still of message) = absurd (dropped_ends y.local k message going)
still_leaving p local seen x y e is going (picks_slot o slot free desks still place before there lends) =
    absurd (subst LeavesNothing is (subst LeavesNothing (sym before) tt))
still_leaving p local seen x y e is going (sends_loan o slot desks still before copies message) =
    absurd (subst LeavesNothing is (subst LeavesNothing (sym before) tt))

pub after_fixed : (s : State) (m : Option Moment) → (state_after s m).fixed ≡ s.fixed
after_fixed s None = refl
after_fixed s (Some m) = moved-fixed s m

lt_is : (a b : ℕ) → nat_lt a b ≡ true → a < b
lt_is a b e = grind (arith)

-- ---- what a standing node knows

module _ (p : Setting) (held : Pools) (s : State) (x : Seat) (stands : NodeStands p held s x) where
  pub records : RecordsFit held s x
  records = record {
    told = λ y k some. (slots_at y some).records.told y k some;
    once = λ y some. (slots_at y some).records.once y some;
  }
    where
      slots_at : (y : Way) → is_some (record_of y (recorded_of x y.sender)) ≡ true → PortFits held s x y.sender
      slots_at y some = stands.slots.ports y.sender (stands.at_desks y.sender (desk_of_record x y.sender y some))

  pub free_pools : FreeSlotsAreThePools p x
  free_pools port slot free =
      let pool = stands.slots.pools port (stands.slots.desks port slot free) in
      lt_is slot (p.port port).pool (both (nat_lt slot (p.port port).pool) _ (sym (pool.free slot) ∙ free)).0

  pub limits : Knows p x s.fixed held → LimitsAreKnown p x s.fixed
  limits knows = counts_tell_limits p x s.fixed held knows stands.borrowed

-- what is so of a node wherever it is in its call, but for what its entries and its place name
pub record KeptPart (p : Setting) (held : Pools) (s : State) (x : Seat) : Type 0 where
  pub owns : OwnsFirmly p x.node s.fixed s.request_state x.local
  pub lends : LendsAtHome p x (message_at x.local)
  pub slots : SlotsKnown p held s x
  pub at_desks : HasOwnDesks p x
  pub uses : AllUsesAreCounted p x
  pub loans : (port : ℕ) → IsPortOfSeat p x port → s.fixed.loans port ≡ loans_at x port
  pub borrowed : BorrowedFits p x s.fixed
  pub counted : (y : Way) → IsWay p.layout.sizes y → p.layout.owner y.receiver ≡ x.node → HasCount x y
  pub numbers : AreDistinct (map (λ e. e.number) x.table)
  pub released : (e : Entry) → HasEntry x e → ReleasesOwnHandle s.fixed x.node e
  pub states : (e : Entry) → HasEntry x e → same_kind e.kind PendingResponse ≡ true → HasOwnStates p x s.request_state e
  pub opened : HasOpened s.request_state x.local
  pub tells : TellsLane held x.local

-- a loan that takes a slot has a lane
pub takes_lane : (p : Setting) (held : Pools) (s : State) (before after : Local) → TakesNext p held s (message_at before) after → TakesLane p before after
takes_lane p held s (LendEmpties o w place left) after next = lane after next
  where
    lane : (after : Local) → TakesNext p held s NoMessage after → LoanHasLane p after
    lane (LendStores k slot stored) is = is.lane
    lane local is = tt
takes_lane p held s before after next = tt

-- ---- an access

module _ (p : Setting) (held : Pools) (word word' : ℕ → ℕ) (c : WireContents) (seats : ℕ → Seat) (w : World) (n : ℕ)
    (shows : ShowsWorld p held word c seats w) (living : not_living w.state n ≡ None) (fits : LayoutFits p w.state.fixed)
    (owners : OwnersAre p w.state.fixed) (numbered : AreNumbered p) (queues : QueuesHaveSlots p c w.state)
    (stands : NodeStands p held w.state (seats n)) where
  abbrev x : Seat
  x = seats n

  abbrev s : State
  s = w.state

  abbrev seen : ℕ
  seen = seen_by (program_access p.layout (program_of p x.local)) word

  abbrev y : Seat
  y = advance p (accessed x) x.local seen

  abbrev t : State
  t = state_after s (moment_at p held x.local seen)

  module _ (told : ToldWhatIsSo p held s x seen) (made : AccessIsMade (program_access p.layout (program_of p x.local)) word word') where
    part : KeepsOwn x y
    part = steps_keep_own p x seen

    fixed : t.fixed ≡ s.fixed
    fixed = after_fixed s (moment_at p held x.local seen)

    knows : Knows p x s.fixed held
    knows = (shows.counts n living).knows

    there : TakesInPool p x.local seen × SendsThere p held s x x.local seen
    there =
        slots_are_found_in_pools p held word word' c seats w n shows living fits owners numbered queues stands.names stands.slots stands.owns.owns stands.tells made

    place : OwnsPlace p held s x
    place = (owners_may_access p held s x stands.owns.owns stands.tells).0

    finds : FindsUsed p x x.local seen
    finds = accesses_find_used p held word c seats w n shows living place told.relies (records p held s x stands) stands.uses there.1

    desks : (port : ℕ) → SameDesk (find (λ d. d.port == port) x.desks) (find (λ d. d.port == port) y.desks)
    desks port = same_desk p x seen port (accesses_follow p (accessed x) seen)

    back : (e : Entry) → HasEntry y e → HasEntry x e
    back e has = ap (entry_at e.number) (sym part.table) ∙ has

    at_home : (message : CallMessage) → LendsAtHome p x message → LendsAtHome p y message
    at_home (Lent o slot) has = (has.0, has.1 ∙ sym part.node)
    at_home other has = tt

    lends : NodeContinues p (accessed x) x.local seen y → LendsAtHome p y (message_at y.local)
    lends (keeps desks message) = subst (LendsAtHome p y) (sym message) (at_home (message_at x.local) stands.lends)
    lends (lets_go desks still message may) = subst (LendsAtHome p y) (sym message) tt
    lends (takes w slot desks still message took) = subst (LendsAtHome p y) (sym message) tt
    lends (puts_aside e desks still returning message) = subst (LendsAtHome p y) (sym message) tt
    lends (drops e desks still of message) = subst (LendsAtHome p y) (sym message) tt
    lends (sends_loan o slot desks still before copies message) = subst (LendsAtHome p y) (sym message) tt
    lends (picks_slot o slot free desks still place before at lending) =
        let own = stands.slots.desks o.port slot (ap (has_number slot) at ∙ or-left (slot == slot) (has_number slot free) (eqb-refl slot)) in
        subst (λ l. LendsAtHome p y (message_at l)) (sym place) (own.0, own.1 ∙ sym part.node)

    -- what does not depend on where the call goes
    pub part_kept : KeptPart p (held_after p x seen held) t y
    part_kept = record {
      owns = firm_owners_stay p held s x seen stands.owns knows (free_pools p held s x stands) (limits p held s x stands knows) told.relies told.words
          (takes_lane p held s x.local y.local told.next);
      lends = lends (accesses_follow p (accessed x) seen);
      slots = accesses_keep_slots p held s x seen stands.slots stands.at_desks stands.uses finds told.relies
          (delivers_fresh p held word c seats w n shows living seen place.knows told.relies) told.next;
      at_desks = λ port some.
          let own = stands.at_desks port (same_there (find (λ d. d.port == port) x.desks) (find (λ d. d.port == port) y.desks) (desks port) some) in
          (own.0, own.1 ∙ sym part.node);
      uses = accesses_keep_uses p x seen stands.uses finds;
      loans = λ port own.
          ap (λ (f : Fixed). f.loans port) fixed ∙ stands.loans port (own.0, own.1 ∙ part.node)
          ∙ sym (same_loans (find (λ d. d.port == port) x.desks) (find (λ d. d.port == port) y.desks) (desks port));
      borrowed = own_parts_keep_borrowed p x y t.fixed part (subst (BorrowedFits p x) (sym fixed) stands.borrowed);
      counted = λ v way at.
          ap (λ (bs : List Borrowed). list_any (λ (b : Borrowed). same_way b.way v) bs) part.borrowed ∙ stands.counted v way (at ∙ part.node);
      numbers = subst (λ (es : List Entry). AreDistinct (map (λ (e : Entry). e.number) es)) (sym part.table) stands.numbers;
      released = λ e has.
          subst (λ k. ReleasesOwnHandle t.fixed k e) (sym part.node) (subst (λ f. ReleasesOwnHandle f x.node e) (sym fixed) (stands.released e (back e has)));
      states = λ e has pending.
          accesses_leave_states p held s x seen e pending (told.elsewhere e (back e has) pending) (stands.states e (back e has) pending);
      opened = accesses_leave_opened p held s x seen told.relies stands.opened;
      tells = told.lane;
    }

    -- what is taken is a slot of its sender's pool
    pub takes_there : TakesInPool p x.local seen
    takes_there = there.0

    module _ (returns : ReturnsNothing x.local (message_at y.local)) (going : ending_at y.local ≡ None) where
      names : NamesStand p s.fixed y × NamesSlots p y
      names = accesses_keep_names p held s x seen stands.names stands.name_slots stands.owns.owns told.relies returns there.0 going

      in_pool : (e : Entry) → IsInPool p e.sender e.slot ⊎ (message_at x.local ≡ Leaving e) → IsInPool p e.sender e.slot ⊎ (message_at y.local ≡ Leaving e)
      in_pool e (inl has) = inl has
      in_pool e (inr leaves) = inr (still_leaving p x.local seen (accessed x) y e leaves going (accesses_follow p (accessed x) seen))

      kept : NodeStands p (held_after p x seen held) t y
      kept = record {
        owns = part_kept.owns;
        names = subst (λ f. NamesStand p f y) (sym fixed) names.0;
        name_slots = names.1;
        in_pools = λ e has. in_pool e (stands.in_pools e (back e has));
        lends = part_kept.lends;
        slots = part_kept.slots;
        at_desks = part_kept.at_desks;
        uses = part_kept.uses;
        loans = part_kept.loans;
        borrowed = part_kept.borrowed;
        counted = part_kept.counted;
        numbers = part_kept.numbers;
        released = part_kept.released;
        states = part_kept.states;
        opened = part_kept.opened;
        tells = part_kept.tells;
      }

pub accesses_keep_nodes : AccessesKeepNodes
accesses_keep_nodes p held word word' c seats w n shows living fits owners numbered queues stands told returns made going =
    kept p held word word' c seats w n shows living fits owners numbered queues stands told made returns going
