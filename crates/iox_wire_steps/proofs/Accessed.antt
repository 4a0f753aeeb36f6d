-- A step without access: one more is counted, and all else is so as it was.
use Rattle.std.proofs.Common.{◌≡◌, ℕ, Bool, true, false, if◌then◌else◌, ◌==◌, Some, None, refl, sym, subst, ◌∙◌, eq-eqb, eqb-true, true≢false}
use Rattle.iox_model.specs.Joins.{not_living}
use Rattle.iox_model.specs.Maps.{put_at}
use Rattle.iox_model.specs.States.{State}
use Rattle.iox_model.specs.Weaves.{World}
use Rattle.iox_laws.proofs.WeaveLedger.Truths.{none-some}
use Rattle.iox_steps.specs.Accesses.{ChangesWord}
use Rattle.iox_wire_words.specs.Fits.{WireContents}
use Rattle.iox_wire_words.specs.Laws.{AccessIsMade}
use Rattle.iox_wire_words.specs.Programs.{program_access}
use Rattle.iox_wire_moments.specs.MomentsOf.{Pools}
use Rattle.iox_wire_locals.specs.declared.local.Ending.{Ending}
use Rattle.iox_wire_locals.specs.declared.local.Ending.TheVariants as endings
use Rattle.iox_wire_locals.specs.declared.local.Local.{Local}
use Rattle.iox_wire_locals.specs.declared.local.Local.TheVariants.{Ends, SendEnds}
use Rattle.iox_wire_locals.specs.declared.seat.Seat.{Seat}
use Rattle.iox_wire_locals.specs.BeginLaws.{Counts}
use Rattle.iox_wire_locals.specs.Locals.{program_of}
use Rattle.iox_wire_locals.specs.StateMoments.{moment_at}
use Rattle.iox_wire_locals.specs.Steps.{accessed, advance, ending_at}
use Rattle.iox_wire_locals.specs.Tables.{Setting}
use Rattle.iox_wire_laws.specs.WireKeeping.OwnParts.{KeepsOwn}
use Rattle.iox_wire_laws.specs.WireKeeping.Readiness.{ShowsDoing}
use Rattle.iox_wire_laws.specs.WireKeeping.Records.{RecordsFit}
use Rattle.iox_wire_laws.specs.WireKeeping.PoolSlots.{PoolFits}
use Rattle.iox_wire_laws.specs.WireKeeping.Shows.{EndKnows, ShowsWorld, programs_of}
use Rattle.iox_wire_laws.specs.WireKeeping.UsedSlots.{PortFits}
use Rattle.iox_wire_laws.proofs.WireKeeping.CountsKept.{by_part}
use Rattle.iox_wire_laws.proofs.WireShows.NextPrograms.{words_same}
use Rattle.iox_wire_laws.proofs.WireShows.StepsShow.{seat_put}
use Rattle.iox_wire_laws.specs.WireHolding.Holding.{held_from}
use Rattle.iox_wire_laws.specs.WireHolding.SlotsKnown.{SlotsKnown}
use Rattle.iox_wire_pools.specs.Uses.{UsesAreCounted}
use Rattle.iox_wire_stands.specs.Nodes.{NodeStands}
use Rattle.iox_wire_stands.proofs.StepsAround.{Around, Whole}
use Rattle.iox_wire_steps.specs.Over.{EndIsTold, EndsWith, CallIsOver}

-- ---- a place without access

-- what is so of a place at which a call has no access left
pub record HasNone (p : Setting) (held : Pools) (x : Seat) (local : Local) (seen : ℕ) : Type 0 where
  pub seat : advance p (accessed x) local seen ≡ accessed x
  pub moment : moment_at p held local seen ≡ None
  pub pools : held_from p held local local ≡ held

pub no_access : (p : Setting) (held : Pools) (x : Seat) (local : Local) (seen : ℕ) (ending : Ending) → ending_at local ≡ Some ending → HasNone p held x local seen
no_access p held x (Ends e) seen ending is = record { seat = refl; moment = refl; pools = refl }
no_access p held x (SendEnds d last count) seen ending is = record { seat = refl; moment = refl; pools = refl }
no_access p held x local seen ending is = none-some ending is

-- no word changes
none_made : (word word' : ℕ → ℕ) → ChangesWord word 0 (word 0) word' → word ≡ word'
none_made word word' made = λ i k. sym (by_case k (k == 0) refl) i
  where
    by_case : (k : ℕ) (b : Bool) → (k == 0) ≡ b → word' k ≡ word k
    by_case k true is = subst (λ i. word' i ≡ word i) (sym (eqb-true k 0 is)) made.0
    by_case k false is = made.1 k (λ same. true≢false (sym (eq-eqb k 0 same) ∙ is))

pub same_words : (p : Setting) (local : Local) (word word' : ℕ → ℕ) (ending : Ending) → ending_at local ≡ Some ending
    → AccessIsMade (program_access p.layout (program_of p local)) word word' → word ≡ word'
same_words p (Ends e) word word' ending is made = none_made word word' made
same_words p (SendEnds d last count) word word' ending is made = none_made word word' made
same_words p local word word' ending is made = none-some ending is

-- ---- the node

module _ (p : Setting) (held : Pools) (s : State) (x : Seat) where
  part : KeepsOwn x (accessed x)
  part = record { node = refl; handles_made = refl; table = refl; borrowed = refl; forgot = refl }

  pool_too : (port pool : ℕ) → PoolFits held x port pool → PoolFits held (accessed x) port pool
  pool_too port pool fit = record { within = fit.within; apart = fit.apart; free_once = fit.free_once; free = fit.free }

  records_too : RecordsFit held s x → RecordsFit held s (accessed x)
  records_too fit = record { told = fit.told; once = fit.once }

  port_too : (port : ℕ) → PortFits held s x port → PortFits held s (accessed x) port
  port_too port fit = record {
    mine = fit.mine;
    entries = fit.entries;
    call = fit.call;
    ways = fit.ways;
    apart = fit.apart;
    from = fit.from;
    records = records_too fit.records;
    counted = fit.counted;
  }

  slots_too : SlotsKnown p held s x → SlotsKnown p held s (accessed x)
  slots_too known = record {
    desks = known.desks;
    pools = λ port own. pool_too port (p.port port).pool (known.pools port own);
    ports = λ port own. port_too port (known.ports port own);
    apart = known.apart;
  }

  uses_too : (port pool : ℕ) → UsesAreCounted x port pool → UsesAreCounted (accessed x) port pool
  uses_too port pool uses = record { desk = uses.desk; there = uses.there; ways = uses.ways; counts = uses.counts }

  pub over_too : (ending : Ending) → CallIsOver p held s x ending → CallIsOver p held s (accessed x) ending
  over_too ending over = record {
    at_end = over.at_end;
    last = last_too x.local over.last;
    message = message_too ending over.message;
    takes = over.takes;
    entries = over.entries;
    in_pools = over.in_pools;
    slots = slots_too over.slots;
    at_desks = over.at_desks;
    uses = λ port own. uses_too port (p.port port).pool (over.uses port own);
    loans = over.loans;
    borrowed = over.borrowed;
    counted = over.counted;
    numbers = over.numbers;
    released = over.released;
    states = over.states;
  }
    where
      last_too : (local : Local) → EndKnows p x s local → EndKnows p (accessed x) s local
      last_too (SendEnds d (Some v) count) knows = knows
      last_too (SendEnds d None count) knows = tt
      last_too local knows = tt

      message_too : (e : Ending) → EndsWith p s.fixed x e → EndsWith p s.fixed (accessed x) e
      message_too (endings.Fills e words) has = has
      message_too (endings.Sends e false count) has = has
      message_too (endings.Sends e true count) has = tt
      message_too (endings.FailsToSend e false r) has = has
      message_too (endings.FailsToSend e true r) has = tt
      message_too (endings.Receives v w slot header) has = has
      message_too (endings.Drops e) has = has
      message_too e has = tt

  told_too : (ending : Ending) → EndIsTold p held s x ending → EndIsTold p held s (accessed x) ending
  told_too (endings.Lends o slot) told = told
  told_too (endings.Fills e words) told = told
  told_too (endings.Sends e copied count) told = told
  told_too (endings.Receives v w slot header) told = told
  told_too ending told = tt

-- ---- the wire

module _ (p : Setting) (held : Pools) (word : ℕ → ℕ) (c : WireContents) (seats : ℕ → Seat) (w : World) (n : ℕ) (whole : Whole p held word c seats w) where
  abbrev seats' : ℕ → Seat
  seats' = put_at seats n (accessed (seats n))

  shows_too : ShowsWorld p held word c (put_at seats n (accessed (seats n))) w
  shows_too = record {
    reachable = whole.shows.reachable;
    sized = whole.shows.sized;
    suits = whole.shows.suits;
    words =
        words_same p.layout word (programs_of p seats) (programs_of p (put_at seats n (accessed (seats n)))) c
        (seat_put (λ k z. program_of p (seats k).local ≡ program_of p z.local) seats n (accessed (seats n)) refl (λ k other. refl)) whole.shows.words;
    ties = whole.shows.ties;
    states = whole.shows.states;
    ids = whole.shows.ids;
    node = seat_put (λ k z. z.node ≡ k) seats n (accessed (seats n)) (whole.shows.node n) (λ k other. whole.shows.node k);
    counts = seat_put (λ k z. not_living w.state k ≡ None → Counts p z w.state held) seats n (accessed (seats n))
        (λ lives. by_part p (seats n) (accessed (seats n)) w.state held (part p held w.state (seats n)) (whole.shows.counts n lives))
        (λ k other. whole.shows.counts k);
    doing = seat_put (λ k z. not_living w.state k ≡ None → ShowsDoing p held w z) seats n (accessed (seats n)) (whole.shows.doing n)
        (λ k other. whole.shows.doing k);
  }

  pub around_too : Around p held word c (put_at seats n (accessed (seats n))) w n
  around_too = record {
    shows = shows_too;
    layout = whole.layout;
    owners = whole.owners;
    rooms = whole.rooms;
    queues = whole.queues;
    nodes = λ k other lives. by_node k (k == n) other (whole.nodes k lives);
  }
    where
      by_node : (k : ℕ) (b : Bool) → b ≡ false → NodeStands p held w.state (seats k)
          → NodeStands p held w.state (if b then accessed (seats n) else seats k)
      by_node k true is stands = absurd (true≢false is)
      by_node k false is stands = stands
