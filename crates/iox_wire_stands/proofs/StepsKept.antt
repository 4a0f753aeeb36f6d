-- An access in the midst of a call: the words, all nodes and the machine stand again.
use Rattle.std.specs.Prelude.{length}
use Rattle.std.proofs.Common.{◌≡◌, ℕ, Bool, true, false, if◌then◌else◌, ◌==◌, List, Option, Some, None, refl, ap, sym, subst, ◌∙◌, eqb-true}
use Rattle.iox_model.specs.Joins.{not_living}
use Rattle.iox_model.specs.Maps.{put_at}
use Rattle.iox_model.specs.Moments.{Moment}
use Rattle.iox_model.specs.Weaves.{Makes}
use Rattle.iox_steps.specs.Accesses.{seen_by}
use Rattle.iox_wire_words.specs.Fits.{WireContents, contents_after}
use Rattle.iox_wire_words.specs.Laws.{AccessIsMade}
use Rattle.iox_wire_words.specs.Programs.{program_access}
use Rattle.iox_wire_moments.specs.MomentsOf.{Pools}
use Rattle.iox_wire_locals.specs.declared.local.Local.{Local}
use Rattle.iox_wire_locals.specs.declared.local.Local.TheVariants.{ReleaseExchanges, ReleaseLooks, ReleaseReturns}
use Rattle.iox_wire_locals.specs.declared.seat.Seat.{Seat}
use Rattle.iox_wire_locals.specs.declared.table.Entry.{Entry}
use Rattle.iox_wire_locals.specs.Locals.{program_of}
use Rattle.iox_wire_locals.specs.StateMoments.{moment_at}
use Rattle.iox_wire_locals.specs.Steps.{accessed, advance, ending_at}
use Rattle.iox_wire_locals.specs.Tables.{Setting}
use Rattle.iox_wire_laws.specs.WireKeeping.Shows.{ShowsWorld}
use Rattle.iox_wire_laws.specs.WireHolding.Aside.{shown, shown_at}
use Rattle.iox_wire_laws.specs.WireHolding.Holding.{held_after}
use Rattle.iox_wire_stands.specs.Following.{NodeContinues, IsReturning, Leaving, LeavesNothing, drops, keeps, lets_go, message_at, picks_slot, puts_aside, sends_loan, takes}
use Rattle.iox_wire_stands.specs.NamesLaws.{ReturnsNothing}
use Rattle.iox_wire_stands.specs.NodeLaws.{ToldWhatIsSo}
use Rattle.iox_wire_stands.specs.Nodes.{NodeStands}
use Rattle.iox_wire_stands.specs.Runs.{Run, history}
use Rattle.iox_wire_stands.specs.Stands.{Player, Stands, seats_of, word_of}
use Rattle.iox_wire_stands.specs.StepLaws.{RunGoesOn, StepsKeep}
use Rattle.iox_wire_stands.proofs.Follows.{accesses_follow}
use Rattle.iox_wire_stands.proofs.StepsAround.{Whole, WholeNext, goes_on}
use Rattle.iox_wire_stands.proofs.Runs.{history_on, last_empty, run_on}

-- ---- nodes as they are shown

-- a node that leaves nothing is shown as it is
pub shown_same : (p : Setting) (x : Seat) (local : Local) → LeavesNothing (message_at local) → shown_at p x local ≡ x
shown_same p x (ReleaseLooks e) leaves = absurd leaves
shown_same p x (ReleaseExchanges e old) leaves = absurd leaves
shown_same p x local leaves = refl

returns_not : (local : Local) (e : Entry) → IsReturning local e → ReturnsNothing local (Leaving e) → ⊥
returns_not (ReleaseReturns k place) e is none = none
returns_not local e is none = is

pub leaves_nothing : (p : Setting) (x : Seat) (local : Local) (found : ℕ) (y : Seat) → LeavesNothing (message_at local)
    → ReturnsNothing local (message_at y.local) → NodeContinues p x local found y → LeavesNothing (message_at y.local)
leaves_nothing p x local found y leaves returns (keeps desks message) = subst LeavesNothing (sym message) leaves
leaves_nothing p x local found y leaves returns (lets_go desks still message may) = subst LeavesNothing (sym message) tt
leaves_nothing p x local found y leaves returns (takes w slot desks still message took) = subst LeavesNothing (sym message) tt
leaves_nothing p x local found y leaves returns (puts_aside e desks still returning message) =
    absurd (returns_not local e returning (subst (ReturnsNothing local) message returns))
leaves_nothing p x local found y leaves returns (drops e desks still of message) = subst LeavesNothing (sym message) tt
leaves_nothing p x local found y leaves returns (picks_slot o slot free desks still place before there lends) =
    subst (λ l. LeavesNothing (message_at l)) (sym place) tt
leaves_nothing p x local found y leaves returns (sends_loan o slot desks still before copies message) = subst LeavesNothing (sym message) tt

-- ---- the law

module _ (p : Setting) (words words' : List ℕ) (players : ℕ → Player) (r : Run) (n : ℕ) (stands : Stands p words players r)
    (living : not_living r.last.state n ≡ None) (leaves : LeavesNothing (message_at (players n).seat.local))
    (len : length words' ≡ length words) where
  abbrev seats : ℕ → Seat
  seats = seats_of p players

  abbrev seen_at : Seat → ℕ
  seen_at q = seen_by (program_access p.layout (program_of p q.local)) (word_of words)

  abbrev next_at : Seat → Seat
  next_at q = advance p (accessed q) q.local (seen_at q)

  abbrev Asked : Seat → Type 0
  Asked q =
      ToldWhatIsSo p stands.held r.last.state q (seen_at q) × ReturnsNothing q.local (message_at (next_at q).local)
      × (ending_at (next_at q).local ≡ None) × AccessIsMade (program_access p.layout (program_of p q.local)) (word_of words) (word_of words')

  abbrev Result : Seat → Type 0
  Result q =
      (held : Pools) × (c : WireContents)
      × WholeNext p held (word_of words') c (put_at seats n (next_at q)) r.last n (moment_at p stands.held q.local (seen_at q))

  here : seats n ≡ (players n).seat
  here = shown_same p (players n).seat (players n).seat.local leaves

  whole : Whole p stands.held (word_of words) stands.contents seats r.last
  whole = record {
    shows = stands.shows;
    layout = stands.layout;
    owners = stands.owners;
    rooms = stands.rooms;
    queues = stands.queues;
    nodes = stands.nodes;
  }

  result : Asked (players n).seat → Result (players n).seat
  result asked =
      let a : Asked (seats n) = subst Asked (sym here) asked in
      subst Result here (
        held_after p (seats n) (seen_at (seats n)) stands.held,
        contents_after p.layout (program_of p (seats n).local) (seen_at (seats n)) stands.contents,
        goes_on p stands.held (word_of words) (word_of words') stands.contents seats r.last n stands.numbers whole living a.0 a.3 a.1 a.2,
      )

  abbrev z : Seat
  z = next_at (players n).seat

  abbrev player : Player
  player = record { seat = z; said = (players n).said }

  abbrev after_players : ℕ → Player
  after_players = put_at players n player

  module _ (next_leaves : LeavesNothing (message_at z.local)) where
    by_seat : (k : ℕ) (b : Bool) → shown p (if b then player else players k).seat ≡ (if b then z else shown p (players k).seat)
    by_seat k true = shown_same p z z.local next_leaves
    by_seat k false = refl

    same_seats : seats_of p after_players ≡ put_at seats n z
    same_seats = λ i k. by_seat k (k == n) i

    said : (k : ℕ) → (players k).said ≡ (after_players k).said
    said k = by_node (k == n) refl
      where
        by_node : (b : Bool) → (k == n) ≡ b → (players k).said ≡ (if b then player else players k).said
        by_node true is = ap (λ i. (players i).said) (eqb-true k n is)
        by_node false is = refl

    to_stands : (held : Pools) (c : WireContents) (next : Run) → Whole p held (word_of words') c (put_at seats n z) next.last
        → ((k : ℕ) → history k next.beats ≡ (players k).said) → Stands p words' after_players next
    to_stands held c next w histories = record {
      held = held;
      contents = c;
      shows = subst (λ ss. ShowsWorld p held (word_of words') c ss next.last) (sym same_seats) w.shows;
      length_is = len ∙ stands.length_is;
      layout = w.layout;
      owners = w.owners;
      numbers = stands.numbers;
      regions = stands.regions;
      rooms = w.rooms;
      queues = w.queues;
      nodes = λ k lives. subst (λ (ss : ℕ → Seat). NodeStands p held next.last.state (ss k)) (sym same_seats) (w.nodes k lives);
      histories = λ k. histories k ∙ said k;
    }

    finish : (m : Option Moment) (held : Pools) (c : WireContents) → WholeNext p held (word_of words') c (put_at seats n z) r.last n m
        → (next : Run) × RunGoesOn r n m next × Stands p words' after_players next
    finish None held c w = (r, refl, to_stands held c r w stands.histories)
    finish (Some m) held c next =
        let on = run_on r (Makes n m) next.0 next.1 in (
          on.0,
          on.1,
          to_stands held c on.0 (subst (Whole p held (word_of words') c (put_at seats n z)) (sym on.2) next.2)
              (λ k. ap (history k) on.1.beats ∙ history_on k r.beats (Makes n m) ∙ last_empty (history k r.beats) ∙ stands.histories k),
        )

pub steps_keep : StepsKeep
steps_keep p words words' players r n stands living told leaves returns going made len =
    let x : Seat = (players n).seat in
    let seen : ℕ = seen_by (program_access p.layout (program_of p x.local)) (word_of words) in
    let done = result p words words' players r n stands living leaves len (told, returns, going, made) in
    finish p words words' players r n stands living leaves len
    (leaves_nothing p (accessed x) x.local seen (advance p (accessed x) x.local seen) leaves returns (accesses_follow p (accessed x) seen))
    (moment_at p stands.held x.local seen) done.0 done.1 done.2
