-- A death leaves the words and all nodes, and so do they stand for the run with it.
use Rattle.std.specs.Prelude.{◌++◌, find, map, not}
use Rattle.std.specs.Option.{option_map_or}
use Rattle.std.proofs.Common.{◌≡◌, ℕ, ◌+◌, Bool, true, false, ◌==◌, List, [], ◌∷◌, Option, Some, None, refl, ap, sym, subst, ◌∙◌, eqb-true}
use Rattle.iox_model.specs.declared.reply.Refusal.TheVariants.{NodeIsDead, UnknownNode}
use Rattle.iox_model.specs.declared.way.Way.{Way}
use Rattle.iox_model.specs.Commands.{Refusal}
use Rattle.iox_model.specs.Joins.{not_living}
use Rattle.iox_model.specs.Maps.{refused_if}
use Rattle.iox_model.specs.Peers.{borrow_limit_on, buffer_on, is_counted_on, node_of_port}
use Rattle.iox_model.specs.Services.{dies}
use Rattle.iox_model.specs.States.{Fixed, Node}
use Rattle.iox_model.specs.Weaves.{Dies, IsBeat, World}
use Rattle.iox_laws.proofs.WeaveLaws.DeathLaws.{IsGone, stays_gone}
use Rattle.iox_laws.proofs.WeaveLedger.Truths.{none-some}
use Rattle.iox_wire_laws.specs.WireKeeping.Shows.{ShowsWorld}
use Rattle.iox_wire_laws.specs.WireRegions.OwnedBegins.{LayoutFits}
use Rattle.iox_wire_laws.specs.WireHolding.FarSlots.{QueuesHaveSlots}
use Rattle.iox_wire_laws.proofs.WireRegions.BeginsShow.{deaths_show_the_world}
use Rattle.iox_wire_laws.proofs.WireRegions.ReceiveBegins.{layouts_stay_fit}
use Rattle.iox_wire_locals.specs.Tables.{Setting}
use Rattle.iox_wire_stands.specs.Nodes.{NodeStands}
use Rattle.iox_wire_stands.specs.Others.{DeathsKeep}
use Rattle.iox_wire_stands.specs.Runs.{Run, history}
use Rattle.iox_wire_stands.specs.Stands.{Player, Stands, seats_of, word_of}
use Rattle.iox_wire_stands.proofs.OthersKept.{others_leave_nodes}
use Rattle.iox_wire_stands.proofs.Runs.{history_on, last_empty, run_on}

-- the node of that number lives after its death
abbrev Lives : ℕ → List Node → Type 0
Lives n ms = option_map_or (λ (m : Node). refused_if {A = Refusal} (not m.alive) NodeIsDead) (find (λ (m : Node). m.number == n) (map (dies n) ms)) (Some UnknownNode) ≡ None

-- who died does not live
gone_now : (n : ℕ) (ms : List Node) → Lives n ms → ⊥
gone_now n [] lives = none-some UnknownNode (sym lives)
gone_now n (m ∷ ms) lives = by_case (m.number == n) refl (gone_now n ms)
  where
    by_case : (b : Bool) → (m.number == n) ≡ b → (Lives n ms → ⊥) → ⊥
    by_case true is later = none-some NodeIsDead (sym (rw (is, is) at lives))
    by_case false is later = later (rw (is, is) at lives)

pub lived : (w u : World) (n k : ℕ) → IsBeat w (Dies n) u → not_living u.state k ≡ None → not_living w.state k ≡ None
lived w u n k beat lives = at (not_living w.state k) refl
  where
    at : (o : Option Refusal) → not_living w.state k ≡ o → o ≡ None
    at None is = refl
    at (Some r) is =
        absurd (subst IsGone lives (subst (λ (v : World). IsGone (not_living v.state k)) (sym beat.1)
        (stays_gone n k w.state.members.nodes (subst IsGone (sym is) tt))))

module _ (p : Setting) (words : List ℕ) (players : ℕ → Player) (r : Run) (n : ℕ) (u : World) (stands : Stands p words players r)
    (beat : IsBeat r.last (Dies n) u) where
  abbrev w : World
  w = r.last

  same : u.state.fixed ≡ w.state.fixed
  same = ap (λ (v : World). v.state.fixed) beat.1

  other : (k : ℕ) → not_living u.state k ≡ None → (k == n) ≡ false
  other k lives = by_case (k == n) refl
    where
      by_case : (b : Bool) → (k == n) ≡ b → b ≡ false
      by_case false is = refl
      by_case true is =
          absurd (gone_now n w.state.members.nodes
          (subst (λ (v : World). not_living v.state n ≡ None) beat.1 (subst (λ i. not_living u.state i ≡ None) (eqb-true k n is) lives)))

  node : (k : ℕ) → not_living u.state k ≡ None → NodeStands p stands.held u.state (seats_of p players k)
  node k lives =
      let at : (seats_of p players k).node ≡ k = stands.shows.node k in
      let before : not_living w.state k ≡ None = lived w u n k beat lives in
      others_leave_nodes p stands.held w u (Dies n) (seats_of p players k) stands.shows.reachable beat
      (subst (λ i. (i == n) ≡ false) (sym at) (other k lives)) (subst (λ i. not_living u.state i ≡ None) (sym at) lives) stands.layout stands.owners
      (stands.shows.counts k before) (stands.shows.doing k before) (stands.nodes k before)

  queues : QueuesHaveSlots p stands.contents u.state
  queues =
      let q = stands.queues in record {
        waiting = λ y slot way on. q.waiting y slot way (counted y on);
        in_hand = λ y slot way on. q.in_hand y slot way (counted y on);
        returned = λ y slot way on. q.returned y slot way (counted y on);
      }
    where
      counted : (y : Way) → is_counted_on u.state.fixed y ≡ true → is_counted_on w.state.fixed y ≡ true
      counted y on = ap (λ (f : Fixed). is_counted_on f y) (sym same) ∙ on

  abbrev keeps : (next : Run) → next.last ≡ u → next.beats ≡ r.beats ++ Dies n ∷ [] → Stands p words players next
  keeps next last beats = record {
    held = stands.held;
    contents = stands.contents;
    shows = subst (ShowsWorld p stands.held (word_of words) stands.contents (seats_of p players)) (sym last)
        (deaths_show_the_world p stands.held (word_of words) stands.contents (seats_of p players) w u n stands.shows beat);
    length_is = stands.length_is;
    layout = subst (λ (v : World). LayoutFits p v.state.fixed) (sym last) (layouts_stay_fit p w u (Dies n) stands.shows.reachable beat stands.layout);
    owners = λ port. stands.owners port ∙ ap (λ (f : Fixed). node_of_port f port) fixed_is;
    numbers = stands.numbers;
    regions = stands.regions;
    rooms = λ y way. stands.rooms y way ∙ ap (λ (f : Fixed). buffer_on f y + borrow_limit_on f y + 1) fixed_is;
    queues = subst (λ (v : World). QueuesHaveSlots p stands.contents v.state) (sym last) queues;
    nodes = subst (λ (v : World). (k : ℕ) → not_living v.state k ≡ None → NodeStands p stands.held v.state (seats_of p players k)) (sym last) node;
    histories = λ k. ap (history k) beats ∙ history_on k r.beats (Dies n) ∙ last_empty (history k r.beats) ∙ stands.histories k;
  }
    where
      fixed_is : w.state.fixed ≡ next.last.state.fixed
      fixed_is = sym same ∙ ap (λ (v : World). v.state.fixed) (sym last)

pub deaths_keep : DeathsKeep
deaths_keep p words players r n u stands beat =
    let on = run_on r (Dies n) u beat in
    (on.0, on.1, on.2, keeps p words players r n u stands beat on.0 on.2 on.1.beats, refl, refl)
