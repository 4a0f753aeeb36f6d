-- A wire that is made from a plan is fresh.
use Rattle.std.specs.Prelude.{IfSome, filter, is_some, replicate}
use Rattle.std.proofs.Common.{◌≡◌, ℕ, ◌+◌, ◌<◌, ◌≤◌, ◌==◌, ◌^◌, List, [], ◌∷◌, length, map, Option, Some, ◌∙◌, ap, arith, inl, inr, refl, subst, sym, true≢false}
use Rattle.std.proofs.lemmas.List.{length-map}
use Rattle.iox_model.specs.Maps.{AreDistinct}
use Rattle.iox_model.specs.Schedules.{UnderWay}
use Rattle.iox_laws.proofs.WeaveLedger.Lists.{IsAmong}
use Rattle.iox_wire_weaves.specs.Begins.{is_busy}
use Rattle.iox_wire_weaves.specs.Copying.{CopyGoesOn}
use Rattle.iox_wire_weaves.specs.ReadWords.{TellsNoWords}
use Rattle.iox_wire_weaves.specs.Counts.{IsTidy}
use Rattle.iox_wire_weaves.specs.PlanPort.{PlanPort}
use Rattle.iox_wire_weaves.specs.Seat.{Seat}
use Rattle.iox_wire_weaves.specs.Steps.{IsWireCallAt, most_accesses}
use Rattle.iox_wire_weaves.specs.Uses.{HaveFewWays}
use Rattle.iox_model.specs.States.{State}
use Rattle.iox_word_map.specs.WordMaps.{total_words}
use Rattle.iox_wire_weaves.specs.WirePlan.{WirePlan}
use Rattle.iox_wire_weaves.specs.Plans.{IsPlan, port_numbers, sizes_of}
use Rattle.iox_wire_weaves.specs.Openings.{OverflowsWithRoom}
use Rattle.iox_wire_weaves.specs.PlansOf.{IsSettingOf}
use Rattle.iox_wire_weaves.specs.Tables.{Setting}
use Rattle.iox_wire_weaves.specs.Laws.{IsNewWire}
use Rattle.iox_wire_weaves.specs.WirePlans.{IsWirePlan}
use Rattle.iox_wire_weaves.specs.Terms.{IsSettingWith}
use Rattle.iox_wire_weaves.specs.WireTerms.{WireTerms}
use Rattle.iox_wire_weaves.specs.Wires.{AreWhole, WireOpensOn, ShowsOpened, WireData, WireNode, node_at}
use Rattle.iox_wire_weaves.proofs.Opened.{wires_open}
use Rattle.iox_wire.specs.Kept.{AreOpened, IsKept, IsOpenedNode, IsRoomy, IsShown}
use Rattle.iox_wire_openings.specs.OpenedNodes.{planned_desk, planned_ways}
use Rattle.iox_wire_openings.proofs.FewWays.{ways_are_few}
use Rattle.iox_wire_openings.proofs.OpenedLemmas.{counts_differ, desks_differ}
use Rattle.iox_wire.proofs.Members.{opened_has, opened_node}
use Rattle.iox_wire.proofs.Roomy.{roomy_first}
use Rattle.iox_wire.proofs.OpenedSeats.{filtered_among, opened_as_planned}

-- ---- what a node keeps to at first

few_ways : (plan : WirePlan) → ((q : PlanPort) → IsAmong q plan.ports.items → length (planned_ways plan q) < 2 ^ 63) → (qs : List PlanPort)
    → ((q : PlanPort) → IsAmong q qs → IsAmong q plan.ports.items) → HaveFewWays (map (planned_desk plan) qs)
few_ways plan few [] all = tt
few_ways plan few (q ∷ qs) all = (
  less (length (planned_desk plan q).recorded) (length (planned_ways plan q)) (length-map (planned_ways plan q) (λ y. record { way = y; slots = [] })) (few q (all q (inl refl))),
  few_ways plan few qs (λ k among. all k (inr among)),
)
  where
    less : (a b : ℕ) → a ≡ b → b < 2 ^ 63 → a + 3 < 2 ^ 64
    less a b is low = omega (arith, is, low)

kept_first : (plan : WirePlan) → AreDistinct (port_numbers plan) → total_words (sizes_of plan) < 2 ^ 63 → (n : ℕ) (x : WireNode) → IsOpenedNode plan n x
    → IsKept x.node
kept_first plan apart low n x opened = record {
  few = subst (λ (s : Seat). s.accesses ≤ most_accesses) (sym opened.seat) (omega arith);
  tidy = subst IsTidy (sym opened.seat) (record { desks = desks_differ plan apart n; counts = counts_differ plan apart n });
  ways = subst (λ (s : Seat). HaveFewWays s.desks) (sym opened.seat)
      (few_ways plan (λ q among. under _ _ (ways_are_few plan apart q among) low) (filter (λ (q : PlanPort). q.node == n) plan.ports.items)
      (λ q among. filtered_among (λ (q : PlanPort). q.node == n) q plan.ports.items among));
  copies = subst (λ (s : Seat). CopyGoesOn s.local) (sym opened.seat) (λ e is. refl);
  reads = subst (λ (s : Seat). TellsNoWords s.local) (sym opened.seat) tt;
  ready = λ busy. absurd (true≢false (sym busy ∙ ap (λ (s : Seat). is_busy s.local) opened.seat));
}
  where
    under : (a b : ℕ) → a ≤ b → b < 2 ^ 63 → a < 2 ^ 63
    under a b less few = omega (arith, less, few)

-- ---- the wire

module _ (plan : WirePlan) (terms : WireTerms) (ns : List ℕ) (wire : WireData) (is : IsPlan plan) (plan_is : wire.plan ≡ plan) (terms_are : wire.terms ≡ terms)
    (words : wire.words ≡ replicate (total_words (sizes_of plan)) 0) (nodes : AreOpened plan ns wire.nodes) (replies : wire.replies ≡ []) (events : wire.events ≡ []) where
  module _ (p : Setting) (s : State) (opens : WireOpensOn plan terms ns p s) where
    setting : IsSettingOf plan p
    setting = opens.told.setting

    one : (n : ℕ) (x : WireNode) → node_at n wire.nodes ≡ Some x → IsOpenedNode plan n x
    one n x at = opened_node plan ns wire.nodes n x nodes at

    pub fresh : IsNewWire p plan terms ns wire
    fresh = record {
      plan_is = plan_is;
      terms_are = terms_are;
      words = words;
      nodes_are = λ n. opened_has plan ns wire.nodes n nodes;
      seats = λ n x at. ((one n x at).seat ∙ opened_as_planned plan p is setting n, (one n x at).lives, (one n x at).seated, (one n x at).rests, (one n x at).longest, (one n x at).undead, (one n x at).unread);
      replies = replies;
      events = events;
    }

    pub shows_opened : OverflowsWithRoom plan → ShowsOpened p s wire
    shows_opened roomy = wires_open plan terms ns p s wire is roomy opens fresh

  -- calls may begin with the plan and the terms of a wire that is in memory
  wire_plan : (p : Setting) → IsSettingWith plan terms p → AreWhole plan terms → total_words (sizes_of plan) < 2 ^ 63 → IsWirePlan plan terms
  wire_plan p told whole low = record {
    terms = whole.fit;
    headers = λ role. (told.setting.is_for.shapes role).header;
    slots = whole.slots;
    memory = omega (arith, low);
  }

  pub shown_opened : AreWhole plan terms → total_words (sizes_of plan) < 2 ^ 63 → terms.first_number < 2 ^ 63 → (p : Setting) × (s : State) × WireOpensOn plan terms ns p s → IsShown wire
  shown_opened whole low first o =
      let shows : ShowsOpened o.0 o.1 wire = shows_opened o.0 o.1 o.2 whole.room in
      record {
        shows = (o.0, shows.0, shows.4);
        whole = subst (λ q. IsWirePlan q wire.terms) (sym plan_is) (subst (IsWirePlan plan) (sym terms_are) (wire_plan o.0 o.2.told whole low));
        numbers = subst (λ (t : WireTerms). t.first_number + most_accesses < 2 ^ 64) (sym terms_are) (omega (arith, first));
        kept = λ n x at. kept_first plan is.numbers low n x (opened_node plan ns wire.nodes n x nodes at);
        own = λ n x at. (
            let opened : IsOpenedNode plan n x = opened_node plan ns wire.nodes n x nodes at in
            record {
              busy = ap (λ (s : Seat). is_busy s.local) opened.seat ∙ ap is_some (sym opened.rests);
              there = subst (λ (o : Option UnderWay). IfSome o (λ u. IsWireCallAt u.call x.node.at)) (sym opened.rests) tt;
            }
            );
        rooms = λ n x at. subst (λ q. IsRoomy q x.number x.node) (sym plan_is) (roomy_first plan n x (opened_node plan ns wire.nodes n x nodes at));
      }
