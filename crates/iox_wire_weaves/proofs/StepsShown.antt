-- After a step of a node the wire shows the run that continues so.
use Rattle.std.specs.Prelude.{option_map}
use Rattle.std.specs.Option.{option_map_or}
use Rattle.std.proofs.Common.{◌≡◌, ℕ, ◌+◌, ◌<◌, ◌^◌, Bool, true, false, ◌==◌, List, [], ◌∷◌, ◌++◌, length, map, Option, Some, None, refl, ap, ap₂, sym, subst, ◌∙◌, arith, eqb-true, if◌then◌else◌, inl, inr}
use Rattle.std.proofs.lemmas.Bool.{cases_Bool}
use Rattle.iox_model.specs.Commands.{Reply}
use Rattle.iox_model.specs.Joins.{not_living}
use Rattle.iox_model.specs.Maps.{has_number, put_at}
use Rattle.iox_model.specs.Moments.{Moment}
use Rattle.iox_model.specs.Schedules.{Finished, events_of, replies_of}
use Rattle.iox_model.specs.Weaves.{Beat}
use Rattle.iox_model.specs.declared.way.Way.{Way}
use Rattle.iox_laws.proofs.WeaveLaws.WholeLemmas.{not_living-members}
use Rattle.iox_steps.specs.Accesses.{IsWithin, seen_by, words_after}
use Rattle.iox_steps.specs.Sites.{last_position}
use Rattle.iox_steps.proofs.AccessLemmas.{length-words_after, list_changes}
use Rattle.iox_wire_nodes.specs.Programs.{Program, program_access}
use Rattle.iox_wire_nodes.specs.Fits.{MayRun}
use Rattle.iox_wire_nodes.specs.Laws.{AccessIsMade}
use Rattle.iox_wire_nodes.proofs.Steps.{each_access_keeps_the_list}
use Rattle.iox_wire_nodes.specs.Shows.{programs_of}
use Rattle.iox_wire_nodes.proofs.OwnedPlaces.{owners_may_access}
use Rattle.iox_wire_nodes.proofs.Aside.{shown_nodes_run_the_same}
use Rattle.iox_wire_nodes.specs.Seat.{Seat}
use Rattle.iox_wire_nodes.specs.LocalsBegins.{is_busy}
use Rattle.iox_wire_nodes.specs.Locals.{program_of}
use Rattle.iox_wire_nodes.specs.StateMoments.{moment_at}
use Rattle.iox_wire_nodes.specs.Steps.{next, tells}
use Rattle.iox_wire_nodes.specs.Tables.{Setting}
use Rattle.iox_wire_nodes.specs.Aims.{IsAimed}
use Rattle.iox_wire_nodes.specs.WirePlan.{WirePlan}
use Rattle.iox_wire_nodes.specs.declared.call_at.NodeReply.{NodeReply}
use Rattle.iox_wire_nodes.specs.Nodes.{reply_in, seat_in}
use Rattle.iox_wire_needs.specs.Nodes.{NodeStands}
use Rattle.iox_wire_needs.specs.Openings.{opened_seat}
use Rattle.iox_wire_needs.specs.Runs.{Run, Said}
use Rattle.iox_wire_needs.specs.Stands.{Player, seats_of, word_of}
use Rattle.iox_wire_needs.specs.WholeSteps.{player_next, step_beats}
use Rattle.iox_wire_needs.specs.WireStands.{WireStands}
use Rattle.iox_wire_needs.specs.Places.{InPools}
use Rattle.iox_wire_needs.proofs.Places.{places_are_in_pools}
use Rattle.iox_wire_needs.specs.WireSteps.{StandsAfterStep}
use Rattle.iox_wire_needs.proofs.WireSteps.{is_step, step_keeps}
use Rattle.iox_wire_needs.specs.NamedSlots.{HoldsLent, Names}
use Rattle.iox_wire_needs.proofs.NamedSlots.{named_slots_hold_lent}
use Rattle.iox_wire_weaves.specs.Laws.{LivesAs, Replaces, StepsAreSafe, StepsShow, WentOn, progress_of}
use Rattle.iox_model.specs.declared.event.Event.{Event}
use Rattle.iox_wire_seats.specs.SlotEvents.{slot_event}
use Rattle.iox_wire_weaves.specs.PortCounts.{TellsCounts}
use Rattle.iox_wire_weaves.specs.Replies.{finished_within, most_words}
use Rattle.iox_wire_weaves.specs.Steps.{GoesOnByStep, MakesOneAccess, access_of, answer_of, call_after, finished_by, most_handles, recorded, step_refusal}
use Rattle.iox_wire_weaves.specs.Wires.{KeepsItsCall, Shows, WireData, WireNode, answers_in, living_refusal, node_at, players_of, refusal_in, seat_of}
use Rattle.iox_wire_weaves.proofs.EventsTold.{events_on, step_events, told_serial}
use Rattle.iox_wire_weaves.proofs.LivingDesks as desks
use Rattle.iox_wire_weaves.proofs.Lookups.{fun_ext, same_living, same_setting, seat_there, steps_on}
use Rattle.iox_wire_weaves.proofs.RepliesTold.{step_keeps_others, step_keeps_own, step_replies}
use Rattle.iox_wire_weaves.proofs.PortsElsewhere.{step_leaves, tells_same}

-- ---- the access

module _ (p : Setting) (wire : WireData) (r : Run) (n : ℕ) (shows : Shows p wire r) (alive : living_refusal wire.nodes n ≡ None) where
  abbrev players : ℕ → Player
  players = players_of p wire.nodes r

  lives : not_living r.last.state n ≡ None
  lives = shows.living n ∙ ap (option_map refusal_in) alive

  abbrev shown_seat : Seat
  shown_seat = seats_of p (players_of p wire.nodes r) n

  runs : program_of p shown_seat.local ≡ program_of p (seat_of p wire.nodes n).local
  runs = shown_nodes_run_the_same p (seat_of p wire.nodes n)

  node_stands : NodeStands p shows.stands.stands.held r.last.state shown_seat
  node_stands = shows.stands.stands.nodes n lives

  may_run : MayRun p.layout n (program_of p shown_seat.local)
  may_run =
      subst (λ k. MayRun p.layout k (program_of p shown_seat.local)) (shows.stands.stands.shows.node n)
      (owners_may_access p shows.stands.stands.held r.last.state shown_seat node_stands.owns.owns node_stands.tells).0.may_run

  pub within : IsWithin 0 (length wire.words) (access_of p wire n)
  within =
      subst (λ (g : Program). IsWithin 0 (length wire.words) (program_access p.layout g)) runs
      (each_access_keeps_the_list p.layout wire.words (programs_of p (seats_of p (players_of p wire.nodes r))) shows.stands.stands.contents n
      (program_of p shown_seat.local) shows.stands.stands.shows.sized (omega (arith, shows.stands.stands.length_is)) shows.stands.stands.shows.words refl may_run).0

pub steps_are_safe : StepsAreSafe
steps_are_safe p wire r n shows alive = within p wire r n shows alive

-- ---- beats

answered_in : (n : ℕ) (payload : List ℕ) (m : Option Moment) (words : List ℕ) (reply : Option NodeReply) (told : Option Reply)
    → told ≡ option_map (reply_in words) reply → (nodes : List WireNode)
    → option_map_or (λ (x : WireNode). x.node.seat.words) (node_at n nodes) [] ≡ words
    → answers_in (step_beats n payload m told) ≡ answer_of n nodes (progress_of reply)
answered_in n payload m words reply told same nodes there =
    ap (λ o. answers_in (step_beats n payload m o)) same ∙ by_reply m reply
  where
    by_reply : (k : Option Moment) (o : Option NodeReply) → answers_in (step_beats n payload k (option_map (reply_in words) o)) ≡ answer_of n nodes (progress_of o)
    by_reply None None = refl
    by_reply (Some k) None = refl
    by_reply None (Some a) = ap (λ ws. (n, reply_in ws a) ∷ []) (sym there)
    by_reply (Some k) (Some a) = ap (λ ws. (n, reply_in ws a) ∷ []) (sym there)

-- ---- the step

module _ (p : Setting) (old new : WireData) (r : Run) (n : ℕ) (x y : WireNode) (reply : Option NodeReply)
    (shows : Shows p old r) (goes : step_refusal old n ≡ None) (puts : Replaces old.nodes n x y new.nodes) (lives_as : LivesAs x y)
    (went : WentOn p x.node (seen_by (access_of p old n) (word_of old.words)) reply y.node) (plan : new.plan ≡ old.plan) (terms : new.terms ≡ old.terms)
    (words : new.words ≡ words_after (access_of p old n) old.words) (call_is : y.call ≡ call_after x.call reply)
    (told : new.replies ≡ old.replies ++ finished_by n x y.node.seat.words (length new.events) reply)
    (tells_event : new.events ≡ old.events ++ recorded old.plan old.nodes n (slot_event p (seat_of p old.nodes n).local (seen_by (access_of p old n) (word_of old.words)))) where
  abbrev seat : Seat
  seat = seat_of p old.nodes n

  abbrev seen : ℕ
  seen = seen_by (access_of p old n) (word_of old.words)

  may : (living_refusal old.nodes n ≡ None) × (is_busy (seat_in x.node).local ≡ true) × ((seat_in x.node).accesses < 2 ^ 56)
  may = steps_on old n x puts.before goes

  here : seat ≡ seat_in x.node
  here = seat_there p old.nodes n x puts.before

  living_now : not_living r.last.state n ≡ None
  living_now = lives p old r n shows may.0

  busy : is_busy seat.local ≡ true
  busy = ap (λ (s : Seat). is_busy s.local) here ∙ may.1

  few : seat.accesses < last_position
  few = let e : seat.accesses ≡ (seat_in x.node).accesses = ap (λ (s : Seat). s.accesses) here in let f = may.2 in omega (arith, e, f)

  in_words : IsWithin 0 (length old.words) (access_of p old n)
  in_words = within p old r n shows may.0

  made : AccessIsMade (access_of p old n) (word_of old.words) (word_of new.words)
  made = subst (λ ws. AccessIsMade (access_of p old n) (word_of old.words) (word_of ws)) (sym words) (list_changes (access_of p old n) old.words in_words)

  as_long : length new.words ≡ length old.words
  as_long = ap length words ∙ length-words_after (access_of p old n) old.words

  stepped : StandsAfterStep p shows.stands.stands.held new.words (players_of p old.nodes r) r n seen
  stepped = step_keeps p old.words new.words (players_of p old.nodes r) r n shows.stands living_now busy few made as_long

  abbrev after : Run
  after = stepped.after

  abbrev beats_now : List Beat
  beats_now = step_beats n stepped.payload (moment_at p shows.stands.stands.held seat.local seen) (tells p seat seen)

  -- ---- the nodes

  next_is : seat_in y.node ≡ next p seat seen
  next_is = went.next_is ∙ ap (λ s. next p s seen) (sym here)

  tells_it : tells p seat seen ≡ option_map (reply_in y.node.seat.words) reply
  tells_it = ap (λ s. tells p s seen) here ∙ went.told

  there : seat_of p new.nodes n ≡ next p seat seen
  there = seat_there p new.nodes n y puts.here ∙ next_is

  others : (m : ℕ) → (m == n) ≡ false → seat_of p new.nodes m ≡ seat_of p old.nodes m
  others m other = ap (λ o. option_map_or (λ (z : WireNode). seat_in z.node) o (opened_seat p m)) (puts.others m other)

  abbrev put_players : ℕ → Player
  put_players = put_at (players_of p old.nodes r) n (player_next p (players_of p old.nodes r n) seen)

  seats_agree : (m : ℕ) (b : Bool) → (m == n) ≡ b
      → seat_of p new.nodes m ≡ (if b then player_next p (players_of p old.nodes r n) seen else players_of p old.nodes r m).seat
  seats_agree m true same = ap (seat_of p new.nodes) (eqb-true m n same) ∙ there
  seats_agree m false other = others m other

  players_agree : (m : ℕ) → put_players m ≡ players_of p new.nodes after m
  players_agree m =
      ap₂ (λ (s : Seat) (h : List Said). record { seat = s; said = h }) (sym (seats_agree m (m == n) refl)) (sym (stepped.stands.stands.histories m))

  stands_now : WireStands p new.words (players_of p new.nodes after) after
  stands_now = subst (λ (f : ℕ → Player). WireStands p new.words f after) (fun_ext players_agree) stepped.stands

  -- ---- who lives

  living_then : (m : ℕ) → not_living after.last.state m ≡ option_map refusal_in (living_refusal new.nodes m)
  living_then m =
      not_living-members after.last.state r.last.state m stepped.setting.members
      ∙ shows.living m ∙ ap (option_map refusal_in) (sym (same_living old.nodes n x y new.nodes puts lives_as.alive m))

  -- ---- places

  in_pools : InPools p (seat_in y.node).local
  in_pools =
      subst (λ (s : Seat). InPools p s.local) (seat_there p new.nodes n y puts.here)
      (places_are_in_pools p new.words (players_of p new.nodes after) after n stands_now
      (living_then n ∙ ap (option_map refusal_in) (same_living old.nodes n x y new.nodes puts lives_as.alive n ∙ may.0)))

  aimed_then : (m : ℕ) (z : WireNode) → node_at m new.nodes ≡ Some z → IsAimed p z.node
  aimed_then m z at = elim (cases_Bool (m == n)) [
    | inl same ↦ (
        let e : Some y ≡ Some z = sym puts.here ∙ sym (ap (λ k. node_at k new.nodes) (eqb-true m n same)) ∙ at in
        subst (λ (v : WireNode). IsAimed p v.node) (some_same y z e) (went.aimed in_pools)
        )
    | inr other ↦ shows.aimed m z (sym (puts.others m other) ∙ at)
  ]
    where
      some_same : (a b : WireNode) → Some a ≡ Some b → a ≡ b
      some_same a b same = ap (λ o. option_map_or (λ v. v) o a) same

  -- ---- events

  lent_there : (v : Way) (slot : ℕ) → Names p.layout (program_of p (seat_of p old.nodes n).local) seen v slot → HoldsLent p shows.stands.stands.held v.sender slot
  lent_there v slot named =
      named_slots_hold_lent p old.words new.words (players_of p old.nodes r) r n shows.stands living_now busy few made as_long v slot named

  step_event : events_of (step_beats n stepped.payload (moment_at p shows.stands.stands.held seat.local seen) (tells p seat seen)) ≡ recorded old.plan old.nodes n (slot_event p seat.local seen)
  step_event =
      step_events p old shows.stands.stands.held n stepped.payload seat.local seen (tells p seat seen)
      (λ v slot named. told_serial p old r shows v.sender slot (lent_there v slot named))

  events_then : new.events ≡ events_of after.beats
  events_then =
      tells_event ∙ ap₂ (λ (xs ys : List (ℕ × Event)). xs ++ ys) shows.events (sym step_event)
      ∙ sym (events_on r.beats (step_beats n stepped.payload (moment_at p shows.stands.stands.held seat.local seen) (tells p seat seen)))
      ∙ ap events_of (sym stepped.goes_on.beats)

  -- ---- replies

  words_there : option_map_or (λ (z : WireNode). z.node.seat.words) (node_at n new.nodes) [] ≡ y.node.seat.words
  words_there = ap (λ o. option_map_or (λ (z : WireNode). z.node.seat.words) o []) puts.here

  answers : answers_in (step_beats n stepped.payload (moment_at p shows.stands.stands.held seat.local seen) (tells p seat seen)) ≡ answer_of n new.nodes (progress_of reply)
  answers = answered_in n stepped.payload (moment_at p shows.stands.stands.held seat.local seen) y.node.seat.words reply (tells p seat seen) tells_it new.nodes words_there

  -- the calls under way are kept, and the one that is over is told
  keeps : KeepsItsCall (most_words old.plan) r.beats n x
  keeps = shows.calls n x puts.before

  replies_then : new.replies ≡ map (finished_within (most_words new.plan)) (replies_of after.beats)
  replies_then =
      told ∙ ap (λ (fs : List Finished). fs ++ finished_by n x y.node.seat.words (length new.events) reply) shows.replies
      ∙ step_replies (most_words old.plan) n r.beats stepped.payload (moment_at p shows.stands.stands.held seat.local seen) (tells p seat seen) x y.node.seat.words reply new.events
      keeps tells_it (events_then ∙ ap events_of stepped.goes_on.beats)
      ∙ ap₂ (λ (q : WirePlan) bs. map (finished_within (most_words q)) (replies_of bs)) (sym plan) (sym stepped.goes_on.beats)

  calls_then : (m : ℕ) (z : WireNode) → node_at m new.nodes ≡ Some z → KeepsItsCall (most_words new.plan) after.beats m z
  calls_then m z at =
      subst (λ (q : WirePlan). KeepsItsCall (most_words q) after.beats m z) (sym plan)
      (subst (λ bs. KeepsItsCall (most_words old.plan) bs m z) (sym stepped.goes_on.beats) (elim (cases_Bool (m == n)) [
        | inl same ↦ (
            let e : m ≡ n = eqb-true m n same in
            let is : Some y ≡ Some z = sym puts.here ∙ sym (ap (λ k. node_at k new.nodes) e) ∙ at in
            subst (λ (v : WireNode). KeepsItsCall (most_words old.plan) (r.beats ++ beats_now) m v) (ap (λ o. option_map_or (λ v. v) o z) is)
            (subst (λ k. KeepsItsCall (most_words old.plan) (r.beats ++ beats_now) k y) (sym e)
            (step_keeps_own (most_words old.plan) n r.beats stepped.payload (moment_at p shows.stands.stands.held seat.local seen) (tells p seat seen) x y y.node.seat.words reply
            keeps tells_it lives_as call_is))
            )
        | inr other ↦ (
            step_keeps_others (most_words old.plan) n r.beats stepped.payload (moment_at p shows.stands.stands.held seat.local seen) (tells p seat seen) m z other
            (shows.calls m z (sym (puts.others m other) ∙ at))
            )
      ]))

  -- ---- counts

  lives_then : not_living after.last.state n ≡ None
  lives_then = living_then n ∙ ap (option_map refusal_in) (same_living old.nodes n x y new.nodes puts lives_as.alive n ∙ may.0)

  ports_then : after.last.state.fixed.ports ≡ map p.port p.layout.sizes.ports
  ports_then = (stands_now.stands.shows.counts n lives_then).knows.ports

  counts_then : (port : ℕ) → has_number port p.layout.sizes.ports ≡ true → TellsCounts after.last port (seat_of p new.nodes (p.layout.owner port))
  counts_then port has = elim (cases_Bool (p.layout.owner port == n)) [
    | inl same ↦ (
        let e : p.layout.owner port ≡ n = eqb-true (p.layout.owner port) n same in
        subst (λ m. TellsCounts after.last port (seat_of p new.nodes m)) (sym e)
        (desks.tells p new.words (players_of p new.nodes after) after n stands_now lives_then port has e)
        )
    | inr other ↦ (
        tells_same r.last after.last port (seat_of p old.nodes (p.layout.owner port)) (seat_of p new.nodes (p.layout.owner port)) (others (p.layout.owner port) other)
        (step_leaves r.last after.last (p.layout.owner port) n port stepped.payload (moment_at p shows.stands.stands.held seat.local seen) (tells p seat seen)
        shows.stands.stands.shows.reachable other (sym (shows.stands.stands.owners port)) stepped.goes_on.woven) (shows.counts port has)
        )
  ]

  shows_then : Shows p new after
  shows_then = record {
    setting = same_setting p old new plan terms shows.setting;
    stands = stands_now;
    living = living_then;
    aimed = aimed_then;
    ports = ports_then;
    counts = counts_then;
    calls = calls_then;
    replies = replies_then;
    events = events_then;
  }

  as_many : most_handles new.nodes n ≡ most_handles old.nodes n
  as_many =
      ap (λ o. option_map_or (λ (z : WireNode). z.node.seat.room + length z.node.seat.seat.table) o 0) puts.here ∙ went.room
      ∙ sym (ap (λ o. option_map_or (λ (z : WireNode). z.node.seat.room + length z.node.seat.seat.table) o 0) puts.before)

  one_access : MakesOneAccess p old n new
  one_access = record {
    setting = record { plan = plan; terms = terms };
    words = words;
    node = there;
    call = ap (option_map (λ (z : WireNode). z.node.at)) puts.here ∙ ap (λ a. Some a) went.call ∙ sym (ap (option_map (λ (z : WireNode). z.node.at)) puts.before);
    handles = as_many;
    others = puts.others;
  }

  goes_by_step : GoesOnByStep p r n (answer_of n new.nodes (progress_of reply)) new
  goes_by_step = record {
    beats = beats_now;
    after = after;
    is_step = is_step n stepped.payload (moment_at p shows.stands.stands.held seat.local seen) (tells p seat seen);
    goes_on = stepped.goes_on;
    answered = answers;
    setting = stepped.setting;
    own = stepped.own;
    shows = shows_then;
  }

pub steps_show : StepsShow
steps_show p old new r n x y reply shows goes puts lives_as went plan terms words call_is told tells_event = (
  one_access p old new r n x y reply shows goes puts lives_as went plan terms words call_is told tells_event,
  goes_by_step p old new r n x y reply shows goes puts lives_as went plan terms words call_is told tells_event,
)
