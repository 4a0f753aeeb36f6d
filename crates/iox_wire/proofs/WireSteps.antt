-- What a step, and a death, leave of a wire.
use Rattle.std.specs.Prelude.{is_none, not, option_map, position}
use Rattle.iox_wire_weaves.specs.Begins.{is_busy}
use Rattle.iox_wire_weaves.specs.Nodes.{seat_in}
use Rattle.std.specs.Option.{option_map_or}
use Rattle.std.proofs.Common.{◌≡◌, ℕ, ◌==◌, true, false, List, ◌++◌, length, get_or, Option, Some, None, refl, ap, ap₂, sym, subst, ◌∙◌, slice_set}
use Rattle.iox_model.specs.Maps.{or_else, refused_if}
use Rattle.iox_model.specs.Schedules.{Finished}
use Rattle.iox_model.specs.Weaves.{Dies}
use Rattle.iox_steps.specs.declared.access.Access.{Access}
use Rattle.iox_steps.specs.Accesses.{IsWithin, seen_at, words_after}
use Rattle.iox_wire_weaves.specs.Programs.{program_access}
use Rattle.iox_wire_weaves.specs.Seat.{Seat}
use Rattle.iox_wire_weaves.specs.Locals.{program_of}
use Rattle.iox_wire_weaves.specs.Tables.{Setting}
use Rattle.iox_wire_weaves.specs.NodeReply.{NodeReply}
use Rattle.iox_wire_weaves.specs.Runs.{GoesOnBy, Run}
use Rattle.iox_wire_weaves.specs.declared.refusal.WireRefusal.{WireRefusal}
use Rattle.iox_wire_weaves.specs.declared.refusal.WireRefusal.TheVariants.{NodeIsDead}
use Rattle.iox_wire_weaves.specs.Laws.{LivesAs, Replaces, WentOn, progress_of}
use Rattle.iox_model.specs.declared.event.Event.{Event}
use Rattle.iox_wire_weaves.specs.SlotEvents.{slot_event}
use Rattle.iox_steps.specs.declared.access.Progress.{Progress}
use Rattle.iox_wire_weaves.specs.Steps.{GoesOnByStep, MakesItsAccess, MakesOneAccess, StepIsWoven, access_of, answer_of, call_after, finished_by, recorded, rest_refusal, step_refusal}
use Rattle.iox_wire_weaves.specs.Wires.{Shows, WireData, WireNode, living_refusal, node_at}
use Rattle.iox_wire_weaves.proofs.DeathsShown.{deaths_show}
use Rattle.iox_wire_weaves.proofs.Lookups.{living_by, same_living, seat_there, steps_on}
use Rattle.iox_wire_weaves.proofs.StepsShown.{steps_show}
use Rattle.iox_wire.specs.Kept.{HasGoneOn, IsAtItsCall, IsKept, IsRoomy, IsShown, Loses, MayAccess, access_in}
use Rattle.iox_wire.proofs.GoingOn.{goes_on}
use Rattle.iox_wire_weaves.specs.Rooms.{KeepsRooms}
use Rattle.iox_wire.proofs.Keeping.{each_still, kept_on, kept_still}
use Rattle.iox_wire.proofs.Roomy.{roomy_still}
use Rattle.iox_wire.proofs.OwnCalls.{busy_still, own_stepped}
use Rattle.iox_wire.proofs.ToldByLaws.{may, told, within}
use Rattle.iox_wire.proofs.Places.{read_there, replaced}

-- what a wire shows has nothing to do with the room for what steps record
pub shows_with : (p : Setting) (w : WireData) (r : Run) (room : ℕ) → Shows p w r → Shows p (record w { room = room }) r
shows_with p w r room shows = record {
  setting = shows.setting;
  stands = shows.stands;
  living = shows.living;
  aimed = shows.aimed;
  ports = shows.ports;
  counts = shows.counts;
  calls = shows.calls;
  replies = shows.replies;
  events = shows.events;
}

pub shown_with : (w : WireData) (room : ℕ) → IsShown w → IsShown (record w { room = room })
shown_with w room shown = record {
  shows = (shown.shows.0, shown.shows.1, shows_with shown.shows.0 w shown.shows.1 room shown.shows.2);
  whole = shown.whole;
  numbers = shown.numbers;
  kept = shown.kept;
  own = shown.own;
  rooms = shown.rooms;
}

-- nor has the access of a node
pub access_with : (w : WireData) (n room : ℕ) (new : WireData) → MakesItsAccess (record w { room = room }) n new → MakesItsAccess w n new
access_with w n room new makes p r shows =
    let m = makes p r (shows_with p w r room shows) in record { setting = record { plan = m.setting.plan; terms = m.setting.terms }; words = m.words; node = m.node; call = m.call; handles = m.handles; others = m.others }

pub woven_with : (w : WireData) (n room : ℕ) (progress : Progress NodeReply) (new : WireData) → StepIsWoven (record w { room = room }) n progress new → StepIsWoven w n progress new
woven_with w n room progress new woven p r shows = woven p r (shows_with p w r room shows)

-- why a living node makes no step
pub refused_at : (w : WireData) (n : ℕ) (d : WireNode) (o : Option WireRefusal) → living_refusal w.nodes n ≡ None → node_at n w.nodes ≡ Some d
    → rest_refusal d ≡ o → step_refusal w n ≡ o
refused_at w n d o alive at rest =
    ap (λ a. or_else a (option_map_or rest_refusal (node_at n w.nodes) None)) alive
    ∙ ap (λ u. option_map_or rest_refusal u None) at ∙ rest

module _ (w : WireData) (n i : ℕ) (d : WireNode) (at : position (λ x. x.number == n) w.nodes ≡ Some i) (read : d ≡ get_or w.nodes i d) where
  pub there : node_at n w.nodes ≡ Some d
  there = read_there n w.nodes i d at read

  -- ---- an access

  same_access : (p : Setting) → access_of p w n ≡ access_in p d.node
  same_access p = ap (λ (s : Seat). program_access p.layout (program_of p s.local)) (seat_there p w.nodes n d there)

  pub may_access : (p : Setting) (r : Run) → Shows p w r → step_refusal w n ≡ None → IsKept d.node → MayAccess p d.node w.words
  may_access p r shows goes kept =
      let busy : is_busy (seat_in d.node).local ≡ true = (may p w r n d shows there goes kept).1 in
      record {
        aimed = shows.aimed n d there;
        within = subst (IsWithin 0 (length w.words)) (same_access p) (within p w r n d shows there goes kept);
        goes_on = λ place.
            goes_on p (seen_at (access_in p d.node) w.words) d.node d.node.at (told p w r n d shows there goes kept) (shows.aimed n d there) (kept.ready busy) place busy;
      }

  -- ---- a step

  -- the node made its access, and went on
  pub record Made (p : Setting) (reply : Option NodeReply) (words : List ℕ) (event : Option Event) (y : WireNode) : Type 0 where
    pub gone : HasGoneOn p d.node w.words reply y.node
    pub words_are : words ≡ words_after (access_in p d.node) w.words
    pub event_is : event ≡ slot_event p (seat_in d.node).local (seen_at (access_in p d.node) w.words)

  -- and is that node, with its call under way as long as that is not over
  pub record IsAfter (reply : Option NodeReply) (y : WireNode) : Type 0 where
    pub number : y.number ≡ d.number
    pub lives : LivesAs d y
    pub call : y.call ≡ call_after d.call reply
    pub rooms : KeepsRooms d.node y.node

  pub stepped : (p : Setting) (r : Run) (y : WireNode) (reply : Option NodeReply) (words : List ℕ) (event : Option Event) (replies : List Finished) (events : List (ℕ × Event)) (room : ℕ)
      → Shows p w r → step_refusal w n ≡ None → Made p reply words event y → IsAfter reply y
      → replies ≡ w.replies ++ finished_by n d y.node.seat.words (length events) reply → events ≡ w.events ++ recorded w.plan w.nodes n event
      → let new : WireData = record { plan = w.plan; terms = w.terms; words = words; nodes = slice_set w.nodes i y; replies = replies; events = events; room = room } in
      MakesOneAccess p w n new × GoesOnByStep p r n (answer_of n new.nodes (progress_of reply)) new
  stepped p r y reply words event replies events room shows goes made is told noted =
      steps_show p w (record { plan = w.plan; terms = w.terms; words = words; nodes = slice_set w.nodes i y; replies = replies; events = events; room = room }) r n d y reply shows goes
      (replaced n w.nodes i d y at read is.number) is.lives
      (subst (λ (a : Access). WentOn p d.node (seen_at a w.words) reply y.node) (sym (same_access p)) made.gone.went) refl refl
      (made.words_are ∙ ap (λ a. words_after a w.words) (sym (same_access p))) is.call told
      (noted ∙ ap (λ e. w.events ++ recorded w.plan w.nodes n e)
      (made.event_is ∙ ap₂ (λ (s : Seat) (a : Access). slot_event p s.local (seen_at a w.words)) (sym (seat_there p w.nodes n d there)) (sym (same_access p))))

  pub shown_after : (y : WireNode) (reply : Option NodeReply) (words : List ℕ) (event : Option Event) (replies : List Finished) (events : List (ℕ × Event)) (room : ℕ)
      → IsShown w → step_refusal w n ≡ None → ((p : Setting) → MayAccess p d.node w.words → Made p reply words event y) → IsAfter reply y
      → replies ≡ w.replies ++ finished_by n d y.node.seat.words (length events) reply → events ≡ w.events ++ recorded w.plan w.nodes n event
      → IsShown (record { plan = w.plan; terms = w.terms; words = words; nodes = slice_set w.nodes i y; replies = replies; events = events; room = room })
  shown_after y reply words event replies events room shown goes access is told noted =
      let p : Setting = shown.shows.0 in let r : Run = shown.shows.1 in let shows : Shows p w r = shown.shows.2 in
      let kept : IsKept d.node = shown.kept n d there in
      let made : Made p reply words event y = access p (may_access p r shows goes kept) in
      let s = stepped p r y reply words event replies events room shows goes made is told noted in
      let rests = steps_on w n d there goes in
      let puts : Replaces w.nodes n d y (slice_set w.nodes i y) = replaced n w.nodes i d y at read is.number in
      let new : WireData = record { plan = w.plan; terms = w.terms; words = words; nodes = slice_set w.nodes i y; replies = replies; events = events; room = room } in
      let later : GoesOnByStep p r n (answer_of n new.nodes (progress_of reply)) new → is_busy (seat_in y.node).local ≡ is_none reply
      = busy_still p w new r n d y reply shows rests.0 there rests.1 (same_living w.nodes n d y new.nodes puts is.lives.alive n ∙ rests.0) puts.here in
      record {
        shows = (p, s.1.after, s.1.shows);
        whole = shown.whole;
        numbers = shown.numbers;
        kept = kept_still w.nodes n d y (slice_set w.nodes i y) (replaced n w.nodes i d y at read is.number) shown.kept
            (kept_on p d.node y.node (seen_at (access_in p d.node) w.words) reply kept rests.1 rests.2 made.gone.went made.gone.ready);
        own = each_still IsAtItsCall w.nodes n d y (slice_set w.nodes i y) (replaced n w.nodes i d y at read is.number) shown.own
            (own_stepped d y reply (shown.own n d there) rests.1 (later s.1) made.gone.went.call is.call);
        rooms = roomy_still w.plan w.nodes n d y (slice_set w.nodes i y) (replaced n w.nodes i d y at read is.number) shown.rooms is.rooms is.number made.gone.went.room;
      }

  -- ---- a death

  pub died : (p : Setting) (r : Run) (y : WireNode) → Shows p w r → living_refusal w.nodes n ≡ None → y ≡ record d { alive = false; died = Some (length w.events) }
      → (after : Run) × GoesOnBy r (Dies n) after
      × Shows p (record { plan = w.plan; terms = w.terms; words = w.words; nodes = slice_set w.nodes i y; replies = w.replies; events = w.events; room = w.room }) after
  died p r y shows lives dead =
      deaths_show p w (record { plan = w.plan; terms = w.terms; words = w.words; nodes = slice_set w.nodes i y; replies = w.replies; events = w.events; room = w.room }) r n d shows lives
      (subst (λ z. Replaces w.nodes n d z (slice_set w.nodes i y)) dead (replaced n w.nodes i d y at read (ap (λ (z : WireNode). z.number) dead)))
      refl refl refl refl refl

  pub shown_dead : (y : WireNode) → IsShown w → living_refusal w.nodes n ≡ None → y ≡ record d { alive = false; died = Some (length w.events) }
      → IsShown (record { plan = w.plan; terms = w.terms; words = w.words; nodes = slice_set w.nodes i y; replies = w.replies; events = w.events; room = w.room })
  shown_dead y shown lives dead =
      let s = died shown.shows.0 shown.shows.1 y shown.shows.2 lives dead in (
      record {
        shows = (shown.shows.0, s.0, s.2);
        whole = shown.whole;
        numbers = shown.numbers;
        kept = kept_still w.nodes n d y (slice_set w.nodes i y) (replaced n w.nodes i d y at read (ap (λ (z : WireNode). z.number) dead)) shown.kept
            (subst (λ (z : WireNode). IsKept z.node) (sym dead) (shown.kept n d there));
        own = each_still IsAtItsCall w.nodes n d y (slice_set w.nodes i y) (replaced n w.nodes i d y at read (ap (λ (z : WireNode). z.number) dead)) shown.own
            (subst IsAtItsCall (sym dead) (record { busy = (shown.own n d there).busy; there = (shown.own n d there).there }));
        rooms = each_still (λ z. IsRoomy w.plan z.number z.node) w.nodes n d y (slice_set w.nodes i y) (replaced n w.nodes i d y at read (ap (λ (z : WireNode). z.number) dead)) shown.rooms
            (subst (λ (z : WireNode). IsRoomy w.plan z.number z.node) (sym dead) (shown.rooms n d there));
      }
      )

  pub lost : (y : WireNode) → y ≡ record d { alive = false; died = Some (length w.events) }
      → Loses w n (record { plan = w.plan; terms = w.terms; words = w.words; nodes = slice_set w.nodes i y; replies = w.replies; events = w.events; room = w.room })
  lost y dead =
      let puts : Replaces w.nodes n d y (slice_set w.nodes i y) = replaced n w.nodes i d y at read (ap (λ (z : WireNode). z.number) dead) in
      record {
        setting = record { plan = refl; terms = refl };
        node = λ x is. puts.here ∙ ap Some dead
            ∙ ap (option_map (λ (z : WireNode). record z { alive = false; died = Some (length w.events) })) (sym there ∙ is);
        dead = living_by (slice_set w.nodes i y) n (Some y) puts.here ∙ ap (λ (z : WireNode). refused_if (not z.alive) NodeIsDead) dead;
        others = puts.others;
        words = refl;
        replies = refl;
        events = refl;
      }
