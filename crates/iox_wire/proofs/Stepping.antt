-- What a step leaves, by what its code does.
use Rattle.std.specs.Prelude.{IfSome, position, ◌⊎◌}
use Rattle.std.proofs.Common.{◌≡◌, ℕ, ◌<◌, ◌≤◌, ◌==◌, true, List, [], ◌++◌, append-nil, arith, length, get_or, Option, Some, None, refl, ap, ap₂, sym, subst, ◌∙◌, slice_set, inl, inr, true≢false}
use Rattle.iox_laws.proofs.WeaveLaws.WholeLemmas.{some-is}
use Rattle.iox_model.specs.declared.event.Event.{Event}
use Rattle.iox_model.specs.Schedules.{Finished}
use Rattle.iox_model.specs.declared.reply.Reply.TheVariants.{Words}
use Rattle.iox_steps.specs.Accesses.{seen_at, words_after}
use Rattle.iox_steps.specs.declared.access.Progress.{Progress}
use Rattle.iox_wire_weaves.specs.Aims.{IsAimed}
use Rattle.iox_wire_weaves.specs.Laws.{LivesAs, progress_of}
use Rattle.iox_wire_weaves.specs.NodeReply.{NodeReply}
use Rattle.iox_wire_weaves.specs.NodeReply.TheVariants as node_replies
use Rattle.iox_wire_weaves.specs.Nodes.{NodeView, answered_at, reply_in, seat_in}
use Rattle.iox_wire_weaves.specs.Plans.{slot_words_of}
use Rattle.iox_wire_weaves.specs.Replies.{most_words}
use Rattle.iox_wire_weaves.specs.Rooms.{KeepsRooms}
use Rattle.iox_wire_weaves.specs.Runs.{Run}
use Rattle.iox_wire_weaves.specs.SeatReply.TheVariants as seat_replies
use Rattle.iox_wire_weaves.specs.SlotEvents.{slot_event}
use Rattle.iox_wire_weaves.specs.Steps.{GoesOnByStep, IsWireCallAt, MakesOneAccess, answer_of, call_after, finished_by, most_accesses, read_after, recorded, reply_of, step_refusal}
use Rattle.iox_wire_weaves.specs.Tables.{Setting}
use Rattle.iox_wire_weaves.specs.Wires.{Shows, WireData, WireNode, node_at}
use Rattle.iox_wire_weaves.proofs.Lookups.{steps_on}
use Rattle.iox_wire_weaves.proofs.ReadsWithin.{reads_are_within}
use Rattle.iox_wire.specs.Kept.{FoundThere, HasGoneOn, IsShown, MayAccess, access_in}
use Rattle.iox_wire.specs.Replies.{IsReadWithin, is_read}
use Rattle.iox_wire.proofs.OwnCalls.{own_answer}
use Rattle.iox_wire.proofs.Places.{number_there, replaced}
use Rattle.iox_wire.proofs.Roomy.{slots_fit}
use Rattle.iox_wire.proofs.WireSteps as wires
use Rattle.iox_wire.proofs.WireSteps.{may_access, refused_at, shown_after, stepped}

-- the node is the other, with its call under way as long as that is not over
pub record EndsAs (reply : Option NodeReply) (z y : WireNode) : Type 0 where
  pub node : y.node ≡ z.node
  pub number : y.number ≡ z.number
  pub lives : LivesAs z y
  pub call : y.call ≡ call_after z.call reply

pub goes_on : (z : WireNode) → EndsAs None z z
goes_on z = record { node = refl; number = refl; lives = record { alive = refl; died = refl; longest = refl }; call = refl }

pub is_over : (reply : NodeReply) (z y : WireNode) (read : List ℕ) → y ≡ record z { call = None; read = read } → EndsAs (Some reply) z y
is_over reply z y read is = record {
  node = ap (λ (x : WireNode). x.node) is;
  number = ap (λ (x : WireNode). x.number) is;
  lives = record {
    alive = ap (λ (x : WireNode). x.alive) is;
    died = ap (λ (x : WireNode). x.died) is;
    longest = ap (λ (x : WireNode). x.longest) is;
  };
  call = ap (λ (x : WireNode). x.call) is;
}

module _ (w : WireData) (n i : ℕ) (m d : WireNode) (first : position (λ x. x.number == n) w.nodes ≡ Some i) (read_m : m ≡ get_or w.nodes i m)
    (read : d ≡ get_or w.nodes i d) (shown : IsShown w) (goes : step_refusal w n ≡ None) where
  at_m : node_at n w.nodes ≡ Some m
  at_m = wires.there w n i m first read_m

  at_d : node_at n w.nodes ≡ Some d
  at_d = wires.there w n i d first read

  same : m ≡ d
  same = some-is m d (sym at_m ∙ at_d)

  pub may_m : (p : Setting) (r : Run) → Shows p w r → MayAccess p m.node w.words
  may_m p r shows = may_access w n i m first read_m p r shows goes (shown.kept n m at_m)

  may_d : (p : Setting) (r : Run) → Shows p w r → MayAccess p d.node w.words
  may_d p r shows = may_access w n i d first read p r shows goes (shown.kept n d at_d)

  pub may_first : (p : Setting) × MayAccess p m.node w.words
  may_first = (shown.shows.0, may_m shown.shows.0 shown.shows.1 shown.shows.2)

  pub few : (seat_in d.node).accesses < most_accesses
  few = (steps_on w n d at_d goes).2

  module _ (seen : ℕ) (words : List ℕ) (event : Option Event) (saw : (p : Setting) → MayAccess p m.node w.words → seen ≡ seen_at (access_in p m.node) w.words)
      (stored : (p : Setting) → MayAccess p m.node w.words → words ≡ words_after (access_in p m.node) w.words)
      (told : (p : Setting) → IsAimed p m.node → event ≡ slot_event p (seat_in m.node).local seen) where
    there_too : (p : Setting) → MayAccess p d.node w.words → MayAccess p m.node w.words
    there_too p may = subst (λ (x : WireNode). MayAccess p x.node w.words) (sym same) may

    saw_d : (p : Setting) → MayAccess p d.node w.words → seen ≡ seen_at (access_in p d.node) w.words
    saw_d p may = saw p (there_too p may) ∙ ap (λ (x : WireNode). seen_at (access_in p x.node) w.words) same

    pub found : (p : Setting) × FoundThere p d.node seen
    found = (
      shown.shows.0,
      (
        w.words,
        may_d shown.shows.0 shown.shows.1 shown.shows.2,
        saw_d shown.shows.0 (may_d shown.shows.0 shown.shows.1 shown.shows.2),
      ),
    )

    -- it is the call that the node has under way that answers
    pub owned : (reply : Option NodeReply) (z : WireNode)
        → ((p : Setting) (ws : List ℕ) → MayAccess p d.node ws → seen ≡ seen_at (access_in p d.node) ws → HasGoneOn p d.node ws reply z.node)
        → IfSome (node_at n w.nodes) (λ x. IfSome reply (λ r. (answered_at r ≡ x.node.at) × IfSome x.call (λ u. IsWireCallAt u.call (answered_at r))))
    owned reply z gone =
        subst (λ (o : Option WireNode). IfSome o (λ x. IfSome reply (λ r. (answered_at r ≡ x.node.at) × IfSome x.call (λ u. IsWireCallAt u.call (answered_at r))))) (sym at_d)
        (own_answer d reply (shown.own n d at_d)
        (gone shown.shows.0 w.words (may_d shown.shows.0 shown.shows.1 shown.shows.2) (saw_d shown.shows.0 (may_d shown.shows.0 shown.shows.1 shown.shows.2))).own)

    -- what the node read before stays, unless its read is over
    pub keeps_read : (progress : Progress NodeReply) (z y : WireNode) (new : List WireNode) → new ≡ slice_set w.nodes i y → y.number ≡ d.number → z.read ≡ d.read
        → y.read ≡ read_after z.read y.node.seat.words (reply_of progress) → (a b : WireNode) → node_at n w.nodes ≡ Some a → node_at n new ≡ Some b
        → b.read ≡ read_after a.read b.node.seat.words (reply_of progress)
    keeps_read progress z y new is number kept read_so a b before after =
        let old : d ≡ a = some-is d a (sym at_d ∙ before) in
        let puts = replaced n w.nodes i d y first read number in
        let now : y ≡ b = some-is y b (sym puts.here ∙ sym (ap (node_at n) is) ∙ after) in
        subst (λ (x : WireNode). x.read ≡ read_after a.read x.node.seat.words (reply_of progress)) now
        (read_so ∙ ap (λ ws. read_after ws y.node.seat.words (reply_of progress)) (kept ∙ ap (λ (x : WireNode). x.read) old))

    -- a read has told no more words than the longest message has
    pub read_within : (reply : NodeReply) (z : WireNode)
        → ((p : Setting) (ws : List ℕ) → MayAccess p d.node ws → seen ≡ seen_at (access_in p d.node) ws → HasGoneOn p d.node ws (Some reply) z.node)
        → LivesAs d z → IsReadWithin z.longest reply z.node.seat.words
    read_within reply z gone lives read_it =
        let p : Setting = shown.shows.0 in
        let r : Run = shown.shows.1 in
        let shows : Shows p w r = shown.shows.2 in
        let told = (gone p w.words (may_d p r shows) (saw_d p (may_d p r shows))).went.told in
        subst (λ k. length z.node.seat.words ≤ k) (sym (lives.longest ∙ (shows.calls n d at_d).room))
        (in_most (z.node.seat.words)
        (reads_are_within p w r n d (seen_at (access_in p d.node) w.words) z.node.seat.words shows (steps_on w n d at_d goes).0 at_d (shown.kept n d at_d).reads
        (told ∙ ap (λ k. Some k) (is_words reply z.node.seat.words read_it))))
      where
        is_words : (a : NodeReply) (ws : List ℕ) → is_read a ≡ true → reply_in ws a ≡ Words ws
        is_words (node_replies.OfSeat seat_replies.Words) ws is = refl
        is_words a ws is = absurd (true≢false (sym is))

        none_in : (ws : List ℕ) (k : ℕ) → ws ≡ [] → length ws ≤ k
        none_in ws k is = let e : length ws ≡ 0 = ap length is in omega (arith, e)

        less : (a b c : ℕ) → a ≤ b → b ≤ c → a ≤ c
        less a b c low high = omega (arith, low, high)

        in_most : (ws : List ℕ) → (ws ≡ []) ⊎ ((port : ℕ) × (length ws ≤ slot_words_of w.plan port)) → length ws ≤ most_words w.plan
        in_most ws (inl none) = none_in ws (most_words w.plan) none
        in_most ws (inr (port, low)) = less (length ws) (slot_words_of w.plan port) (most_words w.plan) low (slots_fit w.plan (most_words w.plan) refl port)

    module _ (reply : Option NodeReply) (z y : WireNode)
        (gone : (p : Setting) (ws : List ℕ) → MayAccess p d.node ws → seen ≡ seen_at (access_in p d.node) ws → HasGoneOn p d.node ws reply z.node)
        (number : z.number ≡ d.number) (lives : LivesAs d z) (call : z.call ≡ d.call) (rooms : KeepsRooms d.node z.node) (ends : EndsAs reply z y)
        (replies : List Finished) (events : List (ℕ × Event)) (room : ℕ) (noted : events ≡ w.events ++ recorded w.plan w.nodes n event)
        (replied : replies ≡ w.replies ++ finished_by z.number z z.node.seat.words (length events) reply) where
      abbrev Now : WireData
      Now = record { plan = w.plan; terms = w.terms; words = words; nodes = slice_set w.nodes i y; replies = replies; events = events; room = room }

      made : (p : Setting) → MayAccess p d.node w.words → wires.Made w n i d first read p reply words event y
      made p may = record {
        gone = subst (λ (k : NodeView). HasGoneOn p d.node w.words reply k) (sym ends.node) (gone p w.words may (saw_d p may));
        words_are = stored p (there_too p may) ∙ ap (λ (x : WireNode). words_after (access_in p x.node) w.words) same;
        event_is = told p (there_too p may).aimed ∙ ap₂ (λ (x : WireNode) k. slot_event p (seat_in x.node).local k) same (saw_d p may);
      }

      is_after : wires.IsAfter w n i d first read reply y
      is_after = record {
        number = ends.number ∙ number;
        lives = record { alive = ends.lives.alive ∙ lives.alive; died = ends.lives.died ∙ lives.died; longest = ends.lives.longest ∙ lives.longest };
        call = ends.call ∙ ap (λ o. call_after o reply) call;
        rooms = subst (λ (k : NodeView). KeepsRooms d.node k) (sym ends.node) rooms;
      }

      own_number : z.number ≡ n
      own_number = number ∙ number_there n w.nodes i d first read

      -- what it tells is what the node had under way
      by_reply : (o : Option NodeReply) → finished_by z.number z z.node.seat.words (length events) o ≡ finished_by n d y.node.seat.words (length events) o
      by_reply None = refl
      by_reply (Some a) =
          four (λ k c l (x : NodeView). finished_by k (record d { call = c; longest = l }) x.seat.words (length events) (Some a)) own_number call lives.longest (sym ends.node)
        where
          four : {A B C D E : Type 0} (f : A → B → C → D → E) {a a' : A} {b b' : B} {c c' : C} {e e' : D} → a ≡ a' → b ≡ b' → c ≡ c' → e ≡ e' → f a b c e ≡ f a' b' c' e'
          four f p q r s = λ i. f (p i) (q i) (r i) (s i)

      said : replies ≡ w.replies ++ finished_by n d y.node.seat.words (length events) reply
      said = replied ∙ ap (λ (fs : List Finished). w.replies ++ fs) (by_reply reply)

      pub shown_now : IsShown Now
      shown_now = shown_after w n i d first read y reply words event replies events room shown goes made is_after said noted

      pub woven : (p : Setting) (r : Run) → Shows p w r
          → MakesOneAccess p w n Now × GoesOnByStep p r n (answer_of n Now.nodes (progress_of reply)) Now
      woven p r shows = stepped w n i d first read p r y reply words event replies events room shows goes (made p (may_d p r shows)) is_after said noted

-- ---- what is replied

-- as long as a call continues, nothing is
pub nothing_replied : (before : List Finished) (n : ℕ) (x : WireNode) (words : List ℕ) (events : ℕ) → before ≡ before ++ finished_by n x words events None
nothing_replied before n x words events = sym (append-nil before)
