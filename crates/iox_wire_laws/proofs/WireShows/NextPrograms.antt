-- Place by place: the words fit the program of the next place.
use Rattle.std.proofs.Common.{◌≡◌, ℕ, inl, inr, Bool, true, false, if◌then◌else◌, ◌==◌, ◌+◌, List, Option, Some, None, refl, sym, subst, ap, ◌∙◌}
use Rattle.std.proofs.lemmas.Bool.{cases_Bool}
use Rattle.iox_model.specs.declared.way.Way.{Way}
use Rattle.iox_model.specs.Maps.{put_at}
use Rattle.iox_model.specs.States.{State}
use Rattle.iox_model.specs.Weaves.{World}
use Rattle.iox_laws.proofs.WeaveLaws.WholeLemmas.{put_at-here}
use Rattle.iox_steps.specs.declared.access.Next.TheVariants as next
use Rattle.iox_steps.specs.declared.push.Push.{Push}
use Rattle.iox_steps.specs.declared.push.Push.TheVariants as push
use Rattle.iox_steps.specs.declared.push.PushReply.{PushReply}
use Rattle.iox_steps.specs.declared.push.PushReply.TheVariants.{Pushed}
use Rattle.iox_steps.specs.declared.side.QueueEvent.{QueueEvent}
use Rattle.iox_steps.specs.declared.side.QueueEvent.TheVariants.{Quiet, Evict}
use Rattle.iox_steps.specs.declared.side.Pushing.{Pushing}
use Rattle.iox_steps.specs.declared.site.Site.{Site}
use Rattle.iox_steps.specs.Sites.{cell_at}
use Rattle.iox_steps.specs.Sides.{in_push}
use Rattle.iox_steps.specs.declared.side.Pushing.TheVariants as pushing
use Rattle.iox_steps.specs.declared.side.Popping.TheVariants as popping
use Rattle.iox_steps.specs.declared.site.QueueKind.{QueueKind}
use Rattle.iox_steps.specs.declared.site.QueueKind.TheVariants.{Index, Overflowing}
use Rattle.iox_steps.specs.Accesses.{seen_by}
use Rattle.iox_steps.specs.Fits.{PushingKnows, PushKnows}
use Rattle.iox_word_map.specs.WordMaps.{WireQueue, MessageQueue, ReturningQueue, IsQueue}
use Rattle.iox_wire_words.specs.Programs.{WireLayout, Program, Pushes, program_access, program_after, site_of, pusher_of, popper_of, pushing_in, popping_in}
use Rattle.iox_wire_words.specs.Fits.{WireContents, WordsFit, QueueFits, MayRun, contents_after}
use Rattle.iox_wire_words.proofs.Begins.{begins_keep_the_words}
use Rattle.iox_wire_words.proofs.PieceLemmas.{same_queue-refl}
use Rattle.iox_wire_words.proofs.Steps.{each_access_keeps_the_words}
use Rattle.iox_wire_moments.specs.MomentsOf.{Pools}
use Rattle.iox_wire_locals.specs.declared.local.Delivery.{Delivery}
use Rattle.iox_wire_locals.specs.declared.local.Local.{Local}
use Rattle.iox_wire_locals.specs.declared.local.Visit.{Visit}
use Rattle.iox_wire_locals.specs.declared.table.Entry.{Entry}
use Rattle.iox_wire_locals.specs.declared.local.Local.TheVariants.{Idle, Ends, LendEmpties, SendEmpties, SendLooks, SendPushes, SendEvicts, SendGetsBack, SendEnds, ReceiveLooks, ReceivePops, ReceiveReturns, ReleaseReturns, Seeks}
use Rattle.iox_wire_locals.specs.declared.seat.Seat.{Seat}
use Rattle.iox_wire_locals.specs.Tables.{Setting, way_in}
use Rattle.iox_wire_locals.specs.Desks.{delivers, gets_back, at_desk}
use Rattle.iox_wire_locals.specs.Findings as findings
use Rattle.iox_wire_locals.specs.Locals.{program_of}
use Rattle.iox_wire_locals.specs.ReceiveFindings as receive_findings
use Rattle.iox_wire_locals.specs.StepLaws.{ReliesOn}
use Rattle.iox_wire_locals.specs.Steps.{advance, accessed}
use Rattle.iox_wire_laws.specs.WireKeeping.Shows.{ShowsWorld, programs_of}
use Rattle.iox_wire_laws.specs.WireShows.NextPrograms.{NextProgramsFit}
use Rattle.iox_wire_laws.proofs.WireKeeping.CourseLeads as course
use Rattle.iox_wire_laws.proofs.WireKeeping.CourseLeads.{FreshAt}
use Rattle.iox_wire_laws.proofs.WireShows.NextPlaces.{Follows, IsEarly, popped, seen_empty, seen_full, pushed}

-- what is pushed back, its queue never found full
abbrev pub NeverFull : Local → Type 0
NeverFull (ReceiveReturns v w slot (pushing.Pushes (push.StoresWrite value next (Some read))) left waiting) = ⊥
NeverFull (ReleaseReturns e (pushing.Pushes (push.StoresWrite value next (Some read)))) = ⊥
NeverFull local = Unit {0}

module _ (p : Setting) (z : Seat) (s : State) (held : Pools) where
  abbrev After : Local → ℕ → Type 0
  After local seen = Follows p (program_after p.layout (program_of p local) seen) (advance p z local seen)

  -- a push that finds room
  publishes : (d : Delivery) (last : Option Way) (w : Way) (left : List Way) (count : ℕ) (place : Push) (seen : ℕ) → IsEarly place
      → After (SendPushes d last w (pushing.Pushes place) left count) seen
  publishes d last w left count =
      pushed p (MessageQueue w) (findings.send_pushed p z d last w left count) (λ k. refl) (λ k. (refl, refl, refl))
      (λ value. (course.delivering p (at_desk z d.loan.port (delivers w value)) d _ left (count + 1)).fresh)

  gives : (v : Visit) (w : Way) (slot : ℕ) (left : List Way) (waiting : Bool) (place : Push) (seen : ℕ) → IsEarly place
      → After (ReceiveReturns v w slot (pushing.Pushes place) left waiting) seen
  gives v w slot left waiting =
      pushed p (ReturningQueue w) (receive_findings.receive_returned z v w slot left waiting) (λ k. refl) (λ k. (refl, refl, refl))
      (λ value. record { fresh = refl })

  returns : (e : Entry) (place : Push) (seen : ℕ) → IsEarly place → After (ReleaseReturns e (pushing.Pushes place)) seen
  returns e =
      pushed p (ReturningQueue (way_in e)) (receive_findings.release_returned z e) (λ k. refl) (λ k. (refl, refl, refl))
      (λ value. (course.given_back p z e).fresh)

  -- a push that found its queue full
  abbrev evicted : Bool → Site → ℕ → Pushing
  evicted won site read = in_push {R = PushReply} (if won then next.Goes (push.TakesOld (cell_at site read)) else next.Ends Pushed)

  abbrev evict_event : Bool → QueueEvent
  evict_event won = if won then Evict else Quiet

  evicts : (d : Delivery) (w : Way) (left : List Way) (count read seen : ℕ) (won : Bool)
      → Follows p (Pushes (MessageQueue w) (evicted won (site_of p.layout (MessageQueue w)) read))
      (findings.send_evicted z d w left count (evicted won (site_of p.layout (MessageQueue w)) read) (evict_event won))
  evicts d w left count read seen true = inl refl
  evicts d w left count read seen false = inr (refl, (course.delivering p z d (Some w) left count).fresh)

  gives_late : (v : Visit) (w : Way) (slot : ℕ) (left : List Way) (waiting : Bool) (read seen : ℕ) (won : Bool)
      → Follows p (Pushes (ReturningQueue w) (evicted won (site_of p.layout (ReturningQueue w)) read))
      (receive_findings.receive_returned z v w slot left waiting (evicted won (site_of p.layout (ReturningQueue w)) read) (evict_event won))
  gives_late v w slot left waiting read seen true = inl refl
  gives_late v w slot left waiting read seen false = inl refl

  returns_late : (e : Entry) (read seen : ℕ) (won : Bool)
      → Follows p (Pushes (ReturningQueue (way_in e)) (evicted won (site_of p.layout (ReturningQueue (way_in e))) read))
      (receive_findings.release_returned z e (evicted won (site_of p.layout (ReturningQueue (way_in e))) read) (evict_event won))
  returns_late e read seen true = inl refl
  returns_late e read seen false = inl refl

  follows : (local : Local) (seen : ℕ) → ReliesOn p z s held local seen → NeverFull local → After local seen
  follows Idle seen relies room = absurd relies
  follows (Ends ending) seen relies room = absurd relies
  follows (SendEnds d last count) seen relies room = absurd relies
  -- a loan or a send gets back
  follows (LendEmpties o w (popping.Pops place) left) seen relies room =
      popped p (ReturningQueue w) (findings.loan_emptied z o w left) (λ k. refl) (course.loaning p z o left).fresh (λ slot. record { fresh = refl }) (λ k. refl) place seen
  follows (LendEmpties o w place left) seen relies room = absurd relies
  follows (SendEmpties d w (popping.Pops place) left) seen relies room =
      popped p (ReturningQueue w) (findings.send_emptied p z d w left) (λ k. refl) (course.emptying p z d left).fresh (λ slot. record { fresh = refl }) (λ k. refl) place seen
  follows (SendEmpties d w place left) seen relies room = absurd relies
  -- a send looks and pushes
  follows (SendLooks d w (pushing.Looks place) left full) seen relies room =
      seen_full p (MessageQueue w) (findings.send_looked p z d w left full) (λ k. refl) (course.looking p z d left _).fresh (course.looking p z d left full).fresh place seen
  follows (SendLooks d w place left full) seen relies room = absurd relies
  follows (SendPushes d last w (pushing.Pushes (push.StoresWrite value end (Some read))) left count) seen relies room = inl refl
  follows (SendPushes d last w (pushing.Pushes (push.StoresWrite value end None)) left count) seen relies room =
      publishes d last w left count (push.StoresWrite value end None) seen tt
  follows (SendPushes d last w (pushing.Pushes (push.LoadsWrite value)) left count) seen relies room =
      publishes d last w left count (push.LoadsWrite value) seen tt
  follows (SendPushes d last w (pushing.Pushes (push.LoadsRead value write)) left count) seen relies room =
      publishes d last w left count (push.LoadsRead value write) seen tt
  follows (SendPushes d last w (pushing.Pushes (push.StoresCell value cell end full)) left count) seen relies room =
      publishes d last w left count (push.StoresCell value cell end full) seen tt
  follows (SendPushes d last w (pushing.Pushes (push.Evicts read)) left count) seen relies room = absurd relies
  follows (SendPushes d last w (pushing.Pushes (push.TakesOld cell)) left count) seen relies room = absurd relies
  follows (SendPushes d last w place left count) seen relies room = absurd relies
  follows (SendEvicts d w (pushing.Pushes (push.Evicts read)) left count) seen relies room = evicts d w left count read seen (seen == read)
  follows (SendEvicts d w place left count) seen relies room = absurd relies
  follows (SendGetsBack d w (pushing.Pushes (push.TakesOld cell)) left count) seen relies room =
      inr (refl, (course.delivering p (at_desk z d.loan.port (gets_back w seen)) d None left count).fresh)
  follows (SendGetsBack d w place left count) seen relies room = absurd relies
  -- a receive looks or pops, and gives back
  follows (ReceiveLooks v w (popping.Looks place) left waiting) seen relies room =
      seen_empty p (MessageQueue w) (receive_findings.receive_looked p z v w left waiting) (λ k. refl) (course.visiting p z v left waiting).fresh
      (course.visiting p z v left true).fresh place seen
  follows (ReceiveLooks v w place left waiting) seen relies room = absurd relies
  follows (ReceivePops v w more (popping.Pops place) left waiting) seen relies room =
      popped p (MessageQueue w) (receive_findings.receive_popped p z v w more left waiting) (λ k. refl) (course.visiting p z v left waiting).fresh
      (λ slot. record { fresh = tt }) (λ k. refl) place seen
  follows (ReceivePops v w more place left waiting) seen relies room = absurd relies
  follows (ReceiveReturns v w slot (pushing.Pushes (push.LoadsWrite value)) left waiting) seen relies room = gives v w slot left waiting (push.LoadsWrite value) seen tt
  follows (ReceiveReturns v w slot (pushing.Pushes (push.LoadsRead value write)) left waiting) seen relies room = gives v w slot left waiting (push.LoadsRead value write) seen tt
  follows (ReceiveReturns v w slot (pushing.Pushes (push.StoresCell value cell end full)) left waiting) seen relies room = gives v w slot left waiting (push.StoresCell value cell end full) seen tt
  follows (ReceiveReturns v w slot (pushing.Pushes (push.StoresWrite value end None)) left waiting) seen relies room = gives v w slot left waiting (push.StoresWrite value end None) seen tt
  follows (ReceiveReturns v w slot (pushing.Pushes (push.StoresWrite value end (Some read))) left waiting) seen relies room = absurd room
  follows (ReceiveReturns v w slot (pushing.Pushes (push.Evicts read)) left waiting) seen relies room = gives_late v w slot left waiting read seen (seen == read)
  follows (ReceiveReturns v w slot (pushing.Pushes (push.TakesOld cell)) left waiting) seen relies room = inl refl
  follows (ReceiveReturns v w slot place left waiting) seen relies room = absurd relies
  -- a release gives back
  follows (ReleaseReturns e (pushing.Pushes (push.LoadsWrite value))) seen relies room = returns e (push.LoadsWrite value) seen tt
  follows (ReleaseReturns e (pushing.Pushes (push.LoadsRead value write))) seen relies room = returns e (push.LoadsRead value write) seen tt
  follows (ReleaseReturns e (pushing.Pushes (push.StoresCell value cell end full))) seen relies room = returns e (push.StoresCell value cell end full) seen tt
  follows (ReleaseReturns e (pushing.Pushes (push.StoresWrite value end None))) seen relies room = returns e (push.StoresWrite value end None) seen tt
  follows (ReleaseReturns e (pushing.Pushes (push.StoresWrite value end (Some read)))) seen relies room = absurd room
  follows (ReleaseReturns e (pushing.Pushes (push.Evicts read))) seen relies room = returns_late e read seen (seen == read)
  follows (ReleaseReturns e (pushing.Pushes (push.TakesOld cell))) seen relies room = inl refl
  follows (ReleaseReturns e place) seen relies room = absurd relies
  -- a question looks
  follows (Seeks w (popping.Looks place) left) seen relies room =
      seen_empty p (MessageQueue w) (receive_findings.sought z w left) (λ k. refl) (course.seeking p z left).fresh (record { fresh = tt }) place seen
  follows (Seeks w place left) seen relies room = absurd relies
  -- and what is no queue's
  follows local seen relies room = inr (tt, (course.after p z local seen tt).fresh)

-- ---- the law

pub words_same : (l : WireLayout) (word : ℕ → ℕ) (a b : ℕ → Program) (c : WireContents) → ((i : ℕ) → a i ≡ b i) → WordsFit l word a c → WordsFit l word b c
words_same l word a b c same fits = record {
  queues = λ q is.
      subst (λ k. QueueFits (site_of l q) word (c.queues q) (pushing_in q (b (pusher_of l q))) (popping_in q k)) (same (popper_of l q))
      (subst (λ k. QueueFits (site_of l q) word (c.queues q) (pushing_in q k) (popping_in q (a (popper_of l q)))) (same (pusher_of l q)) (fits.queues q is));
  states = fits.states;
  regions = fits.regions;
}

-- the programs of all nodes, once one of them is at its next place
seats_put : (p : Setting) (seats : ℕ → Seat) (n : ℕ) (y : Seat) (i : ℕ)
    → put_at (programs_of p seats) n (program_of p y.local) i ≡ programs_of p (put_at seats n y) i
seats_put p seats n y i = elim (cases_Bool (i == n)) [ inl here ↦ rw here refl | inr other ↦ rw other refl ]

put_twice : (a : ℕ → Program) (n : ℕ) (b c : Program) (i : ℕ) → put_at (put_at a n b) n c i ≡ put_at a n c i
put_twice a n b c i = elim (cases_Bool (i == n)) [ inl here ↦ rw here refl | inr other ↦ rw other refl ]

begun : (p : Setting) (word : ℕ → ℕ) (programs : ℕ → Program) (c : WireContents) (n : ℕ) (after : Program) (y : Seat) → Follows p after y
    → WordsFit p.layout word (put_at programs n after) c → WordsFit p.layout word (put_at programs n (program_of p y.local)) c
begun p word programs c n after y (inl same) fits = rw same fits
begun p word programs c n after y (inr new) fits =
    words_same p.layout word (put_at (put_at programs n after) n (program_of p y.local)) (put_at programs n (program_of p y.local)) c
    (put_twice programs n after (program_of p y.local))
    (begins_keep_the_words p.layout word (put_at programs n after) c n (program_of p y.local) (rw (put_at-here programs n after) new.0) new.1.fresh fits)

not_index : {A : Type 0} → Index ≡ Overflowing → A
not_index e = absurd (subst IsIndex e tt)
  where
    IsIndex : QueueKind → Type 0
    IsIndex Index = Unit {0}
    IsIndex Overflowing = ⊥

module _ (p : Setting) (held : Pools) (word : ℕ → ℕ) (c : WireContents) (seats : ℕ → Seat) (w : World)
    (shows : ShowsWorld p held word c seats w) (n : ℕ) where
  -- a returning queue is never found full
  index_push : (y : Way) (value end read : ℕ) → programs_of p seats n ≡ Pushes (ReturningQueue y) (pushing.Pushes (push.StoresWrite value end (Some read)))
      → IsQueue p.layout.sizes (ReturningQueue y) × (pusher_of p.layout (ReturningQueue y) ≡ n) → ⊥
  index_push y value end read runs own =
      let q : WireQueue = ReturningQueue y in
      let at : pushing_in q (programs_of p seats (pusher_of p.layout q)) ≡ pushing.Pushes (push.StoresWrite value end (Some read))
      = ap (λ k. pushing_in q (programs_of p seats k)) own.1 ∙ ap (pushing_in q) runs ∙ rw (same_queue-refl q) refl in
      let knows : PushKnows (site_of p.layout q) word (c.queues q).waiting (c.queues q).hand (push.StoresWrite value end (Some read))
      = subst (PushingKnows (site_of p.layout q) word (c.queues q).waiting (c.queues q).hand) at (shows.words.queues q own.0).1.push in
      not_index (sym (shows.suits.returning y own.0) ∙ knows.2.0)

  never_full : (local : Local) → programs_of p seats n ≡ program_of p local → MayRun p.layout n (program_of p local) → NeverFull local
  never_full (ReceiveReturns v y slot (pushing.Pushes (push.StoresWrite value end (Some read))) left waiting) runs own = index_push y value end read runs own
  never_full (ReleaseReturns e (pushing.Pushes (push.StoresWrite value end (Some read)))) runs own = index_push (way_in e) value end read runs own
  never_full local runs own = tt

pub next_programs_fit : NextProgramsFit
next_programs_fit p held word word' c seats w n shows living owns relies made =
    let x : Seat = seats n in let program : Program = program_of p x.local in
    let seen : ℕ = seen_by (program_access p.layout program) word in
    let own : MayRun p.layout n program = subst (λ k. MayRun p.layout k program) (shows.node n) owns.may_run in
    let y : Seat = advance p (accessed x) x.local seen in
    let after : Program = program_after p.layout program seen in
    let goes : Follows p after y = follows p (accessed x) w.state held x.local seen relies (never_full p held word c seats w shows n x.local refl own) in
    words_same p.layout word' (put_at (programs_of p seats) n (program_of p y.local)) (programs_of p (put_at seats n y))
    (contents_after p.layout program seen c) (seats_put p seats n y)
    (begun p word' (programs_of p seats) (contents_after p.layout program seen c) n after y goes
    (each_access_keeps_the_words p.layout word word' (programs_of p seats) c n program shows.sized shows.words refl own made).2)
