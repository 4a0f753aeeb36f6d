-- The parts of a shown world, put together again as a call begins and as a node dies.
use Rattle.std.proofs.Common.{◌≡◌, ℕ, false, ◌==◌, Option, Some, None, refl, ap, sym, subst, ◌∙◌}
use Rattle.iox_model.specs.declared.way.Way.{Way}
use Rattle.iox_model.specs.declared.reply.Refusal.TheVariants.{Busy}
use Rattle.iox_model.specs.Commands.{Refusal, WireCall}
use Rattle.iox_model.specs.Joins.{not_living}
use Rattle.iox_model.specs.Maps.{or_else, refused_if, put_at}
use Rattle.iox_model.specs.Services.{with_death}
use Rattle.iox_model.specs.Weaves.{World, Begins, Dies, IsBeat, begin_refusal, begun}
use Rattle.iox_laws.proofs.WeaveBeats.LiveWays.{beats_are_reachable}
use Rattle.iox_laws.proofs.WeaveLaws.DeathLaws.{IsGone, stays_gone}
use Rattle.iox_laws.proofs.WeaveLaws.WholeLemmas.{or_else-none, put_at-here}
use Rattle.iox_laws.proofs.WeaveLedger.Truths.{none-some}
use Rattle.iox_wire_words.specs.Programs.{Rests}
use Rattle.iox_wire_words.specs.BeginLaws.{IsOver}
use Rattle.iox_wire_words.specs.Fits.{WireContents, WordsFit}
use Rattle.iox_wire_words.proofs.Begins.{begins_keep_the_words}
use Rattle.iox_wire_moments.specs.MomentsOf.{Pools}
use Rattle.iox_wire_moments.specs.Ties.{Suits, Ties}
use Rattle.iox_wire_locals.specs.declared.local.Local.{Local}
use Rattle.iox_wire_locals.specs.declared.local.Local.TheVariants.{Idle}
use Rattle.iox_wire_locals.specs.declared.seat.Seat.{Seat}
use Rattle.iox_wire_locals.specs.Tables.{Setting}
use Rattle.iox_wire_locals.specs.BeginLaws.{Counts}
use Rattle.iox_wire_locals.specs.Begins.{begin, is_busy, refusal_at, misnamed_call}
use Rattle.iox_wire_locals.specs.Laws.{HasSmallId}
use Rattle.iox_wire_locals.specs.Locals.{program_of}
use Rattle.iox_wire_laws.specs.WireKeeping.BeginLaws.{not_forgettable}
use Rattle.iox_wire_laws.specs.WireKeeping.OwnParts.{KeepsOwn}
use Rattle.iox_wire_laws.specs.WireKeeping.Readiness.{ShowsDoing, choice_for, IsReady}
use Rattle.iox_wire_laws.specs.WireKeeping.Shows.{ShowsWorld, StatesFit, programs_of}
use Rattle.iox_wire_laws.proofs.WireKeeping.BeginBeats.{refusals_are_the_machines, begins_are_beats}
use Rattle.iox_wire_laws.proofs.WireKeeping.CountsKept.{by_part, by_fixed, begins_keep_own}
use Rattle.iox_wire_laws.proofs.WireKeeping.OthersKept.{others_keep_counts}
use Rattle.iox_wire_laws.proofs.WireShows.NextPrograms.{words_same}
use Rattle.iox_wire_laws.proofs.WireShows.StepsShow.{seat_put}
use Rattle.iox_wire_laws.specs.WireRegions.BeginsShow.{BeginsShowTheWorld, DeathsShowTheWorld}
use Rattle.iox_wire_laws.proofs.WireKeeping.BeginLeads as begins

-- ---- begins

-- a node that is not busy runs nothing
at_rest : (p : Setting) (local : Local) → refused_if {A = Refusal} (is_busy local) Busy ≡ None → program_of p local ≡ Rests
at_rest p Idle free = refl
at_rest p local free = none-some Busy (sym free)

module _ (p : Setting) (held : Pools) (word : ℕ → ℕ) (c : WireContents) (seats : ℕ → Seat) (w : World) (n : ℕ) (call : WireCall)
    (shows : ShowsWorld p held word c seats w) (ready : IsReady p held w (seats n)) (free : begin_refusal w n call ≡ None) where
  abbrev x : Seat
  x = seats n

  abbrev y : Seat
  y = begin p (seats n) call

  abbrev u : World
  u = begun w n (choice_for p (seats n) call) call

  free_here : begin_refusal w x.node call ≡ None
  free_here = rw (shows.node n) free

  rests : program_of p x.local ≡ Rests
  rests =
      let all : or_else (not_living w.state x.node) (or_else (refusal_at p x call) (not_forgettable w.state call)) ≡ None
      = sym (refusals_are_the_machines p held w x call ready.counts ready.doing) ∙ free_here in
      let own : refusal_at p x call ≡ None = (or_else-none _ _ (or_else-none _ _ all).1).0 in
      at_rest p x.local (or_else-none (refused_if (is_busy x.local) Busy) (misnamed_call p x call) own).0

  words : WordsFit p.layout word (programs_of p (put_at seats n y)) c
  words =
      words_same p.layout word (put_at (programs_of p seats) n (program_of p y.local)) (programs_of p (put_at seats n y)) c
      (seat_put (λ k z. put_at (programs_of p seats) n (program_of p y.local) k ≡ program_of p z.local) seats n y
      (put_at-here (programs_of p seats) n (program_of p y.local))
      (λ k other. rw other refl))
      (begins_keep_the_words p.layout word (programs_of p seats) c n (program_of p y.local) (subst IsOver (sym rests) tt) (begins.begin p x call).fresh.fresh shows.words)

  beat_here : IsBeat w (Begins x.node call (choice_for p x call)) (begun w x.node (choice_for p x call) call) × ShowsDoing p held (begun w x.node (choice_for p x call) call) y
  beat_here = begins_are_beats p held w x call ready free_here

  both : IsBeat w (Begins n call (choice_for p x call)) u × ShowsDoing p held u y
  both = subst (λ k. IsBeat w (Begins k call (choice_for p x call)) (begun w k (choice_for p x call) call)
      × ShowsDoing p held (begun w k (choice_for p x call) call) y) (shows.node n) beat_here

  same : KeepsOwn x y
  same = begins_keep_own p x call

  others : (k : ℕ) → (k == n) ≡ false → not_living w.state k ≡ None → Counts p (seats k) w.state held × ShowsDoing p held u (seats k)
  others k other lives =
      others_keep_counts p held w u (Begins n call (choice_for p x call)) (seats k) shows.reachable both.0
      (subst (λ i. (i == n) ≡ false) (sym (shows.node k)) other) (shows.counts k lives) (shows.doing k lives)

  shown : ShowsWorld p held word c (put_at seats n y) u
  shown = record {
    reachable = beats_are_reachable w u (Begins n call (choice_for p x call)) shows.reachable both.0;
    sized = shows.sized;
    suits = shows.suits;
    words = words;
    ties = shows.ties;
    states = shows.states;
    ids = shows.ids;
    node = seat_put (λ k z. z.node ≡ k) seats n y (same.node ∙ shows.node n) (λ k other. shows.node k);
    counts =
        seat_put (λ k z. not_living w.state k ≡ None → Counts p z w.state held) seats n y (λ lives. by_part p x y w.state held same ready.counts)
        (λ k other. shows.counts k);
    doing =
        seat_put (λ k z. not_living w.state k ≡ None → ShowsDoing p held u z) seats n y (λ lives. both.1) (λ k other lives. (others k other lives).1);
  }

pub begins_show_the_world : BeginsShowTheWorld
begins_show_the_world p held word c seats w n call shows ready free =
    ((both p held word c seats w n call shows ready free).0, shown p held word c seats w n call shows ready free)

-- ---- deaths

-- who lives after a death lived before
lived : (w u : World) (n k : ℕ) → IsBeat w (Dies n) u → not_living u.state k ≡ None → not_living w.state k ≡ None
lived w u n k beat lives = at (not_living w.state k) refl
  where
    at : (o : Option Refusal) → not_living w.state k ≡ o → o ≡ None
    at None is = refl
    at (Some r) is =
        absurd (subst IsGone lives (subst (λ (v : World). IsGone (not_living v.state k)) (sym beat.1)
        (stays_gone n k w.state.members.nodes (subst IsGone (sym is) tt))))

pub deaths_show_the_world : DeathsShowTheWorld
deaths_show_the_world p held word c seats w u n shows beat = record {
  reachable = beats_are_reachable w u (Dies n) shows.reachable beat;
  sized = shows.sized;
  suits = subst (λ (v : World). Suits p.layout v.state.fixed) (sym beat.1) shows.suits;
  words = shows.words;
  ties = subst (λ (v : World). Ties p.layout held c v.state) (sym beat.1) (tied p held c w n shows.ties);
  states = subst (λ (v : World). StatesFit p c v.state) (sym beat.1) shows.states;
  ids = subst (λ (v : World). (z : Way) → HasSmallId (v.state.request_state z)) (sym beat.1) shows.ids;
  node = shows.node;
  counts = λ k lives. by_fixed p (seats k) w.state u.state held (ap (λ (v : World). v.state.fixed) beat.1) (shows.counts k (lived w u n k beat lives));
  doing = λ k lives. subst (λ (v : World). ShowsDoing p held v (seats k)) (sym beat.1) (shows.doing k (lived w u n k beat lives));
}
  where
    tied : (p : Setting) (held : Pools) (c : WireContents) (w : World) (n : ℕ) → Ties p.layout held c w.state → Ties p.layout held c (with_death w.state n)
    tied p held c w n ties = record { waiting = ties.waiting; in_hand = ties.in_hand; returned = ties.returned }
