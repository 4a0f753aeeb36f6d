-- The parts of a shown world, put together again after the end of a call.
use Rattle.std.specs.Prelude.{find}
use Rattle.std.specs.Option.{option_map_or}
use Rattle.std.proofs.Common.{◌≡◌, ℕ, Bool, false, if◌then◌else◌, ◌==◌, List, Some, None, refl, ap, sym, subst, ◌∙◌}
use Rattle.iox_model.specs.declared.kind.Role.TheVariants.{Client}
use Rattle.iox_model.specs.declared.way.RequestState.{RequestState}
use Rattle.iox_model.specs.declared.way.Way.{Way}
use Rattle.iox_model.specs.Doings.{Outcome}
use Rattle.iox_model.specs.Ends.{settled}
use Rattle.iox_model.specs.Joins.{not_living}
use Rattle.iox_model.specs.Maps.{put_at}
use Rattle.iox_model.specs.Peers.{role_at}
use Rattle.iox_model.specs.Settings.{Limits, buffer_of, overflow_of}
use Rattle.iox_model.specs.States.{Port, Fixed, State}
use Rattle.iox_model.specs.Weaves.{World, Ends, IsBeat, over}
use Rattle.iox_laws.proofs.WeaveBeats.LiveWays.{beats_are_reachable}
use Rattle.iox_laws.proofs.WeaveLaws.DeathLaws.{settled-members}
use Rattle.iox_laws.proofs.WeaveLaws.WireLemmas.{Same, settled_same}
use Rattle.iox_laws.proofs.WeaveLedger.Truths.{none-some}
use Rattle.iox_steps.specs.declared.site.QueueKind.TheVariants.{Index, Overflowing}
use Rattle.iox_wire_words.specs.Programs.{WireLayout, Rests}
use Rattle.iox_wire_moments.specs.Ties.{Suits}
use Rattle.iox_wire_locals.specs.declared.local.Ending.{Ending}
use Rattle.iox_wire_locals.specs.declared.local.Local.{Local}
use Rattle.iox_wire_locals.specs.declared.local.Local.TheVariants as locals
use Rattle.iox_wire_locals.specs.declared.seat.Seat.{Seat}
use Rattle.iox_wire_locals.specs.BeginLaws.{Counts}
use Rattle.iox_wire_locals.specs.Doings.{outcome_of}
use Rattle.iox_wire_locals.specs.Laws.{HasSmallId}
use Rattle.iox_wire_locals.specs.Locals.{program_of}
use Rattle.iox_wire_locals.specs.Settlements.{reply_of}
use Rattle.iox_wire_locals.specs.Steps.{ending_at, closed}
use Rattle.iox_wire_locals.specs.Tables.{Setting}
use Rattle.iox_wire_laws.specs.WireKeeping.Readiness.{ShowsDoing}
use Rattle.iox_wire_laws.specs.WireKeeping.Shows.{programs_of}
use Rattle.iox_wire_laws.specs.WireKeeping.StepBeats.{ShowsNode}
use Rattle.iox_wire_laws.proofs.WireKeeping.CountsKept.{no_port, agree}
use Rattle.iox_wire_laws.proofs.WireKeeping.EndBeats.{ends_are_beats}
use Rattle.iox_wire_laws.proofs.WireKeeping.Frames.{Frame, settled_frame}
use Rattle.iox_wire_laws.proofs.WireKeeping.OthersKept.{others_keep_counts}
use Rattle.iox_wire_laws.specs.WireShows.EndsShow.{EndsShowTheWorld}
use Rattle.iox_wire_laws.proofs.WireShows.NextPrograms.{words_same}
use Rattle.iox_wire_laws.proofs.WireShows.StepsShow.{seat_put}

-- only ports and limits decide what suits
suits_same : (l : WireLayout) (f g : Fixed) → g.ports ≡ f.ports → g.limits ≡ f.limits → Suits l f → Suits l g
suits_same l f g ports limits suits = record {
  buffer = λ y way.
      suits.buffer y way ∙ sym (ap (λ (m : Limits). buffer_of m (role_at g y.sender)) limits ∙ ap (buffer_of f.limits) (role y));
  kind = λ y way.
      suits.kind y way
      ∙ ap (λ (b : Bool). if b then Overflowing else Index)
      (sym (ap (λ (m : Limits). overflow_of m (role_at g y.sender)) limits ∙ ap (overflow_of f.limits) (role y)));
  returning = suits.returning;
}
  where
    role : (y : Way) → role_at g y.sender ≡ role_at f y.sender
    role y = ap (λ (ports : List Port). option_map_or (λ (q : Port). q.role) (find (λ q. q.number == y.sender) ports) Client) ports

-- who lives is told only by the members
living_by : (s t : State) → s.members ≡ t.members → (k : ℕ) → not_living s k ≡ not_living t k
living_by s t members k = ap (λ m. not_living (record s { members = m }) k) members

-- a call that has no access left runs nothing
rests : (p : Setting) (local : Local) (ending : Ending) → ending_at local ≡ Some ending → program_of p local ≡ Rests
rests p (locals.Ends e) ending is = refl
rests p (locals.SendEnds d last count) ending is = refl
rests p local ending is = none-some ending is

pub ends_show_the_world : EndsShowTheWorld
ends_show_the_world p held word c seats w n ending payload shows living is knows relies holds =
    let x : Seat = seats n in let y : Seat = closed p x (Some ending) in
    let here : x.node ≡ n = shows.node n in
    let has : Counts p x w.state held = shows.counts n living in
    let o : Outcome = outcome_of p held x.node ending in
    let u : World = over w x.node payload o in
    let ended : IsBeat w (Ends x.node (reply_of p x ending) payload) u × Counts p y u.state held × ShowsNode p held c u y
    = ends_are_beats p held word c seats w n ending payload shows living is knows relies holds in
    let same : Same w.state (settled w.state x.node payload o) = settled_same w.state x.node payload o has.on_wire in
    let frame : Frame w.state.fixed (settled w.state x.node payload o).fixed
    = settled_frame w.state x.node payload o has.on_wire (no_port p held x.node ending) in
    let lives : (k : ℕ) → not_living u.state k ≡ None → not_living w.state k ≡ None
    = λ k l. sym (living_by u.state w.state (settled-members w.state x.node payload o) k) ∙ l in
    let others : (k : ℕ) → (k == n) ≡ false → not_living u.state k ≡ None → Counts p (seats k) u.state held × ShowsDoing p held u (seats k)
    = λ k other l. others_keep_counts p held w u (Ends x.node (reply_of p x ending) payload) (seats k) shows.reachable ended.0
    (rw (shows.node k) (rw here other)) (shows.counts k (lives k l)) (shows.doing k (lives k l)) in (
      ended.0,
      record {
        reachable = beats_are_reachable w u (Ends x.node (reply_of p x ending) payload) shows.reachable ended.0;
        sized = shows.sized;
        suits = suits_same p.layout w.state.fixed u.state.fixed frame.1 frame.2 shows.suits;
        words =
            words_same p.layout word (programs_of p seats) (programs_of p (put_at seats n y)) c
            (seat_put (λ k z. program_of p (seats k).local ≡ program_of p z.local) seats n y (rests p x.local ending is) (λ k other. refl)) shows.words;
        ties = ended.2.1;
        states = ended.2.2;
        ids = λ v. subst (λ (f : Way → RequestState). HasSmallId (f v)) (sym same.request_state) (shows.ids v);
        node = seat_put (λ k z. z.node ≡ k) seats n y ((agree p x w.state held payload has ending).0 ∙ here) (λ k other. shows.node k);
        counts =
            seat_put (λ k z. not_living u.state k ≡ None → Counts p z u.state held) seats n y (λ l. ended.1) (λ k other l. (others k other l).0);
        doing =
            seat_put (λ k z. not_living u.state k ≡ None → ShowsDoing p held u z) seats n y (λ l. ended.2.0) (λ k other l. (others k other l).1);
      },
    )
