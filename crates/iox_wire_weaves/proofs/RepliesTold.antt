-- What finished calls and calls under way are after more beats.
use Rattle.std.specs.Prelude.{option_map}
use Rattle.std.specs.Option.{option_map_or}
use Rattle.std.proofs.Common.{◌≡◌, ℕ, ◌+◌, suc, false, if◌then◌else◌, ◌==◌, List, [], ◌∷◌, ◌++◌, append-nil, length, map, Option, None, Some, refl, ap, ap₂, sym, ◌∙◌, arith}
use Rattle.std.proofs.lemmas.List.{length-append, length-map, map-append}
use Rattle.iox_model.specs.declared.event.Event.{Event}
use Rattle.iox_model.specs.Commands.{Reply, WireCall}
use Rattle.iox_model.specs.Loans.{Choice}
use Rattle.iox_model.specs.Maps.{put_at}
use Rattle.iox_model.specs.Moments.{Moment, event_of}
use Rattle.iox_model.specs.Schedules.{Finished, UnderWay, events_of, finish, finished_from, moments_of, replies_of}
use Rattle.iox_model.specs.WireCalls.{in_wire_words}
use Rattle.iox_model.specs.Weaves.{Beat, Begins, Dies, Ends, Makes}
use Rattle.iox_laws.proofs.WeaveLaws.MapLemmas.{eqb-refl}
use Rattle.iox_wire_nodes.specs.declared.call_at.NodeReply.{NodeReply}
use Rattle.iox_wire_nodes.specs.Nodes.{reply_in}
use Rattle.iox_wire_needs.specs.WholeSteps.{step_beats}
use Rattle.iox_wire_weaves.specs.Replies.{call_within, died_after, died_from, finished_within, under_way, under_way_from, under_way_within}
use Rattle.iox_wire_weaves.specs.Laws.{LivesAs}
use Rattle.iox_wire_weaves.specs.Steps.{call_after, finished_by}
use Rattle.iox_wire_weaves.specs.Wires.{KeepsItsCall, WireNode}
use Rattle.iox_wire_weaves.proofs.EventsTold.{moments_on}

-- ---- more beats

abbrev moments : List Beat → ℕ
moments bs = length (moments_of bs)

-- one more moment comes first
next_moment : (e k : ℕ) → (e + 1) + k ≡ e + suc k
next_moment e k = omega arith

no_moment : (e : ℕ) → e ≡ e + 0
no_moment e = omega arith

finish_on : (u : Option UnderWay) (n : ℕ) (r : Reply) (e : ℕ) (xs ys : List Finished) → finish u n r e (xs ++ ys) ≡ finish u n r e xs ++ ys
finish_on None n r e xs ys = refl
finish_on (Some u) n r e xs ys = refl

finished_on : (e : ℕ) (u : ℕ → Option UnderWay) (bs cs : List Beat)
    → finished_from e u (bs ++ cs) ≡ finished_from e u bs ++ finished_from (e + moments bs) (under_way_from e u bs) cs
finished_on e u [] cs = ap (λ k. finished_from k u cs) (no_moment e)
finished_on e u (Begins node call c ∷ bs) cs = finished_on e (put_at u node (Some (record { call = in_wire_words call; begun = e }))) bs cs
finished_on e u (Makes node m ∷ bs) cs =
    finished_on (e + 1) u bs cs
    ∙ ap (λ k. finished_from (e + 1) u bs ++ finished_from k (under_way_from (e + 1) u bs) cs) (next_moment e (moments bs))
finished_on e u (Ends node reply payload ∷ bs) cs =
    ap (finish (u node) node reply e) (finished_on e (put_at u node None) bs cs)
    ∙ finish_on (u node) node reply e (finished_from e (put_at u node None) bs) (finished_from (e + moments bs) (under_way_from e (put_at u node None) bs) cs)
finished_on e u (Dies node ∷ bs) cs = finished_on e u bs cs

under_on : (e : ℕ) (u : ℕ → Option UnderWay) (bs cs : List Beat) → under_way_from e u (bs ++ cs) ≡ under_way_from (e + moments bs) (under_way_from e u bs) cs
under_on e u [] cs = ap (λ k. under_way_from k u cs) (no_moment e)
under_on e u (Begins node call c ∷ bs) cs = under_on e (put_at u node (Some (record { call = in_wire_words call; begun = e }))) bs cs
under_on e u (Makes node m ∷ bs) cs =
    under_on (e + 1) u bs cs ∙ ap (λ k. under_way_from k (under_way_from (e + 1) u bs) cs) (next_moment e (moments bs))
under_on e u (Ends node reply payload ∷ bs) cs = under_on e (put_at u node None) bs cs
under_on e u (Dies node ∷ bs) cs = under_on e u bs cs

no_moment_first : (e : ℕ) → 0 + e ≡ e
no_moment_first e = omega arith

replies_on : (bs cs : List Beat) → replies_of (bs ++ cs) ≡ replies_of bs ++ finished_from (moments bs) (under_way bs) cs
replies_on bs cs =
    finished_on 0 (λ k. None) bs cs ∙ ap (λ k. replies_of bs ++ finished_from k (under_way bs) cs) (no_moment_first (moments bs))

under_way_on : (bs cs : List Beat) (k : ℕ) → under_way (bs ++ cs) k ≡ under_way_from (moments bs) (under_way bs) cs k
under_way_on bs cs k = ap (λ f. f k) (under_on 0 (λ j. None) bs cs ∙ ap (λ e. under_way_from e (under_way bs) cs) (no_moment_first (moments bs)))

-- ---- a step

-- the call of the node is over, if it is
abbrev ended : ℕ → Option UnderWay → ℕ → Option Reply → List Finished
ended e u n None = []
ended e u n (Some reply) = finish u n reply e []

step_finishes : (n : ℕ) (payload : List ℕ) (m : Option Moment) (told : Option Reply) (e : ℕ) (u : ℕ → Option UnderWay)
    → finished_from e u (step_beats n payload m told) ≡ ended (e + moments (step_beats n payload m told)) (u n) n told
step_finishes n payload None None e u = refl
step_finishes n payload (Some m) None e u = refl
step_finishes n payload None (Some reply) e u = ap (λ k. finish (u n) n reply k []) (no_moment e)
step_finishes n payload (Some m) (Some reply) e u = refl

-- those that are kept
kept_ended : (most n e : ℕ) (u : Option UnderWay) (x : WireNode) (words : List ℕ) (reply : Option NodeReply)
    → x.call ≡ option_map (under_way_within most) u → finished_by n x words e reply ≡ map (finished_within most) (ended e u n (option_map (reply_in words) reply))
kept_ended most n e u x words None call = refl
kept_ended most n e u x words (Some reply) call =
    ap (λ c. finish c n (reply_in words reply) e []) call ∙ by_call u
  where
    by_call : (v : Option UnderWay)
        → finish (option_map (under_way_within most) v) n (reply_in words reply) e []
        ≡ map (finished_within most) (finish v n (reply_in words reply) e [])
    by_call None = refl
    by_call (Some v) = refl

pub step_replies : (most n : ℕ) (bs : List Beat) (payload : List ℕ) (m : Option Moment) (told : Option Reply) (x : WireNode) (words : List ℕ) (reply : Option NodeReply)
    (events : List (ℕ × Event))
    → KeepsItsCall most bs n x → told ≡ option_map (reply_in words) reply → events ≡ events_of (bs ++ step_beats n payload m told)
    → map (finished_within most) (replies_of bs) ++ finished_by n x words (length events) reply
    ≡ map (finished_within most) (replies_of (bs ++ step_beats n payload m told))
step_replies most n bs payload m told x words reply events keeps same is =
    ap (λ es. map (finished_within most) (replies_of bs) ++ es)
    (kept_ended most n (length events) (under_way bs n) x words reply keeps.call
    ∙ ap₂ (λ k t. map (finished_within most) (ended k (under_way bs n) n t)) count (sym same)
    ∙ ap (map (finished_within most)) (sym (step_finishes n payload m told (moments bs) (under_way bs))))
    ∙ sym (map-append (finished_within most) (replies_of bs) (finished_from (moments bs) (under_way bs) (step_beats n payload m told)))
    ∙ ap (map (finished_within most)) (sym (replies_on bs (step_beats n payload m told)))
  where
    count : length events ≡ moments bs + moments (step_beats n payload m told)
    count =
        ap length is ∙ length-map (moments_of (bs ++ step_beats n payload m told)) (λ (e : ℕ × Moment). (e.0, event_of e.1))
        ∙ ap length (moments_on bs (step_beats n payload m told)) ∙ length-append (moments_of bs) (moments_of (step_beats n payload m told))

-- ---- a begin, and a death

pub begin_replies : (bs : List Beat) (b : Beat) → ((e : ℕ) (u : ℕ → Option UnderWay) → finished_from e u (b ∷ []) ≡ []) → replies_of (bs ++ b ∷ []) ≡ replies_of bs
begin_replies bs b none =
    replies_on bs (b ∷ []) ∙ ap (λ es. replies_of bs ++ es) (none (moments bs) (under_way bs)) ∙ append-nil (replies_of bs)

-- ---- deaths

died_on : (e : ℕ) (d : ℕ → Option ℕ) (bs cs : List Beat) → died_from e d (bs ++ cs) ≡ died_from (e + moments bs) (died_from e d bs) cs
died_on e d [] cs = ap (λ k. died_from k d cs) (no_moment e)
died_on e d (Begins node call c ∷ bs) cs = died_on e d bs cs
died_on e d (Makes node m ∷ bs) cs =
    died_on (e + 1) d bs cs ∙ ap (λ k. died_from k (died_from (e + 1) d bs) cs) (next_moment e (moments bs))
died_on e d (Ends node reply payload ∷ bs) cs = died_on e d bs cs
died_on e d (Dies node ∷ bs) cs = died_on e (put_at d node (Some e)) bs cs

died_after_on : (bs cs : List Beat) (k : ℕ) → died_after (bs ++ cs) k ≡ died_from (moments bs) (died_after bs) cs k
died_after_on bs cs k = ap (λ f. f k) (died_on 0 (λ j. None) bs cs ∙ ap (λ e. died_from e (died_after bs) cs) (no_moment_first (moments bs)))

-- ---- what nodes keep

at_place : {A : Type 0} (f : ℕ → A) (n : ℕ) (a : A) → put_at f n a n ≡ a
at_place f n a = ap (λ b. if b then a else f n) (eqb-refl n)

elsewhere : {A : Type 0} (f : ℕ → A) (n : ℕ) (a : A) (m : ℕ) → (m == n) ≡ false → put_at f n a m ≡ f m
elsewhere f n a m other = ap (λ b. if b then a else f m) other

-- so many events are as many moments
counted : (bs : List Beat) (events : List (ℕ × Event)) → events ≡ events_of bs → length events ≡ moments bs
counted bs events is = ap length is ∙ length-map (moments_of bs) (λ (e : ℕ × Moment). (e.0, event_of e.1))

-- what a node keeps it keeps where its call and its death are the same
still : (most : ℕ) (bs cs : List Beat) (k : ℕ) (x y : WireNode) → KeepsItsCall most bs k x → y.longest ≡ x.longest → y.call ≡ x.call → y.died ≡ x.died
    → under_way (bs ++ cs) k ≡ under_way bs k → died_after (bs ++ cs) k ≡ died_after bs k → KeepsItsCall most (bs ++ cs) k y
still most bs cs k x y keeps longest call died same alike = record {
  room = longest ∙ keeps.room;
  call = call ∙ keeps.call ∙ ap (option_map (under_way_within most)) (sym same);
  died = died ∙ keeps.died ∙ sym alike;
}

-- ---- a step

step_under : (n : ℕ) (payload : List ℕ) (m : Option Moment) (told : Option Reply) (e : ℕ) (u : ℕ → Option UnderWay) (k : ℕ)
    → under_way_from e u (step_beats n payload m told) k ≡ option_map_or (λ r. put_at u n None k) told (u k)
step_under n payload None None e u k = refl
step_under n payload (Some m) None e u k = refl
step_under n payload None (Some reply) e u k = refl
step_under n payload (Some m) (Some reply) e u k = refl

step_died : (n : ℕ) (payload : List ℕ) (m : Option Moment) (told : Option Reply) (e : ℕ) (d : ℕ → Option ℕ) (k : ℕ)
    → died_from e d (step_beats n payload m told) k ≡ d k
step_died n payload None None e d k = refl
step_died n payload (Some m) None e d k = refl
step_died n payload None (Some reply) e d k = refl
step_died n payload (Some m) (Some reply) e d k = refl

module _ (most n : ℕ) (bs : List Beat) (payload : List ℕ) (m : Option Moment) (told : Option Reply) where
  abbrev beats_now : List Beat
  beats_now = step_beats n payload m told

  dead_as_before : (k : ℕ) → died_after (bs ++ step_beats n payload m told) k ≡ died_after bs k
  dead_as_before k = died_after_on bs beats_now k ∙ step_died n payload m told (moments bs) (died_after bs) k

  pub step_keeps_others : (k : ℕ) (z : WireNode) → (k == n) ≡ false → KeepsItsCall most bs k z → KeepsItsCall most (bs ++ step_beats n payload m told) k z
  step_keeps_others k z other keeps =
      still most bs beats_now k z z keeps refl refl refl
      (under_way_on bs beats_now k ∙ step_under n payload m told (moments bs) (under_way bs) k ∙ by_reply told) (dead_as_before k)
    where
      by_reply : (o : Option Reply) → option_map_or (λ r. put_at (under_way bs) n None k) o (under_way bs k) ≡ under_way bs k
      by_reply None = refl
      by_reply (Some r) = elsewhere (under_way bs) n None k other

  pub step_keeps_own : (x y : WireNode) (words : List ℕ) (reply : Option NodeReply) → KeepsItsCall most bs n x → told ≡ option_map (reply_in words) reply
      → LivesAs x y → y.call ≡ call_after x.call reply → KeepsItsCall most (bs ++ step_beats n payload m told) n y
  step_keeps_own x y words reply keeps same lives call = record {
    room = lives.longest ∙ keeps.room;
    call = call ∙ by_reply reply
        ∙ ap (λ t. option_map (under_way_within most) (option_map_or (λ r. put_at (under_way bs) n None n) t (under_way bs n))) (sym same)
        ∙ ap (option_map (under_way_within most)) (sym (under_way_on bs beats_now n ∙ step_under n payload m told (moments bs) (under_way bs) n));
    died = lives.died ∙ keeps.died ∙ sym (dead_as_before n);
  }
    where
      by_reply : (o : Option NodeReply)
          → call_after x.call o
          ≡ option_map (under_way_within most) (option_map_or (λ r. put_at (under_way bs) n None n) (option_map (reply_in words) o) (under_way bs n))
      by_reply None = keeps.call
      by_reply (Some a) = ap (option_map (under_way_within most)) (sym (at_place (under_way bs) n None))

-- ---- a begin

module _ (most n : ℕ) (bs : List Beat) (call : WireCall) (c : Choice) where
  pub begin_keeps_others : (k : ℕ) (z : WireNode) → (k == n) ≡ false → KeepsItsCall most bs k z → KeepsItsCall most (bs ++ Begins n call c ∷ []) k z
  begin_keeps_others k z other keeps =
      still most bs (Begins n call c ∷ []) k z z keeps refl refl refl
      (under_way_on bs (Begins n call c ∷ []) k ∙ elsewhere (under_way bs) n (Some (record { call = in_wire_words call; begun = moments bs })) k other)
      (died_after_on bs (Begins n call c ∷ []) k)

  pub begin_keeps_own : (x y : WireNode) (events : List (ℕ × Event)) → KeepsItsCall most bs n x → events ≡ events_of bs → LivesAs x y
      → y.call ≡ Some (record { call = call_within x.longest (in_wire_words call); begun = length events })
      → KeepsItsCall most (bs ++ Begins n call c ∷ []) n y
  begin_keeps_own x y events keeps is lives begun = record {
    room = lives.longest ∙ keeps.room;
    call = begun
        ∙ ap₂ (λ k e. Some (record { call = call_within k (in_wire_words call); begun = e })) keeps.room (counted bs events is)
        ∙ ap (option_map (under_way_within most))
        (sym (under_way_on bs (Begins n call c ∷ []) n ∙ at_place (under_way bs) n (Some (record { call = in_wire_words call; begun = moments bs }))));
    died = lives.died ∙ keeps.died ∙ sym (died_after_on bs (Begins n call c ∷ []) n);
  }

-- ---- a death

module _ (most n : ℕ) (bs : List Beat) where
  pub death_keeps_others : (k : ℕ) (z : WireNode) → (k == n) ≡ false → KeepsItsCall most bs k z → KeepsItsCall most (bs ++ Dies n ∷ []) k z
  death_keeps_others k z other keeps =
      still most bs (Dies n ∷ []) k z z keeps refl refl refl (under_way_on bs (Dies n ∷ []) k)
      (died_after_on bs (Dies n ∷ []) k ∙ elsewhere (died_after bs) n (Some (moments bs)) k other)

  pub death_keeps_own : (x : WireNode) (events : List (ℕ × Event)) → KeepsItsCall most bs n x → events ≡ events_of bs
      → KeepsItsCall most (bs ++ Dies n ∷ []) n (record x { alive = false; died = Some (length events) })
  death_keeps_own x events keeps is = record {
    room = keeps.room;
    call = keeps.call ∙ ap (option_map (under_way_within most)) (sym (under_way_on bs (Dies n ∷ []) n));
    died = ap Some (counted bs events is) ∙ sym (died_after_on bs (Dies n ∷ []) n ∙ at_place (died_after bs) n (Some (moments bs)));
  }
