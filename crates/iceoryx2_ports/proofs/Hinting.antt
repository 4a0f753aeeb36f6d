-- A hint leaves the ways as they are, and what receivers have: nothing comes, and who had room has it.
use Rattle.std.specs.Prelude.{◌≡◌, ℕ, List, [], ◌∷◌, Option, None, Some, refl}
use Rattle.std.specs.Option.{option_map_or}
use Rattle.std.proofs.Common.{sym, subst, ◌∙◌}
use Rattle.iox_model.specs.declared.call.Call.TheVariants.{SetHint}
use Rattle.iox_model.specs.declared.reply.Refusal.TheVariants.{UnknownNumber}
use Rattle.iox_model.specs.declared.way.Way.{Way}
use Rattle.iox_model.specs.Begins.{begins_at, start}
use Rattle.iox_model.specs.Commands.{Refusal, Reply}
use Rattle.iox_model.specs.Counts.{called, with_fixed}
use Rattle.iox_model.specs.Doings.{refused, Doing, Ended, Hinting, Outcome, Tells}
use Rattle.iox_model.specs.Ends.{is_nothing, settled}
use Rattle.iox_model.specs.Handles.{Subject, TheHandle, ThePort, subject}
use Rattle.iox_model.specs.Loans.{Choice}
use Rattle.iox_model.specs.Looks.{hinting}
use Rattle.iox_model.specs.Maps.{without_way}
use Rattle.iox_model.specs.Moments.{Hint, Look, Moment, moved}
use Rattle.iox_model.specs.Names.{misnamed}
use Rattle.iox_model.specs.Releases.{states_of}
use Rattle.iox_model.specs.States.{Fixed, Handle, State}
use Rattle.iox_model.specs.Transitions.{ends, next}
use Rattle.iox_model.specs.WholeCalls.{IsDone, IsWholeCall, MayCome, UnlessRefused, left_by, moved_by, spent}
use Rattle.iox_laws.proofs.WeaveLaws.MapLemmas.{either}
use Rattle.iox_laws.proofs.WeaveLaws.WholeLemmas.{moved_by-fixed, some-is}
use Rattle.iox_laws.proofs.WeaveLedger.Truths.{none-some}
use Rattle.iox_tables.specs.HubStates.States.{Given}
use Rattle.iox_hub_laws.specs.Hubs.{HubState, nothing_given, state_of_hub}
use Rattle.iox_hub_laws.specs.Sends.{NothingComes}
use Rattle.iox_hub_laws.specs.Shown.{shown}
use Rattle.iox_hub_laws.proofs.BringsOnly.{nothing_comes}
use Rattle.iceoryx2_ports.specs.Reaching.{KeepsRoom}
use Rattle.iceoryx2_ports.proofs.Reaching.{room_stays}
use Rattle.iceoryx2_ports.proofs.Resting.{HaveAsBefore, RestsSo, have_same}

-- the end only tells
abbrev OnlyTells : Outcome → Type 0
OnlyTells (Tells reply) = Unit {0}
OnlyTells o = ⊥

-- hints are set, or all of them are
abbrev IsHinting : Doing → Type 0
IsHinting (Ended o) = OnlyTells o
IsHinting (Hinting h left) = Unit {0}
IsHinting d = ⊥

hinting_is : (h : Handle) (left : List Way) → IsHinting (hinting h left)
hinting_is h [] = tt
hinting_is h (w ∷ left) = tt

begins_hinting : (s : State) (c : Choice) (n : ℕ) (x : Option Subject) → IsHinting (option_map_or (begins_at s c (SetHint n)) x (refused UnknownNumber))
begins_hinting s c n None = tt
begins_hinting s c n (Some (ThePort p)) = tt
begins_hinting s c n (Some (TheHandle h)) = hinting_is h (states_of s.fixed h)

-- no moment of a hint puts or takes a message
abbrev StillHints : State → State → Doing → Type 0
StillHints s t d = IsHinting d × ((w : Way) → t.waiting w ≡ s.waiting w)

next_hints : (s : State) (node : ℕ) (d : Doing) (m : Moment) → IsHinting d → (next s node d m).condition → StillHints s (moved s m) (next s node d m).after
next_hints s node (Hinting h left) (Hint w id) p c = (hinting_is h (without_way w left), λ v. refl)
next_hints s node (Hinting h left) (Look w q) p c = (hinting_is h (without_way w left), λ v. refl)
next_hints s node (Hinting h left) m p c = absurd c
next_hints s node (Ended o) m p c = absurd c
next_hints s node d m p c = absurd p

by_hints : (s : State) (node : ℕ) (d : Doing) (ms : List Moment) → IsHinting d → MayCome s node d ms → StillHints s (moved_by s ms) (left_by s node d ms)
by_hints s node d [] p may = (p, λ w. refl)
by_hints s node d (m ∷ ms) p may =
    let first : StillHints s (moved s m) (next s node d m).after = next_hints s node d m p may.1 in
    let rest : StillHints (moved s m) (moved_by s (m ∷ ms)) (left_by s node d (m ∷ ms)) = by_hints (moved s m) node (next s node d m).after ms first.0 may.2 in
    (rest.0, λ w. rest.1 w ∙ first.1 w)

-- ---- the whole call

ended_tells : (s : State) (d : Doing) (o : Outcome) → IsHinting d → ends s d ≡ Some o → OnlyTells o
ended_tells s (Ended a) o p e = subst OnlyTells (some-is a o e) p
ended_tells s (Hinting h left) o p e = none-some o e
ended_tells s d o p e = absurd p

settled_tells : (s : State) (node : ℕ) (payload : List ℕ) (o : Outcome) → OnlyTells o → RestsSo s (settled s node payload o)
settled_tells s node payload (Tells reply) p =
    either (RestsSo s) (is_nothing reply) (with_fixed s (called s.fixed)) s
    (λ u. record { fixed = record { limits = refl; ports = refl; borrowed = refl }; waiting = λ w. refl })
    (λ u. record { fixed = have_same s.fixed; waiting = λ w. refl })
settled_tells s node payload o p = absurd p

module _ (s t : State) (node n : ℕ) (reply : Reply) where
  done_hints : IsDone s node (SetHint n) reply t → RestsSo s t
  done_hints done =
      let d : Doing = start s node done.0 (SetHint n) in
      let u : State = moved_by s done.2 in
      let q : StillHints s u (left_by s node d done.2) = by_hints s node d done.2 (begins_hinting s done.0 n (subject s.fixed node n)) done.3 in
      let r : RestsSo u (settled u node done.6 done.4) = settled_tells u node done.6 done.4 (ended_tells u (left_by s node d done.2) done.4 q.0 done.5) in
      let f : HaveAsBefore s.fixed (settled u node done.6 done.4).fixed
      = subst (λ (g : Fixed). HaveAsBefore g (settled u node done.6 done.4).fixed) (moved_by-fixed s done.2) r.fixed in
      subst (RestsSo s) (sym done.9) (record { fixed = f; waiting = λ w. r.waiting w ∙ q.1 w })

  unless_hints : (q : Option Refusal) (P : Type 0) → (P → RestsSo s t) → UnlessRefused q s reply t P → RestsSo s t
  unless_hints (Some r) P f p = subst (RestsSo s) (sym p.1) (record { fixed = have_same s.fixed; waiting = λ w. refl })
  unless_hints None P f p = f p

  whole_hints : IsWholeCall s node (SetHint n) reply t → RestsSo s t
  whole_hints =
      unless_hints (misnamed s.fixed node (SetHint n)) (UnlessRefused (spent s.fixed (SetHint n)) s reply t (IsDone s node (SetHint n) reply t))
      (unless_hints (spent s.fixed (SetHint n)) (IsDone s node (SetHint n) reply t) done_hints)

-- ---- of a hub

module _ (old new : HubState) (node n : ℕ) (reply : Reply) (whole : (x : Given) → IsWholeCall (state_of_hub x old) node (SetHint n) reply (state_of_hub x new)) where
  pub hint_keeps_room : KeepsRoom old new
  hint_keeps_room = room_stays old new (whole_hints (shown old) (shown new) node n reply (whole (nothing_given old)))

  pub hint_brings_nothing : NothingComes old new
  hint_brings_nothing = nothing_comes old new node (SetHint n) reply (λ f lane. refl) whole
