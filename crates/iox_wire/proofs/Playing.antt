-- Entries that are played one after another.
use Rattle.std.specs.Prelude.{Err, IfErr, IfOk, MatchOption, Ok, OnErr, OnOk, Result, max, not, option_map}
use Rattle.std.specs.Option.{option_map_or}
use Rattle.std.proofs.Common.{◌≡◌, ℕ, zero, suc, ◌+◌, ◌≤◌, nat_le, Bool, true, false, arith, length, take, List, [], ◌∷◌, ◌++◌, Option, Some, None, refl, ap, sym, subst, ◌∙◌, append-nil, append_assoc}
use Rattle.iox_laws.proofs.WeaveLedger.Truths.{none-some}
use Rattle.iox_model.specs.Commands.{Call, Refusal, WireCall}
use Rattle.iox_model.specs.Joins.{not_living}
use Rattle.iox_model.specs.Loans.{Choice}
use Rattle.iox_model.specs.Maps.{or_else, refused_if}
use Rattle.iox_model.specs.Schedules.{IsBeginOf, IsDeathOf, nothing}
use Rattle.iox_model.specs.WireCalls.{said_on_wire}
use Rattle.iox_model.specs.Weaves.{Beat, Begins, Dies, IsWeave, begin_refusal}
use Rattle.iox_model.specs.declared.call.WireCall.TheVariants.{Port}
use Rattle.iox_sets.specs.Refusals.{IsRefusal}
use Rattle.iox_steps.specs.declared.access.Progress.{Progress}
use Rattle.iox_wire_weaves.specs.Asking.{BeginIsWoven, BeginsCall, BeginsItsCall, IsBeginRefusal, asked_of}
use Rattle.iox_wire_weaves.specs.Begins.{is_busy, refusal_at}
use Rattle.iox_wire_weaves.specs.Calls.{call_in}
use Rattle.iox_wire_weaves.specs.NodeCall.{NodeCall}
use Rattle.iox_wire_weaves.specs.NodeReply.{NodeReply}
use Rattle.iox_wire_weaves.specs.Nodes.{seat_in}
use Rattle.iox_wire_weaves.specs.Runs.{GoesOnBy, Run}
use Rattle.iox_wire_weaves.specs.Steps.{DeathIsWoven, KeepsRead, KeepsReads, MakesItsAccess, MakesOneAccess, StepIsWoven, most_accesses, rest_refusal, step_refusal}
use Rattle.iox_wire_weaves.specs.Tables.{Setting}
use Rattle.iox_wire_weaves.specs.Wires.{Shows, WireData, WireNode, living_refusal, machine_refusal, node_at, refusal_in, seat_of}
use Rattle.iox_wire_weaves.specs.declared.refusal.WireRefusal.{WireRefusal}
use Rattle.iox_wire_weaves.specs.declared.refusal.WireRefusal.TheVariants.{AccessesSpent, AtRest, Busy, ForeignNumber, NodeIsDead, UnknownNode, UnknownNumber, WantOfMemory, WrongKind}
use Rattle.iox_wire_weaves.proofs.BeginsShown.{refusals_are_shown}
use Rattle.iox_wire_weaves.proofs.CallsSaid.{calls_are_said}
use Rattle.iox_wire_weaves.proofs.Lookups.{first_none, seat_there}
use Rattle.iox_wire.specs.Kept.{Loses}
use Rattle.iox_wire.specs.Replies.{words_call}
use Rattle.iox_wire.specs.Schedules.{AreEntered, IsAsked, IsDeclaredDead, IsEntered, EntriesArePlayed, IsStepped, IsWovenBy, EntryLeadsTo, WantsMemory}
use Rattle.iox_wire.specs.declared.entry.WireEntry.{WireEntry}
use Rattle.iox_wire.specs.declared.entry.WireEntry.TheVariants.{Begin, Die, Step}

-- ---- what is done, and what is refused

so_where : {R : Type 0} (A : Type 0) (B : R → Type 0) (o : Option R) → o ≡ None → A → MatchOption o A B
so_where {R} A B o none so = subst (λ (x : Option R). MatchOption x A B) (sym none) so

refused_where : {R : Type 0} (A : Type 0) (B : R → Type 0) (o : Option R) (r : R) → o ≡ Some r → B r → MatchOption o A B
refused_where {R} A B o r is so = subst (λ (x : Option R). MatchOption x A B) (sym is) so

-- the machine has the refusal
abbrev IsNamed : WireRefusal → Type 0
IsNamed refusal = machine_refusal refusal ≡ Some (refusal_in refusal)

-- why a living node makes no step, or a node is none that lives, the machine knows too
named_tests : (dead rests spent : Bool) (first : WireRefusal)
    → or_else (refused_if dead NodeIsDead) (or_else (refused_if rests AtRest) (refused_if spent AccessesSpent)) ≡ Some first → IsNamed first
named_tests true rests spent first is = subst IsNamed (let e : NodeIsDead ≡ first = cc in e) refl
named_tests false true spent first is = subst IsNamed (let e : AtRest ≡ first = cc in e) refl
named_tests false false true first is = subst IsNamed (let e : AccessesSpent ≡ first = cc in e) refl
named_tests false false false first is = cc

named_node : (o : Option WireNode) (first : WireRefusal)
    → or_else (option_map_or (λ x. refused_if (not x.alive) NodeIsDead) o (Some UnknownNode)) (option_map_or rest_refusal o None) ≡ Some first → IsNamed first
named_node None first is = subst IsNamed (let e : UnknownNode ≡ first = cc in e) refl
named_node (Some x) first is =
    named_tests (not x.alive) (not (is_busy (seat_in x.node).local)) (nat_le most_accesses (seat_in x.node).accesses) first is

step_named : (a : WireData) (n : ℕ) (first : WireRefusal) → step_refusal a n ≡ Some first → IsNamed first
step_named a n first is = named_node (node_at n a.nodes) first is

-- ---- what is known about a step

-- a refusal that the machine has is not for want of memory
by_state : (A B : Type 0) (o : Option WireRefusal) (refusal : WireRefusal) → IsRefusal WantOfMemory o refusal → IsNamed refusal → B → MatchOption o A (λ r. B)
by_state A B (Some first) refusal is named so = so
by_state A B None refusal is named so = absurd (let none : None ≡ Some (refusal_in WantOfMemory) = subst IsNamed is named in let no : ⊥ = cc in no)

pub step_told : (a b : WireData) (n : ℕ) (told : Result (Progress NodeReply) WireRefusal) (want : Result (Unit {0}) WireRefusal) → OnOk told (MakesItsAccess a n b)
    → IfOk told (λ progress. StepIsWoven a n progress b) → IfOk told (λ progress. KeepsRead a n progress b) → OnOk told (step_refusal a n ≡ None)
    → IfErr told (IsRefusal WantOfMemory (step_refusal a n)) → OnErr told (b ≡ a)
    → OnOk want (IfErr told (λ refusal. machine_refusal refusal ≡ Some (refusal_in refusal))) → OnOk want (IsStepped a n b)
step_told a b n (Ok progress) (Ok none) access woven read allowed refused same named = so_where _ _ (step_refusal a n) allowed (access, (progress, woven, read))
step_told a b n (Err refusal) (Ok none) access woven read allowed refused same named = by_state _ _ (step_refusal a n) refusal refused named same
step_told a b n told (Err want) access woven read allowed refused same named = tt

-- want of memory is told where nothing refuses the step
by_memory : (a : WireData) (n : ℕ) (o : Option WireRefusal) (refusal : WireRefusal) → step_refusal a n ≡ o → IsRefusal WantOfMemory o refusal
    → machine_refusal refusal ≡ None → step_refusal a n ≡ None
by_memory a n None refusal is first left = is
by_memory a n (Some other) refusal is first left =
    absurd (let named : machine_refusal other ≡ Some (refusal_in other) = step_named a n other is in
    let none : machine_refusal other ≡ None = ap machine_refusal (sym first) ∙ left in let no : ⊥ = cc in no)

pub step_allowed : (a : WireData) (n : ℕ) (told : Result (Progress NodeReply) WireRefusal) (want : Result (Unit {0}) WireRefusal)
    → IfErr told (IsRefusal WantOfMemory (step_refusal a n)) → OnErr want (IfOk told (λ done. ⊥))
    → OnErr want (IfErr told (λ refusal. machine_refusal refusal ≡ None)) → OnErr want (step_refusal a n ≡ None)
step_allowed a n told (Ok none) refused wants left = tt
step_allowed a n (Ok progress) (Err want) refused wants left = absurd wants
step_allowed a n (Err refusal) (Err want) refused wants left = by_memory a n (step_refusal a n) refusal refl refused left

-- where it is, there was no room left
pub step_full : (a : WireData) (told : Result (Progress NodeReply) WireRefusal) (want : Result (Unit {0}) WireRefusal)
    → IfErr told (λ refusal. refusal ≡ WantOfMemory → a.room ≡ 0) → OnErr want (IfOk told (λ done. ⊥))
    → OnErr want (IfErr told (λ refusal. refusal ≡ WantOfMemory)) → OnErr want (a.room ≡ 0)
step_full a told (Ok none) full wants memory = tt
step_full a (Ok progress) (Err want) full wants memory = absurd wants
step_full a (Err refusal) (Err want) full wants memory = full memory

-- a step takes room for one
pub step_room : (a b : WireData) (told : Result (Progress NodeReply) WireRefusal) → OnOk told (b.room + 1 ≡ max a.room 1) → OnErr told (b ≡ a) → a.room ≤ b.room + 1
step_room a b (Ok progress) took same = one a.room b.room took
  where
    one : (n m : ℕ) → m + 1 ≡ max n 1 → n ≤ m + 1
    one n m is = omega (arith, is)
step_room a b (Err refusal) took same = let e : b.room ≡ a.room = ap (λ (w : WireData). w.room) same in more a.room b.room e
  where
    more : (n m : ℕ) → m ≡ n → n ≤ m + 1
    more n m is = omega (arith, is)

-- what is known about a call that is not made is a refusal
pub left_told : {A : Type 0} (P : Type 0) (told : Result A WireRefusal) (want : Result (Unit {0}) WireRefusal) → OnErr told P → OnErr want (IfOk told (λ done. ⊥)) → OnErr want P
left_told P told (Ok none) left wants = tt
left_told P (Ok done) (Err want) left wants = absurd wants
left_told P (Err refusal) (Err want) left wants = left

-- ---- what is known about a begin

begin_asked : (a b : WireData) (n : ℕ) (call : NodeCall) → BeginsItsCall a n call b → BeginIsWoven a n call b → KeepsReads a b → IsAsked a n call b
begin_asked a b n call begun woven reads = (
  reads,
  λ p r shows. let w = woven p r shows in so_where _ _ (begin_refusal r.last n (asked_of r n call)) w.2.beat.0 (begun p r shows, w),
)

begin_passed : (a b : WireData) (n : ℕ) (call : NodeCall) (refusal : WireRefusal) → IsBeginRefusal a n call refusal → IsNamed refusal → b ≡ a
    → KeepsReads a b → IsAsked a n call b
begin_passed a b n call refusal refused named left reads = (
  reads,
  λ p r shows. refused_where _ _ (begin_refusal r.last n (asked_of r n call)) (refusal_in refusal) (refused p r shows ∙ named) left,
)

-- all refusals but want of memory are the machine's
named_but : (refusal : WireRefusal) → (refusal ≡ WantOfMemory → ⊥) → IsNamed refusal
named_but UnknownNode never = refl
named_but NodeIsDead never = refl
named_but AtRest never = refl
named_but AccessesSpent never = refl
named_but Busy never = refl
named_but UnknownNumber never = refl
named_but ForeignNumber never = refl
named_but WrongKind never = refl
named_but WantOfMemory never = absurd (never refl)

pub begin_told : (a b : WireData) (n : ℕ) (call : NodeCall) (told : Result (Unit {0}) WireRefusal) → OnOk told (BeginsItsCall a n call b)
    → OnOk told (BeginIsWoven a n call b) → KeepsReads a b → IfErr told (IsBeginRefusal a n call) → OnErr told (b ≡ a)
    → IfErr told (λ refusal. refusal ≡ WantOfMemory → ⊥) → IsAsked a n call b
begin_told a b n call (Ok done) begun woven reads refused left never = begin_asked a b n call begun woven reads
begin_told a b n call (Err refusal) begun woven reads refused left never = begin_passed a b n call refusal refused (named_but refusal never) left reads

-- ---- and of a death

pub death_told : (a b : WireData) (n : ℕ) (told : Result (Unit {0}) WireRefusal) → OnOk told (DeathIsWoven a n b) → OnOk told (Loses a n b)
    → OnOk told (living_refusal a.nodes n ≡ None) → IfErr told (λ refusal. living_refusal a.nodes n ≡ Some refusal) → OnErr told (b ≡ a) → IsDeclaredDead a n b
death_told a b n (Ok done) woven lost alive refused same = so_where _ _ (living_refusal a.nodes n) alive (lost, woven)
death_told a b n (Err refusal) woven lost alive refused same = refused_where _ _ (living_refusal a.nodes n) refusal refused same

-- ---- what an entry does to a run

-- the run continues by beats to which the entry may lead, and the wire shows it
abbrev GoesOnIn : Setting → Run → WireEntry → WireData → Type 0
GoesOnIn p r e b =
    (bs : List Beat) × (after : Run) × EntryLeadsTo r.last e bs × IsWeave r.last bs after.last
    × (after.first ≡ r.first) × (after.beats ≡ r.beats ++ bs) × Shows p b after

-- the machine's call of what is asked where the machine does not refuse it
said_where : (a : WireData) (n : ℕ) (call : NodeCall) (p : Setting) (r : Run) → Shows p a r → begin_refusal r.last n (asked_of r n call) ≡ None
    → asked_of r n call ≡ said_on_wire r.last.state.fixed n (words_call call)
said_where a n call p r shows none = by_node (node_at n a.nodes) refl
  where
    alive : living_refusal a.nodes n ≡ None
    alive = by_living (living_refusal a.nodes n) refl
      where
        by_living : (o : Option WireRefusal) → living_refusal a.nodes n ≡ o → o ≡ None
        by_living None is = refl
        by_living (Some refusal) is =
            absurd (none-some (refusal_in refusal)
            (sym (first_none (not_living r.last.state n) _ none) ∙ shows.living n ∙ ap (option_map refusal_in) is))

    by_node : (o : Option WireNode) → node_at n a.nodes ≡ o → asked_of r n call ≡ said_on_wire r.last.state.fixed n (words_call call)
    by_node (Some x) there =
        let said_so = calls_are_said p a r n x call shows there in
        let own : Call = call_in p (seat_in x.node) call in
        ap (λ (k : Call). Port k)
        (said_so.1 alive
        (sym (refusals_are_shown p a r n own shows
        ∙ ap (λ o. or_else (option_map refusal_in o) (refusal_at p (seat_of p a.nodes n) (Port own))) alive
        ∙ ap (λ s. refusal_at p s (Port own)) (seat_there p a.nodes n x there)) ∙ sym said_so.0 ∙ none)).1
    by_node None there =
        absurd (none-some UnknownNode (sym (sym (ap (λ o. option_map_or (λ (x : WireNode). refused_if (not x.alive) NodeIsDead) o (Some UnknownNode)) there) ∙ alive)))

begin_goes : (a b : WireData) (n : ℕ) (call : NodeCall) (p : Setting) (r : Run) → Shows p a r → let asked : WireCall = asked_of r n call in
    (o : Option Refusal) → begin_refusal r.last n asked ≡ o
    → MatchOption o (BeginsCall p a n asked b × ((c : Choice) × (after : Run) × GoesOnBy r (Begins n asked c) after × Shows p b after)) (λ refusal. b ≡ a)
    → GoesOnIn p r (Begin n call) b
begin_goes a b n call p r shows None is so =
    let asked : WireCall = asked_of r n call in
    let s = so.1 in (
      Begins n asked s.0 ∷ [],
      s.1,
      subst (λ (o : Option Refusal). IsBeginOf o n (said_on_wire r.last.state.fixed n (words_call call)) (Begins n asked s.0 ∷ [])) (sym is)
          (s.0, ap (λ k. Begins n k s.0 ∷ []) (said_where a n call p r shows is)),
      (s.1.last, s.2.beat, refl),
      s.2.first,
      s.2.beats,
      s.3,
    )
begin_goes a b n call p r shows (Some refusal) is left = (
  [],
  r,
  subst (λ (o : Option Refusal). IsBeginOf o n (said_on_wire r.last.state.fixed n (words_call call)) []) (sym is) refl,
  refl,
  refl,
  sym (append-nil r.beats),
  subst (λ w. Shows p w r) (sym left) shows,
)

-- what a step that is not refused does
abbrev StepsSo : WireData → ℕ → WireData → Type 0
StepsSo a n b = MakesItsAccess a n b × ((progress : Progress NodeReply) × StepIsWoven a n progress b × KeepsRead a n progress b)

step_goes : (a b : WireData) (n : ℕ) (p : Setting) (r : Run) → Shows p a r → (o : Option WireRefusal)
    → MatchOption o (StepsSo a n b) (λ refusal. b ≡ a) → GoesOnIn p r (Step n) b
step_goes a b n p r shows None so = let s = so.1.1 p r shows in (s.beats, s.after, s.is_step, s.goes_on.woven, s.goes_on.first, s.goes_on.beats, s.shows)
step_goes a b n p r shows (Some refusal) same =
    ([], r, nothing, refl, refl, sym (append-nil r.beats), subst (λ w. Shows p w r) (sym same) shows)

death_goes : (a b : WireData) (n : ℕ) (p : Setting) (r : Run) → Shows p a r → (o : Option WireRefusal) → living_refusal a.nodes n ≡ o
    → MatchOption o (Loses a n b × DeathIsWoven a n b) (λ refusal. b ≡ a) → GoesOnIn p r (Die n) b
death_goes a b n p r shows None is so =
    let s = so.1 p r shows in
    let lives : not_living r.last.state n ≡ None = shows.living n ∙ ap (option_map refusal_in) is in (
      Dies n ∷ [],
      s.0,
      subst (λ (o : Option Refusal). IsDeathOf o n (Dies n ∷ [])) (sym lives) refl,
      (s.0.last, s.1.beat, refl),
      s.1.first,
      s.1.beats,
      s.2,
    )
death_goes a b n p r shows (Some refusal) is same =
    let dead : not_living r.last.state n ≡ Some (refusal_in refusal) = shows.living n ∙ ap (option_map refusal_in) is in (
      [],
      r,
      subst (λ (o : Option Refusal). IsDeathOf o n []) (sym dead) refl,
      refl,
      refl,
      sym (append-nil r.beats),
      subst (λ w. Shows p w r) (sym same) shows,
    )

entry_goes : (a b : WireData) (e : WireEntry) → IsEntered a e b → (p : Setting) (r : Run) → Shows p a r → GoesOnIn p r e b
entry_goes a b (Begin n call) asked p r shows =
    begin_goes a b n call p r shows (begin_refusal r.last n (asked_of r n call)) refl (asked.1 p r shows)
entry_goes a b (Step n) stepped p r shows = step_goes a b n p r shows (step_refusal a n) stepped
entry_goes a b (Die n) dead p r shows = death_goes a b n p r shows (living_refusal a.nodes n) refl dead

-- ---- one after another

pub woven_by : (a b : WireData) (es : List WireEntry) → AreEntered a es b → IsWovenBy a es b
woven_by a b [] same p r shows =
    ([], r, (refl, refl), refl, sym (append-nil r.beats), subst (λ w. Shows p w r) (sym same) shows)
woven_by a b (e ∷ es) entered p r shows =
    let f = entry_goes a entered.0 e entered.1 p r shows in
    let l = woven_by entered.0 b es entered.2 p f.1 f.6 in (
      f.0 ++ l.0,
      l.1,
      (f.0, l.0, f.1.last, refl, f.2, f.3, l.2),
      l.3 ∙ f.4,
      l.4 ∙ ap (λ bs. bs ++ l.0) f.5 ∙ append_assoc r.beats f.0 l.0,
      l.5,
    )

pub played : (a b : WireData) (es : List WireEntry) → AreEntered a es b → EntriesArePlayed a es b
played a b es entered = record { each = entered; woven = woven_by a b es entered }

pub one_more : (a b c : WireData) (es : List WireEntry) (e : WireEntry) → AreEntered a es b → IsEntered b e c → AreEntered a (es ++ e ∷ []) c
one_more a b c [] e same entered = (c, subst (λ w. IsEntered w e c) same entered, refl)
one_more a b c (x ∷ es) e first entered = (first.0, first.1, one_more first.0 b c es e first.2 entered)

-- ---- three steps

made_access : (a b : WireData) (n : ℕ) (o : Option WireRefusal)
    → MatchOption o (StepsSo a n b) (λ refusal. b ≡ a) → o ≡ None → MakesItsAccess a n b
made_access a b n None so none = so.0
made_access a b n (Some refusal) same none = absurd (let no : ⊥ = cc in no)

three_made : (a d : WireData) (n : ℕ) → AreEntered a (Step n ∷ Step n ∷ Step n ∷ []) d → (p : Setting) (r : Run) → Shows p a r
    → (b c : WireData) × (step_refusal a n ≡ None → MakesOneAccess p a n b) × (step_refusal b n ≡ None → MakesOneAccess p b n c)
    × (step_refusal c n ≡ None → MakesOneAccess p c n d)
three_made a d n entered p r shows =
    let b : WireData = entered.0 in
    let c : WireData = entered.2.0 in
    let first = step_goes a b n p r shows (step_refusal a n) entered.1 in
    let second = step_goes b c n p first.1 first.6 (step_refusal b n) entered.2.1 in (
      b,
      c,
      λ goes. made_access a b n (step_refusal a n) entered.1 goes p r shows,
      λ goes. made_access b c n (step_refusal b n) entered.2.1 goes p first.1 first.6,
      λ goes. subst (λ w. MakesOneAccess p c n w) (sym entered.2.2.2) (made_access c entered.2.2.0 n (step_refusal c n) entered.2.2.1 goes p second.1 second.6),
    )

pub three_told : (told : Result (Unit {0}) WireRefusal) (a d : WireData) (n : ℕ) → OnOk told (EntriesArePlayed a (Step n ∷ Step n ∷ Step n ∷ []) d)
    → (p : Setting) (r : Run) → Shows p a r
    → OnOk told ((b c : WireData) × (step_refusal a n ≡ None → MakesOneAccess p a n b) × (step_refusal b n ≡ None → MakesOneAccess p b n c)
    × (step_refusal c n ≡ None → MakesOneAccess p c n d))
three_told (Ok done) a d n played p r shows = three_made a d n played.each p r shows
three_told (Err refusal) a d n played p r shows = tt

-- ---- what was read

-- the begin of a call leaves the words of each node's last read
pub begin_kept : (told : Result (Unit {0}) WireRefusal) (a b : WireData) (n : ℕ) (call : NodeCall) → OnOk told (EntriesArePlayed a (Begin n call ∷ []) b)
    → OnOk told (KeepsReads a b)
begin_kept (Ok done) a b n call played = subst (λ w. KeepsReads a w) (sym played.each.2) played.each.1.0
begin_kept (Err refusal) a b n call played = tt

step_so : (a b : WireData) (n : ℕ) (o : Option WireRefusal) → o ≡ None → MatchOption o (StepsSo a n b) (λ refusal. b ≡ a) → StepsSo a n b
step_so a b n None none so = so
step_so a b n (Some refusal) none same = absurd (let no : ⊥ = cc in no)

-- a step that is not refused leaves the words of a read that it answers, or those of the read before
pub step_kept : (told : Result (Unit {0}) WireRefusal) (a b : WireData) (n : ℕ) → step_refusal a n ≡ None → OnOk told (EntriesArePlayed a (Step n ∷ []) b)
    → OnOk told ((progress : Progress NodeReply) × StepIsWoven a n progress b × KeepsRead a n progress b)
step_kept (Ok done) a b n goes played =
    subst (λ w. (progress : Progress NodeReply) × StepIsWoven a n progress w × KeepsRead a n progress w) (sym played.each.2)
    (step_so a played.each.0 n (step_refusal a n) goes played.each.1).1
step_kept (Err refusal) a b n goes played = tt

-- what wants memory leaves a wire that shows the runs that it showed
pub wants_shows : (e : WireEntry) (a b : WireData) → WantsMemory a e b → (p : Setting) (r : Run) → Shows p a r → Shows p b r
wants_shows (Begin n call) a b wants p r shows = absurd wants
wants_shows (Step n) a b wants p r shows = subst (λ w. Shows p w r) (sym wants.2) shows
wants_shows (Die n) a b wants p r shows = absurd wants

pub woven_on : (a b c : WireData) (es : List WireEntry) (e : WireEntry) → IsWovenBy a es b → WantsMemory b e c → IsWovenBy a es c
woven_on a b c es e woven wants p r shows =
    let w = woven p r shows in (w.0, w.1, w.2, w.3, w.4, wants_shows e b c wants p w.1 w.5)

pub so_on_err : {A E : Type 0} (told : Result A E) (P : Type 0) → P → OnErr told P
so_on_err (Ok done) P so = tt
so_on_err (Err refusal) P so = so

pub take_whole : {A : Type 0} (xs : List A) (i : ℕ) → length xs ≤ i → take i xs ≡ xs
take_whole [] zero low = refl
take_whole [] (suc i) low = refl
take_whole (x ∷ xs) zero low = absurd (omega (arith, low))
take_whole (x ∷ xs) (suc i) low = ap (λ ys. x ∷ ys) (take_whole xs i (omega (arith, low)))
