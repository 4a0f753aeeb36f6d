-- How far commands were answered, one after another.
use Rattle.std.specs.Prelude.{◌≡◌, ℕ, ◌+◌, ◌-◌, ◌<◌, true, List, [], ◌∷◌, ◌++◌, length, map, take, Option, Some, Result, Ok, Err, OnErr, refl}
use Rattle.std.specs.List.{slice_get}
use Rattle.std.specs.Option.{IsSomeAnd}
use Rattle.std.specs.declared.vec.Vec.{Vec}
use Rattle.std.proofs.Common.{ap, subst, sym, ◌∙◌, arith}
use Rattle.std.proofs.lemmas.List.{length-append, map-append}
use Rattle.std.proofs.Math.Seq.{take-append_seam}
use Rattle.iox_model.specs.declared.command.Command as the_command
use Rattle.iox_model.specs.declared.reply.Refusal as the_refusal
use Rattle.iox_model.specs.declared.reply.Reply as the_reply
use Rattle.iox_model.specs.Commands.{Cause, Command, Reply}
use Rattle.iox_model.specs.Runs.{IsRun}
use Rattle.iox_model.specs.Services.{IsCommand}
use Rattle.iox_model.specs.States.{State}
use Rattle.iox_port_commands.specs.declared.elements.Elements.{Elements}
use Rattle.iox_nodes.specs.Given.{command_given, is_listing, reply_given}
use Rattle.iox_nodes.specs.Memory.{IsRunWithWants, WantsRightly, WantsToGrow, WantsToGrowFor}
use Rattle.iox_nodes.specs.Served.{Correspond, IsAnswered, IsListingAt, IsRunOf}
use Rattle.iox_nodes.proofs.Reaching.{run_more}

append_nothing : {A : Type 0} (xs : List A) → xs ++ [] ≡ xs
append_nothing [] = refl
append_nothing (x ∷ xs) = ap (λ ys. x ∷ ys) (append_nothing xs)

append_twice : {A : Type 0} (xs ys zs : List A) → (xs ++ ys) ++ zs ≡ xs ++ (ys ++ zs)
append_twice [] ys zs = refl
append_twice (x ∷ xs) ys zs = ap (λ l. x ∷ l) (append_twice xs ys zs)

pub on_err : {A E : Type 0} {P : Type 0} (r : Result A E) → P → OnErr r P
on_err (Ok x) p = tt
on_err (Err e) p = p

pub nothing_left : {A : Type 0} (xs : List A) → length xs ≡ 0 → xs ≡ []
nothing_left [] e = refl
nothing_left (x ∷ xs) e = absurd (omega arith)

pub correspond_more : {A B : Type 0} (is : A → B → Type 0) (xs : List A) (ys : List B) (x : A) (y : B)
    → Correspond is xs ys → is x y → Correspond is (xs ++ x ∷ []) (ys ++ y ∷ [])
correspond_more is [] [] x y so more = (more, tt)
correspond_more is (a ∷ xs) (b ∷ ys) x y so more = (so.0, correspond_more is xs ys x y so.1 more)
correspond_more is [] (b ∷ ys) x y so more = absurd so
correspond_more is (a ∷ xs) [] x y so more = absurd so

-- one command more
pub wants_more : (s t u : State) (cs : List Command) (rs : List Reply) (c : Command) (r : Reply) → IsRunWithWants s cs rs t → IsCommand t c r u
    → WantsToGrow t c r → IsRunWithWants s (cs ++ c ∷ []) (rs ++ r ∷ []) u
wants_more s t u [] [] c r run done wants = (u, subst (λ v. IsCommand v c r u) run done, subst (λ v. WantsToGrow v c r) run wants, refl)
wants_more s t u [] (q ∷ rs) c r run done wants = absurd run
wants_more s t u (d ∷ cs) [] c r run done wants = absurd run
wants_more s t u (d ∷ cs) (q ∷ rs) c r run done wants = (run.0, run.1, run.2, wants_more run.0 t u cs rs c r run.3 done wants)

at_seam : {A : Type 0} (xs : List A) (x : A) (ys : List A) → slice_get (xs ++ x ∷ ys) (length xs) ≡ Some x
at_seam [] x ys = refl
at_seam (z ∷ xs) x ys = at_seam xs x ys

-- a listing stands behind what is done
pub lists_next : {E H V : Type 0} (done rest commands : List (the_command.Command E H V)) (command : the_command.Command E H V) (place : ℕ)
    → done ++ command ∷ rest ≡ commands → place ≡ length done → is_listing command ≡ true → IsListingAt commands place
lists_next done rest commands command place split at lists =
    subst (λ o. IsSomeAnd o (λ c. is_listing c ≡ true))
    (sym (ap (λ cs. slice_get cs place) (sym split) ∙ ap (slice_get (done ++ command ∷ rest)) at ∙ at_seam done command rest)) lists

module _ {Q P H C Z : Type 0} (q : Q → List ℕ) (p : P → List ℕ) (w : H → List ℕ) (s : State)
    (commands : List (the_command.Command (Elements Q P) H (Option (the_refusal.Refusal C)))) (old : List (the_reply.Reply (Vec ℕ Z) C)) where
  -- of these commands all but the rest are answered, by the replies that are new
  pub record HasRun (rest : List (the_command.Command (Elements Q P) H (Option (the_refusal.Refusal C)))) (new : List (the_reply.Reply (Vec ℕ Z) C)) (s' : State) : Type 0 where
    pub more : List (the_reply.Reply (Vec ℕ Z) C)
    pub told : new ≡ old ++ more
    pub done : List (the_command.Command (Elements Q P) H (Option (the_refusal.Refusal C)))
    pub split : done ++ rest ≡ commands
    pub many : length done ≡ length more
    pub run : (cause : C → Cause) → IsRun s (map (command_given q p w cause) done) (map (reply_given cause) more) s'
    pub want : Correspond WantsRightly done more
    pub grows : (cause : C → Cause) → IsRunWithWants s (map (command_given q p w cause) done) (map (reply_given cause) more) s'

  pub run_starts : HasRun commands old s
  run_starts = record { more = []; told = sym (append_nothing old); done = []; split = refl; many = refl; run = λ cause. refl; want = tt; grows = λ cause. refl }

  pub run_goes_on : (command : the_command.Command (Elements Q P) H (Option (the_refusal.Refusal C)))
      (rest : List (the_command.Command (Elements Q P) H (Option (the_refusal.Refusal C)))) (new : List (the_reply.Reply (Vec ℕ Z) C)) (s' s'' : State)
      (reply : the_reply.Reply (Vec ℕ Z) C) → HasRun (command ∷ rest) new s' → IsAnswered q p w s' command reply s'' → WantsRightly command reply
      → WantsToGrowFor q p w s' command reply → HasRun rest (new ++ reply ∷ []) s''
  run_goes_on command rest new s' s'' reply so answered wants grows = record {
    more = so.more ++ reply ∷ [];
    told = ap (λ xs. xs ++ reply ∷ []) so.told ∙ append_twice old so.more (reply ∷ []);
    done = so.done ++ command ∷ [];
    split = append_twice so.done (command ∷ []) rest ∙ so.split;
    many = length-append so.done (command ∷ []) ∙ ap (λ n. n + 1) so.many ∙ sym (length-append so.more (reply ∷ []));
    run = λ cause.
        subst (λ (cs : List Command). IsRun s cs (map (reply_given cause) (so.more ++ reply ∷ [])) s'') (sym (map-append (command_given q p w cause) so.done (command ∷ [])))
        (subst (λ (rs : List Reply). IsRun s (map (command_given q p w cause) so.done ++ command_given q p w cause command ∷ []) rs s'')
        (sym (map-append (reply_given cause) so.more (reply ∷ [])))
        (run_more s s' s'' (map (command_given q p w cause) so.done) (map (reply_given cause) so.more) (command_given q p w cause command) (reply_given cause reply)
        (so.run cause) (answered cause)));
    want = correspond_more WantsRightly so.done so.more command reply so.want wants;
    grows = λ cause.
        subst (λ (cs : List Command). IsRunWithWants s cs (map (reply_given cause) (so.more ++ reply ∷ [])) s'')
        (sym (map-append (command_given q p w cause) so.done (command ∷ [])))
        (subst (λ (rs : List Reply). IsRunWithWants s (map (command_given q p w cause) so.done ++ command_given q p w cause command ∷ []) rs s'')
        (sym (map-append (reply_given cause) so.more (reply ∷ [])))
        (wants_more s s' s'' (map (command_given q p w cause) so.done) (map (reply_given cause) so.more) (command_given q p w cause command) (reply_given cause reply)
        (so.grows cause) (answered cause) (grows cause)));
  }

  pub run_ends : (rest : List (the_command.Command (Elements Q P) H (Option (the_refusal.Refusal C)))) (new : List (the_reply.Reply (Vec ℕ Z) C)) (s' : State)
      → HasRun rest new s' → IsRunOf q p w s commands old new s'
  run_ends rest new s' so = record {
    more = so.more;
    told = so.told;
    run = λ cause. subst (λ cs. IsRun s (map (command_given q p w cause) cs) (map (reply_given cause) so.more) s') (sym taken) (so.run cause);
    want = subst (λ cs. Correspond WantsRightly cs so.more) (sym taken) so.want;
    grows = λ cause.
        subst (λ cs. IsRunWithWants s (map (command_given q p w cause) cs) (map (reply_given cause) so.more) s') (sym taken) (so.grows cause);
  }
    where
      taken : take (length so.more) commands ≡ so.done
      taken = ap (λ n. take n commands) (sym so.many) ∙ ap (take (length so.done)) (sym so.split) ∙ take-append_seam so.done rest

  pub run_is_whole : (new : List (the_reply.Reply (Vec ℕ Z) C)) (s' : State) → HasRun [] new s' → length new ≡ length old + length commands
  run_is_whole new s' so =
      ap length so.told ∙ length-append old so.more
      ∙ ap (λ n. length old + n) (sym so.many ∙ ap length (sym (append_nothing so.done) ∙ so.split))

  pub run_is_short : (command : the_command.Command (Elements Q P) H (Option (the_refusal.Refusal C)))
      (rest : List (the_command.Command (Elements Q P) H (Option (the_refusal.Refusal C)))) (new : List (the_reply.Reply (Vec ℕ Z) C)) (s' : State)
      → HasRun (command ∷ rest) new s' → length new < length old + length commands
  run_is_short command rest new s' so =
      let told : length new ≡ length old + length so.more = ap length so.told ∙ length-append old so.more in
      let many : length so.done ≡ length so.more = so.many in
      let split : length so.done + length (command ∷ rest) ≡ length commands =
      sym (length-append so.done (command ∷ rest)) ∙ ap length so.split in
      omega arith

  -- where a run ends before a listing, that is the command behind those that are answered
  pub run_lists : (command : the_command.Command (Elements Q P) H (Option (the_refusal.Refusal C)))
      (rest : List (the_command.Command (Elements Q P) H (Option (the_refusal.Refusal C)))) (new : List (the_reply.Reply (Vec ℕ Z) C)) (s' : State)
      (before after : ℕ) → HasRun (command ∷ rest) new s' → before ≡ length old → after ≡ length new → is_listing command ≡ true
      → IsListingAt commands (after - before)
  run_lists command rest new s' before after so was is lists =
      let told : length new ≡ length old + length so.more = ap length so.told ∙ length-append old so.more in
      let many : length so.done ≡ length so.more = so.many in
      let place : after - before ≡ length so.done = omega arith in
      lists_next so.done rest commands command (after - before) so.split place lists
