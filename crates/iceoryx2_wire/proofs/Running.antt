-- How far commands were answered, one after another, where those who open the service are compared.
use Rattle.std.specs.Prelude.{◌≡◌, ℕ, ◌+◌, ◌-◌, ◌<◌, true, List, [], ◌∷◌, ◌++◌, length, map, take, refl}
use Rattle.std.proofs.Common.{ap, subst, sym, ◌∙◌, arith}
use Rattle.std.proofs.lemmas.List.{length-append, map-append}
use Rattle.std.proofs.Math.Seq.{take-append_seam}
use Rattle.iox_model.specs.Commands.{Command, Reply}
use Rattle.iox_model.specs.Runs.{IsRun}
use Rattle.iox_model.specs.States.{State}
use Rattle.iox_openers.specs.Causes.{cause_of}
use Rattle.iox_openers.specs.declared.service_description.ServiceDescription.{ServiceDescription}
use Rattle.iox_service_laws.specs.Given.{is_listing, reply_given}
use Rattle.iox_service_laws.specs.Memory.{IsRunWithWants, WantsRightly}
use Rattle.iox_service_laws.specs.Served.{Correspond, IsListingAt}
use Rattle.iox_service_laws.proofs.Reaching.{run_more}
use Rattle.iox_service_laws.proofs.Running.{correspond_more, lists_next, wants_more}
use Rattle.iceoryx2_wire.specs.Serving.{IsAnswered, IsGivenAs, IsRunOf, OpenCommand, OpenReply, WantsToGrowFor}

append_nothing : {A : Type 0} (xs : List A) → xs ++ [] ≡ xs
append_nothing [] = refl
append_nothing (x ∷ xs) = ap (λ ys. x ∷ ys) (append_nothing xs)

append_twice : {A : Type 0} (xs ys zs : List A) → (xs ++ ys) ++ zs ≡ xs ++ (ys ++ zs)
append_twice [] ys zs = refl
append_twice (x ∷ xs) ys zs = ap (λ l. x ∷ l) (append_twice xs ys zs)

module _ {Q P H Z : Type 0} (q : Q → List ℕ) (p : P → List ℕ) (w : H → List ℕ) (d : ServiceDescription) (s : State)
    (commands : List (OpenCommand Q P H)) (old : List (OpenReply Z)) where
  -- of these commands all but the rest are answered, by the replies that are new
  pub record HasRun (rest : List (OpenCommand Q P H)) (new : List (OpenReply Z)) (s' : State) : Type 0 where
    pub more : List (OpenReply Z)
    pub told : new ≡ old ++ more
    pub done : List (OpenCommand Q P H)
    pub split : done ++ rest ≡ commands
    pub many : length done ≡ length more
    pub played : List Command
    pub given : Correspond (IsGivenAs q p w d) done played
    pub run : IsRun s played (map (reply_given cause_of) more) s'
    pub want : Correspond WantsRightly done more
    pub grows : IsRunWithWants s played (map (reply_given cause_of) more) s'

  pub run_starts : HasRun commands old s
  run_starts = record {
    more = [];
    told = sym (append_nothing old);
    done = [];
    split = refl;
    many = refl;
    played = [];
    given = tt;
    run = refl;
    want = tt;
    grows = refl;
  }

  pub run_goes_on : (command : OpenCommand Q P H) (rest : List (OpenCommand Q P H)) (new : List (OpenReply Z)) (s' s'' : State)
      (reply : OpenReply Z) → HasRun (command ∷ rest) new s' → IsAnswered q p w d s' command reply s'' → WantsRightly command reply
      → WantsToGrowFor q p w d s' command reply → HasRun rest (new ++ reply ∷ []) s''
  run_goes_on command rest new s' s'' reply so answered wants grows = record {
    more = so.more ++ reply ∷ [];
    told = ap (λ xs. xs ++ reply ∷ []) so.told ∙ append_twice old so.more (reply ∷ []);
    done = so.done ++ command ∷ [];
    split = append_twice so.done (command ∷ []) rest ∙ so.split;
    many = length-append so.done (command ∷ []) ∙ ap (λ n. n + 1) so.many ∙ sym (length-append so.more (reply ∷ []));
    played = so.played ++ answered.0 ∷ [];
    given = correspond_more (IsGivenAs q p w d) so.done so.played command answered.0 so.given answered.1;
    run = subst (λ (rs : List Reply). IsRun s (so.played ++ answered.0 ∷ []) rs s'') (sym (map-append (reply_given cause_of) so.more (reply ∷ [])))
        (run_more s s' s'' so.played (map (reply_given cause_of) so.more) answered.0 (reply_given cause_of reply) so.run answered.2);
    want = correspond_more WantsRightly so.done so.more command reply so.want wants;
    grows = subst (λ (rs : List Reply). IsRunWithWants s (so.played ++ answered.0 ∷ []) rs s'') (sym (map-append (reply_given cause_of) so.more (reply ∷ [])))
        (wants_more s s' s'' so.played (map (reply_given cause_of) so.more) answered.0 (reply_given cause_of reply) so.grows answered.2
        (grows answered.0 answered.1));
  }

  pub run_ends : (rest : List (OpenCommand Q P H)) (new : List (OpenReply Z)) (s' : State)
      → HasRun rest new s' → IsRunOf q p w d s commands old new s'
  run_ends rest new s' so = record {
    more = so.more;
    told = so.told;
    played = so.played;
    given = subst (λ cs. Correspond (IsGivenAs q p w d) cs so.played) (sym taken) so.given;
    run = so.run;
    want = subst (λ cs. Correspond WantsRightly cs so.more) (sym taken) so.want;
    grows = so.grows;
  }
    where
      taken : take (length so.more) commands ≡ so.done
      taken = ap (λ n. take n commands) (sym so.many) ∙ ap (take (length so.done)) (sym so.split) ∙ take-append_seam so.done rest

  pub run_is_whole : (new : List (OpenReply Z)) (s' : State) → HasRun [] new s' → length new ≡ length old + length commands
  run_is_whole new s' so =
      ap length so.told ∙ length-append old so.more
      ∙ ap (λ n. length old + n) (sym so.many ∙ ap length (sym (append_nothing so.done) ∙ so.split))

  pub run_is_short : (command : OpenCommand Q P H) (rest : List (OpenCommand Q P H)) (new : List (OpenReply Z)) (s' : State)
      → HasRun (command ∷ rest) new s' → length new < length old + length commands
  run_is_short command rest new s' so =
      let told : length new ≡ length old + length so.more = ap length so.told ∙ length-append old so.more in
      let many : length so.done ≡ length so.more = so.many in
      let split : length so.done + length (command ∷ rest) ≡ length commands =
      sym (length-append so.done (command ∷ rest)) ∙ ap length so.split in
      omega arith

  -- where a run ends before a listing, that is the command behind those that are answered
  pub run_lists : (command : OpenCommand Q P H) (rest : List (OpenCommand Q P H)) (new : List (OpenReply Z)) (s' : State) (before after : ℕ)
      → HasRun (command ∷ rest) new s' → before ≡ length old → after ≡ length new → is_listing command ≡ true → IsListingAt commands (after - before)
  run_lists command rest new s' before after so was is lists =
      let told : length new ≡ length old + length so.more = ap length so.told ∙ length-append old so.more in
      let many : length so.done ≡ length so.more = so.many in
      let place : after - before ≡ length so.done = omega arith in
      lists_next so.done rest commands command (after - before) so.split place lists
