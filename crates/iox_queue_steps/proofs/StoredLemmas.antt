-- A queue that was played on stays one, step by step of the parties that are kept in memory.
use Rattle.std.proofs.Common.{◌≡◌, ℕ, ◌++◌, List, length, sym, ◌∙◌}
use Rattle.std.specs.Option.{option_to_list}
use Rattle.iox_steps.specs.Accesses.{words_after, IsWithin}
use Rattle.iox_steps.specs.EventLists.{told}
use Rattle.iox_steps.specs.Sides.{pushing_access, pushing_sees, pushing_after, pushing_event, popping_access, popping_sees, popping_after, popping_event}
use Rattle.iox_steps.proofs.AfterCalls.{pushing_within_words, popping_within_words, pushing_plays, popping_plays}
use Rattle.iox_queue_steps.specs.Stored.{Pusher, Popper, ArePartsAfterCalls}

module _ (words words' : List ℕ) (pusher : Pusher) (popper : Popper) (played : ArePartsAfterCalls words pusher popper) where
  pub push_within : IsWithin 0 (length words) (pushing_access pusher.site pusher.place)
  push_within = pushing_within_words pusher.site words pusher.place popper.place played.played.0 played.played.1

  pub pop_within : IsWithin 0 (length words) (popping_access popper.site popper.place)
  pop_within = rw played.same (popping_within_words pusher.site words pusher.place popper.place played.played.0 played.played.1)

  pub push_played : (pusher' : Pusher) → words' ≡ words_after (pushing_access pusher.site pusher.place) words → pusher'.site ≡ pusher.site
      → pusher'.place ≡ pushing_after pusher.site pusher.place (pushing_sees pusher.site pusher.place words) → ArePartsAfterCalls words' pusher' popper
  push_played pusher' is same goes =
      let seen : ℕ = pushing_sees pusher.site pusher.place words in
      record {
        same = played.same ∙ sym same;
        played = (
          played.played.0 ++ option_to_list (told (pushing_event pusher.site pusher.place seen)),
          rw (is, same, goes) (pushing_plays pusher.site words pusher.place popper.place played.played.0 played.played.1),
        );
      }

  pub pop_played : (popper' : Popper) → words' ≡ words_after (popping_access popper.site popper.place) words → popper'.site ≡ popper.site
      → popper'.place ≡ popping_after popper.site popper.place (popping_sees popper.site popper.place words) → ArePartsAfterCalls words' pusher popper'
  pop_played popper' is same goes =
      let seen : ℕ = popping_sees pusher.site popper.place words in
      record {
        same = same ∙ played.same;
        played = (
          played.played.0 ++ option_to_list (told (popping_event pusher.site popper.place seen)),
          rw (is, goes, played.same) (popping_plays pusher.site words pusher.place popper.place played.played.0 played.played.1),
        );
      }
