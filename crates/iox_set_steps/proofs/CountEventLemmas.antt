-- Counts that are 0 hold.
use Rattle.std.specs.Prelude.{All}
use Rattle.std.proofs.Common.{◌≡◌, ℕ, ◌+◌, ◌<◌, ◌≤◌, ◌^◌, length, List, [], refl, sym, ◌∙◌, inl, inr, arith}
use Rattle.std.proofs.lemmas.Bool.{cases_lt, le-ltb}
use Rattle.iox_set_steps.specs.declared.counting_bit_set.CountSite.{CountSite}
use Rattle.iox_set_steps.specs.declared.counting_bit_set.party.CountParty.{CountParty}
use Rattle.iox_set_steps.specs.Counts.{count_now}
use Rattle.iox_set_steps.specs.CountPlays.{CountsHoldAt, count_kind}
use Rattle.iox_set_steps.specs.CountLemmas.{count_is}
use Rattle.iox_set_steps.specs.CountMachines.{AreZero}
use Rattle.iox_set_steps.specs.Kinds.{IsAt}

pub new_counts_hold : (site : CountSite) (words : List ℕ) (parties : List CountParty) → site.base + site.capacity ≤ length words → AreZero site words
    → length words < 2 ^ 64 → All (λ word. word < 2 ^ 64) words
    → All (IsAt count_kind site) parties → CountsHoldAt site (record { words = words; parties = parties; events = [] })
new_counts_hold site words parties room zero memory small at =
    let none : (id : ℕ) → count_now site words id ≡ 0 = λ id. elim (cases_lt id site.capacity) [
      | inl inside ↦ count_is site words id inside ∙ zero id inside
      | inr past ↦ rw (le-ltb _ _ past) refl
    ] in
    record {
      conserved = λ id. sym (none id) ∙ omega arith;
      inside = λ id past. refl;
      room = room;
      memory = memory;
      words = small;
      parties = at;
    }
