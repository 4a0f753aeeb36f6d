-- The worked runs hold: each is played, with the lanes that its loans take.
use Rattle.std.specs.Prelude.{◌≡◌, ℕ, true, List, [], ◌∷◌, refl}
use Rattle.iox_laws.specs.WorkedExamples.WorkedRuns.{responds_in_order, evicts_the_oldest, keeps_the_active_limit, refuses_a_full_server, discards_for_a_full_server, cleans_up_the_dead, keeps_the_borrow_limit, skips_a_stale_request, grows_as_the_service_says, grows_as_its_maker_says, asks_and_hints, RaisesLimits, RefusesLimits, RefusesIds}
use Rattle.iox_laws.specs.WorkedExamples.Examples.{service, set_up, is_set_up, IsWorked, Example}
use Rattle.iox_laws.specs.WorkedExamples.ExpiredRuns.{expires_two, expires_one, expires_none}
use Rattle.iox_laws.proofs.WeaveLaws.PlayedRuns.{replies_by, are_answered, is_run}

abbrev sure : true ≡ true
sure = refl

is_played : (x : Example) (lanes : List ℕ) → are_answered (service x.limits) (set_up x.commands) lanes ≡ true
    → replies_by (service x.limits) (set_up x.commands) lanes ≡ is_set_up x.replies → IsWorked x
is_played x lanes e same = is_run (service x.limits) (set_up x.commands) (is_set_up x.replies) lanes e same

pub plays-responds_in_order : IsWorked responds_in_order
plays-responds_in_order = is_played responds_in_order [] sure refl

pub plays-evicts_the_oldest : IsWorked evicts_the_oldest
plays-evicts_the_oldest = is_played evicts_the_oldest (0 ∷ 0 ∷ 0 ∷ 0 ∷ 0 ∷ 1 ∷ []) sure refl

pub plays-keeps_the_active_limit : IsWorked keeps_the_active_limit
plays-keeps_the_active_limit = is_played keeps_the_active_limit (0 ∷ 0 ∷ 0 ∷ 0 ∷ 1 ∷ []) sure refl

pub plays-refuses_a_full_server : IsWorked refuses_a_full_server
plays-refuses_a_full_server = is_played refuses_a_full_server (0 ∷ 0 ∷ 0 ∷ 0 ∷ 0 ∷ 1 ∷ 1 ∷ []) sure refl

pub plays-discards_for_a_full_server : IsWorked discards_for_a_full_server
plays-discards_for_a_full_server = is_played discards_for_a_full_server (0 ∷ 0 ∷ 0 ∷ 0 ∷ 0 ∷ 1 ∷ []) sure refl

pub plays-cleans_up_the_dead : IsWorked cleans_up_the_dead
plays-cleans_up_the_dead = is_played cleans_up_the_dead [] sure refl

pub plays-keeps_the_borrow_limit : IsWorked keeps_the_borrow_limit
plays-keeps_the_borrow_limit = is_played keeps_the_borrow_limit [] sure refl

pub plays-skips_a_stale_request : IsWorked skips_a_stale_request
plays-skips_a_stale_request = is_played skips_a_stale_request [] sure refl

pub plays-expires_two : IsWorked expires_two
plays-expires_two = is_played expires_two [] sure refl

pub plays-expires_one : IsWorked expires_one
plays-expires_one = is_played expires_one [] sure refl

pub plays-expires_none : IsWorked expires_none
plays-expires_none = is_played expires_none [] sure refl

pub plays-grows_as_the_service_says : IsWorked grows_as_the_service_says
plays-grows_as_the_service_says = is_played grows_as_the_service_says [] sure refl

pub plays-grows_as_its_maker_says : IsWorked grows_as_its_maker_says
plays-grows_as_its_maker_says = is_played grows_as_its_maker_says [] sure refl

pub plays-asks_and_hints : IsWorked asks_and_hints
plays-asks_and_hints = is_played asks_and_hints [] sure refl

-- ---- creations

pub raises_limits : RaisesLimits
raises_limits = (_, (true, (refl, refl)), refl, refl)

pub refuses_limits : RefusesLimits
refuses_limits = (true, (refl, refl))

pub refuses_ids : RefusesIds
refuses_ids = (true, (refl, refl))
