-- What is asked of a lane of a pipe, and a pipe of which one lane changes.
use Rattle.std.proofs.Common.{◌≡◌, ◌<◌, ℕ, List, Option, Some, length, get_or, slice_set, refl, sym, ap, ◌∙◌}
use Rattle.std.proofs.lemmas.Option.{slice_get_read}
use Rattle.std.specs.Option.{option_map_or}
use Rattle.std.specs.Prelude.{slice_get}
use Rattle.iox_lanes.specs.Lanes.{LaneState}
use Rattle.iox_lanes.specs.Pipes.{PipeState, on_lane, with_lane}
use Rattle.iox_lanes.specs.Searches.{LabelsByPlace, visit_on, visited_on}
use Rattle.iox_lanes.specs.Visited.{pipe_visit, pipe_visited}
use Rattle.iox_lanes.specs.declared.search.LaneVisit.{LaneVisit}
use Rattle.iox_lanes.specs.declared.search.LaneVisit.TheVariants.{Nothing}
use Rattle.iox_lanes.specs.declared.wanted.Wanted.{Wanted}
use Rattle.iox_model.specs.declared.way.RequestState.{RequestState}

module _ (p : PipeState) (lane : ℕ) (l : LaneState) (h : lane < length p.lanes) (e : l ≡ get_or p.lanes lane l) where
  there : slice_get p.lanes lane ≡ Some l
  there = slice_get_read p.lanes (length p.lanes) lane l refl h e

  pub on_lane_at : {A : Type 0} (f : LaneState → A) (none : A) → on_lane f none p lane ≡ f l
  on_lane_at f none = ap (λ (o : Option LaneState). option_map_or f o none) there

  pub with_lane_at : (f : LaneState → LaneState) (l' : LaneState) → l' ≡ f l
      → record p { lanes = slice_set p.lanes lane l' } ≡ with_lane f p lane
  with_lane_at f l' is =
      ap (λ (m : LaneState). record p { lanes = slice_set p.lanes lane m }) is
      ∙ sym (ap (λ (o : Option LaneState). option_map_or (λ m. record p { lanes = slice_set p.lanes lane (f m) }) o p) there)

  pub visit_at : (wanted : Wanted) (labels : LabelsByPlace) (states : List RequestState) (v : LaneVisit) → states ≡ p.states
      → v ≡ visit_on wanted states labels l → v ≡ pipe_visit wanted labels lane p
  visit_at wanted labels states v same is =
      is ∙ ap (λ (ss : List RequestState). visit_on wanted ss labels l) same
      ∙ sym (on_lane_at (λ (m : LaneState). visit_on wanted p.states labels m) Nothing)

  pub visited_at : (wanted : Wanted) (labels : LabelsByPlace) (states : List RequestState) (l' : LaneState) → states ≡ p.states
      → l' ≡ visited_on wanted states labels l → record p { lanes = slice_set p.lanes lane l' } ≡ pipe_visited wanted labels lane p
  visited_at wanted labels states l' same is =
      with_lane_at (λ (m : LaneState). visited_on wanted p.states labels m) l'
      (is ∙ ap (λ (ss : List RequestState). visited_on wanted ss labels l) same)
