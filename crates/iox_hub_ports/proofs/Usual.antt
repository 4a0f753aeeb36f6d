-- Visits of a port that keeps no pipe of a sender that is gone.
use Rattle.std.specs.Prelude.{◌≡◌, ℕ, true, false, if◌then◌else◌, ◌==◌, List, [], ◌∷◌, ◌++◌, length, refl}
use Rattle.std.proofs.Common.{sym, ap, ◌∙◌, arith, eqb-true}
use Rattle.iox_tables.specs.Incomings.{IncomingState, all_visited_of}
use Rattle.iox_tables.specs.Pipes.{PipeState}
use Rattle.iox_tables.specs.Searches.{LabelsByPlace}
use Rattle.iox_tables.specs.Visited.{all_visited, all_visits}
use Rattle.iox_tables.specs.Wanted.{Wanted}
use Rattle.iox_tables.specs.HubStates.Receives.{has_got, visited_port}
use Rattle.iox_tables.specs.HubStates.Tables.{PortState, pipes_of}

none_there : (ps : List PipeState) → (length ps == 0) ≡ true → ps ≡ []
none_there [] e = refl
none_there (q ∷ qs) e = let same : length (q ∷ qs) ≡ 0 = eqb-true (length (q ∷ qs)) 0 e in absurd (omega (arith, same))

module _ (wanted : Wanted) (labels : LabelsByPlace) (lane : ℕ) (p : PortState) (none : (length p.expired.pipes == 0) ≡ true) where
  -- they are those of connected senders
  pub connected_visits : all_visits wanted labels lane p.incoming.pipes ≡ all_visits wanted labels lane (pipes_of p)
  connected_visits = ap (λ qs. all_visits wanted labels lane (qs ++ p.incoming.pipes)) (sym (none_there p.expired.pipes none))

  -- and only their pipes change
  pub connected_visited : (now : IncomingState) → now ≡ all_visited_of wanted labels lane p.incoming
      → record p { incoming = now } ≡ visited_port wanted labels lane p
  connected_visited now is =
      let kept : p.expired.pipes ≡ all_visited wanted labels lane p.expired.pipes
      = none_there p.expired.pipes none ∙ sym (ap (all_visited wanted labels lane) (none_there p.expired.pipes none)) in
      let not_got : has_got (all_visits wanted labels lane p.expired.pipes) ≡ false
      = ap (λ qs. has_got (all_visits wanted labels lane qs)) (none_there p.expired.pipes none) in
      let goes : now ≡ (if has_got (all_visits wanted labels lane p.expired.pipes) then p.incoming else all_visited_of wanted labels lane p.incoming)
      = is ∙ sym (ap (λ b. if b then p.incoming else all_visited_of wanted labels lane p.incoming) not_got) in
      λ i. record p { expired = record (p.expired) { pipes = kept i }; incoming = goes i }
