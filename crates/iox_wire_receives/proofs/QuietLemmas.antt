-- A word of a header is loaded, and another one follows.
use Rattle.std.specs.Prelude.{if◌then◌else◌}
use Rattle.std.proofs.Common.{◌≡◌, ◌==◌, ◌+◌, ◌<◌, ◌++◌, ◌∷◌, [], ℕ, Bool, false, List, length, slice_index, refl, ap, sym, ◌∙◌, arith}
use Rattle.std.proofs.lemmas.Bool.{ne_eqb}
use Rattle.iox_model.specs.declared.way.Way.{Way}
use Rattle.iox_wire_words.specs.Programs.{word_place}
use Rattle.iox_wire_locals.specs.declared.local.Local.TheVariants.{ReceiveLoads}
use Rattle.iox_wire_locals.specs.declared.local.Visit.{Visit}
use Rattle.iox_wire_locals.specs.declared.seat.Seat.{Seat}
use Rattle.iox_wire_locals.specs.Courses.{placed}
use Rattle.iox_wire_locals.specs.NewLoans.{received_length}
use Rattle.iox_wire_locals.specs.ReceiveCourses.{took}
use Rattle.iox_wire_locals.specs.ReceiveFindings.{receive_loaded}
use Rattle.iox_wire_locals.specs.Steps.{accessed}
use Rattle.iox_wire_locals.specs.Tables.{Setting, region_word}
use Rattle.iox_wire_seats.specs.QuietSteps.{StepsQuietly}
use Rattle.iox_wire_receives.specs.Aims.{after, answered}
use Rattle.iox_wire_receives.proofs.LoadLemmas.{length_more}

more : (p : Setting) (y : Seat) (v : Visit) (w : Way) (slot : ℕ) (header : List ℕ) (left : List Way) (waiting : Bool) → (length header == received_length v) ≡ false
    → receive_loaded p y v w slot header left waiting ≡ placed y (ReceiveLoads v w slot header left waiting)
more p y v w slot header left waiting is =
    ap (λ (b : Bool). if b then took p y v w slot header left waiting else placed y (ReceiveLoads v w slot header left waiting)) is

-- that load is no moment, and the receive goes on
pub loads_quietly : (p : Setting) (x : Seat) (v : Visit) (w : Way) (slot : ℕ) (header items : List ℕ) (left : List Way) (waiting : Bool) (seen place : ℕ) (words rest : List ℕ)
    → items ≡ header ++ seen ∷ [] → length header + 1 < received_length v
    → seen ≡ slice_index words place → place ≡ word_place p.layout w.sender (region_word p w.sender slot (length header)) → rest ≡ words
    → StepsQuietly p (placed x (ReceiveLoads v w slot header left waiting)) words seen (placed (accessed x) (ReceiveLoads v w slot items left waiting)) rest
loads_quietly p x v w slot header items left waiting seen place words rest are less sees there stay =
    let one : length (header ++ seen ∷ []) ≡ length header + 1 = length_more header seen in
    let is : (length (header ++ seen ∷ []) == received_length v) ≡ false = ne_eqb _ _ (λ e. omega (arith, e, one, less)) in
    record {
      finds = sees ∙ ap (slice_index words) there;
      leaves = stay;
      event = refl;
      goes = ap (λ (hs : List ℕ). placed (accessed x) (ReceiveLoads v w slot hs left waiting)) are
          ∙ sym (ap (after p) (more p (accessed (placed x (ReceiveLoads v w slot header left waiting))) v w slot (header ++ seen ∷ []) left waiting is));
      tells_none = ap (answered p) (more p (accessed (placed x (ReceiveLoads v w slot header left waiting))) v w slot (header ++ seen ∷ []) left waiting is);
    }
