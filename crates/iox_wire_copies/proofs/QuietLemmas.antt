-- The quiet steps of a copy's loan are those of its loan.
use Rattle.std.proofs.Common.{◌≡◌, ◌<◌, ℕ, Bool, false, List, None, length, refl, ap, sym, subst, ◌∙◌}
use Rattle.std.specs.Bool.{OnTrue}
use Rattle.iox_steps.specs.declared.access.Access.{Access}
use Rattle.iox_steps.specs.Accesses.{seen_at, words_after}
use Rattle.iox_wire_words.specs.Programs.{program_access}
use Rattle.iox_wire_locals.specs.declared.local.Local.{Local}
use Rattle.iox_wire_locals.specs.declared.local.Local.TheVariants.{LendEmpties, LendStores}
use Rattle.iox_wire_locals.specs.declared.seat.Seat.{Seat}
use Rattle.iox_wire_locals.specs.Begins.{is_busy}
use Rattle.iox_wire_locals.specs.Courses.{placed}
use Rattle.iox_wire_locals.specs.Locals.{program_of}
use Rattle.iox_wire_locals.specs.Steps.{next, tells}
use Rattle.iox_wire_locals.specs.Tables.{Setting}
use Rattle.iox_wire_seats.specs.Keeps.{counted}
use Rattle.iox_wire_seats.specs.QuietSteps.{StepsQuietly}
use Rattle.iox_wire_seats.specs.Seats.{Placed}
use Rattle.iox_wire_seats.specs.SlotEvents.{slot_event}
use Rattle.iox_wire_request_sends.specs.WireLoansAims.{HasNextWord, IsLoanAt, StoresAhead, is_storing}
use Rattle.iox_wire_request_sends.specs.WireLoansAims as loans
use Rattle.iox_wire_copies.specs.Copies.{CopyLoan, with_payload}
use Rattle.iox_wire_copies.specs.CopyAims.{IsAimed}
use Rattle.iox_wire_copies.proofs.EventLemmas.{event_alike}
use Rattle.iox_wire_copies.proofs.LendLemmas.{Lends, aimed_loan, lend_goes_on}
use Rattle.iox_wire_copies.proofs.WriteLemmas.{asks_alike, copy_goes_on}

-- while it stores, one of its words is next
pub next_word : (l : Local) (count : ℕ) (told : Bool) → told ≡ is_storing l → OnTrue told (HasNextWord l count) → HasNextWord l count
next_word (LendStores o slot n) count told is within = subst (λ (b : Bool). OnTrue b (n < count)) is within
next_word l count told is within = tt

no_event : (p : Setting) (l k : Local) (count seen : ℕ) → StoresAhead l count None k → slot_event p l seen ≡ None
no_event p (LendStores o slot n) k count seen ahead = refl
no_event p l k count seen ahead = absurd ahead

-- whether it is under way does not depend on the payload
with_busy : (payload : List ℕ) (l : Local) → is_busy (with_payload payload l) ≡ is_busy l
with_busy payload (LendEmpties o w place left) = refl
with_busy payload (LendStores o slot n) = refl
with_busy payload l = refl

pub busy_alike : (payload : List ℕ) (l k : Local) → is_busy k ≡ is_busy l → is_busy (with_payload payload k) ≡ is_busy (with_payload payload l)
busy_alike payload l k same = with_busy payload k ∙ same ∙ sym (with_busy payload l)

pub ahead_busy : (l k : Local) (count : ℕ) → StoresAhead l count None k → is_busy k ≡ is_busy l
ahead_busy (LendStores o slot n) k count ahead = ap is_busy ahead.0
ahead_busy l k count ahead = absurd ahead

same_access : (p : Setting) (x : Seat) (r : CopyLoan) → Lends r → IsLoanAt r.lending.order r.lending.local → HasNextWord r.lending.local (length r.lending.words) → IsAimed p x r
    → program_access p.layout (program_of p r.lending.local) ≡ program_access p.layout (program_of p r.local)
same_access p x r lends loan word aim =
    asks_alike p x r.lending r.payload r.lending.local loan word (aimed_loan p x r lends aim).0
    ∙ ap (λ (l : Local). program_access p.layout (program_of p l)) (sym lends.local)

-- a word in front of its payload, which another one follows
pub stores_alike : (p : Setting) (x y : Placed) (r s : CopyLoan) (seen : ℕ) (words left : List ℕ) → Lends r → y ≡ counted x → s.local ≡ with_payload r.payload s.lending.local
    → IsLoanAt r.lending.order r.lending.local → HasNextWord r.lending.local (length r.lending.words) → StoresAhead r.lending.local (length r.lending.words) None s.lending.local → IsAimed p x.seat r
    → seen ≡ seen_at (program_access p.layout (program_of p r.lending.local)) words → left ≡ words_after (program_access p.layout (program_of p r.lending.local)) words
    → StepsQuietly p (placed x.seat r.local) words seen (placed y.seat s.local) left
stores_alike p x y r s seen words left lends seat local loan word ahead aim finds leaves =
    let same : program_access p.layout (program_of p r.lending.local) ≡ program_access p.layout (program_of p r.local) = same_access p x.seat r lends loan word aim in
    let on : (placed y.seat s.local ≡ next p (placed x.seat r.local) seen) × (tells p (placed x.seat r.local) seen ≡ None) = copy_goes_on x y r s seen lends seat local loan ahead p aim in
    record {
      finds = finds ∙ ap (λ (a : Access). seen_at a words) same;
      leaves = leaves ∙ ap (λ (a : Access). words_after a words) same;
      event = ap (λ (l : Local). slot_event p l seen) lends.local ∙ event_alike p r.lending.order r.payload r.lending.local seen loan
          ∙ no_event p r.lending.local s.lending.local (length r.lending.words) seen ahead;
      goes = on.0;
      tells_none = on.1;
    }

-- and before it stores
pub empties_alike : (x y : Placed) (r s : CopyLoan) (seen : ℕ) (words left : List ℕ) → Lends r → s.local ≡ with_payload r.payload s.lending.local
    → IsLoanAt r.lending.order r.lending.local → HasNextWord r.lending.local (length r.lending.words) → is_storing r.lending.local ≡ false
    → ((p : Setting) → loans.IsAimed p x.seat r.lending → StepsQuietly p (placed x.seat r.lending.local) words seen (placed y.seat s.lending.local) left)
    → (p : Setting) → IsAimed p x.seat r → StepsQuietly p (placed x.seat r.local) words seen (placed y.seat s.local) left
empties_alike x y r s seen words left lends local loan word before quiet p aim =
    let same : program_access p.layout (program_of p r.lending.local) ≡ program_access p.layout (program_of p r.local) = same_access p x.seat r lends loan word aim in
    let q : StepsQuietly p (placed x.seat r.lending.local) words seen (placed y.seat s.lending.local) left = quiet p (aimed_loan p x.seat r lends aim).0 in
    let on : (placed y.seat s.local ≡ next p (placed x.seat r.local) seen) × (tells p (placed x.seat r.local) seen ≡ None) =
    lend_goes_on x y r s seen lends local loan before (λ p' a. (quiet p' a).goes) (λ p' a. (quiet p' a).tells_none) p aim in
    record {
      finds = q.finds ∙ ap (λ (a : Access). seen_at a words) same;
      leaves = q.leaves ∙ ap (λ (a : Access). words_after a words) same;
      event = ap (λ (l : Local). slot_event p l seen) lends.local ∙ event_alike p r.lending.order r.payload r.lending.local seen loan ∙ q.event;
      goes = on.0;
      tells_none = on.1;
    }
