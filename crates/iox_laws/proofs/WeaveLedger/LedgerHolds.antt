-- On a live way the record is what is out, and no more than the ledger's bound.
use Rattle.std.specs.Prelude.{◌≡◌, ℕ, ◌+◌, ◌≤◌, Bool, true, false, not, if◌then◌else◌, ◌==◌, List, [], ◌∷◌, ◌++◌, length, refl}
use Rattle.std.proofs.Common.{sym, subst, ◌∙◌, arith, eqb-true, inl, inr}
use Rattle.std.proofs.lemmas.List.{length-map}
use Rattle.iox_model.specs.declared.way.Way.{Way}
use Rattle.iox_laws.specs.WeaveLaws.Ledgers.{had_on, is_emptied, size_of, room_of}
use Rattle.iox_model.specs.Maps.{has_number, AreDistinct}
use Rattle.iox_model.specs.Messages.{serials_of, Message}
use Rattle.iox_model.specs.Peers.{buffer_on, borrow_limit_on}
use Rattle.iox_model.specs.States.{Port, State}
use Rattle.iox_model.specs.WireCalls.{opened}
use Rattle.iox_model.specs.Weaves.{at_work, IsBeat, IsWeave, World, Beat}
use Rattle.iox_laws.specs.WeaveLedger.LedgerLaws.{ReturnsFit, out_on, OutOnce, RecordIsWhatIsOut, LedgerStaysWithin}
use Rattle.iox_laws.specs.WeaveLedger.OnceLaws.{IsOnWire}
use Rattle.iox_laws.proofs.WeaveLedger.Orders.{least}
use Rattle.iox_laws.proofs.WeaveLedger.Borrows.{opened-borrows}
use Rattle.iox_laws.proofs.WeaveLedger.Counts.{count, one_if, count-cons}
use Rattle.iox_laws.proofs.WeaveLedger.Truths.{false_if}
use Rattle.iox_laws.proofs.WeaveLedger.Lists.{IsAmong, number-among, among-number}
use Rattle.iox_laws.proofs.WeaveLedger.Views.{IsAt, node_in}
use Rattle.iox_laws.proofs.WeaveLedger.Worlds.{SoundWorld, opened-fits, beat-fits}
use Rattle.iox_laws.proofs.WeaveLedger.Once.{beat-ports}
use Rattle.iox_laws.proofs.WeaveLedger.Tallies.{count-append, count-all}
use Rattle.iox_laws.proofs.WeaveLedger.Live.{IsLive}
use Rattle.iox_laws.proofs.WeaveLedger.Outs.{out, is, is-itself}
use Rattle.iox_laws.proofs.WeaveLedger.Balance.{any, Balanced}
use Rattle.iox_laws.proofs.WeaveLedger.LedgerKept.{Ledger, beat-ledger}

-- ---- a weave

pub record SoundLedger (v : World) (y : Way) (n r : ℕ) : Type 0 where
  pub fits : SoundWorld v
  pub sender : IsAt v.state.fixed.ports y.sender n
  pub receiver : IsAt v.state.fixed.ports y.receiver r
  pub ledger : Ledger v y n r

pub beat-holds : (w u : World) (b : Beat) (n r : ℕ) (y : Way) → IsBeat w b u → SoundLedger w y n r → SoundLedger u y n r
beat-holds w u b n r y beat p =
    let ports : u.state.fixed.ports ≡ w.state.fixed.ports = beat-ports w u b beat p.fits in
    record {
      fits = beat-fits w u b beat p.fits;
      sender = subst (λ (ps : List Port). IsAt ps y.sender n) (sym ports) p.sender;
      receiver = subst (λ (ps : List Port). IsAt ps y.receiver r) (sym ports) p.receiver;
      ledger = beat-ledger w u b n r y beat p.fits p.sender p.receiver p.ledger;
    }

pub weave-holds : (w v : World) (bs : List Beat) (n r : ℕ) (y : Way) → IsWeave w bs v → SoundLedger w y n r → SoundLedger v y n r
weave-holds w v [] n r y weave p = subst (λ u. SoundLedger u y n r) (sym weave) p
weave-holds w v (b ∷ bs) n r y weave p = weave-holds weave.0 v bs n r y weave.2 (beat-holds w weave.0 b n r y weave.1 p)

pub opened-holds : (s : State) (y : Way) → SoundWorld (at_work (opened s))
    → SoundLedger (at_work (opened s)) y (node_in s.fixed.ports y.sender) (node_in s.fixed.ports y.receiver)
opened-holds s y fits = record {
  fits = fits;
  sender = refl;
  receiver = refl;
  ledger = record {
    holding = record { waits = least (buffer_on s.fixed y + 0); hand = least 0 };
    borrows = opened-borrows s;
    releases = λ k. tt;
    fresh = λ k e may. absurd (never-so e);
    balanced = λ live. record { counts = λ k. refl; size = least (buffer_on s.fixed y + borrow_limit_on s.fixed y + 1) };
  };
}
  where
    never-so : false ≡ true → ⊥
    never-so e = cc

pub holds-in-the-end : (s : State) (v : World) (bs : List Beat) (y : Way) → IsOnWire s bs v
    → SoundLedger v y (node_in v.state.fixed.ports y.sender) (node_in v.state.fixed.ports y.receiver)
holds-in-the-end s v bs y on =
    let n : ℕ = node_in s.fixed.ports y.sender in
    let r : ℕ = node_in s.fixed.ports y.receiver in
    let p : SoundLedger v y n r = weave-holds (at_work (opened s)) v bs n r y on.1 (opened-holds s y (opened-fits s on.0)) in
    subst (λ k. SoundLedger v y k (node_in v.state.fixed.ports y.receiver)) (sym p.sender) (subst (λ k. SoundLedger v y n k) (sym p.receiver) p)

balanced-in-the-end : (s : State) (v : World) (bs : List Beat) (y : Way) → IsOnWire s bs v → IsLive v.state.fixed y
    → Balanced v.state.fixed v.state v.doing y (node_in v.state.fixed.ports y.sender) (node_in v.state.fixed.ports y.receiver)
balanced-in-the-end s v bs y on live = (holds-in-the-end s v bs y on).ledger.balanced live

-- ---- what is out, as one list

pub count-out : (value : ℕ → Bool) (v : World) (y : Way) → count value (out_on v y) ≡ out value v.state y (had_on v y)
count-out value v y =
    count-append value (serials_of (v.state.waiting y)) (had_on v y ++ (v.state.returned y ++ v.state.in_hand y))
    ∙ joins (count value (serials_of (v.state.waiting y))) (count value (had_on v y)) (count value (v.state.returned y)) (count value (v.state.in_hand y))
    (count value (v.state.returned y ++ v.state.in_hand y)) (count value (had_on v y ++ (v.state.returned y ++ v.state.in_hand y)))
    (count-append value (had_on v y) (v.state.returned y ++ v.state.in_hand y)) (count-append value (v.state.returned y) (v.state.in_hand y))
  where
    joins : (a b c d e f : ℕ) → f ≡ b + e → e ≡ c + d → a + f ≡ a + b + c + d
    joins a b c d e f p q = omega arith

pub counts-record : (s : State) (v : World) (bs : List Beat) (y : Way) (k : ℕ) → IsOnWire s bs v → IsLive v.state.fixed y
    → count (is k) (out_on v y) ≡ one_if (v.state.delivered y k)
counts-record s v bs y k on live = count-out (is k) v y ∙ (balanced-in-the-end s v bs y on live).counts k

pub among-counts : (k : ℕ) (ks : List ℕ) → IsAmong k ks → 1 ≤ count (is k) ks
among-counts k [] a = absurd a
among-counts k (j ∷ js) (inl e) =
    subst (λ i. 1 ≤ count (is k) (i ∷ js)) e (least (count (is k) js) (count (is k) (k ∷ js)) (is-itself k js))
  where
    least : (a b : ℕ) → b ≡ 1 + a → 1 ≤ b
    least a b e = omega arith
among-counts k (j ∷ js) (inr a) = more (count (is k) js) (one_if (k == j)) (count (is k) (j ∷ js)) (among-counts k js a) (count-cons (is k) j js)
  where
    more : (a b c : ℕ) → 1 ≤ a → c ≡ b + a → 1 ≤ c
    more a b c p q = omega arith

pub counts-among : (k : ℕ) (ks : List ℕ) → 1 ≤ count (is k) ks → IsAmong k ks
counts-among k [] p = absurd (omega arith)
counts-among k (j ∷ js) p = by_case (k == j) refl (counts-among k js) (subst (λ a. 1 ≤ a) (count-cons (is k) j js) p)
  where
    rest : (a : ℕ) → 1 ≤ 0 + a → 1 ≤ a
    rest a p = omega arith

    by_case : (b : Bool) → (k == j) ≡ b → (1 ≤ count (is k) js → IsAmong k js) → 1 ≤ one_if b + count (is k) js → IsAmong k (j ∷ js)
    by_case true e there q = inl (eqb-true k j e)
    by_case false e there q = inr (there (rest (count (is k) js) q))

pub once-distinct : (ks : List ℕ) → ((k : ℕ) → count (is k) ks ≤ 1) → AreDistinct ks
once-distinct [] p = tt
once-distinct (j ∷ js) p = (
  false_if (has_number j js) (λ e. twice (count (is j) js) (count (is j) (j ∷ js)) (is-itself j js) (p j) (among-counts j js (number-among j js e))),
  once-distinct js (λ k. less (count (is k) js) (one_if (k == j)) (count (is k) (j ∷ js)) (count-cons (is k) j js) (p k)),
)
  where
    twice : (a b : ℕ) → b ≡ 1 + a → b ≤ 1 → 1 ≤ a → ⊥
    twice a b e p q = omega arith

    less : (a b c : ℕ) → c ≡ b + a → c ≤ 1 → a ≤ 1
    less a b c e p = omega arith

-- where each serial is out as often as it is delivered, once or not at all, it is out once
abbrev pub IsCounted : World → Way → Type 0
IsCounted v y = (k : ℕ) → count (is k) (out_on v y) ≡ one_if (v.state.delivered y k)

pub counted-once : (v : World) (y : Way) → IsCounted v y → AreDistinct (out_on v y)
counted-once v y counted = once-distinct (out_on v y) (λ k. few (v.state.delivered y k) (counted k))
  where
    few : {a : ℕ} (b : Bool) → a ≡ one_if b → a ≤ 1
    few true e = omega arith
    few false e = omega arith

-- and what is delivered is just what is out
pub counted-record : (v : World) (y : Way) (k : ℕ) → IsCounted v y → v.state.delivered y k ≡ has_number k (out_on v y)
counted-record v y k counted = by_case (v.state.delivered y k) (counted k)
  where
    some : (a : ℕ) → a ≡ 1 → 1 ≤ a
    some a e = omega arith

    none : (a : ℕ) → a ≡ 0 → 1 ≤ a → ⊥
    none a e p = omega arith

    by_case : (b : Bool) → count (is k) (out_on v y) ≡ one_if b → b ≡ has_number k (out_on v y)
    by_case true e = sym (among-number k (out_on v y) (counts-among k (out_on v y) (some (count (is k) (out_on v y)) e)))
    by_case false e = sym (false_if (has_number k (out_on v y))
        (λ h. none (count (is k) (out_on v y)) e (among-counts k (out_on v y) (number-among k (out_on v y) h))))

pub out_once : OutOnce
out_once s v bs y on live = counted-once v y (λ k. counts-record s v bs y k on live)

pub record_is_what_is_out : RecordIsWhatIsOut
record_is_what_is_out s v bs y k on live = counted-record v y k (λ j. counts-record s v bs y j on live)

-- ---- the bound

pub length-out : (v : World) (y : Way) → out any v.state y (had_on v y) ≡ size_of v y + length (v.state.in_hand y)
length-out v y =
    sums (count any (serials_of (v.state.waiting y))) (count any (had_on v y)) (count any (v.state.returned y)) (count any (v.state.in_hand y))
    (length (v.state.waiting y)) (length (had_on v y)) (length (v.state.returned y)) (length (v.state.in_hand y))
    (count-all (serials_of (v.state.waiting y)) ∙ length-map (v.state.waiting y) (λ (m : Message). m.serial)) (count-all (had_on v y))
    (count-all (v.state.returned y))
    (count-all (v.state.in_hand y))
  where
    sums : (a b c d e f g h : ℕ) → a ≡ e → b ≡ f → c ≡ g → d ≡ h → a + b + c + d ≡ e + f + g + h
    sums a b c d e f g h p q r t = omega arith

pub ledger_stays_within : LedgerStaysWithin
ledger_stays_within s v bs y on live =
    subst (λ a. a ≤ room_of v y) (length-out v y) (room (is_emptied v y) (balanced-in-the-end s v bs y on live).size)
  where
    room : (b : Bool) → out any v.state y (had_on v y) ≤ buffer_on v.state.fixed y + borrow_limit_on v.state.fixed y + one_if (not b)
        → out any v.state y (had_on v y) ≤ buffer_on v.state.fixed y + borrow_limit_on v.state.fixed y + (if b then 0 else 1)
    room true p = p
    room false p = p

pub returns_fit : ReturnsFit
returns_fit s v bs y on live =
    part (length (v.state.waiting y)) (length (had_on v y)) (length (v.state.returned y)) (length (v.state.in_hand y)) (buffer_on v.state.fixed y)
    (borrow_limit_on v.state.fixed y) (if is_emptied v y then 0 else 1) (at_most_one (is_emptied v y)) (ledger_stays_within s v bs y on live)
  where
    at_most_one : (b : Bool) → (if b then 0 else 1) ≤ 1
    at_most_one true = omega arith
    at_most_one false = omega arith

    part : (a b c d e f g : ℕ) → g ≤ 1 → a + b + c + d ≤ e + f + g → c ≤ e + f + 1
    part a b c d e f g p q = omega arith
