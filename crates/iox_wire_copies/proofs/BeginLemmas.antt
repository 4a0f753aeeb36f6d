-- How the loan of a copy begins.
use Rattle.std.proofs.Common.{◌≡◌, ℕ, Bool, true, false, List, [], ◌∷◌, Some, None, length, take, refl, ap, sym, ◌∙◌}
use Rattle.std.proofs.Math.Seq.{take-length}
use Rattle.std.specs.Prelude.{Option, not, nat_le, if◌then◌else◌}
use Rattle.iox_model.specs.Loans.{fits_size, lending_ways}
use Rattle.iox_model.specs.Maps.{or_else, refused_if}
use Rattle.iox_model.specs.Settings.{Shape, is_count, shape_of}
use Rattle.iox_model.specs.States.{Port}
use Rattle.iox_model.specs.declared.way.Way.{Way}
use Rattle.iox_wire_locals.specs.declared.local.CallRefusal.{CallRefusal}
use Rattle.iox_wire_locals.specs.declared.local.CallRefusal.TheVariants.{ExceedsMaxLoanSize, WrongLength}
use Rattle.iox_wire_locals.specs.declared.local.Ending.TheVariants.{Refuses}
use Rattle.iox_wire_locals.specs.declared.seat.Seat.{Seat}
use Rattle.iox_wire_locals.specs.declared.table.NewLoan.{NewLoan}
use Rattle.iox_wire_locals.specs.Courses.{ended, loaning, takes_slot}
use Rattle.iox_wire_locals.specs.Known.{free_slots, known}
use Rattle.iox_wire_locals.specs.declared.table.Entry.{Entry}
use Rattle.iox_wire_locals.specs.Lendings.{lends, lends_request, lends_response, new_request, new_response, request_refusal, response_refusal}
use Rattle.iox_wire_locals.specs.NewLoans.{loan_in}
use Rattle.iox_wire_locals.specs.Tables.{Setting}
use Rattle.iox_wire_request_sends.specs.Lender.{Lender}
use Rattle.iox_wire_request_sends.specs.Lenders.{HasClientLimits, LenderIsTold, HasServerLimits}
use Rattle.iox_wire_copies.specs.Copies.{copy_of}
use Rattle.iox_wire_copies.specs.CopyAims.{HasSamePeers}
use Rattle.iox_wire_copies.proofs.CopyLemmas.{copied}

-- ---- the copy begins as its loan does that is told without the payload

takes_copied : (x : Seat) (o : NewLoan) (payload free : List ℕ) → takes_slot x (copy_of o payload) free ≡ copied payload (takes_slot x o free)
takes_copied x o payload [] = refl
takes_copied x o payload (slot ∷ free) = refl

loans_copied : (x : Seat) (o : NewLoan) (payload : List ℕ) (left : List Way) → loaning x (copy_of o payload) left ≡ copied payload (loaning x o left)
loans_copied x o payload [] = takes_copied x o payload (free_slots x o.port)
loans_copied x o payload (w ∷ left) = refl

lends_copied : (p : Setting) (x : Seat) (r : Option CallRefusal) (o : NewLoan) (payload : List ℕ) → lends p x r (copy_of o payload) ≡ copied payload (lends p x r o)
lends_copied p x (Some r) o payload = refl
lends_copied p x None o payload = loans_copied x o payload (lending_ways (known p x) (loan_in p o))

either_copied : (b : Bool) (x : Seat) (y z : Seat) (payload : List ℕ) → y ≡ copied payload z
    → (if b then y else ended x (Refuses WrongLength)) ≡ copied payload (if b then z else ended x (Refuses WrongLength))
either_copied true x y z payload same = same
either_copied false x y z payload same = refl

pub begins_copied : (p : Setting) (x : Seat) (q : Port) (k : ℕ) (payload : List ℕ)
    → lends_request p x q k payload true ≡ copied payload (lends_request p x q k [] false)
begins_copied p x q k payload =
    either_copied (is_count p.limits.request k) x _ _ payload
    (lends_copied p x (request_refusal p x q k) (new_request p x q k [] false) payload)

pub responds_copied : (p : Setting) (x : Seat) (e : Entry) (k : ℕ) (payload : List ℕ)
    → lends_response p x e k payload true ≡ copied payload (lends_response p x e k [] false)
responds_copied p x e k payload =
    either_copied (is_count p.limits.response k) x _ _ payload
    (lends_copied p x (response_refusal p x e (p.port e.port) k) (new_response p x e k [] false) payload)

-- ---- what is too long is refused whatever its payload

either_alike : (b : Bool) (x y z : Seat) → y ≡ z → (if b then y else ended x (Refuses WrongLength)) ≡ (if b then z else ended x (Refuses WrongLength))
either_alike b x y z same = ap (λ (s : Seat). if b then s else ended x (Refuses WrongLength)) same

refused_alike : (p : Setting) (x : Seat) (fits : Bool) (rest : Option CallRefusal) (o : NewLoan) (payload : List ℕ) → fits ≡ false
    → lends p x (or_else (refused_if (not fits) ExceedsMaxLoanSize) rest) (copy_of o payload)
    ≡ lends p x (or_else (refused_if (not fits) ExceedsMaxLoanSize) rest) (copy_of o [])
refused_alike p x fits rest o payload is =
    ap (λ (b : Bool). lends p x (or_else (refused_if (not b) ExceedsMaxLoanSize) rest) (copy_of o payload)) is
    ∙ sym (ap (λ (b : Bool). lends p x (or_else (refused_if (not b) ExceedsMaxLoanSize) rest) (copy_of o [])) is)

too_big : (p : Setting) (t : Lender) (shape : Shape) (k : ℕ) → LenderIsTold p t → shape_of p.limits t.role ≡ shape → nat_le k t.longest ≡ false
    → fits_size (p.port t.port) shape k ≡ false
too_big p t shape k lender is long =
    ap (λ (s : Shape). fits_size (p.port t.port) s k) (sym (ap (shape_of p.limits) lender.role ∙ is))
    ∙ lender.longest k ∙ long

pub too_long : (p : Setting) (x : Seat) (t : Lender) (k : ℕ) (payload : List ℕ) → LenderIsTold p t → HasClientLimits p t → nat_le k t.longest ≡ false
    → lends_request p x (p.port t.port) k payload true ≡ lends_request p x (p.port t.port) k [] true
too_long p x t k payload lender client long =
    either_alike (is_count p.limits.request k) x _ _
    (refused_alike p x (fits_size (p.port t.port) p.limits.request k) _ (new_request p x (p.port t.port) k [] false) payload
    (too_big p t p.limits.request k lender (ap (shape_of p.limits) client.role) long))

pub too_long_response : (p : Setting) (x : Seat) (t : Lender) (e : Entry) (k : ℕ) (payload : List ℕ) → LenderIsTold p t → HasServerLimits p t → e.port ≡ t.port
    → nat_le k t.longest ≡ false → lends_response p x e k payload true ≡ lends_response p x e k [] true
too_long_response p x t e k payload lender server port long =
    either_alike (is_count p.limits.response k) x _ _
    (refused_alike p x (fits_size (p.port e.port) p.limits.response k) _ (new_response p x e k [] false) payload
    (ap (λ (n : ℕ). fits_size (p.port n) p.limits.response k) port
    ∙ too_big p t p.limits.response k lender (ap (shape_of p.limits) server.role) long))

-- ---- the node knows of the same nodes

takes_peers : (x : Seat) (o : NewLoan) (free : List ℕ) → HasSamePeers x (takes_slot x o free)
takes_peers x o [] = record { node = refl; forgot = refl }
takes_peers x o (slot ∷ free) = record { node = refl; forgot = refl }

loans_peers : (x : Seat) (o : NewLoan) (left : List Way) → HasSamePeers x (loaning x o left)
loans_peers x o [] = takes_peers x o (free_slots x o.port)
loans_peers x o (w ∷ left) = record { node = refl; forgot = refl }

lends_peers : (p : Setting) (x : Seat) (r : Option CallRefusal) (o : NewLoan) → HasSamePeers x (lends p x r o)
lends_peers p x (Some r) o = record { node = refl; forgot = refl }
lends_peers p x None o = loans_peers x o (lending_ways (known p x) (loan_in p o))

either_peers : (b : Bool) (x y : Seat) → HasSamePeers x y → HasSamePeers x (if b then y else ended x (Refuses WrongLength))
either_peers true x y peers = peers
either_peers false x y peers = record { node = refl; forgot = refl }

pub begins_peers : (p : Setting) (x y : Seat) (q : Port) (k : ℕ) → y ≡ lends_request p x q k [] false → HasSamePeers x y
begins_peers p x y q k is =
    let peers : HasSamePeers x (lends_request p x q k [] false) =
    either_peers (is_count p.limits.request k) x _ (lends_peers p x (request_refusal p x q k) (new_request p x q k [] false)) in
    record {
      node = ap (λ (z : Seat). z.node) is ∙ peers.node;
      forgot = ap (λ (z : Seat). z.forgot) is ∙ peers.forgot;
    }

-- ---- the whole payload, or none of what is too long

pub whole_payload : (words : List ℕ) (kept : ℕ) → kept ≡ length words → take kept words ≡ words
whole_payload words kept is = ap (λ (n : ℕ). take n words) is ∙ take-length words

-- a copy with what is kept of its payload begins as it does with all of it
pub kept_whole : (begins : List ℕ → Seat) (words kept : List ℕ) (n : ℕ) → kept ≡ take n words → n ≡ length words → begins kept ≡ begins words
kept_whole begins words kept n is all = ap begins (is ∙ whole_payload words n all)

pub kept_none : (begins : List ℕ → Seat) (words kept : List ℕ) (n : ℕ) → begins words ≡ begins [] → kept ≡ take n words → n ≡ 0 → begins kept ≡ begins words
kept_none begins words kept n alike is none =
    ap begins (is ∙ ap (λ (m : ℕ). take m words) none) ∙ sym alike
