use Rattle.std.proofs.Common.{◌≡◌, ℕ, ◌-◌, ◌<◌, ◌≤◌, List, length, get_or, ap, ap₂, ◌∙◌, arith}
use Rattle.std.proofs.lemmas.Grind.{get_or_default_zero}
use Rattle.iox_model.specs.declared.kind.Role.{Role}
use Rattle.iox_model.specs.declared.kind.Role.TheVariants.{Client, Server}
use Rattle.iox_model.specs.Settings.{other_role}
use Rattle.iox_wire_locals.specs.NewLoans.{received_length}
use Rattle.iox_wire_locals.specs.Stored.{header_length}
use Rattle.iox_wire_receives.specs.Receipts.{Receipt}
use Rattle.iox_wire_receives.proofs.receiving.Receiving.request.Goals as goal

-- a header has two words at least
two_words : (role : Role) → 2 ≤ header_length (other_role role)
two_words Client = omega arith
two_words Server = omega arith

pub returns : goal.returns
returns c =
    let xs : List ℕ = c.self.inside.header.items in
    let same : length xs ≡ received_length c.args.self.now.visit = ap (λ (r : Receipt). length r.header) c.self.view_is ∙ c.requires in
    let two : 2 ≤ received_length c.args.self.now.visit = two_words c.args.self.now.visit.role in
    let len = c.len.ensures in let size = c.self.inside.header.ok.0 in
    let is : c.len.result ≡ received_length c.args.self.now.visit = omega (arith, len, size, same) in
    let within : c.len.result - 2 < length xs = omega (arith, is, same, two) in
    c.index.ensures ∙ get_or_default_zero xs (c.len.result - 2) c.index.result.now within
    ∙ ap₂ (λ (ys : List ℕ) (k : ℕ). get_or ys (k - 2) 0) (ap (λ (r : Receipt). r.header) c.self.view_is) is
