-- Which place of a copy a client or a server is at.
use Rattle.std.proofs.Common.{◌≡◌, refl}
use Rattle.iox_wire_copies.specs.declared.at.CopierAt.{CopierAt}
use Rattle.iox_wire_copies.specs.declared.at.CopierAt.TheVariants as at
use Rattle.iox_wire_copies.specs.Copiers.{IsLending, IsSending}

pub copier_lends : (a : CopierAt) → IsLending a → a ≡ at.Lends
copier_lends at.Rest there = absurd there
copier_lends at.Refuses there = absurd there
copier_lends at.Lends there = refl
copier_lends at.Sends there = absurd there

pub copier_sends : (a : CopierAt) → IsSending a → a ≡ at.Sends
copier_sends at.Rest there = absurd there
copier_sends at.Refuses there = absurd there
copier_sends at.Lends there = absurd there
copier_sends at.Sends there = refl
