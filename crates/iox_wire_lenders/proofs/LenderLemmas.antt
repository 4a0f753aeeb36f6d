-- What a lender is told is so on the wire.
use Rattle.std.proofs.Common.{◌≡◌, ℕ, ◌*◌, ◌<◌, ◌≤◌, Bool, true, false, ◌||◌, ◌&&◌, ◌++◌, length, get_or, refl, ap, ap₂, sym, subst, ◌∙◌}
use Rattle.std.specs.Prelude.{nat_le, Option, Some, IsSomeAnd, slice_get}
use Rattle.std.proofs.lemmas.Bool.{leb-true}
use Rattle.iox_model.specs.declared.kind.Role.TheVariants.{Client, Server}
use Rattle.iox_model.specs.Loans.{fits_size}
use Rattle.iox_model.specs.Settings.{Shape, has_layout, shape_of}
use Rattle.iox_types.specs.Identifiers.{id_words}
use Rattle.iox_wire_ways.specs.PlanPort.{PlanPort}
use Rattle.iox_wire_ways.specs.WirePlan.{WirePlan}
use Rattle.iox_wire_ways.specs.Plans.{IsPlan, number_at}
use Rattle.iox_wire_ways.proofs.PlanLemmas.{number_is}
use Rattle.iox_wire_ways.specs.PlansOf.{IsAsPlanned}
use Rattle.iox_wire_ways.proofs.Planned.{each_planned}
use Rattle.iox_wire_lenders.specs.declared.terms.PortTerms.{PortTerms}
use Rattle.iox_wire_lenders.specs.declared.terms.WireTerms.{WireTerms}
use Rattle.iox_wire_lenders.specs.Terms.{IsPortWith, IsSettingWith, messages_of}
use Rattle.iox_wire_ways.specs.Lender.{Lender}
use Rattle.iox_wire_ways.specs.Lenders.{AreSlots, HasClientLimits, LenderIsTold, HasServerLimits}
use Rattle.iox_wire_ways.specs.Tables.{Setting, port_shape}

-- no message that fits lacks a layout
size_fits : (grows : Bool) (longest k : ℕ) (layout : Bool) → grows ≡ false → (k ≤ longest → layout ≡ true)
    → ((grows || nat_le k longest) && layout) ≡ nat_le k longest
size_fits grows longest k layout fixed has =
    ap (λ (g : Bool). (g || nat_le k longest) && layout) fixed ∙ by_case (nat_le k longest) refl
  where
    by_case : (b : Bool) → nat_le k longest ≡ b → (b && layout) ≡ b
    by_case true is = has (leb-true k longest is)
    by_case false is = refl

module _ (plan : WirePlan) (is : IsPlan plan) (i : ℕ) (q : PlanPort) (low : i < length plan.ports.items) (same : q ≡ get_or plan.ports.items i q)
    (t : WireTerms) (own : PortTerms) (told : slice_get t.ports.items i ≡ Some own) (p : Setting) (with : IsSettingWith plan t p) where
  number_there : number_at plan i ≡ q.number
  number_there = number_is plan is.numbers i q low ∙ ap (λ (r : PlanPort). r.number) (sym same)

  planned : IsAsPlanned q (p.port q.number)
  planned = subst (λ (r : PlanPort). IsAsPlanned r (p.port r.number)) (sym same) (each_planned p.port plan.ports.items with.setting.is_for.ports i q low)

  port_with : IsPortWith (p.port q.number) (port_shape p q.number) own
  port_with =
      subst (λ (n : ℕ). IsPortWith (p.port n) (port_shape p n) own) number_there
      (subst (λ (o : Option PortTerms). IsSomeAnd o (IsPortWith (p.port (number_at plan i)) (port_shape p (number_at plan i)))) told (with.ports i low))

  shape_there : port_shape p q.number ≡ shape_of p.limits q.role
  shape_there = ap (shape_of p.limits) planned.role

  module _ (t2 : Lender) (number : t2.port ≡ q.number) (role : t2.role ≡ q.role) where
    pub is_lender : t2.many ≡ (messages_of t q.role).many → t2.longest ≡ q.longest → t2.ids.now ≡ own.ids.items
        → t2.user.now ≡ (messages_of t q.role).user.items → AreSlots p (number_at plan i) t2.places → LenderIsTold p t2
    is_lender many longest ids user slots = record {
      number = ap (λ n. (p.port n).number) number ∙ planned.number ∙ sym number;
      role = ap (λ n. (p.port n).role) number ∙ planned.role ∙ sym role;
      many = ap (λ n. (port_shape p n).many) number ∙ ap (λ (x : Shape). x.many) shape_there ∙ with.many q.role ∙ sym many;
      longest = λ k.
          ap (λ n. fits_size (p.port n) (port_shape p n) k) number
          ∙ size_fits (p.port q.number).grows (p.port q.number).longest k (has_layout (port_shape p q.number) k) port_with.grows (port_with.layouts k)
          ∙ ap (nat_le k) (planned.longest ∙ sym longest);
      ids = ids ∙ port_with.ids ∙ ap (λ n. id_words (p.port n).node_id ++ id_words (p.port n).id) (sym number);
      user = user ∙ sym (with.user q.role) ∙ ap (λ (x : Shape). x.user) (sym shape_there) ∙ ap (λ n. (port_shape p n).user) (sym number);
      slots = subst (λ (n : ℕ). AreSlots p n t2.places) (number_there ∙ sym number) slots;
    }

    pub is_client : q.role ≡ Client → t2.limit ≡ t.loaned_requests → t2.pool ≡ q.pool → HasClientLimits p t2
    is_client kind limit pool = record {
      role = role ∙ kind;
      limit = with.loaned_requests ∙ sym limit;
      pool = ap (λ n. (p.port n).pool) number ∙ planned.pool ∙ sym pool;
    }

    pub is_server : q.role ≡ Server → t2.each ≡ own.loaned_responses → t2.limit ≡ own.loaned_responses * plan.limits.active_requests * t.clients → HasServerLimits p t2
    is_server kind each limit = record {
      role = role ∙ kind;
      each = ap (λ n. (p.port n).loaned_responses) number ∙ port_with.loaned_responses ∙ sym each;
      limit =
          ap₂ (λ n m. n * m * p.limits.clients) (ap (λ n. (p.port n).loaned_responses) number ∙ port_with.loaned_responses) (sym (with.setting.is_for.borrows Client))
          ∙ ap (λ n. own.loaned_responses * plan.limits.active_requests * n) with.clients
          ∙ sym limit;
    }
