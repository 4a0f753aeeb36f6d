-- Identifiers and roles that are one.
use Rattle.std.proofs.Common.{◌≡◌, ◌==◌, ◌&&◌, ℕ, zero, suc, Bool, true, false, refl, ap, sym, ◌∙◌, arith}
use Rattle.std.proofs.lemmas.Bool.{and_parts, and_from, eqb-true, eq-eqb, false_from_ne_true}
use Rattle.iox_types.specs.declared.identifiers.system_id.UniqueSystemId.{UniqueSystemId}
use Rattle.iox_registry.specs.declared.roles.Role.{Role}
use Rattle.iox_registry.specs.declared.roles.Role.TheVariants.{Node, Client, Server, Publisher, Subscriber, Notifier, Listener, Reader, Writer}
use Rattle.iox_registry.specs.Registers.{role_number, same_id, same_role}

four : (a b : UniqueSystemId) → a.process ≡ b.process → a.seconds ≡ b.seconds → a.nanoseconds ≡ b.nanoseconds
    → a.counter ≡ b.counter → a ≡ b
four a b p s n c = parts _ _ _ _ _ _ _ _ p s n c
  where
    parts : (p s n c p' s' n' c' : ℕ) → p ≡ p' → s ≡ s' → n ≡ n' → c ≡ c'
        → ◌≡◌ {A = UniqueSystemId} (record { process = p; seconds = s; nanoseconds = n; counter = c })
        (record { process = p'; seconds = s'; nanoseconds = n'; counter = c' })
    parts p s n c p' s' n' c' ep es en ec = rw (ep, es, en, ec) refl

pub same_id-is : (a b : UniqueSystemId) → same_id a b ≡ true → a ≡ b
same_id-is a b same =
    let one = and_parts _ _ same in
    let two = and_parts _ _ one.1 in
    let three = and_parts _ _ two.1 in
    four a b (eqb-true _ _ one.0) (eqb-true _ _ two.0) (eqb-true _ _ three.0) (eqb-true _ _ three.1)

pub same_id-of : (a b : UniqueSystemId) → a ≡ b → same_id a b ≡ true
same_id-of a b same = rw same (
    and_from _ _ (eq-eqb b.process _ refl) (
    and_from _ _ (eq-eqb b.seconds _ refl) (
    and_from _ _ (eq-eqb b.nanoseconds _ refl) (eq-eqb b.counter _ refl))))

pub same_id-not : (a b : UniqueSystemId) → (a ≡ b → ⊥) → same_id a b ≡ false
same_id-not a b differ = false_from_ne_true _ (λ same. differ (same_id-is a b same))

role_of : ℕ → Role
role_of zero = Node
role_of (suc zero) = Client
role_of (suc (suc zero)) = Server
role_of (suc (suc (suc zero))) = Publisher
role_of (suc (suc (suc (suc zero)))) = Subscriber
role_of (suc (suc (suc (suc (suc zero))))) = Notifier
role_of (suc (suc (suc (suc (suc (suc zero)))))) = Listener
role_of (suc (suc (suc (suc (suc (suc (suc zero))))))) = Reader
role_of (suc (suc (suc (suc (suc (suc (suc (suc n)))))))) = Writer

back : (role : Role) → role_of (role_number role) ≡ role
unfolding role_of
back Node = refl
back Client = refl
back Server = refl
back Publisher = refl
back Subscriber = refl
back Notifier = refl
back Listener = refl
back Reader = refl
back Writer = refl

pub same_role-is : (a b : Role) → same_role a b ≡ true → a ≡ b
same_role-is a b same = sym (back a) ∙ ap role_of (eqb-true _ _ same) ∙ back b

pub same_role-of : (a b : Role) → a ≡ b → same_role a b ≡ true
same_role-of a b same = rw same (eq-eqb (role_number b) _ refl)
