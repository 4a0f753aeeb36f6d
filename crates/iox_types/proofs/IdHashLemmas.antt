-- What of an identifier is hashed tells it.
use Rattle.std.proofs.Common.{ℕ, ◌≡◌, ◌<◌, ◌^◌, ◌∷◌, List, [], arith, refl, sym, ap, ◌∙◌, get_or, drop}
use Rattle.std.specs.Int.{w32, w64, to_le_bytes, from_le_bytes}
use Rattle.std.proofs.lemmas.Nat.{from_le_bytes-to_le_bytes_4, from_le_bytes-to_le_bytes_8}
use Rattle.std.specs.Hash.{le_bytes}
use Rattle.iox_types.specs.Identifiers.{IsId}
use Rattle.iox_types.specs.PortIds.{IsPortId, made_by}
use Rattle.iox_types.specs.contracts.identifiers.port_id.UniquePortIdHash.TheImpl.{ghosts}
use Rattle.iox_types.specs.declared.identifiers.port_id.UniquePortId.{UniquePortId}
use Rattle.iox_types.specs.declared.identifiers.port_id.UniquePortId.TheVariants.{Publisher, Subscriber, Notifier, Listener, Client, Server, Reader, Writer}
use Rattle.iox_types.specs.declared.identifiers.system_id.UniqueSystemId.{UniqueSystemId}

bytes_of_four : (n : ℕ) → le_bytes 4 n ≡ to_le_bytes w32 n
unfolding le_bytes
bytes_of_four n = refl

-- four bytes tell their number
told_by_bytes : (m n : ℕ) → m < 2 ^ 32 → n < 2 ^ 32 → le_bytes 4 m ≡ le_bytes 4 n → m ≡ n
told_by_bytes m n hm hn e =
    sym (from_le_bytes-to_le_bytes_4 m hm)
    ∙ (ap (from_le_bytes w32) (sym (bytes_of_four m) ∙ (e ∙ bytes_of_four n))
    ∙ from_le_bytes-to_le_bytes_4 n hn)

-- the fields of an identifier as they are hashed, one after another
abbrev hashed : UniqueSystemId → List (List ℕ)
hashed id =
    le_bytes 4 id.process ∷ le_bytes 4 id.seconds ∷ le_bytes 4 id.nanoseconds ∷ le_bytes 4 id.counter ∷ []

pub told_by_hash : (a b : UniqueSystemId) → IsId a → IsId b → hashed a ≡ hashed b → a ≡ b
told_by_hash a b ha hb e =
    let nth : (i : ℕ) → get_or (hashed a) i [] ≡ get_or (hashed b) i [] = λ i. ap (λ zs. get_or zs i []) e in
    let p : a.process ≡ b.process = told_by_bytes a.process b.process ha.process hb.process (nth 0) in
    let s : a.seconds ≡ b.seconds = told_by_bytes a.seconds b.seconds ha.seconds hb.seconds (nth 1) in
    let n : a.nanoseconds ≡ b.nanoseconds =
    told_by_bytes a.nanoseconds b.nanoseconds ha.nanoseconds hb.nanoseconds (nth 2) in
    let c : a.counter ≡ b.counter = told_by_bytes a.counter b.counter ha.counter hb.counter (nth 3) in
    grind (arith, p, s, n, c)

-- ---- identifiers of ports: the kind is hashed first

abbrev kind_of : UniquePortId → ℕ
kind_of (Publisher id) = 0
kind_of (Subscriber id) = 1
kind_of (Notifier id) = 2
kind_of (Listener id) = 3
kind_of (Client id) = 4
kind_of (Server id) = 5
kind_of (Reader id) = 6
kind_of (Writer id) = 7

abbrev hashed_port : UniquePortId → List (List ℕ)
hashed_port a = le_bytes 8 (kind_of a) ∷ hashed (made_by a)

hash_of_port : (a : UniquePortId) → ghosts.hash_input a ≡ hashed_port a
hash_of_port (Publisher id) = refl
hash_of_port (Subscriber id) = refl
hash_of_port (Notifier id) = refl
hash_of_port (Listener id) = refl
hash_of_port (Client id) = refl
hash_of_port (Server id) = refl
hash_of_port (Reader id) = refl
hash_of_port (Writer id) = refl

kind_below : (a : UniquePortId) → kind_of a < 8
kind_below (Publisher id) = omega arith
kind_below (Subscriber id) = omega arith
kind_below (Notifier id) = omega arith
kind_below (Listener id) = omega arith
kind_below (Client id) = omega arith
kind_below (Server id) = omega arith
kind_below (Reader id) = omega arith
kind_below (Writer id) = omega arith

abbrev of_kind : ℕ → UniqueSystemId → UniquePortId
of_kind k id =
    get_or
    (Publisher id ∷ Subscriber id ∷ Notifier id ∷ Listener id
    ∷ Client id ∷ Server id ∷ Reader id ∷ Writer id ∷ [])
    k (Writer id)

same_of_kind : (a : UniquePortId) → of_kind (kind_of a) (made_by a) ≡ a
same_of_kind (Publisher id) = refl
same_of_kind (Subscriber id) = refl
same_of_kind (Notifier id) = refl
same_of_kind (Listener id) = refl
same_of_kind (Client id) = refl
same_of_kind (Server id) = refl
same_of_kind (Reader id) = refl
same_of_kind (Writer id) = refl

bytes_of_eight : (n : ℕ) → le_bytes 8 n ≡ to_le_bytes w64 n
unfolding le_bytes
bytes_of_eight n = refl

told_by_eight_bytes : (m n : ℕ) → m < 2 ^ 64 → n < 2 ^ 64 → le_bytes 8 m ≡ le_bytes 8 n → m ≡ n
told_by_eight_bytes m n hm hn e =
    sym (from_le_bytes-to_le_bytes_8 m hm)
    ∙ (ap (from_le_bytes w64) (sym (bytes_of_eight m) ∙ (e ∙ bytes_of_eight n))
    ∙ from_le_bytes-to_le_bytes_8 n hn)

same_kind : (a b : UniquePortId) → hashed_port a ≡ hashed_port b → kind_of a ≡ kind_of b
same_kind a b e =
    let ka = kind_below a in
    let kb = kind_below b in
    told_by_eight_bytes (kind_of a) (kind_of b) (omega arith) (omega arith) (ap (λ zs. get_or zs 0 []) e)

pub told_by_port_hash : (a b : UniquePortId) → IsPortId a → IsPortId b
    → ghosts.hash_input a ≡ ghosts.hash_input b → a ≡ b
told_by_port_hash a b ha hb h =
    let e : hashed_port a ≡ hashed_port b = sym (hash_of_port a) ∙ (h ∙ hash_of_port b) in
    let who : made_by a ≡ made_by b = told_by_hash (made_by a) (made_by b) ha hb (ap (drop 1) e) in
    let kind : kind_of a ≡ kind_of b = same_kind a b e in
    sym (same_of_kind a) ∙ (ap (λ k. of_kind k (made_by a)) kind ∙ (ap (of_kind (kind_of b)) who ∙ same_of_kind b))
