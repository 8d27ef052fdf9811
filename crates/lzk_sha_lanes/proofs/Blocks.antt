-- The blocks of a padded message: those of the message, and the last ones.
use Rattle.std.proofs.Common.{◌≡◌, ℕ, ◌+◌, ◌-◌, ◌*◌, ◌/◌, ◌%◌, ◌^◌, ◌<◌, ◌≤◌, List, ◌++◌, length, take, drop, replicate, refl, sym, ap, ap₂, drop-drop, take-take, ◌∙◌, arith, length-append, length-drop}
use Rattle.std.proofs.lemmas.List.{take-append-le, drop-append-le, drop-take, length-replicate}
use Rattle.std.specs.Int.{w64, to_be_bytes}
use Rattle.sha2.specs.Sha256.{hash_after, compress, digest_bytes, initial_hash_256, padded_message, padding, sha256}
use Rattle.sha2.proofs.Absorbing256.{hash_after_next}
use Rattle.lzk_sha_lanes.specs.Lanes.{last_blocks, of_four}
use Rattle.lzk_sha_lanes.proofs.Side.{below_four}

-- a block of the message
pub hash_more : (ini m h : List ℕ) (n : ℕ) → n * 64 + 64 ≤ length m → h ≡ hash_after ini (padded_message m) n
    → compress h (take 64 (drop (n * 64) m)) ≡ hash_after ini (padded_message m) (n + 1)
hash_more ini m h n fits e =
    let pad : List ℕ = padding (length m) in
    let block : take 64 (drop (n * 64) (m ++ pad)) ≡ take 64 (drop (n * 64) m) =
    rw (drop-append-le (n * 64) m pad (omega arith)) (take-append-le 64 (drop (n * 64) m) pad (omega (arith, length-drop (n * 64) m))) in
    rw (hash_after_next ini (padded_message m) n, block, e) refl

-- a block of the last ones
pub hash_last : (ini m last h : List ℕ) (t : ℕ) → take (64 * last_blocks (length m)) last ≡ drop (length m / 64 * 64) (padded_message m)
    → t < last_blocks (length m) → h ≡ hash_after ini (padded_message m) (length m / 64 + t)
    → compress h (take 64 (drop (t * 64) last)) ≡ hash_after ini (padded_message m) (length m / 64 + (t + 1))
hash_last ini m last h t e lt eh =
    let q : ℕ = length m / 64 in
    let p : List ℕ = padded_message m in
    let k : ℕ = last_blocks (length m) in
    let r : ℕ = 64 * k - t * 64 in
    let whole : 64 * k ≡ t * 64 + r = omega arith in
    let room : 64 ≤ r = omega arith in
    let at : (q + t) * 64 ≡ q * 64 + t * 64 = omega arith in
    let next : q + (t + 1) ≡ q + t + 1 = omega arith in
    let block : take 64 (drop ((q + t) * 64) p) ≡ take 64 (drop (t * 64) last) =
    ap (λ (i : ℕ). take 64 (drop i p)) at
    ∙ ap (take 64) (sym (drop-drop (t * 64) (q * 64) p))
    ∙ ap (λ (x : List ℕ). take 64 (drop (t * 64) x)) (sym e)
    ∙ ap (λ (i : ℕ). take 64 (drop (t * 64) (take i last))) whole
    ∙ ap (take 64) (drop-take (t * 64) r last)
    ∙ take-take 64 r (drop (t * 64) last) room in
    ap₂ compress eh (sym block) ∙ sym (hash_after_next ini p (q + t)) ∙ ap (hash_after ini p) (sym next)

-- how many blocks a padded message has
pub padded_blocks : (m : List ℕ) → length (padded_message m) / 64 ≡ length m / 64 + last_blocks (length m)
padded_blocks m =
    let n : ℕ = length m in
    let z : ℕ = (119 - n % 64) % 64 in
    let bits : List ℕ = to_be_bytes w64 (n * 8 % 2 ^ 64) in
    let eight : length bits ≡ 8 = refl in
    let zeros : length (replicate {A = ℕ} z 0) ≡ z = length-replicate z 0 in
    let tail : length (replicate {A = ℕ} z 0 ++ bits) ≡ z + 8 = omega (arith, length-append (replicate {A = ℕ} z 0) bits, eight, zeros) in
    let long : length (padded_message m) ≡ n + (z + 9) = omega (arith, length-append m (padding n), tail) in
    omega (arith, long)

-- `last` begins with the last blocks of a padded message
abbrev pub IsLast : List ℕ → List ℕ → Type 0
IsLast m last = take (64 * last_blocks (length m)) last ≡ drop (length m / 64 * 64) (padded_message m)

-- the last blocks of each of four messages
pub last_each : (a b c d la lb lc ld : List ℕ) → IsLast a la → IsLast b lb → IsLast c lc → IsLast d ld
    → (j : ℕ) → j < 4 → IsLast (of_four a b c d j) (of_four la lb lc ld j)
last_each a b c d la lb lc ld ea eb ec ed =
    below_four (λ j. IsLast (of_four a b c d j) (of_four la lb lc ld j)) ea eb ec ed

-- the digest, once all blocks are taken in
pub digest_whole : (m h r : List ℕ) (n i : ℕ) → n ≡ length m → i ≡ last_blocks n
    → h ≡ hash_after initial_hash_256 (padded_message m) (n / 64 + i) → r ≡ digest_bytes h 8 → r ≡ sha256 m
unfolding sha256
digest_whole m h r n i en ei eh er =
    let count : n / 64 + i ≡ length (padded_message m) / 64 = omega (arith, padded_blocks m) in
    er ∙ ap (λ (x : List ℕ). digest_bytes x 8) (eh ∙ ap (hash_after initial_hash_256 (padded_message m)) count)
