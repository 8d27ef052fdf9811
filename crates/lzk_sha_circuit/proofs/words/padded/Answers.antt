use Rattle.std.proofs.Common.{◌≡◌, ◌≤◌, ◌+◌, ◌-◌, ◌*◌, ◌%◌, ◌++◌, ◌∷◌, [], ◌∙◌, ℕ, length, refl, ap, arith}
use Rattle.lzk_sha_circuit.proofs.Written.{filled, padded_is}
use Rattle.lzk_sha_circuit.proofs.words.padded.Goals as goal

add_more : (a b : ℕ) → a ≤ a + b
add_more a b = omega arith

pub returns : goal.returns
returns c =
    let m = c.args.message.now in
    let end = length m + (119 - length m % 64) % 64 in
    let marked : c.push.new.self.items ≡ m ++ 0x80 ∷ [] = c.in_ok-push.ensures.items ∙ ap (λ l. l ++ 0x80 ∷ []) c.in_ok-padded.ensures.items in
    let zeros = filled m c.push.new.self.items c.resize.new.self.items end _ marked c.push.new.self.ok.0 (add_more (length m) ((119 - length m % 64) % 64)) c.in_ok-resize.ensures.items in
    padded_is m c.resize.new.self.items c.extend_from_slice.new.self.items c.to_be_bytes.result end (8 * length m) c.requires refl zeros c.in_ok-extend_from_slice.ensures.items c.to_be_bytes.ensures refl
