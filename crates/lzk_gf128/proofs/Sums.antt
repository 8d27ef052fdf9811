-- What the words of a product stand for, and sums of products.
use Rattle.std.specs.Prelude.{◌≡◌, ℕ, ◌+◌, ◌*◌, ◌/◌, ◌%◌, ◌^◌, ◌<◌, List, length, slice_index_or, bit_xor}
use Rattle.std.proofs.Common.{sym, ap, ◌∙◌, arith}
use Rattle.std.specs.Int.Bits.{xor_assoc}
use Rattle.std.proofs.Math.Numerals.{add-one}
use Rattle.std.proofs.lemmas.List.{get_or_default}
use Rattle.lzk_field.specs.Sums.{sum_below}
use Rattle.lzk_gf128.specs.declared.element.Gf128.{Gf128}
use Rattle.lzk_gf128.specs.Linear.{◌⊕◌, xor_swap}
use Rattle.lzk_gf128.proofs.Basis.{moved-xor, both_4, up_64}
use Rattle.lzk_gf128.specs.Product.{product, moved}
use Rattle.lzk_gf128.specs.Elements.{ops}

pub wide_plus : (a b c d : ℕ) → (a ⊕ b) ⊕ moved 128 (c ⊕ d) ≡ (a ⊕ moved 128 c) ⊕ (b ⊕ moved 128 d)
wide_plus a b c d = ap (λ w. (a ⊕ b) ⊕ w) (moved-xor 128 c d) ∙ xor_swap a b (moved 128 c) (moved 128 d)

-- one digit on: both words are moved, and two multiples are added, the second 64 places up
pub wide_digit : (low high x y : ℕ) → low < 2 ^ 128 → high < 2 ^ 124 → y < 2 ^ 128
    → (((low * 2 ^ 4 % 2 ^ 128) ⊕ x) ⊕ (y * 2 ^ 64 % 2 ^ 128)) ⊕ moved 128 (((high * 2 ^ 4 % 2 ^ 128) ⊕ (low / 2 ^ 124)) ⊕ (y / 2 ^ 64)) ≡ moved 4 (low ⊕ moved 128 high) ⊕ (x ⊕ moved 64 y)
wide_digit low high x y hl hh hy =
    let t = low * 2 ^ 4 % 2 ^ 128 in
    let u = (high * 2 ^ 4 % 2 ^ 128) ⊕ (low / 2 ^ 124) in
    let s = y * 2 ^ 64 % 2 ^ 128 in
    let o = y / 2 ^ 64 in
    ap (λ w. w ⊕ moved 128 (u ⊕ o)) (xor_assoc t x s)
    ∙ wide_plus t (x ⊕ s) u o
    ∙ ap (λ w. w ⊕ ((x ⊕ s) ⊕ moved 128 o)) (both_4 low high hl hh)
    ∙ ap (λ w. moved 4 (low ⊕ moved 128 high) ⊕ w) (xor_assoc x s (moved 128 o) ∙ ap (λ w. x ⊕ w) (sym (up_64 y hy)))

-- the sum of the first n products
abbrev pub first_products : List Gf128 → List Gf128 → ℕ → Gf128
first_products xs ys n = sum_below ops n (λ k. ops.times (slice_index_or xs k ops.zero) (slice_index_or ys k ops.zero))

-- one more product is added
pub one_more : (xs ys : List Gf128) (i before after : ℕ) (d e : Gf128) → i < length xs → length xs ≡ length ys → before ≡ (first_products xs ys i).n → after ≡ bit_xor before (product 128 (slice_index_or xs i d).n (slice_index_or ys i e).n) → after ≡ (first_products xs ys (i + 1)).n
one_more xs ys i before after d e h same sum more =
    let x = slice_index_or xs i d in
    let y = slice_index_or ys i e in
    let z = ops.zero in
    more
    ∙ ap (λ w. bit_xor w (product 128 x.n y.n)) sum
    ∙ ap (λ w. bit_xor (first_products xs ys i).n (product 128 w.n y.n)) (get_or_default xs i d z h)
    ∙ ap (λ w. bit_xor (first_products xs ys i).n (product 128 (slice_index_or xs i z).n w.n)) (get_or_default ys i e z (omega arith))
    ∙ ap (λ k. (first_products xs ys k).n) (sym (add-one i))
