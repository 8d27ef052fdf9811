-- The bits of a number, the lowest first, one after another.
use Rattle.std.specs.Prelude.{◌≡◌, ℕ, ◌+◌, ◌*◌, ◌/◌, ◌%◌, ◌^◌, ◌<◌, List, [], ◌∷◌, ◌++◌, length}
use Rattle.std.proofs.Common.{zero, suc, refl, sym, ap, ◌∙◌, arith, subst, mod-eq_of_lt}
use Rattle.std.proofs.Math.Nat.{pow-suc}
use Rattle.std.proofs.lemmas.List.{length-append}
use Rattle.lzk_goldilocks.specs.Elements.{of_number}
use Rattle.lzk_goldilocks.specs.declared.element.Gold.{Gold}
use Rattle.lzk_gadgets.specs.Spelled.{IsBit, AreBits, spelled, Spells}

-- what stands after k bits of a number
pub record Spelling (number k rest : ℕ) (bits : List Gold) : Type 0 where
  pub count : length bits ≡ k
  pub bits_are : AreBits bits
  pub number_is : number ≡ spelled bits + 2 ^ k * rest

bits-more : (xs : List Gold) (x : Gold) → AreBits xs → IsBit x → AreBits (xs ++ x ∷ [])
bits-more [] x h l = (l, tt)
bits-more (y ∷ ys) x h l = (h.0, bits-more ys x h.1 l)

spelled-more : (xs : List Gold) (x : Gold) → spelled (xs ++ x ∷ []) ≡ spelled xs + 2 ^ length xs * x.n
spelled-more [] x = omega arith
spelled-more (y ∷ ys) x = omega (arith, spelled-more ys x, ap (λ n. n * x.n) (pow-suc 2 (length ys)))

pub spelling-starts : (number : ℕ) → Spelling number 0 number []
spelling-starts number = record { count = refl; bits_are = tt; number_is = omega arith }

pub spelling-adds : (number k rest next : ℕ) (bits more : List Gold) (x : Gold) → x ≡ of_number (rest % 2) → next ≡ rest / 2 → more ≡ bits ++ x ∷ [] → Spelling number k rest bits → Spelling number (k + 1) next more
spelling-adds number k rest next bits more x ex en em h =
    let low : rest % 2 < 2 = omega arith in
    let is : x.n ≡ rest % 2 = ap (λ (u : Gold). u.n) ex ∙ mod-eq_of_lt (omega (arith, low)) in
    let power : 2 ^ length bits ≡ 2 ^ k = ap (λ n. 2 ^ n) h.count in
    let halves : rest ≡ rest % 2 + 2 * (rest / 2) = omega arith in
    let long : 2 ^ (k + 1) ≡ 2 * 2 ^ k = ap (λ n. 2 ^ n) (omega arith) ∙ pow-suc 2 k ∙ omega arith in
    record {
      count = ap length em ∙ omega (arith, length-append bits (x ∷ []), h.count);
      bits_are = subst AreBits (sym em) (bits-more bits x h.bits_are (omega (arith, is, low)));
      number_is = h.number_is ∙ moved (spelled bits) (2 ^ k) rest (rest % 2) (rest / 2) halves
          ∙ sym (ap (λ zs. spelled zs + 2 ^ (k + 1) * next) em ∙ ap (λ n. n + 2 ^ (k + 1) * next) (spelled-more bits x)
          ∙ ap (λ n. spelled bits + n * x.n + 2 ^ (k + 1) * next) power ∙ ap (λ n. spelled bits + 2 ^ k * n + 2 ^ (k + 1) * next) is
          ∙ ap (λ n. spelled bits + 2 ^ k * (rest % 2) + n * next) long ∙ ap (λ n. spelled bits + 2 ^ k * (rest % 2) + 2 * 2 ^ k * n) en);
    }
  where
    moved : (s w r a b : ℕ) → r ≡ a + 2 * b → s + w * r ≡ s + w * a + 2 * w * b
    moved s w r a b e = ap (λ n. s + w * n) e ∙ omega arith

pub spelling-ends : (number k rest : ℕ) (bits : List Gold) → number < 2 ^ k → Spelling number k rest bits → Spells number bits
spelling-ends number k zero bits l h = record { bits = h.bits_are; number = h.number_is ∙ omega arith }
spelling-ends number k (suc rest) bits l h = absurd (omega (arith, l, h.number_is, times-suc (2 ^ k) rest))
  where
    times-suc : (w n : ℕ) → w * suc n ≡ w + w * n
    times-suc w n = omega arith
