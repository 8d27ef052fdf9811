-- The list of all elements has each once.
use Rattle.std.specs.Prelude.{◌≡◌, ◌≢◌, ℕ, ◌+◌, ◌%◌, ◌<◌, ◌≤◌, map}
use Rattle.std.specs.List.{AllByRecursion, range_with_len}
use Rattle.std.proofs.Common.{zero, suc, sym, ap, ◌∙◌, arith}
use Rattle.std.proofs.lemmas.List.FromFn.{length-map-range_with_len}
use Rattle.std.proofs.Math.Nat.{mod-eq_of_lt}
use Rattle.lzk_field.specs.Coding.{Coding}
use Rattle.lzk_field.specs.Ring.{Ops, NumberLaws}
use Rattle.lzk_soundness.specs.Chance.Few.{AreDistinct}
use Rattle.lzk_soundness.proofs.ExtractLaws.Searching.{elements_have}
use Rattle.lzk_soundness.specs.Count.Laws.{ElementsAreAll}

module _ {A : Type 0} {o : Ops A} (e : Coding A) (laws : NumberLaws o e.size e.number e.element e.bytes) where
  elements_apart : (i j : ℕ) → i < j → j < e.size → e.element i ≢ e.element j
  elements_apart i j l h same =
      let number : i % e.size ≡ j % e.size = sym (laws.number_element i) ∙ ap e.number same ∙ laws.number_element j in
      let is : i ≡ j = sym (mod-eq_of_lt {n = i} {m = e.size} (omega (arith, l, h))) ∙ number ∙ mod-eq_of_lt {n = j} {m = e.size} h in
      absurd (omega (arith, is, l))

  differ : (i a k : ℕ) → i < a → a + k ≤ e.size → AllByRecursion (λ y. e.element i ≢ y) (map e.element (range_with_len a k))
  differ i a zero l h = tt
  differ i a (suc k) l h = (elements_apart i a l (omega (arith, h)), differ i (a + 1) k (omega (arith, l)) (omega (arith, h)))

  distinct : (a k : ℕ) → a + k ≤ e.size → AreDistinct (map e.element (range_with_len a k))
  distinct a zero h = tt
  distinct a (suc k) h = (differ a (a + 1) k (omega arith) (omega (arith, h)), distinct (a + 1) k (omega (arith, h)))

  pub elements_all : ElementsAreAll e
  elements_all = record {
    distinct = distinct 0 e.size (omega arith);
    every = elements_have e laws;
    count = length-map-range_with_len e.element 0 e.size;
  }
