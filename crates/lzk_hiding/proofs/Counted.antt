-- To all that passes lead equally many lists of random elements.
use Rattle.std.specs.Prelude.{◌≡◌, ℕ, ◌<◌, ◌^◌, List}
use Rattle.std.proofs.Common.{zero, suc, sym, ap, ◌∙◌, arith}
use Rattle.std.proofs.lemmas.List.{ext_get_or}
use Rattle.std.proofs.lemmas.List.FromFn.{length-map-range_with_len, get_or-map-range_with_len}
use Rattle.lzk_field.specs.Coding.{Coding}
use Rattle.lzk_field.specs.Ring.{Ops, Laws}
use Rattle.lzk_field.specs.Sums.{entry}
use Rattle.lzk_circuit.specs.Valid.{Wiring}
use Rattle.lzk_layout.specs.declared.params.Params.{Params}
use Rattle.lzk_layout.specs.declared.proof.Proof.{Proof}
use Rattle.lzk_layout.specs.Sizes.{AreBounded, params_of}
use Rattle.lzk_layout.proofs.SizeLaws.{params_bounded}
use Rattle.lzk_sumcheck.specs.declared.script.Script.{Script}
use Rattle.lzk_accept.specs.declared.challenges.Challenges.{Challenges}
use Rattle.lzk_ligero_tableau.specs.Tableau.{random}
use Rattle.lzk_hiding.specs.Counting.{HasExactly}
use Rattle.lzk_hiding.specs.Laws.{IsCase, LeadsTo, SeenEquallyOften}
use Rattle.lzk_soundness.specs.Sumchecks.Passing.{Passes}
use Rattle.lzk_hiding.specs.Seen.{random_count, words_for, idle_count, idle_at}
use Rattle.lzk_hiding.proofs.Numbers.{digit, number_for, number_below, digit_number, digits_apart}
use Rattle.lzk_hiding.proofs.Only.{all_are}
use Rattle.lzk_hiding.proofs.Solution.{value, solution, value_idle}
use Rattle.lzk_hiding.proofs.Some.{is_seen}

idle_inside : (p : Params) (k : ℕ) → AreBounded p → k < idle_count p → idle_at p k < random_count p
idle_inside p zero b h = omega (arith, b.block, b.dblock)
idle_inside p (suc k) b h = omega (arith, h, b.block, b.dblock)

module _ {A : Type 0} (o : Ops A) (e : Coding A) (laws : Laws o e.size e.number e.element e.bytes) (c : Wiring A) (public private : List A) (s : Script A) (ch : Challenges A) (columns : List ℕ) (proof : Proof A) (case : IsCase o e c public private s columns) where
  abbrev p : Params
  p = params_of c

  b : AreBounded p
  b = params_bounded o c case.valid

  -- the word for an element stands for it
  stands_for : (elements : List A) (i : ℕ) → random o e (words_for o e elements) i ≡ entry o elements i
  stands_for elements i = laws.numbers.element_number (entry o elements i)

  abbrev pub solved : ℕ → List A
  solved k = solution o e c public private s ch columns proof (digit e k)

  entry_solved : (k i : ℕ) → i < random_count p → entry o (solved k) i ≡ value o e c public private s ch columns proof (digit e k) i
  entry_solved k i h = get_or-map-range_with_len (value o e c public private s ch columns proof (digit e k)) 0 (random_count p) i i o.zero h (omega arith)

  pub leads : Passes o e c public s ch columns proof → (k : ℕ) → LeadsTo o e c public s ch columns private proof (solved k)
  leads pass k = (
    length-map-range_with_len (value o e c public private s ch columns proof (digit e k)) 0 (random_count p),
    is_seen o e laws c public private s ch columns proof (words_for o e (solved k)) case pass (digit e k) (λ i h. stands_for (solved k) i ∙ entry_solved k i h),
  )

  pub solved_apart : (j k : ℕ) → j < e.size ^ idle_count p → k < e.size ^ idle_count p → solved j ≡ solved k → j ≡ k
  solved_apart j k h d same =
      digits_apart o e laws.numbers (idle_count p) j k h d
      (λ i q.
      let inside = idle_inside p i b q in
      sym (value_idle o e c public private s ch columns proof (digit e j) b i q) ∙ sym (entry_solved j (idle_at p i) inside) ∙ ap (λ xs. entry o xs (idle_at p i)) same
      ∙ entry_solved k (idle_at p i) inside ∙ value_idle o e c public private s ch columns proof (digit e k) b i q)

  pub every_one : (elements : List A) → LeadsTo o e c public s ch columns private proof elements → (k : ℕ) × (k < e.size ^ idle_count p) × (solved k ≡ elements)
  every_one elements to =
      let f : ℕ → A = λ i. entry o elements (idle_at p i) in
      let k = number_for e (idle_count p) f in
      let are = all_are o e laws c public private s ch columns proof (words_for o e elements) case to.1 (digit e k)
      (λ i h. stands_for elements (idle_at p i) ∙ sym (digit_number o e laws.numbers (idle_count p) f i h)) in
      let long = length-map-range_with_len (value o e c public private s ch columns proof (digit e k)) 0 (random_count p) in (
        k,
        number_below o e laws.numbers (idle_count p) f,
        ext_get_or o.zero (solved k) elements (long ∙ sym to.0)
            (λ i h. let inside : i < random_count p = omega (arith, h, long) in entry_solved k i inside ∙ sym (are i inside) ∙ stands_for elements i),
      )

  pub counted : Passes o e c public s ch columns proof → HasExactly (e.size ^ idle_count p) (LeadsTo o e c public s ch columns private proof)
  counted pass = record { member = solved; each = λ k h. leads pass k; apart = solved_apart; every = every_one }

pub seen_equally_often : {A : Type 0} (o : Ops A) (e : Coding A) → Laws o e.size e.number e.element e.bytes → SeenEquallyOften o e
seen_equally_often o e laws = λ c public private s ch columns proof case pass. counted o e laws c public private s ch columns proof case pass
