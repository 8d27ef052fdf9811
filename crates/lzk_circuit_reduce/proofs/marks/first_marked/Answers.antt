use Rattle.std.proofs.Common.{◌≡◌, ◌+◌, ◌<◌, ◌∙◌, ◌==◌, ℕ, false, inl, inr, refl, ap, sym, arith, List, Bool, length, ◌∷◌, ◌++◌, []}
use Rattle.std.proofs.lemmas.Bool.{cases_lt}
use Rattle.std.proofs.lemmas.List.{length-append, get_or_append_left}
use Rattle.lzk_circuit_reduce.specs.Marks.{is_marked}
use Rattle.lzk_circuit_reduce.proofs.marks.first_marked.Goals as goal

last-of : (marks : List Bool) (m : Bool) (i : ℕ) → i ≡ length marks → is_marked (marks ++ m ∷ []) i ≡ m
last-of [] m i e = ap (is_marked (m ∷ [])) e
last-of (n ∷ ns) m i e = ap (is_marked (n ∷ (ns ++ m ∷ []))) e ∙ last-of ns m (length ns) refl

-- one mark more
marked-more : (marks more : List Bool) (k : ℕ) → more ≡ marks ++ (k == 0) ∷ [] → length marks ≡ k → ((j : ℕ) → j < k → is_marked marks j ≡ (j == 0)) → (j : ℕ) → j < k + 1 → is_marked more j ≡ (j == 0)
marked-more marks more k e count each j l =
    ap (λ ms. is_marked ms j) e
    ∙ elim (cases_lt j k) [
      | inl m ↦ get_or_append_left marks ((k == 0) ∷ []) false j (omega (arith, m, count)) ∙ each j m
      | inr m ↦ let same : j ≡ k = omega (arith, l, m) in last-of marks (k == 0) j (omega (arith, same, count)) ∙ ap (λ n. n == 0) (sym same)
    ]

pub loop-k-init : goal.loop-k-init
loop-k-init c = (ap length c.in-Ok.ensures.items, λ j l. absurd (omega (arith, l)), omega (arith, c.in-Ok.ensures.capacity))

pub loop-k-preserved : goal.loop-k-preserved
loop-k-preserved c =
    let k = c.loop-k.k in
    let old = c.loop-k.marks.items in
    let inv = c.loop-k.invariant in (
      omega (arith, ap length c.push_reserved.ensures.items, length-append old ((k == 0) ∷ []), inv.0),
      marked-more old c.push_reserved.new.self.items k c.push_reserved.ensures.items inv.0 inv.1,
      omega (arith, c.push_reserved.ensures.capacity, inv.2),
    )

pub push_reserved-requires : goal.push_reserved-requires
push_reserved-requires c = omega (arith, c.loop-k.marks.ok.0, c.loop-k.invariant.0, c.loop-k.invariant.2, c.loop-k-test.true)

pub returns-clause-count : goal.returns-clause-count
returns-clause-count c = omega (arith, c.loop-k.invariant.0, c.loop-k-test.false, c.loop-k.auto.k-end)

pub returns-clause-few : goal.returns-clause-few
returns-clause-few c = omega (arith, c.loop-k.invariant.0, c.loop-k.auto.k-end, c.ranges.width)
