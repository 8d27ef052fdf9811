use Rattle.std.proofs.Common.{◌≡◌, ℕ, ◌+◌, ◌<◌, ◌∙◌, inl, inr, refl, ap, sym, subst, arith, List, length, ◌∷◌, ◌++◌, []}
use Rattle.std.proofs.lemmas.Bool.{cases_lt}
use Rattle.std.proofs.lemmas.List.{length-append, get_or_append_left}
use Rattle.lzk_circuit_reduce.specs.Renumbering.{at}
use Rattle.lzk_circuit_reduce.proofs.share.numbers_below.Goals as goal

last-of : (ns : List ℕ) (n i : ℕ) → i ≡ length ns → at (ns ++ n ∷ []) i ≡ n
last-of [] n i e = ap (at (n ∷ [])) e
last-of (m ∷ ns) n i e = ap (at (m ∷ (ns ++ n ∷ []))) e ∙ last-of ns n (length ns) refl

-- the numbers up to one more
counted-more : (ns : List ℕ) (n k : ℕ) → length ns ≡ n → ((j : ℕ) → j < n → at ns j ≡ j) → k < n + 1 → at (ns ++ n ∷ []) k ≡ k
counted-more ns n k e each l = elim (cases_lt k n) [
  | inl m ↦ get_or_append_left ns (n ∷ []) 0 k (omega (arith, m, e)) ∙ each k m
  | inr m ↦ last-of ns n k (omega (arith, l, m, e)) ∙ omega (arith, l, m)
]

pub loop-i-init : goal.loop-i-init
loop-i-init c = record { count = ap length c.in-Ok.ensures.items; each = λ k l. absurd (omega (arith, l)); room = omega (arith, c.in-Ok.ensures.capacity) }

pub push_reserved-requires : goal.push_reserved-requires
push_reserved-requires c = omega (arith, c.loop-i.invariant.count, c.loop-i.invariant.room, c.loop-i-test.true)

pub loop-i-preserved : goal.loop-i-preserved
loop-i-preserved c =
    let i = c.loop-i.i in
    let ns = c.loop-i.numbers.items in
    let inv = c.loop-i.invariant in
    record {
      count = omega (arith, ap length c.push_reserved.ensures.items, length-append ns (i ∷ []), inv.count);
      each = λ k l. subst (λ xs. at xs k ≡ k) (sym c.push_reserved.ensures.items) (counted-more ns i k inv.count inv.each l);
      room = omega (arith, c.push_reserved.ensures.capacity, inv.room);
    }

pub returns-clause-count : goal.returns-clause-count
returns-clause-count c = omega (arith, c.loop-i.invariant.count, c.loop-i-test.false, c.loop-i.auto.i-end)

pub returns-clause-each : goal.returns-clause-each
returns-clause-each c k l = c.loop-i.invariant.each k (omega (arith, l, c.loop-i-test.false))
