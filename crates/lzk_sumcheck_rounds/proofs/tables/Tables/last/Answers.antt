use Rattle.std.proofs.Common.{◌≡◌, ◌≤◌, ℕ, List, [], length, take, sym, ap, ◌∙◌, arith, subst}
use Rattle.std.specs.Prelude.{slice_index_or}
use Rattle.std.proofs.lemmas.List.{get_or_default, get_or-take, length-take, length-take-le}
use Rattle.lzk_field.specs.Ring.{Ops, RingLaws}
use Rattle.lzk_field.specs.Sums.{entry}
use Rattle.lzk_mle.specs.Multilinear.{tilde}
use Rattle.lzk_mle.proofs.TableLaws.{tilde-is, extension-one}
use Rattle.lzk_sumcheck_rounds.specs.Pairs.{spread, ArePairs}
use Rattle.lzk_sumcheck_rounds.specs.Rows.{linear_at}
use Rattle.lzk_sumcheck_rounds.specs.Tables.{KeptTables}
use Rattle.lzk_sumcheck_rounds.proofs.tables.Tables.last.Goals as goal

-- the extension of a table of one entry
one-left : {A : Type 0} (o : Ops A) (r : RingLaws o) (xs : List A) (n : ℕ) (x : A) → n ≤ length xs → length (take n xs) ≡ 1 → x ≡ slice_index_or xs 0 x → x ≡ tilde o (take n xs) []
one-left o r xs n x fits one is =
    let count : n ≡ 1 = omega (arith, one, length-take-le n xs fits) in
    is ∙ get_or_default xs 0 x o.zero (omega (arith, count, fits)) ∙ sym (get_or-take n xs 0 o.zero (omega (arith, count)))
    ∙ sym (tilde-is o r 1 (take n xs) [] (omega (arith, one)) ∙ extension-one o r (entry o (take n xs)))

pub index-requires : goal.index-requires
index-requires g c = let i = c.self.inside in omega (arith, c.self.invariant.1.first, length-take i.first_count i.first.items, i.first.ok.0)

pub index-requires-2 : goal.index-requires-2
index-requires-2 g c = let i = c.self.inside in omega (arith, c.self.invariant.1.second, length-take i.second_count i.second.items, i.second.ok.0)

pub last_coefficient-requires-clause-pairs : goal.last_coefficient-requires-clause-pairs
last_coefficient-requires-clause-pairs g c κs within =
    let i = c.self.inside in
    let ps = take i.pair_count i.pairs.items in
    let f : length (take i.first_count i.first.items) ≡ 1 = omega (arith, c.self.invariant.1.first, c.requires.first, ap (λ (v : KeptTables g.row.F.Denot). length v.first) c.self.view_is) in
    let h : length (take i.second_count i.second.items) ≡ 1 = omega (arith, c.self.invariant.1.second, c.requires.second, ap (λ (v : KeptTables g.row.F.Denot). length v.second) c.self.view_is) in
    subst (λ xs. ArePairs 1 1 (take i.pair_count xs)) (sym c.deref.ensures.value)
    (subst (λ n. ArePairs n 1 ps) f (subst (λ n. ArePairs (length (take i.first_count i.first.items)) n ps) h c.self.invariant.1.pairs))

pub returns-clause-first : goal.returns-clause-first
returns-clause-first g c =
    let m = g.F.Field in
    let i = c.self.inside in
    let one : length (take i.first_count i.first.items) ≡ 1 = omega (arith, c.self.invariant.1.first, c.requires.first, ap (λ (v : KeptTables g.row.F.Denot). length v.first) c.self.view_is) in
    one-left m.ops m.laws.ring i.first.items i.first_count c.index.result.now c.self.invariant.0.first one c.index.ensures ∙ ap (λ (v : KeptTables g.row.F.Denot). tilde m.ops v.first []) c.self.view_is

pub returns-clause-second : goal.returns-clause-second
returns-clause-second g c =
    let m = g.F.Field in
    let i = c.self.inside in
    let one : length (take i.second_count i.second.items) ≡ 1 = omega (arith, c.self.invariant.1.second, c.requires.second, ap (λ (v : KeptTables g.row.F.Denot). length v.second) c.self.view_is) in
    one-left m.ops m.laws.ring i.second.items i.second_count c.index-2.result.now c.self.invariant.0.second one c.index-2.ensures ∙ ap (λ (v : KeptTables g.row.F.Denot). tilde m.ops v.second []) c.self.view_is

pub returns-clause-coefficient : goal.returns-clause-coefficient
returns-clause-coefficient g c =
    let o = g.F.Field.ops in
    let i = c.self.inside in
    c.last_coefficient.ensures i.of_a
    ∙ ap (λ ps. o.plus (spread o (take i.pair_count ps) 0 0) (linear_at o i.of_a i.scale (take i.linear_count c.deref-2.result.now) 0 0)) c.deref.ensures.value
    ∙ ap (λ ls. o.plus (spread o (take i.pair_count i.pairs.items) 0 0) (linear_at o i.of_a i.scale (take i.linear_count ls) 0 0)) c.deref-2.ensures.value
    ∙ ap (λ (v : KeptTables g.row.F.Denot). o.plus (spread o v.pairs 0 0) (linear_at o v.of_a v.scale v.linear 0 0)) c.self.view_is

pub slice_bounds-last_coefficient-end : goal.slice_bounds-last_coefficient-end
slice_bounds-last_coefficient-end g c =
    sym (length-take-le c.self.inside.pair_count c.deref.result.now (omega (arith, c.self.invariant.0.pairs, ap length c.deref.ensures.value)))

pub slice_bounds-last_coefficient-end-2 : goal.slice_bounds-last_coefficient-end-2
slice_bounds-last_coefficient-end-2 g c =
    sym (length-take-le c.self.inside.linear_count c.deref-2.result.now (omega (arith, c.self.invariant.0.linear, ap length c.deref-2.ensures.value)))
