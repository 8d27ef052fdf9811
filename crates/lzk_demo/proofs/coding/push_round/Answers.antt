use Rattle.std.proofs.Common.{◌≡◌, ◌∙◌, ℕ, suc, ◌+◌, ◌*◌, ◌-◌, ◌≤◌, List, [], ◌∷◌, ◌++◌, length, drop, get_or, refl, ap, sym, subst, append-nil, drop-cons, length-drop, arith}
use Rattle.std.proofs.lemmas.List.{drop_all}
use Rattle.lzk_expr.specs.Trees.{Statement}
use Rattle.lzk_demo.specs.declared.entry.Entry.{Entry}
use Rattle.lzk_demo.specs.declared.entry.Entry.TheVariants.{Input}
use Rattle.lzk_demo.specs.Words.{AreWordsOf}
use Rattle.lzk_demo.specs.Demo.{paired, round_lets}
use Rattle.lzk_demo.proofs.Written.{pair_listed}
use Rattle.lzk_demo.proofs.WordLaws.{pair_words}
use Rattle.lzk_demo.proofs.coding.push_round.Goals.{then-entries-eq1, else-entries-eq1}
use Rattle.lzk_demo.proofs.coding.push_round.Goals as goal

-- one entry is left as it is, and has no let
few_paired : (k : ℕ) (es : List Entry) → length es ≤ 1 → paired k es ≡ es
few_paired k [] l = refl
few_paired k (a ∷ []) l = refl
few_paired k (a ∷ b ∷ es) l = absurd (omega (arith, l))

few_lets : (k : ℕ) (es : List Entry) → length es ≤ 1 → round_lets k es ≡ []
few_lets k [] l = refl
few_lets k (a ∷ []) l = refl
few_lets k (a ∷ b ∷ es) l = absurd (omega (arith, l))

-- the last entry of a list
last_one : (es : List Entry) (n m : ℕ) (d : Entry) → suc n ≡ length es → m ≡ n → drop n es ≡ get_or es m d ∷ []
last_one es n m d l same =
    drop-cons es n d (omega (arith, l)) ∙ ap (λ xs. get_or es n d ∷ xs) (drop_all (suc n) es (omega (arith, l))) ∙ ap (λ j. get_or es j d ∷ []) (sym same)

pub loop-i-preserved : goal.loop-i-preserved
loop-i-preserved c = record {
  listed = pair_listed c.args.entries.now (paired c.args.first c.args.entries.now) c.args.first c.loop-i.i (Input 0) c.loop-i.list.items c.push_reserved.new.self.items c.loop-i-test.true c.loop-i.invariant.listed c.push_reserved.ensures.items;
  made = λ ss h. pair_words c.args.entries.now c.args.first c.loop-i.i (Input 0) (ss ++ round_lets c.args.first c.args.entries.now) c.loop-i.words.items c.push_let.new.words.items c.loop-i-test.true
      (c.in-Ok-push_let.ensures (c.args.first + c.loop-i.i)) (c.loop-i.invariant.made ss h);
  count = omega (arith, c.push_reserved.ensures.len, c.push_reserved.new.self.ok.0, c.loop-i.list.ok.0, c.loop-i.invariant.count);
  room = omega (arith, c.push_reserved.ensures.capacity, c.loop-i.invariant.room);
}

pub push_reserved-requires : goal.push_reserved-requires
push_reserved-requires c = omega (arith, c.loop-i.list.ok.0, c.loop-i.invariant.count, c.loop-i.invariant.room, c.loop-i-test.true)

pub loop-i-init : goal.loop-i-init
loop-i-init c =
    let first = c.args.first in
    let es = c.args.entries.now in
    let from : first + 0 ≡ first = omega arith in
    record {
      listed = ap (λ xs. xs ++ paired (first + 0) es) c.in-Ok.ensures.items ∙ ap (λ k. paired k es) from;
      made = λ ss h. record { now = ss; words_are = h; whole_is = ap (λ k. ss ++ round_lets k es) from };
      count = ap length c.in-Ok.ensures.items;
      room = omega (arith, c.in-Ok.ensures.capacity);
    }

pub overflow_add-entries : goal.overflow_add-entries
overflow_add-entries c = omega (arith, c.requires)

pub overflow_mul-i : goal.overflow_mul-i
overflow_mul-i c = omega (arith, c.requires, c.loop-i-test.true)

pub offset_bounds-entries-i : goal.offset_bounds-entries-i
offset_bounds-entries-i c = omega (arith, c.requires, c.loop-i-test.true)

pub bounds-entries-i : goal.bounds-entries-i
bounds-entries-i c = omega (arith, c.loop-i-test.true)

pub overflow_mul-i-in-loop-i : goal.overflow_mul-i-in-loop-i
overflow_mul-i-in-loop-i c = omega (arith, c.requires, c.loop-i-test.true)

pub overflow_add-i : goal.overflow_add-i
overflow_add-i c = omega (arith, c.requires, c.loop-i-test.true)

pub offset_bounds-entries-i-in-loop-i : goal.offset_bounds-entries-i-in-loop-i
offset_bounds-entries-i-in-loop-i c = omega (arith, c.requires, c.loop-i-test.true)

pub bounds-entries-i-in-loop-i : goal.bounds-entries-i-in-loop-i
bounds-entries-i-in-loop-i c = omega (arith, c.loop-i-test.true)

pub overflow_cast-i : goal.overflow_cast-i
overflow_cast-i c = omega (arith, c.requires, c.loop-i-test.true)

pub overflow_add-first : goal.overflow_add-first
overflow_add-first c = omega (arith, c.requires, c.loop-i-test.true)

pub overflow_sub-entries : goal.overflow_sub-entries
overflow_sub-entries c = omega (arith, c.if-entries-eq1.true)

pub offset_bounds-entries-entries : goal.offset_bounds-entries-entries
offset_bounds-entries-entries c = omega (arith, c.requires)

pub bounds-entries-entries : goal.bounds-entries-entries
bounds-entries-entries c = omega (arith, c.if-entries-eq1.true)

pub push_reserved-requires-then-entries-eq1 : goal.push_reserved-requires-then-entries-eq1
push_reserved-requires-then-entries-eq1 c = omega (arith, c.loop-i.list.ok.0, c.loop-i.invariant.count, c.loop-i.invariant.room, c.loop-i.auto.i-end)

pub returns-clause-list : goal.returns-clause-list
returns-clause-list c =
    let es = c.args.entries.now in
    let i = c.loop-i.i in
    let n = 2 * i in
    let k = c.args.first + i in
    let list = c.loop-i.list.items in
    let listed = c.loop-i.invariant.listed in
    let few : length (drop n es) ≤ 1 = omega (arith, length-drop n es, c.loop-i-test.false) in
    let rest = few_paired k (drop n es) few in
    elim c.if-entries-eq1.branch [
      | then-entries-eq1 w ↦
          let last = last_one es n (length es - 1) (Input 0) (omega (arith, w.if-entries-eq1.true, c.loop-i-test.false, c.loop-i.auto.i-end)) (omega (arith, w.if-entries-eq1.true, c.loop-i-test.false, c.loop-i.auto.i-end)) in
          ap (λ v. v.items) w.list-is ∙ w.push_reserved-then-entries-eq1.ensures.items ∙ ap (λ xs. list ++ xs) (sym (rest ∙ last)) ∙ listed
      | else-entries-eq1 w ↦
          let none = drop_all n es (omega (arith, w.if-entries-eq1.false, c.loop-i-test.false)) in
          ap (λ v. v.items) w.list-is ∙ sym (append-nil list) ∙ ap (λ xs. list ++ xs) (sym (rest ∙ none)) ∙ listed
    ]

pub returns-clause-lets : goal.returns-clause-lets
returns-clause-lets c ss h =
    let es = c.args.entries.now in
    let i = c.loop-i.i in
    let b = c.loop-i.invariant.made ss h in
    let few : length (drop (2 * i) es) ≤ 1 = omega (arith, length-drop (2 * i) es, c.loop-i-test.false) in
    let whole = sym (append-nil b.now) ∙ ap (λ xs. b.now ++ xs) (sym (few_lets (c.args.first + i) (drop (2 * i) es) few)) ∙ b.whole_is in
    subst (λ (all : List Statement). AreWordsOf all c.loop-i.words.items) whole b.words_are
