use Rattle.std.proofs.Common.{◌≡◌, ◌∙◌, ℕ, ◌<◌, ◌≤◌, ◌+◌, true, false, List, [], ◌∷◌, ◌++◌, refl, sym, ap, arith, get_or, length, map, take}
use Rattle.std.proofs.lemmas.List.{length-map, take_all}
use Rattle.lzk_circuit_reduce.specs.Kept.{place_of}
use Rattle.lzk_circuit_reduce.proofs.RowLaws.{map-more}
use Rattle.lzk_circuit_reduce.proofs.KeptLaws.{differ-at}
use Rattle.lzk_circuit_reduce.proofs.kept.are_same.Goals as goal

false-true : false ≡ true → ⊥
false-true e = cc

same-more : {X Y : Type 0} (f : X → Y) (xs ys : List X) (i : ℕ) (x y : X) → i < length xs → length xs ≡ length ys → x ≡ get_or xs i x → y ≡ get_or ys i y → f x ≡ f y → map f (take i xs) ≡ map f (take i ys)
    → map f (take (i + 1) xs) ≡ map f (take (i + 1) ys)
same-more f xs ys i x y l e ex ey same h =
    let own = map f (take i xs) in
    sym (map-more f xs own (own ++ f x ∷ []) i x l ex refl refl) ∙ ap (λ u. own ++ u ∷ []) same ∙ map-more f ys own (own ++ f y ∷ []) i y (omega (arith, l, e)) ey refl h

all-same : {X Y : Type 0} (f : X → Y) (xs ys : List X) (i : ℕ) → length xs ≤ i → length xs ≡ length ys → map f (take i xs) ≡ map f (take i ys) → map f xs ≡ map f ys
all-same f xs ys i l e h = ap (map f) (sym (take_all i xs l)) ∙ h ∙ ap (map f) (take_all i ys (omega (arith, l, e)))

pub returns-then-own-row-clause-yes : goal.returns-then-own-row-clause-yes
returns-then-own-row-clause-yes g c e = absurd (false-true e)

pub returns-then-own-row-clause-no : goal.returns-then-own-row-clause-no
returns-then-own-row-clause-no g c e same =
    let place = place_of g.F.Field.coding.number in
    c.if-own-row.true (sym (length-map c.args.own.now place) ∙ ap length same ∙ length-map c.args.row.now place)

pub loop-i-init : goal.loop-i-init
loop-i-init g c = refl

pub loop-i-preserved : goal.loop-i-preserved
loop-i-preserved g c =
    same-more (place_of g.F.Field.coding.number) c.args.own.now c.args.row.now c.loop-i.i c.index-own-i.result c.index-row-i.result c.loop-i-test.true c.if-own-row.false c.index-own-i.is c.index-row-i.is (c.is_same.ensures.yes c.if-not-is_same.false) c.loop-i.invariant

pub returns-then-not-is_same-clause-yes : goal.returns-then-not-is_same-clause-yes
returns-then-not-is_same-clause-yes g c e = absurd (false-true e)

pub returns-then-not-is_same-clause-no : goal.returns-then-not-is_same-clause-no
returns-then-not-is_same-clause-no g c unequal =
    differ-at (place_of g.F.Field.coding.number) c.args.own.now c.args.row.now c.loop-i.i c.index-own-i.result c.index-row-i.result c.loop-i-test.true c.if-own-row.false c.index-own-i.is c.index-row-i.is (c.is_same.ensures.no c.if-not-is_same.true)

pub returns-clause-yes : goal.returns-clause-yes
returns-clause-yes g c e = all-same (place_of g.F.Field.coding.number) c.args.own.now c.args.row.now c.loop-i.i c.loop-i-test.false c.if-own-row.false c.loop-i.invariant

pub returns-clause-no : goal.returns-clause-no
returns-clause-no g c e = absurd (false-true (sym e))
