-- The demo's statements fit behind each other.
use Rattle.std.proofs.Common.{◌≡◌, ℕ, zero, suc, ◌+◌, ◌≤◌, ◌<◌, below_more, List, [], ◌∷◌, ◌++◌, length, Some, None, refl, ◌∙◌, ap, subst, arith}
use Rattle.std.specs.Prelude.{count_by}
use Rattle.lzk_expr.specs.declared.ast.FieldId.TheVariants.{Goldilocks}
use Rattle.lzk_expr.specs.Readers.{is_define}
use Rattle.lzk_expr.specs.Trees.{Expr, PublicInput, PrivateInput, Named, Statement, DeclarePublic, DeclarePrivate, Define, Assertion, name_of, is_private, is_assertion}
use Rattle.lzk_expr.specs.declared.place.Place.TheVariants as place
use Rattle.lzk_expr.specs.Built.{Good, Leaf, expr_depth, GoodExpr, BuiltFrom, IsBuilt}
use Rattle.lzk_expr.proofs.Tables.{count_more}
use Rattle.lzk_demo.proofs.Declared.{let_known, let_new, let_here, private_known, private_new, private_here}
use Rattle.lzk_expr.proofs.TextLaws.{some_count}
use Rattle.lzk_demo.specs.declared.entry.Entry.{Entry}
use Rattle.lzk_demo.specs.declared.entry.Entry.TheVariants.{Input, Made}
use Rattle.lzk_demo.specs.Demo.{input_name, let_name, expr_of, exclusive_or, first_of, rounds, inputs_from, privates_from, demo_statements, demo_tree}
use Rattle.lzk_demo.proofs.Rounds.{rounds_with, one_left, Ats, all_rounds}
use Rattle.lzk_demo.proofs.Names.{input_word, let_word, public_word, input_fits, let_fits, inputs_apart, lets_apart, input_let_apart}
use Rattle.lzk_demo.proofs.Limits.{demo_asserts}

abbrev IsLeaf : List Statement → Expr → Type 0
IsLeaf = Leaf Goldilocks

-- ---- expressions

good_entry : (ss : List Statement) (e : Entry) → IsLeaf ss (expr_of e) → Good (IsLeaf ss) (expr_of e)
good_entry ss (Input i) h = h
good_entry ss (Made k) h = h

entry_shallow : (e : Entry) → expr_depth place.Alone (expr_of e) ≤ 64
entry_shallow (Input i) = omega arith
entry_shallow (Made k) = omega arith

or_shallow : (a b : Entry) → expr_depth place.Alone (exclusive_or (expr_of a) (expr_of b)) ≤ 64
or_shallow (Input i) (Input j) = omega arith
or_shallow (Input i) (Made j) = omega arith
or_shallow (Made i) (Input j) = omega arith
or_shallow (Made i) (Made j) = omega arith

or_good : (ss : List Statement) (a b : Entry) → IsLeaf ss (expr_of a) → IsLeaf ss (expr_of b) → GoodExpr Goldilocks ss (exclusive_or (expr_of a) (expr_of b))
or_good ss a b h g =
    let x = good_entry ss a h in
    let y = good_entry ss b g in
    record {
      leaves = (refl, (x, (y, ((refl, (refl, (x, (y, tt)))), tt))));
      shallow = or_shallow a b;
    }

-- ---- rounds

-- behind the inputs and k let names, of which there are fewer than 16,384
record Is (ss : List Statement) (k t : ℕ) : Type 0 where
  lets : count_by is_define ss ≡ k
  asserts : count_by is_assertion ss ≡ 0
  public : name_of ss (121 ∷ []) ≡ Some (PublicInput 0)
  new : (j : ℕ) → k ≤ j → j < 16384 → name_of ss (let_name j) ≡ None

abbrev At : List Statement → Entry → Unit {0} → Type 0
At ss e x = IsLeaf ss (expr_of e)

abbrev step : List Statement → ℕ → Entry → Entry → List Statement
step ss k a b = ss ++ Define (let_name k) (exclusive_or (expr_of a) (expr_of b)) ∷ []

keeps : (ss : List Statement) (k t : ℕ) (a b e : Entry) (x : Unit {0}) → Is ss k t → At ss e x → At (step ss k a b) e x
keeps ss k t a b (Input i) x is h = (h.0, let_known ss (let_name k) (exclusive_or (expr_of a) (expr_of b)) h.0 (PrivateInput i) h.1)
keeps ss k t a b (Made j) x is h = (h.0, let_known ss (let_name k) (exclusive_or (expr_of a) (expr_of b)) h.0 (Named j) h.1)

makes : (ss : List Statement) (k t : ℕ) (a b : Entry) (x y : Unit {0}) → k + 2 ≤ 16384 → Is ss k t → At ss a x → At ss b y → At (step ss k a b) (Made k) x × Is (step ss k a b) (k + 1) (t + 0)
makes ss k t a b x y few is h g =
    let e = exclusive_or (expr_of a) (expr_of b) in
    let w = let_name k in (
      (w, let_here ss w e k is.lets (is.new k (omega arith) (omega arith))),
      record {
        lets = count_more is_define ss (Define w e) ∙ ap (λ n. n + 1) is.lets;
        asserts = count_more is_assertion ss (Define w e) ∙ ap (λ n. n + 0) is.asserts ∙ refl;
        public = let_known ss w e (121 ∷ []) (PublicInput 0) is.public;
        new = λ j le lt. let_new ss w e (let_name j) (is.new j (omega arith) lt) (lets_apart k j (omega arith) (omega arith) (λ same. omega (arith, same)));
      },
    )

back : (ss : List Statement) (k t : ℕ) (a b : Entry) (x y : Unit {0}) (rest : List Statement) → k + 2 ≤ 16384 → Is ss k t → At ss a x → At ss b y → BuiltFrom Goldilocks (step ss k a b) rest
    → BuiltFrom Goldilocks ss (Define (let_name k) (exclusive_or (expr_of a) (expr_of b)) ∷ rest)
back ss k t a b x y rest few is h g built = ((record { word = let_word k (omega arith); short = let_fits k (omega arith); new = is.new k (omega arith) (omega arith) }, or_good ss a b h g), built)

last : (ss : List Statement) (k t : ℕ) (es : List Entry) (xs : List (Unit {0})) → Is ss k t → Ats At ss es xs → length xs ≡ 1 → BuiltFrom Goldilocks ss (Assertion (first_of es) (PublicInput 0) ∷ [])
last ss k t es [] is h one = absurd (omega arith)
last ss k t [] (x ∷ xs) is h one = absurd h
last ss k t (e ∷ es) (x ∷ xs) is h one = (
  (
    record { leaves = good_entry ss e h.0; shallow = entry_shallow e },
    record { leaves = (121 ∷ [], is.public); shallow = omega arith },
    omega (arith, is.asserts),
  ),
  tt,
)

-- ---- inputs

abbrev units : ℕ → List (Unit {0})
units zero = []
units (suc n) = tt ∷ units n

length-units : (n : ℕ) → length (units n) ≡ n
length-units zero = refl
length-units (suc n) = omega (arith, length-units n)

-- behind the first i private inputs, of which there are at most 16,384
record Inputs (ss : List Statement) (i : ℕ) : Type 0 where
  privates : count_by is_private ss ≡ i
  is : Is ss 0 0
  known : (j : ℕ) → j < i → name_of ss (input_name j) ≡ Some (PrivateInput j)
  unknown : (j : ℕ) → i ≤ j → j < 16384 → name_of ss (input_name j) ≡ None

next_input : (ss : List Statement) (i : ℕ) → i < 16384 → Inputs ss i → Inputs (ss ++ DeclarePrivate (input_name i) ∷ []) (i + 1)
next_input ss i few h =
    let w = input_name i in
    let next = ss ++ DeclarePrivate w ∷ [] in
    record {
      privates = count_more is_private ss (DeclarePrivate w) ∙ ap (λ n. n + 1) h.privates;
      is = record {
        lets = count_more is_define ss (DeclarePrivate w) ∙ ap (λ n. n + 0) h.is.lets ∙ refl;
        asserts = count_more is_assertion ss (DeclarePrivate w) ∙ ap (λ n. n + 0) h.is.asserts ∙ refl;
        public = private_known ss w (121 ∷ []) (PublicInput 0) h.is.public;
        new = λ j le lt. private_new ss w (let_name j) (h.is.new j le lt) (input_let_apart i j);
      };
      known = below_more (λ j. name_of next (input_name j) ≡ Some (PrivateInput j)) i (λ j lt. private_known ss w (input_name j) (PrivateInput j) (h.known j lt)) (private_here ss w i h.privates (h.unknown i (omega arith) few));
      unknown = λ j le lt. private_new ss w (input_name j) (h.unknown j (omega arith) lt) (inputs_apart i j (omega arith) (omega arith) (λ same. omega (arith, same)));
    }

privates_built : (ss rest : List Statement) (i n : ℕ) → i + n ≤ 16384 → Inputs ss i → ((r : List Statement) → Inputs r (i + n) → BuiltFrom Goldilocks r rest) → BuiltFrom Goldilocks ss (privates_from i n ++ rest)
privates_built ss rest i zero few h end = let same : i ≡ i + 0 = omega arith in end ss (subst (Inputs ss) same h)
privates_built ss rest i (suc n) few h end =
    let w = input_name i in
    let same : i + 1 + n ≡ i + suc n = omega arith in (
      (record { word = input_word i (omega arith); short = input_fits i (omega arith); new = h.unknown i (omega arith) (omega arith) }, omega (arith, h.privates)),
      privates_built (ss ++ DeclarePrivate w ∷ []) rest (i + 1) n (omega arith) (next_input ss i (omega arith) h) (λ r p. end r (subst (Inputs r) same p)),
    )

entries_known : (ss : List Statement) (i n m : ℕ) → i + n ≤ m → Inputs ss m → Ats At ss (inputs_from i n) (units n)
entries_known ss i zero m few h = tt
entries_known ss i (suc n) m few h = ((input_name i, h.known i (omega arith)), entries_known ss (i + 1) n m (omega arith) h)

length-entries : (i n : ℕ) → length (inputs_from i n) ≡ n
length-entries i zero = refl
length-entries i (suc n) = omega (arith, length-entries (i + 1) n)

first_public : Inputs (DeclarePublic (121 ∷ []) ∷ []) 0
first_public = record {
  privates = refl;
  is = record { lets = refl; asserts = refl; public = refl; new = λ j le lt. refl };
  known = λ j lt. absurd (omega arith);
  unknown = λ j le lt. refl;
}

pub demo_built : (n : ℕ) → 1 ≤ n → n ≤ 16384 → IsBuilt (demo_tree n)
demo_built n some few = record {
  built = (
    (record { word = public_word; short = refl; new = refl }, omega arith),
    privates_built (DeclarePublic (121 ∷ []) ∷ []) (rounds n 0 (inputs_from 0 n)) 0 n (omega arith) first_public (λ r p.
        all_rounds At Is (BuiltFrom Goldilocks) step (λ x y. x) (λ x. 0) 16384 keeps (λ s k t a b x y. makes s k t a b x y) (λ s k t a b x y rest. back s k t a b x y rest) n r 0 0 (inputs_from 0 n) (units n)
        (omega (arith, length-entries 0 n)) p.is (entries_known r 0 n (0 + n) (omega arith) p)
        (λ q l ds same is h. last q l _ ds (rounds_with (λ x y. x) n (units n)) is h (one_left (λ x y. x) n (units n) (omega (arith, length-units n)) (omega (arith, length-units n))))),
  );
  some = some_count is_assertion (demo_statements n) (omega (arith, demo_asserts n));
}
