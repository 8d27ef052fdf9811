-- The demo's text is short, and it is the printed text of its source; the statements that are made so far.
use Rattle.std.proofs.Common.{◌≡◌, ℕ, zero, suc, ◌+◌, ◌-◌, ◌*◌, ◌/◌, ◌≤◌, ◌<◌, List, [], ◌∷◌, ◌++◌, length, get_or, drop, refl, sym, subst, ◌∙◌, ap, ap₂, append_assoc, arith}
use Rattle.std.specs.Prelude.{codes, decimal, slice_index_or}
use Rattle.std.specs.List.{flat_map}
use native.Mathlib.Decide.{dec_lt}
use Rattle.std.proofs.lemmas.List.{length-append, append-nil}
use Rattle.std.proofs.lemmas.Grind.{flat_map-append}
use Rattle.std.proofs.lemmas.Fmt.{decimal_digit}
use Rattle.std.proofs.Math.Seq.{drop-cons}
use Rattle.lzk_expr.specs.declared.place.Place.{Place}
use Rattle.lzk_expr.specs.declared.place.Place.TheVariants as place
use Rattle.lzk_expr.specs.Built.{IsBuilt}
use Rattle.lzk_expr.specs.Sources.{IsWellFormed}
use Rattle.lzk_expr.specs.Trees.{PublicInput, Statement, Define, Assertion}
use Rattle.lzk_expr.specs.Printing.{Names, names_of, private_names, let_names, expr_text, statement_line, source_text}
use Rattle.lzk_demo.specs.declared.entry.Entry.{Entry}
use Rattle.lzk_demo.specs.declared.entry.Entry.TheVariants.{Input, Made}
use Rattle.lzk_demo.specs.Demo.{input_name, let_name, expr_of, exclusive_or, round_lets, paired, rounds, inputs_from, privates_from, demo_statements, demo_tree}
use Rattle.lzk_demo.specs.Texts.{entry_text, IsBelow, AreBelow, private_line, privates_text, let_line, round_text, assert_line, rounds_text, head_text, demo_text}
use Rattle.lzk_expr.proofs.Reread.{built_reads}
use Rattle.lzk_demo.proofs.Rounds.{length-paired}
use Rattle.lzk_demo.proofs.Names.{input_short, let_short}

-- ---- entries in range

pub below_more : (p k m : ℕ) (e : Entry) → k ≤ m → IsBelow p k e → IsBelow p m e
below_more p k m (Input i) le h = h
below_more p k m (Made j) le h = omega arith

pub all_below_more : (p k m : ℕ) (es : List Entry) → k ≤ m → AreBelow p k es → AreBelow p m es
all_below_more p k m [] le h = tt
all_below_more p k m (e ∷ es) le h = (below_more p k m e le h.0, all_below_more p k m es le h.1)

paired_below : (p k m : ℕ) (es : List Entry) → k + length es / 2 ≤ m → AreBelow p m es → AreBelow p m (paired k es)
paired_below p k m [] le h = tt
paired_below p k m (a ∷ []) le h = h
paired_below p k m (a ∷ b ∷ es) le h = (omega arith, paired_below p (k + 1) m es (omega arith) h.1.1)

pub round_below : (p k : ℕ) (es : List Entry) → AreBelow p k es → AreBelow p (k + length es / 2) (paired k es)
round_below p k es h = paired_below p k (k + length es / 2) es (omega arith) (all_below_more p k (k + length es / 2) es (omega arith) h)

pub inputs_below : (p i n : ℕ) → i + n ≤ p → AreBelow p 0 (inputs_from i n)
inputs_below p i zero le = tt
inputs_below p i (suc n) le = (omega arith, inputs_below p (i + 1) n (omega arith))

-- ---- lengths

entry_short : (p k : ℕ) (e : Entry) → p + 1 < 100000 → k + 1 < 100000 → IsBelow p k e → length (entry_text e) ≤ 6
entry_short p k (Input i) few less h = input_short i (omega arith)
entry_short p k (Made j) few less h = let_short j (omega arith)

let_length : (w a b : List ℕ) → length w ≤ 6 → length a ≤ 6 → length b ≤ 6 → length ((codes "let " ++ (w ++ codes " = ")) ++ ((a ++ ((codes " + " ++ b) ++ ((codes " - 2 * " ++ a) ++ (codes " * " ++ b)))) ++ (10 ∷ []))) ≤ 64
let_length w a b h k l = simp (length-append) (omega arith)

round_length : (p k : ℕ) (es : List Entry) → p + 1 < 100000 → k + length es + 1 < 100000 → AreBelow p k es → length (round_text k es) ≤ 64 * (length es / 2)
round_length p k [] few less h = omega arith
round_length p k (a ∷ []) few less h = omega arith
round_length p k (a ∷ b ∷ es) few less h =
    let line = let_length (let_name k) (entry_text a) (entry_text b) (let_short k (omega arith)) (entry_short p k a few (omega arith) h.0) (entry_short p k b few (omega arith) h.1.0) in
    omega (arith, line, round_length p (k + 1) es few (omega arith) (all_below_more p k (k + 1) es (omega arith) h.1.1), length-append (let_line k a b) (round_text (k + 1) es))

assert_length : (a : List ℕ) → length a ≤ 6 → length (codes "assert " ++ (a ++ (codes " = y" ++ (10 ∷ [])))) ≤ 64
assert_length a h = simp (length-append) (omega arith)

rounds_length : (n p k : ℕ) (es : List Entry) → p + 1 < 100000 → k + length es + 1 < 100000 → 1 ≤ length es → AreBelow p k es → length (rounds_text n k es) ≤ 64 * length es
rounds_length zero p k [] few less some h = absurd (omega arith)
rounds_length zero p k (e ∷ es) few less some h = omega (arith, assert_length (entry_text e) (entry_short p k e few (omega arith) h.0))
rounds_length (suc n) p k es few less some h =
    let same = length-paired k es in
    omega (arith, same, length-append (round_text k es) (rounds_text n (k + length es / 2) (paired k es)), round_length p k es few less h, rounds_length n p (k + length es / 2) (paired k es) few (omega (arith, same)) (omega (arith, same)) (round_below p k es h))

private_length : (w : List ℕ) → length w ≤ 6 → length (codes "private " ++ (w ++ (10 ∷ []))) ≤ 16
private_length w h = simp (length-append) (omega arith)

privates_length : (i n : ℕ) → i + n + 1 < 100000 → length (privates_text i n) ≤ 16 * n
privates_length i zero few = omega arith
privates_length i (suc n) few = omega (arith, length-append (private_line i) (privates_text (i + 1) n), private_length (input_name i) (input_short i (omega arith)), privates_length (i + 1) n (omega arith))

pub length-entries : (i n : ℕ) → length (inputs_from i n) ≡ n
length-entries i zero = refl
length-entries i (suc n) = omega (arith, length-entries (i + 1) n)

pub demo_short : (n : ℕ) → 1 ≤ n → n ≤ 16384 → length (demo_text n) ≤ 4194304
demo_short n some few =
    let es = inputs_from 0 n in
    let long = length-entries 0 n in
    omega (
      arith,
      length-append head_text (privates_text 0 n ++ rounds_text n 0 es),
      length-append (privates_text 0 n) (rounds_text n 0 es),
      privates_length 0 n (omega arith),
      long,
      rounds_length n n 0 es (omega arith) (omega (arith, long)) (omega (arith, long)) (inputs_below n 0 n (omega arith)),
    )

-- ---- the names that are printed

-- the names of the inputs and of so many let names are found under their numbers
pub record Finds (names : Names) (inputs lets : ℕ) : Type 0 where
  pub public : slice_index_or names.publics 0 [] ≡ 121 ∷ []
  pub privates : (i : ℕ) → i < inputs → slice_index_or names.privates i [] ≡ input_name i
  pub lets_are : (k : ℕ) → k < lets → slice_index_or names.lets k [] ≡ let_name k

private_found : (i n j : ℕ) (ss : List Statement) → j < n → get_or (private_names (privates_from i n ++ ss)) j [] ≡ input_name (i + j)
private_found i zero j ss h = absurd (omega arith)
private_found i (suc n) zero ss h = let e : i ≡ i + 0 = omega arith in ap input_name e
private_found i (suc n) (suc j) ss h = let e : i + 1 + j ≡ i + suc j = omega arith in private_found (i + 1) n j ss (omega arith) ∙ ap input_name e

no_lets : (i n : ℕ) (ss : List Statement) → let_names (privates_from i n ++ ss) ≡ let_names ss
no_lets i zero ss = refl
no_lets i (suc n) ss = no_lets (i + 1) n ss

let_found : (k : ℕ) (es : List Entry) (ss : List Statement) (j : ℕ) → j < length es / 2 → get_or (let_names (round_lets k es ++ ss)) j [] ≡ let_name (k + j)
let_found k [] ss j h = absurd (omega arith)
let_found k (a ∷ []) ss j h = absurd (omega arith)
let_found k (a ∷ b ∷ es) ss zero h = let e : k ≡ k + 0 = omega arith in ap let_name e
let_found k (a ∷ b ∷ es) ss (suc j) h = let e : k + 1 + j ≡ k + suc j = omega arith in let_found (k + 1) es ss j (omega arith) ∙ ap let_name e

let_behind : (k : ℕ) (es : List Entry) (ss : List Statement) (j : ℕ) → get_or (let_names (round_lets k es ++ ss)) (length es / 2 + j) [] ≡ get_or (let_names ss) j []
let_behind k [] ss j = let e : 0 / 2 + j ≡ j = omega arith in ap (λ i. get_or (let_names ss) i []) e
let_behind k (a ∷ []) ss j = let e : 1 / 2 + j ≡ j = omega arith in ap (λ i. get_or (let_names ss) i []) e
let_behind k (a ∷ b ∷ es) ss j =
    let e : length (a ∷ b ∷ es) / 2 + j ≡ suc (length es / 2 + j) = omega arith in
    ap (λ i. get_or (let_names (round_lets k (a ∷ b ∷ es) ++ ss)) i []) e ∙ let_behind (k + 1) es ss j

at_or_behind : (n h j : ℕ) (P : Type 0) → (j < h → P) → ((i : ℕ) → j ≡ h + i → P) → Dec (j < h) → P
at_or_behind n h j P here behind (yes p) = here p
at_or_behind n h j P here behind (no p) = behind (j - h) (omega arith)

lets_found : (n k : ℕ) (es : List Entry) (j : ℕ) → length es ≤ n + 1 → j + 1 < length es → get_or (let_names (rounds n k es)) j [] ≡ let_name (k + j)
lets_found zero k es j few h = absurd (omega arith)
lets_found (suc n) k es j few h =
    let m = length es / 2 in
    let rest = rounds n (k + m) (paired k es) in
    let same = length-paired k es in
    at_or_behind n m j (get_or (let_names (rounds (suc n) k es)) j [] ≡ let_name (k + j)) (let_found k es rest j)
    (λ i e. let f : k + m + i ≡ k + j = omega (arith, e) in
    ap (λ d. get_or (let_names (round_lets k es ++ rest)) d []) e ∙ let_behind k es rest i ∙ lets_found n (k + m) (paired k es) i (omega (arith, same)) (omega (arith, same, e)) ∙ ap let_name f) (dec_lt j m)

pub demo_finds : (n : ℕ) → 1 ≤ n → Finds (names_of (demo_statements n)) n (n - 1)
demo_finds n some =
    let es = inputs_from 0 n in
    let long = length-entries 0 n in
    record {
      public = refl;
      privates = λ i lt. let e : 0 + i ≡ i = omega arith in private_found 0 n i (rounds n 0 es) lt ∙ ap input_name e;
      lets_are = λ k lt. let e : 0 + k ≡ k = omega arith in ap (λ (l : List (List ℕ)). get_or l k []) (no_lets 0 n (rounds n 0 es)) ∙ lets_found n 0 es k (omega (arith, long)) (omega (arith, long)) ∙ ap let_name e;
    }

-- ---- the lines

entry_printed : (names : Names) (p l : ℕ) (at : Place) (e : Entry) → Finds names p l → IsBelow p l e → expr_text names at (expr_of e) ≡ entry_text e
entry_printed names p l at (Input i) finds h = finds.privates i h
entry_printed names p l at (Made k) finds h = finds.lets_are k h

two_text : decimal 2 ≡ 50 ∷ []
two_text = decimal_digit 2 (omega arith)

-- a let line as it is printed, over the texts of its names and of the number 2
let_text : (w a b two : List ℕ) → two ≡ 50 ∷ [] → (codes "let " ++ (w ++ (codes " = " ++ (a ++ (codes " + " ++ (b ++ (codes " - " ++ ((two ++ (codes " * " ++ (a ++ (codes " * " ++ (b ++ []))))) ++ [])))))))) ++ (10 ∷ [])
    ≡ codes "let " ++ (w ++ (codes " = " ++ (a ++ (codes " + " ++ (b ++ (codes " - 2 * " ++ (a ++ (codes " * " ++ (b ++ (10 ∷ []))))))))))
let_text w a b two e =
    let end : List ℕ = 10 ∷ [] in
    let s : List ℕ = codes " * " ++ (b ++ []) in
    let q : List ℕ = codes " * " ++ (a ++ s) in
    let r3 : List ℕ = codes " - " ++ ((two ++ q) ++ []) in
    let r2 : List ℕ = codes " + " ++ (b ++ r3) in
    let r1 : List ℕ = codes " = " ++ (a ++ r2) in
    let last : (a ++ s) ++ end ≡ a ++ (codes " * " ++ (b ++ end)) = append_assoc a s end ∙ ap (λ (l : List ℕ). a ++ (codes " * " ++ (l ++ end))) (append-nil b) in
    let product : ((two ++ q) ++ []) ++ end ≡ 50 ∷ (codes " * " ++ (a ++ (codes " * " ++ (b ++ end)))) =
    ap (λ (l : List ℕ). l ++ end) (append-nil (two ++ q)) ∙ ap (λ (t : List ℕ). (t ++ q) ++ end) e ∙ ap (λ (l : List ℕ). 50 ∷ (codes " * " ++ l)) last in
    ap (λ (l : List ℕ). codes "let " ++ l) (append_assoc w r1 end
    ∙ ap (λ (l : List ℕ). w ++ (codes " = " ++ l)) (append_assoc a r2 end
    ∙ ap (λ (l : List ℕ). a ++ (codes " + " ++ l)) (append_assoc b r3 end ∙ ap (λ (l : List ℕ). b ++ (codes " - " ++ l)) product)))

-- the same with other parentheses
let_again : (w a b : List ℕ) → (codes "let " ++ (w ++ codes " = ")) ++ ((a ++ ((codes " + " ++ b) ++ ((codes " - 2 * " ++ a) ++ (codes " * " ++ b)))) ++ (10 ∷ []))
    ≡ codes "let " ++ (w ++ (codes " = " ++ (a ++ (codes " + " ++ (b ++ (codes " - 2 * " ++ (a ++ (codes " * " ++ (b ++ (10 ∷ []))))))))))
let_again w a b =
    let end : List ℕ = 10 ∷ [] in
    let r2 : List ℕ = codes " - 2 * " ++ (a ++ (codes " * " ++ b)) in
    let r1 : List ℕ = codes " + " ++ (b ++ r2) in
    ap (λ (l : List ℕ). codes "let " ++ l) (append_assoc w (codes " = ") ((a ++ r1) ++ end)
    ∙ ap (λ (l : List ℕ). w ++ (codes " = " ++ l)) (append_assoc a r1 end
    ∙ ap (λ (l : List ℕ). a ++ (codes " + " ++ l)) (append_assoc b r2 end ∙ ap (λ (l : List ℕ). b ++ (codes " - 2 * " ++ l)) (append_assoc a (codes " * " ++ b) end))))

assert_text : (a : List ℕ) → (codes "assert " ++ (a ++ (codes " = " ++ (121 ∷ [])))) ++ (10 ∷ []) ≡ codes "assert " ++ (a ++ (codes " = y" ++ (10 ∷ [])))
assert_text a = ap (λ (l : List ℕ). codes "assert " ++ l) (append_assoc a (codes " = y") (10 ∷ []))

module _ (names : Names) (p l : ℕ) (finds : Finds names p l) where
  let_printed : (k : ℕ) (a b : Entry) → IsBelow p l a → IsBelow p l b → statement_line names (Define (let_name k) (exclusive_or (expr_of a) (expr_of b))) ≡ let_line k a b
  let_printed k a b h g =
      rw (entry_printed names p l place.Part a finds h, entry_printed names p l place.Part b finds g, entry_printed names p l place.Factor a finds h, entry_printed names p l place.Factor b finds g)
      (let_text (let_name k) (entry_text a) (entry_text b) (decimal 2) two_text ∙ sym (let_again (let_name k) (entry_text a) (entry_text b)))

  round_printed : (k : ℕ) (es : List Entry) → AreBelow p l es → flat_map (statement_line names) (round_lets k es) ≡ round_text k es
  round_printed k [] h = refl
  round_printed k (a ∷ []) h = refl
  round_printed k (a ∷ b ∷ es) h = ap₂ (λ (x y : List ℕ). x ++ y) (let_printed k a b h.0 h.1.0) (round_printed (k + 1) es h.1.1)

  assert_printed : (e : Entry) → IsBelow p l e → statement_line names (Assertion (expr_of e) (PublicInput 0)) ≡ assert_line e
  assert_printed e h = rw (entry_printed names p l place.Alone e finds h, finds.public) (assert_text (entry_text e))

  rounds_printed : (n k : ℕ) (es : List Entry) → 1 ≤ length es → k + length es ≤ l + 1 → AreBelow p k es → flat_map (statement_line names) (rounds n k es) ≡ rounds_text n k es
  rounds_printed zero k [] some few h = absurd (omega arith)
  rounds_printed zero k (e ∷ es) some few h = append-nil _ ∙ assert_printed e (below_more p k l e (omega arith) h.0)
  rounds_printed (suc n) k es some few h =
      let same = length-paired k es in
      flat_map-append (statement_line names) (round_lets k es) (rounds n (k + length es / 2) (paired k es))
      ∙ ap₂ (λ (x y : List ℕ). x ++ y) (round_printed k es (all_below_more p k l es (omega arith) h)) (rounds_printed n (k + length es / 2) (paired k es) (omega (arith, same)) (omega (arith, same)) (round_below p k es h))

  privates_printed : (i n : ℕ) → flat_map (statement_line names) (privates_from i n) ≡ privates_text i n
  privates_printed i zero = refl
  privates_printed i (suc n) = ap₂ (λ (x y : List ℕ). x ++ y) (append_assoc (codes "private ") (input_name i) (10 ∷ [])) (privates_printed (i + 1) n)

pub demo_printed : (n : ℕ) → 1 ≤ n → source_text (demo_tree n) ≡ demo_text n
unfolding source_text
demo_printed n some =
    let names = names_of (demo_statements n) in
    let es = inputs_from 0 n in
    let long = length-entries 0 n in
    let finds = demo_finds n some in
    let rest = privates_from 0 n ++ rounds n 0 es in
    let behind : flat_map (statement_line names) rest ≡ privates_text 0 n ++ rounds_text n 0 es = flat_map-append (statement_line names) (privates_from 0 n) (rounds n 0 es)
    ∙ ap₂ (λ (x y : List ℕ). x ++ y) (privates_printed names n (n - 1) finds 0 n) (rounds_printed names n (n - 1) finds n 0 es (omega (arith, long)) (omega (arith, long)) (inputs_below n 0 n (omega arith))) in
    ap (λ (l : List ℕ). head_text ++ l) behind

-- ---- what is made so far

two_more : (es : List Entry) (i : ℕ) (d : Entry) → 2 * i + 1 < length es → drop (2 * i) es ≡ get_or es (2 * i) d ∷ get_or es (2 * i + 1) d ∷ drop (2 * (i + 1)) es
two_more es i d lt =
    let one : suc (2 * i) ≡ 2 * i + 1 = omega arith in
    let two : suc (2 * i + 1) ≡ 2 * (i + 1) = omega arith in
    drop-cons es (2 * i) d (omega arith) ∙ ap (λ (l : List Entry). get_or es (2 * i) d ∷ l) (ap (λ n. drop n es) one ∙ drop-cons es (2 * i + 1) d lt ∙ ap (λ n. get_or es (2 * i + 1) d ∷ drop n es) two)

pub pair_listed : (es whole : List Entry) (first i : ℕ) (d : Entry) (list more : List Entry) → i < length es / 2 → list ++ paired (first + i) (drop (2 * i) es) ≡ whole → more ≡ list ++ Made (first + i) ∷ []
    → more ++ paired (first + (i + 1)) (drop (2 * (i + 1)) es) ≡ whole
pair_listed es whole first i d list more lt h m =
    let next : first + (i + 1) ≡ first + i + 1 = omega arith in
    ap (λ k. more ++ paired k (drop (2 * (i + 1)) es)) next ∙ ap (λ (l : List Entry). l ++ paired (first + i + 1) (drop (2 * (i + 1)) es)) m ∙ append_assoc list (Made (first + i) ∷ []) _
    ∙ ap (λ (l : List Entry). list ++ paired (first + i) l) (sym (two_more es i d (omega arith))) ∙ h

pub pair_made : (es : List Entry) (whole : List Statement) (first i : ℕ) (d : Entry) (ss more : List Statement) → i < length es / 2 → ss ++ round_lets (first + i) (drop (2 * i) es) ≡ whole
    → more ≡ ss ++ Define (let_name (first + i)) (exclusive_or (expr_of (get_or es (2 * i) d)) (expr_of (get_or es (2 * i + 1) d))) ∷ [] → more ++ round_lets (first + (i + 1)) (drop (2 * (i + 1)) es) ≡ whole
pair_made es whole first i d ss more lt h m =
    let next : first + (i + 1) ≡ first + i + 1 = omega arith in
    let line = Define (let_name (first + i)) (exclusive_or (expr_of (get_or es (2 * i) d)) (expr_of (get_or es (2 * i + 1) d))) in
    ap (λ k. more ++ round_lets k (drop (2 * (i + 1)) es)) next ∙ ap (λ (l : List Statement). l ++ round_lets (first + i + 1) (drop (2 * (i + 1)) es)) m
    ∙ append_assoc ss (line ∷ []) _ ∙ ap (λ (l : List Entry). ss ++ round_lets (first + i) l) (sym (two_more es i d (omega arith))) ∙ h

-- a round leaves fewer entries, and at least one
pub fewer : (k : ℕ) (es ds : List Entry) → ds ≡ paired k es → 1 < length es → length ds < length es
fewer k es ds e lt = omega (arith, ap length e, length-paired k es)

pub some_left : (k : ℕ) (es ds : List Entry) → ds ≡ paired k es → 1 ≤ length es → 1 ≤ length ds
some_left k es ds e lt = omega (arith, ap length e, length-paired k es)

pub same_sum : (k : ℕ) (es ds : List Entry) → ds ≡ paired k es → k + length es / 2 + length ds ≡ k + length es
same_sum k es ds e = omega (arith, ap length e, length-paired k es)

pub round_made : (k n : ℕ) (es ds : List Entry) (ss more whole : List Statement) → 1 < length es → length es ≤ n + 1 → ds ≡ paired k es → more ≡ ss ++ round_lets k es → ss ++ rounds n k es ≡ whole
    → (m : ℕ) × (length ds ≤ m + 1) × (more ++ rounds m (k + length es / 2) ds ≡ whole)
round_made k zero es ds ss more whole lt few e f h = absurd (omega arith)
round_made k (suc n) es ds ss more whole lt few e f h = (
  n,
  omega (arith, ap length e, length-paired k es),
  ap (λ (l : List Entry). more ++ rounds n (k + length es / 2) l) e ∙ ap (λ (l : List Statement). l ++ rounds n (k + length es / 2) (paired k es)) f ∙ append_assoc ss (round_lets k es) _ ∙ h,
)

one_entry : (n k : ℕ) (e : Entry) → rounds n k (e ∷ []) ≡ Assertion (expr_of e) (PublicInput 0) ∷ []
one_entry zero k e = refl
one_entry (suc n) k e = one_entry n (k + 1 / 2) e

pub assert_made : (n k : ℕ) (es : List Entry) (e : Entry) (ss more whole : List Statement) → 1 ≤ length es → length es ≤ 1 → e ≡ get_or es 0 e → ss ++ rounds n k es ≡ whole
    → more ≡ ss ++ Assertion (expr_of e) (PublicInput 0) ∷ [] → more ≡ whole
assert_made n k [] e ss more whole some few same h m = absurd (omega arith)
assert_made n k (d ∷ c ∷ es) e ss more whole some few same h m = absurd (omega arith)
assert_made n k (d ∷ []) e ss more whole some few same h m =
    m ∙ ap (λ (c : Entry). ss ++ Assertion (expr_of c) (PublicInput 0) ∷ []) same ∙ ap (λ (l : List Statement). ss ++ l) (sym (one_entry n k d)) ∙ h

pub private_listed : (n i : ℕ) (list more whole : List Entry) → i < n → list ++ inputs_from i (n - i) ≡ whole → more ≡ list ++ Input i ∷ [] → more ++ inputs_from (i + 1) (n - (i + 1)) ≡ whole
private_listed n i list more whole lt h m =
    let e : n - i ≡ suc (n - (i + 1)) = omega arith in
    ap (λ (l : List Entry). l ++ inputs_from (i + 1) (n - (i + 1))) m ∙ append_assoc list (Input i ∷ []) _ ∙ ap (λ k. list ++ inputs_from i k) (sym e) ∙ h

pub inputs_few : (n : ℕ) (es : List Entry) → es ≡ inputs_from 0 n → n ≤ 16384 → length es ≤ 16384
inputs_few n es e few = omega (arith, ap length e, length-entries 0 n)

-- the demo's source is that of a text
pub demo_formed : (n : ℕ) → 1 ≤ n → n ≤ 16384 → IsBuilt (demo_tree n) → IsWellFormed (demo_tree n)
demo_formed n some few built = record {
  text = source_text (demo_tree n);
  short = subst (λ (t : List ℕ). length t ≤ 4194304) (sym (demo_printed n some)) (demo_short n some few);
  reads = built_reads (demo_tree n) built;
}
