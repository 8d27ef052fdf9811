-- A word that an answer gives at most columns is near a polynomial, and where it is near one the answer is the right one.
use Rattle.std.specs.Prelude.{◌≡◌, ℕ, ◌+◌, ◌<◌, ◌≤◌, ◌||◌, Bool, true, false, cond, List, [], ◌∷◌, length}
use Rattle.std.specs.List.{range_with_len}
use Rattle.std.proofs.Common.{refl, sym, ap, ◌∙◌, arith}
use Rattle.std.proofs.lemmas.Bool.{false≢true}
use Rattle.lzk_field.specs.Ring.{Ops, Laws}
use Rattle.lzk_field.specs.Sums.{minus}
use Rattle.lzk_field.proofs.Solve.{var, unit as solo, opp, ◌⊞◌, ◌⊟◌, ◌⊠◌, solve}
use Rattle.lzk_poly.specs.Extension.{extension}
use Rattle.lzk_poly.specs.Polynomial.{eval, add, scale}
use Rattle.lzk_poly.specs.Through.{through}
use Rattle.lzk_poly.proofs.Polynomials.{eval-add, eval-scale, length-add, length-scale}
use Rattle.lzk_poly.proofs.Through.{eval-through, length-through}
use Rattle.lzk_soundness.specs.Chance.Draws.{count}
use Rattle.lzk_layout.specs.declared.params.Params.{Params}
use Rattle.lzk_layout.specs.Sizes.{AreBounded}
use Rattle.lzk_soundness.specs.Near.Near.{AreClose}
use Rattle.lzk_soundness.proofs.NearLaws.Agreeing.{or_false, count_or, same_but_few}
use Rattle.lzk_soundness.specs.Tables.Table.{place}
use Rattle.lzk_soundness.proofs.TablesLaws.Far.{columns_apart}
use Rattle.lzk_soundness.proofs.ExtractLaws.Decoding.{same_values}

-- the contrary of a test
abbrev pub flip : (ℕ → Bool) → ℕ → Bool
flip test j = cond (test j) false true

pub flip_counts : (test : ℕ → Bool) (js : List ℕ) → count test js + count (flip test) js ≡ length js
flip_counts test [] = refl
flip_counts test (j ∷ js) = omega (arith, (one (test j)).0, (one (test j)).1, flip_counts test js)
  where
    one : (b : Bool) → (cond b 1 0 + cond (cond b false true) 1 0 ≤ 1) × (1 ≤ cond b 1 0 + cond (cond b false true) 1 0)
    one true = (omega arith, omega arith)
    one false = (omega arith, omega arith)

pub flip_false : (test : ℕ → Bool) (j : ℕ) → flip test j ≡ false → test j ≡ true
flip_false test j is = go (test j) refl is
  where
    go : (b : Bool) → test j ≡ b → cond b false true ≡ false → test j ≡ true
    go true here e = here
    go false here e = absurd (false≢true (sym e))

module _ {A : Type 0} {o : Ops A} {size : ℕ} {number_of : A → ℕ} {element : ℕ → A} {bytes : ℕ} (laws : Laws o size number_of element bytes) (p : Params) (b : AreBounded p) where
  module _ (table : ℕ → ℕ → A) (here : ℕ → Bool) (few : count (flip here) (range_with_len 0 p.mcol) ≤ p.block) (word part : ℕ → A) (sent right first : List A) (ls : length sent ≡ p.dblock) (lr : length right ≡ p.dblock) (short : length first ≤ p.dblock)
      (sent_is : (j : ℕ) → j < p.mcol → here j ≡ true → extension o element sent (p.dblock + j) ≡ o.plus (word j) (part j))
      (right_is : (j : ℕ) → j < p.mcol → here j ≡ true → extension o element right (p.dblock + j) ≡ o.plus (eval o first (element (p.dblock + j))) (part j)) where
    abbrev T : List A → List A
    T = through o element

    -- what was sent, less what is right, and the first
    abbrev other : List A
    other = add o first (add o (T sent) (scale o (o.neg o.one) (T right)))

    other_is : (t : A) → eval o other t ≡ o.plus (eval o first t) (minus o (eval o (T sent) t) (eval o (T right) t))
    other_is t =
        let s = eval o (T sent) t in
        let w = eval o (T right) t in
        eval-add o laws.ring first (add o (T sent) (scale o (o.neg o.one) (T right))) t
        ∙ ap (o.plus (eval o first t)) (eval-add o laws.ring (T sent) (scale o (o.neg o.one) (T right)) t ∙ ap (o.plus s) (eval-scale o laws.ring (o.neg o.one) (T right) t)
        ∙ solve o laws.ring (s ∷ w ∷ []) (var 0 ⊞ opp solo ⊠ var 1) (var 0 ⊟ var 1) refl)

    other_short : length other ≤ p.dblock
    other_short =
        length-add o p.dblock first (add o (T sent) (scale o (o.neg o.one) (T right))) short
        (length-add o p.dblock (T sent) (scale o (o.neg o.one) (T right)) (omega (arith, length-through o element sent, ls)) (omega (arith, length-scale o (o.neg o.one) (T right), length-through o element right, lr)))

    -- the word is near this polynomial
    pub word_close : AreClose o (place o element p table) p.dblock p.mcol p.block 1 (λ i. word)
    word_close = record {
      outside = flip here;
      code = λ i. other;
      few = few;
      short = λ i h. other_short;
      agree = λ i j h l is.
          let yes_here = flip_false here j is in
          let x = element (p.dblock + j) in
          let f = eval o first x in
          sym (other_is x ∙ ap (λ s. o.plus f (minus o s (eval o (T right) x))) (eval-through o laws.ring element sent x ∙ sent_is j l yes_here)
          ∙ ap (λ w. o.plus f (minus o (o.plus (word j) (part j)) w)) (eval-through o laws.ring element right x ∙ right_is j l yes_here)
          ∙ solve o laws.ring (word j ∷ part j ∷ f ∷ []) (var 2 ⊞ ((var 0 ⊞ var 1) ⊟ (var 2 ⊞ var 1))) (var 0) refl);
    }

    -- where it is near the first, what was sent is right
    pub right_sent : (close : AreClose o (place o element p table) p.dblock p.mcol p.block 1 (λ i. word)) → ((t : A) → eval o (close.code 0) t ≡ eval o first t) → sent ≡ right
    right_sent close is =
        let at = place o element p table in
        let all = range_with_len 0 p.mcol in
        let bad : ℕ → Bool = λ j. flip here j || close.outside j in
        same_values laws p b p.dblock sent right (omega (arith, b.columns)) ls lr
        (same_but_few o at bad laws.ring laws.field p.dblock p.mcol (T sent) (T right) (omega (arith, length-through o element sent, ls)) (omega (arith, length-through o element right, lr)) (columns_apart laws p table b)
        (omega (arith, count_or (flip here) close.outside all, few, close.few, b.mcol, b.dblock, b.block))
        (λ j h none.
        let both = or_false (flip here j) (close.outside j) none in
        let yes_here = flip_false here j both.0 in
        eval-through o laws.ring element sent (at j) ∙ sent_is j h yes_here
        ∙ ap (λ w. o.plus w (part j)) (close.agree 0 j (omega arith) h both.1 ∙ is (at j))
        ∙ sym (right_is j h yes_here) ∙ sym (eval-through o laws.ring element right (at j))))
