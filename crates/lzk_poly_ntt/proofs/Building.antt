-- Kernels as they are put one after the other.
use Rattle.std.specs.Prelude.{◌≡◌, ℕ, ◌<◌, ◌≤◌, ◌+◌, ◌-◌, ◌*◌, ◌^◌, List, ◌++◌, length, take, drop, cond}
use Rattle.std.proofs.Common.{sym, ap, ◌∙◌, arith, subst, length-append}
use Rattle.std.proofs.lemmas.Bool.{lt-ltb, le-ltb}
use Rattle.std.proofs.lemmas.List.{get_or-append-add}
use Rattle.std.proofs.Math.ListN.{get_or-append, get_or-eq_default}
use Rattle.std.proofs.Math.Seq.{take-append_seam}
use Rattle.std.proofs.Math.Nat.{suc-mul, add-mul}
use native.Mathlib.Decide.{dec_lt}
use Rattle.lzk_field.specs.Ring.{Ops, RingLaws, FieldLaws}
use Rattle.lzk_field.specs.Sums.{entry}
use Rattle.lzk_field.proofs.RingBasics.{inverse_unique}
use Rattle.lzk_poly.specs.Weights.{IsInverseTable}
use Rattle.lzk_poly_ntt.specs.declared.plan.Plan.{Plan}
use Rattle.lzk_poly_ntt.specs.Transform.{doubled, spectrum, Order}
use Rattle.lzk_poly_ntt.specs.Kernels.{AreKernels, IsKernel, reciprocal, kernel_entry, end_of, from_of}
use Rattle.lzk_poly_ntt.proofs.Transforms.{spectrum-ext}

-- a list written over from its beginning by as many entries
pub rewritten : {A : Type 0} (xs ys : List A) (n : ℕ) → n ≡ length ys → take n (ys ++ drop (length ys) xs) ≡ ys
rewritten xs ys n e = ap (λ k. take k (ys ++ drop (length ys) xs)) e ∙ take-append_seam ys (drop (length ys) xs)

module _ {A : Type 0} (o : Ops A) (r : RingLaws o) (f : FieldLaws o) (point : ℕ → A) where
  -- what the table has, also past its end
  pub reciprocal_is : (table : List A) (m : ℕ) → IsInverseTable o point table → 1 ≤ m → entry o table m ≡ reciprocal o point (length table) m
  reciprocal_is table m is h = elim (dec_lt m (length table)) [
    | yes l ↦ inverse_unique o r f (point m) (entry o table m) (is m h l) ∙ ap (λ b. cond b (o.inverse (point m)) o.zero) (sym (lt-ltb m (length table) l))
    | no l ↦ get_or-eq_default table o.zero {n = m} (omega arith) ∙ ap (λ b. cond b (o.inverse (point m)) o.zero) (sym (le-ltb m (length table) (omega arith)))
  ]

  -- the transform of scaled entries of the table
  pub kernel_is : (bits : ℕ) (w scale : A) (first j : ℕ) (table list new : List A) → IsInverseTable o point table → 1 ≤ first
      → ((i : ℕ) → i < 2 ^ bits → entry o list i ≡ o.times scale (entry o table (first + i)))
      → entry o new j ≡ spectrum o bits w (entry o list) j
      → entry o new j ≡ spectrum o bits w (kernel_entry o point scale (length table) first) j
  kernel_is bits w scale first j table list new is positive entries value =
      value ∙ spectrum-ext o r bits w (entry o list) (kernel_entry o point scale (length table) first) j
      (λ i l. entries i l ∙ ap (o.times scale) (reciprocal_is table (first + i) is (omega arith)))

module _ {A : Type 0} (o : Ops A) (point : ℕ → A) (d : Order A) where
  pub kernel_kept : (upto first at : ℕ) (ks more : List A) → IsKernel o point d upto first ks at → IsKernel o point d upto first (ks ++ more) at
  kernel_kept upto first at ks more is = record {
    fits = omega (arith, is.fits, length-append ks more);
    values = λ j h. get_or-append ks more o.zero (at + j) (omega (arith, is.fits)) ∙ is.values j h;
  }

  pub kernel_new : (upto first at : ℕ) (scale : A) (ks more : List A) → length ks ≡ at → length more ≡ 2 ^ d.bits → scale ≡ o.inverse (doubled o d.bits)
      → ((j : ℕ) → j < 2 ^ d.bits → entry o more j ≡ spectrum o d.bits d.root (kernel_entry o point scale upto first) j)
      → IsKernel o point d upto first (ks ++ more) at
  kernel_new upto first at scale ks more size whole is values = record {
    fits = omega (arith, size, whole, length-append ks more);
    values = λ j h.
        ap (λ k. entry o (ks ++ more) (k + j)) (sym size) ∙ get_or-append-add ks more j o.zero ∙ values j h
        ∙ ap (λ s. spectrum o d.bits d.root (kernel_entry o point s upto first) j) is;
  }

  abbrev kernel_at : Plan → List A → ℕ → ℕ → Type 0
  kernel_at plan ks v p = IsKernel o point d plan.upto (from_of plan p + 1 - end_of plan v) ks ((v * plan.pieces + p) * 2 ^ d.bits)

  -- the kernels of all blocks before one, and of that block's first pieces
  pub record IsBuilt (plan : Plan) (v p : ℕ) (ks : List A) : Type 0 where
    pub size : length ks ≡ (v * plan.pieces + p) * 2 ^ d.bits
    pub before : (u q : ℕ) → u < v → q < plan.pieces → kernel_at plan ks u q
    pub here : (q : ℕ) → q < p → kernel_at plan ks v q

  pub built_none : (plan : Plan) (ks : List A) → length ks ≡ 0 → IsBuilt plan 0 0 ks
  built_none plan ks e = record {
    size = let none : 0 ≡ (0 * plan.pieces + 0) * 2 ^ d.bits = omega arith in e ∙ none;
    before = λ u q h. absurd (omega arith);
    here = λ q h. absurd (omega arith);
  }

  pub built_more : (plan : Plan) (v p : ℕ) (scale : A) (ks more all : List A) → IsBuilt plan v p ks → all ≡ ks ++ more → length more ≡ 2 ^ d.bits → scale ≡ o.inverse (doubled o d.bits)
      → ((j : ℕ) → j < 2 ^ d.bits → entry o more j ≡ spectrum o d.bits d.root (kernel_entry o point scale plan.upto (from_of plan p + 1 - end_of plan v)) j)
      → IsBuilt plan v (p + 1) all
  built_more plan v p scale ks more all built is whole scaled values =
      let n = 2 ^ d.bits in
      let next : (v * plan.pieces + p) * n + n ≡ (v * plan.pieces + (p + 1)) * n =
      sym (suc-mul (v * plan.pieces + p) n) ∙ ap (λ k. k * n) (omega arith) in
      subst (IsBuilt plan v (p + 1)) (sym is) (record {
        size = length-append ks more ∙ ap (λ k. k + length more) built.size ∙ ap (λ k. (v * plan.pieces + p) * n + k) whole ∙ next;
        before = λ u q k l. kernel_kept plan.upto (from_of plan q + 1 - end_of plan u) ((u * plan.pieces + q) * n) ks more (built.before u q k l);
        here = λ q l. elim (dec_lt q p) [
          | yes k ↦ kernel_kept plan.upto (from_of plan q + 1 - end_of plan v) ((v * plan.pieces + q) * n) ks more (built.here q k)
          | no k ↦ let same : p ≡ q = omega arith in
              subst (kernel_at plan (ks ++ more) v) same (kernel_new plan.upto (from_of plan p + 1 - end_of plan v) ((v * plan.pieces + p) * n) scale ks more built.size whole scaled values)
        ];
      })

  pub built_block : (plan : Plan) (v p : ℕ) (ks : List A) → p ≡ plan.pieces → IsBuilt plan v p ks → IsBuilt plan (v + 1) 0 ks
  built_block plan v p ks e built =
      let n = 2 ^ d.bits in
      let next : v * plan.pieces + p ≡ (v + 1) * plan.pieces + 0 = omega (arith, e, add-mul v 1 plan.pieces) in
      record {
        size = built.size ∙ ap (λ k. k * n) next;
        before = λ u q k l. elim (dec_lt u v) [
          | yes m ↦ built.before u q m l
          | no m ↦ let same : v ≡ u = omega arith in subst (λ (w : ℕ). kernel_at plan ks w q) same (built.here q (omega arith))
        ];
        here = λ q h. absurd (omega arith);
      }

  pub built_all : (plan : Plan) (v : ℕ) (ks : List A) → v ≡ plan.blocks → IsBuilt plan v 0 ks → AreKernels o point d plan ks
  built_all plan v ks e built = λ u q k l. built.before u q (omega arith) l
