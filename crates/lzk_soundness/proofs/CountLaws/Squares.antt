-- The committed list, so many times, fits into the square of a row's width.
use Rattle.lzk_profile.specs.Profile.{row_factor, most_committed}
use Rattle.std.specs.Prelude.{◌≡◌, ℕ, ◌*◌, ◌<◌, ◌≤◌}
use Rattle.std.proofs.Common.{refl, sym, arith, inl, inr, subst}
use Rattle.std.proofs.lemmas.Bool.{cases_lt}
use Rattle.lzk_layout.specs.Sizes.{row_width}
use Rattle.lzk_layout.proofs.Least.{width_64, width_next}

module _ (nw : ℕ) (few : nw ≤ most_committed) where
  abbrev Fits : Type 0
  Fits = row_factor * nw ≤ row_width nw * row_width nw

  with_width : (w : ℕ) → row_width nw ≡ w → row_factor * nw ≤ w * w → Fits
  with_width w e h = subst (λ (k : ℕ). row_factor * nw ≤ k * k) (sym e) h

  above_1024 : 1048576 < row_factor * nw → Fits
  above_1024 lt =
      elim (cases_lt 4194304 (row_factor * nw)) [
        | inr le ↦ with_width 2048 (width_next nw 10 11 refl (omega arith) (omega arith) lt le) (omega (arith, le))
        | inl lt' ↦ with_width 4096 (width_next nw 11 12 refl (omega arith) (omega arith) lt' (omega (arith, few))) (omega (arith, few))
      ]

  above_512 : 262144 < row_factor * nw → Fits
  above_512 lt =
      elim (cases_lt 1048576 (row_factor * nw)) [
        | inr le ↦ with_width 1024 (width_next nw 9 10 refl (omega arith) (omega arith) lt le) (omega (arith, le))
        | inl lt' ↦ above_1024 lt'
      ]

  above_256 : 65536 < row_factor * nw → Fits
  above_256 lt =
      elim (cases_lt 262144 (row_factor * nw)) [
        | inr le ↦ with_width 512 (width_next nw 8 9 refl (omega arith) (omega arith) lt le) (omega (arith, le))
        | inl lt' ↦ above_512 lt'
      ]

  above_128 : 16384 < row_factor * nw → Fits
  above_128 lt =
      elim (cases_lt 65536 (row_factor * nw)) [
        | inr le ↦ with_width 256 (width_next nw 7 8 refl (omega arith) (omega arith) lt le) (omega (arith, le))
        | inl lt' ↦ above_256 lt'
      ]

  above_64 : 4096 < row_factor * nw → Fits
  above_64 lt =
      elim (cases_lt 16384 (row_factor * nw)) [
        | inr le ↦ with_width 128 (width_next nw 6 7 refl (omega arith) (omega arith) lt le) (omega (arith, le))
        | inl lt' ↦ above_128 lt'
      ]

  pub square_fits : Fits
  square_fits =
      elim (cases_lt 4096 (row_factor * nw)) [
        | inr le ↦ with_width 64 (width_64 nw le) (omega (arith, le))
        | inl lt ↦ above_64 lt
      ]
