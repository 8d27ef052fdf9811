-- A row's coefficients, and its values at further points.
use Rattle.std.specs.Prelude.{◌≡◌, ℕ, ◌<◌, ◌≤◌, ◌-◌, ◌*◌, ◌%◌, ◌^◌, List, length, take}
use Rattle.std.proofs.Common.{sym, ◌∙◌, arith}
use Rattle.lzk_field.specs.Ring.{Ops, Laws}
use Rattle.lzk_field.specs.Sums.{entry}
use Rattle.lzk_poly.specs.Extension.{IsExtension, extension}
use Rattle.lzk_afft.specs.Basis.{basis_sum, AreCoefficients}
use Rattle.lzk_afft.specs.Blocks.{IsBlock, IsReady}
use Rattle.lzk_afft.proofs.Rooms.{first_block, room_coefficients, room_sum}
use Rattle.lzk_afft.proofs.Uniqueness.{coefficients_extension}

module _ {A : Type 0} {o : Ops A} {size : ℕ} {number_of : A → ℕ} {element : ℕ → A} {bytes : ℕ} (laws : Laws o size number_of element bytes) where
  -- what a truncated backward transform leaves in the room
  pub row_coefficients : (count upto bits depth : ℕ) (twiddles values room : List A) → IsReady o element count upto bits depth twiddles → length values ≡ count → length room ≡ 2 ^ bits
      → (IsBlock o element bits 0 (1 * 2 ^ (depth - bits) % 18446744073709551616) twiddles → (j : ℕ) → j < length values → basis_sum o element (entry o room) (2 ^ bits) (element j) ≡ entry o values j)
      → ((j : ℕ) → length values ≤ j → j < length room → entry o room j ≡ o.zero)
      → AreCoefficients o element values (take (length values) room)
  row_coefficients count upto bits depth twiddles values room ready counted whole meets rest =
      room_coefficients o laws.ring element values room (2 ^ bits) (omega (arith, counted, ready.enough)) whole (λ j h l. rest j h (omega (arith, whole)))
      (meets (first_block laws bits depth twiddles ready.smaller ready.few ready.whole))

  -- and the polynomial's value at a further point
  pub row_extension : (count upto bits depth : ℕ) (twiddles values room : List A) → IsReady o element count upto bits depth twiddles → length values ≡ count → length room ≡ 2 ^ bits
      → (IsBlock o element bits 0 (1 * 2 ^ (depth - bits) % 18446744073709551616) twiddles → (j : ℕ) → j < length values → basis_sum o element (entry o room) (2 ^ bits) (element j) ≡ entry o values j)
      → ((j : ℕ) → length values ≤ j → j < length room → entry o room j ≡ o.zero)
      → (j : ℕ) (y : A) → y ≡ basis_sum o element (entry o room) (2 ^ bits) (element j) → IsExtension o element values j y × (y ≡ extension o element values j)
  row_extension count upto bits depth twiddles values room ready counted whole meets rest j y value =
      coefficients_extension laws values (take (length values) room) j y (omega (arith, counted, ready.order, ready.limit)) (row_coefficients count upto bits depth twiddles values room ready counted whole meets rest)
      (value ∙ sym (room_sum o laws.ring element values room (2 ^ bits) (element j) (omega (arith, counted, ready.enough)) whole (λ i h l. rest i h (omega (arith, whole)))))
