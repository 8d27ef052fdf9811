-- Few lists of weights make a combination 0 that is not one of zeros.
use Rattle.std.specs.Prelude.{◌≡◌, ◌≢◌, ℕ, ◌*◌, ◌^◌, ◌<◌, ◌≤◌, Bool, true, List, length}
use Rattle.lzk_field.specs.Ring.{Ops}
use Rattle.lzk_field.specs.Sums.{entry}
use Rattle.lzk_soundness.specs.Chance.Draws.{count, draws_from}
use Rattle.lzk_soundness.specs.Chance.Few.{AreDistinct}
use Rattle.lzk_soundness.specs.Rows.Weights.{combination}

-- The constant and the gaps stand before the weights are drawn, and gap i is not 0. The test says yes only to weights
-- by which the combination is 0. Of all lists of n weights from a list without repetition, its share is at most one
-- over the list's length.
abbrev pub CombinationsAreFew : {A : Type 0} → Ops A → Type 0
CombinationsAreFew {A} o =
    (constant : A) (gap : ℕ → A) (n i : ℕ) (wins : List A → Bool) (ds : List A) → i < n → gap i ≢ o.zero
    → ((ws : List A) → length ws ≡ n → wins ws ≡ true → combination o constant gap (entry o ws) n ≡ o.zero)
    → AreDistinct ds
    → count wins (draws_from ds n) * length ds ≤ length ds ^ n
