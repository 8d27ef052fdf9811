-- The columns that a tape opens (the profile in docs/FORMATS.md, section 7).
use Rattle.std.specs.Prelude.{ℕ, zero, suc, ◌-◌, ◌%◌, Bool, false, ◌||◌, not, cond, nat_eq, List, [], ◌∷◌, slice_index}
use Rattle.lzk_transcript.specs.Tape.{TapeState, drawn, after_draw}

-- the tape after n draws
unfoldable pub after_draws : ℕ → TapeState → TapeState
after_draws zero t = t
after_draws (suc n) t = after_draw (after_draws n t)

-- the number that draw k gives, counting from 0
abbrev pub draw_at : ℕ → TapeState → ℕ
draw_at k t = drawn (after_draws k t)

-- whether x stands in the list
abbrev pub has : ℕ → List ℕ → Bool
has x [] = false
has x (p ∷ ps) = nat_eq p x || has x ps

-- those of the n numbers from low on that pass the test, ascending
unfoldable pub numbers_from : ℕ → ℕ → (ℕ → Bool) → List ℕ
numbers_from low zero test = []
numbers_from low (suc n) test = cond (test low) (low ∷ numbers_from (suc low) n test) (numbers_from (suc low) n test)

-- the columns that are not yet picked, ascending
abbrev pub left_columns : ℕ → List ℕ → List ℕ
left_columns mcol picked = numbers_from 0 mcol (λ x. not (has x picked))

-- the columns that the first m draws pick, the last one first: draw k picks by its place among those that are left
unfoldable pub picks : ℕ → ℕ → TapeState → List ℕ
picks mcol zero t = []
picks mcol (suc k) t = slice_index (left_columns mcol (picks mcol k t)) (draw_at k t % (mcol - k)) ∷ picks mcol k t

-- the columns that the first m draws pick, ascending
unfoldable pub opened : ℕ → ℕ → TapeState → List ℕ
opened mcol m t = numbers_from 0 mcol (λ x. has x (picks mcol m t))
