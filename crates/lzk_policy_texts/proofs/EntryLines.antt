-- A text, line after line.
use Rattle.std.proofs.Common.{◌≡◌, ℕ, ◌+◌, ◌≤◌, List, [], ◌∷◌, length, Option, Some, None, Result, Ok, Err, Bor, refl, ap, ◌∙◌, arith}
use Rattle.lzk_expr.specs.Texts.{lines}
use Rattle.lzk_expr.proofs.Taking.{lines_left, left_size, IsNext}
use Rattle.lzk_policy_texts.specs.declared.entries.ValuesFault.{ValuesFault}
use Rattle.lzk_policy_texts.specs.declared.entries.ValuesError.{ValuesError}
use Rattle.lzk_policy_texts.specs.declared.entries.ValuesError.TheVariants as errors
use Rattle.lzk_policy_texts.specs.Entries.{lines_from, Fails}

-- what is left of a text at a line, behind what the lines before it say
pub record Left {A : Type 0} (takes : ℕ → A → List ℕ → Result A ValuesFault) (none : A) (line : ℕ) (text : List ℕ) (left : Option (Bor (List ℕ))) (have : A) : Type 0 where
  pub room : line + left_size left ≤ 2 + length text
  pub read : lines_from takes 1 none (lines text) ≡ lines_from takes line have (lines_left left)

module _ {A : Type 0} (takes : ℕ → A → List ℕ → Result A ValuesFault) (none : A) where
  pub left_first : (text : Bor (List ℕ)) (have : A) → have ≡ none → Left takes none 1 text.now (Some text) have
  left_first text have e = rw e (record { room = omega arith; read = refl })

  step : (line : ℕ) (now : List ℕ) (later : List (List ℕ)) (have more : A) → takes line have now ≡ Ok more → lines_from takes line have (now ∷ later) ≡ lines_from takes (line + 1) more later
  unfolding lines_from
  step line now later have more e = rw e refl

  stop : (line : ℕ) (now : List ℕ) (later : List (List ℕ)) (have : A) (f : ValuesFault) → takes line have now ≡ Err f → lines_from takes line have (now ∷ later) ≡ Err f
  unfolding lines_from
  stop line now later have f e = rw e refl

  pub left_next : (line : ℕ) (text now : List ℕ) (have more : A) (behind : Bor (List ℕ)) (after : Option (Bor (List ℕ))) → IsNext behind.now now after → Left takes none line text (Some behind) have
      → takes line have now ≡ Ok more → Left takes none (line + 1) text after more
  left_next line text now have more behind None next h e = record {
    room = omega (arith, h.room);
    read = h.read ∙ (ap (λ ls. lines_from takes line have ls) next ∙ step line now [] have more e);
  }
  left_next line text now have more behind (Some rest) next h e = record {
    room = omega (arith, h.room, next.shorter);
    read = h.read ∙ (ap (λ ls. lines_from takes line have ls) next.lines_are ∙ step line now (lines rest.now) have more e);
  }

  pub left_stop : (line : ℕ) (text now : List ℕ) (have : A) (behind : Bor (List ℕ)) (after : Option (Bor (List ℕ))) (e : ValuesError) → IsNext behind.now now after → Left takes none line text (Some behind) have
      → Fails e (takes line have now) → Fails e (lines_from takes 1 none (lines text))
  left_stop line text now have behind after errors.OutOfMemory next h e = tt
  left_stop line text now have behind None (errors.Fault f) next h e = h.read ∙ (ap (λ ls. lines_from takes line have ls) next ∙ stop line now [] have f e)
  left_stop line text now have behind (Some rest) (errors.Fault f) next h e = h.read ∙ (ap (λ ls. lines_from takes line have ls) next.lines_are ∙ stop line now (lines rest.now) have f e)

  pub left_done : (line : ℕ) (text : List ℕ) (have : A) → Left takes none line text None have → lines_from takes 1 none (lines text) ≡ Ok have
  unfolding lines_from
  left_done line text have h = h.read
