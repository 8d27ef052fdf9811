-- A policy, line after line.
use Rattle.std.proofs.Common.{◌≡◌, ℕ, ◌+◌, ◌≤◌, List, [], ◌∷◌, length, Option, Some, None, Ok, Err, Bor, refl, ap, ◌∙◌, arith}
use Rattle.lzk_expr.specs.Texts.{lines}
use Rattle.lzk_expr.proofs.Taking.{lines_left, left_size, IsNext}
use Rattle.lzk_policy.specs.declared.fault.PolicyFault.{PolicyFault}
use Rattle.lzk_policy.specs.declared.fault.PolicyError.{PolicyError}
use Rattle.lzk_policy.specs.declared.fault.PolicyError.TheVariants as errors
use Rattle.lzk_policy.specs.Policies.{Partial, IsPartial, nothing, with_bytes, whole, policy_from, policy_of, Fails}

-- what is left of a text at a line, behind what the lines before it say
pub record Left (line : ℕ) (text : List ℕ) (left : Option (Bor (List ℕ))) (have : Partial) : Type 0 where
  pub room : line + left_size left ≤ 2 + length text
  pub read : policy_of text ≡ policy_from line have (lines_left left)
  pub well : IsPartial have

is_nothing : IsPartial nothing
is_nothing = record {
  some = λ n e. absurd cc;
  none = λ e. refl;
  fields = omega arith;
  few = omega arith;
  levels = omega arith;
  shown = λ e. refl;
  shows = tt;
}

pub left_first : (text : Bor (List ℕ)) (have : Partial) → have ≡ nothing → Left 1 text.now (Some text) have
unfolding policy_of
left_first text have e = rw e (record { room = omega arith; read = refl; well = is_nothing })

step : (line : ℕ) (now : List ℕ) (later : List (List ℕ)) (have more : Partial) → with_bytes line have now ≡ Ok more → policy_from line have (now ∷ later) ≡ policy_from (line + 1) more later
unfolding policy_from
step line now later have more e = rw e refl

stop : (line : ℕ) (now : List ℕ) (later : List (List ℕ)) (have : Partial) (f : PolicyFault) → with_bytes line have now ≡ Err f → policy_from line have (now ∷ later) ≡ Err f
unfolding policy_from
stop line now later have f e = rw e refl

pub left_next : (line : ℕ) (text now : List ℕ) (have more : Partial) (behind : Bor (List ℕ)) (after : Option (Bor (List ℕ))) → IsNext behind.now now after → Left line text (Some behind) have
    → with_bytes line have now ≡ Ok more → IsPartial more → Left (line + 1) text after more
left_next line text now have more behind None next h e w = record {
  room = omega (arith, h.room);
  read = h.read ∙ (ap (λ ls. policy_from line have ls) next ∙ step line now [] have more e);
  well = w;
}
left_next line text now have more behind (Some rest) next h e w = record {
  room = omega (arith, h.room, next.shorter);
  read = h.read ∙ (ap (λ ls. policy_from line have ls) next.lines_are ∙ step line now (lines rest.now) have more e);
  well = w;
}

pub left_stop : (line : ℕ) (text now : List ℕ) (have : Partial) (behind : Bor (List ℕ)) (after : Option (Bor (List ℕ))) (e : PolicyError) → IsNext behind.now now after → Left line text (Some behind) have
    → Fails e (with_bytes line have now) → Fails e (policy_of text)
left_stop line text now have behind after errors.OutOfMemory next h e = tt
left_stop line text now have behind None (errors.Fault f) next h e = h.read ∙ (ap (λ ls. policy_from line have ls) next ∙ stop line now [] have f e)
left_stop line text now have behind (Some rest) (errors.Fault f) next h e = h.read ∙ (ap (λ ls. policy_from line have ls) next.lines_are ∙ stop line now (lines rest.now) have f e)

pub left_done : (line : ℕ) (text : List ℕ) (have : Partial) → Left line text None have → policy_of text ≡ whole line have
unfolding policy_from
left_done line text have h = h.read
