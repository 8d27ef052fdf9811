-- How long weighted answers are.
use Rattle.lzk_profile.specs.Profile.{opened_count}
use Rattle.std.specs.Prelude.{◌≡◌, ℕ, ◌+◌, ◌-◌, List, ◌++◌, length, drop, replicate}
use Rattle.std.proofs.Common.{◌∙◌, arith}
use Rattle.std.proofs.lemmas.List.{length-append, length-replicate, length-take-le, length-drop}
use Rattle.lzk_field.specs.Ring.{Ops}
use Rattle.lzk_layout.specs.declared.params.Params.{Params}
use Rattle.lzk_layout.specs.Sizes.{AreBounded}
use Rattle.lzk_verify.specs.Columns.{values_of}
use Rattle.lzk_verify.specs.Desk.{AreAnswers, weighted_answers}
use Rattle.lzk_verify.specs.Kept.{sent_count, ldt_in, dot_in, head_in, tail_in}
use Rattle.lzk_verify.proofs.Extended.{length_weighted}

module _ {A : Type 0} (o : Ops A) (element : ℕ → A) (p : Params) (bounded : AreBounded p) (sent : List A) (size : length sent ≡ sent_count p) where
  long_ldt : length (ldt_in p sent) ≡ p.block
  long_ldt = length-take-le p.block (drop p.nsum sent) (omega (arith, length-drop p.nsum sent, size))

  long_dot : length (dot_in p sent) ≡ p.dblock
  long_dot = length-take-le p.dblock (drop (p.nsum + p.block) sent) (omega (arith, length-drop (p.nsum + p.block) sent, size))

  long_head : length (head_in p sent) ≡ opened_count
  long_head = length-take-le opened_count (drop (p.nsum + p.block + p.dblock) sent) (omega (arith, length-drop (p.nsum + p.block + p.dblock) sent, size))

  long_tail : length (tail_in p sent) ≡ p.dblock - p.block
  long_tail = length-take-le (p.dblock - p.block) (drop (p.nsum + p.block + p.dblock + opened_count) sent) (omega (arith, length-drop (p.nsum + p.block + p.dblock + opened_count) sent, size))

  long_values : length (values_of o p (head_in p sent) (tail_in p sent)) ≡ p.dblock
  long_values =
      let zeros = replicate (p.block - opened_count) o.zero in
      length-append (head_in p sent ++ zeros) (tail_in p sent) ∙ omega (arith, length-append (head_in p sent) zeros, length-replicate (p.block - opened_count) o.zero, long_head, long_tail, bounded.block, bounded.dblock, bounded.wide)

  -- they are as long as the parameters say
  pub answers_long : AreAnswers p (weighted_answers o element p sent)
  answers_long = record {
    ldt = length_weighted o element (ldt_in p sent) ∙ long_ldt;
    dot = length_weighted o element (dot_in p sent) ∙ long_dot;
    quadratic = length_weighted o element (values_of o p (head_in p sent) (tail_in p sent)) ∙ long_values;
  }
