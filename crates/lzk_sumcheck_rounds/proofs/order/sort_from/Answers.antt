use Rattle.std.specs.List.Sorted.{IsPermutation}
use Rattle.std.proofs.Common.{◌++◌, sym, subst}
use Rattle.std.proofs.lemmas.List.Sorted.{IsPermutation-append_right}
use Rattle.lzk_sumcheck_rounds.proofs.order.sort_from.Goals as goal

pub returns : goal.returns
returns c =
    let front = c.split_at_mut-rest.result.0.now in
    let sorted = c.sort_unstable.new.self in
    subst (λ xs. IsPermutation xs (front ++ sorted)) (sym c.split_at_mut-rest.ensures.value)
    (IsPermutation-append_right front c.split_at_mut-rest.result.1.now sorted c.sort_unstable.ensures.permutation)
