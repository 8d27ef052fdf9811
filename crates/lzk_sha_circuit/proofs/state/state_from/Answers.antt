use Rattle.std.proofs.Common.{slice_index, sym, refl}
use Rattle.std.proofs.lemmas.List.FromFn.{fill_by_all}
use Rattle.lzk_sha_circuit.proofs.state.state_from.Goals as goal

pub returns : goal.returns
returns c =
    let words = c.args.words.now in
    sym (fill_by_all (λ k. slice_index words k) words 8 0 c.requires (λ k lt. refl))
