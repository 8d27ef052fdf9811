use Rattle.std.proofs.Common.{◌≡◌, ◌∙◌, map, slice_index, sym, ap, refl, arith}
use Rattle.std.specs.Int.{w128, from_le_bytes}
use Rattle.std.specs.List.{range_with_len}
use Rattle.std.proofs.lemmas.List.FromFn.{fill_by_all}
use Rattle.lzk_field.specs.Bytes.{number_from}
use Rattle.lzk_gf128.proofs.bytes.read.Goals as goal

pub returns : goal.returns
returns c =
    let bytes = c.args.bytes.now in
    let all = map (λ k. slice_index bytes k) (range_with_len 0 16) in
    let same : from_le_bytes w128 all ≡ number_from all = omega arith in
    c.from_le_bytes.ensures ∙ same ∙ ap number_from (sym (fill_by_all (λ k. slice_index bytes k) bytes 16 0 c.requires (λ k lt. refl)))
