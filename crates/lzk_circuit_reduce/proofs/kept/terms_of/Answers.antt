use Rattle.std.proofs.Common.{rules, arith, ◌≡◌, ◌≤◌, ◌+◌, ap, length}
use Rattle.lzk_circuit_reduce.specs.Renumbering.{at}
use Rattle.lzk_circuit_reduce.proofs.AddLaws.{any-default}
use Rattle.lzk_circuit_reduce.proofs.KeptLaws.{start-before, end-within}
use Rattle.lzk_circuit_reduce.proofs.kept.terms_of.Goals as goal

pub offset_bounds-deref-start : goal.offset_bounds-deref-start
offset_bounds-deref-start g c =
    let kept = c.args.kept.now in
    let w = c.args.wire in
    let table = c.requires.table in
    let first : c.index-start.result.now ≡ at kept.starts.items w = any-default kept.starts.items w c.index-start.result.now 0 (omega (arith, c.requires.wire, table.starts_count)) c.index-start.ensures in
    let last : c.index-end.result.now ≡ at kept.starts.items (w + 1) = any-default kept.starts.items (w + 1) c.index-end.result.now 0 (omega (arith, c.requires.wire, table.starts_count)) c.index-end.ensures in
    let order : c.index-start.result.now ≤ c.index-end.result.now = omega (arith, first, last, start-before kept table w c.requires.wire) in
    let inside : c.index-end.result.now ≤ length c.deref.result.now = omega (arith, last, ap length c.deref.ensures.value, end-within kept table w c.requires.wire) in
    omega (arith, order, inside)

pub slice_bounds-result-count : goal.slice_bounds-result-count
slice_bounds-result-count g c =
    let kept = c.args.kept.now in
    let w = c.args.wire in
    let table = c.requires.table in
    let first : c.index-start.result.now ≡ at kept.starts.items w = any-default kept.starts.items w c.index-start.result.now 0 (omega (arith, c.requires.wire, table.starts_count)) c.index-start.ensures in
    let last : c.index-end.result.now ≡ at kept.starts.items (w + 1) = any-default kept.starts.items (w + 1) c.index-end.result.now 0 (omega (arith, c.requires.wire, table.starts_count)) c.index-end.ensures in
    omega (arith, first, last, start-before kept table w c.requires.wire)

pub slice_bounds-result-start : goal.slice_bounds-result-start
slice_bounds-result-start g c =
    let kept = c.args.kept.now in
    let w = c.args.wire in
    let table = c.requires.table in
    let first : c.index-start.result.now ≡ at kept.starts.items w = any-default kept.starts.items w c.index-start.result.now 0 (omega (arith, c.requires.wire, table.starts_count)) c.index-start.ensures in
    let last : c.index-end.result.now ≡ at kept.starts.items (w + 1) = any-default kept.starts.items (w + 1) c.index-end.result.now 0 (omega (arith, c.requires.wire, table.starts_count)) c.index-end.ensures in
    let order : c.index-start.result.now ≤ c.index-end.result.now = omega (arith, first, last, start-before kept table w c.requires.wire) in
    search (rules, order)

pub slice_bounds-result-end : goal.slice_bounds-result-end
slice_bounds-result-end g c =
    let kept = c.args.kept.now in
    let w = c.args.wire in
    let table = c.requires.table in
    let first : c.index-start.result.now ≡ at kept.starts.items w = any-default kept.starts.items w c.index-start.result.now 0 (omega (arith, c.requires.wire, table.starts_count)) c.index-start.ensures in
    let last : c.index-end.result.now ≡ at kept.starts.items (w + 1) = any-default kept.starts.items (w + 1) c.index-end.result.now 0 (omega (arith, c.requires.wire, table.starts_count)) c.index-end.ensures in
    let inside : c.index-end.result.now ≤ length c.deref.result.now = omega (arith, last, ap length c.deref.ensures.value, end-within kept table w c.requires.wire) in
    search (rules, inside)
