use Rattle.lzk_profile.specs.Profile.{opened_count}
use Rattle.std.proofs.Common.{◌≡◌, ◌+◌, ◌++◌, ℕ, length, sym, ap, ◌∙◌, arith}
use Rattle.std.proofs.lemmas.List.{length-append, get_or_append_left, get_or-append-add}
use Rattle.lzk_field.specs.Sums.{entry}
use Rattle.lzk_ligero_answers.proofs.linear.fill_row.Goals as goal

pub copy_from_slice-requires : goal.copy_from_slice-requires
copy_from_slice-requires g c = omega (arith, c.split_at_mut-head.ensures.back_len, c.requires)

pub returns-clause-length : goal.returns-clause-length
returns-clause-length g c =
    length-append c.clear.new.list c.copy_from_slice.new.self
    ∙ omega (arith, c.clear.ensures.length, c.split_at_mut-head.ensures.front_len, ap length c.copy_from_slice.ensures.after, c.requires)

pub returns-clause-front : goal.returns-clause-front
returns-clause-front g c = λ s h.
    let head = c.clear.new.list in
    get_or_append_left head c.copy_from_slice.new.self g.F.Field.ops.zero s (omega (arith, h, c.clear.ensures.length, c.split_at_mut-head.ensures.front_len))
    ∙ c.clear.ensures.entries s (omega (arith, h, c.split_at_mut-head.ensures.front_len))

pub returns-clause-back : goal.returns-clause-back
returns-clause-back g c = λ s h.
    let o = g.F.Field.ops in
    let head = c.clear.new.list in
    let tail = c.copy_from_slice.new.self in
    let size : length head ≡ opened_count = c.clear.ensures.length ∙ c.split_at_mut-head.ensures.front_len in
    ap (λ (n : ℕ). entry o (head ++ tail) (n + s)) (sym size) ∙ get_or-append-add head tail s o.zero ∙ ap (λ xs. entry o xs s) c.copy_from_slice.ensures.after
