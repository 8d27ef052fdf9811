use Rattle.std.proofs.Common.{ℕ, ◌∙◌, ◌*◌, ap, sym, length}
use Rattle.lzk_layout.proofs.FieldLaws.{refill_whole}
use Rattle.lzk_layout_decode.proofs.decoding.columns_into.Goals as goal

pub opened_into-requires-after_bounds : goal.opened_into-requires-after_bounds
opened_into-requires-after_bounds g c κs within = ap length c.as_mut_slice-2.ensures.value ∙ c.requires ∙ ap (λ (n : ℕ). n * c.args.rows) (sym (ap length c.as_mut_slice.ensures.value))

pub returns-clause-read : goal.returns-clause-read
returns-clause-read g c =
    let nonces = refill_whole (length c.args.nonces.now) c.args.nonces.now c.opened_into.new.nonces (c.opened_into.auto.nonces ∙ ap length c.as_mut_slice.ensures.value) in
    let columns = refill_whole (length c.args.columns.now) c.args.columns.now c.opened_into.new.columns (c.opened_into.auto.columns ∙ ap length c.as_mut_slice-2.ensures.value) in
    rw (nonces, columns, ← c.as_mut_slice.ensures.value) c.opened_into.ensures.read

pub returns-clause-nonces : goal.returns-clause-nonces
returns-clause-nonces g c =
    let long = c.opened_into.auto.nonces ∙ ap length c.as_mut_slice.ensures.value in
    ap length (refill_whole (length c.args.nonces.now) c.args.nonces.now c.opened_into.new.nonces long) ∙ long

pub returns-clause-digests : goal.returns-clause-digests
returns-clause-digests g c =
    let nonces = refill_whole (length c.args.nonces.now) c.args.nonces.now c.opened_into.new.nonces (c.opened_into.auto.nonces ∙ ap length c.as_mut_slice.ensures.value) in
    rw nonces c.opened_into.ensures.digests

pub returns-clause-columns : goal.returns-clause-columns
returns-clause-columns g c =
    let long = c.opened_into.auto.columns ∙ ap length c.as_mut_slice-2.ensures.value in
    ap length (refill_whole (length c.args.columns.now) c.args.columns.now c.opened_into.new.columns long) ∙ long
