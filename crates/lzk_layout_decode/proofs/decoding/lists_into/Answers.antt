use Rattle.std.proofs.Common.{map, replicate, length, refl}
use Rattle.std.proofs.lemmas.Result.{err_from_is_err_and}
use Rattle.lzk_layout.specs.Proofs.{element_field}
use Rattle.lzk_layout.specs.Fields.{shape, element}
use Rattle.lzk_layout.proofs.FieldLaws.{fields_stop, reads_on}
use Rattle.lzk_layout_decode.proofs.decoding.lists_into.Goals as goal

pub returns-in_err-rest-clause-read : goal.returns-in_err-rest-clause-read
returns-in_err-rest-clause-read g c =
    let s = shape g.F.Field.coding.bytes g.F.Field.coding.size in
    let p = err_from_is_err_and c.from_residual.result c.from_residual.ensures.1 in
    rw (p.1, p.2) (fields_stop s (replicate (length c.args.one.now) element) (replicate (length c.args.other.now) element) c.args.bytes.now c.in_err-rest.field-0.0 c.in_err-rest.ensures.read)

pub returns-in_err-rest-clause-one : goal.returns-in_err-rest-clause-one
returns-in_err-rest-clause-one g c = c.in_err-rest.ensures.length

pub returns-in_err-rest-clause-other : goal.returns-in_err-rest-clause-other
returns-in_err-rest-clause-other g c = refl

pub returns-clause-read : goal.returns-clause-read
returns-clause-read g c =
    let s = shape g.F.Field.coding.bytes g.F.Field.coding.size in
    let field = element_field g.F.Field.coding.bytes g.F.Field.coding.number in
    reads_on s (replicate (length c.args.one.now) element) (replicate (length c.args.other.now) element) c.args.bytes.now (map field c.list_into.new.list) (map field c.list_into-2.new.list) c.in_ok-rest.rest.now c.list_into-2.result c.in_ok-rest.ensures.read c.list_into-2.ensures.read

pub returns-clause-one : goal.returns-clause-one
returns-clause-one g c = c.in_ok-rest.ensures.length

pub returns-clause-other : goal.returns-clause-other
returns-clause-other g c = c.list_into-2.ensures.length
