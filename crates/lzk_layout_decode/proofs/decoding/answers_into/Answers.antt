use Rattle.std.proofs.Common.{map, refl}
use Rattle.std.proofs.lemmas.Result.{err_from_is_err_and}
use Rattle.lzk_layout.specs.Proofs.{element_field}
use Rattle.lzk_layout.specs.Fields.{shape}
use Rattle.lzk_layout_decode.proofs.AnswerLaws.{first_two_stop, next_two_stop, answers_read, same_lengths}
use Rattle.lzk_layout_decode.proofs.decoding.answers_into.Goals as goal

pub returns-in_err-rest-clause-read : goal.returns-in_err-rest-clause-read
returns-in_err-rest-clause-read g c =
    let s = shape g.F.Field.coding.bytes g.F.Field.coding.size in
    let p = err_from_is_err_and c.from_residual.result c.from_residual.ensures.1 in
    rw (p.1, p.2) (first_two_stop s c.args.proof.now c.args.bytes.now c.in_err-rest.field-0.0 c.in_err-rest.ensures.read)

pub returns-in_err-rest-clause-lengths : goal.returns-in_err-rest-clause-lengths
returns-in_err-rest-clause-lengths g c = λ p h. same_lengths p c.args.proof.now _ h c.lists_into.ensures.one c.lists_into.ensures.other refl refl refl refl refl

pub returns-in_err-rest-clause-others : goal.returns-in_err-rest-clause-others
returns-in_err-rest-clause-others g c = refl

pub returns-in_err-rest-2-clause-read : goal.returns-in_err-rest-2-clause-read
returns-in_err-rest-2-clause-read g c =
    let s = shape g.F.Field.coding.bytes g.F.Field.coding.size in
    let field = element_field g.F.Field.coding.bytes g.F.Field.coding.number in
    let one = c.lists_into.new in
    let p = err_from_is_err_and c.from_residual-in_err-rest-2.result c.from_residual-in_err-rest-2.ensures.1 in
    rw (p.1, p.2) (next_two_stop s c.args.proof.now c.args.bytes.now (map field one.one) (map field one.other) c.in_ok-rest.rest.now c.in_ok-rest.ensures.read c.in_err-rest-2.field-0.0 c.in_err-rest-2.ensures.read)

pub returns-in_err-rest-2-clause-lengths : goal.returns-in_err-rest-2-clause-lengths
returns-in_err-rest-2-clause-lengths g c = λ p h. same_lengths p c.args.proof.now _ h c.lists_into.ensures.one c.lists_into.ensures.other c.lists_into-2.ensures.one c.lists_into-2.ensures.other refl refl refl

pub returns-in_err-rest-2-clause-others : goal.returns-in_err-rest-2-clause-others
returns-in_err-rest-2-clause-others g c = refl

pub returns-clause-read : goal.returns-clause-read
returns-clause-read g c =
    let s = shape g.F.Field.coding.bytes g.F.Field.coding.size in
    let field = element_field g.F.Field.coding.bytes g.F.Field.coding.number in
    let one = c.lists_into.new in
    let two = c.lists_into-2.new in
    answers_read s c.args.proof.now c.args.bytes.now (map field one.one) (map field one.other) c.in_ok-rest.rest.now c.in_ok-rest.ensures.read (map field two.one) (map field two.other) c.in_ok-rest-2.rest.now c.in_ok-rest-2.ensures.read
    (map field c.list_into.new.list) c.list_into.result c.list_into.ensures.read

pub returns-clause-lengths : goal.returns-clause-lengths
returns-clause-lengths g c = λ p h. same_lengths p c.args.proof.now _ h c.lists_into.ensures.one c.lists_into.ensures.other c.lists_into-2.ensures.one c.lists_into-2.ensures.other c.list_into.ensures.length refl refl

pub returns-clause-others : goal.returns-clause-others
returns-clause-others g c = refl
