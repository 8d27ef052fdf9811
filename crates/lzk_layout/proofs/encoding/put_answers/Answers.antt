use Rattle.std.proofs.Common.{List, ◌*◌, ◌∙◌, length, take, arith, ap}
use Rattle.lzk_layout.specs.Proofs.{element_field}
use Rattle.lzk_layout.proofs.FileLaws.{spread, answers_written}
use Rattle.lzk_layout.proofs.encoding.put_answers.Goals as goal

pub put_elements-end-requires-after_bounds : goal.put_elements-end-requires-after_bounds
put_elements-end-requires-after_bounds g c κs within =
    let w = g.F.Field.coding.bytes in
    let q = c.args.proof.now in
    let all = spread w (length q.messages) (length q.ldt) (length q.dot) (length q.quad_head) (length q.quad_tail) in
    omega (arith, all, c.requires, ap (λ (xs : List g.row.F.Denot). w * length xs) c.as_slice.ensures)

pub put_elements-end-requires-2-after_bounds : goal.put_elements-end-requires-2-after_bounds
put_elements-end-requires-2-after_bounds g c κs within =
    let w = g.F.Field.coding.bytes in
    let q = c.args.proof.now in
    let all = spread w (length q.messages) (length q.ldt) (length q.dot) (length q.quad_head) (length q.quad_tail) in
    omega (arith, all, c.requires, ap (λ (xs : List g.row.F.Denot). w * length xs) c.as_slice.ensures, ap (λ (xs : List g.row.F.Denot). w * length xs) c.as_slice-2.ensures, c.put_elements-end.ensures.end, c.put_elements-end.ensures.length)

pub put_elements-end-requires-3-after_bounds : goal.put_elements-end-requires-3-after_bounds
put_elements-end-requires-3-after_bounds g c κs within =
    let w = g.F.Field.coding.bytes in
    let q = c.args.proof.now in
    let all = spread w (length q.messages) (length q.ldt) (length q.dot) (length q.quad_head) (length q.quad_tail) in
    omega (arith, all, c.requires, ap (λ (xs : List g.row.F.Denot). w * length xs) c.as_slice.ensures, ap (λ (xs : List g.row.F.Denot). w * length xs) c.as_slice-2.ensures, ap (λ (xs : List g.row.F.Denot). w * length xs) c.as_slice-3.ensures, c.put_elements-end.ensures.end, c.put_elements-end.ensures.length, c.put_elements-end-2.ensures.end, c.put_elements-end-2.ensures.length)

pub put_elements-end-requires-4-after_bounds : goal.put_elements-end-requires-4-after_bounds
put_elements-end-requires-4-after_bounds g c κs within =
    let w = g.F.Field.coding.bytes in
    let q = c.args.proof.now in
    let all = spread w (length q.messages) (length q.ldt) (length q.dot) (length q.quad_head) (length q.quad_tail) in
    omega (arith, all, c.requires, ap (λ (xs : List g.row.F.Denot). w * length xs) c.as_slice.ensures, ap (λ (xs : List g.row.F.Denot). w * length xs) c.as_slice-2.ensures, ap (λ (xs : List g.row.F.Denot). w * length xs) c.as_slice-3.ensures, ap (λ (xs : List g.row.F.Denot). w * length xs) c.as_slice-4.ensures, c.put_elements-end.ensures.end, c.put_elements-end.ensures.length, c.put_elements-end-2.ensures.end, c.put_elements-end-2.ensures.length, c.put_elements-end-3.ensures.end, c.put_elements-end-3.ensures.length)

pub put_elements-requires-after_bounds : goal.put_elements-requires-after_bounds
put_elements-requires-after_bounds g c κs within =
    let w = g.F.Field.coding.bytes in
    let q = c.args.proof.now in
    let all = spread w (length q.messages) (length q.ldt) (length q.dot) (length q.quad_head) (length q.quad_tail) in
    omega (arith, all, c.requires, ap (λ (xs : List g.row.F.Denot). w * length xs) c.as_slice.ensures, ap (λ (xs : List g.row.F.Denot). w * length xs) c.as_slice-2.ensures, ap (λ (xs : List g.row.F.Denot). w * length xs) c.as_slice-3.ensures, ap (λ (xs : List g.row.F.Denot). w * length xs) c.as_slice-4.ensures, ap (λ (xs : List g.row.F.Denot). w * length xs) c.as_slice-5.ensures, c.put_elements-end.ensures.end, c.put_elements-end.ensures.length, c.put_elements-end-2.ensures.end, c.put_elements-end-2.ensures.length, c.put_elements-end-3.ensures.end, c.put_elements-end-3.ensures.length, c.put_elements-end-4.ensures.end, c.put_elements-end-4.ensures.length)

pub returns-clause-end : goal.returns-clause-end
returns-clause-end g c =
    let w = g.F.Field.coding.bytes in
    let q = c.args.proof.now in
    let all = spread w (length q.messages) (length q.ldt) (length q.dot) (length q.quad_head) (length q.quad_tail) in
    omega (arith, all, ap (λ (xs : List g.row.F.Denot). w * length xs) c.as_slice.ensures, ap (λ (xs : List g.row.F.Denot). w * length xs) c.as_slice-2.ensures, ap (λ (xs : List g.row.F.Denot). w * length xs) c.as_slice-3.ensures, ap (λ (xs : List g.row.F.Denot). w * length xs) c.as_slice-4.ensures, ap (λ (xs : List g.row.F.Denot). w * length xs) c.as_slice-5.ensures, c.put_elements-end.ensures.end, c.put_elements-end-2.ensures.end, c.put_elements-end-3.ensures.end, c.put_elements-end-4.ensures.end, c.put_elements.ensures.end)

pub returns-clause-length : goal.returns-clause-length
returns-clause-length g c = c.put_elements.ensures.length ∙ c.put_elements-end-4.ensures.length ∙ c.put_elements-end-3.ensures.length ∙ c.put_elements-end-2.ensures.length ∙ c.put_elements-end.ensures.length

pub returns-clause-front : goal.returns-clause-front
returns-clause-front g c =
    let field = element_field g.F.Field.coding.bytes g.F.Field.coding.number in
    answers_written field c.args.proof.now c.as_slice.result.now c.as_slice-2.result.now c.as_slice-3.result.now c.as_slice-4.result.now c.as_slice-5.result.now (take c.args.at c.args.out.now)
    (take c.put_elements-end.result c.put_elements-end.new.out) (take c.put_elements-end-2.result c.put_elements-end-2.new.out) (take c.put_elements-end-3.result c.put_elements-end-3.new.out) (take c.put_elements-end-4.result c.put_elements-end-4.new.out) (take c.put_elements.result c.put_elements.new.out)
    c.as_slice.ensures c.as_slice-2.ensures c.as_slice-3.ensures c.as_slice-4.ensures c.as_slice-5.ensures c.put_elements-end.ensures.front c.put_elements-end-2.ensures.front c.put_elements-end-3.ensures.front c.put_elements-end-4.ensures.front c.put_elements.ensures.front
