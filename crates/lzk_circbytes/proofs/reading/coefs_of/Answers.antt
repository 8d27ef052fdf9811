use Rattle.std.proofs.Common.{◌≡◌, ◌++◌, ◌∷◌, [], map, drop, refl, arith}
use Rattle.std.proofs.lemmas.Result.{err_from_is_err_and}
use Rattle.std.proofs.lemmas.List.{map_push}
use Rattle.lzk_circbytes.specs.Numbered.{Shape, shape, zeros_of}
use Rattle.lzk_circbytes.specs.Reading.{constant_at, as_last, constants_at}
use Rattle.lzk_circbytes.proofs.Bodies.{coefs_push, coefs_behind}
use Rattle.lzk_circbytes.proofs.Loop.{goes_on, ends, is_done, begins}
use Rattle.lzk_circbytes.proofs.reading.coefs_of.Goals as goal

pub zeros_before-requires-after_bounds : goal.zeros_before-requires-after_bounds
zeros_before-requires-after_bounds g c = λ κs outlives. omega (arith, c.min-room.ensures)

pub loop-init : goal.loop-init
loop-init g c =
    let s : Shape = shape g.F.Field.coding.id g.F.Field.coding.bytes g.F.Field.coding.size in
    record {
      read = rw (c.in_ok-coefs.ensures, coefs_behind c.args.version []) (begins as_last (constant_at s) c.args.count 0 c.args.bytes.now);
      zero = rw (c.in_ok-coefs.ensures, coefs_behind c.args.version []) refl;
    }

pub returns-in_err-c-clause-value : goal.returns-in_err-c-clause-value
returns-in_err-c-clause-value g c =
    let p = err_from_is_err_and c.from_residual-in_err-c.result c.from_residual-in_err-c.ensures.1 in
    let s : Shape = shape g.F.Field.coding.id g.F.Field.coding.bytes g.F.Field.coding.size in
    rw (p.1, p.2) (ends as_last (constant_at s) c.in_err-c.field-0.0 (drop (zeros_of c.args.version) (map g.F.Field.coding.number c.loop.coefs.items)) c.args.count c.loop.counter c.loop.before c.loop.rest.now (constants_at s c.args.count c.args.bytes.now) c.loop-test.true c.in_err-c.ensures c.loop.invariant.read)

pub loop-preserved : goal.loop-preserved
loop-preserved g c =
    let s : Shape = shape g.F.Field.coding.id g.F.Field.coding.bytes g.F.Field.coding.size in
    let number = g.F.Field.coding.number in
    let e : map number c.push.new.self.items ≡ map number c.loop.coefs.items ++ number c.in_ok-c.c ∷ [] = rw c.in_ok-push.ensures.items (map_push _ c.loop.coefs.items c.in_ok-c.c) in
    let pushed = coefs_push c.args.version (map number c.loop.coefs.items) (number c.in_ok-c.c) c.loop.invariant.zero in
    record {
      read = rw (e, pushed.0, c.number-before.ensures) (goes_on as_last (constant_at s) (drop (zeros_of c.args.version) (map number c.loop.coefs.items)) c.args.count c.loop.counter c.loop.before c.loop.rest.now (number c.in_ok-c.c) c.in_ok-c.after.now (constants_at s c.args.count c.args.bytes.now) c.loop-test.true c.in_ok-c.ensures c.loop.invariant.read);
      zero = rw e pushed.1;
    }

pub returns-clause-value : goal.returns-clause-value
returns-clause-value g c =
    let s : Shape = shape g.F.Field.coding.id g.F.Field.coding.bytes g.F.Field.coding.size in
    is_done as_last (constant_at s) (drop (zeros_of c.args.version) (map g.F.Field.coding.number c.loop.coefs.items)) c.args.count c.loop.counter c.loop.before c.loop.rest.now (constants_at s c.args.count c.args.bytes.now) c.loop-test.false c.loop.invariant.read

pub returns-clause-zero : goal.returns-clause-zero
returns-clause-zero g c = c.loop.invariant.zero
