use Rattle.std.proofs.Common.{◌≡◌, length, sym, ap, ◌∙◌, subst, arith}
use Rattle.std.specs.List.{refill}
use Rattle.lzk_transcript.specs.Columns.{after_draws}
use Rattle.lzk_layout.specs.Places.{output_bits}
use Rattle.lzk_sumcheck.specs.declared.script.Script.{Script}
use Rattle.lzk_sumcheck.specs.Draws.{draws}
use Rattle.lzk_sumcheck.specs.Script as spec
use Rattle.lzk_sumcheck.specs.Script.{HasShape}
use Rattle.lzk_sumcheck.proofs.Filled.{refill_whole}
use Rattle.lzk_sumcheck.proofs.ScriptLaws.{script_whole, tape_whole}
use Rattle.lzk_sumcheck.proofs.ShapeLaws.{script_shape}
use Rattle.lzk_sumcheck.proofs.replaying.replay.Goals as goal

pub returns : goal.returns
returns g c =
    let f = g.F.Field in
    let e = f.coding in
    let ms = c.args.messages.now in
    let w = c.args.circuit.now in
    let t = c.args.tape.now in
    let start = c.draw_all.new.tape in
    let last = c.replay_list.new.tape in
    let out = c.draw_all.new.out in
    let old = c.args.script.now.out_point in
    let size : length c.as_mut_slice.result.now ≡ output_bits w = ap length c.as_mut_slice.ensures.value ∙ c.requires.shape.out_point in
    let begins : start ≡ after_draws (output_bits w) t = c.draw_all.ensures.after ∙ ap (λ n. after_draws n t) size in
    let points : out ≡ draws e 0 (output_bits w) t = c.draw_all.ensures.drawn ∙ ap (λ n. draws e 0 n t) size in
    let same : length out ≡ length old = omega (arith, ap length c.as_mut_slice.ensures.value, c.draw_all.auto.out) in
    let filled : ◌≡◌ {A = Script g.row.F.Denot}
    (record { out_point = refill (length old) old out; layers = c.replay_list.new.layers; gamma = c.draw-script.result }) (spec.script f.ops e ms w t) =
    ap (λ xs. record { out_point = xs; layers = c.replay_list.new.layers; gamma = c.draw-script.result }) (refill_whole (length old) old out same)
    ∙ script_whole f.ops e ms w t out c.replay_list.new.layers c.draw-script.result start last begins c.replay_list.ensures.after points c.replay_list.ensures.scripts c.draw-script.ensures.value in
    record {
      script = filled;
      tape = tape_whole f.ops e ms w t start last c.draw-script.new.self begins c.replay_list.ensures.after c.draw-script.ensures.after;
      shape = subst (λ s. HasShape w s) (sym filled) (script_shape f.ops e ms w t);
    }
