use Rattle.std.proofs.Common.{◌≡◌, ◌*◌, length, ap, ◌∙◌, arith}
use Rattle.std.specs.List.{refill}
use Rattle.lzk_sumcheck.specs.Script.{drawn_beta, after_beta, after_rounds}
use Rattle.lzk_sumcheck.proofs.Filled.{refill_whole}
use Rattle.lzk_sumcheck.proofs.RoundLaws.{layer_whole}
use Rattle.lzk_sumcheck.proofs.LayerLaws.{layer_after}
use Rattle.lzk_sumcheck.specs.declared.script.LayerScript.{LayerScript}
use Rattle.lzk_sumcheck.proofs.replaying.replay_layer.Goals as goal

pub returns-clause-script : goal.returns-clause-script
returns-clause-script g c =
    let f = g.F.Field in
    let e = f.coding in
    let old = c.args.layer.now in
    let ra = c.replay_rounds.new.ra in
    let rb = c.replay_rounds.new.rb in
    let na : length ra ≡ length old.ra = omega (arith, c.replay_rounds.auto.ra, ap length c.as_mut_slice.ensures.value) in
    let nb : length rb ≡ length old.rb = omega (arith, c.replay_rounds.auto.rb, ap length c.as_mut_slice-2.ensures.value) in
    let make : LayerScript g.row.F.Denot = record { alpha = c.draw-layer.result; beta = c.draw_beta-layer.result; ra = ra; rb = rb } in
    ap (λ xs. record { alpha = c.draw-layer.result; beta = c.draw_beta-layer.result; ra = xs; rb = refill (length old.rb) old.rb rb }) (refill_whole (length old.ra) old.ra ra na)
    ∙ ap (λ xs. record { alpha = c.draw-layer.result; beta = c.draw_beta-layer.result; ra = ra; rb = xs }) (refill_whole (length old.rb) old.rb rb nb)
    ∙ layer_whole f.ops e c.args.messages.now c.args.first c.draw_beta-layer.new.tape c.args.version c.args.bits c.args.tape.now make (c.draw_beta-layer.ensures.after ∙ ap (after_beta c.args.version) c.draw-layer.ensures.after) c.draw-layer.ensures.value
    (c.draw_beta-layer.ensures.beta ∙ ap (drawn_beta f.ops e c.args.version) c.draw-layer.ensures.after)
    (omega (arith, na, c.requires.bits.ra)) (omega (arith, nb, c.requires.bits.rb))
    (λ k h. c.replay_rounds.ensures.ra k (omega (arith, h, c.requires.bits.ra, ap length c.as_mut_slice.ensures.value)))
    (λ k h. c.replay_rounds.ensures.rb k (omega (arith, h, c.requires.bits.ra, ap length c.as_mut_slice.ensures.value)))

pub returns-clause-after : goal.returns-clause-after
returns-clause-after g c =
    let f = g.F.Field in
    let e = f.coding in
    let ms = c.args.messages.now in
    let size : 2 * length c.as_mut_slice.result.now ≡ 2 * c.args.bits = omega (arith, c.requires.bits.ra, ap length c.as_mut_slice.ensures.value) in
    layer_after f.ops e ms c.args.version c.args.first c.args.bits c.args.tape.now c.replay_rounds.new.tape c.write_pair.new.tape
    (c.replay_rounds.ensures.after ∙ ap (λ n. after_rounds f.ops e ms c.args.first n c.draw_beta-layer.new.tape) size ∙ ap (after_rounds f.ops e ms c.args.first (2 * c.args.bits)) (c.draw_beta-layer.ensures.after ∙ ap (after_beta c.args.version) c.draw-layer.ensures.after))
    c.write_pair.ensures
