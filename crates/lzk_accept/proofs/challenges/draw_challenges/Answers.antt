use Rattle.std.proofs.Common.{◌≡◌, ◌+◌, ◌-◌, ◌*◌, List, length, ap, ◌∙◌, arith}
use Rattle.std.specs.List.{refill}
use Rattle.lzk_transcript.specs.Columns.{after_draws}
use Rattle.lzk_sumcheck.specs.Draws.{draws}
use Rattle.lzk_sumcheck.proofs.Filled.{refill_whole}
use Rattle.lzk_accept.specs.declared.challenges.Challenges.{Challenges}
use Rattle.lzk_accept.proofs.DrawLaws.{tape_whole, challenges_whole}
use Rattle.lzk_accept.proofs.challenges.draw_challenges.Goals as goal

pub returns-clause-challenges : goal.returns-clause-challenges
returns-clause-challenges g c =
    let f = g.F.Field in
    let e = f.coding in
    let p = c.args.params.now in
    let t = c.args.tape.now in
    let old = c.args.out.now in
    let A = g.row.F.Denot in
    let a = c.draw_all in
    let b = c.draw_all-2 in
    let d = c.draw_all-3 in
    let h = c.draw_all-4 in
    let na : length c.as_mut_slice.result.now ≡ p.nrow - 3 = ap length c.as_mut_slice.ensures.value ∙ c.requires.shape.u in
    let nb : length c.as_mut_slice-2.result.now ≡ p.layers + 1 = ap length c.as_mut_slice-2.ensures.value ∙ c.requires.shape.lambda in
    let nd : length c.as_mut_slice-3.result.now ≡ 3 * p.layers = ap length c.as_mut_slice-3.ensures.value ∙ c.requires.shape.mu in
    let nh : length c.as_mut_slice-4.result.now ≡ p.ntriple = ap length c.as_mut_slice-4.ensures.value ∙ c.requires.shape.v in
    let make : List A → List A → List A → List A → Challenges A = λ x y z u. record { u = x; lambda = y; mu = z; v = u } in
    ap (λ x. make x (refill (length old.lambda) old.lambda b.new.out) (refill (length old.mu) old.mu d.new.out) (refill (length old.v) old.v h.new.out))
    (refill_whole (length old.u) old.u a.new.out (omega (arith, ap length c.as_mut_slice.ensures.value, a.auto.out)))
    ∙ ap (λ x. make a.new.out x (refill (length old.mu) old.mu d.new.out) (refill (length old.v) old.v h.new.out))
    (refill_whole (length old.lambda) old.lambda b.new.out (omega (arith, ap length c.as_mut_slice-2.ensures.value, b.auto.out)))
    ∙ ap (λ x. make a.new.out b.new.out x (refill (length old.v) old.v h.new.out))
    (refill_whole (length old.mu) old.mu d.new.out (omega (arith, ap length c.as_mut_slice-3.ensures.value, d.auto.out)))
    ∙ ap (make a.new.out b.new.out d.new.out)
    (refill_whole (length old.v) old.v h.new.out (omega (arith, ap length c.as_mut_slice-4.ensures.value, h.auto.out)))
    ∙ challenges_whole e p t a.new.tape b.new.tape d.new.tape h.new.tape a.new.out b.new.out d.new.out h.new.out
    (a.ensures.after ∙ ap (λ n. after_draws n t) na) (b.ensures.after ∙ ap (λ n. after_draws n a.new.tape) nb)
    (d.ensures.after ∙ ap (λ n. after_draws n b.new.tape) nd) (h.ensures.after ∙ ap (λ n. after_draws n d.new.tape) nh)
    (a.ensures.drawn ∙ ap (λ n. draws e 0 n t) na) (b.ensures.drawn ∙ ap (λ n. draws e 0 n a.new.tape) nb)
    (d.ensures.drawn ∙ ap (λ n. draws e 0 n b.new.tape) nd) (h.ensures.drawn ∙ ap (λ n. draws e 0 n d.new.tape) nh)

pub returns-clause-shape : goal.returns-clause-shape
returns-clause-shape g c =
    let old = c.args.out.now in
    let a = c.draw_all in
    let b = c.draw_all-2 in
    let d = c.draw_all-3 in
    let h = c.draw_all-4 in
    let na : length a.new.out ≡ length old.u = a.auto.out ∙ ap length c.as_mut_slice.ensures.value in
    let nb : length b.new.out ≡ length old.lambda = b.auto.out ∙ ap length c.as_mut_slice-2.ensures.value in
    let nd : length d.new.out ≡ length old.mu = d.auto.out ∙ ap length c.as_mut_slice-3.ensures.value in
    let nh : length h.new.out ≡ length old.v = h.auto.out ∙ ap length c.as_mut_slice-4.ensures.value in
    record {
      u = ap length (refill_whole (length old.u) old.u a.new.out na) ∙ na ∙ c.requires.shape.u;
      lambda = ap length (refill_whole (length old.lambda) old.lambda b.new.out nb) ∙ nb ∙ c.requires.shape.lambda;
      mu = ap length (refill_whole (length old.mu) old.mu d.new.out nd) ∙ nd ∙ c.requires.shape.mu;
      v = ap length (refill_whole (length old.v) old.v h.new.out nh) ∙ nh ∙ c.requires.shape.v;
    }

pub returns-clause-tape : goal.returns-clause-tape
returns-clause-tape g c =
    let f = g.F.Field in
    let e = f.coding in
    let p = c.args.params.now in
    let t = c.args.tape.now in
    let a = c.draw_all in
    let b = c.draw_all-2 in
    let d = c.draw_all-3 in
    let h = c.draw_all-4 in
    let na : length c.as_mut_slice.result.now ≡ p.nrow - 3 = ap length c.as_mut_slice.ensures.value ∙ c.requires.shape.u in
    let nb : length c.as_mut_slice-2.result.now ≡ p.layers + 1 = ap length c.as_mut_slice-2.ensures.value ∙ c.requires.shape.lambda in
    let nd : length c.as_mut_slice-3.result.now ≡ 3 * p.layers = ap length c.as_mut_slice-3.ensures.value ∙ c.requires.shape.mu in
    let nh : length c.as_mut_slice-4.result.now ≡ p.ntriple = ap length c.as_mut_slice-4.ensures.value ∙ c.requires.shape.v in
    tape_whole e p t a.new.tape b.new.tape d.new.tape h.new.tape a.new.out b.new.out d.new.out h.new.out
    (a.ensures.after ∙ ap (λ n. after_draws n t) na) (b.ensures.after ∙ ap (λ n. after_draws n a.new.tape) nb)
    (d.ensures.after ∙ ap (λ n. after_draws n b.new.tape) nd) (h.ensures.after ∙ ap (λ n. after_draws n d.new.tape) nh)
