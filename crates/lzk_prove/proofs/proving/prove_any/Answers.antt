use Rattle.std.proofs.Common.{ℕ, List, sym, subst}
use Rattle.lzk_circbytes.specs.declared.any.AnyCircuit.{AnyCircuit}
use Rattle.lzk_field.specs.Words.{seeded_word}
use Rattle.lzk_gf128.specs.Elements as gf
use Rattle.lzk_calls.specs.Inputs.{gf_coding}
use Rattle.lzk_prove.specs.Proved.{ProvesOf, ProvesOver}
use Rattle.lzk_prove.proofs.proving.prove_any.Goals as goal

pub returns-in-Gf : goal.returns-in-Gf
returns-in-Gf g c =
    let task = c.args.with.now in
    let old = c.args.room.now in
    let new = c.prove_over-in-Gf.new.room in
    let told = c.prove_over-in-Gf.result in
    let proved = subst (λ (seed : List ℕ). ProvesOver gf.ops gf_coding c.in-Gf.c task.session.now (seeded_word seed) old new told c.args.texts.now.public.now c.args.texts.now.private.now) c.new.ensures c.prove_over-in-Gf.ensures in
    subst (λ (any : AnyCircuit). ProvesOf any task.session.now task.seed old new told c.args.texts.now.public.now c.args.texts.now.private.now) (sym c.in-Gf.is) proved
