use Rattle.std.proofs.Common.{◌≡◌, ◌+◌, ◌++◌, ◌∷◌, List, ℕ, map, drop, sym, ap, ◌∙◌}
use Rattle.lzk_expr.specs.SymbolForms.{symbol_names}
use Rattle.lzk_source.specs.Heads.{Heading, heads_of, input_heading}
use Rattle.lzk_expr.proofs.CodeTaken.{name_left, no_name_left}
use Rattle.lzk_source.proofs.HeadLaws.{fair_first, fair_rest, heads_pushed, heads_end}
use Rattle.lzk_source.proofs.heads.push_inputs.Goals as goal
use Rattle.lzk_source.proofs.heads.push_inputs.Goals.{in-Name+in-Ok, in_default}

pub input_head-requires : goal.input_head-requires
input_head-requires c =
    let f = fair_first c.args.symbols.now c.loop-symbol.symbol-index c.in-Name.name c.loop-symbol.invariant.fair c.loop-symbol-test.true c.in-Name.is in
    record { some = f.0; few = f.1 }

pub loop-symbol-preserved : goal.loop-symbol-preserved
loop-symbol-preserved c =
    let l = c.loop-symbol in
    let ss = c.args.symbols.now in
    let f = input_heading c.args.input in
    let all : List Heading = heads_of c.args.heads.now.items ++ map f (symbol_names ss) in
    let rest : List (List ℕ) = symbol_names (drop (l.symbol-index + 1) ss) in
    let fair = fair_rest ss l.symbol-index l.invariant.fair c.loop-symbol-test.true in
    elim c.match-symbol.branch [
      | in-Name+in-Ok w ↦ record {
        fair = fair;
        pushed =
            let named = name_left ss l.symbol-index w.in-Name.name c.loop-symbol-test.true w.in-Name.is in
            let before : heads_of l.heads.items ++ map f (w.in-Name.name.now ∷ rest) ≡ all = sym (ap (λ (ws : List (List ℕ)). heads_of l.heads.items ++ map f ws) named) ∙ l.invariant.pushed in
            heads_pushed f l.heads.items c.match-symbol.heads.items w.input_head.result w.in-Name.name.now rest all (ap (λ v. v.items) w.heads-is ∙ w.in-Ok.ensures) w.input_head.ensures before;
      }
      | in_default w ↦ record {
        fair = fair;
        pushed =
            let unnamed = no_name_left ss l.symbol-index c.loop-symbol-test.true w.in_default.not-Name in
            ap (λ v. heads_of v.items ++ map f rest) w.heads-is ∙ sym (ap (λ (ws : List (List ℕ)). heads_of l.heads.items ++ map f ws) unnamed) ∙ l.invariant.pushed;
      }
    ]

pub returns : goal.returns
returns c =
    let l = c.loop-symbol in
    heads_end (input_heading c.args.input) l.heads.items c.args.symbols.now l.symbol-index _ c.loop-symbol-test.false l.invariant.pushed
