use Rattle.std.proofs.Common.{◌≡◌, ◌+◌, ◌||◌, sym, refl, ◌∙◌, true, List, ℕ, arith, drop, subst}
use Rattle.std.specs.List.{list_all}
use Rattle.std.proofs.lemmas.List.{at_drop_all}
use Rattle.lzk_expr.specs.SymbolForms.{is_name_symbol, symbol_names}
use Rattle.lzk_expr.proofs.Told.{names_as}
use Rattle.lzk_expr.proofs.CodeTaken.{coded_other, names_left, other_left, name_left, InputsTaken, inputs_more, inputs_end}
use Rattle.lzk_expr.proofs.coder.Coder.take_inputs.Goals as goal

pub loop-symbol-init : goal.loop-symbol-init
loop-symbol-init c = record {
  room = c.requires.room;
  used = refl;
  names = refl;
  left = λ b h. record { now = b; holds = h; reads = refl };
}

pub returns-in_default-clause-takes : goal.returns-in_default-clause-takes
returns-in_default-clause-takes c = λ b ts h told.
    let l = c.loop-symbol in
    let ss = c.args.symbols.now in
    coded_other b _ c.args.input ts (sym (names_as ss ts told) ∙ l.invariant.names ∙ other_left ss l.symbol-index c.loop-symbol-test.true c.in_default.not-Name)

pub loop-symbol-preserved : goal.loop-symbol-preserved
loop-symbol-preserved c =
    let l = c.loop-symbol in
    let ss = c.args.symbols.now in
    let input = c.args.input in
    let name = c.in-Name.name in
    let rest : List (List ℕ) = symbol_names (drop (l.symbol-index + 1) ss) in
    record {
      room = omega (arith, c.in-Ok.ensures.count, l.invariant.room);
      used = c.in-Ok.ensures.used ∙ l.invariant.used;
      names = l.invariant.names ∙ names_left ss l.symbol-index name c.loop-symbol-test.true c.in-Name.is;
      left = λ b h.
          let left = subst (λ (ws : List (List ℕ)). InputsTaken b l.self input (symbol_names ss) ws l.twice) (name_left ss l.symbol-index name c.loop-symbol-test.true c.in-Name.is) (l.invariant.left b h) in
          inputs_more b l.self c.declare_input.new.self input (symbol_names ss) rest name.now l.twice c.in-Ok.known (l.twice || c.in-Ok.known) refl c.in-Ok.ensures.known left c.in-Ok.ensures.declares;
    }

pub returns-clause-takes : goal.returns-clause-takes
returns-clause-takes c = λ b ts h told.
    let l = c.loop-symbol in
    let ss = c.args.symbols.now in
    let input = c.args.input in
    let names : list_all is_name_symbol ss ≡ true = l.invariant.names ∙ at_drop_all (list_all is_name_symbol) ss l.symbol-index c.loop-symbol-test.false in
    let left = subst (λ (ws : List (List ℕ)). InputsTaken b l.self input (symbol_names ss) ws l.twice) (at_drop_all symbol_names ss l.symbol-index c.loop-symbol-test.false) (l.invariant.left b h) in
    rw c.names_broken.ensures (inputs_end b l.self input ss ts c.is_empty.result l.twice c.is_empty.ensures told (sym (names_as ss ts told) ∙ names) left)
