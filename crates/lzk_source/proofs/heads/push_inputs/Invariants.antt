use Rattle.std.proofs.Common.{◌≡◌, ◌++◌, map, drop, true}
use Rattle.std.specs.List.{list_all}
use Rattle.lzk_expr.specs.SymbolForms.{symbol_names}
use Rattle.lzk_source.specs.Heads.{heads_of, input_heading, is_fair}
use Rattle.lzk_source.proofs.heads.push_inputs.Given as goal

abbrev pub invariant-loop-symbol : goal.invariant-loop-symbol
invariant-loop-symbol l = record {
  fair : list_all is_fair (drop l.symbol-index l.symbols) ≡ true;
  pushed : heads_of l.heads.items ++ map (input_heading l.input) (symbol_names (drop l.symbol-index l.symbols))
      ≡ heads_of l.fn.heads.items ++ map (input_heading l.input) (symbol_names l.symbols);
}
