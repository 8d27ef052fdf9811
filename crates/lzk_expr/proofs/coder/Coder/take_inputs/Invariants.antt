use Rattle.std.proofs.Common.{◌≡◌, ◌≤◌, ◌+◌, length, drop}
use Rattle.std.specs.List.{list_all}
use Rattle.lzk_profile.specs.Profile.{most_privates}
use Rattle.lzk_expr.specs.Sources.{Before}
use Rattle.lzk_expr.specs.SymbolForms.{is_name_symbol, symbol_names}
use Rattle.lzk_expr.specs.Coders.{IsCoder, input_count, used}
use Rattle.lzk_expr.proofs.CodeTaken.{InputsTaken}
use Rattle.lzk_expr.proofs.coder.Coder.take_inputs.Given as goal

abbrev pub invariant-loop-symbol : goal.invariant-loop-symbol
invariant-loop-symbol l = record {
  room : input_count l.input l.self + length l.symbols ≤ most_privates + l.symbol-index;
  used : used l.self ≡ used l.fn.self;
  names : list_all is_name_symbol l.symbols ≡ list_all is_name_symbol (drop l.symbol-index l.symbols);
  left : (b : Before) → IsCoder l.fn.self b → InputsTaken b l.self l.input (symbol_names l.symbols) (symbol_names (drop l.symbol-index l.symbols)) l.twice;
}
