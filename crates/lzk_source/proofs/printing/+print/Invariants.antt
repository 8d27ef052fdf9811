use Rattle.std.proofs.Common.{◌==◌, drop}
use Rattle.lzk_source.specs.NameLists.{lists_of, sum_rest, product_rest, WritesUpTo}
use Rattle.lzk_expr.specs.Printing.{sum_text, product_text}
use Rattle.lzk_expr.specs.View.{part_list, expr_list}
use Rattle.lzk_source.proofs.printing.+print.Given as goal

abbrev pub invariant-print_sum-loop-i : goal.invariant-print_sum-loop-i
invariant-print_sum-loop-i l = WritesUpTo (sum_text (lists_of l.names) (part_list l.parts)) (sum_rest (lists_of l.names) (l.i == 0) (part_list (drop l.i l.parts))) l.fn.text l.text

abbrev pub invariant-print_product-loop-i : goal.invariant-print_product-loop-i
invariant-print_product-loop-i l = WritesUpTo (product_text (lists_of l.names) (expr_list l.factors)) (product_rest (lists_of l.names) (l.i == 0) (expr_list (drop l.i l.factors))) l.fn.text l.text
