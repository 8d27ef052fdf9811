-- What is being read in memory, as meanings.
use Rattle.std.specs.Prelude.{List, map, reverse}
use Rattle.lzk_source.specs.declared.half.Half as memory
use Rattle.lzk_source.specs.declared.reads.Reads as reads
use Rattle.lzk_expr.specs.Meanings.{Half, Reads}
use Rattle.lzk_expr.specs.View.{part_list, expr_list}

abbrev pub half_of : memory.Half → Half
half_of r = record {
  parts = part_list r.parts.items;
  minus = r.minus;
  factors = expr_list r.factors.items;
  negated = r.negated;
}

-- the innermost stands last in memory, and first here
abbrev pub outer_of : List memory.Half → List Half
outer_of hs = reverse (map half_of hs)

abbrev pub reads_of : reads.Reads → Reads
reads_of r = record { outer = outer_of r.outer.items; now = half_of r.now; ready = r.ready }
