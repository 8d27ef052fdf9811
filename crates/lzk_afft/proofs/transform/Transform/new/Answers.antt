use Rattle.std.proofs.Common.{arith}
use Rattle.lzk_gf128.specs.Elements.{laws}
use Rattle.lzk_poly.proofs.Interpolate.{points_interpolated}
use Rattle.lzk_afft.proofs.Binary.{binary}
use Rattle.lzk_afft.proofs.Rooms.{least_power, whole_block}
use Rattle.lzk_afft.proofs.transform.Transform.new.Goals as goal

pub twiddle_factors-requires-clause-subspace : goal.twiddle_factors-requires-clause-subspace
twiddle_factors-requires-clause-subspace c κs = (c.bits_below-depth.ensures.few, binary c.bits_below-depth.result c.bits_below-depth.ensures.few)

pub returns-in_err-twiddles-clause-one : goal.returns-in_err-twiddles-clause-one
returns-in_err-twiddles-clause-one c = points_interpolated laws

pub invariant_of-result : goal.invariant_of-result
invariant_of-result c = record {
  some = c.requires.some;
  order = c.requires.order;
  limit = c.requires.limit;
  enough = c.bits_below-bits.ensures.enough;
  least = c.bits_below-bits.ensures.least;
  smaller = c.bits_below-bits.ensures.least c.bits_below-depth.result (omega (arith, c.requires.order, c.bits_below-depth.ensures.enough));
  few = c.bits_below-depth.ensures.few;
  reached = c.bits_below-depth.ensures.enough;
  full = c.in_ok-twiddles.ensures.0;
  whole = whole_block laws c.bits_below-depth.result c.in_ok-twiddles.twiddles.items c.bits_below-depth.ensures.few (binary c.bits_below-depth.result c.bits_below-depth.ensures.few) c.in_ok-twiddles.ensures.1;
}

pub returns-clause-room : goal.returns-clause-room
returns-clause-room c = least_power c.args.n c.bits_below-bits.result c.bits_below-bits.ensures.enough c.bits_below-bits.ensures.least

pub returns-clause-one : goal.returns-clause-one
returns-clause-one c = points_interpolated laws
