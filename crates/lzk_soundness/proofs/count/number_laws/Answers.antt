use Rattle.lzk_shares.specs.Shares.{prime_size, most_bad, prime_share, few_share, binary_share}
use Rattle.std.specs.Prelude.{◌^◌}
use Rattle.lzk_soundness.proofs.CountLaws.Numbers.{bad_any, rows_bounded, columns_miss, prime_passes, few_passes, binary_passes, false_share}
use Rattle.lzk_soundness.proofs.count.number_laws.Goals as goal

pub returns-clause-bad : goal.returns-clause-bad
returns-clause-bad g c = λ c valid fits. bad_any g.F.Field.ops c valid fits

pub returns-clause-rows : goal.returns-clause-rows
returns-clause-rows g c = λ c valid. rows_bounded g.F.Field.ops c valid

pub returns-clause-columns : goal.returns-clause-columns
returns-clause-columns g c = λ c valid. columns_miss g.F.Field.ops c valid

pub returns-clause-prime : goal.returns-clause-prime
returns-clause-prime g c = let m = g.F.Field in prime_passes m.ops m.coding m.laws

pub returns-clause-prime_few : goal.returns-clause-prime_few
returns-clause-prime_few g c = let m = g.F.Field in few_passes m.ops m.coding m.laws

pub returns-clause-gf128 : goal.returns-clause-gf128
returns-clause-gf128 g c = let m = g.F.Field in binary_passes m.ops m.coding m.laws

pub returns-clause-false_prime : goal.returns-clause-false_prime
returns-clause-false_prime g c = let m = g.F.Field in false_share m.ops m.coding m.laws most_bad prime_share prime_size (prime_passes m.ops m.coding m.laws)

pub returns-clause-false_prime_few : goal.returns-clause-false_prime_few
returns-clause-false_prime_few g c = let m = g.F.Field in false_share m.ops m.coding m.laws 1024 few_share prime_size (few_passes m.ops m.coding m.laws)

pub returns-clause-false_gf128 : goal.returns-clause-false_gf128
returns-clause-false_gf128 g c = let m = g.F.Field in false_share m.ops m.coding m.laws most_bad binary_share (2 ^ 128) (binary_passes m.ops m.coding m.laws)
