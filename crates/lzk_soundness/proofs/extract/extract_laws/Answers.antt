use Rattle.lzk_soundness.proofs.ExtractLaws.Decoding.{decoding_unique, nothing_zeros, extracted_count, rows_extracted}
use Rattle.lzk_soundness.proofs.ExtractLaws.Honest.{honest_extracted}
use Rattle.lzk_soundness.proofs.extract.extract_laws.Goals as goal

pub returns-clause-unique : goal.returns-clause-unique
returns-clause-unique g c = let m = g.F.Field in decoding_unique m.ops m.coding m.laws

pub returns-clause-nothing : goal.returns-clause-nothing
returns-clause-nothing g c = let m = g.F.Field in nothing_zeros m.ops m.coding m.laws

pub returns-clause-count : goal.returns-clause-count
returns-clause-count g c = let m = g.F.Field in extracted_count m.ops m.coding m.laws

pub returns-clause-rows : goal.returns-clause-rows
returns-clause-rows g c = let m = g.F.Field in rows_extracted m.ops m.coding m.laws

pub returns-clause-honest : goal.returns-clause-honest
returns-clause-honest g c = let m = g.F.Field in honest_extracted m.ops m.coding m.laws
