-- Answers that are written over what was there.
use Rattle.std.specs.Prelude.{List, length}
use Rattle.std.specs.List.{refill}
use Rattle.std.proofs.Common.{◌≡◌, ap, ◌∙◌}
use Rattle.lzk_sumcheck.proofs.Filled.{refill_whole}

-- the answer to what was drawn, where it was written for what was lent of that
pub written : {A : Type 0} (answer : List A → List A) (old new lent drawn : List A) → length new ≡ length old → new ≡ answer lent → lent ≡ drawn → refill (length old) old new ≡ answer drawn
written answer old new lent drawn size is same = refill_whole (length old) old new size ∙ is ∙ ap answer same
