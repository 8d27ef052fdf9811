-- Changes of answers, where there is one.
use Rattle.std.specs.Prelude.{Option, Some, None}
use Rattle.lzk_field.specs.Ring.{Ops}
use Rattle.lzk_layout.specs.declared.params.Params.{Params}
use Rattle.lzk_ligero_proof.specs.Answered.{Answers}
use Rattle.lzk_ligero_proof.specs.Changed.{unchanged, with_added, IsSentPlace}
use Rattle.lzk_ligero.specs.declared.changing.Change.{Change}

-- what it does to answers
abbrev pub change_of : {A : Type 0} → Ops A → Option (Change A) → Answers A → Answers A
change_of o None = unchanged
change_of o (Some k) = with_added o k.answer k.place k.by

-- it is one of a value that is sent
abbrev pub IsChangeOf : {A : Type 0} → Params → Option (Change A) → Type 0
IsChangeOf p None = Unit {0}
IsChangeOf p (Some k) = IsSentPlace p k.answer k.place
