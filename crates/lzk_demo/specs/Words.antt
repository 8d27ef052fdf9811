-- The words of the demo's code.
use Rattle.std.specs.Prelude.{ℕ, List, [], ◌∷◌}
use Rattle.lzk_expr.specs.declared.code.Word.{Word}
use Rattle.lzk_expr.specs.declared.code.Word.TheVariants.{Private, Named}
use Rattle.lzk_expr.specs.Codes.{AreCodeOf, code_words}
use Rattle.lzk_expr.specs.Trees.{Statement}
use Rattle.lzk_demo.specs.declared.entry.Entry.{Entry}
use Rattle.lzk_demo.specs.declared.entry.Entry.TheVariants.{Input, Made}

-- the word that an entry is
abbrev pub entry_word : Entry → Word
entry_word (Input i) = Private i
entry_word (Made k) = Named k

-- the numbers of the demo's code: the 2 of its let lines
abbrev pub demo_numbers : List ℕ
demo_numbers = 2 ∷ []

-- the words are the code of these statements
abbrev pub AreWordsOf : List Statement → List Word → Type 0
AreWordsOf statements words = AreCodeOf statements (code_words demo_numbers words)
