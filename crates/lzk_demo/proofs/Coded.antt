-- The demo's code is that of its source.
use Rattle.std.proofs.Common.{◌≡◌, ℕ, ◌≤◌, List, [], ◌∷◌, ◌++◌, length, Option, Some, None, Result, Ok, Err, IfErr, refl, sym, subst, ◌∙◌, ap, arith}
use Rattle.lzk_circbytes.specs.declared.any.AnyCircuit.{AnyCircuit}
use Rattle.lzk_expr.specs.declared.ast.FieldId.TheVariants.{Goldilocks}
use Rattle.lzk_expr.specs.declared.code.Word.{Word}
use Rattle.lzk_expr.specs.Codes.{Coded, AreCodeOf, IsCodeOf, IsSomeCode, code_words}
use Rattle.lzk_expr.specs.Trees.{Statement}
use Rattle.lzk_level.specs.Bounds.{IsFaultOf}
use Rattle.lzk_level.specs.declared.fault.LevelError.{LevelError}
use Rattle.lzk_level.specs.declared.fault.LevelError.TheVariants.{Fault, OutOfMemory}
use Rattle.lzk_level.specs.declared.fault.LevelFault.{LevelFault}
use Rattle.lzk_demo.specs.declared.entry.Entry.{Entry}
use Rattle.lzk_demo.specs.Demo.{rounds, inputs_from, demo_statements, demo_tree}
use Rattle.lzk_demo.specs.Words.{AreWordsOf}
use Rattle.lzk_demo.proofs.Formed.{demo_built}
use Rattle.lzk_demo.proofs.Limits.{demo_publics, demo_privates}
use Rattle.lzk_demo.proofs.WordLaws.{declared, no_words}
use Rattle.lzk_demo.proofs.Written.{demo_formed, length-entries}

abbrev pub coded : ℕ → List Word → List ℕ → Coded
coded n ws numbers = record { field_is = Goldilocks; publics = 1; privates = n; words = ws; numbers = numbers }

-- words that lead behind no words from any statements to those with all rounds behind
pub demo_coded : (n : ℕ) (es : List Entry) (start ws : List Word) (numbers : List ℕ) → es ≡ inputs_from 0 n → start ≡ [] → numbers ≡ 2 ∷ []
    → ((ss : List Statement) → AreWordsOf ss start → AreWordsOf (ss ++ rounds (length es) 0 es) ws) → IsCodeOf (coded n ws numbers) (demo_tree n)
demo_coded n es start ws numbers list none two more =
    let long : length es ≡ n = ap length list ∙ length-entries 0 n in
    let whole : declared n ++ rounds (length es) 0 es ≡ demo_statements n =
    ap (λ m. declared n ++ rounds m 0 es) long ∙ ap (λ (l : List Entry). declared n ++ rounds n 0 l) list in
    let words : AreWordsOf (demo_statements n) ws =
    subst (λ (ss : List Statement). AreWordsOf ss ws) whole (more (declared n) (subst (AreWordsOf (declared n)) (sym none) (no_words n))) in
    record {
      field_is = refl;
      publics_are = sym (demo_publics n);
      privates_are = sym (demo_privates n);
      words_are = subst (λ (l : List ℕ). AreCodeOf (demo_statements n) (code_words l ws)) (sym two) words;
    }

pub some_code : (n : ℕ) (ws : List Word) (numbers : List ℕ) → 1 ≤ n → n ≤ 16384 → IsCodeOf (coded n ws numbers) (demo_tree n) → IsSomeCode (coded n ws numbers)
some_code n ws numbers some few is = record { source = demo_tree n; formed = demo_formed n some few (demo_built n some few); is = is }

-- where no limit is passed, memory ran out
pub memory_out : (r : Result AnyCircuit LevelError) (limit : Option LevelFault) → limit ≡ None → IfErr r (IsFaultOf limit) → IfErr r (λ e. e ≡ OutOfMemory)
memory_out (Ok circuit) limit none h = tt
memory_out (Err OutOfMemory) limit none h = refl
memory_out (Err (Fault fault)) limit none h = let no : None ≡ Some fault = sym none ∙ h in absurd cc
