-- Where a source was compiled, its circuit is ready to be evaluated.
use Rattle.std.proofs.Common.{◌≡◌, ◌⊎◌, ℕ, Bool, inl, inr, List, Some, refl, sym, subst, ◌∙◌}
use Rattle.std.specs.Prelude.{IsTrue, count_by}
use Rattle.std.proofs.lemmas.Bool.{false≢true}
use Rattle.lzk_circbytes.specs.declared.any.AnyCircuit.{AnyCircuit}
use Rattle.lzk_circbytes.specs.declared.any.AnyCircuit.TheVariants.{Gold, Gf}
use Rattle.lzk_expr.proofs.Tables.{bytes_same}
use Rattle.lzk_expr.specs.Trees.{SourceTree, is_public, is_private}
use Rattle.lzk_level.specs.Compiled.{field_of, publics_of, privates_of}
use Rattle.lzk_outside.specs.Outside.{Files, with_file}
use Rattle.lzk_cmd.specs.Chains.{AreChained}
use Rattle.lzk_cmd_circuits.specs.Compiled.{CompiledAs, CompileRun, PutsCompiled}
use Rattle.lzk_cmd.specs.Complete.{HasNumbers, HasInputsOf, IsReady, Completed}
use Rattle.lzk_cmd_files.specs.Decoded.{source_files}
use Rattle.lzk_cmd_files.specs.Ends.{End, Nowhere, Leaves}
use Rattle.lzk_cmd_files.specs.Faults.{Faulted}
use Rattle.lzk_cmd.specs.Run.{RunOf}
use Rattle.lzk_cmd.specs.Sights.{Before, After}
use Rattle.lzk_cmd_words.specs.declared.words.Version.{Version}
use Rattle.lzk_cmd_words.specs.declared.words.Version.TheVariants.{One, Two}
use Rattle.lzk_cmd_words.specs.Words.{Eval, Compile}
use Rattle.lzk_cmd_files.proofs.Laws.{sources}
use Rattle.lzk_cmd.proofs.Ready.{run_command, ready}

-- what never fails has no fault
pub no_fault : (never : Bool) (before now : ℕ) → IsTrue never → Faulted never before now → ⊥
no_fault never before now quiet h = false≢true (sym h.may ∙ quiet)

-- a run that is done, or wants memory
pub done_or_memory : (before : Before) (after : After) (files : Files) (text : List ℕ) → Completed before after files text ⊎ (after.status ≡ 6) → (after.status ≡ 0) ⊎ ((after.status ≡ 1) ⊎ (after.status ≡ 6))
done_or_memory before after files text (inr want) = inr (inr want)
done_or_memory before after files text (inl h) = elim h.done [
  | inl is ↦ inl (h.answer ∙ is)
  | inr is ↦ inr (inl (h.answer ∙ is))
]

-- a circuit has the source's field and counts
abbrev HasItsCounts : SourceTree → AnyCircuit → Type 0
HasItsCounts source c = (field_of c ≡ source.field_is) × (publics_of c ≡ count_by is_public source.statements) × (privates_of c ≡ count_by is_private source.statements)

-- it does in either version
counts_as : (version : Version) (source : SourceTree) (c : AnyCircuit) → CompiledAs version source c → HasItsCounts source c
counts_as One source c is = (is.field_is, is.publics, is.privates)
counts_as Two source c is = (is.field_is, is.publics, is.privates)

module _ (first second : List (List ℕ)) (files : Files) (chain : AreChained first second files) where
  publics_left : (bytes : List ℕ) (size count : ℕ) → HasNumbers files chain.public size count → HasNumbers (with_file files chain.circuit bytes) chain.public size count
  publics_left bytes size count h = rw chain.other_publics h

  privates_left : (bytes : List ℕ) (size count : ℕ) → HasNumbers files chain.private size count → HasNumbers (with_file files chain.circuit bytes) chain.private size count
  privates_left bytes size count h = rw chain.other_privates h

  inputs_left : (c : AnyCircuit) (bytes : List ℕ) → HasItsCounts chain.tree c → HasInputsOf c (with_file files chain.circuit bytes) chain.public chain.private
  inputs_left (Gold c) bytes h =
      let publics = rw (sym h.0, sym h.1) at chain.has_publics in
      let privates = rw (sym h.0, sym h.2) at chain.has_privates in
      (publics_left bytes _ _ publics, privates_left bytes _ _ privates)
  inputs_left (Gf c) bytes h =
      let publics = rw (sym h.0, sym h.1) at chain.has_publics in
      let privates = rw (sym h.0, sym h.2) at chain.has_privates in
      (publics_left bytes _ _ publics, privates_left bytes _ _ privates)

  put_ready : (end : End) (after : Files) → PutsCompiled chain.version chain.tree chain.circuit Nowhere end → Leaves files Nowhere end.put (Some after) → IsReady after (Eval chain.circuit chain.public chain.private)
  put_ready end after (c, bytes, is, file, fits, e) left =
      let same : after ≡ with_file files chain.circuit bytes = some_is after _ (subst (λ (x : End). Leaves files Nowhere x.put (Some after)) e left) in
      subst (λ (f : Files). IsReady f (Eval chain.circuit chain.public chain.private)) (sym same) (c, record { bytes = bytes; file = record { there = here bytes; fits = fits }; means = file }, inputs_left c bytes (counts_as chain.version chain.tree c is))
    where
      some_is : (x y : Files) → Some x ≡ Some y → x ≡ y
      some_is x y e = cc

      here : (bytes : List ℕ) → with_file files chain.circuit bytes chain.circuit ≡ Some bytes
      here bytes = rw (bytes_same chain.circuit chain.circuit refl) refl

  pub chained : (before : Before) (after : After) (left : Files) (text : List ℕ) → before.words ≡ first → after.shelf.files ≡ Some left → Completed before after files text → IsReady left (Eval chain.circuit chain.public chain.private)
  unfolding CompileRun
  chained before after left text words told h =
      let run = subst (λ w. RunOf w files Nowhere h.end) words h.run in
      let source = chain.has_source in
      let made = rw source.1 at (ready source_files sources files chain.source 0 h.end chain.tree _ source.0 (run_command first files (Compile chain.source chain.circuit chain.version) h.end chain.compiles run)) in
      put_ready h.end left made (subst (λ held. Leaves files Nowhere h.end.put held) told h.left)
