-- A source is its code with the names that its text declares, line by line.
use Rattle.std.proofs.Common.{◌≡◌, ℕ, ◌+◌, ◌≤◌, Bool, true, false, cond, List, [], ◌∷◌, ◌++◌, length, Option, Some, None, Ok, Err, Result, MatchResult, refl, sym, ◌∙◌, ap, subst, Bor}
use Rattle.std.specs.Prelude.{count_by}
use Rattle.std.specs.List.{list_all, list_any}
use Rattle.std.proofs.lemmas.List.Sums.{sum_by-cons}
use Rattle.lzk_expr.specs.declared.ast.FieldId.{FieldId}
use Rattle.lzk_expr.specs.declared.code.Word.{Word}
use Rattle.lzk_expr.specs.declared.rules.Scan.{Scan}
use Rattle.lzk_expr.specs.declared.source_fault.SourceError.{SourceError}
use Rattle.lzk_expr.specs.declared.source_fault.SourceError.TheVariants as errors
use Rattle.lzk_expr.specs.declared.source_fault.SourceFault.{SourceFault}
use Rattle.lzk_expr.specs.declared.source_fault.SourceKind.{SourceKind}
use Rattle.lzk_expr.specs.declared.source_fault.SourceKind.TheVariants as kinds
use Rattle.lzk_expr.specs.declared.tokens.Symbol.{Symbol}
use Rattle.lzk_expr.specs.Texts.{lines, content, first_line, first_content}
use Rattle.lzk_expr.specs.Tokens.{is_empty_line}
use Rattle.lzk_expr.specs.SymbolForms.{IsScanOf}
use Rattle.lzk_expr.specs.Readers.{StepReads}
use Rattle.lzk_expr.specs.Trees.{Statement, SourceTree, is_public, is_private, is_assertion}
use Rattle.lzk_expr.specs.Sources.{Before, nothing_yet, LineReads, LineThen, LineAt, LinesRead, ended, ended_read, SourceText, IsFirstSourceFault, IsSource}
use Rattle.lzk_expr.specs.Codes.{Coded, AreCodeOf, code_words}
use Rattle.lzk_expr.specs.CodeTexts.{IsCodeOfText}
use Rattle.lzk_expr.specs.Printing.{source_text}
use Rattle.lzk_expr.specs.Built.{IsBuilt}
use Rattle.lzk_expr.specs.View.{Held, tree_of}
use Rattle.lzk_expr.proofs.Taking.{lines_left, IsNext}
use Rattle.lzk_expr.proofs.TextLaws.{one_text, ok_is, only_fault}
use Rattle.lzk_expr.proofs.Reread.{built_reads}
use Rattle.lzk_level.proofs.FormedLaws.{compilable}
use Rattle.lzk_source.specs.declared.heads.Head.{Head}
use Rattle.lzk_source.specs.Heads.{heads_of, headings, symbol_headings, is_fair}
use Rattle.lzk_source.proofs.HeadLaws.{after_test, clean_line, headed_at}

-- ---- the lines of a text that is a source

-- its end has the source's statements
end_has : (n : ℕ) (b : Before) (o : Option FieldId) (s : SourceTree) → ended n b o ≡ Ok s → b.statements ≡ s.statements
end_has n b None s e = absurd cc
end_has n b (Some f) s e =
    let whole : SourceTree = record { field_is = f; statements = b.statements } in
    let all : Result SourceTree SourceFault = Ok whole in
    let one = after_test (list_any is_assertion b.statements) all (record { line = n; kind = kinds.NoAssert }) s e in
    ap (λ (t : SourceTree). t.statements) (ok_is whole s one.1)

-- What is left to take of its lines, where the heads of those before are these.
pub record HeadsLeft (source : SourceTree) (heads : List Head) (left : Option (Bor (List ℕ))) : Type 0 where
  pub line : ℕ
  pub before : Before
  pub end : Before
  pub reads : LinesRead line before (lines_left left) (Ok end)
  pub end_is : end.statements ≡ source.statements
  pub heads_are : heads_of heads ≡ headings before.statements

first_at : (text : Bor (List ℕ)) (source : SourceTree) (heads : List Head) (n : ℕ) (all : Result Before SourceFault) → heads ≡ [] → LinesRead 1 nothing_yet (lines text.now) all → ended_read n all ≡ Ok source → HeadsLeft source heads (Some text)
first_at text source heads n (Err f) none r e = absurd cc
first_at text source heads n (Ok b) none r e = record { line = 1; before = nothing_yet; end = b; reads = r; end_is = end_has n b b.field_is source e; heads_are = ap heads_of none }

pub heads_first : (text : Bor (List ℕ)) (source : SourceTree) (heads : List Head) → heads ≡ [] → SourceText text.now source → HeadsLeft source heads (Some text)
heads_first text source heads none h = first_at text source heads (length (lines text.now)) h.all none h.lines_read h.read_is

line_then : (n : ℕ) (b end : Before) (bytes : List ℕ) (rest : Before → Type 0) (step : Result Before SourceKind) → LineReads b bytes step → LineThen n (Ok end) rest step → (next : Before) × LineReads b bytes (Ok next) × rest next
line_then n b end bytes rest (Err kind) r t = absurd cc
line_then n b end bytes rest (Ok c) r t = (c, r, t)

line_at : (n : ℕ) (b end : Before) (bytes : List ℕ) (rest : Before → Type 0) (empty : Bool) → LineAt n b bytes (Ok end) rest empty → (next : Before) × StepReads b bytes (Ok next) empty × rest next
line_at n b end bytes rest true h = (b, refl, h)
line_at n b end bytes rest false (step, r, t) = line_then n b end bytes rest step r t

line_first : (n : ℕ) (b end : Before) (line : List ℕ) (later : List (List ℕ)) → LinesRead n b (line ∷ later) (Ok end) → (next : Before) × StepReads b (content line) (Ok next) (is_empty_line (content line)) × LinesRead (n + 1) next later (Ok end)
unfolding LinesRead
line_first n b end line later h = line_at n b end (content line) (λ c. LinesRead (n + 1) c later (Ok end)) (is_empty_line (content line)) h

no_line : (n : ℕ) (b end : Before) → LinesRead n b [] (Ok end) → end ≡ b
unfolding LinesRead
no_line n b end h = ok_is {B = SourceFault} end b h

next_lines : (behind now : List ℕ) (after : Option (Bor (List ℕ))) → IsNext behind now after → lines behind ≡ now ∷ lines_left after
next_lines behind now None h = h
next_lines behind now (Some rest) h = h.lines_are

-- a line's symbols, and what is left when their heads are taken
pub record LineHeads (source : SourceTree) (heads : List Head) (symbols : List Symbol) (after : Option (Bor (List ℕ))) : Type 0 where
  pub fair : list_all is_fair symbols ≡ true
  pub left : (new : List Head) → heads_of new ≡ heads_of heads ++ symbol_headings symbols → HeadsLeft source new after

pub line_heads : (source : SourceTree) (heads : List Head) (behind : Bor (List ℕ)) (after : Option (Bor (List ℕ))) (scan : Scan) (symbols : List Symbol) → IsScanOf scan (first_content behind.now) symbols
    → IsNext behind.now (first_line behind.now) after → HeadsLeft source heads (Some behind) → LineHeads source heads symbols after
line_heads source heads behind after scan symbols s rest h =
    let now = first_line behind.now in
    let bytes = first_content behind.now in
    let t = line_first h.line h.before h.end now (lines_left after) (subst (λ ls. LinesRead h.line h.before ls (Ok h.end)) (next_lines behind.now now after rest) h.reads) in
    let told = s.told (s.clean_is ∙ clean_line h.before t.0 bytes (is_empty_line bytes) refl t.1) in
    let headed = headed_at h.before t.0 bytes symbols (is_empty_line bytes) refl t.1 told in
    record {
      fair = headed.fair;
      left = λ new e. record {
        line = h.line + 1;
        before = t.0;
        end = h.end;
        reads = t.2;
        end_is = h.end_is;
        heads_are = e ∙ ap (λ hs. hs ++ symbol_headings symbols) h.heads_are ∙ sym headed.headed;
      };
    }

pub heads_all : (source : SourceTree) (heads : List Head) → HeadsLeft source heads None → heads_of heads ≡ headings source.statements
heads_all source heads h = h.heads_are ∙ ap (λ (b : Before). headings b.statements) (sym (no_line h.line h.before h.end h.reads)) ∙ ap headings h.end_is

-- ---- the source of a text whose code is known

pub one_more : (p : Statement → Bool) (s : Statement) (ss : List Statement) → count_by p (s ∷ ss) ≡ cond (p s) 1 0 + count_by p ss
one_more p s ss = sum_by-cons (λ x. cond (p x) 1 0) s ss

module _ (text : List ℕ) (code : Coded) (h : IsCodeOfText text code) where
  pub code_given : (ws : List Word) (ns : List ℕ) → ws ≡ code.words → ns ≡ code.numbers → AreCodeOf h.source.statements (code_words ns ws)
  code_given ws ns e f = subst (λ (l : List Word). AreCodeOf h.source.statements (code_words ns l)) (sym e) (subst (λ (l : List ℕ). AreCodeOf h.source.statements (code_words l code.words)) (sym f) h.code.words_are)

  pub source_read : (f : FieldId) (ss : List Statement) → f ≡ code.field_is → ss ≡ h.source.statements → SourceText text (record { field_is = f; statements = ss })
  source_read f ss e k = subst (λ (l : List Statement). SourceText text (record { field_is = f; statements = l })) (sym k) (subst (λ (g : FieldId). SourceText text (record { field_is = g; statements = h.source.statements })) (sym (e ∙ h.code.field_is)) h.reads)

  module _ (short : length text ≤ 4194304) where
    pub few_asserts : (ss : List Statement) → ss ≡ h.source.statements → count_by is_assertion ss ≤ 131072
    few_asserts ss e = subst (λ (l : List Statement). count_by is_assertion l ≤ 131072) (sym e) (compilable h.source (record { text = text; short = short; reads = h.reads })).asserts

    pub is_source : (f : FieldId) (ss : List Statement) (p q a : ℕ) → f ≡ code.field_is → ss ≡ h.source.statements → p ≡ code.publics → q ≡ code.privates → a ≡ count_by is_assertion ss → IsSource (record { field_is = f; statements = ss }) p q a
    is_source f ss p q a e k u v w = record {
      formed = record { text = text; short = short; reads = source_read f ss e k };
      publics_are = u ∙ h.code.publics_are ∙ ap (count_by is_public) (sym k);
      privates_are = v ∙ h.code.privates_are ∙ ap (count_by is_private) (sym k);
      asserts_are = w;
    }

-- ---- one source only

pub only_source : (text : List ℕ) (r : Result Held SourceError) → MatchResult r (λ s. SourceText text (tree_of s)) (IsFirstSourceFault text) → (source : SourceTree) → SourceText text source → MatchResult r (λ s. tree_of s ≡ source) (λ e. e ≡ errors.OutOfMemory)
only_source text (Ok s) h source k = ok_is (tree_of s) source (one_text text (Ok (tree_of s)) (Ok source) h k)
only_source text (Err e) h source k = only_fault text source e k h

-- so a text that is a built source's is no other's
pub only_built : (text : List ℕ) (r : Result Held SourceError) → MatchResult r (λ s. SourceText text (tree_of s)) (IsFirstSourceFault text) → (s : SourceTree) → IsBuilt s → text ≡ source_text s → MatchResult r (λ t. tree_of t ≡ s) (λ e. e ≡ errors.OutOfMemory)
only_built text r h s b e = only_source text r h s (subst (λ (l : List ℕ). SourceText l s) (sym e) (built_reads s b))
