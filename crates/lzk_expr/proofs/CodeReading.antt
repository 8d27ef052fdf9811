-- A text is read to code line by line, and to one code only.
use Rattle.std.proofs.Common.{◌≡◌, ℕ, ◌+◌, ◌-◌, ◌≤◌, ◌<◌, ◌^◌, List, [], length, length-take, Option, Some, None, Ok, Err, Result, refl, sym, ◌∙◌, ap, arith, subst, Bor, MatchResult}
use Rattle.std.specs.List.{position_or_len}
use Rattle.std.proofs.lemmas.List.{append-nil}
use Rattle.lzk_expr.specs.declared.coder.Coder.{Coder}
use Rattle.lzk_expr.specs.declared.ast.FieldId.{FieldId}
use Rattle.lzk_expr.specs.declared.source_fault.SourceKind.{SourceKind}
use Rattle.lzk_expr.specs.declared.source_fault.SourceKind.TheVariants as kinds
use Rattle.lzk_expr.specs.declared.source_fault.SourceFault.{SourceFault}
use Rattle.lzk_expr.specs.declared.source_fault.SourceError.{SourceError}
use Rattle.lzk_expr.specs.declared.source_fault.SourceError.TheVariants as errors
use Rattle.lzk_expr.specs.Texts.{lines, first_line, is_feed}
use Rattle.lzk_expr.specs.Trees.{SourceTree, is_assertion}
use Rattle.lzk_expr.specs.Sources.{Before, nothing_yet, LinesRead, ended, TextReads, SourceText, IsSourceFault, IsFirstSourceFault}
use Rattle.lzk_expr.specs.Codes.{Coded, IsCodeOf, IsSomeCode, AreCodeOf, code_words}
use Rattle.lzk_expr.specs.CodeTexts.{IsCodeOfText}
use Rattle.lzk_expr.specs.Coders.{IsCoder, TakesTextLine, TakesText, coded, used}
use Rattle.lzk_expr.proofs.Taking.{lines_left, left_size, IsNext}
use Rattle.lzk_expr.proofs.TextLaws.{one_text, ok_is, only_fault, lines_step, lines_stop, lines_end, ended_none, ended_some, ended_no_assert, no_count, some_count}
use Rattle.lzk_expr.proofs.CodeLengths.{line_length, last_length}

-- what is left of the text at a line, where this was read before
pub record CodeLeft (text : List ℕ) (line : ℕ) (c : Coder) (before : Before) (left : Option (Bor (List ℕ))) : Type 0 where
  pub at : line + length (lines_left left) ≡ 1 + length (lines text)
  pub room : line + left_size left ≤ 2 + length text
  pub few : used c + left_size left ≤ 1 + length text
  pub read : (all : Result Before SourceFault) → LinesRead line before (lines_left left) all → LinesRead 1 nothing_yet (lines text) all
  pub holds : IsCoder c before

pub code_first : (text : Bor (List ℕ)) (c : Coder) → IsCoder c nothing_yet → used c ≡ 0 → CodeLeft text.now 1 c nothing_yet (Some text)
code_first text c h none = record {
  at = refl;
  room = omega arith;
  few = omega (arith, none);
  read = λ all k. k;
  holds = h;
}

-- how long the line is that comes next
now_length : (behind now : List ℕ) (after : Option (Bor (List ℕ))) → IsNext behind now after → length now + left_size after ≤ length behind
now_length behind now None next = omega (arith, last_length behind now next)
now_length behind now (Some rest) next = omega (arith, line_length behind now rest.now next.lines_are)

pub room_for_first : (text : List ℕ) (line : ℕ) (c : Coder) (b : Before) (behind : Bor (List ℕ)) → length text ≤ 4194304 → CodeLeft text line c b (Some behind) → used c + length (first_line behind.now) < 2 ^ 32
room_for_first text line c b behind short h = omega (arith, length-take (position_or_len is_feed behind.now) behind.now, h.few)

pub code_next : (text now : List ℕ) (line : ℕ) (c new : Coder) (b : Before) (behind : Bor (List ℕ)) (after : Option (Bor (List ℕ))) → IsNext behind.now now after → CodeLeft text line c b (Some behind)
    → (t : TakesTextLine b new now None) → used new ≤ used c + length now → CodeLeft text (line + 1) new t.after after
code_next text now line c new b behind None next h t more = record {
  at = omega (arith, h.at, ap length next);
  room = omega (arith, h.room);
  few = omega (arith, h.few, more, now_length behind.now now None next);
  read = λ all k. h.read all (subst (λ ls. LinesRead line b ls all) (sym next) (lines_step line b t.after now [] all t.reads k));
  holds = t.holds refl;
}
code_next text now line c new b behind (Some rest) next h t more = record {
  at = omega (arith, h.at, ap length next.lines_are);
  room = omega (arith, h.room, next.shorter);
  few = omega (arith, h.few, more, now_length behind.now now (Some rest) next);
  read = λ all k. h.read all (subst (λ ls. LinesRead line b ls all) (sym next.lines_are) (lines_step line b t.after now (lines rest.now) all t.reads k));
  holds = t.holds refl;
}

fault_is : (text : List ℕ) (f : SourceFault) → LinesRead 1 nothing_yet (lines text) (Err f) → IsSourceFault text f
fault_is text f h = record { all = Err f; lines_read = h; read_is = refl }

pub code_stop : (text now : List ℕ) (line : ℕ) (c new : Coder) (b : Before) (behind : Bor (List ℕ)) (after : Option (Bor (List ℕ))) (kind : SourceKind) → IsNext behind.now now after → CodeLeft text line c b (Some behind)
    → TakesTextLine b new now (Some kind) → IsSourceFault text (record { line = line; kind = kind })
code_stop text now line c new b behind None kind next h t = fault_is text _ (h.read _ (subst (λ ls. LinesRead line b ls (Err (record { line = line; kind = kind }))) (sym next) (lines_stop line b now [] kind t.reads)))
code_stop text now line c new b behind (Some rest) kind next h t = fault_is text _ (h.read _ (subst (λ ls. LinesRead line b ls (Err (record { line = line; kind = kind }))) (sym next.lines_are) (lines_stop line b now (lines rest.now) kind t.reads)))

abbrev pub code_taken : (text : List ℕ) (line : ℕ) (c : Coder) (b : Before) → CodeLeft text line c b None → TakesText text (line - 1) c
code_taken text line c b h = record {
  after = b;
  last_is = omega (arith, h.at);
  reads = h.read (Ok b) (lines_end line b);
  holds = h.holds;
}

-- ---- the end

module _ (text : List ℕ) (last : ℕ) (c : Coder) (t : TakesText text last c) where
  end_reads : (read : Result SourceTree SourceFault) → ended last t.after t.after.field_is ≡ read → TextReads text read
  end_reads read e = record { all = Ok t.after; lines_read = t.reads; read_is = ap (λ n. ended n t.after t.after.field_is) (sym t.last_is) ∙ e }

  pub end_without_field : c.field ≡ None → IsSourceFault text (record { line = last; kind = kinds.NoField })
  end_without_field e = end_reads _ (ended_none last t.after t.after.field_is (sym t.holds.field_is ∙ e))

  pub end_without_assert : (f : FieldId) → c.field ≡ Some f → c.asserts ≡ 0 → IsSourceFault text (record { line = last; kind = kinds.NoAssert })
  end_without_assert f e none = end_reads _ (ended_no_assert last t.after t.after.field_is f (sym t.holds.field_is ∙ e) (no_count is_assertion t.after.statements (sym t.holds.asserts_are ∙ none)))

  pub end_with_source : (f : FieldId) → c.field ≡ Some f → 1 ≤ c.asserts → SourceText text (record { field_is = f; statements = t.after.statements })
  end_with_source f e some = end_reads _ (ended_some last t.after t.after.field_is f (sym t.holds.field_is ∙ e) (some_count is_assertion t.after.statements (omega (arith, some, t.holds.asserts_are))))

  pub end_code : (f : FieldId) → SourceText text (record { field_is = f; statements = t.after.statements }) → IsCodeOfText text (coded f c)
  end_code f h = record {
    source = record { field_is = f; statements = t.after.statements };
    reads = h;
    code = record {
      field_is = refl;
      publics_are = t.holds.publics_are;
      privates_are = t.holds.privates_are;
      words_are = subst (λ (ns : List ℕ). AreCodeOf t.after.statements (code_words ns c.words.items)) (append-nil c.numbers.items) (t.holds.words_are []);
    };
  }

  pub end_reads_code : (r : Result FieldId SourceError) → MatchResult r (λ f. SourceText text (record { field_is = f; statements = t.after.statements })) (IsFirstSourceFault text) → MatchResult r (λ f. IsCodeOfText text (coded f c)) (IsFirstSourceFault text)
  end_reads_code (Ok f) h = end_code f h
  end_reads_code (Err e) h = h

-- code that was read is that of some text of at most 4 MiB
pub some_code : (text : List ℕ) (c : Coded) → length text ≤ 4194304 → IsCodeOfText text c → IsSomeCode c
some_code text c short h = record { source = h.source; formed = record { text = text; short = short; reads = h.reads }; is = h.code }

-- ---- one code only

pub only_code : (text : List ℕ) (r : Result Coded SourceError) → MatchResult r (IsCodeOfText text) (IsFirstSourceFault text) → (source : SourceTree) → SourceText text source → MatchResult r (λ c. IsCodeOf c source) (λ e. e ≡ errors.OutOfMemory)
only_code text (Ok c) h source k = subst (IsCodeOf c) (ok_is h.source source (one_text text (Ok h.source) (Ok source) h.reads k)) h.code
only_code text (Err e) h source k = only_fault text source e k h
