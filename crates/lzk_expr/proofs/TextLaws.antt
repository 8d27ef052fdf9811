-- A text line by line, and that it reads in one way only.
use Rattle.std.proofs.Common.{◌≡◌, ℕ, ◌+◌, ◌≤◌, Bool, true, false, cond, ◌||◌, List, [], ◌∷◌, length, Option, Some, None, Ok, Err, Result, refl, sym, ◌∙◌, ap, arith, subst}
use Rattle.std.specs.Prelude.{count_by}
use Rattle.std.specs.List.{list_any}
use Rattle.std.proofs.lemmas.List.Sums.{sum_by-cons}
use Rattle.lzk_expr.specs.declared.ast.FieldId.{FieldId}
use Rattle.lzk_expr.specs.declared.source_fault.SourceKind.{SourceKind}
use Rattle.lzk_expr.specs.declared.source_fault.SourceKind.TheVariants as kinds
use Rattle.lzk_expr.specs.declared.source_fault.SourceFault.{SourceFault}
use Rattle.lzk_expr.specs.declared.source_fault.SourceError.{SourceError}
use Rattle.lzk_expr.specs.declared.source_fault.SourceError.TheVariants as errors
use Rattle.lzk_expr.specs.Texts.{lines, content}
use Rattle.lzk_expr.specs.Tokens.{tokens, is_empty_line}
use Rattle.lzk_expr.specs.Trees.{SourceTree, is_assertion}
use Rattle.lzk_expr.specs.Sources.{Before, nothing_yet, line_read, LineReads, LineThen, LineAt, LinesRead, ended, ended_read, TextReads, SourceText, IsFirstSourceFault}
use Rattle.lzk_expr.specs.Readers.{StepReads}
use Rattle.lzk_expr.proofs.Forms.{one_form}

-- ---- one reading only

one_line : (b : Before) (bytes : List ℕ) (x y : Result Before SourceKind) → LineReads b bytes x → LineReads b bytes y → x ≡ y
one_line b bytes x y h k = sym h.read_is ∙ ap (line_read b bytes) (one_form (tokens bytes) h.form k.form h.is_form k.is_form) ∙ k.read_is

one_then : (n : ℕ) (r s : Result Before SourceFault) (rest : Result Before SourceFault → Before → Type 0) → ((b : Before) → rest r b → rest s b → r ≡ s) → (step : Result Before SourceKind) → LineThen n r (rest r) step → LineThen n s (rest s) step → r ≡ s
one_then n r s rest f (Err kind) h k = h ∙ sym k
one_then n r s rest f (Ok b) h k = f b h k

one_at : (n : ℕ) (b : Before) (bytes : List ℕ) (r s : Result Before SourceFault) (rest : Result Before SourceFault → Before → Type 0) → ((c : Before) → rest r c → rest s c → r ≡ s)
    → (empty : Bool) → LineAt n b bytes r (rest r) empty → LineAt n b bytes s (rest s) empty → r ≡ s
one_at n b bytes r s rest f true h k = f b h k
one_at n b bytes r s rest f false (x, h, u) (y, k, v) = one_then n r s rest f y (subst (LineThen n r (rest r)) (one_line b bytes x y h k) u) v

one_lines : (n : ℕ) (b : Before) (ls : List (List ℕ)) (r s : Result Before SourceFault) → LinesRead n b ls r → LinesRead n b ls s → r ≡ s
unfolding LinesRead
one_lines n b [] r s h k = h ∙ sym k
one_lines n b (l ∷ ls) r s h k = one_at n b (content l) r s (λ read next. LinesRead (n + 1) next ls read) (λ c. one_lines (n + 1) c ls r s) (is_empty_line (content l)) h k

pub one_text : (text : List ℕ) (r s : Result SourceTree SourceFault) → TextReads text r → TextReads text s → r ≡ s
one_text text r s h k = sym h.read_is ∙ ap (ended_read (length (lines text))) (one_lines 1 nothing_yet (lines text) h.all k.all h.lines_read k.lines_read) ∙ k.read_is

abbrev pub ok : {A B : Type 0} → A → Result A B
ok x = Ok x

pub ok_is : {A B : Type 0} (x y : A) → ok {A = A} {B = B} x ≡ ok {A = A} {B = B} y → x ≡ y
ok_is x y e = cc

pub only_fault : (text : List ℕ) (source : SourceTree) (e : SourceError) → SourceText text source → IsFirstSourceFault text e → e ≡ errors.OutOfMemory
only_fault text source errors.OutOfMemory h k = refl
only_fault text source (errors.Fault f) h k = let no = one_text text (Ok source) (Err f) h k in absurd cc

-- ---- line by line

step_at : (n : ℕ) (b next : Before) (bytes : List ℕ) (all : Result Before SourceFault) (rest : Before → Type 0) (empty : Bool) → StepReads b bytes (Ok next) empty → rest next → LineAt n b bytes all rest empty
step_at n b next bytes all rest true e h = let same : next ≡ b = cc in subst rest same h
step_at n b next bytes all rest false e h = (Ok next, e, h)

stop_at : (n : ℕ) (b : Before) (bytes : List ℕ) (kind : SourceKind) (rest : Before → Type 0) (empty : Bool) → StepReads b bytes (Err kind) empty → LineAt n b bytes (Err (record { line = n; kind = kind })) rest empty
stop_at n b bytes kind rest true e = absurd cc
stop_at n b bytes kind rest false e = (Err kind, e, refl)

pub lines_step : (n : ℕ) (b next : Before) (line : List ℕ) (later : List (List ℕ)) (all : Result Before SourceFault) → StepReads b (content line) (Ok next) (is_empty_line (content line)) → LinesRead (n + 1) next later all → LinesRead n b (line ∷ later) all
unfolding LinesRead
lines_step n b next line later all e h = step_at n b next (content line) all (λ c. LinesRead (n + 1) c later all) (is_empty_line (content line)) e h

pub lines_stop : (n : ℕ) (b : Before) (line : List ℕ) (later : List (List ℕ)) (kind : SourceKind) → StepReads b (content line) (Err kind) (is_empty_line (content line)) → LinesRead n b (line ∷ later) (Err (record { line = n; kind = kind }))
unfolding LinesRead
lines_stop n b line later kind e = stop_at n b (content line) kind (λ c. LinesRead (n + 1) c later (Err (record { line = n; kind = kind }))) (is_empty_line (content line)) e

pub lines_end : (n : ℕ) (b : Before) → LinesRead n b [] (Ok b)
unfolding LinesRead
lines_end n b = refl

-- ---- the end

no_count_at : {X : Type 0} (p : X → Bool) (x : X) (xs : List X) (b : Bool) → p x ≡ b → cond b 1 0 + count_by p xs ≡ 0 → (count_by p xs ≡ 0 → list_any p xs ≡ false) → (b || list_any p xs) ≡ false
no_count_at p x xs true e h k = absurd (omega arith)
no_count_at p x xs false e h k = k (omega (arith, h))

pub no_count : {X : Type 0} (p : X → Bool) (xs : List X) → count_by p xs ≡ 0 → list_any p xs ≡ false
no_count p [] h = refl
no_count p (x ∷ xs) h = no_count_at p x xs (p x) refl (sym (sum_by-cons (λ y. cond (p y) 1 0) x xs) ∙ h) (no_count p xs)

some_count_at : {X : Type 0} (p : X → Bool) (xs : List X) (b : Bool) → 1 ≤ cond b 1 0 + count_by p xs → (1 ≤ count_by p xs → list_any p xs ≡ true) → (b || list_any p xs) ≡ true
some_count_at p xs true h k = refl
some_count_at p xs false h k = k (omega (arith, h))

pub some_count : {X : Type 0} (p : X → Bool) (xs : List X) → 1 ≤ count_by p xs → list_any p xs ≡ true
some_count p [] h = let none : count_by p [] ≡ 0 = refl in absurd (omega arith)
some_count p (x ∷ xs) h = some_count_at p xs (p x) (subst (λ n. 1 ≤ n) (sum_by-cons (λ y. cond (p y) 1 0) x xs) h) (some_count p xs)

pub ended_none : (n : ℕ) (b : Before) (o : Option FieldId) → o ≡ None → ended n b o ≡ Err (record { line = n; kind = kinds.NoField })
ended_none n b None e = refl
ended_none n b (Some f) e = absurd cc

pub ended_some : (n : ℕ) (b : Before) (o : Option FieldId) (f : FieldId) → o ≡ Some f → list_any is_assertion b.statements ≡ true → ended n b o ≡ Ok (record { field_is = f; statements = b.statements })
ended_some n b o f e h = ap (ended n b) e ∙ rw h refl

pub ended_no_assert : (n : ℕ) (b : Before) (o : Option FieldId) (f : FieldId) → o ≡ Some f → list_any is_assertion b.statements ≡ false → ended n b o ≡ Err (record { line = n; kind = kinds.NoAssert })
ended_no_assert n b o f e h = ap (ended n b) e ∙ rw h refl
