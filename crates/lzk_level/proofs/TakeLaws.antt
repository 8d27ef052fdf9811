-- What a word of code leads to.
use Rattle.std.specs.Prelude.{◌≡◌, ℕ, ◌+◌, ◌<◌, false, List, [], ◌∷◌, ◌++◌, length, count_by, Some, Result, Ok, Err, OnOk}
use Rattle.std.proofs.Common.{sym, ap, ap₂, ◌∙◌, subst, get_or, drop, drop-cons, add-one}
use Rattle.lzk_field.specs.Ring.{Ops, RingLaws}
use Rattle.lzk_expr.specs.Trees.{SourceTree, is_public, is_private}
use Rattle.lzk_expr.specs.Sources.{IsWellFormed}
use Rattle.lzk_expr.specs.declared.code.Word.{Word}
use Rattle.lzk_expr.specs.declared.code.Word.TheVariants as word
use Rattle.lzk_expr.specs.Codes.{CodeWord, code_word, code_words, code_done, nameless}
use Rattle.lzk_level.specs.declared.half.Half as memory
use Rattle.lzk_level.specs.declared.lets.Operand.{Operand}
use Rattle.lzk_level.specs.declared.lets.Operand.TheVariants.{Constant, AtNode}
use Rattle.lzk_level.specs.Compiling.{scope, let_at}
use Rattle.lzk_level.specs.Steps.{Held, with_value, next_part_held, held_minus, held_times, held_opened, held_closed, held_defined, held_left, held_right}
use Rattle.lzk_level.specs.Makings.{IsOnTheWay, IsTaken, IsWordWithin, CanTakeWord}
use Rattle.lzk_level.proofs.WayLaws.{way-publics, way-privates, way-number, way-public, way-private, way-named, way-plus, way-minus, way-times, way-open, way-close, way-define, way-left, way-right}
use Rattle.lzk_level.proofs.WayRoom.{source-sound, source-word, source-room}

module _ {A : Type 0} (o : Ops A) (r : RingLaws o) (element : ℕ → A) (numbers : List ℕ) (w : Word) (m after : Held A) where
  -- the word is this one
  taken-as : (v : Word) → w ≡ v → IsTaken o element (code_word numbers v) m after → IsTaken o element (code_word numbers w) m after
  taken-as v e h = subst (λ u. IsTaken o element (code_word numbers u) m after) (sym e) h

  pub taken-number : (i n : ℕ) (x : A) → w ≡ word.Number i → n ≡ get_or numbers i 0 → x ≡ element n → after ≡ with_value o m (Constant x) → IsTaken o element (code_word numbers w) m after
  taken-number i n x e at is h = taken-as (word.Number i) e (λ p q ws end way. way-number o r element p q end (get_or numbers i 0) ws m after (h ∙ ap (λ y. with_value o m (Constant y)) (is ∙ ap element at)) way)

  pub taken-public : (i k : ℕ) → w ≡ word.Public i → k ≡ 1 + i → after ≡ with_value o m (AtNode k) → IsTaken o element (code_word numbers w) m after
  taken-public i k e at h = taken-as (word.Public i) e (λ p q ws end way. way-public o r element p q end i ws m after (h ∙ ap (λ n. with_value o m (AtNode n)) at) way)

  pub taken-private : (i k : ℕ) → w ≡ word.Private i → k ≡ 1 + m.nodes.publics + i → after ≡ with_value o m (AtNode k) → IsTaken o element (code_word numbers w) m after
  taken-private i k e at h = taken-as (word.Private i) e (λ p q ws end way. way-private o r element p q end i ws m after (h ∙ ap (λ n. with_value o m (AtNode n)) at) way)

  pub taken-named : (i : ℕ) (x : Operand A) → w ≡ word.Named i → x ≡ let_at (scope o element m.lets) i → after ≡ with_value o m x → IsTaken o element (code_word numbers w) m after
  taken-named i x e is h = taken-as (word.Named i) e (λ p q ws end way. way-named o r element p q end i ws m after (h ∙ ap (with_value o m) is) way)

  pub taken-plus : w ≡ word.Plus → after ≡ next_part_held o m false → IsTaken o element (code_word numbers w) m after
  taken-plus e h = taken-as word.Plus e (λ p q ws end way. way-plus o r element p q end ws m after h way)

  pub taken-minus : w ≡ word.Minus → after ≡ held_minus o m → IsTaken o element (code_word numbers w) m after
  taken-minus e h = taken-as word.Minus e (λ p q ws end way. way-minus o r element p q end ws m after h way)

  pub taken-times : w ≡ word.Times → after ≡ held_times m → IsTaken o element (code_word numbers w) m after
  taken-times e h = taken-as word.Times e (λ p q ws end way. way-times o r element p q end ws m after h way)

  pub taken-open : w ≡ word.Open → after ≡ held_opened o m → IsTaken o element (code_word numbers w) m after
  taken-open e h = taken-as word.Open e (λ p q ws end way. way-open o r element p q end ws m after h way)

  pub taken-close : w ≡ word.Close → ((outer : List (memory.Half A)) (before : memory.Half A) → m.outer ≡ outer ++ before ∷ [] → after ≡ held_closed o m outer before) → IsTaken o element (code_word numbers w) m after
  taken-close e h = taken-as word.Close e (λ p q ws end way. way-close o r element p q end ws m after h way)

  pub taken-define : w ≡ word.Define → after ≡ held_defined o m → IsTaken o element (code_word numbers w) m after
  taken-define e h = taken-as word.Define e (λ p q ws end way. way-define o r element p q end ws m after h way)

  pub taken-left : w ≡ word.Left → after ≡ held_left o m → IsTaken o element (code_word numbers w) m after
  taken-left e h = taken-as word.Left e (λ p q ws end way. way-left o r element p q end ws m after h way)

  pub taken-right : w ≡ word.Right → ((left : ℕ) → m.left ≡ Some left → after ≡ held_right o m left) → IsTaken o element (code_word numbers w) m after
  taken-right e h = taken-as word.Right e (λ p q ws end way. way-right o r element p q end ws m after h way)

-- what holds of each where a result is Ok
pub on-ok-one : {T E X : Type 0} (r : Result T E) (P Q : X → Type 0) → ((x : X) → P x → OnOk r (Q x)) → OnOk r ((x : X) → P x → Q x)
on-ok-one (Ok t) P Q h = h
on-ok-one (Err e) P Q h = tt

pub on-ok-two : {T E X Y : Type 0} (r : Result T E) (P Q : X → Y → Type 0) → ((x : X) (y : Y) → P x y → OnOk r (Q x y)) → OnOk r ((x : X) (y : Y) → P x y → Q x y)
on-ok-two (Ok t) P Q h = h
on-ok-two (Err e) P Q h = tt

-- the words from one on
pub words-from : (numbers ns : List ℕ) (all ws : List Word) (i : ℕ) (d : Word) → ws ≡ all → ns ≡ numbers → i < length ws → code_words numbers (drop i all) ≡ code_word ns (get_or ws i d) ∷ code_words numbers (drop (i + 1) all)
words-from numbers ns all ws i d e f l =
    ap (λ ks. code_words numbers (drop i ks)) (sym e) ∙ ap (code_words numbers) (drop-cons ws i d l)
    ∙ ap₂ (λ (ks : List ℕ) (xs : List Word). code_word ks (get_or ws i d) ∷ code_words numbers xs) (sym f) (ap (λ k. drop k ws) (sym (add-one i)) ∙ ap (λ ks. drop (i + 1) ks) e)

module _ {A : Type 0} (o : Ops A) (r : RingLaws o) (element : ℕ → A) (p q : ℕ) where
  pub can-take : (source : SourceTree) → IsWellFormed source → p ≡ count_by is_public source.statements → q ≡ count_by is_private source.statements
      → (w : CodeWord) (ws : List CodeWord) (m : Held A) → IsOnTheWay o element p q (w ∷ ws) (code_done (nameless source.statements)) m → CanTakeWord o m w
  can-take source formed pe qe w ws m way =
      let end = code_done (nameless source.statements) in
      let word = source-word o r element p q source formed pe qe w ws m way in
      record {
        sound = source-sound o r element p q source formed pe qe (w ∷ ws) m way;
        room = source-room o r element p q source formed pe qe (w ∷ ws) m way;
        input =
            subst (λ n. IsWordWithin n m.nodes.privates w) (sym (way-publics o r element p q end (w ∷ ws) m way))
            (subst (λ n. IsWordWithin p n w) (sym (way-privates o r element p q end (w ∷ ws) m way)) word);
      }
