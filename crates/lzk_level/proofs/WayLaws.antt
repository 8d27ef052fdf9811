-- Code on its way, word by word.
use Rattle.std.specs.Prelude.{◌≡◌, ℕ, ◌+◌, ◌≤◌, false, List, [], ◌∷◌, ◌++◌, count_by, Option, Some, None}
use Rattle.std.proofs.Common.{refl, sym, ap, ◌∙◌, arith, subst}
use Rattle.lzk_field.specs.Ring.{Ops, RingLaws}
use Rattle.lzk_expr.specs.Trees.{Number, PublicInput, PrivateInput, Named, Statement, is_public, is_private}
use Rattle.lzk_expr.specs.Meanings.{Atom, Plus, Minus, Times, Open, Close}
use Rattle.lzk_expr.specs.Codes.{CodeWord, Item, Define, Left, Right, CodeReads, code_done, nothing_coded, nameless, next_word, then_words, words_read, AreCodeOf}
use Rattle.lzk_level.specs.declared.half.Half as memory
use Rattle.lzk_level.specs.declared.lets.Operand.TheVariants.{Constant, AtNode}
use Rattle.lzk_level.specs.Nodes.{node_count}
use Rattle.lzk_level.specs.Compilable.{statements_size}
use Rattle.lzk_level.specs.Compiling.{scope, let_at, nodes_of}
use Rattle.lzk_level.specs.Steps.{Held, nothing_held, with_value, next_part_held, held_minus, held_times, held_opened, held_closed, held_defined, held_left, held_right, IsSound}
use Rattle.lzk_level.specs.Makings.{code_held, IsOnTheWay, IsWordWithin}
use Rattle.lzk_level.proofs.WithinLaws.{IsCodeWithin, same-code, words-within, first-within}
use Rattle.lzk_level.proofs.SizeLaws.{code_size, words-size, end-size}
use Rattle.lzk_level.proofs.SoundLaws.{publics-are, privates-are, held-count, held-sound}
use Rattle.lzk_level.proofs.CodeLaws.{number-step, public-step, private-step, named-step, plus-step, minus-step, times-step, open-step, close-step, define-step, left-step, right-step, start-law, finish-nodes, finish-outputs}

-- the first word, and the others
pub record Goes (c : CodeReads) (word : CodeWord) (words : List CodeWord) (end : CodeReads) : Type 0 where
  pub more : CodeReads
  pub next_is : next_word c word ≡ Some more
  pub rest : words_read more words ≡ Some end

goes-at : (c : CodeReads) (word : CodeWord) (words : List CodeWord) (end : CodeReads) (o : Option CodeReads) → next_word c word ≡ o → then_words o (λ more. words_read more words) ≡ Some end → Goes c word words end
goes-at c word words end None e h = absurd cc
goes-at c word words end (Some more) e h = record { more = more; next_is = e; rest = h }

pub goes : (c : CodeReads) (word : CodeWord) (words : List CodeWord) (end : CodeReads) → words_read c (word ∷ words) ≡ Some end → Goes c word words end
unfolding words_read
goes c word words end h = goes-at c word words end (next_word c word) refl h

all-read : (c end : CodeReads) → words_read c [] ≡ Some end → c ≡ end
unfolding words_read
all-read c end h = same-code c end h

module _ {A : Type 0} (o : Ops A) (r : RingLaws o) (element : ℕ → A) (p q : ℕ) (end : CodeReads) where
  -- ---- what holds on the way

  pub way-start : (ws : List CodeWord) → words_read nothing_coded ws ≡ Some end → IsOnTheWay o element p q ws end (nothing_held o p q)
  way-start ws h = record { reads = nothing_coded; rest = h; is = sym (start-law o r element p q) }

  pub way-sound : (ws : List CodeWord) (m : Held A) → IsOnTheWay o element p q ws end m → IsCodeWithin p q end → IsSound o m
  way-sound ws m h w = subst (IsSound o) (sym h.is) (held-sound o r element p q h.reads (words-within p q ws h.reads end h.rest w))

  pub way-count : (ws : List CodeWord) (m : Held A) → IsOnTheWay o element p q ws end m → node_count m.nodes ≤ p + q + code_size end
  way-count ws m h = omega (arith, held-count o r element p q h.reads, words-size ws h.reads end h.rest, ap (λ (x : Held A). node_count x.nodes) h.is)

  pub way-publics : (ws : List CodeWord) (m : Held A) → IsOnTheWay o element p q ws end m → m.nodes.publics ≡ p
  way-publics ws m h = ap (λ (x : Held A). x.nodes.publics) h.is ∙ publics-are o r element p q h.reads

  pub way-privates : (ws : List CodeWord) (m : Held A) → IsOnTheWay o element p q ws end m → m.nodes.privates ≡ q
  way-privates ws m h = ap (λ (x : Held A). x.nodes.privates) h.is ∙ privates-are o r element p q h.reads

  pub way-word : (word : CodeWord) (ws : List CodeWord) (m : Held A) → IsOnTheWay o element p q (word ∷ ws) end m → IsCodeWithin p q end → IsWordWithin p q word
  way-word word ws m h w = first-within p q word ws h.reads end h.rest w

  pub way-end : (m : Held A) → IsOnTheWay o element p q [] end m → m ≡ code_held o element p q end
  way-end m h = h.is ∙ ap (code_held o element p q) (all-read h.reads end h.rest)

  -- ---- word by word

  way-at : (word : CodeWord) (ws : List CodeWord) (m more : Held A) (step : Held A → Held A) → ((c next : CodeReads) → next_word c word ≡ Some next → code_held o element p q next ≡ step (code_held o element p q c))
      → more ≡ step m → IsOnTheWay o element p q (word ∷ ws) end m → IsOnTheWay o element p q ws end more
  way-at word ws m more step law is h =
      let g = goes h.reads word ws end h.rest in
      record { reads = g.more; rest = g.rest; is = is ∙ ap step h.is ∙ sym (law h.reads g.more g.next_is) }

  pub way-number : (k : ℕ) (ws : List CodeWord) (m more : Held A) → more ≡ with_value o m (Constant (element k)) → IsOnTheWay o element p q (Item (Atom (Number k)) ∷ ws) end m → IsOnTheWay o element p q ws end more
  way-number k ws m more is h = way-at (Item (Atom (Number k))) ws m more (λ x. with_value o x (Constant (element k))) (λ c next e. number-step o r element p q c next k e) is h

  pub way-public : (i : ℕ) (ws : List CodeWord) (m more : Held A) → more ≡ with_value o m (AtNode (1 + i)) → IsOnTheWay o element p q (Item (Atom (PublicInput i)) ∷ ws) end m → IsOnTheWay o element p q ws end more
  way-public i ws m more is h = way-at (Item (Atom (PublicInput i))) ws m more (λ x. with_value o x (AtNode (1 + i))) (λ c next e. public-step o r element p q c next i e) is h

  pub way-private : (i : ℕ) (ws : List CodeWord) (m more : Held A) → more ≡ with_value o m (AtNode (1 + m.nodes.publics + i)) → IsOnTheWay o element p q (Item (Atom (PrivateInput i)) ∷ ws) end m → IsOnTheWay o element p q ws end more
  way-private i ws m more is h = way-at (Item (Atom (PrivateInput i))) ws m more (λ x. with_value o x (AtNode (1 + x.nodes.publics + i))) (λ c next e. private-step o r element p q c next i e) is h

  pub way-named : (i : ℕ) (ws : List CodeWord) (m more : Held A) → more ≡ with_value o m (let_at (scope o element m.lets) i) → IsOnTheWay o element p q (Item (Atom (Named i)) ∷ ws) end m → IsOnTheWay o element p q ws end more
  way-named i ws m more is h = way-at (Item (Atom (Named i))) ws m more (λ x. with_value o x (let_at (scope o element x.lets) i)) (λ c next e. named-step o r element p q c next i e) is h

  pub way-plus : (ws : List CodeWord) (m more : Held A) → more ≡ next_part_held o m false → IsOnTheWay o element p q (Item Plus ∷ ws) end m → IsOnTheWay o element p q ws end more
  way-plus ws m more is h = way-at (Item Plus) ws m more (λ x. next_part_held o x false) (plus-step o r element p q) is h

  pub way-minus : (ws : List CodeWord) (m more : Held A) → more ≡ held_minus o m → IsOnTheWay o element p q (Item Minus ∷ ws) end m → IsOnTheWay o element p q ws end more
  way-minus ws m more is h = way-at (Item Minus) ws m more (held_minus o) (minus-step o r element p q) is h

  pub way-times : (ws : List CodeWord) (m more : Held A) → more ≡ held_times m → IsOnTheWay o element p q (Item Times ∷ ws) end m → IsOnTheWay o element p q ws end more
  way-times ws m more is h = way-at (Item Times) ws m more held_times (times-step o r element p q) is h

  pub way-open : (ws : List CodeWord) (m more : Held A) → more ≡ held_opened o m → IsOnTheWay o element p q (Item Open ∷ ws) end m → IsOnTheWay o element p q ws end more
  way-open ws m more is h = way-at (Item Open) ws m more (held_opened o) (open-step o r element p q) is h

  pub way-close : (ws : List CodeWord) (m more : Held A) → ((outer : List (memory.Half A)) (before : memory.Half A) → m.outer ≡ outer ++ before ∷ [] → more ≡ held_closed o m outer before)
      → IsOnTheWay o element p q (Item Close ∷ ws) end m → IsOnTheWay o element p q ws end more
  way-close ws m more is h =
      let g = goes h.reads (Item Close) ws end h.rest in
      let k = close-step o r element p q h.reads g.more g.next_is in
      record {
        reads = g.more;
        rest = g.rest;
        is = is k.outer k.before (ap (λ (x : Held A). x.outer) h.is ∙ k.outer_is) ∙ ap (λ x. held_closed o x k.outer k.before) h.is ∙ sym k.after;
      }

  pub way-define : (ws : List CodeWord) (m more : Held A) → more ≡ held_defined o m → IsOnTheWay o element p q (Define ∷ ws) end m → IsOnTheWay o element p q ws end more
  way-define ws m more is h = way-at Define ws m more (held_defined o) (define-step o r element p q) is h

  pub way-left : (ws : List CodeWord) (m more : Held A) → more ≡ held_left o m → IsOnTheWay o element p q (Left ∷ ws) end m → IsOnTheWay o element p q ws end more
  way-left ws m more is h = way-at Left ws m more (held_left o) (left-step o r element p q) is h

  pub way-right : (ws : List CodeWord) (m more : Held A) → ((left : ℕ) → m.left ≡ Some left → more ≡ held_right o m left) → IsOnTheWay o element p q (Right ∷ ws) end m → IsOnTheWay o element p q ws end more
  way-right ws m more is h =
      let g = goes h.reads Right ws end h.rest in
      let k = right-step o r element p q h.reads g.more g.next_is in
      record {
        reads = g.more;
        rest = g.rest;
        is = is k.left (ap (λ (x : Held A). x.left) h.is ∙ k.left_is) ∙ ap (λ x. held_right o x k.left) h.is ∙ sym k.after;
      }

-- ---- all of a source
module _ {A : Type 0} (o : Ops A) (r : RingLaws o) (element : ℕ → A) (p q : ℕ) (ss : List Statement) where
  pub source-start : (ws : List CodeWord) → AreCodeOf ss ws → IsOnTheWay o element p q ws (code_done (nameless ss)) (nothing_held o p q)
  source-start ws h = way-start o r element p q (code_done (nameless ss)) ws h

  pub source-nodes : (m : Held A) → IsOnTheWay o element p q [] (code_done (nameless ss)) m → p ≡ count_by is_public ss → q ≡ count_by is_private ss → m.nodes ≡ (nodes_of o element ss).nodes
  source-nodes m h pe qe = ap (λ (x : Held A). x.nodes) (way-end o r element p q (code_done (nameless ss)) m h) ∙ finish-nodes o r element p q ss pe qe

  pub source-outputs : (m : Held A) → IsOnTheWay o element p q [] (code_done (nameless ss)) m → p ≡ count_by is_public ss → q ≡ count_by is_private ss → m.outputs ≡ (nodes_of o element ss).outputs
  source-outputs m h pe qe = ap (λ (x : Held A). x.outputs) (way-end o r element p q (code_done (nameless ss)) m h) ∙ finish-outputs o r element p q ss pe qe

  pub source-count : (ws : List CodeWord) (m : Held A) → IsOnTheWay o element p q ws (code_done (nameless ss)) m → node_count m.nodes ≤ p + q + statements_size ss
  source-count ws m h = omega (arith, way-count o r element p q (code_done (nameless ss)) ws m h, end-size ss)
