-- What a step of an expression, and a word of code, makes of what was read.
use Rattle.std.specs.Prelude.{◌≡◌, Bool, true, false, List, [], ◌∷◌, ◌++◌, Option, Some, None, if◌then◌else◌}
use Rattle.std.proofs.Common.{refl}
use Rattle.lzk_expr.specs.Trees.{Expr}
use Rattle.lzk_expr.specs.Meanings.{Half, Reads, Step, Atom, Plus, Minus, Times, Open, Close, nothing_read, added, with_atom, parts_of_half, opened, with_atom_read, with_part, half_closed, minus_next, needs, goes_on, next, whole, ends}
use Rattle.lzk_expr.specs.Codes.{Item, Define, Left, Right, Definition, Equation, CodeReads, code_done, expression_goes_on, definition_ends, left_ends, right_ends, next_word}

-- ---- steps

same : {X : Type 0} (x y : X) → Some x ≡ Some y → x ≡ y
same x y h = cc

atom-at : (b : Bool) (r more : Reads) (e : Expr) → (if b then goes_on r (Atom e) else needs r (Atom e)) ≡ Some more → with_atom_read r e ≡ more
atom-at true r more e h = absurd cc
atom-at false r more e h = same (with_atom_read r e) more h

pub atom-next : (r more : Reads) (e : Expr) → next r (Atom e) ≡ Some more → with_atom_read r e ≡ more
unfolding next
atom-next r more e h = atom-at r.ready r more e h

plus-at : (b : Bool) (r more : Reads) → (if b then goes_on r Plus else needs r Plus) ≡ Some more → with_part r false ≡ more
plus-at true r more h = same (with_part r false) more h
plus-at false r more h = absurd cc

pub plus-next : (r more : Reads) → next r Plus ≡ Some more → with_part r false ≡ more
unfolding next
plus-next r more h = plus-at r.ready r more h

-- with a minus before the next atom
abbrev pub with_minus : Reads → Reads
with_minus r = record {
  outer = r.outer;
  now = record { parts = r.now.parts; minus = r.now.minus; factors = r.now.factors; negated = true };
  ready = false;
}

sign-at : (b : Bool) (r more : Reads) → minus_next r b ≡ Some more → with_minus r ≡ more
sign-at true r more h = absurd cc
sign-at false r more h = same (with_minus r) more h

minus-at : (b : Bool) (r more : Reads) → (if b then goes_on r Minus else needs r Minus) ≡ Some more → (if b then with_part r true else with_minus r) ≡ more
minus-at true r more h = same (with_part r true) more h
minus-at false r more h = sign-at r.now.negated r more h

pub minus-next : (r more : Reads) → next r Minus ≡ Some more → (if r.ready then with_part r true else with_minus r) ≡ more
unfolding next
minus-next r more h = minus-at r.ready r more h

-- where a factor is needed
abbrev pub with_times : Reads → Reads
with_times r = record { outer = r.outer; now = r.now; ready = false }

times-at : (b : Bool) (r more : Reads) → (if b then goes_on r Times else needs r Times) ≡ Some more → with_times r ≡ more
times-at true r more h = same (with_times r) more h
times-at false r more h = absurd cc

pub times-next : (r more : Reads) → next r Times ≡ Some more → with_times r ≡ more
unfolding next
times-next r more h = times-at r.ready r more h

open-at : (b : Bool) (r more : Reads) → (if b then goes_on r Open else needs r Open) ≡ Some more → opened r ≡ more
open-at true r more h = absurd cc
open-at false r more h = same (opened r) more h

pub open-next : (r more : Reads) → next r Open ≡ Some more → opened r ≡ more
unfolding next
open-next r more h = open-at r.ready r more h

-- where a parenthesis closes, the sum is an atom of the one before it
pub record Closes (r more : Reads) : Type 0 where
  pub before : Half
  pub outer : List Half
  pub outer_is : r.outer ≡ before ∷ outer
  pub after : record { outer = outer; now = with_atom before (added (parts_of_half r.now)); ready = true } ≡ more

closes : (hs : List Half) (r more : Reads) → r.outer ≡ hs → half_closed hs (added (parts_of_half r.now)) ≡ Some more → Closes r more
closes [] r more e h = absurd cc
closes (b ∷ hs) r more e h = record { before = b; outer = hs; outer_is = e; after = same (record { outer = hs; now = with_atom b (added (parts_of_half r.now)); ready = true }) more h }

close-at : (b : Bool) (r more : Reads) → (if b then goes_on r Close else needs r Close) ≡ Some more → Closes r more
close-at true r more h = closes r.outer r more refl h
close-at false r more h = absurd cc

pub close-next : (r more : Reads) → next r Close ≡ Some more → Closes r more
unfolding next
close-next r more h = close-at r.ready r more h

-- an expression ends where no parenthesis is open
pub record Ends (r : Reads) (e : Expr) : Type 0 where
  pub outer_is : r.outer ≡ []
  pub is : added (parts_of_half r.now) ≡ e

ends-at : (b : Bool) (hs : List Half) (r : Reads) (e : Expr) → r.outer ≡ hs → whole r b hs ≡ Some e → Ends r e
ends-at true [] r e o h = record { outer_is = o; is = same (added (parts_of_half r.now)) e h }
ends-at true (x ∷ hs) r e o h = absurd cc
ends-at false hs r e o h = absurd cc

pub ends-is : (r : Reads) (e : Expr) → ends r ≡ Some e → Ends r e
ends-is r e h = ends-at r.ready r.outer r e refl h

-- ---- words

-- an expression goes on by a step
pub record GoesOn (r more : CodeReads) (s : Step) : Type 0 where
  pub reads : Reads
  pub next_is : next r.reads s ≡ Some reads
  pub after : record { reads = reads; left = r.left; done = r.done } ≡ more

goes-at : (r more : CodeReads) (s : Step) (o : Option Reads) → next r.reads s ≡ o → expression_goes_on r o ≡ Some more → GoesOn r more s
goes-at r more s None e h = absurd cc
goes-at r more s (Some reads) e h = record { reads = reads; next_is = e; after = same (record { reads = reads; left = r.left; done = r.done }) more h }

pub item-next : (r more : CodeReads) (s : Step) → next_word r (Item s) ≡ Some more → GoesOn r more s
item-next r more s h = goes-at r more s (next r.reads s) refl h

pub record Defines (r more : CodeReads) : Type 0 where
  pub expr : Expr
  pub left_is : r.left ≡ None
  pub ends_is : ends r.reads ≡ Some expr
  pub after : code_done (r.done ++ Definition expr ∷ []) ≡ more

defines-at : (r more : CodeReads) (left o : Option Expr) → r.left ≡ left → ends r.reads ≡ o → definition_ends r left o ≡ Some more → Defines r more
defines-at r more None (Some e) l o h = record { expr = e; left_is = l; ends_is = o; after = same (code_done (r.done ++ Definition e ∷ [])) more h }
defines-at r more None None l o h = absurd cc
defines-at r more (Some f) None l o h = absurd cc
defines-at r more (Some f) (Some e) l o h = absurd cc

pub define-next : (r more : CodeReads) → next_word r Define ≡ Some more → Defines r more
define-next r more h = defines-at r more r.left (ends r.reads) refl refl h

pub record EndsLeft (r more : CodeReads) : Type 0 where
  pub expr : Expr
  pub left_is : r.left ≡ None
  pub ends_is : ends r.reads ≡ Some expr
  pub after : record { reads = nothing_read; left = Some expr; done = r.done } ≡ more

left-at : (r more : CodeReads) (left o : Option Expr) → r.left ≡ left → ends r.reads ≡ o → left_ends r left o ≡ Some more → EndsLeft r more
left-at r more None (Some e) l o h = record { expr = e; left_is = l; ends_is = o; after = same (record { reads = nothing_read; left = Some e; done = r.done }) more h }
left-at r more None None l o h = absurd cc
left-at r more (Some f) None l o h = absurd cc
left-at r more (Some f) (Some e) l o h = absurd cc

pub left-next : (r more : CodeReads) → next_word r Left ≡ Some more → EndsLeft r more
left-next r more h = left-at r more r.left (ends r.reads) refl refl h

pub record EndsRight (r more : CodeReads) : Type 0 where
  pub left : Expr
  pub right : Expr
  pub left_is : r.left ≡ Some left
  pub ends_is : ends r.reads ≡ Some right
  pub after : code_done (r.done ++ Equation left right ∷ []) ≡ more

right-at : (r more : CodeReads) (left o : Option Expr) → r.left ≡ left → ends r.reads ≡ o → right_ends r left o ≡ Some more → EndsRight r more
right-at r more (Some e) (Some f) l o h = record { left = e; right = f; left_is = l; ends_is = o; after = same (code_done (r.done ++ Equation e f ∷ [])) more h }
right-at r more (Some e) None l o h = absurd cc
right-at r more None None l o h = absurd cc
right-at r more None (Some f) l o h = absurd cc

pub right-next : (r more : CodeReads) → next_word r Right ≡ Some more → EndsRight r more
right-next r more h = right-at r more r.left (ends r.reads) refl refl h
