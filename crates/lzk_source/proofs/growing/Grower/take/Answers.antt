use Rattle.std.proofs.Common.{ℕ, Ok, false, refl, sym, ap, ◌∙◌}
use Rattle.lzk_expr.specs.declared.code.Word.TheVariants as words
use Rattle.lzk_expr.specs.declared.ast.Expr.TheVariants as exprs
use Rattle.lzk_expr.specs.Trees as tree
use Rattle.lzk_expr.specs.Meanings as meaning
use Rattle.lzk_source.specs.Halves.{reads_of}
use Rattle.lzk_expr.specs.Codes.{next_word, code_word}
use Rattle.lzk_source.proofs.Trees.{number_is, public_is, private_is, named_is}
use Rattle.lzk_expr.proofs.Outcomes.{on_ok}
use Rattle.lzk_source.proofs.GrowthLaws.{step_word, atom_word, plus_next, times_next, open_next, close_next, define_taken, left_taken, right_taken}
use Rattle.lzk_source.proofs.growing.Grower.take.Goals as goal

pub returns-in-Number : goal.returns-in-Number
returns-in-Number c = λ old new.
    let s = c.args.self.now in
    atom_word s (record { reads = c.atom.new.self; ended = s.ended }) c.atom.result c.args.numbers.now c.args.word (words.Number c.in-Number.i) (exprs.Number c.number_at.result) _ old new
    c.in-Number.is refl (number_is c.number_at.result ∙ ap tree.Number c.number_at.ensures) refl c.atom.ensures

pub returns-in-Public : goal.returns-in-Public
returns-in-Public c = λ old new.
    let s = c.args.self.now in
    atom_word s (record { reads = c.atom-in-Public.new.self; ended = s.ended }) c.atom-in-Public.result c.args.numbers.now c.args.word (words.Public c.in-Public.i) (exprs.Public c.in-Public.i) (tree.PublicInput c.in-Public.i) old new
    c.in-Public.is refl (public_is c.in-Public.i) refl c.atom-in-Public.ensures

pub returns-in-Private : goal.returns-in-Private
returns-in-Private c = λ old new.
    let s = c.args.self.now in
    atom_word s (record { reads = c.atom-in-Private.new.self; ended = s.ended }) c.atom-in-Private.result c.args.numbers.now c.args.word (words.Private c.in-Private.i) (exprs.Private c.in-Private.i) (tree.PrivateInput c.in-Private.i) old new
    c.in-Private.is refl (private_is c.in-Private.i) refl c.atom-in-Private.ensures

pub returns-in-Named : goal.returns-in-Named
returns-in-Named c = λ old new.
    let s = c.args.self.now in
    atom_word s (record { reads = c.atom-in-Named.new.self; ended = s.ended }) c.atom-in-Named.result c.args.numbers.now c.args.word (words.Named c.in-Named.i) (exprs.Named c.in-Named.i) (tree.Named c.in-Named.i) old new
    c.in-Named.is refl (named_is c.in-Named.i) refl c.atom-in-Named.ensures

pub returns-in-Plus : goal.returns-in-Plus
returns-in-Plus c = λ old new.
    let s = c.args.self.now in
    step_word s (record { reads = c.part.new.self; ended = s.ended }) c.part.result c.args.numbers.now c.args.word words.Plus meaning.Plus old new c.in-Plus.is refl refl (λ a k. on_ok c.part.result (λ e. e ∙ plus_next (reads_of s.reads) a k) c.part.ensures)

pub returns-in-Minus : goal.returns-in-Minus
returns-in-Minus c = λ old new.
    let s = c.args.self.now in
    step_word s (record { reads = c.minus.new.self; ended = s.ended }) c.minus.result c.args.numbers.now c.args.word words.Minus meaning.Minus old new c.in-Minus.is refl refl c.minus.ensures

pub returns-in-Open : goal.returns-in-Open
returns-in-Open c = λ old new.
    let s = c.args.self.now in
    step_word s (record { reads = c.open.new.self; ended = s.ended }) c.open.result c.args.numbers.now c.args.word words.Open meaning.Open old new c.in-Open.is refl refl (λ a k. on_ok c.open.result (λ e. e ∙ open_next (reads_of s.reads) a k) c.open.ensures)

pub returns-in-Close : goal.returns-in-Close
returns-in-Close c = λ old new.
    let s = c.args.self.now in
    step_word s (record { reads = c.close.new.self; ended = s.ended }) c.close.result c.args.numbers.now c.args.word words.Close meaning.Close old new c.in-Close.is refl refl (λ a k. c.close.ensures a (close_next (reads_of s.reads) a k))

pub returns-in-Times : goal.returns-in-Times
returns-in-Times c = λ old new.
    let s = c.args.self.now in
    step_word {T = Unit {0}} {E = ℕ} s (record { reads = record { outer = s.reads.outer; now = s.reads.now; ready = false }; ended = s.ended }) (Ok tt) c.args.numbers.now c.args.word words.Times meaning.Times old new c.in-Times.is refl refl (times_next (reads_of s.reads))

pub returns-in-Define : goal.returns-in-Define
returns-in-Define c = λ old new g n.
    define_taken c.args.self.now c.end.new.self c.end.result old new g (sym (ap (λ w. next_word old (code_word c.args.numbers.now w)) c.in-Define.is) ∙ n) c.end.ensures

pub returns-in-Left : goal.returns-in-Left
returns-in-Left c = λ old new g n.
    left_taken c.args.self.now c.end-in-Left.new.self c.end-in-Left.result old new g (sym (ap (λ w. next_word old (code_word c.args.numbers.now w)) c.in-Left.is) ∙ n) c.end-in-Left.ensures

pub returns-in-Right : goal.returns-in-Right
returns-in-Right c = λ old new g n.
    right_taken c.args.self.now c.end-in-Right.new.self c.end-in-Right.result old new g (sym (ap (λ w. next_word old (code_word c.args.numbers.now w)) c.in-Right.is) ∙ n) c.end-in-Right.ensures
