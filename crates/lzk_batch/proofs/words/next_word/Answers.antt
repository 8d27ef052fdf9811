use Rattle.std.proofs.Common.{◌≡◌, Some, position, ap, sym, ◌∙◌}
use Rattle.std.specs.List.{prefix_len}
use Rattle.lzk_expr.specs.Texts.{is_plain}
use Rattle.lzk_expr.proofs.Runs.{run_at, no_run}
use Rattle.lzk_batch.proofs.WordPlaces.{word_start, word_end}
use Rattle.lzk_batch.proofs.words.next_word.Goals as goal

pub split_at-requires : goal.split_at-requires
split_at-requires c =
    let at : position is_plain c.args.text.now ≡ Some c.in-Some.start = ap (position is_plain) (sym c.as_bytes.ensures.value) ∙ (sym c.word_at.ensures ∙ c.in-Some.is) in
    word_start c.args.text.now c.in-Some.start c.utf8.text at

pub split_at-requires-in-Some : goal.split_at-requires-in-Some
split_at-requires-in-Some c =
    let same = c.as_bytes-in-Some.ensures.value in
    word_end c.split_at.result.1.now c.word_len-len.result (c.word_len-len.ensures.len ∙ ap (prefix_len is_plain) same) (rw same at c.word_len-len.ensures.within)

pub returns-in-None : goal.returns-in-None
returns-in-None c = no_run is_plain c.args.text.now (ap (position is_plain) (sym c.as_bytes.ensures.value) ∙ (sym c.word_at.ensures ∙ c.in-None.is))

pub returns-in-Some : goal.returns-in-Some
returns-in-Some c =
    let at : position is_plain c.args.text.now ≡ Some c.in-Some.start = ap (position is_plain) (sym c.as_bytes.ensures.value) ∙ (sym c.word_at.ensures ∙ c.in-Some.is) in
    let word = c.split_at.ensures.back in
    let len = c.word_len-len.ensures.len ∙ ap (prefix_len is_plain) (c.as_bytes-in-Some.ensures.value ∙ word) in
    rw (c.split_at-in-Some.ensures.front, c.split_at-in-Some.ensures.back, word) (run_at is_plain c.args.text.now c.in-Some.start c.word_len-len.result at len)
