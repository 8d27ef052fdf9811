use Rattle.std.proofs.Common.{arith}
use Rattle.std.proofs.lemmas.Grind.{common_steps}
use Rattle.std.proofs.lemmas.List.{length-set, take-set-le}
use Rattle.lzk_aes.proofs.KeyWords.{key_words-more, key_of-is}
use Rattle.lzk_aes.proofs.schedule.key_schedule.Goals as goal

pub further-preserved : goal.further-preserved
further-preserved c = record {
  whole = omega (arith, length-set c.further.words c.further.i c.next_key_word-next.result);
  so_far = key_words-more c.args.key.now c.further.words c.further.i c.next_key_word-next.result
      (omega arith) c.further.invariant.so_far (c.next_key_word-next.ensures c.args.key.now);
  begins = rw (take-set-le 8 c.further.words c.further.i c.next_key_word-next.result (omega arith)) c.further.invariant.begins;
  at_hand = grind (arith, common_steps);
}

pub returns-clause-key : goal.returns-clause-key
returns-clause-key c = key_of-is c.args.key.now c.further.words (omega arith) c.further.invariant.begins
