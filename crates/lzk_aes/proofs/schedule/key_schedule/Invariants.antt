use Rattle.std.proofs.Common.{◌≡◌, ◌-◌, take, map, length}
use Rattle.std.specs.Prelude.{slice_index}
use Rattle.lzk_aes.specs.Aes.{key_words}
use Rattle.lzk_aes.specs.Words.{word_bytes}
use Rattle.lzk_aes.proofs.schedule.key_schedule.Given as goal

abbrev pub invariant-first : goal.invariant-first
invariant-first l = record {
  whole : length l.words ≡ 60;
  so_far : map word_bytes (take l.i l.words) ≡ key_words l.key l.i;
}

abbrev pub invariant-further : goal.invariant-further
invariant-further l = record {
  whole : length l.words ≡ 60;
  so_far : map word_bytes (take l.i l.words) ≡ key_words l.key l.i;
  begins : map word_bytes (take 8 l.words) ≡ key_words l.key 8;
  at_hand : l.before ≡ slice_index l.words (l.i - 1);
}
