-- Words in memory as a command's word, its names and its keys.
use Rattle.std.specs.Prelude.{map, string_bytes}
use Rattle.std.specs.Option.{option_copied}
use Rattle.lzk_cmd_words.specs.declared.keys.Keys.{Keys}
use Rattle.lzk_cmd_words.specs.declared.grammar.Request.{Request}
use Rattle.lzk_cmd_words.specs.Keys as words
use Rattle.lzk_cmd_words.specs.Grammar as grammar

abbrev pub keys_view : Keys → words.Keys
keys_view keys = record {
  seed = option_copied keys.seed;
  session = option_copied keys.session;
  workers = option_copied keys.workers;
  message = option_copied keys.message;
  version = option_copied keys.version;
}

abbrev pub request_view : Request → grammar.Request
request_view request = record {
  verb = request.verb;
  names = map (λ w. string_bytes w) request.names.now;
  keys = keys_view request.keys;
}
