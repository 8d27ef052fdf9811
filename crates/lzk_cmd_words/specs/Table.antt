-- The table of commands: what stands behind each command's word.
use Rattle.std.specs.Prelude.{ℕ, Bool, true, not, List, Option, Some, None, cond, codes}
use Rattle.std.specs.Str.{bytes_eq}
use Rattle.lzk_cmd_words.specs.declared.table.Verb.{Verb}
use Rattle.lzk_cmd_words.specs.declared.table.Verb.TheVariants.{Eval, Compile, Upgrade, Show, Prove, Verify, Batch, Demo, ShaCircuit, Sha256}
use Rattle.lzk_cmd_words.specs.declared.table.First.TheVariants.{File, Inputs, Bytes}
use Rattle.lzk_cmd_words.specs.declared.table.Key.{Key}
use Rattle.lzk_cmd_words.specs.declared.table.Key.TheVariants.{Forbidden, Optional, Required}
use Rattle.lzk_cmd_words.specs.declared.table.Row.{Row}

abbrev pub verb_of : List ℕ → Option Verb
verb_of word =
    cond (bytes_eq word (codes "eval")) (Some Eval)
    (cond (bytes_eq word (codes "compile")) (Some Compile)
    (cond (bytes_eq word (codes "upgrade")) (Some Upgrade)
    (cond (bytes_eq word (codes "show")) (Some Show)
    (cond (bytes_eq word (codes "prove")) (Some Prove)
    (cond (bytes_eq word (codes "verify")) (Some Verify)
    (cond (bytes_eq word (codes "batch")) (Some Batch)
    (cond (bytes_eq word (codes "demo")) (Some Demo)
    (cond (bytes_eq word (codes "shacircuit")) (Some ShaCircuit)
    (cond (bytes_eq word (codes "sha256")) (Some Sha256) None)))))))))

-- so many names of files, and no keys
abbrev pub plain : ℕ → Row
plain count = record {
  names = count;
  first = File;
  seed = Forbidden;
  session = Forbidden;
  workers = Forbidden;
  message = Forbidden;
  version = Forbidden;
}

abbrev pub row_of : Verb → Row
row_of Eval = plain 3
row_of Compile = record (plain 2) { version = Optional }
row_of Upgrade = plain 2
row_of Show = plain 1
row_of Prove = record (plain 4) { seed = Required; session = Optional; workers = Optional }
row_of Verify = record (plain 3) { session = Optional }
row_of Batch = record (plain 1) { workers = Optional }
row_of Demo = record (plain 1) { first = Inputs; seed = Required; workers = Optional }
row_of ShaCircuit = record (plain 2) { first = Bytes }
row_of Sha256 = record (plain 2) { seed = Required; session = Optional; workers = Optional; message = Required }

abbrev pub may_stand : Key → Bool → Bool
may_stand Forbidden there = not there
may_stand Optional there = true
may_stand Required there = there
