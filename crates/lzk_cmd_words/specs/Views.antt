-- A command in memory as its words.
use Rattle.std.specs.Option.{option_copied}
use Rattle.lzk_cmd_words.specs.declared.words.Command.{Command}
use Rattle.lzk_cmd_words.specs.declared.words.Command.TheVariants as codes
use Rattle.lzk_cmd_words.specs.Words as words

abbrev pub command_view : Command → words.Command
command_view (codes.Eval circuit public private) = words.Eval circuit.now public.now private.now
command_view (codes.Compile source circuit version) = words.Compile source.now circuit.now version
command_view (codes.Upgrade old new) = words.Upgrade old.now new.now
command_view (codes.Show circuit) = words.Show circuit.now
command_view (codes.Prove order) =
    words.Prove order.circuit.now order.public.now order.private.now order.proof.now order.seed.now
    (option_copied order.session)
command_view (codes.Verify circuit public proof session) =
    words.Verify circuit.now public.now proof.now (option_copied session)
command_view (codes.Batch list workers) = words.Batch list.now
command_view (codes.Demo count seed workers) = words.Demo count.now seed.now
command_view (codes.ShaCircuit count circuit) = words.ShaCircuit count.now circuit.now
command_view (codes.Sha256 order) =
    words.Sha256 order.circuit.now order.proof.now order.message.now order.seed.now (option_copied order.session)
