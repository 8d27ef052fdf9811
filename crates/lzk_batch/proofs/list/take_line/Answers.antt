use Rattle.std.proofs.Common.{◌≡◌, map, Some, ap, sym, ◌∙◌, arith, Ok, ◌++◌, ◌∷◌, []}
use Rattle.std.specs.Option.{option_map}
use Rattle.std.proofs.lemmas.List.{length-map, map_push}
use Rattle.lzk_batch.specs.Lists.{entry_view, line_entry}
use Rattle.lzk_batch.proofs.Listing.{skips, full, takes, no_session}
use Rattle.lzk_batch.proofs.list.take_line.Goals as goal

pub returns-then-is_skipped : goal.returns-then-is_skipped
returns-then-is_skipped c = skips c.args.line c.args.bytes.now (map entry_view c.args.entries.now.items) (sym c.is_skipped.ensures ∙ c.if-is_skipped.true)

pub returns-then-len-ge-MOST_ENTRIES : goal.returns-then-len-ge-MOST_ENTRIES
returns-then-len-ge-MOST_ENTRIES c = full c.args.line c.args.bytes.now (map entry_view c.args.entries.now.items) (sym c.is_skipped.ensures ∙ c.if-is_skipped.false) (omega (arith, c.if-len-ge-MOST_ENTRIES.true, c.len.ensures, c.args.entries.now.ok.0, length-map c.args.entries.now.items entry_view))

pub returns-in_default : goal.returns-in_default
returns-in_default c = tt

pub returns-in_default-push : goal.returns-in_default-push
returns-in_default-push c = tt

pub returns-in_default-read : goal.returns-in_default-read
returns-in_default-read c = takes c.args.line c.args.bytes.now (map entry_view c.args.entries.now.items) (sym c.is_skipped.ensures ∙ c.if-is_skipped.false) (omega (arith, c.if-len-ge-MOST_ENTRIES.false, c.len.ensures, c.args.entries.now.ok.0, length-map c.args.entries.now.items entry_view)) _ (no_session entry_view c.in-Ok.read (line_entry c.args.bytes.now) c.in-Ok.ensures c.in_default-read.not-Some)

pub returns : goal.returns
returns c =
    let some : line_entry c.args.bytes.now ≡ Some (entry_view c.in-Some.entry) = sym c.in-Ok.ensures ∙ ap (option_map entry_view) c.in-Some.is in
    let more : map entry_view c.push.new.self.items ≡ map entry_view c.args.entries.now.items ++ entry_view c.in-Some.entry ∷ [] = ap (map entry_view) c.in-Ok-push.ensures.items ∙ map_push entry_view c.args.entries.now.items c.in-Some.entry in
    takes c.args.line c.args.bytes.now (map entry_view c.args.entries.now.items) (sym c.is_skipped.ensures ∙ c.if-is_skipped.false) (omega (arith, c.if-len-ge-MOST_ENTRIES.false, c.len.ensures, c.args.entries.now.ok.0, length-map c.args.entries.now.items entry_view)) (Some (entry_view c.in-Some.entry)) some ∙ ap Ok (sym more)
