use Rattle.std.proofs.Common.{◌≡◌}
use Rattle.std.specs.List.{list_any}
use Rattle.text_words.specs.Lines.{lines}
use Rattle.netdiscover_file.specs.Discovery.{heads_node}
use Rattle.netdiscover_file.proofs.reader.is_discovery.Given as goal

abbrev pub invariant-loop-line : goal.invariant-loop-line
invariant-loop-line l = list_any heads_node l.line-iterator ≡ list_any heads_node (lines l.text)
