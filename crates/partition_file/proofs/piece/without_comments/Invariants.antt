use Rattle.std.proofs.Common.{◌≡◌, ◌++◌, drop, false}
use Rattle.partition_file.specs.Pieces.{without_comments}
use Rattle.partition_file.proofs.piece.without_comments.Given as goal

abbrev pub invariant-loop-byte : goal.invariant-loop-byte
invariant-loop-byte l = l.shown.items ++ without_comments l.inside (drop l.byte-index l.text) ≡ without_comments false l.text
