use Rattle.std.proofs.Common.{◌≡◌, ◌++◌, ◌∷◌, take, map}
use Rattle.std.specs.List.{flat_map}
use Rattle.partition_file.proofs.piece.push_words.Given as goal

abbrev pub invariant-loop-word : goal.invariant-loop-word
invariant-loop-word l = l.piece.items ≡ l.fn.piece.items ++ flat_map (λ word. 32 ∷ word) (take l.word-index (map (λ word. word.now) l.words))
