use Rattle.std.proofs.Common.{◌≡◌, ◌++◌, take}
use Rattle.std.specs.List.{flat_map}
use Rattle.code_texts.specs.Texts.{line_of}
use Rattle.code_texts.proofs.lines.push_lines.Given as goal

-- the lines of the codes so far
abbrev pub invariant-loop-code : goal.invariant-loop-code
invariant-loop-code l = l.text.items ≡ l.fn.text.items ++ flat_map line_of (take l.code-index l.fn.codes)
