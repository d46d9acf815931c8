-- The lines so far say nothing.
use Rattle.std.proofs.Common.{◌≡◌, ◌+◌, ◌-◌, ◌^◌, List, ℕ, length, Some}
use Rattle.std.specs.Io.KnownBytes.{Consumes, prepend_known}
use Rattle.std.specs.List.{All}
use Rattle.smp_lines.proofs.HeardLemmas.{ArePassed}
use Rattle.smp_lines.specs.LineWire.{said_in}
use Rattle.smp_lines.specs.declared.line_wire.Heard.TheVariants.{Nothing}
use Rattle.smp_lines.proofs.line_wire.hear.Given as goal

abbrev pub invariant-loop-lines : goal.invariant-loop-lines
invariant-loop-lines g l = record {
  read : List ℕ;
  passed : List (List ℕ);
  consumed : Consumes (prepend_known l.fn.waiting.items (g.R.Reader.remaining l.fn.reader)) (prepend_known l.waiting.items (g.R.Reader.remaining l.reader)) read;
  are : ArePassed read passed;
  nothing : All (λ line. said_in line ≡ Some Nothing) passed;
  counted : l.lines ≡ l.fn.lines + length passed;
}

abbrev pub decreases-loop-lines : goal.decreases-loop-lines
decreases-loop-lines g l = 2 ^ 64 - l.lines
