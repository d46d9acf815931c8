use Rattle.std.proofs.Common.{◌∙◌, ap, List}
use Rattle.dump_file.specs.declared.table.Table.{Table}
use Rattle.dump_file.specs.Row.{end_of}
use Rattle.dump_file.specs.Table.{rows_of}
use Rattle.dump_file.proofs.LatestLemmas.{latest_sound}
use Rattle.dump_file.proofs.dump.Dump.latest.Goals as goal

pub invariant_of-result : goal.invariant_of-result
invariant_of-result c = (
  rw c.in_ok-tables.ensures (latest_sound c.args.tables.items c.requires.rising c.requires.one_end),
  λ lid. c.in_ok-ends.ensures lid ∙ ap (λ (tables : List Table). end_of lid (rows_of tables)) c.as_slice.ensures,
)
