use Rattle.std.proofs.Common.{◌≤◌}
use Rattle.pkey_rules.specs.declared.key_table.TheConstants.{PARTITIONS}
use Rattle.partition_file.specs.Counting.{bases_given, partition_count}
use Rattle.std.proofs.Common.{◌++◌, ◌∷◌, []}
use Rattle.partition_file.proofs.CountLemmas.{counted_more}
use Rattle.partition_file.proofs.definition.DefinitionList.push.Goals as goal

pub invariant_of-self-2 : goal.invariant_of-self-2
invariant_of-self-2 c =
    let inside = c.self.inside in
    let room : partition_count (bases_given inside.definitions.items ++ c.args.definition.base ∷ []) ≤ PARTITIONS = rw c.self.view_is c.requires.room in
    rw (c.in_ok-push.ensures.items, c.reserve.ensures.items, c.in_ok-note_base.ensures.ok, c.one_if_none.ensures.value)
    (counted_more inside.definitions.items c.args.definition inside.bases.items inside.unnamed c.self.invariant c.requires.valid c.requires.flags room)
