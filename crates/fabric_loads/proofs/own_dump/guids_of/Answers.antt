use Rattle.std.proofs.Common.{◌∙◌, ◌+◌, ◌++◌, ap, ℕ, List}
use Rattle.std.specs.Option.{option_to_list}
use Rattle.lid_assign.specs.Lids.{guid_in}
use Rattle.fabric_loads.proofs.RowLemmas.{guid_more}
use Rattle.fabric_loads.proofs.own_dump.guids_of.Goals as goal

pub loop-before-preserved : goal.loop-before-preserved
loop-before-preserved c =
    c.in_ok-push_guid.ensures
    ∙ ap (λ (guids : List ℕ). guids ++ option_to_list (guid_in c.args.lids.now (c.loop-before.before + 1))) c.loop-before.invariant
    ∙ guid_more c.args.lids.now c.loop-before.before
