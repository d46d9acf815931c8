use Rattle.std.proofs.Common.{◌+◌, ◌*◌, ◌∙◌, subst}
use Rattle.attr_tables.specs.Blocks.{block_of}
use Rattle.attr_tables.specs.declared.smp_attribute.SmpAttribute.TheVariants.{PKeyTable}
use Rattle.pkey_rules.specs.declared.key_table.TheConstants.{PARTITIONS}
use Rattle.table_push.proofs.KeyLemmas.{block_given, block_is, block_leaves, block_low, block_stands, table_of}
use Rattle.table_push.proofs.LeadLemmas.{SetsAt}
use Rattle.table_push.proofs.keys.put_block.Goals as goal

pub returns-in-Ok-true-clause-left : goal.returns-in-Ok-true-clause-left
returns-in-Ok-true-clause-left g c x stands guid number good leads =
    let table = c.args.table.now in
    let below = block_low c.args.block table c.told-table c.requires.block in
    block_stands x _ c.args.path.now c.args.asked guid number c.args.block (block_of 32 c.args.block table) below
    (block_is c.args.block table below (table_of PARTITIONS table c.told-table c.fits-table))
    (c.is_there.ensures.left x stands good) good leads
    (λ given is. c.in-Ok-true.ensures.reported x stands given good is c.in-Ok-true.field-0-test ∙ c.block_at-wanted.ensures)

pub returns-in-Ok-false-clause-left : goal.returns-in-Ok-false-clause-left
returns-in-Ok-false-clause-left g c x stands guid number good leads =
    let table = c.args.table.now in
    let below = block_low c.args.block table c.told-table c.requires.block in
    block_leaves x _ _ _ c.args.path.now c.args.asked guid number c.args.block (block_of 32 c.args.block table) below
    (block_is c.args.block table below (table_of PARTITIONS table c.told-table c.fits-table))
    (c.is_there.ensures.left x stands good) good leads
    (subst (SetsAt _ _ _ c.args.path.now PKeyTable (c.args.asked * 65536 + c.args.block)) c.block_at-wanted.ensures c.set.ensures.left)

pub returns-in-Err-clause-left : goal.returns-in-Err-clause-left
returns-in-Err-clause-left g c x stands guid number good leads =
    let below = block_low c.args.block c.args.table.now c.told-table c.requires.block in
    let given = block_given x c.args.path.now c.args.asked guid number c.args.block below good leads in
    absurd (c.in-Err.ensures.reported x stands given.0 good given.1)
