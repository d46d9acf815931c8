use Rattle.std.proofs.Common.{◌∙◌, sym}
use Rattle.subnet_core.specs.Listing.{partition_text}
use Rattle.subnet_core.proofs.ListingLemmas.{all_placed, one_more_placed}
use Rattle.subnet_core.proofs.listing.push_partitions.Goals as goal

pub loop-number-preserved : goal.loop-number-preserved
loop-number-preserved c =
    rw (c.in_ok-push_partition.ensures, c.loop-number.invariant) (one_more_placed (partition_text c.args.ports.now) c.args.headings.now c.loop-number.number c.index-headings-number.result c.args.text.now.items c.loop-number-test.true (sym c.index-headings-number.is))

pub returns : goal.returns
returns c =
    c.loop-number.invariant ∙ all_placed (partition_text c.args.ports.now) c.args.headings.now c.loop-number.number c.args.text.now.items c.loop-number-test.false
