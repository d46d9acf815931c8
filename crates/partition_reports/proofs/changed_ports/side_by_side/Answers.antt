use Rattle.std.proofs.Common.{rules, tests, map-id}
use Rattle.std.proofs.lemmas.Iterator.{YieldsList-from_map_by, YieldsList-from_slice, YieldsList-from_zip}
use Rattle.std.proofs.lemmas.Iterator.Consumers.{map_from_collect, YieldsList-at}
use Rattle.partition_reports.specs.FoundChanges.{seen}
use Rattle.partition_reports.proofs.changed_ports.side_by_side.Goals as goal

pub returns : goal.returns
returns c =
    let made = map_from_collect _ c.collect.ensures.ran
    (YieldsList-from_map_by _ seen (λ pair. pair)
    (YieldsList-at c.map.ensures.source (YieldsList-from_zip
    (YieldsList-at c.zip.ensures.first (YieldsList-from_slice c.args.before.now c.iter.ensures.rest))
    (YieldsList-at c.zip.ensures.second (YieldsList-from_slice c.args.after.now c.iter-2.ensures.rest))))
    c.map.ensures.closure (λ x r q k. search (rules, tests))) in
    rw map-id at made
