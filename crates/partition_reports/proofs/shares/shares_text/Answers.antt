use Rattle.std.proofs.Common.{◌∙◌}
use Rattle.partition_reports.specs.FoundShares.{found_text}
use Rattle.partition_reports.proofs.ShareLemmas.{all_alike, text_ends, text_more}
use Rattle.partition_reports.proofs.shares.shares_text.Goals as goal

pub loop-port-preserved : goal.loop-port-preserved
loop-port-preserved c =
    text_more c.args.asked c.loop-port.text.items c.push_others.new.text.items (found_text c.args.asked c.args.ports.now) c.loop-port.rest.now c.in-Some.others.now c.in-Some.port.now
    c.in-Some.ensures.cases.0 c.in_ok-push_others.ensures c.loop-port.invariant

pub returns : goal.returns
returns c =
    text_ends c.args.asked c.loop-port.text.items (found_text c.args.asked c.args.ports.now) c.loop-port.rest.now c.in_default.ensures.cases c.loop-port.invariant
    ∙ all_alike c.args.asked c.args.ports.now
