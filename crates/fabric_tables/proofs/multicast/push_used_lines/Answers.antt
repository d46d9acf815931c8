use Rattle.std.proofs.Common.{◌+◌, ◌-◌, [], if◌then◌else◌, arith}
use Rattle.fabric_parts.specs.declared.lid.TheConstants.{FIRST_MULTICAST_LID}
use Rattle.text_words.proofs.RowLemmas.{text_of_one_more}
use Rattle.fabric_tables.specs.Multicast.{is_used, mlid_line}
use Rattle.fabric_tables.proofs.UsedLemmas.{all_used}
use Rattle.fabric_tables.proofs.multicast.push_used_lines.Goals as goal

pub loop-mlid-preserved : goal.loop-mlid-preserved
loop-mlid-preserved c =
    let mlid = c.loop-mlid.mlid in
    let first = c.loop-mlid.invariant.0 in (
      omega (arith, first),
      text_of_one_more FIRST_MULTICAST_LID (λ mlid. if is_used c.args.held.now mlid then mlid_line c.args.held.now mlid else [])
          c.args.text.now.items c.loop-mlid.text.items c.push_used_line.new.text.items (mlid - FIRST_MULTICAST_LID)
          (mlid + 1 - FIRST_MULTICAST_LID) mlid (omega (arith, first)) (omega (arith, first))
          c.loop-mlid.invariant.1 c.in_ok-push_used_line.ensures,
    )

pub returns : goal.returns
returns c =
    let first = c.loop-mlid.invariant.0 in
    let end = c.loop-mlid.auto.mlid-end in
    let ended = c.loop-mlid-test.false in
    all_used c.args.held.now c.args.text.now.items c.loop-mlid.text.items (c.loop-mlid.mlid - FIRST_MULTICAST_LID)
    (let last = end (omega arith) in omega (arith, first, last, ended)) c.loop-mlid.invariant.1
