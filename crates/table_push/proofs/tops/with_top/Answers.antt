use Rattle.std.proofs.Common.{◌∙◌, ap}
use Rattle.attr_tables.specs.SwitchInfo.{switch_info}
use Rattle.attr_tables.specs.declared.switch_info.SwitchInfo.{SwitchInfo}
use Rattle.mad_layout.specs.Layout.{put_all}
use Rattle.table_push.specs.Ports.{with_top}
use Rattle.table_push.proofs.TopLemmas.{info_is}
use Rattle.table_push.proofs.tops.with_top.Goals as goal

pub returns : goal.returns
returns c info holds =
    c.put_over.ensures.fields
    ∙ ap (λ (one : SwitchInfo). put_all c.args.bytes.now (switch_info (with_top c.args.lid one)))
    (info_is c.args.bytes.now c.read.result info c.read.ensures.fields holds)
