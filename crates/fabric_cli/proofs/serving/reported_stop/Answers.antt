use Rattle.std.proofs.Common.{inr}
use Rattle.fabric_cli.proofs.serving.reported_stop.Goals as goal

pub returns-clause-part : goal.returns-clause-part
returns-clause-part g c =
    let line = c.as_bytes.ensures.value in
    let written = c.write_whole-in-Err.ensures in
    inr (record {
      part = rw line at written.part;
      whole = λ sure. rw line at written.whole (written.sure sure);
    })
