use Rattle.table_push.proofs.LeadLemmas.{no_fault}
use Rattle.table_push.proofs.SettingLemmas.{returned}
use Rattle.table_push.proofs.ports.push_ports.Goals as goal

pub returns-in-Ok : goal.returns-in-Ok
returns-in-Ok g c x stands of good shows = returned tt _ x _ (c.in-Ok.ensures.left x stands of good shows).stands

pub returns-in-Err : goal.returns-in-Err
returns-in-Err g c x stands of good shows = absurd (no_fault c.in-Err.fault _ x _ (c.in-Err.ensures.left x stands of good shows))
