use Rattle.std.proofs.Common.{ℕ, ◌∙◌, ap, sym, Option}
use Rattle.table_push.specs.MaskSteps.{is_that_port}
use Rattle.table_push.proofs.ReachLemmas.{port_bit}
use Rattle.table_push.proofs.attachments.place_bit.Goals as goal

pub returns-then-number-lt-SWITCHES : goal.returns-then-number-lt-SWITCHES
returns-then-number-lt-SWITCHES c s low =
    port_bit c.in-Some.number s c.if-number-lt-SWITCHES.true ∙ ap (λ (o : Option ℕ). is_that_port o s) (sym c.in-Some.is)
