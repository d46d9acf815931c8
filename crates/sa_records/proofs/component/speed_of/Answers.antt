use Rattle.std.proofs.Common.{ℕ, Some, ap, ◌∙◌}
use Rattle.sa_records.proofs.SpeedLemmas.{speed_found, speed_missing}
use Rattle.sa_records.proofs.component.speed_of.Goals as goal

pub returns-in-Some : goal.returns-in-Some
returns-in-Some c = ap (λ (n : ℕ). Some n) c.speed.ensures ∙ speed_found c.in-Some.rate c.args.code c.in-Some.ensures.known

pub returns-in-None : goal.returns-in-None
returns-in-None c = speed_missing c.args.code (λ rate e. let none = c.in-None.ensures.every rate e in absurd cc)
