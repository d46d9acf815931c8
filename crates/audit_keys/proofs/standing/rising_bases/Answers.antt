use Rattle.std.proofs.Common.{◌∙◌, ap, ◌==◌}
use Rattle.std.specs.List.{list_any}
use Rattle.audit_keys.specs.Standing.{HaveBasesOf}
use Rattle.audit_keys.proofs.standing.rising_bases.Goals as goal

pub returns : goal.returns
unfolding HaveBasesOf
returns c = record {
  rising = c.rising.ensures.order;
  same = λ base. c.rising.ensures.same base ∙ ap (list_any (λ one. one == base)) c.in_ok-bases.ensures;
}
