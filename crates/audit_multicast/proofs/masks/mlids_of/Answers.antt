use Rattle.std.proofs.Common.{List, Bool, ◌∙◌, ap}
use Rattle.std.specs.List.{range_with_len}
use Rattle.topo_file.specs.Rounds.{is_marked}
use Rattle.audit_plan.proofs.PlaceLemmas.{filter_alike}
use Rattle.audit_multicast.specs.Masks.{is_used, mlids_of}
use Rattle.audit_multicast.proofs.masks.mlids_of.Goals as goal

pub returns : goal.returns
unfolding mlids_of
returns c =
    c.in_ok-mlids.ensures
    ∙ filter_alike (is_marked c.deref.result.now) (is_used c.args.tables.now)
    (λ k. ap (λ (marks : List Bool). is_marked marks k) c.deref.ensures.value ∙ c.in_ok-marks.ensures k) (range_with_len 49152 16383)
