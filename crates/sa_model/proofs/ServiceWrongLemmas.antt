-- A limited member's service, by which a wrong rule shows to another limited member that it is there.
use Rattle.std.proofs.Common.{◌==◌, true, false, ◌≡◌, ap, refl}
use Rattle.std.specs.List.{list_any}
use Rattle.sa_model.specs.GroupExamples.{ports}
use Rattle.sa_model.specs.Services.{no_services}
use Rattle.sa_model.specs.ServiceWrongRules.{ServicesOfPartitionsReport}
use Rattle.sa_model.specs.ServiceExamples.{set_by, ids}

pub services_of_partitions_report : ServicesOfPartitionsReport
services_of_partitions_report law =
    let same : true ≡ false = ap (λ services. list_any (λ id. id == 1) (ids services)) (law ports 0x131 (no_services ports) (set_by 0x121 1) refl) in
    absurd (cc)
