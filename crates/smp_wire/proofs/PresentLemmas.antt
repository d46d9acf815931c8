-- What is so of all cables of a good fabric is so of those that are not cut.
use Rattle.std.proofs.Common.{◌≡◌, true, sym, ◌∙◌, subst, List, flat_map}
use Rattle.std.specs.List.{IsDistinct, list_all}
use Rattle.std.proofs.lemmas.Bool.{and_parts}
use Rattle.std.proofs.lemmas.Grind.{flat_map-append}
use Rattle.std.proofs.lemmas.List.Folds.{list_all-append}
use Rattle.fabric_parts.specs.declared.cable.PortRef.{PortRef}
use Rattle.fabric_parts.specs.Cable.{is_same_port}
use Rattle.step_results.proofs.DistinctLemmas.{left_part}
use Rattle.smp_wire.specs.FabricState.{FabricState}
use Rattle.smp_wire.specs.Good.{IsGood, ends_of, is_right}

pub present_right : {fabric : FabricState} → IsGood fabric → list_all (is_right fabric.nodes) fabric.cables ≡ true
present_right {fabric} good =
    (and_parts (list_all (is_right fabric.nodes) fabric.cables) _
    (sym (list_all-append (is_right fabric.nodes) fabric.cables fabric.cut) ∙ good.cables)).0

pub present_once : {fabric : FabricState} → IsGood fabric → IsDistinct is_same_port (flat_map ends_of fabric.cables)
present_once {fabric} good =
    left_part is_same_port (flat_map ends_of fabric.cables) (flat_map ends_of fabric.cut)
    (subst (λ (ends : List PortRef). IsDistinct is_same_port ends) (flat_map-append ends_of fabric.cables fabric.cut) good.once)
