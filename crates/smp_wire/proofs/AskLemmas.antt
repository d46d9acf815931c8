-- Gets and Sets over a wire.
use Rattle.std.proofs.Common.{ℕ, ◌≡◌, ◌∙◌, ap, refl, sym, List, Option, Some, Result, Ok}
use Rattle.std.specs.Option.{ForSome}
use Rattle.std.specs.Result.{IsOk}
use Rattle.attr_tables.specs.declared.smp_attribute.SmpAttribute.{SmpAttribute}
use Rattle.smp_wire.specs.declared.reply.ReplyFault.{ReplyFault}
use Rattle.smp_wire.specs.FabricState.{FabricState}
use Rattle.smp_wire.specs.Get.{gives_along}
use Rattle.smp_wire.specs.Good.{IsGood}
use Rattle.smp_wire.specs.Replies.{reported_for, reported_of}
use Rattle.smp_wire.specs.Requests.{AsksToGet, AsksToSet}
use Rattle.smp_wire.specs.Set.{set_along, set_gives_along, takes_along}
use Rattle.smp_wire.specs.Shape.{IsSameShape}
use Rattle.smp_wire.specs.Walk.{exchange_after}
use Rattle.smp_wire.proofs.KeptLemmas.{good, shape}
use Rattle.smp_wire.proofs.SetLemmas.{sets_report}
use Rattle.smp_wire.proofs.ReportLemmas.{gets_report}

pub get_reported : (stood : Option FabricState) (attribute : SmpAttribute) (modifier : ℕ) (path smp : List ℕ) (reported : Result (List ℕ) ReplyFault)
    → AsksToGet attribute modifier path smp → ForSome stood (λ fabric. reported ≡ reported_of fabric smp)
    → ForSome stood (λ fabric. IsGood fabric → reported ≡ reported_for (gives_along fabric path attribute modifier))
get_reported stood attribute modifier path smp reported asks is fabric stands is_good =
    is fabric stands ∙ (gets_report fabric attribute modifier path smp is_good asks).reported

pub get_left : (stood next : Option FabricState) (attribute : SmpAttribute) (modifier : ℕ) (path smp : List ℕ)
    → AsksToGet attribute modifier path smp → ForSome stood (λ fabric. next ≡ Some (exchange_after fabric smp))
    → ForSome stood (λ fabric. IsGood fabric → next ≡ Some fabric)
get_left stood next attribute modifier path smp asks change fabric stands is_good =
    change fabric stands ∙ ap (λ (one : FabricState). Some one) (gets_report fabric attribute modifier path smp is_good asks).unchanged

pub set_reported : (stood : Option FabricState) (attribute : SmpAttribute) (modifier : ℕ) (path wanted smp : List ℕ) (reported : Result (List ℕ) ReplyFault)
    → AsksToSet attribute modifier path wanted smp → ForSome stood (λ fabric. reported ≡ reported_of fabric smp)
    → ForSome stood (λ fabric. IsGood fabric → reported ≡ reported_for (set_gives_along fabric path attribute modifier wanted))
set_reported stood attribute modifier path wanted smp reported asks is fabric stands is_good =
    is fabric stands ∙ (sets_report fabric attribute modifier path wanted smp is_good asks).reported

pub set_left : (stood next : Option FabricState) (attribute : SmpAttribute) (modifier : ℕ) (path wanted smp : List ℕ)
    → AsksToSet attribute modifier path wanted smp → ForSome stood (λ fabric. next ≡ Some (exchange_after fabric smp))
    → ForSome stood (λ fabric. IsGood fabric → next ≡ Some (set_along fabric path attribute modifier wanted))
set_left stood next attribute modifier path wanted smp asks change fabric stands is_good =
    change fabric stands ∙ ap (λ (one : FabricState). Some one) (sets_report fabric attribute modifier path wanted smp is_good asks).after

pub set_shown : (stood : Option FabricState) (attribute : SmpAttribute) (modifier : ℕ) (path wanted smp : List ℕ) (reported : Result (List ℕ) ReplyFault)
    → AsksToSet attribute modifier path wanted smp → ForSome stood (λ fabric. reported ≡ reported_of fabric smp)
    → ForSome stood (λ fabric. (next : FabricState) → IsGood fabric → takes_along fabric path attribute modifier wanted ≡ Some (Ok next) → IsOk reported)
set_shown stood attribute modifier path wanted smp reported asks is fabric stands next is_good taken =
    rw (is fabric stands, ((sets_report fabric attribute modifier path wanted smp is_good asks).shown next taken).1) refl

pub set_good : (attribute : SmpAttribute) (modifier : ℕ) (path wanted smp : List ℕ) → AsksToSet attribute modifier path wanted smp
    → (fabric : FabricState) → IsGood fabric → IsGood (set_along fabric path attribute modifier wanted)
set_good attribute modifier path wanted smp asks fabric is_good =
    rw (sym (sets_report fabric attribute modifier path wanted smp is_good asks).after) (good fabric smp is_good)

pub set_shape : (attribute : SmpAttribute) (modifier : ℕ) (path wanted smp : List ℕ) → AsksToSet attribute modifier path wanted smp
    → (fabric : FabricState) → IsGood fabric → IsSameShape fabric (set_along fabric path attribute modifier wanted)
set_shape attribute modifier path wanted smp asks fabric is_good =
    rw (sym (sets_report fabric attribute modifier path wanted smp is_good asks).after) (shape fabric smp)
