-- What stops a fabric keeps it from coming up.
use Rattle.std.proofs.Common.{◌≡◌, ℕ, ◌+◌, ◌<◌, Bool, List, [], ◌∷◌, ◌++◌, ◌∙◌, get_or, length, take, sym}
use Rattle.std.specs.Bool.{Decides}
use Rattle.std.specs.List.{AllZip}
use Rattle.std.proofs.lemmas.Bool.{false≢true}
use Rattle.std.proofs.lemmas.List.{take_more}
use Rattle.fabric_parts.specs.declared.cable.Cable.{Cable}
use Rattle.subnet_fabric.specs.Standing.{CanComeUp}
use Rattle.topo_file.specs.Topology.{TopologyState}
use Rattle.cable_cuts.proofs.ConnectedLemmas.{is_connected_then}
use Rattle.cable_cuts.specs.Fate.{IsStop}
use Rattle.cable_cuts.specs.Needed.{AreNeeded, IsNeeded}
use Rattle.cable_cuts.specs.declared.fate.Stop.{Stop}
use Rattle.cable_cuts.specs.declared.fate.Stop.TheVariants.{Apart, TooFar, NoLegalPath}

pub never_up : (plan : TopologyState) (stop : Stop) → IsStop plan stop → CanComeUp plan → ⊥
never_up plan Apart apart can = false≢true (sym apart ∙ is_connected_then plan can.joined)
never_up plan TooFar far can = can.near far.1
never_up plan (NoLegalPath switch port) none can = can.reached switch port none

pub zip_more : {X Y : Type 0} (R : X → Y → Type 0) (xs : List X) (ys : List Y) (x : X) (y : Y) → AllZip R xs ys → R x y → AllZip R (xs ++ x ∷ []) (ys ++ y ∷ [])
zip_more R [] [] x y all one = (one, tt)
zip_more R [] (z ∷ ys) x y all one = absurd all
zip_more R (z ∷ xs) [] x y all one = absurd all
zip_more R (z ∷ xs) (w ∷ ys) x y all one = (all.0, zip_more R xs ys x y all.1 one)

pub one_more : (plan : TopologyState) (cables : List Cable) (i : ℕ) (none : Cable) (old new : List Bool) (needed : Bool) → i < length cables
    → AreNeeded plan (take i cables) old → Decides needed (IsNeeded plan (get_or cables i none)) → new ≡ old ++ needed ∷ []
    → AreNeeded plan (take (i + 1) cables) new
one_more plan cables i none old new needed within all one is =
    rw (take_more cables i none within, is)
    (zip_more (λ (cable : Cable) (needed : Bool). Decides needed (IsNeeded plan cable)) (take i cables) old (get_or cables i none) needed all one)
