-- A look-up of ports by their GUIDs, made from the last port to the first.
use Rattle.std.proofs.Common.{◌≡◌, ℕ, ◌+◌, ◌<◌, ◌==◌, ◌∙◌, Bool, true, false, cond, ap, refl, sym, List, ◌∷◌, drop, get_or, length, slice_get, Option, Some}
use Rattle.std.specs.Option.{option_and_then}
use Rattle.std.proofs.lemmas.List.{drop_more}
use Rattle.std.proofs.lemmas.Option.{slice_get-get_or}
use Rattle.subnet_model.specs.Delivery.{port_with_guid}
use Rattle.subnet_model.specs.declared.subnet_port.SubnetPort.{SubnetPort}
use Rattle.subnet_core.specs.Lookup.{found_in}

-- with one port more, before those that it has
pub found_more : (ports : List SubnetPort) (place : ℕ) (old new : ℕ → Option ℕ) (d : SubnetPort) (guid : ℕ) → place < length ports
    → found_in ports old guid ≡ port_with_guid (drop (place + 1) ports) guid
    → new guid ≡ cond ((get_or ports place d).guid == guid) (Some place) (old guid)
    → found_in ports new guid ≡ port_with_guid (drop place ports) guid
found_more ports place old new d guid within was writes =
    ap (option_and_then (slice_get ports)) writes
    ∙ by ((get_or ports place d).guid == guid) refl
    ∙ ap (λ (some : List SubnetPort). port_with_guid some guid) (sym (drop_more ports place d within))
  where
    by : (b : Bool) → ((get_or ports place d).guid == guid) ≡ b
        → option_and_then (slice_get ports) (cond b (Some place) (old guid)) ≡ port_with_guid (get_or ports place d ∷ drop (place + 1) ports) guid
    by true is = rw is (slice_get-get_or ports place d within)
    by false is = rw is was
