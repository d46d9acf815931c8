-- Listed ports, looked up by their GUIDs.
use Rattle.std.specs.Prelude.{ℕ, ◌≡◌, List, Option, slice_get}
use Rattle.std.specs.Option.{option_and_then}
use Rattle.subnet_model.specs.Delivery.{port_with_guid}
use Rattle.subnet_model.specs.declared.subnet_port.SubnetPort.{SubnetPort}

-- the port at the place that a look-up gives
abbrev pub found_in : List SubnetPort → (ℕ → Option ℕ) → ℕ → Option SubnetPort
found_in ports place_of guid = option_and_then (λ place. slice_get ports place) (place_of guid)

-- it is the first of that GUID, and there is none if none is listed
abbrev pub Finds : List SubnetPort → (ℕ → Option ℕ) → Type 0
Finds ports place_of = (guid : ℕ) → found_in ports place_of guid ≡ port_with_guid ports guid
