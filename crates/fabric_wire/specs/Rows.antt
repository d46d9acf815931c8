-- How a fabric keeps the far ends of its ports: a row for each node, and in it a place for each port.
use Rattle.std.specs.Prelude.{ℕ, List, slice_get, Option}
use Rattle.std.specs.Option.{option_and_then}
use Rattle.fabric_parts.specs.declared.cable.PortRef.{PortRef}

abbrev pub far_in_row : List (Option PortRef) → ℕ → Option PortRef
far_in_row row number = option_and_then (λ far. far) (slice_get row number)

abbrev pub far_in : List (List (Option PortRef)) → PortRef → Option PortRef
far_in rows here = option_and_then (λ row. far_in_row row here.port) (slice_get rows here.node)
