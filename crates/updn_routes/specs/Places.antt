-- The same cabling with its switches numbered by their places.
use Rattle.std.specs.Prelude.{ℕ, ◌≡◌, ◌<◌, List, length, map}
use Rattle.updn_routes.specs.declared.link.Link.{Link}
use Rattle.updn_routes.specs.Cabling.{links_of}

-- a link, whose switch is named by its place
abbrev pub placed_link : (ℕ → ℕ) → Link → Link
placed_link place link = record { port = link.port; to = place link.to }

-- the row of each switch stands at its place
pub record IsPlaced (rows : List (List Link)) (place : ℕ → ℕ) (placed : List (List Link)) : Type 0 where
  pub count : length placed ≡ length rows
  pub each : (s : ℕ) → s < length rows → links_of placed (place s) ≡ map (placed_link place) (links_of rows s)
