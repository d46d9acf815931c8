-- Lines of numbers that are counted otherwise.
use Rattle.std.proofs.Common.{◌≡◌, ap, refl, ℕ, ◌*◌, List, [], ◌∷◌, ◌++◌, map, flat_map}
use Rattle.std.specs.List.{range_with_len}
use Rattle.audit_net.specs.declared.lids.Aim.{Aim}
use Rattle.audit_routes.specs.Lines.{multiples, unreported_line, unreported_lines}
use Rattle.audit_net.specs.Net.{NetState}

flat_mapped : (f : ℕ → List ℕ) (g : ℕ → ℕ) (xs : List ℕ) → flat_map (λ x. f (g x)) xs ≡ flat_map f (map g xs)
flat_mapped f g [] = refl
flat_mapped f g (x ∷ xs) = ap (λ (rest : List ℕ). f (g x) ++ rest) (flat_mapped f g xs)

pub all_unreported : (net : NetState) (all : List Aim) → flat_map (λ n. unreported_line net all (n * 64)) (range_with_len 0 1024) ≡ unreported_lines net all
unfolding multiples unreported_lines
all_unreported net all = flat_mapped (unreported_line net all) (λ n. n * 64) (range_with_len 0 1024)
