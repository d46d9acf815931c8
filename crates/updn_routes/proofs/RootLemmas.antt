-- Roots are those that are named, or the switch of least GUID.
use Rattle.std.proofs.Common.{◌≡◌, ℕ, ◌==◌, nat_le, List, [], ◌∷◌, length, get_or, refl, arith}
use Rattle.std.specs.List.{list_all, list_any}
use Rattle.updn_routes.specs.Order.{is_root}

pub root_least : (guids roots : List ℕ) (s : ℕ) → length roots ≡ 0
    → is_root guids roots s ≡ list_all (λ guid. nat_le (get_or guids s 0) guid) guids
root_least guids [] s none = refl
root_least guids (root ∷ roots) s none = absurd (let no_room : ⊥ = omega (arith, none) in no_room)

pub root_named : (guids roots : List ℕ) (s : ℕ) → (length roots ≡ 0 → ⊥)
    → is_root guids roots s ≡ list_any (λ guid. guid == get_or guids s 0) roots
root_named guids [] s some = absurd (some refl)
root_named guids (root ∷ roots) s some = refl
