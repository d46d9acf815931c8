use Rattle.std.proofs.Common.{ℕ, zero, suc, ◌≡◌, ◌<◌, ◌∙◌, ap, arith, get_or, length, refl, sym, List, [], ◌∷◌, Contains}
use Rattle.fabric_parts.specs.Cable.{port}
use Rattle.fabric_parts.specs.declared.cable.PortRef.{PortRef}
use Rattle.updn_routes.specs.NumberLaws.{HaveOwnPlaces}
use Rattle.updn_routes.specs.Tables.{place_at}
use Rattle.updn_routes.proofs.tie_laws.wrong_numbers_are_refused.Goals as goal

-- two ports of switch 0 have LIDs before and behind that of a port of switch 1
abbrev homes : List PortRef
homes = port 0 1 ∷ port 1 1 ∷ port 0 2 ∷ []

abbrev places : List ℕ
places = 0 ∷ 1 ∷ []

own_place : (one : PortRef) → Contains homes one → place_at places one.node ≡ one.node
own_place one has = by has.0 has.1 has.2
  where
    by : (k : ℕ) → k < length homes → get_or homes k one ≡ one → place_at places one.node ≡ one.node
    by zero within found = rw (sym found) refl
    by (suc zero) within found = rw (sym found) refl
    by (suc (suc zero)) within found = rw (sym found) refl
    by (suc (suc (suc k))) within found = absurd (let none : ⊥ = omega (arith, within) in none)

own : HaveOwnPlaces places homes
own one other has has_too same = sym (own_place one has) ∙ same ∙ own_place other has_too

first : Contains homes (port 0 1)
first = (0, omega arith, refl)

second : Contains homes (port 1 1)
second = (1, omega arith, refl)

third : Contains homes (port 0 2)
third = (2, omega arith, refl)

pub returns : goal.returns
returns c =
    record {
      alike = λ differ.
          let same = differ places homes (port 0 1) (port 1 1) own (first, refl) (second, refl) refl in
          let nodes : 0 ≡ 1 = ap (λ (home : PortRef). home.node) same in
          omega (arith, nodes);
      lid = λ lids. let same : 0 ≡ 1 = lids places [] [] (port 0 1) (port 0 2) (port 0 1) in omega (arith, same);
      scattered = λ rows.
          let same : 1 ≡ 0 = rows places homes (port 0 1) (port 1 1) (port 0 2) own (first, refl) (second, refl) (third, refl) refl (omega arith) (omega arith) in
          omega (arith, same);
      switches = λ low. let less : 1 < 1 = low (0 ∷ []) (port 0 0 ∷ port 0 1 ∷ []) (port 0 1) ((1, omega arith, refl), refl) in omega (arith, less);
    }
