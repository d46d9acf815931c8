-- The classes of ports, and what is known by them.
use Rattle.std.proofs.Common.{◌≡◌, ◌∙◌, inl, inr, ap, refl, subst, sym, ℕ, ◌-◌, ◌<◌, ◌≤◌, Bool, false, true, ◌==◌, List, [], ◌∷◌, drop, get_or, length, slice_get, Option, Some, option_map, IfSome}
use Rattle.std.specs.Option.{option_and_then}
use Rattle.std.proofs.lemmas.Bool.{and_parts, cases_Bool, eqb-true}
use Rattle.std.proofs.lemmas.Option.{IfSome_then, slice_get-get_or, slice_get-map}
use Rattle.std.proofs.lemmas.Slice.Eq.{bytes_eq-Decides}
use Rattle.std.specs.Str.{bytes_eq}
use Rattle.step_results.proofs.ListLemmas.{any_none}
use Rattle.fabric_parts.specs.Cable.{is_same_port, port}
use Rattle.fabric_parts.specs.declared.cable.PortRef.{PortRef}
use Rattle.pkey_rules.specs.KeyTable.{shares}
use Rattle.audit_plan.proofs.RangeLemmas.{cut_before}
use Rattle.audit_loads.specs.declared.talk.PortKeys.{PortKeys}
use Rattle.audit_loads.specs.KeyClasses.{class_at, row_of, rows_of, shared_at, KnowsClasses}
use Rattle.audit_loads.specs.Talk.{keys_at}

pub nothing_shared : (keys : List ℕ) → shares keys [] ≡ false
nothing_shared keys = any_none keys

-- ---- a table that is the one looked for
pub is_there : (tables : List (List ℕ)) (place : ℕ) (none keys : List ℕ) → place < length tables → bytes_eq (get_or tables place none) keys ≡ true
    → slice_get tables place ≡ Some keys
is_there tables place none keys within same =
    slice_get-get_or tables place none within ∙ ap (λ (table : List ℕ). Some table) ((bytes_eq-Decides (get_or tables place none) keys).0 same)

-- ---- what the rows say of two classes is what the keys do
class_has : (tables : List (List ℕ)) (classes : List (Option ℕ)) (ports : List PortKeys) (at : PortRef) (class : ℕ) → KnowsClasses tables classes ports → at.port < 256
    → class_at classes at ≡ Some class → slice_get tables class ≡ Some (keys_at ports at)
class_has tables classes ports at class knows low is =
    subst (λ (found : Option ℕ). IfSome found (λ one. slice_get tables one ≡ Some (keys_at ports at))) is (knows at low)

pub shared_is : (tables : List (List ℕ)) (classes : List (Option ℕ)) (ports : List PortKeys) (rows : List (List Bool)) (source end : PortRef) (one other : ℕ)
    → KnowsClasses tables classes ports → rows ≡ rows_of tables → source.port < 256 → end.port < 256
    → class_at classes source ≡ Some one → class_at classes end ≡ Some other
    → shared_at rows one other ≡ Some (shares (keys_at ports source) (keys_at ports end))
shared_is tables classes ports rows source end one other knows rows_are low low' is is' =
    let keys = keys_at ports source in
    let row : slice_get rows one ≡ Some (row_of tables keys) =
    ap (λ (all : List (List Bool)). slice_get all one) rows_are ∙ slice_get-map (row_of tables) tables one
    ∙ ap (option_map (row_of tables)) (class_has tables classes ports source one knows low is) in
    ap (option_and_then (λ (found : List Bool). slice_get found other)) row ∙ slice_get-map (shares keys) tables other
    ∙ ap (option_map (shares keys)) (class_has tables classes ports end other knows low' is')

-- ---- one port more, before those whose classes are known
pub same_port : (a b : PortRef) → is_same_port a b ≡ true → a ≡ b
same_port a b same =
    let parts = and_parts (a.node == b.node) (a.port == b.port) same in
    ap (λ (n : ℕ). port n a.port) (eqb-true a.node b.node parts.0) ∙ ap (port b.node) (eqb-true a.port b.port parts.1)

first_keys : (one : PortKeys) (rest : List PortKeys) (at : PortRef) → is_same_port one.at at ≡ true → keys_at (one ∷ rest) at ≡ one.keys
first_keys one rest at same = rw same refl

later_keys : (one : PortKeys) (rest : List PortKeys) (at : PortRef) → is_same_port one.at at ≡ false → keys_at (one ∷ rest) at ≡ keys_at rest at
later_keys one rest at other = rw other refl

pub classes_more : (tables tables' : List (List ℕ)) (classes classes' : List (Option ℕ)) (ports : List PortKeys) (index class : ℕ) (one none : PortKeys) → 0 < index
    → index ≤ length ports → get_or ports (index - 1) none ≡ one
    → KnowsClasses tables classes (drop index ports)
    → ((place : ℕ) (table : List ℕ) → slice_get tables place ≡ Some table → slice_get tables' place ≡ Some table)
    → slice_get tables' class ≡ Some one.keys
    → IfSome (class_at classes' one.at) (λ found. found ≡ class)
    → ((other : PortRef) → other.port < 256 → is_same_port one.at other ≡ false → class_at classes' other ≡ class_at classes other)
    → KnowsClasses tables' classes' (drop (index - 1) ports)
classes_more tables tables' classes classes' ports index class one none some within one_is knows kept has here others at low =
    let rest = drop index ports in
    let cut : drop (index - 1) ports ≡ one ∷ rest =
    cut_before ports index none some within ∙ ap (λ (first : PortKeys). first ∷ rest) one_is in
    subst (λ (left : List PortKeys). IfSome (class_at classes' at) (λ found. slice_get tables' found ≡ Some (keys_at left at))) (sym cut)
    (elim (cases_Bool (is_same_port one.at at)) [
      | inl same ↦
          let is : slice_get tables' class ≡ Some (keys_at (one ∷ rest) at) = has ∙ ap (λ (keys : List ℕ). Some keys) (sym (first_keys one rest at same)) in
          IfSome_then (class_at classes' at)
          (subst (λ (there : PortRef). IfSome (class_at classes' there) (λ found. found ≡ class)) (same_port one.at at same) here)
          (λ found found_is. ap (slice_get tables') found_is ∙ is)
      | inr other ↦
          let is : Some (keys_at rest at) ≡ Some (keys_at (one ∷ rest) at) = ap (λ (keys : List ℕ). Some keys) (sym (later_keys one rest at other)) in
          IfSome_then (class_at classes' at)
          (subst (λ (found : Option ℕ). IfSome found (λ place. slice_get tables place ≡ Some (keys_at rest at))) (sym (others at low other)) (knows at low))
          (λ found found_is. kept found (keys_at rest at) found_is ∙ is)
    ])
