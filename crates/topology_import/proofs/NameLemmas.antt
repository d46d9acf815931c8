-- Names that are looked up among those that there are.
use Rattle.std.proofs.Common.{◌≡◌, ◌∙◌, refl, sym, ap, subst, ℕ, Bool, true, false, not, ◌||◌, ◌+◌, cond, List, [], ◌∷◌, ◌++◌, Some, Vec, Global, inl, inr, arith}
use Rattle.std.specs.List.{list_any}
use Rattle.std.specs.Str.{bytes_eq}
use Rattle.std.proofs.lemmas.Bool.{cases_lt}
use Rattle.std.proofs.lemmas.List.Folds.{list_any-append}
use Rattle.std.proofs.lemmas.Slice.Eq.{bytes_eq-Decides}
use Rattle.indexmap.specs.IndexMap.{IndexMap, get}
use Rattle.indexmap.specs.IndexSet.{insert_key}
use Rattle.topology_import.specs.declared.planned.Planned.{Planned}
use Rattle.topology_import.specs.Names.{has_name, numbered}
use Rattle.topology_import.specs.Tried.{AreTaken, KnowsTried}

kept : (a b : Bool) → (b ≡ true → a ≡ true) → a ≡ (a || (b || false))
kept true b h = refl
kept false true h = h refl
kept false false h = refl

-- a new name is noted, and one that there is stays
pub names_grow : {K : Type 0} (encoded : K → List ℕ) (key : K) (node : Planned) (keys : List K) (nodes : List Planned)
    → ((name : List ℕ) → list_any (λ k. bytes_eq name (encoded k)) keys ≡ has_name nodes name) → encoded key ≡ node.name
    → (name : List ℕ)
    → list_any (λ k. bytes_eq name (encoded k)) (insert_key (λ a b. bytes_eq (encoded a) (encoded b)) keys key) ≡ has_name (nodes ++ node ∷ []) name
names_grow encoded key node keys nodes noted is name =
    by (list_any (λ k. bytes_eq (encoded key) (encoded k)) keys) refl
    ∙ sym (list_any-append (λ other. bytes_eq name other.name) nodes (node ∷ []))
  where
    there : list_any (λ k. bytes_eq (encoded key) (encoded k)) keys ≡ true → bytes_eq name node.name ≡ true → has_name nodes name ≡ true
    there some same =
        ap (has_name nodes) ((bytes_eq-Decides name node.name).0 same ∙ sym is) ∙ sym (noted (encoded key)) ∙ some

    by : (b : Bool) → list_any (λ k. bytes_eq (encoded key) (encoded k)) keys ≡ b
        → list_any (λ k. bytes_eq name (encoded k)) (insert_key (λ a b. bytes_eq (encoded a) (encoded b)) keys key)
        ≡ (has_name nodes name || (bytes_eq name node.name || false))
    by true some = rw (some, noted name) (kept (has_name nodes name) (bytes_eq name node.name) (there some))
    by false none =
        rw none (list_any-append (λ k. bytes_eq name (encoded k)) keys (key ∷ []) ∙ rw (noted name, is) refl)

-- ---- numbers that are taken stay so
pub taken_still : (nodes : List Planned) (node : Planned) (name : List ℕ) (number : ℕ) → AreTaken nodes name number → AreTaken (nodes ++ node ∷ []) name number
taken_still nodes node name number taken n low high =
    list_any-append (λ other. bytes_eq (numbered name n) other.name) nodes (node ∷ []) ∙ rw (taken n low high) refl

pub tried_still : {S : Type 0} (tried : IndexMap (Vec ℕ Global) ℕ S) (nodes : List Planned) (node : Planned) → KnowsTried tried nodes → KnowsTried tried (nodes ++ node ∷ [])
tried_still tried nodes node knows name number found = taken_still nodes node name.items number (knows name number found)

pub tried_more : {S : Type 0} (before after : IndexMap (Vec ℕ Global) ℕ S) (nodes : List Planned) (name : Vec ℕ Global) (number : ℕ) → KnowsTried before nodes → AreTaken nodes name.items number
    → ((other : Vec ℕ Global) → get (λ a b. bytes_eq a.items b.items) after other ≡ cond (bytes_eq name.items other.items) (Some number) (get (λ a b. bytes_eq a.items b.items) before other))
    → KnowsTried after nodes
tried_more before after nodes name number knows taken updated other n found = by (bytes_eq name.items other.items) refl (sym (updated other) ∙ found)
  where
    by : (b : Bool) → bytes_eq name.items other.items ≡ b → cond b (Some number) (get (λ a c. bytes_eq a.items c.items) before other) ≡ Some n → AreTaken nodes other.items n
    by true same is =
        let name_is : name.items ≡ other.items = (bytes_eq-Decides name.items other.items).0 same in
        let number_is : number ≡ n = cc in
        subst (λ (text : List ℕ). AreTaken nodes text n) name_is (subst (AreTaken nodes name.items) number_is taken)
    by false apart is = knows other n is

pub taken_next : (nodes : List Planned) (name : List ℕ) (number : ℕ) → AreTaken nodes name number → not (has_name nodes (numbered name number)) ≡ false
    → AreTaken nodes name (number + 1)
taken_next nodes name number taken here n low high = elim (cases_lt n number) [
  | inl before ↦ taken n low before
  | inr not_before ↦
      let same : number ≡ n = omega (arith, high, not_before) in
      subst (λ (m : ℕ). has_name nodes (numbered name m) ≡ true) same (is_so (has_name nodes (numbered name number)) here)
]
  where
    is_so : (b : Bool) → not b ≡ false → b ≡ true
    is_so true e = refl
    is_so false e = sym e
