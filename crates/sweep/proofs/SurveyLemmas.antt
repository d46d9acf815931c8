-- Links that lead to a port, and a search for one.
use Rattle.std.proofs.Common.{ℕ, ◌≡◌, ◌==◌, ◌+◌, ◌&&◌, ◌||◌, ◌<◌, refl, Bool, true, false, if◌then◌else◌, List, [], ◌∷◌, find, get_or, nat_le}
use Rattle.std.proofs.Common.{Option, Some, None, option_map, arith}
use Rattle.std.proofs.Math.Bool.{or-true}
use Rattle.std.specs.List.{list_any}
use Rattle.std.proofs.lemmas.Bool.Decides.{Decides-eqb, nat_tests}
use Rattle.std.proofs.lemmas.Option.{same_Some}
use Rattle.fabric_parts.specs.Cable.{is_same_port}
use Rattle.fabric_parts.specs.declared.cable.PortRef.{PortRef}
use Rattle.sweep.specs.Graph.{is_linked}
use Rattle.sweep.specs.declared.graph.GraphLink.{GraphLink}

abbrev pub leads : PortRef → ℕ → GraphLink → Bool
leads there number link = (link.port == number) && is_same_port link.to there

abbrev pub first_port : List GraphLink → PortRef → Option ℕ
first_port links there = option_map (λ link. link.port) (find (λ link. is_same_port link.to there) links)

linked_by : (link : GraphLink) (links : List GraphLink) (there : PortRef) (number : ℕ) (b : Bool) → is_same_port link.to there ≡ b
    → option_map (λ link. link.port) (if b then Some link else find (λ link. is_same_port link.to there) links) ≡ Some number
    → (first_port links there ≡ Some number → list_any (leads there number) links ≡ true)
    → leads there number link || list_any (leads there number) links ≡ true
linked_by link links there number true is found later =
    rw (is, (Decides-eqb link.port number).1 (same_Some _ _ found)) refl
linked_by link links there number false is found later = rw (later found) (or-true (leads there number link))

pub linked : (links : List GraphLink) (there : PortRef) (number : ℕ) → first_port links there ≡ Some number
    → list_any (leads there number) links ≡ true
linked [] there number found = cc
linked (link ∷ links) there number found =
    linked_by link links there number (is_same_port link.to there) refl found (λ later. linked links there number later)

unlinked_by : (link : GraphLink) (links : List GraphLink) (there : PortRef) (number : ℕ) (b : Bool) → is_same_port link.to there ≡ b
    → option_map (λ link. link.port) (if b then Some link else find (λ link. is_same_port link.to there) links) ≡ None
    → (first_port links there ≡ None → list_any (leads there number) links ≡ false)
    → leads there number link || list_any (leads there number) links ≡ false
unlinked_by link links there number true is none later = cc
unlinked_by link links there number false is none later = rw (is, later none) (and_false (link.port == number))
  where
    and_false : (b : Bool) → (b && false) || false ≡ false
    and_false true = refl
    and_false false = refl

pub unlinked : (links : List GraphLink) (there : PortRef) (number : ℕ) → first_port links there ≡ None
    → list_any (leads there number) links ≡ false
unlinked [] there number none = refl
unlinked (link ∷ links) there number none =
    unlinked_by link links there number (is_same_port link.to there) refl none (λ later. unlinked links there number later)

-- nothing leads there from the first switches
abbrev pub NoneLeads : List (List GraphLink) → PortRef → ℕ → Type 0
NoneLeads rows there count = (here : PortRef) → here.node < count → is_linked rows here there ≡ false

pub none_more : (rows : List (List GraphLink)) (there : PortRef) (node : ℕ) → NoneLeads rows there node
    → first_port (get_or rows node []) there ≡ None → NoneLeads rows there (node + 1)
none_more rows there node before none here within = by (nat_le node here.node) refl
  where
    by : (b : Bool) → nat_le node here.node ≡ b → is_linked rows here there ≡ false
    by false earlier = before here (grind (arith, nat_tests, earlier))
    by true after =
        let same : here.node ≡ node = grind (arith, nat_tests, after, within) in
        rw same (unlinked (get_or rows node []) there here.port none)
