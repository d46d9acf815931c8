-- What the rounds mark, place by place, and that they come to rest.
use Rattle.std.proofs.Common.{◌≡◌, ℕ, zero, suc, ◌+◌, ◌≤◌, Bool, true, false, cond, not, ◌==◌, ◌&&◌, ◌||◌, List, [], ◌∷◌, length, map, slice_get}
use Rattle.std.proofs.Common.{Option, Some, None, refl, sym, ap, subst, ◌∙◌, inl, inr, ◌⊎◌, arith, add-zero, zero-add}
use Rattle.std.specs.Prelude.{count_by}
use Rattle.std.specs.List.{list_any, list_all, enumerate_from}
use Rattle.std.specs.Option.{option_map_or}
use Rattle.std.proofs.lemmas.Bool.{and_parts, and_from, or_left, eqb-true, eq-eqb}
use Rattle.std.proofs.lemmas.List.{length-map}
use Rattle.std.proofs.lemmas.List.Sums.{sum_by-cons}
use Rattle.std.proofs.lemmas.List.FromFn.{length-enumerate_from}
use Rattle.fabric_parts.specs.declared.cable.Cable.{Cable}
use Rattle.topo_file.specs.declared.node.Node.{Node}
use Rattle.topo_file.specs.Node.{is_switch, is_switch_at, switch_count}
use Rattle.topo_file.specs.Rounds.{is_marked, kept, leads_to, spread, only, after_rounds}

-- ---- the mark at a place
mark_from : (f : ℕ × Node → Bool) (m i : ℕ) (nodes : List Node)
    → is_marked (map f (enumerate_from m nodes)) i ≡ option_map_or (λ n. f (m + i, n)) (slice_get nodes i) false
mark_from f m i [] = refl
mark_from f m zero (n ∷ nodes) = ap (λ (k : ℕ). f (k, n)) (sym (add-zero m))
mark_from f m (suc i) (n ∷ nodes) =
    let moved : m + 1 + i ≡ m + suc i = omega arith in
    mark_from f (m + 1) i nodes ∙ ap (λ (k : ℕ). option_map_or (λ n. f (k, n)) (slice_get nodes i) false) moved

mark_at : (f : ℕ × Node → Bool) (i : ℕ) (nodes : List Node) → is_marked (map f (enumerate_from 0 nodes)) i ≡ option_map_or (λ n. f (i, n)) (slice_get nodes i) false
mark_at f i nodes = mark_from f 0 i nodes ∙ ap (λ (k : ℕ). option_map_or (λ n. f (k, n)) (slice_get nodes i) false) (zero-add i)

and_out : (o : Option Node) (b : Bool) → option_map_or (λ n. is_switch n && b) o false ≡ (option_map_or is_switch o false && b)
and_out None b = refl
and_out (Some n) b = refl

-- a round marks a switch that was marked, or that a cable joins to a place that was
pub mark-spread : (nodes : List Node) (cables : List Cable) (marks : List Bool) (i : ℕ)
    → is_marked (spread nodes cables marks) i ≡ (is_switch_at nodes i && (is_marked marks i || list_any (λ cable. leads_to marks i cable) cables))
mark-spread nodes cables marks i =
    mark_at (λ p. is_switch p.1 && (is_marked marks p.0 || list_any (λ cable. leads_to marks p.0 cable) cables)) i nodes
    ∙ and_out (slice_get nodes i) (is_marked marks i || list_any (λ cable. leads_to marks i cable) cables)

pub mark-kept : (nodes : List Node) (marks : List Bool) (i : ℕ) → is_marked (kept nodes marks) i ≡ (is_switch_at nodes i && is_marked marks i)
mark-kept nodes marks i = mark_at (λ p. is_switch p.1 && is_marked marks p.0) i nodes ∙ and_out (slice_get nodes i) (is_marked marks i)

same_place : (o : Option Node) (i place : ℕ) → option_map_or (λ n. i == place) o false ≡ true → i ≡ place
same_place None i place h = absurd cc
same_place (Some n) i place h = eqb-true i place h

pub mark-only : (nodes : List Node) (place i : ℕ) → is_marked (only nodes place) i ≡ true → i ≡ place
mark-only nodes place i h = same_place (slice_get nodes i) i place (sym (mark_at (λ p. p.0 == place) i nodes) ∙ h)

marked_there : (o : Option Node) (place : ℕ) → option_map_or is_switch o false ≡ true → option_map_or (λ n. place == place) o false ≡ true
marked_there None place h = absurd cc
marked_there (Some n) place h = eq-eqb place place refl

pub only_marks : (nodes : List Node) (place : ℕ) → is_switch_at nodes place ≡ true → is_marked (only nodes place) place ≡ true
only_marks nodes place start = mark_at (λ p. p.0 == place) place nodes ∙ marked_there (slice_get nodes place) place start

-- what is marked is a switch
pub marked_switch : (nodes : List Node) (cables : List Cable) (place rounds i : ℕ) → is_switch_at nodes place ≡ true
    → is_marked (after_rounds nodes cables place rounds) i ≡ true → is_switch_at nodes i ≡ true
marked_switch nodes cables place zero i start h = subst (λ (k : ℕ). is_switch_at nodes k ≡ true) (sym (mark-only nodes place i h)) start
marked_switch nodes cables place (suc rounds) i start h =
    (and_parts (is_switch_at nodes i) _ (sym (mark-spread nodes cables (after_rounds nodes cables place rounds) i) ∙ h)).0

-- and stays marked
pub stays : (nodes : List Node) (cables : List Cable) (place rounds i : ℕ) → is_switch_at nodes place ≡ true
    → is_marked (after_rounds nodes cables place rounds) i ≡ true → is_marked (after_rounds nodes cables place (suc rounds)) i ≡ true
stays nodes cables place rounds i start h =
    mark-spread nodes cables (after_rounds nodes cables place rounds) i
    ∙ and_from (is_switch_at nodes i) _ (marked_switch nodes cables place rounds i start h) (or_left (is_marked (after_rounds nodes cables place rounds) i) _ h)

-- ---- counting
abbrev marked_count : List Bool → ℕ
marked_count marks = count_by (λ mark. mark) marks

count-marked : (marks : List Bool) → marked_count (true ∷ marks) ≡ 1 + marked_count marks
count-marked marks = sum_by-cons (λ mark. cond mark 1 0) true marks

count-unmarked : (marks : List Bool) → marked_count (false ∷ marks) ≡ marked_count marks
count-unmarked marks = sum_by-cons (λ mark. cond mark 1 0) false marks ∙ zero-add (marked_count marks)

-- marks that only grow are the same, or more
same_or_more : (xs ys : List Bool) → length xs ≡ length ys → ((i : ℕ) → is_marked xs i ≡ true → is_marked ys i ≡ true)
    → (xs ≡ ys) ⊎ (marked_count xs + 1 ≤ marked_count ys)
same_or_more [] [] e h = inl refl
same_or_more [] (y ∷ ys) e h = absurd cc
same_or_more (x ∷ xs) [] e h = absurd cc
same_or_more (true ∷ xs) (true ∷ ys) e h =
    let shorter : length xs ≡ length ys = omega (arith, e) in
    let rest : (xs ≡ ys) ⊎ (marked_count xs + 1 ≤ marked_count ys) = same_or_more xs ys shorter (λ (i : ℕ). h (suc i)) in
    elim rest [ inl p ↦ inl (ap (λ (l : List Bool). true ∷ l) p) | inr m ↦ inr (rw (count-marked xs, count-marked ys) (omega (arith, m))) ]
same_or_more (true ∷ xs) (false ∷ ys) e h = let never : is_marked (false ∷ ys) 0 ≡ true = h 0 refl in absurd cc
same_or_more (false ∷ xs) (true ∷ ys) e h =
    let shorter : length xs ≡ length ys = omega (arith, e) in
    let rest : (xs ≡ ys) ⊎ (marked_count xs + 1 ≤ marked_count ys) = same_or_more xs ys shorter (λ (i : ℕ). h (suc i)) in
    elim rest [ inl p ↦ inr (let same : marked_count xs ≡ marked_count ys = ap (λ (l : List Bool). marked_count l) p in rw (count-marked, count-unmarked) (omega (arith, same))) | inr m ↦ inr (rw (count-marked, count-unmarked) (omega (arith, m))) ]
same_or_more (false ∷ xs) (false ∷ ys) e h =
    let shorter : length xs ≡ length ys = omega (arith, e) in
    let rest : (xs ≡ ys) ⊎ (marked_count xs + 1 ≤ marked_count ys) = same_or_more xs ys shorter (λ (i : ℕ). h (suc i)) in
    elim rest [ inl p ↦ inl (ap (λ (l : List Bool). false ∷ l) p) | inr m ↦ inr (rw (count-unmarked xs, count-unmarked ys) m) ]

some_marked : (marks : List Bool) (i : ℕ) → is_marked marks i ≡ true → 1 ≤ marked_count marks
some_marked [] i h = absurd cc
some_marked (true ∷ marks) i h = rw count-marked (omega arith)
some_marked (false ∷ marks) zero h = absurd cc
some_marked (false ∷ marks) (suc i) h = rw count-unmarked (some_marked marks i h)

length-marks : (nodes : List Node) (cables : List Cable) (place rounds : ℕ) → length (after_rounds nodes cables place rounds) ≡ length nodes
length-marks nodes cables place zero = length-map (enumerate_from 0 nodes) (λ p. p.0 == place) ∙ length-enumerate_from 0 nodes
length-marks nodes cables place (suc rounds) = length-map (enumerate_from 0 nodes) _ ∙ length-enumerate_from 0 nodes

one_more_round : (nodes : List Node) (cables : List Cable) (place rounds : ℕ) → is_switch_at nodes place ≡ true
    → (after_rounds nodes cables place rounds ≡ after_rounds nodes cables place (suc rounds)) ⊎ (marked_count (after_rounds nodes cables place rounds) + 1 ≤ marked_count (after_rounds nodes cables place (suc rounds)))
one_more_round nodes cables place rounds start =
    same_or_more (after_rounds nodes cables place rounds) (after_rounds nodes cables place (suc rounds))
    (length-marks nodes cables place rounds ∙ sym (length-marks nodes cables place (suc rounds)))
    (λ i h. stays nodes cables place rounds i start h)

-- each round marks one more at least, until none does
rests_or_grows : (nodes : List Node) (cables : List Cable) (place rounds : ℕ) → is_switch_at nodes place ≡ true
    → (after_rounds nodes cables place rounds ≡ after_rounds nodes cables place (suc rounds)) ⊎ (rounds + 1 ≤ marked_count (after_rounds nodes cables place rounds))
rests_or_grows nodes cables place zero start =
    inr (let some = some_marked (only nodes place) place (only_marks nodes place start) in omega (arith, some))
rests_or_grows nodes cables place (suc rounds) start =
    elim (rests_or_grows nodes cables place rounds start) [
      | inl e ↦ inl (ap (spread nodes cables) e)
      | inr more ↦ elim (one_more_round nodes cables place rounds start) [
        | inl e ↦ inl (ap (spread nodes cables) e)
        | inr grown ↦ inr (omega (arith, more, grown))
      ]
    ]

count_switches : (f : ℕ × Node → Bool) (m : ℕ) (nodes : List Node) → ((p : ℕ × Node) → f p ≡ true → is_switch p.1 ≡ true)
    → marked_count (map f (enumerate_from m nodes)) ≤ switch_count nodes
count_switches f m [] h = omega arith
count_switches f m (n ∷ nodes) h = by (f (m, n)) refl (count_switches f (m + 1) nodes h)
  where
    by : (b : Bool) → f (m, n) ≡ b → marked_count (map f (enumerate_from (m + 1) nodes)) ≤ switch_count nodes
        → marked_count (map f (enumerate_from m (n ∷ nodes))) ≤ switch_count (n ∷ nodes)
    by true e later =
        let more : switch_count (n ∷ nodes) ≡ 1 + switch_count nodes = sum_by-cons (λ n. cond (is_switch n) 1 0) n nodes ∙ rw (h (m, n) e) refl in
        let marked : marked_count (map f (enumerate_from m (n ∷ nodes))) ≡ 1 + marked_count (map f (enumerate_from (m + 1) nodes)) = ap (λ (b : Bool). marked_count (b ∷ map f (enumerate_from (m + 1) nodes))) e ∙ count-marked (map f (enumerate_from (m + 1) nodes)) in
        omega (arith, more, marked, later)
    by false e later =
        let more : switch_count (n ∷ nodes) ≡ cond (is_switch n) 1 0 + switch_count nodes = sum_by-cons (λ n. cond (is_switch n) 1 0) n nodes in
        let marked : marked_count (map f (enumerate_from m (n ∷ nodes))) ≡ marked_count (map f (enumerate_from (m + 1) nodes)) = ap (λ (b : Bool). marked_count (b ∷ map f (enumerate_from (m + 1) nodes))) e ∙ count-unmarked (map f (enumerate_from (m + 1) nodes)) in
        omega (arith, more, marked, later)

pub rests : (nodes : List Node) (cables : List Cable) (place : ℕ) → is_switch_at nodes place ≡ true
    → after_rounds nodes cables place (switch_count nodes) ≡ after_rounds nodes cables place (suc (switch_count nodes))
rests nodes cables place start =
    elim (rests_or_grows nodes cables place (switch_count nodes) start) [
      | inl e ↦ e
      | inr more ↦ elim (one_more_round nodes cables place (switch_count nodes) start) [
        | inl e ↦ e
        | inr grown ↦ absurd (let least = count_switches (λ p. is_switch p.1 && (is_marked (after_rounds nodes cables place (switch_count nodes)) p.0 || list_any (λ cable. leads_to (after_rounds nodes cables place (switch_count nodes)) p.0 cable) cables)) 0 nodes (λ p e. (and_parts (is_switch p.1) _ e).0) in omega (arith, more, grown, least))
      ]
    ]

-- ---- all switches are marked
pub all_marked : (m : ℕ) (nodes : List Node) (marks : List Bool) → list_all (λ p. not (is_switch p.1) || is_marked marks p.0) (enumerate_from m nodes) ≡ true
    → (i : ℕ) → is_switch_at nodes i ≡ true → is_marked marks (m + i) ≡ true
all_marked m [] marks h i s = absurd cc
all_marked m (n ∷ nodes) marks h zero s =
    let here = rw s at (and_parts (not (is_switch n) || is_marked marks m) _ h).0 in
    rw add-zero here
all_marked m (n ∷ nodes) marks h (suc i) s =
    let later = all_marked (m + 1) nodes marks (and_parts (not (is_switch n) || is_marked marks m) _ h).1 i s in
    let moved : m + 1 + i ≡ m + suc i = omega arith in
    subst (λ (k : ℕ). is_marked marks k ≡ true) moved later

pub from_marked : (m : ℕ) (nodes : List Node) (marks : List Bool) → ((i : ℕ) → is_switch_at nodes i ≡ true → is_marked marks (m + i) ≡ true)
    → list_all (λ p. not (is_switch p.1) || is_marked marks p.0) (enumerate_from m nodes) ≡ true
from_marked m [] marks h = refl
from_marked m (n ∷ nodes) marks h =
    and_from (not (is_switch n) || is_marked marks m) _ (by (is_switch n) refl (h 0))
    (from_marked (m + 1) nodes marks (λ i s. let moved : m + suc i ≡ m + 1 + i = omega arith in subst (λ (k : ℕ). is_marked marks k ≡ true) moved (h (suc i) s)))
  where
    by : (b : Bool) → is_switch n ≡ b → (is_switch n ≡ true → is_marked marks (m + 0) ≡ true) → (not (is_switch n) || is_marked marks m) ≡ true
    by true e at = rw e (subst (λ (k : ℕ). is_marked marks k ≡ true) (add-zero m) (at e))
    by false e at = rw e refl
