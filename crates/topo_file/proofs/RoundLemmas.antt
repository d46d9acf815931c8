-- A round that is made cable by cable is the round of the definition, and after one that marks nothing new none does.
use Rattle.std.proofs.Common.{◌≡◌, ◌∙◌, ℕ, zero, suc, ◌+◌, ◌-◌, ◌<◌, Bool, true, false, not, ◌==◌, ◌&&◌, ◌||◌, nat_lt, List, [], ◌∷◌, length, map, take, get_or, slice_set, refl, sym, ap, ap₂, arith}
use Rattle.std.specs.List.{enumerate_from, list_all, list_any, zip}
use Rattle.std.proofs.lemmas.Bool.{and_parts, eqb-true, lt-ltb}
use Rattle.std.proofs.lemmas.Bool.Decides.{nat_tests}
use Rattle.std.proofs.lemmas.List.{length-map, take_more}
use Rattle.std.proofs.lemmas.List.Folds.{list_any-append}
use Rattle.std.proofs.lemmas.List.FromFn.{length-enumerate_from}
use Rattle.step_results.proofs.BoolLemmas.{false_more}
use Rattle.fabric_parts.specs.declared.cable.Cable.{Cable}
use Rattle.topo_file.specs.declared.node.Node.{Node}
use Rattle.topo_file.specs.Node.{is_switch_at}
use Rattle.topo_file.specs.Rounds.{after_rounds, is_marked, is_same, kept, leads_to, spread}
use Rattle.topo_file.proofs.MarkLemmas.{mark-kept, mark-spread}

-- ---- lists of marks
-- marks that are the same at each place are the same
pub same_marks : (one other : List Bool) → length one ≡ length other → ((place : ℕ) → is_marked one place ≡ is_marked other place) → one ≡ other
same_marks [] [] long same = refl
same_marks [] (b ∷ other) long same = absurd cc
same_marks (a ∷ one) [] long same = absurd cc
same_marks (a ∷ one) (b ∷ other) long same =
    let rest : length one ≡ length other = omega (arith, long) in
    let later : (place : ℕ) → is_marked one place ≡ is_marked other place = λ place. same (suc place) in
    ap₂ (λ (x : Bool) (xs : List Bool). x ∷ xs) (same 0) (same_marks one other rest later)

both : (a b : Bool) → ((a && b) || (not a && not b)) ≡ true → a ≡ b
both true true h = refl
both true false h = absurd cc
both false true h = absurd cc
both false false h = refl

zipped_same : (one other : List Bool) → length one ≡ length other → list_all (λ p. (p.0 && p.1) || (not p.0 && not p.1)) (zip one other) ≡ true → one ≡ other
zipped_same [] [] long same = refl
zipped_same [] (b ∷ other) long same = absurd cc
zipped_same (a ∷ one) [] long same = absurd cc
zipped_same (a ∷ one) (b ∷ other) long same =
    let parts = and_parts ((a && b) || (not a && not b)) _ same in
    let rest : length one ≡ length other = omega (arith, long) in
    ap₂ (λ (x : Bool) (xs : List Bool). x ∷ xs) (both a b parts.0) (zipped_same one other rest parts.1)

pub same_is : (one other : List Bool) → is_same one other ≡ true → one ≡ other
same_is one other h =
    let parts = and_parts (length one == length other) _ h in
    zipped_same one other (eqb-true (length one) (length other) parts.0) parts.1

-- ---- one place that is marked
zero_suc : (n : ℕ) → (zero == suc n) ≡ false
zero_suc n = grind (arith, nat_tests)

suc_zero : (n : ℕ) → (suc n == zero) ≡ false
suc_zero n = grind (arith, nat_tests)

suc_suc : (m n : ℕ) → (suc m == suc n) ≡ (m == n)
suc_suc m n = grind (arith, nat_tests)

or_true : (b : Bool) → true ≡ (b || true)
or_true true = refl
or_true false = refl

set_marks : (marks : List Bool) (to place : ℕ) → to < length marks → is_marked (slice_set marks to true) place ≡ (is_marked marks place || (to == place))
set_marks [] to place inside = absurd (omega (arith, inside))
set_marks (m ∷ marks) zero zero inside = or_true m
set_marks (m ∷ marks) zero (suc place) inside = rw (zero_suc place) (false_more (is_marked marks place))
set_marks (m ∷ marks) (suc to) zero inside = rw (suc_zero to) (false_more m)
set_marks (m ∷ marks) (suc to) (suc place) inside = rw (suc_suc to place) (set_marks marks to place (omega (arith, inside)))

and_true : (b : Bool) → b ≡ (b && true)
and_true true = refl
and_true false = refl

-- a place is marked where the test holds, and nothing is changed where it does not
pub marked_more : (marks : List Bool) (to : ℕ) (test : Bool) → to < length marks → test ≡ true
    → (place : ℕ) → is_marked (slice_set marks to true) place ≡ (is_marked marks place || ((to == place) && test))
marked_more marks to test inside holds place =
    set_marks marks to place inside ∙ ap (λ (b : Bool). is_marked marks place || b) (and_true (to == place) ∙ ap (λ (b : Bool). (to == place) && b) (sym holds))

and_false : (b : Bool) → false ≡ (b && false)
and_false true = refl
and_false false = refl

pub marked_none : (marks : List Bool) (to : ℕ) (test : Bool) → test ≡ false
    → (place : ℕ) → is_marked marks place ≡ (is_marked marks place || ((to == place) && test))
marked_none marks to test fails place =
    false_more (is_marked marks place) ∙ ap (λ (b : Bool). is_marked marks place || b) (and_false (to == place) ∙ ap (λ (b : Bool). (to == place) && b) (sym fails))

-- ---- a cable more
-- a switch stands within the list
inside_list : (nodes : List Node) (place : ℕ) → is_switch_at nodes place ≡ true → place < length nodes
inside_list [] place h = absurd cc
inside_list (n ∷ nodes) zero h = omega arith
inside_list (n ∷ nodes) (suc place) h = let later = inside_list nodes place h in omega (arith, later)

-- the end of a cable is marked as the definition says of its place
along : (nodes : List Node) (from : Bool) (to place count : ℕ) → count ≡ length nodes
    → ((to == place) && ((from && is_switch_at nodes to) && nat_lt to count)) ≡ (is_switch_at nodes place && ((to == place) && from))
along nodes from to place count long = by (to == place) refl
  where
    shown : (b f : Bool) → is_switch_at nodes to ≡ b → ((f && b) && nat_lt to count) ≡ (b && f)
    shown true true is = lt-ltb to count (let low = inside_list nodes to is in omega (arith, low, long))
    shown true false is = refl
    shown false true is = refl
    shown false false is = refl

    by : (b : Bool) → (to == place) ≡ b → (b && ((from && is_switch_at nodes to) && nat_lt to count)) ≡ (is_switch_at nodes place && (b && from))
    by true is = shown (is_switch_at nodes to) from refl ∙ ap (λ (k : ℕ). is_switch_at nodes k && from) (eqb-true to place is)
    by false is = and_false (is_switch_at nodes place)

regrouped : (s m any a b c d : Bool)
    → (((s && (m || any)) || (s && (a && b))) || (s && (c && d))) ≡ (s && (m || (any || (((c && d) || (a && b)) || false))))
regrouped true true any a b c d = refl
regrouped true false true a b c d = refl
regrouped true false false true true c d = by (c && d)
  where
    by : (x : Bool) → true ≡ ((x || true) || false)
    by true = refl
    by false = refl
regrouped true false false true false c d = by (c && d)
  where
    by : (x : Bool) → x ≡ ((x || false) || false)
    by true = refl
    by false = refl
regrouped true false false false b c d = by (c && d)
  where
    by : (x : Bool) → x ≡ ((x || false) || false)
    by true = refl
    by false = refl
regrouped false m any a b c d = refl

pub round_more : (nodes : List Node) (cables : List Cable) (i : ℕ) (d : Cable) (marks before middle after : List Bool) → i < length cables
    → length before ≡ length nodes → length middle ≡ length nodes
    → ((place : ℕ) → is_marked before place ≡ is_marked (spread nodes (take i cables) marks) place)
    → ((place : ℕ) → is_marked middle place ≡ (is_marked before place || (((get_or cables i d).second.node == place)
    && ((is_marked marks (get_or cables i d).first.node && is_switch_at nodes (get_or cables i d).second.node) && nat_lt (get_or cables i d).second.node (length before)))))
    → ((place : ℕ) → is_marked after place ≡ (is_marked middle place || (((get_or cables i d).first.node == place)
    && ((is_marked marks (get_or cables i d).second.node && is_switch_at nodes (get_or cables i d).first.node) && nat_lt (get_or cables i d).first.node (length middle)))))
    → (place : ℕ) → is_marked after place ≡ is_marked (spread nodes (take (i + 1) cables) marks) place
round_more nodes cables i d marks before middle after inside long wide was first second place =
    let cable = get_or cables i d in
    let s = is_switch_at nodes place in
    let m = is_marked marks place in
    let any = list_any (λ one. leads_to marks place one) (take i cables) in
    let a = (cable.second.node == place) in
    let b = is_marked marks cable.first.node in
    let c = (cable.first.node == place) in
    let e = is_marked marks cable.second.node in
    second place
    ∙ ap₂ (λ (x y : Bool). x || y)
    (first place ∙ ap₂ (λ (x y : Bool). x || y) (was place ∙ mark-spread nodes (take i cables) marks place) (along nodes b cable.second.node place (length before) long))
    (along nodes e cable.first.node place (length middle) wide)
    ∙ regrouped s m any a b c e
    ∙ ap (λ (x : Bool). s && (m || x)) (sym (ap (λ some. list_any (λ one. leads_to marks place one) some) (take_more cables i d inside)
    ∙ list_any-append (λ one. leads_to marks place one) (take i cables) (cable ∷ [])))
    ∙ sym (mark-spread nodes (take (i + 1) cables) marks place)

-- ---- the first and the last
pub kept_marks : (nodes : List Node) (marks : List Bool) (place : ℕ) → is_marked (kept nodes marks) place ≡ is_marked (spread nodes [] marks) place
kept_marks nodes marks place =
    mark-kept nodes marks place ∙ ap (λ (b : Bool). is_switch_at nodes place && b) (false_more (is_marked marks place)) ∙ sym (mark-spread nodes [] marks place)

pub kept_long : (nodes : List Node) (marks : List Bool) → length (kept nodes marks) ≡ length nodes
kept_long nodes marks = length-map (enumerate_from 0 nodes) _ ∙ length-enumerate_from 0 nodes

pub round_over : (nodes : List Node) (cables : List Cable) (marks next : List Bool) → length next ≡ length nodes
    → ((place : ℕ) → is_marked next place ≡ is_marked (spread nodes cables marks) place) → next ≡ spread nodes cables marks
round_over nodes cables marks next long same =
    same_marks next (spread nodes cables marks)
    (long ∙ sym (length-map (enumerate_from 0 nodes) _ ∙ length-enumerate_from 0 nodes)) same

-- ---- rounds behind one that marked nothing new
pub at_rest : (nodes : List Node) (cables : List Cable) (place rounds more total : ℕ) → total ≡ rounds + more
    → spread nodes cables (after_rounds nodes cables place rounds) ≡ after_rounds nodes cables place rounds
    → after_rounds nodes cables place total ≡ after_rounds nodes cables place rounds
at_rest nodes cables place rounds zero total is rest =
    let none : total ≡ rounds = omega (arith, is) in
    rw none refl
at_rest nodes cables place rounds (suc more) total is rest =
    let next : total ≡ suc (rounds + more) = omega (arith, is) in
    rw next (ap (spread nodes cables) (at_rest nodes cables place rounds more (rounds + more) refl rest) ∙ rest)
