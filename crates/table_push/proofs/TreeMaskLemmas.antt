-- What is kept of the tree, and the masks that are made of it.
use Rattle.std.proofs.Common.{ℕ, ◌≡◌, ◌+◌, ◌-◌, ◌^◌, ◌<◌, ◌==◌, ◌&&◌, ◌||◌, not, ◌∙◌, ap, refl, sym, subst, Bool, true, false, if◌then◌else◌, List, [], ◌∷◌, length, get_or, bit_or, slice_set, w64, Option, Some, None, arith}
use Rattle.std.specs.Int.{bit_at}
use Rattle.std.specs.List.{list_any, range_with_len}
use Rattle.std.proofs.lemmas.Bool.{and_left, eq-eqb, eqb-true, false≢true}
use Rattle.std.proofs.lemmas.List.{get_or-set_other, get_or-set_same}
use Rattle.std.proofs.lemmas.Nat.Bits.{bit_at-lt, bit_at_not}
use Rattle.step_results.proofs.BoolLemmas.{bit_turned, false_more, or_assoc}
use Rattle.step_results.proofs.TestLemmas.{same_either_way}
use Rattle.table_push.specs.MaskSteps.{is_that_port}
use Rattle.table_push.specs.TreeSteps.{IsBelowSet, IsNode, IsOutsideSet, IsSpread, IsTree, leads_down, leads_up, meets, some_lead_down, where_meets}
use Rattle.table_push.specs.declared.trees.Tree.{Tree}
use Rattle.table_push.proofs.AwayLemmas.{range_any}
use Rattle.table_push.proofs.ReachLemmas.{either_bit, no_bits}
use Rattle.table_push.proofs.AttachmentBitLemmas.{set_at}
use Rattle.updn_routes.specs.Subnet.{RoutesState}

-- ---- what is kept of a switch
pub outside_is : (routes : RoutesState) (s below : ℕ) → below < 2 ^ 64 → IsBelowSet routes s below → IsOutsideSet routes s (2 ^ 64 - 1 - below)
outside_is routes s below fits is t low =
    ap (λ (bit : ℕ). bit == 1) (bit_at_not w64 below t fits low) ∙ bit_turned (bit_at below t) (bit_at-lt below t) ∙ ap not (is t low)

node_as : (routes : RoutesState) (s a a' b b' : ℕ) (of of' : Option ℕ) (d d' e e' : ℕ) → a ≡ a' → b ≡ b' → of ≡ of' → d ≡ d' → e ≡ e'
    → IsNode routes s a b of d e → IsNode routes s a' b' of' d' e'
node_as routes s a a' b b' of of' d d' e e' one two three four five node =
    subst (λ (x : ℕ). IsNode routes s a' b' of' d' x) five
    (subst (λ (x : ℕ). IsNode routes s a' b' of' x e) four
    (subst (λ (x : Option ℕ). IsNode routes s a' b' x d e) three
    (subst (λ (x : ℕ). IsNode routes s a' x of d e) two
    (subst (λ (x : ℕ). IsNode routes s x b of d e) one node))))

pub tree_more : (routes : RoutesState) (k : ℕ) (belows outsides : List ℕ) (parents : List (Option ℕ)) (ups ends : List ℕ) (below outside : ℕ) (of : Option ℕ) (up end : ℕ)
    → k < length belows → k < length outsides → k < length parents → k < length ups → k < length ends → IsNode routes k below outside of up end
    → IsTree routes (record { below = belows; outside = outsides; parents = parents; ups = ups; ends = ends }) k
    → IsTree routes (record { below = slice_set belows k below; outside = slice_set outsides k outside; parents = slice_set parents k of; ups = slice_set ups k up; ends = slice_set ends k end }) (k + 1)
tree_more routes k belows outsides parents ups ends below outside of up end one two three four five node are s low = by (s == k) refl
  where
    by : (b : Bool) → (s == k) ≡ b → IsNode routes s (get_or (slice_set belows k below) s 0) (get_or (slice_set outsides k outside) s 0) (get_or (slice_set parents k of) s None)
        (get_or (slice_set ups k up) s 0) (get_or (slice_set ends k end) s 0)
    by true same =
        subst (λ (at : ℕ). IsNode routes at (get_or (slice_set belows k below) at 0) (get_or (slice_set outsides k outside) at 0) (get_or (slice_set parents k of) at None)
        (get_or (slice_set ups k up) at 0) (get_or (slice_set ends k end) at 0)) (sym (eqb-true s k same))
        (node_as routes k below _ outside _ of _ up _ end _ (sym (get_or-set_same belows k below 0 one)) (sym (get_or-set_same outsides k outside 0 two))
        (sym (get_or-set_same parents k of None three)) (sym (get_or-set_same ups k up 0 four)) (sym (get_or-set_same ends k end 0 five)) node)
    by false other =
        let apart : s ≡ k → ⊥ = λ equal. false≢true (sym other ∙ eq-eqb s k equal) in
        node_as routes s _ _ _ _ _ _ _ _ _ _ (sym (get_or-set_other belows k s below 0 apart)) (sym (get_or-set_other outsides k s outside 0 apart))
        (sym (get_or-set_other parents k s of None apart)) (sym (get_or-set_other ups k s up 0 apart)) (sym (get_or-set_other ends k s end 0 apart))
        (are s (omega (arith, low, apart)))

-- ---- one multicast LID
where_bit : (switches set bits n : ℕ) → (bit_at (where_meets switches set bits) n == 1) ≡ (meets switches set && (bit_at bits n == 1))
where_bit switches set bits n = by (meets switches set)
  where
    by : (b : Bool) → (bit_at (if b then bits else 0) n == 1) ≡ (b && (bit_at bits n == 1))
    by true = refl
    by false = no_bits n

pub ups_are : (tree : Tree) (held next switches s number : ℕ) → next ≡ bit_or held (where_meets switches (get_or tree.outside s 0) (get_or tree.ups s 0))
    → (bit_at next number == 1) ≡ (((bit_at held number == 1) || leads_up tree switches s number) || some_lead_down tree 0 switches s number)
unfolding some_lead_down
ups_are tree held next switches s number is =
    ap (λ (n : ℕ). bit_at n number == 1) is
    ∙ either_bit held (where_meets switches (get_or tree.outside s 0) (get_or tree.ups s 0)) number
    ∙ ap (λ (b : Bool). (bit_at held number == 1) || b) (where_bit switches (get_or tree.outside s 0) (get_or tree.ups s 0) number)
    ∙ false_more ((bit_at held number == 1) || leads_up tree switches s number)

pub down_any : (tree : Tree) (k switches s number : ℕ)
    → some_lead_down tree (k + 1) switches s number ≡ (some_lead_down tree k switches s number || leads_down tree switches s number k)
unfolding some_lead_down
down_any tree k switches s number = range_any (leads_down tree switches s number) k

one_or : (old x s p n : ℕ) (b : Bool) → (s == p) ≡ b → (bit_at (if b then bit_or old x else old) n == 1) ≡ ((bit_at old n == 1) || ((p == s) && (bit_at x n == 1)))
one_or old x s p n true same =
    let turned : (p == s) ≡ true = same_either_way p s ∙ same in
    either_bit old x n ∙ ap (λ (b : Bool). (bit_at old n == 1) || (b && (bit_at x n == 1))) (sym turned)
one_or old x s p n false other =
    let turned : (p == s) ≡ false = same_either_way p s ∙ other in
    false_more (bit_at old n == 1) ∙ ap (λ (b : Bool). (bit_at old n == 1) || (b && (bit_at x n == 1))) (sym turned)

own_or : (masks : List ℕ) (x s p n : ℕ) → p < length masks → (b : Bool) → (s == p) ≡ b
    → (bit_at (get_or (slice_set masks p (bit_or (get_or masks p 0) x)) s 0) n == 1) ≡ ((bit_at (get_or masks s 0) n == 1) || ((p == s) && (bit_at x n == 1)))
own_or masks x s p n low b is =
    ap (λ (value : ℕ). bit_at value n == 1) (set_at masks s p (bit_or (get_or masks p 0) x) b is low ∙ here b is) ∙ one_or (get_or masks s 0) x s p n b is
  where
    here : (b : Bool) → (s == p) ≡ b → (if b then bit_or (get_or masks p 0) x else get_or masks s 0) ≡ (if b then bit_or (get_or masks s 0) x else get_or masks s 0)
    here true same = ap (λ (at : ℕ). bit_or (get_or masks at 0) x) (sym (eqb-true s p same))
    here false other = refl

pub down_more : (tree : Tree) (row masks next : List ℕ) (switches k p x s number : ℕ) → get_or tree.parents k None ≡ Some p → p < length masks
    → x ≡ where_meets switches (get_or tree.below k 0) (get_or tree.ends k 0) → next ≡ slice_set masks p (bit_or (get_or masks p 0) x)
    → (bit_at (get_or masks s 0) number == 1)
    ≡ (((bit_at (get_or row s 0) number == 1) || leads_up tree switches s number) || some_lead_down tree k switches s number)
    → (bit_at (get_or next s 0) number == 1)
    ≡ (((bit_at (get_or row s 0) number == 1) || leads_up tree switches s number) || some_lead_down tree (k + 1) switches s number)
down_more tree row masks next switches k p x s number of low is becomes so_far =
    let before = (bit_at (get_or row s 0) number == 1) || leads_up tree switches s number in
    ap (λ (all : List ℕ). bit_at (get_or all s 0) number == 1) becomes
    ∙ own_or masks x s p number low (s == p) refl
    ∙ ap (λ (b : Bool). b || ((p == s) && (bit_at x number == 1))) so_far
    ∙ or_assoc before (some_lead_down tree k switches s number) ((p == s) && (bit_at x number == 1))
    ∙ ap (λ (b : Bool). before || (some_lead_down tree k switches s number || ((p == s) && b)))
    (ap (λ (n : ℕ). bit_at n number == 1) is ∙ where_bit switches (get_or tree.below k 0) (get_or tree.ends k 0) number)
    ∙ ap (λ (o : Option ℕ). before || (some_lead_down tree k switches s number
    || (is_that_port o s && (meets switches (get_or tree.below k 0) && (bit_at (get_or tree.ends k 0) number == 1))))) (sym of)
    ∙ ap (λ (b : Bool). before || b) (sym (down_any tree k switches s number))

pub no_down : (tree : Tree) (row masks next : List ℕ) (switches k s number : ℕ) → get_or tree.parents k None ≡ None → next ≡ masks
    → (bit_at (get_or masks s 0) number == 1)
    ≡ (((bit_at (get_or row s 0) number == 1) || leads_up tree switches s number) || some_lead_down tree k switches s number)
    → (bit_at (get_or next s 0) number == 1)
    ≡ (((bit_at (get_or row s 0) number == 1) || leads_up tree switches s number) || some_lead_down tree (k + 1) switches s number)
no_down tree row masks next switches k s number of becomes so_far =
    let before = (bit_at (get_or row s 0) number == 1) || leads_up tree switches s number in
    ap (λ (all : List ℕ). bit_at (get_or all s 0) number == 1) becomes ∙ so_far
    ∙ ap (λ (b : Bool). before || b) (false_more (some_lead_down tree k switches s number)
    ∙ ap (λ (o : Option ℕ). some_lead_down tree k switches s number
    || (is_that_port o s && (meets switches (get_or tree.below k 0) && (bit_at (get_or tree.ends k 0) number == 1)))) (sym of)
    ∙ sym (down_any tree k switches s number))

-- ---- one switch
and_true : (a b : Bool) → a ≡ true → b ≡ (a && b)
and_true true b is = refl
and_true false b is = absurd (false≢true is)

-- one port more that leads down from it
pub way_down : (tree : Tree) (held so_far next switches k s number : ℕ) → is_that_port (get_or tree.parents k None) s ≡ true
    → next ≡ bit_or so_far (where_meets switches (get_or tree.below k 0) (get_or tree.ends k 0))
    → (bit_at so_far number == 1) ≡ (((bit_at held number == 1) || leads_up tree switches s number) || some_lead_down tree k switches s number)
    → (bit_at next number == 1) ≡ (((bit_at held number == 1) || leads_up tree switches s number) || some_lead_down tree (k + 1) switches s number)
way_down tree held so_far next switches k s number own is before =
    let front = (bit_at held number == 1) || leads_up tree switches s number in
    ap (λ (n : ℕ). bit_at n number == 1) is
    ∙ either_bit so_far (where_meets switches (get_or tree.below k 0) (get_or tree.ends k 0)) number
    ∙ ap (λ (b : Bool). b || (bit_at (where_meets switches (get_or tree.below k 0) (get_or tree.ends k 0)) number == 1)) before
    ∙ or_assoc front (some_lead_down tree k switches s number) (bit_at (where_meets switches (get_or tree.below k 0) (get_or tree.ends k 0)) number == 1)
    ∙ ap (λ (b : Bool). front || (some_lead_down tree k switches s number || b))
    (where_bit switches (get_or tree.below k 0) (get_or tree.ends k 0) number
    ∙ and_true (is_that_port (get_or tree.parents k None) s) (meets switches (get_or tree.below k 0) && (bit_at (get_or tree.ends k 0) number == 1)) own)
    ∙ ap (λ (b : Bool). front || b) (sym (down_any tree k switches s number))

-- a switch that is not next below it
pub down_none : (tree : Tree) (switches k s number : ℕ) → is_that_port (get_or tree.parents k None) s ≡ false
    → some_lead_down tree (k + 1) switches s number ≡ some_lead_down tree k switches s number
down_none tree switches k s number other =
    down_any tree k switches s number
    ∙ ap (λ (b : Bool). some_lead_down tree k switches s number || b)
    (and_left (is_that_port (get_or tree.parents k None) s) (meets switches (get_or tree.below k 0) && (bit_at (get_or tree.ends k 0) number == 1)) other)
    ∙ sym (false_more (some_lead_down tree k switches s number))

-- no port leads down so far
pub down_first : (tree : Tree) (switches s number : ℕ) → some_lead_down tree 0 switches s number ≡ false
unfolding some_lead_down
down_first tree switches s number = refl

-- ---- where nothing is attached
meets_none : (set : ℕ) → meets 0 set ≡ false
meets_none set = refl

pub none_spread : (tree : Tree) (row : List ℕ) (switches : ℕ) → switches ≡ 0 → IsSpread tree row switches row
unfolding some_lead_down
none_spread tree row switches none s number low =
    let up : leads_up tree switches s number ≡ false =
    ap (λ (n : ℕ). meets n (get_or tree.outside s 0) && (bit_at (get_or tree.ups s 0) number == 1)) none
    ∙ ap (λ (b : Bool). b && (bit_at (get_or tree.ups s 0) number == 1)) (meets_none (get_or tree.outside s 0)) in
    let down : list_any (leads_down tree switches s number) (range_with_len 0 64) ≡ false =
    none_leads (range_with_len 0 64) in
    false_more (bit_at (get_or row s 0) number == 1) ∙ false_more ((bit_at (get_or row s 0) number == 1) || false)
    ∙ sym (ap (λ (b : Bool). ((bit_at (get_or row s 0) number == 1) || b) || list_any (leads_down tree switches s number) (range_with_len 0 64)) up
    ∙ ap (λ (b : Bool). ((bit_at (get_or row s 0) number == 1) || false) || b) down)
  where
    none_there : (a b : Bool) → (a && (false && b)) ≡ false
    none_there true b = refl
    none_there false b = refl

    none_leads : (xs : List ℕ) → list_any (leads_down tree switches s number) xs ≡ false
    none_leads [] = refl
    none_leads (c ∷ xs) =
        let one : leads_down tree switches s number c ≡ false =
        ap (λ (n : ℕ). is_that_port (get_or tree.parents c None) s && (meets n (get_or tree.below c 0) && (bit_at (get_or tree.ends c 0) number == 1))) none
        ∙ ap (λ (b : Bool). is_that_port (get_or tree.parents c None) s && (b && (bit_at (get_or tree.ends c 0) number == 1))) (meets_none (get_or tree.below c 0))
        ∙ none_there (is_that_port (get_or tree.parents c None) s) (bit_at (get_or tree.ends c 0) number == 1) in
        (λ i. one i || list_any (leads_down tree switches s number) xs) ∙ none_leads xs
