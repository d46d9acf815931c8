-- The sides of the spanning tree: what lies below a switch, and what lies behind each of its links of the tree.
use Rattle.std.proofs.Common.{◌≡◌, ◌≢◌, ℕ, zero, suc, ◌+◌, ◌-◌, ◌<◌, ◌≤◌, Bool, true, false, not, ◌==◌, nat_le, nat_lt, List, [], ◌∷◌, length, get_or}
use Rattle.std.proofs.Common.{Option, Some, None, option_map, refl, sym, ap, subst, ◌∙◌, arith}
use Rattle.std.specs.List.{IsDistinct}
use Rattle.std.specs.Option.{option_and_then, option_map_or}
use Rattle.std.proofs.lemmas.Bool.{eqb-true, eq-eqb, false≢true, false_from_ne_true, leb-true, ltb-true, not-true, not_from_false, not_from_true}
use Rattle.std.proofs.lemmas.Option.{none-some, same_Some, option_and_then_some}
use Rattle.step_results.proofs.ElementLemmas.{find_all}
use Rattle.step_results.proofs.ListLemmas.{all_at, found_passes}
use Rattle.updn_routes.specs.declared.link.Link.{Link}
use Rattle.updn_routes.specs.Cabling.{is_cabling, links_of}
use Rattle.updn_routes.specs.Laws.{IsSided, SidesPart}
use Rattle.updn_routes.specs.Order.{AreDistances, is_first_root}
use Rattle.updn_routes.specs.Sides.{IsSide, Side, Up, Down, above, back, is_behind, is_below, neighbour, parent}
use Rattle.updn_routes.specs.Tree.{tree_link}
use Rattle.updn_routes.proofs.CablingLemmas.{links_within}
use Rattle.updn_routes.proofs.OrderLemmas.{own}
use Rattle.updn_routes.proofs.TreeLemmas.{link_of, no_tree_link}

module _ (rows : List (List Link)) (is_first : ℕ → Bool) (depths : List ℕ) (cabling : is_cabling rows ≡ true) (right : AreDistances rows is_first depths) where
  abbrev depth : ℕ → ℕ
  depth s = get_or depths s 0

  abbrev up : ℕ → Option ℕ
  up s = parent rows depths s

  -- ---- one step up
  nearer : (s p : ℕ) → s < length rows → up s ≡ Some p → (p < length rows) × (depth p + 1 ≡ depth s)
  nearer s p less h = by (tree_link rows depths s) refl h
    where
      by : (o : Option Link) → tree_link rows depths s ≡ o → option_map (λ link. link.to) o ≡ Some p
          → (p < length rows) × (depth p + 1 ≡ depth s)
      by None e h = absurd (none-some p h)
      by (Some link) e h =
          let same = same_Some link.to p h in
          let good : Link → Bool = λ link. depth link.to + 1 == depth s in
          let passes = eqb-true (depth link.to + 1) (depth s) (found_passes good (links_of rows s) link e) in
          let there = ltb-true link.to (length rows) (find_all (λ link. nat_lt link.to (length rows)) good (links_of rows s) link (links_within rows s cabling less) e) in
          subst (λ (v : ℕ). (v < length rows) × (depth v + 1 ≡ depth s)) same (there, passes)

  no_parent : (s : ℕ) → s < length rows → is_first s ≡ true → up s ≡ None
  no_parent s less is = ap (option_map (λ link. link.to)) (no_tree_link rows is_first depths cabling right s less is)

  some_parent : (s : ℕ) → s < length rows → is_first s ≡ false → (p : ℕ) × (up s ≡ Some p)
  some_parent s less off =
      let link = link_of rows is_first depths cabling right s less off in
      (link.0.to, ap (option_map (λ link. link.to)) link.1)

  top_is : (s : ℕ) → s < length rows → up s ≡ None → is_first s ≡ true
  top_is s less none = by (is_first s) refl
    where
      by : (b : Bool) → is_first s ≡ b → is_first s ≡ true
      by true e = e
      by false e = let p = some_parent s less e in absurd (none-some p.0 (sym none ∙ p.1))

  -- ---- some steps up
  record Step (hops t s : ℕ) : Type 0 where
    next : ℕ
    parent_is : up t ≡ Some next
    rest : above rows depths hops next ≡ Some s

  step_of : (hops t s : ℕ) → above rows depths (suc hops) t ≡ Some s → Step hops t s
  step_of hops t s h =
      option_and_then_some (above rows depths hops) (up t) s h (λ p e rest. record { next = p; parent_is = e; rest = rest })

  over : (hops t p : ℕ) → up t ≡ Some p → above rows depths (suc hops) t ≡ above rows depths hops p
  over hops t p e = ap (option_and_then (above rows depths hops)) e

  reached : (hops t s : ℕ) → t < length rows → above rows depths hops t ≡ Some s
      → (s < length rows) × (depth s + hops ≡ depth t)
  reached zero t s less h =
      subst (λ (v : ℕ). (v < length rows) × (depth v + zero ≡ depth t)) (same_Some t s h) (less, omega arith)
  reached (suc hops) t s less h =
      let step = step_of hops t s h in
      let near = nearer t step.next less step.parent_is in
      let far = reached hops step.next s near.0 step.rest in
      (far.0, (let one = near.1 in let more = far.1 in omega (arith, one, more)))

  joined : (near far t s r : ℕ) → above rows depths near t ≡ Some s → above rows depths far s ≡ Some r
      → (hops : ℕ) × (above rows depths hops t ≡ Some r)
  joined zero far t s r h k = (far, ap (above rows depths far) (same_Some t s h) ∙ k)
  joined (suc near) far t s r h k =
      let step = step_of near t s h in
      let all = joined near far step.next s r step.rest k in
      (suc all.0, over all.0 t step.next step.parent_is ∙ all.1)

  -- the last of these steps
  last : (hops t s : ℕ) → above rows depths (suc hops) t ≡ Some s
      → (c : ℕ) × (above rows depths hops t ≡ Some c) × (up c ≡ Some s)
  last zero t s h = let step = step_of zero t s h in (t, refl, step.parent_is ∙ step.rest)
  last (suc hops) t s h =
      let step = step_of (suc hops) t s h in
      let end = last hops step.next s step.rest in
      (end.0, over hops t step.next step.parent_is ∙ end.1, end.2)

  abbrev Top : ℕ → Type 0
  Top t = (first : ℕ) × (hops : ℕ) × (is_first first ≡ true) × (above rows depths hops t ≡ Some first)

  to_the_top : (k t : ℕ) → t < length rows → depth t ≡ k → Top t
  to_the_top zero t less deep = by (is_first t) refl
    where
      by : (b : Bool) → is_first t ≡ b → Top t
      by true e = (t, zero, e, refl)
      by false e =
          let p = some_parent t less e in
          let near = (nearer t p.0 less p.1).1 in
          absurd (let no_room : ⊥ = omega (arith, near, deep) in no_room)
  to_the_top (suc k) t less deep = by (is_first t) refl (λ p there at. to_the_top k p there at)
    where
      by : (b : Bool) → is_first t ≡ b → ((p : ℕ) → p < length rows → depth p ≡ k → Top p) → Top t
      by true e more = (t, zero, e, refl)
      by false e more =
          let p = some_parent t less e in
          let near = nearer t p.0 less p.1 in
          let on = more p.0 near.0 (let one = near.1 in omega (arith, one, deep)) in
          (on.0, suc on.1, on.2, over on.1 t p.0 p.1 ∙ on.3)

  -- ---- being below
  abbrev under : ℕ → ℕ → Bool
  under s t = is_below rows depths s t

  is_under : (hops s t : ℕ) → t < length rows → above rows depths hops t ≡ Some s → under s t ≡ true
  is_under hops s t less h =
      let so_many : depth t - depth s ≡ hops = (let far = (reached hops t s less h).1 in omega (arith, far)) in
      ap (λ hops. option_map_or (λ top. top == s) (above rows depths hops t) false) so_many
      ∙ (ap (λ o. option_map_or (λ top. top == s) o false) h ∙ eq-eqb s s refl)

  hops_of : (s t : ℕ) → under s t ≡ true → above rows depths (depth t - depth s) t ≡ Some s
  hops_of s t h = by (above rows depths (depth t - depth s) t) h
    where
      by : (o : Option ℕ) → option_map_or (λ top. top == s) o false ≡ true → o ≡ Some s
      by None h = absurd (false≢true h)
      by (Some top) h = ap (λ (v : ℕ). Some v) (eqb-true top s h)

  below_deeper : (s t : ℕ) → t < length rows → under s t ≡ true → depth s ≤ depth t
  below_deeper s t less h =
      let far = (reached (depth t - depth s) t s less (hops_of s t h)).1 in omega (arith, far)

  itself : (s : ℕ) → s < length rows → under s s ≡ true
  itself s less = is_under zero s s less refl

  of_child : (s c : ℕ) → c < length rows → up c ≡ Some s → under s c ≡ true
  of_child s c less e = is_under (suc zero) s c less (over zero c s e)

  further : (a b c : ℕ) → c < length rows → under a b ≡ true → under b c ≡ true → under a c ≡ true
  further a b c less h k =
      let all = joined (depth c - depth b) (depth b - depth a) c b a (hops_of b c k) (hops_of a b h) in
      is_under all.0 a c less all.1

  one_above : (a b t : ℕ) → t < length rows → depth a ≡ depth b → under a t ≡ true → under b t ≡ true → a ≡ b
  one_above a b t less deep h k =
      same_Some a b (
      sym (hops_of a t h) ∙ (ap (λ d. above rows depths (depth t - d) t) deep ∙ hops_of b t k)
      )

  upward : (s p : ℕ) → s < length rows → up s ≡ Some p → under s p ≡ false
  upward s p less e =
      let near = nearer s p less e in
      false_from_ne_true (under s p) (λ h. let far = below_deeper s p near.0 h in let one = near.1 in omega (arith, far, one))

  record Child (s t : ℕ) : Type 0 where
    child : ℕ
    there : child < length rows
    parent_is : up child ≡ Some s
    below : under child t ≡ true

  child_of : (s t : ℕ) → t < length rows → under s t ≡ true → s ≢ t → Child s t
  child_of s t less h away = by (depth t - depth s) (hops_of s t h)
    where
      by : (hops : ℕ) → above rows depths hops t ≡ Some s → Child s t
      by zero e = absurd (away (sym (same_Some t s e)))
      by (suc hops) e =
          let end = last hops t s e in
          record {
            child = end.0;
            there = (reached hops t end.0 less end.1).0;
            parent_is = end.2;
            below = is_under hops end.0 t less end.1;
          }

  pub sided : IsSided rows is_first depths
  sided =
      record {
        meant = λ s t less. (λ h. (depth t - depth s, hops_of s t h), λ way. is_under way.0 s t less way.1);
        nearer = nearer;
        top = λ s less. (no_parent s less, top_is s less);
        first = λ t less. let way = to_the_top (depth t) t less refl in (way.0, way.2, is_under way.1 way.0 t less way.3);
        itself = itself;
        further = further;
        one = one_above;
        upward = upward;
        child = λ s t less h away. let c = child_of s t less h away in (c.child, c.parent_is, c.below);
      }

  -- ---- the sides of a switch
  not_below : (s t : ℕ) → not (under s t) ≡ true → under s t ≡ true → ⊥
  not_below s t off h = false≢true (sym (not-true (under s t) off) ∙ h)

  -- what is not below s is below no child of s, and what is below one child is below no other
  not_below_child : (s c t : ℕ) → t < length rows → c < length rows → up c ≡ Some s → not (under s t) ≡ true
      → under c t ≡ false
  not_below_child s c t less there e off =
      false_from_ne_true (under c t) (λ h. not_below s t off (further s c t less (of_child s c there e) h))

  one_child : (s c d t : ℕ) → t < length rows → c < length rows → d < length rows → up c ≡ Some s → up d ≡ Some s
      → under c t ≡ true → under d t ≡ true → c ≡ d
  one_child s c d t less c_there d_there c_is d_is h k =
      let c_near = (nearer c s c_there c_is).1 in
      let d_near = (nearer d s d_there d_is).1 in
      one_above c d t less (omega (arith, c_near, d_near)) h k

  not_itself : (s : ℕ) → s < length rows → (q : Side) → IsSide rows depths s q
      → is_behind rows depths s q s ≡ false
  not_itself s less Up side = not_from_true (under s s) (itself s less)
  not_itself s less (Down c) side = upward c s side.1 side.0

  back_is : (s : ℕ) → s < length rows → (n : Side) (far : ℕ) → IsSide rows depths s n
      → neighbour rows depths s n ≡ Some far
      → IsSide rows depths far (back s n) × (is_behind rows depths far (back s n) s ≡ true)
  back_is s less Up far side e = ((e, less), itself s less)
  back_is s less (Down c) far side e =
      subst (λ (v : ℕ). IsSide rows depths v Up × (is_behind rows depths v Up s ≡ true)) (same_Some c far e)
      ((s, side.0), not_from_false (under c s) (upward c s side.1 side.0))

  onward : (s : ℕ) → s < length rows → (q n : Side) (far t : ℕ) → t < length rows → IsSide rows depths s q
      → IsSide rows depths s n → q ≢ n → neighbour rows depths s n ≡ Some far → is_behind rows depths s q t ≡ true
      → is_behind rows depths far (back s n) t ≡ true
  onward s less Up Up far t there q_side n_side apart e h = absurd (apart refl)
  onward s less (Down c) Up far t there q_side n_side apart e h =
      further s c t there (of_child s c q_side.1 q_side.0) h
  onward s less Up (Down d) far t there q_side n_side apart e h =
      subst (λ (v : ℕ). not (under v t) ≡ true) (same_Some d far e)
      (not_from_false (under d t) (not_below_child s d t there n_side.1 n_side.0 h))
  onward s less (Down c) (Down d) far t there q_side n_side apart e h =
      subst (λ (v : ℕ). not (under v t) ≡ true) (same_Some d far e)
      (not_from_false (under d t) (false_from_ne_true (under d t) (λ k. apart (ap Down (one_child s c d t there q_side.1 n_side.1 q_side.0 n_side.0 h k)))))

  one_side : (s : ℕ) → s < length rows → (q n : Side) (t : ℕ) → t < length rows → IsSide rows depths s q
      → IsSide rows depths s n → is_behind rows depths s q t ≡ true → is_behind rows depths s n t ≡ true → q ≡ n
  one_side s less Up Up t there q_side n_side h k = refl
  one_side s less (Down c) Up t there q_side n_side h k =
      absurd (false≢true (sym (not_below_child s c t there q_side.1 q_side.0 k) ∙ h))
  one_side s less Up (Down d) t there q_side n_side h k =
      absurd (false≢true (sym (not_below_child s d t there n_side.1 n_side.0 h) ∙ k))
  one_side s less (Down c) (Down d) t there q_side n_side h k =
      ap Down (one_child s c d t there q_side.1 n_side.1 q_side.0 n_side.0 h k)

  -- where there is one first root
  abbrev OneFirst : Type 0
  OneFirst =
      (a b : ℕ) → a < length rows → b < length rows → is_first a ≡ true → is_first b ≡ true → a ≡ b

  some_side : OneFirst → (s : ℕ) → s < length rows → (t : ℕ) → t < length rows → t ≢ s
      → (q : Side) × IsSide rows depths s q × (is_behind rows depths s q t ≡ true)
  some_side only s less t there away = by (under s t) refl (is_first s) refl
    where
      by : (b : Bool) → under s t ≡ b → (f : Bool) → is_first s ≡ f
          → (q : Side) × IsSide rows depths s q × (is_behind rows depths s q t ≡ true)
      by true e f is =
          let c = child_of s t there e (λ same. away (sym same)) in (Down c.child, (c.parent_is, c.there), c.below)
      by false e false is = (Up, some_parent s less is, not_from_false (under s t) e)
      by false e true is =
          let way = to_the_top (depth t) t there refl in
          let same = only way.0 s (reached way.1 t way.0 there way.3).0 less way.2 is in
          absurd (false≢true (sym e ∙ subst (λ (v : ℕ). under v t ≡ true) same (is_under way.1 way.0 t there way.3)))

  pub sides_part : OneFirst → (s : ℕ) → s < length rows → SidesPart rows depths s
  sides_part only s less =
      record {
        not_itself = not_itself s less;
        back_is = back_is s less;
        onward = onward s less;
        some = some_side only s less;
        one = one_side s less;
      }

-- ---- the first root
pub one_first_root : (guids roots : List ℕ) (a b : ℕ) → IsDistinct (λ a b. a == b) guids → a < length guids
    → b < length guids → is_first_root guids roots a ≡ true → is_first_root guids roots b ≡ true → a ≡ b
one_first_root guids [] a b apart al bl h k =
    own guids a b apart al bl (
    let below = leb-true (get_or guids a 0) (get_or guids b 0) (all_at (λ guid. nat_le (get_or guids a 0) guid) guids b 0 h bl) in
    let over = leb-true (get_or guids b 0) (get_or guids a 0) (all_at (λ guid. nat_le (get_or guids b 0) guid) guids a 0 k al) in
    omega (arith, below, over)
    )
one_first_root guids (first ∷ named) a b apart al bl h k =
    own guids a b apart al bl (sym (eqb-true first (get_or guids a 0) h) ∙ eqb-true first (get_or guids b 0) k)
