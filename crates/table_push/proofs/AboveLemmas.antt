-- Who is above a switch in the spanning tree, step by step.
use Rattle.std.proofs.Common.{ℕ, zero, suc, ◌≡◌, ◌+◌, ◌-◌, ◌<◌, ◌≤◌, ◌==◌, ◌&&◌, ◌||◌, ◌∙◌, inl, inr, ap, refl, sym, Bool, true, false, nat_lt, List, length, get_or, replicate, slice_set, bit_or, Option, Some, None, option_map, arith}
use Rattle.std.specs.Int.{bit_at}
use Rattle.std.specs.Option.{option_and_then, option_map_or}
use Rattle.std.proofs.lemmas.Bool.{eq-eqb, eqb-true, false≢true, ltb-false, ltb-true, or_cases, or_right}
use Rattle.std.proofs.lemmas.List.{length-set}
use Rattle.std.proofs.lemmas.Option.{none-some, option_and_then_some, same_Some}
use Rattle.std.proofs.lemmas.Bool.Decides.{nat_tests}
use Rattle.step_results.proofs.ListLemmas.{found_passes}
use Rattle.step_results.proofs.BoolLemmas.{or_assoc}
use Rattle.table_push.specs.MaskSteps.{is_that_port}
use Rattle.table_push.specs.TreeSteps.{ArePut, is_up_to}
use Rattle.table_push.proofs.ReachLemmas.{no_bits, same_answers}
use Rattle.table_push.proofs.AttachmentBitLemmas.{own_bit}
use Rattle.updn_routes.specs.declared.link.Link.{Link}
use Rattle.updn_routes.specs.Cabling.{links_of}
use Rattle.updn_routes.specs.Sides.{above, is_below, parent}
use Rattle.updn_routes.specs.Subnet.{RoutesState}
use Rattle.updn_routes.specs.Tree.{tree_link}

-- ---- steps up
module _ (rows : List (List Link)) (depths : List ℕ) where
  abbrev depth : ℕ → ℕ
  depth s = get_or depths s 0

  -- a parent is one less deep
  one_less : (t p : ℕ) → parent rows depths t ≡ Some p → depth p + 1 ≡ depth t
  one_less t p h = by (tree_link rows depths t) refl h
    where
      by : (o : Option Link) → tree_link rows depths t ≡ o → option_map (λ link. link.to) o ≡ Some p → depth p + 1 ≡ depth t
      by None e none = absurd (none-some p none)
      by (Some link) e same =
          let good : Link → Bool = λ link. depth link.to + 1 == depth t in
          let passes = eqb-true (depth link.to + 1) (depth t) (found_passes good (links_of rows t) link e) in
          ap (λ (v : ℕ). depth v + 1) (sym (same_Some link.to p same)) ∙ passes

  -- so many steps up, so many less deep
  so_many : (hops t s : ℕ) → above rows depths hops t ≡ Some s → depth s + hops ≡ depth t
  so_many zero t s h = let same = ap (λ (v : ℕ). depth v) (same_Some t s h) in omega (arith, same)
  so_many (suc hops) t s h =
      option_and_then_some (above rows depths hops) (parent rows depths t) s h
      (λ p up rest. let one = one_less t p up in let more = so_many hops p s rest in omega (arith, one, more))

  -- one step more at the end
  pub one_more_up : (hops t : ℕ) → above rows depths (suc hops) t ≡ option_and_then (parent rows depths) (above rows depths hops t)
  one_more_up zero t = single (parent rows depths t)
    where
      single : (o : Option ℕ) → option_and_then (above rows depths zero) o ≡ o
      single None = refl
      single (Some p) = refl
  one_more_up (suc hops) t = by (parent rows depths t) (λ p. one_more_up hops p)
    where
      by : (o : Option ℕ) → ((p : ℕ) → above rows depths (suc hops) p ≡ option_and_then (parent rows depths) (above rows depths hops p))
          → option_and_then (above rows depths (suc hops)) o ≡ option_and_then (parent rows depths) (option_and_then (above rows depths hops) o)
      by None each = refl
      by (Some p) each = each p

  below_by : (hops t s : ℕ) → above rows depths hops t ≡ Some s → is_below rows depths s t ≡ true
  below_by hops t s h =
      let many : depth t - depth s ≡ hops = (let so = so_many hops t s h in omega (arith, so)) in
      ap (λ (n : ℕ). option_map_or (λ top. top == s) (above rows depths n t) false) many
      ∙ ap (λ (o : Option ℕ). option_map_or (λ top. top == s) o false) h ∙ eq-eqb s s refl

that_one : (o : Option ℕ) (s : ℕ) → is_that_port o s ≡ true → o ≡ Some s
that_one None s h = absurd (false≢true h)
that_one (Some top) s h = ap (λ (v : ℕ). Some v) (eqb-true top s h)

one_of : (s : ℕ) (o : Option ℕ) → o ≡ Some s → is_that_port o s ≡ true
one_of s o h = ap (λ (some : Option ℕ). is_that_port some s) h ∙ eq-eqb s s refl

or_left : (a b : Bool) → a ≡ true → (a || b) ≡ true
or_left true b h = refl
or_left false b h = absurd (false≢true h)

module _ (routes : RoutesState) (t s : ℕ) where
  abbrev way : ℕ → Option ℕ
  way hops = above routes.between.rows routes.between.depths hops t

  abbrev depth_of : ℕ → ℕ
  depth_of v = get_or routes.between.depths v 0

  from_up : (count : ℕ) → is_up_to routes count t s ≡ true → is_below routes.between.rows routes.between.depths s t ≡ true
  unfolding is_up_to
  from_up zero h = below_by routes.between.rows routes.between.depths zero t s (ap (λ (v : ℕ). Some v) (eqb-true t s h))
  from_up (suc count) h = elim (or_cases (is_up_to routes count t s) (is_that_port (way (suc count)) s) h) [
    | inl before ↦ from_up count before
    | inr last ↦ below_by routes.between.rows routes.between.depths (suc count) t s (that_one (way (suc count)) s last)
  ]

  to_up : (count hops : ℕ) → hops ≤ count → way hops ≡ Some s → is_up_to routes count t s ≡ true
  unfolding is_up_to
  to_up zero zero few h = eq-eqb t s (same_Some t s h)
  to_up zero (suc hops) few h = absurd (omega (arith, few))
  to_up (suc count) hops few h = by (nat_lt count hops) refl (λ most. to_up count hops most h)
    where
      by : (b : Bool) → nat_lt count hops ≡ b → (hops ≤ count → is_up_to routes count t s ≡ true) → (is_up_to routes count t s || is_that_port (way (suc count)) s) ≡ true
      by true more before =
          let less = ltb-true count hops more in
          let same : hops ≡ suc count = omega (arith, few, less) in
          or_right (is_up_to routes count t s) (is_that_port (way (suc count)) s) (one_of s (way (suc count)) (ap way (sym same) ∙ h))
      by false most before =
          let not_more = ltb-false count hops most in
          or_left (is_up_to routes count t s) (is_that_port (way (suc count)) s) (before (omega (arith, not_more)))

  pub up_is_below : is_up_to routes (depth_of t) t s ≡ is_below routes.between.rows routes.between.depths s t
  up_is_below =
      same_answers (is_up_to routes (depth_of t) t s) (is_below routes.between.rows routes.between.depths s t) (from_up (depth_of t))
      (λ h. to_up (depth_of t) (depth_of t - depth_of s) (omega arith) (that_one (way (depth_of t - depth_of s)) s h))

-- one step more
pub up_more : (routes : RoutesState) (count t s : ℕ) (at next : Option ℕ) → at ≡ above routes.between.rows routes.between.depths count t
    → next ≡ option_and_then (parent routes.between.rows routes.between.depths) at
    → is_up_to routes (count + 1) t s ≡ (is_up_to routes count t s || is_that_port next s)
unfolding is_up_to
up_more routes count t s at next is then_is =
    let up : count + 1 ≡ suc count = omega arith in
    ap (λ (n : ℕ). is_up_to routes n t s) up
    ∙ ap (λ (o : Option ℕ). is_up_to routes count t s || is_that_port o s)
    (one_more_up routes.between.rows routes.between.depths count t ∙ ap (option_and_then (parent routes.between.rows routes.between.depths)) (sym is) ∙ sym then_is)

pub way_more : (routes : RoutesState) (count t : ℕ) (at next : Option ℕ) → at ≡ above routes.between.rows routes.between.depths count t
    → next ≡ option_and_then (parent routes.between.rows routes.between.depths) at
    → next ≡ above routes.between.rows routes.between.depths (count + 1) t
way_more routes count t at next is then_is =
    let up : suc count ≡ count + 1 = omega arith in
    then_is ∙ ap (option_and_then (parent routes.between.rows routes.between.depths)) is
    ∙ sym (one_more_up routes.between.rows routes.between.depths count t)
    ∙ ap (λ (n : ℕ). above routes.between.rows routes.between.depths n t) up

-- ---- bits that are put
and_distributes : (a b c : Bool) → ((a && c) || (b && c)) ≡ ((a || b) && c)
and_distributes true true true = refl
and_distributes true true false = refl
and_distributes true false true = refl
and_distributes true false false = refl
and_distributes false true true = refl
and_distributes false true false = refl
and_distributes false false true = refl
and_distributes false false false = refl

pub both_put : (p q r : ℕ → Bool) (bit : ℕ) (one two three : List ℕ) → ((s : ℕ) → r s ≡ (p s || q s)) → ArePut p bit one two → ArePut q bit two three
    → ArePut r bit one three
both_put p q r bit one two three are first second = (
  second.0 ∙ first.0,
  λ s t low.
      second.1 s t low ∙ ap (λ (b : Bool). b || (q s && (bit == t))) (first.1 s t low)
      ∙ or_assoc (bit_at (get_or one s 0) t == 1) (p s && (bit == t)) (q s && (bit == t))
      ∙ ap (λ (b : Bool). (bit_at (get_or one s 0) t == 1) || b) (and_distributes (p s) (q s) (bit == t) ∙ ap (λ (b : Bool). b && (bit == t)) (sym (are s))),
)

pub one_put : (place bit x : ℕ) (one two : List ℕ) → place < length one → ((t : ℕ) → (bit_at x t == 1) ≡ (bit == t))
    → two ≡ slice_set one place (bit_or (get_or one place 0) x) → ArePut (is_that_port (Some place)) bit one two
one_put place bit x one two low its is = (
  ap length is ∙ length-set _ _ _,
  λ s t few.
      ap (λ (all : List ℕ). bit_at (get_or all s 0) t == 1) is ∙ own_bit one x s place t bit low (s == place) refl (its t),
)

pub put_as : (p q : ℕ → Bool) (bit : ℕ) (one two : List ℕ) → ((s : ℕ) → q s ≡ p s) → ArePut p bit one two → ArePut q bit one two
put_as p q bit one two are put =
    (put.0, λ s t low. put.1 s t low ∙ ap (λ (b : Bool). (bit_at (get_or one s 0) t == 1) || (b && (bit == t))) (sym (are s)))

pub up_none : (routes : RoutesState) (t s : ℕ) → is_up_to routes 0 t s ≡ is_that_port (Some t) s
unfolding is_up_to
up_none routes t s = refl

zero_there : (count s : ℕ) → get_or {A = ℕ} (replicate count 0) s 0 ≡ 0
zero_there zero s = refl
zero_there (suc count) zero = refl
zero_there (suc count) (suc s) = zero_there count s

pub no_sets : (s n : ℕ) (passes : ℕ → Bool) → (bit_at (get_or {A = ℕ} (replicate 64 0) s 0) n == 1) ≡ (nat_lt n 0 && passes n)
no_sets s n passes =
    let none : nat_lt n 0 ≡ false = grind (arith, nat_tests) in
    ap (λ (x : ℕ). bit_at x n == 1) (zero_there 64 s) ∙ no_bits n ∙ ap (λ (b : Bool). b && passes n) (sym none)
