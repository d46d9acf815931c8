-- Tables while they are written: an entry that is set changes none of those that do not read it.
use Rattle.std.proofs.Common.{◌≡◌, ◌≢◌, ℕ, zero, suc, ◌+◌, ◌<◌, ◌≤◌, Bool, true, false, not, cond, ◌==◌, nat_lt, List, [], ◌∷◌, ◌++◌, length, map, slice_set, get_or, ◌⊎◌, inl, inr}
use Rattle.std.proofs.Common.{Option, Some, None, IfSome, refl, sym, ap, subst, ◌∙◌, arith, get_or-set_same, get_or-set_other}
use Rattle.std.proofs.lemmas.List.{set-get_or}
use Rattle.std.specs.List.{fold, list_all, range_with_len}
use Rattle.std.proofs.Math.ListN.{length-set}
use Rattle.std.proofs.lemmas.Bool.{and_parts, cases_lt, eqb-true, eqb-false, ltb-true, ne_eqb, false≢true}
use Rattle.std.proofs.lemmas.List.FromFn.{get_or-map-range_with_len, length-map-range_with_len}
use Rattle.step_results.proofs.ListLemmas.{list_all_weaker}
use Rattle.updn_routes.specs.declared.link.Link.{Link}
use Rattle.updn_routes.specs.declared.table.NextHop.{NextHop}
use Rattle.updn_routes.specs.Cabling.{links_of}
use Rattle.updn_routes.specs.Tables.{AllDown, AllUp, AllWithin, AreTables, IsDownFrom, IsTable, IsUpTo, best_of, entry_at, entry_first, home, or_better, or_link, or_up}

-- ---- lists
pub past_end : {X : Type 0} (xs : List X) (i : ℕ) (d : X) → length xs ≤ i → get_or xs i d ≡ d
past_end [] i d past = refl
past_end (x ∷ xs) zero d past = absurd (let no_room : ⊥ = omega (arith, past) in no_room)
past_end (x ∷ xs) (suc i) d past = past_end xs i d (omega (arith, past))

set_same : (table : List (Option NextHop)) (p : ℕ) (way : Option NextHop) → p < length table
    → entry_at (slice_set table p way) p ≡ way
set_same table p way less = get_or-set_same table p way None less

set_other : (table : List (Option NextHop)) (p q : ℕ) (way : Option NextHop) → q ≢ p
    → entry_at (slice_set table p way) q ≡ entry_at table q
set_other table p q way apart = get_or-set_other table p q way None apart

-- ---- the best link
-- it does not read an entry that no link leads to
pub best_same : (falls : Bool) (table : List (Option NextHop)) (p : ℕ) (way : Option NextHop) (row : List Link) (best : Option NextHop)
    → list_all (λ link. not (link.to == p)) row ≡ true
    → fold (or_link falls (slice_set table p way)) best row ≡ fold (or_link falls table) best row
best_same falls table p way [] best all = refl
best_same falls table p way (link ∷ row) best all =
    let parts = and_parts (not (link.to == p)) (list_all (λ l. not (l.to == p)) row) all in
    let same = set_other table p link.to way (apart (link.to == p) refl parts.0) in
    ap (λ o. fold (or_link falls (slice_set table p way)) (or_better falls best link.port o) row) same
    ∙ best_same falls table p way row (or_better falls best link.port (entry_at table link.to)) parts.1
  where
    apart : (b : Bool) → (link.to == p) ≡ b → not b ≡ true → link.to ≢ p
    apart true e h = absurd (false≢true h)
    apart false e h = eqb-false link.to p e

-- it is one hop longer than some entry
within_step : (falls : Bool) (most : ℕ) (best : Option NextHop) (port : ℕ) (beyond : Option NextHop)
    → IfSome best (λ hop. hop.hops ≤ most + 1) → IfSome beyond (λ hop. hop.hops ≤ most)
    → IfSome (or_better falls best port beyond) (λ hop. hop.hops ≤ most + 1)
within_step falls most best port None one other = one
within_step falls most None port (Some beyond) one other = omega (arith, other)
within_step falls most (Some best) port (Some beyond) one other =
    by (nat_lt (beyond.hops + 1) best.hops)
  where
    longer : NextHop
    longer = record { port = port; hops = beyond.hops + 1; falls = falls }

    by : (b : Bool) → IfSome (Some (cond b longer best)) (λ hop. hop.hops ≤ most + 1)
    by true = omega (arith, other)
    by false = one

best_within : (falls : Bool) (most : ℕ) (table : List (Option NextHop)) → AllWithin most table → (row : List Link) (best : Option NextHop)
    → IfSome best (λ hop. hop.hops ≤ most + 1) → IfSome (fold (or_link falls table) best row) (λ hop. hop.hops ≤ most + 1)
best_within falls most table all [] best one = one
best_within falls most table all (link ∷ row) best one =
    best_within falls most table all row (or_better falls best link.port (entry_at table link.to)) (within_step falls most best link.port (entry_at table link.to) one (all link.to))

within_more : (most more : ℕ) (o : Option NextHop) → most ≤ more → IfSome o (λ hop. hop.hops ≤ most)
    → IfSome o (λ hop. hop.hops ≤ more)
within_more most more None le one = tt
within_more most more (Some hop) le one = omega (arith, le, one)

set_within : (most : ℕ) (table : List (Option NextHop)) (p : ℕ) (way : Option NextHop) → p < length table
    → AllWithin most table → IfSome way (λ hop. hop.hops ≤ most + 1) → AllWithin (most + 1) (slice_set table p way)
set_within most table p way less all one q = by (q == p) refl
  where
    by : (b : Bool) → (q == p) ≡ b → IfSome (entry_at (slice_set table p way) q) (λ hop. hop.hops ≤ most + 1)
    by true e =
        subst (λ (k : ℕ). IfSome (entry_at (slice_set table p way) k) (λ hop. hop.hops ≤ most + 1)) (sym (eqb-true q p e))
        (subst (λ (o : Option NextHop). IfSome o (λ hop. hop.hops ≤ most + 1)) (sym (set_same table p way less)) one)
    by false e =
        subst (λ (o : Option NextHop). IfSome o (λ hop. hop.hops ≤ most + 1)) (sym (set_other table p q way (eqb-false q p e)))
        (within_more most (most + 1) (entry_at table q) (omega arith) (all q))

-- ---- downwards
pub down_first : (downs : List (List Link)) (d : ℕ) → d < length downs
    → IsDownFrom downs d d 0 (map (entry_first d) (range_with_len 0 (length downs)))
down_first downs d there =
    record {
      count = length-map-range_with_len (entry_first d) 0 (length downs);
      at_home = at d there ∙ is_home;
      past = λ p more. none p (ne_eqb p d (λ same. let no_room : ⊥ = omega (arith, more, same) in no_room));
      right = λ p low high. absurd (let no_room : ⊥ = omega (arith, low, high) in no_room);
      small = λ p. small p (p == d) refl;
    }
  where
    table : List (Option NextHop)
    table = map (entry_first d) (range_with_len 0 (length downs))

    at : (p : ℕ) → p < length downs → entry_at (map (entry_first d) (range_with_len 0 (length downs))) p ≡ entry_first d p
    at p less =
        let same : 0 + p ≡ p = omega arith in get_or-map-range_with_len (entry_first d) 0 (length downs) p p None less same

    is_home : entry_first d d ≡ Some home
    is_home = by (d == d) refl
      where
        by : (b : Bool) → (d == d) ≡ b → cond b (Some home) None ≡ Some home
        by true e = refl
        by false e = absurd (eqb-false d d e refl)

    none : (p : ℕ) → (p == d) ≡ false → entry_at (map (entry_first d) (range_with_len 0 (length downs))) p ≡ None
    none p e =
        elim (cases_lt p (length downs)) [
          | inl less ↦ at p less ∙ ap (λ b. cond b (Some home) None) e
          | inr past ↦ past_end (map (entry_first d) (range_with_len 0 (length downs))) p None (let long = length-map-range_with_len (entry_first d) 0 (length downs) in omega (arith, past, long))
        ]

    small : (p : ℕ) (b : Bool) → (p == d) ≡ b
        → IfSome (entry_at (map (entry_first d) (range_with_len 0 (length downs))) p) (λ hop. hop.hops ≤ 0)
    small p true e =
        let same = eqb-true p d e in
        subst (λ (o : Option NextHop). IfSome o (λ hop. hop.hops ≤ 0)) (sym (at p (omega (arith, same, there)) ∙ ap (λ b. cond b (Some home) None) e)) (omega arith)
    small p false e = subst (λ (o : Option NextHop). IfSome o (λ hop. hop.hops ≤ 0)) (sym (none p e)) tt

pub down_more : (downs : List (List Link)) (d p most : ℕ) (table : List (Option NextHop)) (way : Option NextHop)
    → AllDown downs → p < d → d < length downs → way ≡ best_of true table (links_of downs p)
    → IsDownFrom downs d (suc p) most table → IsDownFrom downs d p (most + 1) (slice_set table p way)
down_more downs d p most table way all less there is so_far =
    record {
      count = length-set table p way ∙ so_far.count;
      at_home = set_other table p d way (λ same. let no_room : ⊥ = omega (arith, less, same) in no_room) ∙ so_far.at_home;
      past = λ q more. set_other table p q way (λ same. let no_room : ⊥ = omega (arith, less, same, more) in no_room) ∙ so_far.past q more;
      right = λ q low high. right q low high (cases_lt p q);
      small = set_within most table p way room so_far.small (subst (λ (o : Option NextHop). IfSome o (λ hop. hop.hops ≤ most + 1)) (sym is) (best_within true most table so_far.small (links_of downs p) None tt));
    }
  where
    room : p < length table
    room = let long = so_far.count in omega (arith, long, less, there)

    same_best : (q : ℕ) → p ≤ q → best_of true (slice_set table p way) (links_of downs q) ≡ best_of true table (links_of downs q)
    same_best q low =
        best_same true table p way (links_of downs q) None
        (list_all_weaker (λ link. nat_lt q link.to) (λ link. not (link.to == p)) (λ link h. ap not (ne_eqb link.to p (λ same. let past = ltb-true q link.to h in let no_room : ⊥ = omega (arith, past, same, low) in no_room))) (links_of downs q) (all q))

    right : (q : ℕ) → p ≤ q → q < d → (p < q) ⊎ (q ≤ p)
        → entry_at (slice_set table p way) q ≡ best_of true (slice_set table p way) (links_of downs q)
    right q low high (inl more) =
        set_other table p q way (λ same. let no_room : ⊥ = omega (arith, more, same) in no_room)
        ∙ (so_far.right q (omega (arith, more)) high ∙ sym (same_best q low))
    right q low high (inr no_more) =
        let same : p ≡ q = omega (arith, low, no_more) in
        subst (λ (k : ℕ). entry_at (slice_set table p way) k ≡ best_of true (slice_set table p way) (links_of downs k)) same
        (set_same table p way room ∙ (is ∙ sym (same_best p (omega arith))))

-- ---- upwards
not_both : (hop : NextHop) → ◌≡◌ {A = Option NextHop} None (Some hop) → ⊥
not_both hop h = cc

pub up_more : (ups : List (List Link)) (down table : List (Option NextHop)) (last most : ℕ) (way : Option NextHop)
    → AllUp ups → last < length down → entry_at table last ≡ None → way ≡ best_of false table (links_of ups last)
    → IsUpTo ups down last most table → IsUpTo ups down (last + 1) (most + 1) (slice_set table last way)
up_more ups down table last most way all less empty is so_far =
    record {
      count = length-set table last way ∙ so_far.count;
      kept = λ p hop e. kept p hop e (p == last) refl;
      waits = λ p low. set_other table last p way (λ same. let no_room : ⊥ = omega (arith, low, same) in no_room) ∙ so_far.waits p (omega (arith, low));
      right = λ p low e. right p low e (cases_lt p last);
      small = set_within most table last way room so_far.small (subst (λ (o : Option NextHop). IfSome o (λ hop. hop.hops ≤ most + 1)) (sym is) (best_within false most table so_far.small (links_of ups last) None tt));
    }
  where
    room : last < length table
    room = let long = so_far.count in omega (arith, long, less)

    kept : (p : ℕ) (hop : NextHop) → entry_at down p ≡ Some hop → (b : Bool) → (p == last) ≡ b
        → entry_at (slice_set table last way) p ≡ Some hop
    kept p hop e true f =
        let same = eqb-true p last f in
        absurd (not_both hop (sym empty ∙ (so_far.waits last (omega arith) ∙ subst (λ (k : ℕ). entry_at down k ≡ Some hop) same e)))
    kept p hop e false f = set_other table last p way (eqb-false p last f) ∙ so_far.kept p hop e

    same_best : (q : ℕ) → q ≤ last → best_of false (slice_set table last way) (links_of ups q) ≡ best_of false table (links_of ups q)
    same_best q low =
        best_same false table last way (links_of ups q) None
        (list_all_weaker (λ link. nat_lt link.to q) (λ link. not (link.to == last)) (λ link h. ap not (ne_eqb link.to last (λ same. let past = ltb-true link.to q h in let no_room : ⊥ = omega (arith, past, same, low) in no_room))) (links_of ups q) (all q))

    right : (p : ℕ) → p < last + 1 → entry_at down p ≡ None → (p < last) ⊎ (last ≤ p)
        → entry_at (slice_set table last way) p ≡ best_of false (slice_set table last way) (links_of ups p)
    right p low e (inl before) =
        set_other table last p way (λ same. let no_room : ⊥ = omega (arith, before, same) in no_room)
        ∙ (so_far.right p before e ∙ sym (same_best p (omega (arith, before))))
    right p low e (inr no_less) =
        let same : last ≡ p = omega (arith, low, no_less) in
        subst (λ (k : ℕ). entry_at (slice_set table last way) k ≡ best_of false (slice_set table last way) (links_of ups k)) same
        (set_same table last way room ∙ (is ∙ sym (same_best last (omega arith))))

pub up_same : (ups : List (List Link)) (down table : List (Option NextHop)) (last most : ℕ) (hop : NextHop)
    → entry_at table last ≡ Some hop → IsUpTo ups down last most table → IsUpTo ups down (last + 1) (most + 1) table
up_same ups down table last most hop there so_far =
    record {
      count = so_far.count;
      kept = so_far.kept;
      waits = λ p low. so_far.waits p (omega (arith, low));
      right = λ p low e. right p low e (cases_lt p last);
      small = λ p. within_more most (most + 1) (entry_at table p) (omega arith) (so_far.small p);
    }
  where
    right : (p : ℕ) → p < last + 1 → entry_at down p ≡ None → (p < last) ⊎ (last ≤ p)
        → entry_at table p ≡ best_of false table (links_of ups p)
    right p low e (inl before) = so_far.right p before e
    right p low e (inr no_less) =
        let same : p ≡ last = omega (arith, low, no_less) in
        absurd (not_both hop (sym e ∙ (ap (entry_at down) same ∙ (sym (so_far.waits last (omega arith)) ∙ there))))

pub up_step : (ups : List (List Link)) (down table : List (Option NextHop)) (last most : ℕ) (way : Option NextHop)
    → AllUp ups → last < length down
    → way ≡ or_up (entry_at table last) (best_of false table (links_of ups last))
    → IsUpTo ups down last most table → IsUpTo ups down (last + 1) (most + 1) (slice_set table last way)
up_step ups down table last most way all less is so_far = by (entry_at table last) refl
  where
    by : (o : Option NextHop) → entry_at table last ≡ o → IsUpTo ups down (last + 1) (most + 1) (slice_set table last way)
    by None e =
        up_more ups down table last most way all less e (is ∙ ap (λ o. or_up o (best_of false table (links_of ups last))) e) so_far
    by (Some hop) e =
        let kept : way ≡ entry_at table last = is ∙ (ap (λ o. or_up o (best_of false table (links_of ups last))) e ∙ sym e) in
        let same : table ≡ slice_set table last way = sym (ap (λ o. slice_set table last o) kept ∙ set-get_or table last None) in
        subst (λ (list : List (Option NextHop)). IsUpTo ups down (last + 1) (most + 1) list) same (up_same ups down table last most hop e so_far)

-- ---- all targets
pub tables_none : (downs ups : List (List Link)) → AreTables downs ups 0 []
tables_none downs ups =
    record { count = refl; each = λ d less. absurd (let no_room : ⊥ = omega (arith, less) in no_room) }

at_push : (tables : List (List (Option NextHop))) (one : List (Option NextHop)) (i : ℕ) → i < length tables
    → get_or (tables ++ one ∷ []) i [] ≡ get_or tables i []
at_push [] one i less = absurd (let no_room : ⊥ = omega (arith, less) in no_room)
at_push (table ∷ tables) one zero less = refl
at_push (table ∷ tables) one (suc i) less = at_push tables one i (omega (arith, less))

at_last : (tables : List (List (Option NextHop))) (one : List (Option NextHop))
    → get_or (tables ++ one ∷ []) (length tables) [] ≡ one
at_last [] one = refl
at_last (table ∷ tables) one = at_last tables one

long_push : (tables : List (List (Option NextHop))) (one : List (Option NextHop)) → length (tables ++ one ∷ []) ≡ length tables + 1
long_push [] one = refl
long_push (table ∷ tables) one = let more = long_push tables one in omega (arith, more)

pub tables_more : (downs ups : List (List Link)) (many : ℕ) (tables : List (List (Option NextHop))) (one : List (Option NextHop))
    → AreTables downs ups many tables → IsTable downs ups many one → AreTables downs ups (many + 1) (tables ++ one ∷ [])
tables_more downs ups many tables one are is =
    record { count = long_push tables one ∙ ap (λ k. k + 1) are.count; each = λ d less. by d less (cases_lt d many) }
  where
    by : (d : ℕ) → d < many + 1 → (d < many) ⊎ (many ≤ d) → IsTable downs ups d (get_or (tables ++ one ∷ []) d [])
    by d less (inl low) =
        subst (λ (t : List (Option NextHop)). IsTable downs ups d t) (sym (at_push tables one d (let long = are.count in omega (arith, low, long)))) (are.each d low)
    by d less (inr high) =
        let same : many ≡ d = omega (arith, less, high) in
        subst (λ (k : ℕ). IsTable downs ups k (get_or (tables ++ one ∷ []) k [])) same
        (subst (λ (t : List (Option NextHop)). IsTable downs ups many t) (sym (ap (λ k. get_or (tables ++ one ∷ []) k []) (sym are.count) ∙ at_last tables one)) is)
