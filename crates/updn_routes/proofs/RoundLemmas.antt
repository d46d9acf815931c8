-- Rounds find all distances, and as many rounds as there are switches are enough.
use Rattle.std.proofs.Common.{◌≡◌, ℕ, zero, suc, ◌+◌, ◌<◌, ◌≤◌, ◌⊎◌, Bool, true, false, ◌==◌, nat_le, List, [], ◌∷◌, length, map, filter, get_or, Option, Some, None, refl}
use Rattle.std.proofs.Common.{sym, ap, subst, ◌∙◌, inl, inr, arith}
use Rattle.std.specs.List.{list_any, range_with_len}
use Rattle.std.specs.Option.{unwrap_or}
use Rattle.std.proofs.lemmas.Bool.{and_parts, and_from, cases_lt, eqb-true, eq-eqb, leb-true, le-leb, false≢true}
use Rattle.std.proofs.lemmas.List.{get_or-map}
use Rattle.std.proofs.lemmas.List.FromFn.{get_or-map-range_with_len, length-range_with_len}
use Rattle.step_results.proofs.ListLemmas.{list_any_weaker}
use Rattle.sweep.proofs.RoundLemmas.{exactly}
use Rattle.sweep.specs.Rounds.{is_exactly}
use Rattle.updn_routes.specs.declared.link.Link.{Link}
use Rattle.updn_routes.specs.Cabling.{AllJoined, is_cabling, is_next_to, is_walk, links_of}
use Rattle.updn_routes.specs.Order.{AreDistances, IsDistance}
use Rattle.updn_routes.specs.Rounds.{AreFound, at_first, found_at, further, is_marked, or_further, spread}
use Rattle.updn_routes.proofs.CablingLemmas.{ends}
use Rattle.updn_routes.proofs.DistanceLemmas.{joined_distances, next_of}
use Rattle.updn_routes.proofs.PlaceLemmas.{all_stay, fewer, fewer_by_one}
use Rattle.updn_routes.proofs.RouteLemmas.{not_both}
use Rattle.updn_routes.proofs.TableLemmas.{same_some}

-- ---- the first round
first_at : (marks : List Bool) (s : ℕ) → s < length marks → found_at (map at_first marks) s ≡ at_first (is_marked marks s)
first_at marks s less = get_or-map at_first marks s false None less

pub found_first : (rows : List (List Link)) (marks : List Bool) → length marks ≡ length rows
    → AreFound rows (is_marked marks) 0 (map at_first marks)
found_first rows marks count = record { count = long marks ∙ count; right = right; no_nearer = no_nearer }
  where
    long : (bs : List Bool) → length (map at_first bs) ≡ length bs
    long [] = refl
    long (b ∷ bs) = ap suc (long bs)

    at : (s : ℕ) → s < length rows → found_at (map at_first marks) s ≡ at_first (is_marked marks s)
    at s less = first_at marks s (omega (arith, less, count))

    right : (s j : ℕ) → s < length rows → found_at (map at_first marks) s ≡ Some j
        → IsDistance rows (is_marked marks) s j × (j ≤ 0)
    right s j less e = by (is_marked marks s) refl
      where
        home : is_marked marks s ≡ true → j ≡ 0 → IsDistance rows (is_marked marks) s j × (j ≤ 0)
        home is none =
            (record { some = (s, [], is, eq-eqb s s refl, sym none); none_shorter = λ d steps end walk. omega (arith, none) }, omega (arith, none))

        by : (b : Bool) → is_marked marks s ≡ b → IsDistance rows (is_marked marks) s j × (j ≤ 0)
        by true f = home f (same_some j 0 (sym e ∙ (at s less ∙ ap at_first f)))
        by false f = absurd (not_both j (sym (at s less ∙ ap at_first f) ∙ e))

    no_nearer : (s d : ℕ) (steps : List ℕ) → s < length rows → found_at (map at_first marks) s ≡ None
        → is_marked marks d ≡ true → is_walk rows s steps d ≡ true → 0 < length steps
    no_nearer s d [] less e end walk =
        let is = subst (λ (k : ℕ). is_marked marks k ≡ true) (sym (eqb-true s d walk)) end in
        absurd (not_both 0 (sym e ∙ (at s less ∙ ap at_first is)))
    no_nearer s d (t ∷ steps) less e end walk = omega arith

module _ (rows : List (List Link)) (passes : ℕ → Bool) (k : ℕ) (found : List (Option ℕ)) (cabling : is_cabling rows ≡ true) (so_far : AreFound rows passes k found) where
  at : (s : ℕ) → s < length rows → found_at (spread rows found k) s ≡ further rows found k s
  at s less =
      let same : 0 + s ≡ s = omega arith in get_or-map-range_with_len (further rows found k) 0 (length rows) s s None less same

  abbrev near : ℕ → Bool
  near s = list_any (λ link. is_exactly (found_at found link.to) k) (links_of rows s)

  -- where a link leads to a switch at distance k, and no walk is as short
  one_further : (s : ℕ) → s < length rows → found_at found s ≡ None
      → list_any (λ link. is_exactly (found_at found link.to) k) (links_of rows s) ≡ true → IsDistance rows passes s (k + 1)
  one_further s less e h =
      let t = next_of (λ v. is_exactly (found_at found v) k) (links_of rows s) h in
      let there = (ends rows s t.0 cabling less t.1.0).0 in
      let far = (so_far.right t.0 k there (exactly (found_at found t.0) k t.1.1)).0 in
      let more = far.some in
      record {
        some = (more.0, t.0 ∷ more.1, more.2, and_from (is_next_to rows s t.0) _ t.1.0 more.3, (let long = more.4 in omega (arith, long)));
        none_shorter = λ d steps end walk. (let past = so_far.no_nearer s d steps less e end walk in omega (arith, past));
      }

  still_none : (s d : ℕ) (steps : List ℕ) → s < length rows → found_at found s ≡ None
      → list_any (λ link. is_exactly (found_at found link.to) k) (links_of rows s) ≡ false → passes d ≡ true
      → is_walk rows s steps d ≡ true → k + 1 < length steps
  still_none s d [] less e h end walk =
      absurd (let past = so_far.no_nearer s d [] less e end walk in let no_room : ⊥ = omega (arith, past) in no_room)
  still_none s d (t ∷ steps) less e h end walk = by (found_at found t) refl
    where
      parts : (is_next_to rows s t ≡ true) × (is_walk rows t steps d ≡ true)
      parts = and_parts (is_next_to rows s t) (is_walk rows t steps d) walk

      there : t < length rows
      there = (ends rows s t cabling less parts.0).0

      seen : found_at found t ≡ Some k → ⊥
      seen f =
          false≢true (sym h ∙ list_any_weaker (λ link. link.to == t) (λ link. is_exactly (found_at found link.to) k)
          (λ link is. ap (λ v. is_exactly (found_at found v) k) (eqb-true link.to t is) ∙ (ap (λ o. is_exactly o k) f ∙ eq-eqb k k refl)) (links_of rows s) parts.0)

      by : (o : Option ℕ) → found_at found t ≡ o → k + 1 < length (t ∷ steps)
      by None f = let past = so_far.no_nearer t d steps there f end parts.1 in omega (arith, past)
      by (Some j) f =
          let far = so_far.right t j there f in
          let most = far.1 in
          let more = far.0.some in
          let long = more.4 in
          let past = so_far.no_nearer s more.0 (t ∷ more.1) less e more.2 (and_from (is_next_to rows s t) _ parts.0 more.3) in
          let same : j ≡ k = omega (arith, most, long, past) in
          absurd (seen (f ∙ ap Some same))

  pub found_more : AreFound rows passes (k + 1) (spread rows found k)
  found_more = record { count = many 0 (length rows); right = right; no_nearer = no_nearer }
    where
      many : (first n : ℕ) → length (map (further rows found k) (range_with_len first n)) ≡ n
      many first zero = refl
      many first (suc n) = ap suc (many (first + 1) n)

      right : (s j : ℕ) → s < length rows → found_at (spread rows found k) s ≡ Some j
          → IsDistance rows passes s j × (j ≤ k + 1)
      right s j less e = by (found_at found s) refl (near s) refl (sym (at s less) ∙ e)
        where
          by : (o : Option ℕ) → found_at found s ≡ o → (b : Bool) → near s ≡ b → or_further (found_at found s) (near s) k ≡ Some j
              → IsDistance rows passes s j × (j ≤ k + 1)
          by (Some i) f b g is =
              let same = same_some i j (sym (ap (λ o. or_further o (near s) k) f) ∙ is) in
              let far = so_far.right s j less (f ∙ ap Some same) in
              let most = far.1 in
              (far.0, omega (arith, most))
          by None f true g is =
              let same = same_some (k + 1) j (sym (ap (λ o. or_further o (near s) k) f ∙ ap (λ b. or_further None b k) g) ∙ is) in
              (subst (λ (i : ℕ). IsDistance rows passes s i) same (one_further s less f g), omega (arith, same))
          by None f false g is =
              absurd (not_both j (sym (ap (λ o. or_further o (near s) k) f ∙ ap (λ b. or_further None b k) g) ∙ is))

      no_nearer : (s d : ℕ) (steps : List ℕ) → s < length rows → found_at (spread rows found k) s ≡ None
          → passes d ≡ true → is_walk rows s steps d ≡ true → k + 1 < length steps
      no_nearer s d steps less e end walk = by (found_at found s) refl (near s) refl (sym (at s less) ∙ e)
        where
          by : (o : Option ℕ) → found_at found s ≡ o → (b : Bool) → near s ≡ b → or_further (found_at found s) (near s) k ≡ None
              → k + 1 < length steps
          by (Some i) f b g is = absurd (not_both i (sym is ∙ ap (λ o. or_further o (near s) k) f))
          by None f true g is =
              absurd (not_both (k + 1) (sym is ∙ (ap (λ o. or_further o (near s) k) f ∙ ap (λ b. or_further None b k) g)))
          by None f false g is = still_none s d steps less f g end walk

-- ---- distances are less than the number of switches
module _ (rows : List (List Link)) (passes : ℕ → Bool) (distances : List ℕ) (cabling : is_cabling rows ≡ true) (are : AreDistances rows passes distances) where
  far : ℕ → ℕ
  far s = get_or distances s 0

  abbrev At : ℕ → Type 0
  At k = (t : ℕ) × ((t < length rows) × (get_or distances t 0 ≡ k))

  -- each lesser distance is one too
  lesser : (k s d : ℕ) (steps : List ℕ) → s < length rows → passes d ≡ true → is_walk rows s steps d ≡ true
      → get_or distances s 0 ≡ length steps → k ≤ length steps → At k
  lesser k s d [] less end walk long most = (s, (less, omega (arith, long, most)))
  lesser k s d (t ∷ steps) less end walk long most =
      by (cases_lt k (suc (length steps))) (λ even low. lesser k t d steps there end parts.1 even low)
    where
      parts : (is_next_to rows s t ≡ true) × (is_walk rows t steps d ≡ true)
      parts = and_parts (is_next_to rows s t) (is_walk rows t steps d) walk

      there : t < length rows
      there = (ends rows s t cabling less parts.0).0

      by : (k < suc (length steps)) ⊎ (suc (length steps) ≤ k)
          → (get_or distances t 0 ≡ length steps → k ≤ length steps → At k) → At k
      by (inr more) later = (s, (less, omega (arith, long, most, more)))
      by (inl low) later =
          let short = (are.each t there).none_shorter d steps end parts.1 in
          let own = (are.each t there).some in
          let as_long = own.4 in
          let past = (are.each s less).none_shorter own.0 (t ∷ own.1) own.2 (and_from (is_next_to rows s t) _ parts.0 own.3) in
          later (omega (arith, short, as_long, past, long)) (omega (arith, low))

  at_all : (k s : ℕ) → s < length rows → k ≤ get_or distances s 0 → At k
  at_all k s less most =
      let own = (are.each s less).some in
      let long = own.4 in
      lesser k s own.0 own.1 less own.2 own.3 (sym long) (omega (arith, long, most))

  so_many : (k s : ℕ) → s < length rows → k ≤ get_or distances s 0
      → k < length (filter (λ t. nat_le (get_or distances t 0) k) (range_with_len 0 (length rows)))
  so_many zero s less most =
      let t = at_all 0 s less most in
      let low = t.1.0 in
      let one = fewer_by_one (λ _. false) (λ t. nat_le (get_or distances t 0) 0) (λ t h. absurd (false≢true h)) 0 (length rows) t.0 (omega arith) (omega (arith, low)) refl (le-leb (get_or distances t.0 0) 0 (let e = t.1.1 in omega (arith, e))) in
      omega (arith, one)
  so_many (suc k) s less most =
      let t = at_all (suc k) s less most in
      let low = t.1.0 in
      let e = t.1.1 in
      let fewer_so = so_many k s less (omega (arith, most)) in
      let one = fewer_by_one (λ t. nat_le (get_or distances t 0) k) (λ t. nat_le (get_or distances t 0) (suc k))
      (λ t h. let le = leb-true (get_or distances t 0) k h in le-leb (get_or distances t 0) (suc k) (omega (arith, le)))
      0 (length rows) t.0 (omega arith) (omega (arith, low)) (past (get_or distances t.0 0) k (omega (arith, e))) (le-leb (get_or distances t.0 0) (suc k) (omega (arith, e))) in
      omega (arith, one, fewer_so)
    where
      past : (a b : ℕ) → b < a → nat_le a b ≡ false
      past a b less = by (nat_le a b) refl
        where
          by : (c : Bool) → nat_le a b ≡ c → nat_le a b ≡ false
          by true h = absurd (let le = leb-true a b h in let no_room : ⊥ = omega (arith, le, less) in no_room)
          by false h = h

  pub distance_below : (s : ℕ) → s < length rows → get_or distances s 0 < length rows
  distance_below s less =
      let many = so_many (get_or distances s 0) s less (omega arith) in
      let most = fewer (λ t. nat_le (get_or distances t 0) (get_or distances s 0)) (λ _. true) (λ t h. refl) (range_with_len 0 (length rows)) in
      let all = all_stay (range_with_len 0 (length rows)) in
      let long = length-range_with_len 0 (length rows) in
      omega (arith, many, most, all, long)

-- ---- all are found
marked : (marks : List Bool) → list_any (λ is. is) marks ≡ true
    → (s : ℕ) × ((s < length marks) × (is_marked marks s ≡ true))
marked [] h = absurd (false≢true h)
marked (true ∷ marks) h = (0, (omega arith, refl))
marked (false ∷ marks) h = let more = marked marks h in let less = more.1.0 in (suc more.0, (omega (arith, less), more.1.1))

pub found_all : (rows : List (List Link)) (marks : List Bool) (found : List (Option ℕ)) → is_cabling rows ≡ true
    → AllJoined rows → length marks ≡ length rows → list_any (λ is. is) marks ≡ true
    → AreFound rows (is_marked marks) (length rows) found
    → AreDistances rows (is_marked marks) (map (λ one. unwrap_or one 0) found)
found_all rows marks found cabling joined count some are =
    record { count = long found ∙ are.count; each = each }
  where
    long : (os : List (Option ℕ)) → length (map (λ one. unwrap_or one 0) os) ≡ length os
    long [] = refl
    long (o ∷ os) = ap suc (long os)

    root : (s : ℕ) × ((s < length marks) × (is_marked marks s ≡ true))
    root = marked marks some

    all : (distances : List ℕ) × AreDistances rows (is_marked marks) distances
    all = joined_distances rows (is_marked marks) root.0 joined (let less = root.1.0 in omega (arith, less, count)) root.1.1

    each : (s : ℕ) → s < length rows → IsDistance rows (is_marked marks) s (get_or (map (λ one. unwrap_or one 0) found) s 0)
    each s less = by (found_at found s) refl
      where
        is : get_or (map (λ one. unwrap_or one 0) found) s 0 ≡ unwrap_or (found_at found s) 0
        is = get_or-map (λ one. unwrap_or one 0) found s None 0 (let even = are.count in omega (arith, even, less))

        by : (o : Option ℕ) → found_at found s ≡ o
            → IsDistance rows (is_marked marks) s (get_or (map (λ one. unwrap_or one 0) found) s 0)
        by (Some j) e =
            subst (λ (k : ℕ). IsDistance rows (is_marked marks) s k) (sym (is ∙ ap (λ o. unwrap_or o 0) e)) (are.right s j less e).0
        by None e =
            let own = (all.1.each s less).some in
            let so_long = own.4 in
            let past = are.no_nearer s own.0 own.1 less e own.2 own.3 in
            let below = distance_below rows (is_marked marks) all.0 cabling all.1 s less in
            absurd (let no_room : ⊥ = omega (arith, so_long, past, below) in no_room)
