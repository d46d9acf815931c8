-- What is found first where the greater stands first is the greatest.
use Rattle.std.proofs.Common.{◌≡◌, ℕ, Bool, true, false, ◌==◌, ◌||◌, nat_le, List, [], ◌∷◌, find, Option, Some, None, refl, sym, subst, ◌∙◌, inl, inr}
use Rattle.std.specs.List.{list_all}
use Rattle.std.proofs.lemmas.Bool.{and_parts, both_ways, cases_Bool, eq-eqb, eqb-true, or_right}
use Rattle.sa_records.specs.Speed.{speed_of}
use Rattle.sa_model.specs.Sound.{pairwise}
use Rattle.sa_replies.specs.Joins.{mtu_taken, rate_taken}
use Rattle.sa_replies.specs.Taken.{IsGreatest, IsGreatestOf, TheGreatestIsTaken, is_no_faster, is_one_of, life_fits, mtu_fits, our_mtus, our_rates, rate_fits}

-- each is no greater than itself, and those behind are no greater
record Falls (at_most : ℕ → ℕ → Bool) (codes : List ℕ) : Type 0 where
  own : list_all (λ code. at_most code code) codes ≡ true
  order : pairwise (λ a b. at_most b a) codes ≡ true

in_list : (p : ℕ → Bool) (codes : List ℕ) (code : ℕ) → list_all p codes ≡ true → is_one_of codes code ≡ true → p code ≡ true
in_list p [] code all there = absurd (cc)
in_list p (one ∷ codes) code all there =
    let parts = and_parts (p one) (list_all p codes) all in
    elim (cases_Bool (one == code)) [
      | inl this ↦ subst (λ (n : ℕ). p n ≡ true) (eqb-true one code this) parts.0
      | inr other ↦ in_list p codes code parts.1 (rw other at there)
    ]

greatest_found : (codes : List ℕ) (passes : ℕ → Bool) (at_most : ℕ → ℕ → Bool) → Falls at_most codes → IsGreatest codes passes at_most (find passes codes)
greatest_found [] passes at_most falls = λ code there. absurd (cc)
greatest_found (one ∷ codes) passes at_most falls =
    let own = and_parts (at_most one one) (list_all (λ code. at_most code code) codes) falls.own in
    let order = and_parts (list_all (λ b. at_most b one) codes) (pairwise (λ a b. at_most b a) codes) falls.order in
    elim (cases_Bool (passes one)) [
      | inl yes_it ↦ rw yes_it (at_head yes_it own.0 order.0)
      | inr no_it ↦ rw no_it (later (find passes codes) no_it (greatest_found codes passes at_most (record { own = own.1; order = order.1 })))
    ]
  where
    at_head : passes one ≡ true → at_most one one ≡ true → list_all (λ b. at_most b one) codes ≡ true → IsGreatestOf (one ∷ codes) passes at_most one
    at_head is self behind = record {
      ours = rw (eq-eqb one one refl) refl;
      fits = is;
      greatest = λ code there pass. elim (cases_Bool (one == code)) [
        | inl this ↦ subst (λ (n : ℕ). at_most n one ≡ true) (eqb-true one code this) self
        | inr other ↦ in_list (λ b. at_most b one) codes code behind (rw other at there)
      ];
    }

    later : (found : Option ℕ) → passes one ≡ false → IsGreatest codes passes at_most found → IsGreatest (one ∷ codes) passes at_most found
    later None is_not none = λ code there. elim (cases_Bool (one == code)) [
      | inl this ↦ subst (λ (n : ℕ). passes n ≡ false) (eqb-true one code this) is_not
      | inr other ↦ none code (rw other at there)
    ]
    later (Some taken) is_not is = record {
      ours = or_right (one == taken) _ is.ours;
      fits = is.fits;
      greatest = λ code there pass. elim (cases_Bool (one == code)) [
        | inl this ↦ absurd (both_ways (passes one) is_not (subst (λ (n : ℕ). passes n ≡ true) (sym (eqb-true one code this)) pass))
        | inr other ↦ is.greatest code (rw other at there) pass
      ];
    }

-- ---- the same codes in another order
same_codes : (codes others : List ℕ) (passes : ℕ → Bool) (at_most : ℕ → ℕ → Bool) (taken : Option ℕ) → ((code : ℕ) → is_one_of codes code ≡ is_one_of others code)
    → IsGreatest codes passes at_most taken → IsGreatest others passes at_most taken
same_codes codes others passes at_most None same none = λ code there. none code (same code ∙ there)
same_codes codes others passes at_most (Some taken) same is = record {
  ours = sym (same taken) ∙ is.ours;
  fits = is.fits;
  greatest = λ code there pass. is.greatest code (same code ∙ there) pass;
}

four : (a b c d : Bool) → (d || (c || (b || (a || false)))) ≡ (a || (b || (c || (d || false))))
four true b c true = refl
four true true true false = refl
four true true false false = refl
four true false true false = refl
four true false false false = refl
four false true true true = refl
four false true true false = refl
four false true false true = refl
four false true false false = refl
four false false true true = refl
four false false true false = refl
four false false false true = refl
four false false false false = refl

three : (a b c : Bool) → (b || (c || (a || false))) ≡ (a || (b || (c || false)))
three true true c = refl
three true false true = refl
three true false false = refl
three false true c = refl
three false false true = refl
three false false false = refl

pub the_greatest_is_taken : TheGreatestIsTaken
unfolding speed_of
the_greatest_is_taken mask asked = record {
  mtu = same_codes (4 ∷ 3 ∷ 2 ∷ 1 ∷ []) our_mtus (mtu_fits mask asked) nat_le (mtu_taken mask asked) (λ code. four (1 == code) (2 == code) (3 == code) (4 == code))
      (greatest_found (4 ∷ 3 ∷ 2 ∷ 1 ∷ []) (mtu_fits mask asked) nat_le (record { own = refl; order = refl }));
  rate = same_codes (3 ∷ 5 ∷ 2 ∷ []) our_rates (rate_fits mask asked) is_no_faster (rate_taken mask asked) (λ code. three (2 == code) (3 == code) (5 == code))
      (greatest_found (3 ∷ 5 ∷ 2 ∷ []) (rate_fits mask asked) is_no_faster (record { own = refl; order = refl }));
  life = greatest_found (18 ∷ []) (life_fits mask asked) nat_le (record { own = refl; order = refl });
}
