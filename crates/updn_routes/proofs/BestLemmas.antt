-- The best link of a row: it leads to a switch of some kind that has an entry in a table, the entry is the least, and of
-- such links it has the least port.
use Rattle.std.proofs.Common.{◌≡◌, ℕ, ◌<◌, ◌≤◌, ◌⊎◌, Bool, true, false, ◌==◌, List, [], ◌∷◌, Option, Some, None, refl, sym, ap, subst, ◌∙◌, inl, inr, arith}
use Rattle.std.specs.List.{list_any}
use Rattle.std.proofs.lemmas.Bool.{and_parts, and_from, cases_lt, cases_order, or_cases, or_left, or_right, eqb-true, eq-eqb, false≢true}
use Rattle.updn_routes.specs.declared.link.Link.{Link}
use Rattle.updn_routes.proofs.CablingLemmas.{goes}
use Rattle.updn_routes.proofs.RouteLemmas.{not_both}
use Rattle.updn_routes.proofs.TableLemmas.{same_some}

pub record BestIn (row : List Link) (kind : ℕ → Bool) (far : ℕ → Option ℕ) (port k : ℕ) : Type 0 where
  pub to : ℕ
  pub out : list_any (goes port to) row ≡ true
  pub fits : kind to ≡ true
  pub at : far to ≡ Some k
  pub nearest : (q t j : ℕ) → list_any (goes q t) row ≡ true → kind t ≡ true → far t ≡ Some j → k ≤ j
  pub least : (q t : ℕ) → list_any (goes q t) row ≡ true → kind t ≡ true → far t ≡ Some k → port ≤ q

abbrev pub NoneIn : List Link → (ℕ → Bool) → (ℕ → Option ℕ) → Type 0
NoneIn row kind far = (q t : ℕ) → list_any (goes q t) row ≡ true → kind t ≡ true → far t ≡ None

abbrev pub Chosen : List Link → (ℕ → Bool) → (ℕ → Option ℕ) → Type 0
Chosen row kind far = ((port : ℕ) × (k : ℕ) × BestIn row kind far port k) ⊎ NoneIn row kind far

-- a link that leads nowhere changes nothing
pub skip_best : (kind : ℕ → Bool) (far : ℕ → Option ℕ) (link : Link) (row : List Link) (port k : ℕ)
    → (kind link.to ≡ true → far link.to ≡ None) → BestIn row kind far port k → BestIn (link ∷ row) kind far port k
skip_best kind far link row port k off best =
    record {
      to = best.to;
      out = or_right (goes port best.to link) _ best.out;
      fits = best.fits;
      at = best.at;
      nearest = λ q t j way fits at. elim (or_cases (goes q t link) (list_any (goes q t) row) way) [
        | inl here ↦ absurd (not_both j (sym (gone q t here fits) ∙ at))
        | inr later ↦ best.nearest q t j later fits at
      ];
      least = λ q t way fits at. elim (or_cases (goes q t link) (list_any (goes q t) row) way) [
        | inl here ↦ absurd (not_both k (sym (gone q t here fits) ∙ at))
        | inr later ↦ best.least q t later fits at
      ];
    }
  where
    gone : (q t : ℕ) → goes q t link ≡ true → kind t ≡ true → far t ≡ None
    gone q t here fits =
        let same = eqb-true link.to t (and_parts (link.port == q) (link.to == t) here).1 in
        subst (λ (v : ℕ). far v ≡ None) same (off (subst (λ (v : ℕ). kind v ≡ true) (sym same) fits))

skip : (kind : ℕ → Bool) (far : ℕ → Option ℕ) (link : Link) (row : List Link)
    → (kind link.to ≡ true → far link.to ≡ None) → Chosen row kind far → Chosen (link ∷ row) kind far
skip kind far link row off (inl best) = inl (best.0, best.1, skip_best kind far link row best.0 best.1 off best.2)
skip kind far link row off (inr none) =
    inr (λ q t way fits. elim (or_cases (goes q t link) (list_any (goes q t) row) way) [
      | inl here ↦
          (let same = eqb-true link.to t (and_parts (link.port == q) (link.to == t) here).1 in
          subst (λ (v : ℕ). far v ≡ None) same (off (subst (λ (v : ℕ). kind v ≡ true) (sym same) fits)))
      | inr later ↦ none q t later fits
    ])

-- a link that is no worse than the rest
pub take_best : (kind : ℕ → Bool) (far : ℕ → Option ℕ) (link : Link) (row : List Link) (k : ℕ) → kind link.to ≡ true
    → far link.to ≡ Some k
    → ((q t j : ℕ) → list_any (goes q t) row ≡ true → kind t ≡ true → far t ≡ Some j → k ≤ j)
    → ((q t : ℕ) → list_any (goes q t) row ≡ true → kind t ≡ true → far t ≡ Some k → link.port ≤ q)
    → BestIn (link ∷ row) kind far link.port k
take_best kind far link row k fits at nearest least =
    (
    record {
      to = link.to;
      out = or_left (goes link.port link.to link) _ (and_from (link.port == link.port) (link.to == link.to) (eq-eqb link.port link.port refl) (eq-eqb link.to link.to refl));
      fits = fits;
      at = at;
      nearest = λ q t j way so far_is. elim (or_cases (goes q t link) (list_any (goes q t) row) way) [
        | inl here ↦
            (let same = eqb-true link.to t (and_parts (link.port == q) (link.to == t) here).1 in
            let even = same_some k j (sym at ∙ (ap far same ∙ far_is)) in omega (arith, even))
        | inr later ↦ nearest q t j later so far_is
      ];
      least = λ q t way so far_is. elim (or_cases (goes q t link) (list_any (goes q t) row) way) [
        | inl here ↦ (let same = eqb-true link.port q (and_parts (link.port == q) (link.to == t) here).0 in omega (arith, same))
        | inr later ↦ least q t later so far_is
      ];
    }
    )

take : (kind : ℕ → Bool) (far : ℕ → Option ℕ) (link : Link) (row : List Link) (k : ℕ) → kind link.to ≡ true
    → far link.to ≡ Some k
    → ((q t j : ℕ) → list_any (goes q t) row ≡ true → kind t ≡ true → far t ≡ Some j → k ≤ j)
    → ((q t : ℕ) → list_any (goes q t) row ≡ true → kind t ≡ true → far t ≡ Some k → link.port ≤ q)
    → Chosen (link ∷ row) kind far
take kind far link row k fits at nearest least =
    inl (link.port, k, take_best kind far link row k fits at nearest least)

-- a link that is worse than the rest
pub pass_best : (kind : ℕ → Bool) (far : ℕ → Option ℕ) (link : Link) (row : List Link) (j port k : ℕ) → far link.to ≡ Some j
    → (k < j) ⊎ ((j ≡ k) × (port < link.port))
    → BestIn row kind far port k → BestIn (link ∷ row) kind far port k
pass_best kind far link row j port k at worse best =
    (
    record {
      to = best.to;
      out = or_right (goes port best.to link) _ best.out;
      fits = best.fits;
      at = best.at;
      nearest = λ q t i way so far_is. elim (or_cases (goes q t link) (list_any (goes q t) row) way) [
        | inl here ↦ (let even = here_is q t i here far_is in elim worse [ inl past ↦ omega (arith, past, even) | inr tie ↦ (let same = tie.0 in omega (arith, same, even)) ])
        | inr later ↦ best.nearest q t i later so far_is
      ];
      least = λ q t way so far_is. elim (or_cases (goes q t link) (list_any (goes q t) row) way) [
        | inl here ↦
            (let even = here_is q t k here far_is in
            let own = eqb-true link.port q (and_parts (link.port == q) (link.to == t) here).0 in
            elim worse [
              | inl past ↦ absurd (let no_room : ⊥ =
                  omega (arith, past, even) in no_room)
              | inr tie ↦ (let less = tie.1 in omega (arith, less, own))
            ])
        | inr later ↦ best.least q t later so far_is
      ];
    }
    )
  where
    here_is : (q t i : ℕ) → goes q t link ≡ true → far t ≡ Some i → j ≡ i
    here_is q t i here far_is =
        let same = eqb-true link.to t (and_parts (link.port == q) (link.to == t) here).1 in same_some j i (sym at ∙ (ap far same ∙ far_is))

pass : (kind : ℕ → Bool) (far : ℕ → Option ℕ) (link : Link) (row : List Link) (j port k : ℕ) → far link.to ≡ Some j
    → (k < j) ⊎ ((j ≡ k) × (port < link.port))
    → BestIn row kind far port k → Chosen (link ∷ row) kind far
pass kind far link row j port k at worse best =
    inl (port, k, pass_best kind far link row j port k at worse best)

pub choose : (kind : ℕ → Bool) (far : ℕ → Option ℕ) (row : List Link) → Chosen row kind far
choose kind far [] = inr (λ q t way fits. absurd (false≢true way))
choose kind far (link ∷ row) = by (kind link.to) refl (far link.to) refl (choose kind far row)
  where
    by : (b : Bool) → kind link.to ≡ b → (o : Option ℕ) → far link.to ≡ o → Chosen row kind far
        → Chosen (link ∷ row) kind far
    by false e o f rest = skip kind far link row (λ fits. absurd (false≢true (sym e ∙ fits))) rest
    by true e None f rest = skip kind far link row (λ fits. f) rest
    by true e (Some j) f (inr none) =
        take kind far link row j e f (λ q t i way so at. absurd (not_both i (sym (none q t way so) ∙ at))) (λ q t way so at. absurd (not_both j (sym (none q t way so) ∙ at)))
    by true e (Some j) f (inl best) =
        elim (cases_order j best.1) [
          | inl even ↦
              elim (cases_lt best.0 link.port) [
                | inl lesser ↦ pass kind far link row j best.0 best.1 f (inr (even, lesser)) best.2
                | inr no_less ↦ take kind far link row j e f
                    (λ q t i way so at. let near = best.2.nearest q t i way so at in omega (arith, near, even))
                    (λ q t way so at. let first = best.2.least q t way so (at ∙ ap Some even) in omega (arith, first, no_less))
              ]
          | inr other ↦
              elim other [
                | inl less ↦ take kind far link row j e f
                    (λ q t i way so at. let near = best.2.nearest q t i way so at in omega (arith, near, less))
                    (λ q t way so at. absurd (let near = best.2.nearest q t j way so at in let no_room : ⊥ = omega (arith, near, less) in no_room))
                | inr past ↦ pass kind far link row j best.0 best.1 f (inl past) best.2
              ]
        ]
