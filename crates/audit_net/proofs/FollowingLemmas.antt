-- Steps of what follows entries.
use Rattle.std.proofs.Common.{◌≡◌, ◌∙◌, ap, refl, sym, ℕ, suc, ◌+◌, ◌-◌, ◌<◌, Bool, true, false, ◌==◌, List, [], ◌∷◌, ◌++◌, arith, Option, Some, None, is_some, option_map}
use Rattle.std.proofs.lemmas.List.{append-nil, append_assoc}
use Rattle.audit_net.specs.declared.following.Turn.{Turn}
use Rattle.audit_net.specs.declared.following.Turn.TheVariants as turns
use Rattle.audit_net.specs.Following.{back, end_within, if_goes, then_end, turn}
use Rattle.audit_net.specs.Net.{NetState}

-- one switch more
pub end_step : (net : NetState) (lid total count at : ℕ) (whole : Option Turn) → count < total → end_within net lid (total - count) at ≡ whole
    → then_end (λ next. end_within net lid (total - (count + 1)) next) (turn net lid at) ≡ whole
end_step net lid total count at whole less so_far =
    let more : total - count ≡ suc (total - (count + 1)) = omega (arith, less) in
    ap (λ (n : ℕ). end_within net lid n at) (sym more) ∙ so_far

pub back_step : (net : NetState) (lid home total count at : ℕ) (so_far : List ℕ) (whole : Option (List ℕ)) → count < total
    → option_map (λ rest. so_far ++ rest) (back net lid home (total - count) at) ≡ whole
    → option_map (λ rest. so_far ++ rest) (back net lid home (suc (total - (count + 1))) at) ≡ whole
back_step net lid home total count at so_far whole less is =
    let more : total - count ≡ suc (total - (count + 1)) = omega (arith, less) in
    ap (λ (n : ℕ). option_map (λ rest. so_far ++ rest) (back net lid home n at)) (sym more) ∙ is

onto_joined : (so_far : List ℕ) (place : ℕ) (o : Option (List ℕ)) → option_map (λ rest. so_far ++ rest) (option_map (λ rest. place ∷ rest) o) ≡ option_map (λ rest. (so_far ++ place ∷ []) ++ rest) o
onto_joined so_far place None = refl
onto_joined so_far place (Some rest) = ap (λ (xs : List ℕ). Some xs) (sym (append_assoc so_far (place ∷ []) rest))

pub back_goes_on : (net : NetState) (lid home count at next : ℕ) (so_far : List ℕ) (whole : Option (List ℕ)) → (at == home) ≡ false → turn net lid at ≡ turns.Goes next
    → option_map (λ rest. so_far ++ rest) (back net lid home (suc count) at) ≡ whole
    → option_map (λ rest. (so_far ++ at ∷ []) ++ rest) (back net lid home count next) ≡ whole
back_goes_on net lid home count at next so_far whole away goes is =
    let step : back net lid home (suc count) at ≡ option_map (λ rest. at ∷ rest) (back net lid home count next) = rw (away, goes) refl in
    sym (onto_joined so_far at (back net lid home count next)) ∙ ap (option_map (λ rest. so_far ++ rest)) (sym step) ∙ is

-- a turn that does not go on
pub ends_here : (rest : ℕ → Option Turn) (turned : Turn) → ((next : ℕ) → turned ≡ turns.Goes next → ⊥) → then_end rest turned ≡ Some turned
ends_here rest (turns.Goes next) stays = absurd (stays next refl)
ends_here rest (turns.Arrives there) stays = refl
ends_here rest turns.Hole stays = refl
ends_here rest (turns.Nowhere number) stays = refl
ends_here rest turns.Unknown stays = refl

pub goes_nowhere : (rest : ℕ → Option (List ℕ)) (turned : Turn) → ((next : ℕ) → turned ≡ turns.Goes next → ⊥) → if_goes rest turned ≡ None
goes_nowhere rest (turns.Goes next) stays = absurd (stays next refl)
goes_nowhere rest (turns.Arrives there) stays = refl
goes_nowhere rest turns.Hole stays = refl
goes_nowhere rest (turns.Nowhere number) stays = refl
goes_nowhere rest turns.Unknown stays = refl

pub comes_back : (net : NetState) (lid home count at : ℕ) (so_far : List ℕ) (whole : Option (List ℕ)) → (at == home) ≡ true
    → option_map (λ rest. so_far ++ rest) (back net lid home (suc count) at) ≡ whole → Some so_far ≡ whole
comes_back net lid home count at so_far whole here is =
    let step : back net lid home (suc count) at ≡ Some [] = rw here refl in
    ap (λ (xs : List ℕ). Some xs) (sym (append-nil so_far)) ∙ sym (ap (option_map (λ rest. so_far ++ rest)) step) ∙ is

pub back_ends : (net : NetState) (lid home count at : ℕ) (so_far : List ℕ) (whole : Option (List ℕ)) → (at == home) ≡ false
    → ((next : ℕ) → turn net lid at ≡ turns.Goes next → ⊥)
    → option_map (λ rest. so_far ++ rest) (back net lid home (suc count) at) ≡ whole → None ≡ whole
back_ends net lid home count at so_far whole away stays is =
    let step : back net lid home (suc count) at ≡ None =
    (rw away refl) ∙ ap (option_map (λ rest. at ∷ rest)) (goes_nowhere (λ next. back net lid home count next) (turn net lid at) stays) in
    sym (ap (option_map (λ rest. so_far ++ rest)) step) ∙ is

-- ---- whether it comes back
some_mapped : (place : ℕ) (o : Option (List ℕ)) → is_some (option_map (λ rest. place ∷ rest) o) ≡ is_some o
some_mapped place None = refl
some_mapped place (Some rest) = refl

some_step : (net : NetState) (lid home total count at : ℕ) (whole : Bool) → count < total → is_some (back net lid home (total - count) at) ≡ whole
    → is_some (back net lid home (suc (total - (count + 1))) at) ≡ whole
some_step net lid home total count at whole less is =
    let more : total - count ≡ suc (total - (count + 1)) = omega (arith, less) in
    ap (λ (n : ℕ). is_some (back net lid home n at)) (sym more) ∙ is

pub some_back : (net : NetState) (lid home total count at : ℕ) (whole : Bool) → count < total → (at == home) ≡ true → is_some (back net lid home (total - count) at) ≡ whole → true ≡ whole
some_back net lid home total count at whole less here is =
    let step : back net lid home (suc (total - (count + 1))) at ≡ Some [] = rw here refl in
    sym (ap (λ (o : Option (List ℕ)). is_some o) step) ∙ some_step net lid home total count at whole less is

pub some_stops : (net : NetState) (lid home total count at : ℕ) (whole : Bool) → count < total → (at == home) ≡ false → ((next : ℕ) → turn net lid at ≡ turns.Goes next → ⊥)
    → is_some (back net lid home (total - count) at) ≡ whole → false ≡ whole
some_stops net lid home total count at whole less away stays is =
    let step : back net lid home (suc (total - (count + 1))) at ≡ None =
    (rw away refl) ∙ ap (option_map (λ rest. at ∷ rest)) (goes_nowhere (λ next. back net lid home (total - (count + 1)) next) (turn net lid at) stays) in
    sym (ap (λ (o : Option (List ℕ)). is_some o) step) ∙ some_step net lid home total count at whole less is

pub some_goes_on : (net : NetState) (lid home total count at next : ℕ) (whole : Bool) → count < total → (at == home) ≡ false → turn net lid at ≡ turns.Goes next
    → is_some (back net lid home (total - count) at) ≡ whole → is_some (back net lid home (total - (count + 1)) next) ≡ whole
some_goes_on net lid home total count at next whole less away goes is =
    let step : back net lid home (suc (total - (count + 1))) at ≡ option_map (λ rest. at ∷ rest) (back net lid home (total - (count + 1)) next) = rw (away, goes) refl in
    sym (some_mapped at (back net lid home (total - (count + 1)) next)) ∙ sym (ap (λ (o : Option (List ℕ)). is_some o) step) ∙ some_step net lid home total count at whole less is
