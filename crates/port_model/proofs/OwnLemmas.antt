-- A port of a channel adapter answers for itself alone.
use Rattle.std.proofs.Common.{ℕ, ◌≡◌, ◌≢◌, ◌⊎◌, ◌==◌, inl, inr, refl, true, false}
use Rattle.std.proofs.Math.Bool.{or-true}
use Rattle.std.proofs.lemmas.Bool.{eq-eqb, ne_eqb}
use Rattle.port_model.specs.AdapterState.{AdapterState}
use Rattle.port_model.specs.Agent.{get, is_own, set}
use Rattle.port_model.specs.Laws.{PortsAnswerForThemselves}

named : (held : AdapterState) (modifier : ℕ) → (modifier ≡ 0) ⊎ (modifier ≡ held.number) → is_own held modifier ≡ true
named held modifier (inl zero) = rw (eq-eqb modifier 0 zero) refl
named held modifier (inr number) = rw (eq-eqb modifier held.number number) (or-true (modifier == 0))

another : (held : AdapterState) (modifier : ℕ) → modifier ≢ 0 → modifier ≢ held.number → is_own held modifier ≡ false
another held modifier some other = rw (ne_eqb modifier 0 some, ne_eqb modifier held.number other) refl

pub answer_for_themselves : PortsAnswerForThemselves
unfolding get set
answer_for_themselves held modifier =
    record {
      own = λ is. rw (named held modifier is) refl;
      gives = λ some other. rw (another held modifier some other) refl;
      sets = λ some other wanted. rw (another held modifier some other) refl;
    }
