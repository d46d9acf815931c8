-- What holds of every agent, from what its kind of node gives and takes.
use Rattle.std.proofs.Common.{ap, IfOk, option_map, Some, None, ◌∙◌, ◌≢◌, ◌≡◌, ℕ, Bool, true, false, if◌then◌else◌, Result, Ok, Err, List, refl, sym, subst}
use Rattle.std.specs.Result.{result_unwrap_or}
use Rattle.mad_layout.specs.Bits.{put_field}
use Rattle.mad_layout.specs.declared.status.MadStatus.{MadStatus}
use Rattle.attr_tables.specs.declared.smp_attribute.SmpAttribute.{SmpAttribute}
use Rattle.step_results.specs.Steps.{◌>>=◌}
use Rattle.agent_rules.specs.Agent.{Getter, Setter, after, answer, changed, held_after, reply_of}
use Rattle.agent_rules.specs.Laws.{IsSettled, IsUnseenPut, ReadsAlike}
use Rattle.attr_tables.specs.Attribute.{IsAttribute}
use Rattle.agent_rules.specs.Request.{attribute_asked, data_of, is_request, is_set, modifier_of, reply_status, reply_to}
use Rattle.agent_rules.proofs.UnseenLemmas.{unseen_passes}

-- what is set can be asked for
abbrev pub Shows : {S : Type 0} → Getter S → Setter S → Type 0
Shows getter setter =
    (held next : _) (attribute : SmpAttribute) (modifier : ℕ) (wanted : List ℕ) → setter held attribute modifier wanted ≡ Ok next
    → (bytes : List ℕ) × (getter next attribute modifier ≡ Ok bytes)

-- what holds of the old value, and of each value that a Set leads to, holds of the value after an SMP
held_cases : {S : Type 0} (r b : Bool) (asked : Result SmpAttribute MadStatus) (f : SmpAttribute → Result S MadStatus) (held : S) (P : S → Type 0)
    → P held → ((attribute : SmpAttribute) (next : S) → asked ≡ Ok attribute → f attribute ≡ Ok next → P next)
    → P (if r then result_unwrap_or (asked >>= λ attribute. if b then f attribute else Ok held) held else held)
held_cases false b asked f held P here there = here
held_cases true b (Err e) f held P here there = here
held_cases true false (Ok attribute) f held P here there = here
held_cases true true (Ok attribute) f held P here there = set_cases (f attribute) attribute refl
  where
    set_cases : (x : Result _ MadStatus) (a : SmpAttribute) → f attribute ≡ x → P (result_unwrap_or x held)
    set_cases (Err e) a h = here
    set_cases (Ok next) a h = there attribute next refl h

pub after_cases : {S : Type 0} (setter : Setter S) (held : S) (smp : List ℕ) (P : S → Type 0) → P held
    → ((attribute : SmpAttribute) (next : S) → attribute_asked smp ≡ Ok attribute
    → setter held attribute (modifier_of smp) (data_of smp) ≡ Ok next → P next)
    → P (after setter held smp)
after_cases setter held smp P here there =
    held_cases (is_request smp) (is_set smp) (attribute_asked smp) (λ attribute. setter held attribute (modifier_of smp) (data_of smp)) held P here there

get_keeps : {S : Type 0} (r b : Bool) (asked : Result SmpAttribute MadStatus) (f : SmpAttribute → Result S MadStatus) (held : S)
    → b ≡ false
    → (if r then result_unwrap_or (asked >>= λ attribute. if b then f attribute else Ok held) held else held) ≡ held
get_keeps false b asked f held h = refl
get_keeps true b (Err e) f held h = refl
get_keeps true false (Ok attribute) f held h = refl
get_keeps true true (Ok attribute) f held h = absurd (cc)

refused_set : {S : Type 0} (x : Result S MadStatus) (g : S → Result (List ℕ) MadStatus) (held : S) (status : MadStatus)
    → ((next : S) → x ≡ Ok next → (bytes : List ℕ) × (g next ≡ Ok bytes)) → (x >>= g) ≡ Err status
    → result_unwrap_or x held ≡ held
refused_set (Err e) g held status shows h = refl
refused_set (Ok next) g held status shows h = let s = shows next refl in let e = s.1 in absurd (cc)

refused_keeps : {S : Type 0} (r b : Bool) (asked : Result SmpAttribute MadStatus) (f : SmpAttribute → Result S MadStatus) (g : S → SmpAttribute → Result (List ℕ) MadStatus) (held : S) (status : MadStatus)
    → ((attribute : SmpAttribute) (next : S) → f attribute ≡ Ok next → (bytes : List ℕ) × (g next attribute ≡ Ok bytes))
    → (asked >>= λ attribute. ((if b then f attribute else Ok held) >>= λ next. g next attribute)) ≡ Err status
    → (if r then result_unwrap_or (asked >>= λ attribute. if b then f attribute else Ok held) held else held) ≡ held
refused_keeps false b asked f g held status shows h = refl
refused_keeps true b (Err e) f g held status shows h = refl
refused_keeps true false (Ok attribute) f g held status shows h = refl
refused_keeps true true (Ok attribute) f g held status shows h =
    refused_set (f attribute) (λ next. g next attribute) held status (λ next e. shows attribute next e) h

set_answers : {S : Type 0} (x : Result S MadStatus) (g : S → Result (List ℕ) MadStatus) (held : S) (bytes : List ℕ)
    → (x >>= g) ≡ Ok bytes → g (result_unwrap_or x held) ≡ Ok bytes
set_answers (Ok next) g held bytes h = h
set_answers (Err e) g held bytes h = absurd (cc)

later_answers : {S : Type 0} (b b2 : Bool) (asked : Result SmpAttribute MadStatus) (f : SmpAttribute → Result S MadStatus) (f2 : S → SmpAttribute → Result S MadStatus) (g : S → SmpAttribute → Result (List ℕ) MadStatus) (held : S) (bytes : List ℕ)
    → b2 ≡ false
    → (asked >>= λ attribute. ((if b then f attribute else Ok held) >>= λ next. g next attribute)) ≡ Ok bytes
    → (asked >>= λ attribute.
    ((if b2 then f2 (result_unwrap_or (asked >>= λ a. if b then f a else Ok held) held) attribute else Ok
    (result_unwrap_or (asked >>= λ a. if b then f a else Ok held) held)) >>= λ next. g next attribute)) ≡ Ok
    bytes
later_answers b b2 (Err e) f f2 g held bytes later h = absurd (cc)
later_answers b true (Ok attribute) f f2 g held bytes later h = absurd (cc)
later_answers false false (Ok attribute) f f2 g held bytes later h = h
later_answers true false (Ok attribute) f f2 g held bytes later h = set_answers (f attribute) (λ next. g next attribute) held bytes h

answers_same : {S : Type 0} (getter : Getter S) (setter : Setter S) (held : S) (smp later bytes : List ℕ)
    → answer getter setter held smp ≡ Ok bytes → attribute_asked later ≡ attribute_asked smp
    → modifier_of later ≡ modifier_of smp → is_set later ≡ false
    → answer getter setter (held_after setter held smp) later ≡ Ok bytes
answers_same getter setter held smp later bytes h asked part not_set =
    let next = held_after setter held smp in
    let given = later_answers (is_set smp) (is_set later) (attribute_asked smp) (λ a. setter held a (modifier_of smp) (data_of smp))
    (λ x a. setter x a (modifier_of later) (data_of later)) (λ x a. getter x a (modifier_of smp)) held bytes not_set h in
    let P : ℕ → Type 0 = λ modifier. (attribute_asked smp >>= λ a. (changed setter next a later >>= λ x. getter x a modifier)) ≡ Ok bytes in
    let Q : Result SmpAttribute MadStatus
    → Type 0 = λ x. (x >>= λ a. (changed setter next a later >>= λ y. getter y a (modifier_of later))) ≡ Ok bytes in
    subst Q (sym asked) (subst P (sym part) given)

pub settled : {S : Type 0} (getter : Getter S) (setter : Setter S) → Shows getter setter → IsSettled getter setter
settled getter setter shows =
    record {
      silent = λ held smp h. rw h refl;
      get = λ held smp h. get_keeps (is_request smp) (is_set smp) (attribute_asked smp) (λ a. setter held a (modifier_of smp) (data_of smp)) held h;
      refused = λ held smp status h. refused_keeps (is_request smp) (is_set smp) (attribute_asked smp)
          (λ a. setter held a (modifier_of smp) (data_of smp)) (λ x a. getter x a (modifier_of smp)) held status
          (λ a next e. shows held next a (modifier_of smp) (data_of smp) e) h;
      set = λ held smp later bytes request h same.
          let now : after setter held smp ≡ held_after setter held smp = rw request refl in
          let P : _ → Type 0 = λ x. answer getter setter x later ≡ Ok bytes in
          subst P (sym now) (answers_same getter setter held smp later bytes h same.attribute same.modifier same.no_set);
    }

-- a status other than 0 is a refusal, and changes nothing
pub refused_stays : {S : Type 0} (getter : Getter S) (setter : Setter S) → Shows getter setter
    → (held now : S) (smp : List ℕ) (given : Result (List ℕ) MadStatus) (status : ℕ)
    → given ≡ answer getter setter held smp → now ≡ held_after setter held smp → status ≡ reply_status given
    → status ≢ 0 → now ≡ held
refused_stays getter setter shows held now smp (Ok bytes) status is after zero not_zero = absurd (not_zero zero)
refused_stays getter setter shows held now smp (Err e) status is after same not_zero =
    after
    ∙ refused_keeps true (is_set smp) (attribute_asked smp) (λ a. setter held a (modifier_of smp) (data_of smp)) (λ x a. getter x a (modifier_of smp)) held e (λ a next h. shows held next a (modifier_of smp) (data_of smp) h) (sym is)

-- SMPs that ask the same are answered alike, and leave the same
pub reads_alike : {S : Type 0} (getter : Getter S) (setter : Setter S) → ReadsAlike getter setter
reads_alike getter setter =
    record {
      answered = λ held one other same. λ place. (same.attribute place) >>= λ attribute.
          ((if same.set place then setter held attribute (same.modifier place) (same.attribute_is place) else Ok held)
          >>= λ next. getter next attribute (same.modifier place));
      held = λ held one other same. λ place. if same.request place then result_unwrap_or
          ((same.attribute place) >>= λ attribute.
          if same.set place then setter held attribute (same.modifier place) (same.attribute_is place) else Ok held)
          held else held;
    }

-- a reply to an SMP with a field that the agent does not see is the reply with that field
passes_through : (b : Bool) (given : Result (List ℕ) MadStatus) (smp : List ℕ) (off len value : ℕ)
    → IsUnseenPut smp off len value → IfOk given IsAttribute
    → (if b then Some (reply_to (put_field smp off len value) given) else None) ≡ option_map (λ reply. put_field reply off len value) (if b then Some (reply_to smp given) else None)
passes_through false given smp off len value put encoded = refl
passes_through true (Ok bytes) smp off len value put encoded = ap (λ (reply : List ℕ). Some reply) (unseen_passes.reply smp bytes off len value put encoded)
passes_through true (Err status) smp off len value put encoded = ap (λ (reply : List ℕ). Some reply) (unseen_passes.refusal smp status off len value put)

pub reply_passes : {S : Type 0} (getter : Getter S) (setter : Setter S) (held : S) (smp : List ℕ) (off len value : ℕ) → IsUnseenPut smp off len value
    → IfOk (answer getter setter held smp) IsAttribute
    → reply_of getter setter held (put_field smp off len value) ≡ option_map (λ reply. put_field reply off len value) (reply_of getter setter held smp)
reply_passes getter setter held smp off len value put encoded =
    let other = put_field smp off len value in
    let same = unseen_passes.asks smp off len value put in
    let request = same.request in
    let given = (reads_alike getter setter).answered held smp other same in
    (λ place. if request place then Some (reply_to other (given place)) else None)
    ∙ passes_through (is_request smp) (answer getter setter held smp) smp off len value put encoded
