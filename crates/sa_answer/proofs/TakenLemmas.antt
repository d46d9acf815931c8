-- What a walk took so far, and where it stops.
use Rattle.std.proofs.Common.{◌≡◌, ℕ, Vec, Global, ◌+◌, ◌≤◌, ◌<◌, List, [], ◌∷◌, ◌++◌, drop, get_or, length, map, option_to_list, Result, Ok, Err, refl, sym, subst, ◌∙◌, ap, arith, append-nil, append_assoc}
use Rattle.std.specs.List.{flat_map}
use Rattle.std.proofs.lemmas.List.{drop_all, drop_more, length-append, length-map, map-append}
use Rattle.std.proofs.lemmas.List.Concat.{flat_map-append}
use Rattle.sa_records.specs.SaRecord.{record_bytes}
use Rattle.sa_model.specs.Shown.{Entry}
use Rattle.sa_answer.specs.Replying.{padded}
use Rattle.sa_answer.specs.Taken.{HasTaken, IsTable, Stops, Walks, bytes_of}
use Rattle.sa_answer.specs.declared.taken.Stopped.{Stopped}
use Rattle.sa_answer.specs.declared.taken.Taken.{Taken}
use Rattle.sa_answer.specs.declared.taken.Taken.TheVariants.{One, All}

pub none_taken : (taken : Taken) → HasTaken [] taken taken
none_taken (One before) = sym (append-nil (option_to_list before))
none_taken (All before) = sym (append-nil before.items)

-- these, and then those
pub more_taken : (shown first later : List (List ℕ)) (a b c : Taken) → shown ≡ first ++ later → HasTaken first a b → HasTaken later b c → HasTaken shown a c
more_taken shown first later (One a) (One b) (One c) are one two =
    two
    ∙ (ap (λ (some : List (List ℕ)). some ++ map padded later) one
    ∙ (append_assoc (option_to_list a) (map padded first) (map padded later)
    ∙ ap (λ (some : List (List ℕ)). option_to_list a ++ some) (sym (map-append padded first later) ∙ ap (map padded) (sym are))))
more_taken shown first later (All a) (All b) (All c) are one two =
    two
    ∙ (ap (λ (some : List ℕ). some ++ flat_map (λ bytes. bytes) later) one
    ∙ (append_assoc a.items (flat_map (λ bytes. bytes) first) (flat_map (λ bytes. bytes) later)
    ∙ ap (λ (some : List ℕ). a.items ++ some) (sym (flat_map-append (λ bytes. bytes) first later) ∙ ap (flat_map (λ bytes. bytes)) (sym are))))
more_taken shown first later (One a) (All b) c are one two = absurd one
more_taken shown first later (All a) (One b) c are one two = absurd one
more_taken shown first later (One a) (One b) (All c) are one two = absurd two
more_taken shown first later (All a) (All b) (One c) are one two = absurd two

-- a walk that stops at these stops
pub stops_there : (shown first later rest : List (List ℕ)) (a b : Taken) → shown ≡ first ++ (later ++ rest) → HasTaken first a b → Stops later b → Stops shown a
stops_there shown first later rest (One a) (One b) are one stops =
    let whole = ap length are in
    let outer = length-append first (later ++ rest) in
    let inner = length-append later rest in
    let taken = ap length one in
    let parts = length-append (option_to_list a) (map padded first) in
    let same = length-map first padded in
    omega (arith, whole, outer, inner, taken, parts, same, stops)
stops_there shown first later rest (All a) (All b) are one stops = tt
stops_there shown first later rest (One a) (All b) are one stops = absurd one
stops_there shown first later rest (All a) (One b) are one stops = absurd one

-- what takes all from nothing takes a table
pub taken_table : (shown : List (List ℕ)) (empty : Vec ℕ Global) (after : Taken) (walked : Result (Unit {0}) Stopped) → empty.items ≡ [] → Walks shown (All empty) after walked
    → IsTable shown after walked
taken_table shown empty (All after) (Ok done) nothing walks = walks ∙ ap (λ (some : List ℕ). some ++ flat_map (λ bytes. bytes) shown) nothing
taken_table shown empty (One after) (Ok done) nothing walks = absurd walks
taken_table shown empty after (Err stopped) nothing walks = tt

-- ---- in the midst of a walk: what is left leads where all lead from the start
pub record LeadsTo (shown : List (List ℕ)) (start : Taken) (left : List (List ℕ)) (now : Taken) : Type 0 where
  pub goes : (end : Taken) → HasTaken left now end → HasTaken shown start end
  pub stops : Stops left now → Stops shown start

pub at_first : (shown : List (List ℕ)) (start : Taken) → LeadsTo shown start shown start
at_first shown start = record { goes = λ end taken. taken; stops = λ stops. stops }

pub leads_as : (shown left less : List (List ℕ)) (start now : Taken) → left ≡ less → LeadsTo shown start left now → LeadsTo shown start less now
leads_as shown left less start now same leads = subst (λ (some : List (List ℕ)). LeadsTo shown start some now) same leads

pub leads_on : (shown left here less : List (List ℕ)) (start now next : Taken) → left ≡ here ++ less → HasTaken here now next → LeadsTo shown start left now
    → LeadsTo shown start less next
leads_on shown left here less start now next are taken leads = record {
  goes = λ end rest. leads.goes end (more_taken left here less now next end are taken rest);
  stops = λ stops.
      leads.stops (stops_there left here less [] now next (are ∙ ap (λ (some : List (List ℕ)). here ++ some) (sym (append-nil less))) taken stops);
}

pub stops_here : (shown left here less : List (List ℕ)) (start now : Taken) → left ≡ here ++ less → Stops here now → LeadsTo shown start left now → Stops shown start
stops_here shown left here less start now are stops leads = leads.stops (stops_there left [] here less now now are (none_taken now) stops)

pub all_taken : (shown left : List (List ℕ)) (start now : Taken) → left ≡ [] → LeadsTo shown start left now → HasTaken shown start now
all_taken shown left start now none leads = leads.goes now (subst (λ (some : List (List ℕ)). HasTaken some now now) (sym none) (none_taken now))

-- one more of a list
pub one_of : {X : Type 0} (reported : X → List (List ℕ)) (xs : List X) (i : ℕ) (x : X) → i < length xs → x ≡ get_or xs i x
    → flat_map reported (drop i xs) ≡ reported x ++ flat_map reported (drop (i + 1) xs)
one_of reported xs i x within is =
    ap (flat_map reported) (drop_more xs i x within) ∙ ap (λ one. reported one ++ flat_map reported (drop (i + 1) xs)) (sym is)

-- ---- a walk over a list, at one of its elements
module _ {X : Type 0} (reported : X → List (List ℕ)) (xs : List X) (i : ℕ) (x : X) (shown : List (List ℕ)) (start now : Taken) (within : i < length xs)
    (is : x ≡ get_or xs i x) (leads : LeadsTo shown start (flat_map reported (drop i xs)) now) where
  split : (here : List (List ℕ)) → reported x ≡ here → flat_map reported (drop i xs) ≡ here ++ flat_map reported (drop (i + 1) xs)
  split here same = one_of reported xs i x within is ∙ ap (λ (some : List (List ℕ)). some ++ flat_map reported (drop (i + 1) xs)) same

  pub taken_one : (here : List (List ℕ)) (next : Taken) → reported x ≡ here → HasTaken here now next → LeadsTo shown start (flat_map reported (drop (i + 1) xs)) next
  taken_one here next same taken =
      leads_on shown (flat_map reported (drop i xs)) here (flat_map reported (drop (i + 1) xs)) start now next (split here same) taken leads

  pub passed_one : reported x ≡ [] → LeadsTo shown start (flat_map reported (drop (i + 1) xs)) now
  passed_one none = leads_as shown (flat_map reported (drop i xs)) (flat_map reported (drop (i + 1) xs)) start now (split [] none) leads

  pub stops_at : (here : List (List ℕ)) → reported x ≡ here → Stops here now → Stops shown start
  stops_at here same stops =
      stops_here shown (flat_map reported (drop i xs)) here (flat_map reported (drop (i + 1) xs)) start now (split here same) stops leads

-- and behind the last
pub done_all : {X : Type 0} (reported : X → List (List ℕ)) (xs : List X) (i : ℕ) (shown : List (List ℕ)) (start now : Taken) → length xs ≤ i
    → LeadsTo shown start (flat_map reported (drop i xs)) now → HasTaken shown start now
done_all reported xs i shown start now past leads = all_taken shown (flat_map reported (drop i xs)) start now (ap (flat_map reported) (drop_all i xs past)) leads

-- ---- the bytes of a table
pub whole_table : (entries : List Entry) (held : Vec ℕ Global) → held.items ≡ flat_map (λ bytes. bytes) (bytes_of entries)
    → held.items ≡ flat_map (λ entry. record_bytes entry.shown) entries
whole_table entries held is = is ∙ flat entries
  where
    flat : (some : List Entry) → flat_map (λ bytes. bytes) (bytes_of some) ≡ flat_map (λ entry. record_bytes entry.shown) some
    flat [] = refl
    flat (entry ∷ some) = ap (λ (rest : List ℕ). record_bytes entry.shown ++ rest) (flat some)

-- ---- what is gone through is what is shown
pub bytes_are : {X : Type 0} (entry : X → Entry) (xs : List X) → bytes_of (map entry xs) ≡ map (λ x. record_bytes (entry x).shown) xs
bytes_are entry [] = refl
bytes_are entry (x ∷ xs) = ap (λ (rest : List (List ℕ)). record_bytes (entry x).shown ∷ rest) (bytes_are entry xs)

pub flat_reported : {X Y : Type 0} (bytes : Y → List ℕ) (found : X → List Y) (xs : List X) → flat_map (λ x. map bytes (found x)) xs ≡ map bytes (flat_map found xs)
flat_reported bytes found [] = refl
flat_reported bytes found (x ∷ xs) =
    ap (λ (rest : List (List ℕ)). map bytes (found x) ++ rest) (flat_reported bytes found xs) ∙ sym (map-append bytes (found x) (flat_map found xs))
