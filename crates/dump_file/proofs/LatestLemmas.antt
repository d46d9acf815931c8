-- Of several tables of a switch the latest: each of another switch, and what is so of all tables is so of these.
use Rattle.std.proofs.Common.{◌≡◌, ◌∙◌, ap, refl, subst, sym, ℕ, suc, ◌+◌, Bool, true, false, cond, is_some, not, ◌==◌, ◌&&◌, ◌||◌, List, [], ◌∷◌, ◌++◌, length, map, nat_lt, set, Option, Some, None, position, if◌then◌else◌, arith}
use Rattle.std.specs.List.{IsDistinct, list_all, list_any, position_or_len}
use Rattle.std.specs.Option.{option_or}
use Rattle.std.proofs.lemmas.Bool.{and_from, and_parts, false≢true, not_from_false, not-true, or_parts}
use Rattle.std.proofs.lemmas.Bool.Decides.{nat_tests}
use Rattle.std.proofs.Math.Bool.{or-false}
use Rattle.std.proofs.lemmas.List.{append_assoc, append-nil}
use Rattle.std.proofs.lemmas.List.Folds.{list_all-append, list_any-append}
use Rattle.std.proofs.lemmas.Option.{cond_some}
use Rattle.step_results.proofs.PlaceLemmas.{list_any_place, place-found}
use Rattle.step_results.proofs.DistinctLemmas.{all_differ, distinct}
use Rattle.dump_file.specs.declared.row.Row.{Row}
use Rattle.dump_file.specs.declared.table.Table.{Table}
use Rattle.dump_file.specs.Destination.{guid_said}
use Rattle.dump_file.specs.Row.{end_of, said_of}
use Rattle.dump_file.specs.Sound.{IsSound, has_its_end, have_one_end, is_end, is_rising, shares_switch}
use Rattle.dump_file.specs.Table.{latest, place_of, put, put_all, rows_of}
use Rattle.dump_file.specs.Index.{KnowsSwitches}
use Rattle.dump_file.proofs.GuidLemmas.{is_new}
use Rattle.dump_file.proofs.SoundLemmas.{said_here}

-- ---- what a test says of all
put_all_pass : (test : Table → Bool) (table : Table) (tables : List Table) → test table ≡ true → list_all test tables ≡ true → list_all test (put table tables) ≡ true
put_all_pass test table [] passes all = and_from (test table) true passes refl
put_all_pass test table (first ∷ rest) passes all =
    let parts = and_parts (test first) (list_all test rest) all in
    by (table.guid == first.guid) refl parts.0 parts.1 (put_all_pass test table rest passes parts.1)
  where
    by : (b : Bool) → (table.guid == first.guid) ≡ b → test first ≡ true → list_all test rest ≡ true → list_all test (put table rest) ≡ true
        → list_all test (put table (first ∷ rest)) ≡ true
    by true e one others later = rw e (and_from (test table) (list_all test rest) passes others)
    by false e one others later = rw e (and_from (test first) (list_all test (put table rest)) one later)

all_put : (test : Table → Bool) (so_far tables : List Table) → list_all test so_far ≡ true → list_all test tables ≡ true → list_all test (put_all so_far tables) ≡ true
all_put test so_far [] old all = old
all_put test so_far (table ∷ rest) old all =
    let parts = and_parts (test table) (list_all test rest) all in
    all_put test (put table so_far) rest (put_all_pass test table so_far parts.0 old) parts.1

pub all_latest : (test : Table → Bool) (tables : List Table) → list_all test tables ≡ true → list_all test (latest tables) ≡ true
all_latest test tables all = all_put test [] tables refl all

-- ---- each is of another switch
put_none : (test : Table → Bool) (table : Table) (tables : List Table) → test table ≡ false → list_any test tables ≡ false → list_any test (put table tables) ≡ false
put_none test table [] fails none = rw fails refl
put_none test table (first ∷ rest) fails none =
    let parts = or_parts (test first) (list_any test rest) none in
    by (table.guid == first.guid) refl parts.0 parts.1 (put_none test table rest fails parts.1)
  where
    by : (b : Bool) → (table.guid == first.guid) ≡ b → test first ≡ false → list_any test rest ≡ false → list_any test (put table rest) ≡ false
        → list_any test (put table (first ∷ rest)) ≡ false
    by true e one others later = rw (e, fails) others
    by false e one others later = rw (e, one) later

put_differ : (table : Table) (tables : List Table) → all_differ shares_switch tables ≡ true → all_differ shares_switch (put table tables) ≡ true
put_differ table [] own = refl
put_differ table (first ∷ rest) own =
    let parts = and_parts (not (list_any (shares_switch first) rest)) (all_differ shares_switch rest) own in
    by (table.guid == first.guid) refl parts.0 parts.1 (put_differ table rest parts.1)
  where
    by : (b : Bool) → (table.guid == first.guid) ≡ b → not (list_any (shares_switch first) rest) ≡ true → all_differ shares_switch rest ≡ true
        → all_differ shares_switch (put table rest) ≡ true → all_differ shares_switch (put table (first ∷ rest)) ≡ true
    by true e one others later =
        let same : table.guid ≡ first.guid = grind (arith, nat_tests, e) in
        rw e (and_from (not (list_any (shares_switch table) rest)) (all_differ shares_switch rest)
        (ap (λ (guid : ℕ). not (list_any (λ (one : Table). guid == one.guid) rest)) same ∙ one) others)
    by false e one others later =
        let other : (first.guid == table.guid) ≡ false = grind (arith, nat_tests, e) in
        rw e (and_from (not (list_any (shares_switch first) (put table rest))) (all_differ shares_switch (put table rest))
        (not_from_false _ (put_none (shares_switch first) table rest other (not-true _ one))) later)

all_put_differ : (so_far tables : List Table) → all_differ shares_switch so_far ≡ true → all_differ shares_switch (put_all so_far tables) ≡ true
all_put_differ so_far [] own = own
all_put_differ so_far (table ∷ rest) own = all_put_differ (put table so_far) rest (put_differ table so_far own)

pub latest_distinct : (tables : List Table) → IsDistinct shares_switch (latest tables)
latest_distinct tables = distinct shares_switch (latest tables) (all_put_differ [] tables refl)

-- ---- where the table goes
suc_is : (n : ℕ) → suc n ≡ 1 + n
suc_is n = omega arith

put_found : (table : Table) (tables : List Table) → list_any (λ one. table.guid == one.guid) tables ≡ true
    → put table tables ≡ set tables (position_or_len (λ one. table.guid == one.guid) tables) table
put_found table [] any = absurd (false≢true any)
put_found table (first ∷ rest) any = by (table.guid == first.guid) refl any (put_found table rest)
  where
    by : (b : Bool) → (table.guid == first.guid) ≡ b → list_any (λ one. table.guid == one.guid) (first ∷ rest) ≡ true
        → (list_any (λ one. table.guid == one.guid) rest ≡ true → put table rest ≡ set rest (position_or_len (λ one. table.guid == one.guid) rest) table)
        → put table (first ∷ rest) ≡ set (first ∷ rest) (position_or_len (λ one. table.guid == one.guid) (first ∷ rest)) table
    by true e more later = rw e refl
    by false e more later =
        let among : list_any (λ one. table.guid == one.guid) rest ≡ true = sym (ap (λ (b : Bool). b || list_any (λ one. table.guid == one.guid) rest) e) ∙ more in
        rw e (ap (λ (some : List Table). first ∷ some) (later among)
        ∙ ap (λ (place : ℕ). set (first ∷ rest) place table) (suc_is (position_or_len (λ one. table.guid == one.guid) rest)))

pub put_there : (table : Table) (tables : List Table) (place : ℕ) → place_of table.guid tables ≡ Some place → set tables place table ≡ put table tables
put_there table tables place there =
    let test = λ (one : Table). table.guid == one.guid in
    let found = (cond_some (nat_lt (position_or_len test tables) (length tables)) (position_or_len test tables) place there).0 in
    ap (λ (n : ℕ). set tables n table) (place-found test tables place there) ∙ sym (put_found table tables (list_any_place test tables ∙ found))

keys_stay : (table : Table) (tables : List Table) → list_any (λ one. table.guid == one.guid) tables ≡ true
    → map (λ (one : Table). one.guid) (put table tables) ≡ map (λ (one : Table). one.guid) tables
keys_stay table [] any = absurd (false≢true any)
keys_stay table (first ∷ rest) any = by (table.guid == first.guid) refl any (keys_stay table rest)
  where
    by : (b : Bool) → (table.guid == first.guid) ≡ b → list_any (λ one. table.guid == one.guid) (first ∷ rest) ≡ true
        → (list_any (λ one. table.guid == one.guid) rest ≡ true → map (λ (one : Table). one.guid) (put table rest) ≡ map (λ (one : Table). one.guid) rest)
        → map (λ (one : Table). one.guid) (put table (first ∷ rest)) ≡ map (λ (one : Table). one.guid) (first ∷ rest)
    by true e more later = let same : table.guid ≡ first.guid = grind (arith, nat_tests, e) in rw e (ap (λ (guid : ℕ). guid ∷ map (λ (one : Table). one.guid) rest) same)
    by false e more later =
        let among : list_any (λ one. table.guid == one.guid) rest ≡ true = sym (ap (λ (b : Bool). b || list_any (λ one. table.guid == one.guid) rest) e) ∙ more in
        rw e (ap (λ (guids : List ℕ). first.guid ∷ guids) (later among))

pub keys_there : (table : Table) (tables : List Table) (place : ℕ) → place_of table.guid tables ≡ Some place
    → map (λ (one : Table). one.guid) (put table tables) ≡ map (λ (one : Table). one.guid) tables
keys_there table tables place there =
    let test = λ (one : Table). table.guid == one.guid in
    let found = (cond_some (nat_lt (position_or_len test tables) (length tables)) (position_or_len test tables) place there).0 in
    keys_stay table tables (list_any_place test tables ∙ found)

pub put_absent : (table : Table) (tables : List Table) → list_any (λ one. table.guid == one.guid) tables ≡ false → put table tables ≡ tables ++ table ∷ []
put_absent table [] none = refl
put_absent table (first ∷ rest) none =
    let parts = or_parts (table.guid == first.guid) (list_any (λ one. table.guid == one.guid) rest) none in
    rw parts.0 (ap (λ (some : List Table). first ∷ some) (put_absent table rest parts.1))

pub put_more : (so_far tables : List Table) (table : Table) → put_all so_far (tables ++ table ∷ []) ≡ put table (put_all so_far tables)
put_more so_far [] table = refl
put_more so_far (first ∷ rest) table = put_more (put first so_far) rest table

-- ---- rows
rows_all : (test : Row → Bool) (tables : List Table) → list_all test (rows_of tables) ≡ list_all (λ table. list_all test table.rows) tables
rows_all test [] = refl
rows_all test (table ∷ rest) = list_all-append test table.rows (rows_of rest) ∙ ap (λ (b : Bool). list_all test table.rows && b) (rows_all test rest)

pub rows_latest : (test : Row → Bool) (tables : List Table) → list_all test (rows_of tables) ≡ true → list_all test (rows_of (latest tables)) ≡ true
rows_latest test tables all = rows_all test (latest tables) ∙ all_latest (λ table. list_all test table.rows) tables (sym (rows_all test tables) ∙ all)

is_the_end : (guid : ℕ) (end : Option ℕ) → is_end guid end ≡ true → end ≡ Some guid
is_the_end guid (Some other) is = let same : other ≡ guid = grind (arith, nat_tests, is) in ap Some same
is_the_end guid None is = absurd (false≢true is)

-- what some rows say of a LID all rows say
agrees_at : (big : List Row) (lid guid : ℕ) (row : Row) (later : Option ℕ) → has_its_end big row ≡ true → (later ≡ Some guid → end_of lid big ≡ Some guid)
    → option_or (said_of lid row) later ≡ Some guid → end_of lid big ≡ Some guid
agrees_at big lid guid row later has rest is = by (row.lid == lid) (guid_said row.destination) refl refl
  where
    by : (b : Bool) (said : Option ℕ) → (row.lid == lid) ≡ b → guid_said row.destination ≡ said → end_of lid big ≡ Some guid
    by false said e s = rest (sym (rw e refl) ∙ is)
    by true None e s = rest (sym (rw (e, s) refl) ∙ is)
    by true (Some other) e s =
        let here : row.lid ≡ lid = grind (arith, nat_tests, e) in
        let same : Some other ≡ Some guid = sym (rw (e, s) refl) ∙ is in
        let ends : is_end other (end_of lid big) ≡ true = sym (rw (s, here) refl) ∙ has in
        is_the_end other (end_of lid big) ends ∙ same

agrees : (big some : List Row) (lid guid : ℕ) → list_all (has_its_end big) some ≡ true → end_of lid some ≡ Some guid → end_of lid big ≡ Some guid
agrees big [] lid guid all is = absurd cc
agrees big (row ∷ rest) lid guid all is =
    let parts = and_parts (has_its_end big row) (list_all (has_its_end big) rest) all in
    agrees_at big lid guid row (end_of lid rest) parts.0 (agrees big rest lid guid parts.1) is

-- so among these, too, each row says what the first one of its LID says
none_behind : (first rest : Option ℕ) → option_or first rest ≡ None → rest ≡ None
none_behind (Some guid) rest none = absurd cc
none_behind None rest none = none

said_within : (lid guid : ℕ) (before rest : List Row) (row : Row) → said_of lid row ≡ Some guid → end_of lid (before ++ row ∷ rest) ≡ None → ⊥
said_within lid guid [] rest row said none = cc
said_within lid guid (first ∷ before) rest row said none = said_within lid guid before rest row said (none_behind (said_of lid first) (end_of lid (before ++ row ∷ rest)) none)

has_end_by : (big small : List Row) (row : Row) (said end : Option ℕ) → guid_said row.destination ≡ said → end_of row.lid small ≡ end
    → has_its_end big row ≡ true → ((guid : ℕ) → end ≡ Some guid → end_of row.lid big ≡ Some guid) → ((guid : ℕ) → said ≡ Some guid → end ≡ None → ⊥)
    → has_its_end small row ≡ true
has_end_by big small row None end s e has agree within = rw s refl
has_end_by big small row (Some guid) None s e has agree within = absurd (within guid refl refl)
has_end_by big small row (Some guid) (Some other) s e has agree within = rw (s, e) (sym (rw (s, agree other refl) refl) ∙ has)

ends_of_rest : (big before rest : List Row) → list_all (has_its_end big) (before ++ rest) ≡ true → list_all (has_its_end (before ++ rest)) rest ≡ true
ends_of_rest big before [] all = refl
ends_of_rest big before (row ∷ rest) all =
    let parts = and_parts (list_all (has_its_end big) before) (list_all (has_its_end big) (row ∷ rest))
    (sym (list_all-append (has_its_end big) before (row ∷ rest)) ∙ all) in
    let has = (and_parts (has_its_end big row) (list_all (has_its_end big) rest) parts.1).0 in
    let whole = before ++ row ∷ rest in
    let here : has_its_end whole row ≡ true =
    has_end_by big whole row (guid_said row.destination) (end_of row.lid whole) refl refl has (λ guid. agrees big whole row.lid guid all)
    (λ guid said none. said_within row.lid guid before rest row (said_here row ∙ said) none) in
    let moved : (before ++ row ∷ []) ++ rest ≡ whole = append_assoc before (row ∷ []) rest in
    and_from (has_its_end whole row) (list_all (has_its_end whole) rest) here
    (sym (ap (λ (rows : List Row). list_all (has_its_end rows) rest) moved)
    ∙ ends_of_rest big (before ++ row ∷ []) rest (ap (list_all (has_its_end big)) moved ∙ all))

pub one_end_latest : (tables : List Table) → have_one_end (rows_of tables) ≡ true → have_one_end (rows_of (latest tables)) ≡ true
one_end_latest tables all = ends_of_rest (rows_of tables) [] (rows_of (latest tables)) (rows_latest (has_its_end (rows_of tables)) tables all)

-- ---- so they agree with one another
pub latest_sound : (tables : List Table) → list_all is_rising tables ≡ true → have_one_end (rows_of tables) ≡ true → IsSound (record { tables = latest tables })
latest_sound tables rising one_end = record {
  tables = record { own_switches = latest_distinct tables; rising = all_latest is_rising tables rising };
  one_end = one_end_latest tables one_end;
}

-- ---- tables of different switches all count
puts_new : (so_far tables : List Table) → IsDistinct shares_switch (so_far ++ tables) → put_all so_far tables ≡ so_far ++ tables
puts_new so_far [] own = sym (append-nil so_far)
puts_new so_far (table ∷ rest) own =
    let moved : (so_far ++ table ∷ []) ++ rest ≡ so_far ++ table ∷ rest = append_assoc so_far (table ∷ []) rest in
    ap (λ (some : List Table). put_all some rest) (put_absent table so_far (is_new so_far rest table own))
    ∙ puts_new (so_far ++ table ∷ []) rest (subst (IsDistinct shares_switch) (sym moved) own) ∙ moved

pub all_latest_own : (tables : List Table) → IsDistinct shares_switch tables → latest tables ≡ tables
all_latest_own tables own = puts_new [] tables own

-- ---- the GUIDs of switches that have a table
some_if : (b : Bool) (n : ℕ) → is_some (cond b (Some n) None) ≡ b
some_if true n = refl
some_if false n = refl

pub has_place : {X : Type 0} (test : X → Bool) (xs : List X) → is_some (position test xs) ≡ list_any test xs
has_place test xs = some_if (nat_lt (position_or_len test xs) (length xs)) (position_or_len test xs) ∙ sym (list_any_place test xs)

has_more : (guid : ℕ) (tables : List Table) (table : Table)
    → list_any (λ one. guid == one.guid) (tables ++ table ∷ []) ≡ (list_any (λ one. guid == one.guid) tables || (guid == table.guid))
has_more guid tables table =
    list_any-append (λ (one : Table). guid == one.guid) tables (table ∷ []) ∙ ap (λ (b : Bool). list_any (λ one. guid == one.guid) tables || b) (or-false (guid == table.guid))

-- one that is among them already
same_still : (keys : List ℕ) (guid known : ℕ) (has same : Bool) → (guid == known) ≡ same → list_any (λ key. known == key) keys ≡ true
    → list_any (λ key. guid == key) keys ≡ has → has ≡ (has || same)
same_still keys guid known true same e is here = refl
same_still keys guid known false true e is here =
    let alike : guid ≡ known = grind (arith, nat_tests, e) in
    absurd (false≢true (sym here ∙ ap (λ (n : ℕ). list_any (λ key. n == key) keys) alike ∙ is))
same_still keys guid known false false e is here = refl

pub switches_more : (keys : List ℕ) (tables : List Table) (table : Table) → KnowsSwitches keys tables
    → KnowsSwitches (if list_any (λ key. table.guid == key) keys then keys else keys ++ table.guid ∷ []) (tables ++ table ∷ [])
switches_more keys tables table knows guid = by (list_any (λ key. table.guid == key) keys) refl
  where
    by : (b : Bool) → list_any (λ key. table.guid == key) keys ≡ b
        → list_any (λ key. guid == key) (if b then keys else keys ++ table.guid ∷ []) ≡ list_any (λ one. guid == one.guid) (tables ++ table ∷ [])
    by true is =
        same_still keys guid table.guid (list_any (λ key. guid == key) keys) (guid == table.guid) refl is refl
        ∙ ap (λ (b : Bool). b || (guid == table.guid)) (knows guid) ∙ sym (has_more guid tables table)
    by false is =
        list_any-append (λ (key : ℕ). guid == key) keys (table.guid ∷ [])
        ∙ ap (λ (b : Bool). b || ((guid == table.guid) || false)) (knows guid)
        ∙ sym (list_any-append (λ (one : Table). guid == one.guid) tables (table ∷ []))
