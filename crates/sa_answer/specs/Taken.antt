-- What a walk over records takes: the only one of them, or all.
use Rattle.std.specs.Prelude.{ℕ, ◌≡◌, ◌+◌, ◌≤◌, List, ◌++◌, length, map, option_to_list, Result, Ok, Err}
use Rattle.sa_records.specs.SaRecord.{record_bytes}
use Rattle.sa_model.specs.Shown.{Entry}
use Rattle.std.specs.List.{flat_map}
use Rattle.sa_answer.specs.Replying.{padded}
use Rattle.sa_answer.specs.declared.taken.Stopped.{Stopped}
use Rattle.sa_answer.specs.declared.taken.Taken.{Taken}
use Rattle.sa_answer.specs.declared.taken.Taken.TheVariants.{One, All}

-- the records of these bytes were taken besides
abbrev pub HasTaken : List (List ℕ) → Taken → Taken → Type 0
HasTaken shown (One before) (One after) = option_to_list after ≡ option_to_list before ++ map padded shown
HasTaken shown (All before) (All after) = after.items ≡ before.items ++ flat_map (λ bytes. bytes) shown
HasTaken shown _ _ = ⊥

-- a walk over them may stop: at a second one if one alone is taken, or as an allocation failed if all are
abbrev pub Stops : List (List ℕ) → Taken → Type 0
Stops shown (One before) = 2 ≤ length (option_to_list before) + length shown
Stops shown (All before) = Unit {0}

-- so a walk over them ends
abbrev pub Walks : List (List ℕ) → (before after : Taken) → Result (Unit {0}) Stopped → Type 0
Walks shown before after (Ok done) = HasTaken shown before after
Walks shown before after (Err stopped) = Stops shown before

-- all of them were taken, and nothing else, if it did not stop
abbrev pub IsTable : List (List ℕ) → Taken → Result (Unit {0}) Stopped → Type 0
IsTable shown (All after) (Ok done) = after.items ≡ flat_map (λ bytes. bytes) shown
IsTable shown (One after) (Ok done) = ⊥
IsTable shown after (Err stopped) = Unit {0}

-- ---- the bytes of records as they are shown
abbrev pub bytes_of : List Entry → List (List ℕ)
bytes_of entries = map (λ entry. record_bytes entry.shown) entries
