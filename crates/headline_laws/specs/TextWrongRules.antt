-- Wrong rules for what a run and `shares` print, which the headline over texts refuses.
use Rattle.std.specs.Prelude.{ℕ, ◌≡◌, Bool, false, if◌then◌else◌, List, [], ◌∷◌, codes, flat_map, Option}
use Rattle.std.specs.Str.{bytes_eq}
use Rattle.headline_laws.specs.Texts.{KeepsTextsApart, Prints, words_in}
use Rattle.text_words.specs.Lines.{lines}

-- ---- for each line of a script that passes a test of its words, a line of the port a/1
abbrev pub heard_if : (List (List ℕ) → Bool) → Prints
heard_if test topology partitions script output =
    output ≡ flat_map (λ line. if test (words_in line) then codes "a/1 recv\n" else []) (lines script)

-- a command of this first word, by this port
abbrev pub is_by : List ℕ → List ℕ → List (List ℕ) → Bool
is_by first port (word ∷ other ∷ rest) = if bytes_eq word first then bytes_eq other port else false
is_by first port _ = false

-- shares of the port a/1
abbrev pub shares_with : List ℕ → Prints
shares_with printed topology partitions name output = output ≡ printed

-- of one topology and one partition file alone
abbrev pub of_files : List ℕ → Option (List ℕ) → Prints → Prints
of_files topology partitions prints given file third output = (given ≡ topology) × (file ≡ partitions) × prints given file third output

-- so whatever the files are, what is printed of them by one rule may not go with what `shares` prints by another
abbrev pub IsRefused : (run shares : Prints) → Type 0
IsRefused run shares =
    (topology : List ℕ) (partitions : Option (List ℕ))
    → KeepsTextsApart (of_files topology partitions run) (of_files topology partitions shares) → ⊥

-- ---- a port hears what a far port sends, or asks
abbrev pub SendsOfFarPortsAreNotHeard : Type 0
SendsOfFarPortsAreNotHeard = IsRefused (heard_if (is_by (codes "send") (codes "c/1"))) (shares_with (codes "share a/1 b/1 0x0001\n"))

abbrev pub AsksOfFarPortsAreNotHeard : Type 0
AsksOfFarPortsAreNotHeard = IsRefused (heard_if (is_by (codes "ask") (codes "c/1"))) (shares_with (codes "share a/1 b/1 0x0001\n"))

-- ---- `shares` leaves out a port that is near
abbrev pub NearPortsAreNotLeftOut : Type 0
NearPortsAreNotLeftOut = IsRefused (heard_if (is_by (codes "send") (codes "b/1"))) (shares_with [])

-- ---- a port hears of links that go down or come up
abbrev pub CutsAreNotHeard : Type 0
CutsAreNotHeard = IsRefused (heard_if (is_by (codes "cut") (codes "S/2"))) (shares_with [])

abbrev pub MendsAreNotHeard : Type 0
MendsAreNotHeard = IsRefused (heard_if (is_by (codes "mend") (codes "S/2"))) (shares_with [])
