-- The headline over texts: what `fabric run` prints of a port P, for one topology and one partition file, does not change with what
-- other ports send and ask that `fabric shares TOPO PARTS P` does not name, nor with `cut` and `mend`. Take out of two scripts each
-- `cut`, each `mend`, and each `send Q` or `ask Q` of such a port Q. If the rest is the same, byte for byte, and `shares` and both runs
-- end with status 0, the lines of P are the same, byte for byte. No spelling of P or Q matters: `h1/01` is `h1/1`.
use Rattle.std.specs.Prelude.{ℕ, ◌≡◌, Bool, false, not, ◌&&◌, ◌||◌, nat_eq, List, [], ◌∷◌, ◌++◌, codes, filter, unwrap_or, Option, Some}
use Rattle.std.specs.List.{starts_with}
use Rattle.std.specs.Option.{option_map_or}
use Rattle.std.specs.Str.{bytes_eq}
use Rattle.cli_args.specs.declared.call.Work.TheVariants as work
use Rattle.cli_args.specs.declared.call.Work.{Work}
use Rattle.fabric_cli.specs.Serving.{ForTexts, complete}
use Rattle.text_words.specs.Lines.{lines, words_of}
use Rattle.text_words.specs.Parts.{port_name}
use Rattle.text_words.specs.Words.{port_in}

-- ---- a command prints this output, and ends with status 0, for a topology, a partition file or none, and a third text: a script, or
-- the name of a port
abbrev pub Prints : Type 1
Prints = (topology : List ℕ) → (partitions : Option (List ℕ)) → (third output : List ℕ) → Type 0

-- the lines of a report that begin with the name of the port and a blank
abbrev pub lines_of : List ℕ → List ℕ → List (List ℕ)
lines_of name report = filter (λ line. starts_with nat_eq line (name ++ codes " ")) (lines report)

-- ---- which lines of a script are taken out
-- the words that blanks and tabs part, without a comment; none of a line with a byte that no script may have
abbrev pub words_in : List ℕ → List (List ℕ)
words_in line = unwrap_or (words_of line) []

-- these bytes are somewhere in the text
abbrev pub has_inside : List ℕ → List ℕ → Bool
has_inside needle [] = starts_with nat_eq [] needle
has_inside needle (byte ∷ text) = starts_with nat_eq (byte ∷ text) needle || has_inside needle text

-- the port that a word names, as the program prints it: `h1/1` for `h1/01` and for `h1/0x1`
abbrev pub printed : List ℕ → List ℕ
printed word = option_map_or (λ port. port_name port.name port.number) (port_in word) word

-- what `shares` prints for a port names another one between blanks: `share h1/1 h2/1 0x0001`
abbrev pub names : (listing port : List ℕ) → Bool
names listing port = has_inside (codes " " ++ port ++ codes " ") listing

-- another port, that `shares` does not name
abbrev pub is_far : (name listing port : List ℕ) → Bool
is_far name listing port = not (bytes_eq port name) && not (names listing port)

abbrev pub is_taken_out : (name listing : List ℕ) → List (List ℕ) → Bool
is_taken_out name listing (first ∷ port ∷ rest) =
    (bytes_eq first (codes "cut") || bytes_eq first (codes "mend"))
    || ((bytes_eq first (codes "send") || bytes_eq first (codes "ask")) && is_far name listing (printed port))
is_taken_out name listing _ = false

abbrev pub left_of : (name listing script : List ℕ) → List (List ℕ)
left_of name listing script = filter (λ line. not (is_taken_out name listing (words_in line))) (lines script)

-- ---- two scripts of which the same is left: their runs print the same lines of the port
abbrev pub KeepsTextsApart : (run shares : Prints) → Type 0
KeepsTextsApart run shares =
    (topology : List ℕ) (partitions : Option (List ℕ)) (port listing first second one other : List ℕ)
    → shares topology partitions port listing
    → run topology partitions first one → run topology partitions second other
    → left_of (printed port) listing first ≡ left_of (printed port) listing second
    → lines_of (printed port) one ≡ lines_of (printed port) other

-- ---- it holds of the program: of `fabric run TOPO PARTS SCRIPT` and `fabric shares TOPO PARTS PORT`
abbrev pub program : (List ℕ → Work (List ℕ) (List ℕ) (List ℕ)) → Prints
program asked topology partitions third output =
    ForTexts (record { topology = topology; partitions = partitions; work = asked third }) (λ ending. ending ≡ complete output)

abbrev pub RunsKeepTextsApart : Type 0
RunsKeepTextsApart = KeepsTextsApart (program (λ script. work.Run script)) (program (λ port. work.Shares (Some port)))
