-- Files whose contents are known: the bytes behind each name, and the names opened so far.
use Rattle.std.specs.Prelude.{ℕ, ◌≡◌, ◌⊎◌, Bool, true, List, [], ◌∷◌, ◌++◌, take, Option}
use Rattle.std.specs.Prelude.{Some, None, is_some, IfSome, option_map}
use Rattle.std.specs.List.{list_all}
use Rattle.text_streams.specs.Reading.{IsEndless}

-- the bytes to which each name opens, or that there is no such file
abbrev pub Contents : Type 0
Contents = List ℕ → Option (List ℕ)

-- the names opened so far, if they are known
abbrev pub Opened : Type 0
Opened = Option (List (List ℕ))

-- if the opened names are still known, these were opened last, one after the other, and no other
abbrev pub OpensAll : Opened → Opened → List (List ℕ) → Type 0
OpensAll old new names = (new ≡ None) ⊎ (new ≡ option_map (λ opened. opened ++ names) old)

-- of these names the first few were opened, one after the other, and no other
abbrev pub OpensInOrder : Opened → Opened → List (List ℕ) → Type 0
OpensInOrder old new names = (k : ℕ) × OpensAll old new (take k names)

-- if the contents of the files are known, a name opens to its bytes
abbrev pub Opens : {I : Type 0} → (I → Option (List ℕ)) → Option Contents → List ℕ → Option I → Type 0
Opens remaining reported name input = IfSome reported (λ file. option_map remaining input ≡ option_map Some (file name))

-- each of these names opens to bytes
abbrev pub all_open : Contents → List (List ℕ) → Bool
all_open file names = list_all (λ name. is_some (file name)) names

-- of these names this one was opened last, and those before it open to bytes: reading stopped here. If no read fails, it
-- stops only at a name without a file, or at bytes without an end
pub record StopsAt (file : Contents) (reads : Bool) (old new : Opened) (names : List (List ℕ)) (name : List ℕ) : Type 0 where
  pub before : List (List ℕ)
  pub after : List (List ℕ)
  pub cut : names ≡ before ++ name ∷ after
  pub opened : OpensAll old new (before ++ name ∷ [])
  pub open_before : all_open file before ≡ true
  pub unread : reads ≡ true → IsEndless (file name)

-- this holds of some bytes, which are those behind the name if the contents of the files are known
pub record ForBytes (reported : Option Contents) (name : List ℕ) (Is : List ℕ → Type 0) : Type 0 where
  pub bytes : List ℕ
  pub are_known : IfSome reported (λ file. file name ≡ Some bytes)
  pub holds : Is bytes
