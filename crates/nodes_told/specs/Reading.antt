-- What a text of told lines tells: which words each line has, and which of the lines of ots_model are among them (our
-- profile).
use Rattle.std.specs.Prelude.{◌≡◌, ◌≢◌, ℕ, ◌<◌, ◌⊎◌, List, [], ◌∷◌, ◌++◌, codes, length, map, take, Some}
use Rattle.std.specs.List.{AllByRecursion}
use Rattle.ots_model.specs.LineLaws.{HasNoLineFeed}
use Rattle.ots_model.specs.Name.{IsName}
use Rattle.ots_model.specs.Safe.{AreSafe}
use Rattle.ots_model.specs.Piece.{Part, Fixed, Named, Number, IsNumber, word_of}
use Rattle.coordinator.specs.declared.event.Act.{Act}
use Rattle.coordinator.specs.declared.said.Said.{Said}
use Rattle.coordinator.specs.declared.said.Said.TheVariants as said
use Rattle.nodes_world.specs.Told.{Told, Called, Answered, Sent, Back, RolledBack, RolledBackBy, Refused}
use Rattle.nodes_world.specs.Told.{known, known_in, operation_of, spelled, text, words_of}

-- ---- lines that can be read

-- no octet of the word is a space or a line feed
abbrev pub IsPlainOctet : ℕ → Type 0
IsPlainOctet b = (b ≢ 32) × (b ≢ 10)

abbrev pub IsPlain : List ℕ → Type 0
IsPlain word = AllByRecursion IsPlainOctet word

-- the word is one of these
abbrev pub IsOneOf : List (List ℕ) → List ℕ → Type 0
IsOneOf [] word = ⊥
IsOneOf (first ∷ others) word = (word ≡ first) ⊎ IsOneOf others word

-- what goes out beside the words of the two phases
abbrev pub words_beside : List (List ℕ)
words_beside =
    codes "forget"
    ∷ codes "before_completion"
    ∷ codes "after_completion"
    ∷ codes "commit_subtransaction"
    ∷ codes "rollback_subtransaction"
    ∷ codes "replay_completion"
    ∷ codes "register_resource"
    ∷ []

-- why a transaction is rolled back, where the reason speaks of nobody; and where it speaks of a synchronization
abbrev pub bare_reasons : List (List ℕ)
bare_reasons =
    codes "Asked" ∷ codes "Marked" ∷ codes "Timeout" ∷ codes "NotStored" ∷ codes "Superior" ∷ codes "NotEnlisted" ∷ []

abbrev pub reasons_by : List (List ℕ)
reasons_by = codes "SyncLost" ∷ codes "SyncStarved" ∷ []

-- the first words of lines that a node or an end may refuse
abbrev pub refused_words : List (List ℕ)
refused_words = codes "begin" ∷ codes "put" ∷ codes "refuse" ∷ []

-- an answer that can be read: a transaction's name is a plain word
abbrev pub IsAnswer : Said → Type 0
IsAnswer (said.Name name) = IsPlain name
IsAnswer _ = Unit {0}

-- the words of the line that aren't names or numbers stand in these tables, or are answers
unfoldable pub HasWords : Told → Type 0
HasWords (Called message operation transaction) = (act : Act) × (operation_of act ≡ Some operation)
HasWords (Answered message answer) = IsAnswer answer
HasWords (Sent message operation registration) = IsOneOf words_beside operation
HasWords (Back message request answer) = IsAnswer answer
HasWords (RolledBack transaction reason) = IsOneOf bare_reasons reason
HasWords (RolledBackBy transaction reason synchronization) = IsOneOf reasons_by reason
HasWords (Refused word answer) = IsOneOf refused_words word × IsAnswer answer
HasWords _ = Unit {0}

-- a word whose name is a name
abbrev pub IsNamed : Part → Type 0
IsNamed (Fixed octets) = Unit {0}
IsNamed (Named name) = IsName name
IsNamed (Number number) = Unit {0}

-- a line that is told: its names are names, and its other words are those of the tables
pub record IsTold (line : Told) : Type 0 where
  pub names : AllByRecursion IsNamed (words_of line)
  pub words : HasWords line

-- a word whose number is one that the program can hold
abbrev pub IsCounted : Part → Type 0
IsCounted (Fixed octets) = Unit {0}
IsCounted (Named name) = Unit {0}
IsCounted (Number number) = IsNumber number

-- the numbers of a line are below 2^64
unfoldable pub HasNumbers : Told → Type 0
HasNumbers line = AllByRecursion IsCounted (words_of line)

-- ---- what they tell

-- the words of a line, as octets
abbrev pub told_words : Told → List (List ℕ)
told_words line = map word_of (words_of line)

-- two lines with one spelling have the same words, and are the same line of ots_model, or both are none
pub record SaySame (a b : Told) : Type 0 where
  pub words : told_words a ≡ told_words b
  pub line : known_in a ≡ known_in b

abbrev pub ToldLinesAlike : Type 0
ToldLinesAlike = (a b : Told) → IsTold a → IsTold b → HasNumbers b → spelled a ≡ spelled b → SaySame a b

-- a part of a line, less than the whole, has no line feed
abbrev pub PartsHaveNoFeed : Type 0
PartsHaveNoFeed = (line : Told) (n : ℕ) → IsTold line → n < length (spelled line) → HasNoLineFeed (take n (spelled line))

-- two texts of lines that are alike have the same words in each line, the same lines of ots_model, and the same octets
-- behind the last of them. The numbers of the lines of one of them can be any.
pub record TextsSaySame (some others : List Told) (rest end : List ℕ) : Type 0 where
  pub words : map told_words some ≡ map told_words others
  pub lines : known some ≡ known others
  pub behind : rest ≡ end

abbrev pub ToldReadsBack : Type 0
ToldReadsBack = (some others : List Told) (rest end : List ℕ) → AllByRecursion IsTold some
    → AllByRecursion IsTold others → AllByRecursion HasNumbers others → HasNoLineFeed rest → HasNoLineFeed end
    → text some ++ rest ≡ text others ++ end → TextsSaySame some others rest end

-- So it doesn't matter which lines are read in a text of safe lines, or in a front of it: they are safe. What stands
-- behind the text may be a part of a line.
abbrev pub ReadLinesAreSafe : Type 0
ReadLinesAreSafe = (some others : List Told) (rest behind : List ℕ) → AllByRecursion IsTold some
    → AllByRecursion IsTold others → AllByRecursion HasNumbers others → HasNoLineFeed rest
    → text some ++ rest ≡ text others ++ behind → AreSafe (known some) → AreSafe (known others)
