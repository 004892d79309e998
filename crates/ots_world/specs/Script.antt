-- The grammar of a script's lines, from octets to events (our profile). A line is parted into words by single spaces.
-- Its first word says what it does, and its other words are names, numbers and the like.
use Rattle.std.specs.Prelude.{ℕ, ◌+◌, ◌^◌, Bool, true, false, not, ◌&&◌, ◌==◌, nat_lt, nat_le, List, [], ◌∷◌, length, Option, Some, None, Result, Ok, Err, ◌≡◌, codes, if◌then◌else◌}
use Rattle.std.specs.List.{list_all, slice_split}
use Rattle.std.specs.Option.{option_map, option_and_then}
use Rattle.std.specs.Str.{bytes_eq}
use Rattle.std.specs.Str.Parse.{digits_value}
use Rattle.hex.specs.Hex.{decode_of}
use Rattle.hex.specs.declared.error.FromHexError.{FromHexError}
use Rattle.ots_model.specs.Name.{is_name, is_digit}
use Rattle.ots_model.specs.declared.line.Decision.{Decision}
use Rattle.ots_model.specs.declared.line.Decision.TheVariants as decisions
use Rattle.ots_world.specs.declared.script.ScriptEvent.{ScriptEvent}
use Rattle.ots_world.specs.declared.script.ScriptEvent.TheVariants as events
use Rattle.ots_world.specs.declared.script.ScriptFault.{ScriptFault}
use Rattle.ots_world.specs.declared.script.ScriptFault.TheVariants as faults
use Rattle.ots_world.specs.declared.script.Whose.{Whose}
use Rattle.ots_world.specs.declared.script.Whose.TheVariants as whoses
use Rattle.ots_world.specs.declared.script.Relation.{Relation}
use Rattle.ots_world.specs.declared.script.Relation.TheVariants as relations
use Rattle.ots_world.specs.declared.script.Image.{Image}
use Rattle.ots_world.specs.declared.script.Image.TheVariants as images
use Rattle.ots_world.specs.Limits.{line_limit, flow_limit, image_limit}

-- a name
unfoldable pub name : List ℕ → Option (List ℕ)
name word = if is_name word then Some word else None

-- digits without a leading zero
abbrev pub is_numeral : List ℕ → Bool
is_numeral [] = false
is_numeral (d ∷ []) = is_digit d
is_numeral (d ∷ ds) = is_digit d && not (d == 48) && list_all is_digit ds

-- a number from low on, below high
unfoldable pub number_within : ℕ → ℕ → List ℕ → Option ℕ
number_within low high word =
    if is_numeral word && nat_le low (digits_value 10 word) && nat_lt (digits_value 10 word) high then Some (digits_value 10 word) else None

-- a number below 2 ^ 64
abbrev pub number : List ℕ → Option ℕ
number word = number_within 0 (2 ^ 64) word

-- 0 or 1: whether the client asks for reports
unfoldable pub flag : List ℕ → Option Bool
flag word = if bytes_eq word (codes "0") then Some false else if bytes_eq word (codes "1") then Some true else None

unfoldable pub decision : List ℕ → Option Decision
decision word = if bytes_eq word (codes "commit") then Some decisions.Commit
    else if bytes_eq word (codes "rollback") then Some decisions.Rollback else None

-- whose status
unfoldable pub whose : List ℕ → Option Whose
whose word = if bytes_eq word (codes "own") then Some whoses.Own
    else if bytes_eq word (codes "parent") then Some whoses.Parent
    else if bytes_eq word (codes "top") then Some whoses.Top else None

unfoldable pub relation : List ℕ → Option Relation
relation word = if bytes_eq word (codes "same") then Some relations.Same
    else if bytes_eq word (codes "ancestor") then Some relations.Ancestor
    else if bytes_eq word (codes "descendant") then Some relations.Descendant
    else if bytes_eq word (codes "related") then Some relations.Related else None

-- octets, as an even number of hexadecimal digits of either case: one octet at least, and not too many
abbrev pub octets_of : Result (List ℕ) FromHexError → Option (List ℕ)
octets_of (Ok octets) = if nat_le 1 (length octets) && nat_le (length octets) image_limit then Some octets else None
octets_of (Err e) = None

-- what stands of what was written and not synced
unfoldable pub image : List ℕ → Option Image
image word = if bytes_eq word (codes "old") then Some images.Old
    else if bytes_eq word (codes "new") then Some images.New
    else option_map images.Octets (octets_of (decode_of word))

-- an event of one, two or three parts, where each part can be read
abbrev pub of_one : {A : Type 0} → (A → ScriptEvent) → Option A → Option ScriptEvent
of_one make a = option_map make a

abbrev pub of_two : {A B : Type 0} → (A → B → ScriptEvent) → Option A → Option B → Option ScriptEvent
of_two make a b = option_and_then (λ x. option_map (make x) b) a

abbrev pub of_three : {A B C : Type 0} → (A → B → C → ScriptEvent) → Option A → Option B → Option C → Option ScriptEvent
of_three make a b c = option_and_then (λ x. of_two (make x) b c) a

-- lines with one word behind the first
unfoldable pub event_of_one : List ℕ → List ℕ → Option ScriptEvent
event_of_one word a =
    if bytes_eq word (codes "node") then of_one events.Node (name a)
    else if bytes_eq word (codes "end") then of_one events.End (name a)
    else if bytes_eq word (codes "refuse") then of_one events.Refuse (name a)
    else if bytes_eq word (codes "balk") then of_one events.Balk (name a)
    else if bytes_eq word (codes "rollback") then of_one events.Rollback (name a)
    else if bytes_eq word (codes "mark") then of_one events.Mark (name a)
    else if bytes_eq word (codes "name") then of_one events.NameOf (name a)
    else if bytes_eq word (codes "hash") then of_one events.Hash (name a)
    else if bytes_eq word (codes "crash") then of_one events.Crash (name a)
    else if bytes_eq word (codes "restart") then of_one events.Restart (name a)
    else if bytes_eq word (codes "flow") then of_one events.Flow (number_within 1 (flow_limit + 1) a)
    else if bytes_eq word (codes "deliver") then of_one events.Deliver (number a)
    else if bytes_eq word (codes "lose") then of_one events.Lose (number a)
    else if bytes_eq word (codes "giveup") then of_one events.GiveUp (number a)
    else None

-- lines with a server and a number behind the first word
unfoldable pub event_of_server : List ℕ → List ℕ → List ℕ → Option ScriptEvent
event_of_server word a b =
    if bytes_eq word (codes "tick") then of_two events.Tick (name a) (number b)
    else if bytes_eq word (codes "fail") then of_two events.Fail (name a) (number_within 1 (2 ^ 64) b)
    else None

-- lines with two words behind the first
unfoldable pub event_of_two : List ℕ → List ℕ → List ℕ → Option ScriptEvent
event_of_two word a b =
    if bytes_eq word (codes "sub") then of_two events.Sub (name a) (name b)
    else if bytes_eq word (codes "get") then of_two events.Get (name a) (number b)
    else if bytes_eq word (codes "choose") then of_two events.Choose (name a) (decision b)
    else if bytes_eq word (codes "commit") then of_two events.Commit (name a) (flag b)
    else if bytes_eq word (codes "status") then of_two events.Status (name a) (whose b)
    else event_of_server word a b

-- lines with three names behind the first word
unfoldable pub event_of_names : List ℕ → List ℕ → List ℕ → List ℕ → Option ScriptEvent
event_of_names word a b c =
    if bytes_eq word (codes "register") then of_three events.Register (name a) (name b) (name c)
    else if bytes_eq word (codes "aware") then of_three events.Aware (name a) (name b) (name c)
    else if bytes_eq word (codes "double") then of_three events.Double (name a) (name b) (name c)
    else if bytes_eq word (codes "sync") then of_three events.Sync (name a) (name b) (name c)
    else if bytes_eq word (codes "import") then of_three events.Import (name a) (name b) (name c)
    else None

-- lines with three words behind the first, but for `stop`
unfoldable pub event_of_three : List ℕ → List ℕ → List ℕ → List ℕ → Option ScriptEvent
event_of_three word a b c =
    if bytes_eq word (codes "begin") then of_three events.Begin (name a) (name b) (number_within 0 (2 ^ 32) c)
    else if bytes_eq word (codes "put") then of_three events.Put (name a) (number b) (number c)
    else if bytes_eq word (codes "rel") then of_three events.Relate (relation a) (name b) (name c)
    else event_of_names word a b c

-- the words behind `stop`
unfoldable pub stop : List ℕ → List ℕ → List ℕ → Option ScriptEvent
stop a b c = of_three events.Stop (name a) (number_within 1 (2 ^ 64) b) (image c)

-- the event that a line's words say
abbrev pub event_of : List (List ℕ) → Option ScriptEvent
event_of (word ∷ a ∷ []) = event_of_one word a
event_of (word ∷ a ∷ b ∷ []) = event_of_two word a b
event_of (word ∷ a ∷ b ∷ c ∷ []) = if bytes_eq word (codes "stop") then stop a b c else event_of_three word a b c
event_of _ = None

-- an image of octets, which want memory
abbrev pub HasOctets : Image → Type 0
HasOctets (images.Octets octets) = Unit {0}
HasOctets _ = ⊥

-- an event whose image has them
abbrev pub WantsMemory : ScriptEvent → Type 0
WantsMemory (events.Stop server write image) = HasOctets image
WantsMemory _ = ⊥

-- what a line says
pub data Reading : Type 0 where
  -- nothing: it is empty, or a comment
  Blank : Reading
  Says : (event : ScriptEvent) → Reading
  -- it is outside the grammar
  Bad : Reading

abbrev pub says : Option ScriptEvent → Reading
says (Some event) = Says event
says None = Bad

-- an empty line, or one that begins with #
abbrev pub is_blank : List ℕ → Bool
is_blank [] = true
is_blank (b ∷ bs) = b == 35

-- the words of a line, parted by single spaces
abbrev pub words : List ℕ → List (List ℕ)
words line = slice_split (λ b. b == 32) line

-- the meaning of a line, without its line feed
unfoldable pub reading : List ℕ → Reading
reading line = if nat_lt line_limit (length line) then Bad else if is_blank line then Blank
    else says (event_of (words line))

-- The answer of a reader of lines. Memory may run out for a line that says an event with octets, and for no other.
abbrev pub Reads : Result (Option ScriptEvent) ScriptFault → Reading → Type 0
Reads (Ok (Some event)) read = read ≡ Says event
Reads (Ok None) read = read ≡ Blank
Reads (Err faults.BadLine) read = read ≡ Bad
Reads (Err faults.Memory) read = (event : ScriptEvent) × (read ≡ Says event) × WantsMemory event

-- the answer of a reader of one thing, likewise
abbrev pub Gives : {A : Type 0} → (A → Type 0) → Result A ScriptFault → Option A → Type 0
Gives wants (Ok thing) read = read ≡ Some thing
Gives wants (Err faults.BadLine) read = read ≡ None
Gives {A = A} wants (Err faults.Memory) read = (thing : A) × (read ≡ Some thing) × wants thing
