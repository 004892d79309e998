-- The command lines (our profile).
use Rattle.std.specs.Prelude.{◌≡◌, ◌≢◌, ◌≤◌, ◌<◌, ◌↔◌, ◌⊎◌, ◌^◌, ℕ, false, List, [], ◌∷◌, length, Some, codes}
use Rattle.std.specs.Str.{IsUtf8}
use Rattle.cdr_values.specs.Value.{has_nul}
use Rattle.ots_world.specs.Script.{number_within}
use Rattle.ots_program.specs.declared.command.Command.{Command}
use Rattle.ots_program.specs.declared.command.Command.TheVariants.{Replay, Show, Serve, Resource}
use Rattle.ots_program.specs.declared.serve.Service.{Service}
use Rattle.ots_program.specs.declared.status.Status.{Status}
use Rattle.ots_program.specs.declared.status.Status.TheVariants.{Usage}

-- what a service is asked for: its number, the file of its journal, and where it stands
pub record Serving : Type 0 where
  pub number : ℕ
  pub file : List ℕ
  pub host : List ℕ
  pub port : ℕ

-- what a command line asks for
pub data Asked : Type 0 where
  Replays : Asked
  Shows : Asked
  Serves : (service : Serving) → Asked
  ServesEnd : (service : Serving) → Asked

abbrev pub served : Service → Serving
served s = record { number = s.number; file = s.file.now; host = s.host.now; port = s.port }

abbrev pub asked_by : Command → Asked
asked_by Replay = Replays
asked_by Show = Shows
asked_by (Serve s) = Serves (served s)
asked_by (Resource s) = ServesEnd (served s)

-- a name of a file or of a machine: UTF-8 of 1 to 255 octets without a NUL, which begins with no dash
pub record IsNamed (text : List ℕ) : Type 0 where
  pub utf8 : IsUtf8 text
  pub some : 0 < length text
  pub short : length text ≤ 255
  pub no_nul : has_nul text ≡ false
  pub no_dash : (rest : List ℕ) → text ≢ 45 ∷ rest

-- these words ask for a service: its number is from 1 to 2^32 - 1, and its port from 1 to 65535, in decimal digits without a
-- leading zero
pub record IsServed (number file host port : List ℕ) (s : Serving) : Type 0 where
  pub number_is : number_within 1 (2 ^ 32) number ≡ Some s.number
  pub port_is : number_within 1 (2 ^ 16) port ≡ Some s.port
  pub file_same : s.file ≡ file
  pub host_same : s.host ≡ host
  pub file_is : IsNamed file
  pub host_is : IsNamed host

-- which stand behind a command's name
abbrev pub IsBehind : List ℕ → List (List ℕ) → Serving → Type 0
IsBehind name (word ∷ number ∷ file ∷ host ∷ port ∷ []) s = (word ≡ name) × IsServed number file host port s
IsBehind name words s = ⊥

abbrev pub IsServe : List (List ℕ) → Serving → Type 0
IsServe words s = IsBehind (codes "serve") words s

abbrev pub IsResource : List (List ℕ) → Serving → Type 0
IsResource words s = IsBehind (codes "resource") words s

-- the words are this one
abbrev pub IsAlone : List ℕ → List (List ℕ) → Type 0
IsAlone name (word ∷ []) = word ≡ name
IsAlone name words = ⊥

-- the table of command lines: what the words behind the program's name ask for, each as octets
abbrev pub Asks : List (List ℕ) → Asked → Type 0
Asks words Replays = IsAlone (codes "replay") words
Asks words Shows = IsAlone (codes "show") words
Asks words (Serves service) = IsServe words service
Asks words (ServesEnd service) = IsResource words service

abbrev pub IsReplay : List (List ℕ) → Type 0
IsReplay words = Asks words Replays

abbrev pub IsShow : List (List ℕ) → Type 0
IsShow words = Asks words Shows

-- they ask for a service of either kind: for transactions, or for a resource end
abbrev pub IsService : List (List ℕ) → Serving → Type 0
IsService words service = IsServe words service ⊎ IsResource words service

-- no other words are a command line
abbrev pub AsksNothing : List (List ℕ) → Type 0
AsksNothing words = (asked : Asked) → ¬ Asks words asked

-- Usage comes exactly where the words are no command line
abbrev pub IsUsage : Status → List (List ℕ) → Type 0
IsUsage status words = (status ≡ Usage) ↔ AsksNothing words
