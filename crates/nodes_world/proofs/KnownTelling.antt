-- What goes on to be told when further lines tell of nothing that is under way.
use Rattle.std.proofs.Common.{◌≡◌, ◌⊎◌, inl, inr, Bool, true, false, List, [], ◌∷◌, ◌++◌, reverse, append_assoc, append-nil, Contains, refl, sym, ap, subst, ◌∙◌, true≢false}
use Rattle.std.specs.List.{AllByRecursion}
use Rattle.std.proofs.lemmas.List.Elements.{Contains-append_left, Contains-push_cases, filter_map-append}
use Rattle.ots_model.specs.Safe.{Stands}
use Rattle.ots_model.specs.SafeByLine.{AreAllowed, IsAllowed}
use Rattle.ots_model.specs.declared.completion.Ground.TheVariants as grounds
use Rattle.ots_model.specs.Numbered.{LineOutcome as Outcome}
use Rattle.ots_model.specs.declared.completion.Outcome.TheVariants as outcomes
use Rattle.ots_model.specs.declared.line.Line.{Line}
use Rattle.ots_model.specs.declared.line.Line.TheVariants as lines
use Rattle.nodes_world.specs.Told as tell
use Rattle.nodes_world.specs.Told.{Told, known, known_in}
use Rattle.nodes_world.proofs.KnownLines.{AreAmong, in_front, lines_of}
use Rattle.nodes_world.proofs.KnownFrames.{IsReason, known_phase, last_cases, newest_phase, split_last}

-- ---- which lines these are

abbrev pub is_recorded : Outcome → Bool
is_recorded (outcomes.Commit grounds.Record) = true
is_recorded _ = false

-- a message has come, a node or an end has come up
abbrev pub is_plain : Line → Bool
is_plain (lines.Recv number) = true
is_plain (lines.Up server life) = true
is_plain _ = false

-- or a decision that is recorded is told
abbrev pub is_bare : Line → Bool
is_bare (lines.Recv number) = true
is_bare (lines.Up server life) = true
is_bare (lines.Decide name outcome) = is_recorded outcome
is_bare (lines.Done name) = true
is_bare _ = false

pub plain_bare : (line : Line) → is_plain line ≡ true → is_bare line ≡ true
plain_bare (lines.Recv number) is = refl
plain_bare (lines.Up server life) is = refl
plain_bare _ is = absurd cc

pub bare_allowed : (line : Line) (h : List Line) → is_bare line ≡ true → IsAllowed line h
bare_allowed (lines.Recv number) h is = tt
bare_allowed (lines.Up server life) h is = tt
bare_allowed (lines.Decide name outcome) h is = tt
bare_allowed (lines.Done name) h is = tt
bare_allowed _ h is = absurd cc

-- a line is one of these, or isn't known and tells no rollback
abbrev pub IsOne : (Line → Bool) → Told → Type 0
IsOne flag (tell.Known line) = flag line ≡ true
IsOne flag (tell.RolledBack transaction reason) = ⊥
IsOne flag (tell.RolledBackBy transaction reason synchronization) = ⊥
IsOne flag _ = Unit {0}

-- ---- what goes on to be told

pub record TellsOn (flag : Line → Bool) (told later : List Told) : Type 0 where
  pub on : AreAmong (known told) (known later)
  pub back : (line : Line) → flag line ≡ false → Stands line (known later) → Stands line (known told)
  pub split : (line : Line) (before behind : List Line) → flag line ≡ false → known later ≡ before ++ (line ∷ behind)
      → (more : List Line) × (known told ≡ before ++ (line ∷ more))
  pub reasons_on : (t : Told) → Contains told t → Contains later t
  pub reasons_back : (t : Told) → IsReason t → Contains later t → Contains told t

tells_self : (flag : Line → Bool) (told : List Told) → TellsOn flag told told
tells_self flag told = record {
  on = λ line s. s;
  back = λ line other s. s;
  split = λ line before behind other e. (behind, e);
  reasons_on = λ t c. c;
  reasons_back = λ t reason c. c;
}

tells_then : (flag : Line → Bool) (a b c : List Told) → TellsOn flag a b → TellsOn flag b c → TellsOn flag a c
tells_then flag a b c first later = record {
  on = λ line s. later.on line (first.on line s);
  back = λ line other s. first.back line other (later.back line other s);
  split = λ line before behind other e.
      let at = later.split line before behind other e in
      first.split line before at.0 other at.1;
  reasons_on = λ t among. later.reasons_on t (first.reasons_on t among);
  reasons_back = λ t reason among. first.reasons_back t reason (later.reasons_back t reason among);
}

not_one : (flag : Line → Bool) (t u : Told) → IsOne flag t → IsReason u → t ≡ u → ⊥
not_one flag t (tell.RolledBack name reason) one is e = subst (IsOne flag) e one
not_one flag t (tell.RolledBackBy name reason synchronization) one is e = subst (IsOne flag) e one
not_one flag t _ one is e = absurd is

reason_back : (flag : Line → Bool) (told : List Told) (t u : Told) → IsOne flag t → IsReason u → Contains (told ++ t ∷ []) u → Contains told u
reason_back flag told t u one reason c =
    elim (Contains-push_cases told t u c) [
      | inl there ↦ there
      | inr here ↦ absurd (not_one flag t u one reason here)
    ]

not_same : (flag : Line → Bool) (last line : Line) → flag last ≡ true → flag line ≡ false → last ≡ line → ⊥
not_same flag last line is other e = true≢false (sym is ∙ ap flag e ∙ other)

tells_known : (flag : Line → Bool) (told : List Told) (last : Line) → flag last ≡ true → TellsOn flag told (told ++ tell.Known last ∷ [])
tells_known flag told last is =
    let more = known_phase told last in
    record {
      on = λ line s. subst (Stands line) (sym more) (in_front (known told) (last ∷ []) line s);
      back = λ line other s. by line other (last_cases (known told) line last (subst (Stands line) more s));
      split = λ line before behind other e. split_last (known told) before behind line last (not_same flag last line is other) (sym more ∙ e);
      reasons_on = λ t c. Contains-append_left told _ t c;
      reasons_back = λ t reason c. reason_back flag told (tell.Known last) t is reason c;
    }
  where
    by : (line : Line) → flag line ≡ false → Stands line (known told) ⊎ (last ≡ line) → Stands line (known told)
    by line other (inl s) = s
    by line other (inr e) = absurd (not_same flag last line is other e)

tells_other : (flag : Line → Bool) (told : List Told) (t : Told) → IsOne flag t → known (told ++ t ∷ []) ≡ known told → TellsOn flag told (told ++ t ∷ [])
tells_other flag told t one same = record {
  on = λ line s. subst (Stands line) (sym same) s;
  back = λ line other s. subst (Stands line) same s;
  split = λ line before behind other e. (behind, sym same ∙ e);
  reasons_on = λ u c. Contains-append_left told _ u c;
  reasons_back = λ u reason c. reason_back flag told t u one reason c;
}

pub unknown_same : (told : List Told) (t : Told) → known (t ∷ []) ≡ [] → known (told ++ t ∷ []) ≡ known told
unknown_same told t none = filter_map-append known_in told (t ∷ []) ∙ ap (λ ls. known told ++ ls) none ∙ append-nil (known told)

tells_one : (flag : Line → Bool) (told : List Told) (t : Told) → IsOne flag t → TellsOn flag told (told ++ t ∷ [])
tells_one flag told (tell.Known line) one = tells_known flag told line one
tells_one flag told (tell.RolledBack transaction reason) one = absurd one
tells_one flag told (tell.RolledBackBy transaction reason synchronization) one = absurd one
tells_one flag told (tell.Down server) one = tells_other flag told _ tt (unknown_same told _ refl)
tells_one flag told (tell.Aware resource transaction end) one = tells_other flag told _ tt (unknown_same told _ refl)
tells_one flag told (tell.Called message operation transaction) one = tells_other flag told _ tt (unknown_same told _ refl)
tells_one flag told (tell.Answered message answer) one = tells_other flag told _ tt (unknown_same told _ refl)
tells_one flag told (tell.Sent message operation registration) one = tells_other flag told _ tt (unknown_same told _ refl)
tells_one flag told (tell.Back message request answer) one = tells_other flag told _ tt (unknown_same told _ refl)
tells_one flag told (tell.Dropped message) one = tells_other flag told _ tt (unknown_same told _ refl)
tells_one flag told (tell.Marked transaction) one = tells_other flag told _ tt (unknown_same told _ refl)
tells_one flag told (tell.Doubted transaction) one = tells_other flag told _ tt (unknown_same told _ refl)
tells_one flag told (tell.Refused word answer) one = tells_other flag told _ tt (unknown_same told _ refl)
tells_one flag told (tell.Journal server octets) one = tells_other flag told _ tt (unknown_same told _ refl)

pub tells_on : (flag : Line → Bool) (told some : List Told) → AllByRecursion (IsOne flag) some → TellsOn flag told (told ++ some)
tells_on flag told [] all = subst (TellsOn flag told) (sym (append-nil told)) (tells_self flag told)
tells_on flag told (t ∷ others) (one, all) =
    subst (TellsOn flag told) (append_assoc told (t ∷ []) others)
    (tells_then flag told (told ++ t ∷ []) ((told ++ t ∷ []) ++ others) (tells_one flag told t one) (tells_on flag (told ++ t ∷ []) others all))

-- ---- they are allowed

allowed_one : (told : List Told) (t : Told) → IsOne is_bare t → AreAllowed (lines_of told) → AreAllowed (lines_of (told ++ t ∷ []))
allowed_one told (tell.Known line) one all = subst AreAllowed (sym (newest_phase told line)) (bare_allowed line (lines_of told) one, all)
allowed_one told (tell.RolledBack transaction reason) one all = absurd one
allowed_one told (tell.RolledBackBy transaction reason synchronization) one all = absurd one
allowed_one told (tell.Down server) one all = subst AreAllowed (sym (ap reverse (unknown_same told (tell.Down server) refl))) all
allowed_one told (tell.Aware resource transaction end) one all = subst AreAllowed (sym (ap reverse (unknown_same told (tell.Aware resource transaction end) refl))) all
allowed_one told (tell.Called message operation transaction) one all =
    subst AreAllowed (sym (ap reverse (unknown_same told (tell.Called message operation transaction) refl))) all
allowed_one told (tell.Answered message answer) one all = subst AreAllowed (sym (ap reverse (unknown_same told (tell.Answered message answer) refl))) all
allowed_one told (tell.Sent message operation registration) one all =
    subst AreAllowed (sym (ap reverse (unknown_same told (tell.Sent message operation registration) refl))) all
allowed_one told (tell.Back message request answer) one all = subst AreAllowed (sym (ap reverse (unknown_same told (tell.Back message request answer) refl))) all
allowed_one told (tell.Dropped message) one all = subst AreAllowed (sym (ap reverse (unknown_same told (tell.Dropped message) refl))) all
allowed_one told (tell.Marked transaction) one all = subst AreAllowed (sym (ap reverse (unknown_same told (tell.Marked transaction) refl))) all
allowed_one told (tell.Doubted transaction) one all = subst AreAllowed (sym (ap reverse (unknown_same told (tell.Doubted transaction) refl))) all
allowed_one told (tell.Refused word answer) one all = subst AreAllowed (sym (ap reverse (unknown_same told (tell.Refused word answer) refl))) all
allowed_one told (tell.Journal server octets) one all = subst AreAllowed (sym (ap reverse (unknown_same told (tell.Journal server octets) refl))) all

pub allowed_on : (told some : List Told) → AllByRecursion (IsOne is_bare) some → AreAllowed (lines_of told) → AreAllowed (lines_of (told ++ some))
allowed_on told [] none all = subst (λ (x : List Told). AreAllowed (lines_of x)) (sym (append-nil told)) all
allowed_on told (t ∷ others) (one, rest) all =
    subst (λ (x : List Told). AreAllowed (lines_of x)) (append_assoc told (t ∷ []) others)
    (allowed_on (told ++ t ∷ []) others rest (allowed_one told t one all))

-- ---- lines of one kind are of another

one_as : (a b : Line → Bool) → ((line : Line) → a line ≡ true → b line ≡ true) → (t : Told) → IsOne a t → IsOne b t
one_as a b same (tell.Known line) one = same line one
one_as a b same (tell.RolledBack transaction reason) one = one
one_as a b same (tell.RolledBackBy transaction reason synchronization) one = one
one_as a b same (tell.Down server) one = tt
one_as a b same (tell.Aware resource transaction end) one = tt
one_as a b same (tell.Called message operation transaction) one = tt
one_as a b same (tell.Answered message answer) one = tt
one_as a b same (tell.Sent message operation registration) one = tt
one_as a b same (tell.Back message request answer) one = tt
one_as a b same (tell.Dropped message) one = tt
one_as a b same (tell.Marked transaction) one = tt
one_as a b same (tell.Doubted transaction) one = tt
one_as a b same (tell.Refused word answer) one = tt
one_as a b same (tell.Journal server octets) one = tt

pub each_as : (a b : Line → Bool) → ((line : Line) → a line ≡ true → b line ≡ true) → (some : List Told) → AllByRecursion (IsOne a) some
    → AllByRecursion (IsOne b) some
each_as a b same [] all = tt
each_as a b same (t ∷ others) (one, all) = (one_as a b same t one, each_as a b same others all)

pub each_bare : (some : List Told) → AllByRecursion (IsOne is_plain) some → AllByRecursion (IsOne is_bare) some
each_bare = each_as is_plain is_bare plain_bare
