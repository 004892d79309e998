-- One more line, and what it leaves of what was said of names.
use Rattle.std.proofs.Common.{◌≡◌, ℕ, Bool, true, false, inl, inr, List, ◌∷◌, sym, ap, ◌∙◌, subst}
use Rattle.ots_model.specs.declared.completion.Word.{Word}
use Rattle.ots_model.specs.declared.completion.Word.TheVariants as words
use Rattle.ots_model.specs.declared.line.Line.{Line}
use Rattle.ots_model.specs.declared.line.Line.TheVariants as lines
use Rattle.ots_model.specs.Safe.{Stands}
use Rattle.ots_model.proofs.SafeCarried.{Carries, CarriesRegistrations, CarriesEnds, CarriesDeciders}

-- what a line changes of what is said of names
pub data Kind : Type 0 where
  plain making registering ending deciding : Kind

abbrev pub telling : Word → Kind
telling words.CommitOnePhase = deciding
telling _ = plain

abbrev pub closing : Bool → Kind
closing true = ending
closing false = plain

abbrev pub kind : Line → Kind
kind (lines.Top t node) = making
kind (lines.Imp f t node) = making
kind (lines.Sub t parent) = making
kind (lines.Reg g t end) = registering
kind (lines.SubDone t committed) = closing committed
kind (lines.Send message word g) = telling word
kind _ = plain

abbrev pub Any : List ℕ → Type 0
Any t = Unit {0}

-- what stands behind a line of another kind stood without it
pub other : (y line : Line) (h : List Line) → ¬ (kind y ≡ kind line) → Stands line (y ∷ h) → Stands line h
other y line h differ (inl same) = absurd (differ (ap kind same))
other y line h differ (inr s) = s

-- all that stood stands still
pub carries_on : (y : Line) (h : List Line) → Carries Any h (y ∷ h)
carries_on y h = record {
  top = λ t node old s. inr s;
  imp = λ f t node old s. (inr s, tt);
  sub = λ t parent old s. (inr s, tt);
  family = λ f family same. tt;
}

pub deciders_on : (y : Line) (h : List Line) → CarriesDeciders Any h (y ∷ h)
deciders_on y h f old (inl (node, s)) = inl (node, inr s)
deciders_on y h f old (inr (message, s)) = inr (message, inr s)

-- a line that makes no transaction leaves what stands of them
pub carries_back : (y : Line) (h : List Line) → ¬ (kind y ≡ making) → Carries Any (y ∷ h) h
carries_back y h differ = record {
  top = λ t node old s. other y (lines.Top t node) h differ s;
  imp = λ f t node old s. (other y (lines.Imp f t node) h differ s, tt);
  sub = λ t parent old s. (other y (lines.Sub t parent) h differ s, tt);
  family = λ f family same. tt;
}

pub registrations_back : (y : Line) (h : List Line) → ¬ (kind y ≡ registering) → CarriesRegistrations (y ∷ h) h
registrations_back y h differ g t end s = other y (lines.Reg g t end) h differ s

pub ends_back : (y : Line) (h : List Line) → ¬ (kind y ≡ ending) → CarriesEnds (y ∷ h) h
ends_back y h differ t s = other y (lines.SubDone t true) h differ s

pub deciders_back : (y : Line) (h : List Line) → ¬ (kind y ≡ making) → ¬ (kind y ≡ deciding) → CarriesDeciders Any (y ∷ h) h
deciders_back y h not_making not_deciding f old (inl (node, s)) = inl (node, other y (lines.Top f node) h not_making s)
deciders_back y h not_making not_deciding f old (inr (message, s)) = inr (message, other y (lines.Send message words.CommitOnePhase f) h not_deciding s)

-- another name than this
abbrev pub But : List ℕ → List ℕ → Type 0
But t k = ¬ (k ≡ t)

-- a line that makes a new transaction
abbrev pub Makes : List ℕ → Line → Type 0
Makes k (lines.Top t node) = t ≡ k
Makes k (lines.Imp f t node) = f ≡ k
Makes k (lines.Sub t parent) = t ≡ k
Makes k _ = ⊥

-- speaks of that one alone
pub makes_other : (y line : Line) (h : List Line) (t k : List ℕ) → Makes t y → Makes k line → But t k → Stands line (y ∷ h) → Stands line h
makes_other y line h t k makes of but (inl same) = absurd (but (one_made line k t of (subst (Makes t) same makes)))
  where
    one_made : (line : Line) (k t : List ℕ) → Makes k line → Makes t line → k ≡ t
    one_made (lines.Top u node) k t a b = sym a ∙ b
    one_made (lines.Imp u s node) k t a b = sym a ∙ b
    one_made (lines.Sub u parent) k t a b = sym a ∙ b
    one_made _ k t a b = absurd a
makes_other y line h t k makes of but (inr s) = s
