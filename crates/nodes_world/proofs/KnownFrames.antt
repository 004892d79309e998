-- What goes on to be told when further lines speak of words alone.
use Rattle.std.proofs.Common.{◌≡◌, ◌⊎◌, inl, inr, ℕ, zero, suc, ◌<◌, Bool, true, false, List, [], ◌∷◌, ◌++◌, length, slice_get, reverse, append-nil, Contains, Some, refl, sym, ap, subst, ◌∙◌, arith, true≢false}
use Rattle.std.proofs.lemmas.List.{reverse-append}
use Rattle.std.proofs.lemmas.List.Elements.{Contains-append_left, Contains-push_cases, filter_map-append}
use Rattle.ots_model.specs.Safe as safe
use Rattle.ots_model.specs.Safe.{Stands, IsRegistered, IsFamily, IsJoined, TakesPart}
use Rattle.ots_model.specs.declared.completion.Word.{Word as Phase}
use Rattle.ots_model.specs.declared.line.Line.{Line}
use Rattle.ots_model.specs.declared.line.Line.TheVariants as lines
use Rattle.ots_model.specs.declared.tree.Word.{Word}
use Rattle.ots_model.specs.declared.completion.Word.TheVariants as phase_words
use Rattle.ots_model.specs.declared.tree.Word.TheVariants as words
use Rattle.nodes_world.specs.Told as tell
use Rattle.nodes_world.specs.Told.{Told, known, known_in, sent}
use Rattle.nodes_world.proofs.KnownLines.{AreAmong, among_back, among_turned, in_front, lines_of}

-- ---- one more element

pub push_kept : {A : Type 0} (xs : List A) (i : ℕ) (y u : A) → slice_get xs i ≡ Some u → slice_get (xs ++ y ∷ []) i ≡ Some u
push_kept [] i y u e = absurd cc
push_kept (z ∷ xs) zero y u e = e
push_kept (z ∷ xs) (suc i) y u e = push_kept xs i y u e

pub push_last : {A : Type 0} (xs : List A) (y : A) → slice_get (xs ++ y ∷ []) (length xs) ≡ Some y
push_last [] y = refl
push_last (z ∷ xs) y = push_last xs y

some_inner : {A : Type 0} (x y : A) → Some x ≡ Some y → x ≡ y
some_inner x y e = cc

pub push_cases : {A : Type 0} (xs : List A) (i : ℕ) (y u : A) → slice_get (xs ++ y ∷ []) i ≡ Some u → (slice_get xs i ≡ Some u) ⊎ ((i ≡ length xs) × (u ≡ y))
push_cases [] zero y u e = inr (refl, sym (some_inner y u e))
push_cases [] (suc i) y u e = absurd cc
push_cases (z ∷ xs) zero y u e = inl e
push_cases (z ∷ xs) (suc i) y u e =
    elim (push_cases xs i y u e) [
      | inl there ↦ inl there
      | inr here ↦ inr (ap suc here.0, here.1)
    ]

pub place_within : {A : Type 0} (xs : List A) (i : ℕ) (u : A) → slice_get xs i ≡ Some u → i < length xs
place_within [] i u e = absurd cc
place_within (z ∷ xs) zero u e = omega arith
place_within (z ∷ xs) (suc i) u e = let l = place_within xs i u e in omega (arith, l)

-- ---- lines of words

abbrev pub is_send : Line → Bool
is_send (lines.Send message word g) = true
is_send _ = false

-- a word's line is one of the two phases, or isn't known
pub data IsOfWord : Told → Type 0 where
  by_phase : (message : ℕ) (phase : Phase) (name : List ℕ) → IsOfWord (tell.Known (lines.Send message phase name))
  by_other : (message : ℕ) (operation name : List ℕ) → IsOfWord (tell.Sent message operation name)

pub sent_of_word : (message : ℕ) (word : Word) (name : List ℕ) → IsOfWord (sent message word name)
sent_of_word message (words.Phase phase_words.Prepare) name = by_phase _ _ _
sent_of_word message (words.Phase phase_words.Commit) name = by_phase _ _ _
sent_of_word message (words.Phase phase_words.CommitOnePhase) name = by_phase _ _ _
sent_of_word message (words.Phase phase_words.Rollback) name = by_phase _ _ _
sent_of_word message words.Forget name = by_other _ _ _
sent_of_word message words.BeforeCompletion name = by_other _ _ _
sent_of_word message (words.AfterCompletion s) name = by_other _ _ _
sent_of_word message (words.CommitSub above) name = by_other _ _ _
sent_of_word message words.RollbackSub name = by_other _ _ _
sent_of_word message words.ReplayCompletion name = by_other _ _ _
sent_of_word message words.RegisterResource name = by_other _ _ _

abbrev pub IsReason : Told → Type 0
IsReason (tell.RolledBack name reason) = Unit {0}
IsReason (tell.RolledBackBy name reason synchronization) = Unit {0}
IsReason _ = ⊥

-- the lines told so far go on with one of a word
pub record Carries (told later : List Told) : Type 0 where
  pub on : AreAmong (known told) (known later)
  pub back : (line : Line) → is_send line ≡ false → Stands line (known later) → Stands line (known told)
  pub split : (line : Line) (before behind : List Line) → is_send line ≡ false → known later ≡ before ++ (line ∷ behind)
      → (more : List Line) × (known told ≡ before ++ (line ∷ more))
  pub reasons_on : (t : Told) → Contains told t → Contains later t
  pub reasons_back : (t : Told) → IsReason t → Contains later t → Contains told t

pub last_cases : (xs : List Line) (line last : Line) → Stands line (xs ++ last ∷ []) → Stands line xs ⊎ (last ≡ line)
last_cases [] line last (inl e) = inr e
last_cases [] line last (inr s) = absurd s
last_cases (x ∷ xs) line last (inl e) = inl (inl e)
last_cases (x ∷ xs) line last (inr s) =
    elim (last_cases xs line last s) [
      | inl there ↦ inl (inr there)
      | inr here ↦ inr here
    ]

head_of : {A : Type 0} (x y : A) (xs ys : List A) → x ∷ xs ≡ y ∷ ys → x ≡ y
head_of x y xs ys e = cc

tail_of : {A : Type 0} (x y : A) (xs ys : List A) → x ∷ xs ≡ y ∷ ys → xs ≡ ys
tail_of x y xs ys e = cc

pub split_last : (xs before behind : List Line) (line last : Line) → (last ≡ line → ⊥) → xs ++ last ∷ [] ≡ before ++ (line ∷ behind)
    → (more : List Line) × (xs ≡ before ++ (line ∷ more))
split_last [] [] behind line last other e = absurd (other (head_of last line [] behind e))
split_last [] (b ∷ []) behind line last other e = absurd cc
split_last [] (b ∷ c ∷ before) behind line last other e = absurd cc
split_last (x ∷ xs) [] behind line last other e = (xs, ap (λ (y : Line). y ∷ xs) (head_of x line (xs ++ last ∷ []) behind e))
split_last (x ∷ xs) (b ∷ before) behind line last other e =
    let rest = split_last xs before behind line last other (tail_of x b _ _ e) in
    (rest.0, ap (λ (y : Line). y ∷ xs) (head_of x b _ _ e) ∙ ap (λ ys. b ∷ ys) rest.1)

not_reason : (t u : Told) → IsOfWord t → IsReason u → t ≡ u → ⊥
not_reason _ u (by_phase message phase name) reason e = subst IsReason (sym e) reason
not_reason _ u (by_other message operation name) reason e = subst IsReason (sym e) reason

reason_back : (told : List Told) (t u : Told) → IsOfWord t → IsReason u → Contains (told ++ t ∷ []) u → Contains told u
reason_back told t u of reason c =
    elim (Contains-push_cases told t u c) [
      | inl there ↦ there
      | inr here ↦ absurd (not_reason t u of reason here)
    ]

not_send : (message : ℕ) (phase : Phase) (name : List ℕ) (line : Line) → is_send line ≡ false → lines.Send message phase name ≡ line → ⊥
not_send message phase name line other e = true≢false (ap is_send e ∙ other)

pub known_phase : (told : List Told) (line : Line) → known (told ++ tell.Known line ∷ []) ≡ known told ++ line ∷ []
known_phase told line = filter_map-append known_in told (tell.Known line ∷ [])

pub known_other : (told : List Told) (message : ℕ) (operation name : List ℕ) → known (told ++ tell.Sent message operation name ∷ []) ≡ known told
known_other told message operation name = filter_map-append known_in told (tell.Sent message operation name ∷ []) ∙ append-nil (known told)

carries_phase : (told : List Told) (message : ℕ) (phase : Phase) (name : List ℕ) → Carries told (told ++ tell.Known (lines.Send message phase name) ∷ [])
carries_phase told message phase name =
    let last = lines.Send message phase name in
    let is = known_phase told last in
    record {
      on = λ line s. subst (Stands line) (sym is) (in_front (known told) (last ∷ []) line s);
      back = λ line other s. by line other (last_cases (known told) line last (subst (Stands line) is s));
      split = λ line before behind other e. split_last (known told) before behind line last (not_send message phase name line other) (sym is ∙ e);
      reasons_on = λ t c. Contains-append_left told _ t c;
      reasons_back = λ t reason c. reason_back told _ t (by_phase message phase name) reason c;
    }
  where
    by : (line : Line) → is_send line ≡ false → Stands line (known told) ⊎ (lines.Send message phase name ≡ line) → Stands line (known told)
    by line other (inl s) = s
    by line other (inr e) = absurd (not_send message phase name line other e)

carries_other : (told : List Told) (message : ℕ) (operation name : List ℕ) → Carries told (told ++ tell.Sent message operation name ∷ [])
carries_other told message operation name =
    let is = known_other told message operation name in
    record {
      on = λ line s. subst (Stands line) (sym is) s;
      back = λ line other s. subst (Stands line) is s;
      split = λ line before behind other e. (behind, sym is ∙ e);
      reasons_on = λ t c. Contains-append_left told _ t c;
      reasons_back = λ t reason c. reason_back told _ t (by_other message operation name) reason c;
    }

pub carries : (told : List Told) (t : Told) → IsOfWord t → Carries told (told ++ t ∷ [])
carries told _ (by_phase message phase name) = carries_phase told message phase name
carries told _ (by_other message operation name) = carries_other told message operation name

-- the newest line stands first
pub newest_phase : (told : List Told) (line : Line) → lines_of (told ++ tell.Known line ∷ []) ≡ line ∷ lines_of told
newest_phase told line = ap reverse (known_phase told line) ∙ reverse-append (known told) (line ∷ [])

pub newest_other : (told : List Told) (message : ℕ) (operation name : List ℕ) → lines_of (told ++ tell.Sent message operation name ∷ []) ≡ lines_of told
newest_other told message operation name = ap reverse (known_other told message operation name)

module _ (told later : List Told) (c : Carries told later) where
  -- in the order that has the newest first
  pub turned_on : AreAmong (lines_of told) (lines_of later)
  turned_on line s = among_turned (known later) line (c.on line (among_back (known told) line s))

  pub turned_back : (line : Line) → is_send line ≡ false → Stands line (lines_of later) → Stands line (lines_of told)
  turned_back line other s = among_turned (known told) line (c.back line other (among_back (known later) line s))

-- what is said of names in one list of lines is said in another, where its lines are there, but for those of words
abbrev pub AreBack : List Line → List Line → Type 0
AreBack b a = (line : Line) → is_send line ≡ false → Stands line b → Stands line a

pub registered_back : (b a : List Line) (g t : List ℕ) → AreBack b a → IsRegistered g t b → IsRegistered g t a
registered_back b a g t m (end, s) = (end, m _ refl s)

pub family_back : (b a : List Line) (f : List ℕ) → AreBack b a → IsFamily f b → IsFamily f a
family_back b a f m (inl (node, s)) = inl (node, m _ refl s)
family_back b a f m (inr (t, (node, s))) = inr (t, (node, m _ refl s))

pub joined_back : (b a : List Line) (f t : List ℕ) → AreBack b a → IsJoined b f t → IsJoined a f t
joined_back b a f _ m (safe.IsJoined.own family) = safe.IsJoined.own (family_back b a f m family)
joined_back b a f _ m (safe.IsJoined.committed t parent done sub above) =
    safe.IsJoined.committed t parent (m _ refl done) (m _ refl sub) (joined_back b a f parent m above)

pub part_back : (b a : List Line) (g f : List ℕ) → AreBack b a → TakesPart g f b → TakesPart g f a
part_back b a g f m (t, registered, joined) = (t, registered_back b a g t m registered, joined_back b a f t m joined)
