-- What a step tells of a family is allowed, line after line.
use Rattle.std.proofs.Common.{◌≡◌, ℕ, ◌==◌, ◌&&◌, ◌⊎◌, inl, inr, Bool, true, false, IsTrue, List, [], ◌∷◌, ◌++◌, find, reverse, append_assoc, append-nil, Contains, true≢false, Option, Some, None, refl, sym, ap, subst, ◌∙◌, arith}
use Rattle.std.specs.List.{AllByRecursion}
use Rattle.std.specs.Option.{option_map}
use Rattle.std.proofs.lemmas.Bool.Decides.{nat_tests}
use Rattle.std.proofs.lemmas.List.{reverse-append}
use Rattle.std.proofs.lemmas.List.Elements.{Contains-append_left}
use Rattle.ior_refs.specs.declared.key.ObjectKey.{ObjectKey}
use Rattle.ots_model.specs.Safe.{Stands}
use Rattle.ots_model.specs.SafeByLine.{AreAllowed, IsAllowed}
use Rattle.ots_model.specs.declared.line.Line.{Line}
use Rattle.ots_model.specs.declared.line.Line.TheVariants as lines
use Rattle.ots_model.specs.Numbered.{Outcome}
use Rattle.ots_model.specs.declared.completion.Outcome.TheVariants as outcomes
use Rattle.ots_model.specs.declared.tree.Reason.{Reason}
use Rattle.ots_model.specs.declared.completion.Reason.TheVariants as phase_reasons
use Rattle.ots_model.specs.declared.tree.Reason.TheVariants as reasons
use Rattle.coordinator.specs.declared.effect.Effect.{Effect}
use Rattle.coordinator.specs.declared.effect.Effect.TheVariants as effects
use Rattle.coordinator.specs.declared.said.Entry.{Entry}
use Rattle.coordinator.specs.declared.said.Finished.{Finished}
use Rattle.coordinator.specs.declared.said.Said.{Said}
use Rattle.coordinator.specs.Family.{Family}
use Rattle.family_laws.specs.LawsOfSteps.{EndInTurn}
use Rattle.nodes_world.specs.declared.thing.Thing.TheVariants as things
use Rattle.nodes_world.specs.Agreement.{IsTransaction}
use Rattle.nodes_world.specs.AgreementInside.{Known, IsBranch}
use Rattle.nodes_world.specs.Happenings.{Cast, all_effect_lines, all_finished_lines, answer_lines, branch_name, call_number, decided_lines, effect_lines, finished_lines, naming, registered, rollback_lines, synchronized}
use Rattle.nodes_world.specs.Objects.{branch_of, same_transaction}
use Rattle.nodes_world.specs.Told as tell
use Rattle.nodes_world.specs.Told.{Told, known}
use Rattle.nodes_world.specs.World.{World, NamedKey, family_at, transaction_name, transactions}
use Rattle.nodes_world.proofs.KnownLines.{AreAmong, in_front, lines_of}
use Rattle.nodes_world.proofs.KnownFrames.{known_phase, last_cases, split_last}
use Rattle.nodes_world.proofs.KnownTelling.{unknown_same}
use Rattle.nodes_world.proofs.LoadedLines.{all_both, found_transaction}
use Rattle.nodes_world.proofs.CanRegister.{IsOpenBranch, open_family}
use Rattle.nodes_world.proofs.EndsOpen.{EndIsOpen, ends_open, is_aside, open_later}

-- ---- lines that may follow in any order

-- a vote, an outcome, an end of a subtransaction or of a transaction
abbrev pub is_effect : Line → Bool
is_effect (lines.Voted name vote) = true
is_effect (lines.Decide name outcome) = true
is_effect (lines.SubDone t committed) = true
is_effect (lines.Done name) = true
is_effect _ = false

-- it tells nothing of the model, or what is allowed of what happened to a family
abbrev pub MayFollow : List Line → Told → Type 0
MayFollow h (tell.Known line) = (is_effect line ≡ true) × IsAllowed line h
MayFollow h _ = Unit {0}

effect_aside : (line : Line) → is_effect line ≡ true → is_aside line ≡ true
effect_aside (lines.Voted name vote) is = refl
effect_aside (lines.Decide name outcome) is = refl
effect_aside (lines.SubDone t committed) is = refl
effect_aside (lines.Done name) is = refl
effect_aside _ is = absurd cc

allowed_later : (line last : Line) (h : List Line) → is_effect line ≡ true → is_aside last ≡ true → IsAllowed line h → IsAllowed line (last ∷ h)
allowed_later (lines.Voted name vote) last h is aside may = tt
allowed_later (lines.Decide name outcome) last h is aside may = tt
allowed_later (lines.SubDone t true) last h is aside may = open_later last h aside t may
allowed_later (lines.SubDone t false) last h is aside may = tt
allowed_later (lines.Done name) last h is aside may = tt
allowed_later _ last h is aside may = absurd cc

follows_later : (last : Line) (h : List Line) (u : Told) → is_aside last ≡ true → MayFollow h u → MayFollow (last ∷ h) u
follows_later last h (tell.Known line) aside may = (may.0, allowed_later line last h may.0 aside may.1)
follows_later last h (tell.Down server) aside may = tt
follows_later last h (tell.Aware resource transaction end) aside may = tt
follows_later last h (tell.Called message operation transaction) aside may = tt
follows_later last h (tell.Answered message answer) aside may = tt
follows_later last h (tell.Sent message operation registration) aside may = tt
follows_later last h (tell.Back message request answer) aside may = tt
follows_later last h (tell.Dropped message) aside may = tt
follows_later last h (tell.RolledBack transaction reason) aside may = tt
follows_later last h (tell.RolledBackBy transaction reason synchronization) aside may = tt
follows_later last h (tell.Marked transaction) aside may = tt
follows_later last h (tell.Doubted transaction) aside may = tt
follows_later last h (tell.Refused word answer) aside may = tt
follows_later last h (tell.Journal server octets) aside may = tt

-- what the lines are with one more
abbrev Becomes : List Line → List Told → Told → Type 0
Becomes h told t = ((line : Line) × (is_effect line ≡ true) × IsAllowed line h × (known (told ++ t ∷ []) ≡ known told ++ line ∷ []))
    ⊎ (known (told ++ t ∷ []) ≡ known told)

becomes : (h : List Line) (told : List Told) (t : Told) → MayFollow h t → Becomes h told t
becomes h told (tell.Known line) may = inl (line, may.0, may.1, known_phase told line)
becomes h told (tell.Down server) may = inr (unknown_same told _ refl)
becomes h told (tell.Aware resource transaction end) may = inr (unknown_same told _ refl)
becomes h told (tell.Called message operation transaction) may = inr (unknown_same told _ refl)
becomes h told (tell.Answered message answer) may = inr (unknown_same told _ refl)
becomes h told (tell.Sent message operation registration) may = inr (unknown_same told _ refl)
becomes h told (tell.Back message request answer) may = inr (unknown_same told _ refl)
becomes h told (tell.Dropped message) may = inr (unknown_same told _ refl)
becomes h told (tell.RolledBack transaction reason) may = inr (unknown_same told _ refl)
becomes h told (tell.RolledBackBy transaction reason synchronization) may = inr (unknown_same told _ refl)
becomes h told (tell.Marked transaction) may = inr (unknown_same told _ refl)
becomes h told (tell.Doubted transaction) may = inr (unknown_same told _ refl)
becomes h told (tell.Refused word answer) may = inr (unknown_same told _ refl)
becomes h told (tell.Journal server octets) may = inr (unknown_same told _ refl)

newest : (told : List Told) (t : Told) (line : Line) → known (told ++ t ∷ []) ≡ known told ++ line ∷ [] → lines_of (told ++ t ∷ []) ≡ line ∷ lines_of told
newest told t line same = ap reverse same ∙ reverse-append (known told) (line ∷ [])

one_allowed : (told : List Told) (t : Told) → Becomes (lines_of told) told t → AreAllowed (lines_of told) → AreAllowed (lines_of (told ++ t ∷ []))
one_allowed told t (inl (line, is, may, same)) all = subst AreAllowed (sym (newest told t line same)) (may, all)
one_allowed told t (inr same) all = subst AreAllowed (sym (ap reverse same)) all

others_follow : (told : List Told) (t : Told) → Becomes (lines_of told) told t → (some : List Told) → AllByRecursion (MayFollow (lines_of told)) some
    → AllByRecursion (MayFollow (lines_of (told ++ t ∷ []))) some
others_follow told t b [] all = tt
others_follow told t (inl (line, is, may, same)) (u ∷ others) (one, all) = (
  subst (λ (h : List Line). MayFollow h u) (sym (newest told t line same)) (follows_later line (lines_of told) u (effect_aside line is) one),
  others_follow told t (inl (line, is, may, same)) others all,
)
others_follow told t (inr same) (u ∷ others) (one, all) =
    (subst (λ (h : List Line). MayFollow h u) (sym (ap reverse same)) one, others_follow told t (inr same) others all)

-- lines of which each may follow what is told are allowed one after another
pub followed_allowed : (told some : List Told) → AllByRecursion (MayFollow (lines_of told)) some → AreAllowed (lines_of told)
    → AreAllowed (lines_of (told ++ some))
followed_allowed told [] none all = subst (λ (x : List Told). AreAllowed (lines_of x)) (sym (append-nil told)) all
followed_allowed told (t ∷ others) (one, rest) all =
    let b = becomes (lines_of told) told t one in
    subst (λ (x : List Told). AreAllowed (lines_of x)) (append_assoc told (t ∷ []) others)
    (followed_allowed (told ++ t ∷ []) others (others_follow told t b others rest) (one_allowed told t b all))

-- what is kept of all that was told, but for the lines that such a step tells
pub record TellsEffects (told later : List Told) : Type 0 where
  pub on : AreAmong (known told) (known later)
  pub back : (line : Line) → is_effect line ≡ false → Stands line (known later) → Stands line (known told)
  pub split : (line : Line) (before behind : List Line) → is_effect line ≡ false → known later ≡ before ++ (line ∷ behind)
      → (more : List Line) × (known told ≡ before ++ (line ∷ more))
  pub reasons_on : (t : Told) → Contains told t → Contains later t

not_effect : (last line : Line) → is_effect last ≡ true → is_effect line ≡ false → last ≡ line → ⊥
not_effect last line is other e = true≢false (sym is ∙ ap is_effect e ∙ other)

one_told : (h : List Line) (told : List Told) (t : Told) → Becomes h told t → TellsEffects told (told ++ t ∷ [])
one_told h told t (inl (last, is, may, same)) = record {
  on = λ line s. subst (Stands line) (sym same) (in_front (known told) (last ∷ []) line s);
  back = λ line other s. by line other (last_cases (known told) line last (subst (Stands line) same s));
  split = λ line before behind other e. split_last (known told) before behind line last (not_effect last line is other) (sym same ∙ e);
  reasons_on = λ u c. Contains-append_left told _ u c;
}
  where
    by : (line : Line) → is_effect line ≡ false → Stands line (known told) ⊎ (last ≡ line) → Stands line (known told)
    by line other (inl s) = s
    by line other (inr e) = absurd (not_effect last line is other e)
one_told h told t (inr same) = record {
  on = λ line s. subst (Stands line) (sym same) s;
  back = λ line other s. subst (Stands line) same s;
  split = λ line before behind other e. (behind, sym same ∙ e);
  reasons_on = λ u c. Contains-append_left told _ u c;
}

both_told : (a b c : List Told) → TellsEffects a b → TellsEffects b c → TellsEffects a c
both_told a b c first later = record {
  on = λ line s. later.on line (first.on line s);
  back = λ line other s. first.back line other (later.back line other s);
  split = λ line before behind other e.
      let at = later.split line before behind other e in
      first.split line before at.0 other at.1;
  reasons_on = λ t among. later.reasons_on t (first.reasons_on t among);
}

none_told : (told : List Told) → TellsEffects told told
none_told told = record {
  on = λ line s. s;
  back = λ line other s. s;
  split = λ line before behind other e. (behind, e);
  reasons_on = λ t among. among;
}

-- lines that may follow keep it
pub followed_told : (h : List Line) (told some : List Told) → AllByRecursion (MayFollow h) some → TellsEffects told (told ++ some)
followed_told h told [] none = subst (TellsEffects told) (sym (append-nil told)) (none_told told)
followed_told h told (t ∷ others) (one, rest) =
    subst (TellsEffects told) (append_assoc told (t ∷ []) others)
    (both_told told (told ++ t ∷ []) ((told ++ t ∷ []) ++ others) (one_told h told t (becomes h told t one)) (followed_told h (told ++ t ∷ []) others rest))

-- ---- the name of a branch

same_parts : (a b c d e p q r s t : ℕ) → IsTrue (a == p && b == q && c == r && d == s && e == t)
    → IsTrue (a == p && b == q && c == r && d == s) × (e ≡ t)
same_parts a b c d e p q r s t is = (grind (arith, nat_tests), grind (arith, nat_tests))

module _ (w : World) (told : List Told) (k : Known w told) where
  -- what a key goes by is the name of that transaction
  pub name_named : (key : ObjectKey) (name : List ℕ) → transaction_name w key ≡ Some name
      → (named : ObjectKey) × IsTransaction w name named × (same_transaction named key ≡ true)
  unfolding transaction_name
  name_named key name is = by (find (λ (t : NamedKey). same_transaction t.key key) (transactions w)) refl is
    where
      name_of : {a b : List ℕ} → Some a ≡ Some b → a ≡ b
      name_of e = cc

      by : (o : Option NamedKey) → find (λ (t : NamedKey). same_transaction t.key key) (transactions w) ≡ o → option_map (λ (t : NamedKey). t.name) o ≡ Some name
          → (named : ObjectKey) × IsTransaction w name named × (same_transaction named key ≡ true)
      by None found is = absurd cc
      by (Some t) found is =
          let at = found_transaction (λ (x : NamedKey). same_transaction x.key key) w.names t found in
          (t.key, subst (λ (n : List ℕ). IsTransaction w n t.key) (name_of is) (k.names.once t.name (things.Transaction t.key) at.1), at.0)

  module _ (key : ObjectKey) (f : Family) (there : family_at w key ≡ Some f) (c : Cast) (own : c.key ≡ f.key) where
    pub branch_named : (b : ℕ) (name : List ℕ) → branch_name w c b ≡ Some name → IsBranch w f name b
    branch_named b name is =
        let at = name_named (branch_of c.key b) name is in
        let so = subst (λ (x : ObjectKey). same_transaction at.0 (branch_of x b) ≡ true) own at.2 in
        let parts = same_parts at.0.service at.0.life at.0.slot at.0.generation at.0.index f.key.service f.key.life f.key.slot f.key.generation b so in
        (at.0, at.1, parts.0, parts.1)

    abbrev Follow : List Told → Type 0
    Follow some = AllByRecursion (MayFollow (lines_of told)) some

    named_follow : (say : List ℕ → Told) → ((name : List ℕ) → MayFollow (lines_of told) (say name)) → (o : Option (List ℕ)) → Follow (naming say o)
    named_follow say may (Some name) = (may name, tt)
    named_follow say may None = tt

    ended_follow : (b : ℕ) (o : Option (List ℕ)) → branch_name w c b ≡ o → IsOpenBranch f b
        → Follow (naming (λ (name : List ℕ). tell.Known (lines.SubDone name true)) o)
    ended_follow b (Some name) is may = ((refl, open_family w told k name b key f there (branch_named b name is) may), tt)
    ended_follow b None is may = tt

    rollback_follow : (reason : Reason) (name : List ℕ) → Follow (rollback_lines w c name reason)
    rollback_follow reasons.Asked name = (tt, tt)
    rollback_follow reasons.Marked name = (tt, tt)
    rollback_follow reasons.Timeout name = (tt, tt)
    rollback_follow (reasons.Phase (phase_reasons.Vote g)) name = named_follow _ (λ object. (refl, tt)) (registered w c g)
    rollback_follow (reasons.Phase (phase_reasons.PrepareLost g)) name = named_follow _ (λ object. (refl, tt)) (registered w c g)
    rollback_follow (reasons.Phase (phase_reasons.PrepareStarved g)) name = named_follow _ (λ object. (refl, tt)) (registered w c g)
    rollback_follow (reasons.Phase (phase_reasons.PrepareFault g)) name = named_follow _ (λ object. (refl, tt)) (registered w c g)
    rollback_follow (reasons.SyncLost s) name = named_follow _ (λ object. tt) (synchronized w c s)
    rollback_follow (reasons.SyncStarved s) name = named_follow _ (λ object. tt) (synchronized w c s)
    rollback_follow (reasons.Phase (phase_reasons.JournalFull used need)) name = ((refl, tt), tt)
    rollback_follow reasons.NotStored name = (tt, tt)
    rollback_follow reasons.Superior name = (tt, tt)
    rollback_follow reasons.NotEnlisted name = (tt, tt)

    decided_follow : (outcome : Outcome) (o : Option (List ℕ)) → Follow (decided_lines w c outcome o)
    decided_follow outcome None = tt
    decided_follow (outcomes.Commit basis) (Some name) = ((refl, tt), tt)
    decided_follow (outcomes.Rollback reason) (Some name) = rollback_follow reason name
    decided_follow outcomes.Unknown (Some name) = ((refl, tt), tt)

    effect_follows : (e : Effect) → EndIsOpen f e → Follow (effect_lines w c e)
    unfolding effect_lines
    effect_follows (effects.Voted g vote) may = named_follow _ (λ name. (refl, tt)) (registered w c g)
    effect_follows (effects.Decided outcome) may = decided_follow outcome (branch_name w c 0)
    effect_follows (effects.SubtransactionEnded b true) may = ended_follow b (branch_name w c b) refl may
    effect_follows (effects.SubtransactionEnded b false) may = named_follow _ (λ name. (refl, tt)) (branch_name w c b)
    effect_follows (effects.Marked b) may = named_follow _ (λ name. tt) (branch_name w c b)
    effect_follows effects.Doubted may = named_follow _ (λ name. tt) (branch_name w c 0)
    effect_follows effects.Done may = named_follow _ (λ name. (refl, tt)) (branch_name w c 0)

    effects_follow : (some : List Effect) → AllByRecursion (EndIsOpen f) some → Follow (all_effect_lines w c some)
    effects_follow [] all = tt
    effects_follow (e ∷ others) (one, all) =
        all_both (MayFollow (lines_of told)) (effect_lines w c e) (all_effect_lines w c others) (effect_follows e one) (effects_follow others all)

    answer_follows : (answer : Said) (o : Option ℕ) → Follow (answer_lines answer o)
    answer_follows answer (Some message) = (tt, tt)
    answer_follows answer None = tt

    finished_follow : (entries : List Entry) (some : List Finished) → Follow (all_finished_lines entries some)
    finished_follow entries [] = tt
    finished_follow entries (a ∷ others) =
        all_both (MayFollow (lines_of told)) (finished_lines entries a) (all_finished_lines entries others)
        (answer_follows a.said (call_number entries a.position)) (finished_follow entries others)

    -- what a step tells of a family, and the answers to earlier calls, are allowed
    pub effects_allowed : (early : Bool) (some : List Effect) → EndInTurn early some f.rows → (entries : List Entry) (done : List Finished)
        → AreAllowed (lines_of (told ++ (all_effect_lines w c some ++ all_finished_lines entries done)))
    effects_allowed early some turn entries done =
        let open_ones = ends_open early f (k.families key f there).sound.lists.tree some f.rows (λ b live. live) (λ b. refl) turn in
        followed_allowed told _
        (all_both (MayFollow (lines_of told)) (all_effect_lines w c some) (all_finished_lines entries done) (effects_follow some open_ones) (finished_follow entries done))
        k.allowed

    -- and they keep all else that was told
    pub effects_told_on : (early : Bool) (some : List Effect) → EndInTurn early some f.rows → (entries : List Entry) (done : List Finished)
        → TellsEffects told (told ++ (all_effect_lines w c some ++ all_finished_lines entries done))
    effects_told_on early some turn entries done =
        let open_ones = ends_open early f (k.families key f there).sound.lists.tree some f.rows (λ b live. live) (λ b. refl) turn in
        followed_told (lines_of told) told _
        (all_both (MayFollow (lines_of told)) (all_effect_lines w c some) (all_finished_lines entries done) (effects_follow some open_ones) (finished_follow entries done))
