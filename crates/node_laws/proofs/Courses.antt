-- A completion whose outcome is fixed keeps its participants: their numbers, their references and their votes, and that they were told.
use Rattle.std.proofs.Common.{◌≡◌, ◌≢◌, ◌&&◌, ℕ, zero, suc, List, [], ◌∷◌, Bool, true, false, not, if◌then◌else◌, Option, Some, None, is_some, is_none, refl, sym, subst, ◌∙◌}
use Rattle.std.specs.Prelude.{slice_set}
use Rattle.std.specs.List.{slice_get}
use Rattle.ots_model.specs.declared.completion.Heard.{Heard}
use Rattle.ots_model.specs.declared.completion.Stood.{Stood}
use Rattle.ots_model.specs.declared.completion.Stood.TheVariants as answers
use Rattle.ots_model.specs.Numbered.{Outcome}
use Rattle.two_phase.specs.Course as course
use Rattle.two_phase.specs.Course.{Course, same_number}
use Rattle.two_phase.specs.LawsOfAnswers.{WordsWaitForAnswers}
use Rattle.two_phase.specs.LawsOfReached.{IsReached, TreeBecomes, TreeOutcomeStays}
use Rattle.two_phase.specs.LawsOfReached.IsReached.{goes_on}
use Rattle.two_phase.specs.LawsOfReached.TreeBecomes.{by_word, by_answer, by_record, by_reread, by_rollback}
use Rattle.two_phase.specs.declared.party.Errand.{Errand}
use Rattle.two_phase.specs.declared.party.Party.{Party}
use Rattle.two_phase.specs.declared.party.Stage.{Stage}
use Rattle.two_phase.specs.declared.party.Stage.TheVariants as asks

-- ---- one participant, and each of some, later

pub record IsLater (p q : Party) : Type 0 where
  pub index : q.index ≡ p.index
  pub to : q.to ≡ p.to
  pub ballot : q.ballot ≡ p.ballot
  pub told : p.told ≢ None → q.told ≢ None

abbrev pub AreLater : List Party → List Party → Type 0
AreLater [] [] = Unit {0}
AreLater [] (q ∷ qs) = ⊥
AreLater (p ∷ ps) [] = ⊥
AreLater (p ∷ ps) (q ∷ qs) = IsLater p q × AreLater ps qs

itself : (p : Party) → IsLater p p
itself p = record { index = refl; to = refl; ballot = refl; told = λ n. n }

pub themselves : (ps : List Party) → AreLater ps ps
themselves [] = tt
themselves (p ∷ ps) = (itself p, themselves ps)

further_one : (p q r : Party) → IsLater p q → IsLater q r → IsLater p r
further_one p q r h k = record { index = k.index ∙ h.index; to = k.to ∙ h.to; ballot = k.ballot ∙ h.ballot; told = λ n. k.told (h.told n) }

pub further_all : (ps qs rs : List Party) → AreLater ps qs → AreLater qs rs → AreLater ps rs
further_all [] [] rs h k = k
further_all [] (q ∷ qs) rs h k = absurd h
further_all (p ∷ ps) [] rs h k = absurd h
further_all (p ∷ ps) (q ∷ qs) [] h k = absurd k
further_all (p ∷ ps) (q ∷ qs) (r ∷ rs) h k = (further_one p q r h.0 k.0, further_all ps qs rs h.1 k.1)

later_set : (ps : List Party) (k : ℕ) (p q : Party) → slice_get ps k ≡ Some p → IsLater p q → AreLater ps (slice_set ps k q)
later_set [] k p q e h = absurd (cc e)
later_set (x ∷ ps) zero p q e h = let same : x ≡ p = cc e in (subst (λ (y : Party). IsLater y q) (sym same) h, themselves ps)
later_set (x ∷ ps) (suc k) p q e h = (itself x, later_set ps k p q e h)

-- ---- a step of a completion

both_left : (a b : Bool) → (a && b) ≡ true → a ≡ true
both_left true b h = refl
both_left false b h = absurd (cc h)

both_right : (a b : Bool) → (a && b) ≡ true → b ≡ true
both_right true b h = h
both_right false b h = absurd (cc h)

-- an answer to a word that doesn't ask
answered_later : (s : Stage) (heard : Heard) (p : Party) → (s ≡ asks.Asking → ⊥) → IsLater p (course.heard_at s heard p)
answered_later asks.Asking heard p n = absurd (n refl)
answered_later asks.Telling heard p n = record { index = refl; to = refl; ballot = refl; told = λ was is. absurd (cc is) }
answered_later asks.Forgetting heard p n = record { index = refl; to = refl; ballot = refl; told = λ was. was }

heard_later : (ps : List Party) (e : Errand) (heard : Heard) → (e.stage ≡ asks.Asking → ⊥) → AreLater ps (course.heard_by ps e heard)
heard_later ps e heard n = go (slice_get ps e.place) refl
  where
    go : (o : Option Party) → slice_get ps e.place ≡ o → AreLater ps (elim o [ Some p ↦ slice_set ps e.place (course.heard_at e.stage heard p) | None ↦ ps ])
    go (Some p) at = later_set ps e.place p (course.heard_at e.stage heard p) at (answered_later e.stage heard p n)
    go None at = themselves ps

-- where its outcome is fixed
becomes_later : WordsWaitForAnswers → (c later : Course) (fixed : Outcome) → TreeBecomes c later → IsReached c → course.outcome c ≡ Some fixed → AreLater c.parties later.parties
becomes_later waits _ _ fixed (by_word c) r e = go (is_some c.out)
  where
    go : (t : Bool) → AreLater c.parties (if t then c else record c { out = course.errand c }).parties
    go true = themselves c.parties
    go false = themselves c.parties
becomes_later waits _ _ fixed (by_answer c number heard) r e = go c.out refl
  where
    test : (x : Errand) (t : Bool) → c.out ≡ Some x → AreLater c.parties (if t then course.answered heard c x else c).parties
    test x true i = heard_later c.parties x heard (λ s. absurd (cc (sym ((waits c r).asking x i s) ∙ e)))
    test x false i = themselves c.parties

    go : (o : Option Errand) → c.out ≡ o → AreLater c.parties (elim o as (λ x. Course) [ Some x ↦ if same_number number c.number then course.answered heard c x else c | None ↦ c ]).parties
    go (Some x) i = test x (same_number number c.number) i
    go None i = themselves c.parties
becomes_later waits _ _ fixed (by_record c stood) r e = go (course.wants_decision c)
  where
    go : (t : Bool) → AreLater c.parties (if t then record c { stood = Some stood } else c).parties
    go true = themselves c.parties
    go false = themselves c.parties
becomes_later waits _ _ fixed (by_reread c found) r e = go (course.is_doubtful c)
  where
    go : (t : Bool) → AreLater c.parties (if t then record c { reread = Some found } else c).parties
    go true = themselves c.parties
    go false = themselves c.parties
becomes_later waits _ _ fixed (by_rollback c reason) r e = go (course.is_outside reason && course.may_roll_back c)
  where
    go : (t : Bool) → AreLater c.parties (if t then record c { overtaken = Some reason; out = None; number = course.overtaken_number c } else c).parties
    go true = themselves c.parties
    go false = themselves c.parties

-- ---- where the record stands

no_stood : (o : Option Stood) (r : Option (Option ℕ)) (p : ℕ) → is_none o ≡ true → course.record_place o r ≡ Some p → ⊥
no_stood None r p n e = absurd (cc e)
no_stood (Some x) r p n e = absurd (cc n)

no_doubt : (o : Option Stood) (r : Option (Option ℕ)) (p : ℕ) → course.is_unsure o ≡ true → is_none r ≡ true → course.record_place o r ≡ Some p → ⊥
no_doubt o (Some x) p u n e = absurd (cc n)
no_doubt None None p u n e = absurd (cc u)
no_doubt (Some (answers.Stands q)) None p u n e = absurd (cc u)
no_doubt (Some (answers.Full used need)) None p u n e = absurd (cc u)
no_doubt (Some (answers.Unsure why)) None p u n e = absurd (cc e)

unasked : (c : Course) → course.wants_decision c ≡ true → is_none c.stood ≡ true
unasked c h =
    both_right (not (course.decides_alone c) && is_none c.overtaken) (is_none c.stood)
    (both_left (not (course.decides_alone c) && is_none c.overtaken && is_none c.stood) (course.all_consent c)
    (both_left (not (course.decides_alone c) && is_none c.overtaken && is_none c.stood && course.all_consent c) (course.some_commit c) h))

pub becomes_placed : (c later : Course) (p : ℕ) → TreeBecomes c later → course.record_place c.stood c.reread ≡ Some p → course.record_place later.stood later.reread ≡ Some p
becomes_placed _ _ p (by_word c) e = go (is_some c.out)
  where
    go : (t : Bool) → (let d = if t then c else record c { out = course.errand c } in course.record_place d.stood d.reread ≡ Some p)
    go true = e
    go false = e
becomes_placed _ _ p (by_answer c number heard) e = go c.out
  where
    test : (x : Errand) (t : Bool) → (let d = if t then course.answered heard c x else c in course.record_place d.stood d.reread ≡ Some p)
    test x true = e
    test x false = e

    go : (o : Option Errand) → (let d : Course = elim o [ Some x ↦ if same_number number c.number then course.answered heard c x else c | None ↦ c ] in course.record_place d.stood d.reread ≡ Some p)
    go (Some x) = test x (same_number number c.number)
    go None = e
becomes_placed _ _ p (by_record c stood) e = go (course.wants_decision c) refl
  where
    go : (t : Bool) → course.wants_decision c ≡ t → (let d = if t then record c { stood = Some stood } else c in course.record_place d.stood d.reread ≡ Some p)
    go true w = absurd (no_stood c.stood c.reread p (unasked c w) e)
    go false w = e
becomes_placed _ _ p (by_reread c found) e = go (course.is_doubtful c) refl
  where
    go : (t : Bool) → course.is_doubtful c ≡ t → (let d = if t then record c { reread = Some found } else c in course.record_place d.stood d.reread ≡ Some p)
    go true w = absurd (no_doubt c.stood c.reread p (both_left (course.is_unsure c.stood) (is_none c.reread) w) (both_right (course.is_unsure c.stood) (is_none c.reread) w) e)
    go false w = e
becomes_placed _ _ p (by_rollback c reason) e = go (course.is_outside reason && course.may_roll_back c)
  where
    go : (t : Bool) → (let d = if t then record c { overtaken = Some reason; out = None; number = course.overtaken_number c } else c in course.record_place d.stood d.reread ≡ Some p)
    go true = e
    go false = e

-- ---- what it is then

pub record Follows (c : Course) (fixed : Outcome) (d : Course) : Type 0 where
  pub parties : AreLater c.parties d.parties
  pub reached : IsReached d
  pub same : course.outcome d ≡ Some fixed
  pub place : (p : ℕ) → course.record_place c.stood c.reread ≡ Some p → course.record_place d.stood d.reread ≡ Some p

pub follows_itself : (c : Course) (fixed : Outcome) → IsReached c → course.outcome c ≡ Some fixed → Follows c fixed c
follows_itself c fixed r e = record { parties = themselves c.parties; reached = r; same = e; place = λ p i. i }

pub follows_step : WordsWaitForAnswers → TreeOutcomeStays → (c later : Course) (fixed : Outcome) → TreeBecomes c later → IsReached c → course.outcome c ≡ Some fixed → Follows c fixed later
follows_step waits stays c later fixed b r e = record {
  parties = becomes_later waits c later fixed b r e;
  reached = goes_on c later r b;
  same = stays c later fixed r b e;
  place = λ p. becomes_placed c later p b;
}

pub follows_further : (c d e : Course) (fixed : Outcome) → Follows c fixed d → Follows d fixed e → Follows c fixed e
follows_further c d e fixed h k = record {
  parties = further_all c.parties d.parties e.parties h.parties k.parties;
  reached = k.reached;
  same = k.same;
  place = λ p i. k.place p (h.place p i);
}
