-- One rule after another, as a family and a draft carry them out.
use Rattle.std.proofs.Common.{◌≡◌, refl, ap, sym, ◌∙◌, ℕ, List, [], ◌∷◌, ◌++◌, Option, append_assoc}
use Rattle.std.proofs.lemmas.List.{append-nil}
use Rattle.ots_model.specs.declared.tree.Outward.{Outward}
use Rattle.coordinator.specs.declared.effect.Effect.{Effect}
use Rattle.coordinator.specs.declared.said.Finished.{Finished}
use Rattle.coordinator.specs.declared.said.Said.{Said}
use Rattle.family_rules.specs.Changes.{Changes, DraftParts, so_far}
use Rattle.coordinator.specs.Family.{Family}
use Rattle.coordinator.specs.Moves.{Moved, only, after, ◌▹◌, shows, answer_to, answers}

-- moves with the same parts are the same
pub same_moved : (f g : Family) (v w : List Outward) (a b : List Finished) (d e : List Effect) → f ≡ g → v ≡ w → a ≡ b → d ≡ e
    → ◌≡◌ {A = Moved} (record { family = f; words = v; finished = a; effects = d }) (record { family = g; words = w; finished = b; effects = e })
same_moved f g v w a b d e p q r s =
    ap (λ (x : Family). record { family = x; words = v; finished = a; effects = d }) p
    ∙ (ap (λ (x : List Outward). record { family = g; words = x; finished = a; effects = d }) q
    ∙ (ap (λ (x : List Finished). record { family = g; words = w; finished = x; effects = d }) r
    ∙ ap (λ (x : List Effect). record { family = g; words = w; finished = b; effects = x }) s))

-- one after another, in either order of putting them together
pub chained : (m : Moved) (first next : Family → Moved) → ((m ▹ first) ▹ next) ≡ (m ▹ (λ f. first f ▹ next))
chained m first next =
    let a : Moved = first m.family in
    let b : Moved = next a.family in
    same_moved b.family b.family _ _ _ _ _ _ refl (simp append_assoc) (simp append_assoc) (simp append_assoc)

-- what a rule made of a family and a draft, part by part
pub moves : (f g : Family) (d e : DraftParts) (m : Moved) → g ≡ m.family → e.changes.words ≡ d.changes.words ++ m.words
    → e.changes.finished ≡ d.changes.finished ++ m.finished → e.changes.effects ≡ d.changes.effects ++ m.effects
    → so_far g e ≡ after (so_far f d) m
moves f g d e m p q r s = same_moved g m.family e.changes.words _ e.changes.finished _ e.changes.effects _ p q r s

-- one rule, and then another
pub then_moves : (f g h : Family) (d e k : DraftParts) (first next : Family → Moved) → so_far g e ≡ (so_far f d ▹ first) → so_far h k ≡ (so_far g e ▹ next)
    → so_far h k ≡ (so_far f d ▹ (λ x. first x ▹ next))
then_moves f g h d e k first next p q = q ∙ (ap (λ (m : Moved). m ▹ next) p ∙ chained (so_far f d) first next)

-- a rule that brings nothing
pub brings_nothing : (f g h : Family) (d e : DraftParts) → g ≡ h → e.changes ≡ d.changes → so_far g e ≡ after (so_far f d) (only h)
brings_nothing f g h d e p q =
    same_moved g h _ _ _ _ _ _ p
    (ap (λ (x : Changes). x.words) q ∙ sym (append-nil d.changes.words))
    (ap (λ (x : Changes). x.finished) q ∙ sym (append-nil d.changes.finished))
    (ap (λ (x : Changes). x.effects) q ∙ sym (append-nil d.changes.effects))

-- one that sends the word of a step
pub brings_word : (f g h : Family) (d e : DraftParts) (w : Outward) → g ≡ h → d.changes.words ≡ [] → e.changes ≡ record d.changes { words = w ∷ [] }
    → so_far g e ≡ after (so_far f d) (record (only h) { words = w ∷ [] })
brings_word f g h d e w p quiet q =
    same_moved g h _ _ _ _ _ _ p
    (ap (λ (x : Changes). x.words) q ∙ ap (λ (x : List Outward). x ++ w ∷ []) (sym quiet))
    (ap (λ (x : Changes). x.finished) q ∙ sym (append-nil d.changes.finished))
    (ap (λ (x : Changes). x.effects) q ∙ sym (append-nil d.changes.effects))

-- one by which something happens
pub brings_effects : (f g h : Family) (d e : DraftParts) (some : List Effect) → g ≡ h → e.changes ≡ record d.changes { effects = d.changes.effects ++ some }
    → so_far g e ≡ after (so_far f d) (shows some h)
brings_effects f g h d e some p q =
    same_moved g h _ _ _ _ _ _ p
    (ap (λ (x : Changes). x.words) q ∙ sym (append-nil d.changes.words))
    (ap (λ (x : Changes). x.finished) q ∙ sym (append-nil d.changes.finished))
    (ap (λ (x : Changes). x.effects) q)

-- one that answers a call
pub brings_answer : (f g h : Family) (d e : DraftParts) (caller : Option ℕ) (said : Said) → g ≡ h
    → e.changes ≡ record d.changes { finished = d.changes.finished ++ answer_to caller said } → so_far g e ≡ after (so_far f d) (answers caller said h)
brings_answer f g h d e caller said p q =
    same_moved g h _ _ _ _ _ _ p
    (ap (λ (x : Changes). x.words) q ∙ sym (append-nil d.changes.words))
    (ap (λ (x : Changes). x.finished) q)
    (ap (λ (x : Changes). x.effects) q ∙ sym (append-nil d.changes.effects))

-- one rule in place of another that makes the same of this family
pub does_as : (f g : Family) (d e : DraftParts) (rule other : Family → Moved) → so_far g e ≡ (so_far f d ▹ rule) → rule f ≡ other f → so_far g e ≡ (so_far f d ▹ other)
does_as f g d e rule other does same = does ∙ ap (λ (m : Moved). after (so_far f d) m) same
