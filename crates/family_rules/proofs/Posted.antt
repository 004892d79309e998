-- A task of a call is told.
use Rattle.std.proofs.Common.{◌≡◌, ◌∙◌, refl, ap, ℕ, zero, suc, ◌+◌, List, [], ◌∷◌, slice_set, Option, Some, None}
use Rattle.ots_model.specs.declared.tree.Outward.{Outward}
use Rattle.family_rules.specs.Calls.{changed_in}
use Rattle.family_rules.specs.Changes.{Changes, DraftParts, so_far}
use Rattle.coordinator.specs.Family.{Family, Call, Duty, call_at, with_call}
use Rattle.coordinator.specs.Moves.{after, outward, sends}
use Rattle.coordinator.specs.Running.{duty_notice}
use Rattle.family_rules.proofs.Moving.{brings_word}

-- of two writes to one place the second counts
set_set : {A : Type 0} (xs : List A) (b : ℕ) (x y : A) → slice_set (slice_set xs b x) b y ≡ slice_set xs b y
set_set [] b x y = refl
set_set (z ∷ xs) zero x y = refl
set_set (z ∷ xs) (suc b) x y = ap (λ (ys : List _). z ∷ ys) (set_set xs b x y)

-- a call that was put with what it has left, and whose first task then goes out
pub tells : (f g : Family) (h : Family) (d k e : DraftParts) (b : ℕ) (c : Call) (duty : Duty)
    → g ≡ with_call b c f → call_at g b ≡ Some c
    → h ≡ changed_in (call_at g b) b c.caller (Some (g.serial + 1)) (record g { serial = g.serial + 1 })
    → k.changes ≡ record d.changes { tasks = k.changes.tasks } → d.changes.words ≡ []
    → e.changes ≡ record k.changes { words = outward g (duty_notice duty) None ∷ [] }
    → so_far h e ≡ after (so_far f d) (sends b c (duty_notice duty) None f)
unfolding sends
tells f g h d k e b c duty put there to kept quiet sent =
    let now : Family = with_call b (record c { out = Some (f.serial + 1) }) (record f { serial = f.serial + 1 }) in
    let waits : h ≡ now =
    to
    ∙ (ap (λ (o : Option Call). changed_in o b c.caller (Some (g.serial + 1)) (record g { serial = g.serial + 1 })) there
    ∙ (ap (λ (x : Family). with_call b (record c { out = Some (x.serial + 1) }) (record x { serial = x.serial + 1 })) put
    ∙ ap (λ (cs : List (Option Call)). record f { calls = cs; serial = f.serial + 1 }) (set_set f.calls b (Some c) (Some (record c { out = Some (f.serial + 1) }))))) in
    let word : outward g (duty_notice duty) None ≡ outward f (duty_notice duty) None = ap (λ (x : Family). outward x (duty_notice duty) None) put in
    let same : so_far h e ≡ so_far h (record d { changes = record d.changes { words = outward f (duty_notice duty) None ∷ [] } }) =
    ap (λ (x : Changes). so_far h (record d { changes = x })) sent
    ∙ (ap (λ (x : Changes). so_far h (record d { changes = record x { words = outward g (duty_notice duty) None ∷ [] } })) kept
    ∙ ap (λ (o : Outward). so_far h (record d { changes = record d.changes { words = o ∷ [] } })) word) in
    same ∙ brings_word f h now d (record d { changes = record d.changes { words = outward f (duty_notice duty) None ∷ [] } }) (outward f (duty_notice duty) None) waits quiet refl
