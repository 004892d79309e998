-- Short lists that are safe, with several families, or with a subtransaction that is still active.
use Rattle.std.proofs.Common.{◌≡◌, ℕ, inl, inr, List, [], ◌∷◌, ◌++◌, reverse, refl, ap, arith, subst}
use Rattle.ots_model.specs.declared.completion.Word.TheVariants as words
use Rattle.ots_model.specs.declared.line.Line.{Line}
use Rattle.ots_model.specs.declared.line.Line.TheVariants as lines
use Rattle.ots_model.specs.Safe as safe
use Rattle.ots_model.specs.Safe.{IsTop, HasConsented, IsJoined, IsUpFrom, TakesPart, IsDecidedBy, IsDecided, AreSafe}
use Rattle.ots_model.specs.SafeByLine.{AreAllowed}
use Rattle.ots_model.specs.SafeExamples.{node, end, top, below, low, middle, one, other, third, tell, consents, records, registered, goes_on, imported, all_consented, subordinate, alone, told_beside, told_below}
use Rattle.ots_model.proofs.SafeTests.{stands, initial, is_new, can_register, not_joined, joined_itself, up_itself, registered_at, top_at, imported_at, EachRegistration, of_each}
use Rattle.ots_model.proofs.SafePassing.{committed_at, under_top, all_have, consented_at, decided_above, under_imported, committed_in, can_commit, can_commit_alone}
use Rattle.ots_model.proofs.SafePassed.{registered_allowed}
use Rattle.ots_model.proofs.SafeTurned.{allowed_is_safe}

-- families one above the other
made_allowed : AreAllowed (lines.Reg low middle node ∷ lines.Imp low middle node ∷ lines.Reg middle top node ∷ lines.Imp middle top node ∷ lines.Top top node ∷ [])
made_allowed = (can_register low middle _ refl refl, (is_new low _ refl, (can_register middle top _ refl refl, (is_new middle _ refl, (is_new top _ refl, tt)))))

imported_allowed : AreAllowed (reverse imported)
imported_allowed = (can_register third top _ refl refl, (can_register other middle _ refl refl, (can_register one low _ refl refl, made_allowed)))

abbrev all_decided : List Line
all_decided = records top ∷ reverse all_consented

each_consented : EachRegistration (λ g t. HasConsented g all_decided) all_decided
each_consented =
    let h = all_decided in
    (consented_at 1 h third refl, (consented_at 2 h other refl, (consented_at 3 h one refl, (consented_at 5 h low refl, (consented_at 4 h middle refl, tt)))))

pub all_consented_safe : AreSafe (all_consented ++ goes_on top)
all_consented_safe =
    let h = all_decided in
    let is_top : IsTop top h = top_at 13 h top node refl in
    let by_top : IsDecidedBy h top middle = decided_above 12 h top middle top refl refl (inl is_top) (safe.alone (inl is_top)) in
    let by : IsDecidedBy h top low = decided_above 10 h top low middle refl refl (inr (top, imported_at 12 h middle top node refl)) by_top in
    let under = under_imported 8 10 h one low middle top refl refl by in
    allowed_is_safe (tell words.Commit ∷ h) (
      can_commit h one low top refl refl under (all_have h low top (inl refl) each_consented) (committed_in 8 10 h one low middle refl refl),
      (tt, (tt, (tt, (tt, (tt, (tt, imported_allowed)))))),
    )

-- a subordinate
subordinate_allowed : AreAllowed (reverse subordinate)
subordinate_allowed = (tt, (can_register one low _ refl refl, (can_register low top _ refl refl, (is_new low _ refl, (is_new top _ refl, tt)))))

alone_allowed : AreAllowed (reverse alone)
alone_allowed =
    let h = reverse subordinate in
    let up = safe.IsCommittedUp.own top (inl (top_at 4 h top node refl)) in
    (can_commit_alone h low refl refl (top, registered_at 2 h low top node refl, up), subordinate_allowed)

-- that decides alone: its superior's participants aren't waited for
abbrev decided_alone : List Line
decided_alone = records low ∷ reverse alone

abbrev HasIfUnderLow : List ℕ → List ℕ → Type 0
HasIfUnderLow g t = (f : List ℕ) → IsUpFrom decided_alone f low → IsJoined decided_alone f t → HasConsented g decided_alone

top_not_under : (f : List ℕ) → IsUpFrom decided_alone f low → IsJoined decided_alone f top → ⊥
top_not_under f under in_top =
    let at : f ≡ top = joined_itself decided_alone f top refl in_top in
    let same : top ≡ low = up_itself decided_alone top low refl (subst (λ (x : List ℕ). IsUpFrom decided_alone x low) at under) in
    let n : ◌≡◌ {A = ℕ} 116 117 = ap initial same in
    absurd (omega arith)

each_under_low : EachRegistration HasIfUnderLow decided_alone
each_under_low = ((λ f under in_low. consented_at 2 decided_alone one refl), ((λ f under in_top. absurd (top_not_under f under in_top)), tt))

low_consented : (f p : List ℕ) → IsUpFrom decided_alone low f → IsUpFrom decided_alone f low → TakesPart p f decided_alone → HasConsented p decided_alone
low_consented f p up under (t, (e, s), joined) = of_each HasIfUnderLow decided_alone p t e each_under_low s f under joined

pub decided_alone_safe : AreSafe (alone ++ goes_on low)
decided_alone_safe =
    let h = decided_alone in
    let by : IsDecidedBy h low low = safe.alone (inr (2, stands 1 h (lines.Send 2 words.CommitOnePhase low) refl)) in
    let due : IsDecided low low h h = record { recorded = inl refl; consented = low_consented } in
    allowed_is_safe (tell words.Commit ∷ h) (
      can_commit h one low low refl refl (under_imported 3 5 h one low top low refl refl by) due (committed_in 3 5 h one low top refl refl),
      (tt, alone_allowed),
    )

-- that waits for its superior
pub told_below_safe : AreSafe told_below
told_below_safe =
    let h = records top ∷ consents low ∷ reverse subordinate in
    let is_top : IsTop top h = top_at 6 h top node refl in
    let by : IsDecidedBy h top low = decided_above 5 h top low top refl refl (inl is_top) (safe.alone (inl is_top)) in
    let due = all_have h low top (inl refl) (consented_at 2 h one refl, (consented_at 1 h low refl, tt)) in
    allowed_is_safe (tell words.Commit ∷ h) (
      can_commit h one low top refl refl (under_imported 3 5 h one low top top refl refl by) due (committed_in 3 5 h one low top refl refl),
      (tt, (tt, subordinate_allowed)),
    )

-- beside an active subtransaction, whose resource doesn't take part
abbrev decided_beside : List Line
decided_beside = records top ∷ consents one ∷ lines.Reg other below end ∷ lines.Sub below top ∷ reverse registered

abbrev HasIfJoined : List ℕ → List ℕ → Type 0
HasIfJoined g t = (f : List ℕ) → IsJoined decided_beside f t → HasConsented g decided_beside

each_joined : EachRegistration HasIfJoined decided_beside
each_joined =
    ((λ f in_below. absurd (not_joined decided_beside f below refl refl in_below)), ((λ f in_top. consented_at 1 decided_beside one refl), tt))

one_consented : (f p : List ℕ) → IsUpFrom decided_beside top f → IsUpFrom decided_beside f top → TakesPart p f decided_beside → HasConsented p decided_beside
one_consented f p up under (t, (e, s), joined) = of_each HasIfJoined decided_beside p t e each_joined s f joined

pub told_beside_safe : AreSafe told_beside
told_beside_safe =
    let h = decided_beside in
    let due : IsDecided top top h h = record { recorded = inl refl; consented = one_consented } in
    allowed_is_safe (tell words.Commit ∷ h) (
      can_commit h one top top refl refl (under_top 4 5 h one top refl refl) due (committed_at 4 5 h one top refl refl),
      (tt, (tt, (can_register other below _ refl refl, (is_new below _ refl, registered_allowed)))),
    )
