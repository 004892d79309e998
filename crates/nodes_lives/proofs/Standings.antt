-- What is told again stands, once a call came to a node.
use Rattle.std.proofs.Common.{◌≡◌, ◌⊎◌, inl, inr, ℕ, zero, suc, ◌<◌, List, [], ◌∷◌, ◌++◌, length, get_or, take, drop, position, Contains, Option, Some, None, sym, ap, subst, ◌∙◌, arith}
use Rattle.std.specs.List.{AllByRecursion, remove}
use Rattle.std.proofs.lemmas.List.Elements.{All-append, All-contains, All-contains_itself, All-drop, All-from_recursion, All-take, Contains-push_cases}
use Rattle.decision_journal.specs.Journal.{Found, is_decision_at, taken_away, with_record}
use Rattle.decision_journal.specs.declared.journal.Standing.{Standing}
use Rattle.decision_journal.specs.declared.record.JournalRecord.{JournalRecord}
use Rattle.decision_journal.specs.declared.record.JournalRecord.TheVariants.{Life, Decision, Done, Prepared, CellsPrepared, CellsOutcome, CellsOnePhase}
use Rattle.recovery_coord.specs.declared.held.Held.{Held}
use Rattle.family_laws.specs.HeldRecords.{IsOfStanding, WasHeld}
use Rattle.family_laws.specs.OwnDecisions.{StandsAt}
use Rattle.family_laws.specs.SoundNode.{AreBefore, AreInOrder}
use Rattle.nodes_lives.specs.Running.{AreStanding}

at : (xs : List Standing) (k : ℕ) (s : Standing) (P : Standing → Type 0) → AllByRecursion P xs → k < length xs → get_or xs k s ≡ s → P s
at xs k s P h l e = All-contains P xs s (All-from_recursion P xs h) (k, l, e)

-- two that stand at one place are the same
once : (xs : List Standing) (i j : ℕ) (s t : Standing) → AreInOrder xs → i < length xs → get_or xs i s ≡ s → j < length xs → get_or xs j t ≡ t → s.place ≡ t.place → s ≡ t
once [] i j s t h l e m g p = absurd (omega (arith, l))
once (x ∷ xs) zero zero s t h l e m g p = sym e ∙ g
once (x ∷ xs) zero (suc j) s t h l e m g p =
    let b = at xs j t (λ (y : Standing). x.place < y.place) h.0 (omega (arith, m)) g in
    let is = ap (λ (y : Standing). y.place) e in
    absurd (omega (arith, b, p, is))
once (x ∷ xs) (suc i) zero s t h l e m g p =
    let b = at xs i s (λ (y : Standing). x.place < y.place) h.0 (omega (arith, l)) e in
    let is = ap (λ (y : Standing). y.place) g in
    absurd (omega (arith, b, p, is))
once (x ∷ xs) (suc i) (suc j) s t h l e m g p = once xs i j s t h.1 (omega (arith, l)) e (omega (arith, m)) g p

taken_there : (o : Option ℕ) (xs : List Standing) (s : Standing) → Contains (taken_away o xs) s → Contains xs s
taken_there None xs s c = c
taken_there (Some i) xs s c =
    All-contains (Contains xs) (remove xs i) s
    (All-append (Contains xs) (take i xs) (drop (suc i) xs) (All-take (Contains xs) i xs (All-contains_itself xs)) (All-drop (Contains xs) (suc i) xs (All-contains_itself xs))) c

pushed : (place : ℕ) (item : JournalRecord) (xs : List Standing) (s : Standing) → Contains (xs ++ record { place = place; item = item } ∷ []) s → Contains xs s ⊎ (s.place ≡ place)
pushed place item xs s c = elim (Contains-push_cases xs (record { place = place; item = item }) s c) [
  | inl was ↦ inl was
  | inr new ↦ inr (ap (λ (x : Standing). x.place) (sym new))
]

-- what stands with one more record stood, or is that
stood_or_new : (found : Found) (place : ℕ) (r : JournalRecord) (s : Standing) → Contains (with_record found place r).standing s → Contains found.standing s ⊎ (s.place ≡ place)
stood_or_new found place (Life life) s c = inl c
stood_or_new found place (Decision life slot generation k asked regs) s c = pushed place (Decision life slot generation k asked regs) found.standing s c
stood_or_new found place (Done named) s c = inl (taken_there (position (is_decision_at named) found.standing) found.standing s c)
stood_or_new found place (Prepared life slot generation recovery regs) s c = pushed place (Prepared life slot generation recovery regs) found.standing s c
stood_or_new found place (CellsPrepared life number recovery ps) s c = pushed place (CellsPrepared life number recovery ps) found.standing s c
stood_or_new found place (CellsOutcome named end) s c = pushed place (CellsOutcome named end) found.standing s c
stood_or_new found place (CellsOnePhase life number ps) s c = pushed place (CellsOnePhase life number ps) found.standing s c

-- with one more record behind the others, what is still held and still has a record has the one that it had
pub standing_with : (found later : Found) (place : ℕ) (r : JournalRecord) (before after : List Held) → later ≡ with_record found place r → AreInOrder found.standing
    → AreBefore place found.standing → AreStanding found before → ((h : Held) → Contains after h → WasHeld before h) → ((h : Held) → Contains after h → StandsAt later.standing h.place)
    → AreStanding later after
standing_with found later place r before after is order behind stand was now h c = record {
  stood = old.stood;
  there = there;
  same_place = same;
  numbers = (was h c).numbers ∙ old.numbers;
  references = (was h c).references ∙ old.references;
}
  where
    old : IsOfStanding found.standing (was h c).before
    old = stand (was h c).before (was h c).there

    same : old.stood.place ≡ h.place
    same = old.same_place ∙ (was h c).same_place

    then : StandsAt later.standing h.place
    then = now h c

    by : Contains found.standing then.stood ⊎ (then.stood.place ≡ place) → Contains later.standing old.stood
    by (inl in_it) =
        subst (Contains later.standing)
        (once found.standing in_it.0 old.there.0 then.stood old.stood order in_it.1 in_it.2 old.there.1 old.there.2 (then.at ∙ sym same)) then.there
    by (inr new) =
        let less = All-contains (λ (s : Standing). s.place < place) found.standing old.stood (All-from_recursion (λ (s : Standing). s.place < place) found.standing behind) old.there in
        let there_at = then.at in
        absurd (omega (arith, less, new, same, there_at))

    there : Contains later.standing old.stood
    there = by (stood_or_new found place r then.stood (subst (λ (f : Found). Contains f.standing then.stood) is then.there))
