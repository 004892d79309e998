-- What a load finds in the records of a disk, and holds of them.
use Rattle.std.proofs.Common.{◌≡◌, ◌⊎◌, inl, inr, ℕ, ◌+◌, ◌==◌, ◌||◌, zero, suc, Bool, true, List, [], ◌∷◌, ◌++◌, length, map, filter_map, replicate, Any, Contains, Option, Some, None, refl, sym, ap, subst, ◌∙◌, arith}
use Rattle.std.specs.List.{AllByRecursion, cons_option, remove}
use Rattle.std.proofs.lemmas.Bool.Decides.{nat_tests}
use Rattle.std.proofs.lemmas.List.{length-replicate}
use Rattle.std.proofs.lemmas.List.Elements.{Contains-append_cases, Contains-append_right, Contains-push_cases}
use Rattle.std.proofs.lemmas.List.Folds.{list_any-from_Any}
use Rattle.ots_model.specs.declared.service.RetryKey.{RetryKey}
use Rattle.decision_journal.specs.Journal.{Found, first_gate, found_in, nothing_found, taken_away, with_record, with_records}
use Rattle.decision_journal.specs.Layout.{record_octets}
use Rattle.decision_journal.specs.declared.journal.Standing.{Standing}
use Rattle.decision_journal.specs.declared.record.JournalRecord.{JournalRecord}
use Rattle.decision_journal.specs.declared.record.JournalRecord.TheVariants.{Life, Decision, Done, Prepared, CellsPrepared, CellsOutcome, CellsOnePhase}
use Rattle.decision_journal.specs.declared.record.Registration.{Registration}
use Rattle.recovery_coord.specs.Held.{held_of, is_decided, loaded, party_of}
use Rattle.recovery_coord.specs.Laws.{registrations_of}
use Rattle.recovery_coord.specs.declared.held.Due.{Due}
use Rattle.recovery_coord.specs.declared.held.Due.TheVariants as due
use Rattle.recovery_coord.specs.declared.held.Held.{Held}
use Rattle.recovery_coord.specs.declared.held.Party.{Party}
use Rattle.coordinator.specs.Family.{Family}
use Rattle.coordinator.specs.Limits.{slot_limit}
use Rattle.coordinator.specs.Node.{family_in, load, in_next_life}
use Rattle.coordinator.specs.NodeParts.{IsWhole}
use Rattle.nodes_world.specs.Agreement.{HoldsDecisions}
use Rattle.nodes_world.specs.AgreementInside.{placed}

-- ---- what stands is a record

pub one_of : {A : Type 0} (x y : A) → Contains (x ∷ []) y → x ≡ y
one_of x y c = elim (Contains-push_cases [] x y c) [
  | inl none ↦ absurd (no none)
  | inr is ↦ is
]
  where
    no : Contains [] y → ⊥
    no (i, less, at) = omega (arith, less)

remove_back : (xs : List Standing) (i : ℕ) (s : Standing) → Contains (remove xs i) s → Contains xs s
remove_back [] zero s c = c
remove_back [] (suc i) s c = c
remove_back (x ∷ xs) zero s c = Contains-append_right (x ∷ []) xs s c
remove_back (x ∷ xs) (suc i) s c = elim (Contains-append_cases (x ∷ []) (remove xs i) s c) [
  | inl first ↦ (0, omega arith, one_of x s first)
  | inr later ↦ Contains-append_right (x ∷ []) xs s (remove_back xs i s later)
]

taken_back : (o : Option ℕ) (xs : List Standing) (s : Standing) → Contains (taken_away o xs) s → Contains xs s
taken_back None xs s c = c
taken_back (Some i) xs s c = remove_back xs i s c

pushed_back : (xs : List Standing) (place : ℕ) (r : JournalRecord) (s : Standing) → Contains (xs ++ record { place = place; item = r } ∷ []) s
    → Contains xs s ⊎ (record { place = place; item = r } ≡ s)
pushed_back xs place r s c = Contains-push_cases xs (record { place = place; item = r }) s c

record_back : (found : Found) (place : ℕ) (r : JournalRecord) (s : Standing) → Contains (with_record found place r).standing s
    → Contains found.standing s ⊎ (record { place = place; item = r } ≡ s)
record_back found place (Life life) s c = inl c
record_back found place (Decision life slot generation by asked regs) s c = pushed_back found.standing place (Decision life slot generation by asked regs) s c
record_back found place (Done named) s c = inl (taken_back _ found.standing s c)
record_back found place (Prepared life slot generation recovery regs) s c = pushed_back found.standing place (Prepared life slot generation recovery regs) s c
record_back found place (CellsPrepared life number recovery ps) s c = pushed_back found.standing place (CellsPrepared life number recovery ps) s c
record_back found place (CellsOutcome named how) s c = pushed_back found.standing place (CellsOutcome named how) s c
record_back found place (CellsOnePhase life number ps) s c = pushed_back found.standing place (CellsOnePhase life number ps) s c

records_back : (found : Found) (place : ℕ) (rs : List JournalRecord) (s : Standing) → Contains (with_records found place rs).standing s
    → Contains found.standing s ⊎ Contains (placed place rs) s
records_back found place [] s c = inl c
records_back found place (r ∷ rs) s c = elim (records_back (with_record found place r) (place + length (record_octets r)) rs s c) [
  | inl old ↦ elim (record_back found place r s old) [
    | inl older ↦ inl older
    | inr is ↦ inr (0, omega arith, is)
  ]
  | inr later ↦ inr (Contains-append_right (record { place = place; item = r } ∷ []) (placed (place + length (record_octets r)) rs) s later)
]

-- what stands is a record, at its place
pub standing_placed : (rs : List JournalRecord) (s : Standing) → Contains (found_in rs).standing s → Contains (placed first_gate rs) s
standing_placed rs s c = elim (records_back nothing_found first_gate rs s c) [
  | inl none ↦ absurd (no none)
  | inr is ↦ is
]
  where
    no : Contains [] s → ⊥
    no (i, less, at) = omega (arith, less)

pub placed_record : (place : ℕ) (rs : List JournalRecord) (s : Standing) → Contains (placed place rs) s → Contains rs s.item
placed_record place [] s (i, less, at) = absurd (omega (arith, less))
placed_record place (r ∷ rs) s c = elim (Contains-append_cases (record { place = place; item = r } ∷ []) (placed (place + length (record_octets r)) rs) s c) [
  | inl first ↦ (0, omega arith, ap (λ (x : Standing). x.item) (one_of (record { place = place; item = r }) s first))
  | inr later ↦ Contains-append_right (r ∷ []) rs s.item (placed_record (place + length (record_octets r)) rs s later)
]

pub standing_record : (rs : List JournalRecord) (s : Standing) → Contains (found_in rs).standing s → Contains rs s.item
standing_record rs s c = placed_record first_gate rs s (standing_placed rs s c)

-- ---- what is held is of what stands

pub recovered_of : (xs : List Standing) (h : Held) → Contains (filter_map loaded xs) h → (s : Standing) × Contains xs s × (loaded s ≡ Some h)
recovered_of [] h (i, less, is) = absurd (omega (arith, less))
recovered_of (x ∷ xs) h c = by (loaded x) refl (recovered_of xs h) c
  where
    by : (o : Option Held) → loaded x ≡ o → (Contains (filter_map loaded xs) h → (s : Standing) × Contains xs s × (loaded s ≡ Some h))
        → Contains (cons_option o (filter_map loaded xs)) h → (s : Standing) × Contains (x ∷ xs) s × (loaded s ≡ Some h)
    by (Some g) is others c = elim (Contains-append_cases (g ∷ []) (filter_map loaded xs) h c) [
      | inl first ↦ (x, (0, omega arith, refl), is ∙ ap (λ (y : Held). Some y) (one_of g h first))
      | inr later ↦ let at = others later in (at.0, Contains-append_right (x ∷ []) xs at.0 at.1, at.2)
    ]
    by None is others c = let at = others c in (at.0, Contains-append_right (x ∷ []) xs at.0 at.1, at.2)

pub recovered_in : (xs : List Standing) (s : Standing) (h : Held) → Contains xs s → loaded s ≡ Some h → Contains (filter_map loaded xs) h
recovered_in [] s h (i, less, at) is = absurd (omega (arith, less))
recovered_in (x ∷ xs) s h c is = elim (Contains-append_cases (x ∷ []) xs s c) [
  | inl first ↦ subst (λ (o : Option Held). Contains (cons_option o (filter_map loaded xs)) h) (sym (ap loaded (one_of x s first) ∙ is)) (0, omega arith, refl)
  | inr later ↦ by (loaded x) (recovered_in xs s h later is)
]
  where
    by : (o : Option Held) → Contains (filter_map loaded xs) h → Contains (cons_option o (filter_map loaded xs)) h
    by (Some g) c = Contains-append_right (g ∷ []) (filter_map loaded xs) h c
    by None c = c

inner_held : (x y : Held) → Some x ≡ Some y → x ≡ y
inner_held x y e = cc

parties_to : (first : Due) (regs : List Registration)
    → map (λ (p : Party). p.to) (map (party_of first [] []) regs) ≡ map (λ (r : Registration). r.reference) regs
parties_to first [] = refl
parties_to first (r ∷ regs) = ap (λ tos. r.reference ∷ tos) (parties_to first regs)

parties_numbers : (first : Due) (regs : List Registration)
    → map (λ (p : Party). p.index) (map (party_of first [] []) regs) ≡ map (λ (r : Registration). r.index) regs
parties_numbers first [] = refl
parties_numbers first (r ∷ regs) = ap (λ numbers. r.index ∷ numbers) (parties_numbers first regs)

abbrev HeldSo : ℕ → JournalRecord → Held → Type 0
HeldSo place item h = (place ≡ h.place) × (map (λ (p : Party). p.to) h.parties ≡ map (λ (r : Registration). r.reference) (registrations_of item))
    × (map (λ (p : Party). p.index) h.parties ≡ map (λ (r : Registration). r.index) (registrations_of item))

pub held_so : (place : ℕ) (item : JournalRecord) (h : Held) → held_of place item [] [] ≡ Some h → HeldSo place item h
held_so place (Life life) h is = absurd cc
held_so place (Decision life slot generation by asked regs) h is =
    subst (HeldSo place (Decision life slot generation by asked regs)) (inner_held _ h is) (refl, parties_to due.Commit regs, parties_numbers due.Commit regs)
held_so place (Done named) h is = absurd cc
held_so place (Prepared life slot generation recovery regs) h is =
    subst (HeldSo place (Prepared life slot generation recovery regs)) (inner_held _ h is) (refl, parties_to due.Nothing regs, parties_numbers due.Nothing regs)
held_so place (CellsPrepared life number recovery ps) h is = absurd cc
held_so place (CellsOutcome named how) h is = absurd cc
held_so place (CellsOnePhase life number ps) h is = absurd cc

-- a decision is held as one, of its family
pub decision_held_as : (place life slot generation : ℕ) (retry : Option RetryKey) (asked : Bool) (regs : List Registration) (h : Held)
    → held_of place (Decision life slot generation retry asked regs) [] [] ≡ Some h
    → (is_decided h.kind ≡ true) × (h.life ≡ life) × (h.slot ≡ slot) × (h.generation ≡ generation)
decision_held_as place life slot generation retry asked regs h is =
    let same = inner_held _ h is in (
      ap (λ (x : Held). is_decided x.kind) (sym same),
      ap (λ (x : Held). x.life) (sym same),
      ap (λ (x : Held). x.slot) (sym same),
      ap (λ (x : Held). x.generation) (sym same),
    )

-- ---- the node

pub no_family : (n k : ℕ) → family_in (replicate n None) k ≡ None
no_family zero k = refl
no_family (suc n) zero = refl
no_family (suc n) (suc k) = no_family n k

all_held : (all xs : List Standing) → ((s : Standing) → Contains xs s → Contains all s)
    → AllByRecursion (λ (r : Held). Any (λ (s : Standing). s.place ≡ r.place) all) (filter_map loaded xs)
all_held all [] among = tt
all_held all (x ∷ xs) among = by (loaded x) refl (all_held all xs (λ s c. among s (Contains-append_right (x ∷ []) xs s c)))
  where
    by : (o : Option Held) → loaded x ≡ o → AllByRecursion (λ (r : Held). Any (λ (s : Standing). s.place ≡ r.place) all) (filter_map loaded xs)
        → AllByRecursion (λ (r : Held). Any (λ (s : Standing). s.place ≡ r.place) all) (cons_option o (filter_map loaded xs))
    by (Some h) is others = let at = among x (0, omega arith, refl) in ((at.0, x, at.1, at.2, (held_so x.place x.item h is).0), others)
    by None is others = others

pub load_whole : (service : ℕ) (rs : List JournalRecord) → IsWhole (load service rs)
load_whole service rs = record {
  slots = let nobody : Option Family = None in length-replicate slot_limit nobody;
  families = λ slot f is. absurd (no (sym is ∙ no_family slot_limit slot));
  last = omega arith;
  numbers = omega arith;
  held = all_held (found_in (in_next_life rs)).standing (found_in (in_next_life rs)).standing (λ s c. c);
}
  where
    no : {x : Family} → Some x ≡ None → ⊥
    no e = cc

same_place : (n : ℕ) → (n == n) ≡ true
same_place n = grind (arith, nat_tests)

pub decision_held : (stood : Standing) (life slot generation : ℕ) (retry : Option RetryKey) (asked : Bool) (regs : List Registration)
    → stood.item ≡ Decision life slot generation retry asked regs → (h : Held) × (loaded stood ≡ Some h) × (h.place ≡ stood.place)
decision_held stood life slot generation retry asked regs is =
    (_, ap (λ (item : JournalRecord). held_of stood.place item [] []) is, refl)

pub load_holds : (place service : ℕ) (rs : List JournalRecord) → HoldsDecisions place (load service rs)
load_holds place service rs = record {
  whole = λ h c.
      let at = recovered_of (found_in (in_next_life rs)).standing h c in
      let so = held_so at.0.place at.0.item h at.2 in
      record { stood = at.0; there = at.1; same_place = so.0; numbers = so.2; references = so.1 };
  held = λ stood life slot generation retry asked regs c is.
      let at = decision_held stood life slot generation retry asked regs is in
      let there = recovered_in (found_in (in_next_life rs)).standing stood at.0 c at.1 in
      or_first _ (list_any-from_Any (λ (r : Held). r.place == stood.place) (filter_map loaded (found_in (in_next_life rs)).standing)
      (there.0, at.0, there.1, there.2, ap (λ (p : ℕ). p == stood.place) at.2 ∙ same_place stood.place));
}
  where
    or_first : {a : Bool} (b : Bool) → a ≡ true → (a || b) ≡ true
    or_first b is = ap (λ x. x || b) is
