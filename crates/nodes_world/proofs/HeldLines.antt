-- A record that a node comes to hold is one of its disk, and its decision is told.
use Rattle.std.proofs.Common.{◌≡◌, ◌⊎◌, inl, inr, ℕ, ◌+◌, ◌≤◌, ◌==◌, ◌&&◌, ◌||◌, Bool, true, false, is_some, IsTrue, List, [], ◌∷◌, length, Contains, Option, Some, None, refl, sym, ap, subst, ◌∙◌, arith}
use Rattle.std.specs.List.{list_any}
use Rattle.std.specs.Option.{option_and_then, option_map_or}
use Rattle.std.proofs.lemmas.Bool.Decides.{nat_tests}
use Rattle.std.proofs.lemmas.List.Elements.{Contains-append_cases}
use Rattle.std.proofs.lemmas.List.Folds.{Any-from_list_any, list_any-from_Any}
use Rattle.ior_refs.specs.declared.key.ObjectKey.{ObjectKey}
use Rattle.ots_model.specs.Safe.{Stands}
use Rattle.ots_model.specs.declared.completion.Ground.TheVariants.{Record}
use Rattle.ots_model.specs.declared.completion.Outcome.TheVariants as outcomes
use Rattle.ots_model.specs.declared.line.Line.TheVariants as lines
use Rattle.ots_model.specs.declared.service.RetryKey.{RetryKey}
use Rattle.ots_model.specs.Numbered.{Outcome}
use Rattle.decision_journal.specs.Journal.{Found, first_gate, found_in}
use Rattle.decision_journal.specs.Layout.{record_octets}
use Rattle.decision_journal.specs.declared.journal.Standing.{Standing}
use Rattle.decision_journal.specs.declared.record.JournalRecord.{JournalRecord}
use Rattle.decision_journal.specs.declared.record.JournalRecord.TheVariants.{Decision}
use Rattle.decision_journal.specs.declared.record.Registration.{Registration as Named}
use Rattle.recovery_coord.specs.Held.{is_held}
use Rattle.recovery_coord.specs.declared.held.Held.{Held}
use Rattle.coordinator.specs.Family.{Family}
use Rattle.coordinator.specs.Names.{coordinator_kind}
use Rattle.coordinator.specs.Node.{Node, family_of}
use Rattle.family_laws.specs.HeldRecords.{IsOfStanding, WasHeld}
use Rattle.nodes_world.specs.Agreement.{FollowsDisk, IsTransaction, has_record, is_decision_of, recorded_key, records_at}
use Rattle.nodes_world.specs.AgreementInside.{Known, IsHeldAs, OutcomeIsTold, placed}
use Rattle.nodes_world.specs.Journals.{records_on}
use Rattle.nodes_world.specs.Objects.{place_of, service_at}
use Rattle.nodes_world.specs.Told.{Told, known}
use Rattle.nodes_world.specs.World.{World, Seat, family_at, node_at}
use Rattle.nodes_world.proofs.Deeds.{NodeIsUp, node_is_up}
use Rattle.nodes_world.proofs.KnownLines.{among_back, lines_of}
use Rattle.nodes_world.proofs.KnownFamilies.{same_parts, seated}
use Rattle.nodes_world.proofs.LoadedNodes.{one_of, placed_record, standing_placed}

-- ---- records at their places

places_rise : (gate : ℕ) (rs : List JournalRecord) (s : Standing) → Contains (placed gate rs) s → gate ≤ s.place
places_rise gate [] s (i, less, is) = absurd (omega (arith, less))
places_rise gate (r ∷ rs) s c = elim (Contains-append_cases (record { place = gate; item = r } ∷ []) (placed (gate + length (record_octets r)) rs) s c) [
  | inl first ↦ let same = ap (λ (x : Standing). x.place) (one_of (record { place = gate; item = r }) s first) in omega (arith, same)
  | inr later ↦ let less = places_rise (gate + length (record_octets r)) rs s later in omega (arith, less)
]

-- no two stand at one place
pub placed_once : (gate : ℕ) (rs : List JournalRecord) (s t : Standing) → Contains (placed gate rs) s → Contains (placed gate rs) t → s.place ≡ t.place → s ≡ t
placed_once gate [] s t (i, less, is) d same = absurd (omega (arith, less))
placed_once gate (r ∷ rs) s t c d same =
    both (Contains-append_cases (record { place = gate; item = r } ∷ []) (placed (gate + length (record_octets r)) rs) s c)
    (Contains-append_cases (record { place = gate; item = r } ∷ []) (placed (gate + length (record_octets r)) rs) t d)
    (λ one other. placed_once (gate + length (record_octets r)) rs s t one other same)
  where
    first : Standing
    first = record { place = gate; item = r }

    rest : List Standing
    rest = placed (gate + length (record_octets r)) rs

    apart : (x y : Standing) → Contains (first ∷ []) x → Contains rest y → x.place ≡ y.place → ⊥
    apart x y here there is =
        let own = ap (λ (z : Standing). z.place) (one_of first x here) in
        let behind = places_rise (gate + length (record_octets r)) rs y there in
        omega (arith, own, behind, is)

    both : Contains (first ∷ []) s ⊎ Contains rest s → Contains (first ∷ []) t ⊎ Contains rest t → (Contains rest s → Contains rest t → s ≡ t) → s ≡ t
    both (inl one) (inl other) later = sym (one_of first s one) ∙ one_of first t other
    both (inl one) (inr other) later = absurd (apart s t one other same)
    both (inr one) (inl other) later = absurd (apart t s other one (sym same))
    both (inr one) (inr other) later = later one other

-- ---- its decision

module _ (w : World) (told : List Told) (k : Known w told) where
  -- the key of the top-level transaction of a family that is there
  pub key_is : (key : ObjectKey) (f : Family) → family_at w key ≡ Some f → key.kind ≡ coordinator_kind → key.index ≡ 0 → f.key ≡ key
  key_is key f there kind top =
      let old = k.families key f there in
      let own = same_parts key.service key.life key.slot key.generation f.key.service f.key.life f.key.slot f.key.generation (seated w key f there).own in
      same_keys f.key key (k.names.kinds old.name f.key old.of_name ∙ sym kind) (sym own.0) (sym own.1) (sym own.2) (sym own.3) (old.top ∙ sym top)
    where
      same_keys : (a b : ObjectKey) → a.kind ≡ b.kind → a.service ≡ b.service → a.life ≡ b.life → a.slot ≡ b.slot → a.generation ≡ b.generation → a.index ≡ b.index
          → a ≡ b
      same_keys a b one two three four five six =
          ap (λ (x : ℕ). record a { kind = x }) one
          ∙ ap (λ (x : ℕ). record a { kind = b.kind; service = x }) two
          ∙ ap (λ (x : ℕ). record a { kind = b.kind; service = b.service; life = x }) three
          ∙ ap (λ (x : ℕ). record a { kind = b.kind; service = b.service; life = b.life; slot = x }) four
          ∙ ap (λ (x : ℕ). record a { kind = b.kind; service = b.service; life = b.life; slot = b.slot; generation = x }) five
          ∙ ap (λ (x : ℕ). record a { kind = b.kind; service = b.service; life = b.life; slot = b.slot; generation = b.generation; index = x }) six

  -- a line tells the decision of a record
  abbrev pub IsDecidedBy : ℕ → ℕ → ℕ → ℕ → Type 0
  IsDecidedBy place life slot generation =
      (name : List ℕ) × IsTransaction w name (recorded_key place life slot generation)
      × Stands (lines.Decide name (outcomes.Commit Record)) (known told)

  -- that of a family that is there does
  there_told : (place life slot generation : ℕ) (retry : Option RetryKey) (asked : Bool) (regs : List Named) (rs : List JournalRecord) (f : Family)
      → records_at w place ≡ Some rs → Contains rs (Decision life slot generation retry asked regs)
      → family_at w (recorded_key place life slot generation) ≡ Some f → IsDecidedBy place life slot generation
  there_told place life slot generation retry asked regs rs f held among there =
      let key : ObjectKey = recorded_key place life slot generation in
      let old = k.families key f there in
      let own : f.key ≡ key = key_is key f there refl refl in
      let at : place_of key ≡ place = omega arith in
      let has : IsTrue (has_record w (place_of f.key) (is_decision_of f.key)) =
      ap (λ (x : ObjectKey). has_record w (place_of x) (is_decision_of x)) own
      ∙ ap (λ (o : Option (List JournalRecord)). option_map_or (λ (ps : List JournalRecord). list_any (is_decision_of key) ps) o false) (ap (records_at w) at ∙ held)
      ∙ list_any-from_Any (is_decision_of key) rs (among.0, Decision life slot generation retry asked regs, among.1, among.2, own_three life slot generation) in
      let commits = old.recorded.0 has in (
        old.name,
        subst (IsTransaction w old.name) own old.of_name,
        among_back (known told) _ (subst (λ (o : Option Outcome). OutcomeIsTold o old.name (lines_of told)) commits old.outcome),
      )
    where
      own_three : (a b c : ℕ) → IsTrue (a == a && b == b && c == c)
      own_three a b c = grind (arith, nat_tests)

  module _ (place : ℕ) (n : Node) (up : node_at w place ≡ Some n) (rs : List JournalRecord) (held : records_at w place ≡ Some rs) where
    at : NodeIsUp w place n
    at = node_is_up w place n up

    follows : FollowsDisk place at.seat n
    follows = k.disks.follows place at.seat n at.there at.up

    pub found_is : n.found ≡ found_in rs
    found_is = follows.found ∙ ap found_in (same (sym (ap (λ (o : Option Seat). option_and_then (λ (s : Seat). records_on (service_at place) s.disk) o) at.there ∙ follows.held) ∙ held))
      where
        same : {a b : List JournalRecord} → Some a ≡ Some b → a ≡ b
        same e = cc

    placed_there : (stood : Standing) → Contains n.found.standing stood → Contains (placed first_gate rs) stood
    placed_there stood among = standing_placed rs stood (subst (λ (found : Found). Contains found.standing stood) found_is among)

    same_number : (a b : ℕ) → (a == b) ≡ true → a ≡ b
    same_number a b is = grind (arith, nat_tests)

    -- a decision that stands is told
    pub stood_told : (stood : Standing) → Contains n.found.standing stood → (life slot generation : ℕ) (retry : Option RetryKey) (asked : Bool) (regs : List Named)
        → stood.item ≡ Decision life slot generation retry asked regs → IsDecidedBy place life slot generation
    stood_told stood among life slot generation retry asked regs is =
        by (is_held stood.place n.recovered) refl (family_of (recorded_key place life slot generation) n) refl
        ((k.disks.decisions place at.seat n at.there at.up).held stood life slot generation retry asked regs among is)
      where
        by_held : is_held stood.place n.recovered ≡ true → IsDecidedBy place life slot generation
        by_held so =
            let some = Any-from_list_any (λ (r : Held). r.place == stood.place) n.recovered so in
            let old = (k.nodes place n up).held rs some.1 held (some.0, some.2, some.3) in
            let same : old.stood ≡ stood = placed_once first_gate rs old.stood stood old.there (placed_there stood among)
            (old.same_place ∙ same_number some.1.place stood.place some.4) in
            old.line life slot generation retry asked regs (ap (λ (x : Standing). x.item) same ∙ is)

        by_family : (f : Family) → family_of (recorded_key place life slot generation) n ≡ Some f → IsDecidedBy place life slot generation
        by_family f found =
            let own : place_of (recorded_key place life slot generation) ≡ place = omega arith in
            there_told place life slot generation retry asked regs rs f held
            (subst (Contains rs) is (placed_record first_gate rs stood (placed_there stood among)))
            (ap (option_and_then (family_of (recorded_key place life slot generation))) (ap (node_at w) own ∙ up) ∙ found)

        by : (a : Bool) → is_held stood.place n.recovered ≡ a → (o : Option Family) → family_of (recorded_key place life slot generation) n ≡ o → (a || is_some o) ≡ true
            → IsDecidedBy place life slot generation
        by true so o found either = by_held so
        by false so (Some f) found either = by_family f found
        by false so None found either = absurd cc

    -- so is what was held, and what comes to be held of those that stand
    pub held_as : (h : Held) → WasHeld n.recovered h ⊎ IsOfStanding n.found.standing h → IsHeldAs w told place rs h
    held_as h (inl was) =
        let old = (k.nodes place n up).held rs was.before held was.there in
        record {
          stood = old.stood;
          there = old.there;
          same_place = old.same_place ∙ was.same_place;
          numbers = was.numbers ∙ old.numbers;
          references = was.references ∙ old.references;
          line = old.line;
        }
    held_as h (inr stands) = record {
      stood = stands.stood;
      there = placed_there stands.stood stands.there;
      same_place = stands.same_place;
      numbers = stands.numbers;
      references = stands.references;
      line = stood_told stands.stood stands.there;
    }
